-- What the books are after a deed: everything follows from its events and changes.
use Rattle.std.specs.Prelude.{ℕ, ◌+◌, Bool, false, List, ◌++◌, length, map, fold, take, replicate, slice_set}
use Rattle.fc_base.specs.Pools.{Pool, pool_without}
use Rattle.fc_base.specs.Room.{rooms_after}
use Rattle.fc_base.specs.Sheet.{Sheet, slot_at, mapping_place}
use Rattle.fc_base.specs.SheetStep.{sheet_step, at_place}
use Rattle.fc_base.specs.Tables.{after_change}
use Rattle.fc_base.specs.declared.decision.LaneEvent.{LaneEvent}
use Rattle.fc_base.specs.declared.decision.LaneEvent.TheVariants.{Make, Trigger, Forget, Work}
use Rattle.fc_base.specs.declared.request.Pair.{Pair}
use Rattle.fc_base.specs.declared.volume.Change.{Change}
use Rattle.fc_base.specs.declared.volume.Change.TheVariants.{AddVolume, AddMapping, AddGroup}
use Rattle.fc_books.specs.Books.{Books, Deed}
use Rattle.fc_pick.specs.Flags.{with_flags, without_flags}
use Rattle.fc_pick.specs.declared.work.WorkFlags.{WorkFlags}

-- ---- changes

-- The tables change, and an id that was given is never given again.
abbrev pub count_given : Change → Books → Books
count_given (AddVolume volume) b = record b { next_volume = volume.id.0 + 1 }
count_given (AddMapping mapping) b = record b { next_mapping = mapping.id.0 + 1 }
count_given (AddGroup group) b = record b { next_group = group.id.0 + 1 }
count_given change b = b

abbrev pub after_table_change : Books → Change → Books
after_table_change b change = count_given change (record b { tables = after_change b.tables change })

-- ---- events

-- A set as a list of so many truth values.
abbrev pub of_length : ℕ → List Bool → List Bool
of_length n set = take n (set ++ replicate n false)

-- The slot at a place holds these grains.
abbrev pub holding : List Bool → ℕ → Sheet → Sheet
holding set k s =
    let slot = slot_at s.slots k in
    record s { slots = slice_set s.slots k (record slot { held = of_length (length slot.held) set }) }

-- The new slot of a started mapping holds the mapping's restart set.
abbrev pub begun : (ℕ → List Bool) → Sheet → Pair → Sheet
begun restarts s p = at_place (holding (restarts p.map.0)) (mapping_place s.slots p.map.0) s

-- The chains of all grains after an event. `restarts` gives each mapping's restart set.
abbrev pub sheet_after : (ℕ → List Bool) → Sheet → LaneEvent → Sheet
sheet_after restarts s (Trigger pairs) = fold (begun restarts) (sheet_step (λ grains. grains) s (Trigger pairs)) pairs
sheet_after restarts s event = sheet_step (λ grains. grains) s event

-- The mappings with background work.
abbrev pub flags_after : List WorkFlags → LaneEvent → List WorkFlags
flags_after flags (Work m copies cleans) = with_flags record { map = m; copies = copies; cleans = cleans } flags
flags_after flags (Forget m) = without_flags m flags
flags_after flags event = flags

-- The disks left: a volume takes one in each lane.
abbrev pub pools_after : List Pool → LaneEvent → List Pool
pools_after pools (Make volume grains kind) = map (pool_without kind) pools
pools_after pools event = pools

abbrev pub after_event : (ℕ → List Bool) → Books → LaneEvent → Books
after_event restarts b event =
    record b {
      sheet = sheet_after restarts b.sheet event;
      flags = flags_after b.flags event;
      pools = pools_after b.pools event;
      rooms = rooms_after (λ grains. grains) b.rooms event;
    }

-- ---- all

abbrev pub after_all : (ℕ → List Bool) → List LaneEvent → List Change → Books → Books
after_all restarts events changes b = fold (after_event restarts) (fold after_table_change b changes) events

abbrev pub after_deed : (ℕ → List Bool) → Books → Deed → Books
after_deed restarts b deed = after_all restarts deed.events deed.changes b
