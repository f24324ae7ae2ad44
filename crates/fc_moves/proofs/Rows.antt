-- The definitions on small examples whose moves are known.
use Rattle.std.proofs.Common.{◌≡◌, ℕ, Bool, true, false, Option, Some, None, List, [], ◌∷◌, map, refl}
use Rattle.fc_base.specs.declared.request.Pair.{Pair}
use Rattle.fc_base.specs.declared.request.Move.{Move}
use Rattle.fc_base.specs.Column.{last_below, first_below, holder, first_reader, needer, places_by_birth, old_slots}
use Rattle.fc_base.specs.Moves.{is_in_place, asks, next_behind, write_asks, list_with_asked, list_all_with_asked, fill_moves, write_moves}
use Rattle.fc_base.specs.Sheet.{Slot, Sheet, no_slots, column, live_place, mapping_place, birth_place}
use Rattle.fc_base.specs.Plan.{moves_of_write, moves_of_fill}
use Rattle.fc_base.specs.SheetStep.{made, triggered, at_place, retired_at, split_at, forced_map, sheet_moved, sheet_written}

-- ---- how the examples are written

abbrev pair : ℕ → ℕ → ℕ → Pair
pair m source target = record { map = record { 0 = m }; source = record { 0 = source }; target = record { 0 = target }; incremental = false }

abbrev start : ℕ → ℕ → ℕ → Sheet → Sheet
start m source target s = triggered (pair m source target ∷ []) s

-- the births of the slots that a write or a fill moves, each with its mark
abbrev told : List Move → List (ℕ × Bool)
told ms = map (λ (m : Move). (m.slot.0, m.in_place)) ms

abbrev writes : Sheet → ℕ → ℕ → List (ℕ × Bool)
writes s v g = told (moves_of_write s.slots g g (live_place s.slots v))

abbrev fills_at : Sheet → ℕ → Option ℕ → List (ℕ × Bool)
fills_at s g None = []
fills_at s g (Some k) = told (moves_of_fill s.slots g g k)

abbrev fills : Sheet → ℕ → ℕ → List (ℕ × Bool)
fills s m g = fills_at s g (mapping_place s.slots m)

-- the sheet after the moves of a write and the write
abbrev all_moved : List Move → ℕ → Sheet → Sheet
all_moved [] g s = s
all_moved (m ∷ ms) g s = all_moved ms g (sheet_moved m.volume.0 g m.in_place s)

abbrev write : ℕ → ℕ → Sheet → Sheet
write v g s = sheet_written v g (all_moved (moves_of_write s.slots g g (live_place s.slots v)) g s)

abbrev fill_at : ℕ → Option ℕ → Sheet → Sheet
fill_at g None s = s
fill_at g (Some k) s = all_moved (moves_of_fill s.slots g g k) g s

abbrev fill : ℕ → ℕ → Sheet → Sheet
fill m g s = fill_at g (mapping_place s.slots m) s

-- all definitions open
opened : ℕ
unfolding last_below first_below holder first_reader places_by_birth old_slots is_in_place asks next_behind write_asks list_with_asked list_all_with_asked fill_moves write_moves live_place mapping_place birth_place
opened = 0

-- ---- two targets of one source

two_targets : Sheet
two_targets = start 1 0 2 (start 0 0 1 (made 2 1 (made 1 1 (made 0 1 no_slots))))

-- a write of the source copies to its newest target alone
newest_alone : writes two_targets 0 0 ≡ (4, false) ∷ []
unfolding opened two_targets
newest_alone = refl

-- then a write of that target copies to the older one
older_next : writes (write 0 0 two_targets) 2 0 ≡ (3, false) ∷ []
unfolding opened two_targets
older_next = refl

-- ---- a cascade of four volumes

cascade : Sheet
cascade = start 2 2 3 (start 1 1 2 (start 0 0 1 (made 3 1 (made 2 1 (made 1 1 (made 0 1 no_slots))))))

middle_writes : writes cascade 1 0 ≡ (5, false) ∷ []
unfolding opened cascade
middle_writes = refl

-- ---- a stopped target that is cleaned

half_copied : Sheet
half_copied = write 0 0 (start 1 1 2 (start 0 0 1 (made 2 2 (made 1 2 (made 0 2 no_slots)))))

half_stopped : Sheet
half_stopped = at_place retired_at (mapping_place half_copied.slots 0) half_copied

source_writes : writes (start 1 1 2 (start 0 0 1 (made 2 2 (made 1 2 (made 0 2 no_slots))))) 0 0 ≡ (3, false) ∷ []
unfolding opened
source_writes = refl

-- the needer of the stopped slot is filled, and then nobody needs it
abbrev needer_at : Sheet → ℕ → Option ℕ → Option ℕ
needer_at s g None = None
needer_at s g (Some k) = needer (column s.slots g) k

abbrev needers : Sheet → ℕ → ℕ → Option ℕ
needers s birth g = needer_at s g (birth_place s.slots birth)

cleaned : fills half_stopped 1 0 ≡ (4, false) ∷ []
unfolding opened half_copied half_stopped
cleaned = refl

needed_before : needers half_stopped 3 0 ≡ Some 2
unfolding opened half_copied half_stopped
needed_before = refl

needed_after : needers (fill 1 0 half_stopped) 3 0 ≡ None
unfolding opened half_copied half_stopped
needed_after = refl

-- ---- a complete target that is stopped, and one that is split

copied : Sheet
copied = fill 0 0 cascade

copying : fills cascade 0 0 ≡ (4, false) ∷ []
unfolding opened cascade
copying = refl

complete_stopped : Sheet
complete_stopped = at_place retired_at (mapping_place copied.slots 0) copied

-- a write of the stopped volume copies to the one that still needs its copy
stopped_writes : writes complete_stopped 1 0 ≡ (5, false) ∷ []
unfolding opened cascade copied complete_stopped
stopped_writes = refl

split : Sheet
split = at_place split_at (mapping_place copied.slots 0) copied

-- after a split the source's write copies nothing, and the target's write as before
split_source_writes : writes split 0 0 ≡ []
unfolding opened cascade copied split
split_source_writes = refl

split_target_writes : writes (write 0 0 split) 1 0 ≡ (5, false) ∷ []
unfolding opened cascade copied split
split_target_writes = refl

-- ---- a target that was copied by its source's write, and then stopped

stopped_incomplete : Sheet
stopped_incomplete = at_place retired_at (mapping_place (write 0 0 cascade).slots 0) (write 0 0 cascade)

stopped_incomplete_writes : writes stopped_incomplete 1 0 ≡ (5, false) ∷ []
unfolding opened cascade stopped_incomplete
stopped_incomplete_writes = refl

-- ---- a restored volume

restored : Sheet
restored = start 1 1 0 (write 0 0 (start 0 0 1 (made 1 1 (made 0 1 no_slots))))

restored_plain : Sheet
restored_plain = start 1 1 0 (start 0 0 1 (made 1 1 (made 0 1 no_slots)))

-- the restored volume gets its own grain in place
in_place : fills restored_plain 1 0 ≡ (3, true) ∷ []
unfolding opened restored_plain
in_place = refl

-- a write of it copies first to the volume that needs its older slot
restored_writes : writes (fill 1 0 restored_plain) 0 0 ≡ (2, false) ∷ []
unfolding opened restored_plain
restored_writes = refl

-- ---- a restored source with another target: both are copied to, the needer of the older slot first

two_movers : Sheet
two_movers = start 2 0 2 (start 1 1 0 (start 0 0 1 (made 2 1 (made 1 1 (made 0 1 no_slots)))))

both_move : writes two_movers 0 0 ≡ (3, false) ∷ (5, false) ∷ []
unfolding opened two_movers
both_move = refl

-- ---- a forced stop takes the dependents too

forced_from : Sheet
forced_from = write 0 0 (start 2 2 3 (start 1 1 2 (start 0 0 1 (made 3 2 (made 2 2 (made 1 2 (made 0 2 no_slots)))))))

forced : Sheet
forced = forced_map (forced_map (forced_map forced_from (record { 0 = 0 })) (record { 0 = 1 })) (record { 0 = 2 })

-- every volume stands in a chain of its own
forced_chains : map {B = ℕ × ℕ} (λ (t : Slot). (t.birth, t.volume)) forced.slots ≡ (0, 0) ∷ (7, 1) ∷ (8, 2) ∷ (9, 3) ∷ []
unfolding opened forced forced_from
forced_chains = refl

-- ---- a stop of two targets, one after the other

stopped_group : Sheet
stopped_group = start 2 1 3 (triggered (pair 0 0 1 ∷ pair 1 0 2 ∷ []) (made 3 3 (made 2 3 (made 1 3 (made 0 3 no_slots)))))

group_writes_first : writes stopped_group 0 0 ≡ (5, false) ∷ []
unfolding opened stopped_group
group_writes_first = refl

group_writes_second : writes (write 0 0 stopped_group) 2 1 ≡ (4, false) ∷ []
unfolding opened stopped_group
group_writes_second = refl

group_written : Sheet
group_written = write 3 0 (write 2 1 (write 0 0 stopped_group))

group_writes_third : writes (write 2 1 (write 0 0 stopped_group)) 3 0 ≡ []
unfolding opened stopped_group
group_writes_third = refl

-- the first is needed and becomes old; then nobody needs the second
first_needed : needers group_written 4 1 ≡ Some 3
unfolding opened stopped_group group_written
first_needed = refl

second_needed : needers group_written 5 0 ≡ Some 2
unfolding opened stopped_group group_written
second_needed = refl

first_stopped : Sheet
first_stopped = at_place retired_at (mapping_place group_written.slots 0) group_written

second_free : (needers first_stopped 5 0 ≡ None) × (needers first_stopped 5 1 ≡ None) × (needers first_stopped 5 2 ≡ None)
unfolding opened stopped_group group_written first_stopped
second_free = (refl, refl, refl)
