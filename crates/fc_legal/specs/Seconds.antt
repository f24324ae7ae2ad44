-- Seconds that pass: the background copies and cleanings that they bring, at the rates of the mappings.
use Rattle.std.specs.Prelude.{ℕ, zero, suc, ◌+◌, ◌-◌, ◌^◌, min, Bool, true, false, cond, nat_le, filter, map, List, [], ◌∷◌, ◌++◌, Option, Some, None, is_some, option_map}
use Rattle.fc_base.specs.Grain.{grain_kib}
use Rattle.fc_base.specs.Rates.{kib_of_rate}
use Rattle.fc_base.specs.Sheet.{Slot}
use Rattle.fc_base.specs.declared.ids.GrainNo.{GrainNo}
use Rattle.fc_base.specs.declared.ids.MapId.{MapId}
use Rattle.fc_base.specs.declared.request.Reply.{Reply}
use Rattle.fc_base.specs.declared.request.Reply.TheVariants.{Moved}
use Rattle.fc_base.specs.declared.request.Request.{Request}
use Rattle.fc_base.specs.declared.request.Request.TheVariants.{Copy, Clean}
use Rattle.fc_base.specs.declared.size.GrainSize.{GrainSize}
use Rattle.fc_base.specs.declared.volume.Mapping.{Mapping}
use Rattle.fc_books.specs.Books.{Books}
use Rattle.fc_books.specs.Work.{has_copies, has_cleans}
use Rattle.fc_entry.specs.declared.entry.Entry.{Entry}
use Rattle.fc_legal.specs.Whole.{Whole, single_lane}
use Rattle.fc_rules.specs.LaneTurn.{copied_slot, cleaned_slot, least_grain}

-- ---- background work

-- The copies or the cleanings of a mapping, what a second is worth to them, and their credit, both in KiB.
pub record Work : Type 0 where
  pub map : MapId
  pub cleans : Bool
  pub gain : ℕ
  pub credit : ℕ

abbrev pub copies_of : Mapping → Work
copies_of m = record { map = m.id; cleans = false; gain = kib_of_rate m.copy_rate; credit = 0 }

abbrev pub cleanings_of : Mapping → Work
cleanings_of m = record { map = m.id; cleans = true; gain = kib_of_rate m.clean_rate; credit = 0 }

-- By the flags: all copies by mapping id, and then all cleanings. All credits are 0.
unfoldable pub all_work : Books → List Work
all_work b =
    map copies_of (filter (has_copies b) b.tables.mappings) ++ map cleanings_of (filter (has_cleans b) b.tables.mappings)

-- The slot that is filled by this work at a grain, if it has something to do there.
abbrev pub filled_by : Bool → List Slot → ℕ → ℕ → Option ℕ
filled_by cleans slots m g = cond cleans (cleaned_slot slots m g) (copied_slot slots m g)

-- The least grain of all lanes at which it has something to do.
unfoldable pub next_grain : GrainSize → Whole → Work → Option GrainNo
next_grain grain w work =
    least_grain (single_lane grain) w.books.sheet.slots (filled_by work.cleans w.books.sheet.slots work.map.0) work.map.0

abbrev pub fill_of : Work → GrainNo → Request
fill_of work g = cond work.cleans (Clean work.map g) (Copy work.map g)

-- A second adds to the credit, which stops at 2^64 - 1; a grain costs its size; and the credit is lost where nothing is left
-- to do.
abbrev pub gained : Work → Work
gained work = record work { credit = min (work.credit + work.gain) (2 ^ 64 - 1) }

abbrev pub spent : GrainSize → Work → Work
spent grain work = record work { credit = work.credit - grain_kib grain }

abbrev pub saved : GrainSize → Whole → Work → Work
saved grain w work = record work { credit = cond (is_some (next_grain grain w work)) work.credit 0 }

-- ---- how the seconds pass

-- How many seconds are left behind this one; of this one, the work that is over, the work at hand, and the work that is left.
pub record Passing : Type 0 where
  pub seconds : ℕ
  pub over : List Work
  pub at_hand : Option Work
  pub left : List Work

-- Before the first second.
abbrev pub seconds_begun : ℕ → List Work → Passing
seconds_begun seconds works = record { seconds = seconds; over = works; at_hand = None; left = [] }

-- The work at hand goes on as long as its credit is worth a grain and it has something to do.
abbrev pub fill_at_hand : GrainSize → Whole → Option Work → Option (Work × GrainNo)
fill_at_hand grain w None = None
fill_at_hand grain w (Some work) =
    cond (nat_le (grain_kib grain) work.credit) (option_map (λ g. (work, g)) (next_grain grain w work)) None

abbrev pub next_fill : GrainSize → Whole → Passing → Option (Work × GrainNo)
next_fill grain w p = fill_at_hand grain w p.at_hand

-- Else it is over for this second, and the next work gains its second; with none left the next second begins, if one is left.
abbrev pub next_second : ℕ → List Work → List Work → Option Passing
next_second seconds over (work ∷ left) = Some record { seconds = seconds; over = over; at_hand = Some (gained work); left = left }
next_second zero over [] = None
next_second (suc seconds) over [] = Some record { seconds = seconds; over = []; at_hand = None; left = over }

abbrev pub goes_on_with : GrainSize → Whole → Passing → Option Work → Option Passing
goes_on_with grain w p None = next_second p.seconds p.over p.left
goes_on_with grain w p (Some work) = Some record p { over = p.over ++ saved grain w work ∷ []; at_hand = None }

abbrev pub goes_on : GrainSize → Whole → Passing → Option Passing
goes_on grain w p = goes_on_with grain w p p.at_hand

-- A fill costs a grain; one that moved nothing ends the second of its work.
abbrev pub has_moved : Reply → Bool
has_moved (Moved map grain) = true
has_moved reply = false

abbrev pub after_fill : GrainSize → Whole → Passing → Work → Entry → Passing
after_fill grain next p work entry =
    cond (has_moved entry.reply)
    (record p { at_hand = Some (spent grain work) })
    (record p { over = p.over ++ saved grain next (spent grain work) ∷ []; at_hand = None })
