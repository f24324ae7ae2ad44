-- A whole history on the disks, entry by entry.
use Rattle.std.specs.Prelude.{◌≡◌, ℕ, ◌<◌, List, [], ◌∷◌, ◌++◌, length, Contains, Option, None}
use Rattle.fc_base.specs.declared.command.Command.{Command}
use Rattle.fc_base.specs.declared.request.Request.{Request}
use Rattle.fc_base.specs.declared.request.Request.TheVariants.{Command as Asked, Copy, Clean, CopyTurn, CleanTurn}
use Rattle.fc_base.specs.declared.request.Torn.{Torn}
use Rattle.fc_base.specs.declared.size.GrainSize.{GrainSize}
use Rattle.fc_base.specs.declared.volume.Volume.{Volume}
use Rattle.fc_changed.specs.Row.{Row}
use Rattle.fc_entry.specs.declared.entry.Entry.{Entry}
use Rattle.fc_legal.specs.Steps.{Step, after_access, one_more}
use Rattle.fc_legal.specs.Whole.{Whole, single_lane}
use Rattle.fc_parts.specs.Law.{IsInVolume}
use Rattle.fc_rules.specs.Steps.{DiskStep}
use Rattle.fc_kept.specs.Disks.{NamedDisk}
use Rattle.fc_kept.specs.Kept.{Kept}
use Rattle.fc_kept.specs.Marks.{LeastLeft, asked_write, least_entry}
use Rattle.fc_kept.specs.OneGrain.{Another}
use Rattle.fc_kept.specs.Prefix.{AreStepsOf}
use Rattle.fc_kept.specs.Recoverable.{Says}
use Rattle.law_crash.specs.Points.{Point, on_disks}
use Rattle.law_crash.specs.Doing.{number_of, actions_of_steps, with_disks, Did, Finds, Stopped, Tells}
use Rattle.law_crash.specs.Leaving.{AreFit, AreUnnamed, HaveTheirDisks, Leaves}

-- Between two entries disks may get the names of volumes that came, and lose those of volumes that went: the grains of each volume stay
-- as they are.
pub record StayAs (grain : GrainSize) (w : Whole) (old new : List (List NamedDisk)) : Type 0 where
  pub count : length new ≡ length old
  pub same : (v : Volume) → Contains w.books.tables.volumes v → (g : ℕ) → g < v.grains →
      on_disks grain w new v.id.0 g ≡ on_disks grain w old v.id.0 g
  pub fit : AreFit grain w new
  pub unnamed : AreUnnamed w new

-- What an entry is of: its request, or the copy or the cleaning that a worker's turn takes.
abbrev pub Takes : Request → Request → Type 0
Takes (CopyTurn lane) (Copy m g) = Unit {0}
Takes (CleanTurn lane) (Clean m g) = Unit {0}
Takes request work = work ≡ request

-- An entry leads to a whole, to least rows, and to what stands on the disks behind it.
pub data Does (grain : GrainSize) (w : Whole) (least : List Row) (p : Point) (entry : Entry) : Whole → List Row → Point → Type 0 where
  -- one of no lane does nothing
  refused : asked_write entry.request ≡ None → Does grain w least p entry (one_more w) least p
  -- an access without steps neither, as a read
  read : (i : ℕ) → Tells entry.request None [] None entry →
      Does grain w least p entry (after_access grain w i entry) (least_entry (single_lane grain) least entry) p
  -- all steps of an access are done
  whole : (i : ℕ) (work : Request) (steps : List DiskStep) (q : Point) → Takes entry.request work → IsInVolume grain w work →
      AreStepsOf grain w work steps → Did grain w work w.books.sheet (actions_of_steps p.kept.rows (number_of grain work) steps) p q →
      Tells entry.request (asked_write entry.request) steps None entry →
      Does grain w least p entry (after_access grain w i entry) (least_entry (single_lane grain) least entry) q
  -- or one of them stopped
  stopped : (i : ℕ) (work : Request) (front back : List DiskStep) (step : DiskStep) (torn : Option Torn) (q : Point) →
      Takes entry.request work → IsInVolume grain w work → AreStepsOf grain w work (front ++ step ∷ back) → Stopped grain w work p.kept.rows front step torn p q →
      Tells entry.request None front torn entry →
      Does grain w least p entry (after_access grain w i entry) (least_entry (single_lane grain) least entry) q
  -- a command has metadata made anew, where each volume has its disk
  commanded : (command : Command) (left : Whole) (least' : List Row) (kept : Kept) → entry.request ≡ Asked command →
      HaveTheirDisks w p.disks → Leaves grain w least p.kept command left least' kept →
      Does grain w least p entry (one_more left) least' (record p { kept = kept })
  -- or leaves it as it is, where that says so much of what the command leaves, as where it has no action
  unchanged : (command : Command) (left : Whole) (least' : List Row) → entry.request ≡ Asked command → LeastLeft grain w least command left least' →
      Says grain p.disks p.kept left least' → Does grain w least p entry (one_more left) least' p

-- Right entries, each done on what the last one left.
pub data Run (grain : GrainSize) (w : Whole) (least : List Row) (p : Point) : List Entry → Whole → List Row → Point → Type 0 where
  begun : Run grain w least p [] w least p
  more : (entries : List Entry) (now : Whole) (least_now : List Row) (x : Point)
      (entry : Entry) (next : Whole) (least' : List Row) (q : Point) →
      Run grain w least p entries now least_now x → Step grain now entry next → Does grain now least_now x entry next least' q →
      Run grain w least p (entries ++ entry ∷ []) next least' q
  named : (entries : List Entry) (now : Whole) (least_now : List Row) (x : Point) (disks : List (List NamedDisk)) →
      Run grain w least p entries now least_now x → StayAs grain now x.disks disks →
      Run grain w least p entries now least_now (with_disks disks x)

-- What a stop finds while a request is under way, or the work that a worker's turn takes: what stood before it; what is found in its
-- steps; or, behind the last action of its entry, what the entry leads to, before it is answered: metadata that a command made anew,
-- or the record of what a failed write tore, as much as the record of the last step.
pub data Stops (grain : GrainSize) (w : Whole) (least : List Row) (p : Point) : Request → Option Another → Point → Type 0 where
  before : (request : Request) → Stops grain w least p request None p
  within : (request : Request) (steps : List DiskStep) (one : Option Another) (q : Point) → IsInVolume grain w request →
      AreStepsOf grain w request steps → Finds grain w request w.books.sheet (actions_of_steps p.kept.rows (number_of grain request) steps) p one q →
      Stops grain w least p request one q
  done : (entry : Entry) (next : Whole) (least' : List Row) (q : Point) → Step grain w entry next → Does grain w least p entry next least' q →
      Stops grain w least p entry.request None q
