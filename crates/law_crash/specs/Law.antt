-- The law of stops.
use Rattle.std.specs.Prelude.{◌≡◌, ◌⊎◌, ℕ, true, false, ◌+◌, ◌*◌, ◌^◌, ◌<◌, ◌≤◌, length, List, [], ◌∷◌, ◌++◌, Option, Some, None}
use Rattle.fc_base.specs.Column.{holder}
use Rattle.fc_base.specs.Moves.{is_in_place}
use Rattle.fc_base.specs.Safety.{IsSafeMove}
use Rattle.fc_base.specs.Sheet.{Sheet, slot_at, column}
use Rattle.fc_base.specs.SheetFacts.{IsSound}
use Rattle.fc_base.specs.Pools.{Pool}
use Rattle.fc_base.specs.declared.command.Command.{Command}
use Rattle.fc_base.specs.declared.ids.VolId.{VolId}
use Rattle.fc_base.specs.declared.request.Request.{Request}
use Rattle.fc_base.specs.declared.request.Torn.{Torn}
use Rattle.fc_base.specs.declared.size.GrainSize.{GrainSize}
use Rattle.fc_books.specs.Deciding.{settle}
use Rattle.fc_books.specs.Sound.{AreSound}
use Rattle.fc_changed.specs.Row.{Row}
use Rattle.fc_entry.specs.Picture.{Content, PlainVolume}
use Rattle.fc_entry.specs.declared.entry.Entry.{Entry}
use Rattle.fc_legal.specs.Legal.{AreSteps}
use Rattle.fc_legal.specs.Steps.{Step, after_access, after_settling, decided_on, left_by, one_more}
use Rattle.fc_legal.specs.Whole.{Whole, opened, single_lane}
use Rattle.fc_parts.specs.Law.{IsInVolume}
use Rattle.fc_pictures.specs.Law.{now_of}
use Rattle.fc_rules.specs.Steps.{DiskStep}
use Rattle.fc_kept.specs.Actions.{actions_of_command}
use Rattle.fc_kept.specs.Disks.{NamedDisk}
use Rattle.fc_kept.specs.Kept.{Kept}
use Rattle.fc_kept.specs.Marks.{asked_write, least_by, least_entry, LeastStep}
use Rattle.fc_kept.specs.OneGrain.{Another, another}
use Rattle.fc_kept.specs.Prefix.{AreStepsOf}
use Rattle.fc_kept.specs.Recoverable.{Recoverable, Says}
use Rattle.law_crash.specs.Points.{Point, StandsFor, stored_by, nothing_kept}
use Rattle.law_crash.specs.Leaving.{AreUnnamed, GoesOn, HaveTheirDisks, Leaves}
use Rattle.law_crash.specs.Running.{Run, Stops}
use Rattle.law_crash.specs.Costs.{CostLaw}
use Rattle.law_crash.specs.Doing.{number_of, actions_of_steps, Did, IsFound, Finds, Stopped, Tells}

-- A write, a copy or a cleaning begins, with these steps, where the disks stand for what the history leads to.
pub record Begins (grain : GrainSize) (w : Whole) (least : List Row) (request : Request) (steps : List DiskStep) (p : Point) : Type 0 where
  pub sound : AreSound w.books
  pub inside : IsInVolume grain w request
  pub steps_are : AreStepsOf grain w request steps
  pub stands : StandsFor grain w least p

pub record CrashLaw : Type 0 where
  -- before the first entry there are no volumes
  pub opens : (grain : GrainSize) (pools : List Pool) (disks : List (List NamedDisk)) → length disks ≡ length pools →
      let p : Point = record { kept = nothing_kept; disks = disks } in StandsFor grain (opened pools) [] p
  -- what they stand for may be recovered, whatever is asked
  pub rests : (grain : GrainSize) (w : Whole) (least : List Row) (asked : Option Request) (p : Point) →
      StandsFor grain w least p →
      Recoverable grain p.disks p.kept w least asked None
  -- what a volume shows is what is stored of the volume that it reads from, and that is what a move writes
  pub read_is : (grain : GrainSize) (w : Whole) (least : List Row) (p : Point) (k g : ℕ) → StandsFor grain w least p →
      let slots = w.books.sheet.slots in
      k < length slots → (slot_at slots k).is_live ≡ true → g < length (slot_at slots k).held →
      (h : ℕ) × (holder (column slots g) k ≡ Some h) × (now_of w.picture (slot_at slots k).volume g ≡ stored_by grain w p (slot_at slots h).volume g)
  -- and no volume shows the data of a move before its record, whatever they are
  pub shows_not : (s : Sheet) (g k : ℕ) (content : Content) (v : PlainVolume) → IsSound s → IsSafeMove (column s.slots g) k →
      is_in_place (column s.slots g) k ≡ false → (another (column s.slots g) k g content v).now ≡ v.now
  -- whatever a stop finds may be recovered, in folds too
  pub recovers : (grain : GrainSize) (w : Whole) (least : List Row) (request : Request) (steps : List DiskStep) (p q : Point) (one : Option Another) →
      Begins grain w least request steps p →
      Finds grain w request w.books.sheet (actions_of_steps p.kept.rows (number_of grain request) steps) p one q →
      Recoverable grain q.disks q.kept w least (Some request) one
  -- behind all actions the disks stand for what the history leads to with the entry
  pub stands : (grain : GrainSize) (w : Whole) (least : List Row) (request : Request) (steps : List DiskStep) (p q : Point) (entry : Entry) (i : ℕ) →
      Begins grain w least request steps p →
      Did grain w request w.books.sheet (actions_of_steps p.kept.rows (number_of grain request) steps) p q →
      Tells request (asked_write request) steps None entry →
      StandsFor grain (after_access grain w i entry) (least_entry (single_lane grain) least entry) q
  -- so they do behind a step that stopped
  pub stands_stopped : (grain : GrainSize) (w : Whole) (least : List Row) (request : Request) (front back : List DiskStep) (step : DiskStep) (torn : Option Torn) (p q : Point) (entry : Entry) (i : ℕ) →
      Begins grain w least request (front ++ step ∷ back) p →
      Stopped grain w request p.kept.rows front step torn p q →
      Tells request None front torn entry →
      StandsFor grain (after_access grain w i entry) (least_entry (single_lane grain) least entry) q
  -- a command's metadata is made anew: a stop finds what stood before it, or what stands for the history with its entry
  pub turned : (grain : GrainSize) (w next : Whole) (least least' : List Row) (entry : Entry) (p q x : Point) (one : Option Another) →
      Step grain w entry next →
      LeastStep grain w least entry.request entry next least' →
      StandsFor grain w least p → StandsFor grain next least' q →
      IsFound w.books.sheet p one x ⊎ IsFound next.books.sheet q one x →
      Recoverable grain x.disks x.kept w least (Some entry.request) one
  -- and what it leaves, with metadata made anew over the same disks, stands for the history with its entry, where each volume had its
  -- disk before it, and as many disks are free as the pools say: so they fit the tables that it leaves
  pub leaves : (grain : GrainSize) (decisions : ℕ) (w left : Whole) (least least' : List Row) (command : Command) (p : Point) (kept : Kept) →
      decisions + 4 < 2 ^ 32 → GoesOn decisions w p.disks → StandsFor grain w least p →
      HaveTheirDisks w p.disks → Leaves grain w least p.kept command left least' kept →
      StandsFor grain (one_more left) least' (record p { kept = kept }) × GoesOn (decisions + 2) (one_more left) p.disks
  -- where a command has no action, what metadata says is so much of what it leaves already
  pub stays : (grain : GrainSize) (decisions : ℕ) (w : Whole) (least : List Row) (command : Command) (loop : Option (List VolId)) (p : Point) →
      decisions + 1 < 2 ^ 32 → GoesOn decisions w p.disks → StandsFor grain w least p →
      let settled = after_settling grain w in let d = decided_on grain settled command loop in
      actions_of_command (settle w.books) d ≡ [] →
      Says grain p.disks p.kept (left_by grain settled d) (least_by settled (least_by w least (settle w.books)) d)
  -- so all entries of a history stand, one after the other, with what is done to the disks
  pub runs : (grain : GrainSize) (pools : List Pool) (disks : List (List NamedDisk)) (entries : List Entry) (w : Whole) (least : List Row) (p : Point) →
      0 < length pools → length disks ≡ length pools → AreUnnamed (opened pools) disks →
      let first : Point = record { kept = nothing_kept; disks = disks } in
      Run grain (opened pools) [] first entries w least p → w.entries ≤ 262144 →
      AreSteps grain (opened pools) entries w × StandsFor grain w least p × GoesOn (2 * w.entries) w p.disks
  -- this is so of every history: any right entries can be done so, where at first as many disks are free as the pools say
  pub histories : (grain : GrainSize) (pools : List Pool) (disks : List (List NamedDisk)) (entries : List Entry) (w : Whole) →
      0 < length pools → length disks ≡ length pools → AreUnnamed (opened pools) disks → HaveTheirDisks (opened pools) disks →
      let first : Point = record { kept = nothing_kept; disks = disks } in
      AreSteps grain (opened pools) entries w → w.entries ≤ 262144 →
      (least : List Row) × (p : Point) × Run grain (opened pools) [] first entries w least p
  -- and wherever a stop falls in the next entry, what it finds may be recovered
  pub stops : (grain : GrainSize) (pools : List Pool) (disks : List (List NamedDisk)) (entries : List Entry) (w : Whole) (least : List Row) (p : Point) →
      (request : Request) (one : Option Another) (q : Point) → 0 < length pools → length disks ≡ length pools → AreUnnamed (opened pools) disks →
      let first : Point = record { kept = nothing_kept; disks = disks } in
      Run grain (opened pools) [] first entries w least p → w.entries < 262144 → Stops grain w least p request one q →
      Recoverable grain q.disks q.kept w least (Some request) one
  -- and how many calls of its disk metadata costs
  pub costs : CostLaw
