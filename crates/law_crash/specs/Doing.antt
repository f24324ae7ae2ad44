-- What the actions of an entry do, and what a stop finds.
use Rattle.std.specs.Prelude.{◌≡◌, ◌⊎◌, ℕ, ◌*◌, ◌≤◌, List, [], ◌∷◌, length, Option, Some, None}
use Rattle.std.specs.List.{AllZip, flat_map}
use Rattle.fc_base.specs.Grain.{block_bytes}
use Rattle.fc_base.specs.Sheet.{Sheet}
use Rattle.fc_base.specs.declared.request.Move.{Move}
use Rattle.fc_base.specs.declared.request.Request.{Request}
use Rattle.fc_base.specs.declared.request.Request.TheVariants.{Write, Copy, Clean}
use Rattle.fc_base.specs.declared.request.Torn.{Torn}
use Rattle.fc_base.specs.declared.request.WritePart.{WritePart}
use Rattle.fc_base.specs.declared.size.GrainSize.{GrainSize}
use Rattle.fc_changed.specs.Row.{Row}
use Rattle.fc_entry.specs.declared.entry.Entry.{Entry}
use Rattle.fc_entry.specs.Picture.{Content, grain_of_block, byte_in_grain, written}
use Rattle.fc_legal.specs.Whole.{Whole}
use Rattle.fc_pictures.specs.Law.{StoredAt, now_of}
use Rattle.fc_rules.specs.LaneRight.{done_write}
use Rattle.fc_rules.specs.Steps.{DiskStep, moves_of}
use Rattle.fc_image.specs.declared.record.MetaRecord.{MetaRecord}
use Rattle.fc_image.specs.declared.record.MetaRecord.TheVariants.{Torn as TornRecord}
use Rattle.fc_kept.specs.Actions.{Action, Action.Data, Action.Note, Action.Fold, actions_of_move, actions_of_own, mark_of}
use Rattle.fc_kept.specs.Disks.{NamedDisk}
use Rattle.fc_kept.specs.Kept.{Kept, kept_after, sheet_kept}
use Rattle.fc_kept.specs.Marks.{asked_write}
use Rattle.fc_kept.specs.OneGrain.{Another}
use Rattle.fc_kept.specs.Prefix.{moved_to}
use Rattle.fc_kept.specs.Recoverable.{disks_at}
use Rattle.law_crash.specs.Points.{Point, on_disks, stored_by}

-- ---- the actions of steps

-- The grain at which a write, a copy or a cleaning is.
abbrev pub number_of : GrainSize → Request → ℕ
number_of grain (Write part) = grain_of_block grain part.block
number_of grain (Copy m g) = g.0
number_of grain (Clean m g) = g.0
number_of grain request = 0

-- A step's actions: those of its move, or else of the write itself, where metadata has these rows.
abbrev pub actions_by_move : List Row → ℕ → DiskStep → Option Move → List Action
actions_by_move rows g step None = actions_of_own rows step g
actions_by_move rows g step (Some m) = actions_of_move step m

abbrev pub actions_of_step : List Row → ℕ → DiskStep → List Action
actions_of_step rows g step = actions_by_move rows g step step.move

abbrev pub actions_of_steps : List Row → ℕ → List DiskStep → List Action
actions_of_steps rows g steps = flat_map (actions_of_step rows g) steps

-- ---- what data write

-- A move writes what its volume shows, which is what the volume that it reads from has there; the write itself that, with the bytes
-- that were asked for.
abbrev pub with_part : GrainSize → Option WritePart → Content → Content
with_part grain None content = content
with_part grain (Some part) content = written (byte_in_grain grain part.block) (block_bytes * part.count) part.byte content

abbrev pub content_by_move : GrainSize → Request → Option Move → Content → Content
content_by_move grain request None content = with_part grain (asked_write request) content
content_by_move grain request (Some m) content = content

abbrev pub content_of : GrainSize → Whole → Request → DiskStep → Content
content_of grain w request step = content_by_move grain request step.move (now_of w.picture step.volume (number_of grain request))

-- The volume, the kind and the size of a disk stay.
pub record SameDisk (old new : NamedDisk) : Type 0 where
  pub volume : new.volume ≡ old.volume
  pub kind : new.disk.kind ≡ old.disk.kind
  pub grains : length new.disk.grains ≡ length old.disk.grains

-- A grain of a volume got this content. No other grain of any disk changed.
pub record IsWritten (grain : GrainSize) (w : Whole) (v g : ℕ) (content : Content) (old new : List (List NamedDisk)) : Type 0 where
  pub count : length new ≡ length old
  pub same : (i : ℕ) → AllZip SameDisk (disks_at old i) (disks_at new i)
  pub stored : StoredAt (on_disks grain w old) v g content (on_disks grain w new)

abbrev pub StepWrites : GrainSize → Whole → Request → DiskStep → Content → List (List NamedDisk) → List (List NamedDisk) → Type 0
StepWrites grain w request step content old new = IsWritten grain w step.volume (number_of grain request) content old new

-- ---- folds

-- Where a batch doesn't fit, metadata is folded before it is noted: the whole image is written anew, into the other half, and turned
-- to. The new image says all that the old one said, with the chains that the store has: of old slots that the store has dropped it
-- says no more.
abbrev pub folded : Sheet → Kept → Kept
folded chains k = record k { sheet = chains }

-- Metadata is as it was, or folded.
abbrev pub MayFold : Sheet → Kept → Kept → Type 0
MayFold chains old new = (new ≡ old) ⊎ (new ≡ folded chains old)

-- ---- from action to action

-- A record is put into metadata.
abbrev pub noted : MetaRecord → Point → Point
noted r p = record p { kept = kept_after p.kept r }

abbrev pub with_kept : Kept → Point → Point
with_kept kept p = record p { kept = kept }

abbrev pub with_disks : List (List NamedDisk) → Point → Point
with_disks disks p = record p { disks = disks }

-- All actions were done, one after the other, where the store has these chains; and before each record there may be a fold. Behind the
-- record the store's chains are those that it tells. (A fold that is an action by itself is a command's.)
abbrev pub Did : GrainSize → Whole → Request → Sheet → List Action → Point → Point → Type 0
Did grain w request chains [] p q = q ≡ p
Did grain w request chains (Data step ∷ rest) p q =
    (disks : List (List NamedDisk)) × StepWrites grain w request step (content_of grain w request step) p.disks disks
    × Did grain w request chains rest (with_disks disks p) q
Did grain w request chains (Note r ∷ rest) p q =
    (kept : Kept) × MayFold chains p.kept kept × Did grain w request (sheet_kept chains r) rest (noted r (with_kept kept p)) q
Did grain w request chains (Fold ∷ rest) p q = ⊥

-- ---- what a stop finds

-- What stood, folded or not, and no grain of which metadata doesn't tell.
abbrev pub IsFound : Sheet → Point → Option Another → Point → Type 0
IsFound chains p one q = (one ≡ None) × (q.disks ≡ p.disks) × MayFold chains p.kept q.kept

-- In a data action or behind it, up to its record: its grain may have any content.
pub record IsFoundIn (grain : GrainSize) (w : Whole) (request : Request) (chains : Sheet) (step : DiskStep) (p : Point) (one : Option Another) (q : Point) : Type 0 where
  pub content : Content
  pub writes : StepWrites grain w request step content p.disks q.disks
  pub kept : MayFold chains p.kept q.kept
  pub one_is : one ≡ Some record {
    volume = step.volume;
    grain = number_of grain request;
    content = stored_by grain w q step.volume (number_of grain request);
  }

-- Before an action what stood; in a data action its grain with any content; and, behind the record of it, what is found there. In the
-- calls that put a record into metadata what stands is what stood before it, or behind it; and in those of a fold before it, what
-- stood, or the same folded.
abbrev pub Finds : GrainSize → Whole → Request → Sheet → List Action → Point → Option Another → Point → Type 0
Finds grain w request chains (Note r ∷ rest) p one q =
    IsFound chains p one q
    ⊎ ((kept : Kept) × MayFold chains p.kept kept × Finds grain w request (sheet_kept chains r) rest (noted r (with_kept kept p)) one q)
Finds grain w request chains (Data step ∷ Note r ∷ rest) p one q =
    IsFound chains p one q
    ⊎ (IsFoundIn grain w request chains step p one q
    ⊎ ((disks : List (List NamedDisk)) × StepWrites grain w request step (content_of grain w request step) p.disks disks
    × (kept : Kept) × MayFold chains p.kept kept
    × Finds grain w request (sheet_kept chains r) rest (noted r (with_kept kept (with_disks disks p))) one q))
Finds grain w request chains rest p one q = IsFound chains p one q

-- ---- a step that stopped

-- The actions before a step's data: the write itself has its mark there.
abbrev pub marks_by_move : List Row → ℕ → DiskStep → Option Move → List Action
marks_by_move rows g step None = mark_of rows step.volume g
marks_by_move rows g step (Some m) = []

-- What its failed write tears is told by a record, before which there may be a fold, too; its grain has any content. Where no grain
-- was written there is none.
abbrev pub Tears : GrainSize → Whole → Request → Sheet → DiskStep → Option Torn → Point → Point → Type 0
Tears grain w request chains step None p q = q ≡ p
Tears grain w request chains step (Some torn) p q =
    (torn ≡ record { volume = record { 0 = step.volume }; grain = record { 0 = number_of grain request }; side = step.side })
    × (1 ≤ step.calls)
    × (content : Content) × (disks : List (List NamedDisk)) × StepWrites grain w request step content p.disks disks
    × (kept : Kept) × MayFold chains p.kept kept
    × (q ≡ noted (TornRecord torn.volume torn.grain torn.side) (with_kept kept (with_disks disks p)))

-- The store's chains behind the moves of these steps.
abbrev pub chains_behind : GrainSize → Whole → List DiskStep → Sheet
chains_behind grain w steps = (moved_to grain w steps).books.sheet

-- The first steps were done, and this one stopped: a call of its disks failed, or a thin disk found no memory.
pub record Stopped (grain : GrainSize) (w : Whole) (request : Request) (rows : List Row) (front : List DiskStep) (step : DiskStep) (torn : Option Torn) (p q : Point) : Type 0 where
  pub begun : Point
  pub marked : Point
  pub did : Did grain w request w.books.sheet (actions_of_steps rows (number_of grain request) front) p begun
  pub marks : Did grain w request (chains_behind grain w front) (marks_by_move rows (number_of grain request) step step.move) begun marked
  pub tears : Tears grain w request (chains_behind grain w front) step torn marked q

-- ---- what is told of it

-- An entry tells that it wrote this, made the moves of these steps, and tore this.
pub record Tells (request : Request) (write : Option WritePart) (steps : List DiskStep) (torn : Option Torn) (entry : Entry) : Type 0 where
  pub request_is : entry.request ≡ request
  pub written : done_write entry.request entry.reply ≡ write
  pub moves : entry.moves ≡ moves_of steps
  pub torn_is : entry.torn ≡ torn
  pub no_effects : entry.effects ≡ []
