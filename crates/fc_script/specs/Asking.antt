-- What is asked next, and how a script goes on.
use Rattle.std.specs.Prelude.{◌≡◌, ℕ, ◌+◌, ◌-◌, ◌*◌, ◌<◌, ◌≤◌, cond, Contains, [], ◌∷◌, Option, Some, None}
use Rattle.std.specs.List.{AllByRecursion}
use Rattle.fc_base.specs.Grain.{grain_blocks}
use Rattle.fc_base.specs.Tables.{Tables}
use Rattle.fc_base.specs.declared.command.Command.{Command}
use Rattle.fc_base.specs.declared.ids.GrainNo.{GrainNo}
use Rattle.fc_base.specs.declared.ids.VolId.{VolId}
use Rattle.fc_base.specs.declared.request.Request.{Request}
use Rattle.fc_base.specs.declared.request.Request.TheVariants.{Command as CommandAsked, Copy, Clean}
use Rattle.fc_base.specs.declared.size.GrainSize.{GrainSize}
use Rattle.fc_base.specs.declared.volume.Volume.{Volume}
use Rattle.fc_books.specs.Books.{Books}
use Rattle.fc_entry.specs.Picture.{grain_of_block}
use Rattle.fc_entry.specs.declared.entry.Entry.{Entry}
use Rattle.fc_lanes.specs.Asking.{part_of}
use Rattle.fc_legal.specs.Agenda.{Agenda, Asks, Session, behind_entry}
use Rattle.fc_legal.specs.Asked.{command_asked}
use Rattle.fc_legal.specs.Seconds.{Work, next_grain}
use Rattle.fc_legal.specs.Steps.{Step}
use Rattle.fc_legal.specs.Whole.{Whole}
use Rattle.fc_script.specs.Passage.{GoesOn}
use Rattle.fc_script.specs.Script.{agenda_of}
use Rattle.fc_script.specs.declared.asking.Asked.{Asked}
use Rattle.fc_script.specs.declared.asking.Asked.TheVariants.{Command as Decided, Refused, Part, Fill}
use Rattle.fc_script.specs.declared.script.Script.{Script}
use Rattle.fc_script.specs.declared.script.Script.TheVariants.{Command as Alone, Parts, Seconds as Passes, Lines}
use Rattle.fc_stands.specs.Apart.{IsRefusalOf}
use Rattle.fc_stands.specs.Phase.{IsDecided}
use Rattle.fc_stands.specs.Store.{StandsFor, StoreView}

-- ---- what is asked

-- The request of its entry.
abbrev pub request_of : GrainSize → Asked → Request
request_of grain (Decided command) = CommandAsked command
request_of grain (Refused request refusal) = request
request_of grain (Part access volume block count g) = part_of grain access volume block count g
request_of grain (Fill map cleans g) = cond cleans (Clean map g) (Copy map g)

-- `main` asks this next; or nothing is left.
abbrev pub IsNext : GrainSize → Whole → Option Asked → Agenda → Type 0
IsNext grain w None a = a ≡ Session []
IsNext grain w (Some asked) a = Asks grain a w (0, request_of grain asked)

-- ---- what can be asked of a store

-- A grain that blocks of a volume of the tables touch.
pub record TouchesGrain (grain : GrainSize) (t : Tables) (volume : VolId) (block count g : ℕ) : Type 0 where
  pub of : Volume
  pub there : Contains t.volumes of
  pub id_is : of.id ≡ volume
  pub inside : g < of.grains
  pub some : 0 < count
  pub begins : block < (g + 1) * grain_blocks grain
  pub ends : g * grain_blocks grain < block + count

-- A command is decided, a refusal is right, and an access is of a grain that is there.
abbrev pub CanBeAsked : StoreView → Asked → Type 0
CanBeAsked s (Decided command) = IsDecided command
CanBeAsked s (Refused request refusal) = (w : Whole) → StandsFor s w → IsRefusalOf s.control.grain w request refusal
CanBeAsked s (Part access volume block count g) = TouchesGrain s.control.grain s.control.tables volume block count g
CanBeAsked s (Fill map cleans g) = Unit {0}

-- The fill of a grain by a work.
abbrev pub fill_asked : GrainNo → Work → Asked
fill_asked g work = Fill work.map work.cleans g

-- A fill is the next of the work that is at hand.
abbrev pub HasNextFill : GrainSize → Whole → Option Work → Asked → Type 0
HasNextFill grain w None (Fill map cleans g) = ⊥
HasNextFill grain w (Some work) (Fill map cleans g) = (fill_asked g work ≡ Fill map cleans g) × (next_grain grain w work ≡ Some g)
HasNextFill grain w work asked = Unit {0}

abbrev pub work_of : Script → Option Work
work_of (Passes passage) = passage.at_hand
work_of script = None

-- ---- how a script fits tables

-- Whatever else the books have, the command asks for itself.
abbrev pub AsksItself : GrainSize → Tables → Command → Type 0
AsksItself grain t command = (b : Books) → b.tables ≡ t → command_asked grain b command ≡ CommandAsked command ∷ []

-- Blocks of a volume that is there, and of the grains that they touch those from one on.
pub record AreLeft (grain : GrainSize) (t : Tables) (volume : VolId) (block count next last : ℕ) : Type 0 where
  pub of : Volume
  pub there : Contains t.volumes of
  pub id_is : of.id ≡ volume
  pub some : 0 < count
  pub inside : block + count ≤ of.grains * grain_blocks grain
  pub from : grain_of_block grain block ≤ next
  pub upto : next ≤ last
  pub last_is : last ≡ grain_of_block grain (block + count - 1)

-- The lines of a preset are decided by whatever tables.
abbrev pub Fits : GrainSize → Tables → Script → Type 0
Fits grain t (Alone command) = AsksItself grain t command
Fits grain t (Parts access volume block count next last) = AreLeft grain t volume block count next last
Fits grain t (Lines commands behind) = AllByRecursion IsDecided commands.items
Fits grain t script = Unit {0}

-- ---- what is asked next, and what is left behind its entry

-- What can be asked of the store is next, or nothing is left: whatever the store stands for, the script goes on to there without an
-- entry.
pub record IsNextOf (s : StoreView) (old new : Script) (asked : Option Asked) : Type 0 where
  pub goes : (w : Whole) → StandsFor s w → GoesOn s.control.grain w (agenda_of s.control.grain old) (agenda_of s.control.grain new)
  pub next : (w : Whole) → StandsFor s w → IsNext s.control.grain w asked (agenda_of s.control.grain new)
  pub can : (a : Asked) → asked ≡ Some a → CanBeAsked s a
  pub fill : (a : Asked) (w : Whole) → asked ≡ Some a → StandsFor s w → HasNextFill s.control.grain w (work_of new) a
  pub fits : Fits s.control.grain s.control.tables new

-- The entry answers what the script asks next, and is right.
pub record IsAnswer (grain : GrainSize) (script : Script) (w : Whole) (entry : Entry) (next : Whole) : Type 0 where
  pub asked : Asks grain (agenda_of grain script) w (entry.actor, entry.request)
  pub right : Step grain w entry next

-- What is left behind it, with no line behind that; a script that fitted the tables before it fits those behind it.
pub record IsLeft (grain : GrainSize) (old : Script) (w : Whole) (entry : Entry) (next : Whole) (new : Script) : Type 0 where
  pub goes : GoesOn grain next (behind_entry grain (agenda_of grain old) next entry) (agenda_of grain new)
  pub fits : Fits grain w.books.tables old → Fits grain next.books.tables new
