-- What is known behind the entries that were drawn.
use Rattle.std.specs.Prelude.{◌≡◌, ◌≢◌, ◌⊎◌, ◌≤◌, ℕ, Bool, true, false, eqb, All, length, map, option_map, slice_get, Option, Some, None, List, [], ◌∷◌}
use Rattle.fc_base.specs.Sheet.{Sheet}
use Rattle.fc_base.specs.declared.request.Place.TheVariants.{Every}
use Rattle.fc_base.specs.declared.size.GrainSize.{GrainSize}
use Rattle.fc_check.specs.Progress.{IsProgress}
use Rattle.fc_check_follow.specs.Ways.{Ways}
use Rattle.fc_check_lane.specs.After.{chains_torn, chains_written}
use Rattle.fc_drawing.specs.Drawn.{Drawn}
use Rattle.fc_drawing.specs.Reasons.{IsReasonOf, done_read}
use Rattle.fc_drawing.specs.Sources.{all_made, sources_of}
use Rattle.fc_entry.specs.declared.entry.Entry.{Entry}
use Rattle.fc_legal.specs.Whole.{Whole}
use Rattle.fc_origins.specs.Origins.{origin_step, origins_of}
use Rattle.fc_reading_entries.specs.Entries.{ReadNext}
use Rattle.fc_rules.specs.LaneRight.{done_write}
use Rattle.fc_trace.specs.declared.header.Header.{Header}
use Rattle.fc_view.specs.declared.behind.Behind.{Behind}
use Rattle.fc_view.specs.declared.steps.Step.{Step}
use Rattle.fc_view.specs.declared.view.Next.{Next}
use Rattle.fc_view.specs.declared.view.Next.TheVariants.{Drawn as NextDrawn, Ends}
use Rattle.fc_view.specs.Drawings.{IsDrawing}
use Rattle.fc_view.specs.Views.{EndsAs, behind_those}
use Rattle.fc_view.specs.declared.stop.ViewStop.{ViewStop}
use Rattle.fc_view.specs.declared.stop.ViewStop.TheVariants.{NoMemory, WriteFault}

-- the chains of the first way in which all may have been told
abbrev pub first_sheet : Ways → Option Sheet
first_sheet ways = option_map (λ (w : Whole). w.books.sheet) (slice_get ways.ways 0)

-- all entries are right, the chains are those of the first way, and each byte came by the write that the origins name
pub record IsBehind (header : Header) (behind : Behind) : Type 0 where
  pub right : IsProgress header behind.progress
  pub unbroken : behind.progress.wrong ≡ None
  pub sheet_is : first_sheet behind.progress.candidates ≡ Some behind.sheet
  pub origins_are : behind.origins ≡ origins_of header.grain behind.progress.history.entries

-- the chains after the moves, the write and the torn grain of an entry
abbrev pub chains_behind : GrainSize → Sheet → Entry → Sheet
chains_behind size s entry = chains_torn (chains_written size (all_made s entry.moves) (done_write entry.request entry.reply)) entry.torn

-- The chains after an entry follow from those before it alone, where all was told in one way, and it is a lane's or did nothing; or
-- they are those of the first way, if there is one.
abbrev pub AreChains : GrainSize → ℕ → Entry → Behind → Behind → Type 0
AreChains size ways entry old new =
    ((ways ≡ 1) × (entry.place ≢ Every) × (new.sheet ≡ chains_behind size old.sheet entry))
    ⊎ (new.progress.candidates.ways ≢ [] → first_sheet new.progress.candidates ≡ Some new.sheet)

-- the bytes' origins and the chains after an entry, where all before it may have been told in so many ways, and from whom its moves
-- copied
pub record IsFollowed (size : GrainSize) (ways : ℕ) (entry : Entry) (old : Behind) (step : Step) (new : Behind) : Type 0 where
  pub origins_are : new.origins ≡ origin_step size old.origins entry
  pub sources_are : step.sources.items ≡ sources_of old.sheet entry.moves
  pub chains_are : AreChains size ways entry old new

-- a canvas refused something, or memory was wanted
abbrev pub IsWant : ViewStop → Type 0
IsWant WriteFault = Unit {0}
IsWant NoMemory = Unit {0}
IsWant stop = ⊥

-- ---- what is drawn of an entry

-- whether the entry with this number is to be drawn
abbrev pub is_wanted : Option ℕ → ℕ → Bool
is_wanted None number = true
is_wanted (Some at) number = eqb at number

-- it is drawn as it was followed
pub record IsDrawnAs (size : GrainSize) (behind : Behind) (step : Step) (entry : Entry) (drawn : Drawn) : Type 0 where
  pub entry_is : drawn.entry ≡ entry
  pub slots_are : drawn.slots ≡ behind.sheet.slots
  pub sources_are : drawn.sources ≡ step.sources.items
  pub reason_is : IsReasonOf size behind.sheet.slots behind.origins (done_read entry.request entry.reply) drawn.reason

-- where it is to be drawn
abbrev pub WasDrawn : Bool → GrainSize → Behind → Step → Entry → Option (List Drawn) → Option (List Drawn) → Type 0
WasDrawn true size behind step entry old new = (drawn : Drawn) × IsDrawnAs size behind step entry drawn × (new ≡ behind_those old (drawn ∷ []))
WasDrawn false size behind step entry old new = new ≡ old

-- ---- one entry more

-- it is drawn, where it is to be
abbrev pub wanted_next : Bool → Entry → List Entry
wanted_next true entry = entry ∷ []
wanted_next false entry = []

pub record AreNextDrawings (header : Header) (at : Option ℕ) (before : List Entry) (entry : Entry) (drawn : List Drawn) : Type 0 where
  pub entries_are : map (λ (d : Drawn). d.entry) drawn ≡ wanted_next (is_wanted at (length before)) entry
  pub each : All (IsDrawing header before) drawn

-- it was followed, where all before it may have been told in so many ways, and drawn, where it is to be
abbrev pub WasShown : GrainSize → ℕ → Option ℕ → ℕ → Entry → Behind → Behind → Option (List Drawn) → Option (List Drawn) → Type 0
WasShown size ways at number entry old new old_drawn now =
    (step : Step) × IsFollowed size ways entry old step new × WasDrawn (is_wanted at number) size new step entry old_drawn now

-- it was read, is right, so many bytes are its text, and it was drawn; or the view ends there
pub record IsNextDrawn (header : Header) (at : Option ℕ) (old : Behind) (bytes : List ℕ) (count : ℕ) (new : Behind) (old_drawn : Option (List Drawn)) (now : Option (List Drawn)) : Type 0 where
  pub within : count ≤ length bytes
  pub read : ReadNext header.grain old.progress.history bytes count new.progress.history
  pub behind : IsBehind header new
  pub drawn : List Drawn
  pub now_is : now ≡ behind_those old_drawn drawn
  pub drawings : AreNextDrawings header at old.progress.history.entries read.entry drawn

abbrev pub IsNext : Header → Option ℕ → Behind → List ℕ → ℕ → Next → Behind → Option (List Drawn) → Option (List Drawn) → Type 0
IsNext header at old bytes place (NextDrawn count) new old_drawn now = IsNextDrawn header at old bytes count new old_drawn now
IsNext header at old bytes place (Ends seen) new old_drawn now = EndsAs seen header old.progress.history place bytes × (now ≡ old_drawn)
