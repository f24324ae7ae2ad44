-- A line is taken, the segments that it ends are answered, and the history goes on to be a run of the lines.
use Rattle.std.proofs.Common.{◌≡◌, ℕ, ◌≤◌, length, codes, refl, List, [], ◌∷◌, ◌++◌, sym, ◌∙◌, ap, subst, Option, None, Result, Ok, Err, append-nil}
use Rattle.std.specs.List.{Contains}
use Rattle.std.proofs.lemmas.List.Elements.{Contains-push}
use Rattle.fc_agenda.proofs.Going.{GoesSome-whole}
use Rattle.fc_base.specs.declared.command.Line.{Line}
use Rattle.fc_base.specs.declared.command.Scope.TheVariants.{Free}
use Rattle.fc_base.specs.declared.command.ScriptLine.TheVariants.{Read, Unread}
use Rattle.fc_base.specs.declared.fault.WordFault.{WordFault}
use Rattle.fc_base.specs.declared.size.GrainSize.{GrainSize}
use Rattle.fc_blocks.specs.Blocks.{Opened}
use Rattle.fc_blocks.specs.Reading.{IsNext, script_line}
use Rattle.fc_blocks.specs.Segments.{Segment, single, together, cut}
use Rattle.fc_blocks.specs.declared.block.BlockRead.{BlockRead}
use Rattle.fc_blocks.specs.declared.block.Taken.{Taken}
use Rattle.fc_blocks.specs.declared.block.Taken.TheVariants.{Block}
use Rattle.fc_books.specs.Books.{Books}
use Rattle.fc_entry.specs.HistoryState.{HistoryState}
use Rattle.fc_entry.specs.Text.{HasNames}
use Rattle.fc_entry.specs.declared.stop.Stop.{Stop}
use Rattle.fc_entry.specs.declared.stop.Stop.TheVariants.{LogFull, NoMemory}
use Rattle.fc_grains.specs.Grains.{pool_of, silent_of}
use Rattle.fc_legal.proofs.Appending.{IsLegal-run, IsPartialRun-more, IsRun-nil}
use Rattle.fc_legal.proofs.Naming.{HasMore}
use Rattle.fc_legal.specs.Added.{Answered, IsTold, StaysUp, TellsSome}
use Rattle.fc_legal.specs.Agenda.{Session, session_rules}
use Rattle.fc_legal.specs.Run.{IsPartialRun}
use Rattle.fc_legal.specs.Whole.{Whole}
use Rattle.fc_run.specs.Runs.{GrowsTo, LineLeaves}
use Rattle.fc_lanes.specs.Dealing.{disks_in}
use Rattle.fc_stands.specs.Quiet.{AreQuiet, QuietBy}
use Rattle.fc_stands.proofs.Quieting.{quiet_begins}
use Rattle.fc_stands.specs.Store.{StoreView, StandsFor}
use Rattle.fc_owner.proofs.Cutting.{HasMoreSegments, cut_more}
use Rattle.fc_owner.proofs.LineAnswers.{AddsSome, adds_some, history_grows, line_leaves, names_stay}
use Rattle.fc_owner.proofs.Names.{legal_names}
use Rattle.fc_owner.specs.FirstTold.{first_told}
use Rattle.fc_owner.specs.Reading.{reading}
use Rattle.fc_owner.specs.StoreRuns.{CanRun, HasDisks, IsBlockRun, IsUp, Start, store_runs}
use Rattle.fc_words.specs.Lines.{line_of}

-- ---- what was read

-- a line that was read is that line, and a fault is that fault
line_read : (line : Line) (read : Result Line WordFault) → Read line ≡ script_line read → read ≡ Ok line
line_read line (Ok other) is =
    let same : line ≡ other = cc is in
    ap Ok (sym same)
line_read line (Err fault) is = absurd (cc is)

fault_read : (fault : WordFault) (read : Result Line WordFault) → Unread fault ≡ script_line read → read ≡ Err fault
fault_read fault (Ok line) is = absurd (cc is)
fault_read fault (Err other) is =
    let same : fault ≡ other = cc is in
    ap Err (sym same)

-- bytes are read as the line that they are
reading_of : (b : Books) (bytes : List ℕ) (read : Result Line WordFault) → line_of Free bytes ≡ read → reading b bytes ≡ read
unfolding reading
reading_of b bytes read is = is

pub reading_line : (b : Books) (bytes : List ℕ) (line : Line) → Read line ≡ script_line (line_of Free bytes) → reading b bytes ≡ Ok line
reading_line b bytes line is = reading_of b bytes (Ok line) (line_read line (line_of Free bytes) is)

pub reading_fault : (b : Books) (bytes : List ℕ) (fault : WordFault) → Unread fault ≡ script_line (line_of Free bytes) → reading b bytes ≡ Err fault
reading_fault b bytes fault is = reading_of b bytes (Err fault) (fault_read fault (line_of Free bytes) is)

-- what was taken is this
pub taken_as :
    (taken of : Taken) (before after : Option Opened) (lines : List (List ℕ)) (line : List ℕ) →
    taken ≡ of →
    IsNext taken before after lines line →
    IsNext of before after lines line
taken_as taken of before after lines line is next =
    let P : Taken → Type 0 = λ t. IsNext t before after lines line in
    subst P is next

-- ---- one line more

-- The segments that a line ends are answered after whatever is told.
abbrev pub AnswersEnded : Result (Unit {0}) Stop → StoreView → StoreView → List Segment → HistoryState → HistoryState → Type 0
AnswersEnded answer store now ended old new =
    (w : Whole) → IsTold (StandsFor store) old w →
    Answered answer (StandsFor now) (session_rules store.control.grain reading) (Session ended) w old new

-- A line was taken, the segments that it ends are these, and they are answered.
pub store_answers :
    (Able : Type 0) (answer : Result (Unit {0}) Stop) (start : Start) (before after : Option Opened) (taken : Taken) (store now : StoreView) (lines : List (List ℕ)) (line : List ℕ)
    (ended : List Segment) (old new : HistoryState) →
    AnswersEnded answer store now ended old new →
    now.control.grain ≡ store.control.grain →
    disks_in now.lanes ≡ disks_in store.lanes →
    (QuietBy old.entries store → StaysUp answer (QuietBy new.entries now)) →
    (next : IsNext taken before after lines line) →
    next.ended ≡ ended →
    (store_runs Able before store start).Whole lines old →
    LineLeaves answer (store_runs Able after now start) (lines ++ line ∷ []) new
store_answers Able answer start before after taken store now lines line ended old new answers grain disks quiet next is whole =
    let up : IsUp start store old whole.last = whole.stands in
    let P : GrainSize → Type 0 = λ g. Answered answer (StandsFor now) (session_rules g reading) (Session ended) whole.last old new in
    line_leaves answer start.grain (first_told start.disks) whole.last (λ open_block. (open_block ≡ after) × Able) (λ history last. IsUp start now history last) (HasDisks start now) (StandsFor now)
    lines (lines ++ line ∷ []) ended old new
    (next.segments ∙ ap (λ segs. (cut lines).segments ++ segs) is) (next.open_block, whole.holds.1.1)
    whole.holds.0 (subst P up.grain_is (answers whole.last (up.stands, whole.told)))
    (goes_on answer
    (λ calm last stands. record {
      stands = stands;
      grain_is = grain ∙ up.grain_is;
      disks = disks ∙ up.disks;
      quiet = calm;
    })
    (λ told. quiet (up.quiet told)))
    (disks ∙ up.disks)
  where
    goes_on : (answer : Result (Unit {0}) Stop) {Told Quiet : Type 0} {Up : Type 0} → ((Told → Quiet) → Up) → (Told → StaysUp answer Quiet) → StaysUp answer Up
    goes_on (Ok done) up calm = up calm
    goes_on (Err LogFull) up calm = up calm
    goes_on (Err NoMemory) up calm = tt

-- Memory was wanted to read the line: nothing of it is answered.
pub store_starved :
    (Able : Type 0) (start : Start) (before after : Option Opened) (store : StoreView) (lines : List (List ℕ)) (line : List ℕ) (history : HistoryState) →
    (store_runs Able before store start).Whole lines history →
    (store_runs Able after store start).Front (lines ++ line ∷ []) history
store_starved Able start before after store lines line history whole =
    let grain : GrainSize = start.grain in
    let w : Whole = first_told start.disks in
    let grown : HasMoreSegments (cut lines).segments (cut (lines ++ line ∷ [])).segments = cut_more lines (line ∷ []) in
    let P : List Segment → Type 0 = λ segs. IsPartialRun grain reading w segs history.entries whole.last in
    record {
      last = whole.last;
      told = whole.told;
      stands = whole.stands.disks;
      holds = subst P (sym grown.is)
          (IsPartialRun-more grain reading w whole.last (cut lines).segments grown.more history.entries
          (GoesSome-whole (session_rules grain reading) (Session (cut lines).segments) w whole.last history.entries whole.holds.0));
    }

-- The store stands for something that is told.
pub store_stands :
    (Able : Type 0) (start : Start) (reader : Option Opened) (store : StoreView) (lines : List (List ℕ)) (history : HistoryState) →
    (store_runs Able reader store start).Whole lines history →
    TellsSome (StandsFor store) history
store_stands Able start reader store lines history whole = (whole.last, (whole.stands.stands, whole.told))

-- The first name is that of `main`.
pub store_main :
    (Able : Type 0) (start : Start) (reader : Option Opened) (store : StoreView) (lines : List (List ℕ)) (history : HistoryState) →
    (store_runs Able reader store start).Whole lines history →
    (names : List (List ℕ)) × (history.actors ≡ codes "main" ∷ names)
store_main Able start reader store lines history whole =
    let w : Whole = first_told start.disks in
    let named : HasMore w.actors whole.last.actors =
    legal_names start.grain w whole.last history.entries
    (IsLegal-run start.grain reading w whole.last (cut lines).segments history.entries whole.holds.0) in
    (named.more, sym whole.told.actors ∙ named.is)

-- ---- the history only grows, and each entry's actor has a name

-- What was answered adds entries.
some_added :
    (Able : Type 0) (answer : Result (Unit {0}) Stop) (start : Start) (reader : Option Opened) (store now : StoreView) (lines : List (List ℕ)) (ended : List Segment) (old new : HistoryState) →
    AnswersEnded answer store now ended old new →
    (whole : (store_runs Able reader store start).Whole lines old) →
    AddsSome store.control.grain reading (Session ended) whole.last old new
some_added Able answer start reader store now lines ended old new answers whole =
    adds_some answer store.control.grain reading (Session ended) whole.last (StandsFor now) old new (answers whole.last (whole.stands.stands, whole.told))

pub line_grows :
    (Able : Type 0) (answer : Result (Unit {0}) Stop) (start : Start) (reader : Option Opened) (store now : StoreView) (lines : List (List ℕ)) (line : List ℕ) (old new : HistoryState) →
    AnswersEnded answer store now (single line ∷ []) old new →
    (store_runs Able reader store start).Whole lines old →
    GrowsTo old new
line_grows Able answer start reader store now lines line old new answers whole =
    history_grows store.control.grain reading (Session (single line ∷ [])) whole.last old new tt whole.told
    (some_added Able answer start reader store now lines (single line ∷ []) old new answers whole)

pub line_named :
    (Able : Type 0) (answer : Result (Unit {0}) Stop) (start : Start) (reader : Option Opened) (store now : StoreView) (lines : List (List ℕ)) (line : List ℕ) (old new : HistoryState) →
    AnswersEnded answer store now (single line ∷ []) old new →
    (store_runs Able reader store start).Whole lines old →
    HasNames old →
    HasNames new
line_named Able answer start reader store now lines line old new answers whole =
    let main = store_main Able start reader store lines old whole in
    names_stay store.control.grain reading (Session (single line ∷ [])) whole.last main.0 old new tt whole.told main.1
    (some_added Able answer start reader store now lines (single line ∷ []) old new answers whole)

-- A line that ends no segment has no answer.
pub nothing_answered : (store : StoreView) (history : HistoryState) → AnswersEnded (Ok tt) store store [] history history
nothing_answered store history = λ w told. (
  w,
  told,
  record { more = []; entries = sym (append-nil history.entries); are = IsRun-nil store.control.grain reading w },
)

-- ---- a block

pub can_run :
    (Able : Type 0) (start : Start) (before after : Option Opened) (store : StoreView) (lines all : List (List ℕ)) (line : List ℕ) (history : HistoryState) (block : BlockRead) →
    (store_runs Able before store start).Whole lines history →
    length history.entries ≤ 262144 →
    IsNext (Block block) before after all line →
    CanRun store history block
can_run Able start before after store lines all line history block whole room next =
    let P : List Segment → Type 0 = λ segs. Contains segs (together block) in
    record {
      stands = store_stands Able start before store lines history whole;
      room = room;
      main = store_main Able start before store lines history whole;
      read = (
        all ++ line ∷ [],
        subst P (sym (next.segments ∙ ap (λ segs. (cut all).segments ++ segs) next.told)) (Contains-push (cut all).segments (together block)),
      );
    }

pub block_grows :
    (Able : Type 0) (answer : Result (Unit {0}) Stop) (start : Start) (reader : Option Opened) (store now : StoreView) (lines : List (List ℕ)) (block : BlockRead) (old new : HistoryState) →
    IsBlockRun answer store now block old new →
    (store_runs Able reader store start).Whole lines old →
    GrowsTo old new
block_grows Able answer start reader store now lines block old new ran whole =
    let some = some_added Able answer start reader store now lines (together block ∷ []) old new ran.answered whole in
    record { names = ran.names.0; entries = some.adds.more; actors_are = ran.names.1; entries_are = some.adds.entries }

-- ---- the first line

pub store_begins :
    (Able : Type 0) (start : Start) (reader : Option Opened) (store : StoreView) (history : HistoryState) →
    Able →
    reader ≡ None →
    history ≡ record { actors = codes "main" ∷ []; entries = [] } →
    store.control.grain ≡ start.grain →
    StandsFor store (first_told start.disks) →
    disks_in store.lanes ≡ pool_of start.disks →
    (silent_of start.disks ≡ 0 → AreQuiet store.lanes) →
    (store_runs Able reader store start).Whole [] history
store_begins Able start reader store history able none is grain stands disks quiet =
    let P : HistoryState → Type 0 = λ h. (store_runs Able reader store start).Whole [] h in
    subst P (sym is)
    record {
      last = first_told start.disks;
      told = record { actors = refl; entries = refl };
      stands = record { stands = stands; grain_is = grain; disks = disks; quiet = λ told. quiet_begins store (quiet told) };
      holds = (IsRun-nil start.grain reading (first_told start.disks), (sym none, able));
    }
