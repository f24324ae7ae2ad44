-- Calls that end in one way have one outcome, by the law of one outcome.
use Rattle.std.proofs.Common.{◌≡◌, ℕ, ◌+◌, ◌%◌, ◌^◌, Bool, true, false, cond, if◌then◌else◌, List, [], ◌∷◌, ◌++◌, length, map, take, drop, codes, Option, Some, None, IfSome, refl, sym, subst, ap, ◌∙◌, append-nil, append_assoc, inl, inr, ◌⊎◌}
use Rattle.std.specs.List.{count_by, sum_by}
use Rattle.std.specs.Bool.{OnFalse}
use Rattle.std.specs.Option.{option_map}
use Rattle.std.proofs.lemmas.List.{length-map, take-append-drop}
use Rattle.std.proofs.Math.Seq.{take-append_seam}
use Rattle.std.proofs.lemmas.List.Sums.{sum_by-cons}
use Rattle.fc_agenda.proofs.Going.{GoesSome-asking}
use Rattle.fc_agenda.specs.Goes.{Goes}
use Rattle.fc_args.specs.declared.asked.Asked.{Asked}
use Rattle.fc_args.specs.declared.asked.Asked.TheVariants.{Run, Drill, Check, Stop}
use Rattle.fc_args.specs.declared.asked.RunOptions.{RunOptions}
use Rattle.fc_base.specs.Pools.{Pool}
use Rattle.fc_base.specs.declared.size.GrainSize.{GrainSize}
use Rattle.fc_base.specs.declared.size.GrainSize.TheVariants.{K64}
use Rattle.fc_blocks.specs.Segments.{Segment, cut}
use Rattle.fc_call.specs.Call.{Call, empty, session_of, status_of}
use Rattle.fc_call.specs.declared.status.Status.TheVariants as status
use Rattle.fc_call.proofs.Statuses.{same_ended}
use Rattle.fc_determined.proofs.Determined.{determined_law_holds}
use Rattle.fc_determined.specs.Law.{IsOneOutcome}
use Rattle.fc_determined.specs.Smooth.{AreSmooth, TellTheSame, but_for_faults, told_by, without_faults}
use Rattle.fc_entry.proofs.LineLemmas.{all_lines-grow}
use Rattle.fc_entry.specs.HistoryState.{HistoryState}
use Rattle.fc_entry.specs.Lines.{all_lines, ended_lines}
use Rattle.fc_entry.specs.declared.entry.Entry.{Entry}
use Rattle.fc_gen.specs.Session.{session_text}
use Rattle.fc_io.specs.Sink.{held_with}
use Rattle.fc_io.specs.Source.{SourceState}
use Rattle.fc_legal.proofs.Alone.{AreSteps-goes}
use Rattle.fc_legal.proofs.Appending.{WantsMore-more}
use Rattle.fc_legal.specs.Added.{IsOf}
use Rattle.fc_legal.specs.Agenda.{Agenda, Session, session_rules}
use Rattle.fc_legal.specs.Run.{IsRun, WantsMore}
use Rattle.fc_legal.specs.Whole.{Whole, opened}
use Rattle.fc_legal.specs.WithoutBlocks.{AreLines as AreLinesAlone}
use Rattle.fc_mdisk.specs.Disk.{DiskState}
use Rattle.fc_run.specs.Headline.{EndsAs}
use Rattle.fc_run.specs.Input.{AreLines, Gave, IsAtEnd, OfFirstTaken, input_limit}
use Rattle.fc_run.specs.Summary.{gives_bytes, is_done_write, refuses, bytes_sum, reads_of, writes_of, moves_in, refused_of, sum_of, summary_text, form_text}
use Rattle.fc_run.specs.declared.ended.Ended.{Ended}
use Rattle.fc_run.specs.declared.ended.Ended.TheVariants as ended
use Rattle.fc_run.specs.declared.form.Form.{Form}
use Rattle.fc_run.specs.declared.form.Form.TheVariants.{Text, Trace, Summary}
use Rattle.fc_owner.specs.FirstTold.{first_told}
use Rattle.fc_top.specs.Ends.{DrillEnds, RunEnds, drill_source}
use Rattle.law_outcome.specs.OneOutcome.{WentAlike, HaveOneOutcome, TookOf, ReadsOf, IsByBytes, HaveNoBlock, AsksNoBlock, AreAlikeDealt, form_of, HasBytes, OutcomeLaw, tells_faults}
use Rattle.fc_top.specs.PlainEnds.{PlainEnds}
use Rattle.fc_owner.specs.PlainRuns.{plain_runs}
use Rattle.fc_owner.specs.Reading.{reading}
use Rattle.fc_top.specs.Theorem.{Theorem}
use Rattle.fc_top.specs.Traced.{lane_disks, run_form}
use Rattle.law_outcome.proofs.CheckOutcome.{checks}
use Rattle.fc_owner.proofs.Cutting.{HasMoreSegments, AreLines-front, cut_more}
use Rattle.fc_top.proofs.DrillLines.{drill_alone}
use Rattle.law_together.proofs.Kept.{AreSteps-keeps}

-- ---- a summary doesn't speak of the faults of disks

summed : (f : Entry → ℕ) → ((x : Entry) → f (but_for_faults x) ≡ f x) → (xs : List Entry) → sum_by f (told_by xs) ≡ sum_by f xs
summed f same [] = refl
summed f same (x ∷ xs) =
    sum_by-cons f (but_for_faults x) (told_by xs)
    ∙ (ap (λ n. n + sum_by f (told_by xs)) (same x) ∙ (ap (λ n. f x + n) (summed f same xs) ∙ sym (sum_by-cons f x xs)))

counted : (p : Entry → Bool) → ((x : Entry) → p (but_for_faults x) ≡ p x) → (xs : List Entry) → count_by p (told_by xs) ≡ count_by p xs
counted p same xs = summed (λ x. cond (p x) 1 0) (λ x. ap (λ b. cond b 1 0) (same x)) xs

-- a number that doesn't speak of them is the same of entries that tell the same
by_told : (F : List Entry → ℕ) → ((xs : List Entry) → F (told_by xs) ≡ F xs) → (xs ys : List Entry) → told_by ys ≡ told_by xs → F ys ≡ F xs
by_told F same xs ys told = sym (same ys) ∙ (ap F told ∙ same xs)

summary_one : (history other : HistoryState) → told_by other.entries ≡ told_by history.entries → summary_text other ≡ summary_text history
summary_one history other told =
    let xs = history.entries in
    let ys = other.entries in
    let entries : length ys ≡ length xs = by_told length (λ es. length-map es but_for_faults) xs ys told in
    let reads : reads_of ys ≡ reads_of xs = by_told reads_of (counted (λ e. gives_bytes e.reply) (λ x. refl)) xs ys told in
    let writes : writes_of ys ≡ writes_of xs = by_told writes_of (counted (λ e. is_done_write e.request e.reply) (λ x. refl)) xs ys told in
    let moves : moves_in ys ≡ moves_in xs = by_told moves_in (summed (λ e. length e.moves) (λ x. refl)) xs ys told in
    let refused : refused_of ys ≡ refused_of xs = by_told refused_of (counted (λ e. refuses e.reply) (λ x. refl)) xs ys told in
    let sum : sum_of ys ≡ sum_of xs =
    ap (λ n. n % 2 ^ 32) (by_told (λ es. sum_by (λ e. bytes_sum e.reply) es) (summed (λ e. bytes_sum e.reply) (λ x. refl)) xs ys told) in
    cc

-- ---- what is told

told_one :
    (form : Form) (history other : HistoryState) →
    other.actors ≡ history.actors →
    told_by other.entries ≡ told_by history.entries →
    OnFalse (tells_faults form) (form_text form other ≡ form_text form history)
told_one Text history other actors told = determined_law_holds.text history other actors told
told_one (Trace header) history other actors told = tt
told_one Summary history other actors told = summary_one history other told

written_one :
    (held held' to to' : Option (List ℕ)) (text other : List ℕ) →
    other ≡ text →
    held' ≡ held_with held text →
    to' ≡ held_with to other →
    to ≡ held →
    to' ≡ held'
written_one held held' to to' text other same wrote wrote_other before =
    wrote_other ∙ (ap (λ t. held_with to t) same ∙ (ap (λ h. held_with h text) before ∙ sym wrote))

-- ---- what was answered of one text

-- The lines that were taken are the first of all lines of the text.
record AreFirst (lines all : List (List ℕ)) : Type 0 where
  rest : List (List ℕ)
  split : all ≡ lines ++ rest

taken_first :
    (bytes taken : List ℕ) (source' : SourceState) (lines : List (List ℕ)) →
    TookOf bytes taken source' →
    AreLines source' taken lines →
    AreFirst lines (all_lines bytes)
taken_first bytes taken source' lines took (inl ended) =
    let grown = all_lines-grow taken took.rest in
    record { rest = grown.more; split = ap all_lines took.split ∙ (grown.is ∙ ap (λ ls. ls ++ grown.more) (sym ended)) }
taken_first bytes taken source' lines took (inr all) =
    let whole : bytes ≡ taken = took.split ∙ (ap (λ rest. taken ++ rest) (took.end all.0) ∙ append-nil taken) in
    record { rest = []; split = ap all_lines whole ∙ (sym all.1 ∙ sym (append-nil lines)) }

-- A full history asks for one more of all lines.
full_of :
    (grain : GrainSize) (w last : Whole) (bytes taken : List ℕ) (source' : SourceState) (entries : List Entry) →
    TookOf bytes taken source' →
    OfFirstTaken source' taken (λ first. WantsMore grain reading w (cut first).segments entries last) →
    WantsMore grain reading w (cut (all_lines bytes)).segments entries last
full_of grain w last bytes taken source' entries took full =
    let of = full.of in
    let lines = taken_first bytes taken source' full.lines took full.are in
    let grown : HasMoreSegments (cut of.first).segments (cut (of.first ++ (of.rest ++ lines.rest))).segments = cut_more of.first (of.rest ++ lines.rest) in
    let P : List (List ℕ) → Type 0 = λ ls. WantsMore grain reading w (cut ls).segments entries last in
    let Q : List Segment → Type 0 = λ segs. WantsMore grain reading w segs entries last in
    subst P
    (sym (lines.split ∙ (ap (λ ls. ls ++ lines.rest) of.split ∙ append_assoc of.first of.rest lines.rest)))
    (subst Q (sym grown.is) (WantsMore-more grain reading w last (cut of.first).segments grown.more entries of.holds))

-- Up to the limit the bytes of two inputs that are too long are the same.
front_of : (bytes kept rest : List ℕ) → bytes ≡ kept ++ rest → length kept ≡ input_limit → take input_limit bytes ≡ kept
front_of bytes kept rest split long = ap (take input_limit) split ∙ (ap (λ n. take n (kept ++ rest)) (sym long) ∙ take-append_seam kept rest)

kept_of : (bytes taken kept rest : List ℕ) (past : ℕ) → bytes ≡ taken ++ rest → taken ≡ kept ++ past ∷ [] → bytes ≡ kept ++ past ∷ rest
kept_of bytes taken kept rest past split cut = split ∙ (ap (λ bs. bs ++ rest) cut ∙ append_assoc kept (past ∷ []) rest)

-- What the entries of a session are that ended so, over these bytes: a run of these lines, or the first of them.
abbrev lines_by : Ended → List ℕ → List (List ℕ)
lines_by ended.TooLong bytes = ended_lines (take input_limit bytes)
lines_by _ bytes = all_lines bytes

abbrev segments_by : Ended → List ℕ → List Segment
segments_by e bytes = (cut (lines_by e bytes)).segments

abbrev TellsOf : Ended → GrainSize → List ℕ → Whole → Whole → List Entry → Type 0
TellsOf ended.Done grain bytes w last entries = IsRun grain reading w (segments_by ended.Done bytes) entries last
TellsOf ended.Unended grain bytes w last entries = IsRun grain reading w (segments_by ended.Unended bytes) entries last
TellsOf ended.LogFull grain bytes w last entries =
    WantsMore grain reading w (segments_by ended.LogFull bytes) entries last × (length entries ≡ 262144)
TellsOf ended.TooLong grain bytes w last entries = IsRun grain reading w (segments_by ended.TooLong bytes) entries last
TellsOf _ grain bytes w last entries = ⊥

-- All lines of these bytes were taken and answered.
all_answered :
    (grain : GrainSize) (bytes taken : List ℕ) (source' : SourceState) (entries : List Entry) (w last : Whole) →
    TookOf bytes taken source' →
    IsAtEnd source' →
    IsRun grain reading w (cut (all_lines taken)).segments entries last →
    IsRun grain reading w (cut (all_lines bytes)).segments entries last
all_answered grain bytes taken source' entries w last took end run =
    let whole : bytes ≡ taken = took.split ∙ (ap (λ rest. taken ++ rest) (took.end end) ∙ append-nil taken) in
    let P : List ℕ → Type 0 = λ bs. IsRun grain reading w (cut (all_lines bs)).segments entries last in
    subst P (sym whole) run

tells_of :
    (e : Ended) (form : Form) (grain : GrainSize) (bytes taken : List ℕ) (source source' : SourceState) (call : Call) (w last : Whole) →
    IsByBytes (status_of e) →
    TookOf bytes taken source' →
    EndsAs e (session_of e form source source' call) (plain_runs grain w last) taken →
    TellsOf e grain bytes w last call.history.entries
tells_of ended.Done form grain bytes taken source source' call w last by_bytes took ends =
    all_answered grain bytes taken source' call.history.entries w last took ends.0 ends.2
tells_of ended.Unended form grain bytes taken source source' call w last by_bytes took ends =
    all_answered grain bytes taken source' call.history.entries w last took ends.0 ends.2
tells_of ended.LogFull form grain bytes taken source source' call w last by_bytes took ends =
    (full_of grain w last bytes taken source' call.history.entries took ends.1, ends.2)
tells_of ended.TooLong form grain bytes taken source source' call w last by_bytes took ends =
    let kept = kept_of bytes taken ends.0 took.rest ends.1 took.split ends.2 in
    let P : List ℕ → Type 0 = λ bs. IsRun grain reading w (cut (ended_lines bs)).segments call.history.entries last in
    subst P (sym (front_of bytes ends.0 (ends.1 ∷ took.rest) kept ends.3)) ends.4
tells_of ended.ReadFault form grain bytes taken source source' call w last by_bytes took ends = absurd by_bytes
tells_of ended.WriteFault form grain bytes taken source source' call w last by_bytes took ends = absurd by_bytes
tells_of ended.NoMemory form grain bytes taken source source' call w last by_bytes took ends = absurd by_bytes

-- No block ends in those lines either.
alone_by : (e : Ended) (bytes : List ℕ) → HaveNoBlock bytes → AreLinesAlone (segments_by e bytes)
alone_by ended.TooLong bytes alone =
    let first : List ℕ = take input_limit bytes in
    let grown = all_lines-grow first (drop input_limit bytes) in
    AreLines-front (ended_lines first) grown.more (all_lines bytes)
    (ap all_lines (sym (take-append-drop input_limit bytes)) ∙ grown.is) alone
alone_by ended.Done bytes alone = alone
alone_by ended.Unended bytes alone = alone
alone_by ended.LogFull bytes alone = alone
alone_by ended.ReadFault bytes alone = alone
alone_by ended.WriteFault bytes alone = alone
alone_by ended.NoMemory bytes alone = alone

-- All of its text was written.
got_text :
    (e : Ended) (form : Form) (grain : GrainSize) (taken : List ℕ) (source source' : SourceState) (call : Call) (w last : Whole) →
    IsByBytes (status_of e) →
    EndsAs e (session_of e form source source' call) (plain_runs grain w last) taken →
    call.sink'.held ≡ held_with call.sink.held (form_text form call.history)
got_text ended.Done form grain taken source source' call w last by_bytes ends = ends.4.0
got_text ended.Unended form grain taken source source' call w last by_bytes ends = ends.4.0
got_text ended.LogFull form grain taken source source' call w last by_bytes ends = ends.3.0
got_text ended.TooLong form grain taken source source' call w last by_bytes ends = ends.5.0
got_text ended.ReadFault form grain taken source source' call w last by_bytes ends = absurd by_bytes
got_text ended.WriteFault form grain taken source source' call w last by_bytes ends = absurd by_bytes
got_text ended.NoMemory form grain taken source source' call w last by_bytes ends = absurd by_bytes

-- Two that ended so over the same bytes, in which no block ends, have one outcome.
one_of_two :
    (e : Ended) (grain : GrainSize) (bytes : List ℕ) (w v last other : Whole) (xs ys : List Entry) →
    AreLinesAlone (segments_by e bytes) →
    TellTheSame w v →
    AreSmooth xs →
    AreSmooth ys →
    TellsOf e grain bytes w last xs →
    TellsOf e grain bytes v other ys →
    IsOneOutcome xs ys last other
one_of_two ended.Done grain bytes w v last other xs ys alone same smooth smooth_other one two =
    determined_law_holds.whole grain reading (Session (segments_by ended.Done bytes)) w v last other xs ys alone same smooth smooth_other one two
one_of_two ended.Unended grain bytes w v last other xs ys alone same smooth smooth_other one two =
    determined_law_holds.whole grain reading (Session (segments_by ended.Unended bytes)) w v last other xs ys alone same smooth smooth_other one two
one_of_two ended.TooLong grain bytes w v last other xs ys alone same smooth smooth_other one two =
    determined_law_holds.whole grain reading (Session (segments_by ended.TooLong bytes)) w v last other xs ys alone same smooth smooth_other one two
one_of_two ended.LogFull grain bytes w v last other xs ys alone same smooth smooth_other one two =
    let a : Agenda = Session (segments_by ended.LogFull bytes) in
    determined_law_holds.as_many grain reading a w v last other xs ys alone same smooth smooth_other
    (GoesSome-asking (session_rules grain reading) a w last xs one.0)
    (GoesSome-asking (session_rules grain reading) a v other ys two.0)
    (one.1 ∙ sym two.1)
one_of_two ended.ReadFault grain bytes w v last other xs ys alone same smooth smooth_other one two = absurd one
one_of_two ended.WriteFault grain bytes w v last other xs ys alone same smooth smooth_other one two = absurd one
one_of_two ended.NoMemory grain bytes w v last other xs ys alone same smooth smooth_other one two = absurd one

-- ---- two calls

-- Lines that were answered bring no new name.
lines_name :
    (grain : GrainSize) (w last : Whole) (segs : List Segment) (end : Agenda) (entries : List Entry) →
    AreLinesAlone segs →
    Goes (session_rules grain reading) (Session segs) w entries end last →
    last.actors ≡ w.actors
lines_name grain w last segs end entries alone goes =
    (AreSteps-keeps grain w last entries (AreSteps-goes grain reading (Session segs) end w last entries alone goes)).actors

actors_told :
    (e : Ended) (grain : GrainSize) (bytes : List ℕ) (w last : Whole) (entries : List Entry) →
    AreLinesAlone (segments_by e bytes) →
    TellsOf e grain bytes w last entries →
    last.actors ≡ w.actors
actors_told ended.Done grain bytes w last entries alone tells =
    lines_name grain w last (segments_by ended.Done bytes) tells.end entries alone tells.goes
actors_told ended.Unended grain bytes w last entries alone tells =
    lines_name grain w last (segments_by ended.Unended bytes) tells.end entries alone tells.goes
actors_told ended.LogFull grain bytes w last entries alone tells =
    lines_name grain w last (segments_by ended.LogFull bytes) tells.0.end entries alone tells.0.goes
actors_told ended.TooLong grain bytes w last entries alone tells =
    lines_name grain w last (segments_by ended.TooLong bytes) tells.end entries alone tells.goes
actors_told ended.ReadFault grain bytes w last entries alone tells = absurd tells
actors_told ended.WriteFault grain bytes w last entries alone tells = absurd tells
actors_told ended.NoMemory grain bytes w last entries alone tells = absurd tells

-- The actors of a history of which all is told are those that it began with.
actors_are :
    (form : Form) (grain : GrainSize) (bytes : List ℕ) (source source' : SourceState) (call : Call) →
    (ends : PlainEnds form grain source source' call) →
    IsByBytes call.status →
    AreLinesAlone (segments_by ends.ended bytes) →
    TellsOf ends.ended grain bytes (first_told call.disks) ends.last call.history.entries →
    call.history.actors ≡ codes "main" ∷ []
actors_are form grain bytes source source' call ends by_bytes alone tells = named ends.named
  where
    named : IsOf ends.last call.history ⊎ ((call.status ≡ status.NoMemory) × (call.history ≡ empty)) → call.history.actors ≡ codes "main" ∷ []
    named (inl of) = sym of.actors ∙ actors_told ends.ended grain bytes (first_told call.disks) ends.last call.history.entries alone tells
    named (inr starved) = absurd (subst IsByBytes starved.0 by_bytes)

OnFalse-map : {P Q : Type 0} → (b : Bool) → (P → Q) → OnFalse b P → OnFalse b Q
OnFalse-map false f p = f p
OnFalse-map true f p = tt

sessions :
    (form : Form) (grain : GrainSize) (bytes : List ℕ) (call other : Call) →
    HaveNoBlock bytes →
    WentAlike call other →
    ReadsOf form grain bytes call →
    ReadsOf form grain bytes other →
    HaveOneOutcome form call other
sessions form grain bytes call other alone alike a b =
    let e : Ended = a.ends.ended in
    let w : Whole = first_told call.disks in
    let v : Whole = first_told other.disks in
    let by_bytes : IsByBytes (status_of e) = subst IsByBytes a.ends.status alike.by_bytes in
    let by_bytes_other : IsByBytes (status_of b.ends.ended) = subst IsByBytes (sym alike.status ∙ b.ends.status) alike.by_bytes in
    let same : b.ends.ended ≡ e = same_ended e b.ends.ended (sym b.ends.status ∙ (alike.status ∙ a.ends.status)) in
    let tells = tells_of e form grain bytes a.ends.session.bytes a.source a.source' call w a.ends.last by_bytes a.took a.ends.session.ends in
    let tells_other =
    tells_of b.ends.ended form grain bytes b.ends.session.bytes b.source b.source' other v b.ends.last by_bytes_other b.took b.ends.session.ends in
    let P : Ended → Type 0 = λ x. TellsOf x grain bytes v b.ends.last other.history.entries in
    let one : IsOneOutcome call.history.entries other.history.entries a.ends.last b.ends.last =
    one_of_two e grain bytes w v a.ends.last b.ends.last call.history.entries other.history.entries (alone_by e bytes alone)
    (ap (λ (pools : List Pool). without_faults (opened pools)) alike.dealt) alike.smooth alike.smooth_other tells (subst P same tells_other) in
    let text : OnFalse (tells_faults form) (form_text form other.history ≡ form_text form call.history) =
    told_one form call.history other.history
    (actors_are form grain bytes b.source b.source' other b.ends (subst IsByBytes (sym alike.status) alike.by_bytes) (alone_by b.ends.ended bytes alone) tells_other
    ∙ sym (actors_are form grain bytes a.source a.source' call a.ends alike.by_bytes (alone_by e bytes alone) tells)) one.entries in
    record {
      entries = one.entries;
      text = text;
      written = OnFalse-map (tells_faults form) (λ text. written_one call.sink.held call.sink'.held other.sink.held other.sink'.held (form_text form call.history) (form_text form other.history) text
          (got_text e form grain a.ends.session.bytes a.source a.source' call w a.ends.last by_bytes a.ends.session.ends)
          (got_text b.ends.ended form grain b.ends.session.bytes b.source b.source' other v b.ends.last by_bytes_other b.ends.session.ends))
          text;
    }

-- ---- calls of the program

-- A source that had these bytes gave the first of them.
record Left (bytes taken : List ℕ) (after : Option (List ℕ)) : Type 0 where
  rest : List ℕ
  split : bytes ≡ taken ++ rest
  end : IfSome after (λ left. left ≡ []) → rest ≡ []

left_of :
    (bytes taken : List ℕ) (before after : Option (List ℕ)) →
    before ≡ Some bytes →
    before ≡ option_map (λ rest. taken ++ rest) after →
    Left bytes taken after
left_of bytes taken before None has gave =
    let none : Some bytes ≡ None = sym has ∙ gave in
    absurd (cc none)
left_of bytes taken before (Some rest) has gave =
    let some : Some bytes ≡ Some (taken ++ rest) = sym has ∙ gave in
    let split : bytes ≡ taken ++ rest = cc some in
    record { rest = rest; split = split; end = λ none. none }

took_of :
    (bytes taken : List ℕ) (source source' : SourceState) →
    source.left ≡ Some bytes →
    Gave source taken source' →
    TookOf bytes taken source'
took_of bytes taken source source' has gave =
    let left = left_of bytes taken source.left source'.left has gave in
    record { rest = left.rest; split = left.split; end = left.end }

reads_of_run : (options : RunOptions) (bytes : List ℕ) (call : Call) → call.source.left ≡ Some bytes → RunEnds options call →
    ReadsOf (run_form options call.disks) options.grain bytes call
reads_of_run options bytes call has run =
    record {
      source = call.source;
      source' = call.source';
      ends = run.ends;
      took = took_of bytes run.ends.session.bytes call.source call.source' has run.ends.session.gave;
    }

reads_of_drill : (number : ℕ) (call : Call) → DrillEnds number call → ReadsOf Summary K64 (session_text number) call
reads_of_drill number call drill =
    let session = drill.ends.session in
    record {
      source = drill_source number;
      source' = drill.left;
      ends = drill.ends;
      took = took_of (session_text number) session.bytes (drill_source number) drill.left refl session.gave;
    }

abbrev form_over : RunOptions → List Pool → Form
form_over options pools = if options.trace then Trace (record { grain = options.grain; lanes = map lane_disks pools }) else Text

-- Disks dealt alike are told alike.
same_form : (asked : Asked) (disks other : List DiskState) → AreAlikeDealt disks other → form_of asked other ≡ form_of asked disks
same_form (Run options) disks other alike = ap (λ pools. form_over options pools) alike
same_form (Drill number) disks other alike = refl
same_form Check disks other alike = refl
same_form (Stop number) disks other alike = refl

-- Two that ran a session, over disks dealt alike.
by_sessions :
    (asked : Asked) (grain : GrainSize) (bytes : List ℕ) (call other : Call) →
    HaveNoBlock bytes →
    WentAlike call other →
    ReadsOf (form_of asked call.disks) grain bytes call →
    ReadsOf (form_of asked other.disks) grain bytes other →
    HaveOneOutcome (form_of asked call.disks) call other
by_sessions asked grain bytes call other alone alike reads reads_other =
    let P : Form → Type 0 = λ form. ReadsOf form grain bytes other in
    sessions (form_of asked call.disks) grain bytes call other alone alike reads
    (subst P (same_form asked call.disks other.disks alike.dealt) reads_other)

calls :
    (asked : Asked) (bytes : List ℕ) (call other : Call) →
    AsksNoBlock asked bytes →
    WentAlike call other →
    HasBytes asked bytes call.source →
    HasBytes asked bytes other.source →
    Theorem (Some asked) call →
    Theorem (Some asked) other →
    HaveOneOutcome (form_of asked call.disks) call other
calls (Run options) bytes call other alone alike has has_other one two =
    by_sessions (Run options) options.grain bytes call other alone alike (reads_of_run options bytes call has one.ends)
    (reads_of_run options bytes other has_other two.ends)
calls (Drill number) bytes call other alone alike has has_other one two =
    by_sessions (Drill number) K64 (session_text number) call other (drill_alone number) alike (reads_of_drill number call one.ends)
    (reads_of_drill number other two.ends)
calls Check bytes call other alone alike has has_other one two =
    let checked = one.ends.checked in
    let checked_other = two.ends.checked in
    checks bytes call other alike.status alike.by_bytes one.ends two.ends
    (took_of bytes (checked.bytes ++ checked.past) call.source call.source' has checked.taken.gave)
    (took_of bytes (checked_other.bytes ++ checked_other.past) other.source other.source' has_other checked_other.taken.gave)
calls (Stop number) bytes call other alone alike has has_other one two = absurd alone

pub outcome_law_holds : OutcomeLaw
outcome_law_holds = record { sessions = sessions; calls = calls }
