-- What is left of a session goes on without an entry, and behind one.
use Rattle.std.proofs.Common.{◌≡◌, ◌≢◌, ◌↔◌, ℕ, Bool, true, false, cond, IsTrue, IfOk, Option, Some, None, Result, Ok, Err, List, [], ◌∷◌, refl, sym, ap, ap₂, subst, ◌∙◌}
use Rattle.std.specs.Option.{option_map}
use Rattle.fc_agenda.proofs.Going.{Goes-append, Goes-pass}
use Rattle.fc_agenda.specs.Goes.{Goes, stays, passes, begins}
use Rattle.fc_base.specs.declared.behind.Behind.{Behind}
use Rattle.fc_base.specs.declared.behind.Behind.TheVariants.{Passing as PassingSeconds, Mapping as MappingOf, Start, Undo}
use Rattle.fc_base.specs.declared.command.Line.{Line}
use Rattle.fc_base.specs.declared.command.Scope.TheVariants.{Free}
use Rattle.fc_base.specs.declared.command.ScriptLine.{ScriptLine}
use Rattle.fc_base.specs.declared.fault.WordFault.{WordFault}
use Rattle.fc_base.specs.declared.ids.GrainNo.{GrainNo}
use Rattle.fc_base.specs.declared.request.Reply.{Reply}
use Rattle.fc_base.specs.declared.request.Request.{Request}
use Rattle.fc_base.specs.declared.size.GrainSize.{GrainSize}
use Rattle.fc_blocks.specs.Reading.{script_line}
use Rattle.fc_blocks.specs.Segments.{Segment, single, together}
use Rattle.fc_blocks.specs.declared.block.ActorRead.{ActorRead}
use Rattle.fc_blocks.specs.declared.block.BlockRead.{BlockRead}
use Rattle.fc_books.specs.Books.{Books}
use Rattle.fc_check_lines.proofs.Leading.{over_waits}
use Rattle.fc_check_lines.proofs.SecondsPass.{named_behind, named_fill, passes_to}
use Rattle.fc_check_lines.specs.Bytes.{IsSegment, by_grammar, segments_in}
use Rattle.fc_check_lines.specs.Leading.{LeadTo, Waits}
use Rattle.fc_check_lines.specs.Passing.{PassTo, PassesUpTo, fill_asked}
use Rattle.fc_check_lines.specs.Standing.{BeginsAs, GoesOnTo, IsLeftBehind, IsLeftOfLine, IsOverWith, MainAsks, TellsNext, agenda_of, left_of}
use Rattle.fc_check_lines.specs.declared.lines.Asking.{Asking}
use Rattle.fc_check_lines.specs.declared.lines.Asking.TheVariants.{Nothing, Own as OwnAsked, Seconds as SecondsAsked, Faults as FaultsAsked, Actors as ActorsAsked}
use Rattle.fc_check_lines.specs.declared.segment.SegmentRead.{SegmentRead}
use Rattle.fc_check_lines.specs.declared.segment.SegmentRead.TheVariants.{Single, Block}
use Rattle.fc_check_requests.specs.Lines.{script_behind}
use Rattle.fc_entry.specs.declared.entry.Entry.{Entry}
use Rattle.fc_legal.specs.Agenda.{Actors, Agenda, Asks, Faults, Own, Reading, Seconds, Session, behind_entry, behind_fill, behind_last, behind_line, is_done, segment_read, session_rules, without_entry, without_fill}
use Rattle.fc_legal.specs.Asked.{asked}
use Rattle.fc_legal.specs.Presets.{asked_behind}
use Rattle.fc_legal.specs.Scripts.{Script, are_done, behind_first, behind_next, faults_asked, line_asked, names_with, next_by, next_request, scripts_of}
use Rattle.fc_legal.specs.Seconds.{Passing, Work, all_work, fill_of, next_fill, seconds_begun}
use Rattle.fc_legal.specs.Whole.{Whole, lanes}
use Rattle.fc_words.specs.Lines.{line_of}
use Rattle.law_stands.specs.Names.{named}

-- ---- a line or a block is begun

asked_read : (grain : GrainSize) (b : Books) (read : Result Line WordFault) → line_asked grain b (script_line read) ≡ asked grain b read
asked_read grain b (Ok line) = refl
asked_read grain b (Err fault) = refl

behind_read : (b : Books) (read : Result Line WordFault) → script_behind b (script_line read) ≡ behind_line b read
behind_read b (Ok line) = refl
behind_read b (Err fault) = refl

module _ (grain : GrainSize) (w : Whole) where
  single_read : (line : ScriptLine) (s : Segment) (segs : List Segment) (names : List (List ℕ)) → IsSegment (Single line) s →
      Own (line_asked grain w.books line) (script_behind w.books line) segs ≡ segment_read grain by_grammar (named names w) s segs
  single_read line (single bytes) segs names read =
      ap (λ l. Own (line_asked grain w.books l) (script_behind w.books l) segs) read
      ∙ ap₂ (λ rs behind. Own rs behind segs) (asked_read grain w.books (line_of Free bytes)) (behind_read w.books (line_of Free bytes))
  single_read line (together block) segs names read = absurd read

  block_read : (block : BlockRead) (s : Segment) (segs : List Segment) (names : List (List ℕ)) → IsSegment (Block block) s →
      Faults (faults_asked block.faults) block.actors segs ≡ segment_read grain by_grammar (named names w) s segs
  block_read block (single bytes) segs names read = absurd read
  block_read block (together other) segs names read = ap (λ (b : BlockRead). Faults (faults_asked b.faults) b.actors segs) read

  pub single_begins :
      {E : Type 0} (r : Result Asking E) (segment : SegmentRead) (line : ScriptLine) →
      segment ≡ Single line →
      IfOk r (λ asking. asking ≡ OwnAsked (line_asked grain w.books line) (script_behind w.books line)) →
      IfOk r (λ asking. BeginsAs grain w segment asking)
  single_begins (Ok asking) segment line is begun = λ s segs names read.
      let P : SegmentRead → Type 0 = λ found. IsSegment found s in
      ap (λ a. agenda_of a segs) begun ∙ single_read line s segs names (subst P is read)
  single_begins (Err refused) segment line is begun = tt

  pub block_begins :
      (segment : SegmentRead) (block : BlockRead) (requests : List Request) (asking : Asking) →
      segment ≡ Block block →
      requests ≡ faults_asked block.faults →
      asking ≡ FaultsAsked requests block.actors →
      BeginsAs grain w segment asking
  block_begins segment block requests asking is told begun = λ s segs names read.
      let P : SegmentRead → Type 0 = λ found. IsSegment found s in
      ap (λ a. agenda_of a segs) begun ∙ ap (λ rs. Faults rs block.actors segs) told ∙ block_read block s segs names (subst P is read)

-- ---- what was begun goes on

module _ (grain : GrainSize) (read : Reading) where
  abbrev GoesOn : Whole → Option Asking → Asking → Type 0
  GoesOn w left asking = GoesOnTo grain read asking w left w

  stays_there : (asking : Asking) (w : Whole) → ((segs : List Segment) → Waits grain read (agenda_of asking segs) w) → GoesOn w (Some asking) asking
  stays_there asking w waits =
      record {
        goes = λ segs. stays;
        waits = λ found segs is.
            let same : asking ≡ found = cc is in
            let P : Asking → Type 0 = λ a. Waits grain read (agenda_of a segs) w in
            subst P same (waits segs);
      }

  ends_there : (asking : Asking) (w : Whole) → ((segs : List Segment) → without_entry grain read (agenda_of asking segs) w ≡ Some (Session segs)) → GoesOn w None asking
  ends_there asking w passed = record { goes = λ segs. passes (passed segs) stays; waits = λ found segs is. absurd (cc is) }

  pub nothing_goes : (asking : Asking) (w : Whole) → asking ≡ Nothing → GoesOnTo grain read asking w None w
  nothing_goes asking w is = subst (GoesOn w None) (sym is) (record { goes = λ segs. stays; waits = λ found segs some. absurd (cc some) })

  -- requests of a line
  own_passes : (requests : List Request) (behind : Behind) (w : Whole) (segs : List Segment) → requests ≡ [] → without_entry grain read (Own requests behind segs) w ≡ Some (Session segs)
  own_passes requests behind w segs none = ap (λ rs. without_entry grain read (Own rs behind segs) w) none

  own_waits : (requests : List Request) (behind : Behind) (w : Whole) (segs : List Segment) → requests ≢ [] → Waits grain read (Own requests behind segs) w
  own_waits [] behind w segs some = absurd (some refl)
  own_waits (r ∷ rest) behind w segs some = record { none_passes = refl; none_begins = λ b v on. on }

  pub own_ends : (asking : Asking) (requests : List Request) (behind : Behind) (w : Whole) → asking ≡ OwnAsked requests behind → requests ≡ [] → GoesOnTo grain read asking w None w
  own_ends asking requests behind w is none =
      subst (GoesOn w None) (sym is) (ends_there (OwnAsked requests behind) w (λ segs. own_passes requests behind w segs none))

  pub own_stays : (asking : Asking) (requests : List Request) (behind : Behind) (w : Whole) → asking ≡ OwnAsked requests behind → requests ≢ [] →
      GoesOnTo grain read asking w (Some (OwnAsked requests behind)) w
  own_stays asking requests behind w is some =
      subst (GoesOn w (Some (OwnAsked requests behind))) (sym is) (stays_there (OwnAsked requests behind) w (λ segs. own_waits requests behind w segs some))

  -- faults of a block
  faults_wait : (requests : List Request) (actors : List ActorRead) (w : Whole) (segs : List Segment) → requests ≢ [] → Waits grain read (Faults requests actors segs) w
  faults_wait [] actors w segs some = absurd (some refl)
  faults_wait (r ∷ rest) actors w segs some = record { none_passes = refl; none_begins = λ b v on. on }

  pub faults_stay : (asking : Asking) (requests : List Request) (actors : List ActorRead) (w : Whole) → asking ≡ FaultsAsked requests actors → requests ≢ [] →
      GoesOnTo grain read asking w (Some (FaultsAsked requests actors)) w
  faults_stay asking requests actors w is some =
      subst (GoesOn w (Some (FaultsAsked requests actors))) (sym is)
      (stays_there (FaultsAsked requests actors) w (λ segs. faults_wait requests actors w segs some))

  -- seconds
  fill_waits : (w : Whole) (p : Passing) (segs : List Segment) (fill : Option (Work × GrainNo)) → fill ≢ None → without_fill grain w p fill segs ≡ None
  fill_waits w p segs None some = absurd (some refl)
  fill_waits w p segs (Some next) some = refl

  second_waits : (w : Whole) (p : Passing) (segs : List Segment) → PassesUpTo true grain w p → Waits grain read (Seconds p segs) w
  second_waits w p segs fill = record { none_passes = fill_waits w p segs (next_fill grain w p) fill; none_begins = λ b v on. on }

  pub seconds_stay :
      (asking : Asking) (p q : Passing) (fills : Bool) (w : Whole) →
      asking ≡ SecondsAsked p →
      fills ≡ true →
      PassTo grain w p q →
      PassesUpTo fills grain w q →
      GoesOnTo grain read asking w (Some (SecondsAsked q)) w
  seconds_stay asking p q fills w is test passed upto =
      let P : Bool → Type 0 = λ b. PassesUpTo b grain w q in
      let fill : PassesUpTo true grain w q = subst P test upto in
      subst (GoesOn w (Some (SecondsAsked q))) (sym is)
      (record {
        goes = λ segs. passed read segs;
        waits = λ found segs some.
            let one : SecondsAsked q ≡ found = cc some in
            let Q : Asking → Type 0 = λ a. Waits grain read (agenda_of a segs) w in
            subst Q one (second_waits w q segs fill);
      })

  pub seconds_end :
      (asking : Asking) (p q : Passing) (fills : Bool) (w : Whole) →
      asking ≡ SecondsAsked p →
      fills ≡ false →
      PassTo grain w p q →
      PassesUpTo fills grain w q →
      GoesOnTo grain read asking w None w
  seconds_end asking p q fills w is test passed upto =
      let P : Bool → Type 0 = λ b. PassesUpTo b grain w q in
      let over : PassesUpTo false grain w q = subst P test upto in
      subst (GoesOn w None) (sym is)
      (record {
        goes = λ segs. Goes-pass (session_rules grain read) (Seconds p segs) (Seconds q segs) (Session segs) w w [] (passed read segs) (passes_to grain w read segs q None over.0 over.1);
        waits = λ found segs some. absurd (cc some);
      })

  -- the actors of a block
  abbrev AreActors : Asking → List Script → Type 0
  AreActors asking scripts = (segs : List Segment) → agenda_of asking segs ≡ Actors scripts segs

  actors_pass : (asking : Asking) (scripts : List Script) (w : Whole) (segs : List Segment) (done : Bool) → AreActors asking scripts → are_done scripts ≡ done →
      without_entry grain read (agenda_of asking segs) w ≡ cond done (Some (Session segs)) None
  actors_pass asking scripts w segs done are e =
      ap (λ a. without_entry grain read a w) (are segs) ∙ ap (λ d. cond {A = Option Agenda} d (Some (Session segs)) None) e

  actors_wait : (asking : Asking) (scripts : List Script) (w : Whole) (segs : List Segment) → AreActors asking scripts → are_done scripts ≡ false →
      Waits grain read (agenda_of asking segs) w
  actors_wait asking scripts w segs are e =
      record {
        none_passes = actors_pass asking scripts w segs false are e;
        none_begins = λ b v on.
            let P : Agenda → Type 0 = λ a. (session_rules grain read).Begins a w b v in
            subst P (are segs) on;
      }

  actors_by : (asking : Asking) (scripts : List Script) (w : Whole) (done : Bool) → AreActors asking scripts → are_done scripts ≡ done → GoesOn w (cond done None (Some asking)) asking
  actors_by asking scripts w true are e = ends_there asking w (λ segs. actors_pass asking scripts w segs true are e)
  actors_by asking scripts w false are e = stays_there asking w (λ segs. actors_wait asking scripts w segs are e)

  pub actors_left : (asking found : Asking) (scripts : List Script) (left : Option Asking) (w : Whole) →
      asking ≡ found →
      ((segs : List Segment) → agenda_of found segs ≡ Actors scripts segs) →
      left ≡ cond (are_done scripts) None (Some found) →
      GoesOnTo grain read asking w left w
  actors_left asking found scripts left w is are says =
      let P : Option Asking → Type 0 = λ l. GoesOnTo grain read found w l w in
      subst (GoesOn w left) (sym is) (subst P (sym says) (actors_by found scripts w (are_done scripts) are refl))

  pub faults_begin :
      (asking found : Asking) (requests : List Request) (actors : List ActorRead) (scripts : List Script) (old new : List (List ℕ)) (whole : Whole) (left : Option Asking) →
      asking ≡ FaultsAsked requests actors →
      requests ≡ [] →
      new ≡ names_with old actors →
      scripts ≡ scripts_of grain (lanes whole) whole.books new actors →
      ((segs : List Segment) → agenda_of found segs ≡ Actors scripts segs) →
      left ≡ cond (are_done scripts) None (Some found) →
      GoesOnTo grain read asking (named old whole) left (named new whole)
  faults_begin asking found requests actors scripts old new whole left is none named_so scripted are says =
      let rest : GoesOnTo grain read found (named new whole) left (named new whole) = actors_left found found scripts left (named new whole) refl are says in
      let first : (segs : List Segment) → agenda_of asking segs ≡ Faults [] actors segs = λ segs. ap (λ a. agenda_of a segs) is ∙ ap (λ rs. Faults rs actors segs) none in
      record {
        goes = λ segs.
            let P : Agenda → Type 0 = λ a. Goes (session_rules grain read) a (named old whole) [] (left_of left segs) (named new whole) in
            subst P (sym (first segs))
            (begins {b = agenda_of found segs} {v = named new whole}
            (ap (λ names. named names whole) named_so, are segs ∙ ap (λ ss. Actors ss segs) scripted)
            (rest.goes segs));
        waits = rest.waits;
      }

  -- ---- as far as it goes

  abbrev Way : Agenda → Whole → Agenda → Whole → Type 0
  Way a w b v = Goes (session_rules grain read) a w [] b v

  pub waits_first : (a : Agenda) (w : Whole) → Way a w a w
  waits_first a w = stays

  waits_on : (a : Agenda) (w v u : Whole) (asking : Asking) (left : Option Asking) (segs : List Segment) → Way a w (agenda_of asking segs) v → GoesOnTo grain read asking v left u →
      Way a w (left_of left segs) u
  waits_on a w v u asking left segs way on =
      Goes-append (session_rules grain read) a (agenda_of asking segs) (left_of left segs) w v u [] [] way (on.goes segs)

  -- it goes on to nothing
  pub waits_none :
      (a : Agenda) (w v u : Whole) (asking : Asking) (left : Option Asking) (segs : List Segment) →
      Way a w (agenda_of asking segs) v →
      GoesOnTo grain read asking v left u →
      left ≡ None →
      Way a w (Session segs) u
  waits_none a w v u asking left segs way on none =
      let P : Option Asking → Type 0 = λ l. Way a w (left_of l segs) u in
      subst P none (waits_on a w v u asking left segs way on)

  -- the next line or block is begun
  pub waits_next :
      (a : Agenda) (w v : Whole) (bytes behind : List ℕ) (segment : Segment) (b : Agenda) →
      Way a w (Session (segments_in bytes)) v →
      segments_in bytes ≡ segment ∷ segments_in behind →
      b ≡ segment_read grain read v segment (segments_in behind) →
      Way a w b v
  waits_next a w v bytes behind segment b way first begun =
      Goes-pass (session_rules grain read) a (Session (segments_in bytes)) b w v [] way
      (ap (λ segs. without_entry grain read (Session segs) v) first ∙ ap Some (sym begun))

  -- it goes on to what waits
  pub waits_found :
      (a : Agenda) (w v u : Whole) (asking found : Asking) (left : Option Asking) (segs : List Segment) →
      Way a w (agenda_of asking segs) v →
      GoesOnTo grain read asking v left u →
      left ≡ Some found →
      LeadTo grain read a w [] (agenda_of found segs) u
  waits_found a w v u asking found left segs way on is =
      let P : Option Asking → Type 0 = λ l. Way a w (left_of l segs) u in
      record { goes = subst P is (waits_on a w v u asking left segs way on); waits = on.waits found segs is }

  -- no line or block is left
  pub waits_over : (a : Agenda) (w v : Whole) (segs : List Segment) → Way a w (Session segs) v → segs ≡ [] → LeadTo grain read a w [] (Session segs) v
  waits_over a w v segs way none =
      let P : List Segment → Type 0 = λ s. Waits grain read (Session s) v in
      record { goes = way; waits = subst P (sym none) (over_waits grain read v) }

-- ---- what is asked next

pair_some : {X : Type 0} (n m : ℕ) (x y : X) → n ≡ m → Some x ≡ Some y → ◌≡◌ {A = Option (ℕ × X)} (Some (n, x)) (Some (m, y))
pair_some n m x y e h =
    let same : x ≡ y = cc h in
    ap₂ (λ k z. Some (k, z)) e same

some_pair : {X : Type 0} (n m : ℕ) (x y : X) → ◌≡◌ {A = Option (ℕ × X)} (Some (n, x)) (Some (m, y)) → (n ≡ m) × (Some x ≡ Some y)
some_pair {X} n m x y e =
    let same : ◌≡◌ {A = ℕ × X} (n, x) (m, y) = cc e in
    (ap (λ (p : ℕ × X). p.0) same, ap (λ (p : ℕ × X). Some p.1) same)

both_then : {P Q R : Type 0} → (P ↔ Q) → (Q ↔ R) → (P ↔ R)
both_then first next = ((λ p. next.0 (first.0 p)), (λ r. first.1 (next.1 r)))

module _ (grain : GrainSize) (actor : ℕ) (request : Request) where
  main_next : (r : Request) → MainAsks actor request (Some r) ↔ (◌≡◌ {A = Option (ℕ × Request)} (Some (0, r)) (Some (actor, request)))
  main_next r = (
    (λ both. pair_some 0 actor r request (sym both.0) both.1),
    (λ asks. let both : (0 ≡ actor) × (Some r ≡ Some request) = some_pair 0 actor r request asks in (sym both.0, both.1)),
  )

  own_next : (requests : List Request) (behind : Behind) (segs : List Segment) (w : Whole) → MainAsks actor request (next_request requests) ↔ Asks grain (Own requests behind segs) w (actor, request)
  own_next [] behind segs w = ((λ both. absurd (cc both.1)), (λ asks. absurd (cc asks)))
  own_next (r ∷ rest) behind segs w = main_next r

  faults_next : (requests : List Request) (actors : List ActorRead) (segs : List Segment) (w : Whole) →
      MainAsks actor request (next_request requests) ↔ Asks grain (Faults requests actors segs) w (actor, request)
  faults_next [] actors segs w = ((λ both. absurd (cc both.1)), (λ asks. absurd (cc asks)))
  faults_next (r ∷ rest) actors segs w = main_next r

  fill_next : (fill : Option (Work × GrainNo)) →
      MainAsks actor request (fill_asked fill) ↔ (option_map {U = ℕ × Request} (λ (next : Work × GrainNo). (0, fill_of next.0 next.1)) fill ≡ Some (actor, request))
  fill_next None = ((λ both. absurd (cc both.1)), (λ asks. absurd (cc asks)))
  fill_next (Some next) = main_next (fill_of next.0 next.1)

  abbrev Tells : Bool → Whole → Asking → Type 0
  Tells tells w asking = TellsNext tells grain w asking actor request

  module _ (w : Whole) where
    second_next : (p : Passing) (names : List (List ℕ)) (segs : List Segment) →
        MainAsks actor request (fill_asked (next_fill grain w p)) ↔ Asks grain (Seconds p segs) (named names w) (actor, request)
    second_next p names segs =
        let P : Option (Work × GrainNo) → Type 0 = λ fill. MainAsks actor request (fill_asked fill) ↔ Asks grain (Seconds p segs) (named names w) (actor, request) in
        subst P (named_fill grain names w p) (fill_next (next_fill grain (named names w) p))

    pub nothing_asks : (asking : Asking) → asking ≡ Nothing → TellsNext false grain w asking actor request
    nothing_asks asking is = subst (Tells false w) (sym is) (λ segs names. ((λ tells. absurd (cc tells)), (λ asks. absurd (cc asks))))

    pub own_asks : (asking : Asking) (requests : List Request) (behind : Behind) (tells : Bool) → asking ≡ OwnAsked requests behind → (IsTrue tells ↔ MainAsks actor request (next_request requests)) →
        TellsNext tells grain w asking actor request
    own_asks asking requests behind tells is says = subst (Tells tells w) (sym is) (λ segs names. both_then says (own_next requests behind segs (named names w)))

    pub faults_ask : (asking : Asking) (requests : List Request) (actors : List ActorRead) (tells : Bool) → asking ≡ FaultsAsked requests actors →
        (IsTrue tells ↔ MainAsks actor request (next_request requests)) → TellsNext tells grain w asking actor request
    faults_ask asking requests actors tells is says = subst (Tells tells w) (sym is) (λ segs names. both_then says (faults_next requests actors segs (named names w)))

    -- nobody but `main` is asked while seconds pass
    pub others_ask : (asking : Asking) (p : Passing) → asking ≡ SecondsAsked p → actor ≢ 0 → TellsNext false grain w asking actor request
    others_ask asking p is other =
        subst (Tells false w) (sym is) (λ segs names. ((λ tells. absurd (cc tells)), (λ asks. absurd (other ((second_next p names segs).1 asks).0))))

    pub seconds_ask :
        {E : Type 0} (r : Result Bool E) (asking : Asking) (p : Passing) →
        asking ≡ SecondsAsked p →
        actor ≡ 0 →
        IfOk r (λ tells. IsTrue tells ↔ (fill_asked (next_fill grain w p) ≡ Some request)) →
        IfOk r (λ tells. TellsNext tells grain w asking actor request)
    seconds_ask (Ok tells) asking p is main says =
        let own : IsTrue tells ↔ MainAsks actor request (fill_asked (next_fill grain w p)) = ((λ t. (main, says.0 t)), (λ both. says.1 both.1)) in
        subst (Tells tells w) (sym is) (λ segs names. both_then own (second_next p names segs))
    seconds_ask (Err refused) asking p is main says = tt

    pub actors_ask : (asking : Asking) (scripts : List Script) (tells : Bool) → ((segs : List Segment) → agenda_of asking segs ≡ Actors scripts segs) →
        (IsTrue tells ↔ (next_by scripts actor ≡ Some request)) → TellsNext tells grain w asking actor request
    actors_ask asking scripts tells are says = λ segs names.
        let P : Agenda → Type 0 = λ a. IsTrue tells ↔ Asks grain a (named names w) (actor, request) in
        subst P (sym (are segs)) says

-- ---- what is left behind the last request of a line

module _ (w : Whole) (reply : Reply) where
  done_by : (n : ℕ) (segs : List Segment) (done : Bool) → is_done reply ≡ done →
      behind_last w reply (PassingSeconds n) segs ≡ cond done (Seconds (seconds_begun n (all_work w.books)) segs) (Session segs)
  done_by n segs done test = ap (λ d. cond {A = Agenda} d (Seconds (seconds_begun n (all_work w.books)) segs) (Session segs)) test

  pub seconds_left : (n : ℕ) (p : Passing) → is_done reply ≡ true → p ≡ seconds_begun n (all_work w.books) → IsLeftOfLine w reply (PassingSeconds n) (SecondsAsked p)
  seconds_left n p test begun = λ segs names. ap (λ q. Seconds q segs) begun ∙ sym (done_by n segs true test)

  pub over_left : (n : ℕ) → is_done reply ≡ false → IsLeftOfLine w reply (PassingSeconds n) Nothing
  over_left n test = λ segs names. sym (done_by n segs false test)

  pub passing_left : {E : Type 0} (r : Result Asking E) (behind : Behind) (n : ℕ) → behind ≡ PassingSeconds n →
      IfOk r (λ left. IsLeftOfLine w reply (PassingSeconds n) left) → IfOk r (λ left. IsLeftOfLine w reply behind left)
  passing_left r behind n is says =
      let P : Behind → Type 0 = λ b. IfOk r (λ (left : Asking). IsLeftOfLine w reply b left) in
      subst P (sym is) says

  -- more is asked
  abbrev asks_more : Behind → Asking
  asks_more behind = OwnAsked (asked_behind behind reply).0 (asked_behind behind reply).1

  left_more : (behind : Behind) (left : Asking) → ((n : ℕ) → behind ≡ PassingSeconds n → ⊥) → left ≡ asks_more behind → IsLeftOfLine w reply behind left
  left_more (PassingSeconds n) left other is = absurd (other n refl)
  left_more (MappingOf source preset name) left other is = λ segs names. ap (λ a. agenda_of a segs) is
  left_more (Start volume) left other is = λ segs names. ap (λ a. agenda_of a segs) is
  left_more (Undo map volume) left other is = λ segs names. ap (λ a. agenda_of a segs) is

  pub others_left : {E : Type 0} (r : Result Asking E) (behind : Behind) → ((n : ℕ) → behind ≡ PassingSeconds n → ⊥) → IfOk r (λ left. left ≡ asks_more behind) →
      IfOk r (λ left. IsLeftOfLine w reply behind left)
  others_left (Ok left) behind other is = left_more behind left other is
  others_left (Err refused) behind other is = tt

-- ---- what is left behind an entry

module _ (grain : GrainSize) (w : Whole) (reply : Reply) where
  -- of a line
  abbrev behind_of : List Request → Behind → List Segment → Whole → Entry → Agenda
  behind_of requests behind segs next entry = behind_entry grain (Own requests behind segs) next entry

  last_behind : (requests : List Request) (behind : Behind) (segs : List Segment) (next : Whole) (entry : Entry) → requests ≢ [] → behind_first requests ≡ [] →
      behind_of requests behind segs next entry ≡ behind_last next entry.reply behind segs
  last_behind [] behind segs next entry some last = absurd (some refl)
  last_behind (r ∷ []) behind segs next entry some last = refl
  last_behind (r ∷ x ∷ rest) behind segs next entry some last = absurd (cc last)

  more_behind : (requests : List Request) (behind : Behind) (segs : List Segment) (next : Whole) (entry : Entry) → requests ≢ [] → behind_first requests ≢ [] →
      behind_of requests behind segs next entry ≡ Own (behind_first requests) behind segs
  more_behind [] behind segs next entry some more = absurd (some refl)
  more_behind (r ∷ []) behind segs next entry some more = absurd (more refl)
  more_behind (r ∷ x ∷ rest) behind segs next entry some more = refl

  pub none_left : (actor : ℕ) (requests : List Request) (behind : Behind) → requests ≡ [] → IsLeftBehind grain w (OwnAsked requests behind) actor reply Nothing
  none_left actor requests behind none = λ entry segs names by so. sym (ap (λ rs. behind_of rs behind segs (named names w) entry) none)

  pub more_left : (actor : ℕ) (requests rest : List Request) (behind : Behind) → requests ≢ [] → rest ≡ behind_first requests → rest ≢ [] →
      IsLeftBehind grain w (OwnAsked requests behind) actor reply (OwnAsked rest behind)
  more_left actor requests rest behind some is more = λ entry segs names by so.
      let P : List Request → Type 0 = λ rs. rs ≢ [] in
      ap (λ rs. Own rs behind segs) is ∙ sym (more_behind requests behind segs (named names w) entry some (subst P is more))

  pub last_left :
      {E : Type 0} (r : Result Asking E) (requests rest : List Request) (behind : Behind) →
      requests ≢ [] →
      rest ≡ behind_first requests →
      rest ≡ [] →
      IfOk r (λ left. IsLeftOfLine w reply behind left) →
      IfOk r (λ left. (actor : ℕ) → IsLeftBehind grain w (OwnAsked requests behind) actor reply left)
  last_left (Ok left) requests rest behind some is last says = λ actor entry segs names by so.
      says segs names
      ∙ ap (λ answer. behind_last (named names w) answer behind segs) (sym so)
      ∙ sym (last_behind requests behind segs (named names w) entry some (sym is ∙ last))
  last_left (Err refused) requests rest behind some is last says = tt

module _ (grain : GrainSize) (w : Whole) (actor : ℕ) (reply : Reply) where
  abbrev IsLeft : Asking → Asking → Type 0
  IsLeft left asking = IsLeftBehind grain w asking actor reply left

  pub nothing_left : (asking : Asking) → asking ≡ Nothing → IsLeftBehind grain w asking actor reply Nothing
  nothing_left asking is = subst (IsLeft Nothing) (sym is) (λ entry segs names by so. refl)

  pub own_left :
      {E : Type 0} (r : Result Asking E) (asking : Asking) (requests : List Request) (behind : Behind) →
      asking ≡ OwnAsked requests behind →
      IfOk r (λ left. (any : ℕ) → IsLeftBehind grain w (OwnAsked requests behind) any reply left) →
      IfOk r (λ left. IsLeftBehind grain w asking actor reply left)
  own_left (Ok left) asking requests behind is says = subst (IsLeft left) (sym is) (says actor)
  own_left (Err refused) asking requests behind is says = tt

  -- of seconds
  pub fill_left : (asking : Asking) (p q : Passing) → asking ≡ SecondsAsked p → ((entry : Entry) → entry.reply ≡ reply → q ≡ behind_fill grain w p p.at_hand entry) →
      IsLeftBehind grain w asking actor reply (SecondsAsked q)
  fill_left asking p q is says =
      subst (IsLeft (SecondsAsked q)) (sym is) (λ entry segs names by so. ap (λ x. Seconds x segs) (says entry so ∙ sym (named_behind grain names w p p.at_hand entry)))

  -- of a block
  faults_behind : (requests : List Request) (actors : List ActorRead) (segs : List Segment) (next : Whole) (entry : Entry) →
      behind_entry grain (Faults requests actors segs) next entry ≡ Faults (behind_first requests) actors segs
  faults_behind [] actors segs next entry = refl
  faults_behind (r ∷ rest) actors segs next entry = refl

  pub faults_left : (asking : Asking) (requests rest : List Request) (actors : List ActorRead) → asking ≡ FaultsAsked requests actors → rest ≡ behind_first requests →
      IsLeftBehind grain w asking actor reply (FaultsAsked rest actors)
  faults_left asking requests rest actors is says =
      subst (IsLeft (FaultsAsked rest actors)) (sym is)
      (λ entry segs names by so. ap (λ rs. Faults rs actors segs) says ∙ sym (faults_behind requests actors segs (named names w) entry))

  pub scripts_left :
      (asking left : Asking) (scripts rest : List Script) →
      ((segs : List Segment) → agenda_of asking segs ≡ Actors scripts segs) →
      ((segs : List Segment) → agenda_of left segs ≡ Actors rest segs) →
      rest ≡ behind_next scripts actor →
      IsLeftBehind grain w asking actor reply left
  scripts_left asking left scripts rest are after says = λ entry segs names by so.
      after segs
      ∙ ap (λ ss. Actors ss segs) (says ∙ ap (behind_next scripts) (sym by))
      ∙ sym (ap (λ a. behind_entry grain a (named names w) entry) (are segs))

-- ---- the end

pub over_is : (asking : Asking) (segs : List Segment) → asking ≡ Nothing → IsOverWith asking segs → agenda_of asking segs ≡ Session []
over_is Nothing segs is over = ap Session over
over_is (OwnAsked requests behind) segs is over = absurd (cc is)
over_is (SecondsAsked p) segs is over = absurd (cc is)
over_is (FaultsAsked requests actors) segs is over = absurd (cc is)
over_is (ActorsAsked scripts) segs is over = absurd (cc is)

pub is_over : (asking : Asking) (segs : List Segment) → agenda_of asking segs ≡ Session [] → asking ≡ Nothing
is_over Nothing segs is = refl
is_over (OwnAsked requests behind) segs is = absurd (cc is)
is_over (SecondsAsked p) segs is = absurd (cc is)
is_over (FaultsAsked requests actors) segs is = absurd (cc is)
is_over (ActorsAsked scripts) segs is = absurd (cc is)

-- What waits, and was not begun, is over.
pub over_with : (grain : GrainSize) (read : Reading) (asking : Asking) (segs : List Segment) (v : Whole) → Waits grain read (agenda_of asking segs) v → IsOverWith asking segs
over_with grain read Nothing [] v waits = refl
over_with grain read Nothing (s ∷ ss) v waits = absurd (cc waits.none_passes)
over_with grain read (OwnAsked requests behind) segs v waits = tt
over_with grain read (SecondsAsked p) segs v waits = tt
over_with grain read (FaultsAsked requests actors) segs v waits = tt
over_with grain read (ActorsAsked scripts) segs v waits = tt
