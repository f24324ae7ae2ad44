-- All that may be told after entries, entry by entry, and the first wrong one.
use Rattle.std.proofs.Common.{◌≡◌, ◌≢◌, ℕ, zero, suc, ◌+◌, ◌<◌, ◌≤◌, Bool, true, false, cond, is_some, Contains, Option, Some, None, List, [], ◌∷◌, ◌++◌, length, refl, sym, ap, subst, ◌∙◌, length-append, arith, rules, IsTrue}
use Rattle.std.proofs.lemmas.List.{take-append-le, take_all, take_at}
use Rattle.fc_base.specs.declared.size.GrainSize.{GrainSize}
use Rattle.fc_check_follow.specs.Ways.{AreAfter, Ways, pools_told}
use Rattle.fc_entry.specs.HistoryState.{HistoryState, place_of_name}
use Rattle.fc_entry.specs.declared.entry.Entry.{Entry}
use Rattle.fc_legal.specs.Legal.{AreSteps, IsLegal}
use Rattle.fc_legal.specs.Steps.{Step}
use Rattle.fc_legal.specs.Whole.{Whole, opened}
use Rattle.fc_reading_entries.specs.Entries.{ReadNext}
use Rattle.fc_trace.specs.declared.header.Header.{Header}
use Rattle.law_stands.proofs.Naming.{names_law_holds}
use Rattle.law_stands.specs.Names.{nameless}
use Rattle.fc_check.specs.Progress.{AreAllWays, AreRight, IsFound, IsProgress}
use Rattle.fc_check.specs.Traces.{IsTraceOf, nothing_told}
use Rattle.fc_check.specs.Verdict.{AreAllRight, AreLegal, IsFirstWrong, IsInputWith, IsWrongAt}
use Rattle.fc_check.proofs.InputTraces.{input_alone}
use Rattle.fc_check.specs.declared.judge.Progress.{Progress}

-- ---- right entries, from the front and from the end

steps_more : (grain : GrainSize) (start w : Whole) (entry : Entry) (next : Whole) (entries : List Entry) →
    AreSteps grain start entries w → Step grain w entry next → AreSteps grain start (entries ++ entry ∷ []) next
steps_more grain start w entry next [] steps step = (next, subst (λ (x : Whole). Step grain x entry next) steps step, refl)
steps_more grain start w entry next (first ∷ entries) steps step = (steps.0, steps.1, steps_more grain steps.0 w entry next entries steps.2 step)

pub record LastStep (grain : GrainSize) (start : Whole) (entries : List Entry) (entry : Entry) (next : Whole) : Type 0 where
  pub before : Whole
  pub steps : AreSteps grain start entries before
  pub step : Step grain before entry next

pub steps_last : (grain : GrainSize) (start : Whole) (entry : Entry) (next : Whole) (entries : List Entry) → AreSteps grain start (entries ++ entry ∷ []) next → LastStep grain start entries entry next
steps_last grain start entry next [] steps =
    record { before = start; steps = refl; step = subst (λ (x : Whole). Step grain start entry x) (sym steps.2) steps.1 }
steps_last grain start entry next (first ∷ entries) steps =
    let last = steps_last grain steps.0 entry next entries steps.2 in
    record { before = last.before; steps = (steps.0, steps.1, last.steps); step = last.step }

-- ---- all ways

one_way : (start w : Whole) → Contains (start ∷ []) w → w ≡ start
one_way start w (zero, there, e) = sym e
one_way start w (suc k, there, e) = absurd (omega arith)

first_way : (w : Whole) (ways : List Whole) → Contains (w ∷ ways) w
first_way w ways = (0, omega arith, refl)

no_way : (w : Whole) → Contains [] w → ⊥
no_way w (k, there, e) = omega arith

ways_opened : (grain : GrainSize) (start : Whole) → AreAllWays grain start [] (start ∷ [])
ways_opened grain start = record {
  only = one_way start;
  all = λ w e. subst (Contains (start ∷ [])) (sym e) (first_way start []);
}

ways_more : (grain : GrainSize) (start : Whole) (entries : List Entry) (entry : Entry) (old new : List Whole) →
    AreAllWays grain start entries old → AreAfter grain old entry new → AreAllWays grain start (entries ++ entry ∷ []) new
ways_more grain start entries entry old new ways after = record {
  only =
      λ next c.
      let from = after.only next c in
      steps_more grain start from.0 entry next entries (ways.only from.0 from.1) from.2;
  all =
      λ next steps.
      let last = steps_last grain start entry next entries steps in
      after.all last.before next (ways.all last.before last.steps) last.step;
}

-- where there is one, the entries are legal; where there is none, they aren't
legal_where_some : (grain : GrainSize) (start : Whole) (entries : List Entry) (ways : List Whole) → AreAllWays grain (nameless start) entries ways → ways ≢ [] →
    (last : Whole) × IsLegal grain start entries last
legal_where_some grain start entries [] ways some = absurd (some refl)
legal_where_some grain start entries (w ∷ rest) ways some =
    (record w { actors = start.actors }, names_law_holds.within grain start entries w (ways.only w (first_way w rest)))

not_legal_where_none : (grain : GrainSize) (start : Whole) (entries : List Entry) (ways : List Whole) → AreAllWays grain (nameless start) entries ways → ways ≡ [] →
    (last : Whole) → IsLegal grain start entries last → ⊥
not_legal_where_none grain start entries ways are none last legal =
    no_way (nameless last) (subst (λ (l : List Whole). Contains l (nameless last)) none (are.all (nameless last) (names_law_holds.without grain start entries last legal)))

-- ---- what is found of the entries

abbrev opened_by : Header → Whole
opened_by header = opened (pools_told header.lanes)

right_opened : (header : Header) (ways : Ways) → ways ≡ record { grain = header.grain; entries = 0; ways = nameless (opened_by header) ∷ [] } → AreRight header [] ways
right_opened header ways e =
    subst (AreRight header []) (sym e)
    (record { grain = refl; counted = refl; all = ways_opened header.grain (nameless (opened_by header)); some = λ none. cc })

pub legal_of_right : (header : Header) (entries : List Entry) (ways : Ways) → AreRight header entries ways → AreLegal header entries
legal_of_right header entries ways right = legal_where_some header.grain (opened_by header) entries ways.ways right.all right.some

after_all : (header : Header) (entries : List Entry) (entry : Entry) (old new : Ways) → AreRight header entries old → AreAfter old.grain old.ways entry new.ways →
    AreAllWays header.grain (nameless (opened_by header)) (entries ++ entry ∷ []) new.ways
after_all header entries entry old new right after =
    ways_more header.grain (nameless (opened_by header)) entries entry old.ways new.ways right.all (subst (λ (g : GrainSize). AreAfter g old.ways entry new.ways) right.grain after)

right_more : (header : Header) (entries : List Entry) (entry : Entry) (old new : Ways) → AreRight header entries old → AreAfter old.grain old.ways entry new.ways →
    new.grain ≡ old.grain → new.entries ≡ old.entries + 1 → new.ways ≢ [] → AreRight header (entries ++ entry ∷ []) new
right_more header entries entry old new right after grain counted some = record {
  grain = grain ∙ right.grain;
  counted = omega (arith, counted, right.counted, length-append entries (entry ∷ []));
  all = after_all header entries entry old new right after;
  some = some;
}

wrong_now : (header : Header) (entries : List Entry) (entry : Entry) (old new : Ways) (number : ℕ) → AreRight header entries old → AreAfter old.grain old.ways entry new.ways →
    new.ways ≡ [] → number ≡ length entries → IsFirstWrong (AreLegal header) number (entries ++ entry ∷ [])
wrong_now header entries entry old new number right after none is = record {
  there = omega (arith, length-append entries (entry ∷ []));
  before = subst (AreLegal header) (sym (take_at entries (entry ∷ []) number (sym is))) (legal_of_right header entries old right);
  wrong =
      λ legal.
      not_legal_where_none header.grain (opened_by header) (entries ++ entry ∷ []) new.ways (after_all header entries entry old new right after) none legal.0
      (
      subst (λ (l : List Entry). IsLegal header.grain (opened_by header) l legal.0)
      (take_all (number + 1) (entries ++ entry ∷ []) (omega (arith, length-append entries (entry ∷ [])))) legal.1
      );
}

wrong_before : (header : Header) (entries : List Entry) (entry : Entry) (number : ℕ) → IsFirstWrong (AreLegal header) number entries → IsFirstWrong (AreLegal header) number (entries ++ entry ∷ [])
wrong_before header entries entry number wrong = record {
  there = omega (arith, wrong.there, length-append entries (entry ∷ []));
  before = subst (AreLegal header) (sym (take-append-le number entries (entry ∷ []) (omega (arith, wrong.there)))) wrong.before;
  wrong = λ legal. wrong.wrong (subst (AreLegal header) (take-append-le (number + 1) entries (entry ∷ []) (omega (arith, wrong.there))) legal);
}

-- ---- what is known

actor_more : (known : Bool) (names : List (List ℕ)) (name : List ℕ) → length (cond known names (names ++ name ∷ [])) ≤ length names + 1
actor_more true names name = omega arith
actor_more false names name = omega (arith, length-append names (name ∷ []))

entries_more : (size : GrainSize) (old new : HistoryState) (bytes : List ℕ) (count : ℕ) (r : ReadNext size old bytes count new) → new.entries ≡ old.entries ++ r.entry ∷ []
entries_more size old new bytes count r = ap (λ (h : HistoryState). h.entries) r.after

pub read_counted : (size : GrainSize) (old new : HistoryState) (bytes : List ℕ) (count : ℕ) → ReadNext size old bytes count new → length new.entries ≡ length old.entries + 1
read_counted size old new bytes count r = ap length (entries_more size old new bytes count r) ∙ length-append old.entries (r.entry ∷ [])

names_more : (size : GrainSize) (old new : HistoryState) (bytes : List ℕ) (count : ℕ) → ReadNext size old bytes count new → length old.actors ≤ length old.entries → length new.actors ≤ length new.entries
names_more size old new bytes count r few =
    omega (arith, read_counted size old new bytes count r, ap (λ (h : HistoryState). length h.actors) r.after, actor_more (is_some (place_of_name old.actors r.name)) old.actors r.name)

pub progress_opened : (header : Header) (progress : Progress) → progress.history ≡ nothing_told → progress.wrong ≡ None →
    progress.candidates ≡ record { grain = header.grain; entries = 0; ways = nameless (opened_by header) ∷ [] } → IsProgress header progress
progress_opened header progress none right ways = record {
  names = omega (arith, ap (λ (h : HistoryState). length h.actors) none);
  room = omega (arith, ap (λ (h : HistoryState). length h.entries) none);
  found =
      subst (λ (w : Option ℕ). IsFound w header progress.history.entries progress.candidates) (sym right)
      (
      subst (λ (h : HistoryState). AreRight header h.entries progress.candidates) (sym none)
      (right_opened header progress.candidates ways)
      );
}

-- one entry more
module _ (header : Header) (old new : Progress) (bytes : List ℕ) (count : ℕ) (known : IsProgress header old) (few : length old.history.entries < 262144) (r : ReadNext header.grain old.history bytes count new.history) where
  more_known : IsFound new.wrong header new.history.entries new.candidates → IsProgress header new
  more_known found = record {
    names = names_more header.grain old.history new.history bytes count r known.names;
    room = omega (arith, read_counted header.grain old.history new.history bytes count r);
    found = found;
  }

  found_there : IsFound new.wrong header (old.history.entries ++ r.entry ∷ []) new.candidates → IsProgress header new
  found_there found =
      more_known
      (
      subst (λ (entries : List Entry). IsFound new.wrong header entries new.candidates)
      (sym (entries_more header.grain old.history new.history bytes count r)) found
      )

  known_of : (w : Option ℕ) → old.wrong ≡ w → IsFound w header old.history.entries old.candidates
  known_of w e = subst (λ (x : Option ℕ). IsFound x header old.history.entries old.candidates) e known.found

  -- behind a wrong one
  pub progress_wrong : (number : ℕ) → old.wrong ≡ Some number → new.wrong ≡ Some number → IsProgress header new
  progress_wrong number before now =
      found_there
      (
      subst (λ (x : Option ℕ). IsFound x header (old.history.entries ++ r.entry ∷ []) new.candidates) (sym now)
      (wrong_before header old.history.entries r.entry number (known_of (Some number) before))
      )

  -- where all were right
  abbrev pub Follows : Type 0
  Follows = (before : List Entry) (entry : Entry) → new.history.entries ≡ before ++ entry ∷ [] → AreAfter old.candidates.grain old.candidates.ways entry new.candidates.ways

  follows_there : Follows → AreAfter old.candidates.grain old.candidates.ways r.entry new.candidates.ways
  follows_there follows = follows old.history.entries r.entry (entries_more header.grain old.history new.history bytes count r)

  pub progress_right : old.wrong ≡ None → new.wrong ≡ None → Follows → new.candidates.grain ≡ old.candidates.grain → new.candidates.entries ≡ old.candidates.entries + 1 →
      new.candidates.ways ≢ [] → IsProgress header new
  progress_right before now follows grain entries some =
      found_there
      (
      subst (λ (x : Option ℕ). IsFound x header (old.history.entries ++ r.entry ∷ []) new.candidates) (sym now)
      (right_more header old.history.entries r.entry old.candidates new.candidates (known_of None before) (follows_there follows) grain entries some)
      )

  pub progress_first_wrong : (number : ℕ) → old.wrong ≡ None → new.wrong ≡ Some number → number ≡ length old.history.entries → Follows → new.candidates.ways ≡ [] → IsProgress header new
  progress_first_wrong number before now is follows none =
      found_there
      (
      subst (λ (x : Option ℕ). IsFound x header (old.history.entries ++ r.entry ∷ []) new.candidates) (sym now)
      (wrong_now header old.history.entries r.entry old.candidates new.candidates number (known_of None before) (follows_there follows) none is)
      )

-- ---- at the end

pub said_right : (header : Header) (progress : Progress) (bytes : List ℕ) (count : ℕ) → progress.wrong ≡ None → count ≡ length progress.history.entries →
    IsProgress header progress → IsTraceOf header progress.history bytes → IsInputWith (AreAllRight count) bytes
said_right header progress bytes count none is known trace = record {
  header = header;
  history = progress.history;
  session = None;
  input = input_alone header progress.history bytes trace;
  room = known.room;
  is_so = record {
    all = sym is;
    stand =
        legal_of_right header progress.history.entries progress.candidates
        (subst (λ (w : Option ℕ). IsFound w header progress.history.entries progress.candidates) none known.found);
  };
}

pub said_wrong : (header : Header) (progress : Progress) (bytes : List ℕ) (number : ℕ) → progress.wrong ≡ Some number →
    IsProgress header progress → IsTraceOf header progress.history bytes → IsInputWith (IsWrongAt number) bytes
said_wrong header progress bytes number some known trace = record {
  header = header;
  history = progress.history;
  session = None;
  input = input_alone header progress.history bytes trace;
  room = known.room;
  is_so = subst (λ (w : Option ℕ). IsFound w header progress.history.entries progress.candidates) some known.found;
}

pub is_true : (test : Bool) → test ≡ true → IsTrue test
is_true test e = search rules

pub not_true : (test : Bool) → test ≡ false → IsTrue test → ⊥
not_true test e is = search rules
