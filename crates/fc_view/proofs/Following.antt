-- One entry more: the chains of the first way, and the origins.
use Rattle.std.proofs.Common.{◌≡◌, ◌≢◌, ℕ, zero, suc, ◌+◌, ◌<◌, ◌^◌, Contains, Option, Some, None, List, [], ◌∷◌, ◌++◌, length, take, get_or, refl, sym, ap, subst, inl, inr, ◌∙◌, arith, length-append}
use Rattle.std.specs.List.{slice_get}
use Rattle.std.specs.Option.{option_map}
use Rattle.std.proofs.lemmas.Grind.{fold-append}
use Rattle.std.proofs.lemmas.List.{get_or_push, same_from_push, take_all, take_more}
use Rattle.std.proofs.lemmas.Option.{get_or_from_slice_get, same_Some, slice_get-get_or}
use Rattle.fc_base.specs.Sheet.{Sheet, no_slots}
use Rattle.fc_base.specs.declared.request.Place.TheVariants.{Every}
use Rattle.fc_base.specs.declared.size.GrainSize.{GrainSize}
use Rattle.fc_check.specs.Progress.{AreAllWays, AreRight, IsFound, IsProgress}
use Rattle.fc_check.specs.Traces.{nothing_told}
use Rattle.fc_check.specs.Verdict.{AreLegal, IsFirstWrong}
use Rattle.fc_check.specs.declared.judge.Progress.{Progress}
use Rattle.fc_check.proofs.WayLemmas.{steps_last}
use Rattle.fc_check_follow.specs.Ways.{Ways, pools_told}
use Rattle.fc_entry.specs.HistoryState.{HistoryState}
use Rattle.fc_entry.specs.Picture.{Picture}
use Rattle.fc_entry.specs.declared.entry.Entry.{Entry}
use Rattle.fc_legal.specs.Steps.{Step}
use Rattle.fc_legal.specs.Whole.{Whole, opened}
use Rattle.fc_origins.specs.Origins.{origin_step, origins_of}
use Rattle.fc_reading_entries.specs.Entries.{ReadNext}
use Rattle.fc_trace.specs.declared.header.Header.{Header}
use Rattle.law_stands.specs.Names.{nameless}
use Rattle.fc_view.specs.Behind.{AreChains, IsBehind, IsFollowed, chains_behind, first_sheet}
use Rattle.fc_view.specs.declared.behind.Behind.{Behind}
use Rattle.fc_view.specs.declared.steps.Step.{Step as Followed}
use Rattle.fc_view.proofs.Stepping.{step_sheet}

-- ---- the last of a list

pub last_split : {X : Type 0} (xs : List X) (k : ℕ) (x : X) → k + 1 ≡ length xs → slice_get xs k ≡ Some x → xs ≡ take k xs ++ x ∷ []
last_split xs k x last is =
    sym (take_all (k + 1) xs (omega (arith, last)))
    ∙ take_more xs k x (omega (arith, last))
    ∙ ap (λ y. take k xs ++ y ∷ []) (get_or_from_slice_get xs k x x is)

pub last_is : {X : Type 0} (xs before : List X) (k : ℕ) (x y : X) → k + 1 ≡ length xs → slice_get xs k ≡ Some x → xs ≡ before ++ y ∷ [] → x ≡ y
last_is xs before k x y last is split = sym ((same_from_push before (take k xs) y x (sym split ∙ last_split xs k x last is)).1)

pub last_there : {X : Type 0} (xs before : List X) (k : ℕ) (y : X) → k + 1 ≡ length xs → xs ≡ before ++ y ∷ [] → slice_get xs k ≡ Some y
last_there xs before k y last split =
    slice_get-get_or xs k y (omega (arith, last))
    ∙ ap Some (ap (λ l. get_or l k y) split ∙ get_or_push before y y k (omega (arith, last, ap length split, length-append before (y ∷ []))))

-- an entry is followed as the last, which it is
pub followed_last : (size : GrainSize) (ways : ℕ) (entries before : List Entry) (number : ℕ) (last entry : Entry) (old : Behind) (step : Followed) (new : Behind) → number + 1 ≡ length entries →
    slice_get entries number ≡ Some last → entries ≡ before ++ entry ∷ [] → IsFollowed size ways last old step new → IsFollowed size ways entry old step new
followed_last size ways entries before number last entry old step new end there split followed =
    subst (λ (e : Entry). IsFollowed size ways e old step new) (last_is entries before number last entry end there split) followed

-- ---- the first way

pub first_of : (ways : List Whole) (sheet : Sheet) → option_map (λ (w : Whole). w.books.sheet) (slice_get ways 0) ≡ Some sheet → (w : Whole) × Contains ways w × (w.books.sheet ≡ sheet)
first_of [] sheet e = absurd cc
first_of (w ∷ ways) sheet e = (w, (0, omega arith, refl), same_Some w.books.sheet sheet e)

pub first_none : (ways : List Whole) → None ≡ slice_get ways 0 → ways ≡ []
first_none [] e = refl
first_none (w ∷ ways) e = absurd cc

-- before the first entry
opened_sheet : (grain : GrainSize) (start : Whole) (ways : List Whole) → AreAllWays grain start [] ways → ways ≢ [] →
    option_map (λ (w : Whole). w.books.sheet) (slice_get ways 0) ≡ Some start.books.sheet
opened_sheet grain start [] all some = absurd (some refl)
opened_sheet grain start (w ∷ ways) all some = ap (λ (v : Whole). Some v.books.sheet) (all.only w (0, omega arith, refl))

-- ---- what is known

none_or_wrong : (header : Header) (wrong : Option ℕ) (entries : List Entry) (ways : Ways) → entries ≡ [] → IsFound wrong header entries ways → wrong ≡ None
none_or_wrong header None entries ways none found = refl
none_or_wrong header (Some number) entries ways none found = absurd (omega (arith, found.there, ap length none))

pub right_of : (header : Header) (progress : Progress) → IsProgress header progress → progress.wrong ≡ None → AreRight header progress.history.entries progress.candidates
right_of header progress known unbroken = subst (λ (w : Option ℕ). IsFound w header progress.history.entries progress.candidates) unbroken known.found

pub wrong_of : (header : Header) (progress : Progress) (number : ℕ) → IsProgress header progress → progress.wrong ≡ Some number → IsFirstWrong (AreLegal header) number progress.history.entries
wrong_of header progress number known wrong = subst (λ (w : Option ℕ). IsFound w header progress.history.entries progress.candidates) wrong known.found

pub behind_opened : (header : Header) (behind : Behind) → IsProgress header behind.progress → behind.progress.history ≡ nothing_told → behind.sheet ≡ no_slots → behind.origins ≡ [] → IsBehind header behind
behind_opened header behind known none sheet origins =
    let empty : behind.progress.history.entries ≡ [] = ap (λ (h : HistoryState). h.entries) none in
    let unbroken : behind.progress.wrong ≡ None = none_or_wrong header behind.progress.wrong behind.progress.history.entries behind.progress.candidates empty known.found in
    let right : AreRight header behind.progress.history.entries behind.progress.candidates = right_of header behind.progress known unbroken in
    record {
      right = known;
      unbroken = unbroken;
      sheet_is =
          opened_sheet header.grain (nameless (opened (pools_told header.lanes))) behind.progress.candidates.ways
          (subst (λ (l : List Entry). AreAllWays header.grain (nameless (opened (pools_told header.lanes))) l behind.progress.candidates.ways) empty right.all) right.some
          ∙ ap Some (sym sheet);
      origins_are = origins ∙ sym (ap (origins_of header.grain) empty);
    }

-- ---- one entry more

one_way : (start w : Whole) → Contains (start ∷ []) w → w ≡ start
one_way start w (zero, there, e) = sym e
one_way start w (suc k, there, e) = absurd (omega arith)

-- where there was one way, and there is one again, the chains are those of the one after the entry
alone : (grain : GrainSize) (start : Whole) (before : List Entry) (entry : Entry) (old new : List Whole) (sheet : Sheet) → length old ≡ 1 →
    AreAllWays grain start before old → AreAllWays grain start (before ++ entry ∷ []) new → new ≢ [] → entry.place ≢ Every →
    option_map (λ (w : Whole). w.books.sheet) (slice_get old 0) ≡ Some sheet →
    option_map (λ (w : Whole). w.books.sheet) (slice_get new 0) ≡ Some (chains_behind grain sheet entry)
alone grain start before entry [] new sheet one olds news some apart is = absurd (omega arith)
alone grain start before entry (w ∷ v ∷ old) new sheet one olds news some apart is = absurd (omega arith)
alone grain start before entry (w ∷ []) [] sheet one olds news some apart is = absurd (some refl)
alone grain start before entry (w ∷ []) (next ∷ new) sheet one olds news some apart is =
    let last = steps_last grain start entry next before (news.only next (0, omega arith, refl)) in
    let step : Step grain w entry next = subst (λ (x : Whole). Step grain x entry next) (one_way w last.before (olds.all last.before last.steps)) last.step in
    ap Some (step_sheet grain w entry next step apart ∙ ap (λ (s : Sheet). chains_behind grain s entry) (same_Some w.books.sheet sheet is))

-- the origins behind one entry more
origins_more : (grain : GrainSize) (before : List Entry) (entry : Entry) → origin_step grain (origins_of grain before) entry ≡ origins_of grain (before ++ entry ∷ [])
origins_more grain before entry = sym (fold-append (origin_step grain) [] before (entry ∷ []))

pub entries_more : (size : GrainSize) (old new : HistoryState) (bytes : List ℕ) (count : ℕ) (r : ReadNext size old bytes count new) → new.entries ≡ old.entries ++ r.entry ∷ []
entries_more size old new bytes count r = ap (λ (h : HistoryState). h.entries) r.after

-- the entry that was read is numbered
pub numbered : (size : GrainSize) (old new : HistoryState) (bytes : List ℕ) (count : ℕ) (r : ReadNext size old bytes count new) → length old.entries < 262144 →
    (before : List Entry) (entry : Entry) → new.entries ≡ before ++ entry ∷ [] → entry.number < 2 ^ 32
numbered size old new bytes count r few before entry split =
    let same : r.entry ≡ entry = (same_from_push old.entries before r.entry entry (sym (entries_more size old new bytes count r) ∙ split)).1 in
    subst (λ (e : Entry). e.number < 2 ^ 32) same (omega (arith, r.is.number_is))

-- What was known, then the entry was read and is right, and then it was followed.
module _ (header : Header) (old mid new : Behind) (bytes : List ℕ) (count ways : ℕ) (step : Followed) (known : IsBehind header old)
    (r : ReadNext header.grain old.progress.history bytes count new.progress.history) (read : IsProgress header new.progress)
    (unbroken : new.progress.wrong ≡ None) (ways_are : ways ≡ length old.progress.candidates.ways) (sheet : mid.sheet ≡ old.sheet)
    (origins : mid.origins ≡ old.origins) (followed : IsFollowed header.grain ways r.entry mid step new) where
  there : new.progress.history.entries ≡ old.progress.history.entries ++ r.entry ∷ []
  there = entries_more header.grain old.progress.history new.progress.history bytes count r

  before : AreRight header old.progress.history.entries old.progress.candidates
  before = right_of header old.progress known.right known.unbroken

  after : AreRight header new.progress.history.entries new.progress.candidates
  after = right_of header new.progress read unbroken

  chains : AreChains header.grain ways r.entry mid new → first_sheet new.progress.candidates ≡ Some new.sheet
  chains (inl alike) =
      alone header.grain (nameless (opened (pools_told header.lanes))) old.progress.history.entries r.entry old.progress.candidates.ways new.progress.candidates.ways old.sheet
      (sym ways_are ∙ alike.0) before.all
      (subst (λ (l : List Entry). AreAllWays header.grain (nameless (opened (pools_told header.lanes))) l new.progress.candidates.ways) there after.all)
      after.some alike.1 known.sheet_is
      ∙ ap Some (sym (alike.2 ∙ ap (λ (s : Sheet). chains_behind header.grain s r.entry) sheet))
  chains (inr first) = first after.some

  pub behind_more : IsBehind header new
  behind_more = record {
    right = read;
    unbroken = unbroken;
    sheet_is = chains followed.chains_are;
    origins_are =
        followed.origins_are
        ∙ (ap (λ (o : Picture). origin_step header.grain o r.entry) (origins ∙ known.origins_are)
        ∙ (origins_more header.grain old.progress.history.entries r.entry ∙ ap (origins_of header.grain) (sym there)));
  }
