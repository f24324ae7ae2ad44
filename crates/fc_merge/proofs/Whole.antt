-- Entries that were taken one by one are one list of them all; and how far a merge has come.
use Rattle.std.proofs.Common.{◌≡◌, ◌≢◌, ℕ, zero, suc, ◌+◌, ◌==◌, ◌<◌, List, [], ◌∷◌, ◌++◌, length, map, get_or, All, AllPairs, Contains, refl, sym, ◌∙◌, ap, subst, arith, add-one, append_assoc, append-nil}
use Rattle.std.specs.List.{range_with_len}
use Rattle.std.proofs.lemmas.Bool.{cond-true, cond-false, eq-eqb, ne_eqb}
use Rattle.std.proofs.lemmas.List.{length-append}
use Rattle.std.proofs.lemmas.List.Elements.{All-cons, All-head, All-nil, All-tail}
use Rattle.fc_entry.specs.HistoryState.{HistoryState}
use Rattle.fc_entry.specs.declared.entry.Entry.{Entry}
use Rattle.fc_merge.proofs.Left.{is_own, left_numbered, left_own, left_there, taken_length, taken_number, taken_there}
use Rattle.fc_merge.proofs.Steps.{CanMerge, IsNotNext, can_merge, none_left, nothing_left}
use Rattle.fc_merge.specs.Merging.{AreNumbered, AreOwn, IsMerged, IsOwn, Own, all_of, of_actor}
use Rattle.fc_merge.specs.Taking.{Merges, Takes, ends, here, takes, there}

-- ---- of each actor its own

abbrev HasAll : List Entry → Own → Type 0
HasAll merged own = of_actor own.actor merged ≡ own.entries

of_here : (a : ℕ) (e : Entry) (es : List Entry) → e.actor ≡ a → of_actor a (e ∷ es) ≡ e ∷ of_actor a es
of_here a e es is = cond-true (e.actor == a) (e ∷ of_actor a es) (of_actor a es) (eq-eqb e.actor a is)

of_other : (a : ℕ) (e : Entry) (es : List Entry) → e.actor ≢ a → of_actor a (e ∷ es) ≡ of_actor a es
of_other a e es differ = cond-false (e.actor == a) (e ∷ of_actor a es) (of_actor a es) (ne_eqb e.actor a differ)

-- The entry that is taken is of an actor of the lists.
other_actor : (n a : ℕ) (old new : List Own) (e : Entry) → Takes n old e new → All IsOwn old → All (λ (own : Own). a ≢ own.actor) old → e.actor ≢ a
other_actor n a old new e (here {own = own} {rest = rest} {lists = lists} is number) h differ =
    let mine : e.actor ≡ own.actor = (is_own own e rest is (All-head IsOwn own lists h)).0 in
    λ same. All-head (λ (o : Own). a ≢ o.actor) own lists differ (sym same ∙ mine)
other_actor n a old new e (there {own = own} {lists = lists} {next = next} t) h differ =
    other_actor n a lists next e t (All-tail IsOwn own lists h) (All-tail (λ (o : Own). a ≢ o.actor) own lists differ)

-- The actors behind the first are others.
differ_first : (own : Own) (lists : List Own) → AllPairs (λ (a b : Own). a.actor ≢ b.actor) (own ∷ lists) → All (λ (o : Own). own.actor ≢ o.actor) lists
differ_first own lists differ = λ k d inside. differ zero (suc k) d (omega arith) (omega (arith, inside))

differ_rest : (own : Own) (lists : List Own) → AllPairs (λ (a b : Own). a.actor ≢ b.actor) (own ∷ lists) → AllPairs (λ (a b : Own). a.actor ≢ b.actor) lists
differ_rest own lists differ = λ i j d lt inside. differ (suc i) (suc j) d (omega (arith, lt)) (omega (arith, inside))

each_with : (n : ℕ) (old new : List Own) (e : Entry) (es : List Entry) → Takes n old e new → AreOwn old → All (HasAll es) new → All (HasAll (e ∷ es)) old
each_with n old new e es (here {own = own} {rest = rest} {lists = lists} is number) h each =
    let mine : e.actor ≡ own.actor = (is_own own e rest is (All-head IsOwn own lists h.0)).0 in
    let behind : of_actor own.actor es ≡ rest = All-head (HasAll es) (record own { entries = rest }) lists each in
    let differ : All (λ (o : Own). own.actor ≢ o.actor) lists = differ_first own lists h.1 in
    All-cons (HasAll (e ∷ es)) own lists
    (of_here own.actor e es mine ∙ ap (λ xs. e ∷ xs) behind ∙ sym is)
    (λ k d inside.
    of_other (get_or lists k d).actor e es (λ same. differ k d inside (sym mine ∙ same))
    ∙ All-tail (HasAll es) (record own { entries = rest }) lists each k d inside)
each_with n old new e es (there {own = own} {lists = lists} {next = next} t) h each =
    let apart : e.actor ≢ own.actor = other_actor n own.actor lists next e t (All-tail IsOwn own lists h.0) (differ_first own lists h.1) in
    All-cons (HasAll (e ∷ es)) own lists
    (of_other own.actor e es apart ∙ All-head (HasAll es) own next each)
    (each_with n lists next e es t (All-tail IsOwn own lists h.0, differ_rest own lists h.1) (All-tail (HasAll es) own next each))

each_empty : (lists : List Own) → all_of lists ≡ [] → All (HasAll []) lists
each_empty [] none = All-nil (HasAll [])
each_empty (own ∷ lists) none = by_own own.entries refl none (λ rest. each_empty lists rest)
  where
    by_own : (es : List Entry) → own.entries ≡ es → es ++ all_of lists ≡ [] → (all_of lists ≡ [] → All (HasAll []) lists) → All (HasAll []) (own ∷ lists)
    by_own [] is rest behind = All-cons (HasAll []) own lists (sym is) (behind rest)
    by_own (e ∷ es) is rest behind = absurd (cc rest)

-- ---- one list of them all

pub is_merged : (n : ℕ) (lists : List Own) (merged : List Entry) → Merges n lists merged → AreOwn lists → IsMerged n (length (all_of lists)) lists merged
is_merged n lists merged (ends none) own =
    record {
      numbers = ap (λ (es : List Entry). range_with_len n (length es)) (sym none);
      each = each_empty lists none;
      of_lists = All-nil (Contains (all_of lists));
    }
is_merged n lists merged (takes {next = next} {entry = entry} {entries = entries} t rest) own =
    let behind : IsMerged (suc n) (length (all_of next)) next entries = is_merged (suc n) next entries rest (left_own n lists next entry t own) in
    let count : length (all_of lists) ≡ suc (length (all_of next)) = taken_length n lists next entry t in
    let range_is : range_with_len n (length (all_of lists)) ≡ n ∷ range_with_len (n + 1) (length (all_of next)) = ap (range_with_len n) count in
    let next_is : range_with_len (suc n) (length (all_of next)) ≡ range_with_len (n + 1) (length (all_of next)) = ap (λ m. range_with_len m (length (all_of next))) (sym (add-one n)) in
    record {
      numbers =
          ap (λ number. number ∷ map (λ (e : Entry). e.number) entries) (taken_number n lists next entry t)
          ∙ ap (λ numbers. n ∷ numbers) (behind.numbers ∙ next_is)
          ∙ sym range_is;
      each = each_with n lists next entry entries t own behind.each;
      of_lists =
          All-cons (Contains (all_of lists)) entry entries (taken_there n lists next entry t)
          (λ k d inside. left_there n lists next entry (get_or entries k d) t (behind.of_lists k d inside));
    }

-- ---- how far a merge has come

-- These were pushed; and whatever the lists that are left merge to, with these before it it is what all merge to.
pub record IsMerging (first : HistoryState) (all : List Own) (now : HistoryState) (lists : List Own) : Type 0 where
  pub pushed : List Entry
  pub history_is : now ≡ record first { entries = first.entries ++ pushed }
  pub own : AreOwn lists
  pub count : ℕ
  pub numbered : AreNumbered (length now.entries) count lists
  pub goes_on : (more : List Entry) → Merges (length now.entries) lists more → Merges (length first.entries) all (pushed ++ more)

pub begun : (h : HistoryState) (lists : List Own) (count : ℕ) → AreOwn lists → AreNumbered (length h.entries) count lists → IsMerging h lists h lists
begun h lists count own numbered =
    record {
      pushed = [];
      history_is = ap (λ es. record h { entries = es }) (sym (append-nil h.entries));
      own = own;
      count = count;
      numbered = numbered;
      goes_on = λ more m. m;
    }

pub pushed_on : (first : HistoryState) (all : List Own) (now : HistoryState) (lists next : List Own) (e : Entry) →
    IsMerging first all now lists → Takes (length now.entries) lists e next → IsMerging first all (record now { entries = now.entries ++ e ∷ [] }) next
pushed_on first all now lists next e m t = by_count m.count m.numbered
  where
    long : length (now.entries ++ e ∷ []) ≡ suc (length now.entries)
    long = omega (arith, length-append now.entries (e ∷ []))

    history : record now { entries = now.entries ++ e ∷ [] } ≡ record first { entries = first.entries ++ (m.pushed ++ e ∷ []) }
    history =
        ap (λ (h : HistoryState). record h { entries = h.entries ++ e ∷ [] }) m.history_is
        ∙ ap (λ es. record first { entries = es }) (append_assoc first.entries m.pushed (e ∷ []))

    from : (more : List Entry) → Merges (length (now.entries ++ e ∷ [])) next more → Merges (length first.entries) all ((m.pushed ++ e ∷ []) ++ more)
    from more merges =
        let P : ℕ → Type 0 = λ n. Merges n next more in
        let Q : List Entry → Type 0 = λ es. Merges (length first.entries) all es in
        subst Q (sym (append_assoc m.pushed (e ∷ []) more)) (m.goes_on (e ∷ more) (takes t (subst P long merges)))

    by_count : (count : ℕ) → AreNumbered (length now.entries) count lists → IsMerging first all (record now { entries = now.entries ++ e ∷ [] }) next
    by_count zero numbered =
        let inside = numbered.none e (taken_there (length now.entries) lists next e t) in
        absurd (omega (arith, inside.0, inside.1))
    by_count (suc c) numbered =
        let P : ℕ → Type 0 = λ n. AreNumbered n c next in
        record {
          pushed = m.pushed ++ e ∷ [];
          history_is = history;
          own = left_own (length now.entries) lists next e t m.own;
          count = c;
          numbered = subst P (sym long) (left_numbered (length now.entries) c lists next e t numbered);
          goes_on = from;
        }

-- What is pushed when a merge ends: all of them, or the first.
abbrev pub AllPushed : HistoryState → List Own → HistoryState → Type 0
AllPushed first all now =
    (merged : List Entry) × IsMerged (length first.entries) (length (all_of all)) all merged × (now ≡ record first { entries = first.entries ++ merged })

abbrev pub SomePushed : HistoryState → List Own → HistoryState → Type 0
SomePushed first all now =
    (merged front rest : List Entry) × IsMerged (length first.entries) (length (all_of all)) all merged × (merged ≡ front ++ rest)
    × (now ≡ record first { entries = first.entries ++ front })

abbrev pub NothingLeft : List Own → Type 0
NothingLeft lists = all_of lists ≡ []

pub all_taken : (first : HistoryState) (all : List Own) (now : HistoryState) (lists : List Own) → IsMerging first all now lists → All (IsNotNext (length now.entries)) lists → NothingLeft lists
all_taken first all now lists m none =
    let no_count : m.count ≡ 0 = none_left (length now.entries) m.count lists m.numbered m.own none in
    let P : ℕ → Type 0 = λ c. AreNumbered (length now.entries) c lists in
    nothing_left (length now.entries) lists (subst P no_count m.numbered)

pub all_pushed : (first : HistoryState) (all : List Own) (now : HistoryState) (lists : List Own) → AreOwn all → IsMerging first all now lists → All (IsNotNext (length now.entries)) lists → AllPushed first all now
all_pushed first all now lists own m none =
    let empty : all_of lists ≡ [] = all_taken first all now lists m none in
    let Q : List Entry → Type 0 = λ es. Merges (length first.entries) all es in
    let whole : Merges (length first.entries) all m.pushed = subst Q (append-nil m.pushed) (m.goes_on [] (ends empty)) in
    (m.pushed, is_merged (length first.entries) all m.pushed whole own, m.history_is)

pub some_pushed : (first : HistoryState) (all : List Own) (now : HistoryState) (lists : List Own) → AreOwn all → IsMerging first all now lists → SomePushed first all now
some_pushed first all now lists own m =
    let rest : CanMerge (length now.entries) lists = can_merge m.count (length now.entries) lists m.numbered m.own in (
      m.pushed ++ rest.merged,
      m.pushed,
      rest.merged,
      is_merged (length first.entries) all (m.pushed ++ rest.merged) (m.goes_on rest.merged rest.merges) own,
      refl,
      m.history_is,
    )

-- One entry less is left.
pub less_left : (n : ℕ) (lists next : List Own) (e : Entry) → Takes n lists e next → length (all_of next) < length (all_of lists)
less_left n lists next e t = omega (arith, taken_length n lists next e t)
