-- What each actor asked by its own list, it asked by the merged one.
use Rattle.std.proofs.Common.{◌≡◌, ℕ, zero, suc, ◌==◌, ◌<◌, ◌⊎◌, inl, inr, true, List, [], ◌∷◌, ◌++◌, length, map, get_or, drop, All, Contains, refl, sym, ◌∙◌, ap, subst, arith}
use Rattle.std.specs.List.{AllZip, list_any}
use Rattle.std.proofs.lemmas.Bool.{eq-eqb}
use Rattle.std.proofs.lemmas.List.{append-nil, append_assoc, drop_at, get_or_append_left, length-append, map-append}
use Rattle.std.proofs.lemmas.List.Elements.{All-contains, All-head, All-tail, Contains-append_cases, filter-append}
use Rattle.std.proofs.lemmas.List.Folds.{list_any_at}
use Rattle.fc_base.specs.declared.request.Request.{Request}
use Rattle.fc_entry.specs.declared.entry.Entry.{Entry}
use Rattle.fc_legal.specs.Scripts.{Script}
use Rattle.fc_merge.specs.Merging.{AreOwn, IsMerged, IsOwn, Own, all_of, of_actor}
use Rattle.fc_scripts.proofs.Left.{left_by, own}
use Rattle.fc_scripts.specs.Actors.{AreAll, AreFirst, AreTheirs, WantMore, asks_of}
use Rattle.fc_scripts.specs.Ways.{AreOfDifferent}
use Rattle.law_together.specs.Asking.{AllAsked, AllBegan, AskedAll, AskedFirst, LeavesOf, OneWants}
use Rattle.law_together.specs.Law.{AskLaw}

abbrev requests_of : List Entry → List Request
requests_of es = map (λ (e : Entry). e.request) es

-- ---- each entry is that of an actor who has a script

record IsOfList (lists : List Own) (e : Entry) : Type 0 where
  pub place : ℕ
  pub inside : place < length lists
  pub is : (d : Own) → e.actor ≡ (get_or lists place d).actor

of_list : (lists : List Own) (e : Entry) → All IsOwn lists → Contains (all_of lists) e → IsOfList lists e
of_list [] e own_each at = absurd (omega (arith, at.1))
of_list (first ∷ lists) e own_each at =
    by_side (λ others. of_list lists e (All-tail IsOwn first lists own_each) others) (Contains-append_cases first.entries (all_of lists) e at)
  where
    by_side : (Contains (all_of lists) e → IsOfList lists e) → Contains first.entries e ⊎ Contains (all_of lists) e → IsOfList (first ∷ lists) e
    by_side behind (inl mine) =
        record {
          place = zero;
          inside = omega arith;
          is = λ d. All-contains (λ (x : Entry). x.actor ≡ first.actor) first.entries e (All-head IsOwn first lists own_each).0 mine;
        }
    by_side behind (inr others) =
        let rest : IsOfList lists e = behind others in
        record { place = suc rest.place; inside = omega (arith, rest.inside); is = λ d. rest.is d }

-- ---- lists beside scripts

zip_length : (R : Own → Script → Type 0) (ls : List Own) (ss : List Script) → AllZip R ls ss → length ls ≡ length ss
zip_length R [] [] h = refl
zip_length R [] (s ∷ ss) h = absurd h
zip_length R (l ∷ ls) [] h = absurd h
zip_length R (l ∷ ls) (s ∷ ss) h = ap (λ k. suc k) (zip_length R ls ss h.1)

zip_at : (R : Own → Script → Type 0) (ls : List Own) (ss : List Script) (k : ℕ) (d : Own) (e : Script) → AllZip R ls ss → k < length ls → R (get_or ls k d) (get_or ss k e)
zip_at R [] ss k d e h inside = absurd (omega (arith, inside))
zip_at R (l ∷ ls) [] k d e h inside = absurd h
zip_at R (l ∷ ls) (s ∷ ss) zero d e h inside = h.0
zip_at R (l ∷ ls) (s ∷ ss) (suc k) d e h inside = zip_at R ls ss k d e h.1 (omega (arith, inside))

abbrev nothing_of : Script → Own
nothing_of s = record { actor = s.actor; entries = [] }

abbrev no_script : Script
no_script = record { actor = 0; requests = [] }

module _ (lists : List Own) (scripts : List Script) (first_part : AllBegan lists scripts) where
  same_count : length lists ≡ length scripts
  same_count = zip_length AskedFirst lists scripts first_part

  at : (k : ℕ) (d : Own) (s : Script) → k < length scripts → AskedFirst (get_or lists k d) (get_or scripts k s)
  at k d s inside = zip_at AskedFirst lists scripts k d s first_part (omega (arith, inside, same_count))

  has_script : (e : Entry) → IsOfList lists e → list_any (λ (s : Script). s.actor == e.actor) scripts ≡ true
  has_script e of =
      let inside : of.place < length scripts = omega (arith, of.inside, same_count) in
      let s : Script = get_or scripts of.place no_script in
      let d : Own = nothing_of s in
      let same : s.actor ≡ e.actor = sym ((at of.place d no_script inside).1.actor) ∙ sym (of.is d) in
      list_any_at (λ (x : Script). x.actor == e.actor) scripts of.place no_script inside (eq-eqb s.actor e.actor same)

  theirs : (first count : ℕ) (merged : List Entry) → AreOwn lists → IsMerged first count lists merged → AreTheirs scripts merged
  theirs first count merged own_each m = λ k d inside. has_script (get_or merged k d) (of_list lists (get_or merged k d) own_each.0 (m.of_lists k d inside))

-- ---- what an actor asked

asks_own : (first count : ℕ) (lists : List Own) (merged : List Entry) (o : Own) (s : Script) (left : List Request) →
    of_actor o.actor merged ≡ o.entries → LeavesOf s o left → asks_of s.actor merged ++ left ≡ s.requests
asks_own first count lists merged o s left each leaves =
    ap (λ a. asks_of a merged ++ left) (sym leaves.actor)
    ∙ ap (λ (es : List Entry). requests_of es ++ left) each
    ∙ leaves.asked

asks-append : (a : ℕ) (xs ys : List Entry) → asks_of a (xs ++ ys) ≡ asks_of a xs ++ asks_of a ys
asks-append a xs ys =
    ap requests_of (filter-append (λ (e : Entry). e.actor == a) xs ys)
    ∙ map-append (λ (e : Entry). e.request) (of_actor a xs) (of_actor a ys)

-- What is left behind the first of some requests.
left_behind : (xs more all : List Request) → xs ++ more ≡ all → drop (length xs) all ≡ more
left_behind xs more all is = ap (λ (rs : List Request). drop (length xs) rs) (sym is) ∙ drop_at xs more (length xs) refl

split_left : (xs more all : List Request) → xs ++ more ≡ all → xs ++ drop (length xs) all ≡ all
split_left xs more all is = ap (λ (rs : List Request). xs ++ rs) (left_behind xs more all is) ∙ is

front_all : (P : Entry → Type 0) (xs ys : List Entry) → All P (xs ++ ys) → All P xs
front_all P xs ys all = λ k d inside.
    subst P (get_or_append_left xs ys d k inside) (all k d (omega (arith, inside, length-append xs ys)))

abbrev left_after : List Script → List Entry → ℕ → List Request
left_after scripts entries a = drop (length (asks_of a entries)) (left_by scripts a)

module _ (first count : ℕ) (lists : List Own) (scripts : List Script) (front rest : List Entry)
    (differ : AreOfDifferent scripts) (own_each : AreOwn lists) (began : AllBegan lists scripts) (m : IsMerged first count lists (front ++ rest)) where
  asks_front : (o : Own) (s : Script) (left : List Request) → of_actor o.actor (front ++ rest) ≡ o.entries → LeavesOf s o left →
      asks_of s.actor front ++ (asks_of s.actor rest ++ left) ≡ s.requests
  asks_front o s left each leaves =
      sym (append_assoc (asks_of s.actor front) (asks_of s.actor rest) left)
      ∙ ap (λ (rs : List Request). rs ++ left) (sym (asks-append s.actor front rest))
      ∙ asks_own first count lists (front ++ rest) o s left each leaves

  left_of : (k : ℕ) (d : Script) → k < length scripts →
      asks_of (get_or scripts k d).actor front ++ left_after scripts front (get_or scripts k d).actor ≡ (get_or scripts k d).requests
  left_of k d inside =
      let s : Script = get_or scripts k d in
      let o : Own = get_or lists k (nothing_of s) in
      let has : AskedFirst o s = at lists scripts began k (nothing_of s) d inside in
      let each : of_actor o.actor (front ++ rest) ≡ o.entries = m.each k (nothing_of s) (omega (arith, inside, same_count lists scripts began)) in
      let own_script : left_by scripts s.actor ≡ s.requests = own scripts differ k d inside in
      ap (λ (rs : List Request). asks_of s.actor front ++ drop (length (asks_of s.actor front)) rs) own_script
      ∙ split_left (asks_of s.actor front) (asks_of s.actor rest ++ has.0) s.requests (asks_front o s has.0 each has.1)

  pub are_first : AreFirst scripts front
  are_first =
      record {
        left = left_after scripts front;
        each = left_of;
        nobody_else = front_all (λ (e : Entry). list_any (λ (s : Script). s.actor == e.actor) scripts ≡ true) front rest (theirs lists scripts began first count (front ++ rest) own_each m);
      }

all_began : (ls : List Own) (ss : List Script) → AllAsked ls ss → AllBegan ls ss
all_began [] [] h = tt
all_began [] (s ∷ ss) h = absurd h
all_began (l ∷ ls) [] h = absurd h
all_began (l ∷ ls) (s ∷ ss) h = (([], h.0), all_began ls ss h.1)

one_wants : (o : Own) (s : Script) (ls : List Own) (ss : List Script) (wanted : Request) (behind : List Request) → LeavesOf s o (wanted ∷ behind) → OneWants (o ∷ ls) (s ∷ ss)
one_wants o s ls ss wanted behind leaves =
    record {
      own = o;
      script = s;
      is_list = (zero, omega arith, refl);
      is_script = (zero, omega arith, refl);
      wanted = wanted;
      behind = behind;
      leaves = leaves;
    }

other_wants : (o : Own) (s : Script) (ls : List Own) (ss : List Script) → OneWants ls ss → OneWants (o ∷ ls) (s ∷ ss)
other_wants o s ls ss one =
    record {
      own = one.own;
      script = one.script;
      is_list = (suc one.is_list.0, omega (arith, one.is_list.1), one.is_list.2);
      is_script = (suc one.is_script.0, omega (arith, one.is_script.1), one.is_script.2);
      wanted = one.wanted;
      behind = one.behind;
      leaves = one.leaves;
    }

pub asked_all : (first count : ℕ) (lists : List Own) (scripts : List Script) (merged : List Entry) →
    AreOwn lists → AllAsked lists scripts → IsMerged first count lists merged → AreAll scripts merged
asked_all first count lists scripts merged own_each all m =
    let began : AllBegan lists scripts = all_began lists scripts all in
    record {
      each = λ k d inside.
          let s : Script = get_or scripts k d in
          let o : Own = get_or lists k (nothing_of s) in
          let k_in : k < length lists = omega (arith, inside, same_count lists scripts began) in
          sym (append-nil (asks_of s.actor merged))
          ∙ asks_own first count lists merged o s [] (m.each k (nothing_of s) k_in) (zip_at AskedAll lists scripts k (nothing_of s) d all k_in);
      nobody_else = theirs lists scripts began first count merged own_each m;
    }

pub asked_more : (first count : ℕ) (lists : List Own) (scripts : List Script) (merged : List Entry) → AreOfDifferent scripts →
    AreOwn lists → AllBegan lists scripts → OneWants lists scripts → IsMerged first count lists merged → WantMore scripts merged
unfolding are_first
asked_more first count lists scripts merged differ own_each began one m =
    let P : List Entry → Type 0 = λ es. IsMerged first count lists es in
    let m' : IsMerged first count lists (merged ++ []) = subst P (sym (append-nil merged)) m in
    let each : of_actor one.own.actor merged ≡ one.own.entries = All-contains (λ (o : Own). of_actor o.actor merged ≡ o.entries) lists one.own m.each one.is_list in
    let own_script : left_by scripts one.script.actor ≡ one.script.requests = All-contains (λ (s : Script). left_by scripts s.actor ≡ s.requests) scripts one.script (own scripts differ) one.is_script in
    record {
      first = are_first first count lists scripts merged [] differ own_each began m';
      script = one.script;
      is_one = one.is_script;
      wanted = one.wanted;
      behind = one.behind;
      is_left =
          ap (λ (rs : List Request). drop (length (asks_of one.script.actor merged)) rs) own_script
          ∙ left_behind (asks_of one.script.actor merged) (one.wanted ∷ one.behind) one.script.requests
          (asks_own first count lists merged one.own one.script (one.wanted ∷ one.behind) each one.leaves);
    }

pub ask_law_holds : AskLaw
ask_law_holds = record {
  started = all_began;
  one = one_wants;
  other = other_wants;
  all = asked_all;
  began = are_first;
  wants = asked_more;
}
