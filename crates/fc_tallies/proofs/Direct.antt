-- Who has a slot as holder at some grain: the grains that it holds, less those of each slot passed.
use Rattle.std.proofs.Common.{◌≡◌, ℕ, zero, suc, ◌+◌, ◌-◌, ◌*◌, ◌^◌, ◌<◌, ◌≤◌, Bool, true, false, not, ◌&&◌, cond, eqb, List, [], ◌∷◌, ◌++◌, length, get_or, take, refl, sym, ap, ◌∙◌, arith, inl, inr, add-zero, append_assoc, append-nil}
use Rattle.std.proofs.lemmas.Bool.{cases_Bool, both_ways, cases_eq, eq-eqb, ne_eqb, and_from, and_parts, and_left, not_from_false, not-true, false_from_ne_true}
use Rattle.std.proofs.lemmas.List.{get_or_past, take_all}
use Rattle.std.proofs.lemmas.List.Sums.{sum_by_more}
use Rattle.fc_base.specs.declared.ids.SlotId.{SlotId}
use Rattle.fc_bits.specs.Grains.{count_set}
use Rattle.fc_bits.specs.Words.{bit_of, words_for}
use Rattle.fc_base.specs.Column.{Column, holder, is_at}
use Rattle.fc_base.specs.Sheet.{Slot, slot_at, slot_id, column}
use Rattle.fc_base.specs.Counts.{count_below, names_below, is_direct}
use Rattle.fc_slots.specs.Contiguous.{IsContiguous}
use Rattle.fc_tallies.specs.Tallies.{AreOneSize, GoesOn, HoldsWords}
use Rattle.fc_moves.proofs.Readers.{IsHolder, holder_is, is_holder, holder_between, own_holder}
use Rattle.fc_sheets.proofs.Finding.{at_true, at_from}
use Rattle.fc_tallies.proofs.Needs.{count_some, counted, any_found, any_from, held_below}
use Rattle.fc_slots.proofs.Finds.{read_at}
use Rattle.fc_tallies.proofs.Tallying.{count_same, count_past, holds_words}
use Rattle.fc_tallies.proofs.Words.{both_set}

-- ---- one grain

-- the slot at `j` has the one at `k` as holder
abbrev pub reads : Column → ℕ → ℕ → Bool
reads c k j = is_at (holder c j) k

reads_holder : (c : Column) (k j : ℕ) → reads c k j ≡ true → IsHolder c j k
reads_holder c k j e = holder_is c j k (at_true (holder c j) k e)

holder_reads : (c : Column) (k j : ℕ) → IsHolder c j k → reads c k j ≡ true
holder_reads c k j i = at_from (holder c j) k (is_holder c j k i)

-- a slot reads at itself where it holds
pub reads_self : (c : Column) (k : ℕ) → reads c k k ≡ c.held k
reads_self c k =
    elim (cases_Bool (c.held k)) [
      | inl t ↦ holder_reads c k k (own_holder c k t) ∙ sym t
      | inr f ↦ false_from_ne_true (reads c k k) (λ e. let i = reads_holder c k k e in both_ways (c.held k) f i.holds) ∙ sym f
    ]

same_when : (a b : Bool) → (a ≡ true → b ≡ true) → (b ≡ true → a ≡ true) → a ≡ b
same_when true true f g = refl
same_when true false f g = sym (f refl)
same_when false true f g = g refl
same_when false false f g = refl

-- the next slot of the chain reads where this one does and it doesn't hold itself
pub reads_next : (c : Column) (k j n : ℕ) → n ≡ j + 1 → k ≤ j → c.chain n ≡ c.chain j → reads c k n ≡ (reads c k j && not (c.held n))
reads_next c k j n e le q =
    same_when (reads c k n) (reads c k j && not (c.held n))
    (λ t. let i = reads_holder c k n t in
    let free : c.held n ≡ false = false_from_ne_true (c.held n) (λ u. i.nearest n (omega arith) (omega arith) refl u) in
    and_from _ _ (holder_reads c k j (holder_between c n k j i le (omega arith) (sym q))) (not_from_false (c.held n) free))
    (λ t. let p = and_parts (reads c k j) (not (c.held n)) t in
    let i = reads_holder c k j p.0 in
    holder_reads c k n (record {
      before = omega arith;
      one_chain = i.one_chain ∙ sym q;
      holds = i.holds;
      nearest = λ x kx xn r u. elim (cases_eq x n) [
        | inl same ↦ both_ways (c.held n) (not-true (c.held n) p.1) (ap c.held (sym same) ∙ u)
        | inr ne ↦ i.nearest x kx (omega arith) (r ∙ q) u
      ];
    }))

-- who reads from behind reads through each slot of the chain between
pub reads_between : (c : Column) (k j n : ℕ) → k ≤ j → j ≤ n → c.chain j ≡ c.chain n → reads c k n ≡ true → reads c k j ≡ true
reads_between c k j n kj jn q e = holder_reads c k j (holder_between c n k j (reads_holder c k n e) kj jn q)

pub reads_chain : (c : Column) (k n : ℕ) → reads c k n ≡ true → (k ≤ n) × (c.chain k ≡ c.chain n) × (c.held k ≡ true)
reads_chain c k n e = let i = reads_holder c k n e in (i.before, i.one_chain, i.holds)

-- ---- counts

pub count_parts : (a b : ℕ → Bool) (n : ℕ) → count_below (λ g. a g && b g) n + count_below (λ g. a g && not (b g)) n ≡ count_below a n
count_parts a b zero = refl
count_parts a b (suc n) =
    let ih : count_below (λ g. a g && b g) n + count_below (λ g. a g && not (b g)) n ≡ count_below a n = count_parts a b n in
    step (a n) (b n) (count_below (λ g. a g && b g) n) (count_below (λ g. a g && not (b g)) n) (count_below a n) ih
  where
    step : (p q : Bool) (x y z : ℕ) → x + y ≡ z → cond (p && q) (x + 1) x + cond (p && not q) (y + 1) y ≡ cond p (z + 1) z
    step true true x y z e = omega arith
    step true false x y z e = omega arith
    step false q x y z e = e

-- ---- the walk

-- what is left of a slot's grains at a reader
pub record Left (slots : List Slot) (k j : ℕ) (left : List ℕ) (remaining : ℕ) : Type 0 where
  pub long : length left ≡ words_for (length (slot_at slots k).held)
  pub numbered : length (slot_at slots k).held < 2 ^ 32
  pub bits : (g : ℕ) → g < 64 * length left → bit_of left g ≡ reads (column slots g) k j
  pub counted : remaining ≡ count_below (bit_of left) (64 * length left)

pub record WalkAt (slots : List Slot) (k j : ℕ) : Type 0 where
  pub behind : k ≤ j
  pub there : j < length slots
  pub one_chain : (slot_at slots j).chain ≡ (slot_at slots k).chain

pub left_first : (slots : List Slot) (k : ℕ) (left : List ℕ) (n : ℕ) → HoldsWords (slot_at slots k).held left → n ≡ count_below (bit_of left) (64 * length left) → Left slots k k left n
left_first slots k left n h e = record {
  long = h.len;
  numbered = h.numbered;
  bits = λ g lt. h.bits g ∙ sym (reads_self (column slots g) k);
  counted = e;
}

count_take : (held : List Bool) (i : ℕ) → i ≤ length held → count_set (take i held) ≡ count_below (λ g. get_or held g false) i
count_take held zero le = refl
count_take held (suc i) le =
    let ih : count_set (take i held) ≡ count_below (λ g. get_or held g false) i = count_take held i (omega arith) in
    let e : suc i ≡ i + 1 = omega arith in
    ap (λ z. count_set (take z held)) e ∙ (sum_by_more (λ (x : Bool). cond x 1 0) held i false (omega arith) ∙ (ap (λ z. z + cond (get_or held i false) 1 0) ih ∙ step (get_or held i false) (count_below (λ g. get_or held g false) i)))
  where
    step : (b : Bool) (x : ℕ) → x + cond b 1 0 ≡ cond b (x + 1) x
    step true x = refl
    step false x = add-zero x

-- the grains of a set, counted by their numbers
pub count_set_below : (held : List Bool) → count_set held ≡ count_below (λ g. get_or held g false) (length held)
count_set_below held = ap count_set (sym (take_all (length held) held (omega arith))) ∙ count_take held (length held) (omega arith)

pub count_words_held : (held : List Bool) (words : List ℕ) → HoldsWords held words → count_set held ≡ count_below (bit_of words) (64 * length words)
count_words_held held words h =
    let room : 64 * length words ≡ length held + (64 * length words - length held) = omega (arith, h.len) in
    count_set_below held
    ∙ (sym (count_same (bit_of words) (λ g. get_or held g false) (length held) (λ g lt. h.bits g))
    ∙ (sym (count_past (bit_of words) (length held) (64 * length words - length held) (λ g le. h.bits g ∙ get_or_past held g false le))
    ∙ sym (ap (count_below (bit_of words)) room)))

pub walk_first : (slots : List Slot) (k : ℕ) → k < length slots → WalkAt slots k k
walk_first slots k lt = record { behind = omega arith; there = lt; one_chain = refl }

pub walk_next : (slots : List Slot) (k j : ℕ) → WalkAt slots k j → GoesOn slots j → WalkAt slots k (j + 1)
walk_next slots k j w go = record { behind = (let b : k ≤ j = w.behind in omega arith); there = go.0; one_chain = go.1 ∙ w.one_chain }

one_size : (slots : List Slot) (k j : ℕ) → AreOneSize slots → WalkAt slots k j → length (slot_at slots j).held ≡ length (slot_at slots k).held
one_size slots k j sizes w = let b : k ≤ j = w.behind in let t : j < length slots = w.there in sizes j k t (omega arith) w.one_chain

pub one_length : (slots : List Slot) (k j : ℕ) (left words : List ℕ) (r : ℕ) → AreOneSize slots → WalkAt slots k j → Left slots k j left r → (i : ℕ) → WalkAt slots k i → HoldsWords (slot_at slots i).held words → length words ≡ length left
one_length slots k j left words r sizes w l i v h =
    h.len ∙ (ap words_for (one_size slots k i sizes v) ∙ sym l.long)

-- one more slot is passed
pub record Passed (slots : List Slot) (k j : ℕ) (left after words : List ℕ) (r taken : ℕ) : Type 0 where
  pub same_length : length words ≡ length left
  pub kept_length : length after ≡ length left
  pub took : taken ≡ count_below (both_set left words) (64 * length words)
  pub rest : (g : ℕ) → g < 64 * length words → bit_of after g ≡ (bit_of left g && not (bit_of words g))

pub taken_le : (slots : List Slot) (k j : ℕ) (left after words : List ℕ) (r taken : ℕ) → Left slots k j left r → length words ≡ length left → taken ≡ count_below (both_set left words) (64 * length words) → taken ≤ r
taken_le slots k j left after words r taken l e t =
    let n : ℕ = 64 * length left in
    let x : count_below (both_set left words) (64 * length words) ≡ count_below (both_set left words) n = ap (λ z. count_below (both_set left words) (64 * z)) e in
    let y : count_below (both_set left words) n + count_below (λ g. bit_of left g && not (bit_of words g)) n ≡ count_below (bit_of left) n = count_parts (bit_of left) (bit_of words) n in
    let z : r ≡ count_below (bit_of left) n = l.counted in
    omega arith

pub left_next : (slots : List Slot) (k j : ℕ) (left after words : List ℕ) (r taken : ℕ) → WalkAt slots k j → GoesOn slots j → Left slots k j left r → HoldsWords (slot_at slots (j + 1)).held words →
    Passed slots k j left after words r taken → Left slots k (j + 1) after (r - taken)
left_next slots k j left after words r taken w go l h p =
    let n : ℕ = 64 * length left in
    let rest : (g : ℕ) → g < n → bit_of after g ≡ (bit_of left g && not (bit_of words g)) = λ g lt. p.rest g (omega (arith, p.same_length)) in
    let x : taken ≡ count_below (both_set left words) n = p.took ∙ ap (λ z. count_below (both_set left words) (64 * z)) p.same_length in
    let y : count_below (both_set left words) n + count_below (λ g. bit_of left g && not (bit_of words g)) n ≡ count_below (bit_of left) n = count_parts (bit_of left) (bit_of words) n in
    let z : r ≡ count_below (bit_of left) n = l.counted in
    let s : count_below (bit_of after) n ≡ count_below (λ g. bit_of left g && not (bit_of words g)) n = count_same (bit_of after) (λ g. bit_of left g && not (bit_of words g)) n rest in
    let m : count_below (bit_of after) (64 * length after) ≡ count_below (bit_of after) n = ap (λ q. count_below (bit_of after) (64 * q)) p.kept_length in
    record {
      long = p.kept_length ∙ l.long;
      numbered = l.numbered;
      bits = λ g lt.
          let below : g < n = omega (arith, p.kept_length) in
          rest g below ∙ (ap (λ b. b && not (bit_of words g)) (l.bits g below) ∙ (ap (λ b. reads (column slots g) k j && not b) (h.bits g) ∙ sym (reads_next (column slots g) k j (j + 1) refl w.behind go.1)));
      counted = omega arith;
    }

-- ---- who is listed

held_grain : (slots : List Slot) (k g : ℕ) (left : List ℕ) → length left ≡ words_for (length (slot_at slots k).held) → get_or (slot_at slots k).held g false ≡ true → g < 64 * length left
held_grain slots k g left e t = let lt : g < length (slot_at slots k).held = held_below (slot_at slots k).held g t in omega arith

pub direct_yes : (slots : List Slot) (k j : ℕ) (left : List ℕ) (r : ℕ) → AreOneSize slots → WalkAt slots k j → k < j → Left slots k j left r → 0 < r → (slot_at slots j).is_live ≡ true → is_direct slots k j ≡ true
direct_yes slots k j left r sizes w lt l pos live =
    let c : r ≡ count_below (bit_of left) (64 * length left) = l.counted in
    let f = counted (bit_of left) (64 * length left) (omega arith) in
    let t : reads (column slots f.0) k j ≡ true = sym (l.bits f.0 f.1) ∙ f.2 in
    let h = reads_chain (column slots f.0) k j t in
    let below : f.0 < length (slot_at slots k).held = held_below (slot_at slots k).held f.0 h.2 in
    let size : length (slot_at slots j).held ≡ length (slot_at slots k).held = one_size slots k j sizes w in
    and_from _ _ (and_from _ _ live (not_from_false _ (ne_eqb j k (λ e. omega arith))))
    (any_from (λ g. is_at (holder (column slots g) j) k) (length (slot_at slots j).held) f.0 (omega arith) t)

pub direct_old : (slots : List Slot) (k j : ℕ) → (slot_at slots j).is_live ≡ false → is_direct slots k j ≡ false
direct_old slots k j e = and_left _ _ (and_left _ _ e)

direct_grain : (slots : List Slot) (k j : ℕ) → is_direct slots k j ≡ true → (g : ℕ) × (reads (column slots g) k j ≡ true)
direct_grain slots k j e =
    let p = and_parts ((slot_at slots j).is_live && not (eqb j k)) _ e in
    let f = any_found (λ g. is_at (holder (column slots g) j) k) (length (slot_at slots j).held) p.1 in
    (f.0, f.2)

pub direct_before : (slots : List Slot) (k j : ℕ) → j ≤ k → is_direct slots k j ≡ false
direct_before slots k j le =
    false_from_ne_true (is_direct slots k j) (λ e.
    let p = and_parts ((slot_at slots j).is_live && not (eqb j k)) _ e in
    let q = and_parts (slot_at slots j).is_live (not (eqb j k)) p.0 in
    let f = direct_grain slots k j e in
    let h = reads_chain (column slots f.0) k j f.1 in
    let same : j ≡ k = omega (arith, h.0) in
    both_ways (eqb j k) (not-true _ q.1) (eq-eqb j k same))

-- with nothing left no slot from here on reads
pub direct_none : (slots : List Slot) (k j n : ℕ) (left : List ℕ) (r : ℕ) → WalkAt slots k j → Left slots k j left r → r ≡ 0 → j ≤ n → is_direct slots k n ≡ false
direct_none slots k j n left r w l z le =
    false_from_ne_true (is_direct slots k n) (λ e.
    let f = direct_grain slots k n e in
    let h = reads_chain (column slots f.0) k n f.1 in
    let t : reads (column slots f.0) k j ≡ true = reads_between (column slots f.0) k j n w.behind le (w.one_chain ∙ h.1) f.1 in
    let below : f.0 < 64 * length left = held_grain slots k f.0 left l.long h.2 in
    let some : 0 < count_below (bit_of left) (64 * length left) = count_some (bit_of left) (64 * length left) f.0 below (l.bits f.0 below ∙ t) in
    let c : r ≡ count_below (bit_of left) (64 * length left) = l.counted in
    omega arith)

-- behind the chain's last slot none reads
pub direct_past : (slots : List Slot) (k j n : ℕ) → IsContiguous slots → WalkAt slots k j → (GoesOn slots j → ⊥) → j < n → n < length slots → is_direct slots k n ≡ false
direct_past slots k j n together w ends lt there =
    false_from_ne_true (is_direct slots k n) (λ e.
    let f = direct_grain slots k n e in
    let h = reads_chain (column slots f.0) k n f.1 in
    let q : (slot_at slots j).chain ≡ (slot_at slots n).chain = w.one_chain ∙ h.1 in
    elim (cases_eq n (j + 1)) [
      | inl same ↦ ends (omega arith, ap (λ z. (slot_at slots z).chain) (sym same) ∙ sym q)
      | inr ne ↦ ends (omega arith, together j (j + 1) n (omega arith) (omega arith) there q ∙ sym q)
    ])

-- ---- names

pub names_skip : (slots : List Slot) (test : ℕ → Bool) (n d : ℕ) → ((i : ℕ) → n ≤ i → i < n + d → test i ≡ false) → names_below slots test (n + d) ≡ names_below slots test n
names_skip slots test n zero f = ap (names_below slots test) (add-zero n)
names_skip slots test n (suc d) f =
    let e : n + suc d ≡ suc (n + d) = omega arith in
    let off : test (n + d) ≡ false = f (n + d) (omega arith) (omega arith) in
    ap (names_below slots test) e ∙ (ap (λ b. cond b (names_below slots test (n + d) ++ slot_id slots (n + d) ∷ []) (names_below slots test (n + d))) off ∙ names_skip slots test n d (λ i lo hi. f i lo (omega arith)))

pub names_to : (slots : List Slot) (test : ℕ → Bool) (n m : ℕ) → n ≤ m → ((i : ℕ) → n ≤ i → i < m → test i ≡ false) → names_below slots test m ≡ names_below slots test n
names_to slots test n m le f =
    let e : m ≡ n + (m - n) = omega arith in
    ap (names_below slots test) e ∙ names_skip slots test n (m - n) (λ i lo hi. f i lo (omega arith))

pub names_yes : (slots : List Slot) (test : ℕ → Bool) (n : ℕ) → test n ≡ true → names_below slots test (n + 1) ≡ names_below slots test n ++ slot_id slots n ∷ []
names_yes slots test n t =
    let e : n + 1 ≡ suc n = omega arith in
    ap (names_below slots test) e ∙ ap (λ b. cond b (names_below slots test n ++ slot_id slots n ∷ []) (names_below slots test n)) t

pub names_no : (slots : List Slot) (test : ℕ → Bool) (n : ℕ) → test n ≡ false → names_below slots test (n + 1) ≡ names_below slots test n
names_no slots test n t =
    let e : n + 1 ≡ suc n = omega arith in
    ap (names_below slots test) e ∙ ap (λ b. cond b (names_below slots test n ++ slot_id slots n ∷ []) (names_below slots test n)) t

-- ---- the walk's steps, by what is read

pub record Step (slots : List Slot) (k j : ℕ) (left words : List ℕ) (r : ℕ) : Type 0 where
  pub walk : WalkAt slots k (j + 1)
  pub holds : HoldsWords (slot_at slots (j + 1)).held words
  pub same_length : length words ≡ length left
  pub few : count_below (both_set left words) (64 * length words) < 2 ^ 32

pub step_to : (slots : List Slot) (k j : ℕ) (left words : List ℕ) (r : ℕ) (t : Slot) (held : List Bool) → AreOneSize slots → WalkAt slots k j → GoesOn slots j → Left slots k j left r → r < 2 ^ 32 →
    t ≡ get_or slots (j + 1) t → held ≡ t.held → length words ≡ words_for (length held) → ((g : ℕ) → bit_of words g ≡ get_or held g false) → length held < 2 ^ 32 → Step slots k j left words r
step_to slots k j left words r t held sizes w go l fits e q len bits few =
    let v = walk_next slots k j w go in
    let h = holds_words slots (j + 1) t held words go.0 e q len bits few in
    let s = one_length slots k j left words r sizes w l (j + 1) v h in
    let le : count_below (both_set left words) (64 * length words) ≤ r = taken_le slots k j left words words r (count_below (both_set left words) (64 * length words)) l s refl in
    record { walk = v; holds = h; same_length = s; few = omega arith }

pub stepped : (slots : List Slot) (k j : ℕ) (left after words : List ℕ) (r taken : ℕ) → WalkAt slots k j → GoesOn slots j → Left slots k j left r → Step slots k j left words r →
    length after ≡ length left → taken ≡ count_below (both_set left words) (64 * length words) → ((g : ℕ) → g < 64 * length words → bit_of after g ≡ (bit_of left g && not (bit_of words g))) →
    Left slots k (j + 1) after (r - taken)
stepped slots k j left after words r taken w go l s e t rest =
    left_next slots k j left after words r taken w go l s.holds (record { same_length = s.same_length; kept_length = e; took = t; rest = rest })

pub listed_none : (slots : List Slot) (k n : ℕ) (out before : List SlotId) → is_direct slots k n ≡ false → out ≡ before ++ names_below slots (is_direct slots k) n → out ≡ before ++ names_below slots (is_direct slots k) (n + 1)
listed_none slots k n out before f e = e ∙ ap (λ z. before ++ z) (sym (names_no slots (is_direct slots k) n f))

pub listed_one : (slots : List Slot) (k n b : ℕ) (out before : List SlotId) → is_direct slots k n ≡ true → b ≡ (slot_at slots n).birth → out ≡ before ++ names_below slots (is_direct slots k) n →
    out ++ (let s : SlotId = record { 0 = b } in s) ∷ [] ≡ before ++ names_below slots (is_direct slots k) (n + 1)
listed_one slots k n b out before t q e =
    let name : (let s : SlotId = record { 0 = b } in s) ≡ slot_id slots n = ap (λ z. let s : SlotId = record { 0 = z } in s) q in
    ap (λ z. z ++ (let s : SlotId = record { 0 = b } in s) ∷ []) e
    ∙ (ap (λ (z : SlotId). (before ++ names_below slots (is_direct slots k) n) ++ z ∷ []) name
    ∙ (append_assoc before (names_below slots (is_direct slots k) n) (slot_id slots n ∷ [])
    ∙ ap (λ z. before ++ z) (sym (names_yes slots (is_direct slots k) n t))))

pub listed_all : (slots : List Slot) (k n m : ℕ) (out before : List SlotId) → n ≤ m → ((i : ℕ) → n ≤ i → i < m → is_direct slots k i ≡ false) → out ≡ before ++ names_below slots (is_direct slots k) n →
    out ≡ before ++ names_below slots (is_direct slots k) m
listed_all slots k n m out before le f e = e ∙ ap (λ z. before ++ z) (sym (names_to slots (is_direct slots k) n m le f))

pub listed_first : (slots : List Slot) (k : ℕ) (before : List SlotId) → before ≡ before ++ names_below slots (is_direct slots k) (k + 1)
listed_first slots k before =
    sym (ap (λ z. before ++ z) (names_to slots (is_direct slots k) 0 (k + 1) (omega arith) (λ i lo hi. direct_before slots k i (omega arith))) ∙ append-nil before)

pub remaining_first : (slots : List Slot) (k : ℕ) (t : Slot) (left : List ℕ) (n : ℕ) → k < length slots → t ≡ get_or slots k t → n ≡ count_set t.held → HoldsWords (slot_at slots k).held left → Left slots k k left n
remaining_first slots k t left n lt e q h =
    left_first slots k left n h (q ∙ (ap (λ (x : Slot). count_set x.held) (sym (read_at slots k t lt e)) ∙ count_words_held (slot_at slots k).held left h))
