-- The pass from the back counts what is needed.
use Rattle.std.proofs.Common.{◌≡◌, ◌≢◌, ℕ, zero, suc, ◌+◌, ◌-◌, ◌*◌, ◌^◌, ◌<◌, ◌≤◌, Bool, true, false, not, ◌&&◌, ◌||◌, cond, List, length, get_or, set, refl, sym, ap, subst, ◌∙◌, arith, inl, inr, add-zero, get_or-set_same, get_or-set_other}
use Rattle.std.proofs.lemmas.Bool.{cases_eq, and_right}
use Rattle.std.proofs.lemmas.List.{get_or_past}
use Rattle.fc_bits.specs.Grains.{count_set}
use Rattle.fc_bits.specs.Words.{bit_of, words_for}
use Rattle.fc_base.specs.Sheet.{Slot, slot_at, column}
use Rattle.fc_base.specs.Counts.{count_below, is_needed_at, need_count_of}
use Rattle.fc_slots.specs.Contiguous.{IsContiguous}
use Rattle.fc_tallies.specs.Tallies.{tally_of, tally_at, no_tally, AreOneSize, GoesOn, behind, HasBehind, HasAwaited, HoldsWords}
use Rattle.fc_tallies.specs.declared.tally.Tally.{Tally}
use Rattle.fc_tallies.proofs.Awaiting.{needed_is, behind_last, behind_next}
use Rattle.fc_tallies.proofs.Words.{both_set}
use Rattle.fc_slots.proofs.Finds.{read_at}

-- ---- counts

pub count_same : (test other : ℕ → Bool) (n : ℕ) → ((i : ℕ) → i < n → test i ≡ other i) → count_below test n ≡ count_below other n
count_same test other zero f = refl
count_same test other (suc n) f =
    let e : test n ≡ other n = f n (omega arith) in
    ap (λ b. cond b (count_below test n + 1) (count_below test n)) e ∙ ap (λ x. cond (other n) (x + 1) x) (count_same test other n (λ i lt. f i (omega arith)))

pub count_past : (test : ℕ → Bool) (n d : ℕ) → ((i : ℕ) → n ≤ i → test i ≡ false) → count_below test (n + d) ≡ count_below test n
count_past test n zero f = ap (count_below test) (add-zero n)
count_past test n (suc d) f =
    let e : n + suc d ≡ suc (n + d) = omega arith in
    let off : test (n + d) ≡ false = f (n + d) (omega arith) in
    ap (count_below test) e ∙ (ap (λ b. cond b (count_below test (n + d) + 1) (count_below test (n + d))) off ∙ count_past test n d f)

pub count_le : (test : ℕ → Bool) (n : ℕ) → count_below test n ≤ n
count_le test zero = omega arith
count_le test (suc n) = let ih : count_below test n ≤ n = count_le test n in step (test n) (count_below test n) ih
  where
    step : (b : Bool) (x : ℕ) → x ≤ n → cond b (x + 1) x ≤ suc n
    step true x le = omega arith
    step false x le = omega arith

-- ---- one slot

pub needed_count : (slots : List Slot) (k : ℕ) (w words : List ℕ) → HoldsWords (slot_at slots k).held words → HasBehind slots k w →
    count_below (both_set w words) (64 * length words) ≡ need_count_of slots k
needed_count slots k w words h b =
    let n : ℕ = length (slot_at slots k).held in
    let room : 64 * length words ≡ n + (64 * length words - n) = omega (arith, h.len) in
    ap (count_below (both_set w words)) room
    ∙ (count_past (both_set w words) n (64 * length words - n) (λ i le. and_right (bit_of w i) (bit_of words i) (h.bits i ∙ get_or_past (slot_at slots k).held i false le))
    ∙ count_same (both_set w words) (is_needed_at slots k) n (λ g lt.
    ap (λ z. z && bit_of words g) (b g lt) ∙ (ap (λ z. behind (column slots g) k && z) (h.bits g) ∙ sym (needed_is (column slots g) k))))

pub needed_few : (slots : List Slot) (k : ℕ) (w words : List ℕ) → HoldsWords (slot_at slots k).held words → HasBehind slots k w →
    count_below (both_set w words) (64 * length words) < 2 ^ 32
needed_few slots k w words h b =
    let e : count_below (both_set w words) (64 * length words) ≡ need_count_of slots k = needed_count slots k w words h b in
    let le : need_count_of slots k ≤ length (slot_at slots k).held = count_le (is_needed_at slots k) (length (slot_at slots k).held) in
    omega (arith, h.numbered)

words_reach : (held : List Bool) (words : List ℕ) (g : ℕ) → HoldsWords held words → g < length held → g < 64 * length words
words_reach held words g h lt = omega (arith, h.len)

old_awaits : (held live b : Bool) → live ≡ false → (b && not held) ≡ (not held && (live || b))
old_awaits held true b e = absurd cc
old_awaits true false true e = refl
old_awaits true false false e = refl
old_awaits false false true e = refl
old_awaits false false false e = refl

live_awaits : (held live b : Bool) → live ≡ true → not held ≡ (not held && (live || b))
live_awaits held false b e = absurd cc
live_awaits true true b e = refl
live_awaits false true b e = refl

-- an old slot passes the waiting on, but for what it holds
pub old_leaves : (slots : List Slot) (k : ℕ) (w words after : List ℕ) → HoldsWords (slot_at slots k).held words → HasBehind slots k w → (slot_at slots k).is_live ≡ false →
    ((g : ℕ) → g < 64 * length words → bit_of after g ≡ (bit_of w g && not (bit_of words g))) → HasAwaited slots k after
old_leaves slots k w words after h b l e there g lt =
    e g (words_reach (slot_at slots k).held words g h lt) ∙ (ap (λ z. z && not (bit_of words g)) (b g lt) ∙ (ap (λ z. behind (column slots g) k && not z) (h.bits g)
    ∙ old_awaits ((column slots g).held k) (slot_at slots k).is_live (behind (column slots g) k) l))

-- a live one waits for all that it doesn't hold
pub live_leaves : (slots : List Slot) (k : ℕ) (words after : List ℕ) → HoldsWords (slot_at slots k).held words → (slot_at slots k).is_live ≡ true →
    ((g : ℕ) → g < 64 * length words → bit_of after g ≡ not (bit_of words g)) → HasAwaited slots k after
live_leaves slots k words after h l e there g lt =
    e g (words_reach (slot_at slots k).held words g h lt) ∙ (ap not (h.bits g) ∙ live_awaits ((column slots g).held k) (slot_at slots k).is_live (behind (column slots g) k) l)

-- ---- from one place to the next

pub behind_on : (slots : List Slot) (k : ℕ) (w : List ℕ) → k < length slots → AreOneSize slots → GoesOn slots k → HasAwaited slots (k + 1) w → HasBehind slots k w
behind_on slots k w there sizes go a g lt =
    let there' : k + 1 < length slots = go.0 in
    let size : length (slot_at slots (k + 1)).held ≡ length (slot_at slots k).held = sizes (k + 1) k there' there go.1 in
    a there' g (omega arith) ∙ sym (behind_next (column slots g) k (k + 1) refl there' go.1)

pub behind_end : (slots : List Slot) (k : ℕ) (w words : List ℕ) → HoldsWords (slot_at slots k).held words → IsContiguous slots → (GoesOn slots k → ⊥) →
    ((g : ℕ) → g < 64 * length words → bit_of w g ≡ false) → HasBehind slots k w
behind_end slots k w words h together ends e g lt =
    e g (words_reach (slot_at slots k).held words g h lt) ∙ sym (behind_last (column slots g) k (λ n kn nl q.
    elim (cases_eq n (k + 1)) [
      | inl same ↦ ends (omega arith, ap (λ z. (slot_at slots z).chain) (sym same) ∙ q)
      | inr ne ↦ ends (omega arith, together k (k + 1) n (omega arith) (omega arith) nl (sym q) ∙ q)
    ]))

-- ---- the list

pub tallied_more : (slots : List Slot) (tallies : List Tally) (place : ℕ) (t : Tally) → 0 < place → place ≤ length slots → length slots ≤ length tallies → t ≡ tally_of slots (place - 1) →
    ((k : ℕ) → place ≤ k → k < length slots → tally_at tallies k ≡ tally_of slots k) → (k : ℕ) → place - 1 ≤ k → k < length slots → tally_at (set tallies (place - 1) t) k ≡ tally_of slots k
tallied_more slots tallies place t lt within room e f k low high =
    elim (cases_eq k (place - 1)) [
      | inl same ↦ ap (λ z. get_or (set tallies (place - 1) t) z no_tally) same ∙ (get_or-set_same tallies (place - 1) t no_tally (omega arith) ∙ (e ∙ ap (tally_of slots) (sym same)))
      | inr ne ↦ let other : k ≢ place - 1 = ne in get_or-set_other tallies (place - 1) k t no_tally other ∙ f k (omega arith) high
    ]

-- ---- what the code reads

pub holds_words : (slots : List Slot) (k : ℕ) (t : Slot) (held : List Bool) (words : List ℕ) → k < length slots → t ≡ get_or slots k t → held ≡ t.held →
    length words ≡ words_for (length held) → ((g : ℕ) → bit_of words g ≡ get_or held g false) → length held < 2 ^ 32 → HoldsWords (slot_at slots k).held words
holds_words slots k t held words lt e q len bits few =
    let same : held ≡ (slot_at slots k).held = q ∙ ap (λ (x : Slot). x.held) (sym (read_at slots k t lt e)) in
    let P : List Bool → Type 0 = λ z. HoldsWords z words in
    subst P same (record { len = len; bits = bits; numbered = few })

pub same_tally : (slots : List Slot) (k : ℕ) (t : Slot) (held needed : ℕ) (w words : List ℕ) → k < length slots → t ≡ get_or slots k t → held ≡ count_set t.held →
    needed ≡ count_below (both_set w words) (64 * length words) → HoldsWords (slot_at slots k).held words → HasBehind slots k w →
    (let s : Tally = record { held = held; needed = needed } in s) ≡ tally_of slots k
same_tally slots k t held needed w words lt e q r h b =
    let x : held ≡ count_set (slot_at slots k).held = q ∙ ap (λ (z : Slot). count_set z.held) (sym (read_at slots k t lt e)) in
    let y : needed ≡ need_count_of slots k = r ∙ needed_count slots k w words h b in
    ap (λ z. let s : Tally = record { held = z; needed = needed } in s) x ∙ ap (λ z. let s : Tally = record { held = count_set (slot_at slots k).held; needed = z } in s) y

pub live_read : (slots : List Slot) (k : ℕ) (t : Slot) (b : Bool) → k < length slots → t ≡ get_or slots k t → (slot_at slots k).is_live ≡ t.is_live
live_read slots k t b lt e = ap (λ (x : Slot). x.is_live) (read_at slots k t lt e)
