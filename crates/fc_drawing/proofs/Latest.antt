-- The last arrivals at slots and grains.
use Rattle.std.proofs.Common.{◌≡◌, ℕ, zero, suc, ◌<◌, ◌≤◌, Bool, false, cond, Option, Some, None, List, [], ◌∷◌, ◌++◌, length, slice_get, length-append, refl, sym, ap, subst, ◌∙◌, ◌⊎◌, inl, inr, arith}
use Rattle.std.proofs.lemmas.Bool.{cases_order}
use Rattle.std.proofs.lemmas.Option.{slice_get_past}
use Rattle.fc_base.specs.Column.{last_below}
use Rattle.fc_moves.proofs.Search as search_in
use Rattle.fc_moves.proofs.Search.{last_is, last_is_none, last_some}
use Rattle.fc_drawing.specs.Arrivals.{AreLatest, is_brought, last_arrival, same_place}
use Rattle.fc_drawing.specs.declared.arrivals.Arrival.{Arrival}
use Rattle.fc_drawing.proofs.Placing.{last_none, last_step}

-- ---- among the first so many, by the last of all

below_or_past : (j n : ℕ) → (j < n) ⊎ (n ≤ j)
below_or_past j n = elim (cases_order j n) [ inl e ↦ inr (omega arith) | inr r ↦ elim r [ inl lt ↦ inl lt | inr gt ↦ inr (omega arith) ] ]

last_early : (test : ℕ → Bool) (n k end : ℕ) → last_below test n ≡ Some k → ((j : ℕ) → n ≤ j → test j ≡ false) → k < end → last_below test end ≡ Some k
last_early test n k end e beyond lt =
    let h = last_some test n k e in
    last_is test end k (record { below = lt; passes = h.passes; last = λ j a b. elim (below_or_past j n) [ inl q ↦ h.last j a q | inr r ↦ beyond j r ] })

last_never : (test : ℕ → Bool) (n end : ℕ) → last_below test n ≡ None → ((j : ℕ) → n ≤ j → test j ≡ false) → last_below test end ≡ None
last_never test n end e beyond = last_is_none test end (λ j lt. elim (below_or_past j n) [ inl q ↦ search_in.last_none test n e j q | inr r ↦ beyond j r ])

none_past : (arrivals : List Arrival) (birth grain j : ℕ) → length arrivals ≤ j → is_brought birth grain (slice_get arrivals j) ≡ false
none_past arrivals birth grain j past = ap (is_brought birth grain) (slice_get_past arrivals j past)

pub arrival_early : (arrivals : List Arrival) (birth grain k end : ℕ) → Some k ≡ last_arrival arrivals birth grain (length arrivals) → k < end → Some k ≡ last_arrival arrivals birth grain end
arrival_early arrivals birth grain k end e lt =
    sym (last_early (λ n. is_brought birth grain (slice_get arrivals n)) (length arrivals) k end (sym e) (none_past arrivals birth grain) lt)

pub arrival_never : (arrivals : List Arrival) (birth grain end : ℕ) → None ≡ last_arrival arrivals birth grain (length arrivals) → None ≡ last_arrival arrivals birth grain end
arrival_never arrivals birth grain end e =
    sym (last_never (λ n. is_brought birth grain (slice_get arrivals n)) (length arrivals) end (sym e) (none_past arrivals birth grain))

-- ---- one more

at_new : (arrivals : List Arrival) (a : Arrival) → slice_get (arrivals ++ a ∷ []) (length arrivals) ≡ Some a
at_new [] a = refl
at_new (x ∷ xs) a = at_new xs a

at_old : (arrivals : List Arrival) (a : Arrival) (j : ℕ) → j < length arrivals → slice_get (arrivals ++ a ∷ []) j ≡ slice_get arrivals j
at_old [] a j lt = let l : j < zero = lt in absurd (omega arith)
at_old (x ∷ xs) a zero lt = refl
at_old (x ∷ xs) a (suc j) lt = let l : suc j < suc (length xs) = lt in at_old xs a j (omega arith)

last_alike : (one other : ℕ → Bool) (n : ℕ) → ((j : ℕ) → j < n → one j ≡ other j) → last_below one n ≡ last_below other n
last_alike one other zero alike = sym (last_none one) ∙ last_none other
last_alike one other (suc n) alike =
    last_step one n
    ∙ (ap (λ b. cond b (Some n) (last_below one n)) (alike n (omega arith))
    ∙ (ap (cond (other n) (Some n)) (last_alike one other n (λ j lt. alike j (omega arith))) ∙ sym (last_step other n)))

arrival_more : (arrivals : List Arrival) (a : Arrival) (birth grain : ℕ) →
    last_arrival (arrivals ++ a ∷ []) birth grain (length (arrivals ++ a ∷ [])) ≡ cond (same_place (a.to.slot.0, a.grain) (birth, grain)) (Some (length arrivals)) (last_arrival arrivals birth grain (length arrivals))
arrival_more arrivals a birth grain =
    let test : ℕ → Bool = λ n. is_brought birth grain (slice_get (arrivals ++ a ∷ []) n) in
    let longer : length (arrivals ++ a ∷ []) ≡ suc (length arrivals) = length-append arrivals (a ∷ []) ∙ omega arith in
    ap (last_below test) longer
    ∙ (last_step test (length arrivals)
    ∙ (ap (λ o. cond (is_brought birth grain o) (Some (length arrivals)) (last_below test (length arrivals))) (at_new arrivals a)
    ∙ ap (cond (same_place (a.to.slot.0, a.grain) (birth, grain)) (Some (length arrivals)))
    (last_alike test (λ n. is_brought birth grain (slice_get arrivals n)) (length arrivals) (λ j lt. ap (is_brought birth grain) (at_old arrivals a j lt)))))

pub latest_more : (arrivals : List Arrival) (a : Arrival) (old new : ℕ × ℕ → Option ℕ) → AreLatest arrivals old →
    ((q : ℕ × ℕ) → new q ≡ cond (same_place (a.to.slot.0, a.grain) q) (Some (length arrivals)) (old q)) → AreLatest (arrivals ++ a ∷ []) new
latest_more arrivals a old new so more = record {
  known = λ birth grain. more (birth, grain)
      ∙ (ap (cond (same_place (a.to.slot.0, a.grain) (birth, grain)) (Some (length arrivals))) (so.known birth grain) ∙ sym (arrival_more arrivals a birth grain));
}

pub latest_noted : (arrivals reserved noted : List Arrival) (a : Arrival) (old new : ℕ × ℕ → Option ℕ) (n : ℕ) → AreLatest arrivals old → reserved ≡ arrivals → n ≡ length reserved →
    ((q : ℕ × ℕ) → new q ≡ cond (same_place (a.to.slot.0, a.grain) q) (Some n) (old q)) → noted ≡ reserved ++ a ∷ [] → AreLatest noted new
latest_noted arrivals reserved noted a old new n so kept counted more pushed =
    let e : n ≡ length arrivals = counted ∙ ap length kept in
    let P : List Arrival → Type 0 = λ xs. AreLatest xs new in
    subst P (sym (pushed ∙ ap (λ (xs : List Arrival). xs ++ a ∷ []) kept))
    (latest_more arrivals a old new so (λ q. more q ∙ ap (λ (k : ℕ). cond (same_place (a.to.slot.0, a.grain) q) (Some k) (old q)) e))

pub latest_none : (arrivals : List Arrival) (latest : ℕ × ℕ → Option ℕ) → arrivals ≡ [] → ((q : ℕ × ℕ) → latest q ≡ None) → AreLatest arrivals latest
latest_none arrivals latest empty none = record {
  known = λ birth grain. none (birth, grain)
      ∙ (last_none (λ n. is_brought birth grain (slice_get [] n)) ∙ ap (λ (xs : List Arrival). last_arrival xs birth grain (length xs)) (sym empty));
}
