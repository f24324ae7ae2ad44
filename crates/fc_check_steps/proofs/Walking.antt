-- Walks over steps: their moves, where an entry ended, and that it ended nowhere.
use Rattle.std.proofs.Common.{◌≡◌, ◌↔◌, ℕ, zero, suc, ◌+◌, ◌<◌, ◌≤◌, Bool, false, IsTrue, Option, Some, None, List, [], ◌∷◌, ◌++◌, take, length, get_or, refl, sym, ap, subst, ◌∙◌, arith}
use Rattle.std.specs.Prelude.{filter_map, option_to_list}
use Rattle.std.specs.List.{sum_by}
use Rattle.std.proofs.lemmas.List.{take_more}
use Rattle.std.proofs.lemmas.List.Elements.{filter_map-append}
use Rattle.std.proofs.lemmas.List.Sums.{sum-map, sum_by_more_le}
use Rattle.fc_base.specs.declared.request.Move.{Move}
use Rattle.fc_entry.specs.declared.entry.Entry.{Entry}
use Rattle.fc_rules.specs.LaneTold.{LaneVolume, is_thin_in}
use Rattle.fc_rules.specs.Steps.{DiskStep, moves_of, calls_of_steps}
use Rattle.fc_check_steps.specs.Steps.{EndsAt, EndFound, ExtraFound, FailsWith, FailsAt, WantsWith, WantsAt, step_at, torn_at}
use Rattle.fc_check_steps.proofs.Verdicts.{false_is}

pub moves_more : (xs : List DiskStep) (now new : List Move) (i : ℕ) (d : DiskStep) (o : Option Move) → i < length xs → now ≡ moves_of (take i xs) → d ≡ get_or xs i d → o ≡ d.move → new ≡ now ++ option_to_list o →
    new ≡ moves_of (take (i + 1) xs)
moves_more xs now new i d o lt before at found added =
    let e : moves_of (take (i + 1) xs) ≡ moves_of (take i xs) ++ option_to_list (get_or xs i d).move =
    ap moves_of (take_more xs i d lt) ∙ (filter_map-append (λ (s : DiskStep). s.move) (take i xs) (get_or xs i d ∷ []) ∙ ap (λ ys. moves_of (take i xs) ++ ys) (one (get_or xs i d).move)) in
    added ∙ (ap (λ ys. ys ++ option_to_list o) before ∙ (ap (λ p. moves_of (take i xs) ++ option_to_list p) (found ∙ ap (λ (z : DiskStep). z.move) at) ∙ sym e))
  where
    one : (p : Option Move) → filter_map (λ (q : Option Move). q) (p ∷ []) ≡ option_to_list p
    one None = refl
    one (Some y) = refl

-- the step at a place, whatever stands past the end
at_any : (xs : List DiskStep) (i : ℕ) (d e : DiskStep) → i < length xs → get_or xs i d ≡ get_or xs i e
at_any [] i d e lt = absurd (omega arith)
at_any (x ∷ xs) zero d e lt = refl
at_any (x ∷ xs) (suc i) d e lt = at_any xs i d e (omega arith)

-- more calls than so many
pub calls_past : (xs : List DiskStep) (i : ℕ) (item : DiskStep) (left own calls : ℕ) → i < length xs → item ≡ get_or xs i item → own ≡ item.calls → left + calls_of_steps (take i xs) ≡ calls → left < own → calls < calls_of_steps xs
calls_past xs i item left own calls lt at e so_far less =
    let f : DiskStep → ℕ = λ s. s.calls in
    let a : calls_of_steps (take i xs) ≡ sum_by f (take i xs) = sum-map f (take i xs) in
    let b : calls_of_steps xs ≡ sum_by f xs = sum-map f xs in
    let more : sum_by f (take i xs) + (get_or xs i item).calls ≤ sum_by f xs = sum_by_more_le f xs i item lt in
    let here : own ≡ (get_or xs i item).calls = e ∙ ap f at in
    omega arith

-- ---- where an entry ended

pub end_found : (steps : List DiskStep) (i own : ℕ) (entry : Entry) (step d : DiskStep) (moved : Bool) (found : Option ℕ) → i < length steps → (IsTrue moved ↔ (entry.moves ≡ moves_of (take i steps))) → step ≡ get_or steps i d →
    own ≡ step.calls → ExtraFound moved (calls_of_steps (take i steps)) own entry.calls found → EndFound steps i entry found
end_found steps i own entry step d moved None lt moves at e none = λ extra h.
    let q : own ≡ (step_at steps i).calls = e ∙ ap (λ (z : DiskStep). z.calls) (at ∙ at_any steps i d _ lt) in
    none (moves.1 h.moves) extra h.calls (subst (λ z. extra ≤ z) (sym q) h.within)
end_found steps i own entry step d moved (Some extra) lt moves at e found =
    let q : own ≡ (step_at steps i).calls = e ∙ ap (λ (z : DiskStep). z.calls) (at ∙ at_any steps i d _ lt) in
    record { there = lt; moves = moves.0 found.0; calls = found.1; within = subst (λ z. extra ≤ z) q found.2 }

-- so many calls and no other number
one_extra : (steps : List DiskStep) (i a b : ℕ) (entry : Entry) → EndsAt steps i a entry → EndsAt steps i b entry → a ≡ b
one_extra steps i a b entry e f = let p = e.calls in let q = f.calls in omega arith

pub fails_is : (number : ℕ) (steps : List DiskStep) (i : ℕ) (entry : Entry) (step d : DiskStep) (found : Option ℕ) (so : Bool) → i < length steps → step ≡ get_or steps i d → EndFound steps i entry found →
    IsTrue so ↔ FailsWith number step found entry → IsTrue so ↔ FailsAt number steps entry i
fails_is number steps i entry step d None so lt at none same = (λ t. absurd (same.0 t), λ h. absurd (none h.extra h.ends))
fails_is number steps i entry step d (Some extra) so lt at ends same =
    let here : step ≡ step_at steps i = at ∙ at_any steps i d _ lt in
    let torn_same : torn_at number step extra ≡ torn_at number (step_at steps i) extra = ap (λ (z : DiskStep). torn_at number z extra) here in (
      λ t. record { extra = extra; ends = ends; called = (same.0 t).0; torn = (same.0 t).1 ∙ torn_same },
      λ h. (let q : h.extra ≡ extra = one_extra steps i h.extra extra entry h.ends ends in
          same.1 (subst (λ z. 1 ≤ z) q h.called, h.torn ∙ (ap (λ z. torn_at number (step_at steps i) z) q ∙ sym torn_same))),
    )

pub wants_is : (volumes : List LaneVolume) (steps : List DiskStep) (i : ℕ) (entry : Entry) (step d : DiskStep) (found : Option ℕ) (so : Bool) → i < length steps → step ≡ get_or steps i d → EndFound steps i entry found →
    IsTrue so ↔ WantsWith volumes step found → IsTrue so ↔ WantsAt volumes steps entry i
wants_is volumes steps i entry step d None so lt at none same = (λ t. absurd (same.0 t), λ h. absurd (none h.extra h.ends))
wants_is volumes steps i entry step d (Some extra) so lt at ends same =
    let here : is_thin_in volumes step.volume ≡ is_thin_in volumes (step_at steps i).volume = ap (λ (z : DiskStep). is_thin_in volumes z.volume) (at ∙ at_any steps i d _ lt) in
    (λ t. record { extra = extra; ends = ends; thin = sym here ∙ same.0 t }, λ h. same.1 (here ∙ h.thin))

-- ---- and where it didn't

pub none_fails : (number : ℕ) (steps : List DiskStep) (entry : Entry) (n : ℕ) → length steps ≤ n → ((k : ℕ) → k < n → FailsAt number steps entry k → ⊥) → IsTrue false ↔ ((i : ℕ) × FailsAt number steps entry i)
none_fails number steps entry n all none = false_is (λ h. let lt = h.1.ends.there in none h.0 (omega arith) h.1)

pub none_wants : (volumes : List LaneVolume) (steps : List DiskStep) (entry : Entry) (n : ℕ) → length steps ≤ n → ((k : ℕ) → k < n → WantsAt volumes steps entry k → ⊥) → IsTrue false ↔ ((i : ℕ) × WantsAt volumes steps entry i)
none_wants volumes steps entry n all none = false_is (λ h. let lt = h.1.ends.there in none h.0 (omega arith) h.1)
