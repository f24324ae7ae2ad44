-- Where an entry ended is where it stopped.
use Rattle.std.proofs.Common.{◌≡◌, ◌↔◌, ℕ, zero, suc, ◌+◌, ◌<◌, ◌≤◌, Bool, true, false, ◌&&◌, IsTrue, None, List, [], ◌∷◌, ◌++◌, take, drop, length, refl, sym, ap, subst, ◌∙◌, arith}
use Rattle.std.proofs.lemmas.Bool.{both_ways}
use Rattle.fc_base.specs.Count.{HasRisen}
use Rattle.fc_entry.specs.declared.entry.Entry.{Entry}
use Rattle.fc_rules.specs.LaneTold.{LaneVolume, is_thin_in}
use Rattle.fc_rules.specs.Spot.{Spot}
use Rattle.fc_rules.specs.Steps.{DiskStep, StoppedAt, HasFailed, HasNoMemory, moves_of, calls_of_steps}
use Rattle.fc_check_steps.specs.Steps.{EndsAt, FailsAt, WantsAt, step_at, torn_at}
use Rattle.fc_check_steps.proofs.Verdicts.{both}

split_at : (xs : List DiskStep) (i : ℕ) → i < length xs → xs ≡ take i xs ++ step_at xs i ∷ drop (suc i) xs
split_at [] i lt = absurd (omega arith)
split_at (x ∷ xs) zero lt = refl
split_at (x ∷ xs) (suc i) lt = ap (λ z. x ∷ z) (split_at xs i (omega arith))

take_front : (xs ys : List DiskStep) → take (length xs) (xs ++ ys) ≡ xs
take_front [] ys = refl
take_front (x ∷ xs) ys = ap (λ z. x ∷ z) (take_front xs ys)

at_front : (xs ys : List DiskStep) (y : DiskStep) → step_at (xs ++ y ∷ ys) (length xs) ≡ y
at_front [] ys y = refl
at_front (x ∷ xs) ys y = at_front xs ys y

front_inside : (xs ys : List DiskStep) (y : DiskStep) → length xs < length (xs ++ y ∷ ys)
front_inside [] ys y = omega arith
front_inside (x ∷ xs) ys y = let lt = front_inside xs ys y in omega arith

pub stopped_from : (steps : List DiskStep) (i extra : ℕ) (entry : Entry) → EndsAt steps i extra entry → StoppedAt steps (step_at steps i) extra entry
stopped_from steps i extra entry e =
    record { before = take i steps; after = drop (suc i) steps; steps_are = split_at steps i e.there; moves = e.moves; calls = e.calls; within = e.within }

ends_front : (before after : List DiskStep) (step : DiskStep) (extra : ℕ) (entry : Entry) → entry.moves ≡ moves_of before → entry.calls ≡ calls_of_steps before + extra → extra ≤ step.calls →
    EndsAt (before ++ step ∷ after) (length before) extra entry
ends_front before after step extra entry moves calls within =
    record {
      there = front_inside before after step;
      moves = moves ∙ ap moves_of (sym (take_front before (step ∷ after)));
      calls = calls ∙ ap (λ z. calls_of_steps z + extra) (sym (take_front before (step ∷ after)));
      within = subst (λ (z : DiskStep). extra ≤ z.calls) (sym (at_front before after step)) within;
    }

-- and its step
pub record EndsWith (steps : List DiskStep) (step : DiskStep) (extra : ℕ) (entry : Entry) : Type 0 where
  pub index : ℕ
  pub ends : EndsAt steps index extra entry
  pub step_is : step_at steps index ≡ step

pub ends_from : (steps : List DiskStep) (step : DiskStep) (extra : ℕ) (entry : Entry) → StoppedAt steps step extra entry → EndsWith steps step extra entry
ends_from steps step extra entry s =
    let P : List DiskStep → Type 0 = λ z. EndsWith z step extra entry in
    let here : P (s.before ++ step ∷ s.after) = record { index = length s.before; ends = ends_front s.before s.after step extra entry s.moves s.calls s.within; step_is = at_front s.before s.after step } in
    subst P (sym s.steps_are) here

-- ---- with what failed, or wanted memory

failed_from : (spot : Spot) (number : ℕ) (steps : List DiskStep) (entry : Entry) → spot.number ≡ number → (i : ℕ) × FailsAt number steps entry i → HasRisen entry.faults_before entry.faults_after → HasFailed spot steps entry
failed_from spot number steps entry q f risen =
    let at = f.1 in
    record {
      step = step_at steps f.0;
      extra = at.extra;
      stopped = stopped_from steps f.0 at.extra entry at.ends;
      called = at.called;
      torn = at.torn ∙ ap (λ n. torn_at n (step_at steps f.0) at.extra) (sym q);
      risen = risen;
    }

fails_from : (spot : Spot) (number : ℕ) (steps : List DiskStep) (entry : Entry) → spot.number ≡ number → HasFailed spot steps entry → (i : ℕ) × FailsAt number steps entry i
fails_from spot number steps entry q f =
    let e = ends_from steps f.step f.extra entry f.stopped in (
      e.index,
      record {
        extra = f.extra;
        ends = e.ends;
        called = f.called;
        torn = f.torn ∙ (ap (λ (z : DiskStep). torn_at spot.number z f.extra) (sym e.step_is) ∙ ap (λ n. torn_at n (step_at steps e.index) f.extra) q);
      },
    )

failed_both : (number : ℕ) (steps : List DiskStep) (entry : Entry) (a b : Bool) → (IsTrue a ↔ ((i : ℕ) × FailsAt number steps entry i)) → (IsTrue b ↔ HasRisen entry.faults_before entry.faults_after) →
    (spot : Spot) → spot.number ≡ number → IsTrue (a && b) ↔ HasFailed spot steps entry
failed_both number steps entry a b f g spot q =
    both a b f g (failed_from spot number steps entry q) (fails_from spot number steps entry q) (λ h. h.risen)

pub failed_then : (number : ℕ) (steps : List DiskStep) (entry : Entry) (a b : Bool) → a ≡ true → (IsTrue a ↔ ((i : ℕ) × FailsAt number steps entry i)) → (IsTrue b ↔ HasRisen entry.faults_before entry.faults_after) →
    (spot : Spot) → spot.number ≡ number → IsTrue b ↔ HasFailed spot steps entry
failed_then number steps entry a b e f g spot q =
    let P : Bool → Type 0 = λ z. IsTrue (z && b) ↔ HasFailed spot steps entry in subst P e (failed_both number steps entry a b f g spot q)

pub failed_else : (number : ℕ) (steps : List DiskStep) (entry : Entry) (a : Bool) → a ≡ false → (IsTrue a ↔ ((i : ℕ) × FailsAt number steps entry i)) →
    (spot : Spot) → spot.number ≡ number → IsTrue a ↔ HasFailed spot steps entry
failed_else number steps entry a e f spot q = (λ t. absurd (both_ways a e t), λ h. f.1 (fails_from spot number steps entry q h))

no_memory_from : (spot : Spot) (volumes : List LaneVolume) (steps : List DiskStep) (entry : Entry) → ((v : ℕ) → spot.is_thin v ≡ is_thin_in volumes v) → (i : ℕ) × WantsAt volumes steps entry i → entry.torn ≡ None → HasNoMemory spot steps entry
no_memory_from spot volumes steps entry q w untorn =
    let at = w.1 in
    record { step = step_at steps w.0; extra = at.extra; stopped = stopped_from steps w.0 at.extra entry at.ends; untorn = untorn; thin = q (step_at steps w.0).volume ∙ at.thin }

wants_from : (spot : Spot) (volumes : List LaneVolume) (steps : List DiskStep) (entry : Entry) → ((v : ℕ) → spot.is_thin v ≡ is_thin_in volumes v) → HasNoMemory spot steps entry → (i : ℕ) × WantsAt volumes steps entry i
wants_from spot volumes steps entry q f =
    let e = ends_from steps f.step f.extra entry f.stopped in
    (e.index, record { extra = f.extra; ends = e.ends; thin = ap (λ (z : DiskStep). is_thin_in volumes z.volume) e.step_is ∙ (sym (q f.step.volume) ∙ f.thin) })

no_memory_both : (volumes : List LaneVolume) (steps : List DiskStep) (entry : Entry) (a b : Bool) → (IsTrue a ↔ ((i : ℕ) × WantsAt volumes steps entry i)) → (IsTrue b ↔ (entry.torn ≡ None)) →
    (spot : Spot) → ((v : ℕ) → spot.is_thin v ≡ is_thin_in volumes v) → IsTrue (a && b) ↔ HasNoMemory spot steps entry
no_memory_both volumes steps entry a b f g spot q =
    both a b f g (no_memory_from spot volumes steps entry q) (wants_from spot volumes steps entry q) (λ h. h.untorn)

pub no_memory_then : (volumes : List LaneVolume) (steps : List DiskStep) (entry : Entry) (a b : Bool) → a ≡ true → (IsTrue a ↔ ((i : ℕ) × WantsAt volumes steps entry i)) → (IsTrue b ↔ (entry.torn ≡ None)) →
    (spot : Spot) → ((v : ℕ) → spot.is_thin v ≡ is_thin_in volumes v) → IsTrue b ↔ HasNoMemory spot steps entry
no_memory_then volumes steps entry a b e f g spot q =
    let P : Bool → Type 0 = λ z. IsTrue (z && b) ↔ HasNoMemory spot steps entry in subst P e (no_memory_both volumes steps entry a b f g spot q)

pub no_memory_else : (volumes : List LaneVolume) (steps : List DiskStep) (entry : Entry) (a : Bool) → a ≡ false → (IsTrue a ↔ ((i : ℕ) × WantsAt volumes steps entry i)) →
    (spot : Spot) → ((v : ℕ) → spot.is_thin v ≡ is_thin_in volumes v) → IsTrue a ↔ HasNoMemory spot steps entry
no_memory_else volumes steps entry a e f spot q = (λ t. absurd (both_ways a e t), λ h. f.1 (wants_from spot volumes steps entry q h))
