-- The calls that metadata costs.
use Rattle.std.proofs.Common.{◌≡◌, ℕ, ◌+◌, ◌≤◌, Bool, true, false, cond, List, [], ◌∷◌, ◌++◌, refl, ap, arith}
use Rattle.std.specs.List.{sum_by}
use Rattle.std.proofs.lemmas.Bool.{le-ltb}
use Rattle.std.proofs.lemmas.List.Sums.{sum_by-cons}
use Rattle.fc_kept.specs.Actions.{Action, Action.Data, Action.Note, Action.Fold}
use Rattle.law_crash.specs.Costs.{CostLaw, Sizes, batch_of, calls_of_action, calls_of_actions, calls_to_fold, calls_to_put, least_calls, most_calls, must_fold, used_behind, used_behind_all}

both : (s : Sizes) (used : ℕ) (front back : List Action) → calls_of_actions s used (front ++ back) ≡ calls_of_actions s used front + calls_of_actions s (used_behind_all s used front) back
both s used [] back = omega arith
both s used (a ∷ front) back = let rest = both s (used_behind s used a) front back in omega (arith, rest)

-- ---- one action

put_calls : (folds : Bool) → (4 ≤ cond folds 10 4) × (cond folds 10 4 ≤ 10)
put_calls true = (omega arith, omega arith)
put_calls false = (omega arith, omega arith)

bounds : (s : Sizes) (used : ℕ) (a : Action) → (least_calls a ≤ calls_of_action s used a) × (calls_of_action s used a ≤ most_calls a)
bounds s used (Data step) = (omega arith, omega arith)
bounds s used (Note r) = put_calls (must_fold s used r)
bounds s used Fold = (omega arith, omega arith)

-- ---- all of them

least : (s : Sizes) (used : ℕ) (actions : List Action) → sum_by least_calls actions ≤ calls_of_actions s used actions
least s used [] = omega arith
least s used (a ∷ actions) =
    let sum = sum_by-cons least_calls a actions in
    let one = (bounds s used a).0 in
    let rest = least s (used_behind s used a) actions in
    omega (arith, sum, one, rest)

most : (s : Sizes) (used : ℕ) (actions : List Action) → calls_of_actions s used actions ≤ sum_by most_calls actions
most s used [] = omega arith
most s used (a ∷ actions) =
    let sum = sum_by-cons most_calls a actions in
    let one = (bounds s used a).1 in
    let rest = most s (used_behind s used a) actions in
    omega (arith, sum, one, rest)

-- ---- where all batches fit

fit : (s : Sizes) (used : ℕ) (actions : List Action) → s.image ≤ used → used + 1 + sum_by (batch_of s) actions ≤ s.half → calls_of_actions s used actions ≡ sum_by least_calls actions
fit s used [] low room = refl
fit s used (Data step ∷ actions) low room =
    let sum = sum_by-cons least_calls (Data step) actions in
    let bytes = sum_by-cons (batch_of s) (Data step) actions in
    let rest = fit s used actions low (omega (arith, bytes, room)) in
    omega (arith, sum, rest)
fit s used (Note r ∷ actions) low room =
    let sum = sum_by-cons least_calls (Note r) actions in
    let bytes = sum_by-cons (batch_of s) (Note r) actions in
    let stays : must_fold s used r ≡ false = le-ltb s.half (used + 1 + s.batch r) (omega (arith, bytes, room)) in
    let calls : calls_of_action s used (Note r) ≡ calls_to_put = ap (λ (b : Bool). cond b (calls_to_fold + calls_to_put) calls_to_put) stays in
    let behind : used_behind s used (Note r) ≡ used + s.batch r = ap (λ (b : Bool). cond b s.image used + s.batch r) stays in
    let rest = fit s (used_behind s used (Note r)) actions (omega (arith, behind, low)) (omega (arith, bytes, behind, room)) in
    omega (arith, sum, calls, rest)
fit s used (Fold ∷ actions) low room =
    let sum = sum_by-cons least_calls Fold actions in
    let bytes = sum_by-cons (batch_of s) Fold actions in
    let rest = fit s s.image actions (omega arith) (omega (arith, bytes, low, room)) in
    omega (arith, sum, rest)

pub cost_law : CostLaw
cost_law = record { both = both; least = least; most = most; fit = fit }
