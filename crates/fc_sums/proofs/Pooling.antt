-- The least pool of a list, lane by lane.
use Rattle.std.proofs.Common.{◌≡◌, ℕ, List, [], ◌∷◌, fold, refl, sym, ap, ◌∙◌, arith}
use Rattle.std.specs.Prelude.{min}
use Rattle.fc_base.specs.Pools.{Pool, of_kind, least_of_kind}
use Rattle.fc_base.specs.declared.disk.DiskKind.{DiskKind}

min_three : (a b c : ℕ) → min (min a b) c ≡ min a (min b c)
min_three a b c = omega arith

min_of_fold : (kind : DiskKind) (a b : ℕ) (pools : List Pool) →
    fold (λ least p. min least (of_kind kind p)) (min a b) pools ≡ min a (fold (λ least p. min least (of_kind kind p)) b pools)
min_of_fold kind a b [] = refl
min_of_fold kind a b (p ∷ ps) =
    ap (λ z. fold (λ least q. min least (of_kind kind q)) z ps) (min_three a b (of_kind kind p)) ∙ min_of_fold kind a (min b (of_kind kind p)) ps

pub least_by_lanes : (kind : DiskKind) (pool : Pool) (pools : List Pool) →
    least_of_kind kind (pool ∷ pools) ≡ fold (λ least p. min least (of_kind kind p)) (of_kind kind pool) pools
least_by_lanes kind pool [] = refl
least_by_lanes kind pool (next ∷ pools) =
    ap (min (of_kind kind pool)) (least_by_lanes kind next pools) ∙ sym (min_of_fold kind (of_kind kind pool) (of_kind kind next) pools)
