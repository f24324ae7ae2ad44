-- Disks that are taken lane by lane.
use Rattle.std.proofs.Common.{◌≡◌, ℕ, ◌+◌, ◌<◌, List, ◌++◌, map, take, drop, set, get_or, length, subst, sym, ◌∙◌}
use Rattle.std.proofs.lemmas.List.{get_or-map, length-map, map-set}
use Rattle.fc_base.specs.Pools.{Pool, pool_without}
use Rattle.fc_base.specs.declared.disk.DiskKind.{DiskKind}
use Rattle.fc_check_sheet.specs.View.{pool_of, pools_of}
use Rattle.fc_check_sheet.specs.declared.pool.LanePool.{LanePool}
use Rattle.fc_plain.proofs.Lists.{mapped_more}

-- the lanes so far have one disk less, the others what they had
abbrev pub taken_until : DiskKind → ℕ → List Pool → List Pool
taken_until kind i pools = map (pool_without kind) (take i pools) ++ drop i pools

pub taken_more : (kind : DiskKind) (before now : List LanePool) (i : ℕ) (d new : LanePool) → pools_of now ≡ taken_until kind i (pools_of before) → i < length before → i < length now →
    pool_of new ≡ pool_without kind (pool_of (get_or now i d)) → pools_of (set now i new) ≡ taken_until kind (i + 1) (pools_of before)
taken_more kind before now i d new is inside there was =
    map-set pool_of now i new
    ∙ mapped_more (pool_without kind) (pools_of before) (pools_of now) i (pool_of (get_or now i d)) (pool_of new) is
    (subst (λ n. i < n) (sym (length-map before pool_of)) inside)
    (sym (get_or-map pool_of now i d (pool_of (get_or now i d)) there)) was
