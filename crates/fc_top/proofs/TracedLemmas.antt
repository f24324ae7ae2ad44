-- Disks counted for a lane, one after the other.
use Rattle.std.proofs.Common.{◌≡◌, ℕ, ◌+◌, ◌<◌, ◌≤◌, ◌%◌, ◌==◌, Bool, true, false, not, cond, List, ◌∷◌, drop, length, get_or, refl, sym, arith, ap, ◌∙◌}
use Rattle.std.proofs.lemmas.List.{drop_more}
use Rattle.fc_base.specs.Pools.{Pool}
use Rattle.fc_base.specs.declared.disk.DiskKind.{DiskKind}
use Rattle.fc_grains.proofs.KindCounts.{thin-cons}
use Rattle.fc_grains.specs.Grains.{pool_of}
use Rattle.fc_lanes.specs.Dealing.{dealt_from}
use Rattle.fc_mdisk.specs.Disk.{DiskState, is_flat}

-- the disks of a lane that stand from a place on
abbrev pub left_at : ℕ → List DiskState → ℕ → Pool
left_at lane disks place = pool_of (dealt_from 4 lane place (drop place disks))

-- ---- one disk more was counted

abbrev one_if : Bool → ℕ
one_if b = cond b 1 0

abbrev one_unless : Bool → ℕ
one_unless b = cond b 0 1

exchanged : (b : Bool) → one_unless b ≡ one_if (not b)
exchanged true = refl
exchanged false = refl

abbrev own_one : Bool → ℕ → ℕ
own_one own n = cond own n 0

one_at_most : (own flat : Bool) → cond own (cond flat 1 0) 0 ≤ 1
one_at_most true true = omega arith
one_at_most true false = omega arith
one_at_most false flat = omega arith

pub thin_first : (d : DiskState) (rest : List DiskState) → (pool_of (d ∷ rest)).thin ≡ cond (is_flat d.kind) 0 1 + (pool_of rest).thin
thin_first d rest = thin-cons d rest ∙ ap (λ (n : ℕ). n + (pool_of rest).thin) (sym (exchanged (is_flat d.kind)))

-- of one part of the pool, to which a disk in front adds by its kind
module _ (part : Pool → ℕ) (one : DiskKind → ℕ) (first : (d : DiskState) (rest : List DiskState) → part (pool_of (d ∷ rest)) ≡ one d.kind + part (pool_of rest))
    (lane place : ℕ) (disks : List DiskState) (d : DiskState) (lt : place < length disks) where
  own_first : (own : Bool) (x : DiskState) (rest : List DiskState) → part (pool_of (cond own (x ∷ rest) rest)) ≡ cond own (one x.kind) 0 + part (pool_of rest)
  own_first true x rest = first x rest
  own_first false x rest = omega arith

  left_more : part (left_at lane disks place) ≡ cond (place % 4 == lane) (one (get_or disks place d).kind) 0 + part (left_at lane disks (place + 1))
  left_more =
      ap (λ xs. part (pool_of (dealt_from 4 lane place xs))) (drop_more disks place d lt)
      ∙ own_first (place % 4 == lane) (get_or disks place d) (dealt_from 4 lane (place + 1) (drop (place + 1) disks))

  pub counted :
      (n n' total : ℕ) (kind : DiskKind) →
      kind ≡ (get_or disks place d).kind →
      n' ≡ n + cond (place % 4 == lane) (one kind) 0 →
      n + part (left_at lane disks place) ≡ total →
      n' + part (left_at lane disks (place + 1)) ≡ total
  counted n n' total kind of is before = omega (arith, is, before, left_more, ap (λ k. own_one (place % 4 == lane) (one k)) of)

pub flat-within : (own flat : Bool) (n n' place : ℕ) → n' ≡ n + cond own (cond flat 1 0) 0 → n ≤ place → n' ≤ place + 1
flat-within own flat n n' place is within = omega (arith, is, within, one_at_most own flat)

pub thin-within : (own flat : Bool) (n n' place : ℕ) → n' ≡ n + cond own (cond flat 0 1) 0 → n ≤ place → n' ≤ place + 1
thin-within own flat n n' place is within =
    omega (arith, is, within, one_at_most own (not flat), ap (own_one own) (exchanged flat))
