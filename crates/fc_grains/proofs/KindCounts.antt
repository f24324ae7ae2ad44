-- How many disks of each kind there are.
use Rattle.std.proofs.Common.{◌≡◌, ℕ, ◌+◌, Bool, true, false, not, cond, List, [], ◌∷◌, ◌++◌, length, refl, sym, ◌∙◌, ap, ap₂, arith}
use Rattle.std.specs.List.{count_by, sum_by}
use Rattle.std.proofs.lemmas.List.Recursion.{is_count_by}
use Rattle.std.proofs.lemmas.List.Sums.{sum_by-append, sum_by-cons}
use Rattle.fc_mdisk.specs.Disk.{DiskState, is_flat}
use Rattle.fc_grains.specs.Grains.{pool_of, total_of}
use Rattle.fc_grains.specs.Parts.{SameDisks}

-- a disk counts one for its kind
abbrev pub one_flat : DiskState → ℕ
one_flat d = cond (is_flat d.kind) 1 0

abbrev pub one_thin : DiskState → ℕ
one_thin d = cond (not (is_flat d.kind)) 1 0

one_more : (yes : Bool) (n : ℕ) → cond yes 1 0 + n ≡ cond yes (1 + n) n
one_more true n = refl
one_more false n = omega arith

by_ones : (p : DiskState → Bool) (disks : List DiskState) → sum_by (λ (d : DiskState). cond (p d) 1 0) disks ≡ count_by p disks
by_ones p disks =
    is_count_by (sum_by (λ (d : DiskState). cond (p d) 1 0)) p refl
    (λ d ds. sum_by-cons (λ (x : DiskState). cond (p x) 1 0) d ds ∙ one_more (p d) (sum_by (λ (x : DiskState). cond (p x) 1 0) ds))
    disks

pub flat_by_ones : (disks : List DiskState) → (pool_of disks).flat ≡ sum_by one_flat disks
flat_by_ones disks = sym (by_ones (λ (d : DiskState). is_flat d.kind) disks)

pub thin_by_ones : (disks : List DiskState) → (pool_of disks).thin ≡ sum_by one_thin disks
thin_by_ones disks = sym (by_ones (λ (d : DiskState). not (is_flat d.kind)) disks)

-- as many of each kind, where as many add up
pub kinds_by : (xs ys : List DiskState) → sum_by one_flat xs ≡ sum_by one_flat ys → sum_by one_thin xs ≡ sum_by one_thin ys → pool_of xs ≡ pool_of ys
kinds_by xs ys flat thin = λ k. record {
  flat = (flat_by_ones xs ∙ flat ∙ sym (flat_by_ones ys)) k;
  thin = (thin_by_ones xs ∙ thin ∙ sym (thin_by_ones ys)) k;
}

pub same_kinds : (xs ys : List DiskState) → SameDisks xs ys → pool_of xs ≡ pool_of ys
same_kinds xs ys same = kinds_by xs ys (same one_flat) (same one_thin)

-- one disk more, and two lists
pub flat-cons : (d : DiskState) (ds : List DiskState) → (pool_of (d ∷ ds)).flat ≡ one_flat d + (pool_of ds).flat
flat-cons d ds = flat_by_ones (d ∷ ds) ∙ sum_by-cons one_flat d ds ∙ ap (λ (n : ℕ). one_flat d + n) (sym (flat_by_ones ds))

pub thin-cons : (d : DiskState) (ds : List DiskState) → (pool_of (d ∷ ds)).thin ≡ one_thin d + (pool_of ds).thin
thin-cons d ds = thin_by_ones (d ∷ ds) ∙ sum_by-cons one_thin d ds ∙ ap (λ (n : ℕ). one_thin d + n) (sym (thin_by_ones ds))

pub flat-append : (xs ys : List DiskState) → (pool_of (xs ++ ys)).flat ≡ (pool_of xs).flat + (pool_of ys).flat
flat-append xs ys =
    flat_by_ones (xs ++ ys) ∙ sum_by-append one_flat xs ys ∙ ap₂ (λ a b. a + b) (sym (flat_by_ones xs)) (sym (flat_by_ones ys))

pub thin-append : (xs ys : List DiskState) → (pool_of (xs ++ ys)).thin ≡ (pool_of xs).thin + (pool_of ys).thin
thin-append xs ys =
    thin_by_ones (xs ++ ys) ∙ sum_by-append one_thin xs ys ∙ ap₂ (λ a b. a + b) (sym (thin_by_ones xs)) (sym (thin_by_ones ys))

-- both kinds together are all disks
one_of_both : (flat : Bool) → cond flat 1 0 + cond (not flat) 1 0 ≡ 1
one_of_both true = refl
one_of_both false = refl

pub total-pool : (disks : List DiskState) → total_of (pool_of disks) ≡ length disks
total-pool [] = refl
total-pool (d ∷ ds) = omega (arith, flat-cons d ds, thin-cons d ds, one_of_both (is_flat d.kind), total-pool ds)
