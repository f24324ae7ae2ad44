-- The disks that are ready for the volumes to come.
use Rattle.std.proofs.Common.{◌≡◌, ℕ, zero, suc, ◌+◌, ◌<◌, Bool, false, cond, List, [], ◌∷◌, ◌++◌, length, map, drop, replicate, Result, Ok, Err, is_ok, is_err, true≢false, refl, sym, ◌∙◌, ap, subst, arith}
use Rattle.std.proofs.lemmas.List.{length-replicate}
use Rattle.std.proofs.lemmas.List.Sums.{sum_by-cons}
use Rattle.fc_base.specs.declared.disk.DiskKind.{DiskKind}
use Rattle.fc_base.specs.declared.disk.DiskKind.TheVariants.{Flat, Thin}
use Rattle.fc_base.specs.Pools.{of_kind}
use Rattle.fc_mdisk.specs.Disk.{DiskState, is_flat}
use Rattle.fc_mdisk.specs.Disks.{disk_at, formatted_at}
use Rattle.fc_grains.specs.Grains.{NewVolume, free_place, is_of_kind, place_in, reserved_of}
use Rattle.fc_grains.specs.Parts.{AreReady, IsReady, QueuesState, disks_in, formatted_in, left_in, new_of, queue_of, with_queue}
use Rattle.fc_grains.specs.declared.pool.Reserved.{Reserved}
use Rattle.fc_grains.proofs.Pooling.{formatted_there}

abbrev two : List DiskState → List DiskState → QueuesState
two flat thin = record { flat = flat; thin = thin }

-- the last of the volumes to come
last_ready : (kind : DiskKind) (bytes grains place : ℕ) (lost : List Bool) (flat thin : List DiskState) → lost ≡ replicate grains false → place ≡ 0 → place < length (queue_of kind (two flat thin))
    → (0 < length (queue_of kind (formatted_in kind place grains bytes (two flat thin))))
    × IsReady bytes record { kind = kind; lost = lost } (disk_at (queue_of kind (formatted_in kind place grains bytes (two flat thin))) 0)
    × Unit {0}
last_ready Flat bytes grains place lost [] thin unmarked first within = absurd (omega arith)
last_ready Flat bytes grains (suc place) lost (d ∷ flat) thin unmarked first within = absurd (omega arith)
last_ready Flat bytes grains zero lost (d ∷ flat) thin unmarked first within =
    let size : grains ≡ length lost = sym (ap length unmarked ∙ length-replicate grains false) in
    (omega arith, record { zeros = ap (λ (n : ℕ). replicate n (replicate bytes 0)) size; unwritten = ap (λ (n : ℕ). replicate n (is_flat d.kind)) size; unmarked = unmarked ∙ ap (λ (n : ℕ). replicate n false) size }, tt)
last_ready Thin bytes grains place lost flat [] unmarked first within = absurd (omega arith)
last_ready Thin bytes grains (suc place) lost flat (d ∷ thin) unmarked first within = absurd (omega arith)
last_ready Thin bytes grains zero lost flat (d ∷ thin) unmarked first within =
    let size : grains ≡ length lost = sym (ap length unmarked ∙ length-replicate grains false) in
    (omega arith, record { zeros = ap (λ (n : ℕ). replicate n (replicate bytes 0)) size; unwritten = ap (λ (n : ℕ). replicate n (is_flat d.kind)) size; unmarked = unmarked ∙ ap (λ (n : ℕ). replicate n false) size }, tt)

-- a volume to come before it
one_before : (own kind : DiskKind) (x r : Reserved) (bytes grains place count size : ℕ) (flat thin : List DiskState) (rest : List Reserved)
    → ((flat thin : List DiskState) (place : ℕ) → place ≡ count → place < length (queue_of kind (two flat thin)) → AreReady bytes (two flat thin) rest
    → AreReady bytes (formatted_in kind place grains bytes (two flat thin)) (rest ++ r ∷ []))
    → place ≡ cond (is_of_kind kind record { kind = own; grains = size }) 1 0 + count → place < length (queue_of kind (two flat thin))
    → (0 < length (queue_of own (two flat thin))) × IsReady bytes x (disk_at (queue_of own (two flat thin)) 0) × AreReady bytes (with_queue own (drop 1 (queue_of own (two flat thin))) (two flat thin)) rest
    → (0 < length (queue_of own (formatted_in kind place grains bytes (two flat thin))))
    × IsReady bytes x (disk_at (queue_of own (formatted_in kind place grains bytes (two flat thin))) 0)
    × AreReady bytes (with_queue own (drop 1 (queue_of own (formatted_in kind place grains bytes (two flat thin)))) (formatted_in kind place grains bytes (two flat thin))) (rest ++ r ∷ [])
one_before Flat Flat x r bytes grains place count size [] thin rest more is within ready = absurd (omega arith)
one_before Flat Flat x r bytes grains zero count size (d ∷ flat) thin rest more is within ready = absurd (omega arith)
one_before Flat Flat x r bytes grains (suc place) count size (d ∷ flat) thin rest more is within ready =
    (omega arith, ready.1, more flat thin place (omega arith) (omega arith) ready.2)
one_before Flat Thin x r bytes grains place count size flat thin rest more is within ready =
    (ready.0, ready.1, more (drop 1 flat) thin place (omega arith) within ready.2)
one_before Thin Flat x r bytes grains place count size flat thin rest more is within ready =
    (ready.0, ready.1, more flat (drop 1 thin) place (omega arith) within ready.2)
one_before Thin Thin x r bytes grains place count size flat [] rest more is within ready = absurd (omega arith)
one_before Thin Thin x r bytes grains zero count size flat (d ∷ thin) rest more is within ready = absurd (omega arith)
one_before Thin Thin x r bytes grains (suc place) count size flat (d ∷ thin) rest more is within ready =
    (omega arith, ready.1, more flat thin place (omega arith) (omega arith) ready.2)

pub ready_more : (kind : DiskKind) (lost : List Bool) (bytes grains : ℕ) → lost ≡ replicate grains false → (reserved : List Reserved) (flat thin : List DiskState) (place : ℕ)
    → place ≡ reserved_of kind (map new_of reserved) → place < length (queue_of kind (two flat thin)) → AreReady bytes (two flat thin) reserved
    → AreReady bytes (formatted_in kind place grains bytes (two flat thin)) (reserved ++ record { kind = kind; lost = lost } ∷ [])
ready_more kind lost bytes grains unmarked [] flat thin place is within ready = last_ready kind bytes grains place lost flat thin unmarked is within
ready_more kind lost bytes grains unmarked (x ∷ rest) flat thin place is within ready =
    one_before x.kind kind x record { kind = kind; lost = lost } bytes grains place (reserved_of kind (map new_of rest)) (length x.lost) flat thin rest
    (ready_more kind lost bytes grains unmarked rest)
    (is ∙ sum_by-cons (λ (n : NewVolume). cond (is_of_kind kind n) 1 0) (new_of x) (map new_of rest)) within ready

of_kind-left : (kind : DiskKind) (q : QueuesState) → of_kind kind (left_in q) ≡ length (queue_of kind q)
of_kind-left Flat q = refl
of_kind-left Thin q = refl

pub joined : {X A E : Type 0} (r : Result A E) (old new more : List X) → new ≡ cond (is_ok r) (old ++ more) old → is_err r ≡ false → new ≡ old ++ more
joined (Ok a) old new more items good = items
joined (Err e) old new more items good = absurd (true≢false good)

pub pushed : {X A E : Type 0} (r : Result A E) (old new : List X) (x : X) → new ≡ cond (is_ok r) (old ++ x ∷ []) old → is_err r ≡ false → new ≡ old ++ x ∷ []
pushed r old new x items good = joined r old new (x ∷ []) items good

-- one volume more is to come
pub reserved_ready : {A E : Type 0} (r : Result A E) (kind : DiskKind) (lost : List Bool) (bytes grains : ℕ) (old mid new : List Reserved) (q q' : QueuesState) (place : ℕ)
    → lost ≡ replicate grains false → mid ≡ old → new ≡ cond (is_ok r) (mid ++ record { kind = kind; lost = lost } ∷ []) mid → is_err r ≡ false
    → place ≡ reserved_of kind (map new_of mid) → reserved_of kind (map new_of old) < of_kind kind (left_in q) → q' ≡ formatted_in kind place grains bytes q
    → AreReady bytes q old → AreReady bytes q' new
reserved_ready r kind lost bytes grains old mid new q q' place unmarked same items good is some formats ready =
    let added : new ≡ old ++ record { kind = kind; lost = lost } ∷ [] = pushed r mid new record { kind = kind; lost = lost } items good ∙ ap (λ (rs : List Reserved). rs ++ record { kind = kind; lost = lost } ∷ []) same in
    let at : place ≡ reserved_of kind (map new_of old) = is ∙ ap (λ (rs : List Reserved). reserved_of kind (map new_of rs)) same in
    let P : QueuesState → Type 0 = λ x. AreReady bytes x new in
    let Q : List Reserved → Type 0 = λ rs. AreReady bytes (formatted_in kind place grains bytes q) rs in
    subst P (sym formats) (subst Q (sym added)
    (ready_more kind lost bytes grains unmarked old q.flat q.thin place at (omega (arith, of_kind-left kind q)) ready))

pub formatted_free : (kind : DiskKind) (bytes grains : ℕ) (old mid : List Reserved) (q q' : QueuesState) (place : ℕ) → mid ≡ old → place ≡ reserved_of kind (map new_of mid)
    → reserved_of kind (map new_of old) < of_kind kind (left_in q) → q' ≡ formatted_in kind place grains bytes q
    → disks_in q' ≡ formatted_at (free_place kind (map new_of old) (left_in q)) grains bytes (disks_in q)
formatted_free kind bytes grains old mid q q' place same is some formats =
    let at : place ≡ reserved_of kind (map new_of old) = is ∙ ap (λ (rs : List Reserved). reserved_of kind (map new_of rs)) same in
    ap disks_in formats
    ∙ formatted_there kind q place grains bytes (omega (arith, at, of_kind-left kind q))
    ∙ ap (λ (n : ℕ). formatted_at (place_in kind n (left_in q)) grains bytes (disks_in q)) at
