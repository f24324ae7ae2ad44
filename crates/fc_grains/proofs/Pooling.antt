-- The disks for new volumes.
use Rattle.std.proofs.Common.{◌≡◌, ℕ, suc, ◌+◌, ◌-◌, ◌<◌, ◌≤◌, None, Bool, true, false, not, cond, List, [], ◌∷◌, ◌++◌, filter, length, map, drop, get_or, slice_set, refl, sym, ◌∙◌, ap, subst, arith}
use Rattle.std.specs.List.{All, remove, sum_by, count_by}
use Rattle.std.proofs.Math.Seq.{map-set_same}
use Rattle.std.proofs.lemmas.List.{append-nil, append_assoc, length-append, length-drop, map-append}
use Rattle.std.proofs.lemmas.List.Edits.{remove-append_right}
use Rattle.std.proofs.lemmas.List.Elements.{filter-append}
use Rattle.std.proofs.lemmas.List.{get_or_append_left, get_or-append-add, get_or_push, set-append_left}
use Rattle.std.proofs.lemmas.List.Sums.{sum_by-cons, sum_by-append, sum_by_push}
use Rattle.fc_base.specs.declared.disk.DiskKind.{DiskKind}
use Rattle.fc_base.specs.declared.disk.DiskKind.TheVariants.{Flat, Thin}
use Rattle.fc_mdisk.specs.Disk.{DiskState, blank, is_flat, cleared, formatted}
use Rattle.fc_mdisk.specs.Disks.{disk_at, formatted_at}
use Rattle.fc_grains.specs.Grains.{IsUnarmed, next_of, next_place, place_in}
use Rattle.fc_grains.specs.Parts.{AreReady, PoolState, QueuesState, SameDisks, disks_in, disks_of, formatted_in, left_in, left_of, new_of, queue_of, with_queue}
use Rattle.fc_grains.specs.declared.pool.Reserved.{Reserved}

-- the disks that were handed in are those that aren't sorted yet and those that are
pub record IsSorting (all left : List DiskState) (queues : QueuesState) : Type 0 where
  pub disks : SameDisks (left ++ disks_in queues) all
  pub flat_count : count_by (λ (d : DiskState). is_flat d.kind) left + length queues.flat ≡ count_by (λ (d : DiskState). is_flat d.kind) all
  pub thin_count : count_by (λ (d : DiskState). not (is_flat d.kind)) left + length queues.thin ≡ count_by (λ (d : DiskState). not (is_flat d.kind)) all
  pub flat_are : filter (λ (d : DiskState). is_flat d.kind) left ++ queues.flat ≡ filter (λ (d : DiskState). is_flat d.kind) all
  pub thin_are : filter (λ (d : DiskState). not (is_flat d.kind)) left ++ queues.thin ≡ filter (λ (d : DiskState). not (is_flat d.kind)) all
  pub unarmed : All IsUnarmed left
  pub number : length left + length (disks_in queues) ≡ length all

-- a disk goes from the end of the ones to the front of the others
moved : (f : DiskState → ℕ) (left : List DiskState) (d : DiskState) (flat thin : List DiskState)
    → sum_by f (left ++ ((d ∷ flat) ++ thin)) ≡ sum_by f ((left ++ d ∷ []) ++ (flat ++ thin))
moved f left d flat thin =
    sum_by-append f left (d ∷ (flat ++ thin))
    ∙ omega (arith, sum_by-cons f d (flat ++ thin), sum_by_push f left d)
    ∙ sym (sum_by-append f (left ++ d ∷ []) (flat ++ thin))

moved_behind : (f : DiskState → ℕ) (left : List DiskState) (d : DiskState) (flat thin : List DiskState)
    → sum_by f (left ++ (flat ++ (d ∷ thin))) ≡ sum_by f ((left ++ d ∷ []) ++ (flat ++ thin))
moved_behind f left d flat thin =
    sum_by-append f left (flat ++ (d ∷ thin))
    ∙ omega (arith, sum_by-append f flat (d ∷ thin), sum_by-cons f d thin, sum_by-append f flat thin, sum_by_push f left d)
    ∙ sym (sum_by-append f (left ++ d ∷ []) (flat ++ thin))

-- a count of the disks that pass a test, of which the last does or doesn't
one_if : (test : DiskState → Bool) (left : List DiskState) (d : DiskState) (b : Bool) → test d ≡ b → count_by test (left ++ d ∷ []) ≡ count_by test left + cond b 1 0
one_if test left d b passes =
    sum_by_push (λ (x : DiskState). cond (test x) 1 0) left d ∙ ap (λ (t : Bool). count_by test left + cond t 1 0) passes

front_all : (P : DiskState → Type 0) (left : List DiskState) (d : DiskState) → All P (left ++ d ∷ []) → All P left
front_all P left d all k e within =
    let same : get_or (left ++ d ∷ []) k e ≡ get_or left k e = get_or_append_left left (d ∷ []) e k within in
    subst P same (all k e (omega (arith, length-append left (d ∷ []))))

-- the last of them passes a test, or doesn't
filter_one : (test : DiskState → Bool) (d : DiskState) (b : Bool) → test d ≡ b → filter test (d ∷ []) ≡ cond b (d ∷ []) []
filter_one test d b passes = ap (λ (t : Bool). cond t (d ∷ []) []) passes

passed : (test : DiskState → Bool) (left : List DiskState) (d : DiskState) (queue : List DiskState) → test d ≡ true
    → filter test left ++ (d ∷ queue) ≡ filter test (left ++ d ∷ []) ++ queue
passed test left d queue passes =
    sym (append_assoc (filter test left) (d ∷ []) queue)
    ∙ ap (λ (ds : List DiskState). ds ++ queue) (ap (λ (ds : List DiskState). filter test left ++ ds) (sym (filter_one test d true passes)) ∙ sym (filter-append test left (d ∷ [])))

failed : (test : DiskState → Bool) (left : List DiskState) (d : DiskState) (queue : List DiskState) → test d ≡ false
    → filter test left ++ queue ≡ filter test (left ++ d ∷ []) ++ queue
failed test left d queue fails =
    ap (λ (ds : List DiskState). ds ++ queue)
    (sym (append-nil (filter test left)) ∙ ap (λ (ds : List DiskState). filter test left ++ ds) (sym (filter_one test d false fails)) ∙ sym (filter-append test left (d ∷ [])))

pub sorting : (all left : List DiskState) (queues : QueuesState) (d : DiskState) (kind : DiskKind) → d.kind ≡ kind → IsSorting all (left ++ d ∷ []) queues
    → IsSorting all left (with_queue kind (d ∷ queue_of kind queues) queues)
sorting all left queues d Flat is s = record {
  disks = λ count. moved (λ x. count (cleared x)) left d queues.flat queues.thin ∙ s.disks count;
  flat_count = omega (arith, s.flat_count, one_if (λ (x : DiskState). is_flat x.kind) left d true (ap is_flat is));
  thin_count = omega (arith, s.thin_count, one_if (λ (x : DiskState). not (is_flat x.kind)) left d false (ap (λ (k : DiskKind). not (is_flat k)) is));
  flat_are = passed (λ (x : DiskState). is_flat x.kind) left d queues.flat (ap is_flat is) ∙ s.flat_are;
  thin_are = failed (λ (x : DiskState). not (is_flat x.kind)) left d queues.thin (ap (λ (k : DiskKind). not (is_flat k)) is) ∙ s.thin_are;
  unarmed = front_all IsUnarmed left d s.unarmed;
  number = omega (arith, s.number, length-append left (d ∷ []));
}
sorting all left queues d Thin is s = record {
  disks = λ count. moved_behind (λ x. count (cleared x)) left d queues.flat queues.thin ∙ s.disks count;
  flat_count = omega (arith, s.flat_count, one_if (λ (x : DiskState). is_flat x.kind) left d false (ap is_flat is));
  thin_count = omega (arith, s.thin_count, one_if (λ (x : DiskState). not (is_flat x.kind)) left d true (ap (λ (k : DiskKind). not (is_flat k)) is));
  flat_are = failed (λ (x : DiskState). is_flat x.kind) left d queues.flat (ap is_flat is) ∙ s.flat_are;
  thin_are = passed (λ (x : DiskState). not (is_flat x.kind)) left d queues.thin (ap (λ (k : DiskKind). not (is_flat k)) is) ∙ s.thin_are;
  unarmed = front_all IsUnarmed left d s.unarmed;
  number = omega (arith, s.number, length-append left (d ∷ []), length-append queues.flat (d ∷ queues.thin), length-append queues.flat queues.thin);
}

pub last_unarmed : (left : List DiskState) (d : DiskState) → All IsUnarmed (left ++ d ∷ []) → IsUnarmed d
last_unarmed left d all =
    let at : get_or (left ++ d ∷ []) (length left) d ≡ d = get_or_push left d d (length left) refl in
    subst IsUnarmed at (all (length left) d (omega (arith, length-append left (d ∷ []))))

-- the volumes to come need as many disks as they are
number_after : (kind : DiskKind) (queues : QueuesState) → 0 < length (queue_of kind queues)
    → length (disks_in (with_queue kind (drop 1 (queue_of kind queues)) queues)) + 1 ≡ length (disks_in queues)
number_after Flat queues some =
    omega (arith, length-append (drop 1 queues.flat) queues.thin, length-append queues.flat queues.thin, length-drop 1 queues.flat)
number_after Thin queues some =
    omega (arith, length-append queues.flat (drop 1 queues.thin), length-append queues.flat queues.thin, length-drop 1 queues.thin)

pub enough : (bytes : ℕ) (queues : QueuesState) (reserved : List Reserved) → AreReady bytes queues reserved → length reserved ≤ length (disks_in queues)
enough bytes queues [] ready = omega arith
enough bytes queues (r ∷ rest) ready =
    let behind = enough bytes (with_queue r.kind (drop 1 (queue_of r.kind queues)) queues) rest ready.2 in
    omega (arith, number_after r.kind queues ready.0)

-- a queue without its first disk is the disks without one
first_removed : (d : DiskState) (ds : List DiskState) → remove (d ∷ ds) 0 ≡ ds
first_removed d ds = refl

taken_at : (kind : DiskKind) (queues : QueuesState) → 0 < length (queue_of kind queues)
    → disks_in (with_queue kind (drop 1 (queue_of kind queues)) queues) ≡ remove (disks_in queues) (place_in kind 0 (left_in queues))
taken_at Flat queues some = by queues.flat some
  where
    by : (flat : List DiskState) → 0 < length flat → drop 1 flat ++ queues.thin ≡ remove (flat ++ queues.thin) 0
    by [] none = absurd (omega arith)
    by (d ∷ flat) more = sym (first_removed d (flat ++ queues.thin))
taken_at Thin queues some = by queues.thin some
  where
    by : (thin : List DiskState) → 0 < length thin → queues.flat ++ drop 1 thin ≡ remove (queues.flat ++ thin) (length queues.flat + 0)
    by [] none = absurd (omega arith)
    by (d ∷ thin) more =
        let zero_is : length queues.flat + 0 - length queues.flat ≡ 0 = omega arith in
        ap (λ (ds : List DiskState). queues.flat ++ ds) (sym (first_removed d thin))
        ∙ ap (λ (n : ℕ). queues.flat ++ remove (d ∷ thin) n) (sym zero_is)
        ∙ sym (remove-append_right queues.flat (d ∷ thin) (length queues.flat) (length queues.flat + 0) refl (omega arith))

-- where the disk of a queue stands among all
at_place : (kind : DiskKind) (queues : QueuesState) (place : ℕ) → place < length (queue_of kind queues)
    → disk_at (disks_in queues) (place_in kind place (left_in queues)) ≡ disk_at (queue_of kind queues) place
at_place Flat queues place within = get_or_append_left queues.flat queues.thin (blank Flat None) place within
at_place Thin queues place within = get_or-append-add queues.flat queues.thin place (blank Flat None)

set_behind : {X : Type 0} (xs ys : List X) (i : ℕ) (x : X) → slice_set (xs ++ ys) (length xs + i) x ≡ xs ++ slice_set ys i x
set_behind [] ys i x = ap (λ (n : ℕ). slice_set ys n x) (omega arith)
set_behind {X} (y ∷ xs) ys i x =
    let next : suc (length xs) + i ≡ suc (length xs + i) = omega arith in
    ap (λ (n : ℕ). slice_set (y ∷ (xs ++ ys)) n x) next ∙ ap (λ (zs : List X). y ∷ zs) (set_behind xs ys i x)

pub formatted_there : (kind : DiskKind) (queues : QueuesState) (place grains bytes : ℕ) → place < length (queue_of kind queues)
    → disks_in (formatted_in kind place grains bytes queues) ≡ formatted_at (place_in kind place (left_in queues)) grains bytes (disks_in queues)
formatted_there Flat queues place grains bytes within =
    sym (set-append_left queues.flat queues.thin place (formatted (disk_at queues.flat place) grains bytes) within)
    ∙ ap (λ (d : DiskState). slice_set (queues.flat ++ queues.thin) place (formatted d grains bytes)) (sym (at_place Flat queues place within))
formatted_there Thin queues place grains bytes within =
    sym (set_behind queues.flat queues.thin place (formatted (disk_at queues.thin place) grains bytes))
    ∙ ap (λ (d : DiskState). slice_set (queues.flat ++ queues.thin) (length queues.flat + place) (formatted d grains bytes)) (sym (at_place Thin queues place within))

-- a disk that was formatted is as it was, but for its grains
one_cleared : (queue : List DiskState) (place grains bytes : ℕ) → map cleared (slice_set queue place (formatted (disk_at queue place) grains bytes)) ≡ map cleared queue
one_cleared queue place grains bytes = map-set_same cleared queue place (formatted (disk_at queue place) grains bytes) (blank Flat None) refl

pub all_cleared : (kind : DiskKind) (queues : QueuesState) (place grains bytes : ℕ)
    → map cleared (disks_in (formatted_in kind place grains bytes queues)) ≡ map cleared (disks_in queues)
all_cleared Flat queues place grains bytes =
    map-append cleared (slice_set queues.flat place (formatted (disk_at queues.flat place) grains bytes)) queues.thin
    ∙ ap (λ (ds : List DiskState). ds ++ map cleared queues.thin) (one_cleared queues.flat place grains bytes)
    ∙ sym (map-append cleared queues.flat queues.thin)
all_cleared Thin queues place grains bytes =
    map-append cleared queues.flat (slice_set queues.thin place (formatted (disk_at queues.thin place) grains bytes))
    ∙ ap (λ (ds : List DiskState). map cleared queues.flat ++ ds) (one_cleared queues.thin place grains bytes)
    ∙ sym (map-append cleared queues.flat queues.thin)

-- the first of the volumes to come takes a disk
module _ (pool : PoolState) (r : Reserved) (ready : AreReady pool.bytes pool.queues pool.reserved) (some : 0 < length pool.reserved) (first : r ≡ get_or pool.reserved 0 r) where
  there : 0 < length (queue_of r.kind pool.queues)
  there = by pool.reserved ready some first
    where
      by : (reserved : List Reserved) → AreReady pool.bytes pool.queues reserved → 0 < length reserved → r ≡ get_or reserved 0 r → 0 < length (queue_of r.kind pool.queues)
      by [] has more e = absurd (omega arith)
      by (x ∷ rest) has more e = subst (λ (y : Reserved). 0 < length (queue_of y.kind pool.queues)) (sym e) has.0

  next_kind : r.kind ≡ (next_of (map new_of pool.reserved)).kind
  next_kind = by pool.reserved some first
    where
      by : (reserved : List Reserved) → 0 < length reserved → r ≡ get_or reserved 0 r → r.kind ≡ (next_of (map new_of reserved)).kind
      by [] more e = absurd (omega arith)
      by (x ∷ rest) more e = ap (λ (y : Reserved). y.kind) e

  pub first_taken : disk_at (queue_of r.kind pool.queues) 0 ≡ disk_at (disks_of pool) (next_place (map new_of pool.reserved) (left_of pool))
  first_taken =
      sym (at_place r.kind pool.queues 0 there)
      ∙ ap (λ (kind : DiskKind). disk_at (disks_of pool) (place_in kind 0 (left_of pool))) next_kind

  pub rest_taken : disks_in (with_queue r.kind (drop 1 (queue_of r.kind pool.queues)) pool.queues) ≡ remove (disks_of pool) (next_place (map new_of pool.reserved) (left_of pool))
  rest_taken =
      taken_at r.kind pool.queues there
      ∙ ap (λ (kind : DiskKind). remove (disks_of pool) (place_in kind 0 (left_of pool))) next_kind
