-- The disk that a volume gets that came back without one: with it, every volume has its disk, and shows what it did.
use Rattle.std.proofs.Common.{◌≡◌, ◌≢◌, ℕ, ◌<◌, ◌≤◌, Bool, true, false, cond, Option, Some, None, List, [], length, set, replicate, refl, sym, ap, subst, ◌∙◌, arith, All, Contains, inl, inr}
use Rattle.std.specs.Prelude.{find, position, is_none}
use Rattle.std.proofs.lemmas.Bool.{both_ways, cases_lt, cases_eq, eq-eqb, ne_eqb, lt-ltb}
use Rattle.std.specs.List.{position_or_len}
use Rattle.std.proofs.lemmas.List.Sums.{fails_before_first}
use Rattle.std.proofs.lemmas.List.{length-replicate, get_or-replicate}
use Rattle.std.proofs.lemmas.List.Elements.{All-set, All-replicate}
use Rattle.std.proofs.lemmas.List.Folds.{find_past}
use Rattle.std.proofs.lemmas.List.Quantifiers.{position-Some}
use Rattle.fc_base.specs.Grain.{grain_bytes}
use Rattle.fc_base.specs.Tables.{Tables, IsOrdered}
use Rattle.fc_base.specs.declared.volume.Volume.{Volume}
use Rattle.fc_decided.proofs.Lists.{find_from, find_misses, find_none}
use Rattle.fc_decided.proofs.Ordered.{one_of_id}
use Rattle.fc_entry.specs.Picture.{Bytes}
use Rattle.fc_kept.specs.Disks.{NamedDisk, FitDisks, is_of, disk_of, on_disk, is_free}
use Rattle.fc_kept.proofs.Free.{free_is, free_now, nobodys}
use Rattle.fc_moves.proofs.Search.{cases_option}
use Rattle.fc_rules.specs.LaneTold.{LaneOf, grains_in}
use Rattle.fc_recovered.specs.Answering.{no_disk, disk_in}
use Rattle.fc_recovered.specs.Readying.{given_to, given_from, given, is_diskless, readied, HasWholeGrains, HasOwnDisk, AllHaveDisks}
use Rattle.fc_recovered.proofs.Carrying.{StoreSame}
use Rattle.fc_recovered.proofs.Finding.{find_only}

-- ---- tests

none_is : {X : Type 0} (o : Option X) → is_none o ≡ true → o ≡ None
none_is None e = refl
none_is (Some x) e = absurd cc

some_is : {X : Type 0} (o : Option X) → is_none o ≡ false → (x : X) × (o ≡ Some x)
some_is None e = absurd cc
some_is (Some x) e = (x, refl)

pub position_none : {X : Type 0} (p : X → Bool) (xs : List X) → position p xs ≡ None → find p xs ≡ None
position_none p xs e =
    let n : ℕ = position_or_len p xs in
    let past : length xs ≤ n =
    elim (cases_lt n (length xs)) [
      | inl lt ↦ absurd (let g : position p xs ≡ Some n = ap (λ (b : Bool). cond b (Some n) None) (lt-ltb n (length xs) lt) in cc)
      | inr le ↦ le
    ] in
    find_none p xs (λ x c. ap p (sym c.2) ∙ fails_before_first p xs c.0 x (omega arith))

-- ---- a lane in which a volume lacks its disk

-- the volume, and the first disk that is for new ones of its kind
record Lacking (l : LaneOf) (t : Tables) (disks : List NamedDisk) (v : Volume) (p : ℕ) : Type 0 where
  fit : FitDisks l disks t
  ordered : IsOrdered (λ (x : Volume). x.id.0) (λ (x : Volume). x.name) t.volumes
  within : Contains t.volumes v
  lacks : disk_of disks v.id.0 ≡ None
  there : p < length disks
  new : is_free v.kind (disk_in disks p) ≡ true

abbrev after : LaneOf → Volume → List NamedDisk → ℕ → List NamedDisk
after l v disks p = set disks p (given_to l v (disk_in disks p))

-- its disk is the one that it got
own_disk : (l : LaneOf) (t : Tables) (disks : List NamedDisk) (v : Volume) (p : ℕ) → Lacking l t disks v p → disk_of (after l v disks p) v.id.0 ≡ Some (given_to l v (disk_in disks p))
own_disk l t disks v p a = find_only (is_of v.id.0) disks p (given_to l v (disk_in disks p)) a.lacks a.there (eq-eqb v.id.0 v.id.0 refl)

-- every other volume has the disk that it had
other_disk : (l : LaneOf) (t : Tables) (disks : List NamedDisk) (v : Volume) (p : ℕ) → Lacking l t disks v p → (w : ℕ) → v.id.0 ≢ w → disk_of (after l v disks p) w ≡ disk_of disks w
other_disk l t disks v p a w ne =
    find_past (is_of w) disks p (given_to l v (disk_in disks p)) no_disk
    (nobodys w (disk_in disks p) (free_is v.kind (disk_in disks p) a.new).0) (ne_eqb v.id.0 w ne)

same_volume : (l : LaneOf) (t : Tables) (disks : List NamedDisk) (v : Volume) (p : ℕ) → Lacking l t disks v p → (w : Volume) → Contains t.volumes w → v.id.0 ≡ w.id.0 → v ≡ w
same_volume l t disks v p a w c e = one_of_id (λ (x : Volume). x.id.0) (λ (x : Volume). x.name) t.volumes v w a.ordered a.within c e

got : (l : LaneOf) (t : Tables) (disks : List NamedDisk) (v : Volume) (p : ℕ) → Lacking l t disks v p → HasOwnDisk l (after l v disks p) v
got l t disks v p a =
    record {
      disk = given_to l v (disk_in disks p);
      there = own_disk l t disks v p a;
      kind = (free_is v.kind (disk_in disks p) a.new).1;
      grains = length-replicate (grains_in l v.grains) (replicate (grain_bytes l.grain) 0);
    }

had : (l : LaneOf) (t : Tables) (disks : List NamedDisk) → FitDisks l disks t → (w : Volume) → Contains t.volumes w → (disk : NamedDisk) → disk_of disks w.id.0 ≡ Some disk → HasOwnDisk l disks w
had l t disks f w c disk e = let n = f.named w disk c e in record { disk = disk; there = e; kind = n.0; grains = n.1 }

-- a volume other than the one that lacks its disk has its own
kept : (l : LaneOf) (t : Tables) (disks : List NamedDisk) (v : Volume) (p : ℕ) → Lacking l t disks v p → (w : Volume) → Contains t.volumes w → v.id.0 ≢ w.id.0 → HasOwnDisk l disks w
kept l t disks v p a w c ne =
    elim (cases_option (disk_of disks w.id.0)) [
      | inl none ↦ absurd (ne (a.fit.one v w a.within c a.lacks none))
      | inr s ↦ had l t disks a.fit w c s.0 s.1
    ]

has_after : (l : LaneOf) (t : Tables) (disks : List NamedDisk) (v : Volume) (p : ℕ) → Lacking l t disks v p → (w : Volume) → Contains t.volumes w → HasOwnDisk l (after l v disks p) w
has_after l t disks v p a w c =
    elim (cases_eq v.id.0 w.id.0) [
      | inl e ↦ subst (λ (x : Volume). HasOwnDisk l (after l v disks p) x) (same_volume l t disks v p a w c e) (got l t disks v p a)
      | inr ne ↦ let h = kept l t disks v p a w c ne in
          record { disk = h.disk; there = other_disk l t disks v p a w.id.0 ne ∙ h.there; kind = h.kind; grains = h.grains }
    ]

whole_after : (l : LaneOf) (v : Volume) (disks : List NamedDisk) (p : ℕ) → All (HasWholeGrains l.grain) disks → All (HasWholeGrains l.grain) (after l v disks p)
whole_after l v disks p all =
    All-set (HasWholeGrains l.grain) disks p (given_to l v (disk_in disks p))
    (λ named. All-replicate (λ (bytes : List ℕ). length bytes ≡ grain_bytes l.grain) (grains_in l v.grains) (replicate (grain_bytes l.grain) 0) (length-replicate (grain_bytes l.grain) 0)) all

stores_after : (l : LaneOf) (t : Tables) (disks : List NamedDisk) (v : Volume) (p : ℕ) → Lacking l t disks v p → StoreSame l t.volumes disks (after l v disks p)
stores_after l t disks v p a w c g lt =
    elim (cases_eq v.id.0 w.id.0) [
      | inl e ↦ subst (λ (x : Volume). g < grains_in l x.grains → on_disk l (disk_of (after l v disks p) x.id.0) g ≡ on_disk l (disk_of disks x.id.0) g) (same_volume l t disks v p a w c e)
          (λ within. ap (λ (o : Option NamedDisk). on_disk l o g) (own_disk l t disks v p a)
          ∙ (ap (λ (z : List ℕ). Bytes z) (get_or-replicate (grains_in l v.grains) g (replicate (grain_bytes l.grain) 0) [] within)
          ∙ ap (λ (o : Option NamedDisk). on_disk l o g) (sym a.lacks))) lt
      | inr ne ↦ ap (λ (o : Option NamedDisk). on_disk l o g) (other_disk l t disks v p a w.id.0 ne)
    ]

-- ---- all cases

-- the disks of a lane, and those when all are ready
pub record MadeReady (l : LaneOf) (t : Tables) (old new : List NamedDisk) : Type 0 where
  pub ready : AllHaveDisks l t.volumes new
  pub stores : StoreSame l t.volumes old new

pub made_ready : (l : LaneOf) (t : Tables) (disks : List NamedDisk) → FitDisks l disks t → IsOrdered (λ (x : Volume). x.id.0) (λ (x : Volume). x.name) t.volumes →
    All (HasWholeGrains l.grain) disks → MadeReady l t disks (readied l t.volumes disks)
made_ready l t disks f ordered whole =
    elim (cases_option (find (is_diskless disks) t.volumes)) [
      | inl none ↦ subst (λ (o : Option Volume). MadeReady l t disks (given l disks o)) (sym none)
          (record {
            ready = record {
              each = λ w c. let s = some_is (disk_of disks w.id.0) (find_misses (is_diskless disks) t.volumes w none c) in had l t disks f w c s.0 s.1;
              whole = whole;
            };
            stores = λ w c g lt. refl;
          })
      | inr s ↦ subst (λ (o : Option Volume). MadeReady l t disks (given l disks o)) (sym s.1) (gives s.0 (find_from (is_diskless disks) t.volumes s.0 s.1))
    ]
  where
    gives_at : (v : Volume) → Contains t.volumes v → disk_of disks v.id.0 ≡ None → (o : Option ℕ) → position (is_free v.kind) disks ≡ o → MadeReady l t disks (given_from l v disks o)
    gives_at v c none None e =
        let u = f.unnamed v c none in
        absurd (both_ways (is_free v.kind u.0) (find_misses (is_free v.kind) disks u.0 (position_none (is_free v.kind) disks e) u.1) (free_now v.kind u.0 u.2 u.3))
    gives_at v c none (Some p) e =
        let q = position-Some (is_free v.kind) disks p no_disk e in
        let a : Lacking l t disks v p = record { fit = f; ordered = ordered; within = c; lacks = none; there = q.0; new = q.1 } in
        record { ready = record { each = has_after l t disks v p a; whole = whole_after l v disks p whole }; stores = stores_after l t disks v p a }

    gives : (v : Volume) → Contains t.volumes v × (is_diskless disks v ≡ true) → MadeReady l t disks (given l disks (Some v))
    gives v x = gives_at v x.0 (none_is (disk_of disks v.id.0) x.1) (position (is_free v.kind) disks) refl
