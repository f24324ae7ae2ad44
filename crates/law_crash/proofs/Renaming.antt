-- Between two entries a volume that came gets its disks, where so many are free as the pools said.
use Rattle.std.proofs.Common.{◌≡◌, ◌≢◌, ℕ, ◌+◌, ◌<◌, ◌≤◌, ◌==◌, Option, Some, None, IsSome, List, [], length, get_or, replicate, Contains, ◌⊎◌, inl, inr, refl, sym, ap, subst, ◌∙◌, arith, mod-lt}
use Rattle.std.proofs.lemmas.Bool.{cases_Bool, cases_eq, eqb-true}
use Rattle.std.proofs.lemmas.List.{get_or-replicate, length-replicate}
use Rattle.fc_base.specs.Grain.{grain_bytes}
use Rattle.fc_base.specs.Pools.{of_kind}
use Rattle.fc_base.specs.Tables.{volume_with}
use Rattle.fc_base.specs.declared.disk.DiskKind.{DiskKind}
use Rattle.fc_base.specs.declared.ids.VolId.{VolId}
use Rattle.fc_base.specs.declared.size.GrainSize.{GrainSize}
use Rattle.fc_base.specs.declared.volume.Volume.{Volume}
use Rattle.fc_books.specs.Sound.{AreTables}
use Rattle.fc_decided.proofs.Lists.{find_from}
use Rattle.fc_decided.proofs.Ordered.{found_by_id, one_of_id}
use Rattle.fc_entry.specs.Picture.{Bytes}
use Rattle.fc_kept.specs.Disks.{NamedDisk, FitDisks, disk_of, on_disk, is_kind}
use Rattle.fc_kept.specs.Recoverable.{disks_at}
use Rattle.fc_kept.proofs.Free.{kind_is}
use Rattle.fc_legal.specs.Whole.{Whole, lane_at, lane_of_grain, lanes, pool_at}
use Rattle.fc_parts.proofs.Numbers.{grain_below}
use Rattle.fc_rules.specs.LaneTold.{LaneOf, grains_in, place_of}
use Rattle.law_crash.specs.Leaving.{AreFit, AreUnnamed, HaveTheirDisks}
use Rattle.law_crash.specs.Points.{on_disks}
use Rattle.law_crash.specs.Running.{StayAs}
use Rattle.law_crash.proofs.Lost.{all_in_is}
use Rattle.law_crash.proofs.Naming.{IsNamed, as_many_lanes, first_named, free_count, lane_named, name_first, name_lanes, no_less, one_less, others_named}

abbrev volume_id : Volume → ℕ
volume_id v = v.id.0

abbrev volume_name : Volume → List ℕ
volume_name v = v.name

-- disks with other names, and each volume has its own
pub record Renamed (grain : GrainSize) (w : Whole) (disks : List (List NamedDisk)) : Type 0 where
  pub new : List (List NamedDisk)
  pub stays : StayAs grain w disks new
  pub have : HaveTheirDisks w new

-- a volume is among those that were there, or it has this id, and took a disk of each lane
abbrev pub WasOrTook : Whole → Whole → ℕ → ℕ → Volume → Type 0
WasOrTook w left n count v =
    Contains w.books.tables.volumes v ⊎ ((v.id.0 ≡ n) × ((i : ℕ) → i < count → of_kind v.kind (pool_at left.books.pools i) < of_kind v.kind (pool_at w.books.pools i)))

-- what is so of the disks when a command has left its tables
pub record IsLeft (grain : GrainSize) (w left : Whole) (n : ℕ) (disks : List (List NamedDisk)) : Type 0 where
  pub some : 0 < lanes left
  pub count : length disks ≡ lanes left
  pub tables : AreTables left.books
  pub fit : AreFit grain left disks
  pub have : HaveTheirDisks w disks
  pub unnamed : AreUnnamed left disks
  pub none : (i : ℕ) → disk_of (disks_at disks i) n ≡ None
  pub comes : (v : Volume) → Contains left.books.tables.volumes v → WasOrTook w left n (length disks) v
  pub fewer : (i : ℕ) (kind : DiskKind) → i < length disks → of_kind kind (pool_at left.books.pools i) ≤ of_kind kind (pool_at w.books.pools i)

not_none : (o : Option NamedDisk) → IsSome o → o ≡ None → ⊥
not_none None some e = cc
not_none (Some d) some e = cc

-- ---- no volume came

none_came : (grain : GrainSize) (w left : Whole) (n : ℕ) (disks : List (List NamedDisk)) → IsLeft grain w left n disks → (let id : VolId = record { 0 = n } in volume_with left.books.tables id ≡ None) → Renamed grain left disks
none_came grain w left n disks x none =
    let was : (v : Volume) → Contains left.books.tables.volumes v → Contains w.books.tables.volumes v = λ v c. elim (x.comes v c) [
      | inl old ↦ old
      | inr new ↦ absurd (
          let found : volume_with left.books.tables v.id ≡ Some v = found_by_id volume_id volume_name left.books.tables.volumes v x.tables.volumes c in
          let other : volume_with left.books.tables v.id ≡ None = subst (λ (m : ℕ). let id : VolId = record { 0 = m } in volume_with left.books.tables id ≡ None) (sym new.0) none in
          let q : Some v ≡ None = sym found ∙ other in cc)
    ] in
    record {
      new = disks;
      stays = record { count = refl; same = λ v c g gl. refl; fit = x.fit; unnamed = x.unnamed };
      have = record {
        named = λ i v il c. x.have.named i v il (was v c);
        free = λ i kind il. let le = x.have.free i kind il in let few = x.fewer i kind il in omega (arith, le, few);
      };
    }

-- ---- a volume came

module _ (grain : GrainSize) (w left : Whole) (n : ℕ) (disks : List (List NamedDisk)) (x : IsLeft grain w left n disks) (v : Volume) (there : Contains left.books.tables.volumes v) (id_is : v.id.0 ≡ n) where
  abbrev Takes : Type 0
  Takes = (i : ℕ) → i < length disks → of_kind v.kind (pool_at left.books.pools i) < of_kind v.kind (pool_at w.books.pools i)

  took : Takes
  took i il = elim (x.comes v there) [
    | inl old ↦ absurd (not_none (disk_of (disks_at disks i) v.id.0) (x.have.named i v il old) (ap (disk_of (disks_at disks i)) id_is ∙ x.none i))
    | inr new ↦ new.1 i il
  ]

  abbrev zeros_in : ℕ → List (List ℕ)
  zeros_in i = replicate (grains_in (lane_at grain left i) v.grains) (replicate (grain_bytes grain) 0)

  abbrev named_disks : List (List NamedDisk)
  named_disks = name_lanes v.kind v.id zeros_in disks

  at_lane : (i : ℕ) → disks_at named_disks i ≡ name_first v.kind v.id (zeros_in i) (disks_at disks i)
  at_lane i = lane_named v.kind v.id zeros_in disks i

  -- its own disk
  its_disk : (i : ℕ) → i < length disks → IsNamed v.kind (zeros_in i) (disk_of (disks_at named_disks i) v.id.0)
  its_disk i il =
      let lt = took i il in
      let le = x.have.free i v.kind il in
      subst (λ (ds : List NamedDisk). IsNamed v.kind (zeros_in i) (disk_of ds v.id.0)) (sym (at_lane i))
      (first_named v.kind v.id (zeros_in i) (disks_at disks i) (omega (arith, lt, le)) (ap (disk_of (disks_at disks i)) id_is ∙ x.none i))

  -- and those of others
  others : (i y : ℕ) → y ≢ v.id.0 → disk_of (disks_at named_disks i) y ≡ disk_of (disks_at disks i) y
  others i y ne = ap (λ (ds : List NamedDisk). disk_of ds y) (at_lane i) ∙ others_named v.kind v.id (zeros_in i) (disks_at disks i) y ne

  is_it : (u : Volume) → Contains left.books.tables.volumes u → u.id.0 ≡ v.id.0 → u ≡ v
  is_it u c e = one_of_id volume_id volume_name left.books.tables.volumes u v x.tables.volumes c there e

  old_of : (u : Volume) → Contains left.books.tables.volumes u → u.id.0 ≢ v.id.0 → Contains w.books.tables.volumes u
  old_of u c ne = elim (x.comes u c) [
    | inl old ↦ old
    | inr new ↦ absurd (ne (new.0 ∙ sym id_is))
  ]

  has_one : (i : ℕ) (u : Volume) → i < length disks → Contains left.books.tables.volumes u → IsSome (disk_of (disks_at named_disks i) u.id.0)
  has_one i u il c = elim (cases_eq u.id.0 v.id.0) [
    | inl e ↦
        let d = its_disk i il in
        subst (λ (o : Option NamedDisk). IsSome o) (sym (ap (disk_of (disks_at named_disks i)) e ∙ d.is_there)) refl
    | inr ne ↦ subst (λ (o : Option NamedDisk). IsSome o) (sym (others i u.id.0 ne)) (x.have.named i u il (old_of u c ne))
  ]

  fits_new : (i : ℕ) → i < length disks → FitDisks (lane_at grain left i) (disks_at named_disks i) left.books.tables
  fits_new i il =
      record {
        named = λ u d c e. elim (cases_eq u.id.0 v.id.0) [
          | inl q ↦
              let own = its_disk i il in
              let same : own.disk ≡ d = (let f : Some own.disk ≡ Some d = sym (ap (disk_of (disks_at named_disks i)) q ∙ own.is_there) ∙ e in cc) in
              subst (λ (z : Volume). (d.disk.kind ≡ z.kind) × (length d.disk.grains ≡ grains_in (lane_at grain left i) z.grains)) (sym (is_it u c q))
              (subst (λ (z : NamedDisk). (z.disk.kind ≡ v.kind) × (length z.disk.grains ≡ grains_in (lane_at grain left i) v.grains)) same
              (own.kind_is, ap (λ (gs : List (List ℕ)). length gs) own.grains_are ∙ length-replicate (grains_in (lane_at grain left i) v.grains) (replicate (grain_bytes grain) 0)))
          | inr ne ↦ (x.fit i il).named u d c (sym (others i u.id.0 ne) ∙ e)
        ];
        unnamed = λ u c e. absurd (not_none (disk_of (disks_at named_disks i) u.id.0) (has_one i u il c) e);
        one = λ u y uc yc e q. absurd (not_none (disk_of (disks_at named_disks i) u.id.0) (has_one i u il uc) e);
      }

  -- a volume that comes shows zeros, with its disk and without
  shows_zeros : (g : ℕ) → g < v.grains → on_disks grain left named_disks v.id.0 g ≡ on_disks grain left disks v.id.0 g
  shows_zeros g gl =
      let i : ℕ = lane_of_grain left g in
      let l : LaneOf = lane_at grain left i in
      let place : ℕ = place_of l g in
      let below : i < lanes left = mod-lt g x.some in
      let il : i < length disks = subst (λ (m : ℕ). i < m) (sym x.count) below in
      let own = its_disk i il in
      let room : place < grains_in l v.grains = grain_below l below g v.grains refl gl in
      ap (λ (o : Option NamedDisk). on_disk l o place) own.is_there
      ∙ (ap (λ (gs : List (List ℕ)). Bytes (get_or gs place [])) own.grains_are
      ∙ (ap Bytes (get_or-replicate (grains_in l v.grains) place (replicate (grain_bytes grain) 0) [] room)
      ∙ ap (λ (o : Option NamedDisk). on_disk l o place) (sym (ap (disk_of (disks_at disks i)) id_is ∙ x.none i))))

  same_shown : (u : Volume) → Contains left.books.tables.volumes u → (g : ℕ) → g < u.grains → on_disks grain left named_disks u.id.0 g ≡ on_disks grain left disks u.id.0 g
  same_shown u c g gl = elim (cases_eq u.id.0 v.id.0) [
    | inl e ↦
        let same : u ≡ v = is_it u c e in
        subst (λ (z : Volume). on_disks grain left named_disks z.id.0 g ≡ on_disks grain left disks z.id.0 g) (sym same) (shows_zeros g (subst (λ (z : Volume). g < z.grains) same gl))
    | inr ne ↦ ap (λ (o : Option NamedDisk). on_disk (lane_at grain left (lane_of_grain left g)) o (place_of (lane_at grain left (lane_of_grain left g)) g)) (others (lane_of_grain left g) u.id.0 ne)
  ]

  still_free : (i : ℕ) (kind : DiskKind) → i < length disks → of_kind kind (pool_at left.books.pools i) ≤ free_count kind (disks_at named_disks i)
  still_free i kind il =
      let here : free_count kind (disks_at named_disks i) ≡ free_count kind (name_first v.kind v.id (zeros_in i) (disks_at disks i)) = ap (free_count kind) (at_lane i) in
      let le = x.have.free i kind il in
      elim (cases_Bool (is_kind kind v.kind)) [
        | inl e ↦
            let lt : of_kind kind (pool_at left.books.pools i) < of_kind kind (pool_at w.books.pools i) =
            subst (λ (k : DiskKind). of_kind k (pool_at left.books.pools i) < of_kind k (pool_at w.books.pools i)) (kind_is kind v.kind e) (took i il) in
            let more : free_count kind (disks_at disks i) ≤ free_count kind (name_first v.kind v.id (zeros_in i) (disks_at disks i)) + 1 =
            subst (λ (k : DiskKind). free_count kind (disks_at disks i) ≤ free_count kind (name_first k v.id (zeros_in i) (disks_at disks i)) + 1) (sym (kind_is kind v.kind e)) (one_less kind v.id (zeros_in i) (disks_at disks i)) in
            omega (arith, here, le, lt, more)
        | inr e ↦
            let few = x.fewer i kind il in
            let more = no_less v.kind kind v.id (zeros_in i) (disks_at disks i) e in
            omega (arith, here, le, few, more)
      ]

  one_came : Renamed grain left disks
  one_came =
      let count : length named_disks ≡ length disks = as_many_lanes v.kind v.id zeros_in disks in
      let was : (i : ℕ) → i < length named_disks → i < length disks = λ i il. subst (λ (m : ℕ). i < m) count il in
      let given : v.id.0 < left.books.next_volume = all_in_is (λ (z : Volume). z.id.0 < left.books.next_volume) left.books.tables.volumes x.tables.new_volume v there in
      record {
        new = named_disks;
        stays = record {
          count = count;
          same = same_shown;
          fit = λ i il. fits_new i (was i il);
          unnamed = λ i y le. others i y (λ e. absurd (omega (arith, e, le, given))) ∙ x.unnamed i y le;
        };
        have = record {
          named = λ i u il c. has_one i u (was i il) c;
          free = λ i kind il. still_free i kind (was i il);
        };
      }

pub renamed : (grain : GrainSize) (w left : Whole) (n : ℕ) (disks : List (List NamedDisk)) → IsLeft grain w left n disks → Renamed grain left disks
renamed grain w left n disks x = go (volume_with left.books.tables record { 0 = n }) refl
  where
    go : (o : Option Volume) → (let id : VolId = record { 0 = n } in volume_with left.books.tables id ≡ o) → Renamed grain left disks
    go None e = none_came grain w left n disks x e
    go (Some v) e =
        let f = find_from (λ (y : Volume). n == y.id.0) left.books.tables.volumes v e in
        one_came grain w left n disks x v f.0 (sym (eqb-true n v.id.0 f.1))
