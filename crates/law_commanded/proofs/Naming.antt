-- The disks of all lanes, with the names of the volumes that are left.
use Rattle.std.proofs.Common.{◌-◌, ◌≡◌, ℕ, ◌+◌, mod-lt, ◌<◌, ◌≤◌, false, IsSome, Option, Some, None, List, [], ◌∷◌, ◌++◌, length, map, get_or, Contains, inl, inr, refl, sym, ap, subst, ◌∙◌, arith}
use Rattle.std.specs.List.{filter, range_with_len}
use Rattle.std.proofs.lemmas.Bool.{cases_lt}
use Rattle.std.proofs.lemmas.List.{length-append}
use Rattle.std.proofs.lemmas.List.Elements.{filter-append}
use Rattle.std.proofs.lemmas.List.FromFn.{get_or-map-range_with_len, length-map-range_with_len}
use Rattle.fc_base.specs.Pools.{Pool, of_kind}
use Rattle.fc_base.specs.declared.disk.DiskKind.TheVariants.{Flat, Thin}
use Rattle.fc_base.specs.declared.disk.DiskKind.{DiskKind}
use Rattle.fc_base.specs.declared.size.GrainSize.{GrainSize}
use Rattle.fc_base.specs.declared.volume.Volume.{Volume}
use Rattle.fc_books.specs.Sound.{AreSound}
use Rattle.fc_entry.specs.Picture.{content_at}
use Rattle.fc_grains.specs.Grains.{GrainsState}
use Rattle.fc_grains.specs.Volumes.{VolumeGrains}
use Rattle.fc_kept.specs.Disks.{NamedDisk, disk_of, on_disk}
use Rattle.fc_kept.specs.Kept.{Kept, is_lost_in}
use Rattle.fc_kept.specs.Recoverable.{disks_at}
use Rattle.fc_lane.specs.Lane.{LaneView}
use Rattle.fc_legal.specs.Whole.{Whole, lane_at, lane_of_grain, lanes, pool_at}
use Rattle.fc_parts.proofs.Numbers.{grain_below}
use Rattle.fc_rules.specs.LaneTold.{LaneOf, number_at, place_of}
use Rattle.law_crash.proofs.Lost.{all_in_is}
use Rattle.law_crash.specs.Leaving.{AreFit, HaveTheirDisks, is_free}
use Rattle.law_crash.specs.Points.{on_disks}
use Rattle.law_crash.specs.Running.{StayAs}
use Rattle.fc_held.specs.Held.{MatchAll, Matches, is_known}
use Rattle.law_commanded.specs.Lanes.{HaveLanes}
use Rattle.law_commanded.proofs.Disks.{CanMatch, disks_match, free_are, lane_disks, none_is, own_bytes, own_disk, own_is, own_size}
use Rattle.law_commanded.proofs.Now.{all_given, given_kind}
use Rattle.law_commanded.proofs.Pools.{how_many}
use Rattle.law_commanded.proofs.Standing.{LaneHas, lane_has}

-- The lanes stand for this, there are disks for each, and a lane has as many of each kind as its pool and the volumes take; the other lane
-- is any.
pub record IsSet (grain : GrainSize) (w : Whole) (ds : List (List NamedDisk)) (ls : List LaneView) : Type 0 where
  pub sound : AreSound w.books
  pub count : length ds ≡ lanes w
  pub some : 0 < lanes w
  pub lanes_are : HaveLanes grain w ls
  pub room : (i : ℕ) (d : LaneView) (kind : DiskKind) → i < lanes w →
      of_kind kind (pool_at w.books.pools i) + how_many kind w.books.tables.volumes ≤ of_kind kind (get_or ls i d).grains.disks

module _ (grain : GrainSize) (w : Whole) (ds : List (List NamedDisk)) (ls : List LaneView) (other : LaneView) (s : IsSet grain w ds ls) where
  abbrev grains_of : ℕ → GrainsState
  grains_of i = (get_or ls i other).grains

  abbrev free_for : ℕ → Pool
  free_for i =
      record {
        flat = (grains_of i).disks.flat - how_many Flat w.books.tables.volumes;
        thin = (grains_of i).disks.thin - how_many Thin w.books.tables.volumes;
      }

  abbrev disks_for : ℕ → List NamedDisk
  disks_for i = lane_disks (lane_at grain w i) (disks_at ds i) (free_for i) (grains_of i)

  abbrev pub all_disks : List (List NamedDisk)
  all_disks = map disks_for (range_with_len 0 (length ds))

  as_many : length all_disks ≡ lanes w
  as_many = length-map-range_with_len disks_for 0 (length ds) ∙ s.count

  at : (i : ℕ) → i < lanes w → disks_at all_disks i ≡ disks_for i
  at i il = get_or-map-range_with_len disks_for 0 (length ds) i i [] (subst (λ (n : ℕ). i < n) (sym s.count) il) (omega arith)

  inside : (i : ℕ) → i < length all_disks → i < lanes w
  inside i il = subst (λ (n : ℕ). i < n) as_many il

  of_lane : (i : ℕ) → i < lanes w → i < length ls
  of_lane i il = subst (λ (n : ℕ). i < n) (sym s.lanes_are.count) il

  has : (i : ℕ) → i < lanes w → LaneHas grain w i (grains_of i)
  has i il = lane_has grain w i (get_or ls i other) il s.sound (s.lanes_are.each i other (of_lane i il))

  -- ---- a volume's disk

  its_disk : (i : ℕ) (il : i < lanes w) (v : Volume) (c : Contains w.books.tables.volumes v) →
      disk_of (disks_at all_disks i) v.id.0 ≡ Some (own_disk (lane_at grain w i) (disks_at ds i) ((has i il).has v c).held)
  its_disk i il v c =
      let h = (has i il).has v c in
      ap (λ (xs : List NamedDisk). disk_of xs v.id.0) (at i il)
      ∙ subst (λ (n : ℕ). disk_of (disks_for i) n ≡ Some (own_disk (lane_at grain w i) (disks_at ds i) h.held)) h.id_is
      (own_is (lane_at grain w i) (disks_at ds i) (free_for i) (grains_of i) h.held (has i il).once h.inside)

  no_disk : (i v : ℕ) → w.books.next_volume ≤ v → disk_of (disks_at all_disks i) v ≡ None
  no_disk i v le =
      elim (cases_lt i (lanes w)) [
        | inl il ↦ ap (λ (xs : List NamedDisk). disk_of xs v) (at i il)
            ∙ none_is (lane_at grain w i) (disks_at ds i) (free_for i) (grains_of i) v (λ x c e.
            let t = (has i il).told x c in
            let lt : t.volume.id.0 < w.books.next_volume = all_in_is (λ (y : Volume). y.id.0 < w.books.next_volume) w.books.tables.volumes s.sound.tables.new_volume t.volume t.there in
            let id = t.id_is in
            absurd (omega (arith, le, lt, e, id)))
        | inr past ↦ past_all all_disks i v (subst (λ (n : ℕ). n ≤ i) (sym as_many) past)
      ]
    where
      past_all : (xs : List (List NamedDisk)) (i v : ℕ) → length xs ≤ i → disk_of (disks_at xs i) v ≡ None
      past_all [] i v le = refl
      past_all (x ∷ xs) ℕ.zero v le = absurd (omega (arith, le))
      past_all (x ∷ xs) (ℕ.suc i) v le = past_all xs i v (omega (arith, le))

  -- ---- they fit, and each grain is as it was

  fits : AreFit grain w all_disks
  fits i il =
      let below : i < lanes w = inside i il in
      record {
        named = λ v d c e.
            let h = (has i below).has v c in
            let l : LaneOf = lane_at grain w i in
            let same : own_disk l (disks_at ds i) h.held ≡ d = (let q : Some (own_disk l (disks_at ds i) h.held) ≡ Some d = sym (its_disk i below v c) ∙ e in cc) in (
              ap (λ (x : NamedDisk). x.disk.kind) (sym same) ∙ h.kind_is,
              ap (λ (x : NamedDisk). length x.disk.grains) (sym same) ∙ (own_size l (disks_at ds i) h.held ∙ h.size),
            );
        unnamed = λ v c e.
            let h = (has i below).has v c in
            absurd (let q : Some (own_disk (lane_at grain w i) (disks_at ds i) h.held) ≡ None = sym (its_disk i below v c) ∙ e in cc);
        one = λ v x c other_inside e f.
            let h = (has i below).has v c in
            absurd (let q : Some (own_disk (lane_at grain w i) (disks_at ds i) h.held) ≡ None = sym (its_disk i below v c) ∙ e in cc);
      }

  as_was : (v : Volume) → Contains w.books.tables.volumes v → (g : ℕ) → g < v.grains → on_disks grain w all_disks v.id.0 g ≡ on_disks grain w ds v.id.0 g
  as_was v c g gl =
      let i : ℕ = lane_of_grain w g in
      let l : LaneOf = lane_at grain w i in
      let y : ℕ = place_of l g in
      let il : i < lanes w = mod-lt g s.some in
      let h = (has i il).has v c in
      let lt : y < length h.held.contents = subst (λ (n : ℕ). y < n) (sym h.size) (grain_below l il g v.grains refl gl) in
      ap (λ (o : Option NamedDisk). on_disk l o y) (its_disk i il v c)
      ∙ (own_bytes l (disks_at ds i) h.held y lt ∙ ap (λ (n : ℕ). on_disk l (disk_of (disks_at ds i) n) y) h.id_is)

  pub stay_as : StayAs grain w ds all_disks
  stay_as = record { count = as_many ∙ sym s.count; same = as_was; fit = fits; unnamed = no_disk }

  -- ---- each volume has its disk, and as many are free as the pools say

  spare : (kind : DiskKind) (i : ℕ) → i < lanes w → of_kind kind (free_for i) + how_many kind w.books.tables.volumes ≡ of_kind kind (grains_of i).disks
  spare Flat i il = let room = s.room i other Flat il in omega (arith, room)
  spare Thin i il = let room = s.room i other Thin il in omega (arith, room)

  known_are : (kind : DiskKind) (i : ℕ) → i < lanes w → length (filter (is_known w.books.next_volume kind) (grains_of i).volumes) ≡ how_many kind w.books.tables.volumes
  known_are kind i il =
      let vs : List Volume = w.books.tables.volumes in
      (has i il).known_are w.books.next_volume kind
      ∙ (given_kind w kind w.books.tables vs ∙ ap (how_many kind) (all_given w vs (all_in_is (λ (v : Volume). v.id.0 < w.books.next_volume) vs s.sound.tables.new_volume)))

  pub have_disks : HaveTheirDisks w all_disks
  have_disks =
      record {
        named = λ i v il c. subst IsSome (sym (its_disk i (inside i il) v c)) refl;
        free = λ i kind il.
            let below : i < lanes w = inside i il in
            let enough = spare kind i below in
            let room = s.room i other kind below in
            let free : length (filter (is_free kind) (disks_at all_disks i)) ≡ of_kind kind (free_for i) =
            ap (λ (xs : List NamedDisk). length (filter (is_free kind) xs)) (at i below) ∙ free_are kind (lane_at grain w i) (disks_at ds i) (free_for i) (grains_of i) in
            omega (arith, enough, room, free);
      }

  -- ---- they match what the lanes hold

  below_next : (i : ℕ) → i < lanes w → (x : VolumeGrains) → Contains (grains_of i).volumes x → x.volume.0 < w.books.next_volume
  below_next i il x c =
      let t = (has i il).told x c in
      subst (λ (n : ℕ). n < w.books.next_volume) t.id_is
      (all_in_is (λ (y : Volume). y.id.0 < w.books.next_volume) w.books.tables.volumes s.sound.tables.new_volume t.volume t.there)

  can_match : (i : ℕ) → i < lanes w → CanMatch w.books.next_volume (free_for i) (grains_of i)
  can_match i il =
      record {
        once = (has i il).once;
        below = below_next i il;
        enough = λ kind.
            let all = spare kind i il in
            let known = known_are kind i il in
            omega (arith, all, known);
      }

  default_is : (xs : List LaneView) (i : ℕ) (d e : LaneView) → i < length xs → get_or xs i d ≡ get_or xs i e
  default_is [] i d e il = absurd (omega (arith, il))
  default_is (x ∷ xs) ℕ.zero d e il = refl
  default_is (x ∷ xs) (ℕ.suc i) d e il = default_is xs i d e (omega (arith, il))

  pub match_named : (k : Kept) →
      ((i : ℕ) → i < lanes w → (x : VolumeGrains) (y : ℕ) → Contains (grains_of i).volumes x → y < length x.contents → is_lost_in k.lost x.volume.0 (number_at (lane_at grain w i) y) ≡ false →
      content_at x.contents y ≡ on_disk (lane_at grain w i) (disk_of (disks_at ds i) x.volume.0) y) →
      MatchAll grain w.books.next_volume k ls all_disks
  match_named k same =
      record {
        count = as_many ∙ sym s.lanes_are.count;
        each = λ i d il.
            let below : i < lanes w = inside i il in
            let named : ℕ = w.books.next_volume in
            let m : Matches (lane_at grain w i) named k (grains_of i) (disks_for i) =
            disks_match (lane_at grain w i) named k (disks_at ds i) (free_for i) (grains_of i) (can_match i below) (same i below) in
            let lane : ℕ → LaneOf = λ n. record { lane = i; lanes = n; grain = grain } in
            subst (λ (n : ℕ). Matches (lane n) named k (get_or ls i d).grains (disks_at all_disks i)) (sym as_many)
            (subst (λ (v : LaneView). Matches (lane_at grain w i) named k v.grains (disks_at all_disks i)) (default_is ls i other d (of_lane i below))
            (subst (λ (xs : List NamedDisk). Matches (lane_at grain w i) named k (grains_of i) xs) (sym (at i below)) m));
      }
