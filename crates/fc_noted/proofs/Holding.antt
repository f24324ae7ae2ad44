-- Lanes that hold the same grains, whatever else changed in them.
use Rattle.std.proofs.Common.{◌≡◌, ℕ, ◌<◌, ◌≤◌, List, length, map, slice_index_or, slice_set, sym, ap, subst, ◌∙◌}
use Rattle.std.proofs.lemmas.List.{get_or-map, length-map, map-set, set-get_or}
use Rattle.fc_base.specs.declared.size.GrainSize.{GrainSize}
use Rattle.fc_grains.specs.Grains.{GrainsState, total_of}
use Rattle.fc_held.specs.Held.{HaveVolumes, MatchAll, Matches}
use Rattle.fc_kept.specs.Disks.{NamedDisk}
use Rattle.fc_kept.specs.Kept.{Kept}
use Rattle.fc_kept.specs.Recoverable.{disks_at}
use Rattle.fc_lane.specs.Lane.{LaneView}
use Rattle.fc_stands.specs.Store.{StoreView}
use Rattle.fc_store.specs.Stepping.{IsInLane, lane_in, no_lane}
use Rattle.law_agreeing.specs.Agreeing.{lane_over}

abbrev pub grains_of : LaneView → GrainsState
grains_of v = v.grains

abbrev pub HoldSame : List LaneView → List LaneView → Type 0
HoldSame old new = map grains_of new ≡ map grains_of old

module _ (old new : List LaneView) (same : HoldSame old new) where
  pub as_many : length new ≡ length old
  as_many = sym (length-map new grains_of) ∙ (ap (λ (gs : List GrainsState). length gs) same ∙ length-map old grains_of)

  pub same_at : (i : ℕ) (d : LaneView) → i < length new → (slice_index_or new i d).grains ≡ (slice_index_or old i d).grains
  same_at i d lt =
      sym (get_or-map grains_of new i d d.grains lt)
      ∙ (ap (λ (gs : List GrainsState). slice_index_or gs i d.grains) same ∙ get_or-map grains_of old i d d.grains (subst (λ (n : ℕ). i < n) as_many lt))

  pub match_same : (grain : GrainSize) (named : ℕ) (k : Kept) (ds : List (List NamedDisk)) → MatchAll grain named k old ds → MatchAll grain named k new ds
  match_same grain named k ds m =
      record {
        count = m.count ∙ sym as_many;
        each = λ i d il.
            subst (λ (g : GrainsState). Matches (lane_over grain ds i) named k g (disks_at ds i)) (sym (same_at i d (subst (λ (n : ℕ). i < n) (m.count ∙ sym as_many) il))) (m.each i d il);
      }

-- so the volumes are there, and no more disks
pub have_same : (count : ℕ) (old new : StoreView) → new.control ≡ old.control → HoldSame old.lanes new.lanes → HaveVolumes count old → HaveVolumes count new
have_same count old new control same have =
    record {
      volumes = λ i d lt.
          ap (λ (g : GrainsState). map (λ v. v.volume) g.volumes) (same_at old.lanes new.lanes same i d lt)
          ∙ (have.volumes i d (subst (λ (n : ℕ). i < n) (as_many old.lanes new.lanes same) lt) ∙ sym (ap (λ c. map (λ v. v.id) c.tables.volumes) control));
      few = λ i d lt.
          subst (λ (g : GrainsState). total_of g.disks ≤ count) (sym (same_at old.lanes new.lanes same i d lt)) (have.few i d (subst (λ (n : ℕ). i < n) (as_many old.lanes new.lanes same) lt));
    }

-- one lane that holds the same
pub one_same : (old new : StoreView) (place : ℕ) → IsInLane place old new → (lane_in new place).grains ≡ (lane_in old place).grains → place < length old.lanes → HoldSame old.lanes new.lanes
one_same old new place is same inside =
    ap (λ (s : StoreView). map grains_of s.lanes) is
    ∙ (map-set grains_of old.lanes place (lane_in new place)
    ∙ (ap (λ (g : GrainsState). slice_set (map grains_of old.lanes) place g) (same ∙ sym (get_or-map grains_of old.lanes place no_lane no_lane.grains inside))
    ∙ set-get_or (map grains_of old.lanes) place no_lane.grains))
