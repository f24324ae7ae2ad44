-- Disks that go along with a step of one lane match what the lanes hold behind it.
use Rattle.std.proofs.Common.{◌≡◌, ℕ, ◌<◌, List, length, set, refl, sym, subst, ◌∙◌, inl, inr, length-set, get_or-set_same, get_or-set_other}
use Rattle.std.specs.Prelude.{slice_index_or}
use Rattle.std.proofs.lemmas.Bool.{cases_eq}
use Rattle.fc_base.specs.declared.size.GrainSize.{GrainSize}
use Rattle.fc_grains.specs.Grains.{GrainsState}
use Rattle.fc_held.specs.Held.{MatchAll, Matches, StayHeld}
use Rattle.fc_held.proofs.Stepping.{steps}
use Rattle.fc_kept.specs.Disks.{NamedDisk}
use Rattle.fc_kept.specs.Kept.{Kept}
use Rattle.fc_kept.specs.Recoverable.{disks_at}
use Rattle.fc_lane.specs.Lane.{LaneView}
use Rattle.fc_legal.specs.Whole.{Whole, lane_at, lanes}
use Rattle.fc_rules.specs.LaneTold.{LaneOf}
use Rattle.law_agreeing.specs.Agreeing.{lane_over}
use Rattle.law_noted.specs.DataSteps.{GoAlong}

module _ (grain : GrainSize) (w : Whole) (place named : ℕ) (k k' : Kept) (all : List LaneView) (old new : LaneView) (ds ds' : List (List NamedDisk)) (at : (d : LaneView) → slice_index_or all place d ≡ old)
    (a : GoAlong grain w place k k' old.grains new.grains ds ds') (disks : new.grains.disks ≡ old.grains.disks) (m : MatchAll grain named k all ds) where
  lane_is : (xs : List (List NamedDisk)) (i : ℕ) → length xs ≡ lanes w → lane_over grain xs i ≡ lane_at grain w i
  lane_is xs i e = λ j. record { lane = i; lanes = e j; grain = grain }

  -- of a lane whose grains were these and are those
  abbrev Was : ℕ → GrainsState → Type 0
  Was i g = Matches (lane_at grain w i) named k g (disks_at ds i)

  abbrev Is : ℕ → GrainsState → Type 0
  Is i g = Matches (lane_at grain w i) named k' g (disks_at ds' i)

  was : (i : ℕ) (d : LaneView) → i < length ds → Was i (slice_index_or all i d).grains
  was i d il = subst (λ (l : LaneOf). Matches l named k (slice_index_or all i d).grains (disks_at ds i)) (lane_is ds i a.lanes_are) (m.each i d il)

  here : (d : LaneView) → place < length ds → Is place new.grains
  here d il =
      let stay : StayHeld old.grains new.grains = record { kinds = a.kinds; sizes = a.sizes; disks = disks } in
      steps (lane_at grain w place) named k k' old.grains new.grains (disks_at ds place) (disks_at ds' place) (a.same place) stay a.once a.here
      (subst (λ (v : LaneView). Was place v.grains) (at d) (was place d il))

  others : (i : ℕ) (d : LaneView) → i < length ds → (i ≡ place → ⊥) → Is i (slice_index_or all i d).grains
  others i d il ne =
      let g : GrainsState = (slice_index_or all i d).grains in
      let before : Was i g = was i d il in
      let stay : StayHeld g g = record { kinds = refl; sizes = λ v. refl; disks = refl } in
      steps (lane_at grain w i) named k k' g g (disks_at ds i) (disks_at ds' i) (a.same i) stay before.once
      (a.others i g (subst (λ (n : ℕ). i < n) a.lanes_are il) ne) before

  pub matches_along : MatchAll grain named k' (set all place new) ds'
  matches_along =
      record {
        count = a.count ∙ (m.count ∙ sym (length-set all place new));
        each = λ i d il.
            let below : i < length ds = subst (λ (n : ℕ). i < n) a.count il in
            let in_all : i < length all = subst (λ (n : ℕ). i < n) m.count below in
            let back : lane_at grain w i ≡ lane_over grain ds' i = sym (lane_is ds' i (a.count ∙ a.lanes_are)) in
            subst (λ (l : LaneOf). Matches l named k' (slice_index_or (set all place new) i d).grains (disks_at ds' i)) back
            (elim (cases_eq i place) [
              | inr ne ↦ subst (λ (v : LaneView). Is i v.grains) (sym (get_or-set_other all place i new d ne)) (others i d below ne)
              | inl e ↦
                  let there : place < length all = subst (λ (n : ℕ). n < length all) e in_all in
                  let room : place < length ds = subst (λ (n : ℕ). n < length ds) e below in
                  let one : Is place (slice_index_or (set all place new) place d).grains =
                  subst (λ (v : LaneView). Is place v.grains) (sym (get_or-set_same all place new d there)) (here d room) in
                  subst (λ (n : ℕ). Is n (slice_index_or (set all place new) n d).grains) (sym e) one
            ]);
      }
