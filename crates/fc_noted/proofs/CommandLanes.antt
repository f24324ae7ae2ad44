-- Which volumes lanes have that stand while a command is done.
use Rattle.std.proofs.Common.{◌≡◌, ℕ, ◌*◌, ◌<◌, ◌≤◌, ◌==◌, true, false, not, Option, Some, None, List, [], ◌∷◌, length, map, get_or, Contains, refl, sym, ap, subst, ◌∙◌, arith}
use Rattle.std.specs.List.{filter}
use Rattle.std.proofs.lemmas.Bool.{eqb-true, eq-eqb}
use Rattle.fc_base.specs.Pools.{Pool}
use Rattle.fc_base.specs.Tables.{Tables}
use Rattle.fc_base.specs.declared.command.Command.{Command}
use Rattle.fc_base.specs.declared.decision.Decision.{Decision}
use Rattle.fc_base.specs.declared.ids.VolId.{VolId}
use Rattle.fc_base.specs.declared.size.GrainSize.{GrainSize}
use Rattle.fc_base.specs.declared.volume.Change.{Change}
use Rattle.fc_base.specs.declared.volume.Change.TheVariants.{RemoveVolume}
use Rattle.fc_base.specs.declared.volume.Volume.{Volume}
use Rattle.fc_books.specs.Sound.{AreSound}
use Rattle.fc_changed.specs.Row.{Row}
use Rattle.fc_decided.proofs.Agreeing.{volume_from}
use Rattle.fc_decided.proofs.Lists.{any_from, any_there, filter_from}
use Rattle.fc_entry.specs.declared.entry.Entry.{Entry}
use Rattle.fc_follow.specs.Following.{restarts}
use Rattle.fc_grains.specs.Grains.{total_of}
use Rattle.fc_grains.specs.Volumes.{VolumeGrains, is_there}
use Rattle.fc_imaging.specs.Without.{is_other}
use Rattle.fc_kept.specs.Kept.{Kept}
use Rattle.fc_kept.specs.Marks.{LeastLeft, LeastLeft.decided}
use Rattle.fc_lane.specs.Lane.{IsSameLane, LaneView}
use Rattle.fc_lanes.specs.AllLanes.{EachLane}
use Rattle.fc_legal.specs.Lawful.{FitChanges}
use Rattle.fc_legal.specs.Steps.{after_settling, decided_on, one_more}
use Rattle.fc_legal.specs.Whole.{Whole, lanes, volume_told, volumes_told}
use Rattle.fc_parts.proofs.Told.{part_is}
use Rattle.fc_rules.specs.LaneTold.{LaneTold}
use Rattle.fc_stands.specs.Phase.{StandsAt}
use Rattle.fc_stands.specs.Store.{IsLaneAt, StoreView}
use Rattle.fc_stands.proofs.CommandSteps.{command_lawful}
use Rattle.fc_steps.specs.Standing.{VolumeKind, kind_of_grains, kind_of_told}
use Rattle.fc_held.specs.Held.{HasVolumes, HaveVolumes}
use Rattle.law_crash.proofs.Lost.{all_in_is}
use Rattle.law_crash.specs.Points.{Point}
use Rattle.law_commanded.specs.Lanes.{HaveLanes, NoneWent, was_given}
use Rattle.law_commanded.specs.Law.{CommandedLaw, HasCome, IsCommanded, gone_by, least_behind, left_behind}
use Rattle.law_commanded.proofs.Leaving.{Here, from_run, some_lanes}
use Rattle.law_commanded.proofs.Now.{all_given, has_left}
use Rattle.law_commanded.proofs.Removing.{IsRemoval, removal_is}
use Rattle.law_commanded.proofs.Standing.{IsTold, lane_has}
use Rattle.law_commanded.proofs.Whole.{some_lane}
use Rattle.fc_noted.proofs.Acting.{none_gone}
use Rattle.fc_noted.specs.Stopping.{HoldStill}

-- ---- they are those of the tables

held_ids : (xs : List VolumeGrains) → map (λ (x : VolumeGrains). x.volume) xs ≡ map (λ (k : VolumeKind). k.volume) (map kind_of_grains xs)
held_ids [] = refl
held_ids (x ∷ xs) = ap (λ (ids : List VolId). x.volume ∷ ids) (held_ids xs)

told_ids : (t : Tables) (vs : List Volume) → map (λ (k : VolumeKind). k.volume) (map kind_of_told (map (volume_told t) vs)) ≡ map (λ (v : Volume). v.id) vs
told_ids t [] = refl
told_ids t (v ∷ vs) = ap (λ (ids : List VolId). v.id ∷ ids) (told_ids t vs)

has_volumes : (grain : GrainSize) (w : Whole) (i : ℕ) (v : LaneView) → IsLaneAt grain w i v → HasVolumes w.books.tables.volumes v
has_volumes grain w i v at =
    let kinds : map kind_of_grains v.grains.volumes ≡ map kind_of_told (volumes_told w.books.tables) =
    at.stands.lane.parts.beside.same ∙ ap (λ (t : LaneTold). map kind_of_told t.volumes) (part_is grain w i) in
    held_ids v.grains.volumes ∙ (ap (map (λ (k : VolumeKind). k.volume)) kinds ∙ told_ids w.books.tables w.books.tables.volumes)

-- and no lane has more disks than before
pub have_volumes : (count decisions : ℕ) (old new : StoreView) (w : Whole) → HaveVolumes count old → EachLane IsSameLane old.lanes new.lanes → StandsAt decisions new w → HaveVolumes count new
have_volumes count decisions old new w have same at =
    record {
      volumes = λ i d il.
          subst (λ (t : Tables). HasVolumes t.volumes (get_or new.lanes i d)) (sym at.control.tables) (has_volumes new.control.grain w i (get_or new.lanes i d) (at.each i d il));
      few = λ i d il.
          let was : i < length old.lanes = subst (λ (n : ℕ). i < n) same.count il in
          subst (λ (p : Pool). total_of p ≤ count) (sym (same.each i d was).disks) (have.few i d was);
    }

-- ---- none went

pub none_went_still : (w : Whole) → AreSound w.books → NoneWent w w
none_went_still w sound = all_given w w.books.tables.volumes (all_in_is (λ (v : Volume). v.id.0 < w.books.next_volume) w.books.tables.volumes sound.tables.new_volume)

pub none_went_settled : CommandedLaw → (grain : GrainSize) (w : Whole) → AreSound w.books → NoneWent w (after_settling grain w)
none_went_settled law grain w sound = ap (filter (was_given w)) (law.settled grain w) ∙ none_went_still w sound

told_by_id : (w : Whole) (y : VolumeGrains) (n : ℕ) → IsTold w y → (y.volume.0 == n) ≡ true → (x : Volume) × Contains w.books.tables.volumes x × (x.id.0 ≡ n)
told_by_id w y n t e = (t.volume, t.there, t.id_is ∙ eqb-true y.volume.0 n e)

-- by a command after which each volume that a lane had is still there
module _ (law : CommandedLaw) (grain : GrainSize) (entries : List Entry) (w : Whole) (least : List Row) (command : Command) (loop : Option (List VolId)) (entry : Entry) (old : List LaneView) (p : Point)
    (come : HasCome grain entries w least old p) (few : w.entries < 262144) (c : IsCommanded grain w command loop entry) (now new : List LaneView) (are : HaveLanes grain (after_settling grain w) now)
    (stand : HaveLanes grain (left_behind grain w command loop) new) (still : HoldStill old new) where
  abbrev settled : Whole
  settled = after_settling grain w

  abbrev left : Whole
  left = left_behind grain w command loop

  here : Here grain w least p
  here = from_run grain entries w least p come.run (omega (arith, few))

  marks : LeastLeft grain w least command left (least_behind grain w least command loop)
  marks = decided loop c.told

  other : LaneView
  other = some_lane grain entries w least old p come (omega (arith, few))

  still_there : (v : Volume) → Contains w.books.tables.volumes v → is_there (get_or new 0 other).grains.volumes v.id.0 ≡ true
  still_there v i =
      let some : 0 < lanes w = some_lanes grain w least p here in
      let first : 0 < length old = subst (λ (n : ℕ). 0 < n) (sym come.lanes_are.count) some in
      let was = (lane_has grain w 0 (get_or old 0 other) some here.on.reached.stands.sound (come.lanes_are.each 0 other first)).has v i in
      let there : is_there (get_or old 0 other).grains.volumes v.id.0 ≡ true =
      any_there (λ (u : VolumeGrains). u.volume.0 == v.id.0) (get_or old 0 other).grains.volumes was.held was.inside (eq-eqb was.held.volume.0 v.id.0 was.id_is) in
      (still 0 v.id.0 other there).0

  still_has : (v : Volume) → Contains w.books.tables.volumes v → (x : Volume) × Contains left.books.tables.volumes x × (x.id.0 ≡ v.id.0)
  still_has v i =
      let z = any_from (λ (u : VolumeGrains). u.volume.0 == v.id.0) (get_or new 0 other).grains.volumes (still_there v i) in
      let has = has_left grain w least command p here few left (least_behind grain w least command loop) marks new stand other 0 (some_lanes grain w least p here) in
      told_by_id (one_more left) z.0 v.id.0 (has.told z.0 z.1) z.2

  never_gone : (gone : VolId) → gone_by grain w command loop ≡ Some gone → ⊥
  never_gone gone e =
      let d : Decision = decided_on grain settled command loop in
      let r : IsRemoval settled.books d gone = removal_is (restarts settled.rows) grain settled.books command loop gone e in
      let lawful = command_lawful grain (2 * w.entries) w command loop (omega arith) (omega (arith, few)) here.on.reached.stands c.told in
      let fits : FitChanges settled.books.tables (RemoveVolume r.volume.id ∷ []) = subst (λ (cs : List Change). FitChanges settled.books.tables cs) r.changes lawful.changes in
      let v = volume_from settled.books.tables r.volume.id fits.0 in
      let x = still_has v.0 (subst (λ (vs : List Volume). Contains vs v.0) (law.settled grain w) v.1) in
      let id : x.0.id.0 ≡ gone.0 = x.2 ∙ (sym v.2 ∙ ap (λ (i : VolId). i.0) r.id_is) in
      let says = law.without_is grain entries w least command loop entry gone old now p come few c e are in
      let left_are : filter (is_other gone) settled.books.tables.volumes ≡ left.books.tables.volumes = ap (λ (k : Kept). k.tables.volumes) says.0 in
      let y = filter_from (is_other gone) settled.books.tables.volumes x.0 (subst (λ (vs : List Volume). Contains vs x.0) (sym left_are) x.1) in
      let q : false ≡ true = ap not (sym (eq-eqb x.0.id.0 gone.0 id)) ∙ y.1 in cc

  pub none_goes_still : gone_by grain w command loop ≡ None
  none_goes_still = none_gone (gone_by grain w command loop) never_gone
