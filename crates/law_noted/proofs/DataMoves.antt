-- The next step of data of an entry in hand, by what it stored.
use Rattle.std.proofs.Common.{◌≡◌, ℕ, ◌+◌, ◌*◌, ◌<◌, ◌==◌, ◌&&◌, Bool, false, not, cond, is_some, Option, Some, None, List, map, refl, sym, ap, subst, ◌∙◌}
use Rattle.fc_base.specs.Grain.{block_bytes}
use Rattle.fc_base.specs.declared.ids.GrainNo.{GrainNo}
use Rattle.fc_base.specs.declared.request.Move.{Move}
use Rattle.fc_base.specs.declared.request.Request.{Request}
use Rattle.fc_base.specs.declared.request.Torn.{Torn}
use Rattle.fc_base.specs.declared.request.WritePart.{WritePart}
use Rattle.fc_base.specs.declared.size.GrainSize.{GrainSize}
use Rattle.fc_changed.specs.Row.{Row}
use Rattle.fc_entry.specs.Picture.{Content, Lost, byte_in_grain, grain_of_block, is_lost, written}
use Rattle.fc_grains.specs.Grains.{GrainsState}
use Rattle.fc_grains.specs.Volumes.{stored}
use Rattle.fc_image.specs.declared.record.MetaRecord.{MetaRecord}
use Rattle.fc_image.specs.declared.record.MetaRecord.TheVariants.{Pair, Written}
use Rattle.fc_kept.specs.Actions.{record_of_move}
use Rattle.fc_kept.specs.Kept.{kept_after, lost_put}
use Rattle.fc_legal.specs.Whole.{Whole, lane_at, lane_of_grain, lanes}
use Rattle.fc_pictures.specs.Law.{StoredAt, now_of}
use Rattle.fc_rules.specs.LaneTold.{LaneOf, LaneTold, place_of}
use Rattle.fc_rules.specs.Shows.{Stored}
use Rattle.fc_rules.specs.Spot.{move_in}
use Rattle.fc_rules.specs.Steps.{DiskStep, step_of_move}
use Rattle.fc_steps.specs.UnderWay.{MoveStores, OwnStored}
use Rattle.fc_steps.specs.declared.stepping.Next.TheVariants.{Move as NextMove, Own}
use Rattle.fc_steps.specs.declared.stop.Stop.{Stop}
use Rattle.fc_steps.specs.declared.stop.Stop.TheVariants.{Failed, NoMemory}
use Rattle.law_crash.specs.Doing.{content_of, number_of}
use Rattle.law_crash.specs.Points.{Point}
use Rattle.law_crash.proofs.Making.{spot_in}
use Rattle.law_noted.specs.Records.{record_by}
use Rattle.law_noted.proofs.DataEnds.{AtStep, HasEnded, ended_put, ended_still, ended_torn}
use Rattle.law_noted.proofs.NextSteps.{torn_in_step}

-- ---- by other names

pub stores_as : (v v' g g' : ℕ) (c c' : Content) (b b' : Bool) (calls : ℕ) (stop : Option Stop) (old new : Stored) → v ≡ v' → g ≡ g' → c ≡ c' → b ≡ b' →
    MoveStores v g c b calls stop old new → MoveStores v' g' c' b' calls stop old new
stores_as v v' g g' c c' b b' calls stop old new ev eg ec eb st =
    subst (λ (z : ℕ). MoveStores z g' c' b' calls stop old new) ev
    (subst (λ (z : ℕ). MoveStores v z c' b' calls stop old new) eg
    (subst (λ (z : Content). MoveStores v g z b' calls stop old new) ec (subst (λ (z : Bool). MoveStores v g c z calls stop old new) eb st)))

pub stored_as : (v v' g g' : ℕ) (c c' : Content) (old new : Stored) → v ≡ v' → g ≡ g' → c ≡ c' → StoredAt old v g c new → StoredAt old v' g' c' new
stored_as v v' g g' c c' old new ev eg ec st =
    subst (λ (z : ℕ). StoredAt old z g' c' new) ev (subst (λ (z : ℕ). StoredAt old v z c' new) eg (subst (λ (z : Content). StoredAt old v g z new) ec st))

-- ---- a move that copies something

module _ (grain : GrainSize) (w : Whole) (r : Request) (rows : List Row) (steps : List DiskStep) (place : ℕ) (before q : Point) (old new : GrainsState) (n : ℕ) (done : List ℕ) where
  abbrev number : ℕ
  number = number_of grain r

  abbrev l : LaneOf
  l = lane_at grain w place

  abbrev Ended : ℕ → Option Stop → Option MetaRecord → Type 0
  Ended m stop due = HasEnded grain w r rows steps place before q old new m stop due

  pub moved_by : (k : ℕ) → let step : DiskStep = step_of_move (spot_in grain w r) k in let m : Move = move_in (spot_in grain w r) k in
      AtStep grain w r rows steps before q n done step (record_of_move step m) → lane_of_grain w number ≡ place → place < lanes w → m.in_place ≡ false → step.calls ≡ 2 →
      is_lost (now_of w.picture step.volume number) ≡ false → (stop : Option Stop) (calls : ℕ) (g : GrainNo) → ((torn : Torn) → stop ≡ Some (Failed (Some torn)) → torn ≡ torn_in_step number step) →
      MoveStores step.volume (place_of l number) (now_of w.picture step.volume number) false calls stop (stored old.volumes) (stored new.volumes) →
      Ended (cond (is_some stop) n (n + 1)) stop (record_by (NextMove m) stop calls g)
  moved_by k a is_of pl out two whole None calls g torn st =
      let step : DiskStep = step_of_move (spot_in grain w r) k in
      let m : Move = move_in (spot_in grain w r) k in
      let x : MetaRecord = record_of_move step m in
      let same : calls ≡ 2 = st.0 ∙ ap (λ (b : Bool). cond b 0 2) whole in
      let lost : (kept_after q.kept x).lost ≡ map (lost_put step.volume number false) q.kept.lost =
      (λ i. cond (out i) q.kept.lost (map (lost_put step.volume number ((two i == 0) && not (out i))) q.kept.lost)) in
      subst (λ (c : ℕ). Ended (n + 1) None (Some (Pair m.slot m.volume m.grain m.in_place ((c == 0) && not m.in_place)))) (two ∙ sym same)
      (ended_put grain w r rows steps place before q old new n done step x a is_of pl st.1 lost)
  moved_by k a is_of pl out two whole (Some (Failed None)) calls g torn st =
      let step : DiskStep = step_of_move (spot_in grain w r) k in
      ended_still grain w r rows steps place before q old new n done step (record_of_move step (move_in (spot_in grain w r) k)) a (Failed None) refl st.1
  moved_by k a is_of pl out two whole (Some (Failed (Some t))) calls g torn st =
      let step : DiskStep = step_of_move (spot_in grain w r) k in
      ended_torn grain w r rows steps place before q old new n done step (record_of_move step (move_in (spot_in grain w r) k)) a is_of pl t (torn t refl) st.3
  moved_by k a is_of pl out two whole (Some NoMemory) calls g torn st =
      let step : DiskStep = step_of_move (spot_in grain w r) k in
      ended_still grain w r rows steps place before q old new n done step (record_of_move step (move_in (spot_in grain w r) k)) a NoMemory refl st.1

  -- ---- the write itself

  pub own_by : (step : DiskStep) (told : LaneTold) (part : WritePart) → AtStep grain w r rows steps before q n done step (Written record { 0 = step.volume } record { 0 = number }) →
      lane_of_grain w number ≡ place → place < lanes w → part.volume.0 ≡ step.volume → place_of l (grain_of_block grain part.block) ≡ place_of l number →
      written (byte_in_grain grain part.block) (block_bytes * part.count) part.byte (now_of told.picture part.volume.0 (place_of l (grain_of_block grain part.block))) ≡ content_of grain w r step →
      (stop : Option Stop) (calls : ℕ) (g : GrainNo) → g.0 ≡ number → ((torn : Torn) → stop ≡ Some (Failed (Some torn)) → torn ≡ torn_in_step number step) →
      OwnStored l told part stop (stored old.volumes) (stored new.volumes) → Ended (cond (is_some stop) n (n + 1)) stop (record_by (Own part) stop calls g)
  own_by step told part a is_of pl ev eg ec None calls g en torn st =
      let y : ℕ = place_of l (grain_of_block grain part.block) in
      let content : Content = written (byte_in_grain grain part.block) (block_bytes * part.count) part.byte (now_of told.picture part.volume.0 y) in
      let here = stored_as part.volume.0 step.volume y (place_of l number) content (content_of grain w r step) (stored old.volumes) (stored new.volumes) ev eg ec st in
      let same : Written record { 0 = step.volume } record { 0 = number } ≡ Written part.volume g = (λ i. Written record { 0 = sym ev i } record { 0 = sym en i }) in
      subst (λ (x : MetaRecord). Ended (n + 1) None (Some x)) same
      (ended_put grain w r rows steps place before q old new n done step (Written record { 0 = step.volume } record { 0 = number }) a is_of pl here refl)
  own_by step told part a is_of pl ev eg ec (Some (Failed None)) calls g en torn st =
      ended_still grain w r rows steps place before q old new n done step (Written record { 0 = step.volume } record { 0 = number }) a (Failed None) refl st
  own_by step told part a is_of pl ev eg ec (Some (Failed (Some t))) calls g en torn st =
      let here = stored_as part.volume.0 step.volume (place_of l (grain_of_block grain part.block)) (place_of l number) Lost Lost (stored old.volumes) (stored new.volumes) ev eg refl st in
      ended_torn grain w r rows steps place before q old new n done step (Written record { 0 = step.volume } record { 0 = number }) a is_of pl t (torn t refl) here
  own_by step told part a is_of pl ev eg ec (Some NoMemory) calls g en torn st =
      ended_still grain w r rows steps place before q old new n done step (Written record { 0 = step.volume } record { 0 = number }) a NoMemory refl st
