-- A command leads on, and so do entries one after the other.
use Rattle.std.proofs.Common.{◌≡◌, ℕ, suc, ◌+◌, ◌<◌, List, [], ◌∷◌, length, slice_index_or, refl, sym, ◌∙◌, ap, subst, arith}
use Rattle.fc_base.specs.declared.size.GrainSize.{GrainSize}
use Rattle.fc_entry.specs.declared.entry.Entry.{Entry}
use Rattle.fc_grains.specs.Grains.{stopped}
use Rattle.fc_grains.specs.Volumes.{volume_of}
use Rattle.fc_lane.specs.Lane.{LaneView}
use Rattle.fc_lanes.specs.AllLanes.{EachLane}
use Rattle.fc_legal.specs.Legal.{AreSteps}
use Rattle.fc_legal.specs.Steps.{Step}
use Rattle.fc_legal.specs.Whole.{Whole, lanes, part_at}
use Rattle.fc_stands.specs.Arming.{SetsNothing, calls_in}
use Rattle.fc_stands.specs.Quiet.{KeepsFaults}
use Rattle.fc_stands.specs.Store.{AreLanesOf, IsLaneAt, StandsFor, StoreView}
use Rattle.fc_stands.proofs.Calls.{step_tells}
use Rattle.fc_stands.proofs.Since.{since_more}
use Rattle.fc_shares.specs.Law.{AllLead, HaveShares, KeepsLane, LeadOn, numbered}
use Rattle.fc_shares.specs.Situation.{Situation, HasLane}
use Rattle.fc_shares.proofs.Lanes.{faults_by, faults_on, same_on}

-- ---- a command

module _ (first s : Situation) (openings : List LaneView) (old new : StoreView) (entry : Entry) (next : Whole)
    (shares : HaveShares first s openings old)
    (step : Step s.grain s.whole (record entry { number = s.whole.entries }) next)
    (unset : SetsNothing entry.request entry.reply) (counted : next.entries ≡ s.whole.entries + 1) (actors : next.actors ≡ s.whole.actors) (volumes : next.books.tables.volumes ≡ s.whole.books.tables.volumes)
    (stands : StandsFor new next) (grain : new.control.grain ≡ old.control.grain)
    (keeps : EachLane (KeepsLane 0) old.lanes new.lanes) where
  lanes_next : AreLanesOf s.grain next new.lanes
  lanes_next =
      let P : GrainSize → Type 0 = λ size. AreLanesOf size next new.lanes in
      subst P (grain ∙ shares.control.grain) stands.each

  -- Whatever calls are told of it.
  faults_next : (i : ℕ) (then now : LaneView) → i < lanes s.whole → IsLaneAt s.grain s.whole i then → IsLaneAt s.grain next i now → KeepsLane 0 then now → KeepsFaults then now
  unfolding part_at
  faults_next i then now within was is kept =
      let calls : ℕ = calls_in i entry.place entry.calls in
      let told = (step_tells s.grain s.whole (record entry { number = s.whole.entries }) next step).each i (omega (arith, within, shares.sound.stands.each_lane.calls)) in
      faults_by then now (slice_index_or s.whole.calls i 0) calls was.stands.lane.calls (is.stands.lane.calls ∙ ap stopped told) kept.1
      (λ id s is. since_more 0 calls (volume_of now.grains.volumes id).due s (omega arith) (kept.2 id s is))

  each_next : (i : ℕ) (d : LaneView) → i < length new.lanes → HasLane (record { grain = s.grain; whole = next }) i (slice_index_or openings i d) (slice_index_or new.lanes i d)
  each_next i d inside =
      let before : i < length old.lanes = omega (arith, inside, keeps.count) in
      let opening : LaneView = slice_index_or openings i d in
      let then : LaneView = slice_index_or old.lanes i d in
      let now : LaneView = slice_index_or new.lanes i d in
      let had : HasLane s i opening then = shares.each i d before in
      record {
        within = omega (arith, inside, stands.count);
        stands = lanes_next i d inside;
        same = same_on opening then now had.same (keeps.each i d before).0;
        faults = faults_on opening then now had.faults (faults_next i then now had.within had.stands (lanes_next i d inside) (keeps.each i d before));
      }

  pub command : AllLead first s openings new entry
  command = record {
    next = record { grain = s.grain; whole = next };
    leads = record { step = step; grain = refl; unset = unset };
    counted = counted;
    shares = record {
      sound = record {
        grain = shares.sound.grain;
        lanes_are = sym stands.count ∙ keeps.count ∙ shares.count ∙ shares.sound.lanes_are;
        actors = actors ∙ shares.sound.actors;
        volumes = volumes ∙ shares.sound.volumes;
        decisions = stands.decisions;
        few = stands.few;
        stands = stands.stands;
        calls = stands.calls;
      };
      control = record { books = stands.control; grain = grain ∙ shares.control.grain };
      count = stands.count;
      each = each_next;
    };
  }

-- ---- one entry after the other

pub steps : (s last : Situation) (n : ℕ) (entries : List Entry) → LeadOn s n entries last → AreSteps s.grain s.whole (numbered n entries) last.whole
steps s last n [] is = ap (λ (t : Situation). t.whole) is
steps s last n (entry ∷ entries) leads =
    let next : Situation = leads.0 in
    let P : GrainSize → Type 0 = λ grain. AreSteps grain next.whole (numbered (suc n) entries) last.whole in
    (next.whole, leads.1.step, subst P leads.1.grain (steps next last (suc n) entries leads.2))
