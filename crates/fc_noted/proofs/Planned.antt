-- A command that is settled and planned, for what a noted store stands for.
use Rattle.std.proofs.Common.{◌≡◌, ℕ, ◌+◌, ◌*◌, ◌<◌, ◌≤◌, Option, None, List, ◌++◌, refl, sym, ap, subst, ◌∙◌, arith}
use Rattle.fc_base.specs.declared.command.Command.{Command}
use Rattle.fc_base.specs.declared.decision.Decision.{Decision}
use Rattle.fc_base.specs.declared.ids.VolId.{VolId}
use Rattle.fc_base.specs.declared.request.Place.TheVariants.{Every}
use Rattle.fc_base.specs.declared.request.Request.TheVariants.{Command as Asked}
use Rattle.fc_base.specs.declared.size.GrainSize.{GrainSize}
use Rattle.fc_books.specs.Deciding.{IsLoopOf, settle}
use Rattle.fc_books.specs.Sound.{AreSound}
use Rattle.fc_changed.specs.Row.{Row}
use Rattle.fc_entry.specs.declared.entry.Entry.{Entry}
use Rattle.fc_image.specs.declared.image.MetaImage.{MetaImage}
use Rattle.fc_kept.specs.Marks.{LeastLeft, LeastLeft.decided, LeastLeft.settled_alone, LeastLeft.unsettled, least_by}
use Rattle.fc_lane.specs.Lane.{IsSameLane, LaneView}
use Rattle.fc_lanes.specs.AllLanes.{EachLane}
use Rattle.fc_legal.specs.Lawful.{IsLawful}
use Rattle.fc_legal.specs.Stands.{Stands}
use Rattle.fc_legal.specs.Steps.{after_settling, decided_on}
use Rattle.fc_legal.specs.Whole.{Whole}
use Rattle.fc_stands.specs.Apart.{entry_apart}
use Rattle.fc_stands.specs.Phase.{IsDecided, StandsAt}
use Rattle.fc_stands.specs.Settling.{IsDecisionOn}
use Rattle.fc_stands.specs.Store.{StoreView}
use Rattle.fc_stands.proofs.CommandSteps.{command_lawful}
use Rattle.fc_stands.proofs.Frames.{all_go_on}
use Rattle.law_crash.specs.Points.{Point}
use Rattle.law_noted.specs.Records.{removed_by}
use Rattle.law_commanded.specs.Lanes.{HaveLanes, NoneWent}
use Rattle.law_commanded.specs.Law.{AreLanesIn, CommandedLaw, HasCome, IsCommanded, gone_by, left_behind, least_behind}
use Rattle.law_commanded.proofs.Leaving.{from_run}
use Rattle.fc_noted.proofs.CommandLanes.{none_goes_still, none_went_settled, none_went_still}
use Rattle.fc_noted.proofs.Commanding.{BecomesAnew, acted_at, becomes, have_lanes, is_commanded, put_so, same_disks}
use Rattle.fc_noted.specs.Making.{HasActed, HasStayed, IsImageAfter}
use Rattle.fc_noted.specs.Metered.{IsPutAnew}
use Rattle.fc_noted.specs.Stopping.{HoldStill}

-- Its entry, with its number.
abbrev pub entry_of : Whole → Command → (settling decision : Decision) → Entry
entry_of w command settling decision = entry_apart w.entries 0 Every (Asked command) decision.reply (settling.effects ++ decision.effects)

-- The store was settled, and this is decided of it: by which loop of restores, and that it is lawful then.
pub record IsPlanned (grain : GrainSize) (w : Whole) (command : Command) (decisions : ℕ) (s : StoreView) (settling decision : Decision) : Type 0 where
  pub less : decisions ≤ 2 * w.entries
  pub same : s.control.grain ≡ grain
  pub at : StandsAt (decisions + 1) s (after_settling grain w)
  pub loop : Option (List VolId)
  pub is : decision ≡ decided_on grain (after_settling grain w) command loop
  pub lawful : IsLawful grain (decisions + 1) (after_settling grain w) decision
  pub commanded : IsCommanded grain w command loop (entry_of w command settling decision)

pub planned : (grain : GrainSize) (w : Whole) (command : Command) (decisions : ℕ) (s : StoreView) (settling decision : Decision) → IsDecided command → decisions ≤ 2 * w.entries → w.entries ≤ 262144 → Stands decisions w →
    s.control.grain ≡ grain → StandsAt (decisions + 1) s (after_settling grain w) → settling ≡ settle w.books → IsDecisionOn s command decision → IsPlanned grain w command decisions s settling decision
planned grain w command decisions s settling decision is_decided less few stands same at settles plans =
    let settled : Whole = after_settling grain w in
    let found = plans (decisions + 1) settled at in
    let loop : Option (List VolId) = found.0 in
    let told : IsLoopOf grain settled.books command loop = subst (λ (g : GrainSize). IsLoopOf g settled.books command loop) same found.1 in
    let d : Decision = decided_on grain settled command loop in
    let is : decision ≡ d = found.2 ∙ ap (λ (g : GrainSize). decided_on g settled command loop) same in
    let effects : settling.effects ++ decision.effects ≡ (settle w.books).effects ++ d.effects =
    ap (λ (z : Decision). z.effects ++ decision.effects) settles ∙ ap (λ (z : Decision). (settle w.books).effects ++ z.effects) is in
    record {
      less = less;
      same = same;
      at = at;
      loop = loop;
      is = is;
      lawful = subst (λ (z : Decision). IsLawful grain (decisions + 1) settled z) (sym is) (command_lawful grain decisions w command loop less few stands told);
      commanded = is_commanded grain w command loop decision.reply (settling.effects ++ decision.effects) is_decided told (ap (λ (z : Decision). z.reply) is) effects;
    }

-- ---- the lanes meanwhile

pub lanes_in : (grain : GrainSize) (w : Whole) (least : List Row) (command : Command) (for : Whole) (least_for : List Row) (decisions : ℕ) (old : List LaneView) (new : StoreView) → LeastLeft grain w least command for least_for →
    new.control.grain ≡ grain → StandsAt decisions new for → EachLane IsSameLane old new.lanes → NoneWent w for → AreLanesIn grain w least command old new.lanes
lanes_in grain w least command for least_for decisions old new leaves same at sames none =
    record {
      for = for;
      least_for = least_for;
      leaves = leaves;
      stand = have_lanes decisions new grain for same at;
      none_went = none;
      disks = same_disks old new.lanes sames;
    }

module _ (law : CommandedLaw) (grain : GrainSize) (entries : List Entry) (w : Whole) (least : List Row) (command : Command) (old : List LaneView) (p : Point) (come : HasCome grain entries w least old p) (few : w.entries < 262144) where
  sound : AreSound w.books
  sound = (from_run grain entries w least p come.run (omega (arith, few))).on.reached.stands.sound

  -- before it
  pub in_old : AreLanesIn grain w least command old old
  in_old =
      record {
        for = w;
        least_for = least;
        leaves = unsettled;
        stand = come.lanes_are;
        none_went = none_went_still w sound;
        disks = record { count = refl; each = λ i d il. refl };
      }

  -- not settled, and settled
  pub in_unsettled : (decisions : ℕ) (new : StoreView) → new.control.grain ≡ grain → StandsAt decisions new w → EachLane IsSameLane old new.lanes → AreLanesIn grain w least command old new.lanes
  in_unsettled decisions new same at sames = lanes_in grain w least command w least decisions old new unsettled same at sames (none_went_still w sound)

  pub in_settled : (decisions : ℕ) (new : StoreView) → new.control.grain ≡ grain → StandsAt decisions new (after_settling grain w) → EachLane IsSameLane old new.lanes → AreLanesIn grain w least command old new.lanes
  in_settled decisions new same at sames =
      lanes_in grain w least command (after_settling grain w) (least_by w least (settle w.books)) decisions old new settled_alone same at sames (none_went_settled law grain w sound)

  module _ (decisions : ℕ) (s : StoreView) (settling decision : Decision) (plan : IsPlanned grain w command decisions s settling decision) (sames : EachLane IsSameLane old s.lanes) where
    abbrev left : Whole
    left = left_behind grain w command plan.loop

    abbrev d : Decision
    d = decided_on grain (after_settling grain w) command plan.loop

    pub lawful_there : IsLawful grain (decisions + 1) (after_settling grain w) (decided_on grain (after_settling grain w) command plan.loop)
    lawful_there = subst (λ (z : Decision). IsLawful grain (decisions + 1) (after_settling grain w) z) plan.is plan.lawful

    -- what metadata becomes, and how that is put
    pub becoming : (image : MetaImage) → IsImageAfter s decision image → BecomesAnew grain w least command plan.loop image
    becoming image x =
        becomes law grain entries w least command plan.loop (entry_of w command settling decision) old p come few plan.commanded decisions plan.less s plan.same plan.at sames image lawful_there
        (subst (λ (z : Decision). IsImageAfter s z image) plan.is x)

    pub putting : (image : MetaImage) → IsImageAfter s decision image → IsPutAnew (after_settling grain w) p.kept.lost image
    putting image x =
        put_so law grain entries w least command plan.loop (entry_of w command settling decision) old p come few plan.commanded decisions plan.less s plan.same plan.at sames image lawful_there
        (subst (λ (z : Decision). IsImageAfter s z image) plan.is x)

    -- made ready, or done
    pub in_stayed : (new : StoreView) → HasStayed s new → AreLanesIn grain w least command old new.lanes
    in_stayed new stay = in_settled (decisions + 1) new (stay.grain ∙ plan.same) (stay.stands (decisions + 1) (after_settling grain w) plan.at) (all_go_on old s.lanes new.lanes sames stay.lanes)

    module _ (new : StoreView) (done : HasActed decision s new) where
      pub stands_left : StandsAt (decisions + 1 + 1) new (left_behind grain w command plan.loop)
      stands_left =
          acted_at law grain entries w least command plan.loop (entry_of w command settling decision) old p come few plan.commanded decisions plan.less s plan.same plan.at sames new
          (subst (λ (z : Decision). HasActed z s new) plan.is done) lawful_there

      pub same_lanes : EachLane IsSameLane old new.lanes
      same_lanes = all_go_on old s.lanes new.lanes sames done.lanes

      pub have_left : HaveLanes grain (left_behind grain w command plan.loop) new.lanes
      have_left = have_lanes (decisions + 1 + 1) new grain left (done.grain ∙ plan.same) stands_left

      by_none : gone_by grain w command plan.loop ≡ None → AreLanesIn grain w least command old new.lanes
      by_none none =
          lanes_in grain w least command left (least_behind grain w least command plan.loop) (decisions + 1 + 1) old new (decided plan.loop plan.commanded.told) (done.grain ∙ plan.same) stands_left same_lanes
          (law.none_went grain entries w least command plan.loop (entry_of w command settling decision) old p come few plan.commanded none)

      pub in_acted : removed_by decision.events ≡ None → AreLanesIn grain w least command old new.lanes
      in_acted none = by_none (sym (ap (λ (z : Decision). removed_by z.events) plan.is) ∙ none)

      pub in_acted_still : HoldStill old new.lanes → AreLanesIn grain w least command old new.lanes
      in_acted_still still =
          by_none
          (none_goes_still law grain entries w least command plan.loop (entry_of w command settling decision) old p come few plan.commanded s.lanes new.lanes
          (have_lanes (decisions + 1) s grain (after_settling grain w) plan.same plan.at) have_left still)
