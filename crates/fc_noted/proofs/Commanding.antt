-- What a command's two decisions, done one after the other, leave of a store and of its metadata.
use Rattle.std.proofs.Common.{◌≡◌, ℕ, ◌+◌, ◌*◌, ◌<◌, ◌≤◌, Option, Some, None, List, ◌++◌, get_or, inl, inr, refl, sym, ap, subst, ◌∙◌, arith}
use Rattle.fc_base.specs.declared.command.Command.TheVariants.{Mkpreset, Read as ReadLine, Write as WriteLine}
use Rattle.fc_base.specs.declared.command.Command.{Command}
use Rattle.fc_base.specs.declared.decision.Decision.{Decision}
use Rattle.fc_base.specs.declared.ids.VolId.{VolId}
use Rattle.fc_base.specs.declared.request.Effect.{Effect}
use Rattle.fc_base.specs.declared.request.Place.TheVariants.{Every}
use Rattle.fc_base.specs.declared.request.Reply.{Reply}
use Rattle.fc_base.specs.declared.request.Request.TheVariants.{Command as Asked}
use Rattle.fc_base.specs.declared.size.GrainSize.{GrainSize}
use Rattle.fc_books.specs.Deciding.{IsLoopOf, settle}
use Rattle.fc_changed.specs.Row.{Row}
use Rattle.fc_entry.specs.declared.entry.Entry.{Entry}
use Rattle.fc_format.specs.Ranges.{HasGoodIds}
use Rattle.fc_image.specs.declared.image.MetaImage.{MetaImage}
use Rattle.fc_imaging.specs.Imaging.{is_lost_at, kept_of}
use Rattle.fc_imaging.specs.Without.{leaving_out}
use Rattle.fc_kept.specs.Images.{kept_in, meta_of}
use Rattle.fc_kept.specs.Kept.{Kept, is_lost_in}
use Rattle.fc_kept.specs.Marks.{LeastLeft, least_by}
use Rattle.fc_kept.specs.Sound.{IsSoundImage, IsSoundKept}
use Rattle.fc_kept.proofs.Said.{said}
use Rattle.fc_kept.proofs.Tidy.{image_sound}
use Rattle.fc_lane.specs.Lane.{IsSameLane, LaneView}
use Rattle.fc_lanes.specs.AllLanes.{EachLane}
use Rattle.fc_legal.specs.Lawful.{IsLawful}
use Rattle.fc_legal.specs.Steps.{CommandIsRight, CommandLeft, CommandStep, after_settling, decided_on, left_by, one_more}
use Rattle.fc_legal.specs.Whole.{Whole}
use Rattle.fc_stands.specs.Apart.{entry_apart}
use Rattle.fc_stands.specs.Phase.{IsDecided, StandsAt}
use Rattle.fc_stands.specs.Store.{StandsFor, StoreView}
use Rattle.fc_stands.proofs.Frames.{all_go_on}
use Rattle.fc_stands.proofs.OneMore.{lane_still, still_few, still_stands}
use Rattle.law_commanded.proofs.Leaving.{all_behind, from_run}
use Rattle.law_commanded.proofs.Lost.{tables_alike}
use Rattle.law_commanded.proofs.Now.{lost_left}
use Rattle.law_commanded.proofs.Whole.{some_lane}
use Rattle.law_commanded.specs.Lanes.{HasSameDisks, HaveLanes, NoneWent}
use Rattle.law_commanded.specs.Law.{AreLanesIn, CommandedLaw, HasCome, IsAnew, IsCommanded, by_lanes, gone_by, left_behind}
use Rattle.law_crash.specs.Leaving.{made_anew}
use Rattle.law_crash.specs.Points.{Point}
use Rattle.fc_noted.proofs.GoodIds.{good_ids, good_without}
use Rattle.fc_noted.specs.Making.{HasActed, HasStayed, IsImageAfter, IsImageAfter.about, IsImageAfter.acted, IsImageOf, IsImageWithout}
use Rattle.fc_noted.specs.Metered.{IsPutAnew}

-- ---- stores

pub have_lanes : (decisions : ℕ) (s : StoreView) (grain : GrainSize) (w : Whole) → s.control.grain ≡ grain → StandsAt decisions s w → HaveLanes grain w s.lanes
have_lanes decisions s grain w same at = subst (λ (g : GrainSize). HaveLanes g w s.lanes) same (record { count = at.count; each = at.each })

pub same_disks : (old new : List LaneView) → EachLane IsSameLane old new → EachLane HasSameDisks old new
same_disks old new same = record { count = same.count; each = λ i d il. (same.each i d il).disks }

-- with one entry more
pub stands_for : (decisions : ℕ) (s : StoreView) (w : Whole) → decisions ≤ 2 * (w.entries + 1) → StandsAt decisions s w → StandsFor s (one_more w)
stands_for decisions s w few at =
    record {
      control = at.control;
      count = at.count;
      each = λ i d il. lane_still s.control.grain w i (get_or s.lanes i d) (at.each i d il);
      decisions = decisions;
      few = few;
      stands = still_stands decisions w at.stands;
      calls = still_few w at.calls;
    }

-- ---- the entry

right : (grain : GrainSize) (w : Whole) (command : Command) (entry : Entry) (next : Whole) → IsDecided command → CommandStep grain w command entry next → CommandIsRight grain w command entry next
right grain w (ReadLine volume block count) entry next allowed step = absurd allowed
right grain w (WriteLine volume block count byte) entry next allowed step = absurd allowed
right grain w (Mkpreset source preset name) entry next allowed step = absurd allowed
right grain w command entry next allowed step = step

pub is_commanded : (grain : GrainSize) (w : Whole) (command : Command) (loop : Option (List VolId)) (reply : Reply) (effects : List Effect) → IsDecided command → IsLoopOf grain (after_settling grain w).books command loop →
    let d = decided_on grain (after_settling grain w) command loop in reply ≡ d.reply → effects ≡ (settle w.books).effects ++ d.effects →
    IsCommanded grain w command loop (entry_apart w.entries 0 Every (Asked command) reply effects)
is_commanded grain w command loop reply effects is_decided told replied are =
    let left : Whole = left_behind grain w command loop in
    let d : Decision = decided_on grain (after_settling grain w) command loop in
    let entry : Entry = entry_apart w.entries 0 Every (Asked command) reply effects in
    record {
      told = told;
      request_is = refl;
      step = record {
        number = refl;
        right = right grain w command entry (one_more left) is_decided
            record {
              place = refl;
              apart = record { no_moves = refl; untorn = refl; no_calls = refl; no_faults_before = refl; no_faults_after = refl };
              left = left;
              leaves = subst (λ (r : Reply). CommandLeft grain w command r effects left) (sym replied)
                  (subst (λ (es : List Effect). CommandLeft grain w command d.reply es left) (sym are) (CommandLeft.decided loop told));
              next_is = refl;
            };
      };
    }

-- ---- what metadata becomes

pub record BecomesAnew (grain : GrainSize) (w : Whole) (least : List Row) (command : Command) (loop : Option (List VolId)) (image : MetaImage) : Type 0 where
  pub anew : IsAnew grain w least command loop (kept_in image)
  pub sound : IsSoundImage image
  pub good : HasGoodIds image

module _ (law : CommandedLaw) (grain : GrainSize) (entries : List Entry) (w : Whole) (least : List Row) (command : Command) (loop : Option (List VolId)) (entry : Entry) (old : List LaneView) (p : Point)
    (come : HasCome grain entries w least old p) (few : w.entries < 262144) (c : IsCommanded grain w command loop entry) (decisions : ℕ) (less : decisions ≤ 2 * w.entries) (s : StoreView) (same : s.control.grain ≡ grain)
    (at : StandsAt (decisions + 1) s (after_settling grain w)) (sames : EachLane IsSameLane old s.lanes) where
  abbrev settled : Whole
  settled = after_settling grain w

  abbrev left : Whole
  left = left_behind grain w command loop

  abbrev d : Decision
  d = decided_on grain settled command loop

  -- the store behind the decision
  pub acted_at : (new : StoreView) → HasActed d s new → IsLawful grain (decisions + 1) settled d → StandsAt (decisions + 1 + 1) new left
  acted_at new done lawful =
      subst (λ (g : GrainSize). StandsAt (decisions + 1 + 1) new (left_by g settled d)) same
      (done.stands (decisions + 1) settled at (subst (λ (g : GrainSize). IsLawful g (decisions + 1) settled d) (sym same) lawful))

  -- what metadata says that is an image of it
  said_anew : (kept : Kept) → IsAnew grain w least command loop kept → BecomesAnew grain w least command loop (meta_of kept)
  said_anew kept is =
      let sound : IsSoundKept kept = law.sound grain entries w least command loop entry old p kept come few c is in
      record {
        anew = subst (IsAnew grain w least command loop) (sym (said kept sound)) is;
        sound = image_sound kept sound;
        good = good_ids kept sound;
      }

  -- the store did it
  module _ (new : StoreView) (done : HasActed d s new) (lawful : IsLawful grain (decisions + 1) settled d) where
    acted_anew : IsAnew grain w least command loop (by_lanes left new.lanes)
    acted_anew =
        record {
          for = left;
          least_for = least_by settled (least_by w least (settle w.books)) d;
          leaves = LeastLeft.decided loop c.told;
          lanes_for = new.lanes;
          stand = have_lanes (decisions + 1 + 1) new grain left (done.grain ∙ same) (acted_at new done lawful);
          none_came = λ v i. i;
          kept_is = refl;
        }

    acted_told : (image : MetaImage) → IsImageOf new image → image ≡ meta_of (by_lanes left new.lanes)
    acted_told image is = is (one_more left) (stands_for (decisions + 1 + 1) new left (omega (arith, less)) (acted_at new done lawful))

    pub becomes_acted : (image : MetaImage) → IsImageOf new image → BecomesAnew grain w least command loop image
    becomes_acted image is = subst (BecomesAnew grain w least command loop) (sym (acted_told image is)) (said_anew (by_lanes left new.lanes) acted_anew)

    acted_put : (image : MetaImage) → IsImageOf new image → image ≡ meta_of (kept_in image)
    acted_put image is =
        let kept : Kept = by_lanes left new.lanes in
        let told : image ≡ meta_of kept = acted_told image is in
        let sound : IsSoundKept kept = law.sound grain entries w least command loop entry old p kept come few c acted_anew in
        told ∙ ap meta_of (sym (ap kept_in told ∙ said kept sound))

  -- that of what is settled: with the grains that were lost. It is sound, too
  settled_is : (ls : List LaneView) → HaveLanes grain settled ls → by_lanes settled ls ≡ made_anew settled settled.rows p.kept.lost
  settled_is ls stand =
      let here = from_run grain entries w least p come.run (omega (arith, few)) in
      let other : LaneView = some_lane grain entries w least old p come (omega (arith, few)) in
      ap (kept_of settled) (tables_alike (is_lost_at ls) (is_lost_in p.kept.lost) settled.books.tables.volumes
      (λ v g i gl. lost_left grain w least command p here few settled (least_by w least (settle w.books)) LeastLeft.settled_alone ls stand other v g i gl))

  settled_kept : (ls : List LaneView) → HaveLanes grain settled ls → IsSoundKept (by_lanes settled ls)
  settled_kept ls stand =
      let here = from_run grain entries w least p come.run (omega (arith, few)) in
      subst IsSoundKept (sym (settled_is ls stand)) (all_behind grain w least command p here few settled (least_by w least (settle w.books)) LeastLeft.settled_alone).0.says.sound

  good_settled : (now : StoreView) → HaveLanes grain settled now.lanes → HasGoodIds (meta_of (by_lanes settled now.lanes))
  good_settled now stand = good_ids (by_lanes settled now.lanes) (settled_kept now.lanes stand)

  -- the store is about to
  module _ (now : StoreView) (gone : VolId) (stay : HasStayed s now) where
    stayed_at : StandsAt (decisions + 1) now settled
    stayed_at = stay.stands (decisions + 1) settled at

    have_settled : HaveLanes grain settled now.lanes
    have_settled = have_lanes (decisions + 1) now grain settled (stay.grain ∙ same) stayed_at

    told_without : (image : MetaImage) → IsImageWithout gone now image → image ≡ leaving_out gone (meta_of (by_lanes settled now.lanes))
    told_without image is = is (one_more settled) (stands_for (decisions + 1) now settled (omega (arith, less)) stayed_at)

    pub becomes_without : (image : MetaImage) → gone_by grain w command loop ≡ Some gone → IsImageWithout gone now image → BecomesAnew grain w least command loop image
    becomes_without image e is =
        let stand : HaveLanes grain settled now.lanes = have_settled in
        let x = law.without_is grain entries w least command loop entry gone old now.lanes p come few c e stand in
        let anew : IsAnew grain w least command loop (kept_in (leaving_out gone (meta_of (by_lanes settled now.lanes)))) =
        record {
          for = settled;
          least_for = least_by w least (settle w.books);
          leaves = LeastLeft.settled_alone;
          lanes_for = now.lanes;
          stand = stand;
          none_came = x.1;
          kept_is = x.0;
        } in
        subst (BecomesAnew grain w least command loop) (sym (told_without image is))
        (record { anew = anew; sound = x.2; good = good_without gone (meta_of (by_lanes settled now.lanes)) (good_settled now stand) })

    put_without : (image : MetaImage) → IsImageWithout gone now image → image ≡ leaving_out gone (meta_of (made_anew settled settled.rows p.kept.lost))
    put_without image is = told_without image is ∙ ap (λ (k : Kept). leaving_out gone (meta_of k)) (settled_is now.lanes have_settled)

  -- by either
  pub becomes : (image : MetaImage) → IsLawful grain (decisions + 1) settled d → IsImageAfter s d image → BecomesAnew grain w least command loop image
  becomes image lawful (acted new done none is) = becomes_acted new done lawful image is
  becomes image lawful (about now gone stay e is) = becomes_without now gone stay image e is

  pub put_so : (image : MetaImage) → IsLawful grain (decisions + 1) settled d → IsImageAfter s d image → IsPutAnew settled p.kept.lost image
  put_so image lawful (acted new done none is) = inl (acted_put new done lawful image is)
  put_so image lawful (about now gone stay e is) = inr (gone, put_without now gone stay image is)

  -- ---- the lanes meanwhile

  pub in_settled : (now : StoreView) → HasStayed s now → NoneWent w settled → AreLanesIn grain w least command old now.lanes
  in_settled now stay none =
      record {
        for = settled;
        least_for = least_by w least (settle w.books);
        leaves = LeastLeft.settled_alone;
        stand = have_lanes (decisions + 1) now grain settled (stay.grain ∙ same) (stay.stands (decisions + 1) settled at);
        none_went = none;
        disks = same_disks old now.lanes (all_go_on old s.lanes now.lanes sames stay.lanes);
      }

  pub in_left : (new : StoreView) → HasActed d s new → IsLawful grain (decisions + 1) settled d → gone_by grain w command loop ≡ None → AreLanesIn grain w least command old new.lanes
  in_left new done lawful none =
      record {
        for = left;
        least_for = least_by settled (least_by w least (settle w.books)) d;
        leaves = LeastLeft.decided loop c.told;
        stand = have_lanes (decisions + 1 + 1) new grain left (done.grain ∙ same) (acted_at new done lawful);
        none_went = law.none_went grain entries w least command loop entry old p come few c none;
        disks = same_disks old new.lanes (all_go_on old s.lanes new.lanes sames done.lanes);
      }
