-- What stands on the disk of metadata while nothing is written there may be recovered, with whatever disks the lanes give back.
use Rattle.std.proofs.Common.{◌≡◌, ℕ, ◌≤◌, None, List, sym, ap, subst, ◌∙◌, inl, inr}
use Rattle.fc_agenda.specs.Goes.{stays}
use Rattle.fc_base.specs.declared.size.GrainSize.{GrainSize}
use Rattle.fc_changed.specs.Row.{Row}
use Rattle.fc_entry.specs.HistoryState.{HistoryState}
use Rattle.fc_format.specs.Halves.{Image, recovered}
use Rattle.fc_image.specs.declared.image.MetaImage.{MetaImage}
use Rattle.fc_lane.specs.Lane.{LaneView}
use Rattle.fc_legal.specs.Whole.{Whole}
use Rattle.fc_meta.proofs.Moments.{started}
use Rattle.fc_metadisk.specs.Disk.{LeavesOnly, Only}
use Rattle.fc_noted.proofs.InHand.{stands_recovered}
use Rattle.fc_noted.proofs.Resting.{rests_safe}
use Rattle.fc_noted.specs.Noted.{IsDoing, IsNotedAt}
use Rattle.fc_noted.specs.Stopping.{LeavesRecoverable, MayBeRecovered, MayHold, MoreFailed}
use Rattle.fc_noted.specs.declared.noted.Noted.{Noted}
use Rattle.fc_noted.specs.declared.noted.UnderWay.{UnderWay}
use Rattle.fc_script.specs.declared.script.Script.{Script}
use Rattle.fc_stands.specs.Store.{StoreView}

module _ {C D : Type 0} (seen : D → List ℕ) (may_leave : D → List ℕ → Type 0) where
  -- while an entry is under way
  pub doing_found : (n : Noted C D) (way : UnderWay) (history : HistoryState) (w : Whole) (least : List Row) (d : IsDoing seen may_leave n way history w least) →
      MayBeRecovered n.store.control.grain n.script n.named n.store.lanes w least d.keeps.image
  doing_found n way history w least d =
      subst (λ (g : GrainSize). MayBeRecovered g n.script n.named n.store.lanes w least d.keeps.image) (sym (ap (λ (s : StoreView). s.control.grain) d.since))
      (stands_recovered seen may_leave n way history w least d)

  -- between two entries
  pub resting_found : (n : Noted C D) (history : HistoryState) (w : Whole) (least : List Row) (at : IsNotedAt seen may_leave n history w least) → w.entries ≤ 262144 →
      MayBeRecovered n.store.control.grain n.script n.named n.store.lanes w least at.keeps.image
  resting_found n history w least at few =
      record {
        request = None;
        asking = n.script;
        reached = λ read. stays;
        asked = tt;
        sound = at.keeps.sound;
        found = λ back hold. rests_safe seen may_leave n history w least None (MoreFailed w n.store.lanes) at back few hold;
      }

  -- where the disk of metadata stays as it is
  pub still_leaves : (moment : D → ℕ) (left_since : D → ℕ → List ℕ → Type 0) → ((disk : D) (c : List ℕ) → left_since disk (moment disk) c → may_leave disk c) →
      (old new : Noted C D) (w : Whole) (least : List Row) (image : MetaImage) → new.meta.disk ≡ old.meta.disk → recovered (seen old.meta.disk) ≡ Image image → Only (seen old.meta.disk) (may_leave old.meta.disk) →
      ((all : List LaneView) → MayHold old.store new.store all → MayBeRecovered old.store.control.grain old.script old.named all w least image) →
      LeavesOnly moment left_since old.meta.disk new.meta.disk (LeavesRecoverable old new w least)
  still_leaves moment left_since only_now old new w least image same is only found =
      let P : List ℕ → Type 0 = LeavesRecoverable old new w least in
      subst (λ (x : D). LeavesOnly moment left_since old.meta.disk x P) (sym same)
      (started moment left_since old.meta.disk P (λ c left. (image, ap recovered (only c (only_now old.meta.disk c left)) ∙ is, found)))

-- what the lanes held before a step and what they hold behind it may both be recovered
pub hold_either : (old new : StoreView) (script : Script) (named : ℕ) (w : Whole) (least : List Row) (image : MetaImage) → new.control.grain ≡ old.control.grain → MayBeRecovered old.control.grain script named old.lanes w least image →
    MayBeRecovered new.control.grain script named new.lanes w least image → (all : List LaneView) → MayHold old new all → MayBeRecovered old.control.grain script named all w least image
hold_either old new script named w least image same before after all (inl is) = subst (λ (ls : List LaneView). MayBeRecovered old.control.grain script named ls w least image) (sym is) before
hold_either old new script named w least image same before after all (inr is) =
    subst (λ (ls : List LaneView). MayBeRecovered old.control.grain script named ls w least image) (sym is.0)
    (subst (λ (g : GrainSize). MayBeRecovered g script named new.lanes w least image) same after)
