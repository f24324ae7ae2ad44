-- What a noted store that stands for a history has for a command, and what may be recovered while it is done.
use Rattle.std.proofs.Common.{◌≡◌, ℕ, ◌<◌, List, Option, Some, None, sym, ap, subst, ◌∙◌}
use Rattle.fc_agenda.specs.Goes.{stays}
use Rattle.fc_base.specs.declared.command.Command.{Command}
use Rattle.fc_base.specs.declared.ids.VolId.{VolId}
use Rattle.fc_base.specs.declared.request.Request.TheVariants.{Command as Asked}
use Rattle.fc_base.specs.declared.size.GrainSize.{GrainSize}
use Rattle.fc_changed.specs.Row.{Row}
use Rattle.fc_entry.specs.HistoryState.{HistoryState}
use Rattle.fc_entry.specs.declared.entry.Entry.{Entry}
use Rattle.fc_image.specs.declared.image.MetaImage.{MetaImage}
use Rattle.fc_kept.specs.Disks.{NamedDisk}
use Rattle.fc_kept.specs.Images.{kept_in}
use Rattle.fc_kept.specs.Kept.{Kept}
use Rattle.fc_kept.specs.Recoverable.{Recoverable}
use Rattle.fc_kept.specs.Sound.{IsSoundImage}
use Rattle.fc_lane.specs.Lane.{LaneView}
use Rattle.fc_legal.specs.Agenda.{Asks}
use Rattle.fc_legal.specs.Whole.{Whole}
use Rattle.fc_marks.proofs.Leaving.{one_image}
use Rattle.fc_meta.specs.States.{found}
use Rattle.fc_script.specs.Script.{agenda_of}
use Rattle.fc_script.specs.declared.script.Script.{Script}
use Rattle.fc_held.specs.Held.{HoldAllOf, MatchAll}
use Rattle.law_commanded.specs.Law.{AreLanesIn, CommandedLaw, HasCome, IsCommanded}
use Rattle.law_crash.specs.Points.{Point}
use Rattle.fc_noted.specs.Noted.{IsNotedAt}
use Rattle.fc_noted.specs.Stopping.{MayBeRecovered, MoreFailed}
use Rattle.fc_noted.specs.declared.noted.Noted.{Noted}
use Rattle.fc_noted.proofs.Commanding.{BecomesAnew}
use Rattle.fc_noted.proofs.Safe.{as_it_was}

pub has_come : {C D : Type 0} (seen : D → List ℕ) (may_leave : D → List ℕ → Type 0) (n : Noted C D) (history : HistoryState) (w : Whole) (least : List Row) (at : IsNotedAt seen may_leave n history w least) →
    HasCome n.store.control.grain history.entries w least n.store.lanes at.point
has_come seen may_leave n history w least at =
    record {
      run = at.run;
      lanes_are = record { count = at.told.0.count; each = at.told.0.each };
      matches = subst (λ (z : ℕ). MatchAll n.store.control.grain z at.point.kept n.store.lanes at.point.disks) at.keeps.named at.keeps.matches;
    }

-- the meter's image is what metadata says
pub meter_says : {C D : Type 0} (seen : D → List ℕ) (may_leave : D → List ℕ → Type 0) (n : Noted C D) (history : HistoryState) (w : Whole) (least : List Row) (at : IsNotedAt seen may_leave n history w least) →
    kept_in at.counts.meter.image ≡ at.point.kept
meter_says seen may_leave n history w least at =
    ap kept_in (one_image (found seen n.meta) at.counts.meter.image at.keeps.image at.counts.is.image at.keeps.says) ∙ at.keeps.kept

-- ---- a stop, with any lanes that stand while the command is done

module _ (law : CommandedLaw) (grain : GrainSize) (script : Script) (entries : List Entry) (w : Whole) (least : List Row) (command : Command) (old now : List LaneView) (p : Point) (named : ℕ) (image : MetaImage)
    (come : HasCome grain entries w least old p) (few : w.entries < 262144) (is_named : named ≡ w.books.next_volume) (asks : Asks grain (agenda_of grain script) w (0, Asked command)) (lanes : AreLanesIn grain w least command old now) where
  by_name : (back : List (List NamedDisk)) → HoldAllOf named now back → HoldAllOf w.books.next_volume now back
  by_name back hold = subst (λ (z : ℕ). HoldAllOf z now back) is_named hold

  -- metadata says what it said
  pub before_recovered : IsSoundImage image → kept_in image ≡ p.kept → MayBeRecovered grain script named now w least image
  before_recovered sound says =
      record {
        request = Some (Asked command);
        asking = script;
        reached = λ read. stays;
        asked = asks;
        sound = sound;
        found = λ back hold.
            as_it_was grain back (kept_in image) w least (Some (Asked command)) (MoreFailed w now)
            (subst (λ (k : Kept). Recoverable grain back k w least (Some (Asked command)) None) (sym says)
            (law.before grain entries w least command old now p (Some (Asked command)) back come few lanes (by_name back hold)));
      }

  -- or it is made anew
  pub anew_recovered : (loop : Option (List VolId)) (entry : Entry) → IsCommanded grain w command loop entry → BecomesAnew grain w least command loop image → MayBeRecovered grain script named now w least image
  anew_recovered loop entry c is =
      record {
        request = Some (Asked command);
        asking = script;
        reached = λ read. stays;
        asked = asks;
        sound = is.sound;
        found = λ back hold.
            as_it_was grain back (kept_in image) w least (Some (Asked command)) (MoreFailed w now)
            (law.turned grain entries w least command loop entry old now p (kept_in image) back come few c is.anew lanes (by_name back hold));
      }
