-- What a command costs metadata: it is made anew where the settling or what is decided has an action, and else it isn't called.
use Rattle.std.proofs.Common.{◌≡◌, ℕ, ◌+◌, ◌<◌, ◌==◌, ◌||◌, Bool, true, false, not, if◌then◌else◌, Option, Some, None, List, [], ◌∷◌, length, refl, sym, ap, subst, ◌∙◌, is_some, arith}
use Rattle.std.proofs.lemmas.Bool.{ne_eqb}
use Rattle.fc_agenda.specs.Goes.{stays}
use Rattle.fc_base.specs.declared.command.Command.{Command}
use Rattle.fc_base.specs.declared.decision.Decision.{Decision}
use Rattle.fc_base.specs.declared.ids.VolId.{VolId}
use Rattle.fc_base.specs.declared.request.Request.TheVariants.{Command as Asked}
use Rattle.fc_base.specs.declared.size.GrainSize.{GrainSize}
use Rattle.fc_base.specs.declared.volume.Change.TheVariants.{RemoveVolume}
use Rattle.fc_base.specs.declared.volume.Change.{Change}
use Rattle.fc_books.specs.Deciding.{settle}
use Rattle.fc_changed.specs.Row.{Row}
use Rattle.fc_entry.specs.HistoryState.{HistoryState}
use Rattle.fc_entry.specs.declared.entry.Entry.{Entry}
use Rattle.fc_follow.specs.Following.{restarts}
use Rattle.fc_image.specs.declared.image.MetaImage.{MetaImage}
use Rattle.fc_kept.specs.Actions.{Action.Fold, actions_of_command, has_effect}
use Rattle.fc_kept.specs.Images.{kept_in}
use Rattle.fc_kept.specs.Kept.{Kept}
use Rattle.fc_lane.specs.Lane.{IsSameLane, LaneView}
use Rattle.fc_lanes.specs.AllLanes.{EachLane}
use Rattle.fc_legal.specs.Agenda.{Asks}
use Rattle.fc_legal.specs.Steps.{after_settling, decided_on, one_more}
use Rattle.fc_legal.specs.Whole.{Whole}
use Rattle.fc_marks.specs.Meter.{IsCutShort, Meter, with_fold}
use Rattle.fc_marks.specs.declared.error.NotedStop.{NotedStop}
use Rattle.fc_meta.specs.Answers.{more_calls}
use Rattle.fc_meta.specs.States.{room_of}
use Rattle.fc_noted.proofs.CallsMade.{calls_more, stops_into}
use Rattle.fc_noted.proofs.Commanding.{BecomesAnew}
use Rattle.fc_noted.proofs.Planned.{IsPlanned, becoming, entry_of, putting}
use Rattle.fc_noted.specs.Making.{CountsInto, IsImageAfter}
use Rattle.fc_noted.specs.Metered.{CommandActs, GoesInto.anew, IsPutAnew, MakesAnew}
use Rattle.fc_noted.specs.Noted.{IsNotedAt}
use Rattle.fc_noted.specs.declared.noted.Noted.{Noted}
use Rattle.fc_script.specs.Script.{agenda_of}
use Rattle.fc_stands.specs.Store.{StoreView}
use Rattle.fc_store.specs.Stepping.{no_lane}
use Rattle.law_commanded.proofs.Anew.{anew_is}
use Rattle.law_commanded.proofs.Removing.{IsRemoval, removal_is}
use Rattle.law_commanded.specs.Law.{CommandedLaw, HasCome, left_behind}
use Rattle.law_crash.specs.Leaving.{made_anew}
use Rattle.law_crash.specs.Points.{Point}
use Rattle.law_noted.specs.Records.{removed_by}

-- ---- a volume that goes changes the tables

has_changes : (d : Decision) (change : Change) → d.changes ≡ change ∷ [] → has_effect d ≡ true
has_changes d change e = ap (λ (cs : List Change). not (length d.effects + length cs == 0)) e ∙ ap not (ne_eqb (length d.effects + 1) 0 (λ z. omega arith))

either : (a b c : Bool) → (c ≡ true → b ≡ true) → ((a || b) || c) ≡ true → (a || b) ≡ true
either true b c f e = refl
either false true c f e = refl
either false false c f e = f e

-- ---- what is done to metadata

module _ (grain : GrainSize) (w : Whole) (command : Command) (decisions : ℕ) (s : StoreView) (settling decision : Decision) (plan : IsPlanned grain w command decisions s settling decision) (settles : settling ≡ settle w.books) where
  went : (o : Option VolId) → removed_by decision.events ≡ o → is_some o ≡ true → has_effect decision ≡ true
  went None e some = absurd cc
  went (Some gone) e some =
      let settled : Whole = after_settling grain w in
      let d : Decision = decided_on grain settled command plan.loop in
      let r : IsRemoval settled.books d gone =
      removal_is (restarts settled.rows) grain settled.books command plan.loop gone (sym (ap (λ (z : Decision). removed_by z.events) plan.is) ∙ e) in
      subst (λ (z : Decision). has_effect z ≡ true) (sym plan.is) (has_changes d (RemoveVolume r.volume.id) r.changes)

  by_effect : (b : Bool) → (has_effect settling || has_effect decision) ≡ b → CommandActs grain w command (if b then Fold ∷ [] else [])
  by_effect b e =
      let Are : Decision → Decision → Type 0 = λ (x y : Decision). actions_of_command x y ≡ (if b then Fold ∷ [] else []) in
      record {
        loop = plan.loop;
        is_loop = plan.commanded.told;
        are = subst (Are (settle w.books)) plan.is (subst (λ (x : Decision). Are x decision) settles (ap (λ (z : Bool). if z then Fold ∷ [] else []) e));
      }

  pub acts : ((has_effect settling || has_effect decision) || is_some (removed_by decision.events)) ≡ true → CommandActs grain w command (Fold ∷ [])
  acts e = by_effect true (either (has_effect settling) (has_effect decision) (is_some (removed_by decision.events)) (went (removed_by decision.events) refl) e)

  pub acts_not : (has_effect settling || has_effect decision) ≡ false → CommandActs grain w command []
  acts_not e = by_effect false e

-- by an image of what is told with its entry, where metadata said this before
pub makes_anew : (law : CommandedLaw) (grain : GrainSize) (entries : List Entry) (w : Whole) (least : List Row) (command : Command) (old : List LaneView) (p : Point) → HasCome grain entries w least old p → w.entries < 262144 →
    (decisions : ℕ) (s : StoreView) (settling decision : Decision) (plan : IsPlanned grain w command decisions s settling decision) → EachLane IsSameLane old s.lanes → settling ≡ settle w.books →
    ((has_effect settling || has_effect decision) || is_some (removed_by decision.events)) ≡ true → (image : MetaImage) → IsImageAfter s decision image →
    (before : MetaImage) → kept_in before ≡ p.kept →
    MakesAnew grain w before command (entry_of w command settling decision) (one_more (left_behind grain w command plan.loop)) image
makes_anew law grain entries w least command old p come few decisions s settling decision plan sames settles e image after before is =
    let next : Whole = one_more (left_behind grain w command plan.loop) in
    let b : BecomesAnew grain w least command plan.loop image = becoming law grain entries w least command old p come few decisions s settling decision plan sames image after in
    record {
      step = plan.commanded.step;
      every = refl;
      asked = refl;
      acts = acts grain w command decisions s settling decision plan settles e;
      says = anew_is grain entries w least command plan.loop (entry_of w command settling decision) old p come few plan.commanded no_lane (kept_in image) b.anew
          ∙ ap (λ (k : Kept). made_anew next next.rows k.lost) (sym is);
      put = subst (λ (k : Kept). IsPutAnew (after_settling grain w) k.lost image) (sym is)
          (putting law grain entries w least command old p come few decisions s settling decision plan sames image after);
    }

-- ---- by the count

-- it was cut short
pub counts_into : {C D : Type 0} (seen : D → List ℕ) (may_leave : D → List ℕ → Type 0) (calls : D → ℕ) (stop : NotedStop) (old new : Noted C D) (history : HistoryState) (w : Whole) (least : List Row) (at : IsNotedAt seen may_leave old history w least)
    (command : Command) (entry : Entry) (next : Whole) (image : MetaImage) → Asks old.store.control.grain (agenda_of old.store.control.grain old.script) w (0, Asked command) →
    MakesAnew old.store.control.grain w at.counts.meter.image command entry next image → new.calls ≡ more_calls 6 old.calls → IsCutShort seen calls stop old.meta new.meta (with_fold (room_of seen old.meta) image) →
    CountsInto seen calls stop old new history w
counts_into seen may_leave calls stop old new history w least at command entry next image asks makes counted short =
    let m : Meter = at.counts.meter in
    let into : Meter = with_fold (room_of seen old.meta) image m in
    record {
      request = Asked command;
      asking = old.script;
      reached = λ read. stays;
      asked = asks;
      meter = m;
      metered = at.counts.metered;
      fits = at.counts.is.fits;
      paid = let e = at.counts.calls in omega (arith, e);
      into = into;
      goes = anew command entry next image makes;
      stops = stops_into calls stop old new m into at.counts.calls (calls_more 6 m.calls old.calls new.calls at.counts.calls counted) (short m at.counts.is);
    }
