-- A command that is done: its entry leads on, and before it is logged a stop finds it as one that is asked.
use Rattle.std.proofs.Common.{◌≡◌, ℕ, ◌+◌, ◌<◌, ◌||◌, Bool, true, false, if◌then◌else◌, Some, None, List, [], ◌∷◌, ◌++◌, length, refl, sym, ap, subst, ◌∙◌, arith, inr, inl, is_some}
use Rattle.std.proofs.lemmas.List.{length-append}
use Rattle.fc_agenda.specs.Goes.{stays}
use Rattle.fc_base.specs.declared.command.Command.{Command}
use Rattle.fc_base.specs.declared.decision.Decision.{Decision}
use Rattle.fc_base.specs.declared.request.Request.TheVariants.{Command as Asked}
use Rattle.fc_base.specs.declared.size.GrainSize.{GrainSize}
use Rattle.fc_books.specs.Deciding.{settle}
use Rattle.fc_changed.specs.Row.{Row}
use Rattle.fc_entry.specs.HistoryState.{HistoryState}
use Rattle.fc_entry.specs.declared.entry.Entry.{Entry}
use Rattle.fc_format.specs.Halves.{Image, recovered}
use Rattle.fc_format.specs.Ranges.{HasGoodIds}
use Rattle.fc_held.proofs.Holding.{all_agree}
use Rattle.fc_held.specs.Held.{HaveVolumes, MatchAll}
use Rattle.fc_image.specs.declared.image.MetaImage.{MetaImage}
use Rattle.fc_kept.specs.Actions.{Action.Fold, actions_of_command, has_effect}
use Rattle.fc_kept.specs.Images.{kept_in}
use Rattle.fc_kept.specs.Kept.{Kept}
use Rattle.fc_kept.specs.Marks.{LeastLeft.decided, LeastStep}
use Rattle.fc_kept.specs.Recoverable.{Recoverable}
use Rattle.fc_kept.specs.Sound.{IsSoundImage}
use Rattle.fc_lane.specs.Lane.{IsSameLane, LaneView}
use Rattle.fc_lanes.specs.AllLanes.{EachLane}
use Rattle.fc_legal.specs.Agenda.{Asks}
use Rattle.fc_legal.specs.Steps.{Step, one_more}
use Rattle.fc_legal.specs.Whole.{Whole}
use Rattle.fc_marks.specs.Marks.{marked}
use Rattle.fc_marks.specs.Meter.{IsMetered, Meter, with_fold}
use Rattle.fc_marks.specs.declared.marks.Mark.{Mark}
use Rattle.fc_meta.specs.Answers.{more_calls}
use Rattle.fc_meta.specs.States.{IsResting, found, room_of}
use Rattle.fc_meta.specs.declared.meta.Meta.{Meta}
use Rattle.fc_script.specs.Script.{agenda_of}
use Rattle.fc_stands.specs.Store.{StoreView}
use Rattle.fc_store.specs.Stepping.{no_lane}
use Rattle.law_agreeing.proofs.Recovering.{recovers_agreeing}
use Rattle.law_crash.proofs.Whole.{crash_law_holds}
use Rattle.law_crash.specs.Points.{Point}
use Rattle.law_noted.specs.Records.{removed_by}
use Rattle.law_noted.specs.Runs.{HasRun}
use Rattle.law_commanded.proofs.Leaving.{from_run}
use Rattle.law_commanded.specs.Law.{CommandedLaw, HasCome, decision_on, least_behind, left_behind}
use Rattle.fc_noted.proofs.Commanding.{BecomesAnew, same_disks, stands_for}
use Rattle.fc_noted.proofs.CallsMade.{calls_more}
use Rattle.fc_noted.proofs.CommandCosts.{acts_not, makes_anew}
use Rattle.fc_noted.proofs.Counting.{counted_as}
use Rattle.fc_noted.proofs.Planned.{IsPlanned, becoming, entry_of, have_left, same_lanes, stands_left}
use Rattle.fc_noted.proofs.Safe.{as_it_was}
use Rattle.fc_noted.proofs.Standing.{has_come, meter_says}
use Rattle.fc_noted.specs.Making.{AnewOr, HasActed, IsHeldAt}
use Rattle.fc_noted.specs.Metered.{CommandActs, Metered, Metered.anew, Metered.unchanged}
use Rattle.fc_noted.specs.Noted.{IsNotedAt}
use Rattle.fc_noted.specs.Stopping.{HasStopped, MayBeRecovered, MoreFailed}
use Rattle.fc_noted.specs.declared.noted.Noted.{Noted}

-- Metadata behind a command: it stands for what the history leads to with the entry, and so do the disks.
pub record IsBehind {D : Type 0} (seen : D → List ℕ) (may_leave : D → List ℕ → Type 0) (grain : GrainSize) (entries : List Entry) (next : Whole) (least_next : List Row) (lanes : List LaneView) (meta : Meta D) (named : ℕ) (marks : List Mark) (calls : ℕ)
    : Type 0 where
  pub point : Point
  pub come : HasCome grain entries next least_next lanes point
  pub rests : IsResting seen may_leave meta
  pub image : MetaImage
  pub says : found seen meta ≡ Image image
  pub sound : IsSoundImage image
  pub good : HasGoodIds image
  pub kept : kept_in image ≡ point.kept
  pub rows : point.kept.rows ≡ marked marks next.rows
  pub is_named : named ≡ next.books.next_volume
  pub meter : Meter
  pub metered : Metered grain (room_of seen meta) entries next meter
  pub measures : IsMetered seen meta meter
  pub counted : calls ≡ more_calls meter.calls 0

neither : (a b c : Bool) → ((a || b) || c) ≡ false → (a || b) ≡ false
neither true b c e = e
neither false true c e = e
neither false false c e = refl

module _ {C D : Type 0} (seen : D → List ℕ) (may_leave : D → List ℕ → Type 0) (law : CommandedLaw) (old : Noted C D) (command : Command) (history : HistoryState) (w : Whole) (least : List Row)
    (at : IsNotedAt seen may_leave old history w least) (few : w.entries < 262144) (decisions : ℕ) (s : StoreView) (settling decision : Decision)
    (plan : IsPlanned old.store.control.grain w command decisions s settling decision) (sames : EachLane IsSameLane old.store.lanes s.lanes) (new : Noted C D) (done : HasActed decision s new.store) where
  abbrev g : GrainSize
  g = old.store.control.grain

  abbrev p : Point
  p = at.point

  abbrev pub left : Whole
  left = left_behind old.store.control.grain w command plan.loop

  abbrev pub least_left : List Row
  least_left = least_behind old.store.control.grain w least command plan.loop

  abbrev pub entry : Entry
  entry = entry_of w command settling decision

  come : HasCome old.store.control.grain history.entries w least old.store.lanes at.point
  come = has_come seen may_leave old history w least at

  abbrev pub Behind : Type 0
  Behind = IsBehind seen may_leave old.store.control.grain (history.entries ++ entry_of w command settling decision ∷ []) (one_more (left_behind old.store.control.grain w command plan.loop))
      (least_behind old.store.control.grain w least command plan.loop) new.store.lanes new.meta new.named new.marks.items new.calls

  lanes_same : EachLane IsSameLane old.store.lanes new.store.lanes
  lanes_same = same_lanes law g history.entries w least command old.store.lanes p come few decisions s settling decision plan sames new.store done

  -- ---- metadata

  abbrev mid : Noted C D
  mid = record old { store = s }

  made_anew : settling ≡ settle w.books → ((has_effect settling || has_effect decision) || is_some (removed_by decision.events)) ≡ true → room_of seen new.meta ≡ room_of seen old.meta → AnewOr seen may_leave true decision mid new → Behind
  made_anew settles e room x =
      let half : ℕ = room_of seen old.meta in
      let b : BecomesAnew g w least command plan.loop x.image = becoming law g history.entries w least command old.store.lanes p come few decisions s settling decision plan sames x.image x.after in
      let q = law.anew g history.entries w least command plan.loop entry old.store.lanes new.store.lanes p (kept_in x.image) come few plan.commanded b.anew
      (have_left law g history.entries w least command old.store.lanes p come few decisions s settling decision plan sames new.store done) (same_disks old.store.lanes new.store.lanes lanes_same) in
      record {
        point = q.0;
        come = q.2;
        rests = x.rests;
        image = x.image;
        says = x.found_is;
        sound = b.sound;
        good = b.good;
        kept = sym q.1;
        rows = ap (λ (k : Kept). k.rows) (q.1 ∙ b.anew.kept_is) ∙ ap (λ (ms : List Mark). marked ms left.rows) (sym x.unmarked);
        is_named = x.named ∙ ap (λ (k : Kept). k.next_volume) b.anew.kept_is;
        meter = with_fold half x.image at.counts.meter;
        metered = subst (λ (n : ℕ). Metered g n (history.entries ++ entry ∷ []) (one_more left) (with_fold half x.image at.counts.meter)) (sym room)
            (anew history.entries w at.counts.meter entry (one_more left) command x.image at.counts.metered
            (makes_anew law g history.entries w least command old.store.lanes p come few decisions s settling decision plan sames settles e x.image x.after
            at.counts.meter.image (meter_says seen may_leave old history w least at)));
        measures = x.metered at.counts.meter at.counts.is;
        counted = calls_more 6 at.counts.meter.calls old.calls new.calls at.counts.calls x.calls;
      }

  stayed : CommandActs old.store.control.grain w command [] → actions_of_command (settle w.books) (decision_on old.store.control.grain w command plan.loop) ≡ [] → AnewOr seen may_leave false decision mid new → Behind
  stayed acts none x =
      let u = law.unchanged g history.entries w least command plan.loop entry old.store.lanes new.store.lanes p come few plan.commanded none
      (have_left law g history.entries w least command old.store.lanes p come few decisions s settling decision plan sames new.store done) (same_disks old.store.lanes new.store.lanes lanes_same) in
      record {
        point = p;
        come = u.2;
        rests = subst (IsResting seen may_leave) (sym x.0) at.keeps.rests;
        image = at.keeps.image;
        says = ap (found seen) x.0 ∙ at.keeps.says;
        sound = at.keeps.sound;
        good = at.keeps.good;
        kept = at.keeps.kept;
        rows = at.keeps.rows ∙ (λ i. marked (sym x.2 i) (sym u.0 i));
        is_named = x.1 ∙ (at.keeps.named ∙ sym u.1);
        meter = at.counts.meter;
        metered = subst (λ m. Metered g (room_of seen m) (history.entries ++ entry ∷ []) (one_more left) at.counts.meter) (sym x.0)
            (unchanged history.entries w at.counts.meter entry (one_more left) command at.counts.metered plan.commanded.step refl refl acts);
        measures = subst (λ m. IsMetered seen m at.counts.meter) (sym x.0) at.counts.is;
        counted = x.3 ∙ at.counts.calls;
      }

  no_action : settling ≡ settle w.books → (has_effect settling || has_effect decision) ≡ false → actions_of_command (settle w.books) (decision_on old.store.control.grain w command plan.loop) ≡ []
  no_action settles e =
      subst (λ (d : Decision). actions_of_command (settle w.books) d ≡ []) plan.is
      (subst (λ (d : Decision). actions_of_command d decision ≡ []) settles (ap (λ (b : Bool). if b then Fold ∷ [] else []) e))

  by_action : settling ≡ settle w.books → room_of seen new.meta ≡ room_of seen old.meta → (b : Bool) → ((has_effect settling || has_effect decision) || is_some (removed_by decision.events)) ≡ b → AnewOr seen may_leave b decision mid new → Behind
  by_action settles room true e x = made_anew settles e room x
  by_action settles room false e x =
      let none : (has_effect settling || has_effect decision) ≡ false = neither (has_effect settling) (has_effect decision) (is_some (removed_by decision.events)) e in
      stayed (acts_not g w command decisions s settling decision plan settles none) (no_action settles none) x

  pub stands_behind : settling ≡ settle w.books → room_of seen new.meta ≡ room_of seen old.meta → AnewOr seen may_leave ((has_effect settling || has_effect decision) || is_some (removed_by decision.events)) decision (record old { store = s }) new →
      Behind
  stands_behind settles room x = by_action settles room ((has_effect settling || has_effect decision) || is_some (removed_by decision.events)) refl x

  module _ (b : Behind) where
    -- ---- the entry leads on

    longer : w.entries + 1 ≡ length (history.entries ++ entry_of w command settling decision ∷ [])
    longer = omega (arith, at.told.1.entries, length-append history.entries (entry ∷ []))

    grain_is : new.store.control.grain ≡ old.store.control.grain
    grain_is = done.grain ∙ plan.same

    pub held_behind : HaveVolumes new.disks new.store → new.under_way ≡ old.under_way →
        IsHeldAt seen may_leave new (record history { entries = history.entries ++ entry_of w command settling decision ∷ [] }) (one_more (left_behind old.store.control.grain w command plan.loop))
        (least_behind old.store.control.grain w least command plan.loop)
    held_behind volumes same =
        record {
          idle = same ∙ at.idle;
          told = (
            stands_for (decisions + 1 + 1) new.store left (let less = plan.less in omega (arith, less)) (stands_left law g history.entries w least command old.store.lanes p come few decisions s settling decision plan sames new.store done),
            record { actors = at.told.1.actors; entries = longer },
          );
          point = b.point;
          run = subst (λ (z : GrainSize). HasRun z (history.entries ++ entry ∷ []) (one_more left) least_left b.point) (sym grain_is) b.come.run;
          keeps = record {
            rests = b.rests;
            image = b.image;
            says = b.says;
            sound = b.sound;
            good = b.good;
            kept = b.kept;
            rows = b.rows;
            named = b.is_named;
            volumes = volumes;
            matches = subst (λ (z : GrainSize). MatchAll z new.named b.point.kept new.store.lanes b.point.disks) (sym grain_is)
                (subst (λ (z : ℕ). MatchAll g z b.point.kept new.store.lanes b.point.disks) (sym b.is_named) b.come.matches);
          };
          counts = record {
            meter = b.meter;
            metered = subst (λ (z : GrainSize). Metered z (room_of seen new.meta) (history.entries ++ entry ∷ []) (one_more left) b.meter) (sym grain_is) b.metered;
            is = b.measures;
            calls = b.counted;
          };
        }

    pub leads_on : (result : Entry) → record result { number = w.entries } ≡ entry_of w command settling decision → HaveVolumes new.disks new.store → new.under_way ≡ old.under_way →
        (next : Whole) × (least_next : List Row) × Step old.store.control.grain w (record result { number = w.entries }) next
        × IsHeldAt seen may_leave new (record history { entries = history.entries ++ (record result { number = w.entries }) ∷ [] }) next least_next
    leads_on result e volumes same = (
      one_more left,
      least_left,
      subst (λ (z : Entry). Step g w z (one_more left)) (sym e) plan.commanded.step,
      subst (λ (z : Entry). IsHeldAt seen may_leave new (record history { entries = history.entries ++ z ∷ [] }) (one_more left) least_left) (sym e) (held_behind volumes same),
    )

    -- ---- a stop before it is logged

    found_behind : (asks : Asks old.store.control.grain (agenda_of old.store.control.grain old.script) w (0, Asked command)) → MayBeRecovered old.store.control.grain old.script new.named new.store.lanes w least b.image
    found_behind asks =
        let before = (from_run g history.entries w least p come.run (omega (arith, few))).stands in
        let after = (from_run g (history.entries ++ entry ∷ []) (one_more left) least_left b.point b.come.run (omega (arith, few))).stands in
        let marks : LeastStep g w least (Asked command) entry (one_more left) least_left = (left, decided plan.loop plan.commanded.told, refl) in
        let there : Recoverable g b.point.disks b.point.kept w least (Some (Asked command)) None =
        crash_law_holds.turned g w (one_more left) least least_left entry p b.point b.point None plan.commanded.step marks before after (inr (refl, refl, inl refl)) in
        let matches : MatchAll g new.named b.point.kept new.store.lanes b.point.disks = subst (λ (z : ℕ). MatchAll g z b.point.kept new.store.lanes b.point.disks) (sym b.is_named) b.come.matches in
        record {
          request = Some (Asked command);
          asking = old.script;
          reached = λ read. stays;
          asked = asks;
          sound = b.sound;
          found = λ back hold.
              as_it_was g back (kept_in b.image) w least (Some (Asked command)) (MoreFailed w new.store.lanes)
              (subst (λ (k : Kept). Recoverable g back k w least (Some (Asked command)) None) (sym b.kept)
              (recovers_agreeing g b.point.disks back b.point.kept w least (Some (Asked command)) None (all_agree g new.named b.point.kept new.store.lanes b.point.disks back no_lane matches hold) there));
        }

    pub stops_behind : Asks old.store.control.grain (agenda_of old.store.control.grain old.script) w (0, Asked command) → HaveVolumes new.disks new.store → HasStopped may_leave old new w least
    stops_behind asks volumes =
        let there = b.come.lanes_are in
        record {
          volumes = volumes;
          counted = counted_as g (one_more left) w new.store.lanes refl refl there.each there.count at.told.0.stands.each_lane.calls at.told.0.calls (omega (arith, few));
          leaves = λ c may. (b.image, ap recovered (b.rests.durable c may) ∙ b.says, found_behind asks);
        }
