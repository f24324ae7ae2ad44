-- A command that is settled, decided and done by a noted store: what it needs and what it leaves, at each of its ends.
use Rattle.std.proofs.Common.{◌≡◌, ℕ, ◌+◌, ◌<◌, ◌≤◌, ◌||◌, true, List, [], ◌∷◌, ◌++◌, length, sym, ap, subst, ◌∙◌, inl, inr, arith, is_some}
use Rattle.fc_base.specs.declared.command.Command.{Command}
use Rattle.fc_base.specs.declared.decision.Decision.{Decision}
use Rattle.fc_base.specs.declared.request.Place.TheVariants.{Every}
use Rattle.fc_base.specs.declared.request.Request.TheVariants.{Command as Asked}
use Rattle.fc_base.specs.declared.size.GrainSize.{GrainSize}
use Rattle.fc_books.specs.Deciding.{settle}
use Rattle.fc_changed.specs.Row.{Row}
use Rattle.fc_entry.specs.HistoryState.{HistoryState}
use Rattle.fc_entry.specs.declared.entry.Entry.{Entry}
use Rattle.fc_format.specs.Ranges.{HasGoodIds}
use Rattle.fc_held.specs.Held.{HaveVolumes}
use Rattle.fc_image.specs.declared.image.MetaImage.{MetaImage}
use Rattle.fc_kept.specs.Actions.{has_effect}
use Rattle.fc_lane.specs.Lane.{IsSameLane}
use Rattle.fc_lanes.specs.AllLanes.{EachLane}
use Rattle.fc_legal.specs.Agenda.{Asks}
use Rattle.fc_legal.specs.Steps.{Step, after_settling, one_more}
use Rattle.fc_legal.specs.Whole.{Whole}
use Rattle.fc_marks.specs.declared.error.NotedStop.{NotedStop}
use Rattle.fc_meta.specs.States.{room_of}
use Rattle.fc_metadisk.specs.Disk.{LeavesOnly}
use Rattle.fc_script.specs.Script.{agenda_of}
use Rattle.fc_stands.specs.Apart.{entry_apart}
use Rattle.fc_stands.specs.Phase.{IsDecided, StandsAt}
use Rattle.fc_stands.specs.Settling.{AreFew, CanDecide, IsDecisionOn}
use Rattle.fc_stands.specs.Store.{StandsFor, StoreView}
use Rattle.fc_stands.proofs.CommandRuns.{HasRoom, can_decide}
use Rattle.fc_stands.proofs.Frames.{all_go_on}
use Rattle.fc_stands.proofs.PhaseStands.{stands_at}
use Rattle.law_noted.specs.Records.{removed_by}
use Rattle.law_commanded.specs.Law.{AreLanesIn, CommandedLaw, HasCome, left_behind}
use Rattle.fc_noted.proofs.CommandCosts.{counts_into, makes_anew}
use Rattle.fc_noted.proofs.CommandLanes.{have_volumes}
use Rattle.fc_noted.proofs.CommandLeads.{Behind, leads_on, stands_behind, stops_behind}
use Rattle.fc_noted.proofs.CommandStops.{anew_leaves, anew_stops, stayed_leaves, stayed_stops}
use Rattle.fc_noted.proofs.Planned.{IsPlanned, becoming, entry_of, in_acted, in_acted_still, in_settled, in_stayed, in_unsettled, planned, same_lanes, stands_left}
use Rattle.fc_noted.proofs.Standing.{has_come, meter_says}
use Rattle.fc_noted.specs.Making.{AnewOr, CountsInto, HasActed, HasStayed, IsHeldAt, IsImageAfter, LeavesAnew, MayHaveActed, TriesAnew}
use Rattle.fc_noted.specs.Noted.{IsNotedAt}
use Rattle.fc_noted.specs.Stopping.{HasStopped, HoldStill, LeavesRecoverable}
use Rattle.fc_noted.specs.declared.noted.Noted.{Noted}

-- The store was settled by this decision.
abbrev pub Settles : StoreView → Decision → StoreView → Type 0
Settles old settling new =
    (decisions : ℕ) (w : Whole) → AreFew decisions w → StandsAt decisions old w → (settling ≡ settle w.books) × StandsAt (decisions + 1) new (after_settling old.control.grain w)

pub decides_then : (old new : StoreView) (settling : Decision) → HasRoom old → new.control.grain ≡ old.control.grain → Settles old settling new → CanDecide new
decides_then old new settling room same settles =
    can_decide old new settling.effects room same (λ decisions w few at. let x = settles decisions w few at in (ap (λ (d : Decision). d.effects) x.0, x.1))

-- Behind an error, too, each lane stays the lane that it is.
pub lanes_undone : (decision : Decision) (old new : StoreView) → MayHaveActed decision old new → EachLane IsSameLane old.lanes new.lanes
lanes_undone decision old new (inl stay) = stay.lanes
lanes_undone decision old new (inr acted) = acted.0.lanes

module _ {C D : Type 0} (seen : D → List ℕ) (may_leave : D → List ℕ → Type 0) (law : CommandedLaw) (old mid : Noted C D) (command : Command)
    (asks : (w : Whole) → StandsFor old.store w → Asks old.store.control.grain (agenda_of old.store.control.grain old.script) w (0, Asked command))
    (same : mid.store.control.grain ≡ old.store.control.grain) (sames : EachLane IsSameLane old.store.lanes mid.store.lanes) (others : mid ≡ record old { store = mid.store })
    (history : HistoryState) (w : Whole) (least : List Row) (room : length history.entries < 262144) (at : IsNotedAt seen may_leave old history w least) where
  pub few_told : w.entries < 262144
  few_told = subst (λ (n : ℕ). n < 262144) (sym at.told.1.entries) room

  come : HasCome old.store.control.grain history.entries w least old.store.lanes at.point
  come = has_come seen may_leave old history w least at

  abbrev decisions : ℕ
  decisions = at.told.0.decisions

  stood : StandsAt at.told.0.decisions old.store w
  stood = stands_at old.store w at.told.0

  few_then : AreFew at.told.0.decisions w
  few_then = (at.told.0.few, (let few = few_told in omega (arith, few)))

  meta_is : mid.meta ≡ old.meta
  meta_is = ap (λ (n : Noted C D). n.meta) others

  -- ---- before a decision

  module _ (for : Whole) (n : ℕ) (stands : StandsAt n mid.store for) (inside : AreLanesIn old.store.control.grain w least command old.store.lanes mid.store.lanes) where
    volumes_then : HaveVolumes mid.disks mid.store
    volumes_then = subst (λ (d : ℕ). HaveVolumes d mid.store) (sym (ap (λ (x : Noted C D). x.disks) others)) (have_volumes old.disks n old.store mid.store for at.keeps.volumes sames stands)

    stops_then : HasStopped may_leave old mid w least
    stops_then = stayed_stops seen may_leave law old command history w least at few_told (asks w at.told.0) mid meta_is (ap (λ (x : Noted C D). x.named) others) volumes_then inside

    leaves_then : (moment : D → ℕ) (left_since : D → ℕ → List ℕ → Type 0) (only_now : (disk : D) (c : List ℕ) → left_since disk (moment disk) c → may_leave disk c) →
        LeavesOnly moment left_since old.meta.disk mid.meta.disk (LeavesRecoverable old mid w least)
    leaves_then moment left_since only_now = stayed_leaves seen may_leave law old command history w least at few_told (asks w at.told.0) moment left_since only_now mid meta_is inside

  -- it isn't settled
  module _ (starved : (n : ℕ) (v : Whole) → StandsAt n old.store v → StandsAt n mid.store v) where
    in_starved : AreLanesIn old.store.control.grain w least command old.store.lanes mid.store.lanes
    in_starved = in_unsettled law old.store.control.grain history.entries w least command old.store.lanes at.point come few_told decisions mid.store same (starved decisions w stood) sames

    pub unsettled_stops : HasStopped may_leave old mid w least
    unsettled_stops = stops_then w decisions (starved decisions w stood) in_starved

    pub unsettled_leaves : (moment : D → ℕ) (left_since : D → ℕ → List ℕ → Type 0) (only_now : (disk : D) (c : List ℕ) → left_since disk (moment disk) c → may_leave disk c) →
        LeavesOnly moment left_since old.meta.disk mid.meta.disk (LeavesRecoverable old mid w least)
    unsettled_leaves = leaves_then w decisions (starved decisions w stood) in_starved

  -- it is settled
  module _ (settling : Decision) (settles : Settles old.store settling mid.store) where
    settled_at : StandsAt (at.told.0.decisions + 1) mid.store (after_settling old.store.control.grain w)
    settled_at = (settles decisions w few_then stood).1

    in_then : AreLanesIn old.store.control.grain w least command old.store.lanes mid.store.lanes
    in_then = in_settled law old.store.control.grain history.entries w least command old.store.lanes at.point come few_told (decisions + 1) mid.store same settled_at sames

    pub settled_stops : HasStopped may_leave old mid w least
    settled_stops = stops_then (after_settling old.store.control.grain w) (decisions + 1) settled_at in_then

    pub settled_leaves : (moment : D → ℕ) (left_since : D → ℕ → List ℕ → Type 0) (only_now : (disk : D) (c : List ℕ) → left_since disk (moment disk) c → may_leave disk c) →
        LeavesOnly moment left_since old.meta.disk mid.meta.disk (LeavesRecoverable old mid w least)
    settled_leaves = leaves_then (after_settling old.store.control.grain w) (decisions + 1) settled_at in_then

    -- ---- and decided

    module _ (is_decided : IsDecided command) (decision : Decision) (plans : IsDecisionOn mid.store command decision) where
      plan : IsPlanned old.store.control.grain w command at.told.0.decisions mid.store settling decision
      plan =
          planned old.store.control.grain w command decisions mid.store settling decision is_decided at.told.0.few few_then.1 at.told.0.stands same settled_at (settles decisions w few_then stood).0 plans

      pub good_anew : (image : MetaImage) → IsImageAfter mid.store decision image → HasGoodIds image
      good_anew image x =
          (becoming law old.store.control.grain history.entries w least command old.store.lanes at.point come few_told decisions mid.store settling decision plan sames image x).good

      module _ (new : Noted C D) (others_new : new ≡ record mid { store = new.store; meta = new.meta; named = new.named; marks = new.marks; calls = new.calls }) where
        disks_are : new.disks ≡ old.disks
        disks_are = ap (λ (x : Noted C D). x.disks) others_new ∙ ap (λ (x : Noted C D). x.disks) others

        idle_is : new.under_way ≡ old.under_way
        idle_is = ap (λ (x : Noted C D). x.under_way) others_new ∙ ap (λ (x : Noted C D). x.under_way) others

        named_is : new.named ≡ mid.named → new.named ≡ old.named
        named_is e = e ∙ ap (λ (x : Noted C D). x.named) others

        volumes_by : (for : Whole) (n : ℕ) → StandsAt n new.store for → EachLane IsSameLane old.store.lanes new.store.lanes → HaveVolumes new.disks new.store
        volumes_by for n stands lanes =
            subst (λ (d : ℕ). HaveVolumes d new.store) (sym disks_are) (have_volumes old.disks n old.store new.store for at.keeps.volumes lanes stands)

        in_stay : HasStayed mid.store new.store → AreLanesIn old.store.control.grain w least command old.store.lanes new.store.lanes
        in_stay stay = in_stayed law old.store.control.grain history.entries w least command old.store.lanes at.point come few_told decisions mid.store settling decision plan sames new.store stay

        volumes_stay : HasStayed mid.store new.store → HaveVolumes new.disks new.store
        volumes_stay stay =
            volumes_by (after_settling old.store.control.grain w) (decisions + 1) (stay.stands (decisions + 1) (after_settling old.store.control.grain w) settled_at) (all_go_on old.store.lanes mid.store.lanes new.store.lanes sames stay.lanes)

        volumes_done : HasActed decision mid.store new.store → HaveVolumes new.disks new.store
        volumes_done done =
            volumes_by (left_behind old.store.control.grain w command plan.loop) (decisions + 1 + 1)
            (stands_left law old.store.control.grain history.entries w least command old.store.lanes at.point come few_told decisions mid.store settling decision plan sames new.store done)
            (same_lanes law old.store.control.grain history.entries w least command old.store.lanes at.point come few_told decisions mid.store settling decision plan sames new.store done)

        -- metadata was being made anew, and that was cut short
        pub tried_into : (calls : D → ℕ) (stop : NotedStop) → ((has_effect settling || has_effect decision) || is_some (removed_by decision.events)) ≡ true → TriesAnew seen may_leave calls decision stop mid new →
            CountsInto seen calls stop old new history w
        tried_into calls stop e tries =
            let g : GrainSize = old.store.control.grain in
            let x : Noted C D = record old { store = mid.store } in
            let t : TriesAnew seen may_leave calls decision stop x new = subst (λ (z : Noted C D). TriesAnew seen may_leave calls decision stop z new) others tries in
            counts_into seen may_leave calls stop old new history w least at command (entry_of w command settling decision) (one_more (left_behind g w command plan.loop)) t.image (asks w at.told.0)
            (makes_anew law g history.entries w least command old.store.lanes at.point come few_told decisions mid.store settling decision plan sames (settles decisions w few_then stood).0 e t.image t.after
            at.counts.meter.image (meter_says seen may_leave old history w least at)) t.counted t.short

        -- ---- at each moment

        module _ (moment : D → ℕ) (left_since : D → ℕ → List ℕ → Type 0) (run : LeavesOnly moment left_since mid.meta.disk new.meta.disk (LeavesAnew seen may_leave decision mid)) where
          run_old : let x : Noted C D = record old { store = mid.store } in LeavesOnly moment left_since old.meta.disk new.meta.disk (LeavesAnew seen may_leave decision x)
          run_old = subst (λ (x : Noted C D). LeavesOnly moment left_since x.meta.disk new.meta.disk (LeavesAnew seen may_leave decision x)) others run

          leaves_by : (HoldStill old.store.lanes new.store.lanes → AreLanesIn old.store.control.grain w least command old.store.lanes new.store.lanes) →
              LeavesOnly moment left_since old.meta.disk new.meta.disk (LeavesRecoverable old new w least)
          leaves_by inside =
              anew_leaves seen may_leave law old command history w least at few_told (asks w at.told.0) mid.store decision plan.loop (entry_of w command settling decision) plan.commanded
              (becoming law old.store.control.grain history.entries w least command old.store.lanes at.point come few_told decisions mid.store settling decision plan sames) moment left_since new run_old inside

          stops_by : (counts_now : (disk : D) (t : ℕ) (c : List ℕ) → t ≤ moment disk → may_leave disk c → left_since disk t c) → new.named ≡ mid.named → HaveVolumes new.disks new.store →
              AreLanesIn old.store.control.grain w least command old.store.lanes new.store.lanes → HasStopped may_leave old new w least
          stops_by counts_now named volumes inside =
              anew_stops seen may_leave law old command history w least at few_told (asks w at.told.0) mid.store decision plan.loop (entry_of w command settling decision) plan.commanded
              (becoming law old.store.control.grain history.entries w least command old.store.lanes at.point come few_told decisions mid.store settling decision plan sames) moment left_since new run_old counts_now (named_is named) volumes inside

          -- it isn't done, or no volume went by it
          module _ (may : MayHaveActed decision mid.store new.store) where
            in_undone : AreLanesIn old.store.control.grain w least command old.store.lanes new.store.lanes
            in_undone = elim may [
              | inl stay ↦ in_stay stay
              | inr acted ↦ in_acted law old.store.control.grain history.entries w least command old.store.lanes at.point come few_told decisions mid.store settling decision plan sames new.store acted.0 acted.1
            ]

            volumes_undone : HaveVolumes new.disks new.store
            volumes_undone = elim may [
              | inl stay ↦ volumes_stay stay
              | inr acted ↦ volumes_done acted.0
            ]

            pub undone_leaves : LeavesOnly moment left_since old.meta.disk new.meta.disk (LeavesRecoverable old new w least)
            undone_leaves = leaves_by (λ still. in_undone)

            pub undone_stops : (counts_now : (disk : D) (t : ℕ) (c : List ℕ) → t ≤ moment disk → may_leave disk c → left_since disk t c) → new.named ≡ mid.named → HasStopped may_leave old new w least
            undone_stops counts_now named = stops_by counts_now named volumes_undone in_undone

          -- it is done
          pub done_leaves : HasActed decision mid.store new.store → LeavesOnly moment left_since old.meta.disk new.meta.disk (LeavesRecoverable old new w least)
          done_leaves done =
              leaves_by (in_acted_still law old.store.control.grain history.entries w least command old.store.lanes at.point come few_told decisions mid.store settling decision plan sames new.store done)

        -- ---- behind it

        module _ (done : HasActed decision mid.store new.store) (room_is : room_of seen new.meta ≡ room_of seen mid.meta)
            (anew : AnewOr seen may_leave ((has_effect settling || has_effect decision) || is_some (removed_by decision.events)) decision mid new) where
          behind : Behind seen may_leave law old command history w least at few_told decisions mid.store settling decision plan sames new done
          behind =
              stands_behind seen may_leave law old command history w least at few_told decisions mid.store settling decision plan sames new done (settles decisions w few_then stood).0
              (room_is ∙ ap (room_of seen) meta_is)
              (subst (λ (x : Noted C D). AnewOr seen may_leave ((has_effect settling || has_effect decision) || is_some (removed_by decision.events)) decision x new) others anew)

          pub done_stops : HasStopped may_leave old new w least
          done_stops =
              stops_behind seen may_leave law old command history w least at few_told decisions mid.store settling decision plan sames new done behind (asks w at.told.0) (volumes_done done)

          pub done_leads : (result : Entry) → result ≡ entry_apart 0 0 Every (Asked command) decision.reply (settling.effects ++ decision.effects) →
              (next : Whole) × (least_next : List Row) × Step old.store.control.grain w (record result { number = w.entries }) next
              × IsHeldAt seen may_leave new (record history { entries = history.entries ++ (record result { number = w.entries }) ∷ [] }) next least_next
          done_leads result e =
              leads_on seen may_leave law old command history w least at few_told decisions mid.store settling decision plan sames new done behind result
              (ap (λ (z : Entry). record z { number = w.entries }) e) (volumes_done done) idle_is
