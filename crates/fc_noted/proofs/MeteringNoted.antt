-- How the count of a noted store goes on, while an entry is under way.
use Rattle.std.proofs.Common.{◌≡◌, ℕ, ◌+◌, ◌≤◌, Option, None, List, [], ◌∷◌, ◌++◌, refl, sym, ap, subst, ◌∙◌, arith}
use Rattle.std.specs.Prelude.{Err, IfErr, IsErrOf, Ok, OnOk, Result}
use Rattle.fc_agenda.specs.Goes.{stays}
use Rattle.fc_base.specs.Count.{HasRisen}
use Rattle.fc_base.specs.declared.request.Request.{Request}
use Rattle.fc_base.specs.declared.size.GrainSize.{GrainSize}
use Rattle.fc_changed.specs.Row.{Row}
use Rattle.fc_entry.specs.HistoryState.{HistoryState}
use Rattle.fc_entry.specs.declared.entry.Entry.{Entry}
use Rattle.fc_image.specs.declared.record.MetaRecord.{MetaRecord}
use Rattle.fc_kept.specs.Actions.{Action, Action.Note}
use Rattle.fc_legal.specs.Whole.{Whole}
use Rattle.fc_marks.specs.Meter.{IsCutShort, IsMetered, IsPut, Meter, with_record}
use Rattle.fc_marks.specs.declared.error.NotedStop.{NotedStop}
use Rattle.fc_marks.specs.declared.error.NotedStop.TheVariants.{MetaFailed, MetaFull, NoMemory as WantsMemory}
use Rattle.fc_meta.proofs.Crash.{rests_found}
use Rattle.fc_meta.specs.Answers.{more_calls}
use Rattle.fc_meta.specs.States.{IsResting, disk_of, generation_of, room_of, used_of}
use Rattle.fc_meta.specs.declared.meta.Meta.{Meta}
use Rattle.fc_noted.proofs.Calls.{more_grow}
use Rattle.fc_noted.proofs.CallsMade.{memory_wanted, on_ok, stops_into}
use Rattle.fc_noted.proofs.Metering.{calls_grow, full_before, goes_into, one_done}
use Rattle.fc_noted.proofs.Stepping.{doing_asked}
use Rattle.fc_noted.specs.Making.{CountsInto, KeepsCount}
use Rattle.fc_noted.specs.Metered.{Acted, GoesInto, Metered, SoFar, after_actions}
use Rattle.fc_noted.specs.Noted.{CountsSoFar, IsDoing}
use Rattle.fc_noted.specs.Stopping.{StopsInto}
use Rattle.fc_noted.specs.declared.noted.Noted.{Noted}
use Rattle.fc_noted.specs.declared.noted.UnderWay.{UnderWay}
use Rattle.fc_rules.specs.Steps.{DiskStep}
use Rattle.fc_stands.specs.Store.{StoreView}
use Rattle.fc_steps.specs.Asking.{request_of}
use Rattle.fc_steps.specs.declared.stop.Stop.{Stop}
use Rattle.law_noted.specs.Came.{steps_done}

-- ---- as many calls as are counted

which : {T : Type 0} (stop told : NotedStop) → IsErrOf {T = T} (Err stop) told → stop ≡ told
which stop told e = cc

-- where memory alone was wanted, the disk hasn't failed
pub memory_alone : {T : Type 0} (result : Result T NotedStop) → IfErr result (λ stop. stop ≡ WantsMemory) → IsErrOf result MetaFailed → ⊥
memory_alone (Ok a) e told = cc
memory_alone {T = T} (Err stop) e told = let f : WantsMemory ≡ MetaFailed = sym e ∙ which {T = T} stop MetaFailed told in cc

module _ {C D : Type 0} (seen : D → List ℕ) (fault_count calls : D → ℕ) where
  -- none
  pub no_calls : {T : Type 0} (result : Result T NotedStop) (old new : Noted C D) → new.calls ≡ old.calls → new.meta ≡ old.meta → (IsErrOf result MetaFailed → ⊥) → KeepsCount seen fault_count calls result old new
  no_calls result old new count same other = record {
    counted = 0;
    made = 0;
    count = count;
    called = ap (λ (m : Meta D). calls (disk_of m)) same;
    within = omega arith;
    whole = on_ok result ((0 ≡ 0) × (fault_count (disk_of new.meta) ≡ fault_count (disk_of old.meta))) (refl, ap (λ (m : Meta D). fault_count (disk_of m)) same);
    failed = λ told. absurd (other told);
    unfailed = λ told. ap (λ (m : Meta D). fault_count (disk_of m)) same;
    size = ap (room_of seen) same;
  }

  -- none, where memory was wanted
  pub none_wanting : {T : Type 0} (result : Result T NotedStop) (given : NotedStop) (old new : Noted C D) → result ≡ Err given → given ≡ WantsMemory → new.calls ≡ old.calls → new.meta ≡ old.meta → KeepsCount seen fault_count calls result old new
  none_wanting result given old new e is count same = rw (e, is) (no_calls (Err WantsMemory) old new count same memory_wanted)

  -- those that were, by a noted store with the same metadata and the same count
  pub same_calls : {T U : Type 0} (result : Result T NotedStop) (other : Result U NotedStop) (old first mid new : Noted C D) → first.calls ≡ old.calls → first.meta ≡ old.meta → new.calls ≡ mid.calls → new.meta ≡ mid.meta →
      ((P : Type 0) → OnOk result P → OnOk other P) → (IsErrOf other MetaFailed → IsErrOf result MetaFailed) → (IsErrOf other MetaFull → IsErrOf result MetaFull) → KeepsCount seen fault_count calls result first mid → KeepsCount seen fault_count calls other old new
  same_calls result other old first mid new c e count same ok err full k =
      let Whole : Meta D → Meta D → Type 0 = λ (a b : Meta D). (k.made ≡ k.counted) × (fault_count (disk_of b) ≡ fault_count (disk_of a)) in
      record {
        counted = k.counted;
        made = k.made;
        count = count ∙ (k.count ∙ ap (more_calls k.counted) c);
        called = ap (λ (m : Meta D). calls (disk_of m)) same ∙ (k.called ∙ ap (λ (m : Meta D). more_calls k.made (calls (disk_of m))) e);
        within = k.within;
        whole = subst (λ (m : Meta D). OnOk other (Whole m new.meta)) e (subst (λ (m : Meta D). OnOk other (Whole first.meta m)) (sym same) (ok (Whole first.meta mid.meta) k.whole));
        failed = λ told.
            subst (λ (m : Meta D). HasRisen (fault_count (disk_of m)) (fault_count (disk_of new.meta))) e (subst (λ (m : Meta D). HasRisen (fault_count (disk_of first.meta)) (fault_count (disk_of m))) (sym same) (k.failed (err told)));
        unfailed = λ told. ap (λ (m : Meta D). fault_count (disk_of m)) same ∙ (k.unfailed (full told) ∙ ap (λ (m : Meta D). fault_count (disk_of m)) e);
        size = ap (room_of seen) same ∙ (k.size ∙ ap (room_of seen) e);
      }

  -- those before an error
  pub calls_of_error : {T U : Type 0} (result : Result U NotedStop) (given stop : NotedStop) (old first mid new : Noted C D) → result ≡ Err given → given ≡ stop → first.calls ≡ old.calls → first.meta ≡ old.meta → new.calls ≡ mid.calls → new.meta ≡ mid.meta →
      KeepsCount {T = T} seen fault_count calls (Err stop) first mid → KeepsCount seen fault_count calls result old new
  calls_of_error {T = T} {U = U} result given stop old first mid new e is c m count same k =
      let there : Result T NotedStop = Err stop in
      let as_told : (told : NotedStop) → IsErrOf result told → IsErrOf there told = λ told f. ap (λ (z : NotedStop). Err z) (sym is ∙ which {T = U} given told (subst (λ (z : Result U NotedStop). IsErrOf z told) e f)) in
      same_calls there result old first mid new c m count same (λ P ok. subst (λ (z : Result U NotedStop). OnOk z P) (sym e) tt) (as_told MetaFailed) (as_told MetaFull) k

  module _ (may_leave : D → List ℕ → Type 0) (old new : Noted C D) (note : MetaRecord) (rests : IsResting seen may_leave old.meta) (k : ℕ)
      (costs : (m : Meter) → IsMetered seen old.meta m → (with_record (room_of seen old.meta) note m).calls ≡ m.calls + k) (count : new.calls ≡ more_calls k old.calls) (size : room_of seen new.meta ≡ room_of seen old.meta) where
    abbrev meter : Meter
    meter = record { image = rests.image; generation = generation_of old.meta; used = used_of old.meta; calls = 0; full = None }

    metered : IsMetered seen old.meta meter
    metered = record {
      image = rests_found old.meta.half old.meta.generation old.meta.used old.meta.other_is_open rests.image (seen old.meta.disk) rests.rests;
      generation = refl;
      used = refl;
      fits = refl;
    }

    -- those of a record
    pub put_calls : {T : Type 0} (result : Result T NotedStop) → OnOk result (IsPut seen calls note old.meta new.meta) → OnOk result (fault_count (disk_of new.meta) ≡ fault_count (disk_of old.meta)) →
        IfErr result (λ stop. IsCutShort seen calls stop old.meta new.meta (with_record (room_of seen old.meta) note)) →
        (IsErrOf result MetaFailed → HasRisen (fault_count (disk_of old.meta)) (fault_count (disk_of new.meta))) →
        (IsErrOf result MetaFull → fault_count (disk_of new.meta) ≡ fault_count (disk_of old.meta)) → KeepsCount seen fault_count calls result old new
    put_calls (Ok a) put quiet short risen still =
        let p = put.counted meter metered in
        let made : p.0 ≡ k = let e = p.2 in let c = costs meter metered in omega (arith, e, c) in
        record { counted = k; made = p.0; count = count; called = p.1; within = omega (arith, made); whole = (made, quiet); failed = risen; unfailed = still; size = size }
    put_calls (Err e) put quiet short risen still =
        let p = short meter metered in
        let few : p.0 ≤ k = let l = p.2 in let c = costs meter metered in omega (arith, l, c) in
        record { counted = k; made = p.0; count = count; called = p.1; within = few; whole = tt; failed = risen; unfailed = still; size = size }

-- ---- the actions so far

module _ {C D : Type 0} (seen : D → List ℕ) (may_leave : D → List ℕ → Type 0) where
  module _ (grain : GrainSize) (old new : Noted C D) (way way_new : UnderWay) (entries : List Entry) (w : Whole) (steps : List DiskStep) (rows now now_new : List Row)
      (c : CountsSoFar seen may_leave grain old way entries w steps rows now) where
    abbrev half : ℕ
    half = room_of seen old.meta

    abbrev before : Meter
    before = after_actions (room_of seen old.meta) c.before c.actions

    abbrev ActedNew : List Action → Type 0
    ActedNew more = Acted grain (request_of way_new.doing.steps.ask) steps (steps_done way_new.doing.steps) way_new.doing.steps.stop way_new.due rows now_new more

    -- with no call of the disk
    pub so_far_same : (more : List Action) → ActedNew more → ((half : ℕ) (m : Meter) → after_actions half m more ≡ after_actions half m c.actions) → new.meta ≡ old.meta → new.calls ≡ old.calls →
        CountsSoFar seen may_leave grain new way_new entries w steps rows now_new
    so_far_same more acted costs same count =
        let is : IsMetered seen old.meta (after_actions half c.before more) = subst (IsMetered seen old.meta) (sym (costs half c.before)) c.is in
        record {
          before = c.before;
          metered = subst (λ (m : Meta D). Metered grain (room_of seen m) entries w c.before) (sym same) c.metered;
          same = c.same;
          actions = more;
          acted = acted;
          is = subst (λ (m : Meta D). IsMetered seen m (after_actions (room_of seen m) c.before more)) (sym same) is;
          calls = count ∙ (c.calls ∙ (ap (λ (m : Meter). more_calls m.calls 0) (sym (costs half c.before)) ∙ ap (λ (m : Meta D). more_calls (after_actions (room_of seen m) c.before more).calls 0) (sym same)));
        }

    -- with a record that was put
    pub so_far_put : (x : MetaRecord) → ActedNew (c.actions ++ Note x ∷ []) → room_of seen new.meta ≡ room_of seen old.meta → ((m : Meter) → IsMetered seen old.meta m → IsMetered seen new.meta (with_record (room_of seen old.meta) x m)) →
        ((m : Meter) → IsMetered seen old.meta m → old.calls ≡ more_calls m.calls 0 → new.calls ≡ more_calls (with_record (room_of seen old.meta) x m).calls 0) →
        CountsSoFar seen may_leave grain new way_new entries w steps rows now_new
    so_far_put x acted size metered counted =
        let more : List Action = c.actions ++ Note x ∷ [] in
        let one : after_actions half c.before more ≡ with_record half x before = one_done half c.before c.actions x in
        record {
          before = c.before;
          metered = subst (λ (h : ℕ). Metered grain h entries w c.before) (sym size) c.metered;
          same = c.same;
          actions = more;
          acted = acted;
          is = subst (λ (h : ℕ). IsMetered seen new.meta (after_actions h c.before more)) (sym size) (subst (IsMetered seen new.meta) (sym one) (metered before c.is));
          calls = counted before c.is c.calls ∙ (ap (λ (m : Meter). more_calls m.calls 0) (sym one) ∙ ap (λ (h : ℕ). more_calls (after_actions h c.before more).calls 0) (sym size));
        }

  -- the disk failed while it was put, or it passed the half
  module _ (old new : Noted C D) (way : UnderWay) (history : HistoryState) (w : Whole) (least : List Row) (d : IsDoing seen may_leave old way history w least) where
    pub goes_into_record : (disk_calls : D → ℕ) (told : NotedStop) (x : MetaRecord) (n : ℕ) (stop : Option Stop) (due : Option MetaRecord) →
        SoFar d.begun.control.grain d.before.kept.rows (request_of way.doing.steps.ask) d.steps n stop due (d.counts.actions ++ Note x ∷ []) →
        ((m : Meter) → IsMetered seen old.meta m → old.calls ≡ more_calls m.calls 0 → new.calls ≡ more_calls (with_record (room_of seen old.meta) x m).calls 0) →
        IsCutShort seen disk_calls told old.meta new.meta (with_record (room_of seen old.meta) x) → CountsInto seen disk_calls told old new history w
    goes_into_record disk_calls told x n stop due so_far counted short =
        let c = d.counts in
        let half : ℕ = room_of seen old.meta in
        let r : Request = request_of way.doing.steps.ask in
        let more : List Action = c.actions ++ Note x ∷ [] in
        let before : Meter = after_actions half c.before c.actions in
        let into : Meter = after_actions half c.before more in
        let one : into ≡ with_record half x before = one_done half c.before c.actions x in
        let here : old.store.control.grain ≡ d.begun.control.grain = ap (λ (s : StoreView). s.control.grain) d.since in
        let goes : GoesInto d.begun.control.grain half w c.before r into = goes_into d.begun.control.grain d.before.kept.rows r d.steps w d.steps_are half c.before c.same n stop due more so_far in
        record {
          request = r;
          asking = old.script;
          reached = λ read. stays;
          asked = doing_asked seen may_leave old way history w least d;
          meter = c.before;
          metered = subst (λ (g : GrainSize). Metered g half history.entries w c.before) (sym here) c.metered;
          fits = full_before half c.before c.actions c.is.fits;
          paid =
              let l = more_grow c.before.calls before.calls (calls_grow half c.before c.actions) in
              let e = c.calls in
              omega (arith, l, e);
          into = into;
          goes = subst (λ (g : GrainSize). GoesInto g half w c.before r into) (sym here) goes;
          stops = subst (StopsInto disk_calls told old new) (sym one) (stops_into disk_calls told old new before (with_record half x before) c.calls (counted before c.is c.calls) (short before c.is));
        }
