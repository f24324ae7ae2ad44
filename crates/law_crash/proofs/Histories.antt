-- Each history of right entries has a run.
use Rattle.std.proofs.Common.{◌≡◌, ℕ, ◌*◌, ◌<◌, ◌≤◌, Bool, true, false, cond, eqb, fold, Option, Some, None, List, [], ◌∷◌, ◌++◌, length, Contains, inl, inr, refl, sym, ap, subst, ◌∙◌, arith}
use Rattle.std.proofs.lemmas.Bool.{eqb-true}
use Rattle.std.proofs.lemmas.List.{append_assoc, append-nil}
use Rattle.fc_base.specs.Pools.{Pool, of_kind}
use Rattle.fc_base.specs.Sheet.{live_place}
use Rattle.fc_base.specs.declared.command.Command.{Command}
use Rattle.fc_base.specs.declared.command.Command.TheVariants.{Read as ReadLine, Write as WriteLine, Mkpreset}
use Rattle.fc_base.specs.declared.decision.Decision.{Decision}
use Rattle.fc_base.specs.declared.disk.DiskKind.{DiskKind}
use Rattle.fc_base.specs.declared.fault.Refusal.{Refusal}
use Rattle.fc_base.specs.declared.fault.Refusal.TheVariants.{Words}
use Rattle.fc_base.specs.declared.ids.GrainNo.{GrainNo}
use Rattle.fc_base.specs.declared.ids.MapId.{MapId}
use Rattle.fc_base.specs.declared.ids.VolId.{VolId}
use Rattle.fc_base.specs.declared.request.Effect.{Effect}
use Rattle.fc_base.specs.declared.request.ReadPart.{ReadPart}
use Rattle.fc_base.specs.declared.request.Reply.{Reply}
use Rattle.fc_base.specs.declared.request.Reply.TheVariants.{Bytes as BytesReply, Done, DiskFault, MediumError, Moved, NoMemory}
use Rattle.fc_base.specs.declared.request.Request.{Request}
use Rattle.fc_base.specs.declared.request.Request.TheVariants.{Command as Asked, Unread, Read, Write, Copy, Clean, CopyTurn, CleanTurn}
use Rattle.fc_base.specs.declared.request.WritePart.{WritePart}
use Rattle.fc_base.specs.declared.size.GrainSize.{GrainSize}
use Rattle.fc_base.specs.declared.state.Access.{Access}
use Rattle.fc_base.specs.declared.state.Access.TheVariants.{Online, Offline as IsOffline, NotAccessible as IsNotAccessible}
use Rattle.fc_base.specs.declared.volume.Volume.{Volume}
use Rattle.fc_books.specs.After.{pools_after}
use Rattle.fc_books.specs.Deciding.{IsLoopOf, settle}
use Rattle.fc_books.specs.Refused.{access_refused, preset_refused}
use Rattle.fc_books.specs.Sound.{AreSound}
use Rattle.fc_changed.specs.Row.{Row}
use Rattle.fc_entry.specs.Picture.{grain_of_block}
use Rattle.fc_entry.specs.declared.entry.Entry.{Entry}
use Rattle.fc_kept.specs.Disks.{NamedDisk}
use Rattle.fc_follow.specs.Following.{restarts}
use Rattle.fc_kept.specs.Kept.{Kept}
use Rattle.fc_kept.specs.Marks.{AreMarked, LeastLeft, LeastLeft.decided as least_decided, LeastLeft.unsettled as least_unsettled, LeastLeft.settled_alone as least_settled, asked_write, least_by, least_entry}
use Rattle.fc_kept.specs.Prefix.{AreFillSteps, AreStepsOf, AreWriteSteps}
use Rattle.fc_legal.specs.Legal.{AreSteps}
use Rattle.fc_legal.specs.Steps.{MustBeRefused, CommandIsRight, CommandLeft, CommandLeft.decided as left_decided, CommandLeft.unsettled as left_unsettled, CommandLeft.settled_alone as left_settled, CommandStep, IsInside, IsRefused, RequestStep, Step, after_access, after_settling, decided_on, left_by, one_more}
use Rattle.fc_legal.specs.Whole.{Whole, as_one, lane_at, lane_of_grain, lanes, opened, part_at, pool_at, single_lane}
use Rattle.fc_parts.specs.Law.{IsInVolume}
use Rattle.fc_parts.proofs.Told.{pools_of_all}
use Rattle.fc_rules.specs.GrainAnswers.{ByAccess, FillAnswers, ReadAnswers, WriteAnswers, cannot_write}
use Rattle.fc_rules.specs.LaneRight.{CleanAnswers, CopyAnswers, LaneAnswers, MappingFill, TurnAnswers, VolumeWrite, done_write}
use Rattle.fc_rules.specs.LaneTold.{lane_access, place_of}
use Rattle.fc_rules.specs.LaneTurn.{cleaned_slot, copied_slot, next_clean, next_copy, spot_at}
use Rattle.fc_rules.specs.Spot.{Spot}
use Rattle.fc_rules.specs.Steps.{DiskStep, HasDone, HasFailed, HasNoMemory, StoppedAt, steps_of_fill, steps_of_write}
use Rattle.law_crash.specs.Doing.{actions_of_steps, number_of, with_disks, with_kept}
use Rattle.law_crash.specs.Leaving.{AreUnnamed, GoesOn, HaveTheirDisks, Leaves, Leaves.unsettled, made_anew}
use Rattle.law_crash.specs.Points.{Point, StandsFor, nothing_kept}
use Rattle.law_crash.specs.Running.{Does, Does.refused, Does.read, Does.whole, Does.stopped, Does.commanded, Run, Run.begun, Run.more, Run.named, Takes}
use Rattle.law_crash.proofs.Coming.{next_later, settle_new}
use Rattle.law_crash.proofs.Doable.{can_stop, fill_doable, torn_of_step, write_doable}
use Rattle.law_crash.proofs.Fitting.{TakesDisks, decided_comes, fits_now, pools_fewer, settling_pools}
use Rattle.law_crash.proofs.Lawful.{FillOf, clean_of, copy_of}
use Rattle.law_crash.proofs.Leaving.{leaves_all, leaves_noted}
use Rattle.law_crash.proofs.Making.{spot_in}
use Rattle.law_crash.proofs.Opening.{opens}
use Rattle.law_crash.proofs.Renaming.{Renamed, WasOrTook, renamed}
use Rattle.law_crash.proofs.Running.{RunsTo, least_left, opened_on, run_stands}
use Rattle.law_crash.proofs.Writing.{AreDoable, Disked, can_do}
use Rattle.law_stands.proofs.Standing.{command_lawful, stands_law_holds}
use Rattle.law_volumes.proofs.Steps.{settling_keeps}

-- what an entry of no command leaves
pub record Ends (grain : GrainSize) (w : Whole) (least : List Row) (p : Point) (entry : Entry) (next : Whole) : Type 0 where
  pub least_next : List Row
  pub behind : Point
  pub does : Does grain w least p entry next least_next behind
  pub have : HaveTheirDisks next behind.disks

have_after : (grain : GrainSize) (w : Whole) (i : ℕ) (entry : Entry) (disks : List (List NamedDisk)) → HaveTheirDisks w disks → HaveTheirDisks (after_access grain w i entry) disks
have_after grain w i entry disks h = record { named = h.named; free = h.free }

module _ (grain : GrainSize) (w : Whole) (least : List Row) (p : Point) (d : Disked grain w p.disks) (sound : AreSound w.books) (entry : Entry) (i : ℕ) (no_effects : entry.effects ≡ []) where
  abbrev EndsHere : Type 0
  EndsHere = Ends grain w least p entry (after_access grain w i entry)

  -- nothing was done, as by a read
  idle_ends : done_write entry.request entry.reply ≡ None → entry.moves ≡ [] → entry.torn ≡ None → EndsHere
  idle_ends written moves untorn =
      record {
        least_next = least_entry (single_lane grain) least entry;
        behind = p;
        does = read i (record { request_is = refl; written = written; moves = moves; torn_is = untorn; no_effects = no_effects });
        have = have_after grain w i entry p.disks d.have;
      }

  -- all steps were done
  whole_ends : (work : Request) (steps : List DiskStep) → Takes entry.request work → IsInVolume grain w work → AreStepsOf grain w work steps → AreDoable grain w work (actions_of_steps p.kept.rows (number_of grain work) steps) →
      done_write entry.request entry.reply ≡ asked_write entry.request → HasDone steps entry → EndsHere
  whole_ends work steps takes inside are can written done =
      let x = can_do grain w work w.books.sheet (actions_of_steps p.kept.rows (number_of grain work) steps) p can d in
      record {
        least_next = least_entry (single_lane grain) least entry;
        behind = x.behind;
        does = whole i work steps x.behind takes inside are x.did (record { request_is = refl; written = written; moves = done.moves; torn_is = done.untorn; no_effects = no_effects });
        have = have_after grain w i entry x.behind.disks x.disked.have;
      }

  -- one of them stopped
  stopped_ends : (work : Request) (steps : List DiskStep) (step : DiskStep) (extra : ℕ) (b : Bool) → Takes entry.request work → IsInVolume grain w work → AreStepsOf grain w work steps →
      AreDoable grain w work (actions_of_steps p.kept.rows (number_of grain work) steps) → done_write entry.request entry.reply ≡ None → StoppedAt steps step extra entry →
      entry.torn ≡ cond b (Some (torn_of_step grain work step)) None → (b ≡ true → 1 ≤ step.calls) → EndsHere
  stopped_ends work steps step extra b takes inside are can written s torn some =
      let split : steps ≡ s.before ++ step ∷ s.after = s.steps_are in
      let x = can_stop grain w work s.before s.after step b p d (subst (λ (z : List DiskStep). AreDoable grain w work (actions_of_steps p.kept.rows (number_of grain work) z)) split can) some in
      record {
        least_next = least_entry (single_lane grain) least entry;
        behind = x.behind;
        does = stopped i work s.before s.after step (cond b (Some (torn_of_step grain work step)) None) x.behind takes inside (subst (AreStepsOf grain w work) split are) x.stopped
            (record { request_is = refl; written = written; moves = s.moves; torn_is = torn; no_effects = no_effects });
        have = have_after grain w i entry x.behind.disks x.disked.have;
      }

  -- a call failed, or memory was wanted
  failed_ends : (work : Request) (steps : List DiskStep) → Takes entry.request work → IsInVolume grain w work → AreStepsOf grain w work steps → AreDoable grain w work (actions_of_steps p.kept.rows (number_of grain work) steps) →
      done_write entry.request entry.reply ≡ None → HasFailed (spot_in grain w work) steps entry → EndsHere
  failed_ends work steps takes inside are can written f =
      let called = f.called in
      stopped_ends work steps f.step f.extra (eqb f.extra f.step.calls) takes inside are can written f.stopped f.torn
      (λ e. let q : f.extra ≡ f.step.calls = eqb-true f.extra f.step.calls e in omega (arith, called, q))

  wanting_ends : (work : Request) (steps : List DiskStep) → Takes entry.request work → IsInVolume grain w work → AreStepsOf grain w work steps → AreDoable grain w work (actions_of_steps p.kept.rows (number_of grain work) steps) →
      done_write entry.request entry.reply ≡ None → HasNoMemory (spot_in grain w work) steps entry → EndsHere
  wanting_ends work steps takes inside are can written f =
      stopped_ends work steps f.step f.extra false takes inside are can written f.stopped f.untorn (λ e. absurd cc)

  -- ---- by the answer

  fill_by : (work : Request) (m k : ℕ) (reply : Reply) → Takes entry.request work → IsInVolume grain w work → AreStepsOf grain w work (steps_of_fill (spot_in grain w work) k) →
      AreDoable grain w work (actions_of_steps p.kept.rows (number_of grain work) (steps_of_fill (spot_in grain w work) k)) →
      done_write entry.request entry.reply ≡ None → asked_write entry.request ≡ None → FillAnswers (spot_in grain w work) m k entry reply → EndsHere
  fill_by work m k (Moved map g) takes inside are can none asked a = whole_ends work (steps_of_fill (spot_in grain w work) k) takes inside are can (none ∙ sym asked) a.2
  fill_by work m k DiskFault takes inside are can none asked a = failed_ends work (steps_of_fill (spot_in grain w work) k) takes inside are can none a
  fill_by work m k NoMemory takes inside are can none asked a = wanting_ends work (steps_of_fill (spot_in grain w work) k) takes inside are can none a
  fill_by work m k reply takes inside are can none asked a = absurd a

  are_fills : (work : Request) (k : ℕ) (o : Option ℕ) → o ≡ Some k → AreFillSteps (spot_in grain w work) o (steps_of_fill (spot_in grain w work) k)
  are_fills work k o e = subst (λ (x : Option ℕ). AreFillSteps (spot_in grain w work) x (steps_of_fill (spot_in grain w work) k)) (sym e) refl

  given_fill : (work : Request) (m k : ℕ) → IsInVolume grain w work → AreStepsOf grain w work (steps_of_fill (spot_in grain w work) k) → FillOf grain w work (steps_of_fill (spot_in grain w work) k) →
      Takes entry.request work → done_write entry.request entry.reply ≡ None → asked_write entry.request ≡ None → FillAnswers (spot_in grain w work) m k entry entry.reply → EndsHere
  given_fill work m k inside are of takes none asked a =
      fill_by work m k entry.reply takes inside are (fill_doable grain w work p.kept.rows (steps_of_fill (spot_in grain w work) k) sound of are) none asked a

  copy_by : (m : MapId) (g : GrainNo) (o : Option ℕ) → copied_slot w.books.sheet.slots m.0 (place_of (single_lane grain) g.0) ≡ o → Takes entry.request (Copy m g) → done_write entry.request entry.reply ≡ None → asked_write entry.request ≡ None →
      MappingFill (single_lane grain) (as_one w) m.0 g.0 o entry → EndsHere
  copy_by m g None e takes none asked a = absurd a
  copy_by m g (Some k) e takes none asked a =
      let are = are_fills (Copy m g) k (copied_slot w.books.sheet.slots m.0 (place_of (single_lane grain) g.0)) e in
      given_fill (Copy m g) m.0 k tt are (copy_of grain w m g (steps_of_fill (spot_in grain w (Copy m g)) k) are) takes none asked a

  clean_by : (m : MapId) (g : GrainNo) (o : Option ℕ) → cleaned_slot w.books.sheet.slots m.0 (place_of (single_lane grain) g.0) ≡ o → Takes entry.request (Clean m g) → done_write entry.request entry.reply ≡ None → asked_write entry.request ≡ None →
      MappingFill (single_lane grain) (as_one w) m.0 g.0 o entry → EndsHere
  clean_by m g None e takes none asked a = absurd a
  clean_by m g (Some k) e takes none asked a =
      let are = are_fills (Clean m g) k (cleaned_slot w.books.sheet.slots m.0 (place_of (single_lane grain) g.0)) e in
      given_fill (Clean m g) m.0 k tt are (clean_of grain w m g (steps_of_fill (spot_in grain w (Clean m g)) k) sound are) takes none asked a

  write_steps : (part : WritePart) (t : ℕ) → lane_access (as_one w).volumes part.volume ≡ Online → live_place w.books.sheet.slots part.volume.0 ≡ Some t → cannot_write grain (spot_in grain w (Write part)) part ≡ false →
      AreStepsOf grain w (Write part) (steps_of_write grain (spot_in grain w (Write part)) part t)
  write_steps part t online place can =
      (online, subst (λ (o : Option ℕ). AreWriteSteps grain (spot_in grain w (Write part)) part o (steps_of_write grain (spot_in grain w (Write part)) part t)) (sym place) (can, refl))

  write_by : (part : WritePart) (t : ℕ) (reply : Reply) → entry.request ≡ Write part → entry.reply ≡ reply → IsInside grain w.books.tables part.volume part.block part.count →
      lane_access (as_one w).volumes part.volume ≡ Online → live_place w.books.sheet.slots part.volume.0 ≡ Some t → WriteAnswers grain (spot_in grain w (Write part)) part t entry reply → EndsHere
  write_by part t Done e q inside online place a =
      let steps : List DiskStep = steps_of_write grain (spot_in grain w (Write part)) part t in
      let are : AreStepsOf grain w (Write part) steps = write_steps part t online place a.0 in
      whole_ends (Write part) steps (subst (λ (r : Request). Takes r (Write part)) (sym e) refl) inside are (write_doable grain w part p.kept.rows steps sound inside are) ((λ j. done_write (e j) (q j)) ∙ ap asked_write (sym e)) a.1
  write_by part t MediumError e q inside online place a = idle_ends (λ j. done_write (e j) (q j)) a.1.moves a.1.untorn
  write_by part t DiskFault e q inside online place a =
      let steps : List DiskStep = steps_of_write grain (spot_in grain w (Write part)) part t in
      let are : AreStepsOf grain w (Write part) steps = write_steps part t online place a.0 in
      failed_ends (Write part) steps (subst (λ (r : Request). Takes r (Write part)) (sym e) refl) inside are (write_doable grain w part p.kept.rows steps sound inside are) (λ j. done_write (e j) (q j)) a.1
  write_by part t NoMemory e q inside online place a =
      let steps : List DiskStep = steps_of_write grain (spot_in grain w (Write part)) part t in
      let are : AreStepsOf grain w (Write part) steps = write_steps part t online place a.0 in
      wanting_ends (Write part) steps (subst (λ (r : Request). Takes r (Write part)) (sym e) refl) inside are (write_doable grain w part p.kept.rows steps sound inside are) (λ j. done_write (e j) (q j)) a.1
  write_by part t reply e q inside online place a = absurd a

  write_at : (part : WritePart) (o : Option ℕ) → entry.request ≡ Write part → IsInside grain w.books.tables part.volume part.block part.count → lane_access (as_one w).volumes part.volume ≡ Online →
      live_place w.books.sheet.slots part.volume.0 ≡ o → VolumeWrite (single_lane grain) (as_one w) part o entry → EndsHere
  write_at part None e inside online place a = absurd a
  write_at part (Some t) e inside online place a = write_by part t entry.reply e refl inside online place a

  write_ends : (part : WritePart) (access : Access) → entry.request ≡ Write part → IsInside grain w.books.tables part.volume part.block part.count → lane_access (as_one w).volumes part.volume ≡ access →
      ByAccess access entry (VolumeWrite (single_lane grain) (as_one w) part (live_place w.books.sheet.slots part.volume.0) entry) → EndsHere
  write_ends part Online e inside online a = write_at part (live_place w.books.sheet.slots part.volume.0) e inside online refl a
  write_ends part (IsOffline map state) e inside online a = idle_ends (λ j. done_write (e j) (a.0 j)) a.1.moves a.1.untorn
  write_ends part (IsNotAccessible map) e inside online a = idle_ends (λ j. done_write (e j) (a.0 j)) a.1.moves a.1.untorn

  -- a read does nothing
  read_by : (part : ReadPart) (spot : Spot) (reply : Reply) → ReadAnswers grain spot part entry reply → (entry.moves ≡ []) × (entry.torn ≡ None)
  read_by part spot (BytesReply runs) a = (a.1.moves, a.1.untorn)
  read_by part spot MediumError a = (a.1.moves, a.1.untorn)
  read_by part spot DiskFault a = (a.1.moves, a.1.untorn)
  read_by part spot NoMemory a = (a.3.moves, a.3.untorn)
  read_by part spot reply a = absurd a

  read_ends : (part : ReadPart) (access : Access) → entry.request ≡ Read part → ByAccess access entry (ReadAnswers grain (spot_at (single_lane grain) (as_one w) (grain_of_block grain part.block)) part entry entry.reply) → EndsHere
  read_ends part Online e a =
      let x = read_by part (spot_at (single_lane grain) (as_one w) (grain_of_block grain part.block)) entry.reply a in
      idle_ends (ap (λ (r : Request). done_write r entry.reply) e) x.0 x.1
  read_ends part (IsOffline map state) e a = idle_ends (ap (λ (r : Request). done_write r entry.reply) e) a.1.moves a.1.untorn
  read_ends part (IsNotAccessible map) e a = idle_ends (ap (λ (r : Request). done_write r entry.reply) e) a.1.moves a.1.untorn

  -- a turn takes the next work, if there is any
  copy_turn : (lane : ℕ) (work : Option (MapId × GrainNo)) → entry.request ≡ CopyTurn lane → TurnAnswers (CopyAnswers (single_lane grain) (as_one w)) work entry → EndsHere
  copy_turn lane None e a = idle_ends (ap (λ (r : Request). done_write r entry.reply) e) a.1.moves a.1.untorn
  copy_turn lane (Some work) e a =
      copy_by work.0 work.1 (copied_slot w.books.sheet.slots work.0.0 (place_of (single_lane grain) work.1.0)) refl (subst (λ (r : Request). Takes r (Copy work.0 work.1)) (sym e) tt)
      (ap (λ (r : Request). done_write r entry.reply) e) (ap asked_write e) a

  clean_turn : (lane : ℕ) (work : Option (MapId × GrainNo)) → entry.request ≡ CleanTurn lane → TurnAnswers (CleanAnswers (single_lane grain) (as_one w)) work entry → EndsHere
  clean_turn lane None e a = idle_ends (ap (λ (r : Request). done_write r entry.reply) e) a.1.moves a.1.untorn
  clean_turn lane (Some work) e a =
      clean_by work.0 work.1 (cleaned_slot w.books.sheet.slots work.0.0 (place_of (single_lane grain) work.1.0)) refl (subst (λ (r : Request). Takes r (Clean work.0 work.1)) (sym e) tt)
      (ap (λ (r : Request). done_write r entry.reply) e) (ap asked_write e) a

-- ---- an entry of a lane

abbrev pub IsOfLanes : Request → Type 0
IsOfLanes (Asked command) = ⊥
IsOfLanes (Unread fault) = ⊥
IsOfLanes request = Unit {0}

abbrev EndsIn : GrainSize → Whole → List Row → Point → Entry → Whole → Type 0
EndsIn grain w least p entry next = Ends grain w least p entry next

module _ (grain : GrainSize) (w : Whole) (least : List Row) (p : Point) (d : Disked grain w p.disks) (sound : AreSound w.books) (entry : Entry) (next : Whole) where
  from_here : (i : ℕ) → next ≡ after_access grain w i entry → Ends grain w least p entry (after_access grain w i entry) → EndsIn grain w least p entry next
  from_here i e x = subst (EndsIn grain w least p entry) (sym e) x

  -- by its request
  lane_ends : (request : Request) → entry.request ≡ request → RequestStep grain w request entry next → IsOfLanes request → EndsIn grain w least p entry next
  lane_ends (Read part) e right of =
      let s = right.1 in
      let i : ℕ = lane_of_grain w (grain_of_block grain part.block) in
      from_here i s.next_is (read_ends grain w least p d sound entry i s.no_effects part (lane_access (as_one w).volumes part.volume) e (subst (λ (r : Request). LaneAnswers (single_lane grain) (as_one w) r entry) e s.answers))
  lane_ends (Write part) e right of =
      let s = right.1 in
      let i : ℕ = lane_of_grain w (grain_of_block grain part.block) in
      from_here i s.next_is (write_ends grain w least p d sound entry i s.no_effects part (lane_access (as_one w).volumes part.volume) e right.0 refl (subst (λ (r : Request). LaneAnswers (single_lane grain) (as_one w) r entry) e s.answers))
  lane_ends (Copy m g) e s of =
      let i : ℕ = lane_of_grain w g.0 in
      from_here i s.next_is (copy_by grain w least p d sound entry i s.no_effects m g (copied_slot w.books.sheet.slots m.0 (place_of (single_lane grain) g.0)) refl (subst (λ (r : Request). Takes r (Copy m g)) (sym e) refl)
      (ap (λ (r : Request). done_write r entry.reply) e) (ap asked_write e) (subst (λ (r : Request). LaneAnswers (single_lane grain) (as_one w) r entry) e s.answers))
  lane_ends (Clean m g) e s of =
      let i : ℕ = lane_of_grain w g.0 in
      from_here i s.next_is (clean_by grain w least p d sound entry i s.no_effects m g (cleaned_slot w.books.sheet.slots m.0 (place_of (single_lane grain) g.0)) refl (subst (λ (r : Request). Takes r (Clean m g)) (sym e) refl)
      (ap (λ (r : Request). done_write r entry.reply) e) (ap asked_write e) (subst (λ (r : Request). LaneAnswers (single_lane grain) (as_one w) r entry) e s.answers))
  lane_ends (CopyTurn lane) e right of =
      let s = right.step in
      from_here lane s.next_is (copy_turn grain w least p d sound entry lane s.no_effects lane (next_copy (lane_at grain w lane) (part_at grain w lane)) e s.answers)
  lane_ends (CleanTurn lane) e right of =
      let s = right.step in
      from_here lane s.next_is (clean_turn grain w least p d sound entry lane s.no_effects lane (next_clean (lane_at grain w lane) (part_at grain w lane)) e s.answers)
  lane_ends request e right of = absurd of

-- ---- a refused entry

refused_ends : (grain : GrainSize) (w : Whole) (least : List Row) (p : Point) (entry : Entry) (next : Whole) (refusal : Refusal) → HaveTheirDisks w p.disks → asked_write entry.request ≡ None → IsRefused refusal w entry next → Ends grain w least p entry next
refused_ends grain w least p entry next refusal have none x =
    subst (EndsIn grain w least p entry) (sym x.next_is) (record { least_next = least; behind = p; does = refused none; have = record { named = have.named; free = have.free } })

must_be_refused_ends : (grain : GrainSize) (w : Whole) (least : List Row) (p : Point) (entry : Entry) (next : Whole) (o : Option Refusal) → HaveTheirDisks w p.disks → asked_write entry.request ≡ None → MustBeRefused o w entry next → Ends grain w least p entry next
must_be_refused_ends grain w least p entry next None have none x = absurd x
must_be_refused_ends grain w least p entry next (Some refusal) have none x = refused_ends grain w least p entry next refusal have none x

-- ---- a command

-- what it leaves, and the disks with their names behind it
pub record CommandEnds (grain : GrainSize) (w : Whole) (least : List Row) (p : Point) (entry : Entry) (next : Whole) : Type 0 where
  pub least_next : List Row
  pub kept : Kept
  pub does : Does grain w least p entry next least_next (with_kept kept p)
  pub renamed : Renamed grain next p.disks

abbrev CommandEndsIn : GrainSize → Whole → List Row → Point → Entry → Whole → Type 0
CommandEndsIn grain w least p entry next = CommandEnds grain w least p entry next

abbrev AnyLeaves : GrainSize → Whole → List Row → Kept → Command → Whole → Type 0
AnyLeaves grain w least k command left = (least' : List Row) × (kept : Kept) × Leaves grain w least k command left least' kept

noted_behind : (grain : GrainSize) (w : Whole) (least : List Row) (k : Kept) (command : Command) (left : Whole) (least' : List Row) → AreMarked k.rows w.rows least → LeastLeft grain w least command left least' → AnyLeaves grain w least k command left
noted_behind grain w least k command left least' between marks =
    let x = leaves_noted grain w left least least' k command between marks in
    (least', made_anew left x.0 k.lost, x.2)

any_leaves : (grain : GrainSize) (w : Whole) (least : List Row) (k : Kept) (command : Command) (reply : Reply) (effects : List Effect) (left : Whole) → AreMarked k.rows w.rows least → CommandLeft grain w command reply effects left →
    AnyLeaves grain w least k command left
any_leaves grain w least k command reply effects left between (left_decided loop told) =
    let settled : Whole = after_settling grain w in
    let d : Decision = decided_on grain settled command loop in
    noted_behind grain w least k command (left_by grain settled d) (least_by settled (least_by w least (settle w.books)) d) between (least_decided loop told)
any_leaves grain w least k command reply effects left between left_unsettled = (least, k, unsettled)
any_leaves grain w least k command reply effects left between left_settled = noted_behind grain w least k command (after_settling grain w) (least_by w least (settle w.books)) between least_settled

module _ (grain : GrainSize) (w : Whole) (least : List Row) (p : Point) (few : w.entries < 262144) (st : StandsFor grain w least p) (on : GoesOn (2 * w.entries) w p.disks) (have : HaveTheirDisks w p.disks) where
  -- the disks get their names
  names_given : (left : Whole) (least' : List Row) (command : Command) (kept : Kept) (n : ℕ) → Leaves grain w least p.kept command left least' kept → w.books.next_volume ≤ n →
      ((v : Volume) → Contains left.books.tables.volumes v → WasOrTook w left n (length p.disks) v) →
      ((i : ℕ) (kind : DiskKind) → i < length p.disks → of_kind kind (pool_at left.books.pools i) ≤ of_kind kind (pool_at w.books.pools i)) → Renamed grain (one_more left) p.disks
  names_given left least' command kept n leaves later comes fewer =
      let x = leaves_all grain (2 * w.entries) w left least least' command p kept (omega (arith, few)) on st have leaves in
      renamed grain w (one_more left) n p.disks (record {
        some = x.1.reached.stands.each_lane.some;
        count = x.0.says.count;
        tables = x.1.reached.stands.sound.tables;
        fit = fits_now grain (one_more left) least' (with_kept kept p) x.0;
        have = have;
        unnamed = x.1.unnamed;
        none = λ i. on.unnamed i n later;
        comes = comes;
        fewer = fewer;
      })

  names_decided : (command : Command) (loop : Option (List VolId)) (least' : List Row) (kept : Kept) → IsLoopOf grain (after_settling grain w).books command loop →
      Leaves grain w least p.kept command (left_by grain (after_settling grain w) (decided_on grain (after_settling grain w) command loop)) least' kept →
      Renamed grain (one_more (left_by grain (after_settling grain w) (decided_on grain (after_settling grain w) command loop))) p.disks
  names_decided command loop least' kept told leaves =
      let settled : Whole = after_settling grain w in
      let d : Decision = decided_on grain settled command loop in
      let left : Whole = left_by grain settled d in
      let sets : ℕ → List Bool = restarts settled.rows in
      let same : settled.books.pools ≡ w.books.pools = settling_pools grain w in
      let pools : left.books.pools ≡ fold pools_after w.books.pools d.events = pools_of_all sets d.events d.changes settled.books ∙ ap (λ (ps : List Pool). fold pools_after ps d.events) same in
      let lawful = command_lawful grain (2 * w.entries) w command loop (omega (arith, few)) on.reached.stands told in
      let later : w.books.next_volume ≤ settled.books.next_volume = next_later (restarts w.rows) w.books (settle w.books).events (settle w.books).changes (settle_new w.books).1 in
      let count : length w.books.pools ≡ lanes w = on.reached.stands.each_lane.pools in
      let given : length p.disks ≡ lanes w = st.says.count in
      let here : (i : ℕ) → i < length p.disks → i < length w.books.pools = λ i il. omega (arith, il, count, given) in
      names_given left least' command kept settled.books.next_volume leaves later
      (λ v c. elim (decided_comes sets sets grain settled.books command loop v lawful.disks c) [
        | inl was ↦ inl (subst (λ (vs : List Volume). Contains vs v) (settling_keeps grain w) was)
        | inr new ↦
            let taken : TakesDisks v.kind d.events w.books.pools = subst (TakesDisks v.kind d.events) same new.1 in
            inr (new.0, λ i il. subst (λ (ps : List Pool). of_kind v.kind (pool_at ps i) < of_kind v.kind (pool_at w.books.pools i)) (sym pools) (taken i (here i il)))
      ])
      (λ i kind il. subst (λ (ps : List Pool). of_kind kind (pool_at ps i) ≤ of_kind kind (pool_at w.books.pools i)) (sym pools) (pools_fewer d.events w.books.pools i kind (here i il)))

  names : (command : Command) (left : Whole) (least' : List Row) (kept : Kept) → LeastLeft grain w least command left least' → Leaves grain w least p.kept command left least' kept → Renamed grain (one_more left) p.disks
  names command left least' kept (least_decided loop told) leaves = names_decided command loop least' kept told leaves
  names command left least' kept least_unsettled leaves = names_given w least' command kept w.books.next_volume leaves (omega arith) (λ v c. inl c) (λ i kind il. omega arith)
  names command left least' kept least_settled leaves =
      names_given left least' command kept w.books.next_volume leaves (omega arith) (λ v c. inl (subst (λ (vs : List Volume). Contains vs v) (settling_keeps grain w) c))
      (λ i kind il. subst (λ (ps : List Pool). of_kind kind (pool_at ps i) ≤ of_kind kind (pool_at w.books.pools i)) (sym (settling_pools grain w)) (omega arith))

  command_ends : (command : Command) (entry : Entry) (next : Whole) → entry.request ≡ Asked command → CommandStep grain w command entry next → CommandEnds grain w least p entry next
  command_ends command entry next e s =
      let x = any_leaves grain w least p.kept command entry.reply entry.effects s.left st.says.rows s.leaves in
      let marks : LeastLeft grain w least command s.left x.0 = least_left grain w least p.kept command s.left x.0 x.1 x.2 in
      subst (CommandEndsIn grain w least p entry) (sym s.next_is)
      (record { least_next = x.0; kept = x.1; does = commanded command s.left x.0 x.1 e have x.2; renamed = names command s.left x.0 x.1 marks x.2 })

-- ---- all entries

abbrev pub HasRun : GrainSize → Whole → List Row → Point → List Entry → Whole → Type 0
HasRun grain first least p entries w = (least' : List Row) × (q : Point) × Run grain first least p entries w least' q

-- entries are counted
counted_on : (grain : GrainSize) (w last : Whole) (entries : List Entry) → AreSteps grain w entries last → w.entries ≤ last.entries
counted_on grain w last [] e = let same : last.entries ≡ w.entries = ap (λ (z : Whole). z.entries) e in omega (arith, same)
counted_on grain w last (entry ∷ entries) are =
    let one = stands_law_holds.counted grain w entry are.0 are.1 in
    let rest = counted_on grain are.0 last entries are.2 in
    omega (arith, one, rest)

module _ (grain : GrainSize) (first : Whole) (least : List Row) (p : Point) (st : StandsFor grain first least p) (on : GoesOn (2 * first.entries) first p.disks) where
  record More (done : List Entry) (next : Whole) : Type 0 where
    least_next : List Row
    behind : Point
    run : Run grain first least p done next least_next behind
    have : HaveTheirDisks next behind.disks

  module _ (done : List Entry) (now : Whole) (least_now : List Row) (x : Point) (run : Run grain first least p done now least_now x) (have : HaveTheirDisks now x.disks) (few : now.entries < 262144) (entry : Entry) (next : Whole) (step : Step grain now entry next) where
    abbrev MoreHere : Type 0
    MoreHere = More (done ++ entry ∷ []) next

    from_ends : Ends grain now least_now x entry next → MoreHere
    from_ends z = record { least_next = z.least_next; behind = z.behind; run = more done now least_now x entry next z.least_next z.behind run step z.does; have = z.have }

    from_command : CommandEnds grain now least_now x entry next → MoreHere
    from_command z =
        let stood : Run grain first least p (done ++ entry ∷ []) next z.least_next (with_kept z.kept x) = more done now least_now x entry next z.least_next (with_kept z.kept x) run step z.does in
        record {
          least_next = z.least_next;
          behind = with_disks z.renamed.new (with_kept z.kept x);
          run = named (done ++ entry ∷ []) next z.least_next (with_kept z.kept x) z.renamed.new stood z.renamed.stays;
          have = z.renamed.have;
        }

    stood : RunsTo grain first done now least_now x
    stood = run_stands grain first least p done now least_now x st on run (omega (arith, few))

    disked : Disked grain now x.disks
    disked = record { some = stood.2.reached.stands.each_lane.some; count = stood.1.says.count; fit = fits_now grain now least_now x stood.1; have = have }

    by_command : (command : Command) → entry.request ≡ Asked command → CommandIsRight grain now command entry next → MoreHere
    by_command (ReadLine volume block count) e right = from_ends (must_be_refused_ends grain now least_now x entry next (access_refused grain now.books volume block count) have (ap asked_write e) right)
    by_command (WriteLine volume block count byte) e right = from_ends (must_be_refused_ends grain now least_now x entry next (access_refused grain now.books volume block count) have (ap asked_write e) right)
    by_command (Mkpreset source preset name) e right = from_ends (must_be_refused_ends grain now least_now x entry next (preset_refused now.books source) have (ap asked_write e) right)
    by_command command e right = from_command (command_ends grain now least_now x few stood.1 stood.2 have command entry next e right)

    by_request : (request : Request) → entry.request ≡ request → RequestStep grain now request entry next → MoreHere
    by_request (Asked command) e right = by_command command e right
    by_request (Unread fault) e right = from_ends (refused_ends grain now least_now x entry next (Words fault) have (ap asked_write e) right)
    by_request (Read part) e right = from_ends (lane_ends grain now least_now x disked stood.2.reached.stands.sound entry next (Read part) e right tt)
    by_request (Write part) e right = from_ends (lane_ends grain now least_now x disked stood.2.reached.stands.sound entry next (Write part) e right tt)
    by_request (Copy m g) e right = from_ends (lane_ends grain now least_now x disked stood.2.reached.stands.sound entry next (Copy m g) e right tt)
    by_request (Clean m g) e right = from_ends (lane_ends grain now least_now x disked stood.2.reached.stands.sound entry next (Clean m g) e right tt)
    by_request (CopyTurn lane) e right = from_ends (lane_ends grain now least_now x disked stood.2.reached.stands.sound entry next (CopyTurn lane) e right tt)
    by_request (CleanTurn lane) e right = from_ends (lane_ends grain now least_now x disked stood.2.reached.stands.sound entry next (CleanTurn lane) e right tt)

  run_on : (rest done : List Entry) (now last : Whole) (least_now : List Row) (x : Point) → Run grain first least p done now least_now x → HaveTheirDisks now x.disks → AreSteps grain now rest last → last.entries ≤ 262144 →
      HasRun grain first least p (done ++ rest) last
  run_on [] done now last least_now x run have are few =
      subst (HasRun grain first least p (done ++ [])) (sym are) (subst (λ (es : List Entry). HasRun grain first least p es now) (sym (append-nil done)) (least_now, x, run))
  run_on (entry ∷ rest) done now last least_now x run have are few =
      let one = stands_law_holds.counted grain now entry are.0 are.1 in
      let count = counted_on grain are.0 last rest are.2 in
      let below : now.entries < 262144 = omega (arith, one, count, few) in
      let m = by_request done now least_now x run have below entry are.0 are.1 entry.request refl are.1.right in
      subst (λ (es : List Entry). HasRun grain first least p es last) (append_assoc done (entry ∷ []) rest)
      (run_on rest (done ++ entry ∷ []) are.0 last m.least_next m.behind m.run m.have are.2 few)

pub histories_run : (grain : GrainSize) (pools : List Pool) (disks : List (List NamedDisk)) (entries : List Entry) (w : Whole) → 0 < length pools → length disks ≡ length pools → AreUnnamed (opened pools) disks → HaveTheirDisks (opened pools) disks →
    let first : Point = record { kept = nothing_kept; disks = disks } in AreSteps grain (opened pools) entries w → w.entries ≤ 262144 → HasRun grain (opened pools) [] first entries w
histories_run grain pools disks entries w some count unnamed have are few =
    let first : Point = record { kept = nothing_kept; disks = disks } in
    run_on grain (opened pools) [] first (opens grain pools disks count) (opened_on grain pools disks some unnamed) entries [] (opened pools) w [] first begun have are few
