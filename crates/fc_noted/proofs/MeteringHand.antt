-- What an entry in hand costs metadata, step by step, and when it is over.
use Rattle.std.proofs.Common.{◌≡◌, ◌≢◌, ℕ, ◌+◌, Bool, true, false, cond, is_some, not, take, drop, Option, Some, None, List, [], ◌∷◌, ◌++◌, length, map, refl, sym, ap, subst, ◌∙◌, arith}
use Rattle.std.specs.List.{list_any}
use Rattle.std.proofs.Math.Seq.{take-append_seam}
use Rattle.fc_base.specs.declared.ids.GrainNo.{GrainNo}
use Rattle.fc_base.specs.declared.request.Move.{Move}
use Rattle.fc_base.specs.declared.request.Request.{Request}
use Rattle.fc_base.specs.declared.request.Torn.{Torn}
use Rattle.fc_base.specs.declared.request.WritePart.{WritePart}
use Rattle.fc_base.specs.declared.size.GrainSize.{GrainSize}
use Rattle.fc_changed.specs.Row.{Row}
use Rattle.fc_entry.specs.declared.entry.Entry.{Entry}
use Rattle.fc_image.specs.declared.record.MetaRecord.{MetaRecord}
use Rattle.fc_image.specs.declared.record.MetaRecord.TheVariants.{Changing}
use Rattle.fc_kept.specs.Actions.{Action, Action.Note, is_unmarked}
use Rattle.fc_kept.specs.Prefix.{AreStepsOf}
use Rattle.fc_lane.specs.Doing.{IsUnderWay}
use Rattle.fc_lane.specs.Lane.{LaneView}
use Rattle.fc_lane.specs.declared.doing.Doing.{Doing}
use Rattle.fc_legal.specs.Whole.{Whole, part_at}
use Rattle.fc_marks.specs.Meter.{Meter}
use Rattle.fc_noted.specs.Metered.{Acted, AreActionsOf, AreActionsOf.whole as are_whole, AreActionsOf.stopped as are_stopped, SoFar, SoFar.behind, SoFar.marked, SoFar.stopped, actions_stopped, after_actions}
use Rattle.fc_noted.proofs.Metering.{EndsSo, all_done, costs_same, data_costs, mark_put, noted_rows, on_metadata, rows_same, so_far_of, uncopied_put}
use Rattle.fc_rules.specs.Spot.{Spot, move_in}
use Rattle.fc_rules.specs.Steps.{DiskStep, step_of_move}
use Rattle.fc_steps.specs.Asking.{request_of}
use Rattle.fc_steps.specs.StepsEnd.{torn_in}
use Rattle.fc_steps.specs.UnderWay.{after_step, next_of}
use Rattle.fc_steps.specs.declared.body.StepEnd.{StepEnd}
use Rattle.fc_steps.specs.declared.stepping.Next.{Next}
use Rattle.fc_steps.specs.declared.stepping.Next.TheVariants.{Move as NextMove, Own, Over}
use Rattle.fc_steps.specs.declared.stepping.Steps.{Steps}
use Rattle.fc_steps.specs.declared.stop.Stop.{Stop}
use Rattle.fc_steps.specs.declared.stop.Stop.TheVariants.{Failed, NoMemory}
use Rattle.fc_steps.proofs.UnderWay.{move_comes, own_comes}
use Rattle.law_crash.specs.Doing.{Tells, actions_of_steps, noted, number_of, with_disks}
use Rattle.law_crash.specs.Points.{Point}
use Rattle.law_crash.proofs.Making.{spot_in, steps_in}
use Rattle.law_noted.specs.Advancing.{IsNext, mark_at, uncopied}
use Rattle.law_noted.specs.Came.{own_done, steps_done}
use Rattle.law_noted.specs.DataSteps.{IsInHand, IsNextStep, IsStepped, NeedsNoMark, copies_nothing}
use Rattle.law_noted.specs.Going.{IsEntryOf}
use Rattle.law_noted.specs.Records.{record_after, record_by}
use Rattle.law_noted.proofs.DataInHand.{count_at, grain_is, made_so, owns, slot, split_at}
use Rattle.law_noted.proofs.HandEnds.{all_counted, tells_stopped, tells_whole}
use Rattle.law_noted.proofs.HandMoved.{goes_on}
use Rattle.law_noted.proofs.HandNext.{IsAlone, IsOwnNext, alone, own_next}
use Rattle.law_noted.proofs.NextSteps.{MadeAt, next_slot}

some_none : (o : Option Move) (m : Move) → o ≡ Some m → o ≡ None → ⊥
some_none o m a b = let f : Some m ≡ None = sym a ∙ b in cc

-- ---- how many steps were done behind one

index_of : (made : ℕ) (stop : Option Stop) (written : Bool) → stop ≡ None → written ≡ false → made + own_done stop written ≡ made
index_of made stop written none unwritten = (λ i. made + own_done (none i) (unwritten i)) ∙ omega arith

move_so : (m : Move) (made calls : ℕ) (number : GrainNo) (written : Bool) (o : Option Stop) → written ≡ false → EndsSo made (cond (is_some o) made (made + 1) + own_done o written) o (record_by (NextMove m) o calls number)
move_so m made calls number written None unwritten = ap (λ (b : Bool). made + 1 + cond b 1 0) unwritten ∙ omega arith
move_so m made calls number written (Some (Failed None)) unwritten = (omega arith, refl)
move_so m made calls number written (Some (Failed (Some torn))) unwritten = omega arith
move_so m made calls number written (Some NoMemory) unwritten = (omega arith, refl)

own_so : (part : WritePart) (made calls : ℕ) (number : GrainNo) (o : Option Stop) → EndsSo made (made + own_done o (not (is_some o))) o (record_by (Own part) o calls number)
own_so part made calls number None = refl
own_so part made calls number (Some (Failed None)) = (omega arith, refl)
own_so part made calls number (Some (Failed (Some torn))) = omega arith
own_so part made calls number (Some NoMemory) = (omega arith, refl)

-- ---- a step stopped

ends_stopped : (grain : GrainSize) (w : Whole) (r : Request) (rows : List Row) (steps : List DiskStep) (entry : Entry) (n : ℕ) (o : Option Stop) (stop : Stop) (actions : List Action) → o ≡ Some stop →
    SoFar grain rows r steps n o None actions → entry.request ≡ r → AreStepsOf grain w r steps → Tells entry.request None (take n steps) (torn_in (Some stop)) entry → AreActionsOf grain w rows entry actions
ends_stopped grain w r rows steps entry n o stop actions e (behind front back split) is are t = absurd cc
ends_stopped grain w r rows steps entry n o stop actions e (marked front own split is_own) is are t = absurd cc
ends_stopped grain w r rows steps entry n o stop actions e (stopped front back step why split) is are t =
    let torn : Option Torn = torn_in (Some why) in
    let first : take (length front) steps ≡ front = ap (take (length front)) split ∙ take-append_seam front (step ∷ back) in
    let told : Tells entry.request None front torn entry =
    subst (λ (z : Option Stop). Tells entry.request None front (torn_in z) entry) (sym e) (subst (λ (z : List DiskStep). Tells entry.request None z (torn_in (Some stop)) entry) first t) in
    let are' : AreStepsOf grain w entry.request (front ++ step ∷ back) = subst (λ (z : Request). AreStepsOf grain w z (front ++ step ∷ back)) (sym is) (subst (AreStepsOf grain w r) split are) in
    subst (λ (z : Request). AreActionsOf grain w rows entry (actions_stopped grain rows z front step torn)) is (are_stopped front back step torn are' told)

module _ (grain : GrainSize) (w : Whole) (least : List Row) (place : ℕ) (doing : Doing) (begun old : LaneView) (steps : List DiskStep) (before q : Point) (h : IsInHand grain w least place doing begun old steps before None q)
    (actions : List Action) (a : Acted grain (request_of doing.steps.ask) steps (steps_done doing.steps) doing.steps.stop None before.kept.rows q.kept.rows actions) where
  abbrev s : Steps
  s = doing.steps

  abbrev r : Request
  r = request_of doing.steps.ask

  abbrev g : ℕ
  g = number_of grain (request_of doing.steps.ask)

  abbrev n : ℕ
  n = steps_done doing.steps

  abbrev spot : Spot
  spot = spot_in grain w (request_of doing.steps.ask)

  abbrev rows : List Row
  rows = before.kept.rows

  so_far_on : s.stop ≡ None → SoFar grain rows r steps n None None actions
  so_far_on e = subst (λ (o : Option Stop). SoFar grain rows r steps n o None actions) e a.so_far

  -- ---- a write is marked

  pub marked_so : (part : WritePart) → next_of s ≡ Own part → list_any (is_unmarked part.volume.0 s.grain.0) q.kept.rows ≡ true →
      Acted grain r steps n s.stop None rows (noted (Changing part.volume s.grain) q).kept.rows (actions ++ Note (Changing part.volume s.grain) ∷ [])
  marked_so part e due =
      let o : IsOwnNext grain w least place doing begun old steps before q h part = own_next grain w least place doing begun old steps before q h part e in
      let is : s.grain.0 ≡ g = grain_is grain w least place doing begun old steps before q h in
      let due' : list_any (is_unmarked o.step.volume g) q.kept.rows ≡ true = (λ i. list_any (is_unmarked (sym o.volume i) (sym is i)) q.kept.rows) ∙ due in
      let put = mark_put grain rows r steps w h.begins.steps_are n o.step actions o.next o.is_own (so_far_on o.stop_is) (ap (list_any (is_unmarked o.step.volume g)) a.rows_are ∙ due') in
      let named : SoFar grain rows r steps n s.stop None (actions ++ Note (mark_at o.step.volume g) ∷ []) =
      subst (λ (z : Option Stop). SoFar grain rows r steps n z None (actions ++ Note (mark_at o.step.volume g) ∷ [])) (sym o.stop_is) put in
      let same : mark_at o.step.volume g ≡ mark_at part.volume.0 s.grain.0 = λ i. mark_at (sym o.volume i) (sym is i) in
      record {
        so_far = subst (λ (x : MetaRecord). SoFar grain rows r steps n s.stop None (actions ++ Note x ∷ [])) same named;
        rows_are = noted_rows rows q.kept.rows actions (Changing part.volume s.grain) a.rows_are;
      }

  -- ---- a move that copies nothing is made

  abbrev AtDoing : Doing → Option MetaRecord → List Row → List Action → Type 0
  AtDoing d due now more = Acted grain (request_of d.steps.ask) steps (steps_done d.steps) d.steps.stop due before.kept.rows now more

  pub uncopied_so : (m : Move) → next_of s ≡ NextMove m → copies_nothing old s.place m ≡ true → Acted grain r steps (n + 1) None None rows (noted (uncopied m) q).kept.rows (actions ++ Note (uncopied m) ∷ [])
  uncopied_so m e copies =
      let x : IsAlone grain w least place doing begun old steps before q h m = alone grain w least place doing begun old steps before q h m e copies in
      record {
        so_far = uncopied_put grain rows r steps n x.step m actions x.next x.move x.calls (so_far_on x.stop_is);
        rows_are = noted_rows rows q.kept.rows actions (uncopied m) a.rows_are;
      }

  pub moved_so : (m : Move) (end : StepEnd) (doing_new : Doing) (new : LaneView) → next_of s ≡ NextMove m → copies_nothing old s.place m ≡ true → IsNextStep doing old end doing_new new →
      AtDoing doing_new None (noted (uncopied m) q).kept.rows (actions ++ Note (uncopied m) ∷ [])
  moved_so m end doing_new new e copies next =
      let at : Next → Doing = λ (z : Next). record doing { steps = after_step z end doing.steps } in
      let is : doing_new ≡ at (NextMove m) = next.after ∙ ap at e in
      let u : IsUnderWay begun (at (NextMove m)) new = subst (λ (d : Doing). IsUnderWay begun d new) is (next.way begun h.under) in
      let on : end.stop ≡ None = goes_on grain w least place doing begun old steps before q h m e copies end new u (next.moved m e) in
      let c = move_comes s.stop s.written s.made s.planned.moves s.ask m e in
      let put = uncopied_so m e copies in
      let now : List Row = (noted (uncopied m) q).kept.rows in
      let more : List Action = actions ++ Note (uncopied m) ∷ [] in
      let index : n + 1 ≡ s.made + 1 + own_done None s.written =
      let few = index_of s.made s.stop s.written c.stop_is c.written_is in let b : s.made + 1 + own_done None s.written ≡ s.made + 1 + 0 = ap (λ (z : Bool). s.made + 1 + own_done None z) c.written_is in omega (arith, few, b) in
      let here : Acted grain r steps (s.made + 1 + own_done None s.written) None None rows now more = subst (λ (k : ℕ). Acted grain r steps k None None rows now more) index put in
      let there : AtDoing (at (NextMove m)) None now more =
      subst (λ (o : Option Stop). Acted grain r steps (cond (is_some o) s.made (s.made + 1) + own_done o s.written) o None rows now more) (sym on) here in
      subst (λ (d : Doing). AtDoing d None now more) (sym is) there

  -- ---- a step of data

  abbrev pub IsSo : Doing → Option MetaRecord → Type 0
  IsSo d due = (more : List Action) × AtDoing d due q.kept.rows more × ((half : ℕ) (m : Meter) → after_actions half m more ≡ after_actions half m actions)

  -- the next step, which needs no mark
  abbrev IsFree : DiskStep → Type 0
  IsFree step = step.move ≡ None → list_any (is_unmarked step.volume g) q.kept.rows ≡ false

  next_move : (m : Move) → next_of s ≡ NextMove m → (step : DiskStep) × IsNext steps n step × IsFree step
  next_move m e =
      let c = move_comes s.stop s.written s.made s.planned.moves s.ask m e in
      let ms : List Move = drop (s.made + 1) s.planned.moves in
      let b : MadeAt spot (part_at grain w place) (slot grain w least place doing begun old steps before q h) s (m ∷ ms) old.chains old.grains =
      made_so grain w least place doing begun old steps before q h (m ∷ ms) c.stop_is c.written_is c.left in
      let y = next_slot spot m ms b.rest b.rest_are in
      let step : DiskStep = step_of_move spot y.0 in
      let back : List DiskStep = map (step_of_move spot) y.1 ++ owns grain w least place doing begun old steps before q h in
      let split : steps ≡ steps_in grain w r b.done ++ step ∷ back =
      split_at grain w least place doing begun old steps before q h b.done (y.0 ∷ y.1) (b.split ∙ (λ i. b.done ++ y.2 i)) in
      let counted : length (steps_in grain w r b.done) ≡ s.made = count_at grain w least place doing begun old steps before q h b.done b.count in (
        step,
        record { front = steps_in grain w r b.done; back = back; split = split; count = counted ∙ sym (index_of s.made s.stop s.written c.stop_is c.written_is) },
        λ none. absurd (some_none step.move (move_in spot y.0) refl none),
      )

  next_own : (part : WritePart) → next_of s ≡ Own part → NeedsNoMark q.kept.rows s.grain (Own part) → (step : DiskStep) × IsNext steps n step × IsFree step
  next_own part e needs =
      let o : IsOwnNext grain w least place doing begun old steps before q h part = own_next grain w least place doing begun old steps before q h part e in
      let is : s.grain.0 ≡ g = grain_is grain w least place doing begun old steps before q h in
      (o.step, o.next, λ none. (λ i. list_any (is_unmarked (sym o.volume i) (sym is i)) q.kept.rows) ∙ needs)

  data_by : (step : DiskStep) (k : ℕ) (stop : Option Stop) (due : Option MetaRecord) (more : List Action) → IsNext steps n step → IsFree step → s.stop ≡ None → EndsSo n k stop due → SoFar grain rows r steps k stop due more →
      Acted grain r steps k stop due rows q.kept.rows more × ((half : ℕ) (m : Meter) → after_actions half m more ≡ after_actions half m actions)
  data_by step k stop due more next free none ends x =
      let same : on_metadata more ≡ on_metadata actions =
      data_costs grain rows r steps w h.begins.steps_are n k step stop due actions more next (so_far_on none) (λ is. ap (list_any (is_unmarked step.volume g)) a.rows_are ∙ free is) x ends in (
        record { so_far = x; rows_are = rows_same rows more actions same ∙ a.rows_are },
        λ half m. costs_same half m more actions same,
      )

  data_next : (z : Next) (end : StepEnd) (d : Doing) (new : LaneView) (x : Point) → next_of s ≡ z → z ≢ Over → NeedsNoMark q.kept.rows s.grain z → d ≡ record doing { steps = after_step z end doing.steps } →
      IsInHand grain w least place d begun new steps before (record_after z end s.grain) x → IsSo d (record_after z end s.grain)
  data_next (NextMove m) end d new x e some needs is h' =
      let at : Doing = record doing { steps = after_step (NextMove m) end doing.steps } in
      let due : Option MetaRecord = record_after (NextMove m) end s.grain in
      let c = move_comes s.stop s.written s.made s.planned.moves s.ask m e in
      let k : ℕ = cond (is_some end.stop) s.made (s.made + 1) + own_done end.stop s.written in
      let y = next_move m e in
      let here = (subst (λ (z : Doing). IsInHand grain w least place z begun new steps before due x) is h').came in
      let f = so_far_of grain rows r steps w before k end.stop due x here in
      let ends : EndsSo n k end.stop due = subst (λ (j : ℕ). EndsSo j k end.stop due) (sym (index_of s.made s.stop s.written c.stop_is c.written_is)) (move_so m s.made end.calls s.grain s.written end.stop c.written_is) in
      let b = data_by y.0 k end.stop due f.0 y.1 y.2 c.stop_is ends f.1 in
      subst (λ (z : Doing). IsSo z due) (sym is) (f.0, b.0, b.1)
  data_next (Own part) end d new x e some needs is h' =
      let at : Doing = record doing { steps = after_step (Own part) end doing.steps } in
      let due : Option MetaRecord = record_after (Own part) end s.grain in
      let c = own_comes s.stop s.written s.made s.planned.moves s.ask part e in
      let k : ℕ = s.made + own_done end.stop (not (is_some end.stop)) in
      let y = next_own part e needs in
      let here = (subst (λ (z : Doing). IsInHand grain w least place z begun new steps before due x) is h').came in
      let f = so_far_of grain rows r steps w before k end.stop due x here in
      let ends : EndsSo n k end.stop due = subst (λ (j : ℕ). EndsSo j k end.stop due) (sym (index_of s.made s.stop s.written c.stop_is c.written_is)) (own_so part s.made end.calls s.grain end.stop) in
      let b = data_by y.0 k end.stop due f.0 y.1 y.2 c.stop_is ends f.1 in
      subst (λ (z : Doing). IsSo z due) (sym is) (f.0, b.0, b.1)
  data_next Over end d new x e some needs is h' = absurd (some refl)

  pub data_so : (end : StepEnd) (doing_new : Doing) (new : LaneView) → IsNextStep doing old end doing_new new → next_of s ≢ Over → NeedsNoMark q.kept.rows s.grain (next_of s) →
      IsStepped grain w least place doing_new begun old new steps before (record_after (next_of s) end s.grain) q → IsSo doing_new (record_after (next_of s) end s.grain)
  data_so end doing_new new next some needs x = data_next (next_of s) end doing_new new (with_disks x.disks q) refl some needs next.after x.in_hand

  -- ---- it is over

  ends_by : (over : next_of s ≡ Over) (entry : Entry) (x : IsEntryOf doing entry) (o : Option Stop) → s.stop ≡ o → AreActionsOf grain w rows entry actions
  ends_by over entry x None e =
      let all : actions ≡ actions_of_steps rows g steps =
      all_done grain rows r steps w h.begins.steps_are n actions (all_counted grain w least place doing begun old steps before q h over entry x e) (so_far_on e) in
      subst (AreActionsOf grain w rows entry) (ap (λ (z : Request). actions_of_steps rows (number_of grain z) steps) x.request ∙ sym all)
      (are_whole steps (subst (λ (z : Request). AreStepsOf grain w z steps) (sym x.request) h.begins.steps_are) (tells_whole grain w least place doing begun old steps before q h over entry x e))
  ends_by over entry x (Some stop) e =
      ends_stopped grain w r rows steps entry n s.stop stop actions e a.so_far x.request h.begins.steps_are (tells_stopped grain w least place doing begun old steps before q h over entry x stop e)

  pub ends_so : next_of s ≡ Over → (entry : Entry) → IsEntryOf doing entry → AreActionsOf grain w rows entry actions
  ends_so over entry x = ends_by over entry x s.stop refl
