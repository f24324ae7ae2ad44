-- What the next step of data of an entry in hand leaves: a move, or the write itself.
use Rattle.std.proofs.Common.{◌≡◌, ℕ, ◌+◌, ◌≤◌, ◌==◌, ◌||◌, Bool, true, false, cond, is_some, if◌then◌else◌, take, drop, Option, Some, None, List, [], ◌∷◌, ◌++◌, map, refl, sym, ap, subst, ◌∙◌, arith}
use Rattle.std.specs.List.{list_any}
use Rattle.fc_base.specs.Sheet.{slot_at}
use Rattle.fc_base.specs.declared.request.Move.{Move}
use Rattle.fc_base.specs.declared.request.Request.{Request}
use Rattle.fc_base.specs.declared.request.Torn.{Torn}
use Rattle.fc_base.specs.declared.request.WritePart.{WritePart}
use Rattle.fc_base.specs.declared.size.GrainSize.{GrainSize}
use Rattle.fc_changed.specs.Row.{Row}
use Rattle.fc_entry.specs.Picture.{Content, grain_of_block, is_lost}
use Rattle.fc_entry.specs.Writes.{covers_grain}
use Rattle.fc_grains.specs.Volumes.{stored}
use Rattle.fc_image.specs.declared.record.MetaRecord.{MetaRecord}
use Rattle.fc_image.specs.declared.record.MetaRecord.TheVariants.{Changing, Written}
use Rattle.fc_kept.specs.Actions.{Action.Data, Action.Note, is_unmarked, mark_of, record_of_move}
use Rattle.fc_kept.specs.Marks.{asked_write}
use Rattle.fc_lane.specs.Doing.{IsUnderWay}
use Rattle.fc_lane.specs.Lane.{LaneView}
use Rattle.fc_lane.specs.declared.doing.Doing.{Doing}
use Rattle.fc_legal.specs.Whole.{Whole, lane_at, part_at}
use Rattle.fc_parts.proofs.Numbers.{all_place}
use Rattle.fc_pictures.specs.Law.{now_of}
use Rattle.fc_rules.specs.LaneTold.{LaneOf, LaneTold, place_of}
use Rattle.fc_rules.specs.Spot.{Spot, move_in}
use Rattle.fc_rules.specs.Steps.{DiskStep, own_step, step_of_move}
use Rattle.fc_sheets.proofs.Finding.{live_place_at}
use Rattle.fc_steps.specs.Asking.{request_of}
use Rattle.fc_steps.specs.UnderWay.{MoveStored, OwnStored, after_step, next_of}
use Rattle.fc_steps.specs.declared.ask.Ask.{Ask}
use Rattle.fc_steps.specs.declared.ask.Ask.TheVariants.{Write}
use Rattle.fc_steps.specs.declared.body.StepEnd.{StepEnd}
use Rattle.fc_steps.specs.declared.stepping.Next.TheVariants.{Move as NextMove, Own}
use Rattle.fc_steps.specs.declared.stepping.Steps.{Steps}
use Rattle.fc_steps.specs.declared.stop.Stop.{Stop}
use Rattle.fc_steps.specs.declared.stop.Stop.TheVariants.{Failed}
use Rattle.fc_steps.proofs.UnderWay.{MoveComes, OwnComes, move_comes, own_comes, way_can}
use Rattle.law_crash.specs.Doing.{content_of, number_of, with_part}
use Rattle.law_crash.specs.Points.{Point}
use Rattle.law_crash.proofs.Making.{spot_in, steps_in}
use Rattle.law_noted.specs.DataSteps.{IsInHand, NeedsNoMark, copies_nothing}
use Rattle.law_noted.specs.Records.{record_by}
use Rattle.law_noted.proofs.DataCame.{before_move, before_own, no_mark}
use Rattle.law_noted.proofs.DataEnds.{AtStep, HasEnded}
use Rattle.law_noted.proofs.DataInHand.{count_at, disked_before, doable, done_so, grain_is, lane_is_of, lost_before, made_so, owns, place_is, shown, slot, slot_whole, split_at, torn_so, way}
use Rattle.law_noted.proofs.DataMoves.{moved_by, own_by, stores_as}
use Rattle.law_noted.proofs.NextSteps.{MadeAt, copies_some, move_reads, next_slot, none_next, torn_in_step}
use Rattle.law_noted.proofs.Places.{owns_asked, slot_all}

some_calls : (b : Bool) → 1 ≤ cond b 1 2
some_calls true = omega arith
some_calls false = omega arith

module _ (grain : GrainSize) (w : Whole) (least : List Row) (place : ℕ) (doing : Doing) (begun old : LaneView) (steps : List DiskStep) (before q : Point) (h : IsInHand grain w least place doing begun old steps before None q)
    (end : StepEnd) (new : LaneView) where
  abbrev l : LaneOf
  l = lane_at grain w place

  abbrev told : LaneTold
  told = part_at grain w place

  abbrev s : Steps
  s = doing.steps

  abbrev r : Request
  r = request_of doing.steps.ask

  abbrev g : ℕ
  g = number_of grain (request_of doing.steps.ask)

  abbrev spot : Spot
  spot = spot_in grain w (request_of doing.steps.ask)

  abbrev at : ℕ
  at = slot grain w least place doing begun old steps before q h

  abbrev Ended : ℕ → Option Stop → Option MetaRecord → Type 0
  Ended n stop due = HasEnded grain w r before.kept.rows steps place before q old.grains new.grains n stop due

  -- ---- a move

  module _ (m : Move) (e : next_of s ≡ NextMove m) where
    move_is_next : MoveComes s.stop s.written s.made s.planned.moves m
    move_is_next = move_comes s.stop s.written s.made s.planned.moves s.ask m e

    abbrev left : List Move
    left = drop (s.made + 1) s.planned.moves

    made : MadeAt spot told at s (m ∷ left) old.chains old.grains
    made = made_so grain w least place doing begun old steps before q h (m ∷ left) move_is_next.stop_is move_is_next.written_is move_is_next.left

    next : (k : ℕ) × (more : List ℕ) × (made.rest ≡ k ∷ more) × (m ≡ move_in spot k)
    next = next_slot spot m left made.rest made.rest_are

    abbrev step : DiskStep
    step = step_of_move spot next.0

    abbrev move : Move
    move = move_in spot next.0

    abbrev back : List DiskStep
    back = map (step_of_move spot) next.1 ++ owns grain w least place doing begun old steps before q h

    split : steps ≡ steps_in grain w r made.done ++ step ∷ back
    split = split_at grain w least place doing begun old steps before q h made.done (next.0 ∷ next.1) (made.split ∙ (λ i. made.done ++ next.2 i))

    volume_is : m.volume.0 ≡ step.volume
    volume_is = ap (λ (z : Move). z.volume.0) next.3

    module _ (st : MoveStored old.chains.sheet.slots s.place m end (stored old.grains.volumes) (stored new.grains.volumes)) (copies : copies_nothing old s.place m ≡ false) where
      abbrev content : Content
      content = stored old.grains.volumes (slot_at old.chains.sheet.slots st.source).volume s.place

      -- what it reads is what its volume shows
      shows : content ≡ now_of w.picture step.volume g
      shows =
          let can = way_can l told at begun.chains begun.grains s old.chains old.grains (way grain w least place doing begun old steps before q h) m move_is_next in
          let reads : now_of told.picture m.volume.0 s.place ≡ content =
          move_reads old.chains told.picture old.grains.volumes s.place can.0 st.slot st.source m made.stands can.1 st.slot_is st.holds in
          sym reads ∙ (shown grain w least place doing begun old steps before q h m.volume.0 ∙ ap (λ (v : ℕ). now_of w.picture v g) volume_is)

      -- it is out of place, and something is there
      some : (m.in_place ≡ false) × (is_lost content ≡ false)
      some = copies_some old s.place st.slot st.source m copies st.slot_is st.holds

      out : move.in_place ≡ false
      out = ap (λ (z : Move). z.in_place) (sym next.3) ∙ some.0

      whole : is_lost (now_of w.picture step.volume g) ≡ false
      whole = ap is_lost (sym shows) ∙ some.1

      two : step.calls ≡ 2
      two =
          let there : is_lost (spot.now step.volume) ≡ false = ap (λ (z : ℕ). is_lost (now_of w.picture step.volume z)) (all_place grain g) ∙ whole in
          (λ i. cond (out i || there i) 0 2)

      at_move : AtStep grain w r before.kept.rows steps before q s.made made.done step (record_of_move step move)
      at_move =
          let calls = two in
          record {
            back = back;
            split = split;
            count = count_at grain w least place doing begun old steps before q h made.done made.count;
            calls = omega (arith, calls);
            act = ap (λ (n : ℕ). (if n == 0 then [] else Data step ∷ []) ++ Note (record_of_move step move) ∷ []) two;
            ready = before_move grain w r before.kept.rows steps before (steps_in grain w r made.done) step move q refl
                (done_so grain w least place doing begun old steps before q h made.done back step move_is_next.stop_is move_is_next.written_is split made.count);
            doable = doable grain w least place doing begun old steps before q h;
            disked = disked_before grain w least place doing begun old steps before q h;
            lost = lost_before grain w least place doing begun old steps before q h;
          }

      pub move_ended : IsUnderWay begun (record doing { steps = after_step (NextMove m) end s }) new → Ended (cond (is_some end.stop) s.made (s.made + 1)) end.stop (record_by (NextMove m) end.stop end.calls s.grain)
      move_ended u =
          let torn : (t : Torn) → end.stop ≡ Some (Failed (Some t)) → t ≡ torn_in_step g step = λ t is.
          torn_so grain w least place doing begun old steps before q h (record doing { steps = after_step (NextMove m) end s }) new t made.done back step u refl
          (ap (λ (o : Option Stop). take (cond (is_some o) s.made (s.made + 1)) s.planned.moves) is ∙ made.made_are) is split in
          let stores = stores_as m.volume.0 step.volume s.place (place_of l g) content (now_of w.picture step.volume g) m.in_place false end.calls end.stop (stored old.grains.volumes) (stored new.grains.volumes)
          volume_is (place_is grain w least place doing begun old steps before q h) shows some.0 st.stores in
          subst (λ (z : Move). Ended (cond (is_some end.stop) s.made (s.made + 1)) end.stop (record_by (NextMove z) end.stop end.calls s.grain)) (sym next.3)
          (moved_by grain w r before.kept.rows steps place before q old.grains new.grains s.made made.done next.0 at_move (lane_is_of grain w least place doing begun old steps before q h) h.inside out two whole
          end.stop end.calls s.grain torn stores)

  -- ---- the write itself

  module _ (part : WritePart) (e : next_of s ≡ Own part) where
    own_is_next : OwnComes s.stop s.written s.made s.planned.moves s.ask part
    own_is_next = own_comes s.stop s.written s.made s.planned.moves s.ask part e

    all_made : MadeAt spot told at s [] old.chains old.grains
    all_made = made_so grain w least place doing begun old steps before q h [] own_is_next.stop_is own_is_next.written_is own_is_next.left

    abbrev own : DiskStep
    own = own_step grain spot part at

    own_split : steps ≡ steps_in grain w r all_made.done ++ own ∷ []
    own_split =
        let last : owns grain w least place doing begun old steps before q h ≡ own ∷ [] = ap (λ (a : Ask). owns_asked grain spot a at) own_is_next.ask_is in
        split_at grain w least place doing begun old steps before q h all_made.done [] (all_made.split ∙ (λ i. all_made.done ++ none_next spot all_made.rest all_made.rest_are i))
        ∙ ap (λ (z : List DiskStep). steps_in grain w r all_made.done ++ z) last

    own_volume : part.volume.0 ≡ own.volume
    own_volume =
        let live : slot_all grain w place h.inside (Write part) ≡ Some at =
        ap (slot_all grain w place h.inside) (sym own_is_next.ask_is) ∙ slot_whole grain w least place doing begun old steps before q h in
        sym (live_place_at w.books.sheet.slots part.volume.0 at live).of_volume

    own_place : place_of l (grain_of_block grain part.block) ≡ place_of l g
    own_place = ap (λ (a : Ask). place_of l (number_of grain (request_of a))) (sym own_is_next.ask_is)

    -- what is written is what the volume shows, with the bytes that are asked for
    own_content : with_part grain (Some part) (now_of told.picture part.volume.0 (place_of l (grain_of_block grain part.block))) ≡ content_of grain w r own
    own_content =
        let now : Content = now_of w.picture own.volume g in
        let inner : now_of told.picture part.volume.0 (place_of l (grain_of_block grain part.block)) ≡ now =
        ap (now_of told.picture part.volume.0) (own_place ∙ sym (place_is grain w least place doing begun old steps before q h))
        ∙ (shown grain w least place doing begun old steps before q h part.volume.0 ∙ ap (λ (v : ℕ). now_of w.picture v g) own_volume) in
        ap (with_part grain (Some part)) inner ∙ ap (λ (o : Option WritePart). with_part grain o now) (ap (λ (a : Ask). asked_write (request_of a)) (sym own_is_next.ask_is))

    number_is : s.grain.0 ≡ g
    number_is = grain_is grain w least place doing begun old steps before q h

    no_marks : NeedsNoMark q.kept.rows s.grain (Own part) → mark_of q.kept.rows own.volume g ≡ []
    no_marks needs =
        let unmarked : list_any (is_unmarked own.volume g) q.kept.rows ≡ false = (λ i. list_any (is_unmarked (sym own_volume i) (sym number_is i)) q.kept.rows) ∙ needs in
        ap (λ (z : Bool). if z then Note (Changing record { 0 = own.volume } record { 0 = g }) ∷ [] else []) unmarked

    at_own : NeedsNoMark q.kept.rows s.grain (Own part) → AtStep grain w r before.kept.rows steps before q s.made all_made.done own (Written record { 0 = own.volume } record { 0 = g })
    at_own needs =
        record {
          back = [];
          split = own_split;
          count = count_at grain w least place doing begun old steps before q h all_made.done all_made.count;
          calls = some_calls (covers_grain grain part);
          act = refl;
          ready = before_own grain w r before.kept.rows steps before (steps_in grain w r all_made.done) own q refl
              (λ did. no_mark grain w r before.kept.rows steps before all_made.done q (λ (z : List Row). mark_of z own.volume g ≡ []) refl (no_marks needs) did)
              (done_so grain w least place doing begun old steps before q h all_made.done [] own own_is_next.stop_is own_is_next.written_is own_split all_made.count);
          doable = doable grain w least place doing begun old steps before q h;
          disked = disked_before grain w least place doing begun old steps before q h;
          lost = lost_before grain w least place doing begun old steps before q h;
        }

    pub own_ended : OwnStored l told part end.stop (stored old.grains.volumes) (stored new.grains.volumes) → NeedsNoMark q.kept.rows s.grain (Own part) → IsUnderWay begun (record doing { steps = after_step (Own part) end s }) new →
        Ended (cond (is_some end.stop) s.made (s.made + 1)) end.stop (record_by (Own part) end.stop end.calls s.grain)
    own_ended st needs u =
        let torn : (t : Torn) → end.stop ≡ Some (Failed (Some t)) → t ≡ torn_in_step g own = λ t is.
        torn_so grain w least place doing begun old steps before q h (record doing { steps = after_step (Own part) end s }) new t all_made.done [] own u refl all_made.made_are is own_split in
        own_by grain w r before.kept.rows steps place before q old.grains new.grains s.made all_made.done own told part (at_own needs) (lane_is_of grain w least place doing begun old steps before q h) h.inside own_volume own_place own_content
        end.stop end.calls s.grain number_is torn st
