-- How an entry in hand ends: what its lane tells, where its history leads, and which rows metadata has then.
use Rattle.std.proofs.Common.{◌≡◌, ℕ, ◌+◌, ◌≤◌, Bool, true, false, cond, take, drop, Option, Some, None, List, [], ◌∷◌, ◌++◌, length, map, fold, refl, sym, ap, subst, ◌∙◌, arith, length-append}
use Rattle.std.proofs.lemmas.List.{length-map, length-take-le}
use Rattle.fc_base.specs.declared.ids.GrainNo.{GrainNo}
use Rattle.fc_base.specs.declared.ids.VolId.{VolId}
use Rattle.fc_base.specs.declared.request.Move.{Move}
use Rattle.fc_base.specs.declared.request.Request.{Request}
use Rattle.fc_base.specs.declared.request.Side.{Side}
use Rattle.fc_base.specs.declared.request.Side.TheVariants.{Now, Under}
use Rattle.fc_base.specs.declared.request.Torn.{Torn}
use Rattle.fc_base.specs.declared.request.WritePart.{WritePart}
use Rattle.fc_base.specs.declared.size.GrainSize.{GrainSize}
use Rattle.fc_changed.specs.Notes.{Note}
use Rattle.fc_changed.specs.Notes.Note.{Wrote}
use Rattle.fc_changed.specs.Row.{Row, after_note}
use Rattle.fc_entry.specs.Picture.{grain_of_block}
use Rattle.fc_entry.specs.declared.entry.Entry.{Entry}
use Rattle.fc_follow.specs.Following.{rows_entry, side_notes, torn_notes, write_notes}
use Rattle.fc_kept.specs.Marks.{asked_write, least_entry}
use Rattle.fc_kept.specs.Prefix.{AreStepsOf}
use Rattle.fc_lane.specs.Lane.{LaneView}
use Rattle.fc_lane.specs.declared.doing.Doing.{Doing}
use Rattle.fc_legal.specs.Steps.{Step, after_access}
use Rattle.fc_legal.specs.Whole.{Whole, lane_at, part_at, single_lane}
use Rattle.fc_marks.specs.Marks.{marked}
use Rattle.fc_marks.specs.declared.marks.Mark.{Mark}
use Rattle.fc_parts.proofs.Numbers.{all_place}
use Rattle.fc_rules.specs.LaneRight.{done_write}
use Rattle.fc_rules.specs.LaneTold.{LaneOf, LaneTold}
use Rattle.fc_rules.specs.Spot.{Spot, move_in}
use Rattle.fc_rules.specs.Steps.{DiskStep, moves_of, step_of_move}
use Rattle.fc_steps.specs.Asking.{done_of, reply_in, request_of, steps_entry}
use Rattle.fc_steps.specs.StepsEnd.{StepsEnd, torn_in}
use Rattle.fc_steps.specs.UnderWay.{moving_asked, move_next, next_of, next_unless, own_next, spot_asked, steps_asked}
use Rattle.fc_steps.specs.declared.ask.Ask.{Ask}
use Rattle.fc_steps.specs.declared.ask.Ask.TheVariants.{Write, Copy, Clean}
use Rattle.fc_steps.specs.declared.stepping.Next.{Next}
use Rattle.fc_steps.specs.declared.stepping.Next.TheVariants.{Move as NextMove, Own, Over}
use Rattle.fc_steps.specs.declared.stepping.Steps.{Steps}
use Rattle.fc_steps.specs.declared.stop.Stop.{Stop}
use Rattle.fc_steps.specs.declared.stop.Stop.TheVariants.{Failed, NoMemory}
use Rattle.fc_steps.proofs.UnderWay.{way_ends}
use Rattle.law_crash.specs.Doing.{Tears, Tells, chains_behind, number_of}
use Rattle.law_crash.specs.Points.{Point}
use Rattle.law_crash.specs.Running.{Does, Run.more, Takes}
use Rattle.law_crash.proofs.Making.{spot_in}
use Rattle.law_noted.specs.Came.{Came, Came.behind, Came.marked as came_marked, Came.stopped, own_done, steps_done}
use Rattle.law_noted.specs.DataSteps.{IsInHand}
use Rattle.law_noted.specs.Going.{IsEntryOf, marks_left, torn_side, volume_by, volume_noted}
use Rattle.law_noted.specs.Runs.{HasRun}
use Rattle.law_noted.proofs.DataInHand.{grain_is, owns, slot, steps_are, way}
use Rattle.law_noted.proofs.Ending.{end_law_holds}
use Rattle.law_noted.proofs.MarkRows.{forgotten}
use Rattle.law_noted.proofs.Marking.{row_law_holds}
use Rattle.law_noted.proofs.Nexts.{clean_step, copy_step}
use Rattle.law_noted.proofs.Places.{owns_asked, spot_all, steps_split}

-- ---- how many steps were done

-- no more than there are
came_few : (grain : GrainSize) (w : Whole) (r : Request) (rows : List Row) (steps : List DiskStep) (p : Point) (n : ℕ) (q : Point) → Came grain w r rows steps p n None None q → n ≤ length steps
came_few grain w r rows steps p n q (behind front back z split did) =
    let e : length steps ≡ length front + length back = ap length split ∙ length-append front back in
    omega (arith, e)
came_few grain w r rows steps p n q (came_marked front own z split is_own did) =
    let e : length steps ≡ length front + length (own ∷ []) = ap length split ∙ length-append front (own ∷ []) in
    omega (arith, e)

abbrev is_over : Next → Bool
is_over (NextMove m) = false
is_over (Own part) = false
is_over Over = true

-- a write that is over was done
wrote : (written : Bool) (left : List Move) (part : WritePart) → next_unless None written (move_next left (own_next (Write part))) ≡ Over → written ≡ true
wrote true left part e = refl
wrote false [] part e = absurd (let f : false ≡ true = ap is_over e in cc)
wrote false (m ∷ left) part e = absurd (let f : false ≡ true = ap is_over e in cc)

-- so all were done
enough : (ask : Ask) (grain : GrainSize) (spot : Spot) (x : ℕ) (written : Bool) (left : List Move) (made count all : ℕ) → next_unless None written (move_next left (own_next ask)) ≡ Over → count ≤ made →
    all ≡ count + length (owns_asked grain spot ask x) → made + cond written 1 0 ≤ all → made + cond written 1 0 ≡ all
enough (Write part) grain spot x written left made count all over few is most =
    let one : made + cond written 1 0 ≡ made + 1 = ap (λ (b : Bool). made + cond b 1 0) (wrote written left part over) in
    omega (arith, few, is, most, one)
enough (Copy m g) grain spot x written left made count all over few is most = omega (arith, few, is, most)
enough (Clean m g) grain spot x written left made count all over few is most = omega (arith, few, is, most)

-- ---- the moves of the first steps

first_moves : (spot : Spot) (owns : List DiskStep) (ks : List ℕ) (n : ℕ) → n ≤ length ks → moves_of (take n (map (step_of_move spot) ks ++ owns)) ≡ take n (map (move_in spot) ks)
first_moves spot owns ks ℕ.zero le = refl
first_moves spot owns [] (ℕ.suc n) le = absurd (omega (arith, le))
first_moves spot owns (k ∷ ks) (ℕ.suc n) le = ap (λ (ms : List Move). move_in spot k ∷ ms) (first_moves spot owns ks n (omega (arith, le)))

-- all of them
moves_all : (grain : GrainSize) (spot : Spot) (ask : Ask) (x : ℕ) (js : List ℕ) → moves_of (map (step_of_move spot) js ++ owns_asked grain spot ask x) ≡ map (move_in spot) js
moves_all grain spot (Write part) x [] = refl
moves_all grain spot (Copy m g) x [] = refl
moves_all grain spot (Clean m g) x [] = refl
moves_all grain spot ask x (j ∷ js) = ap (λ (ms : List Move). move_in spot j ∷ ms) (moves_all grain spot ask x js)

-- ---- what is told

takes_self : (ask : Ask) → Takes (request_of ask) (request_of ask)
takes_self (Write part) = refl
takes_self (Copy m g) = refl
takes_self (Clean m g) = refl

done_is : (ask : Ask) → done_write (request_of ask) (done_of ask) ≡ asked_write (request_of ask)
done_is (Write part) = refl
done_is (Copy m g) = refl
done_is (Clean m g) = refl

none_is : (ask : Ask) (stop : Stop) → done_write (request_of ask) (reply_in (done_of ask) (Some stop)) ≡ None
none_is (Write part) (Failed torn) = refl
none_is (Write part) NoMemory = refl
none_is (Copy m g) (Failed torn) = refl
none_is (Copy m g) NoMemory = refl
none_is (Clean m g) (Failed torn) = refl
none_is (Clean m g) NoMemory = refl

-- ---- what is noted

abbrev notes_of : Option VolId → GrainNo → List Note
notes_of None grain = []
notes_of (Some volume) grain = Wrote volume.0 grain.0 ∷ []

rows_left : (marks : List Mark) (rows kept : List Row) (o : Option VolId) (grain : GrainNo) (notes : List Note) → notes ≡ notes_of o grain → fold after_note kept notes ≡ kept → kept ≡ marked marks rows →
    kept ≡ marked (marks_left o grain marks) (fold after_note rows notes)
rows_left marks rows kept None grain notes e again same = same ∙ ap (λ (ns : List Note). marked marks (fold after_note rows ns)) (sym e)
rows_left marks rows kept (Some volume) grain notes e again same =
    let once : after_note kept (Wrote volume.0 grain.0) ≡ kept = ap (fold after_note kept) (sym e) ∙ again in
    let so : after_note (marked marks rows) (Wrote volume.0 grain.0) ≡ marked marks rows = subst (λ (z : List Row). after_note z (Wrote volume.0 grain.0) ≡ z) same once in
    same ∙ (sym (forgotten marks rows volume grain so) ∙ ap (λ (ns : List Note). marked (marks_left (Some volume) grain marks) (fold after_note rows ns)) (sym e))

-- by an entry all of whose steps were done
notes_whole : (grain : GrainSize) (ask : Ask) (written : Bool) (left : List Move) (number : GrainNo) → next_unless None written (move_next left (own_next ask)) ≡ Over → number.0 ≡ number_of grain (request_of ask) →
    write_notes (single_lane grain) (asked_write (request_of ask)) ++ [] ≡ notes_of (volume_by ask None written) number
notes_whole grain (Write part) written left number over n =
    let g : ℕ = grain_of_block grain part.block in
    ap (λ (z : ℕ). Wrote part.volume.0 z ∷ []) (all_place grain g ∙ sym n) ∙ ap (λ (b : Bool). notes_of (cond b (Some part.volume) None) number) (sym (wrote written left part over))
notes_whole grain (Copy m g) written left number over n = refl
notes_whole grain (Clean m g) written left number over n = refl

-- by one that stopped: what it tore, at its grain; a move tears what no volume shows
abbrev SideFits : Ask → Side → Type 0
SideFits (Write part) side = Unit {0}
SideFits (Copy m g) side = side ≡ Under
SideFits (Clean m g) side = side ≡ Under

abbrev TornFits : Ask → GrainNo → Option Torn → Type 0
TornFits ask number None = Unit {0}
TornFits ask number (Some torn) = (torn.grain.0 ≡ number.0) × SideFits ask torn.side

notes_side : (grain : GrainSize) (torn : Torn) (side : Side) (number : GrainNo) → torn.grain.0 ≡ number.0 → side_notes (single_lane grain) torn side ≡ notes_of (torn_side side torn.volume) number
notes_side grain torn Under number e = refl
notes_side grain torn Now number e = ap (λ (z : ℕ). Wrote torn.volume.0 z ∷ []) (all_place grain torn.grain.0 ∙ e)

notes_torn : (grain : GrainSize) (ask : Ask) (stop : Stop) (written : Bool) (number : GrainNo) → TornFits ask number (torn_in (Some stop)) →
    torn_notes (single_lane grain) (torn_in (Some stop)) ≡ notes_of (volume_by ask (Some stop) written) number
notes_torn grain (Write part) (Failed None) written number f = refl
notes_torn grain (Write part) (Failed (Some torn)) written number f = notes_side grain torn torn.side number f.0
notes_torn grain (Write part) NoMemory written number f = refl
notes_torn grain (Copy m g) (Failed None) written number f = refl
notes_torn grain (Copy m g) (Failed (Some torn)) written number f = ap (side_notes (single_lane grain) torn) f.1
notes_torn grain (Copy m g) NoMemory written number f = refl
notes_torn grain (Clean m g) (Failed None) written number f = refl
notes_torn grain (Clean m g) (Failed (Some torn)) written number f = ap (side_notes (single_lane grain) torn) f.1
notes_torn grain (Clean m g) NoMemory written number f = refl

abbrev torn_of : GrainSize → Request → DiskStep → Torn
torn_of grain r step = record { volume = record { 0 = step.volume }; grain = record { 0 = number_of grain r }; side = step.side }

abbrev TornBy : GrainSize → Request → List DiskStep → Option Torn → Type 0
TornBy grain r steps None = Unit {0}
TornBy grain r steps (Some torn) = (front : List DiskStep) × (back : List DiskStep) × (step : DiskStep) × (steps ≡ front ++ step ∷ back) × (torn ≡ torn_of grain r step)

by_tears : (grain : GrainSize) (w : Whole) (r : Request) (steps front back : List DiskStep) (step : DiskStep) (t : Option Torn) (p q : Point) → steps ≡ front ++ step ∷ back → Tears grain w r (chains_behind grain w front) step t p q → TornBy grain r steps t
by_tears grain w r steps front back step None p q split t = tt
by_tears grain w r steps front back step (Some torn) p q split t = (front, back, step, split, t.0)

torn_by : (grain : GrainSize) (w : Whole) (r : Request) (rows : List Row) (steps : List DiskStep) (p : Point) (n : ℕ) (o : Option Stop) (stop : Stop) (q : Point) → o ≡ Some stop → Came grain w r rows steps p n o None q →
    TornBy grain r steps (torn_in (Some stop))
torn_by grain w r rows steps p n o stop q e (behind front back z split did) = absurd cc
torn_by grain w r rows steps p n o stop q e (came_marked front own z split is_own did) = absurd cc
torn_by grain w r rows steps p n o stop q e (stopped front back step why z split x) =
    subst (λ (s : Option Stop). TornBy grain r steps (torn_in s)) e (by_tears grain w r steps front back step (torn_in (Some why)) x.marked z split x.tears)

side_fits : (grain : GrainSize) (w : Whole) (ask : Ask) (steps front back : List DiskStep) (step : DiskStep) → AreStepsOf grain w (request_of ask) steps → steps ≡ front ++ step ∷ back → SideFits ask step.side
side_fits grain w (Write part) steps front back step are split = tt
side_fits grain w (Copy m g) steps front back step are split = (copy_step grain w m g steps front back step are split).2
side_fits grain w (Clean m g) steps front back step are split = (clean_step grain w m g steps front back step are split).2

torn_fits : (grain : GrainSize) (w : Whole) (ask : Ask) (number : GrainNo) (steps : List DiskStep) (t : Option Torn) → AreStepsOf grain w (request_of ask) steps → number.0 ≡ number_of grain (request_of ask) →
    TornBy grain (request_of ask) steps t → TornFits ask number t
torn_fits grain w ask number steps None are n b = tt
torn_fits grain w ask number steps (Some torn) are n b = (
  ap (λ (z : Torn). z.grain.0) b.4 ∙ sym n,
  subst (λ (z : Torn). SideFits ask z.side) (sym b.4) (side_fits grain w ask steps b.0 b.1 b.2 are b.3),
)

module _ (grain : GrainSize) (w : Whole) (least : List Row) (place : ℕ) (doing : Doing) (begun now : LaneView) (steps : List DiskStep) (before q : Point) (h : IsInHand grain w least place doing begun now steps before None q)
    (over : next_of doing.steps ≡ Over) (entry : Entry) (x : IsEntryOf doing entry) where
  abbrev l : LaneOf
  l = lane_at grain w place

  abbrev told : LaneTold
  told = part_at grain w place

  abbrev s : Steps
  s = doing.steps

  abbrev r : Request
  r = request_of doing.steps.ask

  abbrev spot : Spot
  spot = spot_in grain w (request_of doing.steps.ask)

  abbrev at : ℕ
  at = slot grain w least place doing begun now steps before q h

  abbrev ks : List ℕ
  ks = moving_asked spot s.ask at

  spot_same : spot_asked l told s.ask ≡ spot
  spot_same = spot_all grain w place h.inside s.ask (way grain w least place doing begun now steps before q h).asked.can.of_lane

  planned_are : s.planned.moves ≡ map (move_in spot) ks
  planned_are = (way grain w least place doing begun now steps before q h).asked.planned_are ∙ ap (λ (z : Spot). map (move_in z) (moving_asked z s.ask at)) spot_same

  -- ---- all were done

  ends_none : s.stop ≡ None → take s.made s.planned.moves ≡ moves_of steps
  ends_none none =
      let y = way_ends l told at begun.chains begun.grains s now.chains now.grains (way grain w least place doing begun now steps before q h) over in
      let ends : StepsEnd (spot_asked l told s.ask) (steps_asked l (spot_asked l told s.ask) s.ask at) (take s.made s.planned.moves) s.calls None begun.grains now.grains =
      subst (λ (o : Option Stop). StepsEnd (spot_asked l told s.ask) (steps_asked l (spot_asked l told s.ask) s.ask at) (take s.made s.planned.moves) s.calls o begun.grains now.grains) none y.0 in
      ends.0 ∙ (ap (λ (z : Spot). moves_of (steps_asked l z s.ask at)) spot_same
      ∙ ap moves_of (steps_split l spot s.ask at ∙ sym (steps_are grain w least place doing begun now steps before q h)))

  pub all_counted : s.stop ≡ None → steps_done s ≡ length steps
  all_counted none =
      let own : List DiskStep = owns_asked grain spot s.ask at in
      let is : length steps ≡ length ks + length own =
      ap length (steps_are grain w least place doing begun now steps before q h) ∙ (length-append (map (step_of_move spot) ks) own ∙ ap (λ (n : ℕ). n + length own) (length-map ks (step_of_move spot))) in
      let same : take s.made s.planned.moves ≡ map (move_in spot) ks = ends_none none ∙ (ap moves_of (steps_are grain w least place doing begun now steps before q h) ∙ moves_all grain spot s.ask at ks) in
      let count : s.made ≡ length ks = sym (length-take-le s.made s.planned.moves h.under.counted.within) ∙ (ap length same ∙ length-map ks (move_in spot)) in
      let index : steps_done s ≡ s.made + cond s.written 1 0 = ap (λ (o : Option Stop). s.made + own_done o s.written) none in
      let came : Came grain w r before.kept.rows steps before (steps_done s) None None q = subst (λ (o : Option Stop). Came grain w r before.kept.rows steps before (steps_done s) o None q) none h.came in
      let most : steps_done s ≤ length steps = came_few grain w r before.kept.rows steps before (steps_done s) q came in
      let over' : next_unless None s.written (move_next (drop s.made s.planned.moves) (own_next s.ask)) ≡ Over =
      subst (λ (o : Option Stop). next_unless o s.written (move_next (drop s.made s.planned.moves) (own_next s.ask)) ≡ Over) none over in
      index ∙ enough s.ask grain spot at s.written (drop s.made s.planned.moves) s.made (length ks) (length steps) over' (omega (arith, count)) is (omega (arith, index, most))

  came_whole : s.stop ≡ None → Came grain w r before.kept.rows steps before (length steps) None None q
  came_whole none =
      subst (λ (n : ℕ). Came grain w r before.kept.rows steps before n None None q) (all_counted none)
      (subst (λ (o : Option Stop). Came grain w r before.kept.rows steps before (steps_done s) o None q) none h.came)

  told_whole : s.stop ≡ None → Tells r (asked_write r) steps None entry
  told_whole none =
      record {
        request_is = x.request;
        written = (λ i. done_write (x.request i) (x.reply i)) ∙ (ap (λ (o : Option Stop). done_write r (reply_in (done_of s.ask) o)) none ∙ done_is s.ask);
        moves = x.moves ∙ ends_none none;
        torn_is = x.torn ∙ ap torn_in none;
        no_effects = x.no_effects;
      }

  pub tells_whole : s.stop ≡ None → Tells entry.request (asked_write entry.request) steps None entry
  tells_whole none =
      let t = told_whole none in
      record { request_is = refl; written = t.written ∙ sym (ap asked_write x.request); moves = t.moves; torn_is = t.torn_is; no_effects = t.no_effects }

  -- ---- or one stopped

  made_few : s.made ≤ length ks
  made_few =
      let e : length s.planned.moves ≡ length ks = ap length planned_are ∙ length-map ks (move_in spot) in
      let within = h.under.counted.within in
      omega (arith, e, within)

  told_stopped : (stop : Stop) → s.stop ≡ Some stop → Tells r None (take (steps_done s) steps) (torn_in (Some stop)) entry
  told_stopped stop e =
      let index : steps_done s ≡ s.made = ap (λ (o : Option Stop). s.made + own_done o s.written) e ∙ omega arith in
      let told_moves : take s.made s.planned.moves ≡ moves_of (take (steps_done s) steps) =
      ap (take s.made) planned_are
      ∙ (sym (first_moves spot (owns_asked grain spot s.ask at) ks s.made made_few)
      ∙ (λ i. moves_of (take (sym index i) (sym (steps_are grain w least place doing begun now steps before q h) i)))) in
      record {
        request_is = x.request;
        written = (λ i. done_write (x.request i) (x.reply i)) ∙ (ap (λ (o : Option Stop). done_write r (reply_in (done_of s.ask) o)) e ∙ none_is s.ask stop);
        moves = x.moves ∙ told_moves;
        torn_is = x.torn ∙ ap torn_in e;
        no_effects = x.no_effects;
      }

  pub tells_stopped : (stop : Stop) → s.stop ≡ Some stop → Tells entry.request None (take (steps_done s) steps) (torn_in (Some stop)) entry
  tells_stopped stop e =
      let t = told_stopped stop e in record { request_is = refl; written = t.written; moves = t.moves; torn_is = t.torn_is; no_effects = t.no_effects }

  came_stopped : (stop : Stop) → s.stop ≡ Some stop → Came grain w r before.kept.rows steps before (steps_done s) (Some stop) None q
  came_stopped stop e = subst (λ (o : Option Stop). Came grain w r before.kept.rows steps before (steps_done s) o None q) e h.came

  -- ---- the history goes on

  takes : Takes entry.request r
  takes = subst (λ (z : Request). Takes z r) (sym x.request) (takes_self s.ask)

  does : (i : ℕ) (o : Option Stop) → s.stop ≡ o → Does grain w least before entry (after_access grain w i entry) (least_entry (single_lane grain) least entry) q
  does i None e = end_law_holds.whole grain w least r steps before q entry i takes h.begins.inside h.begins.steps_are (came_whole e) (tells_whole e)
  does i (Some stop) e = end_law_holds.stopped grain w least r steps before (steps_done s) stop q entry i takes h.begins.inside h.begins.steps_are (came_stopped stop e) (tells_stopped stop e)

  pub runs_on : (entries : List Entry) (i : ℕ) → HasRun grain entries w least before → Step grain w entry (after_access grain w i entry) →
      HasRun grain (entries ++ entry ∷ []) (after_access grain w i entry) (least_entry (single_lane grain) least entry) q
  runs_on entries i run step =
      record {
        pools = run.pools;
        disks = run.disks;
        some = run.some;
        count = run.count;
        unnamed = run.unnamed;
        run = more entries w least before entry (after_access grain w i entry) (least_entry (single_lane grain) least entry) q run.run step (does i s.stop refl);
        have = end_law_holds.have grain w least r before.kept.rows steps before (steps_done s) s.stop None q entry i h.begins h.stands.each_lane.some h.have h.came;
      }

  -- ---- the rows of metadata

  abbrev notes : List Note
  notes = write_notes (single_lane grain) (done_write entry.request entry.reply) ++ torn_notes (single_lane grain) entry.torn

  number_is : s.grain.0 ≡ number_of grain r
  number_is = grain_is grain w least place doing begun now steps before q h

  rows_by : (marks : List Mark) (o : Option Stop) → s.stop ≡ o → q.kept.rows ≡ marked marks w.rows →
      q.kept.rows ≡ marked (marks_left (volume_noted s) s.grain marks) (rows_entry (single_lane grain) w.rows entry)
  rows_by marks None e same =
      let t = told_whole e in
      let over' : next_unless None s.written (move_next (drop s.made s.planned.moves) (own_next s.ask)) ≡ Over =
      subst (λ (o : Option Stop). next_unless o s.written (move_next (drop s.made s.planned.moves) (own_next s.ask)) ≡ Over) e over in
      let is : notes ≡ notes_of (volume_noted s) s.grain =
      (λ i. write_notes (single_lane grain) (t.written i) ++ torn_notes (single_lane grain) (t.torn_is i))
      ∙ (notes_whole grain s.ask s.written (drop s.made s.planned.moves) s.grain over' number_is ∙ ap (λ (o : Option Stop). notes_of (volume_by s.ask o s.written) s.grain) (sym e)) in
      rows_left marks w.rows q.kept.rows (volume_noted s) s.grain notes is (row_law_holds.whole grain w r steps before q entry h.begins.steps_are (came_whole e) t) same
  rows_by marks (Some stop) e same =
      let t = told_stopped stop e in
      let fits : TornFits s.ask s.grain (torn_in (Some stop)) =
      torn_fits grain w s.ask s.grain steps (torn_in (Some stop)) h.begins.steps_are number_is (torn_by grain w r before.kept.rows steps before (steps_done s) (Some stop) stop q refl (came_stopped stop e)) in
      let is : notes ≡ notes_of (volume_noted s) s.grain =
      (λ i. write_notes (single_lane grain) (t.written i) ++ torn_notes (single_lane grain) (t.torn_is i))
      ∙ (notes_torn grain s.ask stop s.written s.grain fits ∙ ap (λ (o : Option Stop). notes_of (volume_by s.ask o s.written) s.grain) (sym e)) in
      rows_left marks w.rows q.kept.rows (volume_noted s) s.grain notes is (row_law_holds.stopped grain w r steps before (steps_done s) stop q entry h.begins.steps_are (came_stopped stop e) t) same

  pub rows_on : (marks : List Mark) → q.kept.rows ≡ marked marks w.rows → q.kept.rows ≡ marked (marks_left (volume_noted s) s.grain marks) (rows_entry (single_lane grain) w.rows entry)
  rows_on marks same = rows_by marks s.stop refl same

-- ---- by what its lane makes of it

pub told_of : (lane after : ℕ) (doing : Doing) (entry : Entry) →
    entry ≡ steps_entry lane doing.number doing.actor (request_of doing.steps.ask) (done_of doing.steps.ask) doing.before after (take doing.steps.made doing.steps.planned.moves) doing.steps.calls doing.steps.stop →
    IsEntryOf doing entry
told_of lane after doing entry e = subst (λ (z : Entry). IsEntryOf doing z) (sym e) record { request = refl; reply = refl; moves = refl; torn = refl; no_effects = refl }
