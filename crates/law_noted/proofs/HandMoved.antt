-- A move of an entry in hand that copies nothing is made, over the same disks.
use Rattle.std.proofs.Common.{◌≡◌, ℕ, suc, ◌+◌, ◌<◌, ◌≤◌, Bool, true, false, cond, not, is_some, take, drop, Option, Some, None, List, [], ◌∷◌, ◌++◌, length, map, refl, sym, ap, subst, ◌∙◌, inl, inr, arith}
use Rattle.std.proofs.lemmas.Bool.{cases_Bool}
use Rattle.std.proofs.lemmas.List.{append-nil, length-take-le}
use Rattle.fc_base.specs.Sheet.{slot_at}
use Rattle.fc_base.specs.declared.ids.VolId.{VolId}
use Rattle.fc_base.specs.declared.request.Move.{Move}
use Rattle.fc_base.specs.declared.request.Request.{Request}
use Rattle.fc_base.specs.declared.request.Request.TheVariants.{Write, Copy, Clean}
use Rattle.fc_base.specs.declared.size.GrainSize.{GrainSize}
use Rattle.fc_changed.specs.Row.{Row}
use Rattle.fc_entry.specs.Picture.{Content, Bytes, Lost, is_lost}
use Rattle.fc_grains.specs.Grains.{GrainsState}
use Rattle.fc_grains.specs.Volumes.{stored}
use Rattle.fc_kept.specs.Images.{size_in}
use Rattle.fc_kept.specs.Kept.{Kept, kept_after, lost_put}
use Rattle.fc_kept.specs.Recoverable.{disks_at}
use Rattle.fc_kept.specs.Sound.{AreLost}
use Rattle.fc_lane.specs.Doing.{HasCome, IsUnderWay}
use Rattle.fc_lane.specs.Lane.{LaneView, of}
use Rattle.fc_lane.specs.declared.doing.Doing.{Doing}
use Rattle.fc_legal.specs.Whole.{Whole, lane_at, lane_of_grain, part_at}
use Rattle.fc_pictures.specs.Law.{StoredAt, now_of}
use Rattle.fc_rules.specs.LaneTold.{LaneOf, LaneTold, number_at, place_of}
use Rattle.fc_rules.specs.Shows.{Stored}
use Rattle.fc_rules.specs.Spot.{Spot}
use Rattle.fc_rules.specs.Steps.{DiskStep, calls_of_steps, moves_of, step_of_move}
use Rattle.fc_steps.specs.Asking.{request_of}
use Rattle.fc_steps.specs.StepsEnd.{StepsEnd, StoppedIn}
use Rattle.fc_steps.specs.UnderWay.{MoveStored, MoveStores, StepsCame, after_step, next_of, spot_asked, steps_asked}
use Rattle.fc_steps.specs.declared.body.StepEnd.{StepEnd}
use Rattle.fc_steps.specs.declared.stepping.Next.{Next}
use Rattle.fc_steps.specs.declared.stepping.Next.TheVariants.{Move as NextMove}
use Rattle.fc_steps.specs.declared.stepping.Steps.{Steps}
use Rattle.fc_steps.specs.declared.stop.Stop.{Stop}
use Rattle.fc_steps.specs.declared.stop.Stop.TheVariants.{Failed, NoMemory}
use Rattle.fc_steps.proofs.Naming.{some_is}
use Rattle.fc_steps.proofs.UnderWay.{move_comes, way_can}
use Rattle.law_crash.specs.Doing.{noted, number_of}
use Rattle.law_crash.specs.Law.{Begins}
use Rattle.law_crash.specs.Points.{Point}
use Rattle.law_crash.proofs.Lawful.{FillOf, clean_of, copy_of, fills_given, fills_in, moves_given, moves_in, own_in, write_of}
use Rattle.law_crash.proofs.Making.{Moves, next_move, spot_in, steps_in}
use Rattle.law_crash.proofs.Stopping.{IsMove, one_step, which_step}
use Rattle.law_crash.proofs.Writing.{Disked}
use Rattle.law_noted.specs.Advancing.{uncopied}
use Rattle.law_noted.specs.Came.{Came, own_done, steps_done}
use Rattle.law_noted.specs.DataSteps.{Along, GoAlong, IsInHand, IsNextStep, copies_nothing}
use Rattle.law_noted.proofs.Along.{along_torn}
use Rattle.law_noted.proofs.DataActions.{did_lost}
use Rattle.law_noted.proofs.DataCame.{before_move}
use Rattle.law_noted.proofs.DataInHand.{along_by, come, disked_before, fits_here, lane_is_of, lost_before, made_so, place_is, slot, steps_are, way}
use Rattle.law_noted.proofs.DataMoves.{stored_as}
use Rattle.law_noted.proofs.Finding.{came_disked}
use Rattle.law_noted.proofs.HandNext.{IsAlone, alone}
use Rattle.law_noted.proofs.HandOn.{put_alone}
use Rattle.law_noted.proofs.Losing.{uncopied_more}
use Rattle.law_noted.proofs.NextSteps.{MadeAt, move_reads}
use Rattle.law_noted.proofs.Nexts.{AreMoving, front_moves, head_is, none_left, same_front}
use Rattle.law_noted.proofs.Parts.{moves_first}
use Rattle.law_noted.proofs.Places.{spot_all, steps_split}
use Rattle.law_noted.proofs.Recording.{all_same}

-- ---- a move's volume has its grain

some_none : (o : Option Move) (m : Move) → o ≡ Some m → o ≡ None → ⊥
some_none o m a b = let f : Some m ≡ None = sym a ∙ b in cc

abbrev HasRoom : Whole → ℕ → ℕ → Type 0
HasRoom w g v = let id : VolId = record { 0 = v } in g < size_in w.books.tables id

by_moves : (grain : GrainSize) (w : Whole) (r : Request) (moves : List ℕ) (owns front : List DiskStep) (step : DiskStep) → Moves grain w r moves owns → IsMove (step_of_move (spot_in grain w r)) moves front step →
    HasRoom w (number_of grain r) step.volume
by_moves grain w r moves owns front step m y =
    let n = next_move grain w r moves owns m y.0 y.2 y.1 y.3 _ refl in
    subst (HasRoom w (number_of grain r)) (n.1 ∙ sym (ap (λ (s : DiskStep). s.volume) y.5)) n.0.room

fill_room : (grain : GrainSize) (w : Whole) (least : List Row) (r : Request) (steps front back : List DiskStep) (step : DiskStep) (p : Point) → Begins grain w least r steps p → FillOf grain w r steps → steps ≡ front ++ step ∷ back →
    HasRoom w (number_of grain r) step.volume
fill_room grain w least r steps front back step p b o split =
    let moves : List ℕ = fills_in grain w r o.k in
    elim (which_step (step_of_move (spot_in grain w r)) moves [] front back step (append-nil (steps_in grain w r moves) ∙ (sym o.steps_are ∙ split))) [
      | inl y ↦ by_moves grain w r moves [] front step (fills_given grain w r steps b.sound o b.steps_are) y
      | inr y ↦ absurd (none_left y.0 back step y.2)
    ]

move_room : (grain : GrainSize) (w : Whole) (least : List Row) (r : Request) (steps front back : List DiskStep) (step : DiskStep) (m : Move) (p : Point) → Begins grain w least r steps p → steps ≡ front ++ step ∷ back →
    step.move ≡ Some m → HasRoom w (number_of grain r) step.volume
move_room grain w least (Write part) steps front back step m p b split e =
    let o = write_of grain w part steps b.steps_are in
    let moves : List ℕ = moves_in grain w part o.t in
    let own : DiskStep = own_in grain w part o.t in
    elim (which_step (step_of_move (spot_in grain w (Write part))) moves (own ∷ []) front back step (sym o.steps_are ∙ split)) [
      | inl y ↦ by_moves grain w (Write part) moves (own ∷ []) front step (moves_given grain w part steps b.sound b.inside o b.steps_are) y
      | inr y ↦ absurd (some_none step.move m e (ap (λ (s : DiskStep). s.move) (one_step own y.0 back step y.2).1))
    ]
move_room grain w least (Copy m' g) steps front back step m p b split e = fill_room grain w least (Copy m' g) steps front back step p b (copy_of grain w m' g steps b.steps_are) split
move_room grain w least (Clean m' g) steps front back step m p b split e = fill_room grain w least (Clean m' g) steps front back step p b (clean_of grain w m' g steps b.sound b.steps_are) split
move_room grain w least r steps front back step m p b split e = absurd b.steps_are

-- ---- a move without calls doesn't stop

stop_calls : (v g : ℕ) (content : Content) (in_place : Bool) (calls : ℕ) (stop : Stop) (old new : Stored) → MoveStores v g content in_place calls (Some stop) old new → 1 ≤ calls
stop_calls v g content true calls stop old new st = absurd st
stop_calls v g content false calls (Failed None) old new st = let e = st.0 in omega (arith, e)
stop_calls v g content false calls (Failed (Some torn)) old new st = let e = st.0 in omega (arith, e)
stop_calls v g content false calls NoMemory old new st = let e = st.0 in omega (arith, e)

abbrev StopsIn : List DiskStep → List Move → ℕ → Type 0
StopsIn steps moves calls = (step : DiskStep) × (extra : ℕ) × StoppedIn steps moves calls step extra

stops_in : (spot : Spot) (steps : List DiskStep) (moves : List Move) (calls : ℕ) (stop : Stop) (old new : GrainsState) → StepsEnd spot steps moves calls (Some stop) old new → StopsIn steps moves calls
stops_in spot steps moves calls (Failed torn) old new e = (e.step, e.extra, e.stopped)
stops_in spot steps moves calls NoMemory old new e = (e.step, e.extra, e.stopped)

count_moves : (steps : List DiskStep) → AreMoving steps → length (moves_of steps) ≡ length steps
count_moves [] m = refl
count_moves (s ∷ steps) m = ap length (moves_first s steps m.0.0 m.0.1) ∙ ap (λ (n : ℕ). suc n) (count_moves steps m.1)

lost_is : (x : Content) → is_lost x ≡ true → x ≡ Lost
lost_is (Bytes bytes) e = absurd cc
lost_is Lost e = refl

module _ (grain : GrainSize) (w : Whole) (least : List Row) (place : ℕ) (doing : Doing) (begun old : LaneView) (steps : List DiskStep) (before q : Point) (h : IsInHand grain w least place doing begun old steps before None q)
    (m : Move) (e : next_of doing.steps ≡ NextMove m) (copies : copies_nothing old doing.steps.place m ≡ true) (end : StepEnd) (new : LaneView)
    (u : IsUnderWay begun (record doing { steps = after_step (NextMove m) end doing.steps }) new)
    (st : MoveStored old.chains.sheet.slots doing.steps.place m end (stored old.grains.volumes) (stored new.grains.volumes)) where
  abbrev l : LaneOf
  l = lane_at grain w place

  abbrev told : LaneTold
  told = part_at grain w place

  abbrev s : Steps
  s = doing.steps

  abbrev r : Request
  r = request_of doing.steps.ask

  abbrev g : ℕ
  g = number_of grain (request_of doing.steps.ask)

  abbrev spot : Spot
  spot = spot_in grain w (request_of doing.steps.ask)

  abbrev after : Doing
  after = record doing { steps = after_step (NextMove m) end doing.steps }

  a : IsAlone grain w least place doing begun old steps before q h m
  a = alone grain w least place doing begun old steps before q h m e copies

  abbrev content : Content
  content = stored old.grains.volumes (slot_at old.chains.sheet.slots st.source).volume s.place

  -- its steps, by the lane
  came_new : HasCome begun told after new
  came_new = u.came told h.told (fits_here grain w least place doing begun old steps before q h)

  steps_same : steps_asked (of begun) (spot_asked (of begun) told s.ask) s.ask came_new.slot ≡ steps
  steps_same =
      let at : ℕ = slot grain w least place doing begun old steps before q h in
      let same : came_new.slot ≡ at = some_is (sym came_new.slot_is ∙ (come grain w least place doing begun old steps before q h).slot_is) in
      let of_lane = (way grain w least place doing begun old steps before q h).asked.can.of_lane in
      (λ i. steps_asked (h.lane_is i) (spot_asked (h.lane_is i) told s.ask) s.ask (same i))
      ∙ (ap (λ (z : Spot). steps_asked l z s.ask at) (spot_all grain w place h.inside s.ask of_lane)
      ∙ (steps_split l spot s.ask at ∙ sym (steps_are grain w least place doing begun old steps before q h)))

  abbrev CameAs : Option Stop → Type 0
  CameAs o =
      StepsCame (of begun) told s.ask came_new.slot (take (cond (is_some o) s.made (s.made + 1)) s.planned.moves) (drop (cond (is_some o) s.made (s.made + 1)) s.planned.moves)
      (s.calls + end.calls) o s.written begun.chains begun.grains new.chains new.grains

  never_stops : (stop : Stop) → end.stop ≡ Some stop → ⊥
  never_stops stop es =
      let c : CameAs (Some stop) = subst CameAs es came_new.way.came in
      let moves : List Move = take s.made s.planned.moves in
      let x = subst (λ (z : List DiskStep). StopsIn z moves (s.calls + end.calls)) steps_same
      (stops_in (spot_asked (of begun) told s.ask) (steps_asked (of begun) (spot_asked (of begun) told s.ask) s.ask came_new.slot) moves (s.calls + end.calls) stop begun.grains new.grains c.0) in
      let y = x.2 in
      let many : length y.before ≡ s.made =
      sym (count_moves y.before (front_moves grain w r steps y.before y.after x.0 h.begins.steps_are y.steps_are))
      ∙ (ap length (sym y.moves_are) ∙ length-take-le s.made s.planned.moves h.under.counted.within) in
      let same = same_front a.next.front y.before (a.step ∷ a.next.back) (x.0 ∷ y.after) (a.made ∙ sym many) (sym a.next.split ∙ y.steps_are) in
      let is : a.step ≡ x.0 = head_is a.step x.0 a.next.back y.after same.1 in
      let none : x.0.calls ≡ 0 = ap (λ (z : DiskStep). z.calls) (sym is) ∙ a.calls in
      let so_far : calls_of_steps y.before ≡ s.calls = ap calls_of_steps (sym same.0) ∙ a.front_calls in
      let told_calls : s.calls + end.calls ≡ calls_of_steps y.before + x.1 = y.calls_are in
      let within : x.1 ≤ x.0.calls = y.within in
      let some : 1 ≤ end.calls =
      stop_calls m.volume.0 s.place content m.in_place end.calls stop (stored old.grains.volumes) (stored new.grains.volumes)
      (subst (λ (o : Option Stop). MoveStores m.volume.0 s.place content m.in_place end.calls o (stored old.grains.volumes) (stored new.grains.volumes)) es st.stores) in
      omega (arith, none, so_far, told_calls, within, some)

  none_stopped : (o : Option Stop) → end.stop ≡ o → end.stop ≡ None
  none_stopped None es = es
  none_stopped (Some stop) es = absurd (never_stops stop es)

  pub goes_on : end.stop ≡ None
  goes_on = none_stopped end.stop refl

  -- ---- what goes along

  stores : MoveStores m.volume.0 s.place content m.in_place end.calls None (stored old.grains.volumes) (stored new.grains.volumes)
  stores = subst (λ (o : Option Stop). MoveStores m.volume.0 s.place content m.in_place end.calls o (stored old.grains.volumes) (stored new.grains.volumes)) goes_on st.stores

  abbrev k : Kept
  k = kept_after q.kept (uncopied m)

  disked : Disked grain w q.disks
  disked = came_disked grain w r before.kept.rows steps before (steps_done s) s.stop None q h.came (disked_before grain w least place doing begun old steps before q h)

  lost_here : AreLost w.books.tables q.kept.lost
  lost_here =
      did_lost grain w r w.books.tables w.books.sheet _ before q (before_move grain w r before.kept.rows steps before a.next.front a.step m q a.move a.done)
      (lost_before grain w least place doing begun old steps before q h)

  -- in place
  still_others : (i : ℕ) (still : GrainsState) → Along (lane_at grain w i) q.kept k still still (disks_at q.disks i) (disks_at q.disks i)
  still_others i still v y whole = inl (uncopied_more m m.in_place q.kept.lost v (number_at (lane_at grain w i) y) whole, refl, refl)

  still_here : m.in_place ≡ true → Along l q.kept k old.grains new.grains (disks_at q.disks place) (disks_at q.disks place)
  still_here t v y whole =
      let x = subst (λ (b : Bool). MoveStores m.volume.0 s.place content b end.calls None (stored old.grains.volumes) (stored new.grains.volumes)) t stores in
      inl (uncopied_more m m.in_place q.kept.lost v (number_at l y) whole, refl, x.1 v y)

  -- or lost
  content_lost : m.in_place ≡ false → content ≡ Lost
  content_lost f =
      let c = move_comes s.stop s.written s.made s.planned.moves s.ask m e in
      let at : ℕ = slot grain w least place doing begun old steps before q h in
      let b : MadeAt spot told at s (m ∷ drop (s.made + 1) s.planned.moves) old.chains old.grains =
      made_so grain w least place doing begun old steps before q h (m ∷ drop (s.made + 1) s.planned.moves) c.stop_is c.written_is c.left in
      let can = way_can l told at begun.chains begun.grains s old.chains old.grains (way grain w least place doing begun old steps before q h) m c in
      let reads : now_of told.picture m.volume.0 s.place ≡ content = move_reads old.chains told.picture old.grains.volumes s.place can.0 st.slot st.source m b.stands can.1 st.slot_is st.holds in
      lost_is content (ap is_lost (sym reads) ∙ a.empty f)

  lost_put_is : m.in_place ≡ false → k.lost ≡ map (lost_put m.volume.0 m.grain.0 true) q.kept.lost
  lost_put_is f = λ i. cond (f i) q.kept.lost (map (lost_put m.volume.0 m.grain.0 (not (f i))) q.kept.lost)

  of_place : lane_of_grain w m.grain.0 ≡ place
  of_place = ap (lane_of_grain w) a.number ∙ lane_is_of grain w least place doing begun old steps before q h

  torn_here : m.in_place ≡ false → Along l q.kept k old.grains new.grains (disks_at q.disks place) (disks_at q.disks place)
  torn_here f =
      let x = subst (λ (b : Bool). MoveStores m.volume.0 s.place content b end.calls None (stored old.grains.volumes) (stored new.grains.volumes)) f stores in
      let at : s.place ≡ place_of l m.grain.0 = place_is grain w least place doing begun old steps before q h ∙ ap (place_of l) (sym a.number) in
      let here : StoredAt (stored old.grains.volumes) m.volume.0 (place_of l m.grain.0) Lost (stored new.grains.volumes) =
      stored_as m.volume.0 m.volume.0 s.place (place_of l m.grain.0) content Lost (stored old.grains.volumes) (stored new.grains.volumes) refl at (content_lost f) x.1 in
      let room : HasRoom w g a.step.volume = move_room grain w least r steps a.next.front a.next.back a.step m before h.begins a.next.split a.move in
      let inside : HasRoom w m.grain.0 m.volume.0 = subst (λ (z : ℕ). HasRoom w z m.volume.0) (sym a.number) (subst (HasRoom w g) (sym a.volume) room) in
      along_torn grain w place m.volume.0 m.grain.0 w.books.tables q.kept k old.grains new.grains q.disks lost_here inside of_place h.inside here (lost_put_is f)

  here_along : Along l q.kept k old.grains new.grains (disks_at q.disks place) (disks_at q.disks place)
  here_along = elim (cases_Bool m.in_place) [
    | inl t ↦ still_here t
    | inr f ↦ torn_here f
  ]

  pub goes_along : GoAlong grain w place q.kept (kept_after q.kept (uncopied m)) old.grains new.grains q.disks q.disks
  goes_along =
      along_by grain w least place doing begun old steps before q h after new (kept_after q.kept (uncopied m)) q.disks u refl refl disked.count (λ i. all_same (disks_at q.disks i)) here_along
      (λ i still il ne. still_others i still)

  -- ---- it is in hand

  abbrev CameTo : Option Stop → Bool → Type 0
  CameTo o b = Came grain w r before.kept.rows steps before (cond (is_some o) s.made (s.made + 1) + own_done o b) o None (noted (uncopied m) q)

  came_to : CameTo end.stop s.written
  came_to =
      let put : Came grain w r before.kept.rows steps before (steps_done s + 1) None None (noted (uncopied m) q) = put_alone grain w least place doing begun old steps before q h m e copies in
      let so_many : steps_done s ≡ s.made + 0 = λ i. s.made + own_done (a.stop_is i) (a.written_is i) in
      let index : steps_done s + 1 ≡ s.made + 1 + 0 = omega (arith, so_many) in
      let here : CameTo None false = subst (λ (n : ℕ). Came grain w r before.kept.rows steps before n None None (noted (uncopied m) q)) index put in
      subst (λ (o : Option Stop). CameTo o s.written) (sym goes_on) (subst (CameTo None) (sym a.written_is) here)

  pub stays_in_hand : IsInHand grain w least place (record doing { steps = after_step (NextMove m) end doing.steps }) begun new steps before None (noted (uncopied m) q)
  stays_in_hand = record {
    decisions = h.decisions;
    stands = h.stands;
    begins = h.begins;
    have = h.have;
    inside = h.inside;
    lane_is = h.lane_is;
    told = h.told;
    under = u;
    came = came_to;
  }

pub moved_alone : (grain : GrainSize) (w : Whole) (least : List Row) (place : ℕ) (doing : Doing) (begun old : LaneView) (steps : List DiskStep) (before q : Point) (m : Move) (end : StepEnd) (doing_new : Doing) (new : LaneView) →
    IsInHand grain w least place doing begun old steps before None q → next_of doing.steps ≡ NextMove m → copies_nothing old doing.steps.place m ≡ true → IsNextStep doing old end doing_new new →
    IsInHand grain w least place doing_new begun new steps before None (noted (uncopied m) q) × GoAlong grain w place q.kept (kept_after q.kept (uncopied m)) old.grains new.grains q.disks q.disks
moved_alone grain w least place doing begun old steps before q m end doing_new new h e copies n =
    let at : Next → Doing = λ (z : Next). record doing { steps = after_step z end doing.steps } in
    let is : doing_new ≡ at (NextMove m) = n.after ∙ ap at e in
    let u : IsUnderWay begun (at (NextMove m)) new = subst (λ (d : Doing). IsUnderWay begun d new) is (n.way begun h.under) in
    let st = n.moved m e in (
      subst (λ (d : Doing). IsInHand grain w least place d begun new steps before None (noted (uncopied m) q)) (sym is)
          (stays_in_hand grain w least place doing begun old steps before q h m e copies end new u st),
      goes_along grain w least place doing begun old steps before q h m e copies end new u st,
    )
