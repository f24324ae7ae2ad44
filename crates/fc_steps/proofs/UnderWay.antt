-- The steps of an entry, one after the other.
use Rattle.std.proofs.Common.{◌≡◌, ℕ, zero, suc, ◌+◌, ◌<◌, ◌≤◌, ◌^◌, ◌||◌, Bool, true, false, not, cond, is_some, take, drop, Option, Some, None, List, [], ◌∷◌, ◌++◌, length, map, fold, refl, sym, ap, subst, ◌∙◌, arith}
use Rattle.std.proofs.lemmas.List.{take_more, drop_more}
use Rattle.fc_base.specs.Column.{holder}
use Rattle.fc_base.specs.Sheet.{Slot, slot_at, column}
use Rattle.fc_base.specs.MovePlan.{PlannedMoves}
use Rattle.fc_base.specs.SheetFacts.{IsSound}
use Rattle.fc_base.specs.declared.ids.GrainNo.{GrainNo}
use Rattle.fc_base.specs.declared.request.Move.{Move}
use Rattle.fc_base.specs.declared.request.Torn.{Torn}
use Rattle.fc_base.specs.declared.request.WritePart.{WritePart}
use Rattle.fc_chain.specs.Chains.{Chains}
use Rattle.fc_entry.specs.Picture.{Lost, grain_of_block, is_lost}
use Rattle.fc_grains.specs.Grains.{GrainsState}
use Rattle.fc_grains.specs.Volumes.{stored}
use Rattle.fc_pictures.specs.Law.{StoredAt, StoredMoved}
use Rattle.fc_rules.specs.LaneTold.{LaneOf, LaneTold, place_of, sheet_move}
use Rattle.fc_rules.specs.Shows.{Stored}
use Rattle.fc_rules.specs.Spot.{Spot}
use Rattle.fc_rules.specs.Steps.{own_step, step_of_move}
use Rattle.fc_steps.specs.Moving.{CanMove, MoveEnds, SameLane}
use Rattle.fc_steps.specs.Standing.{AllSized, Stands}
use Rattle.fc_steps.specs.StepsEnd.{CanMakeMoves, StepsEnd, StepsStand, torn_in}
use Rattle.fc_steps.specs.UnderWay.{AreAsked, AreUnderWay, IsCounted, MoveStored, MoveStores, MovesCame, StepsCame, after_step, first_steps, grain_asked, move_next, moving_asked, next_of, next_unless, own_next, spot_asked, steps_asked}
use Rattle.fc_steps.specs.WriteStep.{CanWriteOwn, IsPlannedWrite, OwnEnds, write_in}
use Rattle.fc_steps.specs.declared.ask.Ask.{Ask}
use Rattle.fc_steps.specs.declared.ask.Ask.TheVariants.{Write, Copy, Clean}
use Rattle.fc_steps.specs.declared.body.StepEnd.{StepEnd}
use Rattle.fc_steps.specs.declared.stepping.Next.{Next}
use Rattle.fc_steps.specs.declared.stepping.Next.TheVariants.{Move as NextMove, Own, Over}
use Rattle.fc_steps.specs.declared.stepping.Steps.{Steps}
use Rattle.fc_steps.specs.declared.stop.Stop.{Stop}
use Rattle.fc_steps.specs.declared.stop.Stop.TheVariants.{Failed, NoMemory}
use Rattle.fc_steps.proofs.Moving.{source_at}
use Rattle.fc_steps.proofs.StepsMade.{MovesMade, all_made, made_next, next_can, next_sized, next_sound, none_made, one_stopped}
use Rattle.fc_steps.proofs.WriteAll.{ends_longer, write_can_move, write_can_own, write_ends}

-- ---- what comes next

-- this move does
pub record MoveComes (stop : Option Stop) (written : Bool) (made : ℕ) (planned : List Move) (m : Move) : Type 0 where
  pub stop_is : stop ≡ None
  pub written_is : written ≡ false
  pub below : made < length planned
  pub left : drop made planned ≡ m ∷ drop (made + 1) planned

-- this write does
pub record OwnComes (stop : Option Stop) (written : Bool) (made : ℕ) (planned : List Move) (ask : Ask) (part : WritePart) : Type 0 where
  pub stop_is : stop ≡ None
  pub written_is : written ≡ false
  pub left : drop made planned ≡ []
  pub ask_is : ask ≡ Write part

abbrev is_move : Next → Bool
is_move (NextMove m) = true
is_move (Own part) = false
is_move Over = false

abbrev is_own : Next → Bool
is_own (NextMove m) = false
is_own (Own part) = true
is_own Over = false

abbrev pub move_from : Move → Next → Move
move_from d (NextMove m) = m
move_from d (Own part) = d
move_from d Over = d

abbrev pub part_from : WritePart → Next → WritePart
part_from d (NextMove m) = d
part_from d (Own part) = part
part_from d Over = d

abbrev first_or : Move → List Move → Move
first_or d [] = d
first_or d (m ∷ rest) = m

abbrev left_of : List Move → List Move
left_of [] = []
left_of (m ∷ rest) = rest

abbrev is_some_left : List Move → Bool
is_some_left [] = false
is_some_left (m ∷ rest) = true

none_left : (i : ℕ) (m : Move) (ys : List Move) → drop i [] ≡ m ∷ ys → ⊥
none_left zero m ys e = let f : false ≡ true = ap is_some_left e in absurd cc
none_left (suc i) m ys e = let f : false ≡ true = ap is_some_left e in absurd cc

split_off : (i : ℕ) (xs : List Move) (m : Move) (ys : List Move) → drop i xs ≡ m ∷ ys → (i < length xs) × (ys ≡ drop (suc i) xs)
split_off i [] m ys e = absurd (none_left i m ys e)
split_off zero (x ∷ xs) m ys e = (omega arith, ap left_of (sym e))
split_off (suc i) (x ∷ xs) m ys e =
    let rest = split_off i xs m ys e in
    let below : i < length xs = rest.0 in
    (omega arith, rest.1)

first_left : (rest : List Move) (ask : Ask) (m : Move) → move_next rest (own_next ask) ≡ NextMove m → (ys : List Move) × (rest ≡ m ∷ ys)
first_left [] (Write part) m e = let f : false ≡ true = ap is_move e in absurd cc
first_left [] (Copy m' grain) m e = let f : false ≡ true = ap is_move e in absurd cc
first_left [] (Clean m' grain) m e = let f : false ≡ true = ap is_move e in absurd cc
first_left (x ∷ rest) ask m e = (rest, ap (λ (z : Next). move_from m z ∷ rest) e)

own_left : (rest : List Move) (ask : Ask) (part : WritePart) → move_next rest (own_next ask) ≡ Own part → (rest ≡ []) × (ask ≡ Write part)
own_left [] (Write p) part e = (refl, ap (λ (z : Next). Write (part_from part z)) e)
own_left [] (Copy m' grain) part e = let f : false ≡ true = ap is_own e in absurd cc
own_left [] (Clean m' grain) part e = let f : false ≡ true = ap is_own e in absurd cc
own_left (x ∷ rest) ask part e = let f : false ≡ true = ap is_own e in absurd cc

pub move_comes : (stop : Option Stop) (written : Bool) (made : ℕ) (planned : List Move) (ask : Ask) (m : Move) → next_unless stop written (move_next (drop made planned) (own_next ask)) ≡ NextMove m →
    MoveComes stop written made planned m
move_comes (Some stop) written made planned ask m e = let f : false ≡ true = ap is_move e in absurd cc
move_comes None true made planned ask m e = let f : false ≡ true = ap is_move e in absurd cc
move_comes None false made planned ask m e =
    let x = first_left (drop made planned) ask m e in
    let y = split_off made planned m x.0 x.1 in
    let next : suc made ≡ made + 1 = omega arith in
    record { stop_is = refl; written_is = refl; below = y.0; left = x.1 ∙ (ap (λ (z : List Move). m ∷ z) y.1 ∙ ap (λ (z : ℕ). m ∷ drop z planned) next) }

pub own_comes : (stop : Option Stop) (written : Bool) (made : ℕ) (planned : List Move) (ask : Ask) (part : WritePart) → next_unless stop written (move_next (drop made planned) (own_next ask)) ≡ Own part →
    OwnComes stop written made planned ask part
own_comes (Some stop) written made planned ask part e = let f : false ≡ true = ap is_own e in absurd cc
own_comes None true made planned ask part e = let f : false ≡ true = ap is_own e in absurd cc
own_comes None false made planned ask part e =
    let x = own_left (drop made planned) ask part e in
    record { stop_is = refl; written_is = refl; left = x.0; ask_is = x.1 }

-- ---- moves

module _ (l : LaneOf) (told : LaneTold) (number : ℕ) (ks : List ℕ) (chains : Chains) (old : GrainsState) (after : Chains) (new : GrainsState) (calls : ℕ) (made rest : List Move) where
  pub to_made : MovesCame l told number ks made rest calls chains old after new → MovesMade l told number ks chains old after new calls made rest
  to_made c = record {
    done = c.done;
    left = c.left;
    split = c.split;
    made_are = c.made_are;
    rest_are = c.rest_are;
    chains_are = c.stands.chains_are ∙ ap (λ (z : List Move). record chains { sheet = fold (sheet_move l) told.sheet z }) c.made_are;
    stands = subst (λ (z : List Move). Stands (fold (sheet_move l) told.sheet z) told.picture new.volumes) c.made_are c.stands.stands;
    calls_are = c.calls_are;
    counted = c.stands.counted;
    same = c.stands.same;
    rooms = c.stands.rooms;
  }

  pub from_made : MovesMade l told number ks chains old after new calls made rest → MovesCame l told number ks made rest calls chains old after new
  from_made c = record {
    done = c.done;
    left = c.left;
    split = c.split;
    made_are = c.made_are;
    rest_are = c.rest_are;
    calls_are = c.calls_are;
    stands = record {
      chains_are = c.chains_are ∙ ap (λ (z : List Move). record chains { sheet = fold (sheet_move l) told.sheet z }) (sym c.made_are);
      stands = subst (λ (z : List Move). Stands (fold (sheet_move l) told.sheet z) told.picture new.volumes) (sym c.made_are) c.stands;
      counted = c.counted;
      same = c.same;
      rooms = c.rooms;
    };
  }

-- what stops before the write stops before the end
longer : (l : LaneOf) (spot : Spot) (ask : Ask) (x : ℕ) (made : List Move) (calls : ℕ) (stop : Stop) (old new : GrainsState) →
    StepsEnd spot (map (step_of_move spot) (moving_asked spot ask x)) made calls (Some stop) old new → StepsEnd spot (steps_asked l spot ask x) made calls (Some stop) old new
longer l spot (Write part) x made calls stop old new e = ends_longer spot (map (step_of_move spot) (moving_asked spot (Write part) x)) (own_step l.grain spot part x) made calls stop old new e
longer l spot (Copy m' grain) x made calls stop old new e = e
longer l spot (Clean m' grain) x made calls stop old new e = e

-- ---- what a move stores

-- of one that was made
made_stores : (slots : List Slot) (old new : Stored) (k h g v calls : ℕ) (in_place : Bool) → holder (column slots g) k ≡ Some h → (slot_at slots k).volume ≡ v →
    calls ≡ cond (in_place || is_lost (old (slot_at slots h).volume g)) 0 2 → StoredMoved slots old k g in_place new → MoveStores v g (old (slot_at slots h).volume g) in_place calls None old new
made_stores slots old new k h g v calls true holds volume c st = (c, st)
made_stores slots old new k h g v calls false holds volume c st = (c, subst (λ (z : ℕ). StoredAt old z g (old (slot_at slots h).volume g) new) volume (st h holds))

move_stores : (after after' : Chains) (new new' : GrainsState) (g k h : ℕ) (m : Move) (calls : ℕ) (stop : Option Stop) → holder (column after.sheet.slots g) k ≡ Some h → (slot_at after.sheet.slots k).volume ≡ m.volume.0 →
    MoveEnds after new g k m calls stop after' new' → MoveStores m.volume.0 g (stored new.volumes (slot_at after.sheet.slots h).volume g) m.in_place calls stop (stored new.volumes) (stored new'.volumes)
move_stores after after' new new' g k h m calls None holds volume e =
    made_stores after.sheet.slots (stored new.volumes) (stored new'.volumes) k h g m.volume.0 calls m.in_place holds volume (e.0.calls_are h holds) e.0.stored_is
move_stores after after' new new' g k h m calls (Some (Failed None)) holds volume e =
    subst (λ (b : Bool). MoveStores m.volume.0 g (stored new.volumes (slot_at after.sheet.slots h).volume g) b calls (Some (Failed None)) (stored new.volumes) (stored new'.volumes)) (sym e.0.out) (e.1.0, e.1.2)
move_stores after after' new new' g k h m calls (Some (Failed (Some torn))) holds volume e =
    subst (λ (b : Bool). MoveStores m.volume.0 g (stored new.volumes (slot_at after.sheet.slots h).volume g) b calls (Some (Failed (Some torn))) (stored new.volumes) (stored new'.volumes)) (sym e.0.out) (
      e.1.0,
      ap (λ (z : Torn). z.volume.0) e.1.1,
      ap (λ (z : Torn). z.side) e.1.1,
      subst (λ (z : ℕ). StoredAt (stored new.volumes) z g Lost (stored new'.volumes)) volume e.1.3,
    )
move_stores after after' new new' g k h m calls (Some NoMemory) holds volume e =
    subst (λ (b : Bool). MoveStores m.volume.0 g (stored new.volumes (slot_at after.sheet.slots h).volume g) b calls (Some NoMemory) (stored new.volumes) (stored new'.volumes)) (sym e.0.out) (e.1, e.3)

pub move_stored : (after after' : Chains) (new new' : GrainsState) (g k : ℕ) (m : Move) (end : StepEnd) → IsSound after.sheet → AllSized after.sheet new.volumes → CanMove after g m k →
    MoveEnds after new g k m end.calls end.stop after' new' → MoveStored after.sheet.slots g m end (stored new.volumes) (stored new'.volumes)
move_stored after after' new new' g k m end sound sized can ends =
    let src = source_at after.sheet new.volumes g k sound sized can.safe.there can.safe.is_live can.inside in
    record {
      slot = k;
      source = src.0;
      slot_is = can.is_there;
      volume_is = sym can.volume;
      holds = src.1.holds;
      stores = move_stores after after' new new' g k src.0 m end.calls end.stop src.1.holds (sym can.volume) ends;
    }

-- ---- the steps under way

module _ (l : LaneOf) (told : LaneTold) (x : ℕ) (chains : Chains) (old : GrainsState) (s : Steps) (after : Chains) (new : GrainsState) (u : AreUnderWay l told x chains old s after new) where
  abbrev number : ℕ
  number = grain_asked l s.ask

  abbrev spot : Spot
  spot = spot_asked l told s.ask

  abbrev ks : List ℕ
  ks = moving_asked spot s.ask x

  abbrev made : List Move
  made = take s.made s.planned.moves

  abbrev Came : List Move → Option Stop → Bool → Type 0
  Came rest stop written = StepsCame l told s.ask x made rest s.calls stop written chains old after new

  came_so : (rest : List Move) → s.stop ≡ None → s.written ≡ false → drop s.made s.planned.moves ≡ rest → MovesMade l told number ks chains old after new s.calls made rest
  came_so rest none unwritten left =
      to_made l told number ks chains old after new s.calls made rest
      (subst (λ (b : Bool). Came rest None b) unwritten (subst (λ (o : Option Stop). Came rest o s.written) none (subst (λ (z : List Move). Came z s.stop s.written) left u.came)))

  -- a move comes next
  module _ (m : Move) (c : MoveComes s.stop s.written s.made s.planned.moves m) where
    abbrev rest : List Move
    rest = drop (s.made + 1) s.planned.moves

    so : MovesMade l told number ks chains old after new s.calls made (m ∷ rest)
    so = came_so (m ∷ rest) c.stop_is c.written_is c.left

    pub way_sound : IsSound after.sheet
    way_sound = next_sound l told number ks chains old u.asked.can after new s.calls made rest m so

    pub way_sized : AllSized after.sheet new.volumes
    way_sized = next_sized l told number ks chains old u.asked.can after new s.calls made rest m so

    pub way_can : (k : ℕ) × CanMove after s.place m k
    way_can =
        let p = next_can l told number ks chains old u.asked.can after new s.calls made rest m so in
        (p.0, subst (λ (z : ℕ). CanMove after z m p.0) (sym u.asked.place_is) p.1)

    made_more : take (s.made + 1) s.planned.moves ≡ made ++ m ∷ []
    made_more =
        let head = ap (first_or m) (sym (drop_more s.planned.moves s.made m c.below) ∙ c.left) in
        take_more s.planned.moves s.made m c.below ∙ ap (λ (z : Move). made ++ z ∷ []) head

    pub way_moved : (calls : ℕ) (stop : Option Stop) (after' : Chains) (new' : GrainsState) → ((k : ℕ) → CanMove after s.place m k → MoveEnds after new s.place k m calls stop after' new') → SameLane new new' →
        AreUnderWay l told x chains old (record s { made = cond (is_some stop) s.made (s.made + 1); calls = s.calls + calls; stop = stop }) after' new'
    way_moved calls None after' new' ends same =
        let ends_here = subst (λ (z : ℕ). (k : ℕ) → CanMove after z m k → MoveEnds after new z k m calls None after' new') u.asked.place_is ends in
        let next = made_next l told number ks chains old u.asked.can after new s.calls made rest m so calls after' new' ends_here same in
        record {
          asked = u.asked;
          came = subst (λ (b : Bool). StepsCame l told s.ask x (take (s.made + 1) s.planned.moves) rest (s.calls + calls) None b chains old after' new') (sym c.written_is)
              (subst (λ (z : List Move). MovesCame l told number ks z rest (s.calls + calls) chains old after' new') (sym made_more)
              (from_made l told number ks chains old after' new' (s.calls + calls) (made ++ m ∷ []) rest next));
        }
    way_moved calls (Some stop) after' new' ends same =
        let ends_here = subst (λ (z : ℕ). (k : ℕ) → CanMove after z m k → MoveEnds after new z k m calls (Some stop) after' new') u.asked.place_is ends in
        let end = one_stopped l told number ks chains old u.asked.can after new s.calls made rest m so calls stop after' new' ends_here same in
        record { asked = u.asked; came = (longer l spot s.ask x made (s.calls + calls) stop old new' end.0, end.1) }

  -- the write comes next
  module _ (part : WritePart) (c : OwnComes s.stop s.written s.made s.planned.moves s.ask part) where
    asked_here : AreAsked l told x (Write part) s.grain.0 s.place s.planned.moves chains old
    asked_here = subst (λ (a : Ask). AreAsked l told x a s.grain.0 s.place s.planned.moves chains old) c.ask_is u.asked

    planned : IsPlannedWrite l told part x chains old s.planned.moves s.grain.0 s.place
    planned = record { at = asked_here.can.at; is = asked_here.own; plan_is = asked_here.planned_are; number_is = asked_here.number_is; place_is = asked_here.place_is }

    abbrev AllMade : Ask → Type 0
    AllMade a =
        StepsEnd (spot_asked l told a) (map (step_of_move (spot_asked l told a)) (moving_asked (spot_asked l told a) a x)) made s.calls None old new × StepsStand l told None made s.calls None chains old after new

    moved : AllMade (Write part)
    moved = subst AllMade c.ask_is (all_made l told number ks chains old u.asked.can after new s.calls made (came_so [] c.stop_is c.written_is c.left))

    pub way_own : CanWriteOwn l told part x after new × (s.grain.0 ≡ grain_of_block l.grain part.block) × (s.place ≡ place_of l (grain_of_block l.grain part.block))
    way_own = (write_can_own l told part x chains old s.planned.moves s.grain.0 s.place planned made s.calls after new moved, asked_here.number_is, asked_here.place_is)

    wrote_here : (calls : ℕ) (stop : Option Stop) (after' : Chains) (new' : GrainsState) → OwnEnds l told part x calls stop after new after' new' →
        StepsCame l told (Write part) x made (drop s.made s.planned.moves) (s.calls + calls) stop (not (is_some stop)) chains old after' new'
    wrote_here calls None after' new' ends = write_ends l told part x chains old s.planned.moves s.grain.0 s.place planned made s.calls after new moved calls None after' new' ends
    wrote_here calls (Some stop) after' new' ends = write_ends l told part x chains old s.planned.moves s.grain.0 s.place planned made s.calls after new moved calls (Some stop) after' new' ends

    pub way_wrote : (calls : ℕ) (stop : Option Stop) (after' : Chains) (new' : GrainsState) → OwnEnds l told part x calls stop after new after' new' →
        AreUnderWay l told x chains old (record s { written = not (is_some stop); calls = s.calls + calls; stop = stop }) after' new'
    way_wrote calls stop after' new' ends = record {
      asked = u.asked;
      came = subst (λ (a : Ask). StepsCame l told a x made (drop s.made s.planned.moves) (s.calls + calls) stop (not (is_some stop)) chains old after' new') (sym c.ask_is) (wrote_here calls stop after' new' ends);
    }

-- ---- where they begin, and where they are over

pub asked_write : (l : LaneOf) (told : LaneTold) (part : WritePart) (t : ℕ) (chains : Chains) (old : GrainsState) (plan : List Move) (n place : ℕ) → IsPlannedWrite l told part t chains old plan n place →
    AreAsked l told t (Write part) n place plan chains old
asked_write l told part t chains old plan n place w = record {
  can = write_can_move l told part t chains old plan n place w;
  own = w.is;
  number_is = w.number_is;
  place_is = w.place_is;
  planned_are = w.plan_is;
}

pub way_begins : (l : LaneOf) (told : LaneTold) (x : ℕ) (ask : Ask) (grain : GrainNo) (place : ℕ) (plan : PlannedMoves) (chains : Chains) (old : GrainsState) → AreAsked l told x ask grain.0 place plan.moves chains old →
    AreUnderWay l told x chains old (first_steps ask grain place plan) chains old
way_begins l told x ask grain place plan chains old a =
    let number : ℕ = grain_asked l ask in
    let ks : List ℕ = moving_asked (spot_asked l told ask) ask x in
    record {
      asked = a;
      came = from_made l told number ks chains old chains old 0 [] plan.moves
          (subst (λ (z : List Move). MovesMade l told number ks chains old chains old 0 [] z) (sym a.planned_are) (none_made l told number ks chains old a.can));
    }

pub counted_first : (ask : Ask) (grain : GrainNo) (place : ℕ) (plan : PlannedMoves) → length plan.moves < 2 ^ 30 → IsCounted (first_steps ask grain place plan)
counted_first ask grain place plan short = record { short = short; within = omega arith; few = λ e w. omega arith }

-- the write of what is asked, where it was done
abbrev pub write_when : Ask → Option Stop → Option WritePart
write_when (Write part) stop = write_in part stop
write_when (Copy m grain) stop = None
write_when (Clean m grain) stop = None

-- how they ended
abbrev pub WayEnds : LaneOf → LaneTold → ℕ → Ask → List Move → ℕ → Option Stop → Chains → GrainsState → Chains → GrainsState → Type 0
WayEnds l told x ask made calls stop chains old after new =
    StepsEnd (spot_asked l told ask) (steps_asked l (spot_asked l told ask) ask x) made calls stop old new × StepsStand l told (write_when ask stop) made calls (torn_in stop) chains old after new

module _ (l : LaneOf) (told : LaneTold) (x : ℕ) (chains : Chains) (old : GrainsState) (after : Chains) (new : GrainsState) (made rest : List Move) (calls : ℕ) where
  abbrev CameTo : Ask → Option Stop → Bool → Type 0
  CameTo ask stop written = StepsCame l told ask x made rest calls stop written chains old after new

  abbrev EndsAs : Ask → Option Stop → Type 0
  EndsAs ask stop = WayEnds l told x ask made calls stop chains old after new

  stopped_ends : (ask : Ask) (stop : Stop) (written : Bool) → CameTo ask (Some stop) written → EndsAs ask (Some stop)
  stopped_ends (Write part) stop written c = c
  stopped_ends (Copy m grain) stop written c = c
  stopped_ends (Clean m grain) stop written c = c

  wrote_ends : (ask : Ask) → CameTo ask None true → EndsAs ask None
  wrote_ends (Write part) c = c
  wrote_ends (Copy m grain) c = c
  wrote_ends (Clean m grain) c = c

abbrev is_over : Next → Bool
is_over (NextMove m) = false
is_over (Own part) = false
is_over Over = true

made_ends : (l : LaneOf) (told : LaneTold) (x : ℕ) (chains : Chains) (old : GrainsState) (after : Chains) (new : GrainsState) (made rest : List Move) (calls : ℕ) (ask : Ask) →
    CanMakeMoves l told (grain_asked l ask) (moving_asked (spot_asked l told ask) ask x) chains old → move_next rest (own_next ask) ≡ Over → StepsCame l told ask x made rest calls None false chains old after new →
    WayEnds l told x ask made calls None chains old after new
made_ends l told x chains old after new made [] calls (Write part) can over c = let f : false ≡ true = ap is_over over in absurd cc
made_ends l told x chains old after new made [] calls (Copy m grain) can over c =
    all_made l told grain.0 (moving_asked (spot_asked l told (Copy m grain)) (Copy m grain) x) chains old can after new calls made
    (to_made l told grain.0 (moving_asked (spot_asked l told (Copy m grain)) (Copy m grain) x) chains old after new calls made [] c)
made_ends l told x chains old after new made [] calls (Clean m grain) can over c =
    all_made l told grain.0 (moving_asked (spot_asked l told (Clean m grain)) (Clean m grain) x) chains old can after new calls made
    (to_made l told grain.0 (moving_asked (spot_asked l told (Clean m grain)) (Clean m grain) x) chains old after new calls made [] c)
made_ends l told x chains old after new made (m ∷ rest) calls ask can over c = let f : false ≡ true = ap is_over over in absurd cc

came_ends : (l : LaneOf) (told : LaneTold) (x : ℕ) (chains : Chains) (old : GrainsState) (after : Chains) (new : GrainsState) (made rest : List Move) (calls : ℕ) (ask : Ask) (stop : Option Stop) (written : Bool) →
    CanMakeMoves l told (grain_asked l ask) (moving_asked (spot_asked l told ask) ask x) chains old → next_unless stop written (move_next rest (own_next ask)) ≡ Over →
    StepsCame l told ask x made rest calls stop written chains old after new → WayEnds l told x ask made calls stop chains old after new
came_ends l told x chains old after new made rest calls ask (Some stop) written can over c = stopped_ends l told x chains old after new made rest calls ask stop written c
came_ends l told x chains old after new made rest calls ask None true can over c = wrote_ends l told x chains old after new made rest calls ask c
came_ends l told x chains old after new made rest calls ask None false can over c = made_ends l told x chains old after new made rest calls ask can over c

pub way_ends : (l : LaneOf) (told : LaneTold) (x : ℕ) (chains : Chains) (old : GrainsState) (s : Steps) (after : Chains) (new : GrainsState) → AreUnderWay l told x chains old s after new → next_of s ≡ Over →
    WayEnds l told x s.ask (take s.made s.planned.moves) s.calls s.stop chains old after new
way_ends l told x chains old s after new u over =
    came_ends l told x chains old after new (take s.made s.planned.moves) (drop s.made s.planned.moves) s.calls s.ask s.stop s.written u.asked.can over u.came

-- what is asked stays
pub same_asked : (next : Next) (end : StepEnd) (s : Steps) → (after_step next end s).ask ≡ s.ask
same_asked (NextMove m) end s = refl
same_asked (Own part) end s = refl
same_asked Over end s = refl

pub same_planned : (next : Next) (end : StepEnd) (s : Steps) → (after_step next end s).planned ≡ s.planned
same_planned (NextMove m) end s = refl
same_planned (Own part) end s = refl
same_planned Over end s = refl

-- ---- counts

pub counted_moved : (s : Steps) (calls : ℕ) (stop : Option Stop) → s.made < length s.planned.moves → s.stop ≡ None → s.written ≡ false → calls ≤ 2 → IsCounted s →
    IsCounted (record s { made = cond (is_some stop) s.made (s.made + 1); calls = s.calls + calls; stop = stop })
counted_moved s calls None below none unwritten two c =
    let few = c.few none unwritten in
    record { short = c.short; within = omega arith; few = λ e w. omega arith }
counted_moved s calls (Some stop) below none unwritten two c = record { short = c.short; within = c.within; few = λ e w. absurd cc }

pub counted_wrote : (s : Steps) (calls : ℕ) (stop : Option Stop) → IsCounted s → IsCounted (record s { written = not (is_some stop); calls = s.calls + calls; stop = stop })
counted_wrote s calls None c = record { short = c.short; within = c.within; few = λ e w. absurd cc }
counted_wrote s calls (Some stop) c = record { short = c.short; within = c.within; few = λ e w. absurd cc }
