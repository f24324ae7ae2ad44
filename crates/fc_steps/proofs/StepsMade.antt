-- Moves made one after the other, as entries tell them.
use Rattle.std.proofs.Common.{◌≡◌, ℕ, ◌+◌, ◌≤◌, ◌%◌, ◌/◌, ◌||◌, Bool, true, false, cond, eqb, Option, Some, None, List, [], ◌∷◌, ◌++◌, length, map, fold, sum, refl, sym, ap, subst, ◌∙◌, arith, inl, inr, append_assoc, append-nil}
use Rattle.fc_base.specs.Column.{holder, Shape}
use Rattle.fc_base.specs.Count.{one_more}
use Rattle.fc_base.specs.Moves.{is_in_place}
use Rattle.fc_base.specs.Room.{reach}
use Rattle.fc_base.specs.Sheet.{Slot, Sheet, slot_at, shape_of, column, birth_place}
use Rattle.fc_base.specs.SheetStep.{sheet_torn, sheet_written, grain_lost, grain_taken}
use Rattle.fc_base.specs.declared.disk.DiskKind.TheVariants.{Thin}
use Rattle.fc_base.specs.declared.request.Move.{Move}
use Rattle.fc_base.specs.declared.request.Side.{Side}
use Rattle.fc_base.specs.declared.request.Side.TheVariants.{Under, Now}
use Rattle.fc_base.specs.declared.request.Torn.{Torn}
use Rattle.fc_chain.specs.Chains.{Chains}
use Rattle.fc_entry.specs.Picture.{Lost, is_lost}
use Rattle.fc_grains.specs.Grains.{GrainsState}
use Rattle.fc_grains.specs.Volumes.{VolumeGrains, is_there, volume_of, stored, rooms_of}
use Rattle.fc_steps.specs.Moving.{CanMove, Counted, MoveEnds, MoveNotMade, SameLane, SameRooms, more}
use Rattle.fc_steps.specs.Standing.{VolumeKind, SameVolumes, kind_of_grains, kind_of_told, AllSized, Stands}
use Rattle.fc_steps.specs.StepsEnd.{CanMakeMoves, FailedIn, RefusedIn, StepsEnd, StepsStand, StoppedIn, torn_in}
use Rattle.fc_steps.specs.declared.stop.Stop.{Stop}
use Rattle.fc_steps.specs.declared.stop.Stop.TheVariants.{Failed, NoMemory}
use Rattle.fc_steps.proofs.Moving.{counted_then, risen_then, same_lane, same_then, one_holder}
use Rattle.fc_steps.proofs.Nearer.{come_still}
use Rattle.fc_steps.proofs.Naming.{birth_place_is}
use Rattle.fc_pictures.specs.Law.{StoredAt, now_of}
use Rattle.fc_pictures.specs.LaneLaw.{torn_of}
use Rattle.fc_pictures.specs.StepsLaw.{sheet_after}
use Rattle.fc_pictures.proofs.Agreeing.{lane_law_holds}
use Rattle.fc_pictures.proofs.Lawful.{picture_law_holds}
use Rattle.fc_pictures.proofs.Staying.{stored_shows}
use Rattle.fc_pictures.proofs.Running.{sheet_after_push}
use Rattle.fc_rules.specs.LaneTold.{LaneOf, LaneTold, LaneVolume, place_of, is_thin_in, is_thin_kind}
use Rattle.fc_rules.specs.LaneTurn.{spot_at}
use Rattle.fc_rules.specs.Rooms.{rooms_move}
use Rattle.fc_rules.specs.Spot.{Spot, move_in}
use Rattle.fc_rules.specs.Steps.{DiskStep, calls_of_steps, moves_of, step_of_move}
use Rattle.fc_sheets.proofs.Columns.{shape_torn}
use Rattle.fc_sheets.proofs.Holding.{at_map, regrained, bit_taken, bit_lost}
use Rattle.std.proofs.lemmas.Bool.{cases_Bool}
use Rattle.std.proofs.lemmas.List.{map-append}
use Rattle.std.proofs.lemmas.List.Elements.{filter_map-append}
use Rattle.std.proofs.lemmas.List.Sums.{fold-append, sum_by-append}
use Rattle.fc_base.specs.SheetFacts.{IsSound}

-- ---- counts

pub more_plus : (a b n : ℕ) → more a (more b n) ≡ more (a + b) n
more_plus ℕ.zero b n = let e : 0 + b ≡ b = omega arith in ap (λ (z : ℕ). more z n) (sym e)
more_plus (ℕ.suc a) b n = let e : ℕ.suc (a + b) ≡ ℕ.suc a + b = omega arith in ap one_more (more_plus a b n) ∙ ap (λ (z : ℕ). more z n) e

pub both_counted : (old mid new : GrainsState) (n m : ℕ) (failed : Bool) → Counted old n false mid → Counted mid m failed new → Counted old (n + m) failed new
both_counted old mid new n m failed a b =
    let e : m + n ≡ n + m = omega arith in
    subst (λ (z : ℕ). Counted old z failed new) e (counted_then old mid new n m failed a b (more_plus m n old.calls))

-- a failed call counts as well
pub counted_any : (old new : GrainsState) (n : ℕ) (failed : Bool) → Counted old n failed new → Counted old n false new
counted_any old new n failed c = record { calls_are = c.calls_are; kept = c.kept; risen = λ t. absurd cc; writes_kept = c.writes_kept; nearer = c.nearer }

pub none_counted : (old : GrainsState) → Counted old 0 false old
none_counted old = record { calls_are = refl; kept = omega arith; risen = λ t. absurd cc; writes_kept = omega arith; nearer = come_still old.volumes }

-- ---- steps

pub moves_append : (xs ys : List DiskStep) → moves_of (xs ++ ys) ≡ moves_of xs ++ moves_of ys
moves_append xs ys = filter_map-append (λ (x : DiskStep). x.move) xs ys

pub calls_append : (xs ys : List DiskStep) → calls_of_steps (xs ++ ys) ≡ calls_of_steps xs + calls_of_steps ys
calls_append xs ys =
    let f : DiskStep → ℕ = λ (x : DiskStep). x.calls in
    ap sum (map-append f xs ys) ∙ sum_by-append (λ (n : ℕ). n) (map f xs) (map f ys)

pub calls_push : (xs : List DiskStep) (x : DiskStep) → calls_of_steps (xs ++ x ∷ []) ≡ calls_of_steps xs + x.calls
calls_push xs x =
    let e : calls_of_steps (x ∷ []) ≡ x.calls = omega arith in
    calls_append xs (x ∷ []) ∙ ap (λ (z : ℕ). calls_of_steps xs + z) e

-- ---- whether a grain is lost

-- ---- which volumes are thin

abbrev thin_in : List VolumeKind → ℕ → Bool
thin_in [] v = false
thin_in (x ∷ xs) v = cond (eqb x.volume.0 v) (is_thin_kind x.kind) (thin_in xs v)

thin_grains : (vs : List VolumeGrains) (v : ℕ) → is_thin_kind (volume_of vs v).kind ≡ thin_in (map kind_of_grains vs) v
thin_grains [] v = refl
thin_grains (x ∷ xs) v =
    elim (cases_Bool (eqb x.volume.0 v)) [
      | inl hit ↦ rw hit refl
      | inr miss ↦ rw miss (thin_grains xs v)
    ]

thin_volumes : (vs : List LaneVolume) (v : ℕ) → thin_in (map kind_of_told vs) v ≡ is_thin_in vs v
thin_volumes [] v = refl
thin_volumes (x ∷ xs) v = ap (λ (b : Bool). cond (eqb x.volume.0 v) (is_thin_kind x.kind) b) (thin_volumes xs v)

pub thin_told : (grains : List VolumeGrains) (volumes : List LaneVolume) (v : ℕ) → SameVolumes grains volumes → (volume_of grains v).kind ≡ Thin → is_thin_in volumes v ≡ true
thin_told grains volumes v same thin =
    sym (thin_grains grains v ∙ (ap (λ (z : List VolumeKind). thin_in z v) same ∙ thin_volumes volumes v)) ∙ ap is_thin_kind thin

-- ---- sizes

-- the volumes of slots keep a grain for each of the slot's
pub sized_again : (s now : Sheet) (old new : GrainsState) → shape_of now.slots ≡ shape_of s.slots → ((k : ℕ) → length (slot_at now.slots k).held ≡ length (slot_at s.slots k).held) →
    SameLane old new → AllSized s old.volumes → AllSized now new.volumes
sized_again s now old new shape long same sized k below =
    let count : length now.slots ≡ length s.slots = ap (λ (z : Shape). z.count) shape in
    let name : (slot_at now.slots k).volume ≡ (slot_at s.slots k).volume = ap (λ (z : Shape). z.volume k) shape in
    let h = sized k (omega arith) in
    record {
      there = ap (λ z. is_there new.volumes z) name ∙ (same.there (slot_at s.slots k).volume ∙ h.there);
      size = ap (λ z. length (volume_of new.volumes z).contents) name ∙ (same.sizes (slot_at s.slots k).volume ∙ (h.size ∙ sym (long k)));
    }

pub size_torn : (v g : ℕ) (side : Side) (s : Sheet) (k : ℕ) → length (slot_at (sheet_torn v g side s).slots k).held ≡ length (slot_at s.slots k).held
size_torn v g Now s k =
    let r = regrained (grain_taken v g) g (bit_taken v g) in
    ap (λ (t : Slot). length t.held) (at_map (grain_taken v g) s.slots k r.none) ∙ r.size (slot_at s.slots k)
size_torn v g Under s k =
    let r = regrained (grain_lost v g) g (bit_lost v g) in
    ap (λ (t : Slot). length t.held) (at_map (grain_lost v g) s.slots k r.none) ∙ r.size (slot_at s.slots k)

pub size_written : (v g : ℕ) (s : Sheet) (k : ℕ) → length (slot_at (sheet_written v g s).slots k).held ≡ length (slot_at s.slots k).held
size_written v g s k = size_torn v g Now s k

-- ---- moves made one after the other

pub split_list : {A B : Type 0} (f : A → B) (xs : List A) (y : B) (ys : List B) → y ∷ ys ≡ map f xs → (x : A) × (rest : List A) × (xs ≡ x ∷ rest) × (y ≡ f x) × (ys ≡ map f rest)
split_list f [] y ys e = absurd cc
split_list {A} {B} f (x ∷ xs) y ys e = (x, xs, refl, ap (first y) e, ap rest_of e)
  where
    first : B → List B → B
    first d [] = d
    first d (z ∷ zs) = z

    rest_of : List B → List B
    rest_of [] = []
    rest_of (z ∷ zs) = zs

-- so many were made; these are left
pub record MovesMade (l : LaneOf) (told : LaneTold) (number : ℕ) (ks : List ℕ) (chains : Chains) (old : GrainsState) (after : Chains) (new : GrainsState) (calls : ℕ) (made rest : List Move) : Type 0 where
  pub done : List ℕ
  pub left : List ℕ
  pub split : ks ≡ done ++ left
  pub made_are : made ≡ map (move_in (spot_at l told number)) done
  pub rest_are : rest ≡ map (move_in (spot_at l told number)) left
  pub chains_are : after ≡ record chains { sheet = sheet_after l told number done }
  pub stands : Stands (sheet_after l told number done) told.picture new.volumes
  pub calls_are : calls ≡ calls_of_steps (map (step_of_move (spot_at l told number)) done)
  pub counted : Counted old calls false new
  pub same : SameLane old new
  pub rooms : rooms_of new.volumes ≡ fold (rooms_move l told.picture) (rooms_of old.volumes) made

module _ (l : LaneOf) (told : LaneTold) (number : ℕ) (ks : List ℕ) (chains : Chains) (old : GrainsState) (can : CanMakeMoves l told number ks chains old) where
  abbrev spot : Spot
  spot = spot_at l told number

  abbrev g : ℕ
  g = place_of l number

  abbrev now : List ℕ → Sheet
  now done = sheet_after l told number done

  pub none_made : MovesMade l told number ks chains old chains old 0 [] (map (move_in spot) ks)
  none_made = record {
    done = [];
    left = ks;
    split = refl;
    made_are = refl;
    rest_are = refl;
    chains_are = ap (λ (s : Sheet). record chains { sheet = s }) can.at.sheet_is;
    stands = can.at.stands;
    calls_are = refl;
    counted = none_counted old;
    same = same_lane old;
    rooms = refl;
  }

  module _ (after : Chains) (new : GrainsState) (calls : ℕ) (made rest : List Move) (m : Move) (so : MovesMade l told number ks chains old after new calls made (m ∷ rest)) where
    abbrev next : ℕ
    next = (split_list (move_in spot) so.left m rest so.rest_are).0

    abbrev later : List ℕ
    later = (split_list (move_in spot) so.left m rest so.rest_are).1

    left_is : so.left ≡ next ∷ later
    left_is = (split_list (move_in spot) so.left m rest so.rest_are).2

    m_is : m ≡ move_in spot next
    m_is = (split_list (move_in spot) so.left m rest so.rest_are).3

    rest_is : rest ≡ map (move_in spot) later
    rest_is = (split_list (move_in spot) so.left m rest so.rest_are).4

    split_is : ks ≡ so.done ++ next ∷ later
    split_is = so.split ∙ ap (λ z. so.done ++ z) left_is

    sheet_is : after.sheet ≡ now so.done
    sheet_is = ap (λ (z : Chains). z.sheet) so.chains_are

    can_at : CanMove (record chains { sheet = now so.done }) g (move_in spot next) next
    can_at =
        let c = can.run.can_move so.done later next split_is in
        record {
          is_there = ap (birth_place (now so.done).slots) c.slot ∙ birth_place_is (now so.done) next so.stands.sound.names c.live.there;
          volume = c.volume;
          safe = c.safe;
          inside = c.live.inside;
          mark = c.mark;
          of_lane = ap (λ z. number % z) can.at.lanes_are ∙ (can.of_lane ∙ sym can.at.lane_is);
          place = ap (λ z. number / z) can.at.lanes_are;
        }

    -- what a move needs
    pub next_sound : IsSound after.sheet
    next_sound = subst IsSound (sym sheet_is) so.stands.sound

    pub next_sized : AllSized after.sheet new.volumes
    next_sized = subst (λ (z : Sheet). AllSized z new.volumes) (sym sheet_is) so.stands.sized

    pub next_can_at : CanMove after g m next
    next_can_at = subst (λ (z : Move). CanMove after g z next) (sym m_is) (subst (λ (z : Chains). CanMove z g (move_in spot next) next) (sym so.chains_are) can_at)

    pub next_can : (k : ℕ) × CanMove after g m k
    next_can = (next, next_can_at)

    -- the holder of its slot, and whether there is something to copy
    shown_by : (h : ℕ) → holder (column (now so.done).slots g) next ≡ Some h → is_lost (stored new.volumes (slot_at (now so.done).slots h).volume g) ≡ is_lost (spot.now (spot.column.volume next))
    shown_by h holds =
        let c = can.run.can_move so.done later next split_is in
        let r = picture_law_holds.read (now so.done) told.picture (stored new.volumes) next g so.stands.sound so.stands.shows c.live.there c.live.is_live c.live.inside in
        let same : r.0 ≡ h = one_holder (holder (column (now so.done).slots g) next) r.0 h r.1 holds in
        sym (ap (λ (v : ℕ). is_lost (now_of told.picture v g)) c.volume ∙ (ap is_lost r.2 ∙ ap (λ (z : ℕ). is_lost (stored new.volumes (slot_at (now so.done).slots z).volume g)) same))

    abbrev step : DiskStep
    step = step_of_move spot next

    abbrev Ends : Chains → GrainsState → Move → ℕ → Option Stop → Chains → GrainsState → Type 0
    Ends c g1 x n stop c' g2 = MoveEnds c g1 g next x n stop c' g2

    -- in plain words
    plain_ends : (n : ℕ) (stop : Option Stop) (after' : Chains) (new' : GrainsState) → MoveEnds after new g next m n stop after' new' →
        MoveEnds (record chains { sheet = now so.done }) new g next (move_in spot next) n stop after' new'
    plain_ends n stop after' new' e =
        subst (λ (z : Move). MoveEnds (record chains { sheet = now so.done }) new g next z n stop after' new') m_is
        (subst (λ (z : Chains). MoveEnds z new g next m n stop after' new') so.chains_are e)

    pub one_made : (n : ℕ) (after' : Chains) (new' : GrainsState) → MoveEnds after new g next m n None after' new' → SameLane new new' →
        MovesMade l told number ks chains old after' new' (calls + n) (made ++ m ∷ []) rest
    one_made n after' new' ends same =
        let e = plain_ends n None after' new' ends in
        let c = can.run.can_move so.done later next split_is in
        let r = picture_law_holds.read (now so.done) told.picture (stored new.volumes) next g so.stands.sound so.stands.shows c.live.there c.live.is_live c.live.inside in
        let counts : n ≡ step.calls = e.0.calls_are r.0 r.1 ∙ ap (λ (b : Bool). cond (is_in_place spot.column next || b) 0 2) (shown_by r.0 r.1) in
        let reached_one : rooms_of new'.volumes ≡ rooms_move l told.picture (rooms_of new.volumes) (move_in spot next) =
        e.0.rooms r.0 r.1 ∙ ap (λ (b : Bool). cond (is_in_place spot.column next || b) (rooms_of new.volumes) (reach (spot.column.volume next) g (rooms_of new.volumes))) (shown_by r.0 r.1) in
        let pushed = sheet_after_push l told number so.done next c.volume in
        let agrees = lane_law_holds.moved l told number ks so.done later next (stored new.volumes) (stored new'.volumes) can.run split_is
        (record { sound = so.stands.sound; shows = so.stands.shows }) e.0.stored_is in
        let all : SameLane old new' = same_then old new new' so.same same in
        let reached = can.run.reached (so.done ++ next ∷ []) later (split_is ∙ sym (append_assoc so.done (next ∷ []) later)) in
        record {
          done = so.done ++ next ∷ [];
          left = later;
          split = split_is ∙ sym (append_assoc so.done (next ∷ []) later);
          made_are = ap (λ z. z ++ m ∷ []) so.made_are ∙ (ap (λ z. map (move_in spot) so.done ++ z ∷ []) m_is ∙ sym (map-append (move_in spot) so.done (next ∷ [])));
          rest_are = rest_is;
          chains_are = e.0.chains_are ∙ ap (λ (z : Sheet). record chains { sheet = z }) (sym pushed);
          stands = record {
            sound = agrees.sound;
            sized = sized_again told.sheet (now (so.done ++ next ∷ [])) old new' reached.shape reached.sizes all can.at.stands.sized;
            shows = agrees.shows;
          };
          calls_are = (λ i. so.calls_are i + counts i) ∙ (sym (calls_push (map (step_of_move spot) so.done) step) ∙ ap calls_of_steps (sym (map-append (step_of_move spot) so.done (next ∷ []))));
          counted = both_counted old new new' calls n false so.counted e.1;
          same = all;
          rooms = reached_one ∙ ((λ i. rooms_move l told.picture (so.rooms i) (sym m_is i)) ∙ sym (fold-append (rooms_move l told.picture) (rooms_of old.volumes) made (m ∷ [])));
        }

    -- how far the moves came when this one wasn't made
    stopped : (n : ℕ) → n ≤ 2 → step.calls ≡ 2 → StoppedIn (map (step_of_move spot) ks) made (calls + n) step n
    stopped n le two = record {
      before = map (step_of_move spot) so.done;
      after = map (step_of_move spot) later;
      steps_are = ap (map (step_of_move spot)) split_is ∙ map-append (step_of_move spot) so.done (next ∷ later);
      moves_are = so.made_are ∙ sym (lane_law_holds.moves_told spot so.done);
      calls_are = ap (λ z. z + n) so.calls_are;
      within = omega arith;
    }

    copies : MoveNotMade (record chains { sheet = now so.done }) new g next (move_in spot next) → step.calls ≡ 2
    copies x = (λ i. cond (x.out i || is_lost (spot.now (spot.column.volume next))) 0 2) ∙ ap (λ (b : Bool). cond b 0 2) (sym (shown_by x.holder_is x.holds) ∙ x.readable)

    -- which grains occupy memory before it
    rooms_so : rooms_of new.volumes ≡ fold (rooms_move l told.picture) (rooms_of old.volumes) (map (move_in spot) so.done)
    rooms_so = so.rooms ∙ ap (fold (rooms_move l told.picture) (rooms_of old.volumes)) so.made_are

    -- what stands when nothing of it was done
    unmade : (n : ℕ) (after' : Chains) (new' : GrainsState) → after' ≡ record chains { sheet = now so.done } → ((w y : ℕ) → stored new'.volumes w y ≡ stored new.volumes w y) →
        SameRooms new.volumes new'.volumes → Counted old (calls + n) false new' → SameLane new new' → StepsStand l told None made (calls + n) None chains old after' new'
    unmade n after' new' is same_stored same_rooms counted same =
        let all : SameLane old new' = same_then old new new' so.same same in
        let reached = can.run.reached so.done (next ∷ later) split_is in
        subst (λ (z : List Move). StepsStand l told None z (calls + n) None chains old after' new') (sym so.made_are)
        (record {
          chains_are = is;
          stands = record {
            sound = so.stands.sound;
            sized = sized_again told.sheet (now so.done) old new' reached.shape reached.sizes all can.at.stands.sized;
            shows = stored_shows (now so.done).slots told.picture (stored new.volumes) (stored new'.volumes) (λ i y below. same_stored (slot_at (now so.done).slots i).volume y) so.stands.shows;
          };
          counted = counted;
          same = all;
          rooms = same_rooms ∙ rooms_so;
        })

    pub one_failed : (n : ℕ) (torn : Option Torn) (after' : Chains) (new' : GrainsState) → MoveEnds after new g next m n (Some (Failed torn)) after' new' → SameLane new new' →
        FailedIn spot (map (step_of_move spot) ks) made (calls + n) torn old new' × StepsStand l told None made (calls + n) torn chains old after' new'
    one_failed n None after' new' ends same =
        let e = plain_ends n (Some (Failed None)) after' new' ends in
        let two : step.calls ≡ 2 = copies e.0 in
        let one : n ≡ 1 = e.1.0 in
        let le : n ≤ 2 = omega arith in
        let counted : Counted old (calls + n) true new' = both_counted old new new' calls n true so.counted e.2 in (
          record {
            step = step;
            extra = n;
            stopped = stopped n le two;
            called = omega arith;
            torn_is = sym (λ i. cond (eqb (one i) (two i)) (Some (torn_of spot step)) None);
            risen = counted.risen refl;
            torn_by_write = tt;
          },
          unmade n after' new' e.1.1 e.1.2 e.1.3 (counted_any old new' (calls + n) true counted) same,
        )
    one_failed n (Some torn) after' new' ends same =
        let e = plain_ends n (Some (Failed (Some torn))) after' new' ends in
        let two : step.calls ≡ 2 = copies e.0 in
        let both : n ≡ 2 = e.1.0 in
        let le : n ≤ 2 = omega arith in
        let counted : Counted old (calls + n) true new' = both_counted old new new' calls n true so.counted e.2 in
        let c = can.run.can_move so.done later next split_is in
        let all : SameLane old new' = same_then old new new' so.same same in
        let reached = can.run.reached so.done (next ∷ later) split_is in
        let v : ℕ = spot.column.volume next in
        let torn_sheet : Sheet = sheet_torn v g Under (now so.done) in
        let name : (slot_at (now so.done).slots next).volume ≡ v = sym c.volume in
        let agrees = lane_law_holds.torn_move l told number ks so.done later next (stored new.volumes) (stored new'.volumes) can.run split_is e.0.out
        (record { sound = so.stands.sound; shows = so.stands.shows })
        (subst (λ (z : ℕ). StoredAt (stored new.volumes) z g Lost (stored new'.volumes)) name e.1.3) in (
          record {
            step = step;
            extra = n;
            stopped = stopped n le two;
            called = omega arith;
            torn_is = ap Some e.1.1 ∙ sym (λ i. cond (eqb (both i) (two i)) (Some (torn_of spot step)) None);
            risen = counted.risen refl;
            torn_by_write = risen_then old.write_faults new.write_faults new'.write_faults so.counted.writes_kept e.1.4;
          },
          subst (λ (z : List Move). StepsStand l told None z (calls + n) (Some torn) chains old after' new') (sym so.made_are)
              (subst (λ (z : Torn). StepsStand l told None (map (move_in spot) so.done) (calls + n) (Some z) chains old after' new') (sym e.1.1)
              (record {
                chains_are = e.1.2 ∙ ap (λ (z : ℕ). record chains { sheet = sheet_torn z g Under (now so.done) }) name;
                stands = record {
                  sound = agrees.sound;
                  sized = sized_again told.sheet torn_sheet old new' (shape_torn (now so.done) v g Under ∙ reached.shape) (λ k. size_torn v g Under (now so.done) k ∙ reached.sizes k) all can.at.stands.sized;
                  shows = agrees.shows;
                };
                counted = counted_any old new' (calls + n) true counted;
                same = all;
                rooms = e.1.5 ∙ ap (reach v g) rooms_so;
              })),
        )

    pub one_refused : (n : ℕ) (after' : Chains) (new' : GrainsState) → MoveEnds after new g next m n (Some NoMemory) after' new' → SameLane new new' →
        RefusedIn spot (map (step_of_move spot) ks) made (calls + n) × StepsStand l told None made (calls + n) None chains old after' new'
    one_refused n after' new' ends same =
        let e = plain_ends n (Some NoMemory) after' new' ends in
        let two : step.calls ≡ 2 = copies e.0 in
        let both : n ≡ 2 = e.1 in
        let le : n ≤ 2 = omega arith in
        let c = can.run.can_move so.done later next split_is in
        let volumes : SameVolumes new.volumes told.volumes = so.same.each ∙ can.at.same in (
          record {
            step = step;
            extra = n;
            stopped = stopped n le two;
            thin = thin_told new.volumes told.volumes (spot.column.volume next) volumes (ap (λ (z : ℕ). (volume_of new.volumes z).kind) c.volume ∙ e.5);
          },
          unmade n after' new' e.2 e.3 e.4 (both_counted old new new' calls n false so.counted e.6) same,
        )

  -- the moves ended
  pub all_made : (after : Chains) (new : GrainsState) (calls : ℕ) (made : List Move) → MovesMade l told number ks chains old after new calls made [] →
      StepsEnd spot (map (step_of_move spot) ks) made calls None old new × StepsStand l told None made calls None chains old after new
  all_made after new calls made so =
      let whole : so.done ≡ ks = sym (append-nil so.done) ∙ (ap (λ z. so.done ++ z) (sym (nil_map so.left so.rest_are)) ∙ sym so.split) in (
        (so.made_are ∙ (ap (map (move_in spot)) whole ∙ sym (lane_law_holds.moves_told spot ks)), so.calls_are ∙ ap (λ z. calls_of_steps (map (step_of_move spot) z)) whole),
        subst (λ (z : List Move). StepsStand l told None z calls None chains old after new) (sym so.made_are) (record {
          chains_are = so.chains_are;
          stands = so.stands;
          counted = so.counted;
          same = so.same;
          rooms = so.rooms ∙ ap (fold (rooms_move l told.picture) (rooms_of old.volumes)) so.made_are;
        }),
      )
    where
      nil_map : (xs : List ℕ) → [] ≡ map (move_in spot) xs → xs ≡ []
      nil_map [] e = refl
      nil_map (x ∷ xs) e = absurd cc

  pub one_stopped : (after : Chains) (new : GrainsState) (calls : ℕ) (made rest : List Move) (m : Move) (so : MovesMade l told number ks chains old after new calls made (m ∷ rest)) (n : ℕ) (stop : Stop) (after' : Chains) (new' : GrainsState) →
      ((k : ℕ) → CanMove after g m k → MoveEnds after new g k m n (Some stop) after' new') → SameLane new new' →
      StepsEnd spot (map (step_of_move spot) ks) made (calls + n) (Some stop) old new' × StepsStand l told None made (calls + n) (torn_in (Some stop)) chains old after' new'
  one_stopped after new calls made rest m so n (Failed torn) after' new' ends same = one_failed after new calls made rest m so n torn after' new' (ends (next after new calls made rest m so) (next_can_at after new calls made rest m so)) same
  one_stopped after new calls made rest m so n NoMemory after' new' ends same = one_refused after new calls made rest m so n after' new' (ends (next after new calls made rest m so) (next_can_at after new calls made rest m so)) same

  pub made_next : (after : Chains) (new : GrainsState) (calls : ℕ) (made rest : List Move) (m : Move) (so : MovesMade l told number ks chains old after new calls made (m ∷ rest)) (n : ℕ) (after' : Chains) (new' : GrainsState) →
      ((k : ℕ) → CanMove after g m k → MoveEnds after new g k m n None after' new') → SameLane new new' → MovesMade l told number ks chains old after' new' (calls + n) (made ++ m ∷ []) rest
  made_next after new calls made rest m so n after' new' ends same = one_made after new calls made rest m so n after' new' (ends (next after new calls made rest m so) (next_can_at after new calls made rest m so)) same
