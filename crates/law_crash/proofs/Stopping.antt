-- Behind a step that stopped the disks stand for what the history leads to with its entry.
use Rattle.std.proofs.Common.{◌≡◌, ℕ, ◌≤◌, Bool, true, false, cond, ◌||◌, Option, Some, None, List, [], ◌∷◌, ◌++◌, map, fold, refl, sym, ap, subst, arith, ◌⊎◌, inl, inr}
use Rattle.std.proofs.lemmas.List.{append-nil}
use Rattle.fc_base.specs.Moves.{is_in_place}
use Rattle.fc_base.specs.Sheet.{Sheet}
use Rattle.fc_base.specs.SheetStep.{sheet_torn}
use Rattle.fc_base.specs.declared.request.Move.{Move}
use Rattle.fc_base.specs.declared.request.Request.{Request}
use Rattle.fc_base.specs.declared.request.Side.{Side}
use Rattle.fc_base.specs.declared.request.Side.TheVariants.{Under}
use Rattle.fc_base.specs.declared.request.Torn.{Torn}
use Rattle.fc_base.specs.declared.size.GrainSize.{GrainSize}
use Rattle.fc_changed.specs.Row.{Row, after_note}
use Rattle.fc_follow.specs.Following.{write_notes}
use Rattle.fc_entry.specs.Picture.{Content, is_lost, changed_at}
use Rattle.fc_image.specs.declared.record.MetaRecord.TheVariants.{Torn as TornRecord}
use Rattle.fc_legal.specs.Whole.{Whole, single_lane}
use Rattle.fc_parts.proofs.Numbers.{all_place}
use Rattle.fc_pictures.proofs.Agreeing.{lane_law_holds}
use Rattle.fc_rules.specs.LaneTold.{place_of, sheet_move, tear_volume}
use Rattle.fc_rules.specs.Spot.{move_in}
use Rattle.fc_rules.specs.Steps.{DiskStep, step_of_move, moves_of}
use Rattle.fc_kept.specs.Disks.{NamedDisk}
use Rattle.fc_kept.specs.Marks.{AreMarked, asked_write, least_asked}
use Rattle.law_crash.specs.Points.{Point, StandsFor}
use Rattle.law_crash.specs.Doing.{number_of, IsWritten, noted, with_kept, with_disks, Tears}
use Rattle.law_crash.proofs.Answering.{told_with, least_with}
use Rattle.law_crash.proofs.Failing.{torn_of, StandsTorn, move_torn}
use Rattle.law_crash.proofs.Making.{spot_in, steps_in, chains_after, Moves, At, at_folded, NextMove, next_move}
use Rattle.law_crash.proofs.Noting.{with_all, with_sheet, written_sheet}

-- ---- which step it is

head_is : {X : Type 0} (x y : X) (xs ys : List X) → x ∷ xs ≡ y ∷ ys → x ≡ y
head_is x y xs ys e = cc

tail_is : {X : Type 0} (x y : X) (xs ys : List X) → x ∷ xs ≡ y ∷ ys → xs ≡ ys
tail_is x y xs ys e = cc

-- a move, or one behind all moves
abbrev pub IsMove : (ℕ → DiskStep) → List ℕ → List DiskStep → DiskStep → Type 0
IsMove f ks front step = (done : List ℕ) × (k : ℕ) × (rest : List ℕ) × (ks ≡ done ++ k ∷ rest) × (front ≡ map f done) × (step ≡ f k)

abbrev pub IsBehind : (ℕ → DiskStep) → List ℕ → List DiskStep → List DiskStep → List DiskStep → DiskStep → Type 0
IsBehind f ks owns front back step = (more : List DiskStep) × (front ≡ map f ks ++ more) × (owns ≡ more ++ step ∷ back)

pub which_step : (f : ℕ → DiskStep) (ks : List ℕ) (owns front back : List DiskStep) (step : DiskStep) → map f ks ++ owns ≡ front ++ step ∷ back → IsMove f ks front step ⊎ IsBehind f ks owns front back step
which_step f [] owns front back step e = inr (front, refl, e)
which_step f (k ∷ ks) owns [] back step e = inl ([], k, ks, refl, refl, sym (head_is (f k) step (map f ks ++ owns) back e))
which_step f (k ∷ ks) owns (x ∷ front) back step e =
    let head : f k ≡ x = head_is (f k) x (map f ks ++ owns) (front ++ step ∷ back) e in
    elim (which_step f ks owns front back step (tail_is (f k) x (map f ks ++ owns) (front ++ step ∷ back) e)) [
      | inl y ↦ inl (k ∷ y.0, y.1, y.2, ap (λ (z : List ℕ). k ∷ z) y.3, (λ i. sym head i ∷ y.4 i), y.5)
      | inr y ↦ inr (y.0, (λ i. sym head i ∷ y.1 i), y.2)
    ]

pub one_step : (own : DiskStep) (more back : List DiskStep) (step : DiskStep) → own ∷ [] ≡ more ++ step ∷ back → (more ≡ []) × (step ≡ own)
one_step own [] back step e = (refl, sym (head_is own step [] back e))
one_step own (x ∷ []) back step e = absurd (let f : [] ≡ step ∷ back = tail_is own x [] (step ∷ back) e in cc)
one_step own (x ∷ y ∷ more) back step e = absurd (let f : [] ≡ y ∷ more ++ step ∷ back = tail_is own x [] (y ∷ more ++ step ∷ back) e in cc)

-- ---- a move stopped

abbrev pub Goal : GrainSize → Whole → List Row → Request → List DiskStep → Option Torn → Point → Type 0
Goal grain w least r front torn q = StandsFor grain (told_with grain w None front torn) (least_with grain least (asked_write r) torn) q

least_here : (grain : GrainSize) (least : List Row) (r : Request) → least_asked (single_lane grain) least (Some r) ≡ least_with grain least (asked_write r) None
least_here grain least r = ap (fold after_note least) (sym (append-nil (write_notes (single_lane grain) (asked_write r))))

moves_here : (grain : GrainSize) (w : Whole) (r : Request) (done : List ℕ) → moves_of (steps_in grain w r done) ≡ map (move_in (spot_in grain w r)) done
moves_here grain w r done = lane_law_holds.moves_told (spot_in grain w r) done

-- nothing was written
pub move_untorn : (grain : GrainSize) (w : Whole) (least : List Row) (r : Request) (rows : List Row) (done : List ℕ) (p : Point) → At grain w least r rows done p → Goal grain w least r (steps_in grain w r done) None p
move_untorn grain w least r rows done p a =
    subst (λ (x : List Row). StandsFor grain (told_with grain w None (steps_in grain w r done) None) x p) (least_here grain least r)
    (subst (λ (ms : List Move). StandsFor grain (with_sheet w (fold (sheet_move (single_lane grain)) w.books.sheet ms)) (least_asked (single_lane grain) least (Some r)) p) (sym (moves_here grain w r done)) a.stands)

-- it is out of place, since it has calls
out_of_place : (in_place lost : Bool) → 1 ≤ cond (in_place || lost) 0 2 → in_place ≡ false
out_of_place true lost le = absurd (omega arith)
out_of_place false lost le = refl

abbrev pub torn_at : ℕ → ℕ → Side → Torn
torn_at v g side = record { volume = record { 0 = v }; grain = record { 0 = g }; side = side }

-- its own write failed
move_tears : (grain : GrainSize) (w : Whole) (least : List Row) (r : Request) (rows : List Row) (done : List ℕ) (k : ℕ) (p : Point) (content : Content) (disks : List (List NamedDisk)) → NextMove grain w r done k false →
    At grain w least r rows done p → IsWritten grain w ((spot_in grain w r).column.volume k) (number_of grain r) content p.disks disks →
    Goal grain w least r (steps_in grain w r done) (Some (torn_at ((spot_in grain w r).column.volume k) (number_of grain r) Under)) (noted (torn_of ((spot_in grain w r).column.volume k) (number_of grain r) Under) (with_disks disks p))
move_tears grain w least r rows done k p content disks n a x =
    let l = single_lane grain in
    let v : ℕ = (spot_in grain w r).column.volume k in
    let g : ℕ = number_of grain r in
    let s : Sheet = chains_after grain w r done in
    let least' : List Row = least_with grain least (asked_write r) None in
    let q : Point = noted (torn_of v g Under) (with_disks disks p) in
    let marked : AreMarked p.kept.rows w.rows least' = subst (λ (z : List Row). AreMarked p.kept.rows w.rows z) (least_here grain least r) a.stands.says.rows in
    let here : StandsTorn grain (with_sheet w s) w.rows least' p disks g Under v = move_torn grain (with_sheet w s) (least_asked l least (Some r)) least' p disks g k v content a.stands n.0 n.1 (written_sheet grain w s v g content p.disks disks x) marked in
    let left : ℕ → List Move → Whole = λ (y : ℕ) (ms : List Move).
    with_all w (sheet_torn v y Under (fold (sheet_move l) w.books.sheet ms)) (changed_at record { 0 = v } (tear_volume Under g) w.picture) w.rows in
    let same : left g (map (move_in (spot_in grain w r)) done) ≡ left (place_of l g) (moves_of (steps_in grain w r done)) = λ i. left (sym (all_place grain g) i) (sym (moves_here grain w r done) i) in
    subst (λ (z : Whole). StandsFor grain z least' q) same here

-- by what it tore
pub move_stopped : (grain : GrainSize) (w : Whole) (least : List Row) (r : Request) (rows : List Row) (moves done rest : List ℕ) (owns : List DiskStep) (k : ℕ) (torn : Option Torn) (p q : Point) → Moves grain w r moves owns →
    moves ≡ done ++ k ∷ rest → At grain w least r rows done p → Tears grain w r (chains_after grain w r done) (step_of_move (spot_in grain w r) k) torn p q → Goal grain w least r (steps_in grain w r done) torn q
move_stopped grain w least r rows moves done rest owns k None p q m split a t = subst (Goal grain w least r (steps_in grain w r done) None) (sym t) (move_untorn grain w least r rows done p a)
move_stopped grain w least r rows moves done rest owns k (Some torn) p q m split a t =
    let spot = spot_in grain w r in
    let lost : Bool = is_lost (spot.now (spot.column.volume k)) in
    let out : is_in_place spot.column k ≡ false = out_of_place (is_in_place spot.column k) lost t.1 in
    let n = next_move grain w r moves owns m done rest k split false out in
    let v : ℕ = spot.column.volume k in
    let g : ℕ = number_of grain r in
    let x : Point = with_kept t.5 p in
    let here = move_tears grain w least r rows done k x t.2 t.3 n (at_folded grain w least r rows done p t.5 t.6 a) t.4 in
    let to_q : Torn → Type 0 = λ (z : Torn). Goal grain w least r (steps_in grain w r done) (Some z) (noted (TornRecord z.volume z.grain z.side) (with_disks t.3 x)) in
    subst (Goal grain w least r (steps_in grain w r done) (Some torn)) (sym t.7) (subst to_q (sym t.0) here)
