-- The moves of an entry, one after the other: at each of them a stop may fall.
use Rattle.std.proofs.Common.{◌≡◌, ℕ, ◌<◌, Bool, true, false, cond, ◌||◌, Option, Some, None, List, [], ◌∷◌, ◌++◌, length, map, fold, refl, sym, ap, subst, ◌∙◌, arith, inl, inr}
use Rattle.std.proofs.lemmas.List.{append_assoc, append-nil, map-append}
use Rattle.fc_base.specs.Column.{Shape}
use Rattle.fc_base.specs.Moves.{is_in_place}
use Rattle.fc_base.specs.Safety.{IsSafeMove}
use Rattle.fc_base.specs.Sheet.{Sheet, slot_at, column}
use Rattle.fc_base.specs.SheetFacts.{IsSound}
use Rattle.fc_base.specs.SheetStep.{sheet_moved}
use Rattle.fc_base.specs.declared.ids.VolId.{VolId}
use Rattle.fc_base.specs.declared.request.Move.{Move}
use Rattle.fc_base.specs.declared.request.Request.{Request}
use Rattle.fc_base.specs.declared.size.GrainSize.{GrainSize}
use Rattle.fc_books.specs.Sound.{AreSound}
use Rattle.fc_changed.specs.Row.{Row}
use Rattle.fc_entry.specs.Picture.{Content, Bytes, Lost, is_lost}
use Rattle.fc_legal.specs.Whole.{Whole, single_lane, as_one}
use Rattle.fc_parts.proofs.Numbers.{all_place}
use Rattle.fc_pictures.specs.Law.{now_of}
use Rattle.fc_pictures.specs.StepsLaw.{sheet_after, IsLiveAt, MovesRun}
use Rattle.fc_pictures.proofs.Running.{sheet_after_push}
use Rattle.fc_pictures.proofs.Agreeing.{lane_law_holds}
use Rattle.fc_rules.specs.LaneTold.{LaneOf, place_of, sheet_move}
use Rattle.fc_rules.specs.LaneTurn.{spot_at}
use Rattle.fc_rules.specs.Spot.{Spot, move_in}
use Rattle.fc_rules.specs.Steps.{DiskStep, step_of_move}
use Rattle.fc_kept.specs.Actions.{Action, actions_of_move}
use Rattle.fc_kept.specs.Disks.{NamedDisk}
use Rattle.fc_kept.specs.Images.{size_in}
use Rattle.fc_kept.specs.Kept.{Kept}
use Rattle.fc_kept.specs.Marks.{AreMarked, least_asked}
use Rattle.fc_kept.specs.OneGrain.{Another}
use Rattle.fc_kept.specs.Prefix.{AreStepsOf, moved_to, Prefix, Prefix.moves as first_moves}
use Rattle.fc_kept.specs.Recoverable.{Recoverable}
use Rattle.fc_kept.proofs.Marking.{mark_law}
use Rattle.fc_kept.proofs.Sizes.{slot_size}
use Rattle.law_crash.specs.Points.{Point, StandsFor}
use Rattle.law_crash.specs.Doing.{number_of, actions_of_steps, IsWritten, MayFold, noted, with_kept, with_disks, Did, IsFound, IsFoundIn, Finds}
use Rattle.law_crash.proofs.Found.{chains_sound, found, FoundIn, found_in, CanChange, shows_not}
use Rattle.law_crash.proofs.Folding.{fold_stands, fold_rows}
use Rattle.law_crash.proofs.Moving.{CanMoveAt, pair_of, stands_in_place, stands_empty, stands_copied}
use Rattle.law_crash.proofs.Noting.{with_sheet, written_sheet}

-- ---- what is given of an entry's moves

abbrev pub one_lane : GrainSize → LaneOf
one_lane grain = single_lane grain

-- its grain, as all grains see it
abbrev pub spot_in : GrainSize → Whole → Request → Spot
spot_in grain w r = spot_at (single_lane grain) (as_one w) (number_of grain r)

abbrev pub steps_in : GrainSize → Whole → Request → List ℕ → List DiskStep
steps_in grain w r ks = map (step_of_move (spot_in grain w r)) ks

abbrev pub chains_after : GrainSize → Whole → Request → List ℕ → Sheet
chains_after grain w r done = sheet_after (single_lane grain) (as_one w) (number_of grain r) done

pub record Moves (grain : GrainSize) (w : Whole) (r : Request) (moves : List ℕ) (owns : List DiskStep) : Type 0 where
  pub sound : AreSound w.books
  pub run : MovesRun (single_lane grain) (as_one w) (number_of grain r) moves
  pub steps_are : AreStepsOf grain w r (steps_in grain w r moves ++ owns)

-- some of them are made
pub record At (grain : GrainSize) (w : Whole) (least : List Row) (r : Request) (rows : List Row) (done : List ℕ) (p : Point) : Type 0 where
  pub stands : StandsFor grain (with_sheet w (chains_after grain w r done)) (least_asked (single_lane grain) least (Some r)) p
  pub marked : AreMarked p.kept.rows w.rows least
  pub rows_are : p.kept.rows ≡ rows

-- and metadata may have been folded since
pub at_folded : (grain : GrainSize) (w : Whole) (least : List Row) (r : Request) (rows : List Row) (done : List ℕ) (p : Point) (k : Kept) → MayFold (chains_after grain w r done) p.kept k → At grain w least r rows done p →
    At grain w least r rows done (with_kept k p)
at_folded grain w least r rows done p k m a =
    let chains : Sheet = chains_after grain w r done in
    let same : k.rows ≡ p.kept.rows = fold_rows chains p.kept k m in
    record {
      stands = fold_stands grain (with_sheet w chains) (least_asked (single_lane grain) least (Some r)) p k m a.stands;
      marked = subst (λ (z : List Row). AreMarked z w.rows least) (sym same) a.marked;
      rows_are = same ∙ a.rows_are;
    }

-- ---- a stop between moves

pub told_moves : (grain : GrainSize) (w : Whole) (r : Request) (done : List ℕ) → moved_to grain w (steps_in grain w r done) ≡ with_sheet w (chains_after grain w r done)
told_moves grain w r done =
    ap (λ (ms : List Move). with_sheet w (fold (sheet_move (single_lane grain)) w.books.sheet ms)) (lane_law_holds.moves_told (spot_in grain w r) done)

pub prefix_at : (grain : GrainSize) (w : Whole) (least : List Row) (r : Request) (done rest : List ℕ) (owns : List DiskStep) → AreStepsOf grain w r (steps_in grain w r (done ++ rest) ++ owns) →
    Prefix grain w least (Some r) (with_sheet w (chains_after grain w r done)) (least_asked (single_lane grain) least (Some r))
prefix_at grain w least r done rest owns e =
    let front : List DiskStep = steps_in grain w r done in
    let back : List DiskStep = steps_in grain w r rest ++ owns in
    let split : steps_in grain w r (done ++ rest) ++ owns ≡ front ++ back =
    ap (λ (z : List DiskStep). z ++ owns) (map-append (step_of_move (spot_in grain w r)) done rest) ∙ append_assoc front (steps_in grain w r rest) owns in
    subst (λ (z : Whole). Prefix grain w least (Some r) z (least_asked (single_lane grain) least (Some r))) (told_moves grain w r done)
    (first_moves r front back (subst (AreStepsOf grain w r) split e))

-- ---- one move

-- the move of a slot by its marks: in place or not, and where there is nothing to copy
abbrev pub move_with : Spot → ℕ → Bool → Move
move_with spot k in_place = record (move_in spot k) { in_place = in_place }

abbrev pub step_with : Spot → ℕ → Bool → Bool → DiskStep
step_with spot k in_place lost = record (step_of_move spot k) { move = Some (move_with spot k in_place); calls = cond (in_place || lost) 0 2 }

can_move_at : (grain : GrainSize) (w : Whole) (r : Request) (moves : List ℕ) (owns : List DiskStep) → Moves grain w r moves owns → (done rest : List ℕ) (k : ℕ) → moves ≡ done ++ k ∷ rest →
    let s : Sheet = chains_after grain w r done in
    CanMoveAt w.books.tables s (number_of grain r) k (is_in_place (spot_in grain w r).column k) × ((slot_at s.slots k).volume ≡ (spot_in grain w r).column.volume k)
    × (chains_after grain w r (done ++ k ∷ []) ≡ sheet_moved ((spot_in grain w r).column.volume k) (number_of grain r) (is_in_place (spot_in grain w r).column k) s)
can_move_at grain w r moves owns m done rest k split =
    let l : LaneOf = single_lane grain in
    let number : ℕ = number_of grain r in
    let s : Sheet = chains_after grain w r done in
    let can = m.run.can_move done rest k split in
    let reached = m.run.reached done (k ∷ rest) split in
    let same : place_of l number ≡ number = all_place grain number in
    let live = subst (λ (g : ℕ). IsLiveAt s.slots g k) same can.live in
    let size : length (slot_at s.slots k).held ≡ length (slot_at w.books.sheet.slots k).held = reached.sizes k in
    let volume : (slot_at s.slots k).volume ≡ (slot_at w.books.sheet.slots k).volume = ap (λ (z : Shape). z.volume k) reached.shape in
    let count : length s.slots ≡ length w.books.sheet.slots = ap (λ (z : Shape). z.count) reached.shape in
    let there : k < length s.slots = live.there in
    let inside : number < length (slot_at s.slots k).held = live.inside in
    let told = slot_size w.books m.sound k (omega (arith, count, there)) in (
      record {
        safe = subst (λ (g : ℕ). IsSafeMove (column s.slots g) k) same can.safe;
        inside = inside;
        mark = subst (λ (g : ℕ). is_in_place (spot_in grain w r).column k ≡ is_in_place (column s.slots g) k) same can.mark;
        room = subst (λ (v : ℕ). let id : VolId = record { 0 = v } in number < size_in w.books.tables id) (sym volume) (omega (arith, told, size, inside));
      },
      volume,
      sheet_after_push l (as_one w) number done k can.volume
          ∙ (ap (λ (v : ℕ). sheet_moved v (place_of l number) (is_in_place (spot_in grain w r).column k) s) (sym can.volume)
          ∙ ap (λ (g : ℕ). sheet_moved ((spot_in grain w r).column.volume k) g (is_in_place (spot_in grain w r).column k) s) same),
    )

-- what is so of the next move, by its mark
abbrev pub NextMove : GrainSize → Whole → Request → List ℕ → ℕ → Bool → Type 0
NextMove grain w r done k in_place =
    let s : Sheet = chains_after grain w r done in
    let v : ℕ = (spot_in grain w r).column.volume k in
    CanMoveAt w.books.tables s (number_of grain r) k in_place × ((slot_at s.slots k).volume ≡ v)
    × (chains_after grain w r (done ++ k ∷ []) ≡ sheet_moved v (number_of grain r) in_place s)

pub next_move : (grain : GrainSize) (w : Whole) (r : Request) (moves : List ℕ) (owns : List DiskStep) → Moves grain w r moves owns → (done rest : List ℕ) (k : ℕ) → moves ≡ done ++ k ∷ rest →
    (in_place : Bool) → is_in_place (spot_in grain w r).column k ≡ in_place → NextMove grain w r done k in_place
next_move grain w r moves owns m done rest k split in_place e = subst (NextMove grain w r done k) e (can_move_at grain w r moves owns m done rest k split)

-- the move is made
abbrev made : Spot → ℕ → Bool → Bool → Point → Point
made spot k in_place empty p = noted (pair_of record { 0 = spot.column.birth k } (spot.column.volume k) spot.number in_place empty) p

at_next : (grain : GrainSize) (w : Whole) (least : List Row) (r : Request) (rows : List Row) (done : List ℕ) (k : ℕ) (in_place empty : Bool) (p : Point) → NextMove grain w r done k in_place → AreMarked p.kept.rows w.rows least → p.kept.rows ≡ rows →
    StandsFor grain (with_sheet w (sheet_moved ((spot_in grain w r).column.volume k) (number_of grain r) in_place (chains_after grain w r done))) (least_asked (single_lane grain) least (Some r)) (made (spot_in grain w r) k in_place empty p) →
    At grain w least r rows (done ++ k ∷ []) (made (spot_in grain w r) k in_place empty p)
at_next grain w least r rows done k in_place empty p n marked rows_are st =
    record {
      stands = subst (λ (z : Sheet). StandsFor grain (with_sheet w z) (least_asked (single_lane grain) least (Some r)) (made (spot_in grain w r) k in_place empty p)) (sym n.2) st;
      marked = marked;
      rows_are = rows_are;
    }

in_place_more : (grain : GrainSize) (w : Whole) (least : List Row) (r : Request) (rows : List Row) (done : List ℕ) (k : ℕ) (p : Point) → NextMove grain w r done k true → At grain w least r rows done p →
    At grain w least r rows (done ++ k ∷ []) (made (spot_in grain w r) k true false p)
in_place_more grain w least r rows done k p n a =
    let spot : Spot = spot_in grain w r in
    at_next grain w least r rows done k true false p n a.marked a.rows_are
    (stands_in_place grain (with_sheet w (chains_after grain w r done)) (least_asked (single_lane grain) least (Some r)) p record { 0 = spot.column.birth k } (number_of grain r) k (spot.column.volume k) false a.stands n.0 n.1)

lost_from : (x : Content) → is_lost x ≡ true → x ≡ Lost
lost_from (Bytes bytes) e = absurd cc
lost_from Lost e = refl

empty_more : (grain : GrainSize) (w : Whole) (least : List Row) (r : Request) (rows : List Row) (done : List ℕ) (k : ℕ) (p : Point) → NextMove grain w r done k false → is_lost ((spot_in grain w r).now ((spot_in grain w r).column.volume k)) ≡ true →
    At grain w least r rows done p → At grain w least r rows (done ++ k ∷ []) (made (spot_in grain w r) k false true p)
empty_more grain w least r rows done k p n lost a =
    let spot : Spot = spot_in grain w r in
    let v : ℕ = spot.column.volume k in
    let is : now_of w.picture v (number_of grain r) ≡ Lost =
    ap (λ (g : ℕ). now_of w.picture v g) (sym (all_place grain (number_of grain r))) ∙ lost_from (spot.now v) lost in
    at_next grain w least r rows done k false true p n a.marked a.rows_are
    (stands_empty grain (with_sheet w (chains_after grain w r done)) (least_asked (single_lane grain) least (Some r)) p record { 0 = spot.column.birth k } (number_of grain r) k v a.stands n.0 n.1 is)

copied_more : (grain : GrainSize) (w : Whole) (least : List Row) (r : Request) (rows : List Row) (done : List ℕ) (k : ℕ) (p : Point) (disks : List (List NamedDisk)) → NextMove grain w r done k false →
    IsWritten grain w ((spot_in grain w r).column.volume k) (number_of grain r) (now_of w.picture ((spot_in grain w r).column.volume k) (number_of grain r)) p.disks disks →
    At grain w least r rows done p → At grain w least r rows (done ++ k ∷ []) (made (spot_in grain w r) k false false (with_disks disks p))
copied_more grain w least r rows done k p disks n x a =
    let spot : Spot = spot_in grain w r in
    at_next grain w least r rows done k false false (with_disks disks p) n a.marked a.rows_are
    (stands_copied grain (with_sheet w (chains_after grain w r done)) (least_asked (single_lane grain) least (Some r)) p disks record { 0 = spot.column.birth k } (number_of grain r) k (spot.column.volume k) a.stands n.0 n.1 (written_sheet grain w (chains_after grain w r done) (spot.column.volume k) (number_of grain r) (now_of w.picture (spot.column.volume k) (number_of grain r)) p.disks disks x))

-- ---- what is found

pub from_found : (grain : GrainSize) (w : Whole) (least : List Row) (r : Request) (chains : Sheet) (p q : Point) (one : Option Another) → IsFound chains p one q →
    ((k : Kept) → MayFold chains p.kept k → Recoverable grain p.disks k w least (Some r) None) → Recoverable grain q.disks q.kept w least (Some r) one
from_found grain w least r chains p q one x f =
    subst (λ (o : Option Another). Recoverable grain q.disks q.kept w least (Some r) o) (sym x.0)
    (subst (λ (d : List (List NamedDisk)). Recoverable grain d q.kept w least (Some r) None) (sym x.1) (f q.kept x.2))

pub found_here : (grain : GrainSize) (w now : Whole) (least least_now : List Row) (r : Request) (p q : Point) (one : Option Another) → Prefix grain w least (Some r) now least_now → StandsFor grain now least_now p →
    IsFound now.books.sheet p one q → Recoverable grain q.disks q.kept w least (Some r) one
found_here grain w now least least_now r p q one is st x =
    from_found grain w least r now.books.sheet p q one x (λ k m. found grain w now least least_now r (with_kept k p) is (fold_stands grain now least_now p k m st))

pub from_found_in : (grain : GrainSize) (w : Whole) (least : List Row) (r : Request) (chains : Sheet) (step : DiskStep) (p q : Point) (one : Option Another) → IsFoundIn grain w r chains step p one q →
    FoundIn grain w w least r (with_kept q.kept p) q.disks step.volume (number_of grain r) → Recoverable grain q.disks q.kept w least (Some r) one
from_found_in grain w least r chains step p q one x f = subst (λ (o : Option Another). Recoverable grain q.disks q.kept w least (Some r) o) (sym x.one_is) f

can_change : (grain : GrainSize) (w : Whole) (least : List Row) (r : Request) (rows : List Row) (done : List ℕ) (k : ℕ) (p : Point) → NextMove grain w r done k false → At grain w least r rows done p →
    CanChange (chains_after grain w r done).slots ((spot_in grain w r).column.volume k) (number_of grain r) k p.kept.rows
can_change grain w least r rows done k p n a =
    let s : Sheet = chains_after grain w r done in
    let safe = n.0.safe in
    let sound : IsSound s = chains_sound grain (with_sheet w s) (least_asked (single_lane grain) least (Some r)) p a.stands in
    record {
      there = safe.there;
      is_live = safe.is_live;
      free = safe.free (sym n.0.mark);
      of_volume = n.1;
      marked = λ content own. absurd (shows_not s (number_of grain r) k sound safe (sym n.0.mark) own);
    }

-- behind all moves
abbrev pub FoundBehind : GrainSize → Whole → List Row → Request → List Row → List ℕ → List DiskStep → Option Another → Point → Type 0
FoundBehind grain w least r rows moves owns one q =
    (p : Point) → At grain w least r rows moves p → Finds grain w r (chains_after grain w r moves) (actions_of_steps rows (number_of grain r) owns) p one q → Recoverable grain q.disks q.kept w least (Some r) one

-- behind one of them
abbrev BehindOne : GrainSize → Whole → List Row → Request → List Row → List ℕ → ℕ → List Action → Option Another → Point → Type 0
BehindOne grain w least r rows done k rest one q =
    (x : Point) → At grain w least r rows (done ++ k ∷ []) x → Finds grain w r (chains_after grain w r (done ++ k ∷ [])) rest x one q → Recoverable grain q.disks q.kept w least (Some r) one

-- at one of them, or behind it
found_move : (grain : GrainSize) (w : Whole) (least : List Row) (r : Request) (rows : List Row) (done : List ℕ) (k : ℕ) (p q : Point) (one : Option Another) (rest : List Action) (in_place lost : Bool) →
    NextMove grain w r done k in_place → is_lost ((spot_in grain w r).now ((spot_in grain w r).column.volume k)) ≡ lost → At grain w least r rows done p →
    Prefix grain w least (Some r) (with_sheet w (chains_after grain w r done)) (least_asked (single_lane grain) least (Some r)) →
    BehindOne grain w least r rows done k rest one q →
    Finds grain w r (chains_after grain w r done) (actions_of_move (step_with (spot_in grain w r) k in_place lost) (move_with (spot_in grain w r) k in_place) ++ rest) p one q →
    Recoverable grain q.disks q.kept w least (Some r) one
found_move grain w least r rows done k p q one rest true lost n l a is on f =
    elim f [
      | inl x ↦ found_here grain w (with_sheet w (chains_after grain w r done)) least (least_asked (single_lane grain) least (Some r)) r p q one is a.stands x
      | inr y ↦
          let x : Point = with_kept y.0 p in
          let z : Point = made (spot_in grain w r) k true false x in
          on z (in_place_more grain w least r rows done k x n (at_folded grain w least r rows done p y.0 y.1 a)) (subst (λ (s : Sheet). Finds grain w r s rest z one q) (sym n.2) y.2)
    ]
found_move grain w least r rows done k p q one rest false true n l a is on f =
    elim f [
      | inl x ↦ found_here grain w (with_sheet w (chains_after grain w r done)) least (least_asked (single_lane grain) least (Some r)) r p q one is a.stands x
      | inr y ↦
          let x : Point = with_kept y.0 p in
          let z : Point = made (spot_in grain w r) k false true x in
          on z (empty_more grain w least r rows done k x n l (at_folded grain w least r rows done p y.0 y.1 a)) (subst (λ (s : Sheet). Finds grain w r s rest z one q) (sym n.2) y.2)
    ]
found_move grain w least r rows done k p q one rest false false n l a is on f =
    let s : Sheet = chains_after grain w r done in
    let now : Whole = with_sheet w s in
    let least' : List Row = least_asked (single_lane grain) least (Some r) in
    let spot : Spot = spot_in grain w r in
    elim f [
      | inl x ↦ found_here grain w now least least' r p q one is a.stands x
      | inr y ↦ elim y [
        | inl x ↦
            let z : Point = with_kept q.kept p in
            let az : At grain w least r rows done z = at_folded grain w least r rows done p q.kept x.kept a in
            from_found_in grain w least r s (step_with spot k false false) p q one x
            (found_in grain w now least least' r z q.disks (spot.column.volume k) (number_of grain r) k x.content is az.stands (can_change grain w least r rows done k z n az) (written_sheet grain w s (spot.column.volume k) (number_of grain r) x.content p.disks q.disks x.writes))
        | inr x ↦
            let u : Point = with_kept x.2 p in
            let z : Point = made spot k false false (with_disks x.0 u) in
            on z (copied_more grain w least r rows done k u x.0 n x.1 (at_folded grain w least r rows done p x.2 x.3 a)) (subst (λ (t : Sheet). Finds grain w r t rest z one q) (sym n.2) x.4)
      ]
    ]

pub found_moves : (grain : GrainSize) (w : Whole) (least : List Row) (r : Request) (rows : List Row) (moves : List ℕ) (owns : List DiskStep) (q : Point) (one : Option Another) → Moves grain w r moves owns →
    FoundBehind grain w least r rows moves owns one q →
    (todo done : List ℕ) (p : Point) → moves ≡ done ++ todo → At grain w least r rows done p →
    Finds grain w r (chains_after grain w r done) (actions_of_steps rows (number_of grain r) (steps_in grain w r todo ++ owns)) p one q → Recoverable grain q.disks q.kept w least (Some r) one
found_moves grain w least r rows moves owns q one m behind [] done p split a f =
    let same : done ≡ moves = sym (split ∙ append-nil done) in
    behind p (subst (λ (z : List ℕ). At grain w least r rows z p) same a)
    (subst (λ (z : List ℕ). Finds grain w r (chains_after grain w r z) (actions_of_steps rows (number_of grain r) owns) p one q) same f)
found_moves grain w least r rows moves owns q one m behind (k ∷ todo) done p split a f =
    let spot : Spot = spot_in grain w r in
    let g : ℕ = number_of grain r in
    let now : Whole = with_sheet w (chains_after grain w r done) in
    let least' : List Row = least_asked (single_lane grain) least (Some r) in
    let is : Prefix grain w least (Some r) now least' = prefix_at grain w least r done (k ∷ todo) owns (subst (λ (z : List ℕ). AreStepsOf grain w r (steps_in grain w r z ++ owns)) split m.steps_are) in
    let rest : List Action = actions_of_steps rows g (steps_in grain w r todo ++ owns) in
    let on : BehindOne grain w least r rows done k rest one q = λ x ax. found_moves grain w least r rows moves owns q one m behind todo (done ++ k ∷ []) x (split ∙ sym (append_assoc done (k ∷ []) todo)) ax in
    let next = next_move grain w r moves owns m done todo k split in
    let v : ℕ = spot.column.volume k in
    found_move grain w least r rows done k p q one rest (is_in_place spot.column k) (is_lost (spot.now v)) (next (is_in_place spot.column k) refl) refl a is on f

-- ---- all moves are made

abbrev DidOne : GrainSize → Whole → List Row → Request → List Row → List ℕ → ℕ → List Action → Point → Type 0 → Type 0
DidOne grain w least r rows done k rest q R =
    (x : Point) → At grain w least r rows (done ++ k ∷ []) x → Did grain w r (chains_after grain w r (done ++ k ∷ [])) rest x q → R

did_move : (grain : GrainSize) (w : Whole) (least : List Row) (r : Request) (rows : List Row) (done : List ℕ) (k : ℕ) (p q : Point) (rest : List Action) (R : Type 0) (in_place lost : Bool) →
    NextMove grain w r done k in_place → is_lost ((spot_in grain w r).now ((spot_in grain w r).column.volume k)) ≡ lost → At grain w least r rows done p →
    DidOne grain w least r rows done k rest q R →
    Did grain w r (chains_after grain w r done) (actions_of_move (step_with (spot_in grain w r) k in_place lost) (move_with (spot_in grain w r) k in_place) ++ rest) p q → R
did_move grain w least r rows done k p q rest R true lost n l a on f =
    let x : Point = with_kept f.0 p in
    let z : Point = made (spot_in grain w r) k true false x in
    on z (in_place_more grain w least r rows done k x n (at_folded grain w least r rows done p f.0 f.1 a)) (subst (λ (s : Sheet). Did grain w r s rest z q) (sym n.2) f.2)
did_move grain w least r rows done k p q rest R false true n l a on f =
    let x : Point = with_kept f.0 p in
    let z : Point = made (spot_in grain w r) k false true x in
    on z (empty_more grain w least r rows done k x n l (at_folded grain w least r rows done p f.0 f.1 a)) (subst (λ (s : Sheet). Did grain w r s rest z q) (sym n.2) f.2)
did_move grain w least r rows done k p q rest R false false n l a on f =
    let x : Point = with_kept f.2.0 p in
    let z : Point = made (spot_in grain w r) k false false (with_disks f.0 x) in
    on z (copied_more grain w least r rows done k x f.0 n f.1 (at_folded grain w least r rows done p f.2.0 f.2.1 a)) (subst (λ (s : Sheet). Did grain w r s rest z q) (sym n.2) f.2.2)

-- those of them that stand behind `done`, up to `rest`
abbrev pub DidBehind : GrainSize → Whole → List Row → Request → List Row → List DiskStep → Point → Type 0 → List ℕ → Type 0
DidBehind grain w least r rows tail q R done =
    (x : Point) → At grain w least r rows done x → Did grain w r (chains_after grain w r done) (actions_of_steps rows (number_of grain r) tail) x q → R

pub did_moves : (grain : GrainSize) (w : Whole) (least : List Row) (r : Request) (rows : List Row) (moves : List ℕ) (owns tail : List DiskStep) (q : Point) (R : Type 0) → Moves grain w r moves owns →
    (todo done rest : List ℕ) (p : Point) → moves ≡ done ++ (todo ++ rest) → At grain w least r rows done p → DidBehind grain w least r rows tail q R (done ++ todo) →
    Did grain w r (chains_after grain w r done) (actions_of_steps rows (number_of grain r) (steps_in grain w r todo ++ tail)) p q → R
did_moves grain w least r rows moves owns tail q R m [] done rest p split a behind f =
    subst (DidBehind grain w least r rows tail q R) (append-nil done) behind p a f
did_moves grain w least r rows moves owns tail q R m (k ∷ todo) done rest p split a behind f =
    let spot : Spot = spot_in grain w r in
    let v : ℕ = spot.column.volume k in
    let left : List Action = actions_of_steps rows (number_of grain r) (steps_in grain w r todo ++ tail) in
    let more : (done ++ k ∷ []) ++ todo ≡ done ++ k ∷ todo = append_assoc done (k ∷ []) todo in
    let on : DidOne grain w least r rows done k left q R = λ x ax. did_moves grain w least r rows moves owns tail q R m todo (done ++ k ∷ []) rest x (split ∙ sym (append_assoc done (k ∷ []) (todo ++ rest))) ax
    (subst (DidBehind grain w least r rows tail q R) (sym more) behind) in
    let next = next_move grain w r moves owns m done (todo ++ rest) k split in
    did_move grain w least r rows done k p q left R (is_in_place spot.column k) (is_lost (spot.now v)) (next (is_in_place spot.column k) refl) refl a on f

-- ---- before the first

pub at_first : (grain : GrainSize) (w : Whole) (least : List Row) (r : Request) (p : Point) → StandsFor grain w least p → At grain w least r p.kept.rows [] p
at_first grain w least r p st =
    let s = st.says in
    record {
      stands = record {
        says = record {
          sound = s.sound;
          tables = s.tables;
          next_volume = s.next_volume;
          next_mapping = s.next_mapping;
          next_group = s.next_group;
          slots = s.slots;
          rows = mark_law.asked (single_lane grain) p.kept.rows w.rows least (Some r) s.rows;
          count = s.count;
          fit = s.fit;
        };
        shows = st.shows;
      };
      marked = s.rows;
      rows_are = refl;
    }
