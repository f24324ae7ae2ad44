-- The moves of a fill or of a write, one after the other, on the sheet.
use Rattle.std.proofs.Common.{◌≡◌, ℕ, ◌<◌, ◌≤◌, Bool, true, false, cond, Some, List, [], ◌∷◌, ◌++◌, length, map, fold, refl, sym, ap, subst, ◌∙◌, arith, inl, inr}
use Rattle.std.proofs.lemmas.List.{append_assoc, append-nil}
use Rattle.fc_base.specs.Column.{Shape, Column, first_reader}
use Rattle.fc_base.specs.Moves.{is_in, is_in_place, write_asks, Must, Must.root, Must.asked, moved, fill_moves, write_moves, after_moves}
use Rattle.fc_base.specs.Safety.{IsSafeMove, IsSafeWrite}
use Rattle.fc_base.specs.Sheet.{Slot, Sheet, slot_at, column}
use Rattle.fc_base.specs.SheetFacts.{HasSizes, IsSound}
use Rattle.fc_base.specs.SheetStep.{grain_taken, grain_kept, sheet_moved}
use Rattle.fc_base.specs.declared.request.Side.TheVariants.{Now, Under}
use Rattle.fc_rules.specs.LaneTold.{LaneOf, LaneTold, place_of, sheet_move}
use Rattle.fc_rules.specs.LaneTurn.{spot_at}
use Rattle.fc_rules.specs.Spot.{move_in}
use Rattle.fc_rules.specs.Steps.{reads_own}
use Rattle.fc_moves.specs.Law.{ListLaw}
use Rattle.fc_moves.proofs.Lawful.{fill_law, write_law}
use Rattle.fc_moves.proofs.Lists.{after_moves_push}
use Rattle.fc_moves.proofs.Members.{in_cases, in_head, in_append_right, asks_parts, write_asks_parts, not_in_nil}
use Rattle.fc_moves.proofs.Readers.{reader_is, next_is}
use Rattle.fc_sheets.proofs.Columns.{column_moved, column_moved_other, shape_moved}
use Rattle.fc_sheets.proofs.Holding.{at_map, regrained, held_in_range, moved_sound}
use Rattle.fc_pictures.specs.Law.{LosesSide}
use Rattle.fc_pictures.specs.StepsLaw.{sheet_after, Reached, IsLiveAt, CanMove, CanWrite, MovesRun, StepsLaw}
use Rattle.fc_pictures.proofs.Fitting.{move_fits}
use Rattle.fc_pictures.proofs.Grains.{bit_moved, own_place}

-- ---- one move more

fold_push : {A B X : Type 0} (f : A → B → A) (h : X → B) (a : A) (xs : List X) (x : X) → fold f a (map h (xs ++ x ∷ [])) ≡ f (fold f a (map h xs)) (h x)
fold_push f h a [] x = refl
fold_push f h a (y ∷ ys) x = fold_push f h (f a (h y)) ys x

size_moved : (v g : ℕ) (in_place : Bool) (s : Sheet) (k : ℕ) → length (slot_at (sheet_moved v g in_place s).slots k).held ≡ length (slot_at s.slots k).held
size_moved v g in_place s k =
    let r = regrained (cond in_place (grain_kept v g) (grain_taken v g)) g (bit_moved v g in_place) in
    ap (λ (t : Slot). length t.held) (at_map (cond in_place (grain_kept v g) (grain_taken v g)) s.slots k r.none) ∙ r.size (slot_at s.slots k)

move_more : (old now : Sheet) (g k : ℕ) (done : List ℕ) (in_place : Bool) → Reached old g done now → IsSafeMove (column now.slots g) k → g < length (slot_at now.slots k).held → in_place ≡ is_in_place (column now.slots g) k →
    Reached old g (done ++ k ∷ []) (sheet_moved (slot_at now.slots k).volume g in_place now)
move_more old now g k done in_place r safe inside mark =
    let v : ℕ = (slot_at now.slots k).volume in
    let next : Sheet = sheet_moved v g in_place now in
    record {
      sound = moved_sound now v g in_place r.sound (λ e. (move_fits now.slots k g safe (sym mark ∙ e)).0);
      births = r.births;
      shape = shape_moved now v g in_place ∙ r.shape;
      sizes = λ j. size_moved v g in_place now j ∙ r.sizes j;
      here = column_moved now v k g in_place r.sound.one_live (own_place now.slots k r.sound.one_live safe.there safe.is_live) inside
          ∙ (ap (moved (column now.slots g) k) mark ∙ (ap (λ z. moved z k (is_in_place z k)) r.here ∙ sym (after_moves_push (column old.slots g) done k)));
      elsewhere = λ y ne. column_moved_other now v g y in_place ne ∙ r.elsewhere y ne;
    }

-- ---- the grain is in every slot that moves

abbrev Inside : List Slot → ℕ → ℕ → Type 0
Inside slots g k = g < length (slot_at slots k).held

pub reader_inside : (slots : List Slot) → HasSizes slots → (g but o a : ℕ) → first_reader (column slots g) but o ≡ Some a → Inside slots g a
reader_inside slots sizes g but o a e =
    let r = reader_is (column slots g) but o a e in
    let i = r.reads in
    let al : a < length slots = r.there in
    let b : o ≤ a = i.before in
    let size : length (slot_at slots o).held ≡ length (slot_at slots a).held = sizes.of_chain o a (omega arith) al i.one_chain in
    let held : g < length (slot_at slots o).held = held_in_range (slot_at slots o).held g i.holds in
    omega arith

must_inside : (slots : List Slot) → HasSizes slots → (g : ℕ) (roots : List ℕ) → ((r : ℕ) → is_in r roots ≡ true → Inside slots g r) → (x : ℕ) → Must (column slots g) roots x → Inside slots g x
must_inside slots sizes g roots first x (root e) = first x e
must_inside slots sizes g roots first x (asked {m = m} k e) = let p = asks_parts (column slots g) m x e in let q = p.1 in reader_inside slots sizes g p.0 p.0 x q.needs

write_root_inside : (slots : List Slot) → HasSizes slots → (g t : ℕ) → t < length slots → Inside slots g t → (r : ℕ) → is_in r (write_asks (column slots g) t) ≡ true → Inside slots g r
write_root_inside slots sizes g t tl gt r e =
    elim (write_asks_parts (column slots g) t r e) [
      | inl p ↦ let q = p.1 in reader_inside slots sizes g t p.0 r q.needs
      | inr n ↦ let i = next_is (column slots g) t r n in
          let w = i.waits in
          let size : length (slot_at slots r).held ≡ length (slot_at slots t).held = sizes.of_chain r t i.there tl w.one_chain in
          omega arith
    ]

-- ---- all moves

-- what is given of a list of moves
record Given (l : LaneOf) (told : LaneTold) (number : ℕ) (roots moves : List ℕ) : Type 0 where
  sound : IsSound told.sheet
  law : ListLaw (column told.sheet.slots (place_of l number)) roots moves
  inside : (k : ℕ) → is_in k moves ≡ true → Inside told.sheet.slots (place_of l number) k

can_move : (l : LaneOf) (told : LaneTold) (number : ℕ) (roots moves done rest : List ℕ) (k : ℕ) → Given l told number roots moves → moves ≡ done ++ k ∷ rest →
    Reached told.sheet (place_of l number) done (sheet_after l told number done) → CanMove (sheet_after l told number done) (place_of l number) k (move_in (spot_at l told number) k)
can_move l told number roots moves done rest k given split r =
    let g : ℕ = place_of l number in
    let c : Column = column told.sheet.slots g in
    let now : Sheet = sheet_after l told number done in
    let safe : IsSafeMove (column now.slots g) k = subst (λ (z : Column). IsSafeMove z k) (sym r.here) (given.law.safe done rest k split) in
    let among : is_in k moves ≡ true = ap (is_in k) split ∙ in_append_right k done (k ∷ rest) (in_head k k rest refl) in
    let old : g < length (slot_at told.sheet.slots k).held = given.inside k among in
    let size : length (slot_at now.slots k).held ≡ length (slot_at told.sheet.slots k).held = r.sizes k in
    record {
      live = record { there = safe.there; is_live = safe.is_live; inside = omega arith };
      safe = safe;
      slot = ap (λ (z : Shape). z.birth k) (sym r.shape);
      volume = ap (λ (z : Shape). z.volume k) (sym r.shape);
      mark = sym (ap (λ z. is_in_place z k) r.here ∙ given.law.marks done rest k split);
    }

pub sheet_after_push : (l : LaneOf) (told : LaneTold) (number : ℕ) (done : List ℕ) (k : ℕ) →
    (move_in (spot_at l told number) k).volume.0 ≡ (slot_at (sheet_after l told number done).slots k).volume →
    sheet_after l told number (done ++ k ∷ []) ≡ sheet_moved (slot_at (sheet_after l told number done).slots k).volume (place_of l number) (move_in (spot_at l told number) k).in_place (sheet_after l told number done)
sheet_after_push l told number done k e =
    let now : Sheet = sheet_after l told number done in
    fold_push (sheet_move l) (move_in (spot_at l told number)) told.sheet done k ∙ ap (λ v. sheet_moved v (place_of l number) (move_in (spot_at l told number) k).in_place now) e

one_more : (l : LaneOf) (told : LaneTold) (number : ℕ) (roots moves done rest : List ℕ) (k : ℕ) → Given l told number roots moves → moves ≡ done ++ k ∷ rest →
    Reached told.sheet (place_of l number) done (sheet_after l told number done) → Reached told.sheet (place_of l number) (done ++ k ∷ []) (sheet_after l told number (done ++ k ∷ []))
one_more l told number roots moves done rest k given split r =
    let g : ℕ = place_of l number in
    let now : Sheet = sheet_after l told number done in
    let m = can_move l told number roots moves done rest k given split r in
    let in_place : Bool = is_in_place (column told.sheet.slots g) k in
    let whole = sheet_after_push l told number done k m.volume in
    subst (λ (z : Sheet). Reached told.sheet g (done ++ k ∷ []) z) (sym whole) (move_more told.sheet now g k done in_place r m.safe m.live.inside m.mark)

all_more : (l : LaneOf) (told : LaneTold) (number : ℕ) (roots moves todo done rest : List ℕ) → Given l told number roots moves → moves ≡ done ++ (todo ++ rest) →
    Reached told.sheet (place_of l number) done (sheet_after l told number done) → Reached told.sheet (place_of l number) (done ++ todo) (sheet_after l told number (done ++ todo))
all_more l told number roots moves [] done rest given split r =
    subst (λ (z : List ℕ). Reached told.sheet (place_of l number) z (sheet_after l told number z)) (sym (append-nil done)) r
all_more l told number roots moves (k ∷ todo) done rest given split r =
    subst (λ (z : List ℕ). Reached told.sheet (place_of l number) z (sheet_after l told number z)) (append_assoc done (k ∷ []) todo)
    (all_more l told number roots moves todo (done ++ k ∷ []) rest given (split ∙ sym (append_assoc done (k ∷ []) (todo ++ rest)))
    (one_more l told number roots moves done (todo ++ rest) k given split r))

reached_none : (s : Sheet) (g : ℕ) → IsSound s → Reached s g [] s
unfolding after_moves
reached_none s g sound = record { sound = sound; births = refl; shape = refl; sizes = λ k. refl; here = refl; elsewhere = λ y ne. refl }

run : (l : LaneOf) (told : LaneTold) (number : ℕ) (roots moves : List ℕ) → Given l told number roots moves → MovesRun l told number moves
run l told number roots moves given =
    let reached = λ (before rest : List ℕ) (e : moves ≡ before ++ rest). all_more l told number roots moves before [] rest given e (reached_none told.sheet (place_of l number) given.sound) in
    record {
      reached = reached;
      can_move = λ before rest k e. can_move l told number roots moves before rest k given e (reached before (k ∷ rest) e);
    }

-- ---- the law

fill_runs : (l : LaneOf) (told : LaneTold) (number m : ℕ) → IsSound told.sheet → IsLiveAt told.sheet.slots (place_of l number) m → (column told.sheet.slots (place_of l number)).held m ≡ false →
    MovesRun l told number (fill_moves (column told.sheet.slots (place_of l number)) m)
fill_runs l told number m sound live lacks =
    let g : ℕ = place_of l number in
    let slots : List Slot = told.sheet.slots in
    let c : Column = column slots g in
    let law = (fill_law c sound.one_live sound.no_loop m live.there live.is_live lacks).list in
    run l told number (m ∷ []) (fill_moves c m) (record {
      sound = sound;
      law = law;
      inside = λ k e. must_inside slots sound.sizes g (m ∷ []) (λ r q. elim (in_cases r m [] q) [ inl same ↦ subst (λ (z : ℕ). Inside slots g z) (sym same) live.inside | inr n ↦ absurd (not_in_nil r n) ]) k (law.only k e);
    })

write_given : (l : LaneOf) (told : LaneTold) (number t : ℕ) → IsSound told.sheet → IsLiveAt told.sheet.slots (place_of l number) t →
    Given l told number (write_asks (column told.sheet.slots (place_of l number)) t) (write_moves (column told.sheet.slots (place_of l number)) t)
write_given l told number t sound live =
    let g : ℕ = place_of l number in
    let slots : List Slot = told.sheet.slots in
    let c : Column = column slots g in
    let law = (write_law c sound.one_live sound.no_loop t live.there live.is_live).list in
    record {
      sound = sound;
      law = law;
      inside = λ k e. must_inside slots sound.sizes g (write_asks c t) (write_root_inside slots sound.sizes g t live.there live.inside) k (law.only k e);
    }

write_runs : (l : LaneOf) (told : LaneTold) (number t : ℕ) → IsSound told.sheet → IsLiveAt told.sheet.slots (place_of l number) t → MovesRun l told number (write_moves (column told.sheet.slots (place_of l number)) t)
write_runs l told number t sound live =
    run l told number (write_asks (column told.sheet.slots (place_of l number)) t) (write_moves (column told.sheet.slots (place_of l number)) t) (write_given l told number t sound live)

loses : (slots : List Slot) (g t : ℕ) (own : Bool) → reads_own (column slots g) t ≡ own → LosesSide slots g t (cond own Now Under)
loses slots g t true e = e
loses slots g t false e = e

pub write_can : (l : LaneOf) (told : LaneTold) (number t : ℕ) → IsSound told.sheet → IsLiveAt told.sheet.slots (place_of l number) t →
    let moves = write_moves (column told.sheet.slots (place_of l number)) t in
    CanWrite (sheet_after l told number moves) (place_of l number) t (slot_at told.sheet.slots t).volume
    (cond (reads_own (after_moves (column told.sheet.slots (place_of l number)) moves) t) Now Under)
write_can l told number t sound live =
    let g : ℕ = place_of l number in
    let c : Column = column told.sheet.slots g in
    let moves : List ℕ = write_moves c t in
    let now : Sheet = sheet_after l told number moves in
    let r = (write_runs l told number t sound live).reached moves [] (sym (append-nil moves)) in
    let count : length now.slots ≡ length told.sheet.slots = ap (λ (z : Shape). z.count) r.shape in
    let tl : t < length told.sheet.slots = live.there in
    let size : length (slot_at now.slots t).held ≡ length (slot_at told.sheet.slots t).held = r.sizes t in
    let inside : g < length (slot_at told.sheet.slots t).held = live.inside in
    record {
      live = record { there = omega arith; is_live = ap (λ (z : Shape). z.is_live t) r.shape ∙ live.is_live; inside = omega arith };
      safe = subst (λ (z : Column). IsSafeWrite z t) (sym r.here) (write_law c sound.one_live sound.no_loop t live.there live.is_live).safe;
      volume = ap (λ (z : Shape). z.volume t) (sym r.shape);
      side_is = loses now.slots g t (reads_own (after_moves c moves) t) (ap (λ z. reads_own z t) r.here);
    }

pub steps_law_holds : StepsLaw
steps_law_holds = record { fill = fill_runs; write = write_runs; can_write = write_can }
