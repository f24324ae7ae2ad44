-- Moves of a write or a fill as its steps, and what its own write loses.
use mathlib.Core.Path.{fun_ext}
use Rattle.std.proofs.Common.{◌≡◌, ℕ, ◌<◌, Bool, Some, None, List, [], ◌∷◌, ◌++◌, length, map, fold, cond, refl, sym, ap, ap₂, subst, ◌∙◌}
use Rattle.fc_base.specs.Column.{Column}
use Rattle.fc_base.specs.Moves.{fill_moves, write_moves, after_moves}
use Rattle.fc_base.specs.Plan.{move_at, moves_of_fill, moves_of_write}
use Rattle.fc_base.specs.Sheet.{Sheet, column, slot_at}
use Rattle.fc_base.specs.SheetStep.{sheet_moved}
use Rattle.fc_base.specs.declared.request.Move.{Move}
use Rattle.fc_base.specs.declared.request.Side.{Side}
use Rattle.fc_base.specs.declared.request.Side.TheVariants.{Now, Under}
use Rattle.fc_base.specs.declared.request.WritePart.{WritePart}
use Rattle.fc_base.specs.declared.size.GrainSize.{GrainSize}
use Rattle.fc_entry.specs.Picture.{Picture}
use Rattle.fc_entry.specs.Writes.{calls_of_write}
use Rattle.fc_legal.specs.Whole.{single_lane}
use Rattle.fc_parts.proofs.Numbers.{all_place}
use Rattle.fc_pictures.proofs.Running.{steps_law_holds}
use Rattle.fc_pictures.specs.StepsLaw.{IsLiveAt}
use Rattle.fc_rules.specs.LaneTold.{sheet_move, place_of}
use Rattle.fc_rules.specs.LaneTurn.{spot_at}
use Rattle.fc_rules.specs.Spot.{Spot, move_in}
use Rattle.fc_rules.specs.Steps.{DiskStep, step_of_move, own_step, reads_own, steps_of_fill, steps_of_write}
use Rattle.fc_check_lane.specs.Known.{Known, spot_in}
use Rattle.fc_check_lane.specs.Steps.{step_of, moved_by, after_all, CanWrite}
use Rattle.fc_check_lane.proofs.Spots.{told_in, spot_plain}

-- moves as steps
moves_as_steps : (k : Known) (number : ℕ) (places : List ℕ) → map (step_of k.picture) (map (move_at k.sheet.slots number number) places) ≡ map (step_of_move (spot_in k number)) places
moves_as_steps k number [] = refl
moves_as_steps k number (p ∷ ps) = ap (λ z. step_of_move (spot_in k number) p ∷ z) (moves_as_steps k number ps)

pub fill_steps_are : (k : Known) (sheet : Sheet) (picture : Picture) (number p : ℕ) (moves slice : List Move) (steps : List DiskStep) → sheet ≡ k.sheet → picture ≡ k.picture →
    moves ≡ moves_of_fill sheet.slots number number p → slice ≡ moves → steps ≡ map (step_of picture) slice → steps ≡ steps_of_fill (spot_in k number) p
fill_steps_are k sheet picture number p moves slice steps of_sheet of_picture planned same made =
    let plan : slice ≡ moves_of_fill k.sheet.slots number number p = same ∙ (planned ∙ ap (λ (s : Sheet). moves_of_fill s.slots number number p) of_sheet) in
    made ∙ (ap (λ (z : Picture). map (step_of z) slice) of_picture ∙ (ap (map (step_of k.picture)) plan ∙ moves_as_steps k number (fill_moves (column k.sheet.slots number) p)))

-- ---- the chains after the moves of a write

abbrev moved_at : Sheet → Move → ℕ → Sheet
moved_at s m g = sheet_moved m.volume.0 g m.in_place s

move_plain : (k : Known) → sheet_move (single_lane k.grain) ≡ moved_by
move_plain k = fun_ext (λ s. fun_ext (λ m. ap (moved_at s m) (all_place k.grain m.grain.0)))

-- they are those of the steps, at their grain
abbrev AreMoved : Known → ℕ → (Sheet → Move → Sheet) → Spot → ℕ → Type 0
AreMoved k t moving spot g =
    column (fold moving k.sheet (map (move_in spot) (write_moves (column k.sheet.slots g) t))).slots g ≡ after_moves (column k.sheet.slots g) (write_moves (column k.sheet.slots g) t)

append_none : (ks : List ℕ) → ks ≡ ks ++ []
append_none [] = refl
append_none (k ∷ ks) = ap (λ z. k ∷ z) (append_none ks)

moved_law : (k : Known) (number t : ℕ) → CanWrite k number t → AreMoved k t (sheet_move (single_lane k.grain)) (spot_at (single_lane k.grain) (told_in k) number) (place_of (single_lane k.grain) number)
moved_law k number t can =
    let inside : place_of (single_lane k.grain) number < length (slot_at k.sheet.slots t).held = subst (λ z. z < length (slot_at k.sheet.slots t).held) (sym (all_place k.grain number)) can.inside in
    let live : IsLiveAt k.sheet.slots (place_of (single_lane k.grain) number) t = record { there = can.there; is_live = can.is_live; inside = inside } in
    let moves : List ℕ = write_moves (column k.sheet.slots (place_of (single_lane k.grain) number)) t in
    (((steps_law_holds.write (single_lane k.grain) (told_in k) number t can.sound live).reached moves []) (append_none moves)).here

moved_plain : (k : Known) (number t : ℕ) → CanWrite k number t → AreMoved k t moved_by (spot_in k number) number
moved_plain k number t can =
    subst (λ (m : Sheet → Move → Sheet). AreMoved k t m (spot_in k number) number) (move_plain k)
    (subst (λ (s : Spot). AreMoved k t (sheet_move (single_lane k.grain)) s number) (spot_plain k number)
    (subst (λ g. AreMoved k t (sheet_move (single_lane k.grain)) (spot_at (single_lane k.grain) (told_in k) number) g) (all_place k.grain number) (moved_law k number t can)))

-- moves in the words of a plan are those of the spot
plan_same : (k : Known) (number : ℕ) (places : List ℕ) → map (move_at k.sheet.slots number number) places ≡ map (move_in (spot_in k number)) places
plan_same k number [] = refl
plan_same k number (p ∷ ps) = ap (λ z. move_in (spot_in k number) p ∷ z) (plan_same k number ps)

abbrev step_with : Sheet → ℕ → ℕ → Side → DiskStep
step_with s t calls side = record { volume = (slot_at s.slots t).volume; move = None; calls = calls; side = side }

-- what a side after moves is
pub side_is : (sheet copy after : Sheet) (moves : List Move) (t g : ℕ) (own : Bool) (side : Side) → copy ≡ sheet → after ≡ after_all copy moves → own ≡ reads_own (column after.slots g) t → side ≡ cond own Now Under →
    side ≡ cond (reads_own (column (after_all sheet moves).slots g) t) Now Under
side_is sheet copy after moves t g own side copied moved read is =
    is ∙ ap (λ b. cond b Now Under) (read ∙ ap (λ (s : Sheet). reads_own (column s.slots g) t) (moved ∙ ap (λ (s : Sheet). after_all s moves) copied))

-- the steps of a write
pub write_steps_are : (k : Known) (sheet : Sheet) (picture : Picture) (number t : ℕ) (part : WritePart) (size : GrainSize) (moves slice again : List Move) (side : Side) (calls : ℕ) (first steps : List DiskStep) (own : DiskStep) →
    sheet ≡ k.sheet → picture ≡ k.picture → size ≡ k.grain →
    moves ≡ moves_of_write sheet.slots number number (Some t) → slice ≡ moves → again ≡ moves →
    side ≡ cond (reads_own (column (after_all sheet slice).slots number) t) Now Under →
    calls ≡ calls_of_write size part →
    first ≡ map (step_of picture) again →
    own ≡ record { volume = (slot_at sheet.slots t).volume; move = None; calls = calls; side = side } →
    steps ≡ first ++ own ∷ [] →
    CanWrite k number t → steps ≡ steps_of_write k.grain (spot_in k number) part t
write_steps_are k sheet picture number t part size moves slice again side calls first steps own of_sheet of_picture of_size planned same same_again lost cost made last all can =
    let c : Column = column k.sheet.slots number in
    let places : List ℕ = write_moves c t in
    let plan : moves ≡ map (move_at k.sheet.slots number number) places = planned ∙ ap (λ (s : Sheet). moves_of_write s.slots number number (Some t)) of_sheet in
    let after : column (after_all sheet slice).slots number ≡ after_moves c places =
    ap (λ (ms : List Move). column (after_all sheet ms).slots number) (same ∙ (plan ∙ plan_same k number places))
    ∙ (ap (λ (s : Sheet). column (after_all s (map (move_in (spot_in k number)) places)).slots number) of_sheet ∙ moved_plain k number t can) in
    let side_here : side ≡ cond (reads_own (after_moves c places) t) Now Under = lost ∙ ap (λ (z : Column). cond (reads_own z t) Now Under) after in
    let cost_here : calls ≡ calls_of_write k.grain part = cost ∙ ap (λ (z : GrainSize). calls_of_write z part) of_size in
    let own_is : own ≡ own_step k.grain (spot_in k number) part t =
    last ∙ (ap (λ (s : Sheet). step_with s t calls side) of_sheet ∙ (ap (λ n. step_with k.sheet t n side) cost_here ∙ ap (λ (s : Side). step_with k.sheet t (calls_of_write k.grain part) s) side_here)) in
    let first_is : first ≡ map (step_of_move (spot_in k number)) places =
    made ∙ (ap (λ (z : Picture). map (step_of z) again) of_picture ∙ (ap (map (step_of k.picture)) (same_again ∙ plan) ∙ moves_as_steps k number places)) in
    all ∙ ap₂ (λ (xs : List DiskStep) (x : DiskStep). xs ++ x ∷ []) first_is own_is
