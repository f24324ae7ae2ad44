-- The law of stops.
use Rattle.std.proofs.Common.{◌≡◌, ℕ, ◌<◌, Bool, true, false, cond, Option, Some, None, List, [], ◌∷◌, ◌++◌, length, map, fold, refl, sym, ap, subst, ◌∙◌, arith, inl, inr}
use Rattle.std.specs.List.{list_any}
use Rattle.std.proofs.lemmas.List.{append-nil}
use Rattle.fc_base.specs.Sheet.{Sheet, slot_at, live_place}
use Rattle.fc_base.specs.SheetStep.{sheet_torn}
use Rattle.fc_base.specs.declared.ids.VolId.{VolId}
use Rattle.fc_base.specs.declared.request.Move.{Move}
use Rattle.fc_base.specs.declared.request.Request.{Request}
use Rattle.fc_base.specs.declared.request.Request.TheVariants.{Write, Copy, Clean}
use Rattle.fc_base.specs.declared.request.Side.{Side}
use Rattle.fc_base.specs.declared.request.Side.TheVariants.{Now, Under}
use Rattle.fc_base.specs.declared.request.Torn.{Torn}
use Rattle.fc_base.specs.declared.request.WritePart.{WritePart}
use Rattle.fc_base.specs.declared.size.GrainSize.{GrainSize}
use Rattle.fc_books.specs.Sound.{AreSound}
use Rattle.fc_changed.specs.Notes.Note.{Wrote}
use Rattle.fc_changed.specs.Row.{Row, after_note}
use Rattle.fc_entry.specs.Picture.{Content, changed_at, grain_of_block}
use Rattle.fc_image.specs.declared.record.MetaRecord.TheVariants.{Torn as TornRecord, Changing}
use Rattle.fc_legal.specs.Steps.{IsInside}
use Rattle.fc_legal.specs.Whole.{Whole, single_lane, as_one}
use Rattle.fc_parts.proofs.Numbers.{all_place}
use Rattle.fc_pictures.specs.Law.{LosesSide}
use Rattle.fc_pictures.proofs.Agreeing.{lane_law_holds}
use Rattle.fc_pictures.proofs.Running.{steps_law_holds}
use Rattle.fc_rules.specs.LaneTold.{place_of, sheet_move, tear_volume}
use Rattle.fc_rules.specs.Spot.{move_in}
use Rattle.fc_rules.specs.Steps.{DiskStep, step_of_move, moves_of}
use Rattle.fc_sheets.proofs.Finding.{live_place_at}
use Rattle.fc_kept.specs.Actions.{Action.Note, is_unmarked, mark_of}
use Rattle.fc_kept.specs.Disks.{NamedDisk}
use Rattle.fc_kept.specs.Images.{size_in}
use Rattle.fc_kept.specs.Marks.{AreMarked}
use Rattle.fc_kept.proofs.Marking.{mark_law}
use Rattle.fc_kept.proofs.Sizes.{slot_size}
use Rattle.law_crash.specs.Points.{Point, StandsFor}
use Rattle.law_crash.specs.Doing.{number_of, actions_of_steps, marks_by_move, chains_behind, IsWritten, noted, with_kept, with_disks, Did, Tears, Stopped}
use Rattle.law_crash.specs.Law.{Begins}
use Rattle.law_crash.proofs.Answering.{told_with, least_with}
use Rattle.law_crash.proofs.Failing.{torn_of, write_torn}
use Rattle.law_crash.proofs.Lawful.{WriteOf, FillOf, write_of, live_at, moves_in, own_in, chains_in, moves_given, can_write_at, own_is, Ready, ready_folded, ready_marked, ready_unmarked, copy_of, clean_of, fills_in, fills_given}
use Rattle.law_crash.proofs.Making.{spot_in, steps_in, chains_after, told_moves, Moves, At, at_folded, did_moves, at_first}
use Rattle.law_crash.proofs.Noting.{with_all, with_sheet, written_sheet}
use Rattle.law_crash.proofs.Owning.{CanWriteAt}
use Rattle.law_crash.proofs.Stopping.{IsMove, IsBehind, which_step, one_step, Goal, torn_at, move_stopped}

-- ---- a move stopped

step_moves : (grain : GrainSize) (w : Whole) (least : List Row) (r : Request) (moves : List ℕ) (owns front : List DiskStep) (step : DiskStep) (torn : Option Torn) (p q : Point) → Moves grain w r moves owns → StandsFor grain w least p →
    IsMove (step_of_move (spot_in grain w r)) moves front step → Stopped grain w r p.kept.rows front step torn p q → Goal grain w least r front torn q
step_moves grain w least r moves owns front step torn p q m st y x =
    let done : List ℕ = y.0 in
    let k : ℕ = y.1 in
    let rest : List ℕ = y.2 in
    let rows : List Row = p.kept.rows in
    let f = step_of_move (spot_in grain w r) in
    let front_is : front ≡ steps_in grain w r done ++ [] = y.4 ∙ sym (append-nil (steps_in grain w r done)) in
    let chains : Sheet = chains_after grain w r done in
    let chains_are : chains_behind grain w front ≡ chains = ap (chains_behind grain w) y.4 ∙ ap (λ (z : Whole). z.books.sheet) (told_moves grain w r done) in
    let did : Did grain w r w.books.sheet (actions_of_steps rows (number_of grain r) (steps_in grain w r done ++ [])) p x.begun =
    subst (λ (z : List DiskStep). Did grain w r w.books.sheet (actions_of_steps rows (number_of grain r) z) p x.begun) front_is x.did in
    let marked : x.marked ≡ x.begun = subst (λ (z : DiskStep). Did grain w r (chains_behind grain w front) (marks_by_move rows (number_of grain r) z z.move) x.begun x.marked) y.5 x.marks in
    let tears : Tears grain w r chains (f k) torn x.begun q =
    subst (λ (z : DiskStep). Tears grain w r chains z torn x.begun q) y.5 (subst (λ (z : Point). Tears grain w r chains step torn z q) marked (subst (λ (z : Sheet). Tears grain w r z step torn x.marked q) chains_are x.tears)) in
    subst (λ (z : List DiskStep). Goal grain w least r z torn q) (sym y.4)
    (did_moves grain w least r rows moves owns [] x.begun (Goal grain w least r (steps_in grain w r done) torn q) m done [] (k ∷ rest) p y.3 (at_first grain w least r p st)
    (λ b a same. move_stopped grain w least r rows moves done rest owns k torn b q m y.3 a (subst (λ (z : Point). Tears grain w r chains (f k) torn z q) same tears))
    did)

-- ---- the write itself stopped

abbrev own_as : GrainSize → Whole → WritePart → ℕ → DiskStep
own_as grain w part t = record (own_in grain w part t) { volume = part.volume.0 }

abbrev AllMoves : GrainSize → Whole → WritePart → ℕ → List DiskStep
AllMoves grain w part t = steps_in grain w (Write part) (moves_in grain w part t)

moves_all : (grain : GrainSize) (w : Whole) (part : WritePart) (t : ℕ) → map (move_in (spot_in grain w (Write part))) (moves_in grain w part t) ≡ moves_of (AllMoves grain w part t)
moves_all grain w part t = sym (lane_law_holds.moves_told (spot_in grain w (Write part)) (moves_in grain w part t))

-- nothing was written
own_untorn : (grain : GrainSize) (w : Whole) (least : List Row) (part : WritePart) (t : ℕ) (p : Point) → Ready grain w least part t p → Goal grain w least (Write part) (AllMoves grain w part t) None p
own_untorn grain w least part t p ready =
    let g : ℕ = grain_of_block grain part.block in
    let least_is : after_note least (Wrote part.volume.0 g) ≡ least_with grain least (Some part) None = ap (λ (x : ℕ). after_note least (Wrote part.volume.0 x)) (sym (all_place grain g)) in
    subst (λ (x : List Row). StandsFor grain (told_with grain w None (AllMoves grain w part t) None) x p) least_is
    (subst (λ (ms : List Move). StandsFor grain (with_sheet w (fold (sheet_move (single_lane grain)) w.books.sheet ms)) (after_note least (Wrote part.volume.0 g)) p) (moves_all grain w part t) ready.stands)

-- what is told behind it: the torn grain, by its place in all of them
abbrev torn_whole : GrainSize → Whole → WritePart → Side → (ℕ → List Row) → ℕ → List Move → Whole
torn_whole grain w part side rows y ms =
    with_all w (sheet_torn part.volume.0 y side (fold (sheet_move (single_lane grain)) w.books.sheet ms))
    (changed_at record { 0 = part.volume.0 } (tear_volume side (grain_of_block grain part.block)) w.picture) (rows y)

torn_told : (grain : GrainSize) (w : Whole) (part : WritePart) (t : ℕ) (side : Side) (rows : ℕ → List Row) (least : List Row) (q : Point) →
    StandsFor grain (torn_whole grain w part side rows (grain_of_block grain part.block) (map (move_in (spot_in grain w (Write part))) (moves_in grain w part t))) least q →
    StandsFor grain (torn_whole grain w part side rows (place_of (single_lane grain) (grain_of_block grain part.block)) (moves_of (AllMoves grain w part t))) least q
torn_told grain w part t side rows least q here =
    let same : grain_of_block grain part.block ≡ place_of (single_lane grain) (grain_of_block grain part.block) = sym (all_place grain (grain_of_block grain part.block)) in
    subst (λ (z : Whole). StandsFor grain z least q) (λ i. torn_whole grain w part side rows (same i) (moves_all grain w part t i)) here

-- its grain was torn
own_tears : (grain : GrainSize) (w : Whole) (least : List Row) (part : WritePart) (t : ℕ) (p : Point) (side : Side) (content : Content) (disks : List (List NamedDisk)) →
    CanWriteAt (chains_in grain w part t) (grain_of_block grain part.block) t part.volume.0 → LosesSide (chains_in grain w part t).slots (grain_of_block grain part.block) t side →
    grain_of_block grain part.block < size_in w.books.tables part.volume → Ready grain w least part t p → IsWritten grain w part.volume.0 (grain_of_block grain part.block) content p.disks disks →
    Goal grain w least (Write part) (AllMoves grain w part t) (Some (torn_at part.volume.0 (grain_of_block grain part.block) side)) (noted (torn_of part.volume.0 (grain_of_block grain part.block) side) (with_disks disks p))
own_tears grain w least part t p Now content disks can loses room ready x =
    let v : ℕ = part.volume.0 in
    let g : ℕ = grain_of_block grain part.block in
    let least' : List Row = least_with grain least (Some part) (Some (torn_at v g Now)) in
    let rows : List Row = after_note w.rows (Wrote v g) in
    let marked : AreMarked (after_note p.kept.rows (Wrote v g)) rows least' =
    subst (λ (y : ℕ). AreMarked (after_note p.kept.rows (Wrote v g)) rows (after_note (after_note least (Wrote v y)) (Wrote v (place_of (single_lane grain) g)))) (sym (all_place grain g))
    (mark_law.asked (single_lane grain) (after_note p.kept.rows (Wrote v g)) rows (after_note least (Wrote v g)) (Some (Write part)) ready.behind) in
    torn_told grain w part t Now (λ y. after_note w.rows (Wrote v y)) least' (noted (torn_of v g Now) (with_disks disks p))
    (write_torn grain (with_sheet w (chains_in grain w part t)) rows (after_note least (Wrote v g)) least' p disks g t v Now content ready.stands can loses room (written_sheet grain w (chains_in grain w part t) v g content p.disks disks x) marked)
own_tears grain w least part t p Under content disks can loses room ready x =
    let v : ℕ = part.volume.0 in
    let g : ℕ = grain_of_block grain part.block in
    let least' : List Row = least_with grain least (Some part) (Some (torn_at v g Under)) in
    let marked : AreMarked p.kept.rows w.rows least' = subst (λ (y : ℕ). AreMarked p.kept.rows w.rows (after_note least (Wrote v y))) (sym (all_place grain g)) ready.stands.says.rows in
    torn_told grain w part t Under (λ y. w.rows) least' (noted (torn_of v g Under) (with_disks disks p))
    (write_torn grain (with_sheet w (chains_in grain w part t)) w.rows (after_note least (Wrote v g)) least' p disks g t v Under content ready.stands can loses room (written_sheet grain w (chains_in grain w part t) v g content p.disks disks x) marked)

-- by what it tore
own_stopped : (grain : GrainSize) (w : Whole) (least : List Row) (part : WritePart) (t : ℕ) (torn : Option Torn) (p q : Point) → AreSound w.books → IsInside grain w.books.tables part.volume part.block part.count →
    live_place w.books.sheet.slots part.volume.0 ≡ Some t → Ready grain w least part t p → Tears grain w (Write part) (chains_in grain w part t) (own_as grain w part t) torn p q → Goal grain w least (Write part) (AllMoves grain w part t) torn q
own_stopped grain w least part t None p q sound inside place ready e = subst (Goal grain w least (Write part) (AllMoves grain w part t) None) (sym e) (own_untorn grain w least part t p ready)
own_stopped grain w least part t (Some torn) p q sound inside place ready e =
    let l = single_lane grain in
    let g : ℕ = grain_of_block grain part.block in
    let side : Side = (own_in grain w part t).side in
    let same : place_of l g ≡ g = all_place grain g in
    let live = live_at grain w part t sound inside place in
    let loses : LosesSide (chains_in grain w part t).slots g t side =
    subst (λ (y : ℕ). LosesSide (chains_in grain w part t).slots y t side) same (steps_law_holds.can_write l (as_one w) g t sound.sheet live).side_is in
    let size = slot_size w.books sound t live.there in
    let low : place_of l g < length (slot_at w.books.sheet.slots t).held = live.inside in
    let room : g < size_in w.books.tables part.volume =
    subst (λ (z : ℕ). let id : VolId = record { 0 = z } in g < size_in w.books.tables id) (live_place_at w.books.sheet.slots part.volume.0 t place).of_volume (omega (arith, size, low, same)) in
    let x : Point = with_kept e.5 p in
    let here = own_tears grain w least part t x side e.2 e.3 (can_write_at grain w part t sound inside place) loses room (ready_folded grain w least part t p e.5 e.6 ready) e.4 in
    let to_q : Torn → Type 0 = λ (z : Torn). Goal grain w least (Write part) (AllMoves grain w part t) (Some z) (noted (TornRecord z.volume z.grain z.side) (with_disks e.3 x)) in
    subst (Goal grain w least (Write part) (AllMoves grain w part t) (Some torn)) (sym e.7) (subst to_q (sym e.0) here)

-- its mark may be there
own_ready : (grain : GrainSize) (w : Whole) (least : List Row) (part : WritePart) (t : ℕ) (rows : List Row) (p x : Point) (due : Bool) → At grain w least (Write part) rows (moves_in grain w part t) p →
    list_any (is_unmarked part.volume.0 (grain_of_block grain part.block)) rows ≡ due → Did grain w (Write part) (chains_in grain w part t) (cond due (Note (Changing part.volume record { 0 = grain_of_block grain part.block }) ∷ []) []) p x → Ready grain w least part t x
own_ready grain w least part t rows p x true a e d =
    subst (Ready grain w least part t) (sym d.2) (ready_marked grain w least part t rows (with_kept d.0 p) (at_folded grain w least (Write part) rows (moves_in grain w part t) p d.0 d.1 a))
own_ready grain w least part t rows p x false a e d = subst (Ready grain w least part t) (sym d) (ready_unmarked grain w least part t rows p a e)

step_own : (grain : GrainSize) (w : Whole) (least : List Row) (part : WritePart) (steps front back : List DiskStep) (step : DiskStep) (torn : Option Torn) (p q : Point) (o : WriteOf grain w part steps) →
    Begins grain w least (Write part) steps p → IsBehind (step_of_move (spot_in grain w (Write part))) (moves_in grain w part o.t) (own_in grain w part o.t ∷ []) front back step →
    Stopped grain w (Write part) p.kept.rows front step torn p q → Goal grain w least (Write part) front torn q
step_own grain w least part steps front back step torn p q o b y x =
    let r : Request = Write part in
    let g : ℕ = grain_of_block grain part.block in
    let rows : List Row = p.kept.rows in
    let moves : List ℕ = moves_in grain w part o.t in
    let all : List DiskStep = AllMoves grain w part o.t in
    let one = one_step (own_in grain w part o.t) y.0 back step y.2 in
    let front_is : front ≡ all ++ [] = y.1 ∙ ap (λ (z : List DiskStep). all ++ z) one.0 in
    let step_is : step ≡ own_as grain w part o.t = one.1 ∙ own_is grain w part steps o in
    let m = moves_given grain w part steps b.sound b.inside o b.steps_are in
    let chains : Sheet = chains_in grain w part o.t in
    let chains_are : chains_behind grain w front ≡ chains = ap (chains_behind grain w) (front_is ∙ append-nil all) ∙ ap (λ (z : Whole). z.books.sheet) (told_moves grain w r moves) in
    let did : Did grain w r w.books.sheet (actions_of_steps rows g (all ++ [])) p x.begun = subst (λ (z : List DiskStep). Did grain w r w.books.sheet (actions_of_steps rows g z) p x.begun) front_is x.did in
    let marks : Did grain w r chains (mark_of rows part.volume.0 g) x.begun x.marked =
    subst (λ (z : DiskStep). Did grain w r chains (marks_by_move rows g z z.move) x.begun x.marked) step_is (subst (λ (c : Sheet). Did grain w r c (marks_by_move rows g step step.move) x.begun x.marked) chains_are x.marks) in
    let tears : Tears grain w r chains (own_as grain w part o.t) torn x.marked q =
    subst (λ (z : DiskStep). Tears grain w r chains z torn x.marked q) step_is (subst (λ (c : Sheet). Tears grain w r c step torn x.marked q) chains_are x.tears) in
    let due : Bool = list_any (is_unmarked part.volume.0 g) rows in
    subst (λ (z : List DiskStep). Goal grain w least r z torn q) (sym (front_is ∙ append-nil all))
    (did_moves grain w least r rows moves (own_in grain w part o.t ∷ []) [] x.begun (Goal grain w least r all torn q) m moves [] [] p (sym (append-nil moves)) (at_first grain w least r p b.stands)
    (λ z a same. own_stopped grain w least part o.t torn x.marked q b.sound b.inside o.place
    (own_ready grain w least part o.t rows z x.marked due a refl (subst (λ (u : Point). Did grain w r chains (mark_of rows part.volume.0 g) u x.marked) same marks)) tears)
    did)

-- ---- all requests

write_stopped : (grain : GrainSize) (w : Whole) (least : List Row) (part : WritePart) (front back : List DiskStep) (step : DiskStep) (torn : Option Torn) (p q : Point) → Begins grain w least (Write part) (front ++ step ∷ back) p →
    Stopped grain w (Write part) p.kept.rows front step torn p q → Goal grain w least (Write part) front torn q
write_stopped grain w least part front back step torn p q b x =
    let o = write_of grain w part (front ++ step ∷ back) b.steps_are in
    let moves : List ℕ = moves_in grain w part o.t in
    let m = moves_given grain w part (front ++ step ∷ back) b.sound b.inside o b.steps_are in
    elim (which_step (step_of_move (spot_in grain w (Write part))) moves (own_in grain w part o.t ∷ []) front back step (sym o.steps_are)) [
      | inl y ↦ step_moves grain w least (Write part) moves (own_in grain w part o.t ∷ []) front step torn p q m b.stands y x
      | inr y ↦ step_own grain w least part (front ++ step ∷ back) front back step torn p q o b y x
    ]

no_step : (more back : List DiskStep) (step : DiskStep) → [] ≡ more ++ step ∷ back → ⊥
no_step [] back step e = cc
no_step (x ∷ more) back step e = cc

fill_stopped : (grain : GrainSize) (w : Whole) (least : List Row) (r : Request) (front back : List DiskStep) (step : DiskStep) (torn : Option Torn) (p q : Point) → Begins grain w least r (front ++ step ∷ back) p → FillOf grain w r (front ++ step ∷ back) →
    Stopped grain w r p.kept.rows front step torn p q → Goal grain w least r front torn q
fill_stopped grain w least r front back step torn p q b o x =
    let moves : List ℕ = fills_in grain w r o.k in
    let m = fills_given grain w r (front ++ step ∷ back) b.sound o b.steps_are in
    elim (which_step (step_of_move (spot_in grain w r)) moves [] front back step (append-nil (steps_in grain w r moves) ∙ sym o.steps_are)) [
      | inl y ↦ step_moves grain w least r moves [] front step torn p q m b.stands y x
      | inr y ↦ absurd (no_step y.0 back step y.2)
    ]

pub all_stopped : (grain : GrainSize) (w : Whole) (least : List Row) (r : Request) (front back : List DiskStep) (step : DiskStep) (torn : Option Torn) (p q : Point) → Begins grain w least r (front ++ step ∷ back) p →
    Stopped grain w r p.kept.rows front step torn p q → Goal grain w least r front torn q
all_stopped grain w least (Write part) front back step torn p q b x = write_stopped grain w least part front back step torn p q b x
all_stopped grain w least (Copy m g) front back step torn p q b x = fill_stopped grain w least (Copy m g) front back step torn p q b (copy_of grain w m g (front ++ step ∷ back) b.steps_are) x
all_stopped grain w least (Clean m g) front back step torn p q b x = fill_stopped grain w least (Clean m g) front back step torn p q b (clean_of grain w m g (front ++ step ∷ back) b.sound b.steps_are) x
all_stopped grain w least r front back step torn p q b x = absurd b.steps_are
