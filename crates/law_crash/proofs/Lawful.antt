-- The law of stops: of writes, copies and cleanings.
use Rattle.std.proofs.Common.{◌≡◌, ℕ, ◌<◌, Bool, true, false, cond, Option, Some, None, List, [], ◌∷◌, ◌++◌, length, map, fold, slice_index_or, refl, sym, ap, subst, ◌∙◌, arith, inl, inr}
use Rattle.std.specs.List.{list_any}
use Rattle.std.proofs.lemmas.List.{append-nil}
use Rattle.fc_base.specs.Moves.{fill_moves, write_moves}
use Rattle.fc_base.specs.Safety.{IsSafeWrite}
use Rattle.fc_base.specs.Sheet.{Sheet, slot_at, column, live_place}
use Rattle.fc_base.specs.SheetStep.{sheet_written}
use Rattle.fc_base.specs.declared.ids.GrainNo.{GrainNo}
use Rattle.fc_base.specs.declared.ids.MapId.{MapId}
use Rattle.fc_base.specs.declared.ids.VolId.{VolId}
use Rattle.fc_base.specs.declared.request.Move.{Move}
use Rattle.fc_base.specs.declared.request.Place.TheVariants.{Lane}
use Rattle.fc_base.specs.declared.request.Reply.TheVariants.{Done}
use Rattle.fc_base.specs.declared.request.Request.{Request}
use Rattle.fc_base.specs.declared.request.Request.TheVariants.{Write, Copy, Clean}
use Rattle.fc_base.specs.declared.request.WritePart.{WritePart}
use Rattle.fc_base.specs.declared.size.GrainSize.{GrainSize}
use Rattle.fc_base.specs.declared.state.Access.{Access}
use Rattle.fc_base.specs.declared.state.Access.TheVariants.{Online}
use Rattle.fc_books.specs.Sound.{AreSound}
use Rattle.fc_changed.specs.Notes.Note.{Wrote}
use Rattle.fc_changed.specs.Row.{Row, after_note}
use Rattle.fc_entry.specs.Picture.{Content, changed_at, grain_of_block}
use Rattle.fc_entry.specs.declared.entry.Entry.{Entry}
use Rattle.fc_follow.specs.Following.{write_notes}
use Rattle.fc_legal.specs.Steps.{Step, IsInside, after_access}
use Rattle.fc_legal.specs.Whole.{Whole, single_lane, as_one, lane_of_grain}
use Rattle.fc_parts.proofs.Numbers.{all_place}
use Rattle.fc_pictures.specs.Law.{changed_now, now_of}
use Rattle.fc_pictures.specs.StepsLaw.{IsLiveAt}
use Rattle.fc_pictures.proofs.Agreeing.{lane_law_holds}
use Rattle.fc_pictures.proofs.Running.{steps_law_holds}
use Rattle.fc_rules.specs.GrainAnswers.{ByAccess, cannot_write}
use Rattle.fc_rules.specs.LaneRight.{VolumeWrite}
use Rattle.fc_rules.specs.LaneTold.{LaneTold, lane_access, place_of, sheet_move}
use Rattle.fc_rules.specs.LaneTurn.{copied_slot, cleaned_slot}
use Rattle.fc_rules.specs.Spot.{move_in}
use Rattle.fc_rules.specs.Steps.{DiskStep, own_step, steps_of_fill, steps_of_write, moves_of, calls_of_steps}
use Rattle.fc_sheets.proofs.Finding.{live_place_at}
use Rattle.fc_kept.specs.Actions.{Action, Action.Data, Action.Note, is_unmarked}
use Rattle.fc_kept.specs.Disks.{NamedDisk}
use Rattle.fc_kept.specs.Kept.{Kept}
use Rattle.fc_kept.specs.Marks.{AreMarked, asked_write, least_asked, least_entry}
use Rattle.fc_kept.specs.OneGrain.{Another, IsChangedIn}
use Rattle.fc_kept.specs.Prefix.{AreStepsOf, AreWriteSteps, AreFillSteps, Prefix, Prefix.whole}
use Rattle.fc_kept.specs.Recoverable.{Recoverable}
use Rattle.fc_kept.proofs.Marking.{mark_law}
use Rattle.law_crash.specs.Points.{Point, StandsFor}
use Rattle.law_crash.specs.Doing.{number_of, actions_by_move, actions_of_steps, with_part, IsWritten, MayFold, noted, with_kept, with_disks, Did, Finds, Tells}
use Rattle.law_crash.specs.Law.{Begins}
use Rattle.law_crash.proofs.Answering.{told_with, least_with, answered}
use Rattle.law_crash.proofs.Folding.{fold_stands, fold_rows}
use Rattle.law_crash.proofs.Found.{found, found_in}
use Rattle.law_crash.proofs.Making.{spot_in, steps_in, chains_after, Moves, At, at_folded, prefix_at, from_found, found_here, from_found_in, FoundBehind, found_moves, did_moves, at_first}
use Rattle.law_crash.proofs.Noting.{with_all, with_sheet, written_sheet}
use Rattle.law_crash.proofs.Owning.{CanWriteAt, changing_of, written_of, marked_stands, all_changed, changed_before, own_change, written_stands}

-- ---- a write begins

pub record WriteOf (grain : GrainSize) (w : Whole) (part : WritePart) (steps : List DiskStep) : Type 0 where
  pub t : ℕ
  pub online : lane_access (as_one w).volumes part.volume ≡ Online
  pub place : live_place w.books.sheet.slots part.volume.0 ≡ Some t
  pub writable : cannot_write grain (spot_in grain w (Write part)) part ≡ false
  pub steps_are : steps ≡ steps_of_write grain (spot_in grain w (Write part)) part t

write_by : (grain : GrainSize) (w : Whole) (part : WritePart) (steps : List DiskStep) → lane_access (as_one w).volumes part.volume ≡ Online → (o : Option ℕ) → live_place w.books.sheet.slots part.volume.0 ≡ o →
    AreWriteSteps grain (spot_in grain w (Write part)) part o steps → WriteOf grain w part steps
write_by grain w part steps online None e h = absurd h
write_by grain w part steps online (Some t) e h = record { t = t; online = online; place = e; writable = h.0; steps_are = h.1 }

pub write_of : (grain : GrainSize) (w : Whole) (part : WritePart) (steps : List DiskStep) → AreStepsOf grain w (Write part) steps → WriteOf grain w part steps
write_of grain w part steps h = write_by grain w part steps h.0 (live_place w.books.sheet.slots part.volume.0) refl h.1

some_is : (a b : ℕ) → Some a ≡ Some b → a ≡ b
some_is a b e = cc

pub live_at : (grain : GrainSize) (w : Whole) (part : WritePart) (t : ℕ) → AreSound w.books → IsInside grain w.books.tables part.volume part.block part.count → live_place w.books.sheet.slots part.volume.0 ≡ Some t →
    IsLiveAt w.books.sheet.slots (place_of (single_lane grain) (grain_of_block grain part.block)) t
live_at grain w part t sound inside place =
    let slots = w.books.sheet.slots in
    let a = live_place_at slots part.volume.0 t place in
    let v = sound.agree.volumes inside.of inside.there in
    let q : v.0 ≡ t = some_is v.0 t (sym v.1 ∙ (ap (λ (id : VolId). live_place slots id.0) inside.id_is ∙ place)) in
    let size : length (slot_at slots t).held ≡ inside.of.grains = ap (λ (k : ℕ). length (slot_at slots k).held) (sym q) ∙ v.2 in
    let same : place_of (single_lane grain) (grain_of_block grain part.block) ≡ grain_of_block grain part.block = all_place grain (grain_of_block grain part.block) in
    let low : grain_of_block grain part.block < inside.of.grains = inside.inside in
    record { there = a.there; is_live = a.is_live; inside = omega (arith, size, same, low) }

abbrev pub moves_in : GrainSize → Whole → WritePart → ℕ → List ℕ
moves_in grain w part t = write_moves (spot_in grain w (Write part)).column t

abbrev pub own_in : GrainSize → Whole → WritePart → ℕ → DiskStep
own_in grain w part t = own_step grain (spot_in grain w (Write part)) part t

-- the chains before the write itself
abbrev pub chains_in : GrainSize → Whole → WritePart → ℕ → Sheet
chains_in grain w part t = chains_after grain w (Write part) (moves_in grain w part t)

pub moves_given : (grain : GrainSize) (w : Whole) (part : WritePart) (steps : List DiskStep) → AreSound w.books → IsInside grain w.books.tables part.volume part.block part.count → (o : WriteOf grain w part steps) →
    AreStepsOf grain w (Write part) steps → Moves grain w (Write part) (moves_in grain w part o.t) (own_in grain w part o.t ∷ [])
moves_given grain w part steps sound inside o are =
    record {
      sound = sound;
      run = steps_law_holds.write (single_lane grain) (as_one w) (grain_of_block grain part.block) o.t sound.sheet (live_at grain w part o.t sound inside o.place);
      steps_are = subst (AreStepsOf grain w (Write part)) o.steps_are are;
    }

pub can_write_at : (grain : GrainSize) (w : Whole) (part : WritePart) (t : ℕ) → AreSound w.books → IsInside grain w.books.tables part.volume part.block part.count → live_place w.books.sheet.slots part.volume.0 ≡ Some t →
    CanWriteAt (chains_in grain w part t) (grain_of_block grain part.block) t part.volume.0
can_write_at grain w part t sound inside place =
    let number : ℕ = grain_of_block grain part.block in
    let s : Sheet = chains_in grain w part t in
    let can = steps_law_holds.can_write (single_lane grain) (as_one w) number t sound.sheet (live_at grain w part t sound inside place) in
    let same : place_of (single_lane grain) number ≡ number = all_place grain number in
    let live = subst (λ (g : ℕ). IsLiveAt s.slots g t) same can.live in
    record {
      there = live.there;
      is_live = live.is_live;
      inside = live.inside;
      safe = subst (λ (g : ℕ). IsSafeWrite (column s.slots g) t) same can.safe;
      of_volume = sym can.volume ∙ (live_place_at w.books.sheet.slots part.volume.0 t place).of_volume;
    }

-- ---- what it leaves

abbrev change_by : GrainSize → WritePart → Content → Content
change_by grain part content = with_part grain (Some part) content

-- by the chains at these moves, at a place
abbrev left_at : GrainSize → Whole → WritePart → ℕ → List Move → Whole
left_at grain w part g moves =
    with_all w (sheet_written part.volume.0 g (fold (sheet_move (single_lane grain)) w.books.sheet moves))
    (changed_at record { 0 = part.volume.0 } (changed_now (grain_of_block grain part.block) (change_by grain part)) w.picture)
    (after_note w.rows (Wrote part.volume.0 g))

told_is : (grain : GrainSize) (w : Whole) (part : WritePart) (steps : List DiskStep) (o : WriteOf grain w part steps) →
    left_at grain w part (grain_of_block grain part.block) (map (move_in (spot_in grain w (Write part))) (moves_in grain w part o.t)) ≡ told_with grain w (Some part) steps None
told_is grain w part steps o =
    let same : place_of (single_lane grain) (grain_of_block grain part.block) ≡ grain_of_block grain part.block = all_place grain (grain_of_block grain part.block) in
    let moves : moves_of steps ≡ map (move_in (spot_in grain w (Write part))) (moves_in grain w part o.t) = ap moves_of o.steps_are ∙ lane_law_holds.write_told grain (spot_in grain w (Write part)) part o.t in
    λ i. left_at grain w part (sym same i) (sym moves i)

least_is : (grain : GrainSize) (least : List Row) (part : WritePart) → after_note least (Wrote part.volume.0 (grain_of_block grain part.block)) ≡ least_with grain least (Some part) None
least_is grain least part = ap (λ (g : ℕ). after_note least (Wrote part.volume.0 g)) (sym (all_place grain (grain_of_block grain part.block)))

-- ---- the write itself

pub own_is : (grain : GrainSize) (w : Whole) (part : WritePart) (steps : List DiskStep) (o : WriteOf grain w part steps) → own_in grain w part o.t ≡ record (own_in grain w part o.t) { volume = part.volume.0 }
own_is grain w part steps o =
    let own : DiskStep = own_in grain w part o.t in
    let e : own.volume ≡ part.volume.0 = (live_place_at w.books.sheet.slots part.volume.0 o.t o.place).of_volume in
    λ i. record own { volume = e i }

abbrev own_actions : List Row → ℕ → DiskStep → List Action
own_actions rows g step = actions_by_move rows g step None ++ []

-- what stands before its data
pub record Ready (grain : GrainSize) (w : Whole) (least : List Row) (part : WritePart) (t : ℕ) (p : Point) : Type 0 where
  pub stands : StandsFor grain (with_sheet w (chains_in grain w part t)) (after_note least (Wrote part.volume.0 (grain_of_block grain part.block))) p
  pub behind : let x = Wrote part.volume.0 (grain_of_block grain part.block) in AreMarked (after_note p.kept.rows x) (after_note w.rows x) (after_note least x)
  pub changed : (content : Content) → let a : Another = record { volume = part.volume.0; grain = grain_of_block grain part.block; content = content } in IsChangedIn a p.kept.rows

least_asked_is : (grain : GrainSize) (least : List Row) (part : WritePart) → least_asked (single_lane grain) least (Some (Write part)) ≡ after_note least (Wrote part.volume.0 (grain_of_block grain part.block))
least_asked_is grain least part = ap (λ (g : ℕ). after_note least (Wrote part.volume.0 g)) (all_place grain (grain_of_block grain part.block))

stands_asked : (grain : GrainSize) (w : Whole) (least : List Row) (part : WritePart) (t : ℕ) (rows : List Row) (p : Point) → At grain w least (Write part) rows (moves_in grain w part t) p →
    StandsFor grain (with_sheet w (chains_in grain w part t)) (after_note least (Wrote part.volume.0 (grain_of_block grain part.block))) p
stands_asked grain w least part t rows p a =
    subst (λ (x : List Row). StandsFor grain (with_sheet w (chains_in grain w part t)) x p) (least_asked_is grain least part) a.stands

-- the mark was put there
pub ready_marked : (grain : GrainSize) (w : Whole) (least : List Row) (part : WritePart) (t : ℕ) (rows : List Row) (p : Point) → At grain w least (Write part) rows (moves_in grain w part t) p →
    Ready grain w least part t (noted (changing_of part.volume.0 (grain_of_block grain part.block)) p)
ready_marked grain w least part t rows p a =
    let v : ℕ = part.volume.0 in
    let g : ℕ = grain_of_block grain part.block in
    record {
      stands = marked_stands grain (with_sheet w (chains_in grain w part t)) least p v g a.marked (stands_asked grain w least part t rows p a);
      behind = subst (λ (x : List Row). AreMarked x (after_note w.rows (Wrote v g)) (after_note least (Wrote v g))) (sym (mark_law.twice p.kept.rows v g))
          (mark_law.noted p.kept.rows w.rows least (Wrote v g ∷ []) a.marked);
      changed = λ content. all_changed content v g p.kept.rows;
    }

-- or it was there
pub ready_unmarked : (grain : GrainSize) (w : Whole) (least : List Row) (part : WritePart) (t : ℕ) (rows : List Row) (p : Point) → At grain w least (Write part) rows (moves_in grain w part t) p →
    list_any (is_unmarked part.volume.0 (grain_of_block grain part.block)) rows ≡ false → Ready grain w least part t p
ready_unmarked grain w least part t rows p a none =
    let v : ℕ = part.volume.0 in
    let g : ℕ = grain_of_block grain part.block in
    record {
      stands = stands_asked grain w least part t rows p a;
      behind = mark_law.noted p.kept.rows w.rows least (Wrote v g ∷ []) a.marked;
      changed = λ content. changed_before content v g p.kept.rows (ap (λ (x : List Row). list_any (is_unmarked v g) x) a.rows_are ∙ none);
    }

-- and metadata may have been folded since
pub ready_folded : (grain : GrainSize) (w : Whole) (least : List Row) (part : WritePart) (t : ℕ) (p : Point) (k : Kept) → MayFold (chains_in grain w part t) p.kept k → Ready grain w least part t p → Ready grain w least part t (with_kept k p)
ready_folded grain w least part t p k m a =
    let x = Wrote part.volume.0 (grain_of_block grain part.block) in
    let same : k.rows ≡ p.kept.rows = fold_rows (chains_in grain w part t) p.kept k m in
    record {
      stands = fold_stands grain (with_sheet w (chains_in grain w part t)) (after_note least x) p k m a.stands;
      behind = subst (λ (z : List Row). AreMarked (after_note z x) (after_note w.rows x) (after_note least x)) (sym same) a.behind;
      changed = λ content. let b : Another = record { volume = part.volume.0; grain = grain_of_block grain part.block; content = content } in subst (IsChangedIn b) (sym same) (a.changed content);
    }

-- behind the record
abbrev chains_written : GrainSize → Whole → WritePart → ℕ → Sheet
chains_written grain w part t = sheet_written part.volume.0 (grain_of_block grain part.block) (chains_in grain w part t)

abbrev Over : GrainSize → Whole → List Row → WritePart → List DiskStep → Point → Type 0
Over grain w least part steps q = StandsFor grain (told_with grain w (Some part) steps None) (least_with grain least (Some part) None) q

own_done : (grain : GrainSize) (w : Whole) (least : List Row) (part : WritePart) (steps : List DiskStep) (o : WriteOf grain w part steps) (p : Point) (disks : List (List NamedDisk)) (k : Kept) →
    CanWriteAt (chains_in grain w part o.t) (grain_of_block grain part.block) o.t part.volume.0 → Ready grain w least part o.t p →
    IsWritten grain w part.volume.0 (grain_of_block grain part.block) (change_by grain part (now_of w.picture part.volume.0 (grain_of_block grain part.block))) p.disks disks →
    MayFold (chains_written grain w part o.t) (noted (written_of part.volume.0 (grain_of_block grain part.block)) (with_disks disks p)).kept k →
    Over grain w least part steps (with_kept k (noted (written_of part.volume.0 (grain_of_block grain part.block)) (with_disks disks p)))
own_done grain w least part steps o p disks k can ready x m =
    let v : ℕ = part.volume.0 in
    let g : ℕ = grain_of_block grain part.block in
    let behind : Point = noted (written_of v g) (with_disks disks p) in
    let q : Point = with_kept k behind in
    let left : Whole = left_at grain w part g (map (move_in (spot_in grain w (Write part))) (moves_in grain w part o.t)) in
    let here : StandsFor grain left (after_note least (Wrote v g)) behind =
    written_stands grain (with_sheet w (chains_in grain w part o.t)) (after_note w.rows (Wrote v g)) (after_note least (Wrote v g)) (after_note least (Wrote v g)) p g o.t v (change_by grain part) disks ready.stands can (written_sheet grain w (chains_in grain w part o.t) v g (change_by grain part (now_of w.picture v g)) p.disks disks x) ready.behind in
    subst (λ (y : List Row). StandsFor grain (told_with grain w (Some part) steps None) y q) (least_is grain least part)
    (subst (λ (y : Whole). StandsFor grain y (after_note least (Wrote v g)) q) (told_is grain w part steps o) (fold_stands grain left (after_note least (Wrote v g)) behind k m here))

-- ---- its entry, which isn't answered yet

abbrev entry_of : GrainSize → Whole → WritePart → List DiskStep → Entry
entry_of grain w part steps =
    record {
      number = w.entries;
      actor = 0;
      place = Lane (lane_of_grain w (grain_of_block grain part.block));
      request = Write part;
      reply = Done;
      moves = moves_of steps;
      effects = [];
      torn = None;
      faults_before = slice_index_or w.faults (lane_of_grain w (grain_of_block grain part.block)) 0;
      faults_after = slice_index_or w.faults (lane_of_grain w (grain_of_block grain part.block)) 0;
      calls = calls_of_steps steps;
    }

abbrev next_of : GrainSize → Whole → WritePart → List DiskStep → Whole
next_of grain w part steps = after_access grain w (lane_of_grain w (grain_of_block grain part.block)) (entry_of grain w part steps)

is_step : (grain : GrainSize) (w : Whole) (part : WritePart) (steps : List DiskStep) → IsInside grain w.books.tables part.volume part.block part.count → WriteOf grain w part steps →
    Step grain w (entry_of grain w part steps) (next_of grain w part steps)
is_step grain w part steps inside o =
    let entry : Entry = entry_of grain w part steps in
    let told : LaneTold = as_one w in
    record {
      number = refl;
      right = (
        inside,
        record {
          place = refl;
          faults_before = refl;
          faults_kept = omega arith;
          no_effects = refl;
          answers = subst (λ (a : Access). ByAccess a entry (VolumeWrite (single_lane grain) told part (live_place told.sheet.slots part.volume.0) entry)) (sym o.online)
              (subst (λ (x : Option ℕ). VolumeWrite (single_lane grain) told part x entry) (sym o.place)
              (o.writable, record { moves = ap moves_of o.steps_are; calls = ap calls_of_steps o.steps_are; untorn = refl }));
          next_is = refl;
        },
      );
    }

found_over : (grain : GrainSize) (w : Whole) (least : List Row) (part : WritePart) (steps : List DiskStep) (q : Point) → IsInside grain w.books.tables part.volume part.block part.count → WriteOf grain w part steps →
    Over grain w least part steps q → Recoverable grain q.disks q.kept w least (Some (Write part)) None
found_over grain w least part steps q inside o over =
    let entry : Entry = entry_of grain w part steps in
    let i : ℕ = lane_of_grain w (grain_of_block grain part.block) in
    let least' : List Row = least_entry (single_lane grain) least entry in
    let told : Tells (Write part) (Some part) steps None entry = record { request_is = refl; written = refl; moves = refl; torn_is = refl; no_effects = refl } in
    found grain w (next_of grain w part steps) least least' (Write part) q (whole entry (next_of grain w part steps) least' (is_step grain w part steps inside o) refl)
    (answered grain w least (Write part) (Some part) steps None q entry i told over)

-- ---- a stop in it

found_data : (grain : GrainSize) (w : Whole) (least : List Row) (part : WritePart) (steps : List DiskStep) (o : WriteOf grain w part steps) (p q : Point) (one : Option Another) →
    IsInside grain w.books.tables part.volume part.block part.count → CanWriteAt (chains_in grain w part o.t) (grain_of_block grain part.block) o.t part.volume.0 →
    Prefix grain w least (Some (Write part)) (with_sheet w (chains_in grain w part o.t)) (after_note least (Wrote part.volume.0 (grain_of_block grain part.block))) → Ready grain w least part o.t p →
    Finds grain w (Write part) (chains_in grain w part o.t) (Data (record (own_in grain w part o.t) { volume = part.volume.0 }) ∷ Note (written_of part.volume.0 (grain_of_block grain part.block)) ∷ []) p one q →
    Recoverable grain q.disks q.kept w least (Some (Write part)) one
found_data grain w least part steps o p q one inside can is ready f =
    let v : ℕ = part.volume.0 in
    let g : ℕ = grain_of_block grain part.block in
    let now : Whole = with_sheet w (chains_in grain w part o.t) in
    let least' : List Row = after_note least (Wrote v g) in
    elim f [
      | inl x ↦ found_here grain w now least least' (Write part) p q one is ready.stands x
      | inr y ↦ elim y [
        | inl x ↦
            let z : Point = with_kept q.kept p in
            let there = ready_folded grain w least part o.t p q.kept x.kept ready in
            from_found_in grain w least (Write part) (chains_in grain w part o.t) (record (own_in grain w part o.t) { volume = v }) p q one x
            (found_in grain w now least least' (Write part) z q.disks v g o.t x.content is there.stands (own_change (chains_in grain w part o.t) g o.t v q.kept.rows can there.changed) (written_sheet grain w (chains_in grain w part o.t) v g x.content p.disks q.disks x.writes))
        | inr x ↦
            let z : Point = with_kept x.2 p in
            let behind : Point = noted (written_of v g) (with_disks x.0 z) in
            from_found grain w least (Write part) (chains_written grain w part o.t) behind q one x.4
            (λ k m. found_over grain w least part steps (with_kept k behind) inside o (own_done grain w least part steps o z x.0 k can (ready_folded grain w least part o.t p x.2 x.3 ready) x.1 m))
      ]
    ]

-- by whether the mark is due
abbrev marks_then : WritePart → ℕ → DiskStep → Bool → List Action
marks_then part g own due = ((cond due (Note (changing_of part.volume.0 g) ∷ []) []) ++ Data own ∷ Note (written_of part.volume.0 g) ∷ []) ++ []

found_own : (grain : GrainSize) (w : Whole) (least : List Row) (part : WritePart) (steps : List DiskStep) (o : WriteOf grain w part steps) (rows : List Row) (p q : Point) (one : Option Another) (due : Bool) →
    IsInside grain w.books.tables part.volume part.block part.count → CanWriteAt (chains_in grain w part o.t) (grain_of_block grain part.block) o.t part.volume.0 →
    Prefix grain w least (Some (Write part)) (with_sheet w (chains_in grain w part o.t)) (after_note least (Wrote part.volume.0 (grain_of_block grain part.block))) →
    At grain w least (Write part) rows (moves_in grain w part o.t) p → list_any (is_unmarked part.volume.0 (grain_of_block grain part.block)) rows ≡ due →
    Finds grain w (Write part) (chains_in grain w part o.t) (marks_then part (grain_of_block grain part.block) (record (own_in grain w part o.t) { volume = part.volume.0 }) due) p one q →
    Recoverable grain q.disks q.kept w least (Some (Write part)) one
found_own grain w least part steps o rows p q one true inside can is a e f =
    let now : Whole = with_sheet w (chains_in grain w part o.t) in
    let least' : List Row = after_note least (Wrote part.volume.0 (grain_of_block grain part.block)) in
    elim f [
      | inl x ↦ found_here grain w now least least' (Write part) p q one is (stands_asked grain w least part o.t rows p a) x
      | inr x ↦
          let z : Point = with_kept x.0 p in
          found_data grain w least part steps o (noted (changing_of part.volume.0 (grain_of_block grain part.block)) z) q one inside can is (ready_marked grain w least part o.t rows z (at_folded grain w least (Write part) rows (moves_in grain w part o.t) p x.0 x.1 a)) x.2
    ]
found_own grain w least part steps o rows p q one false inside can is a e f =
    found_data grain w least part steps o p q one inside can is (ready_unmarked grain w least part o.t rows p a e) f

-- a write that begins: its moves, and that its own grain can be written behind them
record WriteBegun (grain : GrainSize) (w : Whole) (part : WritePart) (steps : List DiskStep) : Type 0 where
  written : WriteOf grain w part steps
  moves : Moves grain w (Write part) (moves_in grain w part written.t) (own_in grain w part written.t ∷ [])
  can : CanWriteAt (chains_in grain w part written.t) (grain_of_block grain part.block) written.t part.volume.0

write_begun : (grain : GrainSize) (w : Whole) (least : List Row) (part : WritePart) (steps : List DiskStep) (p : Point) → Begins grain w least (Write part) steps p → WriteBegun grain w part steps
write_begun grain w least part steps p b =
    let o = write_of grain w part steps b.steps_are in
    record { written = o; moves = moves_given grain w part steps b.sound b.inside o b.steps_are; can = can_write_at grain w part o.t b.sound b.inside o.place }

write_found : (grain : GrainSize) (w : Whole) (least : List Row) (part : WritePart) (steps : List DiskStep) (p q : Point) (one : Option Another) → Begins grain w least (Write part) steps p →
    Finds grain w (Write part) w.books.sheet (actions_of_steps p.kept.rows (grain_of_block grain part.block) steps) p one q → Recoverable grain q.disks q.kept w least (Some (Write part)) one
write_found grain w least part steps p q one b f =
    let g : ℕ = grain_of_block grain part.block in
    let rows : List Row = p.kept.rows in
    let x = write_begun grain w least part steps p b in
    let o = x.written in
    let moves : List ℕ = moves_in grain w part o.t in
    let is : Prefix grain w least (Some (Write part)) (with_sheet w (chains_in grain w part o.t)) (after_note least (Wrote part.volume.0 g)) =
    subst (λ (x : List Row). Prefix grain w least (Some (Write part)) (with_sheet w (chains_in grain w part o.t)) x) (least_asked_is grain least part)
    (prefix_at grain w least (Write part) moves [] (own_in grain w part o.t ∷ [])
    (subst (λ (z : List ℕ). AreStepsOf grain w (Write part) (steps_in grain w (Write part) z ++ own_in grain w part o.t ∷ [])) (sym (append-nil moves)) x.moves.steps_are)) in
    let behind : FoundBehind grain w least (Write part) rows moves (own_in grain w part o.t ∷ []) one q = λ y a h.
    found_own grain w least part steps o rows y q one (list_any (is_unmarked part.volume.0 g) rows) b.inside x.can is a refl
    (subst (λ (z : DiskStep). Finds grain w (Write part) (chains_in grain w part o.t) (own_actions rows g z) y one q) (own_is grain w part steps o) h) in
    found_moves grain w least (Write part) rows moves (own_in grain w part o.t ∷ []) q one x.moves behind moves [] p refl (at_first grain w least (Write part) p b.stands)
    (subst (λ (z : List DiskStep). Finds grain w (Write part) w.books.sheet (actions_of_steps rows g z) p one q) o.steps_are f)

-- ---- all of it

did_data : (grain : GrainSize) (w : Whole) (least : List Row) (part : WritePart) (steps : List DiskStep) (o : WriteOf grain w part steps) (p q : Point) →
    CanWriteAt (chains_in grain w part o.t) (grain_of_block grain part.block) o.t part.volume.0 → Ready grain w least part o.t p →
    Did grain w (Write part) (chains_in grain w part o.t) (Data (record (own_in grain w part o.t) { volume = part.volume.0 }) ∷ Note (written_of part.volume.0 (grain_of_block grain part.block)) ∷ []) p q → Over grain w least part steps q
did_data grain w least part steps o p q can ready f =
    let z : Point = with_kept f.2.0 p in
    let behind : Point = noted (written_of part.volume.0 (grain_of_block grain part.block)) (with_disks f.0 z) in
    subst (Over grain w least part steps) (sym f.2.2) (own_done grain w least part steps o z f.0 behind.kept can (ready_folded grain w least part o.t p f.2.0 f.2.1 ready) f.1 (inl refl))

did_own : (grain : GrainSize) (w : Whole) (least : List Row) (part : WritePart) (steps : List DiskStep) (o : WriteOf grain w part steps) (rows : List Row) (p q : Point) (due : Bool) →
    CanWriteAt (chains_in grain w part o.t) (grain_of_block grain part.block) o.t part.volume.0 →
    At grain w least (Write part) rows (moves_in grain w part o.t) p → list_any (is_unmarked part.volume.0 (grain_of_block grain part.block)) rows ≡ due →
    Did grain w (Write part) (chains_in grain w part o.t) (marks_then part (grain_of_block grain part.block) (record (own_in grain w part o.t) { volume = part.volume.0 }) due) p q → Over grain w least part steps q
did_own grain w least part steps o rows p q true can a e f =
    let x : Point = with_kept f.0 p in
    let z : Point = noted (changing_of part.volume.0 (grain_of_block grain part.block)) x in
    did_data grain w least part steps o z q can (ready_marked grain w least part o.t rows x (at_folded grain w least (Write part) rows (moves_in grain w part o.t) p f.0 f.1 a)) f.2
did_own grain w least part steps o rows p q false can a e f = did_data grain w least part steps o p q can (ready_unmarked grain w least part o.t rows p a e) f

write_stands : (grain : GrainSize) (w : Whole) (least : List Row) (part : WritePart) (steps : List DiskStep) (p q : Point) → Begins grain w least (Write part) steps p →
    Did grain w (Write part) w.books.sheet (actions_of_steps p.kept.rows (grain_of_block grain part.block) steps) p q → Over grain w least part steps q
write_stands grain w least part steps p q b f =
    let g : ℕ = grain_of_block grain part.block in
    let rows : List Row = p.kept.rows in
    let x = write_begun grain w least part steps p b in
    let o = x.written in
    let moves : List ℕ = moves_in grain w part o.t in
    did_moves grain w least (Write part) rows moves (own_in grain w part o.t ∷ []) (own_in grain w part o.t ∷ []) q (Over grain w least part steps q) x.moves moves [] [] p (sym (append-nil moves)) (at_first grain w least (Write part) p b.stands)
    (λ y a h. did_own grain w least part steps o rows y q (list_any (is_unmarked part.volume.0 g) rows) x.can a refl
    (subst (λ (z : DiskStep). Did grain w (Write part) (chains_in grain w part o.t) (own_actions rows g z) y q) (own_is grain w part steps o) h))
    (subst (λ (z : List DiskStep). Did grain w (Write part) w.books.sheet (actions_of_steps rows g z) p q) o.steps_are f)

-- ---- copies and cleanings

pub record FillOf (grain : GrainSize) (w : Whole) (r : Request) (steps : List DiskStep) : Type 0 where
  pub k : ℕ
  pub live : IsLiveAt w.books.sheet.slots (place_of (single_lane grain) (number_of grain r)) k
  pub lacks : (column w.books.sheet.slots (place_of (single_lane grain) (number_of grain r))).held k ≡ false
  pub steps_are : steps ≡ steps_of_fill (spot_in grain w r) k

fill_by : (grain : GrainSize) (w : Whole) (r : Request) (steps : List DiskStep) (o : Option ℕ) →
    ((k : ℕ) → o ≡ Some k → IsLiveAt w.books.sheet.slots (place_of (single_lane grain) (number_of grain r)) k × ((column w.books.sheet.slots (place_of (single_lane grain) (number_of grain r))).held k ≡ false)) →
    AreFillSteps (spot_in grain w r) o steps → FillOf grain w r steps
fill_by grain w r steps None at h = absurd h
fill_by grain w r steps (Some k) at h = let a = at k refl in record { k = k; live = a.0; lacks = a.1; steps_are = h }

pub copy_of : (grain : GrainSize) (w : Whole) (m : MapId) (g : GrainNo) (steps : List DiskStep) → AreStepsOf grain w (Copy m g) steps → FillOf grain w (Copy m g) steps
copy_of grain w m g steps h =
    let slots = w.books.sheet.slots in
    let place : ℕ = place_of (single_lane grain) g.0 in
    fill_by grain w (Copy m g) steps (copied_slot slots m.0 place) (λ k e. lane_law_holds.copy_slot slots m.0 place k e) h

pub clean_of : (grain : GrainSize) (w : Whole) (m : MapId) (g : GrainNo) (steps : List DiskStep) → AreSound w.books → AreStepsOf grain w (Clean m g) steps → FillOf grain w (Clean m g) steps
clean_of grain w m g steps sound h =
    let slots = w.books.sheet.slots in
    let place : ℕ = place_of (single_lane grain) g.0 in
    fill_by grain w (Clean m g) steps (cleaned_slot slots m.0 place) (λ k e. lane_law_holds.clean_slot slots m.0 place k sound.sheet.sizes e) h

abbrev pub fills_in : GrainSize → Whole → Request → ℕ → List ℕ
fills_in grain w r k = fill_moves (spot_in grain w r).column k

pub fills_given : (grain : GrainSize) (w : Whole) (r : Request) (steps : List DiskStep) → AreSound w.books → (o : FillOf grain w r steps) → AreStepsOf grain w r steps → Moves grain w r (fills_in grain w r o.k) []
fills_given grain w r steps sound o are =
    record {
      sound = sound;
      run = steps_law_holds.fill (single_lane grain) (as_one w) (number_of grain r) o.k sound.sheet o.live o.lacks;
      steps_are = subst (AreStepsOf grain w r) (o.steps_are ∙ sym (append-nil (steps_in grain w r (fills_in grain w r o.k)))) are;
    }

fill_found : (grain : GrainSize) (w : Whole) (least : List Row) (r : Request) (steps : List DiskStep) (p q : Point) (one : Option Another) → Begins grain w least r steps p → FillOf grain w r steps →
    Finds grain w r w.books.sheet (actions_of_steps p.kept.rows (number_of grain r) steps) p one q → Recoverable grain q.disks q.kept w least (Some r) one
fill_found grain w least r steps p q one b o f =
    let rows : List Row = p.kept.rows in
    let moves : List ℕ = fills_in grain w r o.k in
    let m = fills_given grain w r steps b.sound o b.steps_are in
    let is : Prefix grain w least (Some r) (with_sheet w (chains_after grain w r moves)) (least_asked (single_lane grain) least (Some r)) =
    prefix_at grain w least r moves [] [] (subst (λ (z : List ℕ). AreStepsOf grain w r (steps_in grain w r z ++ [])) (sym (append-nil moves)) m.steps_are) in
    found_moves grain w least r rows moves [] q one m
    (λ x a y. found_here grain w (with_sheet w (chains_after grain w r moves)) least (least_asked (single_lane grain) least (Some r)) r x q one is a.stands y)
    moves [] p refl (at_first grain w least r p b.stands)
    (subst (λ (z : List DiskStep). Finds grain w r w.books.sheet (actions_of_steps rows (number_of grain r) z) p one q) (o.steps_are ∙ sym (append-nil (steps_in grain w r moves))) f)

-- nothing was asked to be written
without_write : (grain : GrainSize) (w : Whole) (least : List Row) (r : Request) (p : Point) → asked_write r ≡ None → StandsFor grain w (least_asked (single_lane grain) least (Some r)) p → StandsFor grain w least p
without_write grain w least r p none st =
    subst (λ (o : Option WritePart). StandsFor grain w (fold after_note least (write_notes (single_lane grain) o)) p) none st

fill_stands : (grain : GrainSize) (w : Whole) (least : List Row) (r : Request) (steps : List DiskStep) (p q : Point) → Begins grain w least r steps p → FillOf grain w r steps → asked_write r ≡ None →
    Did grain w r w.books.sheet (actions_of_steps p.kept.rows (number_of grain r) steps) p q → StandsFor grain (told_with grain w (asked_write r) steps None) (least_with grain least (asked_write r) None) q
fill_stands grain w least r steps p q b o none f =
    let rows : List Row = p.kept.rows in
    let moves : List ℕ = fills_in grain w r o.k in
    let m = fills_given grain w r steps b.sound o b.steps_are in
    let told : map (move_in (spot_in grain w r)) moves ≡ moves_of steps = sym (ap moves_of o.steps_are ∙ lane_law_holds.moves_told (spot_in grain w r) moves) in
    did_moves grain w least r rows moves [] [] q (StandsFor grain (told_with grain w (asked_write r) steps None) (least_with grain least (asked_write r) None) q) m moves [] [] p (sym (append-nil moves)) (at_first grain w least r p b.stands)
    (λ x a y. subst (λ (z : Option WritePart). StandsFor grain (told_with grain w z steps None) (least_with grain least z None) q) (sym none)
    (subst (λ (z : List Move). StandsFor grain (with_sheet w (fold (sheet_move (single_lane grain)) w.books.sheet z)) least q) told
    (subst (λ (z : Point). StandsFor grain (with_sheet w (chains_after grain w r moves)) least z) (sym y) (without_write grain (with_sheet w (chains_after grain w r moves)) least r x none a.stands))))
    (subst (λ (z : List DiskStep). Did grain w r w.books.sheet (actions_of_steps rows (number_of grain r) z) p q) (o.steps_are ∙ sym (append-nil (steps_in grain w r moves))) f)

-- ---- all requests

pub all_found : (grain : GrainSize) (w : Whole) (least : List Row) (r : Request) (steps : List DiskStep) (p q : Point) (one : Option Another) → Begins grain w least r steps p →
    Finds grain w r w.books.sheet (actions_of_steps p.kept.rows (number_of grain r) steps) p one q → Recoverable grain q.disks q.kept w least (Some r) one
all_found grain w least (Write part) steps p q one b f = write_found grain w least part steps p q one b f
all_found grain w least (Copy m g) steps p q one b f = fill_found grain w least (Copy m g) steps p q one b (copy_of grain w m g steps b.steps_are) f
all_found grain w least (Clean m g) steps p q one b f = fill_found grain w least (Clean m g) steps p q one b (clean_of grain w m g steps b.sound b.steps_are) f
all_found grain w least r steps p q one b f = absurd b.steps_are

pub all_stand : (grain : GrainSize) (w : Whole) (least : List Row) (r : Request) (steps : List DiskStep) (p q : Point) → Begins grain w least r steps p →
    Did grain w r w.books.sheet (actions_of_steps p.kept.rows (number_of grain r) steps) p q → StandsFor grain (told_with grain w (asked_write r) steps None) (least_with grain least (asked_write r) None) q
all_stand grain w least (Write part) steps p q b f = write_stands grain w least part steps p q b f
all_stand grain w least (Copy m g) steps p q b f = fill_stands grain w least (Copy m g) steps p q b (copy_of grain w m g steps b.steps_are) refl f
all_stand grain w least (Clean m g) steps p q b f = fill_stands grain w least (Clean m g) steps p q b (clean_of grain w m g steps b.sound b.steps_are) refl f
all_stand grain w least r steps p q b f = absurd b.steps_are
