-- The mark of a write is put before its data, and the rows of metadata stay those of the history with the grains that are marked.
use Rattle.std.proofs.Common.{◌≡◌, ℕ, ◌+◌, Bool, true, false, cond, List, [], ◌∷◌, ◌++◌, length, take, fold, Option, Some, None, refl, sym, ap, subst, ◌∙◌, ◌⊎◌, inl, inr, arith, length-append}
use Rattle.std.specs.List.{list_any}
use Rattle.std.proofs.lemmas.List.{append_assoc, append-nil}
use Rattle.fc_base.specs.Sheet.{Sheet}
use Rattle.fc_base.specs.declared.request.Move.{Move}
use Rattle.fc_base.specs.declared.request.Request.{Request}
use Rattle.fc_base.specs.declared.request.Request.TheVariants.{Write, Copy, Clean}
use Rattle.fc_base.specs.declared.request.Side.{Side}
use Rattle.fc_base.specs.declared.request.Side.TheVariants.{Now, Under}
use Rattle.fc_base.specs.declared.request.Torn.{Torn}
use Rattle.fc_base.specs.declared.request.WritePart.{WritePart}
use Rattle.fc_base.specs.declared.size.GrainSize.{GrainSize}
use Rattle.fc_changed.specs.Notes.Note.{Wrote}
use Rattle.fc_changed.specs.Row.{Row, after_note}
use Rattle.fc_entry.specs.Picture.{grain_of_block}
use Rattle.fc_entry.specs.declared.entry.Entry.{Entry}
use Rattle.fc_follow.specs.Following.{rows_entry, torn_notes, write_notes}
use Rattle.fc_image.specs.declared.record.MetaRecord.{MetaRecord}
use Rattle.fc_image.specs.declared.record.MetaRecord.TheVariants.{Written, Torn as TornRecord}
use Rattle.fc_kept.specs.Actions.{Action, Action.Data, Action.Note, data_of, is_unmarked, mark_of, record_of_move}
use Rattle.fc_kept.specs.Kept.{rows_kept}
use Rattle.fc_kept.specs.Marks.{asked_write}
use Rattle.fc_kept.specs.Prefix.{AreStepsOf}
use Rattle.fc_legal.specs.Whole.{Whole, single_lane}
use Rattle.fc_parts.proofs.Numbers.{all_place}
use Rattle.fc_rules.specs.Steps.{DiskStep}
use Rattle.fc_steps.specs.StepsEnd.{torn_in}
use Rattle.fc_steps.specs.declared.stop.Stop.{Stop}
use Rattle.law_agreeing.specs.Coming.{chains_by}
use Rattle.law_crash.specs.Doing.{Did, Tells, Tears, actions_by_move, actions_of_step, actions_of_steps, chains_behind, marks_by_move, noted, number_of}
use Rattle.law_crash.specs.Points.{Point}
use Rattle.law_crash.proofs.Lawful.{moves_in, own_is, own_in, write_of}
use Rattle.law_crash.proofs.Making.{steps_in}
use Rattle.law_noted.specs.Advancing.{IsNext, MarkingLaw, RowLaw, mark_at}
use Rattle.law_noted.specs.Came.{Came, Came.behind, Came.marked, Came.waits, Came.stopped, Came.tears}
use Rattle.law_noted.proofs.Acting.{Halves, actions_both, data_rows, did_both, did_note, halves, note_rows, rows_left}
use Rattle.law_noted.proofs.MarkRows.{changed, forgotten, once, remembered, wanted, wrote}
use Rattle.law_noted.proofs.Nexts.{front_moves, head_is, here, kind_of, moves_leave, own_last, same_end, same_front}

-- ---- a mark

abbrev marks_by : Bool → ℕ → ℕ → List Action
marks_by wanted v g = cond wanted (Note (mark_at v g) ∷ []) []

by_wanted : (grain : GrainSize) (w : Whole) (r : Request) (chains : Sheet) (v g : ℕ) (b : Bool) (p q : Point) → list_any (is_unmarked v g) p.kept.rows ≡ b → Did grain w r chains (marks_by b v g) p q →
    list_any (is_unmarked v g) q.kept.rows ≡ false
by_wanted grain w r chains v g true p q e d =
    ap (list_any (is_unmarked v g)) (note_rows grain w r chains (mark_at v g) p q d) ∙ changed v g p.kept.rows
by_wanted grain w r chains v g false p q e d = ap (λ (z : Point). list_any (is_unmarked v g) z.kept.rows) d ∙ e

-- behind it, if it is due, the grain is changed in each row
pub is_marked : (grain : GrainSize) (w : Whole) (r : Request) (chains : Sheet) (rows : List Row) (v g : ℕ) (p q : Point) → p.kept.rows ≡ rows → Did grain w r chains (mark_of rows v g) p q →
    list_any (is_unmarked v g) q.kept.rows ≡ false
is_marked grain w r chains rows v g p q same d =
    by_wanted grain w r chains v g (list_any (is_unmarked v g) rows) p q (ap (list_any (is_unmarked v g)) same) d

-- the rows behind a front of moves
pub rows_behind : (grain : GrainSize) (w : Whole) (r : Request) (steps front back : List DiskStep) (step : DiskStep) (p q : Point) → AreStepsOf grain w r steps → steps ≡ front ++ step ∷ back →
    Did grain w r w.books.sheet (actions_of_steps p.kept.rows (number_of grain r) front) p q → q.kept.rows ≡ p.kept.rows
rows_behind grain w r steps front back step p q are split did =
    rows_left grain w r w.books.sheet (actions_of_steps p.kept.rows (number_of grain r) front) p q
    (moves_leave p.kept.rows (number_of grain r) front (front_moves grain w r steps front back step are split)) did

-- behind it and the mark of the write itself
pub marked_behind : (grain : GrainSize) (w : Whole) (r : Request) (steps front back : List DiskStep) (own : DiskStep) (p q : Point) → AreStepsOf grain w r steps → steps ≡ front ++ own ∷ back →
    Did grain w r w.books.sheet (actions_of_steps p.kept.rows (number_of grain r) front ++ mark_of p.kept.rows own.volume (number_of grain r)) p q →
    list_any (is_unmarked own.volume (number_of grain r)) q.kept.rows ≡ false
marked_behind grain w r steps front back own p q are split did =
    let g : ℕ = number_of grain r in
    let rows : List Row = p.kept.rows in
    let A : List Action = actions_of_steps rows g front in
    let h : Halves grain w r w.books.sheet A (mark_of rows own.volume g) p q = halves grain w r w.books.sheet A (mark_of rows own.volume g) p q did in
    is_marked grain w r (chains_by w.books.sheet A) rows own.volume g h.between q (rows_behind grain w r steps front back own p h.between are split h.first) h.rest

mark_due : (rows : List Row) (v g : ℕ) → list_any (is_unmarked v g) rows ≡ true → mark_of rows v g ≡ Note (mark_at v g) ∷ []
mark_due rows v g e = ap (λ (b : Bool). marks_by b v g) e

no_mark : (rows : List Row) (v g : ℕ) → list_any (is_unmarked v g) rows ≡ false → mark_of rows v g ≡ []
no_mark rows v g e = ap (λ (b : Bool). marks_by b v g) e

marks : (grain : GrainSize) (w : Whole) (r : Request) (steps : List DiskStep) (p : Point) (n : ℕ) (own : DiskStep) (q : Point) → AreStepsOf grain w r steps →
    IsNext steps n own → own.move ≡ None → Came grain w r p.kept.rows steps p n None None q → list_any (is_unmarked own.volume (number_of grain r)) q.kept.rows ≡ true →
    Came grain w r p.kept.rows steps p n None None (noted (mark_at own.volume (number_of grain r)) q)
marks grain w r steps p n own q are next is_own (behind front back z split did) e =
    let g : ℕ = number_of grain r in
    let v : ℕ = own.volume in
    let rows : List Row = p.kept.rows in
    let A : List Action = actions_of_steps rows g front in
    let at = here steps front back (length front) own split refl next in
    let split' : steps ≡ front ++ own ∷ next.back = split ∙ ap (λ (b : List DiskStep). front ++ b) at.1 in
    let last : next.back ≡ [] = own_last grain w r steps front next.back own are split' is_own in
    let same : z.kept.rows ≡ rows = rows_behind grain w r steps front next.back own p z are split' did in
    let due : mark_of rows v g ≡ Note (mark_at v g) ∷ [] = mark_due rows v g (ap (list_any (is_unmarked v g)) (sym same) ∙ e) in
    marked front own (noted (mark_at v g) z) (split' ∙ ap (λ (b : List DiskStep). front ++ own ∷ b) last) is_own
    (subst (λ (xs : List Action). Did grain w r w.books.sheet (A ++ xs) p (noted (mark_at v g) z)) (sym due)
    (did_both grain w r w.books.sheet A (Note (mark_at v g) ∷ []) p z (noted (mark_at v g) z) did (did_note grain w r (chains_by w.books.sheet A) (mark_at v g) z)))
marks grain w r steps p n own q are next is_own (marked front other z split other_is did) e =
    let g : ℕ = number_of grain r in
    let at = here steps front (other ∷ []) (length front) own split refl next in
    let same : other ≡ own = head_is other own [] next.back at.1 in
    let none : list_any (is_unmarked other.volume g) z.kept.rows ≡ false = marked_behind grain w r steps front [] other p z are split did in
    absurd (let f : true ≡ false = sym e ∙ (ap (λ (s : DiskStep). list_any (is_unmarked s.volume g) z.kept.rows) (sym same) ∙ none) in cc)

ready : (grain : GrainSize) (w : Whole) (r : Request) (steps : List DiskStep) (p : Point) (n : ℕ) (own : DiskStep) (q : Point) → AreStepsOf grain w r steps →
    (next : IsNext steps n own) → own.move ≡ None → Came grain w r p.kept.rows steps p n None None q → list_any (is_unmarked own.volume (number_of grain r)) q.kept.rows ≡ false →
    Did grain w r w.books.sheet (actions_of_steps p.kept.rows (number_of grain r) next.front ++ mark_of p.kept.rows own.volume (number_of grain r)) p q
ready grain w r steps p n own q are next is_own (behind front back z split did) e =
    let g : ℕ = number_of grain r in
    let v : ℕ = own.volume in
    let rows : List Row = p.kept.rows in
    let at = here steps front back (length front) own split refl next in
    let split' : steps ≡ front ++ own ∷ next.back = split ∙ ap (λ (b : List DiskStep). front ++ b) at.1 in
    let same : z.kept.rows ≡ rows = rows_behind grain w r steps front next.back own p z are split' did in
    let none : mark_of rows v g ≡ [] = no_mark rows v g (ap (list_any (is_unmarked v g)) (sym same) ∙ e) in
    let all : actions_of_steps rows g front ≡ actions_of_steps rows g next.front ++ mark_of rows v g =
    ap (actions_of_steps rows g) at.0 ∙ (sym (append-nil (actions_of_steps rows g next.front)) ∙ ap (λ (xs : List Action). actions_of_steps rows g next.front ++ xs) (sym none)) in
    subst (λ (xs : List Action). Did grain w r w.books.sheet xs p z) all did
ready grain w r steps p n own q are next is_own (marked front other z split other_is did) e =
    let g : ℕ = number_of grain r in
    let rows : List Row = p.kept.rows in
    let at = here steps front (other ∷ []) (length front) own split refl next in
    let same : other ≡ own = head_is other own [] next.back at.1 in
    let all : actions_of_steps rows g front ++ mark_of rows other.volume g ≡ actions_of_steps rows g next.front ++ mark_of rows own.volume g =
    λ i. actions_of_steps rows g (at.0 i) ++ mark_of rows (same i).volume g in
    subst (λ (xs : List Action). Did grain w r w.books.sheet xs p z) all did

pub marking_law_holds : MarkingLaw
marking_law_holds = record { wanted = wanted; marks = marks; ready = ready }

-- ---- the record of a step leaves rows

pub note_is : (a b : MetaRecord) → Note a ≡ Note b → a ≡ b
note_is a b e = cc

abbrev Leaves : List Row → MetaRecord → Type 0
Leaves rows x = rows_kept rows x ≡ rows

-- of a move
move_leaves_rows : (rows all : List Row) (g : ℕ) (step : DiskStep) (m : Move) (first : List Action) (x : MetaRecord) → step.move ≡ Some m → actions_of_step all g step ≡ first ++ Note x ∷ [] → Leaves rows x
move_leaves_rows rows all g step m first x e acts =
    let ends : data_of step ++ Note (record_of_move step m) ∷ [] ≡ first ++ Note x ∷ [] = sym (ap (λ (o : Option Move). actions_by_move all g step o) e) ∙ acts in
    subst (Leaves rows) (note_is (record_of_move step m) x (same_end (data_of step) first (Note (record_of_move step m)) (Note x) ends).1) refl

-- of the write itself, whose grain is changed in each row
abbrev written_at : ℕ → ℕ → MetaRecord
written_at v g = Written record { 0 = v } record { 0 = g }

own_ends : (rows : List Row) (g : ℕ) (step : DiskStep) (first : List Action) (x : MetaRecord) → step.move ≡ None → actions_of_step rows g step ≡ first ++ Note x ∷ [] →
    (mark_of rows step.volume g ++ Data step ∷ [] ≡ first) × (written_at step.volume g ≡ x)
own_ends rows g step first x e acts =
    let M : List Action = mark_of rows step.volume g in
    let ends : (M ++ Data step ∷ []) ++ Note (written_at step.volume g) ∷ [] ≡ first ++ Note x ∷ [] =
    append_assoc M (Data step ∷ []) (Note (written_at step.volume g) ∷ []) ∙ (sym (ap (λ (o : Option Move). actions_by_move rows g step o) e) ∙ acts) in
    let s = same_end (M ++ Data step ∷ []) first (Note (written_at step.volume g)) (Note x) ends in
    (s.0, note_is (written_at step.volume g) x s.1)

-- behind its data
data_marked : (grain : GrainSize) (w : Whole) (r : Request) (steps front back : List DiskStep) (own : DiskStep) (p q : Point) → AreStepsOf grain w r steps → steps ≡ front ++ own ∷ back →
    Did grain w r w.books.sheet (actions_of_steps p.kept.rows (number_of grain r) front ++ (mark_of p.kept.rows own.volume (number_of grain r) ++ Data own ∷ [])) p q →
    list_any (is_unmarked own.volume (number_of grain r)) q.kept.rows ≡ false
data_marked grain w r steps front back own p q are split did =
    let g : ℕ = number_of grain r in
    let rows : List Row = p.kept.rows in
    let A : List Action = actions_of_steps rows g front in
    let M : List Action = mark_of rows own.volume g in
    let h : Halves grain w r w.books.sheet (A ++ M) (Data own ∷ []) p q =
    halves grain w r w.books.sheet (A ++ M) (Data own ∷ []) p q (subst (λ (xs : List Action). Did grain w r w.books.sheet xs p q) (sym (append_assoc A M (Data own ∷ []))) did) in
    ap (list_any (is_unmarked own.volume g)) (data_rows grain w r (chains_by w.books.sheet (A ++ M)) own h.between q h.rest)
    ∙ marked_behind grain w r steps front back own p h.between are split h.first

torn_leaves : (rows : List Row) (v g : ℕ) (side : Side) → (side ≡ Under) ⊎ (list_any (is_unmarked v g) rows ≡ false) → Leaves rows (TornRecord record { 0 = v } record { 0 = g } side)
torn_leaves rows v g Under e = refl
torn_leaves rows v g Now (inl e) = absurd cc
torn_leaves rows v g Now (inr e) = once v g rows e

stay : (grain : GrainSize) (w : Whole) (r : Request) (steps : List DiskStep) (p : Point) (n : ℕ) (stop : Option Stop) (x : MetaRecord) (q : Point) → AreStepsOf grain w r steps →
    Came grain w r p.kept.rows steps p n stop (Some x) q → rows_kept q.kept.rows x ≡ q.kept.rows
stay grain w r steps p n stop x q are (waits front back step first y z split some acts did) =
    let g : ℕ = number_of grain r in
    let rows : List Row = p.kept.rows in
    elim (kind_of grain w r steps front back step are split) [
      | inl m ↦ move_leaves_rows z.kept.rows rows g step m.0 first y m.1 acts
      | inr own ↦
          let ends = own_ends rows g step first y own.0 acts in
          let did' : Did grain w r w.books.sheet (actions_of_steps rows g front ++ (mark_of rows step.volume g ++ Data step ∷ [])) p z =
          subst (λ (xs : List Action). Did grain w r w.books.sheet (actions_of_steps rows g front ++ xs) p z) (sym ends.0) did in
          subst (Leaves z.kept.rows) ends.1 (once step.volume g z.kept.rows (data_marked grain w r steps front back step p z are split did'))
    ]
stay grain w r steps p n stop x q are (tears front back step torn begun z split some is did marks) =
    let g : ℕ = number_of grain r in
    let rows : List Row = p.kept.rows in
    let at : Torn = record { volume = record { 0 = step.volume }; grain = record { 0 = g }; side = step.side } in
    let same : begun.kept.rows ≡ rows = rows_behind grain w r steps front back step p begun are split did in
    let why : (step.side ≡ Under) ⊎ (list_any (is_unmarked step.volume g) z.kept.rows ≡ false) =
    elim (kind_of grain w r steps front back step are split) [
      | inl m ↦ inl m.2
      | inr own ↦ inr (is_marked grain w r (chains_behind grain w front) rows step.volume g begun z same
          (subst (λ (o : Option Move). Did grain w r (chains_behind grain w front) (marks_by_move rows g step o) begun z) own.0 marks))
    ] in
    subst (λ (t : Torn). Leaves z.kept.rows (TornRecord t.volume t.grain t.side)) (sym is) (torn_leaves z.kept.rows step.volume g step.side why)

-- ---- what an entry notes that is over

-- once more changes nothing
wrote_again : (v g : ℕ) (rows : List Row) → after_note (after_note rows (Wrote v g)) (Wrote v g) ≡ after_note rows (Wrote v g)
wrote_again v g rows = once v g (wrote v g rows) (changed v g rows)

-- behind the record of a write
behind_written : (grain : GrainSize) (w : Whole) (r : Request) (chains : Sheet) (first : List Action) (v g : ℕ) (p q : Point) → Did grain w r chains (first ++ Note (written_at v g) ∷ []) p q → after_note q.kept.rows (Wrote v g) ≡ q.kept.rows
behind_written grain w r chains first v g p q did =
    let h : Halves grain w r chains first (Note (written_at v g) ∷ []) p q = halves grain w r chains first (Note (written_at v g) ∷ []) p q did in
    let is : q.kept.rows ≡ after_note h.between.kept.rows (Wrote v g) = note_rows grain w r (chains_by chains first) (written_at v g) h.between q h.rest in
    ap (λ (rows : List Row). after_note rows (Wrote v g)) is ∙ (wrote_again v g h.between.kept.rows ∙ sym is)

last_write : (grain : GrainSize) (w : Whole) (part : WritePart) (steps : List DiskStep) (p q : Point) → AreStepsOf grain w (Write part) steps →
    Did grain w (Write part) w.books.sheet (actions_of_steps p.kept.rows (grain_of_block grain part.block) steps) p q →
    after_note q.kept.rows (Wrote part.volume.0 (grain_of_block grain part.block)) ≡ q.kept.rows
last_write grain w part steps p q are did =
    let g : ℕ = grain_of_block grain part.block in
    let rows : List Row = p.kept.rows in
    let o = write_of grain w part steps are in
    let own : DiskStep = own_in grain w part o.t in
    let named : own.volume ≡ part.volume.0 = ap (λ (s : DiskStep). s.volume) (own_is grain w part steps o) in
    let n : MetaRecord = written_at own.volume g in
    let M : List Action = mark_of rows own.volume g in
    let front : List DiskStep = steps_in grain w (Write part) (moves_in grain w part o.t) in
    let A : List Action = actions_of_steps rows g front in
    let first : List Action = A ++ (M ++ Data own ∷ []) in
    let all : actions_of_steps rows g (front ++ own ∷ []) ≡ first ++ Note n ∷ [] =
    actions_both rows g front (own ∷ [])
    ∙ (ap (λ (xs : List Action). A ++ xs) (append-nil (M ++ Data own ∷ Note n ∷ []) ∙ sym (append_assoc M (Data own ∷ []) (Note n ∷ [])))
    ∙ sym (append_assoc A (M ++ Data own ∷ []) (Note n ∷ []))) in
    let did' : Did grain w (Write part) w.books.sheet (first ++ Note n ∷ []) p q =
    subst (λ (xs : List Action). Did grain w (Write part) w.books.sheet xs p q) (ap (actions_of_steps rows g) o.steps_are ∙ all) did in
    subst (λ (v : ℕ). after_note q.kept.rows (Wrote v g) ≡ q.kept.rows) named (behind_written grain w (Write part) w.books.sheet first own.volume g p q did')

-- all steps were done where so many were
longer : (steps front : List DiskStep) (own : DiskStep) → steps ≡ front ++ own ∷ [] → length front ≡ length steps → ⊥
longer steps front own split n =
    let e : length steps ≡ length front + length (own ∷ []) = ap length split ∙ length-append front (own ∷ []) in
    omega (arith, e, n)

pub all_done : (grain : GrainSize) (w : Whole) (r : Request) (rows : List Row) (steps : List DiskStep) (p : Point) (n : ℕ) (q : Point) → n ≡ length steps → Came grain w r rows steps p n None None q →
    Did grain w r w.books.sheet (actions_of_steps rows (number_of grain r) steps) p q
all_done grain w r rows steps p n q e (behind front back z split did) =
    let s = same_front front steps back [] e (sym split ∙ sym (append-nil steps)) in
    subst (λ (x : List DiskStep). Did grain w r w.books.sheet (actions_of_steps rows (number_of grain r) x) p z) s.0 did
all_done grain w r rows steps p n q e (marked front own z split is_own did) = absurd (longer steps front own split e)

abbrev NotedBy : GrainSize → List Row → Option WritePart → Option Torn → Type 0
NotedBy grain rows write torn = fold after_note rows (write_notes (single_lane grain) write ++ torn_notes (single_lane grain) torn) ≡ rows

by_entry : (grain : GrainSize) (rows : List Row) (r : Request) (write : Option WritePart) (steps : List DiskStep) (torn : Option Torn) (entry : Entry) → Tells r write steps torn entry → NotedBy grain rows write torn →
    rows_entry (single_lane grain) rows entry ≡ rows
by_entry grain rows r write steps torn entry t e =
    (λ i. fold after_note rows (write_notes (single_lane grain) (t.written i) ++ torn_notes (single_lane grain) (t.torn_is i))) ∙ e

whole_noted : (grain : GrainSize) (w : Whole) (r : Request) (steps : List DiskStep) (p q : Point) → AreStepsOf grain w r steps → Did grain w r w.books.sheet (actions_of_steps p.kept.rows (number_of grain r) steps) p q →
    NotedBy grain q.kept.rows (asked_write r) None
whole_noted grain w (Write part) steps p q are did =
    ap (λ (g : ℕ). after_note q.kept.rows (Wrote part.volume.0 g)) (all_place grain (grain_of_block grain part.block)) ∙ last_write grain w part steps p q are did
whole_noted grain w (Copy m g) steps p q are did = refl
whole_noted grain w (Clean m g) steps p q are did = refl
whole_noted grain w r steps p q are did = absurd are

whole : (grain : GrainSize) (w : Whole) (r : Request) (steps : List DiskStep) (p q : Point) (entry : Entry) → AreStepsOf grain w r steps →
    Came grain w r p.kept.rows steps p (length steps) None None q → Tells r (asked_write r) steps None entry →
    rows_entry (single_lane grain) q.kept.rows entry ≡ q.kept.rows
whole grain w r steps p q entry are came told =
    by_entry grain q.kept.rows r (asked_write r) steps None entry told
    (whole_noted grain w r steps p q are (all_done grain w r p.kept.rows steps p (length steps) q refl came))

-- a grain that was torn
torn_noted : (grain : GrainSize) (rows : List Row) (torn : Torn) (side : Side) → torn.side ≡ side →
    NotedBy grain (rows_kept rows (TornRecord torn.volume torn.grain side)) None (Some (record torn { side = side }))
torn_noted grain rows torn Under e = refl
torn_noted grain rows torn Now e =
    ap (λ (g : ℕ). after_note (after_note rows (Wrote torn.volume.0 torn.grain.0)) (Wrote torn.volume.0 g)) (all_place grain torn.grain.0)
    ∙ wrote_again torn.volume.0 torn.grain.0 rows

stopped_noted : (grain : GrainSize) (w : Whole) (r : Request) (chains : Sheet) (step : DiskStep) (torn : Option Torn) (p q : Point) → Tears grain w r chains step torn p q → NotedBy grain q.kept.rows None torn
stopped_noted grain w r chains step None p q t = refl
stopped_noted grain w r chains step (Some torn) p q (is, some, content, disks, x, kept, m, e) =
    subst (λ (z : Point). NotedBy grain z.kept.rows None (Some torn)) (sym e) (torn_noted grain kept.rows torn torn.side refl)

stopped_rows : (grain : GrainSize) (w : Whole) (r : Request) (steps : List DiskStep) (p : Point) (n : ℕ) (o : Option Stop) (stop : Stop) (q : Point) (entry : Entry) → o ≡ Some stop →
    Came grain w r p.kept.rows steps p n o None q → Tells r None (take n steps) (torn_in (Some stop)) entry →
    rows_entry (single_lane grain) q.kept.rows entry ≡ q.kept.rows
stopped_rows grain w r steps p n o stop q entry e (behind front back z split did) told = absurd cc
stopped_rows grain w r steps p n o stop q entry e (marked front own z split is_own did) told = absurd cc
stopped_rows grain w r steps p n o stop q entry e (stopped front back step why z split x) told =
    by_entry grain z.kept.rows r None (take (length front) steps) (torn_in (Some stop)) entry told
    (subst (λ (s : Option Stop). NotedBy grain z.kept.rows None (torn_in s)) e (stopped_noted grain w r (chains_behind grain w front) step (torn_in (Some why)) x.marked z x.tears))

pub row_law_holds : RowLaw
row_law_holds = record {
  remembered = remembered;
  stay = stay;
  forgotten = forgotten;
  whole = λ grain w r steps p q entry are came told. whole grain w r steps p q entry are came told;
  stopped = λ grain w r steps p n stop q entry are came told. stopped_rows grain w r steps p n (Some stop) stop q entry refl came told;
}
