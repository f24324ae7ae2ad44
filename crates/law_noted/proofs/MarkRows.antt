-- Rows, and the grains of them that are marked.
use Rattle.std.proofs.Common.{◌≡◌, ℕ, zero, suc, ◌<◌, ◌%◌, Bool, true, false, not, ◌&&◌, ◌||◌, cond, List, [], ◌∷◌, ◌++◌, set, map, filter, refl, sym, ap, subst, ◌∙◌, inl, inr, get_or-set_other}
use Rattle.std.specs.Prelude.{◌==◌}
use Rattle.std.specs.List.{list_any}
use Rattle.std.proofs.lemmas.Bool.{and_parts, cases_eq, eq-eqb, eqb-true, ne_eqb}
use Rattle.fc_base.specs.declared.ids.GrainNo.{GrainNo}
use Rattle.fc_base.specs.declared.ids.VolId.{VolId}
use Rattle.fc_changed.specs.Notes.{has}
use Rattle.fc_changed.specs.Notes.Note.{Wrote}
use Rattle.fc_changed.specs.Row.{Row, after_note, row_names, row_wrote}
use Rattle.fc_kept.specs.Actions.{is_unmarked}
use Rattle.fc_kept.specs.Kept.{rows_kept}
use Rattle.fc_legal.specs.Whole.{part_of_row, part_of_rows}
use Rattle.fc_marks.specs.Marks.{is_at, is_open, is_open_any, is_told, mark_row, marked}
use Rattle.fc_marks.specs.declared.marks.Mark.{Mark}
use Rattle.fc_parts.proofs.Numbers.{IsLane, IsOf, part_at_grain}
use Rattle.fc_rules.specs.LaneTold.{LaneOf, place_of}
use Rattle.law_noted.specs.Advancing.{mark_at}

-- ---- truth values

and_false : (b : Bool) → b && false ≡ false
and_false true = refl
and_false false = refl

and_true : (b : Bool) → b && true ≡ b
and_true true = refl
and_true false = refl

and_nor : (a b c : Bool) → (a && not b) && not c ≡ a && not (b || c)
and_nor true true c = refl
and_nor true false c = refl
and_nor false b c = refl

or_left : (a b : Bool) → a || b ≡ false → a ≡ false
or_left true b e = absurd cc
or_left false b e = refl

or_right : (a b : Bool) → a || b ≡ false → b ≡ false
or_right true b e = absurd cc
or_right false b e = e

-- ---- sets

cleared : (xs : List Bool) (g : ℕ) → has (set xs g false) g ≡ false
cleared [] g = refl
cleared (x ∷ xs) zero = refl
cleared (x ∷ xs) (suc g) = cleared xs g

cleared_same : (xs : List Bool) (g : ℕ) → has xs g ≡ false → set xs g false ≡ xs
cleared_same [] g e = refl
cleared_same (x ∷ xs) zero e = λ i. sym e i ∷ xs
cleared_same (x ∷ xs) (suc g) e = ap (λ (ys : List Bool). x ∷ ys) (cleared_same xs g e)

cleared_both : (xs : List Bool) (a b : ℕ) → set (set xs a false) b false ≡ set (set xs b false) a false
cleared_both [] a b = refl
cleared_both (x ∷ xs) zero zero = refl
cleared_both (x ∷ xs) zero (suc b) = refl
cleared_both (x ∷ xs) (suc a) zero = refl
cleared_both (x ∷ xs) (suc a) (suc b) = ap (λ (ys : List Bool). x ∷ ys) (cleared_both xs a b)

cleared_has : (xs : List Bool) (g y : ℕ) → has (set xs g false) y ≡ has xs y && not (g == y)
cleared_has xs g y =
    elim (cases_eq g y) [
      | inl e ↦ subst (λ (z : ℕ). has (set xs g false) z ≡ false) e (cleared xs g) ∙ (sym (and_false (has xs y)) ∙ ap (λ (b : Bool). has xs y && not b) (sym (eq-eqb g y e)))
      | inr n ↦ get_or-set_other xs g y false false (λ e. n (sym e)) ∙ (sym (and_true (has xs y)) ∙ ap (λ (b : Bool). has xs y && not b) (sym (ne_eqb g y n)))
    ]

-- ---- a row

abbrev row_of : Row → List Bool → Row
row_of row grains = record row { same = grains }

abbrev row_by : Bool → Row → ℕ → Row
row_by b row g = cond b (row_of row (set row.same g false)) row

-- its volumes stay
names_still : (v g u : ℕ) (row : Row) → row_names (row_wrote v g row) u ≡ row_names row u
names_still v g u row = by (row_names row v)
  where
    by : (b : Bool) → row_names (row_by b row g) u ≡ row_names row u
    by true = refl
    by false = refl

told_still : (v g : ℕ) (row : Row) (marks : List Mark) (grain : GrainNo) → is_told (row_wrote v g row) marks grain ≡ is_told row marks grain
told_still v g row marks grain = by (row_names row v)
  where
    by : (b : Bool) → is_told (row_by b row g) marks grain ≡ is_told row marks grain
    by true = refl
    by false = refl

wrote_has : (v g y : ℕ) (row : Row) → has (row_wrote v g row).same y ≡ has row.same y && not ((g == y) && row_names row v)
wrote_has v g y row = by (row_names row v)
  where
    by : (b : Bool) → has (row_by b row g).same y ≡ has row.same y && not ((g == y) && b)
    by true = cleared_has row.same g y ∙ ap (λ (z : Bool). has row.same y && not z) (sym (and_true (g == y)))
    by false = sym (and_true (has row.same y)) ∙ ap (λ (z : Bool). has row.same y && not z) (sym (and_false (g == y)))

-- a write that changes nothing
row_once : (v g : ℕ) (row : Row) → is_unmarked v g row ≡ false → row_wrote v g row ≡ row
row_once v g row e = by (row_names row v) e
  where
    by : (b : Bool) → b && has row.same g ≡ false → row_by b row g ≡ row
    by true q = ap (row_of row) (cleared_same row.same g q)
    by false q = refl

row_changed : (v g : ℕ) (row : Row) → is_unmarked v g (row_wrote v g row) ≡ false
row_changed v g row = by (row_names row v) refl
  where
    by : (b : Bool) → row_names row v ≡ b → is_unmarked v g (row_by b row g) ≡ false
    by true e = ap (λ (z : Bool). row_names row v && z) (cleared row.same g) ∙ and_false (row_names row v)
    by false e = ap (λ (z : Bool). z && has row.same g) e

-- two writes
row_both : (v g a b : ℕ) (row : Row) → row_wrote v g (row_wrote a b row) ≡ row_wrote a b (row_wrote v g row)
row_both v g a b row = by (row_names row v) (row_names row a) refl refl
  where
    by : (x y : Bool) → row_names row v ≡ x → row_names row a ≡ y → row_wrote v g (row_by y row b) ≡ row_wrote a b (row_by x row g)
    by true true ex ey =
        ap (λ (z : Bool). row_by z (row_of row (set row.same b false)) g) ex
        ∙ (ap (row_of row) (cleared_both row.same b g) ∙ sym (ap (λ (z : Bool). row_by z (row_of row (set row.same g false)) b) ey))
    by true false ex ey = ap (λ (z : Bool). row_by z row g) ex ∙ sym (ap (λ (z : Bool). row_by z (row_of row (set row.same g false)) b) ey)
    by false true ex ey = ap (λ (z : Bool). row_by z (row_of row (set row.same b false)) g) ex ∙ sym (ap (λ (z : Bool). row_by z row b) ey)
    by false false ex ey = ap (λ (z : Bool). row_by z row g) ex ∙ sym (ap (λ (z : Bool). row_by z row b) ey)

-- ---- all rows

abbrev pub wrote : ℕ → ℕ → List Row → List Row
wrote v g rows = map (row_wrote v g) rows

pub once : (v g : ℕ) (rows : List Row) → list_any (is_unmarked v g) rows ≡ false → wrote v g rows ≡ rows
once v g [] e = refl
once v g (row ∷ rows) e =
    let one : row_wrote v g row ≡ row = row_once v g row (or_left (is_unmarked v g row) (list_any (is_unmarked v g) rows) e) in
    let more : wrote v g rows ≡ rows = once v g rows (or_right (is_unmarked v g row) (list_any (is_unmarked v g) rows) e) in
    λ i. one i ∷ more i

pub changed : (v g : ℕ) (rows : List Row) → list_any (is_unmarked v g) (wrote v g rows) ≡ false
changed v g [] = refl
changed v g (row ∷ rows) = λ i. row_changed v g row i || changed v g rows i

rows_both : (v g a b : ℕ) (rows : List Row) → wrote v g (wrote a b rows) ≡ wrote a b (wrote v g rows)
rows_both v g a b [] = refl
rows_both v g a b (row ∷ rows) = λ i. row_both v g a b row i ∷ rows_both v g a b rows i

-- ---- marks

pub remembered : (marks : List Mark) (rows : List Row) (volume : VolId) (grain : GrainNo) →
    marked (marks ++ record { volume = volume; grain = grain } ∷ []) rows ≡ rows_kept (marked marks rows) (mark_at volume.0 grain.0)
remembered [] rows volume grain = refl
remembered (m ∷ marks) rows volume grain = remembered marks (mark_row rows m) volume grain

marked_wrote : (v g : ℕ) (marks : List Mark) (rows : List Row) → marked marks (wrote v g rows) ≡ wrote v g (marked marks rows)
marked_wrote v g [] rows = refl
marked_wrote v g (m ∷ marks) rows =
    ap (marked marks) (rows_both m.volume.0 m.grain.0 v g rows) ∙ marked_wrote v g marks (mark_row rows m)

abbrev others : VolId → GrainNo → List Mark → List Mark
others volume grain marks = filter (λ mark. not (is_at volume grain mark)) marks

same_mark : (volume : VolId) (grain : GrainNo) (m : Mark) (rows : List Row) → is_at volume grain m ≡ true → mark_row rows m ≡ wrote volume.0 grain.0 rows
same_mark volume grain m rows e =
    let p = and_parts (m.volume.0 == volume.0) (m.grain.0 == grain.0) e in
    let v : m.volume.0 ≡ volume.0 = eqb-true m.volume.0 volume.0 p.0 in
    let g : m.grain.0 ≡ grain.0 = eqb-true m.grain.0 grain.0 p.1 in
    λ i. wrote (v i) (g i) rows

by_mark : (volume : VolId) (grain : GrainNo) (m : Mark) (marks : List Mark) (rows : List Row) (b : Bool) → is_at volume grain m ≡ b → wrote volume.0 grain.0 rows ≡ rows →
    marked (others volume grain marks) rows ≡ marked marks rows → marked (others volume grain marks) (mark_row rows m) ≡ marked marks (mark_row rows m) →
    marked (cond (not b) (m ∷ others volume grain marks) (others volume grain marks)) rows ≡ marked marks (mark_row rows m)
by_mark volume grain m marks rows true t e without with_it = without ∙ ap (marked marks) (sym (same_mark volume grain m rows t ∙ e))
by_mark volume grain m marks rows false t e without with_it = with_it

forget_same : (volume : VolId) (grain : GrainNo) (marks : List Mark) (rows : List Row) → wrote volume.0 grain.0 rows ≡ rows → marked (others volume grain marks) rows ≡ marked marks rows
forget_same volume grain [] rows e = refl
forget_same volume grain (m ∷ marks) rows e =
    let more : marked (others volume grain marks) (mark_row rows m) ≡ marked marks (mark_row rows m) =
    forget_same volume grain marks (mark_row rows m) (rows_both volume.0 grain.0 m.volume.0 m.grain.0 rows ∙ ap (λ (z : List Row). mark_row z m) e) in
    by_mark volume grain m marks rows (is_at volume grain m) refl e (forget_same volume grain marks rows e) more

pub forgotten : (marks : List Mark) (rows : List Row) (volume : VolId) (grain : GrainNo) → after_note (marked marks rows) (Wrote volume.0 grain.0) ≡ marked marks rows →
    marked (others volume grain marks) (after_note rows (Wrote volume.0 grain.0)) ≡ marked marks rows
forgotten marks rows volume grain e =
    let v : ℕ = volume.0 in
    let g : ℕ = grain.0 in
    let all : marked marks (wrote v g rows) ≡ marked marks rows = marked_wrote v g marks rows ∙ e in
    forget_same volume grain marks (wrote v g rows) (wrote_twice v g rows) ∙ all
  where
    wrote_twice : (v g : ℕ) (rows : List Row) → wrote v g (wrote v g rows) ≡ wrote v g rows
    wrote_twice v g rows = once v g (wrote v g rows) (changed v g rows)

-- ---- as lanes see it

abbrev row_marked : List Mark → Row → Row
row_marked [] row = row
row_marked (m ∷ marks) row = row_marked marks (row_wrote m.volume.0 m.grain.0 row)

marked_none : (marks : List Mark) → marked marks [] ≡ []
marked_none [] = refl
marked_none (m ∷ marks) = marked_none marks

marked_first : (marks : List Mark) (row : Row) (rows : List Row) → marked marks (row ∷ rows) ≡ row_marked marks row ∷ marked marks rows
marked_first [] row rows = refl
marked_first (m ∷ marks) row rows = marked_first marks (row_wrote m.volume.0 m.grain.0 row) (mark_row rows m)

names_marked : (marks : List Mark) (row : Row) (v : ℕ) → row_names (row_marked marks row) v ≡ row_names row v
names_marked [] row v = refl
names_marked (m ∷ marks) row v = names_marked marks (row_wrote m.volume.0 m.grain.0 row) v ∙ names_still m.volume.0 m.grain.0 v row

has_marked : (marks : List Mark) (row : Row) (grain : GrainNo) → has (row_marked marks row).same grain.0 ≡ has row.same grain.0 && not (is_told row marks grain)
has_marked [] row grain = sym (and_true (has row.same grain.0))
has_marked (m ∷ marks) row grain =
    let v : ℕ = m.volume.0 in
    let g : ℕ = m.grain.0 in
    has_marked marks (row_wrote v g row) grain
    ∙ ((λ i. wrote_has v g grain.0 row i && not (told_still v g row marks grain i))
    ∙ and_nor (has row.same grain.0) ((g == grain.0) && row_names row v) (is_told row marks grain))

open_row : (l : LaneOf) → IsLane l → (marks : List Mark) (row : Row) (volume : VolId) (grain : GrainNo) → IsOf l grain.0 →
    is_open marks volume grain (place_of l grain.0) (part_of_row l row) ≡ is_unmarked volume.0 grain.0 (row_marked marks row)
open_row l lane marks row volume grain of =
    ap (λ (z : Bool). row_names row volume.0 && (z && not (is_told row marks grain))) (part_at_grain l lane false row.same grain.0 false of)
    ∙ (λ i. sym (names_marked marks row volume.0) i && sym (has_marked marks row grain) i)

pub wanted : (l : LaneOf) (marks : List Mark) (rows : List Row) (volume : VolId) (grain : GrainNo) → l.lane < l.lanes → grain.0 % l.lanes ≡ l.lane →
    is_open_any (part_of_rows l rows) marks volume grain (place_of l grain.0) ≡ list_any (is_unmarked volume.0 grain.0) (marked marks rows)
wanted l marks [] volume grain lane of = ap (list_any (is_unmarked volume.0 grain.0)) (sym (marked_none marks))
wanted l marks (row ∷ rows) volume grain lane of =
    (λ i. open_row l lane marks row volume grain of i || wanted l marks rows volume grain lane of i)
    ∙ ap (list_any (is_unmarked volume.0 grain.0)) (sym (marked_first marks row rows))
