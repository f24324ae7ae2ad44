-- Actions that were done, one behind the other.
use Rattle.std.proofs.Common.{◌≡◌, ℕ, ◌==◌, Bool, true, false, cond, List, [], ◌∷◌, ◌++◌, Option, Some, refl, sym, ap, subst, ◌∙◌, inl}
use Rattle.std.proofs.lemmas.Grind.{flat_map-append}
use Rattle.fc_base.specs.Sheet.{Sheet}
use Rattle.fc_base.specs.declared.request.Move.{Move}
use Rattle.fc_base.specs.declared.request.Request.{Request}
use Rattle.fc_base.specs.declared.size.GrainSize.{GrainSize}
use Rattle.fc_changed.specs.Row.{Row}
use Rattle.fc_image.specs.declared.record.MetaRecord.{MetaRecord}
use Rattle.fc_image.specs.declared.record.MetaRecord.TheVariants.{Pair, Written, Torn, Changing}
use Rattle.fc_kept.specs.Actions.{Action, Action.Data, Action.Note, Action.Fold, record_of_move}
use Rattle.fc_kept.specs.Kept.{rows_kept, sheet_kept}
use Rattle.fc_legal.specs.Whole.{Whole}
use Rattle.fc_rules.specs.Steps.{DiskStep}
use Rattle.law_agreeing.specs.Coming.{chains_by}
use Rattle.law_crash.specs.Doing.{Did, actions_by_move, actions_of_step, actions_of_steps, noted, with_disks, with_kept}
use Rattle.law_crash.specs.Points.{Point}
use Rattle.law_crash.proofs.Folding.{fold_rows}

-- ---- in two parts

pub did_both : (grain : GrainSize) (w : Whole) (r : Request) (chains : Sheet) (front back : List Action) (p x q : Point) → Did grain w r chains front p x → Did grain w r (chains_by chains front) back x q →
    Did grain w r chains (front ++ back) p q
did_both grain w r chains [] back p x q a b = subst (λ (z : Point). Did grain w r chains back z q) a b
did_both grain w r chains (Data step ∷ front) back p x q a b = (a.0, a.1, did_both grain w r chains front back (with_disks a.0 p) x q a.2 b)
did_both grain w r chains (Note n ∷ front) back p x q a b =
    (a.0, a.1, did_both grain w r (sheet_kept chains n) front back (noted n (with_kept a.0 p)) x q a.2 b)
did_both grain w r chains (Fold ∷ front) back p x q a b = absurd a

pub record Halves (grain : GrainSize) (w : Whole) (r : Request) (chains : Sheet) (front back : List Action) (p q : Point) : Type 0 where
  pub between : Point
  pub first : Did grain w r chains front p between
  pub rest : Did grain w r (chains_by chains front) back between q

pub halves : (grain : GrainSize) (w : Whole) (r : Request) (chains : Sheet) (front back : List Action) (p q : Point) → Did grain w r chains (front ++ back) p q → Halves grain w r chains front back p q
halves grain w r chains [] back p q d = record { between = p; first = refl; rest = d }
halves grain w r chains (Data step ∷ front) back p q d =
    let h = halves grain w r chains front back (with_disks d.0 p) q d.2 in
    record { between = h.between; first = (d.0, d.1, h.first); rest = h.rest }
halves grain w r chains (Note n ∷ front) back p q d =
    let h = halves grain w r (sheet_kept chains n) front back (noted n (with_kept d.0 p)) q d.2 in
    record { between = h.between; first = (d.0, d.1, h.first); rest = h.rest }
halves grain w r chains (Fold ∷ front) back p q d = absurd d

-- a record alone, before which nothing is folded
pub did_note : (grain : GrainSize) (w : Whole) (r : Request) (chains : Sheet) (n : MetaRecord) (q : Point) → Did grain w r chains (Note n ∷ []) q (noted n q)
did_note grain w r chains n q = (q.kept, inl refl, refl)

pub note_rows : (grain : GrainSize) (w : Whole) (r : Request) (chains : Sheet) (n : MetaRecord) (p q : Point) → Did grain w r chains (Note n ∷ []) p q → q.kept.rows ≡ rows_kept p.kept.rows n
note_rows grain w r chains n p q d =
    ap (λ (z : Point). z.kept.rows) d.2 ∙ ap (λ (rows : List Row). rows_kept rows n) (fold_rows chains p.kept d.0 d.1)

pub data_rows : (grain : GrainSize) (w : Whole) (r : Request) (chains : Sheet) (step : DiskStep) (p q : Point) → Did grain w r chains (Data step ∷ []) p q → q.kept.rows ≡ p.kept.rows
data_rows grain w r chains step p q d = ap (λ (z : Point). z.kept.rows) d.2

-- ---- of steps

pub actions_both : (rows : List Row) (g : ℕ) (front back : List DiskStep) → actions_of_steps rows g (front ++ back) ≡ actions_of_steps rows g front ++ actions_of_steps rows g back
actions_both rows g front back = flat_map-append (actions_of_step rows g) front back

-- ---- moves leave rows

abbrev pub LeaveRows : List Action → Type 0
LeaveRows [] = Unit {0}
LeaveRows (Data step ∷ rest) = LeaveRows rest
LeaveRows (Note (Pair slot volume grain in_place empty) ∷ rest) = LeaveRows rest
LeaveRows actions = ⊥

pub rows_left : (grain : GrainSize) (w : Whole) (r : Request) (chains : Sheet) (actions : List Action) (p q : Point) → LeaveRows actions → Did grain w r chains actions p q → q.kept.rows ≡ p.kept.rows
rows_left grain w r chains [] p q l d = ap (λ (z : Point). z.kept.rows) d
rows_left grain w r chains (Data step ∷ rest) p q l d = rows_left grain w r chains rest (with_disks d.0 p) q l d.2
rows_left grain w r chains (Note (Pair slot volume number in_place empty) ∷ rest) p q l d =
    let n : MetaRecord = Pair slot volume number in_place empty in
    rows_left grain w r (sheet_kept chains n) rest (noted n (with_kept d.0 p)) q l d.2 ∙ fold_rows chains p.kept d.0 d.1
rows_left grain w r chains (Note (Written volume number) ∷ rest) p q l d = absurd l
rows_left grain w r chains (Note (Torn volume number side) ∷ rest) p q l d = absurd l
rows_left grain w r chains (Note (Changing volume number) ∷ rest) p q l d = absurd l
rows_left grain w r chains (Fold ∷ rest) p q l d = absurd l

pub both_leave : (xs ys : List Action) → LeaveRows xs → LeaveRows ys → LeaveRows (xs ++ ys)
both_leave [] ys a b = b
both_leave (Data step ∷ xs) ys a b = both_leave xs ys a b
both_leave (Note (Pair slot volume number in_place empty) ∷ xs) ys a b = both_leave xs ys a b
both_leave (Note (Written volume number) ∷ xs) ys a b = absurd a
both_leave (Note (Torn volume number side) ∷ xs) ys a b = absurd a
both_leave (Note (Changing volume number) ∷ xs) ys a b = absurd a
both_leave (Fold ∷ xs) ys a b = absurd a

data_leaves : (step : DiskStep) (m : Move) (none : Bool) → LeaveRows (cond none [] (Data step ∷ []) ++ Note (record_of_move step m) ∷ [])
data_leaves step m true = tt
data_leaves step m false = tt

pub move_leaves : (rows : List Row) (g : ℕ) (step : DiskStep) (m : Move) → step.move ≡ Some m → LeaveRows (actions_of_step rows g step)
move_leaves rows g step m e =
    subst (λ (o : Option Move). LeaveRows (actions_by_move rows g step o)) (sym e) (data_leaves step m (step.calls == 0))
