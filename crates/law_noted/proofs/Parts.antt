-- The actions of an entry, before a step and from it on.
use Rattle.std.proofs.Common.{◌≡◌, ℕ, ◌≤◌, ◌==◌, ◌&&◌, not, Bool, true, false, cond, List, [], ◌∷◌, ◌++◌, fold, Option, Some, None, refl, sym, ap, subst, ◌∙◌, arith}
use Rattle.std.specs.List.{list_any}
use Rattle.std.proofs.lemmas.Bool.{ne_eqb}
use Rattle.std.proofs.lemmas.List.{append_assoc}
use Rattle.fc_base.specs.Sheet.{Sheet}
use Rattle.fc_base.specs.SheetStep.{sheet_moved}
use Rattle.fc_base.specs.declared.request.Move.{Move}
use Rattle.fc_base.specs.declared.request.Request.{Request}
use Rattle.fc_base.specs.declared.size.GrainSize.{GrainSize}
use Rattle.fc_changed.specs.Row.{Row}
use Rattle.fc_image.specs.declared.record.MetaRecord.{MetaRecord}
use Rattle.fc_image.specs.declared.record.MetaRecord.TheVariants.{Written}
use Rattle.fc_kept.specs.Actions.{Action, Action.Data, Action.Note, Action.Fold, actions_of_move, is_unmarked, mark_of, record_of_move}
use Rattle.fc_kept.specs.Kept.{sheet_kept}
use Rattle.fc_kept.specs.Prefix.{AreStepsOf}
use Rattle.fc_legal.specs.Whole.{Whole, single_lane}
use Rattle.fc_parts.proofs.Numbers.{all_place}
use Rattle.fc_rules.specs.LaneTold.{sheet_move}
use Rattle.fc_rules.specs.Steps.{DiskStep, moves_of}
use Rattle.law_agreeing.specs.Coming.{ArePaired, chains_by}
use Rattle.law_crash.specs.Doing.{Did, actions_by_move, actions_of_step, actions_of_steps, chains_behind, marks_by_move, number_of}
use Rattle.law_crash.specs.Points.{Point}
use Rattle.law_noted.specs.Advancing.{mark_at}
use Rattle.law_noted.proofs.Acting.{actions_both, did_both}
use Rattle.law_noted.proofs.Losing.{KeepsWhole, copied_whole, written_whole}
use Rattle.law_noted.proofs.Nexts.{AreMoving, front_moves}

-- ---- records stand behind data

both_paired : (xs ys : List Action) → ArePaired xs → ArePaired ys → ArePaired (xs ++ ys)
both_paired [] ys a b = b
both_paired (Note r ∷ xs) ys a b = both_paired xs ys a b
both_paired (Fold ∷ xs) ys a b = absurd a
both_paired (Data step ∷ []) ys a b = absurd a
both_paired (Data step ∷ Note r ∷ xs) ys a b = both_paired xs ys a b
both_paired (Data step ∷ Data other ∷ xs) ys a b = absurd a
both_paired (Data step ∷ Fold ∷ xs) ys a b = absurd a

mark_paired : (v g : ℕ) (b : Bool) → ArePaired (cond b (Note (mark_at v g) ∷ []) [])
mark_paired v g true = tt
mark_paired v g false = tt

data_paired : (step : DiskStep) (m : Move) (b : Bool) → ArePaired (cond b [] (Data step ∷ []) ++ Note (record_of_move step m) ∷ [])
data_paired step m true = tt
data_paired step m false = tt

step_paired : (rows : List Row) (g : ℕ) (step : DiskStep) (o : Option Move) → ArePaired (actions_by_move rows g step o)
step_paired rows g step None =
    both_paired (mark_of rows step.volume g) (Data step ∷ Note (Written record { 0 = step.volume } record { 0 = g }) ∷ []) (mark_paired step.volume g (list_any (is_unmarked step.volume g) rows)) tt
step_paired rows g step (Some m) = data_paired step m (step.calls == 0)

pub steps_paired : (rows : List Row) (g : ℕ) (steps : List DiskStep) → ArePaired (actions_of_steps rows g steps)
steps_paired rows g [] = tt
steps_paired rows g (s ∷ steps) = both_paired (actions_of_step rows g s) (actions_of_steps rows g steps) (step_paired rows g s s.move) (steps_paired rows g steps)

marks_paired : (rows : List Row) (g : ℕ) (step : DiskStep) (o : Option Move) → ArePaired (marks_by_move rows g step o)
marks_paired rows g step None = mark_paired step.volume g (list_any (is_unmarked step.volume g) rows)
marks_paired rows g step (Some m) = tt

pub front_paired : (rows : List Row) (g : ℕ) (front : List DiskStep) (step : DiskStep) → ArePaired (actions_of_steps rows g front ++ marks_by_move rows g step step.move)
front_paired rows g front step =
    both_paired (actions_of_steps rows g front) (marks_by_move rows g step step.move) (steps_paired rows g front) (marks_paired rows g step step.move)

-- ---- the chains behind moves

both_chains : (chains : Sheet) (xs ys : List Action) → chains_by chains (xs ++ ys) ≡ chains_by (chains_by chains xs) ys
both_chains chains [] ys = refl
both_chains chains (Note r ∷ xs) ys = both_chains (sheet_kept chains r) xs ys
both_chains chains (Data step ∷ xs) ys = both_chains chains xs ys
both_chains chains (Fold ∷ xs) ys = both_chains chains xs ys

data_chains : (chains : Sheet) (step : DiskStep) (m : Move) (b : Bool) →
    chains_by chains (cond b [] (Data step ∷ []) ++ Note (record_of_move step m) ∷ []) ≡ sheet_moved m.volume.0 m.grain.0 m.in_place chains
data_chains chains step m true = refl
data_chains chains step m false = refl

move_chains : (grain : GrainSize) (rows : List Row) (g : ℕ) (chains : Sheet) (step : DiskStep) (m : Move) → step.move ≡ Some m →
    chains_by chains (actions_of_step rows g step) ≡ sheet_move (single_lane grain) chains m
move_chains grain rows g chains step m e =
    ap (λ (o : Option Move). chains_by chains (actions_by_move rows g step o)) e
    ∙ (data_chains chains step m (step.calls == 0) ∙ ap (λ (y : ℕ). sheet_moved m.volume.0 y m.in_place chains) (sym (all_place grain m.grain.0)))

pub moves_first : (s : DiskStep) (steps : List DiskStep) (m : Move) → s.move ≡ Some m → moves_of (s ∷ steps) ≡ m ∷ moves_of steps
moves_first s steps m e = ap (λ (o : Option Move). moves_of ((record s { move = o }) ∷ steps)) e

moves_chains : (grain : GrainSize) (rows : List Row) (g : ℕ) (steps : List DiskStep) → AreMoving steps → (chains : Sheet) →
    chains_by chains (actions_of_steps rows g steps) ≡ fold (sheet_move (single_lane grain)) chains (moves_of steps)
moves_chains grain rows g [] are chains = refl
moves_chains grain rows g (s ∷ steps) are chains =
    let m : Move = are.0.0 in
    let A : List Action = actions_of_steps rows g steps in
    both_chains chains (actions_of_step rows g s) A
    ∙ (ap (λ (c : Sheet). chains_by c A) (move_chains grain rows g chains s m are.0.1)
    ∙ (moves_chains grain rows g steps are.1 (sheet_move (single_lane grain) chains m) ∙ sym (ap (fold (sheet_move (single_lane grain)) chains) (moves_first s steps m are.0.1))))

-- what was done up to a step, and its mark
pub did_marks : (grain : GrainSize) (w : Whole) (r : Request) (rows : List Row) (steps front back : List DiskStep) (step : DiskStep) (p begun q : Point) → AreStepsOf grain w r steps → steps ≡ front ++ step ∷ back →
    Did grain w r w.books.sheet (actions_of_steps rows (number_of grain r) front) p begun →
    Did grain w r (chains_behind grain w front) (marks_by_move rows (number_of grain r) step step.move) begun q →
    Did grain w r w.books.sheet (actions_of_steps rows (number_of grain r) front ++ marks_by_move rows (number_of grain r) step step.move) p q
did_marks grain w r rows steps front back step p begun q are split did marks =
    let g : ℕ = number_of grain r in
    let A : List Action = actions_of_steps rows g front in
    let M : List Action = marks_by_move rows g step step.move in
    let same : chains_by w.books.sheet A ≡ chains_behind grain w front = moves_chains grain rows g front (front_moves grain w r steps front back step are split) w.books.sheet in
    did_both grain w r w.books.sheet A M p begun q did (subst (λ (c : Sheet). Did grain w r c M begun q) (sym same) marks)

-- ---- from a step on

abbrev pub FromStep : List Row → ℕ → DiskStep → Option Move → List Action → Type 0
FromStep rows g step o rest = actions_by_move rows g step o ≡ marks_by_move rows g step o ++ rest

-- behind its mark come its data, if it has calls, and its record, which leaves no other grain lost
pub record IsDataStep (rows : List Row) (g : ℕ) (step : DiskStep) (o : Option Move) : Type 0 where
  pub note : MetaRecord
  pub actions : FromStep rows g step o (Data step ∷ Note note ∷ [])
  pub whole : KeepsWhole note

pub data_step : (rows : List Row) (g : ℕ) (step : DiskStep) (o : Option Move) → 1 ≤ step.calls → IsDataStep rows g step o
data_step rows g step None some =
    record { note = Written record { 0 = step.volume } record { 0 = g }; actions = refl; whole = written_whole step.volume g }
data_step rows g step (Some m) some =
    let none : (step.calls == 0) ≡ false = ne_eqb step.calls 0 (λ q. omega (arith, q, some)) in
    record {
      note = record_of_move step m;
      actions = ap (λ (b : Bool). cond b [] (Data step ∷ []) ++ Note (record_of_move step m) ∷ []) none;
      whole = copied_whole m ((step.calls == 0) && not m.in_place) (ap (λ (b : Bool). b && not m.in_place) none);
    }

pub any_step : (rows : List Row) (g : ℕ) (step : DiskStep) (o : Option Move) → (rest : List Action) × FromStep rows g step o rest
any_step rows g step None = (Data step ∷ Note (Written record { 0 = step.volume } record { 0 = g }) ∷ [], refl)
any_step rows g step (Some m) = (actions_of_move step m, refl)

-- all actions, in two parts
pub in_parts : (rows : List Row) (g : ℕ) (steps front back : List DiskStep) (step : DiskStep) (rest : List Action) → steps ≡ front ++ step ∷ back → FromStep rows g step step.move rest →
    actions_of_steps rows g steps ≡ (actions_of_steps rows g front ++ marks_by_move rows g step step.move) ++ (rest ++ actions_of_steps rows g back)
in_parts rows g steps front back step rest split e =
    let A : List Action = actions_of_steps rows g front in
    let B : List Action = actions_of_steps rows g back in
    let M : List Action = marks_by_move rows g step step.move in
    ap (actions_of_steps rows g) split
    ∙ (actions_both rows g front (step ∷ back)
    ∙ (ap (λ (xs : List Action). A ++ xs) (ap (λ (xs : List Action). xs ++ B) e ∙ append_assoc M rest B) ∙ sym (append_assoc A M (rest ++ B))))
