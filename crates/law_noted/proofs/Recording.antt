-- How records go on.
use Rattle.std.proofs.Common.{◌≡◌, ℕ, ◌+◌, ◌==◌, ◌&&◌, not, cond, List, [], ◌∷◌, ◌++◌, length, Option, Some, None, refl, sym, ap, subst, ◌∙◌, inl, length-append}
use Rattle.std.specs.List.{AllZip}
use Rattle.std.proofs.lemmas.List.{append_assoc, append-nil}
use Rattle.fc_base.specs.declared.request.Move.{Move}
use Rattle.fc_base.specs.declared.request.Request.{Request}
use Rattle.fc_base.specs.declared.size.GrainSize.{GrainSize}
use Rattle.fc_changed.specs.Row.{Row}
use Rattle.fc_image.specs.declared.record.MetaRecord.{MetaRecord}
use Rattle.fc_image.specs.declared.record.MetaRecord.TheVariants.{Pair, Torn as TornRecord}
use Rattle.fc_kept.specs.Actions.{Action, Action.Data, Action.Note}
use Rattle.fc_kept.specs.Disks.{NamedDisk}
use Rattle.fc_kept.specs.Recoverable.{disks_at}
use Rattle.fc_legal.specs.Whole.{Whole}
use Rattle.fc_rules.specs.Steps.{DiskStep}
use Rattle.fc_steps.specs.declared.stop.Stop.{Stop}
use Rattle.fc_steps.specs.declared.stop.Stop.TheVariants.{Failed}
use Rattle.law_agreeing.specs.Coming.{chains_by}
use Rattle.law_crash.specs.Doing.{Did, IsWritten, SameDisk, actions_by_move, actions_of_step, actions_of_steps, noted, number_of}
use Rattle.law_crash.specs.Points.{Point, on_disks}
use Rattle.law_noted.specs.Advancing.{IsNext, RecordLaw, uncopied}
use Rattle.law_noted.specs.Came.{Came, Came.behind, Came.marked, Came.waits, Came.stopped, Came.tears}
use Rattle.law_noted.proofs.Acting.{actions_both, did_both, did_note}
use Rattle.law_noted.proofs.Nexts.{head_is, here}

-- ---- disks that stay

pub all_same : (ds : List NamedDisk) → AllZip SameDisk ds ds
all_same [] = tt
all_same (d ∷ ds) = (record { volume = refl; kind = refl; grains = refl }, all_same ds)

pub written_same : (grain : GrainSize) (w : Whole) (v g : ℕ) (disks : List (List NamedDisk)) → IsWritten grain w v g (on_disks grain w disks v g) disks disks
written_same grain w v g disks =
    record { count = refl; same = λ i. all_same (disks_at disks i); stored = record { here = refl; elsewhere = λ u y ne. refl } }

-- ---- one step more

pub one_more : (grain : GrainSize) (w : Whole) (r : Request) (rows : List Row) (steps : List DiskStep) (p : Point) (front back : List DiskStep) (step : DiskStep) (q : Point) → steps ≡ front ++ step ∷ back →
    Did grain w r w.books.sheet (actions_of_steps rows (number_of grain r) front ++ actions_of_step rows (number_of grain r) step) p q →
    Came grain w r rows steps p (length front + 1) None None q
one_more grain w r rows steps p front back step q split did =
    let g : ℕ = number_of grain r in
    let all : actions_of_steps rows g (front ++ step ∷ []) ≡ actions_of_steps rows g front ++ actions_of_step rows g step =
    actions_both rows g front (step ∷ []) ∙ ap (λ (z : List Action). actions_of_steps rows g front ++ z) (append-nil (actions_of_step rows g step)) in
    subst (λ (n : ℕ). Came grain w r rows steps p n None None q) (length-append front (step ∷ []))
    (behind (front ++ step ∷ []) back q (split ∙ sym (append_assoc front (step ∷ []) back)) (subst (λ (z : List Action). Did grain w r w.books.sheet z p q) (sym all) did))

-- ---- a record that is due

pub due : (grain : GrainSize) (w : Whole) (r : Request) (rows : List Row) (steps : List DiskStep) (p : Point) (n : ℕ) (stop : Option Stop) (x : MetaRecord) (q : Point) →
    Came grain w r rows steps p n stop (Some x) q → Came grain w r rows steps p n stop None (noted x q)
due grain w r rows steps p n stop x q (waits front back step first y z split some acts did) =
    let A : List Action = actions_of_steps rows (number_of grain r) front in
    let all : (A ++ first) ++ Note y ∷ [] ≡ A ++ actions_of_step rows (number_of grain r) step =
    append_assoc A first (Note y ∷ []) ∙ ap (λ (xs : List Action). A ++ xs) (sym acts) in
    one_more grain w r rows steps p front back step (noted y z) split
    (subst (λ (xs : List Action). Did grain w r w.books.sheet xs p (noted y z)) all
    (did_both grain w r w.books.sheet (A ++ first) (Note y ∷ []) p z (noted y z) did (did_note grain w r (chains_by w.books.sheet (A ++ first)) y z)))
due grain w r rows steps p n stop x q (tears front back step torn begun z split some is did marks) =
    stopped front back step (Failed (Some torn)) (noted (TornRecord torn.volume torn.grain torn.side) z) split record {
      begun = begun;
      marked = z;
      did = did;
      marks = marks;
      tears = (is, some, on_disks grain w z.disks step.volume (number_of grain r), z.disks, written_same grain w step.volume (number_of grain r) z.disks, z.kept, inl refl, refl);
    }

-- ---- a move that copies nothing

alone_by : (step : DiskStep) (m : Move) (calls : ℕ) → calls ≡ 0 →
    cond (calls == 0) [] (Data step ∷ []) ++ Note (Pair m.slot m.volume m.grain m.in_place ((calls == 0) && not m.in_place)) ∷ [] ≡ Note (uncopied m) ∷ []
alone_by step m calls e =
    ap (λ (c : ℕ). cond (c == 0) [] (Data step ∷ []) ++ Note (Pair m.slot m.volume m.grain m.in_place ((c == 0) && not m.in_place)) ∷ []) e

pub alone : (rows : List Row) (g : ℕ) (step : DiskStep) (m : Move) → step.move ≡ Some m → step.calls ≡ 0 → actions_of_step rows g step ≡ Note (uncopied m) ∷ []
alone rows g step m e none = ap (λ (o : Option Move). actions_by_move rows g step o) e ∙ alone_by step m step.calls none

pub uncopied_put : (grain : GrainSize) (w : Whole) (r : Request) (rows : List Row) (steps : List DiskStep) (p : Point) (n : ℕ) (step : DiskStep) (m : Move) (q : Point) →
    IsNext steps n step → step.move ≡ Some m → step.calls ≡ 0 → Came grain w r rows steps p n None None q →
    Came grain w r rows steps p (n + 1) None None (noted (uncopied m) q)
uncopied_put grain w r rows steps p n step m q next move none (behind front back z split did) =
    let g : ℕ = number_of grain r in
    let at = here steps front back (length front) step split refl next in
    let A : List Action = actions_of_steps rows g front in
    one_more grain w r rows steps p front next.back step (noted (uncopied m) z) (split ∙ ap (λ (b : List DiskStep). front ++ b) at.1)
    (subst (λ (xs : List Action). Did grain w r w.books.sheet (A ++ xs) p (noted (uncopied m) z)) (sym (alone rows g step m move none))
    (did_both grain w r w.books.sheet A (Note (uncopied m) ∷ []) p z (noted (uncopied m) z) did (did_note grain w r (chains_by w.books.sheet A) (uncopied m) z)))
uncopied_put grain w r rows steps p n step m q next move none (marked front own z split own_is did) =
    let at = here steps front (own ∷ []) (length front) step split refl next in
    let same : own ≡ step = head_is own step [] next.back at.1 in
    absurd (let f : Some m ≡ None = sym move ∙ (ap (λ (s : DiskStep). s.move) (sym same) ∙ own_is) in cc)

pub record_law_holds : RecordLaw
record_law_holds = record { due = due; uncopied = uncopied_put }
