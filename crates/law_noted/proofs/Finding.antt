-- Whatever stands at a moment of an entry may be recovered, with whatever disks agree.
use Rattle.std.proofs.Common.{◌≡◌, ℕ, ◌<◌, ◌≤◌, false, List, [], ◌∷◌, ◌++◌, Option, Some, None, refl, sym, ap, subst, ◌∙◌}
use Rattle.std.proofs.lemmas.List.{append_assoc}
use Rattle.fc_base.specs.Sheet.{Sheet}
use Rattle.fc_base.specs.declared.ids.VolId.{VolId}
use Rattle.fc_base.specs.declared.request.Request.{Request}
use Rattle.fc_base.specs.declared.request.Request.TheVariants.{Write, Copy, Clean}
use Rattle.fc_base.specs.declared.request.Torn.{Torn}
use Rattle.fc_base.specs.declared.size.GrainSize.{GrainSize}
use Rattle.fc_changed.specs.Row.{Row}
use Rattle.fc_entry.specs.Picture.{Content, Bytes}
use Rattle.fc_image.specs.declared.record.MetaRecord.{MetaRecord}
use Rattle.fc_image.specs.declared.record.MetaRecord.TheVariants.{Torn as TornRecord}
use Rattle.fc_kept.specs.Actions.{Action, Action.Data, Action.Note, Action.Fold, mark_of}
use Rattle.fc_kept.specs.Disks.{NamedDisk, disk_of, on_disk}
use Rattle.fc_kept.specs.Images.{size_in}
use Rattle.fc_kept.specs.Kept.{is_lost_in, kept_after, sheet_kept}
use Rattle.fc_kept.specs.OneGrain.{Another}
use Rattle.fc_kept.specs.Recoverable.{Recoverable, disks_at}
use Rattle.fc_legal.specs.Whole.{Whole, lane_at, lane_of_grain, lanes}
use Rattle.fc_rules.specs.LaneTold.{LaneOf, place_of}
use Rattle.fc_rules.specs.Steps.{DiskStep}
use Rattle.fc_steps.specs.StepsEnd.{torn_in}
use Rattle.fc_steps.specs.declared.stop.Stop.{Stop}
use Rattle.fc_steps.specs.declared.stop.Stop.TheVariants.{Failed}
use Rattle.law_agreeing.specs.Agreeing.{AllAgree}
use Rattle.law_agreeing.specs.Coming.{ArePaired, chains_by, one_of}
use Rattle.law_agreeing.proofs.Coming.{coming_law_holds}
use Rattle.law_agreeing.proofs.Putting.{puts}
use Rattle.law_agreeing.proofs.Recovering.{recovers_agreeing}
use Rattle.law_crash.specs.Doing.{Did, Finds, Stopped, StepWrites, Tears, actions_of_step, actions_of_steps, chains_behind, content_of, marks_by_move, noted, number_of, with_disks, with_kept}
use Rattle.law_crash.specs.Law.{Begins}
use Rattle.law_crash.specs.Leaving.{HaveTheirDisks}
use Rattle.law_crash.specs.Points.{Point}
use Rattle.law_crash.proofs.Doable.{fill_doable, write_doable}
use Rattle.law_crash.proofs.Fitting.{fits_now}
use Rattle.law_crash.proofs.Lawful.{all_found, clean_of, copy_of}
use Rattle.law_crash.proofs.Writing.{AreDoable, Disked, disked_still, split_doable}
use Rattle.law_noted.specs.Advancing.{HasTorn, StopLaw}
use Rattle.law_noted.specs.Came.{Came, Came.behind, Came.marked, Came.waits, Came.stopped, Came.tears}
use Rattle.law_noted.specs.One.{IsSafe}
use Rattle.law_noted.proofs.Acting.{Halves, actions_both, halves}
use Rattle.law_noted.proofs.Losing.{agree_fewer, marked_agree, put_agree, uncopied_agree}
use Rattle.law_noted.proofs.Marking.{note_is}
use Rattle.law_noted.proofs.Nexts.{same_end}
use Rattle.law_noted.proofs.OldOrNew.{among_steps, is_new, is_old, is_torn}
use Rattle.law_noted.proofs.Parts.{IsDataStep, any_step, data_step, did_marks, front_paired, in_parts, steps_paired}
use Rattle.law_noted.proofs.Tearing.{torn_found}

-- ---- between actions

-- what is found of the actions behind those that were done
found_behind : (grain : GrainSize) (w : Whole) (least : List Row) (r : Request) (steps : List DiskStep) (p x z : Point) (front back : List Action) (one : Option Another) → Begins grain w least r steps p →
    actions_of_steps p.kept.rows (number_of grain r) steps ≡ front ++ back → ArePaired front → Did grain w r w.books.sheet front p x → Finds grain w r (chains_by w.books.sheet front) back x one z →
    Recoverable grain z.disks z.kept w least (Some r) one
found_behind grain w least r steps p x z front back one b parts paired did finds =
    all_found grain w least r steps p z one b
    (subst (λ (xs : List Action). Finds grain w r w.books.sheet xs p one z) (sym parts) (coming_law_holds.behind grain w r w.books.sheet front back p x one z paired did finds))

found_now : (grain : GrainSize) (w : Whole) (least : List Row) (r : Request) (steps : List DiskStep) (p q : Point) (front back : List Action) → Begins grain w least r steps p →
    actions_of_steps p.kept.rows (number_of grain r) steps ≡ front ++ back → ArePaired front → Did grain w r w.books.sheet front p q → Recoverable grain q.disks q.kept w least (Some r) None
found_now grain w least r steps p q front back b parts paired did =
    found_behind grain w least r steps p q q front back None b parts paired did (coming_law_holds.now grain w r (chains_by w.books.sheet front) back q)

-- before a step, behind its mark
found_before : (grain : GrainSize) (w : Whole) (least : List Row) (r : Request) (steps front back : List DiskStep) (step : DiskStep) (p q : Point) → Begins grain w least r steps p → steps ≡ front ++ step ∷ back →
    Did grain w r w.books.sheet (actions_of_steps p.kept.rows (number_of grain r) front ++ marks_by_move p.kept.rows (number_of grain r) step step.move) p q →
    Recoverable grain q.disks q.kept w least (Some r) None
found_before grain w least r steps front back step p q b split did =
    let g : ℕ = number_of grain r in
    let rows : List Row = p.kept.rows in
    let any = any_step rows g step step.move in
    found_now grain w least r steps p q (actions_of_steps rows g front ++ marks_by_move rows g step step.move) (any.0 ++ actions_of_steps rows g back) b
    (in_parts rows g steps front back step any.0 split any.1) (front_paired rows g front step) did

-- a step stopped
found_stopped : (grain : GrainSize) (w : Whole) (least : List Row) (r : Request) (steps front back : List DiskStep) (step : DiskStep) (torn : Option Torn) (p q : Point) → Begins grain w least r steps p → steps ≡ front ++ step ∷ back →
    Stopped grain w r p.kept.rows front step torn p q → Recoverable grain q.disks q.kept w least (Some r) None
found_stopped grain w least r steps front back step None p q b split x =
    let there : Recoverable grain x.marked.disks x.marked.kept w least (Some r) None =
    found_before grain w least r steps front back step p x.marked b split (did_marks grain w r p.kept.rows steps front back step p x.begun x.marked b.steps_are split x.did x.marks) in
    subst (λ (z : Point). Recoverable grain z.disks z.kept w least (Some r) None) (sym x.tears) there
found_stopped grain w least r steps front back step (Some torn) p q b split x = torn_found grain w least r steps front back step torn p q b split x

found_at : (grain : GrainSize) (w : Whole) (least : List Row) (r : Request) (steps : List DiskStep) (p : Point) (n : ℕ) (stop : Option Stop) (q : Point) → Begins grain w least r steps p → Came grain w r p.kept.rows steps p n stop None q →
    Recoverable grain q.disks q.kept w least (Some r) None
found_at grain w least r steps p n stop q b (behind front back z split did) =
    let g : ℕ = number_of grain r in
    let rows : List Row = p.kept.rows in
    found_now grain w least r steps p z (actions_of_steps rows g front) (actions_of_steps rows g back) b (ap (actions_of_steps rows g) split ∙ actions_both rows g front back) (steps_paired rows g front) did
found_at grain w least r steps p n stop q b (marked front own z split is_own did) =
    let g : ℕ = number_of grain r in
    let rows : List Row = p.kept.rows in
    found_before grain w least r steps front [] own p z b split
    (subst (λ (xs : List Action). Did grain w r w.books.sheet (actions_of_steps rows g front ++ xs) p z) (sym (ap (marks_by_move rows g own) is_own)) did)
found_at grain w least r steps p n stop q b (stopped front back step why z split x) = found_stopped grain w least r steps front back step (torn_in (Some why)) p z b split x

rests : (grain : GrainSize) (w : Whole) (least : List Row) (r : Request) (steps : List DiskStep) (p : Point) (n : ℕ) (stop : Option Stop) (q : Point) (back : List (List NamedDisk)) →
    Begins grain w least r steps p → Came grain w r p.kept.rows steps p n stop None q → AllAgree grain q.kept q.disks back → IsSafe grain back q.kept w least (Some r) (HasTorn stop)
rests grain w least r steps p n stop q back b came a =
    record {
      one = None;
      recoverable = recovers_agreeing grain q.disks back q.kept w least (Some r) None a (found_at grain w least r steps p n stop q b came);
      one_is = is_old grain w q.kept (HasTorn stop) (Some r);
    }

-- ---- in a step

-- its data are written, in part or whole
found_within : (grain : GrainSize) (w : Whole) (least : List Row) (r : Request) (steps front back : List DiskStep) (step : DiskStep) (p y : Point) (content : Content) (disks : List (List NamedDisk)) → Begins grain w least r steps p →
    steps ≡ front ++ step ∷ back → 1 ≤ step.calls →
    Did grain w r w.books.sheet (actions_of_steps p.kept.rows (number_of grain r) front ++ marks_by_move p.kept.rows (number_of grain r) step step.move) p y →
    StepWrites grain w r step content y.disks disks →
    Recoverable grain disks y.kept w least (Some r) (Some (one_of grain w r step (with_disks disks y)))
found_within grain w least r steps front back step p y content disks b split some did x =
    let g : ℕ = number_of grain r in
    let rows : List Row = p.kept.rows in
    let s : IsDataStep rows g step step.move = data_step rows g step step.move some in
    let A : List Action = actions_of_steps rows g front ++ marks_by_move rows g step step.move in
    let B : List Action = actions_of_steps rows g back in
    found_behind grain w least r steps p y (with_disks disks y) A (Data step ∷ Note s.note ∷ B) (Some (one_of grain w r step (with_disks disks y))) b
    (in_parts rows g steps front back step (Data step ∷ Note s.note ∷ []) split s.actions) (front_paired rows g front step) did
    (coming_law_holds.within grain w r (chains_by w.books.sheet A) step s.note B y content disks x)

-- what waits is the record of these data
waits_found : (grain : GrainSize) (w : Whole) (least : List Row) (r : Request) (steps front back : List DiskStep) (step : DiskStep) (first : List Action) (x : MetaRecord) (p q : Point) (disks : List (List NamedDisk)) (P : Type 0) →
    Begins grain w least r steps p → steps ≡ front ++ step ∷ back → 1 ≤ step.calls → actions_of_step p.kept.rows (number_of grain r) step ≡ first ++ Note x ∷ [] →
    Did grain w r w.books.sheet (actions_of_steps p.kept.rows (number_of grain r) front ++ first) p q → AllAgree grain (kept_after q.kept x) q.disks disks → IsSafe grain disks q.kept w least (Some r) P
waits_found grain w least r steps front back step first x p q disks P b split some acts did agree =
    let g : ℕ = number_of grain r in
    let rows : List Row = p.kept.rows in
    let A : List Action = actions_of_steps rows g front in
    let M : List Action = marks_by_move rows g step step.move in
    let s : IsDataStep rows g step step.move = data_step rows g step step.move some in
    let ends = same_end (M ++ Data step ∷ []) first (Note s.note) (Note x) (append_assoc M (Data step ∷ []) (Note s.note ∷ []) ∙ (sym s.actions ∙ acts)) in
    let is : s.note ≡ x = note_is s.note x ends.1 in
    let all : A ++ first ≡ (A ++ M) ++ Data step ∷ [] = ap (λ (xs : List Action). A ++ xs) (sym ends.0) ∙ sym (append_assoc A M (Data step ∷ [])) in
    let h : Halves grain w r w.books.sheet (A ++ M) (Data step ∷ []) p q =
    halves grain w r w.books.sheet (A ++ M) (Data step ∷ []) p q (subst (λ (xs : List Action). Did grain w r w.books.sheet xs p q) all did) in
    let y : Point = h.between in
    let now : Point = with_disks h.rest.0 y in
    let here : Recoverable grain now.disks now.kept w least (Some r) (Some (one_of grain w r step now)) =
    found_within grain w least r steps front back step p y (content_of grain w r step) h.rest.0 b split some h.first h.rest.1 in
    let whole : AllAgree grain (kept_after now.kept x) now.disks disks = subst (λ (z : Point). AllAgree grain (kept_after z.kept x) z.disks disks) {y = now} h.rest.2 agree in
    let fewer : AllAgree grain now.kept now.disks disks =
    agree_fewer grain (kept_after now.kept x) now.kept now.disks disks
    (λ v u e. subst (λ (n : MetaRecord). is_lost_in (kept_after now.kept n).lost v u ≡ false) is (s.whole now.kept.lost v u e)) whole in
    let safe : IsSafe grain disks now.kept w least (Some r) P = record {
      one = Some (one_of grain w r step now);
      recoverable = recovers_agreeing grain now.disks disks now.kept w least (Some r) (Some (one_of grain w r step now)) fewer here;
      one_is = is_new grain w r step now P (among_steps grain w r steps front back step b.steps_are split) h.rest.1.stored.here;
    } in
    subst (λ (z : Point). IsSafe grain disks z.kept w least (Some r) P) {x = now} (sym {b = now} h.rest.2) safe

-- ---- a step whose write failed

did_disked : (grain : GrainSize) (w : Whole) (r : Request) (chains : Sheet) (actions : List Action) (p q : Point) → Did grain w r chains actions p q → Disked grain w p.disks → Disked grain w q.disks
did_disked grain w r chains [] p q d x = subst (λ (z : Point). Disked grain w z.disks) (sym d) x
did_disked grain w r chains (Data step ∷ rest) p q d x =
    did_disked grain w r chains rest (with_disks d.0 p) q d.2 (disked_still grain w step.volume (number_of grain r) (content_of grain w r step) p.disks d.0 d.1 x)
did_disked grain w r chains (Note n ∷ rest) p q d x = did_disked grain w r (sheet_kept chains n) rest (noted n (with_kept d.0 p)) q d.2 x
did_disked grain w r chains (Fold ∷ rest) p q d x = absurd d

pub first_disked : (grain : GrainSize) (w : Whole) (least : List Row) (r : Request) (steps : List DiskStep) (p : Point) → Begins grain w least r steps p → 0 < lanes w → HaveTheirDisks w p.disks → Disked grain w p.disks
first_disked grain w least r steps p b some have = record { some = some; count = b.stands.says.count; fit = fits_now grain w least p b.stands; have = have }

all_doable : (grain : GrainSize) (w : Whole) (least : List Row) (r : Request) (rows : List Row) (steps : List DiskStep) (p : Point) → Begins grain w least r steps p → AreDoable grain w r (actions_of_steps rows (number_of grain r) steps)
all_doable grain w least (Write part) rows steps p b = write_doable grain w part rows steps b.sound b.inside b.steps_are
all_doable grain w least (Copy m g) rows steps p b = fill_doable grain w (Copy m g) rows steps b.sound (copy_of grain w m g steps b.steps_are) b.steps_are
all_doable grain w least (Clean m g) rows steps p b = fill_doable grain w (Clean m g) rows steps b.sound (clean_of grain w m g steps b.sound b.steps_are) b.steps_are
all_doable grain w least r rows steps p b = absurd b.steps_are

-- its volume has the grain
room_of : (grain : GrainSize) (w : Whole) (least : List Row) (r : Request) (steps front back : List DiskStep) (step : DiskStep) (p : Point) → Begins grain w least r steps p → steps ≡ front ++ step ∷ back → 1 ≤ step.calls →
    let id : VolId = record { 0 = step.volume } in number_of grain r < size_in w.books.tables id
room_of grain w least r steps front back step p b split some =
    let g : ℕ = number_of grain r in
    let rows : List Row = p.kept.rows in
    let s : IsDataStep rows g step step.move = data_step rows g step step.move some in
    let A : List Action = actions_of_steps rows g front ++ marks_by_move rows g step step.move in
    let B : List Action = Data step ∷ Note s.note ∷ actions_of_steps rows g back in
    let all : AreDoable grain w r (A ++ B) = subst (AreDoable grain w r) (in_parts rows g steps front back step (Data step ∷ Note s.note ∷ []) split s.actions) (all_doable grain w least r rows steps p b) in
    (split_doable grain w r A B all).1.0.room

bytes_on : (l : LaneOf) (o : Option NamedDisk) (g : ℕ) → (bytes : List ℕ) × (on_disk l o g ≡ Bytes bytes)
bytes_on l None g = (_, refl)
bytes_on l (Some disk) g = (_, refl)

tears_found : (grain : GrainSize) (w : Whole) (least : List Row) (r : Request) (steps front back : List DiskStep) (step : DiskStep) (torn : Torn) (p q : Point) (disks : List (List NamedDisk)) → Begins grain w least r steps p → 0 < lanes w →
    HaveTheirDisks w p.disks → steps ≡ front ++ step ∷ back → 1 ≤ step.calls → torn ≡ record { volume = record { 0 = step.volume }; grain = record { 0 = number_of grain r }; side = step.side } →
    Did grain w r w.books.sheet (actions_of_steps p.kept.rows (number_of grain r) front ++ marks_by_move p.kept.rows (number_of grain r) step step.move) p q →
    AllAgree grain (kept_after q.kept (TornRecord torn.volume torn.grain torn.side)) q.disks disks → IsSafe grain disks q.kept w least (Some r) (HasTorn (Some (Failed (Some torn))))
tears_found grain w least r steps front back step torn p q disks b some have split calls is did agree =
    let g : ℕ = number_of grain r in
    let v : ℕ = step.volume in
    let rows : List Row = p.kept.rows in
    let here : Disked grain w q.disks =
    did_disked grain w r w.books.sheet (actions_of_steps rows g front ++ marks_by_move rows g step step.move) p q did (first_disked grain w least r steps p b some have) in
    let on = bytes_on (lane_at grain w (lane_of_grain w g)) (disk_of (disks_at disks (lane_of_grain w g)) v) (place_of (lane_at grain w (lane_of_grain w g)) g) in
    let put = puts grain w v g on.0 q.disks some here.count here.fit here.have (room_of grain w least r steps front back step p b split calls) in
    let torn_agree : AllAgree grain (kept_after q.kept (TornRecord record { 0 = v } record { 0 = g } step.side)) q.disks disks =
    subst (λ (t : Torn). AllAgree grain (kept_after q.kept (TornRecord t.volume t.grain t.side)) q.disks disks) is agree in
    let new : List (List NamedDisk) = put.new in
    let one : Another = one_of grain w r step (with_disks new q) in
    record {
      one = Some one;
      recoverable = recovers_agreeing grain new disks q.kept w least (Some r) (Some one)
          (put_agree grain w q.kept v g step.side on.0 q.disks new disks here.count torn_agree put.writes on.1)
          (found_within grain w least r steps front back step p q (Bytes on.0) new b split calls did put.writes);
      one_is = is_torn grain w r step (with_disks new q) (HasTorn (Some (Failed (Some torn)))) (among_steps grain w r steps front back step b.steps_are split) (torn, refl);
    }

due : (grain : GrainSize) (w : Whole) (least : List Row) (r : Request) (steps : List DiskStep) (p : Point) (n : ℕ) (stop : Option Stop) (x : MetaRecord) (q : Point) (back : List (List NamedDisk)) →
    Begins grain w least r steps p → 0 < lanes w → HaveTheirDisks w p.disks →
    Came grain w r p.kept.rows steps p n stop (Some x) q → AllAgree grain (kept_after q.kept x) q.disks back → IsSafe grain back q.kept w least (Some r) (HasTorn stop)
due grain w least r steps p n stop x q disks b some have (waits front back step first y z split calls acts did) agree =
    waits_found grain w least r steps front back step first y p z disks (HasTorn None) b split calls acts did agree
due grain w least r steps p n stop x q disks b some have (tears front back step torn begun z split calls is did marks) agree =
    tears_found grain w least r steps front back step torn p z disks b some have split calls is
    (did_marks grain w r p.kept.rows steps front back step p begun z b.steps_are split did marks) agree

pub stop_law_holds : StopLaw
stop_law_holds = record { rests = rests; due = due; marked = marked_agree; uncopied = uncopied_agree }

-- ---- each volume has its disk

tears_disked : (grain : GrainSize) (w : Whole) (r : Request) (chains : Sheet) (step : DiskStep) (torn : Option Torn) (p q : Point) → Tears grain w r chains step torn p q → Disked grain w p.disks → Disked grain w q.disks
tears_disked grain w r chains step None p q t d = subst (λ (z : Point). Disked grain w z.disks) (sym t) d
tears_disked grain w r chains step (Some torn) p q (is, some, content, disks, x, kept, m, e) d =
    subst (λ (z : Point). Disked grain w z.disks) (sym e) (disked_still grain w step.volume (number_of grain r) content p.disks disks x d)

pub came_disked : (grain : GrainSize) (w : Whole) (r : Request) (rows : List Row) (steps : List DiskStep) (p : Point) (n : ℕ) (stop : Option Stop) (x : Option MetaRecord) (q : Point) →
    Came grain w r rows steps p n stop x q → Disked grain w p.disks → Disked grain w q.disks
came_disked grain w r rows steps p n stop x q (behind front back z split did) d = did_disked grain w r w.books.sheet (actions_of_steps rows (number_of grain r) front) p z did d
came_disked grain w r rows steps p n stop x q (marked front own z split is_own did) d =
    did_disked grain w r w.books.sheet (actions_of_steps rows (number_of grain r) front ++ mark_of rows own.volume (number_of grain r)) p z did d
came_disked grain w r rows steps p n stop x q (waits front back step first y z split calls acts did) d =
    did_disked grain w r w.books.sheet (actions_of_steps rows (number_of grain r) front ++ first) p z did d
came_disked grain w r rows steps p n stop x q (stopped front back step why z split s) d =
    tears_disked grain w r (chains_behind grain w front) step (torn_in (Some why)) s.marked z s.tears
    (did_disked grain w r (chains_behind grain w front) (marks_by_move rows (number_of grain r) step step.move) s.begun s.marked s.marks
    (did_disked grain w r w.books.sheet (actions_of_steps rows (number_of grain r) front) p s.begun s.did d))
came_disked grain w r rows steps p n stop x q (tears front back step torn begun z split calls is did marks) d =
    did_disked grain w r (chains_behind grain w front) (marks_by_move rows (number_of grain r) step step.move) begun z marks
    (did_disked grain w r w.books.sheet (actions_of_steps rows (number_of grain r) front) p begun did d)
