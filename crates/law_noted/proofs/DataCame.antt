-- How the actions of an entry go on by the data of its next step.
use Rattle.std.proofs.Common.{◌≡◌, ◌⊎◌, ℕ, ◌+◌, ◌≤◌, Option, Some, None, List, [], ◌∷◌, ◌++◌, length, inl, inr, refl, sym, ap, subst, ◌∙◌}
use Rattle.std.proofs.lemmas.List.{append_assoc, append-nil}
use Rattle.fc_base.specs.Sheet.{Sheet}
use Rattle.fc_base.specs.declared.request.Move.{Move}
use Rattle.fc_base.specs.declared.request.Request.{Request}
use Rattle.fc_base.specs.declared.request.Torn.{Torn}
use Rattle.fc_base.specs.declared.size.GrainSize.{GrainSize}
use Rattle.fc_changed.specs.Row.{Row}
use Rattle.fc_image.specs.declared.record.MetaRecord.{MetaRecord}
use Rattle.fc_image.specs.declared.record.MetaRecord.TheVariants.{Torn as TornRecord}
use Rattle.fc_kept.specs.Actions.{Action, Action.Data, Action.Note, mark_of}
use Rattle.fc_kept.specs.Disks.{NamedDisk}
use Rattle.fc_legal.specs.Whole.{Whole}
use Rattle.fc_rules.specs.Steps.{DiskStep}
use Rattle.fc_steps.specs.StepsEnd.{torn_in}
use Rattle.fc_steps.specs.declared.stop.Stop.{Stop}
use Rattle.fc_steps.specs.declared.stop.Stop.TheVariants.{Failed}
use Rattle.law_crash.specs.Doing.{Did, StepWrites, Tears, actions_of_step, actions_of_steps, chains_behind, content_of, marks_by_move, number_of, with_disks}
use Rattle.law_crash.specs.Points.{Point}
use Rattle.law_crash.proofs.Making.{spot_in, steps_in}
use Rattle.law_noted.specs.Came.{Came, Came.behind as came_behind, Came.marked as came_marked, Came.waits as came_waits, Came.stopped as came_stopped, Came.tears as came_tears}
use Rattle.law_noted.proofs.DataActions.{chains_of_moves, did_data, did_split, rows_of_moves}
use Rattle.law_noted.proofs.NextSteps.{same_front, same_next, torn_in_step}

module _ (grain : GrainSize) (w : Whole) (r : Request) (rows : List Row) (steps : List DiskStep) (p : Point) where
  abbrev pub actions_to : List DiskStep → List Action
  actions_to front = actions_of_steps rows (number_of grain r) front

  abbrev pub marks_at : DiskStep → List Action
  marks_at step = marks_by_move rows (number_of grain r) step step.move

  -- ---- what was done before a step

  -- all before it; or its mark as well, where it is the write itself
  abbrev pub DoneTo : List DiskStep → DiskStep → Point → Type 0
  DoneTo front step q =
      Did grain w r w.books.sheet (actions_to front) p q
      ⊎ ((step.move ≡ None) × Did grain w r w.books.sheet (actions_to front ++ mark_of rows step.volume (number_of grain r)) p q)

  pub done_to : (n : ℕ) (stop : Option Stop) (due : Option MetaRecord) (q : Point) (front back : List DiskStep) (step : DiskStep) → Came grain w r rows steps p n stop due q → stop ≡ None → due ≡ None →
      steps ≡ front ++ step ∷ back → length front ≡ n → DoneTo front step q
  done_to n stop due q front back step (came_behind f b z e did) none free split count =
      let s = same_front f front b (step ∷ back) (sym count) (sym e ∙ split) in
      inl (subst (λ (y : List DiskStep). Did grain w r w.books.sheet (actions_to y) p z) s.0 did)
  done_to n stop due q front back step (came_marked f own z e move did) none free split count =
      let s = same_front f front (own ∷ []) (step ∷ back) (sym count) (sym e ∙ split) in
      let o : own ≡ step = same_next own step [] back s.1 in
      inr (
        ap (λ (y : DiskStep). y.move) (sym o) ∙ move,
        subst (λ (y : DiskStep). Did grain w r w.books.sheet (actions_to front ++ mark_of rows y.volume (number_of grain r)) p z) o
            (subst (λ (y : List DiskStep). Did grain w r w.books.sheet (actions_to y ++ mark_of rows own.volume (number_of grain r)) p z) s.0 did),
      )
  done_to n stop due q front back step (came_waits f b z first x y e calls act did) none free split count = absurd (let c : Some x ≡ None = free in cc)
  done_to n stop due q front back step (came_stopped f b z x y e did) none free split count = absurd (let c : Some x ≡ None = none in cc)
  done_to n stop due q front back step (came_tears f b z torn x y e calls is did marks) none free split count =
      absurd (let c : Some (TornRecord torn.volume torn.grain torn.side) ≡ None = free in cc)

  -- all actions before its data
  abbrev pub BeforeData : List DiskStep → DiskStep → Point → Type 0
  BeforeData front step q = Did grain w r w.books.sheet (actions_to front ++ marks_at step) p q

  -- of a move
  pub before_move : (front : List DiskStep) (step : DiskStep) (m : Move) (q : Point) → step.move ≡ Some m → DoneTo front step q → BeforeData front step q
  before_move front step m q is d =
      let Done : List Action → Type 0 = λ (z : List Action). Did grain w r w.books.sheet z p q in
      elim d [
        | inl did ↦ subst (λ (o : Option Move). Done (actions_to front ++ marks_by_move rows (number_of grain r) step o)) (sym is) (subst Done (sym (append-nil (actions_to front))) did)
        | inr x ↦ absurd (let c : Some m ≡ None = sym is ∙ x.0 in cc)
      ]

  -- of the write itself
  pub before_own : (front : List DiskStep) (step : DiskStep) (q : Point) → step.move ≡ None → (Did grain w r w.books.sheet (actions_to front) p q → mark_of rows step.volume (number_of grain r) ≡ []) →
      DoneTo front step q → BeforeData front step q
  before_own front step q is unmarked d =
      let Done : List Action → Type 0 = λ (z : List Action). Did grain w r w.books.sheet z p q in
      subst (λ (o : Option Move). Done (actions_to front ++ marks_by_move rows (number_of grain r) step o)) (sym is)
      (elim d [
        | inl did ↦ subst (λ (z : List Action). Done (actions_to front ++ z)) (sym (unmarked did)) (subst Done (sym (append-nil (actions_to front))) did)
        | inr x ↦ x.1
      ])

  -- ---- it was done

  pub data_came : (n : ℕ) (front back : List DiskStep) (step : DiskStep) (x : MetaRecord) (disks : List (List NamedDisk)) (q : Point) → steps ≡ front ++ step ∷ back → length front ≡ n → 1 ≤ step.calls →
      actions_of_step rows (number_of grain r) step ≡ marks_at step ++ Data step ∷ Note x ∷ [] → BeforeData front step q → StepWrites grain w r step (content_of grain w r step) q.disks disks →
      Came grain w r rows steps p (n + 1) None (Some x) (with_disks disks q)
  data_came n front back step x disks q split count calls act done writes =
      let marks : List Action = marks_at step in
      let first : List Action = marks ++ Data step ∷ [] in
      let did : Did grain w r w.books.sheet (actions_to front ++ first) p (with_disks disks q) =
      subst (λ (z : List Action). Did grain w r w.books.sheet z p (with_disks disks q)) (append_assoc (actions_to front) marks (Data step ∷ []))
      (did_data grain w r w.books.sheet (actions_to front ++ marks) step disks p q done writes) in
      subst (λ (m : ℕ). Came grain w r rows steps p (m + 1) None (Some x) (with_disks disks q)) count
      (came_waits front back step first x (with_disks disks q) split calls (act ∙ sym (append_assoc marks (Data step ∷ []) (Note x ∷ []))) did)

  -- ---- it stopped

  -- the actions before its marks, and the marks
  before_marks : (done : List ℕ) (step : DiskStep) (q : Point) → BeforeData (steps_in grain w r done) step q →
      (begun : Point) × Did grain w r w.books.sheet (actions_to (steps_in grain w r done)) p begun × Did grain w r (chains_behind grain w (steps_in grain w r done)) (marks_at step) begun q
  before_marks done step q d =
      let s = did_split grain w r w.books.sheet (actions_to (steps_in grain w r done)) (marks_at step) p q d in (
        s.0,
        s.1,
        subst (λ (c : Sheet). Did grain w r c (marks_at step) s.0 q) (chains_of_moves grain w r rows (number_of grain r) done) s.2,
      )

  -- with nothing torn
  pub still_came : (n : ℕ) (done : List ℕ) (back : List DiskStep) (step : DiskStep) (stop : Stop) (q : Point) → steps ≡ steps_in grain w r done ++ step ∷ back → length (steps_in grain w r done) ≡ n →
      torn_in (Some stop) ≡ None → BeforeData (steps_in grain w r done) step q → Came grain w r rows steps p n (Some stop) None q
  still_came n done back step stop q split count untorn d =
      let front : List DiskStep = steps_in grain w r done in
      let b = before_marks done step q d in
      let none : Tears grain w r (chains_behind grain w front) step None q q = refl in
      subst (λ (m : ℕ). Came grain w r rows steps p m (Some stop) None q) count
      (came_stopped front back step stop q split record {
        begun = b.0;
        marked = q;
        did = b.1;
        marks = b.2;
        tears = subst (λ (t : Option Torn). Tears grain w r (chains_behind grain w front) step t q q) (sym untorn) none;
      })

  -- or torn
  pub torn_came : (n : ℕ) (done : List ℕ) (back : List DiskStep) (step : DiskStep) (torn : Torn) (q : Point) → steps ≡ steps_in grain w r done ++ step ∷ back → length (steps_in grain w r done) ≡ n →
      1 ≤ step.calls → torn ≡ torn_in_step (number_of grain r) step → BeforeData (steps_in grain w r done) step q →
      Came grain w r rows steps p n (Some (Failed (Some torn))) (Some (TornRecord torn.volume torn.grain torn.side)) q
  torn_came n done back step torn q split count calls is d =
      let b = before_marks done step q d in
      subst (λ (m : ℕ). Came grain w r rows steps p m (Some (Failed (Some torn))) (Some (TornRecord torn.volume torn.grain torn.side)) q) count
      (came_tears (steps_in grain w r done) back step torn b.0 q split calls is b.1 b.2)

  -- ---- the write itself is not marked again where its rows have it

  pub no_mark : (done : List ℕ) (q : Point) (P : List Row → Type 0) → p.kept.rows ≡ rows → P q.kept.rows → Did grain w r w.books.sheet (actions_to (steps_in grain w r done)) p q → P rows
  no_mark done q P same so did =
      subst P (rows_of_moves grain w r rows (number_of grain r) (spot_in grain w r) done w.books.sheet p q did ∙ same) so
