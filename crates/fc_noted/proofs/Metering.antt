-- How the actions of an entry go on, record by record, and what they cost metadata.
use Rattle.std.proofs.Common.{◌≡◌, ℕ, ◌+◌, ◌==◌, ◌≤◌, Bool, true, false, cond, ltb, if◌then◌else◌, List, [], ◌∷◌, ◌++◌, length, Option, Some, None, refl, sym, ap, subst, ◌∙◌, length-append, arith}
use Rattle.std.specs.List.{list_any}
use Rattle.std.proofs.lemmas.Grind.{fold-append}
use Rattle.std.proofs.lemmas.List.{append_assoc, append-nil}
use Rattle.fc_base.specs.declared.request.Move.{Move}
use Rattle.fc_base.specs.declared.request.Request.{Request}
use Rattle.fc_base.specs.declared.request.Torn.{Torn}
use Rattle.fc_base.specs.declared.size.GrainSize.{GrainSize}
use Rattle.fc_changed.specs.Row.{Row}
use Rattle.fc_image.specs.declared.image.MetaImage.{MetaImage}
use Rattle.fc_image.specs.declared.record.MetaRecord.{MetaRecord}
use Rattle.fc_image.specs.declared.record.MetaRecord.TheVariants.{Pair, Written, Torn as TornRecord, Changing}
use Rattle.fc_kept.specs.Actions.{Action, Action.Data, Action.Note, Action.Fold, data_of, is_unmarked, mark_of, record_of_move}
use Rattle.fc_kept.specs.Images.{kept_in}
use Rattle.fc_kept.specs.Kept.{rows_kept}
use Rattle.fc_kept.specs.Prefix.{AreStepsOf}
use Rattle.fc_legal.specs.Whole.{Whole}
use Rattle.fc_marks.proofs.Counting.{costs_least}
use Rattle.fc_marks.specs.Meter.{Meter, batch_size, first_full, passes_half, with_batch, with_fold, with_record}
use Rattle.fc_noted.specs.Metered.{Acted, GoesInto, GoesInto.first as into_first, GoesInto.tears as into_tears, SoFar, SoFar.behind, SoFar.marked, SoFar.waits, SoFar.stopped, SoFar.tears, actions_stopped, after_action, after_actions, rows_behind, rows_by_action}
use Rattle.fc_rules.specs.Steps.{DiskStep}
use Rattle.fc_steps.specs.StepsEnd.{torn_in}
use Rattle.fc_steps.specs.declared.stop.Stop.{Stop}
use Rattle.fc_steps.specs.declared.stop.Stop.TheVariants.{Failed}
use Rattle.law_crash.specs.Doing.{actions_by_move, actions_of_step, actions_of_steps, marks_by_move, number_of}
use Rattle.law_crash.specs.Points.{Point}
use Rattle.law_noted.specs.Advancing.{IsNext, mark_at, uncopied}
use Rattle.law_noted.specs.Came.{Came, Came.behind as came_behind, Came.marked as came_marked, Came.waits as came_waits, Came.stopped as came_stopped, Came.tears as came_tears}
use Rattle.law_noted.proofs.Acting.{LeaveRows, actions_both}
use Rattle.law_noted.proofs.MarkRows.{changed}
use Rattle.law_noted.proofs.Nexts.{front_moves, head_is, here, moves_leave, own_last, same_end, same_front}
use Rattle.law_noted.proofs.Recording.{alone}

-- ---- actions, one behind the other

pub more_done : (half : ℕ) (m : Meter) (actions more : List Action) → after_actions half m (actions ++ more) ≡ after_actions half (after_actions half m actions) more
more_done half m actions more = fold-append (after_action half) m actions more

pub one_done : (half : ℕ) (m : Meter) (actions : List Action) (note : MetaRecord) → after_actions half m (actions ++ Note note ∷ []) ≡ with_record half note (after_actions half m actions)
one_done half m actions note = more_done half m actions (Note note ∷ [])

rows_more : (rows : List Row) (actions more : List Action) → rows_behind rows (actions ++ more) ≡ rows_behind (rows_behind rows actions) more
rows_more rows actions more = fold-append rows_by_action rows actions more

pub noted_rows : (rows now : List Row) (actions : List Action) (note : MetaRecord) → rows_behind rows actions ≡ now → rows_behind rows (actions ++ Note note ∷ []) ≡ rows_kept now note
noted_rows rows now actions note e = rows_more rows actions (Note note ∷ []) ∙ ap (λ (z : List Row). rows_kept z note) e

-- none makes it fewer calls
pub calls_grow : (half : ℕ) (m : Meter) (actions : List Action) → m.calls ≤ (after_actions half m actions).calls
calls_grow half m [] = omega arith
calls_grow half m (Data step ∷ rest) = calls_grow half m rest
calls_grow half m (Note note ∷ rest) =
    let one = costs_least half note m in
    let more = calls_grow half (with_record half note m) rest in
    omega (arith, one, more)
calls_grow half m (Fold ∷ rest) =
    let more : m.calls + 6 ≤ (after_actions half (with_fold half m.image m) rest).calls = calls_grow half (with_fold half m.image m) rest in
    omega (arith, more)

-- what passed the half before them stays seen
first_before : (o : Option ℕ) (passes : Bool) (calls : ℕ) → first_full o passes calls ≡ None → o ≡ None
first_before (Some at) passes calls e = e
first_before None passes calls e = refl

pub full_before_fold : (half : ℕ) (image : MetaImage) (m : Meter) → (with_fold half image m).full ≡ None → m.full ≡ None
full_before_fold half image m e = first_before m.full (passes_half half m.generation image) (m.calls + 2) e

full_before_batch : (half : ℕ) (note : MetaRecord) (m : Meter) → (with_batch half note m).full ≡ None → m.full ≡ None
full_before_batch half note m e = first_before m.full (ltb half (m.used + 1 + batch_size note)) m.calls e

either_before : (b : Bool) (one other : Meter) (o : Option ℕ) → (one.full ≡ None → o ≡ None) → (other.full ≡ None → o ≡ None) → (if b then one else other).full ≡ None → o ≡ None
either_before true one other o first second e = first e
either_before false one other o first second e = second e

full_before_record : (half : ℕ) (note : MetaRecord) (m : Meter) → (with_record half note m).full ≡ None → m.full ≡ None
full_before_record half note m e =
    either_before (ltb half (m.used + 1 + batch_size note)) (with_batch half note (with_fold half m.image m)) (with_batch half note m) m.full
    (λ f. full_before_fold half m.image m (full_before_batch half note (with_fold half m.image m) f)) (full_before_batch half note m) e

pub full_before : (half : ℕ) (m : Meter) (actions : List Action) → (after_actions half m actions).full ≡ None → m.full ≡ None
full_before half m [] e = e
full_before half m (Data step ∷ rest) e = full_before half m rest e
full_before half m (Note note ∷ rest) e = full_before_record half note m (full_before half (with_record half note m) rest e)
full_before half m (Fold ∷ rest) e = full_before_fold half m.image m (full_before half (with_fold half m.image m) rest e)

-- Those that call the disk of metadata: data don't.
abbrev pub on_metadata : List Action → List Action
on_metadata [] = []
on_metadata (Data step ∷ rest) = on_metadata rest
on_metadata (Note note ∷ rest) = Note note ∷ on_metadata rest
on_metadata (Fold ∷ rest) = Fold ∷ on_metadata rest

on_both : (actions more : List Action) → on_metadata (actions ++ more) ≡ on_metadata actions ++ on_metadata more
on_both [] more = refl
on_both (Data step ∷ rest) more = on_both rest more
on_both (Note note ∷ rest) more = ap (λ (z : List Action). Note note ∷ z) (on_both rest more)
on_both (Fold ∷ rest) more = ap (λ (z : List Action). Fold ∷ z) (on_both rest more)

by_those : (half : ℕ) (m : Meter) (actions : List Action) → after_actions half m actions ≡ after_actions half m (on_metadata actions)
by_those half m [] = refl
by_those half m (Data step ∷ rest) = by_those half m rest
by_those half m (Note note ∷ rest) = by_those half (with_record half note m) rest
by_those half m (Fold ∷ rest) = by_those half (after_action half m Fold) rest

rows_by_those : (rows : List Row) (actions : List Action) → rows_behind rows actions ≡ rows_behind rows (on_metadata actions)
rows_by_those rows [] = refl
rows_by_those rows (Data step ∷ rest) = rows_by_those rows rest
rows_by_those rows (Note note ∷ rest) = rows_by_those (rows_by_action rows (Note note)) rest
rows_by_those rows (Fold ∷ rest) = rows_by_those rows rest

pub costs_same : (half : ℕ) (m : Meter) (actions others : List Action) → on_metadata actions ≡ on_metadata others → after_actions half m actions ≡ after_actions half m others
costs_same half m actions others e = by_those half m actions ∙ (ap (after_actions half m) e ∙ sym (by_those half m others))

pub rows_same : (rows : List Row) (actions others : List Action) → on_metadata actions ≡ on_metadata others → rows_behind rows actions ≡ rows_behind rows others
rows_same rows actions others e = rows_by_those rows actions ∙ (ap (rows_behind rows) e ∙ sym (rows_by_those rows others))

-- ---- rows

-- moves leave them
rows_still : (rows : List Row) (actions : List Action) → LeaveRows actions → rows_behind rows actions ≡ rows
rows_still rows [] l = refl
rows_still rows (Data step ∷ rest) l = rows_still rows rest l
rows_still rows (Note (Pair slot volume number in_place empty) ∷ rest) l = rows_still rows rest l
rows_still rows (Note (Written volume number) ∷ rest) l = absurd l
rows_still rows (Note (TornRecord volume number side) ∷ rest) l = absurd l
rows_still rows (Note (Changing volume number) ∷ rest) l = absurd l
rows_still rows (Fold ∷ rest) l = absurd l

-- behind a mark, if it is due, the grain is changed in each row
abbrev marks_by : Bool → ℕ → ℕ → List Action
marks_by wanted v g = cond wanted (Note (mark_at v g) ∷ []) []

by_wanted : (rows : List Row) (v g : ℕ) (b : Bool) → list_any (is_unmarked v g) rows ≡ b → list_any (is_unmarked v g) (rows_behind rows (marks_by b v g)) ≡ false
by_wanted rows v g true e = changed v g rows
by_wanted rows v g false e = e

mark_due : (rows : List Row) (v g : ℕ) → list_any (is_unmarked v g) rows ≡ true → mark_of rows v g ≡ Note (mark_at v g) ∷ []
mark_due rows v g e = ap (λ (b : Bool). marks_by b v g) e

no_mark : (rows : List Row) (v g : ℕ) → list_any (is_unmarked v g) rows ≡ false → mark_of rows v g ≡ []
no_mark rows v g e = ap (λ (b : Bool). marks_by b v g) e

-- ---- how a step of data ends

-- It was done, or it stopped; so many steps were done before it, and so many then.
abbrev pub EndsSo : ℕ → ℕ → Option Stop → Option MetaRecord → Type 0
EndsSo n k None None = ⊥
EndsSo n k None (Some x) = k ≡ n + 1
EndsSo n k (Some stop) None = (k ≡ n) × (torn_in (Some stop) ≡ None)
EndsSo n k (Some stop) (Some x) = k ≡ n

module _ (grain : GrainSize) (rows : List Row) (r : Request) (steps : List DiskStep) where
  abbrev g : ℕ
  g = number_of grain r

  abbrev to : List DiskStep → List Action
  to front = actions_of_steps rows (number_of grain r) front

  abbrev marks_at : DiskStep → List Action
  marks_at step = marks_by_move rows (number_of grain r) step step.move

  abbrev At : ℕ → Option Stop → Option MetaRecord → List Action → Type 0
  At n stop due actions = SoFar grain rows r steps n stop due actions

  -- ---- it begins, and by what stands on the disks

  pub nothing_done : At 0 None None []
  nothing_done = behind [] steps refl

  pub so_far_of : (w : Whole) (p : Point) (n : ℕ) (stop : Option Stop) (due : Option MetaRecord) (q : Point) → Came grain w r rows steps p n stop due q → (actions : List Action) × At n stop due actions
  so_far_of w p n stop due q (came_behind front back z split did) = (to front, behind front back split)
  so_far_of w p n stop due q (came_marked front own z split is_own did) = (to front ++ mark_of rows own.volume g, marked front own split is_own)
  so_far_of w p n stop due q (came_waits front back step first x z split some acts did) = (to front ++ first, waits front back step first x split acts)
  so_far_of w p n stop due q (came_stopped front back step why z split x) = (actions_stopped grain rows r front step (torn_in (Some why)), stopped front back step why split)
  so_far_of w p n stop due q (came_tears front back step torn begun z split some is did marks) = (to front ++ marks_at step, tears front back step torn split)

  -- ---- one step more

  split_off : (front back : List DiskStep) (step : DiskStep) → to (front ++ step ∷ back) ≡ (to front ++ actions_of_step rows g step) ++ to back
  split_off front back step = actions_both rows g front (step ∷ back) ∙ sym (append_assoc (to front) (actions_of_step rows g step) (to back))

  one_more : (front back : List DiskStep) (step : DiskStep) → steps ≡ front ++ step ∷ back → At (length front + 1) None None (to front ++ actions_of_step rows g step)
  one_more front back step split =
      let all : to (front ++ step ∷ []) ≡ to front ++ actions_of_step rows g step = split_off front [] step ∙ append-nil (to front ++ actions_of_step rows g step) in
      subst (At (length front + 1) None None) all
      (subst (λ (n : ℕ). At n None None (to (front ++ step ∷ []))) (length-append front (step ∷ []))
      (behind (front ++ step ∷ []) back (split ∙ sym (append_assoc front (step ∷ []) back))))

  -- a record that is due is put
  pub due_put : (n : ℕ) (stop : Option Stop) (x : MetaRecord) (actions : List Action) → At n stop (Some x) actions → At n stop None (actions ++ Note x ∷ [])
  due_put n stop x actions (waits front back step first y split acts) =
      subst (At (length front + 1) None None) (ap (λ (z : List Action). to front ++ z) acts ∙ sym (append_assoc (to front) first (Note y ∷ []))) (one_more front back step split)
  due_put n stop x actions (tears front back step torn split) =
      subst (At (length front) (Some (Failed (Some torn))) None) (sym (append_assoc (to front) (marks_at step) (Note (TornRecord torn.volume torn.grain torn.side) ∷ [])))
      (stopped front back step (Failed (Some torn)) split)

  -- that of a move that copies nothing
  pub uncopied_put : (n : ℕ) (step : DiskStep) (m : Move) (actions : List Action) → IsNext steps n step → step.move ≡ Some m → step.calls ≡ 0 → At n None None actions →
      At (n + 1) None None (actions ++ Note (uncopied m) ∷ [])
  uncopied_put n step m actions next move none (behind front back split) =
      let at = here steps front back (length front) step split refl next in
      subst (λ (z : List Action). At (length front + 1) None None (to front ++ z)) (alone rows g step m move none)
      (one_more front next.back step (split ∙ ap (λ (b : List DiskStep). front ++ b) at.1))
  uncopied_put n step m actions next move none (marked front own split own_is) =
      let at = here steps front (own ∷ []) (length front) step split refl next in
      let same : own ≡ step = head_is own step [] next.back at.1 in
      absurd (let f : Some m ≡ None = sym move ∙ (ap (λ (s : DiskStep). s.move) (sym same) ∙ own_is) in cc)

  -- ---- the mark of the write itself

  module _ (w : Whole) (are : AreStepsOf grain w r steps) where
    front_still : (front back : List DiskStep) (step : DiskStep) → steps ≡ front ++ step ∷ back → rows_behind rows (to front) ≡ rows
    front_still front back step split = rows_still rows (to front) (moves_leave rows g front (front_moves grain w r steps front back step are split))

    marked_behind : (front back : List DiskStep) (own : DiskStep) → steps ≡ front ++ own ∷ back → list_any (is_unmarked own.volume g) (rows_behind rows (to front ++ mark_of rows own.volume g)) ≡ false
    marked_behind front back own split =
        let more : rows_behind rows (to front ++ mark_of rows own.volume g) ≡ rows_behind rows (mark_of rows own.volume g) =
        rows_more rows (to front) (mark_of rows own.volume g) ∙ ap (λ (z : List Row). rows_behind z (mark_of rows own.volume g)) (front_still front back own split) in
        ap (list_any (is_unmarked own.volume g)) more ∙ by_wanted rows own.volume g (list_any (is_unmarked own.volume g) rows) refl

    pub mark_put : (n : ℕ) (own : DiskStep) (actions : List Action) → IsNext steps n own → own.move ≡ None → At n None None actions →
        list_any (is_unmarked own.volume g) (rows_behind rows actions) ≡ true → At n None None (actions ++ Note (mark_at own.volume g) ∷ [])
    mark_put n own actions next is_own (behind front back split) e =
        let at = here steps front back (length front) own split refl next in
        let split' : steps ≡ front ++ own ∷ next.back = split ∙ ap (λ (b : List DiskStep). front ++ b) at.1 in
        let last : next.back ≡ [] = own_last grain w r steps front next.back own are split' is_own in
        let due : mark_of rows own.volume g ≡ Note (mark_at own.volume g) ∷ [] =
        mark_due rows own.volume g (ap (list_any (is_unmarked own.volume g)) (sym (front_still front next.back own split')) ∙ e) in
        subst (λ (z : List Action). At (length front) None None (to front ++ z)) due (marked front own (split' ∙ ap (λ (b : List DiskStep). front ++ own ∷ b) last) is_own)
    mark_put n own actions next is_own (marked front other split other_is) e =
        let at = here steps front (other ∷ []) (length front) own split refl next in
        let same : other ≡ own = head_is other own [] next.back at.1 in
        let none : list_any (is_unmarked other.volume g) (rows_behind rows (to front ++ mark_of rows other.volume g)) ≡ false = marked_behind front [] other split in
        absurd (let f : true ≡ false = sym e ∙ (ap (λ (s : DiskStep). list_any (is_unmarked s.volume g) (rows_behind rows (to front ++ mark_of rows other.volume g))) (sym same) ∙ none) in cc)

    -- else all actions before its data were done, as before those of a move
    abbrev NeedsNone : DiskStep → List Action → Type 0
    NeedsNone step actions = step.move ≡ None → list_any (is_unmarked step.volume g) (rows_behind rows actions) ≡ false

    marks_none : (step : DiskStep) (o : Option Move) → (o ≡ None → mark_of rows step.volume g ≡ []) → marks_by_move rows g step o ≡ []
    marks_none step None none = none refl
    marks_none step (Some m) none = refl

    ready : (n : ℕ) (step : DiskStep) (actions : List Action) (next : IsNext steps n step) → At n None None actions → NeedsNone step actions → actions ≡ to next.front ++ marks_at step
    ready n step actions next (behind front back split) needs =
        let at = here steps front back (length front) step split refl next in
        let split' : steps ≡ front ++ step ∷ next.back = split ∙ ap (λ (b : List DiskStep). front ++ b) at.1 in
        let none : marks_at step ≡ [] =
        marks_none step step.move (λ is. no_mark rows step.volume g (ap (list_any (is_unmarked step.volume g)) (sym (front_still front next.back step split')) ∙ needs is)) in
        ap to at.0 ∙ (sym (append-nil (to next.front)) ∙ ap (λ (z : List Action). to next.front ++ z) (sym none))
    ready n step actions next (marked front other split other_is) needs =
        let at = here steps front (other ∷ []) (length front) step split refl next in
        let same : other ≡ step = head_is other step [] next.back at.1 in
        let is : step.move ≡ None = ap (λ (s : DiskStep). s.move) (sym same) ∙ other_is in
        (λ i. to (at.0 i) ++ mark_of rows (same i).volume g) ∙ ap (λ (o : Option Move). to next.front ++ marks_by_move rows g step o) (sym is)

    -- ---- a step of data

    -- marks, data, and its record
    data_none : (step : DiskStep) (none : Bool) → on_metadata (cond none [] (Data step ∷ [])) ≡ []
    data_none step true = refl
    data_none step false = refl

    abbrev IsSplit : DiskStep → Option Move → Type 0
    IsSplit step o = (calls : List Action) × (x : MetaRecord) × (actions_by_move rows g step o ≡ (marks_by_move rows g step o ++ calls) ++ Note x ∷ []) × (on_metadata calls ≡ [])

    split_step : (step : DiskStep) (o : Option Move) → IsSplit step o
    split_step step None =
        let x : MetaRecord = Written record { 0 = step.volume } record { 0 = g } in
        (Data step ∷ [], x, sym (append_assoc (mark_of rows step.volume g) (Data step ∷ []) (Note x ∷ [])), refl)
    split_step step (Some m) = (data_of step, record_of_move step m, refl, data_none step (step.calls == 0))

    first_costs : (front : List DiskStep) (step : DiskStep) (first : List Action) (x : MetaRecord) → actions_of_step rows g step ≡ first ++ Note x ∷ [] → on_metadata (to front ++ first) ≡ on_metadata (to front ++ marks_at step)
    first_costs front step first x acts =
        let s = split_step step step.move in
        let is : marks_at step ++ s.0 ≡ first = (same_end (marks_at step ++ s.0) first (Note s.1) (Note x) (sym s.2 ∙ acts)).0 in
        let none : on_metadata (marks_at step ++ s.0) ≡ on_metadata (marks_at step) =
        on_both (marks_at step) s.0 ∙ (ap (λ (z : List Action). on_metadata (marks_at step) ++ z) s.3 ∙ append-nil (on_metadata (marks_at step))) in
        on_both (to front) first ∙ (ap (λ (z : List Action). on_metadata (to front) ++ z) (ap on_metadata (sym is) ∙ none) ∙ sym (on_both (to front) (marks_at step)))

    data_ends : (n k : ℕ) (step : DiskStep) (stop : Option Stop) (due : Option MetaRecord) (actions : List Action) (next : IsNext steps n step) → At k stop due actions → EndsSo n k stop due →
        on_metadata actions ≡ on_metadata (to next.front ++ marks_at step)
    data_ends n k step stop due actions next (behind front back split) e = absurd e
    data_ends n k step stop due actions next (marked front own split is_own) e = absurd e
    data_ends n k step stop due actions next (waits front back z first x split acts) e =
        let s = same_front front next.front (z ∷ back) (step ∷ next.back) (let c = next.count in omega (arith, e, c)) (sym split ∙ next.split) in
        let is : z ≡ step = head_is z step back next.back s.1 in
        first_costs front z first x acts ∙ (λ i. on_metadata (to (s.0 i) ++ marks_at (is i)))
    data_ends n k step stop due actions next (stopped front back z why split) e =
        let s = same_front front next.front (z ∷ back) (step ∷ next.back) (e.0 ∙ sym next.count) (sym split ∙ next.split) in
        let is : z ≡ step = head_is z step back next.back s.1 in
        ap (λ (t : Option Torn). on_metadata (actions_stopped grain rows r front z t)) e.1
        ∙ (ap (λ (ms : List Action). on_metadata (to front ++ ms)) (append-nil (marks_at z)) ∙ (λ i. on_metadata (to (s.0 i) ++ marks_at (is i))))
    data_ends n k step stop due actions next (tears front back z torn split) e =
        let s = same_front front next.front (z ∷ back) (step ∷ next.back) (e ∙ sym next.count) (sym split ∙ next.split) in
        let is : z ≡ step = head_is z step back next.back s.1 in
        λ i. on_metadata (to (s.0 i) ++ marks_at (is i))

    -- it costs metadata nothing
    pub data_costs : (n k : ℕ) (step : DiskStep) (stop : Option Stop) (due : Option MetaRecord) (actions more : List Action) (next : IsNext steps n step) → At n None None actions → NeedsNone step actions →
        At k stop due more → EndsSo n k stop due → on_metadata more ≡ on_metadata actions
    data_costs n k step stop due actions more next so_far needs x e = data_ends n k step stop due more next x e ∙ ap on_metadata (sym (ready n step actions next so_far needs))

    -- ---- all of them

    pub all_done : (n : ℕ) (actions : List Action) → n ≡ length steps → At n None None actions → actions ≡ to steps
    all_done n actions e (behind front back split) = ap to (same_front front steps back [] e (sym split ∙ sym (append-nil steps))).0
    all_done n actions e (marked front own split is_own) =
        absurd (let f : length steps ≡ length front + length (own ∷ []) = ap length split ∙ length-append front (own ∷ []) in omega (arith, e, f))

    -- ---- what is asked on the way

    abbrev IsFront : List Action → Type 0
    IsFront actions = (back : List Action) × (to steps ≡ actions ++ back)

    front_by : (front back : List DiskStep) (step : DiskStep) (some more : List Action) → steps ≡ front ++ step ∷ back → actions_of_step rows g step ≡ some ++ more → IsFront (to front ++ some)
    front_by front back step some more split acts = (
      more ++ to back,
      ap to split ∙ (split_off front back step
          ∙ (ap (λ (z : List Action). (to front ++ z) ++ to back) acts ∙ (ap (λ (z : List Action). z ++ to back) (sym (append_assoc (to front) some more)) ∙ append_assoc (to front ++ some) more (to back)))),
    )

    marks_front : (front back : List DiskStep) (step : DiskStep) → steps ≡ front ++ step ∷ back → IsFront (to front ++ marks_at step)
    marks_front front back step split =
        let s = split_step step step.move in
        front_by front back step (marks_at step) (s.0 ++ Note s.1 ∷ []) split (s.2 ∙ append_assoc (marks_at step) s.0 (Note s.1 ∷ []))

    module _ (half : ℕ) (m : Meter) (same : (kept_in m.image).rows ≡ rows) where
      abbrev Goes : List Action → Type 0
      Goes actions = GoesInto grain half w m r (after_actions half m actions)

      by_front : (actions : List Action) → IsFront actions → Goes actions
      by_front actions f = into_first r steps actions f.0 are (ap (λ (z : List Row). actions_of_steps z g steps) same ∙ f.1)

      by_stop : (front back : List DiskStep) (step : DiskStep) (t : Option Torn) → steps ≡ front ++ step ∷ back → Goes (actions_stopped grain rows r front step t)
      by_stop front back step None split = by_front (actions_stopped grain rows r front step None) (subst (λ (z : List Action). IsFront (to front ++ z)) (sym (append-nil (marks_at step))) (marks_front front back step split))
      by_stop front back step (Some torn) split =
          subst (λ (z : List Row). Goes (actions_stopped grain z r front step (Some torn))) same
          (into_tears r front back step torn (subst (λ (z : List DiskStep). AreStepsOf grain w r z) split are))

      pub goes_into : (n : ℕ) (stop : Option Stop) (due : Option MetaRecord) (actions : List Action) → At n stop due actions → Goes actions
      goes_into n stop due actions (behind front back split) = by_front (to front) (to back, ap to split ∙ actions_both rows g front back)
      goes_into n stop due actions (marked front own split is_own) =
          by_front (to front ++ mark_of rows own.volume g)
          (subst (λ (o : Option Move). IsFront (to front ++ marks_by_move rows g own o)) is_own (marks_front front [] own split))
      goes_into n stop due actions (waits front back step some x split acts) = by_front (to front ++ some) (front_by front back step some (Note x ∷ []) split acts)
      goes_into n stop due actions (stopped front back step why split) = by_stop front back step (torn_in (Some why)) split
      goes_into n stop due actions (tears front back step torn split) = by_front (to front ++ marks_at step) (marks_front front back step split)

-- ---- with the rows of metadata

pub begun_so : (grain : GrainSize) (r : Request) (steps : List DiskStep) (rows : List Row) → Acted grain r steps 0 None None rows rows []
begun_so grain r steps rows = record { so_far = nothing_done grain rows r steps; rows_are = refl }

pub put_so : (grain : GrainSize) (r : Request) (steps : List DiskStep) (n : ℕ) (stop : Option Stop) (x : MetaRecord) (rows now : List Row) (actions : List Action) → Acted grain r steps n stop (Some x) rows now actions →
    Acted grain r steps n stop None rows (rows_kept now x) (actions ++ Note x ∷ [])
put_so grain r steps n stop x rows now actions a = record {
  so_far = due_put grain rows r steps n stop x actions a.so_far;
  rows_are = noted_rows rows now actions x a.rows_are;
}
