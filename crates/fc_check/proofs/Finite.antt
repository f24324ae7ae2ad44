-- Without an entry a session goes on finitely: to where it waits for one, or is over.
use Rattle.std.proofs.Common.{◌≡◌, ℕ, zero, suc, Bool, true, false, cond, Option, Some, None, List, [], ◌∷◌, ◌++◌, refl, ap}
use Rattle.fc_agenda.specs.Goes.{stays, passes, begins}
use Rattle.fc_base.specs.declared.behind.Behind.{Behind}
use Rattle.fc_base.specs.declared.ids.GrainNo.{GrainNo}
use Rattle.fc_base.specs.declared.request.Request.{Request}
use Rattle.fc_base.specs.declared.size.GrainSize.{GrainSize}
use Rattle.fc_blocks.specs.Segments.{Segment, single, together}
use Rattle.fc_blocks.specs.declared.block.ActorRead.{ActorRead}
use Rattle.fc_check_lines.specs.Leading.{LeadTo, Waits}
use Rattle.fc_legal.specs.Agenda.{Actors, Agenda, Begins, Faults, Own, Reading, Seconds, Session, actors_begun, behind_line, with_names, without_entry, without_fill}
use Rattle.fc_legal.specs.Asked.{asked}
use Rattle.fc_legal.specs.Scripts.{Script, are_done, faults_asked, scripts_of}
use Rattle.fc_legal.specs.Seconds.{Passing, Work, fill_at_hand, gained, saved}
use Rattle.fc_legal.specs.Whole.{Whole, lanes}

module _ (grain : GrainSize) (read : Reading) where
  -- where it waits, and what is told there
  pub record Ends (a : Agenda) (w : Whole) : Type 0 where
    pub end : Agenda
    pub last : Whole
    pub leads : LeadTo grain read a w [] end last

  ends_here : (a : Agenda) (w : Whole) → Waits grain read a w → Ends a w
  ends_here a w waits = record { end = a; last = w; leads = record { goes = stays; waits = waits } }

  ends_behind : (a b : Agenda) (w : Whole) → without_entry grain read a w ≡ Some b → Ends b w → Ends a w
  ends_behind a b w on rest = record { end = rest.end; last = rest.last; leads = record { goes = passes on rest.leads.goes; waits = rest.leads.waits } }

  ends_begun : (a b : Agenda) (w v : Whole) → Begins grain a w b v → Ends b v → Ends a w
  ends_begun a b w v on rest = record { end = rest.end; last = rest.last; leads = record { goes = begins on rest.leads.goes; waits = rest.leads.waits } }

  -- ---- seconds

  module _ (w : Whole) (segs : List Segment) (rest : Ends (Session segs) w) where
    abbrev EndsWith : ℕ → List Work → Option Work → List Work → Type 0
    EndsWith seconds over at_hand left = Ends (Seconds (record { seconds = seconds; over = over; at_hand = at_hand; left = left }) segs) w

    -- the work at hand fills a grain, or is over for this second
    busy_by :
        (seconds : ℕ) (over : List Work) (work : Work) (left : List Work) (fill : Option (Work × GrainNo)) →
        fill_at_hand grain w (Some work) ≡ fill →
        ((more : List Work) → EndsWith seconds more None left) →
        EndsWith seconds over (Some work) left
    busy_by seconds over work left (Some next) is idle =
        let p : Passing = record { seconds = seconds; over = over; at_hand = Some work; left = left } in
        ends_here (Seconds p segs) w (record { none_passes = ap (λ (fill : Option (Work × GrainNo)). without_fill grain w p fill segs) is; none_begins = λ b v on. on })
    busy_by seconds over work left None is idle =
        let p : Passing = record { seconds = seconds; over = over; at_hand = Some work; left = left } in
        let more : List Work = over ++ saved grain w work ∷ [] in
        let q : Passing = record { seconds = seconds; over = more; at_hand = None; left = left } in
        ends_behind (Seconds p segs) (Seconds q segs) w (ap (λ (fill : Option (Work × GrainNo)). without_fill grain w p fill segs) is) (idle more)

    busy : (seconds : ℕ) (over : List Work) (work : Work) (left : List Work) → ((more : List Work) → EndsWith seconds more None left) → EndsWith seconds over (Some work) left
    busy seconds over work left idle = busy_by seconds over work left (fill_at_hand grain w (Some work)) refl idle

    -- one work after the other gains its second
    turns : (seconds : ℕ) (left over : List Work) → ((more : List Work) → EndsWith seconds more None []) → EndsWith seconds over None left
    turns seconds [] over done = done over
    turns seconds (work ∷ left) over done =
        ends_behind
        (Seconds (record { seconds = seconds; over = over; at_hand = None; left = work ∷ left }) segs)
        (Seconds (record { seconds = seconds; over = over; at_hand = Some (gained work); left = left }) segs)
        w refl
        (busy seconds over (gained work) left (λ more. turns seconds left more done))

    -- one second after the other
    seconds_left : (seconds : ℕ) (over : List Work) → EndsWith seconds over None []
    seconds_left zero over =
        ends_behind (Seconds (record { seconds = zero; over = over; at_hand = None; left = [] }) segs) (Session segs) w refl rest
    seconds_left (suc seconds) over =
        ends_behind
        (Seconds (record { seconds = suc seconds; over = over; at_hand = None; left = [] }) segs)
        (Seconds (record { seconds = seconds; over = []; at_hand = None; left = over }) segs)
        w refl
        (turns seconds over [] (λ more. seconds_left seconds more))

    seconds_from : (seconds : ℕ) (over : List Work) (at_hand : Option Work) (left : List Work) → EndsWith seconds over at_hand left
    seconds_from seconds over None left = turns seconds left over (λ more. seconds_left seconds more)
    seconds_from seconds over (Some work) left = busy seconds over work left (λ more. turns seconds left more (λ all. seconds_left seconds all))

  -- ---- lines and blocks

  own_ends : (requests : List Request) (behind : Behind) (segs : List Segment) (w : Whole) → Ends (Session segs) w → Ends (Own requests behind segs) w
  own_ends [] behind segs w rest = ends_behind (Own [] behind segs) (Session segs) w refl rest
  own_ends (request ∷ requests) behind segs w rest =
      ends_here (Own (request ∷ requests) behind segs) w (record { none_passes = refl; none_begins = λ b v on. on })

  scripts_end_by : (scripts : List Script) (segs : List Segment) (w : Whole) (done : Bool) → are_done scripts ≡ done → Ends (Session segs) w → Ends (Actors scripts segs) w
  scripts_end_by scripts segs w true is rest =
      ends_behind (Actors scripts segs) (Session segs) w (ap (λ (done : Bool). cond {A = Option Agenda} done (Some (Session segs)) None) is) rest
  scripts_end_by scripts segs w false is rest =
      ends_here (Actors scripts segs) w
      (record { none_passes = ap (λ (done : Bool). cond {A = Option Agenda} done (Some (Session segs)) None) is; none_begins = λ b v on. on })

  scripts_end : (scripts : List Script) (segs : List Segment) (w : Whole) → Ends (Session segs) w → Ends (Actors scripts segs) w
  scripts_end scripts segs w rest = scripts_end_by scripts segs w (are_done scripts) refl rest

  faults_end : (requests : List Request) (actors : List ActorRead) (segs : List Segment) (w : Whole) → Ends (Session segs) (with_names w actors) → Ends (Faults requests actors segs) w
  faults_end [] actors segs w rest =
      let v : Whole = with_names w actors in
      ends_begun (Faults [] actors segs) (actors_begun grain v actors segs) w v (refl, refl)
      (scripts_end (scripts_of grain (lanes v) v.books v.actors actors) segs v rest)
  faults_end (request ∷ requests) actors segs w rest =
      ends_here (Faults (request ∷ requests) actors segs) w (record { none_passes = refl; none_begins = λ b v on. on })

  session_ends : (segs : List Segment) (w : Whole) → Ends (Session segs) w
  session_ends [] w = ends_here (Session []) w (record { none_passes = refl; none_begins = λ b v on. on })
  session_ends (single line ∷ segs) w =
      let requests : List Request = asked grain w.books (read w.books line) in
      let behind : Behind = behind_line w.books (read w.books line) in
      ends_behind (Session (single line ∷ segs)) (Own requests behind segs) w refl (own_ends requests behind segs w (session_ends segs w))
  session_ends (together block ∷ segs) w =
      ends_behind (Session (together block ∷ segs)) (Faults (faults_asked block.faults) block.actors segs) w refl
      (faults_end (faults_asked block.faults) block.actors segs w (session_ends segs (with_names w block.actors)))

  pub ends : (a : Agenda) (w : Whole) → Ends a w
  ends (Session segs) w = session_ends segs w
  ends (Own requests behind segs) w = own_ends requests behind segs w (session_ends segs w)
  ends (Seconds p segs) w = seconds_from w segs (session_ends segs w) p.seconds p.over p.at_hand p.left
  ends (Faults requests actors segs) w = faults_end requests actors segs w (session_ends segs (with_names w actors))
  ends (Actors scripts segs) w = scripts_end scripts segs w (session_ends segs w)
