-- A way through a block takes the next requests of its scripts, one by one; and what takes them is such a way.
use Rattle.std.proofs.Common.{◌≡◌, ℕ, ◌+◌, ◌*◌, ◌≤◌, Bool, true, false, cond, Option, Some, None, List, [], ◌∷◌, length, refl, sym, ap, subst, arith}
use Rattle.fc_agenda.proofs.Going.{Goes-pass}
use Rattle.fc_agenda.specs.Goes.{Goes, stays, passes, begins, answers}
use Rattle.fc_base.specs.declared.behind.Behind.{Behind}
use Rattle.fc_base.specs.declared.behind.Behind.TheVariants.{Passing as PassingSeconds, Mapping as MappingOf, Start, Undo}
use Rattle.fc_base.specs.declared.ids.GrainNo.{GrainNo}
use Rattle.fc_base.specs.declared.request.Reply.{Reply}
use Rattle.fc_base.specs.declared.request.Request.{Request}
use Rattle.fc_base.specs.declared.size.GrainSize.{GrainSize}
use Rattle.fc_blocks.specs.Segments.{Segment, single, together}
use Rattle.fc_entry.specs.declared.entry.Entry.{Entry}
use Rattle.fc_legal.specs.Agenda.{Agenda, Actors, Begins, Faults, Own, Reading, Seconds, Session, behind_entry, behind_last, behind_own, is_done, next_of_second, segment_read, session_rules, without_entry, without_fill}
use Rattle.fc_legal.specs.Legal.{AreSteps}
use Rattle.fc_legal.specs.Scripts.{Script, are_done, behind_next}
use Rattle.fc_legal.specs.Seconds.{Passing, Work, all_work, goes_on, next_fill, seconds_begun}
use Rattle.fc_legal.specs.Whole.{Whole}
use Rattle.fc_scripts.proofs.Sorted.{AreNext, TakeNext, all_take, are_all, are_first, first_take, taken_done, want_more, wanted_next}
use Rattle.fc_scripts.specs.Actors.{AreAll, AreFirst, WantMore}
use Rattle.fc_scripts.specs.Law.{OfWays}
use Rattle.fc_scripts.specs.Ways.{IsAsking, IsInto, IsThrough}

-- ---- an agenda never grows: two for each segment that it has still to begin, and one for what it has begun

abbrev extent : Agenda → ℕ
extent (Session segs) = 2 * length segs
extent (Own requests behind segs) = 2 * length segs + 1
extent (Seconds p segs) = 2 * length segs + 1
extent (Faults requests actors segs) = 2 * length segs + 1
extent (Actors scripts segs) = 2 * length segs + 1

is_at : (a b : Agenda) → a ≡ b → extent b ≤ extent a
is_at a b e =
    let P : Agenda → Type 0 = λ c. extent c ≤ extent a in
    subst P e (omega arith)

module _ (grain : GrainSize) (read : Reading) where
  read_less : (w : Whole) (segment : Segment) (segs : List Segment) → extent (segment_read grain read w segment segs) ≤ 2 * length segs + 1
  read_less w (single line) segs = omega arith
  read_less w (together block) segs = omega arith

  second_less : (next : Option Passing) (segs : List Segment) → extent (next_of_second next segs) ≤ 2 * length segs + 1
  second_less None segs = omega arith
  second_less (Some p) segs = omega arith

  fill_less :
      (w : Whole) (p : Passing) (fill : Option (Work × GrainNo)) (segs : List Segment) (b : Agenda) →
      without_fill grain w p fill segs ≡ Some b →
      extent b ≤ 2 * length segs + 1
  fill_less w p None segs b e =
      let is : next_of_second (goes_on grain w p) segs ≡ b = cc e in
      omega (arith, is_at (next_of_second (goes_on grain w p) segs) b is, second_less (goes_on grain w p) segs)
  fill_less w p (Some next) segs b e = absurd (cc e)

  done_is : (segs : List Segment) (done : Bool) (b : Agenda) → ◌≡◌ {A = Option Agenda} (cond done (Some (Session segs)) None) (Some b) → (done ≡ true) × (Session segs ≡ b)
  done_is segs true b e = (refl, cc e)
  done_is segs false b e = absurd (cc e)

  -- a segment that is begun is one less
  begun_less : (segment : Segment) (segs : List Segment) (b : Agenda) (w : Whole) → without_entry grain read (Session (segment ∷ segs)) w ≡ Some b → extent b ≤ 2 * length segs + 1
  begun_less segment segs b w e =
      let is : segment_read grain read w segment segs ≡ b = cc e in
      omega (arith, is_at (segment_read grain read w segment segs) b is, read_less w segment segs)

  passes_less : (a b : Agenda) (w : Whole) → without_entry grain read a w ≡ Some b → extent b ≤ extent a
  passes_less (Session []) b w e = absurd (cc e)
  passes_less (Session (segment ∷ segs)) b w e = omega (arith, begun_less segment segs b w e)
  passes_less (Own [] behind segs) b w e =
      let is : Session segs ≡ b = cc e in
      omega (arith, is_at (Session segs) b is)
  passes_less (Own (request ∷ rest) behind segs) b w e = absurd (cc e)
  passes_less (Seconds p segs) b w e = fill_less w p (next_fill grain w p) segs b e
  passes_less (Faults requests actors segs) b w e = absurd (cc e)
  passes_less (Actors scripts segs) b w e =
      let is : (are_done scripts ≡ true) × (Session segs ≡ b) = done_is segs (are_done scripts) b e in
      omega (arith, is_at (Session segs) b is.1)

  begins_less : (a b : Agenda) (w v : Whole) → Begins grain a w b v → extent b ≤ extent a
  begins_less (Faults [] actors segs) b w v on = omega (arith, is_at _ b (sym on.1))
  begins_less (Faults (request ∷ rest) actors segs) b w v on = absurd on
  begins_less (Session segs) b w v on = absurd on
  begins_less (Own requests behind segs) b w v on = absurd on
  begins_less (Seconds p segs) b w v on = absurd on
  begins_less (Actors scripts segs) b w v on = absurd on

  seconds_less : (done : Bool) (p : Passing) (segs : List Segment) → extent (cond done (Seconds p segs) (Session segs)) ≤ 2 * length segs + 1
  seconds_less true p segs = omega arith
  seconds_less false p segs = omega arith

  last_less : (next : Whole) (reply : Reply) (behind : Behind) (segs : List Segment) → extent (behind_last next reply behind segs) ≤ 2 * length segs + 1
  last_less next reply (PassingSeconds n) segs = seconds_less (is_done reply) (seconds_begun n (all_work next.books)) segs
  last_less next reply (MappingOf source preset name) segs = omega arith
  last_less next reply (Start volume) segs = omega arith
  last_less next reply (Undo map volume) segs = omega arith

  own_less : (next : Whole) (reply : Reply) (rest : List Request) (behind : Behind) (segs : List Segment) → extent (behind_own next reply rest behind segs) ≤ 2 * length segs + 1
  own_less next reply [] behind segs = last_less next reply behind segs
  own_less next reply (request ∷ rest) behind segs = omega arith

  behind_less : (a : Agenda) (next : Whole) (entry : Entry) → extent (behind_entry grain a next entry) ≤ extent a
  behind_less (Session segs) next entry = omega arith
  behind_less (Own [] behind segs) next entry = omega arith
  behind_less (Own (request ∷ rest) behind segs) next entry = own_less next entry.reply rest behind segs
  behind_less (Seconds p segs) next entry = omega arith
  behind_less (Faults [] actors segs) next entry = omega arith
  behind_less (Faults (request ∷ rest) actors segs) next entry = omega arith
  behind_less (Actors scripts segs) next entry = omega arith

  goes_less : (a b : Agenda) (w last : Whole) (xs : List Entry) → Goes (session_rules grain read) a w xs b last → extent b ≤ extent a
  goes_less a b w last xs stays = omega arith
  goes_less a b w last xs (passes {b = then} on way) = omega (arith, passes_less a then w on, goes_less then b w last xs way)
  goes_less a b w last xs (begins {b = then} {v = v} on way) = omega (arith, begins_less a then w v on, goes_less then b v last xs way)
  goes_less a b w last xs (answers {next = next} {entry = entry} {entries = rest} asked right way) =
      omega (arith, behind_less a next entry, goes_less (behind_entry grain a next entry) b next last rest way)

  -- from segments to the same ones nothing is asked
  no_way : (segs : List Segment) (c : Agenda) (w last : Whole) (xs : List Entry) → Goes (session_rules grain read) (Session segs) w xs c last → extent c ≡ 2 * length segs → (xs ≡ []) × (last ≡ w)
  no_way segs c w last xs stays e = (refl, refl)
  no_way [] c w last xs (passes on way) e = absurd (cc on)
  no_way (segment ∷ segs) c w last xs (passes {b = then} on way) e =
      absurd (omega (arith, e, begun_less segment segs then w on, goes_less then c w last xs way))
  no_way segs c w last xs (begins on way) e = absurd on
  no_way segs c w last xs (answers asked right way) e = absurd (cc asked)

  -- ---- the way takes the next requests

  pub into_next :
      (scripts left : List Script) (segs : List Segment) (c : Agenda) (w last : Whole) (xs : List Entry) →
      Goes (session_rules grain read) (Actors scripts segs) w xs c last →
      c ≡ Actors left segs →
      AreNext scripts xs left × AreSteps grain w xs last
  into_next scripts left segs c w last xs stays e =
      let is : scripts ≡ left = cc e in
      (sym is, refl)
  into_next scripts left segs c w last xs (passes {b = then} on way) e =
      let is : (are_done scripts ≡ true) × (Session segs ≡ then) = done_is segs (are_done scripts) then on in
      absurd (omega (arith, is_at (Session segs) then is.1, goes_less then c w last xs way, is_at c (Actors left segs) e))
  into_next scripts left segs c w last xs (begins on way) e = absurd on
  into_next scripts left segs c w last xs (answers {next = next} {entry = entry} {entries = rest} asked right way) e =
      let more : AreNext (behind_next scripts entry.actor) rest left × AreSteps grain next rest last =
      into_next (behind_next scripts entry.actor) left segs c next last rest way e in
      ((asked, more.0), (next, right, more.1))

  pub record TakesAll (scripts : List Script) (w : Whole) (xs : List Entry) (last : Whole) : Type 0 where
    pub left : List Script
    pub next : AreNext scripts xs left
    pub done : are_done left ≡ true
    pub steps : AreSteps grain w xs last

  pub through_all :
      (scripts : List Script) (segs : List Segment) (c : Agenda) (w last : Whole) (xs : List Entry) →
      Goes (session_rules grain read) (Actors scripts segs) w xs c last →
      c ≡ Session segs →
      TakesAll scripts w xs last
  through_all scripts segs c w last xs stays e = absurd (cc e)
  through_all scripts segs c w last xs (passes {b = then} on way) e =
      let is : (are_done scripts ≡ true) × (Session segs ≡ then) = done_is segs (are_done scripts) then on in
      let P : Agenda → Type 0 = λ a. Goes (session_rules grain read) a w xs c last in
      let none : (xs ≡ []) × (last ≡ w) = no_way segs c w last xs (subst P (sym is.1) way) (ap extent e) in
      let Next : List Entry → Type 0 = λ es. AreNext scripts es scripts in
      let Steps : List Entry → Type 0 = λ es. AreSteps grain w es last in
      record { left = scripts; next = subst Next (sym none.0) refl; done = is.0; steps = subst Steps (sym none.0) none.1 }
  through_all scripts segs c w last xs (begins on way) e = absurd on
  through_all scripts segs c w last xs (answers {next = next} {entry = entry} {entries = rest} asked right way) e =
      let more : TakesAll (behind_next scripts entry.actor) next rest last = through_all (behind_next scripts entry.actor) segs c next last rest way e in
      record { left = more.left; next = (asked, more.next); done = more.done; steps = (next, right, more.steps) }

  -- ---- what takes them is a way

  pub next_into :
      (scripts left : List Script) (segs : List Segment) (w last : Whole) (xs : List Entry) →
      AreNext scripts xs left →
      AreSteps grain w xs last →
      Goes (session_rules grain read) (Actors scripts segs) w xs (Actors left segs) last
  next_into scripts left segs w last [] next steps =
      let At : Whole → Type 0 = λ u. Goes (session_rules grain read) (Actors scripts segs) w [] (Actors scripts segs) u in
      let To : List Script → Type 0 = λ ss. Goes (session_rules grain read) (Actors scripts segs) w [] (Actors ss segs) last in
      subst To (sym next) (subst At (sym steps) stays)
  next_into scripts left segs w last (e ∷ es) next steps =
      answers next.0 steps.1 (next_into (behind_next scripts e.actor) left segs steps.0 last es next.1 steps.2)

  pub next_through :
      (scripts left : List Script) (segs : List Segment) (w last : Whole) (xs : List Entry) →
      AreNext scripts xs left →
      are_done left ≡ true →
      AreSteps grain w xs last →
      IsThrough grain read scripts segs w xs last
  next_through scripts left segs w last xs next done steps =
      Goes-pass (session_rules grain read) (Actors scripts segs) (Actors left segs) (Session segs) w last xs
      (next_into scripts left segs w last xs next steps)
      (ap (λ (over : Bool). cond over (Some (Session segs)) None) done)

-- ---- the laws of ways

pub through_law : OfWays IsThrough AreAll
through_law grain read scripts segs w last xs differ = (
  λ way.
      let all : TakesAll grain read scripts w xs last = through_all grain read scripts segs (Session segs) w last xs way refl in
      (all.steps, are_all scripts xs all.left differ all.next all.done),
  λ steps all.
      let taken : TakeNext scripts xs (λ actor. []) = all_take scripts xs differ all in
      next_through grain read scripts taken.end segs w last xs taken.next (taken_done scripts xs differ taken) steps,
)

pub into_law : OfWays IsInto AreFirst
into_law grain read scripts segs w last xs differ = (
  λ way.
      let next : AreNext scripts xs way.left × AreSteps grain w xs last =
      into_next grain read scripts way.left segs (Actors way.left segs) w last xs way.goes refl in
      (next.1, are_first scripts xs way.left differ next.0),
  λ steps first.
      let taken : TakeNext scripts xs first.left = first_take scripts xs differ first in
      record { left = taken.end; goes = next_into grain read scripts taken.end segs w last xs taken.next steps },
)

pub asking_law : OfWays IsAsking WantMore
asking_law grain read scripts segs w last xs differ = (
  λ way.
      let next : AreNext scripts xs way.left × AreSteps grain w xs last =
      into_next grain read scripts way.left segs (Actors way.left segs) w last xs way.goes refl in
      (next.1, want_more scripts xs way.left way.wanted.0 way.wanted.1 differ next.0 way.asks),
  λ steps more.
      let taken : TakeNext scripts xs more.first.left = first_take scripts xs differ more.first in
      record {
        left = taken.end;
        goes = next_into grain read scripts taken.end segs w last xs taken.next steps;
        wanted = (more.script.actor, more.wanted);
        asks = wanted_next scripts xs differ more taken;
      },
)
