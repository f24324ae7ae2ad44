-- More entries behind a history, and more segments behind a run.
use Rattle.std.proofs.Common.{◌≡◌, ℕ, Bool, true, false, cond, List, [], ◌∷◌, ◌++◌, refl, sym, ◌∙◌, ap, subst}
use Rattle.std.specs.Prelude.{Option, Some, None}
use Rattle.fc_agenda.proofs.Going.{Goes-append}
use Rattle.fc_agenda.specs.Goes.{Goes, stays, passes, begins, answers}
use Rattle.fc_base.specs.declared.behind.Behind.{Behind}
use Rattle.fc_base.specs.declared.behind.Behind.TheVariants.{Passing as PassingSeconds, Mapping as MappingOf, Start, Undo}
use Rattle.fc_base.specs.declared.ids.GrainNo.{GrainNo}
use Rattle.fc_base.specs.declared.request.Reply.{Reply}
use Rattle.fc_base.specs.declared.request.Request.{Request}
use Rattle.fc_base.specs.declared.size.GrainSize.{GrainSize}
use Rattle.fc_blocks.specs.Segments.{Segment, single, together}
use Rattle.fc_entry.specs.declared.entry.Entry.{Entry}
use Rattle.fc_legal.proofs.Naming.{IsLegal-named, IsNamed-none, IsNext-step, begins_named}
use Rattle.fc_legal.specs.Agenda.{Agenda, Reading, Asks, Begins, Session, Own, Seconds, Faults, Actors, behind_entry, behind_last, behind_own, is_done, segment_read, next_of_second, session_rules, without_entry, without_fill}
use Rattle.fc_legal.specs.Legal.{IsLegal}
use Rattle.fc_legal.specs.Run.{IsRun, IsPartialRun, WantsMore}
use Rattle.fc_legal.specs.Scripts.{Script, are_done}
use Rattle.fc_legal.specs.Seconds.{Passing, Work, all_work, next_fill, goes_on, seconds_begun}
use Rattle.fc_legal.specs.Whole.{Whole}

-- A legal history, and entries that are legal after it.
pub IsLegal-append :
    (grain : GrainSize) (w mid last : Whole) (xs ys : List Entry) →
    IsLegal grain w xs mid →
    IsLegal grain mid ys last →
    IsLegal grain w (xs ++ ys) last
IsLegal-append grain w mid last [] ys before after = IsLegal-named grain w mid last ys before after
IsLegal-append grain w mid last (x ∷ xs) ys before after =
    (before.0, before.1, IsLegal-append grain before.0 mid last xs ys before.2 after)

-- Entries that answer an agenda are legal.
pub IsLegal-goes :
    (grain : GrainSize) (read : Reading) (a b : Agenda) (w last : Whole) (xs : List Entry) →
    Goes (session_rules grain read) a w xs b last →
    IsLegal grain w xs last
IsLegal-goes grain read a b w last xs stays = IsNamed-none w
IsLegal-goes grain read a b w last xs (passes {b = then} on way) = IsLegal-goes grain read then b w last xs way
IsLegal-goes grain read a b w last xs (begins {b = then} {v = told} on way) =
    IsLegal-named grain w told last xs (begins_named grain a then w told on) (IsLegal-goes grain read then b told last xs way)
IsLegal-goes grain read a b w last xs (answers {next = next} {entry = entry} {entries = rest} asked right way) =
    (next, IsNext-step grain w next entry right, IsLegal-goes grain read (behind_entry grain a next entry) b next last rest way)

-- ---- more segments behind an agenda

abbrev pub with_segments : List Segment → Agenda → Agenda
with_segments more (Session segs) = Session (segs ++ more)
with_segments more (Own requests behind segs) = Own requests behind (segs ++ more)
with_segments more (Seconds p segs) = Seconds p (segs ++ more)
with_segments more (Faults requests actors segs) = Faults requests actors (segs ++ more)
with_segments more (Actors scripts segs) = Actors scripts (segs ++ more)

asks_alike :
    (grain : GrainSize) (more : List Segment) (a : Agenda) (w : Whole) (asked : ℕ × Request) →
    Asks grain a w asked →
    Asks grain (with_segments more a) w asked
asks_alike grain more (Session segs) w asked h = h
asks_alike grain more (Own [] behind segs) w asked h = h
asks_alike grain more (Own (request ∷ rest) behind segs) w asked h = h
asks_alike grain more (Seconds p segs) w asked h = h
asks_alike grain more (Faults [] actors segs) w asked h = h
asks_alike grain more (Faults (request ∷ rest) actors segs) w asked h = h
asks_alike grain more (Actors scripts segs) w asked h = h

begun_behind : (done : Bool) (more : List Segment) (p : Passing) (segs : List Segment) →
    cond done (Seconds p (segs ++ more)) (Session (segs ++ more)) ≡ with_segments more (cond done (Seconds p segs) (Session segs))
begun_behind true more p segs = refl
begun_behind false more p segs = refl

last_behind : (reply : Reply) (more : List Segment) (next : Whole) (behind : Behind) (segs : List Segment) →
    behind_last next reply behind (segs ++ more) ≡ with_segments more (behind_last next reply behind segs)
last_behind reply more next (PassingSeconds n) segs = begun_behind (is_done reply) more (seconds_begun n (all_work next.books)) segs
last_behind reply more next (MappingOf source preset name) segs = refl
last_behind reply more next (Start volume) segs = refl
last_behind reply more next (Undo map volume) segs = refl

own_behind : (reply : Reply) (more : List Segment) (next : Whole) (rest : List Request) (behind : Behind) (segs : List Segment) →
    behind_own next reply rest behind (segs ++ more) ≡ with_segments more (behind_own next reply rest behind segs)
own_behind reply more next [] behind segs = last_behind reply more next behind segs
own_behind reply more next (request ∷ rest) behind segs = refl

behind_alike :
    (grain : GrainSize) (more : List Segment) (a : Agenda) (next : Whole) (entry : Entry) →
    behind_entry grain (with_segments more a) next entry ≡ with_segments more (behind_entry grain a next entry)
behind_alike grain more (Session segs) next entry = refl
behind_alike grain more (Own [] behind segs) next entry = refl
behind_alike grain more (Own (request ∷ rest) behind segs) next entry = own_behind entry.reply more next rest behind segs
behind_alike grain more (Seconds p segs) next entry = refl
behind_alike grain more (Faults [] actors segs) next entry = refl
behind_alike grain more (Faults (request ∷ rest) actors segs) next entry = refl
behind_alike grain more (Actors scripts segs) next entry = refl

second_behind : (more segs : List Segment) (next : Option Passing) → next_of_second next (segs ++ more) ≡ with_segments more (next_of_second next segs)
second_behind more segs None = refl
second_behind more segs (Some p) = refl

fill_behind :
    (grain : GrainSize) (w : Whole) (p : Passing) (fill : Option (Work × GrainNo)) (more segs : List Segment) (b : Agenda) →
    without_fill grain w p fill segs ≡ Some b →
    without_fill grain w p fill (segs ++ more) ≡ Some (with_segments more b)
fill_behind grain w p None more segs b e =
    let is : next_of_second (goes_on grain w p) segs ≡ b = cc e in
    ap Some (second_behind more segs (goes_on grain w p)) ∙ ap (λ (a : Agenda). Some (with_segments more a)) is
fill_behind grain w p (Some next) more segs b e = absurd (cc e)

block_behind :
    (scripts : List Script) (more segs : List Segment) (done : Bool) (b : Agenda) →
    cond done (Some (Session segs)) None ≡ Some b →
    cond done (Some (Session (segs ++ more))) None ≡ Some (with_segments more b)
block_behind scripts more segs true b e =
    let is : Session segs ≡ b = cc e in
    ap (λ (a : Agenda). Some (with_segments more a)) is
block_behind scripts more segs false b e = absurd (cc e)

read_alike :
    (grain : GrainSize) (read : Reading) (more : List Segment) (w : Whole) (segment : Segment) (segs : List Segment) →
    segment_read grain read w segment (segs ++ more) ≡ with_segments more (segment_read grain read w segment segs)
read_alike grain read more w (single line) segs = refl
read_alike grain read more w (together block) segs = refl

passes_alike :
    (grain : GrainSize) (read : Reading) (more : List Segment) (a b : Agenda) (w : Whole) →
    without_entry grain read a w ≡ Some b →
    without_entry grain read (with_segments more a) w ≡ Some (with_segments more b)
passes_alike grain read more (Session []) b w e = absurd (cc e)
passes_alike grain read more (Session (segment ∷ segs)) b w e =
    let is : segment_read grain read w segment segs ≡ b = cc e in
    ap Some (read_alike grain read more w segment segs) ∙ ap (λ (a : Agenda). Some (with_segments more a)) is
passes_alike grain read more (Own [] behind segs) b w e =
    let is : Session segs ≡ b = cc e in
    ap (λ (a : Agenda). Some (with_segments more a)) is
passes_alike grain read more (Own (request ∷ rest) behind segs) b w e = absurd (cc e)
passes_alike grain read more (Seconds p segs) b w e = fill_behind grain w p (next_fill grain w p) more segs b e
passes_alike grain read more (Faults requests actors segs) b w e = absurd (cc e)
passes_alike grain read more (Actors scripts segs) b w e = block_behind scripts more segs (are_done scripts) b e

begins_alike :
    (grain : GrainSize) (more : List Segment) (a b : Agenda) (w v : Whole) →
    Begins grain a w b v →
    Begins grain (with_segments more a) w (with_segments more b) v
begins_alike grain more (Faults [] actors segs) b w v on = (on.0, ap (with_segments more) on.1)
begins_alike grain more (Faults (request ∷ rest) actors segs) b w v on = absurd on
begins_alike grain more (Session segs) b w v on = absurd on
begins_alike grain more (Own requests behind segs) b w v on = absurd on
begins_alike grain more (Seconds p segs) b w v on = absurd on
begins_alike grain more (Actors scripts segs) b w v on = absurd on

-- What answers an agenda answers it with more segments behind it, which stay.
pub Goes-more_segments :
    (grain : GrainSize) (read : Reading) (more : List Segment) (a b : Agenda) (w last : Whole) (xs : List Entry) →
    Goes (session_rules grain read) a w xs b last →
    Goes (session_rules grain read) (with_segments more a) w xs (with_segments more b) last
Goes-more_segments grain read more a b w last xs stays = stays
Goes-more_segments grain read more a b w last xs (passes {b = then} on way) =
    passes (passes_alike grain read more a then w on) (Goes-more_segments grain read more then b w last xs way)
Goes-more_segments grain read more a b w last xs (begins {b = then} {v = told} on way) =
    begins (begins_alike grain more a then w told on) (Goes-more_segments grain read more then b told last xs way)
Goes-more_segments grain read more a b w last xs (answers {next = next} {entry = entry} {entries = rest} asked right way) =
    let P : Agenda → Type 0 = λ c. Goes (session_rules grain read) c next rest (with_segments more b) last in
    answers (asks_alike grain more a w (entry.actor, entry.request) asked) right
    (subst P (sym (behind_alike grain more a next entry))
    (Goes-more_segments grain read more (behind_entry grain a next entry) b next last rest way))

-- ---- one more segment behind a run

run_then :
    (grain : GrainSize) (read : Reading) (w mid : Whole) (segs more : List Segment) (xs : List Entry) →
    IsRun grain read w segs xs mid →
    Goes (session_rules grain read) (Session (segs ++ more)) w xs (Session more) mid
run_then grain read w mid segs more xs run =
    let P : Agenda → Type 0 = λ b. Goes (session_rules grain read) (Session (segs ++ more)) w xs (with_segments more b) mid in
    subst P run.over (Goes-more_segments grain read more (Session segs) run.end w mid xs run.goes)

-- The segments of a run, and segments that are answered after it: to their end, in part, or up to one more request.
module _ (grain : GrainSize) (read : Reading) (w mid last : Whole) (segs more : List Segment) (xs ys : List Entry) (before : IsRun grain read w segs xs mid) where
  goes_behind :
      (end : Agenda) →
      Goes (session_rules grain read) (Session more) mid ys end last →
      Goes (session_rules grain read) (Session (segs ++ more)) w (xs ++ ys) end last
  goes_behind end after =
      Goes-append (session_rules grain read) (Session (segs ++ more)) (Session more) end w mid last xs ys
      (run_then grain read w mid segs more xs before) after

  pub IsRun-append : IsRun grain read mid more ys last → IsRun grain read w (segs ++ more) (xs ++ ys) last
  IsRun-append after = record { end = after.end; goes = goes_behind after.end after.goes; over = after.over }

  pub IsPartialRun-append : IsPartialRun grain read mid more ys last → IsPartialRun grain read w (segs ++ more) (xs ++ ys) last
  IsPartialRun-append after = record { end = after.end; goes = goes_behind after.end after.goes }

  pub WantsMore-append : WantsMore grain read mid more ys last → WantsMore grain read w (segs ++ more) (xs ++ ys) last
  WantsMore-append after =
      record { end = after.end; goes = goes_behind after.end after.goes; wanted = after.wanted; asks = after.asks }

-- A run of no segments; a part is one of more segments too, and what was answered to its end in part.
pub IsRun-nil : (grain : GrainSize) (read : Reading) (w : Whole) → IsRun grain read w [] [] w
IsRun-nil grain read w = record { end = Session []; goes = stays; over = refl }

pub IsPartialRun-more :
    (grain : GrainSize) (read : Reading) (w last : Whole) (segs more : List Segment) (xs : List Entry) →
    IsPartialRun grain read w segs xs last →
    IsPartialRun grain read w (segs ++ more) xs last
IsPartialRun-more grain read w last segs more xs part =
    record { end = with_segments more part.end; goes = Goes-more_segments grain read more (Session segs) part.end w last xs part.goes }

pub WantsMore-more :
    (grain : GrainSize) (read : Reading) (w last : Whole) (segs more : List Segment) (xs : List Entry) →
    WantsMore grain read w segs xs last →
    WantsMore grain read w (segs ++ more) xs last
WantsMore-more grain read w last segs more xs full =
    record {
      end = with_segments more full.end;
      goes = Goes-more_segments grain read more (Session segs) full.end w last xs full.goes;
      wanted = full.wanted;
      asks = asks_alike grain more full.end last full.wanted full.asks;
    }

-- ---- they are legal

pub IsLegal-run :
    (grain : GrainSize) (read : Reading) (w last : Whole) (segs : List Segment) (xs : List Entry) →
    IsRun grain read w segs xs last →
    IsLegal grain w xs last
IsLegal-run grain read w last segs xs run = IsLegal-goes grain read (Session segs) run.end w last xs run.goes

pub IsLegal-partial :
    (grain : GrainSize) (read : Reading) (w last : Whole) (segs : List Segment) (xs : List Entry) →
    IsPartialRun grain read w segs xs last →
    IsLegal grain w xs last
IsLegal-partial grain read w last segs xs part = IsLegal-goes grain read (Session segs) part.end w last xs part.goes

pub IsLegal-wants :
    (grain : GrainSize) (read : Reading) (w last : Whole) (segs : List Segment) (xs : List Entry) →
    WantsMore grain read w segs xs last →
    IsLegal grain w xs last
IsLegal-wants grain read w last segs xs full = IsLegal-goes grain read (Session segs) full.end w last xs full.goes
