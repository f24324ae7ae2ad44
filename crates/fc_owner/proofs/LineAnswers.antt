-- A line more: what was answered goes on to be a run of lines, and the history only grows.
use Rattle.std.proofs.Common.{◌≡◌, ℕ, suc, ◌<◌, List, [], ◌∷◌, ◌++◌, codes, length, refl, sym, ◌∙◌, ap, subst, arith, Result, Ok, Err, Option, Some, None, append-nil}
use Rattle.std.specs.Option.{option_map}
use Rattle.std.specs.List.{All}
use Rattle.std.proofs.lemmas.List.Elements.{All-append, All-cons, All-nil}
use Rattle.fc_agenda.proofs.Going.{GoesSome-whole, GoesSome-asking}
use Rattle.fc_agenda.specs.Goes.{Goes, stays, passes, begins, answers, GoesSome}
use Rattle.fc_base.specs.declared.ids.GrainNo.{GrainNo}
use Rattle.fc_base.specs.declared.request.Request.{Request}
use Rattle.fc_base.specs.declared.size.GrainSize.{GrainSize}
use Rattle.fc_blocks.specs.Blocks.{Opened}
use Rattle.fc_blocks.specs.Segments.{Segment, cut}
use Rattle.fc_entry.specs.HistoryState.{HistoryState}
use Rattle.fc_entry.specs.Text.{HasNames}
use Rattle.fc_entry.specs.declared.entry.Entry.{Entry}
use Rattle.fc_entry.specs.declared.stop.Stop.{Stop}
use Rattle.fc_entry.specs.declared.stop.Stop.TheVariants.{LogFull, NoMemory}
use Rattle.fc_legal.proofs.Alone.{AreSteps-goes, behind_alone, main_asks, none_begins, passes_alone}
use Rattle.fc_legal.proofs.Appending.{IsRun-append, IsPartialRun-append, WantsMore-append}
use Rattle.fc_legal.specs.Added.{Adds, Answered, IsOf, StaysUp}
use Rattle.fc_legal.specs.Agenda.{Agenda, Asks, Reading, Session, Own, Seconds, Faults, Actors, behind_entry, next_asked, session_rules}
use Rattle.fc_legal.specs.Run.{IsRun, IsPartialRun, WantsMore}
use Rattle.fc_legal.specs.Seconds.{Work, fill_of, next_fill}
use Rattle.fc_legal.specs.Whole.{Whole}
use Rattle.fc_legal.specs.WithoutBlocks.{IsWithoutBlocks}
use Rattle.fc_run.specs.Runs.{GrowsTo, LineLeaves}
use Rattle.fc_owner.specs.Reading.{reading}
use Rattle.fc_owner.specs.StoreRuns.{runs_of}
use Rattle.law_together.proofs.Kept.{AreSteps-keeps}

-- ---- one line behind others

-- A line was taken, which ends these segments.
pub line_leaves :
    (answer : Result (Unit {0}) Stop) (grain : GrainSize) (w mid : Whole) (GoesOn : Option Opened → Type 0) (Stands : HistoryState → Whole → Type 0) (Kept : Type 0) (Now : Whole → Type 0)
    (lines more : List (List ℕ)) (ended : List Segment) (old new : HistoryState) →
    (cut more).segments ≡ (cut lines).segments ++ ended →
    GoesOn (cut more).open_block →
    IsRun grain reading w (cut lines).segments old.entries mid →
    Answered answer Now (session_rules grain reading) (Session ended) mid old new →
    StaysUp answer ((last : Whole) → Now last → Stands new last) →
    Kept →
    LineLeaves answer (runs_of grain w GoesOn Stands Kept) more new
line_leaves (Ok done) grain w mid GoesOn Stands Kept Now lines more ended old new segments goes_on run answered up kept =
    let P : List Entry → Type 0 = λ es. IsRun grain reading w (cut more).segments es answered.0 in
    let Q : List Segment → Type 0 = λ segs. IsRun grain reading w segs (old.entries ++ answered.2.more) answered.0 in
    record {
      last = answered.0;
      told = answered.1.1;
      stands = up answered.0 answered.1.0;
      holds = (
        subst P (sym answered.2.entries)
            (subst Q (sym segments) (IsRun-append grain reading w mid answered.0 (cut lines).segments ended old.entries answered.2.more run answered.2.are)),
        goes_on,
      );
    }
line_leaves (Err LogFull) grain w mid GoesOn Stands Kept Now lines more ended old new segments goes_on run answered up kept =
    let at = answered.1 in
    let P : List Entry → Type 0 = λ es. WantsMore grain reading w (cut more).segments es at.0 in
    let Q : List Segment → Type 0 = λ segs. WantsMore grain reading w segs (old.entries ++ at.2.more) at.0 in (
      record {
        last = at.0;
        told = at.1.1;
        stands = up at.0 at.1.0;
        holds = subst P (sym at.2.entries)
            (subst Q (sym segments) (WantsMore-append grain reading w mid at.0 (cut lines).segments ended old.entries at.2.more run at.2.are));
      },
      answered.0,
    )
line_leaves (Err NoMemory) grain w mid GoesOn Stands Kept Now lines more ended old new segments goes_on run answered up kept =
    let P : List Entry → Type 0 = λ es. IsPartialRun grain reading w (cut more).segments es answered.0 in
    let Q : List Segment → Type 0 = λ segs. IsPartialRun grain reading w segs (old.entries ++ answered.2.more) answered.0 in
    record {
      last = answered.0;
      told = answered.1;
      stands = kept;
      holds = subst P (sym answered.2.entries)
          (subst Q (sym segments) (IsPartialRun-append grain reading w mid answered.0 (cut lines).segments ended old.entries answered.2.more run answered.2.are));
    }

-- ---- what an answer adds

-- Some first entries of the agenda, after which as many actors have names as before.
pub record AddsSome (grain : GrainSize) (read : Reading) (a : Agenda) (w : Whole) (old new : HistoryState) : Type 0 where
  pub last : Whole
  pub told : IsOf last new
  pub adds : Adds old new (λ more. GoesSome (session_rules grain read) a w more last)

pub adds_some :
    (answer : Result (Unit {0}) Stop) (grain : GrainSize) (read : Reading) (a : Agenda) (w : Whole) (Now : Whole → Type 0) (old new : HistoryState) →
    Answered answer Now (session_rules grain read) a w old new →
    AddsSome grain read a w old new
adds_some (Ok done) grain read a w Now old new answered = record {
  last = answered.0;
  told = answered.1.1;
  adds = record {
    more = answered.2.more;
    entries = answered.2.entries;
    are = GoesSome-whole (session_rules grain read) a w answered.0 answered.2.more answered.2.are;
  };
}
adds_some (Err LogFull) grain read a w Now old new answered = record {
  last = answered.1.0;
  told = answered.1.1.1;
  adds = record {
    more = answered.1.2.more;
    entries = answered.1.2.entries;
    are = GoesSome-asking (session_rules grain read) a w answered.1.0 answered.1.2.more answered.1.2.are;
  };
}
adds_some (Err NoMemory) grain read a w Now old new answered = record { last = answered.0; told = answered.1; adds = answered.2 }

-- ---- all is asked by main

abbrev asker : Option (ℕ × Request) → ℕ
asker None = 0
asker (Some asked) = asked.0

fill_by_main : (next : Option (Work × GrainNo)) → asker (option_map {U = ℕ × Request} (λ (fill : Work × GrainNo). (0, fill_of fill.0 fill.1)) next) ≡ 0
fill_by_main None = refl
fill_by_main (Some fill) = refl

next_by_main : (grain : GrainSize) (a : Agenda) (w : Whole) → asker (next_asked grain a w) ≡ 0
next_by_main grain (Session segs) w = refl
next_by_main grain (Own [] behind segs) w = refl
next_by_main grain (Own (own ∷ rest) behind segs) w = refl
next_by_main grain (Seconds p segs) w = fill_by_main (next_fill grain w p)
next_by_main grain (Faults [] actors segs) w = refl
next_by_main grain (Faults (request ∷ rest) actors segs) w = refl
next_by_main grain (Actors scripts segs) w = refl

asked_by_main : (grain : GrainSize) (read : Reading) (a : Agenda) (w : Whole) (actor : ℕ) (request : Request) → IsWithoutBlocks a → Asks grain a w (actor, request) → actor ≡ 0
asked_by_main grain read a w actor request alone asks = sym (ap asker (main_asks grain read a w (actor, request) alone asks)) ∙ next_by_main grain a w

abbrev IsMains : Entry → Type 0
IsMains entry = entry.actor ≡ 0

goes_by_main :
    (grain : GrainSize) (read : Reading) (a b : Agenda) (w last : Whole) (xs : List Entry) →
    IsWithoutBlocks a →
    Goes (session_rules grain read) a w xs b last →
    All IsMains xs
goes_by_main grain read a b w last xs alone stays = All-nil IsMains
goes_by_main grain read a b w last xs alone (passes {b = then} on way) =
    goes_by_main grain read then b w last xs (passes_alone grain read a then w alone on) way
goes_by_main grain read a b w last xs alone (begins {b = then} {v = v} on way) = absurd (none_begins grain read a then w v alone on)
goes_by_main grain read a b w last xs alone (answers {next = next} {entry = entry} {entries = rest} asked right way) =
    All-cons IsMains entry rest (asked_by_main grain read a w entry.actor entry.request alone asked)
    (goes_by_main grain read (behind_entry grain a next entry) b next last rest (behind_alone grain read a next entry alone) way)

-- ---- the history only grows, and each entry's actor has a name

actors_stay :
    (grain : GrainSize) (read : Reading) (a : Agenda) (w : Whole) (old new : HistoryState) →
    IsWithoutBlocks a →
    IsOf w old →
    AddsSome grain read a w old new →
    new.actors ≡ old.actors
actors_stay grain read a w old new alone told some =
    sym some.told.actors
    ∙ ((AreSteps-keeps grain w some.last some.adds.more (AreSteps-goes grain read a some.adds.are.end w some.last some.adds.more alone some.adds.are.goes)).actors
    ∙ told.actors)

pub history_grows :
    (grain : GrainSize) (read : Reading) (a : Agenda) (w : Whole) (old new : HistoryState) →
    IsWithoutBlocks a →
    IsOf w old →
    AddsSome grain read a w old new →
    GrowsTo old new
history_grows grain read a w old new alone told some = record {
  names = [];
  entries = some.adds.more;
  actors_are = actors_stay grain read a w old new alone told some ∙ sym (append-nil old.actors);
  entries_are = some.adds.entries;
}

pub names_stay :
    (grain : GrainSize) (read : Reading) (a : Agenda) (w : Whole) (names : List (List ℕ)) (old new : HistoryState) →
    IsWithoutBlocks a →
    IsOf w old →
    old.actors ≡ codes "main" ∷ names →
    AddsSome grain read a w old new →
    HasNames old →
    HasNames new
names_stay grain read a w names old new alone told main some named =
    let actors : new.actors ≡ old.actors = actors_stay grain read a w old new alone told some in
    let some_name : length old.actors ≡ suc (length names) = ap length main in
    let P : List (List ℕ) → Type 0 = λ names. All (λ (entry : Entry). entry.actor < length names) new.entries in
    let Q : List Entry → Type 0 = λ es. All (λ (entry : Entry). entry.actor < length old.actors) es in
    subst P (sym actors)
    (subst Q (sym some.adds.entries)
    (All-append (λ (entry : Entry). entry.actor < length old.actors) old.entries some.adds.more named
    (λ i d inside.
    omega (
      arith,
      some_name,
      goes_by_main grain read a some.adds.are.end w some.last some.adds.more alone some.adds.are.goes i d inside,
    ))))
