-- One way behind another, and what the ways have in common.
use Rattle.std.proofs.Common.{List, [], ◌∷◌, ◌++◌, subst}
use Rattle.std.proofs.lemmas.List.{append-nil}
use Rattle.fc_entry.specs.declared.entry.Entry.{Entry}
use Rattle.fc_agenda.specs.Rules.{Rules}
use Rattle.fc_agenda.specs.Goes.{Goes, stays, passes, begins, answers, GoesToEnd, GoesSome, GoesAsking}

-- One way behind another.
pub Goes-append :
    {Told Agenda : Type 0} (rules : Rules Told Agenda) (a b c : Agenda) (w mid last : Told) (xs ys : List Entry) →
    Goes rules a w xs b mid →
    Goes rules b mid ys c last →
    Goes rules a w (xs ++ ys) c last
Goes-append rules a b c w mid last xs ys stays after = after
Goes-append rules a b c w mid last xs ys (passes {b = then} on way) after =
    passes on (Goes-append rules then b c w mid last xs ys way after)
Goes-append rules a b c w mid last xs ys (begins {b = then} {v = told} on way) after =
    begins on (Goes-append rules then b c told mid last xs ys way after)
Goes-append rules a b c w mid last xs ys (answers {next = next} {entry = entry} {entries = rest} asked right way) after =
    answers asked right (Goes-append rules (rules.after a next entry) b c next mid last rest ys way after)

-- It goes on without an entry.
pub Goes-pass :
    {Told Agenda : Type 0} (rules : Rules Told Agenda) (a b c : Agenda) (w last : Told) (xs : List Entry) →
    Goes rules a w xs b last →
    rules.Passes b last c →
    Goes rules a w xs c last
Goes-pass rules a b c w last xs before on =
    let P : List Entry → Type 0 = λ es. Goes rules a w es c last in
    subst P (append-nil xs) (Goes-append rules a b c w last last xs [] before (passes on stays))

-- It goes on without an entry, and something more is told.
pub Goes-begin :
    {Told Agenda : Type 0} (rules : Rules Told Agenda) (a b c : Agenda) (w mid last : Told) (xs : List Entry) →
    Goes rules a w xs b mid →
    rules.Begins b mid c last →
    Goes rules a w xs c last
Goes-begin rules a b c w mid last xs before on =
    let P : List Entry → Type 0 = λ es. Goes rules a w es c last in
    subst P (append-nil xs) (Goes-append rules a b c w mid last xs [] before (begins on stays))

-- It goes on by an entry.
pub Goes-answer :
    {Told Agenda : Type 0} (rules : Rules Told Agenda) (a b : Agenda) (w mid next : Told) (xs : List Entry) (entry : Entry) →
    Goes rules a w xs b mid →
    rules.Asks b mid (entry.actor, entry.request) →
    rules.Right mid entry next →
    Goes rules a w (xs ++ entry ∷ []) (rules.after b next entry) next
Goes-answer rules a b w mid next xs entry before asked right =
    Goes-append rules a b (rules.after b next entry) w mid next xs (entry ∷ []) before (answers asked right stays)

-- What was answered whole, or up to one more request, was answered in part.
pub GoesSome-whole :
    {Told Agenda : Type 0} (rules : Rules Told Agenda) (a : Agenda) (w last : Told) (xs : List Entry) →
    GoesToEnd rules a w xs last →
    GoesSome rules a w xs last
GoesSome-whole rules a w last xs whole = record { end = whole.end; goes = whole.goes }

pub GoesSome-asking :
    {Told Agenda : Type 0} (rules : Rules Told Agenda) (a : Agenda) (w last : Told) (xs : List Entry) →
    GoesAsking rules a w xs last →
    GoesSome rules a w xs last
GoesSome-asking rules a w last xs full = record { end = full.end; goes = full.goes }
