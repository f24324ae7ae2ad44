use Rattle.std.proofs.Common.{◌∙◌, ap, sym}
use Rattle.std.proofs.lemmas.Option.{IfSome_then}
use Rattle.fc_merge.proofs.Steps.{gives, never_empty, none_begins}
use Rattle.fc_merge.specs.Merging.{Own}
use Rattle.fc_merge.proofs.merging.take_next.Goals as goal

pub returns-in_err-place-clause-none : goal.returns-in_err-place-clause-none
returns-in_err-place-clause-none c = λ none. none_begins c.args.number c.args.lists.now (sym c.in_err-place.ensures)

pub returns-clause-taken : goal.returns-clause-taken
returns-clause-taken c =
    IfSome_then c.take_first.result c.take_first.ensures.taken
    (λ entry is.
    gives c.args.number c.in_ok-place.place c.args.lists.now c.index-lists-place.result c.take_first.new.self entry
    (sym c.in_ok-place.ensures) c.index-lists-place.is (c.index-lists-place.is ∙ is))

pub returns-clause-none : goal.returns-clause-none
returns-clause-none c =
    λ none.
    absurd (never_empty c.args.number c.in_ok-place.place c.args.lists.now c.index-lists-place.result
    (sym c.in_ok-place.ensures) c.index-lists-place.is (ap (λ (own : Own). own.entries) c.index-lists-place.is ∙ c.take_first.ensures.none none))

pub returns-clause-stay : goal.returns-clause-stay
returns-clause-stay c =
    λ none.
    absurd (never_empty c.args.number c.in_ok-place.place c.args.lists.now c.index-lists-place.result
    (sym c.in_ok-place.ensures) c.index-lists-place.is (ap (λ (own : Own). own.entries) c.index-lists-place.is ∙ c.take_first.ensures.none none))
