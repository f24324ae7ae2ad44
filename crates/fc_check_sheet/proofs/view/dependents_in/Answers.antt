use Rattle.std.proofs.Common.{ℕ, List, sym, subst, ◌∙◌}
use Rattle.std.proofs.lemmas.Result.{IfOk-weaker}
use Rattle.model_slots.specs.Answers.{HasDependents}
use Rattle.fc_check_sheet.proofs.Owning.{dependents_are}
use Rattle.fc_check_sheet.proofs.view.dependents_in.Goals as goal

pub returns : goal.returns
returns c =
    let P : List ℕ → Type 0 = λ z. HasDependents c.args.sheet.now.slots c.in-Some.on z in
    IfOk-weaker c.owners_of.result _ _ (λ maps a. dependents_are c.args.sheet.now.slots c.args.map.0 c.in-Some.on c.as_slice.result.now maps (sym c.mapping_place.ensures.value ∙ c.in-Some.is)
    (subst P (sym c.as_slice.ensures) c.in_ok-places.ensures) a) c.owners_of.ensures
