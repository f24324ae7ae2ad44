use Rattle.std.proofs.Common.{ℕ, List, sym, subst, ◌∙◌}
use Rattle.std.specs.Prelude.{◌↔◌, Contains}
use Rattle.std.proofs.lemmas.Result.{IfOk-weaker}
use Rattle.fc_base.specs.Need.{ReadsAt}
use Rattle.fc_check_sheet.proofs.Owning.{readers_are}
use Rattle.fc_check_sheet.proofs.view.direct_in.Goals as goal

pub returns : goal.returns
returns c =
    let P : List ℕ → Type 0 = λ z. (d : ℕ) → Contains z d ↔ ReadsAt c.args.sheet.now.slots c.in-Some.from c.in-Some.from d in
    IfOk-weaker c.owners_of.result _ _ (λ maps a. readers_are c.args.sheet.now.slots c.args.map.0 c.in-Some.from c.as_slice.result.now maps (sym c.mapping_place.ensures.value ∙ c.in-Some.is)
    (subst P (sym c.as_slice.ensures) c.in_ok-places.ensures) a) c.owners_of.ensures
