-- The first way has the chains.
use Rattle.std.proofs.Common.{◌≡◌, ◌≢◌, Some, [], ap, sym, ◌∙◌}
use Rattle.std.specs.Option.{option_map}
use Rattle.std.proofs.lemmas.Result.{IfOk-weaker}
use Rattle.fc_base.specs.Sheet.{Sheet}
use Rattle.fc_legal.specs.Whole.{Whole}
use Rattle.fc_view.specs.Behind.{first_sheet}
use Rattle.fc_view.proofs.Following.{first_none}
use Rattle.fc_view.proofs.steps.first_chains.Goals as goal

pub returns-in-Some : goal.returns-in-Some
returns-in-Some c =
    IfOk-weaker c.copy.result (λ (s : Sheet). s ≡ c.sheet.result.now) (λ (s : Sheet). c.args.candidates.now.ways ≢ [] → first_sheet c.args.candidates.now ≡ Some s)
    (λ s same some. ap (option_map (λ (w : Whole). w.books.sheet)) (sym c.in-Some.ensures) ∙ ap Some (sym c.sheet.ensures ∙ sym same)) c.copy.ensures

pub returns-in-None : goal.returns-in-None
returns-in-None c = λ some. absurd (some (first_none c.args.candidates.now.ways c.in-None.ensures))
