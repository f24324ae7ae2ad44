use Rattle.std.proofs.Common.{List, ap, ◌∙◌}
use Rattle.fc_base.specs.declared.behind.Behind.{Behind}
use Rattle.fc_base.specs.declared.request.Request.{Request}
use Rattle.fc_check_lines.specs.declared.lines.Asking.TheVariants.{Own}
use Rattle.fc_check_lines.proofs.lines.ask_more.Goals as goal

pub returns : goal.returns
returns c =
    ap (λ (requests : List Request). Own requests c.in_ok-coming.coming.behind) c.in_ok-requests.ensures
    ∙ ap (λ (coming : List Request × Behind). Own coming.0 coming.1) c.in_ok-coming.ensures
