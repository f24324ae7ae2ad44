use Rattle.std.proofs.Common.{◌≡◌, ◌∙◌, false, IfOk, ap, ap₂, subst}
use Rattle.std.proofs.lemmas.Result.{IfOk-weaker}
use Rattle.clap.specs.Words.{App, app_of, with_subcommand}
use Rattle.clap.specs.declared.builder.command.Command.TheViews.{out-Command as fields_of}
use Rattle.fc_args.proofs.program.with_command.Goals as goal

pub returns-in-Ok-made : goal.returns-in-Ok-made
returns-in-Ok-made c = λ whole part first second.
    let one = subst (λ made. IfOk made (λ m. app_of m ≡ whole)) c.in-Ok.is first in
    let two = subst (λ made. IfOk made (λ m. (app_of m ≡ part) × ((fields_of m).has_globals ≡ false))) c.in-Ok-made.is second in
    IfOk-weaker c.subcommand.result _ _ (λ r added. added.shape two.1 ∙ ap₂ with_subcommand one (ap (λ (a : App). a.top) two.0)) c.subcommand.ensures
