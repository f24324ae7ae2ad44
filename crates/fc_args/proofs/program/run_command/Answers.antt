use Rattle.std.proofs.Common.{◌∙◌, codes}
use Rattle.std.proofs.lemmas.Result.{IfOk-weaker}
use Rattle.clap.specs.Words.{App, new_app, with_rule}
use Rattle.fc_args.specs.Program.{flag_rule, valued_rule}
use Rattle.fc_args.proofs.AppLemmas.{arg_added}
use Rattle.fc_args.proofs.program.run_command.Goals as goal

abbrev bare : App
bare = new_app (codes "run")

abbrev with_grain : App
with_grain = with_rule bare (valued_rule (codes "grain"))

abbrev with_trace : App
with_trace = with_rule with_grain (flag_rule (codes "trace"))

pub returns : goal.returns
returns c =
    let one = arg_added _ _ _ bare (valued_rule (codes "grain")) c.in_ok-arg.ensures (c.command_if_built.ensures.app, c.command_if_built.ensures.local)
    c.valued_option.ensures.rule c.valued_option.ensures.local in
    let two = arg_added _ _ _ with_grain (flag_rule (codes "trace")) c.in_ok-arg-2.ensures one
    (c.shown_if_built.ensures.rule ∙ c.flag.ensures.rule) (c.shown_if_built.ensures.local ∙ c.flag.ensures.local) in
    IfOk-weaker c.arg-3.result _ _ (λ r added. arg_added _ r _ with_trace (valued_rule (codes "cache")) added two
    (c.shown_if_built-2.ensures.rule ∙ c.valued_option-2.ensures.rule) (c.shown_if_built-2.ensures.local ∙ c.valued_option-2.ensures.local)) c.arg-3.ensures
