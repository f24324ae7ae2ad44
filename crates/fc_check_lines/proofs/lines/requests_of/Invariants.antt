use Rattle.std.proofs.Common.{◌≡◌, map}
use Rattle.fc_base.specs.declared.command.Command.{Command}
use Rattle.fc_base.specs.declared.request.Request.TheVariants.{Command as Asked}
use Rattle.fc_check_lines.proofs.lines.requests_of.Given as goal

-- the commands before this one are asked
abbrev pub invariant-loop-command : goal.invariant-loop-command
invariant-loop-command l = l.requests ≡ map (λ (command : Command). Asked command) l.yielded
