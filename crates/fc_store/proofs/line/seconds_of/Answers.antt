-- No other command lets a second pass.
use Rattle.fc_stands.proofs.Asked.{passes_none}
use Rattle.fc_store.proofs.line.seconds_of.Goals as goal

pub returns-in_default : goal.returns-in_default
returns-in_default c = λ b. passes_none b c.args.command.now c.requires c.in_default.not-Advance
