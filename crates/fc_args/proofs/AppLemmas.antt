-- What a command has after an argument or a command is added to it.
use Rattle.std.proofs.Common.{◌≡◌, ◌∙◌, false, ◌||◌, ap₂}
use Rattle.clap.specs.Words.{AddsArg, App, Rule, app_of, rule_of, with_rule}
use Rattle.clap.specs.declared.builder.arg.Arg.{Arg}
use Rattle.clap.specs.declared.builder.command.Command.{Command}
use Rattle.clap.specs.declared.builder.command.Command.TheViews.{out-Command as fields_of}

-- an argument that isn't global
pub arg_added : (old new : Command) (arg : Arg) (app : App) (rule : Rule) → AddsArg old arg new → (app_of old ≡ app) × ((fields_of old).has_globals ≡ false)
    → rule_of arg ≡ rule → arg.global ≡ false → (app_of new ≡ with_rule app rule) × ((fields_of new).has_globals ≡ false)
arg_added old new arg app rule added has is local = (added.shape local ∙ ap₂ with_rule has.0 is, added.globals ∙ ap₂ ◌||◌ has.1 local)
