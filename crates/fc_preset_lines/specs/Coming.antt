-- What is asked behind a reply, as contracts see it.
use Rattle.std.specs.Prelude.{List, map}
use Rattle.fc_base.specs.declared.behind.Behind.{Behind}
use Rattle.fc_base.specs.declared.command.Command.{Command}
use Rattle.fc_base.specs.declared.request.Request.{Request}
use Rattle.fc_base.specs.declared.request.Request.TheVariants.{Command as Asked}
use Rattle.fc_preset_lines.specs.declared.coming.Coming.{Coming}

-- These requests, in order, and what is asked behind the last of them.
abbrev pub coming_of : Coming → List Request × Behind
coming_of coming = (map (λ (command : Command). Asked command) coming.commands.items, coming.behind)
