-- A command that is no access is decided.
use Rattle.fc_prepare.proofs.Asking.{decided_of}
use Rattle.fc_prepare.proofs.items.command_item.Goals as goal

pub other_item-requires : goal.other_item-requires
other_item-requires g c = decided_of c.args.command.now c.in_default.not-Read c.in_default.not-Write c.requires.0
