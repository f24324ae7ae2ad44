use Rattle.std.proofs.Common.{refl}
use Rattle.fc_registry.proofs.Changes.{asks_for_itself}
use Rattle.fc_registry.proofs.Registry.apply.Goals as goal

pub add_kept-requires-clause-kept : goal.add_kept-requires-clause-kept
add_kept-requires-clause-kept c =
    let kept = c.requires.reserved c.args.change.now (asks_for_itself c.args.change.now c.in-AddVolume.is) in
    rw kept refl

pub returns-in-AddVolume-clause-tables : goal.returns-in-AddVolume-clause-tables
returns-in-AddVolume-clause-tables c =
    let kept = c.requires.reserved c.args.change.now (asks_for_itself c.args.change.now c.in-AddVolume.is) in
    rw kept at c.add_kept.ensures.tables
