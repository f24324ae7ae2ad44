use Rattle.std.proofs.lemmas.List.{append-nil}
use Rattle.fc_entry.proofs.command_text.put_group.Goals as goal

pub returns-in-Some : goal.returns-in-Some
returns-in-Some g c = rw (c.in-Some.is, append-nil) c.put_reference.ensures
