use Rattle.std.proofs.Common.{sym, ◌∙◌, ap, option_copied}
use Rattle.fc_desk.proofs.Applying.{object_kept, none_kept}
use Rattle.fc_desk.proofs.control.Control.reserve_object.Goals as goal

pub returns-in-Some-clause-ok : goal.returns-in-Some-clause-ok
returns-in-Some-clause-ok c =
    object_kept c.reserve.result c.reserve.new.self.reserved c.args.changes.now c.in-Some.change.now c.requires (sym c.first_added.ensures ∙ ap option_copied c.in-Some.is) c.reserve.ensures.ok

pub returns-in-None-clause-ok : goal.returns-in-None-clause-ok
returns-in-None-clause-ok c =
    none_kept c.args.self.now.reserved c.args.changes.now c.requires (sym c.first_added.ensures ∙ ap option_copied c.in-None.is)
