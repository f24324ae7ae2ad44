use Rattle.std.proofs.Common.{sym, ◌∙◌}
use Rattle.fc_diff.proofs.Events.{left_row}
use Rattle.fc_diff.proofs.tracked.Tracked.take_leaving.Goals as goal

pub returns-then-names : goal.returns-then-names
returns-then-names c =
    let named = sym c.names.ensures ∙ c.if-names.true in
    left_row (record { map = c.self.inside.map; source = c.self.inside.source; target = c.self.inside.target; into = c.self.inside.into; same = c.self.inside.same }) c.args.self.now c.self.view_is
    c.args.target c.args.held.now c.keep_all.new.self c.keep_all.ensures named (c.requires named)
