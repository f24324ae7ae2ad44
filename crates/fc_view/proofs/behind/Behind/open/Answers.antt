use Rattle.fc_view.proofs.Following.{behind_opened}
use Rattle.fc_view.proofs.behind.Behind.open.Goals as goal

pub returns-clause-behind : goal.returns-clause-behind
returns-clause-behind c =
    behind_opened c.args.header.now _ c.in_ok-progress.ensures.progress c.in_ok-progress.ensures.none c.new.ensures c.new-2.ensures
