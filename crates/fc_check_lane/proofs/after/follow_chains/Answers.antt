use Rattle.fc_rules.specs.LaneRight.{done_write}
use Rattle.fc_check_lane.proofs.Following.{chains_plain}
use Rattle.fc_check_lane.proofs.after.follow_chains.Goals as goal

pub returns : goal.returns
returns c =
    let plain = chains_plain c.args.size c.args.sheet.now (done_write c.args.entry.now.request c.args.entry.now.reply) c.args.entry.now.moves c.args.entry.now.torn in
    cc
