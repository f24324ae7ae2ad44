use Rattle.fc_check_sheet.proofs.Needing.{all_holders}
use Rattle.fc_check_sheet.proofs.unneeded.mark_holders.Goals as goal

pub returns : goal.returns
returns c =
    all_holders c.args.sheet.now.slots c.args.place c.loop-grain.grain c.width-grain-end.result c.args.needed.now c.loop-grain.needed c.requires.live c.width-grain-end.ensures c.loop-grain-test.false c.loop-grain.invariant
