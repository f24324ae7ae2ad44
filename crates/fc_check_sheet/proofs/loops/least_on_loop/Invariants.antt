use Rattle.fc_check_sheet.specs.Links.{HasLink}
use Rattle.fc_check_sheet.specs.Loops.{LeastOnLoop}
use Rattle.fc_check_sheet.proofs.loops.least_on_loop.Given as goal

abbrev pub invariant-loop-volume : goal.invariant-loop-volume
invariant-loop-volume l = LeastOnLoop (HasLink l.links) l.volumes l.volume-index l.least
