use Rattle.std.proofs.Common.{length}
use Rattle.fc_check_sheet.proofs.pool.+least_pool.Given as goal

abbrev pub decreases-least_pool : goal.decreases-least_pool
decreases-least_pool l = length l.lanes.now
