use Rattle.std.proofs.Common.{◌+◌, ◌*◌, vec_len}
use Rattle.fc_tasks.proofs.beside.+act_all+fn-act_all-join+arg2.Given as goal

abbrev pub decreases-act_all : goal.decreases-act_all
decreases-act_all g l = 2 * vec_len l.scripts

abbrev pub decreases-join+arg2 : goal.decreases-join+arg2
decreases-join+arg2 g l = 2 * vec_len l.scripts + 1
