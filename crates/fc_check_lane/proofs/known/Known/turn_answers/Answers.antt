use Rattle.std.proofs.Common.{sym, ◌∙◌}
use Rattle.fc_check_lane.proofs.Answering.{turn_fit, idle_fit}
use Rattle.fc_check_lane.proofs.known.Known.turn_answers.Goals as goal

pub returns-in-Some : goal.returns-in-Some
returns-in-Some c = turn_fit c.args.self.now c.args.work c.args.lane _ _ c.args.entry.now _ (sym c.in-Some.is ∙ c.next_work-next.ensures) c.fill_answers.ensures

pub returns-in-None : goal.returns-in-None
returns-in-None c = idle_fit c.args.self.now c.args.work c.args.lane c.args.entry.now _ (sym c.in-None.is ∙ c.next_work-next.ensures) c.is_idle.ensures
