use Rattle.std.proofs.Common.{◌∙◌}
use Rattle.std.proofs.lemmas.Result.{on_ok_weaker}
use Rattle.fc_model.proofs.AllGrains.{step_every}
use Rattle.fc_model.proofs.sheet.PlainSheet.step_all.Goals as goal

pub returns : goal.returns
returns c = on_ok_weaker c.do_event.result (λ e. e ∙ step_every c.args.self.now c.args.event.now) c.do_event.ensures
