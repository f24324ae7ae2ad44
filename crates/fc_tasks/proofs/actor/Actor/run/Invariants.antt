use Rattle.std.proofs.Common.{◌≡◌}
use Rattle.fc_tasks.specs.Acting.{HasWent, IsActing, IsOpened, IsSamePass}
use Rattle.fc_tasks.proofs.actor.Actor.run.Given as goal

abbrev pub invariant-loop-stop : goal.invariant-loop-stop
invariant-loop-stop g l = record {
  acting : IsActing g.S.Script.needed g.S.Script.suits g.S.Script.goes l.yard l.self;
  same : IsSamePass l.fn.self.pass.view l.self.pass.view;
  went : HasWent g.S.Script.needed g.S.Script.suits g.S.Script.goes l.fn.self l.self;
}

abbrev pub decreases-loop-stop : goal.decreases-loop-stop
decreases-loop-stop g l = g.S.Script.most l.self.script
