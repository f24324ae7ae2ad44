use Rattle.std.proofs.Common.{ap}
use Rattle.fc_grains.specs.Grains.{GrainsState}
use Rattle.fc_apply.proofs.Arming.{idle_by, idle_made, idle_removed, idle_same}
use Rattle.fc_apply.proofs.Volumes.{quiet_without}
use Rattle.fc_apply.proofs.parts.do_event.Goals as goal

pub returns-in-Remove-clause-quiet : goal.returns-in-Remove-clause-quiet
returns-in-Remove-clause-quiet g c quiet _ = quiet_without c.args.grains.now c.remove.new.self c.in-Remove.volume.0 quiet c.remove.ensures

pub returns-in-Remove-clause-idle : goal.returns-in-Remove-clause-idle
returns-in-Remove-clause-idle g c = idle_removed c.args.grains.now c.remove.new.self c.in-Remove.volume.0 c.remove.ensures

pub returns-in-Make-clause-idle : goal.returns-in-Make-clause-idle
returns-in-Make-clause-idle g c = idle_made c.args.grains.now c.make.new.self c.in-Make.volume.0 c.make.ensures

pub returns-in-Access-clause-idle : goal.returns-in-Access-clause-idle
returns-in-Access-clause-idle g c = idle_same c.args.grains.now

pub returns-in-Work-clause-idle : goal.returns-in-Work-clause-idle
returns-in-Work-clause-idle g c = idle_same c.args.grains.now

pub returns-in-Forget-clause-idle : goal.returns-in-Forget-clause-idle
returns-in-Forget-clause-idle g c = idle_same c.args.grains.now

pub returns-clause-idle : goal.returns-clause-idle
returns-clause-idle g c = idle_same c.args.grains.now

pub returns-2-clause-idle : goal.returns-2-clause-idle
returns-2-clause-idle g c = idle_same c.args.grains.now

pub returns-3-clause-idle : goal.returns-3-clause-idle
returns-3-clause-idle g c = idle_same c.args.grains.now

pub returns-4-clause-idle : goal.returns-4-clause-idle
returns-4-clause-idle g c = idle_same c.args.grains.now

pub returns-5-clause-idle : goal.returns-5-clause-idle
returns-5-clause-idle g c = idle_same c.args.grains.now

pub returns-6-clause-idle : goal.returns-6-clause-idle
returns-6-clause-idle g c = idle_same c.args.grains.now

pub returns-7-clause-idle : goal.returns-7-clause-idle
returns-7-clause-idle g c = idle_same c.args.grains.now

pub returns-in-Arm-clause-idle : goal.returns-in-Arm-clause-idle
returns-in-Arm-clause-idle g c =
    idle_by c.args.grains.now c.arm.new.grains (ap (λ (s : GrainsState). s.pooled) c.arm.ensures) (ap (λ (s : GrainsState). s.aside) c.arm.ensures)
