use Rattle.fc_rules.specs.Steps.{HasDone, HasFailed, HasNoMemory}
use Rattle.fc_check_lane.specs.Known.{spot_in}
use Rattle.fc_check_lane.proofs.Answering.{answers_as, cannot_fit, failed_fit, want_fit, write_fit}
use Rattle.fc_check_lane.proofs.known.Known.write_fits.Goals as goal

pub returns-then-cannot : goal.returns-then-cannot
returns-then-cannot c = λ can.
    cannot_fit c.args.self.now c.args.part c.args.number c.args.live c.args.entry.now c.args.reply.now _ _ c.if-cannot.true c.cannot_write-cannot.ensures c.is_medium_error.ensures

pub returns-in-Done : goal.returns-in-Done
returns-in-Done c =
    answers_as c.args.self.now c.args.part c.args.number c.args.live c.args.entry.now _ _ _ c.in-Done.is
    (write_fit c.args.self.now c.args.part c.args.number c.args.live (λ z. HasDone z c.args.entry.now) _ _ _ _
    c.if-cannot.false c.cannot_write-cannot.ensures c.as_slice.ensures.value c.in_ok-steps.ensures c.has_done.ensures)

pub returns-in-DiskFault : goal.returns-in-DiskFault
returns-in-DiskFault c =
    answers_as c.args.self.now c.args.part c.args.number c.args.live c.args.entry.now _ _ _ c.in-DiskFault.is
    (write_fit c.args.self.now c.args.part c.args.number c.args.live (λ z. HasFailed (spot_in c.args.self.now c.args.number) z c.args.entry.now) _ _ _ _
    c.if-cannot.false c.cannot_write-cannot.ensures c.as_slice-in-DiskFault.ensures.value c.in_ok-steps.ensures
    (failed_fit c.args.self.now c.args.number _ c.args.entry.now _ c.has_failed.ensures))

pub returns-in-NoMemory : goal.returns-in-NoMemory
returns-in-NoMemory c =
    answers_as c.args.self.now c.args.part c.args.number c.args.live c.args.entry.now _ _ _ c.in-NoMemory.is
    (write_fit c.args.self.now c.args.part c.args.number c.args.live (λ z. HasNoMemory (spot_in c.args.self.now c.args.number) z c.args.entry.now) _ _ _ _
    c.if-cannot.false c.cannot_write-cannot.ensures c.as_slice-in-NoMemory.ensures.value c.in_ok-steps.ensures
    (want_fit c.args.self.now _ c.args.number _ c.args.entry.now _ c.lane_volumes.ensures c.has_no_memory.ensures))
