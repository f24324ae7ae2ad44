use Rattle.std.proofs.Common.{None, ◌∙◌}
use Rattle.fc_check_record.proofs.Agreeing.{one_copied}
use Rattle.fc_check_record.proofs.Telling.{copied_told}
use Rattle.fc_check_record.proofs.record.Record.copy.Goals as goal

pub invariant_of-result : goal.invariant_of-result
invariant_of-result c =
    let i = c.self.inside.kept in
    one_copied i.control c.in_ok-control.control i.known c.in_ok-known.known i.calls.items c.in_ok-calls.calls.items None c.in_ok-control.control.room c.in_ok-control.ensures c.in_ok-known.ensures
    (c.in_ok-calls.ensures ∙ c.as_slice-2.ensures.value) c.self.invariant

pub returns : goal.returns
returns c =
    let i = c.self.inside.kept in
    copied_told i.control c.in_ok-control.control i.known c.in_ok-known.known i.rows c.in_ok-rows.rows i.pools.items c.in_ok-pools.pools.items i.rooms c.in_ok-rooms.rooms i.calls.items c.in_ok-calls.calls.items
    None c.in_ok-control.control.room c.args.self.now c.in_ok-control.ensures c.in_ok-known.ensures c.in_ok-rows.ensures (c.in_ok-pools.ensures ∙ c.as_slice.ensures.value) c.in_ok-rooms.ensures
    (c.in_ok-calls.ensures ∙ c.as_slice-2.ensures.value) c.self.view_is
