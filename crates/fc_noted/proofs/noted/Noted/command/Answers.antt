-- A command is done and logged.
use Rattle.std.proofs.Common.{Err, ap, sym, subst, ◌∙◌, Ok, refl}
use Rattle.std.proofs.lemmas.Result.{err_from_is_err_and}
use Rattle.fc_marks.specs.declared.error.NotedStop.{NotedStop}
use Rattle.fc_noted.proofs.CommandLogs.{command_numbered, full_made, keep_lanes, undone_made}
use Rattle.fc_noted.specs.Making.{KeepLanes}
use Rattle.fc_noted.proofs.MeteringNoted.{calls_of_error, memory_alone, no_calls, same_calls}
use Rattle.fc_noted.proofs.CallsMade.{log_full, memory_alone_full, on_ok}
use Rattle.fc_marks.specs.declared.error.NotedStop.TheVariants.{LogFull}
use Rattle.fc_noted.proofs.noted.Noted.command.Goals as goal

pub returns-then-is_full-clause-made : goal.returns-then-is_full-clause-made
returns-then-is_full-clause-made g c =
    full_made g.M.MetaDisk.seen g.M.MetaDisk.may_leave g.M.MetaDisk.moment g.M.MetaDisk.left_since g.M.MetaDisk.calls g.met.M.MetaDisk.only_now c.args.self.now c.args.history.now c.requires.begins.at.idle c.requires.begins.room c.if-is_full.ensures.full

pub returns-in_err-entry-clause-made : goal.returns-in_err-entry-clause-made
returns-in_err-entry-clause-made g c =
    let p = err_from_is_err_and c.from_residual.result c.from_residual.ensures.1 in
    rw (p.1, p.2) (
    undone_made g.M.MetaDisk.seen g.M.MetaDisk.may_leave g.M.MetaDisk.moment g.M.MetaDisk.left_since g.M.MetaDisk.calls c.args.self.now c.command_entry.new.self c.args.history.now c.requires.begins.at.idle c.if-is_full.ensures.room
    c.command_entry.ensures.any_moment c.command_entry.ensures.stopped c.in_err-entry.field-0.0 (λ e. c.in_err-entry.ensures.not_log (ap (λ (z : NotedStop). Err z) e)) c.in_err-entry.ensures.into
    )

pub log_entry-requires-clause-stands : goal.log_entry-requires-clause-stands
log_entry-requires-clause-stands g c =
    let led = c.in_ok-entry.ensures.leads c.args.history.now c.if-is_full.ensures.room c.requires.begins.w c.requires.begins.least c.requires.begins.at in
    (led.0, led.3.told.0)

pub returns-clause-made : goal.returns-clause-made
returns-clause-made g c =
    command_numbered g.M.MetaDisk.seen g.M.MetaDisk.may_leave g.M.MetaDisk.moment g.M.MetaDisk.left_since g.M.MetaDisk.calls c.args.self.now c.command_entry.new.self c.args.history.now c.requires.begins.at.idle c.if-is_full.ensures.room
    c.command_entry.ensures.any_moment c.command_entry.ensures.stopped c.log_entry.new.self.script c.in_ok-entry.entry c.args.command (c.in_ok-entry.ensures.leads c.args.history.now c.if-is_full.ensures.room)
    c.in_ok-entry.ensures.asked c.requires.next c.in_ok-entry.ensures.grain c.command_entry.ensures.script (c.command_entry.ensures.live ∙ c.requires.begins.live) c.len.result c.len.ensures c.log_entry.new.self
    c.log_entry.ensures.others c.log_entry.result c.log_entry.new.history c.log_entry.ensures.logged c.log_entry.ensures.goes c.log_entry.ensures.unlogged c.log_entry.ensures.stop

pub returns-in_err-entry-clause-lanes : goal.returns-in_err-entry-clause-lanes
returns-in_err-entry-clause-lanes g c = keep_lanes c.args.self.now.store c.command_entry.new.self.store c.command_entry.ensures.lanes

pub returns-clause-lanes : goal.returns-clause-lanes
returns-clause-lanes g c =
    subst (λ n. KeepLanes c.args.self.now.store n.store) (sym c.log_entry.ensures.others) (keep_lanes c.args.self.now.store c.command_entry.new.self.store c.command_entry.ensures.lanes)

-- ---- the disk of metadata is called while the command is done alone

pub returns-then-is_full-clause-counted : goal.returns-then-is_full-clause-counted
returns-then-is_full-clause-counted g c = no_calls g.M.MetaDisk.seen g.M.MetaDisk.fault_count g.M.MetaDisk.calls (Err LogFull) c.args.self.now c.args.self.now refl refl log_full

pub returns-in_err-entry-clause-counted : goal.returns-in_err-entry-clause-counted
returns-in_err-entry-clause-counted g c =
    let p = err_from_is_err_and c.from_residual.result c.from_residual.ensures.1 in
    let new = c.command_entry.new.self in
    calls_of_error g.M.MetaDisk.seen g.M.MetaDisk.fault_count g.M.MetaDisk.calls c.from_residual.result p.0 c.in_err-entry.field-0.0 c.args.self.now c.args.self.now new new p.1 p.2 refl refl refl refl c.in_err-entry.ensures.counted

pub returns-clause-counted : goal.returns-clause-counted
returns-clause-counted g c =
    let new = c.log_entry.new.self in
    same_calls g.M.MetaDisk.seen g.M.MetaDisk.fault_count g.M.MetaDisk.calls (Ok c.in_ok-entry.entry) c.log_entry.result c.args.self.now c.args.self.now c.command_entry.new.self new refl refl (ap (λ n. n.calls) c.log_entry.ensures.others) (ap (λ n. n.meta) c.log_entry.ensures.others)
    (λ P p. on_ok c.log_entry.result P p) (λ e. absurd (memory_alone c.log_entry.result c.log_entry.ensures.stop e))
    (λ e. absurd (memory_alone_full c.log_entry.result c.log_entry.ensures.stop e)) c.in_ok-entry.ensures.counted
