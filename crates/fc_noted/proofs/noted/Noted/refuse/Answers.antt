-- A refusal is right, and its entry is logged.
use Rattle.std.proofs.Common.{ap, refl, subst, sym, Err}
use Rattle.fc_entry.specs.declared.entry.Entry.{Entry}
use Rattle.fc_marks.specs.declared.error.NotedStop.TheVariants.{LogFull}
use Rattle.fc_noted.proofs.Begun.{stopped_made}
use Rattle.fc_noted.proofs.CallsMade.{log_full}
use Rattle.fc_noted.proofs.KeepingLanes.{lanes_stay, lanes_still}
use Rattle.fc_noted.proofs.Refusing.{refused_made}
use Rattle.fc_noted.specs.Making.{StepMade, always}
use Rattle.fc_noted.proofs.MeteringNoted.{memory_alone, no_calls}
use Rattle.fc_store.proofs.ReadyLane.{as_roomy}
use Rattle.fc_noted.proofs.noted.Noted.refuse.Goals as goal

pub returns-then-is_full-clause-made : goal.returns-then-is_full-clause-made
returns-then-is_full-clause-made g c =
    stopped_made g.M.MetaDisk.seen g.M.MetaDisk.may_leave g.M.MetaDisk.moment g.M.MetaDisk.left_since g.M.MetaDisk.calls g.met.M.MetaDisk.only_now c.args.self.now c.args.history.now c.requires.begins c.args.self.now.store
    (as_roomy c.args.self.now.store) LogFull (λ e. c.if-is_full.ensures.full) tt

pub log_entry-requires-clause-stands : goal.log_entry-requires-clause-stands
log_entry-requires-clause-stands g c = (c.requires.begins.w, c.requires.begins.at.told.0)

pub returns-clause-made : goal.returns-clause-made
returns-clause-made g c =
    let old = c.args.self.now in
    let history = c.args.history.now in
    let begins = c.requires.begins in
    subst (λ n. StepMade g.M.MetaDisk.seen g.M.MetaDisk.may_leave g.M.MetaDisk.moment g.M.MetaDisk.left_since g.M.MetaDisk.calls (always c.log_entry.result) old n history c.log_entry.new.history) (sym c.log_entry.ensures.others)
    (refused_made g.M.MetaDisk.seen g.M.MetaDisk.may_leave g.M.MetaDisk.moment g.M.MetaDisk.left_since g.M.MetaDisk.calls g.met.M.MetaDisk.only_now old history begins.at.idle c.requires.begins.live c.if-is_full.ensures.room
    c.len.result c.args.request c.args.refusal (record c.refused_entry-entry.result { number = c.len.result }) c.log_entry.new.self.script c.log_entry.result c.log_entry.new.history c.len.ensures
    (ap (λ (e : Entry). record e { number = c.len.result }) c.refused_entry-entry.ensures) c.requires.can c.requires.next
    c.log_entry.ensures.logged c.log_entry.ensures.goes c.log_entry.ensures.unlogged c.log_entry.ensures.stop)

pub returns-then-is_full-clause-lanes : goal.returns-then-is_full-clause-lanes
returns-then-is_full-clause-lanes g c = lanes_stay c.args.self.now.store

pub returns-clause-lanes : goal.returns-clause-lanes
returns-clause-lanes g c = lanes_still c.args.self.now.store c.log_entry.new.self.store (ap (λ n. n.store) c.log_entry.ensures.others)

-- ---- the disk of metadata isn't called

pub returns-then-is_full-clause-counted : goal.returns-then-is_full-clause-counted
returns-then-is_full-clause-counted g c = no_calls g.M.MetaDisk.seen g.M.MetaDisk.fault_count g.M.MetaDisk.calls (Err LogFull) c.args.self.now c.args.self.now refl refl log_full

pub returns-clause-counted : goal.returns-clause-counted
returns-clause-counted g c =
    no_calls g.M.MetaDisk.seen g.M.MetaDisk.fault_count g.M.MetaDisk.calls c.log_entry.result c.args.self.now c.log_entry.new.self (ap (λ n. n.calls) c.log_entry.ensures.others) (ap (λ n. n.meta) c.log_entry.ensures.others)
    (memory_alone c.log_entry.result c.log_entry.ensures.stop)
