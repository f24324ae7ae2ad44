use Rattle.std.proofs.Common.{◌≤◌, length, refl, ap, arith}
use Rattle.fc_actors.proofs.Closing.{over_leads, over_long, stands_here, still_suits, store_here}
use Rattle.fc_actors.proofs.Gathering.{lanes_long}
use Rattle.fc_actors.proofs.task.ActorScriptScriptToldEntryStorePart.act_over.Goals as goal

pub command_over-entry-requires-clause-can : goal.command_over-entry-requires-clause-can
command_over-entry-requires-clause-can g c =
    let can = c.requires.can in let of = can.4 in
    let here = store_here c.args.self.now can.1 c.args.parts.now.items of.first can.2 of.w0 of.w can.3 of.told of.long of.fit in
    (here.store, of.w.whole, here.are, stands_here c.args.self.now can.1 c.args.parts.now.items of.first can.2 of.w0 of.w can.3 of.told of.long of.fit, omega (arith, of.told.room, can.3.few))

pub command_over-entry-requires-clause-decided : goal.command_over-entry-requires-clause-decided
command_over-entry-requires-clause-decided g c =
    let can = c.requires.can in let of = can.4 in (c.take_command-command.ensures.suits of.w0 (can.3.work of.first of.w0 of.told.opens)).decided

pub returns-clause-leads : goal.returns-clause-leads
returns-clause-leads g c = λ openings first limit w0 w needs suits told long fit.
    over_leads c.args.self.now openings c.args.parts.now.items first limit w0 w suits told long fit c.command_over-entry.new.parts.items c.take_command-command.result c.command_over-entry.result.0
    (c.take_command-command.ensures.suits w0 (suits.work first w0 told.opens)) c.command_over-entry.ensures.asked.request_is c.command_over-entry.ensures.leads

pub returns-clause-long : goal.returns-clause-long
returns-clause-long g c =
    let can = c.requires.can in let of = can.4 in
    over_long c.args.self.now can.1 c.args.parts.now.items of.first can.2 of.w0 of.w can.3 of.told of.long of.fit c.command_over-entry.new.parts.items c.take_command-command.result c.command_over-entry.result.0 c.command_over-entry.ensures.leads

pub returns-clause-suits : goal.returns-clause-suits
returns-clause-suits g c = λ openings limit suits.
    let can = c.requires.can in let of = can.4 in let tray = c.command_over-entry.ensures.tray in
    let parts = c.args.parts.now in
    let long = lanes_long g.row.D.Denot can.3.store.lanes in
    let room : c.args.self.now.lanes ≤ c.command_over-entry.result.1.cap = omega (arith, tray.1, parts.ok.0, of.long, ap length can.3.parts_are, long, can.3.count) in
    still_suits c.args.self.now c.take_command-command.new.self _ openings limit c.take_command-command.ensures.same refl refl refl tray.0 room suits
