use Rattle.std.proofs.Common.{◌≡◌, ◌<◌, false, length, ap, sym, subst, arith}
use Rattle.fc_base.specs.declared.request.Request.TheVariants.{Command as Asked}
use Rattle.fc_lane.specs.Lane.{IsSameLane, KeepsQuiet}
use Rattle.fc_lanes.specs.AllLanes.{EachLane}
use Rattle.fc_legal.specs.Whole.{Whole}
use Rattle.fc_stands.specs.Armed.{ArmsAs}
use Rattle.fc_stands.specs.Arming.{arms}
use Rattle.fc_stands.specs.Leading.{LeadsOn}
use Rattle.fc_stands.specs.Store.{StandsFor, StoreView}
use Rattle.fc_actors.proofs.Gathering.{lanes_long, parts_again, same_store}
use Rattle.fc_actors.proofs.whole.command_over.Goals as goal

pub command_entry-entry-requires-clause-can : goal.command_entry-entry-requires-clause-can
command_entry-entry-requires-clause-can g c =
    let can = c.requires.can in let gathered = c.gather-control.ensures.gathered can.0 can.2 in
    let same = same_store c.from_parts_in-store.result c.gather-control.result c.gather-control.new.lanes.items can.0 c.from_parts_in-store.ensures gathered.0 gathered.1 in
    (can.1, subst (λ (st : StoreView). StandsFor st can.1) (sym same) can.3, can.4)

pub returns-clause-leads : goal.returns-clause-leads
returns-clause-leads g c = λ s parts.
    let gathered = c.gather-control.ensures.gathered s parts in
    let same = same_store c.from_parts_in-store.result c.gather-control.result c.gather-control.new.lanes.items s c.from_parts_in-store.ensures gathered.0 gathered.1 in
    let done = c.command_entry-entry.ensures in let entry = c.command_entry-entry.result in let new : StoreView = c.command_entry-entry.new.self in
    let P : StoreView → Type 0 = λ st. ((w : Whole) → StandsFor st w → w.entries < 262144 → LeadsOn st.control.grain w entry new) × (new.control.grain ≡ st.control.grain) × EachLane IsSameLane st.lanes new.lanes
    × (arms (Asked c.args.command) entry.reply ≡ false → EachLane KeepsQuiet st.lanes new.lanes)
    × EachLane (ArmsAs new.control.tables c.args.command entry.reply) st.lanes new.lanes in
    let now = subst P same (done.right, done.grain, done.lanes, done.quiet, done.armed) in
    let again = parts_again {D = g.row.D.Denot} c.gather-control.new.parts.items c.take_parts-tray.new.into.items new c.take_parts-tray.ensures.parts c.gather-control.ensures.emptied.0 in
    (new, again, now.0, now.1, now.2, now.3, now.4)

pub returns-clause-tray : goal.returns-clause-tray
returns-clause-tray g c =
    let can = c.requires.can in let s = can.0 in let gathered = c.gather-control.ensures.gathered s can.2 in
    let same = same_store c.from_parts_in-store.result c.gather-control.result c.gather-control.new.lanes.items s c.from_parts_in-store.ensures gathered.0 gathered.1 in
    let long = lanes_long g.row.D.Denot s.lanes in
    (c.take_parts-tray.ensures.tray, omega (arith, c.take_parts-tray.ensures.room, c.command_entry-entry.ensures.lanes.count, ap (λ (st : StoreView). length st.lanes) same, long, ap length can.2, c.args.parts.now.ok.0))
