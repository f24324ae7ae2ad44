use Rattle.std.proofs.Common.{◌≡◌, ◌<◌, length, ap, arith}
use Rattle.fc_events.specs.Table.{Table}
use Rattle.fc_events.proofs.Tables.{roomy_split}
use Rattle.fc_events.proofs.table.SlotTable.split.Goals as goal

pub invariant_of-self : goal.invariant_of-self
invariant_of-self c =
    let e : length c.self.inside.slots.items ≡ length c.args.self.now.sheet.slots = ap (λ (t : Table). length t.sheet.slots) c.self.view_is in
    let there : c.args.place < length c.self.inside.slots.items = omega (arith, c.requires) in
    roomy_split c.args.place _ _ _ _ c.deref_mut.result.now _ _ c.self.invariant c.deref_mut.ensures.value c.deref_mut.ensures.len there c.split_chain.ensures
