use Rattle.std.proofs.Common.{◌≡◌, ◌++◌, take, All}
use Rattle.std.specs.List.{flat_map}
use Rattle.fc_format.proofs.field.put_items.Given as goal

-- the items so far are put
abbrev pub invariant-loop-item : goal.invariant-loop-item
invariant-loop-item g l = record {
  bytes : l.out.items ≡ l.initial.out.items ++ flat_map g.T.Put.bytes_of (take l.item-index l.all);
  typed : All g.T.Put.is_typed (take l.item-index l.all);
}
