use Rattle.std.proofs.Common.{◌≤◌, vec_capacity}
use Rattle.fc_places.specs.Indexing.{ListsBelow}
use Rattle.fc_places.proofs.index.list_all.Given as goal

-- the slots so far are listed
abbrev pub invariant-loop-place : goal.invariant-loop-place
invariant-loop-place l = record {
  listed : ListsBelow l.slots l.by l.place l.entries.items;
  room : vec_capacity l.initial.entries ≤ vec_capacity l.entries;
}
