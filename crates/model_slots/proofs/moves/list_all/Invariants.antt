use Rattle.std.proofs.Common.{◌≡◌, take, length, []}
use Rattle.std.specs.List.{fold}
use Rattle.fc_base.specs.Moves.{list_with_asked}
use Rattle.fc_base.specs.Sheet.{column}
use Rattle.model_slots.proofs.moves.list_all.Given as goal

-- what the roots so far ask for
abbrev pub invariant-loop-root : goal.invariant-loop-root
invariant-loop-root l = l.listed.items ≡ fold (λ before a. list_with_asked (column l.slots l.grain) (length l.slots) a before) [] (take l.root-index l.roots)
