use Rattle.std.proofs.Common.{◌≡◌, ◌-◌, take}
use Rattle.std.specs.List.{fold}
use Rattle.fc_base.specs.Moves.{list_with_asked}
use Rattle.fc_base.specs.Sheet.{column}
use Rattle.model_slots.proofs.moves.+list_slot.Given as goal

-- what was asked for so far
abbrev pub invariant-loop-next : goal.invariant-loop-next
invariant-loop-next l = l.listed.items ≡ fold (λ before a. list_with_asked (column l.slots l.grain) (l.depth - 1) a before) l.initial.listed.items (take l.next-index l.next-items)

abbrev pub decreases-list_slot : goal.decreases-list_slot
decreases-list_slot l = l.depth
