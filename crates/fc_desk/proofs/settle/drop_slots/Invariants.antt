-- The drops so far.
use Rattle.std.proofs.Common.{◌≡◌, map, take}
use Rattle.fc_base.specs.declared.decision.LaneEvent.TheVariants.{Drop}
use Rattle.fc_books.specs.Books.{told}
use Rattle.fc_desk.proofs.settle.drop_slots.Given as goal

abbrev pub invariant-loop-slot : goal.invariant-loop-slot
invariant-loop-slot l = l.draft ≡ told (map (λ slot. Drop slot) (take l.slot-index l.slots))
