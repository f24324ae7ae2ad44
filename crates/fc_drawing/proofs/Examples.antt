-- Chains and moves worked by hand.
use Rattle.std.proofs.Common.{◌≡◌, true, false, Option, Some, None, [], ◌∷◌, refl}
use Rattle.fc_base.specs.Column.{first_below, last_below, holder}
use Rattle.fc_base.specs.Sheet.{Sheet, Slot, birth_place}
use Rattle.fc_base.specs.declared.ids.VolId.{VolId}
use Rattle.fc_base.specs.declared.request.Move.{Move}
use Rattle.fc_drawing.specs.Chains.{chains_of, room_of}
use Rattle.fc_drawing.specs.Places.{places_below}
use Rattle.fc_drawing.specs.Sources.{sources_of}
use Rattle.fc_drawing.specs.Totals.{counted}
use Rattle.fc_drawing.specs.declared.totals.PairTotal.{PairTotal}

-- A, which holds its two grains; T2, with the first of them; an old slot of T1, in a chain of its own; and T1 behind T2, which holds none
abbrev a : Slot
a = record { birth = 0; chain = 0; volume = 0; is_live = true; mapping = None; held = true ∷ true ∷ [] }

abbrev t2 : Slot
t2 = record { birth = 5; chain = 0; volume = 2; is_live = true; mapping = Some 1; held = true ∷ false ∷ [] }

abbrev old_t1 : Slot
old_t1 = record { birth = 1; chain = 1; volume = 1; is_live = false; mapping = None; held = false ∷ true ∷ [] }

abbrev t1 : Slot
t1 = record { birth = 3; chain = 0; volume = 1; is_live = true; mapping = Some 0; held = false ∷ false ∷ [] }

abbrev four : Sheet
four = record { births = 6; slots = a ∷ t2 ∷ old_t1 ∷ t1 ∷ [] }

-- the old slot stands in the midst of the list, and not in the chain
two_chains : chains_of four.slots ≡ (0 ∷ 1 ∷ 3 ∷ []) ∷ (2 ∷ []) ∷ []
unfolding last_below places_below
two_chains = refl

-- T1 takes room for the grain of its old slot
room_of_t1 : room_of four.slots 1 2 ≡ 1
unfolding last_below places_below
room_of_t1 = refl

-- a write of T2 moves grain 0 from T2 to T1; one of A, which T2 and T1 read at grain 1, moves that to T2
abbrev to_t1 : Move
to_t1 = record { slot = record { 0 = 3 }; volume = record { 0 = 1 }; grain = record { 0 = 0 }; in_place = false }

from_t2 : sources_of four (to_t1 ∷ []) ≡ Some record { slot = record { 0 = 5 }; volume = record { 0 = 2 }; is_live = true } ∷ []
unfolding birth_place first_below last_below holder
from_t2 = refl

-- two moves from volume 2 to volume 1, the second in place, and one to volume 2 from nobody
abbrev from_two : Option VolId
from_two = Some record { 0 = 2 }

abbrev two : VolId
two = record { 0 = 2 }

abbrev one : VolId
one = record { 0 = 1 }

abbrev two_to_one : PairTotal
two_to_one = record { from = from_two; to = one; copied = 1; in_place = 1 }

abbrev none_to_two : PairTotal
none_to_two = record { from = None; to = two; copied = 1; in_place = 0 }

three_moves : counted from_two one true (counted None two false (counted from_two one false [])) ≡ two_to_one ∷ none_to_two ∷ []
three_moves = refl
