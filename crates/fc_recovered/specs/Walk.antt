-- How the chains are walked for the holder of a volume's grain: slot by slot, to the volume's live one.
use Rattle.std.specs.Prelude.{ℕ, Bool, ◌==◌, ◌&&◌, cond, List, [], ◌∷◌, Option, Some, None, option_map}
use Rattle.fc_base.specs.Sheet.{Slot}
use Rattle.fc_base.specs.declared.ids.VolId.{VolId}
use Rattle.fc_bits.specs.Grains.{has}
use Rattle.fc_recovered.specs.declared.chains.Walk.{Walk}
use Rattle.fc_recovered.specs.declared.chains.Walk.TheVariants.{Ended, Goes}

abbrev pub is_live_slot : ℕ → Slot → Bool
is_live_slot v slot = slot.is_live && (slot.volume == v)

-- The label of the chain in which the volume's live slot stands.
abbrev pub chain_with : ℕ → List Slot → Option ℕ
chain_with v [] = None
chain_with v (slot ∷ slots) = cond (is_live_slot v slot) (Some slot.chain) (chain_with v slots)

-- The volume of the last slot so far that is of this chain and holds the grain.
abbrev pub seen_with : ℕ → ℕ → Slot → Option ℕ → Option ℕ
seen_with g label slot seen = cond ((slot.chain == label) && has slot.held g) (Some slot.volume) seen

-- That of the volume's live slot.
abbrev pub walked : ℕ → ℕ → ℕ → List Slot → Option ℕ → Option ℕ
walked v g label [] seen = None
walked v g label (slot ∷ slots) seen =
    cond (is_live_slot v slot) (seen_with g label slot seen) (walked v g label slots (seen_with g label slot seen))

abbrev pub walked_in : ℕ → ℕ → List Slot → Option ℕ → Option ℕ
walked_in v g slots None = None
walked_in v g slots (Some label) = walked v g label slots None

abbrev pub holder_volume : ℕ → ℕ → List Slot → Option ℕ
holder_volume v g slots = walked_in v g slots (chain_with v slots)

-- ---- a chain of them

abbrev pub id_number : Option VolId → Option ℕ
id_number o = option_map (λ (id : VolId). id.0) o

-- Behind a chain the walk goes on, or has ended there.
abbrev pub walked_on : ℕ → ℕ → ℕ → Walk → List Slot → Option ℕ
walked_on v g label (Ended seen) slots = id_number seen
walked_on v g label (Goes seen) slots = walked v g label slots (id_number seen)
