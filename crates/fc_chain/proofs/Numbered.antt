-- The numbers of the grains of slots are numbers of 32 bits.
use Rattle.std.proofs.Common.{◌≡◌, ℕ, ◌+◌, ◌*◌, ◌^◌, ◌<◌, ◌≤◌, Option, Some, None, IfSome, List, length, sym, subst, arith}
use Rattle.fc_base.specs.Sheet.{Slot, slot_at}
use Rattle.fc_chain.specs.Chains.{Chains}
use Rattle.fc_events.specs.LaneGrains.{AreNumbered}

pub slots_numbered : (lane lanes width : ℕ) (slots : List Slot) → AreNumbered lane lanes width → ((k : ℕ) → k < length slots → length (slot_at slots k).held ≤ width) →
    (k g : ℕ) → k < length slots → g < length (slot_at slots k).held → g * lanes + lane < 2 ^ 32
slots_numbered lane lanes width slots few wide k g kl lt = few g (let w : length (slot_at slots k).held ≤ width = wide k kl in omega arith)

pub number_fits : (value : Chains) (lane lanes : ℕ) (slots : List Slot) (k : ℕ) (r : Option ℕ) → slots ≡ value.sheet.slots → k < length value.sheet.slots → lane ≡ value.lane → lanes ≡ value.lanes →
    ((k g : ℕ) → k < length slots → g < length (slot_at slots k).held → g * value.lanes + value.lane < 2 ^ 32) → IfSome r (λ g. g < length (slot_at slots k).held) → IfSome r (λ g. g * lanes + lane < 2 ^ 32)
number_fits value lane lanes slots k None e kl el es few lt = tt
number_fits value lane lanes slots k (Some g) e kl el es few lt =
    let at : k < length slots = subst (λ (z : List Slot). k < length z) (sym e) kl in
    subst (λ z. g * lanes + z < 2 ^ 32) (sym el) (subst (λ z. g * z + value.lane < 2 ^ 32) (sym es) (few k g at lt))
