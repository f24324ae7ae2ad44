-- What is always kept lets fills and writes be planned.
use Rattle.std.proofs.Common.{◌≡◌, ℕ, Some, List, sym, subst}
use Rattle.fc_base.specs.Sheet.{Slot, Sheet, live_place}
use Rattle.fc_chain.specs.Chains.{IsKept}
use Rattle.fc_chain.specs.Planning.{Plannable, WriteFits}
use Rattle.fc_sheets.proofs.Finding.{live_place_at}

pub plannable : (lane lanes : ℕ) (sheet : Sheet) (now : List Slot) → IsKept lane lanes sheet → now ≡ sheet.slots → Plannable now
plannable lane lanes sheet now k e =
    subst (λ (z : List Slot). Plannable z) (sym e) (record { together = k.together; apart = k.sound.names.apart; one_live = k.sound.one_live; no_loop = k.sound.no_loop })

pub write_fits : (now : List Slot) (v place : ℕ) → Plannable now → Some place ≡ live_place now v → WriteFits now place
write_fits now v place p f =
    let l = live_place_at now v place (sym f) in
    record { sheet = p; there = l.there; is_live = l.is_live }
