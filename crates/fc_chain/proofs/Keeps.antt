-- What is always kept is kept by moves and writes.
use Rattle.std.proofs.Common.{◌≡◌, ℕ, ◌/◌, Bool, false, true, Option, Some, None, IsSome, List, refl, sym, subst}
use Rattle.fc_base.specs.declared.ids.SlotId.{SlotId}
use Rattle.fc_base.specs.declared.request.Side.TheVariants.{Under}
use Rattle.fc_base.specs.Sheet.{Slot, Sheet, slot_at, birth_place}
use Rattle.fc_base.specs.SheetStep.{sheet_written, sheet_moved, sheet_torn, sheet_step, grain_taken, grain_kept, grain_lost}
use Rattle.fc_base.specs.SheetFacts.{IsSound}
use Rattle.fc_base.specs.SheetFits.{FitsTaken, FitsLost, FitsEvent}
use Rattle.fc_chain.specs.Chains.{Chains, IsKept, in_lane, IsThere}
use Rattle.fc_events.specs.LaneGrains.{lane_grains}
use Rattle.fc_events.specs.Table.{Table}
use Rattle.fc_base.specs.declared.decision.LaneEvent.{LaneEvent}
use Rattle.fc_slots.specs.Contiguous.{IsContiguous}
use Rattle.fc_events.proofs.Together.{step_together, map_together}
use Rattle.fc_sheets.proofs.Lawful.{event_sound}
use Rattle.fc_sheets.proofs.Holding.{written_sound, kept_sound, lost_sound, regrained, bit_taken, bit_kept, bit_lost}

abbrev pub view_of : ℕ → ℕ → Table → ℕ → ℕ → Chains
view_of lane lanes table room width = record { lane = lane; lanes = lanes; sheet = table.sheet; room = room; width = width }

kept_as : (lane lanes : ℕ) (old new : Sheet) → IsKept lane lanes old → IsSound new → IsContiguous new.slots → IsKept lane lanes new
kept_as lane lanes old new k s c = record { lane_in = k.lane_in; sound = s; together = c }

pub kept_written : (value : Chains) (lane lanes room width v g : ℕ) (table new : Table) → view_of lane lanes table room width ≡ value → IsKept lane lanes table.sheet → FitsTaken value.sheet.slots v (in_lane value g) →
    new ≡ record table { sheet = sheet_written v (g / lanes) table.sheet } → IsKept lane lanes new.sheet
kept_written value lane lanes room width v g table new view k fits e =
    subst (λ (t : Table). IsKept lane lanes t.sheet) (sym e)
    (kept_as lane lanes table.sheet (sheet_written v (g / lanes) table.sheet) k (written_sound table.sheet v (g / lanes) k.sound (subst (λ (c : Chains). FitsTaken c.sheet.slots v (in_lane c g)) (sym view) fits))
    (map_together (grain_taken v (g / lanes)) (regrained (grain_taken v (g / lanes)) (g / lanes) (bit_taken v (g / lanes))) table.sheet.slots k.together))

pub kept_in_place : (lane lanes v g : ℕ) (table new : Table) → IsKept lane lanes table.sheet → new ≡ record table { sheet = sheet_moved v g true table.sheet } → IsKept lane lanes new.sheet
kept_in_place lane lanes v g table new k e =
    subst (λ (t : Table). IsKept lane lanes t.sheet) (sym e) (kept_as lane lanes table.sheet (sheet_moved v g true table.sheet) k (kept_sound table.sheet v g k.sound)
    (map_together (grain_kept v g) (regrained (grain_kept v g) g (bit_kept v g)) table.sheet.slots k.together))

pub kept_lost : (value : Chains) (lane lanes room width v g : ℕ) (table new : Table) → view_of lane lanes table room width ≡ value → IsKept lane lanes table.sheet → FitsLost value.sheet.slots v (in_lane value g) →
    new ≡ record table { sheet = sheet_torn v (g / lanes) Under table.sheet } → IsKept lane lanes new.sheet
kept_lost value lane lanes room width v g table new view k fits e =
    subst (λ (t : Table). IsKept lane lanes t.sheet) (sym e)
    (kept_as lane lanes table.sheet (sheet_torn v (g / lanes) Under table.sheet) k (lost_sound table.sheet v (g / lanes) k.sound (subst (λ (c : Chains). FitsLost c.sheet.slots v (in_lane c g)) (sym view) fits))
    (map_together (grain_lost v (g / lanes)) (regrained (grain_lost v (g / lanes)) (g / lanes) (bit_lost v (g / lanes))) table.sheet.slots k.together))

pub kept_stepped : (value : Chains) (lane lanes room width : ℕ) (table new : Table) (e : LaneEvent) → view_of lane lanes table room width ≡ value → IsKept lane lanes table.sheet → FitsEvent value.sheet e →
    new.sheet ≡ sheet_step (lane_grains lane lanes) table.sheet e → IsKept lane lanes new.sheet
kept_stepped value lane lanes room width table new e view k fit q =
    let local : ℕ → ℕ = lane_grains lane lanes in
    let f : FitsEvent table.sheet e = subst (λ (c : Chains). FitsEvent c.sheet e) (sym view) fit in
    subst (λ (s : Sheet). IsKept lane lanes s) (sym q)
    (kept_as lane lanes table.sheet (sheet_step local table.sheet e) k (event_sound local table.sheet e k.sound f) (step_together local table.sheet e k.sound f k.together))

place_there : (o : Option ℕ) → IsSome o → (k : ℕ) × (o ≡ Some k)
place_there None t = absurd cc
place_there (Some k) t = (k, refl)

-- the named slot's volume, where the move is out of place
pub fits_moved : (slots : List Slot) (name : SlotId) (g v : ℕ) (in_place : Bool) → IsThere slots name → in_place ≡ false →
    ((k : ℕ) → birth_place slots name.0 ≡ Some k → v ≡ (slot_at slots k).volume) →
    ((k : ℕ) → birth_place slots name.0 ≡ Some k → in_place ≡ false → FitsTaken slots (slot_at slots k).volume g) → FitsTaken slots v g
fits_moved slots name g v in_place there out volume fits =
    let p = place_there (birth_place slots name.0) there in
    subst (λ (z : ℕ). FitsTaken slots z g) (sym (volume p.0 p.1)) (fits p.0 p.1 out)
