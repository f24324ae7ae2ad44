-- From the sheet of metadata to that of the store, seen in a lane.
use Rattle.std.proofs.Common.{◌≡◌, ℕ, sym, ap, subst, ◌∙◌}
use Rattle.fc_base.specs.Sheet.{Slot, Sheet, birth_place}
use Rattle.fc_base.specs.SheetFits.{FitsDrop}
use Rattle.fc_base.specs.SheetStep.{at_place, without, dropped}
use Rattle.fc_legal.specs.Whole.{part_of_slot, part_of_sheet}
use Rattle.fc_rules.specs.LaneTold.{LaneOf}
use Rattle.fc_parts.proofs.Numbers.{IsLane}
use Rattle.fc_parts.proofs.Views.{slot_parts, birth_parts, needed_parts}
use Rattle.fc_kept.specs.Drops.{DropsTo, DropsTo.same, DropsTo.drop}
use Rattle.fc_kept.proofs.Changing.{mapped, taken_out}

part_dropped : (l : LaneOf) → IsLane l → (s : Sheet) (b : ℕ) → dropped b (part_of_sheet l s) ≡ part_of_sheet l (dropped b s)
part_dropped l i s b =
    ap (λ o. at_place without o (mapped (part_of_slot l) s)) (birth_parts l i s.slots b) ∙ taken_out (part_of_slot l) s (birth_place s.slots b)

part_fits : (l : LaneOf) → IsLane l → (s : Sheet) (b : ℕ) → FitsDrop s.slots b → FitsDrop (part_of_sheet l s).slots b
part_fits l i s b d =
    record {
      place = d.place;
      is_there = birth_parts l i s.slots b ∙ d.is_there;
      is_old = ap (λ (t : Slot). t.is_live) (slot_parts l i s.slots d.place) ∙ d.is_old;
      unneeded = λ n. d.unneeded (needed_parts l i s.slots d.place n);
    }

pub parts_drop : {s t : Sheet} (l : LaneOf) → IsLane l → DropsTo s t → DropsTo (part_of_sheet l s) (part_of_sheet l t)
unfolding part_fits
parts_drop l i same = same
parts_drop l i (drop {s = s} {t = t} {b = b} d none rest) =
    drop (part_fits l i s b d) (ap (λ (x : Slot). x.mapping) (slot_parts l i s.slots d.place) ∙ none)
    (subst (λ (z : Sheet). DropsTo z (part_of_sheet l t)) (sym (part_dropped l i s b)) (parts_drop l i rest))
