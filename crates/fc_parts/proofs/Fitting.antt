-- An event that fits the chains of all grains fits a lane's part of them.
use Rattle.std.proofs.Common.{◌≡◌, ℕ, ◌<◌, Option, List, length, IsSome, sym, ap, subst, ◌∙◌, arith, inl, inr}
use Rattle.fc_base.specs.Column.{Column, holder}
use Rattle.fc_base.specs.RestoreGraph.{HasNoLoop}
use Rattle.fc_base.specs.Sheet.{Slot, Sheet, slot_at, shape_of}
use Rattle.fc_base.specs.SheetFits.{FitsRemove, FitsPair, FitsTrigger, HasLiveSlot, FitsForce, FitsDrop, FitsEvent}
use Rattle.fc_base.specs.SheetStep.{triggered}
use Rattle.fc_base.specs.declared.decision.LaneEvent.{LaneEvent}
use Rattle.fc_base.specs.declared.decision.LaneEvent.TheVariants.{Make, Remove, Trigger, Retire, Detach, Split, Force, Drop, Forget}
use Rattle.fc_base.specs.declared.ids.MapId.{MapId}
use Rattle.fc_base.specs.declared.request.Pair.{Pair}
use Rattle.fc_legal.specs.Whole.{part_of_sheet}
use Rattle.fc_rules.specs.LaneTold.{LaneOf, number_at, grains_in}
use Rattle.fc_parts.proofs.Numbers.{IsLane}
use Rattle.fc_parts.proofs.Views.{parts, slot_parts, count_parts, shape_parts, column_parts, live_parts, mapping_parts, birth_parts, size_parts, complete_parts, needed_parts}
use Rattle.fc_parts.proofs.Events.{triggered_agrees}

name_parts : (l : LaneOf) → IsLane l → (slots : List Slot) (k : ℕ) → (slot_at (parts l slots) k).volume ≡ (slot_at slots k).volume
name_parts l i slots k = ap (λ (z : Slot). z.volume) (slot_parts l i slots k)

chain_parts : (l : LaneOf) → IsLane l → (slots : List Slot) (k : ℕ) → (slot_at (parts l slots) k).chain ≡ (slot_at slots k).chain
chain_parts l i slots k = ap (λ (z : Slot). z.chain) (slot_parts l i slots k)

liveness_parts : (l : LaneOf) → IsLane l → (slots : List Slot) (k : ℕ) → (slot_at (parts l slots) k).is_live ≡ (slot_at slots k).is_live
liveness_parts l i slots k = ap (λ (z : Slot). z.is_live) (slot_parts l i slots k)

below_parts : (l : LaneOf) (slots : List Slot) (k : ℕ) → k < length (parts l slots) → k < length slots
below_parts l slots k lt = let n : length (parts l slots) ≡ length slots = count_parts l slots in omega arith

fits_remove : (l : LaneOf) → IsLane l → (slots : List Slot) (v : ℕ) → FitsRemove slots v → FitsRemove (parts l slots) v
fits_remove l i slots v f =
    record {
      place = f.place;
      is_there = live_parts l i slots v ∙ f.is_there;
      alone = λ j lt same. f.alone j (below_parts l slots j lt) (elim same [
        | inl e ↦ inl (sym (name_parts l i slots j) ∙ e)
        | inr e ↦ inr (sym (chain_parts l i slots j) ∙ (e ∙ chain_parts l i slots f.place))
      ]);
    }

fits_pair : (l : LaneOf) → IsLane l → (slots : List Slot) (p : Pair) → FitsPair slots p → FitsPair (parts l slots) p
fits_pair l i slots p f =
    record {
      source = f.source;
      target = f.target;
      source_there = live_parts l i slots p.source.0 ∙ f.source_there;
      target_there = live_parts l i slots p.target.0 ∙ f.target_there;
      as_large = size_parts l i slots f.source ∙ (ap (grains_in l) f.as_large ∙ sym (size_parts l i slots f.target));
      complete = complete_parts l i slots f.target f.complete;
      no_slot_yet = mapping_parts l i slots p.map.0 ∙ f.no_slot_yet;
    }

fits_trigger : (l : LaneOf) → IsLane l → (s : Sheet) (pairs : List Pair) → FitsTrigger s pairs → FitsTrigger (part_of_sheet l s) pairs
fits_trigger l i s pairs f =
    record {
      each = λ p c. fits_pair l i s.slots p (f.each p c);
      maps = f.maps;
      targets = f.targets;
      apart = f.apart;
      no_loop = subst HasNoLoop (sym (ap (λ (z : Sheet). shape_of z.slots) (sym (triggered_agrees l i pairs s)) ∙ shape_parts l i (triggered pairs s).slots)) f.no_loop;
    }

live_slot : (l : LaneOf) → IsLane l → (slots : List Slot) (m k : ℕ) → HasLiveSlot slots m k → HasLiveSlot (parts l slots) m k
live_slot l i slots m k h = record { is_there = mapping_parts l i slots m ∙ h.is_there; is_live = liveness_parts l i slots k ∙ h.is_live }

fits_force : (l : LaneOf) → IsLane l → (slots : List Slot) (m : MapId) (dependents : List MapId) → FitsForce slots m dependents → FitsForce (parts l slots) m dependents
fits_force l i slots m dependents f =
    record {
      each = λ n c. subst (λ (o : Option ℕ). IsSome o) (sym (mapping_parts l i slots n.0)) (f.each n c);
      closed = λ g d h lt live reads is_one.
          let r = f.closed (number_at l g) d h (below_parts l slots d lt) (sym (liveness_parts l i slots d) ∙ live) (ap (λ (z : Column). holder z d) (sym (column_parts l i slots g)) ∙ reads)
          (is_one.0, is_one.1, sym (mapping_parts l i slots is_one.0.0) ∙ is_one.2) in
          (r.0, r.1, mapping_parts l i slots r.0.0 ∙ r.2);
    }

fits_drop : (l : LaneOf) → IsLane l → (slots : List Slot) (birth : ℕ) → FitsDrop slots birth → FitsDrop (parts l slots) birth
fits_drop l i slots birth f =
    record {
      place = f.place;
      is_there = birth_parts l i slots birth ∙ f.is_there;
      is_old = liveness_parts l i slots f.place ∙ f.is_old;
      unneeded = λ n. f.unneeded (needed_parts l i slots f.place n);
    }

pub fits_event : (l : LaneOf) → IsLane l → (s : Sheet) (e : LaneEvent) → FitsEvent s e → FitsEvent (part_of_sheet l s) e
fits_event l i s (Make volume grains kind) f = λ k lt q. f k (below_parts l s.slots k lt) (sym (name_parts l i s.slots k) ∙ q)
fits_event l i s (Remove volume) f = fits_remove l i s.slots volume.0 f
fits_event l i s (Trigger pairs) f = fits_trigger l i s pairs f
fits_event l i s (Retire m) f = (f.0, live_slot l i s.slots m.0 f.0 f.1)
fits_event l i s (Detach m) f = (f.0, live_slot l i s.slots m.0 f.0 f.1, λ n. f.2 (needed_parts l i s.slots f.0 n))
fits_event l i s (Split m) f = (f.0, live_slot l i s.slots m.0 f.0 f.1, complete_parts l i s.slots f.0 f.2)
fits_event l i s (Force m dependents) f = fits_force l i s.slots m dependents f
fits_event l i s (Drop slot) f = fits_drop l i s.slots slot.0 f
fits_event l i s (Forget m) f = mapping_parts l i s.slots m.0 ∙ f
fits_event l i s e f = f
