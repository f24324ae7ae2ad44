-- A part has the slots of all.
use Rattle.std.proofs.Common.{◌≡◌, ℕ, ◌<◌, true, List, refl, sym, ap, subst, ◌∙◌}
use Rattle.std.specs.Prelude.{◌↔◌}
use Rattle.fc_base.specs.Column.{Shape}
use Rattle.fc_base.specs.Counts.{UsedAt}
use Rattle.fc_base.specs.Sheet.{Slot, Sheet, shape_of}
use Rattle.fc_base.specs.declared.ids.SlotId.{SlotId}
use Rattle.fc_base.specs.SheetStep.{triggered}
use Rattle.fc_base.specs.declared.request.Pair.{Pair}
use Rattle.fc_base.specs.declared.size.GrainSize.{GrainSize}
use Rattle.fc_parts.proofs.Events.{triggered_agrees}
use Rattle.fc_parts.proofs.Numbers.{IsLane}
use Rattle.fc_parts.proofs.Views.{parts, slot_parts, shape_parts, live_parts, mapping_parts, birth_parts}
use Rattle.fc_rules.specs.LaneTold.{LaneOf}
use Rattle.fc_sums.specs.Law.{SlotsLaw}
use Rattle.fc_sums.specs.Parts.{lane_of, part_of}

-- use as a source is seen by the shape alone
abbrev BehindIn : Shape → ℕ → Type 0
BehindIn s k = (j : ℕ) × (j < s.count) × (k < j) × (s.is_live j ≡ true) × (s.chain j ≡ s.chain k)

abbrev UsedIn : Shape → ℕ → Type 0
UsedIn s v = (k : ℕ) × (k < s.count) × (s.volume k ≡ v) × BehindIn s k

used_parts : (l : LaneOf) → IsLane l → (slots : List Slot) (v : ℕ) → UsedAt (parts l slots) v ↔ UsedAt slots v
used_parts l i slots v =
    let In : Shape → Type 0 = λ s. UsedIn s v in
    (λ u. subst In (shape_parts l i slots) u, λ u. subst In (sym (shape_parts l i slots)) u)

triggered_parts : (l : LaneOf) → IsLane l → (pairs : List Pair) (s : Sheet) → shape_of (triggered pairs (record { births = s.births; slots = parts l s.slots })).slots ≡ shape_of (triggered pairs s).slots
triggered_parts l i pairs s =
    ap (λ (z : Sheet). shape_of z.slots) (sym (triggered_agrees l i pairs s)) ∙ shape_parts l i (triggered pairs s).slots

pub slots_law : (grain : GrainSize) (lanes i : ℕ) (s : Sheet) → i < lanes → SlotsLaw s (part_of grain lanes s i)
slots_law grain lanes i s lt = record {
  births = refl;
  shape = shape_parts (lane_of grain lanes i) lt s.slots;
  mapping = λ k. ap (λ (z : Slot). z.mapping) (slot_parts (lane_of grain lanes i) lt s.slots k);
  name = λ k. ap (λ (z : Slot). let name : SlotId = record { 0 = z.birth } in name) (slot_parts (lane_of grain lanes i) lt s.slots k);
  lives = live_parts (lane_of grain lanes i) lt s.slots;
  mappings = mapping_parts (lane_of grain lanes i) lt s.slots;
  names = birth_parts (lane_of grain lanes i) lt s.slots;
  used = used_parts (lane_of grain lanes i) lt s.slots;
  triggered = λ pairs. triggered_parts (lane_of grain lanes i) lt pairs s;
}
