-- A worker's turn: the grain that it takes is one of its lane, and what it does there.
use Rattle.std.proofs.Common.{◌≡◌, ℕ, Bool, Option, Some, None, List, find, option_map, refl, sym, ap, subst}
use Rattle.std.specs.Option.{option_and_then}
use Rattle.fc_base.specs.Sheet.{Slot}
use Rattle.fc_base.specs.declared.ids.GrainNo.{GrainNo}
use Rattle.fc_base.specs.declared.ids.MapId.{MapId}
use Rattle.fc_entry.specs.declared.entry.Entry.{Entry}
use Rattle.fc_parts.proofs.Numbers.{IsLane, IsOf, of_same, number_is_of}
use Rattle.fc_pick.specs.Next.{can_work, work_of, next_work}
use Rattle.fc_pick.specs.declared.work.WorkFlags.{WorkFlags}
use Rattle.fc_rules.specs.LaneRight.{TurnAnswers}
use Rattle.fc_rules.specs.LaneTold.{LaneOf, LaneTold, number_at}
use Rattle.fc_rules.specs.LaneTurn.{copied_slot, cleaned_slot, least_grain, next_copy, next_clean}
use Rattle.fc_rules.specs.Steps.{HasDoneNothing}

-- ---- the grain that it takes

some_mapped : {X Y : Type 0} (f : X → Y) (o : Option X) (y : Y) → option_map f o ≡ Some y → (x : X) × (o ≡ Some x) × (f x ≡ y)
some_mapped f None y e = absurd cc
some_mapped f (Some x) y e = (x, refl, cc)

least_of : (l : LaneOf) → IsLane l → (slots : List Slot) (filled : ℕ → Option ℕ) (m : ℕ) (g : GrainNo) → least_grain l slots filled m ≡ Some g → IsOf l g.0
least_of l i slots filled m g e =
    let p = some_mapped (λ (at : ℕ). let number : GrainNo = record { 0 = number_at l at } in number) _ g e in
    of_same l g.0 (number_at l p.0) (sym (ap (λ (x : GrainNo). x.0) p.2)) (number_is_of l i p.0)

work_least : (least : MapId → Option GrainNo) (o : Option WorkFlags) (work : MapId × GrainNo) → option_and_then (work_of least) o ≡ Some work → least work.0 ≡ Some work.1
work_least least None work e = absurd cc
work_least least (Some row) work e =
    let p = some_mapped (λ (g : GrainNo). (row.map, g)) (least row.map) work e in
    subst (λ (z : MapId × GrainNo). least z.0 ≡ Some z.1) p.2 p.1

next_of : (l : LaneOf) → IsLane l → (slots : List Slot) (filled : ℕ → ℕ → Option ℕ) (has_flag : WorkFlags → Bool) (flags : List WorkFlags) (work : MapId × GrainNo) →
    next_work has_flag (λ (m : MapId). least_grain l slots (filled m.0) m.0) flags ≡ Some work → IsOf l work.1.0
next_of l i slots filled has_flag flags work e =
    let least = λ (m : MapId). least_grain l slots (filled m.0) m.0 in
    least_of l i slots (filled work.0.0) work.0.0 work.1 (work_least least (find (can_work has_flag least) flags) work e)

pub copied_of : (l : LaneOf) → IsLane l → (told : LaneTold) (work : MapId × GrainNo) → next_copy l told ≡ Some work → IsOf l work.1.0
copied_of l i told work e = next_of l i told.sheet.slots (copied_slot told.sheet.slots) (λ (row : WorkFlags). row.copies) told.flags work e

pub cleaned_of : (l : LaneOf) → IsLane l → (told : LaneTold) (work : MapId × GrainNo) → next_clean l told ≡ Some work → IsOf l work.1.0
cleaned_of l i told work e = next_of l i told.sheet.slots (cleaned_slot told.sheet.slots) (λ (row : WorkFlags). row.cleans) told.flags work e

-- ---- what it answers

-- It has done nothing, or answers for its work.
pub turn_case : (Answers : MapId → GrainNo → Entry → Type 0) (o : Option (MapId × GrainNo)) (entry : Entry) (P : Type 0) →
    (HasDoneNothing entry → P) → ((work : MapId × GrainNo) → o ≡ Some work → Answers work.0 work.1 entry → P) → TurnAnswers Answers o entry → P
turn_case Answers None entry P idle busy a = idle a.1
turn_case Answers (Some work) entry P idle busy a = busy work refl a

-- The same work answers otherwise.
pub turn_map : (Small Big : MapId → GrainNo → Entry → Type 0) (o : Option (MapId × GrainNo)) (entry : Entry) →
    ((work : MapId × GrainNo) → o ≡ Some work → Small work.0 work.1 entry → Big work.0 work.1 entry) → TurnAnswers Small o entry → TurnAnswers Big o entry
turn_map Small Big None entry f a = a
turn_map Small Big (Some work) entry f a = f work refl a
