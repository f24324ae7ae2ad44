-- Which slot a copy or a cleaning fills, and at which grain.
use Rattle.std.proofs.Common.{◌≡◌, ℕ, ◌<◌, ◌%◌, Bool, true, false, cond, Option, Some, None, IsSome, List, refl, sym, ap, subst, ◌∙◌, inl, inr, slice_index_or, is_some, option_map, option_and_then, find}
use Rattle.fc_base.specs.Column.{needer, first_below}
use Rattle.fc_base.specs.Sheet.{Slot, slot_at, column, mapping_place}
use Rattle.fc_base.specs.declared.ids.GrainNo.{GrainNo}
use Rattle.fc_base.specs.declared.ids.MapId.{MapId}
use Rattle.fc_moves.proofs.Search.{cases_option, first_some}
use Rattle.fc_rules.specs.LaneTold.{place_of, LaneOf, number_at}
use Rattle.fc_rules.specs.LaneTurn.{cleaned_slot, copied_slot, lacks_at, needer_at, grains_of, least_grain}
use Rattle.fc_steps.proofs.Naming.{some_is}
use Rattle.std.proofs.lemmas.Nat.{div-mul-add, mod-mul-add}
use Rattle.fc_pick.specs.Next.{next_work, work_of, can_work}
use Rattle.fc_pick.specs.declared.work.WorkFlags.{WorkFlags}

pub some_of : {A : Type 0} (o : Option A) → IsSome o → (x : A) × (o ≡ Some x)
some_of None e = absurd cc
some_of (Some x) e = (x, refl)

lacking : (x k : ℕ) (live holds : Bool) → cond live (cond holds None (Some x)) None ≡ Some k → x ≡ k
lacking x k true true e = absurd cc
lacking x k true false e = cc
lacking x k false holds e = absurd cc

pub copied_place : (slots : List Slot) (m g k : ℕ) → copied_slot slots m g ≡ Some k → mapping_place slots m ≡ Some k
copied_place slots m g k e =
    elim (cases_option (mapping_place slots m)) [
      | inl none ↦ absurd (let f : None ≡ Some k = sym (ap (λ o. lacks_at slots o g) none) ∙ e in cc)
      | inr x ↦ x.1 ∙ ap Some (lacking x.0 k (slot_at slots x.0).is_live (slice_index_or (slot_at slots x.0).held g true) (sym (ap (λ o. lacks_at slots o g) x.1) ∙ e))
    ]

pub cleaned_place : (slots : List Slot) (m g k : ℕ) → cleaned_slot slots m g ≡ Some k → (x : ℕ) × (mapping_place slots m ≡ Some x) × (needer (column slots g) x ≡ Some k)
cleaned_place slots m g k e =
    elim (cases_option (mapping_place slots m)) [
      | inl none ↦ absurd (let f : None ≡ Some k = sym (ap (λ o. needer_at slots o g) none) ∙ e in cc)
      | inr x ↦ (x.0, x.1, sym (ap (λ o. needer_at slots o g) x.1) ∙ e)
    ]

-- ---- at which grain

work_by : (least : MapId → Option GrainNo) (row : WorkFlags) (o : Option GrainNo) (m : MapId) (g : GrainNo) → least row.map ≡ o → option_map {U = MapId × GrainNo} (λ (x : GrainNo). (row.map, x)) o ≡ Some (m, g) → least m ≡ Some g
work_by least row None m g e q = absurd cc
work_by least row (Some x) m g e q =
    let pair : ◌≡◌ {A = MapId × GrainNo} (row.map, x) (m, g) = some_is q in
    ap least (sym (ap (λ (p : MapId × GrainNo). p.0) pair)) ∙ (e ∙ ap (λ (p : MapId × GrainNo). Some p.1) pair)

pub work_is : (has : WorkFlags → Bool) (least : MapId → Option GrainNo) (flags : List WorkFlags) (m : MapId) (g : GrainNo) → next_work has least flags ≡ Some (m, g) → least m ≡ Some g
work_is has least flags m g e =
    elim (cases_option (find (can_work has least) flags)) [
      | inl none ↦ let f : ◌≡◌ {A = Option (MapId × GrainNo)} None (Some (m, g)) = sym (ap (option_and_then (work_of least)) none) ∙ e in absurd cc
      | inr row ↦ work_by least row.0 (least row.0.map) m g refl (sym (ap (option_and_then (work_of least)) row.1) ∙ e)
    ]

some_from : (o : Option ℕ) → is_some o ≡ true → IsSome o
some_from None e = absurd cc
some_from (Some x) e = refl

-- the least grain is one that can be filled, of the lane
pub least_can : (l : LaneOf) → l.lane < l.lanes → (slots : List Slot) (filled : ℕ → Option ℕ) (m : ℕ) (g : GrainNo) → least_grain l slots filled m ≡ Some g → IsSome (filled (place_of l g.0)) × (g.0 % l.lanes ≡ l.lane)
least_can l i slots filled m g e =
    let test : ℕ → Bool = λ x. is_some (filled x) in
    let n : ℕ = grains_of slots (mapping_place slots m) in
    let numbered : Option ℕ → Option GrainNo = option_map (λ x. record { 0 = number_at l x }) in
    elim (cases_option (first_below test n)) [
      | inl none ↦ let f : ◌≡◌ {A = Option GrainNo} None (Some g) = sym (ap numbered none) ∙ e in absurd cc
      | inr p ↦
          let f = first_some test n p.0 p.1 in
          let at : ◌≡◌ {A = GrainNo} (record { 0 = number_at l p.0 }) g = some_is (sym (ap numbered p.1) ∙ e) in
          let number : g.0 ≡ number_at l p.0 = sym (ap (λ (x : GrainNo). x.0) at) in
          let place : place_of l g.0 ≡ p.0 = ap (place_of l) number ∙ div-mul-add p.0 l.lanes l.lane i in (
            subst (λ x. IsSome (filled x)) (sym place) (some_from (filled p.0) f.passes),
            ap (λ x. x % l.lanes) number ∙ mod-mul-add p.0 l.lanes l.lane i,
          )
    ]
