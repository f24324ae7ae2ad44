-- Parts of the agreement of tables and chains, carried over to other tables.
use Rattle.std.proofs.Common.{◌≡◌, ℕ, Bool, true, false, List, Option, Some, None, refl, sym, ap, subst, ◌∙◌, Contains}
use Rattle.std.specs.Prelude.{IsNone, ◌==◌, find, IsSome}
use Rattle.std.specs.Option.{ForSome}
use Rattle.std.proofs.lemmas.Bool.{eqb-true, eq-eqb}
use Rattle.fc_base.specs.Sheet.{Slot, mapping_place}
use Rattle.fc_base.specs.Tables.{Tables, volume_with, group_with}
use Rattle.fc_base.specs.declared.ids.GroupId.{GroupId}
use Rattle.fc_base.specs.declared.ids.VolId.{VolId}
use Rattle.fc_base.specs.declared.state.MapState.{MapState}
use Rattle.fc_base.specs.declared.state.MapState.TheVariants.{Empty, Copying, Stopping}
use Rattle.fc_base.specs.declared.volume.Group.{Group}
use Rattle.fc_base.specs.declared.volume.Mapping.{Mapping}
use Rattle.fc_base.specs.declared.volume.Volume.{Volume}
use Rattle.fc_books.specs.Sound.{HasGrains, IsOfTables, HasSlot, SlotByState}
use Rattle.fc_decided.proofs.Lists.{find_from, find_there}

-- ---- found in tables

pub some_from : {X : Type 0} (o : Option X) → IsSome o → (x : X) × (o ≡ Some x)
some_from None some = absurd cc
some_from (Some x) some = (x, refl)

pub is_none : {X : Type 0} (o : Option X) → o ≡ None → IsNone o
is_none None e = search
is_none (Some x) e = absurd cc

pub some_is : {X : Type 0} (o : Option X) (x : X) → o ≡ Some x → IsSome o
some_is None x e = absurd cc
some_is (Some y) x e = search

pub volume_there : (t : Tables) (v : Volume) (id : VolId) → Contains t.volumes v → id.0 ≡ v.id.0 → IsSome (volume_with t id)
volume_there t v id found e = let some = find_there (λ (x : Volume). id.0 == x.id.0) t.volumes v found (eq-eqb id.0 v.id.0 e) in some_is (volume_with t id) some.0 some.1

pub group_there : (t : Tables) (g : Group) (id : GroupId) → Contains t.groups g → id.0 ≡ g.id.0 → IsSome (group_with t id)
group_there t g id found e = let some = find_there (λ (x : Group). id.0 == x.id.0) t.groups g found (eq-eqb id.0 g.id.0 e) in some_is (group_with t id) some.0 some.1

pub volume_from : (t : Tables) (id : VolId) → IsSome (volume_with t id) → (v : Volume) × Contains t.volumes v × (id.0 ≡ v.id.0)
volume_from t id some =
    let v = some_from (volume_with t id) some in
    let f = find_from (λ (x : Volume). id.0 == x.id.0) t.volumes v.0 v.1 in
    (v.0, f.0, eqb-true id.0 v.0.id.0 f.1)

pub group_from : (t : Tables) (id : GroupId) → IsSome (group_with t id) → (g : Group) × Contains t.groups g × (id.0 ≡ g.id.0)
group_from t id some =
    let g = some_from (group_with t id) some in
    let f = find_from (λ (x : Group). id.0 == x.id.0) t.groups g.0 g.1 in
    (g.0, f.0, eqb-true id.0 g.0.id.0 f.1)

pub has_grains : (o : Option Volume) (v : Volume) (grains : ℕ) → o ≡ Some v → v.grains ≡ grains → HasGrains o grains
has_grains None v grains e same = absurd cc
has_grains (Some x) v grains e same = (let f : x ≡ v = cc in ap (λ (z : Volume). z.grains) f ∙ same)

pub grains_from : (o : Option Volume) (v : Volume) (grains : ℕ) → HasGrains o grains → o ≡ Some v → v.grains ≡ grains
grains_from None v grains has e = absurd cc
grains_from (Some x) v grains has e = (let f : x ≡ v = cc in ap (λ (z : Volume). z.grains) (sym f) ∙ has)

-- ---- a mapping

-- The same volumes; its group is there; its state is one of a mapping.
pub of_tables_same : (t u : Tables) (m n : Mapping) → u.volumes ≡ t.volumes → n.source ≡ m.source → n.target ≡ m.target → (n.state ≡ Empty → ⊥) → ForSome n.group (λ g. IsSome (group_with u g)) → IsOfTables t m → IsOfTables u n
of_tables_same t u m n volumes source target state group of =
    let found : (id other : VolId) → other ≡ id → volume_with t id ≡ volume_with u other =
    λ id other e. (λ k. find (λ (v : Volume). (sym e k).0 == v.id.0) (sym volumes k)) in
    let s = found m.source n.source source in
    let r = found m.target n.target target in
    record {
      source = subst (λ (o : Option Volume). IsSome o) s of.source;
      target = subst (λ (o : Option Volume). IsSome o) r of.target;
      apart = λ e. of.apart (ap (λ (v : VolId). v.0) (sym source) ∙ e ∙ ap (λ (v : VolId). v.0) target);
      as_large = subst (λ (o : Option Volume). ForSome o (λ (v : Volume). HasGrains (volume_with u n.target) v.grains)) s (subst (λ (p : Option Volume). ForSome (volume_with t m.source) (λ (v : Volume). HasGrains p v.grains)) r of.as_large);
      group = group;
      state = state;
    }

-- A slot by state, of a mapping by another name.
pub has_slot_as : (slots : List Slot) (m n : Mapping) (live : Bool) → n.id.0 ≡ m.id.0 → n.target ≡ m.target → HasSlot slots m live → HasSlot slots n live
has_slot_as slots m n live id target has =
    record {
      place = has.place;
      is_there = ap (mapping_place slots) id ∙ has.is_there;
      of_target = has.of_target ∙ ap (λ (v : VolId). v.0) (sym target);
      liveness = has.liveness;
    }

pub slot_as : (state : MapState) (slots : List Slot) (m n : Mapping) → n.id.0 ≡ m.id.0 → n.target ≡ m.target → SlotByState state slots m → SlotByState state slots n
slot_as Copying slots m n id target by = has_slot_as slots m n true id target by
slot_as Stopping slots m n id target by = has_slot_as slots m n false id target by
slot_as state slots m n id target by = ap (mapping_place slots) id ∙ by
