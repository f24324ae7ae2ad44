-- Changes that add an object, and a mapping that is set.
use Rattle.std.proofs.Common.{◌≡◌, ℕ, ◌<◌, ◌⊎◌, List, true, length, get_or, position, find, slice_get, map, set, nat_eq, Option, Some, option_map, inl, inr, refl, ap, sym, subst, ◌∙◌, arith}
use Rattle.std.specs.Option.{ForSome}
use Rattle.std.proofs.lemmas.List.Quantifiers.{position-Some}
use Rattle.std.proofs.lemmas.Bool.Decides.{nat_tests}
use Rattle.std.proofs.lemmas.List.{get_or_default}
use Rattle.std.proofs.lemmas.Option.{slice_get-get_or}
use Rattle.fc_base.specs.declared.volume.Volume.{Volume}
use Rattle.fc_base.specs.declared.volume.Mapping.{Mapping}
use Rattle.fc_base.specs.declared.volume.Group.{Group}
use Rattle.fc_base.specs.declared.volume.Change.{Change}
use Rattle.fc_base.specs.declared.volume.Change.TheVariants.{AddVolume, AddMapping, AddGroup}
use Rattle.fc_base.specs.Tables.{Tables, Fits, room_asked}
use Rattle.fc_registry.specs.Registry.{RegistryState}
use Rattle.fc_registry.specs.declared.Kept.{Kept}
use Rattle.fc_registry.proofs.Places.{find-found, within-found}

-- a change that adds an object asks room for itself
pub asks_for_itself : (change : Change)
    → ((x : Volume) × change ≡ AddVolume x) ⊎ (((x : Mapping) × change ≡ AddMapping x) ⊎ ((x : Group) × change ≡ AddGroup x))
    → room_asked change ≡ Some change
asks_for_itself change (inl p) = subst (λ c. room_asked c ≡ Some c) (sym p.1) refl
asks_for_itself change (inr (inl p)) = subst (λ c. room_asked c ≡ Some c) (sym p.1) refl
asks_for_itself change (inr (inr p)) = subst (λ c. room_asked c ≡ Some c) (sym p.1) refl

-- the change that is kept is the one that was reserved, so it fits
pub kept_fits : (tables : Tables) (held : Option Kept) (kept : Kept) (change : Change) (seen : RegistryState)
    → record { tables = tables; reserved = option_map (λ k. k.change) held } ≡ seen
    → held ≡ Some kept → kept.change ≡ change → ForSome seen.reserved (Fits seen.tables) → Fits tables change
kept_fits tables held kept change seen view taken is fits =
    let told : option_map (λ k. k.change) held ≡ Some change = rw (taken, is) refl in
    rw (← view) at (fits change (rw (← view) told))

-- the row, with all of the mapping but its id and its name
abbrev pub written : Mapping → Mapping → Mapping
written row mapping = record mapping { id = row.id; name = row.name }

module _ (items : List Mapping) (place : ℕ) (row mapping : Mapping) (found : position (λ m. nat_eq mapping.id.0 m.id.0) items ≡ Some place) (read : row ≡ get_or items place row) where
  same_number : row.id.0 ≡ mapping.id.0
  same_number =
      let passes = (position-Some (λ m. nat_eq mapping.id.0 m.id.0) items place row found).1 in
      let own : nat_eq mapping.id.0 row.id.0 ≡ true = rw read passes in
      grind (arith, nat_tests, own)

  same_id : row.id ≡ mapping.id
  same_id = λ k. record { 0 = same_number k }

  same_name : option_map (λ m. m.name) (find (λ m. nat_eq mapping.id.0 m.id.0) items) ≡ Some mapping.name → row.name ≡ mapping.name
  same_name kept =
      let within = within-found (λ m. nat_eq mapping.id.0 m.id.0) items place found in
      let told : find (λ m. nat_eq mapping.id.0 m.id.0) items ≡ Some row =
      find-found (λ m. nat_eq mapping.id.0 m.id.0) items place found ∙ (slice_get-get_or items place row within ∙ ap Some (sym read)) in
      let names : Some row.name ≡ Some mapping.name = rw told at kept in
      cc

  -- the row becomes the mapping
  pub written_is : option_map (λ m. m.name) (find (λ m. nat_eq mapping.id.0 m.id.0) items) ≡ Some mapping.name → written row mapping ≡ mapping
  written_is kept = λ k. record mapping { id = same_id k; name = same_name kept k }

  -- what stood there had the mapping's id and name
  pub id_there : (d : Mapping) → mapping.id.0 ≡ (get_or items place d).id.0
  id_there d =
      let within = within-found (λ m. nat_eq mapping.id.0 m.id.0) items place found in
      sym same_number ∙ ap (λ m. m.id.0) (read ∙ get_or_default items place row d within)

  pub name_there : option_map (λ m. m.name) (find (λ m. nat_eq mapping.id.0 m.id.0) items) ≡ Some mapping.name → (d : Mapping) → mapping.name ≡ (get_or items place d).name
  name_there kept d =
      let within = within-found (λ m. nat_eq mapping.id.0 m.id.0) items place found in
      sym (same_name kept) ∙ ap (λ m. m.name) (read ∙ get_or_default items place row d within)
