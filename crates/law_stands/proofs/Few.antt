-- All volumes together have few grains, through every decision.
use Rattle.std.proofs.Common.{◌≡◌, ℕ, ◌+◌, ◌*◌, ◌/◌, ◌≤◌, Bool, false, not, ◌==◌, nat_lt, List, [], ◌∷◌, ◌++◌, fold, Option, Some, None, Contains, refl, sym, ap, subst, arith}
use Rattle.std.proofs.lemmas.Bool.Decides.{nat_tests}
use Rattle.std.specs.List.{filter}
use Rattle.std.proofs.lemmas.List.Filters.{sum_by-filter_both}
use Rattle.std.proofs.lemmas.List.Sums.{get_or-le-sum_by, sum-map, sum_by_push}
use Rattle.fc_base.specs.Grain.{grain_bytes}
use Rattle.fc_base.specs.Tables.{Tables, volume_named}
use Rattle.fc_base.specs.declared.command.Command.{Command}
use Rattle.fc_base.specs.declared.command.Command.TheVariants.{Mkvdisk, Rmvdisk}
use Rattle.fc_base.specs.declared.command.Unit.{Unit as SizeUnit}
use Rattle.fc_base.specs.declared.decision.Decision.{Decision}
use Rattle.fc_base.specs.declared.fault.Refusal.{Refusal}
use Rattle.fc_base.specs.declared.fault.Refusal.TheVariants.{Limit}
use Rattle.fc_base.specs.declared.ids.VolId.{VolId}
use Rattle.fc_base.specs.declared.size.GrainSize.{GrainSize}
use Rattle.fc_base.specs.declared.volume.Volume.{Volume}
use Rattle.fc_books.specs.After.{after_table_change}
use Rattle.fc_books.specs.Books.{Books}
use Rattle.fc_books.specs.Deciding.{after_decision, answered, decide, done, for_one, refused}
use Rattle.fc_books.specs.Making.{new_volume, remove_volume}
use Rattle.fc_books.specs.Refused.{mkvdisk_refused}
use Rattle.fc_decided.proofs.Making.{volume_refusals}
use Rattle.fc_decided.proofs.Unrefused.{none_of, none_where}
use Rattle.fc_entry.specs.Refused.{all_grains}
use Rattle.fc_entry.specs.Volumes.{unit_bytes}
use Rattle.law_volumes.proofs.Changes.{events_keep}
use Rattle.law_volumes.proofs.Deeds.{decide_keeps}

abbrev pub AreSmall : List Volume → Type 0
AreSmall volumes = all_grains volumes ≤ 8192

abbrev grains_of : Volume → ℕ
grains_of v = v.grains

-- ---- lists of volumes

pub one_of_all : (volumes : List Volume) (v : Volume) → Contains volumes v → v.grains ≤ all_grains volumes
one_of_all volumes v found =
    let at = get_or-le-sum_by grains_of volumes found.0 v found.1 in
    omega (arith, at, sum-map grains_of volumes, ap grains_of found.2)

pushed : (volumes : List Volume) (v : Volume) → all_grains volumes + v.grains ≤ 8192 → AreSmall (volumes ++ v ∷ [])
pushed volumes v room = omega (arith, room, sum-map grains_of volumes, sum-map grains_of (volumes ++ v ∷ []), sum_by_push grains_of volumes v)

filtered : (p : Volume → Bool) (volumes : List Volume) → AreSmall volumes → AreSmall (filter p volumes)
filtered p volumes small =
    omega (arith, small, sum-map grains_of volumes, sum-map grains_of (filter p volumes), sum_by-filter_both p (λ v. not (p v)) (λ v. refl) grains_of volumes)

-- ---- decisions

new_room : (grain : GrainSize) (b : Books) (name : Option (List ℕ)) (size : ℕ) (unit : Option SizeUnit) (thin : Bool) → mkvdisk_refused grain b name size unit thin ≡ None →
    all_grains b.tables.volumes + (new_volume grain b name size unit thin).grains ≤ 8192
new_room grain b name size unit thin e =
    let bytes = size * unit_bytes unit in
    let none = none_of (volume_refusals grain b name size unit thin) e in
    within (all_grains b.tables.volumes + bytes / grain_bytes grain) (none_where (nat_lt 8192 (all_grains b.tables.volumes + bytes / grain_bytes grain)) (Limit 8192) none.1.1.0)
  where
    within : (n : ℕ) → nat_lt 8192 n ≡ false → n ≤ 8192
    within n e = grind (arith, nat_tests)

module _ (sets restarts : ℕ → List Bool) (grain : GrainSize) (b : Books) where
  volumes_of : (d : Decision) → (after_decision sets b d).tables.volumes ≡ (fold after_table_change b d.changes).tables.volumes
  volumes_of d = ap (λ (t : Tables). t.volumes) (events_keep sets (fold after_table_change b d.changes) d.events)

  answered_small : (command : Command) (refusal : Option Refusal) (loop : Option (List VolId)) → AreSmall b.tables.volumes →
      (refusal ≡ None → AreSmall (fold after_table_change b (done grain b command).changes).tables.volumes) →
      AreSmall (after_decision sets b (answered restarts grain b command refusal loop)).tables.volumes
  answered_small command (Some refusal) loop small made = subst AreSmall (sym (volumes_of (answered restarts grain b command (Some refusal) loop))) small
  answered_small command None (Some loop) small made = subst AreSmall (sym (volumes_of (answered restarts grain b command None (Some loop)))) small
  answered_small command None None small made = subst AreSmall (sym (volumes_of (answered restarts grain b command None None))) (made refl)

  removed_small : (found : Option Volume) → AreSmall b.tables.volumes → AreSmall (fold after_table_change b (for_one found remove_volume).changes).tables.volumes
  removed_small None small = small
  removed_small (Some x) small = filtered (λ (v : Volume). not (x.id.0 == v.id.0)) b.tables.volumes small

  pub decide_small : (command : Command) (loop : Option (List VolId)) → AreSmall b.tables.volumes → AreSmall (after_decision sets b (decide restarts grain b command loop)).tables.volumes
  decide_small (Mkvdisk name size unit thin) loop small =
      answered_small (Mkvdisk name size unit thin) (refused grain b (Mkvdisk name size unit thin)) loop small
      (λ e. pushed b.tables.volumes (new_volume grain b name size unit thin) (new_room grain b name size unit thin e))
  decide_small (Rmvdisk volume) loop small =
      answered_small (Rmvdisk volume) (refused grain b (Rmvdisk volume)) loop small (λ e. removed_small (volume_named b.tables volume) small)
  decide_small command loop small = subst AreSmall (sym (decide_keeps restarts grain b command loop refl sets)) small
