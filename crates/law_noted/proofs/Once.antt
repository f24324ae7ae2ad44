-- The volumes that a lane holds have different ids.
use Rattle.std.proofs.Common.{◌≡◌, ℕ, suc, ◌<◌, ◌==◌, Bool, true, false, cond, List, [], ◌∷◌, map, AllPairs, Contains, refl, sym, ap, subst, ◌∙◌, arith, inl, inr}
use Rattle.std.proofs.lemmas.Bool.{eq-eqb, ne_eqb}
use Rattle.fc_base.specs.Tables.{Tables}
use Rattle.fc_base.specs.declared.volume.Volume.{Volume}
use Rattle.fc_decided.proofs.Lists.{in_cases, map_from, map_in, none_in}
use Rattle.fc_grains.specs.Volumes.{VolumeGrains, volume_of}
use Rattle.fc_legal.specs.Whole.{volume_told, volumes_told}
use Rattle.fc_steps.specs.Standing.{VolumeKind, SameVolumes, kind_of_grains, kind_of_told}

-- no number is there twice
abbrev pub AreApart : List ℕ → Type 0
AreApart [] = Unit {0}
AreApart (n ∷ ns) = (Contains ns n → ⊥) × AreApart ns

above : (v : Volume) (vs : List Volume) → AllPairs (λ (x y : Volume). x.id.0 < y.id.0) (v ∷ vs) → (x : Volume) → Contains vs x → v.id.0 < x.id.0
above v vs rising x c = subst (λ (z : Volume). v.id.0 < z.id.0) c.2 (rising 0 (suc c.0) x (omega arith) (let lt = c.1 in omega (arith, lt)))

rest_rises : (v : Volume) (vs : List Volume) → AllPairs (λ (x y : Volume). x.id.0 < y.id.0) (v ∷ vs) → AllPairs (λ (x y : Volume). x.id.0 < y.id.0) vs
rest_rises v vs rising = λ i j d lt jl. rising (suc i) (suc j) d (omega (arith, lt)) (omega (arith, jl))

apart_volumes : (vs : List Volume) → AllPairs (λ (x y : Volume). x.id.0 < y.id.0) vs → AreApart (map (λ (v : Volume). v.id.0) vs)
apart_volumes [] rising = tt
apart_volumes (v ∷ vs) rising = (
  λ c. let x = map_from (λ (z : Volume). z.id.0) vs v.id.0 c in let lt = above v vs rising x.0 x.1 in let e = x.2 in absurd (omega (arith, lt, e)),
  apart_volumes vs (rest_rises v vs rising),
)

-- so each volume is the first with its id
first_with : (y : VolumeGrains) (ys : List VolumeGrains) (id : ℕ) (b : Bool) → (y.volume.0 == id) ≡ b → volume_of (y ∷ ys) id ≡ cond b y (volume_of ys id)
first_with y ys id b e = ap (λ (z : Bool). cond z y (volume_of ys id)) e

pub once : (xs : List VolumeGrains) → AreApart (map (λ (x : VolumeGrains). x.volume.0) xs) → (x : VolumeGrains) → Contains xs x → volume_of xs x.volume.0 ≡ x
once [] apart x c = absurd (none_in x c)
once (y ∷ xs) apart x c =
    elim (in_cases y x xs c) [
      | inl e ↦ first_with y xs x.volume.0 true (eq-eqb y.volume.0 x.volume.0 (ap (λ (z : VolumeGrains). z.volume.0) e)) ∙ e
      | inr r ↦ first_with y xs x.volume.0 false (ne_eqb y.volume.0 x.volume.0 (λ q. apart.0 (subst (Contains (map (λ (z : VolumeGrains). z.volume.0) xs)) (sym q) (map_in (λ (z : VolumeGrains). z.volume.0) xs x r))))
          ∙ once xs apart.1 x r
    ]

-- the ids are those of the tables
ids_of_kinds : (xs : List VolumeGrains) → map (λ (k : VolumeKind). k.volume.0) (map kind_of_grains xs) ≡ map (λ (x : VolumeGrains). x.volume.0) xs
ids_of_kinds [] = refl
ids_of_kinds (x ∷ xs) = ap (λ (z : List ℕ). x.volume.0 ∷ z) (ids_of_kinds xs)

ids_of_told : (t : Tables) (vs : List Volume) → map (λ (k : VolumeKind). k.volume.0) (map kind_of_told (map (volume_told t) vs)) ≡ map (λ (v : Volume). v.id.0) vs
ids_of_told t [] = refl
ids_of_told t (v ∷ vs) = ap (λ (z : List ℕ). v.id.0 ∷ z) (ids_of_told t vs)

pub once_of_tables : (t : Tables) (xs : List VolumeGrains) → AllPairs (λ (x y : Volume). x.id.0 < y.id.0) t.volumes → SameVolumes xs (volumes_told t) → (x : VolumeGrains) → Contains xs x → volume_of xs x.volume.0 ≡ x
once_of_tables t xs rising same =
    let ids : map (λ (x : VolumeGrains). x.volume.0) xs ≡ map (λ (v : Volume). v.id.0) t.volumes =
    sym (ids_of_kinds xs) ∙ (ap (map (λ (k : VolumeKind). k.volume.0)) same ∙ ids_of_told t t.volumes) in
    once xs (subst AreApart (sym ids) (apart_volumes t.volumes rising))
