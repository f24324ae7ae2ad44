-- Volumes of the grains: what is stored, and which ids and kinds there are, after one came, went, or got an armed fault.
use Rattle.std.proofs.Common.{◌≡◌, ◌≢◌, ℕ, suc, ◌<◌, Bool, true, false, not, cond, ◌||◌, ◌==◌, eqb, List, [], ◌∷◌, ◌++◌, map, filter, All, refl, sym, ap, subst, ◌∙◌, inl, inr, true≢false, arith, Some}
use Rattle.std.proofs.lemmas.Bool.{cases_Bool, cases_eq, eq-eqb, ne_eqb}
use Rattle.std.proofs.lemmas.List.Elements.{All-nil, All-cons, All-filter}
use mathlib.Core.List.{map-append}
use Rattle.fc_base.specs.declared.ids.VolId.{VolId}
use Rattle.fc_base.specs.declared.state.Access.{Access}
use Rattle.fc_grains.specs.Volumes.{VolumeGrains, is_there, volume_of, changed, without, armed}
use Rattle.fc_rules.specs.LaneTold.{LaneVolume}
use Rattle.std.specs.List.{list_any}
use Rattle.fc_pick.proofs.Rows.{map-filter, list_any-map}
use Rattle.fc_apply.specs.Accesses.{has_volume}
use Rattle.fc_steps.specs.Standing.{VolumeKind, kind_of_grains, kind_of_told, SameVolumes}
use Rattle.fc_apply.proofs.Accessing.{with_access}
use Rattle.fc_grains.specs.Calls.{HasRemoved}
use Rattle.fc_grains.specs.Grains.{GrainsState}
use Rattle.fc_grains.specs.Quiet.{IsQuiet}

-- ---- a volume comes

pub push_there : (vs : List VolumeGrains) (new : VolumeGrains) (x : ℕ) → is_there vs x ≡ true → is_there (vs ++ new ∷ []) x ≡ true
push_there [] new x t = absurd (true≢false (sym t))
push_there (v ∷ vs) new x t =
    elim (cases_Bool (eqb v.volume.0 x)) [
      | inl hit ↦ rw hit refl
      | inr miss ↦ let rest : is_there vs x ≡ true = rw miss at t in rw miss (push_there vs new x rest)
    ]

pub push_new : (vs : List VolumeGrains) (new : VolumeGrains) → is_there (vs ++ new ∷ []) new.volume.0 ≡ true
push_new [] new = ap (λ b. b || false) (eq-eqb new.volume.0 new.volume.0 refl)
push_new (v ∷ vs) new =
    elim (cases_Bool (eqb v.volume.0 new.volume.0)) [
      | inl hit ↦ rw hit refl
      | inr miss ↦ rw miss (push_new vs new)
    ]

pub push_other : (vs : List VolumeGrains) (new : VolumeGrains) (x : ℕ) → x ≢ new.volume.0 → volume_of (vs ++ new ∷ []) x ≡ volume_of vs x
push_other [] new x ne = ap (λ b. cond b new (volume_of [] x)) (ne_eqb new.volume.0 x (λ q. ne (sym q)))
push_other (v ∷ vs) new x ne = ap (λ (z : VolumeGrains). cond (eqb v.volume.0 x) v z) (push_other vs new x ne)

pub push_here : (vs : List VolumeGrains) (new : VolumeGrains) → All (λ (v : VolumeGrains). v.volume.0 < new.volume.0) vs → volume_of (vs ++ new ∷ []) new.volume.0 ≡ new
push_here [] new newest = ap (λ b. cond b new (volume_of [] new.volume.0)) (eq-eqb new.volume.0 new.volume.0 refl)
push_here (v ∷ vs) new newest =
    let lower : v.volume.0 < new.volume.0 = newest 0 v (omega arith) in
    ap (λ b. cond b v (volume_of (vs ++ new ∷ []) new.volume.0)) (ne_eqb v.volume.0 new.volume.0 (λ q. omega arith))
    ∙ push_here vs new (λ i d within. newest (suc i) d (omega arith))

-- ---- a volume goes

pub without_there : (vs : List VolumeGrains) (id x : ℕ) → x ≢ id → is_there (without id vs) x ≡ is_there vs x
without_there [] id x ne = refl
without_there (v ∷ vs) id x ne =
    elim (cases_eq v.volume.0 id) [
      | inl e ↦
          let hit : eqb v.volume.0 id ≡ true = eq-eqb _ _ e in
          let skip : eqb v.volume.0 x ≡ false = ne_eqb _ _ (λ q. ne (sym q ∙ e)) in
          ap (λ b. is_there (cond (not b) (v ∷ without id vs) (without id vs)) x) hit ∙ (without_there vs id x ne ∙ ap (λ b. b || is_there vs x) (sym skip))
      | inr n ↦
          let miss : eqb v.volume.0 id ≡ false = ne_eqb _ _ n in
          ap (λ b. is_there (cond (not b) (v ∷ without id vs) (without id vs)) x) miss ∙ ap (λ b. eqb v.volume.0 x || b) (without_there vs id x ne)
    ]

pub without_other : (vs : List VolumeGrains) (id x : ℕ) → x ≢ id → volume_of (without id vs) x ≡ volume_of vs x
without_other [] id x ne = refl
without_other (v ∷ vs) id x ne =
    elim (cases_eq v.volume.0 id) [
      | inl e ↦
          let hit : eqb v.volume.0 id ≡ true = eq-eqb _ _ e in
          let skip : eqb v.volume.0 x ≡ false = ne_eqb _ _ (λ q. ne (sym q ∙ e)) in
          ap (λ b. volume_of (cond (not b) (v ∷ without id vs) (without id vs)) x) hit ∙ (without_other vs id x ne ∙ ap (λ b. cond b v (volume_of vs x)) (sym skip))
      | inr n ↦
          let miss : eqb v.volume.0 id ≡ false = ne_eqb _ _ n in
          ap (λ b. volume_of (cond (not b) (v ∷ without id vs) (without id vs)) x) miss ∙ ap (λ (z : VolumeGrains). cond (eqb v.volume.0 x) v z) (without_other vs id x ne)
    ]

-- ---- a fault is armed

armed_step : (b c : Bool) (calls : ℕ) (v rest rest' : VolumeGrains) → rest'.contents ≡ rest.contents → (cond c (cond b (armed calls v) v) rest').contents ≡ (cond c v rest).contents
armed_step true true calls v rest rest' e = refl
armed_step false true calls v rest rest' e = refl
armed_step b false calls v rest rest' e = e

armed_id : (b : Bool) (calls : ℕ) (v : VolumeGrains) → kind_of_grains (cond b (armed calls v) v) ≡ kind_of_grains v
armed_id true calls v = refl
armed_id false calls v = refl

pub armed_contents : (vs : List VolumeGrains) (id x calls : ℕ) → (volume_of (changed id (armed calls) vs) x).contents ≡ (volume_of vs x).contents
armed_contents [] id x calls = refl
armed_contents (v ∷ vs) id x calls =
    let b : Bool = eqb v.volume.0 id in
    ap (λ (z : VolumeKind). (cond (eqb z.volume.0 x) (cond b (armed calls v) v) (volume_of (changed id (armed calls) vs) x)).contents) (armed_id b calls v)
    ∙ armed_step b (eqb v.volume.0 x) calls v (volume_of vs x) (volume_of (changed id (armed calls) vs) x) (armed_contents vs id x calls)

pub armed_there : (vs : List VolumeGrains) (id x calls : ℕ) → is_there (changed id (armed calls) vs) x ≡ is_there vs x
armed_there [] id x calls = refl
armed_there (v ∷ vs) id x calls =
    ap (λ (z : VolumeKind). eqb z.volume.0 x || is_there (changed id (armed calls) vs) x) (armed_id (eqb v.volume.0 id) calls v)
    ∙ ap (λ b. eqb v.volume.0 x || b) (armed_there vs id x calls)

-- what a change leaves of each volume, it leaves of all
pub changed_map : {X : Type 0} (f : VolumeGrains → X) (change : VolumeGrains → VolumeGrains) → ((v : VolumeGrains) → f (change v) ≡ f v) → (vs : List VolumeGrains) (id : ℕ) → map f (changed id change vs) ≡ map f vs
changed_map f change same [] id = refl
changed_map f change same (v ∷ vs) id = λ k. one (eqb v.volume.0 id) k ∷ changed_map f change same vs id k
  where
    one : (b : Bool) → f (cond b (change v) v) ≡ f v
    one true = same v
    one false = refl

pub armed_kinds : (vs : List VolumeGrains) (id calls : ℕ) → map kind_of_grains (changed id (armed calls) vs) ≡ map kind_of_grains vs
armed_kinds vs id calls = changed_map kind_of_grains (armed calls) (λ v. refl) vs id

-- ---- ids and kinds

access_kind : (b : Bool) (access : Access) (v : LaneVolume) → kind_of_told (cond b (record v { access = access }) v) ≡ kind_of_told v
access_kind true access v = refl
access_kind false access v = refl

pub access_kinds : (vs : List LaneVolume) (id : VolId) (access : Access) → map kind_of_told (map (with_access id access) vs) ≡ map kind_of_told vs
access_kinds [] id access = refl
access_kinds (v ∷ vs) id access = λ k. access_kind (eqb v.volume.0 id.0) access v k ∷ access_kinds vs id access k

pub push_kinds : (grains : List VolumeGrains) (volumes : List LaneVolume) (v : VolumeGrains) (w : LaneVolume) → kind_of_grains v ≡ kind_of_told w → SameVolumes grains volumes → SameVolumes (grains ++ v ∷ []) (volumes ++ w ∷ [])
push_kinds grains volumes v w one all =
    map-append kind_of_grains grains (v ∷ []) ∙ ((λ k. all k ++ one k ∷ []) ∙ sym (map-append kind_of_told volumes (w ∷ [])))

pub without_kinds : (grains : List VolumeGrains) (volumes : List LaneVolume) (id : ℕ) → SameVolumes grains volumes → SameVolumes (without id grains) (filter (λ (v : LaneVolume). not (v.volume.0 == id)) volumes)
without_kinds grains volumes id all =
    let p : VolumeKind → Bool = λ (y : VolumeKind). not (y.volume.0 == id) in
    map-filter kind_of_grains p grains ∙ (ap (filter p) all ∙ sym (map-filter kind_of_told p volumes))

kinds_above : (n : ℕ) (vs : List LaneVolume) → All (λ (v : LaneVolume). v.volume.0 < n) vs → All (λ (y : VolumeKind). y.volume.0 < n) (map kind_of_told vs)
kinds_above n [] all = All-nil (λ (y : VolumeKind). y.volume.0 < n)
kinds_above n (v ∷ vs) all = All-cons (λ (y : VolumeKind). y.volume.0 < n) (kind_of_told v) (map kind_of_told vs) (all 0 v (omega arith)) (kinds_above n vs (λ i d within. all (suc i) d (omega arith)))

above_kinds : (n : ℕ) (vs : List VolumeGrains) → All (λ (y : VolumeKind). y.volume.0 < n) (map kind_of_grains vs) → All (λ (v : VolumeGrains). v.volume.0 < n) vs
above_kinds n [] all = All-nil (λ (v : VolumeGrains). v.volume.0 < n)
above_kinds n (v ∷ vs) all = All-cons (λ (v : VolumeGrains). v.volume.0 < n) v vs (all 0 (kind_of_grains v) (omega arith)) (above_kinds n vs (λ i d within. all (suc i) d (omega arith)))

pub newest_of : (n : ℕ) (grains : List VolumeGrains) (volumes : List LaneVolume) → SameVolumes grains volumes → All (λ (v : LaneVolume). v.volume.0 < n) volumes → All (λ (v : VolumeGrains). v.volume.0 < n) grains
newest_of n grains volumes same all = above_kinds n grains (subst (λ (z : List VolumeKind). All (λ (y : VolumeKind). y.volume.0 < n) z) (sym same) (kinds_above n volumes all))

-- ---- whether a volume is there

pub there_kinds : (grains : List VolumeGrains) (volumes : List LaneVolume) (id : ℕ) → SameVolumes grains volumes → is_there grains id ≡ has_volume id volumes
there_kinds grains volumes id same =
    let p : VolumeKind → Bool = λ (y : VolumeKind). y.volume.0 == id in
    sym (list_any-map kind_of_grains p grains) ∙ (ap (list_any p) same ∙ list_any-map kind_of_told p volumes)

absent : (vs : List VolumeGrains) (id calls : ℕ) → is_there vs id ≡ false → vs ≡ changed id (armed calls) vs
absent [] id calls none = refl
absent (v ∷ vs) id calls none =
    elim (cases_Bool (eqb v.volume.0 id)) [
      | inl here ↦ absurd (true≢false (ap (λ (b : Bool). b || is_there vs id) (sym here) ∙ none))
      | inr other ↦ let rest : is_there vs id ≡ false = rw other at none in rw other (ap (λ (ws : List VolumeGrains). v ∷ ws) (absent vs id calls rest))
    ]

pub unarmed : (vs : List VolumeGrains) (id calls : ℕ) (b : Bool) → is_there vs id ≡ false → vs ≡ cond b (changed id (armed calls) vs) vs
unarmed vs id calls true none = absent vs id calls none
unarmed vs id calls false none = refl

-- disks that can't fail stay so when a volume goes
pub quiet_without : (old new : GrainsState) (id : ℕ) → IsQuiet old → HasRemoved old id new → IsQuiet new
quiet_without old new id quiet removed =
    let is = removed.removed in
    let P : VolumeGrains → Type 0 = λ v. v.due ≡ Some 0 in
    record {
      told = ap (λ (g : GrainsState). g.silent) is ∙ quiet.told;
      unarmed = subst (λ (vs : List VolumeGrains). All P vs) (sym (ap (λ (g : GrainsState). g.volumes) is)) (All-filter (λ (v : VolumeGrains). not (v.volume.0 == id)) P old.volumes quiet.unarmed);
    }
