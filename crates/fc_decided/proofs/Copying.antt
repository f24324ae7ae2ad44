-- Plain volumes after a trigger are as large as before; and effects on states change none.
use Rattle.std.proofs.Common.{◌≡◌, Bool, true, false, cond, List, [], ◌∷◌, length, map, Some, None, refl, sym, ap, subst, ◌∙◌, Contains, inl, inr}
use Rattle.std.specs.Prelude.{◌==◌}
use Rattle.std.proofs.lemmas.Bool.{cases_Bool, eqb-true, eq-eqb, both_ways}
use Rattle.fc_base.specs.declared.ids.VolId.{VolId}
use Rattle.fc_base.specs.declared.request.Effect.{Effect}
use Rattle.fc_base.specs.declared.request.Effect.TheVariants.{State, Gone}
use Rattle.fc_base.specs.declared.request.Pair.{Pair}
use Rattle.fc_base.specs.declared.size.GrainSize.{GrainSize}
use Rattle.fc_base.specs.declared.volume.Volume.{Volume}
use Rattle.fc_entry.specs.Picture.{PlainVolume, Picture}
use Rattle.fc_entry.specs.PlainStep.{source_in, now_in, after_trigger, after_effect, after_effects}
use Rattle.fc_legal.proofs.Each.{Each}
use Rattle.fc_legal.specs.Stands.{ArePlain}
use Rattle.fc_moves.proofs.Search.{cases_option}
use Rattle.fc_decided.proofs.Lists.{first_in, later_in, in_cases, none_in}

-- ---- effects

-- Effects that change no plain volume.
abbrev pub IsQuiet : Effect → Type 0
IsQuiet (State m state) = Unit {0}
IsQuiet (Gone m) = Unit {0}
IsQuiet effect = ⊥

abbrev pub AreQuiet : List Effect → Type 0
AreQuiet es = Each IsQuiet es

quiet_one : (grain : GrainSize) (picture : Picture) (e : Effect) → IsQuiet e → after_effect grain picture e ≡ picture
quiet_one grain picture (State m state) quiet = refl
quiet_one grain picture (Gone m) quiet = refl
quiet_one grain picture e quiet = absurd quiet

pub quiet_effects : (grain : GrainSize) (picture : Picture) (es : List Effect) → AreQuiet es → after_effects grain picture es ≡ picture
quiet_effects grain picture [] quiet = refl
quiet_effects grain picture (e ∷ es) quiet = ap (λ (p : Picture). after_effects grain p es) (quiet_one grain picture e quiet.0) ∙ quiet_effects grain picture es quiet.1

-- ---- sizes

-- a volume of the picture is as large as the table says
pub plain_size : (vs : List Volume) (picture : Picture) (v : Volume) (id : VolId) → ((x y : Volume) → Contains vs x → Contains vs y → x.id.0 ≡ y.id.0 → x ≡ y) → ArePlain vs picture → Contains vs v → id.0 ≡ v.id.0 → length (now_in picture id) ≡ v.grains
plain_size [] picture v id one plain found e = absurd (none_in v found)
plain_size (x ∷ xs) [] v id one plain found e = absurd plain
plain_size (x ∷ xs) (p ∷ ps) v id one plain found e = elim (cases_Bool (p.volume.0 == id.0)) [
  | inl here ↦
      let same : x ≡ v = one x v (first_in x xs) found (ap (λ (z : VolId). z.0) (sym plain.0) ∙ eqb-true p.volume.0 id.0 here ∙ e) in
      ap length (now_here p ps id here) ∙ plain.1 ∙ ap (λ (z : Volume). z.grains) same
  | inr other ↦
      ap length (now_later p ps id other)
      ∙ plain_size xs ps v id (λ a b af bf. one a b (later_in x a xs af) (later_in x b xs bf)) plain.3 (rest other) e
]
  where
    rest : (p.volume.0 == id.0) ≡ false → Contains xs v
    rest other = elim (in_cases x v xs found) [
      | inl same ↦ absurd (both_ways (p.volume.0 == id.0) other (eq-eqb p.volume.0 id.0 (ap (λ (z : VolId). z.0) plain.0 ∙ ap (λ (z : Volume). z.id.0) same ∙ sym e)))
      | inr later ↦ later
    ]

    now_here : (p : PlainVolume) (ps : Picture) (id : VolId) → (p.volume.0 == id.0) ≡ true → now_in (p ∷ ps) id ≡ p.now
    now_here p ps id e = rw e refl

    now_later : (p : PlainVolume) (ps : Picture) (id : VolId) → (p.volume.0 == id.0) ≡ false → now_in (p ∷ ps) id ≡ now_in ps id
    now_later p ps id e = rw e refl

-- the pair that makes a volume a copy
source_from : (pairs : List Pair) (id source : VolId) → source_in pairs id ≡ Some source → (p : Pair) × Contains pairs p × (p.target.0 ≡ id.0) × (p.source ≡ source)
source_from [] id source e = absurd cc
source_from (p ∷ ps) id source e = by (p.target.0 == id.0) refl e (λ rest. source_from ps id source rest)
  where
    by : (b : Bool) → (p.target.0 == id.0) ≡ b → cond b (Some p.source) (source_in ps id) ≡ Some source → (source_in ps id ≡ Some source → (q : Pair) × Contains ps q × (q.target.0 ≡ id.0) × (q.source ≡ source)) →
        (q : Pair) × Contains (p ∷ ps) q × (q.target.0 ≡ id.0) × (q.source ≡ source)
    by true here there further = (p, first_in p ps, eqb-true p.target.0 id.0 here, (let same : p.source ≡ source = cc in same))
    by false other there further = let r = further there in (r.0, later_in p r.0 ps r.1, r.2, r.3)

trigger_none : (old : Picture) (pairs : List Pair) (v : PlainVolume) → source_in pairs v.volume ≡ None → after_trigger old pairs v ≡ v
trigger_none old pairs v e = rw e refl

trigger_some : (old : Picture) (pairs : List Pair) (v : PlainVolume) (source : VolId) → source_in pairs v.volume ≡ Some source → after_trigger old pairs v ≡ record v { now = now_in old source; under = v.now }
trigger_some old pairs v source e = rw e refl

-- every source is as large as its target
abbrev pub AsLarge : List Volume → Picture → List Pair → Type 0
AsLarge vs old pairs = (p : Pair) (v : Volume) → Contains pairs p → Contains vs v → p.target.0 ≡ v.id.0 → length (now_in old p.source) ≡ v.grains

abbrev IsPlain : Volume → PlainVolume → Type 0
IsPlain v p = (p.volume ≡ v.id) × (length p.now ≡ v.grains) × (length p.under ≡ v.grains)

plain_one : (vs : List Volume) (old : Picture) (pairs : List Pair) (v : Volume) (p : PlainVolume) → AsLarge vs old pairs → Contains vs v → IsPlain v p → IsPlain v (after_trigger old pairs p)
plain_one vs old pairs v p large found plain = elim (cases_option (source_in pairs p.volume)) [
  | inl none ↦ subst (IsPlain v) (sym (trigger_none old pairs p none)) plain
  | inr some ↦
      let r = source_from pairs p.volume some.0 some.1 in
      let size : length (now_in old some.0) ≡ v.grains = ap (λ (s : VolId). length (now_in old s)) (sym r.3) ∙ large r.0 v r.1 found (r.2 ∙ ap (λ (z : VolId). z.0) plain.0) in
      subst (IsPlain v) (sym (trigger_some old pairs p some.0 some.1)) (plain.0, size, plain.1)
]

plain_each : (vs all : List Volume) (old picture : Picture) (pairs : List Pair) → AsLarge all old pairs → ((v : Volume) → Contains vs v → Contains all v) → ArePlain vs picture → ArePlain vs (map (after_trigger old pairs) picture)
plain_each [] all old [] pairs large among plain = tt
plain_each (v ∷ vs) all old (p ∷ ps) pairs large among plain =
    let one = plain_one all old pairs v p large (among v (first_in v vs)) (plain.0, plain.1, plain.2) in
    (one.0, one.1, one.2, plain_each vs all old ps pairs large (λ x found. among x (later_in v x vs found)) plain.3)
plain_each [] all old (p ∷ ps) pairs large among plain = absurd plain
plain_each (v ∷ vs) all old [] pairs large among plain = absurd plain

pub plain_triggered : (vs : List Volume) (picture : Picture) (pairs : List Pair) → AsLarge vs picture pairs → ArePlain vs picture → ArePlain vs (map (after_trigger picture pairs) picture)
plain_triggered vs picture pairs large plain = plain_each vs vs picture picture pairs large (λ v found. found) plain
