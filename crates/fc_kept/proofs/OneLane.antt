-- The one grain, seen in a lane: in its own it is there, by its place, and in every other nothing is.
use Rattle.std.proofs.Common.{◌≡◌, ◌≢◌, ℕ, ◌%◌, ◌<◌, Bool, true, false, cond, eqb, Option, Some, None, List, set, refl, sym, ap, ◌∙◌, inl, inr}
use Rattle.std.proofs.lemmas.Bool.{cases_eq, eq-eqb, ne_eqb}
use Rattle.fc_base.specs.Column.{Column}
use Rattle.fc_base.specs.Sheet.{Slot, Sheet, column, live_place}
use Rattle.fc_base.specs.declared.ids.VolId.{VolId}
use Rattle.fc_entry.specs.Picture.{Content, Lost, PlainVolume, Picture, changed_at}
use Rattle.fc_legal.specs.Whole.{part, part_of_volume, part_of_picture}
use Rattle.fc_rules.specs.LaneTold.{LaneOf, place_of}
use Rattle.fc_rules.specs.Steps.{reads_own}
use Rattle.fc_parts.proofs.Numbers.{IsLane, number_of_place, part_set, part_set_other}
use Rattle.fc_parts.proofs.Pictures.{changed_parts}
use Rattle.fc_parts.proofs.Views.{parts, column_parts, live_parts}
use Rattle.fc_pictures.proofs.Volumes.{at_id, map_same}
use Rattle.fc_kept.specs.OneGrain.{Another, another, another_at, with_another, one_at}

-- ---- in the grain's lane

pick_here : (l : LaneOf) → IsLane l → (b : Bool) (xs : List Content) (g : ℕ) (x : Content) → g % l.lanes ≡ l.lane →
    part l Lost (cond b (set xs g x) xs) ≡ cond b (set (part l Lost xs) (place_of l g) x) (part l Lost xs)
pick_here l i true xs g x e = sym (part_set l i Lost xs g x e)
pick_here l i false xs g x e = refl

spare_here : (l : LaneOf) → IsLane l → (b : Bool) (xs : List Content) (g : ℕ) (x : Content) → g % l.lanes ≡ l.lane →
    part l Lost (cond b xs (set xs g x)) ≡ cond b (part l Lost xs) (set (part l Lost xs) (place_of l g) x)
spare_here l i true xs g x e = refl
spare_here l i false xs g x e = sym (part_set l i Lost xs g x e)

volume_here : (l : LaneOf) → IsLane l → (c : Column) (t g : ℕ) (x : Content) → g % l.lanes ≡ l.lane → (v : PlainVolume) →
    part_of_volume l (another c t g x v) ≡ another c t (place_of l g) x (part_of_volume l v)
volume_here l i c t g x e v = λ k. record {
  volume = v.volume;
  now = pick_here l i (reads_own c t) v.now g x e k;
  under = spare_here l i (c.held t) v.under g x e k;
}

here : (l : LaneOf) → IsLane l → (slots : List Slot) (picture : Picture) (a : Another) → a.grain % l.lanes ≡ l.lane → (o : Option ℕ) →
    part_of_picture l (another_at slots a o picture) ≡ another_at (parts l slots) (record a { grain = place_of l a.grain }) o (part_of_picture l picture)
here l i slots picture a e None = refl
here l i slots picture a e (Some t) =
    let id : VolId = record { 0 = a.volume } in
    let g : ℕ = a.grain in
    let same : column slots g ≡ column (parts l slots) (place_of l g) = ap (column slots) (sym (number_of_place l g e)) ∙ sym (column_parts l i slots (place_of l g)) in
    changed_parts l id (another (column slots g) t g a.content) (another (column slots g) t (place_of l g) a.content) (volume_here l i (column slots g) t g a.content e) picture
    ∙ ap (λ (c : Column). changed_at id (another c t (place_of l g) a.content) (part_of_picture l picture)) same

-- ---- in another

pick_away : (l : LaneOf) → IsLane l → (b : Bool) (xs : List Content) (g : ℕ) (x : Content) → g % l.lanes ≢ l.lane → part l Lost (cond b (set xs g x) xs) ≡ part l Lost xs
pick_away l i true xs g x ne = sym (part_set_other l i Lost xs g x ne)
pick_away l i false xs g x ne = refl

spare_away : (l : LaneOf) → IsLane l → (b : Bool) (xs : List Content) (g : ℕ) (x : Content) → g % l.lanes ≢ l.lane → part l Lost (cond b xs (set xs g x)) ≡ part l Lost xs
spare_away l i true xs g x ne = refl
spare_away l i false xs g x ne = sym (part_set_other l i Lost xs g x ne)

volume_away : (l : LaneOf) → IsLane l → (c : Column) (t g : ℕ) (x : Content) → g % l.lanes ≢ l.lane → (v : PlainVolume) → part_of_volume l (another c t g x v) ≡ part_of_volume l v
volume_away l i c t g x ne v = λ k. record {
  volume = v.volume;
  now = pick_away l i (reads_own c t) v.now g x ne k;
  under = spare_away l i (c.held t) v.under g x ne k;
}

itself : (id : VolId) (p : PlainVolume) → at_id id (λ (q : PlainVolume). q) p ≡ p
itself id p = either (eqb p.volume.0 id.0)
  where
    either : (b : Bool) → cond b p p ≡ p
    either true = refl
    either false = refl

away : (l : LaneOf) → IsLane l → (slots : List Slot) (picture : Picture) (a : Another) → a.grain % l.lanes ≢ l.lane → (o : Option ℕ) →
    part_of_picture l (another_at slots a o picture) ≡ part_of_picture l picture
away l i slots picture a ne None = refl
away l i slots picture a ne (Some t) =
    let id : VolId = record { 0 = a.volume } in
    changed_parts l id (another (column slots a.grain) t a.grain a.content) (λ v. v) (volume_away l i (column slots a.grain) t a.grain a.content ne) picture
    ∙ map_same (at_id id (λ v. v)) (itself id) (part_of_picture l picture)

-- ---- both

pub another_in : (l : LaneOf) (s : Sheet) (picture : Picture) (one : Option Another) → l.lane < l.lanes →
    part_of_picture l (with_another one s.slots picture) ≡ with_another (one_at l one) (parts l s.slots) (part_of_picture l picture)
another_in l s picture None i = refl
another_in l s picture (Some a) i =
    let slots : List Slot = s.slots in
    let a' : Another = record a { grain = place_of l a.grain } in
    elim (cases_eq (a.grain % l.lanes) l.lane) [
      | inl e ↦ here l i slots picture a e (live_place slots a.volume)
          ∙ (ap (λ o. another_at (parts l slots) a' o (part_of_picture l picture)) (sym (live_parts l i slots a.volume))
          ∙ ap (λ (z : Bool). with_another (cond z (Some a') None) (parts l slots) (part_of_picture l picture)) (sym (eq-eqb (a.grain % l.lanes) l.lane e)))
      | inr ne ↦ away l i slots picture a ne (live_place slots a.volume)
          ∙ ap (λ (z : Bool). with_another (cond z (Some a') None) (parts l slots) (part_of_picture l picture)) (sym (ne_eqb (a.grain % l.lanes) l.lane ne))
    ]
