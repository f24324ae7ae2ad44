-- Which blocks are inside a volume, by what is kept and by the table; and that volumes of sound books can be written.
use Rattle.std.proofs.Common.{◌≡◌, ◌↔◌, ℕ, zero, suc, ◌<◌, ◌≤◌, List, [], ◌∷◌, length, map, get_or, Some, Contains, refl, sym, ap, subst, ◌∙◌, arith}
use Rattle.fc_base.specs.Sheet.{live_place, slot_at}
use Rattle.fc_base.specs.declared.ids.VolId.{VolId}
use Rattle.fc_base.specs.declared.size.GrainSize.{GrainSize}
use Rattle.fc_books.specs.Sound.{AreSound}
use Rattle.fc_entry.specs.Picture.{grain_of_block}
use Rattle.fc_legal.specs.Steps.{IsInside}
use Rattle.fc_legal.specs.Whole.{Whole}
use Rattle.fc_sheets.proofs.Finding.{live_place_at}
use Rattle.fc_check_lane.specs.Known.{Known, known_of, size_of}
use Rattle.fc_check_lane.specs.Answers.{HasGrain, IsInsideIn, CanBeWritten}
use Rattle.fc_check_lane.specs.declared.volume.VolumeSize.{VolumeSize}

-- ---- what a mapped list contains

map_in : {X Y : Type 0} (f : X → Y) (xs : List X) (x : X) → Contains xs x → Contains (map f xs) (f x)
map_in {X} {Y} f xs x found = (found.0, lt xs found.0 found.1, at xs found.0 found.1 found.2)
  where
    lt : (ys : List X) (k : ℕ) → k < length ys → k < length (map f ys)
    lt [] k h = absurd (omega arith)
    lt (y ∷ ys) zero h = omega arith
    lt (y ∷ ys) (suc k) h = let r = lt ys k (omega arith) in omega arith

    at : (ys : List X) (k : ℕ) → k < length ys → get_or ys k x ≡ x → get_or (map f ys) k (f x) ≡ f x
    at [] k h e = refl
    at (y ∷ ys) zero h e = ap f e
    at (y ∷ ys) (suc k) h e = at ys k (omega arith) e

-- of a mapped list, from what it comes
pub record Came {X Y : Type 0} (f : X → Y) (xs : List X) (y : Y) : Type 0 where
  pub from : X
  pub there : Contains xs from
  pub gives : f from ≡ y

map_from : {X Y : Type 0} (f : X → Y) (xs : List X) (y : Y) → Contains (map f xs) y → Came f xs y
map_from {X} {Y} f xs y found = by xs found.0 found.1 found.2
  where
    by : (zs : List X) (k : ℕ) → k < length (map f zs) → get_or (map f zs) k y ≡ y → Came f zs y
    by [] k h e = absurd (omega arith)
    by (z ∷ zs) zero h e = record { from = z; there = (0, omega arith, refl); gives = e }
    by (z ∷ zs) (suc k) h e =
        let r = by zs k (omega arith) e in
        record { from = r.from; there = (suc r.there.0, omega (arith, r.there.1), r.there.2); gives = r.gives }

abbrev named : ℕ → VolId
named n = record { 0 = n }

same_id : (a b : VolId) → a.0 ≡ b.0 → a ≡ b
same_id a b e = ap named e

-- ---- inside

pub inside_same : (grain : GrainSize) (w : Whole) (volume : VolId) (block count : ℕ) → IsInsideIn (known_of grain w) volume block count ↔ IsInside grain w.books.tables volume block count
inside_same grain w volume block count = (to, from)
  where
    to : IsInsideIn (known_of grain w) volume block count → IsInside grain w.books.tables volume block count
    to i =
        let c : Came size_of w.books.tables.volumes i.has.of = map_from size_of w.books.tables.volumes i.has.of i.has.there in
        record {
          of = c.from;
          there = c.there;
          id_is = same_id c.from.id volume (ap (λ (z : VolumeSize). z.volume.0) c.gives ∙ i.has.id_is);
          some = i.some;
          in_one = i.in_one;
          inside = subst (λ (n : ℕ). grain_of_block grain block < n) (sym (ap (λ (z : VolumeSize). z.grains) c.gives)) i.has.inside;
        }

    from : IsInside grain w.books.tables volume block count → IsInsideIn (known_of grain w) volume block count
    from i =
        record {
          has = record { of = size_of i.of; there = map_in size_of w.books.tables.volumes i.of i.there; id_is = ap (λ (z : VolId). z.0) i.id_is; inside = i.inside };
          some = i.some;
          in_one = i.in_one;
        }

-- ---- what can be written

some_same : (a b : ℕ) → Some a ≡ Some b → a ≡ b
some_same a b e = cc

pub can_be_written : (grain : GrainSize) (w : Whole) → AreSound w.books → CanBeWritten (known_of grain w)
can_be_written grain w s volume number has t there =
    let c : Came size_of w.books.tables.volumes has.of = map_from size_of w.books.tables.volumes has.of has.there in
    let agree = s.agree.volumes c.from c.there in
    let id : c.from.id.0 ≡ volume.0 = ap (λ (z : VolumeSize). z.volume.0) c.gives ∙ has.id_is in
    let own : live_place w.books.sheet.slots volume.0 ≡ Some agree.0 = ap (live_place w.books.sheet.slots) (sym id) ∙ agree.1 in
    let place : agree.0 ≡ t = some_same agree.0 t (sym own ∙ there) in
    let size : length (slot_at w.books.sheet.slots t).held ≡ has.of.grains =
    ap (λ z. length (slot_at w.books.sheet.slots z).held) (sym place) ∙ (agree.2 ∙ ap (λ (z : VolumeSize). z.grains) c.gives) in
    let live = live_place_at w.books.sheet.slots volume.0 t there in
    record { sound = s.sheet; there = live.there; is_live = live.is_live; inside = subst (λ n. number < n) (sym size) has.inside }

-- ---- found among the volumes, one by one

pub no_grain : (k : Known) (volume : VolId) (number : ℕ) (sizes : List VolumeSize) (n : ℕ) → sizes ≡ k.sizes → length sizes ≤ n →
    ((j : ℕ) (d : VolumeSize) → j < n → (get_or sizes j d).volume.0 ≡ volume.0 → number < (get_or sizes j d).grains → ⊥) → HasGrain k volume number → ⊥
no_grain k volume number sizes n same all none has =
    let there : Contains sizes has.of = subst (λ (z : List VolumeSize). Contains z has.of) (sym same) has.there in
    let at : get_or sizes there.0 has.of ≡ has.of = there.2 in
    let lt : there.0 < length sizes = there.1 in
    none there.0 has.of (omega arith) (ap (λ (z : VolumeSize). z.volume.0) at ∙ has.id_is) (subst (λ (z : VolumeSize). number < z.grains) (sym at) has.inside)
