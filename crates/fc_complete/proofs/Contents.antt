-- A block of a volume of the table has a content, which is lost nowhere where the volume is unharmed.
use Rattle.std.proofs.Common.{◌≡◌, ◌≢◌, inl, inr, ℕ, suc, ◌<◌, false, cond, Option, Some, List, [], ◌∷◌, length, get_or, Contains, refl, sym, ap, subst, ◌∙◌, arith}
use Rattle.std.specs.Prelude.{AllPairs}
use Rattle.std.proofs.lemmas.Bool.{eq-eqb, ne_eqb}
use Rattle.std.proofs.lemmas.List.Elements.{All-contains, All-get_or}
use Rattle.fc_base.specs.Tables.{Tables}
use Rattle.fc_base.specs.declared.ids.VolId.{VolId}
use Rattle.fc_base.specs.declared.size.GrainSize.{GrainSize}
use Rattle.fc_base.specs.declared.volume.Volume.{Volume}
use Rattle.fc_complete.specs.Served.{IsThere, IsUnharmedVolume, IsUnharmed}
use Rattle.fc_decided.proofs.Lists.{in_cases, none_in, first_in, later_in}
use Rattle.fc_entry.specs.Picture.{Content, Bytes, Lost, is_lost, PlainVolume, Picture, volume_in, now_at, content_at, grain_of_block}
use Rattle.fc_legal.specs.Stands.{ArePlain}
use Rattle.fc_legal.specs.Steps.{IsInside}
use Rattle.fc_legal.specs.Whole.{Whole, single_lane, as_one}
use Rattle.fc_parts.proofs.Numbers.{all_place}
use Rattle.fc_rules.specs.LaneTurn.{spot_at}

-- ---- the plain volume of a volume of the table

abbrev Rise : List Volume → Type 0
Rise vs = AllPairs (λ (x y : Volume). x.id.0 < y.id.0) vs

-- It is found by its id, and has as many grains.
record IsPlainOf (ps : Picture) (v : Volume) : Type 0 where
  plain : PlainVolume
  there : Contains ps plain
  is_found : volume_in ps v.id ≡ Some plain
  size : length plain.now ≡ v.grains

found_here : (p : PlainVolume) (ps : Picture) (id : VolId) → p.volume.0 ≡ id.0 → volume_in (p ∷ ps) id ≡ Some p
found_here p ps id same = ap (λ b. cond b (Some p) (volume_in ps id)) (eq-eqb p.volume.0 id.0 same)

found_later : (p : PlainVolume) (ps : Picture) (id : VolId) → p.volume.0 ≢ id.0 → volume_in (p ∷ ps) id ≡ volume_in ps id
found_later p ps id apart = ap (λ b. cond b (Some p) (volume_in ps id)) (ne_eqb p.volume.0 id.0 apart)

rest_rise : (v : Volume) (vs : List Volume) → Rise (v ∷ vs) → Rise vs
rest_rise v vs rise i j d ij lt = rise (suc i) (suc j) d (omega (arith, ij)) (omega (arith, lt))

first_below : (u : Volume) (vs : List Volume) (v : Volume) → Rise (u ∷ vs) → Contains vs v → u.id.0 < v.id.0
first_below u vs v rise found =
    let least : u.id.0 < (get_or vs found.0 v).id.0 = rise 0 (suc found.0) v (omega arith) (omega (arith, found.1)) in
    subst (λ (x : Volume). u.id.0 < x.id.0) found.2 least

plain_of : (vs : List Volume) (ps : Picture) (v : Volume) → ArePlain vs ps → Rise vs → Contains vs v → IsPlainOf ps v
plain_of [] ps v plain rise there = absurd (none_in v there)
plain_of (u ∷ us) [] v plain rise there = absurd plain
plain_of (u ∷ us) (p ∷ ps) v plain rise there =
    elim (in_cases u v us there) [
      | inl same ↦ record {
        plain = p;
        there = first_in p ps;
        is_found = found_here p ps v.id (ap (λ (id : VolId). id.0) plain.0 ∙ ap (λ (x : Volume). x.id.0) same);
        size = plain.1 ∙ ap (λ (x : Volume). x.grains) same;
      }
      | inr later ↦ (
          let rest : IsPlainOf ps v = plain_of us ps v plain.3 (rest_rise u us rise) later in
          let least : u.id.0 < v.id.0 = first_below u us v rise later in
          let id : p.volume.0 ≡ u.id.0 = ap (λ (x : VolId). x.0) plain.0 in
          let apart : p.volume.0 ≢ v.id.0 = λ e. omega (arith, e, least, id) in
          record {
            plain = rest.plain;
            there = later_in p rest.plain ps rest.there;
            is_found = found_later p ps v.id apart ∙ rest.is_found;
            size = rest.size;
          }
          )
    ]

-- ---- its content

block_there :
    (grain : GrainSize) (t : Tables) (ps : Picture) (volume : VolId) (block count : ℕ) →
    ArePlain t.volumes ps →
    Rise t.volumes →
    IsUnharmed ps →
    IsInside grain t volume block count →
    IsThere (now_at (volume_in ps volume) (grain_of_block grain block))
block_there grain t ps volume block count plain rise h within =
    let v : Volume = within.of in
    let is : IsPlainOf ps v = plain_of t.volumes ps v plain rise within.there in
    let g : ℕ = grain_of_block grain block in
    let inside : g < v.grains = within.inside in
    let size : length is.plain.now ≡ v.grains = is.size in
    let there : IsThere (content_at is.plain.now g) =
    All-get_or IsThere is.plain.now g Lost (omega (arith, inside, size)) (All-contains IsUnharmedVolume ps is.plain h is.there).now in
    let P : VolId → Type 0 = λ id. IsThere (now_at (volume_in ps id) g) in
    let Q : Option PlainVolume → Type 0 = λ o. IsThere (now_at o g) in
    subst P within.id_is (subst Q (sym is.is_found) there)

-- So it is for the one lane that has every grain.
pub spot_there :
    (grain : GrainSize) (w : Whole) (volume : VolId) (block count : ℕ) →
    ArePlain w.books.tables.volumes w.picture →
    Rise w.books.tables.volumes →
    IsUnharmed w.picture →
    IsInside grain w.books.tables volume block count →
    is_lost ((spot_at (single_lane grain) (as_one w) (grain_of_block grain block)).now volume.0) ≡ false
spot_there grain w volume block count plain rise h within =
    let number : ℕ = grain_of_block grain block in
    ap (λ g. is_lost (now_at (volume_in w.picture volume) g)) (all_place grain number)
    ∙ block_there grain w.books.tables w.picture volume block count plain rise h within
