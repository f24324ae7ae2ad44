-- How many grains slots, rows and volumes have, where what metadata says is sound.
use Rattle.std.proofs.Common.{◌≡◌, ℕ, ◌<◌, Bool, true, false, ◌&&◌, ◌||◌, Option, Some, None, List, length, refl, sym, ap, subst, ◌∙◌, Contains, inl, inr}
use Rattle.std.specs.Prelude.{◌==◌}
use Rattle.std.proofs.lemmas.Bool.{eqb-true, eq-eqb, and_parts, and_from, or_cases, or_left, or_right}
use Rattle.fc_base.specs.Sheet.{slot_at}
use Rattle.fc_base.specs.Tables.{Tables, volume_with, mapping_with}
use Rattle.fc_base.specs.declared.ids.MapId.{MapId}
use Rattle.fc_base.specs.declared.ids.VolId.{VolId}
use Rattle.fc_base.specs.declared.volume.Mapping.{Mapping}
use Rattle.fc_base.specs.declared.volume.Volume.{Volume}
use Rattle.fc_books.specs.Books.{Books}
use Rattle.fc_books.specs.Sound.{AreSound, AreTables, HasGrains, IsOfTables}
use Rattle.fc_changed.specs.Notes.{names}
use Rattle.fc_changed.specs.Row.{Row}
use Rattle.fc_decided.proofs.Agreeing.{some_from}
use Rattle.fc_decided.proofs.Lists.{find_from, any_from, any_there}
use Rattle.fc_decided.proofs.Ordered.{one_of_id, found_by_id}
use Rattle.fc_image.specs.Records.{names_volume}
use Rattle.fc_legal.specs.Stands.{IsOfMapping}
use Rattle.fc_sheets.proofs.Finding.{live_place_at}
use Rattle.fc_kept.specs.Images.{grains_told, size_in}

-- ---- by the tables

pub size_is : (t : Tables) (id : VolId) (v : Volume) → volume_with t id ≡ Some v → size_in t id ≡ v.grains
size_is t id v e = ap grains_told e

has_size : (o : Option Volume) (n : ℕ) → HasGrains o n → grains_told o ≡ n
has_size None n h = absurd h
has_size (Some v) n h = h

-- a mapping's two volumes are as large
pub as_large : (t : Tables) (m : Mapping) → IsOfTables t m → size_in t m.target ≡ size_in t m.source
as_large t m of =
    let s = some_from (volume_with t m.source) of.source in
    has_size (volume_with t m.target) s.0.grains (of.as_large s.0 s.1)
    ∙ sym (size_is t m.source s.0 s.1)

pub row_size : (t : Tables) (row : Row) (r : IsOfMapping t row) → IsOfTables t r.mapping → length row.same ≡ size_in t r.mapping.source
row_size t row r of = sym (has_size (volume_with t r.mapping.target) (length row.same) r.size) ∙ as_large t r.mapping of

-- ---- slots

pub slot_size : (b : Books) → AreSound b → (k : ℕ) → k < length b.sheet.slots → length (slot_at b.sheet.slots k).held ≡ size_in b.tables record { 0 = (slot_at b.sheet.slots k).volume }
slot_size b sound k kl =
    let id : VolId = record { 0 = (slot_at b.sheet.slots k).volume } in
    let v = some_from (volume_with b.tables id) (sound.agree.slots k kl) in
    let f = find_from (λ (x : Volume). id.0 == x.id.0) b.tables.volumes v.0 v.1 in
    let p = sound.agree.volumes v.0 f.0 in
    let at = live_place_at b.sheet.slots v.0.id.0 p.0 p.1 in
    let same : (slot_at b.sheet.slots k).volume ≡ (slot_at b.sheet.slots p.0).volume = eqb-true id.0 v.0.id.0 f.1 ∙ sym at.of_volume in
    sound.sheet.sizes.of_volume k p.0 kl at.there same ∙ (p.2 ∙ sym (size_is b.tables id v.0 v.1))

-- ---- mappings

abbrev pub mapping_id : Mapping → ℕ
mapping_id m = m.id.0

abbrev pub mapping_name : Mapping → List ℕ
mapping_name m = m.name

pub found_mapping : (b : Books) → AreTables b → (m : Mapping) → Contains b.tables.mappings m → mapping_with b.tables m.id ≡ Some m
found_mapping b o m c = found_by_id mapping_id mapping_name b.tables.mappings m o.mappings c

same_bool : (a b : Bool) → (a ≡ true → b ≡ true) → (b ≡ true → a ≡ true) → a ≡ b
same_bool true b f g = sym (f refl)
same_bool false true f g = g refl
same_bool false false f g = refl

eqb_turned : (a b : ℕ) → (a == b) ≡ true → (b == a) ≡ true
eqb_turned a b e = eq-eqb b a (sym (eqb-true a b e))

named_from : (m : Mapping) (v : VolId) → ((m.source.0 == v.0) || (m.target.0 == v.0)) ≡ true → names m.source.0 m.target.0 v.0 ≡ true
named_from m v e = elim (or_cases (m.source.0 == v.0) (m.target.0 == v.0) e) [
  | inl s ↦ or_left (v.0 == m.source.0) (v.0 == m.target.0) (eqb_turned m.source.0 v.0 s)
  | inr t ↦ or_right (v.0 == m.source.0) (v.0 == m.target.0) (eqb_turned m.target.0 v.0 t)
]

named_to : (m : Mapping) (v : VolId) → names m.source.0 m.target.0 v.0 ≡ true → ((m.source.0 == v.0) || (m.target.0 == v.0)) ≡ true
named_to m v e = elim (or_cases (v.0 == m.source.0) (v.0 == m.target.0) e) [
  | inl s ↦ or_left (m.source.0 == v.0) (m.target.0 == v.0) (eqb_turned v.0 m.source.0 s)
  | inr t ↦ or_right (m.source.0 == v.0) (m.target.0 == v.0) (eqb_turned v.0 m.target.0 t)
]

-- whether the mapping with an id names a volume
pub names_is : (b : Books) → AreTables b → (id : MapId) (m : Mapping) (v : VolId) → mapping_with b.tables id ≡ Some m → names_volume b.tables.mappings id v ≡ names m.source.0 m.target.0 v.0
names_is b o id m v e =
    let f = find_from (λ (x : Mapping). id.0 == x.id.0) b.tables.mappings m e in
    let own : id.0 ≡ m.id.0 = eqb-true id.0 m.id.0 f.1 in
    let test : Mapping → Bool = λ (x : Mapping). (x.id.0 == id.0) && ((x.source.0 == v.0) || (x.target.0 == v.0)) in
    same_bool (names_volume b.tables.mappings id v) (names m.source.0 m.target.0 v.0)
    (λ t.
    let x = any_from test b.tables.mappings t in
    let p = and_parts (x.0.id.0 == id.0) ((x.0.source.0 == v.0) || (x.0.target.0 == v.0)) x.2 in
    let same : x.0 ≡ m = one_of_id mapping_id mapping_name b.tables.mappings x.0 m o.mappings x.1 f.0 (eqb-true x.0.id.0 id.0 p.0 ∙ own) in
    named_from m v (subst (λ (z : Mapping). ((z.source.0 == v.0) || (z.target.0 == v.0)) ≡ true) same p.1))
    (λ t. any_there test b.tables.mappings m f.0 (and_from (m.id.0 == id.0) ((m.source.0 == v.0) || (m.target.0 == v.0)) (eq-eqb m.id.0 id.0 (sym own)) (named_to m v t)))

-- a volume that a mapping names is as large as its source
pub named_size : (t : Tables) (m : Mapping) (v : VolId) → IsOfTables t m → names m.source.0 m.target.0 v.0 ≡ true → size_in t v ≡ size_in t m.source
named_size t m v of e =
    elim (or_cases (v.0 == m.source.0) (v.0 == m.target.0) e) [
      | inl s ↦ let q : v ≡ m.source = ap (λ (z : ℕ). let w : VolId = record { 0 = z } in w) (eqb-true v.0 m.source.0 s) in ap (size_in t) q
      | inr s ↦ let q : v ≡ m.target = ap (λ (z : ℕ). let w : VolId = record { 0 = z } in w) (eqb-true v.0 m.target.0 s) in ap (size_in t) q ∙ as_large t m of
    ]
