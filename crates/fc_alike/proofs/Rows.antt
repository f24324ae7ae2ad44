-- Rows by what plain volumes hold alone: what notes do to a row, and how the chains come in.
use Rattle.std.proofs.Common.{◌≡◌, ◌≢◌, ℕ, ◌<◌, Bool, true, false, not, ◌&&◌, ◌==◌, Some, IsSome, is_some, List, [], ◌∷◌, length, get_or, replicate, map, filter, All, AllPairs, refl, sym, ap, subst, ◌∙◌, arith, ◌⊎◌, inl, inr}
use Rattle.std.proofs.lemmas.Bool.{both_ways, and_parts, or_cases, or_parts, eqb-true, eqb-false, cond_both}
use Rattle.std.proofs.lemmas.List.{length-replicate, length-map}
use Rattle.std.proofs.lemmas.List.Elements.{All-weaker, All-map, All-filter}
use Rattle.std.proofs.lemmas.List.Kept.{AllPairs-filter}
use Rattle.fc_base.specs.Sheet.{Slot, live_place, volume_grains, grains_at}
use Rattle.fc_changed.specs.Notes.{has, grains_with}
use Rattle.fc_changed.specs.Row.{Row, row_names, with_none, row_left, row_cut}
use Rattle.fc_entry.specs.Picture.{PlainVolume, Picture, volume_in, content_at, now_at}
use Rattle.fc_follow.specs.Alike.{IsAlike}
use Rattle.fc_moves.proofs.Search.{cases_option}
use Rattle.fc_pictures.proofs.Slots.{none_held}
use Rattle.fc_pictures.proofs.Volumes.{id_of, found}
use Rattle.fc_rules.specs.Shows.{Stored, Shows}
use Rattle.fc_sheets.proofs.Finding.{live_place_at}
use Rattle.fc_alike.proofs.Sets.{length_with, passes}

-- Both volumes of the row are in the picture, as large as the row, and show the same at each grain of it.
pub record AlikeIn (picture : Picture) (row : Row) : Type 0 where
  pub apart : row.source ≢ row.target
  pub source : PlainVolume
  pub target : PlainVolume
  pub source_there : volume_in picture (id_of row.source) ≡ Some source
  pub target_there : volume_in picture (id_of row.target) ≡ Some target
  pub source_size : length source.now ≡ length row.same
  pub target_size : length target.now ≡ length row.same
  pub alike : (g : ℕ) → has row.same g ≡ true → content_at source.now g ≡ content_at target.now g

abbrev pub AreDistinct : List Row → Type 0
AreDistinct rows = AllPairs (λ (x y : Row). x.map ≢ y.map) rows

pub record AreAlikeIn (picture : Picture) (rows : List Row) : Type 0 where
  pub each : All (AlikeIn picture) rows
  pub distinct : AreDistinct rows

-- ---- rows and chains

-- a volume with a live slot is in the picture, as large as its slot
plain_of : (slots : List Slot) (picture : Picture) (stored : Stored) (v n : ℕ) → Shows slots picture stored → IsSome (live_place slots v) → volume_grains slots v ≡ n →
    (p : PlainVolume) × (volume_in picture (id_of v) ≡ Some p) × (length p.now ≡ n)
plain_of slots picture stored v n w some size =
    elim (cases_option (live_place slots v)) [
      | inl none ↦ absurd (let f : true ≡ false = sym some ∙ ap is_some none in cc)
      | inr k ↦
          let at = live_place_at slots v k.0 k.1 in
          let x = w.each k.0 at.there at.is_live in
          (x.plain, ap (λ z. volume_in picture (id_of z)) (sym at.of_volume) ∙ x.there, x.nows ∙ sym (ap (grains_at slots) k.1) ∙ size)
    ]

-- and so back
place_of_plain : (slots : List Slot) (picture : Picture) (stored : Stored) (v n : ℕ) (p : PlainVolume) → Shows slots picture stored → volume_in picture (id_of v) ≡ Some p → length p.now ≡ n →
    IsSome (live_place slots v) × (volume_grains slots v ≡ n)
place_of_plain slots picture stored v n p w there size =
    let f = found picture (id_of v) p there in
    let some : IsSome (live_place slots v) = subst (λ (z : ℕ). IsSome (live_place slots z)) f.1 (w.only p f.0) in
    let q = plain_of slots picture stored v (volume_grains slots v) w some refl in
    let same : p ≡ q.0 = (let e : Some p ≡ Some q.0 = sym there ∙ q.1 in cc) in
    (some, sym q.2 ∙ ap (λ (z : PlainVolume). length z.now) (sym same) ∙ size)

pub row_in : (slots : List Slot) (picture : Picture) (stored : Stored) (row : Row) → Shows slots picture stored → IsAlike slots picture row → AlikeIn picture row
row_in slots picture stored row w a =
    let s = plain_of slots picture stored row.source (length row.same) w a.source_there a.source_size in
    let t = plain_of slots picture stored row.target (length row.same) w a.target_there a.target_size in
    record {
      apart = a.apart;
      source = s.0;
      target = t.0;
      source_there = s.1;
      target_there = t.1;
      source_size = s.2;
      target_size = t.2;
      alike = λ g e. ap (λ o. now_at o g) (sym s.1) ∙ a.alike g e ∙ ap (λ o. now_at o g) t.1;
    }

pub row_out : (slots : List Slot) (picture : Picture) (stored : Stored) (row : Row) → Shows slots picture stored → AlikeIn picture row → IsAlike slots picture row
row_out slots picture stored row w a =
    let s = place_of_plain slots picture stored row.source (length row.same) a.source w a.source_there a.source_size in
    let t = place_of_plain slots picture stored row.target (length row.same) a.target w a.target_there a.target_size in
    record {
      apart = a.apart;
      source_there = s.0;
      target_there = t.0;
      source_size = s.1;
      target_size = t.1;
      alike = λ g e. ap (λ o. now_at o g) a.source_there ∙ a.alike g e ∙ ap (λ o. now_at o g) (sym a.target_there);
    }

-- ---- which volumes a row names

pub unnamed : (row : Row) (v : ℕ) → row_names row v ≡ false → (v ≢ row.source) × (v ≢ row.target)
unnamed row v e =
    let p = or_parts (v == row.source) (v == row.target) e in
    (eqb-false v row.source p.0, eqb-false v row.target p.1)

pub named : (row : Row) (v : ℕ) → row_names row v ≡ true → (v ≡ row.source) ⊎ (v ≡ row.target)
named row v e =
    elim (or_cases (v == row.source) (v == row.target) e) [
      | inl s ↦ inl (eqb-true v row.source s)
      | inr t ↦ inr (eqb-true v row.target t)
    ]

-- ---- a row with fewer grains

abbrev pub with_same : Row → List Bool → Row
with_same row same = record row { same = same }

pub fewer : (picture : Picture) (row : Row) (same : List Bool) → length same ≡ length row.same → ((g : ℕ) → has same g ≡ true → has row.same g ≡ true) → AlikeIn picture row →
    AlikeIn picture (with_same row same)
fewer picture row same size less a =
    record {
      apart = a.apart;
      source = a.source;
      target = a.target;
      source_there = a.source_there;
      target_there = a.target_there;
      source_size = a.source_size ∙ sym size;
      target_size = a.target_size ∙ sym size;
      alike = λ g e. a.alike g (less g e);
    }

-- it names volumes of this size, and says nothing of what they hold
pub nothing_alike : (picture : Picture) (row : Row) (p q : PlainVolume) → row.source ≢ row.target → volume_in picture (id_of row.source) ≡ Some p → volume_in picture (id_of row.target) ≡ Some q →
    length p.now ≡ length row.same → length q.now ≡ length row.same → AlikeIn picture (with_none row)
nothing_alike picture row p q apart s t sizes sizet =
    let size : length (replicate (length row.same) false) ≡ length row.same = length-replicate (length row.same) false in
    record {
      apart = apart;
      source = p;
      target = q;
      source_there = s;
      target_there = t;
      source_size = sizes ∙ sym size;
      target_size = sizet ∙ sym size;
      alike = λ g e. absurd (both_ways (has (replicate (length row.same) false) g) (none_held (length row.same) g) e);
    }

pub none_alike : (picture : Picture) (row : Row) → AlikeIn picture row → AlikeIn picture (with_none row)
none_alike picture row a = nothing_alike picture row a.source a.target a.apart a.source_there a.target_there a.source_size a.target_size

-- those that were held
abbrev pub held_too : Row → List Bool → List Bool
held_too row held = grains_with (λ g. has row.same g && has held g) (length row.same)

pub held_parts : (row : Row) (held : List Bool) (g : ℕ) → has (held_too row held) g ≡ true → (has row.same g ≡ true) × (has held g ≡ true)
held_parts row held g e = and_parts (has row.same g) (has held g) (passes (λ y. has row.same y && has held y) (length row.same) g e)

pub size_held : (row : Row) (held : List Bool) → length (held_too row held) ≡ length row.same
size_held row held = length_with (λ g. has row.same g && has held g) (length row.same)

-- ---- all rows

-- a change of each row that keeps its mapping
pub distinct_map : (f : Row → Row) → ((row : Row) → (f row).map ≡ row.map) → (rows : List Row) → AreDistinct rows → AreDistinct (map f rows)
distinct_map f keeps rows d i j w ij jl e =
    let l : length (map f rows) ≡ length rows = length-map rows f in
    let jo : j < length rows = omega (arith, l, jl) in
    d i j w ij jo (sym (keeps (get_or rows i w)) ∙ ap (λ (z : Row). z.map) (sym (map_at f rows i w (omega (arith, ij, jo)))) ∙ e ∙ ap (λ (z : Row). z.map) (map_at f rows j w jo) ∙ keeps (get_or rows j w))
  where
    map_at : (f : Row → Row) (rows : List Row) (i : ℕ) (d : Row) → i < length rows → get_or (map f rows) i d ≡ f (get_or rows i d)
    map_at f [] i d lt = absurd (omega (arith, lt))
    map_at f (x ∷ xs) ℕ.zero d lt = refl
    map_at f (x ∷ xs) (ℕ.suc i) d lt = map_at f xs i d (omega (arith, lt))

-- each row after a note, in the picture then
pub map_alike : (f : Row → Row) (picture next : Picture) (rows : List Row) → ((row : Row) → (f row).map ≡ row.map) → ((row : Row) → AlikeIn picture row → AlikeIn next (f row)) →
    AreAlikeIn picture rows → AreAlikeIn next (map f rows)
map_alike f picture next rows keeps step a =
    record {
      each = All-map (AlikeIn next) f rows (All-weaker (AlikeIn picture) (λ row. AlikeIn next (f row)) step rows a.each);
      distinct = distinct_map f keeps rows a.distinct;
    }

pub same_alike : (picture next : Picture) (rows : List Row) → ((row : Row) → AlikeIn picture row → AlikeIn next row) → AreAlikeIn picture rows → AreAlikeIn next rows
same_alike picture next rows step a = record { each = All-weaker (AlikeIn picture) (AlikeIn next) step rows a.each; distinct = a.distinct }

pub filter_alike : (test : Row → Bool) (picture : Picture) (rows : List Row) → AreAlikeIn picture rows → AreAlikeIn picture (filter test rows)
filter_alike test picture rows a =
    record { each = All-filter test (AlikeIn picture) rows a.each; distinct = AllPairs-filter (λ (x y : Row). x.map ≢ y.map) test rows a.distinct }

-- ---- notes of less

pub left_map : (v : ℕ) (held : List Bool) (row : Row) → (row_left v held row).map ≡ row.map
left_map v held row = cond_both (row_names row v) (with_same row (held_too row held)) row (λ (z : Row). z.map ≡ row.map) (λ e. refl) (λ e. refl)

cut_map : (v : ℕ) (row : Row) → (row_cut v row).map ≡ row.map
cut_map v row = cond_both (row_names row v && not (row.into == v)) (with_none row) row (λ (z : Row). z.map ≡ row.map) (λ e. refl) (λ e. refl)

-- a slot that leaves without a change of what its volume shows
pub left_less : (picture : Picture) (rows : List Row) (v : ℕ) (held : List Bool) → AreAlikeIn picture rows → AreAlikeIn picture (map (row_left v held) rows)
left_less picture rows v held a =
    map_alike (row_left v held) picture picture rows (left_map v held)
    (λ row x. cond_both (row_names row v) (with_same row (held_too row held)) row (AlikeIn picture) (λ e. fewer picture row (held_too row held) (size_held row held) (λ g t. (held_parts row held g t).0) x) (λ e. x)) a

pub cut_less : (picture : Picture) (rows : List Row) (v : ℕ) → AreAlikeIn picture rows → AreAlikeIn picture (map (row_cut v) rows)
cut_less picture rows v a =
    map_alike (row_cut v) picture picture rows (cut_map v)
    (λ row x. cond_both (row_names row v && not (row.into == v)) (with_none row) row (AlikeIn picture) (λ e. none_alike picture row x) (λ e. x)) a
