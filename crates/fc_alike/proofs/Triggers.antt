-- Rows after a trigger: pair by pair, as its picture can be taken.
use Rattle.std.proofs.Common.{◌≡◌, ◌≢◌, ℕ, zero, suc, ◌<◌, Bool, true, false, cond, ◌&&◌, ◌==◌, Some, None, List, [], ◌∷◌, ◌++◌, length, get_or, replicate, map, fold, refl, sym, ap, subst, ◌∙◌, arith, inl, inr}
use Rattle.std.specs.List.{list_any}
use Rattle.std.proofs.lemmas.Bool.{cases_eq, and_parts, or_cases, or_parts, eqb-true, eqb-false, cond_both}
use Rattle.std.proofs.lemmas.List.{length-replicate}
use Rattle.std.proofs.lemmas.List.Elements.{All-push}
use Rattle.std.proofs.lemmas.List.Quantifiers.{all_pairs_push}
use Rattle.fc_base.specs.Sheet.{Slot, Sheet, slot_at, volume_grains, grains_at}
use Rattle.fc_base.specs.SheetFits.{FitsPair}
use Rattle.fc_base.specs.declared.request.Pair.{Pair}
use Rattle.fc_changed.specs.Notes.{joins}
use Rattle.fc_changed.specs.Row.{Row, is_of, row_names, with_all, with_none, row_began, with_new, after_note}
use Rattle.fc_entry.specs.Picture.{PlainVolume, Picture, volume_in, content_at}
use Rattle.fc_entry.specs.PlainStep.{after_trigger}
use Rattle.fc_follow.specs.Following.{beginning}
use Rattle.fc_pictures.proofs.Triggers.{copied_from, first_pair, trigger_keeps, now_some, first_here, first_other, one_then_all}
use Rattle.fc_pictures.proofs.Volumes.{id_of, found, map_in, map_same, map_twice}
use Rattle.fc_rules.specs.Shows.{Stored, Shows}
use Rattle.fc_sheets.proofs.Finding.{live_place_at}
use Rattle.fc_sheets.proofs.Starting.{AllFit, AllApart}
use Rattle.fc_alike.proofs.Rows.{AlikeIn, AreAlikeIn, unnamed, nothing_alike, map_alike}
use Rattle.fc_alike.proofs.Leaving.{row_stays}

-- ---- one pair

-- Both volumes of a pair are in the picture, with so many grains.
pub record PairIn (picture : Picture) (p : Pair) (grains : ℕ) : Type 0 where
  pub apart : p.target.0 ≢ p.source.0
  pub source : PlainVolume
  pub target : PlainVolume
  pub source_there : volume_in picture (id_of p.source.0) ≡ Some source
  pub target_there : volume_in picture (id_of p.target.0) ≡ Some target
  pub source_size : length source.now ≡ grains
  pub target_size : length target.now ≡ grains

abbrev after_pair : Picture → Pair → Picture
after_pair picture p = map (first_pair picture p) picture

-- the target shows what the source did, and all others what they did
target_after : (picture : Picture) (p : Pair) (grains : ℕ) (x : PairIn picture p grains) → volume_in (after_pair picture p) (id_of p.target.0) ≡ Some (copied_from x.source.now x.target)
target_after picture p grains x =
    map_in (first_pair picture p) (trigger_keeps picture (p ∷ [])) picture (id_of p.target.0) x.target x.target_there
    ∙ ap Some (first_here picture p x.target (sym (found picture (id_of p.target.0) x.target x.target_there).1)
    ∙ ap (λ z. copied_from z x.target) (now_some picture p.source x.source x.source_there))

other_after : (picture : Picture) (p : Pair) (w : ℕ) (q : PlainVolume) → p.target.0 ≢ w → volume_in picture (id_of w) ≡ Some q → volume_in (after_pair picture p) (id_of w) ≡ Some q
other_after picture p w q ne e =
    map_in (first_pair picture p) (trigger_keeps picture (p ∷ [])) picture (id_of w) q e
    ∙ ap Some (first_other picture p q (λ f. ne (f ∙ (found picture (id_of w) q e).1)))

-- two findings of one volume
one_found : (picture : Picture) (v w : ℕ) (p q : PlainVolume) → v ≡ w → volume_in picture (id_of v) ≡ Some p → volume_in picture (id_of w) ≡ Some q → p ≡ q
one_found picture v w p q same e f = let g : Some p ≡ Some q = sym e ∙ ap (λ z. volume_in picture (id_of z)) same ∙ f in cc

-- each stays as large
size_after : (picture : Picture) (p : Pair) (grains w : ℕ) (q : PlainVolume) → PairIn picture p grains → volume_in picture (id_of w) ≡ Some q →
    (r : PlainVolume) × (volume_in (after_pair picture p) (id_of w) ≡ Some r) × (length r.now ≡ length q.now)
size_after picture p grains w q x e =
    elim (cases_eq p.target.0 w) [
      | inl same ↦ (
        copied_from x.source.now x.target,
        ap (λ z. volume_in (after_pair picture p) (id_of z)) (sym same) ∙ target_after picture p grains x,
        x.source_size ∙ sym x.target_size ∙ ap (λ (z : PlainVolume). length z.now) (one_found picture p.target.0 w x.target q same x.target_there e),
      )
      | inr ne ↦ (q, other_after picture p w q ne e, refl)
    ]

pair_after : (picture : Picture) (p q : Pair) (n m : ℕ) → PairIn picture p n → PairIn picture q m → PairIn (after_pair picture p) q m
pair_after picture p q n m x y =
    let s = size_after picture p n q.source.0 y.source x y.source_there in
    let t = size_after picture p n q.target.0 y.target x y.target_there in
    record {
      apart = y.apart;
      source = s.0;
      target = t.0;
      source_there = s.1;
      target_there = t.1;
      source_size = s.2 ∙ y.source_size;
      target_size = t.2 ∙ y.target_size;
    }

-- ---- a row after a pair

abbrev joined : Row → ℕ → Row
joined row into = record (with_all row) { into = into }

all_alike : (picture : Picture) (row : Row) (into : ℕ) (p q : PlainVolume) → row.source ≢ row.target → volume_in picture (id_of row.source) ≡ Some p → volume_in picture (id_of row.target) ≡ Some q →
    length p.now ≡ length row.same → length q.now ≡ length row.same → p.now ≡ q.now → AlikeIn picture (joined row into)
all_alike picture row into p q apart s t sizes sizet same =
    let size : length (replicate (length row.same) true) ≡ length row.same = length-replicate (length row.same) true in
    record {
      apart = apart;
      source = p;
      target = q;
      source_there = s;
      target_there = t;
      source_size = sizes ∙ sym size;
      target_size = sizet ∙ sym size;
      alike = λ g e. ap (λ z. content_at z g) same;
    }

forward : (picture : Picture) (p : Pair) (grains : ℕ) (row : Row) → PairIn picture p grains → AlikeIn picture row → p.source.0 ≡ row.source → p.target.0 ≡ row.target → AlikeIn (after_pair picture p) (joined row p.target.0)
forward picture p grains row x a s t =
    let one : x.source ≡ a.source = one_found picture p.source.0 row.source x.source a.source s x.source_there a.source_there in
    let now = ap (λ (z : PlainVolume). z.now) one in
    all_alike (after_pair picture p) row p.target.0 a.source (copied_from x.source.now x.target) a.apart
    (other_after picture p row.source a.source (λ e. a.apart (sym e ∙ t)) a.source_there)
    (ap (λ z. volume_in (after_pair picture p) (id_of z)) (sym t) ∙ target_after picture p grains x)
    a.source_size (ap length now ∙ a.source_size) (sym now)

backward : (picture : Picture) (p : Pair) (grains : ℕ) (row : Row) → PairIn picture p grains → AlikeIn picture row → p.source.0 ≡ row.target → p.target.0 ≡ row.source → AlikeIn (after_pair picture p) (joined row p.target.0)
backward picture p grains row x a s t =
    let one : x.source ≡ a.target = one_found picture p.source.0 row.target x.source a.target s x.source_there a.target_there in
    let now = ap (λ (z : PlainVolume). z.now) one in
    all_alike (after_pair picture p) row p.target.0 (copied_from x.source.now x.target) a.target a.apart
    (ap (λ z. volume_in (after_pair picture p) (id_of z)) (sym t) ∙ target_after picture p grains x)
    (other_after picture p row.target a.target (λ e. a.apart (sym t ∙ e)) a.target_there)
    (ap length now ∙ a.target_size) a.target_size now

row_after : (picture : Picture) (p : Pair) (grains : ℕ) (row : Row) → PairIn picture p grains → AlikeIn picture row → AlikeIn (after_pair picture p) (row_began p.source.0 p.target.0 row)
row_after picture p grains row x a =
    let next : Picture = after_pair picture p in
    let s : ℕ = p.source.0 in
    let t : ℕ = p.target.0 in
    let other : Row = cond (row_names row t) (with_none row) row in
    cond_both (joins row.source row.target s t) (joined row t) other (AlikeIn next)
    (λ e. elim (or_cases ((s == row.source) && (t == row.target)) ((s == row.target) && (t == row.source)) e) [
      | inl y ↦ let z = and_parts (s == row.source) (t == row.target) y in forward picture p grains row x a (eqb-true s row.source z.0) (eqb-true t row.target z.1)
      | inr y ↦ let z = and_parts (s == row.target) (t == row.source) y in backward picture p grains row x a (eqb-true s row.target z.0) (eqb-true t row.source z.1)
    ])
    (λ e. cond_both (row_names row t) (with_none row) row (AlikeIn next)
    (λ f.
    let y = size_after picture p grains row.source a.source x a.source_there in
    let z = size_after picture p grains row.target a.target x a.target_there in
    nothing_alike next row y.0 z.0 a.apart y.1 z.1 (y.2 ∙ a.source_size) (z.2 ∙ a.target_size))
    (λ f.
    let u = unnamed row t f in
    row_stays picture next row (λ q g. other_after picture p row.source q u.0 g) (λ q g. other_after picture p row.target q u.1 g) a))

began_map : (s t : ℕ) (row : Row) → (row_began s t row).map ≡ row.map
began_map s t row =
    let other : Row = cond (row_names row t) (with_none row) row in
    cond_both (joins row.source row.target s t) (joined row t) other (λ (z : Row). z.map ≡ row.map) (λ e. refl)
    (λ e. cond_both (row_names row t) (with_none row) row (λ (z : Row). z.map ≡ row.map) (λ f. refl) (λ f. refl))

-- ---- a new row

none_of : (test : Row → Bool) (rows : List Row) (k : ℕ) (d : Row) → list_any test rows ≡ false → k < length rows → test (get_or rows k d) ≡ false
none_of test [] k d e lt = absurd (omega (arith, lt))
none_of test (row ∷ rows) zero d e lt = (or_parts (test row) (list_any test rows) e).0
none_of test (row ∷ rows) (suc k) d e lt = none_of test rows k d (or_parts (test row) (list_any test rows) e).1 (omega (arith, lt))

abbrev new_row : Pair → ℕ → Row
new_row p grains = record { map = p.map.0; source = p.source.0; target = p.target.0; into = p.target.0; same = replicate grains true }

new_alike : (picture : Picture) (p : Pair) (grains : ℕ) → PairIn picture p grains → AlikeIn (after_pair picture p) (new_row p grains)
new_alike picture p grains x =
    let size : length (replicate grains true) ≡ grains = length-replicate grains true in
    record {
      apart = λ e. x.apart (sym e);
      source = x.source;
      target = copied_from x.source.now x.target;
      source_there = other_after picture p p.source.0 x.source x.apart x.source_there;
      target_there = target_after picture p grains x;
      source_size = x.source_size ∙ sym size;
      target_size = x.source_size ∙ sym size;
      alike = λ g e. refl;
    }

with_new_alike : (picture : Picture) (p : Pair) (grains : ℕ) (rows : List Row) (followed : Bool) → PairIn picture p grains → AreAlikeIn (after_pair picture p) rows →
    AreAlikeIn (after_pair picture p) (with_new p.map.0 p.source.0 p.target.0 (cond followed (Some grains) None) rows)
with_new_alike picture p grains rows false x a = a
with_new_alike picture p grains rows true x a =
    cond_both (list_any (is_of p.map.0) rows) rows (rows ++ new_row p grains ∷ []) (AreAlikeIn (after_pair picture p)) (λ e. a)
    (λ e. record {
      each = All-push (AlikeIn (after_pair picture p)) rows (new_row p grains) a.each (new_alike picture p grains x);
      distinct = all_pairs_push (λ (y z : Row). y.map ≢ z.map) rows (new_row p grains) a.distinct (λ k d kl f. eqb-false p.map.0 (get_or rows k d).map (none_of (is_of p.map.0) rows k d e kl) (sym f));
    })

began_alike : (slots : List Slot) (picture : Picture) (p : Pair) (rows : List Row) → PairIn picture p (volume_grains slots p.target.0) → AreAlikeIn picture rows → AreAlikeIn (after_pair picture p) (after_note rows (beginning slots p))
began_alike slots picture p rows x a =
    let grains : ℕ = volume_grains slots p.target.0 in
    with_new_alike picture p grains (map (row_began p.source.0 p.target.0) rows) p.incremental x
    (map_alike (row_began p.source.0 p.target.0) picture (after_pair picture p) rows (began_map p.source.0 p.target.0) (λ row y. row_after picture p grains row x y) a)

-- ---- all pairs

abbrev pub AllIn : Picture → (Pair → ℕ) → List Pair → Type 0
AllIn picture grains [] = Unit {0}
AllIn picture grains (p ∷ ps) = PairIn picture p (grains p) × AllIn picture grains ps

all_after : (picture : Picture) (p : Pair) (n : ℕ) (grains : Pair → ℕ) (qs : List Pair) → PairIn picture p n → AllIn picture grains qs → AllIn (after_pair picture p) grains qs
all_after picture p n grains [] x all = tt
all_after picture p n grains (q ∷ qs) x all = (pair_after picture p q n (grains q) x all.0, all_after picture p n grains qs x all.1)

pub trigger_alike : (slots : List Slot) (pairs : List Pair) (picture : Picture) (rows : List Row) → AllIn picture (λ p. volume_grains slots p.target.0) pairs → AllApart pairs → AreAlikeIn picture rows →
    AreAlikeIn (map (after_trigger picture pairs) picture) (fold after_note rows (map (beginning slots) pairs))
trigger_alike slots [] picture rows all apart a = subst (λ (z : Picture). AreAlikeIn z rows) (sym (map_same (after_trigger picture []) (λ p. refl) picture)) a
trigger_alike slots (p ∷ ps) picture rows all apart a =
    let next : Picture = after_pair picture p in
    let then_rows : List Row = after_note rows (beginning slots p) in
    subst (λ (z : Picture). AreAlikeIn z (fold after_note then_rows (map (beginning slots) ps)))
    (map_twice (first_pair picture p) (after_trigger next ps) (after_trigger picture (p ∷ ps)) (one_then_all picture p ps apart.0) picture)
    (trigger_alike slots ps next then_rows (all_after picture p (volume_grains slots p.target.0) (λ q. volume_grains slots q.target.0) ps all.0 all.1) apart.1 (began_alike slots picture p rows all.0 a))

-- ---- the pairs of a trigger that fits

pub pair_in : (slots : List Slot) (picture : Picture) (stored : Stored) (p : Pair) → Shows slots picture stored → FitsPair slots p → p.target.0 ≢ p.source.0 → PairIn picture p (volume_grains slots p.target.0)
pair_in slots picture stored p w f ne =
    let s = live_place_at slots p.source.0 f.source f.source_there in
    let t = live_place_at slots p.target.0 f.target f.target_there in
    let x = w.each f.source s.there s.is_live in
    let y = w.each f.target t.there t.is_live in
    let size : volume_grains slots p.target.0 ≡ length (slot_at slots f.target).held = ap (grains_at slots) f.target_there in
    record {
      apart = ne;
      source = x.plain;
      target = y.plain;
      source_there = ap (λ z. volume_in picture (id_of z)) (sym s.of_volume) ∙ x.there;
      target_there = ap (λ z. volume_in picture (id_of z)) (sym t.of_volume) ∙ y.there;
      source_size = x.nows ∙ f.as_large ∙ sym size;
      target_size = y.nows ∙ sym size;
    }

pub pairs_in : (s : Sheet) (picture : Picture) (stored : Stored) (pairs : List Pair) → Shows s.slots picture stored → AllFit s pairs → AllIn picture (λ p. volume_grains s.slots p.target.0) pairs
pairs_in s picture stored [] w fit = tt
pairs_in s picture stored (p ∷ ps) w fit = (pair_in s.slots picture stored p w fit.0 fit.1, pairs_in s picture stored ps w fit.2)
