-- At the grains of its restart set a target's own grain is what it shows after the trigger; so its new slot may begin with them.
use Rattle.std.proofs.Common.{◌≡◌, ◌≢◌, ℕ, zero, suc, ◌<◌, Bool, true, false, Option, Some, None, List, [], ◌∷◌, length, get_or, map, fold, find, All, Contains, refl, sym, ap, subst, ◌∙◌, arith, ◌⊎◌, inl, inr}
use Rattle.std.specs.Option.{ForSome}
use Rattle.std.proofs.lemmas.Bool.{cases_Bool, cond-true, cond-false}
use Rattle.std.proofs.lemmas.List.Elements.{All-head, All-tail, All-contains}
use Rattle.fc_base.specs.Sheet.{Slot, Sheet, slot_at, column, volume_grains}
use Rattle.fc_base.specs.SheetFits.{FitsPair, FitsTrigger}
use Rattle.fc_base.specs.declared.ids.VolId.{VolId}
use Rattle.fc_base.specs.declared.request.Pair.{Pair}
use Rattle.fc_books.specs.After.{begun, holding}
use Rattle.fc_changed.specs.Notes.{has}
use Rattle.fc_changed.specs.Row.{Row, is_of, row_restart, restart_in}
use Rattle.fc_entry.specs.Picture.{PlainVolume, Picture, volume_in, content_at, now_at}
use Rattle.fc_entry.specs.PlainStep.{source_in, after_trigger}
use Rattle.fc_follow.specs.Following.{IsOfPair, restarts}
use Rattle.fc_moves.proofs.Readers.{is_holder, own_holder}
use Rattle.fc_pictures.specs.Law.{now_of}
use Rattle.fc_pictures.specs.LaneLaw.{Agrees}
use Rattle.fc_pictures.proofs.Triggers.{copied_from, trigger_keeps, trigger_some, source_here, source_later, now_some}
use Rattle.fc_pictures.proofs.Volumes.{id_of, found, map_in}
use Rattle.fc_rules.specs.Shows.{Stored, Shows}
use Rattle.fc_sheets.proofs.Finding.{live_place_at}
use Rattle.fc_sheets.proofs.Holding.{held_in_range}
use Rattle.fc_sheets.proofs.Splitting.{complete_at}
use Rattle.fc_sheets.proofs.Starting.{Apart, ApartFrom, AllApart}
use Rattle.fc_alike.specs.Law.{NewSlot}
use Rattle.fc_alike.proofs.Sets.{held_of}
use Rattle.fc_alike.proofs.Holding.{begins_at, begins_shows}
use Rattle.fc_alike.proofs.Starting.{AllNew, begun_is, begun_begins, begun_sound, later_new}
use Rattle.fc_alike.proofs.Rows.{AlikeIn, AreAlikeIn}
use Rattle.fc_alike.proofs.Triggers.{PairIn, pair_in}

-- ---- lists

cases_in : (p q : Pair) (ps : List Pair) → Contains (p ∷ ps) q → (p ≡ q) ⊎ Contains ps q
cases_in p q ps (zero, lt, e) = inl e
cases_in p q ps (suc k, lt, e) = inr (k, omega (arith, lt), e)

later_in : (p q : Pair) (ps : List Pair) → Contains ps q → Contains (p ∷ ps) q
later_in p q ps (k, lt, e) = (suc k, omega (arith, lt), e)

found_all : {X : Type 0} (P : X → Type 0) (test : X → Bool) (xs : List X) (x : X) → find test xs ≡ Some x → All P xs → P x
found_all P test [] x e a = absurd cc
found_all P test (y ∷ ys) x e a =
    elim (cases_Bool (test y)) [
      | inl t ↦ let f : Some y ≡ Some x = sym (cond-true (test y) (Some y) (find test ys) t) ∙ e in let same : y ≡ x = cc in subst P same (All-head P y ys a)
      | inr t ↦ found_all P test ys x (sym (cond-false (test y) (Some y) (find test ys) t) ∙ e) (All-tail P y ys a)
    ]

-- ---- the source of a target

apart_in : (p q : Pair) (ps : List Pair) → ApartFrom p ps → Contains ps q → Apart p q
apart_in p q [] apart (k, lt, e) = absurd (omega (arith, lt))
apart_in p q (r ∷ rs) apart c = elim (cases_in r q rs c) [ inl same ↦ subst (Apart p) same apart.0 | inr rest ↦ apart_in p q rs apart.1 rest ]

source_for : (pairs : List Pair) (p : Pair) (v : VolId) → AllApart pairs → Contains pairs p → p.target.0 ≡ v.0 → source_in pairs v ≡ Some p.source
source_for [] p v apart (k, lt, f) e = absurd (omega (arith, lt))
source_for (q ∷ qs) p v apart c e =
    elim (cases_in q p qs c) [
      | inl same ↦ source_here q qs v (ap (λ (z : Pair). z.target.0) same ∙ e) ∙ ap (λ (z : Pair). Some z.source) same
      | inr rest ↦ source_later q qs v (λ f. (apart_in q p qs apart.0 rest).targets (f ∙ sym e)) ∙ source_for qs p v apart.1 rest e
    ]

-- a target shows what its source showed
target_shows : (picture : Picture) (pairs : List Pair) (p : Pair) (n g : ℕ) (x : PairIn picture p n) → AllApart pairs → Contains pairs p →
    now_of (map (after_trigger picture pairs) picture) p.target.0 g ≡ content_at x.source.now g
target_shows picture pairs p n g x apart c =
    let next : volume_in (map (after_trigger picture pairs) picture) (id_of p.target.0) ≡ Some (copied_from x.source.now x.target) =
    map_in (after_trigger picture pairs) (trigger_keeps picture pairs) picture (id_of p.target.0) x.target x.target_there
    ∙ ap Some (trigger_some picture pairs x.target p.source (source_for pairs p x.target.volume apart c (sym (found picture (id_of p.target.0) x.target x.target_there).1))
    ∙ ap (λ z. copied_from z x.target) (now_some picture p.source x.source x.source_there)) in
    ap (λ o. now_at o g) next

-- ---- the restart set

-- What a pair's target stores at the grains of a set is what it shows.
abbrev pub Matches : List Bool → Stored → Picture → Pair → Type 0
Matches set stored picture p = (g : ℕ) → has set g ≡ true → stored p.target.0 g ≡ now_of picture p.target.0 g

-- a complete target stores what it shows
own_shown : (slots : List Slot) (picture : Picture) (stored : Stored) (p : Pair) (q : PlainVolume) (g : ℕ) → Shows slots picture stored → FitsPair slots p → volume_in picture (id_of p.target.0) ≡ Some q → g < length q.now →
    stored p.target.0 g ≡ content_at q.now g
own_shown slots picture stored p q g w f there lt =
    let t = live_place_at slots p.target.0 f.target f.target_there in
    let y = w.each f.target t.there t.is_live in
    let same : y.plain ≡ q = (let e : Some y.plain ≡ Some q = sym y.there ∙ ap (λ z. volume_in picture (id_of z)) t.of_volume ∙ there in cc) in
    let now = ap (λ (z : PlainVolume). z.now) same in
    let gl : g < length (slot_at slots f.target).held = (let a = y.nows in let b = ap length now in omega (arith, a, b, lt)) in
    ap (λ z. stored z g) (sym t.of_volume)
    ∙ sym (y.now g f.target gl (is_holder (column slots g) f.target f.target (own_holder (column slots g) f.target (complete_at (slot_at slots f.target).held g f.complete gl))))
    ∙ ap (λ z. content_at z g) now

row_matches : (slots : List Slot) (picture : Picture) (stored : Stored) (pairs : List Pair) (p : Pair) (row : Row) → Shows slots picture stored → FitsPair slots p → p.target.0 ≢ p.source.0 → AllApart pairs →
    Contains pairs p → AlikeIn picture row → IsOfPair p row → Matches row.same stored (map (after_trigger picture pairs) picture) p
row_matches slots picture stored pairs p row w f ne apart c a of g e =
    let n : ℕ = volume_grains slots p.target.0 in
    let x = pair_in slots picture stored p w f ne in
    let source : a.source ≡ x.source = (let q : Some a.source ≡ Some x.source = sym a.source_there ∙ ap (λ z. volume_in picture (id_of z)) of.0 ∙ x.source_there in cc) in
    let there : volume_in picture (id_of p.target.0) ≡ Some a.target = ap (λ z. volume_in picture (id_of z)) (sym of.1) ∙ a.target_there in
    let gl : g < length a.target.now = (let r = held_in_range row.same g e in let s = a.target_size in omega (arith, r, s)) in
    own_shown slots picture stored p a.target g w f there gl ∙ sym (a.alike g e) ∙ ap (λ (z : PlainVolume). content_at z.now g) source
    ∙ sym (target_shows picture pairs p n g x apart c)

pair_matches : (slots : List Slot) (picture : Picture) (stored : Stored) (pairs : List Pair) (p : Pair) (rows : List Row) → Shows slots picture stored → FitsPair slots p → p.target.0 ≢ p.source.0 → AllApart pairs →
    Contains pairs p → AreAlikeIn picture rows → ForSome (find (is_of p.map.0) rows) (IsOfPair p) → Matches (restart_in p.map.0 rows) stored (map (after_trigger picture pairs) picture) p
pair_matches slots picture stored pairs p rows w f ne apart c a fits = by (find (is_of p.map.0) rows) refl fits
  where
    by : (o : Option Row) → find (is_of p.map.0) rows ≡ o → ForSome o (IsOfPair p) → Matches (row_restart o) stored (map (after_trigger picture pairs) picture) p
    by None e of = λ g h. absurd cc
    by (Some row) e of = row_matches slots picture stored pairs p row w f ne apart c (found_all (AlikeIn picture) (is_of p.map.0) rows row e a.each) (of row refl)

abbrev pub AllMatch : (ℕ → List Bool) → Stored → Picture → List Pair → Type 0
AllMatch sets stored picture [] = Unit {0}
AllMatch sets stored picture (p ∷ ps) = Matches (sets p.map.0) stored picture p × AllMatch sets stored picture ps

match_from : (sets : ℕ → List Bool) (stored : Stored) (picture : Picture) (pairs : List Pair) → ((p : Pair) → Contains pairs p → Matches (sets p.map.0) stored picture p) → AllMatch sets stored picture pairs
match_from sets stored picture [] each = tt
match_from sets stored picture (p ∷ ps) each = (each p (0, omega arith, refl), match_from sets stored picture ps (λ q c. each q (later_in p q ps c)))

pub all_match : (s : Sheet) (picture : Picture) (stored after : Stored) (pairs : List Pair) (rows : List Row) → Shows s.slots picture stored → FitsTrigger s pairs → AllApart pairs → AreAlikeIn picture rows →
    All (λ (p : Pair). ForSome (find (is_of p.map.0) rows) (IsOfPair p)) pairs → ((w g : ℕ) → after w g ≡ stored w g) →
    AllMatch (restarts rows) after (map (after_trigger picture pairs) picture) pairs
all_match s picture stored after pairs rows w f apart a fits same =
    match_from (restarts rows) after (map (after_trigger picture pairs) picture) pairs
    (λ p c g e. same p.target.0 g
    ∙ pair_matches s.slots picture stored pairs p rows w (f.each p c) (f.apart p p c c) apart c a
    (All-contains (λ (q : Pair). ForSome (find (is_of q.map.0) rows) (IsOfPair q)) pairs p fits c) g e)

-- ---- the slots begin

one_begins : (sets : ℕ → List Bool) (t : Sheet) (picture : Picture) (stored : Stored) (p : Pair) (grains k : ℕ) → Agrees t picture stored → NewSlot t.slots p grains k → Matches (sets p.map.0) stored picture p →
    Agrees (begun sets t p) picture stored
one_begins sets t picture stored p grains k a new match =
    let set : List Bool = sets p.map.0 in
    let now : List Slot = (holding set k t).slots in
    let b = begun_begins sets t p grains k new in
    let name : (slot_at now k).volume ≡ p.target.0 = b.stay.volume k ∙ new.volume in
    record {
      sound = begun_sound sets t p grains k a.sound new;
      shows = subst (λ (z : Sheet). Shows z.slots picture stored) (sym (begun_is sets t p grains k new))
          (begins_shows t now k picture stored a.sound b new.there new.is_live
          (λ g e. subst (λ (v : ℕ). stored v g ≡ now_of picture v g) (sym name)
          (match g (held_of (length (slot_at t.slots k).held) g set (ap (λ (z : Slot). get_or z.held g false) (sym (begins_at t k set new.there)) ∙ e)))) a.shows);
    }

pub all_begin : (sets : ℕ → List Bool) (grains : Pair → ℕ) (pairs : List Pair) (t : Sheet) (picture : Picture) (stored : Stored) → Agrees t picture stored → AllNew t.slots grains pairs → AllApart pairs →
    AllMatch sets stored picture pairs → Agrees (fold (begun sets) t pairs) picture stored
all_begin sets grains [] t picture stored a new apart match = a
all_begin sets grains (p ∷ ps) t picture stored a new apart match =
    all_begin sets grains ps (begun sets t p) picture stored (one_begins sets t picture stored p (grains p) new.0.0 a new.0.1 match.0)
    (later_new sets t p grains (grains p) new.0.0 ps new.0.1 apart.0 new.1) apart.1 match.1
