-- Plain volumes: what a cut by ranges keeps is what a cut by truth values keeps.
use Rattle.std.proofs.Common.{◌≡◌, ◌∙◌, sym, ap, ℕ, zero, suc, ◌+◌, ◌<◌, ◌≤◌, Bool, true, false, cond, ◌&&◌, ◌||◌, ◌==◌, nat_le, List, [], ◌∷◌, length, get_or, inl, inr, refl, arith}
use Rattle.std.specs.List.{list_all}
use Rattle.std.proofs.lemmas.Bool.{cases_order, eq-eqb, ne_eqb, le-leb, lt-leb, eqb-true}
use Rattle.fc_base.specs.Ranges.{is_kept}
use Rattle.fc_base.specs.declared.ranges.Range.{Range}
use Rattle.fc_books.specs.Copies.{ranges_from, put_before}
use Rattle.fc_entry.specs.Picture.{Content}
use Rattle.fc_entry.specs.PlainStep.{cut_from}
use Rattle.fc_rules.specs.LaneTold.{cut_by}

-- ---- which grains ranges keep

-- the first range isn't empty and begins at a grain or behind it
abbrev BeginsAt : ℕ → List Range → Type 0
BeginsAt lo [] = Unit {0}
BeginsAt lo (range ∷ ranges) = (lo ≤ range.first) × (range.first ≤ range.last)

abbrev has : Range → ℕ → Bool
has range h = nat_le range.first h && nat_le h range.last

put_by : (g : ℕ) (range : Range) (ranges : List Range) (b : Bool) → (range.first == g + 1) ≡ b → BeginsAt (g + 1) (range ∷ ranges) →
    BeginsAt g (cond b (record { first = g; last = range.last } ∷ ranges) (record { first = g; last = g } ∷ range ∷ ranges))
put_by g range ranges true e at = omega (arith, at.0, at.1)
put_by g range ranges false e at = omega arith

put_begins : (g : ℕ) (ranges : List Range) → BeginsAt (g + 1) ranges → BeginsAt g (put_before g ranges)
put_begins g [] at = omega arith
put_begins g (range ∷ ranges) at = put_by g range ranges (range.first == g + 1) refl at

begins_before : (g : ℕ) (ranges : List Range) → BeginsAt (g + 1) ranges → BeginsAt g ranges
begins_before g [] at = tt
begins_before g (range ∷ ranges) at = omega (arith, at.0, at.1)

begins : (g : ℕ) (bits : List Bool) → BeginsAt g (ranges_from g bits)
begins g [] = tt
begins g (true ∷ bits) = put_begins g (ranges_from (g + 1) bits) (begins (g + 1) bits)
begins g (false ∷ bits) = begins_before g (ranges_from (g + 1) bits) (begins (g + 1) bits)

in_one : (g h : ℕ) → (nat_le g h && nat_le h g) ≡ (h == g)
in_one g h =
    elim (cases_order h g) [
      | inl same ↦ rw (le-leb g h (omega (arith, same))) (rw (le-leb h g (omega (arith, same))) (sym (eq-eqb h g same)))
      | inr other ↦ elim other [
        | inl lt ↦ rw (lt-leb g h lt) (sym (ne_eqb h g (λ e. omega (arith, e, lt))))
        | inr gt ↦ rw (le-leb g h (omega (arith, gt))) (rw (lt-leb h g gt) (sym (ne_eqb h g (λ e. omega (arith, e, gt)))))
      ]
    ]

in_longer : (g h first last : ℕ) → first ≡ g + 1 → first ≤ last → (nat_le g h && nat_le h last) ≡ ((h == g) || (nat_le first h && nat_le h last))
in_longer g h first last e le =
    elim (cases_order h g) [
      | inl same ↦ rw (le-leb g h (omega (arith, same))) (rw (le-leb h last (omega (arith, same, e, le))) (rw (eq-eqb h g same) refl))
      | inr other ↦ elim other [
        | inl lt ↦ rw (lt-leb g h lt) (rw (ne_eqb h g (λ q. omega (arith, q, lt))) (rw (lt-leb first h (omega (arith, e, lt))) refl))
        | inr gt ↦ rw (le-leb g h (omega (arith, gt))) (rw (ne_eqb h g (λ q. omega (arith, q, gt))) (rw (le-leb first h (omega (arith, e, gt))) refl))
      ]
    ]

or_assoc : (a b c : Bool) → ((a || b) || c) ≡ (a || (b || c))
or_assoc true b c = refl
or_assoc false b c = refl

put_kept_by : (g h : ℕ) (range : Range) (ranges : List Range) (b : Bool) → (range.first == g + 1) ≡ b → BeginsAt (g + 1) (range ∷ ranges) →
    is_kept (cond b (record { first = g; last = range.last } ∷ ranges) (record { first = g; last = g } ∷ range ∷ ranges)) h ≡ ((h == g) || is_kept (range ∷ ranges) h)
put_kept_by g h range ranges true e at =
    ap (λ x. x || is_kept ranges h) (in_longer g h range.first range.last (eqb-true range.first (g + 1) e) at.1)
    ∙ or_assoc (h == g) (has range h) (is_kept ranges h)
put_kept_by g h range ranges false e at = ap (λ x. x || is_kept (range ∷ ranges) h) (in_one g h)

put_kept : (g h : ℕ) (ranges : List Range) → BeginsAt (g + 1) ranges → is_kept (put_before g ranges) h ≡ ((h == g) || is_kept ranges h)
put_kept g h [] at = ap (λ x. x || false) (in_one g h)
put_kept g h (range ∷ ranges) at = put_kept_by g h range ranges (range.first == g + 1) refl at

kept_below : (g h : ℕ) (bits : List Bool) → h < g → is_kept (ranges_from g bits) h ≡ false
kept_below g h [] lt = refl
kept_below g h (true ∷ bits) lt =
    put_kept g h (ranges_from (g + 1) bits) (begins (g + 1) bits)
    ∙ ap (λ x. x || is_kept (ranges_from (g + 1) bits) h) (ne_eqb h g (λ e. omega (arith, e, lt)))
    ∙ kept_below (g + 1) h bits (omega (arith, lt))
kept_below g h (false ∷ bits) lt = kept_below (g + 1) h bits (omega (arith, lt))

-- The ranges of truth values keep those that are true.
pub kept_at : (g : ℕ) (bits : List Bool) (h j : ℕ) → h ≡ g + j → is_kept (ranges_from g bits) h ≡ get_or bits j false
kept_at g [] h j e = refl
kept_at g (true ∷ bits) h zero e =
    put_kept g h (ranges_from (g + 1) bits) (begins (g + 1) bits)
    ∙ ap (λ x. x || is_kept (ranges_from (g + 1) bits) h) (eq-eqb h g (omega (arith, e)))
kept_at g (true ∷ bits) h (suc j) e =
    put_kept g h (ranges_from (g + 1) bits) (begins (g + 1) bits)
    ∙ ap (λ x. x || is_kept (ranges_from (g + 1) bits) h) (ne_eqb h g (λ q. omega (arith, q, e)))
    ∙ kept_at (g + 1) bits h j (omega (arith, e))
kept_at g (false ∷ bits) h zero e = kept_below (g + 1) h bits (omega (arith, e))
kept_at g (false ∷ bits) h (suc j) e = kept_at (g + 1) bits h j (omega (arith, e))

-- ---- cuts

cut_same : (kept : List Range) (g : ℕ) (held : List Bool) (now under : List Content) → ((j : ℕ) → is_kept kept (g + j) ≡ get_or held j false) → length now ≤ length held →
    cut_by held now under ≡ cut_from kept g now under
cut_same kept g [] [] under keeps le = refl
cut_same kept g [] (x ∷ now) under keeps le = absurd (omega (arith, le))
cut_same kept g (true ∷ held) [] under keeps le = refl
cut_same kept g (false ∷ held) [] under keeps le = refl
cut_same kept g (true ∷ held) (x ∷ now) [] keeps le = refl
cut_same kept g (false ∷ held) (x ∷ now) [] keeps le = refl
cut_same kept g (true ∷ held) (x ∷ now) (y ∷ under) keeps le =
    let here : is_kept kept g ≡ true = ap (is_kept kept) (omega arith) ∙ keeps 0 in
    ap (λ z. x ∷ z) (cut_same kept (g + 1) held now under (λ j. ap (is_kept kept) (omega arith) ∙ keeps (suc j)) (omega (arith, le)))
    ∙ sym (ap (λ b. cond b x y ∷ cut_from kept (g + 1) now under) here)
cut_same kept g (false ∷ held) (x ∷ now) (y ∷ under) keeps le =
    let here : is_kept kept g ≡ false = ap (is_kept kept) (omega arith) ∙ keeps 0 in
    ap (λ z. y ∷ z) (cut_same kept (g + 1) held now under (λ j. ap (is_kept kept) (omega arith) ∙ keeps (suc j)) (omega (arith, le)))
    ∙ sym (ap (λ b. cond b x y ∷ cut_from kept (g + 1) now under) here)

-- A volume of no more grains than the slot is cut as the slot's ranges say.
pub cut_by_ranges : (held : List Bool) (now under : List Content) → length now ≤ length held → cut_by held now under ≡ cut_from (ranges_from 0 held) 0 now under
cut_by_ranges held now under le = cut_same (ranges_from 0 held) 0 held now under (λ j. kept_at 0 held (0 + j) j refl) le

-- A whole copy cuts nothing.
pub cut_whole : (held : List Bool) (now under : List Content) → list_all (λ b. b) held ≡ true → cut_by held now under ≡ now
cut_whole [] now under e = refl
cut_whole (true ∷ held) [] under e = refl
cut_whole (true ∷ held) (x ∷ now) [] e = refl
cut_whole (true ∷ held) (x ∷ now) (y ∷ under) e = ap (λ z. x ∷ z) (cut_whole held now under e)
cut_whole (false ∷ held) now under e = absurd cc
