-- Ranges of grains, rising and never touching, are read exactly.
use Rattle.std.proofs.Common.{◌≡◌, ℕ, zero, suc, ◌+◌, ◌%◌, ◌<◌, ◌≤◌, ◌==◌, Bool, true, false, cond, eqb, nat_le, List, [], ◌∷◌, ◌++◌, get_or, map, codes, decimal, Ok, refl, sym, ap, subst, ◌∙◌, append_assoc, arith, inl, inr}
use Rattle.std.specs.List.{join_with_byte, list_all}
use Rattle.std.proofs.lemmas.Bool.{eq-eqb, eqb-true, false≢true}
use Rattle.std.proofs.lemmas.Bool.Decides.{nat_tests}
use Rattle.std.proofs.lemmas.Fmt.{decimal_by_steps}
use Rattle.fc_base.specs.Ranges.{IsRisingFrom}
use Rattle.fc_base.specs.declared.ranges.Range.{Range}
use Rattle.fc_reading.specs.Readers.{is_decimal, map_read, one_of_at, then_read}
use Rattle.fc_trace.specs.Notes.{kept_text, range_text}
use Rattle.fc_reading_notes.specs.Between.{between_at}
use Rattle.fc_reading_notes.specs.Lines.{behind_first, first_ends, kept_at, last_at, last_ends, range_at, range_of, ranges_at}
use Rattle.fc_reading_notes.specs.Lists.{starts_with}
use Rattle.fc_reading_notes.specs.Told.{AreKept, Each, IsId}
use Rattle.fc_reading.proofs.Exact.{Ends, Exact, Exact-map, Exact-then}
use Rattle.fc_reading.proofs.Numbers.{cases}
use Rattle.fc_reading.proofs.Words.{Ends-nothing, Exact-one_of, IsIndexOf, one_of-takes, at_false, at_true, is_code, nothing}
use Rattle.fc_reading_notes.proofs.BetweenLemmas.{Exact-between, IsBetween}
use Rattle.fc_reading_notes.proofs.Choices.{Exact-alike, Exact-none, Is, no_digit, small, words_end}
use Rattle.fc_reading_notes.proofs.Commas.{Exact-or_none, NonEmpty, item_line, items_joined, line_some, sep}
use Rattle.fc_reading_notes.proofs.Lists.{AllFit, ChainOf, Exact-chain, all_text}

abbrev Part : Type 0
Part = Range × Bool

-- behind a range one more has room
abbrev MoreFits : ℕ → Bool → Type 0
MoreFits last more = more ≡ true → last + 2 ≤ 4294967295

-- ---- the words behind a first grain

abbrev ends_by : Bool → Bool → List (List ℕ)
ends_by a b = codes "\n" ∷ (cond a [] (codes "-" ∷ (cond b [] (codes "," ∷ []))))

abbrev others_by : Bool → Bool → List (List ℕ)
others_by a b = cond a [] (codes "-" ∷ (cond b [] (codes "," ∷ [])))

ends_code : (a b : Bool) → is_code (ends_by a b) ≡ true
ends_code true b = refl
ends_code false true = refl
ends_code false false = refl

ends_no_digit : (a b : Bool) → list_all no_digit (ends_by a b) ≡ true
ends_no_digit true b = refl
ends_no_digit false true = refl
ends_no_digit false false = refl

Exact-ends : (a b : Bool) → Exact (IsIndexOf (ends_by a b)) (λ i. get_or (ends_by a b) i []) nothing (one_of_at (ends_by a b))
Exact-ends a b = Exact-one_of (codes "\n") (others_by a b) (ends_code a b)

-- a dash stands there only where a grain follows
dash_room : (first : ℕ) → first ≤ 4294967295 → IsIndexOf (first_ends first) 1 → first + 1 ≤ 4294967295
dash_room first within inside =
    elim (cases (eqb first 4294967295)) [
      | inl greatest ↦
          absurd (no_second (eqb first 4294967295) (eqb first 4294967294) greatest inside)
      | inr less ↦ below first within less
    ]
  where
    no_second : (a b : Bool) → a ≡ true → IsIndexOf (ends_by a b) 1 → ⊥
    no_second true b e inside = absurd (omega (arith, inside))
    no_second false b e inside = absurd (false≢true e)

    below : (first : ℕ) → first ≤ 4294967295 → eqb first 4294967295 ≡ false → first + 1 ≤ 4294967295
    below first within less = grind (arith, nat_tests)

dash_word : (a b : Bool) → IsIndexOf (ends_by a b) 1 → get_or (ends_by a b) 1 [] ≡ codes "-"
dash_word true b inside = absurd (omega (arith, inside))
dash_word false b inside = refl

comma_word : (a b : Bool) → IsIndexOf (ends_by a b) 2 → (a ≡ false) × (b ≡ false) × (get_or (ends_by a b) 2 [] ≡ codes ",")
comma_word true b inside = absurd (omega (arith, inside))
comma_word false true inside = absurd (omega (arith, inside))
comma_word false false inside = (refl, refl, refl)

no_more : (a b : Bool) (n : ℕ) → IsIndexOf (ends_by a b) (suc (suc (suc n))) → ⊥
no_more true b n inside = absurd (omega (arith, inside))
no_more false true n inside = absurd (omega (arith, inside))
no_more false false n inside = absurd (omega (arith, inside))

two_below : (n : ℕ) → n ≤ 4294967295 → eqb n 4294967295 ≡ false → eqb n 4294967294 ≡ false → n + 2 ≤ 4294967295
two_below n within a b = grind (arith, nat_tests)

-- where a dash was read, a grain behind it has room
pub dash-found : (first : ℕ) (bytes rest : List ℕ) → first ≤ 4294967295 → one_of_at (first_ends first) bytes ≡ Ok (1, rest) → first + 1 ≤ 4294967295
dash-found first bytes rest within e = dash_room first within (one_of-takes (first_ends first) bytes 1 rest e).inside

-- ---- the last grain behind a dash

abbrev FitsLast : ℕ → Part → Type 0
FitsLast first x = (x.0.first ≡ first) × ((first + 1 ≤ x.0.last) × ((x.0.last ≤ 4294967295) × MoreFits x.0.last x.1))

abbrev last_text : Part → List ℕ
last_text x = decimal x.0.last ++ sep x.1

abbrev lasts_by : Bool → List (List ℕ)
lasts_by a = codes "\n" ∷ cond a [] (codes "," ∷ [])

lasts_code : (a : Bool) → is_code (lasts_by a) ≡ true
lasts_code true = refl
lasts_code false = refl

lasts_no_digit : (a : Bool) → list_all no_digit (lasts_by a) ≡ true
lasts_no_digit true = refl
lasts_no_digit false = refl

lasts_word : (a : Bool) (i : ℕ) → IsIndexOf (lasts_by a) i → (get_or (lasts_by a) i [] ≡ sep (i == 1)) × ((i == 1) ≡ true → a ≡ false)
lasts_word a zero inside = (refl, λ e. absurd (false≢true e))
lasts_word true (suc i) inside = absurd (omega (arith, inside))
lasts_word false (suc zero) inside = (refl, λ e. refl)
lasts_word false (suc (suc i)) inside = absurd (omega (arith, inside))

last_room : (last : ℕ) → nat_le 4294967294 last ≡ false → last + 2 ≤ 4294967295
last_room last h = grind (arith, nat_tests)

no_last : (last : ℕ) → last + 2 ≤ 4294967295 → nat_le 4294967294 last ≡ false
no_last last h = grind (arith, nat_tests)

abbrev LastRead : ℕ → ℕ × ℕ → Type 0
LastRead first x = IsBetween (first + 1) 4294967295 x.0 × IsIndexOf (last_ends x.0) x.1

abbrev last_read_text : ℕ × ℕ → List ℕ
last_read_text x = decimal x.0 ++ get_or (last_ends x.0) x.1 []

last_index : (a more : Bool) → (more ≡ true → a ≡ false) → (i : ℕ) × IsIndexOf (lasts_by a) i × ((i == 1) ≡ more)
last_index a false h = (0, omega arith, refl)
last_index true true h = absurd (false≢true (sym (h refl)))
last_index false true h = (1, omega arith, refl)

Exact-last : (first : ℕ) → first + 1 ≤ 4294967295 → Exact (FitsLast first) last_text nothing (last_at first)
Exact-last first room =
    Exact-map {V = ℕ × ℕ} {W = Part} (LastRead first) last_read_text nothing (then_read (between_at (first + 1) 4294967295) (λ last. one_of_at (last_ends last)))
    (FitsLast first) last_text (λ x. range_of first x.0 (x.1 == 1))
    (
    Exact-then (IsBetween (first + 1) 4294967295) decimal is_decimal (between_at (first + 1) 4294967295) (λ last. IsIndexOf (last_ends last)) (λ last i. get_or (last_ends last) i []) nothing
    (λ last. one_of_at (last_ends last)) (Exact-between (first + 1) 4294967295 small room)
    (λ last fits. Exact-one_of (codes "\n") (cond (nat_le 4294967294 last) [] (codes "," ∷ [])) (lasts_code (nat_le 4294967294 last)))
    (λ last fits. (0, omega arith))
    (λ last i rest fits inside ends. words_end (last_ends last) i rest (lasts_no_digit (nat_le 4294967294 last)) inside)
    )
    (
    λ x fits.
    let w = lasts_word (nat_le 4294967294 x.0) x.1 fits.1 in (
      (refl, (fits.0.0, (fits.0.1, λ more. last_room x.0 (w.1 more)))),
      ap (λ t. decimal x.0 ++ t) (sym w.0),
    )
    )
    (λ x fits. back x.0.first x.0.last x.1 fits.0 fits.1.0 fits.1.1.0 fits.1.1.1)
  where
    back : (f last : ℕ) (more : Bool) → f ≡ first → first + 1 ≤ last → last ≤ 4294967295 → MoreFits last more → (x : ℕ × ℕ) × LastRead first x × (range_of first x.0 (x.1 == 1) ≡ range_of f last more)
    back f last more is low high room =
        let i = last_index (nat_le 4294967294 last) more (λ m. no_last last (room m)) in
        ((last, i.0), ((low, high), i.1), ap (range_of first last) i.2 ∙ ap (λ k. range_of k last more) (sym is))

-- ---- what stands behind a first grain

abbrev FitsRest : ℕ → Part → Type 0
FitsRest first x = (x.0.first ≡ first) × ((first ≤ x.0.last) × ((x.0.last ≤ 4294967295) × MoreFits x.0.last x.1))

abbrev rest_text : ℕ → Part → List ℕ
rest_text first x = cond (eqb first x.0.last) [] (codes "-" ++ decimal x.0.last) ++ sep x.1

abbrev FitsEnd : ℕ → ℕ → Part → Type 0
FitsEnd first zero x = Is (range_of first first false) x
FitsEnd first (suc zero) x = FitsLast first x
FitsEnd first (suc (suc n)) x = Is (range_of first first true) x

abbrev end_text : ℕ → Part → List ℕ
end_text zero x = []
end_text (suc zero) x = last_text x
end_text (suc (suc n)) x = []

Exact-end : (first end : ℕ) → first ≤ 4294967295 → IsIndexOf (first_ends first) end → Exact (FitsEnd first end) (end_text end) nothing (behind_first first end)
Exact-end first zero within inside = Exact-none (range_of first first false)
Exact-end first (suc zero) within inside = Exact-last first (dash_room first within inside)
Exact-end first (suc (suc zero)) within inside = Exact-none (range_of first first true)
Exact-end first (suc (suc (suc n))) within inside = absurd (no_more (eqb first 4294967295) (eqb first 4294967294) n inside)

some_end : (first end : ℕ) → first ≤ 4294967295 → IsIndexOf (first_ends first) end → (x : Part) × FitsEnd first end x
some_end first zero within inside = (range_of first first false, refl)
some_end first (suc zero) within inside =
    (range_of first (first + 1) false, (refl, (omega arith, (dash_room first within inside, λ e. absurd (false≢true e)))))
some_end first (suc (suc n)) within inside = (range_of first first true, refl)

abbrev EndRead : ℕ → ℕ × Part → Type 0
EndRead first y = IsIndexOf (first_ends first) y.0 × FitsEnd first y.0 y.1

abbrev end_read_text : ℕ → ℕ × Part → List ℕ
end_read_text first y = get_or (first_ends first) y.0 [] ++ end_text y.0 y.1

rest_alone : (first : ℕ) (more : Bool) → rest_text first (range_of first first more) ≡ sep more
rest_alone first more = ap (λ t. t ++ sep more) (at_true (eqb first first) [] (codes "-" ++ decimal first) (eq-eqb first first refl))

rest_longer : (first last : ℕ) (more : Bool) → first + 1 ≤ last → rest_text first (range_of first last more) ≡ codes "-" ++ (decimal last ++ sep more)
rest_longer first last more longer =
    ap (λ t. t ++ sep more) (at_false (eqb first last) [] (codes "-" ++ decimal last) (differ first last longer))
    ∙ append_assoc (codes "-") (decimal last) (sep more)
  where
    differ : (first last : ℕ) → first + 1 ≤ last → eqb first last ≡ false
    differ first last longer = grind (arith, nat_tests)

rest_to : (first : ℕ) → first ≤ 4294967295 → (y : ℕ × Part) → EndRead first y → FitsRest first y.1 × (rest_text first y.1 ≡ end_read_text first y)
rest_to first within (zero, x) fits =
    let P : Part → Type 0 = λ z. FitsRest first z × (rest_text first z ≡ codes "\n" ++ []) in
    let at : P (range_of first first false) = (
      (refl, (omega arith, (within, λ e. absurd (false≢true e)))),
      rest_alone first false,
    ) in
    subst P (sym fits.1) at
rest_to first within (suc zero, x) fits = (
  (fits.1.0, (omega (arith, fits.1.1.0), fits.1.1.1)),
  rest_longer first x.0.last x.1 fits.1.1.0
      ∙ ap (λ t. t ++ last_text x) (sym (dash_word (eqb first 4294967295) (eqb first 4294967294) fits.0)),
)
rest_to first within (suc (suc zero), x) fits =
    let w = comma_word (eqb first 4294967295) (eqb first 4294967294) fits.0 in
    let P : Part → Type 0 = λ z. FitsRest first z × (rest_text first z ≡ get_or (first_ends first) 2 [] ++ []) in
    let at : P (range_of first first true) = (
      (refl, (omega arith, (within, λ e. two_below first within w.0 w.1))),
      rest_alone first true ∙ ap (λ t. t ++ []) (sym w.2),
    ) in
    subst P (sym fits.1) at
rest_to first within (suc (suc (suc n)), x) fits = absurd (no_more (eqb first 4294967295) (eqb first 4294967294) n fits.0)

-- how a range is read again
comma_index : (a b : Bool) → a ≡ false → b ≡ false → IsIndexOf (ends_by a b) 2
comma_index true b x y = absurd (false≢true (sym x))
comma_index false true x y = absurd (false≢true (sym y))
comma_index false false x y = omega arith

dash_index : (a b : Bool) → a ≡ false → IsIndexOf (ends_by a b) 1
dash_index true b x = absurd (false≢true (sym x))
dash_index false b x = omega arith

not_greatest : (n : ℕ) → n + 1 ≤ 4294967295 → eqb n 4294967295 ≡ false
not_greatest n h = grind (arith, nat_tests)

not_next : (n : ℕ) → n + 2 ≤ 4294967295 → eqb n 4294967294 ≡ false
not_next n h = grind (arith, nat_tests)

rest_from : (first f last : ℕ) (more : Bool) → FitsRest first (range_of f last more) → (y : ℕ × Part) × EndRead first y × (y.1 ≡ range_of f last more)
rest_from first f last more fits =
    elim (cases (eqb first last)) [
      | inl same ↦ one more (eqb-true first last same) fits.1.1.1
      | inr differ ↦ (
        (1, range_of f last more),
        (
          dash_index (eqb first 4294967295) (eqb first 4294967294) (not_greatest first (omega (arith, longer first last fits.1.0 differ, fits.1.1.0))),
          (fits.0, (longer first last fits.1.0 differ, fits.1.1)),
        ),
        refl,
      )
    ]
  where
    longer : (first last : ℕ) → first ≤ last → eqb first last ≡ false → first + 1 ≤ last
    longer first last low differ = grind (arith, nat_tests)

    same_range : (more : Bool) → first ≡ last → range_of first first more ≡ range_of f last more
    same_range more is = ap (λ l. range_of first l more) is ∙ ap (λ k. range_of k last more) (sym fits.0)

    one : (more : Bool) → first ≡ last → MoreFits last more → (y : ℕ × Part) × EndRead first y × (y.1 ≡ range_of f last more)
    one false is room = ((0, range_of first first false), (omega arith, refl), same_range false is)
    one true is room = (
      (2, range_of first first true),
      (
        comma_index (eqb first 4294967295) (eqb first 4294967294) (not_greatest first (omega (arith, room refl, is)))
            (not_next first (omega (arith, room refl, is))),
        refl,
      ),
      same_range true is,
    )

Exact-rest : (first : ℕ) → first ≤ 4294967295 → Exact (FitsRest first) (rest_text first) nothing (map_read (λ (y : ℕ × Part). y.1) (then_read (one_of_at (first_ends first)) (behind_first first)))
Exact-rest first within =
    Exact-map {V = ℕ × Part} {W = Part} (EndRead first) (end_read_text first) nothing (then_read (one_of_at (first_ends first)) (behind_first first))
    (FitsRest first) (rest_text first) (λ y. y.1)
    (
    Exact-then (IsIndexOf (first_ends first)) (λ i. get_or (first_ends first) i []) nothing (one_of_at (first_ends first)) (FitsEnd first) end_text nothing (behind_first first)
    (Exact-ends (eqb first 4294967295) (eqb first 4294967294)) (λ i inside. Exact-end first i within inside) (λ i inside. some_end first i within inside)
    (λ i x rest inside fits ends. Ends-nothing (end_text i x ++ rest))
    )
    (rest_to first within)
    (λ x fits. rest_from first x.0.first x.0.last x.1 fits)

-- ---- a range

abbrev pub FitsRange : ℕ → Part → Type 0
FitsRange least x = (least ≤ x.0.first) × ((x.0.first ≤ x.0.last) × ((x.0.last ≤ 4294967295) × (x.1 ≡ true → x.0.last + 2 ≤ 4294967295)))

abbrev pub range_line : Part → List ℕ
range_line = item_line range_text

abbrev RangeRead : ℕ → ℕ × Part → Type 0
RangeRead least y = IsBetween least 4294967295 y.0 × FitsRest y.0 y.1

abbrev range_read_text : ℕ × Part → List ℕ
range_read_text y = decimal y.0 ++ rest_text y.0 y.1

Ends-rest : (first : ℕ) (x : Part) (rest : List ℕ) → Ends is_decimal (rest_text first x ++ rest)
Ends-rest first x rest = ends_by_test (eqb first x.0.last) (decimal x.0.last) x.1
  where
    ends_by_test : (t : Bool) (digits : List ℕ) (more : Bool) → Ends is_decimal ((cond t [] (codes "-" ++ digits) ++ sep more) ++ rest)
    ends_by_test true digits true = refl
    ends_by_test true digits false = refl
    ends_by_test false digits more = refl

range_to : (least : ℕ) (y : ℕ × Part) → RangeRead least y → FitsRange least y.1 × (range_line y.1 ≡ range_read_text y)
range_to least (first, x) fits = (
  (omega (arith, fits.0.0, fits.1.0), (omega (arith, fits.1.0, fits.1.1.0), fits.1.1.1)),
  append_assoc (decimal x.0.first) (cond (eqb x.0.first x.0.last) [] (codes "-" ++ decimal x.0.last)) (sep x.1)
      ∙ ap (λ f. decimal f ++ rest_text f x) fits.1.0,
)

range_from : (least : ℕ) (x : Part) → FitsRange least x → (y : ℕ × Part) × RangeRead least y × (y.1 ≡ x)
range_from least x fits = (
  (x.0.first, x),
  ((fits.0, omega (arith, fits.1.0, fits.1.1.0)), (refl, fits.1)),
  refl,
)

pub Exact-range : (least : ℕ) → least ≤ 4294967295 → Exact (FitsRange least) range_line nothing (range_at least)
Exact-range least room =
    Exact-map {V = ℕ × Part} {W = Part} (RangeRead least) range_read_text nothing
    (then_read (between_at least 4294967295) (λ first. map_read (λ (y : ℕ × Part). y.1) (then_read (one_of_at (first_ends first)) (behind_first first))))
    (FitsRange least) range_line (λ y. y.1)
    (
    Exact-then (IsBetween least 4294967295) decimal is_decimal (between_at least 4294967295) FitsRest rest_text nothing
    (λ first. map_read (λ (y : ℕ × Part). y.1) (then_read (one_of_at (first_ends first)) (behind_first first)))
    (Exact-between least 4294967295 small room) (λ first fits. Exact-rest first fits.1)
    (λ first fits. (range_of first first false, (refl, (omega arith, (fits.1, λ e. absurd (false≢true e))))))
    (λ first x rest fits inside ends. Ends-rest first x rest)
    )
    (range_to least) (range_from least)

-- what is read is in range
pub range-found :
    (least : ℕ) (bytes : List ℕ) (range : Range) (more : Bool) (rest : List ℕ) → least ≤ 4294967295 →
    range_at least bytes ≡ Ok ((range, more), rest) → FitsRange least (range, more)
range-found least bytes range more rest room e = ((Exact-range least room).takes bytes (range, more) rest e).fits

-- ---- ranges

abbrev HasRoom : ℕ → Type 0
HasRoom least = least ≤ 4294967295

abbrev pub range_next : ℕ → Range → ℕ
range_next least range = range.last + 2

range_chain : ChainOf HasRoom FitsRange range_line range_at range_next
range_chain = record {
  exact = λ least room. Exact-range least room;
  some = λ least x fits. line_some range_text x.0 x.1;
  next_good = λ least range room fits. fits.1.1.1 refl;
  ends = λ least room. (record { first = least; last = least }, (omega arith, (omega arith, (room, λ e. absurd (false≢true e)))));
}

pub Exact-ranges : Exact (AllFit FitsRange range_next 0) (all_text range_line) nothing ranges_at
Exact-ranges = Exact-chain HasRoom FitsRange range_line range_at range_next range_chain 0 (omega arith)

-- ranges that follow one another, from a least grain on
rising_after : (least : ℕ) (range : Range) (ranges : List Range) → AllFit FitsRange range_next least (range ∷ ranges) → (range.first ≤ range.last) × IsRisingFrom range ranges
rising_after least range [] fits = (fits.1.0, tt)
rising_after least range (next ∷ ranges) fits =
    let more = rising_after (range.last + 2) next ranges fits.1 in
    (fits.0.1.0, (omega (arith, first_low (range.last + 2) next ranges fits.1), more.0, more.1))
  where
    first_low : (least : ℕ) (range : Range) (ranges : List Range) → AllFit FitsRange range_next least (range ∷ ranges) → least ≤ range.first
    first_low least range [] fits = fits.0
    first_low least range (next ∷ ranges) fits = fits.0.0

abbrev LastIsId : Range → Type 0
LastIsId range = IsId range.last

each_id : (least : ℕ) (ranges : List Range) → AllFit FitsRange range_next least ranges → Each LastIsId ranges
each_id least [] fits = absurd fits
each_id least (range ∷ []) fits = (fits.1.1.0, tt)
each_id least (range ∷ next ∷ ranges) fits = (fits.0.1.1.0, each_id (range.last + 2) (next ∷ ranges) fits.1)

all_fit : (least : ℕ) (range : Range) (ranges : List Range) → least ≤ range.first → range.first ≤ range.last → IsRisingFrom range ranges → Each LastIsId (range ∷ ranges) → AllFit FitsRange range_next least (range ∷ ranges)
all_fit least range [] low order rising ids = (low, (order, (ids.0, λ e. absurd (false≢true e))))
all_fit least range (next ∷ ranges) low order rising ids = (
  (low, (order, (ids.0, λ e. omega (arith, rising.0, rising.1, ids.1.0)))),
  all_fit (range.last + 2) next ranges (omega (arith, rising.0)) rising.1 rising.2 ids.1,
)

-- ---- the grains that a volume keeps

abbrev pub kept_line : List Range → List ℕ
kept_line kept = kept_text kept ++ codes "\n"

abbrev AreSome : List Range → Type 0
AreSome = NonEmpty AreKept

ranges_to : (ranges : List Range) → AllFit FitsRange range_next 0 ranges → AreSome ranges × (kept_line ranges ≡ all_text range_line ranges)
ranges_to [] fits = absurd fits
ranges_to (range ∷ ranges) fits =
    let r = rising_after 0 range ranges fits in
    (((r.0, r.1), each_id 0 (range ∷ ranges) fits), items_joined range_text range ranges)

ranges_from : (ranges : List Range) → AreSome ranges → AllFit FitsRange range_next 0 ranges
ranges_from [] some = absurd some
ranges_from (range ∷ ranges) some = all_fit 0 range ranges (omega arith) some.0.0 some.0.1 some.1

-- the ranges' reader, by the texts of the trace
Exact-some : Exact AreSome kept_line nothing ranges_at
Exact-some = Exact-alike (AllFit FitsRange range_next 0) (all_text range_line) ranges_at AreSome kept_line Exact-ranges ranges_to ranges_from

-- no other byte than a digit begins a number
pub begins_digit : (byte : ℕ) → is_decimal byte ≡ false → (n : ℕ) (more : List ℕ) → n ≤ 4294967295 → starts_with byte (decimal n ++ more) ≡ false
begins_digit byte other n more within =
    decimal_by_steps (λ m ds. (rest : List ℕ) → starts_with byte (ds ++ rest) ≡ false) one next n (omega (arith, within, small)) more
  where
    letter : (m : ℕ) → m < 10 → (48 + m == byte) ≡ false
    letter m digit = grind (arith, nat_tests)

    one : (m : ℕ) → m < 10 → (rest : List ℕ) → starts_with byte (((48 + m) ∷ []) ++ rest) ≡ false
    one m digit rest = letter m digit

    next : (m : ℕ) (ds : List ℕ) → 10 ≤ m → ((rest : List ℕ) → starts_with byte (ds ++ rest) ≡ false) → (rest : List ℕ) → starts_with byte ((ds ++ ((48 + m % 10) ∷ [])) ++ rest) ≡ false
    next m ds large before rest = ap (starts_with byte) (append_assoc ds ((48 + m % 10) ∷ []) rest) ∙ before ((48 + m % 10) ∷ rest)

line_begins : (range : Range) (more : List ℕ) → range.first ≤ 4294967295 → starts_with 110 (range_text range ++ more) ≡ false
line_begins range more within =
    ap (starts_with 110) (append_assoc (decimal range.first) (cond (eqb range.first range.last) [] (codes "-" ++ decimal range.last)) more)
    ∙ begins_digit 110 refl range.first (cond (eqb range.first range.last) [] (codes "-" ++ decimal range.last) ++ more) within

begins_other : (kept : List Range) (rest : List ℕ) → AreSome kept → starts_with 110 (kept_line kept ++ rest) ≡ false
begins_other [] rest some = absurd some
begins_other (range ∷ []) rest some =
    ap (starts_with 110) (append_assoc (range_text range) (codes "\n") rest)
    ∙ line_begins range (codes "\n" ++ rest) (omega (arith, some.0.0, some.1.0))
begins_other (range ∷ next ∷ ranges) rest some =
    let others : List ℕ = 44 ∷ join_with_byte 44 (map range_text (next ∷ ranges)) in
    ap (λ t. starts_with 110 (t ++ rest)) (append_assoc (range_text range) others (codes "\n"))
    ∙ ap (starts_with 110) (append_assoc (range_text range) (others ++ codes "\n") rest)
    ∙ line_begins range ((others ++ codes "\n") ++ rest) (omega (arith, some.0.0, some.1.0))

pub Exact-kept : Exact AreKept kept_line nothing kept_at
Exact-kept = Exact-or_none 110 (codes "none\n") AreKept kept_line ranges_at (tt, tt) refl (λ rest. refl) Exact-some begins_other
