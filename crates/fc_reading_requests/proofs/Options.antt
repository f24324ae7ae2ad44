-- The options of a new mapping are read exactly.
use Rattle.std.proofs.Common.{◌≡◌, ℕ, suc, ◌+◌, ◌-◌, ◌<◌, ◌≤◌, ◌==◌, Bool, true, false, List, [], ◌∷◌, ◌++◌, length, get_or, drop, codes, decimal, Option, Some, None, IfSome, Result, refl, sym, ap, subst, ◌∙◌, append_assoc, arith, inl, inr}
use Rattle.std.proofs.lemmas.Bool.{eq-eqb, eqb-true, false≢true}
use Rattle.std.proofs.lemmas.Bool.Decides.{nat_tests}
use Rattle.std.proofs.lemmas.List.{append-nil, get_or-drop, length-drop}
use Rattle.fc_base.specs.CommandText.{ref_word}
use Rattle.fc_base.specs.Names.{continues_name}
use Rattle.fc_base.specs.declared.name.Ref.{Ref}
use Rattle.fc_words.specs.Canonical.{IsName, IsNumber, IsObject}
use Rattle.fc_reading.specs.Readers.{is_decimal, map_read, one_of_at, then_read}
use Rattle.fc_reading_requests.specs.Mappings.{Given, Options, given_at, later_at, mapping_ends, mapping_options, options_at, settings_at, settings_of}
use Rattle.fc_reading_notes.specs.Lists.{first_byte_is}
use Rattle.fc_reading_requests.specs.Parts.{name_at, number_32, object_at, said}
use Rattle.fc_reading_requests.specs.declared.mappings.Settings.{Settings}
use Rattle.fc_reading.proofs.Exact.{Ends, Exact, Exact-map, Exact-then}
use Rattle.fc_reading.proofs.Numbers.{cases}
use Rattle.fc_reading.proofs.Words.{Ends-nothing, Exact-one_of, IsIndexOf, at_false, at_true, is_code, nothing}
use Rattle.fc_reading_notes.proofs.Below.{below_at}
use Rattle.fc_reading_requests.proofs.Exactness.{Exact-said}
use Rattle.fc_reading_requests.proofs.Names.{Exact-name, the_name}
use Rattle.fc_reading_requests.proofs.Objects.{Exact-number_32, Exact-object, number-of, some_object}

-- ---- words

pub Exact-words : (words : List (List ℕ)) → is_code words ≡ true → 0 < length words → Exact (IsIndexOf words) (λ i. get_or words i []) nothing (one_of_at words)
Exact-words [] code some = absurd (omega (arith, some))
Exact-words (word ∷ words) code some = Exact-one_of word words code

codes_behind : (first : ℕ) → first < 5 → is_code (drop first mapping_options) ≡ true
codes_behind = below_at (λ first. is_code (drop first mapping_options) ≡ true) 5 (((((tt, refl), refl), refl), refl), refl)

abbrev IsLater : ℕ → ℕ → Type 0
IsLater first i = (first ≤ i) × (i < 16)

abbrev option_text : ℕ → List ℕ
option_text i = get_or mapping_options i []

many_left : (first : ℕ) → length (drop first mapping_options) ≡ 16 - first
many_left first = length-drop first mapping_options

Exact-later : (first : ℕ) → first < 5 → Exact (IsLater first) option_text nothing (later_at first)
Exact-later first small =
    Exact-map {V = ℕ} {W = ℕ} (IsIndexOf (drop first mapping_options)) (λ i. get_or (drop first mapping_options) i []) nothing (one_of_at (drop first mapping_options))
    (IsLater first) option_text (λ i. i + first)
    (Exact-words (drop first mapping_options) (codes_behind first small) (omega (arith, many_left first, small)))
    (λ i inside. ((omega arith, omega (arith, inside, many_left first, small)), text_is i))
    (λ i later. (i - first, omega (arith, later.0, later.1, many_left first), omega (arith, later.0)))
  where
    text_is : (i : ℕ) → option_text (i + first) ≡ get_or (drop first mapping_options) i []
    text_is i =
        let order : i + first ≡ first + i = omega arith in
        ap option_text order ∙ sym (get_or-drop first mapping_options i [])

-- each begins with a space
abbrev is_space : ℕ → Bool
is_space byte = byte == 32

spaces : (i : ℕ) → i < 16 → (rest : List ℕ) → first_byte_is is_space (option_text i ++ rest) ≡ true
spaces =
    below_at (λ i. (rest : List ℕ) → first_byte_is is_space (option_text i ++ rest) ≡ true) 16 (
      (
        (
          (
            (
              (
                (
                  (
                    ((((((((tt, λ rest. refl), λ rest. refl), λ rest. refl), λ rest. refl), λ rest. refl), λ rest. refl), λ rest. refl), λ rest. refl),
                    λ rest. refl,
                  ),
                  λ rest. refl,
                ),
                λ rest. refl,
              ),
              λ rest. refl,
            ),
            λ rest. refl,
          ),
          λ rest. refl,
        ),
        λ rest. refl,
      ),
      λ rest. refl,
    )

space_ends : (joins : ℕ → Bool) → joins 32 ≡ false → (bytes : List ℕ) → first_byte_is is_space bytes ≡ true → Ends joins bytes
space_ends joins off [] e = tt
space_ends joins off (b ∷ bytes) e = ap joins (eqb-true b 32 e) ∙ off

-- ---- one option

abbrev Staged : {V : Type 0} → ℕ → (V → Type 0) → ℕ → Given V → Type 0
Staged number Fits next (Some v, n) = (next ≡ number) × (Fits v × IsLater (suc number) n)
Staged number Fits next (None, n) = (next == number ≡ false) × (n ≡ next)

abbrev staged_text : {V : Type 0} → (V → List ℕ) → Given V → List ℕ
staged_text text (Some v, n) = text v ++ option_text n
staged_text text (None, n) = []

Exact-given :
    {V : Type 0} (number : ℕ) → number < 4 → (Fits : V → Type 0) (text : V → List ℕ) (joins : ℕ → Bool) (read : List ℕ → Result (V × List ℕ) ℕ) →
    Exact Fits text joins read → joins 32 ≡ false → (next : ℕ) →
    Exact (Staged number Fits next) (staged_text text) nothing (given_at number read next)
Exact-given {V} number small Fits text joins read exact off next =
    elim (cases (next == number)) [
      | inl same ↦ subst IsExact (sym (at_true (next == number) here (said (None, next)) same)) (Exact-here same)
      | inr other ↦ subst IsExact (sym (at_false (next == number) here (said (None, next)) other)) (Exact-other other)
    ]
  where
    IsExact : (List ℕ → Result (Given V × List ℕ) ℕ) → Type 0
    IsExact r = Exact (Staged number Fits next) (staged_text text) nothing r

    here : List ℕ → Result (Given V × List ℕ) ℕ
    here = map_read (λ x. (Some x.0, x.1)) (then_read read (λ v. later_at (suc number)))

    from : next == number ≡ true → (x : Given V) → Staged number Fits next x → (y : V × ℕ) × (Fits y.0 × IsLater (suc number) y.1) × (◌≡◌ {A = Given V} (Some y.0, y.1) x)
    from same (Some v, n) fits = ((v, n), fits.1, refl)
    from same (None, n) fits = absurd (false≢true (sym fits.0 ∙ same))

    Exact-here : next == number ≡ true → IsExact here
    Exact-here same =
        Exact-map {V = V × ℕ} {W = Given V} (λ x. Fits x.0 × IsLater (suc number) x.1) (λ x. text x.0 ++ option_text x.1) nothing
        (then_read read (λ v. later_at (suc number))) (Staged number Fits next) (staged_text text) (λ x. (Some x.0, x.1))
        (
        Exact-then Fits text joins read (λ v. IsLater (suc number)) (λ v. option_text) nothing (λ v. later_at (suc number)) exact
        (λ v fits. Exact-later (suc number) (omega (arith, small)))
        (λ v fits. (suc number, (omega arith, omega (arith, small))))
        (λ v n rest fits later ends. space_ends joins off (option_text n ++ rest) (spaces n later.1 rest))
        )
        (λ x fits. ((eqb-true next number same, fits), refl))
        (from same)

    only : next == number ≡ false → (x : Given V) → Staged number Fits next x → ◌≡◌ {A = Given V} x (None, next)
    only other (Some v, n) fits = absurd (false≢true (sym other ∙ eq-eqb next number fits.0))
    only other (None, n) fits = ap (λ k. (None, k)) fits.1

    Exact-other : next == number ≡ false → IsExact (said (None, next))
    Exact-other other = Exact-said (None, next) (Staged number Fits next) (staged_text text) (other, refl) refl (only other)

-- ---- one option, and those behind it

-- what is read behind an option, by what was read before
record Behind {W : Type 0} (Fits : ℕ → W → Type 0) (text : W → List ℕ) (read : ℕ → List ℕ → Result (W × List ℕ) ℕ) : Type 0 where
  pub exact : (next : ℕ) → Exact (Fits next) text nothing (read next)
  pub some : (next : ℕ) → (w : W) × Fits next w

abbrev StagedWith : {V W : Type 0} → ℕ → (V → Type 0) → (ℕ → W → Type 0) → ℕ → Given V × W → Type 0
StagedWith number Fits FitsW next x = Staged number Fits next x.0 × FitsW x.0.1 x.1

abbrev with_text : {V W : Type 0} → (V → List ℕ) → (W → List ℕ) → Given V × W → List ℕ
with_text text textW x = staged_text text x.0 ++ textW x.1

abbrev with_at : {V W : Type 0} → ℕ → (List ℕ → Result (V × List ℕ) ℕ) → (ℕ → List ℕ → Result (W × List ℕ) ℕ) → ℕ → List ℕ → Result ((Given V × W) × List ℕ) ℕ
with_at number read readW next = then_read (given_at number read next) (λ v. readW v.1)

Behind-given :
    {V : Type 0} (number : ℕ) → number < 4 → (Fits : V → Type 0) (text : V → List ℕ) (joins : ℕ → Bool) (read : List ℕ → Result (V × List ℕ) ℕ) →
    Exact Fits text joins read → joins 32 ≡ false → (v : V) → Fits v →
    Behind (Staged number Fits) (staged_text text) (given_at number read)
Behind-given {V} number small Fits text joins read exact off v some = record {
  exact = Exact-given number small Fits text joins read exact off;
  some =
      λ next.
      elim (cases (next == number)) [
        | inl same ↦ ((Some v, suc number), (eqb-true next number same, (some, (omega arith, omega (arith, small)))))
        | inr other ↦ ((None, next), (other, refl))
      ];
}

Behind-more :
    {V W : Type 0} (number : ℕ) (Fits : V → Type 0) (text : V → List ℕ) (read : List ℕ → Result (V × List ℕ) ℕ)
    (FitsW : ℕ → W → Type 0) (textW : W → List ℕ) (readW : ℕ → List ℕ → Result (W × List ℕ) ℕ) →
    Behind (Staged number Fits) (staged_text text) (given_at number read) → Behind FitsW textW readW →
    Behind (StagedWith number Fits FitsW) (with_text text textW) (with_at number read readW)
Behind-more {V} {W} number Fits text read FitsW textW readW one more = record {
  exact =
      λ next.
      Exact-then {V = Given V} {W = W} (Staged number Fits next) (staged_text text) nothing (given_at number read next) (λ v. FitsW v.1) (λ v. textW) nothing (λ v. readW v.1)
      (one.exact next) (λ v fits. more.exact v.1) (λ v fits. more.some v.1) (λ v w rest fits fitsW ends. Ends-nothing (textW w ++ rest));
  some =
      λ next.
      let v = one.some next in
      let w = more.some v.0.1 in
      ((v.0, w.0), (v.1, w.1));
}

-- ---- all of them

is_zero : IsNumber 0
is_zero = number-of 0 (omega arith)

rate_behind : (number : ℕ) → number < 4 → Behind (Staged number IsNumber) (staged_text decimal) (given_at number number_32)
rate_behind number small = Behind-given number small IsNumber decimal is_decimal number_32 Exact-number_32 refl 0 is_zero

abbrev AreRates : ℕ → Given ℕ × Given ℕ → Type 0
AreRates = StagedWith 2 IsNumber (Staged 3 IsNumber)

abbrev rates_text : Given ℕ × Given ℕ → List ℕ
rates_text = with_text decimal (staged_text decimal)

rates_behind : Behind AreRates rates_text (with_at 2 number_32 (given_at 3 number_32))
rates_behind =
    Behind-more {V = ℕ} {W = Given ℕ} 2 IsNumber decimal number_32 (Staged 3 IsNumber) (staged_text decimal) (given_at 3 number_32)
    (rate_behind 2 (omega arith)) (rate_behind 3 (omega arith))

abbrev Grouped : Type 0
Grouped = Given Ref × (Given ℕ × Given ℕ)

abbrev AreGrouped : ℕ → Grouped → Type 0
AreGrouped = StagedWith 1 IsObject AreRates

abbrev grouped_text : Grouped → List ℕ
grouped_text = with_text ref_word rates_text

abbrev grouped_at : ℕ → List ℕ → Result (Grouped × List ℕ) ℕ
grouped_at = with_at 1 object_at (with_at 2 number_32 (given_at 3 number_32))

grouped_behind : Behind AreGrouped grouped_text grouped_at
grouped_behind =
    Behind-more {V = Ref} {W = Given ℕ × Given ℕ} 1 IsObject ref_word object_at AreRates rates_text (with_at 2 number_32 (given_at 3 number_32))
    (Behind-given 1 (omega arith) IsObject ref_word continues_name object_at Exact-object refl some_object.0 some_object.1) rates_behind

abbrev Named : Type 0
Named = Given (List ℕ) × Grouped

abbrev AreNamed : ℕ → Named → Type 0
AreNamed = StagedWith 0 IsName AreGrouped

abbrev named_text : Named → List ℕ
named_text = with_text the_name grouped_text

named_behind : Behind AreNamed named_text (with_at 0 name_at grouped_at)
named_behind =
    Behind-more {V = List ℕ} {W = Grouped} 0 IsName the_name name_at AreGrouped grouped_text grouped_at
    (Behind-given 0 (omega arith) IsName the_name continues_name name_at Exact-name refl (codes "a") refl) grouped_behind

abbrev AreOptions : Options → Type 0
AreOptions o = IsLater 0 o.0 × AreNamed o.0 o.1

abbrev options_text : Options → List ℕ
options_text o = option_text o.0 ++ named_text o.1

Exact-options : Exact AreOptions options_text nothing options_at
Exact-options =
    Exact-then {V = ℕ} {W = Named} (IsLater 0) option_text nothing (later_at 0) AreNamed (λ n. named_text) nothing (with_at 0 name_at grouped_at)
    (Exact-later 0 (omega arith)) (λ n fits. named_behind.exact n) (λ n fits. named_behind.some n) (λ n x rest fits more ends. Ends-nothing (named_text x ++ rest))

-- ---- what they set

-- an option with its value, where it was given
abbrev pub given_text : {V : Type 0} → List ℕ → (V → List ℕ) → Option V → List ℕ
given_text word text (Some v) = word ++ text v
given_text word text None = []

abbrev pub settings : Option (List ℕ) → Option Ref → Option ℕ → Option ℕ → ℕ → Settings
settings name group copy_rate clean_rate end = record { name = name; group = group; copy_rate = copy_rate; clean_rate = clean_rate; end = end }

abbrev pub settings_text : Settings → List ℕ
settings_text s =
    given_text (codes " -name ") the_name s.name
    ++ (given_text (codes " -consistgrp ") ref_word s.group ++ (given_text (codes " -copyrate ") decimal s.copy_rate ++ (given_text (codes " -cleanrate ") decimal s.clean_rate ++ get_or mapping_ends s.end [])))

abbrev pub AreSettings : Settings → Type 0
AreSettings s =
    IfSome s.name IsName × (IfSome s.group IsObject × (IfSome s.copy_rate IsNumber × (IfSome s.clean_rate IsNumber × (s.end < 12))))

stage_joined : (w t m r : List ℕ) → w ++ ((t ++ m) ++ r) ≡ (w ++ t) ++ (m ++ r)
stage_joined w t m r = simp (append_assoc)

stage_text :
    {V : Type 0} (number next : ℕ) (Fits : V → Type 0) (text : V → List ℕ) (x : Given V) (rest : List ℕ) → Staged number Fits next x →
    option_text next ++ (staged_text text x ++ rest) ≡ given_text (option_text number) text x.0 ++ (option_text x.1 ++ rest)
stage_text number next Fits text (Some v, n) rest fits =
    ap (λ k. option_text k ++ ((text v ++ option_text n) ++ rest)) fits.0 ∙ stage_joined (option_text number) (text v) (option_text n) rest
stage_text number next Fits text (None, n) rest fits = ap (λ k. option_text k ++ rest) (sym fits.1)

not_same : (a b : ℕ) → a == b ≡ false → b ≤ a → suc b ≤ a
not_same a b e h = grind (arith, nat_tests)

stage_fits : {V : Type 0} (number next : ℕ) (Fits : V → Type 0) (x : Given V) → IsLater number next → Staged number Fits next x → IfSome x.0 Fits × IsLater (suc number) x.1
stage_fits number next Fits (Some v, n) later fits = fits.1
stage_fits number next Fits (None, n) later fits =
    (tt, (omega (arith, not_same next number fits.0 later.0, fits.1), omega (arith, later.1, fits.1)))

end_text : (n : ℕ) → 4 ≤ n → option_text n ≡ get_or mapping_ends (n - 4) []
end_text n h =
    let back : n ≡ 4 + (n - 4) = omega (arith, h) in
    ap option_text back ∙ sym (get_or-drop 4 mapping_options (n - 4) [])

settings_to : (o : Options) → AreOptions o → AreSettings (settings_of o) × (settings_text (settings_of o) ≡ options_text o)
settings_to (n0, (n, (g, (c, l)))) fits =
    let f0 = stage_fits 0 n0 IsName n fits.0 fits.1.0 in
    let f1 = stage_fits 1 n.1 IsObject g f0.1 fits.1.1.0 in
    let f2 = stage_fits 2 g.1 IsNumber c f1.1 fits.1.1.1.0 in
    let f3 = stage_fits 3 c.1 IsNumber l f2.1 fits.1.1.1.1 in (
      (f0.0, (f1.0, (f2.0, (f3.0, omega (arith, f3.1.0, f3.1.1))))),
      sym
          (
          stage_text 0 n0 IsName the_name n (grouped_text (g, (c, l))) fits.1.0
          ∙ ap (λ t. given_text (codes " -name ") the_name n.0 ++ t)
          (
          stage_text 1 n.1 IsObject ref_word g (rates_text (c, l)) fits.1.1.0
          ∙ ap (λ t. given_text (codes " -consistgrp ") ref_word g.0 ++ t)
          (
          stage_text 2 g.1 IsNumber decimal c (staged_text decimal l) fits.1.1.1.0
          ∙ ap (λ t. given_text (codes " -copyrate ") decimal c.0 ++ t)
          (
          ap (λ t. option_text c.1 ++ t) (sym (append-nil (staged_text decimal l)))
          ∙ stage_text 3 c.1 IsNumber decimal l [] fits.1.1.1.1
          ∙ ap (λ t. given_text (codes " -cleanrate ") decimal l.0 ++ t) (append-nil (option_text l.1) ∙ end_text l.1 f3.1.0)
          )
          )
          )
          ),
    )

-- what is read before the option with this number
abbrev next_of : {V : Type 0} → ℕ → Option V → ℕ → ℕ
next_of number (Some v) later = number
next_of number None later = later

other_number : (a b : ℕ) → suc b ≤ a → a == b ≡ false
other_number a b h = grind (arith, nat_tests)

staged_of : {V : Type 0} (number : ℕ) (Fits : V → Type 0) (o : Option V) (later : ℕ) → IfSome o Fits → IsLater (suc number) later → Staged number Fits (next_of number o later) (o, later)
staged_of number Fits (Some v) later fits is = (refl, (fits, is))
staged_of number Fits None later fits is = (other_number later number is.0, refl)

next_later : {V : Type 0} (number : ℕ) (o : Option V) (later : ℕ) → IsLater (suc number) later → IsLater number (next_of number o later)
next_later number (Some v) later is = (omega arith, omega (arith, is.0, is.1))
next_later number None later is = (omega (arith, is.0), is.1)

settings_from : (s : Settings) → AreSettings s → (o : Options) × AreOptions o × (settings_of o ≡ s)
settings_from s fits =
    let n4 : ℕ = s.end + 4 in
    let l4 : IsLater 4 n4 = (omega arith, omega (arith, fits.1.1.1.1)) in
    let n3 = next_of 3 s.clean_rate n4 in
    let l3 = next_later 3 s.clean_rate n4 l4 in
    let n2 = next_of 2 s.copy_rate n3 in
    let l2 = next_later 2 s.copy_rate n3 l3 in
    let n1 = next_of 1 s.group n2 in
    let l1 = next_later 1 s.group n2 l2 in
    let n0 = next_of 0 s.name n1 in
    let l0 = next_later 0 s.name n1 l1 in
    let back : s.end + 4 - 4 ≡ s.end = omega arith in (
      (n0, ((s.name, n1), ((s.group, n2), ((s.copy_rate, n3), (s.clean_rate, n4))))),
      (
        l0,
        (
          staged_of 0 IsName s.name n1 fits.0 l1,
          (
            staged_of 1 IsObject s.group n2 fits.1.0 l2,
            (staged_of 2 IsNumber s.copy_rate n3 fits.1.1.0 l3, staged_of 3 IsNumber s.clean_rate n4 fits.1.1.1.0 l4),
          ),
        ),
      ),
      ap (λ (end : ℕ). settings s.name s.group s.copy_rate s.clean_rate end) back,
    )

pub Exact-settings : Exact AreSettings settings_text nothing settings_at
Exact-settings =
    Exact-map {V = Options} {W = Settings} AreOptions options_text nothing options_at AreSettings settings_text settings_of Exact-options settings_to settings_from

-- a byte of a name can't join them
pub settings_end : (s : Settings) (rest : List ℕ) → AreSettings s → Ends continues_name (settings_text s ++ rest)
settings_end s rest fits =
    let o = settings_from s fits in
    let same : settings_text s ≡ options_text o.0 = ap settings_text (sym o.2) ∙ (settings_to o.0 o.1).1 in
    space_ends continues_name refl (settings_text s ++ rest)
    (
    ap (λ t. first_byte_is is_space (t ++ rest)) same
    ∙ ap (first_byte_is is_space) (append_assoc (option_text o.0.0) (named_text o.0.1) rest)
    ∙ spaces o.0.0 o.1.0.1 (named_text o.0.1 ++ rest)
    )
