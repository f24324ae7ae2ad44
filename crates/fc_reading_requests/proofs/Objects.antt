-- Objects, bytes and delimiters are read exactly.
use Rattle.std.proofs.Common.{◌≡◌, ℕ, ◌+◌, ◌*◌, ◌==◌, ◌/◌, ◌%◌, ◌^◌, ◌<◌, ◌≤◌, Bool, true, false, ◌&&◌, ◌||◌, nat_le, List, [], ◌∷◌, ◌++◌, length, get_or, codes, decimal, Result, refl, ap, subst, ◌∙◌, append_assoc, arith, inl, inr}
use Rattle.std.specs.Fmt.{digit_glyph}
use Rattle.std.specs.List.{list_all}
use Rattle.std.proofs.lemmas.Bool.{false≢true}
use Rattle.std.proofs.lemmas.Bool.Decides.{nat_tests}
use Rattle.std.proofs.lemmas.Fmt.{decimal_by_steps}
use Rattle.fc_base.specs.CommandText.{byte_word, delim_word, ref_word}
use Rattle.fc_base.specs.Names.{continues_name, starts_name}
use Rattle.fc_base.specs.declared.name.Ref.{Ref}
use Rattle.fc_base.specs.declared.name.Ref.TheVariants.{Id, Name}
use Rattle.fc_words.specs.Canonical.{IsDelim, IsName, IsNumber, IsObject}
use Rattle.fc_reading.specs.Readers.{is_decimal, map_read, one_of_at, then_read}
use Rattle.fc_reading_notes.specs.Lines.{id_at}
use Rattle.fc_reading_notes.specs.Lists.{first_byte_is}
use Rattle.fc_reading_requests.specs.Parts.{arrow, byte_at, closed, delim_at, ended_by, hex_digits, is_dash, is_delim, name_at, number_32, object_and, object_at, or_object}
use Rattle.fc_reading.proofs.Exact.{Ends, Exact, Exact-map}
use Rattle.fc_reading.proofs.Fields.{Exact-and}
use Rattle.fc_reading.proofs.Numbers.{Exact-number, IsUpTo}
use Rattle.fc_reading.proofs.Words.{Ends-nothing, Exact-one_of, IsIndexOf, both, nothing}
use Rattle.fc_reading_notes.proofs.Choices.{Either, Exact-choice, Exact-recast, small}
use Rattle.fc_reading_notes.proofs.Below.{below_at}
use Rattle.fc_reading_notes.proofs.Effects.{Exact-image, Image}
use Rattle.fc_reading_notes.proofs.LineLemmas.{Exact-id}
use Rattle.fc_reading_requests.proofs.Exactness.{Exact-byte_of_kind, Exact-closed, Exact-ended, IsOfKind, alone}
use Rattle.fc_reading_requests.proofs.Names.{Exact-name, the_name}

-- ---- numbers

is_2_32 : 2 ^ 32 ≡ 4294967296
is_2_32 = refl

pub number-of : (n : ℕ) → n ≤ 4294967295 → IsNumber n
number-of n h = omega (arith, is_2_32, h)

pub of-number : (n : ℕ) → IsNumber n → n ≤ 4294967295
of-number n h = omega (arith, is_2_32, h)

pub Exact-number_32 : Exact IsNumber decimal is_decimal number_32
Exact-number_32 =
    Exact-recast (IsUpTo 4294967295) IsNumber decimal decimal is_decimal number_32 (Exact-number 4294967295 small)
    (λ n fits. (number-of n fits, refl)) of-number

pub Exact-field_32 : (word : List ℕ) → ((rest : List ℕ) → Ends is_decimal (word ++ rest)) → Exact IsNumber (λ n. decimal n ++ word) nothing (id_at word)
Exact-field_32 word apart =
    Exact-recast (IsUpTo 4294967295) IsNumber (λ n. decimal n ++ word) (λ n. decimal n ++ word) nothing (id_at word) (Exact-id word apart)
    (λ n fits. (number-of n fits, refl)) of-number

-- ---- objects

second_true : (a b c d : Bool) → b ≡ true → (a || b || c || d) ≡ true
second_true true b c d e = refl
second_true false b c d e = rw e refl

digit_joins : (b : ℕ) → is_decimal b ≡ true → continues_name b ≡ true
digit_joins b digit = second_true (starts_name b) (is_decimal b) (b == 45) (b == 46) digit

begins-first : (test : ℕ → Bool) (other : ℕ → Bool) → ((b : ℕ) → test b ≡ true → other b ≡ false) → (bytes : List ℕ) → first_byte_is test bytes ≡ true → first_byte_is other bytes ≡ false
begins-first test other apart [] e = refl
begins-first test other apart (b ∷ bytes) e = apart b e

decimal-begins : (n : ℕ) (rest : List ℕ) → IsNumber n → first_byte_is is_decimal (decimal n ++ rest) ≡ true
decimal-begins n rest fits = decimal_by_steps (λ m ds. (rest : List ℕ) → first_byte_is is_decimal (ds ++ rest) ≡ true) one more n (omega (arith, is_2_32, is_2_64, fits)) rest
  where
    is_2_64 : 2 ^ 64 ≡ 18446744073709551616
    is_2_64 = refl

    one : (m : ℕ) → m < 10 → (rest : List ℕ) → first_byte_is is_decimal (((48 + m) ∷ []) ++ rest) ≡ true
    one m digit rest = is_digit m digit
      where
        is_digit : (m : ℕ) → m < 10 → is_decimal (48 + m) ≡ true
        is_digit m digit = grind (arith, nat_tests)

    more : (m : ℕ) (ds : List ℕ) → 10 ≤ m → ((rest : List ℕ) → first_byte_is is_decimal (ds ++ rest) ≡ true) → (rest : List ℕ) → first_byte_is is_decimal ((ds ++ ((48 + m % 10) ∷ [])) ++ rest) ≡ true
    more m ds large before rest = ap (first_byte_is is_decimal) (append_assoc ds ((48 + m % 10) ∷ []) rest) ∙ before ((48 + m % 10) ∷ rest)

name-begins : (name rest : List ℕ) → IsName name → first_byte_is starts_name (name ++ rest) ≡ true
name-begins [] rest is = absurd (false≢true is)
name-begins (first ∷ word) rest is =
    (both (starts_name first) (list_all continues_name word) (both (nat_le (length word) 62) (starts_name first && list_all continues_name word) is).1).0

no_digit : (b : ℕ) → starts_name b ≡ true → is_decimal b ≡ false
no_digit b starts = grind (arith, nat_tests)

name_no_dash : (b : ℕ) → starts_name b ≡ true → is_dash b ≡ false
name_no_dash b starts = grind (arith, nat_tests)

digit_no_dash : (b : ℕ) → is_decimal b ≡ true → is_dash b ≡ false
digit_no_dash b digit = grind (arith, nat_tests)

pub object-no_dash : (o : Ref) (rest : List ℕ) → IsObject o → first_byte_is is_dash (ref_word o ++ rest) ≡ false
object-no_dash (Id id) rest fits = begins-first is_decimal is_dash digit_no_dash (decimal id ++ rest) (decimal-begins id rest fits)
object-no_dash (Name name) rest fits = begins-first starts_name is_dash name_no_dash (name ++ rest) (name-begins name rest fits)

id_begins : (o : Ref) (rest : List ℕ) → Image IsNumber Id o → first_byte_is is_decimal (ref_word o ++ rest) ≡ true
id_begins o rest image =
    subst (λ (r : Ref). first_byte_is is_decimal (ref_word r ++ rest) ≡ true) image.2 (decimal-begins image.0 rest image.1)

name_begins : (o : Ref) (rest : List ℕ) → Image IsName Name o → first_byte_is is_decimal (ref_word o ++ rest) ≡ false
name_begins o rest image =
    subst (λ (r : Ref). first_byte_is is_decimal (ref_word r ++ rest) ≡ false) image.2
    (begins-first starts_name is_decimal no_digit (image.0 ++ rest) (name-begins image.0 rest image.1))

object_to : (o : Ref) → Either (Image IsNumber Id) (Image IsName Name) o → IsObject o × (ref_word o ≡ ref_word o)
object_to o (inl image) = (subst IsObject image.2 image.1, refl)
object_to o (inr image) = (subst IsObject image.2 image.1, refl)

object_from : (o : Ref) → IsObject o → Either (Image IsNumber Id) (Image IsName Name) o
object_from (Id id) fits = inl (id, fits, refl)
object_from (Name name) fits = inr (name, fits, refl)

pub Exact-object : Exact IsObject ref_word continues_name object_at
Exact-object =
    Exact-recast (Either (Image IsNumber Id) (Image IsName Name)) IsObject ref_word ref_word continues_name object_at
    (
    Exact-choice {V = Ref} is_decimal (Image IsNumber Id) (Image IsName Name) ref_word continues_name (map_read Id (closed continues_name number_32)) (map_read Name name_at)
    (
    Exact-image {V = ℕ} {W = Ref} IsNumber decimal continues_name (closed continues_name number_32) ref_word Id
    (Exact-closed IsNumber decimal is_decimal continues_name number_32 Exact-number_32 digit_joins) (λ n fits. refl)
    )
    (Exact-image {V = List ℕ} {W = Ref} IsName the_name continues_name name_at ref_word Name Exact-name (λ n fits. refl))
    id_begins name_begins
    )
    object_to object_from

pub Exact-object_and : (word : List ℕ) → ((rest : List ℕ) → Ends continues_name (word ++ rest)) → Exact IsObject (λ o. ref_word o ++ word) nothing (object_and word)
Exact-object_and word apart = Exact-ended IsObject ref_word continues_name object_at word Exact-object apart

-- an object and the arrow
pub Exact-last : Exact IsObject (λ o. ref_word o ++ arrow) nothing (object_and arrow)
Exact-last = Exact-object_and arrow (λ rest. refl)

pub Exact-name_and : (word : List ℕ) → ((rest : List ℕ) → Ends continues_name (word ++ rest)) → Exact IsName (λ n. n ++ word) nothing (ended_by name_at word)
Exact-name_and word apart = Exact-ended IsName the_name continues_name name_at word Exact-name apart

pub some_object : (o : Ref) × IsObject o
some_object = (Id 0, number-of 0 (omega arith))

-- what a dash begins, or an object
pub Exact-or_object :
    {V : Type 0} (make : Ref → V) (Dashed : V → Type 0) (text : V → List ℕ) (dashed : List ℕ → Result (V × List ℕ) ℕ) →
    Exact Dashed text nothing dashed →
    ((v : V) (rest : List ℕ) → Dashed v → first_byte_is is_dash (text v ++ rest) ≡ true) →
    ((o : Ref) → text (make o) ≡ ref_word o ++ arrow) →
    Exact (Either Dashed (Image IsObject make)) text nothing (or_object make dashed)
Exact-or_object {V} make Dashed text dashed exact dash same =
    Exact-choice is_dash Dashed (Image IsObject make) text nothing dashed (map_read make (object_and arrow)) exact
    (Exact-image {V = Ref} {W = V} IsObject (λ o. ref_word o ++ arrow) nothing (object_and arrow) text make Exact-last (λ o fits. same o))
    dash
    (
    λ v rest image.
    subst (λ (w : V). first_byte_is is_dash (text w ++ rest) ≡ false) image.2
    (
    ap (λ t. first_byte_is is_dash (t ++ rest)) (same image.0)
    ∙ ap (first_byte_is is_dash) (append_assoc (ref_word image.0) arrow rest)
    ∙ object-no_dash image.0 (arrow ++ rest) image.1
    )
    )

-- ---- bytes

abbrev pub IsByte : ℕ → Type 0
IsByte byte = byte < 256

glyph-is : (d : ℕ) → d < 16 → digit_glyph false d ∷ [] ≡ get_or hex_digits d []
glyph-is =
    below_at (λ d. digit_glyph false d ∷ [] ≡ get_or hex_digits d []) 16
    ((((((((((((((((tt, refl), refl), refl), refl), refl), refl), refl), refl), refl), refl), refl), refl), refl), refl), refl), refl)

Exact-hex : Exact (IsIndexOf hex_digits) (λ d. get_or hex_digits d []) nothing (one_of_at hex_digits)
Exact-hex =
    Exact-one_of (codes "0")
    (
    codes "1" ∷ codes "2" ∷ codes "3" ∷ codes "4" ∷ codes "5" ∷ codes "6" ∷ codes "7" ∷ codes "8" ∷ codes "9" ∷ codes "a" ∷ codes "b"
    ∷ codes "c" ∷ codes "d" ∷ codes "e" ∷ codes "f" ∷ []
    )
    refl

byte_to : (x : ℕ × ℕ) → IsIndexOf hex_digits x.0 × IsIndexOf hex_digits x.1 → IsByte (16 * x.0 + x.1) × (byte_word (16 * x.0 + x.1) ≡ get_or hex_digits x.0 [] ++ get_or hex_digits x.1 [])
byte_to (h, l) fits =
    let high : (16 * h + l) / 16 ≡ h = omega (arith, fits.1) in
    let low : (16 * h + l) % 16 ≡ l = omega (arith, fits.1) in (
      omega (arith, fits.0, fits.1),
      ap (λ d. digit_glyph false d ∷ digit_glyph false ((16 * h + l) % 16) ∷ []) high
          ∙ ap (λ d. digit_glyph false h ∷ digit_glyph false d ∷ []) low
          ∙ ap (λ t. (digit_glyph false h ∷ []) ++ t) (glyph-is l fits.1)
          ∙ ap (λ t. t ++ get_or hex_digits l []) (glyph-is h fits.0),
    )

byte_from : (byte : ℕ) → IsByte byte → (x : ℕ × ℕ) × (IsIndexOf hex_digits x.0 × IsIndexOf hex_digits x.1) × (16 * x.0 + x.1 ≡ byte)
byte_from byte fits = ((byte / 16, byte % 16), (omega (arith, fits), omega arith), omega arith)

pub Exact-byte : Exact IsByte byte_word nothing byte_at
Exact-byte =
    Exact-map {V = ℕ × ℕ} {W = ℕ} (λ x. IsIndexOf hex_digits x.0 × IsIndexOf hex_digits x.1) (λ x. get_or hex_digits x.0 [] ++ get_or hex_digits x.1 []) nothing
    (then_read (one_of_at hex_digits) (λ high. one_of_at hex_digits)) IsByte byte_word (λ x. 16 * x.0 + x.1)
    (
    Exact-and {V = ℕ} {W = ℕ} (IsIndexOf hex_digits) (λ d. get_or hex_digits d []) (one_of_at hex_digits) (IsIndexOf hex_digits) (λ d. get_or hex_digits d []) (one_of_at hex_digits)
    Exact-hex Exact-hex 0 (omega arith)
    )
    byte_to byte_from

-- ---- delimiters

of_le : (a b : ℕ) → nat_le a b ≡ true → a ≤ b
of_le a b h = grind (arith, nat_tests)

delim_to : (d : ℕ) → IsOfKind is_delim d → IsDelim d × (alone d ≡ delim_word d)
delim_to d is =
    let parts = both (nat_le 33 d) (nat_le d 126) is in
    ((of_le 33 d parts.0, of_le d 126 parts.1), refl)

delim_from : (d : ℕ) → IsDelim d → IsOfKind is_delim d
delim_from d fits = within d fits.0 fits.1
  where
    within : (d : ℕ) → 33 ≤ d → d ≤ 126 → nat_le 33 d && nat_le d 126 ≡ true
    within d low high = grind (arith, nat_tests)

pub Exact-delim : Exact IsDelim delim_word nothing delim_at
Exact-delim =
    Exact-recast (IsOfKind is_delim) IsDelim alone delim_word nothing delim_at (Exact-byte_of_kind is_delim 58 refl) delim_to delim_from

pub Exact-delim_and : (word : List ℕ) → Exact IsDelim (λ d. delim_word d ++ word) nothing (ended_by delim_at word)
Exact-delim_and word = Exact-ended IsDelim delim_word nothing delim_at word Exact-delim (λ rest. Ends-nothing (word ++ rest))
