-- One of some words with what stands behind it is read exactly, where each of them is.
use Rattle.std.proofs.Common.{◌≡◌, ℕ, ◌<◌, true, List, [], ◌∷◌, ◌++◌, length, get_or, codes, decimal, Result, Ok, refl, sym, ap, subst, ◌∙◌, append_assoc, arith}
use Rattle.std.proofs.lemmas.List.{append-nil}
use Rattle.fc_reading.specs.Readers.{map_read, one_of_at, then_read}
use Rattle.fc_reading_notes.specs.Lines.{id_at}
use Rattle.fc_reading_notes.specs.Told.{IsId}
use Rattle.fc_reading_replies.specs.Begun.{begun_at, numbered, said, twice_numbered, two_at}
use Rattle.fc_reading.proofs.Exact.{Exact, Exact-map, Exact-then, bind_at_ok}
use Rattle.fc_reading.proofs.Fields.{Exact-and}
use Rattle.fc_reading.proofs.Words.{Ends-nothing, Exact-one_of, IsIndexOf, is_code, nothing}
use Rattle.fc_reading_notes.proofs.Below.{AllBelow, below_at}
use Rattle.fc_reading_notes.proofs.Choices.{Exact-alike, Exact-none, Is}
use Rattle.fc_reading_notes.proofs.Effects.{Exact-image, Image}
use Rattle.fc_reading_notes.proofs.LineLemmas.{line_end, spaced}

-- ---- the values that a reader can give

abbrev pub Given : {V : Type 0} → (List ℕ → Result (V × List ℕ) ℕ) → V → Type 0
Given read v = (bytes rest : List ℕ) × (read bytes ≡ Ok (v, rest))

pub given_of :
    {V : Type 0} (Fits : V → Type 0) (text : V → List ℕ) (read : List ℕ → Result (V × List ℕ) ℕ) →
    Exact Fits text nothing read → (v : V) → Fits v → Given read v
given_of Fits text read exact v fits = (text v ++ [], [], exact.again v [] fits tt)

pub of_given :
    {V : Type 0} (Fits : V → Type 0) (text : V → List ℕ) (read : List ℕ → Result (V × List ℕ) ℕ) →
    Exact Fits text nothing read → (v : V) → Given read v → Fits v
of_given Fits text read exact v given = (exact.takes given.0 v given.1 given.2).fits

-- exact for the values that fit is exact for those that it can give
pub Exact-given :
    {V : Type 0} (Fits : V → Type 0) (text : V → List ℕ) (read : List ℕ → Result (V × List ℕ) ℕ) →
    Exact Fits text nothing read → Exact (Given read) text nothing read
Exact-given Fits text read exact =
    Exact-alike Fits text read (Given read) text exact (λ v fits. (given_of Fits text read exact v fits, refl)) (of_given Fits text read exact)

-- ---- the words one by one

-- a word, and what is read behind it: values that fit, whose texts are the word and what stands behind
pub record Case {V : Type 0} (Fits : V → Type 0) (text behind : V → List ℕ) (word : List ℕ) (read : List ℕ → Result (V × List ℕ) ℕ) : Type 0 where
  pub exact : Exact (Given read) behind nothing read
  pub value : V
  pub given : Given read value
  pub to : (v : V) → Given read v → Fits v × (text v ≡ word ++ behind v)

-- all words but the first
abbrev pub later_words : List (List ℕ) → List (List ℕ)
later_words [] = []
later_words (word ∷ words) = words

pub Exact-begun :
    {V : Type 0} (Fits : V → Type 0) (text behind : V → List ℕ) (word : List ℕ) (words : List (List ℕ)) (read : ℕ → List ℕ → Result (V × List ℕ) ℕ) →
    is_code (word ∷ words) ≡ true →
    AllBelow (λ i. Case Fits text behind (get_or (word ∷ words) i []) (read i)) (length (word ∷ words)) →
    ((v : V) → Fits v → (i : ℕ) × IsIndexOf (word ∷ words) i × Given (read i) v) →
    Exact Fits text nothing (begun_at (word ∷ words) read)
Exact-begun {V} Fits text behind word words read code cases from =
    Exact-map {V = ℕ × V} {W = V} (λ x. IsIndexOf (word ∷ words) x.0 × Given (read x.0) x.1) (λ x. get_or (word ∷ words) x.0 [] ++ behind x.1) nothing
    (then_read (one_of_at (word ∷ words)) read) Fits text (λ x. x.1)
    (
    Exact-then (IsIndexOf (word ∷ words)) (λ i. get_or (word ∷ words) i []) nothing (one_of_at (word ∷ words)) (λ i. Given (read i)) (λ i. behind) nothing read
    (Exact-one_of word words code)
    (λ i inside. (case i inside).exact)
    (λ i inside. ((case i inside).value, (case i inside).given))
    (λ i v rest inside given ends. Ends-nothing (behind v ++ rest))
    )
    (λ x fits. (case x.0 fits.0).to x.1 fits.1)
    (λ v fits. let f = from v fits in ((f.0, v), (f.1, f.2), refl))
  where
    case : (i : ℕ) → i < length (word ∷ words) → Case Fits text behind (get_or (word ∷ words) i []) (read i)
    case i inside = below_at (λ k. Case Fits text behind (get_or (word ∷ words) k []) (read k)) (length (word ∷ words)) cases i inside

-- ---- what may stand behind a word

pub case_of :
    {V : Type 0} (Fits : V → Type 0) (text behind : V → List ℕ) (word : List ℕ) (Here : V → Type 0) (read : List ℕ → Result (V × List ℕ) ℕ) →
    Exact Here behind nothing read → (v : V) → Here v → ((v : V) → Here v → Fits v × (text v ≡ word ++ behind v)) →
    Case Fits text behind word read
case_of Fits text behind word Here read exact v here to = record {
  exact = Exact-given Here behind read exact;
  value = v;
  given = given_of Here behind read exact v here;
  to = λ w given. to w (of_given Here behind read exact w given);
}

-- values made of others
pub case_image :
    {R V : Type 0} (Fits : V → Type 0) (text behind : V → List ℕ) (word : List ℕ) (Raw : R → Type 0) (raw_text : R → List ℕ) (raw : List ℕ → Result (R × List ℕ) ℕ) (f : R → V) →
    Exact Raw raw_text nothing raw → (r : R) → Raw r → ((r : R) → Raw r → Fits (f r)) →
    ((r : R) → Raw r → behind (f r) ≡ raw_text r) →
    ((r : R) → Raw r → text (f r) ≡ word ++ raw_text r) →
    Case Fits text behind word (map_read f raw)
case_image {R} {V} Fits text behind word Raw raw_text raw f exact r is fits same whole =
    case_of Fits text behind word (Image Raw f) (map_read f raw)
    (Exact-image {V = R} {W = V} Raw raw_text nothing raw behind f exact same)
    (f r) (r, is, refl)
    (λ v image. to v image.0 image.1 image.2)
  where
    to : (v : V) (s : R) → Raw s → f s ≡ v → Fits v × (text v ≡ word ++ behind v)
    to v s at e =
        let P : V → Type 0 = λ w. Fits w × (text w ≡ word ++ behind w) in
        let here : P (f s) = (fits s at, whole s at ∙ ap (λ t. word ++ t) (sym (same s at))) in
        subst P e here

pub given_image :
    {R V : Type 0} (Raw : R → Type 0) (raw_text : R → List ℕ) (raw : List ℕ → Result (R × List ℕ) ℕ) (f : R → V) →
    Exact Raw raw_text nothing raw → (r : R) → Raw r → Given (map_read f raw) (f r)
given_image {R} {V} Raw raw_text raw f exact r is =
    let given = given_of Raw raw_text raw exact r is in
    (given.0, given.1, bind_at_ok (raw given.0) (λ x. Ok (f x.0, x.1)) (r, given.1) given.2)

-- nothing behind the word
abbrev pub SaidCases : {V : Type 0} → (V → Type 0) → (V → List ℕ) → (V → List ℕ) → Type 0
SaidCases {V} Fits text behind = (word : List ℕ) (v : V) → Fits v → behind v ≡ [] → text v ≡ word → Case Fits text behind word (said v)

pub case_said : {V : Type 0} (Fits : V → Type 0) (text behind : V → List ℕ) → SaidCases Fits text behind
case_said {V} Fits text behind word v fits none whole =
    case_of Fits text behind word (Is v) (said v) exact v refl
    (λ w is. to w is)
  where
    exact : Exact (Is v) behind nothing (said v)
    exact = Exact-alike (Is v) (λ w. []) (said v) (Is v) behind (Exact-none v) (λ w is. (is, ap behind is ∙ none)) (λ w is. is)

    to : (w : V) → Is v w → Fits w × (text w ≡ word ++ behind w)
    to w is =
        let P : V → Type 0 = λ x. Fits x × (text x ≡ word ++ behind x) in
        let here : P v = (fits, whole ∙ sym (append-nil word) ∙ ap (λ t. word ++ t) (sym none)) in
        subst P (sym is) here

pub given_said : {V : Type 0} (v : V) → Given (said v) v
given_said v = ([], [], refl)

-- a number behind the word
abbrev pub NumberedCases : {V : Type 0} → (V → Type 0) → (V → List ℕ) → (V → List ℕ) → Type 0
NumberedCases {V} Fits text behind =
    (word : List ℕ) (f : ℕ → V) →
    ((n : ℕ) → IsId n → Fits (f n)) →
    ((n : ℕ) → behind (f n) ≡ decimal n ++ codes "\n") →
    ((n : ℕ) → text (f n) ≡ (word ++ decimal n) ++ codes "\n") →
    Case Fits text behind word (numbered f)

pub case_numbered : {V : Type 0} (Fits : V → Type 0) (text behind : V → List ℕ) → NumberedCases Fits text behind
case_numbered {V} Fits text behind word f fits same whole =
    case_image {R = ℕ} {V = V} Fits text behind word IsId (λ n. decimal n ++ codes "\n") (id_at (codes "\n")) f line_end 0 (omega arith) fits
    (λ n is. same n) (λ n is. whole n ∙ append_assoc word (decimal n) (codes "\n"))

pub given_numbered : {V : Type 0} (f : ℕ → V) (n : ℕ) → IsId n → Given (numbered f) (f n)
given_numbered {V} f n is = given_image {R = ℕ} {V = V} IsId (λ m. decimal m ++ codes "\n") (id_at (codes "\n")) f line_end n is

-- two numbers behind it
abbrev pub AreTwo : ℕ × ℕ → Type 0
AreTwo x = IsId x.0 × IsId x.1

abbrev pub two_text : ℕ × ℕ → List ℕ
two_text x = (decimal x.0 ++ codes " ") ++ (decimal x.1 ++ codes "\n")

pub Exact-two : Exact AreTwo two_text nothing two_at
Exact-two =
    Exact-and {V = ℕ} {W = ℕ} IsId (λ n. decimal n ++ codes " ") (id_at (codes " ")) IsId (λ n. decimal n ++ codes "\n") (id_at (codes "\n"))
    spaced line_end 0 (omega arith)

two_joined : (w a s b n : List ℕ) → (w ++ (a ++ s ++ b)) ++ n ≡ w ++ ((a ++ s) ++ (b ++ n))
two_joined w a s b n = simp (append_assoc)

abbrev pub TwiceCases : {V : Type 0} → (V → Type 0) → (V → List ℕ) → (V → List ℕ) → Type 0
TwiceCases {V} Fits text behind =
    (word : List ℕ) (f : ℕ × ℕ → V) →
    ((x : ℕ × ℕ) → AreTwo x → Fits (f x)) →
    ((x : ℕ × ℕ) → behind (f x) ≡ two_text x) →
    ((x : ℕ × ℕ) → text (f x) ≡ (word ++ (decimal x.0 ++ codes " " ++ decimal x.1)) ++ codes "\n") →
    Case Fits text behind word (twice_numbered f)

pub case_twice : {V : Type 0} (Fits : V → Type 0) (text behind : V → List ℕ) → TwiceCases Fits text behind
case_twice {V} Fits text behind word f fits same whole =
    case_image {R = ℕ × ℕ} {V = V} Fits text behind word AreTwo two_text two_at f Exact-two (0, 0) (omega arith, omega arith) fits
    (λ x is. same x) (λ x is. whole x ∙ two_joined word (decimal x.0) (codes " ") (decimal x.1) (codes "\n"))

pub given_twice : {V : Type 0} (f : ℕ × ℕ → V) (x : ℕ × ℕ) → AreTwo x → Given (twice_numbered f) (f x)
given_twice {V} f x is = given_image {R = ℕ × ℕ} {V = V} AreTwo two_text two_at f Exact-two x is
