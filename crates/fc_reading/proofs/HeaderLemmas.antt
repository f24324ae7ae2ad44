-- The first line of a trace is read exactly.
use Rattle.std.proofs.Common.{◌≡◌, ℕ, zero, suc, ◌-◌, ◌^◌, ◌<◌, ◌≤◌, List, [], ◌∷◌, ◌++◌, length, take, codes, decimal, get_or, Result, Ok, Err, refl, ap, ◌∙◌, append_assoc, length-append, arith, lit<}
use Rattle.std.specs.Fmt.{digits}
use Rattle.std.proofs.lemmas.List.{append-nil}
use Rattle.fc_base.specs.declared.size.GrainSize.{GrainSize}
use Rattle.fc_base.specs.declared.size.GrainSize.TheVariants.{K64, K256}
use Rattle.fc_trace.specs.Trace.{header_text}
use Rattle.fc_trace.specs.declared.header.LaneDisks.{LaneDisks}
use Rattle.fc_reading.specs.Header.{AreFour, IsHeader, beginnings, header_at, header_of}
use Rattle.fc_reading.specs.Readers.{field_at, four_at, is_decimal, one_of_at, then_read}
use Rattle.fc_reading.specs.Stops.{StopsAt}
use Rattle.fc_trace.specs.declared.header.Header.{Header}
use Rattle.fc_reading.proofs.Exact.{Ends, Exact, Exact-map}
use Rattle.fc_reading.proofs.Fields.{Exact-and, Exact-field}
use Rattle.fc_reading.proofs.StopsLemmas.{Exact-stops_at, take-front}
use Rattle.fc_reading.proofs.Words.{Exact-one_of, IsIndexOf, nothing}

abbrev pub Four : Type 0
Four = ℕ × (ℕ × (ℕ × ℕ))

abbrev pub IsCount : ℕ → Type 0
IsCount n = n ≤ 4294967295

abbrev pub AreCounts : Four → Type 0
AreCounts x = IsCount x.0 × (IsCount x.1.0 × (IsCount x.1.1.0 × IsCount x.1.1.1))

abbrev pub four_text : List ℕ → Four → List ℕ
four_text last x = (decimal x.0 ++ 32 ∷ []) ++ ((decimal x.1.0 ++ 32 ∷ []) ++ ((decimal x.1.1.0 ++ 32 ∷ []) ++ (decimal x.1.1.1 ++ last)))

small : 4294967295 < 2 ^ 64
small = lit< tt

spaced_field : Exact IsCount (λ n. decimal n ++ 32 ∷ []) nothing (field_at 4294967295 (32 ∷ []))
spaced_field = Exact-field 4294967295 small (32 ∷ []) (λ rest. refl)

pub Exact-four : (last : List ℕ) → ((rest : List ℕ) → Ends is_decimal (last ++ rest)) → Exact AreCounts (four_text last) nothing (four_at last)
Exact-four last apart =
    let field : Exact IsCount (λ n. decimal n ++ last) nothing (field_at 4294967295 last) = Exact-field 4294967295 small last apart in
    let two = Exact-and IsCount (λ n. decimal n ++ 32 ∷ []) (field_at 4294967295 (32 ∷ [])) IsCount (λ n. decimal n ++ last) (field_at 4294967295 last) spaced_field field 0 (omega arith) in
    let three = Exact-and {W = ℕ × ℕ} IsCount (λ n. decimal n ++ 32 ∷ []) (field_at 4294967295 (32 ∷ [])) (λ x. IsCount x.0 × IsCount x.1) (λ x. (decimal x.0 ++ 32 ∷ []) ++ (decimal x.1 ++ last)) (then_read (field_at 4294967295 (32 ∷ [])) (λ n. field_at 4294967295 last)) spaced_field two (0, 0) (omega arith, omega arith) in
    Exact-and {W = ℕ × (ℕ × ℕ)} IsCount (λ n. decimal n ++ 32 ∷ []) (field_at 4294967295 (32 ∷ []))
    (λ x. IsCount x.0 × (IsCount x.1.0 × IsCount x.1.1)) (λ x. (decimal x.0 ++ 32 ∷ []) ++ ((decimal x.1.0 ++ 32 ∷ []) ++ (decimal x.1.1 ++ last)))
    (then_read (field_at 4294967295 (32 ∷ [])) (λ m. then_read (field_at 4294967295 (32 ∷ [])) (λ n. field_at 4294967295 last)))
    spaced_field three (0, (0, 0)) (omega arith, (omega arith, omega arith))

abbrev pub Line : Type 0
Line = ℕ × (Four × Four)

abbrev pub IsLine : Line → Type 0
IsLine x = IsIndexOf beginnings x.0 × (AreCounts x.1.0 × AreCounts x.1.1)

abbrev pub line_text : Line → List ℕ
line_text x = get_or beginnings x.0 [] ++ (four_text (codes " thin ") x.1.0 ++ four_text (codes "\n") x.1.1)

abbrev pub line_at : List ℕ → Result (Line × List ℕ) ℕ
line_at = then_read (one_of_at beginnings) (λ grain. then_read (four_at (codes " thin ")) (λ flat. four_at (codes "\n")))

Exact-line : Exact IsLine line_text nothing line_at
Exact-line =
    let counts = Exact-and {V = Four} {W = Four} AreCounts (four_text (codes " thin ")) (four_at (codes " thin ")) AreCounts (four_text (codes "\n")) (four_at (codes "\n"))
    (Exact-four (codes " thin ") (λ rest. refl)) (Exact-four (codes "\n") (λ rest. refl)) (0, (0, (0, 0))) (omega arith, (omega arith, (omega arith, omega arith))) in
    Exact-and {V = ℕ} {W = Four × Four} (IsIndexOf beginnings) (λ i. get_or beginnings i []) (one_of_at beginnings)
    (λ x. AreCounts x.0 × AreCounts x.1) (λ x. four_text (codes " thin ") x.0 ++ four_text (codes "\n") x.1)
    (then_read (four_at (codes " thin ")) (λ flat. four_at (codes "\n")))
    (Exact-one_of (codes "trace 64 4 flat ") (codes "trace 256 4 flat " ∷ []) refl) counts
    ((0, (0, (0, 0))), (0, (0, (0, 0)))) ((omega arith, (omega arith, (omega arith, omega arith))), (omega arith, (omega arith, (omega arith, omega arith))))

-- the words of the line around its numbers
joined :
    (p f t n s A B C D E F G H : List ℕ) →
    p ++ f ++ ((s ++ A) ++ ((s ++ B) ++ ((s ++ C) ++ ((s ++ D) ++ [])))) ++ t
    ++ ((s ++ E) ++ ((s ++ F) ++ ((s ++ G) ++ ((s ++ H) ++ [])))) ++ n
    ≡ (p ++ f ++ s)
    ++ (((A ++ s) ++ ((B ++ s) ++ ((C ++ s) ++ (D ++ (t ++ s)))))
    ++ ((E ++ s) ++ ((F ++ s) ++ ((G ++ s) ++ (H ++ n)))))
joined p f t n s A B C D E F G H = simp (append_assoc, append-nil)

beginning_64 : codes "trace " ++ decimal 64 ++ codes " " ++ decimal 4 ++ codes " flat" ++ 32 ∷ [] ≡ codes "trace 64 4 flat "
unfolding digits
beginning_64 = refl

beginning_256 : codes "trace " ++ decimal 256 ++ codes " " ++ decimal 4 ++ codes " flat" ++ 32 ∷ [] ≡ codes "trace 256 4 flat "
unfolding digits
beginning_256 = refl

abbrev pub header_is : Header → List ℕ
header_is header = header_text header.grain header.lanes

text_is : (x : Line) → IsLine x → header_is (header_of x) ≡ line_text x
text_is (zero, (flat, thin)) fits =
    joined (codes "trace " ++ decimal 64 ++ codes " " ++ decimal 4) (codes " flat") (codes " thin") (codes "\n") (32 ∷ []) (decimal flat.0) (decimal flat.1.0) (decimal flat.1.1.0) (decimal flat.1.1.1)
    (decimal thin.0) (decimal thin.1.0) (decimal thin.1.1.0) (decimal thin.1.1.1)
    ∙ ap (λ t. t ++ (four_text (codes " thin ") flat ++ four_text (codes "\n") thin)) beginning_64
text_is (suc zero, (flat, thin)) fits =
    joined (codes "trace " ++ decimal 256 ++ codes " " ++ decimal 4) (codes " flat") (codes " thin") (codes "\n") (32 ∷ []) (decimal flat.0) (decimal flat.1.0) (decimal flat.1.1.0) (decimal flat.1.1.1)
    (decimal thin.0) (decimal thin.1.0) (decimal thin.1.1.0) (decimal thin.1.1.1)
    ∙ ap (λ t. t ++ (four_text (codes " thin ") flat ++ four_text (codes "\n") thin)) beginning_256
text_is (suc (suc n), counts) fits = absurd (omega (arith, fits.0))

abbrev pub IsFour : Header → Type 0
IsFour header = AreFour header.lanes

are_four : (x : Line) → IsLine x → IsFour (header_of x)
are_four x fits = (
  (fits.1.0.0, fits.1.1.0),
  (fits.1.0.1.0, fits.1.1.1.0),
  (fits.1.0.1.1.0, fits.1.1.1.1.0),
  (fits.1.0.1.1.1, fits.1.1.1.1.1),
)

back_from : (grain : GrainSize) (lanes : List LaneDisks) → AreFour lanes → (x : Line) × IsLine x × (header_of x ≡ record { grain = grain; lanes = lanes })
back_from grain [] f = absurd f
back_from grain (a ∷ []) f = absurd f
back_from grain (a ∷ b ∷ []) f = absurd f
back_from grain (a ∷ b ∷ c ∷ []) f = absurd f
back_from K64 (a ∷ b ∷ c ∷ d ∷ []) f = (
  (0, ((a.flat, (b.flat, (c.flat, d.flat))), (a.thin, (b.thin, (c.thin, d.thin))))),
  (omega arith, ((f.0.0, (f.1.0, (f.2.0, f.3.0))), (f.0.1, (f.1.1, (f.2.1, f.3.1))))),
  refl,
)
back_from K256 (a ∷ b ∷ c ∷ d ∷ []) f = (
  (1, ((a.flat, (b.flat, (c.flat, d.flat))), (a.thin, (b.thin, (c.thin, d.thin))))),
  (omega arith, ((f.0.0, (f.1.0, (f.2.0, f.3.0))), (f.0.1, (f.1.1, (f.2.1, f.3.1))))),
  refl,
)
back_from grain (a ∷ b ∷ c ∷ d ∷ e ∷ lanes) f = absurd f

pub Exact-header : Exact IsFour header_is nothing header_at
Exact-header =
    Exact-map {V = Line} {W = Header} IsLine line_text nothing line_at IsFour header_is header_of Exact-line
    (λ x fits. (are_four x fits, text_is x fits))
    (λ header fits. back_from header.grain header.lanes fits)

-- where it stops, no first line goes on
pub header-stops : (bytes : List ℕ) (left : ℕ) → header_at bytes ≡ Err left → StopsAt IsHeader bytes (length bytes - left)
header-stops bytes left e = Exact-stops_at IsFour header_is header_at Exact-header bytes left e

-- what is read is the text of a first line
pub header-found : (bytes : List ℕ) (header : Header) (rest : List ℕ) → header_at bytes ≡ Ok (header, rest) → (length bytes - length rest ≤ length bytes) × (take (length bytes - length rest) bytes ≡ header_is header)
header-found bytes header rest e =
    let t = Exact-header.takes bytes header rest e in (
      omega arith,
      ap (take (length bytes - length rest)) t.split
          ∙ take-front (header_is header) rest (length bytes - length rest) (omega (arith, ap length t.split, length-append (header_is header) rest)),
    )

-- what is behind it is a part of the bytes
pub header-rest : (bytes : List ℕ) (header : Header) (rest : List ℕ) → header_at bytes ≡ Ok (header, rest) → length rest ≤ length bytes
header-rest bytes header rest e =
    let t = Exact-header.takes bytes header rest e in
    omega (arith, ap length t.split, length-append (header_is header) rest)

pub header-left : (bytes : List ℕ) (left : ℕ) → header_at bytes ≡ Err left → left ≤ length bytes
header-left bytes left e =
    let s = Exact-header.stops bytes left e in
    omega (arith, s.left_is, ap length s.split, length-append s.front s.rest)
