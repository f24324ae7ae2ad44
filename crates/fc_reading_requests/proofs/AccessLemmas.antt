-- Accesses, copies and cleanings, and turns of workers are read exactly.
use Rattle.std.proofs.Common.{◌≡◌, ℕ, zero, suc, ◌^◌, ◌<◌, ◌≤◌, List, ◌++◌, codes, decimal, Result, refl, append_assoc, arith, lit<}
use Rattle.fc_base.specs.CommandText.{byte_word, ref_word}
use Rattle.fc_base.specs.declared.name.Ref.{Ref}
use Rattle.fc_base.specs.declared.name.Ref.TheVariants.{Id, Name}
use Rattle.fc_words.specs.Canonical.{IsNumber, IsObject}
use Rattle.fc_reading.specs.Readers.{field_at, map_read, then_read}
use Rattle.fc_reading_notes.specs.Lines.{id_at}
use Rattle.fc_reading_requests.specs.Asked.{last_block}
use Rattle.fc_reading_requests.specs.Lines.{a_clean, a_copy, a_read, a_write, access_at, count_and_byte, lane_at, two_at}
use Rattle.fc_reading_requests.specs.Parts.{arrow, byte_at, ended_by, object_and, said}
use Rattle.fc_reading_requests.specs.declared.asked.Asked.{Asked}
use Rattle.fc_reading_requests.specs.declared.asked.Asked.TheVariants.{Unread, CopyTurn, CleanTurn}
use Rattle.fc_reading.proofs.Exact.{Exact, Exact-then}
use Rattle.fc_reading.proofs.Fields.{Exact-and, Exact-field}
use Rattle.fc_reading.proofs.Numbers.{IsUpTo}
use Rattle.fc_reading.proofs.Words.{Ends-nothing, nothing}
use Rattle.fc_reading_notes.proofs.Choices.{Exact-recast, Is, small}
use Rattle.fc_reading_notes.proofs.Effects.{Image}
use Rattle.fc_reading_requests.proofs.Alternatives.{Alternative, alone_said, made}
use Rattle.fc_reading_requests.proofs.Exactness.{Exact-ended}
use Rattle.fc_reading_requests.proofs.Objects.{Exact-byte, Exact-field_32, Exact-object_and, IsByte, number-of, some_object}

-- ---- pieces

abbrev pub end_text : ℕ → List ℕ
end_text n = decimal n ++ arrow

abbrev pub spaced_text : ℕ → List ℕ
spaced_text n = decimal n ++ codes " "

pub Exact-end : Exact IsNumber end_text nothing (id_at arrow)
Exact-end = Exact-field_32 arrow (λ rest. refl)

pub Exact-spaced : Exact IsNumber spaced_text nothing (id_at (codes " "))
Exact-spaced = Exact-field_32 (codes " ") (λ rest. refl)

pub is_zero : IsNumber 0
is_zero = number-of 0 (omega arith)

abbrev pub AreTwo : ℕ × ℕ → Type 0
AreTwo x = IsNumber x.0 × IsNumber x.1

abbrev pub two_text : ℕ × ℕ → List ℕ
two_text x = spaced_text x.0 ++ end_text x.1

pub Exact-two : Exact AreTwo two_text nothing two_at
Exact-two = Exact-and {V = ℕ} {W = ℕ} IsNumber spaced_text (id_at (codes " ")) IsNumber end_text (id_at arrow) Exact-spaced Exact-end 0 is_zero

abbrev pub ref_text : Ref → List ℕ
ref_text o = ref_word o ++ codes " "

pub Exact-ref : Exact IsObject ref_text nothing (object_and (codes " "))
Exact-ref = Exact-object_and (codes " ") (λ rest. refl)

-- ---- accesses

last_small : (o : Ref) → last_block o < 2 ^ 64
last_small (Id id) = lit< tt
last_small (Name name) = small

abbrev IsAccess : {V : Type 0} → (V → Type 0) → Ref × (ℕ × V) → Type 0
IsAccess Fits x = IsObject x.0 × ((x.1.0 ≤ last_block x.0) × Fits x.1.1)

abbrev access_text : {V : Type 0} → (V → List ℕ) → Ref × (ℕ × V) → List ℕ
access_text text x = ref_text x.0 ++ (spaced_text x.1.0 ++ text x.1.1)

Exact-access :
    {V : Type 0} (Fits : V → Type 0) (text : V → List ℕ) (behind : List ℕ → Result (V × List ℕ) ℕ) → Exact Fits text nothing behind → (v : V) → Fits v →
    Exact (IsAccess Fits) (access_text text) nothing (access_at behind)
Exact-access {V} Fits text behind exact v some =
    Exact-then {V = Ref} {W = ℕ × V} IsObject ref_text nothing (object_and (codes " ")) (λ o x. (x.0 ≤ last_block o) × Fits x.1) (λ o x. spaced_text x.0 ++ text x.1) nothing
    (λ o. then_read (field_at (last_block o) (codes " ")) (λ block. behind)) Exact-ref
    (
    λ o fits.
    Exact-and {V = ℕ} {W = V} (IsUpTo (last_block o)) spaced_text (field_at (last_block o) (codes " ")) Fits text behind
    (Exact-field (last_block o) (last_small o) (codes " ") (λ rest. refl)) exact v some
    )
    (λ o fits. ((0, v), (omega arith, some)))
    (λ o x rest fits more ends. Ends-nothing ((spaced_text x.0 ++ text x.1) ++ rest))

abbrev IsCountAndByte : ℕ × ℕ → Type 0
IsCountAndByte x = IsNumber x.0 × IsByte x.1

abbrev count_and_byte_text : ℕ × ℕ → List ℕ
count_and_byte_text x = spaced_text x.0 ++ (byte_word x.1 ++ arrow)

Exact-count_and_byte : Exact IsCountAndByte count_and_byte_text nothing count_and_byte
Exact-count_and_byte =
    Exact-and {V = ℕ} {W = ℕ} IsNumber spaced_text (id_at (codes " ")) IsByte (λ b. byte_word b ++ arrow) (ended_by byte_at arrow) Exact-spaced
    (Exact-ended IsByte byte_word nothing byte_at arrow Exact-byte (λ rest. refl)) 0 (omega arith)

read_joined : (w r s b c a : List ℕ) → (w ++ r ++ s ++ (b ++ s ++ c)) ++ a ≡ w ++ ((r ++ s) ++ ((b ++ s) ++ (c ++ a)))
read_joined w r s b c a = simp (append_assoc)

write_joined : (w r s b c y a : List ℕ) → (w ++ r ++ s ++ (b ++ s ++ c) ++ s ++ y) ++ a ≡ w ++ ((r ++ s) ++ ((b ++ s) ++ ((c ++ s) ++ (y ++ a))))
write_joined w r s b c y a = simp (append_assoc)

two_joined : (w m s g a : List ℕ) → (w ++ (m ++ s ++ g)) ++ a ≡ w ++ ((m ++ s) ++ (g ++ a))
two_joined w m s g a = simp (append_assoc)

-- ---- lanes

abbrev IsLane : ℕ → Type 0
IsLane lane = lane < 256

Exact-lane : Exact IsLane end_text nothing lane_at
Exact-lane =
    Exact-recast (IsUpTo 255) IsLane end_text end_text nothing lane_at (Exact-field 255 (lit< tt) arrow (λ rest. refl))
    (λ n fits. (omega (arith, fits), refl)) (λ n fits. omega (arith, fits))

-- ---- behind each word

pub unread : Alternative (codes "- -> ") (said Unread) (Is Unread)
unread = alone_said (codes "- -> ") Unread refl tt

abbrev pub OfRead : Asked → Type 0
OfRead = Image (IsAccess IsNumber) a_read

pub reads : Alternative (codes "read ") (map_read a_read (access_at (id_at arrow))) OfRead
reads =
    made {V = Ref × (ℕ × ℕ)} (codes "read ") (IsAccess IsNumber) (access_text end_text) (access_at (id_at arrow)) a_read
    (Exact-access IsNumber end_text (id_at arrow) Exact-end 0 is_zero)
    (λ x fits. read_joined (codes "read ") (ref_word x.0) (codes " ") (decimal x.1.0) (decimal x.1.1) arrow)
    (λ x fits. fits)
    (some_object.0, (0, 0)) (some_object.1, (omega arith, is_zero))

abbrev pub OfWrite : Asked → Type 0
OfWrite = Image (IsAccess IsCountAndByte) a_write

pub writes : Alternative (codes "write ") (map_read a_write (access_at count_and_byte)) OfWrite
writes =
    made {V = Ref × (ℕ × (ℕ × ℕ))} (codes "write ") (IsAccess IsCountAndByte) (access_text count_and_byte_text) (access_at count_and_byte) a_write
    (Exact-access IsCountAndByte count_and_byte_text count_and_byte Exact-count_and_byte (0, 0) (is_zero, omega arith))
    (λ x fits. write_joined (codes "write ") (ref_word x.0) (codes " ") (decimal x.1.0) (decimal x.1.1.0) (byte_word x.1.1.1) arrow)
    (λ x fits. fits)
    (some_object.0, (0, (0, 0))) (some_object.1, (omega arith, (is_zero, omega arith)))

pub copies : Alternative (codes "copy ") (map_read a_copy two_at) (Image AreTwo a_copy)
copies =
    made {V = ℕ × ℕ} (codes "copy ") AreTwo two_text two_at a_copy Exact-two
    (λ x fits. two_joined (codes "copy ") (decimal x.0) (codes " ") (decimal x.1) arrow) (λ x fits. fits) (0, 0) (is_zero, is_zero)

pub cleanings : Alternative (codes "clean ") (map_read a_clean two_at) (Image AreTwo a_clean)
cleanings =
    made {V = ℕ × ℕ} (codes "clean ") AreTwo two_text two_at a_clean Exact-two
    (λ x fits. two_joined (codes "clean ") (decimal x.0) (codes " ") (decimal x.1) arrow) (λ x fits. fits) (0, 0) (is_zero, is_zero)

pub copy_turns : Alternative (codes "copyturn ") (map_read CopyTurn lane_at) (Image IsLane CopyTurn)
copy_turns =
    made {V = ℕ} (codes "copyturn ") IsLane end_text lane_at CopyTurn Exact-lane
    (λ n fits. append_assoc (codes "copyturn ") (decimal n) arrow) (λ n fits. fits) 0 (omega arith)

pub clean_turns : Alternative (codes "cleanturn ") (map_read CleanTurn lane_at) (Image IsLane CleanTurn)
clean_turns =
    made {V = ℕ} (codes "cleanturn ") IsLane end_text lane_at CleanTurn Exact-lane
    (λ n fits. append_assoc (codes "cleanturn ") (decimal n) arrow) (λ n fits. fits) 0 (omega arith)

-- what each word begins
abbrev pub FitsAccess : ℕ → Asked → Type 0
FitsAccess zero a = Is Unread a
FitsAccess (suc zero) a = OfRead a
FitsAccess (suc (suc zero)) a = OfWrite a
FitsAccess (suc (suc (suc zero))) a = Image AreTwo a_copy a
FitsAccess (suc (suc (suc (suc zero)))) a = Image AreTwo a_clean a
FitsAccess (suc (suc (suc (suc (suc zero))))) a = Image IsLane CopyTurn a
FitsAccess (suc (suc (suc (suc (suc (suc n)))))) a = Image IsLane CleanTurn a
