-- Commands on volumes, disks and time are read exactly.
use Rattle.std.proofs.Common.{◌≡◌, ℕ, zero, suc, ◌%◌, ◌<◌, ◌==◌, Bool, List, [], ◌∷◌, ◌++◌, get_or, codes, decimal, Option, Some, None, Result, refl, ap, ◌∙◌, append_assoc, arith}
use Rattle.std.specs.List.{join_with_byte}
use Rattle.fc_base.specs.CommandText.{flag_words, given_words, ref_word, unit_word}
use Rattle.fc_base.specs.declared.command.Command.TheVariants as command
use Rattle.fc_base.specs.declared.command.Unit.{Unit as SizeUnit}
use Rattle.fc_base.specs.declared.name.Ref.{Ref}
use Rattle.fc_words.specs.Canonical.{IsName, IsNumber, IsObject}
use Rattle.fc_reading.specs.Readers.{is_decimal, map_read, one_of_at, then_read}
use Rattle.fc_reading_notes.specs.Lines.{id_at}
use Rattle.fc_reading_requests.specs.Asked.{asked_line}
use Rattle.fc_reading_requests.specs.Lines.{an_armfault, size_at, size_ends, sized, two_at, unit_of}
use Rattle.fc_reading_requests.specs.Parts.{arrow, ended_by, name_at, number_32, object_and}
use Rattle.fc_reading_requests.specs.declared.asked.Asked.{Asked}
use Rattle.fc_reading_requests.specs.declared.asked.Asked.TheVariants.{Command as OfCommand}
use Rattle.fc_reading.proofs.Exact.{Exact, Exact-then}
use Rattle.fc_reading.proofs.Fields.{Exact-and}
use Rattle.fc_reading.proofs.Words.{Exact-one_of, IsIndexOf, nothing}
use Rattle.fc_reading_notes.proofs.Choices.{words_end}
use Rattle.fc_reading_notes.proofs.Below.{below_at}
use Rattle.fc_reading_notes.proofs.Effects.{Image}
use Rattle.fc_reading_requests.proofs.AccessLemmas.{AreTwo, Exact-end, Exact-ref, Exact-two, end_text, is_zero, ref_text, two_text}
use Rattle.fc_reading_requests.proofs.Alternatives.{Alternative, made}
use Rattle.fc_reading_requests.proofs.Objects.{Exact-last, Exact-name_and, Exact-number_32, some_object}

-- ---- sizes

abbrev IsSize : ℕ × ℕ → Type 0
IsSize x = IsNumber x.0 × IsIndexOf size_ends x.1

abbrev size_text : ℕ × ℕ → List ℕ
size_text x = decimal x.0 ++ get_or size_ends x.1 []

Exact-size : Exact IsSize size_text nothing size_at
Exact-size =
    Exact-then {V = ℕ} {W = ℕ} IsNumber decimal is_decimal number_32 (λ n. IsIndexOf size_ends) (λ n i. get_or size_ends i []) nothing (λ n. one_of_at size_ends)
    Exact-number_32
    (
    λ n fits.
    Exact-one_of (codes " -> ")
    (
    codes " -thin -> " ∷ codes " -unit kb -> " ∷ codes " -unit kb -thin -> " ∷ codes " -unit mb -> " ∷ codes " -unit mb -thin -> "
    ∷ codes " -unit gb -> " ∷ codes " -unit gb -thin -> " ∷ []
    )
    refl
    )
    (λ n fits. (0, omega arith))
    (λ n i rest fits inside ends. words_end size_ends i rest refl inside)

-- the words of a size, its unit and its kind, and the arrow
abbrev size_line : ℕ → Option SizeUnit → Bool → List ℕ
size_line size unit thin = join_with_byte 32 (decimal size ∷ given_words (codes "-unit") unit_word unit ++ flag_words (codes "-thin") thin) ++ arrow

size_line-is : (size end : ℕ) → end < 8 → size_line size (unit_of end) (end % 2 == 1) ≡ decimal size ++ get_or size_ends end []
size_line-is size =
    below_at (λ end. size_line size (unit_of end) (end % 2 == 1) ≡ decimal size ++ get_or size_ends end []) 8 (
      (
        (
          (
            (
              (
                ((tt, refl), append_assoc (decimal size) (codes " -thin") arrow),
                append_assoc (decimal size) (codes " -unit kb") arrow,
              ),
              append_assoc (decimal size) (codes " -unit kb -thin") arrow,
            ),
            append_assoc (decimal size) (codes " -unit mb") arrow,
          ),
          append_assoc (decimal size) (codes " -unit mb -thin") arrow,
        ),
        append_assoc (decimal size) (codes " -unit gb") arrow,
      ),
      append_assoc (decimal size) (codes " -unit gb -thin") arrow,
    )

-- ---- behind each word

abbrev IsNamed : List ℕ × (ℕ × ℕ) → Type 0
IsNamed x = IsName x.0 × IsSize x.1

abbrev named_text : List ℕ × (ℕ × ℕ) → List ℕ
named_text x = (x.0 ++ codes " -size ") ++ size_text x.1

abbrev named_at : List ℕ → Result ((List ℕ × (ℕ × ℕ)) × List ℕ) ℕ
named_at = then_read (ended_by name_at (codes " -size ")) (λ name. size_at)

abbrev a_named : List ℕ × (ℕ × ℕ) → Asked
a_named x = sized (Some x.0) x.1

size_joined : (s w rest a : List ℕ) → (s ++ (w ++ rest)) ++ a ≡ (s ++ w) ++ (rest ++ a)
size_joined s w rest a = simp (append_assoc)

named_line : (x : List ℕ × (ℕ × ℕ)) → IsNamed x → asked_line (a_named x) ≡ codes "mkvdisk -name " ++ named_text x
named_line x fits =
    ap (λ t. codes "mkvdisk -name " ++ t)
    (
    size_joined x.0 (codes " -size ")
    (join_with_byte 32 (decimal x.1.0 ∷ given_words (codes "-unit") unit_word (unit_of x.1.1) ++ flag_words (codes "-thin") (x.1.1 % 2 == 1)))
    arrow
    ∙ ap (λ t. (x.0 ++ codes " -size ") ++ t) (size_line-is x.1.0 x.1.1 fits.1.1)
    )

pub named_volumes : Alternative (codes "mkvdisk -name ") (map_read (λ x. sized (Some x.0) x.1) named_at) (Image IsNamed a_named)
named_volumes =
    made {V = List ℕ × (ℕ × ℕ)} (codes "mkvdisk -name ") IsNamed named_text named_at a_named
    (
    Exact-and {V = List ℕ} {W = ℕ × ℕ} IsName (λ n. n ++ codes " -size ") (ended_by name_at (codes " -size ")) IsSize size_text size_at
    (Exact-name_and (codes " -size ") (λ rest. refl)) Exact-size (0, 0) (is_zero, omega arith)
    )
    named_line (λ x fits. ((fits.0, fits.1.0), tt)) (codes "a", (0, 0)) (refl, (is_zero, omega arith))

pub volumes : Alternative (codes "mkvdisk -size ") (map_read (sized None) size_at) (Image IsSize (sized None))
volumes =
    made {V = ℕ × ℕ} (codes "mkvdisk -size ") IsSize size_text size_at (sized None) Exact-size
    (λ x fits. ap (λ t. codes "mkvdisk -size " ++ t) (size_line-is x.0 x.1 fits.1)) (λ x fits. ((tt, fits.0), tt)) (0, 0) (is_zero, omega arith)

abbrev pub a_removal : Ref → Asked
a_removal volume = OfCommand (command.Rmvdisk volume)

pub removals : Alternative (codes "rmvdisk ") (map_read (λ volume. OfCommand (command.Rmvdisk volume)) (object_and arrow)) (Image IsObject a_removal)
removals =
    made {V = Ref} (codes "rmvdisk ") IsObject (λ o. ref_word o ++ arrow) (object_and arrow) a_removal Exact-last
    (λ o fits. refl) (λ o fits. (fits, tt)) some_object.0 some_object.1

abbrev IsArmfault : Ref × (ℕ × ℕ) → Type 0
IsArmfault x = IsObject x.0 × AreTwo x.1

armfault_joined : (w r g c a : List ℕ) → (w ++ 32 ∷ (r ++ 32 ∷ (g ++ 32 ∷ c))) ++ a ≡ (w ++ 32 ∷ []) ++ ((r ++ 32 ∷ []) ++ ((g ++ 32 ∷ []) ++ (c ++ a)))
armfault_joined w r g c a = simp (append_assoc)

pub armfaults : Alternative (codes "armfault ") (map_read an_armfault (then_read (object_and (codes " ")) (λ volume. two_at))) (Image IsArmfault an_armfault)
armfaults =
    made {V = Ref × (ℕ × ℕ)} (codes "armfault ") IsArmfault (λ x. ref_text x.0 ++ two_text x.1) (then_read (object_and (codes " ")) (λ volume. two_at)) an_armfault
    (Exact-and {V = Ref} {W = ℕ × ℕ} IsObject ref_text (object_and (codes " ")) AreTwo two_text two_at Exact-ref Exact-two (0, 0) (is_zero, is_zero))
    (λ x fits. armfault_joined (codes "armfault") (ref_word x.0) (decimal x.1.0) (decimal x.1.1) arrow)
    (λ x fits. ((fits.0, fits.1.0, fits.1.1), tt)) (some_object.0, (0, 0)) (some_object.1, (is_zero, is_zero))

abbrev pub an_advance : ℕ → Asked
an_advance seconds = OfCommand (command.Advance seconds)

pub advances : Alternative (codes "advance -seconds ") (map_read (λ seconds. OfCommand (command.Advance seconds)) (id_at arrow)) (Image IsNumber an_advance)
advances =
    made {V = ℕ} (codes "advance -seconds ") IsNumber end_text (id_at arrow) an_advance Exact-end (λ n fits. refl) (λ n fits. (fits, tt)) 0 is_zero

-- what each word begins
abbrev pub FitsVolume : ℕ → Asked → Type 0
FitsVolume zero a = Image IsNamed a_named a
FitsVolume (suc zero) a = Image IsSize (sized None) a
FitsVolume (suc (suc zero)) a = Image IsObject a_removal a
FitsVolume (suc (suc (suc zero))) a = Image IsArmfault an_armfault a
FitsVolume (suc (suc (suc (suc n)))) a = Image IsNumber an_advance a
