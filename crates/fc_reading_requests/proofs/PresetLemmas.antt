-- The line of a preset is read exactly.
use Rattle.std.proofs.Common.{◌≡◌, ℕ, zero, suc, List, [], ◌∷◌, ◌++◌, get_or, codes, Option, Some, None, IfSome, Result, refl, sym, ap, subst, append_assoc, arith}
use Rattle.fc_base.specs.CommandText.{preset_word, ref_word}
use Rattle.fc_base.specs.declared.command.Preset.{Preset}
use Rattle.fc_base.specs.declared.command.Preset.TheVariants.{Snapshot, Clone, Backup}
use Rattle.fc_base.specs.declared.name.Ref.{Ref}
use Rattle.fc_words.specs.Canonical.{IsName, IsObject}
use Rattle.fc_reading.specs.Readers.{map_read, one_of_at, then_read}
use Rattle.fc_reading_requests.specs.Asked.{IsAsked, asked_line}
use Rattle.fc_reading_requests.specs.Parts.{arrow, ended_by, name_at, object_and}
use Rattle.fc_reading_requests.specs.Presets.{a_preset, given_name_at, name_words, named_at, preset_at, preset_names, preset_of}
use Rattle.fc_reading_requests.specs.declared.asked.Asked.{Asked}
use Rattle.fc_reading.proofs.Exact.{Exact, Exact-map, Exact-then}
use Rattle.fc_reading.proofs.Fields.{Exact-and}
use Rattle.fc_reading.proofs.Words.{Ends-nothing, Exact-one_of, IsIndexOf, nothing}
use Rattle.fc_reading_notes.proofs.Effects.{Exact-image, Image}
use Rattle.fc_reading_requests.proofs.Alternatives.{Alternative, made}
use Rattle.fc_reading_requests.proofs.Exactness.{Exact-said}
use Rattle.fc_reading_requests.proofs.Objects.{Exact-name_and, Exact-object_and, some_object}

-- ---- what the copy is for

abbrev AnyPreset : Preset → Type 0
AnyPreset preset = Unit {0}

preset_to : (i : ℕ) → IsIndexOf preset_names i → AnyPreset (preset_of i) × (preset_word (preset_of i) ≡ get_or preset_names i [])
preset_to zero inside = (tt, refl)
preset_to (suc zero) inside = (tt, refl)
preset_to (suc (suc zero)) inside = (tt, refl)
preset_to (suc (suc (suc n))) inside = absurd (omega (arith, inside))

preset_from : (preset : Preset) → AnyPreset preset → (i : ℕ) × IsIndexOf preset_names i × (preset_of i ≡ preset)
preset_from Snapshot any = (0, omega arith, refl)
preset_from Clone any = (1, omega arith, refl)
preset_from Backup any = (2, omega arith, refl)

Exact-preset : Exact AnyPreset preset_word nothing preset_at
Exact-preset =
    Exact-map {V = ℕ} {W = Preset} (IsIndexOf preset_names) (λ i. get_or preset_names i []) nothing (one_of_at preset_names) AnyPreset preset_word preset_of
    (Exact-one_of (codes "snapshot") (codes "clone" ∷ codes "backup" ∷ []) refl)
    preset_to preset_from

-- ---- a name, where one was given

abbrev IsNamed : Option (List ℕ) → Type 0
IsNamed name = IfSome name IsName

abbrev given_text : Option (List ℕ) → List ℕ
given_text (Some name) = codes " -name " ++ (name ++ arrow)
given_text None = arrow

-- the same behind its word
abbrev name_text : Option (List ℕ) → List ℕ
name_text (Some name) = name ++ arrow
name_text None = []

abbrev FitsName : ℕ → Option (List ℕ) → Type 0
FitsName zero name = name ≡ None
FitsName (suc n) name = Image IsName Some name

Exact-named : (i : ℕ) → IsIndexOf name_words i → Exact (FitsName i) name_text nothing (named_at i)
Exact-named zero inside = Exact-said None (FitsName 0) name_text refl refl (λ x is. is)
Exact-named (suc (suc i)) inside = absurd (omega (arith, inside))
Exact-named (suc zero) inside =
    Exact-image {V = List ℕ} {W = Option (List ℕ)} IsName (λ n. n ++ arrow) nothing (ended_by name_at arrow) name_text Some
    (Exact-name_and arrow (λ rest. refl)) (λ n fits. refl)

some_name : (i : ℕ) → IsIndexOf name_words i → (x : Option (List ℕ)) × FitsName i x
some_name zero inside = (None, refl)
some_name (suc i) inside = (Some (codes "a"), (codes "a", refl, refl))

abbrev OfName : ℕ × Option (List ℕ) → Type 0
OfName x = IsIndexOf name_words x.0 × FitsName x.0 x.1

abbrev IsGiven : ℕ → Option (List ℕ) → Type 0
IsGiven i x = IsNamed x × (given_text x ≡ get_or name_words i [] ++ name_text x)

name_to : (i : ℕ) (x : Option (List ℕ)) → IsIndexOf name_words i → FitsName i x → IsNamed x × (given_text x ≡ get_or name_words i [] ++ name_text x)
name_to zero x inside is =
    let at : IsGiven 0 None = (tt, refl) in
    subst (IsGiven 0) (sym is) at
name_to (suc zero) x inside image =
    let at : IsGiven 1 (Some image.0) = (image.1, refl) in
    subst (IsGiven 1) image.2 at
name_to (suc (suc i)) x inside image = absurd (omega (arith, inside))

name_from : (x : Option (List ℕ)) → IsNamed x → (y : ℕ × Option (List ℕ)) × OfName y × (y.1 ≡ x)
name_from (Some name) fits = ((1, Some name), (omega arith, (name, fits, refl)), refl)
name_from None fits = ((0, None), (omega arith, refl), refl)

Exact-given_name : Exact IsNamed given_text nothing given_name_at
Exact-given_name =
    Exact-map {V = ℕ × Option (List ℕ)} {W = Option (List ℕ)} OfName (λ x. get_or name_words x.0 [] ++ name_text x.1) nothing
    (then_read (one_of_at name_words) named_at) IsNamed given_text (λ x. x.1)
    (
    Exact-then (IsIndexOf name_words) (λ i. get_or name_words i []) nothing (one_of_at name_words) FitsName (λ i. name_text) nothing named_at
    (Exact-one_of (codes " -> ") (codes " -name " ∷ []) refl) Exact-named some_name
    (λ i x rest inside fits ends. Ends-nothing (name_text x ++ rest))
    )
    (λ x fits. name_to x.0 x.1 fits.0 fits.1)
    name_from

-- ---- the line

abbrev Purpose : Type 0
Purpose = Preset × Option (List ℕ)

abbrev IsPurpose : Purpose → Type 0
IsPurpose x = AnyPreset x.0 × IsNamed x.1

abbrev purpose_text : Purpose → List ℕ
purpose_text x = preset_word x.0 ++ given_text x.1

Exact-purpose : Exact IsPurpose purpose_text nothing (then_read preset_at (λ preset. given_name_at))
Exact-purpose =
    Exact-and {V = Preset} {W = Option (List ℕ)} AnyPreset preset_word preset_at IsNamed given_text given_name_at Exact-preset Exact-given_name None tt

abbrev IsPreset : Ref × Purpose → Type 0
IsPreset x = IsObject x.0 × IsPurpose x.1

abbrev preset_text : Ref × Purpose → List ℕ
preset_text x = (ref_word x.0 ++ codes " -preset ") ++ purpose_text x.1

abbrev line_at : List ℕ → Result ((Ref × Purpose) × List ℕ) ℕ
line_at = then_read (object_and (codes " -preset ")) (λ source. then_read preset_at (λ preset. given_name_at))

named_joined : (r w p v n a : List ℕ) → (r ++ (w ++ (p ++ (v ++ n)))) ++ a ≡ (r ++ w) ++ (p ++ (v ++ (n ++ a)))
named_joined r w p v n a = simp (append_assoc)

unnamed_joined : (r w p a : List ℕ) → (r ++ (w ++ p)) ++ a ≡ (r ++ w) ++ (p ++ a)
unnamed_joined r w p a = simp (append_assoc)

preset_line : (x : Ref × Purpose) → IsPreset x → asked_line (a_preset x) ≡ codes "mkpreset -source " ++ preset_text x
preset_line (source, (preset, Some name)) fits =
    ap (λ t. codes "mkpreset -source " ++ t)
    (named_joined (ref_word source) (codes " -preset ") (preset_word preset) (codes " -name ") name arrow)
preset_line (source, (preset, None)) fits =
    ap (λ t. codes "mkpreset -source " ++ t) (unnamed_joined (ref_word source) (codes " -preset ") (preset_word preset) arrow)

preset_asks : (x : Ref × Purpose) → IsPreset x → IsAsked (a_preset x)
preset_asks x fits = ((fits.0, fits.1.1), tt)

pub presets : Alternative (codes "mkpreset -source ") (map_read a_preset line_at) (Image IsPreset a_preset)
presets =
    made {V = Ref × Purpose} (codes "mkpreset -source ") IsPreset preset_text line_at a_preset
    (
    Exact-and {V = Ref} {W = Purpose} IsObject (λ o. ref_word o ++ codes " -preset ") (object_and (codes " -preset ")) IsPurpose purpose_text
    (then_read preset_at (λ preset. given_name_at)) (Exact-object_and (codes " -preset ") (λ rest. refl)) Exact-purpose (Snapshot, None) (tt, tt)
    )
    preset_line preset_asks (some_object.0, (Snapshot, None)) (some_object.1, (tt, tt))

-- what the word begins
abbrev pub FitsPreset : Asked → Type 0
FitsPreset a = Image IsPreset a_preset a
