-- Commands that make mappings and groups are read exactly.
use Rattle.std.proofs.Common.{◌≡◌, ℕ, zero, suc, ◌<◌, ◌%◌, ◌==◌, nat_le, List, [], ◌∷◌, ◌++◌, get_or, codes, decimal, Option, Some, None, Result, refl, sym, ap, ◌∙◌, append_assoc, arith}
use Rattle.std.proofs.lemmas.List.{append-nil}
use Rattle.fc_base.specs.CommandText.{flag_words, given_words, grain_size_word, name_word, option_words, ref_word}
use Rattle.fc_base.specs.Names.{continues_name}
use Rattle.fc_base.specs.declared.command.Command.TheVariants as command
use Rattle.fc_base.specs.declared.name.Ref.{Ref}
use Rattle.fc_entry.specs.Spaced.{spaced}
use Rattle.fc_entry.proofs.CommandLines.{join_with_byte-spaced, spaced-append}
use Rattle.fc_words.specs.Canonical.{IsName, IsObject}
use Rattle.fc_reading.specs.Readers.{map_read, then_read}
use Rattle.fc_reading_requests.specs.Asked.{IsAsked, asked_line}
use Rattle.fc_reading_requests.specs.Mappings.{a_mapping, grain_size_of, mapping_ends, settings_at}
use Rattle.fc_reading_requests.specs.Parts.{arrow, ended_by, name_at, object_and, object_at, said}
use Rattle.fc_reading_requests.specs.declared.asked.Asked.{Asked}
use Rattle.fc_reading_requests.specs.declared.asked.Asked.TheVariants.{Command as OfCommand}
use Rattle.fc_reading_requests.specs.declared.mappings.Settings.{Settings}
use Rattle.fc_reading.proofs.Exact.{Exact, Exact-then}
use Rattle.fc_reading.proofs.Fields.{Exact-and}
use Rattle.fc_reading.proofs.Words.{nothing}
use Rattle.fc_reading_notes.proofs.Choices.{Is}
use Rattle.fc_reading_notes.proofs.Below.{below_at}
use Rattle.fc_reading_notes.proofs.Effects.{Image}
use Rattle.fc_reading_requests.proofs.Alternatives.{Alternative, alone_said, made}
use Rattle.fc_reading_requests.proofs.Names.{the_name}
use Rattle.fc_reading_requests.proofs.Objects.{Exact-name_and, Exact-object, Exact-object_and, some_object}
use Rattle.fc_reading_requests.proofs.Options.{AreSettings, Exact-settings, given_text, settings, settings_end, settings_text}

-- ---- a new mapping

abbrev Target : Type 0
Target = Ref × Settings

abbrev IsTarget : Target → Type 0
IsTarget x = IsObject x.0 × AreSettings x.1

abbrev target_text : Target → List ℕ
target_text x = ref_word x.0 ++ settings_text x.1

abbrev no_settings : Settings
no_settings = settings None None None None 0

Exact-target : Exact IsTarget target_text nothing (then_read object_at (λ target. settings_at))
Exact-target =
    Exact-then {V = Ref} {W = Settings} IsObject ref_word continues_name object_at (λ o. AreSettings) (λ o. settings_text) nothing (λ o. settings_at)
    Exact-object (λ o fits. Exact-settings) (λ o fits. (no_settings, (tt, (tt, (tt, (tt, omega arith)))))) (λ o s rest fits more ends. settings_end s rest more)

abbrev pub IsMapping : Ref × Target → Type 0
IsMapping x = IsObject x.0 × IsTarget x.1

abbrev mapping_text : Ref × Target → List ℕ
mapping_text x = (ref_word x.0 ++ codes " -target ") ++ target_text x.1

abbrev mapping_at : List ℕ → Result ((Ref × Target) × List ℕ) ℕ
mapping_at = then_read (object_and (codes " -target ")) (λ source. then_read object_at (λ target. settings_at))

-- ---- its line

given_joined : (o w : List ℕ) → (32 ∷ o) ++ ((32 ∷ w) ++ []) ≡ (32 ∷ (o ++ 32 ∷ [])) ++ w
given_joined o w = ap (λ t. 32 ∷ (o ++ 32 ∷ t)) (append-nil w) ∙ ap (λ t. 32 ∷ t) (sym (append_assoc o (32 ∷ []) w))

spaced_given : {T : Type 0} (option : List ℕ) (word : T → List ℕ) (value : Option T) → spaced (given_words option word value) ≡ given_text (32 ∷ (option ++ 32 ∷ [])) word value
spaced_given option word (Some v) = given_joined option (word v)
spaced_given option word None = refl

-- the last options
abbrev last_words : ℕ → List (List ℕ)
last_words end =
    given_words (codes "-grainsize") grain_size_word (grain_size_of end) ++ flag_words (codes "-incremental") (nat_le 2 (end % 4))
    ++ flag_words (codes "-autodelete") (end % 2 == 1)

last_is : (end : ℕ) → end < 12 → spaced (last_words end) ++ arrow ≡ get_or mapping_ends end []
last_is =
    below_at (λ end. spaced (last_words end) ++ arrow ≡ get_or mapping_ends end []) 12
    ((((((((((((tt, refl), refl), refl), refl), refl), refl), refl), refl), refl), refl), refl), refl)

mapping_joined :
    (s t n g c l z i d : List (List ℕ)) (a : List ℕ) →
    spaced (s ++ t ++ n ++ g ++ c ++ l ++ z ++ i ++ d) ++ a
    ≡ spaced s ++ (spaced t ++ (spaced n ++ (spaced g ++ (spaced c ++ (spaced l ++ (spaced (z ++ i ++ d) ++ a))))))
mapping_joined s t n g c l z i d a = simp (spaced-append, append_assoc)

five : (n n' g g' c c' l l' f f' : List ℕ) → n ≡ n' → g ≡ g' → c ≡ c' → l ≡ l' → f ≡ f' → n ++ (g ++ (c ++ (l ++ f))) ≡ n' ++ (g' ++ (c' ++ (l' ++ f')))
five n n' g g' c c' l l' f f' e1 e2 e3 e4 e5 = rw (e1, e2, e3, e4, e5) refl

settings_are :
    (s : Settings) → AreSettings s →
    spaced (given_words (codes "-name") name_word s.name)
    ++ (spaced (given_words (codes "-consistgrp") ref_word s.group) ++ (spaced (given_words (codes "-copyrate") decimal s.copy_rate) ++ (spaced (given_words (codes "-cleanrate") decimal s.clean_rate) ++ (spaced (last_words s.end) ++ arrow))))
    ≡ settings_text s
settings_are s fits =
    five (spaced (given_words (codes "-name") name_word s.name)) (given_text (codes " -name ") the_name s.name)
    (spaced (given_words (codes "-consistgrp") ref_word s.group)) (given_text (codes " -consistgrp ") ref_word s.group)
    (spaced (given_words (codes "-copyrate") decimal s.copy_rate)) (given_text (codes " -copyrate ") decimal s.copy_rate)
    (spaced (given_words (codes "-cleanrate") decimal s.clean_rate)) (given_text (codes " -cleanrate ") decimal s.clean_rate) (spaced (last_words s.end) ++ arrow) (get_or mapping_ends s.end [])
    (spaced_given (codes "-name") name_word s.name) (spaced_given (codes "-consistgrp") ref_word s.group) (spaced_given (codes "-copyrate") decimal s.copy_rate)
    (spaced_given (codes "-cleanrate") decimal s.clean_rate) (last_is s.end fits.1.1.1.1)

ends_joined : (r w t p : List ℕ) → (r ++ []) ++ (w ++ ((t ++ []) ++ p)) ≡ (r ++ w) ++ (t ++ p)
ends_joined r w t p = simp (append_assoc, append-nil)

mapping_line : (x : Ref × Target) → IsMapping x → asked_line (a_mapping x) ≡ codes "mkfcmap -source " ++ mapping_text x
mapping_line (source, (target, given)) fits =
    let s = option_words (codes "-source") (ref_word source) in
    let t = option_words (codes "-target") (ref_word target) in
    let n = given_words (codes "-name") name_word given.name in
    let g = given_words (codes "-consistgrp") ref_word given.group in
    let c = given_words (codes "-copyrate") decimal given.copy_rate in
    let l = given_words (codes "-cleanrate") decimal given.clean_rate in
    let z = given_words (codes "-grainsize") grain_size_word (grain_size_of given.end) in
    let i = flag_words (codes "-incremental") (nat_le 2 (given.end % 4)) in
    let d = flag_words (codes "-autodelete") (given.end % 2 == 1) in
    ap (λ x. x ++ arrow) (join_with_byte-spaced (codes "mkfcmap") (s ++ t ++ n ++ g ++ c ++ l ++ z ++ i ++ d))
    ∙ ap (λ x. codes "mkfcmap" ++ x) (mapping_joined s t n g c l z i d arrow)
    ∙ ap (λ x. codes "mkfcmap -source " ++ x)
    (
    ends_joined (ref_word source) (codes " -target ") (ref_word target)
    (spaced n ++ (spaced g ++ (spaced c ++ (spaced l ++ (spaced (last_words given.end) ++ arrow)))))
    ∙ ap (λ x. (ref_word source ++ codes " -target ") ++ (ref_word target ++ x)) (settings_are given fits.1.1)
    )

-- ---- behind each word

mapping_asks : (x : Ref × Target) → IsMapping x → IsAsked (a_mapping x)
mapping_asks (source, (target, s)) fits =
    let of = fits.1.1 in
    ((fits.0, fits.1.0, of.0, of.1.0, of.1.1.0, of.1.1.1.0), tt)

pub mappings : Alternative (codes "mkfcmap -source ") (map_read a_mapping mapping_at) (Image IsMapping a_mapping)
mappings =
    made {V = Ref × Target} (codes "mkfcmap -source ") IsMapping mapping_text mapping_at a_mapping
    (
    Exact-and {V = Ref} {W = Target} IsObject (λ o. ref_word o ++ codes " -target ") (object_and (codes " -target ")) IsTarget target_text
    (then_read object_at (λ target. settings_at)) (Exact-object_and (codes " -target ") (λ rest. refl)) Exact-target (some_object.0, no_settings)
    (some_object.1, (tt, (tt, (tt, (tt, omega arith)))))
    )
    mapping_line mapping_asks (some_object.0, (some_object.0, no_settings)) (some_object.1, (some_object.1, (tt, (tt, (tt, (tt, omega arith))))))

abbrev pub a_group : Asked
a_group = OfCommand (command.Mkfcconsistgrp None)

pub groups : Alternative (codes "mkfcconsistgrp -> ") (said a_group) (Is a_group)
groups = alone_said (codes "mkfcconsistgrp -> ") a_group refl (tt, tt)

abbrev pub a_named_group : List ℕ → Asked
a_named_group name = OfCommand (command.Mkfcconsistgrp (Some name))

pub named_groups : Alternative (codes "mkfcconsistgrp -name ") (map_read (λ name. OfCommand (command.Mkfcconsistgrp (Some name))) (ended_by name_at arrow)) (Image IsName a_named_group)
named_groups =
    made {V = List ℕ} (codes "mkfcconsistgrp -name ") IsName (λ n. n ++ arrow) (ended_by name_at arrow) a_named_group (Exact-name_and arrow (λ rest. refl))
    (λ n fits. refl) (λ n fits. (fits, tt)) (codes "a") refl

-- what each word begins
abbrev pub FitsMaking : ℕ → Asked → Type 0
FitsMaking zero a = Image IsMapping a_mapping a
FitsMaking (suc zero) a = Is a_group a
FitsMaking (suc (suc n)) a = Image IsName a_named_group a
