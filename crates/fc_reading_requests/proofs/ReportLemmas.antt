-- Commands that show are read exactly.
use Rattle.std.proofs.Common.{◌≡◌, ℕ, zero, suc, true, List, [], ◌∷◌, ◌++◌, get_or, codes, Option, Some, None, IfSome, refl, sym, subst, arith, inl, inr}
use Rattle.fc_base.specs.CommandText.{delim_word}
use Rattle.fc_base.specs.declared.command.Command.{Command}
use Rattle.fc_base.specs.declared.command.Command.TheVariants as command
use Rattle.fc_base.specs.declared.name.Ref.{Ref}
use Rattle.fc_words.specs.Canonical.{IsDelim, IsObject}
use Rattle.fc_reading.specs.Readers.{map_read, one_of_at, the_word, then_read}
use Rattle.fc_reading_requests.specs.Asked.{IsAsked, asked_line}
use Rattle.fc_reading_notes.specs.Lists.{first_byte_is}
use Rattle.fc_reading_requests.specs.Parts.{arrow, delim_at, ended_by, is_dash, object_and, said}
use Rattle.fc_reading_requests.specs.Reports.{behind_dash, dash_words, delim_and_object, list_at, listed, maybe_object_at, report_at, reported}
use Rattle.fc_reading_requests.specs.declared.asked.Asked.{Asked}
use Rattle.fc_reading_requests.specs.declared.asked.Asked.TheVariants.{Command as OfCommand}
use Rattle.fc_reading.proofs.Exact.{Exact, Exact-map, Exact-then}
use Rattle.fc_reading.proofs.Fields.{AnyUnit, Exact-and, Exact-word}
use Rattle.fc_reading.proofs.Words.{Ends-nothing, Exact-one_of, IsIndexOf, nothing}
use Rattle.fc_reading_notes.proofs.Choices.{Either, Exact-recast, Is}
use Rattle.fc_reading_notes.proofs.Effects.{Exact-image, Image}
use Rattle.fc_reading_requests.proofs.Alternatives.{Alternative, alone_said, made}
use Rattle.fc_reading_requests.proofs.Exactness.{Exact-said}
use Rattle.fc_reading_requests.proofs.Objects.{Exact-delim_and, Exact-last, Exact-or_object, some_object}
use Rattle.fc_reading_requests.proofs.RunLemmas.{last_text}

abbrev delim_text : ℕ → List ℕ
delim_text d = delim_word d ++ codes " "

some_delim : IsDelim 58
some_delim = (omega arith, omega arith)

-- ---- a report on an object

abbrev Report : Type 0
Report = Option ℕ × Ref

abbrev IsReport : Report → Type 0
IsReport x = IfSome x.0 IsDelim × IsObject x.1

abbrev given_text : Option ℕ → List ℕ
given_text (Some d) = codes "-delim " ++ delim_text d
given_text None = []

abbrev report_text : Report → List ℕ
report_text x = given_text x.0 ++ last_text x.1

abbrev WithDelim : Unit {0} × (ℕ × Ref) → Type 0
WithDelim x = AnyUnit x.0 × (IsDelim x.1.0 × IsObject x.1.1)

abbrev with_delim : Unit {0} × (ℕ × Ref) → Report
with_delim x = (Some x.1.0, x.1.1)

abbrev no_delim : Ref → Report
no_delim o = (None, o)

Exact-delim_and_object : Exact (λ (x : ℕ × Ref). IsDelim x.0 × IsObject x.1) (λ x. delim_text x.0 ++ last_text x.1) nothing delim_and_object
Exact-delim_and_object =
    Exact-and {V = ℕ} {W = Ref} IsDelim delim_text (ended_by delim_at (codes " ")) IsObject last_text (object_and arrow) (Exact-delim_and (codes " ")) Exact-last
    some_object.0 some_object.1

report_begins : (x : Report) (rest : List ℕ) → Image WithDelim with_delim x → first_byte_is is_dash (report_text x ++ rest) ≡ true
report_begins x rest image = subst (λ (y : Report). first_byte_is is_dash (report_text y ++ rest) ≡ true) image.2 refl

report_to : (x : Report) → Either (Image WithDelim with_delim) (Image IsObject no_delim) x → IsReport x × (report_text x ≡ report_text x)
report_to x (inl image) = (subst IsReport image.2 image.1.1, refl)
report_to x (inr image) = (subst IsReport image.2 (tt, image.1), refl)

report_from : (x : Report) → IsReport x → Either (Image WithDelim with_delim) (Image IsObject no_delim) x
report_from (Some d, o) fits = inl ((tt, (d, o)), (tt, fits), refl)
report_from (None, o) fits = inr (o, fits.1, refl)

Exact-report : Exact IsReport report_text nothing report_at
Exact-report =
    Exact-recast (Either (Image WithDelim with_delim) (Image IsObject no_delim)) IsReport report_text report_text nothing report_at
    (
    Exact-or_object {V = Report} no_delim (Image WithDelim with_delim) report_text
    (map_read with_delim (then_read (the_word (codes "-delim ")) (λ u. delim_and_object)))
    (
    Exact-image {V = Unit {0} × (ℕ × Ref)} {W = Report} WithDelim (λ x. codes "-delim " ++ (delim_text x.1.0 ++ last_text x.1.1)) nothing
    (then_read (the_word (codes "-delim ")) (λ u. delim_and_object)) report_text with_delim
    (
    Exact-and {V = Unit {0}} {W = ℕ × Ref} AnyUnit (λ u. codes "-delim ") (the_word (codes "-delim ")) (λ x. IsDelim x.0 × IsObject x.1)
    (λ x. delim_text x.0 ++ last_text x.1) delim_and_object (Exact-word (codes "-delim ")) Exact-delim_and_object (58, some_object.0) (some_delim, some_object.1)
    )
    (λ x fits. refl)
    )
    report_begins (λ o. refl)
    )
    report_to report_from

-- ---- an object, where one was named

abbrev maybe_text : Option Ref → List ℕ
maybe_text (Some o) = last_text o
maybe_text None = codes "-> "

abbrev IsMaybe : Option Ref → Type 0
IsMaybe object = IfSome object IsObject

abbrev no_object : Unit {0} → Option Ref
no_object u = None

maybe_begins : (x : Option Ref) (rest : List ℕ) → Image AnyUnit no_object x → first_byte_is is_dash (maybe_text x ++ rest) ≡ true
maybe_begins x rest image = subst (λ (y : Option Ref). first_byte_is is_dash (maybe_text y ++ rest) ≡ true) image.2 refl

maybe_to : (x : Option Ref) → Either (Image AnyUnit no_object) (Image IsObject Some) x → IsMaybe x × (maybe_text x ≡ maybe_text x)
maybe_to x (inl image) = (subst IsMaybe image.2 tt, refl)
maybe_to x (inr image) = (subst IsMaybe image.2 image.1, refl)

maybe_from : (x : Option Ref) → IsMaybe x → Either (Image AnyUnit no_object) (Image IsObject Some) x
maybe_from (Some o) fits = inr (o, fits, refl)
maybe_from None fits = inl (tt, tt, refl)

Exact-maybe : Exact IsMaybe maybe_text nothing maybe_object_at
Exact-maybe =
    Exact-recast (Either (Image AnyUnit no_object) (Image IsObject Some)) IsMaybe maybe_text maybe_text nothing maybe_object_at
    (
    Exact-or_object {V = Option Ref} Some (Image AnyUnit no_object) maybe_text (map_read no_object (the_word (codes "-> ")))
    (
    Exact-image {V = Unit {0}} {W = Option Ref} AnyUnit (λ u. codes "-> ") nothing (the_word (codes "-> ")) maybe_text no_object
    (Exact-word (codes "-> ")) (λ u fits. refl)
    )
    maybe_begins (λ o. refl)
    )
    maybe_to maybe_from

-- ---- a list

abbrev Listed : Type 0
Listed = Option ℕ × Option Ref

abbrev IsList : Listed → Type 0
IsList x = IfSome x.0 IsDelim × IsMaybe x.1

abbrev list_text : Listed → List ℕ
list_text x = given_text x.0 ++ maybe_text x.1

abbrev bare : Listed
bare = (None, None)

abbrev IsDelimited : ℕ × Option Ref → Type 0
IsDelimited x = IsDelim x.0 × IsMaybe x.1

abbrev delimited : ℕ × Option Ref → Listed
delimited x = (Some x.0, x.1)

abbrev FitsDash : ℕ → Listed → Type 0
FitsDash zero x = x ≡ bare
FitsDash (suc n) x = Image IsDelimited delimited x

abbrev dash_text : Listed → List ℕ
dash_text (Some d, object) = delim_text d ++ maybe_text object
dash_text (None, object) = []

Exact-behind_dash : (i : ℕ) → IsIndexOf dash_words i → Exact (FitsDash i) dash_text nothing (behind_dash i)
Exact-behind_dash zero inside = Exact-said bare (FitsDash 0) dash_text refl refl (λ x is. is)
Exact-behind_dash (suc (suc i)) inside = absurd (omega (arith, inside))
Exact-behind_dash (suc zero) inside =
    Exact-image {V = ℕ × Option Ref} {W = Listed} IsDelimited (λ x. delim_text x.0 ++ maybe_text x.1) nothing
    (then_read (ended_by delim_at (codes " ")) (λ delim. maybe_object_at)) dash_text delimited
    (
    Exact-and {V = ℕ} {W = Option Ref} IsDelim delim_text (ended_by delim_at (codes " ")) IsMaybe maybe_text maybe_object_at (Exact-delim_and (codes " ")) Exact-maybe
    None tt
    )
    (λ x fits. refl)

some_dash : (i : ℕ) → IsIndexOf dash_words i → (x : Listed) × FitsDash i x
some_dash zero inside = (bare, refl)
some_dash (suc i) inside = (delimited (58, None), ((58, None), (some_delim, tt), refl))

-- a list that a dash begins
abbrev HasDash : Listed → Type 0
HasDash (Some d, object) = IsDelim d × IsMaybe object
HasDash (None, Some o) = ⊥
HasDash (None, None) = Unit {0}

abbrev OfDash : ℕ × Listed → Type 0
OfDash x = IsIndexOf dash_words x.0 × FitsDash x.0 x.1

abbrev IsDashed : ℕ → Listed → Type 0
IsDashed i x = HasDash x × (list_text x ≡ get_or dash_words i [] ++ dash_text x)

dash_to : (i : ℕ) (x : Listed) → IsIndexOf dash_words i → FitsDash i x → HasDash x × (list_text x ≡ get_or dash_words i [] ++ dash_text x)
dash_to zero x inside is =
    let at : IsDashed 0 bare = (tt, refl) in
    subst (IsDashed 0) (sym is) at
dash_to (suc zero) x inside image =
    let at : IsDashed 1 (delimited image.0) = (image.1, refl) in
    subst (IsDashed 1) image.2 at
dash_to (suc (suc i)) x inside image = absurd (omega (arith, inside))

dash_from : (x : Listed) → HasDash x → (y : ℕ × Listed) × OfDash y × (y.1 ≡ x)
dash_from (Some d, object) fits = ((1, (Some d, object)), (omega arith, ((d, object), fits, refl)), refl)
dash_from (None, Some o) fits = absurd fits
dash_from (None, None) fits = ((0, bare), (omega arith, refl), refl)

Exact-dash : Exact HasDash list_text nothing (map_read (λ (x : ℕ × Listed). x.1) (then_read (one_of_at dash_words) behind_dash))
Exact-dash =
    Exact-map {V = ℕ × Listed} {W = Listed} OfDash (λ x. get_or dash_words x.0 [] ++ dash_text x.1) nothing (then_read (one_of_at dash_words) behind_dash)
    HasDash list_text (λ x. x.1)
    (
    Exact-then (IsIndexOf dash_words) (λ i. get_or dash_words i []) nothing (one_of_at dash_words) FitsDash (λ i. dash_text) nothing behind_dash
    (Exact-one_of (codes "-> ") (codes "-delim " ∷ []) refl) Exact-behind_dash some_dash
    (λ i x rest inside fits ends. Ends-nothing (dash_text x ++ rest))
    )
    (λ x fits. dash_to x.0 x.1 fits.0 fits.1)
    dash_from

dash_begins : (x : Listed) (rest : List ℕ) → HasDash x → first_byte_is is_dash (list_text x ++ rest) ≡ true
dash_begins (Some d, object) rest fits = refl
dash_begins (None, Some o) rest fits = absurd fits
dash_begins (None, None) rest fits = refl

abbrev shown : Ref → Listed
shown o = (None, Some o)

list_to : (x : Listed) → Either HasDash (Image IsObject shown) x → IsList x × (list_text x ≡ list_text x)
list_to (Some d, object) (inl fits) = (fits, refl)
list_to (None, Some o) (inl fits) = absurd fits
list_to (None, None) (inl fits) = ((tt, tt), refl)
list_to x (inr image) = (subst IsList image.2 (tt, image.1), refl)

list_from : (x : Listed) → IsList x → Either HasDash (Image IsObject shown) x
list_from (Some d, object) fits = inl fits
list_from (None, Some o) fits = inr (o, fits.1, refl)
list_from (None, None) fits = inl tt

Exact-list : Exact IsList list_text nothing list_at
Exact-list =
    Exact-recast (Either HasDash (Image IsObject shown)) IsList list_text list_text nothing list_at
    (
    Exact-or_object {V = Listed} shown HasDash list_text (map_read (λ (x : ℕ × Listed). x.1) (then_read (one_of_at dash_words) behind_dash))
    Exact-dash dash_begins (λ o. refl)
    )
    list_to list_from

-- ---- behind each word

list_line : (x : Listed) → IsList x → asked_line (listed command.Lsfcmap x) ≡ codes "lsfcmap " ++ list_text x
list_line (Some d, Some o) fits = refl
list_line (Some d, None) fits = refl
list_line (None, Some o) fits = refl
list_line (None, None) fits = refl

group_list_line : (x : Listed) → IsList x → asked_line (listed command.Lsfcconsistgrp x) ≡ codes "lsfcconsistgrp " ++ list_text x
group_list_line (Some d, Some o) fits = refl
group_list_line (Some d, None) fits = refl
group_list_line (None, Some o) fits = refl
group_list_line (None, None) fits = refl

pub mapping_lists : Alternative (codes "lsfcmap ") (map_read (listed command.Lsfcmap) list_at) (Image IsList (listed command.Lsfcmap))
mapping_lists =
    made {V = Listed} (codes "lsfcmap ") IsList list_text list_at (listed command.Lsfcmap) Exact-list list_line (λ x fits. ((fits.1, fits.0), tt)) bare (tt, tt)

pub group_lists : Alternative (codes "lsfcconsistgrp ") (map_read (listed command.Lsfcconsistgrp) list_at) (Image IsList (listed command.Lsfcconsistgrp))
group_lists =
    made {V = Listed} (codes "lsfcconsistgrp ") IsList list_text list_at (listed command.Lsfcconsistgrp) Exact-list group_list_line (λ x fits. ((fits.1, fits.0), tt)) bare (tt, tt)

-- a report on all volumes, without a byte between its columns and with one
abbrev pub plain_report : (Option ℕ → Command) → Asked
plain_report list = OfCommand (list None)

abbrev pub delimited_report : (Option ℕ → Command) → ℕ → Asked
delimited_report list delim = OfCommand (list (Some delim))

delimited_lists : (list : Option ℕ → Command) (word : List ℕ) → ((d : ℕ) → IsDelim d → asked_line (delimited_report list d) ≡ word ++ (delim_word d ++ arrow)) →
    ((d : ℕ) → IsDelim d → IsAsked (delimited_report list d)) →
    Alternative word (map_read (λ delim. delimited_report list delim) (ended_by delim_at arrow)) (Image IsDelim (λ delim. delimited_report list delim))
delimited_lists list word line asks =
    made {V = ℕ} word IsDelim (λ d. delim_word d ++ arrow) (ended_by delim_at arrow) (λ delim. delimited_report list delim) (Exact-delim_and arrow) line asks 58 some_delim

pub volume_list : Alternative (codes "lsvdisk -> ") (said (plain_report command.Lsvdisk)) (Is (plain_report command.Lsvdisk))
volume_list = alone_said (codes "lsvdisk -> ") (plain_report command.Lsvdisk) refl (tt, tt)

pub delimited_list : Alternative (codes "lsvdisk -delim ") (map_read (λ delim. OfCommand (command.Lsvdisk (Some delim))) (ended_by delim_at arrow)) (Image IsDelim (λ delim. delimited_report command.Lsvdisk delim))
delimited_list = delimited_lists command.Lsvdisk (codes "lsvdisk -delim ") (λ d fits. refl) (λ d fits. (fits, tt))

pub room_list : Alternative (codes "lsvdiskroom -> ") (said (plain_report command.Lsvdiskroom)) (Is (plain_report command.Lsvdiskroom))
room_list = alone_said (codes "lsvdiskroom -> ") (plain_report command.Lsvdiskroom) refl (tt, tt)

pub delimited_room_list : Alternative (codes "lsvdiskroom -delim ") (map_read (λ delim. OfCommand (command.Lsvdiskroom (Some delim))) (ended_by delim_at arrow)) (Image IsDelim (λ delim. delimited_report command.Lsvdiskroom delim))
delimited_room_list = delimited_lists command.Lsvdiskroom (codes "lsvdiskroom -delim ") (λ d fits. refl) (λ d fits. (fits, tt))

progress_line : (x : Report) → IsReport x → asked_line (reported command.Lsfcmapprogress x) ≡ codes "lsfcmapprogress " ++ report_text x
progress_line (Some d, o) fits = refl
progress_line (None, o) fits = refl

dependents_line : (x : Report) → IsReport x → asked_line (reported command.Lsfcmapdependentmaps x) ≡ codes "lsfcmapdependentmaps " ++ report_text x
dependents_line (Some d, o) fits = refl
dependents_line (None, o) fits = refl

pub progress : Alternative (codes "lsfcmapprogress ") (map_read (reported command.Lsfcmapprogress) report_at) (Image IsReport (reported command.Lsfcmapprogress))
progress =
    made {V = Report} (codes "lsfcmapprogress ") IsReport report_text report_at (reported command.Lsfcmapprogress) Exact-report progress_line (λ x fits. ((fits.1, fits.0), tt))
    (no_delim some_object.0) (tt, some_object.1)

pub dependents : Alternative (codes "lsfcmapdependentmaps ") (map_read (reported command.Lsfcmapdependentmaps) report_at) (Image IsReport (reported command.Lsfcmapdependentmaps))
dependents =
    made {V = Report} (codes "lsfcmapdependentmaps ") IsReport report_text report_at (reported command.Lsfcmapdependentmaps) Exact-report dependents_line (λ x fits. ((fits.1, fits.0), tt))
    (no_delim some_object.0) (tt, some_object.1)

-- what each word begins
abbrev pub FitsReport : ℕ → Asked → Type 0
FitsReport zero a = Image IsList (listed command.Lsfcmap) a
FitsReport (suc zero) a = Image IsList (listed command.Lsfcconsistgrp) a
FitsReport (suc (suc zero)) a = Is (plain_report command.Lsvdisk) a
FitsReport (suc (suc (suc zero))) a = Image IsDelim (λ delim. delimited_report command.Lsvdisk delim) a
FitsReport (suc (suc (suc (suc zero)))) a = Image IsReport (reported command.Lsfcmapprogress) a
FitsReport (suc (suc (suc (suc (suc n))))) a = Image IsReport (reported command.Lsfcmapdependentmaps) a

abbrev pub FitsRoom : ℕ → Asked → Type 0
FitsRoom zero a = Is (plain_report command.Lsvdiskroom) a
FitsRoom (suc n) a = Image IsDelim (λ delim. delimited_report command.Lsvdiskroom delim) a
