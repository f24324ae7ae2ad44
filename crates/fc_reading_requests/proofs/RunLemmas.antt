-- Commands that prepare, start, stop and remove mappings and groups are read exactly.
use Rattle.std.proofs.Common.{◌≡◌, ℕ, zero, suc, Bool, true, false, List, [], ◌∷◌, ◌++◌, get_or, codes, refl, ap, subst, ◌∙◌, append_assoc, arith, inl, inr}
use Rattle.std.specs.Prelude.{if◌then◌else◌}
use Rattle.fc_base.specs.CommandText.{ref_word}
use Rattle.fc_base.specs.declared.command.Command.{Command}
use Rattle.fc_base.specs.declared.command.Command.TheVariants as command
use Rattle.fc_base.specs.declared.command.StopWay.{StopWay}
use Rattle.fc_base.specs.declared.command.StopWay.TheVariants.{Plain, Force, Split}
use Rattle.fc_base.specs.declared.name.Ref.{Ref}
use Rattle.fc_words.specs.Canonical.{IsObject}
use Rattle.fc_reading.specs.Readers.{map_read, one_of_at, the_word, then_read}
use Rattle.fc_reading_requests.specs.Asked.{IsAsked, asked_line}
use Rattle.fc_reading_notes.specs.Lists.{first_byte_is}
use Rattle.fc_reading_requests.specs.Parts.{arrow, is_dash, object_and}
use Rattle.fc_reading_requests.specs.Runs.{behind_start, raised, raised_at, start_flags, started, started_at, stop_flags, stopped, stopped_at, way_of}
use Rattle.fc_reading_requests.specs.declared.asked.Asked.{Asked}
use Rattle.fc_reading.proofs.Exact.{Exact, Exact-map, Exact-then}
use Rattle.fc_reading.proofs.Fields.{AnyUnit, Exact-and, Exact-word}
use Rattle.fc_reading.proofs.Words.{Ends-nothing, Exact-one_of, IsIndexOf, nothing}
use Rattle.fc_reading_notes.proofs.Choices.{Either, Exact-recast}
use Rattle.fc_reading_notes.proofs.Effects.{Exact-image, Image}
use Rattle.fc_reading_requests.proofs.Alternatives.{Alternative, made}
use Rattle.fc_reading_requests.proofs.Objects.{Exact-last, Exact-or_object, some_object}

abbrev pub last_text : Ref → List ℕ
last_text o = ref_word o ++ arrow

-- a text, where it is wanted
abbrev pub text_if : Bool → List ℕ → List ℕ
text_if wanted text = if wanted then text else []

-- values with an object
abbrev pub OnObject : {V : Type 0} → V × Ref → Type 0
OnObject x = IsObject x.1

-- ---- one flag

abbrev pub raised_text : List ℕ → Bool × Ref → List ℕ
raised_text flag x = text_if x.0 flag ++ last_text x.1

abbrev a_flag : Unit {0} × Ref → Bool × Ref
a_flag x = (true, x.1)

abbrev no_flag : Ref → Bool × Ref
no_flag o = (false, o)

abbrev HasFlag : Bool × Ref → Type 0
HasFlag = Image {V = Unit {0} × Ref} (λ x. AnyUnit x.0 × IsObject x.1) a_flag

raised_to : (flag : List ℕ) (x : Bool × Ref) → Either HasFlag (Image IsObject no_flag) x → OnObject x × (raised_text flag x ≡ raised_text flag x)
raised_to flag x (inl image) = (subst OnObject image.2 image.1.1, refl)
raised_to flag x (inr image) = (subst OnObject image.2 image.1, refl)

raised_from : (x : Bool × Ref) → OnObject x → Either HasFlag (Image IsObject no_flag) x
raised_from (true, o) fits = inl ((tt, o), (tt, fits), refl)
raised_from (false, o) fits = inr (o, fits, refl)

pub Exact-raised : (flag : List ℕ) → ((rest : List ℕ) → first_byte_is is_dash (flag ++ rest) ≡ true) → Exact OnObject (raised_text flag) nothing (raised_at flag)
Exact-raised flag dash =
    Exact-recast (Either HasFlag (Image IsObject no_flag)) OnObject (raised_text flag) (raised_text flag) nothing (raised_at flag)
    (
    Exact-or_object {V = Bool × Ref} no_flag HasFlag (raised_text flag) (map_read a_flag (then_read (the_word flag) (λ u. object_and arrow)))
    (
    Exact-image {V = Unit {0} × Ref} {W = Bool × Ref} (λ x. AnyUnit x.0 × IsObject x.1) (λ x. flag ++ last_text x.1) nothing
    (then_read (the_word flag) (λ u. object_and arrow)) (raised_text flag) a_flag
    (
    Exact-and {V = Unit {0}} {W = Ref} AnyUnit (λ u. flag) (the_word flag) IsObject last_text (object_and arrow) (Exact-word flag) Exact-last
    some_object.0 some_object.1
    )
    (λ x fits. refl)
    )
    flag_begins (λ o. refl)
    )
    (raised_to flag) raised_from
  where
    dashed : (o : Ref) (rest : List ℕ) → first_byte_is is_dash ((flag ++ last_text o) ++ rest) ≡ true
    dashed o rest = ap (first_byte_is is_dash) (append_assoc flag (last_text o) rest) ∙ dash (last_text o ++ rest)

    flag_begins : (x : Bool × Ref) (rest : List ℕ) → HasFlag x → first_byte_is is_dash (raised_text flag x ++ rest) ≡ true
    flag_begins x rest image =
        subst (λ (y : Bool × Ref). first_byte_is is_dash (raised_text flag y ++ rest) ≡ true) image.2 (dashed image.0.1 rest)

-- ---- starts

abbrev Started : Type 0
Started = (Bool × Bool) × Ref

abbrev pub started_text : (Bool × Bool) × Ref → List ℕ
started_text x = text_if x.0.0 (codes "-prep ") ++ (text_if x.0.1 (codes "-restore ") ++ last_text x.1)

-- what a flag begins
abbrev prepared : Bool × Ref → Started
prepared x = ((true, x.0), x.1)

abbrev restored : Ref → Started
restored o = ((false, true), o)

abbrev plain : Ref → Started
plain o = ((false, false), o)

abbrev FitsStart : ℕ → Started → Type 0
FitsStart zero x = Image OnObject prepared x
FitsStart (suc n) x = Image IsObject restored x

abbrev start_behind : Started → List ℕ
start_behind x = text_if x.0.0 (text_if x.0.1 (codes "-restore ")) ++ last_text x.1

Exact-behind_start : (i : ℕ) → IsIndexOf start_flags i → Exact (FitsStart i) start_behind nothing (behind_start i)
Exact-behind_start zero inside =
    Exact-image {V = Bool × Ref} {W = Started} OnObject (raised_text (codes "-restore ")) nothing (raised_at (codes "-restore ")) start_behind prepared
    (Exact-raised (codes "-restore ") (λ rest. refl)) (λ x fits. refl)
Exact-behind_start (suc (suc i)) inside = absurd (omega (arith, inside))
Exact-behind_start (suc zero) inside =
    Exact-image {V = Ref} {W = Started} IsObject last_text nothing (object_and arrow) start_behind restored Exact-last (λ o fits. refl)

some_start : (i : ℕ) → IsIndexOf start_flags i → (x : Started) × FitsStart i x
some_start zero inside = (prepared (true, some_object.0), ((true, some_object.0), some_object.1, refl))
some_start (suc i) inside = (restored some_object.0, (some_object.0, some_object.1, refl))

abbrev OfFlag : ℕ × Started → Type 0
OfFlag x = IsIndexOf start_flags x.0 × FitsStart x.0 x.1

-- a start with a flag
abbrev HasStartFlag : Started → Type 0
HasStartFlag ((true, restore), o) = IsObject o
HasStartFlag ((false, true), o) = IsObject o
HasStartFlag ((false, false), o) = ⊥

abbrev IsStart : ℕ → Started → Type 0
IsStart i x = HasStartFlag x × (started_text x ≡ get_or start_flags i [] ++ start_behind x)

start_to : (i : ℕ) (x : Started) → IsIndexOf start_flags i → FitsStart i x → HasStartFlag x × (started_text x ≡ get_or start_flags i [] ++ start_behind x)
start_to zero x inside image =
    let at : IsStart 0 (prepared image.0) = (image.1, refl) in
    subst (IsStart 0) image.2 at
start_to (suc zero) x inside image =
    let at : IsStart 1 (restored image.0) = (image.1, refl) in
    subst (IsStart 1) image.2 at
start_to (suc (suc i)) x inside image = absurd (omega (arith, inside))

start_from : (x : Started) → HasStartFlag x → (y : ℕ × Started) × OfFlag y × (y.1 ≡ x)
start_from ((true, restore), o) fits = ((0, ((true, restore), o)), (omega arith, ((restore, o), fits, refl)), refl)
start_from ((false, true), o) fits = ((1, ((false, true), o)), (omega arith, (o, fits, refl)), refl)
start_from ((false, false), o) fits = absurd fits

Exact-flagged_start : Exact HasStartFlag started_text nothing (map_read (λ (x : ℕ × Started). x.1) (then_read (one_of_at start_flags) behind_start))
Exact-flagged_start =
    Exact-map {V = ℕ × Started} {W = Started} OfFlag (λ x. get_or start_flags x.0 [] ++ start_behind x.1) nothing (then_read (one_of_at start_flags) behind_start)
    HasStartFlag started_text (λ x. x.1)
    (
    Exact-then (IsIndexOf start_flags) (λ i. get_or start_flags i []) nothing (one_of_at start_flags) FitsStart (λ i. start_behind) nothing behind_start
    (Exact-one_of (codes "-prep ") (codes "-restore " ∷ []) refl) Exact-behind_start some_start
    (λ i x rest inside fits ends. Ends-nothing (start_behind x ++ rest))
    )
    (λ x fits. start_to x.0 x.1 fits.0 fits.1)
    start_from

start_begins : (x : Started) (rest : List ℕ) → HasStartFlag x → first_byte_is is_dash (started_text x ++ rest) ≡ true
start_begins ((true, restore), o) rest fits = refl
start_begins ((false, true), o) rest fits = refl
start_begins ((false, false), o) rest fits = absurd fits

started_to : (x : Started) → Either HasStartFlag (Image IsObject plain) x → OnObject x × (started_text x ≡ started_text x)
started_to ((true, restore), o) (inl fits) = (fits, refl)
started_to ((false, true), o) (inl fits) = (fits, refl)
started_to ((false, false), o) (inl fits) = absurd fits
started_to x (inr image) = (subst OnObject image.2 image.1, refl)

started_from : (x : Started) → OnObject x → Either HasStartFlag (Image IsObject plain) x
started_from ((true, restore), o) fits = inl fits
started_from ((false, true), o) fits = inl fits
started_from ((false, false), o) fits = inr (o, fits, refl)

Exact-started : Exact OnObject started_text nothing started_at
Exact-started =
    Exact-recast (Either HasStartFlag (Image IsObject plain)) OnObject started_text started_text nothing started_at
    (
    Exact-or_object {V = Started} plain HasStartFlag started_text (map_read (λ (x : ℕ × Started). x.1) (then_read (one_of_at start_flags) behind_start))
    Exact-flagged_start start_begins (λ o. refl)
    )
    started_to started_from

-- ---- stops

abbrev Stopped : Type 0
Stopped = StopWay × Ref

abbrev way_text : StopWay → List ℕ
way_text Plain = []
way_text Force = codes "-force "
way_text Split = codes "-split "

abbrev stopped_text : Stopped → List ℕ
stopped_text x = way_text x.0 ++ last_text x.1

abbrev HasWay : Stopped → Type 0
HasWay (Plain, o) = ⊥
HasWay (Force, o) = IsObject o
HasWay (Split, o) = IsObject o

abbrev FlagAndObject : ℕ × Ref → Type 0
FlagAndObject x = IsIndexOf stop_flags x.0 × IsObject x.1

abbrev a_way : ℕ × Ref → Stopped
a_way x = (way_of x.0, x.1)

way_to : (x : ℕ × Ref) → FlagAndObject x → HasWay (a_way x) × (stopped_text (a_way x) ≡ get_or stop_flags x.0 [] ++ last_text x.1)
way_to (zero, o) fits = (fits.1, refl)
way_to (suc zero, o) fits = (fits.1, refl)
way_to (suc (suc n), o) fits = absurd (omega (arith, fits.0))

way_from : (x : Stopped) → HasWay x → (y : ℕ × Ref) × FlagAndObject y × (a_way y ≡ x)
way_from (Plain, o) fits = absurd fits
way_from (Force, o) fits = ((0, o), (omega arith, fits), refl)
way_from (Split, o) fits = ((1, o), (omega arith, fits), refl)

abbrev no_way : Ref → Stopped
no_way o = (Plain, o)

way_begins : (x : Stopped) (rest : List ℕ) → HasWay x → first_byte_is is_dash (stopped_text x ++ rest) ≡ true
way_begins (Plain, o) rest fits = absurd fits
way_begins (Force, o) rest fits = refl
way_begins (Split, o) rest fits = refl

stopped_to : (x : Stopped) → Either HasWay (Image IsObject no_way) x → OnObject x × (stopped_text x ≡ stopped_text x)
stopped_to (Plain, o) (inl fits) = absurd fits
stopped_to (Force, o) (inl fits) = (fits, refl)
stopped_to (Split, o) (inl fits) = (fits, refl)
stopped_to x (inr image) = (subst OnObject image.2 image.1, refl)

stopped_from : (x : Stopped) → OnObject x → Either HasWay (Image IsObject no_way) x
stopped_from (Plain, o) fits = inr (o, fits, refl)
stopped_from (Force, o) fits = inl fits
stopped_from (Split, o) fits = inl fits

Exact-stopped : Exact OnObject stopped_text nothing stopped_at
Exact-stopped =
    Exact-recast (Either HasWay (Image IsObject no_way)) OnObject stopped_text stopped_text nothing stopped_at
    (
    Exact-or_object {V = Stopped} no_way HasWay stopped_text (map_read a_way (then_read (one_of_at stop_flags) (λ flag. object_and arrow)))
    (
    Exact-map {V = ℕ × Ref} {W = Stopped} FlagAndObject (λ x. get_or stop_flags x.0 [] ++ last_text x.1) nothing
    (then_read (one_of_at stop_flags) (λ flag. object_and arrow)) HasWay stopped_text a_way
    (
    Exact-and {V = ℕ} {W = Ref} (IsIndexOf stop_flags) (λ i. get_or stop_flags i []) (one_of_at stop_flags) IsObject last_text (object_and arrow)
    (Exact-one_of (codes "-force ") (codes "-split " ∷ []) refl) Exact-last some_object.0 some_object.1
    )
    way_to way_from
    )
    way_begins (λ o. refl)
    )
    stopped_to stopped_from

-- ---- behind each word

-- the command of this word stands on the object alone
abbrev Asks : {V : Type 0} → (V × Ref → Asked) → Type 0
Asks {V} make = (x : V × Ref) → OnObject x → IsAsked (make x)

-- a command with a flag
flagged :
    (word flag : List ℕ) (make : Ref → Bool → Command) → ((rest : List ℕ) → first_byte_is is_dash (flag ++ rest) ≡ true) →
    ((o : Ref) → asked_line (raised make (true, o)) ≡ word ++ (flag ++ last_text o)) →
    ((o : Ref) → asked_line (raised make (false, o)) ≡ word ++ last_text o) →
    Asks (raised make) →
    Alternative word (map_read (raised make) (raised_at flag)) (Image OnObject (raised make))
flagged word flag make dash with without asks =
    made {V = Bool × Ref} word OnObject (raised_text flag) (raised_at flag) (raised make) (Exact-raised flag dash) line asks (true, some_object.0) some_object.1
  where
    line : (x : Bool × Ref) → OnObject x → asked_line (raised make x) ≡ word ++ raised_text flag x
    line (true, o) fits = with o
    line (false, o) fits = without o

pub prestarts : Alternative (codes "prestartfcmap ") (map_read (raised command.Prestartfcmap) (raised_at (codes "-restore "))) (Image OnObject (raised command.Prestartfcmap))
prestarts = flagged (codes "prestartfcmap ") (codes "-restore ") command.Prestartfcmap (λ rest. refl) (λ o. refl) (λ o. refl) (λ x fits. (fits, tt))

pub group_prestarts : Alternative (codes "prestartfcconsistgrp ") (map_read (raised command.Prestartfcconsistgrp) (raised_at (codes "-restore "))) (Image OnObject (raised command.Prestartfcconsistgrp))
group_prestarts = flagged (codes "prestartfcconsistgrp ") (codes "-restore ") command.Prestartfcconsistgrp (λ rest. refl) (λ o. refl) (λ o. refl) (λ x fits. (fits, tt))

pub mapping_removals : Alternative (codes "rmfcmap ") (map_read (raised command.Rmfcmap) (raised_at (codes "-force "))) (Image OnObject (raised command.Rmfcmap))
mapping_removals = flagged (codes "rmfcmap ") (codes "-force ") command.Rmfcmap (λ rest. refl) (λ o. refl) (λ o. refl) (λ x fits. (fits, tt))

pub group_removals : Alternative (codes "rmfcconsistgrp ") (map_read (raised command.Rmfcconsistgrp) (raised_at (codes "-force "))) (Image OnObject (raised command.Rmfcconsistgrp))
group_removals = flagged (codes "rmfcconsistgrp ") (codes "-force ") command.Rmfcconsistgrp (λ rest. refl) (λ o. refl) (λ o. refl) (λ x fits. (fits, tt))

-- a start
start :
    (word : List ℕ) (make : Ref → Bool → Bool → Command) →
    ((o : Ref) → asked_line (started make ((true, true), o)) ≡ word ++ started_text ((true, true), o)) →
    ((o : Ref) → asked_line (started make ((true, false), o)) ≡ word ++ started_text ((true, false), o)) →
    ((o : Ref) → asked_line (started make ((false, true), o)) ≡ word ++ started_text ((false, true), o)) →
    ((o : Ref) → asked_line (started make ((false, false), o)) ≡ word ++ started_text ((false, false), o)) →
    Asks (started make) →
    Alternative word (map_read (started make) started_at) (Image OnObject (started make))
start word make both prep restore none asks =
    made {V = Started} word OnObject started_text started_at (started make) Exact-started line asks (plain some_object.0) some_object.1
  where
    line : (x : Started) → OnObject x → asked_line (started make x) ≡ word ++ started_text x
    line ((true, true), o) fits = both o
    line ((true, false), o) fits = prep o
    line ((false, true), o) fits = restore o
    line ((false, false), o) fits = none o

pub starts : Alternative (codes "startfcmap ") (map_read (started command.Startfcmap) started_at) (Image OnObject (started command.Startfcmap))
starts = start (codes "startfcmap ") command.Startfcmap (λ o. refl) (λ o. refl) (λ o. refl) (λ o. refl) (λ x fits. (fits, tt))

pub group_starts : Alternative (codes "startfcconsistgrp ") (map_read (started command.Startfcconsistgrp) started_at) (Image OnObject (started command.Startfcconsistgrp))
group_starts = start (codes "startfcconsistgrp ") command.Startfcconsistgrp (λ o. refl) (λ o. refl) (λ o. refl) (λ o. refl) (λ x fits. (fits, tt))

-- a stop
stop :
    (word : List ℕ) (make : Ref → StopWay → Command) →
    ((o : Ref) → asked_line (stopped make (Plain, o)) ≡ word ++ last_text o) →
    ((o : Ref) → asked_line (stopped make (Force, o)) ≡ word ++ (codes "-force " ++ last_text o)) →
    ((o : Ref) → asked_line (stopped make (Split, o)) ≡ word ++ (codes "-split " ++ last_text o)) →
    Asks (stopped make) →
    Alternative word (map_read (stopped make) stopped_at) (Image OnObject (stopped make))
stop word make alone force split asks =
    made {V = Stopped} word OnObject stopped_text stopped_at (stopped make) Exact-stopped line asks (no_way some_object.0) some_object.1
  where
    line : (x : Stopped) → OnObject x → asked_line (stopped make x) ≡ word ++ stopped_text x
    line (Plain, o) fits = alone o
    line (Force, o) fits = force o
    line (Split, o) fits = split o

pub stops : Alternative (codes "stopfcmap ") (map_read (stopped command.Stopfcmap) stopped_at) (Image OnObject (stopped command.Stopfcmap))
stops = stop (codes "stopfcmap ") command.Stopfcmap (λ o. refl) (λ o. refl) (λ o. refl) (λ x fits. (fits, tt))

pub group_stops : Alternative (codes "stopfcconsistgrp ") (map_read (stopped command.Stopfcconsistgrp) stopped_at) (Image OnObject (stopped command.Stopfcconsistgrp))
group_stops = stop (codes "stopfcconsistgrp ") command.Stopfcconsistgrp (λ o. refl) (λ o. refl) (λ o. refl) (λ x fits. (fits, tt))

-- what each word begins
abbrev pub FitsFlagged : ℕ → Asked → Type 0
FitsFlagged zero a = Image OnObject (raised command.Prestartfcmap) a
FitsFlagged (suc zero) a = Image OnObject (raised command.Prestartfcconsistgrp) a
FitsFlagged (suc (suc zero)) a = Image OnObject (raised command.Rmfcmap) a
FitsFlagged (suc (suc (suc n))) a = Image OnObject (raised command.Rmfcconsistgrp) a

abbrev pub FitsRunning : ℕ → Asked → Type 0
FitsRunning zero a = Image OnObject (started command.Startfcmap) a
FitsRunning (suc zero) a = Image OnObject (started command.Startfcconsistgrp) a
FitsRunning (suc (suc zero)) a = Image OnObject (stopped command.Stopfcmap) a
FitsRunning (suc (suc (suc n))) a = Image OnObject (stopped command.Stopfcconsistgrp) a
