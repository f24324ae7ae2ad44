-- The lines of what an entry moved, spoiled and changed are read exactly.
use Rattle.std.proofs.Common.{◌≡◌, ℕ, zero, suc, Bool, true, false, List, [], ◌∷◌, ◌++◌, Option, Some, None, IfSome, fold, map, get_or, codes, decimal, refl, sym, ap, subst, ◌∙◌, append_assoc, arith}
use Rattle.std.specs.List.{flat_map}
use Rattle.std.proofs.lemmas.List.{append-nil}
use Rattle.fc_base.specs.declared.request.Effect.{Effect}
use Rattle.fc_base.specs.declared.request.Effect.TheVariants.{Make, Remove, Trigger, Cut, State, Gone}
use Rattle.fc_base.specs.declared.request.Move.{Move}
use Rattle.fc_base.specs.declared.request.Torn.{Torn}
use Rattle.fc_base.specs.declared.request.Side.TheVariants.{Now}
use Rattle.fc_reading.specs.Readers.{map_read, one_of_at, then_read}
use Rattle.fc_trace.specs.Notes.{effect_text, move_text, side_text, torn_text}
use Rattle.fc_reading_notes.specs.Lines.{effect_at, effect_words, move_at, torn_at}
use Rattle.fc_reading_notes.specs.Lists.{starts_with, while_first}
use Rattle.fc_reading_notes.specs.Notes.{any_note_at, no_notes, note_at, note_words, notes_at, still_moving, with_note}
use Rattle.fc_reading_notes.specs.Told.{AreNotes, Each, IsEffect, IsMove, IsTorn}
use Rattle.fc_reading_notes.specs.declared.notes.Note.{Note}
use Rattle.fc_reading_notes.specs.declared.notes.Note.TheVariants.{Moved, Spoiled, Changed}
use Rattle.fc_reading_notes.specs.declared.notes.Notes.{Notes}
use Rattle.fc_reading.proofs.Exact.{Exact, Exact-map, Exact-then}
use Rattle.fc_reading.proofs.Words.{Ends-nothing, Exact-one_of, IsIndexOf, nothing}
use Rattle.fc_reading_notes.proofs.Effects.{Exact-effect, Exact-effect_at, Exact-image, FitsWord, Image, effect_from, effect_line, effect_to, some_effect}
use Rattle.fc_reading_notes.proofs.LineLemmas.{Exact-move, Exact-torn, move_line, move_text-is, torn_line}
use Rattle.fc_reading_notes.proofs.Whiles.{Exact-while, InTurn, WhileOf, first_joins}

-- ---- a line

abbrev pub note_text : Note → List ℕ
note_text (Moved m) = move_text m
note_text (Spoiled t) = torn_text (Some t)
note_text (Changed e) = effect_text e

-- the same behind its word
abbrev note_line : Note → List ℕ
note_line (Moved m) = move_line m
note_line (Spoiled t) = torn_line t
note_line (Changed e) = effect_line e

abbrev pub FitsNote : Bool → Note → Type 0
FitsNote true (Moved m) = IsMove m
FitsNote true (Spoiled t) = IsTorn t
FitsNote true (Changed e) = IsEffect e
FitsNote false (Moved m) = ⊥
FitsNote false (Spoiled t) = ⊥
FitsNote false (Changed e) = IsEffect e

-- the lines that a word begins
abbrev FitsFirst : ℕ → Note → Type 0
FitsFirst zero note = Image IsMove Moved note
FitsFirst (suc zero) note = Image IsTorn Spoiled note
FitsFirst (suc (suc i)) note = Image (FitsWord i) Changed note

changed_at :
    (i : ℕ) → IsIndexOf effect_words i → Exact (Image (FitsWord i) Changed) note_line nothing (map_read Changed (effect_at i))
changed_at i inside =
    Exact-image {V = Effect} {W = Note} (FitsWord i) effect_line nothing (effect_at i) note_line Changed (Exact-effect_at i inside) (λ e fits. refl)

Exact-any : (i : ℕ) → IsIndexOf note_words i → Exact (FitsFirst i) note_line nothing (any_note_at i)
Exact-any zero inside = Exact-image {V = Move} {W = Note} IsMove move_line nothing move_at note_line Moved Exact-move (λ m fits. refl)
Exact-any (suc zero) inside = Exact-image {V = Torn} {W = Note} IsTorn torn_line nothing torn_at note_line Spoiled Exact-torn (λ t fits. refl)
Exact-any (suc (suc zero)) inside = changed_at 0 (omega arith)
Exact-any (suc (suc (suc zero))) inside = changed_at 1 (omega arith)
Exact-any (suc (suc (suc (suc zero)))) inside = changed_at 2 (omega arith)
Exact-any (suc (suc (suc (suc (suc zero))))) inside = changed_at 3 (omega arith)
Exact-any (suc (suc (suc (suc (suc (suc zero)))))) inside = changed_at 4 (omega arith)
Exact-any (suc (suc (suc (suc (suc (suc (suc zero))))))) inside = changed_at 5 (omega arith)
Exact-any (suc (suc (suc (suc (suc (suc (suc (suc zero)))))))) inside = changed_at 6 (omega arith)
Exact-any (suc (suc (suc (suc (suc (suc (suc (suc (suc n))))))))) inside = absurd (omega (arith, inside))

some_note : (i : ℕ) → IsIndexOf note_words i → (note : Note) × FitsFirst i note
some_note zero inside =
    let m : Move = record { slot = record { 0 = 0 }; volume = record { 0 = 0 }; grain = record { 0 = 0 }; in_place = false } in
    (Moved m, (m, (omega arith, (omega arith, omega arith)), refl))
some_note (suc zero) inside =
    let t : Torn = record { volume = record { 0 = 0 }; grain = record { 0 = 0 }; side = Now } in
    (Spoiled t, (t, (omega arith, omega arith), refl))
some_note (suc (suc i)) inside =
    let e = some_effect i (omega (arith, inside)) in
    (Changed e.0, (e.0, e.1, refl))

torn_joined : (w v s g d n : List ℕ) → w ++ (v ++ s ++ g) ++ s ++ d ++ n ≡ w ++ ((v ++ s) ++ ((g ++ s) ++ (d ++ n)))
torn_joined w v s g d n = simp (append_assoc)

abbrev IsNote : ℕ → Note → Type 0
IsNote i note = FitsNote true note × (note_text note ≡ get_or note_words i [] ++ note_line note)

note_to : (i : ℕ) (note : Note) → IsIndexOf note_words i → FitsFirst i note → FitsNote true note × (note_text note ≡ get_or note_words i [] ++ note_line note)
note_to zero note inside fits =
    let at : IsNote 0 (Moved fits.0) = (fits.1, move_text-is fits.0) in
    subst (IsNote 0) fits.2 at
note_to (suc zero) note inside fits =
    let at : IsNote 1 (Spoiled fits.0) = (
      fits.1,
      torn_joined (codes "+ torn ") (decimal fits.0.volume.0) (codes " ") (decimal fits.0.grain.0) (side_text fits.0.side) (codes "\n"),
    ) in
    subst (IsNote 1) fits.2 at
note_to (suc (suc i)) note inside fits =
    let e = effect_to i fits.0 (omega (arith, inside)) fits.1 in
    let at : IsNote (suc (suc i)) (Changed fits.0) = (e.0, e.1) in
    subst (IsNote (suc (suc i))) fits.2 at

note_from : (note : Note) → FitsNote true note → (i : ℕ) × IsIndexOf note_words i × FitsFirst i note
note_from (Moved m) fits = (0, omega arith, (m, fits, refl))
note_from (Spoiled t) fits = (1, omega arith, (t, fits, refl))
note_from (Changed e) fits =
    let from = effect_from e fits in
    (suc (suc from.0), omega (arith, from.1), (e, from.2, refl))

abbrev First : ℕ × Note → Type 0
First x = IsIndexOf note_words x.0 × FitsFirst x.0 x.1

Exact-any_note : Exact (FitsNote true) note_text nothing (note_at true)
Exact-any_note =
    Exact-map {V = ℕ × Note} {W = Note} First (λ x. get_or note_words x.0 [] ++ note_line x.1) nothing (then_read (one_of_at note_words) any_note_at)
    (FitsNote true) note_text (λ x. x.1)
    (
    Exact-then (IsIndexOf note_words) (λ i. get_or note_words i []) nothing (one_of_at note_words) FitsFirst (λ i. note_line) nothing any_note_at
    (Exact-one_of (codes "+ move ") (codes "+ torn " ∷ effect_words) refl)
    Exact-any some_note (λ i note rest inside fits ends. Ends-nothing (note_line note ++ rest))
    )
    (λ x fits. note_to x.0 x.1 fits.0 fits.1)
    (λ note fits. let from = note_from note fits in ((from.0, note), (from.1, from.2), refl))

late_from : (note : Note) → FitsNote false note → (e : Effect) × IsEffect e × (Changed e ≡ note)
late_from (Moved m) fits = absurd fits
late_from (Spoiled t) fits = absurd fits
late_from (Changed e) fits = (e, fits, refl)

Exact-late : Exact (FitsNote false) note_text nothing (note_at false)
Exact-late =
    Exact-map {V = Effect} {W = Note} IsEffect effect_text nothing (map_read (λ (x : ℕ × Effect). x.1) (then_read (one_of_at effect_words) effect_at))
    (FitsNote false) note_text Changed Exact-effect (λ e fits. (fits, refl)) late_from

Exact-note : (moving : Bool) → Exact (FitsNote moving) note_text nothing (note_at moving)
Exact-note true = Exact-any_note
Exact-note false = Exact-late

effect_begins : (e : Effect) → starts_with 43 (effect_text e) ≡ true
effect_begins (Make volume grains) = refl
effect_begins (Remove volume) = refl
effect_begins (Trigger pairs) = refl
effect_begins (Cut volume kept) = refl
effect_begins (State map state) = refl
effect_begins (Gone map) = refl

note_begins : (moving : Bool) (note : Note) → FitsNote moving note → starts_with 43 (note_text note) ≡ true
note_begins moving (Moved m) fits = refl
note_begins moving (Spoiled t) fits = refl
note_begins moving (Changed e) fits = effect_begins e

note_while : WhileOf 43 FitsNote note_text note_at still_moving
note_while = record { exact = Exact-note; begins = note_begins }

-- ---- all lines

abbrev torn_notes : Option Torn → List Note
torn_notes (Some t) = Spoiled t ∷ []
torn_notes None = []

-- the lines of what was moved, spoiled and changed
abbrev listed : Notes → List Note
listed n = map Moved n.moves ++ (torn_notes n.torn ++ map Changed n.effects)

abbrev pub lines_text : Notes → List ℕ
lines_text n = flat_map move_text n.moves ++ (torn_text n.torn ++ flat_map effect_text n.effects)

-- lines of effects alone
record Changes (notes : List Note) : Type 0 where
  pub effects : List Effect
  pub each : Each IsEffect effects
  pub is : notes ≡ map Changed effects

changes_of : (notes : List Note) → InTurn FitsNote still_moving false notes → Changes notes
changes_of [] fits = record { effects = []; each = tt; is = refl }
changes_of (Moved m ∷ notes) fits = absurd fits.0
changes_of (Spoiled t ∷ notes) fits = absurd fits.0
changes_of (Changed e ∷ notes) fits =
    let c = changes_of notes fits.1 in
    record { effects = e ∷ c.effects; each = (fits.0, c.each); is = ap (λ ns. Changed e ∷ ns) c.is }

record Listed (notes : List Note) : Type 0 where
  pub n : Notes
  pub fits : AreNotes n
  pub is : notes ≡ listed n

listed_of : (notes : List Note) → InTurn FitsNote still_moving true notes → Listed notes
listed_of [] fits = record { n = no_notes; fits = (tt, (tt, tt)); is = refl }
listed_of (Moved m ∷ notes) fits =
    let l = listed_of notes fits.1 in
    record {
      n = record { moves = m ∷ l.n.moves; torn = l.n.torn; effects = l.n.effects };
      fits = ((fits.0, l.fits.0), l.fits.1);
      is = ap (λ ns. Moved m ∷ ns) l.is;
    }
listed_of (Spoiled t ∷ notes) fits =
    let c = changes_of notes fits.1 in
    record {
      n = record { moves = []; torn = Some t; effects = c.effects };
      fits = (tt, (fits.0, c.each));
      is = ap (λ ns. Spoiled t ∷ ns) c.is;
    }
listed_of (Changed e ∷ notes) fits =
    let c = changes_of notes fits.1 in
    record {
      n = record { moves = []; torn = None; effects = e ∷ c.effects };
      fits = (tt, (tt, (fits.0, c.each)));
      is = ap (λ ns. Changed e ∷ ns) c.is;
    }

-- what lines say, put together again
fold_moves : (a ms : List Move) (rest : List Note) → fold with_note (record { moves = a; torn = None; effects = [] }) (map Moved ms ++ rest) ≡ fold with_note (record { moves = a ++ ms; torn = None; effects = [] }) rest
fold_moves a [] rest = ap (λ (b : List Move). fold with_note (record { moves = b; torn = None; effects = [] }) rest) (sym (append-nil a))
fold_moves a (m ∷ ms) rest =
    fold_moves (a ++ m ∷ []) ms rest
    ∙ ap (λ (b : List Move). fold with_note (record { moves = b; torn = None; effects = [] }) rest) (append_assoc a (m ∷ []) ms)

fold_effects : (a : List Move) (t : Option Torn) (b es : List Effect) → fold with_note (record { moves = a; torn = t; effects = b }) (map Changed es) ≡ record { moves = a; torn = t; effects = b ++ es }
fold_effects a t b [] = ap (λ (c : List Effect). record { moves = a; torn = t; effects = c }) (sym (append-nil b))
fold_effects a t b (e ∷ es) =
    fold_effects a t (b ++ e ∷ []) es ∙ ap (λ (c : List Effect). record { moves = a; torn = t; effects = c }) (append_assoc b (e ∷ []) es)

fold_torn : (a : List Move) (t : Option Torn) (es : List Effect) → fold with_note (record { moves = a; torn = None; effects = [] }) (torn_notes t ++ map Changed es) ≡ record { moves = a; torn = t; effects = es }
fold_torn a (Some t) es = fold_effects a (Some t) [] es
fold_torn a None es = fold_effects a None [] es

fold_listed : (n : Notes) → fold with_note no_notes (listed n) ≡ n
fold_listed n = fold_moves [] n.moves (torn_notes n.torn ++ map Changed n.effects) ∙ fold_torn n.moves n.torn n.effects

text_changes : (es : List Effect) → flat_map note_text (map Changed es) ≡ flat_map effect_text es
text_changes [] = refl
text_changes (e ∷ es) = ap (λ t. effect_text e ++ t) (text_changes es)

text_torn : (t : Option Torn) (es : List Effect) → flat_map note_text (torn_notes t ++ map Changed es) ≡ torn_text t ++ flat_map effect_text es
text_torn (Some t) es = ap (λ x. torn_text (Some t) ++ x) (text_changes es)
text_torn None es = text_changes es

text_listed : (ms : List Move) (t : Option Torn) (es : List Effect) → flat_map note_text (map Moved ms ++ (torn_notes t ++ map Changed es)) ≡ flat_map move_text ms ++ (torn_text t ++ flat_map effect_text es)
text_listed [] t es = text_torn t es
text_listed (m ∷ ms) t es =
    ap (λ x. move_text m ++ x) (text_listed ms t es) ∙ sym (append_assoc (move_text m) (flat_map move_text ms) (torn_text t ++ flat_map effect_text es))

fits_late : (es : List Effect) → Each IsEffect es → InTurn FitsNote still_moving false (map Changed es)
fits_late [] each = tt
fits_late (e ∷ es) each = (each.0, fits_late es each.1)

fits_early : (es : List Effect) → Each IsEffect es → InTurn FitsNote still_moving true (map Changed es)
fits_early [] each = tt
fits_early (e ∷ es) each = (each.0, fits_late es each.1)

fits_torn : (t : Option Torn) (es : List Effect) → IfSome t IsTorn → Each IsEffect es → InTurn FitsNote still_moving true (torn_notes t ++ map Changed es)
fits_torn (Some t) es is each = (is, fits_late es each)
fits_torn None es is each = fits_early es each

fits_listed : (ms : List Move) (t : Option Torn) (es : List Effect) → Each IsMove ms → IfSome t IsTorn → Each IsEffect es → InTurn FitsNote still_moving true (map Moved ms ++ (torn_notes t ++ map Changed es))
fits_listed [] t es moves torn each = fits_torn t es torn each
fits_listed (m ∷ ms) t es moves torn each = (moves.0, fits_listed ms t es moves.1 torn each)

notes_to : (notes : List Note) → InTurn FitsNote still_moving true notes → AreNotes (fold with_note no_notes notes) × (lines_text (fold with_note no_notes notes) ≡ flat_map note_text notes)
notes_to notes fits =
    let l = listed_of notes fits in
    let whole : fold with_note no_notes notes ≡ l.n = ap (fold with_note no_notes) l.is ∙ fold_listed l.n in
    let P : Notes → Type 0 = λ n. AreNotes n × (lines_text n ≡ flat_map note_text notes) in
    let at : P l.n = (l.fits, sym (text_listed l.n.moves l.n.torn l.n.effects) ∙ ap (flat_map note_text) (sym l.is)) in
    subst P (sym whole) at

pub Exact-notes : Exact AreNotes lines_text (first_joins 43) notes_at
Exact-notes =
    Exact-map {V = List Note} {W = Notes} (InTurn FitsNote still_moving true) (flat_map note_text) (first_joins 43) (while_first 43 note_at still_moving true)
    AreNotes lines_text (fold with_note no_notes) (Exact-while 43 FitsNote note_text note_at still_moving note_while true)
    notes_to
    (λ n fits. (listed n, fits_listed n.moves n.torn n.effects fits.0 fits.1.0 fits.1.1, fold_listed n))
