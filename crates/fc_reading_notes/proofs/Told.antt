-- All that an entry did is read exactly.
use Rattle.std.proofs.Common.{◌≡◌, ℕ, ◌-◌, ◌≤◌, Bool, true, false, List, [], ◌++◌, Option, Some, None, length, take, codes, Result, Ok, Err, refl, ap, ◌∙◌, append_assoc, length-append, arith}
use Rattle.std.specs.List.{flat_map}
use Rattle.fc_reading.specs.Readers.{the_word, then_read}
use Rattle.fc_reading.specs.Stops.{StopsAt}
use Rattle.fc_trace.specs.Notes.{effect_text, move_text, torn_text}
use Rattle.fc_reading_notes.specs.Lines.{calls_at}
use Rattle.fc_reading_notes.specs.Notes.{no_notes, notes_at}
use Rattle.fc_reading_notes.specs.Told.{AreNotes, HasCalls, IsCalls, IsDone, IsTold, head_at, head_text, told_at, told_of, told_text}
use Rattle.fc_reading_notes.specs.declared.lines.LaneCalls.{LaneCalls}
use Rattle.fc_reading_notes.specs.declared.notes.Notes.{Notes}
use Rattle.fc_reading_notes.specs.declared.notes.Told.{Told}
use Rattle.fc_reading.proofs.Exact.{Exact, Exact-map, Exact-then}
use Rattle.fc_reading.proofs.Fields.{AnyUnit, Exact-and, Exact-word}
use Rattle.fc_reading.proofs.StopsLemmas.{Exact-stops_at, take-front}
use Rattle.fc_reading.proofs.Words.{nothing}
use Rattle.fc_reading_notes.proofs.Choices.{Exact-alike, Exact-none, Is}
use Rattle.fc_reading_notes.proofs.LineLemmas.{Exact-calls, calls_text_of}
use Rattle.fc_reading_notes.proofs.NoteLemmas.{Exact-notes, lines_text}
use Rattle.fc_reading_notes.proofs.Whiles.{first_joins}

-- ---- calls and faults, or none

some_calls : (head : Option LaneCalls) → HasCalls true head → (calls : LaneCalls) × IsCalls calls × (Some calls ≡ head)
some_calls (Some calls) has = (calls, has, refl)
some_calls None has = absurd has

no_calls : (head : Option LaneCalls) → HasCalls false head → head ≡ None
no_calls (Some calls) has = absurd has
no_calls None has = refl

has_none : (head : Option LaneCalls) → head ≡ None → HasCalls false head × (head_text head ≡ [])
has_none (Some calls) is = absurd cc
has_none None is = (tt, refl)

pub Exact-head : (in_lane : Bool) → Exact (HasCalls in_lane) head_text nothing (head_at in_lane)
Exact-head true =
    Exact-map {V = LaneCalls} {W = Option LaneCalls} IsCalls calls_text_of nothing calls_at (HasCalls true) head_text Some Exact-calls
    (λ calls fits. (fits, refl)) some_calls
Exact-head false = Exact-alike (Is None) (λ head. []) (head_at false) (HasCalls false) head_text (Exact-none None) has_none no_calls

pub some_head : (in_lane : Bool) → (head : Option LaneCalls) × HasCalls in_lane head
some_head true = (Some (record { calls = 0; faults_before = 0; faults_after = 0 }), (omega arith, (omega arith, omega arith)))
some_head false = (None, tt)

-- ---- all of it

abbrev Tail : Type 0
Tail = Notes × Unit {0}

abbrev IsTail : Tail → Type 0
IsTail x = AreNotes x.0 × AnyUnit x.1

abbrev tail_text : Tail → List ℕ
tail_text x = lines_text x.0 ++ codes ".\n"

abbrev tail_at : List ℕ → Result (Tail × List ℕ) ℕ
tail_at = then_read notes_at (λ notes. the_word (codes ".\n"))

Exact-tail : Exact IsTail tail_text nothing tail_at
Exact-tail =
    Exact-then {V = Notes} {W = Unit {0}} AreNotes lines_text (first_joins 43) notes_at (λ n. AnyUnit) (λ n u. codes ".\n") nothing (λ n. the_word (codes ".\n"))
    Exact-notes (λ n fits. Exact-word (codes ".\n")) (λ n fits. (tt, tt)) (λ n u rest fits any ends. refl)

abbrev All : Type 0
All = Option LaneCalls × Tail

abbrev IsAll : Bool → All → Type 0
IsAll in_lane x = HasCalls in_lane x.0 × IsTail x.1

abbrev all_text : All → List ℕ
all_text x = head_text x.0 ++ tail_text x.1

told_joined : (h m t e n : List ℕ) → h ++ m ++ t ++ e ++ n ≡ h ++ ((m ++ (t ++ e)) ++ n)
told_joined h m t e n = simp (append_assoc)

pub Exact-told : (in_lane : Bool) → Exact (IsDone in_lane) told_text nothing (told_at in_lane)
Exact-told in_lane =
    Exact-map {V = All} {W = Told} (IsAll in_lane) all_text nothing (then_read (head_at in_lane) (λ calls. tail_at)) (IsDone in_lane) told_text told_of
    (
    Exact-and {V = Option LaneCalls} {W = Tail} (HasCalls in_lane) head_text (head_at in_lane) IsTail tail_text tail_at (Exact-head in_lane) Exact-tail
    (no_notes, tt) ((tt, (tt, tt)), tt)
    )
    (
    λ x fits. (
      (fits.0, fits.1.0),
      told_joined (head_text x.0) (flat_map move_text x.1.0.moves) (torn_text x.1.0.torn) (flat_map effect_text x.1.0.effects) (codes ".\n"),
    )
    )
    (λ told done. ((told.calls, (told.notes, tt)), (done.0, (done.1, tt)), refl))

-- ---- what a call answers

pub told-stops : (in_lane : Bool) (bytes : List ℕ) (left : ℕ) → told_at in_lane bytes ≡ Err left → StopsAt (IsTold in_lane) bytes (length bytes - left)
told-stops in_lane bytes left e = Exact-stops_at (IsDone in_lane) told_text (told_at in_lane) (Exact-told in_lane) bytes left e

pub told-found :
    (in_lane : Bool) (bytes : List ℕ) (told : Told) (rest : List ℕ) → told_at in_lane bytes ≡ Ok (told, rest) →
    IsDone in_lane told × (length rest ≤ length bytes) × (take (length bytes - length rest) bytes ≡ told_text told)
told-found in_lane bytes told rest e =
    let t = (Exact-told in_lane).takes bytes told rest e in (
      t.fits,
      omega (arith, ap length t.split, length-append (told_text told) rest),
      ap (take (length bytes - length rest)) t.split
          ∙ take-front (told_text told) rest (length bytes - length rest) (omega (arith, ap length t.split, length-append (told_text told) rest)),
    )

pub told-left : (in_lane : Bool) (bytes : List ℕ) (left : ℕ) → told_at in_lane bytes ≡ Err left → left ≤ length bytes
told-left in_lane bytes left e =
    let s = (Exact-told in_lane).stops bytes left e in
    omega (arith, s.left_is, ap length s.split, length-append s.front s.rest)
