-- The lines of what an entry did are read exactly, each behind the word that begins it.
use Rattle.std.proofs.Common.{◌≡◌, ℕ, zero, suc, ◌^◌, ◌<◌, ◌≤◌, Bool, true, false, List, [], ◌∷◌, ◌++◌, length, get_or, codes, decimal, Some, refl, sym, ap, ◌∙◌, append_assoc, length-append, arith, lit<}
use Rattle.std.specs.List.{flat_map}
use Rattle.std.proofs.lemmas.List.{append-nil}
use Rattle.fc_base.specs.declared.request.Move.{Move}
use Rattle.fc_base.specs.declared.request.Pair.{Pair}
use Rattle.fc_base.specs.declared.request.Side.{Side}
use Rattle.fc_base.specs.declared.request.Side.TheVariants.{Now, Under}
use Rattle.fc_base.specs.declared.request.Torn.{Torn}
use Rattle.fc_base.specs.declared.state.MapState.{MapState}
use Rattle.fc_base.specs.declared.state.MapState.TheVariants as state
use Rattle.fc_entry.specs.Text.{state_text}
use Rattle.fc_reading.specs.Readers.{is_decimal, one_of_at, the_word, then_read}
use Rattle.fc_trace.specs.Notes.{move_text, pair_text, side_text, text_if}
use Rattle.fc_reading_notes.specs.Lines.{calls_at, line_calls, count_at, ending_at, id_at, move_at, move_ends, move_of, pair_at, pair_ends, pair_of, pairs_at, state_at, state_ends, state_of, torn_at, torn_ends, torn_of}
use Rattle.fc_reading_notes.specs.Told.{Each, IsCalls, IsCount, IsId, IsMove, IsPair, IsTorn, head_text}
use Rattle.fc_reading_notes.specs.declared.lines.LaneCalls.{LaneCalls}
use Rattle.fc_reading.proofs.Exact.{Ends, Exact, Exact-map}
use Rattle.fc_reading.proofs.Fields.{AnyUnit, Exact-and, Exact-field, Exact-word}
use Rattle.fc_reading.proofs.Words.{Exact-one_of, IsIndexOf, nothing}
use Rattle.fc_reading_notes.proofs.Choices.{Exact-ending, IsEnding, ending_text, small}
use Rattle.fc_reading_notes.proofs.Lists.{AllFit, ChainOf, Exact-chain, all_text}

small_64 : 18446744073709551615 < 2 ^ 64
small_64 = lit< tt

pub Exact-id : (word : List ℕ) → ((rest : List ℕ) → Ends is_decimal (word ++ rest)) → Exact IsId (λ n. decimal n ++ word) nothing (id_at word)
Exact-id word apart = Exact-field 4294967295 small word apart

-- a number behind which its line ends; behind which a space stands
pub line_end : Exact IsId (λ n. decimal n ++ codes "\n") nothing (id_at (codes "\n"))
line_end = Exact-id (codes "\n") (λ rest. refl)

pub spaced : Exact IsId (λ n. decimal n ++ codes " ") nothing (id_at (codes " "))
spaced = Exact-id (codes " ") (λ rest. refl)

pub Exact-count : (word : List ℕ) → ((rest : List ℕ) → Ends is_decimal (word ++ rest)) → Exact IsCount (λ n. decimal n ++ word) nothing (count_at word)
Exact-count word apart = Exact-field 18446744073709551615 small_64 word apart

-- ---- calls and faults

abbrev Calls : Type 0
Calls = Unit {0} × (ℕ × (ℕ × ℕ))

abbrev AreCalls : Calls → Type 0
AreCalls x = AnyUnit x.0 × (IsId x.1.0 × (IsCount x.1.1.0 × IsCount x.1.1.1))

abbrev calls_line : Calls → List ℕ
calls_line x = codes "+ calls " ++ ((decimal x.1.0 ++ codes " faults ") ++ ((decimal x.1.1.0 ++ codes " ") ++ (decimal x.1.1.1 ++ codes "\n")))

calls_joined : (p c f b s a n : List ℕ) → p ++ c ++ f ++ (b ++ s ++ a) ++ n ≡ p ++ ((c ++ f) ++ ((b ++ s) ++ (a ++ n)))
calls_joined p c f b s a n = simp (append_assoc)

abbrev pub calls_text_of : LaneCalls → List ℕ
calls_text_of calls = head_text (Some calls)

pub Exact-calls : Exact IsCalls calls_text_of nothing calls_at
Exact-calls =
    let faults = Exact-and {V = ℕ} {W = ℕ} IsCount (λ n. decimal n ++ codes " ") (count_at (codes " ")) IsCount (λ n. decimal n ++ codes "\n") (count_at (codes "\n"))
    (Exact-count (codes " ") (λ rest. refl)) (Exact-count (codes "\n") (λ rest. refl)) 0 (omega arith) in
    let all = Exact-and {V = ℕ} {W = ℕ × ℕ} IsId (λ n. decimal n ++ codes " faults ") (id_at (codes " faults ")) (λ x. IsCount x.0 × IsCount x.1)
    (λ x. (decimal x.0 ++ codes " ") ++ (decimal x.1 ++ codes "\n")) (then_read (count_at (codes " ")) (λ b. count_at (codes "\n")))
    (Exact-id (codes " faults ") (λ rest. refl)) faults (0, 0) (omega arith, omega arith) in
    let line = Exact-and {V = Unit {0}} {W = ℕ × (ℕ × ℕ)} AnyUnit (λ u. codes "+ calls ") (the_word (codes "+ calls ")) (λ x. IsId x.0 × (IsCount x.1.0 × IsCount x.1.1))
    (λ x. (decimal x.0 ++ codes " faults ") ++ ((decimal x.1.0 ++ codes " ") ++ (decimal x.1.1 ++ codes "\n")))
    (then_read (id_at (codes " faults ")) (λ c. then_read (count_at (codes " ")) (λ b. count_at (codes "\n"))))
    (Exact-word (codes "+ calls ")) all (0, (0, 0)) (omega arith, (omega arith, omega arith)) in
    Exact-map {V = Calls} {W = LaneCalls} AreCalls calls_line nothing
    (then_read (the_word (codes "+ calls ")) (λ u. then_read (id_at (codes " faults ")) (λ c. then_read (count_at (codes " ")) (λ b. count_at (codes "\n")))))
    IsCalls calls_text_of line_calls line
    (
    λ x fits. (
      fits.1,
      calls_joined (codes "+ calls ") (decimal x.1.0) (codes " faults ") (decimal x.1.1.0) (codes " ") (decimal x.1.1.1) (codes "\n"),
    )
    )
    (λ calls fits. ((tt, (calls.calls, (calls.faults_before, calls.faults_after))), (tt, fits), refl))

-- ---- a move

abbrev pub move_line : Move → List ℕ
move_line m =
    (decimal m.slot.0 ++ codes " ") ++ ((decimal m.volume.0 ++ codes " ") ++ (decimal m.grain.0 ++ (text_if m.in_place (codes " in place") ++ codes "\n")))

move_joined : (w s e v g p n : List ℕ) → w ++ s ++ e ++ (v ++ e ++ g) ++ p ++ n ≡ w ++ ((s ++ e) ++ ((v ++ e) ++ (g ++ (p ++ n))))
move_joined w s e v g p n = simp (append_assoc)

pub move_text-is : (m : Move) → move_text m ≡ codes "+ move " ++ move_line m
move_text-is m =
    move_joined (codes "+ move ") (decimal m.slot.0) (codes " ") (decimal m.volume.0) (decimal m.grain.0) (text_if m.in_place (codes " in place")) (codes "\n")

abbrev Moving : Type 0
Moving = ℕ × (ℕ × (ℕ × ℕ))

abbrev AreMoving : Moving → Type 0
AreMoving x = IsCount x.0 × (IsId x.1.0 × IsEnding move_ends x.1.1)

abbrev moving_text : Moving → List ℕ
moving_text x = (decimal x.0 ++ codes " ") ++ ((decimal x.1.0 ++ codes " ") ++ ending_text move_ends x.1.1)

move_to : (x : Moving) → AreMoving x → IsMove (move_of x) × (move_line (move_of x) ≡ moving_text x)
move_to (s, (v, (g, zero))) fits = ((fits.0, (fits.1.0, fits.1.1.0)), refl)
move_to (s, (v, (g, suc zero))) fits = ((fits.0, (fits.1.0, fits.1.1.0)), refl)
move_to (s, (v, (g, suc (suc n)))) fits = absurd (omega (arith, fits.1.1.1))

move_from : (s v g : ℕ) (in_place : Bool) → IsCount s → IsId v → IsId g → (x : Moving) × AreMoving x × (move_of x ≡ record { slot = record { 0 = s }; volume = record { 0 = v }; grain = record { 0 = g }; in_place = in_place })
move_from s v g false a b c = ((s, (v, (g, 0))), (a, (b, (c, omega arith))), refl)
move_from s v g true a b c = ((s, (v, (g, 1))), (a, (b, (c, omega arith))), refl)

pub Exact-move : Exact IsMove move_line nothing move_at
Exact-move =
    let ending = Exact-ending (codes "\n") (codes " in place\n" ∷ []) refl refl in
    let two = Exact-and {V = ℕ} {W = ℕ × ℕ} IsId (λ n. decimal n ++ codes " ") (id_at (codes " ")) (IsEnding move_ends) (ending_text move_ends) (ending_at move_ends)
    spaced ending (0, 0) (omega arith, omega arith) in
    let three = Exact-and {V = ℕ} {W = ℕ × (ℕ × ℕ)} IsCount (λ n. decimal n ++ codes " ") (count_at (codes " ")) (λ x. IsId x.0 × IsEnding move_ends x.1)
    (λ x. (decimal x.0 ++ codes " ") ++ ending_text move_ends x.1) (then_read (id_at (codes " ")) (λ v. ending_at move_ends))
    (Exact-count (codes " ") (λ rest. refl)) two (0, (0, 0)) (omega arith, (omega arith, omega arith)) in
    Exact-map {V = Moving} {W = Move} AreMoving moving_text nothing (then_read (count_at (codes " ")) (λ s. then_read (id_at (codes " ")) (λ v. ending_at move_ends)))
    IsMove move_line move_of three move_to
    (λ m fits. move_from m.slot.0 m.volume.0 m.grain.0 m.in_place fits.0 fits.1.0 fits.1.1)

-- ---- a torn grain

abbrev pub torn_line : Torn → List ℕ
torn_line t = (decimal t.volume.0 ++ codes " ") ++ ((decimal t.grain.0 ++ codes " ") ++ (side_text t.side ++ codes "\n"))

abbrev Tearing : Type 0
Tearing = ℕ × (ℕ × ℕ)

abbrev AreTearing : Tearing → Type 0
AreTearing x = IsId x.0 × (IsId x.1.0 × IsIndexOf torn_ends x.1.1)

abbrev tearing_text : Tearing → List ℕ
tearing_text x = (decimal x.0 ++ codes " ") ++ ((decimal x.1.0 ++ codes " ") ++ get_or torn_ends x.1.1 [])

torn_to : (x : Tearing) → AreTearing x → IsTorn (torn_of x) × (torn_line (torn_of x) ≡ tearing_text x)
torn_to (v, (g, zero)) fits = ((fits.0, fits.1.0), refl)
torn_to (v, (g, suc zero)) fits = ((fits.0, fits.1.0), refl)
torn_to (v, (g, suc (suc n))) fits = absurd (omega (arith, fits.1.1))

torn_from : (v g : ℕ) (side : Side) → IsId v → IsId g → (x : Tearing) × AreTearing x × (torn_of x ≡ record { volume = record { 0 = v }; grain = record { 0 = g }; side = side })
torn_from v g Now a b = ((v, (g, 0)), (a, (b, omega arith)), refl)
torn_from v g Under a b = ((v, (g, 1)), (a, (b, omega arith)), refl)

pub Exact-torn : Exact IsTorn torn_line nothing torn_at
Exact-torn =
    let two = Exact-and {V = ℕ} {W = ℕ} IsId (λ n. decimal n ++ codes " ") (id_at (codes " ")) (IsIndexOf torn_ends) (λ i. get_or torn_ends i []) (one_of_at torn_ends)
    spaced (Exact-one_of (codes "now\n") (codes "under\n" ∷ []) refl) 0 (omega arith) in
    let three = Exact-and {V = ℕ} {W = ℕ × ℕ} IsId (λ n. decimal n ++ codes " ") (id_at (codes " ")) (λ x. IsId x.0 × IsIndexOf torn_ends x.1)
    (λ x. (decimal x.0 ++ codes " ") ++ get_or torn_ends x.1 []) (then_read (id_at (codes " ")) (λ g. one_of_at torn_ends))
    spaced two (0, 0) (omega arith, omega arith) in
    Exact-map {V = Tearing} {W = Torn} AreTearing tearing_text nothing (then_read (id_at (codes " ")) (λ v. then_read (id_at (codes " ")) (λ g. one_of_at torn_ends)))
    IsTorn torn_line torn_of three torn_to (λ t fits. torn_from t.volume.0 t.grain.0 t.side fits.0 fits.1)

-- ---- a state

abbrev pub AnyState : MapState → Type 0
AnyState s = Unit {0}

abbrev pub state_line : MapState → List ℕ
state_line s = state_text s ++ codes "\n"

state_to : (i : ℕ) → IsIndexOf state_ends i → AnyState (state_of i) × (state_line (state_of i) ≡ get_or state_ends i [])
state_to zero inside = (tt, refl)
state_to (suc zero) inside = (tt, refl)
state_to (suc (suc zero)) inside = (tt, refl)
state_to (suc (suc (suc zero))) inside = (tt, refl)
state_to (suc (suc (suc (suc zero)))) inside = (tt, refl)
state_to (suc (suc (suc (suc (suc zero))))) inside = (tt, refl)
state_to (suc (suc (suc (suc (suc (suc zero)))))) inside = (tt, refl)
state_to (suc (suc (suc (suc (suc (suc (suc n))))))) inside = absurd (omega (arith, inside))

state_from : (s : MapState) → AnyState s → (i : ℕ) × IsIndexOf state_ends i × (state_of i ≡ s)
state_from state.Empty any = (0, omega arith, refl)
state_from state.IdleOrCopied any = (1, omega arith, refl)
state_from state.Preparing any = (2, omega arith, refl)
state_from state.Prepared any = (3, omega arith, refl)
state_from state.Copying any = (4, omega arith, refl)
state_from state.Stopping any = (5, omega arith, refl)
state_from state.Stopped any = (6, omega arith, refl)

pub Exact-state : Exact AnyState state_line nothing state_at
Exact-state =
    Exact-map {V = ℕ} {W = MapState} (IsIndexOf state_ends) (λ i. get_or state_ends i []) nothing (one_of_at state_ends) AnyState state_line state_of
    (
    Exact-one_of (codes "empty\n")
    (codes "idle_or_copied\n" ∷ codes "preparing\n" ∷ codes "prepared\n" ∷ codes "copying\n" ∷ codes "stopping\n" ∷ codes "stopped\n" ∷ []) refl
    )
    state_to state_from

-- ---- a pair

abbrev more_text : Bool → List ℕ
more_text true = codes " "
more_text false = codes "\n"

abbrev pub pair_line : Pair × Bool → List ℕ
pair_line x =
    (decimal x.0.map.0 ++ codes ":") ++ ((decimal x.0.source.0 ++ codes ">") ++ (decimal x.0.target.0 ++ (text_if x.0.incremental (codes "i") ++ more_text x.1)))

abbrev Pairing : Type 0
Pairing = ℕ × (ℕ × (ℕ × ℕ))

abbrev ArePairing : Pairing → Type 0
ArePairing x = IsId x.0 × (IsId x.1.0 × IsEnding pair_ends x.1.1)

abbrev pairing_text : Pairing → List ℕ
pairing_text x = (decimal x.0 ++ codes ":") ++ ((decimal x.1.0 ++ codes ">") ++ ending_text pair_ends x.1.1)

abbrev IsPairOf : Pair × Bool → Type 0
IsPairOf x = IsPair x.0

pair_to : (x : Pairing) → ArePairing x → IsPairOf (pair_of x) × (pair_line (pair_of x) ≡ pairing_text x)
pair_to (m, (s, (t, zero))) fits = ((fits.0, (fits.1.0, fits.1.1.0)), refl)
pair_to (m, (s, (t, suc zero))) fits = ((fits.0, (fits.1.0, fits.1.1.0)), refl)
pair_to (m, (s, (t, suc (suc zero)))) fits = ((fits.0, (fits.1.0, fits.1.1.0)), refl)
pair_to (m, (s, (t, suc (suc (suc zero))))) fits = ((fits.0, (fits.1.0, fits.1.1.0)), refl)
pair_to (m, (s, (t, suc (suc (suc (suc n)))))) fits = absurd (omega (arith, fits.1.1.1))

pair_from : (m s t : ℕ) (incremental more : Bool) → IsId m → IsId s → IsId t → (x : Pairing) × ArePairing x × (pair_of x ≡ (record { map = record { 0 = m }; source = record { 0 = s }; target = record { 0 = t }; incremental = incremental }, more))
pair_from m s t false false a b c = ((m, (s, (t, 0))), (a, (b, (c, omega arith))), refl)
pair_from m s t false true a b c = ((m, (s, (t, 1))), (a, (b, (c, omega arith))), refl)
pair_from m s t true false a b c = ((m, (s, (t, 2))), (a, (b, (c, omega arith))), refl)
pair_from m s t true true a b c = ((m, (s, (t, 3))), (a, (b, (c, omega arith))), refl)

Exact-pair : Exact IsPairOf pair_line nothing pair_at
Exact-pair =
    let ending = Exact-ending (codes "\n") (codes " " ∷ codes "i\n" ∷ codes "i " ∷ []) refl refl in
    let two = Exact-and {V = ℕ} {W = ℕ × ℕ} IsId (λ n. decimal n ++ codes ">") (id_at (codes ">")) (IsEnding pair_ends) (ending_text pair_ends) (ending_at pair_ends)
    (Exact-id (codes ">") (λ rest. refl)) ending (0, 0) (omega arith, omega arith) in
    let three = Exact-and {V = ℕ} {W = ℕ × (ℕ × ℕ)} IsId (λ n. decimal n ++ codes ":") (id_at (codes ":")) (λ x. IsId x.0 × IsEnding pair_ends x.1)
    (λ x. (decimal x.0 ++ codes ">") ++ ending_text pair_ends x.1) (then_read (id_at (codes ">")) (λ v. ending_at pair_ends))
    (Exact-id (codes ":") (λ rest. refl)) two (0, (0, 0)) (omega arith, (omega arith, omega arith)) in
    Exact-map {V = Pairing} {W = Pair × Bool} ArePairing pairing_text nothing (then_read (id_at (codes ":")) (λ m. then_read (id_at (codes ">")) (λ s. ending_at pair_ends)))
    IsPairOf pair_line pair_of three pair_to
    (λ x fits. pair_from x.0.map.0 x.0.source.0 x.0.target.0 x.0.incremental x.1 fits.0 fits.1.0 fits.1.1)

-- ---- pairs

abbrev Anywhere : Unit {0} → Type 0
Anywhere state = Unit {0}

abbrev pub FitsPair : Unit {0} → Pair × Bool → Type 0
FitsPair state x = IsPair x.0

abbrev pub pair_next : Unit {0} → Pair → Unit {0}
pair_next state pair = tt

has_byte : (a b c : List ℕ) → 1 ≤ length b → 1 ≤ length ((a ++ b) ++ c)
has_byte a b c some = omega (arith, some, length-append (a ++ b) c, length-append a b)

pair_chain : ChainOf Anywhere FitsPair pair_line (λ (state : Unit {0}). pair_at) pair_next
pair_chain = record {
  exact = λ s good. Exact-pair;
  some =
      λ s x fits.
      has_byte (decimal x.0.map.0) (codes ":") ((decimal x.0.source.0 ++ codes ">") ++ (decimal x.0.target.0 ++ (text_if x.0.incremental (codes "i") ++ more_text x.1)))
      (omega arith);
  next_good = λ s v good fits. tt;
  ends =
      λ s good. (
        record { map = record { 0 = 0 }; source = record { 0 = 0 }; target = record { 0 = 0 }; incremental = false },
        (omega arith, (omega arith, omega arith)),
      );
}

pub Exact-pairs : Exact (AllFit FitsPair pair_next tt) (all_text pair_line) nothing pairs_at
Exact-pairs = Exact-chain Anywhere FitsPair pair_line (λ (state : Unit {0}). pair_at) pair_next pair_chain tt tt

pub pairs_fit : (pair : Pair) (pairs : List Pair) → Each IsPair (pair ∷ pairs) → AllFit FitsPair pair_next tt (pair ∷ pairs)
pairs_fit pair [] each = each.0
pairs_fit pair (next ∷ pairs) each = (each.0, pairs_fit next pairs each.1)

pub pairs_each : (pairs : List Pair) → AllFit FitsPair pair_next tt pairs → Each IsPair pairs
pairs_each [] fits = absurd fits
pairs_each (pair ∷ []) fits = (fits, tt)
pairs_each (pair ∷ next ∷ pairs) fits = (fits.0, pairs_each (next ∷ pairs) fits.1)

last_joined : (s m c v g t i n : List ℕ) → s ++ ((m ++ c) ++ ((v ++ g) ++ (t ++ (i ++ n)))) ≡ ((s ++ m ++ c ++ v ++ g ++ t ++ i) ++ []) ++ n
last_joined s m c v g t i n = simp (append_assoc, append-nil)

more_joined : (s m c v g t i others : List ℕ) → s ++ (((m ++ c) ++ ((v ++ g) ++ (t ++ (i ++ s)))) ++ others) ≡ (s ++ m ++ c ++ v ++ g ++ t ++ i) ++ (s ++ others)
more_joined s m c v g t i others = simp (append_assoc)

pub pairs_joined : (pair : Pair) (pairs : List Pair) → codes " " ++ all_text pair_line (pair ∷ pairs) ≡ flat_map pair_text (pair ∷ pairs) ++ codes "\n"
pairs_joined pair [] =
    last_joined (codes " ") (decimal pair.map.0) (codes ":") (decimal pair.source.0) (codes ">") (decimal pair.target.0) (text_if pair.incremental (codes "i")) (codes "\n")
pairs_joined pair (next ∷ pairs) =
    more_joined (codes " ") (decimal pair.map.0) (codes ":") (decimal pair.source.0) (codes ">") (decimal pair.target.0) (text_if pair.incremental (codes "i")) (all_text pair_line (next ∷ pairs))
    ∙ ap (λ others. pair_text pair ++ others) (pairs_joined next pairs)
    ∙ sym (append_assoc (pair_text pair) (flat_map pair_text (next ∷ pairs)) (codes "\n"))
