-- All that an entry did, in the trace form: its calls and faults, where it is an entry of a lane, its moves,
-- the grain that it tore, its effects, and the line that ends the entry.
use Rattle.std.specs.Prelude.{◌≡◌, ℕ, ◌≤◌, Bool, true, false, List, [], ◌∷◌, ◌++◌, Option, Some, None, IfSome, Result, Ok, codes}
use Rattle.std.specs.List.{flat_map}
use Rattle.fc_base.specs.Ranges.{IsRising}
use Rattle.fc_base.specs.declared.ranges.Range.{Range}
use Rattle.fc_base.specs.declared.request.Effect.{Effect}
use Rattle.fc_base.specs.declared.request.Effect.TheVariants.{Make, Remove, Trigger, Cut, State, Gone}
use Rattle.fc_base.specs.declared.request.Move.{Move}
use Rattle.fc_base.specs.declared.request.Pair.{Pair}
use Rattle.fc_base.specs.declared.request.Place.TheVariants as place
use Rattle.fc_base.specs.declared.request.Torn.{Torn}
use Rattle.fc_reading.specs.Readers.{map_read, the_word, then_read}
use Rattle.fc_trace.specs.Notes.{calls_text, effect_text, move_text, torn_text}
use Rattle.fc_reading_notes.specs.Lines.{calls_at}
use Rattle.fc_reading_notes.specs.Notes.{notes_at}
use Rattle.fc_reading_notes.specs.declared.lines.LaneCalls.{LaneCalls}
use Rattle.fc_reading_notes.specs.declared.notes.NotTold.{NotTold}
use Rattle.fc_reading_notes.specs.declared.notes.NotTold.TheVariants.{Malformed, NoMemory}
use Rattle.fc_reading_notes.specs.declared.notes.Notes.{Notes}
use Rattle.fc_reading_notes.specs.declared.notes.Told.{Told}

-- each item is so
abbrev pub Each : {X : Type 0} → (X → Type 0) → List X → Type 0
Each IsSo [] = Unit {0}
Each IsSo (x ∷ xs) = IsSo x × Each IsSo xs

-- numbers of 32 bits, and of 64
abbrev pub IsId : ℕ → Type 0
IsId n = n ≤ 4294967295

abbrev pub IsCount : ℕ → Type 0
IsCount n = n ≤ 18446744073709551615

abbrev pub IsCalls : LaneCalls → Type 0
IsCalls calls = IsId calls.calls × (IsCount calls.faults_before × IsCount calls.faults_after)

abbrev pub IsMove : Move → Type 0
IsMove m = IsCount m.slot.0 × (IsId m.volume.0 × IsId m.grain.0)

abbrev pub IsTorn : Torn → Type 0
IsTorn torn = IsId torn.volume.0 × IsId torn.grain.0

abbrev pub IsPair : Pair → Type 0
IsPair pair = IsId pair.map.0 × (IsId pair.source.0 × IsId pair.target.0)

-- grains that a volume can keep
abbrev pub AreKept : List Range → Type 0
AreKept kept = IsRising kept × Each (λ range. IsId range.last) kept

abbrev pub IsEffect : Effect → Type 0
IsEffect (Make volume grains) = IsId volume.0 × IsId grains
IsEffect (Remove volume) = IsId volume.0
IsEffect (Trigger pairs) = Each IsPair pairs
IsEffect (Cut volume kept) = IsId volume.0 × AreKept kept
IsEffect (State map state) = IsId map.0
IsEffect (Gone map) = IsId map.0

abbrev pub AreNotes : Notes → Type 0
AreNotes notes = Each IsMove notes.moves × (IfSome notes.torn IsTorn × Each IsEffect notes.effects)

-- an entry of a lane has calls and faults, and no other entry has
abbrev pub HasCalls : Bool → Option LaneCalls → Type 0
HasCalls true (Some calls) = IsCalls calls
HasCalls true None = ⊥
HasCalls false (Some calls) = ⊥
HasCalls false None = Unit {0}

abbrev pub IsDone : Bool → Told → Type 0
IsDone in_lane told = HasCalls in_lane told.calls × AreNotes told.notes

-- ---- the text

abbrev pub head_text : Option LaneCalls → List ℕ
head_text (Some calls) = calls_text (place.Lane 0) calls.calls calls.faults_before calls.faults_after
head_text None = []

abbrev pub told_text : Told → List ℕ
told_text told =
    head_text told.calls ++ flat_map move_text told.notes.moves ++ torn_text told.notes.torn
    ++ flat_map effect_text told.notes.effects ++ codes ".\n"

abbrev pub IsTold : Bool → List ℕ → Type 0
IsTold in_lane bytes = (told : Told) × IsDone in_lane told × (bytes ≡ told_text told)

-- ---- read from the left

abbrev pub head_at : Bool → List ℕ → Result (Option LaneCalls × List ℕ) ℕ
head_at true = map_read Some calls_at
head_at false = λ bytes. Ok (None, bytes)

abbrev pub told_of : Option LaneCalls × (Notes × Unit {0}) → Told
told_of x = record { calls = x.0; notes = x.1.0 }

abbrev pub told_at : Bool → List ℕ → Result (Told × List ℕ) ℕ
told_at in_lane = map_read told_of (then_read (head_at in_lane) (λ calls. then_read notes_at (λ notes. the_word (codes ".\n"))))

-- where no such lines are read for what stands there
abbrev pub IfMalformed : NotTold → (ℕ → Type 0) → Type 0
IfMalformed (Malformed place) IsPlace = IsPlace place
IfMalformed NoMemory IsPlace = Unit {0}
