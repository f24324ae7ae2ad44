-- The lines of what an entry did, each read from the left behind the word that begins it.
use Rattle.std.specs.Prelude.{ℕ, ◌+◌, ◌==◌, Bool, ◌||◌, if◌then◌else◌, nat_le, List, [], ◌∷◌, Result, Ok, codes}
use Rattle.fc_base.specs.declared.ranges.Range.{Range}
use Rattle.fc_base.specs.declared.request.Effect.{Effect}
use Rattle.fc_base.specs.declared.request.Effect.TheVariants.{Make, Remove, Trigger, Cut, State, Gone}
use Rattle.fc_base.specs.declared.request.Move.{Move}
use Rattle.fc_base.specs.declared.request.Pair.{Pair}
use Rattle.fc_base.specs.declared.request.Side.{Side}
use Rattle.fc_base.specs.declared.request.Side.TheVariants.{Now, Under}
use Rattle.fc_base.specs.declared.request.Torn.{Torn}
use Rattle.fc_base.specs.declared.state.MapState.{MapState}
use Rattle.fc_base.specs.declared.state.MapState.TheVariants as state
use Rattle.fc_reading.specs.Readers.{field_at, map_read, number_at, one_of_at, the_word, then_read}
use Rattle.fc_reading_notes.specs.Between.{between_at}
use Rattle.fc_reading_notes.specs.Lists.{by_first, chain}
use Rattle.fc_reading_notes.specs.declared.lines.LaneCalls.{LaneCalls}

-- a number of 32 bits; of 64 bits
abbrev pub id_at : List ℕ → List ℕ → Result (ℕ × List ℕ) ℕ
id_at = field_at 4294967295

abbrev pub count_at : List ℕ → List ℕ → Result (ℕ × List ℕ) ℕ
count_at = field_at 18446744073709551615

-- a number of 32 bits, and one of some words behind it
abbrev pub ending_at : List (List ℕ) → List ℕ → Result ((ℕ × ℕ) × List ℕ) ℕ
ending_at words = then_read (number_at 4294967295) (λ n. one_of_at words)

-- the calls and faults of an entry of a lane
abbrev pub line_calls : Unit {0} × (ℕ × (ℕ × ℕ)) → LaneCalls
line_calls x = record { calls = x.1.0; faults_before = x.1.1.0; faults_after = x.1.1.1 }

abbrev pub calls_at : List ℕ → Result (LaneCalls × List ℕ) ℕ
calls_at =
    map_read line_calls
    (then_read (the_word (codes "+ calls ")) (λ u. then_read (id_at (codes " faults ")) (λ c. then_read (count_at (codes " ")) (λ b. count_at (codes "\n")))))

-- a move
abbrev pub move_ends : List (List ℕ)
move_ends = codes "\n" ∷ codes " in place\n" ∷ []

abbrev pub move_of : ℕ × (ℕ × (ℕ × ℕ)) → Move
move_of x = record { slot = record { 0 = x.0 }; volume = record { 0 = x.1.0 }; grain = record { 0 = x.1.1.0 }; in_place = x.1.1.1 == 1 }

abbrev pub move_at : List ℕ → Result (Move × List ℕ) ℕ
move_at = map_read move_of (then_read (count_at (codes " ")) (λ s. then_read (id_at (codes " ")) (λ v. ending_at move_ends)))

-- a torn grain
abbrev pub torn_ends : List (List ℕ)
torn_ends = codes "now\n" ∷ codes "under\n" ∷ []

abbrev pub side_of : ℕ → Side
side_of n = if n == 0 then Now else Under

abbrev pub torn_of : ℕ × (ℕ × ℕ) → Torn
torn_of x = record { volume = record { 0 = x.0 }; grain = record { 0 = x.1.0 }; side = side_of x.1.1 }

abbrev pub torn_at : List ℕ → Result (Torn × List ℕ) ℕ
torn_at = map_read torn_of (then_read (id_at (codes " ")) (λ v. then_read (id_at (codes " ")) (λ g. one_of_at torn_ends)))

-- a state, and the end of its line
abbrev pub state_ends : List (List ℕ)
state_ends =
    codes "empty\n" ∷ codes "idle_or_copied\n" ∷ codes "preparing\n" ∷ codes "prepared\n" ∷ codes "copying\n" ∷ codes "stopping\n"
    ∷ codes "stopped\n" ∷ []

abbrev pub state_of : ℕ → MapState
state_of n =
    if n == 0 then state.Empty else if n == 1 then state.IdleOrCopied else if n == 2 then state.Preparing
    else if n == 3 then state.Prepared else if n == 4 then state.Copying else if n == 5 then state.Stopping else state.Stopped

abbrev pub state_at : List ℕ → Result (MapState × List ℕ) ℕ
state_at = map_read state_of (one_of_at state_ends)

-- a pair of a trigger, and whether one more follows
abbrev pub pair_ends : List (List ℕ)
pair_ends = codes "\n" ∷ codes " " ∷ codes "i\n" ∷ codes "i " ∷ []

abbrev pub pair_of : ℕ × (ℕ × (ℕ × ℕ)) → Pair × Bool
pair_of x = (
  record { map = record { 0 = x.0 }; source = record { 0 = x.1.0 }; target = record { 0 = x.1.1.0 }; incremental = nat_le 2 x.1.1.1 },
  (x.1.1.1 == 1) || (x.1.1.1 == 3),
)

abbrev pub pair_at : List ℕ → Result ((Pair × Bool) × List ℕ) ℕ
pair_at = map_read pair_of (then_read (id_at (codes ":")) (λ m. then_read (id_at (codes ">")) (λ s. ending_at pair_ends)))

abbrev pub pairs_at : List ℕ → Result (List Pair × List ℕ) ℕ
pairs_at = chain (λ (state : Unit {0}). pair_at) (λ state pair. tt) tt

-- a range of grains, the first of them no less than `least`, and whether one more follows
abbrev pub first_ends : ℕ → List (List ℕ)
first_ends first =
    codes "\n" ∷ (if first == 4294967295 then [] else codes "-" ∷ (if first == 4294967294 then [] else codes "," ∷ []))

abbrev pub last_ends : ℕ → List (List ℕ)
last_ends last = codes "\n" ∷ (if nat_le 4294967294 last then [] else codes "," ∷ [])

abbrev pub range_of : ℕ → ℕ → Bool → Range × Bool
range_of first last more = (record { first = first; last = last }, more)

abbrev pub last_at : ℕ → List ℕ → Result ((Range × Bool) × List ℕ) ℕ
last_at first =
    map_read (λ x. range_of first x.0 (x.1 == 1)) (then_read (between_at (first + 1) 4294967295) (λ last. one_of_at (last_ends last)))

abbrev pub behind_first : ℕ → ℕ → List ℕ → Result ((Range × Bool) × List ℕ) ℕ
behind_first first end bytes = if end == 1 then last_at first bytes else Ok (range_of first first (end == 2), bytes)

abbrev pub range_at : ℕ → List ℕ → Result ((Range × Bool) × List ℕ) ℕ
range_at least =
    map_read (λ x. x.1) (then_read (between_at least 4294967295) (λ first. map_read (λ y. y.1) (then_read (one_of_at (first_ends first)) (behind_first first))))

-- the grains that a volume keeps: ranges, rising and never touching
abbrev pub ranges_at : List ℕ → Result (List Range × List ℕ) ℕ
ranges_at = chain range_at (λ least range. range.last + 2) 0

abbrev pub kept_at : List ℕ → Result (List Range × List ℕ) ℕ
kept_at = by_first 110 (map_read (λ u. []) (the_word (codes "none\n"))) ranges_at

-- an effect, by its word
abbrev pub effect_words : List (List ℕ)
effect_words =
    codes "+ make " ∷ codes "+ remove " ∷ codes "+ trigger\n" ∷ codes "+ trigger " ∷ codes "+ cut " ∷ codes "+ state " ∷ codes "+ gone " ∷ []

abbrev pub effect_at : ℕ → List ℕ → Result (Effect × List ℕ) ℕ
effect_at word =
    if word == 0 then map_read (λ x. Make (record { 0 = x.0 }) x.1) (then_read (id_at (codes " ")) (λ v. id_at (codes "\n")))
    else if word == 1 then map_read (λ n. Remove (record { 0 = n })) (id_at (codes "\n"))
    else if word == 2 then (λ bytes. Ok (Trigger [], bytes))
    else if word == 3 then map_read Trigger pairs_at
    else if word == 4 then map_read (λ x. Cut (record { 0 = x.0 }) x.1) (then_read (id_at (codes " ")) (λ v. kept_at))
    else if word == 5 then map_read (λ x. State (record { 0 = x.0 }) x.1) (then_read (id_at (codes " ")) (λ m. state_at))
    else map_read (λ n. Gone (record { 0 = n })) (id_at (codes "\n"))
