-- What the trace form tells of an entry beside its text: a line for each thing, which begins with `+`.
use Rattle.std.specs.Prelude.{ℕ, ◌==◌, Bool, if◌then◌else◌, List, [], ◌∷◌, ◌++◌, Option, Some, None, map, codes, decimal}
use Rattle.std.specs.List.{flat_map, join_with_byte}
use Rattle.fc_base.specs.declared.ranges.Range.{Range}
use Rattle.fc_base.specs.declared.request.Effect.{Effect}
use Rattle.fc_base.specs.declared.request.Effect.TheVariants.{Make, Remove, Trigger, Cut, State, Gone}
use Rattle.fc_base.specs.declared.request.Move.{Move}
use Rattle.fc_base.specs.declared.request.Pair.{Pair}
use Rattle.fc_base.specs.declared.request.Place.{Place}
use Rattle.fc_base.specs.declared.request.Place.TheVariants as place
use Rattle.fc_base.specs.declared.request.Side.{Side}
use Rattle.fc_base.specs.declared.request.Side.TheVariants.{Now, Under}
use Rattle.fc_base.specs.declared.request.Torn.{Torn}
use Rattle.fc_entry.specs.declared.entry.Entry.{Entry}
use Rattle.fc_entry.specs.Text.{state_text, two_numbers}

-- of an entry of a lane: its reads and writes of disks, and the faults of the lane's disks as it began and as it ended
abbrev pub calls_text : Place → ℕ → ℕ → ℕ → List ℕ
calls_text (place.Lane lane) calls before after =
    codes "+ calls " ++ decimal calls ++ codes " faults " ++ two_numbers before after ++ codes "\n"
calls_text place.Every calls before after = []
calls_text place.Control calls before after = []

-- a mark, where it is wanted
abbrev pub text_if : Bool → List ℕ → List ℕ
text_if wanted text = if wanted then text else []

-- a move: the slot, its volume and the grain, and whether the volume held the grain already
abbrev pub move_text : Move → List ℕ
move_text m =
    codes "+ move " ++ decimal m.slot.0 ++ codes " " ++ two_numbers m.volume.0 m.grain.0
    ++ text_if m.in_place (codes " in place") ++ codes "\n"

-- which content of a volume was spoiled: what it holds, or what lies under its live copy
abbrev pub side_text : Side → List ℕ
side_text Now = codes "now"
side_text Under = codes "under"

-- a grain that a failed write spoiled: the volume, the grain and the side
abbrev pub torn_text : Option Torn → List ℕ
torn_text None = []
torn_text (Some torn) =
    codes "+ torn " ++ two_numbers torn.volume.0 torn.grain.0 ++ codes " " ++ side_text torn.side ++ codes "\n"

-- a pair of a trigger: its mapping, source and target, and a mark where it is incremental
abbrev pub pair_text : Pair → List ℕ
pair_text pair =
    codes " " ++ decimal pair.map.0 ++ codes ":" ++ decimal pair.source.0 ++ codes ">" ++ decimal pair.target.0
    ++ text_if pair.incremental (codes "i")

-- grains: one by its number, more by the first and the last
abbrev pub range_text : Range → List ℕ
range_text range = decimal range.first ++ (if range.first == range.last then [] else codes "-" ++ decimal range.last)

-- the grains that a volume keeps
abbrev pub kept_text : List Range → List ℕ
kept_text [] = codes "none"
kept_text (range ∷ ranges) = join_with_byte 44 (map range_text (range ∷ ranges))

-- what a command changed
abbrev pub effect_text : Effect → List ℕ
effect_text (Make volume grains) = codes "+ make " ++ two_numbers volume.0 grains ++ codes "\n"
effect_text (Remove volume) = codes "+ remove " ++ decimal volume.0 ++ codes "\n"
effect_text (Trigger pairs) = codes "+ trigger" ++ flat_map pair_text pairs ++ codes "\n"
effect_text (Cut volume kept) = codes "+ cut " ++ decimal volume.0 ++ codes " " ++ kept_text kept ++ codes "\n"
effect_text (State map state) = codes "+ state " ++ decimal map.0 ++ codes " " ++ state_text state ++ codes "\n"
effect_text (Gone map) = codes "+ gone " ++ decimal map.0 ++ codes "\n"

-- all of an entry: its calls and faults, its moves in order, the torn grain, its effects in order
abbrev pub notes_text : Entry → List ℕ
notes_text entry =
    calls_text entry.place entry.calls entry.faults_before entry.faults_after ++ flat_map move_text entry.moves
    ++ torn_text entry.torn ++ flat_map effect_text entry.effects
