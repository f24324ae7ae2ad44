-- The generated session: eight volumes, eight mappings among them, and 5,000 lines that are drawn by a number.
use Rattle.std.specs.Prelude.{◌≡◌, ℕ, ◌+◌, ◌-◌, ◌*◌, ◌/◌, ◌%◌, ◌^◌, Bool, true, false, List, [], ◌∷◌, ◌++◌, Option, Some, None, if◌then◌else◌, nat_lt, ◌==◌, zero, suc, min, codes, decimal}
use Rattle.std.specs.List.{flat_map}
use Rattle.fc_base.specs.CommandText.{command_text}
use Rattle.fc_base.specs.declared.command.Command.{Command}
use Rattle.fc_base.specs.declared.command.Command.TheVariants.{Mkvdisk, Write, Read, Advance, Mkfcmap, Startfcmap, Stopfcmap}
use Rattle.fc_base.specs.declared.command.StopWay.{StopWay}
use Rattle.fc_base.specs.declared.command.StopWay.TheVariants.{Plain, Force, Split}
use Rattle.fc_base.specs.declared.name.Ref.{Ref}
use Rattle.fc_base.specs.declared.name.Ref.TheVariants.{Id, Name}

-- the state of the draws behind a state
abbrev pub next_draw : ℕ → ℕ
next_draw state = (state * 6364136223846793005 + 1442695040888963407) % 2 ^ 64

-- what a state draws of so many
abbrev pub drawn_of : ℕ → ℕ → ℕ
drawn_of count state = (state / 2 ^ 33) % count

-- the volumes are V0 to V7
abbrev pub drill_name : ℕ → List ℕ
drill_name n = codes "V" ++ decimal n

abbrev pub volume : ℕ → Ref
volume n = Name (drill_name n)

-- a volume of 1 mb, which is 2,048 blocks
abbrev pub drilled_volume : ℕ → Command
drilled_volume n = Mkvdisk (Some (drill_name n)) 1 None false

-- a mapping between two volumes
abbrev pub drilled_mapping : ℕ → ℕ → Option ℕ → Bool → Command
drilled_mapping source target copy_rate incremental =
    Mkfcmap (volume source) (volume target) None None copy_rate None None incremental false

-- the first lines
abbrev pub first_commands : List Command
first_commands =
    drilled_volume 0 ∷ drilled_volume 1 ∷ drilled_volume 2 ∷ drilled_volume 3 ∷ drilled_volume 4 ∷ drilled_volume 5 ∷ drilled_volume 6 ∷ drilled_volume 7
    ∷ drilled_mapping 0 1 None true ∷ drilled_mapping 0 2 None false ∷ drilled_mapping 1 3 (Some 0) false ∷ drilled_mapping 3 4 None false
    ∷ drilled_mapping 4 5 (Some 10) false ∷ drilled_mapping 1 0 None false ∷ drilled_mapping 6 7 None true ∷ drilled_mapping 2 6 None false ∷ []

-- a command, and the state that drew its last part
pub record Drawn : Type 0 where
  pub command : Command
  pub state : ℕ

-- blocks from one of 2,048 on, at most 64 and none past the end
abbrev pub blocks_from : ℕ → ℕ → ℕ
blocks_from first more = min (1 + more) (2048 - first)

abbrev pub draw_write : ℕ → Drawn
draw_write state =
    let a = next_draw state in let b = next_draw a in let c = next_draw b in let d = next_draw c in
    record { command = Write (volume (drawn_of 8 a)) (drawn_of 2048 b) (blocks_from (drawn_of 2048 b) (drawn_of 64 c)) (drawn_of 256 d); state = d }

abbrev pub draw_read : ℕ → Drawn
draw_read state =
    let a = next_draw state in let b = next_draw a in let c = next_draw b in
    record { command = Read (volume (drawn_of 8 a)) (drawn_of 2048 b) (blocks_from (drawn_of 2048 b) (drawn_of 64 c)); state = c }

abbrev pub draw_start : ℕ → Drawn
draw_start state = let a = next_draw state in record { command = Startfcmap (Id (drawn_of 8 a)) true true; state = a }

-- how a mapping is stopped
abbrev pub way_of : ℕ → StopWay
way_of n = if n == 0 then Plain else (if n == 1 then Force else Split)

abbrev pub draw_stop : ℕ → Drawn
draw_stop state =
    let a = next_draw state in let b = next_draw a in
    record { command = Stopfcmap (Id (drawn_of 8 b)) (way_of (drawn_of 3 a)); state = b }

abbrev pub draw_advance : ℕ → Drawn
draw_advance state = let a = next_draw state in record { command = Advance (1 + drawn_of 3 a); state = a }

-- of ten draws four write, three read, and one each starts a mapping, stops one, and lets time pass
abbrev pub draw_by : ℕ → ℕ → Drawn
draw_by kind state =
    if nat_lt kind 4 then draw_write state else (if nat_lt kind 7 then draw_read state else (if kind == 7 then draw_start state else (if kind == 8 then draw_stop state else draw_advance state)))

-- one command, drawn behind a state
unfoldable pub draw : ℕ → Drawn
draw state = draw_by (drawn_of 10 (next_draw state)) (next_draw state)

-- what a draw adds to the bytes: the line of its command
abbrev pub Adds : Drawn → ℕ → List ℕ → List ℕ → Type 0
Adds drawn state before after = (state ≡ drawn.state) × (after ≡ before ++ (command_text drawn.command ++ codes "\n"))

-- so many commands, drawn one after the other
unfoldable pub drawn_commands : ℕ → ℕ → List Command
drawn_commands zero state = []
drawn_commands (suc more) state = (draw state).command ∷ drawn_commands more (draw state).state

-- the lines of commands
abbrev pub lines_of : List Command → List ℕ
lines_of commands = flat_map (λ command. command_text command ++ codes "\n") commands

-- the bytes of the session of a number
unfoldable pub session_text : ℕ → List ℕ
session_text number = lines_of (first_commands ++ drawn_commands 5000 number)
