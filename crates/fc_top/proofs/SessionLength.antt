-- A generated session is shorter than the greatest input.
use Rattle.std.proofs.Common.{ℕ, zero, suc, ◌+◌, ◌*◌, ◌/◌, ◌^◌, ◌<◌, ◌≤◌, ◌==◌, Bool, true, false, if◌then◌else◌, nat_lt, List, ◌++◌, length, codes, decimal, ap, arith, length-append}
use Rattle.std.proofs.lemmas.Fmt.{length-decimal-le}
use Rattle.std.proofs.lemmas.Nat.{mod_below}
use Rattle.std.proofs.lemmas.Grind.{flat_map-append}
use Rattle.fc_base.specs.CommandText.{command_text}
use Rattle.fc_base.specs.declared.command.Command.{Command}
use Rattle.fc_base.specs.declared.command.Command.TheVariants.{Write, Read, Advance, Startfcmap, Stopfcmap}
use Rattle.fc_base.specs.declared.command.StopWay.{StopWay}
use Rattle.fc_base.specs.declared.command.StopWay.TheVariants.{Plain, Force, Split}
use Rattle.fc_base.specs.declared.name.Ref.TheVariants.{Id}
use Rattle.fc_gen.specs.Session.{draw, draw_write, draw_read, draw_start, draw_stop, draw_advance, way_of, drawn_of, next_draw, volume, blocks_from, drawn_commands, first_commands, lines_of, session_text}
use Rattle.fc_gen.proofs.DrawLemmas.{first_lines}

-- the line of a command
abbrev pub line_of : Command → List ℕ
line_of command = command_text command ++ codes "\n"

-- a number that is drawn has few digits
few_digits : (n : ℕ) → n < 2 ^ 32 → length (decimal n) ≤ 10
few_digits n small = length-decimal-le 10 n (omega arith) (omega arith) (omega arith)

drawn-below : (count state : ℕ) → 0 < count → drawn_of count state < count
drawn-below count state some = mod_below (state / 2 ^ 33) count some

write-short : (v b n byte : ℕ) → v < 2 ^ 32 → b < 2 ^ 32 → n < 2 ^ 32 → length (line_of (Write (volume v) b n byte)) ≤ 100
write-short v b n byte small_v small_b small_n = grind (arith, length-append, few_digits v small_v, few_digits b small_b, few_digits n small_n)

read-short : (v b n : ℕ) → v < 2 ^ 32 → b < 2 ^ 32 → n < 2 ^ 32 → length (line_of (Read (volume v) b n)) ≤ 100
read-short v b n small_v small_b small_n = grind (arith, length-append, few_digits v small_v, few_digits b small_b, few_digits n small_n)

start-short : (m : ℕ) → m < 2 ^ 32 → length (line_of (Startfcmap (Id m) true true)) ≤ 100
start-short m small = grind (arith, length-append, few_digits m small)

stop-short : (m : ℕ) (way : StopWay) → m < 2 ^ 32 → length (line_of (Stopfcmap (Id m) way)) ≤ 100
stop-short m Plain small = grind (arith, length-append, few_digits m small)
stop-short m Force small = grind (arith, length-append, few_digits m small)
stop-short m Split small = grind (arith, length-append, few_digits m small)

advance-short : (s : ℕ) → s < 2 ^ 32 → length (line_of (Advance s)) ≤ 100
advance-short s small = grind (arith, length-append, few_digits s small)

short_by : (a b c d : Bool) (state : ℕ) → length (line_of (if a then draw_write state else (if b then draw_read state else (if c then draw_start state else (if d then draw_stop state else draw_advance state)))).command) ≤ 100
short_by true b c d state =
    let s1 = next_draw state in let s2 = next_draw s1 in let s3 = next_draw s2 in
    write-short (drawn_of 8 s1) (drawn_of 2048 s2) (blocks_from (drawn_of 2048 s2) (drawn_of 64 s3)) (drawn_of 256 (next_draw s3))
    (omega (arith, drawn-below 8 s1 (omega arith))) (omega (arith, drawn-below 2048 s2 (omega arith))) (omega arith)
short_by false true c d state =
    let s1 = next_draw state in let s2 = next_draw s1 in let s3 = next_draw s2 in
    read-short (drawn_of 8 s1) (drawn_of 2048 s2) (blocks_from (drawn_of 2048 s2) (drawn_of 64 s3))
    (omega (arith, drawn-below 8 s1 (omega arith))) (omega (arith, drawn-below 2048 s2 (omega arith))) (omega arith)
short_by false false true d state =
    let s1 = next_draw state in
    start-short (drawn_of 8 s1) (omega (arith, drawn-below 8 s1 (omega arith)))
short_by false false false true state =
    let s1 = next_draw state in let s2 = next_draw s1 in
    stop-short (drawn_of 8 s2) (way_of (drawn_of 3 s1)) (omega (arith, drawn-below 8 s2 (omega arith)))
short_by false false false false state =
    let s1 = next_draw state in
    advance-short (1 + drawn_of 3 s1) (omega (arith, drawn-below 3 s1 (omega arith)))

draw-short : (state : ℕ) → length (line_of (draw state).command) ≤ 100
unfolding draw
draw-short state =
    let kind : ℕ = drawn_of 10 (next_draw state) in
    short_by (nat_lt kind 4) (nat_lt kind 7) (kind == 7) (kind == 8) (next_draw state)

drawn-short : (count state : ℕ) → length (lines_of (drawn_commands count state)) ≤ count * 100
unfolding drawn_commands
drawn-short zero state = omega arith
drawn-short (suc count) state =
    let rest : List ℕ = lines_of (drawn_commands count (draw state).state) in
    omega (arith, draw-short state, drawn-short count (draw state).state, length-append (line_of (draw state).command) rest)

first-short : length (lines_of first_commands) ≤ 1000
first-short = omega (arith, ap length first_lines)

session-short : (count number : ℕ) → length (lines_of (first_commands ++ drawn_commands count number)) ≤ 1000 + count * 100
session-short count number =
    omega (
      arith,
      ap length (flat_map-append line_of first_commands (drawn_commands count number)),
      length-append (lines_of first_commands) (lines_of (drawn_commands count number)),
      first-short,
      drawn-short count number,
    )

-- the session of a number
pub session_text-short : (number : ℕ) → length (session_text number) ≤ 501000
unfolding session_text
session_text-short number = session-short 5000 number
