-- What a write or a fill does, step by step, and where it may stop.
use Rattle.std.specs.Prelude.{◌≡◌, ℕ, ◌+◌, ◌≤◌, Bool, true, cond, ◌||◌, eqb, Option, Some, None, List, [], ◌∷◌, ◌++◌, map, sum, filter_map}
use Rattle.fc_base.specs.Column.{Column, holder}
use Rattle.fc_base.specs.Count.{HasRisen}
use Rattle.fc_base.specs.Moves.{is_in_place, fill_moves, write_moves, after_moves}
use Rattle.fc_base.specs.declared.request.Move.{Move}
use Rattle.fc_base.specs.declared.request.Side.{Side}
use Rattle.fc_base.specs.declared.request.Side.TheVariants.{Now, Under}
use Rattle.fc_base.specs.declared.request.Torn.{Torn}
use Rattle.fc_base.specs.declared.request.WritePart.{WritePart}
use Rattle.fc_base.specs.declared.size.GrainSize.{GrainSize}
use Rattle.fc_entry.specs.Writes.{calls_of_write}
use Rattle.fc_entry.specs.declared.entry.Entry.{Entry}
use Rattle.fc_entry.specs.Picture.{is_lost}
use Rattle.fc_rules.specs.Spot.{Spot, move_in}

-- A step writes one grain of one volume: a move, which gives a slot its own copy, or last the write that was asked for. It
-- makes so many calls of disks, the last of which is the write. Should that fail, any bytes may be left in the volume's
-- grain: what the volume shows is lost with them (`Now`), or what it held before it became a target (`Under`).
pub record DiskStep : Type 0 where
  pub volume : ℕ
  pub move : Option Move
  pub calls : ℕ
  pub side : Side

-- A move reads the holder's grain and writes its own. In place it calls no disk, and where there is nothing to copy, since
-- the grain is lost, none either.
abbrev pub calls_of_move : Spot → ℕ → ℕ
calls_of_move spot k = cond (is_in_place spot.column k || is_lost (spot.now (spot.column.volume k))) 0 2

abbrev pub step_of_move : Spot → ℕ → DiskStep
step_of_move spot k =
    record { volume = spot.column.volume k; move = Some (move_in spot k); calls = calls_of_move spot k; side = Under }

-- Whether a volume with this live slot reads its own grain.
abbrev pub is_of_volume : Column → ℕ → Option ℕ → Bool
is_of_volume c v None = Bool.false
is_of_volume c v (Some h) = eqb (c.volume h) v

abbrev pub reads_own : Column → ℕ → Bool
reads_own c t = is_of_volume c (c.volume t) (holder c t)

-- The write itself, to the volume with live slot `t`: after the moves, whatever the volume then reads.
abbrev pub own_step : GrainSize → Spot → WritePart → ℕ → DiskStep
own_step grain spot part t =
    record {
      volume = spot.column.volume t;
      move = None;
      calls = calls_of_write grain part;
      side = cond (reads_own (after_moves spot.column (write_moves spot.column t)) t) Now Under;
    }

abbrev pub steps_of_fill : Spot → ℕ → List DiskStep
steps_of_fill spot m = map (step_of_move spot) (fill_moves spot.column m)

abbrev pub steps_of_write : GrainSize → Spot → WritePart → ℕ → List DiskStep
steps_of_write grain spot part t = map (step_of_move spot) (write_moves spot.column t) ++ own_step grain spot part t ∷ []

-- The moves of steps, and their calls.
abbrev pub moves_of : List DiskStep → List Move
moves_of steps = filter_map (λ (s : DiskStep). s.move) steps

abbrev pub calls_of_steps : List DiskStep → ℕ
calls_of_steps steps = sum (map (λ (s : DiskStep). s.calls) steps)

-- All steps were done.
pub record HasDone (steps : List DiskStep) (entry : Entry) : Type 0 where
  pub moves : entry.moves ≡ moves_of steps
  pub calls : entry.calls ≡ calls_of_steps steps
  pub untorn : entry.torn ≡ None

-- Nothing was done.
pub record HasDoneNothing (entry : Entry) : Type 0 where
  pub moves : entry.moves ≡ []
  pub calls : entry.calls ≡ 0
  pub untorn : entry.torn ≡ None

-- It stopped at a step, after `extra` of its calls; those before it were done.
pub record StoppedAt (steps : List DiskStep) (step : DiskStep) (extra : ℕ) (entry : Entry) : Type 0 where
  pub before : List DiskStep
  pub after : List DiskStep
  pub steps_are : steps ≡ before ++ step ∷ after
  pub moves : entry.moves ≡ moves_of before
  pub calls : entry.calls ≡ calls_of_steps before + extra
  pub within : extra ≤ step.calls

-- What a failed call leaves torn: the step's grain, where the call was the step's last, the write.
abbrev pub torn_by : Spot → DiskStep → ℕ → Option Torn
torn_by spot step extra =
    cond (eqb extra step.calls)
    (Some record { volume = record { 0 = step.volume }; grain = record { 0 = spot.number }; side = step.side })
    None

-- A call of a disk failed.
pub record HasFailed (spot : Spot) (steps : List DiskStep) (entry : Entry) : Type 0 where
  pub step : DiskStep
  pub extra : ℕ
  pub stopped : StoppedAt steps step extra entry
  pub called : 1 ≤ extra
  pub torn : entry.torn ≡ torn_by spot step extra
  pub risen : HasRisen entry.faults_before entry.faults_after

-- A thin disk found no memory for the grain that a step writes.
pub record HasNoMemory (spot : Spot) (steps : List DiskStep) (entry : Entry) : Type 0 where
  pub step : DiskStep
  pub extra : ℕ
  pub stopped : StoppedAt steps step extra entry
  pub untorn : entry.torn ≡ None
  pub thin : spot.is_thin step.volume ≡ true
