-- Steps one after the other, as a judge walks them.
use Rattle.std.specs.Prelude.{◌≡◌, ℕ, Bool, ◌+◌, ◌<◌, ◌≤◌, cond, true, eqb, Option, Some, None, List, take, length, slice_index_or}
use Rattle.fc_base.specs.declared.request.Side.TheVariants.{Under}
use Rattle.fc_base.specs.declared.request.Torn.{Torn}
use Rattle.fc_entry.specs.declared.entry.Entry.{Entry}
use Rattle.fc_rules.specs.LaneTold.{LaneVolume, is_thin_in}
use Rattle.fc_rules.specs.Steps.{DiskStep, moves_of, calls_of_steps}

-- What stands past the last step.
abbrev pub no_step : DiskStep
no_step = record { volume = 0; move = None; calls = 0; side = Under }

abbrev pub step_at : List DiskStep → ℕ → DiskStep
step_at steps i = slice_index_or steps i no_step

-- An entry's moves are those of the steps before a place, and it made so many calls of the step there after all of theirs.
pub record EndsAt (steps : List DiskStep) (i extra : ℕ) (entry : Entry) : Type 0 where
  pub there : i < length steps
  pub moves : entry.moves ≡ moves_of (take i steps)
  pub calls : entry.calls ≡ calls_of_steps (take i steps) + extra
  pub within : extra ≤ (step_at steps i).calls

-- What a failed call of a step of the grain with a number leaves torn.
abbrev pub torn_at : ℕ → DiskStep → ℕ → Option Torn
torn_at number step extra =
    cond (eqb extra step.calls)
    (Some record { volume = record { 0 = step.volume }; grain = record { 0 = number }; side = step.side })
    None

-- So it ended, and a call of that step failed.
pub record FailsAt (number : ℕ) (steps : List DiskStep) (entry : Entry) (i : ℕ) : Type 0 where
  pub extra : ℕ
  pub ends : EndsAt steps i extra entry
  pub called : 1 ≤ extra
  pub torn : entry.torn ≡ torn_at number (step_at steps i) extra

-- So it ended, and that step wanted memory.
pub record WantsAt (volumes : List LaneVolume) (steps : List DiskStep) (entry : Entry) (i : ℕ) : Type 0 where
  pub extra : ℕ
  pub ends : EndsAt steps i extra entry
  pub thin : is_thin_in volumes (step_at steps i).volume ≡ true

-- How an entry ended at a step, if it did: the calls that it made there.
abbrev pub EndFound : List DiskStep → ℕ → Entry → Option ℕ → Type 0
EndFound steps i entry None = (extra : ℕ) → EndsAt steps i extra entry → ⊥
EndFound steps i entry (Some extra) = EndsAt steps i extra entry

-- Which of so many calls are a step's that makes at most `own`, after `before` calls of those before it, if all moves of those
-- were made.
abbrev pub ExtraFound : Bool → ℕ → ℕ → ℕ → Option ℕ → Type 0
ExtraFound moved before own calls None = moved ≡ true → (extra : ℕ) → calls ≡ before + extra → extra ≤ own → ⊥
ExtraFound moved before own calls (Some extra) = (moved ≡ true) × (calls ≡ before + extra) × (extra ≤ own)

-- An entry that made so many calls of a step, if it ended there, ended by the failure of the last of them.
abbrev pub FailsWith : ℕ → DiskStep → Option ℕ → Entry → Type 0
FailsWith number step None entry = ⊥
FailsWith number step (Some extra) entry = (1 ≤ extra) × (entry.torn ≡ torn_at number step extra)

-- A step at which an entry ended, if it did, is of a thin volume.
abbrev pub WantsWith : List LaneVolume → DiskStep → Option ℕ → Type 0
WantsWith volumes step None = ⊥
WantsWith volumes step (Some extra) = is_thin_in volumes step.volume ≡ true
