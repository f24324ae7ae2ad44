use Rattle.std.proofs.Common.{◌≡◌, ℕ, ◌<◌, None}
use Rattle.fc_base.specs.Column.{needer}
use Rattle.fc_base.specs.Sheet.{column}
use Rattle.model_slots.proofs.need.needed_somewhere.Given as goal

-- no needer at a grain so far
abbrev pub invariant-loop-grain : goal.invariant-loop-grain
invariant-loop-grain l = (g : ℕ) → g < l.grain → needer (column l.slots g) l.place ≡ None
