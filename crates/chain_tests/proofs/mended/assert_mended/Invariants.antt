use Rattle.std.proofs.Common.{ℕ, ◌*◌, ◌≤◌}
use Rattle.chain_tests.proofs.mended.assert_mended.Given as goal

-- each command takes at most two births
abbrev pub invariant-loop-command : goal.invariant-loop-command
invariant-loop-command g l = l.table.sheet.births ≤ 2 * l.command-index
