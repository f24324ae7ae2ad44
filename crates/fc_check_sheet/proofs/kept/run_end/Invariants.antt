use Rattle.std.proofs.Common.{◌≡◌, ℕ, ◌<◌, ◌≤◌, true, false, get_or}
use Rattle.fc_check_sheet.proofs.kept.run_end.Given as goal

-- all are marked so far
abbrev pub invariant-loop-grain : goal.invariant-loop-grain
invariant-loop-grain l = record {
  after : l.first ≤ l.grain;
  marked : (j : ℕ) → l.first ≤ j → j < l.grain → get_or l.marks j false ≡ true;
}
