use Rattle.std.proofs.Common.{◌≡◌, ℕ, ◌<◌, ◌≤◌, false, get_or}
use Rattle.fc_check_sheet.proofs.kept.next_marked.Given as goal

-- none is marked so far
abbrev pub invariant-loop-grain : goal.invariant-loop-grain
invariant-loop-grain l = record {
  after : l.from ≤ l.grain;
  none : (j : ℕ) → l.from ≤ j → j < l.grain → get_or l.marks j false ≡ false;
}
