use Rattle.std.proofs.Common.{◌≡◌, ◌≤◌}
use Rattle.fc_base.specs.Counts.{count_below, is_needed_at}
use Rattle.fc_check_sheet.proofs.counts.needed_grains.Given as goal

abbrev pub invariant-loop-grain : goal.invariant-loop-grain
invariant-loop-grain l = record {
  counted : l.needed ≡ count_below (is_needed_at l.sheet.slots l.place) l.grain;
  few : l.needed ≤ l.grain;
}
