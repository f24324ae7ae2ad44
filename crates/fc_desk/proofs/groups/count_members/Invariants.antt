-- The members so far.
use Rattle.std.proofs.Common.{◌≡◌, ◌≤◌, take, length}
use Rattle.std.specs.List.{filter}
use Rattle.fc_books.specs.Groups.{is_member}
use Rattle.fc_desk.proofs.groups.count_members.Given as goal

abbrev pub invariant-loop-mapping : goal.invariant-loop-mapping
invariant-loop-mapping l = (l.count ≡ length (filter (is_member l.group) (take l.mapping-index l.mappings))) × (l.count ≤ l.mapping-index)
