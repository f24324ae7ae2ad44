use Rattle.std.proofs.Common.{◌≡◌, take}
use Rattle.std.specs.List.{flat_map}
use Rattle.fc_legal.specs.Scripts.{line_asked}
use Rattle.fc_check_requests.proofs.scripts.lines_asked.Given as goal

-- what the lines before this one ask
abbrev pub invariant-loop-line : goal.invariant-loop-line
invariant-loop-line g l = l.requests ≡ flat_map (line_asked (g.T.Told.grain l.told) (g.T.Told.whole l.told).books) (take l.line-index l.lines)
