use Rattle.std.proofs.Common.{◌≡◌, map, take}
use Rattle.std.specs.List.{fold}
use Rattle.fc_changed.specs.Row.{after_note}
use Rattle.fc_follow.specs.Following.{beginning}
use Rattle.fc_check_rows.proofs.rows.Rows.follow_pairs.Given as goal

-- the pairs so far are noted
abbrev pub invariant-loop-pair : goal.invariant-loop-pair
invariant-loop-pair l = l.self ≡ fold after_note l.initial.self (map (beginning l.sheet.slots) (take l.pair-index l.pairs))
