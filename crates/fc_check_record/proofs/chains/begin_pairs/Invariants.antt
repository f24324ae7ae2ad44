use Rattle.std.proofs.Common.{◌≡◌, take}
use Rattle.std.specs.List.{fold}
use Rattle.fc_books.specs.After.{begun}
use Rattle.fc_follow.specs.Following.{restarts}
use Rattle.fc_check_record.proofs.chains.begin_pairs.Given as goal

-- the pairs so far have begun
abbrev pub invariant-loop-pair : goal.invariant-loop-pair
invariant-loop-pair l = l.sheet ≡ fold (begun (restarts l.rows)) l.initial.sheet (take l.pair-index l.pairs)
