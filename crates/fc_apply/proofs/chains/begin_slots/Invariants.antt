use Rattle.std.proofs.Common.{◌≡◌, fold, take}
use Rattle.fc_books.specs.After.{begun}
use Rattle.fc_follow.specs.Following.{restarts}
use Rattle.fc_apply.proofs.chains.begin_slots.Given as goal

-- the slots of the pairs before this one have begun
abbrev pub invariant-loop-pair : goal.invariant-loop-pair
invariant-loop-pair l = l.cascade ≡ record l.initial.cascade { sheet = fold (begun (restarts l.changes.rows)) l.initial.cascade.sheet (take l.pair-index l.pairs) }
