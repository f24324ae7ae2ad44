use Rattle.std.proofs.Common.{◌≡◌, take}
use Rattle.std.specs.List.{fold}
use Rattle.fc_base.specs.SheetStep.{started_empty}
use Rattle.fc_model.proofs.sheet.PlainSheet.trigger.Given as goal

-- the pairs so far are started
abbrev pub invariant-loop-pair : goal.invariant-loop-pair
invariant-loop-pair l = l.self ≡ fold started_empty l.initial.self (take l.pair-index l.pairs)
