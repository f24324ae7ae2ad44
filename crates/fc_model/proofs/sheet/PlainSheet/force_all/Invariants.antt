use Rattle.std.proofs.Common.{◌≡◌, take}
use Rattle.std.specs.List.{fold}
use Rattle.fc_base.specs.SheetStep.{forced_map}
use Rattle.fc_model.proofs.sheet.PlainSheet.force_all.Given as goal

-- the slots of the mappings so far are taken out
abbrev pub invariant-loop-map : goal.invariant-loop-map
invariant-loop-map l = l.self ≡ fold forced_map l.initial.self (take l.map-index l.maps)
