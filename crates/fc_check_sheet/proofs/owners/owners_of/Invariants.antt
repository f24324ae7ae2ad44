use Rattle.fc_check_sheet.proofs.Owning.{OwnersAmong}
use Rattle.fc_check_sheet.proofs.owners.owners_of.Given as goal

abbrev pub invariant-loop-mapping : goal.invariant-loop-mapping
invariant-loop-mapping l = OwnersAmong l.sheet.slots l.places l.mappings l.mapping-index l.maps
