use Rattle.std.proofs.Common.{◌≡◌, ◌++◌, take}
use Rattle.fc_check_requests.specs.Works.{works_of}
use Rattle.fc_check_requests.proofs.work.add_works.Given as goal

-- those of the mappings before this one are added
abbrev pub invariant-loop-mapping : goal.invariant-loop-mapping
invariant-loop-mapping l = l.works.items ≡ l.initial.works.items ++ works_of l.cleans l.flags (take l.mapping-index l.mappings)
