use Rattle.std.proofs.Common.{ap, sym, ◌∙◌}
use Rattle.fc_check_sheet.specs.Distances.{distance_in}
use Rattle.fc_check_sheet.proofs.Looping.{none_told, some_told}
use Rattle.fc_check_sheet.proofs.loops.loop_among.Goals as goal

pub returns-in_default : goal.returns-in_default
returns-in_default c = λ slots edges all. none_told slots c.args.links.now c.args.volumes.now c.in_ok-start.field-0 c.in_default.is edges all c.in_ok-start.ensures

pub returns-in-Ok : goal.returns-in-Ok
returns-in-Ok c = λ slots edges all. some_told slots c.args.links.now c.args.volumes.now c.in-Some.start c.in-Some-distance_of.long c.in_ok-start.field-0 c.in_ok-distances.distances.items c.in-Ok.names c.in-Some.is edges all
    c.in_ok-start.ensures c.in_ok-distances.ensures (ap (λ z. distance_in z c.in-Some.start) (sym c.deref.ensures.value) ∙ (sym c.distance_of.ensures ∙ c.in-Some-distance_of.is)) c.in-Ok.ensures
