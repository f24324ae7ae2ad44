use Rattle.std.proofs.Common.{List, sym, subst}
use Rattle.fc_check_sheet.specs.declared.distances.Distance.{Distance}
use Rattle.fc_check_sheet.specs.Distances.{AreNear}
use Rattle.fc_check_sheet.specs.Links.{HasLink}
use Rattle.fc_check_sheet.proofs.Measuring.{all_noted}
use Rattle.fc_check_sheet.proofs.distances.distances_to.Goals as goal

pub returns-then-not-any : goal.returns-then-not-any
returns-then-not-any c =
    let P : List Distance → Type 0 = λ z. AreNear (HasLink c.args.links.now) c.args.start c.levels.away z in
    all_noted c.args.links.now c.args.start c.levels.away c.note_level.new.distances.items (subst P (sym (c.in_ok-any.ensures.same c.if-not-any.true)) c.levels.invariant.near) c.in_ok-any.ensures.near
