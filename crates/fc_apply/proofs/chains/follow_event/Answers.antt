use Rattle.std.proofs.Common.{All, subst, sym}
use Rattle.fc_diff.specs.State.{ChangesState}
use Rattle.fc_apply.specs.Events.{IsSized}
use Rattle.fc_apply.proofs.Noting.{sized_leaving}
use Rattle.fc_apply.proofs.chains.follow_event.Goals as goal

pub note_leavings-requires : goal.note_leavings-requires
note_leavings-requires c =
    let slots = c.args.cascade.now.sheet.slots in
    subst (λ (z : ChangesState). All (IsSized slots) z.rows) (sym c.note_leaving.ensures) (sized_leaving slots c.args.changes.now.rows c.in-Force.map c.requires.sized)
