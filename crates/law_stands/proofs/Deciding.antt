-- What the control part may rely on where it decides and does commands.
use Rattle.std.proofs.Common.{ℕ, ◌+◌, ◌^◌, ◌<◌, ◌≤◌, List, Option, filter, length, arith}
use Rattle.fc_base.specs.declared.command.Command.{Command}
use Rattle.fc_base.specs.declared.decision.Decision.{Decision}
use Rattle.fc_base.specs.declared.ids.VolId.{VolId}
use Rattle.fc_base.specs.declared.size.GrainSize.{GrainSize}
use Rattle.fc_books.specs.Deciding.{IsLoopOf, settle}
use Rattle.fc_desk.specs.Changes.{adds}
use Rattle.fc_follow.specs.Following.{restarts}
use Rattle.fc_legal.specs.Lawful.{IsLawful}
use Rattle.fc_legal.specs.Steps.{after_settling, decided_on}
use Rattle.fc_legal.specs.Whole.{Whole}
use Rattle.law_stands.proofs.Adding.{decide_few, settle_few}
use Rattle.law_stands.proofs.Counting.{countable, fits}
use Rattle.law_stands.proofs.Room.{reached_decides}
use Rattle.law_stands.proofs.Standing.{command_lawful, settling_lawful}
use Rattle.law_stands.specs.Deciders.{CanLeave, DecidersLaw}
use Rattle.law_stands.specs.Reached.{IsReached}

lawful_leaves : (grain : GrainSize) (decisions : ℕ) (w : Whole) (d : Decision) → decisions + 2 < 2 ^ 32 → IsLawful grain decisions w d → length (filter adds d.changes) ≤ 1 → CanLeave grain decisions w d
lawful_leaves grain decisions w d small lawful one =
    record { lawful = lawful; fits = fits w.books.tables d.changes lawful.changes; one = one; countable = countable grain decisions w d small lawful one }

settling_leaves : (grain : GrainSize) (decisions : ℕ) (w : Whole) → decisions + 2 < 2 ^ 32 → IsReached decisions w → CanLeave grain decisions w (settle w.books)
settling_leaves grain decisions w small reached =
    lawful_leaves grain decisions w (settle w.books) small (settling_lawful grain decisions w (omega (arith, small)) reached.stands) (settle_few w.books)

command_leaves : (grain : GrainSize) (decisions : ℕ) (w : Whole) (command : Command) (loop : Option (List VolId)) → decisions + 3 < 2 ^ 32 → IsReached decisions w →
    IsLoopOf grain (after_settling grain w).books command loop → CanLeave grain (decisions + 1) (after_settling grain w) (decided_on grain (after_settling grain w) command loop)
command_leaves grain decisions w command loop small reached told =
    let settled : Whole = after_settling grain w in
    lawful_leaves grain (decisions + 1) settled (decided_on grain settled command loop) (omega (arith, small))
    (command_lawful grain decisions w command loop (omega (arith, small)) reached.stands told)
    (decide_few (restarts settled.rows) grain settled.books command loop)

pub deciders_law_holds : DecidersLaw
deciders_law_holds = record { can_decide = reached_decides; settling = settling_leaves; deciding = command_leaves }
