-- Drops, and then all mappings.
use Rattle.std.proofs.Common.{rules}
use Rattle.fc_desk.specs.Control.{books_of}
use Rattle.fc_desk.proofs.Settled.{settled_by}
use Rattle.fc_desk.proofs.control.Control.settle.Goals as goal

pub returns : goal.returns
returns g c =
    settled_by (books_of c.args.self.now (g.S.Sheet.meaning c.args.sheet.now)) c.as_slice.result.now c.in_ok-draft.draft c.in_ok-draft-2.draft c.into_decision.result
    (search rules) c.in_ok-draft.ensures c.in_ok-draft-2.ensures c.into_decision.ensures
