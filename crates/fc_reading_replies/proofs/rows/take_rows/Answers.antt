use Rattle.std.proofs.Common.{◌+◌, ◌-◌, ◌∙◌, List, ℕ, sym, ap}
use Rattle.fc_reading_notes.specs.Lists.{behind_items}
use Rattle.fc_reading_replies.specs.Rows.{rows_at}
use Rattle.fc_reading_replies.proofs.Steps.{rows-more}
use Rattle.fc_reading_replies.proofs.rows.take_rows.Goals as goal

pub loop-preserved : goal.loop-preserved
loop-preserved c =
    c.loop.invariant
    ∙ rows-more c.loop.rows c.args.count c.loop.counter c.loop.rest.now c.in-Ok.behind.now c.in-Ok.row c.loop-test.true c.in-Ok.ensures
    ∙ ap (λ (rows : List (List ℕ)). behind_items rows (rows_at (c.args.count - (c.loop.counter + 1)) c.in-Ok.behind.now)) (sym c.in_ok-push-in-Ok.ensures.ok)
