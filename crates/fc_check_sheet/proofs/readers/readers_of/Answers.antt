use Rattle.std.proofs.Common.{ℕ, List, ◌+◌, sym, subst}
use Rattle.std.proofs.lemmas.Bool.{both_ways}
use Rattle.fc_check_sheet.proofs.Needing.{ReadersBelow, one_reader, no_reader}
use Rattle.fc_check_sheet.proofs.readers.readers_of.Goals as goal
use Rattle.fc_check_sheet.proofs.readers.readers_of.Goals.{then-reads+in_ok-push, else-reads}

pub loop-place-preserved : goal.loop-place-preserved
loop-place-preserved c =
    let P : List ℕ → Type 0 = λ z. ReadersBelow c.args.sheet.now.slots c.args.from (c.loop-place.place + 1) z in
    elim c.if-reads.branch [
      | then-reads+in_ok-push w ↦ subst P (sym w.places-is) (one_reader c.args.sheet.now.slots c.args.from c.loop-place.place c.loop-place.places w.push.new.self (c.reads.ensures.0 w.if-reads.true) w.in_ok-push.ensures.ok c.loop-place.invariant)
      | else-reads w ↦ subst P (sym w.places-is) (no_reader c.args.sheet.now.slots c.args.from c.loop-place.place c.loop-place.places (λ r. both_ways c.reads.result w.if-reads.false (c.reads.ensures.1 r)) c.loop-place.invariant)
    ]
