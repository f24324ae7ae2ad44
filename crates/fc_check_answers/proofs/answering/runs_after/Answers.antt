use Rattle.std.proofs.Common.{◌≡◌, ℕ, ◌+◌, subst, arith}
use Rattle.fc_check_answers.proofs.Running.{none_next}
use Rattle.fc_check_answers.specs.Runs.{AreRunsAt}
use Rattle.fc_check_answers.proofs.answering.runs_after.Goals as goal

pub returns-then-entry-entries-clause-places : goal.returns-then-entry-entries-clause-places
returns-then-entry-entries-clause-places c =
    none_next c.args.grain c.args.name.now c.args.entry.now c.args.runs.items c.args.entries c.new-after.result.items c.new-after.ensures.items c.requires.runs (λ e. omega (arith, e))

pub follow_all-requires-clause-runs : goal.follow_all-requires-clause-runs
follow_all-requires-clause-runs c =
    let same : c.args.entries ≡ c.args.entry.now.number = omega arith in
    subst (λ (n : ℕ). AreRunsAt c.args.grain n c.args.runs.items) same c.requires.runs

pub returns-clause-runs : goal.returns-clause-runs
returns-clause-runs c =
    let same : c.args.entry.now.number ≡ c.args.entries = omega arith in
    subst (λ (n : ℕ). AreRunsAt c.args.grain (n + 1) c.follow_all.new.after.items) same c.in_ok-follow_all.ensures.runs
