use Rattle.std.proofs.Common.{◌≡◌, ℕ, subst, arith}
use Rattle.fc_check_follow.specs.Following.{AreReachedAt}
use Rattle.fc_check_follow.proofs.Together.{none_follow}
use Rattle.fc_check_follow.proofs.candidates.ways_after.Goals as goal

pub returns-then-entry-entries : goal.returns-then-entry-entries
returns-then-entry-entries c = none_follow c.args.ways.items c.args.entry.now c.args.entries c.new-after.result.items c.new-after.ensures.items c.requires.reached (λ e. omega (arith, e))

pub follow_all-requires-clause-reached : goal.follow_all-requires-clause-reached
follow_all-requires-clause-reached c =
    let same : c.args.entries ≡ c.args.entry.now.number = omega arith in
    subst (λ (n : ℕ). AreReachedAt n c.args.ways.items) same c.requires.reached
