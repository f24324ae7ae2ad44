-- The last entry is followed.
use Rattle.std.proofs.Common.{ℕ, ◌-◌, take, inl, inr, arith}
use Rattle.fc_view.proofs.Following.{followed_last, last_split}
use Rattle.fc_view.proofs.behind.Behind.go_on.Goals as goal

pub follow-requires : goal.follow-requires
follow-requires c =
    let entries = c.args.self.now.progress.history.entries in
    let number : ℕ = c.len.result - 1 in
    c.requires.numbered (take number entries) c.entry-entry.result.now
    (last_split entries number c.entry-entry.result.now (omega (arith, c.len.ensures, c.requires.some)) c.entry-entry.ensures)

pub returns-then-follows_alone-clause-followed : goal.returns-then-follows_alone-clause-followed
returns-then-follows_alone-clause-followed c = λ before entry split.
    let alone = c.follows_alone.ensures c.if-follows_alone.true in
    followed_last c.args.size c.args.ways c.args.self.now.progress.history.entries before (c.len.result - 1) c.entry-entry.result.now entry c.args.self.now _ _
    (omega (arith, c.len.ensures, c.requires.some)) c.entry-entry.ensures split
    (record {
      origins_are = c.in_ok-follow.ensures;
      sources_are = c.in_ok-step.ensures.sources;
      chains_are = inl (alone.0, alone.1, c.in_ok-step.ensures.chains);
    })

pub returns-clause-followed : goal.returns-clause-followed
returns-clause-followed c = λ before entry split.
    followed_last c.args.size c.args.ways c.args.self.now.progress.history.entries before (c.len.result - 1) c.entry-entry.result.now entry c.args.self.now _ _
    (omega (arith, c.len.ensures, c.requires.some)) c.entry-entry.ensures split
    (record {
      origins_are = c.in_ok-follow.ensures;
      sources_are = c.in_ok-step.ensures.sources;
      chains_are = inr c.in_ok-self.ensures;
    })
