use Rattle.std.proofs.Common.{◌≡◌, ◌<◌, List, map, sym, ap, subst, arith}
use Rattle.fc_check_record.specs.Judged.{Judged}
use Rattle.fc_check_follow.specs.Following.{AreCandidates, AreFollowing}
use Rattle.fc_check_follow.specs.Ways.{AreAfter, Ways}
use Rattle.fc_check_follow.proofs.Together.{are_after, still_candidates, told_in}
use Rattle.fc_check_follow.proofs.candidates.Candidates.follow.Goals as goal

pub ways_after-requires-clause-reached : goal.ways_after-requires-clause-reached
ways_after-requires-clause-reached c =
    let same : c.replace-ways.result.items ≡ c.self.inside.ways.items = cc in
    let were : AreCandidates c.self.inside.grain c.self.inside.entries c.replace-ways.result.items =
    subst (AreCandidates c.self.inside.grain c.self.inside.entries) (sym same) c.self.invariant in
    were.reached

pub invariant_of-self-2 : goal.invariant_of-self-2
invariant_of-self-2 c =
    let same : c.replace-ways.result.items ≡ c.self.inside.ways.items = cc in
    let were : AreCandidates c.self.inside.grain c.self.inside.entries c.replace-ways.result.items =
    subst (AreCandidates c.self.inside.grain c.self.inside.entries) (sym same) c.self.invariant in
    let entries : c.self.inside.entries ≡ c.args.self.now.entries = ap (λ (v : Ways). v.entries) c.self.view_is in
    let few : c.self.inside.entries < 262144 = omega (arith, c.requires) in
    still_candidates c.self.inside.grain c.self.inside.entries c.replace-ways.result.items c.args.entry.now c.in_ok-self-inside.field-0.items few were c.in_ok-self-inside.ensures

pub returns-clause-after : goal.returns-clause-after
returns-clause-after c =
    let same : c.replace-ways.result.items ≡ c.self.inside.ways.items = cc in
    let after : AreFollowing c.self.inside.ways.items c.args.entry.now c.in_ok-self-inside.field-0.items =
    subst (λ (ways : List Judged). AreFollowing ways c.args.entry.now c.in_ok-self-inside.field-0.items) same c.in_ok-self-inside.ensures in
    subst (λ (v : Ways). AreAfter v.grain v.ways c.args.entry.now (map told_in c.in_ok-self-inside.field-0.items)) c.self.view_is
    (are_after c.self.inside.grain c.self.inside.entries c.self.inside.ways.items c.args.entry.now c.in_ok-self-inside.field-0.items c.self.invariant after)
