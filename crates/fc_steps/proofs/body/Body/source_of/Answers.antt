use Rattle.std.proofs.Common.{ℕ, Option, sym, subst}
use Rattle.std.specs.Prelude.{IsSome}
use Rattle.fc_chain.specs.Chains.{in_lane}
use Rattle.fc_steps.proofs.Naming.{holder_named}
use Rattle.fc_steps.proofs.body.Body.source_of.Goals as goal

pub volume-requires : goal.volume-requires
volume-requires g c =
    let r = c.requires in
    let s = c.args.self.now.cascade.sheet in
    let e = holder_named s (in_lane c.args.self.now.cascade c.args.grain) c.args.slot.0 r.slot r.source c.in-Some.holder c.holder.result r.sound r.there r.holds (c.holder.ensures r.slot r.there) c.in-Some.is in
    subst (λ (z : Option ℕ). IsSome z) (sym e) cc

pub returns : goal.returns
returns g c k h e q =
    let s = c.args.self.now.cascade.sheet in
    c.volume.ensures h (holder_named s (in_lane c.args.self.now.cascade c.args.grain) c.args.slot.0 k h c.in-Some.holder c.holder.result c.requires.sound e q (c.holder.ensures k e) c.in-Some.is)
