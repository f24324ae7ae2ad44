use Rattle.std.proofs.Common.{◌≡◌, ◌∙◌, true, false, refl, sym, ap, is_err}
use Rattle.fc_entry.specs.Picture.{is_lost}
use Rattle.fc_grains.specs.Volumes.{stored}
use Rattle.fc_steps.specs.declared.read.GrainRead.TheVariants.{Done, IsLost, Failed}
use Rattle.fc_steps.proofs.Shown.{can_show, from_inside, read_ended, read_was}
use Rattle.fc_steps.proofs.body.Body.read_shown.Goals as goal

pub shown_by-source-requires : goal.shown_by-source-requires
shown_by-source-requires g c = can_show c.args.self.now.cascade c.args.self.now.grains c.args.volume.0 c.args.grain c.args.place c.requires.can

pub is_lost-requires : goal.is_lost-requires
is_lost-requires g c = from_inside c.args.self.now.cascade c.args.self.now.grains c.args.volume.0 c.args.grain c.args.place c.requires.can c.shown_by-source.result.0 c.shown_by-source.ensures

pub returns-then-is_lost-clause-ends : goal.returns-then-is_lost-clause-ends
returns-then-is_lost-clause-ends g c =
    let lost : is_lost (stored c.args.self.now.grains.volumes c.shown_by-source.result.0 c.args.place) ≡ true = sym c.is_lost.ensures ∙ c.if-is_lost.true in
    read_ended c.args.self.now.cascade c.args.self.now.grains c.args.volume.0 c.args.grain c.args.place c.requires.can c.shown_by-source.result.0 c.shown_by-source.ensures IsLost c.args.self.now.grains (lost, refl)

pub returns-in-Ok-clause-ends : goal.returns-in-Ok-clause-ends
returns-in-Ok-clause-ends g c =
    let held : is_lost (stored c.args.self.now.grains.volumes c.shown_by-source.result.0 c.args.place) ≡ false = sym c.is_lost.ensures ∙ c.if-is_lost.false in
    read_ended c.args.self.now.cascade c.args.self.now.grains c.args.volume.0 c.args.grain c.args.place c.requires.can c.shown_by-source.result.0 c.shown_by-source.ensures
    Done c.read.new.self (held, read_was c.args.self.now.grains c.read.new.self c.shown_by-source.result.0 c.args.place c.read.result false (ap (λ r. is_err r) c.in-Ok.is) c.read.ensures)

pub returns-in-Err-clause-ends : goal.returns-in-Err-clause-ends
returns-in-Err-clause-ends g c =
    let held : is_lost (stored c.args.self.now.grains.volumes c.shown_by-source.result.0 c.args.place) ≡ false = sym c.is_lost.ensures ∙ c.if-is_lost.false in
    read_ended c.args.self.now.cascade c.args.self.now.grains c.args.volume.0 c.args.grain c.args.place c.requires.can c.shown_by-source.result.0 c.shown_by-source.ensures
    Failed c.read.new.self (held, read_was c.args.self.now.grains c.read.new.self c.shown_by-source.result.0 c.args.place c.read.result true (ap (λ r. is_err r) c.in-Err.is) c.read.ensures)
