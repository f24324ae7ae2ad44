use Rattle.std.proofs.Common.{◌<◌, ◌∙◌, length, ap, sym, subst}
use Rattle.fc_base.specs.declared.state.Access.{Access}
use Rattle.fc_entry.specs.Picture.{grain_of_block}
use Rattle.fc_kept.specs.Images.{tables_in, kept_in}
use Rattle.fc_recovered.specs.Answering.{IsAnswerBy, IsAnswerOf}
use Rattle.fc_recovered.specs.Recovered.{RecoveredState, RecoversTo}
use Rattle.fc_recovered.specs.Showing.{shown_at}
use Rattle.fc_recovered.proofs.Answered.{access_is, plain_reply, reply_stands}
use Rattle.fc_recovered.proofs.recovered.Recovered.read.Goals as goal

pub returns-in-Online-clause-plain : goal.returns-in-Online-clause-plain
returns-in-Online-clause-plain g c now one s =
    plain_reply c.args.self.now c.args.part c.read_online.result (subst (λ (s : RecoveredState). 0 < length s.disks) c.self.view_is c.self.invariant.some) c.requires
    (subst (λ (a : Access). IsAnswerBy a c.args.self.now.grain c.args.part (shown_at c.args.self.now.grain c.args.self.now.disks (kept_in c.args.self.now.image) c.args.part.volume.0 (grain_of_block c.args.self.now.grain c.args.part.block)) c.read_online.result)
    (sym c.in-Online.is ∙ access_is (tables_in c.args.self.now.image) c.args.part.volume c.as_slice.result.now c.access_in.result (c.as_slice.ensures ∙ ap (λ (s : RecoveredState). s.image.mappings) c.self.view_is) c.access_in.ensures)
    (subst (λ (s : RecoveredState). IsAnswerOf s.grain c.args.part (shown_at s.grain s.disks (kept_in s.image) c.args.part.volume.0 (grain_of_block s.grain c.args.part.block)) c.read_online.result) c.self.view_is c.read_online.ensures.shown))
    now one s

pub returns-in-Online-clause-stands : goal.returns-in-Online-clause-stands
returns-in-Online-clause-stands g c now one s =
    subst (λ (s : RecoveredState). RecoversTo s.grain s.disks (kept_in s.image) now one → RecoversTo s.grain c.read_online.new.disks.items (kept_in s.image) now one) c.self.view_is
    (reply_stands c.self.inside.grain c.self.inside.image c.self.inside.disks.items c.read_online.new.disks.items c.self.inside.buffer.items c.read_online.result c.self.invariant c.read_online.ensures.disks now one) s
