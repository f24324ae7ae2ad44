-- An access by its grains.
use Rattle.std.proofs.Common.{◌≡◌, sym, ap, ◌∙◌, subst}
use Rattle.fc_actors.specs.declared.script.Item.TheVariants.{Access}
use Rattle.fc_actors.specs.declared.span.Span.{Span}
use Rattle.fc_base.specs.declared.command.Line.TheVariants.{Command as CommandLine}
use Rattle.fc_base.specs.declared.command.ScriptLine.TheVariants.{Read}
use Rattle.fc_base.specs.declared.ids.VolId.{VolId}
use Rattle.fc_base.specs.declared.size.GrainSize.{GrainSize}
use Rattle.fc_prepare.specs.Items.{IsItemOf, whole_span}
use Rattle.fc_prepare.proofs.Asking.{taken_item}
use Rattle.fc_prepare.proofs.items.access_item.Goals as goal

pub returns-in-Ok : goal.returns-in-Ok
returns-in-Ok g c =
    let taken = c.in-Ok.ensures.taken in
    let is : c.whole_span.result ≡ whole_span c.args.store.now.control.grain c.args.access taken.0.id c.args.block c.args.count =
    c.whole_span.ensures ∙ ap (λ (size : GrainSize). whole_span size c.args.access c.in-Ok.id c.args.block c.args.count) c.grain.ensures
    ∙ ap (λ (id : VolId). whole_span c.args.store.now.control.grain c.args.access id c.args.block c.args.count) (sym taken.2) in
    subst (λ (span : Span). IsItemOf c.args.store.now.control (Read (CommandLine c.args.command.now)) (Access span)) (sym is)
    (taken_item c.args.store.now.control c.args.access c.args.volume.now c.args.block c.args.count taken.0 c.args.command.now c.requires taken.1 taken.3)
