-- A command that asks for itself is refused, or is no access and no preset.
use Rattle.std.proofs.Common.{IfNone, option_copied, ap, subst, sym, ◌∙◌}
use Rattle.fc_base.specs.Tables.{Tables, volume_named}
use Rattle.fc_base.specs.declared.command.Command.{Command}
use Rattle.fc_lanes.specs.declared.access.Access.TheVariants.{Read, Write}
use Rattle.fc_script.specs.Asking.{AsksItself}
use Rattle.fc_stands.specs.Phase.{IsDecided}
use Rattle.fc_script.proofs.Begun.{access_decided, preset_decided}
use Rattle.fc_script.proofs.script.refusal_of.Goals as goal

pub returns-in-Read-clause-decided : goal.returns-in-Read-clause-decided
returns-in-Read-clause-decided g c =
    subst (λ (k : Command). IfNone c.refusal_of_access.result (IsDecided k)) (sym c.in-Read.is)
    (access_decided c.args.store.now Read c.in-Read.volume c.in-Read.block c.in-Read.count c.refusal_of_access.result c.requires.stands
    (subst (λ (k : Command). AsksItself c.args.store.now.control.grain c.args.store.now.control.tables k) c.in-Read.is c.requires.itself) c.refusal_of_access.ensures.taken)

pub returns-in-Write-clause-decided : goal.returns-in-Write-clause-decided
returns-in-Write-clause-decided g c =
    subst (λ (k : Command). IfNone c.refusal_of_access-in-Write.result (IsDecided k)) (sym c.in-Write.is)
    (access_decided c.args.store.now (Write c.in-Write.byte) c.in-Write.volume c.in-Write.block c.in-Write.count c.refusal_of_access-in-Write.result c.requires.stands
    (subst (λ (k : Command). AsksItself c.args.store.now.control.grain c.args.store.now.control.tables k) c.in-Write.is c.requires.itself) c.refusal_of_access-in-Write.ensures.taken)

pub returns-in-Some-clause-decided : goal.returns-in-Some-clause-decided
returns-in-Some-clause-decided g c =
    absurd (preset_decided c.args.store.now c.in-Mkpreset.source c.in-Mkpreset.preset c.in-Mkpreset.name c.in-Some.field-0.now c.requires.stands
    (subst (λ (k : Command). AsksItself c.args.store.now.control.grain c.args.store.now.control.tables k) c.in-Mkpreset.is c.requires.itself)
    (sym (ap option_copied (sym c.in-Some.is) ∙ (c.volume.ensures ∙ ap (λ (t : Tables). volume_named t c.in-Mkpreset.source) c.registry.ensures))))
