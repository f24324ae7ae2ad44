-- The mapping, and the flags as they stand.
use Rattle.std.proofs.Common.{arith, refl}
use Rattle.fc_base.specs.declared.fault.Kind.TheVariants.{Fcmap}
use Rattle.fc_base.specs.declared.request.Reply.TheVariants.{Made}
use Rattle.fc_objects.proofs.Mapped.{made_mapping}
use Rattle.fc_desk.specs.Control.{books_of}
use Rattle.fc_objects.specs.Mappings.{mapping_with_name}
use Rattle.fc_objects.proofs.mkfcmap.make_mapping.Goals as goal

pub returns : goal.returns
returns g c =
    made_mapping (g.S.Sheet.meaning c.args.sheet.now).restarts (books_of c.args.control.now (g.S.Sheet.meaning c.args.sheet.now))
    (mapping_with_name c.args.control.now.tables c.args.control.now.next_mapping c.args.source.now c.args.target.now c.args.name c.args.group.now c.args.options.copy_rate c.args.options.clean_rate c.args.options.incremental c.args.options.autodelete)
    (Made Fcmap c.args.control.now.next_mapping) c.in_ok-draft.draft c.in_ok-decision.decision refl refl c.requires.given
    c.in_ok-draft.ensures (grind (arith, c.in_ok-decision.ensures, c.next_mapping-id.ensures))
