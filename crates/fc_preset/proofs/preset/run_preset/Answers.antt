-- A preset asks for a volume first, or for itself where its source names none.
use Rattle.std.proofs.Common.{[], ◌∷◌, Ok, sym, ◌∙◌, subst}
use Rattle.fc_base.specs.declared.behind.Behind.TheVariants.{Mapping as MappingOf}
use Rattle.fc_base.specs.declared.command.Command.TheVariants.{Mkpreset}
use Rattle.fc_base.specs.declared.command.Line.TheVariants.{Command as CommandLine}
use Rattle.fc_base.specs.declared.request.Request.TheVariants.{Command as Asked}
use Rattle.fc_base.specs.declared.size.GrainSize.{GrainSize}
use Rattle.fc_stands.specs.Phase.{IsDecided}
use Rattle.fc_stands.specs.Store.{StandsFor}
use Rattle.fc_stands.proofs.Lining.{line_answered, starved_answered}
use Rattle.fc_preset.proofs.First.{none_named, preset_line, some_named}
use Rattle.fc_preset.proofs.preset.run_preset.Goals as goal

pub make_volume-requires-clause-decided : goal.make_volume-requires-clause-decided
make_volume-requires-clause-decided g c =
    let first = some_named c.args.store.now.control c.args.source c.args.preset c.args.name c.in-Ok-Some.line (sym c.in-Ok-Some.field-0-is ∙ c.in-Ok-Some.ensures) in
    subst IsDecided (sym first.line_is) tt

pub run_line-requires-clause-own : goal.run_line-requires-clause-own
run_line-requires-clause-own g c = none_named c.args.store.now.control c.args.source c.args.preset c.args.name (sym c.in-Ok-None.field-0-is ∙ c.in-Ok-None.ensures)

pub returns-in-Ok-Some-clause-answered : goal.returns-in-Ok-Some-clause-answered
returns-in-Ok-Some-clause-answered g c = λ read bytes w is told.
    let grain : GrainSize = c.args.store.now.control.grain in
    let stands : StandsFor c.args.store.now w = told.0 in
    let first = some_named c.args.store.now.control c.args.source c.args.preset c.args.name c.in-Ok-Some.line (sym c.in-Ok-Some.field-0-is ∙ c.in-Ok-Some.ensures) in
    line_answered c.make_volume.result (StandsFor c.make_volume.new.store) grain read w bytes (Ok (CommandLine (Mkpreset c.args.source c.args.preset c.args.name)))
    (Asked c.in-Ok-Some.line ∷ []) (MappingOf c.args.source c.args.preset c.args.name) c.args.history.now c.make_volume.new.history is
    (preset_line c.args.store.now.control w c.args.source c.args.preset c.args.name c.in-Ok-Some.line stands.control.tables first)
    (c.make_volume.ensures.answered read w told)

pub returns-in-Ok-Some-clause-grain : goal.returns-in-Ok-Some-clause-grain
returns-in-Ok-Some-clause-grain g c = c.make_volume.ensures.grain

pub returns-in-Ok-Some-clause-disks : goal.returns-in-Ok-Some-clause-disks
returns-in-Ok-Some-clause-disks g c = c.make_volume.ensures.disks

pub returns-in-Ok-Some-clause-quiet : goal.returns-in-Ok-Some-clause-quiet
returns-in-Ok-Some-clause-quiet g c = c.make_volume.ensures.quiet

pub returns-in-Ok-Some-clause-limit : goal.returns-in-Ok-Some-clause-limit
returns-in-Ok-Some-clause-limit g c = c.make_volume.ensures.limit

pub returns-in-Ok-None-clause-answered : goal.returns-in-Ok-None-clause-answered
returns-in-Ok-None-clause-answered g c = λ read bytes w is told. c.run_line.ensures.answered read bytes w is told

pub returns-in-Err-clause-answered : goal.returns-in-Err-clause-answered
returns-in-Err-clause-answered g c = λ read bytes w is told. starved_answered (StandsFor c.args.store.now) c.args.store.now.control.grain read w _ c.args.history.now told.1
