-- A drill ends as a session that is read from memory; or memory was wanted for its bytes.
use Rattle.std.proofs.Common.{ap, map, refl, subst, inr}
use Rattle.fc_base.specs.declared.size.GrainSize.TheVariants.{K64}
use Rattle.fc_call.specs.Call.{Call}
use Rattle.fc_call.specs.declared.status.Status.TheVariants.{NoMemory}
use Rattle.fc_entry.specs.HistoryState.{HistoryState}
use Rattle.fc_io.specs.Source.{SourceState}
use Rattle.fc_run.proofs.TakesLemmas.{EachGave-none}
use Rattle.fc_run.specs.Takes.{EachGave}
use Rattle.fc_run.specs.declared.form.Form.TheVariants.{Summary}
use Rattle.fc_top.proofs.DrillLemmas.{drill_ends, drill_source-made}
use Rattle.fc_top.proofs.PlainLemmas.{starved_ends}
use Rattle.fc_top.specs.Ends.{drill_source}
use Rattle.fc_top.specs.PlainEnds.{PlainEnds}
use Rattle.fc_top.proofs.drill.run_drill.Goals as goal

pub returns-in-Err-clause-ends : goal.returns-in-Err-clause-ends
returns-in-Err-clause-ends g c = λ outer.
    let sink = g.K.Sink.meaning c.args.sink.now in
    let source : SourceState = drill_source c.args.number in
    let call : Call = record {
      status = NoMemory;
      source = outer;
      source' = outer;
      sink = sink;
      sink' = sink;
      disks = map g.D.Mdisk.meaning c.args.disks.now.items;
      disks' = map g.D.Mdisk.meaning c.args.disks.now.items;
      history = c.args.history.now;
    } in
    drill_ends c.args.number source call refl (EachGave-none source)
    (starved_ends Summary K64 source source call refl refl refl (ap (λ (h : HistoryState). h.entries) c.requires.empty) (inr c.requires.empty))

pub returns-clause-ends : goal.returns-clause-ends
returns-clause-ends g c = λ outer.
    let left : SourceState = c.run_plain.new.source in
    let call : Call = record {
      status = c.run_plain.result;
      source = outer;
      source' = outer;
      sink = g.K.Sink.meaning c.args.sink.now;
      sink' = g.K.Sink.meaning c.run_plain.new.sink;
      disks = map g.D.Mdisk.meaning c.args.disks.now.items;
      disks' = map g.D.Mdisk.meaning c.run_plain.new.disks.items;
      history = c.run_plain.new.history;
    } in
    let same =
    drill_source-made c.new-source.result c.in-Ok.bytes.items c.new.result.items c.args.number c.new-source.ensures c.in-Ok.ensures
    c.new.ensures.items in
    let P : SourceState → Type 0 = λ s. PlainEnds Summary K64 s left call in
    let Q : SourceState → Type 0 = λ s. EachGave s left in
    drill_ends c.args.number left call refl (subst Q same c.run_plain.ensures.takes) (subst P same (c.run_plain.ensures.ends outer outer))
