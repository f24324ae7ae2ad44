-- By what is asked for.
use Rattle.std.proofs.Common.{◌≡◌, ◌∙◌, true, ap, map, subst}
use Rattle.fc_args.specs.Grammar.{is_offered}
use Rattle.fc_args.specs.declared.asked.Asked.{Asked}
use Rattle.fc_args.specs.declared.asked.Asked.TheVariants.{Run, Drill, Check, Stop}
use Rattle.fc_call.specs.Call.{Call}
use Rattle.fc_run.proofs.TakesLemmas.{EachGave-none}
use Rattle.fc_stopped.specs.Calls.{half_of_disk}
use Rattle.fc_stopped.specs.Stopped.{StopEnds}
use Rattle.fc_top.proofs.TheoremLemmas.{stop_ran, theorem_of}
use Rattle.fc_top.proofs.WordLemmas.{run-uncached}
use Rattle.fc_run.specs.declared.form.Form.{Form}
use Rattle.fc_top.specs.PlainEnds.{PlainEnds}
use Rattle.fc_top.specs.Traced.{run_form}
use Rattle.fc_verdict.proofs.CheckLemmas.{check_few, check_ran, check_takes}
use Rattle.fc_verdict.specs.CheckEnds.{CheckEnds}
use Rattle.fc_top.proofs.flashcopy.run_asked.Goals as goal

pub returns-in-Run : goal.returns-in-Run
returns-in-Run g c =
    let source = g.S.Source.meaning c.args.source.now in
    let source' = g.S.Source.meaning c.run_plain.new.source in
    let call : Call = record {
      status = c.run_plain.result;
      source = source;
      source' = source';
      sink = g.K.Sink.meaning c.args.sink.now;
      sink' = g.K.Sink.meaning c.run_plain.new.sink;
      disks = map g.D.Mdisk.meaning c.args.disks.now.items;
      disks' = map g.D.Mdisk.meaning c.run_plain.new.disks.items;
      history = c.run_plain.new.history;
    } in
    let P : Asked → Type 0 = λ a. is_offered a ≡ true in
    let form = c.run_form-form.ensures ∙ ap (λ items. run_form c.in-Run.options (map g.D.Mdisk.meaning items)) c.as_slice.ensures.value in
    let Q : Form → Type 0 = λ form. PlainEnds form c.in-Run.options.grain source source' call in
    record {
      theorem = theorem_of c.args.asked (Run c.in-Run.options) call c.in-Run.is c.run_plain.ensures.ran
          c.run_plain.ensures.takes c.run_plain.ensures.limit
          record {
            cacheless = run-uncached c.in-Run.options (subst P c.in-Run.is c.requires.built);
            ends = subst Q form (c.run_plain.ensures.ends source source');
          };
    }

pub returns-in-Drill : goal.returns-in-Drill
returns-in-Drill g c =
    let source = g.S.Source.meaning c.args.source.now in
    let call : Call = record {
      status = c.run_drill.result;
      source = source;
      source' = source;
      sink = g.K.Sink.meaning c.args.sink.now;
      sink' = g.K.Sink.meaning c.run_drill.new.sink;
      disks = map g.D.Mdisk.meaning c.args.disks.now.items;
      disks' = map g.D.Mdisk.meaning c.run_drill.new.disks.items;
      history = c.run_drill.new.history;
    } in
    record {
      theorem = theorem_of c.args.asked (Drill c.in-Drill.number) call c.in-Drill.is
          c.run_drill.ensures.ran (EachGave-none source) c.run_drill.ensures.limit (c.run_drill.ensures.ends source);
    }

pub returns-in-Check : goal.returns-in-Check
returns-in-Check g c =
    let disks = map g.D.Mdisk.meaning c.args.disks.now.items in
    let call : Call = record {
      status = c.run_check.result;
      source = g.S.Source.meaning c.args.source.now;
      source' = g.S.Source.meaning c.run_check.new.source;
      sink = g.K.Sink.meaning c.args.sink.now;
      sink' = g.K.Sink.meaning c.run_check.new.sink;
      disks = disks;
      disks' = disks;
      history = c.args.history.now;
    } in
    let ends : CheckEnds call = c.run_check.ensures disks c.args.history.now c.requires.empty in
    record { theorem = theorem_of c.args.asked Check call c.in-Check.is (check_ran call ends) (check_takes call ends) (check_few call ends) ends }

pub run_until-requires-clause-counted : goal.run_until-requires-clause-counted
run_until-requires-clause-counted g c = c.requires.counted c.in-Stop.call c.in-Stop.is

pub returns-in-Stop : goal.returns-in-Stop
returns-in-Stop g c =
    let call : Call = record {
      status = c.run_until.result;
      source = g.S.Source.meaning c.args.source.now;
      source' = g.S.Source.meaning c.run_until.new.source;
      sink = g.K.Sink.meaning c.args.sink.now;
      sink' = g.K.Sink.meaning c.run_until.new.sink;
      disks = map g.D.Mdisk.meaning c.args.disks.now.items;
      disks' = map g.D.Mdisk.meaning c.run_until.new.disks.items;
      history = c.run_until.new.history;
    } in
    let ends : StopEnds c.in-Stop.call half_of_disk call = c.run_until.ensures.ends in
    record { theorem = theorem_of c.args.asked (Stop c.in-Stop.call) call c.in-Stop.is (stop_ran c.in-Stop.call half_of_disk call ends) c.run_until.ensures.takes c.run_until.ensures.limit ends }
