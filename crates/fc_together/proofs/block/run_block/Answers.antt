-- A block is run, or stops at a fault, at the names, or before its actors begin.
use Rattle.std.proofs.Common.{List, Ok, Err, ◌∙◌, sym, ap, subst}
use Rattle.fc_blocks.specs.declared.block.ActorRead.{ActorRead}
use Rattle.fc_entry.specs.HistoryState.{HistoryState}
use Rattle.fc_entry.specs.declared.entry.Entry.{Entry}
use Rattle.fc_legal.specs.Scripts.{names_with}
use Rattle.fc_stands.specs.Quiet.{QuietBy}
use Rattle.fc_stands.specs.Store.{StandsFor}
use Rattle.law_together.specs.Telling.{named, scripts_then}
use Rattle.fc_together.proofs.Blocks.{are_scripts, different, faults_keep_names, faults_stopped, named_keeps, named_told, names_behind, names_stopped, none_behind, none_ran, of_block, ran_keeps_names, same_actors, same_entries, same_keeps, scripts_ran}
use Rattle.fc_together.proofs.block.run_block.Goals as goal

-- ---- at a fault

pub returns-in-Err-clause-answered : goal.returns-in-Err-clause-answered
returns-in-Err-clause-answered g c = λ read w told.
    faults_stopped (StandsFor c.args.store.now) c.args.store.now.control.grain read c.args.block w c.in-Err.stop c.args.history.now c.tell_faults.new.history
    (of_block (Err c.in-Err.stop) (StandsFor c.args.store.now) c.args.store.now.control.grain w c.as_slice.result.now c.args.block.faults c.args.history.now c.tell_faults.new.history
    c.as_slice.ensures (c.in-Err.ensures.told w told))

pub returns-in-Err-clause-named : goal.returns-in-Err-clause-named
returns-in-Err-clause-named g c = λ has.
    faults_keep_names (StandsFor c.args.store.now) c.args.store.now.control.grain c.as_slice.result.now c.requires.stands.0 (Err c.in-Err.stop) c.args.history.now c.tell_faults.new.history
    c.requires.main.0 c.requires.stands.1.1 c.requires.main.1 (c.in-Err.ensures.told c.requires.stands.0 c.requires.stands.1) has

pub returns-in-Err-clause-names : goal.returns-in-Err-clause-names
returns-in-Err-clause-names g c =
    none_behind c.args.history.now c.tell_faults.new.history
    (same_actors (StandsFor c.args.store.now) c.args.store.now.control.grain c.as_slice.result.now c.requires.stands.0 (Err c.in-Err.stop) c.args.history.now c.tell_faults.new.history
    c.requires.stands.1.1 (c.in-Err.ensures.told c.requires.stands.0 c.requires.stands.1))

-- ---- at the names

pub returns-in-Err-add_names-clause-answered : goal.returns-in-Err-add_names-clause-answered
returns-in-Err-add_names-clause-answered g c = λ read w told.
    names_stopped (StandsFor c.args.store.now) c.args.store.now.control.grain read c.args.block w (StandsFor c.args.store.now) c.args.history.now c.tell_faults.new.history c.add_names.new.history
    c.in-Err-add_names.ensures.err
    (of_block (Ok tt) (StandsFor c.args.store.now) c.args.store.now.control.grain w c.as_slice.result.now c.args.block.faults c.args.history.now c.tell_faults.new.history
    c.as_slice.ensures (c.in-Ok.ensures.told w told))

pub returns-in-Err-add_names-clause-named : goal.returns-in-Err-add_names-clause-named
returns-in-Err-add_names-clause-named g c = λ has.
    same_keeps c.tell_faults.new.history c.add_names.new.history c.in-Err-add_names.ensures.err
    (faults_keep_names (StandsFor c.args.store.now) c.args.store.now.control.grain c.as_slice.result.now c.requires.stands.0 (Ok tt) c.args.history.now c.tell_faults.new.history
    c.requires.main.0 c.requires.stands.1.1 c.requires.main.1 (c.in-Ok.ensures.told c.requires.stands.0 c.requires.stands.1) has)

pub returns-in-Err-add_names-clause-names : goal.returns-in-Err-add_names-clause-names
returns-in-Err-add_names-clause-names g c =
    none_behind c.args.history.now c.add_names.new.history
    (ap (λ (h : HistoryState). h.actors) c.in-Err-add_names.ensures.err
    ∙ same_actors (StandsFor c.args.store.now) c.args.store.now.control.grain c.as_slice.result.now c.requires.stands.0 (Ok tt) c.args.history.now c.tell_faults.new.history
    c.requires.stands.1.1 (c.in-Ok.ensures.told c.requires.stands.0 c.requires.stands.1))

-- ---- before the actors begin

pub returns-clause-answered : goal.returns-clause-answered
returns-clause-answered g c = λ read w told.
    none_ran c.args.store.now c.args.store.now c.requires.read.0 read c.args.block w c.args.history.now c.tell_faults.new.history c.add_names.new.history
    (c.in-Ok-add_names.ensures.ok ∙ ap (λ (actors : List ActorRead). record c.tell_faults.new.history { actors = names_with c.tell_faults.new.history.actors actors }) c.as_slice-2.ensures)
    c.requires.read.1
    (of_block (Ok tt) (StandsFor c.args.store.now) c.args.store.now.control.grain w c.as_slice.result.now c.args.block.faults c.args.history.now c.tell_faults.new.history
    c.as_slice.ensures (c.in-Ok.ensures.told w told))

pub returns-clause-named : goal.returns-clause-named
returns-clause-named g c = λ has.
    named_keeps c.args.block c.tell_faults.new.history c.add_names.new.history
    (c.in-Ok-add_names.ensures.ok ∙ ap (λ (actors : List ActorRead). record c.tell_faults.new.history { actors = names_with c.tell_faults.new.history.actors actors }) c.as_slice-2.ensures)
    (faults_keep_names (StandsFor c.args.store.now) c.args.store.now.control.grain c.as_slice.result.now c.requires.stands.0 (Ok tt) c.args.history.now c.tell_faults.new.history
    c.requires.main.0 c.requires.stands.1.1 c.requires.main.1 (c.in-Ok.ensures.told c.requires.stands.0 c.requires.stands.1) has)

pub returns-clause-names : goal.returns-clause-names
returns-clause-names g c =
    names_behind c.args.block c.tell_faults.new.history c.add_names.new.history
    (c.in-Ok-add_names.ensures.ok ∙ ap (λ (actors : List ActorRead). record c.tell_faults.new.history { actors = names_with c.tell_faults.new.history.actors actors }) c.as_slice-2.ensures)
    c.args.history.now
    (same_actors (StandsFor c.args.store.now) c.args.store.now.control.grain c.as_slice.result.now c.requires.stands.0 (Ok tt) c.args.history.now c.tell_faults.new.history
    c.requires.stands.1.1 (c.in-Ok.ensures.told c.requires.stands.0 c.requires.stands.1))

-- ---- the actors

pub run_scripts-requires-clause-stands : goal.run_scripts-requires-clause-stands
run_scripts-requires-clause-stands g c κs within =
    let told = c.in-Ok.ensures.told c.requires.stands.0 c.requires.stands.1 in
    let named_is = c.in-Ok-add_names.ensures.ok ∙ ap (λ (actors : List ActorRead). record c.tell_faults.new.history { actors = names_with c.tell_faults.new.history.actors actors }) c.as_slice-2.ensures in
    (named told.0 c.args.block, named_told c.args.block c.tell_faults.new.history c.add_names.new.history named_is c.args.store.now told.0 told.1)

pub run_scripts-requires-clause-asked : goal.run_scripts-requires-clause-asked
run_scripts-requires-clause-asked g c κs within =
    let told = c.in-Ok.ensures.told c.requires.stands.0 c.requires.stands.1 in
    let named_is = c.in-Ok-add_names.ensures.ok ∙ ap (λ (actors : List ActorRead). record c.tell_faults.new.history { actors = names_with c.tell_faults.new.history.actors actors }) c.as_slice-2.ensures in (
      scripts_then c.args.store.now.control.grain told.0 c.args.block,
      are_scripts c.args.block c.tell_faults.new.history c.add_names.new.history named_is c.args.store.now told.0 told.1
          c.in-Ok-prepare.scripts.items c.as_slice-3.result.now c.as_slice-3.ensures c.in-Ok-prepare.ensures.asked,
      different c.requires.read.0 c.args.block c.args.store.now.control.grain told.0 c.requires.read.1,
    )

pub returns-in-Ok-prepare-clause-answered : goal.returns-in-Ok-prepare-clause-answered
returns-in-Ok-prepare-clause-answered g c = λ read w told.
    let named_is = c.in-Ok-add_names.ensures.ok ∙ ap (λ (actors : List ActorRead). record c.tell_faults.new.history { actors = names_with c.tell_faults.new.history.actors actors }) c.as_slice-2.ensures in
    let faults = of_block (Ok tt) (StandsFor c.args.store.now) c.args.store.now.control.grain w c.as_slice.result.now c.args.block.faults c.args.history.now c.tell_faults.new.history
    c.as_slice.ensures (c.in-Ok.ensures.told w told) in
    scripts_ran c.args.store.now c.run_scripts.new.store c.requires.read.0 read c.args.block w c.args.history.now c.tell_faults.new.history c.add_names.new.history named_is c.requires.read.1 faults
    c.run_scripts.result c.run_scripts.new.history
    (c.run_scripts.ensures.ran (named faults.0 c.args.block) (scripts_then c.args.store.now.control.grain faults.0 c.args.block)
    (named_told c.args.block c.tell_faults.new.history c.add_names.new.history named_is c.args.store.now faults.0 faults.1)
    (are_scripts c.args.block c.tell_faults.new.history c.add_names.new.history named_is c.args.store.now faults.0 faults.1
    c.in-Ok-prepare.scripts.items c.as_slice-3.result.now c.as_slice-3.ensures c.in-Ok-prepare.ensures.asked)
    (different c.requires.read.0 c.args.block c.args.store.now.control.grain faults.0 c.requires.read.1))

pub returns-in-Ok-prepare-clause-quiet : goal.returns-in-Ok-prepare-clause-quiet
returns-in-Ok-prepare-clause-quiet g c = λ quiet.
    let named_is = c.in-Ok-add_names.ensures.ok ∙ ap (λ (actors : List ActorRead). record c.tell_faults.new.history { actors = names_with c.tell_faults.new.history.actors actors }) c.as_slice-2.ensures in
    let P : List Entry → Type 0 = λ es. QuietBy es c.args.store.now in
    c.run_scripts.ensures.quiet (subst P (sym (same_entries c.args.block c.tell_faults.new.history c.add_names.new.history named_is)) (c.in-Ok.ensures.quiet quiet))

pub returns-in-Ok-prepare-clause-named : goal.returns-in-Ok-prepare-clause-named
returns-in-Ok-prepare-clause-named g c = λ has.
    let named_is = c.in-Ok-add_names.ensures.ok ∙ ap (λ (actors : List ActorRead). record c.tell_faults.new.history { actors = names_with c.tell_faults.new.history.actors actors }) c.as_slice-2.ensures in
    let told = c.in-Ok.ensures.told c.requires.stands.0 c.requires.stands.1 in
    ran_keeps_names c.args.block c.tell_faults.new.history c.add_names.new.history named_is c.args.store.now told.0 told.1 c.run_scripts.new.store c.run_scripts.result c.run_scripts.new.history
    (c.run_scripts.ensures.ran (named told.0 c.args.block) (scripts_then c.args.store.now.control.grain told.0 c.args.block)
    (named_told c.args.block c.tell_faults.new.history c.add_names.new.history named_is c.args.store.now told.0 told.1)
    (are_scripts c.args.block c.tell_faults.new.history c.add_names.new.history named_is c.args.store.now told.0 told.1
    c.in-Ok-prepare.scripts.items c.as_slice-3.result.now c.as_slice-3.ensures c.in-Ok-prepare.ensures.asked)
    (different c.requires.read.0 c.args.block c.args.store.now.control.grain told.0 c.requires.read.1))
    c.run_scripts.ensures.names
    (faults_keep_names (StandsFor c.args.store.now) c.args.store.now.control.grain c.as_slice.result.now c.requires.stands.0 (Ok tt) c.args.history.now c.tell_faults.new.history
    c.requires.main.0 c.requires.stands.1.1 c.requires.main.1 told has)

pub returns-in-Ok-prepare-clause-names : goal.returns-in-Ok-prepare-clause-names
returns-in-Ok-prepare-clause-names g c =
    let named_is = c.in-Ok-add_names.ensures.ok ∙ ap (λ (actors : List ActorRead). record c.tell_faults.new.history { actors = names_with c.tell_faults.new.history.actors actors }) c.as_slice-2.ensures in
    let behind = names_behind c.args.block c.tell_faults.new.history c.add_names.new.history named_is c.args.history.now
    (same_actors (StandsFor c.args.store.now) c.args.store.now.control.grain c.as_slice.result.now c.requires.stands.0 (Ok tt) c.args.history.now c.tell_faults.new.history
    c.requires.stands.1.1 (c.in-Ok.ensures.told c.requires.stands.0 c.requires.stands.1)) in
    (behind.0, c.run_scripts.ensures.names ∙ behind.1)
