-- What the words ask for is run; or they ask for nothing, or memory was wanted to read them, and nothing is done.
use Rattle.std.proofs.Common.{◌∙◌, ℕ, Option, Some, List, Bor, inl, map, refl, sym, ap, subst}
use Rattle.fc_args.proofs.Counted.{counted}
use Rattle.fc_args.specs.Grammar.{asked_by}
use Rattle.fc_args.specs.declared.asked.Asked.{Asked}
use Rattle.fc_call.specs.Call.{Call}
use Rattle.fc_call.specs.declared.status.Status.TheVariants.{Usage, NoMemory}
use Rattle.fc_top.proofs.TheoremLemmas.{theorem_starved, theorem_unasked}
use Rattle.fc_top.proofs.WordLemmas.{asked-built}
use Rattle.fc_top.specs.Theorem.{Theorem}
use Rattle.fc_top.proofs.flashcopy.flashcopy_over.Goals as goal

abbrev texts : List (Bor (List ℕ)) → List (List ℕ)
texts = map (λ word. word.now)

pub run_asked-requires-clause-built : goal.run_asked-requires-clause-built
run_asked-requires-clause-built g c = λ κs within.
    asked-built (texts c.args.words.now) c.in-Ok-Some.asked (sym c.in-Ok-Some.ensures ∙ c.in-Ok-Some.field-0-is)

pub run_asked-requires-clause-counted : goal.run_asked-requires-clause-counted
run_asked-requires-clause-counted g c = λ κs within call stop.
    counted (texts c.args.words.now) call (sym c.in-Ok-Some.ensures ∙ c.in-Ok-Some.field-0-is ∙ ap (λ (a : Asked). Some a) stop)

pub returns-in-Ok-Some : goal.returns-in-Ok-Some
returns-in-Ok-Some g c =
    let call : Call = record {
      status = c.run_asked.result;
      source = g.S.Source.meaning c.args.source.now;
      source' = g.S.Source.meaning c.run_asked.new.source;
      sink = g.K.Sink.meaning c.args.sink.now;
      sink' = g.K.Sink.meaning c.run_asked.new.sink;
      disks = map g.D.Mdisk.meaning c.args.disks.now.items;
      disks' = map g.D.Mdisk.meaning c.run_asked.new.disks.items;
      history = c.run_asked.new.history;
    } in
    let P : Option Asked → Type 0 = λ a. Theorem a call in
    record { theorem = subst P (sym c.in-Ok-Some.field-0-is ∙ c.in-Ok-Some.ensures) c.run_asked.ensures.theorem }

pub returns-in-Ok-None : goal.returns-in-Ok-None
returns-in-Ok-None g c =
    let source = g.S.Source.meaning c.args.source.now in
    let sink = g.K.Sink.meaning c.args.sink.now in
    let disks = map g.D.Mdisk.meaning c.args.disks.now.items in
    let call : Call = record {
      status = Usage;
      source = source;
      source' = source;
      sink = sink;
      sink' = sink;
      disks = disks;
      disks' = disks;
      history = c.args.history.now;
    } in
    record {
      theorem = theorem_unasked (asked_by (texts c.args.words.now)) call (sym c.in-Ok-None.ensures ∙ c.in-Ok-None.field-0-is) (inl refl)
          record { source = refl; sink = refl; disks = refl; history = c.requires.empty };
    }

pub returns-in-Err : goal.returns-in-Err
returns-in-Err g c =
    let source = g.S.Source.meaning c.args.source.now in
    let sink = g.K.Sink.meaning c.args.sink.now in
    let disks = map g.D.Mdisk.meaning c.args.disks.now.items in
    let call : Call = record {
      status = NoMemory;
      source = source;
      source' = source;
      sink = sink;
      sink' = sink;
      disks = disks;
      disks' = disks;
      history = c.args.history.now;
    } in
    record {
      theorem = theorem_starved (asked_by (texts c.args.words.now)) call (asked-built (texts c.args.words.now)) refl
          record { source = refl; sink = refl; disks = refl; history = c.requires.empty };
    }
