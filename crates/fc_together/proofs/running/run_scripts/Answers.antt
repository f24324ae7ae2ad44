-- The scripts were run, or none was begun.
use Rattle.std.proofs.Common.{◌∙◌, sym}
use Rattle.fc_stands.specs.Store.{StandsFor}
use Rattle.fc_store.specs.StoreParts.{parts_view}
use Rattle.fc_together.proofs.Ran.{all_suit, limit_kept, makings_drawn, makings_made, quiet_result, ran, ran_none, same_disks, same_grain, same_names, told_first}
use Rattle.fc_together.specs.Answers.{makings_of}
use Rattle.fc_together.proofs.running.run_scripts.Goals as goal

pub act_over_store-requires-clause-stands : goal.act_over_store-requires-clause-stands
act_over_store-requires-clause-stands g c κs within = (c.requires.stands.0, c.requires.stands.1.0, c.requires.stands.1.1.entries ∙ sym c.len.ensures)

pub act_over_store-requires-clause-suits : goal.act_over_store-requires-clause-suits
act_over_store-requires-clause-suits g c κs within = all_suit (parts_view c.args.store.now) c.args.scripts.items c.requires.suits

pub tell_answers-requires-clause-made : goal.tell_answers-requires-clause-made
tell_answers-requires-clause-made g c =
    makings_made c.args.store.now c.act_over_store.new.store c.len.result c.args.scripts.items c.in-Ok.answers.items c.args.history.now c.len.ensures c.in-Ok.ensures.acted
    c.requires.asked.0 c.requires.asked.1 c.requires.asked.2

pub tell_answers-requires-clause-drawn : goal.tell_answers-requires-clause-drawn
tell_answers-requires-clause-drawn g c = (
  c.in-Ok.ensures.acted.entries,
  makings_drawn c.args.store.now c.act_over_store.new.store c.len.result c.args.scripts.items c.in-Ok.answers.items c.args.history.now c.len.ensures c.in-Ok.ensures.acted,
)

pub returns-in-Ok-clause-ran : goal.returns-in-Ok-clause-ran
returns-in-Ok-clause-ran g c = λ w asked told same differ.
    ran c.args.store.now c.act_over_store.new.store c.len.result c.args.scripts.items c.in-Ok.answers.items c.args.history.now c.len.ensures c.in-Ok.ensures.acted
    w told asked same differ c.requires.suits c.tell_answers.result c.tell_answers.new.history c.tell_answers.ensures.told

pub returns-in-Ok-clause-grain : goal.returns-in-Ok-clause-grain
returns-in-Ok-clause-grain g c =
    same_grain c.args.store.now c.act_over_store.new.store c.len.result c.args.scripts.items c.in-Ok.answers.items c.args.history.now c.len.ensures c.in-Ok.ensures.acted
    c.requires.stands.0 c.requires.stands.1

pub returns-in-Ok-clause-disks : goal.returns-in-Ok-clause-disks
returns-in-Ok-clause-disks g c =
    same_disks c.args.store.now c.act_over_store.new.store c.len.result c.args.scripts.items c.in-Ok.answers.items c.args.history.now c.len.ensures c.in-Ok.ensures.acted
    c.requires.stands.0 c.requires.stands.1

pub returns-in-Ok-clause-quiet : goal.returns-in-Ok-clause-quiet
returns-in-Ok-clause-quiet g c = λ quiet.
    quiet_result c.args.store.now c.act_over_store.new.store c.len.result c.args.scripts.items c.in-Ok.answers.items c.args.history.now c.len.ensures c.in-Ok.ensures.acted
    c.requires.stands.0 c.requires.stands.1 c.requires.asked.0 c.requires.asked.1 c.requires.asked.2 c.tell_answers.result c.tell_answers.new.history c.tell_answers.ensures.told quiet

pub returns-in-Ok-clause-names : goal.returns-in-Ok-clause-names
returns-in-Ok-clause-names g c =
    same_names (makings_of c.in-Ok.answers.items) c.args.history.now c.tell_answers.new.history
    (told_first c.tell_answers.result c.in-Ok.answers.items c.args.history.now c.tell_answers.new.history c.tell_answers.ensures.told)

pub returns-in-Ok-clause-limit : goal.returns-in-Ok-clause-limit
returns-in-Ok-clause-limit g c =
    limit_kept c.args.store.now c.act_over_store.new.store c.len.result c.args.scripts.items c.in-Ok.answers.items c.args.history.now c.len.ensures c.in-Ok.ensures.acted
    c.requires.stands.0 c.requires.stands.1 c.requires.asked.0 c.requires.asked.1 c.requires.asked.2 c.tell_answers.new.history
    (told_first c.tell_answers.result c.in-Ok.answers.items c.args.history.now c.tell_answers.new.history c.tell_answers.ensures.told)

pub returns-in-Err-clause-ran : goal.returns-in-Err-clause-ran
returns-in-Err-clause-ran g c = λ w asked told same differ.
    ran_none (StandsFor c.act_over_store.new.store) c.args.store.now.control.grain w asked c.args.history.now told.1 differ
