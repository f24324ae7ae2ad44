use Rattle.std.proofs.Common.{sym}
use Rattle.fc_check_requests.proofs.ScriptLemmas.{left_found, none_found}
use Rattle.fc_check_requests.proofs.scripts.take_next.Goals as goal

pub returns-in-Some : goal.returns-in-Some
returns-in-Some c =
    left_found c.args.scripts.now c.args.actor c.in-Some.place c.index-scripts-place.result
    (record { actor = c.script.inside.actor; requests = c.script.inside.requests }) c.take_first.new.self (sym c.in-Some.ensures)
    c.script.view_is c.take_first.ensures

pub returns-in-None : goal.returns-in-None
returns-in-None c = sym (none_found c.args.scripts.now c.args.actor (sym c.in-None.ensures)).1
