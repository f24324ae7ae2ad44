-- A record is put by so many calls as were counted.
use Rattle.std.proofs.Common.{sym, ◌∙◌, ap, arith}
use Rattle.std.proofs.lemmas.Result.{on_ok_weaker}
use Rattle.fc_meta.specs.Answers.{more_calls}
use Rattle.fc_noted.proofs.Calls.{at_once, counts_go_on}
use Rattle.fc_noted.proofs.MeteringNoted.{put_calls}
use Rattle.fc_noted.proofs.noted.Noted.put.Goals as goal

pub returns-clause-metered : goal.returns-clause-metered
returns-clause-metered g c = on_ok_weaker c.put_record.result (λ put. put.metered) c.put_record.ensures.put

pub returns-clause-calls : goal.returns-clause-calls
returns-clause-calls g c m is so_far =
    counts_go_on c.calls_to_put-calls.result m.calls c.args.self.now.calls c.saturating_add-self.result (omega arith) so_far c.saturating_add-self.ensures
    ∙ ap (λ n. more_calls n 0) (sym (c.calls_to_put-calls.ensures m is))

pub returns-clause-counted : goal.returns-clause-counted
returns-clause-counted g c =
    put_calls g.M.MetaDisk.seen g.M.MetaDisk.fault_count g.M.MetaDisk.calls g.M.MetaDisk.may_leave c.args.self.now _ c.args.note c.requires.rests c.calls_to_put-calls.result c.calls_to_put-calls.ensures
    (c.saturating_add-self.ensures ∙ at_once c.calls_to_put-calls.result c.args.self.now.calls (omega arith)) c.put_record.ensures.room
    c.put_record.result c.put_record.ensures.put c.put_record.ensures.quiet c.put_record.ensures.short c.put_record.ensures.failed c.put_record.ensures.unfailed
