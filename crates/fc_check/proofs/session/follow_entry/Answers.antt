use Rattle.std.proofs.Common.{Some, sym, ap, ◌∙◌}
use Rattle.fc_check.proofs.JudgeLemmas.{follows}
use Rattle.fc_check.proofs.session.follow_entry.Goals as goal

pub returns-in-Ok : goal.returns-in-Ok
returns-in-Ok c = λ header session so_far.
    follows header c.args.history.now session c.args.number c.entry-entry.result.now c.as_bytes.result.now c.args.answering.now c.follow.new.self c.is_empty.result
    c.requires.there c.entry-entry.ensures (c.actor_name.ensures ∙ ap Some (sym c.as_bytes.ensures.value)) c.in-Ok.ensures.places c.in-Ok.ensures.grain
    c.in-Ok.ensures.entries c.is_empty.ensures so_far
