use Rattle.std.proofs.Common.{◌≡◌, ◌++◌, [], List, ℕ, ◌-◌, ◌<◌, ◌+◌, arith, sym, ap, ◌∙◌, append-nil}
use Rattle.fc_gen.specs.Session.{drawn_commands, first_commands, lines_of, session_text}
use Rattle.fc_gen.proofs.DrawLemmas.{session-begins, session-more, drawn_commands-none}
use Rattle.fc_gen.proofs.session.Goals as goal

pub loop-init : goal.loop-init
loop-init c =
    session-begins c.put_first.new.self.bytes.items c.args.number (c.in_ok-put_first.ensures ∙ ap (λ bytes. bytes ++ lines_of first_commands) c.new.ensures.items)

pub loop-preserved : goal.loop-preserved
loop-preserved c =
    session-more c.loop.text.bytes.items c.put_drawn.new.self.bytes.items (session_text c.args.number) (5000 - c.loop.counter) (5000 - (c.loop.counter + 1)) c.loop.draws.state c.put_drawn.new.draws.state c.loop.invariant (omega arith) (omega arith) c.in_ok-put_drawn.ensures

pub returns : goal.returns
returns c =
    let none = drawn_commands-none (5000 - c.loop.counter) c.loop.draws.state (omega arith) in
    sym (append-nil c.loop.text.bytes.items) ∙ (ap (λ bytes. c.loop.text.bytes.items ++ bytes) (sym none) ∙ c.loop.invariant)
