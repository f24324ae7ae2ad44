-- The last entry of a history is the one behind all others.
use Rattle.std.proofs.Common.{◌+◌, ◌-◌, ◌≡◌, length, ◌∙◌, ap, arith}
use Rattle.fc_entry.specs.declared.entry.Entry.{Entry}
use Rattle.fc_preset.specs.Stages.{made_by}
use Rattle.fc_preset.proofs.Replies.{last_is}
use Rattle.fc_preset.proofs.asking.made_last.Goals as goal

pub returns : goal.returns
returns c = λ before last is.
    let count : c.len.result - 1 + 1 ≡ length c.args.history.now.entries = omega (arith, c.requires, c.len.ensures) in
    c.made_by.ensures ∙ ap (λ (e : Entry). made_by e.reply) (last_is c.args.history.now.entries before last c.entry.result.now (c.len.result - 1) is count c.entry.ensures)
