use Rattle.std.proofs.Common.{IsTrue, rules}
use Rattle.std.proofs.lemmas.Result.{on_ok_weaker}
use Rattle.fc_control.specs.Dispatch.{is_decided}
use Rattle.fc_check_follow.proofs.Requests.{line_came, preset_came, write_came}
use Rattle.fc_check_follow.proofs.way.follow_line.Goals as goal

pub returns-in_default : goal.returns-in_default
returns-in_default c =
    let decided : IsTrue (is_decided c.args.command.now) = search rules in
    on_ok_weaker c.follow_command.result
    (line_came c.args.way.grain c.args.way.whole c.args.command.now c.args.entry.now c.args.after.now.items c.follow_command.new.after.items decided)
    c.follow_command.ensures

pub returns-in-Write : goal.returns-in-Write
returns-in-Write c =
    on_ok_weaker c.follow_access-in-Write.result
    (write_came c.args.way.grain c.args.way.whole c.args.command.now c.args.entry.now c.args.after.now.items c.follow_access-in-Write.new.after.items c.in-Write.volume c.in-Write.block c.in-Write.count c.in-Write.byte c.in-Write.is)
    c.follow_access-in-Write.ensures

pub returns-in-Mkpreset : goal.returns-in-Mkpreset
returns-in-Mkpreset c =
    on_ok_weaker c.follow_preset.result
    (preset_came c.args.way.grain c.args.way.whole c.args.command.now c.args.entry.now c.args.after.now.items c.follow_preset.new.after.items c.in-Mkpreset.source c.in-Mkpreset.preset c.in-Mkpreset.name c.in-Mkpreset.is)
    c.follow_preset.ensures
