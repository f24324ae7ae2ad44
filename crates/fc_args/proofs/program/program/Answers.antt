use Rattle.std.proofs.Common.{[], codes}
use Rattle.clap.specs.Words.{App, new_app, with_subcommand}
use Rattle.fc_args.specs.Program.{numbered_app, run_app, top_shape}
use Rattle.fc_args.proofs.program.program.Goals as goal

abbrev alone : App
alone = record { top = top_shape; subs = [] }

abbrev with_run : App
with_run = with_subcommand alone run_app.top

abbrev with_drill : App
with_drill = with_subcommand with_run (numbered_app (codes "drill")).top

abbrev with_check : App
with_check = with_subcommand with_drill (new_app (codes "check")).top

pub returns : goal.returns
returns c =
    let one = c.with_command-program.ensures alone run_app c.program_alone.ensures.app c.run_command.ensures in
    let two = c.with_command-program-2.ensures with_run (numbered_app (codes "drill")) one c.drill_command.ensures in
    let three = c.with_command-program-3.ensures with_drill (new_app (codes "check")) two (c.check_command.ensures.app, c.check_command.ensures.local) in
    c.with_command.ensures with_check (numbered_app (codes "stop")) three c.stop_command.ensures
