-- The viewer's command as `clap` sees it: an argument for each option, and none of its own.
use Rattle.std.specs.Prelude.{true, [], codes}
use Rattle.clap.specs.Words.{App, with_rule}
use Rattle.clap.specs.Simple.{new_shape}
use Rattle.fc_args.specs.Program.{flag_rule, valued_rule}

-- no name of the program among the words, and no help and version
abbrev pub bare : App
bare = record {
  top = record (new_shape (codes "fcview")) { no_binary_name = true; disable_help_flag = true; disable_version_flag = true };
  subs = [];
}

-- `--at value` and `--svg`
abbrev pub viewer : App
viewer = with_rule (with_rule bare (valued_rule (codes "at"))) (flag_rule (codes "svg"))
