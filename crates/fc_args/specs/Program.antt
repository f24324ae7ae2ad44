-- The program as `clap` sees it: a subcommand for each command, and an argument for each option and number.
use Rattle.std.specs.Prelude.{◌==◌, Bool, true, false, not, ◌&&◌, [], ◌∷◌, Some, codes}
use Rattle.clap.specs.Words.{App, Rule, Shape, Text, new_app, new_rule, with_rule, with_subcommand}
use Rattle.clap.specs.Simple.{new_shape}
use Rattle.clap.specs.declared.builder.action.ArgAction.TheVariants.{Set, SetTrue}

-- an option with a value: `--name value`
abbrev pub valued_rule : Text → Rule
valued_rule name = record (new_rule name) { long = Some name; action = Some Set; value_names = 1 }

-- an option without one: `--name`
abbrev pub flag_rule : Text → Rule
flag_rule name = record (new_rule name) { long = Some name; action = Some SetTrue }

-- a number that has to be there
abbrev pub number_rule : Rule
number_rule = record (new_rule (codes "number")) { action = Some Set; value_names = 1; required = true }

abbrev pub run_app : App
run_app = with_rule (with_rule (with_rule (new_app (codes "run")) (valued_rule (codes "grain"))) (flag_rule (codes "trace"))) (valued_rule (codes "cache"))

-- a command with a number
abbrev pub numbered_app : Text → App
numbered_app name = with_rule (new_app name) number_rule

-- a command that has one of its own, no name of the program among the words, and no help and version
abbrev pub top_shape : Shape
top_shape = record (new_shape (codes "flashcopy")) {
  no_binary_name = true;
  disable_help_flag = true;
  disable_help_subcommand = true;
  disable_version_flag = true;
  subcommand_required = true;
}

abbrev pub flashcopy : App
flashcopy =
    with_subcommand (with_subcommand (with_subcommand (with_subcommand (record { top = top_shape; subs = [] })
    run_app.top) (numbered_app (codes "drill")).top) (new_app (codes "check")).top) (numbered_app (codes "stop")).top

-- a word that begins with a hyphen and is neither `--name` nor `--name=value`: `-`, `--` and `-x`
abbrev pub is_stray : Text → Bool
is_stray [] = false
is_stray (first ∷ []) = first == 45
is_stray (first ∷ second ∷ []) = first == 45
is_stray (first ∷ second ∷ third ∷ rest) = first == 45 && not (second == 45)
