-- What is asked for by the matches of a parse.
use Rattle.std.specs.Prelude.{Bool, false, List, Option, Some, None, option_map, option_and_then, if◌then◌else◌, codes}
use Rattle.std.specs.Option.{option_map_or}
use Rattle.std.specs.Str.{bytes_eq}
use Rattle.clap.specs.Words.{Row, Text, first_of}
use Rattle.fc_args.specs.Grammar.{Given, options_of_words, drill_number, stop_call}
use Rattle.fc_args.specs.declared.asked.Asked.{Asked}
use Rattle.fc_args.specs.declared.asked.Asked.TheVariants.{Run, Drill, Check, Stop}

-- whether a flag was found
abbrev pub is_true : Option Text → Bool
is_true word = option_map_or (λ text. bytes_eq text (codes "true")) word false

-- the options that were found
abbrev pub given_in : List Row → Given
given_in rows = record {
  grain = first_of (codes "grain") rows;
  trace = is_true (first_of (codes "trace") rows);
  cache = first_of (codes "cache") rows;
}

-- the number that was found
abbrev pub number_in : List Row → Option Text
number_in = first_of (codes "number")

-- by the name of the subcommand, and what was found for it
abbrev pub command_in : Text → List Row → Option Asked
command_in name rows =
    if bytes_eq name (codes "run") then option_map Run (options_of_words (given_in rows))
    else (if bytes_eq name (codes "drill") then option_map Drill (option_and_then drill_number (number_in rows))
    else (if bytes_eq name (codes "check") then Some Check
    else (if bytes_eq name (codes "stop") then option_map Stop (option_and_then stop_call (number_in rows)) else None)))

abbrev pub found_in : Option (Text × List Row) → Option Asked
found_in None = None
found_in (Some found) = command_in found.0 found.1
