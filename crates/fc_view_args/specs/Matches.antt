-- What was given, by the matches of a parse.
use Rattle.std.specs.Prelude.{List, codes}
use Rattle.clap.specs.Words.{Row, first_of}
use Rattle.fc_args.specs.Matches.{is_true}
use Rattle.fc_view_args.specs.Grammar.{Given}

-- the options that were found
abbrev pub given_in : List Row → Given
given_in rows = record { at = first_of (codes "at") rows; svg = is_true (first_of (codes "svg") rows) }
