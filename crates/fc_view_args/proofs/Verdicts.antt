-- What a parse of the viewer's words comes to.
use Rattle.std.proofs.Common.{◌≡◌, true, List, [], ◌∷◌, Option, Some, None}
use Rattle.clap.specs.Faults.{turn_fault}
use Rattle.clap.specs.Simple.{Shape, built}
use Rattle.clap.specs.Walk.{Row, Text, Walk, walked}
use Rattle.fc_args.proofs.Verdicts.{fails, refused_at, step_of, verdict_of}
use Rattle.fc_view_args.specs.Command.{viewer}
use Rattle.fc_view_args.specs.Grammar.{Given}
use Rattle.fc_view_args.specs.Matches.{given_in}

-- the command, once it is built
abbrev pub level : Shape
level = (built viewer).top

abbrev pub read_given : List Row → Option Given
read_given rows = Some (given_in rows)

abbrev pub verdict : Walk → List Text → Option Given
verdict = verdict_of level read_given

pub verdict_step : (w : Walk) (word : Text) (rest : List Text) → turn_fault level [] w word ≡ [] → verdict w (word ∷ rest) ≡ verdict (walked level.rules [] w word) rest
verdict_step = step_of level read_given

pub verdict_fails : (w : Walk) (word : Text) (rest : List Text) → fails (turn_fault level [] w word) ≡ true → verdict w (word ∷ rest) ≡ None
verdict_fails = refused_at level read_given
