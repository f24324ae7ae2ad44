-- The law of blocks: what holds of every block that is read, whatever the lines are.
use Rattle.std.specs.Prelude.{◌≡◌, ◌≢◌, ◌≤◌, ℕ, false, List, [], length, map, All, AllPairs, Contains, codes}
use Rattle.fc_base.specs.declared.command.Role.{Role}
use Rattle.fc_base.specs.declared.command.ScriptLine.{ScriptLine}
use Rattle.fc_base.specs.declared.limits.TheConstants.{MAX_ACTORS}
use Rattle.fc_blocks.specs.Blocks.{has_lines, scope_under}
use Rattle.fc_blocks.specs.Reading.{script_line}
use Rattle.fc_blocks.specs.Segments.{together, cut}
use Rattle.fc_blocks.specs.declared.block.ActorRead.{ActorRead}
use Rattle.fc_blocks.specs.declared.block.BlockRead.{BlockRead}
use Rattle.fc_words.specs.Lines.{line_of}

-- some line of bytes, as it is read under an actor of this role
abbrev pub IsReadUnder : Role → ScriptLine → Type 0
IsReadUnder role line = (bytes : List ℕ) × (line ≡ script_line (line_of (scope_under role) bytes))

-- an actor's lines are read under its role, and a copier or cleaner has none
pub record IsActor (actor : ActorRead) : Type 0 where
  pub read : All (IsReadUnder actor.role) actor.lines
  pub workers : has_lines actor.role ≡ false → actor.lines ≡ []

abbrev pub names_of : List ActorRead → List (List ℕ)
names_of actors = map (λ (actor : ActorRead). actor.name) actors

-- the actors of a block: no two have one name, none is `main`, and there are no more than a block may have
pub record AreActors (actors : List ActorRead) : Type 0 where
  pub differ : AllPairs (λ name other. name ≢ other) (names_of actors)
  pub not_main : All (λ name. name ≢ codes "main") (names_of actors)
  pub few : length actors ≤ MAX_ACTORS
  pub each : All IsActor actors

-- so it is in every block of any lines
abbrev pub BlocksLaw : Type 0
BlocksLaw = (lines : List (List ℕ)) (block : BlockRead) → Contains (cut lines).segments (together block) → AreActors block.actors
