-- What the actors of a block ask, and what they have still to ask.
use Rattle.std.specs.Prelude.{ℕ, ◌%◌, ◌==◌, Bool, true, false, ◌&&◌, cond, List, [], ◌∷◌, map, fold, Option, Some, None, Ok, Err}
use Rattle.std.specs.List.{flat_map, range_with_len}
use Rattle.fc_base.specs.declared.command.Role.{Role}
use Rattle.fc_base.specs.declared.command.Role.TheVariants.{Host, Admin, Copier, Cleaner}
use Rattle.fc_base.specs.declared.command.ScriptLine.{ScriptLine}
use Rattle.fc_base.specs.declared.command.ScriptLine.TheVariants.{Read, Unread}
use Rattle.fc_base.specs.declared.fault.WordFault.{WordFault}
use Rattle.fc_base.specs.declared.request.Request.{Request}
use Rattle.fc_base.specs.declared.request.Request.TheVariants.{Unread as AskedUnread, CopyTurn, CleanTurn}
use Rattle.fc_base.specs.declared.size.GrainSize.{GrainSize}
use Rattle.fc_blocks.specs.declared.block.ActorRead.{ActorRead}
use Rattle.fc_books.specs.Books.{Books}
use Rattle.fc_entry.specs.HistoryState.{number_of_actor, with_actor}
use Rattle.fc_legal.specs.Asked.{asked}

-- What a line of an actor asks, as it was read: an access one request for each grain, or itself where it is refused; a command
-- itself; and a fault is told.
abbrev pub line_asked : GrainSize → Books → ScriptLine → List Request
line_asked grain b (Read line) = asked grain b (Ok line)
line_asked grain b (Unread fault) = asked grain b (Err fault)

-- So many turns, in the lanes 0, 1, .. in turn.
abbrev pub turns_asked : (ℕ → Request) → ℕ → ℕ → List Request
turns_asked turn lanes turns = map (λ k. turn (k % lanes)) (range_with_len 0 turns)

-- What an actor asks: hosts and administrators by their lines, workers for their turns.
abbrev pub asked_as : Role → GrainSize → ℕ → Books → List ScriptLine → List Request
asked_as Host grain lanes b lines = flat_map (line_asked grain b) lines
asked_as Admin grain lanes b lines = flat_map (line_asked grain b) lines
asked_as (Copier turns) grain lanes b lines = turns_asked (λ lane. CopyTurn lane) lanes turns
asked_as (Cleaner turns) grain lanes b lines = turns_asked (λ lane. CleanTurn lane) lanes turns

-- What is told to `main` of a block, before its actors begin.
abbrev pub faults_asked : List WordFault → List Request
faults_asked faults = map (λ fault. AskedUnread fault) faults

-- An actor by its number, and what it asks in all, in order.
pub record Script : Type 0 where
  pub actor : ℕ
  pub requests : List Request

-- Over the books at the block's start, in a store of so many lanes; an actor's number is the place of its name among those of
-- the history.
abbrev pub script_of : GrainSize → ℕ → Books → List (List ℕ) → ActorRead → Script
script_of grain lanes b names a =
    record { actor = number_of_actor names a.name; requests = asked_as a.role grain lanes b a.lines }

abbrev pub scripts_of : GrainSize → ℕ → Books → List (List ℕ) → List ActorRead → List Script
scripts_of grain lanes b names actors = map (script_of grain lanes b names) actors

-- The names of actors, with those of a block among them.
abbrev pub names_with : List (List ℕ) → List ActorRead → List (List ℕ)
names_with names actors = fold with_actor names (map (λ (a : ActorRead). a.name) actors)

-- ---- what is still to be asked

-- The next of some requests.
abbrev pub next_request : List Request → Option Request
next_request [] = None
next_request (request ∷ rest) = Some request

abbrev pub behind_first : List Request → List Request
behind_first [] = []
behind_first (request ∷ rest) = rest

-- What an actor asks next, by its number.
abbrev pub next_by : List Script → ℕ → Option Request
next_by [] actor = None
next_by (s ∷ scripts) actor = cond (s.actor == actor) (next_request s.requests) (next_by scripts actor)

-- Its script without that request; the scripts of all others stay.
abbrev pub behind_next : List Script → ℕ → List Script
behind_next [] actor = []
behind_next (s ∷ scripts) actor =
    cond (s.actor == actor) (record s { requests = behind_first s.requests } ∷ scripts) (s ∷ behind_next scripts actor)

-- No actor has anything left to ask.
abbrev pub asks_nothing : List Request → Bool
asks_nothing [] = true
asks_nothing (request ∷ rest) = false

abbrev pub are_done : List Script → Bool
are_done [] = true
are_done (s ∷ scripts) = asks_nothing s.requests && are_done scripts
