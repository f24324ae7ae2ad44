-- What the lines of a block make of it, each as it comes.
use Rattle.std.specs.Prelude.{ℕ, Bool, true, false, ◌||◌, if◌then◌else◌, List, [], ◌∷◌, ◌++◌, length, Option, Some, None, nat_le, option_to_list, unwrap_or, Result, Ok, Err, codes}
use Rattle.std.specs.List.{list_any}
use Rattle.std.specs.Str.{bytes_eq}
use Rattle.fc_base.specs.declared.command.Line.{Line}
use Rattle.fc_base.specs.declared.command.Line.TheVariants.{Blank, Actor, End}
use Rattle.fc_base.specs.declared.command.Role.{Role}
use Rattle.fc_base.specs.declared.command.Role.TheVariants.{Host, Admin, Copier, Cleaner}
use Rattle.fc_base.specs.declared.command.Scope.{Scope}
use Rattle.fc_base.specs.declared.command.Scope.TheVariants.{Host as UnderHost, Admin as UnderAdmin, Worker, NoActor}
use Rattle.fc_base.specs.declared.command.ScriptLine.{ScriptLine}
use Rattle.fc_base.specs.declared.command.ScriptLine.TheVariants.{Read, Unread}
use Rattle.fc_base.specs.declared.fault.WordFault.{WordFault}
use Rattle.fc_base.specs.declared.fault.WordFault.TheVariants.{BadName, Limit}
use Rattle.fc_base.specs.declared.limits.TheConstants.{MAX_ACTORS}
use Rattle.fc_blocks.specs.ActorLines.{actor_words, first_name}
use Rattle.fc_blocks.specs.declared.block.ActorRead.{ActorRead}
use Rattle.fc_blocks.specs.declared.block.BlockRead.{BlockRead}
use Rattle.fc_words.specs.Lines.{line_of}

-- A block that is open: the faults that `main` is told of, the actors before the one at hand, and the actor at hand, if
-- there is one.
pub record Opened : Type 0 where
  pub faults : List WordFault
  pub before : List ActorRead
  pub actor : Option ActorRead

abbrev pub just_opened : Opened
just_opened = record { faults = []; before = []; actor = None }

-- all actors so far
abbrev pub all_actors : Opened → List ActorRead
all_actors b = b.before ++ option_to_list b.actor

-- ---- whose a line is

-- Where the next line stands.
abbrev pub scope_under : Role → Scope
scope_under Host = UnderHost
scope_under Admin = UnderAdmin
scope_under (Copier turns) = Worker
scope_under (Cleaner turns) = Worker

abbrev pub scope_in : Option ActorRead → Scope
scope_in None = NoActor
scope_in (Some actor) = scope_under actor.role

-- Hosts and administrators have lines.
abbrev pub has_lines : Role → Bool
has_lines Host = true
has_lines Admin = true
has_lines (Copier turns) = false
has_lines (Cleaner turns) = false

-- `main` is told of a fault. A line that isn't faulty is never `main`'s: where it could be, no good line gives an entry.
abbrev pub to_main : Opened → ScriptLine → Opened
to_main b (Unread fault) = record b { faults = b.faults ++ fault ∷ [] }
to_main b (Read line) = b

-- A line is that of the host or administrator at hand, and else `main`'s.
abbrev pub belongs : Option ActorRead → Opened → ScriptLine → Opened
belongs None b line = to_main b line
belongs (Some actor) b line =
    if has_lines actor.role then record b { actor = Some (record actor { lines = actor.lines ++ line ∷ [] }) } else to_main b line

-- ---- `actor` lines

-- The name is `main`'s, or was used in the block.
abbrev pub name_is_used : Opened → List ℕ → Bool
name_is_used b name = bytes_eq name (codes "main") || list_any (λ (actor : ActorRead). bytes_eq name actor.name) (all_actors b)

-- The fault of an `actor` line that has this name, before any other of it: the name is used, or there are as many actors
-- as a block may have.
abbrev pub name_fault : Opened → Option (List ℕ) → Option WordFault
name_fault b None = None
name_fault b (Some name) =
    if name_is_used b name then Some (BadName 2) else (if nat_le MAX_ACTORS (length (all_actors b)) then Some (Limit MAX_ACTORS) else None)

-- A faulty one: `main` is told of it, and no actor is at hand.
abbrev pub without_actor : Opened → WordFault → Opened
without_actor b fault = record { faults = b.faults ++ fault ∷ []; before = all_actors b; actor = None }

-- A good one: an actor is at hand that has no lines yet.
abbrev pub with_next_actor : Opened → List ℕ → Role → Opened
with_next_actor b name role =
    record { faults = b.faults; before = all_actors b; actor = Some (record { name = name; role = role; lines = [] }) }

abbrev pub next_actor : Option WordFault → Opened → List ℕ → Role → Opened
next_actor None b name role = with_next_actor b name role
next_actor (Some fault) b name role = without_actor b fault

-- ---- a line

-- What a line leaves: the block open, or closed as it is.
pub data After : Type 0 where
  open_on : Opened → After
  closed : BlockRead → After

abbrev pub whole : Opened → BlockRead
whole b = record { faults = b.faults; actors = all_actors b }

-- A faulty line: of an `actor` line the fault of its name comes first.
abbrev pub faulty_line : Option (List (List ℕ)) → Opened → WordFault → Opened
faulty_line None b fault = belongs b.actor b (Unread fault)
faulty_line (Some words) b fault = without_actor b (unwrap_or (name_fault b (first_name words)) fault)

abbrev pub after_line : Result Line WordFault → Opened → List ℕ → After
after_line (Ok End) b line = closed (whole b)
after_line (Ok Blank) b line = open_on b
after_line (Ok (Actor name role)) b line = open_on (next_actor (name_fault b (Some name)) b name role)
after_line (Ok other) b line = open_on (belongs b.actor b (Read other))
after_line (Err fault) b line = open_on (faulty_line (actor_words line) b fault)

-- A line of a block, read where it stands.
unfoldable pub block_step : Opened → List ℕ → After
block_step b line = after_line (line_of (scope_in b.actor) line) b line
