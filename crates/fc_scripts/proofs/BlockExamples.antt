-- Blocks, whole, on closed examples: two hosts in either order, an order that isn't theirs, and an actor of each role.
use Rattle.std.proofs.Common.{◌≡◌, ℕ, ◌+◌, ◌<◌, Ok, Option, None, List, [], ◌∷◌, slice_index_or, codes, refl, sym, subst, arith}
use Rattle.fc_agenda.specs.Goes.{Goes, stays, passes, begins, answers}
use Rattle.fc_base.specs.Sheet.{mapping_place}
use Rattle.fc_base.specs.declared.command.Command.{Command}
use Rattle.fc_base.specs.declared.command.Command.TheVariants.{Read as ReadLine, Lsvdisk}
use Rattle.fc_base.specs.declared.command.Line.TheVariants.{Blank, Command as CommandLine}
use Rattle.fc_base.specs.declared.command.Role.TheVariants.{Host, Admin, Copier, Cleaner}
use Rattle.fc_base.specs.declared.command.ScriptLine.TheVariants.{Read as ReadAs, Unread as Faulty}
use Rattle.fc_base.specs.declared.fault.Kind.TheVariants.{Vdisk}
use Rattle.fc_base.specs.declared.fault.Refusal.TheVariants.{NoSuch, Words}
use Rattle.fc_base.specs.declared.fault.WordFault.{WordFault}
use Rattle.fc_base.specs.declared.fault.WordFault.TheVariants.{MissingWord, NotInBlock, NoActor}
use Rattle.fc_base.specs.declared.ids.GrainNo.{GrainNo}
use Rattle.fc_base.specs.declared.ids.MapId.{MapId}
use Rattle.fc_base.specs.declared.name.Ref.TheVariants.{Name}
use Rattle.fc_base.specs.declared.request.Place.TheVariants.{Every, Lane}
use Rattle.fc_base.specs.declared.request.Reply.TheVariants.{Idle, NoMemory, Refused}
use Rattle.fc_base.specs.declared.request.Request.{Request}
use Rattle.fc_base.specs.declared.request.Request.TheVariants.{Command as Asked, Unread, CopyTurn, CleanTurn}
use Rattle.fc_base.specs.declared.size.GrainSize.TheVariants.{K64}
use Rattle.fc_blocks.specs.Segments.{together}
use Rattle.fc_blocks.specs.declared.block.ActorRead.{ActorRead}
use Rattle.fc_blocks.specs.declared.block.BlockRead.{BlockRead}
use Rattle.fc_entry.specs.declared.entry.Entry.{Entry}
use Rattle.fc_legal.specs.Agenda.{Agenda, Actors, Reading, Session, session_rules}
use Rattle.fc_legal.specs.Run.{IsRun}
use Rattle.fc_legal.specs.Scripts.{Script, scripts_of}
use Rattle.fc_legal.specs.Steps.{Step, TurnStep, after_access}
use Rattle.fc_legal.specs.Steps.CommandLeft.{unsettled}
use Rattle.fc_legal.specs.Whole.{Whole, part_at}
use Rattle.fc_rules.specs.LaneRight.{TurnAnswers}
use Rattle.fc_scripts.proofs.ScriptExamples.{actor, entry, two}

-- ---- parts

-- two volumes and nothing else, after so many entries, where these actors have names
abbrev told : List (List ℕ) → ℕ → Whole
told names k =
    record {
      actors = names;
      books = two;
      picture = [];
      rows = [];
      faults = 0 ∷ 0 ∷ 0 ∷ 0 ∷ [];
      calls = 0 ∷ 0 ∷ 0 ∷ 0 ∷ [];
      entries = k;
    }

abbrev main_alone : List (List ℕ)
main_alone = codes "main" ∷ []

abbrev blank : Reading
blank b line = Ok Blank

-- a line that wasn't read, of an actor
abbrev unread : ℕ → ℕ → WordFault → Entry
unread number by fault = record (entry number by (Unread fault)) { reply = Refused (Words fault) }

unread_right : (names : List (List ℕ)) (k by : ℕ) (fault : WordFault) → Step K64 (told names k) (unread k by fault) (told names (k + 1))
unread_right names k by fault =
    record {
      number = refl;
      right = record {
        place = refl;
        apart = record { no_moves = refl; untorn = refl; no_calls = refl; no_faults_before = refl; no_faults_after = refl };
        reply = refl;
        no_effects = refl;
        next_is = refl;
      };
    }

-- a read of a volume that isn't there
abbrev no_read : Command
no_read = ReadLine (Name (codes "X")) 0 1

abbrev missed : ℕ → ℕ → Entry
missed number by = record (entry number by (Asked no_read)) { reply = Refused (NoSuch Vdisk) }

missed_right : (names : List (List ℕ)) (k by : ℕ) → Step K64 (told names k) (missed k by) (told names (k + 1))
missed_right names k by =
    record {
      number = refl;
      right = record {
        place = refl;
        apart = record { no_moves = refl; untorn = refl; no_calls = refl; no_faults_before = refl; no_faults_after = refl };
        reply = refl;
        no_effects = refl;
        next_is = refl;
      };
    }

-- ---- two hosts

abbrev h : ActorRead
h = actor (codes "h") Host (ReadAs (CommandLine no_read) ∷ Faulty (MissingWord 4) ∷ [])

abbrev g : ActorRead
g = actor (codes "g") Host (Faulty NotInBlock ∷ [])

-- with a faulty line before them, which is `main`'s
abbrev hosts : BlockRead
hosts = record { faults = NoActor ∷ []; actors = h ∷ g ∷ [] }

abbrev with_hosts : List (List ℕ)
with_hosts = codes "main" ∷ codes "h" ∷ codes "g" ∷ []

h_before_g : IsRun K64 blank (told main_alone 7) (together hosts ∷ []) (unread 7 0 NoActor ∷ missed 8 1 ∷ unread 9 1 (MissingWord 4) ∷ unread 10 2 NotInBlock ∷ []) (told with_hosts 11)
h_before_g =
    record {
      end = Session [];
      goes = passes refl (answers refl (unread_right main_alone 7 0 NoActor)
          (begins (refl, refl)
          (answers refl (missed_right with_hosts 8 1)
          (answers refl (unread_right with_hosts 9 1 (MissingWord 4))
          (answers refl (unread_right with_hosts 10 2 NotInBlock)
          (passes refl stays))))));
      over = refl;
    }

g_in_between : IsRun K64 blank (told main_alone 7) (together hosts ∷ []) (unread 7 0 NoActor ∷ missed 8 1 ∷ unread 9 2 NotInBlock ∷ unread 10 1 (MissingWord 4) ∷ []) (told with_hosts 11)
g_in_between =
    record {
      end = Session [];
      goes = passes refl (answers refl (unread_right main_alone 7 0 NoActor)
          (begins (refl, refl)
          (answers refl (missed_right with_hosts 8 1)
          (answers refl (unread_right with_hosts 9 2 NotInBlock)
          (answers refl (unread_right with_hosts 10 1 (MissingWord 4))
          (passes refl stays))))));
      over = refl;
    }

-- the lines of one host in another order than its own are no way through the block, nor into it
abbrev their_scripts : List Script
their_scripts = scripts_of K64 4 two with_hosts hosts.actors

not_its_order : (end : Agenda) (w last : Whole) → Goes (session_rules K64 blank) (Actors their_scripts []) w (unread 8 1 (MissingWord 4) ∷ missed 9 1 ∷ unread 10 2 NotInBlock ∷ []) end last → ⊥
not_its_order end w last (passes on way) = absurd (cc on)
not_its_order end w last (begins on way) = absurd on
not_its_order end w last (answers asked right way) = absurd (cc asked)

-- nor is it one before `main` was told of its fault
not_before_main : (end : Agenda) (last : Whole) → Goes (session_rules K64 blank) (Actors their_scripts []) (told with_hosts 7) (unread 7 0 NoActor ∷ []) end last → ⊥
not_before_main end last (passes on way) = absurd (cc on)
not_before_main end last (begins on way) = absurd on
not_before_main end last (answers asked right way) = absurd (cc asked)

-- ---- an actor of each role

abbrev each_role : BlockRead
each_role =
    record {
      faults = [];
      actors =
          actor (codes "h") Host (ReadAs (CommandLine no_read) ∷ [])
          ∷ actor (codes "a") Admin (ReadAs (CommandLine (Lsvdisk None)) ∷ [])
          ∷ actor (codes "c") (Copier 2) []
          ∷ actor (codes "d") (Cleaner 1) []
          ∷ [];
    }

abbrev with_each : List (List ℕ)
with_each = codes "main" ∷ codes "h" ∷ codes "a" ∷ codes "c" ∷ codes "d" ∷ []

-- a turn in a lane that has nothing to do
abbrev idle : ℕ → ℕ → ℕ → Request → Entry
idle number by lane turn = record (entry number by turn) { place = Lane lane; reply = Idle }

idle_turn :
    (names : List (List ℕ)) (k by lane : ℕ) (turn : Request) (Answers : MapId → GrainNo → Entry → Type 0) (work : Option (MapId × GrainNo)) →
    lane < 4 →
    work ≡ None →
    slice_index_or (told names k).faults lane 0 ≡ 0 →
    after_access K64 (told names k) lane (idle k by lane turn) ≡ told names (k + 1) →
    TurnStep K64 (told names k) lane Answers work (idle k by lane turn) (told names (k + 1))
idle_turn names k by lane turn Answers work within none faults next =
    let P : Option (MapId × GrainNo) → Type 0 = λ o. TurnAnswers Answers o (idle k by lane turn) in
    record {
      within = within;
      step = record {
        place = refl;
        faults_before = sym faults;
        faults_kept = omega arith;
        no_effects = refl;
        answers = subst P (sym none) (refl, record { moves = refl; calls = refl; untorn = refl });
        next_is = sym next;
      };
    }

idle_copier : (names : List (List ℕ)) (k by : ℕ) → Step K64 (told names k) (idle k by 0 (CopyTurn 0)) (told names (k + 1))
unfolding mapping_place part_at
idle_copier names k by = record { number = refl; right = idle_turn names k by 0 (CopyTurn 0) _ _ (omega arith) refl refl refl }

idle_copier_on : (names : List (List ℕ)) (k by : ℕ) → Step K64 (told names k) (idle k by 1 (CopyTurn 1)) (told names (k + 1))
unfolding mapping_place part_at
idle_copier_on names k by = record { number = refl; right = idle_turn names k by 1 (CopyTurn 1) _ _ (omega arith) refl refl refl }

idle_cleaner : (names : List (List ℕ)) (k by : ℕ) → Step K64 (told names k) (idle k by 0 (CleanTurn 0)) (told names (k + 1))
unfolding mapping_place part_at
idle_cleaner names k by = record { number = refl; right = idle_turn names k by 0 (CleanTurn 0) _ _ (omega arith) refl refl refl }

-- a command for which there is no memory
abbrev starved : ℕ → ℕ → Entry
starved number by = record (entry number by (Asked (Lsvdisk None))) { place = Every; reply = NoMemory }

starved_right : (names : List (List ℕ)) (k by : ℕ) → Step K64 (told names k) (starved k by) (told names (k + 1))
starved_right names k by =
    record {
      number = refl;
      right = record {
        place = refl;
        apart = record { no_moves = refl; untorn = refl; no_calls = refl; no_faults_before = refl; no_faults_after = refl };
        left = told names k;
        leaves = unsettled;
        next_is = refl;
      };
    }

each_asks : IsRun K64 blank (told main_alone 7) (together each_role ∷ [])
    (idle 7 3 0 (CopyTurn 0) ∷ missed 8 1 ∷ idle 9 4 0 (CleanTurn 0) ∷ starved 10 2 ∷ idle 11 3 1 (CopyTurn 1) ∷ []) (told with_each 12)
each_asks =
    record {
      end = Session [];
      goes = passes refl (begins (refl, refl)
          (answers refl (idle_copier with_each 7 3)
          (answers refl (missed_right with_each 8 1)
          (answers refl (idle_cleaner with_each 9 4)
          (answers refl (starved_right with_each 10 2)
          (answers refl (idle_copier_on with_each 11 3)
          (passes refl stays)))))));
      over = refl;
    }
