-- What actors ask and answer, on closed examples: one of each role.
use Rattle.std.proofs.Common.{◌≡◌, ℕ, ◌==◌, true, cond, List, [], ◌∷◌, ◌++◌, None, codes, refl, lit<}
use Rattle.std.specs.List.{list_any}
use Rattle.std.proofs.lemmas.List.Elements.{All-cons, All-nil}
use Rattle.fc_base.specs.Sheet.{no_slots}
use Rattle.fc_base.specs.declared.command.Command.TheVariants.{Read as ReadLine, Write as WriteLine, Lsvdisk}
use Rattle.fc_base.specs.declared.command.Line.TheVariants.{Command as CommandLine}
use Rattle.fc_base.specs.declared.command.Role.{Role}
use Rattle.fc_base.specs.declared.command.Role.TheVariants.{Host, Admin, Copier, Cleaner}
use Rattle.fc_base.specs.declared.command.ScriptLine.{ScriptLine}
use Rattle.fc_base.specs.declared.command.ScriptLine.TheVariants.{Read as ReadAs, Unread as Faulty}
use Rattle.fc_base.specs.declared.fault.WordFault.TheVariants.{MissingWord, NotInBlock, NoActor}
use Rattle.fc_base.specs.declared.name.Ref.TheVariants.{Id, Name}
use Rattle.fc_base.specs.declared.request.Place.TheVariants.{Control}
use Rattle.fc_base.specs.declared.request.Reply.TheVariants.{Done}
use Rattle.fc_base.specs.declared.request.Request.{Request}
use Rattle.fc_base.specs.declared.request.Request.TheVariants.{Command as Asked, Unread, Read, CopyTurn, CleanTurn}
use Rattle.fc_base.specs.declared.size.GrainSize.TheVariants.{K64}
use Rattle.fc_blocks.specs.declared.block.ActorRead.{ActorRead}
use Rattle.fc_books.proofs.Examples.{vol, volume, books}
use Rattle.fc_books.specs.Books.{Books}
use Rattle.fc_entry.specs.declared.entry.Entry.{Entry}
use Rattle.fc_scripts.specs.Actors.{asks_of, AreAll, AreFirst, WantMore}
use Rattle.fc_legal.specs.Scripts.{Script, script_of, faults_asked}

-- two volumes of 16 grains, each of 128 blocks
abbrev pub two : Books
two = books (volume 0 (codes "A") 16 ∷ volume 1 (codes "B") 16 ∷ []) [] no_slots []

abbrev names : List (List ℕ)
names = codes "main" ∷ codes "h" ∷ codes "a" ∷ codes "c" ∷ codes "d" ∷ []

abbrev pub actor : List ℕ → Role → List ScriptLine → ActorRead
actor name role lines = record { name = name; role = role; lines = lines }

abbrev read_at : ℕ → ℕ → Request
read_at block count = Read record { volume = vol 0; block = block; count = count }

-- A host reads blocks of three grains, writes past the end of a volume, and has a faulty line.
abbrev h : ActorRead
h =
    actor (codes "h") Host
    (ReadAs (CommandLine (ReadLine (Name (codes "A")) 100 200)) ∷ ReadAs (CommandLine (WriteLine (Id 1) 2047 2 90)) ∷ Faulty (MissingWord 4) ∷ [])

host_asks : script_of K64 4 two names h
    ≡ record { actor = 1; requests = read_at 100 28 ∷ read_at 128 128 ∷ read_at 256 44 ∷ Asked (WriteLine (Id 1) 2047 2 90) ∷ Unread (MissingWord 4) ∷ [] }
host_asks = refl

-- An administrator lists volumes, and has a line of a host.
admin_asks : script_of K64 4 two names (actor (codes "a") Admin (ReadAs (CommandLine (Lsvdisk None)) ∷ Faulty NotInBlock ∷ []))
    ≡ record { actor = 2; requests = Asked (Lsvdisk None) ∷ Unread NotInBlock ∷ [] }
admin_asks = refl

-- Workers go round the lanes.
copier_asks : script_of K64 4 two names (actor (codes "c") (Copier 6) [])
    ≡ record { actor = 3; requests = CopyTurn 0 ∷ CopyTurn 1 ∷ CopyTurn 2 ∷ CopyTurn 3 ∷ CopyTurn 0 ∷ CopyTurn 1 ∷ [] }
copier_asks = refl

cleaner_asks : script_of K64 4 two names (actor (codes "d") (Cleaner 2) [])
    ≡ record { actor = 4; requests = CleanTurn 0 ∷ CleanTurn 1 ∷ [] }
cleaner_asks = refl

-- `main` is told of what is no actor's.
main_asks : faults_asked (NoActor ∷ NotInBlock ∷ []) ≡ Unread NoActor ∷ Unread NotInBlock ∷ []
main_asks = refl

-- ---- entries

abbrev pub entry : ℕ → ℕ → Request → Entry
entry number by request =
    record {
      number = number;
      actor = by;
      place = Control;
      request = request;
      reply = Done;
      moves = [];
      effects = [];
      torn = None;
      faults_before = 0;
      faults_after = 0;
      calls = 0;
    }

-- A host's and a copier's entries among each other: of each those that it asks, in its order.
abbrev mixed : List Entry
mixed = entry 7 1 (read_at 0 1) ∷ entry 8 3 (CopyTurn 0) ∷ entry 9 3 (CopyTurn 1) ∷ entry 10 1 (read_at 9 1) ∷ []

host_asked : asks_of 1 mixed ≡ read_at 0 1 ∷ read_at 9 1 ∷ []
host_asked = refl

copier_asked : asks_of 3 mixed ≡ CopyTurn 0 ∷ CopyTurn 1 ∷ []
copier_asked = refl

nobody_asked : asks_of 2 mixed ≡ []
nobody_asked = refl

-- All that they ask; and without the last entry a first part, that wants the host's last read.
abbrev host_script : Script
host_script = record { actor = 1; requests = read_at 0 1 ∷ read_at 9 1 ∷ [] }

abbrev copier_script : Script
copier_script = record { actor = 3; requests = CopyTurn 0 ∷ CopyTurn 1 ∷ [] }

abbrev both : List Script
both = host_script ∷ copier_script ∷ []

abbrev HasScript : Entry → Type 0
HasScript e = list_any (λ (s : Script). s.actor == e.actor) both ≡ true

abbrev fewer : List Entry
fewer = entry 7 1 (read_at 0 1) ∷ entry 8 3 (CopyTurn 0) ∷ entry 9 3 (CopyTurn 1) ∷ []

both_all : AreAll both mixed
both_all =
    let Asks : Script → Type 0 = λ s. asks_of s.actor mixed ≡ s.requests in
    record {
      each = All-cons Asks host_script (copier_script ∷ []) refl (All-cons Asks copier_script [] refl (All-nil Asks));
      nobody_else =
          All-cons HasScript (entry 7 1 (read_at 0 1)) (entry 8 3 (CopyTurn 0) ∷ entry 9 3 (CopyTurn 1) ∷ entry 10 1 (read_at 9 1) ∷ []) refl
          (All-cons HasScript (entry 8 3 (CopyTurn 0)) (entry 9 3 (CopyTurn 1) ∷ entry 10 1 (read_at 9 1) ∷ []) refl
          (All-cons HasScript (entry 9 3 (CopyTurn 1)) (entry 10 1 (read_at 9 1) ∷ []) refl
          (All-cons HasScript (entry 10 1 (read_at 9 1)) [] refl (All-nil HasScript))));
    }

abbrev left_of : ℕ → List Request
left_of by = cond (by == 1) (read_at 9 1 ∷ []) []

fewer_first : AreFirst both fewer
fewer_first =
    let Asks : Script → Type 0 = λ s. asks_of s.actor fewer ++ left_of s.actor ≡ s.requests in
    record {
      left = left_of;
      each = All-cons Asks host_script (copier_script ∷ []) refl (All-cons Asks copier_script [] refl (All-nil Asks));
      nobody_else =
          All-cons HasScript (entry 7 1 (read_at 0 1)) (entry 8 3 (CopyTurn 0) ∷ entry 9 3 (CopyTurn 1) ∷ []) refl
          (All-cons HasScript (entry 8 3 (CopyTurn 0)) (entry 9 3 (CopyTurn 1) ∷ []) refl
          (All-cons HasScript (entry 9 3 (CopyTurn 1)) [] refl (All-nil HasScript)));
    }

fewer_want : WantMore both fewer
unfolding fewer_first
fewer_want =
    record { first = fewer_first; script = host_script; is_one = (0, lit< tt, refl); wanted = read_at 9 1; behind = []; is_left = refl }
