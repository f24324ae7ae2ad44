-- Sessions with blocks, cut into segments: closed examples, with an actor of each role.
use Rattle.std.proofs.Common.{◌≡◌, ℕ, List, [], ◌∷◌, Some, None, codes, refl}
use Rattle.fc_base.specs.declared.command.Command.TheVariants.{Read as ReadLine, Lsvdisk}
use Rattle.fc_base.specs.declared.command.Line.TheVariants.{Command}
use Rattle.fc_base.specs.declared.command.Role.{Role}
use Rattle.fc_base.specs.declared.command.Role.TheVariants.{Host, Admin, Copier, Cleaner}
use Rattle.fc_base.specs.declared.command.ScriptLine.{ScriptLine}
use Rattle.fc_base.specs.declared.command.ScriptLine.TheVariants.{Read, Unread}
use Rattle.fc_base.specs.declared.fault.WordFault.TheVariants.{BadName, BadNumber, UnknownOption, NoActor, NotInBlock}
use Rattle.fc_base.specs.declared.name.Ref.TheVariants.{Name}
use Rattle.fc_blocks.specs.Blocks.{block_step}
use Rattle.fc_blocks.specs.Segments.{single, together, cut, line_cut}
use Rattle.fc_blocks.specs.declared.block.ActorRead.{ActorRead}

abbrev actor : List ℕ → Role → List ScriptLine → ActorRead
actor name role lines = record { name = name; role = role; lines = lines }

abbrev read_a : ScriptLine
read_a = Read (Command (ReadLine (Name (codes "A")) 0 1))

-- a host has its lines, good and faulty; the lines around the block stand alone
host_read : (cut (codes "lsvdisk" ∷ codes "together" ∷ codes "actor h host" ∷ codes "read A 0 1" ∷ codes "lsvdisk" ∷ codes "end" ∷ codes "end" ∷ [])).segments
    ≡ single (codes "lsvdisk") ∷ together record { faults = []; actors = actor (codes "h") Host (read_a ∷ Unread NotInBlock ∷ []) ∷ [] } ∷ single (codes "end") ∷ []
unfolding line_cut block_step
host_read = refl

-- so has an administrator; a line before the first actor is `main`'s
admin_read : (cut (codes "together" ∷ codes "lsvdisk" ∷ codes "actor a admin" ∷ codes "lsvdisk" ∷ codes "end x" ∷ codes "end" ∷ [])).segments
    ≡ together record { faults = NoActor ∷ []; actors = actor (codes "a") Admin (Read (Command (Lsvdisk None)) ∷ Unread (UnknownOption 2) ∷ []) ∷ [] } ∷ []
unfolding line_cut block_step
admin_read = refl

-- under a worker a line is `main`'s
workers_read : (cut (codes "together" ∷ codes "actor c copier 5" ∷ codes "read A 0 1" ∷ codes "actor d cleaner 07" ∷ codes "end" ∷ [])).segments
    ≡ together record { faults = NotInBlock ∷ []; actors = actor (codes "c") (Copier 5) [] ∷ actor (codes "d") (Cleaner 7) [] ∷ [] } ∷ []
unfolding line_cut block_step
workers_read = refl

-- the fault of a name comes before that of a role, and behind a faulty `actor` line there is no actor, up to the next good one
names_read : (cut (codes "together" ∷ codes "actor h host" ∷ codes "svctask actor h guest" ∷ codes "read A 0 1" ∷ codes "actor i guest" ∷ codes "actor i host" ∷ codes "read A 0 1" ∷ codes "end" ∷ [])).segments
    ≡ together record { faults = BadName 2 ∷ NoActor ∷ BadNumber 3 ∷ []; actors = actor (codes "h") Host [] ∷ actor (codes "i") Host (read_a ∷ []) ∷ [] } ∷ []
unfolding line_cut block_step
names_read = refl

-- a block that hasn't ended is no segment
open_read : cut (codes "read A 0 1" ∷ codes "together" ∷ codes "actor main host" ∷ codes "actor h host" ∷ codes "read A 0 1" ∷ [])
    ≡ record {
      segments = single (codes "read A 0 1") ∷ [];
      open_block = Some (record { faults = BadName 2 ∷ []; before = []; actor = Some (actor (codes "h") Host (read_a ∷ [])) });
    }
unfolding line_cut block_step
open_read = refl
