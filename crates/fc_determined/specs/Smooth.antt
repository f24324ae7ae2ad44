-- When nothing failed in a history, and what it tells but for the faults of disks.
use Rattle.std.specs.Prelude.{◌≡◌, All, List, map, replicate}
use Rattle.fc_base.specs.declared.request.Reply.{Reply}
use Rattle.fc_base.specs.declared.request.Reply.TheVariants.{DiskFault, NoMemory}
use Rattle.fc_entry.specs.declared.entry.Entry.{Entry}
use Rattle.fc_legal.specs.Whole.{Whole, lanes}

-- An answer where no disk failed and no memory was missing.
abbrev pub IsSmooth : Reply → Type 0
IsSmooth DiskFault = ⊥
IsSmooth NoMemory = ⊥
IsSmooth reply = Unit {0}

abbrev pub AreSmooth : List Entry → Type 0
AreSmooth entries = All (λ (entry : Entry). IsSmooth entry.reply) entries

-- All that an entry tells, but for the faults of its lane's disks: its number, actor, place, request, reply, moves, effects, what
-- it tore, and its calls.
abbrev pub but_for_faults : Entry → Entry
but_for_faults entry = record entry { faults_before = 0; faults_after = 0 }

abbrev pub told_by : List Entry → List Entry
told_by entries = map but_for_faults entries

-- All that a history tells, but for the faults of each lane's disks.
abbrev pub without_faults : Whole → Whole
without_faults w = record w { faults = replicate (lanes w) 0 }

-- Two histories tell the same, but for those.
abbrev pub TellTheSame : Whole → Whole → Type 0
TellTheSame w v = without_faults v ≡ without_faults w
