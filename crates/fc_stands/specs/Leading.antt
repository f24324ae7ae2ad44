-- The next entry, before it is kept: what it leads on to.
use Rattle.std.specs.Prelude.{◌≡◌, ◌+◌}
use Rattle.fc_base.specs.declared.size.GrainSize.{GrainSize}
use Rattle.fc_entry.specs.declared.entry.Entry.{Entry}
use Rattle.fc_legal.specs.Steps.{Step}
use Rattle.fc_legal.specs.Whole.{Whole}
use Rattle.fc_stands.specs.Store.{StandsFor, StoreView}

-- With the next number the entry is right after what is told, and the store stands for what it leaves, among the same actors.
abbrev pub LeadsOn : GrainSize → Whole → Entry → StoreView → Type 0
LeadsOn grain w entry store =
    (next : Whole) × Step grain w (record entry { number = w.entries }) next × (next.entries ≡ w.entries + 1) × (next.actors ≡ w.actors) × StandsFor store next
