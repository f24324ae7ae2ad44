-- What is kept for a new object.
use Rattle.std.specs.Prelude.{◌≡◌, ℕ, ◌<◌, List, Option, Some, None}
use Rattle.fc_base.specs.declared.volume.Change.{Change}
use Rattle.fc_base.specs.declared.volume.Change.TheVariants.{AddVolume, RemoveVolume, AddMapping, RemoveMapping, SetMapping, AddGroup, RemoveGroup}
use Rattle.fc_registry.specs.declared.Kept.{Kept}

-- The key is the new object's name, and the table of its kind has room.
abbrev pub HasRoom : (volumes mappings groups : ℕ) → List ℕ → Change → Type 0
HasRoom volumes mappings groups key (AddVolume volume) = (0 < volumes) × (key ≡ volume.name)
HasRoom volumes mappings groups key (AddMapping mapping) = (0 < mappings) × (key ≡ mapping.name)
HasRoom volumes mappings groups key (AddGroup group) = (0 < groups) × (key ≡ group.name)
HasRoom volumes mappings groups key change = ⊥

abbrev pub IsKept : (volumes mappings groups : ℕ) → Option Kept → Type 0
IsKept volumes mappings groups None = Unit {0}
IsKept volumes mappings groups (Some kept) = HasRoom volumes mappings groups kept.key.items kept.change
