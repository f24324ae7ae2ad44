-- Members that leave their group.
use Rattle.std.specs.Prelude.{[], ◌∷◌, None}
use Rattle.fc_base.specs.declared.volume.Change.TheVariants.{SetMapping}
use Rattle.fc_base.specs.declared.volume.Mapping.{Mapping}
use Rattle.fc_books.specs.Books.{Deed}

-- A mapping leaves its group.
abbrev pub leaves_group : Mapping → Deed
leaves_group m = record { effects = []; events = []; changes = SetMapping (record m { group = None }) ∷ [] }
