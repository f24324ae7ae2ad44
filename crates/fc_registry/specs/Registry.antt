-- What contracts see of the registry.
use Rattle.std.specs.Prelude.{Option}
use Rattle.fc_base.specs.declared.volume.Change.{Change}
use Rattle.fc_base.specs.Tables.{Tables}

-- The tables, and the new object that room is kept for: the change that was reserved last, where it adds an object.
pub record RegistryState : Type 0 where
  pub tables : Tables
  pub reserved : Option Change
