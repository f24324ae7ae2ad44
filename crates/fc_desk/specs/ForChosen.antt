-- What is done to some of the mappings.
use Rattle.std.specs.Prelude.{Bool, cond}
use Rattle.fc_base.specs.declared.volume.Mapping.{Mapping}
use Rattle.fc_books.specs.Books.{Deed, nothing}

-- The deed for a mapping that is chosen.
abbrev pub for_chosen : (Mapping → Bool) → (Mapping → Deed) → Mapping → Deed
for_chosen chosen deed m = cond (chosen m) (deed m) nothing
