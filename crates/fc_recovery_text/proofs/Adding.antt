-- An object behind those before it in its table.
use Rattle.std.proofs.Common.{◌≡◌, ℕ, ◌<◌, false, List, All, length, get_or, take, find, bytes_eq, is_some}
use Rattle.fc_base.specs.Tables.{IsOrdered}
use Rattle.fc_registry.proofs.Copies.{comes_above, comes_new}

-- a copy of the item at `i` fits the table that has the first `i`
pub comes_next : {X : Type 0} (id_of : X → ℕ) (name_of : X → List ℕ) (xs slice now : List X) (i : ℕ) (item copy : X) → IsOrdered id_of name_of xs → slice ≡ xs → now ≡ take i xs → copy ≡ item →
    i < length slice → item ≡ get_or slice i item →
    (All (λ y. id_of y < id_of copy) now) × (is_some (find (λ y. bytes_eq (name_of copy) (name_of y)) now) ≡ false)
comes_next id_of name_of xs slice now i item copy ordered at so is within read =
    (comes_above id_of name_of xs i ordered slice now item copy at so is within read, comes_new id_of name_of xs i ordered slice now item copy at so is within read)
