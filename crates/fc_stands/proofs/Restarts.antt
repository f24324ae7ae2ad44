-- Restart sets: no set is larger than its mapping's volumes.
use Rattle.std.proofs.Common.{◌≡◌, ◌==◌, ℕ, ◌<◌, ◌^◌, Option, Some, None, List, length, find, Contains, refl, arith}
use Rattle.std.proofs.lemmas.List.Elements.{All-contains}
use Rattle.fc_base.specs.Tables.{Tables, volume_with}
use Rattle.fc_base.specs.declared.volume.Mapping.{Mapping}
use Rattle.fc_base.specs.declared.volume.Volume.{Volume}
use Rattle.fc_books.specs.Sound.{HasGrains}
use Rattle.fc_changed.specs.Row.{Row, is_of, row_restart, restart_in}
use Rattle.fc_decided.proofs.Lists.{find_from}
use Rattle.fc_legal.specs.Stands.{AreRows, IsOfMapping}
use Rattle.fc_lane_sheet.specs.LaneSheet.{AreCountable}

-- The row that is found is of a mapping of the table.
pub of_found : (t : Tables) (rows : List Row) (m : ℕ) (row : Row) → AreRows t rows → find (is_of m) rows ≡ Some row → IsOfMapping t row
of_found t rows m row are e = All-contains (IsOfMapping t) rows row are.each (find_from (is_of m) rows row e).0

-- ---- few grains

few_of : (t : Tables) (m : Mapping) (n : ℕ) → AreCountable t.volumes → (o : Option Volume) → volume_with t m.target ≡ o → HasGrains o n → n < 2 ^ 32
few_of t m n few None e size = absurd size
few_of t m n few (Some v) e size =
    let there : Contains t.volumes v = (find_from (λ (x : Volume). m.target.0 == x.id.0) t.volumes v e).0 in
    omega (arith, few v there, size)

few_found : (t : Tables) (rows : List Row) (m : ℕ) → AreRows t rows → AreCountable t.volumes → (o : Option Row) → find (is_of m) rows ≡ o → length (row_restart o) < 2 ^ 32
few_found t rows m are few None e = omega arith
few_found t rows m are few (Some row) e =
    let is : IsOfMapping t row = of_found t rows m row are e in
    few_of t is.mapping (length row.same) few (volume_with t is.mapping.target) refl is.size

pub few_restart : (t : Tables) (rows : List Row) → AreRows t rows → AreCountable t.volumes → (m : ℕ) → length (restart_in m rows) < 2 ^ 32
few_restart t rows are few m = few_found t rows m are few (find (is_of m) rows) refl
