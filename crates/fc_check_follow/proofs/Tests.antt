-- What a test that failed says.
use Rattle.std.proofs.Common.{◌≡◌, ◌↔◌, Bool, false, IsTrue}
use Rattle.std.proofs.lemmas.Bool.{both_ways}

pub untrue : {P : Type 0} (b : Bool) → b ≡ false → (IsTrue b ↔ P) → P → ⊥
untrue b is test p = both_ways b is (test.1 p)
