-- What two tests together decide.
use Rattle.std.proofs.Common.{◌↔◌, Bool, true, false, ◌&&◌, IsTrue, refl}
use Rattle.std.proofs.lemmas.Bool.{both_ways}

pub both : {A B C : Type 0} (a b : Bool) → (IsTrue a ↔ A) → (IsTrue b ↔ B) → (A → B → C) → (C → A) → (C → B) → IsTrue (a && b) ↔ C
both true b f g join left right = (λ t. join (f.0 refl) (g.0 t), λ c. g.1 (right c))
both false b f g join left right = (λ t. absurd (both_ways false refl t), λ c. f.1 (left c))

pub false_is : {P : Type 0} → (P → ⊥) → IsTrue false ↔ P
false_is none = (λ t. absurd (both_ways false refl t), λ p. absurd (none p))
