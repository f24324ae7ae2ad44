-- What tests decide.
use Rattle.std.proofs.Common.{◌≡◌, ◌↔◌, false, IsTrue, refl, sym, subst}
use Rattle.std.proofs.lemmas.Bool.{both_ways}
use Rattle.fc_base.specs.declared.state.Access.{Access}
use Rattle.fc_base.specs.declared.state.Access.TheVariants.{Online, Offline, NotAccessible}
use Rattle.fc_entry.specs.declared.entry.Entry.{Entry}
use Rattle.fc_rules.specs.GrainAnswers.{ByAccess}

-- one statement for another
pub iff_sym : {A B : Type 0} → A ↔ B → B ↔ A
iff_sym f = (f.1, f.0)

pub iff_trans : {A B C : Type 0} → A ↔ B → B ↔ C → A ↔ C
iff_trans f g = (λ a. g.0 (f.0 a), λ c. f.1 (g.1 c))

pub iff_along : {X : Type 0} (P : X → Type 0) (a b : X) → a ≡ b → P a ↔ P b
iff_along P a b e = (subst P e, subst P (sym e))

-- by the access of a volume
pub access_iff : (access : Access) (entry : Entry) (P Q : Type 0) → P ↔ Q → ByAccess access entry P ↔ ByAccess access entry Q
access_iff Online entry P Q f = f
access_iff (Offline map state) entry P Q f = (λ a. a, λ a. a)
access_iff (NotAccessible map) entry P Q f = (λ a. a, λ a. a)

-- what never holds is not answered
pub false_is : {P : Type 0} → (P → ⊥) → IsTrue false ↔ P
false_is none = (λ t. absurd (both_ways false refl t), λ p. absurd (none p))
