-- What is known of a command that isn't refused.
use Rattle.std.proofs.Common.{◌≡◌, ℕ, Bool, true, false, List, [], ◌∷◌, Option, Some, None, refl}
use Rattle.std.specs.Option.{option_map}
use Rattle.fc_base.specs.declared.fault.Kind.{Kind}
use Rattle.fc_base.specs.declared.fault.Refusal.{Refusal}
use Rattle.fc_books.specs.Refused.{of_one}
use Rattle.fc_entry.specs.Refused.{first_of, where_, taken_by}

-- the first of a list, and what comes after it
pub none_first : (o : Option Refusal) (rest : List (Option Refusal)) → first_of (o ∷ rest) ≡ None → (o ≡ None) × (first_of rest ≡ None)
none_first None rest e = (refl, e)
none_first (Some refusal) rest e = absurd cc

pub none_where : (test : Bool) (refusal : Refusal) → where_ test refusal ≡ None → test ≡ false
none_where true refusal e = absurd cc
none_where false refusal e = refl

pub none_mapped : {X : Type 0} (f : X → Refusal) (o : Option X) → option_map f o ≡ None → o ≡ None
none_mapped f None e = refl
none_mapped f (Some x) e = absurd cc

pub none_taken : {X : Type 0} (id_of : X → ℕ) (o : Option X) → taken_by (option_map id_of o) ≡ None → o ≡ None
none_taken id_of None e = refl
none_taken id_of (Some x) e = absurd cc

pub some_one : {X : Type 0} (kind : Kind) (o : Option X) (next : X → Option Refusal) → of_one kind o next ≡ None → (x : X) × (o ≡ Some x) × (next x ≡ None)
some_one kind None next e = absurd cc
some_one kind (Some x) next e = (x, refl, e)

-- none of a list
abbrev pub AreNone : List (Option Refusal) → Type 0
AreNone [] = Unit {0}
AreNone (o ∷ os) = (o ≡ None) × AreNone os

pub none_of : (refusals : List (Option Refusal)) → first_of refusals ≡ None → AreNone refusals
none_of [] e = tt
none_of (o ∷ os) e = let r = none_first o os e in (r.0, none_of os r.1)
