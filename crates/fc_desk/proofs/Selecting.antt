-- Items that pass a test.
use Rattle.std.proofs.Common.{◌≡◌, ◌∙◌, ap, Bool, true, false, cond, ◌&&◌, ◌||◌, List, [], ◌∷◌, not, sym, refl}
use Rattle.std.specs.List.{list_any, list_all, filter}
use Rattle.fc_base.specs.declared.volume.Mapping.{Mapping}
use Rattle.fc_books.specs.Books.{Deed, nothing, ◌then◌, all_deeds}
use Rattle.fc_books.specs.Groups.{is_none_of}
use Rattle.fc_desk.specs.ForChosen.{for_chosen}

one_kept : {X : Type 0} (q : X → Bool) (x : X) (xs : List X) (b : Bool) → list_any q (cond b (x ∷ xs) xs) ≡ ((b && q x) || list_any q xs)
one_kept q x xs true = refl
one_kept q x xs false = refl

-- some of the items that pass has a property
pub any_kept : {X : Type 0} (p q : X → Bool) (xs : List X) → list_any q (filter p xs) ≡ list_any (λ x. p x && q x) xs
any_kept p q [] = refl
any_kept p q (x ∷ xs) = one_kept q x (filter p xs) (p x) ∙ ap (λ b. (p x && q x) || b) (any_kept p q xs)

there_by : (x : Mapping) (xs kept : List Mapping) (b : Bool) {rest : Bool} → rest ≡ not (is_none_of kept) → (b || rest) ≡ not (is_none_of (cond b (x ∷ kept) kept))
there_by x xs kept true e = refl
there_by x xs kept false e = e

-- some item passes where any is kept
pub any_there : (p : Mapping → Bool) (xs : List Mapping) → list_any p xs ≡ not (is_none_of (filter p xs))
any_there p [] = refl
any_there p (x ∷ xs) = there_by x xs (filter p xs) (p x) (any_there p xs)

deeds_by : (deed : Mapping → Deed) (x : Mapping) (kept : List Mapping) (b : Bool) → (cond b (deed x) nothing then all_deeds deed kept) ≡ all_deeds deed (cond b (x ∷ kept) kept)
deeds_by deed x kept true = refl
deeds_by deed x kept false = refl

-- what is done to those that pass
pub chosen_deeds : (p : Mapping → Bool) (deed : Mapping → Deed) (xs : List Mapping) → all_deeds (for_chosen p deed) xs ≡ all_deeds deed (filter p xs)
chosen_deeds p deed [] = refl
chosen_deeds p deed (x ∷ xs) = ap (λ d. for_chosen p deed x then d) (chosen_deeds p deed xs) ∙ deeds_by deed x (filter p xs) (p x)

all_one : (q : Mapping → Bool) (x : Mapping) (kept : List Mapping) (rest t : Bool) → not rest ≡ list_all q kept → q x ≡ t → not (not (q x) || rest) ≡ list_all q (x ∷ kept)
all_one q x kept rest true e is = ap (λ b. not (not b || rest)) is ∙ e ∙ sym (ap (λ b. b && list_all q kept) is)
all_one q x kept rest false e is = ap (λ b. not (not b || rest)) is ∙ sym (ap (λ b. b && list_all q kept) is)

all_by : (q : Mapping → Bool) (x : Mapping) (kept : List Mapping) (b rest : Bool) → not rest ≡ list_all q kept → not ((b && not (q x)) || rest) ≡ list_all q (cond b (x ∷ kept) kept)
all_by q x kept false rest e = e
all_by q x kept true rest e = all_one q x kept rest (q x) e refl

-- all of the items that pass have a property
pub all_kept : (p q : Mapping → Bool) (xs : List Mapping) → not (list_any (λ x. p x && not (q x)) xs) ≡ list_all q (filter p xs)
all_kept p q [] = refl
all_kept p q (x ∷ xs) = all_by q x (filter p xs) (p x) (list_any (λ y. p y && not (q y)) xs) (all_kept p q xs)
