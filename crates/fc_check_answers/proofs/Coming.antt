-- Lists to which just those came that are so; one after the other.
use Rattle.std.proofs.Common.{◌≡◌, ◌⊎◌, ◌<◌, List, [], ◌∷◌, ◌++◌, Contains, inl, inr, sym, subst, arith}
use Rattle.std.proofs.lemmas.List.Elements.{Contains-append_left, Contains-push, Contains-push_cases}
use Rattle.fc_check_answers.specs.Runs.{Came, OneGives}

module _ {X : Type 0} where
  pub none_there : (x : X) → Contains [] x → ⊥
  none_there x there = let n : there.0 < 0 = there.1 in omega (arith, n)

  -- One alone is so.
  pub one_came : (IsSo : X → Type 0) (old : List X) (x : X) → IsSo x → ((y : X) → IsSo y → x ≡ y) → Came IsSo old (old ++ x ∷ [])
  one_came IsSo old x so alone = record {
    only = λ y there. by_case y (Contains-push_cases old x y there);
    kept = λ y there. Contains-append_left old (x ∷ []) y there;
    all = λ y so'. subst (λ (z : X). Contains (old ++ x ∷ []) z) (alone y so') (Contains-push old x);
  }
    where
      by_case : (y : X) → Contains old y ⊎ (x ≡ y) → Contains old y ⊎ IsSo y
      by_case y (inl there) = inl there
      by_case y (inr same) = inr (subst IsSo same so)

  pub none_came : (IsSo : X → Type 0) (old : List X) → ((y : X) → IsSo y → ⊥) → Came IsSo old old
  none_came IsSo old none = record { only = λ y there. inl there; kept = λ y there. there; all = λ y so. absurd (none y so) }

  pub came_as : (IsSo IsSoToo : X → Type 0) (old new : List X) → ((x : X) → IsSo x → IsSoToo x) → ((x : X) → IsSoToo x → IsSo x) → Came IsSo old new → Came IsSoToo old new
  came_as IsSo IsSoToo old new to back came = record {
    only = λ x there. by_case x (came.only x there);
    kept = came.kept;
    all = λ x so. came.all x (back x so);
  }
    where
      by_case : (x : X) → Contains old x ⊎ IsSo x → Contains old x ⊎ IsSoToo x
      by_case x (inl there) = inl there
      by_case x (inr so) = inr (to x so)

module _ {A X : Type 0} (Gives : A → X → Type 0) where
  -- Just what all gave that aren't left came.
  pub record HaveGiven (from left : List A) (old new : List X) : Type 0 where
    pub left_of : (a : A) → Contains left a → Contains from a
    pub only : (x : X) → Contains new x → Contains old x ⊎ OneGives Gives from x
    pub kept : (x : X) → Contains old x → Contains new x
    pub given : (a : A) (x : X) → Contains from a → Gives a x → Contains left a ⊎ Contains new x

  pub none_given : (from : List A) (old : List X) → HaveGiven from from old old
  none_given from old = record { left_of = λ a there. there; only = λ x there. inl there; kept = λ x there. there; given = λ a x there gives. inl there }

  last_given : (from left : List A) (a : A) (old mid new : List X) → HaveGiven from (left ++ a ∷ []) old mid → Came (Gives a) mid new → HaveGiven from left old new
  last_given from left a old mid new have came = record {
    left_of = λ b there. have.left_of b (Contains-append_left left (a ∷ []) b there);
    only = λ x there. of_last x (came.only x there);
    kept = λ x there. came.kept x (have.kept x there);
    given = λ b x there gives. by_place b x gives (have.given b x there gives);
  }
    where
      of_last : (x : X) → Contains mid x ⊎ Gives a x → Contains old x ⊎ OneGives Gives from x
      of_last x (inl there) = have.only x there
      of_last x (inr gives) = inr (a, have.left_of a (Contains-push left a), gives)

      by_last : (b : A) (x : X) → Gives b x → Contains left b ⊎ (a ≡ b) → Contains left b ⊎ Contains new x
      by_last b x gives (inl there) = inl there
      by_last b x gives (inr same) = inr (came.all x (subst (λ (c : A). Gives c x) (sym same) gives))

      by_place : (b : A) (x : X) → Gives b x → Contains (left ++ a ∷ []) b ⊎ Contains mid x → Contains left b ⊎ Contains new x
      by_place b x gives (inl there) = by_last b x gives (Contains-push_cases left a b there)
      by_place b x gives (inr there) = inr (came.kept x there)

  -- The last of those that were left gave.
  pub one_given : (from before left : List A) (a : A) (old mid new : List X) → before ≡ left ++ a ∷ [] → HaveGiven from before old mid → Came (Gives a) mid new →
      HaveGiven from left old new
  one_given from before left a old mid new is have came =
      last_given from left a old mid new (subst (λ (xs : List A). HaveGiven from xs old mid) is have) came

  pub all_given : (from left : List A) (old new : List X) → left ≡ [] → HaveGiven from left old new → Came (OneGives Gives from) old new
  all_given from left old new none have = record { only = have.only; kept = have.kept; all = λ x gives. by_place gives.0 x (have.given gives.0 x gives.1 gives.2) }
    where
      by_place : (a : A) (x : X) → Contains left a ⊎ Contains new x → Contains new x
      by_place a x (inl there) = absurd (none_there a (subst (λ (xs : List A). Contains xs a) none there))
      by_place a x (inr there) = there

  -- And then one more gives.
  pub more_given : (from : List A) (a : A) (old mid new : List X) → Came (OneGives Gives from) old mid → Came (Gives a) mid new → Came (OneGives Gives (from ++ a ∷ [])) old new
  more_given from a old mid new first second = record {
    only = λ x there. by_second x (second.only x there);
    kept = λ x there. second.kept x (first.kept x there);
    all = λ x gives. by_place gives.0 x gives.2 (Contains-push_cases from a gives.0 gives.1);
  }
    where
      by_first : (x : X) → Contains old x ⊎ OneGives Gives from x → Contains old x ⊎ OneGives Gives (from ++ a ∷ []) x
      by_first x (inl there) = inl there
      by_first x (inr gives) = inr (gives.0, Contains-append_left from (a ∷ []) gives.0 gives.1, gives.2)

      by_second : (x : X) → Contains mid x ⊎ Gives a x → Contains old x ⊎ OneGives Gives (from ++ a ∷ []) x
      by_second x (inl there) = by_first x (first.only x there)
      by_second x (inr gives) = inr (a, Contains-push from a, gives)

      by_place : (b : A) (x : X) → Gives b x → Contains from b ⊎ (a ≡ b) → Contains new x
      by_place b x gives (inl there) = second.kept x (first.all x (b, there, gives))
      by_place b x gives (inr same) = second.all x (subst (λ (c : A). Gives c x) (sym same) gives)
