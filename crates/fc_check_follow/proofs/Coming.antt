-- How ways come to a list.
use Rattle.std.proofs.Common.{◌≡◌, ◌⊎◌, List, [], ◌∷◌, ◌++◌, inl, inr, refl, sym, subst}
use Rattle.std.specs.List.{Contains}
use Rattle.std.proofs.lemmas.List.Elements.{Contains-append_left, Contains-push, Contains-push_cases}
use Rattle.fc_base.specs.declared.size.GrainSize.{GrainSize}
use Rattle.fc_legal.specs.Whole.{Whole}
use Rattle.fc_check_record.specs.Judged.{Judged}
use Rattle.fc_check_follow.specs.Following.{Came}

-- A way of which this is told.
abbrev pub way_of : GrainSize → Whole → Judged
way_of grain w = record { grain = grain; whole = w }

-- Nothing is told so, and nothing comes.
pub came_none : (grain : GrainSize) (Told : Whole → Type 0) (old : List Judged) → ((next : Whole) → Told next → ⊥) → Came grain Told old old
came_none grain Told old none = record {
  only = λ next there. inl there;
  kept = λ next there. there;
  all = λ next told. absurd (none next told);
}

-- One comes, which alone is told so.
came_pushed : (grain : GrainSize) (Told : Whole → Type 0) (old : List Judged) (one : Whole) → Told one → ((next : Whole) → Told next → next ≡ one) → Came grain Told old (old ++ way_of grain one ∷ [])
came_pushed grain Told old one told alone = record {
  only = λ next there. by_place next (Contains-push_cases old (way_of grain one) next there);
  kept = λ next there. Contains-append_left old (way_of grain one ∷ []) next there;
  all = λ next is. subst (λ (v : Whole). Contains (old ++ way_of grain one ∷ []) (way_of grain v)) (sym (alone next is)) (Contains-push old (way_of grain one));
}
  where
    by_place : (next : Judged) → Contains old next ⊎ (way_of grain one ≡ next) → Contains old next ⊎ ((next.grain ≡ grain) × Told next.whole)
    by_place next (inl there) = inl there
    by_place next (inr is) = inr (subst (λ (j : Judged). (j.grain ≡ grain) × Told j.whole) is (refl, told))

pub came_one : (grain : GrainSize) (Told : Whole → Type 0) (old new : List Judged) (one : Whole) → new ≡ old ++ way_of grain one ∷ [] → Told one → ((next : Whole) → Told next → next ≡ one) → Came grain Told old new
came_one grain Told old new one is told alone = subst (λ (ways : List Judged). Came grain Told old ways) (sym is) (came_pushed grain Told old one told alone)

-- The same told otherwise.
pub came_as : (grain : GrainSize) (A B : Whole → Type 0) (old new : List Judged) → ((next : Whole) → A next → B next) → ((next : Whole) → B next → A next) → Came grain A old new → Came grain B old new
came_as grain A B old new there back came = record {
  only = λ next in'. by_place next (came.only next in');
  kept = came.kept;
  all = λ next told. came.all next (back next told);
}
  where
    by_place : (next : Judged) → Contains old next ⊎ ((next.grain ≡ grain) × A next.whole) → Contains old next ⊎ ((next.grain ≡ grain) × B next.whole)
    by_place next (inl in') = inl in'
    by_place next (inr told) = inr (told.0, there next.whole told.1)

-- Some come, and then others.
pub came_then : (grain : GrainSize) (A B : Whole → Type 0) (old mid new : List Judged) → Came grain A old mid → Came grain B mid new → Came grain (λ next. B next ⊎ A next) old new
came_then grain A B old mid new first second = record {
  only = λ next in'. by_second next (second.only next in');
  kept = λ next in'. second.kept next (first.kept next in');
  all = all;
}
  where
    by_first : (next : Judged) → Contains old next ⊎ ((next.grain ≡ grain) × A next.whole) → Contains old next ⊎ ((next.grain ≡ grain) × (B next.whole ⊎ A next.whole))
    by_first next (inl in') = inl in'
    by_first next (inr told) = inr (told.0, inr told.1)

    by_second : (next : Judged) → Contains mid next ⊎ ((next.grain ≡ grain) × B next.whole) → Contains old next ⊎ ((next.grain ≡ grain) × (B next.whole ⊎ A next.whole))
    by_second next (inl in') = by_first next (first.only next in')
    by_second next (inr told) = inr (told.0, inl told.1)

    all : (next : Whole) → B next ⊎ A next → Contains new (way_of grain next)
    all next (inl told) = second.all next told
    all next (inr told) = second.kept (way_of grain next) (first.all next told)
