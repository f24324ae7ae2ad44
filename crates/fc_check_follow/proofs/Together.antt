-- All ways together.
use Rattle.std.proofs.Common.{◌≡◌, ◌⊎◌, ◌↔◌, eqb, Bool, IsTrue, ℕ, ◌+◌, ◌<◌, List, [], ◌∷◌, ◌++◌, inl, inr, length, map, get_or, refl, sym, ap, ◌∙◌, subst, arith}
use Rattle.std.specs.List.{Contains}
use Rattle.std.proofs.lemmas.Bool.Decides.{Decides-eqb}
use Rattle.std.proofs.lemmas.List.{get_or-map, length-map}
use Rattle.std.proofs.lemmas.List.Elements.{Contains-append_left, Contains-get_or, Contains-push, Contains-push_cases}
use Rattle.fc_base.specs.Pools.{Pool}
use Rattle.fc_base.specs.declared.size.GrainSize.{GrainSize}
use Rattle.fc_entry.specs.declared.entry.Entry.{Entry}
use Rattle.fc_legal.specs.Steps.{Step}
use Rattle.fc_legal.specs.Whole.{Whole, opened}
use Rattle.fc_check_record.specs.Judged.{Judged}
use Rattle.fc_check_follow.specs.Following.{AreCandidates, AreFollowing, AreReachedAt, AreUnderWay, Came, FollowsOne, IsOpen, IsReachedAt}
use Rattle.fc_check_follow.specs.Ways.{AreAfter}
use Rattle.fc_check_follow.proofs.Beginning.{first_told}
use Rattle.fc_check_follow.proofs.Coming.{way_of}
use Rattle.fc_check_follow.proofs.Laws.{names, stands}

-- ---- ways and what is told in them

abbrev pub told_in : Judged → Whole
told_in way = way.whole

pub no_way : {X : Type 0} (x : X) → Contains [] x → ⊥
no_way x there = let n : there.0 < 0 = there.1 in omega (arith, n)

long_map : (ways : List Judged) → length (map told_in ways) ≡ length ways
long_map ways = length-map ways told_in

pub told_there : (ways : List Judged) (way : Judged) → Contains ways way → Contains (map told_in ways) way.whole
told_there ways way there =
    let within : there.0 < length ways = there.1 in
    let long : length (map told_in ways) ≡ length ways = long_map ways in
    (there.0, omega arith, get_or-map told_in ways there.0 way way.whole there.1 ∙ ap told_in there.2)

-- A way in which this is told.
pub record IsToldIn (ways : List Judged) (w : Whole) : Type 0 where
  pub way : Judged
  pub there : Contains ways way
  pub told_is : way.whole ≡ w

pub there_told : (grain : GrainSize) (ways : List Judged) (w : Whole) → Contains (map told_in ways) w → IsToldIn ways w
there_told grain ways w there =
    let listed : there.0 < length (map told_in ways) = there.1 in
    let long : length (map told_in ways) ≡ length ways = long_map ways in
    let within : there.0 < length ways = omega arith in
    record {
      way = get_or ways there.0 (way_of grain w);
      there = Contains-get_or ways there.0 (way_of grain w) within;
      told_is = sym (get_or-map told_in ways there.0 (way_of grain w) w within) ∙ there.2;
    }

-- ---- one way after the other

-- Where no way is left all are followed.
pub begun : (ways : List Judged) (entry : Entry) (new : List Judged) → new ≡ [] → AreUnderWay ways entry ways new
begun ways entry new none = subst (λ (after : List Judged). AreUnderWay ways entry ways after) (sym none) record {
  left_of_old = λ way there. there;
  only = λ next there. absurd (no_way next there);
  all = λ way next there step. inl there;
}

pub ended : (old : List Judged) (entry : Entry) (left new : List Judged) → left ≡ [] → AreUnderWay old entry left new → AreFollowing old entry new
ended old entry left new none under =
    let here : AreUnderWay old entry [] new = subst (λ (ways : List Judged). AreUnderWay old entry ways new) none under in
    record { only = here.only; all = λ way next there step. by_place way next (here.all way next there step) }
  where
    by_place : (way : Judged) (next : Whole) → Contains [] way ⊎ Contains new (way_of way.grain next) → Contains new (way_of way.grain next)
    by_place way next (inl there) = absurd (no_way way there)
    by_place way next (inr there) = there

-- The last way goes on.
gone_on : (old : List Judged) (entry : Entry) (left : List Judged) (way : Judged) (new after : List Judged) → AreUnderWay old entry (left ++ way ∷ []) new →
    Came way.grain (Step way.grain way.whole entry) new after → AreUnderWay old entry left after
gone_on old entry left way new after under came = record {
  left_of_old = λ other there. under.left_of_old other (Contains-append_left left (way ∷ []) other there);
  only = λ next there. of_one next (came.only next there);
  all = λ other next there step. by_place other next step (under.all other next there step);
}
  where
    of_one : (next : Judged) → Contains new next ⊎ ((next.grain ≡ way.grain) × Step way.grain way.whole entry next.whole) → FollowsOne old entry next
    of_one next (inl there) = under.only next there
    of_one next (inr told) = record { way = way; there = under.left_of_old way (Contains-push left way); grain_is = told.0; step = told.1 }

    by_last : (other : Judged) (next : Whole) → Step other.grain other.whole entry next → Contains left other ⊎ (way ≡ other) → Contains left other ⊎ Contains after (way_of other.grain next)
    by_last other next step (inl there) = inl there
    by_last other next step (inr is) =
        inr (subst (λ (j : Judged). Contains after (way_of j.grain next)) is (came.all next (subst (λ (j : Judged). Step j.grain j.whole entry next) (sym is) step)))

    by_place : (other : Judged) (next : Whole) → Step other.grain other.whole entry next → Contains (left ++ way ∷ []) other ⊎ Contains new (way_of other.grain next) → Contains left other ⊎ Contains after (way_of other.grain next)
    by_place other next step (inl there) = by_last other next step (Contains-push_cases left way other there)
    by_place other next step (inr there) = inr (came.kept (way_of other.grain next) there)

pub goes_on : (old : List Judged) (entry : Entry) (before left : List Judged) (way : Judged) (new after : List Judged) → before ≡ left ++ way ∷ [] → AreUnderWay old entry before new →
    Came way.grain (Step way.grain way.whole entry) new after → AreUnderWay old entry left after
goes_on old entry before left way new after is under came =
    gone_on old entry left way new after (subst (λ (ways : List Judged). AreUnderWay old entry ways new) is under) came

-- The way that goes on has room, and the entry has its number.
reached_last : (old : List Judged) (entry : Entry) (before left : List Judged) (way : Judged) (new : List Judged) → before ≡ left ++ way ∷ [] → AreUnderWay old entry before new → AreReachedAt entry.number old →
    IsReachedAt entry.number way
reached_last old entry before left way new is under reached =
    reached way (under.left_of_old way (subst (λ (ways : List Judged). Contains ways way) (sym is) (Contains-push left way)))

pub open_last : (old : List Judged) (entry : Entry) (before left : List Judged) (way : Judged) (new : List Judged) → before ≡ left ++ way ∷ [] → AreUnderWay old entry before new → AreReachedAt entry.number old →
    entry.number < 262144 → IsOpen way.whole
open_last old entry before left way new is under reached few =
    let at : IsReachedAt entry.number way = reached_last old entry before left way new is under reached in
    record { few = omega (arith, at.entries_are); reached = at.reached }

pub number_last : (old : List Judged) (entry : Entry) (before left : List Judged) (way : Judged) (new : List Judged) → before ≡ left ++ way ∷ [] → AreUnderWay old entry before new → AreReachedAt entry.number old →
    entry.number ≡ way.whole.entries
number_last old entry before left way new is under reached = sym (reached_last old entry before left way new is under reached).entries_are

-- ---- all candidates

-- No way follows where the entry has another number.
pub none_follow : (old : List Judged) (entry : Entry) (entries : ℕ) (new : List Judged) → new ≡ [] → AreReachedAt entries old → (entry.number ≡ entries → ⊥) → AreFollowing old entry new
none_follow old entry entries new none reached other = subst (AreFollowing old entry) (sym none) record {
  only = λ next there. absurd (no_way next there);
  all = λ way next there step. absurd (other (step.number ∙ (reached way there).entries_are));
}

pub still_candidates : (grain : GrainSize) (entries : ℕ) (old : List Judged) (entry : Entry) (new : List Judged) → entries < 262144 → AreCandidates grain entries old → AreFollowing old entry new →
    AreCandidates grain (entries + 1) new
still_candidates grain entries old entry new few were after = record {
  reached = λ next there. reached_next next (after.only next there);
  grains = λ next there. grain_next next (after.only next there);
}
  where
    reached_next : (next : Judged) → FollowsOne old entry next → IsReachedAt (entries + 1) next
    reached_next next follows =
        let at : IsReachedAt entries follows.way = were.reached follows.way follows.there in
        let counted : next.whole.entries ≡ follows.way.whole.entries + 1 = stands.counted follows.way.grain follows.way.whole entry next.whole follows.step in
        record {
          entries_are = omega (arith, at.entries_are);
          reached = stands.by_entries follows.way.grain follows.way.whole entry next.whole (omega (arith, at.entries_are)) at.reached follows.step;
        }

    grain_next : (next : Judged) → FollowsOne old entry next → next.grain ≡ grain
    grain_next next follows = follows.grain_is ∙ were.grains follows.way follows.there

pub are_after : (grain : GrainSize) (entries : ℕ) (old : List Judged) (entry : Entry) (new : List Judged) → AreCandidates grain entries old → AreFollowing old entry new →
    AreAfter grain (map told_in old) entry (map told_in new)
are_after grain entries old entry new were after = record { only = λ next there. of_one next (there_told grain new next there); all = λ w next there step. by_way w next step (there_told grain old w there) }
  where
    of_way : (next : Whole) (told : IsToldIn new next) → FollowsOne old entry told.way → (w : Whole) × Contains (map told_in old) w × Step grain w entry next
    of_way next told follows = (
      follows.way.whole,
      told_there old follows.way follows.there,
      subst (λ (v : Whole). Step grain follows.way.whole entry v) told.told_is
          (subst (λ (g : GrainSize). Step g follows.way.whole entry told.way.whole) (were.grains follows.way follows.there) follows.step),
    )

    of_one : (next : Whole) → IsToldIn new next → (w : Whole) × Contains (map told_in old) w × Step grain w entry next
    of_one next told = of_way next told (after.only told.way told.there)

    by_way : (w next : Whole) → Step grain w entry next → IsToldIn old w → Contains (map told_in new) next
    by_way w next step told =
        let of_grain : told.way.grain ≡ grain = were.grains told.way told.there in
        let here : Step told.way.grain told.way.whole entry next =
        subst (λ (g : GrainSize). Step g told.way.whole entry next) (sym of_grain) (subst (λ (v : Whole). Step grain v entry next) (sym told.told_is) step) in
        told_there new (way_of told.way.grain next) (after.all told.way next told.there here)

-- ---- before the first entry

pub opened_candidates : (grain : GrainSize) (pools : List Pool) (ways : List Judged) → 0 < length pools → ways ≡ first_told grain pools ∷ [] → AreCandidates grain 0 ways
opened_candidates grain pools ways some is = subst (AreCandidates grain 0) (sym is) record {
  reached = λ way there. subst (IsReachedAt 0) (alone way (Contains-push_cases [] (first_told grain pools) way there)) (record { entries_are = refl; reached = names.reached 0 [] (opened pools) (stands.opened pools some) });
  grains = λ way there. sym (ap (λ (j : Judged). j.grain) (alone way (Contains-push_cases [] (first_told grain pools) way there)));
}
  where
    alone : (way : Judged) → Contains [] way ⊎ (first_told grain pools ≡ way) → first_told grain pools ≡ way
    alone way (inl there) = absurd (no_way way there)
    alone way (inr same) = same

-- None is left: nothing is told.
pub no_candidates : (grain : GrainSize) (entries : ℕ) (ways : List Judged) → ways ≡ [] → AreCandidates grain entries ways
no_candidates grain entries ways none = subst (AreCandidates grain entries) (sym none) record {
  reached = λ way there. absurd (no_way way there);
  grains = λ way there. absurd (no_way way there);
}

pub empty_told : (ways : List Judged) (n : ℕ) (b : Bool) → n ≡ length ways → b ≡ eqb n 0 → IsTrue b ↔ (map told_in ways ≡ [])
empty_told [] n b long is = (λ t. refl, λ e. is ∙ (Decides-eqb n 0).1 long)
empty_told (way ∷ ways) n b long is =
    (λ t. let none : n ≡ 0 = (Decides-eqb n 0).0 (sym is ∙ t) in absurd (omega arith), λ e. absurd (cons_apart way.whole (map told_in ways) e))
  where
    cons_apart : (w : Whole) (ws : List Whole) → w ∷ ws ≡ [] → ⊥
    cons_apart w ws e = cc
