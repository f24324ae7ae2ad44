-- The least target that two mappings have, and the least source that is a target, id by id.
use Rattle.std.proofs.Common.{◌≡◌, ◌∙◌, sym, ap, ℕ, ◌+◌, ◌<◌, ◌≤◌, Bool, List, [], ◌∷◌, length, take, map, Option, nat_lt, refl, cond, get_or, arith}
use Rattle.std.specs.List.{filter, list_any, count_by}
use Rattle.std.proofs.lemmas.Grind.{take_at_read, common_steps}
use Rattle.std.specs.Option.{option_map}
use Rattle.fc_base.specs.Tables.{Tables, mapping_with}
use Rattle.fc_base.specs.declared.ids.MapId.{MapId}
use Rattle.fc_base.specs.declared.volume.Mapping.{Mapping}
use Rattle.fc_books.specs.Groups.{least, has_target, twice_targets, source_targets}
use Rattle.fc_group.proofs.Least.{least_noted}
use Rattle.fc_group.proofs.Members.{any_of_found, count_of_found}
use Rattle.fc_group.specs.Found.{mappings_of, noted, is_twice, is_some_target}

-- one more id
pub least_next :
    (t : Tables) (test : ℕ → Bool) (f : Mapping → ℕ) (ids : List MapId) (i : ℕ) (d : MapId) (before after : Option ℕ) → i < length ids →
    before ≡ least (filter test (map f (mappings_of t (take i ids)))) →
    after ≡ noted test (option_map f (mapping_with t (get_or ids i d))) before →
    after ≡ least (filter test (map f (mappings_of t (take (i + 1) ids))))
least_next t test f ids i d before after lt was now =
    now
    ∙ ap (noted test (option_map f (mapping_with t (get_or ids i d)))) was
    ∙ sym (least_noted test f (mapping_with t) (take i ids) (get_or ids i d))
    ∙ ap (λ prefix. least (filter test (map f (mappings_of t prefix)))) (sym (take_at_read ids i d lt).1)

-- a filter by tests that agree
filter_same : (p q : ℕ → Bool) (xs : List ℕ) → ((v : ℕ) → p v ≡ q v) → filter p xs ≡ filter q xs
filter_same p q [] same = refl
filter_same p q (x ∷ xs) same =
    ap (λ b. cond b (x ∷ filter p xs) (filter p xs)) (same x) ∙ ap (λ ys. cond (q x) (x ∷ ys) ys) (filter_same p q xs same)

pub twice_of_ids : (t : Tables) (ids : List MapId) → twice_targets (mappings_of t ids) ≡ filter (is_twice t ids) (map (λ (m : Mapping). m.target.0) (mappings_of t ids))
twice_of_ids t ids =
    filter_same (λ v. nat_lt 1 (count_by (has_target v) (mappings_of t ids))) (is_twice t ids) (map (λ (m : Mapping). m.target.0) (mappings_of t ids))
    (λ v. ap (nat_lt 1) (count_of_found (mapping_with t) (has_target v) ids))

pub source_of_ids : (t : Tables) (ids : List MapId) → source_targets (mappings_of t ids) ≡ filter (is_some_target t ids) (map (λ (m : Mapping). m.source.0) (mappings_of t ids))
source_of_ids t ids =
    filter_same (λ v. list_any (has_target v) (mappings_of t ids)) (is_some_target t ids) (map (λ (m : Mapping). m.source.0) (mappings_of t ids))
    (λ v. any_of_found (mapping_with t) (has_target v) ids)

-- all ids
pub take_whole : {X : Type 0} (ids : List X) (i : ℕ) → i ≤ length ids → length ids ≤ i → take i ids ≡ ids
take_whole ids i low high = grind (arith, common_steps, low, high)
