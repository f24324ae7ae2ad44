-- The members of a group, refused or begun together.
use Rattle.std.proofs.Common.{◌≡◌, ◌∙◌, sym, ap, ℕ, zero, suc, ◌+◌, ◌<◌, Bool, true, false, cond, not, ◌&&◌, ◌||◌, ◌==◌, List, [], ◌∷◌, ◌++◌, length, take, slice_index_or, map, Option, Some, None, refl, arith}
use Rattle.std.specs.List.{Contains, cons_option, find, filter, filter_map, list_any, list_all}
use Rattle.std.specs.Option.{option_map}
use Rattle.std.specs.Prelude.{IsOk, MatchOption, Result, Ok, Err}
use Rattle.std.proofs.lemmas.Bool.{eqb-true, eq-eqb}
use Rattle.std.proofs.lemmas.List.Elements.{filter_more}
use Rattle.fc_base.specs.Tables.{Tables, IsOrdered, group_named, mapping_with}
use Rattle.fc_base.specs.declared.command.Command.TheVariants.{Startfcconsistgrp}
use Rattle.fc_base.specs.declared.decision.Decision.{Decision}
use Rattle.fc_base.specs.declared.fault.Kind.TheVariants.{Group as OfGroups}
use Rattle.fc_base.specs.declared.fault.Refusal.{Refusal}
use Rattle.fc_base.specs.declared.fault.Refusal.TheVariants.{NotAllowed, NotPrepared, Empty as EmptyGroup, TargetTwice, SourceIsTarget}
use Rattle.fc_base.specs.declared.ids.GroupId.{GroupId}
use Rattle.fc_base.specs.declared.ids.MapId.{MapId}
use Rattle.fc_base.specs.declared.ids.VolId.{VolId}
use Rattle.fc_base.specs.declared.name.Ref.{Ref}
use Rattle.fc_base.specs.declared.size.GrainSize.{GrainSize}
use Rattle.fc_base.specs.declared.state.MapState.{MapState}
use Rattle.fc_base.specs.declared.state.MapState.TheVariants.{Empty, IdleOrCopied, Preparing, Prepared, Copying, Stopping, Stopped}
use Rattle.fc_base.specs.declared.volume.Group.{Group}
use Rattle.fc_base.specs.declared.volume.Mapping.{Mapping}
use Rattle.fc_base.specs.Sheet.{shape_of}
use Rattle.fc_base.specs.SheetStep.{triggered}
use Rattle.fc_base.specs.SheetView.{LoopAnswer}
use Rattle.fc_books.specs.Accesses.{is_active, is_prepared, is_copying, is_stopping}
use Rattle.fc_books.specs.Books.{Books}
use Rattle.fc_books.specs.Deciding.{LoopAfter, pairs_of, for_members}
use Rattle.fc_books.specs.Groups.{is_member, members, group_state, some_in, is_none_of, least, twice_targets, source_targets, trigger_refusal}
use Rattle.fc_books.specs.Refused.{of_one}
use Rattle.fc_books.specs.RefusedStarts.{empty_group, for_each, not_ready, starts_not, is_rival, target_active}
use Rattle.fc_books.specs.Starting.{start, pair_of}
use Rattle.fc_starts.proofs.Looped.{Answers, answers_looped, second_none, unmapped}
use Rattle.fc_starts.proofs.Preparing.{any_chosen}
use Rattle.fc_desk.proofs.Setting.{alone, first_there, later_there}
use Rattle.fc_starts.specs.Choosing.{chosen_of}
use Rattle.fc_starts.specs.Looping.{looped}
use Rattle.fc_starts.specs.Starts.{IsStartable, AreApart}
use Rattle.fc_desk.specs.Refusing.{or_else}
use Rattle.fc_starts.specs.declared.chosen.Chosen.TheVariants.{Members}
use Rattle.fc_entry.specs.Refused.{first_of, where_}
use Rattle.fc_group.specs.Found.{mappings_of}

-- ---- the first refusal, member by member

first_append : (xs : List (Option Refusal)) (o : Option Refusal) → first_of (xs ++ o ∷ []) ≡ or_else (first_of xs) o
first_append [] None = refl
first_append [] (Some r) = refl
first_append (None ∷ xs) o = first_append xs o
first_append (Some r ∷ xs) o = refl

else_assoc : (a b c : Option Refusal) → or_else (or_else a b) c ≡ or_else a (or_else b c)
else_assoc None b c = refl
else_assoc (Some r) b c = refl

else_none : (a : Option Refusal) → or_else a None ≡ a
else_none None = refl
else_none (Some r) = refl

one_more : (f : Mapping → List (Option Refusal)) (x : Mapping) (b : Bool) → for_each f (cond b (x ∷ []) []) ≡ cond b (first_of (f x)) None
one_more f x false = refl
one_more f x true = first_append (f x) None ∙ else_none (first_of (f x))

each_append : (f : Mapping → List (Option Refusal)) (xs ys : List Mapping) → for_each f (xs ++ ys) ≡ or_else (for_each f xs) (for_each f ys)
each_append f [] ys = refl
each_append f (x ∷ xs) ys =
    first_append (f x) (for_each f (xs ++ ys))
    ∙ ap (or_else (first_of (f x))) (each_append f xs ys)
    ∙ sym (else_assoc (first_of (f x)) (for_each f xs) (for_each f ys))
    ∙ ap (λ o. or_else o (for_each f ys)) (sym (first_append (f x) (for_each f xs)))

pub each_more : (f : Mapping → List (Option Refusal)) (p : Mapping → Bool) (xs : List Mapping) (k : ℕ) (x : Mapping) (found next : Option Refusal) → k < length xs → x ≡ slice_index_or xs k x →
    found ≡ for_each f (filter p (take k xs)) → next ≡ or_else found (cond (p x) (first_of (f x)) None) → next ≡ for_each f (filter p (take (k + 1) xs))
each_more f p xs k x found next lt is found_is next_is =
    next_is
    ∙ ap (λ o. or_else o (cond (p x) (first_of (f x)) None)) found_is
    ∙ ap (or_else (for_each f (filter p (take k xs)))) (sym (one_more f x (p x)))
    ∙ sym (each_append f (filter p (take k xs)) (cond (p x) (x ∷ []) []))
    ∙ ap (λ y. for_each f (filter p (take k xs) ++ cond (p y) (y ∷ []) [])) is
    ∙ ap (for_each f) (sym (filter_more p xs k x lt))

-- ---- the mappings with the ids

with_first : (test : Mapping → Bool) (xs : List Mapping) (k : ℕ) (x : Mapping) → k < length xs → slice_index_or xs k x ≡ x → test x ≡ true → ((z : Mapping) → Contains xs z → test z ≡ true → z ≡ x) → find test xs ≡ Some x
with_first test [] k x lt is e only = grind (arith, lt)
with_first test (y ∷ ys) zero x lt is e only = ap (λ b. cond b (Some y) (find test ys)) (ap test is ∙ e) ∙ ap Some is
with_first test (y ∷ ys) (suc k) x lt is e only = by y (find test ys) x (test y) refl (only y (first_there y ys)) (with_first test ys k x (omega (arith, lt)) is e (λ z there passes. only z (later_there z y ys there) passes))
  where
    by : (z : Mapping) (o : Option Mapping) (w : Mapping) (b : Bool) → test z ≡ b → (test z ≡ true → z ≡ w) → o ≡ Some w → cond b (Some z) o ≡ Some w
    by z o w true is_b same rest = ap Some (same is_b)
    by z o w false is_b same rest = rest

with_itself : (t : Tables) (x : Mapping) → IsOrdered (λ (m : Mapping). m.id.0) (λ (m : Mapping). m.name) t.mappings → Contains t.mappings x → mapping_with t x.id ≡ Some x
with_itself t x ordered there =
    with_first (λ (m : Mapping). x.id.0 == m.id.0) t.mappings there.0 x there.1 there.2 (eq-eqb x.id.0 x.id.0 refl)
    (λ z z_there passes. alone t.mappings x ordered there z z_there (eq-eqb z.id.0 x.id.0 (sym (eqb-true x.id.0 z.id.0 passes))))

ids_by : (t : Tables) (z : Mapping) (ms : List Mapping) (b : Bool) → mapping_with t z.id ≡ Some z → filter_map (mapping_with t) (map (λ (m : Mapping). m.id) ms) ≡ ms → filter_map (mapping_with t) (map (λ (m : Mapping). m.id) (cond b (z ∷ ms) ms)) ≡ cond b (z ∷ ms) ms
ids_by t z ms false one rest = rest
ids_by t z ms true one rest = ap (λ o. cons_option o (filter_map (mapping_with t) (map (λ (m : Mapping). m.id) ms))) one ∙ ap (λ ys. z ∷ ys) rest

ids_found : (t : Tables) (ch : Mapping → Bool) (zs : List Mapping) → ((z : Mapping) → Contains zs z → mapping_with t z.id ≡ Some z) → filter_map (mapping_with t) (map (λ (m : Mapping). m.id) (filter ch zs)) ≡ filter ch zs
ids_found t ch [] each = refl
ids_found t ch (z ∷ zs) each = ids_by t z (filter ch zs) (ch z) (each z (first_there z zs)) (ids_found t ch zs (λ x there. each x (later_there x z zs there)))

pub mappings_found : (t : Tables) (ch : Mapping → Bool) (ids : List MapId) → IsOrdered (λ (m : Mapping). m.id.0) (λ (m : Mapping). m.name) t.mappings → ids ≡ map (λ (m : Mapping). m.id) (filter ch t.mappings) → mappings_of t ids ≡ filter ch t.mappings
mappings_found t ch ids ordered ids_are = ap (mappings_of t) ids_are ∙ ids_found t ch t.mappings (λ z there. with_itself t z ordered there)

-- ---- what is told of a trigger

pub none_told : {T : Type 0} (maps kept : List Mapping) (r : Result T Refusal) (x : T) → maps ≡ kept → MatchOption (trigger_refusal maps) (IsOk r) (λ e. r ≡ Err e) → r ≡ Ok x → None ≡ trigger_refusal kept
none_told maps kept r x same told ok = by (trigger_refusal maps) told ok ∙ ap trigger_refusal same
  where
    by : (o : Option Refusal) → MatchOption o (IsOk r) (λ e. r ≡ Err e) → r ≡ Ok x → None ≡ o
    by None h e = refl
    by (Some y) h e = absurd cc

pub one_told : {T : Type 0} (maps kept : List Mapping) (r : Result T Refusal) (refusal : Refusal) → maps ≡ kept → MatchOption (trigger_refusal maps) (IsOk r) (λ e. r ≡ Err e) → r ≡ Err refusal → Some refusal ≡ trigger_refusal kept
one_told maps kept r refusal same told err = by (trigger_refusal maps) told err ∙ ap trigger_refusal same
  where
    by : (o : Option Refusal) → MatchOption o (IsOk r) (λ e. r ≡ Err e) → r ≡ Err refusal → Some refusal ≡ o
    by None h e = absurd cc
    by (Some y) h e = let same_y : y ≡ refusal = cc in ap Some (sym same_y)

-- ---- what isn't refused

where_false : (t : Bool) (r : Refusal) → where_ t r ≡ None → t ≡ false
where_false false r e = refl
where_false true r e = absurd cc

any_false : (ch p : Mapping → Bool) (xs : List Mapping) (x : Mapping) (t : Bool) → list_any p (filter ch xs) ≡ false → Contains xs x → ch x ≡ true → p x ≡ t → p x ≡ false
any_false ch p xs x false none there passes is = is
any_false ch p xs x true none there passes is = let some = any_chosen ch p xs there.0 x there.1 there.2 passes is in absurd cc

pub group_idle : (b : Books) (g : GroupId) (state : MapState) (t e : Option Refusal) (found : Option Refusal) →
    found ≡ first_of (empty_group (members b.tables g) ∷ where_ (some_in is_active (members b.tables g)) (NotAllowed state) ∷ t ∷ e ∷ []) → found ≡ None →
    (m : Mapping) → Contains b.tables.mappings m → is_member g m ≡ true → is_active m.state ≡ false
group_idle b g state t e found found_is none m there passes =
    let maps = members b.tables g in
    any_false (is_member g) (λ (x : Mapping). is_active x.state) b.tables.mappings m (is_active m.state)
    (where_false (some_in is_active maps) (NotAllowed state) (second_none (empty_group maps) (where_ (some_in is_active maps) (NotAllowed state)) (t ∷ e ∷ []) (sym found_is ∙ none))) there passes refl

-- the parts of a list of five
pub record FiveNone (v w x y z : Option Refusal) : Type 0 where
  pub second : w ≡ None
  pub third : x ≡ None
  pub fourth : y ≡ None
  pub fifth : z ≡ None

five_none : (v w x y z : Option Refusal) → first_of (v ∷ w ∷ x ∷ y ∷ z ∷ []) ≡ None → FiveNone v w x y z
five_none (Some r) w x y z e = absurd cc
five_none None (Some r) x y z e = absurd cc
five_none None None (Some r) y z e = absurd cc
five_none None None None (Some r) z e = absurd cc
five_none None None None None (Some r) e = absurd cc
five_none None None None None None e = record { second = refl; third = refl; fourth = refl; fifth = refl }

begins_quiet : (prep : Bool) (s : MapState) → (is_active s && (prep || not (is_prepared s))) ≡ false → (prep ≡ false → is_prepared s ≡ true) → (is_copying s ≡ false) × (is_stopping s ≡ false)
begins_quiet prep IdleOrCopied e p = (refl, refl)
begins_quiet prep Stopped e p = (refl, refl)
begins_quiet prep Prepared e p = (refl, refl)
begins_quiet prep Empty e p = (refl, refl)
begins_quiet prep Preparing e p = (refl, refl)
begins_quiet true Copying e p = absurd cc
begins_quiet false Copying e p = absurd cc
begins_quiet true Stopping e p = absurd cc
begins_quiet false Stopping e p = absurd cc

all_true : (ch q : Mapping → Bool) (xs : List Mapping) (k : ℕ) (x : Mapping) → list_all q (filter ch xs) ≡ true → k < length xs → slice_index_or xs k x ≡ x → ch x ≡ true → q x ≡ true
all_true ch q [] k x e lt is passes = grind (arith, lt)
all_true ch q (z ∷ zs) zero x e lt is passes = ap q (sym is) ∙ by (ch z) (q z) refl (ap ch is ∙ passes) e
  where
    by : (c t : Bool) → q z ≡ t → c ≡ true → list_all q (cond c (z ∷ filter ch zs) (filter ch zs)) ≡ true → q z ≡ true
    by c true is_t is_c f = is_t
    by true false is_t is_c f = let g : false ≡ true = sym (ap (λ b. b && list_all q (filter ch zs)) is_t) ∙ f in absurd cc
    by false false is_t is_c f = absurd cc
all_true ch q (z ∷ zs) (suc k) x e lt is passes = all_true ch q zs k x (by (ch z) (q z) refl e) (omega (arith, lt)) is passes
  where
    by : (c t : Bool) → q z ≡ t → list_all q (cond c (z ∷ filter ch zs) (filter ch zs)) ≡ true → list_all q (filter ch zs) ≡ true
    by false t is_t f = f
    by true true is_t f = sym (ap (λ b. b && list_all q (filter ch zs)) is_t) ∙ f
    by true false is_t f = let g : false ≡ true = sym (ap (λ b. b && list_all q (filter ch zs)) is_t) ∙ f in absurd cc

each_none : (f : Mapping → List (Option Refusal)) (ch : Mapping → Bool) (xs : List Mapping) (k : ℕ) (x : Mapping) → for_each f (filter ch xs) ≡ None → k < length xs → slice_index_or xs k x ≡ x → ch x ≡ true → first_of (f x) ≡ None
each_none f ch [] k x e lt is passes = grind (arith, lt)
each_none f ch (z ∷ zs) zero x e lt is passes = ap (λ y. first_of (f y)) (sym is) ∙ by (ch z) (ap ch is ∙ passes) e
  where
    left : (a b : Option Refusal) → or_else a b ≡ None → a ≡ None
    left None b e = refl
    left (Some r) b e = absurd cc

    by : (c : Bool) → c ≡ true → for_each f (cond c (z ∷ filter ch zs) (filter ch zs)) ≡ None → first_of (f z) ≡ None
    by true is_c h = left (first_of (f z)) (for_each f (filter ch zs)) (sym (first_append (f z) (for_each f (filter ch zs))) ∙ h)
    by false is_c h = absurd cc
each_none f ch (z ∷ zs) (suc k) x e lt is passes = each_none f ch zs k x (by (ch z) e) (omega (arith, lt)) is passes
  where
    right : (a b : Option Refusal) → or_else a b ≡ None → b ≡ None
    right None b e = e
    right (Some r) b e = absurd cc

    by : (c : Bool) → for_each f (cond c (z ∷ filter ch zs) (filter ch zs)) ≡ None → for_each f (filter ch zs) ≡ None
    by true h = right (first_of (f z)) (for_each f (filter ch zs)) (sym (first_append (f z) (for_each f (filter ch zs))) ∙ h)
    by false h = h

not_both : (prep all : Bool) → (not prep && not all) ≡ false → prep ≡ false → all ≡ true
not_both prep true e p = refl
not_both true false e p = absurd cc
not_both false false e p = absurd cc

abbrev pub start_refusals : Books → Bool → Bool → GroupId → Option Refusal
start_refusals b prep restore g =
    let maps = members b.tables g in
    first_of
    (empty_group maps
    ∷ where_ (list_any (starts_not prep) maps) (NotAllowed (group_state b.tables g))
    ∷ where_ (not prep && not (list_all (λ (m : Mapping). is_prepared m.state) maps)) NotPrepared
    ∷ trigger_refusal maps
    ∷ for_each (not_ready b restore) maps
    ∷ [])

abbrev FivesOf : Books → Bool → Bool → GroupId → Type 0
FivesOf b prep restore g =
    FiveNone (empty_group (members b.tables g)) (where_ (list_any (starts_not prep) (members b.tables g)) (NotAllowed (group_state b.tables g)))
    (where_ (not prep && not (list_all (λ (m : Mapping). is_prepared m.state) (members b.tables g))) NotPrepared) (trigger_refusal (members b.tables g)) (for_each (not_ready b restore) (members b.tables g))

fives_of : (b : Books) (prep restore : Bool) (g : GroupId) → start_refusals b prep restore g ≡ None → FivesOf b prep restore g
fives_of b prep restore g none = five_none _ _ _ _ _ none

pub group_startable : (b : Books) (prep restore : Bool) (g : GroupId) (found : Option Refusal) → found ≡ start_refusals b prep restore g → found ≡ None → (m : Mapping) → Contains b.tables.mappings m → is_member g m ≡ true → IsStartable b.tables.mappings m
group_startable b prep restore g found found_is none m there passes =
    let xs = b.tables.mappings in
    let maps = members b.tables g in
    let fives = fives_of b prep restore g (sym found_is ∙ none) in
    let begins = any_false (is_member g) (starts_not prep) xs m (starts_not prep m) (where_false (list_any (starts_not prep) maps) (NotAllowed (group_state b.tables g)) fives.second) there passes refl in
    let prepared : prep ≡ false → is_prepared m.state ≡ true = λ p. all_true (is_member g) (λ (x : Mapping). is_prepared x.state) xs there.0 m
    (not_both prep (list_all (λ (x : Mapping). is_prepared x.state) maps) (where_false (not prep && not (list_all (λ (x : Mapping). is_prepared x.state) maps)) NotPrepared fives.third) p) there.1 there.2 passes in
    let q = begins_quiet prep m.state begins prepared in
    let ready = each_none (not_ready b restore) (is_member g) xs there.0 m fives.fifth there.1 there.2 passes in
    record { not_copying = q.0; not_stopping = q.1; no_rival = unmapped (find (is_rival m) xs) (second_none _ (target_active b m) _ ready) }

least_none : (ids : List ℕ) → least ids ≡ None → ids ≡ []
least_none [] e = refl
least_none (x ∷ xs) e = absurd cc

told_none : (b : Bool) (x y : Option ℕ) → first_of (where_ b EmptyGroup ∷ option_map (λ v. TargetTwice record { 0 = v }) x ∷ option_map (λ v. SourceIsTarget record { 0 = v }) y ∷ []) ≡ None → (x ≡ None) × (y ≡ None)
told_none false None None e = (refl, refl)
told_none true x y e = absurd cc
told_none false (Some v) y e = absurd cc
told_none false None (Some v) e = absurd cc

not_empty : (b : Bool) (x y : Option ℕ) → first_of (where_ b EmptyGroup ∷ option_map (λ v. TargetTwice record { 0 = v }) x ∷ option_map (λ v. SourceIsTarget record { 0 = v }) y ∷ []) ≡ None → b ≡ false
not_empty false x y e = refl
not_empty true x y e = absurd cc

pub group_apart : (b : Books) (prep restore : Bool) (g : GroupId) (found : Option Refusal) → found ≡ start_refusals b prep restore g → found ≡ None → AreApart (chosen_of b.tables (Members g))
group_apart b prep restore g found found_is none =
    let maps = members b.tables g in
    let told = told_none (is_none_of maps) (least (twice_targets maps)) (least (source_targets maps)) (fives_of b prep restore g (sym found_is ∙ none)).fourth in
    record { targets = least_none (twice_targets maps) told.0; sources = least_none (source_targets maps) told.1 }

loop_after : (b : Books) (maps : List Mapping) (loop : Option (List VolId)) → is_none_of maps ≡ false → LoopAnswer (shape_of (triggered (map pair_of maps) b.sheet).slots) loop → LoopAfter b maps loop
loop_after b [] loop some answer = absurd cc
loop_after b (m ∷ ms) loop some answer = answer

pairs_all : (b : Books) (prep restore : Bool) (r : Ref) (g : Group) → group_named b.tables r ≡ Some g → pairs_of b (Startfcconsistgrp r prep restore) ≡ members b.tables g.id
pairs_all b prep restore r g there = cc

pub startgroup_done : (restarts : ℕ → List Bool) (grain : GrainSize) (b : Books) (prep restore : Bool) (r : Ref) (g : Group) (found : Option Refusal) (decision : Decision) → group_named b.tables r ≡ Some g →
    found ≡ start_refusals b prep restore g.id → found ≡ None →
    (loop : Option (List VolId)) × LoopAnswer (shape_of (triggered (map pair_of (chosen_of b.tables (Members g.id))) b.sheet).slots) loop × (decision ≡ looped restarts b loop (start prep restore b.tables (chosen_of b.tables (Members g.id)))) →
    Answers restarts grain b (Startfcconsistgrp r prep restore) decision
startgroup_done restarts grain b prep restore r g found decision there found_is none made =
    let maps = members b.tables g.id in
    let fives = fives_of b prep restore g.id (sym found_is ∙ none) in
    answers_looped restarts grain b (Startfcconsistgrp r prep restore) maps (start prep restore b.tables maps) made.0 decision
    (ap (λ o. of_one OfGroups o (λ (x : Group). start_refusals b prep restore x.id)) there ∙ sym found_is ∙ none)
    refl (pairs_all b prep restore r g there)
    (ap (λ o. for_members b.tables o (start prep restore b.tables)) there)
    (loop_after b maps made.0 (not_empty (is_none_of maps) (least (twice_targets maps)) (least (source_targets maps)) fives.fourth) made.1)
    made.2
