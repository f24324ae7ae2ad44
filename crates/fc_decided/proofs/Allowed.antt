-- Mappings that aren't refused to be prepared or started can turn.
use Rattle.std.proofs.Common.{◌≡◌, ◌≢◌, ℕ, ◌+◌, ◌≤◌, Bool, true, false, cond, not, ◌&&◌, List, [], ◌∷◌, ◌++◌, length, map, Option, Some, None, refl, sym, ap, subst, ◌∙◌, arith, Contains, inl, inr}
use Rattle.std.specs.Prelude.{◌==◌, nat_lt, find, filter, count_by}
use Rattle.std.specs.List.{list_any, list_all}
use Rattle.std.proofs.lemmas.Bool.{cases_eq, eqb-true, eq-eqb, and_parts, and_from, both_ways, false_from_ne_true}
use Rattle.std.proofs.lemmas.Bool.Decides.{nat_tests}
use Rattle.std.proofs.lemmas.List.Sums.{sum_by-cons, length-filter, count_by-le-length}
use Rattle.fc_base.specs.States.{next_state}
use Rattle.fc_base.specs.declared.fault.Refusal.{Refusal}
use Rattle.fc_base.specs.declared.fault.Refusal.TheVariants.{TargetActive, TargetIsSource, SourceNotReady, NotAllowed, NotPrepared, Empty as EmptyGroup}
use Rattle.fc_base.specs.declared.ids.GroupId.{GroupId}
use Rattle.fc_base.specs.declared.state.MapEvent.TheVariants.{Prepare, Start, StartPrep}
use Rattle.fc_base.specs.declared.state.MapState.{MapState}
use Rattle.fc_base.specs.declared.state.MapState.TheVariants.{IdleOrCopied, Prepared, Stopped}
use Rattle.fc_base.specs.declared.volume.Mapping.{Mapping}
use Rattle.fc_books.specs.Accesses.{access_in, is_active, is_online, is_prepared}
use Rattle.fc_books.specs.Books.{Books}
use Rattle.fc_books.specs.Copies.{is_used}
use Rattle.fc_books.specs.Groups.{members, group_state, is_member, is_none_of, some_in, least, has_target, twice_targets, source_targets, trigger_refusal}
use Rattle.fc_books.specs.Refused.{refused_by}
use Rattle.fc_books.specs.RefusedStarts.{in_group, by_state, is_rival, target_active, not_ready, start_event, empty_group, for_each, starts_not}
use Rattle.fc_books.proofs.Triggering.{told_of, trigger_refusal-told}
use Rattle.fc_entry.specs.Refused.{first_of, where_}
use Rattle.fc_decided.proofs.Lists.{in_cases, none_in, filter_from, filter_in, map_in, find_misses, any_in}
use Rattle.fc_decided.proofs.Ordered.{filter_ordered}
use Rattle.fc_decided.proofs.Setting.{AreOrdered}
use Rattle.fc_decided.proofs.Turning.{CanTurn, IsReady}
use Rattle.fc_decided.proofs.Unrefused.{none_first, none_where, none_mapped, none_of}

-- ---- by state

-- What prepares, or starts: from idle or stopped, or from prepared.
prepares : (state : MapState) → refused_by (next_state state Prepare true false) ≡ None → IsReady state
prepares IdleOrCopied e = inl refl
prepares Stopped e = inr (inl refl)
prepares state e = absurd cc

starts_prepared : (state : MapState) → refused_by (next_state state Start true false) ≡ None → state ≡ Prepared
starts_prepared Prepared e = refl
starts_prepared state e = absurd cc

starts_anew : (state : MapState) → refused_by (next_state state StartPrep true false) ≡ None → IsReady state
starts_anew IdleOrCopied e = inl refl
starts_anew Stopped e = inr (inl refl)
starts_anew state e = absurd cc

resting_ready : (state : MapState) → is_active state ≡ false → IsReady state
resting_ready IdleOrCopied e = inl refl
resting_ready Stopped e = inr (inl refl)
resting_ready state e = absurd cc

prepared_is : (state : MapState) → is_prepared state ≡ true → state ≡ Prepared
prepared_is Prepared e = refl
prepared_is state e = absurd cc

-- ---- by its target

no_rival : (b : Books) (m n : Mapping) → target_active b m ≡ None → Contains b.tables.mappings n → n.target.0 ≡ m.target.0 → n.id.0 ≢ m.id.0 → is_active n.state ≡ false
no_rival b m n e found target other =
    let miss = find_misses (is_rival m) b.tables.mappings n (none_mapped (λ (x : Mapping). TargetActive x.id) (find (is_rival m) b.tables.mappings) e) found in
    false_from_ne_true (is_active n.state) (λ active.
    both_ways (is_rival m n) miss
    (and_from (n.target.0 == m.target.0) (not (n.id.0 == m.id.0) && is_active n.state) (eq-eqb n.target.0 m.target.0 target)
    (and_from (not (n.id.0 == m.id.0)) (is_active n.state) (ap not (false_from_ne_true (n.id.0 == m.id.0) (λ same. other (eqb-true n.id.0 m.id.0 same)))) active)))

rivals_none : (b : Books) (restore : Bool) (m : Mapping) → first_of (not_ready b restore m) ≡ None → target_active b m ≡ None
rivals_none b restore m e =
    (none_of (where_ (not (is_online (access_in b.tables m.source))) (SourceNotReady m.source) ∷ target_active b m ∷ where_ (not restore && is_used b.sheet.slots m.target) (TargetIsSource m.target) ∷ []) e).1.0

-- ---- one mapping

one_ordered : (m : Mapping) → AreOrdered (m ∷ [])
one_ordered m = record { rising = λ i j d lt jl. absurd (omega (arith, lt, jl)); distinct = λ i j d lt jl. absurd (omega (arith, lt, jl)) }

only_one : (m n : Mapping) → Contains (m ∷ []) n → m ≡ n
only_one m n found = elim (in_cases m n [] found) [ inl same ↦ same | inr none ↦ absurd (none_in n none) ]

one_turns : (b : Books) (m : Mapping) (gives : Bool) → Contains b.tables.mappings m → IsReady m.state → (gives ≡ false → m.state ≡ Prepared) → target_active b m ≡ None → CanTurn b.tables (m ∷ []) gives
one_turns b m gives found ready prepared none =
    record {
      ordered = one_ordered m;
      among = λ n there. subst (λ (x : Mapping). Contains b.tables.mappings x) (only_one m n there) found;
      targets = λ x y a c target. ap (λ (z : Mapping). z.id.0) (sym (only_one m x a) ∙ only_one m y c);
      ready = λ n there. subst (λ (x : Mapping). IsReady x.state) (only_one m n there) ready;
      prepared = λ strict n there. subst (λ (x : Mapping). x.state ≡ Prepared) (only_one m n there) (prepared strict);
      alone = λ x n there inside target other.
          let same = only_one m x there in
          no_rival b m n none inside (target ∙ ap (λ (z : Mapping). z.target.0) (sym same)) (λ e. other (e ∙ ap (λ (z : Mapping). z.id.0) same));
    }

pub one_prepares : (b : Books) (m : Mapping) (restore : Bool) → Contains b.tables.mappings m → first_of (in_group m ∷ by_state Prepare m ∷ not_ready b restore m) ≡ None → CanTurn b.tables (m ∷ []) true
one_prepares b m restore found e =
    let first = none_first (in_group m) (by_state Prepare m ∷ not_ready b restore m) e in
    let second = none_first (by_state Prepare m) (not_ready b restore m) first.1 in
    one_turns b m true found (prepares m.state second.0) (λ strict. absurd cc) (rivals_none b restore m second.1)

start_states : (prep : Bool) (m : Mapping) → by_state (start_event prep) m ≡ None → IsReady m.state × (prep ≡ false → m.state ≡ Prepared)
start_states true m e = (starts_anew m.state e, λ strict. absurd cc)
start_states false m e = (let p = starts_prepared m.state e in (inr (inr p), λ strict. p))

pub one_starts : (b : Books) (m : Mapping) (prep restore : Bool) → Contains b.tables.mappings m → first_of (in_group m ∷ by_state (start_event prep) m ∷ not_ready b restore m) ≡ None → CanTurn b.tables (m ∷ []) prep
one_starts b m prep restore found e =
    let first = none_first (in_group m) (by_state (start_event prep) m ∷ not_ready b restore m) e in
    let second = none_first (by_state (start_event prep) m) (not_ready b restore m) first.1 in
    let s = start_states prep m second.0 in
    one_turns b m prep found s.0 s.1 (rivals_none b restore m second.1)

-- ---- the members of a group

-- No member is refused.
ready_append : (refusals : List (Option Refusal)) (o : Option Refusal) → first_of (refusals ++ o ∷ []) ≡ None → (first_of refusals ≡ None) × (o ≡ None)
ready_append [] o e = (refl, (none_first o [] e).0)
ready_append (None ∷ rs) o e = ready_append rs o e
ready_append (Some r ∷ rs) o e = absurd cc

each_ready : (refusals : Mapping → List (Option Refusal)) (ms : List Mapping) (m : Mapping) → for_each refusals ms ≡ None → Contains ms m → first_of (refusals m) ≡ None
each_ready refusals [] m e found = absurd (none_in m found)
each_ready refusals (x ∷ xs) m e found =
    let p = ready_append (refusals x) (for_each refusals xs) e in
    elim (in_cases x m xs found) [
      | inl same ↦ subst (λ (z : Mapping). first_of (refusals z) ≡ None) same p.0
      | inr rest ↦ each_ready refusals xs m p.1 rest
    ]

-- what isn't told of several volumes
none_least : (ids : List ℕ) → least ids ≡ None → ids ≡ []
none_least [] e = refl
none_least (x ∷ xs) e = absurd cc

told_none : (b : Bool) (twice source : Option ℕ) → told_of b twice source ≡ None → (twice ≡ None) × (source ≡ None)
told_none true twice source e = absurd cc
told_none false (Some v) source e = absurd cc
told_none false None (Some v) e = absurd cc
told_none false None None e = (refl, refl)

trigger_none : (maps : List Mapping) → trigger_refusal maps ≡ None → (twice_targets maps ≡ []) × (source_targets maps ≡ [])
trigger_none maps e =
    let t = told_none (is_none_of maps) (least (twice_targets maps)) (least (source_targets maps)) (sym (trigger_refusal-told maps) ∙ e) in
    (none_least (twice_targets maps) t.0, none_least (source_targets maps) t.1)

fails_in : (p : ℕ → Bool) (xs : List ℕ) (x : ℕ) → filter p xs ≡ [] → Contains xs x → p x ≡ false
fails_in p xs x none found = false_from_ne_true (p x) (λ e. none_in x (subst (λ (ys : List ℕ). Contains ys x) none (filter_in p xs x found e)))

-- two that pass are counted
abbrev weight : Bool → ℕ
weight b = cond b 1 0

weighs : (b : Bool) → b ≡ true → weight b ≡ 1
weighs b e = ap weight e

counts : (p : Mapping → Bool) (x : Mapping) (xs : List Mapping) → count_by p (x ∷ xs) ≡ weight (p x) + count_by p xs
counts p x xs = sum_by-cons (λ z. cond (p z) 1 0) x xs

counted : (p : Mapping → Bool) (xs : List Mapping) (x : Mapping) → Contains xs x → p x ≡ true → 1 ≤ count_by p xs
counted p [] x found e = absurd (none_in x found)
counted p (y ∷ ys) x found e = elim (in_cases y x ys found) [
  | inl same ↦ (let one = weighs (p y) (ap p same ∙ e) in let step = counts p y ys in omega (arith, one, step))
  | inr rest ↦ (let more = counted p ys x rest e in let step = counts p y ys in omega (arith, more, step))
]

counted_twice : (p : Mapping → Bool) (xs : List Mapping) (x y : Mapping) → Contains xs x → Contains xs y → p x ≡ true → p y ≡ true → x.id.0 ≢ y.id.0 → 2 ≤ count_by p xs
counted_twice p [] x y one two e f other = absurd (none_in x one)
counted_twice p (z ∷ zs) x y one two e f other = elim (in_cases z x zs one) [
  | inl a ↦ elim (in_cases z y zs two) [
    | inl b ↦ absurd (other (ap (λ (m : Mapping). m.id.0) (sym a ∙ b)))
    | inr b ↦ (let here = weighs (p z) (ap p a ∙ e) in let more = counted p zs y b f in let step = counts p z zs in omega (arith, here, more, step))
  ]
  | inr a ↦ elim (in_cases z y zs two) [
    | inl b ↦ (let here = weighs (p z) (ap p b ∙ f) in let more = counted p zs x a e in let step = counts p z zs in omega (arith, here, more, step))
    | inr b ↦ (let more = counted_twice p zs x y a b e f other in let step = counts p z zs in omega (arith, more, step))
  ]
]

not_twice : (n : ℕ) → nat_lt 1 n ≡ false → n ≤ 1
not_twice n e = grind (arith, nat_tests)

pub targets_differ : (maps : List Mapping) (m n : Mapping) → trigger_refusal maps ≡ None → Contains maps m → Contains maps n → m.target.0 ≡ n.target.0 → m.id.0 ≡ n.id.0
targets_differ maps m n e found other target = elim (cases_eq m.id.0 n.id.0) [
  | inl same ↦ same
  | inr apart ↦
      let v = n.target.0 in
      let once = not_twice (count_by (has_target v) maps) (fails_in (λ u. nat_lt 1 (count_by (has_target u) maps)) (map (λ (x : Mapping). x.target.0) maps) v (trigger_none maps e).0 (map_in (λ (x : Mapping). x.target.0) maps n other)) in
      let twice = counted_twice (has_target v) maps m n found other (eq-eqb m.target.0 v target) (eq-eqb n.target.0 v refl) apart in
      absurd (omega (arith, once, twice))
]

pub no_source : (maps : List Mapping) (m n : Mapping) → trigger_refusal maps ≡ None → Contains maps m → Contains maps n → m.target.0 ≢ n.source.0
no_source maps m n e found other same =
    let v = n.source.0 in
    let none = fails_in (λ u. list_any (has_target u) maps) (map (λ (x : Mapping). x.source.0) maps) v (trigger_none maps e).1 (map_in (λ (x : Mapping). x.source.0) maps n other) in
    both_ways (has_target v m) (any_in (has_target v) maps m none found) (eq-eqb m.target.0 v same)

members_turn : (b : Books) (g : GroupId) (restore gives : Bool) → AreOrdered b.tables.mappings → ((m : Mapping) → Contains (members b.tables g) m → IsReady m.state) → (gives ≡ false → (m : Mapping) → Contains (members b.tables g) m → m.state ≡ Prepared) →
    trigger_refusal (members b.tables g) ≡ None → for_each (not_ready b restore) (members b.tables g) ≡ None → CanTurn b.tables (members b.tables g) gives
members_turn b g restore gives o ready prepared trigger each =
    record {
      ordered = filter_ordered (λ (m : Mapping). m.id.0) (λ (m : Mapping). m.name) (is_member g) b.tables.mappings o;
      among = λ m found. (filter_from (is_member g) b.tables.mappings m found).0;
      targets = λ m n found other target. targets_differ (members b.tables g) m n trigger found other target;
      ready = ready;
      prepared = prepared;
      alone = λ m n found there target other. no_rival b m n (rivals_none b restore m (each_ready (not_ready b restore) (members b.tables g) m each found)) there target other;
    }

pub group_prepares : (b : Books) (g : GroupId) (restore : Bool) → AreOrdered b.tables.mappings →
    first_of
    (empty_group (members b.tables g)
    ∷ where_ (some_in is_active (members b.tables g)) (NotAllowed (group_state b.tables g))
    ∷ trigger_refusal (members b.tables g)
    ∷ for_each (not_ready b restore) (members b.tables g)
    ∷ []) ≡ None → CanTurn b.tables (members b.tables g) true
group_prepares b g restore o e =
    let maps = members b.tables g in
    let none = none_of
    (empty_group maps
    ∷ where_ (some_in is_active maps) (NotAllowed (group_state b.tables g))
    ∷ trigger_refusal maps
    ∷ for_each (not_ready b restore) maps
    ∷ []) e in
    members_turn b g restore true o
    (λ m found. resting_ready m.state (any_in (λ (x : Mapping). is_active x.state) maps m (none_where (some_in is_active maps) (NotAllowed (group_state b.tables g)) none.1.0) found))
    (λ strict. absurd cc) none.1.1.0 none.1.1.1.0

-- What a group's start says of each member.
all_in : (p : Mapping → Bool) (xs : List Mapping) (x : Mapping) → list_all p xs ≡ true → Contains xs x → p x ≡ true
all_in p [] x e found = absurd (none_in x found)
all_in p (y ∷ ys) x e found =
    let a = and_parts (p y) (list_all p ys) e in
    elim (in_cases y x ys found) [ inl same ↦ ap p (sym same) ∙ a.0 | inr rest ↦ all_in p ys x a.1 rest ]

group_states : (prep : Bool) (maps : List Mapping) (m : Mapping) → list_any (starts_not prep) maps ≡ false → (not prep && not (list_all (λ (x : Mapping). is_prepared x.state) maps)) ≡ false → Contains maps m → IsReady m.state × (prep ≡ false → m.state ≡ Prepared)
group_states true maps m none all found =
    let inactive : is_active m.state ≡ false = first_false (is_active m.state) (any_in (starts_not true) maps m none found) in
    (resting_ready m.state inactive, λ strict. absurd cc)
  where
    first_false : (a : Bool) → (a && true) ≡ false → a ≡ false
    first_false true e = e
    first_false false e = refl
group_states false maps m none all found =
    let p = prepared_is m.state (all_in (λ (x : Mapping). is_prepared x.state) maps m (unnot (list_all (λ (x : Mapping). is_prepared x.state) maps) all) found) in
    (inr (inr p), λ strict. p)
  where
    unnot : (b : Bool) → not b ≡ false → b ≡ true
    unnot true e = refl
    unnot false e = absurd cc

-- the list of a group's start
abbrev pub group_start_refusals : Books → GroupId → Bool → Bool → List (Option Refusal)
group_start_refusals b g prep restore =
    let maps = members b.tables g in
    empty_group maps
    ∷ where_ (list_any (starts_not prep) maps) (NotAllowed (group_state b.tables g))
    ∷ where_ (not prep && not (list_all (λ (m : Mapping). is_prepared m.state) maps)) NotPrepared
    ∷ trigger_refusal maps
    ∷ for_each (not_ready b restore) maps
    ∷ []

pub group_starts : (b : Books) (g : GroupId) (prep restore : Bool) → AreOrdered b.tables.mappings → first_of (group_start_refusals b g prep restore) ≡ None → CanTurn b.tables (members b.tables g) prep
group_starts b g prep restore o e =
    let maps = members b.tables g in
    let none = none_of (group_start_refusals b g prep restore) e in
    let states : (m : Mapping) → Contains maps m → IsReady m.state × (prep ≡ false → m.state ≡ Prepared) =
    λ m found. group_states prep maps m (none_where (list_any (starts_not prep) maps) (NotAllowed (group_state b.tables g)) none.1.0)
    (none_where (not prep && not (list_all (λ (x : Mapping). is_prepared x.state) maps)) NotPrepared none.1.1.0) found in
    members_turn b g restore prep o (λ m found. (states m found).0) (λ strict m found. (states m found).1 strict) none.1.1.1.0 none.1.1.1.1.0

pub group_trigger : (b : Books) (g : GroupId) (prep restore : Bool) → first_of (group_start_refusals b g prep restore) ≡ None → (trigger_refusal (members b.tables g) ≡ None) × (is_none_of (members b.tables g) ≡ false)
group_trigger b g prep restore e =
    let none = none_of (group_start_refusals b g prep restore) e in
    (none.1.1.1.0, none_where (is_none_of (members b.tables g)) EmptyGroup none.0)

pub few_members : (b : Books) (g : GroupId) → length b.tables.mappings ≤ 512 → length (members b.tables g) ≤ 512
few_members b g le =
    let a = length-filter (is_member g) b.tables.mappings in
    let c = count_by-le-length (is_member g) b.tables.mappings in
    omega (arith, a, c, le)
