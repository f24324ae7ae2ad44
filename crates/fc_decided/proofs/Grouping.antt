-- Groups come and go.
use Rattle.std.proofs.Common.{◌≡◌, ℕ, ◌+◌, ◌<◌, ◌≤◌, ◌^◌, Bool, true, false, cond, not, List, [], ◌∷◌, ◌++◌, length, map, fold, Option, Some, None, refl, sym, ap, subst, ◌∙◌, arith, Contains, ◌⊎◌, inl, inr}
use Rattle.std.specs.Prelude.{◌==◌, nat_le, find, filter, IsSome}
use Rattle.std.specs.Option.{ForSome, option_map_or}
use Rattle.std.proofs.lemmas.Bool.{eqb-true, eq-eqb, both_ways}
use Rattle.std.proofs.lemmas.List.{length-map}
use Rattle.std.proofs.lemmas.List.Elements.{All-push, All-filter, All-weaker, Contains-append_left}
use Rattle.fc_base.specs.Tables.{Tables, group_with, group_named, after_change}
use Rattle.fc_base.specs.declared.fault.Kind.TheVariants.{Group as OfGroups}
use Rattle.fc_base.specs.declared.ids.GroupId.{GroupId}
use Rattle.fc_base.specs.declared.name.Ref.TheVariants.{Name}
use Rattle.fc_base.specs.declared.size.GrainSize.{GrainSize}
use Rattle.fc_base.specs.declared.volume.Change.{Change}
use Rattle.fc_base.specs.declared.volume.Change.TheVariants.{SetMapping, AddGroup, RemoveGroup}
use Rattle.fc_base.specs.declared.volume.Group.{Group}
use Rattle.fc_base.specs.declared.volume.Mapping.{Mapping}
use Rattle.fc_books.specs.After.{after_table_change}
use Rattle.fc_books.specs.Books.{Books}
use Rattle.fc_books.specs.Groups.{members, is_member}
use Rattle.fc_books.specs.Making.{new_group, make_group, remove_group, group_name}
use Rattle.fc_books.specs.Refused.{mkfcconsistgrp_refused, name_taken}
use Rattle.fc_books.specs.Sound.{AreTables, Agree, IsOfTables, SlotByState}
use Rattle.fc_legal.specs.Lawful.{FitChanges}
use Rattle.fc_legal.specs.Stands.{Stands}
use Rattle.fc_legal.specs.Whole.{Whole}
use Rattle.fc_decided.proofs.Agreeing.{group_there, group_from, of_tables_same, slot_as}
use Rattle.fc_decided.proofs.Frame.{Suits, tabled, sheeted}
use Rattle.fc_decided.proofs.Lists.{filter_from, filter_in, map_from}
use Rattle.fc_decided.proofs.Agreeing.{is_none}
use Rattle.fc_decided.proofs.Ordered.{push_ordered, filter_ordered, unnamed}
use Rattle.fc_decided.proofs.Resting.{births_fit}
use Rattle.fc_decided.proofs.Apart.{fold_append}
use Rattle.fc_decided.proofs.Frame.{suits_as}
use Rattle.fc_decided.proofs.Lists.{map_in, map_alike, first_in, later_in}
use Rattle.fc_decided.proofs.Reaching.{decides}
use Rattle.fc_base.specs.States.{access_of}
use Rattle.fc_books.specs.Accesses.{access_by, is_idle}
use Rattle.fc_base.specs.declared.ids.VolId.{VolId}
use Rattle.fc_base.specs.declared.state.MapState.{MapState}
use Rattle.fc_base.specs.declared.state.Access.{Access}
use Rattle.fc_legal.specs.Whole.{volume_told}
use Rattle.std.specs.Prelude.{◌&&◌}
use Rattle.std.proofs.lemmas.Bool.{false_from_ne_true}
use Rattle.fc_decided.proofs.Keeping.{keeps_all, as_large_same}
use Rattle.fc_decided.proofs.Sparing.{sparing}
use Rattle.fc_decided.proofs.Setting.{sets_stay, AreOrdered, Restated, AreRestated, sets, set_in, set_cases, itself, one_mapping, tables_set, tabled_sets, fit_sets, fit_append, with_mappings}
use Rattle.fc_decided.proofs.Unrefused.{none_of, none_taken}
use Rattle.fc_base.specs.declared.fault.Refusal.TheVariants.{Limit}
use Rattle.fc_entry.specs.Refused.{where_}

-- ---- a group comes

pub group_kept : (t : Tables) (g : Group) (o : Option GroupId) → ForSome o (λ id. IsSome (group_with t id)) → ForSome o (λ id. IsSome (group_with (record t { groups = t.groups ++ g ∷ [] }) id))
group_kept t g o some =
    λ id e. let f = group_from t id (some id e) in
    group_there (record t { groups = t.groups ++ g ∷ [] }) f.0 id (Contains-append_left t.groups (g ∷ []) f.0 f.1) f.2

make_agree : (b : Books) (g : Group) → Agree b → Agree (sheeted b [] (AddGroup g ∷ []))
make_agree b g a =
    record {
      volumes = a.volumes;
      slots = a.slots;
      owned = a.owned;
      mappings = λ m found. let of = a.mappings m found in of_tables_same b.tables (after_change b.tables (AddGroup g)) m m refl refl refl of.state (group_kept b.tables g m.group of.group) of;
      by_state = a.by_state;
      one_busy = a.one_busy;
    }

make_tables : (b : Books) (name : List ℕ) → AreTables b → group_named b.tables (Name name) ≡ None → AreTables (tabled b (AddGroup (record { id = record { 0 = b.next_group }; name = name }) ∷ []))
make_tables b name t free =
    let g : Group = record { id = record { 0 = b.next_group }; name = name } in
    record {
      volumes = t.volumes;
      mappings = t.mappings;
      groups = push_ordered (λ (x : Group). x.id.0) (λ (x : Group). x.name) b.tables.groups g t.groups t.new_group (unnamed (λ (x : Group). x.id.0) (λ (x : Group). x.name) name b.tables.groups free);
      new_volume = t.new_volume;
      new_mapping = t.new_mapping;
      new_group =
          All-push (λ (x : Group). x.id.0 < b.next_group + 1) b.tables.groups g
          (All-weaker (λ (x : Group). x.id.0 < b.next_group) (λ (x : Group). x.id.0 < b.next_group + 1) (λ x lt. omega (arith, lt)) b.tables.groups t.new_group)
          (omega arith);
    }

pub make_group_suits : (grain : GrainSize) (decisions : ℕ) (w : Whole) (name : Option (List ℕ)) → decisions < 2 ^ 32 → Stands decisions w → mkfcconsistgrp_refused w.books name ≡ None → Suits grain decisions w (make_group (new_group w.books name))
make_group_suits grain decisions w name small st free =
    let b = w.books in
    let taken = (none_of (where_ (nat_le 64 (length b.tables.groups)) (Limit 64) ∷ name_taken b OfGroups (group_name name b.next_group) ∷ []) free).1.0 in
    let none : group_named b.tables (Name (group_name name b.next_group)) ≡ None = none_taken (λ (g : Group). g.id.0) (group_named b.tables (Name (group_name name b.next_group))) taken in
    record {
      fits = births_fit b decisions small st.few;
      disks = tt;
      no_work = tt;
      gone = tt;
      fit_changes = ((st.sound.tables.new_group, is_none (group_named b.tables (Name (group_name name b.next_group))) none), tt);
      picture = refl;
      volumes = refl;
      later = omega arith;
      tables = make_tables b (group_name name b.next_group) st.sound.tables none;
      agree = make_agree b (new_group b name) st.sound.agree;
      few = record {
        volumes = omega (arith, st.few.volumes);
        mappings = omega (arith, st.few.mappings);
        groups = omega (arith, st.few.groups);
        births = omega (arith, st.few.births);
        at_once = st.few.at_once;
        volumes_at_once = st.few.volumes_at_once;
      };
      plain = st.plain;
      begins = sparing tt;
      keeps = keeps_all b.tables _ [] refl refl;
    }

-- ---- a group goes

-- A mapping that is in no group any more.
abbrev pub single : Mapping → Mapping
single m = record m { group = None }

singles_are : (ms : List Mapping) → map (λ (m : Mapping). SetMapping (single m)) ms ≡ sets (map single ms)
singles_are [] = refl
singles_are (m ∷ ms) = ap (λ (cs : List Change). SetMapping (single m) ∷ cs) (singles_are ms)

single_restated : (m : Mapping) → Restated m (single m)
single_restated m = record { id = refl; name = refl; source = refl; target = refl; incremental = refl; group = λ g e. absurd cc }

leavers : Tables → GroupId → List Mapping
leavers t g = map single (members t g)

all_restated : (t : Tables) (g : GroupId) → AreRestated t.mappings (leavers t g)
unfolding leavers
all_restated t g n found =
    let r = map_from single (members t g) n found in
    let f = filter_from (is_member g) t.mappings r.0 r.1 in
    (r.0, f.0, subst (Restated r.0) r.2 (single_restated r.0))

-- What a mapping becomes: itself, or single.
leaver_cases : (t : Tables) (g : GroupId) (m : Mapping) → AreOrdered t.mappings → Contains t.mappings m → ((set_in (leavers t g) m ≡ m) × (is_member g m ≡ false)) ⊎ (set_in (leavers t g) m ≡ single m)
unfolding leavers
leaver_cases t g m o found = elim (set_cases (leavers t g) m) [
  | inl same ↦ inl (same.0, false_from_ne_true (is_member g m) (λ e. same.1 (single m) (map_in single (members t g) m (filter_in (is_member g) t.mappings m found e)) refl))
  | inr there ↦
      let r = map_from single (members t g) (set_in (leavers t g) m) there.0 in
      let f = filter_from (is_member g) t.mappings r.0 r.1 in
      let same : r.0 ≡ m = one_mapping t.mappings r.0 m o f.0 found (ap (λ (x : Mapping). x.id.0) r.2 ∙ there.1) in
      inr (sym r.2 ∙ ap single same)
]

-- A mapping in the state, and with the copy, that it had.
record SameCopy (m n : Mapping) : Type 0 where
  restated : Restated m n
  id : n.id ≡ m.id
  state : n.state ≡ m.state
  complete : n.complete ≡ m.complete

same_copy : (t : Tables) (g : GroupId) (m : Mapping) → AreOrdered t.mappings → Contains t.mappings m → SameCopy m (set_in (leavers t g) m)
same_copy t g m o found = elim (leaver_cases t g m o found) [
  | inl same ↦ subst (SameCopy m) (sym same.0) (record { restated = itself m; id = refl; state = refl; complete = refl })
  | inr one ↦ subst (SameCopy m) (sym one) (record { restated = single_restated m; id = refl; state = refl; complete = refl })
]

-- The books after a group went.
abbrev ungrouped : Books → GroupId → Books
ungrouped b g = after_table_change (with_mappings b (map (set_in (leavers b.tables g)) b.tables.mappings)) (RemoveGroup g)

ungrouped_is : (b : Books) (g : GroupId) → tabled b (remove_group b.tables g).changes ≡ ungrouped b g
unfolding leavers
ungrouped_is b g =
    fold_append after_table_change b (map (λ (m : Mapping). SetMapping (single m)) (members b.tables g)) (RemoveGroup g ∷ [])
    ∙ ap (λ (cs : List Change). after_table_change (tabled b cs) (RemoveGroup g)) (singles_are (members b.tables g))
    ∙ ap (λ (c : Books). after_table_change c (RemoveGroup g)) (tabled_sets b (leavers b.tables g))

other_group : (t : Tables) (g id : GroupId) → (g.0 ≡ id.0 → ⊥) → IsSome (group_with t id) → IsSome (group_with (record t { groups = filter (λ (x : Group). not (g.0 == x.id.0)) t.groups }) id)
other_group t g id other some =
    let f = group_from t id some in
    let stays : (g.0 == f.0.id.0) ≡ false = false_from_ne_true (g.0 == f.0.id.0) (λ e. other (eqb-true g.0 f.0.id.0 e ∙ sym f.2)) in
    group_there (record t { groups = filter (λ (x : Group). not (g.0 == x.id.0)) t.groups }) f.0 id
    (filter_in (λ (x : Group). not (g.0 == x.id.0)) t.groups f.0 f.1 (ap not stays)) f.2

not_in : (g id : GroupId) (m : Mapping) → m.group ≡ Some id → is_member g m ≡ false → g.0 ≡ id.0 → ⊥
not_in g id m e out same =
    let inside : is_member g m ≡ true = ap (λ (o : Option GroupId). option_map_or (λ (h : GroupId). g.0 == h.0) o false) e ∙ eq-eqb g.0 id.0 same in
    both_ways (is_member g m) out inside

stays_of : (b : Books) (g : GroupId) (m n : Mapping) → IsOfTables b.tables m → SameCopy m n → ((id : GroupId) → n.group ≡ Some id → (g.0 ≡ id.0 → ⊥) × (m.group ≡ Some id)) → IsOfTables (ungrouped b g).tables n
stays_of b g m n of same other =
    of_tables_same b.tables (ungrouped b g).tables m n refl same.restated.source same.restated.target (λ e. of.state (sym same.state ∙ e))
    (λ id e. let r = other id e in other_group b.tables g id r.0 (of.group id r.1)) of

leaves_group : (b : Books) (g : GroupId) (m : Mapping) → AreOrdered b.tables.mappings → Contains b.tables.mappings m → (id : GroupId) → (set_in (leavers b.tables g) m).group ≡ Some id → (g.0 ≡ id.0 → ⊥) × (m.group ≡ Some id)
leaves_group b g m o found id e = elim (leaver_cases b.tables g m o found) [
  | inl same ↦ (let kept : m.group ≡ Some id = ap (λ (x : Mapping). x.group) (sym same.0) ∙ e in (not_in g id m kept same.1, kept))
  | inr one ↦ (let none : None ≡ Some id = ap (λ (x : Mapping). x.group) (sym one) ∙ e in absurd cc)
]

remove_agree : (b : Books) (g : GroupId) → AreOrdered b.tables.mappings → Agree b → Agree (ungrouped b g)
remove_agree b g o a =
    let maps = b.tables.mappings in
    let f : Mapping → Mapping = set_in (leavers b.tables g) in
    record {
      volumes = a.volumes;
      slots = a.slots;
      owned = λ k kl n e. let r = a.owned k kl n e in (f r.0, map_in f maps r.0 r.1, (same_copy b.tables g r.0 o r.1).restated.id ∙ r.2);
      mappings = λ n found. let r = map_from f maps n found in
          subst (IsOfTables (ungrouped b g).tables) r.2 (stays_of b g r.0 (f r.0) (a.mappings r.0 r.1) (same_copy b.tables g r.0 o r.1) (leaves_group b g r.0 o r.1));
      by_state = λ n found. let r = map_from f maps n found in
          let s = same_copy b.tables g r.0 o r.1 in
          subst (λ (x : Mapping). SlotByState x.state b.sheet.slots x) r.2
          (subst (λ (x : MapState). SlotByState x b.sheet.slots (f r.0)) (sym s.state) (slot_as r.0.state b.sheet.slots r.0 (f r.0) s.restated.id s.restated.target (a.by_state r.0 r.1)));
      one_busy = λ m n found other target busy also.
          let r = map_from f maps m found in
          let q = map_from f maps n other in
          let s = same_copy b.tables g r.0 o r.1 in
          let t = same_copy b.tables g q.0 o q.1 in
          ap (λ (x : Mapping). x.id.0) (sym r.2) ∙ s.restated.id
          ∙ a.one_busy r.0 q.0 r.1 q.1
          (ap (λ (v : VolId). v.0) (sym s.restated.target) ∙ ap (λ (x : Mapping). x.target.0) r.2 ∙ target ∙ ap (λ (x : Mapping). x.target.0) (sym q.2) ∙ ap (λ (v : VolId). v.0) t.restated.target)
          (ap is_idle (sym s.state ∙ ap (λ (x : Mapping). x.state) r.2) ∙ busy)
          (ap is_idle (sym t.state ∙ ap (λ (x : Mapping). x.state) q.2) ∙ also)
          ∙ sym t.restated.id ∙ ap (λ (x : Mapping). x.id.0) q.2;
    }

-- no access changes
same_decides : (v : VolId) (m n : Mapping) → n.target ≡ m.target → n.state ≡ m.state → decides v n ≡ decides v m
same_decides v m n target state = λ k. ((target k).0 == v.0) && not (is_idle (state k))

same_accesses : (v : VolId) (f : Mapping → Mapping) (maps : List Mapping) → ((m : Mapping) → Contains maps m → SameCopy m (f m)) → access_by (find (decides v) (map f maps)) ≡ access_by (find (decides v) maps)
same_accesses v f [] same = refl
same_accesses v f (m ∷ ms) same =
    let s = same m (first_in m ms) in
    ap (λ b. access_by (cond b (Some (f m)) (find (decides v) (map f ms)))) (same_decides v m (f m) s.restated.target s.state)
    ∙ by (decides v m) s (same_accesses v f ms (λ x found. same x (later_in m x ms found)))
  where
    by : (b : Bool) → SameCopy m (f m) → access_by (find (decides v) (map f ms)) ≡ access_by (find (decides v) ms) → access_by (cond b (Some (f m)) (find (decides v) (map f ms))) ≡ access_by (cond b (Some m) (find (decides v) ms))
    by true s rest = λ k. access_of (s.id k) (s.state k) (s.complete k)
    by false s rest = rest

groups_kept : (t : Tables) (news : List Mapping) → (fold after_change t (sets news)).groups ≡ t.groups
groups_kept t [] = refl
groups_kept t (n ∷ ns) = groups_kept (after_change t (SetMapping n)) ns

removal_fits : (b : Books) (g : Group) → AreOrdered b.tables.mappings → Contains b.tables.groups g → FitChanges b.tables (remove_group b.tables g.id).changes
unfolding leavers
removal_fits b g o found =
    subst (λ (cs : List Change). FitChanges b.tables (cs ++ RemoveGroup g.id ∷ [])) (sym (singles_are (members b.tables g.id)))
    (fit_append b.tables (sets (leavers b.tables g.id)) (RemoveGroup g.id ∷ []) (fit_sets b.tables (leavers b.tables g.id) o (all_restated b.tables g.id))
    (group_there (fold after_change b.tables (sets (leavers b.tables g.id))) g g.id (subst (λ (gs : List Group). Contains gs g) (sym (groups_kept b.tables (leavers b.tables g.id))) found) refl, tt))

pub remove_group_suits : (grain : GrainSize) (decisions : ℕ) (w : Whole) (g : Group) → decisions < 2 ^ 32 → Stands decisions w → Contains w.books.tables.groups g → Suits grain decisions w (remove_group w.books.tables g.id)
remove_group_suits grain decisions w g small st found =
    let b = w.books in
    let t = st.sound.tables in
    let o = t.mappings in
    let set = tables_set b (leavers b.tables g.id) t (all_restated b.tables g.id) in
    suits_as grain decisions w (remove_group b.tables g.id) (ungrouped b g.id) (ungrouped_is b g.id) (record {
      fits = births_fit b decisions small st.few;
      disks = tt;
      no_work = tt;
      gone = tt;
      fit_changes = removal_fits b g o found;
      picture = refl;
      volumes = map_alike (volume_told b.tables) (volume_told (ungrouped b g.id).tables) b.tables.volumes
          (λ v there. ap (λ (a : Access). record { volume = v.id; kind = v.kind; access = a }) (sym (same_accesses v.id (set_in (leavers b.tables g.id)) b.tables.mappings (λ m inside. same_copy b.tables g.id m o inside))));
      later = omega arith;
      tables = record {
        volumes = set.volumes;
        mappings = set.mappings;
        groups = filter_ordered (λ (x : Group). x.id.0) (λ (x : Group). x.name) (λ (x : Group). not (g.id.0 == x.id.0)) b.tables.groups set.groups;
        new_volume = set.new_volume;
        new_mapping = set.new_mapping;
        new_group = All-filter (λ (x : Group). not (g.id.0 == x.id.0)) (λ (x : Group). x.id.0 < b.next_group) b.tables.groups set.new_group;
      };
      agree = remove_agree b g.id o st.sound.agree;
      few = record {
        volumes = omega (arith, st.few.volumes);
        mappings = omega (arith, st.few.mappings);
        groups = omega (arith, st.few.groups);
        births = omega (arith, st.few.births);
        at_once = subst (λ (n : ℕ). n ≤ 512) (sym (length-map b.tables.mappings (set_in (leavers b.tables g.id)))) st.few.at_once;
        volumes_at_once = st.few.volumes_at_once;
      };
      plain = st.plain;
      begins = sparing tt;
      keeps = record { stay = sets_stay b.tables.mappings (leavers b.tables g.id) [] o (all_restated b.tables g.id); as_large = as_large_same b.tables (ungrouped b g.id).tables refl };
    })
