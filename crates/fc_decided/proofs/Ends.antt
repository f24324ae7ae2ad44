-- What the end of a mapping's copy does to the tables: its row is set or removed, and its target is reached as its new state says.
use Rattle.std.proofs.Common.{◌≡◌, ◌≢◌, ◌<◌, Bool, true, false, cond, not, ◌&&◌, ◌==◌, Some, IsSome, is_some, List, [], ◌∷◌, length, map, refl, sym, ap, subst, ◌∙◌, arith, Contains, ◌⊎◌, inl, inr}
use Rattle.std.specs.Option.{option_map}
use Rattle.std.proofs.lemmas.Bool.{cases_eq, cases_Bool, both_ways, and_parts, eq-eqb, ne_eqb}
use Rattle.std.proofs.lemmas.List.{length-map}
use Rattle.std.proofs.lemmas.List.Elements.{All-contains}
use Rattle.fc_base.specs.States.{access_of}
use Rattle.fc_base.specs.Tables.{Tables, volume_with}
use Rattle.fc_base.specs.declared.ids.MapId.{MapId}
use Rattle.fc_base.specs.declared.ids.VolId.{VolId}
use Rattle.fc_base.specs.declared.state.Access.{Access}
use Rattle.fc_base.specs.declared.state.Access.TheVariants.{Online}
use Rattle.fc_base.specs.declared.state.MapState.{MapState}
use Rattle.fc_base.specs.declared.state.MapState.TheVariants.{Empty, IdleOrCopied}
use Rattle.fc_base.specs.declared.volume.Mapping.{Mapping}
use Rattle.fc_base.specs.declared.volume.Volume.{Volume}
use Rattle.fc_books.specs.Accesses.{is_idle, access_by, access_in}
use Rattle.fc_books.specs.Books.{Books}
use Rattle.fc_books.specs.Ending.{in_state, comes_to, goes_from, ends_in}
use Rattle.fc_books.specs.Sound.{AreTables, IsOfTables, HasGrains}
use Rattle.fc_legal.specs.Whole.{volume_told}
use Rattle.fc_rules.specs.LaneTold.{LaneVolume}
use Rattle.fc_decided.proofs.Frame.{tabled}
use Rattle.fc_decided.proofs.Lists.{all_from}
use Rattle.fc_decided.proofs.Rows.{row_found, set_rows, set_ordered, set_from, set_in, set_others, drop_rows, drop_ordered, drop_from, drop_others, drop_count, find_set, find_drop}
use Rattle.fc_decided.proofs.Reaching.{decides, OneBusy, access_is, access_online}
use Rattle.fc_decided.proofs.Setting.{AreOrdered, one_mapping, with_mappings}
use Rattle.fc_decided.proofs.Keeping.{IsSame, same_itself}
use Rattle.fc_decided.proofs.TableSteps.{TableStep}

-- ---- rows that stand

-- What holds of the tables alone.
pub record Rows (b : Books) : Type 0 where
  pub tables : AreTables b
  pub of_tables : (m : Mapping) → Contains b.tables.mappings m → IsOfTables b.tables m
  pub one_busy : OneBusy b.tables.mappings

-- A row that takes the place of a busy one.
pub record Follows (b : Books) (old r : Mapping) : Type 0 where
  pub found : Contains b.tables.mappings old
  pub id : r.id ≡ old.id
  pub name : r.name ≡ old.name
  pub source : r.source ≡ old.source
  pub target : r.target ≡ old.target
  pub incremental : r.incremental ≡ old.incremental
  pub group : r.group ≡ old.group
  pub state : r.state ≢ Empty
  pub busy : is_idle old.state ≡ false

-- The table without the old row, and maybe with the new one.
pub record Ended (old new : List Mapping) (r : Mapping) : Type 0 where
  pub from : (y : Mapping) → Contains new y → (y ≡ r) ⊎ (Contains old y × (y.id.0 ≢ r.id.0))
  pub others : (m : Mapping) → Contains old m → m.id.0 ≢ r.id.0 → Contains new m
  pub stays : is_idle r.state ≡ false → Contains new r

abbrev same_id : (b : Books) (old r : Mapping) → Follows b old r → r.id.0 ≡ old.id.0
same_id b old r f = ap (λ (x : MapId). x.0) f.id

-- ---- the rows stand

row_of_tables : (b : Books) (maps : List Mapping) (m r : Mapping) → r.source ≡ m.source → r.target ≡ m.target → r.group ≡ m.group → r.state ≢ Empty → IsOfTables b.tables m → IsOfTables (with_mappings b maps).tables r
row_of_tables b maps m r source target group state i =
    record {
      source = subst (λ (v : VolId). IsSome (volume_with b.tables v)) (sym source) i.source;
      target = subst (λ (v : VolId). IsSome (volume_with b.tables v)) (sym target) i.target;
      apart = λ e. i.apart (ap (λ (v : VolId). v.0) (sym source) ∙ (e ∙ ap (λ (v : VolId). v.0) target));
      as_large = λ v e. subst (λ (t : VolId). HasGrains (volume_with b.tables t) v.grains) (sym target) (i.as_large v (ap (volume_with b.tables) (sym source) ∙ e));
      group = λ g e. i.group g (sym group ∙ e);
      state = state;
    }

rows_from : (b : Books) (maps : List Mapping) (old r : Mapping) → Rows b → Follows b old r → Ended b.tables.mappings maps r → AreOrdered maps → Rows (with_mappings b maps)
rows_from b maps old r rows f ended ordered =
    record {
      tables = record {
        volumes = rows.tables.volumes;
        mappings = ordered;
        groups = rows.tables.groups;
        new_volume = rows.tables.new_volume;
        new_mapping = all_from (λ (m : Mapping). m.id.0 < b.next_mapping) maps (λ m found. elim (ended.from m found) [
          | inl e ↦
              let lt : old.id.0 < b.next_mapping = All-contains (λ (x : Mapping). x.id.0 < b.next_mapping) b.tables.mappings old rows.tables.new_mapping f.found in
              let same : m.id.0 ≡ old.id.0 = ap (λ (x : Mapping). x.id.0) e ∙ same_id b old r f in
              omega arith
          | inr there ↦ All-contains (λ (x : Mapping). x.id.0 < b.next_mapping) b.tables.mappings m rows.tables.new_mapping there.0
        ]);
        new_group = rows.tables.new_group;
      };
      of_tables = λ m found. elim (ended.from m found) [
        | inl e ↦ subst (λ (x : Mapping). IsOfTables (with_mappings b maps).tables x) (sym e) (row_of_tables b maps old r f.source f.target f.group f.state (rows.of_tables old f.found))
        | inr there ↦ let i = rows.of_tables m there.0 in row_of_tables b maps m m refl refl refl i.state i
      ];
      one_busy = λ m n fm fn e bm bn. elim (ended.from m fm) [
        | inl em ↦ elim (ended.from n fn) [
          | inl en ↦ ap (λ (x : Mapping). x.id.0) (em ∙ sym en)
          | inr there ↦ absurd (there.1 (sym (rows.one_busy old n f.found there.0 (ap (λ (v : VolId). v.0) (sym f.target) ∙ (ap (λ (x : Mapping). x.target.0) (sym em) ∙ e)) f.busy bn) ∙ sym (same_id b old r f)))
        ]
        | inr there ↦ elim (ended.from n fn) [
          | inl en ↦ absurd (there.1 (rows.one_busy m old there.0 f.found (e ∙ (ap (λ (x : Mapping). x.target.0) en ∙ ap (λ (v : VolId). v.0) f.target)) bm f.busy ∙ sym (same_id b old r f)))
          | inr also ↦ rows.one_busy m n there.0 also.0 e bm bn
        ]
      ];
    }

-- ---- how volumes are reached

not_decides : (v : VolId) (m : Mapping) → m.target.0 ≢ v.0 → decides v m ≡ false
not_decides v m ne = ap (λ b. b && not (is_idle m.state)) (ne_eqb m.target.0 v.0 ne)

-- of the rows with this id, and of the new row, none has another target
old_others : (b : Books) (old r : Mapping) (v : VolId) → Rows b → Follows b old r → v.0 ≢ r.target.0 → (m : Mapping) → Contains b.tables.mappings m → m.id.0 ≡ r.id.0 → decides v m ≡ false
old_others b old r v rows f ne m found e =
    let same : m ≡ old = one_mapping b.tables.mappings m old rows.tables.mappings found f.found (e ∙ same_id b old r f) in
    not_decides v m (λ q. ne (sym q ∙ (ap (λ (x : Mapping). x.target.0) same ∙ ap (λ (x : VolId). x.0) (sym f.target))))

idle_online : (id : MapId) (state : MapState) (complete : Bool) → is_idle state ≡ true → access_of id state complete ≡ Online
idle_online id IdleOrCopied complete e = refl
idle_online id state complete e = absurd cc

-- the target is reached as the new row says
own_access : (b : Books) (maps : List Mapping) (old r : Mapping) (v : VolId) → Rows b → Follows b old r → Ended b.tables.mappings maps r → Rows (with_mappings b maps) → v.0 ≡ r.target.0 →
    access_in (with_mappings b maps).tables v ≡ access_of r.id r.state r.complete
own_access b maps old r v rows f ended after e =
    elim (cases_Bool (is_idle r.state)) [
      | inl idle ↦
          access_online (with_mappings b maps).tables v
          (λ m found target. elim (ended.from m found) [
            | inl same ↦ ap (λ (x : Mapping). is_idle x.state) same ∙ idle
            | inr there ↦ elim (cases_Bool (is_idle m.state)) [
              | inl rests ↦ rests
              | inr busy ↦ absurd (there.1 (rows.one_busy m old there.0 f.found (target ∙ (e ∙ ap (λ (x : VolId). x.0) f.target)) busy f.busy ∙ sym (same_id b old r f)))
            ]
          ])
          ∙ sym (idle_online r.id r.state r.complete idle)
      | inr busy ↦ access_is (with_mappings b maps).tables v r after.tables.mappings after.one_busy (ended.stays busy) (sym e) busy
    ]

told_first : (v : Volume) (xs ys : List LaneVolume) (a c : Access) → a ≡ c → xs ≡ ys → (let x : LaneVolume = record { volume = v.id; kind = v.kind; access = a } in let y : LaneVolume = record { volume = v.id; kind = v.kind; access = c } in (x ∷ xs) ≡ (y ∷ ys))
told_first v xs ys a c e f = λ k. record { volume = v.id; kind = v.kind; access = e k } ∷ f k

told_by : (t u : Tables) (target : VolId) (access : Access) (vols : List Volume) →
    ((v : VolId) → v.0 ≡ target.0 → access_in u v ≡ access) → ((v : VolId) → v.0 ≢ target.0 → access_in u v ≡ access_in t v) →
    map (λ (v : LaneVolume). cond (v.volume.0 == target.0) (record v { access = access }) v) (map (volume_told t) vols) ≡ map (volume_told u) vols
told_by t u target access [] own other = refl
told_by t u target access (v ∷ vs) own other =
    elim (cases_eq v.id.0 target.0) [
      | inl e ↦
          ap (λ b. cond b (record (volume_told t v) { access = access }) (volume_told t v) ∷ map (λ (x : LaneVolume). cond (x.volume.0 == target.0) (record x { access = access }) x) (map (volume_told t) vs)) (eq-eqb v.id.0 target.0 e)
          ∙ told_first v (map (λ (x : LaneVolume). cond (x.volume.0 == target.0) (record x { access = access }) x) (map (volume_told t) vs)) (map (volume_told u) vs) access (access_in u v.id) (sym (own v.id e)) (told_by t u target access vs own other)
      | inr ne ↦
          ap (λ b. cond b (record (volume_told t v) { access = access }) (volume_told t v) ∷ map (λ (x : LaneVolume). cond (x.volume.0 == target.0) (record x { access = access }) x) (map (volume_told t) vs)) (ne_eqb v.id.0 target.0 ne)
          ∙ told_first v (map (λ (x : LaneVolume). cond (x.volume.0 == target.0) (record x { access = access }) x) (map (volume_told t) vs)) (map (volume_told u) vs) (access_in t v.id) (access_in u v.id) (sym (other v.id ne)) (told_by t u target access vs own other)
    ]

-- ---- a row is set

set_ended : (b : Books) (old r : Mapping) → Follows b old r → Ended b.tables.mappings (set_rows r b.tables.mappings) r
set_ended b old r f =
    record {
      from = λ y found. set_from r y b.tables.mappings found;
      others = λ m found ne. set_others r m b.tables.mappings found ne;
      stays = λ busy. set_in r old b.tables.mappings f.found (same_id b old r f);
    }

ids_ended : (b : Books) (maps : List Mapping) (old r : Mapping) → Follows b old r → Ended b.tables.mappings maps r → (m : Mapping) → Contains maps m → (n : Mapping) × Contains b.tables.mappings n × (n.id.0 ≡ m.id.0)
ids_ended b maps old r f ended m found =
    elim (ended.from m found) [
      | inl e ↦ (old, f.found, sym (same_id b old r f) ∙ ap (λ (x : Mapping). x.id.0) (sym e))
      | inr there ↦ (m, there.0, refl)
    ]

-- the new row tells the same of the mapping
same_row : (b : Books) (old r m : Mapping) → Rows b → Follows b old r → Contains b.tables.mappings m → m.id.0 ≡ r.id.0 → IsSame m r
same_row b old r m rows f found e =
    let same : m ≡ old = one_mapping b.tables.mappings m old rows.tables.mappings found f.found (e ∙ same_id b old r f) in
    subst (λ (x : Mapping). IsSame x r) (sym same)
    (record { id = same_id b old r f; source = ap (λ (v : VolId). v.0) f.source; target = ap (λ (v : VolId). v.0) f.target; incremental = f.incremental })

-- A mapping comes to a state: what is left of it.
pub record EndsWell (b c : Books) (r : Mapping) : Type 0 where
  pub rows : Rows c
  pub ended : Ended b.tables.mappings c.tables.mappings r

pub comes_step : (b : Books) (old m : Mapping) (state : MapState) → Rows b → Follows b old (in_state state m) → TableStep b (comes_to state m).events (comes_to state m).changes
comes_step b old m state rows f =
    let r : Mapping = in_state state m in
    let maps = set_rows r b.tables.mappings in
    let ended = set_ended b old r f in
    let after = rows_from b maps old r rows f ended (set_ordered r old b.tables.mappings rows.tables.mappings f.found (same_id b old r f) f.name) in
    record {
      calm = (tt, tt);
      gone = (tt, tt);
      ids = ids_ended b maps old r f ended;
      stay = λ x found. elim (cases_eq x.id.0 r.id.0) [
        | inl same ↦ inl (r, set_in r old b.tables.mappings f.found (same_id b old r f), same_row b old r x rows f found same)
        | inr other ↦ inl (x, ended.others x found other, same_itself x)
      ];
      fit_changes = (ap (option_map (λ (x : Mapping). x.name)) (row_found b.tables.mappings old r.id rows.tables.mappings f.found (same_id b old r f)) ∙ ap Some (sym f.name), tt);
      volumes = told_by b.tables (with_mappings b maps).tables r.target (access_of r.id r.state r.complete) b.tables.volumes
          (λ v e. own_access b maps old r v rows f ended after e)
          (λ v ne. ap access_by (find_set (decides v) r b.tables.mappings (not_decides v r (λ q. ne (sym q))) (old_others b old r v rows f ne)));
      same_volumes = refl;
      next_volume = refl;
      next_mapping = refl;
      next_group = refl;
      fewer = (let e : length maps ≡ length b.tables.mappings = length-map b.tables.mappings (λ (x : Mapping). cond (r.id.0 == x.id.0) r x) in omega arith);
    }

pub comes_well : (b : Books) (old m : Mapping) (state : MapState) → Rows b → Follows b old (in_state state m) → EndsWell b (tabled b (comes_to state m).changes) (in_state state m)
comes_well b old m state rows f =
    let r : Mapping = in_state state m in
    let maps = set_rows r b.tables.mappings in
    let ended = set_ended b old r f in
    record { rows = rows_from b maps old r rows f ended (set_ordered r old b.tables.mappings rows.tables.mappings f.found (same_id b old r f) f.name); ended = ended }

-- ---- a row is removed

drop_ended : (b : Books) (r : Mapping) → is_idle r.state ≡ true → Ended b.tables.mappings (drop_rows r.id b.tables.mappings) r
drop_ended b r idle =
    record {
      from = λ y found. inr (drop_from r.id y b.tables.mappings found);
      others = λ m found ne. drop_others r.id m b.tables.mappings found ne;
      stays = λ busy. absurd (both_ways (is_idle r.state) busy idle);
    }

pub goes_step : (b : Books) (old m : Mapping) (state : MapState) → Rows b → Follows b old (in_state state m) → is_idle state ≡ true → TableStep b (goes_from state m).events (goes_from state m).changes
goes_step b old m state rows f idle =
    let r : Mapping = in_state state m in
    let maps = drop_rows r.id b.tables.mappings in
    let ended = drop_ended b r idle in
    let after = rows_from b maps old r rows f ended (drop_ordered r.id b.tables.mappings rows.tables.mappings) in
    record {
      calm = (tt, (tt, tt));
      gone = (tt, ((λ n found e. (drop_from r.id n b.tables.mappings found).1 e), tt));
      ids = ids_ended b maps old r f ended;
      stay = λ x found. elim (cases_eq x.id.0 r.id.0) [ inl same ↦ inr (inr (inl (sym same))) | inr other ↦ inl (x, ended.others x found other, same_itself x) ];
      fit_changes = (ap is_some (row_found b.tables.mappings old r.id rows.tables.mappings f.found (same_id b old r f)), tt);
      volumes = told_by b.tables (with_mappings b maps).tables r.target (access_of r.id r.state r.complete) b.tables.volumes
          (λ v e. own_access b maps old r v rows f ended after e)
          (λ v ne. ap access_by (find_drop (decides v) r.id b.tables.mappings (old_others b old r v rows f ne)));
      same_volumes = refl;
      next_volume = refl;
      next_mapping = refl;
      next_group = refl;
      fewer = drop_count r.id b.tables.mappings;
    }

pub goes_well : (b : Books) (old m : Mapping) (state : MapState) → Rows b → Follows b old (in_state state m) → is_idle state ≡ true → EndsWell b (tabled b (goes_from state m).changes) (in_state state m)
goes_well b old m state rows f idle =
    let r : Mapping = in_state state m in
    let maps = drop_rows r.id b.tables.mappings in
    let ended = drop_ended b r idle in
    record { rows = rows_from b maps old r rows f ended (drop_ordered r.id b.tables.mappings rows.tables.mappings); ended = ended }

-- ---- either

-- A mapping ends in a state.
pub record Ends (b : Books) (m : Mapping) (state : MapState) : Type 0 where
  pub step : TableStep b (ends_in state m).events (ends_in state m).changes
  pub well : EndsWell b (tabled b (ends_in state m).changes) (in_state state m)

ends_by_test : (b : Books) (old m : Mapping) (state : MapState) (goes : Bool) → (goes ≡ true → is_idle state ≡ true) → Rows b → Follows b old (in_state state m) →
    (let d = cond goes (goes_from state m) (comes_to state m) in TableStep b d.events d.changes × EndsWell b (tabled b d.changes) (in_state state m))
ends_by_test b old m state true idle rows f = (goes_step b old m state rows f (idle refl), goes_well b old m state rows f (idle refl))
ends_by_test b old m state false idle rows f = (comes_step b old m state rows f, comes_well b old m state rows f)

pub ends : (b : Books) (old m : Mapping) (state : MapState) → Rows b → Follows b old (in_state state m) → Ends b m state
ends b old m state rows f =
    let e = ends_by_test b old m state (m.autodelete && is_idle state) (λ t. (and_parts m.autodelete (is_idle state) t).1) rows f in
    record { step = e.0; well = e.1 }
