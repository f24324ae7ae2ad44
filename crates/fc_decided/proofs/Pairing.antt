-- Mappings come and go.
use Rattle.std.proofs.Common.{◌≡◌, ◌≢◌, ℕ, ◌+◌, ◌<◌, ◌≤◌, ◌^◌, Bool, true, false, cond, not, ◌&&◌, List, [], ◌∷◌, ◌++◌, length, fold, Option, Some, None, refl, sym, ap, subst, ◌∙◌, arith, Contains, ◌⊎◌, inl, inr, length-append}
use Rattle.std.specs.Prelude.{◌==◌, nat_le, filter, IsSome, count_by, option_map}
use Rattle.std.proofs.lemmas.Bool.{cases_Bool, cases_eq, eqb-true, eq-eqb, ne_eqb, both_ways, false_from_ne_true}
use Rattle.std.proofs.lemmas.Bool.Decides.{nat_tests}
use Rattle.std.proofs.lemmas.List.Elements.{All-push, All-filter, All-weaker, All-contains, Contains-append_left, Contains-push_cases}
use Rattle.std.proofs.lemmas.List.Sums.{length-filter, count_by-le-length}
use Rattle.fc_base.specs.Sheet.{Slot, mapping_place}
use Rattle.fc_base.specs.States.{next_state}
use Rattle.fc_base.specs.Tables.{Tables, volume_with, mapping_with, mapping_named, group_with, group_named, after_change}
use Rattle.fc_base.specs.declared.decision.LaneEvent.{LaneEvent}
use Rattle.fc_base.specs.declared.decision.LaneEvent.TheVariants.{Forget, Access as SetAccess}
use Rattle.fc_base.specs.declared.fault.Kind.TheVariants.{Fcmap}
use Rattle.fc_base.specs.declared.fault.Refusal.{Refusal}
use Rattle.fc_base.specs.declared.fault.Refusal.TheVariants.{Limit, BadValue, SameVolume, SizeDiffers}
use Rattle.fc_base.specs.declared.fault.ValueOf.TheVariants.{CopyRate, CleanRate}
use Rattle.fc_base.specs.declared.ids.GroupId.{GroupId}
use Rattle.fc_base.specs.declared.ids.VolId.{VolId}
use Rattle.fc_base.specs.declared.name.Ref.{Ref}
use Rattle.fc_base.specs.declared.name.Ref.TheVariants.{Name}
use Rattle.fc_base.specs.declared.size.GrainSize.{GrainSize}
use Rattle.fc_base.specs.declared.state.Access.TheVariants.{Online}
use Rattle.fc_base.specs.declared.state.MapEvent.TheVariants.{Remove, RemoveForce}
use Rattle.fc_base.specs.declared.state.MapState.{MapState}
use Rattle.fc_base.specs.declared.state.MapState.TheVariants.{Empty, IdleOrCopied, Preparing, Prepared, Copying, Stopping, Stopped}
use Rattle.fc_base.specs.declared.volume.Change.TheVariants.{AddMapping, RemoveMapping}
use Rattle.fc_base.specs.declared.volume.Group.{Group}
use Rattle.fc_base.specs.declared.volume.Mapping.{Mapping}
use Rattle.fc_base.specs.declared.volume.Volume.{Volume}
use Rattle.fc_books.specs.Accesses.{access_by, access_in, is_idle, is_stopped}
use Rattle.fc_books.specs.Books.{Books, Deed}
use Rattle.fc_base.specs.declared.request.Effect.TheVariants.{Gone}
use Rattle.fc_books.specs.Groups.{members}
use Rattle.fc_books.specs.Making.{new_mapping, make_mapping, remove_mapping, mapping_name, group_asked}
use Rattle.fc_books.specs.Refused.{of_group, of_asked, refused_by, name_taken, is_over, grain_differs, pair_taken, group_busy}
use Rattle.fc_books.specs.Sound.{AreTables, Agree, IsOfTables, SlotByState}
use Rattle.fc_entry.specs.Refused.{first_of, where_}
use Rattle.fc_legal.specs.Stands.{AreFew, Stands}
use Rattle.fc_legal.specs.Whole.{Whole, volume_told}
use Rattle.fc_sheets.proofs.Finding.{mapping_place_none, no_mapping_place}
use Rattle.fc_decided.proofs.Agreeing.{some_is, volume_there, group_there, has_grains, of_tables_same}
use Rattle.fc_decided.proofs.Keeping.{AreForgotten, Keeps, same_itself, as_large_same}
use Rattle.fc_decided.proofs.Sparing.{sparing}
use Rattle.fc_decided.proofs.Frame.{Suits, tabled, sheeted}
use Rattle.fc_decided.proofs.Lists.{find_from, find_there, find_short, find_filtered, filter_from, filter_in, map_alike}
use Rattle.fc_decided.proofs.Agreeing.{is_none}
use Rattle.fc_decided.proofs.Ordered.{push_ordered, filter_ordered, unnamed, found_by_id}
use Rattle.fc_decided.proofs.Reaching.{decides, reached, access_online, volumes_through}
use Rattle.fc_decided.proofs.Resting.{births_fit}
use Rattle.fc_decided.proofs.Setting.{AreOrdered, one_mapping}
use Rattle.fc_decided.proofs.Unrefused.{none_of, none_where, none_taken}

-- ---- a mapping comes

and_false : (b : Bool) → (b && false) ≡ false
and_false true = refl
and_false false = refl

-- the group that was asked for is one of the table
asked_there : (t : Tables) (group : Option Ref) (g : GroupId) → group_asked t group ≡ Some g → IsSome (group_with t g)
asked_there t None g e = absurd cc
asked_there t (Some r) g e = by (group_named t r) refl e
  where
    by : (o : Option Group) → group_named t r ≡ o → option_map (λ (x : Group). x.id) o ≡ Some g → IsSome (group_with t g)
    by None none e = absurd cc
    by (Some x) found e = let same : x.id ≡ g = cc in group_there t x g (find_from _ t.groups x found).0 (ap (λ (i : GroupId). i.0) (sym same))

module _ (grain : GrainSize) (decisions : ℕ) (w : Whole) (s t : Volume) (name : Option (List ℕ)) (group : Option Ref) (copy_rate clean_rate : Option ℕ) (incremental autodelete : Bool) where
  made : Mapping
  made = new_mapping w.books s t name group copy_rate clean_rate incremental autodelete

  -- what isn't so where a new mapping isn't refused
  pub record CanMake : Type 0 where
    pub source : Contains w.books.tables.volumes s
    pub target : Contains w.books.tables.volumes t
    pub apart : s.id.0 ≢ t.id.0
    pub as_large : t.grains ≡ s.grains
    pub room : length w.books.tables.mappings < 512
    pub free : mapping_named w.books.tables (Name (mapping_name name w.books.next_mapping)) ≡ None

  made_of_tables : AreTables w.books → CanMake → IsOfTables (after_change w.books.tables (AddMapping made)) made
  unfolding made
  made_of_tables tables can =
      record {
        source = volume_there w.books.tables s s.id can.source refl;
        target = volume_there w.books.tables t t.id can.target refl;
        apart = can.apart;
        as_large = λ x e.
            let is_s : volume_with w.books.tables s.id ≡ Some s = found_by_id (λ (v : Volume). v.id.0) (λ (v : Volume). v.name) w.books.tables.volumes s tables.volumes can.source in
            let is_t : volume_with w.books.tables t.id ≡ Some t = found_by_id (λ (v : Volume). v.id.0) (λ (v : Volume). v.name) w.books.tables.volumes t tables.volumes can.target in
            let same : Some s ≡ Some x = sym is_s ∙ e in
            let one : s ≡ x = cc in
            has_grains (volume_with w.books.tables t.id) t x.grains is_t (can.as_large ∙ ap (λ (v : Volume). v.grains) one);
        group = λ g e. asked_there w.books.tables group g e;
        state = λ e. absurd cc;
      }

  old_of_tables : (m : Mapping) → IsOfTables w.books.tables m → IsOfTables (after_change w.books.tables (AddMapping made)) m
  old_of_tables m of = of_tables_same w.books.tables (after_change w.books.tables (AddMapping made)) m m refl refl refl of.state of.group of

  -- no slot is the new mapping's
  made_no_slot : AreTables w.books → Agree w.books → mapping_place w.books.sheet.slots w.books.next_mapping ≡ None
  made_no_slot tables a =
      no_mapping_place w.books.sheet.slots w.books.next_mapping (λ k kl e.
      let r = a.owned k kl w.books.next_mapping e in
      let lt = All-contains (λ (m : Mapping). m.id.0 < w.books.next_mapping) w.books.tables.mappings r.0 tables.new_mapping r.1 in
      let same : r.0.id.0 ≡ w.books.next_mapping = r.2 in omega (arith, lt, same))

  made_agree : AreTables w.books → CanMake → Agree w.books → Agree (sheeted w.books [] (AddMapping made ∷ []))
  unfolding made
  made_agree tables can a =
      let maps = w.books.tables.mappings in
      record {
        volumes = a.volumes;
        slots = a.slots;
        owned = λ k kl n e. let r = a.owned k kl n e in (r.0, Contains-append_left maps (made ∷ []) r.0 r.1, r.2);
        mappings = λ m found. elim (Contains-push_cases maps made m found) [
          | inl old ↦ old_of_tables m (a.mappings m old)
          | inr new ↦ subst (IsOfTables (after_change w.books.tables (AddMapping made))) new (made_of_tables tables can)
        ];
        by_state = λ m found. elim (Contains-push_cases maps made m found) [
          | inl old ↦ a.by_state m old
          | inr new ↦ subst (λ (x : Mapping). SlotByState x.state w.books.sheet.slots x) new (made_no_slot tables a)
        ];
        one_busy = λ m n found other target busy also. elim (Contains-push_cases maps made m found) [
          | inl old ↦ elim (Contains-push_cases maps made n other) [
            | inl old_too ↦ a.one_busy m n old old_too target busy also
            | inr new ↦ (let idle : true ≡ false = ap (λ (x : Mapping). is_idle x.state) new ∙ also in absurd cc)
          ]
          | inr new ↦ (let idle : true ≡ false = ap (λ (x : Mapping). is_idle x.state) new ∙ busy in absurd cc)
        ];
      }

  made_tables : AreTables w.books → CanMake → AreTables (tabled w.books (AddMapping made ∷ []))
  unfolding made
  made_tables tables can =
      let maps = w.books.tables.mappings in
      record {
        volumes = tables.volumes;
        mappings = push_ordered (λ (x : Mapping). x.id.0) (λ (x : Mapping). x.name) maps made tables.mappings tables.new_mapping (unnamed (λ (x : Mapping). x.id.0) (λ (x : Mapping). x.name) (mapping_name name w.books.next_mapping) maps can.free);
        groups = tables.groups;
        new_volume = tables.new_volume;
        new_mapping =
            All-push (λ (x : Mapping). x.id.0 < w.books.next_mapping + 1) maps made
            (All-weaker (λ (x : Mapping). x.id.0 < w.books.next_mapping) (λ (x : Mapping). x.id.0 < w.books.next_mapping + 1) (λ x lt. omega (arith, lt)) maps tables.new_mapping)
            (omega arith);
        new_group = tables.new_group;
      }

  pub make_mapping_suits : decisions < 2 ^ 32 → Stands decisions w → CanMake → Suits grain decisions w (make_mapping (new_mapping w.books s t name group copy_rate clean_rate incremental autodelete))
  unfolding made
  make_mapping_suits small st can =
      let b = w.books in
      let n : length (b.tables.mappings ++ made ∷ []) ≡ length b.tables.mappings + 1 = length-append b.tables.mappings (made ∷ []) in
      record {
        fits = births_fit b decisions small st.few;
        disks = tt;
        no_work = tt;
        gone = tt;
        fit_changes = ((st.sound.tables.new_mapping, is_none (mapping_named b.tables (Name (mapping_name name b.next_mapping))) can.free), tt);
        picture = refl;
        volumes = map_alike (volume_told b.tables) (volume_told (after_change b.tables (AddMapping made))) b.tables.volumes
            (λ v there. ap (λ (o : Option Mapping). record { volume = v.id; kind = v.kind; access = access_by o }) (sym (find_short (decides v.id) b.tables.mappings made (and_false (t.id.0 == v.id.0)))));
        later = omega arith;
        tables = made_tables st.sound.tables can;
        agree = made_agree st.sound.tables can st.sound.agree;
        few = record {
          volumes = omega (arith, st.few.volumes);
          mappings = omega (arith, st.few.mappings);
          groups = omega (arith, st.few.groups);
          births = omega (arith, st.few.births);
          at_once = (let room = can.room in omega (arith, n, room));
          volumes_at_once = st.few.volumes_at_once;
        };
        plain = st.plain;
        begins = sparing tt;
        keeps = record { stay = λ m found. inl (m, Contains-append_left w.books.tables.mappings (made ∷ []) m found, same_itself m); as_large = as_large_same w.books.tables (after_change w.books.tables (AddMapping made)) refl };
      }

  -- in the stated order
  abbrev refusals : Option GrainSize → List (Option Refusal)
  refusals grain_size =
      where_ (s.id.0 == t.id.0) SameVolume
      ∷ where_ (not (s.grains == t.grains)) (SizeDiffers s.grains t.grains)
      ∷ grain_differs grain grain_size
      ∷ pair_taken w.books s t
      ∷ of_asked (of_group w.books) group (λ g. None)
      ∷ where_ (is_over 150 copy_rate) (BadValue CopyRate)
      ∷ where_ (is_over 150 clean_rate) (BadValue CleanRate)
      ∷ where_ (nat_le 512 (length w.books.tables.mappings)) (Limit 512)
      ∷ where_ (nat_le 256 (count_by (λ (m : Mapping). m.source.0 == s.id.0) w.books.tables.mappings)) (Limit 256)
      ∷ of_asked (of_group w.books) group (λ g. where_ (nat_le 64 (length (members w.books.tables g.id))) (Limit 64))
      ∷ of_asked (of_group w.books) group (group_busy w.books)
      ∷ name_taken w.books Fcmap (mapping_name name w.books.next_mapping)
      ∷ []

  pub can_make : Option GrainSize → Contains w.books.tables.volumes s → Contains w.books.tables.volumes t → (grain_size : Option GrainSize) →
      first_of (refusals grain_size) ≡ None → CanMake
  can_make size source target grain_size e =
      let none = none_of (refusals grain_size) e in
      record {
        source = source;
        target = target;
        apart = λ same. both_ways (s.id.0 == t.id.0) (none_where (s.id.0 == t.id.0) SameVolume none.0) (eq-eqb s.id.0 t.id.0 same);
        as_large = sym (eqb-true s.grains t.grains (unnot (s.grains == t.grains) (none_where (not (s.grains == t.grains)) (SizeDiffers s.grains t.grains) none.1.0)));
        room = below (length w.books.tables.mappings) (none_where (nat_le 512 (length w.books.tables.mappings)) (Limit 512) none.1.1.1.1.1.1.1.0);
        free = none_taken (λ (m : Mapping). m.id.0) (mapping_named w.books.tables (Name (mapping_name name w.books.next_mapping))) none.1.1.1.1.1.1.1.1.1.1.1.0;
      }
    where
      unnot : (b : Bool) → not b ≡ false → b ≡ true
      unnot true e = refl
      unnot false e = absurd cc

      below : (n : ℕ) → nat_le 512 n ≡ false → n < 512
      below n e = grind (arith, nat_tests)

-- ---- a mapping goes

-- It is idle or stopped.
abbrev pub IsResting : MapState → Type 0
IsResting state = (state ≡ IdleOrCopied) ⊎ (state ≡ Stopped)

removable : (state : MapState) (force : Bool) → refused_by (next_state state (cond force RemoveForce Remove) false false) ≡ None → IsResting state
removable IdleOrCopied force e = inl refl
removable Stopped force e = inr refl
removable Empty true e = absurd cc
removable Empty false e = absurd cc
removable Preparing true e = absurd cc
removable Preparing false e = absurd cc
removable Prepared true e = absurd cc
removable Prepared false e = absurd cc
removable Copying true e = absurd cc
removable Copying false e = absurd cc
removable Stopping true e = absurd cc
removable Stopping false e = absurd cc

pub resting_no_slot : (slots : List Slot) (m : Mapping) (state : MapState) → IsResting state → SlotByState state slots m → mapping_place slots m.id.0 ≡ None
resting_no_slot slots m state (inl e) by = subst (λ (s : MapState). SlotByState s slots m) e by
resting_no_slot slots m state (inr e) by = subst (λ (s : MapState). SlotByState s slots m) e by

module _ (grain : GrainSize) (decisions : ℕ) (w : Whole) (m : Mapping) (found : Contains w.books.tables.mappings m) (resting : IsResting m.state) where
  stays : Mapping → Bool
  stays n = not (m.id.0 == n.id.0)

  left : List Mapping
  left = filter stays w.books.tables.mappings

  without_books : Books
  without_books = tabled w.books (RemoveMapping m.id ∷ [])

  other_id : (n : Mapping) → Contains left n → n.id.0 ≢ m.id.0
  unfolding left stays
  other_id n there e =
      let f = filter_from stays w.books.tables.mappings n there in
      let same : stays n ≡ false = ap not (eq-eqb m.id.0 n.id.0 (sym e)) in
      both_ways (stays n) same f.1

  other_stays : (n : Mapping) → Contains w.books.tables.mappings n → n.id.0 ≢ m.id.0 → Contains left n
  unfolding left stays
  other_stays n there other = filter_in stays w.books.tables.mappings n there (ap not (false_from_ne_true (m.id.0 == n.id.0) (λ e. other (sym (eqb-true m.id.0 n.id.0 e)))))

  was_there : (n : Mapping) → Contains left n → Contains w.books.tables.mappings n
  unfolding left stays
  was_there n there = (filter_from stays w.books.tables.mappings n there).0

  no_slot : Stands decisions w → mapping_place w.books.sheet.slots m.id.0 ≡ None
  no_slot st = resting_no_slot w.books.sheet.slots m m.state resting (st.sound.agree.by_state m found)

  removed_agree : Stands decisions w → Agree (record without_books { sheet = w.books.sheet })
  unfolding without_books left stays
  removed_agree st =
      let a = st.sound.agree in
      record {
        volumes = a.volumes;
        slots = a.slots;
        owned = λ k kl n e.
            let r = a.owned k kl n e in
            (r.0, other_stays r.0 r.1 (λ same. mapping_place_none w.books.sheet.slots m.id.0 (no_slot st) k kl (e ∙ ap Some (sym r.2 ∙ same))), r.2);
        mappings = λ n there. let of = a.mappings n (was_there n there) in of_tables_same w.books.tables without_books.tables n n refl refl refl of.state of.group of;
        by_state = λ n there. a.by_state n (was_there n there);
        one_busy = λ n o there also target busy busy_too. a.one_busy n o (was_there n there) (was_there o also) target busy busy_too;
      }

  -- what is told
  going : Bool → List LaneEvent
  going b = cond b (SetAccess m.target Online ∷ []) [] ++ Forget m.id ∷ []

  -- the others decide as they did, of a volume that this one doesn't decide
  same_access : AreOrdered w.books.tables.mappings → (v : VolId) → decides v m ≡ false → access_in without_books.tables v ≡ access_in w.books.tables v
  unfolding without_books left stays
  same_access o v undecided =
      ap access_by (find_filtered (decides v) stays w.books.tables.mappings
      (λ n there d. ap not (false_from_ne_true (m.id.0 == n.id.0) (λ e.
      both_ways (decides v m) undecided (ap (decides v) (one_mapping w.books.tables.mappings m n o found there (eqb-true m.id.0 n.id.0 e)) ∙ d)))))

  online_again : Stands decisions w → is_idle m.state ≡ false → (v : VolId) → m.target.0 ≡ v.0 → access_in without_books.tables v ≡ Online
  unfolding without_books left stays
  online_again st busy v e =
      access_online without_books.tables v
      (λ n there target. cases_idle n there target (cases_Bool (is_idle n.state)))
    where
      cases_idle : (n : Mapping) → Contains left n → n.target.0 ≡ v.0 → (is_idle n.state ≡ true) ⊎ (is_idle n.state ≡ false) → is_idle n.state ≡ true
      cases_idle n there target (inl idle) = idle
      cases_idle n there target (inr also) = absurd (other_id n there (st.sound.agree.one_busy n m (was_there n there) found (target ∙ sym e) also busy))

  not_decided : (v : VolId) → (m.target.0 == v.0) ≡ false → decides v m ≡ false
  not_decided v e = ap (λ b. b && not (is_idle m.state)) e

  turned : (x y : ℕ) → (x == y) ≡ false → (y == x) ≡ false
  turned x y e = grind (arith, nat_tests)

  accessed : Stands decisions w → (b : Bool) → is_stopped m.state ≡ b → (v : VolId) → fold (reached v) (access_in w.books.tables v) (going b) ≡ access_in without_books.tables v
  unfolding going
  accessed st true stopped v = elim (cases_Bool (v.0 == m.target.0)) [
    | inl here ↦
        ap (λ c. cond c Online (access_in w.books.tables v)) here
        ∙ sym (online_again st (busy_stopped m.state stopped) v (sym (eqb-true v.0 m.target.0 here)))
    | inr other ↦
        ap (λ c. cond c Online (access_in w.books.tables v)) other
        ∙ sym (same_access st.sound.tables.mappings v (not_decided v (turned v.0 m.target.0 other)))
  ]
    where
      busy_stopped : (state : MapState) → is_stopped state ≡ true → is_idle state ≡ false
      busy_stopped Stopped e = refl
      busy_stopped state e = absurd cc
  accessed st false running v = sym (same_access st.sound.tables.mappings v (idle_never resting))
    where
      idle_never : IsResting m.state → decides v m ≡ false
      idle_never (inl idle) = ap (λ (s : MapState). (m.target.0 == v.0) && not (is_idle s)) idle ∙ and_false (m.target.0 == v.0)
      idle_never (inr stopped) = absurd (both_ways (is_stopped m.state) running (ap is_stopped stopped))

  removed_tables : Stands decisions w → AreTables without_books
  unfolding without_books left stays
  removed_tables st =
      let t = st.sound.tables in
      record {
        volumes = t.volumes;
        mappings = filter_ordered (λ (x : Mapping). x.id.0) (λ (x : Mapping). x.name) stays w.books.tables.mappings t.mappings;
        groups = t.groups;
        new_volume = t.new_volume;
        new_mapping = All-filter stays (λ (x : Mapping). x.id.0 < w.books.next_mapping) w.books.tables.mappings t.new_mapping;
        new_group = t.new_group;
      }

  fewer : length left ≤ length w.books.tables.mappings
  unfolding left stays
  fewer = let a = length-filter stays w.books.tables.mappings in let b = count_by-le-length stays w.books.tables.mappings in omega (arith, a, b)

  mapping_there : IsSome (mapping_with w.books.tables m.id)
  mapping_there = let some = find_there (λ (n : Mapping). m.id.0 == n.id.0) w.books.tables.mappings m found (eq-eqb m.id.0 m.id.0 refl) in some_is (mapping_with w.books.tables m.id) some.0 some.1

  removed_few : Stands decisions w → AreFew (record without_books { sheet = w.books.sheet }) (decisions + 1)
  unfolding without_books left stays
  removed_few st =
      record {
        volumes = omega (arith, st.few.volumes);
        mappings = omega (arith, st.few.mappings);
        groups = omega (arith, st.few.groups);
        births = omega (arith, st.few.births);
        at_once = (let most = st.few.at_once in let less = fewer in omega (arith, most, less));
        volumes_at_once = st.few.volumes_at_once;
      }

  -- every other mapping stays
  gone_keeps : (es : List LaneEvent) → ((i : ℕ) → m.id.0 ≡ i → AreForgotten i es) → Keeps w.books.tables without_books.tables es
  unfolding without_books left stays
  gone_keeps es gone =
      record {
        stay = λ x there. elim (cases_eq m.id.0 x.id.0) [
          | inl same ↦ inr (gone x.id.0 same)
          | inr other ↦ inl (x, filter_in stays w.books.tables.mappings x there (ap not (ne_eqb m.id.0 x.id.0 other)), same_itself x)
        ];
        as_large = as_large_same w.books.tables without_books.tables refl;
      }

  abbrev gone_deed : Bool → Deed
  gone_deed b = record { effects = Gone m.id ∷ []; events = going b; changes = RemoveMapping m.id ∷ [] }

  going_suits : decisions < 2 ^ 32 → Stands decisions w → (b : Bool) → is_stopped m.state ≡ b → Suits grain decisions w (gone_deed b)
  unfolding without_books left stays going
  going_suits small st true stopped =
      record {
        fits = (tt, (no_slot st, births_fit w.books decisions small st.few));
        disks = (tt, (tt, tt));
        no_work = (tt, (tt, tt));
        gone = (tt, (other_id, tt));
        fit_changes = (mapping_there, tt);
        picture = refl;
        volumes = volumes_through w.books.tables without_books.tables (going true) (tt, (tt, tt)) refl (λ v there. accessed st true stopped v.id);
        later = omega arith;
        tables = removed_tables st;
        agree = removed_agree st;
        few = removed_few st;
        plain = st.plain;
        begins = sparing (tt, (tt, tt));
        keeps = gone_keeps (going true) (λ i e. inr (inl e));
      }
  going_suits small st false running =
      record {
        fits = (no_slot st, births_fit w.books decisions small st.few);
        disks = (tt, tt);
        no_work = (tt, tt);
        gone = (other_id, tt);
        fit_changes = (mapping_there, tt);
        picture = refl;
        volumes = volumes_through w.books.tables without_books.tables (going false) (tt, tt) refl (λ v there. accessed st false running v.id);
        later = omega arith;
        tables = removed_tables st;
        agree = removed_agree st;
        few = removed_few st;
        plain = st.plain;
        begins = sparing (tt, tt);
        keeps = gone_keeps (going false) (λ i e. inl e);
      }

  pub remove_mapping_suits : decisions < 2 ^ 32 → Stands decisions w → Suits grain decisions w (remove_mapping m)
  unfolding going
  remove_mapping_suits small st = going_suits small st (is_stopped m.state) refl

-- Where it isn't refused.
pub can_remove : (m : Mapping) (force : Bool) → refused_by (next_state m.state (cond force RemoveForce Remove) false false) ≡ None → IsResting m.state
can_remove m force e = removable m.state force e
