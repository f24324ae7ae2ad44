-- A volume comes.
use Rattle.std.proofs.Common.{◌≡◌, ◌≢◌, ℕ, ◌+◌, ◌*◌, ◌/◌, ◌%◌, ◌<◌, ◌≤◌, ◌^◌, Bool, true, false, not, ◌||◌, List, [], ◌∷◌, ◌++◌, length, map, replicate, Option, Some, None, refl, sym, ap, subst, ◌∙◌, arith, Contains, inl, inr, All, length-append}
use Rattle.std.specs.Prelude.{◌==◌, nat_le, nat_lt, find, IsSome}
use Rattle.std.specs.Option.{ForSome}
use Rattle.std.proofs.lemmas.Bool.Decides.{nat_tests}
use Rattle.std.proofs.lemmas.List.{map-append, length-replicate}
use Rattle.std.proofs.lemmas.List.Elements.{All-push, All-weaker, All-contains, All-map, Contains-push, Contains-push_cases}
use Rattle.fc_base.specs.Grain.{grain_bytes}
use Rattle.fc_base.specs.Pools.{Pool, of_kind}
use Rattle.fc_base.specs.Sheet.{Slot, Sheet, slot_at, live_place}
use Rattle.fc_base.specs.SheetFacts.{IsSound}
use Rattle.fc_base.specs.SheetStep.{made}
use Rattle.fc_base.specs.Tables.{Tables, volume_with, volume_named, after_change}
use Rattle.fc_base.specs.declared.command.Unit.{Unit as SizeUnit}
use Rattle.fc_base.specs.declared.decision.LaneEvent.TheVariants.{Make}
use Rattle.fc_base.specs.declared.fault.Kind.TheVariants.{Vdisk}
use Rattle.fc_base.specs.declared.fault.Refusal.{Refusal}
use Rattle.fc_base.specs.declared.fault.Refusal.TheVariants.{BadValue, Limit, NoDisk}
use Rattle.fc_base.specs.declared.fault.ValueOf.TheVariants.{Size}
use Rattle.fc_base.specs.declared.ids.VolId.{VolId}
use Rattle.fc_base.specs.declared.name.Ref.TheVariants.{Name}
use Rattle.fc_base.specs.declared.size.GrainSize.{GrainSize}
use Rattle.fc_base.specs.declared.state.Access.TheVariants.{Online}
use Rattle.fc_base.specs.declared.volume.Change.TheVariants.{AddVolume}
use Rattle.fc_base.specs.declared.volume.Mapping.{Mapping}
use Rattle.fc_base.specs.declared.volume.Volume.{Volume}
use Rattle.fc_books.specs.Accesses.{access_in}
use Rattle.fc_books.specs.Books.{Books}
use Rattle.fc_books.specs.Making.{new_volume, make_volume}
use Rattle.fc_books.specs.Refused.{mkvdisk_refused, name_taken}
use Rattle.fc_books.specs.Sound.{AreTables, Agree, IsOfTables, HasGrains}
use Rattle.fc_entry.specs.Picture.{PlainVolume, Picture, zeros}
use Rattle.fc_entry.specs.Refused.{where_, lacks_disk, all_grains}
use Rattle.fc_entry.specs.Volumes.{unit_bytes, kind_of, volume_name}
use Rattle.fc_legal.specs.Stands.{ArePlain, Stands}
use Rattle.fc_legal.specs.Whole.{Whole, volume_told}
use Rattle.fc_rules.specs.LaneTold.{LaneVolume}
use Rattle.fc_sheets.proofs.Aging.{alone, length_full}
use Rattle.fc_sheets.proofs.Events.{made_sound}
use Rattle.fc_sheets.proofs.Finding.{live_place_at, live_place_is, mapping_place_at}
use Rattle.fc_sheets.proofs.Places.{Removed, push_is, push_here, all_of_big}
use Rattle.fc_decided.proofs.Agreeing.{some_from, volume_there, volume_from}
use Rattle.fc_legal.proofs.Events.{one_lane}
use Rattle.fc_decided.proofs.Carrying.{StaysIn, live_carried, slot_carried}
use Rattle.fc_decided.proofs.Keeping.{stay_all}
use Rattle.fc_decided.proofs.Sparing.{sparing}
use Rattle.fc_decided.proofs.Frame.{Suits, tabled, sheeted, few_births}
use Rattle.fc_decided.proofs.Lists.{find_longer, any_in, all_from}
use Rattle.fc_decided.proofs.Agreeing.{is_none}
use Rattle.fc_decided.proofs.Ordered.{push_ordered, unnamed}
use Rattle.fc_decided.proofs.Reaching.{access_online}
use Rattle.fc_decided.proofs.Unrefused.{none_of, none_where, none_taken}

-- ---- plain volumes

plain_push : (vs : List Volume) (picture : Picture) (v : Volume) (p : PlainVolume) → ArePlain vs picture → p.volume ≡ v.id → length p.now ≡ v.grains → length p.under ≡ v.grains → ArePlain (vs ++ v ∷ []) (picture ++ p ∷ [])
plain_push [] [] v p plain id now under = (id, now, under, tt)
plain_push (x ∷ xs) (q ∷ qs) v p plain id now under = (plain.0, plain.1, plain.2, plain_push xs qs v p plain.3 id now under)
plain_push [] (q ∷ qs) v p plain id now under = absurd plain
plain_push (x ∷ xs) [] v p plain id now under = absurd plain

-- what holds of a new volume
pub record CanCome (w : Whole) (v : Volume) : Type 0 where
  pub id : v.id.0 ≡ w.books.next_volume
  pub room : length w.books.tables.volumes < 512
  pub free : volume_named w.books.tables (Name v.name) ≡ None
  pub disks : All (λ (pool : Pool). 0 < of_kind v.kind pool) w.books.pools

-- a volume that was found is found among more
longer_has : (vs : List Volume) (p : Volume → Bool) (v : Volume) (grains : ℕ) → HasGrains (find p vs) grains → HasGrains (find p (vs ++ v ∷ [])) grains
longer_has vs p v grains has = by (find p vs) refl has
  where
    by : (o : Option Volume) → find p vs ≡ o → HasGrains o grains → HasGrains (find p (vs ++ v ∷ [])) grains
    by None e none = absurd none
    by (Some x) e is = subst (λ (o : Option Volume). HasGrains o grains) (sym (find_longer p vs (v ∷ []) x e)) is

module _ (grain : GrainSize) (decisions : ℕ) (w : Whole) (v : Volume) where
  new_tables : Tables
  new_tables = after_change w.books.tables (AddVolume v)

  new_sheet : Sheet
  new_sheet = made v.id.0 v.grains w.books.sheet

  new_slot : Slot
  new_slot = alone w.books.sheet.births v.id.0 v.grains

  -- no slot and no mapping speaks of it
  volume_below : AreTables w.books → (id : VolId) → IsSome (volume_with w.books.tables id) → id.0 < w.books.next_volume
  volume_below tables id some =
      let f = volume_from w.books.tables id some in
      let lt = All-contains (λ (x : Volume). x.id.0 < w.books.next_volume) w.books.tables.volumes f.0 tables.new_volume f.1 in
      let e : id.0 ≡ f.0.id.0 = f.2 in omega (arith, lt, e)

  fits_new : Stands decisions w → CanCome w v → (k : ℕ) → k < length w.books.sheet.slots → (slot_at w.books.sheet.slots k).volume ≢ v.id.0
  fits_new st can k kl e =
      let lt = volume_below st.sound.tables (record { 0 = (slot_at w.books.sheet.slots k).volume }) (st.sound.agree.slots k kl) in
      let id = can.id in omega (arith, lt, e, id)

  new_sound : Stands decisions w → CanCome w v → IsSound new_sheet
  unfolding new_sheet
  new_sound st can = made_sound w.books.sheet v.id.0 v.grains st.sound.sheet (fits_new st can)

  slots_are : Removed new_sheet.slots w.books.sheet.slots (length w.books.sheet.slots)
  unfolding new_sheet new_slot
  slots_are = push_is w.books.sheet.slots new_slot

  slot_is : slot_at new_sheet.slots (length w.books.sheet.slots) ≡ new_slot
  unfolding new_sheet new_slot
  slot_is = push_here w.books.sheet.slots (alone w.books.sheet.births v.id.0 v.grains)

  slot_stays : (k : ℕ) → k < length w.books.sheet.slots → StaysIn new_sheet.slots (slot_at w.books.sheet.slots k)
  slot_stays k kl = let c = slots_are.count in (k, omega (arith, c, kl), sym (slots_are.low k kl))

  kept_volume : (id : VolId) → IsSome (volume_with w.books.tables id) → volume_with new_tables id ≡ volume_with w.books.tables id
  unfolding new_tables
  kept_volume id some =
      let f = some_from (volume_with w.books.tables id) some in
      find_longer (λ (x : Volume). id.0 == x.id.0) w.books.tables.volumes (v ∷ []) f.0 f.1 ∙ sym f.1

  still_some : (id : VolId) → IsSome (volume_with w.books.tables id) → IsSome (volume_with new_tables id)
  still_some id some = subst (λ (o : Option Volume). IsSome o) (sym (kept_volume id some)) some

  new_of_tables : (m : Mapping) → IsOfTables w.books.tables m → IsOfTables new_tables m
  unfolding new_tables
  new_of_tables m of =
      record {
        source = still_some m.source of.source;
        target = still_some m.target of.target;
        apart = of.apart;
        as_large = λ x e. subst (λ (o : Option Volume). HasGrains o x.grains) (sym (kept_volume m.target of.target)) (of.as_large x (sym (kept_volume m.source of.source) ∙ e));
        group = of.group;
        state = of.state;
      }

  own_volume : Stands decisions w → CanCome w v → (k : ℕ) × (live_place new_sheet.slots v.id.0 ≡ Some k) × (length (slot_at new_sheet.slots k).held ≡ v.grains)
  unfolding new_slot
  own_volume st can =
      let c = slots_are.count in
      let n = length w.books.sheet.slots in (
        n,
        live_place_is new_sheet.slots v.id.0 n (new_sound st can).one_live (record {
          there = omega (arith, c);
          is_live = ap (λ (t : Slot). t.is_live) slot_is;
          of_volume = ap (λ (t : Slot). t.volume) slot_is;
        }),
        ap (λ (t : Slot). length t.held) slot_is ∙ length_full v.grains true,
      )

  new_agree : Stands decisions w → CanCome w v → Agree (sheeted w.books (Make v.id v.grains v.kind ∷ []) (AddVolume v ∷ []))
  unfolding new_sheet new_tables new_slot
  new_agree st can =
      let a = st.sound.agree in
      let sound = new_sound st can in
      let slots = w.books.sheet.slots in
      record {
        volumes = λ x found. elim (Contains-push_cases w.books.tables.volumes v x found) [
          | inl old ↦ (let r = a.volumes x old in live_carried slots new_sheet.slots x.id.0 r.0 x.grains sound.one_live r.1 r.2 (slot_stays r.0 (live_place_at slots x.id.0 r.0 r.1).there))
          | inr new ↦ subst (λ (y : Volume). (k : ℕ) × (live_place new_sheet.slots y.id.0 ≡ Some k) × (length (slot_at new_sheet.slots k).held ≡ y.grains)) new (own_volume st can)
        ];
        slots = all_of_big new_sheet.slots slots (length slots) slots_are (λ (t : Slot). IsSome (volume_with new_tables record { 0 = t.volume }))
            (subst (λ (t : Slot). IsSome (volume_with new_tables record { 0 = t.volume })) (sym slot_is) (volume_there new_tables v v.id (Contains-push w.books.tables.volumes v) refl))
            (λ i il. still_some (record { 0 = (slot_at slots i).volume }) (a.slots i il));
        owned = all_of_big new_sheet.slots slots (length slots) slots_are (λ (t : Slot). ForSome t.mapping (λ n. (m : Mapping) × Contains w.books.tables.mappings m × (m.id.0 ≡ n)))
            (λ n e. let none : None ≡ Some n = ap (λ (t : Slot). t.mapping) (sym slot_is) ∙ e in absurd cc)
            a.owned;
        mappings = λ m found. new_of_tables m (a.mappings m found);
        by_state = λ m found. slot_carried m.state slots new_sheet.slots m sound.mappings (λ k e. slot_stays k (mapping_place_at slots m.id.0 k e).0)
            (λ j jl. all_of_big new_sheet.slots slots (length slots) slots_are (λ (t : Slot). t.mapping ≡ Some m.id.0 → (i : ℕ) × (i < length slots) × ((slot_at slots i).mapping ≡ Some m.id.0))
            (λ e. let none : None ≡ Some m.id.0 = ap (λ (t : Slot). t.mapping) (sym slot_is) ∙ e in absurd cc)
            (λ i il e. (i, il, e)) j jl)
            (a.by_state m found);
        one_busy = a.one_busy;
      }

  new_orders : AreTables w.books → CanCome w v → AreTables (tabled w.books (AddVolume v ∷ []))
  new_orders tables can =
      let vs = w.books.tables.volumes in
      let id = can.id in
      let below : All (λ (x : Volume). x.id.0 < v.id.0) vs = All-weaker (λ (x : Volume). x.id.0 < w.books.next_volume) (λ (x : Volume). x.id.0 < v.id.0) (λ x lt. omega (arith, lt, id)) vs tables.new_volume in
      record {
        volumes = push_ordered (λ (x : Volume). x.id.0) (λ (x : Volume). x.name) vs v tables.volumes below (unnamed (λ (x : Volume). x.id.0) (λ (x : Volume). x.name) v.name vs can.free);
        mappings = tables.mappings;
        groups = tables.groups;
        new_volume = All-push (λ (x : Volume). x.id.0 < v.id.0 + 1) vs v (All-weaker (λ (x : Volume). x.id.0 < v.id.0) (λ (x : Volume). x.id.0 < v.id.0 + 1) (λ x lt. omega (arith, lt)) vs below) (omega arith);
        new_mapping = tables.new_mapping;
        new_group = tables.new_group;
      }

  volume_online : Stands decisions w → CanCome w v → access_in new_tables v.id ≡ Online
  unfolding new_tables
  volume_online st can =
      access_online new_tables v.id
      (λ m found e.
      let lt = volume_below st.sound.tables m.target (st.sound.agree.mappings m found).target in
      let id = can.id in absurd (omega (arith, lt, id, e)))

  pub make_volume_suits : decisions < 2 ^ 32 → Stands decisions w → CanCome w v → Suits grain decisions w (make_volume v)
  unfolding new_sheet new_tables
  make_volume_suits small st can =
      let b = w.books in
      let id = can.id in
      let n : length (b.tables.volumes ++ v ∷ []) ≡ length b.tables.volumes + 1 = length-append b.tables.volumes (v ∷ []) in
      let births : b.sheet.births + 1 ≤ (decisions + 1) * 2 ^ 20 = (let le : b.sheet.births ≤ decisions * 2 ^ 20 = st.few.births in omega (arith, le)) in
      let below : All (λ (x : Volume). x.id.0 < v.id.0) b.tables.volumes = All-weaker (λ (x : Volume). x.id.0 < b.next_volume) (λ (x : Volume). x.id.0 < v.id.0) (λ x lt. omega (arith, lt, id)) b.tables.volumes st.sound.tables.new_volume in
      record {
        fits = (fits_new st can, few_births decisions (b.sheet.births + 1) small births);
        disks = ((can.disks, All-map (λ (x : LaneVolume). x.volume.0 < v.id.0) (volume_told b.tables) b.tables.volumes below), tt);
        no_work = (tt, tt);
        gone = (tt, tt);
        fit_changes = ((below, is_none (volume_named b.tables (Name v.name)) can.free), tt);
        picture = ap (λ (k : ℕ). w.picture ++ record { volume = v.id; now = replicate k (zeros grain); under = replicate k (zeros grain) } ∷ []) (one_lane grain v.grains);
        volumes =
            ap (λ a. map (volume_told b.tables) b.tables.volumes ++ record { volume = v.id; kind = v.kind; access = a } ∷ []) (sym (volume_online st can))
            ∙ sym (map-append (volume_told new_tables) b.tables.volumes (v ∷ []));
        later = omega arith;
        tables = new_orders st.sound.tables can;
        agree = new_agree st can;
        few = record {
          volumes = (let few = st.few.volumes in omega (arith, few, id));
          mappings = omega (arith, st.few.mappings);
          groups = omega (arith, st.few.groups);
          births = births;
          at_once = st.few.at_once;
          volumes_at_once = (let room = can.room in omega (arith, n, room));
        };
        begins = sparing (tt, tt);
        keeps = record { stay = stay_all b.tables.mappings (Make v.id v.grains v.kind ∷ []); as_large = λ m found grains has. longer_has b.tables.volumes (λ (x : Volume). m.target.0 == x.id.0) v grains has };
        plain = plain_push b.tables.volumes w.picture v (record { volume = v.id; now = replicate v.grains (zeros grain); under = replicate v.grains (zeros grain) }) st.plain refl (length-replicate v.grains (zeros grain)) (length-replicate v.grains (zeros grain));
      }

-- in the stated order
abbrev pub volume_refusals : GrainSize → Books → Option (List ℕ) → ℕ → Option SizeUnit → Bool → List (Option Refusal)
volume_refusals grain b name size unit thin =
    let bytes = size * unit_bytes unit in
    where_ ((bytes == 0) || not (bytes % grain_bytes grain == 0)) (BadValue Size)
    ∷ where_ (nat_le 512 (length b.tables.volumes)) (Limit 512)
    ∷ where_ (nat_lt 8192 (all_grains b.tables.volumes + bytes / grain_bytes grain)) (Limit 8192)
    ∷ name_taken b Vdisk (volume_name name b.next_volume)
    ∷ where_ (lacks_disk (kind_of thin) b.pools) NoDisk
    ∷ []

pub can_come : (grain : GrainSize) (w : Whole) (name : Option (List ℕ)) (size : ℕ) (unit : Option SizeUnit) (thin : Bool) → mkvdisk_refused grain w.books name size unit thin ≡ None → CanCome w (new_volume grain w.books name size unit thin)
can_come grain w name size unit thin e =
    let b = w.books in
    let none = none_of (volume_refusals grain b name size unit thin) e in
    record {
      id = refl;
      room = below (length b.tables.volumes) (none_where (nat_le 512 (length b.tables.volumes)) (Limit 512) none.1.0);
      free = none_taken (λ (x : Volume). x.id.0) (volume_named b.tables (Name (volume_name name b.next_volume))) none.1.1.1.0;
      disks = all_from (λ (pool : Pool). 0 < of_kind (kind_of thin) pool) b.pools
          (λ pool found. some_disk (of_kind (kind_of thin) pool) (any_in (λ (p : Pool). of_kind (kind_of thin) p == 0) b.pools pool (none_where (lacks_disk (kind_of thin) b.pools) NoDisk none.1.1.1.1.0) found));
    }
  where
    below : (n : ℕ) → nat_le 512 n ≡ false → n < 512
    below n e = grind (arith, nat_tests)

    some_disk : (n : ℕ) → (n == 0) ≡ false → 0 < n
    some_disk n e = grind (arith, nat_tests)
