-- Plain volumes: what effects of ends cut is what slots that leave leave.
use Rattle.std.proofs.Common.{◌≡◌, ℕ, ◌≤◌, Bool, true, false, cond, ◌==◌, ◌&&◌, Option, Some, None, IsSome, List, [], ◌∷◌, ◌++◌, length, map, fold, refl, sym, ap, subst, ◌∙◌, arith, Contains, inl, inr}
use Rattle.std.specs.List.{list_all}
use Rattle.std.specs.Option.{option_map_or}
use Rattle.std.proofs.lemmas.Bool.{cases_eq, cases_Bool, eqb-true, eq-eqb, ne_eqb, leb-true}
use Rattle.fc_base.specs.RestoreGraph.{HasOneLive}
use Rattle.fc_base.specs.Sheet.{Slot, slot_at, shape_of, mapping_place}
use Rattle.fc_base.specs.SheetView.{held_of, held_at, count_true}
use Rattle.fc_base.specs.Tables.{volume_with}
use Rattle.fc_base.specs.declared.decision.LaneEvent.TheVariants.{NoteCut}
use Rattle.fc_base.specs.declared.ids.MapId.{MapId}
use Rattle.fc_base.specs.declared.ids.VolId.{VolId}
use Rattle.fc_base.specs.declared.request.Effect.{Effect}
use Rattle.fc_base.specs.declared.request.Effect.TheVariants.{Cut}
use Rattle.fc_base.specs.declared.size.GrainSize.{GrainSize}
use Rattle.fc_base.specs.declared.state.MapState.{MapState}
use Rattle.fc_base.specs.declared.state.MapState.TheVariants.{Stopped}
use Rattle.fc_base.specs.declared.volume.Mapping.{Mapping}
use Rattle.fc_base.specs.declared.volume.Volume.{Volume}
use Rattle.fc_books.specs.Accesses.{is_idle}
use Rattle.fc_books.specs.Books.{Books, Deed, nothing, all_deeds}
use Rattle.fc_books.specs.Copies.{held, total, is_whole, kept, ranges_from}
use Rattle.fc_books.specs.Ending.{goes_from, comes_to, ends_in, as_left, cut_of}
use Rattle.fc_books.specs.Stopping.{stops_with}
use Rattle.fc_entry.specs.Picture.{PlainVolume, Picture, changed_at}
use Rattle.fc_entry.specs.PlainStep.{cut_from, after_effect, after_effects}
use Rattle.fc_legal.specs.Stands.{ArePlain}
use Rattle.fc_moves.proofs.Search.{cases_option}
use Rattle.fc_pictures.proofs.Volumes.{length_cut}
use Rattle.fc_rules.specs.LaneTold.{cut_volume, cut_at, leaves}
use Rattle.fc_sheets.proofs.Finding.{LiveAt}
use Rattle.fc_decided.proofs.Counting.{all_counted}
use Rattle.fc_decided.proofs.Cutting.{cut_by_ranges, cut_whole}
use Rattle.fc_decided.proofs.Joint.{HasSeen}
use Rattle.fc_decided.proofs.Lists.{first_in, later_in, find_from}
use Rattle.fc_decided.proofs.Quiet.{Standing}
use Rattle.fc_decided.proofs.Seen.{Seen, seen, seen_slot, seen_place, seen_found, size_of, size_is}

-- ---- effects

pub effects_append : (grain : GrainSize) (picture : Picture) (es fs : List Effect) → after_effects grain picture (es ++ fs) ≡ after_effects grain (after_effects grain picture es) fs
effects_append grain picture [] fs = refl
effects_append grain picture (e ∷ es) fs = effects_append grain (after_effect grain picture e) es fs

ends_by_test : (grain : GrainSize) (picture : Picture) (state : MapState) (m : Mapping) (goes : Bool) → after_effects grain picture (cond goes (goes_from state m) (comes_to state m)).effects ≡ picture
ends_by_test grain picture state m true = refl
ends_by_test grain picture state m false = refl

-- that a mapping ends says nothing of plain volumes
pub ends_plain : (grain : GrainSize) (picture : Picture) (state : MapState) (m : Mapping) → after_effects grain picture (ends_in state m).effects ≡ picture
ends_plain grain picture state m = ends_by_test grain picture state m (m.autodelete && is_idle state)

-- ---- changes of one volume

changed_none : (id : VolId) (f : PlainVolume → PlainVolume) (picture : Picture) → ((p : PlainVolume) → f p ≡ p) → changed_at id f picture ≡ picture
changed_none id f [] same = refl
changed_none id f (p ∷ ps) same =
    elim (cases_Bool (p.volume.0 == id.0)) [
      | inl t ↦ ap (λ b. cond b (f p) p ∷ changed_at id f ps) t ∙ ap (λ z. z ∷ changed_at id f ps) (same p) ∙ ap (λ z. p ∷ z) (changed_none id f ps same)
      | inr t ↦ ap (λ b. cond b (f p) p ∷ changed_at id f ps) t ∙ ap (λ z. p ∷ z) (changed_none id f ps same)
    ]

-- two changes that agree on volumes as large as the one with the id
changed_same : (id : VolId) (f g : PlainVolume → PlainVolume) (n : ℕ) (vols : List Volume) (picture : Picture) → ((v : Volume) → Contains vols v → v.id.0 ≡ id.0 → v.grains ≡ n) →
    ((p : PlainVolume) → length p.now ≡ n → f p ≡ g p) → ArePlain vols picture → changed_at id f picture ≡ changed_at id g picture
changed_same id f g n [] [] sizes same plain = refl
changed_same id f g n [] (p ∷ ps) sizes same plain = absurd plain
changed_same id f g n (v ∷ vs) [] sizes same plain = absurd plain
changed_same id f g n (v ∷ vs) (p ∷ ps) sizes same plain =
    let rest = changed_same id f g n vs ps (λ x found e. sizes x (later_in v x vs found) e) same plain.3 in
    elim (cases_eq p.volume.0 id.0) [
      | inl e ↦
          let size : length p.now ≡ n = plain.1 ∙ sizes v (first_in v vs) (ap (λ (x : VolId). x.0) (sym plain.0) ∙ e) in
          ap (λ b. cond b (f p) p ∷ changed_at id f ps) (eq-eqb p.volume.0 id.0 e)
          ∙ ap (λ z. z ∷ changed_at id f ps) (same p size)
          ∙ ap (λ z. g p ∷ z) rest
          ∙ sym (ap (λ b. cond b (g p) p ∷ changed_at id g ps) (eq-eqb p.volume.0 id.0 e))
      | inr ne ↦
          ap (λ b. cond b (f p) p ∷ changed_at id f ps) (ne_eqb p.volume.0 id.0 ne)
          ∙ ap (λ z. p ∷ z) rest
          ∙ sym (ap (λ b. cond b (g p) p ∷ changed_at id g ps) (ne_eqb p.volume.0 id.0 ne))
    ]

cut_plain : (id : VolId) (held : List Bool) (vols : List Volume) (picture : Picture) → ArePlain vols picture → ArePlain vols (changed_at id (cut_volume held) picture)
cut_plain id held [] [] plain = tt
cut_plain id held [] (p ∷ ps) plain = absurd plain
cut_plain id held (v ∷ vs) [] plain = absurd plain
cut_plain id held (v ∷ vs) (p ∷ ps) plain = by (p.volume.0 == id.0) (cut_plain id held vs ps plain.3)
  where
    by : (b : Bool) → ArePlain vs (changed_at id (cut_volume held) ps) → ArePlain (v ∷ vs) (cond b (cut_volume held p) p ∷ changed_at id (cut_volume held) ps)
    by true rest = (plain.0, length_cut held p.now p.under ∙ plain.1, plain.2, rest)
    by false rest = (plain.0, plain.1, plain.2, rest)

-- ---- what a slot that leaves leaves

pub leaves_none : (slots : List Slot) (picture : Picture) (m : MapId) → seen slots m.0 ≡ None → leaves slots picture m ≡ picture
leaves_none slots picture m none =
    elim (cases_option (mapping_place slots m.0)) [
      | inl e ↦ ap (λ o. cut_at slots o picture) e
      | inr some ↦ absurd (let q : None ≡ Some (seen_slot (slot_at slots some.0)) = sym none ∙ seen_place slots m.0 some.0 some.1 in cc)
    ]

leaves_seen : (slots : List Slot) (picture : Picture) (m : MapId) (x : Seen) → seen slots m.0 ≡ Some x →
    leaves slots picture m ≡ cond x.is_live (changed_at (record { 0 = x.volume }) (cut_volume x.held) picture) picture
leaves_seen slots picture m x e =
    let f = seen_found slots m.0 x e in
    ap (λ o. cut_at slots o picture) f.1
    ∙ ap (λ (y : Seen). cond y.is_live (changed_at (record { 0 = y.volume }) (cut_volume y.held) picture) picture) f.2.is

pub leaves_old : (slots : List Slot) (picture : Picture) (m : MapId) (x : Seen) → seen slots m.0 ≡ Some x → x.is_live ≡ false → leaves slots picture m ≡ picture
leaves_old slots picture m x e old =
    leaves_seen slots picture m x e ∙ ap (λ b. cond b (changed_at (record { 0 = x.volume }) (cut_volume x.held) picture) picture) old

pub leaves_live : (slots : List Slot) (picture : Picture) (m : MapId) (x : Seen) → seen slots m.0 ≡ Some x → x.is_live ≡ true → leaves slots picture m ≡ changed_at (record { 0 = x.volume }) (cut_volume x.held) picture
leaves_live slots picture m x e live =
    leaves_seen slots picture m x e ∙ ap (λ b. cond b (changed_at (record { 0 = x.volume }) (cut_volume x.held) picture) picture) live

-- ---- a copying mapping

-- Its live slot is its target's, as large as it.
pub record Copies (b : Books) (m : Mapping) (x : Seen) : Type 0 where
  pub is : seen b.sheet.slots m.id.0 ≡ Some x
  pub of_target : x.volume ≡ m.target.0
  pub live : x.is_live ≡ true
  pub sizes : (v : Volume) → Contains b.tables.volumes v → v.id.0 ≡ m.target.0 → v.grains ≡ length x.held
  pub large : total b m ≡ length x.held
  pub holds : held_of b.sheet.slots m.id.0 ≡ x.held

held_seen : (slots : List Slot) (m : ℕ) (x : Seen) → seen slots m ≡ Some x → held_of slots m ≡ x.held
held_seen slots m x e = let f = seen_found slots m x e in ap (held_at slots) f.1 ∙ ap (λ (y : Seen). y.held) f.2.is

some_volume : (o : Option Volume) → IsSome o → (v : Volume) × (o ≡ Some v)
some_volume None e = absurd cc
some_volume (Some v) e = (v, refl)

pub copies : (b : Books) (pending : ℕ → Type 0) (m : Mapping) → HasOneLive (shape_of b.sheet.slots) → Standing b b.sheet.slots pending → Contains b.tables.mappings m →
    HasSeen (seen b.sheet.slots m.id.0) m.target.0 true → (x : Seen) × Copies b m x
copies b pending m one st found h =
    let slots = b.sheet.slots in
    let f = seen_found slots m.id.0 h.x h.is in
    let l : LiveAt slots m.target.0 f.0 = record {
      there = f.2.there;
      is_live = ap (λ (x : Seen). x.is_live) f.2.is ∙ h.liveness;
      of_volume = ap (λ (x : Seen). x.volume) f.2.is ∙ h.of_target;
    } in
    let size : size_of slots m.target.0 ≡ Some (length h.x.held) = size_is slots m.target.0 f.0 one l ∙ ap Some (ap (λ (x : Seen). length x.held) f.2.is) in
    let sizes = λ (v : Volume) (there : Contains b.tables.volumes v) (e : v.id.0 ≡ m.target.0). large_by slots v m.target.0 (length h.x.held) e (st.joint.volumes v there) size in
    let some = some_volume (volume_with b.tables m.target) (st.rows.of_tables m found).target in
    let v = find_from (λ (y : Volume). m.target.0 == y.id.0) b.tables.volumes some.0 some.1 in (
      h.x,
      record {
        is = h.is;
        of_target = h.of_target;
        live = h.liveness;
        sizes = sizes;
        large = ap (λ o. option_map_or (λ (y : Volume). y.grains) o 0) some.1 ∙ sizes some.0 v.0 (sym (eqb-true m.target.0 some.0.id.0 v.1));
        holds = held_seen slots m.id.0 h.x h.is;
      },
    )
  where
    large_by : (slots : List Slot) (v : Volume) (t n : ℕ) → v.id.0 ≡ t → size_of slots v.id.0 ≡ Some v.grains → size_of slots t ≡ Some n → v.grains ≡ n
    large_by slots v t n e a c = let q : Some v.grains ≡ Some n = sym a ∙ (ap (size_of slots) e ∙ c) in cc

pub whole_complete : (b : Books) (m : Mapping) (x : Seen) → Copies b m x → is_whole b m ≡ true → list_all (λ b. b) x.held ≡ true
whole_complete b m x c e =
    let le : total b m ≤ held b m = leb-true (total b m) (held b m) e in
    let n : held b m ≡ count_true x.held = ap count_true c.holds in
    all_counted x.held (omega (arith, le, n, c.large))

-- What its end cuts is what its slot leaves.
pub cut_leaves : (grain : GrainSize) (b : Books) (m : Mapping) (x : Seen) (picture : Picture) → Copies b m x → ArePlain b.tables.volumes picture →
    after_effects grain picture (cut_of b m).effects ≡ leaves b.sheet.slots picture m.id
cut_leaves grain b m x picture c plain =
    let target : m.target ≡ record { 0 = x.volume } = ap (λ (n : ℕ). let v : VolId = record { 0 = n } in v) (sym c.of_target) in
    elim (cases_Bool (is_whole b m)) [
      | inl whole ↦
          ap (λ w. after_effects grain picture (cond w nothing (cut_deed b m)).effects) whole
          ∙ sym (changed_none (record { 0 = x.volume }) (cut_volume x.held) picture (λ p. whole_volume x.held p (whole_complete b m x c whole)))
          ∙ sym (leaves_live b.sheet.slots picture m.id x c.is c.live)
      | inr part ↦
          ap (λ w. after_effects grain picture (cond w nothing (cut_deed b m)).effects) part
          ∙ ap (λ h. changed_at m.target (cut_ranges h) picture) c.holds
          ∙ changed_same m.target (cut_ranges x.held) (cut_volume x.held) (length x.held) b.tables.volumes picture c.sizes
          (λ p e. ap (λ z. record p { now = z }) (sym (cut_by_ranges x.held p.now p.under (omega (arith, e))))) plain
          ∙ ap (λ (v : VolId). changed_at v (cut_volume x.held) picture) target
          ∙ sym (leaves_live b.sheet.slots picture m.id x c.is c.live)
    ]
  where
    cut_deed : Books → Mapping → Deed
    cut_deed b m = record { effects = Cut m.target (kept b m) ∷ []; events = NoteCut m.id m.source m.target ∷ []; changes = [] }

    cut_ranges : List Bool → PlainVolume → PlainVolume
    cut_ranges h v = record v { now = cut_from (ranges_from 0 h) 0 v.now v.under }

    whole_volume : (h : List Bool) (p : PlainVolume) → list_all (λ b. b) h ≡ true → cut_volume h p ≡ p
    whole_volume h p e = ap (λ z. record p { now = z }) (cut_whole h p.now p.under e)

pub leaves_plain : (slots : List Slot) (vols : List Volume) (picture : Picture) (m : MapId) → ArePlain vols picture → ArePlain vols (leaves slots picture m)
leaves_plain slots vols picture m plain =
    elim (cases_option (seen slots m.0)) [
      | inl none ↦ subst (ArePlain vols) (sym (leaves_none slots picture m none)) plain
      | inr some ↦ elim (cases_Bool some.0.is_live) [
        | inl live ↦ subst (ArePlain vols) (sym (leaves_live slots picture m some.0 some.1 live)) (cut_plain (record { 0 = some.0.volume }) some.0.held vols picture plain)
        | inr old ↦ subst (ArePlain vols) (sym (leaves_old slots picture m some.0 some.1 old)) plain
      ]
    ]

-- A whole copy leaves all as it is.
pub whole_leaves : (slots : List Slot) (picture : Picture) (m : MapId) (x : Seen) → seen slots m.0 ≡ Some x → list_all (λ b. b) x.held ≡ true → leaves slots picture m ≡ picture
whole_leaves slots picture m x e whole =
    elim (cases_Bool x.is_live) [
      | inl live ↦ leaves_live slots picture m x e live ∙ changed_none (record { 0 = x.volume }) (cut_volume x.held) picture (λ p. ap (λ z. record p { now = z }) (cut_whole x.held p.now p.under whole))
      | inr old ↦ leaves_old slots picture m x e old
    ]

-- ---- mappings that are stopped with another

pub record LeavesAll (grain : GrainSize) (b : Books) (ds : List Mapping) (picture : Picture) : Type 0 where
  pub same : after_effects grain picture (all_deeds (stops_with b) ds).effects ≡ fold (leaves b.sheet.slots) picture (map (λ (d : Mapping). d.id) ds)
  pub plain : ArePlain b.tables.volumes (fold (leaves b.sheet.slots) picture (map (λ (d : Mapping). d.id) ds))

pub all_leave : (grain : GrainSize) (b : Books) (ds : List Mapping) (picture : Picture) → ((d : Mapping) → Contains ds d → (x : Seen) × Copies b d x) → ArePlain b.tables.volumes picture → LeavesAll grain b ds picture
all_leave grain b [] picture each plain = record { same = refl; plain = plain }
all_leave grain b (d ∷ ds) picture each plain =
    let c = each d (first_in d ds) in
    let cut = cut_leaves grain b d c.0 picture c.1 plain in
    let first : after_effects grain picture (stops_with b d).effects ≡ leaves b.sheet.slots picture d.id =
    effects_append grain picture (cut_of b d).effects (ends_in Stopped (as_left b d)).effects
    ∙ ends_plain grain (after_effects grain picture (cut_of b d).effects) Stopped (as_left b d)
    ∙ cut in
    let rest = all_leave grain b ds (leaves b.sheet.slots picture d.id) (λ y found. each y (later_in d y ds found)) (leaves_plain b.sheet.slots b.tables.volumes picture d.id plain) in
    record {
      same = effects_append grain picture (stops_with b d).effects (all_deeds (stops_with b) ds).effects
          ∙ ap (λ z. after_effects grain z (all_deeds (stops_with b) ds).effects) first
          ∙ rest.same;
      plain = rest.plain;
    }
