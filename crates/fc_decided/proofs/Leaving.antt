-- What is seen of mappings' slots and of volumes after a slot leaves its chain: by detach, drop, retire, split and force.
use Rattle.std.proofs.Common.{◌≡◌, ◌≢◌, ℕ, ◌<◌, true, false, cond, Option, Some, None, List, [], ◌∷◌, length, remove, set, fold, refl, sym, ap, subst, ◌∙◌, arith, ◌⊎◌, inl, inr}
use Rattle.std.proofs.lemmas.Bool.{both_ways, cases_eq, cases_Bool}
use Rattle.fc_base.specs.Sheet.{Slot, Sheet, slot_at, shape_of, mapping_place}
use Rattle.fc_base.specs.SheetFacts.{HasMappings}
use Rattle.fc_base.specs.SheetStep.{without, at_place, retired_at, detached_at, forced_at, forced_map}
use Rattle.fc_base.specs.RestoreGraph.{HasOneLive}
use Rattle.fc_base.specs.declared.ids.MapId.{MapId}
use Rattle.fc_moves.proofs.Search.{cases_option}
use Rattle.fc_sheets.proofs.Places.{Removed, up, up_in, removed_at, remove_is, push_is, push_here}
use Rattle.fc_sheets.proofs.Removing.{mappings_small, one_live_small}
use Rattle.fc_sheets.proofs.Aging.{age, aged_is, aged_here, aged_other, mappings_aged, one_live_aged, alone, with_alone, length_full, mappings_alone, one_live_alone}
use Rattle.fc_sheets.proofs.Finding.{LiveAt, mapping_place_at, mapping_place_none}
use Rattle.fc_sheets.proofs.Steps.{Only, without_no_live, aged_no_live}
use Rattle.fc_sheets.proofs.Forcing.{Among}
use Rattle.fc_decided.proofs.Seen.{seen, seen_slot, seen_none, seen_is, none_seen, no_place, same_seen, seen_small, seen_big, unseen_small, size_of, size_is, size_small, same_size}

-- Of two lists of slots: those of some mappings went, all others and the sizes of all volumes are as they were.
pub record Left (old new : List Slot) (gone : ℕ → Type 0) : Type 0 where
  pub maps : HasMappings new
  pub one : HasOneLive (shape_of new)
  pub stays : (n : ℕ) → (gone n → ⊥) → seen new n ≡ seen old n
  pub went : (n : ℕ) → gone n → seen new n ≡ None
  pub fewer : (n : ℕ) → seen old n ≡ None → seen new n ≡ None
  pub sizes : (v : ℕ) → size_of new v ≡ size_of old v

abbrev pub OfSlot : List Slot → ℕ → ℕ → Type 0
OfSlot slots p n = (slot_at slots p).mapping ≡ Some n

pub left_same : (old new : List Slot) (g h : ℕ → Type 0) → ((n : ℕ) → g n → h n) → ((n : ℕ) → h n → g n) → Left old new g → Left old new h
left_same old new g h there back l =
    record { maps = l.maps; one = l.one; stays = λ n no. l.stays n (λ y. no (there n y)); went = λ n y. l.went n (back n y); fewer = l.fewer; sizes = l.sizes }

pub left_none : (slots : List Slot) (g : ℕ → Type 0) → HasMappings slots → HasOneLive (shape_of slots) → ((n : ℕ) → g n → seen slots n ≡ None) → Left slots slots g
left_none slots g maps one none =
    record { maps = maps; one = one; stays = λ n no. refl; went = none; fewer = λ n e. e; sizes = λ v. refl }

pub left_then : (old mid new : List Slot) (g h : ℕ → Type 0) → Left old mid g → Left mid new h → Left old new (λ n. g n ⊎ h n)
left_then old mid new g h a b =
    record {
      maps = b.maps;
      one = b.one;
      stays = λ n no. b.stays n (λ y. no (inr y)) ∙ a.stays n (λ y. no (inl y));
      went = λ n y. elim y [ inl x ↦ b.fewer n (a.went n x) | inr x ↦ b.went n x ];
      fewer = λ n e. b.fewer n (a.fewer n e);
      sizes = λ v. b.sizes v ∙ a.sizes v;
    }

-- ---- an old slot is taken out

small_fewer : (big small : List Slot) (p n : ℕ) → Removed big small p → seen big n ≡ None → seen small n ≡ None
small_fewer big small p n r e =
    none_seen small n (λ j jl q. mapping_place_none big n (no_place big n e) (up p j) (up_in big small p r j jl) (ap (λ (t : Slot). t.mapping) (sym (removed_at big small p r j)) ∙ q))

pub old_left : (slots : List Slot) (p : ℕ) → HasMappings slots → HasOneLive (shape_of slots) → p < length slots → (slot_at slots p).is_live ≡ false → Left slots (remove slots p) (OfSlot slots p)
old_left slots p maps one pl old =
    let small : List Slot = remove slots p in
    let r = remove_is slots p pl in
    let few : HasMappings small = mappings_small slots small p r maps in
    let lone : HasOneLive (shape_of small) = one_live_small slots small p r one in
    record {
      maps = few;
      one = lone;
      stays = λ n no. seen_small slots small p n r few no;
      went = λ n y. unseen_small slots small p n r maps y;
      fewer = λ n e. small_fewer slots small p n r e;
      sizes = λ v. size_small slots small p v r lone (λ l e. both_ways _ old l);
    }

-- ---- a volume gets a chain of its own

not_mine : (slots : List Slot) (b v grains n : ℕ) → (slot_at (with_alone slots b v grains) (length slots)).mapping ≡ Some n → ⊥
not_mine slots b v grains n e = let q : None ≡ Some n = sym (ap (λ (t : Slot). t.mapping) (push_here slots (alone b v grains))) ∙ e in cc

alone_seen : (slots : List Slot) (b v grains n : ℕ) → HasMappings slots → seen (with_alone slots b v grains) n ≡ seen slots n
alone_seen slots b v grains n maps =
    seen_big (with_alone slots b v grains) slots (length slots) n (push_is slots (alone b v grains)) maps (not_mine slots b v grains n)

alone_size : (slots : List Slot) (b v grains : ℕ) → HasOneLive (shape_of (with_alone slots b v grains)) → size_of (with_alone slots b v grains) v ≡ Some grains
alone_size slots b v grains one =
    let new : List Slot = with_alone slots b v grains in
    let h : slot_at new (length slots) ≡ alone b v grains = push_here slots (alone b v grains) in
    let l : LiveAt new v (length slots) = record {
      there = (push_is slots (alone b v grains)).there;
      is_live = ap (λ (t : Slot). t.is_live) h;
      of_volume = ap (λ (t : Slot). t.volume) h;
    } in
    size_is new v (length slots) one l ∙ ap Some (ap (λ (t : Slot). length t.held) h ∙ length_full grains true)

alone_others : (slots : List Slot) (b v grains w : ℕ) → HasOneLive (shape_of slots) → w ≢ v → size_of (with_alone slots b v grains) w ≡ size_of slots w
alone_others slots b v grains w one ne =
    sym (size_small (with_alone slots b v grains) slots (length slots) w (push_is slots (alone b v grains)) one
    (λ l e. ne (sym e ∙ ap (λ (t : Slot). t.volume) (push_here slots (alone b v grains)))))

-- ---- a live slot is taken out

pub live_left : (b : ℕ) (slots : List Slot) (p : ℕ) → HasMappings slots → HasOneLive (shape_of slots) → p < length slots → (slot_at slots p).is_live ≡ true →
    Left slots (with_alone (remove slots p) b (slot_at slots p).volume (length (slot_at slots p).held)) (OfSlot slots p)
live_left b slots p maps one pl live =
    let t : Slot = slot_at slots p in
    let small : List Slot = remove slots p in
    let new : List Slot = with_alone small b t.volume (length t.held) in
    let r = remove_is slots p pl in
    let few : HasMappings small = mappings_small slots small p r maps in
    let lone : HasOneLive (shape_of small) = one_live_small slots small p r one in
    let single : HasOneLive (shape_of new) = one_live_alone b small t.volume (length t.held) lone (without_no_live slots p pl live one) in
    record {
      maps = mappings_alone b small t.volume (length t.held) few;
      one = single;
      stays = λ n no. alone_seen small b t.volume (length t.held) n few ∙ seen_small slots small p n r few no;
      went = λ n y. alone_seen small b t.volume (length t.held) n few ∙ unseen_small slots small p n r maps y;
      fewer = λ n e. alone_seen small b t.volume (length t.held) n few ∙ small_fewer slots small p n r e;
      sizes = λ v. elim (cases_eq v t.volume) [
        | inl same ↦ ap (size_of new) same
            ∙ alone_size small b t.volume (length t.held) single
            ∙ sym (size_is slots v p one (record { there = pl; is_live = live; of_volume = sym same }))
        | inr ne ↦ alone_others small b t.volume (length t.held) v lone ne
            ∙ size_small slots small p v r lone (λ l e. ne (sym e))
      ];
    }

-- ---- by the mapping

of_slot_there : (slots : List Slot) (p m n : ℕ) → (slot_at slots p).mapping ≡ Some m → OfSlot slots p n → Only m n
of_slot_there slots p m n e q = let f : Some n ≡ Some m = sym q ∙ e in cc

of_slot_back : (slots : List Slot) (p m n : ℕ) → (slot_at slots p).mapping ≡ Some m → Only m n → OfSlot slots p n
of_slot_back slots p m n e q = e ∙ ap Some (sym q)

pub by_mapping : (old new : List Slot) (p m : ℕ) → (slot_at old p).mapping ≡ Some m → Left old new (OfSlot old p) → Left old new (Only m)
by_mapping old new p m e l = left_same old new (OfSlot old p) (Only m) (λ n q. of_slot_there old p m n e q) (λ n q. of_slot_back old p m n e q) l

pub detached_left : (s : Sheet) (p m : ℕ) → HasMappings s.slots → HasOneLive (shape_of s.slots) → p < length s.slots → (slot_at s.slots p).is_live ≡ true → (slot_at s.slots p).mapping ≡ Some m →
    Left s.slots (detached_at p s).slots (Only m)
detached_left s p m maps one pl live e = by_mapping s.slots (detached_at p s).slots p m e (live_left s.births s.slots p maps one pl live)

-- ---- retire

aged_seen : (slots : List Slot) (p n : ℕ) → HasMappings slots → p < length slots → ((slot_at slots p).mapping ≡ Some n → ⊥) → seen (set slots p (age (slot_at slots p))) n ≡ seen slots n
aged_seen slots p n maps pl other =
    let new : List Slot = set slots p (age (slot_at slots p)) in
    let a = aged_is slots p pl in
    let c : length new ≡ length slots = a.count in
    same_seen slots new n (mappings_aged slots new a maps)
    (λ k kl e. (k, record { there = omega arith; of_mapping = a.mapping k ∙ e; is = ap seen_slot (aged_other slots p k pl (λ q. other (ap (λ z. (slot_at slots z).mapping) (sym q) ∙ e))) }))
    (λ j jl e. (j, omega arith, sym (a.mapping j) ∙ e))

aged_self : (slots : List Slot) (p m : ℕ) → HasMappings slots → p < length slots → (slot_at slots p).mapping ≡ Some m → seen (set slots p (age (slot_at slots p))) m ≡ Some (seen_slot (age (slot_at slots p)))
aged_self slots p m maps pl e =
    let new : List Slot = set slots p (age (slot_at slots p)) in
    let a = aged_is slots p pl in
    let c : length new ≡ length slots = a.count in
    seen_is new m (seen_slot (age (slot_at slots p))) p (mappings_aged slots new a maps) (record { there = omega arith; of_mapping = a.mapping p ∙ e; is = aged_slot slots p pl })
  where
    aged_slot : (slots : List Slot) (p : ℕ) → p < length slots → seen_slot (slot_at (set slots p (age (slot_at slots p))) p) ≡ seen_slot (age (slot_at slots p))
    aged_slot slots p pl =
        let new : List Slot = set slots p (age (slot_at slots p)) in
        let a = aged_is slots p pl in
        ap (λ x. record { birth = x; volume = (slot_at new p).volume; is_live = (slot_at new p).is_live; held = (slot_at new p).held }) (a.birth p)
        ∙ ap (λ x. record { birth = (slot_at slots p).birth; volume = x; is_live = (slot_at new p).is_live; held = (slot_at new p).held }) (a.volume p)
        ∙ ap (λ x. record { birth = (slot_at slots p).birth; volume = (slot_at slots p).volume; is_live = x; held = (slot_at new p).held }) (aged_here slots p pl)
        ∙ ap (λ x. record { birth = (slot_at slots p).birth; volume = (slot_at slots p).volume; is_live = false; held = x }) (a.held p)

aged_size : (slots : List Slot) (p v : ℕ) → HasOneLive (shape_of slots) → p < length slots → v ≢ (slot_at slots p).volume → size_of (set slots p (age (slot_at slots p))) v ≡ size_of slots v
aged_size slots p v one pl ne =
    let new : List Slot = set slots p (age (slot_at slots p)) in
    let a = aged_is slots p pl in
    let c : length new ≡ length slots = a.count in
    same_size slots new v (one_live_aged slots new a one)
    (λ k l. let kl : k < length slots = l.there in
    (k, record { there = omega arith; is_live = ap (λ (t : Slot). t.is_live) (aged_other slots p k pl (λ q. ne (sym l.of_volume ∙ ap (λ z. (slot_at slots z).volume) q))) ∙ l.is_live; of_volume = a.volume k ∙ l.of_volume }, ap length (a.held k)))
    (λ j l. let jl : j < length new = l.there in
    (j, record { there = omega arith; is_live = a.live j l.is_live; of_volume = sym (a.volume j) ∙ l.of_volume }))

-- The slot became old; all others and all sizes are as they were.
pub record Retired (old new : List Slot) (m p : ℕ) : Type 0 where
  pub stays : (n : ℕ) → n ≢ m → seen new n ≡ seen old n
  pub aged : seen new m ≡ Some (seen_slot (age (slot_at old p)))
  pub sizes : (v : ℕ) → size_of new v ≡ size_of old v

pub retired_seen : (s : Sheet) (p m : ℕ) → HasMappings s.slots → HasOneLive (shape_of s.slots) → p < length s.slots → (slot_at s.slots p).is_live ≡ true → (slot_at s.slots p).mapping ≡ Some m →
    Retired s.slots (retired_at p s).slots m p
retired_seen s p m maps one pl live e =
    let t : Slot = slot_at s.slots p in
    let mid : List Slot = set s.slots p (age t) in
    let new : List Slot = with_alone mid s.births t.volume (length t.held) in
    let a = aged_is s.slots p pl in
    let few : HasMappings mid = mappings_aged s.slots mid a maps in
    let lone : HasOneLive (shape_of mid) = one_live_aged s.slots mid a one in
    let single : HasOneLive (shape_of new) = one_live_alone s.births mid t.volume (length t.held) lone (aged_no_live s.slots p pl live one) in
    record {
      stays = λ n ne. alone_seen mid s.births t.volume (length t.held) n few
          ∙ aged_seen s.slots p n maps pl (λ q. ne (let f : Some n ≡ Some m = sym q ∙ e in cc));
      aged = alone_seen mid s.births t.volume (length t.held) m few ∙ aged_self s.slots p m maps pl e;
      sizes = λ v. elim (cases_eq v t.volume) [
        | inl same ↦ ap (size_of new) same
            ∙ alone_size mid s.births t.volume (length t.held) single
            ∙ sym (size_is s.slots v p one (record { there = pl; is_live = live; of_volume = sym same }))
        | inr ne ↦ alone_others mid s.births t.volume (length t.held) v lone ne ∙ aged_size s.slots p v one pl ne
      ];
    }

-- ---- force

forced_one : (s : Sheet) (m : MapId) → HasMappings s.slots → HasOneLive (shape_of s.slots) → Left s.slots (forced_map s m).slots (Only m.0)
forced_one s m maps one =
    elim (cases_option (mapping_place s.slots m.0)) [
      | inl none ↦ subst (λ (o : Option ℕ). Left s.slots (at_place forced_at o s).slots (Only m.0)) (sym none)
          (left_none s.slots (Only m.0) maps one (λ n q. ap (seen s.slots) q ∙ seen_none s.slots m.0 none))
      | inr some ↦ subst (λ (o : Option ℕ). Left s.slots (at_place forced_at o s).slots (Only m.0)) (sym some.1)
          (let p = mapping_place_at s.slots m.0 some.0 some.1 in at_slot s some.0 m.0 maps one p.0 p.1)
    ]
  where
    at_slot : (s : Sheet) (p m : ℕ) → HasMappings s.slots → HasOneLive (shape_of s.slots) → p < length s.slots → (slot_at s.slots p).mapping ≡ Some m → Left s.slots (forced_at p s).slots (Only m)
    at_slot s p m maps one pl e =
        elim (cases_Bool (slot_at s.slots p).is_live) [
          | inl l ↦ let q : forced_at p s ≡ detached_at p s = ap (λ z. cond z (detached_at p s) (without p s)) l in
              subst (λ (z : Sheet). Left s.slots z.slots (Only m)) (sym q) (detached_left s p m maps one pl l e)
          | inr o ↦ let q : forced_at p s ≡ without p s = ap (λ z. cond z (detached_at p s) (without p s)) o in
              subst (λ (z : Sheet). Left s.slots z.slots (Only m)) (sym q) (by_mapping s.slots (remove s.slots p) p m e (old_left s.slots p maps one pl o))
        ]

pub forced_left : (ns : List MapId) (s : Sheet) → HasMappings s.slots → HasOneLive (shape_of s.slots) → Left s.slots (fold forced_map s ns).slots (Among ns)
forced_left [] s maps one = left_none s.slots (Among []) maps one (λ n y. absurd y)
forced_left (n ∷ ns) s maps one =
    let first = forced_one s n maps one in
    left_then s.slots (forced_map s n).slots (fold forced_map (forced_map s n) ns).slots (Only n.0) (Among ns) first (forced_left ns (forced_map s n) first.maps first.one)
