-- A live slot that stays, and reads at the same volumes, shows what it did.
use Rattle.std.proofs.Common.{◌≡◌, ℕ, ◌<◌, ◌≤◌, true, false, Some, IsSome, is_some, List, length, Contains, get_or, refl, sym, ap, subst, ◌∙◌, arith, inl, inr}
use Rattle.fc_base.specs.Sheet.{Slot, slot_at, column, live_place}
use Rattle.fc_entry.specs.Picture.{PlainVolume, Picture, volume_in, content_at}
use Rattle.fc_rules.specs.Shows.{Stored, Shown, Shows}
use Rattle.fc_moves.proofs.Search.{cases_option}
use Rattle.fc_moves.proofs.Readers.{IsHolder, holder_is, is_holder, holder_from, one_holder, own_holder}
use Rattle.fc_sheets.proofs.Places.{Removed, up, le_up, up_in, down, removed_at, big_at}
use Rattle.fc_sheets.proofs.Forcing.{held_exact}
use Rattle.fc_sheets.proofs.Aging.{Aged}
use Rattle.fc_sheets.proofs.Finding.{LiveAt, live_place_at, no_live_place}
use Rattle.fc_pictures.proofs.Volumes.{id_of}

-- the live slot `j` of the new list is the slot `k` of the old one, and reads at the same volumes
pub record Stays (old new : List Slot) (k j : ℕ) : Type 0 where
  pub there : k < length old
  pub is_live : (slot_at old k).is_live ≡ true
  pub volume : (slot_at new j).volume ≡ (slot_at old k).volume
  pub held : (slot_at new j).held ≡ (slot_at old k).held
  pub holder : (g h : ℕ) → IsHolder (column new g) j h → (i : ℕ) × IsHolder (column old g) k i × ((slot_at old i).volume ≡ (slot_at new h).volume)

pub stays_trans : (a b c : List Slot) (i j k : ℕ) → Stays a b i j → Stays b c j k → Stays a c i k
stays_trans a b c i j k p q =
    record {
      there = p.there;
      is_live = p.is_live;
      volume = q.volume ∙ p.volume;
      held = q.held ∙ p.held;
      holder = λ g h r. let x = q.holder g h r in let y = p.holder g x.0 x.1 in (y.0, y.1, y.2 ∙ x.2);
    }

pub stays_here : (slots : List Slot) (k : ℕ) → k < length slots → (slot_at slots k).is_live ≡ true → Stays slots slots k k
stays_here slots k kl l = record { there = kl; is_live = l; volume = refl; held = refl; holder = λ g h r. (h, r, refl) }

pub stays_shown : (old new : List Slot) (picture next : Picture) (stored : Stored) (k j : ℕ) → Stays old new k j → Shown old picture stored k →
    ((p : PlainVolume) → volume_in picture (id_of (slot_at old k).volume) ≡ Some p → volume_in next (id_of (slot_at old k).volume) ≡ Some p) → Shown new next stored j
stays_shown old new picture next stored k j t s same =
    let size : length (slot_at new j).held ≡ length (slot_at old k).held = ap length t.held in
    record {
      plain = s.plain;
      there = ap (λ z. volume_in next (id_of z)) t.volume ∙ same s.plain s.there;
      nows = s.nows ∙ sym size;
      unders = s.unders ∙ sym size;
      now = λ g h gl e. let x = t.holder g h (holder_is (column new g) j h e) in
          s.now g x.0 (omega arith) (is_holder (column old g) k x.0 x.1) ∙ ap (λ z. stored z g) x.2;
      under = λ g gl e. s.under g (omega arith) (ap (λ z. get_or z g false) (sym t.held) ∙ e) ∙ ap (λ z. stored z g) (sym t.volume);
    }

-- where the volumes of slots store the same, they show the same
pub stored_shows : (slots : List Slot) (picture : Picture) (stored after : Stored) → ((i g : ℕ) → i < length slots → after (slot_at slots i).volume g ≡ stored (slot_at slots i).volume g) →
    Shows slots picture stored → Shows slots picture after
stored_shows slots picture stored after same s =
    record {
      only = s.only;
      apart = s.apart;
      each = λ k kl l. let x = s.each k kl l in
          record {
            plain = x.plain;
            there = x.there;
            nows = x.nows;
            unders = x.unders;
            now = λ g h gl e. let b : h ≤ k = (holder_is (column slots g) k h e).before in x.now g h gl e ∙ sym (same h g (omega arith));
            under = λ g gl e. x.under g gl e ∙ sym (same k g kl);
          };
    }

-- ---- the live slot of a volume

pub place_from : (slots : List Slot) (v k : ℕ) → k < length slots → (slot_at slots k).is_live ≡ true → (slot_at slots k).volume ≡ v → IsSome (live_place slots v)
place_from slots v k kl l e =
    elim (cases_option (live_place slots v)) [
      | inl none ↦ absurd (no_live_place slots v none k kl l e)
      | inr some ↦ ap is_some some.1
    ]

pub place_to : (slots : List Slot) (v : ℕ) → IsSome (live_place slots v) → (k : ℕ) × LiveAt slots v k
place_to slots v s =
    elim (cases_option (live_place slots v)) [
      | inl none ↦ absurd (let f : is_some (live_place slots v) ≡ false = ap is_some none in let q : true ≡ false = sym s ∙ f in cc)
      | inr some ↦ (some.0, live_place_at slots v some.0 some.1)
    ]

-- each volume of the picture has a live slot, where the ids stay and each volume keeps a live slot
pub only_from : (old new : List Slot) (picture : Picture) (stored : Stored) → Shows old picture stored →
    (q : PlainVolume) → ((p : PlainVolume) × Contains picture p × (p.volume.0 ≡ q.volume.0)) →
    ((i v : ℕ) → LiveAt old v i → (j : ℕ) × LiveAt new v j) → IsSome (live_place new q.volume.0)
only_from old new picture stored s q (p, c, e) lives =
    let x = place_to old p.volume.0 (s.only p c) in
    let y = lives x.0 p.volume.0 x.1 in
    let a = y.1 in
    place_from new q.volume.0 y.0 a.there a.is_live (a.of_volume ∙ e)

-- ---- one slot taken out, put in or made old

pub removed_holder : (big small : List Slot) (p : ℕ) → Removed big small p → (g i h : ℕ) → i < length small → (IsHolder (column big g) (up p i) p → ⊥) →
    IsHolder (column small g) i h → IsHolder (column big g) (up p i) (up p h)
removed_holder big small p r g i h il free k =
    let e = removed_at big small p r i in
    let a = removed_at big small p r h in
    let x = holder_from (column big g) (up p i) (up p h) (le_up p h i k.before)
    (ap (λ (t : Slot). t.chain) (sym a) ∙ (k.one_chain ∙ ap (λ (t : Slot). t.chain) e)) (ap (λ (t : Slot). get_or t.held g false) (sym a) ∙ k.holds) in
    let inside : up p i < length big = up_in big small p r i il in
    let xl : x.0 < length big = (let b : x.0 ≤ up p i = x.2.before in omega arith) in
    elim (down big small p r x.0 xl) [
      | inl same ↦ absurd (free (subst (λ (z : ℕ). IsHolder (column big g) (up p i) z) same x.2))
      | inr y ↦ let q : y.0 ≡ h = one_holder (column small g) i y.0 h (held_exact big small p r g i y.0 (subst (λ (z : ℕ). IsHolder (column big g) (up p i) z) (sym y.2) x.2)) k in
          subst (λ (z : ℕ). IsHolder (column big g) (up p i) z) (sym y.2 ∙ ap (up p) q) x.2
    ]

pub removed_stays : (big small : List Slot) (p : ℕ) → Removed big small p → (i : ℕ) → i < length small → (slot_at small i).is_live ≡ true →
    ((g : ℕ) → IsHolder (column big g) (up p i) p → ⊥) → Stays big small (up p i) i
removed_stays big small p r i il l free =
    let e = removed_at big small p r i in
    record {
      there = up_in big small p r i il;
      is_live = ap (λ (t : Slot). t.is_live) (sym e) ∙ l;
      volume = ap (λ (t : Slot). t.volume) e;
      held = ap (λ (t : Slot). t.held) e;
      holder = λ g h k. (up p h, removed_holder big small p r g i h il (free g) k, ap (λ (t : Slot). t.volume) (sym (removed_at big small p r h)));
    }

pub added_stays : (big small : List Slot) (p : ℕ) → Removed big small p → (j : ℕ) → j < length small → (slot_at small j).is_live ≡ true →
    ((g : ℕ) → IsHolder (column big g) (up p j) p → ⊥) → Stays small big j (up p j)
added_stays big small p r j jl l free =
    let e = removed_at big small p r j in
    record {
      there = jl;
      is_live = l;
      volume = ap (λ (t : Slot). t.volume) (sym e);
      held = ap (λ (t : Slot). t.held) (sym e);
      holder = λ g h k.
          let inside : up p j < length big = up_in big small p r j jl in
          let b : h ≤ up p j = k.before in
          elim (down big small p r h (omega arith)) [
            | inl same ↦ absurd (free g (subst (λ (z : ℕ). IsHolder (column big g) (up p j) z) same k))
            | inr y ↦ (y.0, held_exact big small p r g j y.0 (subst (λ (z : ℕ). IsHolder (column big g) (up p j) z) (sym y.2) k), ap (λ (t : Slot). t.volume) (sym (big_at big small p r y.0 h y.2)))
          ];
    }

pub aged_stays : (old new : List Slot) → Aged old new → (j : ℕ) → j < length new → (slot_at new j).is_live ≡ true → Stays old new j j
aged_stays old new a j jl l =
    let c : length new ≡ length old = a.count in
    record {
      there = omega arith;
      is_live = a.live j l;
      volume = a.volume j;
      held = a.held j;
      holder = λ g h k. (
        h,
        record {
          before = k.before;
          one_chain = sym (a.chain h) ∙ (k.one_chain ∙ a.chain j);
          holds = ap (λ z. get_or z g false) (sym (a.held h)) ∙ k.holds;
          nearest = λ y hy yj q t. k.nearest y hy yj (a.chain y ∙ (q ∙ sym (a.chain j))) (ap (λ z. get_or z g false) (a.held y) ∙ t);
        },
        sym (a.volume h),
      );
    }

-- ---- a slot's own physical grain

pub record Owns (slots : List Slot) (picture : Picture) (stored : Stored) (k : ℕ) : Type 0 where
  pub plain : PlainVolume
  pub there : volume_in picture (id_of (slot_at slots k).volume) ≡ Some plain
  pub nows : length plain.now ≡ length (slot_at slots k).held
  pub unders : length plain.under ≡ length (slot_at slots k).held
  pub own : (g : ℕ) → g < length (slot_at slots k).held → get_or (slot_at slots k).held g false ≡ true → content_at plain.now g ≡ stored (slot_at slots k).volume g
  pub under : (g : ℕ) → g < length (slot_at slots k).held → get_or (slot_at slots k).held g false ≡ false → content_at plain.under g ≡ stored (slot_at slots k).volume g

pub owns_from : (slots : List Slot) (picture : Picture) (stored : Stored) (k : ℕ) → Shown slots picture stored k → Owns slots picture stored k
owns_from slots picture stored k s =
    record {
      plain = s.plain;
      there = s.there;
      nows = s.nows;
      unders = s.unders;
      own = λ g gl t. s.now g k gl (is_holder (column slots g) k k (own_holder (column slots g) k t));
      under = s.under;
    }
