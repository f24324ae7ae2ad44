-- The tables and the chains tell of the same, but for mappings whose ends are under way.
use Rattle.std.proofs.Common.{◌≡◌, ◌≢◌, ℕ, Bool, true, false, Option, Some, None, IsSome, List, length, refl, sym, ap, subst, ◌∙◌, Contains, inl, inr}
use Rattle.std.proofs.lemmas.Bool.{cases_eq, cases_Bool}
use Rattle.fc_base.specs.Sheet.{Slot, slot_at, shape_of, mapping_place}
use Rattle.fc_base.specs.SheetFacts.{IsSound}
use Rattle.fc_base.specs.RestoreGraph.{HasOneLive}
use Rattle.fc_base.specs.Tables.{Tables, volume_with}
use Rattle.fc_base.specs.declared.state.MapState.{MapState}
use Rattle.fc_base.specs.declared.state.MapState.TheVariants.{Copying, Stopping}
use Rattle.fc_base.specs.declared.volume.Mapping.{Mapping}
use Rattle.fc_base.specs.declared.volume.Volume.{Volume}
use Rattle.fc_books.specs.Accesses.{is_idle}
use Rattle.fc_books.specs.Books.{Books}
use Rattle.fc_books.specs.Sound.{HasSlot, SlotByState, Agree}
use Rattle.fc_moves.proofs.Search.{cases_option}
use Rattle.fc_sheets.proofs.Finding.{live_place_at}
use Rattle.fc_sheets.proofs.Steps.{Nobody, Only}
use Rattle.fc_decided.proofs.Ends.{Rows, Ended}
use Rattle.fc_decided.proofs.Leaving.{Left, Retired}
use Rattle.fc_decided.proofs.Seen.{Seen, seen, seen_slot, seen_place, seen_none, seen_found, seen_is, no_place, size_of, size_place, size_is, size_found}

-- ---- what is seen of a mapping in a state

pub record HasSeen (o : Option Seen) (v : ℕ) (live : Bool) : Type 0 where
  pub x : Seen
  pub is : o ≡ Some x
  pub of_target : x.volume ≡ v
  pub liveness : x.is_live ≡ live

abbrev pub StateSeen : MapState → Option Seen → ℕ → Type 0
StateSeen Copying o v = HasSeen o v true
StateSeen Stopping o v = HasSeen o v false
StateSeen state o v = o ≡ None

pub record Joint (t : Tables) (slots : List Slot) (pending : ℕ → Type 0) : Type 0 where
  pub volumes : (v : Volume) → Contains t.volumes v → size_of slots v.id.0 ≡ Some v.grains
  pub back : (v n : ℕ) → size_of slots v ≡ Some n → IsSome (volume_with t (record { 0 = v }))
  pub owned : (n : ℕ) (x : Seen) → seen slots n ≡ Some x → (m : Mapping) × Contains t.mappings m × (m.id.0 ≡ n)
  pub by_state : (m : Mapping) → Contains t.mappings m → (pending m.id.0 → ⊥) → StateSeen m.state (seen slots m.id.0) m.target.0

-- ---- from the books, and back

has_seen : (slots : List Slot) (m : Mapping) (live : Bool) → HasSlot slots m live → HasSeen (seen slots m.id.0) m.target.0 live
has_seen slots m live h =
    record { x = seen_slot (slot_at slots h.place); is = seen_place slots m.id.0 h.place h.is_there; of_target = h.of_target; liveness = h.liveness }

has_slot : (slots : List Slot) (m : Mapping) (live : Bool) → HasSeen (seen slots m.id.0) m.target.0 live → HasSlot slots m live
has_slot slots m live h =
    let f = seen_found slots m.id.0 h.x h.is in
    record {
      place = f.0;
      is_there = f.1;
      of_target = ap (λ (x : Seen). x.volume) f.2.is ∙ h.of_target;
      liveness = ap (λ (x : Seen). x.is_live) f.2.is ∙ h.liveness;
    }

state_seen : (state : MapState) (slots : List Slot) (m : Mapping) → SlotByState state slots m → StateSeen state (seen slots m.id.0) m.target.0
state_seen Copying slots m s = has_seen slots m true s
state_seen Stopping slots m s = has_seen slots m false s
state_seen state slots m s = seen_none slots m.id.0 s

state_slot : (state : MapState) (slots : List Slot) (m : Mapping) → StateSeen state (seen slots m.id.0) m.target.0 → SlotByState state slots m
state_slot Copying slots m s = has_slot slots m true s
state_slot Stopping slots m s = has_slot slots m false s
state_slot state slots m s = no_place slots m.id.0 s

pub joint_from : (b : Books) → HasOneLive (shape_of b.sheet.slots) → Agree b → Joint b.tables b.sheet.slots Nobody
joint_from b one a =
    let slots = b.sheet.slots in
    record {
      volumes = λ v found. let p = a.volumes v found in size_place slots v.id.0 p.0 p.1 ∙ ap Some p.2;
      back = λ v n e.
          let f = size_found slots v n e in
          let l = live_place_at slots v f.0 f.1 in
          subst (λ (x : ℕ). IsSome (volume_with b.tables (record { 0 = x }))) l.of_volume (a.slots f.0 l.there);
      owned = λ n x e. let f = seen_found slots n x e in a.owned f.0 f.2.there n f.2.of_mapping;
      by_state = λ m found no. state_seen m.state slots m (a.by_state m found);
    }

pub agree_from : (b : Books) → IsSound b.sheet → Rows b → Joint b.tables b.sheet.slots Nobody → Agree b
agree_from b sound rows j =
    let slots = b.sheet.slots in
    record {
      volumes = λ v found. let f = size_found slots v.id.0 v.grains (j.volumes v found) in (f.0, f.1, f.2);
      slots = λ k kl.
          let l = sound.lives k kl in
          j.back (slot_at slots k).volume (length (slot_at slots l.0).held) (size_is slots (slot_at slots k).volume l.0 sound.one_live (record { there = l.1; is_live = l.2; of_volume = l.3 }));
      owned = λ k kl n e. j.owned n (seen_slot (slot_at slots k)) (seen_is slots n (seen_slot (slot_at slots k)) k sound.mappings (record { there = kl; of_mapping = e; is = refl }));
      mappings = rows.of_tables;
      by_state = λ m found. state_slot m.state slots m (j.by_state m found (λ n. n));
      one_busy = rows.one_busy;
    }

-- ---- the chains change

-- Of two lists of slots: what is seen of other mappings than those, and the sizes, are as they were, and no mapping got a slot.
pub record Kept (old new : List Slot) (changed : ℕ → Type 0) : Type 0 where
  pub stays : (n : ℕ) → (changed n → ⊥) → seen new n ≡ seen old n
  pub fewer : (n : ℕ) → seen old n ≡ None → seen new n ≡ None
  pub sizes : (v : ℕ) → size_of new v ≡ size_of old v

pub kept_left : (old new : List Slot) (gone : ℕ → Type 0) → Left old new gone → Kept old new gone
kept_left old new gone l = record { stays = l.stays; fewer = l.fewer; sizes = l.sizes }

pub kept_retired : (old new : List Slot) (m p : ℕ) → mapping_place old m ≡ Some p → Retired old new m p → Kept old new (Only m)
kept_retired old new m p place r =
    record {
      stays = r.stays;
      fewer = λ n none. elim (cases_eq n m) [
        | inl e ↦ absurd (let q : None ≡ Some (seen_slot (slot_at old p)) = sym none ∙ (ap (seen old) e ∙ seen_place old m p place) in cc)
        | inr ne ↦ r.stays n ne ∙ none
      ];
      sizes = r.sizes;
    }

pub joint_kept : (t : Tables) (old new : List Slot) (changed before after : ℕ → Type 0) → Kept old new changed → ((n : ℕ) → changed n → after n) → ((n : ℕ) → before n → after n) → Joint t old before → Joint t new after
joint_kept t old new changed before after k c p j =
    record {
      volumes = λ v found. k.sizes v.id.0 ∙ j.volumes v found;
      back = λ v n e. j.back v n (sym (k.sizes v) ∙ e);
      owned = λ n x e. elim (cases_option (seen old n)) [
        | inl none ↦ absurd (let q : None ≡ Some x = sym (k.fewer n none) ∙ e in cc)
        | inr some ↦ j.owned n some.0 some.1
      ];
      by_state = λ m found no.
          subst (λ (o : Option Seen). StateSeen m.state o m.target.0) (sym (k.stays m.id.0 (λ y. no (c m.id.0 y)))) (j.by_state m found (λ y. no (p m.id.0 y)));
    }

-- ---- a row changes

pub idle_unseen : (state : MapState) (o : Option Seen) (v : ℕ) → is_idle state ≡ true → StateSeen state o v → o ≡ None
idle_unseen Copying o v e s = absurd cc
idle_unseen Stopping o v e s = absurd cc
idle_unseen state o v e s = s

pub joint_ended : (t u : Tables) (slots : List Slot) (r : Mapping) (before after : ℕ → Type 0) → Ended t.mappings u.mappings r → u.volumes ≡ t.volumes →
    StateSeen r.state (seen slots r.id.0) r.target.0 → ((n : ℕ) → n ≢ r.id.0 → before n → after n) → Joint t slots before → Joint u slots after
joint_ended t u slots r before after ended vols state p j =
    record {
      volumes = λ v found. j.volumes v (subst (λ (vs : List Volume). Contains vs v) vols found);
      back = λ v n e. subst (λ (vs : List Volume). IsSome (volume_with (record t { volumes = vs }) (record { 0 = v }))) (sym vols) (j.back v n e);
      owned = λ n x e.
          let o = j.owned n x e in
          elim (cases_eq o.0.id.0 r.id.0) [
            | inl same ↦ elim (cases_Bool (is_idle r.state)) [
              | inl idle ↦ absurd (let q : None ≡ Some x = sym (idle_unseen r.state (seen slots r.id.0) r.target.0 idle state) ∙ (ap (seen slots) (sym same ∙ o.2) ∙ e) in cc)
              | inr busy ↦ (r, ended.stays busy, sym same ∙ o.2)
            ]
            | inr ne ↦ (o.0, ended.others o.0 o.1 ne, o.2)
          ];
      by_state = λ m found no. elim (ended.from m found) [
        | inl e ↦ subst (λ (x : Mapping). StateSeen x.state (seen slots x.id.0) x.target.0) (sym e) state
        | inr there ↦ j.by_state m there.0 (λ y. no (p m.id.0 there.1 y))
      ];
    }
