-- Events on one slot keep the facts.
use Rattle.std.proofs.Common.{◌≡◌, ◌≢◌, ℕ, ◌+◌, ◌<◌, true, false, Option, Some, List, length, set, remove, sym, ap, subst, ◌∙◌, arith, ◌⊎◌, inl, inr}
use Rattle.std.proofs.lemmas.Bool.{cases_eq}
use Rattle.fc_base.specs.Sheet.{Slot, Sheet, slot_at, column}
use Rattle.fc_base.specs.SheetFacts.{IsSound}
use Rattle.fc_base.specs.SheetStep.{made, removed, without, at_place, retired_at, detached_at, split_at, dropped}
use Rattle.fc_base.specs.SheetFits.{FitsRemove, FitsDrop}
use Rattle.fc_base.specs.Need.{is_complete, IsNeeded}
use Rattle.fc_moves.proofs.Readers.{holder_is, is_holder, reader_from}
use Rattle.fc_sheets.proofs.Places.{up, up_in, up_apart, removed_at, remove_is}
use Rattle.fc_sheets.proofs.Removing.{no_loop_small}
use Rattle.fc_sheets.proofs.Aging.{age, with_alone, no_loop_alone, no_loop_aged, aged_is}
use Rattle.fc_sheets.proofs.Splitting.{CanSplit, split_list, split_count, split_same, names_split, sizes_split, mappings_split, one_live_split, lives_split, no_loop_split, held_split}
use Rattle.fc_sheets.proofs.Finding.{LiveAt, live_place_at, birth_place_at}
use Rattle.fc_sheets.proofs.Steps.{Nobody, Only, holds_from, sound_from, holds_more, NoReader, without_live, without_old, without_no_live, aged_holds, aged_no_live, alone_holds}

never : (P : ℕ → Type 0) (x : ℕ) → Nobody x → P x
never P x n = absurd n

-- an unneeded slot has no reader
pub unneeded_no_reader : (slots : List Slot) (p : ℕ) (loose : ℕ → Type 0) → (IsNeeded slots p → ⊥) → NoReader slots p loose
unneeded_no_reader slots p loose free g k kl l i =
    elim (cases_eq k p) [
      | inl e ↦ inl e
      | inr ne ↦ absurd (let r = reader_from (column slots g) p p k kl l ne i in free (g, r.0, r.2))
    ]

-- a volume comes
pub made_sound : (s : Sheet) (v grains : ℕ) → IsSound s → ((k : ℕ) → k < length s.slots → (slot_at s.slots k).volume ≢ v) → IsSound (made v grains s)
made_sound s v grains i new =
    let h = holds_more s.births s.slots Nobody (Only v) Nobody Nobody (never (Only v)) (never Nobody) (holds_from s i) in
    sound_from (s.births + 1) (with_alone s.slots s.births v grains)
    (alone_holds s.births s.slots Nobody v grains h (λ k kl l e. new k kl e) (λ k kl e. absurd (new k kl e)))
    (no_loop_alone s.births s.slots v grains i.names i.no_loop)

-- a volume goes
remove_place_sound : (s : Sheet) (v : ℕ) → IsSound s → FitsRemove s.slots v → (p : ℕ) → LiveAt s.slots v p →
    ((j : ℕ) → j < length s.slots → ((slot_at s.slots j).volume ≡ v) ⊎ ((slot_at s.slots j).chain ≡ (slot_at s.slots p).chain) → j ≡ p) →
    IsSound (record { births = s.births; slots = remove s.slots p })
remove_place_sound s v i f p l lone =
    let r = remove_is s.slots p l.there in
    let w = without_live s.births s.slots Nobody p (holds_from s i) l.there (λ g k kl kv h. inl (lone k kl (inr (sym h.one_chain)))) in
    sound_from s.births (remove s.slots p)
    (record {
      names = w.names;
      sizes = w.sizes;
      mappings = w.mappings;
      one_live = w.one_live;
      holders = w.holders;
      lives = λ k kl. elim (w.lives k kl) [
        | inl x ↦ inl x
        | inr e ↦ absurd (up_apart p k (lone (up p k) (up_in s.slots (remove s.slots p) p r k kl)
            (inl (ap (λ (t : Slot). t.volume) (sym (removed_at s.slots (remove s.slots p) p r k)) ∙ (e ∙ l.of_volume)))))
      ];
    })
    (no_loop_small s.slots (remove s.slots p) p r i.no_loop)

pub removed_sound : (s : Sheet) (v : ℕ) → IsSound s → FitsRemove s.slots v → IsSound (removed v s)
removed_sound s v i f =
    subst (λ (o : Option ℕ). IsSound (at_place without o s)) (sym f.is_there)
    (remove_place_sound s v i f f.place (live_place_at s.slots v f.place f.is_there) f.alone)

-- retire
pub retired_sound : (s : Sheet) (k : ℕ) → IsSound s → k < length s.slots → (slot_at s.slots k).is_live ≡ true → IsSound (retired_at k s)
retired_sound s k i kl l =
    let t : Slot = slot_at s.slots k in
    let old : List Slot = set s.slots k (age t) in
    let a = aged_is s.slots k kl in
    let c : length old ≡ length s.slots = a.count in
    let h = aged_holds s.births s.slots Nobody k (holds_from s i) kl in
    sound_from (s.births + 1) (with_alone old s.births t.volume (length t.held))
    (alone_holds s.births old Nobody t.volume (length t.held) h (aged_no_live s.slots k kl l i.one_live)
    (λ j jl e. ap length (a.held j) ∙ i.sizes.of_volume j k (omega arith) kl (sym (a.volume j) ∙ e)))
    (no_loop_alone s.births old t.volume (length t.held) h.names (no_loop_aged s.slots k kl l i.one_live i.no_loop))

-- detach
pub detached_sound : (s : Sheet) (k : ℕ) → IsSound s → k < length s.slots → (slot_at s.slots k).is_live ≡ true → (IsNeeded s.slots k → ⊥) → IsSound (detached_at k s)
detached_sound s k i kl l free =
    let t : Slot = slot_at s.slots k in
    let left : List Slot = remove s.slots k in
    let r = remove_is s.slots k kl in
    let h = without_live s.births s.slots Nobody k (holds_from s i) kl (unneeded_no_reader s.slots k Nobody free) in
    sound_from (s.births + 1) (with_alone left s.births t.volume (length t.held))
    (alone_holds s.births left Nobody t.volume (length t.held) h (without_no_live s.slots k kl l i.one_live)
    (λ j jl e. let q = removed_at s.slots left k r j in
    ap (λ (z : Slot). length z.held) q ∙ i.sizes.of_volume (up k j) k (up_in s.slots left k r j jl) kl (ap (λ (z : Slot). z.volume) (sym q) ∙ e)))
    (no_loop_alone s.births left t.volume (length t.held) h.names (no_loop_small s.slots left k r i.no_loop))

-- drop
dropped_place : (s : Sheet) (k : ℕ) → IsSound s → k < length s.slots → (slot_at s.slots k).is_live ≡ false → (IsNeeded s.slots k → ⊥) → IsSound (record { births = s.births; slots = remove s.slots k })
dropped_place s k i kl old free =
    sound_from s.births (remove s.slots k)
    (without_old s.births s.slots Nobody k (holds_from s i) kl old (unneeded_no_reader s.slots k Nobody free))
    (no_loop_small s.slots (remove s.slots k) k (remove_is s.slots k kl) i.no_loop)

pub dropped_sound : (s : Sheet) (b : ℕ) → IsSound s → FitsDrop s.slots b → IsSound (dropped b s)
dropped_sound s b i f =
    subst (λ (o : Option ℕ). IsSound (at_place without o s)) (sym f.is_there)
    (dropped_place s f.place i ((birth_place_at s.slots b f.place f.is_there).0) f.is_old f.unneeded)

-- split
pub split_sound : (s : Sheet) (m k : ℕ) → IsSound s → k < length s.slots → (slot_at s.slots k).mapping ≡ Some m → is_complete (slot_at s.slots k) ≡ true → IsSound (split_at k s)
split_sound s m k i kl e full =
    let c : CanSplit s.births s.slots k = record { there = kl; names = i.names; label = λ j jl. i.names.fresh k j m kl jl e } in
    let new : List Slot = split_list s.slots k in
    let count : length new ≡ length s.slots = split_length s.slots k in
    record {
      names = names_split s.births s.slots k c;
      sizes = sizes_split s.births s.slots k c i.sizes;
      mappings = mappings_split s.births s.slots k c full i.mappings;
      one_live = one_live_split s.slots k kl i.one_live;
      lives = lives_split s.slots k kl i.lives;
      no_loop = no_loop_split s.births s.slots k c i.no_loop;
      holders = λ g j jl l gl.
          let same = split_same s.slots k j kl (omega arith) in
          let size : length (slot_at new j).held ≡ length (slot_at s.slots j).held = ap length same.held in
          let old = i.holders g j (omega arith) (sym same.is_live ∙ l) (omega arith) in
          let h = held_split s.births s.slots k c full i.sizes g j (omega arith) (omega arith) (old.0, holder_is (column s.slots g) j old.0 old.1) in
          (h.0, is_holder (column new g) j h.0 h.1);
    }
  where
    split_length : (slots : List Slot) (k : ℕ) → length (split_list slots k) ≡ length slots
    split_length slots k = split_count slots k
