-- What is seen of mappings' slots and of volumes after a slot was split off with all behind it.
use Rattle.std.proofs.Common.{◌≡◌, ◌≢◌, ℕ, zero, suc, ◌<◌, Some, List, [], ◌∷◌, length, map, refl, sym, ap, ◌∙◌, arith, inl, inr}
use Rattle.std.proofs.lemmas.Bool.{cases_eq, eq-eqb, ne_eqb}
use Rattle.fc_base.specs.Sheet.{Slot, Sheet, slot_at}
use Rattle.fc_base.specs.SheetFacts.{IsSound}
use Rattle.fc_base.specs.SheetStep.{split_from, relabelled, split_at}
use Rattle.fc_sheets.proofs.Splitting.{SameButChain, CanSplit, split_list, split_count, split_same, split_chain, names_split}
use Rattle.fc_sheets.proofs.Steps.{Only}
use Rattle.fc_decided.proofs.Seen.{seen_slot, none_seen, no_place, same_seen, same_size}
use Rattle.fc_decided.proofs.Leaving.{Left}
use Rattle.fc_sheets.proofs.Finding.{mapping_place_none}

-- ---- only the first slot loses its mapping

keeps_map : (f : Slot → Slot) → ((t : Slot) → (f t).mapping ≡ t.mapping) → (ts : List Slot) (j : ℕ) → (slot_at (map f ts) j).mapping ≡ (slot_at ts j).mapping
keeps_map f same [] j = refl
keeps_map f same (t ∷ ts) zero = same t
keeps_map f same (t ∷ ts) (suc j) = keeps_map f same ts j

keeps_mapping : (f : Slot → Slot) → ((t : Slot) → (f t).mapping ≡ t.mapping) → (k : ℕ) (ts : List Slot) (j : ℕ) → j ≢ k → (slot_at (relabelled f k ts) j).mapping ≡ (slot_at ts j).mapping
keeps_mapping f same zero [] j ne = refl
keeps_mapping f same zero (t ∷ ts) zero ne = absurd (ne refl)
keeps_mapping f same zero (t ∷ ts) (suc j) ne = keeps_map f same ts j
keeps_mapping f same (suc k) [] j ne = refl
keeps_mapping f same (suc k) (t ∷ ts) zero ne = refl
keeps_mapping f same (suc k) (t ∷ ts) (suc j) ne = keeps_mapping f same k ts j (λ e. ne (ap suc e))

from_keeps : (chain birth : ℕ) (t : Slot) → (split_from chain birth t).mapping ≡ t.mapping
from_keeps chain birth t =
    elim (cases_eq t.chain chain) [
      | inl e ↦ rw (eq-eqb t.chain chain e) refl
      | inr ne ↦ rw (ne_eqb t.chain chain ne) refl
    ]

others_keep : (slots : List Slot) (k j : ℕ) → j ≢ k → (slot_at (split_list slots k) j).mapping ≡ (slot_at slots j).mapping
others_keep slots k j ne =
    keeps_mapping (split_from (slot_at slots k).chain (slot_at slots k).birth) (from_keeps (slot_at slots k).chain (slot_at slots k).birth) k slots j ne

-- ---- what is seen

same_parts : (a b : Slot) → SameButChain a b → seen_slot b ≡ seen_slot a
same_parts a b s =
    ap (λ x. record { birth = x; volume = b.volume; is_live = b.is_live; held = b.held }) s.birth
    ∙ ap (λ x. record { birth = a.birth; volume = x; is_live = b.is_live; held = b.held }) s.volume
    ∙ ap (λ x. record { birth = a.birth; volume = a.volume; is_live = x; held = b.held }) s.is_live
    ∙ ap (λ x. record { birth = a.birth; volume = a.volume; is_live = a.is_live; held = x }) s.held

none_mine : (b : ℕ) (slots : List Slot) (k m : ℕ) → CanSplit b slots k → k < length slots → (slot_at (split_list slots k) k).mapping ≡ Some m → ⊥
none_mine b slots k m c kl e =
    let new : List Slot = split_list slots k in
    let count : length new ≡ length slots = split_count slots k in
    let names = names_split b slots k c in
    elim (split_chain slots k k kl kl) [
      | inl first ↦ names.fresh k k m (omega arith) (omega arith) e (first.2 ∙ sym (split_same slots k k kl kl).birth)
      | inr other ↦ elim other.0 [ inl apart ↦ apart.1 refl | inr lt ↦ omega (arith, lt) ]
    ]

pub split_left : (s : Sheet) (k m : ℕ) → IsSound s → IsSound (split_at k s) → k < length s.slots → (slot_at s.slots k).mapping ≡ Some m → Left s.slots (split_at k s).slots (Only m)
split_left s k m i after kl e =
    let slots : List Slot = s.slots in
    let new : List Slot = split_list slots k in
    let count : length new ≡ length slots = split_count slots k in
    let c : CanSplit s.births slots k = record { there = kl; names = i.names; label = λ j jl. i.names.fresh k j m kl jl e } in
    record {
      maps = after.mappings;
      one = after.one_live;
      stays = λ n no.
          same_seen slots new n after.mappings
          (λ j jl q.
          let ne : j ≢ k = λ same. no (let f : Some n ≡ Some m = sym q ∙ (ap (λ z. (slot_at slots z).mapping) same ∙ e) in cc) in
          (j, record { there = omega arith; of_mapping = others_keep slots k j ne ∙ q; is = same_parts (slot_at slots j) (slot_at new j) (split_same slots k j kl jl) }))
          (λ j jl q. (j, omega arith, (split_same slots k j kl (omega arith)).mapping n q));
      went = λ n q. none_seen new n (λ j jl f.
          let o = (split_same slots k j kl (omega arith)).mapping n f in
          let same : j ≡ k = i.mappings.one_slot j k m (omega arith) kl (o ∙ ap Some q) e in
          none_mine s.births slots k n c kl (ap (λ z. (slot_at new z).mapping) (sym same) ∙ f));
      fewer = λ n none. none_seen new n (λ j jl f. mapping_place_none slots n (no_place slots n none) j (omega arith) ((split_same slots k j kl (omega arith)).mapping n f));
      sizes = λ v.
          same_size slots new v after.one_live
          (λ j l. let jl : j < length slots = l.there in let p = split_same slots k j kl jl in
          (j, record { there = omega arith; is_live = p.is_live ∙ l.is_live; of_volume = p.volume ∙ l.of_volume }, ap length p.held))
          (λ j l. let jl : j < length new = l.there in let p = split_same slots k j kl (omega arith) in
          (j, record { there = omega arith; is_live = sym p.is_live ∙ l.is_live; of_volume = sym p.volume ∙ l.of_volume }));
    }
