-- What is done at each slot of a volume in turn is done at all of them, and nowhere else.
use Rattle.std.proofs.Common.{◌≡◌, ◌≢◌, ℕ, suc, ◌+◌, ◌<◌, ◌≤◌, not, List, [], ◌∷◌, length, get_or, set, map, refl, sym, ap, subst, ◌∙◌, arith, inl, inr, length-set, get_or-set_same, get_or-set_other, ext_get_or}
use Rattle.std.proofs.lemmas.Bool.{cases_eq, ne_eqb, and_right}
use Rattle.fc_base.specs.Sheet.{Slot, slot_at, no_slot}
use Rattle.fc_base.specs.SheetStep.{grain_taken, grain_kept, grain_lost}
use Rattle.fc_places.specs.Indexing.{entry_at, ListsVolume}
use Rattle.fc_places.specs.declared.index.Entry.{Entry}
use Rattle.fc_slots.proofs.Finds.{read_at}
use Rattle.fc_sheets.proofs.Holding.{at_map, bit_taken, bit_kept, bit_lost}

-- the places of the first entries are done, and all others as they were
pub record AreDone {A : Type 0} (entries : List Entry) (before after : ℕ → A) (bound i : ℕ) (now : ℕ → A) : Type 0 where
  pub done : (j : ℕ) → j < i → j < length entries → now (entry_at entries j).place ≡ after (entry_at entries j).place
  pub rest : (k : ℕ) → k < bound → ((j : ℕ) → j < i → j < length entries → (entry_at entries j).place ≢ k) → now k ≡ before k

pub done_more : {A : Type 0} (slots : List Slot) (v : ℕ) (entries : List Entry) (before after now next : ℕ → A) (bound i p : ℕ) → ListsVolume slots v entries → i < length entries → (entry_at entries i).place ≡ p → next p ≡ after p → ((k : ℕ) → k ≢ p → next k ≡ now k) →
    AreDone entries before after bound i now → AreDone entries before after bound (i + 1) next
done_more {A} slots v entries before after now next bound i p l lt e here same d = record {
  done = λ j ji jl. elim (cases_eq j i) [
    | inl q ↦ (let P : ℕ → Type 0 = λ z. next z ≡ after z in subst P (sym e ∙ ap (λ z. (entry_at entries z).place) (sym q)) here)
    | inr ne ↦ (let apart : j ≢ i = ne in same (entry_at entries j).place (λ q. l.once j i (omega arith) lt (q ∙ sym e)) ∙ d.done j (omega arith) jl)
  ];
  rest = λ k kl f. same k (λ q. f i (omega arith) lt (e ∙ sym q)) ∙ d.rest k kl (λ j ji jl. f j (omega arith) jl);
}

-- what stands at the next place
pub done_next : {A : Type 0} (slots : List Slot) (v : ℕ) (entries : List Entry) (before after now : ℕ → A) (bound i p : ℕ) → ListsVolume slots v entries → i < length entries → (entry_at entries i).place ≡ p → p < bound → AreDone entries before after bound i now → now p ≡ before p
done_next slots v entries before after now bound i p l lt e pl d = d.rest p pl (λ j ji jl q. l.once j i ji lt (q ∙ sym e))

pub done_all : {A : Type 0} (slots : List Slot) (v : ℕ) (entries : List Entry) (before after now : ℕ → A) (i : ℕ) → ListsVolume slots v entries → length entries ≤ i → AreDone entries before after (length slots) i now →
    (k : ℕ) → k < length slots → (slot_at slots k).volume ≡ v → now k ≡ after k
done_all slots v entries before after now i l le d k kl same =
    let a = l.each k kl same in
    let lt : a.0 < length entries = a.1 in
    let P : ℕ → Type 0 = λ z. now z ≡ after z in
    subst P a.2 (d.done a.0 (omega arith) lt)

pub done_not : {A : Type 0} (slots : List Slot) (v : ℕ) (entries : List Entry) (before after now : ℕ → A) (i : ℕ) → ListsVolume slots v entries → AreDone entries before after (length slots) i now →
    (k : ℕ) → k < length slots → (slot_at slots k).volume ≢ v → now k ≡ before k
done_not slots v entries before after now i l d k kl ne = d.rest k kl (λ j ji jl q. ne (ap (λ z. (slot_at slots z).volume) (sym q) ∙ l.only j jl))

-- ---- slots that are turned

pub record AreTurned (f : Slot → Slot) (entries : List Entry) (old : List Slot) (i : ℕ) (now : List Slot) : Type 0 where
  pub size : length now ≡ length old
  pub turned : AreDone entries (slot_at old) (λ k. f (slot_at old k)) (length old) i (slot_at now)

pub turned_there : (f : Slot → Slot) (v : ℕ) (entries : List Entry) (old now : List Slot) (i : ℕ) → ListsVolume old v entries → i < length entries → AreTurned f entries old i now → (entry_at entries i).place < length now
turned_there f v entries old now i l lt t =
    let a : (entry_at entries i).place < length old = l.there i lt in
    let b : length now ≡ length old = t.size in
    omega arith

pub turned_more : {f : Slot → Slot} {v : ℕ} {entries : List Entry} {old now : List Slot} {i : ℕ} {t u : Slot} → ListsVolume old v entries → i < length entries → t ≡ get_or now (entry_at entries i).place t → u ≡ f (get_or now (entry_at entries i).place t) →
    AreTurned f entries old i now → AreTurned f entries old (i + 1) (set now (entry_at entries i).place u)
turned_more {f} {v} {entries} {old} {now} {i} {t} {u} l lt r q a =
    let p : ℕ = (entry_at entries i).place in
    let pn : p < length now = turned_there f v entries old now i l lt a in
    let was : slot_at now p ≡ slot_at old p = done_next old v entries (slot_at old) (λ k. f (slot_at old k)) (slot_at now) (length old) i p l lt refl (l.there i lt) a.turned in
    record {
      size = length-set now p u ∙ a.size;
      turned = done_more old v entries (slot_at old) (λ k. f (slot_at old k)) (slot_at now) (slot_at (set now p u)) (length old) i p l lt refl
          (get_or-set_same now p u no_slot pn ∙ (q ∙ ap f (sym r ∙ (sym (read_at now p t pn r) ∙ was))))
          (λ k ne. get_or-set_other now p k u no_slot ne) a.turned;
    }

length_map : (f : Slot → Slot) (ts : List Slot) → length (map f ts) ≡ length ts
length_map f [] = refl
length_map f (t ∷ ts) = ap suc (length_map f ts)

turned_all : (f : Slot → Slot) (v : ℕ) (entries : List Entry) (old now : List Slot) (i : ℕ) → f no_slot ≡ no_slot → ((t : Slot) → t.volume ≢ v → f t ≡ t) → ListsVolume old v entries → length entries ≤ i → AreTurned f entries old i now → now ≡ map f old
turned_all f v entries old now i none off l le a =
    ext_get_or no_slot now (map f old) (a.size ∙ sym (length_map f old))
    (λ k kn. let kl : k < length old = (let s : length now ≡ length old = a.size in omega arith) in
    (elim (cases_eq (slot_at old k).volume v) [
      | inl same ↦ done_all old v entries (slot_at old) (λ z. f (slot_at old z)) (slot_at now) i l le a.turned k kl same
      | inr ne ↦ done_not old v entries (slot_at old) (λ z. f (slot_at old z)) (slot_at now) i l a.turned k kl ne ∙ sym (off (slot_at old k) ne)
    ]) ∙ sym (at_map f old k none))

taken_off : (v g : ℕ) (t : Slot) → t.volume ≢ v → grain_taken v g t ≡ t
taken_off v g t ne = rw (ne_eqb t.volume v ne) refl

kept_off : (v g : ℕ) (t : Slot) → t.volume ≢ v → grain_kept v g t ≡ t
kept_off v g t ne = rw (and_right t.is_live _ (ne_eqb t.volume v ne)) refl

lost_off : (v g : ℕ) (t : Slot) → t.volume ≢ v → grain_lost v g t ≡ t
lost_off v g t ne = rw (and_right (not t.is_live) _ (ne_eqb t.volume v ne)) refl

pub all_taken : (v g : ℕ) {entries : List Entry} {old now : List Slot} {i : ℕ} → ListsVolume old v entries → length entries ≤ i → AreTurned (grain_taken v g) entries old i now → now ≡ map (grain_taken v g) old
all_taken v g {entries} {old} {now} {i} = turned_all (grain_taken v g) v entries old now i (bit_taken v g).none (taken_off v g)

pub all_kept : (v g : ℕ) {entries : List Entry} {old now : List Slot} {i : ℕ} → ListsVolume old v entries → length entries ≤ i → AreTurned (grain_kept v g) entries old i now → now ≡ map (grain_kept v g) old
all_kept v g {entries} {old} {now} {i} = turned_all (grain_kept v g) v entries old now i (bit_kept v g).none (kept_off v g)

pub all_lost : (v g : ℕ) {entries : List Entry} {old now : List Slot} {i : ℕ} → ListsVolume old v entries → length entries ≤ i → AreTurned (grain_lost v g) entries old i now → now ≡ map (grain_lost v g) old
all_lost v g {entries} {old} {now} {i} = turned_all (grain_lost v g) v entries old now i (bit_lost v g).none (lost_off v g)
