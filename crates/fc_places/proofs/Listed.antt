-- The directory through moves and writes, and with no slots.
use Rattle.std.proofs.Common.{◌≡◌, ℕ, suc, ◌+◌, ◌<◌, ◌≤◌, cond, Some, List, [], ◌∷◌, length, map, refl, sym, ap, subst, ◌∙◌, arith}
use Rattle.std.proofs.lemmas.List.Sums.{sum_by-cons}
use Rattle.fc_base.specs.Sheet.{Slot, slot_at}
use Rattle.fc_places.specs.declared.index.By.{By}
use Rattle.fc_places.specs.declared.index.By.TheVariants.{Birth, Mapping, Volume}
use Rattle.fc_places.specs.declared.index.Entry.{Entry}
use Rattle.fc_places.specs.Indexing.{key_at, entry_at, IsIndexOf, ListsVolume}
use Rattle.fc_places.specs.Directory.{volume_count}
use Rattle.fc_places.specs.Directory.{Directory, ListsSlots, HasPlaces}
use Rattle.fc_sheets.proofs.Holding.{at_map, Regrained}

length_map : (f : Slot → Slot) (ts : List Slot) → length (map f ts) ≡ length ts
length_map f [] = refl
length_map f (t ∷ ts) = ap suc (length_map f ts)

key_map : (f : Slot → Slot) → Regrained f → (by : By) (t : Slot) → key_at by (f t) ≡ key_at by t
key_map f r Birth t = ap Some (r.birth t)
key_map f r Mapping t = r.mapping t
key_map f r Volume t = ap Some (r.volume t)

index_map : (f : Slot → Slot) → Regrained f → (slots : List Slot) (by : By) (entries : List Entry) → IsIndexOf slots by entries → IsIndexOf (map f slots) by entries
index_map f r slots by entries i =
    let size : length (map f slots) ≡ length slots = length_map f slots in
    let key : (k : ℕ) → key_at by (slot_at (map f slots) k) ≡ key_at by (slot_at slots k) = λ k. ap (key_at by) (at_map f slots k r.none) ∙ key_map f r by (slot_at slots k) in
    record {
      only = λ j jl. (let e = i.only j jl in record {
        there = (let a : (entry_at entries j).place < length slots = e.there in omega arith);
        key = key (entry_at entries j).place ∙ e.key;
        birth = e.birth ∙ sym (ap (λ (t : Slot). t.birth) (at_map f slots (entry_at entries j).place r.none) ∙ r.birth (slot_at slots (entry_at entries j).place));
      });
      each = λ k x kl e. i.each k x (omega arith) (sym (key k) ∙ e);
      once = i.once;
      rising = i.rising;
    }

count_map : (f : Slot → Slot) → Regrained f → (slots : List Slot) → volume_count (map f slots) ≡ volume_count slots
count_map f r [] = refl
count_map f r (t ∷ ts) =
    let a : volume_count (f t ∷ map f ts) ≡ cond (f t).is_live 1 0 + volume_count (map f ts) = sum_by-cons (λ (x : Slot). cond x.is_live 1 0) (f t) (map f ts) in
    let b : volume_count (t ∷ ts) ≡ cond t.is_live 1 0 + volume_count ts = sum_by-cons (λ (x : Slot). cond x.is_live 1 0) t ts in
    a ∙ (λ k. cond {A = ℕ} (r.is_live t k) 1 0 + count_map f r ts k) ∙ sym b

pub lists_map : (f : Slot → Slot) → Regrained f → (slots : List Slot) (d : Directory) → ListsSlots slots d → ListsSlots (map f slots) d
lists_map f r slots d l = record {
  births = index_map f r slots Birth d.births.entries l.births;
  mappings = index_map f r slots Mapping d.mappings.entries l.mappings;
  volumes = index_map f r slots Volume d.volumes.entries l.volumes;
  count = l.count ∙ sym (count_map f r slots);
}

-- a volume's entries are still those of its slots
pub listed_after : (f : Slot → Slot) → Regrained f → (slots now : List Slot) (d : Directory) (entries : List Entry) (v w : ℕ) → now ≡ map f slots → ListsSlots slots d → w ≡ v → ((ts : List Slot) → ListsSlots ts d → ListsVolume ts v entries) → ListsVolume now w entries
listed_after f r slots now d entries v w e l same listed =
    let P : List Slot → Type 0 = λ z. ListsVolume z w entries in
    let Q : ℕ → Type 0 = λ z. ListsVolume (map f slots) z entries in
    subst P (sym e) (subst Q (sym same) (listed (map f slots) (lists_map f r slots d l)))

pub places_stay : (n : ℕ) (d e : Directory) → HasPlaces n d → d.births.room ≤ e.births.room → d.mappings.room ≤ e.mappings.room → d.volumes.room ≤ e.volumes.room → HasPlaces n e
places_stay n d e h a b c = record {
  births = (let x : n ≤ d.births.room = h.births in omega arith);
  mappings = (let x : n ≤ d.mappings.room = h.mappings in omega arith);
  volumes = (let x : n ≤ d.volumes.room = h.volumes in omega arith);
}

pub places_fewer : (n m : ℕ) (d : Directory) → n ≤ m → HasPlaces m d → HasPlaces n d
places_fewer n m d le h = record {
  births = (let x : m ≤ d.births.room = h.births in omega arith);
  mappings = (let x : m ≤ d.mappings.room = h.mappings in omega arith);
  volumes = (let x : m ≤ d.volumes.room = h.volumes in omega arith);
}
