-- What metadata says is said by its image.
use Rattle.std.proofs.Common.{◌≡◌, ℕ, zero, suc, ◌<◌, Bool, true, not, cond, Option, Some, None, List, [], ◌∷◌, length, map, replicate, refl, sym, ap, ◌∙◌, arith, All, inl, inr}
use Rattle.std.specs.Prelude.{option_map}
use Rattle.std.specs.List.{flat_map}
use Rattle.std.proofs.lemmas.Bool.{cases_eq, eq-eqb, ne_eqb}
use Rattle.std.proofs.lemmas.List.{length-map, length-replicate}
use Rattle.fc_base.specs.Sheet.{Slot, slot_at}
use Rattle.fc_base.specs.Tables.{Tables, mapping_with}
use Rattle.fc_base.specs.declared.ids.MapId.{MapId}
use Rattle.fc_base.specs.declared.volume.Mapping.{Mapping}
use Rattle.fc_bits.specs.Grains.{difference}
use Rattle.fc_bits.specs.Words.{grains_of}
use Rattle.fc_books.specs.Sound.{AreSound}
use Rattle.fc_changed.specs.Row.{Row}
use Rattle.fc_image.specs.declared.image.MetaChain.{MetaChain}
use Rattle.fc_legal.specs.Stands.{IsOfMapping}
use Rattle.fc_kept.specs.Kept.{LostGrains, Kept}
use Rattle.fc_kept.specs.Images.{size_in, slot_in, slots_in, row_of, row_in, lost_in, kept_in, words_with, slot_told, alone_told, before_chains, chains_told, changes_told, lost_told, meta_of}
use Rattle.fc_kept.specs.Sound.{books_of, IsSoundKept}
use Rattle.fc_kept.proofs.Words.{words_back, difference_back}
use Rattle.fc_kept.proofs.Sizes.{slot_size, row_size, found_mapping}

-- ---- slots

mapping_back : (o : Option ℕ) → option_map (λ (m : MapId). m.0) (option_map (λ (m : ℕ). let id : MapId = record { 0 = m } in id) o) ≡ o
mapping_back None = refl
mapping_back (Some m) = refl

slot_back : (t : Tables) (s : Slot) → length s.held ≡ size_in t record { 0 = s.volume } → slot_in t s.chain (slot_told s) ≡ s
slot_back t s e =
    λ i. record {
      birth = s.birth;
      chain = s.chain;
      volume = s.volume;
      is_live = s.is_live;
      mapping = mapping_back s.mapping i;
      held = words_back (size_in t record { 0 = s.volume }) s.held e i;
    }

-- a slot before chains is its own, and then theirs
before_slots : (t : Tables) (s : Slot) (chains : List MetaChain) →
    flat_map (slots_in t) (before_chains s chains) ≡ slot_in t s.chain (slot_told s) ∷ flat_map (slots_in t) chains
before_slots t s [] = refl
before_slots t s (c ∷ cs) =
    elim (cases_eq c.label s.chain) [
      | inl e ↦ ap (λ (z : Bool). flat_map (slots_in t) (cond z (record c { slots = slot_told s ∷ c.slots } ∷ cs) (alone_told s ∷ c ∷ cs))) (eq-eqb c.label s.chain e)
          ∙ ap (λ (z : ℕ). slot_in t z (slot_told s) ∷ flat_map (slots_in t) (c ∷ cs)) e
      | inr ne ↦ ap (λ (z : Bool). flat_map (slots_in t) (cond z (record c { slots = slot_told s ∷ c.slots } ∷ cs) (alone_told s ∷ c ∷ cs))) (ne_eqb c.label s.chain ne)
    ]

abbrev AreSized : Tables → List Slot → Type 0
AreSized t slots = (k : ℕ) → k < length slots → length (slot_at slots k).held ≡ size_in t record { 0 = (slot_at slots k).volume }

slots_back : (t : Tables) (slots : List Slot) → AreSized t slots → flat_map (slots_in t) (chains_told slots) ≡ slots
slots_back t [] sized = refl
slots_back t (s ∷ ss) sized =
    before_slots t s (chains_told ss)
    ∙ (ap (λ (z : Slot). z ∷ flat_map (slots_in t) (chains_told ss)) (slot_back t s (sized zero (omega arith)))
    ∙ ap (λ (z : List Slot). s ∷ z) (slots_back t ss (λ k kl. sized (suc k) (omega arith))))

-- ---- lists

-- what holds of each element, by the list's head and the rest
pub head_of : {X : Type 0} (P : X → Type 0) (x : X) (xs : List X) → All P (x ∷ xs) → P x
head_of P x xs all = all zero x (omega arith)

pub rest_of : {X : Type 0} (P : X → Type 0) (x : X) (xs : List X) → All P (x ∷ xs) → All P xs
rest_of P x xs all k d lt = all (suc k) d (omega arith)

-- each is told and read again
pub all_back : {X Y : Type 0} (there : X → Y) (back : Y → X) (P : X → Type 0) → ((x : X) → P x → back (there x) ≡ x) → (xs : List X) → All P xs → map back (map there xs) ≡ xs
all_back there back P e [] all = refl
all_back there back P e (x ∷ xs) all =
    ap (λ z. z ∷ map back (map there xs)) (e x (head_of P x xs all))
    ∙ ap (λ z. x ∷ z) (all_back there back P e xs (rest_of P x xs all))

-- ---- rows

row_back : (k : Kept) → AreSound (books_of k) → (row : Row) → IsOfMapping k.tables row → row_in k.tables (changes_told row) ≡ row
row_back k sound row r =
    let t : Tables = k.tables in
    let m : Mapping = r.mapping in
    let id : MapId = record { 0 = row.map } in
    let n : ℕ = size_in t m.source in
    let size : length row.same ≡ n = row_size t row r (sound.agree.mappings m r.there) in
    let own : m.id ≡ id = ap (λ (z : ℕ). let w : MapId = record { 0 = z } in w) r.id_is in
    let there : mapping_with t id ≡ Some m = ap (mapping_with t) (sym own) ∙ found_mapping (books_of k) sound.tables m r.there in
    let kept : grains_of n (words_with (replicate (length row.same) true)) ≡ replicate (length row.same) true = words_back n (replicate (length row.same) true) (length-replicate (length row.same) true ∙ size) in
    let changed : grains_of n (words_with (map not row.same)) ≡ map not row.same = words_back n (map not row.same) (length-map row.same not ∙ size) in
    let same : difference (grains_of n (words_with (replicate (length row.same) true))) (grains_of n (words_with (map not row.same))) ≡ row.same =
    ap (λ (z : List Bool). difference z (grains_of n (words_with (map not row.same)))) kept
    ∙ (ap (difference (replicate (length row.same) true)) changed ∙ difference_back row.same) in
    ap (row_of t (changes_told row)) there
    ∙ (λ i. record { map = row.map; source = r.source_is i; target = r.target_is i; into = row.into; same = same i })

-- ---- lost grains

lost_back : (t : Tables) (row : LostGrains) → length row.lost ≡ size_in t record { 0 = row.volume } → lost_in t (lost_told row) ≡ row
lost_back t row e = λ i. record { volume = row.volume; lost = words_back (size_in t record { 0 = row.volume }) row.lost e i }

-- ---- all

pub said : (k : Kept) → IsSoundKept k → kept_in (meta_of k) ≡ k
said k s =
    let t : Tables = k.tables in
    let slots = slots_back t k.sheet.slots (slot_size (books_of k) s.books) in
    let rows = all_back changes_told (row_in t) (IsOfMapping t) (row_back k s.books) k.rows s.rows.each in
    let lost = all_back lost_told (lost_in t) (λ (row : LostGrains). length row.lost ≡ size_in t record { 0 = row.volume }) (lost_back t) k.lost s.lost.sizes in
    λ i. record {
      tables = t;
      next_volume = k.next_volume;
      next_mapping = k.next_mapping;
      next_group = k.next_group;
      sheet = record { births = k.sheet.births; slots = slots i };
      rows = rows i;
      lost = lost i;
    }
