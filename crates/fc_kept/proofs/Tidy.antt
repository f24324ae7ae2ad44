-- The image that says what metadata says is sound, and stays so through records that fit.
use Rattle.std.proofs.Common.{◌≡◌, ℕ, zero, suc, ◌+◌, ◌^◌, ◌<◌, ◌≤◌, Bool, true, false, not, ◌&&◌, ◌||◌, Option, List, [], ◌∷◌, length, get_or, map, replicate, refl, sym, ap, subst, ◌∙◌, arith, All, Contains, inl, inr}
use Rattle.std.specs.Prelude.{◌==◌, if◌then◌else◌}
use Rattle.std.proofs.lemmas.Bool.{cond_both, eqb-true, and_parts}
use Rattle.std.proofs.lemmas.List.{length-map, length-replicate}
use Rattle.std.proofs.lemmas.List.Elements.{All-map}
use Rattle.fc_base.specs.Sheet.{Slot, slot_at}
use Rattle.fc_base.specs.Tables.{Tables, volume_with, mapping_with}
use Rattle.fc_base.specs.declared.ids.MapId.{MapId}
use Rattle.fc_base.specs.declared.ids.VolId.{VolId}
use Rattle.fc_base.specs.declared.request.Side.TheVariants.{Now, Under}
use Rattle.fc_base.specs.declared.volume.Mapping.{Mapping}
use Rattle.fc_base.specs.declared.volume.Volume.{Volume}
use Rattle.fc_bits.specs.Words.{words_for, IsTidy}
use Rattle.fc_bits.proofs.Bridge.{tidy-with, tidy-without, tidy-zeros}
use Rattle.fc_changed.specs.Row.{Row}
use Rattle.fc_decided.proofs.Lists.{find_from}
use Rattle.fc_image.specs.Records.{names_volume, slot_after, chain_after, row_after, changes_after, after_record}
use Rattle.fc_image.specs.Words.{with_bit, bit_put}
use Rattle.fc_image.specs.declared.image.MetaSlot.{MetaSlot}
use Rattle.fc_image.specs.declared.image.MetaChain.{MetaChain}
use Rattle.fc_image.specs.declared.image.MetaLost.{MetaLost}
use Rattle.fc_image.specs.declared.image.MetaChanges.{MetaChanges}
use Rattle.fc_image.specs.declared.image.MetaImage.{MetaImage}
use Rattle.fc_image.specs.declared.record.MetaRecord.{MetaRecord}
use Rattle.fc_image.specs.declared.record.MetaRecord.TheVariants.{Pair, Written, Torn, Changing}
use Rattle.fc_legal.specs.Stands.{IsOfMapping}
use Rattle.fc_moves.proofs.Search.{cases_option}
use Rattle.fc_kept.specs.Kept.{LostGrains, Kept}
use Rattle.fc_kept.specs.Images.{grains_told, size_in, tables_in, kept_in, words_from, words_with, slot_told, alone_told, before_chains, chains_told, changes_told, lost_told, meta_of}
use Rattle.fc_kept.specs.Sound.{books_of, IsSoundKept, HasTidySlots, HasTidyLost, HasTidyChanges, IsSoundImage, FitsRecord, FitsChains}
use Rattle.fc_kept.proofs.Words.{with_is, without_is}
use Rattle.fc_kept.proofs.Sizes.{slot_size, row_size, found_mapping, names_is, named_size}
use Rattle.fc_kept.proofs.Said.{head_of, rest_of, said}
use Rattle.fc_kept.proofs.Recorded.{within, recorded}
use Rattle.fc_kept.proofs.Soundly.{kept_sound}

-- ---- words

tidy_put : (n : ℕ) (words : List ℕ) (g : ℕ) (b : Bool) → IsTidy n words → g < n → IsTidy n (bit_put words g b)
tidy_put n words g true tidy lt = subst (IsTidy n) (sym (with_is words g)) (tidy-with n words g tidy lt)
tidy_put n words g false tidy lt = subst (IsTidy n) (sym (without_is words g)) (tidy-without n words g tidy lt)

tidy_from : (n : ℕ) (bs : List Bool) (g : ℕ) (words : List ℕ) → IsTidy n words → g + length bs ≤ n → IsTidy n (words_from bs g words)
tidy_from n [] g words tidy le = tidy
tidy_from n (b ∷ bs) g words tidy le = tidy_from n bs (suc g) (bit_put words g b) (tidy_put n words g b tidy (omega arith)) (omega arith)

tidy_words : (n : ℕ) (grains : List Bool) → length grains ≡ n → n < 2 ^ 32 → IsTidy n (words_with grains)
tidy_words n grains e low =
    subst (λ (x : ℕ). IsTidy x (words_with grains)) e
    (tidy_from (length grains) grains 0 (replicate (words_for (length grains)) 0) (tidy-zeros (length grains) (words_for (length grains)) (omega (arith, e)) refl) (omega arith))

tidy_if : (b : Bool) (n : ℕ) (words : List ℕ) (g : ℕ) (value : Bool) → IsTidy n words → (b ≡ true → g < n) → IsTidy n (if b then bit_put words g value else words)
tidy_if b n words g value tidy lt = cond_both b (bit_put words g value) words (IsTidy n) (λ e. tidy_put n words g value tidy (lt e)) (λ e. tidy)

-- ---- lists

all_none : {X : Type 0} (P : X → Type 0) → All P []
all_none P k d lt = absurd (omega arith)

all_cons : {X : Type 0} (P : X → Type 0) (x : X) (xs : List X) → P x → All P xs → All P (x ∷ xs)
all_cons P x xs p ps zero d lt = p
all_cons P x xs p ps (suc k) d lt = ps k d (omega arith)

contained : {X : Type 0} (P : X → Type 0) (xs : List X) (x : X) → All P xs → Contains xs x → P x
contained P xs x all (k, lt, e) = subst P e (all k x lt)

-- ---- sizes are those of a volume, which a u32 counts

low_size : (t : Tables) (id : VolId) → All (λ (v : Volume). v.grains < 2 ^ 32) t.volumes → size_in t id < 2 ^ 32
low_size t id all =
    elim (cases_option (volume_with t id)) [
      | inl none ↦ subst (λ (o : Option Volume). grains_told o < 2 ^ 32) (sym none) (omega arith)
      | inr some ↦ subst (λ (o : Option Volume). grains_told o < 2 ^ 32) (sym some.1)
          (contained (λ (v : Volume). v.grains < 2 ^ 32) t.volumes some.0 all (find_from (λ (x : Volume). id.0 == x.id.0) t.volumes some.0 some.1).0)
    ]

-- ---- the image of what metadata says

abbrev TidySlot : Tables → MetaSlot → Type 0
TidySlot t slot = IsTidy (size_in t slot.volume) slot.held

before_tidy : (t : Tables) (s : Slot) (chains : List MetaChain) → TidySlot t (slot_told s) → All (HasTidySlots t) chains → All (HasTidySlots t) (before_chains s chains)
before_tidy t s [] p all = all_cons (HasTidySlots t) (alone_told s) [] (all_cons (TidySlot t) (slot_told s) [] p (all_none (TidySlot t))) all
before_tidy t s (c ∷ cs) p all =
    cond_both (c.label == s.chain) (record c { slots = slot_told s ∷ c.slots } ∷ cs) (alone_told s ∷ c ∷ cs) (All (HasTidySlots t))
    (λ e. all_cons (HasTidySlots t) (record c { slots = slot_told s ∷ c.slots }) cs
    (all_cons (TidySlot t) (slot_told s) c.slots p (head_of (HasTidySlots t) c cs all)) (rest_of (HasTidySlots t) c cs all))
    (λ e. all_cons (HasTidySlots t) (alone_told s) (c ∷ cs) (all_cons (TidySlot t) (slot_told s) [] p (all_none (TidySlot t))) all)

chains_tidy : (t : Tables) (slots : List Slot) → ((k : ℕ) → k < length slots → TidySlot t (slot_told (slot_at slots k))) → All (HasTidySlots t) (chains_told slots)
chains_tidy t [] each = all_none (HasTidySlots t)
chains_tidy t (s ∷ ss) each = before_tidy t s (chains_told ss) (each zero (omega arith)) (chains_tidy t ss (λ k kl. each (suc k) (omega arith)))

changes_tidy : (k : Kept) → IsSoundKept k → (row : Row) → IsOfMapping k.tables row → HasTidyChanges k.tables (changes_told row)
changes_tidy k s row r =
    let m : Mapping = r.mapping in
    let id : MapId = record { 0 = row.map } in
    let size : length row.same ≡ size_in k.tables m.source = row_size k.tables row r (s.books.agree.mappings m r.there) in
    let own : m.id ≡ id = ap (λ (z : ℕ). let w : MapId = record { 0 = z } in w) r.id_is in
    let low = low_size k.tables m.source s.grains in
    record {
      mapping = m;
      there = ap (mapping_with k.tables) (sym own) ∙ found_mapping (books_of k) s.books.tables m r.there;
      changed = tidy_words (size_in k.tables m.source) (map not row.same) (length-map row.same not ∙ size) low;
      kept = tidy_words (size_in k.tables m.source) (replicate (length row.same) true) (length-replicate (length row.same) true ∙ size) low;
    }

pub image_sound : (k : Kept) → IsSoundKept k → IsSoundImage (meta_of k)
image_sound k s =
    let t : Tables = k.tables in
    record {
      says = subst IsSoundKept (sym (said k s)) s;
      slots = chains_tidy t k.sheet.slots (λ i il.
          let id : VolId = record { 0 = (slot_at k.sheet.slots i).volume } in
          tidy_words (size_in t id) (slot_at k.sheet.slots i).held (slot_size (books_of k) s.books i il) (low_size t id s.grains));
      lost = All-map (HasTidyLost t) lost_told k.lost (λ i d il.
          let row : LostGrains = get_or k.lost i d in
          let id : VolId = record { 0 = row.volume } in
          tidy_words (size_in t id) row.lost (s.lost.sizes i d il) (low_size t id s.grains));
      changes = All-map (HasTidyChanges t) changes_told k.rows (λ i d il. changes_tidy k s (get_or k.rows i d) (s.rows.each i d il));
    }

-- ---- through a record

named : (a b : Bool) → (a && b) ≡ true → a ≡ true
named a b e = (and_parts a b e).0

tidy_held : (t : Tables) (slot : MetaSlot) (r : MetaRecord) → FitsRecord t r → TidySlot t slot → TidySlot t (slot_after slot r)
tidy_held t slot (Pair x volume grain in_place empty) fits tidy =
    tidy_if ((volume.0 == slot.volume.0) && (slot.live || not in_place)) (size_in t slot.volume) slot.held grain.0 slot.live tidy
    (λ e. within t slot.volume volume grain.0 fits (eqb-true volume.0 slot.volume.0 (named (volume.0 == slot.volume.0) (slot.live || not in_place) e)))
tidy_held t slot (Written volume grain) fits tidy =
    tidy_if (volume.0 == slot.volume.0) (size_in t slot.volume) slot.held grain.0 slot.live tidy (λ e. within t slot.volume volume grain.0 fits (eqb-true volume.0 slot.volume.0 e))
tidy_held t slot (Torn volume grain Now) fits tidy =
    tidy_if ((volume.0 == slot.volume.0) && (not slot.live || true)) (size_in t slot.volume) slot.held grain.0 slot.live tidy
    (λ e. within t slot.volume volume grain.0 fits (eqb-true volume.0 slot.volume.0 (named (volume.0 == slot.volume.0) (not slot.live || true) e)))
tidy_held t slot (Torn volume grain Under) fits tidy =
    tidy_if ((volume.0 == slot.volume.0) && (not slot.live || false)) (size_in t slot.volume) slot.held grain.0 slot.live tidy
    (λ e. within t slot.volume volume grain.0 fits (eqb-true volume.0 slot.volume.0 (named (volume.0 == slot.volume.0) (not slot.live || false) e)))
tidy_held t slot (Changing volume grain) fits tidy = tidy

tidy_lost : (t : Tables) (row : MetaLost) (r : MetaRecord) → FitsRecord t r → HasTidyLost t row → HasTidyLost t (row_after row r)
tidy_lost t row (Pair x volume grain in_place empty) fits tidy =
    tidy_if ((volume.0 == row.volume.0) && not in_place) (size_in t row.volume) row.lost grain.0 empty tidy
    (λ e. within t row.volume volume grain.0 fits (eqb-true volume.0 row.volume.0 (named (volume.0 == row.volume.0) (not in_place) e)))
tidy_lost t row (Written volume grain) fits tidy =
    tidy_if (volume.0 == row.volume.0) (size_in t row.volume) row.lost grain.0 false tidy (λ e. within t row.volume volume grain.0 fits (eqb-true volume.0 row.volume.0 e))
tidy_lost t row (Torn volume grain side) fits tidy =
    tidy_if (volume.0 == row.volume.0) (size_in t row.volume) row.lost grain.0 true tidy (λ e. within t row.volume volume grain.0 fits (eqb-true volume.0 row.volume.0 e))
tidy_lost t row (Changing volume grain) fits tidy = tidy

tidy_changed : (image : MetaImage) → IsSoundKept (kept_in image) → (row : MetaChanges) (v : VolId) (g : ℕ) → g < size_in (tables_in image) v → HasTidyChanges (tables_in image) row →
    HasTidyChanges (tables_in image) (record row { changed = if names_volume image.mappings row.map v then with_bit row.changed g else row.changed })
tidy_changed image s row v g lt h =
    let t : Tables = tables_in image in
    let m : Mapping = h.mapping in
    let f = find_from (λ (x : Mapping). row.map.0 == x.id.0) t.mappings m h.there in
    let of = s.books.agree.mappings m f.0 in
    record {
      mapping = m;
      there = h.there;
      kept = h.kept;
      changed = tidy_if (names_volume image.mappings row.map v) (size_in t m.source) row.changed g true h.changed
          (λ e.
          let q : size_in t v ≡ size_in t m.source = named_size t m v of (sym (names_is (books_of (kept_in image)) s.books.tables row.map m v h.there) ∙ e) in omega arith);
    }

tidy_changes : (image : MetaImage) → IsSoundKept (kept_in image) → (row : MetaChanges) (r : MetaRecord) → FitsRecord (tables_in image) r → HasTidyChanges (tables_in image) row →
    HasTidyChanges (tables_in image) (changes_after image.mappings row r)
tidy_changes image s row (Pair x volume grain in_place empty) fits h = h
tidy_changes image s row (Written volume grain) fits h = tidy_changed image s row volume grain.0 fits h
tidy_changes image s row (Torn volume grain Now) fits h = tidy_changed image s row volume grain.0 fits h
tidy_changes image s row (Torn volume grain Under) fits h = h
tidy_changes image s row (Changing volume grain) fits h = tidy_changed image s row volume grain.0 fits h

pub image_stays : (image : MetaImage) (r : MetaRecord) → IsSoundImage image → FitsRecord (tables_in image) r → FitsChains (kept_in image).sheet r → IsSoundImage (after_record image r)
unfolding after_record
image_stays image r s fits chains =
    let t : Tables = tables_in image in
    record {
      says = subst IsSoundKept (sym (recorded image r s fits)) (kept_sound (kept_in image) r s.says chains);
      slots = All-map (HasTidySlots t) (λ chain. chain_after chain r) image.chains (λ i d il.
          let chain : MetaChain = get_or image.chains i d in
          All-map (TidySlot t) (λ slot. slot_after slot r) chain.slots (λ j e jl. tidy_held t (get_or chain.slots j e) r fits (s.slots i d il j e jl)));
      lost = All-map (HasTidyLost t) (λ row. row_after row r) image.lost (λ i d il. tidy_lost t (get_or image.lost i d) r fits (s.lost i d il));
      changes = All-map (HasTidyChanges t) (λ row. changes_after image.mappings row r) image.changes
          (λ i d il. tidy_changes image s.says (get_or image.changes i d) r fits (s.changes i d il));
    }
