-- A record does to the image what it does to all that it says.
use Rattle.std.proofs.Common.{◌≡◌, ℕ, ◌<◌, Bool, true, false, not, cond, Some, List, [], ◌∷◌, ◌++◌, length, map, set, refl, sym, ap, ◌∙◌, arith, All, inl, inr}
use Rattle.std.specs.Prelude.{◌==◌, ◌&&◌, ◌||◌, if◌then◌else◌}
use Rattle.std.specs.List.{flat_map}
use Rattle.std.proofs.lemmas.Bool.{cases_Bool, cases_eq, eq-eqb, ne_eqb}
use Rattle.std.proofs.lemmas.List.{map-append, map-id}
use Rattle.fc_base.specs.Sheet.{Slot, Sheet}
use Rattle.fc_base.specs.SheetStep.{grain_taken, grain_kept, grain_lost}
use Rattle.fc_base.specs.Tables.{Tables}
use Rattle.fc_base.specs.declared.ids.VolId.{VolId}
use Rattle.fc_base.specs.declared.request.Side.TheVariants.{Now, Under}
use Rattle.fc_base.specs.declared.volume.Mapping.{Mapping}
use Rattle.fc_bits.specs.Grains.{difference}
use Rattle.fc_bits.specs.Words.{grains_of, words_for, IsTidy}
use Rattle.fc_bits.proofs.Bridge.{length-grains_of}
use Rattle.fc_books.specs.Sound.{AreSound}
use Rattle.fc_changed.specs.Notes.{names}
use Rattle.fc_changed.specs.Row.{Row, row_wrote}
use Rattle.fc_decided.proofs.Lists.{find_from}
use Rattle.fc_image.specs.Records.{names_volume, slot_after, chain_after, row_after, changes_after, after_record}
use Rattle.fc_image.specs.Words.{with_bit, bit_put}
use Rattle.fc_image.specs.declared.image.MetaSlot.{MetaSlot}
use Rattle.fc_image.specs.declared.image.MetaChain.{MetaChain}
use Rattle.fc_image.specs.declared.image.MetaLost.{MetaLost}
use Rattle.fc_image.specs.declared.image.MetaChanges.{MetaChanges}
use Rattle.fc_image.specs.declared.image.MetaImage.{MetaImage}
use Rattle.fc_image.specs.declared.record.MetaRecord.{MetaRecord}
use Rattle.fc_image.specs.declared.record.MetaRecord.TheVariants.{Pair, Written, Torn, Changing}
use Rattle.fc_kept.specs.Kept.{LostGrains, Kept, sheet_kept, rows_kept, lost_put, lost_kept, kept_after}
use Rattle.fc_kept.specs.Images.{size_in, tables_in, slot_in, slots_in, row_of, row_in, lost_in, kept_in}
use Rattle.fc_kept.specs.Sound.{books_of, HasTidySlots, HasTidyLost, HasTidyChanges, IsSoundImage, FitsRecord}
use Rattle.fc_kept.proofs.Said.{head_of, rest_of}
use Rattle.fc_kept.proofs.Words.{put_grains, difference_set}
use Rattle.fc_kept.proofs.Sizes.{names_is, named_size}

-- ---- tests

live_or_not : (x live : Bool) → (x && (live || true)) ≡ x
live_or_not true true = refl
live_or_not true false = refl
live_or_not false live = refl

live_alone : (x live : Bool) → (x && (live || false)) ≡ (x && live)
live_alone x true = refl
live_alone x false = refl

all_of : (x live : Bool) → (x && (not live || true)) ≡ x
all_of true true = refl
all_of true false = refl
all_of false live = refl

old_alone : (x live : Bool) → (x && (not live || false)) ≡ (x && not live)
old_alone x true = refl
old_alone x false = refl

and_true : (x : Bool) → (x && true) ≡ x
and_true true = refl
and_true false = refl

-- ---- slots

-- a slot with this liveness and volume, that holds what words hold of n grains
abbrev of_words : Slot → Bool → ℕ → List Bool → Slot
of_words s live v held = record s { is_live = live; volume = v; held = held }

taken_words : (s : Slot) (live : Bool) (n v w g : ℕ) (words : List ℕ) → length words ≡ words_for n → (w ≡ v → g < n) →
    of_words s live v (grains_of n (if w == v then bit_put words g live else words)) ≡ grain_taken w g (of_words s live v (grains_of n words))
taken_words s live n v w g words e lt =
    let T : Slot = of_words s live v (grains_of n words) in
    elim (cases_eq w v) [
      | inl q ↦ ap (λ (z : Bool). of_words s live v (grains_of n (cond z (bit_put words g live) words))) (eq-eqb w v q)
          ∙ (ap (of_words s live v) (put_grains n words g live e (lt q))
          ∙ sym (ap (λ (z : Bool). cond z (record T { held = set (grains_of n words) g live }) T) (eq-eqb v w (sym q))))
      | inr ne ↦ ap (λ (z : Bool). of_words s live v (grains_of n (cond z (bit_put words g live) words))) (ne_eqb w v ne)
          ∙ sym (ap (λ (z : Bool). cond z (record T { held = set (grains_of n words) g live }) T) (ne_eqb v w (λ q. ne (sym q))))
    ]

kept_words : (s : Slot) (live : Bool) (n v w g : ℕ) (words : List ℕ) → length words ≡ words_for n → (w ≡ v → g < n) →
    of_words s live v (grains_of n (if (w == v) && live then bit_put words g live else words)) ≡ grain_kept w g (of_words s live v (grains_of n words))
kept_words s true n v w g words e lt =
    let T : Slot = of_words s true v (grains_of n words) in
    elim (cases_eq w v) [
      | inl q ↦ ap (λ (z : Bool). of_words s true v (grains_of n (cond (z && true) (bit_put words g true) words))) (eq-eqb w v q)
          ∙ (ap (of_words s true v) (put_grains n words g true e (lt q))
          ∙ sym (ap (λ (z : Bool). cond z (record T { held = set (grains_of n words) g true }) T) (eq-eqb v w (sym q))))
      | inr ne ↦ ap (λ (z : Bool). of_words s true v (grains_of n (cond (z && true) (bit_put words g true) words))) (ne_eqb w v ne)
          ∙ sym (ap (λ (z : Bool). cond z (record T { held = set (grains_of n words) g true }) T) (ne_eqb v w (λ q. ne (sym q))))
    ]
kept_words s false n v w g words e lt = elim (cases_Bool (w == v)) [
  | inl t ↦ ap (λ (z : Bool). of_words s false v (grains_of n (cond (z && false) (bit_put words g false) words))) t
  | inr f ↦ ap (λ (z : Bool). of_words s false v (grains_of n (cond (z && false) (bit_put words g false) words))) f
]

lost_words : (s : Slot) (live : Bool) (n v w g : ℕ) (words : List ℕ) → length words ≡ words_for n → (w ≡ v → g < n) →
    of_words s live v (grains_of n (if (w == v) && not live then bit_put words g live else words)) ≡ grain_lost w g (of_words s live v (grains_of n words))
lost_words s true n v w g words e lt = elim (cases_Bool (w == v)) [
  | inl t ↦ ap (λ (z : Bool). of_words s true v (grains_of n (cond (z && false) (bit_put words g true) words))) t
  | inr f ↦ ap (λ (z : Bool). of_words s true v (grains_of n (cond (z && false) (bit_put words g true) words))) f
]
lost_words s false n v w g words e lt =
    let T : Slot = of_words s false v (grains_of n words) in
    elim (cases_eq w v) [
      | inl q ↦ ap (λ (z : Bool). of_words s false v (grains_of n (cond (z && true) (bit_put words g false) words))) (eq-eqb w v q)
          ∙ (ap (of_words s false v) (put_grains n words g false e (lt q))
          ∙ sym (ap (λ (z : Bool). cond z (record T { held = set (grains_of n words) g false }) T) (eq-eqb v w (sym q))))
      | inr ne ↦ ap (λ (z : Bool). of_words s false v (grains_of n (cond (z && true) (bit_put words g false) words))) (ne_eqb w v ne)
          ∙ sym (ap (λ (z : Bool). cond z (record T { held = set (grains_of n words) g false }) T) (ne_eqb v w (λ q. ne (sym q))))
    ]

-- what a record does to a slot
abbrev slot_kept : MetaRecord → Slot → Slot
slot_kept (Pair slot volume grain in_place empty) s = cond in_place (grain_kept volume.0 grain.0) (grain_taken volume.0 grain.0) s
slot_kept (Written volume grain) s = grain_taken volume.0 grain.0 s
slot_kept (Torn volume grain Now) s = grain_taken volume.0 grain.0 s
slot_kept (Torn volume grain Under) s = grain_lost volume.0 grain.0 s
slot_kept (Changing volume grain) s = s

slots_kept : (s : Sheet) (r : MetaRecord) → sheet_kept s r ≡ record s { slots = map (slot_kept r) s.slots }
slots_kept s (Pair slot volume grain true empty) = refl
slots_kept s (Pair slot volume grain false empty) = refl
slots_kept s (Written volume grain) = refl
slots_kept s (Torn volume grain Now) = refl
slots_kept s (Torn volume grain Under) = refl
slots_kept s (Changing volume grain) = λ i. record s { slots = sym (map-id s.slots) i }

vol_at : (a b : VolId) → a.0 ≡ b.0 → a ≡ b
vol_at a b e = ap (λ (z : ℕ). let w : VolId = record { 0 = z } in w) e

pub within : (t : Tables) (v w : VolId) (g : ℕ) → g < size_in t w → w.0 ≡ v.0 → g < size_in t v
within t v w g lt e = let q : size_in t w ≡ size_in t v = ap (size_in t) (vol_at w v e) in omega arith

slot_recorded : (t : Tables) (label : ℕ) (slot : MetaSlot) (r : MetaRecord) → IsTidy (size_in t slot.volume) slot.held → FitsRecord t r →
    slot_in t label (slot_after slot r) ≡ slot_kept r (slot_in t label slot)
slot_recorded t label slot (Pair x volume grain true empty) tidy fits =
    let v : ℕ = slot.volume.0 in
    let n : ℕ = size_in t slot.volume in
    ap (λ (z : Bool). of_words (slot_in t label slot) slot.live v (grains_of n (cond z (bit_put slot.held grain.0 slot.live) slot.held))) (live_alone (volume.0 == v) slot.live)
    ∙ kept_words (slot_in t label slot) slot.live n v volume.0 grain.0 slot.held tidy.enough (within t slot.volume volume grain.0 fits)
slot_recorded t label slot (Pair x volume grain false empty) tidy fits =
    let v : ℕ = slot.volume.0 in
    let n : ℕ = size_in t slot.volume in
    ap (λ (z : Bool). of_words (slot_in t label slot) slot.live v (grains_of n (cond z (bit_put slot.held grain.0 slot.live) slot.held))) (live_or_not (volume.0 == v) slot.live)
    ∙ taken_words (slot_in t label slot) slot.live n v volume.0 grain.0 slot.held tidy.enough (within t slot.volume volume grain.0 fits)
slot_recorded t label slot (Written volume grain) tidy fits =
    taken_words (slot_in t label slot) slot.live (size_in t slot.volume) slot.volume.0 volume.0 grain.0 slot.held tidy.enough (within t slot.volume volume grain.0 fits)
slot_recorded t label slot (Torn volume grain Now) tidy fits =
    let v : ℕ = slot.volume.0 in
    let n : ℕ = size_in t slot.volume in
    ap (λ (z : Bool). of_words (slot_in t label slot) slot.live v (grains_of n (cond z (bit_put slot.held grain.0 slot.live) slot.held))) (all_of (volume.0 == v) slot.live)
    ∙ taken_words (slot_in t label slot) slot.live n v volume.0 grain.0 slot.held tidy.enough (within t slot.volume volume grain.0 fits)
slot_recorded t label slot (Torn volume grain Under) tidy fits =
    let v : ℕ = slot.volume.0 in
    let n : ℕ = size_in t slot.volume in
    ap (λ (z : Bool). of_words (slot_in t label slot) slot.live v (grains_of n (cond z (bit_put slot.held grain.0 slot.live) slot.held))) (old_alone (volume.0 == v) slot.live)
    ∙ lost_words (slot_in t label slot) slot.live n v volume.0 grain.0 slot.held tidy.enough (within t slot.volume volume grain.0 fits)
slot_recorded t label slot (Changing volume grain) tidy fits = refl

-- ---- lists

-- where a change before reading is one after it, it is so of all
all_recorded : {X Y : Type 0} (read : X → Y) (before : X → X) (after : Y → Y) (P : X → Type 0) → ((x : X) → P x → read (before x) ≡ after (read x)) →
    (xs : List X) → All P xs → map read (map before xs) ≡ map after (map read xs)
all_recorded read before after P e [] all = refl
all_recorded read before after P e (x ∷ xs) all =
    ap (λ z. z ∷ map read (map before xs)) (e x (head_of P x xs all))
    ∙ ap (λ z. after (read x) ∷ z) (all_recorded read before after P e xs (rest_of P x xs all))

chains_recorded : (t : Tables) (r : MetaRecord) → FitsRecord t r → (chains : List MetaChain) → All (HasTidySlots t) chains →
    flat_map (slots_in t) (map (λ chain. chain_after chain r) chains) ≡ map (slot_kept r) (flat_map (slots_in t) chains)
chains_recorded t r fits [] tidy = refl
chains_recorded t r fits (c ∷ cs) tidy =
    ap (λ (z : List Slot). z ++ flat_map (slots_in t) (map (λ chain. chain_after chain r) cs))
    (all_recorded (slot_in t c.label) (λ slot. slot_after slot r) (slot_kept r) (λ (slot : MetaSlot). IsTidy (size_in t slot.volume) slot.held)
    (λ slot h. slot_recorded t c.label slot r h fits) c.slots (head_of (HasTidySlots t) c cs tidy))
    ∙ (ap (λ (z : List Slot). map (slot_kept r) (slots_in t c) ++ z) (chains_recorded t r fits cs (rest_of (HasTidySlots t) c cs tidy))
    ∙ sym (map-append (slot_kept r) (slots_in t c) (flat_map (slots_in t) cs)))

-- ---- lost grains

abbrev lost_change : MetaRecord → LostGrains → LostGrains
lost_change (Pair slot volume grain in_place empty) row = cond in_place row (lost_put volume.0 grain.0 empty row)
lost_change (Written volume grain) row = lost_put volume.0 grain.0 false row
lost_change (Torn volume grain side) row = lost_put volume.0 grain.0 true row
lost_change (Changing volume grain) row = row

lost_changed : (lost : List LostGrains) (r : MetaRecord) → map (lost_change r) lost ≡ lost_kept lost r
lost_changed lost (Pair slot volume grain true empty) = map-id lost
lost_changed lost (Pair slot volume grain false empty) = refl
lost_changed lost (Written volume grain) = refl
lost_changed lost (Torn volume grain side) = refl
lost_changed lost (Changing volume grain) = map-id lost

abbrev grains_row : ℕ → List Bool → LostGrains
grains_row v lost = record { volume = v; lost = lost }

put_words : (n v w g : ℕ) (b : Bool) (words : List ℕ) → length words ≡ words_for n → (w ≡ v → g < n) →
    grains_row v (grains_of n (if w == v then bit_put words g b else words)) ≡ lost_put w g b (grains_row v (grains_of n words))
put_words n v w g b words e lt =
    let R : LostGrains = grains_row v (grains_of n words) in
    elim (cases_eq w v) [
      | inl q ↦ ap (λ (z : Bool). grains_row v (grains_of n (cond z (bit_put words g b) words))) (eq-eqb w v q)
          ∙ (ap (grains_row v) (put_grains n words g b e (lt q))
          ∙ sym (ap (λ (z : Bool). cond z (record R { lost = set (grains_of n words) g b }) R) (eq-eqb v w (sym q))))
      | inr ne ↦ ap (λ (z : Bool). grains_row v (grains_of n (cond z (bit_put words g b) words))) (ne_eqb w v ne)
          ∙ sym (ap (λ (z : Bool). cond z (record R { lost = set (grains_of n words) g b }) R) (ne_eqb v w (λ q. ne (sym q))))
    ]

none_and : (x : Bool) → (x && false) ≡ false
none_and true = refl
none_and false = refl

lost_recorded : (t : Tables) (row : MetaLost) (r : MetaRecord) → HasTidyLost t row → FitsRecord t r → lost_in t (row_after row r) ≡ lost_change r (lost_in t row)
lost_recorded t row (Pair slot volume grain true empty) tidy fits =
    ap (λ (z : Bool). grains_row row.volume.0 (grains_of (size_in t row.volume) (cond z (bit_put row.lost grain.0 empty) row.lost))) (none_and (volume.0 == row.volume.0))
lost_recorded t row (Pair slot volume grain false empty) tidy fits =
    ap (λ (z : Bool). grains_row row.volume.0 (grains_of (size_in t row.volume) (cond z (bit_put row.lost grain.0 empty) row.lost))) (and_true (volume.0 == row.volume.0))
    ∙ put_words (size_in t row.volume) row.volume.0 volume.0 grain.0 empty row.lost tidy.enough (within t row.volume volume grain.0 fits)
lost_recorded t row (Written volume grain) tidy fits = put_words (size_in t row.volume) row.volume.0 volume.0 grain.0 false row.lost tidy.enough (within t row.volume volume grain.0 fits)
lost_recorded t row (Torn volume grain side) tidy fits = put_words (size_in t row.volume) row.volume.0 volume.0 grain.0 true row.lost tidy.enough (within t row.volume volume grain.0 fits)
lost_recorded t row (Changing volume grain) tidy fits = refl

-- ---- rows

abbrev row_change : MetaRecord → Row → Row
row_change (Pair slot volume grain in_place empty) row = row
row_change (Written volume grain) row = row_wrote volume.0 grain.0 row
row_change (Torn volume grain Now) row = row_wrote volume.0 grain.0 row
row_change (Torn volume grain Under) row = row
row_change (Changing volume grain) row = row_wrote volume.0 grain.0 row

rows_changed : (rows : List Row) (r : MetaRecord) → map (row_change r) rows ≡ rows_kept rows r
rows_changed rows (Pair slot volume grain in_place empty) = map-id rows
rows_changed rows (Written volume grain) = refl
rows_changed rows (Torn volume grain Now) = refl
rows_changed rows (Torn volume grain Under) = map-id rows
rows_changed rows (Changing volume grain) = refl

-- what a row of this mapping has, where so much changed
abbrev row_with : Tables → MetaChanges → Mapping → List ℕ → Row
row_with t row m changed = row_of t (record row { changed = changed }) (Some m)

marked_row : (t : Tables) (row : MetaChanges) (m : Mapping) (v : VolId) (g : ℕ) → IsTidy (size_in t m.source) row.changed →
    (names m.source.0 m.target.0 v.0 ≡ true → g < size_in t m.source) → (named : Bool) → names m.source.0 m.target.0 v.0 ≡ named →
    row_with t row m (if named then with_bit row.changed g else row.changed) ≡ row_wrote v.0 g (row_with t row m row.changed)
marked_row t row m v g tidy lt true e =
    let n : ℕ = size_in t m.source in
    let R : Row = row_with t row m row.changed in
    (λ i. record R { same = difference (grains_of n row.kept) (put_grains n row.changed g true tidy.enough (lt e) i) })
    ∙ ((λ i. record R { same = difference_set (grains_of n row.kept) (grains_of n row.changed) g (length-grains_of n row.kept ∙ sym (length-grains_of n row.changed)) i })
    ∙ sym (ap (λ (z : Bool). cond z (record R { same = set R.same g false }) R) e))
marked_row t row m v g tidy lt false e =
    let R : Row = row_with t row m row.changed in
    sym (ap (λ (z : Bool). cond z (record R { same = set R.same g false }) R) e)

wrote_recorded : (image : MetaImage) → AreSound (books_of (kept_in image)) → (row : MetaChanges) (v : VolId) (g : ℕ) → HasTidyChanges (tables_in image) row → g < size_in (tables_in image) v →
    row_in (tables_in image) (record row { changed = if names_volume image.mappings row.map v then with_bit row.changed g else row.changed }) ≡ row_wrote v.0 g (row_in (tables_in image) row)
wrote_recorded image sound row v g h lt =
    let t : Tables = tables_in image in
    let m : Mapping = h.mapping in
    let f = find_from (λ (x : Mapping). row.map.0 == x.id.0) t.mappings m h.there in
    let of = sound.agree.mappings m f.0 in
    let test : Bool = names m.source.0 m.target.0 v.0 in
    ap (row_of t (record row { changed = if names_volume image.mappings row.map v then with_bit row.changed g else row.changed })) h.there
    ∙ (ap (λ (z : Bool). row_with t row m (if z then with_bit row.changed g else row.changed)) (names_is (books_of (kept_in image)) sound.tables row.map m v h.there)
    ∙ (marked_row t row m v g h.changed (λ named. let q : size_in t v ≡ size_in t m.source = named_size t m v of named in omega arith) test refl
    ∙ ap (row_wrote v.0 g) (sym (ap (row_of t row) h.there))))

row_recorded : (image : MetaImage) → AreSound (books_of (kept_in image)) → (row : MetaChanges) (r : MetaRecord) → HasTidyChanges (tables_in image) row → FitsRecord (tables_in image) r →
    row_in (tables_in image) (changes_after image.mappings row r) ≡ row_change r (row_in (tables_in image) row)
row_recorded image sound row (Pair slot volume grain in_place empty) h fits = refl
row_recorded image sound row (Written volume grain) h fits = wrote_recorded image sound row volume grain.0 h fits
row_recorded image sound row (Torn volume grain Now) h fits = wrote_recorded image sound row volume grain.0 h fits
row_recorded image sound row (Torn volume grain Under) h fits = refl
row_recorded image sound row (Changing volume grain) h fits = wrote_recorded image sound row volume grain.0 h fits

-- ---- all

pub recorded : (image : MetaImage) (r : MetaRecord) → IsSoundImage image → FitsRecord (tables_in image) r → kept_in (after_record image r) ≡ kept_after (kept_in image) r
unfolding after_record
recorded image r s fits =
    let t : Tables = tables_in image in
    let k : Kept = kept_in image in
    let slots : flat_map (slots_in t) (map (λ chain. chain_after chain r) image.chains) ≡ map (slot_kept r) k.sheet.slots = chains_recorded t r fits image.chains s.slots in
    let sheet : record k.sheet { slots = flat_map (slots_in t) (map (λ chain. chain_after chain r) image.chains) } ≡ sheet_kept k.sheet r =
    (λ i. record k.sheet { slots = slots i }) ∙ sym (slots_kept k.sheet r) in
    let rows : map (row_in t) (map (λ row. changes_after image.mappings row r) image.changes) ≡ rows_kept k.rows r =
    all_recorded (row_in t) (λ row. changes_after image.mappings row r) (row_change r) (HasTidyChanges t) (λ row h. row_recorded image s.says.books row r h fits) image.changes s.changes
    ∙ rows_changed k.rows r in
    let lost : map (lost_in t) (map (λ row. row_after row r) image.lost) ≡ lost_kept k.lost r =
    all_recorded (lost_in t) (λ row. row_after row r) (lost_change r) (HasTidyLost t) (λ row h. lost_recorded t row r h fits) image.lost s.lost
    ∙ lost_changed k.lost r in
    λ i. record {
      tables = t;
      next_volume = image.next_volume;
      next_mapping = image.next_map;
      next_group = image.next_group;
      sheet = sheet i;
      rows = rows i;
      lost = lost i;
    }
