-- An image stays sound through a record that fits and leaves what it says sound, and its ids stay good.
use Rattle.std.proofs.Common.{◌≡◌, ℕ, ◌<◌, List, Bool, true, false, not, ◌&&◌, ◌||◌, get_or, subst, sym, ◌∙◌, arith, All}
use Rattle.std.specs.Prelude.{◌==◌, if◌then◌else◌}
use Rattle.std.proofs.lemmas.Bool.{cond_both, eqb-true, and_parts}
use Rattle.std.proofs.lemmas.List.Elements.{All-map}
use Rattle.fc_base.specs.Tables.{Tables}
use Rattle.fc_base.specs.declared.ids.VolId.{VolId}
use Rattle.fc_base.specs.declared.request.Side.TheVariants.{Now, Under}
use Rattle.fc_base.specs.declared.volume.Mapping.{Mapping}
use Rattle.fc_bits.specs.Words.{IsTidy}
use Rattle.fc_bits.proofs.Bridge.{tidy-with, tidy-without}
use Rattle.fc_decided.proofs.Lists.{find_from}
use Rattle.fc_format.specs.Ranges.{HasGoodIds, IsMappingId, IsVolumeId}
use Rattle.fc_image.specs.Records.{after_record, chain_after, changes_after, names_volume, row_after, slot_after}
use Rattle.fc_image.specs.Words.{bit_put}
use Rattle.fc_image.specs.declared.image.MetaChain.{MetaChain}
use Rattle.fc_image.specs.declared.image.MetaChanges.{MetaChanges}
use Rattle.fc_image.specs.declared.image.MetaImage.{MetaImage}
use Rattle.fc_image.specs.declared.image.MetaLost.{MetaLost}
use Rattle.fc_image.specs.declared.image.MetaSlot.{MetaSlot}
use Rattle.fc_image.specs.declared.record.MetaRecord.{MetaRecord}
use Rattle.fc_image.specs.declared.record.MetaRecord.TheVariants.{Changing, Pair, Torn, Written}
use Rattle.fc_kept.specs.Images.{kept_in, size_in, tables_in}
use Rattle.fc_kept.specs.Kept.{kept_after}
use Rattle.fc_kept.specs.Sound.{FitsRecord, HasTidyChanges, HasTidyLost, HasTidySlots, IsSoundImage, IsSoundKept, books_of}
use Rattle.fc_kept.proofs.Recorded.{recorded, within}
use Rattle.fc_kept.proofs.Sizes.{named_size, names_is}
use Rattle.fc_kept.proofs.Words.{with_is, without_is}

-- ---- words

put_tidy : (n : ℕ) (words : List ℕ) (g : ℕ) (b : Bool) → IsTidy n words → g < n → IsTidy n (bit_put words g b)
put_tidy n words g true tidy lt = subst (IsTidy n) (sym (with_is words g)) (tidy-with n words g tidy lt)
put_tidy n words g false tidy lt = subst (IsTidy n) (sym (without_is words g)) (tidy-without n words g tidy lt)

-- words of a volume's grains, in which a grain of a volume may be put
may_put : (t : Tables) (v u : VolId) (g : ℕ) (b value : Bool) (words : List ℕ) → g < size_in t u → IsTidy (size_in t v) words → (b ≡ true → (u.0 == v.0) ≡ true) → IsTidy (size_in t v) (if b then bit_put words g value else words)
may_put t v u g b value words fits tidy same =
    cond_both b (bit_put words g value) words (IsTidy (size_in t v)) (λ e. put_tidy (size_in t v) words g value tidy (within t v u g fits (eqb-true u.0 v.0 (same e)))) (λ e. tidy)

first_true : (a b : Bool) → (a && b) ≡ true → a ≡ true
first_true a b e = (and_parts a b e).0

abbrev TidyHeld : Tables → MetaSlot → Type 0
TidyHeld t slot = IsTidy (size_in t slot.volume) slot.held

held_tidy : (t : Tables) (slot : MetaSlot) (r : MetaRecord) → FitsRecord t r → TidyHeld t slot → TidyHeld t (slot_after slot r)
held_tidy t slot (Pair x u g in_place empty) fits tidy =
    may_put t slot.volume u g.0 ((u.0 == slot.volume.0) && (slot.live || not in_place)) slot.live slot.held fits tidy (first_true (u.0 == slot.volume.0) (slot.live || not in_place))
held_tidy t slot (Written u g) fits tidy = may_put t slot.volume u g.0 (u.0 == slot.volume.0) slot.live slot.held fits tidy (λ e. e)
held_tidy t slot (Torn u g Now) fits tidy =
    may_put t slot.volume u g.0 ((u.0 == slot.volume.0) && (not slot.live || true)) slot.live slot.held fits tidy (first_true (u.0 == slot.volume.0) (not slot.live || true))
held_tidy t slot (Torn u g Under) fits tidy =
    may_put t slot.volume u g.0 ((u.0 == slot.volume.0) && (not slot.live || false)) slot.live slot.held fits tidy (first_true (u.0 == slot.volume.0) (not slot.live || false))
held_tidy t slot (Changing u g) fits tidy = tidy

lost_tidy : (t : Tables) (row : MetaLost) (r : MetaRecord) → FitsRecord t r → HasTidyLost t row → HasTidyLost t (row_after row r)
lost_tidy t row (Pair x u g in_place empty) fits tidy =
    may_put t row.volume u g.0 ((u.0 == row.volume.0) && not in_place) empty row.lost fits tidy (first_true (u.0 == row.volume.0) (not in_place))
lost_tidy t row (Written u g) fits tidy = may_put t row.volume u g.0 (u.0 == row.volume.0) false row.lost fits tidy (λ e. e)
lost_tidy t row (Torn u g side) fits tidy = may_put t row.volume u g.0 (u.0 == row.volume.0) true row.lost fits tidy (λ e. e)
lost_tidy t row (Changing u g) fits tidy = tidy

-- ---- what changed

module _ (image : MetaImage) (s : IsSoundKept (kept_in image)) (row : MetaChanges) (h : HasTidyChanges (tables_in image) row) where
  changed_tidy : (u : VolId) (g : ℕ) → g < size_in (tables_in image) u →
      HasTidyChanges (tables_in image) (record row { changed = if names_volume image.mappings row.map u then bit_put row.changed g true else row.changed })
  changed_tidy u g fits =
      let t : Tables = tables_in image in
      let m : Mapping = h.mapping in
      let of = s.books.agree.mappings m (find_from (λ (x : Mapping). row.map.0 == x.id.0) t.mappings m h.there).0 in
      record {
        mapping = m;
        there = h.there;
        kept = h.kept;
        changed = cond_both (names_volume image.mappings row.map u) (bit_put row.changed g true) row.changed (IsTidy (size_in t m.source))
            (λ e.
            let as_large : size_in t u ≡ size_in t m.source = named_size t m u of (sym (names_is (books_of (kept_in image)) s.books.tables row.map m u h.there) ∙ e) in
            put_tidy (size_in t m.source) row.changed g true h.changed (omega (arith, as_large, fits)))
            (λ e. h.changed);
      }

  changes_tidy : (r : MetaRecord) → FitsRecord (tables_in image) r → HasTidyChanges (tables_in image) (changes_after image.mappings row r)
  changes_tidy (Pair x u g in_place empty) fits = h
  changes_tidy (Written u g) fits = changed_tidy u g.0 fits
  changes_tidy (Torn u g Now) fits = changed_tidy u g.0 fits
  changes_tidy (Torn u g Under) fits = h
  changes_tidy (Changing u g) fits = changed_tidy u g.0 fits

-- ---- the image

pub image_with : (image : MetaImage) (r : MetaRecord) → IsSoundImage image → FitsRecord (tables_in image) r → IsSoundKept (kept_after (kept_in image) r) → IsSoundImage (after_record image r)
unfolding after_record
image_with image r s fits says =
    let t : Tables = tables_in image in
    record {
      says = subst IsSoundKept (sym (recorded image r s fits)) says;
      slots = All-map (HasTidySlots t) (λ chain. chain_after chain r) image.chains (λ i d il.
          let chain : MetaChain = get_or image.chains i d in
          All-map (TidyHeld t) (λ slot. slot_after slot r) chain.slots (λ j e jl. held_tidy t (get_or chain.slots j e) r fits (s.slots i d il j e jl)));
      lost = All-map (HasTidyLost t) (λ row. row_after row r) image.lost (λ i d il. lost_tidy t (get_or image.lost i d) r fits (s.lost i d il));
      changes = All-map (HasTidyChanges t) (λ row. changes_after image.mappings row r) image.changes
          (λ i d il. changes_tidy image s.says (get_or image.changes i d) (s.changes i d il) r fits);
    }

pub ids_with : (image : MetaImage) (r : MetaRecord) → HasGoodIds image → HasGoodIds (after_record image r)
unfolding after_record
ids_with image r good =
    record {
      groups = good.groups;
      slots = All-map (λ (c : MetaChain). All (λ (s : MetaSlot). IsMappingId s.map) c.slots) (λ chain. chain_after chain r) image.chains (λ i d il.
          let chain : MetaChain = get_or image.chains i d in
          All-map (λ (s : MetaSlot). IsMappingId s.map) (λ slot. slot_after slot r) chain.slots (λ j e jl. good.slots i d il j e jl));
      sources = All-map (λ (c : MetaChanges). IsVolumeId c.last_source) (λ row. changes_after image.mappings row r) image.changes (λ i d il. good.sources i d il);
      targets = All-map (λ (c : MetaChanges). IsVolumeId c.last_target) (λ row. changes_after image.mappings row r) image.changes (λ i d il. good.targets i d il);
    }
