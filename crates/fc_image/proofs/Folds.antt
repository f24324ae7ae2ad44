-- An image with all records applied, part by part.
use Rattle.std.proofs.Common.{◌≡◌, List, [], ◌∷◌, map, refl, ap, ◌∙◌}
use Rattle.std.specs.List.{fold}
use Rattle.fc_base.specs.declared.volume.Mapping.{Mapping}
use Rattle.fc_image.specs.declared.record.MetaRecord.{MetaRecord}
use Rattle.fc_image.specs.declared.image.MetaSlot.{MetaSlot}
use Rattle.fc_image.specs.declared.image.MetaChain.{MetaChain}
use Rattle.fc_image.specs.declared.image.MetaLost.{MetaLost}
use Rattle.fc_image.specs.declared.image.MetaChanges.{MetaChanges}
use Rattle.fc_image.specs.declared.image.MetaImage.{MetaImage}
use Rattle.fc_image.specs.Records.{held_after, lost_after, changed_after, slot_after, chain_after, row_after, changes_after, after_record, after_records}

map_same : {A : Type 0} (xs : List A) → xs ≡ map (λ x. x) xs
map_same [] = refl
map_same (x ∷ xs) = ap (λ z. x ∷ z) (map_same xs)

map_twice : {A B C : Type 0} (f : B → C) (g : A → B) (xs : List A) → map f (map g xs) ≡ map (λ x. f (g x)) xs
map_twice f g [] = refl
map_twice f g (x ∷ xs) = ap (λ z. f (g x) ∷ z) (map_twice f g xs)

pub slot_folds : (slot : MetaSlot) (rs : List MetaRecord) → fold slot_after slot rs ≡ record slot { held = fold (held_after slot.volume slot.live) slot.held rs }
slot_folds slot [] = refl
slot_folds slot (r ∷ rs) = slot_folds (slot_after slot r) rs

pub row_folds : (row : MetaLost) (rs : List MetaRecord) → fold row_after row rs ≡ record row { lost = fold (lost_after row.volume) row.lost rs }
row_folds row [] = refl
row_folds row (r ∷ rs) = row_folds (row_after row r) rs

pub changes_folds : (mappings : List Mapping) (row : MetaChanges) (rs : List MetaRecord)
    → fold (changes_after mappings) row rs ≡ record row { changed = fold (changed_after mappings row.map) row.changed rs }
changes_folds mappings row [] = refl
changes_folds mappings row (r ∷ rs) = changes_folds mappings (changes_after mappings row r) rs

pub chain_folds : (chain : MetaChain) (rs : List MetaRecord)
    → fold chain_after chain rs ≡ record chain { slots = map (λ slot. fold slot_after slot rs) chain.slots }
chain_folds chain [] = ap (λ (z : List MetaSlot). record chain { slots = z }) (map_same chain.slots)
chain_folds chain (r ∷ rs) =
    chain_folds (chain_after chain r) rs
    ∙ ap (λ (z : List MetaSlot). record chain { slots = z }) (map_twice (λ slot. fold slot_after slot rs) (λ slot. slot_after slot r) chain.slots)

pub image_folds : (image : MetaImage) (rs : List MetaRecord)
    → after_records image rs ≡ record image {
      chains = map (λ chain. fold chain_after chain rs) image.chains;
      lost = map (λ row. fold row_after row rs) image.lost;
      changes = map (λ row. fold (changes_after image.mappings) row rs) image.changes;
    }
unfolding after_record
image_folds image [] =
    ap (λ (z : List MetaChain). record image { chains = z }) (map_same image.chains)
    ∙ ap (λ (z : List MetaLost). record image { chains = map (λ chain. chain) image.chains; lost = z }) (map_same image.lost)
    ∙ ap (λ (z : List MetaChanges). record image { chains = map (λ chain. chain) image.chains; lost = map (λ row. row) image.lost; changes = z }) (map_same image.changes)
image_folds image (r ∷ rs) =
    image_folds (after_record image r) rs
    ∙ ap (λ (z : List MetaChain). record image {
      chains = z;
      lost = map (λ row. fold row_after row rs) (map (λ row. row_after row r) image.lost);
      changes = map (λ row. fold (changes_after image.mappings) row rs) (map (λ row. changes_after image.mappings row r) image.changes);
    }) (map_twice (λ chain. fold chain_after chain rs) (λ chain. chain_after chain r) image.chains)
    ∙ ap (λ (z : List MetaLost). record image {
      chains = map (λ chain. fold chain_after chain (r ∷ rs)) image.chains;
      lost = z;
      changes = map (λ row. fold (changes_after image.mappings) row rs) (map (λ row. changes_after image.mappings row r) image.changes);
    }) (map_twice (λ row. fold row_after row rs) (λ row. row_after row r) image.lost)
    ∙ ap (λ (z : List MetaChanges). record image {
      chains = map (λ chain. fold chain_after chain (r ∷ rs)) image.chains;
      lost = map (λ row. fold row_after row (r ∷ rs)) image.lost;
      changes = z;
    }) (map_twice (λ row. fold (changes_after image.mappings) row rs) (λ row. changes_after image.mappings row r) image.changes)
