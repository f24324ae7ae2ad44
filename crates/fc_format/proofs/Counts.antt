-- What fits the bytes of a half fits its counts: an image of fewer than 2^32 bytes has lists of fewer items.
use Rattle.std.proofs.Common.{ℕ, ◌^◌, ◌<◌, ◌≤◌, List, [], ◌∷◌, ◌++◌, length, All, arith, length-append}
use Rattle.std.proofs.lemmas.List.Elements.{All-nil, All-cons, All-head, All-tail, All-weaker}
use Rattle.std.specs.Prelude.{⊤}
use Rattle.std.specs.List.{flat_map}
use Rattle.byteorder.specs.Endian.{big_bytes}
use Rattle.fc_base.specs.declared.volume.Volume.{Volume}
use Rattle.fc_base.specs.declared.volume.Mapping.{Mapping}
use Rattle.fc_base.specs.declared.volume.Group.{Group}
use Rattle.fc_image.specs.declared.image.MetaSlot.{MetaSlot}
use Rattle.fc_image.specs.declared.image.MetaChain.{MetaChain}
use Rattle.fc_image.specs.declared.image.MetaLost.{MetaLost}
use Rattle.fc_image.specs.declared.image.MetaChanges.{MetaChanges}
use Rattle.fc_image.specs.declared.image.MetaImage.{MetaImage}
use Rattle.fc_format.specs.Bytes.{byte, flag_code, volume_code, mapping_code, list_bytes, words_bytes, volume_bytes, mapping_bytes, group_bytes, slot_bytes, chain_bytes, lost_bytes, changes_bytes, image_bytes}
use Rattle.fc_format.specs.Ranges.{IsTypedVolume, IsTypedMapping, IsTypedGroup, IsTypedSlot, IsTypedChain, IsTypedLost, IsTypedChanges, IsTypedImage, IsVolumeId, IsMappingId, IsGroupId, HasGoodIds}
use Rattle.fc_format.proofs.RoundTrip.{IsVolume, IsMapping, IsGroup, IsSlot, IsChain, IsLost, IsChanges, IsImage}

-- ---- Parts of joined lists

inner : (a w rest : List ℕ) → length w ≤ length rest → length w ≤ length (a ++ rest)
inner a w rest le = let l = length-append a rest in omega (arith, l, le)

begins : (w rest : List ℕ) → length w ≤ length (w ++ rest)
begins w rest = let l = length-append w rest in omega (arith, l)

module _ {A : Type 0} (f : A → List ℕ) where
  few : ((x : A) → 1 ≤ length (f x)) → (xs : List A) → length xs ≤ length (flat_map f xs)
  few there [] = omega arith
  few there (x ∷ xs) =
      let t = there x in
      let rest = few there xs in
      let l = length-append (f x) (flat_map f xs) in
      omega (arith, t, rest, l)

  listed : (xs : List A) → length (flat_map f xs) ≤ length (list_bytes f xs)
  unfolding list_bytes
  listed xs = inner (big_bytes 4 (length xs)) (flat_map f xs) (flat_map f xs) (omega arith)

  all_good : (P Q R : A → Type 0) → ((x : A) → P x → Q x → length (f x) < 2 ^ 32 → R x) → (xs : List A) → All P xs → All Q xs → length (flat_map f xs) < 2 ^ 32 → All R xs
  all_good P Q R each [] typed good small = All-nil R
  all_good P Q R each (x ∷ xs) typed good small =
      let l = length-append (f x) (flat_map f xs) in
      All-cons R x xs (each x (All-head P x xs typed) (All-head Q x xs good) (omega (arith, l, small)))
      (all_good P Q R each xs (All-tail P x xs typed) (All-tail Q x xs good) (omega (arith, l, small)))

few_words : (ws : List ℕ) → length ws ≤ length (words_bytes ws)
unfolding words_bytes
few_words ws = let a = few (big_bytes 8) (λ n. omega arith) ws in let b = listed (big_bytes 8) ws in omega (arith, a, b)

-- ---- The parts of an image

slot_good : (s : MetaSlot) → IsTypedSlot s → IsMappingId s.map → length (slot_bytes s) < 2 ^ 32 → IsSlot s
unfolding slot_bytes
slot_good s typed good small =
    let w = few_words s.held in
    let l = inner (big_bytes 8 s.birth.0) (words_bytes s.held) (big_bytes 4 s.volume.0 ++ (byte (flag_code s.live) ++ (big_bytes 4 (mapping_code s.map) ++ words_bytes s.held))) (inner (big_bytes 4 s.volume.0) (words_bytes s.held) (byte (flag_code s.live) ++ (big_bytes 4 (mapping_code s.map) ++ words_bytes s.held)) (inner (byte (flag_code s.live)) (words_bytes s.held) (big_bytes 4 (mapping_code s.map) ++ words_bytes s.held) (inner (big_bytes 4 (mapping_code s.map)) (words_bytes s.held) (words_bytes s.held) (omega arith)))) in
    record { typed = typed; map = good; held = omega (arith, w, l, small) }

slot_there : (s : MetaSlot) → 1 ≤ length (slot_bytes s)
unfolding slot_bytes
slot_there s = omega arith

chain_good : (c : MetaChain) → IsTypedChain c → All (λ s. IsMappingId s.map) c.slots → length (chain_bytes c) < 2 ^ 32 → IsChain c
unfolding chain_bytes
chain_good c typed good small =
    let l = inner (big_bytes 8 c.label) (list_bytes slot_bytes c.slots) (list_bytes slot_bytes c.slots) (omega arith) in
    let m = listed slot_bytes c.slots in
    let n = few slot_bytes slot_there c.slots in
    record {
      typed = typed;
      slots_counted = omega (arith, l, m, n, small);
      slots = all_good slot_bytes IsTypedSlot (λ s. IsMappingId s.map) IsSlot slot_good c.slots typed.slots good (omega (arith, l, m, small));
    }

lost_good : (x : MetaLost) → IsTypedLost x → length (lost_bytes x) < 2 ^ 32 → IsLost x
unfolding lost_bytes
lost_good x typed small =
    let w = few_words x.lost in
    let l = inner (big_bytes 4 x.volume.0) (words_bytes x.lost) (words_bytes x.lost) (omega arith) in
    record { typed = typed; lost = omega (arith, w, l, small) }

changes_good : (x : MetaChanges) → IsTypedChanges x → IsVolumeId x.last_source × IsVolumeId x.last_target → length (changes_bytes x) < 2 ^ 32 → IsChanges x
unfolding changes_bytes
changes_good x typed good small =
    let a = few_words x.changed in
    let b = few_words x.kept in
    let l = inner (big_bytes 4 x.map.0) (words_bytes x.changed) (big_bytes 4 (volume_code x.last_source) ++ (big_bytes 4 (volume_code x.last_target) ++ (words_bytes x.changed ++ words_bytes x.kept))) (inner (big_bytes 4 (volume_code x.last_source)) (words_bytes x.changed) (big_bytes 4 (volume_code x.last_target) ++ (words_bytes x.changed ++ words_bytes x.kept)) (inner (big_bytes 4 (volume_code x.last_target)) (words_bytes x.changed) (words_bytes x.changed ++ words_bytes x.kept) (begins (words_bytes x.changed) (words_bytes x.kept)))) in
    let m = inner (big_bytes 4 x.map.0) (words_bytes x.kept) (big_bytes 4 (volume_code x.last_source) ++ (big_bytes 4 (volume_code x.last_target) ++ (words_bytes x.changed ++ words_bytes x.kept))) (inner (big_bytes 4 (volume_code x.last_source)) (words_bytes x.kept) (big_bytes 4 (volume_code x.last_target) ++ (words_bytes x.changed ++ words_bytes x.kept)) (inner (big_bytes 4 (volume_code x.last_target)) (words_bytes x.kept) (words_bytes x.changed ++ words_bytes x.kept) (inner (words_bytes x.changed) (words_bytes x.kept) (words_bytes x.kept) (omega arith)))) in
    record { typed = typed; last_source = good.0; last_target = good.1; changed = omega (arith, a, l, small); kept = omega (arith, b, m, small) }

volume_there : (x : Volume) → 1 ≤ length (volume_bytes x)
unfolding volume_bytes
volume_there x = omega arith

mapping_there : (x : Mapping) → 1 ≤ length (mapping_bytes x)
unfolding mapping_bytes
mapping_there x = omega arith

group_there : (x : Group) → 1 ≤ length (group_bytes x)
unfolding group_bytes
group_there x = omega arith

chain_there : (x : MetaChain) → 1 ≤ length (chain_bytes x)
unfolding chain_bytes
chain_there x = omega arith

lost_there : (x : MetaLost) → 1 ≤ length (lost_bytes x)
unfolding lost_bytes
lost_there x = omega arith

changes_there : (x : MetaChanges) → 1 ≤ length (changes_bytes x)
unfolding changes_bytes
changes_there x = omega arith

-- ---- The image

nothing : {A : Type 0} (xs : List A) → All (λ _. ⊤) xs
nothing xs = λ k d lt. tt

pub image_good : (i : MetaImage) → IsTypedImage i → HasGoodIds i → length (image_bytes i) < 2 ^ 32 → IsImage i
unfolding image_bytes
image_good i typed good small =
    let l_volumes = inner (big_bytes 8 i.next_birth) (list_bytes volume_bytes i.volumes) (big_bytes 4 i.next_volume ++ (big_bytes 4 i.next_map ++ (big_bytes 4 i.next_group ++ (list_bytes volume_bytes i.volumes ++ (list_bytes mapping_bytes i.mappings ++ (list_bytes group_bytes i.groups ++ (list_bytes chain_bytes i.chains ++ (list_bytes lost_bytes i.lost ++ list_bytes changes_bytes i.changes)))))))) (inner (big_bytes 4 i.next_volume) (list_bytes volume_bytes i.volumes) (big_bytes 4 i.next_map ++ (big_bytes 4 i.next_group ++ (list_bytes volume_bytes i.volumes ++ (list_bytes mapping_bytes i.mappings ++ (list_bytes group_bytes i.groups ++ (list_bytes chain_bytes i.chains ++ (list_bytes lost_bytes i.lost ++ list_bytes changes_bytes i.changes))))))) (inner (big_bytes 4 i.next_map) (list_bytes volume_bytes i.volumes) (big_bytes 4 i.next_group ++ (list_bytes volume_bytes i.volumes ++ (list_bytes mapping_bytes i.mappings ++ (list_bytes group_bytes i.groups ++ (list_bytes chain_bytes i.chains ++ (list_bytes lost_bytes i.lost ++ list_bytes changes_bytes i.changes)))))) (inner (big_bytes 4 i.next_group) (list_bytes volume_bytes i.volumes) (list_bytes volume_bytes i.volumes ++ (list_bytes mapping_bytes i.mappings ++ (list_bytes group_bytes i.groups ++ (list_bytes chain_bytes i.chains ++ (list_bytes lost_bytes i.lost ++ list_bytes changes_bytes i.changes))))) (begins (list_bytes volume_bytes i.volumes) (list_bytes mapping_bytes i.mappings ++ (list_bytes group_bytes i.groups ++ (list_bytes chain_bytes i.chains ++ (list_bytes lost_bytes i.lost ++ list_bytes changes_bytes i.changes)))))))) in
    let l_mappings = inner (big_bytes 8 i.next_birth) (list_bytes mapping_bytes i.mappings) (big_bytes 4 i.next_volume ++ (big_bytes 4 i.next_map ++ (big_bytes 4 i.next_group ++ (list_bytes volume_bytes i.volumes ++ (list_bytes mapping_bytes i.mappings ++ (list_bytes group_bytes i.groups ++ (list_bytes chain_bytes i.chains ++ (list_bytes lost_bytes i.lost ++ list_bytes changes_bytes i.changes)))))))) (inner (big_bytes 4 i.next_volume) (list_bytes mapping_bytes i.mappings) (big_bytes 4 i.next_map ++ (big_bytes 4 i.next_group ++ (list_bytes volume_bytes i.volumes ++ (list_bytes mapping_bytes i.mappings ++ (list_bytes group_bytes i.groups ++ (list_bytes chain_bytes i.chains ++ (list_bytes lost_bytes i.lost ++ list_bytes changes_bytes i.changes))))))) (inner (big_bytes 4 i.next_map) (list_bytes mapping_bytes i.mappings) (big_bytes 4 i.next_group ++ (list_bytes volume_bytes i.volumes ++ (list_bytes mapping_bytes i.mappings ++ (list_bytes group_bytes i.groups ++ (list_bytes chain_bytes i.chains ++ (list_bytes lost_bytes i.lost ++ list_bytes changes_bytes i.changes)))))) (inner (big_bytes 4 i.next_group) (list_bytes mapping_bytes i.mappings) (list_bytes volume_bytes i.volumes ++ (list_bytes mapping_bytes i.mappings ++ (list_bytes group_bytes i.groups ++ (list_bytes chain_bytes i.chains ++ (list_bytes lost_bytes i.lost ++ list_bytes changes_bytes i.changes))))) (inner (list_bytes volume_bytes i.volumes) (list_bytes mapping_bytes i.mappings) (list_bytes mapping_bytes i.mappings ++ (list_bytes group_bytes i.groups ++ (list_bytes chain_bytes i.chains ++ (list_bytes lost_bytes i.lost ++ list_bytes changes_bytes i.changes)))) (begins (list_bytes mapping_bytes i.mappings) (list_bytes group_bytes i.groups ++ (list_bytes chain_bytes i.chains ++ (list_bytes lost_bytes i.lost ++ list_bytes changes_bytes i.changes)))))))) in
    let l_groups = inner (big_bytes 8 i.next_birth) (list_bytes group_bytes i.groups) (big_bytes 4 i.next_volume ++ (big_bytes 4 i.next_map ++ (big_bytes 4 i.next_group ++ (list_bytes volume_bytes i.volumes ++ (list_bytes mapping_bytes i.mappings ++ (list_bytes group_bytes i.groups ++ (list_bytes chain_bytes i.chains ++ (list_bytes lost_bytes i.lost ++ list_bytes changes_bytes i.changes)))))))) (inner (big_bytes 4 i.next_volume) (list_bytes group_bytes i.groups) (big_bytes 4 i.next_map ++ (big_bytes 4 i.next_group ++ (list_bytes volume_bytes i.volumes ++ (list_bytes mapping_bytes i.mappings ++ (list_bytes group_bytes i.groups ++ (list_bytes chain_bytes i.chains ++ (list_bytes lost_bytes i.lost ++ list_bytes changes_bytes i.changes))))))) (inner (big_bytes 4 i.next_map) (list_bytes group_bytes i.groups) (big_bytes 4 i.next_group ++ (list_bytes volume_bytes i.volumes ++ (list_bytes mapping_bytes i.mappings ++ (list_bytes group_bytes i.groups ++ (list_bytes chain_bytes i.chains ++ (list_bytes lost_bytes i.lost ++ list_bytes changes_bytes i.changes)))))) (inner (big_bytes 4 i.next_group) (list_bytes group_bytes i.groups) (list_bytes volume_bytes i.volumes ++ (list_bytes mapping_bytes i.mappings ++ (list_bytes group_bytes i.groups ++ (list_bytes chain_bytes i.chains ++ (list_bytes lost_bytes i.lost ++ list_bytes changes_bytes i.changes))))) (inner (list_bytes volume_bytes i.volumes) (list_bytes group_bytes i.groups) (list_bytes mapping_bytes i.mappings ++ (list_bytes group_bytes i.groups ++ (list_bytes chain_bytes i.chains ++ (list_bytes lost_bytes i.lost ++ list_bytes changes_bytes i.changes)))) (inner (list_bytes mapping_bytes i.mappings) (list_bytes group_bytes i.groups) (list_bytes group_bytes i.groups ++ (list_bytes chain_bytes i.chains ++ (list_bytes lost_bytes i.lost ++ list_bytes changes_bytes i.changes))) (begins (list_bytes group_bytes i.groups) (list_bytes chain_bytes i.chains ++ (list_bytes lost_bytes i.lost ++ list_bytes changes_bytes i.changes)))))))) in
    let l_chains = inner (big_bytes 8 i.next_birth) (list_bytes chain_bytes i.chains) (big_bytes 4 i.next_volume ++ (big_bytes 4 i.next_map ++ (big_bytes 4 i.next_group ++ (list_bytes volume_bytes i.volumes ++ (list_bytes mapping_bytes i.mappings ++ (list_bytes group_bytes i.groups ++ (list_bytes chain_bytes i.chains ++ (list_bytes lost_bytes i.lost ++ list_bytes changes_bytes i.changes)))))))) (inner (big_bytes 4 i.next_volume) (list_bytes chain_bytes i.chains) (big_bytes 4 i.next_map ++ (big_bytes 4 i.next_group ++ (list_bytes volume_bytes i.volumes ++ (list_bytes mapping_bytes i.mappings ++ (list_bytes group_bytes i.groups ++ (list_bytes chain_bytes i.chains ++ (list_bytes lost_bytes i.lost ++ list_bytes changes_bytes i.changes))))))) (inner (big_bytes 4 i.next_map) (list_bytes chain_bytes i.chains) (big_bytes 4 i.next_group ++ (list_bytes volume_bytes i.volumes ++ (list_bytes mapping_bytes i.mappings ++ (list_bytes group_bytes i.groups ++ (list_bytes chain_bytes i.chains ++ (list_bytes lost_bytes i.lost ++ list_bytes changes_bytes i.changes)))))) (inner (big_bytes 4 i.next_group) (list_bytes chain_bytes i.chains) (list_bytes volume_bytes i.volumes ++ (list_bytes mapping_bytes i.mappings ++ (list_bytes group_bytes i.groups ++ (list_bytes chain_bytes i.chains ++ (list_bytes lost_bytes i.lost ++ list_bytes changes_bytes i.changes))))) (inner (list_bytes volume_bytes i.volumes) (list_bytes chain_bytes i.chains) (list_bytes mapping_bytes i.mappings ++ (list_bytes group_bytes i.groups ++ (list_bytes chain_bytes i.chains ++ (list_bytes lost_bytes i.lost ++ list_bytes changes_bytes i.changes)))) (inner (list_bytes mapping_bytes i.mappings) (list_bytes chain_bytes i.chains) (list_bytes group_bytes i.groups ++ (list_bytes chain_bytes i.chains ++ (list_bytes lost_bytes i.lost ++ list_bytes changes_bytes i.changes))) (inner (list_bytes group_bytes i.groups) (list_bytes chain_bytes i.chains) (list_bytes chain_bytes i.chains ++ (list_bytes lost_bytes i.lost ++ list_bytes changes_bytes i.changes)) (begins (list_bytes chain_bytes i.chains) (list_bytes lost_bytes i.lost ++ list_bytes changes_bytes i.changes)))))))) in
    let l_lost = inner (big_bytes 8 i.next_birth) (list_bytes lost_bytes i.lost) (big_bytes 4 i.next_volume ++ (big_bytes 4 i.next_map ++ (big_bytes 4 i.next_group ++ (list_bytes volume_bytes i.volumes ++ (list_bytes mapping_bytes i.mappings ++ (list_bytes group_bytes i.groups ++ (list_bytes chain_bytes i.chains ++ (list_bytes lost_bytes i.lost ++ list_bytes changes_bytes i.changes)))))))) (inner (big_bytes 4 i.next_volume) (list_bytes lost_bytes i.lost) (big_bytes 4 i.next_map ++ (big_bytes 4 i.next_group ++ (list_bytes volume_bytes i.volumes ++ (list_bytes mapping_bytes i.mappings ++ (list_bytes group_bytes i.groups ++ (list_bytes chain_bytes i.chains ++ (list_bytes lost_bytes i.lost ++ list_bytes changes_bytes i.changes))))))) (inner (big_bytes 4 i.next_map) (list_bytes lost_bytes i.lost) (big_bytes 4 i.next_group ++ (list_bytes volume_bytes i.volumes ++ (list_bytes mapping_bytes i.mappings ++ (list_bytes group_bytes i.groups ++ (list_bytes chain_bytes i.chains ++ (list_bytes lost_bytes i.lost ++ list_bytes changes_bytes i.changes)))))) (inner (big_bytes 4 i.next_group) (list_bytes lost_bytes i.lost) (list_bytes volume_bytes i.volumes ++ (list_bytes mapping_bytes i.mappings ++ (list_bytes group_bytes i.groups ++ (list_bytes chain_bytes i.chains ++ (list_bytes lost_bytes i.lost ++ list_bytes changes_bytes i.changes))))) (inner (list_bytes volume_bytes i.volumes) (list_bytes lost_bytes i.lost) (list_bytes mapping_bytes i.mappings ++ (list_bytes group_bytes i.groups ++ (list_bytes chain_bytes i.chains ++ (list_bytes lost_bytes i.lost ++ list_bytes changes_bytes i.changes)))) (inner (list_bytes mapping_bytes i.mappings) (list_bytes lost_bytes i.lost) (list_bytes group_bytes i.groups ++ (list_bytes chain_bytes i.chains ++ (list_bytes lost_bytes i.lost ++ list_bytes changes_bytes i.changes))) (inner (list_bytes group_bytes i.groups) (list_bytes lost_bytes i.lost) (list_bytes chain_bytes i.chains ++ (list_bytes lost_bytes i.lost ++ list_bytes changes_bytes i.changes)) (inner (list_bytes chain_bytes i.chains) (list_bytes lost_bytes i.lost) (list_bytes lost_bytes i.lost ++ list_bytes changes_bytes i.changes) (begins (list_bytes lost_bytes i.lost) (list_bytes changes_bytes i.changes))))))))) in
    let l_changes = inner (big_bytes 8 i.next_birth) (list_bytes changes_bytes i.changes) (big_bytes 4 i.next_volume ++ (big_bytes 4 i.next_map ++ (big_bytes 4 i.next_group ++ (list_bytes volume_bytes i.volumes ++ (list_bytes mapping_bytes i.mappings ++ (list_bytes group_bytes i.groups ++ (list_bytes chain_bytes i.chains ++ (list_bytes lost_bytes i.lost ++ list_bytes changes_bytes i.changes)))))))) (inner (big_bytes 4 i.next_volume) (list_bytes changes_bytes i.changes) (big_bytes 4 i.next_map ++ (big_bytes 4 i.next_group ++ (list_bytes volume_bytes i.volumes ++ (list_bytes mapping_bytes i.mappings ++ (list_bytes group_bytes i.groups ++ (list_bytes chain_bytes i.chains ++ (list_bytes lost_bytes i.lost ++ list_bytes changes_bytes i.changes))))))) (inner (big_bytes 4 i.next_map) (list_bytes changes_bytes i.changes) (big_bytes 4 i.next_group ++ (list_bytes volume_bytes i.volumes ++ (list_bytes mapping_bytes i.mappings ++ (list_bytes group_bytes i.groups ++ (list_bytes chain_bytes i.chains ++ (list_bytes lost_bytes i.lost ++ list_bytes changes_bytes i.changes)))))) (inner (big_bytes 4 i.next_group) (list_bytes changes_bytes i.changes) (list_bytes volume_bytes i.volumes ++ (list_bytes mapping_bytes i.mappings ++ (list_bytes group_bytes i.groups ++ (list_bytes chain_bytes i.chains ++ (list_bytes lost_bytes i.lost ++ list_bytes changes_bytes i.changes))))) (inner (list_bytes volume_bytes i.volumes) (list_bytes changes_bytes i.changes) (list_bytes mapping_bytes i.mappings ++ (list_bytes group_bytes i.groups ++ (list_bytes chain_bytes i.chains ++ (list_bytes lost_bytes i.lost ++ list_bytes changes_bytes i.changes)))) (inner (list_bytes mapping_bytes i.mappings) (list_bytes changes_bytes i.changes) (list_bytes group_bytes i.groups ++ (list_bytes chain_bytes i.chains ++ (list_bytes lost_bytes i.lost ++ list_bytes changes_bytes i.changes))) (inner (list_bytes group_bytes i.groups) (list_bytes changes_bytes i.changes) (list_bytes chain_bytes i.chains ++ (list_bytes lost_bytes i.lost ++ list_bytes changes_bytes i.changes)) (inner (list_bytes chain_bytes i.chains) (list_bytes changes_bytes i.changes) (list_bytes lost_bytes i.lost ++ list_bytes changes_bytes i.changes) (inner (list_bytes lost_bytes i.lost) (list_bytes changes_bytes i.changes) (list_bytes changes_bytes i.changes) (omega arith))))))))) in
    let m_volumes = listed volume_bytes i.volumes in
    let n_volumes = few volume_bytes volume_there i.volumes in
    let m_mappings = listed mapping_bytes i.mappings in
    let n_mappings = few mapping_bytes mapping_there i.mappings in
    let m_groups = listed group_bytes i.groups in
    let n_groups = few group_bytes group_there i.groups in
    let m_chains = listed chain_bytes i.chains in
    let n_chains = few chain_bytes chain_there i.chains in
    let m_lost = listed lost_bytes i.lost in
    let n_lost = few lost_bytes lost_there i.lost in
    let m_changes = listed changes_bytes i.changes in
    let n_changes = few changes_bytes changes_there i.changes in
    record {
      typed = typed;
      volumes_counted = omega (arith, l_volumes, m_volumes, n_volumes, small);
      mappings_counted = omega (arith, l_mappings, m_mappings, n_mappings, small);
      groups_counted = omega (arith, l_groups, m_groups, n_groups, small);
      chains_counted = omega (arith, l_chains, m_chains, n_chains, small);
      lost_counted = omega (arith, l_lost, m_lost, n_lost, small);
      changes_counted = omega (arith, l_changes, m_changes, n_changes, small);
      volumes = All-weaker IsTypedVolume IsVolume (λ v t. record { typed = t }) i.volumes typed.volumes;
      mappings = all_good mapping_bytes IsTypedMapping (λ m. IsGroupId m.group) IsMapping (λ m t g s. record { typed = t; group = g }) i.mappings typed.mappings good.groups (omega (arith, l_mappings, m_mappings, small));
      groups = All-weaker IsTypedGroup IsGroup (λ g t. record { typed = t }) i.groups typed.groups;
      chains = all_good chain_bytes IsTypedChain (λ c. All (λ s. IsMappingId s.map) c.slots) IsChain chain_good i.chains typed.chains good.slots (omega (arith, l_chains, m_chains, small));
      lost = all_good lost_bytes IsTypedLost (λ _. ⊤) IsLost (λ x t _ s. lost_good x t s) i.lost typed.lost (nothing i.lost) (omega (arith, l_lost, m_lost, small));
      changes = all_good changes_bytes IsTypedChanges (λ x. IsVolumeId x.last_source × IsVolumeId x.last_target) IsChanges changes_good i.changes typed.changes
          (λ k d lt. (good.sources k d lt, good.targets k d lt)) (omega (arith, l_changes, m_changes, small));
    }
