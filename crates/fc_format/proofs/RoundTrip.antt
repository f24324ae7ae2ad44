-- What is written is read: each part of an image, whatever stands behind it.
use Rattle.std.proofs.Common.{◌≡◌, ℕ, suc, ◌+◌, ◌^◌, ◌<◌, Bool, true, false, List, [], ◌∷◌, ◌++◌, length, take, drop, All, IsTrue, Option, Some, None, refl, sym, ap, ◌∙◌, subst, arith, append_assoc, length-append}
use Rattle.std.proofs.lemmas.List.Elements.{All-head, All-tail}
use Rattle.std.proofs.Math.Seq.{take_at, drop_at}
use Rattle.std.specs.Prelude.{option_map}
use Rattle.std.specs.List.{flat_map}
use Rattle.byteorder.specs.Endian.{big_bytes}
use Rattle.byteorder.specs.Numbers.{big_number-reads_back, length-bytes_high_first}
use Rattle.fc_base.specs.Names.{is_name}
use Rattle.fc_base.specs.declared.disk.DiskKind.{DiskKind}
use Rattle.fc_base.specs.declared.disk.DiskKind.TheVariants.{Flat, Thin}
use Rattle.fc_base.specs.declared.state.MapState.{MapState}
use Rattle.fc_base.specs.declared.state.MapState.TheVariants.{Empty, IdleOrCopied, Preparing, Prepared, Copying, Stopping, Stopped}
use Rattle.fc_base.specs.declared.request.Side.{Side}
use Rattle.fc_base.specs.declared.request.Side.TheVariants.{Now, Under}
use Rattle.fc_base.specs.declared.ids.VolId.{VolId}
use Rattle.fc_base.specs.declared.ids.MapId.{MapId}
use Rattle.fc_base.specs.declared.ids.GroupId.{GroupId}
use Rattle.fc_base.specs.declared.volume.Volume.{Volume}
use Rattle.fc_base.specs.declared.volume.Mapping.{Mapping}
use Rattle.fc_base.specs.declared.volume.Group.{Group}
use Rattle.fc_image.specs.declared.image.MetaSlot.{MetaSlot}
use Rattle.fc_image.specs.declared.image.MetaChain.{MetaChain}
use Rattle.fc_image.specs.declared.image.MetaLost.{MetaLost}
use Rattle.fc_image.specs.declared.image.MetaChanges.{MetaChanges}
use Rattle.fc_image.specs.declared.image.MetaImage.{MetaImage}
use Rattle.fc_format.specs.Bytes.{byte, no_id, id_code, flag_code, kind_code, side_code, state_code, volume_code, mapping_code, group_code, name_bytes, list_bytes, words_bytes, volume_bytes, mapping_bytes, group_bytes, slot_bytes, chain_bytes, lost_bytes, changes_bytes, image_bytes}
use Rattle.fc_format.specs.Reading.{Got, Reader, and_then, number, choice, name, items, list}
use Rattle.fc_format.specs.Fields.{flag, flag_of, kind, kind_of, side, side_of, state, state_of, byte_value, id_of, optional, volume_id, mapping_id, group_id, words, volume, mapping, group, slot, chain, lost, changes, image}
use Rattle.fc_format.specs.Ranges.{AreWords, IsIdCode, IsTypedVolume, IsTypedMapping, IsTypedGroup, IsTypedSlot, IsTypedChain, IsTypedLost, IsTypedChanges, IsTypedImage, IsVolumeId, IsMappingId, IsGroupId}
use Rattle.fc_format.proofs.Steps.{number_there, choice_right, name_right, optional_is, id_there}

-- ---- One after the other

-- a reader that reads back what stands first, whatever stands behind it
abbrev pub ReadsBack : {A : Type 0} → Reader A → A → List ℕ → ℕ → Type 0
ReadsBack p a w end = (rest : List ℕ) → p (record { bytes = w ++ rest; end = end }) ≡ Got a (record { bytes = rest; end = end })

-- so it is for each value that keeps what it has to, with these bytes
abbrev pub IsBack : {A : Type 0} → Reader A → (A → List ℕ) → (A → Type 0) → Type 0
IsBack {A} p bytes_of Keeps = (x : A) → Keeps x → (rest : List ℕ) (end : ℕ) → p (record { bytes = bytes_of x ++ rest; end = end }) ≡ Got x (record { bytes = rest; end = end })

pub then_back : {A B : Type 0} (p : Reader A) (next : A → Reader B) (a : A) (w more rest : List ℕ) (end : ℕ) → ((rest : List ℕ) (end : ℕ) → p (record { bytes = w ++ rest; end = end }) ≡ Got a (record { bytes = rest; end = end }))
    → and_then (p (record { bytes = (w ++ more) ++ rest; end = end })) next ≡ next a (record { bytes = more ++ rest; end = end })
then_back p next a w more rest end back =
    ap (λ (z : List ℕ). and_then (p (record { bytes = z; end = end })) next) (append_assoc w more rest) ∙ ap (λ z. and_then z next) (back (more ++ rest) end)

pub last_back : {A B : Type 0} (p : Reader A) (next : A → Reader B) (a : A) (w rest : List ℕ) (end : ℕ) → ((rest : List ℕ) (end : ℕ) → p (record { bytes = w ++ rest; end = end }) ≡ Got a (record { bytes = rest; end = end }))
    → and_then (p (record { bytes = w ++ rest; end = end })) next ≡ next a (record { bytes = rest; end = end })
last_back p next a w rest end back = ap (λ z. and_then z next) (back rest end)

-- ---- Single fields

pub number_back : (k n : ℕ) → n < 256 ^ k → (rest : List ℕ) (end : ℕ) → number k (record { bytes = big_bytes k n ++ rest; end = end }) ≡ Got n (record { bytes = rest; end = end })
number_back k n small rest end =
    number_there k (record { bytes = big_bytes k n ++ rest; end = end }) (big_bytes k n ++ rest) refl (record { bytes = rest; end = end }) n
    (let a = length-append (big_bytes k n) rest in let b = length-bytes_high_first k n in omega (arith, a, b))
    (sym (big_number-reads_back k n rest small))
    (ap (λ (z : List ℕ). record { bytes = z; end = end }) (sym (drop_at (big_bytes k n) rest k (length-bytes_high_first k n))))

pub choice_back : {A : Type 0} (meaning : ℕ → Option A) (code : ℕ) (a : A) → Some a ≡ meaning code → (rest : List ℕ) (end : ℕ)
    → choice meaning (record { bytes = byte code ++ rest; end = end }) ≡ Got a (record { bytes = rest; end = end })
choice_back meaning code a e rest end = choice_right meaning (record { bytes = code ∷ rest; end = end }) code a (record { bytes = rest; end = end }) refl e refl

pub byte_back : (n : ℕ) (rest : List ℕ) (end : ℕ) → byte_value (record { bytes = byte n ++ rest; end = end }) ≡ Got n (record { bytes = rest; end = end })
unfolding byte_value
byte_back n = choice_back (λ n. Some n) n n refl

pub flag_back : (b : Bool) (rest : List ℕ) (end : ℕ) → flag (record { bytes = byte (flag_code b) ++ rest; end = end }) ≡ Got b (record { bytes = rest; end = end })
unfolding flag
flag_back true = choice_back flag_of 1 true refl
flag_back false = choice_back flag_of 0 false refl

pub kind_back : (k : DiskKind) (rest : List ℕ) (end : ℕ) → kind (record { bytes = byte (kind_code k) ++ rest; end = end }) ≡ Got k (record { bytes = rest; end = end })
unfolding kind
kind_back Flat = choice_back kind_of 0 Flat refl
kind_back Thin = choice_back kind_of 1 Thin refl

pub side_back : (s : Side) (rest : List ℕ) (end : ℕ) → side (record { bytes = byte (side_code s) ++ rest; end = end }) ≡ Got s (record { bytes = rest; end = end })
unfolding side
side_back Now = choice_back side_of 0 Now refl
side_back Under = choice_back side_of 1 Under refl

pub state_back : (s : MapState) (rest : List ℕ) (end : ℕ) → state (record { bytes = byte (state_code s) ++ rest; end = end }) ≡ Got s (record { bytes = rest; end = end })
unfolding state
state_back Empty = choice_back state_of 0 Empty refl
state_back IdleOrCopied = choice_back state_of 1 IdleOrCopied refl
state_back Preparing = choice_back state_of 2 Preparing refl
state_back Prepared = choice_back state_of 3 Prepared refl
state_back Copying = choice_back state_of 4 Copying refl
state_back Stopping = choice_back state_of 5 Stopping refl
state_back Stopped = choice_back state_of 6 Stopped refl

pub name_back : (text : List ℕ) → IsTrue (is_name text) → (rest : List ℕ) (end : ℕ)
    → name (record { bytes = name_bytes text ++ rest; end = end }) ≡ Got text (record { bytes = rest; end = end })
unfolding name_bytes
name_back text good rest end =
    let same : take (length text) (text ++ rest) ≡ text = take_at text rest (length text) refl in
    name_right (record { bytes = length text ∷ (text ++ rest); end = end }) (text ++ rest) (length text) refl refl text (record { bytes = rest; end = end })
    (let a = length-append text rest in omega (arith, a))
    (ap is_name same ∙ is_true good) (sym same)
    (ap (λ (z : List ℕ). record { bytes = z; end = end }) (sym (ap (λ (k : ℕ). drop k (length text ∷ (text ++ rest))) one_first ∙ drop_at text rest (length text) refl)))
  where
    is_true : {b : Bool} → IsTrue b → b ≡ true
    is_true {b} t = grind arith

    one_first : {n : ℕ} → 1 + n ≡ suc n
    one_first {n} = omega arith

pub id_good : (n : ℕ) → n < no_id → id_of n ≡ Some n
id_good n small = id_there n (λ e. let l : n < n = subst (λ (z : ℕ). n < z) (sym e) small in absurd (omega arith))

pub id_back : {I : Type 0} (number_of : I → ℕ) (named : ℕ → I) → ((i : I) → named (number_of i) ≡ i) → (o : Option I) → id_code number_of o < 2 ^ 32 → IsIdCode number_of o
    → (rest : List ℕ) (end : ℕ) → optional (λ n. option_map named n) (record { bytes = big_bytes 4 (id_code number_of o) ++ rest; end = end }) ≡ Got o (record { bytes = rest; end = end })
id_back number_of named same (Some id) small good rest end =
    optional_is _ _ (record { bytes = rest; end = end }) (number_of id) (Some id) (number_back 4 (number_of id) small rest end)
    (sym (ap (option_map named) (id_good (number_of id) good) ∙ ap (λ z. Some z) (same id)))
id_back number_of named same None small good rest end = optional_is _ _ (record { bytes = rest; end = end }) no_id None (number_back 4 no_id small rest end) refl

pub volume_id_back : (o : Option VolId) → volume_code o < 2 ^ 32 → IsVolumeId o → (rest : List ℕ) (end : ℕ)
    → optional volume_id (record { bytes = big_bytes 4 (volume_code o) ++ rest; end = end }) ≡ Got o (record { bytes = rest; end = end })
volume_id_back o = id_back (λ v. v.0) (λ n. record { 0 = n }) (λ v. refl) o

pub mapping_id_back : (o : Option MapId) → mapping_code o < 2 ^ 32 → IsMappingId o → (rest : List ℕ) (end : ℕ)
    → optional mapping_id (record { bytes = big_bytes 4 (mapping_code o) ++ rest; end = end }) ≡ Got o (record { bytes = rest; end = end })
mapping_id_back o = id_back (λ m. m.0) (λ n. record { 0 = n }) (λ m. refl) o

pub group_id_back : (o : Option GroupId) → group_code o < 2 ^ 32 → IsGroupId o → (rest : List ℕ) (end : ℕ)
    → optional group_id (record { bytes = big_bytes 4 (group_code o) ++ rest; end = end }) ≡ Got o (record { bytes = rest; end = end })
group_id_back o = id_back (λ g. g.0) (λ n. record { 0 = n }) (λ g. refl) o

-- ---- Lists

module _ {A : Type 0} (reader : Reader A) (f : A → List ℕ) (P : A → Type 0)
    (back : IsBack reader f P) where
  items_back : (xs : List A) → All P xs → (rest : List ℕ) (end : ℕ)
      → items reader (length xs) (record { bytes = flat_map f xs ++ rest; end = end }) ≡ Got xs (record { bytes = rest; end = end })
  unfolding items
  items_back [] all rest end = refl
  items_back (x ∷ xs) all rest end =
      then_back reader (λ x s. and_then (items reader (length xs) s) (λ xs s. Got (x ∷ xs) s)) x (f x) (flat_map f xs) rest end (back x (All-head P x xs all))
      ∙ ap (λ z. and_then z (λ xs s. Got (x ∷ xs) s)) (items_back xs (All-tail P x xs all) rest end)

  pub list_back : (xs : List A) → length xs < 2 ^ 32 → All P xs → (rest : List ℕ) (end : ℕ)
      → list reader (record { bytes = list_bytes f xs ++ rest; end = end }) ≡ Got xs (record { bytes = rest; end = end })
  unfolding list list_bytes
  list_back xs counted all rest end =
      then_back (number 4) (λ n s. items reader n s) (length xs) (big_bytes 4 (length xs)) (flat_map f xs) rest end (number_back 4 (length xs) counted)
      ∙ items_back xs all rest end

pub words_back : (ws : List ℕ) → AreWords ws → length ws < 2 ^ 32 → (rest : List ℕ) (end : ℕ)
    → words (record { bytes = words_bytes ws ++ rest; end = end }) ≡ Got ws (record { bytes = rest; end = end })
unfolding words words_bytes
words_back ws all counted = list_back (number 8) (big_bytes 8) (λ n. n < 2 ^ 64) (λ n small. number_back 8 n small) ws counted all

-- ---- The parts of an image

-- what a volume has to keep to be read again
pub record IsVolume (x : Volume) : Type 0 where
  pub typed : IsTypedVolume x

pub volume_back : IsBack volume volume_bytes IsVolume
unfolding volume volume_bytes
volume_back x ok rest end =
    then_back (number 4) _ x.id.0 (big_bytes 4 x.id.0) ((name_bytes x.name ++ (big_bytes 4 x.grains ++ byte (kind_code x.kind)))) rest end (number_back 4 x.id.0 ok.typed.id)
    ∙ (then_back name _ x.name (name_bytes x.name) ((big_bytes 4 x.grains ++ byte (kind_code x.kind))) rest end (name_back x.name ok.typed.name)
    ∙ (then_back (number 4) _ x.grains (big_bytes 4 x.grains) (byte (kind_code x.kind)) rest end (number_back 4 x.grains ok.typed.grains)
    ∙ (last_back kind _ x.kind (byte (kind_code x.kind)) rest end (kind_back x.kind))))

-- what a mapping has to keep to be read again
pub record IsMapping (x : Mapping) : Type 0 where
  pub typed : IsTypedMapping x
  pub group : IsGroupId x.group

pub mapping_back : IsBack mapping mapping_bytes IsMapping
unfolding mapping mapping_bytes
mapping_back x ok rest end =
    then_back (number 4) _ x.id.0 (big_bytes 4 x.id.0) ((name_bytes x.name ++ (big_bytes 4 x.source.0 ++ (big_bytes 4 x.target.0 ++ (big_bytes 4 (group_code x.group) ++ (byte (state_code x.state) ++ (byte x.copy_rate ++ (byte x.clean_rate ++ (byte (flag_code x.incremental) ++ (byte (flag_code x.autodelete) ++ (byte (flag_code x.restoring) ++ (big_bytes 4 x.held_at_leave ++ byte (flag_code x.complete))))))))))))) rest end (number_back 4 x.id.0 ok.typed.id)
    ∙ (then_back name _ x.name (name_bytes x.name) ((big_bytes 4 x.source.0 ++ (big_bytes 4 x.target.0 ++ (big_bytes 4 (group_code x.group) ++ (byte (state_code x.state) ++ (byte x.copy_rate ++ (byte x.clean_rate ++ (byte (flag_code x.incremental) ++ (byte (flag_code x.autodelete) ++ (byte (flag_code x.restoring) ++ (big_bytes 4 x.held_at_leave ++ byte (flag_code x.complete)))))))))))) rest end (name_back x.name ok.typed.name)
    ∙ (then_back (number 4) _ x.source.0 (big_bytes 4 x.source.0) ((big_bytes 4 x.target.0 ++ (big_bytes 4 (group_code x.group) ++ (byte (state_code x.state) ++ (byte x.copy_rate ++ (byte x.clean_rate ++ (byte (flag_code x.incremental) ++ (byte (flag_code x.autodelete) ++ (byte (flag_code x.restoring) ++ (big_bytes 4 x.held_at_leave ++ byte (flag_code x.complete))))))))))) rest end (number_back 4 x.source.0 ok.typed.source)
    ∙ (then_back (number 4) _ x.target.0 (big_bytes 4 x.target.0) ((big_bytes 4 (group_code x.group) ++ (byte (state_code x.state) ++ (byte x.copy_rate ++ (byte x.clean_rate ++ (byte (flag_code x.incremental) ++ (byte (flag_code x.autodelete) ++ (byte (flag_code x.restoring) ++ (big_bytes 4 x.held_at_leave ++ byte (flag_code x.complete)))))))))) rest end (number_back 4 x.target.0 ok.typed.target)
    ∙ (then_back (optional group_id) _ x.group (big_bytes 4 (group_code x.group)) ((byte (state_code x.state) ++ (byte x.copy_rate ++ (byte x.clean_rate ++ (byte (flag_code x.incremental) ++ (byte (flag_code x.autodelete) ++ (byte (flag_code x.restoring) ++ (big_bytes 4 x.held_at_leave ++ byte (flag_code x.complete))))))))) rest end (group_id_back x.group ok.typed.group ok.group)
    ∙ (then_back state _ x.state (byte (state_code x.state)) ((byte x.copy_rate ++ (byte x.clean_rate ++ (byte (flag_code x.incremental) ++ (byte (flag_code x.autodelete) ++ (byte (flag_code x.restoring) ++ (big_bytes 4 x.held_at_leave ++ byte (flag_code x.complete)))))))) rest end (state_back x.state)
    ∙ (then_back byte_value _ x.copy_rate (byte x.copy_rate) ((byte x.clean_rate ++ (byte (flag_code x.incremental) ++ (byte (flag_code x.autodelete) ++ (byte (flag_code x.restoring) ++ (big_bytes 4 x.held_at_leave ++ byte (flag_code x.complete))))))) rest end (byte_back x.copy_rate)
    ∙ (then_back byte_value _ x.clean_rate (byte x.clean_rate) ((byte (flag_code x.incremental) ++ (byte (flag_code x.autodelete) ++ (byte (flag_code x.restoring) ++ (big_bytes 4 x.held_at_leave ++ byte (flag_code x.complete)))))) rest end (byte_back x.clean_rate)
    ∙ (then_back flag _ x.incremental (byte (flag_code x.incremental)) ((byte (flag_code x.autodelete) ++ (byte (flag_code x.restoring) ++ (big_bytes 4 x.held_at_leave ++ byte (flag_code x.complete))))) rest end (flag_back x.incremental)
    ∙ (then_back flag _ x.autodelete (byte (flag_code x.autodelete)) ((byte (flag_code x.restoring) ++ (big_bytes 4 x.held_at_leave ++ byte (flag_code x.complete)))) rest end (flag_back x.autodelete)
    ∙ (then_back flag _ x.restoring (byte (flag_code x.restoring)) ((big_bytes 4 x.held_at_leave ++ byte (flag_code x.complete))) rest end (flag_back x.restoring)
    ∙ (then_back (number 4) _ x.held_at_leave (big_bytes 4 x.held_at_leave) (byte (flag_code x.complete)) rest end (number_back 4 x.held_at_leave ok.typed.held_at_leave)
    ∙ (last_back flag _ x.complete (byte (flag_code x.complete)) rest end (flag_back x.complete)))))))))))))

-- what a group has to keep to be read again
pub record IsGroup (x : Group) : Type 0 where
  pub typed : IsTypedGroup x

pub group_back : IsBack group group_bytes IsGroup
unfolding group group_bytes
group_back x ok rest end =
    then_back (number 4) _ x.id.0 (big_bytes 4 x.id.0) (name_bytes x.name) rest end (number_back 4 x.id.0 ok.typed.id)
    ∙ (last_back name _ x.name (name_bytes x.name) rest end (name_back x.name ok.typed.name))

-- what a slot has to keep to be read again
pub record IsSlot (x : MetaSlot) : Type 0 where
  pub typed : IsTypedSlot x
  pub map : IsMappingId x.map
  pub held : length x.held < 2 ^ 32

pub slot_back : IsBack slot slot_bytes IsSlot
unfolding slot slot_bytes
slot_back x ok rest end =
    then_back (number 8) _ x.birth.0 (big_bytes 8 x.birth.0) ((big_bytes 4 x.volume.0 ++ (byte (flag_code x.live) ++ (big_bytes 4 (mapping_code x.map) ++ words_bytes x.held)))) rest end (number_back 8 x.birth.0 ok.typed.birth)
    ∙ (then_back (number 4) _ x.volume.0 (big_bytes 4 x.volume.0) ((byte (flag_code x.live) ++ (big_bytes 4 (mapping_code x.map) ++ words_bytes x.held))) rest end (number_back 4 x.volume.0 ok.typed.volume)
    ∙ (then_back flag _ x.live (byte (flag_code x.live)) ((big_bytes 4 (mapping_code x.map) ++ words_bytes x.held)) rest end (flag_back x.live)
    ∙ (then_back (optional mapping_id) _ x.map (big_bytes 4 (mapping_code x.map)) (words_bytes x.held) rest end (mapping_id_back x.map ok.typed.map ok.map)
    ∙ (last_back words _ x.held (words_bytes x.held) rest end (words_back x.held ok.typed.held ok.held)))))

-- what a chain has to keep to be read again
pub record IsChain (x : MetaChain) : Type 0 where
  pub typed : IsTypedChain x
  pub slots_counted : length x.slots < 2 ^ 32
  pub slots : All IsSlot x.slots

pub chain_back : IsBack chain chain_bytes IsChain
unfolding chain chain_bytes
chain_back x ok rest end =
    then_back (number 8) _ x.label (big_bytes 8 x.label) (list_bytes slot_bytes x.slots) rest end (number_back 8 x.label ok.typed.label)
    ∙ (last_back (list slot) _ x.slots (list_bytes slot_bytes x.slots) rest end (list_back slot slot_bytes IsSlot slot_back x.slots ok.slots_counted ok.slots))

-- what a lost has to keep to be read again
pub record IsLost (x : MetaLost) : Type 0 where
  pub typed : IsTypedLost x
  pub lost : length x.lost < 2 ^ 32

pub lost_back : IsBack lost lost_bytes IsLost
unfolding lost lost_bytes
lost_back x ok rest end =
    then_back (number 4) _ x.volume.0 (big_bytes 4 x.volume.0) (words_bytes x.lost) rest end (number_back 4 x.volume.0 ok.typed.volume)
    ∙ (last_back words _ x.lost (words_bytes x.lost) rest end (words_back x.lost ok.typed.lost ok.lost))

-- what a changes has to keep to be read again
pub record IsChanges (x : MetaChanges) : Type 0 where
  pub typed : IsTypedChanges x
  pub last_source : IsVolumeId x.last_source
  pub last_target : IsVolumeId x.last_target
  pub changed : length x.changed < 2 ^ 32
  pub kept : length x.kept < 2 ^ 32

pub changes_back : IsBack changes changes_bytes IsChanges
unfolding changes changes_bytes
changes_back x ok rest end =
    then_back (number 4) _ x.map.0 (big_bytes 4 x.map.0) ((big_bytes 4 (volume_code x.last_source) ++ (big_bytes 4 (volume_code x.last_target) ++ (words_bytes x.changed ++ words_bytes x.kept)))) rest end (number_back 4 x.map.0 ok.typed.map)
    ∙ (then_back (optional volume_id) _ x.last_source (big_bytes 4 (volume_code x.last_source)) ((big_bytes 4 (volume_code x.last_target) ++ (words_bytes x.changed ++ words_bytes x.kept))) rest end (volume_id_back x.last_source ok.typed.last_source ok.last_source)
    ∙ (then_back (optional volume_id) _ x.last_target (big_bytes 4 (volume_code x.last_target)) ((words_bytes x.changed ++ words_bytes x.kept)) rest end (volume_id_back x.last_target ok.typed.last_target ok.last_target)
    ∙ (then_back words _ x.changed (words_bytes x.changed) (words_bytes x.kept) rest end (words_back x.changed ok.typed.changed ok.changed)
    ∙ (last_back words _ x.kept (words_bytes x.kept) rest end (words_back x.kept ok.typed.kept ok.kept)))))

-- what a image has to keep to be read again
pub record IsImage (x : MetaImage) : Type 0 where
  pub typed : IsTypedImage x
  pub volumes_counted : length x.volumes < 2 ^ 32
  pub volumes : All IsVolume x.volumes
  pub mappings_counted : length x.mappings < 2 ^ 32
  pub mappings : All IsMapping x.mappings
  pub groups_counted : length x.groups < 2 ^ 32
  pub groups : All IsGroup x.groups
  pub chains_counted : length x.chains < 2 ^ 32
  pub chains : All IsChain x.chains
  pub lost_counted : length x.lost < 2 ^ 32
  pub lost : All IsLost x.lost
  pub changes_counted : length x.changes < 2 ^ 32
  pub changes : All IsChanges x.changes

pub image_back : IsBack image image_bytes IsImage
unfolding image image_bytes
image_back x ok rest end =
    then_back (number 8) _ x.next_birth (big_bytes 8 x.next_birth) ((big_bytes 4 x.next_volume ++ (big_bytes 4 x.next_map ++ (big_bytes 4 x.next_group ++ (list_bytes volume_bytes x.volumes ++ (list_bytes mapping_bytes x.mappings ++ (list_bytes group_bytes x.groups ++ (list_bytes chain_bytes x.chains ++ (list_bytes lost_bytes x.lost ++ list_bytes changes_bytes x.changes))))))))) rest end (number_back 8 x.next_birth ok.typed.next_birth)
    ∙ (then_back (number 4) _ x.next_volume (big_bytes 4 x.next_volume) ((big_bytes 4 x.next_map ++ (big_bytes 4 x.next_group ++ (list_bytes volume_bytes x.volumes ++ (list_bytes mapping_bytes x.mappings ++ (list_bytes group_bytes x.groups ++ (list_bytes chain_bytes x.chains ++ (list_bytes lost_bytes x.lost ++ list_bytes changes_bytes x.changes)))))))) rest end (number_back 4 x.next_volume ok.typed.next_volume)
    ∙ (then_back (number 4) _ x.next_map (big_bytes 4 x.next_map) ((big_bytes 4 x.next_group ++ (list_bytes volume_bytes x.volumes ++ (list_bytes mapping_bytes x.mappings ++ (list_bytes group_bytes x.groups ++ (list_bytes chain_bytes x.chains ++ (list_bytes lost_bytes x.lost ++ list_bytes changes_bytes x.changes))))))) rest end (number_back 4 x.next_map ok.typed.next_map)
    ∙ (then_back (number 4) _ x.next_group (big_bytes 4 x.next_group) ((list_bytes volume_bytes x.volumes ++ (list_bytes mapping_bytes x.mappings ++ (list_bytes group_bytes x.groups ++ (list_bytes chain_bytes x.chains ++ (list_bytes lost_bytes x.lost ++ list_bytes changes_bytes x.changes)))))) rest end (number_back 4 x.next_group ok.typed.next_group)
    ∙ (then_back (list volume) _ x.volumes (list_bytes volume_bytes x.volumes) ((list_bytes mapping_bytes x.mappings ++ (list_bytes group_bytes x.groups ++ (list_bytes chain_bytes x.chains ++ (list_bytes lost_bytes x.lost ++ list_bytes changes_bytes x.changes))))) rest end (list_back volume volume_bytes IsVolume volume_back x.volumes ok.volumes_counted ok.volumes)
    ∙ (then_back (list mapping) _ x.mappings (list_bytes mapping_bytes x.mappings) ((list_bytes group_bytes x.groups ++ (list_bytes chain_bytes x.chains ++ (list_bytes lost_bytes x.lost ++ list_bytes changes_bytes x.changes)))) rest end (list_back mapping mapping_bytes IsMapping mapping_back x.mappings ok.mappings_counted ok.mappings)
    ∙ (then_back (list group) _ x.groups (list_bytes group_bytes x.groups) ((list_bytes chain_bytes x.chains ++ (list_bytes lost_bytes x.lost ++ list_bytes changes_bytes x.changes))) rest end (list_back group group_bytes IsGroup group_back x.groups ok.groups_counted ok.groups)
    ∙ (then_back (list chain) _ x.chains (list_bytes chain_bytes x.chains) ((list_bytes lost_bytes x.lost ++ list_bytes changes_bytes x.changes)) rest end (list_back chain chain_bytes IsChain chain_back x.chains ok.chains_counted ok.chains)
    ∙ (then_back (list lost) _ x.lost (list_bytes lost_bytes x.lost) (list_bytes changes_bytes x.changes) rest end (list_back lost lost_bytes IsLost lost_back x.lost ok.lost_counted ok.lost)
    ∙ (last_back (list changes) _ x.changes (list_bytes changes_bytes x.changes) rest end (list_back changes changes_bytes IsChanges changes_back x.changes ok.changes_counted ok.changes))))))))))
