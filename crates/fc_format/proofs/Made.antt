-- A part of an image is read as the tuple of its fields.
use Rattle.std.proofs.Common.{◌≡◌, Some, Err, refl, sym}
use Rattle.fc_format.specs.declared.cursor.ReadError.{ReadError}
use Rattle.fc_format.proofs.Steps.{stops, answers_as}
use Rattle.fc_image.specs.declared.record.MetaRecord.TheVariants.{Pair, Written, Torn, Changing}
use Rattle.fc_format.specs.Left.{Left}
use Rattle.fc_format.specs.Reading.{Reading, Got, Bad, Reader, and_then, both, choice, number, name, list, IsRead}
use Rattle.fc_format.specs.Fields.{flag, flag_of, side, side_of, kind, kind_of, state, state_of, byte_value, optional, volume_id, mapping_id, group_id, words, volume, mapping, group, slot, chain, lost, changes, image, pair, written, torn, changing}

-- A reader makes its value of another's.
pub record IsMade {A B : Type 0} (all : Reader B) (make : A → B) (parts : Reader A) : Type 0 where
  pub same : (s : Left) → all s ≡ and_then (parts s) (λ a s. Got (make a) s)

pub fails : {A B : Type 0} {all : Reader B} {make : A → B} {parts : Reader A} → IsMade all make parts → (s : Left) (error : ReadError) (left after : Left)
    → IsRead (parts s) (Err error) left → IsRead (all s) (Err error) after
fails {make = make} {parts = parts} m s error left after failed =
    answers_as _ _ (Err error) after (m.same s) (stops (parts s) (λ a s. Got (make a) s) error left after failed)

then_then : {A B C : Type 0} (r : Reading A) (f : A → Reader B) (g : B → Reader C) → and_then (and_then r f) g ≡ and_then r (λ a s. and_then (f a s) g)
then_then (Got a s) f g = refl
then_then (Bad at) f g = refl

-- ---- The parts of an image

pub volume_made : IsMade volume (λ p. record { id = record { 0 = p.0 }; name = p.1.0; grains = p.1.1.0; kind = p.1.1.1 })
    (both (number 4) (both name (both (number 4) (choice kind_of))))
unfolding volume kind
volume_made = record { same = λ s. sym (simp then_then refl) }

pub mapping_made : IsMade mapping (λ p. record { id = record { 0 = p.0.0 }; name = p.0.1; source = record { 0 = p.1.0.0 }; target = record { 0 = p.1.0.1.0 }; group = p.1.0.1.1; state = p.1.1.0.0; copy_rate = p.1.1.0.1.0; clean_rate = p.1.1.0.1.1; incremental = p.1.1.1.0.0; autodelete = p.1.1.1.0.1.0; restoring = p.1.1.1.0.1.1; held_at_leave = p.1.1.1.1.0; complete = p.1.1.1.1.1 })
    (both (both (number 4) name) (both (both (number 4) (both (number 4) (optional group_id))) (both (both (choice state_of) (both (choice (λ n. Some n)) (choice (λ n. Some n)))) (both (both (choice flag_of) (both (choice flag_of) (choice flag_of))) (both (number 4) (choice flag_of))))))
unfolding mapping flag state byte_value
mapping_made = record { same = λ s. sym (simp then_then refl) }

pub group_made : IsMade group (λ p. record { id = record { 0 = p.0 }; name = p.1 })
    (both (number 4) name)
unfolding group
group_made = record { same = λ s. sym (simp then_then refl) }

pub slot_made : IsMade slot (λ p. record { birth = record { 0 = p.0 }; volume = record { 0 = p.1.0 }; live = p.1.1.0; map = p.1.1.1.0; held = p.1.1.1.1 })
    (both (number 8) (both (number 4) (both (choice flag_of) (both (optional mapping_id) words))))
unfolding slot flag
slot_made = record { same = λ s. sym (simp then_then refl) }

pub chain_made : IsMade chain (λ p. record { label = p.0; slots = p.1 })
    (both (number 8) (list slot))
unfolding chain
chain_made = record { same = λ s. sym (simp then_then refl) }

pub lost_made : IsMade lost (λ p. record { volume = record { 0 = p.0 }; lost = p.1 })
    (both (number 4) words)
unfolding lost
lost_made = record { same = λ s. sym (simp then_then refl) }

pub changes_made : IsMade changes (λ p. record { map = record { 0 = p.0 }; last_source = p.1.0; last_target = p.1.1.0; changed = p.1.1.1.0; kept = p.1.1.1.1 })
    (both (number 4) (both (optional volume_id) (both (optional volume_id) (both words words))))
unfolding changes
changes_made = record { same = λ s. sym (simp then_then refl) }

pub image_made : IsMade image (λ p. record { next_birth = p.0.0; next_volume = p.0.1.0; next_map = p.0.1.1.0; next_group = p.0.1.1.1; volumes = p.1.0.0; mappings = p.1.0.1.0; groups = p.1.0.1.1; chains = p.1.1.0; lost = p.1.1.1.0; changes = p.1.1.1.1 })
    (both (both (number 8) (both (number 4) (both (number 4) (number 4)))) (both (both (list volume) (both (list mapping) (list group))) (both (list chain) (both (list lost) (list changes)))))
unfolding image
image_made = record { same = λ s. sym (simp then_then refl) }

pub pair_made : IsMade pair (λ p. Pair (record { 0 = p.0 }) (record { 0 = p.1.0 }) (record { 0 = p.1.1.0 }) p.1.1.1.0 p.1.1.1.1)
    (both (number 8) (both (number 4) (both (number 4) (both (choice flag_of) (choice flag_of)))))
unfolding pair flag
pair_made = record { same = λ s. sym (simp then_then refl) }

pub written_made : IsMade written (λ p. Written (record { 0 = p.0 }) (record { 0 = p.1 })) (both (number 4) (number 4))
unfolding written
written_made = record { same = λ s. sym (simp then_then refl) }

pub torn_made : IsMade torn (λ p. Torn (record { 0 = p.0 }) (record { 0 = p.1.0 }) p.1.1)
    (both (number 4) (both (number 4) (choice side_of)))
unfolding torn side
torn_made = record { same = λ s. sym (simp then_then refl) }

pub changing_made : IsMade changing (λ p. Changing (record { 0 = p.0 }) (record { 0 = p.1 })) (both (number 4) (number 4))
unfolding changing
changing_made = record { same = λ s. sym (simp then_then refl) }
