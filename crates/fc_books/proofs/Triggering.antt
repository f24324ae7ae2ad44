-- What can't be triggered at once, by three questions.
use Rattle.std.proofs.Common.{◌≡◌, ℕ, Bool, true, false, List, [], ◌∷◌, Option, Some, None, refl}
use Rattle.std.specs.Option.{option_map}
use Rattle.fc_base.specs.declared.fault.Refusal.{Refusal}
use Rattle.fc_base.specs.declared.fault.Refusal.TheVariants.{Empty, TargetTwice, SourceIsTarget}
use Rattle.fc_base.specs.declared.volume.Mapping.{Mapping}
use Rattle.fc_books.specs.Groups.{trigger_refusal, is_none_of, least, twice_targets, source_targets}
use Rattle.fc_entry.specs.Refused.{first_of, where_}

-- is there none; which is a target twice; which is a source and a target
abbrev pub told_of : Bool → Option ℕ → Option ℕ → Option Refusal
told_of true twice source = Some Empty
told_of false (Some v) source = Some (TargetTwice record { 0 = v })
told_of false None (Some v) = Some (SourceIsTarget record { 0 = v })
told_of false None None = None

first_told : (b : Bool) (twice source : Option ℕ) → first_of (where_ b Empty ∷ option_map (λ v. TargetTwice record { 0 = v }) twice ∷ option_map (λ v. SourceIsTarget record { 0 = v }) source ∷ []) ≡ told_of b twice source
first_told true twice source = refl
first_told false (Some v) source = refl
first_told false None (Some v) = refl
first_told false None None = refl

pub trigger_refusal-told : (maps : List Mapping) → trigger_refusal maps ≡ told_of (is_none_of maps) (least (twice_targets maps)) (least (source_targets maps))
trigger_refusal-told maps = first_told (is_none_of maps) (least (twice_targets maps)) (least (source_targets maps))
