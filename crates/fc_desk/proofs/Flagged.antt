-- The flags of all mappings after a deed that sets some of them.
use Rattle.std.proofs.Common.{◌≡◌, ◌∙◌, sym, ap, List, [], ◌∷◌, ◌++◌, map, None, refl}
use Rattle.std.specs.List.{Contains, flat_map}
use Rattle.fc_base.specs.Sheet.{Slot}
use Rattle.fc_base.specs.declared.decision.LaneEvent.{LaneEvent}
use Rattle.fc_base.specs.declared.volume.Mapping.{Mapping}
use Rattle.fc_base.specs.declared.volume.Volume.{Volume}
use Rattle.fc_books.specs.Books.{Books}
use Rattle.fc_books.specs.Work.{work_events}
use Rattle.fc_desk.proofs.Setting.{first_there, later_there}
use Rattle.fc_desk.proofs.Working.{each_told}
use Rattle.fc_desk.specs.Background.{work_as, whole_in}
use Rattle.fc_desk.specs.Telling.{work_told}
use Rattle.fc_pick.specs.declared.work.WorkFlags.{WorkFlags}

pub flat_none : {X A : Type 0} (xs : List X) → flat_map {X = X} {A = A} (λ x. []) xs ≡ []
flat_none [] = refl
flat_none (x ∷ xs) = flat_none xs

told_each : (other : Books) (h : Mapping → Mapping) (tell : Mapping → List LaneEvent) (xs : List Mapping) → ((x : Mapping) → Contains xs x → work_told other None (h x) ≡ tell x) → flat_map (work_told other None) (map h xs) ≡ flat_map tell xs
told_each other h tell [] same = refl
told_each other h tell (x ∷ xs) same =
    ap (λ es. es ++ flat_map (work_told other None) (map h xs)) (same x (first_there x xs))
    ∙ ap (λ es. tell x ++ es) (told_each other h tell xs (λ z found. same z (later_there z x xs found)))

-- What is told of each is told of all.
pub work_by_each : (other : Books) (h : Mapping → Mapping) (tell : Mapping → List LaneEvent) (xs : List Mapping) → other.tables.mappings ≡ map h xs → ((x : Mapping) → Contains xs x → work_told other None (h x) ≡ tell x) → work_events other ≡ flat_map tell xs
unfolding work_events
work_by_each other h tell xs maps same = sym (each_told other other.tables.mappings) ∙ ap (flat_map (work_told other None)) maps ∙ told_each other h tell xs same

pub work_of_each : (b : Books) → work_events b ≡ flat_map (work_told b None) b.tables.mappings
unfolding work_events
work_of_each b = sym (each_told b b.tables.mappings)

pub told_as : (other : Books) (flags : List WorkFlags) (volumes : List Volume) (slots : List Slot) (m : Mapping) → other.flags ≡ flags → other.tables.volumes ≡ volumes → other.sheet.slots ≡ slots → work_told other None m ≡ work_as flags (whole_in volumes slots m) m
told_as other flags volumes slots m f v s =
    ap (λ x. work_as x (whole_in other.tables.volumes other.sheet.slots m) m) f
    ∙ ap (λ x. work_as flags (whole_in x other.sheet.slots m) m) v
    ∙ ap (λ x. work_as flags (whole_in volumes x m) m) s
