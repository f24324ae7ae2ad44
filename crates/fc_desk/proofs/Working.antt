-- The flags of all mappings.
use Rattle.std.proofs.Common.{◌≡◌, ◌∙◌, ap, Bool, true, false, cond, List, [], ◌∷◌, ◌++◌, map, None, refl, append-nil}
use Rattle.std.specs.List.{filter, flat_map}
use Rattle.fc_base.specs.declared.decision.Decision.{Decision}
use Rattle.fc_base.specs.declared.decision.LaneEvent.{LaneEvent}
use Rattle.fc_base.specs.declared.decision.LaneEvent.TheVariants.{Work}
use Rattle.fc_base.specs.declared.request.Reply.{Reply}
use Rattle.fc_base.specs.declared.volume.Mapping.{Mapping}
use Rattle.fc_books.specs.Books.{Books, Deed, told, ◌then◌, all_deeds}
use Rattle.fc_books.specs.Work.{copies, cleans, changes_work, work_events}
use Rattle.fc_desk.proofs.Deeds.{deed_of}
use Rattle.fc_desk.specs.Telling.{work_told}

no_items : {X A : Type 0} (xs : List X) → flat_map {X = X} {A = A} (λ x. []) xs ≡ []
no_items [] = refl
no_items (x ∷ xs) = no_items xs

-- what is told of each is told of all
pub told_all : {X : Type 0} (f : X → List LaneEvent) (xs : List X) → all_deeds (λ x. told (f x)) xs ≡ told (flat_map f xs)
told_all f xs = deed_of (flat_map (λ x. []) xs) [] (flat_map f xs) (flat_map f xs) (flat_map (λ x. []) xs) [] (no_items xs) refl (no_items xs)

abbrev event_of : Books → Mapping → LaneEvent
event_of b m = Work m.id (copies b m) (cleans b m)

one_told : (b : Books) (m : Mapping) (rest : List Mapping) (c : Bool) → (cond c (event_of b m ∷ []) [] ++ map (event_of b) rest) ≡ map (event_of b) (cond c (m ∷ rest) rest)
one_told b m rest true = refl
one_told b m rest false = refl

pub each_told : (b : Books) (xs : List Mapping) → flat_map (work_told b None) xs ≡ map (event_of b) (filter (changes_work b) xs)
each_told b [] = refl
each_told b (m ∷ ms) = ap (λ es. work_told b None m ++ es) (each_told b ms) ∙ one_told b m (filter (changes_work b) ms) (changes_work b m)

pub all_told : (b : Books) → all_deeds (λ (m : Mapping). told (work_told b None m)) b.tables.mappings ≡ told (work_events b)
unfolding work_events
all_told b = told_all (work_told b None) b.tables.mappings ∙ ap told (each_told b b.tables.mappings)

-- a decision that is concluded by the flags
abbrev pub with_reply : Reply → Deed → Decision
with_reply reply d = record { reply = reply; effects = d.effects; events = d.events; changes = d.changes }

pub told_behind : (d : Deed) (events : List LaneEvent) → (d then told events) ≡ (record d { events = d.events ++ events })
told_behind d events = deed_of (d.effects ++ []) d.effects (d.events ++ events) (d.events ++ events) (d.changes ++ []) d.changes (append-nil d.effects) refl (append-nil d.changes)

pub concluded :
    (b : Books) (draft whole : Deed) (reply : Reply) (decision : Decision) →
    whole ≡ (draft then all_deeds (λ (m : Mapping). told (work_told b None m)) b.tables.mappings) →
    decision ≡ with_reply reply whole →
    decision ≡ record { reply = reply; effects = draft.effects; events = draft.events ++ work_events b; changes = draft.changes }
concluded b draft whole reply decision whole_is decision_is =
    decision_is ∙ ap (with_reply reply) (whole_is ∙ ap (λ d. draft then d) (all_told b) ∙ told_behind draft (work_events b))
