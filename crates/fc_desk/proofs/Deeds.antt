-- Deeds one after the other.
use Rattle.std.proofs.Common.{◌≡◌, ◌∙◌, sym, ap, ℕ, ◌+◌, ◌<◌, List, [], ◌∷◌, ◌++◌, append_assoc, append-nil, length, get_or, take}
use Rattle.std.proofs.lemmas.List.{take_more}
use Rattle.std.specs.List.{flat_map}
use Rattle.fc_base.specs.declared.decision.LaneEvent.{LaneEvent}
use Rattle.fc_base.specs.declared.request.Effect.{Effect}
use Rattle.fc_base.specs.declared.volume.Change.{Change}
use Rattle.fc_books.specs.Books.{Deed, nothing, ◌then◌, all_deeds}

-- by its three parts
pub deed_of : (effects effects' : List Effect) (events events' : List LaneEvent) (changes changes' : List Change) → effects ≡ effects' → events ≡ events' → changes ≡ changes' → (let d : Deed = record { effects = effects; events = events; changes = changes } in let e : Deed = record { effects = effects'; events = events'; changes = changes' } in d ≡ e)
deed_of effects effects' events events' changes changes' p q r = cc

pub then-assoc : (a b c : Deed) → ((a then b) then c) ≡ (a then (b then c))
then-assoc a b c =
    deed_of ((a.effects ++ b.effects) ++ c.effects) (a.effects ++ (b.effects ++ c.effects)) ((a.events ++ b.events) ++ c.events) (a.events ++ (b.events ++ c.events)) ((a.changes ++ b.changes) ++ c.changes) (a.changes ++ (b.changes ++ c.changes))
    (append_assoc a.effects b.effects c.effects) (append_assoc a.events b.events c.events) (append_assoc a.changes b.changes c.changes)

pub then-nothing : (a : Deed) → (a then nothing) ≡ a
then-nothing a = deed_of (a.effects ++ []) a.effects (a.events ++ []) a.events (a.changes ++ []) a.changes (append-nil a.effects) (append-nil a.events) (append-nil a.changes)

flat_push : {X A : Type 0} (f : X → List A) (xs : List X) (x : X) → flat_map f (xs ++ x ∷ []) ≡ flat_map f xs ++ f x
flat_push f [] x = append-nil (f x)
flat_push f (y ∷ ys) x = ap (λ zs. f y ++ zs) (flat_push f ys x) ∙ sym (append_assoc (f y) (flat_map f ys) (f x))

pub all_deeds-push : {X : Type 0} (deed : X → Deed) (xs : List X) (x : X) → all_deeds deed (xs ++ x ∷ []) ≡ (all_deeds deed xs then deed x)
all_deeds-push deed xs x =
    deed_of (flat_map (λ y. (deed y).effects) (xs ++ x ∷ [])) (flat_map (λ y. (deed y).effects) xs ++ (deed x).effects)
    (flat_map (λ y. (deed y).events) (xs ++ x ∷ [])) (flat_map (λ y. (deed y).events) xs ++ (deed x).events)
    (flat_map (λ y. (deed y).changes) (xs ++ x ∷ [])) (flat_map (λ y. (deed y).changes) xs ++ (deed x).changes)
    (flat_push (λ y. (deed y).effects) xs x) (flat_push (λ y. (deed y).events) xs x) (flat_push (λ y. (deed y).changes) xs x)

-- the deeds behind what was there, one more
pub all_deeds-more : {X : Type 0} (start : Deed) (deed : X → Deed) (xs : List X) (i : ℕ) (d : X) → i < length xs → (start then all_deeds deed (take (i + 1) xs)) ≡ ((start then all_deeds deed (take i xs)) then deed (get_or xs i d))
all_deeds-more start deed xs i d lt =
    ap (λ ys. start then all_deeds deed ys) (take_more xs i d lt)
    ∙ ap (λ whole. start then whole) (all_deeds-push deed (take i xs) (get_or xs i d))
    ∙ sym (then-assoc start (all_deeds deed (take i xs)) (deed (get_or xs i d)))
