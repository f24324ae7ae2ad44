-- Changes that make and remove no volume, and what they leave.
use Rattle.std.proofs.Common.{◌≡◌, ℕ, Bool, List, [], ◌∷◌, map, fold, refl, ap, ◌∙◌}
use Rattle.std.specs.List.{flat_map}
use Rattle.fc_base.specs.Tables.{Tables}
use Rattle.fc_base.specs.declared.decision.LaneEvent.{LaneEvent}
use Rattle.fc_base.specs.declared.volume.Change.{Change}
use Rattle.fc_base.specs.declared.volume.Change.TheVariants.{AddVolume, RemoveVolume, AddMapping, RemoveMapping, SetMapping, AddGroup, RemoveGroup}
use Rattle.fc_books.specs.After.{after_table_change, after_event, after_all}
use Rattle.fc_books.specs.Books.{Books}
use Rattle.fc_legal.proofs.Each.{Each, each_append}

-- It makes and removes no volume.
abbrev pub IsApart : Change → Type 0
IsApart (AddVolume volume) = ⊥
IsApart (RemoveVolume id) = ⊥
IsApart change = Unit {0}

-- None of them does.
abbrev pub AreApart : List Change → Type 0
AreApart changes = Each IsApart changes

pub flat_map_apart : {X : Type 0} (f : X → List Change) (xs : List X) → ((x : X) → AreApart (f x)) → AreApart (flat_map f xs)
flat_map_apart f [] each = tt
flat_map_apart f (x ∷ xs) each = each_append IsApart (f x) (flat_map f xs) (each x) (flat_map_apart f xs each)

pub map_apart : {X : Type 0} (f : X → Change) (xs : List X) → ((x : X) → IsApart (f x)) → AreApart (map f xs)
map_apart f [] each = tt
map_apart f (x ∷ xs) each = (each x, map_apart f xs each)

change_keeps : (b : Books) (change : Change) → IsApart change → (after_table_change b change).tables.volumes ≡ b.tables.volumes
change_keeps b (AddVolume volume) apart = absurd apart
change_keeps b (RemoveVolume id) apart = absurd apart
change_keeps b (AddMapping m) apart = refl
change_keeps b (RemoveMapping id) apart = refl
change_keeps b (SetMapping m) apart = refl
change_keeps b (AddGroup g) apart = refl
change_keeps b (RemoveGroup id) apart = refl

changes_keep : (b : Books) (changes : List Change) → AreApart changes → (fold after_table_change b changes).tables.volumes ≡ b.tables.volumes
changes_keep b [] apart = refl
changes_keep b (change ∷ changes) apart = changes_keep (after_table_change b change) changes apart.1 ∙ change_keeps b change apart.0

-- Lanes' events change no table.
pub events_keep : (restarts : ℕ → List Bool) (b : Books) (events : List LaneEvent) → (fold (after_event restarts) b events).tables ≡ b.tables
events_keep restarts b [] = refl
events_keep restarts b (event ∷ events) = events_keep restarts (after_event restarts b event) events

-- So with such changes the volumes stay.
pub volumes_keep : (restarts : ℕ → List Bool) (events : List LaneEvent) (changes : List Change) (b : Books) → AreApart changes → (after_all restarts events changes b).tables.volumes ≡ b.tables.volumes
volumes_keep restarts events changes b apart =
    ap (λ (t : Tables). t.volumes) (events_keep restarts (fold after_table_change b changes) events) ∙ changes_keep b changes apart
