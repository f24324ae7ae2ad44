-- The background work as a mapping goes.
use Rattle.std.proofs.Common.{◌≡◌, ◌∙◌, sym, ap, ℕ, Bool, true, false, cond, not, ◌&&◌, ◌||◌, ◌==◌, nat_lt, List, [], ◌∷◌, ◌++◌, map, Option, Some, refl, arith}
use Rattle.std.specs.List.{find, filter, flat_map}
use Rattle.std.specs.Option.{option_map_or}
use Rattle.std.proofs.lemmas.Bool.{eqb-true, eq-eqb}
use Rattle.fc_base.specs.declared.decision.Decision.{Decision}
use Rattle.fc_base.specs.declared.decision.LaneEvent.{LaneEvent}
use Rattle.fc_base.specs.declared.decision.LaneEvent.TheVariants.{Work, Access, Forget}
use Rattle.fc_base.specs.declared.state.Access.TheVariants.{Online}
use Rattle.fc_base.specs.declared.volume.Change.TheVariants.{RemoveMapping}
use Rattle.fc_base.specs.declared.ids.MapId.{MapId}
use Rattle.fc_base.specs.declared.request.Reply.{Reply}
use Rattle.fc_base.specs.declared.volume.Mapping.{Mapping}
use Rattle.fc_books.specs.Accesses.{is_copying, is_stopping, is_stopped}
use Rattle.fc_books.specs.After.{after_all}
use Rattle.fc_books.specs.Books.{Books, Deed, told, ◌then◌, all_deeds}
use Rattle.fc_books.specs.Copies.{is_whole}
use Rattle.fc_books.specs.Deciding.{with_work}
use Rattle.fc_books.specs.Making.{remove_mapping}
use Rattle.fc_books.specs.Work.{copies, cleans, are_same, changes_work, work_events}
use Rattle.fc_desk.proofs.Working.{told_all, told_behind}
use Rattle.fc_desk.specs.Telling.{work_told}
use Rattle.fc_pick.specs.declared.work.WorkFlags.{WorkFlags}

abbrev pub row_with : List WorkFlags → ℕ → Option WorkFlags
row_with flags n = find (λ (r : WorkFlags). r.map.0 == n) flags

-- the row of another mapping stays
other_row : (gone n : ℕ) (r : WorkFlags) (rest : List WorkFlags) (a b : Bool) → (gone == r.map.0) ≡ a → (r.map.0 == n) ≡ b → (gone == n) ≡ false →
    row_with (filter (λ (x : WorkFlags). not (gone == x.map.0)) rest) n ≡ row_with rest n →
    row_with (cond (not a) (r ∷ filter (λ (x : WorkFlags). not (gone == x.map.0)) rest) (filter (λ (x : WorkFlags). not (gone == x.map.0)) rest)) n ≡ cond b (Some r) (row_with rest n)
other_row gone n r rest false b is_a is_b apart same = ap (λ c. cond c (Some r) (row_with (filter (λ (x : WorkFlags). not (gone == x.map.0)) rest) n)) is_b ∙ ap (λ o. cond b (Some r) o) same
other_row gone n r rest true false is_a is_b apart same = same
other_row gone n r rest true true is_a is_b apart same =
    grind (arith, apart, eq-eqb gone n (eqb-true gone r.map.0 is_a ∙ eqb-true r.map.0 n is_b))

pub row_stays : (gone n : ℕ) (flags : List WorkFlags) → (gone == n) ≡ false → row_with (filter (λ (x : WorkFlags). not (gone == x.map.0)) flags) n ≡ row_with flags n
row_stays gone n [] apart = refl
row_stays gone n (r ∷ rest) apart =
    other_row gone n r rest (gone == r.map.0) (r.map.0 == n) refl refl apart (row_stays gone n rest apart)

-- what is told of a mapping that stays
abbrev pub tells : Option WorkFlags → Bool → Mapping → List LaneEvent
tells row whole m =
    let c = is_copying m.state && (not whole && nat_lt 0 m.copy_rate) in
    let k = nat_lt 0 m.clean_rate && (is_stopping m.state || (is_copying m.state && ((m.copy_rate == 0) || whole))) in
    cond (not (are_same c (option_map_or (λ (r : WorkFlags). r.copies) row false) && are_same k (option_map_or (λ (r : WorkFlags). r.cleans) row false))) (Work m.id c k ∷ []) []

abbrev work_of : Books → List Mapping → List LaneEvent
work_of b maps = map (λ (m : Mapping). Work m.id (copies b m) (cleans b m)) (filter (changes_work b) maps)

put_told : (b : Books) (m : Mapping) (rest : List Mapping) (c : Bool) → map (λ (x : Mapping). Work x.id (copies b x) (cleans b x)) (cond c (m ∷ rest) rest) ≡ (cond c (Work m.id (copies b m) (cleans b m) ∷ []) [] ++ map (λ (x : Mapping). Work x.id (copies b x) (cleans b x)) rest)
put_told b m rest true = refl
put_told b m rest false = refl

first_told : (b : Books) (m : Mapping) (ms : List Mapping) → work_of b (m ∷ ms) ≡ (tells (row_with b.flags m.id.0) (is_whole b m) m ++ work_of b ms)
first_told b m ms = put_told b m (filter (changes_work b) ms) (changes_work b m)

one_stays :
    (b other : Books) (gone : MapId) (m : Mapping) (left : List Mapping) (rest : List LaneEvent) (s : Bool) → (gone.0 == m.id.0) ≡ s →
    ((gone.0 == m.id.0) ≡ false → row_with other.flags m.id.0 ≡ row_with b.flags m.id.0) →
    is_whole other m ≡ is_whole b m → work_of other left ≡ rest →
    work_of other (cond (not s) (m ∷ left) left) ≡ (cond (not s && changes_work b m) (Work m.id (copies b m) (cleans b m) ∷ []) [] ++ rest)
one_stays b other gone m left rest true is row whole same = same
one_stays b other gone m left rest false is row whole same =
    first_told other m left
    ∙ ap (λ r. tells r (is_whole other m) m ++ work_of other left) (row is)
    ∙ ap (λ w. tells (row_with b.flags m.id.0) w m ++ work_of other left) whole
    ∙ ap (λ es. tells (row_with b.flags m.id.0) (is_whole b m) m ++ es) same

-- one after the other, of those that stay
each_stays :
    (b other : Books) (gone : MapId) (maps : List Mapping) →
    ((m : Mapping) → (gone.0 == m.id.0) ≡ false → row_with other.flags m.id.0 ≡ row_with b.flags m.id.0) →
    ((m : Mapping) → is_whole other m ≡ is_whole b m) →
    work_of other (filter (λ (m : Mapping). not (gone.0 == m.id.0)) maps) ≡ flat_map (work_told b (Some gone)) maps
each_stays b other gone [] rows whole = refl
each_stays b other gone (m ∷ ms) rows whole =
    one_stays b other gone m (filter (λ (x : Mapping). not (gone.0 == x.id.0)) ms) (flat_map (work_told b (Some gone)) ms) (gone.0 == m.id.0) refl (rows m) (whole m) (each_stays b other gone ms rows whole)

by_stopped :
    (restarts : ℕ → List Bool) (b : Books) (m : Mapping) (s : Bool) →
    work_events (after_all restarts (cond s (Access m.target Online ∷ []) [] ++ Forget m.id ∷ []) (RemoveMapping m.id ∷ []) b) ≡ flat_map (work_told b (Some m.id)) b.tables.mappings
unfolding work_events
by_stopped restarts b m true = each_stays b (after_all restarts (Access m.target Online ∷ Forget m.id ∷ []) (RemoveMapping m.id ∷ []) b) m.id b.tables.mappings (λ x apart. row_stays m.id.0 x.id.0 b.flags apart) (λ x. refl)
by_stopped restarts b m false = each_stays b (after_all restarts (Forget m.id ∷ []) (RemoveMapping m.id ∷ []) b) m.id b.tables.mappings (λ x apart. row_stays m.id.0 x.id.0 b.flags apart) (λ x. refl)

abbrev with_reply : Reply → Deed → List LaneEvent → Decision
with_reply reply d work = record { reply = reply; effects = d.effects; events = d.events ++ work; changes = d.changes }

abbrev decided : Reply → Deed → Decision
decided reply d = record { reply = reply; effects = d.effects; events = d.events; changes = d.changes }

-- A mapping goes, and the flags of all others are set.
pub mapping_gone :
    (restarts : ℕ → List Bool) (b : Books) (m : Mapping) (reply : Reply) (draft whole : Deed) (decision : Decision) →
    draft ≡ remove_mapping m →
    whole ≡ (draft then all_deeds (λ (x : Mapping). told (work_told b (Some m.id) x)) b.tables.mappings) →
    decision ≡ record { reply = reply; effects = whole.effects; events = whole.events; changes = whole.changes } →
    decision ≡ with_work restarts b reply (remove_mapping m)
mapping_gone restarts b m reply draft whole decision draft_is whole_is decision_is =
    let total : (draft then all_deeds (λ (x : Mapping). told (work_told b (Some m.id) x)) b.tables.mappings) ≡ (record draft { events = draft.events ++ flat_map (work_told b (Some m.id)) b.tables.mappings }) =
    ap (λ d. draft then d) (told_all (work_told b (Some m.id)) b.tables.mappings) ∙ told_behind draft (flat_map (work_told b (Some m.id)) b.tables.mappings) in
    decision_is
    ∙ ap (λ (d : Deed). decided reply d) (whole_is ∙ total)
    ∙ ap (λ d. with_reply reply d (flat_map (work_told b (Some m.id)) b.tables.mappings)) draft_is
    ∙ ap (with_reply reply (remove_mapping m)) (sym (by_stopped restarts b m (is_stopped m.state)))
