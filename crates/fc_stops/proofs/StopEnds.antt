-- What a stop does is what stops may do.
use Rattle.std.proofs.Common.{◌≡◌, ◌∙◌, sym, ap, ℕ, Bool, true, false, cond, ◌&&◌, ◌||◌, ◌==◌, List, [], ◌∷◌, ◌++◌, Result, Ok, Err, refl, arith}
use Rattle.std.specs.List.{list_any}
use Rattle.std.proofs.lemmas.Bool.{eqb-true, or_left, or_right}
use Rattle.std.proofs.lemmas.List.Folds.{list_any-append}
use Rattle.fc_base.specs.States.{next_state}
use Rattle.fc_base.specs.declared.command.StopWay.{StopWay}
use Rattle.fc_base.specs.declared.command.StopWay.TheVariants.{Plain, Force as ByForce, Split as SplitOff}
use Rattle.fc_base.specs.declared.decision.LaneEvent.{LaneEvent}
use Rattle.fc_base.specs.declared.decision.LaneEvent.TheVariants.{Force}
use Rattle.fc_base.specs.declared.fault.Refusal.{Refusal}
use Rattle.fc_base.specs.declared.ids.MapId.{MapId}
use Rattle.fc_base.specs.declared.state.MapState.{MapState}
use Rattle.fc_base.specs.declared.state.MapState.TheVariants.{Empty, IdleOrCopied, Preparing, Prepared, Copying, Stopping, Stopped}
use Rattle.fc_base.specs.declared.volume.Change.{Change}
use Rattle.fc_base.specs.declared.volume.Mapping.{Mapping}
use Rattle.fc_books.specs.Accesses.{is_copying, is_idle}
use Rattle.fc_books.specs.Books.{Books, Deed, nothing, told, ◌then◌, all_deeds}
use Rattle.fc_books.specs.Copies.{is_whole}
use Rattle.fc_books.specs.Ending.{ends_in, ends_by, goes_from, comes_to, as_left, cut_of, leaves_by}
use Rattle.fc_books.specs.Groups.{acts_on}
use Rattle.fc_books.specs.Stopping.{stop_event, stops_with}
use Rattle.fc_stops.specs.Stops.{leaves_asked, is_among, those, ends_those, stop_asked, changes_in, changes_some, leaves_in, leaves_some, forgets_some, IsStopEvent, AreStopEvents, AreStopChanges, IsStop}

-- ---- one list after the other

pub events_then : (xs ys : List LaneEvent) → AreStopEvents xs → AreStopEvents ys → AreStopEvents (xs ++ ys)
events_then [] ys p q = q
events_then (x ∷ xs) ys p q = (p.0, events_then xs ys p.1 q)

pub changes_then : (xs ys : List Change) → AreStopChanges xs → AreStopChanges ys → AreStopChanges (xs ++ ys)
changes_then [] ys p q = q
changes_then (x ∷ xs) ys p q = (p.0, changes_then xs ys p.1 q)

by_either : (a b c d : Bool) → (a ≡ true → c ≡ true) → (b ≡ true → d ≡ true) → (a || b) ≡ true → (c || d) ≡ true
by_either true b c d p q e = or_left c d (p refl)
by_either false b c d p q e = or_right c d (q e)

any_then : {X Y : Type 0} (f : X → Bool) (g : Y → Bool) (xs xs' : List X) (ys ys' : List Y) → (list_any f xs ≡ true → list_any g ys ≡ true) → (list_any f xs' ≡ true → list_any g ys' ≡ true) → list_any f (xs ++ xs') ≡ true → list_any g (ys ++ ys') ≡ true
any_then f g xs xs' ys ys' p q e =
    list_any-append g ys ys'
    ∙ by_either (list_any f xs) (list_any f xs') (list_any g ys) (list_any g ys') p q (sym (list_any-append f xs xs') ∙ e)

-- Stops one after the other are what stops may do.
pub stop_then : (d e : Deed) → IsStop d → IsStop e → IsStop (d then e)
stop_then d e p q =
    record {
      events = events_then d.events e.events p.events q.events;
      changes = changes_then d.changes e.changes p.changes q.changes;
      left = λ n. any_then (leaves_in n) (changes_in n) d.events e.events d.changes e.changes (p.left n) (q.left n);
      gone = λ n. any_then _ _ d.events e.events d.changes e.changes (p.gone n) (q.gone n);
    }

pub stop_nothing : IsStop nothing
stop_nothing = record { events = tt; changes = tt; left = λ n e. grind (arith, e); gone = λ n e. grind (arith, e) }

-- ---- parts by which no slot leaves

pub record IsPart (d : Deed) : Type 0 where
  pub is_stop : IsStop d
  pub quiet : (n : ℕ) → leaves_some n d.events ≡ false

pub part_then : (d e : Deed) → IsPart d → IsPart e → IsPart (d then e)
part_then d e p q =
    record {
      is_stop = stop_then d e p.is_stop q.is_stop;
      quiet = λ n. list_any-append (leaves_in n) d.events e.events ∙ ap (λ b. b || leaves_some n e.events) (p.quiet n) ∙ q.quiet n;
    }

pub part_nothing : IsPart nothing
part_nothing = record { is_stop = stop_nothing; quiet = λ n. refl }

pub part_all : {X : Type 0} (f : X → Deed) (xs : List X) → ((x : X) → IsPart (f x)) → IsPart (all_deeds f xs)
part_all f [] each = part_nothing
part_all f (x ∷ xs) each = part_then (f x) (all_deeds f xs) (each x) (part_all f xs each)

pub cut_part : (b : Books) (m : Mapping) (whole : Bool) → is_whole b m ≡ whole → IsPart (cut_of b m)
cut_part b m true is = rw is part_nothing
cut_part b m false is = rw is record { is_stop = record { events = (tt, tt); changes = tt; left = λ n e. grind (arith, e); gone = λ n e. grind (arith, e) }; quiet = λ n. refl }

comes_part : (state : MapState) (m : Mapping) → is_copying state ≡ false → IsPart (comes_to state m)
comes_part state m ends = record { is_stop = record { events = (tt, tt); changes = (ends, tt); left = λ n e. grind (arith, e); gone = λ n e. grind (arith, e) }; quiet = λ n. refl }

goes_part : (state : MapState) (m : Mapping) → IsPart (goes_from state m)
goes_part state m = record { is_stop = record { events = (tt, (tt, tt)); changes = (tt, tt); left = λ n e. grind (arith, e); gone = λ n e. e }; quiet = λ n. refl }

ends_part : (state : MapState) (m : Mapping) (b : Bool) → is_copying state ≡ false → IsPart (cond b (goes_from state m) (comes_to state m))
ends_part state m true ends = goes_part state m
ends_part state m false ends = comes_part state m ends

pub ends_in_part : (state : MapState) (m : Mapping) → is_copying state ≡ false → IsPart (ends_in state m)
ends_in_part state m ends = ends_part state m (m.autodelete && is_idle state) ends

pub with_part : (b : Books) (d : Mapping) → IsPart (stops_with b d)
with_part b d = part_then (cut_of b d) (ends_in Stopped (as_left b d)) (cut_part b d (is_whole b d) refl) (ends_in_part Stopped (as_left b d) refl)

pub those_part : (way : StopWay) (ids : List MapId) (b : Books) → IsPart (ends_those way ids b)
those_part Plain ids b = part_nothing
those_part SplitOff ids b = part_nothing
those_part ByForce ids b = part_all (stops_with b) (those ids b.tables.mappings) (with_part b)

-- ---- who is set or removed

end_changes : (state : MapState) (m : Mapping) (n : ℕ) (b : Bool) → (m.id.0 == n) ≡ true → changes_some n (cond b (goes_from state m) (comes_to state m)).changes ≡ true
end_changes state m n true is = or_left (m.id.0 == n) false is
end_changes state m n false is = or_left (m.id.0 == n) false is

ends_in_changes : (state : MapState) (m : Mapping) (n : ℕ) → (m.id.0 == n) ≡ true → changes_some n (ends_in state m).changes ≡ true
ends_in_changes state m n is = end_changes state m n (m.autodelete && is_idle state) is

then_left : (d e : Deed) (n : ℕ) → changes_some n d.changes ≡ true → changes_some n (d then e).changes ≡ true
then_left d e n is = list_any-append (changes_in n) d.changes e.changes ∙ or_left (changes_some n d.changes) (changes_some n e.changes) is

then_right : (d e : Deed) (n : ℕ) → changes_some n e.changes ≡ true → changes_some n (d then e).changes ≡ true
then_right d e n is = list_any-append (changes_in n) d.changes e.changes ∙ or_right (changes_some n d.changes) (changes_some n e.changes) is

leaves_changes : (b : Books) (m : Mapping) (state : MapState) (n : ℕ) → (m.id.0 == n) ≡ true → changes_some n (leaves_by (Ok state) b m).changes ≡ true
leaves_changes b m state n is = then_right (cut_of b m) (ends_in state (as_left b m)) n (ends_in_changes state (as_left b m) n is)

with_changes : (b : Books) (d : Mapping) (n : ℕ) → (d.id.0 == n) ≡ true → changes_some n (stops_with b d).changes ≡ true
with_changes b d n is = then_right (cut_of b d) (ends_in Stopped (as_left b d)) n (ends_in_changes Stopped (as_left b d) n is)

abbrev all_with : Books → List Mapping → Deed
all_with b ds = all_deeds (stops_with b) ds

those_first : (b : Books) (ids : List MapId) (d : Mapping) (rest : List Mapping) (n : ℕ) (here among : Bool) → (d.id.0 == n) ≡ here → is_among ids d ≡ among → list_any (λ (id : MapId). id.0 == n) ids ≡ true → (here ≡ false → changes_some n (all_with b rest).changes ≡ true) → changes_some n (all_with b (cond among (d ∷ rest) rest)).changes ≡ true
those_first b ids d rest n true true is some there later = then_left (stops_with b d) (all_with b rest) n (with_changes b d n is)
those_first b ids d rest n true false is some there later =
    let same : d.id.0 ≡ n = eqb-true d.id.0 n is in
    let among : is_among ids d ≡ true = ap (λ k. list_any (λ (id : MapId). id.0 == k) ids) same ∙ there in
    grind (arith, some, among)
those_first b ids d rest n false true is some there later = then_right (stops_with b d) (all_with b rest) n (later refl)
those_first b ids d rest n false false is some there later = later refl

rest_has : (here rest : Bool) → (here || rest) ≡ true → here ≡ false → rest ≡ true
rest_has true rest e no_here = grind (arith, no_here)
rest_has false rest e no_here = e

pub those_changes : (b : Books) (ids : List MapId) (maps : List Mapping) (n : ℕ) → list_any (λ (id : MapId). id.0 == n) ids ≡ true → list_any (λ (d : Mapping). d.id.0 == n) maps ≡ true → changes_some n (all_with b (those ids maps)).changes ≡ true
those_changes b ids [] n there known = grind (arith, known)
those_changes b ids (d ∷ ds) n there known =
    those_first b ids d (those ids ds) n (d.id.0 == n) (is_among ids d) refl refl there
    (λ elsewhere. those_changes b ids ds n there (rest_has (d.id.0 == n) (list_any (λ (x : Mapping). x.id.0 == n) ds) known elsewhere))

-- Each of the ids is a mapping's.
abbrev pub AreKnown : List MapId → List Mapping → Type 0
AreKnown ids maps = (n : ℕ) → list_any (λ (id : MapId). id.0 == n) ids ≡ true → list_any (λ (d : Mapping). d.id.0 == n) maps ≡ true

-- ---- a stop

-- whether a stop of a mapping in a state isn't refused, where its copy is whole or not
abbrev pub can_stop : MapState → StopWay → Bool → Bool
can_stop Copying SplitOff whole = whole
can_stop Stopping Plain whole = false
can_stop Stopping SplitOff whole = false
can_stop state way whole = true

-- the state in which a stop ends a mapping isn't stopped again
abbrev pub Ends : StopWay → Result MapState Refusal → Type 0
Ends way next = (state : MapState) × (next ≡ Ok state) × (acts_on way state ≡ false)

pub copying_ends : (way : StopWay) (whole needed : Bool) → can_stop Copying way whole ≡ true → Ends way (next_state Copying (stop_event way) whole needed)
copying_ends Plain whole true e = (Stopping, refl, refl)
copying_ends Plain whole false e = (Stopped, refl, refl)
copying_ends ByForce true needed e = (IdleOrCopied, refl, refl)
copying_ends ByForce false needed e = (Stopped, refl, refl)
copying_ends SplitOff true needed e = (IdleOrCopied, refl, refl)
copying_ends SplitOff false needed e = grind (arith, e)

pub stopping_ends : (way : StopWay) (whole complete needed : Bool) → can_stop Stopping way whole ≡ true → Ends way (next_state Stopping (stop_event way) complete needed)
stopping_ends Plain whole complete needed e = grind (arith, e)
stopping_ends SplitOff whole complete needed e = grind (arith, e)
stopping_ends ByForce whole true needed e = (IdleOrCopied, refl, refl)
stopping_ends ByForce whole false needed e = (Stopped, refl, refl)

pub not_copying : (way : StopWay) (state : MapState) → acts_on way state ≡ false → is_copying state ≡ false
not_copying way Copying e = by_way way e
  where
    by_way : (w : StopWay) → acts_on w Copying ≡ false → true ≡ false
    by_way Plain e = e
    by_way ByForce e = e
    by_way SplitOff e = e
not_copying way Empty e = refl
not_copying way IdleOrCopied e = refl
not_copying way Preparing e = refl
not_copying way Prepared e = refl
not_copying way Stopping e = refl
not_copying way Stopped e = refl

leaving : (way : StopWay) (needed : Bool) (ids : List MapId) (b : Books) (m : Mapping) (n : ℕ) (end : Deed) → AreKnown ids b.tables.mappings → ((m.id.0 == n) ≡ true → changes_some n end.changes ≡ true) → leaves_in n (leaves_asked way needed ids m.id) ≡ true → changes_some n (end then ends_those way ids b).changes ≡ true
leaving Plain true ids b m n end known ends e = then_left end nothing n (ends e)
leaving Plain false ids b m n end known ends e = then_left end nothing n (ends e)
leaving SplitOff needed ids b m n end known ends e = then_left end nothing n (ends e)
leaving ByForce needed ids b m n end known ends e =
    list_any-append (changes_in n) end.changes (all_with b (those ids b.tables.mappings)).changes
    ∙ by_either (m.id.0 == n) (list_any (λ (id : MapId). id.0 == n) ids) (changes_some n end.changes) (changes_some n (all_with b (those ids b.tables.mappings)).changes)
    ends (λ there. those_changes b ids b.tables.mappings n there (known n there)) e

is_leaving : (way : StopWay) (needed : Bool) (ids : List MapId) (m : MapId) → IsStopEvent (leaves_asked way needed ids m)
is_leaving Plain true ids m = tt
is_leaving Plain false ids m = tt
is_leaving SplitOff needed ids m = tt
is_leaving ByForce needed ids m = tt

forgets_none : (way : StopWay) (needed : Bool) (ids : List MapId) (m : MapId) (n : ℕ) (rest : List LaneEvent) → forgets_some n (leaves_asked way needed ids m ∷ rest) ≡ forgets_some n rest
forgets_none Plain true ids m n rest = refl
forgets_none Plain false ids m n rest = refl
forgets_none SplitOff needed ids m n rest = refl
forgets_none ByForce needed ids m n rest = refl

-- the slot leaves, the mapping ends, and so do its dependents
left_whole : (way : StopWay) (needed : Bool) (ids : List MapId) (b : Books) (m : Mapping) (end : Deed) → AreKnown ids b.tables.mappings → IsPart end → ((n : ℕ) → (m.id.0 == n) ≡ true → changes_some n end.changes ≡ true) → IsStop (told (leaves_asked way needed ids m.id ∷ []) then (end then ends_those way ids b))
left_whole way needed ids b m end known part ends =
    let rest : IsPart (end then ends_those way ids b) = part_then end (ends_those way ids b) part (those_part way ids b) in
    record {
      events = (is_leaving way needed ids m.id, rest.is_stop.events);
      changes = rest.is_stop.changes;
      left = λ n e. leaving way needed ids b m n end known (ends n) (left_of (leaves_in n (leaves_asked way needed ids m.id)) (leaves_some n (end then ends_those way ids b).events) (rest.quiet n) e);
      gone = λ n e. rest.is_stop.gone n (sym (forgets_none way needed ids m.id n (end then ends_those way ids b).events) ∙ e);
    }
  where
    left_of : (a c : Bool) → c ≡ false → (a || c) ≡ true → a ≡ true
    left_of true c none e = refl
    left_of false c none e = grind (arith, none, e)

by_ends : (next : Result MapState Refusal) (b : Books) (m : Mapping) (way : StopWay) (needed : Bool) (ids : List MapId) → AreKnown ids b.tables.mappings → Ends way next → IsStop (told (leaves_asked way needed ids m.id ∷ []) then (leaves_by next b m then ends_those way ids b))
by_ends next b m way needed ids known (state, is, e) =
    rw is
    (left_whole way needed ids b m (leaves_by (Ok state) b m) known
    (part_then (cut_of b m) (ends_in state (as_left b m)) (cut_part b m (is_whole b m) refl) (ends_in_part state (as_left b m) (not_copying way state e)))
    (leaves_changes b m state))

forced_ends : (next : Result MapState Refusal) (b : Books) (m : Mapping) (way : StopWay) (ids : List MapId) → AreKnown ids b.tables.mappings → Ends way next → IsStop (told (Force m.id ids ∷ []) then (ends_by next m then ends_those ByForce ids b))
forced_ends next b m way ids known (state, is, e) =
    rw is (left_whole ByForce false ids b m (ends_in state m) known (ends_in_part state m (not_copying way state e)) (ends_in_changes state m))

ended : (next : Result MapState Refusal) (m : Mapping) → ((state : MapState) → next ≡ Ok state → is_copying state ≡ false) → IsStop (ends_by next m)
ended (Err refusal) m ends = stop_nothing
ended (Ok state) m ends = (ends_in_part state m (ends state refl)).is_stop

pub stop_is : (state : MapState) (way : StopWay) (needed : Bool) (ids : List MapId) (b : Books) (m : Mapping) → AreKnown ids b.tables.mappings → can_stop state way (is_whole b m) ≡ true → IsStop (stop_asked state way needed ids b m)
stop_is Copying way needed ids b m known can = by_ends (next_state Copying (stop_event way) (is_whole b m) needed) b m way needed ids known (copying_ends way (is_whole b m) needed can)
stop_is Stopping way needed ids b m known can = forced_ends (next_state Stopping (stop_event way) m.complete needed) b m way ids known (stopping_ends way (is_whole b m) m.complete needed can)
stop_is Empty Plain needed ids b m known can = stop_nothing
stop_is Empty ByForce needed ids b m known can = stop_nothing
stop_is Empty SplitOff needed ids b m known can = stop_nothing
stop_is IdleOrCopied Plain needed ids b m known can = stop_nothing
stop_is IdleOrCopied ByForce needed ids b m known can = stop_nothing
stop_is IdleOrCopied SplitOff needed ids b m known can = stop_nothing
stop_is Preparing Plain needed ids b m known can = (ends_in_part Stopped m refl).is_stop
stop_is Preparing ByForce needed ids b m known can = (ends_in_part Stopped m refl).is_stop
stop_is Preparing SplitOff needed ids b m known can = stop_nothing
stop_is Prepared Plain needed ids b m known can = (ends_in_part Stopped m refl).is_stop
stop_is Prepared ByForce needed ids b m known can = (ends_in_part Stopped m refl).is_stop
stop_is Prepared SplitOff needed ids b m known can = stop_nothing
stop_is Stopped Plain needed ids b m known can = stop_nothing
stop_is Stopped ByForce needed ids b m known can = stop_nothing
stop_is Stopped SplitOff needed ids b m known can = stop_nothing
