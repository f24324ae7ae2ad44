-- Mappings that begin, and those that give way to them.
use Rattle.std.proofs.Common.{◌≡◌, ◌∙◌, sym, ap, ℕ, zero, suc, ◌<◌, Bool, true, false, cond, not, ◌&&◌, ◌||◌, ◌==◌, nat_lt, List, [], ◌∷◌, ◌++◌, length, slice_index_or, subst, map, fold, Option, Some, None, refl, arith}
use Rattle.std.specs.List.{AllPairs, Contains, find, filter, flat_map, list_any}
use Rattle.std.specs.Option.{option_map_or}
use Rattle.std.proofs.lemmas.Bool.{eqb-true, eq-eqb}
use Rattle.fc_base.specs.Tables.{Tables, IsOrdered, refers_to, mapping_named}
use Rattle.fc_base.specs.States.{access_of, next_state}
use Rattle.fc_base.specs.declared.command.Command.TheVariants.{Prestartfcmap}
use Rattle.fc_base.specs.declared.decision.Decision.{Decision}
use Rattle.fc_base.specs.declared.decision.LaneEvent.{LaneEvent}
use Rattle.fc_base.specs.declared.decision.LaneEvent.TheVariants.{Access, Work}
use Rattle.fc_base.specs.declared.fault.Refusal.{Refusal}
use Rattle.fc_base.specs.declared.fault.Kind.TheVariants.{Fcmap}
use Rattle.fc_base.specs.declared.ids.MapId.{MapId}
use Rattle.fc_base.specs.declared.name.Ref.{Ref}
use Rattle.fc_base.specs.declared.request.Pair.{Pair}
use Rattle.fc_base.specs.declared.request.Reply.{Reply}
use Rattle.fc_base.specs.declared.request.Reply.TheVariants.{Done, Refused}
use Rattle.fc_base.specs.declared.size.GrainSize.{GrainSize}
use Rattle.fc_base.specs.declared.state.MapEvent.TheVariants.{Prepare}
use Rattle.fc_base.specs.declared.state.MapState.{MapState}
use Rattle.fc_base.specs.declared.state.MapState.TheVariants.{Empty, IdleOrCopied, Preparing, Prepared, Copying, Stopping, Stopped}
use Rattle.fc_base.specs.declared.volume.Change.TheVariants.{SetMapping}
use Rattle.fc_base.specs.declared.volume.Mapping.{Mapping}
use Rattle.fc_books.specs.Accesses.{is_active, is_copying, is_stopping, is_stopped}
use Rattle.fc_books.specs.After.{after_deed, after_event, after_table_change}
use Rattle.fc_books.specs.Books.{Books, Deed, nothing, ◌then◌, all_deeds}
use Rattle.fc_books.specs.Deciding.{decide, answered, for_one, with_work}
use Rattle.fc_books.specs.Ending.{in_state}
use Rattle.fc_books.specs.Refused.{of_one, refused_by}
use Rattle.fc_books.specs.RefusedStarts.{in_group, by_state, not_ready}
use Rattle.fc_books.specs.Starting.{is_superseded, gives_way, begins, pair_of, prepare}
use Rattle.fc_books.specs.Work.{are_same, work_events}
use Rattle.fc_desk.proofs.Flagged.{flat_none, work_by_each, work_of_each, told_as}
use Rattle.fc_desk.proofs.Selecting.{chosen_deeds}
use Rattle.fc_desk.proofs.Setting.{set_one, set_in, with_maps, set_pointwise, fold_append, changes_set, flat_one, alone, set_kept, set_apart, IsAlone}
use Rattle.fc_desk.specs.ForChosen.{for_chosen}
use Rattle.fc_starts.specs.Choosing.{is_chosen, chosen_of, yields_to}
use Rattle.fc_desk.specs.Background.{work_as, whole_in}
use Rattle.fc_desk.specs.Telling.{work_told}
use Rattle.fc_starts.specs.declared.chosen.Chosen.{Chosen}
use Rattle.fc_starts.specs.declared.chosen.Chosen.TheVariants.{One}
use Rattle.fc_entry.specs.Refused.{first_of}
use Rattle.fc_pick.proofs.Rows.{list_any-map}
use Rattle.fc_pick.specs.declared.work.WorkFlags.{WorkFlags}

-- ---- who gives way

yields_same : (maps : List Mapping) (s : Mapping) → yields_to (map pair_of maps) s ≡ is_superseded maps s
yields_same maps s =
    λ k. is_stopped s.state && (list_any-map pair_of (λ (p : Pair). p.target.0 == s.target.0) maps k && not (list_any-map pair_of (λ (p : Pair). p.map.0 == s.id.0) maps k))

-- to those of some pairs, or to their mappings
pub gives_way-same : (maps xs : List Mapping) → all_deeds (for_chosen (yields_to (map pair_of maps)) gives_way) xs ≡ all_deeds (for_chosen (is_superseded maps) gives_way) xs
gives_way-same maps xs = λ k. all_deeds (for_chosen (λ s. yields_same maps s k) gives_way) xs

-- ---- the tables

-- some are set, and then others
pub set_twice :
    (b : Books) (f g : Mapping → Mapping) (sup ch : Mapping → Bool) →
    fold after_table_change b (flat_map (λ x. SetMapping (f x) ∷ []) (filter sup b.tables.mappings) ++ flat_map (λ x. SetMapping (g x) ∷ []) (filter ch b.tables.mappings))
    ≡ with_maps b (map (λ x. fold set_one x (map f (filter sup b.tables.mappings) ++ map g (filter ch b.tables.mappings))) b.tables.mappings)
set_twice b f g sup ch =
    let xs = b.tables.mappings in
    fold_append after_table_change b (flat_map (λ x. SetMapping (f x) ∷ []) (filter sup xs)) (flat_map (λ x. SetMapping (g x) ∷ []) (filter ch xs))
    ∙ ap (λ cs. fold after_table_change (fold after_table_change b cs) (flat_map (λ x. SetMapping (g x) ∷ []) (filter ch xs))) (flat_one (λ x. SetMapping (f x)) (filter sup xs))
    ∙ ap (λ cs. fold after_table_change (fold after_table_change b (map (λ x. SetMapping (f x)) (filter sup xs))) cs) (flat_one (λ x. SetMapping (g x)) (filter ch xs))
    ∙ ap (λ c. fold after_table_change c (map (λ x. SetMapping (g x)) (filter ch xs))) (changes_set b f (filter sup xs) xs)
    ∙ changes_set b g (filter ch xs) (fold set_in xs (map f (filter sup xs)))
    ∙ ap (with_maps b) (sym (fold_append set_in xs (map f (filter sup xs)) (map g (filter ch xs))) ∙ set_pointwise (map f (filter sup xs) ++ map g (filter ch xs)) xs)

pub apart_by : (ch : Mapping → Bool) (x z : Mapping) (xs : List Mapping) → IsAlone xs x → ch x ≡ false → Contains xs z → ch z ≡ true → (t : Bool) → (z.id.0 == x.id.0) ≡ t → t ≡ false
apart_by ch x z xs is_alone none there passes false is = refl
apart_by ch x z xs is_alone none there passes true is = grind (arith, none, passes, ap ch (is_alone z there is))

pub set_each :
    (f g : Mapping → Mapping) (sup ch : Mapping → Bool) (xs : List Mapping) (x : Mapping) →
    ((m : Mapping) → (f m).id.0 ≡ m.id.0) → ((m : Mapping) → (g m).id.0 ≡ m.id.0) → IsAlone xs x → Contains xs x → (ch x ≡ true → sup x ≡ false) →
    fold set_one x (map f (filter sup xs) ++ map g (filter ch xs)) ≡ cond (ch x) (g x) (cond (sup x) (f x) x)
set_each f g sup ch xs x f_keeps g_keeps is_alone there apart =
    fold_append set_one x (map f (filter sup xs)) (map g (filter ch xs))
    ∙ ap (λ y. fold set_one y (map g (filter ch xs))) (set_kept f sup x xs f_keeps is_alone there)
    ∙ by (ch x) (sup x) refl refl
  where
    by : (c s : Bool) → ch x ≡ c → sup x ≡ s → fold set_one (cond s (f x) x) (map g (filter ch xs)) ≡ cond c (g x) (cond s (f x) x)
    by true false is_c is_s = set_kept g ch x xs g_keeps is_alone there ∙ ap (λ b. cond b (g x) x) is_c
    by true true is_c is_s = grind (arith, is_s, apart is_c)
    by false false is_c is_s = set_kept g ch x xs g_keeps is_alone there ∙ ap (λ b. cond b (g x) x) is_c
    by false true is_c is_s =
        set_apart g ch (f x) xs g_keeps
        (λ z there_z passes. ap (λ n. z.id.0 == n) (f_keeps x) ∙ apart_by ch x z xs is_alone is_c there_z passes (z.id.0 == x.id.0) refl)

-- ---- the events

pub accesses_keep : (restarts : ℕ → List Bool) (c : Books) (f : Mapping → _) (g : Mapping → _) (ms : List Mapping) → fold (after_event restarts) c (flat_map (λ x. Access (f x) (g x) ∷ []) ms) ≡ c
accesses_keep restarts c f g [] = refl
accesses_keep restarts c f g (m ∷ ms) = accesses_keep restarts c f g ms

-- ---- the flags

abbrev pub work_bits : List WorkFlags → Bool → Bool → Bool → MapId → ℕ → ℕ → List LaneEvent
work_bits flags whole c s id copy_rate clean_rate =
    let copies = c && (not whole && nat_lt 0 copy_rate) in
    let cleans = nat_lt 0 clean_rate && (s || (c && ((copy_rate == 0) || whole))) in
    let row = find (λ (r : WorkFlags). r.map.0 == id.0) flags in
    cond
    (not
    (are_same copies (option_map_or (λ (r : WorkFlags). r.copies) row false)
    && are_same cleans (option_map_or (λ (r : WorkFlags). r.cleans) row false)))
    (Work id copies cleans ∷ [])
    []

pub quiet_as : (flags : List WorkFlags) (whole : Bool) (x : Mapping) → is_copying x.state ≡ false → is_stopping x.state ≡ false → work_as flags whole x ≡ work_bits flags whole false false x.id x.copy_rate x.clean_rate
quiet_as flags whole x c s =
    ap (λ k. work_bits flags whole k (is_stopping x.state) x.id x.copy_rate x.clean_rate) c ∙ ap (λ k. work_bits flags whole false k x.id x.copy_rate x.clean_rate) s

-- a stopped one is neither copying nor stopping, and one that isn't active
pub stopped_quiet : (s : MapState) → is_stopped s ≡ true → (is_copying s ≡ false) × (is_stopping s ≡ false)
stopped_quiet Stopped e = (refl, refl)
stopped_quiet Empty e = (refl, refl)
stopped_quiet IdleOrCopied e = (refl, refl)
stopped_quiet Preparing e = (refl, refl)
stopped_quiet Prepared e = (refl, refl)
stopped_quiet Copying e = grind (arith, e)
stopped_quiet Stopping e = grind (arith, e)

pub inactive_quiet : (s : MapState) → is_active s ≡ false → (is_copying s ≡ false) × (is_stopping s ≡ false)
inactive_quiet Stopped e = (refl, refl)
inactive_quiet Empty e = (refl, refl)
inactive_quiet IdleOrCopied e = (refl, refl)
inactive_quiet Preparing e = (refl, refl)
inactive_quiet Prepared e = (refl, refl)
inactive_quiet Copying e = grind (arith, e)
inactive_quiet Stopping e = grind (arith, e)

pub superseded_stopped : (maps : List Mapping) (x : Mapping) → is_superseded maps x ≡ true → is_stopped x.state ≡ true
superseded_stopped maps x e = by (is_stopped x.state) (list_any (λ (m : Mapping). m.target.0 == x.target.0) maps && not (list_any (λ (m : Mapping). m.id.0 == x.id.0) maps)) e
  where
    by : (a b : Bool) → (a && b) ≡ true → a ≡ true
    by true b e = refl
    by false b e = grind (arith, e)

-- a chosen one isn't superseded
any_first : (p : Mapping → Bool) (x : Mapping) (xs : List Mapping) → p x ≡ true → list_any p (x ∷ xs) ≡ true
any_first p x xs e = ap (λ b. b || list_any p xs) e

any_later : (p : Mapping → Bool) (z : Mapping) (xs : List Mapping) (b : Bool) → list_any p xs ≡ true → list_any p (cond b (z ∷ xs) xs) ≡ true
any_later p z xs false e = e
any_later p z xs true e = by (p z) e
  where
    by : (t : Bool) → list_any p xs ≡ true → (t || list_any p xs) ≡ true
    by true e = refl
    by false e = e

pub any_chosen : (ch p : Mapping → Bool) (xs : List Mapping) (k : ℕ) (x : Mapping) → k < length xs → slice_index_or xs k x ≡ x → ch x ≡ true → p x ≡ true → list_any p (filter ch xs) ≡ true
any_chosen ch p [] k x lt is c e = grind (arith, lt)
any_chosen ch p (z ∷ zs) zero x lt is c e = ap (λ b. list_any p (cond b (z ∷ filter ch zs) (filter ch zs))) (ap ch is ∙ c) ∙ any_first p z (filter ch zs) (ap p is ∙ e)
any_chosen ch p (z ∷ zs) (suc k) x lt is c e = any_later p z (filter ch zs) (ch z) (any_chosen ch p zs k x (omega (arith, lt)) is c e)

pub chosen_stays : (ch : Mapping → Bool) (xs : List Mapping) (x : Mapping) → Contains xs x → ch x ≡ true → is_superseded (filter ch xs) x ≡ false
chosen_stays ch xs x there passes =
    ap (λ b. is_stopped x.state && (list_any (λ (m : Mapping). m.target.0 == x.target.0) (filter ch xs) && not b))
    (any_chosen ch (λ (m : Mapping). m.id.0 == x.id.0) xs there.0 x there.1 there.2 passes (eq-eqb x.id.0 x.id.0 refl))
    ∙ never (is_stopped x.state) (list_any (λ (m : Mapping). m.target.0 == x.target.0) (filter ch xs))
  where
    never : (a b : Bool) → (a && (b && false)) ≡ false
    never false b = refl
    never true false = refl
    never true true = refl

-- ---- preparing

abbrev begun : MapState → Bool → Mapping → Mapping
begun state restore x = in_state state (record x { restoring = restore })

one_prepared :
    (b other : Books) (restore : Bool) (maps : List Mapping) (x : Mapping) (c s : Bool) →
    (c ≡ true → is_active x.state ≡ false) → (s ≡ true → is_stopped x.state ≡ true) →
    other.flags ≡ b.flags → other.tables.volumes ≡ b.tables.volumes → other.sheet.slots ≡ b.sheet.slots →
    work_told other None (cond c (begun Prepared restore x) (cond s (in_state IdleOrCopied x) x)) ≡ work_told b None x
one_prepared b other restore maps x true s idle stopped f v l =
    let quiet = inactive_quiet x.state (idle refl) in
    told_as other b.flags b.tables.volumes b.sheet.slots (begun Prepared restore x) f v l
    ∙ sym (quiet_as b.flags (whole_in b.tables.volumes b.sheet.slots x) x quiet.0 quiet.1)
one_prepared b other restore maps x false true idle stopped f v l =
    let quiet = stopped_quiet x.state (stopped refl) in
    told_as other b.flags b.tables.volumes b.sheet.slots (in_state IdleOrCopied x) f v l
    ∙ sym (quiet_as b.flags (whole_in b.tables.volumes b.sheet.slots x) x quiet.0 quiet.1)
one_prepared b other restore maps x false false idle stopped f v l = told_as other b.flags b.tables.volumes b.sheet.slots x f v l

pub work_events-prepared :
    (restarts : ℕ → List Bool) (b : Books) (ch : Mapping → Bool) (restore : Bool) →
    IsOrdered (λ (m : Mapping). m.id.0) (λ (m : Mapping). m.name) b.tables.mappings →
    ((m : Mapping) → Contains b.tables.mappings m → ch m ≡ true → is_active m.state ≡ false) →
    work_events (after_deed restarts b (prepare restore b.tables (filter ch b.tables.mappings))) ≡ work_events b
work_events-prepared restarts b ch restore ordered idle =
    let xs = b.tables.mappings in
    let maps = filter ch xs in
    let sup = is_superseded maps in
    let f = in_state IdleOrCopied in
    let g = begun Prepared restore in
    let ys = map f (filter sup xs) ++ map g maps in
    let d = prepare restore b.tables maps in
    let after = after_deed restarts b d in
    let changed = fold after_table_change b d.changes in
    let told : after ≡ changed =
    ap (λ es. fold (after_event restarts) changed (es ++ flat_map (λ (x : Mapping). Access x.target (access_of x.id Prepared x.complete) ∷ []) maps)) (flat_none (filter sup xs))
    ∙ accesses_keep restarts changed (λ x. x.target) (λ x. access_of x.id Prepared x.complete) maps in
    let whole : after ≡ with_maps b (map (λ x. fold set_one x ys) xs) = told ∙ set_twice b f g sup ch in
    work_by_each after (λ x. fold set_one x ys) (work_told b None) xs (ap (λ (c : Books). c.tables.mappings) whole)
    (λ x there.
    ap (work_told after None) (set_each f g sup ch xs x (λ m. refl) (λ m. refl) (alone xs x ordered there) there (chosen_stays ch xs x there))
    ∙ one_prepared b after restore maps x (ch x) (sup x) (idle x there) (superseded_stopped maps x)
    (ap (λ (c : Books). c.flags) whole) (ap (λ (c : Books). c.tables.volumes) whole) (ap (λ (c : Books). c.sheet.slots) whole))
    ∙ sym (work_of_each b)

pub drafted_prepare :
    (t : Tables) (c : Chosen) (restore : Bool) (maps : List Mapping) (first a whole : Deed) →
    maps ≡ t.mappings → first ≡ nothing →
    a ≡ (first then all_deeds (for_chosen (is_superseded (filter (is_chosen c) maps)) gives_way) maps) →
    whole ≡ (a then all_deeds (for_chosen (is_chosen c) (begins Prepared restore)) maps) →
    whole ≡ prepare restore t (chosen_of t c)
drafted_prepare t c restore maps first a whole maps_are first_is a_is whole_is =
    whole_is
    ∙ ap (λ d. d then all_deeds (for_chosen (is_chosen c) (begins Prepared restore)) maps)
    (a_is ∙ ap (λ d. d then all_deeds (for_chosen (is_superseded (filter (is_chosen c) maps)) gives_way) maps) first_is ∙ chosen_deeds (is_superseded (filter (is_chosen c) maps)) gives_way maps)
    ∙ ap (λ d. all_deeds gives_way (filter (is_superseded (filter (is_chosen c) maps)) maps) then d) (chosen_deeds (is_chosen c) (begins Prepared restore) maps)
    ∙ ap (λ ms. all_deeds gives_way (filter (is_superseded (filter (is_chosen c) ms)) ms) then all_deeds (begins Prepared restore) (filter (is_chosen c) ms)) maps_are

pub prepared :
    (restarts : ℕ → List Bool) (b : Books) (c : Chosen) (restore : Bool) (reply : Reply) (draft : Deed) (decision : Decision) →
    IsOrdered (λ (m : Mapping). m.id.0) (λ (m : Mapping). m.name) b.tables.mappings →
    ((m : Mapping) → Contains b.tables.mappings m → is_chosen c m ≡ true → is_active m.state ≡ false) →
    draft ≡ prepare restore b.tables (chosen_of b.tables c) →
    decision ≡ record { reply = reply; effects = draft.effects; events = draft.events ++ work_events b; changes = draft.changes } →
    decision ≡ with_work restarts b reply (prepare restore b.tables (chosen_of b.tables c))
prepared restarts b c restore reply draft decision ordered idle draft_is decision_is =
    let concluded : Deed → List _ → Decision = λ d work. record { reply = reply; effects = d.effects; events = d.events ++ work; changes = d.changes } in
    decision_is ∙ ap (λ d. concluded d (work_events b)) draft_is ∙ ap (concluded (prepare restore b.tables (chosen_of b.tables c))) (sym (work_events-prepared restarts b (is_chosen c) restore ordered idle))

-- ---- a single mapping

-- what the state table says of a mapping that is prepared
by_state_idle : (s : MapState) → refused_by (next_state s Prepare true false) ≡ None → is_active s ≡ false
by_state_idle Stopped e = refl
by_state_idle IdleOrCopied e = refl
by_state_idle Empty e = grind (arith, e)
by_state_idle Preparing e = grind (arith, e)
by_state_idle Prepared e = grind (arith, e)
by_state_idle Copying e = grind (arith, e)
by_state_idle Stopping e = grind (arith, e)

second_none : (x y : Option Refusal) (rest : List (Option Refusal)) → first_of (x ∷ y ∷ rest) ≡ None → y ≡ None
second_none None None rest e = refl
second_none None (Some r) rest e = grind (arith, e)
second_none (Some r) y rest e = grind (arith, e)

there_by : (y : Mapping) (ys : List Mapping) (x : Mapping) (b : Bool) (o : Option Mapping) → cond b (Some y) o ≡ Some x → (o ≡ Some x → Contains ys x) → Contains (y ∷ ys) x
there_by y ys x true o e rest = let same : y ≡ x = cc in (0, omega arith, same)
there_by y ys x false o e rest = let found = rest e in (suc found.0, omega (arith, found.1), found.2)

pub found_there : (test : Mapping → Bool) (xs : List Mapping) (x : Mapping) → find test xs ≡ Some x → Contains xs x
found_there test [] x e = grind (arith, e)
found_there test (y ∷ ys) x e = there_by y ys x (test y) (find test ys) e (found_there test ys x)

-- the one mapping with an id
pub tail_rising : (x : Mapping) (xs : List Mapping) → AllPairs (λ (m n : Mapping). m.id.0 < n.id.0) (x ∷ xs) → AllPairs (λ (m n : Mapping). m.id.0 < n.id.0) xs
tail_rising x xs rising i j d lt in_j = rising (suc i) (suc j) d (omega (arith, lt)) (omega (arith, in_j))

none_kept : (p : Mapping → Bool) (xs : List Mapping) → ((k : ℕ) (d : Mapping) → k < length xs → p (slice_index_or xs k d) ≡ false) → filter p xs ≡ []
none_kept p [] none = refl
none_kept p (x ∷ xs) none = ap (λ b. cond b (x ∷ filter p xs) (filter p xs)) (none 0 x (omega arith)) ∙ none_kept p xs (λ k d lt. none (suc k) d (omega (arith, lt)))

one_kept : (xs : List Mapping) (k : ℕ) (m : Mapping) → AllPairs (λ (x y : Mapping). x.id.0 < y.id.0) xs → k < length xs → slice_index_or xs k m ≡ m → filter (λ (x : Mapping). m.id.0 == x.id.0) xs ≡ m ∷ []
one_kept [] k m rising lt is = grind (arith, lt)
one_kept (x ∷ xs) zero m rising lt is =
    ap (λ b. cond b (x ∷ filter (λ (y : Mapping). m.id.0 == y.id.0) xs) (filter (λ (y : Mapping). m.id.0 == y.id.0) xs)) (eq-eqb m.id.0 x.id.0 (ap (λ (y : Mapping). y.id.0) (sym is)))
    ∙ ap (λ ys. x ∷ ys) (none_kept (λ (y : Mapping). m.id.0 == y.id.0) xs (λ j d lt_j. later_apart j d lt_j))
    ∙ ap (λ y. y ∷ []) is
  where
    later_apart : (j : ℕ) (d : Mapping) → j < length xs → (m.id.0 == (slice_index_or xs j d).id.0) ≡ false
    later_apart j d lt_j =
        let less : x.id.0 < (slice_index_or xs j d).id.0 = rising 0 (suc j) d (omega arith) (omega (arith, lt_j)) in
        let same : x.id.0 ≡ m.id.0 = ap (λ (y : Mapping). y.id.0) is in grind (arith, less, same)
one_kept (x ∷ xs) (suc k) m rising lt is =
    ap (λ b. cond b (x ∷ filter (λ (y : Mapping). m.id.0 == y.id.0) xs) (filter (λ (y : Mapping). m.id.0 == y.id.0) xs)) first_apart
    ∙ one_kept xs k m (tail_rising x xs rising) (omega (arith, lt)) is
  where
    first_apart : (m.id.0 == x.id.0) ≡ false
    first_apart =
        let less : x.id.0 < (slice_index_or xs k m).id.0 = rising 0 (suc k) m (omega arith) (omega (arith, lt)) in
        let same : (slice_index_or xs k m).id.0 ≡ m.id.0 = ap (λ (y : Mapping). y.id.0) is in grind (arith, less, same)

pub one_chosen : (b : Books) (r : Ref) (m : Mapping) → IsOrdered (λ (x : Mapping). x.id.0) (λ (x : Mapping). x.name) b.tables.mappings → mapping_named b.tables r ≡ Some m → chosen_of b.tables (One m.id) ≡ m ∷ []
one_chosen b r m ordered found =
    let there = found_there (λ (x : Mapping). refers_to r x.id.0 x.name) b.tables.mappings m found in
    one_kept b.tables.mappings there.0 m ordered.rising there.1 there.2

-- what is asked of one mapping holds of all that are chosen
pub of_one_chosen : (b : Books) (r : Ref) (m : Mapping) (P : Mapping → Type 0) → IsOrdered (λ (x : Mapping). x.id.0) (λ (x : Mapping). x.name) b.tables.mappings → mapping_named b.tables r ≡ Some m → P m → (z : Mapping) → Contains b.tables.mappings z → is_chosen (One m.id) z ≡ true → P z
of_one_chosen b r m P ordered found holds z there passes =
    let m_there = found_there (λ (x : Mapping). refers_to r x.id.0 x.name) b.tables.mappings m found in
    let same : z ≡ m = alone b.tables.mappings m ordered m_there z there (eq-eqb z.id.0 m.id.0 (sym (eqb-true m.id.0 z.id.0 passes))) in
    subst (λ (x : Mapping). P x) (sym same) holds

pub one_idle : (b : Books) (restore : Bool) (r : Ref) (m : Mapping) (found : Option Refusal) → IsOrdered (λ (x : Mapping). x.id.0) (λ (x : Mapping). x.name) b.tables.mappings → mapping_named b.tables r ≡ Some m →
    found ≡ first_of (in_group m ∷ by_state Prepare m ∷ not_ready b restore m) → found ≡ None → (z : Mapping) → Contains b.tables.mappings z → is_chosen (One m.id) z ≡ true → is_active z.state ≡ false
one_idle b restore r m found ordered there found_is none =
    of_one_chosen b r m (λ x. is_active x.state ≡ false) ordered there (by_state_idle m.state (second_none (in_group m) (by_state Prepare m) (not_ready b restore m) (sym found_is ∙ none)))

-- refused, or prepared
pub prestart_refused : (restarts : ℕ → List Bool) (grain : GrainSize) (b : Books) (restore : Bool) (r : Ref) (m : Mapping) (found : Option Refusal) (refusal : Refusal) (decision : Decision) → mapping_named b.tables r ≡ Some m →
    found ≡ first_of (in_group m ∷ by_state Prepare m ∷ not_ready b restore m) → found ≡ Some refusal → decision ≡ with_work restarts b (Refused refusal) nothing → decision ≡ decide restarts grain b (Prestartfcmap r restore) None
prestart_refused restarts grain b restore r m found refusal decision there found_is is decision_is =
    let by : Option Mapping → Option Refusal = λ o. of_one Fcmap o (λ x. first_of (in_group x ∷ by_state Prepare x ∷ not_ready b restore x)) in
    let whole : by (mapping_named b.tables r) ≡ Some refusal = ap by there ∙ sym found_is ∙ is in
    decision_is ∙ sym (ap (λ o. answered restarts grain b (Prestartfcmap r restore) o None) whole)

pub prestart_done : (restarts : ℕ → List Bool) (grain : GrainSize) (b : Books) (restore : Bool) (r : Ref) (m : Mapping) (found : Option Refusal) (decision : Decision) → IsOrdered (λ (x : Mapping). x.id.0) (λ (x : Mapping). x.name) b.tables.mappings → mapping_named b.tables r ≡ Some m →
    found ≡ first_of (in_group m ∷ by_state Prepare m ∷ not_ready b restore m) → found ≡ None → decision ≡ with_work restarts b Done (prepare restore b.tables (chosen_of b.tables (One m.id))) → decision ≡ decide restarts grain b (Prestartfcmap r restore) None
prestart_done restarts grain b restore r m found decision ordered there found_is is decision_is =
    let by : Option Mapping → Option Refusal = λ o. of_one Fcmap o (λ x. first_of (in_group x ∷ by_state Prepare x ∷ not_ready b restore x)) in
    let deed : Option Mapping → Deed = λ o. for_one o (λ x. prepare restore b.tables (x ∷ [])) in
    let whole : by (mapping_named b.tables r) ≡ None = ap by there ∙ sym found_is ∙ is in
    decision_is
    ∙ ap (λ ms. with_work restarts b Done (prepare restore b.tables ms)) (one_chosen b r m ordered there)
    ∙ ap (λ o. with_work restarts b Done (deed o)) (sym there)
    ∙ sym (ap (λ o. answered restarts grain b (Prestartfcmap r restore) o None) whole)
