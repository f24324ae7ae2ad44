-- The deeds of preparing and starting, written out.
use Rattle.std.proofs.Common.{◌≡◌, ◌<◌, ◌^◌, Bool, true, false, cond, List, [], ◌∷◌, ◌++◌, map, refl, sym, ap, subst, ◌∙◌}
use Rattle.std.specs.Prelude.{flat_map, filter}
use Rattle.fc_base.specs.Pools.{Pool}
use Rattle.fc_base.specs.Sheet.{Sheet}
use Rattle.fc_base.specs.SheetFits.{FitsEvents}
use Rattle.fc_base.specs.Tables.{Tables}
use Rattle.fc_base.specs.declared.decision.LaneEvent.{LaneEvent}
use Rattle.fc_base.specs.declared.request.Effect.{Effect}
use Rattle.fc_base.specs.declared.request.Effect.TheVariants.{State}
use Rattle.fc_base.specs.declared.size.GrainSize.{GrainSize}
use Rattle.fc_base.specs.declared.state.MapState.{MapState}
use Rattle.fc_base.specs.declared.state.MapState.TheVariants.{IdleOrCopied}
use Rattle.fc_base.specs.declared.volume.Change.{Change}
use Rattle.fc_base.specs.declared.volume.Change.TheVariants.{SetMapping}
use Rattle.fc_base.specs.declared.volume.Mapping.{Mapping}
use Rattle.fc_books.specs.Books.{Deed, nothing, ◌then◌, all_deeds}
use Rattle.fc_books.specs.Starting.{is_superseded, supersedes, begins}
use Rattle.fc_entry.specs.Picture.{Picture}
use Rattle.fc_legal.specs.Lawful.{HaveDisks}
use Rattle.fc_rules.specs.LaneTold.{LaneVolume}
use Rattle.std.proofs.lemmas.List.{map-append}
use Rattle.fc_decided.proofs.Apart.{sheet_through, picture_through}
use Rattle.fc_decided.proofs.Copying.{AreQuiet}
use Rattle.fc_decided.proofs.Receiving.{told_accesses}
use Rattle.fc_decided.proofs.Setting.{sets}
use Rattle.fc_decided.proofs.Sparing.{AreStill}
use Rattle.fc_decided.proofs.Turning.{turned, idled}
use Rattle.fc_decided.proofs.Working.{NoWork, AreGone}

-- ---- what is done for each

flat_one : {X Y : Type 0} (f : X → Y) (xs : List X) → flat_map (λ x. f x ∷ []) xs ≡ map f xs
flat_one f [] = refl
flat_one f (x ∷ xs) = ap (λ ys. f x ∷ ys) (flat_one f xs)

flat_none : {X Y : Type 0} (xs : List X) → (let none : X → List Y = λ x. [] in flat_map none xs ≡ [])
flat_none [] = refl
flat_none (x ∷ xs) = flat_none xs

map_twice : (f : Mapping → Mapping) (ms : List Mapping) → map (λ (m : Mapping). SetMapping (f m)) ms ≡ sets (map f ms)
map_twice f [] = refl
map_twice f (m ∷ ms) = ap (λ (cs : List Change). SetMapping (f m) ∷ cs) (map_twice f ms)

states : MapState → List Mapping → List Effect
states state maps = map (λ (m : Mapping). State m.id state) maps

states_quiet : (state : MapState) (maps : List Mapping) → AreQuiet (states state maps)
unfolding states
states_quiet state [] = tt
states_quiet state (m ∷ ms) = (tt, states_quiet state ms)

-- Those that give way, if any do.
abbrev pub givers : Bool → Tables → List Mapping → List Mapping
givers gives t maps = cond gives (filter (is_superseded maps) t.mappings) []

-- The deed of giving way.
abbrev pub giving : Bool → Tables → List Mapping → Deed
giving gives t maps = cond gives (supersedes t maps) nothing

giving_events : (gives : Bool) (t : Tables) (maps : List Mapping) → (giving gives t maps).events ≡ []
giving_events true t maps = flat_none (filter (is_superseded maps) t.mappings)
giving_events false t maps = refl

giving_effects : (gives : Bool) (t : Tables) (maps : List Mapping) → AreQuiet (giving gives t maps).effects
unfolding states
giving_effects true t maps = subst AreQuiet (sym (flat_one (λ (m : Mapping). State m.id IdleOrCopied) (filter (is_superseded maps) t.mappings))) (states_quiet IdleOrCopied (filter (is_superseded maps) t.mappings))
giving_effects false t maps = tt

giving_changes : (gives : Bool) (t : Tables) (maps : List Mapping) → (giving gives t maps).changes ≡ sets (cond gives (map idled (filter (is_superseded maps) t.mappings)) [])
giving_changes true t maps = flat_one (λ (m : Mapping). SetMapping (idled m)) (filter (is_superseded maps) t.mappings) ∙ map_twice idled (filter (is_superseded maps) t.mappings)
giving_changes false t maps = refl

-- ---- the whole

-- Some give way; then what is done for all at once, which changes no table; then each comes to its state.
abbrev pub turn_deed : Bool → Deed → MapState → Bool → Tables → List Mapping → Deed
turn_deed gives at_once state restore t maps = giving gives t maps then (at_once then all_deeds (begins state restore) maps)

pub turn_events : (gives : Bool) (at_once : Deed) (state : MapState) (restore : Bool) (t : Tables) (maps : List Mapping) →
    (turn_deed gives at_once state restore t maps).events ≡ at_once.events ++ told_accesses state maps
turn_events gives at_once state restore t maps =
    (λ k. giving_events gives t maps k ++ (at_once.events ++ flat_map (λ (m : Mapping). (begins state restore m).events) maps))
    ∙ ap (λ (es : List LaneEvent). at_once.events ++ es) (flat_one _ maps)

pub turn_changes : (gives : Bool) (at_once : Deed) (state : MapState) (restore : Bool) (t : Tables) (maps : List Mapping) → at_once.changes ≡ [] →
    (turn_deed gives at_once state restore t maps).changes ≡ sets (cond gives (map idled (filter (is_superseded maps) t.mappings)) [] ++ map (turned state restore) maps)
turn_changes gives at_once state restore t maps none =
    (λ k. giving_changes gives t maps k ++ (none k ++ flat_map (λ (m : Mapping). (begins state restore m).changes) maps))
    ∙ ap (λ (cs : List Change). sets (cond gives (map idled (filter (is_superseded maps) t.mappings)) []) ++ cs)
    (flat_one (λ (m : Mapping). SetMapping (turned state restore m)) maps ∙ map_twice (turned state restore) maps)
    ∙ sym (map-append SetMapping (cond gives (map idled (filter (is_superseded maps) t.mappings)) []) (map (turned state restore) maps))

pub begin_effects : (state : MapState) (restore : Bool) (maps : List Mapping) → AreQuiet (all_deeds (begins state restore) maps).effects
unfolding states
begin_effects state restore maps = subst AreQuiet (sym (flat_one (λ (m : Mapping). State m.id state) maps)) (states_quiet state maps)

pub give_effects : (gives : Bool) (t : Tables) (maps : List Mapping) → AreQuiet (giving gives t maps).effects
give_effects gives t maps = giving_effects gives t maps

-- ---- events of accesses alone

pub accesses_sheet : (state : MapState) (maps : List Mapping) (s : Sheet) → sheet_through s (told_accesses state maps) ≡ s
accesses_sheet state [] s = refl
accesses_sheet state (m ∷ ms) s = accesses_sheet state ms s

pub accesses_picture : (grain : GrainSize) (state : MapState) (maps : List Mapping) (s : Sheet) (picture : Picture) → picture_through grain s picture (told_accesses state maps) ≡ picture
accesses_picture grain state [] s picture = refl
accesses_picture grain state (m ∷ ms) s picture = accesses_picture grain state ms s picture

pub accesses_fit : (state : MapState) (maps : List Mapping) (s : Sheet) → s.births < 2 ^ 64 → FitsEvents (λ grains. grains) s (told_accesses state maps)
accesses_fit state [] s few = few
accesses_fit state (m ∷ ms) s few = (tt, accesses_fit state ms s few)

pub accesses_disks : (state : MapState) (maps : List Mapping) (pools : List Pool) (volumes : List LaneVolume) → HaveDisks pools volumes (told_accesses state maps)
accesses_disks state [] pools volumes = tt
accesses_disks state (m ∷ ms) pools volumes = (tt, accesses_disks state ms pools _)

pub accesses_still : (state : MapState) (maps : List Mapping) → AreStill (told_accesses state maps)
accesses_still state [] = tt
accesses_still state (m ∷ ms) = (tt, accesses_still state ms)

pub accesses_no_work : (state : MapState) (maps : List Mapping) → NoWork (told_accesses state maps)
accesses_no_work state [] = tt
accesses_no_work state (m ∷ ms) = (tt, accesses_no_work state ms)

pub accesses_gone : (all : List Mapping) (state : MapState) (maps : List Mapping) → AreGone all (told_accesses state maps)
accesses_gone all state [] = tt
accesses_gone all state (m ∷ ms) = (tt, accesses_gone all state ms)
