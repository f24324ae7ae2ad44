-- A mapping that is made, or refused.
use Rattle.std.proofs.Common.{◌≡◌, ◌∙◌, sym, ap, ℕ, ◌<◌, Bool, true, false, cond, not, ◌&&◌, ◌||◌, ◌==◌, nat_le, nat_lt, List, [], ◌∷◌, ◌++◌, length, map, Option, Some, None, codes, refl, arith, append-nil}
use Rattle.std.specs.List.{All, count_by, find, filter}
use Rattle.std.specs.Option.{option_map, option_map_or, is_none}
use Rattle.std.proofs.lemmas.List.Elements.{All-head, All-tail, filter-append}
use Rattle.fc_base.specs.Tables.{Tables, volume_named, group_named}
use Rattle.fc_base.specs.declared.command.Command.{Command}
use Rattle.fc_base.specs.declared.command.Command.TheVariants.{Mkfcmap}
use Rattle.fc_base.specs.declared.decision.Decision.{Decision}
use Rattle.fc_base.specs.declared.decision.LaneEvent.{LaneEvent}
use Rattle.fc_base.specs.declared.decision.LaneEvent.TheVariants.{Work}
use Rattle.fc_base.specs.declared.fault.Kind.TheVariants.{Vdisk, Fcmap, Group as OfGroups}
use Rattle.fc_base.specs.declared.fault.Refusal.{Refusal}
use Rattle.fc_base.specs.declared.fault.Refusal.TheVariants.{NoSuch, Limit, BadValue, SizeDiffers, SameVolume}
use Rattle.fc_base.specs.declared.fault.ValueOf.TheVariants.{CopyRate, CleanRate}
use Rattle.fc_base.specs.declared.name.Ref.{Ref}
use Rattle.fc_base.specs.declared.request.Reply.{Reply}
use Rattle.fc_base.specs.declared.request.Reply.TheVariants.{Made, Refused}
use Rattle.fc_base.specs.declared.size.GrainSize.{GrainSize}
use Rattle.fc_base.specs.declared.volume.Group.{Group}
use Rattle.fc_base.specs.declared.volume.Mapping.{Mapping}
use Rattle.fc_base.specs.declared.volume.Volume.{Volume}
use Rattle.fc_base.specs.declared.state.MapState.TheVariants.{IdleOrCopied}
use Rattle.fc_books.specs.Accesses.{is_copying, is_stopping}
use Rattle.fc_books.specs.After.{after_deed}
use Rattle.fc_books.specs.Books.{Books, Deed, nothing}
use Rattle.fc_books.specs.Copies.{is_whole}
use Rattle.fc_books.specs.Deciding.{decide, answered, for_one, refused, done, replied, with_work}
use Rattle.fc_books.specs.Groups.{members}
use Rattle.fc_books.specs.Making.{make_mapping, new_mapping, mapping_name, group_asked}
use Rattle.fc_books.specs.Refused.{of_one, of_asked, of_group, group_busy, grain_differs, is_over, pair_taken, name_taken}
use Rattle.fc_books.specs.Work.{copies, cleans, are_same, changes_work, work_events}
use Rattle.fc_objects.specs.Answering.{answered_by}
use Rattle.fc_objects.specs.Mappings.{ends_refused, asked_refused, rates_refused, full_group, busy_group, room_refused, pair_refused, mapping_with_name}
use Rattle.fc_objects.specs.declared.mkfcmap.MappingOptions.{MappingOptions}
use Rattle.fc_desk.specs.Names.{name_or}
use Rattle.fc_desk.specs.Refusing.{or_else}
use Rattle.fc_entry.specs.Refused.{first_of, where_}
use Rattle.fc_pick.specs.declared.work.WorkFlags.{WorkFlags}

-- ---- any decision that asks for no loop

by_refusal : (restarts : ℕ → List Bool) (grain : GrainSize) (b : Books) (command : Command) (found : Option Refusal) → answered restarts grain b command found None ≡ answered_by restarts b found (replied grain b command) (done grain b command)
by_refusal restarts grain b command None = refl
by_refusal restarts grain b command (Some refusal) = refl

pub decide-by : (restarts : ℕ → List Bool) (grain : GrainSize) (b : Books) (command : Command) → decide restarts grain b command None ≡ answered_by restarts b (refused grain b command) (replied grain b command) (done grain b command)
decide-by restarts grain b command = by_refusal restarts grain b command (refused grain b command)

-- ---- the refusals, in three parts

abbrev twelve : (a1 a2 a3 a4 g b2 b3 b4 c1 c2 c3 c4 : Option Refusal) → Option Refusal
twelve a1 a2 a3 a4 g b2 b3 b4 c1 c2 c3 c4 = first_of (a1 ∷ a2 ∷ a3 ∷ a4 ∷ g ∷ b2 ∷ b3 ∷ b4 ∷ c1 ∷ c2 ∷ c3 ∷ c4 ∷ [])

in_parts : (a1 a2 a3 a4 g b2 b3 b4 c1 c2 c3 c4 : Option Refusal) →
    twelve a1 a2 a3 a4 g b2 b3 b4 c1 (or_else g c2) (or_else g c3) c4
    ≡ or_else (first_of (a1 ∷ a2 ∷ a3 ∷ a4 ∷ [])) (or_else (first_of (g ∷ b2 ∷ b3 ∷ b4 ∷ [])) (first_of (c1 ∷ c2 ∷ c3 ∷ c4 ∷ [])))
in_parts (Some r) a2 a3 a4 g b2 b3 b4 c1 c2 c3 c4 = refl
in_parts None (Some r) a3 a4 g b2 b3 b4 c1 c2 c3 c4 = refl
in_parts None None (Some r) a4 g b2 b3 b4 c1 c2 c3 c4 = refl
in_parts None None None (Some r) g b2 b3 b4 c1 c2 c3 c4 = refl
in_parts None None None None (Some r) b2 b3 b4 c1 c2 c3 c4 = refl
in_parts None None None None None (Some r) b3 b4 c1 c2 c3 c4 = refl
in_parts None None None None None None (Some r) b4 c1 c2 c3 c4 = refl
in_parts None None None None None None None (Some r) c1 c2 c3 c4 = refl
in_parts None None None None None None None None c1 c2 c3 c4 = refl

asked_none : (b : Books) (group : Option Ref) → of_asked (of_group b) group (λ g. None) ≡ asked_refused b.tables group
asked_none b None = refl
asked_none b (Some r) = found (group_named b.tables r)
  where
    found : (o : Option Group) → of_one OfGroups o (λ g. None) ≡ where_ (is_none o) (NoSuch OfGroups)
    found None = refl
    found (Some g) = refl

asked_full : (b : Books) (group : Option Ref) → of_asked (of_group b) group (λ g. where_ (nat_le 64 (length (members b.tables g.id))) (Limit 64)) ≡ or_else (asked_refused b.tables group) (full_group b.tables (group_asked b.tables group))
asked_full b None = refl
asked_full b (Some r) = found b.tables (group_named b.tables r)
  where
    found : (t : Tables) (o : Option Group) → of_one OfGroups o (λ g. where_ (nat_le 64 (length (members t g.id))) (Limit 64)) ≡ or_else (where_ (is_none o) (NoSuch OfGroups)) (full_group t (option_map (λ (g : Group). g.id) o))
    found t None = refl
    found t (Some g) = refl

asked_busy : (b : Books) (group : Option Ref) → of_asked (of_group b) group (group_busy b) ≡ or_else (asked_refused b.tables group) (busy_group b.tables (group_asked b.tables group))
asked_busy b None = refl
asked_busy b (Some r) = found b (group_named b.tables r)
  where
    found : (c : Books) (o : Option Group) → of_one OfGroups o (group_busy c) ≡ or_else (where_ (is_none o) (NoSuch OfGroups)) (busy_group c.tables (option_map (λ (g : Group). g.id) o))
    found c None = refl
    found c (Some g) = refl

mapping_name-or : (given : Option (List ℕ)) (id : ℕ) → mapping_name given id ≡ name_or given (codes "fcmap") id
mapping_name-or None id = refl
mapping_name-or (Some name) id = refl

pub pair_refused-parts :
    (grain : GrainSize) (b : Books) (s t : Volume) (given : Option (List ℕ)) (name : List ℕ) (group : Option Ref) (copy_rate clean_rate : Option ℕ) (grain_size : Option GrainSize) →
    name ≡ name_or given (codes "fcmap") b.next_mapping →
    pair_refused grain b s t given group copy_rate clean_rate grain_size
    ≡ or_else (ends_refused grain b.tables.mappings s t grain_size) (or_else (rates_refused b.tables group copy_rate clean_rate) (room_refused b.tables s (group_asked b.tables group) name))
pair_refused-parts grain b s t given name group copy_rate clean_rate grain_size name_is =
    let a1 = where_ (s.id.0 == t.id.0) SameVolume in
    let a2 = where_ (not (s.grains == t.grains)) (SizeDiffers s.grains t.grains) in
    let a3 = grain_differs grain grain_size in
    let a4 = pair_taken b s t in
    let g = asked_refused b.tables group in
    let b2 = where_ (is_over 150 copy_rate) (BadValue CopyRate) in
    let b3 = where_ (is_over 150 clean_rate) (BadValue CleanRate) in
    let b4 = where_ (nat_le 512 (length b.tables.mappings)) (Limit 512) in
    let c1 = where_ (nat_le 256 (count_by (λ (m : Mapping). m.source.0 == s.id.0) b.tables.mappings)) (Limit 256) in
    let full = of_asked (of_group b) group (λ x. where_ (nat_le 64 (length (members b.tables x.id))) (Limit 64)) in
    let busy = of_asked (of_group b) group (group_busy b) in
    let c2 = full_group b.tables (group_asked b.tables group) in
    let c3 = busy_group b.tables (group_asked b.tables group) in
    let taken : List ℕ → Option Refusal = λ n. name_taken b Fcmap n in
    ap (λ x. twelve a1 a2 a3 a4 x b2 b3 b4 c1 full busy (taken (mapping_name given b.next_mapping))) (asked_none b group)
    ∙ ap (λ x. twelve a1 a2 a3 a4 g b2 b3 b4 c1 x busy (taken (mapping_name given b.next_mapping))) (asked_full b group)
    ∙ ap (λ x. twelve a1 a2 a3 a4 g b2 b3 b4 c1 (or_else g c2) x (taken (mapping_name given b.next_mapping))) (asked_busy b group)
    ∙ ap (λ x. twelve a1 a2 a3 a4 g b2 b3 b4 c1 (or_else g c2) (or_else g c3) (taken x)) (mapping_name-or given b.next_mapping ∙ sym name_is)
    ∙ in_parts a1 a2 a3 a4 g b2 b3 b4 c1 c2 c3 (taken name)

-- ---- the flags

-- no flag has the id
no_row : (flags : List WorkFlags) (n : ℕ) → All (λ (row : WorkFlags). row.map.0 < n) flags → find (λ (row : WorkFlags). row.map.0 == n) flags ≡ None
no_row [] n below = refl
no_row (row ∷ rows) n below =
    let apart : (row.map.0 == n) ≡ false = grind (arith, All-head (λ (r : WorkFlags). r.map.0 < n) row rows below) in
    ap (λ c. cond c (Some row) (find (λ (r : WorkFlags). r.map.0 == n) rows)) apart
    ∙ no_row rows n (All-tail (λ (r : WorkFlags). r.map.0 < n) row rows below)

abbrev told_of : Books → List Mapping → List LaneEvent
told_of b maps = map (λ (x : Mapping). Work x.id (copies b x) (cleans b x)) (filter (changes_work b) maps)

never : (b : Bool) → (b && false) ≡ false
never true = refl
never false = refl

idle_quiet : (b : Books) (m : Mapping) → m.state ≡ IdleOrCopied → find (λ (row : WorkFlags). row.map.0 == m.id.0) b.flags ≡ None → changes_work b m ≡ false
idle_quiet b m idle none =
    let is_c : copies b m ≡ false = ap (λ s. is_copying s && (not (is_whole b m) && nat_lt 0 m.copy_rate)) idle in
    let is_k : cleans b m ≡ false =
    ap (λ s. nat_lt 0 m.clean_rate && (is_stopping s || (is_copying s && ((m.copy_rate == 0) || is_whole b m)))) idle
    ∙ never (nat_lt 0 m.clean_rate) in
    let quiet : Bool → Bool → Option WorkFlags → Bool = λ c k row.
    not
    (are_same c (option_map_or (λ (r : WorkFlags). r.copies) row false)
    && are_same k (option_map_or (λ (r : WorkFlags). r.cleans) row false)) in
    ap (λ c. quiet c (cleans b m) (find (λ (row : WorkFlags). row.map.0 == m.id.0) b.flags)) is_c
    ∙ ap (λ k. quiet false k (find (λ (row : WorkFlags). row.map.0 == m.id.0) b.flags)) is_k
    ∙ ap (quiet false false) none

pub work_events-mapped :
    (restarts : ℕ → List Bool) (b : Books) (m : Mapping) → m.state ≡ IdleOrCopied → m.id.0 ≡ b.next_mapping → All (λ (row : WorkFlags). row.map.0 < b.next_mapping) b.flags →
    work_events (after_deed restarts b (make_mapping m)) ≡ work_events b
unfolding work_events
work_events-mapped restarts b m idle new given =
    let after = after_deed restarts b (make_mapping m) in
    let none : find (λ (row : WorkFlags). row.map.0 == m.id.0) b.flags ≡ None = ap (λ n. find (λ (row : WorkFlags). row.map.0 == n) b.flags) new ∙ no_row b.flags b.next_mapping given in
    ap (λ xs. map (λ (x : Mapping). Work x.id (copies b x) (cleans b x)) xs) (filter-append (changes_work b) b.tables.mappings (m ∷ []))
    ∙ ap (λ c. map (λ (x : Mapping). Work x.id (copies b x) (cleans b x)) (filter (changes_work b) b.tables.mappings ++ cond c (m ∷ []) [])) (idle_quiet b m idle none)
    ∙ ap (λ xs. map (λ (x : Mapping). Work x.id (copies b x) (cleans b x)) xs) (append-nil (filter (changes_work b) b.tables.mappings))

-- ---- put together

pub made_mapping :
    (restarts : ℕ → List Bool) (b : Books) (m : Mapping) (reply : Reply) (draft : Deed) (decision : Decision) →
    m.state ≡ IdleOrCopied → m.id.0 ≡ b.next_mapping → All (λ (row : WorkFlags). row.map.0 < b.next_mapping) b.flags →
    draft ≡ make_mapping m →
    decision ≡ record { reply = reply; effects = draft.effects; events = draft.events ++ work_events b; changes = draft.changes } →
    decision ≡ with_work restarts b reply (make_mapping m)
made_mapping restarts b m reply draft decision idle new given draft_is decision_is =
    let concluded : Deed → List _ → Decision = λ d work. record { reply = reply; effects = d.effects; events = d.events ++ work; changes = d.changes } in
    decision_is ∙ ap (λ d. concluded d (work_events b)) draft_is ∙ ap (concluded (make_mapping m)) (sym (work_events-mapped restarts b m idle new given))

pub pair_is_refused :
    (restarts : ℕ → List Bool) (grain : GrainSize) (b : Books) (s t : Volume) (given : Option (List ℕ)) (name : List ℕ) (group : Option Ref) (o : MappingOptions) (found : Option Refusal) (refusal : Refusal) (decision : Decision) →
    name ≡ name_or given (codes "fcmap") b.next_mapping →
    found ≡ or_else (ends_refused grain b.tables.mappings s t o.grain_size) (or_else (rates_refused b.tables group o.copy_rate o.clean_rate) (room_refused b.tables s (group_asked b.tables group) name)) →
    found ≡ Some refusal →
    decision ≡ with_work restarts b (Refused refusal) nothing →
    decision ≡ answered_by restarts b (pair_refused grain b s t given group o.copy_rate o.clean_rate o.grain_size) (Made Fcmap b.next_mapping) (make_mapping (new_mapping b s t given group o.copy_rate o.clean_rate o.incremental o.autodelete))
pair_is_refused restarts grain b s t given name group o found refusal decision name_is found_is is decision_is =
    decision_is
    ∙ sym (ap (λ r. answered_by restarts b r (Made Fcmap b.next_mapping) (make_mapping (new_mapping b s t given group o.copy_rate o.clean_rate o.incremental o.autodelete)))
    (pair_refused-parts grain b s t given name group o.copy_rate o.clean_rate o.grain_size name_is ∙ sym found_is ∙ is))

pub pair_is_made :
    (restarts : ℕ → List Bool) (grain : GrainSize) (b : Books) (s t : Volume) (given : Option (List ℕ)) (name : List ℕ) (group : Option Ref) (o : MappingOptions) (found : Option Refusal) (decision : Decision) →
    name ≡ name_or given (codes "fcmap") b.next_mapping →
    found ≡ or_else (ends_refused grain b.tables.mappings s t o.grain_size) (or_else (rates_refused b.tables group o.copy_rate o.clean_rate) (room_refused b.tables s (group_asked b.tables group) name)) →
    found ≡ None →
    decision ≡ with_work restarts b (Made Fcmap b.next_mapping) (make_mapping (mapping_with_name b.tables b.next_mapping s t name group o.copy_rate o.clean_rate o.incremental o.autodelete)) →
    decision ≡ answered_by restarts b (pair_refused grain b s t given group o.copy_rate o.clean_rate o.grain_size) (Made Fcmap b.next_mapping) (make_mapping (new_mapping b s t given group o.copy_rate o.clean_rate o.incremental o.autodelete))
pair_is_made restarts grain b s t given name group o found decision name_is found_is is decision_is =
    decision_is
    ∙ ap (λ n. with_work restarts b (Made Fcmap b.next_mapping) (make_mapping (mapping_with_name b.tables b.next_mapping s t n group o.copy_rate o.clean_rate o.incremental o.autodelete)))
    (name_is ∙ sym (mapping_name-or given b.next_mapping))
    ∙ sym (ap (λ r. answered_by restarts b r (Made Fcmap b.next_mapping) (make_mapping (new_mapping b s t given group o.copy_rate o.clean_rate o.incremental o.autodelete)))
    (pair_refused-parts grain b s t given name group o.copy_rate o.clean_rate o.grain_size name_is ∙ sym found_is ∙ is))

pub pair_is_decided :
    (restarts : ℕ → List Bool) (grain : GrainSize) (b : Books) (source target : Ref) (s t : Volume) (given : Option (List ℕ)) (group : Option Ref) (o : MappingOptions) (decision : Decision) →
    volume_named b.tables source ≡ Some s → volume_named b.tables target ≡ Some t →
    decision ≡ answered_by restarts b (pair_refused grain b s t given group o.copy_rate o.clean_rate o.grain_size) (Made Fcmap b.next_mapping) (make_mapping (new_mapping b s t given group o.copy_rate o.clean_rate o.incremental o.autodelete)) →
    decision ≡ decide restarts grain b (Mkfcmap source target given group o.copy_rate o.clean_rate o.grain_size o.incremental o.autodelete) None
pair_is_decided restarts grain b source target s t given group o decision s_there t_there decision_is =
    let refused_by : Option Volume → Option Volume → Option Refusal = λ x y. of_one Vdisk x (λ p. of_one Vdisk y (λ q. pair_refused grain b p q given group o.copy_rate o.clean_rate o.grain_size)) in
    let made_by : Option Volume → Option Volume → Deed = λ x y. for_one x (λ p. for_one y (λ q. make_mapping (new_mapping b p q given group o.copy_rate o.clean_rate o.incremental o.autodelete))) in
    let by : Option Volume → Option Volume → Decision = λ x y. answered_by restarts b (refused_by x y) (Made Fcmap b.next_mapping) (made_by x y) in
    decision_is
    ∙ sym (ap (λ x. by x (Some t)) s_there)
    ∙ sym (ap (λ y. by (volume_named b.tables source) y) t_there)
    ∙ sym (decide-by restarts grain b (Mkfcmap source target given group o.copy_rate o.clean_rate o.grain_size o.incremental o.autodelete))
