-- A group is stopped: what is reached after each member, and what is decided.
use Rattle.std.proofs.Common.{◌≡◌, ◌∙◌, sym, ap, subst, ℕ, zero, suc, ◌+◌, ◌<◌, ◌≤◌, Bool, true, false, cond, not, ◌&&◌, ◌||◌, ◌==◌, nat_lt, List, [], ◌∷◌, ◌++◌, length, map, take, AllPairs, All, get_or, None, Contains, inl, inr, refl, arith, add-one}
use Rattle.std.specs.List.{list_any, filter, flat_map}
use Rattle.std.proofs.lemmas.Bool.{eqb-true, eq-eqb}
use Rattle.std.proofs.lemmas.List.{take_all}
use Rattle.std.proofs.lemmas.List.Kept.{AllPairs-cons}
use Rattle.std.proofs.lemmas.List.Elements.{All-nil, All-cons}
use Rattle.fc_base.specs.Sheet.{mapping_place}
use Rattle.fc_base.specs.SheetView.{AreMappings, DependsOn, needed_of}
use Rattle.fc_base.specs.declared.command.StopWay.{StopWay}
use Rattle.fc_base.specs.declared.command.StopWay.TheVariants.{Plain, Force as ByForce, Split as SplitOff}
use Rattle.fc_base.specs.declared.decision.Decision.{Decision}
use Rattle.fc_base.specs.declared.fault.Refusal.TheVariants.{NotAllowed}
use Rattle.fc_base.specs.declared.ids.GroupId.{GroupId}
use Rattle.fc_base.specs.declared.ids.MapId.{MapId}
use Rattle.fc_base.specs.declared.request.Reply.{Reply}
use Rattle.fc_base.specs.declared.state.MapState.{MapState}
use Rattle.fc_base.specs.declared.state.MapState.TheVariants.{Stopping}
use Rattle.fc_base.specs.declared.volume.Change.{Change}
use Rattle.fc_base.specs.declared.volume.Mapping.{Mapping}
use Rattle.fc_books.specs.Books.{Books, Deed, nothing, ◌then◌}
use Rattle.fc_books.specs.Copies.{is_whole, has_slot_among, places_behind}
use Rattle.fc_books.specs.Deciding.{with_work}
use Rattle.fc_books.specs.Groups.{acts_on, is_member, members, some_in, group_state}
use Rattle.fc_books.specs.RefusedStarts.{not_complete, for_each, split_refusals, empty_group}
use Rattle.fc_books.specs.Sound.{AreSound}
use Rattle.fc_books.specs.Stopping.{stop_group}
use Rattle.fc_entry.specs.Refused.{where_}
use Rattle.fc_registry.proofs.Places.{IsAbove, Rises, rises}
use Rattle.fc_stops.proofs.StopAsked.{any_of, any_in, id_found, dependent_known, has_slot, slot_has}
use Rattle.fc_stops.proofs.StopEnds.{can_stop, stop_nothing}
use Rattle.fc_stops.proofs.StopLeft.{PlainLeft}
use Rattle.fc_stops.proofs.StopMember.{sheet_by, Reached}
use Rattle.fc_stops.proofs.StopParts.{alone, can_where, first_none, stops_concluded}
use Rattle.fc_stops.proofs.StopReach.{needed_reads, reads_needed, reads_mapping, mapping_reads, mapping_apart, out_or_not}
use Rattle.fc_stops.proofs.StopSlots.{stays_same}
use Rattle.fc_stops.proofs.StopSteps.{reached_next}
use Rattle.fc_stops.proofs.StopWhole.{so_far, next_passed, next_stopped, now_parts}
use Rattle.fc_stops.specs.Stops.{changes_some, stop_asked, told_after}
use Rattle.fc_stops.specs.StopGroups.{IsLeftAnswer, stops_in_group, stops_now, refused_group}

-- ---- the chains before answer

all_from : (k : ℕ) (ys : List MapId) → IsAbove (λ (y : MapId). y.0) k ys → All (λ (y : MapId). k < y.0) ys
all_from k [] above = All-nil (λ (y : MapId). k < y.0)
all_from k (y ∷ ys) above = All-cons (λ (z : MapId). k < z.0) y ys above.0 (all_from k ys above.1)

pairs_from : (xs : List MapId) → Rises (λ (x : MapId). x.0) xs → AllPairs (λ (x y : MapId). x.0 < y.0) xs
pairs_from [] up = λ i j d lt within. absurd (omega arith)
pairs_from (x ∷ xs) up = AllPairs-cons (λ (x y : MapId). x.0 < y.0) x xs (all_from x.0 xs up.0) (pairs_from xs up.1)

above_where : (test : Mapping → Bool) (k : ℕ) (maps : List Mapping) → IsAbove (λ (x : Mapping). x.id.0) k maps → IsAbove (λ (x : MapId). x.0) k (map (λ (x : Mapping). x.id) (filter test maps))
above_where test k [] above = tt
above_where test k (y ∷ ys) above = put (test y) (above_where test k ys above.1)
  where
    put : (b : Bool) → IsAbove (λ (x : MapId). x.0) k (map (λ (x : Mapping). x.id) (filter test ys)) → IsAbove (λ (x : MapId). x.0) k (map (λ (x : Mapping). x.id) (cond b (y ∷ filter test ys) (filter test ys)))
    put true rest = (above.0, rest)
    put false rest = rest

rises_where : (test : Mapping → Bool) (maps : List Mapping) → Rises (λ (x : Mapping). x.id.0) maps → Rises (λ (x : MapId). x.0) (map (λ (x : Mapping). x.id) (filter test maps))
rises_where test [] up = tt
rises_where test (y ∷ ys) up = put (test y) (above_where test y.id.0 ys up.0) (rises_where test ys up.1)
  where
    put : (b : Bool) → IsAbove (λ (x : MapId). x.0) y.id.0 (map (λ (x : Mapping). x.id) (filter test ys)) → Rises (λ (x : MapId). x.0) (map (λ (x : Mapping). x.id) (filter test ys)) → Rises (λ (x : MapId). x.0) (map (λ (x : Mapping). x.id) (cond b (y ∷ filter test ys) (filter test ys)))
    put true above rest = (above, rest)
    put false above rest = rest

any_where : (test : Mapping → Bool) (n : ℕ) (maps : List Mapping) → list_any (λ (x : MapId). x.0 == n) (map (λ (x : Mapping). x.id) (filter test maps)) ≡ list_any (λ (y : Mapping). test y && (y.id.0 == n)) maps
any_where test n [] = refl
any_where test n (y ∷ ys) = put (test y) ∙ ap (λ c. (test y && (y.id.0 == n)) || c) (any_where test n ys)
  where
    put : (b : Bool) → list_any (λ (x : MapId). x.0 == n) (map (λ (x : Mapping). x.id) (cond b (y ∷ filter test ys) (filter test ys))) ≡ ((b && (y.id.0 == n)) || list_any (λ (x : MapId). x.0 == n) (map (λ (x : Mapping). x.id) (filter test ys)))
    put true = refl
    put false = refl

same_id : (i j : MapId) → i.0 ≡ j.0 → i ≡ j
same_id i j e = let f : ℕ → MapId = λ n. record { 0 = n } in ap f e

both_true : (a b : Bool) → (a && b) ≡ true → (a ≡ true) × (b ≡ true)
both_true true b e = (refl, e)
both_true false b e = grind (arith, e)

true_both : (a b : Bool) → a ≡ true → b ≡ true → (a && b) ≡ true
true_both a b p q = rw p q

-- the mappings of a table of which a fact holds that a test decides
ids_where : (P : ℕ → Type 0) (test : Mapping → Bool) (maps : List Mapping) → Rises (λ (x : Mapping). x.id.0) maps → ((y : Mapping) → test y ≡ true → P y.id.0) → ((y : Mapping) → P y.id.0 → test y ≡ true) → ((n : ℕ) → P n → list_any (λ (y : Mapping). y.id.0 == n) maps ≡ true) → AreMappings P (map (λ (x : Mapping). x.id) (filter test maps))
ids_where P test maps up only all there =
    let ids : List MapId = map (λ (x : Mapping). x.id) (filter test maps) in
    record {
      rising = pairs_from ids (rises_where test maps up);
      only = λ x in'.
          let found = any_of (λ (y : Mapping). test y && (y.id.0 == x.0)) maps (sym (any_where test x.0 maps) ∙ any_in (λ (z : MapId). z.0 == x.0) ids x in' (eq-eqb x.0 x.0 refl)) in
          let parts = both_true (test found.0) (found.0.id.0 == x.0) found.2 in
          subst P (eqb-true found.0.id.0 x.0 parts.1) (only found.0 parts.0);
      all = λ x holds.
          let owner = any_of (λ (y : Mapping). y.id.0 == x.0) maps (there x.0 holds) in
          let same : owner.0.id.0 ≡ x.0 = eqb-true owner.0.id.0 x.0 owner.2 in
          let is : list_any (λ (z : MapId). z.0 == x.0) ids ≡ true = any_where test x.0 maps ∙ any_in (λ (y : Mapping). test y && (y.id.0 == x.0)) maps owner.0 owner.1 (true_both (test owner.0) (owner.0.id.0 == x.0) (all owner.0 (subst P (sym same) holds)) owner.2) in
          let r = id_found ids x.0 is in
          let Q : MapId → Type 0 = λ z. Contains ids z in
          subst Q (same_id r.0 x r.2) r.1;
    }

not_true : (b : Bool) → not b ≡ true → b ≡ false
not_true true e = grind (arith, e)
not_true false e = refl

true_not : (b : Bool) → b ≡ false → not b ≡ true
true_not b e = rw e refl

force_answer : (b : Books) (cs : List Change) (m : Mapping) → AreSound b → (ids : List MapId) × AreMappings (λ n. DependsOn b.sheet.slots m.id.0 n × (changes_some n cs ≡ false)) ids
force_answer b cs m sound =
    let depends : Mapping → Bool = has_slot_among b.sheet.slots (places_behind b.sheet.slots (mapping_place b.sheet.slots m.id.0)) in
    let test : Mapping → Bool = λ y. depends y && not (changes_some y.id.0 cs) in (
      map (λ (x : Mapping). x.id) (filter test b.tables.mappings),
      ids_where (λ n. DependsOn b.sheet.slots m.id.0 n × (changes_some n cs ≡ false)) test b.tables.mappings
          (rises (λ (x : Mapping). x.id.0) b.tables.mappings sound.tables.mappings.rising)
          (λ y e. let parts = both_true (depends y) (not (changes_some y.id.0 cs)) e in (slot_has b.sheet.slots m.id.0 y.id.0 (mapping_place b.sheet.slots y.id.0) (mapping_place b.sheet.slots m.id.0) sound.sheet.sizes refl refl parts.0, not_true (changes_some y.id.0 cs) parts.1))
          (λ y holds. true_both (depends y) (not (changes_some y.id.0 cs)) (has_slot b.sheet.slots m.id.0 y.id.0 sound.sheet.sizes holds.0) (true_not (changes_some y.id.0 cs) holds.1))
          (λ n holds. dependent_known b m.id.0 n sound holds.0),
    )

plain_answer : (b : Books) (d : Deed) (m : Mapping) → AreSound b → Reached Plain b d → changes_some m.id.0 d.changes ≡ false → IsLeftAnswer Plain b.sheet.slots d.changes m.id.0 (nat_lt 0 (needed_of (sheet_by b d).slots m.id.0)) []
plain_answer b d m sound reached same =
    let out : ℕ → Bool = λ n. changes_some n d.changes in
    let left : PlainLeft b.sheet (sheet_by b d) out = reached.left in (
      (
        λ is.
            let by = needed_reads (sheet_by b d) m.id.0 left.sound is in
            elim (out_or_not (out by.0)) [
              | inl gone ↦ absurd (left.quiet m.id.0 by.0 gone by.1)
              | inr here ↦ (by.0, reads_mapping b.sheet.slots m.id.0 by.0 sound.sheet.mappings (left.stays.back m.id.0 by.0 same here by.1) by.2, here)
            ],
        λ by.
            reads_needed (sheet_by b d) m.id.0 left.sound (
              by.0,
              left.stays.reads m.id.0 by.0 same by.2 (mapping_reads b.sheet.slots m.id.0 by.0 by.1),
              mapping_apart b.sheet.slots m.id.0 by.0 sound.sheet.mappings by.1,
            ),
      ),
      refl,
    )

answer_there : (way : StopWay) (b : Books) (d : Deed) (m : Mapping) → AreSound b → Reached way b d → changes_some m.id.0 d.changes ≡ false → (needed : Bool) × (ids : List MapId) × IsLeftAnswer way b.sheet.slots d.changes m.id.0 needed ids
answer_there Plain b d m sound reached same = (nat_lt 0 (needed_of (sheet_by b d).slots m.id.0), [], plain_answer b d m sound reached same)
answer_there ByForce b d m sound reached same = let r = force_answer b d.changes m sound in (true, r.0, r.1)
answer_there SplitOff b d m sound reached same = (false, [], refl)

-- ---- a stop that isn't refused

acts_force : (way : StopWay) → acts_on way Stopping ≡ true → way ≡ ByForce
acts_force Plain e = grind (arith, e)
acts_force ByForce e = refl
acts_force SplitOff e = grind (arith, e)

can_acts : (state : MapState) (way : StopWay) (b : Books) (m : Mapping) → acts_on way state ≡ true → not_complete way b m ≡ None → can_stop state way (is_whole b m) ≡ true
can_acts state way b m acts none = can_where state way b m (λ is. let P : MapState → Type 0 = λ st. acts_on way st ≡ true in acts_force way (subst P is acts)) none

one_none : (way : StopWay) (b : Books) (m : Mapping) (acts : Bool) → acts_on way m.state ≡ acts → acts ≡ true → cond (acts_on way m.state) (not_complete way b m) None ≡ None → not_complete way b m ≡ None
one_none way b m true is e none = sym (ap (λ c. cond c (not_complete way b m) None) is) ∙ none
one_none way b m false is e none = grind (arith, e)

none_at : (way : StopWay) (g : GroupId) (b : Books) (y : Mapping) (ys : List Mapping) (m : Mapping) (j : ℕ) → (for_each (split_refusals way b) (filter (is_member g) ys) ≡ None → Contains ys m → not_complete way b m ≡ None) → j < length (y ∷ ys) → get_or (y ∷ ys) j m ≡ m → (c : Bool) → is_member g y ≡ c → is_member g m ≡ true → acts_on way m.state ≡ true → for_each (split_refusals way b) (cond c (y ∷ filter (is_member g) ys) (filter (is_member g) ys)) ≡ None → not_complete way b m ≡ None
none_at way g b y ys m zero rest lt e true is member acts none =
    let parts = first_none (cond (acts_on way y.state) (not_complete way b y) None) (for_each (split_refusals way b) (filter (is_member g) ys) ∷ []) none in
    let P : Mapping → Type 0 = λ x. cond (acts_on way x.state) (not_complete way b x) None ≡ None in
    one_none way b m (acts_on way m.state) refl acts (subst P e parts.0)
none_at way g b y ys m zero rest lt e false is member acts none = let both : true ≡ false = sym member ∙ (ap (is_member g) (sym e) ∙ is) in grind (arith, both)
none_at way g b y ys m (suc j) rest lt e true is member acts none =
    let parts = first_none (cond (acts_on way y.state) (not_complete way b y) None) (for_each (split_refusals way b) (filter (is_member g) ys) ∷ []) none in
    rest (alone (for_each (split_refusals way b) (filter (is_member g) ys)) parts.1) (j, omega (arith, lt), e)
none_at way g b y ys m (suc j) rest lt e false is member acts none = rest none (j, omega (arith, lt), e)

each_none : (way : StopWay) (g : GroupId) (b : Books) (maps : List Mapping) (m : Mapping) → for_each (split_refusals way b) (filter (is_member g) maps) ≡ None → Contains maps m → is_member g m ≡ true → acts_on way m.state ≡ true → not_complete way b m ≡ None
each_none way g b [] m none (k, lt, e) member acts = absurd (omega arith)
each_none way g b (y ∷ ys) m none (k, lt, e) member acts =
    none_at way g b y ys m k (λ n in'. each_none way g b ys m n in' member acts) lt e (is_member g y) refl member acts none

splits_none : (way : StopWay) (g : GroupId) (b : Books) → refused_group way b g ≡ None → for_each (split_refusals way b) (members b.tables g) ≡ None
splits_none way g b e =
    let maps = members b.tables g in
    let one = first_none (empty_group maps) (where_ (not (some_in (acts_on way) maps)) (NotAllowed (group_state b.tables g)) ∷ for_each (split_refusals way b) maps ∷ []) e in
    let two = first_none (where_ (not (some_in (acts_on way) maps)) (NotAllowed (group_state b.tables g))) (for_each (split_refusals way b) maps ∷ []) one.1 in
    (first_none (for_each (split_refusals way b) maps) [] two.1).0

-- ---- all members

reached_none : (way : StopWay) (b : Books) → AreSound b → Reached way b nothing
reached_none Plain b sound =
    record { stop = stop_nothing; done = tt; left = record { sound = sound.sheet; stays = stays_same (λ n. false) b.sheet.slots; quiet = λ m n e r. grind (arith, e) } }
reached_none ByForce b sound =
    record { stop = stop_nothing; done = tt; left = record { sound = sound.sheet; stays = stays_same (λ n. false) b.sheet.slots; none = λ n e h. grind (arith, e); closed = λ e n r is. grind (arith, is) } }
reached_none SplitOff b sound = record { stop = stop_nothing; done = tt; left = tt }

item_at : (maps : List Mapping) (i : ℕ) → i < length maps → (m : Mapping) × (m ≡ get_or maps i m)
item_at [] i lt = absurd (omega arith)
item_at (y ∷ ys) zero lt = (y, refl)
item_at (y ∷ ys) (suc i) lt = item_at ys i (omega (arith, lt))

reached_by : (way : StopWay) (g : GroupId) (b : Books) (i : ℕ) (m : Mapping) (now : Bool) → AreSound b → refused_group way b g ≡ None → Reached way b (so_far way g b i) → i < length b.tables.mappings → m ≡ get_or b.tables.mappings i m → stops_now way g (so_far way g b i).changes m ≡ now → Reached way b (so_far way g b (i + 1))
reached_by way g b i m false sound allowed reached lt at now =
    let P : Deed → Type 0 = λ d. Reached way b d in
    subst P (sym (next_passed way g b i m sound reached lt at now)) reached
reached_by way g b i m true sound allowed reached lt at now =
    let parts = now_parts way g (so_far way g b i).changes m now in
    let answer = answer_there way b (so_far way g b i) m sound reached parts.same in
    let in' : Contains b.tables.mappings m = (i, lt, sym at) in
    let can = can_acts m.state way b m parts.acts (each_none way g b b.tables.mappings m (splits_none way g b allowed) in' parts.member parts.acts) in
    let P : Deed → Type 0 = λ d. Reached way b d in
    subst P (sym (next_stopped way g b i m answer.0 answer.1 sound reached lt at now answer.2))
    (reached_next m.state way b (so_far way g b i) m answer.0 answer.1 sound reached in' refl parts.same parts.acts can answer.2)

pub all_reached : (way : StopWay) (g : GroupId) (b : Books) (i : ℕ) → AreSound b → refused_group way b g ≡ None → i ≤ length b.tables.mappings → Reached way b (so_far way g b i)
all_reached way g b zero sound allowed le = reached_none way b sound
all_reached way g b (suc i) sound allowed le =
    let item = item_at b.tables.mappings i (omega (arith, le)) in
    let P : ℕ → Type 0 = λ k. Reached way b (so_far way g b k) in
    subst P (add-one i)
    (reached_by way g b i item.0 (stops_now way g (so_far way g b i).changes item.0) sound allowed (all_reached way g b i sound allowed (omega (arith, le))) (omega (arith, le)) item.1 refl)

-- ---- the code's steps

pub member_passed : (way : StopWay) (g : GroupId) (b : Books) (i : ℕ) (m : Mapping) (draft : Deed) → AreSound b → refused_group way b g ≡ None → i < length b.tables.mappings → m ≡ get_or b.tables.mappings i m → draft ≡ so_far way g b i → stops_now way g draft.changes m ≡ false → draft ≡ so_far way g b (i + 1)
member_passed way g b i m draft sound allowed lt at is now =
    is ∙ sym (next_passed way g b i m sound (all_reached way g b i sound allowed (omega (arith, lt))) lt at (sym (ap (λ (d : Deed). stops_now way g d.changes m) is) ∙ now))

pub member_stopped : (way : StopWay) (g : GroupId) (b : Books) (i : ℕ) (m : Mapping) (needed : Bool) (ids : List MapId) (draft new : Deed) → AreSound b → refused_group way b g ≡ None → i < length b.tables.mappings → m ≡ get_or b.tables.mappings i m → draft ≡ so_far way g b i → stops_now way g draft.changes m ≡ true → IsLeftAnswer way b.sheet.slots draft.changes m.id.0 needed ids → new ≡ (draft then stop_asked m.state way needed ids b m) → new ≡ so_far way g b (i + 1)
member_stopped way g b i m needed ids draft new sound allowed lt at is now answer new_is =
    let P : Deed → Type 0 = λ d. IsLeftAnswer way b.sheet.slots d.changes m.id.0 needed ids in
    new_is
    ∙ ap (λ d. d then stop_asked m.state way needed ids b m) is
    ∙ sym (next_stopped way g b i m needed ids sound (all_reached way g b i sound allowed (omega (arith, lt))) lt at (sym (ap (λ (d : Deed). stops_now way g d.changes m) is) ∙ now) (subst P is answer))

pub group_decided :
    (restarts : ℕ → List Bool) (way : StopWay) (g : GroupId) (b : Books) (draft whole : Deed) (reply : Reply) (decision : Decision) → AreSound b → refused_group way b g ≡ None →
    draft ≡ stops_in_group way g b b.tables.mappings →
    whole ≡ record draft { events = draft.events ++ flat_map (told_after b draft.changes) b.tables.mappings } →
    decision ≡ record { reply = reply; effects = whole.effects; events = whole.events; changes = whole.changes } →
    decision ≡ with_work restarts b reply (stop_group way b (members b.tables g))
group_decided restarts way g b draft whole reply decision sound allowed draft_is whole_is decision_is =
    let n = length b.tables.mappings in
    let all : stops_in_group way g b (take n b.tables.mappings) ≡ stops_in_group way g b b.tables.mappings = ap (stops_in_group way g b) (take_all n b.tables.mappings (omega arith)) in
    let P : Deed → Type 0 = λ d. Reached way b d in
    stops_concluded restarts b (stops_in_group way g b b.tables.mappings) draft whole reply decision
    (subst P all (all_reached way g b n sound allowed (omega arith))).stop draft_is whole_is decision_is
