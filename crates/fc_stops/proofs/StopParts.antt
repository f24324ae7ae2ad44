-- A stop put together, and what is decided of it.
use Rattle.std.proofs.Common.{◌≡◌, ◌∙◌, sym, ap, subst, ℕ, ◌+◌, ◌<◌, ◌≤◌, Bool, true, false, cond, not, ◌==◌, List, [], ◌∷◌, ◌++◌, map, take, length, get_or, Option, Some, None, Result, Ok, Err, OnOk, refl, arith}
use Rattle.std.specs.List.{list_any, flat_map}
use Rattle.std.specs.Option.{option_and_then}
use Rattle.std.proofs.lemmas.List.{take_more, take_all}
use Rattle.fc_base.specs.SheetView.{AreMappings, DependsOn}
use Rattle.fc_base.specs.States.{next_state}
use Rattle.fc_base.specs.declared.command.StopWay.{StopWay}
use Rattle.fc_base.specs.declared.command.StopWay.TheVariants.{Plain, Force as ByForce, Split as SplitOff}
use Rattle.fc_base.specs.declared.decision.Decision.{Decision}
use Rattle.fc_base.specs.declared.decision.LaneEvent.{LaneEvent}
use Rattle.fc_base.specs.declared.decision.LaneEvent.TheVariants.{Force}
use Rattle.fc_base.specs.declared.fault.Refusal.{Refusal}
use Rattle.fc_base.specs.declared.fault.Refusal.TheVariants.{NotComplete}
use Rattle.fc_base.specs.declared.ids.MapId.{MapId}
use Rattle.fc_base.specs.declared.request.Reply.{Reply}
use Rattle.fc_base.specs.declared.state.MapEvent.TheVariants.{StopForce}
use Rattle.fc_base.specs.declared.state.MapState.{MapState}
use Rattle.fc_base.specs.declared.state.MapState.TheVariants.{Empty, IdleOrCopied, Preparing, Prepared, Copying, Stopping, Stopped}
use Rattle.fc_base.specs.declared.volume.Change.{Change}
use Rattle.fc_base.specs.declared.volume.Mapping.{Mapping}
use Rattle.fc_books.specs.Books.{Books, Deed, nothing, told, ◌then◌, all_deeds}
use Rattle.fc_books.specs.Copies.{held, total, is_whole, is_needed, dependents}
use Rattle.fc_books.specs.Deciding.{with_work}
use Rattle.fc_books.specs.Ending.{ends_by, as_left, cut_of, leaves_by}
use Rattle.fc_books.specs.Refused.{refused_by}
use Rattle.fc_books.specs.RefusedStarts.{in_group, by_state, not_complete}
use Rattle.fc_books.specs.Sound.{AreSound}
use Rattle.fc_books.specs.Stopping.{stop_event, stops_in, stops, stops_with}
use Rattle.fc_entry.specs.Refused.{first_of, where_}
use Rattle.fc_desk.proofs.Deeds.{then-assoc}
use Rattle.fc_stops.proofs.StopAsked.{those_depend, ids_depend, dependents_known}
use Rattle.fc_stops.proofs.StopEnds.{AreKnown, can_stop, stop_is}
use Rattle.fc_stops.proofs.StopWork.{stopped_work}
use Rattle.fc_desk.specs.Outcome.{ok_of}
use Rattle.fc_stops.specs.Stops.{is_among, those, ends_where, stops_among, stop_asked, set_by, set_next, mapping_after, told_after, IsStop, IsAnswer, refused_stop}

-- ---- loops

then_some : (f : Mapping → Option Mapping) (o : Option Mapping) → ((m : Mapping) → f m ≡ Some m) → option_and_then f o ≡ o
then_some f None same = refl
then_some f (Some m) same = same m

push_by : (ds : List Change) (c : Change) (o : Option Mapping) → ((m : Mapping) → mapping_after (ds ++ c ∷ []) m ≡ set_next c (mapping_after ds m)) → option_and_then (mapping_after (ds ++ c ∷ [])) o ≡ set_next c (option_and_then (mapping_after ds) o)
push_by ds c None rest = refl
push_by ds c (Some m) rest = rest m

after_push : (ds : List Change) (c : Change) (m : Mapping) → mapping_after (ds ++ c ∷ []) m ≡ set_next c (mapping_after ds m)
after_push [] c m = then_some (mapping_after []) (set_by c m) (λ n. refl)
after_push (d ∷ ds) c m = push_by ds c (set_by d m) (after_push ds c)

pub after_next : (cs : List Change) (i : ℕ) (c : Change) (m : Mapping) (now next : Option Mapping) → i < length cs → c ≡ get_or cs i c → now ≡ mapping_after (take i cs) m → next ≡ set_next c now → next ≡ mapping_after (take (i + 1) cs) m
after_next cs i c m now next lt item before step =
    step
    ∙ ap (set_next c) before
    ∙ sym (after_push (take i cs) c m)
    ∙ ap (λ x. mapping_after (take i cs ++ x ∷ []) m) item
    ∙ ap (λ xs. mapping_after xs m) (sym (take_more cs i c lt))

one_among : (f : Mapping → Deed) (m : Mapping) (rest : List Mapping) (b : Bool) → (cond b (f m) nothing then all_deeds f rest) ≡ all_deeds f (cond b (m ∷ rest) rest)
one_among f m rest true = refl
one_among f m rest false = refl

all_among : (ids : List MapId) (b : Books) (maps : List Mapping) → all_deeds (stops_among ids b) maps ≡ all_deeds (stops_with b) (those ids maps)
all_among ids b [] = refl
all_among ids b (m ∷ ms) = ap (λ rest. stops_among ids b m then rest) (all_among ids b ms) ∙ one_among (stops_with b) m (those ids ms) (is_among ids m)

pub those_stopped : (ids : List MapId) (b : Books) (items maps : List Mapping) (i : ℕ) (old draft : Deed) → length items ≤ i → items ≡ maps → draft ≡ (old then all_deeds (stops_among ids b) (take i items)) → draft ≡ (old then all_deeds (stops_with b) (those ids maps))
those_stopped ids b items maps i old draft past same is =
    is
    ∙ ap (λ xs. old then all_deeds (stops_among ids b) xs) (take_all i items past ∙ same)
    ∙ ap (λ d. old then d) (all_among ids b maps)

-- ---- what was asked is what the definitions say

no_id : (ids : List MapId) (n : ℕ) → ids ≡ [] → list_any (λ (id : MapId). id.0 == n) ids ≡ true → ⊥
no_id [] n none there = grind (arith, there)
no_id (x ∷ xs) n none there = grind (arith, none)

known_by : (way : StopWay) (b : Books) (m : Mapping) (ids : List MapId) → AreSound b → IsAnswer way b m ids → AreKnown ids b.tables.mappings
known_by ByForce b m ids sound answer = dependents_known b m.id.0 ids sound answer
known_by Plain b m ids sound answer = λ n there. absurd (no_id ids n answer there)
known_by SplitOff b m ids sound answer = λ n there. absurd (no_id ids n answer there)

copying_forced : (b : Books) (m : Mapping) (needed : Bool) (ids : List MapId) → AreSound b → AreMappings (DependsOn b.sheet.slots m.id.0) ids → needed ≡ is_needed b m → stop_asked Copying ByForce needed ids b m ≡ stops_in Copying ByForce b m
copying_forced b m needed ids sound answer is =
    let F : Bool → List MapId → List Mapping → Deed = λ n xs ds. told (Force m.id xs ∷ []) then (leaves_by (next_state Copying StopForce (is_whole b m) n) b m then all_deeds (stops_with b) ds) in
    ap (λ n. F n ids (those ids b.tables.mappings)) is
    ∙ ap (λ xs. F (is_needed b m) xs (those ids b.tables.mappings)) (sym (ids_depend b m ids sound answer))
    ∙ ap (λ ds. F (is_needed b m) (map (λ (d : Mapping). d.id) (dependents b m)) ds) (those_depend b m ids sound answer)

stopping_forced : (b : Books) (m : Mapping) (needed : Bool) (ids : List MapId) → AreSound b → AreMappings (DependsOn b.sheet.slots m.id.0) ids → needed ≡ is_needed b m → stop_asked Stopping ByForce needed ids b m ≡ stops_in Stopping ByForce b m
stopping_forced b m needed ids sound answer is =
    let F : Bool → List MapId → List Mapping → Deed = λ n xs ds. told (Force m.id xs ∷ []) then (ends_by (next_state Stopping StopForce m.complete n) m then all_deeds (stops_with b) ds) in
    ap (λ n. F n ids (those ids b.tables.mappings)) is
    ∙ ap (λ xs. F (is_needed b m) xs (those ids b.tables.mappings)) (sym (ids_depend b m ids sound answer))
    ∙ ap (λ ds. F (is_needed b m) (map (λ (d : Mapping). d.id) (dependents b m)) ds) (those_depend b m ids sound answer)

pub asked_is : (state : MapState) (way : StopWay) (needed : Bool) (ids : List MapId) (b : Books) (m : Mapping) → AreSound b → IsAnswer way b m ids → can_stop state way (is_whole b m) ≡ true → needed ≡ is_needed b m → stop_asked state way needed ids b m ≡ stops_in state way b m
asked_is Copying ByForce needed ids b m sound answer can is = copying_forced b m needed ids sound answer is
asked_is Copying Plain needed ids b m sound answer can is = ap (λ n. stop_asked Copying Plain n ids b m) is
asked_is Copying SplitOff needed ids b m sound answer can is = ap (λ n. stop_asked Copying SplitOff n ids b m) is
asked_is Stopping ByForce needed ids b m sound answer can is = stopping_forced b m needed ids sound answer is
asked_is Stopping Plain needed ids b m sound answer can is = grind (arith, can)
asked_is Stopping SplitOff needed ids b m sound answer can is = grind (arith, can)
asked_is Empty way needed ids b m sound answer can is = refl
asked_is IdleOrCopied way needed ids b m sound answer can is = refl
asked_is Preparing way needed ids b m sound answer can is = refl
asked_is Prepared way needed ids b m sound answer can is = refl
asked_is Stopped way needed ids b m sound answer can is = refl

-- ---- a stop that isn't refused

pub first_none : (o : Option Refusal) (rest : List (Option Refusal)) → first_of (o ∷ rest) ≡ None → (o ≡ None) × (first_of rest ≡ None)
first_none None rest e = (refl, e)
first_none (Some refusal) rest e = grind (arith, e)

pub alone : (o : Option Refusal) → first_of (o ∷ []) ≡ None → o ≡ None
alone None e = refl
alone (Some refusal) e = grind (arith, e)

whole_by : (whole : Bool) (refusal : Refusal) → where_ (not whole) refusal ≡ None → whole ≡ true
whole_by true refusal e = refl
whole_by false refusal e = grind (arith, e)

-- a stopping mapping is stopped by force alone, and an incomplete copy isn't split
pub can_where : (state : MapState) (way : StopWay) (b : Books) (m : Mapping) → (state ≡ Stopping → way ≡ ByForce) → not_complete way b m ≡ None → can_stop state way (is_whole b m) ≡ true
can_where Copying Plain b m force none = refl
can_where Copying ByForce b m force none = refl
can_where Copying SplitOff b m force none = whole_by (is_whole b m) (NotComplete (held b m) (total b m)) none
can_where Stopping Plain b m force none = let e : Plain ≡ ByForce = force refl in absurd cc
can_where Stopping ByForce b m force none = refl
can_where Stopping SplitOff b m force none = let e : SplitOff ≡ ByForce = force refl in absurd cc
can_where Empty way b m force none = refl
can_where IdleOrCopied way b m force none = refl
can_where Preparing way b m force none = refl
can_where Prepared way b m force none = refl
can_where Stopped way b m force none = refl

by_force : (way : StopWay) → refused_by (next_state Stopping (stop_event way) true false) ≡ None → way ≡ ByForce
by_force Plain e = grind (arith, e)
by_force ByForce e = refl
by_force SplitOff e = grind (arith, e)

can_from : (way : StopWay) (b : Books) (m : Mapping) → refused_stop way b m ≡ None → can_stop m.state way (is_whole b m) ≡ true
can_from way b m e =
    let grouped = first_none (in_group m) (by_state (stop_event way) m ∷ not_complete way b m ∷ []) e in
    let by = first_none (by_state (stop_event way) m) (not_complete way b m ∷ []) grouped.1 in
    let P : MapState → Type 0 = λ state. refused_by (next_state state (stop_event way) true false) ≡ None in
    can_where m.state way b m (λ is. by_force way (subst P is by.0)) (alone (not_complete way b m) by.1)

abbrev with_reply : Reply → Deed → List LaneEvent → Decision
with_reply reply d work = record { reply = reply; effects = d.effects; events = d.events ++ work; changes = d.changes }

-- A draft that is what stops may do is concluded by the flags after it.
pub stops_concluded :
    (restarts : ℕ → List Bool) (b : Books) (deed draft whole : Deed) (reply : Reply) (decision : Decision) →
    IsStop deed → draft ≡ deed →
    whole ≡ record draft { events = draft.events ++ flat_map (told_after b draft.changes) b.tables.mappings } →
    decision ≡ record { reply = reply; effects = whole.effects; events = whole.events; changes = whole.changes } →
    decision ≡ with_work restarts b reply deed
stops_concluded restarts b deed draft whole reply decision stop draft_is whole_is decision_is =
    decision_is
    ∙ ap (λ (d : Deed). record { reply = reply; effects = d.effects; events = d.events; changes = d.changes }) whole_is
    ∙ ap (λ (d : Deed). with_reply reply d (flat_map (told_after b d.changes) b.tables.mappings)) draft_is
    ∙ ap (with_reply reply deed) (sym (stopped_work restarts b deed stop))

pub stop_decided :
    (restarts : ℕ → List Bool) (b : Books) (m : Mapping) (way : StopWay) (needed : Bool) (ids : List MapId) (draft whole : Deed) (reply : Reply) (decision : Decision) →
    AreSound b → refused_stop way b m ≡ None → IsAnswer way b m ids → needed ≡ is_needed b m →
    draft ≡ (nothing then stop_asked m.state way needed ids b m) →
    whole ≡ record draft { events = draft.events ++ flat_map (told_after b draft.changes) b.tables.mappings } →
    decision ≡ record { reply = reply; effects = whole.effects; events = whole.events; changes = whole.changes } →
    decision ≡ with_work restarts b reply (stops way b m)
unfolding stops
stop_decided restarts b m way needed ids draft whole reply decision sound none answer is draft_is whole_is decision_is =
    let can = can_from way b m none in
    stops_concluded restarts b (stop_asked m.state way needed ids b m) draft whole reply decision
    (stop_is m.state way needed ids b m (known_by way b m ids sound answer) can) draft_is whole_is decision_is
    ∙ ap (with_work restarts b reply) (asked_is m.state way needed ids b m sound answer can is)

-- ---- a mapping leaves copying

ends_ok : (next : Result MapState Refusal) (m : Mapping) → ends_where (ok_of next) m ≡ ends_by next m
ends_ok (Ok state) m = refl
ends_ok (Err refusal) m = refl

pub leave_put :
    (next : Result MapState Refusal) (b : Books) (m left : Mapping) (state : Option MapState) (old cut new : Deed) →
    cut ≡ (old then cut_of b m) → left ≡ as_left b m → state ≡ ok_of next → new ≡ (cut then ends_where state left) →
    new ≡ (old then leaves_by next b m)
leave_put next b m left state old cut new cut_is left_is state_is new_is =
    new_is
    ∙ ap (λ d. d then ends_where state left) cut_is
    ∙ ap (λ x. (old then cut_of b m) then ends_where state x) left_is
    ∙ ap (λ o. (old then cut_of b m) then ends_where o (as_left b m)) state_is
    ∙ ap (λ d. (old then cut_of b m) then d) (ends_ok next (as_left b m))
    ∙ then-assoc old (cut_of b m) (ends_by next (as_left b m))

pub on_ok_by : {X E : Type 0} {P Q : Type 0} (r : Result X E) → (P → Q) → OnOk r P → OnOk r Q
on_ok_by (Ok x) f p = f p
on_ok_by (Err e) f p = p
