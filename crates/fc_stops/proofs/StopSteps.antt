-- What is reached by one more stop.
use Rattle.std.proofs.Common.{◌≡◌, ◌∙◌, sym, ap, subst, ℕ, Bool, true, false, cond, ◌&&◌, ◌||◌, ◌==◌, nat_lt, List, [], ◌∷◌, ◌++◌, fold, Some, Result, Contains, inl, inr, ◌⊎◌, refl, arith}
use Rattle.std.specs.List.{list_any}
use Rattle.std.proofs.lemmas.Bool.{eqb-true, eq-eqb, or_left, or_right}
use Rattle.std.proofs.lemmas.List.Folds.{list_any-append}
use Rattle.fc_base.specs.Sheet.{Slot, Sheet, slot_at, mapping_place}
use Rattle.fc_base.specs.SheetStep.{at_place, retired_at, detached_at}
use Rattle.fc_base.specs.SheetView.{needed_of}
use Rattle.fc_base.specs.States.{next_state}
use Rattle.fc_base.specs.declared.command.StopWay.{StopWay}
use Rattle.fc_base.specs.declared.command.StopWay.TheVariants.{Plain, Force as ByForce, Split as SplitOff}
use Rattle.fc_base.specs.declared.decision.LaneEvent.{LaneEvent}
use Rattle.fc_base.specs.declared.decision.LaneEvent.TheVariants.{Make, Remove, Trigger, Retire, Detach, Split, Force, Drop, Forget, NoteCut, Access, Work, Arm}
use Rattle.fc_base.specs.declared.fault.Refusal.{Refusal}
use Rattle.fc_base.specs.declared.ids.MapId.{MapId}
use Rattle.fc_base.specs.declared.state.MapState.{MapState}
use Rattle.fc_base.specs.declared.state.MapState.TheVariants.{Empty, IdleOrCopied, Preparing, Prepared, Copying, Stopping, Stopped}
use Rattle.fc_base.specs.declared.volume.Change.{Change}
use Rattle.fc_base.specs.declared.volume.Mapping.{Mapping}
use Rattle.fc_books.specs.Accesses.{is_idle, is_prepared, is_copying, is_stopping}
use Rattle.fc_books.specs.After.{sheet_after}
use Rattle.fc_books.specs.Books.{Books, Deed, nothing, told, ◌then◌, all_deeds}
use Rattle.fc_books.specs.Copies.{is_whole}
use Rattle.fc_books.specs.Ending.{ends_in, ends_by, goes_from, comes_to, as_left, cut_of, leaves_by}
use Rattle.fc_books.specs.Groups.{acts_on}
use Rattle.fc_books.specs.Sound.{AreSound, HasSlot, SlotByState}
use Rattle.fc_books.specs.Stopping.{stop_event, stops_with}
use Rattle.fc_sheets.proofs.Finding.{mapping_place_at, mapping_place_is, mapping_place_none}
use Rattle.fc_stops.proofs.StopAsked.{same_tests}
use Rattle.fc_stops.proofs.StopEnds.{AreKnown, Ends, can_stop, copying_ends, not_copying, stopping_ends, stop_is, stop_then, IsPart, part_then, part_nothing, cut_part, ends_in_part, those_part, those_changes}
use Rattle.fc_stops.proofs.StopLeft.{Grows, is_it, among_ids, PlainLeft, plain_none, plain_retired, plain_detached, ForceLeft, force_none, force_forced}
use Rattle.fc_stops.proofs.StopMember.{LeftBy, AreDone, sheet_by, Reached, left_answer, left_known, left_needed}
use Rattle.fc_stops.proofs.StopOrder.{no_sets}
use Rattle.fc_stops.proofs.StopReach.{not_both}
use Rattle.fc_stops.proofs.StopSlots.{Has, Any, Live}
use Rattle.fc_stops.specs.Stops.{is_among, those, stop_asked, changes_in, changes_some, leaves_in, leaves_some, IsStopEvent, AreStopEvents}
use Rattle.fc_stops.specs.StopGroups.{IsLeftAnswer}

-- ---- which mappings a stop changes

some_then : (d e : Deed) (n : ℕ) → changes_some n (d then e).changes ≡ (changes_some n d.changes || changes_some n e.changes)
some_then d e n = list_any-append (changes_in n) d.changes e.changes

or_false : (b : Bool) → (b || false) ≡ b
or_false true = refl
or_false false = refl

by_end : (state : MapState) (m : Mapping) (n : ℕ) (b : Bool) → changes_some n (cond b (goes_from state m) (comes_to state m)).changes ≡ (m.id.0 == n)
by_end state m n true = or_false (m.id.0 == n)
by_end state m n false = or_false (m.id.0 == n)

some_end : (state : MapState) (m : Mapping) (n : ℕ) → changes_some n (ends_in state m).changes ≡ (m.id.0 == n)
some_end state m n = by_end state m n (m.autodelete && is_idle state)

by_cut : (b : Books) (m : Mapping) (whole : Bool) → is_whole b m ≡ whole → (cut_of b m).changes ≡ []
by_cut b m true is = rw is refl
by_cut b m false is = rw is refl

some_left : (b : Books) (m : Mapping) (state : MapState) (n : ℕ) → changes_some n (cut_of b m then ends_in state (as_left b m)).changes ≡ (m.id.0 == n)
some_left b m state n =
    some_then (cut_of b m) (ends_in state (as_left b m)) n
    ∙ ap (λ cs. changes_some n cs || changes_some n (ends_in state (as_left b m)).changes) (by_cut b m (is_whole b m) refl)
    ∙ some_end state (as_left b m) n

only_first : (b : Books) (ids : List MapId) (y : Mapping) (rest : List Mapping) (n : ℕ) (among : Bool) → is_among ids y ≡ among → (changes_some n (all_deeds (stops_with b) rest).changes ≡ true → list_any (λ (id : MapId). id.0 == n) ids ≡ true) → changes_some n (all_deeds (stops_with b) (cond among (y ∷ rest) rest)).changes ≡ true → list_any (λ (id : MapId). id.0 == n) ids ≡ true
only_first b ids y rest n false is later e = later e
only_first b ids y rest n true is later e =
    by_name (y.id.0 == n) refl (sym (some_then (stops_with b y) (all_deeds (stops_with b) rest) n ∙ ap (λ c. c || changes_some n (all_deeds (stops_with b) rest).changes) (some_left b y Stopped n)) ∙ e)
  where
    by_name : (c : Bool) → (y.id.0 == n) ≡ c → (c || changes_some n (all_deeds (stops_with b) rest).changes) ≡ true → list_any (λ (id : MapId). id.0 == n) ids ≡ true
    by_name true here f = ap (λ k. list_any (λ (id : MapId). id.0 == k) ids) (sym (eqb-true y.id.0 n here)) ∙ is
    by_name false here f = later f

only_those : (b : Books) (ids : List MapId) (maps : List Mapping) (n : ℕ) → changes_some n (all_deeds (stops_with b) (those ids maps)).changes ≡ true → list_any (λ (id : MapId). id.0 == n) ids ≡ true
only_those b ids [] n e = grind (arith, e)
only_those b ids (y ∷ ys) n e = only_first b ids y (those ids ys) n (is_among ids y) refl (only_those b ids ys n) e

some_those : (b : Books) (ids : List MapId) (n : ℕ) → AreKnown ids b.tables.mappings → changes_some n (all_deeds (stops_with b) (those ids b.tables.mappings)).changes ≡ list_any (λ (id : MapId). id.0 == n) ids
some_those b ids n known =
    same_tests (changes_some n (all_deeds (stops_with b) (those ids b.tables.mappings)).changes) (list_any (λ (id : MapId). id.0 == n) ids)
    (only_those b ids b.tables.mappings n) (λ there. those_changes b ids b.tables.mappings n there (known n there))

both_quiet : (a b : Bool) → (a || b) ≡ false → (a ≡ false) × (b ≡ false)
both_quiet true b e = grind (arith, e)
both_quiet false b e = (refl, e)

grows_by : (xs ys : List Change) (left : ℕ → Bool) → ((n : ℕ) → changes_some n ys ≡ left n) → Grows (λ n. changes_some n xs) left (λ n. changes_some n (xs ++ ys))
grows_by xs ys left is =
    record {
      before = λ n e. (both_quiet (changes_some n xs) (changes_some n ys) (sym (list_any-append (changes_in n) xs ys) ∙ e)).0;
      now = λ n e. sym (is n) ∙ (both_quiet (changes_some n xs) (changes_some n ys) (sym (list_any-append (changes_in n) xs ys) ∙ e)).1;
      either = λ n e. elim (one_true (changes_some n xs) (changes_some n ys) (sym (list_any-append (changes_in n) xs ys) ∙ e)) [ inl a ↦ inl a | inr b ↦ inr (sym (is n) ∙ b) ];
      old = λ n e. list_any-append (changes_in n) xs ys ∙ or_left (changes_some n xs) (changes_some n ys) e;
      new = λ n e. list_any-append (changes_in n) xs ys ∙ or_right (changes_some n xs) (changes_some n ys) (is n ∙ e);
    }
  where
    one_true : (a b : Bool) → (a || b) ≡ true → (a ≡ true) ⊎ (b ≡ true)
    one_true true b e = inl refl
    one_true false b e = inr e

-- ---- a part by which no slot leaves

event_still : (s : Sheet) (e : LaneEvent) → IsStopEvent e → ((n : ℕ) → leaves_in n e ≡ false) → sheet_after no_sets s e ≡ s
event_still s (Make volume grains kind) is quiet = absurd is
event_still s (Remove volume) is quiet = absurd is
event_still s (Trigger pairs) is quiet = absurd is
event_still s (Drop slot) is quiet = absurd is
event_still s (Work x copies cleans) is quiet = absurd is
event_still s (Arm volume grain calls) is quiet = absurd is
event_still s (Retire x) is quiet = grind (arith, quiet x.0, eq-eqb x.0 x.0 refl)
event_still s (Detach x) is quiet = grind (arith, quiet x.0, eq-eqb x.0 x.0 refl)
event_still s (Split x) is quiet = grind (arith, quiet x.0, eq-eqb x.0 x.0 refl)
event_still s (Force x ds) is quiet = grind (arith, quiet x.0, or_left (x.0 == x.0) (list_any (λ (id : MapId). id.0 == x.0) ds) (eq-eqb x.0 x.0 refl))
event_still s (Forget x) is quiet = refl
event_still s (NoteCut x source target) is quiet = refl
event_still s (Access volume access) is quiet = refl

events_still : (s : Sheet) (es : List LaneEvent) → AreStopEvents es → ((n : ℕ) → leaves_some n es ≡ false) → fold (sheet_after no_sets) s es ≡ s
events_still s [] are quiet = refl
events_still s (e ∷ es) are quiet =
    ap (λ t. fold (sheet_after no_sets) t es) (event_still s e are.0 (λ n. (both_quiet (leaves_in n e) (leaves_some n es) (quiet n)).0))
    ∙ events_still s es are.1 (λ n. (both_quiet (leaves_in n e) (leaves_some n es) (quiet n)).1)

fold_then : {A B : Type 0} (f : B → A → B) (b : B) (xs ys : List A) → fold f b (xs ++ ys) ≡ fold f (fold f b xs) ys
fold_then f b [] ys = refl
fold_then f b (x ∷ xs) ys = fold_then f (f b x) xs ys

-- the chains after a part, and after an event and a part
part_sheet : (b : Books) (d x : Deed) → IsPart x → sheet_by b d ≡ sheet_by b (d then x)
part_sheet b d x part =
    sym (fold_then (sheet_after no_sets) b.sheet d.events x.events ∙ events_still (sheet_by b d) x.events part.is_stop.events part.quiet)

event_sheet : (b : Books) (d x : Deed) (e : LaneEvent) → IsPart x → sheet_after no_sets (sheet_by b d) e ≡ sheet_by b (d then (told (e ∷ []) then x))
event_sheet b d x e part =
    sym (fold_then (sheet_after no_sets) b.sheet d.events (e ∷ x.events) ∙ events_still (sheet_after no_sets (sheet_by b d) e) x.events part.is_stop.events part.quiet)

-- ---- the slot of a mapping, by its state

by_state : (state : MapState) (b : Books) (m : Mapping) → AreSound b → Contains b.tables.mappings m → m.state ≡ state → SlotByState state b.sheet.slots m
by_state state b m sound in' is = let P : MapState → Type 0 = λ st. SlotByState st b.sheet.slots m in subst P is (sound.agree.by_state m in')

place_has : (P : Slot → Type 0) (b : Books) (m : Mapping) (is_live : Bool) (slot : HasSlot b.sheet.slots m is_live) → P (slot_at b.sheet.slots slot.place) → Has P b.sheet.slots m.id.0
place_has P b m is_live slot is = let at = mapping_place_at b.sheet.slots m.id.0 slot.place slot.is_there in record { place = slot.place; there = at.0; named = at.1; is = is }

copying_has : (b : Books) (m : Mapping) → AreSound b → Contains b.tables.mappings m → m.state ≡ Copying → Has Live b.sheet.slots m.id.0
copying_has b m sound in' is = let slot = by_state Copying b m sound in' is in place_has Live b m true slot slot.liveness

stopping_has : (b : Books) (m : Mapping) → AreSound b → Contains b.tables.mappings m → m.state ≡ Stopping → Has Any b.sheet.slots m.id.0
stopping_has b m sound in' is = place_has Any b m false (by_state Stopping b m sound in' is) tt

prepared_none : (b : Books) (m : Mapping) → AreSound b → Contains b.tables.mappings m → m.state ≡ Prepared → Has Any b.sheet.slots m.id.0 → ⊥
prepared_none b m sound in' is x = mapping_place_none b.sheet.slots m.id.0 (by_state Prepared b m sound in' is) x.place x.there x.named

-- ---- a state that a stop leads to isn't stopped again

done_then : (way : StopWay) (xs ys : List Change) → AreDone way xs → AreDone way ys → AreDone way (xs ++ ys)
done_then way [] ys p q = q
done_then way (x ∷ xs) ys p q = (p.0, done_then way xs ys p.1 q)

done_by : (way : StopWay) (state : MapState) (m : Mapping) (b : Bool) → acts_on way state ≡ false → AreDone way (cond b (goes_from state m) (comes_to state m)).changes
done_by way state m true e = (tt, tt)
done_by way state m false e = (e, tt)

end_done : (way : StopWay) (state : MapState) (m : Mapping) → acts_on way state ≡ false → AreDone way (ends_in state m).changes
end_done way state m e = done_by way state m (m.autodelete && is_idle state) e

left_done : (way : StopWay) (b : Books) (m : Mapping) (state : MapState) → acts_on way state ≡ false → AreDone way (cut_of b m then ends_in state (as_left b m)).changes
left_done way b m state e =
    let P : List Change → Type 0 = λ cs. AreDone way cs in
    done_then way (cut_of b m).changes (ends_in state (as_left b m)).changes (subst P (sym (by_cut b m (is_whole b m) refl)) tt) (end_done way state (as_left b m) e)

all_done : (b : Books) (maps : List Mapping) → AreDone ByForce (all_deeds (stops_with b) maps).changes
all_done b [] = tt
all_done b (y ∷ ys) = done_then ByForce (stops_with b y).changes (all_deeds (stops_with b) ys).changes (left_done ByForce b y Stopped refl) (all_done b ys)

-- ---- one more stop

-- the slot of a copying mapping leaves its place by an event
plain_by : (f : ℕ → Sheet → Sheet) (e : LaneEvent) (b : Books) (d : Deed) (m : Mapping) (end : Deed) → sheet_after no_sets (sheet_by b d) e ≡ at_place f (mapping_place (sheet_by b d).slots m.id.0) (sheet_by b d) →
    AreSound b → Reached Plain b d → Contains b.tables.mappings m → m.state ≡ Copying → changes_some m.id.0 d.changes ≡ false → IsPart end → ((n : ℕ) → changes_some n end.changes ≡ (m.id.0 == n)) →
    ((k : ℕ) (more : ℕ → Bool) → mapping_place (sheet_by b d).slots m.id.0 ≡ Some k → (slot_at (sheet_by b d).slots k).is_live ≡ true → Grows (λ n. changes_some n d.changes) (is_it m.id.0) more → PlainLeft b.sheet (f k (sheet_by b d)) more) →
    PlainLeft b.sheet (sheet_by b (d then (told (e ∷ []) then end))) (λ n. changes_some n (d.changes ++ end.changes))
unfolding is_it
plain_by f e b d m end moves sound reached in' is same part some leaves =
    let left : PlainLeft b.sheet (sheet_by b d) (λ n. changes_some n d.changes) = reached.left in
    let h = left.stays.live m.id.0 same (copying_has b m sound in' is) in
    let at : mapping_place (sheet_by b d).slots m.id.0 ≡ Some h.place = mapping_place_is (sheet_by b d).slots m.id.0 h.place left.sound.mappings h.there h.named in
    let out : ℕ → Bool = λ n. changes_some n (d.changes ++ end.changes) in
    let P : Sheet → Type 0 = λ t. PlainLeft b.sheet t out in
    subst P (ap (λ o. at_place f o (sheet_by b d)) (sym at) ∙ sym moves ∙ event_sheet b d end e part) (leaves h.place out at h.is (grows_by d.changes end.changes (is_it m.id.0) some))

plain_copying : (needed : Bool) (b : Books) (d : Deed) (m : Mapping) (end : Deed) → AreSound b → Reached Plain b d → Contains b.tables.mappings m → m.state ≡ Copying → changes_some m.id.0 d.changes ≡ false → nat_lt 0 (needed_of (sheet_by b d).slots m.id.0) ≡ needed → IsPart end → ((n : ℕ) → changes_some n end.changes ≡ (m.id.0 == n)) →
    LeftBy Plain b.sheet (sheet_by b (d then (told (cond needed (Retire m.id) (Detach m.id) ∷ []) then end))) (λ n. changes_some n (d.changes ++ end.changes))
plain_copying true b d m end sound reached in' is same need part some =
    plain_by retired_at (Retire m.id) b d m end refl sound reached in' is same part some
    (λ k more at live grows. plain_retired b.sheet (sheet_by b d) (λ n. changes_some n d.changes) more m.id.0 k reached.left at live grows)
plain_copying false b d m end sound reached in' is same need part some =
    plain_by detached_at (Detach m.id) b d m end refl sound reached in' is same part some
    (λ k more at live grows. plain_detached b.sheet (sheet_by b d) (λ n. changes_some n d.changes) more m.id.0 k reached.left at live need grows)

force_left : (b : Books) (d : Deed) (m : Mapping) (ids : List MapId) (end : Deed) → AreSound b → Reached ByForce b d → changes_some m.id.0 d.changes ≡ false → IsLeftAnswer ByForce b.sheet.slots d.changes m.id.0 true ids → Has Any b.sheet.slots m.id.0 → IsPart end → ((n : ℕ) → changes_some n end.changes ≡ (m.id.0 == n)) →
    LeftBy ByForce b.sheet (sheet_by b (d then (told (Force m.id ids ∷ []) then (end then all_deeds (stops_with b) (those ids b.tables.mappings))))) (λ n. changes_some n (d.changes ++ (end then all_deeds (stops_with b) (those ids b.tables.mappings)).changes))
unfolding among_ids
force_left b d m ids end sound reached same answer has part some =
    let left : ForceLeft b.sheet (sheet_by b d) (λ n. changes_some n d.changes) = reached.left in
    let h = left.stays.has m.id.0 same has in
    let at : mapping_place (sheet_by b d).slots m.id.0 ≡ Some h.place = mapping_place_is (sheet_by b d).slots m.id.0 h.place left.sound.mappings h.there h.named in
    let with : Deed = all_deeds (stops_with b) (those ids b.tables.mappings) in
    let rest : Deed = end then with in
    let out : ℕ → Bool = λ n. changes_some n (d.changes ++ rest.changes) in
    let P : Sheet → Type 0 = λ t. ForceLeft b.sheet t out in
    let known = left_known b d.changes m ids sound answer in
    subst P (event_sheet b d rest (Force m.id ids) (part_then end with part (those_part ByForce ids b)))
    (force_forced b.sheet (sheet_by b d) (λ n. changes_some n d.changes) out m.id ids h.place left (left_answer b d m ids sound reached same answer) at
    (grows_by d.changes rest.changes (among_ids (m.id ∷ ids)) (λ n.
    some_then end with n
    ∙ ap (λ c. c || changes_some n with.changes) (some n)
    ∙ ap (λ c. (m.id.0 == n) || c) (some_those b ids n known))))

any_live : (b : Books) (m : Mapping) → Has Live b.sheet.slots m.id.0 → Has Any b.sheet.slots m.id.0
any_live b m h = record { place = h.place; there = h.there; named = h.named; is = tt }

-- the end of a mapping, as a part
record EndPart (way : StopWay) (m : Mapping) (end : Deed) : Type 0 where
  part : IsPart end
  done : AreDone way end.changes
  some : (n : ℕ) → changes_some n end.changes ≡ (m.id.0 == n)

left_end : (way : StopWay) (b : Books) (m : Mapping) (next : Result MapState Refusal) → Ends way next → EndPart way m (leaves_by next b m)
left_end way b m next ends =
    let P : Result MapState Refusal → Type 0 = λ x. EndPart way m (leaves_by x b m) in
    subst P (sym ends.1)
    (record {
      part = part_then (cut_of b m) (ends_in ends.0 (as_left b m)) (cut_part b m (is_whole b m) refl) (ends_in_part ends.0 (as_left b m) (not_copying way ends.0 ends.2));
      done = left_done way b m ends.0 ends.2;
      some = some_left b m ends.0;
    })

idle_end : (way : StopWay) (m : Mapping) (next : Result MapState Refusal) → Ends way next → EndPart way m (ends_by next m)
idle_end way m next ends =
    let P : Result MapState Refusal → Type 0 = λ x. EndPart way m (ends_by x m) in
    subst P (sym ends.1)
    (record { part = ends_in_part ends.0 m (not_copying way ends.0 ends.2); done = end_done way ends.0 m ends.2; some = some_end ends.0 m })

-- a deed with nothing behind
behind_nothing : (way : StopWay) (m : Mapping) (end : Deed) → EndPart way m end → EndPart way m (end then nothing)
behind_nothing way m end p =
    record {
      part = part_then end nothing p.part part_nothing;
      done = done_then way end.changes [] p.done tt;
      some = λ n. some_then end nothing n ∙ or_false (changes_some n end.changes) ∙ p.some n;
    }

none_known : (b : Books) (ids : List MapId) → ids ≡ [] → AreKnown ids b.tables.mappings
none_known b [] none n there = grind (arith, there)
none_known b (x ∷ xs) none n there = grind (arith, none)

answer_known : (way : StopWay) (b : Books) (cs : List Change) (m : Mapping) (needed : Bool) (ids : List MapId) → AreSound b → IsLeftAnswer way b.sheet.slots cs m.id.0 needed ids → AreKnown ids b.tables.mappings
answer_known Plain b cs m needed ids sound answer = none_known b ids answer.1
answer_known ByForce b cs m needed ids sound answer = left_known b cs m ids sound answer
answer_known SplitOff b cs m needed ids sound answer = none_known b ids answer

-- a prepared mapping, which has no slot
prepared_left : (Left : Sheet → (ℕ → Bool) → Type 0) (b : Books) (d : Deed) (m : Mapping) → AreSound b → Contains b.tables.mappings m → m.state ≡ Prepared →
    ((more : ℕ → Bool) → (Has Any b.sheet.slots m.id.0 → ⊥) → Grows (λ n. changes_some n d.changes) (is_it m.id.0) more → Left (sheet_by b d) more) →
    Left (sheet_by b (d then ends_in Stopped m)) (λ n. changes_some n (d.changes ++ (ends_in Stopped m).changes))
unfolding is_it
prepared_left Left b d m sound in' is left =
    let end : Deed = ends_in Stopped m in
    let out : ℕ → Bool = λ n. changes_some n (d.changes ++ end.changes) in
    let P : Sheet → Type 0 = λ t. Left t out in
    subst P (part_sheet b d end (ends_in_part Stopped m refl)) (left out (prepared_none b m sound in' is) (grows_by d.changes end.changes (is_it m.id.0) (some_end Stopped m)))

prepared_next : (way : StopWay) (b : Books) (d : Deed) (m : Mapping) → Reached way b d → acts_on way Stopped ≡ false →
    LeftBy way b.sheet (sheet_by b (d then ends_in Stopped m)) (λ n. changes_some n (d.changes ++ (ends_in Stopped m).changes)) → Reached way b (d then ends_in Stopped m)
prepared_next way b d m reached e left =
    let end : Deed = ends_in Stopped m in
    record {
      stop = stop_then d end reached.stop (ends_in_part Stopped m refl).is_stop;
      done = done_then way d.changes end.changes reached.done (end_done way Stopped m e);
      left = left;
    }

-- a state in which a mapping isn't stopped, not even by force
acts_not : (way : StopWay) (state : MapState) → acts_on ByForce state ≡ false → acts_on way state ≡ true → ⊥
acts_not way state none acts = not_both (acts_on way state) acts (by_way way)
  where
    by_way : (w : StopWay) → acts_on w state ≡ false
    by_way Plain =
        let apart = both_quiet (is_prepared state) (is_copying state || is_stopping state) none in
        ap (λ c. c || is_copying state) apart.0 ∙ (both_quiet (is_copying state) (is_stopping state) apart.1).0
    by_way ByForce = none
    by_way SplitOff = (both_quiet (is_copying state) (is_stopping state) (both_quiet (is_prepared state) (is_copying state || is_stopping state) none).1).0

-- What is reached by one more stop.
pub reached_next : (state : MapState) (way : StopWay) (b : Books) (d : Deed) (m : Mapping) (needed : Bool) (ids : List MapId) → AreSound b → Reached way b d → Contains b.tables.mappings m → m.state ≡ state → changes_some m.id.0 d.changes ≡ false → acts_on way state ≡ true → can_stop state way (is_whole b m) ≡ true → IsLeftAnswer way b.sheet.slots d.changes m.id.0 needed ids → Reached way b (d then stop_asked state way needed ids b m)
reached_next Copying Plain b d m needed ids sound reached in' is same acts can answer =
    let e = behind_nothing Plain m (leaves_by (next_state Copying (stop_event Plain) (is_whole b m) needed) b m) (left_end Plain b m (next_state Copying (stop_event Plain) (is_whole b m) needed) (copying_ends Plain (is_whole b m) needed can)) in
    record {
      stop = stop_then d (stop_asked Copying Plain needed ids b m) reached.stop (stop_is Copying Plain needed ids b m (answer_known Plain b d.changes m needed ids sound answer) can);
      done = done_then Plain d.changes (stop_asked Copying Plain needed ids b m).changes reached.done e.done;
      left = plain_copying needed b d m (leaves_by (next_state Copying (stop_event Plain) (is_whole b m) needed) b m then nothing) sound reached in' is same
          (left_needed b d m needed ids sound reached same answer) e.part e.some;
    }
reached_next Copying SplitOff b d m needed ids sound reached in' is same acts can answer =
    let e = behind_nothing SplitOff m (leaves_by (next_state Copying (stop_event SplitOff) (is_whole b m) needed) b m) (left_end SplitOff b m (next_state Copying (stop_event SplitOff) (is_whole b m) needed) (copying_ends SplitOff (is_whole b m) needed can)) in
    record {
      stop = stop_then d (stop_asked Copying SplitOff needed ids b m) reached.stop (stop_is Copying SplitOff needed ids b m (answer_known SplitOff b d.changes m needed ids sound answer) can);
      done = done_then SplitOff d.changes (stop_asked Copying SplitOff needed ids b m).changes reached.done e.done;
      left = tt;
    }
reached_next Copying ByForce b d m needed ids sound reached in' is same acts can answer =
    let end : Deed = leaves_by (next_state Copying (stop_event ByForce) (is_whole b m) needed) b m in
    let e = left_end ByForce b m (next_state Copying (stop_event ByForce) (is_whole b m) needed) (copying_ends ByForce (is_whole b m) needed can) in
    record {
      stop = stop_then d (stop_asked Copying ByForce needed ids b m) reached.stop (stop_is Copying ByForce needed ids b m (answer_known ByForce b d.changes m needed ids sound answer) can);
      done = done_then ByForce d.changes (stop_asked Copying ByForce needed ids b m).changes reached.done (done_then ByForce end.changes (all_deeds (stops_with b) (those ids b.tables.mappings)).changes e.done (all_done b (those ids b.tables.mappings)));
      left = force_left b d m ids end sound reached same answer (any_live b m (copying_has b m sound in' is)) e.part e.some;
    }
reached_next Stopping ByForce b d m needed ids sound reached in' is same acts can answer =
    let end : Deed = ends_by (next_state Stopping (stop_event ByForce) m.complete needed) m in
    let e = idle_end ByForce m (next_state Stopping (stop_event ByForce) m.complete needed) (stopping_ends ByForce (is_whole b m) m.complete needed can) in
    record {
      stop = stop_then d (stop_asked Stopping ByForce needed ids b m) reached.stop (stop_is Stopping ByForce needed ids b m (answer_known ByForce b d.changes m needed ids sound answer) can);
      done = done_then ByForce d.changes (stop_asked Stopping ByForce needed ids b m).changes reached.done (done_then ByForce end.changes (all_deeds (stops_with b) (those ids b.tables.mappings)).changes e.done (all_done b (those ids b.tables.mappings)));
      left = force_left b d m ids end sound reached same answer (stopping_has b m sound in' is) e.part e.some;
    }
reached_next Prepared Plain b d m needed ids sound reached in' is same acts can answer =
    prepared_next Plain b d m reached refl
    (prepared_left (PlainLeft b.sheet) b d m sound in' is (λ more. plain_none b.sheet (sheet_by b d) (λ n. changes_some n d.changes) more m.id.0 reached.left))
reached_next Prepared ByForce b d m needed ids sound reached in' is same acts can answer =
    prepared_next ByForce b d m reached refl
    (prepared_left (ForceLeft b.sheet) b d m sound in' is (λ more. force_none b.sheet (sheet_by b d) (λ n. changes_some n d.changes) more m.id.0 reached.left))
reached_next Prepared SplitOff b d m needed ids sound reached in' is same acts can answer = grind (arith, acts)
reached_next Stopping Plain b d m needed ids sound reached in' is same acts can answer = grind (arith, acts)
reached_next Stopping SplitOff b d m needed ids sound reached in' is same acts can answer = grind (arith, acts)
reached_next Empty way b d m needed ids sound reached in' is same acts can answer = absurd (acts_not way Empty refl acts)
reached_next IdleOrCopied way b d m needed ids sound reached in' is same acts can answer = absurd (acts_not way IdleOrCopied refl acts)
reached_next Preparing way b d m needed ids sound reached in' is same acts can answer = absurd (acts_not way Preparing refl acts)
reached_next Stopped way b d m needed ids sound reached in' is same acts can answer = absurd (acts_not way Stopped refl acts)
