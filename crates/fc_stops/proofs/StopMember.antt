-- One more stop, on the books that the stops so far left, by what the chains before them tell.
use Rattle.std.proofs.Common.{◌≡◌, ◌∙◌, sym, ap, subst, ℕ, Bool, true, false, cond, ◌==◌, nat_lt, List, [], ◌∷◌, map, fold, Result, inl, inr, refl, arith}
use Rattle.std.specs.List.{list_any}
use Rattle.fc_base.specs.Sheet.{Sheet}
use Rattle.fc_base.specs.SheetFacts.{HasSizes}
use Rattle.fc_base.specs.SheetView.{held_of, count_true, needed_of, AreMappings, DependsOn}
use Rattle.fc_base.specs.States.{next_state}
use Rattle.fc_base.specs.declared.command.StopWay.{StopWay}
use Rattle.fc_base.specs.declared.command.StopWay.TheVariants.{Plain, Force as ByForce, Split as SplitOff}
use Rattle.fc_base.specs.declared.decision.LaneEvent.TheVariants.{Retire, Detach, Split, Force, NoteCut}
use Rattle.fc_base.specs.declared.fault.Refusal.{Refusal}
use Rattle.fc_base.specs.declared.ids.MapId.{MapId}
use Rattle.fc_base.specs.declared.request.Effect.TheVariants.{Cut}
use Rattle.fc_base.specs.declared.state.MapEvent.TheVariants.{Stop, StopForce, StopSplit}
use Rattle.fc_base.specs.declared.state.MapState.{MapState}
use Rattle.fc_base.specs.declared.state.MapState.TheVariants.{Empty, IdleOrCopied, Preparing, Prepared, Copying, Stopping, Stopped}
use Rattle.fc_base.specs.declared.volume.Change.{Change}
use Rattle.fc_base.specs.declared.volume.Change.TheVariants.{SetMapping}
use Rattle.fc_base.specs.declared.volume.Mapping.{Mapping}
use Rattle.fc_books.specs.After.{sheet_after, after_deed}
use Rattle.fc_books.specs.Books.{Books, Deed, nothing, told, ◌then◌, all_deeds}
use Rattle.fc_books.specs.Copies.{ranges_from, held, is_whole, is_needed, dependents}
use Rattle.fc_books.specs.Ending.{ends_in, ends_by, as_left, cut_of, leaves_by}
use Rattle.fc_books.specs.Groups.{acts_on}
use Rattle.fc_books.specs.Sound.{AreSound}
use Rattle.fc_books.specs.Stopping.{stops_in, stops_with}
use Rattle.fc_registry.proofs.Places.{rises}
use Rattle.fc_stops.proofs.StopAsked.{those_are, ids_same, id_found, dependent_known, same_tests}
use Rattle.fc_stops.proofs.StopEnds.{AreKnown}
use Rattle.fc_stops.proofs.StopLeft.{PlainLeft, ForceLeft}
use Rattle.fc_stops.proofs.StopOrder.{no_sets, held_same, those_after}
use Rattle.fc_stops.proofs.StopReach.{depends_reach, reach_depends, reach_stays, reach_back, needed_reads, reads_needed, reads_mapping, mapping_reads, mapping_apart, out_or_not}
use Rattle.fc_stops.proofs.StopWork.{whole_same, stopped}
use Rattle.fc_stops.specs.Stops.{is_among, those, stop_asked, changes_some, IsStop}
use Rattle.fc_stops.specs.StopGroups.{IsLeftAnswer}

-- ---- what is reached by stops

abbrev pub LeftBy : StopWay → Sheet → Sheet → (ℕ → Bool) → Type 0
LeftBy Plain s t out = PlainLeft s t out
LeftBy ByForce s t out = ForceLeft s t out
LeftBy SplitOff s t out = Unit {0}

-- a mapping that was stopped isn't stopped again
abbrev pub IsDone : StopWay → Change → Type 0
IsDone way (SetMapping m) = acts_on way m.state ≡ false
IsDone way change = Unit {0}

abbrev pub AreDone : StopWay → List Change → Type 0
AreDone way [] = Unit {0}
AreDone way (c ∷ cs) = IsDone way c × AreDone way cs

abbrev pub sheet_by : Books → Deed → Sheet
sheet_by b d = fold (sheet_after no_sets) b.sheet d.events

pub record Reached (way : StopWay) (b : Books) (d : Deed) : Type 0 where
  pub stop : IsStop d
  pub done : AreDone way d.changes
  pub left : LeftBy way b.sheet (sheet_by b d) (λ n. changes_some n d.changes)

-- ---- a copy of which the same is held

pub record SameCopy (b other : Books) (m : Mapping) : Type 0 where
  pub bits : held_of other.sheet.slots m.id.0 ≡ held_of b.sheet.slots m.id.0
  pub whole : is_whole other m ≡ is_whole b m

pub same_copy : (b : Books) (d : Deed) (m : Mapping) → IsStop d → changes_some m.id.0 d.changes ≡ false → SameCopy b (after_deed no_sets b d) m
same_copy b d m stop same =
    let bits = held_same no_sets b d m.id.0 stop same in
    record { bits = bits; whole = whole_same b (after_deed no_sets b d) m (ap (λ t. t.volumes) (stopped no_sets b d stop).tables) bits }

cut_with : Bool → List Bool → Mapping → Deed
cut_with whole bits m =
    cond whole nothing
    record { effects = Cut m.target (ranges_from 0 bits) ∷ []; events = NoteCut m.id m.source m.target ∷ []; changes = [] }

same_cut : (b other : Books) (m : Mapping) → SameCopy b other m → cut_of other m ≡ cut_of b m
unfolding cut_with
same_cut b other m same =
    ap (λ w. cut_with w (held_of other.sheet.slots m.id.0) m) same.whole ∙ ap (λ bits. cut_with (is_whole b m) bits m) same.bits

left_with : ℕ → Bool → Mapping → Mapping
left_with n whole m = record m { held_at_leave = n; complete = whole }

same_left : (b other : Books) (m : Mapping) → SameCopy b other m → as_left other m ≡ as_left b m
unfolding left_with
same_left b other m same =
    ap (λ bits. left_with (count_true bits) (is_whole other m) m) same.bits ∙ ap (λ w. left_with (held b m) w m) same.whole

same_leaves : (b other : Books) (m : Mapping) (next next' : Result MapState Refusal) → SameCopy b other m → next' ≡ next → leaves_by next' other m ≡ leaves_by next b m
same_leaves b other m next next' same e =
    ap (λ c. c then ends_by next' (as_left other m)) (same_cut b other m same)
    ∙ ap (λ l. cut_of b m then ends_by next' l) (same_left b other m same)
    ∙ ap (λ x. cut_of b m then ends_by x (as_left b m)) e

same_with : (b other : Books) (m : Mapping) → SameCopy b other m → stops_with other m ≡ stops_with b m
same_with b other m same =
    ap (λ c. c then ends_in Stopped (as_left other m)) (same_cut b other m same)
    ∙ ap (λ l. cut_of b m then ends_in Stopped l) (same_left b other m same)

one_with : (b other : Books) (y : Mapping) (rest : List Mapping) (among : Bool) → (among ≡ true → stops_with other y ≡ stops_with b y) → all_deeds (stops_with other) rest ≡ all_deeds (stops_with b) rest → all_deeds (stops_with other) (cond among (y ∷ rest) rest) ≡ all_deeds (stops_with b) (cond among (y ∷ rest) rest)
one_with b other y rest true one all = ap (λ d. d then all_deeds (stops_with other) rest) (one refl) ∙ ap (λ d. stops_with b y then d) all
one_with b other y rest false one all = all

all_with : (b other : Books) (ids : List MapId) (maps : List Mapping) → ((y : Mapping) → is_among ids y ≡ true → stops_with other y ≡ stops_with b y) → all_deeds (stops_with other) (those ids maps) ≡ all_deeds (stops_with b) (those ids maps)
all_with b other ids [] each = refl
all_with b other ids (y ∷ ys) each = one_with b other y (those ids ys) (is_among ids y) (each y) (all_with b other ids ys each)

-- ---- dependents, by force

pub left_answer : (b : Books) (d : Deed) (m : Mapping) (ids : List MapId) → AreSound b → Reached ByForce b d → changes_some m.id.0 d.changes ≡ false → IsLeftAnswer ByForce b.sheet.slots d.changes m.id.0 true ids → AreMappings (DependsOn (sheet_by b d).slots m.id.0) ids
left_answer b d m ids sound reached same answer =
    let out : ℕ → Bool = λ n. changes_some n d.changes in
    let left : ForceLeft b.sheet (sheet_by b d) out = reached.left in
    record {
      rising = answer.rising;
      only = λ n there.
          let dep = answer.only n there in
          reach_depends (sheet_by b d).slots m.id.0 n.0 left.sound.mappings
          (reach_stays out b.sheet.slots (sheet_by b d).slots m.id.0 n.0 left.stays left.closed same dep.1 (depends_reach b.sheet m.id.0 n.0 sound.sheet dep.0));
      all = λ n dep.
          let back = reach_back out b.sheet.slots (sheet_by b d).slots m.id.0 n.0 left.stays left.none same (depends_reach (sheet_by b d) m.id.0 n.0 left.sound dep) in
          answer.all n (reach_depends b.sheet.slots m.id.0 n.0 sound.sheet.mappings back.1, back.0);
    }

pub left_known : (b : Books) (cs : List Change) (m : Mapping) (ids : List MapId) → AreSound b → IsLeftAnswer ByForce b.sheet.slots cs m.id.0 true ids → AreKnown ids b.tables.mappings
left_known b cs m ids sound answer n there =
    let r = id_found ids n there in
    let P : ℕ → Type 0 = λ z. DependsOn b.sheet.slots m.id.0 z in
    dependent_known b m.id.0 n sound (subst P r.2 (answer.only r.0 r.1).0)

left_unchanged : (b : Books) (cs : List Change) (m : Mapping) (ids : List MapId) → IsLeftAnswer ByForce b.sheet.slots cs m.id.0 true ids → (n : ℕ) → list_any (λ (id : MapId). id.0 == n) ids ≡ true → changes_some n cs ≡ false
left_unchanged b cs m ids answer n there =
    let r = id_found ids n there in
    let P : ℕ → Type 0 = λ z. changes_some z cs ≡ false in
    subst P r.2 (answer.only r.0 r.1).1

left_those : (b : Books) (d : Deed) (m : Mapping) (ids : List MapId) → AreSound b → Reached ByForce b d → changes_some m.id.0 d.changes ≡ false → IsLeftAnswer ByForce b.sheet.slots d.changes m.id.0 true ids → dependents (after_deed no_sets b d) m ≡ those ids b.tables.mappings
left_those b d m ids sound reached same answer =
    let other : Books = after_deed no_sets b d in
    let is = stopped no_sets b d reached.stop in
    let left : ForceLeft b.sheet (sheet_by b d) (λ n. changes_some n d.changes) = reached.left in
    let P : Sheet → Type 0 = λ s. AreMappings (DependsOn s.slots m.id.0) ids in
    let Q : Sheet → Type 0 = λ s. HasSizes s.slots in
    sym (those_are other m ids (subst Q (sym is.sheet) left.sound.sizes) (subst P (sym is.sheet) (left_answer b d m ids sound reached same answer)))
    ∙ ap (λ t. those ids t.mappings) is.tables
    ∙ those_after d.changes ids b.tables.mappings reached.stop.changes (left_unchanged b d.changes m ids answer)

left_ids : (b : Books) (cs : List Change) (m : Mapping) (ids : List MapId) → AreSound b → IsLeftAnswer ByForce b.sheet.slots cs m.id.0 true ids → map (λ (x : Mapping). x.id) (those ids b.tables.mappings) ≡ ids
left_ids b cs m ids sound answer =
    ids_same ids b.tables.mappings (rises (λ (x : MapId). x.0) ids answer.rising) (rises (λ (x : Mapping). x.id.0) b.tables.mappings sound.tables.mappings.rising) (left_known b cs m ids sound answer)

forced_parts : (b : Books) (d : Deed) (m : Mapping) (ids : List MapId) (end : Deed) → AreSound b → Reached ByForce b d → changes_some m.id.0 d.changes ≡ false → IsLeftAnswer ByForce b.sheet.slots d.changes m.id.0 true ids →
    (let other = after_deed no_sets b d in
    (told (Force m.id (map (λ (x : Mapping). x.id) (dependents other m)) ∷ []) then (end then all_deeds (stops_with other) (dependents other m)))
    ≡ (told (Force m.id ids ∷ []) then (end then all_deeds (stops_with b) (those ids b.tables.mappings))))
forced_parts b d m ids end sound reached same answer =
    let other : Books = after_deed no_sets b d in
    let ds : List Mapping = those ids b.tables.mappings in
    ap (λ xs. told (Force m.id (map (λ (x : Mapping). x.id) xs) ∷ []) then (end then all_deeds (stops_with other) xs)) (left_those b d m ids sound reached same answer)
    ∙ ap (λ xs. told (Force m.id xs ∷ []) then (end then all_deeds (stops_with other) ds)) (left_ids b d.changes m ids sound answer)
    ∙ ap (λ x. told (Force m.id ids ∷ []) then (end then x))
    (all_with b other ids b.tables.mappings (λ y among. same_with b other y (same_copy b d y reached.stop (left_unchanged b d.changes m ids answer y.id.0 among))))

-- ---- need, by plain stops

pub left_needed : (b : Books) (d : Deed) (m : Mapping) (needed : Bool) (ids : List MapId) → AreSound b → Reached Plain b d → changes_some m.id.0 d.changes ≡ false → IsLeftAnswer Plain b.sheet.slots d.changes m.id.0 needed ids → nat_lt 0 (needed_of (sheet_by b d).slots m.id.0) ≡ needed
left_needed b d m needed ids sound reached same answer =
    let out : ℕ → Bool = λ n. changes_some n d.changes in
    let left : PlainLeft b.sheet (sheet_by b d) out = reached.left in
    same_tests (nat_lt 0 (needed_of (sheet_by b d).slots m.id.0)) needed
    (λ is.
    let by = needed_reads (sheet_by b d) m.id.0 left.sound is in
    elim (out_or_not (out by.0)) [
      | inl gone ↦ absurd (left.quiet m.id.0 by.0 gone by.1)
      | inr here ↦ answer.0.1 (by.0, reads_mapping b.sheet.slots m.id.0 by.0 sound.sheet.mappings (left.stays.back m.id.0 by.0 same here by.1) by.2, here)
    ])
    (λ is.
    let by = answer.0.0 is in
    reads_needed (sheet_by b d) m.id.0 left.sound (
      by.0,
      left.stays.reads m.id.0 by.0 same by.2 (mapping_reads b.sheet.slots m.id.0 by.0 by.1),
      mapping_apart b.sheet.slots m.id.0 by.0 sound.sheet.mappings by.1,
    ))

plain_parts : (b : Books) (d : Deed) (m : Mapping) (needed : Bool) (ids : List MapId) → AreSound b → Reached Plain b d → changes_some m.id.0 d.changes ≡ false → IsLeftAnswer Plain b.sheet.slots d.changes m.id.0 needed ids → stops_in Copying Plain (after_deed no_sets b d) m ≡ stop_asked Copying Plain needed ids b m
plain_parts b d m needed ids sound reached same answer =
    let other : Books = after_deed no_sets b d in
    let copy = same_copy b d m reached.stop same in
    let is : is_needed other m ≡ needed = ap (λ s. nat_lt 0 (needed_of s.slots m.id.0)) (stopped no_sets b d reached.stop).sheet ∙ left_needed b d m needed ids sound reached same answer in
    ap (λ n. told (cond n (Retire m.id) (Detach m.id) ∷ []) then (leaves_by (next_state Copying Stop (is_whole other m) n) other m then nothing)) is
    ∙ ap (λ x. told (cond needed (Retire m.id) (Detach m.id) ∷ []) then (x then nothing))
    (same_leaves b other m (next_state Copying Stop (is_whole b m) needed) (next_state Copying Stop (is_whole other m) needed) copy (ap (λ w. next_state Copying Stop w needed) copy.whole))

split_next : (whole n k : Bool) → next_state Copying StopSplit whole n ≡ next_state Copying StopSplit whole k
split_next true n k = refl
split_next false n k = refl

split_parts : (b : Books) (d : Deed) (m : Mapping) (needed : Bool) (ids : List MapId) → IsStop d → changes_some m.id.0 d.changes ≡ false → stops_in Copying SplitOff (after_deed no_sets b d) m ≡ stop_asked Copying SplitOff needed ids b m
split_parts b d m needed ids stop same =
    let other : Books = after_deed no_sets b d in
    let copy = same_copy b d m stop same in
    ap (λ x. told (Split m.id ∷ []) then (x then nothing))
    (same_leaves b other m (next_state Copying StopSplit (is_whole b m) needed) (next_state Copying StopSplit (is_whole other m) (is_needed other m)) copy
    (split_next (is_whole other m) (is_needed other m) needed ∙ ap (λ w. next_state Copying StopSplit w needed) copy.whole))

force_parts : (b : Books) (d : Deed) (m : Mapping) (needed : Bool) (ids : List MapId) → AreSound b → Reached ByForce b d → changes_some m.id.0 d.changes ≡ false → IsLeftAnswer ByForce b.sheet.slots d.changes m.id.0 true ids → stops_in Copying ByForce (after_deed no_sets b d) m ≡ stop_asked Copying ByForce needed ids b m
force_parts b d m needed ids sound reached same answer =
    let other : Books = after_deed no_sets b d in
    let copy = same_copy b d m reached.stop same in
    let ds : List Mapping = dependents other m in
    ap (λ x. told (Force m.id (map (λ (y : Mapping). y.id) ds) ∷ []) then (x then all_deeds (stops_with other) ds))
    (same_leaves b other m (next_state Copying StopForce (is_whole b m) needed) (next_state Copying StopForce (is_whole other m) needed) copy (ap (λ w. next_state Copying StopForce w needed) copy.whole))
    ∙ forced_parts b d m ids (leaves_by (next_state Copying StopForce (is_whole b m) needed) b m) sound reached same answer

-- ---- one member

pub member_is : (state : MapState) (way : StopWay) (b : Books) (d : Deed) (m : Mapping) (needed : Bool) (ids : List MapId) → AreSound b → Reached way b d → changes_some m.id.0 d.changes ≡ false → acts_on way state ≡ true → IsLeftAnswer way b.sheet.slots d.changes m.id.0 needed ids → stops_in state way (after_deed no_sets b d) m ≡ stop_asked state way needed ids b m
member_is Copying Plain b d m needed ids sound reached same acts answer = plain_parts b d m needed ids sound reached same answer
member_is Copying SplitOff b d m needed ids sound reached same acts answer = split_parts b d m needed ids reached.stop same
member_is Copying ByForce b d m needed ids sound reached same acts answer = force_parts b d m needed ids sound reached same answer
member_is Stopping ByForce b d m needed ids sound reached same acts answer = forced_parts b d m ids (ends_by (next_state Stopping StopForce m.complete needed) m) sound reached same answer
member_is Stopping Plain b d m needed ids sound reached same acts answer = grind (arith, acts)
member_is Stopping SplitOff b d m needed ids sound reached same acts answer = grind (arith, acts)
member_is Empty way b d m needed ids sound reached same acts answer = refl
member_is IdleOrCopied way b d m needed ids sound reached same acts answer = refl
member_is Preparing way b d m needed ids sound reached same acts answer = refl
member_is Prepared way b d m needed ids sound reached same acts answer = refl
member_is Stopped way b d m needed ids sound reached same acts answer = refl
