-- A volume that nothing is copied from: its slots stand alone in their chains. Nothing but a start puts a slot behind another.
use Rattle.std.proofs.Common.{◌≡◌, ℕ, ◌+◌, ◌<◌, ◌≤◌, Bool, true, false, cond, ◌&&◌, Option, Some, None, List, [], ◌∷◌, ◌++◌, length, map, filter, fold, replicate, remove, Result, Ok, Err, refl, sym, ap, subst, ◌∙◌, arith, inl, inr}
use Rattle.std.proofs.lemmas.Bool.{cases_lt}
use Rattle.fc_base.specs.Counts.{is_unneeded, names_below, UsedAt}
use Rattle.fc_base.specs.Sheet.{Sheet, Slot, birth_place, live_place, mapping_place, slot_at}
use Rattle.fc_base.specs.SheetStep.{at_place, detached_at, with_chain, without}
use Rattle.fc_base.specs.States.{next_state}
use Rattle.fc_base.specs.declared.decision.LaneEvent.{LaneEvent}
use Rattle.fc_base.specs.declared.decision.LaneEvent.TheVariants.{Make, Remove, Trigger, Retire, Detach, Split, Force, Drop, NoteCut, Work}
use Rattle.fc_base.specs.declared.fault.Refusal.{Refusal}
use Rattle.fc_base.specs.declared.ids.SlotId.{SlotId}
use Rattle.fc_base.specs.declared.ids.VolId.{VolId}
use Rattle.fc_base.specs.declared.request.Effect.TheVariants.{Cut}
use Rattle.fc_base.specs.declared.state.MapEvent.TheVariants.{Finish}
use Rattle.fc_base.specs.declared.state.MapState.{MapState}
use Rattle.fc_base.specs.declared.state.MapState.TheVariants.{Copying, Stopping}
use Rattle.fc_base.specs.declared.volume.Change.{Change}
use Rattle.fc_base.specs.declared.volume.Mapping.{Mapping}
use Rattle.fc_books.specs.Accesses.{is_idle}
use Rattle.fc_books.specs.After.{after_all, sheet_after}
use Rattle.fc_books.specs.Books.{Books, Deed, all_deeds, nothing}
use Rattle.fc_books.specs.Copies.{is_needed, is_used, is_whole, kept}
use Rattle.fc_books.specs.Deciding.{settle}
use Rattle.fc_books.specs.Ending.{as_left, comes_to, cut_of, ends_by, goes_from, leaves_by}
use Rattle.fc_books.specs.Settling.{drops, finishes, settles_in, settling}
use Rattle.fc_books.specs.Work.{changes_work, cleans, copies, work_events}
use Rattle.fc_books.proofs.Using.{is_used-whole}
use Rattle.fc_decided.proofs.Frame.{all_leave}
use Rattle.fc_moves.proofs.Search.{first_some}
use Rattle.fc_sheets.proofs.Finding.{live_place_at, mapping_place_at}
use Rattle.fc_sheets.proofs.Places.{Removed, push_here, push_is, remove_is, removed_at, up, up_in, up_same}

-- Labels of chains are below the births; and no other slot is in the chain of one of the volume's.
pub record Alone (v : ℕ) (s : Sheet) : Type 0 where
  pub below : (k : ℕ) → k < length s.slots → (slot_at s.slots k).chain < s.births
  pub alone : (j k : ℕ) → j < length s.slots → k < length s.slots → (slot_at s.slots k).volume ≡ v →
      (slot_at s.slots j).chain ≡ (slot_at s.slots k).chain → j ≡ k

-- So it isn't used as a source.
pub unused : (v : VolId) (s : Sheet) → Alone v.0 s → is_used s.slots v ≡ false
unused v s a = sym (is_used-whole s.slots v false ((λ t. absurd (cc t)), (λ u. absurd (not_used u))))
  where
    not_used : UsedAt s.slots v.0 → ⊥
    not_used u =
        let live = u.3 in
        let behind : u.0 < live.0 = live.2 in
        let one : live.0 ≡ u.0 = a.alone live.0 u.0 live.1 u.1 u.2 live.4 in
        omega (arith, behind, one)

-- ---- a slot is taken out

without_alone : (v k : ℕ) (s : Sheet) → k < length s.slots → Alone v s → Alone v (without k s)
without_alone v k s kl a =
    let small : List Slot = remove s.slots k in
    let r : Removed s.slots small k = remove_is s.slots k kl in
    let at : (j : ℕ) → slot_at small j ≡ slot_at s.slots (up k j) = λ j. removed_at s.slots small k r j in
    record {
      below = λ j jl. subst (λ (t : Slot). t.chain < s.births) (sym (at j)) (a.below (up k j) (up_in s.slots small k r j jl));
      alone = λ i j il jl volume chain.
          up_same k i j
          (a.alone (up k i) (up k j) (up_in s.slots small k r i il) (up_in s.slots small k r j jl)
          (ap (λ (t : Slot). t.volume) (sym (at j)) ∙ volume)
          (ap (λ (t : Slot). t.chain) (sym (at i)) ∙ chain ∙ ap (λ (t : Slot). t.chain) (at j)));
    }

-- ---- a volume gets a chain of its own

module _ (v x grains : ℕ) (s : Sheet) (a : Alone v s) where
  abbrev count : ℕ
  count = length s.slots

  abbrev new : Slot
  new = record { birth = s.births; chain = s.births; volume = x; is_live = true; mapping = None; held = replicate grains true }

  abbrev all : List Slot
  all = s.slots ++ new ∷ []

  old_is : (j : ℕ) → j < count → slot_at s.slots j ≡ slot_at all j
  old_is j lt = (push_is s.slots new).low j lt

  place_is : (j : ℕ) → j < length all → count ≤ j → j ≡ count
  place_is j jl ge =
      let longer : count + 1 ≡ length all = (push_is s.slots new).count in
      omega (arith, jl, ge, longer)

  new_is : (j : ℕ) → j < length all → count ≤ j → slot_at all j ≡ new
  new_is j jl ge = ap (slot_at all) (place_is j jl ge) ∙ push_here s.slots new

  all_below : (j : ℕ) → j < length all → (slot_at all j).chain < s.births + 1
  all_below j jl = elim (cases_lt j count) [
    | inl lt ↦
        let below : (slot_at s.slots j).chain < s.births = a.below j lt in
        subst (λ (t : Slot). t.chain < s.births + 1) (old_is j lt) (omega (arith, below))
    | inr ge ↦ subst (λ (t : Slot). t.chain < s.births + 1) (sym (new_is j jl ge)) (omega arith)
  ]

  -- an old slot isn't in the new chain
  not_new : (i j : ℕ) → i < count → j < length all → count ≤ j → (slot_at all i).chain ≡ (slot_at all j).chain → ⊥
  not_new i j lt jl ge chain =
      let below : (slot_at s.slots i).chain < s.births = a.below i lt in
      let is : (slot_at s.slots i).chain ≡ s.births = ap (λ (t : Slot). t.chain) (old_is i lt) ∙ chain ∙ ap (λ (t : Slot). t.chain) (new_is j jl ge) in
      omega (arith, below, is)

  all_alone : (i j : ℕ) → i < length all → j < length all → (slot_at all j).volume ≡ v → (slot_at all i).chain ≡ (slot_at all j).chain → i ≡ j
  all_alone i j il jl volume chain =
      elim (cases_lt i count) [
        | inl lt ↦ elim (cases_lt j count) [
          | inl less ↦
              a.alone i j lt less (ap (λ (t : Slot). t.volume) (old_is j less) ∙ volume)
              (ap (λ (t : Slot). t.chain) (old_is i lt) ∙ chain ∙ ap (λ (t : Slot). t.chain) (sym (old_is j less)))
          | inr ge ↦ absurd (not_new i j lt jl ge chain)
        ]
        | inr ge ↦ elim (cases_lt j count) [
          | inl less ↦ absurd (not_new j i less il ge (sym chain))
          | inr more ↦ place_is i il ge ∙ sym (place_is j jl more)
        ]
      ]

  chain_alone : Alone v (with_chain x grains s)
  chain_alone = record { below = all_below; alone = all_alone }

-- ---- events

-- It puts no slot behind another, and turns none old.
abbrev pub IsLoose : LaneEvent → Type 0
IsLoose (Trigger pairs) = ⊥
IsLoose (Retire m) = ⊥
IsLoose (Split m) = ⊥
IsLoose (Force m dependents) = ⊥
IsLoose event = Unit {0}

abbrev pub AreLoose : List LaneEvent → Type 0
AreLoose [] = Unit {0}
AreLoose (e ∷ es) = IsLoose e × AreLoose es

placed_alone : (v : ℕ) (f : ℕ → Sheet → Sheet) (o : Option ℕ) (s : Sheet) → ((k : ℕ) → o ≡ Some k → Alone v (f k s)) → Alone v s → Alone v (at_place f o s)
placed_alone v f None s each a = a
placed_alone v f (Some k) s each a = each k refl

birth_below : (slots : List Slot) (b k : ℕ) → birth_place slots b ≡ Some k → k < length slots
unfolding birth_place
birth_below slots b k e = (first_some _ (length slots) k e).below

detached_alone : (v k : ℕ) (s : Sheet) → k < length s.slots → Alone v s → Alone v (detached_at k s)
detached_alone v k s kl a =
    chain_alone v (slot_at s.slots k).volume (length (slot_at s.slots k).held) (without k s) (without_alone v k s kl a)

step_alone : (v : ℕ) (sets : ℕ → List Bool) (s : Sheet) (e : LaneEvent) → IsLoose e → Alone v s → Alone v (sheet_after sets s e)
step_alone v sets s (Make volume grains kind) loose a = chain_alone v volume.0 grains s a
step_alone v sets s (Remove volume) loose a =
    placed_alone v without (live_place s.slots volume.0) s (λ k e. without_alone v k s (live_place_at s.slots volume.0 k e).there a) a
step_alone v sets s (Detach m) loose a =
    placed_alone v detached_at (mapping_place s.slots m.0) s (λ k e. detached_alone v k s (mapping_place_at s.slots m.0 k e).0 a) a
step_alone v sets s (Drop slot) loose a =
    placed_alone v without (birth_place s.slots slot.0) s (λ k e. without_alone v k s (birth_below s.slots slot.0 k e) a) a
step_alone v sets s (Trigger pairs) loose a = absurd loose
step_alone v sets s (Retire m) loose a = absurd loose
step_alone v sets s (Split m) loose a = absurd loose
step_alone v sets s (Force m dependents) loose a = absurd loose
step_alone v sets s e loose a = a

through_alone : (v : ℕ) (sets : ℕ → List Bool) (s : Sheet) (es : List LaneEvent) → AreLoose es → Alone v s → Alone v (fold (sheet_after sets) s es)
through_alone v sets s [] loose a = a
through_alone v sets s (e ∷ es) loose a = through_alone v sets (sheet_after sets s e) es loose.1 (step_alone v sets s e loose.0 a)

pub alone_after : (v : ℕ) (sets : ℕ → List Bool) (b : Books) (es : List LaneEvent) (cs : List Change) → AreLoose es → Alone v b.sheet → Alone v (after_all sets es cs b).sheet
alone_after v sets b es cs loose a = subst (λ (x : Books). Alone v x.sheet) (sym (all_leave sets b es cs)) (through_alone v sets b.sheet es loose a)

-- ---- those of a settling, and background work

pub loose_append : (xs ys : List LaneEvent) → AreLoose xs → AreLoose ys → AreLoose (xs ++ ys)
loose_append [] ys first second = second
loose_append (x ∷ xs) ys first second = (first.0, loose_append xs ys first.1 second)

loose_either : (test : Bool) (first second : Deed) → AreLoose first.events → AreLoose second.events → AreLoose (cond test first second).events
loose_either true first second one two = one
loose_either false first second one two = two

loose_ends : (next : Result MapState Refusal) (m : Mapping) → AreLoose (ends_by next m).events
loose_ends (Ok state) m = loose_either (m.autodelete && is_idle state) (goes_from state m) (comes_to state m) (tt, (tt, tt)) (tt, tt)
loose_ends (Err refusal) m = tt

loose_cut : (b : Books) (m : Mapping) → AreLoose (cut_of b m).events
loose_cut b m =
    loose_either (is_whole b m) nothing record { effects = Cut m.target (kept b m) ∷ []; events = NoteCut m.id m.source m.target ∷ []; changes = [] } tt (tt, tt)

loose_leaves : (next : Result MapState Refusal) (b : Books) (m : Mapping) → AreLoose (leaves_by next b m).events
loose_leaves next b m = loose_append (cut_of b m).events (ends_by next (as_left b m)).events (loose_cut b m) (loose_ends next (as_left b m))

loose_finishes : (next : Result MapState Refusal) (b : Books) (m : Mapping) → AreLoose (finishes next b m).events
loose_finishes (Ok state) b m = (tt, loose_leaves (Ok state) b m)
loose_finishes (Err refusal) b m = tt

loose_settles : (state : MapState) (b : Books) (m : Mapping) → AreLoose (settles_in state b m).events
loose_settles Copying b m = loose_finishes (next_state Copying Finish (is_whole b m) (is_needed b m)) b m
loose_settles Stopping b m = loose_ends (next_state Stopping Finish m.complete (is_needed b m)) m
loose_settles state b m = tt

loose_all : (b : Books) (ms : List Mapping) → AreLoose (all_deeds (λ (m : Mapping). settles_in m.state b m) ms).events
loose_all b [] = tt
loose_all b (m ∷ ms) =
    loose_append (settles_in m.state b m).events (all_deeds (λ (x : Mapping). settles_in x.state b x) ms).events (loose_settles m.state b m) (loose_all b ms)

loose_drops : (names : List SlotId) → AreLoose (map (λ slot. Drop slot) names)
loose_drops [] = tt
loose_drops (name ∷ names) = (tt, loose_drops names)

pub loose_settling : (b : Books) → AreLoose (settle b).events
unfolding settling
loose_settling b =
    let slots : List Slot = b.sheet.slots in
    loose_append (drops slots).events (all_deeds (λ (m : Mapping). settles_in m.state b m) b.tables.mappings).events
    (loose_drops (names_below slots (is_unneeded slots) (length slots))) (loose_all b b.tables.mappings)

loose_works : (b : Books) (ms : List Mapping) → AreLoose (map (λ m. Work m.id (copies b m) (cleans b m)) ms)
loose_works b [] = tt
loose_works b (m ∷ ms) = (tt, loose_works b ms)

pub loose_work : (b : Books) → AreLoose (work_events b)
unfolding work_events
loose_work b = loose_works b (filter (changes_work b) b.tables.mappings)
