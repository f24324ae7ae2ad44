-- The new slots of a trigger begin with restart sets, grain after grain.
use Rattle.std.proofs.Common.{◌≡◌, ℕ, ◌+◌, ◌-◌, ◌<◌, ◌≤◌, Bool, true, false, ◌||◌, Option, Some, None, IsSome, List, [], ◌∷◌, length, get_or, take, fold, find, All, refl, sym, ap, subst, ◌∙◌, arith, inl, inr}
use Rattle.std.specs.List.{list_any}
use Rattle.std.proofs.lemmas.Bool.{cases_Bool}
use Rattle.std.proofs.lemmas.List.{get_or_default, length-replicate}
use Rattle.std.proofs.lemmas.List.Sums.{fold_more}
use Rattle.fc_alike.proofs.Lawful.{follow_law_holds}
use Rattle.fc_alike.specs.Law.{IsNext, Keeps, with_first}
use Rattle.fc_base.specs.Sheet.{Sheet, slot_at, birth_place, mapping_place, volume_grains}
use Rattle.fc_base.specs.SheetFacts.{IsSound}
use Rattle.fc_base.specs.SheetFits.{FitsTrigger}
use Rattle.fc_base.specs.SheetStep.{at_place, sheet_moved, triggered}
use Rattle.fc_base.specs.declared.ids.SlotId.{SlotId}
use Rattle.fc_base.specs.declared.request.Pair.{Pair}
use Rattle.fc_bits.proofs.Grains.{least_set-some, least_set-none}
use Rattle.fc_bits.specs.Grains.{least_set}
use Rattle.fc_books.specs.After.{begun, holding}
use Rattle.fc_chain.specs.Chains.{Chains, IsThere, in_lane}
use Rattle.fc_changed.specs.Row.{Row, is_of, restart_in, row_restart}
use Rattle.fc_follow.specs.Following.{restarts}
use Rattle.fc_apply.specs.Events.{IsBeginning}

abbrev with_sheet : Chains → Sheet → Chains
with_sheet c s = record c { sheet = s }

-- The mapping's slot holds the first grains of the set.
abbrev pub HasFirst : Chains → (m : ℕ) → List Bool → (n : ℕ) → Chains → Type 0
HasFirst c m set n now = (k : ℕ) → mapping_place c.sheet.slots m ≡ Some k → now ≡ record c { sheet = with_first n set k c.sheet }

same_place : (i j : ℕ) → Some i ≡ Some j → i ≡ j
same_place i j e = cc

some_there : (o : Option ℕ) (k : ℕ) → o ≡ Some k → IsSome o
some_there None k e = absurd cc
some_there (Some j) k e = cc

-- ---- one slot

module _ (c : Chains) (p : Pair) (set : List Bool) (b : IsBeginning c.sheet p set) where
  keeps : Keeps c.sheet b.place set
  keeps = follow_law_holds.keeps c.sheet p b.grains b.place set b.sound b.slot

  abbrev held : ℕ → Sheet
  held n = with_first n set b.place c.sheet

  has_now : (n : ℕ) (now : Chains) → now ≡ with_sheet c (held n) → HasFirst c p.map.0 set n now
  has_now n now e k at = subst (λ z. now ≡ record c { sheet = with_first n set z c.sheet }) (same_place b.place k (sym b.slot.of_mapping ∙ at)) e

  is_now : (n : ℕ) (now : Chains) → HasFirst c p.map.0 set n now → now ≡ with_sheet c (held n)
  is_now n now h = h b.place b.slot.of_mapping

  pub first_none : HasFirst c p.map.0 set 0 c
  first_none = has_now 0 c (ap (with_sheet c) (sym keeps.none))

  module _ (slot : SlotId) (named : birth_place c.sheet.slots slot.0 ≡ mapping_place c.sheet.slots p.map.0) (n : ℕ) (now : Chains) (h : HasFirst c p.map.0 set n now) where
    named_now : birth_place now.sheet.slots slot.0 ≡ Some b.place
    named_now = ap (λ (z : Chains). birth_place z.sheet.slots slot.0) (is_now n now h) ∙ ((keeps.stays n).of_birth slot.0 ∙ (named ∙ b.slot.of_mapping))

    pub begin_there : IsThere now.sheet.slots slot
    begin_there = some_there (birth_place now.sheet.slots slot.0) b.place named_now

    pub begin_inside : (place : ℕ) → least_set set n ≡ Some place → (k : ℕ) → birth_place now.sheet.slots slot.0 ≡ Some k → place < length (slot_at now.sheet.slots k).held
    begin_inside place found k at =
        let inside : place < length set = (least_set-some set n place found).1 in
        let same : b.place ≡ k = same_place b.place k (sym named_now ∙ at) in
        let size : length (slot_at now.sheet.slots k).held ≡ b.grains =
        ap (λ (z : Chains). length (slot_at z.sheet.slots k).held) (is_now n now h)
        ∙ ((keeps.stays n).size k ∙ (ap (λ z. length (slot_at c.sheet.slots z).held) (sym same) ∙ (ap length b.slot.nothing ∙ length-replicate b.grains false))) in
        let fits = b.size in
        omega arith

    pub begin_next : (place grain : ℕ) (new : Chains) → least_set set n ≡ Some place → in_lane now grain ≡ place →
        ((k : ℕ) → birth_place now.sheet.slots slot.0 ≡ Some k → new ≡ record now { sheet = sheet_moved (slot_at now.sheet.slots k).volume (in_lane now grain) true now.sheet }) → HasFirst c p.map.0 set (place + 1) new
    begin_next place grain new found at moved =
        let f = least_set-some set n place found in
        let here : now ≡ with_sheet c (held place) = is_now n now h ∙ ap (with_sheet c) (keeps.past n place f.0 f.3) in
        has_now (place + 1) new
        (moved b.place named_now
        ∙ ((λ i. record (here i) { sheet = sheet_moved (slot_at (here i).sheet.slots b.place).volume (at i) true (here i).sheet }) ∙ ap (with_sheet c) (keeps.one_more place f.2)))

  pub begin_all : (n : ℕ) (now : Chains) (rows : List Row) → set ≡ restart_in p.map.0 rows → HasFirst c p.map.0 set n now → least_set set n ≡ None → now ≡ record c { sheet = begun (restarts rows) c.sheet p }
  begin_all n now rows is h none =
      is_now n now h
      ∙ ap (with_sheet c)
      (keeps.past n (n + length set) (omega arith) (λ g le lt. least_set-none set n none g le)
      ∙ (keeps.all (n + length set) (omega arith)
      ∙ ((λ i. holding (is i) b.place c.sheet) ∙ sym (ap (λ o. at_place (holding (restart_in p.map.0 rows)) o c.sheet) b.slot.of_mapping))))

-- ---- a mapping that isn't followed begins with nothing

none_found : (m : ℕ) (rows : List Row) → list_any (is_of m) rows ≡ false → find (is_of m) rows ≡ None
none_found m [] none = refl
none_found m (row ∷ rows) none =
    elim (cases_Bool (is_of m row)) [
      | inl own ↦ absurd (let t : true ≡ false = sym (ap (λ b. b || list_any (is_of m) rows) own) ∙ none in cc)
      | inr other ↦ rw other (none_found m rows (ap (λ b. b || list_any (is_of m) rows) (sym other) ∙ none))
    ]

pub not_followed : (m : ℕ) (rows : List Row) → list_any (is_of m) rows ≡ false → restart_in m rows ≡ []
not_followed m rows none = ap row_restart (none_found m rows none)

pub begin_none : (c : Chains) (p : Pair) (rows : List Row) → IsBeginning c.sheet p (restart_in p.map.0 rows) → list_any (is_of p.map.0) rows ≡ false → c ≡ record c { sheet = begun (restarts rows) c.sheet p }
begin_none c p rows b none =
    let keeps : Keeps c.sheet b.place [] = follow_law_holds.keeps c.sheet p b.grains b.place [] b.sound b.slot in
    ap (with_sheet c)
    (sym keeps.none
    ∙ (ap (λ z. holding z b.place c.sheet) (sym (not_followed p.map.0 rows none)) ∙ sym (ap (λ o. at_place (holding (restart_in p.map.0 rows)) o c.sheet) b.slot.of_mapping)))

-- ---- all of them

-- The chains right after a trigger, whose restart sets aren't larger than its targets.
abbrev pub IsTriggered : Sheet → List Pair → List Row → Type 0
IsTriggered sheet pairs rows =
    (s : Sheet) × IsSound s × FitsTrigger s pairs × (sheet ≡ triggered pairs s) × All (λ (p : Pair). length (restart_in p.map.0 rows) ≤ volume_grains s.slots p.target.0) pairs

next_begins : (c now : Chains) (pairs : List Pair) (rows : List Row) (i : ℕ) (p : Pair) → IsTriggered c.sheet pairs rows → now ≡ record c { sheet = fold (begun (restarts rows)) c.sheet (take i pairs) } → i < length pairs →
    get_or pairs i p ≡ p → IsBeginning now.sheet p (restart_in p.map.0 rows)
next_begins c now pairs rows i p (s, sound, fits, is, small) at lt here =
    let t : Sheet = fold (begun (restarts rows)) (triggered pairs s) (take i pairs) in
    let n : IsNext (restarts rows) s t p = subst (λ z. IsNext (restarts rows) s t z) here (follow_law_holds.new_slot_at (restarts rows) s pairs i p sound fits lt) in
    let sheet : now.sheet ≡ t = ap (λ (z : Chains). z.sheet) at ∙ ap (λ z. fold (begun (restarts rows)) z (take i pairs)) is in
    subst (λ z. IsBeginning z p (restart_in p.map.0 rows)) (sym sheet) (record {
      sound = n.sound;
      grains = volume_grains s.slots p.target.0;
      place = n.place;
      slot = n.slot;
      size = subst (λ (z : Pair). length (restart_in z.map.0 rows) ≤ volume_grains s.slots z.target.0) here (small i p lt);
    })

next_begun : (c now new : Chains) (pairs : List Pair) (rows : List Row) (i : ℕ) (p : Pair) → now ≡ record c { sheet = fold (begun (restarts rows)) c.sheet (take i pairs) } → i < length pairs → get_or pairs i p ≡ p →
    new ≡ record now { sheet = begun (restarts rows) now.sheet p } → new ≡ record c { sheet = fold (begun (restarts rows)) c.sheet (take (i + 1) pairs) }
next_begun c now new pairs rows i p at lt here is =
    is
    ∙ ((λ k. record (at k) { sheet = begun (restarts rows) (at k).sheet (sym here k) })
    ∙ ap (with_sheet c) (sym (fold_more (begun (restarts rows)) c.sheet pairs i p lt)))

-- the grains that are left get fewer
pub fewer_left : (set : List Bool) (n place : ℕ) → least_set set n ≡ Some place → length set - (place + 1) < length set - n
fewer_left set n place found = let f = least_set-some set n place found in omega (arith, f.0, f.1)

pub next_begins_at : (c now : Chains) (pairs : List Pair) (rows : List Row) (i : ℕ) (d : Pair) → IsTriggered c.sheet pairs rows → now ≡ record c { sheet = fold (begun (restarts rows)) c.sheet (take i pairs) } → i < length pairs →
    IsBeginning now.sheet (get_or pairs i d) (restart_in (get_or pairs i d).map.0 rows)
next_begins_at c now pairs rows i d t at lt = next_begins c now pairs rows i (get_or pairs i d) t at lt (get_or_default pairs i (get_or pairs i d) d lt)

pub next_begun_at : (c now new : Chains) (pairs : List Pair) (rows : List Row) (i : ℕ) (d : Pair) → now ≡ record c { sheet = fold (begun (restarts rows)) c.sheet (take i pairs) } → i < length pairs →
    new ≡ record now { sheet = begun (restarts rows) now.sheet (get_or pairs i d) } → new ≡ record c { sheet = fold (begun (restarts rows)) c.sheet (take (i + 1) pairs) }
next_begun_at c now new pairs rows i d at lt is = next_begun c now new pairs rows i (get_or pairs i d) at lt (get_or_default pairs i (get_or pairs i d) d lt) is
