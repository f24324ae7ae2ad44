-- A decision that is applied: its changes and then its events, each in order.
use Rattle.std.proofs.Common.{◌≡◌, ℕ, ◌+◌, ◌<◌, ◌≤◌, true, false, cond, List, [], ◌∷◌, length, get_or, drop, filter, find, fold, refl, ap, sym, ◌∙◌, subst, arith, Option, Some, None, inl, inr, ◌⊎◌, Result, Ok, Err, OnOk}
use Rattle.std.proofs.lemmas.List.{drop_more}
use Rattle.std.proofs.lemmas.List.Sums.{sum_by-cons}
use Rattle.std.specs.Option.{ForSome}
use Rattle.fc_base.specs.SheetView.{SheetView}
use Rattle.fc_base.specs.Tables.{after_change, room_asked}
use Rattle.fc_base.specs.declared.decision.LaneEvent.{LaneEvent}
use Rattle.fc_base.specs.declared.outcome.NoMemory.{NoMemory}
use Rattle.fc_base.specs.declared.volume.Change.{Change}
use Rattle.fc_base.specs.declared.volume.Change.TheVariants.{AddVolume, RemoveVolume, AddMapping, RemoveMapping, SetMapping, AddGroup, RemoveGroup}
use Rattle.fc_books.specs.After.{after_table_change, flags_after}
use Rattle.fc_desk.specs.Applied.{changed}
use Rattle.fc_desk.specs.Changes.{FitChanges, adds, reserved_after, AreReserved, AreCountable, is_work, works}
use Rattle.fc_desk.specs.Control.{ControlState, books_of}

-- ---- what is reserved

asks : (change : Change) → ((adds change ≡ true) × (room_asked change ≡ Some change)) ⊎ ((adds change ≡ false) × (room_asked change ≡ None))
asks (AddVolume volume) = inl (refl, refl)
asks (RemoveVolume id) = inr (refl, refl)
asks (AddMapping mapping) = inl (refl, refl)
asks (RemoveMapping id) = inr (refl, refl)
asks (SetMapping mapping) = inr (refl, refl)
asks (AddGroup group) = inl (refl, refl)
asks (RemoveGroup id) = inr (refl, refl)

none_reserved : (reserved : Option Change) (changes : List Change) → length (filter adds changes) ≡ 0 → AreReserved reserved changes
none_reserved reserved [] none = tt
none_reserved reserved (change ∷ changes) none = by (asks change) none (none_reserved reserved changes)
  where
    by : ((adds change ≡ true) × (room_asked change ≡ Some change)) ⊎ ((adds change ≡ false) × (room_asked change ≡ None)) → length (filter adds (change ∷ changes)) ≡ 0 → (length (filter adds changes) ≡ 0 → AreReserved reserved changes) → AreReserved reserved (change ∷ changes)
    by (inl is) none rest = let more = rw is.0 at none in absurd (omega (arith, more))
    by (inr is) none rest = let fewer = rw is.0 at none in rw is.1 (λ x e. cc, rest fewer)

-- the first change that adds an object is the one alone
pub one_reserved : (reserved : Option Change) (changes : List Change) → length (filter adds changes) ≤ 1 → ForSome (find adds changes) (λ change. reserved ≡ Some change) → AreReserved reserved changes
one_reserved reserved [] one kept = tt
one_reserved reserved (change ∷ changes) one kept = by (asks change) one kept (one_reserved reserved changes)
  where
    by : ((adds change ≡ true) × (room_asked change ≡ Some change)) ⊎ ((adds change ≡ false) × (room_asked change ≡ None)) → length (filter adds (change ∷ changes)) ≤ 1 → ForSome (find adds (change ∷ changes)) (λ change. reserved ≡ Some change) → (length (filter adds changes) ≤ 1 → ForSome (find adds changes) (λ change. reserved ≡ Some change) → AreReserved reserved changes) → AreReserved reserved (change ∷ changes)
    by (inl is) one kept rest =
        let fewer = rw is.0 at one in
        let own = rw is.0 at kept in
        rw is.1 (own, none_reserved None changes (omega (arith, fewer)))
    by (inr is) one kept rest =
        let fewer = rw is.0 at one in
        let own = rw is.0 at kept in
        rw is.1 (λ x e. cc, rest fewer own)

found_asks : (changes : List Change) (change : Change) → find adds changes ≡ Some change → room_asked change ≡ Some change
found_asks [] change is = cc
found_asks (other ∷ changes) change is = by (asks other) is (found_asks changes change)
  where
    by : ((adds other ≡ true) × (room_asked other ≡ Some other)) ⊎ ((adds other ≡ false) × (room_asked other ≡ None)) → find adds (other ∷ changes) ≡ Some change → (find adds changes ≡ Some change → room_asked change ≡ Some change) → room_asked change ≡ Some change
    by (inl asked) is rest =
        let found : Some other ≡ Some change = rw asked.0 at is in
        let same : other ≡ change = cc in
        subst (λ x. room_asked x ≡ Some x) same asked.1
    by (inr asked) is rest = rest (rw asked.0 at is)

pub object_kept : (r : Result (Unit {0}) NoMemory) (reserved : Option Change) (changes : List Change) (change : Change) → length (filter adds changes) ≤ 1 → find adds changes ≡ Some change → OnOk r (reserved ≡ room_asked change) → OnOk r (AreReserved reserved changes)
object_kept (Ok x) reserved changes change one found kept =
    let own : reserved ≡ Some change = kept ∙ found_asks changes change found in
    one_reserved reserved changes one (λ x e. own ∙ (sym found ∙ e))
object_kept (Err e) reserved changes change one found kept = tt

pub none_kept : (reserved : Option Change) (changes : List Change) → length (filter adds changes) ≤ 1 → find adds changes ≡ None → AreReserved reserved changes
none_kept reserved changes one found = one_reserved reserved changes one (λ x e. let never : None ≡ Some x = sym found ∙ e in cc)

-- ---- changes, one after another

pub next_left : {X : Type 0} (xs : List X) (i : ℕ) (x : X) → i < length xs → get_or xs i x ≡ x → drop i xs ≡ x ∷ drop (i + 1) xs
next_left xs i x within is = drop_more xs i x within ∙ ap (λ y. y ∷ drop (i + 1) xs) is

-- what is left to do comes to the same as all
pub record Changing (c : ControlState) (changes : List Change) (now : ControlState) (left : List Change) : Type 0 where
  pub fits : FitChanges now.tables left
  pub countable : AreCountable left
  pub reserved : AreReserved now.reserved left
  pub comes_to : fold changed now left ≡ fold changed c changes

-- what a change makes of the tables and of what is reserved
kept_after : (c : ControlState) (change : Change) → ((changed c change).tables ≡ after_change c.tables change) × ((changed c change).reserved ≡ reserved_after c.reserved change)
kept_after c (AddVolume volume) = (refl, refl)
kept_after c (RemoveVolume id) = (refl, refl)
kept_after c (AddMapping mapping) = (refl, refl)
kept_after c (RemoveMapping id) = (refl, refl)
kept_after c (SetMapping mapping) = (refl, refl)
kept_after c (AddGroup group) = (refl, refl)
kept_after c (RemoveGroup id) = (refl, refl)

pub changing_next : (c : ControlState) (changes : List Change) (now next : ControlState) (change : Change) (left : List Change) → Changing c changes now (change ∷ left) → next ≡ changed now change → Changing c changes next left
changing_next c changes now next change left h is = record {
  fits = subst (λ t. FitChanges t left) (sym (ap (λ (s : ControlState). s.tables) is ∙ (kept_after now change).0)) h.fits.1;
  countable = h.countable.1;
  reserved = subst (λ r. AreReserved r left) (sym (ap (λ (s : ControlState). s.reserved) is ∙ (kept_after now change).1)) h.reserved.1;
  comes_to = ap (λ s. fold changed s left) is ∙ h.comes_to;
}

-- ---- what all changes make of the books, and what they leave

books_changed : (c : ControlState) (view : SheetView) (change : Change) → books_of (changed c change) view ≡ after_table_change (books_of c view) change
books_changed c view (AddVolume volume) = refl
books_changed c view (RemoveVolume id) = refl
books_changed c view (AddMapping mapping) = refl
books_changed c view (RemoveMapping id) = refl
books_changed c view (SetMapping mapping) = refl
books_changed c view (AddGroup group) = refl
books_changed c view (RemoveGroup id) = refl

pub all_changed : (c : ControlState) (view : SheetView) (changes : List Change) → books_of (fold changed c changes) view ≡ fold after_table_change (books_of c view) changes
all_changed c view [] = refl
all_changed c view (change ∷ changes) = all_changed (changed c change) view changes ∙ ap (λ b. fold after_table_change b changes) (books_changed c view change)

pub tables_changed : (c : ControlState) (changes : List Change) → (fold changed c changes).tables ≡ fold after_change c.tables changes
tables_changed c [] = refl
tables_changed c (change ∷ changes) = tables_changed (changed c change) changes ∙ ap (λ t. fold after_change t changes) (kept_after c change).0

-- what no change touches
pub record Same (c d : ControlState) : Type 0 where
  pub grain : d.grain ≡ c.grain
  pub flags : d.flags ≡ c.flags
  pub room : d.room ≡ c.room

same_changed : (c : ControlState) (change : Change) → Same c (changed c change)
same_changed c (AddVolume volume) = record { grain = refl; flags = refl; room = refl }
same_changed c (RemoveVolume id) = record { grain = refl; flags = refl; room = refl }
same_changed c (AddMapping mapping) = record { grain = refl; flags = refl; room = refl }
same_changed c (RemoveMapping id) = record { grain = refl; flags = refl; room = refl }
same_changed c (SetMapping mapping) = record { grain = refl; flags = refl; room = refl }
same_changed c (AddGroup group) = record { grain = refl; flags = refl; room = refl }
same_changed c (RemoveGroup id) = record { grain = refl; flags = refl; room = refl }

pub same_all : (c : ControlState) (changes : List Change) → Same c (fold changed c changes)
same_all c [] = record { grain = refl; flags = refl; room = refl }
same_all c (change ∷ changes) =
    let first = same_changed c change in
    let rest = same_all (changed c change) changes in
    record { grain = rest.grain ∙ first.grain; flags = rest.flags ∙ first.flags; room = rest.room ∙ first.room }

-- ---- events, one after another

pub record Flagging (c : ControlState) (events : List LaneEvent) (now : ControlState) (left : List LaneEvent) : Type 0 where
  pub room : works left ≤ now.room
  pub comes_to : fold flags_after now.flags left ≡ fold flags_after c.flags events
  pub same : now ≡ record c { flags = now.flags; room = now.room }

works_more : (event : LaneEvent) (events : List LaneEvent) → works (event ∷ events) ≡ cond (is_work event) 1 0 + works events
works_more event events = sum_by-cons (λ (e : LaneEvent). cond (is_work e) 1 0) event events

pub flagging_room : (c : ControlState) (events : List LaneEvent) (now : ControlState) (event : LaneEvent) (left : List LaneEvent) → Flagging c events now (event ∷ left) → cond (is_work event) 1 0 ≤ now.room
flagging_room c events now event left h = omega (arith, h.room, works_more event left)

pub flagging_next : (c : ControlState) (events : List LaneEvent) (now next : ControlState) (event : LaneEvent) (left : List LaneEvent) → Flagging c events now (event ∷ left) →
    next.flags ≡ flags_after now.flags event → now.room ≤ next.room + cond (is_work event) 1 0 → next ≡ record now { flags = next.flags; room = next.room } → Flagging c events next left
flagging_next c events now next event left h is room same = record {
  room = omega (arith, h.room, room, works_more event left);
  comes_to = ap (λ fs. fold flags_after fs left) is ∙ h.comes_to;
  same = same ∙ (λ k. record (h.same k) { flags = next.flags; room = next.room });
}

-- ---- changes and then events

module _ (c middle end : ControlState) (changes : List Change) (events : List LaneEvent) (did : middle ≡ fold changed c changes) where
  flags_kept : middle.flags ≡ c.flags
  flags_kept = ap (λ (s : ControlState). s.flags) did ∙ (same_all c changes).flags

  pub still_room : (n : ℕ) → n ≤ c.room → n ≤ middle.room
  still_room n le =
      let same : middle.room ≡ c.room = ap (λ (s : ControlState). s.room) did ∙ (same_all c changes).room in
      omega (arith, le, same)

  module _ (same : end ≡ record middle { flags = end.flags; room = end.room }) where
    pub applied_tables : end.tables ≡ fold after_change c.tables changes
    applied_tables = ap (λ (s : ControlState). s.tables) same ∙ (ap (λ (s : ControlState). s.tables) did ∙ tables_changed c changes)

    pub applied_grain : end.grain ≡ c.grain
    applied_grain = ap (λ (s : ControlState). s.grain) same ∙ (ap (λ (s : ControlState). s.grain) did ∙ (same_all c changes).grain)

    pub applied_books : end.flags ≡ fold flags_after middle.flags events → (view : SheetView) → books_of end view ≡ record (fold after_table_change (books_of c view) changes) { flags = fold flags_after c.flags events }
    applied_books is view =
        let flags : end.flags ≡ fold flags_after c.flags events = is ∙ ap (λ fs. fold flags_after fs events) flags_kept in
        ap (λ s. books_of s view) same
        ∙ ((λ k. record (books_of (did k) view) { flags = end.flags })
        ∙ (λ k. record (all_changed c view changes k) { flags = flags k }))
