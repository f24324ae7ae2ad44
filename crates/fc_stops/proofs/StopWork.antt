-- The background work after stops.
use Rattle.std.proofs.Common.{◌≡◌, ◌∙◌, sym, ap, ℕ, Bool, true, false, cond, not, ◌||◌, ◌==◌, nat_le, List, [], ◌∷◌, ◌++◌, map, fold, Option, Some, None, refl, arith, append_assoc}
use Rattle.std.specs.List.{filter, flat_map}
use Rattle.std.specs.Option.{option_map_or, option_and_then}
use Rattle.std.proofs.lemmas.Bool.{eqb-true}
use Rattle.fc_base.specs.SheetView.{held_of, count_true}
use Rattle.fc_base.specs.Tables.{volume_with}
use Rattle.fc_base.specs.declared.decision.LaneEvent.{LaneEvent}
use Rattle.fc_base.specs.declared.decision.LaneEvent.TheVariants.{Make, Remove, Trigger, Retire, Detach, Split, Force, Drop, Forget, NoteCut, Access, Work, Arm}
use Rattle.fc_base.specs.declared.volume.Change.{Change}
use Rattle.fc_base.specs.declared.volume.Change.TheVariants.{AddVolume, RemoveVolume, AddMapping, RemoveMapping, SetMapping, AddGroup, RemoveGroup}
use Rattle.fc_base.specs.declared.volume.Mapping.{Mapping}
use Rattle.fc_base.specs.declared.volume.Volume.{Volume}
use Rattle.fc_books.specs.Accesses.{is_copying}
use Rattle.fc_books.specs.After.{after_table_change, sheet_after, flags_after, after_event, after_deed}
use Rattle.fc_books.specs.Books.{Books, Deed}
use Rattle.fc_books.specs.Copies.{held, total, is_whole}
use Rattle.fc_books.specs.Work.{work_events}
use Rattle.fc_desk.proofs.Removing.{row_with, row_stays, tells}
use Rattle.fc_stops.proofs.StopHeld.{events_hold}
use Rattle.fc_desk.proofs.Working.{each_told}
use Rattle.fc_stops.specs.Stops.{set_by, mapping_after, told_of, told_after, changes_in, changes_some, removes_in, removes_some, leaves_some, forgets_in, forgets_some, IsStopEvent, AreStopEvents, IsStopChange, AreStopChanges, IsStop}
use Rattle.fc_desk.specs.Telling.{work_told}
use Rattle.fc_pick.specs.declared.work.WorkFlags.{WorkFlags}

-- ---- the tables

abbrev pub list_of : Option Mapping → List Mapping
list_of None = []
list_of (Some m) = m ∷ []

abbrev pub all_after : List Change → List Mapping → List Mapping
all_after changes maps = flat_map (λ m. list_of (mapping_after changes m)) maps

abbrev pub with_mappings : Books → List Mapping → Books
with_mappings b maps = record b { tables = record b.tables { mappings = maps } }

set_first : (n m : Mapping) (rest : List Mapping) (b : Bool) → (cond b n m ∷ rest) ≡ (list_of (cond b (Some n) (Some m)) ++ rest)
set_first n m rest true = refl
set_first n m rest false = refl

set_all : (n : Mapping) (maps : List Mapping) → map (λ (m : Mapping). cond (n.id.0 == m.id.0) n m) maps ≡ flat_map (λ m. list_of (set_by (SetMapping n) m)) maps
set_all n [] = refl
set_all n (m ∷ ms) = ap (λ rest. cond (n.id.0 == m.id.0) n m ∷ rest) (set_all n ms) ∙ set_first n m (flat_map (λ x. list_of (set_by (SetMapping n) x)) ms) (n.id.0 == m.id.0)

gone_first : (m : Mapping) (rest : List Mapping) (b : Bool) → cond (not b) (m ∷ rest) rest ≡ (list_of (cond b None (Some m)) ++ rest)
gone_first m rest true = refl
gone_first m rest false = refl

gone_all : (c : Change) (n : ℕ) (maps : List Mapping) → ((m : Mapping) → set_by c m ≡ cond (n == m.id.0) None (Some m)) → filter (λ (m : Mapping). not (n == m.id.0)) maps ≡ flat_map (λ m. list_of (set_by c m)) maps
gone_all c n [] is = refl
gone_all c n (m ∷ ms) is =
    ap (λ rest. cond (not (n == m.id.0)) (m ∷ rest) rest) (gone_all c n ms is)
    ∙ gone_first m (flat_map (λ x. list_of (set_by c x)) ms) (n == m.id.0)
    ∙ ap (λ o. list_of o ++ flat_map (λ x. list_of (set_by c x)) ms) (sym (is m))

one_change : (b : Books) (c : Change) → IsStopChange c → after_table_change b c ≡ with_mappings b (flat_map (λ m. list_of (set_by c m)) b.tables.mappings)
one_change b (AddVolume volume) is = absurd is
one_change b (RemoveVolume id) is = absurd is
one_change b (AddMapping mapping) is = absurd is
one_change b (AddGroup group) is = absurd is
one_change b (RemoveGroup id) is = absurd is
one_change b (SetMapping n) is = ap (with_mappings b) (set_all n b.tables.mappings)
one_change b (RemoveMapping id) is = ap (with_mappings b) (gone_all (RemoveMapping id) id.0 b.tables.mappings (λ m. refl))

all_same : (maps : List Mapping) → all_after [] maps ≡ maps
all_same [] = refl
all_same (m ∷ ms) = ap (λ rest. m ∷ rest) (all_same ms)

one_then : (cs : List Change) (o : Option Mapping) (rest : List Mapping) → all_after cs (list_of o ++ rest) ≡ (list_of (option_and_then (mapping_after cs) o) ++ all_after cs rest)
one_then cs None rest = refl
one_then cs (Some m) rest = refl

all_then : (c : Change) (cs : List Change) (maps : List Mapping) → all_after cs (flat_map (λ m. list_of (set_by c m)) maps) ≡ all_after (c ∷ cs) maps
all_then c cs [] = refl
all_then c cs (m ∷ ms) =
    one_then cs (set_by c m) (flat_map (λ x. list_of (set_by c x)) ms)
    ∙ ap (λ rest. list_of (mapping_after (c ∷ cs) m) ++ rest) (all_then c cs ms)

-- The changes of stops change mappings alone.
pub changes_make : (b : Books) (cs : List Change) → AreStopChanges cs → fold after_table_change b cs ≡ with_mappings b (all_after cs b.tables.mappings)
changes_make b [] are = ap (with_mappings b) (sym (all_same b.tables.mappings))
changes_make b (c ∷ cs) are =
    ap (λ x. fold after_table_change x cs) (one_change b c are.0)
    ∙ changes_make (with_mappings b (flat_map (λ m. list_of (set_by c m)) b.tables.mappings)) cs are.1
    ∙ ap (with_mappings b) (all_then c cs b.tables.mappings)

-- ---- what events leave

pub events_tables : (restarts : ℕ → List Bool) (b : Books) (es : List LaneEvent) → (fold (after_event restarts) b es).tables ≡ b.tables
events_tables restarts b [] = refl
events_tables restarts b (e ∷ es) = events_tables restarts (after_event restarts b e) es

pub events_sheet : (restarts : ℕ → List Bool) (b : Books) (es : List LaneEvent) → (fold (after_event restarts) b es).sheet ≡ fold (sheet_after restarts) b.sheet es
events_sheet restarts b [] = refl
events_sheet restarts b (e ∷ es) = events_sheet restarts (after_event restarts b e) es

events_flags : (restarts : ℕ → List Bool) (b : Books) (es : List LaneEvent) → (fold (after_event restarts) b es).flags ≡ fold flags_after b.flags es
events_flags restarts b [] = refl
events_flags restarts b (e ∷ es) = events_flags restarts (after_event restarts b e) es

either : (a b : Bool) → (a || b) ≡ false → (a ≡ false) × (b ≡ false)
either true b e = grind (arith, e)
either false b e = (refl, e)

event_row : (flags : List WorkFlags) (e : LaneEvent) (n : ℕ) → IsStopEvent e → forgets_in n e ≡ false → row_with (flags_after flags e) n ≡ row_with flags n
event_row flags (Make volume grains kind) n is other = absurd is
event_row flags (Remove volume) n is other = absurd is
event_row flags (Trigger pairs) n is other = absurd is
event_row flags (Drop slot) n is other = absurd is
event_row flags (Work x copies cleans) n is other = absurd is
event_row flags (Arm volume grain calls) n is other = absurd is
event_row flags (Forget x) n is other = row_stays x.0 n flags other
event_row flags (Retire x) n is other = refl
event_row flags (Detach x) n is other = refl
event_row flags (Split x) n is other = refl
event_row flags (Force x ds) n is other = refl
event_row flags (NoteCut x source target) n is other = refl
event_row flags (Access volume access) n is other = refl

events_row : (flags : List WorkFlags) (es : List LaneEvent) (n : ℕ) → AreStopEvents es → forgets_some n es ≡ false → row_with (fold flags_after flags es) n ≡ row_with flags n
events_row flags [] n are other = refl
events_row flags (e ∷ es) n are other =
    let parts = either (forgets_in n e) (forgets_some n es) other in
    events_row (flags_after flags e) es n are.1 parts.1 ∙ event_row flags e n are.0 parts.0

-- ---- a mapping after the changes

pub record Kept (cs : List Change) (m n : Mapping) : Type 0 where
  pub same_id : n.id.0 ≡ m.id.0
  pub stays : removes_some m.id.0 cs ≡ false
  pub ended : changes_some m.id.0 cs ≡ true → is_copying n.state ≡ false
  pub else_same : changes_some m.id.0 cs ≡ false → n ≡ m

some_is : (m n : Mapping) → Some m ≡ Some n → n ≡ m
some_is m n e = grind (arith, e)

by_cases : (b : Bool) (P : Type 0) → (b ≡ true → P) → (b ≡ false → P) → P
by_cases true P t f = t refl
by_cases false P t f = f refl

kept_set : (x m n : Mapping) (cs : List Change) (b : Bool) → (x.id.0 == m.id.0) ≡ b → is_copying x.state ≡ false → (Some n ≡ mapping_after cs x → Kept cs x n) → (Some n ≡ mapping_after cs m → Kept cs m n) → Some n ≡ option_and_then (mapping_after cs) (cond b (Some x) (Some m)) → Kept (SetMapping x ∷ cs) m n
kept_set x m n cs true is ends with_x with_m e =
    let rest : Kept cs x n = with_x e in
    let same : x.id.0 ≡ m.id.0 = eqb-true x.id.0 m.id.0 is in
    record {
      same_id = rest.same_id ∙ same;
      stays = ap (λ k. removes_some k cs) (sym same) ∙ rest.stays;
      ended = λ changed. by_cases (changes_some x.id.0 cs) (is_copying n.state ≡ false) rest.ended (λ none. ap (λ (y : Mapping). is_copying y.state) (rest.else_same none) ∙ ends);
      else_same = λ none. grind (arith, is, (either (x.id.0 == m.id.0) (changes_some m.id.0 cs) none).0);
    }
kept_set x m n cs false is ends with_x with_m e =
    let rest : Kept cs m n = with_m e in
    record {
      same_id = rest.same_id;
      stays = rest.stays;
      ended = λ changed. rest.ended (sym (ap (λ z. z || changes_some m.id.0 cs) is) ∙ changed);
      else_same = λ none. rest.else_same (sym (ap (λ z. z || changes_some m.id.0 cs) is) ∙ none);
    }

kept_gone : (id : ℕ) (c : Change) (m n : Mapping) (cs : List Change) (b : Bool) → (id == m.id.0) ≡ b → removes_in m.id.0 c ≡ (id == m.id.0) → changes_in m.id.0 c ≡ (id == m.id.0) → (Some n ≡ mapping_after cs m → Kept cs m n) → Some n ≡ option_and_then (mapping_after cs) (cond b None (Some m)) → Kept (c ∷ cs) m n
kept_gone id c m n cs true is removes changes with_m e = grind (arith, e)
kept_gone id c m n cs false is removes changes with_m e =
    let rest : Kept cs m n = with_m e in
    record {
      same_id = rest.same_id;
      stays = ap (λ z. z || removes_some m.id.0 cs) (removes ∙ is) ∙ rest.stays;
      ended = λ changed. rest.ended (sym (ap (λ z. z || changes_some m.id.0 cs) (changes ∙ is)) ∙ changed);
      else_same = λ none. rest.else_same (sym (ap (λ z. z || changes_some m.id.0 cs) (changes ∙ is)) ∙ none);
    }

pub after_kept : (cs : List Change) (m n : Mapping) → AreStopChanges cs → Some n ≡ mapping_after cs m → Kept cs m n
after_kept [] m n are e =
    let same : n ≡ m = sym (some_is n m e) in
    record { same_id = ap (λ (x : Mapping). x.id.0) same; stays = refl; ended = λ changed. grind (arith, changed); else_same = λ none. same }
after_kept (AddVolume volume ∷ cs) m n are e = absurd are.0
after_kept (RemoveVolume id ∷ cs) m n are e = absurd are.0
after_kept (AddMapping mapping ∷ cs) m n are e = absurd are.0
after_kept (AddGroup group ∷ cs) m n are e = absurd are.0
after_kept (RemoveGroup id ∷ cs) m n are e = absurd are.0
after_kept (SetMapping x ∷ cs) m n are e =
    kept_set x m n cs (x.id.0 == m.id.0) refl are.0 (λ f. after_kept cs x n are.1 f) (λ f. after_kept cs m n are.1 f) e
after_kept (RemoveMapping id ∷ cs) m n are e =
    kept_gone id.0 (RemoveMapping id) m n cs (id.0 == m.id.0) refl refl refl (λ f. after_kept cs m n are.1 f) e

-- ---- the work

other_copies : (row : Option WorkFlags) (whole whole' : Bool) (m : Mapping) (c : Bool) → is_copying m.state ≡ c → (c ≡ true → whole ≡ whole') → tells row whole m ≡ tells row whole' m
other_copies row whole whole' m true is same = ap (λ w. tells row w m) (same refl)
other_copies row whole whole' m false is same = rw is refl

pub whole_same : (b other : Books) (m : Mapping) → other.tables.volumes ≡ b.tables.volumes → held_of other.sheet.slots m.id.0 ≡ held_of b.sheet.slots m.id.0 → is_whole other m ≡ is_whole b m
whole_same b other m volumes holds =
    ap (λ vs. nat_le (option_map_or (λ (v : Volume). v.grains) (find_with vs) 0) (held other m)) volumes
    ∙ ap (λ h. nat_le (total b m) (count_true h)) holds
  where
    find_with : List Volume → Option Volume
    find_with vs = volume_with (record b.tables { volumes = vs }) m.target

told_same : (b other : Books) (o : Option Mapping) → ((n : Mapping) → Some n ≡ o → row_with other.flags n.id.0 ≡ row_with b.flags n.id.0) → ((n : Mapping) → Some n ≡ o → is_copying n.state ≡ true → is_whole other n ≡ is_whole b n) → flat_map (work_told other None) (list_of o) ≡ told_of b o
told_same b other None rows wholes = refl
told_same b other (Some n) rows wholes =
    no_more (work_told other None n)
    ∙ ap (λ r. tells r (is_whole other n) n) (rows n refl)
    ∙ other_copies (row_with b.flags n.id.0) (is_whole other n) (is_whole b n) n (is_copying n.state) refl (wholes n refl)
  where
    no_more : (xs : List LaneEvent) → xs ++ [] ≡ xs
    no_more [] = refl
    no_more (x ∷ xs) = ap (λ rest. x ∷ rest) (no_more xs)

split_told : {X : Type 0} (f : X → List LaneEvent) (xs ys : List X) → flat_map f (xs ++ ys) ≡ (flat_map f xs ++ flat_map f ys)
split_told f [] ys = refl
split_told f (x ∷ xs) ys = ap (λ rest. f x ++ rest) (split_told f xs ys) ∙ sym (append_assoc (f x) (flat_map f xs) (flat_map f ys))

all_told : (b other : Books) (cs : List Change) (maps : List Mapping) → ((m n : Mapping) → Some n ≡ mapping_after cs m → row_with other.flags n.id.0 ≡ row_with b.flags n.id.0) → ((m n : Mapping) → Some n ≡ mapping_after cs m → is_copying n.state ≡ true → is_whole other n ≡ is_whole b n) → flat_map (work_told other None) (all_after cs maps) ≡ flat_map (told_after b cs) maps
all_told b other cs [] rows wholes = refl
all_told b other cs (m ∷ ms) rows wholes =
    split_told (work_told other None) (list_of (mapping_after cs m)) (all_after cs ms)
    ∙ ap (λ es. es ++ flat_map (work_told other None) (all_after cs ms)) (told_same b other (mapping_after cs m) (λ n e. rows m n e) (λ n e. wholes m n e))
    ∙ ap (λ es. told_after b cs m ++ es) (all_told b other cs ms rows wholes)

-- a test that gives what contradicts is false
apart : (b : Bool) → (b ≡ true → ⊥) → b ≡ false
apart true f = absurd (f refl)
apart false f = refl

pub left_stays : (d : Deed) (m n : Mapping) → IsStop d → Some n ≡ mapping_after d.changes m → is_copying n.state ≡ true → leaves_some n.id.0 d.events ≡ false
left_stays d m n stop e copies =
    let kept = after_kept d.changes m n stop.changes e in
    apart (leaves_some n.id.0 d.events) (λ leaves.
    let ended : is_copying n.state ≡ false = kept.ended (ap (λ k. changes_some k d.changes) (sym kept.same_id) ∙ stop.left n.id.0 leaves) in
    grind (arith, ended, copies))

gone_stays : (d : Deed) (m n : Mapping) → IsStop d → Some n ≡ mapping_after d.changes m → forgets_some n.id.0 d.events ≡ false
gone_stays d m n stop e =
    let kept = after_kept d.changes m n stop.changes e in
    apart (forgets_some n.id.0 d.events) (λ forgets.
    let goes : removes_some m.id.0 d.changes ≡ true = ap (λ k. removes_some k d.changes) (sym kept.same_id) ∙ stop.gone n.id.0 forgets in
    let stays : removes_some m.id.0 d.changes ≡ false = kept.stays in
    grind (arith, goes, stays))

-- What the books are after stops.
pub record Stopped (restarts : ℕ → List Bool) (b : Books) (d : Deed) : Type 0 where
  pub tables : (after_deed restarts b d).tables ≡ (with_mappings b (all_after d.changes b.tables.mappings)).tables
  pub sheet : (after_deed restarts b d).sheet ≡ fold (sheet_after restarts) b.sheet d.events
  pub flags : (after_deed restarts b d).flags ≡ fold flags_after b.flags d.events

pub stopped : (restarts : ℕ → List Bool) (b : Books) (d : Deed) → IsStop d → Stopped restarts b d
stopped restarts b d stop =
    let make = changes_make b d.changes stop.changes in
    record {
      tables = events_tables restarts (fold after_table_change b d.changes) d.events ∙ ap (λ (x : Books). x.tables) make;
      sheet = events_sheet restarts (fold after_table_change b d.changes) d.events ∙ ap (λ (x : Books). fold (sheet_after restarts) x.sheet d.events) make;
      flags = events_flags restarts (fold after_table_change b d.changes) d.events ∙ ap (λ (x : Books). fold flags_after x.flags d.events) make;
    }

-- What a mapping that is copying after stops holds.
pub stopped_held : (restarts : ℕ → List Bool) (b : Books) (d : Deed) (m n : Mapping) → IsStop d → Some n ≡ mapping_after d.changes m → is_copying n.state ≡ true → held_of (after_deed restarts b d).sheet.slots n.id.0 ≡ held_of b.sheet.slots n.id.0
stopped_held restarts b d m n stop e copies =
    ap (λ s. held_of s.slots n.id.0) (stopped restarts b d stop).sheet
    ∙ events_hold restarts b.sheet d.events n.id.0 stop.events (left_stays d m n stop e copies)

-- The flags to tell after stops follow from the states, and from what was held before them.
pub stopped_work : (restarts : ℕ → List Bool) (b : Books) (d : Deed) → IsStop d → work_events (after_deed restarts b d) ≡ flat_map (told_after b d.changes) b.tables.mappings
unfolding work_events
stopped_work restarts b d stop =
    let other : Books = after_deed restarts b d in
    let is = stopped restarts b d stop in
    sym (each_told other other.tables.mappings)
    ∙ ap (λ t. flat_map (work_told other None) t.mappings) is.tables
    ∙ all_told b other d.changes b.tables.mappings
    (λ m n e. ap (λ f. row_with f n.id.0) is.flags ∙ events_row b.flags d.events n.id.0 stop.events (gone_stays d m n stop e))
    (λ m n e copies. whole_same b other n (ap (λ t. t.volumes) is.tables) (stopped_held restarts b d m n stop e copies))
