-- The members of a group, one after the other.
use Rattle.std.proofs.Common.{◌≡◌, ◌∙◌, sym, ap, ℕ, ◌+◌, ◌<◌, Bool, true, false, cond, not, ◌&&◌, ◌||◌, ◌==◌, List, [], ◌∷◌, ◌++◌, length, map, take, get_or, Option, Some, None, Contains, refl, arith}
use Rattle.std.specs.List.{filter}
use Rattle.std.specs.Option.{option_and_then}
use Rattle.std.proofs.lemmas.List.{take_more}
use Rattle.fc_base.specs.Tables.{mapping_with}
use Rattle.fc_base.specs.declared.command.StopWay.{StopWay}
use Rattle.fc_base.specs.declared.ids.GroupId.{GroupId}
use Rattle.fc_base.specs.declared.ids.MapId.{MapId}
use Rattle.fc_base.specs.declared.volume.Change.{Change}
use Rattle.fc_base.specs.declared.volume.Change.TheVariants.{AddVolume, RemoveVolume, AddMapping, RemoveMapping, SetMapping, AddGroup, RemoveGroup}
use Rattle.fc_base.specs.declared.volume.Mapping.{Mapping}
use Rattle.fc_books.specs.After.{after_deed}
use Rattle.fc_books.specs.Books.{Books, Deed, nothing, ◌then◌}
use Rattle.fc_books.specs.Groups.{acts_on, is_member}
use Rattle.fc_books.specs.Sound.{AreSound}
use Rattle.fc_books.specs.Stopping.{stops, stops_in, stops_member, one_by_one}
use Rattle.fc_registry.proofs.Places.{rises}
use Rattle.fc_desk.proofs.Deeds.{then-nothing}
use Rattle.fc_stops.proofs.StopMember.{AreDone, Reached, member_is}
use Rattle.fc_stops.proofs.StopOrder.{no_sets, one_more, after_same, found_after}
use Rattle.fc_stops.proofs.StopWork.{stopped}
use Rattle.fc_stops.specs.Stops.{mapping_after, changes_some, stop_asked, AreStopChanges}
use Rattle.fc_stops.specs.StopGroups.{IsLeftAnswer, one_stop, stops_of, stops_in_group, stops_now}

-- ---- a mapping that was stopped isn't stopped again

by_cases : (b : Bool) (P : Type 0) → (b ≡ true → P) → (b ≡ false → P) → P
by_cases true P t f = t refl
by_cases false P t f = f refl

ended_set : (way : StopWay) (x m n : Mapping) (cs : List Change) (b : Bool) → (x.id.0 == m.id.0) ≡ b → acts_on way x.state ≡ false → (Some n ≡ mapping_after cs x → changes_some x.id.0 cs ≡ true → acts_on way n.state ≡ false) → (Some n ≡ mapping_after cs m → changes_some m.id.0 cs ≡ true → acts_on way n.state ≡ false) → Some n ≡ option_and_then (mapping_after cs) (cond b (Some x) (Some m)) → (b || changes_some m.id.0 cs) ≡ true → acts_on way n.state ≡ false
ended_set way x m n cs true is ends with_x with_m e changed =
    by_cases (changes_some x.id.0 cs) (acts_on way n.state ≡ false) (with_x e) (λ none.
    let both : Some n ≡ Some x = e ∙ after_same cs x none in
    let same : n ≡ x = grind (arith, both) in
    ap (λ (y : Mapping). acts_on way y.state) same ∙ ends)
ended_set way x m n cs false is ends with_x with_m e changed = with_m e changed

ended_gone : (way : StopWay) (m n : Mapping) (cs : List Change) (b : Bool) → (Some n ≡ mapping_after cs m → changes_some m.id.0 cs ≡ true → acts_on way n.state ≡ false) → Some n ≡ option_and_then (mapping_after cs) (cond b None (Some m)) → (b || changes_some m.id.0 cs) ≡ true → acts_on way n.state ≡ false
ended_gone way m n cs true with_m e changed = grind (arith, e)
ended_gone way m n cs false with_m e changed = with_m e changed

after_ended : (way : StopWay) (cs : List Change) (m n : Mapping) → AreDone way cs → AreStopChanges cs → Some n ≡ mapping_after cs m → changes_some m.id.0 cs ≡ true → acts_on way n.state ≡ false
after_ended way [] m n done are e changed = grind (arith, changed)
after_ended way (AddVolume volume ∷ cs) m n done are e changed = absurd are.0
after_ended way (RemoveVolume id ∷ cs) m n done are e changed = absurd are.0
after_ended way (AddMapping mapping ∷ cs) m n done are e changed = absurd are.0
after_ended way (AddGroup group ∷ cs) m n done are e changed = absurd are.0
after_ended way (RemoveGroup id ∷ cs) m n done are e changed = absurd are.0
after_ended way (SetMapping x ∷ cs) m n done are e changed =
    ended_set way x m n cs (x.id.0 == m.id.0) refl done.0 (λ f c. after_ended way cs x n done.1 are.1 f c) (λ f c. after_ended way cs m n done.1 are.1 f c) e changed
after_ended way (RemoveMapping id ∷ cs) m n done are e changed =
    ended_gone way m n cs (id.0 == m.id.0) (λ f c. after_ended way cs m n done.1 are.1 f c) e changed

-- ---- what is done of one mapping

found : (way : StopWay) (b : Books) (d : Deed) (m : Mapping) → AreSound b → Reached way b d → Contains b.tables.mappings m → mapping_with (after_deed no_sets b d).tables m.id ≡ mapping_after d.changes m
found way b d m sound reached in' =
    ap (λ t. mapping_with t m.id) (stopped no_sets b d reached.stop).tables
    ∙ found_after d.changes b.tables.mappings m reached.stop.changes (rises (λ (x : Mapping). x.id.0) b.tables.mappings sound.tables.mappings.rising) in'

ended_none : (way : StopWay) (b : Books) (o : Option Mapping) → ((n : Mapping) → Some n ≡ o → acts_on way n.state ≡ false) → stops_member way b o ≡ nothing
ended_none way b None ends = refl
ended_none way b (Some n) ends = ap (λ c. cond c (stops way b n) nothing) (ends n refl)

one_changed : (way : StopWay) (b : Books) (d : Deed) (m : Mapping) → AreSound b → Reached way b d → Contains b.tables.mappings m → changes_some m.id.0 d.changes ≡ true → one_stop way (after_deed no_sets b d) m.id ≡ nothing
one_changed way b d m sound reached in' changed =
    ap (stops_member way (after_deed no_sets b d)) (found way b d m sound reached in')
    ∙ ended_none way (after_deed no_sets b d) (mapping_after d.changes m) (λ n e. after_ended way d.changes m n reached.done reached.stop.changes e changed)

one_unchanged : (way : StopWay) (b : Books) (d : Deed) (m : Mapping) → AreSound b → Reached way b d → Contains b.tables.mappings m → changes_some m.id.0 d.changes ≡ false → one_stop way (after_deed no_sets b d) m.id ≡ cond (acts_on way m.state) (stops way (after_deed no_sets b d) m) nothing
one_unchanged way b d m sound reached in' same =
    ap (stops_member way (after_deed no_sets b d)) (found way b d m sound reached in' ∙ after_same d.changes m same)

one_acted : (way : StopWay) (b : Books) (d : Deed) (m : Mapping) (needed : Bool) (ids : List MapId) → AreSound b → Reached way b d → Contains b.tables.mappings m → changes_some m.id.0 d.changes ≡ false → acts_on way m.state ≡ true → IsLeftAnswer way b.sheet.slots d.changes m.id.0 needed ids → one_stop way (after_deed no_sets b d) m.id ≡ stop_asked m.state way needed ids b m
unfolding stops
one_acted way b d m needed ids sound reached in' same acts answer =
    one_unchanged way b d m sound reached in' same
    ∙ ap (λ c. cond c (stops_in m.state way (after_deed no_sets b d) m) nothing) acts
    ∙ member_is m.state way b d m needed ids sound reached same acts answer

-- ---- one more place

filter_push : (p : Mapping → Bool) (xs : List Mapping) (x : Mapping) → filter p (xs ++ x ∷ []) ≡ cond (p x) (filter p xs ++ x ∷ []) (filter p xs)
filter_push p [] x = refl
filter_push p (y ∷ ys) x = ap (λ rest. cond (p y) (y ∷ rest) rest) (filter_push p ys x) ∙ put (p y) (p x)
  where
    put : (b c : Bool) → cond b (y ∷ cond c (filter p ys ++ x ∷ []) (filter p ys)) (cond c (filter p ys ++ x ∷ []) (filter p ys)) ≡ cond c (cond b (y ∷ filter p ys) (filter p ys) ++ x ∷ []) (cond b (y ∷ filter p ys) (filter p ys))
    put true true = refl
    put true false = refl
    put false true = refl
    put false false = refl

ids_push : (xs : List Mapping) (x : Mapping) → map (λ (m : Mapping). m.id) (xs ++ x ∷ []) ≡ (map (λ (m : Mapping). m.id) xs ++ x.id ∷ [])
ids_push [] x = refl
ids_push (y ∷ ys) x = ap (λ rest. y.id ∷ rest) (ids_push ys x)

stops_push : (way : StopWay) (b : Books) (ms : List Mapping) (m : Mapping) → stops_of way b (ms ++ m ∷ []) ≡ (stops_of way b ms then one_stop way (after_deed no_sets b (stops_of way b ms)) m.id)
stops_push way b ms m =
    ap (one_by_one no_sets (one_stop way) b) (ids_push ms m) ∙ one_more no_sets (one_stop way) b (map (λ (x : Mapping). x.id) ms) m.id

abbrev pub so_far : StopWay → GroupId → Books → ℕ → Deed
so_far way g b i = stops_in_group way g b (take i b.tables.mappings)

next_place : (way : StopWay) (g : GroupId) (b : Books) (i : ℕ) (m : Mapping) (member : Bool) → i < length b.tables.mappings → m ≡ get_or b.tables.mappings i m → is_member g m ≡ member →
    so_far way g b (i + 1) ≡ cond member (so_far way g b i then one_stop way (after_deed no_sets b (so_far way g b i)) m.id) (so_far way g b i)
next_place way g b i m member lt at is =
    ap (stops_in_group way g b) (take_more b.tables.mappings i m lt ∙ ap (λ x. take i b.tables.mappings ++ x ∷ []) (sym at))
    ∙ ap (stops_of way b) (filter_push (is_member g) (take i b.tables.mappings) m ∙ ap (λ c. cond c (filter (is_member g) (take i b.tables.mappings) ++ m ∷ []) (filter (is_member g) (take i b.tables.mappings))) is)
    ∙ by_member member
  where
    by_member : (c : Bool) → stops_of way b (cond c (filter (is_member g) (take i b.tables.mappings) ++ m ∷ []) (filter (is_member g) (take i b.tables.mappings))) ≡ cond c (so_far way g b i then one_stop way (after_deed no_sets b (so_far way g b i)) m.id) (so_far way g b i)
    by_member true = stops_push way b (filter (is_member g) (take i b.tables.mappings)) m
    by_member false = refl

in_place : (maps : List Mapping) (i : ℕ) (m : Mapping) → i < length maps → m ≡ get_or maps i m → Contains maps m
in_place maps i m lt at = (i, lt, sym at)

-- A mapping that isn't stopped now changes nothing.
pub next_passed : (way : StopWay) (g : GroupId) (b : Books) (i : ℕ) (m : Mapping) → AreSound b → Reached way b (so_far way g b i) → i < length b.tables.mappings → m ≡ get_or b.tables.mappings i m → stops_now way g (so_far way g b i).changes m ≡ false → so_far way g b (i + 1) ≡ so_far way g b i
next_passed way g b i m sound reached lt at passed =
    next_place way g b i m (is_member g m) lt at refl ∙ by_member (is_member g m) (acts_on way m.state) (changes_some m.id.0 (so_far way g b i).changes) refl refl passed
  where
    same_deed : one_stop way (after_deed no_sets b (so_far way g b i)) m.id ≡ nothing → (so_far way g b i then one_stop way (after_deed no_sets b (so_far way g b i)) m.id) ≡ so_far way g b i
    same_deed e = ap (λ x. so_far way g b i then x) e ∙ then-nothing (so_far way g b i)

    by_member : (c a k : Bool) → acts_on way m.state ≡ a → changes_some m.id.0 (so_far way g b i).changes ≡ k → ((c && a) && not k) ≡ false → cond c (so_far way g b i then one_stop way (after_deed no_sets b (so_far way g b i)) m.id) (so_far way g b i) ≡ so_far way g b i
    by_member false a k is_a is_k e = refl
    by_member true a true is_a is_k e = same_deed (one_changed way b (so_far way g b i) m sound reached (in_place b.tables.mappings i m lt at) is_k)
    by_member true false false is_a is_k e = same_deed (one_unchanged way b (so_far way g b i) m sound reached (in_place b.tables.mappings i m lt at) is_k ∙ ap (λ x. cond x (stops way (after_deed no_sets b (so_far way g b i)) m) nothing) is_a)
    by_member true true false is_a is_k e = grind (arith, e)

pub record IsNow (way : StopWay) (g : GroupId) (changes : List Change) (m : Mapping) : Type 0 where
  pub member : is_member g m ≡ true
  pub acts : acts_on way m.state ≡ true
  pub same : changes_some m.id.0 changes ≡ false

pub now_parts : (way : StopWay) (g : GroupId) (changes : List Change) (m : Mapping) → stops_now way g changes m ≡ true → IsNow way g changes m
now_parts way g changes m e = by_parts (is_member g m) (acts_on way m.state) (changes_some m.id.0 changes) refl refl refl e
  where
    by_parts : (c a k : Bool) → is_member g m ≡ c → acts_on way m.state ≡ a → changes_some m.id.0 changes ≡ k → ((c && a) && not k) ≡ true → IsNow way g changes m
    by_parts true true false p q r e = record { member = p; acts = q; same = r }
    by_parts true true true p q r e = grind (arith, e)
    by_parts true false k p q r e = grind (arith, e)
    by_parts false a k p q r e = grind (arith, e)

pub next_stopped : (way : StopWay) (g : GroupId) (b : Books) (i : ℕ) (m : Mapping) (needed : Bool) (ids : List MapId) → AreSound b → Reached way b (so_far way g b i) → i < length b.tables.mappings → m ≡ get_or b.tables.mappings i m → stops_now way g (so_far way g b i).changes m ≡ true → IsLeftAnswer way b.sheet.slots (so_far way g b i).changes m.id.0 needed ids → so_far way g b (i + 1) ≡ (so_far way g b i then stop_asked m.state way needed ids b m)
next_stopped way g b i m needed ids sound reached lt at now answer =
    let parts = now_parts way g (so_far way g b i).changes m now in
    next_place way g b i m true lt at parts.member
    ∙ ap (λ x. so_far way g b i then x) (one_acted way b (so_far way g b i) m needed ids sound reached (in_place b.tables.mappings i m lt at) parts.same parts.acts answer)
