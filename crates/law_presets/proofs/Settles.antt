-- A settling leaves of the mappings what finishes and all others: each is settled by itself.
use Rattle.std.proofs.Common.{◌≡◌, ◌≢◌, ℕ, Bool, true, false, not, ◌&&◌, cond, List, [], ◌∷◌, ◌++◌, map, fold, refl, sym, ap, subst, ◌∙◌, Contains}
use Rattle.std.specs.Prelude.{◌==◌, filter}
use Rattle.std.specs.List.{flat_map}
use Rattle.std.proofs.lemmas.Bool.{eq-eqb, ne_eqb}
use Rattle.fc_base.specs.States.{next_state}
use Rattle.fc_base.specs.Tables.{Tables, after_change}
use Rattle.fc_base.specs.declared.decision.LaneEvent.{LaneEvent}
use Rattle.fc_base.specs.declared.decision.LaneEvent.TheVariants.{NoteCut}
use Rattle.fc_base.specs.declared.request.Effect.TheVariants.{Cut}
use Rattle.fc_base.specs.declared.state.MapEvent.TheVariants.{Finish}
use Rattle.fc_base.specs.declared.state.MapState.{MapState}
use Rattle.fc_base.specs.declared.state.MapState.TheVariants.{IdleOrCopied, Copying, Stopping, Stopped}
use Rattle.fc_base.specs.declared.volume.Change.{Change}
use Rattle.fc_base.specs.declared.volume.Change.TheVariants.{RemoveMapping, SetMapping}
use Rattle.fc_base.specs.declared.volume.Mapping.{Mapping}
use Rattle.fc_books.specs.Accesses.{is_active, is_idle}
use Rattle.fc_books.specs.After.{after_all}
use Rattle.fc_books.specs.Books.{Books, Deed, nothing}
use Rattle.fc_books.specs.Copies.{held, is_needed, is_whole, kept}
use Rattle.fc_books.specs.Deciding.{after_decision, settle}
use Rattle.fc_books.specs.Ending.{comes_to, cut_of, ends_by, ends_in, goes_from, in_state, as_left}
use Rattle.fc_books.specs.Settling.{finishes, settles_in, settling}
use Rattle.fc_decided.proofs.Frame.{all_leave, tables_through}
use Rattle.fc_decided.proofs.Lists.{first_in, later_in}
use Rattle.fc_decided.proofs.Quiet.{first_apart, rest_ordered}
use Rattle.fc_decided.proofs.Setting.{AreOrdered, set_one}
use Rattle.law_presets.specs.Left.{AreLeft, HasFinished, HasGone, finished, gone, may_finish, none, stayed}

-- ---- the tables after a decision

pub tables_after : (sets : ℕ → List Bool) (b : Books) (es : List LaneEvent) (cs : List Change) → (after_all sets es cs b).tables ≡ fold after_change b.tables cs
tables_after sets b es cs = ap (λ (x : Books). x.tables) (all_leave sets b es cs) ∙ tables_through b cs

-- ---- changes of mappings alone

abbrev is_other : ℕ → Mapping → Bool
is_other n m = not (n == m.id.0)

-- The mappings after one.
abbrev change_in : List Mapping → Change → List Mapping
change_in maps (SetMapping n) = map (set_one n) maps
change_in maps (RemoveMapping id) = filter (is_other id.0) maps
change_in maps change = maps

-- It sets or removes a mapping, with such an id.
abbrev IsOf : (ℕ → Type 0) → Change → Type 0
IsOf P (SetMapping n) = P n.id.0
IsOf P (RemoveMapping id) = P id.0
IsOf P change = ⊥

abbrev AreOf : (ℕ → Type 0) → List Change → Type 0
AreOf P [] = Unit {0}
AreOf P (c ∷ cs) = IsOf P c × AreOf P cs

of_append : (P : ℕ → Type 0) (xs ys : List Change) → AreOf P xs → AreOf P ys → AreOf P (xs ++ ys)
of_append P [] ys first second = second
of_append P (x ∷ xs) ys first second = (first.0, of_append P xs ys first.1 second)

abbrev with_mappings : Tables → List Mapping → Tables
with_mappings t maps = record t { mappings = maps }

abbrev IsAny : ℕ → Type 0
IsAny n = Unit {0}

tables_of : (t : Tables) (cs : List Change) → AreOf IsAny cs → fold after_change t cs ≡ with_mappings t (fold change_in t.mappings cs)
tables_of t [] of = refl
tables_of t (SetMapping n ∷ cs) of = tables_of (after_change t (SetMapping n)) cs of.1
tables_of t (RemoveMapping id ∷ cs) of = tables_of (after_change t (RemoveMapping id)) cs of.1
tables_of t (c ∷ cs) of = absurd of.0

-- ---- those of other mappings

-- No mapping has this id.
abbrev pub IsApart : ℕ → List Mapping → Type 0
IsApart n ms = (x : Mapping) → Contains ms x → x.id.0 ≢ n

tail_apart : (n : ℕ) (m : Mapping) (ms : List Mapping) → IsApart n (m ∷ ms) → IsApart n ms
tail_apart n m ms apart x found = apart x (later_in m x ms found)

set_same : (n m : Mapping) → n.id.0 ≡ m.id.0 → set_one n m ≡ n
set_same n m e = rw (eq-eqb n.id.0 m.id.0 e) refl

set_other : (n m : Mapping) → n.id.0 ≢ m.id.0 → set_one n m ≡ m
set_other n m differ = rw (ne_eqb n.id.0 m.id.0 differ) refl

set_none : (n : Mapping) (ms : List Mapping) → IsApart n.id.0 ms → map (set_one n) ms ≡ ms
set_none n [] apart = refl
set_none n (m ∷ ms) apart =
    ap (λ (x : Mapping). x ∷ map (set_one n) ms) (set_other n m (λ e. apart m (first_in m ms) (sym e)))
    ∙ ap (λ (xs : List Mapping). m ∷ xs) (set_none n ms (tail_apart n.id.0 m ms apart))

filter_none : (n : ℕ) (ms : List Mapping) → IsApart n ms → filter (is_other n) ms ≡ ms
filter_none n [] apart = refl
filter_none n (m ∷ ms) apart =
    ap (λ (b : Bool). cond (not b) (m ∷ filter (is_other n) ms) (filter (is_other n) ms)) (ne_eqb n m.id.0 (λ e. apart m (first_in m ms) (sym e)))
    ∙ ap (λ (xs : List Mapping). m ∷ xs) (filter_none n ms (tail_apart n m ms apart))

head_stays : (m : Mapping) (ms : List Mapping) (cs : List Change) → AreOf (λ n. n ≢ m.id.0) cs → fold change_in (m ∷ ms) cs ≡ m ∷ fold change_in ms cs
head_stays m ms [] of = refl
head_stays m ms (SetMapping n ∷ cs) of =
    ap (λ (x : Mapping). fold change_in (x ∷ map (set_one n) ms) cs) (set_other n m of.0) ∙ head_stays m (map (set_one n) ms) cs of.1
head_stays m ms (RemoveMapping id ∷ cs) of =
    let rest : List Mapping = filter (is_other id.0) ms in
    ap (λ (b : Bool). fold change_in (cond (not b) (m ∷ rest) rest) cs) (ne_eqb id.0 m.id.0 of.0) ∙ head_stays m rest cs of.1
head_stays m ms (c ∷ cs) of = absurd of.0

-- ---- one mapping is settled

-- What its changes make of it.
data Ends (m : Mapping) : List Change → List Mapping → Type 0 where
  unchanged : Ends m [] (m ∷ [])
  was_set : {n : Mapping} → n.id.0 ≡ m.id.0 → HasFinished m n → Ends m (SetMapping n ∷ []) (n ∷ [])
  was_removed : HasGone m → Ends m (RemoveMapping m.id ∷ []) []

record EndsBy (m : Mapping) (cs : List Change) : Type 0 where
  left : List Mapping
  ends : Ends m cs left

as_it_was : (m : Mapping) → EndsBy m []
as_it_was m = record { left = m ∷ []; ends = unchanged }

and_first : (x y : Bool) → (x && y) ≡ true → x ≡ true
and_first true y e = refl
and_first false y e = e

-- The mapping, as it is known of its copy.
abbrev as_kept : Mapping → ℕ → Bool → Mapping
as_kept m held complete = record m { held_at_leave = held; complete = complete }

rests_in : (m : Mapping) (held : ℕ) (complete : Bool) (state : MapState) → may_finish m.state ≡ true → is_active state ≡ false →
    EndsBy m (ends_in state (as_kept m held complete)).changes
rests_in m held complete state was rests = by (m.autodelete && is_idle state) refl
  where
    by : (goes : Bool) → (m.autodelete && is_idle state) ≡ goes →
        EndsBy m (cond goes (goes_from state (as_kept m held complete)) (comes_to state (as_kept m held complete))).changes
    by true e = record { left = []; ends = was_removed (record { was = was; autodelete = and_first m.autodelete (is_idle state) e }) }
    by false e =
        record {
          left = in_state state (as_kept m held complete) ∷ [];
          ends = was_set refl (record { was = was; rests = rests; same = refl });
        }

either_changes : (test : Bool) (first second : Deed) → first.changes ≡ [] → second.changes ≡ [] → (cond test first second).changes ≡ []
either_changes true first second e f = e
either_changes false first second e f = f

cut_changes : (b : Books) (m : Mapping) → (cut_of b m).changes ≡ []
cut_changes b m =
    either_changes (is_whole b m) nothing record { effects = Cut m.target (kept b m) ∷ []; events = NoteCut m.id m.source m.target ∷ []; changes = [] } refl refl

copying_ends : (b : Books) (m : Mapping) (whole needed : Bool) → m.state ≡ Copying → EndsBy m (finishes (next_state Copying Finish whole needed) b m).changes
copying_ends b m true false is =
    subst (λ (cs : List Change). EndsBy m (cs ++ (ends_in IdleOrCopied (as_left b m)).changes)) (sym (cut_changes b m))
    (rests_in m (held b m) (is_whole b m) IdleOrCopied (ap may_finish is) refl)
copying_ends b m true true is = as_it_was m
copying_ends b m false needed is = as_it_was m

stopping_ends : (b : Books) (m : Mapping) (complete needed : Bool) → m.state ≡ Stopping → EndsBy m (ends_by (next_state Stopping Finish complete needed) m).changes
stopping_ends b m complete true is = as_it_was m
stopping_ends b m true false is = rests_in m m.held_at_leave m.complete IdleOrCopied (ap may_finish is) refl
stopping_ends b m false false is = rests_in m m.held_at_leave m.complete Stopped (ap may_finish is) refl

settles_one : (b : Books) (m : Mapping) (state : MapState) → m.state ≡ state → EndsBy m (settles_in state b m).changes
settles_one b m Copying is = copying_ends b m (is_whole b m) (is_needed b m) is
settles_one b m Stopping is = stopping_ends b m m.complete (is_needed b m) is
settles_one b m state is = as_it_was m

-- ---- all are

abbrev changes_of : Books → Mapping → List Change
changes_of b m = (settles_in m.state b m).changes

ends_of : (P : ℕ → Type 0) (m : Mapping) (cs : List Change) (left : List Mapping) → P m.id.0 → Ends m cs left → AreOf P cs
ends_of P m cs left p unchanged = tt
ends_of P m cs left p (was_set is h) = (subst P (sym is) p, tt)
ends_of P m cs left p (was_removed h) = (p, tt)

all_of : (P : ℕ → Type 0) (b : Books) (ms : List Mapping) → ((x : Mapping) → Contains ms x → P x.id.0) → AreOf P (flat_map (changes_of b) ms)
all_of P b [] each = tt
all_of P b (m ∷ ms) each =
    let one : EndsBy m (changes_of b m) = settles_one b m m.state refl in
    of_append P (changes_of b m) (flat_map (changes_of b) ms) (ends_of P m (changes_of b m) one.left (each m (first_in m ms)) one.ends)
    (all_of P b ms (λ x found. each x (later_in m x ms found)))

record LeftBy (ms : List Mapping) (cs : List Change) : Type 0 where
  left : List Mapping
  are : AreLeft ms left
  is : fold change_in ms cs ≡ left

one_more : (m : Mapping) (ms : List Mapping) (cs : List Change) (own : List Mapping) (ds : List Change) → Ends m cs own → IsApart m.id.0 ms → AreOf (λ n. n ≢ m.id.0) ds →
    LeftBy ms ds → LeftBy (m ∷ ms) (cs ++ ds)
one_more m ms cs own ds unchanged apart of rest =
    record {
      left = m ∷ rest.left;
      are = stayed rest.are;
      is = head_stays m ms ds of ∙ ap (λ (xs : List Mapping). m ∷ xs) rest.is;
    }
one_more m ms cs own ds (was_set {n = n} is h) apart of rest =
    record {
      left = n ∷ rest.left;
      are = finished h rest.are;
      is =
          ap (λ (x : Mapping). fold change_in (x ∷ map (set_one n) ms) ds) (set_same n m is)
          ∙ ap (λ (xs : List Mapping). fold change_in (n ∷ xs) ds) (set_none n ms (subst (λ (i : ℕ). IsApart i ms) (sym is) apart))
          ∙ head_stays n ms ds (subst (λ (i : ℕ). AreOf (λ k. k ≢ i) ds) (sym is) of)
          ∙ ap (λ (xs : List Mapping). n ∷ xs) rest.is;
    }
one_more m ms cs own ds (was_removed h) apart of rest =
    let others : List Mapping = filter (is_other m.id.0) ms in
    record {
      left = rest.left;
      are = gone h rest.are;
      is =
          ap (λ (b : Bool). fold change_in (cond (not b) (m ∷ others) others) ds) (eq-eqb m.id.0 m.id.0 refl)
          ∙ ap (λ (xs : List Mapping). fold change_in xs ds) (filter_none m.id.0 ms apart)
          ∙ rest.is;
    }

settles_all : (b : Books) (ms : List Mapping) → AreOrdered ms → LeftBy ms (flat_map (changes_of b) ms)
settles_all b [] ordered = record { left = []; are = none; is = refl }
settles_all b (m ∷ ms) ordered =
    let one : EndsBy m (changes_of b m) = settles_one b m m.state refl in
    let apart : IsApart m.id.0 ms = λ x found. first_apart m x ms ordered found in
    one_more m ms (changes_of b m) one.left (flat_map (changes_of b) ms) one.ends apart (all_of (λ n. n ≢ m.id.0) b ms apart)
    (settles_all b ms (rest_ordered m ms ordered))

-- ---- the settling

pub record SettlesTo (old new : Tables) : Type 0 where
  pub mappings : List Mapping
  pub left : AreLeft old.mappings mappings
  pub is : new ≡ record old { mappings = mappings }

pub settles_to : (sets : ℕ → List Bool) (b : Books) → AreOrdered b.tables.mappings → SettlesTo b.tables (after_decision sets b (settle b)).tables
unfolding settling
settles_to sets b ordered =
    let cs : List Change = flat_map (changes_of b) b.tables.mappings in
    let all : LeftBy b.tables.mappings cs = settles_all b b.tables.mappings ordered in
    record {
      mappings = all.left;
      left = all.are;
      is =
          tables_after sets b (settle b).events (settle b).changes
          ∙ tables_of b.tables cs (all_of IsAny b b.tables.mappings (λ x found. tt))
          ∙ ap (with_mappings b.tables) all.is;
    }
