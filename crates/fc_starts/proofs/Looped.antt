-- A start that is refused for nothing but a loop of restores.
use Rattle.std.proofs.Common.{◌≡◌, ◌≢◌, ◌∙◌, sym, ap, subst, ℕ, Bool, true, false, cond, ◌||◌, ◌+◌, ◌==◌, nat_lt, List, [], ◌∷◌, map, Option, Some, None, refl}
use Rattle.std.specs.List.{Contains, count_by, find}
use Rattle.std.specs.Option.{option_map}
use Rattle.std.proofs.lemmas.Bool.{eqb-true}
use Rattle.fc_base.specs.Sheet.{shape_of}
use Rattle.fc_base.specs.SheetStep.{triggered}
use Rattle.fc_base.specs.SheetView.{LoopAnswer}
use Rattle.fc_base.specs.States.{next_state}
use Rattle.fc_base.specs.Tables.{mapping_named, refers_to}
use Rattle.fc_base.specs.declared.command.Command.{Command}
use Rattle.fc_base.specs.declared.command.Command.TheVariants.{Startfcmap}
use Rattle.fc_base.specs.declared.decision.Decision.{Decision}
use Rattle.fc_base.specs.declared.fault.Kind.TheVariants.{Fcmap}
use Rattle.fc_base.specs.declared.fault.Refusal.{Refusal}
use Rattle.fc_base.specs.declared.fault.Refusal.TheVariants.{NoSuch, TargetActive}
use Rattle.fc_base.specs.declared.ids.VolId.{VolId}
use Rattle.fc_base.specs.declared.name.Ref.{Ref}
use Rattle.fc_base.specs.declared.request.Reply.TheVariants.{Done, Refused}
use Rattle.fc_base.specs.declared.size.GrainSize.{GrainSize}
use Rattle.fc_base.specs.declared.state.MapState.{MapState}
use Rattle.fc_base.specs.declared.state.MapState.TheVariants.{Empty, IdleOrCopied, Preparing, Prepared, Copying, Stopping, Stopped}
use Rattle.fc_base.specs.declared.volume.Mapping.{Mapping}
use Rattle.fc_books.specs.Accesses.{is_copying, is_stopping}
use Rattle.fc_books.specs.Books.{Books, Deed, nothing}
use Rattle.fc_books.specs.Deciding.{decide, answered, refused, done, replied, for_one, with_work, IsLoopOf, LoopTold, LoopAfter, pairs_of}
use Rattle.fc_books.specs.Groups.{has_target}
use Rattle.fc_books.specs.Refused.{of_one, refused_by}
use Rattle.fc_books.specs.RefusedStarts.{in_group, by_state, not_ready, start_event, is_rival, target_active}
use Rattle.fc_books.specs.Sound.{AreSound}
use Rattle.fc_books.specs.Starting.{start, pair_of}
use Rattle.fc_starts.proofs.Preparing.{one_chosen, of_one_chosen, found_there}
use Rattle.fc_desk.proofs.Counting.{count_cons}
use Rattle.fc_starts.specs.Choosing.{is_chosen, chosen_of}
use Rattle.fc_starts.specs.Looping.{looped}
use Rattle.fc_starts.specs.Starts.{IsStartable, AreApart}
use Rattle.fc_starts.specs.declared.chosen.Chosen.TheVariants.{One}
use Rattle.fc_entry.specs.Refused.{first_of}

-- ---- what isn't refused

pub second_none : (x y : Option Refusal) (rest : List (Option Refusal)) → first_of (x ∷ y ∷ rest) ≡ None → y ≡ None
second_none None None rest e = refl
second_none None (Some r) rest e = absurd cc
second_none (Some r) y rest e = absurd cc

pub fourth_none : (w x y z : Option Refusal) (rest : List (Option Refusal)) → first_of (w ∷ x ∷ y ∷ z ∷ rest) ≡ None → z ≡ None
fourth_none None None None z rest e = second_none None z rest e
fourth_none None None (Some r) z rest e = absurd cc
fourth_none None (Some r) y z rest e = absurd cc
fourth_none (Some r) x y z rest e = absurd cc

pub unmapped : (o : Option Mapping) → option_map (λ (other : Mapping). TargetActive other.id) o ≡ None → o ≡ None
unmapped None e = refl
unmapped (Some m) e = absurd cc

quiet : (prep : Bool) (s : MapState) → refused_by (next_state s (start_event prep) true false) ≡ None → (is_copying s ≡ false) × (is_stopping s ≡ false)
quiet prep IdleOrCopied e = (refl, refl)
quiet prep Stopped e = (refl, refl)
quiet prep Prepared e = (refl, refl)
quiet prep Empty e = (refl, refl)
quiet prep Preparing e = (refl, refl)
quiet true Copying e = absurd cc
quiet false Copying e = absurd cc
quiet true Stopping e = absurd cc
quiet false Stopping e = absurd cc

one_startable : (b : Books) (prep restore : Bool) (m : Mapping) → first_of (in_group m ∷ by_state (start_event prep) m ∷ not_ready b restore m) ≡ None → IsStartable b.tables.mappings m
one_startable b prep restore m none =
    let by = second_none (in_group m) (by_state (start_event prep) m) (not_ready b restore m) none in
    let q = quiet prep m.state by in
    record { not_copying = q.0; not_stopping = q.1; no_rival = unmapped (find (is_rival m) b.tables.mappings) (fourth_none (in_group m) (by_state (start_event prep) m) _ (target_active b m) _ none) }

pub startable_one : (b : Books) (prep restore : Bool) (r : Ref) (m : Mapping) (found : Option Refusal) → AreSound b → mapping_named b.tables r ≡ Some m →
    found ≡ first_of (in_group m ∷ by_state (start_event prep) m ∷ not_ready b restore m) → found ≡ None → (z : Mapping) → Contains b.tables.mappings z → is_chosen (One m.id) z ≡ true → IsStartable b.tables.mappings z
startable_one b prep restore r m found sound there found_is none = of_one_chosen b r m (IsStartable b.tables.mappings) sound.tables.mappings there (one_startable b prep restore m (sym found_is ∙ none))

few_by : (b : Bool) → nat_lt 1 (cond b (1 + 0) 0) ≡ false
few_by true = refl
few_by false = refl

one_few : (m : Mapping) → nat_lt 1 (count_by (has_target m.target.0) (m ∷ [])) ≡ false
one_few m = ap (nat_lt 1) (count_cons (has_target m.target.0) m []) ∙ few_by (m.target.0 == m.target.0)

apart_eqb : (x y : ℕ) (t : Bool) → x ≢ y → (x == y) ≡ t → (x == y) ≡ false
apart_eqb x y false ne is = is
apart_eqb x y true ne is = absurd (ne (eqb-true x y is))

alone_apart : (m : Mapping) → m.source.0 ≢ m.target.0 → AreApart (m ∷ [])
alone_apart m ne =
    record {
      targets = ap (λ b. cond b (m.target.0 ∷ []) []) (one_few m);
      sources = ap (λ b. cond (b || false) (m.source.0 ∷ []) []) (apart_eqb m.target.0 m.source.0 (m.target.0 == m.source.0) (λ e. ne (sym e)) refl);
    }

pub apart_one : (b : Books) (r : Ref) (m : Mapping) → AreSound b → mapping_named b.tables r ≡ Some m → AreApart (chosen_of b.tables (One m.id))
apart_one b r m sound there =
    let found = found_there (λ (x : Mapping). refers_to r x.id.0 x.name) b.tables.mappings m there in
    subst (λ (ms : List Mapping). AreApart ms) (sym (one_chosen b r m sound.tables.mappings there)) (alone_apart m (sound.agree.mappings m found).apart)

-- ---- the decision

abbrev pub Answers : (ℕ → List Bool) → GrainSize → Books → Command → Decision → Type 0
Answers restarts grain b command decision = (loop : Option (List VolId)) × IsLoopOf grain b command loop × (decision ≡ decide restarts grain b command loop)

-- refused for another reason no loop is asked for
pub answers_refused : (restarts : ℕ → List Bool) (grain : GrainSize) (b : Books) (command : Command) (refusal : Refusal) (decision : Decision) → refused grain b command ≡ Some refusal → decision ≡ with_work restarts b (Refused refusal) nothing → Answers restarts grain b command decision
answers_refused restarts grain b command refusal decision is decision_is = (
  None,
  subst (λ (o : Option Refusal). LoopTold o b command None) (sym is) refl,
  decision_is ∙ sym (ap (λ o. answered restarts grain b command o None) is),
)

answered_looped : (restarts : ℕ → List Bool) (grain : GrainSize) (b : Books) (command : Command) (loop : Option (List VolId)) → replied grain b command ≡ Done → answered restarts grain b command None loop ≡ looped restarts b loop (done grain b command)
answered_looped restarts grain b command None is = ap (λ reply. with_work restarts b reply (done grain b command)) is
answered_looped restarts grain b command (Some volumes) is = refl

pub answers_looped :
    (restarts : ℕ → List Bool) (grain : GrainSize) (b : Books) (command : Command) (maps : List Mapping) (deed : Deed) (loop : Option (List VolId)) (decision : Decision) →
    refused grain b command ≡ None → replied grain b command ≡ Done → pairs_of b command ≡ maps → done grain b command ≡ deed → LoopAfter b maps loop → decision ≡ looped restarts b loop deed → Answers restarts grain b command decision
answers_looped restarts grain b command maps deed loop decision is replies pairs does loop_is decision_is = (
  loop,
  subst (λ (o : Option Refusal). LoopTold o b command loop) (sym is) (subst (λ (ms : List Mapping). LoopAfter b ms loop) (sym pairs) loop_is),
  decision_is ∙ sym (ap (λ o. answered restarts grain b command o loop) is ∙ answered_looped restarts grain b command loop replies ∙ ap (looped restarts b loop) does),
)

abbrev LoopOf : Books → List Mapping → Option (List VolId) → Type 0
LoopOf b maps loop = LoopAnswer (shape_of (triggered (map pair_of maps) b.sheet).slots) loop

-- ---- a single mapping

pub startfcmap_missing : (restarts : ℕ → List Bool) (grain : GrainSize) (b : Books) (prep restore : Bool) (r : Ref) (decision : Decision) → mapping_named b.tables r ≡ None → decision ≡ with_work restarts b (Refused (NoSuch Fcmap)) nothing → Answers restarts grain b (Startfcmap r prep restore) decision
startfcmap_missing restarts grain b prep restore r decision there decision_is =
    answers_refused restarts grain b (Startfcmap r prep restore) (NoSuch Fcmap) decision
    (ap (λ o. of_one Fcmap o (λ x. first_of (in_group x ∷ by_state (start_event prep) x ∷ not_ready b restore x))) there) decision_is

pub startfcmap_refused_for : (restarts : ℕ → List Bool) (grain : GrainSize) (b : Books) (prep restore : Bool) (r : Ref) (m : Mapping) (found : Option Refusal) (refusal : Refusal) (decision : Decision) → mapping_named b.tables r ≡ Some m →
    found ≡ first_of (in_group m ∷ by_state (start_event prep) m ∷ not_ready b restore m) → found ≡ Some refusal → decision ≡ with_work restarts b (Refused refusal) nothing → Answers restarts grain b (Startfcmap r prep restore) decision
startfcmap_refused_for restarts grain b prep restore r m found refusal decision there found_is is decision_is =
    answers_refused restarts grain b (Startfcmap r prep restore) refusal decision
    (ap (λ o. of_one Fcmap o (λ x. first_of (in_group x ∷ by_state (start_event prep) x ∷ not_ready b restore x))) there ∙ sym found_is ∙ is) decision_is

pairs_one : (b : Books) (prep restore : Bool) (r : Ref) (m : Mapping) → mapping_named b.tables r ≡ Some m → pairs_of b (Startfcmap r prep restore) ≡ m ∷ []
pairs_one b prep restore r m there = cc

pub startfcmap_done : (restarts : ℕ → List Bool) (grain : GrainSize) (b : Books) (prep restore : Bool) (r : Ref) (m : Mapping) (found : Option Refusal) (decision : Decision) → AreSound b → mapping_named b.tables r ≡ Some m →
    found ≡ first_of (in_group m ∷ by_state (start_event prep) m ∷ not_ready b restore m) → found ≡ None →
    (loop : Option (List VolId)) × LoopOf b (chosen_of b.tables (One m.id)) loop × (decision ≡ looped restarts b loop (start prep restore b.tables (chosen_of b.tables (One m.id)))) →
    Answers restarts grain b (Startfcmap r prep restore) decision
startfcmap_done restarts grain b prep restore r m found decision sound there found_is none made =
    let one = one_chosen b r m sound.tables.mappings there in
    answers_looped restarts grain b (Startfcmap r prep restore) (m ∷ []) (start prep restore b.tables (m ∷ [])) made.0 decision
    (ap (λ o. of_one Fcmap o (λ x. first_of (in_group x ∷ by_state (start_event prep) x ∷ not_ready b restore x))) there ∙ sym found_is ∙ none)
    refl (pairs_one b prep restore r m there)
    (ap (λ o. for_one o (λ x. start prep restore b.tables (x ∷ []))) there)
    (subst (λ (ms : List Mapping). LoopOf b ms made.0) one made.1)
    (made.2 ∙ ap (λ ms. looped restarts b made.0 (start prep restore b.tables ms)) one)
