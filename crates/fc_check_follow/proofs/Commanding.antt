-- Ways behind entries of commands.
use Rattle.std.proofs.Common.{◌≡◌, ◌≢◌, ◌∙◌, ◌⊎◌, inl, inr, List, [], ◌∷◌, ◌++◌, Option, refl, sym, ap, subst}
use Rattle.std.proofs.lemmas.List.{append_cancel_left}
use Rattle.fc_base.specs.declared.command.Command.{Command}
use Rattle.fc_base.specs.declared.decision.Decision.{Decision}
use Rattle.fc_base.specs.declared.decision.LaneEvent.{LaneEvent}
use Rattle.fc_base.specs.declared.ids.VolId.{VolId}
use Rattle.fc_base.specs.declared.request.Effect.{Effect}
use Rattle.fc_base.specs.declared.request.Reply.{Reply}
use Rattle.fc_base.specs.declared.request.Reply.TheVariants.{NoMemory}
use Rattle.fc_base.specs.declared.size.GrainSize.{GrainSize}
use Rattle.fc_base.specs.declared.volume.Change.{Change}
use Rattle.fc_books.specs.After.{after_all}
use Rattle.fc_books.specs.Deciding.{IsLoopOf, settle}
use Rattle.fc_entry.specs.PlainStep.{after_effects}
use Rattle.fc_entry.specs.declared.entry.Entry.{Entry}
use Rattle.fc_follow.specs.Following.{restarts}
use Rattle.fc_legal.specs.Steps.{CommandLeft, CommandStep, after_settling, decided_on, left_by, one_more, rows_after}
use Rattle.fc_legal.specs.Steps.CommandLeft.{decided, unsettled, settled_alone}
use Rattle.fc_legal.specs.Whole.{Whole}
use Rattle.law_stands.specs.Commands.{WasSettled, WasUndone}
use Rattle.fc_check_record.specs.Judged.{Judged}
use Rattle.fc_check_follow.specs.Following.{Came, DoesNothing, IsOfCommand, LeavesAll, LeavesDecided, LeavesSettled}
use Rattle.fc_check_follow.proofs.Coming.{came_as, came_none, came_one}
use Rattle.fc_check_follow.proofs.Laws.{commands}

-- A way that a decision is left on, and one entry more.
abbrev pub left_on : Judged → Decision → Judged
left_on way d = record { grain = way.grain; whole = left_by way.grain way.whole d }

abbrev pub counted : Judged → Judged
counted way = record { grain = way.grain; whole = one_more way.whole }

-- ---- no memory, nothing done

pub unsettled_none : (way : Judged) (entry : Entry) (old : List Judged) → (entry.effects ≡ [] → ⊥) → Came way.grain (LeavesAll way.whole entry) old old
unsettled_none way entry old other = came_none way.grain (LeavesAll way.whole entry) old (λ next told. other told.no_effects)

pub unsettled_one : (way : Judged) (entry : Entry) (old new : List Judged) → entry.effects ≡ [] → new ≡ old ++ counted way ∷ [] → Came way.grain (LeavesAll way.whole entry) old new
unsettled_one way entry old new none is =
    came_one way.grain (LeavesAll way.whole entry) old new (one_more way.whole) is (record { no_effects = none; next_is = refl }) (λ next told. told.next_is)

-- ---- no memory, settled

pub settled_none : (way : Judged) (settling : Decision) (entry : Entry) (old : List Judged) → settling ≡ settle way.whole.books → (entry.effects ≡ settling.effects → ⊥) →
    Came way.grain (LeavesSettled way.grain way.whole entry) old old
settled_none way settling entry old is other =
    came_none way.grain (LeavesSettled way.grain way.whole entry) old (λ next told. other (told.effects ∙ ap (λ (d : Decision). d.effects) (sym is)))

pub settled_one : (way copied settled : Judged) (settling : Decision) (entry : Entry) (old new : List Judged) → settling ≡ settle way.whole.books → entry.effects ≡ settling.effects → copied ≡ way →
    settled ≡ left_on copied settling → new ≡ old ++ counted settled ∷ [] → Came way.grain (LeavesSettled way.grain way.whole entry) old new
settled_one way copied settled settling entry old new is effects same left came =
    let left_is : settled ≡ left_on way (settle way.whole.books) = left ∙ (ap (λ (j : Judged). left_on j settling) same ∙ ap (left_on way) is) in
    came_one way.grain (LeavesSettled way.grain way.whole entry) old new (one_more (after_settling way.grain way.whole)) (came ∙ ap (λ (j : Judged). old ++ counted j ∷ []) left_is)
    (record { effects = effects ∙ ap (λ (d : Decision). d.effects) is; next_is = refl })
    (λ next told. told.next_is)

-- ---- a settling that does nothing

abbrev left_with : GrainSize → Whole → List Effect → List LaneEvent → List Change → Whole
left_with grain w effects events changes =
    record w {
      books = after_all (restarts w.rows) events changes w.books;
      picture = after_effects grain w.picture effects;
      rows = rows_after w.books.sheet w.rows events;
    }

left_same : (grain : GrainSize) (w : Whole) (effects : List Effect) (events : List LaneEvent) (changes : List Change) → effects ≡ [] → events ≡ [] → changes ≡ [] → left_with grain w effects events changes ≡ w
left_same grain w effects events changes no_effects no_events no_changes =
    ap (λ (x : List Effect). left_with grain w x events changes) no_effects
    ∙ (ap (λ (x : List LaneEvent). left_with grain w [] x changes) no_events ∙ ap (λ (x : List Change). left_with grain w [] [] x) no_changes)

pub nothing_left : (grain : GrainSize) (w : Whole) (d : Decision) → DoesNothing d → left_by grain w d ≡ w
nothing_left grain w d none = left_same grain w d.effects d.events d.changes none.no_effects none.no_events none.no_changes

pub wanting_once : (way : Judged) (settling : Decision) (entry : Entry) (old new : List Judged) → settling ≡ settle way.whole.books → DoesNothing settling → Came way.grain (LeavesAll way.whole entry) old new →
    Came way.grain (λ next. LeavesAll way.whole entry next ⊎ LeavesSettled way.grain way.whole entry next) old new
wanting_once way settling entry old new is none came =
    let idle : DoesNothing (settle way.whole.books) = subst DoesNothing is none in
    came_as way.grain (LeavesAll way.whole entry) (λ next. LeavesAll way.whole entry next ⊎ LeavesSettled way.grain way.whole entry next) old new (λ next told. inl told)
    (λ next told. back idle next told) came
  where
    back : DoesNothing (settle way.whole.books) → (next : Whole) → LeavesAll way.whole entry next ⊎ LeavesSettled way.grain way.whole entry next → LeavesAll way.whole entry next
    back idle next (inl told) = told
    back idle next (inr told) = record {
      no_effects = told.effects ∙ idle.no_effects;
      next_is = told.next_is ∙ ap one_more (nothing_left way.grain way.whole (settle way.whole.books) idle);
    }

-- ---- a command that wanted memory

module _ (grain : GrainSize) (w : Whole) (command : Command) (entry : Entry) where
  wanted : IsOfCommand entry → entry.reply ≡ NoMemory → (next : Whole) → LeavesAll w entry next ⊎ LeavesSettled grain w entry next → CommandStep grain w command entry next
  wanted of want next (inl told) =
      let E : List Effect → Type 0 = λ es. CommandLeft grain w command NoMemory es w in
      let R : Reply → Type 0 = λ r. CommandLeft grain w command r entry.effects w in
      record { place = of.place; apart = of.apart; left = w; leaves = subst R (sym want) (subst E (sym told.no_effects) unsettled); next_is = told.next_is }
  wanted of want next (inr told) =
      let E : List Effect → Type 0 = λ es. CommandLeft grain w command NoMemory es (after_settling grain w) in
      let R : Reply → Type 0 = λ r. CommandLeft grain w command r entry.effects (after_settling grain w) in
      record { place = of.place; apart = of.apart; left = after_settling grain w; leaves = subst R (sym want) (subst E (sym told.effects) settled_alone); next_is = told.next_is }

  undone : (next left : Whole) → next ≡ one_more left → WasUndone w NoMemory entry.effects left ⊎ WasSettled grain w NoMemory entry.effects left → LeavesAll w entry next ⊎ LeavesSettled grain w entry next
  undone next left is (inl was) = inl (record { no_effects = was.effects_are; next_is = is ∙ ap one_more was.left_is })
  undone next left is (inr was) = inr (record { effects = was.effects_are; next_is = is ∙ ap one_more was.left_is })

  wanting : entry.reply ≡ NoMemory → (next : Whole) → CommandStep grain w command entry next → LeavesAll w entry next ⊎ LeavesSettled grain w entry next
  wanting want next step =
      undone next step.left step.next_is
      (commands.wanting grain w command entry.effects step.left (subst (λ (r : Reply). CommandLeft grain w command r entry.effects step.left) want step.leaves))

  pub wanting_came : IsOfCommand entry → entry.reply ≡ NoMemory → (old new : List Judged) → Came grain (λ next. LeavesAll w entry next ⊎ LeavesSettled grain w entry next) old new →
      Came grain (CommandStep grain w command entry) old new
  wanting_came of want old new came =
      came_as grain (λ next. LeavesAll w entry next ⊎ LeavesSettled grain w entry next) (CommandStep grain w command entry) old new (wanted of want) (wanting want) came

  -- not an entry of a command
  pub other_came : (IsOfCommand entry → ⊥) → (old : List Judged) → Came grain (CommandStep grain w command entry) old old
  other_came other old = came_none grain (CommandStep grain w command entry) old (λ next step. other (record { place = step.place; apart = step.apart }))

-- ---- a command that was decided

-- Decided on settled books, some effects stand behind those of the settling.
pub record IsBehind (grain : GrainSize) (w : Whole) (command : Command) (reply : Reply) (effects : List Effect) (left : Whole) : Type 0 where
  pub rest : List Effect
  pub split : effects ≡ (settle w.books).effects ++ rest
  pub decided_so : LeavesDecided grain (after_settling grain w) command reply rest (one_more left)

behind_of : (grain : GrainSize) (w : Whole) (command : Command) (reply : Reply) (effects : List Effect) (left : Whole) → reply ≢ NoMemory → CommandLeft grain w command reply effects left →
    IsBehind grain w command reply effects left
behind_of grain w command reply effects left some (decided loop is_loop) = record {
  rest = (decided_on grain (after_settling grain w) command loop).effects;
  split = refl;
  decided_so = record { loop = loop; is_loop = is_loop; reply_is = refl; effects_are = refl; next_is = refl };
}
behind_of grain w command reply effects left some unsettled = absurd (some refl)
behind_of grain w command reply effects left some settled_alone = absurd (some refl)

-- No effects stand behind those of the settling.
pub decided_none : (way : Judged) (settling : Decision) (command : Command) (entry : Entry) (old : List Judged) → entry.reply ≢ NoMemory → settling ≡ settle way.whole.books →
    ((rest : List Effect) → entry.effects ≡ settling.effects ++ rest → ⊥) → Came way.grain (CommandStep way.grain way.whole command entry) old old
decided_none way settling command entry old some is other =
    came_none way.grain (CommandStep way.grain way.whole command entry) old
    (λ next step.
    let b : IsBehind way.grain way.whole command entry.reply entry.effects step.left = behind_of way.grain way.whole command entry.reply entry.effects step.left some step.leaves in
    other b.rest (b.split ∙ ap (λ (d : Decision). d.effects ++ b.rest) (sym is)))

-- These do, and what was decided came.
module _ (grain : GrainSize) (w : Whole) (command : Command) (entry : Entry) (rest : List Effect) where
  stepped : IsOfCommand entry → entry.effects ≡ (settle w.books).effects ++ rest → (next : Whole) → LeavesDecided grain (after_settling grain w) command entry.reply rest next → CommandStep grain w command entry next
  stepped of split next told =
      let d : Decision = decided_on grain (after_settling grain w) command told.loop in
      let left : Whole = left_by grain (after_settling grain w) d in
      let effects : entry.effects ≡ (settle w.books).effects ++ d.effects = split ∙ ap (λ (es : List Effect). (settle w.books).effects ++ es) told.effects_are in
      let E : List Effect → Type 0 = λ es. CommandLeft grain w command d.reply es left in
      let R : Reply → Type 0 = λ r. CommandLeft grain w command r entry.effects left in
      record { place = of.place; apart = of.apart; left = left; leaves = subst R (sym told.reply_is) (subst E (sym effects) (decided told.loop told.is_loop)); next_is = told.next_is }

  told : entry.reply ≢ NoMemory → entry.effects ≡ (settle w.books).effects ++ rest → (next : Whole) → CommandStep grain w command entry next → LeavesDecided grain (after_settling grain w) command entry.reply rest next
  told some split next step =
      let b : IsBehind grain w command entry.reply entry.effects step.left = behind_of grain w command entry.reply entry.effects step.left some step.leaves in
      let one : b.rest ≡ rest = append_cancel_left (settle w.books).effects b.rest rest (sym b.split ∙ split) in
      subst (λ (v : Whole). LeavesDecided grain (after_settling grain w) command entry.reply rest v) (sym step.next_is)
      (subst (λ (es : List Effect). LeavesDecided grain (after_settling grain w) command entry.reply es (one_more step.left)) one b.decided_so)

pub decided_came : (way settled : Judged) (settling : Decision) (command : Command) (entry : Entry) (rest : List Effect) (old new : List Judged) → IsOfCommand entry → entry.reply ≢ NoMemory → settling ≡ settle way.whole.books →
    entry.effects ≡ settling.effects ++ rest → settled ≡ left_on way settling → Came settled.grain (LeavesDecided settled.grain settled.whole command entry.reply rest) old new →
    Came way.grain (CommandStep way.grain way.whole command entry) old new
decided_came way settled settling command entry rest old new of some is split left came =
    let left_is : settled ≡ left_on way (settle way.whole.books) = left ∙ ap (left_on way) is in
    let split_is : entry.effects ≡ (settle way.whole.books).effects ++ rest = split ∙ ap (λ (d : Decision). d.effects ++ rest) is in
    came_as way.grain (LeavesDecided way.grain (after_settling way.grain way.whole) command entry.reply rest) (CommandStep way.grain way.whole command entry) old new
    (stepped way.grain way.whole command entry rest of split_is) (told way.grain way.whole command entry rest some split_is)
    (subst (λ (j : Judged). Came j.grain (LeavesDecided j.grain j.whole command entry.reply rest) old new) left_is came)

-- ---- what is decided is compared with an entry

-- A decision that was asked for: by some loop, which is told in one way.
pub record IsDecision (way : Judged) (command : Command) (d : Decision) : Type 0 where
  pub loop : Option (List VolId)
  pub is_loop : IsLoopOf way.grain way.whole.books command loop
  pub decision_is : d ≡ decided_on way.grain way.whole command loop

one_decision : (way : Judged) (command : Command) (d : Decision) (asked : IsDecision way command d) (loop : Option (List VolId)) → IsLoopOf way.grain way.whole.books command loop →
    decided_on way.grain way.whole command loop ≡ d
one_decision way command d asked loop is_loop =
    ap (decided_on way.grain way.whole command) (commands.loop way.grain way.whole.books command loop asked.loop is_loop asked.is_loop) ∙ sym asked.decision_is

pub decision_none : (way : Judged) (command : Command) (d : Decision) (reply : Reply) (effects : List Effect) (old : List Judged) → IsDecision way command d →
    ((reply ≡ d.reply) × (effects ≡ d.effects) → ⊥) → Came way.grain (LeavesDecided way.grain way.whole command reply effects) old old
decision_none way command d reply effects old asked other =
    came_none way.grain (LeavesDecided way.grain way.whole command reply effects) old
    (λ next told.
    let one : decided_on way.grain way.whole command told.loop ≡ d = one_decision way command d asked told.loop told.is_loop in
    other (told.reply_is ∙ ap (λ (x : Decision). x.reply) one, told.effects_are ∙ ap (λ (x : Decision). x.effects) one))

pub decision_one : (way left : Judged) (command : Command) (d : Decision) (reply : Reply) (effects : List Effect) (old new : List Judged) → IsDecision way command d → (reply ≡ d.reply) × (effects ≡ d.effects) →
    left ≡ left_on way d → new ≡ old ++ counted left ∷ [] → Came way.grain (LeavesDecided way.grain way.whole command reply effects) old new
decision_one way left command d reply effects old new asked same left_is is =
    let e : Decision = decided_on way.grain way.whole command asked.loop in
    let there : left ≡ left_on way e = left_is ∙ ap (left_on way) asked.decision_is in
    came_one way.grain (LeavesDecided way.grain way.whole command reply effects) old new (one_more (left_by way.grain way.whole e)) (is ∙ ap (λ (j : Judged). old ++ counted j ∷ []) there)
    (record {
      loop = asked.loop;
      is_loop = asked.is_loop;
      reply_is = same.0 ∙ ap (λ (x : Decision). x.reply) asked.decision_is;
      effects_are = same.1 ∙ ap (λ (x : Decision). x.effects) asked.decision_is;
      next_is = refl;
    })
    (λ next told. told.next_is ∙ ap (λ (x : Decision). one_more (left_by way.grain way.whole x)) (one_decision way command d asked told.loop told.is_loop ∙ asked.decision_is))

pub is_decision : (way : Judged) (command : Command) (d : Decision) → ((loop : Option (List VolId)) × IsLoopOf way.grain way.whole.books command loop × (d ≡ decided_on way.grain way.whole command loop)) → IsDecision way command d
is_decision way command d told = record { loop = told.0; is_loop = told.1; decision_is = told.2 }
