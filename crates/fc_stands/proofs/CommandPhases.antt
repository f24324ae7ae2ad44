-- A settling, and what is decided after it, can be made ready and are done.
use Rattle.std.proofs.Common.{◌≡◌, ℕ, ◌+◌, ◌≤◌, List, ◌++◌, filter, fold, length, Option, sym, ◌∙◌, ap, subst, arith}
use Rattle.fc_base.specs.declared.command.Command.{Command}
use Rattle.fc_base.specs.declared.decision.Decision.{Decision}
use Rattle.fc_base.specs.declared.ids.VolId.{VolId}
use Rattle.fc_base.specs.declared.request.Effect.{Effect}
use Rattle.fc_base.specs.declared.request.Reply.{Reply}
use Rattle.fc_base.specs.declared.size.GrainSize.{GrainSize}
use Rattle.fc_books.specs.After.{after_table_change, flags_after}
use Rattle.fc_books.specs.Books.{Books}
use Rattle.fc_books.specs.Deciding.{IsLoopOf, settle}
use Rattle.fc_desk.specs.Changes.{AreCountable, adds}
use Rattle.fc_follow.specs.Following.{restarts}
use Rattle.fc_legal.specs.Lawful.{IsLawful}
use Rattle.fc_legal.specs.Steps.{after_settling, decided_on, left_by}
use Rattle.fc_legal.specs.Whole.{Whole}
use Rattle.fc_stands.specs.Phase.{StandsAt, CanPrepare, IsDone, IsReserved}
use Rattle.fc_stands.specs.Settling.{AreFew, CanSettle, IsSettling, IsSettled, CanDecide, IsDecisionOn, IsDoneAfter}
use Rattle.fc_stands.specs.Store.{StoreView}
use Rattle.fc_stands.proofs.CommandSteps.{settling_lawful, command_lawful}
use Rattle.fc_stands.proofs.OneAdded.{settling_adds, command_adds, countable}
use Rattle.fc_stands.proofs.PhaseStands.{IsThrough, events_through}

-- What a lawful decision adds has an id that isn't the last.
lawful_countable : (grain : GrainSize) (decisions : ℕ) (w : Whole) (d : Decision) → decisions ≤ 524289 → IsLawful grain decisions w d → length (filter adds d.changes) ≤ 1 → AreCountable d.changes
lawful_countable grain decisions w d few lawful one =
    let mid : Books = fold after_table_change w.books d.changes in
    let through : IsThrough mid (left_by grain w d).books (fold flags_after mid.flags d.events) = events_through (restarts w.rows) mid d.events in
    countable w.books d.changes one
    record {
      volume = omega (arith, few, through.next_volume, lawful.stands.few.volumes);
      mapping = omega (arith, few, through.next_mapping, lawful.stands.few.mappings);
      group = omega (arith, few, through.next_group, lawful.stands.few.groups);
    }

can_prepare : (s : StoreView) (decisions : ℕ) (w : Whole) (d : Decision) → decisions ≤ 524289 → StandsAt decisions s w → IsLawful s.control.grain decisions w d → length (filter adds d.changes) ≤ 1 → CanPrepare s d
can_prepare s decisions w d few stands lawful one = record { decided = (decisions, w, stands, lawful); one = one; countable = lawful_countable s.control.grain decisions w d few lawful one }

-- ---- the settling

pub settling_can : (s : StoreView) (d : Decision) → CanSettle s → IsSettling s d → CanPrepare s d
settling_can s d can settling =
    let decisions : ℕ = can.0 in
    let w : Whole = can.1 in
    let few : AreFew decisions w = can.2 in
    let stands : StandsAt decisions s w = can.3 in
    subst (λ (x : Decision). CanPrepare s x) (sym (settling decisions w stands))
    (can_prepare s decisions w (settle w.books) (omega (arith, few.0, few.1)) stands (settling_lawful s.control.grain decisions w few.0 few.1 stands.stands) (settling_adds w.books))

pub settling_done : (old mid new : StoreView) (d : Decision) (effects : List Effect) → effects ≡ d.effects → IsSettling old d → IsReserved old mid → IsDone d mid new → (decisions : ℕ) (w : Whole) → AreFew decisions w → StandsAt decisions old w →
    (effects ≡ (settle w.books).effects) × StandsAt (decisions + 1) new (after_settling old.control.grain w)
settling_done old mid new d effects are settling reserved done decisions w few stands =
    let same : d ≡ settle w.books = settling decisions w stands in
    let lawful : IsLawful old.control.grain decisions w d = subst (λ (x : Decision). IsLawful old.control.grain decisions w x) (sym same) (settling_lawful old.control.grain decisions w few.0 few.1 stands.stands) in
    let after : StandsAt (decisions + 1) new (left_by mid.control.grain w d) = done.stands decisions w (reserved.stands decisions w stands) (subst (λ (g : GrainSize). IsLawful g decisions w d) (sym reserved.grain) lawful) in (
      are ∙ ap (λ (x : Decision). x.effects) same,
      subst (λ (g : GrainSize). StandsAt (decisions + 1) new (left_by g w (settle w.books))) reserved.grain
          (subst (λ (x : Decision). StandsAt (decisions + 1) new (left_by mid.control.grain w x)) same after),
    )

-- ---- what is decided after it

-- What is decided of a settled store's command.
record IsLawfulAfter (s : StoreView) (decisions : ℕ) (w : Whole) (command : Command) (d : Decision) : Type 0 where
  pub loop : Option (List VolId)
  pub told : IsLoopOf s.control.grain (after_settling s.control.grain w).books command loop
  pub same : d ≡ decided_on s.control.grain (after_settling s.control.grain w) command loop
  pub lawful : IsLawful s.control.grain (decisions + 1) (after_settling s.control.grain w) d

lawful_after : (s : StoreView) (decisions : ℕ) (w : Whole) (command : Command) (d : Decision) → IsSettled decisions s w → IsDecisionOn s command d → IsLawfulAfter s decisions w command d
lawful_after s decisions w command d is decision =
    let found = decision (decisions + 1) (after_settling s.control.grain w) is.now in
    let loop : Option (List VolId) = found.0 in
    let told : IsLoopOf s.control.grain (after_settling s.control.grain w).books command loop = found.1 in
    let same : d ≡ decided_on s.control.grain (after_settling s.control.grain w) command loop = found.2 in
    record {
      loop = loop;
      told = told;
      same = same;
      lawful = subst (λ (x : Decision). IsLawful s.control.grain (decisions + 1) (after_settling s.control.grain w) x) (sym same)
          (command_lawful s.control.grain decisions w command loop is.few.0 is.few.1 is.before told);
    }

pub decision_can : (s : StoreView) (command : Command) (d : Decision) → CanDecide s → IsDecisionOn s command d → CanPrepare s d
decision_can s command d can decision =
    let decisions : ℕ = can.0 in
    let w : Whole = can.1 in
    let is : IsSettled decisions s w = can.2 in
    let after : IsLawfulAfter s decisions w command d = lawful_after s decisions w command d is decision in
    can_prepare s (decisions + 1) (after_settling s.control.grain w) d (omega (arith, is.few.0, is.few.1)) is.now after.lawful
    (subst (λ (x : Decision). length (filter adds x.changes) ≤ 1) (sym after.same) (command_adds (restarts (after_settling s.control.grain w).rows) s.control.grain (after_settling s.control.grain w).books command after.loop))

pub decision_done : (old mid new : StoreView) (command : Command) (d : Decision) (reply : Reply) (before effects : List Effect) → IsDecisionOn old command d → IsReserved old mid → IsDone d mid new →
    reply ≡ d.reply → effects ≡ before ++ d.effects → (decisions : ℕ) (w : Whole) → IsSettled decisions old w → before ≡ (settle w.books).effects →
    IsDoneAfter decisions old.control.grain w command reply effects new
decision_done old mid new command d reply before effects decision reserved done answer joined decisions w is same =
    let grain : GrainSize = old.control.grain in
    let w1 : Whole = after_settling grain w in
    let after : IsLawfulAfter old decisions w command d = lawful_after old decisions w command d is decision in
    let stands : StandsAt (decisions + 1 + 1) new (left_by mid.control.grain w1 d) =
    done.stands (decisions + 1) w1 (reserved.stands (decisions + 1) w1 is.now) (subst (λ (g : GrainSize). IsLawful g (decisions + 1) w1 d) (sym reserved.grain) after.lawful) in
    record {
      loop = after.loop;
      told = after.told;
      replied = answer ∙ ap (λ (x : Decision). x.reply) after.same;
      effects_are = joined ∙ ap (λ (es : List Effect). es ++ d.effects) same ∙ ap (λ (x : Decision). (settle w.books).effects ++ x.effects) after.same;
      stands =
          subst (λ (g : GrainSize). StandsAt (decisions + 1 + 1) new (left_by g w1 (decided_on grain w1 command after.loop))) reserved.grain
          (subst (λ (x : Decision). StandsAt (decisions + 1 + 1) new (left_by mid.control.grain w1 x)) after.same stands);
    }
