-- A command is settled, decided and done.
use Rattle.std.proofs.Common.{ℕ, ◌<◌, ◌||◌, Bool, is_some, sym, subst, ◌∙◌, ◌≡◌, Err, Ok, true, ap, refl}
use Rattle.fc_marks.specs.declared.error.NotedStop.{NotedStop}
use Rattle.fc_meta.specs.States.{IsResting}
use Rattle.fc_stands.proofs.CommandPhases.{decision_can}
use Rattle.fc_stands.proofs.CommandRuns.{HasRoom, can_settle}
use Rattle.fc_stands.proofs.Frames.{all_go_on}
use Rattle.law_noted.specs.Records.{removed_by}
use Rattle.fc_noted.proofs.CommandEntry.{decides_then, done_leads, done_leaves, done_stops, good_anew, lanes_undone, settled_leaves, settled_stops, undone_leaves, undone_stops, unsettled_leaves, unsettled_stops, tried_into}
use Rattle.fc_noted.specs.Making.{AnewOr, TriesAnew, done}
use Rattle.std.proofs.lemmas.Result.{err_from_is_err_and}
use Rattle.fc_noted.proofs.MeteringNoted.{calls_of_error, no_calls, none_wanting, same_calls}
use Rattle.fc_noted.proofs.CallsMade.{never_failed, no_error, of_metadata}
use Rattle.fc_noted.proofs.noted.Noted.carry_out.Goals as goal

-- ---- what each call needs

pub settle-requires : goal.settle-requires
settle-requires g c =
    record {
      can = can_settle c.args.self.now.store (c.requires.at.0, c.requires.at.3.told.0, subst (λ (n : ℕ). n < 262144) (sym c.requires.at.3.told.1.entries) c.requires.at.4);
    }

pub plan_command-requires-clause-stands : goal.plan_command-requires-clause-stands
plan_command-requires-clause-stands g c =
    let room : HasRoom c.args.self.now.store = (c.requires.at.0, c.requires.at.3.told.0, subst (λ (n : ℕ). n < 262144) (sym c.requires.at.3.told.1.entries) c.requires.at.4) in
    decides_then c.args.self.now.store c.settle.new.self.store c.in_ok-settling.settling room c.settle.ensures.grain c.in_ok-settling.ensures.settled

pub act-requires-clause-can : goal.act-requires-clause-can
act-requires-clause-can g c =
    let room : HasRoom c.args.self.now.store = (c.requires.at.0, c.requires.at.3.told.0, subst (λ (n : ℕ). n < 262144) (sym c.requires.at.3.told.1.entries) c.requires.at.4) in
    decision_can c.settle.new.self.store c.args.command.now c.in_ok-decision.decision
    (decides_then c.args.self.now.store c.settle.new.self.store c.in_ok-settling.settling room c.settle.ensures.grain c.in_ok-settling.ensures.settled) c.in_ok-decision.ensures

pub act-requires-clause-rests : goal.act-requires-clause-rests
act-requires-clause-rests g c = subst (λ n. IsResting g.M.MetaDisk.seen g.M.MetaDisk.may_leave n.meta) (sym c.settle.ensures.others) c.requires.at.3.keeps.rests

pub act-requires-clause-good : goal.act-requires-clause-good
act-requires-clause-good g c =
    good_anew g.M.MetaDisk.seen g.M.MetaDisk.may_leave c.commanded_law.ensures c.args.self.now c.settle.new.self c.args.command.now c.requires.next c.settle.ensures.grain c.settle.ensures.lanes c.settle.ensures.others
    c.requires.at.2 c.requires.at.0 c.requires.at.1 c.requires.at.4 c.requires.at.3 c.in_ok-settling.settling c.in_ok-settling.ensures.settled c.requires.decided c.in_ok-decision.decision c.in_ok-decision.ensures

-- ---- it isn't settled

pub returns-in_err-settling-clause-any_moment : goal.returns-in_err-settling-clause-any_moment
returns-in_err-settling-clause-any_moment g c = λ history w least room at.
    unsettled_leaves g.M.MetaDisk.seen g.M.MetaDisk.may_leave c.commanded_law.ensures c.args.self.now c.settle.new.self c.args.command.now c.requires.next c.settle.ensures.grain c.settle.ensures.lanes c.settle.ensures.others
    history w least room at c.in_err-settling.ensures.starved g.M.MetaDisk.moment g.M.MetaDisk.left_since g.met.M.MetaDisk.only_now

pub returns-in_err-settling-clause-stopped : goal.returns-in_err-settling-clause-stopped
returns-in_err-settling-clause-stopped g c = λ history w least room at.
    unsettled_stops g.M.MetaDisk.seen g.M.MetaDisk.may_leave c.commanded_law.ensures c.args.self.now c.settle.new.self c.args.command.now c.requires.next c.settle.ensures.grain c.settle.ensures.lanes c.settle.ensures.others
    history w least room at c.in_err-settling.ensures.starved

-- ---- it is settled, and no memory is had for what is decided

pub returns-in_err-decision-clause-any_moment : goal.returns-in_err-decision-clause-any_moment
returns-in_err-decision-clause-any_moment g c = λ history w least room at.
    settled_leaves g.M.MetaDisk.seen g.M.MetaDisk.may_leave c.commanded_law.ensures c.args.self.now c.settle.new.self c.args.command.now c.requires.next c.settle.ensures.grain c.settle.ensures.lanes c.settle.ensures.others
    history w least room at c.in_ok-settling.settling c.in_ok-settling.ensures.settled g.M.MetaDisk.moment g.M.MetaDisk.left_since g.met.M.MetaDisk.only_now

pub returns-in_err-decision-clause-stopped : goal.returns-in_err-decision-clause-stopped
returns-in_err-decision-clause-stopped g c = λ history w least room at.
    settled_stops g.M.MetaDisk.seen g.M.MetaDisk.may_leave c.commanded_law.ensures c.args.self.now c.settle.new.self c.args.command.now c.requires.next c.settle.ensures.grain c.settle.ensures.lanes c.settle.ensures.others
    history w least room at c.in_ok-settling.settling c.in_ok-settling.ensures.settled

pub returns-in_err-joined-clause-any_moment : goal.returns-in_err-joined-clause-any_moment
returns-in_err-joined-clause-any_moment g c = λ history w least room at.
    settled_leaves g.M.MetaDisk.seen g.M.MetaDisk.may_leave c.commanded_law.ensures c.args.self.now c.settle.new.self c.args.command.now c.requires.next c.settle.ensures.grain c.settle.ensures.lanes c.settle.ensures.others
    history w least room at c.in_ok-settling.settling c.in_ok-settling.ensures.settled g.M.MetaDisk.moment g.M.MetaDisk.left_since g.met.M.MetaDisk.only_now

pub returns-in_err-joined-clause-stopped : goal.returns-in_err-joined-clause-stopped
returns-in_err-joined-clause-stopped g c = λ history w least room at.
    settled_stops g.M.MetaDisk.seen g.M.MetaDisk.may_leave c.commanded_law.ensures c.args.self.now c.settle.new.self c.args.command.now c.requires.next c.settle.ensures.grain c.settle.ensures.lanes c.settle.ensures.others
    history w least room at c.in_ok-settling.settling c.in_ok-settling.ensures.settled

-- ---- what is decided isn't done, or metadata isn't made anew behind it

pub returns-in_err-act-clause-any_moment : goal.returns-in_err-act-clause-any_moment
returns-in_err-act-clause-any_moment g c = λ history w least room at.
    undone_leaves g.M.MetaDisk.seen g.M.MetaDisk.may_leave c.commanded_law.ensures c.args.self.now c.settle.new.self c.args.command.now c.requires.next c.settle.ensures.grain c.settle.ensures.lanes c.settle.ensures.others
    history w least room at c.in_ok-settling.settling c.in_ok-settling.ensures.settled c.requires.decided c.in_ok-decision.decision c.in_ok-decision.ensures c.act.new.self c.act.ensures.others
    g.M.MetaDisk.moment g.M.MetaDisk.left_since c.act.ensures.any_moment c.in_err-act.ensures.undone

pub returns-in_err-act-clause-stopped : goal.returns-in_err-act-clause-stopped
returns-in_err-act-clause-stopped g c = λ history w least room at.
    undone_stops g.M.MetaDisk.seen g.M.MetaDisk.may_leave c.commanded_law.ensures c.args.self.now c.settle.new.self c.args.command.now c.requires.next c.settle.ensures.grain c.settle.ensures.lanes c.settle.ensures.others
    history w least room at c.in_ok-settling.settling c.in_ok-settling.ensures.settled c.requires.decided c.in_ok-decision.decision c.in_ok-decision.ensures c.act.new.self c.act.ensures.others
    g.M.MetaDisk.moment g.M.MetaDisk.left_since c.act.ensures.any_moment c.in_err-act.ensures.undone g.met.M.MetaDisk.counts_now c.in_err-act.ensures.kept.0

pub returns-in_err-act-clause-lanes : goal.returns-in_err-act-clause-lanes
returns-in_err-act-clause-lanes g c =
    all_go_on c.args.self.now.store.lanes c.settle.new.self.store.lanes c.act.new.self.store.lanes c.settle.ensures.lanes (lanes_undone c.in_ok-decision.decision c.settle.new.self.store c.act.new.self.store c.in_err-act.ensures.undone)

-- ---- it is done

pub returns-clause-any_moment : goal.returns-clause-any_moment
returns-clause-any_moment g c = λ history w least room at.
    done_leaves g.M.MetaDisk.seen g.M.MetaDisk.may_leave c.commanded_law.ensures c.args.self.now c.settle.new.self c.args.command.now c.requires.next c.settle.ensures.grain c.settle.ensures.lanes c.settle.ensures.others
    history w least room at c.in_ok-settling.settling c.in_ok-settling.ensures.settled c.requires.decided c.in_ok-decision.decision c.in_ok-decision.ensures c.act.new.self c.act.ensures.others
    g.M.MetaDisk.moment g.M.MetaDisk.left_since c.act.ensures.any_moment c.in_ok-act.ensures.done

pub returns-clause-stopped : goal.returns-clause-stopped
returns-clause-stopped g c = λ history w least room at.
    done_stops g.M.MetaDisk.seen g.M.MetaDisk.may_leave c.commanded_law.ensures c.args.self.now c.settle.new.self c.args.command.now c.requires.next c.settle.ensures.grain c.settle.ensures.lanes c.settle.ensures.others
    history w least room at c.in_ok-settling.settling c.in_ok-settling.ensures.settled c.requires.decided c.in_ok-decision.decision c.in_ok-decision.ensures c.act.new.self c.act.ensures.others c.in_ok-act.ensures.done
    c.act.ensures.counted.size
    (subst (λ (b : Bool). AnewOr g.M.MetaDisk.seen g.M.MetaDisk.may_leave (b || is_some (removed_by c.in_ok-decision.decision.events)) c.in_ok-decision.decision c.settle.new.self c.act.new.self) c.have_effect.ensures c.in_ok-act.ensures.anew)

pub returns-clause-leads : goal.returns-clause-leads
returns-clause-leads g c = λ entry is history room w least at.
    done_leads g.M.MetaDisk.seen g.M.MetaDisk.may_leave c.commanded_law.ensures c.args.self.now c.settle.new.self c.args.command.now c.requires.next c.settle.ensures.grain c.settle.ensures.lanes c.settle.ensures.others
    history w least room at c.in_ok-settling.settling c.in_ok-settling.ensures.settled c.requires.decided c.in_ok-decision.decision c.in_ok-decision.ensures c.act.new.self c.act.ensures.others c.in_ok-act.ensures.done
    c.act.ensures.counted.size
    (subst (λ (b : Bool). AnewOr g.M.MetaDisk.seen g.M.MetaDisk.may_leave (b || is_some (removed_by c.in_ok-decision.decision.events)) c.in_ok-decision.decision c.settle.new.self c.act.new.self) c.have_effect.ensures c.in_ok-act.ensures.anew)
    entry (is c.in_ok-settling.settling.effects c.in_ok-joined.ensures)

pub returns-clause-grain : goal.returns-clause-grain
returns-clause-grain g c = c.in_ok-act.ensures.done.grain ∙ c.settle.ensures.grain

pub returns-clause-lanes : goal.returns-clause-lanes
returns-clause-lanes g c = all_go_on c.args.self.now.store.lanes c.settle.new.self.store.lanes c.act.new.self.store.lanes c.settle.ensures.lanes c.in_ok-act.ensures.done.lanes

-- ---- calls of the disk of metadata

pub returns-in_err-settling-clause-counted : goal.returns-in_err-settling-clause-counted
returns-in_err-settling-clause-counted g c =
    let p = err_from_is_err_and c.from_residual.result c.from_residual.ensures.1 in
    rw (p.1, p.2) (no_calls g.M.MetaDisk.seen g.M.MetaDisk.fault_count g.M.MetaDisk.calls (Err c.in_err-settling.field-0.0) c.args.self.now c.settle.new.self (ap (λ n. n.calls) c.settle.ensures.others) (ap (λ n. n.meta) c.settle.ensures.others)
    (never_failed c.in_err-settling.field-0.0 c.in_err-settling.ensures.not_disk))

pub returns-in_err-decision-clause-counted : goal.returns-in_err-decision-clause-counted
returns-in_err-decision-clause-counted g c =
    let p = err_from_is_err_and c.from_residual-in_err-decision.result c.from_residual-in_err-decision.ensures.1 in
    none_wanting g.M.MetaDisk.seen g.M.MetaDisk.fault_count g.M.MetaDisk.calls c.from_residual-in_err-decision.result p.0 c.args.self.now c.settle.new.self p.1 p.2 (ap (λ n. n.calls) c.settle.ensures.others) (ap (λ n. n.meta) c.settle.ensures.others)

pub returns-in_err-joined-clause-counted : goal.returns-in_err-joined-clause-counted
returns-in_err-joined-clause-counted g c =
    let p = err_from_is_err_and c.from_residual-in_err-joined.result c.from_residual-in_err-joined.ensures.1 in
    none_wanting g.M.MetaDisk.seen g.M.MetaDisk.fault_count g.M.MetaDisk.calls c.from_residual-in_err-joined.result p.0 c.args.self.now c.settle.new.self p.1 p.2 (ap (λ n. n.calls) c.settle.ensures.others) (ap (λ n. n.meta) c.settle.ensures.others)

pub returns-in_err-act-clause-counted : goal.returns-in_err-act-clause-counted
returns-in_err-act-clause-counted g c =
    let p = err_from_is_err_and c.from_residual-in_err-act.result c.from_residual-in_err-act.ensures.1 in
    calls_of_error g.M.MetaDisk.seen g.M.MetaDisk.fault_count g.M.MetaDisk.calls c.from_residual-in_err-act.result p.0 c.in_err-act.field-0.0 c.args.self.now c.settle.new.self c.act.new.self c.act.new.self p.1 p.2 (ap (λ n. n.calls) c.settle.ensures.others) (ap (λ n. n.meta) c.settle.ensures.others) refl refl
    c.in_err-act.ensures.counted

pub returns-clause-counted : goal.returns-clause-counted
returns-clause-counted g c =
    same_calls g.M.MetaDisk.seen g.M.MetaDisk.fault_count g.M.MetaDisk.calls done (Ok (c.in_ok-decision.decision, c.in_ok-joined.joined)) c.args.self.now c.settle.new.self c.act.new.self c.act.new.self (ap (λ n. n.calls) c.settle.ensures.others) (ap (λ n. n.meta) c.settle.ensures.others) refl refl
    (λ P p. p) (λ e. absurd (no_error (c.in_ok-decision.decision, c.in_ok-joined.joined) e)) (λ e. absurd (no_error (c.in_ok-decision.decision, c.in_ok-joined.joined) e)) c.in_ok-act.ensures.counted

pub returns-in_err-act-clause-into : goal.returns-in_err-act-clause-into
returns-in_err-act-clause-into g c =
    let p = err_from_is_err_and c.from_residual-in_err-act.result c.from_residual-in_err-act.ensures.1 in
    let stop : NotedStop = c.in_err-act.field-0.0 in
    let Tried : Type 0 = TriesAnew g.M.MetaDisk.seen g.M.MetaDisk.may_leave g.M.MetaDisk.calls c.in_ok-decision.decision stop c.settle.new.self c.act.new.self in
    rw (p.1, p.2) (of_metadata stop
    (λ (tried : ((c.have_effect.result || is_some (removed_by c.in_ok-decision.decision.events)) ≡ true) × Tried) history w least room at.
    tried_into g.M.MetaDisk.seen g.M.MetaDisk.may_leave c.commanded_law.ensures c.args.self.now c.settle.new.self c.args.command.now c.requires.next c.settle.ensures.grain c.settle.ensures.lanes c.settle.ensures.others
    history w least room at c.in_ok-settling.settling c.in_ok-settling.ensures.settled c.requires.decided c.in_ok-decision.decision c.in_ok-decision.ensures c.act.new.self c.act.ensures.others
    g.M.MetaDisk.calls stop (subst (λ (b : Bool). (b || is_some (removed_by c.in_ok-decision.decision.events)) ≡ true) c.have_effect.ensures tried.0) tried.1)
    c.in_err-act.ensures.tried)

pub returns-in_err-settling-clause-into : goal.returns-in_err-settling-clause-into
returns-in_err-settling-clause-into g c =
    let p = err_from_is_err_and c.from_residual.result c.from_residual.ensures.1 in
    rw (p.1, p.2) (of_metadata c.in_err-settling.field-0.0 (λ (no : ⊥). absurd no) c.in_err-settling.ensures.not_disk)

pub returns-in_err-decision-clause-into : goal.returns-in_err-decision-clause-into
returns-in_err-decision-clause-into g c = let p = err_from_is_err_and c.from_residual-in_err-decision.result c.from_residual-in_err-decision.ensures.1 in rw (p.1, p.2) tt

pub returns-in_err-joined-clause-into : goal.returns-in_err-joined-clause-into
returns-in_err-joined-clause-into g c = let p = err_from_is_err_and c.from_residual-in_err-joined.result c.from_residual-in_err-joined.ensures.1 in rw (p.1, p.2) tt
