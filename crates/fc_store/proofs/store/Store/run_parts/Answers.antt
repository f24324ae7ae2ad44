-- One grain more, and a grain at which it stops.
use Rattle.std.proofs.Common.{◌≡◌, ℕ, ◌+◌, ◌-◌, [], map, Ok, Err, ◌∙◌, ap, subst, arith}
use Rattle.fc_base.specs.declared.behind.Behind.TheVariants.{Passing as PassingSeconds}
use Rattle.fc_base.specs.declared.request.Request.{Request}
use Rattle.fc_base.specs.declared.size.GrainSize.{GrainSize}
use Rattle.fc_control.specs.Control.{ControlState}
use Rattle.fc_entry.specs.Picture.{grain_of_block}
use Rattle.fc_legal.specs.Added.{Answered, IsTold}
use Rattle.fc_legal.specs.Agenda.{Own, session_rules}
use Rattle.fc_legal.specs.Asked.{numbers}
use Rattle.fc_legal.specs.Whole.{Whole}
use Rattle.fc_lanes.specs.Asking.{part_of}
use Rattle.fc_stands.specs.Logged.{Brought, Logged, anything}
use Rattle.fc_stands.specs.Store.{StandsFor, StoreView}
use Rattle.fc_stands.proofs.Bringing.{brought_all, brought_stopped}
use Rattle.fc_stands.proofs.Lining.{asks_from, one_more_number, own_begins, own_left}
use Rattle.fc_store.proofs.GoingOn.{goes_first, goes_then}
use Rattle.fc_store.proofs.store.Store.run_parts.Goals as goal

pub loop-grain-init : goal.loop-grain-init
loop-grain-init g c = record {
  brought = λ read w told.
      own_begins (StandsFor c.args.self.now) c.args.self.now.control.grain read w
      (map (part_of c.args.self.now.control.grain c.args.access c.args.volume c.args.block c.args.count)
      (numbers c.touched_grains-first.result.0 (c.touched_grains-first.result.1 + 1 - c.touched_grains-first.result.0))) c.args.history.now told;
  goes = goes_first c.args.self.now c.args.history.now c.requires.stands c.requires.room;
}

pub loop-grain-preserved : goal.loop-grain-preserved
loop-grain-preserved g c =
    let grain : GrainSize = c.args.self.now.control.grain in
    let next = c.in-Ok.ensures.answered c.loop-grain.invariant.goes.stands.0 c.loop-grain.invariant.goes.stands.1 in
    let Q : GrainSize → Type 0 = λ s. (mid : Whole) → IsTold (StandsFor c.loop-grain.self) c.loop-grain.history mid →
    Logged {A = Unit {0}} (Ok tt) anything (StandsFor c.run_part.new.self) s mid (part_of s c.args.access c.args.volume c.args.block c.args.count c.loop-grain.grain) c.loop-grain.history c.run_part.new.history in
    record {
      brought = λ read w told.
          one_more_number (Ok tt) (StandsFor c.loop-grain.self) (StandsFor c.run_part.new.self) grain read w _
          (part_of grain c.args.access c.args.volume c.args.block c.args.count) c.loop-grain.grain (c.touched_grains-first.result.1 + 1)
          c.args.history.now c.loop-grain.history c.run_part.new.history
          (omega (arith, c.loop-grain-test.true)) (c.loop-grain.invariant.brought read w told)
          (subst Q (ap (λ (s : ControlState). s.grain) c.loop-grain.invariant.goes.control) c.in-Ok.ensures.answered);
      goes = goes_then c.loop-grain.invariant.goes (next.next, next.told) c.in-Ok.ensures.limit c.in-Ok.ensures.control c.in-Ok.ensures.disks c.in-Ok.ensures.quiet;
    }

pub returns-in-Err-clause-answered : goal.returns-in-Err-clause-answered
returns-in-Err-clause-answered g c = λ read w told.
    let grain : GrainSize = c.args.self.now.control.grain in
    let request : ℕ → Request = part_of grain c.args.access c.args.volume c.args.block c.args.count in
    let end : ℕ = c.touched_grains-first.result.1 + 1 in
    let Q : ℕ → ℕ → Type 0 = λ first last. Answered {A = Unit {0}} (Err c.in-Err.stop) (StandsFor c.run_part.new.self) (session_rules grain read)
    (Own (map request (numbers first (last + 1 - first))) (PassingSeconds 0) []) w c.args.history.now c.run_part.new.history in
    let P : GrainSize → Type 0 = λ s. (mid : Whole) → IsTold (StandsFor c.loop-grain.self) c.loop-grain.history mid →
    Logged {A = Unit {0}} (Err c.in-Err.stop) anything (StandsFor c.run_part.new.self) s mid (part_of s c.args.access c.args.volume c.args.block c.args.count c.loop-grain.grain) c.loop-grain.history c.run_part.new.history in
    let size : c.grain.result ≡ grain = c.grain.ensures ∙ ap (λ (s : StoreView). s.control.grain) c.self.view_is in
    subst (λ (first : ℕ). Q first (grain_of_block grain (c.args.block + c.args.count - 1))) (c.touched_grains-first.ensures.first ∙ ap (λ (s : GrainSize). grain_of_block s c.args.block) size)
    (subst (Q c.touched_grains-first.result.0) (c.touched_grains-first.ensures.last ∙ ap (λ (s : GrainSize). grain_of_block s (c.args.block + c.args.count - 1)) size)
    (brought_all (Unit {0}) (Err c.in-Err.stop) (StandsFor c.run_part.new.self) grain read w _ c.args.history.now c.run_part.new.history
    (brought_stopped (Unit {0}) (Unit {0}) c.in-Err.stop (StandsFor c.run_part.new.self) (session_rules grain read) w _ (asks_from request (c.loop-grain.grain + 1) end) _
    c.args.history.now c.run_part.new.history
    (one_more_number (Err c.in-Err.stop) (StandsFor c.loop-grain.self) (StandsFor c.run_part.new.self) grain read w _ request c.loop-grain.grain end
    c.args.history.now c.loop-grain.history c.run_part.new.history
    (omega (arith, c.loop-grain-test.true)) (c.loop-grain.invariant.brought read w told)
    (subst P (ap (λ (s : ControlState). s.grain) c.loop-grain.invariant.goes.control) c.in-Err.ensures.answered)))))

pub returns-clause-answered : goal.returns-clause-answered
returns-clause-answered g c = λ read w told.
    let grain : GrainSize = c.args.self.now.control.grain in
    let request : ℕ → Request = part_of grain c.args.access c.args.volume c.args.block c.args.count in
    let end : ℕ = c.touched_grains-first.result.1 + 1 in
    let Q : ℕ → ℕ → Type 0 = λ first last. Answered {A = Unit {0}} (Ok tt) (StandsFor c.loop-grain.self) (session_rules grain read)
    (Own (map request (numbers first (last + 1 - first))) (PassingSeconds 0) []) w c.args.history.now c.loop-grain.history in
    let none : end - c.loop-grain.grain ≡ 0 = omega (arith, c.loop-grain-test.false) in
    let P : ℕ → Type 0 = λ n. Brought {A = Unit {0}} (Ok tt) (StandsFor c.loop-grain.self) (session_rules grain read)
    (Own (map request (numbers c.touched_grains-first.result.0 (end - c.touched_grains-first.result.0))) (PassingSeconds 0) [])
    (own_left (map request (numbers c.loop-grain.grain n))) w c.args.history.now c.loop-grain.history in
    let size : c.grain.result ≡ grain = c.grain.ensures ∙ ap (λ (s : StoreView). s.control.grain) c.self.view_is in
    subst (λ (first : ℕ). Q first (grain_of_block grain (c.args.block + c.args.count - 1))) (c.touched_grains-first.ensures.first ∙ ap (λ (s : GrainSize). grain_of_block s c.args.block) size)
    (subst (Q c.touched_grains-first.result.0) (c.touched_grains-first.ensures.last ∙ ap (λ (s : GrainSize). grain_of_block s (c.args.block + c.args.count - 1)) size)
    (brought_all (Unit {0}) (Ok tt) (StandsFor c.loop-grain.self) grain read w _ c.args.history.now c.loop-grain.history
    (subst P none (c.loop-grain.invariant.brought read w told))))

pub returns-in-Err-clause-quiet : goal.returns-in-Err-clause-quiet
returns-in-Err-clause-quiet g c = λ q. c.in-Err.ensures.quiet (c.loop-grain.invariant.goes.quiet q)

pub returns-clause-quiet : goal.returns-clause-quiet
returns-clause-quiet g c = c.loop-grain.invariant.goes.quiet
