use Rattle.std.proofs.Common.{ap, subst}
use Rattle.fc_control.specs.Control.{ControlState}
use Rattle.fc_stands.specs.Phase.{IsControlAfter}
use Rattle.fc_stands.specs.Store.{StoreView}
use Rattle.fc_stands.proofs.PhaseAll.{control_done}
use Rattle.fc_store.proofs.store.Store.apply_in_control.Goals as goal

pub returns-clause-control : goal.returns-clause-control
returns-clause-control g c =
    subst (λ (before : ControlState). IsControlAfter before c.apply.new.self c.args.decision.now) (ap (λ (s : StoreView). s.control) c.self.view_is)
    (control_done _ c.apply.new.self c.args.decision.now c.apply.ensures.grain c.apply.ensures.tables c.apply.ensures.books)
