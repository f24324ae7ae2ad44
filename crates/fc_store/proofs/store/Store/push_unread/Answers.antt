-- A line that is read as a fault asks for its refusal.
use Rattle.std.proofs.Common.{◌∷◌, [], Err, refl}
use Rattle.fc_base.specs.declared.behind.Behind.TheVariants.{Passing as PassingSeconds}
use Rattle.fc_base.specs.declared.request.Request.TheVariants.{Unread}
use Rattle.fc_stands.specs.Store.{StandsFor}
use Rattle.fc_stands.proofs.Lining.{alone_answered, line_answered}
use Rattle.fc_store.proofs.store.Store.push_unread.Goals as goal

pub returns-clause-answered : goal.returns-clause-answered
returns-clause-answered g c = λ read bytes w is told.
    line_answered c.log_unread.result (StandsFor c.args.self.now) c.args.self.now.control.grain read w bytes (Err c.args.fault) (Unread c.args.fault ∷ []) (PassingSeconds 0)
    c.args.history.now c.log_unread.new.history is refl
    (alone_answered c.log_unread.result (StandsFor c.args.self.now) c.args.self.now.control.grain read w (Unread c.args.fault) c.args.history.now c.log_unread.new.history told.1
    (c.log_unread.ensures.answered w told))
