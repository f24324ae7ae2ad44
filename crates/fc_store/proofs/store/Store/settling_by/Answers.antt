use Rattle.std.proofs.Common.{ap}
use Rattle.fc_stands.specs.Store.{StoreView}
use Rattle.fc_store.proofs.Planning.{settling_seen}
use Rattle.fc_store.proofs.store.Store.settling_by.Goals as goal

pub returns : goal.returns
returns g c = settling_seen c.settle.result c.args.self.now c.self.inside.control (g.S.Sheet.meaning c.args.sheet.now) (ap (λ (s : StoreView). s.control) c.self.view_is) c.requires.sheet c.settle.ensures
