use Rattle.std.proofs.Common.{ap}
use Rattle.fc_stands.specs.Store.{StoreView}
use Rattle.fc_store.proofs.Planning.{may_decide, is_a_command, decision_seen}
use Rattle.fc_store.proofs.store.Store.decision_by.Goals as goal

pub decide-requires-clause-sound : goal.decide-requires-clause-sound
decide-requires-clause-sound g c = (may_decide c.args.self.now c.self.inside.control (g.S.Sheet.meaning c.args.sheet.now) (ap (λ (s : StoreView). s.control) c.self.view_is) c.requires.sheet c.requires.stands).sound

pub decide-requires-clause-lanes : goal.decide-requires-clause-lanes
decide-requires-clause-lanes g c = (may_decide c.args.self.now c.self.inside.control (g.S.Sheet.meaning c.args.sheet.now) (ap (λ (s : StoreView). s.control) c.self.view_is) c.requires.sheet c.requires.stands).lanes

pub decide-requires-clause-room : goal.decide-requires-clause-room
decide-requires-clause-room g c = (may_decide c.args.self.now c.self.inside.control (g.S.Sheet.meaning c.args.sheet.now) (ap (λ (s : StoreView). s.control) c.self.view_is) c.requires.sheet c.requires.stands).room

pub decide-requires-clause-decided : goal.decide-requires-clause-decided
decide-requires-clause-decided g c = is_a_command c.args.command.now c.requires.decided

pub returns : goal.returns
returns g c =
    decision_seen c.decide.result c.args.self.now c.args.command.now c.self.inside.control (g.S.Sheet.meaning c.args.sheet.now) (ap (λ (s : StoreView). s.control) c.self.view_is) c.requires.sheet
    c.decide.ensures
