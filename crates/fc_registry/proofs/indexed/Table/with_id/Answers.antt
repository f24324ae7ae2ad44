use Rattle.std.proofs.Common.{sym, ◌∙◌, nat_eq}
use Rattle.fc_registry.specs.Index.{rows}
use Rattle.fc_registry.proofs.Places.{find-found, find-missed}
use Rattle.fc_registry.proofs.indexed.Table.with_id.Goals as goal

pub returns-in-Some : goal.returns-in-Some
returns-in-Some g c =
    c.at.ensures ∙ sym (find-found (λ x. nat_eq c.args.id (g.T.Named.id_of x)) (rows c.args.self.now) c.in-Some.place (sym c.place_of_id.ensures ∙ c.in-Some.is))

pub returns-in-None : goal.returns-in-None
returns-in-None g c =
    sym (find-missed (λ x. nat_eq c.args.id (g.T.Named.id_of x)) (rows c.args.self.now) (sym c.place_of_id.ensures ∙ c.in-None.is))
