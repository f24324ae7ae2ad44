use Rattle.std.proofs.Common.{sym, ◌∙◌, bytes_eq}
use Rattle.fc_registry.specs.Index.{rows}
use Rattle.fc_registry.proofs.Places.{find-found, find-missed}
use Rattle.fc_registry.proofs.indexed.Table.with_name.Goals as goal

pub returns-in-Some : goal.returns-in-Some
returns-in-Some g c =
    let placed = rw c.as_bytes.ensures.value at c.place_of_name.ensures in
    c.at.ensures ∙ sym (find-found (λ x. bytes_eq c.args.name.now (g.T.Named.name_of x)) (rows c.args.self.now) c.in-Some.place (sym placed ∙ c.in-Some.is))

pub returns-in-None : goal.returns-in-None
returns-in-None g c =
    let placed = rw c.as_bytes.ensures.value at c.place_of_name.ensures in
    sym (find-missed (λ x. bytes_eq c.args.name.now (g.T.Named.name_of x)) (rows c.args.self.now) (sym placed ∙ c.in-None.is))
