use Rattle.std.proofs.Common.{sym, ap, ◌∙◌, List, ℕ}
use Rattle.fc_check_lines.proofs.Answering.{asked_by_none, asked_by_place}
use Rattle.fc_check_lines.specs.Bytes.{segments_in}
use Rattle.fc_entry.specs.HistoryState.{place_of_name}
use Rattle.fc_check_lines.proofs.lines.Lines.asks.Goals as goal

pub returns-in-Some : goal.returns-in-Some
returns-in-Some g c =
    let i = c.self.inside in
    asked_by_place (g.T.Told.grain c.args.told.now) (g.T.Told.whole c.args.told.now) c.args.self.now i.names.items i.asking (segments_in i.rest.now) c.asks.result c.args.name.now c.args.request.now c.in-Some.actor
    c.self.view_is (ap (λ (names : List (List ℕ)). place_of_name names c.args.name.now) (sym c.as_slice.ensures.value) ∙ (sym c.place_of_name.ensures.value ∙ c.in-Some.is)) c.asks.ensures

pub returns-in-None : goal.returns-in-None
returns-in-None g c =
    let i = c.self.inside in
    asked_by_none (g.T.Told.grain c.args.told.now) (g.T.Told.whole c.args.told.now) c.args.self.now i.names.items i.asking (segments_in i.rest.now) c.args.name.now c.args.request.now
    c.self.view_is (ap (λ (names : List (List ℕ)). place_of_name names c.args.name.now) (sym c.as_slice.ensures.value) ∙ (sym c.place_of_name.ensures.value ∙ c.in-None.is))
