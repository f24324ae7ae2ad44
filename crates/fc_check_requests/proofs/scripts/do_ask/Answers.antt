use Rattle.std.proofs.Common.{◌≡◌, ◌↔◌, IsTrue, false, Some, List, get_or, refl, sym, ap, subst, ◌∙◌}
use Rattle.fc_base.specs.declared.request.Request.{Request}
use Rattle.fc_legal.specs.Scripts.{Script, next_request}
use Rattle.fc_check_requests.proofs.ScriptLemmas.{asks_found, asks_none}
use Rattle.fc_check_requests.proofs.scripts.do_ask.Goals as goal

pub returns-in-Some : goal.returns-in-Some
returns-in-Some c =
    let own : c.script.inside.requests ≡ (get_or c.args.scripts.now c.in-Some.place c.index-scripts-place.result).requests =
    ap (λ (s : Script). s.requests) (c.script.view_is ∙ c.index-scripts-place.is) in
    asks_found c.args.scripts.now c.args.actor c.in-Some.place c.index-scripts-place.result c.asks.result c.args.request.now (sym c.in-Some.ensures)
    (subst (λ (rs : List Request). IsTrue c.asks.result ↔ (next_request rs ≡ Some c.args.request.now)) own c.asks.ensures)

pub returns-in-None : goal.returns-in-None
returns-in-None c = asks_none c.args.scripts.now c.args.actor false c.args.request.now (sym c.in-None.ensures) refl
