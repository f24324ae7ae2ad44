use Rattle.std.proofs.Common.{◌≡◌, ◌↔◌, ◌<◌, IsTrue, Some, List, length, refl, subst, arith}
use Rattle.fc_base.specs.declared.request.Request.{Request}
use Rattle.fc_legal.specs.Scripts.{next_request}
use Rattle.fc_check_requests.proofs.RequestLemmas.{front_asks}
use Rattle.fc_check_requests.proofs.requests.Requests.asks.Goals as goal

pub returns-in-Some : goal.returns-in-Some
returns-in-Some c =
    let P : List Request → Type 0 = λ rs. IsTrue c.asks.result ↔ (next_request rs ≡ Some c.args.request.now) in
    let some : 0 < length c.self.inside.items.items = omega (arith, c.in-Some.ensures.variant.0 refl) in
    subst P c.self.view_is
    (front_asks c.self.inside.items.items c.in-Some.item.now c.asks.result c.args.request.now some c.in-Some.ensures.lookup c.self.invariant c.asks.ensures)
