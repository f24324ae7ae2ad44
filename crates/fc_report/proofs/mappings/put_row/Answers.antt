use Rattle.std.proofs.Common.{◌≡◌, ◌∷◌, ◌++◌, [], List, ℕ, OnOk, subst}
use Rattle.fc_report.proofs.mappings.put_row.Goals as goal

pub returns : goal.returns
returns g c = subst (λ (row : List (List ℕ)). OnOk c.push.result (c.push.new.self ≡ c.args.rows.now ++ row ∷ [])) c.in_ok-row.ensures c.push.ensures.ok
