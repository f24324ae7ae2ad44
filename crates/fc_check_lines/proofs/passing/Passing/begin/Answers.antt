use Rattle.std.proofs.Common.{◌≡◌, [], ap, ◌∙◌, rules}
use Rattle.fc_base.specs.Tables.{Tables}
use Rattle.fc_check_lines.proofs.SecondsPass.{begun_listed}
use Rattle.fc_check_lines.proofs.passing.Passing.begin.Goals as goal

pub returns : goal.returns
returns g c =
    let none : c.new.result.items ≡ [] = search rules in
    begun_listed (g.T.Told.whole c.args.told.now).books c.flags.result.now c.all_mappings.result.now c.in_ok-over.over.items c.new.result.items c.args.seconds
    c.flags.ensures (c.all_mappings.ensures.value ∙ ap (λ (t : Tables). t.mappings) c.registry.ensures) c.in_ok-over.ensures none
