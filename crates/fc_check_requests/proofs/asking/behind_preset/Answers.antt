use Rattle.std.proofs.Common.{option_copied, sym, ap, ◌∙◌}
use Rattle.fc_base.specs.Tables.{Tables, volume_named}
use Rattle.fc_check_requests.proofs.AskingLemmas.{mapping_behind, none_behind}
use Rattle.fc_check_requests.proofs.asking.behind_preset.Goals as goal

pub returns-in_ok-name-in-Some : goal.returns-in_ok-name-in-Some
returns-in_ok-name-in-Some g c =
    mapping_behind c.in_ok-source-in-Some.source c.args.source.now c.args.preset c.in_ok-name-in-Some.name c.args.name.now c.in-Some.field-0.now
    (volume_named (g.T.Told.whole c.args.told.now).books.tables c.args.source.now) c.in_ok-source-in-Some.ensures c.in_ok-name-in-Some.ensures
    (ap (λ (t : Tables). volume_named t c.args.source.now) (sym c.registry.ensures) ∙ (sym c.volume.ensures ∙ ap option_copied c.in-Some.is))

pub returns-in-None : goal.returns-in-None
returns-in-None g c =
    none_behind c.args.source.now c.args.preset c.args.name.now (volume_named (g.T.Told.whole c.args.told.now).books.tables c.args.source.now)
    (ap (λ (t : Tables). volume_named t c.args.source.now) (sym c.registry.ensures) ∙ (sym c.volume.ensures ∙ ap option_copied c.in-None.is))
