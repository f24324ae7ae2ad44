-- A preset asks a volume, or itself.
use Rattle.std.proofs.Common.{◌≡◌, ◌++◌, OnOk, List, option_copied, sym, ap, subst, ◌∙◌}
use Rattle.fc_base.specs.Tables.{Tables, volume_named}
use Rattle.fc_base.specs.declared.request.Request.{Request}
use Rattle.fc_check_requests.proofs.AskingLemmas.{itself_asked, volume_asked}
use Rattle.fc_check_requests.proofs.asking.push_preset.Goals as goal

pub returns-in_ok-line-in-Some : goal.returns-in_ok-line-in-Some
returns-in_ok-line-in-Some g c =
    subst (λ (rs : List Request). OnOk c.push_command.result (c.push_command.new.self ≡ c.args.requests.now ++ rs))
    (volume_asked c.grain_size.result (g.T.Told.grain c.args.told.now) (g.T.Told.whole c.args.told.now).books c.args.source.now c.args.preset c.args.name.now c.in-Some.found.now c.args.command.now
    c.in_ok-line-in-Some.line c.in_ok-line-in-Some.ensures c.requires c.grain_size.ensures
    (ap (λ (t : Tables). volume_named t c.args.source.now) (sym c.registry.ensures) ∙ (sym c.volume.ensures ∙ ap option_copied c.in-Some.is)))
    c.push_command.ensures

pub returns-in_ok-line-in-None : goal.returns-in_ok-line-in-None
returns-in_ok-line-in-None g c =
    subst (λ (rs : List Request). OnOk c.push_command-in-None.result (c.push_command-in-None.new.self ≡ c.args.requests.now ++ rs))
    (itself_asked (g.T.Told.grain c.args.told.now) (g.T.Told.whole c.args.told.now).books c.args.source.now c.args.preset c.args.name.now c.args.command.now
    c.in_ok-line-in-None.line c.in_ok-line-in-None.ensures c.requires
    (ap (λ (t : Tables). volume_named t c.args.source.now) (sym c.registry.ensures) ∙ (sym c.volume.ensures ∙ ap option_copied c.in-None.is)))
    c.push_command-in-None.ensures
