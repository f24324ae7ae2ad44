-- The entry of what was decided, with the effects of both decisions.
use Rattle.std.proofs.Common.{List, ap, refl, sym, subst, ◌∙◌}
use Rattle.fc_base.specs.declared.request.Effect.{Effect}
use Rattle.fc_base.specs.declared.request.Place.TheVariants.{Every}
use Rattle.fc_base.specs.declared.request.Request.TheVariants.{Command as Asked}
use Rattle.fc_entry.specs.declared.entry.Entry.{Entry}
use Rattle.fc_lane.specs.Lane.{IsAsked}
use Rattle.fc_stands.specs.Apart.{entry_apart}
use Rattle.fc_noted.proofs.command.decided_entry.Goals as goal

pub returns-clause-entry : goal.returns-clause-entry
returns-clause-entry c settled joined =
    c.entry_apart.ensures ∙ ap (λ (effects : List Effect). entry_apart 0 0 Every (Asked c.args.command) c.args.decision.reply effects) (c.taken.ensures settled joined)

pub returns-clause-asked : goal.returns-clause-asked
returns-clause-asked c =
    subst (λ (entry : Entry). IsAsked 0 0 (Asked c.args.command) entry) (sym c.entry_apart.ensures) record { number_is = refl; actor_is = refl; request_is = refl }
