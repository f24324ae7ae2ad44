use Rattle.std.proofs.Common.{refl, sym, subst}
use Rattle.fc_base.specs.declared.request.Request.TheVariants.{Command as Asked}
use Rattle.fc_entry.specs.declared.entry.Entry.{Entry}
use Rattle.fc_lane.specs.Lane.{IsAsked}
use Rattle.fc_store.proofs.command.decided_entry.Goals as goal

pub returns-clause-asked : goal.returns-clause-asked
returns-clause-asked c =
    subst (λ (entry : Entry). IsAsked 0 c.args.actor (Asked c.args.command) entry) (sym c.entry_apart.ensures) record { number_is = refl; actor_is = refl; request_is = refl }
