use Rattle.std.proofs.Common.{◌∙◌, sym}
use Rattle.fc_tallies.proofs.Nexts.{lacking_live, lacking_old}
use Rattle.fc_tallies.proofs.next.next_lacking.Goals as goal

pub returns-then-is_live-clause-value : goal.returns-then-is_live-clause-value
returns-then-is_live-clause-value c =
    (lacking_live c.args.slots.now c.args.place c.index-slots-place.result c.held.result.now c.next_clear.result c.requires c.index-slots-place.is (sym c.is_live.ensures ∙ c.if-is_live.true) c.held.ensures c.next_clear.ensures).value

pub returns-then-is_live-clause-bound : goal.returns-then-is_live-clause-bound
returns-then-is_live-clause-bound c =
    (lacking_live c.args.slots.now c.args.place c.index-slots-place.result c.held.result.now c.next_clear.result c.requires c.index-slots-place.is (sym c.is_live.ensures ∙ c.if-is_live.true) c.held.ensures c.next_clear.ensures).bound

pub returns-else-is_live-clause-value : goal.returns-else-is_live-clause-value
returns-else-is_live-clause-value c =
    (lacking_old c.args.slots.now c.args.place c.index-slots-place.result c.requires c.index-slots-place.is (sym c.is_live.ensures ∙ c.if-is_live.false)).value
