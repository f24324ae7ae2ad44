use Rattle.std.proofs.Common.{◌∙◌, sym, ap, get_or, false}
use Rattle.fc_base.specs.Sheet.{Slot}
use Rattle.fc_slots.proofs.Finds.{reader_found, reader_not_found, read_at}
use Rattle.fc_slots.proofs.walk.first_reader_of.Goals as goal

pub returns-then-holds-clause-value : goal.returns-then-holds-clause-value
returns-then-holds-clause-value c =
    reader_found _ _ _ _ c.first_waiting.result c.requires.apart
    (ap (λ (t : Slot). get_or t.held c.args.grain false) (read_at _ _ _ c.requires.there c.index-slots-of.is) ∙ (sym c.holds.ensures ∙ c.if-holds.true)) c.first_waiting.ensures.value

pub returns-else-holds-clause-value : goal.returns-else-holds-clause-value
returns-else-holds-clause-value c =
    reader_not_found _ _ _ _
    (ap (λ (t : Slot). get_or t.held c.args.grain false) (read_at _ _ _ c.requires.there c.index-slots-of.is) ∙ (sym c.holds.ensures ∙ c.if-holds.false))
