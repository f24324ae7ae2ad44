-- A settling, put together.
use Rattle.std.proofs.Common.{◌≡◌, ◌∙◌, ap, List, length, map}
use Rattle.fc_base.specs.Counts.{names_below, is_unneeded}
use Rattle.fc_base.specs.declared.decision.Decision.{Decision}
use Rattle.fc_base.specs.declared.decision.LaneEvent.TheVariants.{Drop}
use Rattle.fc_base.specs.declared.ids.SlotId.{SlotId}
use Rattle.fc_base.specs.declared.request.Reply.TheVariants.{NoMemory}
use Rattle.fc_base.specs.declared.volume.Mapping.{Mapping}
use Rattle.fc_books.specs.Books.{Books, Deed, told, ◌then◌, all_deeds}
use Rattle.fc_books.specs.Deciding.{settle}
use Rattle.fc_books.specs.Settling.{settling, settles_in}

abbrev pub decided : Deed → Decision
decided d = record { reply = NoMemory; effects = d.effects; events = d.events; changes = d.changes }

pub settled_by :
    (b : Books) (names : List SlotId) (drops whole : Deed) (decision : Decision) →
    names ≡ names_below b.sheet.slots (is_unneeded b.sheet.slots) (length b.sheet.slots) →
    drops ≡ told (map (λ slot. Drop slot) names) →
    whole ≡ (drops then all_deeds (λ (m : Mapping). settles_in m.state b m) b.tables.mappings) →
    decision ≡ decided whole →
    decision ≡ settle b
unfolding settling
settled_by b names drops whole decision names_are drops_are whole_is decision_is =
    decision_is
    ∙ ap decided
    (whole_is
    ∙ ap (λ d. d then all_deeds (λ (m : Mapping). settles_in m.state b m) b.tables.mappings)
    (drops_are ∙ ap (λ slots. told (map (λ slot. Drop slot) slots)) names_are))
