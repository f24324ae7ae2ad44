-- Pairs stand for their mappings.
use Rattle.std.proofs.Common.{◌∙◌, ap, filter}
use Rattle.fc_books.specs.Books.{◌then◌, all_deeds}
use Rattle.fc_books.specs.Starting.{gives_way}
use Rattle.fc_starts.specs.Choosing.{is_chosen, yields_to}
use Rattle.fc_desk.specs.ForChosen.{for_chosen}
use Rattle.fc_starts.proofs.Preparing.{gives_way-same}
use Rattle.fc_starts.proofs.activate.supersede.Goals as goal

pub returns : goal.returns
returns c =
    c.in_ok-whole.ensures
    ∙ ap (λ pairs. c.args.draft then all_deeds (for_chosen (yields_to pairs) gives_way) c.args.mappings.now) (c.as_slice.ensures ∙ c.in_ok-pairs.ensures)
    ∙ ap (λ d. c.args.draft then d) (gives_way-same (filter (is_chosen c.args.chosen) c.args.mappings.now) c.args.mappings.now)
