-- Its moves, then its write, then its torn grain.
use Rattle.std.proofs.Common.{ap, ◌∙◌}
use Rattle.fc_base.specs.Sheet.{Sheet}
use Rattle.fc_check_lane.specs.After.{chains_torn, chains_written}
use Rattle.fc_drawing.specs.Sources.{all_made, sources_of}
use Rattle.fc_rules.specs.LaneRight.{done_write}
use Rattle.fc_view.proofs.steps.follow_lane.Goals as goal

pub returns-clause-sources : goal.returns-clause-sources
returns-clause-sources c = c.in_ok-sources.ensures.sources ∙ ap (sources_of c.args.sheet.now) c.as_slice-moves.ensures

pub returns-clause-chains : goal.returns-clause-chains
returns-clause-chains c =
    let entry = c.args.entry.now in
    c.follow_torn-torn.ensures
    ∙ ap (λ (s : Sheet). chains_torn s entry.torn)
    (
    c.in_ok-written.ensures
    ∙ ap (λ (s : Sheet). chains_written c.args.size s (done_write entry.request entry.reply))
    (c.in_ok-sources.ensures.made ∙ ap (all_made c.args.sheet.now) c.as_slice-moves.ensures)
    )
