use Rattle.std.proofs.Common.{List, [], ◌∷◌, ◌++◌, ap, ◌∙◌}
use Rattle.fc_check_record.specs.Judged.{Judged}
use Rattle.fc_check_follow.specs.Ways.{pools_told}
use Rattle.fc_check_follow.proofs.Beginning.{some_told}
use Rattle.fc_check_follow.proofs.Together.{opened_candidates}
use Rattle.fc_check_follow.proofs.candidates.Candidates.open.Goals as goal

pub invariant_of-result : goal.invariant_of-result
invariant_of-result c =
    opened_candidates c.args.grain (pools_told c.args.lanes.now) c.keep.new.after.items (some_told c.args.lanes.now c.requires)
    (c.in_ok-keep.ensures ∙ (ap (λ (ws : List Judged). ws ++ c.in_ok-first.first ∷ []) c.new-ways.ensures.items ∙ ap (λ (j : Judged). j ∷ []) c.in_ok-first.ensures))
