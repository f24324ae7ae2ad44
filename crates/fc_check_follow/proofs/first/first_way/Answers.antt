use Rattle.std.proofs.Common.{◌≡◌, List, ap, ◌∙◌}
use Rattle.std.proofs.lemmas.Result.{IfOk-weaker}
use Rattle.fc_base.specs.Pools.{Pool}
use Rattle.fc_check_record.specs.Judged.{Judged}
use Rattle.fc_check_sheet.specs.View.{pools_of}
use Rattle.fc_check_follow.specs.Ways.{pools_told}
use Rattle.fc_check_follow.proofs.Beginning.{first_told, some_pools, told_of}
use Rattle.fc_check_follow.proofs.first.first_way.Goals as goal

pub open-requires : goal.open-requires
open-requires c =
    some_pools c.as_slice.result.now c.args.lanes.now (told_of c.in_ok-pools.pools.items c.as_slice.result.now c.args.lanes.now c.as_slice.ensures.value c.in_ok-pools.ensures) c.requires

pub returns : goal.returns
returns c =
    let all = told_of c.in_ok-pools.pools.items c.as_slice.result.now c.args.lanes.now c.as_slice.ensures.value c.in_ok-pools.ensures in
    IfOk-weaker c.open.result (λ (way : Judged). way ≡ first_told c.args.grain (pools_of c.as_slice.result.now)) (λ (way : Judged). way ≡ first_told c.args.grain (pools_told c.args.lanes.now))
    (λ way is. is ∙ ap (λ (pools : List Pool). first_told c.args.grain pools) all) c.open.ensures
