use Rattle.std.proofs.Common.{◌≡◌, subst}
use Rattle.fc_check_record.proofs.Agreeing.{next_grain_is}
use Rattle.fc_check_record.proofs.Deciding.{few_grains}
use Rattle.fc_check_record.specs.Judged.{Judged}
use Rattle.fc_check_sheet.specs.View.{pools_of}
use Rattle.fc_legal.specs.Seconds.{Work, next_grain}
use Rattle.fc_check_record.proofs.record.Record.next_grain.Goals as goal

pub next_grain-requires : goal.next_grain-requires
next_grain-requires c =
    let i = c.self.inside.kept in
    few_grains i.control i.known i.rows (pools_of i.pools.items) i.rooms i.calls.items c.args.self.now c.self.view_is c.requires

pub returns : goal.returns
returns c =
    let i = c.self.inside.kept in
    subst (λ (j : Judged). (work : Work) → work.map ≡ c.args.map → work.cleans ≡ c.args.cleans → c.next_grain.result ≡ next_grain j.grain j.whole work) c.self.view_is
    (next_grain_is i.control i.known i.rows (pools_of i.pools.items) i.rooms i.calls.items c.args.map c.args.cleans c.next_grain.result c.self.invariant c.next_grain.ensures)
