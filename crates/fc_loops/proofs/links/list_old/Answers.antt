use Rattle.std.proofs.Common.{Vec, Global, ◌+◌, ℕ, sym, subst}
use Rattle.fc_loops.proofs.LoopVolumes.{ListsOld, lists_none, lists_passed, lists_more}
use Rattle.fc_loops.proofs.links.list_old.Goals as goal
use Rattle.fc_loops.proofs.links.list_old.Goals.{then-not-row+in_ok-add, else-not-row}

pub loop-row-init : goal.loop-row-init
loop-row-init c = lists_none _ _

pub loop-row-preserved : goal.loop-row-preserved
loop-row-preserved c =
    elim c.if-not-row.branch [
      | then-not-row+in_ok-add w ↦ subst (λ (z : Vec ℕ Global). ListsOld c.args.rows.now (c.loop-row.row-index + 1) z.items) (sym w.volumes-is) (lists_more c.args.rows.now c.loop-row.row-index c.loop-row.volumes.items w.add.new.items.items w.in_ok-add.ensures c.loop-row.invariant)
      | else-not-row w ↦ subst (λ (z : Vec ℕ Global). ListsOld c.args.rows.now (c.loop-row.row-index + 1) z.items) (sym w.volumes-is) (lists_passed c.args.rows.now c.loop-row.row-index c.loop-row.volumes.items w.if-not-row.false c.loop-row.invariant)
    ]
