use Rattle.std.proofs.Common.{◌+◌, sym, subst, arith}
use Rattle.std.proofs.lemmas.Bool.{both_ways}
use Rattle.fc_check_sheet.specs.Links.{AddsFirst}
use Rattle.fc_check_sheet.proofs.Linking.{edge_added, edge_passed}
use Rattle.fc_check_sheet.proofs.links.add_links.Goals as goal
use Rattle.fc_check_sheet.proofs.links.add_links.Goals.{then-is_edge+in_ok-push, else-is_edge}

pub loop-live-preserved : goal.loop-live-preserved
loop-live-preserved c =
    elim c.if-is_edge.branch [
      | then-is_edge+in_ok-push w ↦ subst (λ z. AddsFirst c.args.sheet.now.slots c.args.old (c.loop-live.live + 1) c.args.links.now.items z.items) (sym w.links-is)
          (edge_added c.args.sheet.now.slots c.args.old c.loop-live.live w.volume.result.0 w.volume-then-is_edge.result.0 c.args.links.now.items c.loop-live.links.items w.push.new.links.items (c.is_edge.ensures.0 w.if-is_edge.true)
          (omega arith) w.volume.ensures w.volume-then-is_edge.ensures w.in_ok-push.ensures c.loop-live.invariant)
      | else-is_edge w ↦ subst (λ z. AddsFirst c.args.sheet.now.slots c.args.old (c.loop-live.live + 1) c.args.links.now.items z.items) (sym w.links-is)
          (edge_passed c.args.sheet.now.slots c.args.old c.loop-live.live c.args.links.now.items c.loop-live.links.items (λ e. both_ways c.is_edge.result w.if-is_edge.false (c.is_edge.ensures.1 e)) c.loop-live.invariant)
    ]
