use Rattle.std.proofs.Common.{◌<◌, ◌^◌, ◌∙◌, List, length, map, sym, subst, arith}
use Rattle.std.specs.List.{All}
use Rattle.std.proofs.lemmas.List.{length-map}
use Rattle.fc_legal.specs.Whole.{opened}
use Rattle.fc_mdisk.specs.Disk.{DiskState}
use Rattle.fc_lanes.specs.Dealing.{Begin, FitLane, all_dealt, pools_dealt}
use Rattle.fc_lanes.proofs.DealLists.{begin_dealt, lists_count}
use Rattle.fc_stands.specs.Store.{StandsFor, StoreView}
use Rattle.fc_stands.proofs.NewStore.{all_fit, store_begins}
use Rattle.fc_noted.proofs.noted.first_store.Given as given
use Rattle.fc_noted.proofs.noted.first_store.Goals as goal
use Rattle.fc_noted.proofs.noted.first_store.Goals.{After-from_parts_in}

made : (g : given.Over) (c : After-from_parts_in g) → Begin c.args.grain 4 (all_dealt 4 (map g.D.Mdisk.meaning c.args.disks.items)) c.in-Ok-make_lanes.lanes.items
made g c =
    begin_dealt c.args.grain _ 4 (map g.D.Mdisk.meaning c.args.disks.items) _ c.in-Ok-make_lanes.lanes.items
    (c.in-Ok.lists.ok.0 ∙ lists_count g.D.Mdisk.meaning 4 (map g.D.Mdisk.meaning c.args.disks.items) c.in-Ok.lists.items c.in-Ok.ensures)
    c.in-Ok.ensures
    c.in-Ok-make_lanes.ensures

pub make_lanes-requires-clause-fit : goal.make_lanes-requires-clause-fit
make_lanes-requires-clause-fit g c =
    let disks : List DiskState = map g.D.Mdisk.meaning c.args.disks.items in
    let few : length disks < 2 ^ 30 = omega (arith, c.requires.few, c.args.disks.ok.0, length-map c.args.disks.items g.D.Mdisk.meaning) in
    subst (λ (xs : List (List DiskState)). All FitLane xs) (sym c.in-Ok.ensures) (all_fit 4 disks few c.requires.fresh)

pub returns-clause-stands : goal.returns-clause-stands
returns-clause-stands g c =
    let disks : List DiskState = map g.D.Mdisk.meaning c.args.disks.items in
    subst (λ (s : StoreView). StandsFor s (opened (pools_dealt 4 disks))) (sym c.from_parts_in.ensures)
    (store_begins c.args.grain 4 disks c.in-Ok-make_lanes.lanes.items (made g c) c.new.result c.new.ensures (omega arith) c.requires.fresh)

pub returns-clause-begin : goal.returns-clause-begin
returns-clause-begin g c =
    subst (λ (s : StoreView). Begin c.args.grain 4 (all_dealt 4 (map g.D.Mdisk.meaning c.args.disks.items)) s.lanes) (sym c.from_parts_in.ensures) (made g c)
