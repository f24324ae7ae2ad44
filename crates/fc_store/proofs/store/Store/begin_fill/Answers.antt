-- The lane at the place begins the copy or the cleaning.
use Rattle.std.specs.Prelude.{IsSome}
use Rattle.std.proofs.Common.{◌≡◌, ◌%◌, length, ap, arith}
use Rattle.fc_follow.specs.Following.{Followed}
use Rattle.fc_lane.specs.Doing.{HasBegun}
use Rattle.fc_lane.specs.Lane.{IsFollowing, IsReady, of}
use Rattle.fc_lane.specs.Workers.{ask_of, filled_slot}
use Rattle.fc_rules.specs.LaneTold.{place_of}
use Rattle.fc_stands.specs.Store.{StoreView}
use Rattle.fc_store.proofs.AtPlace.{at_place, fills_some, in_lane, of_seen}
use Rattle.fc_store.proofs.store.Store.begin_fill.Goals as goal

pub index_mut-requires : goal.index_mut-requires
index_mut-requires g c = omega (arith, c.requires.there, ap (λ (s : StoreView). length s.lanes) c.self.view_is, c.self.inside.lanes.ok.0)

pub begin_fill-requires-clause-can : goal.begin_fill-requires-clause-can
begin_fill-requires-clause-can g c =
    of_seen (λ v. (f : Followed) × IsFollowing v f × IsSome (filled_slot c.args.worker f.told.sheet.slots c.args.map.0 (place_of (of v) c.args.grain.0)))
    c.self.view_is c.requires.there c.index_mut.ensures.value
    (fills_some c.args.worker c.args.map c.args.grain c.requires.can)

pub begin_fill-requires-clause-of_lane : goal.begin_fill-requires-clause-of_lane
begin_fill-requires-clause-of_lane g c = of_seen (λ v. c.args.grain.0 % v.lanes ≡ v.lane) c.self.view_is c.requires.there c.index_mut.ensures.value c.requires.of_lane

pub begin_fill-requires-clause-ready : goal.begin_fill-requires-clause-ready
begin_fill-requires-clause-ready g c = of_seen IsReady c.self.view_is c.requires.there c.index_mut.ensures.value c.requires.ready

pub returns-clause-begun : goal.returns-clause-begun
returns-clause-begun g c =
    at_place (λ v w. HasBegun v c.args.number 0 (ask_of c.args.worker c.args.map c.args.grain) c.begin_fill.result w) c.begin_fill.new.self c.self.view_is c.requires.there
    c.index_mut.ensures.value c.begin_fill.ensures

pub returns-clause-others : goal.returns-clause-others
returns-clause-others g c = in_lane c.begin_fill.new.self c.self.view_is c.requires.there
