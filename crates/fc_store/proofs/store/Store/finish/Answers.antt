-- The lane at the place ends the entry.
use Rattle.std.proofs.Common.{◌≡◌, length, ap, arith}
use Rattle.fc_lane.specs.Doing.{FitsAsk, IsUnderWay, entry_over}
use Rattle.fc_lane.specs.Entering.{HasFollowed}
use Rattle.fc_lane.specs.Lane.{LaneView, of}
use Rattle.fc_stands.specs.Store.{StoreView}
use Rattle.fc_steps.specs.Asking.{request_of}
use Rattle.fc_store.proofs.AtPlace.{at_place, in_lane, of_seen}
use Rattle.fc_store.proofs.store.Store.finish.Goals as goal

pub index_mut-requires : goal.index_mut-requires
index_mut-requires g c = omega (arith, c.requires.there, ap (λ (s : StoreView). length s.lanes) c.self.view_is, c.self.inside.lanes.ok.0)

pub finish-requires-clause-way : goal.finish-requires-clause-way
finish-requires-clause-way g c =
    of_seen (λ v. (lane : LaneView) × IsUnderWay lane c.args.doing v) c.self.view_is c.requires.there c.index_mut.ensures.value c.requires.way

pub returns-clause-entry : goal.returns-clause-entry
returns-clause-entry g c =
    at_place
    (λ v w. (lane : LaneView) → IsUnderWay lane c.args.doing v →
    HasFollowed lane (FitsAsk (of lane) c.args.doing.steps.ask) c.args.doing.number c.args.doing.actor (request_of c.args.doing.steps.ask) c.finish.result w)
    c.finish.new.self c.self.view_is c.requires.there c.index_mut.ensures.value c.finish.ensures.followed

pub returns-clause-told : goal.returns-clause-told
returns-clause-told g c =
    at_place (λ v w. c.finish.result ≡ entry_over v c.args.doing) c.finish.new.self c.self.view_is c.requires.there c.index_mut.ensures.value c.finish.ensures.told

pub returns-clause-grains : goal.returns-clause-grains
returns-clause-grains g c =
    at_place (λ v w. w.grains ≡ v.grains) c.finish.new.self c.self.view_is c.requires.there c.index_mut.ensures.value c.finish.ensures.grains

pub returns-clause-others : goal.returns-clause-others
returns-clause-others g c = in_lane c.finish.new.self c.self.view_is c.requires.there
