-- The lane at the place reads.
use Rattle.std.proofs.Common.{◌≡◌, ◌<◌, ◌^◌, length, ap, arith, subst, sym, ◌∙◌}
use Rattle.fc_base.specs.declared.request.Request.TheVariants.{Read}
use Rattle.fc_entry.specs.Picture.{grain_of_block}
use Rattle.fc_follow.specs.Following.{Followed}
use Rattle.fc_lane.specs.Entering.{HasFollowed}
use Rattle.fc_lane.specs.Lane.{IsFollowing, of}
use Rattle.fc_rules.specs.LaneFits.{FitsPart}
use Rattle.fc_stands.specs.Store.{StoreView}
use Rattle.fc_store.proofs.AtPlace.{at_place, in_lane, of_seen}
use Rattle.fc_store.specs.Stepping.{IsInLane, lane_in}
use Rattle.fc_noted.proofs.asking.read_at.Goals as goal

pub index_mut-requires : goal.index_mut-requires
index_mut-requires g c =
    let taken = c.into_control_and_lanes-control in
    let lanes = taken.ensures.lanes ∙ ap (λ (s : StoreView). s.lanes) c.replace.ensures.value in
    omega (arith, c.requires.there, ap length lanes, taken.result.1.ok.0)

pub read-entry-requires-clause-can : goal.read-entry-requires-clause-can
read-entry-requires-clause-can g c =
    let taken = c.into_control_and_lanes-control in
    let seen : record { control = taken.result.0; lanes = taken.result.1.items } ≡ c.args.store.now = (λ i. record { control = taken.ensures.control i; lanes = taken.ensures.lanes i }) ∙ c.replace.ensures.value in
    of_seen (λ v. (f : Followed) × IsFollowing v f × FitsPart (of v) f.told c.args.part.volume c.args.part.block c.args.part.count) seen c.requires.there c.index_mut.ensures.value c.requires.can

pub read-entry-requires-clause-number : goal.read-entry-requires-clause-number
read-entry-requires-clause-number g c =
    let taken = c.into_control_and_lanes-control in
    let seen : record { control = taken.result.0; lanes = taken.result.1.items } ≡ c.args.store.now = (λ i. record { control = taken.ensures.control i; lanes = taken.ensures.lanes i }) ∙ c.replace.ensures.value in
    of_seen (λ v. grain_of_block v.grains.grain c.args.part.block < 2 ^ 32) seen c.requires.there c.index_mut.ensures.value c.requires.number

pub returns-clause-followed : goal.returns-clause-followed
returns-clause-followed g c =
    let taken = c.into_control_and_lanes-control in
    let seen : record { control = taken.result.0; lanes = taken.result.1.items } ≡ c.args.store.now = (λ i. record { control = taken.ensures.control i; lanes = taken.ensures.lanes i }) ∙ c.replace.ensures.value in
    let lane = lane_in c.args.store.now c.args.place in
    subst (λ (s : StoreView). HasFollowed lane (λ told. FitsPart (of lane) told c.args.part.volume c.args.part.block c.args.part.count) c.args.number 0 (Read c.args.part) c.read-entry.result (lane_in s c.args.place)) (sym c.from_parts_in.ensures)
    (at_place (λ v w. HasFollowed v (λ told. FitsPart (of v) told c.args.part.volume c.args.part.block c.args.part.count) c.args.number 0 (Read c.args.part) c.read-entry.result w) c.read-entry.new.self seen c.requires.there c.index_mut.ensures.value
    c.read-entry.ensures.followed)

pub returns-clause-others : goal.returns-clause-others
returns-clause-others g c =
    let taken = c.into_control_and_lanes-control in
    let seen : record { control = taken.result.0; lanes = taken.result.1.items } ≡ c.args.store.now = (λ i. record { control = taken.ensures.control i; lanes = taken.ensures.lanes i }) ∙ c.replace.ensures.value in
    subst (λ (s : StoreView). IsInLane c.args.place c.args.store.now s) (sym c.from_parts_in.ensures) (in_lane c.read-entry.new.self seen c.requires.there)
