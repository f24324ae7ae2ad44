use Rattle.std.proofs.Common.{◌<◌, ◌≤◌, subst, below_more}
use Rattle.fc_check_lane.proofs.Turning.{lane_with, least_some, least_none, lane_grains, none_here, some_here, number_small}
use Rattle.fc_check_lane.proofs.known.Known.least_of.Goals as goal

pub number_in_lane-number-requires : goal.number_in_lane-number-requires
number_in_lane-number-requires c =
    let k = c.args.self.now in
    let l = lane_with c.args.lane c.args.lanes k.grain in
    let all = lane_grains k l c.args.map.0 c.grains_in_lane-grains.result c.grains_of_mapping.result c.grains_of_mapping.ensures (c.grains_in_lane-grains.ensures k.grain) in
    number_small k l c.args.map.0 c.loop-place.place c.requires.lane c.requires.few (subst (λ n. c.loop-place.place < n) all c.loop-place-test.true)

pub returns-in-Some : goal.returns-in-Some
returns-in-Some c =
    let k = c.args.self.now in
    let l = lane_with c.args.lane c.args.lanes k.grain in
    let all = lane_grains k l c.args.map.0 c.grains_in_lane-grains.result c.grains_of_mapping.result c.grains_of_mapping.ensures (c.grains_in_lane-grains.ensures k.grain) in
    least_some c.args.work k l c.args.map.0 c.loop-place.place c.number_in_lane-number.result
    (subst (λ n. c.loop-place.place < n) all c.loop-place-test.true) c.loop-place.invariant (c.number_in_lane-number.ensures k.grain) (some_here c.args.work k c.args.map.0 c.number_in_lane-number.result _ c.in-Some.ensures)

pub loop-place-preserved : goal.loop-place-preserved
loop-place-preserved c =
    let k = c.args.self.now in
    below_more _ _ c.loop-place.invariant
    (none_here c.args.work k (lane_with c.args.lane c.args.lanes k.grain) c.args.map.0 c.loop-place.place c.number_in_lane-number.result c.in-None.ensures (c.number_in_lane-number.ensures k.grain))

pub returns : goal.returns
returns c =
    let k = c.args.self.now in
    let l = lane_with c.args.lane c.args.lanes k.grain in
    let all = lane_grains k l c.args.map.0 c.grains_in_lane-grains.result c.grains_of_mapping.result c.grains_of_mapping.ensures (c.grains_in_lane-grains.ensures k.grain) in
    least_none c.args.work k l c.args.map.0 c.loop-place.place (subst (λ n. n ≤ c.loop-place.place) all c.loop-place-test.false) c.loop-place.invariant
