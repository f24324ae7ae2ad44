use Rattle.std.proofs.Common.{◌≡◌, ◌∙◌, ◌∷◌, ◌++◌, [], List, map, vec_len, Vec, Global, ap, sym, subst, arith}
use Rattle.std.specs.List.{All}
use Rattle.std.proofs.lemmas.List.{length-map}
use Rattle.fc_lane.specs.Lane.{LaneView}
use Rattle.fc_mdisk.specs.Disk.{DiskState}
use Rattle.fc_lanes.specs.Dealing.{Begin, FitLane, lists_of}
use Rattle.fc_lanes.proofs.DealLists.{count_begun, first_fits, moved, none_begin, one_begins, rest_fits, some_left}
use Rattle.fc_lanes.proofs.deal.make_lanes.Goals as goal

pub loop-disks-init : goal.loop-disks-init
loop-disks-init g c = record {
  done = [];
  count_is = c.len-count.ensures;
  split = ap (lists_of g.D.Mdisk.meaning) c.from-left.ensures.0;
  begin = subst (λ (ls : List LaneView). Begin c.args.grain (vec_len c.args.lists) [] ls) (sym c.new-lanes.ensures.items) (none_begin c.args.grain (vec_len c.args.lists));
  fit = subst (λ (xs : List (List DiskState)). All FitLane xs) (sym (ap (lists_of g.D.Mdisk.meaning) c.from-left.ensures.0)) c.requires.fit;
}

pub new-requires-clause-lane_in : goal.new-requires-clause-lane_in
new-requires-clause-lane_in g c =
    let m = g.D.Mdisk.meaning in
    let all : c.loop-disks.invariant.done ++ map m c.in-Some.disks.items ∷ lists_of m c.pop_front.new.self.items ≡ lists_of m c.args.lists.items =
    ap (λ (xs : List (Vec g.row.D.Denot Global)). c.loop-disks.invariant.done ++ lists_of m xs) (sym c.in-Some.ensures.items) ∙ c.loop-disks.invariant.split in
    omega (
      arith,
      c.len.ensures,
      c.len-count.ensures,
      c.loop-disks.lanes.ok.0,
      c.args.lists.ok.0,
      count_begun c.args.grain (vec_len c.args.lists) c.loop-disks.invariant.done c.loop-disks.lanes.items c.loop-disks.invariant.begin,
      length-map c.args.lists.items (λ (x : Vec g.row.D.Denot Global). map m x.items),
      some_left c.loop-disks.invariant.done (map m c.in-Some.disks.items) (lists_of m c.pop_front.new.self.items) (lists_of m c.args.lists.items) all,
    )

pub overflow_cast-len : goal.overflow_cast-len
overflow_cast-len g c =
    let m = g.D.Mdisk.meaning in
    let all : c.loop-disks.invariant.done ++ map m c.in-Some.disks.items ∷ lists_of m c.pop_front.new.self.items ≡ lists_of m c.args.lists.items =
    ap (λ (xs : List (Vec g.row.D.Denot Global)). c.loop-disks.invariant.done ++ lists_of m xs) (sym c.in-Some.ensures.items) ∙ c.loop-disks.invariant.split in
    record {
      fits = omega (
        arith,
        c.requires.count,
        c.len.ensures,
        c.loop-disks.lanes.ok.0,
        c.args.lists.ok.0,
        count_begun c.args.grain (vec_len c.args.lists) c.loop-disks.invariant.done c.loop-disks.lanes.items c.loop-disks.invariant.begin,
        length-map c.args.lists.items (λ (x : Vec g.row.D.Denot Global). map m x.items),
        some_left c.loop-disks.invariant.done (map m c.in-Some.disks.items) (lists_of m c.pop_front.new.self.items) (lists_of m c.args.lists.items) all,
      );
    }

pub new-requires-clause-few : goal.new-requires-clause-few
new-requires-clause-few g c =
    let m = g.D.Mdisk.meaning in
    let fit : All FitLane (map m c.in-Some.disks.items ∷ lists_of m c.pop_front.new.self.items) =
    subst (λ (xs : List (Vec g.row.D.Denot Global)). All FitLane (lists_of m xs)) c.in-Some.ensures.items c.loop-disks.invariant.fit in
    omega (
      arith,
      (first_fits (map m c.in-Some.disks.items) (lists_of m c.pop_front.new.self.items) fit).few,
      length-map c.in-Some.disks.items m,
      c.in-Some.disks.ok.0,
    )

pub new-requires-clause-unarmed : goal.new-requires-clause-unarmed
new-requires-clause-unarmed g c =
    let m = g.D.Mdisk.meaning in
    let fit : All FitLane (map m c.in-Some.disks.items ∷ lists_of m c.pop_front.new.self.items) =
    subst (λ (xs : List (Vec g.row.D.Denot Global)). All FitLane (lists_of m xs)) c.in-Some.ensures.items c.loop-disks.invariant.fit in
    (first_fits (map m c.in-Some.disks.items) (lists_of m c.pop_front.new.self.items) fit).unarmed

pub loop-disks-preserved : goal.loop-disks-preserved
loop-disks-preserved g c =
    let m = g.D.Mdisk.meaning in
    let done : List (List DiskState) = c.loop-disks.invariant.done in
    let own : List DiskState = map m c.in-Some.disks.items in
    let rest : List (List DiskState) = lists_of m c.pop_front.new.self.items in
    let all : done ++ own ∷ rest ≡ lists_of m c.args.lists.items =
    ap (λ (xs : List (Vec g.row.D.Denot Global)). done ++ lists_of m xs) (sym c.in-Some.ensures.items) ∙ c.loop-disks.invariant.split in
    let fit : All FitLane (own ∷ rest) =
    subst (λ (xs : List (Vec g.row.D.Denot Global)). All FitLane (lists_of m xs)) c.in-Some.ensures.items c.loop-disks.invariant.fit in
    record {
      done = done ++ own ∷ [];
      count_is = c.len-count.ensures;
      split = moved done own rest (lists_of m c.args.lists.items) all;
      begin = subst (λ (ls : List LaneView). Begin c.args.grain (vec_len c.args.lists) (done ++ own ∷ []) ls) (sym c.in-Ok-push.ensures.items)
          (one_begins c.args.grain (vec_len c.args.lists) done c.loop-disks.lanes.items own c.in-Ok.lane c.loop-disks.invariant.begin (c.in-Ok.ensures.lane ∙ c.len.ensures ∙ c.loop-disks.lanes.ok.0) (c.in-Ok.ensures.lanes ∙ c.len-count.ensures) c.in-Ok.ensures.grains c.in-Ok.ensures.stands c.in-Ok.ensures.quiet);
      fit = rest_fits own rest fit;
    }
