use Rattle.std.proofs.Common.{rules}
use Rattle.fc_base.specs.Moves.{write_moves}
use Rattle.fc_entry.specs.Picture.{grain_of_block}
use Rattle.fc_steps.specs.WriteStep.{spot_of}
use Rattle.fc_steps.proofs.WriteAll.{write_can_move, write_stops, write_can_own, write_ends, moved_whole}
use Rattle.fc_steps.proofs.body.Body.write_all.Goals as goal

pub make_moves-moves-requires-clause-can : goal.make_moves-moves-requires-clause-can
make_moves-moves-requires-clause-can g c =
    let l = c.requires.can.0 in
    let told = c.requires.can.1 in
    let t = c.requires.can.2 in
    let w = c.requires.can.3 in (
      l,
      told,
      grain_of_block l.grain c.args.part.block,
      write_moves (spot_of l told c.args.part).column t,
      write_can_move l told c.args.part t c.args.self.now.cascade c.args.self.now.grains c.args.plan.now c.args.grain.0 c.args.place w,
      w.plan_is,
      w.place_is,
    )

pub returns-then-is_some : goal.returns-then-is_some
returns-then-is_some g c l told t w =
    write_stops l told c.args.part t c.args.self.now.cascade c.args.self.now.grains c.args.plan.now c.args.grain.0 c.args.place w c.make_moves-moves.new.made.moves c.make_moves-moves.result.calls c.make_moves-moves.result.stop
    c.make_moves-moves.new.self.cascade c.make_moves-moves.new.self.grains (search rules)
    (c.make_moves-moves.ensures.ends l told (grain_of_block l.grain c.args.part.block) (write_moves (spot_of l told c.args.part).column t)
    (write_can_move l told c.args.part t c.args.self.now.cascade c.args.self.now.grains c.args.plan.now c.args.grain.0 c.args.place w) w.plan_is w.place_is)

pub write_own-own-requires : goal.write_own-own-requires
write_own-own-requires g c =
    let l = c.requires.can.0 in
    let told = c.requires.can.1 in
    let t = c.requires.can.2 in
    let w = c.requires.can.3 in
    let x = moved_whole l told c.args.part t c.args.self.now.cascade c.args.self.now.grains c.args.plan.now c.args.grain.0 c.args.place w c.make_moves-moves.new.made.moves c.make_moves-moves.result.calls c.make_moves-moves.result.stop
    c.make_moves-moves.new.self.cascade c.make_moves-moves.new.self.grains (search rules) c.make_moves-moves.ensures.ends in
    record {
      can = (
        l,
        told,
        t,
        write_can_own l told c.args.part t c.args.self.now.cascade c.args.self.now.grains c.args.plan.now c.args.grain.0 c.args.place w c.make_moves-moves.new.made.moves c.make_moves-moves.result.calls
            c.make_moves-moves.new.self.cascade c.make_moves-moves.new.self.grains x,
        w.number_is,
        w.place_is,
      );
    }

pub returns : goal.returns
returns g c l told t w =
    let x = moved_whole l told c.args.part t c.args.self.now.cascade c.args.self.now.grains c.args.plan.now c.args.grain.0 c.args.place w c.make_moves-moves.new.made.moves c.make_moves-moves.result.calls c.make_moves-moves.result.stop
    c.make_moves-moves.new.self.cascade c.make_moves-moves.new.self.grains (search rules) c.make_moves-moves.ensures.ends in
    write_ends l told c.args.part t c.args.self.now.cascade c.args.self.now.grains c.args.plan.now c.args.grain.0 c.args.place w c.make_moves-moves.new.made.moves c.make_moves-moves.result.calls
    c.make_moves-moves.new.self.cascade c.make_moves-moves.new.self.grains x c.write_own-own.result.calls c.write_own-own.result.stop c.write_own-own.new.self.cascade c.write_own-own.new.self.grains
    (c.write_own-own.ensures.ends l told t
    (write_can_own l told c.args.part t c.args.self.now.cascade c.args.self.now.grains c.args.plan.now c.args.grain.0 c.args.place w c.make_moves-moves.new.made.moves c.make_moves-moves.result.calls
    c.make_moves-moves.new.self.cascade c.make_moves-moves.new.self.grains x) w.number_is w.place_is)
