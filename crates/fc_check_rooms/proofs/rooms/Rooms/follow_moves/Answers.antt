-- One move more.
use Rattle.std.proofs.Common.{List, false, get_or, sym, ap, ◌∙◌}
use Rattle.std.proofs.lemmas.List.Sums.{fold_more}
use Rattle.fc_base.specs.Room.{Room}
use Rattle.fc_base.specs.declared.request.Move.{Move}
use Rattle.fc_legal.specs.Whole.{single_lane}
use Rattle.fc_rules.specs.Rooms.{rooms_move}
use Rattle.fc_check_rooms.proofs.rooms.Rooms.follow_moves.Goals as goal

pub loop-mv-preserved : goal.loop-mv-preserved
loop-mv-preserved c = λ size.
    let move : List Room → Move → List Room = rooms_move (single_lane size) c.args.picture.now in
    let none : Move = record { slot = record { 0 = 0 }; volume = record { 0 = 0 }; grain = record { 0 = 0 }; in_place = false } in
    c.follow_move.ensures size ∙ ap (λ (rooms : List Room). move rooms (get_or c.args.moves.now c.loop-mv.mv-index none)) (c.loop-mv.invariant size)
    ∙ sym (fold_more move c.args.self.now c.args.moves.now c.loop-mv.mv-index none c.loop-mv-test.true)
