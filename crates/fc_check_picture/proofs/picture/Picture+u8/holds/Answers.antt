use Rattle.std.proofs.Common.{◌*◌}
use Rattle.fc_base.specs.Grain.{block_bytes}
use Rattle.fc_entry.specs.Picture.{now_at, volume_in}
use Rattle.fc_check_picture.proofs.Runs.{holds_none, holds_part}
use Rattle.fc_check_picture.proofs.picture.Picture+u8.holds.Goals as goal

pub returns-in-Some : goal.returns-in-Some
returns-in-Some c =
    holds_part (block_bytes * c.args.from) (block_bytes * c.args.count) c.in-Some.bytes.now (now_at (volume_in c.args.self.now c.args.volume) c.args.grain) c.args.runs.now c.stand_for.result
    (rw c.in-Some.is at c.part.ensures.marks) c.stand_for.ensures

pub returns-in-None : goal.returns-in-None
returns-in-None c =
    holds_none (block_bytes * c.args.from) (block_bytes * c.args.count) (now_at (volume_in c.args.self.now c.args.volume) c.args.grain) c.args.runs.now (rw c.in-None.is at c.part.ensures.marks)
