use Rattle.std.proofs.Common.{◌≤◌, ◌<◌, length, refl, arith}
use Rattle.fc_check_sheet.proofs.Needing.{adds_holder, holder_there}
use Rattle.fc_check_sheet.proofs.unneeded.mark_holder.Goals as goal

pub bounds-needed-holder : goal.bounds-needed-holder
bounds-needed-holder c =
    let le : c.in-Some.holder ≤ c.args.place = holder_there c.args.sheet.now.slots c.args.place c.args.grain c.in-Some.holder c.holder.result c.holder.ensures c.in-Some.is in
    omega arith

pub returns-then-holder-place : goal.returns-then-holder-place
returns-then-holder-place c =
    let le : c.in-Some.holder ≤ c.args.place = holder_there c.args.sheet.now.slots c.args.place c.args.grain c.in-Some.holder c.holder.result c.holder.ensures c.in-Some.is in
    let lt : c.in-Some.holder < length c.args.needed.now = omega arith in
    adds_holder c.args.sheet.now.slots c.args.place c.args.grain c.in-Some.holder c.holder.result c.args.needed.now _ c.holder.ensures c.in-Some.is c.if-holder-place.true lt refl
