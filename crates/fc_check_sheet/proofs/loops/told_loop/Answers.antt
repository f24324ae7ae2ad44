use Rattle.std.proofs.Common.{ℕ, List, sym, subst}
use Rattle.std.proofs.lemmas.Result.{IfOk-weaker}
use Rattle.fc_base.specs.Sheet.{shape_of}
use Rattle.fc_check_sheet.specs.declared.links.Link.{Link}
use Rattle.fc_check_sheet.specs.Links.{AreEdges}
use Rattle.fc_check_sheet.specs.Loops.{HasVolumes}
use Rattle.fc_check_sheet.proofs.loops.told_loop.Goals as goal

pub returns : goal.returns
returns c =
    let P : List Link → Type 0 = λ z. AreEdges (shape_of c.args.sheet.now.slots) z in
    let Q : List ℕ → Type 0 = λ z. HasVolumes c.args.sheet.now.slots z in
    IfOk-weaker c.loop_among.result _ _ (λ found told. told c.args.sheet.now.slots (subst P (sym c.deref.ensures.value) c.in_ok-links.ensures) (subst Q (sym c.deref-2.ensures.value) c.in_ok-volumes.ensures)) c.loop_among.ensures
