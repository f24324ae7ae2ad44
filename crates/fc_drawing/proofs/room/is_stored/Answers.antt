use Rattle.std.proofs.Common.{ℕ, Bool, ap, ◌&&◌, eqb, false, get_or, is_some, rules, ◌∙◌}
use Rattle.fc_base.specs.Column.{last_below}
use Rattle.fc_base.specs.Sheet.{slot_at}
use Rattle.fc_drawing.proofs.room.is_stored.Goals as goal

pub returns : goal.returns
returns c =
    let slots = c.args.sheet.now.slots in
    let test : ℕ → Bool = λ k. eqb (slot_at slots k).volume c.args.volume.0 && get_or (slot_at slots k).held c.args.grain false in
    c.is_some.ensures ∙ ap is_some (c.last_place.ensures test (λ k passes answered. search rules) ∙ ap (last_below test) c.len.ensures)
