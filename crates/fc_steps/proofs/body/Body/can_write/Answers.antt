use Rattle.std.proofs.Common.{not, ap, sym, ◌∙◌}
use Rattle.fc_base.specs.Grain.{grain_blocks}
use Rattle.fc_steps.proofs.Writable.{first_held, first_from, first_inside, part_writable, whole_writable}
use Rattle.fc_steps.proofs.body.Body.can_write.Goals as goal

pub returns-then-part-blocks : goal.returns-then-part-blocks
returns-then-part-blocks g c l told t at w number place =
    ap not (sym (whole_writable l told c.args.part t c.args.self.now.cascade c.args.self.now.grains at w (c.if-part-blocks.true ∙ (c.blocks-2.ensures ∙ ap grain_blocks c.grain.ensures))))

pub shown_by-source-requires : goal.shown_by-source-requires
shown_by-source-requires g c =
    first_held c.requires.can.0 c.requires.can.1 c.args.part c.requires.can.2 c.args.self.now.cascade c.args.self.now.grains c.requires.can.3 c.requires.can.4 c.args.grain c.requires.can.5

pub is_lost-requires : goal.is_lost-requires
is_lost-requires g c =
    let from = first_from c.requires.can.0 c.requires.can.1 c.args.part c.requires.can.2 c.args.self.now.cascade c.args.self.now.grains c.requires.can.3 c.requires.can.4 c.shown_by-source.result.0 c.args.grain c.requires.can.5 c.shown_by-source.ensures in
    first_inside c.requires.can.0 c.requires.can.1 c.args.part c.requires.can.2 c.args.self.now.cascade c.args.self.now.grains c.requires.can.3 c.requires.can.4 c.shown_by-source.result.0 c.args.place from c.requires.can.6

pub returns : goal.returns
returns g c l told t at w number place =
    let from = first_from l told c.args.part t c.args.self.now.cascade c.args.self.now.grains at w c.shown_by-source.result.0 c.args.grain number c.shown_by-source.ensures in
    ap not
    (c.is_lost.ensures
    ∙ sym (part_writable l told c.args.part t c.args.self.now.cascade c.args.self.now.grains at w c.shown_by-source.result.0 c.args.place from place
    (λ e. c.if-part-blocks.false (e ∙ (ap grain_blocks (sym c.grain.ensures) ∙ sym c.blocks-2.ensures)))))
