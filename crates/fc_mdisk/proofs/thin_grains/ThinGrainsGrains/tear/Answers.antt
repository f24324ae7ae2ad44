use Rattle.std.proofs.Common.{ap, sym, ◌∙◌, arith, List, ℕ, slice_set}
use Rattle.fc_mdisk.proofs.Reached.{grains_left, occupied_left, bytes_left, torn_left, torn_size, count_fits}
use Rattle.fc_mdisk.proofs.thin_grains.ThinGrainsGrains.tear.Goals as goal

pub overflow_add-self : goal.overflow_add-self
overflow_add-self c =
    count_fits c.self.inside.width c.args.grain c.self.inside.grains.items _ _ c.self.view_is c.requires.in_range c.index_mut-place.ensures.value
    c.self.inside.used c.is_reached-first.result c.is_reached-first.ensures (omega arith) (omega arith)

pub returns-clause-half : goal.returns-clause-half
returns-clause-half c =
    torn_left c.self.inside.width c.args.grain c.self.inside.grains.items _ _ c.self.view_is c.requires.in_range c.index_mut-place.ensures.value c.tear.new.self
    c.args.bytes.now (c.tear.ensures.bytes c.self.inside.width)

pub returns-clause-size : goal.returns-clause-size
returns-clause-size c = torn_size c.args.bytes.now _ _ c.requires.whole (returns-clause-half c)

pub returns-clause-others : goal.returns-clause-others
returns-clause-others c =
    grains_left c.self.inside.width c.args.grain c.self.inside.grains.items _ _ c.self.view_is c.requires.in_range c.index_mut-place.ensures.value c.tear.new.self
    ∙ ap (λ (bytes : List ℕ). slice_set c.args.self.now.grains c.args.grain bytes) (sym (bytes_left c.self.inside.width c.args.grain c.self.inside.grains.items _ _ c.self.view_is c.requires.in_range c.index_mut-place.ensures.value c.tear.new.self))

pub returns-clause-reached : goal.returns-clause-reached
returns-clause-reached c =
    occupied_left c.self.inside.width c.args.grain c.self.inside.grains.items _ _ c.self.view_is c.requires.in_range c.index_mut-place.ensures.value c.tear.new.self c.tear.ensures.reached
