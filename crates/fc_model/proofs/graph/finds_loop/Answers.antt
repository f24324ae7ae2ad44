use Rattle.std.proofs.Common.{◌∙◌, List, ℕ, length, refl, subst, sym, ap}
use Rattle.std.specs.Prelude.{Contains}
use Rattle.fc_base.specs.Sheet.{shape_of}
use Rattle.fc_model.specs.Graph.{IsSink, LeadsInto}
use Rattle.fc_model.proofs.Loops.{AllGrounded, grounded_others, sink_removed, found_is}
use Rattle.fc_model.proofs.graph.finds_loop.Goals as goal

pub loop-place-init : goal.loop-place-init
loop-place-init c = grounded_others c.args.slots.now c.in_ok-left.left.items c.in_ok-left.ensures

pub loop-place-preserved : goal.loop-place-preserved
loop-place-preserved c =
    let P : List ℕ → Type 0 = λ z. AllGrounded (shape_of c.args.slots.now) z in
    let Q : List ℕ → Type 0 = λ z. IsSink (shape_of c.args.slots.now) z c.in-Some.place in
    subst P (sym c.remove-volume.ensures.items) (sink_removed (shape_of c.args.slots.now) c.loop-place.left.items c.in-Some.place c.loop-place.invariant (subst Q c.as_slice.ensures.value c.in-Some.ensures))

pub returns : goal.returns
returns c =
    let P : List ℕ → Type 0 = λ z. (v : ℕ) → Contains z v → LeadsInto (shape_of c.args.slots.now) v z in
    found_is (shape_of c.args.slots.now) c.loop-place.left.items _ _ c.loop-place.invariant (subst P c.as_slice.ensures.value c.in_default.ensures) (sym c.as_slice.ensures.len ∙ ap length c.as_slice.ensures.value)
    c.is_empty.result c.is_empty.ensures refl
