use Rattle.std.proofs.Common.{◌∙◌, sym, ap, arith, subst, inl, inr, ◌<◌, ◌≡◌, ◌++◌, ◌∷◌, [], length, List, ℕ}
use Rattle.fc_base.specs.MovePlan.{PlannedMoves}
use Rattle.fc_base.specs.declared.request.Move.{Move}
use Rattle.fc_base.specs.Moves.{list_with_asked}
use Rattle.fc_base.specs.Plan.{move_at}
use Rattle.fc_base.specs.Sheet.{column}
use Rattle.fc_chain.specs.Planning.{IsPlanned}
use Rattle.fc_chain.proofs.Plans.{lists_as, volume_at, answer_again, answer_in_place, answer_at_end, room_in_place, room_at_end, room_for_reader}
use Rattle.fc_chain.proofs.plan.+add_fill.Goals as goal
use Rattle.fc_chain.proofs.plan.+add_fill.Goals.{then-depth-eq0-via-then-depth-eq0, then-depth-eq0-via-else-depth-eq0+then-lists, then-not-fills_in_place+in_default, else-not-fills_in_place}

pub returns-then-depth-eq0-clause-listed : goal.returns-then-depth-eq0-clause-listed
returns-then-depth-eq0-clause-listed t c =
    elim c.then-depth-eq0.branch [
      | then-depth-eq0-via-then-depth-eq0 w ↦ answer_again _ _ _ _ _ _ c.requires.apart c.requires.there (inl w.if-depth-eq0.true)
      | then-depth-eq0-via-else-depth-eq0+then-lists w ↦ answer_again _ _ _ _ _ _ c.requires.apart c.requires.there
          (inr (lists_as _ _ _ _ w.index-slots-place.result _ _ _ c.requires.there w.index-slots-place.is w.birth.ensures w.as_slice.ensures w.lists.ensures w.if-lists.true))
    ]

pub add_fill-requires : goal.add_fill-requires
add_fill-requires t c = (
  omega arith,
  (
    c.in-Some-first_reader_of.ensures.bound,
    (
      c.requires.apart,
      (
        c.requires.together,
        (
          c.requires.listed,
          room_for_reader _ _ _ c.args.depth c.args.place _ _ _ _ c.volume-volume.result c.loop-old.after c.in-Some.old _ c.requires.apart c.requires.there
              (volume_at _ _ _ c.index-slots-place-then-not-fills_in_place.result c.requires.there c.index-slots-place-then-not-fills_in_place.is c.volume-volume.ensures)
              c.loop-old.invariant.room c.loop-old.invariant.added (omega arith)
              (lists_as _ _ _ _ c.index-slots-place.result _ _ _ c.requires.there c.index-slots-place.is c.birth.ensures c.as_slice.ensures c.lists.ensures c.if-lists.false)
              (sym c.fills_in_place.ensures ∙ c.if-not-fills_in_place.true) c.in-Some.ensures c.in-Some-first_reader_of.ensures.value,
        ),
      ),
    ),
  ),
)

pub push-requires : goal.push-requires
push-requires t c =
    elim c.if-not-fills_in_place.branch [
      | then-not-fills_in_place+in_default w ↦ subst (λ (p : PlannedMoves). length p.moves < p.room) (sym w.plan-is)
          (room_at_end _ _ _ c.args.depth c.args.place _ _ _ _ w.volume-volume.result w.loop-old.after c.requires.apart c.requires.there
          (volume_at _ _ _ w.index-slots-place-then-not-fills_in_place.result c.requires.there w.index-slots-place-then-not-fills_in_place.is w.volume-volume.ensures)
          w.loop-old.invariant.room w.loop-old.invariant.added (omega arith)
          (lists_as _ _ _ _ c.index-slots-place.result _ _ _ c.requires.there c.index-slots-place.is c.birth.ensures c.as_slice.ensures c.lists.ensures c.if-lists.false)
          (sym c.fills_in_place.ensures ∙ w.if-not-fills_in_place.true) w.in_default.ensures)
      | else-not-fills_in_place w ↦ subst (λ (p : PlannedMoves). length p.moves < p.room) (sym w.plan-is)
          (room_in_place _ _ _ c.args.depth c.args.place _ _ c.requires.apart c.requires.there (omega arith)
          (lists_as _ _ _ _ c.index-slots-place.result _ _ _ c.requires.there c.index-slots-place.is c.birth.ensures c.as_slice.ensures c.lists.ensures c.if-lists.false)
          (sym c.fills_in_place.ensures ∙ w.if-not-fills_in_place.false) c.requires.room)
    ]

pub returns-clause-listed : goal.returns-clause-listed
returns-clause-listed t c =
    let Told : PlannedMoves → Type 0 = λ (p : PlannedMoves). (listed : List ℕ) → IsPlanned c.args.slots.now c.args.grain.place c.args.grain.number c.args.plan.now.moves listed →
    IsPlanned c.args.slots.now c.args.grain.place c.args.grain.number (p.moves ++ move_at c.args.slots.now c.args.grain.place c.args.grain.number c.args.place ∷ []) (list_with_asked (column c.args.slots.now c.args.grain.place) c.args.depth c.args.place listed) in
    let told : Told c.if-not-fills_in_place.plan = elim c.if-not-fills_in_place.branch [
      | then-not-fills_in_place+in_default w ↦ subst Told (sym w.plan-is)
          (answer_at_end _ _ _ c.args.depth c.args.place _ _ _ w.volume-volume.result w.loop-old.after c.requires.apart c.requires.there
          (volume_at _ _ _ w.index-slots-place-then-not-fills_in_place.result c.requires.there w.index-slots-place-then-not-fills_in_place.is w.volume-volume.ensures)
          w.loop-old.invariant.added (omega arith)
          (lists_as _ _ _ _ c.index-slots-place.result _ _ _ c.requires.there c.index-slots-place.is c.birth.ensures c.as_slice.ensures c.lists.ensures c.if-lists.false)
          (sym c.fills_in_place.ensures ∙ w.if-not-fills_in_place.true) w.in_default.ensures)
      | else-not-fills_in_place w ↦ subst Told (sym w.plan-is)
          (answer_in_place _ _ _ c.args.depth c.args.place _ c.requires.apart c.requires.there (omega arith)
          (lists_as _ _ _ _ c.index-slots-place.result _ _ _ c.requires.there c.index-slots-place.is c.birth.ensures c.as_slice.ensures c.lists.ensures c.if-lists.false)
          (sym c.fills_in_place.ensures ∙ w.if-not-fills_in_place.false))
    ] in
    let e : c.push.new.self.moves ≡ c.if-not-fills_in_place.plan.moves ++ move_at c.args.slots.now c.args.grain.place c.args.grain.number c.args.place ∷ [] =
    ap (λ (q : PlannedMoves). q.moves) c.push.ensures ∙ ap (λ m. c.if-not-fills_in_place.plan.moves ++ m ∷ []) c.move_of.ensures in
    λ listed p. subst (λ (x : List Move). IsPlanned c.args.slots.now c.args.grain.place c.args.grain.number x (list_with_asked (column c.args.slots.now c.args.grain.place) c.args.depth c.args.place listed)) (sym e) (told listed p)
