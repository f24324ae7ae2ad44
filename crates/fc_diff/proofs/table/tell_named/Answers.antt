use Rattle.std.proofs.Common.{◌≡◌, sym, ◌∙◌, ap, subst, take, set, get_or, ◌+◌, ◌++◌, ◌∷◌, []}
use Rattle.std.proofs.lemmas.List.{take_more, take_all}
use Rattle.std.proofs.lemmas.List.Quantifiers.{position-Some}
use Rattle.fc_changed.specs.Row.{is_of}
use Rattle.fc_diff.specs.Told.{row_after}
use Rattle.fc_diff.proofs.Telling.{IsTold, told_numbers, told_fits, told_missed, told_found, told_all, moved}
use Rattle.fc_diff.proofs.table.tell_named.Goals as goal
use Rattle.fc_diff.proofs.table.tell_named.Goals.{in-Some, in_default}

pub find_place-requires : goal.find_place-requires
find_place-requires c =
    ap (λ n. take n c.args.ids.now.keys) c.loop-number.invariant.same_length ∙ (c.requires.beside ∙ sym (told_numbers c.args.event c.args.rows.now (take c.loop-number.number-index c.args.named.now) c.loop-number.rows c.loop-number.invariant))

pub take-requires : goal.take-requires
take-requires c =
    told_fits c.args.event c.args.rows.now (take c.loop-number.number-index c.args.named.now) c.loop-number.rows c.loop-number.invariant c.requires.fits
    c.in-Some.place c.index-rows-place.result (position-Some (is_of (get_or c.args.named.now c.loop-number.number-index 0)) c.loop-number.rows c.in-Some.place c.index-rows-place.result (sym c.find_place.ensures ∙ c.in-Some.is)).0

pub loop-number-preserved : goal.loop-number-preserved
loop-number-preserved c =
    let before = c.args.rows.now in
    let number = get_or c.args.named.now c.loop-number.number-index 0 in
    let so_far = take c.loop-number.number-index c.args.named.now in
    let more : take (c.loop-number.number-index + 1) c.args.named.now ≡ so_far ++ number ∷ [] = take_more c.args.named.now c.loop-number.number-index 0 c.loop-number-test.true in
    elim c.match-find_place.branch [
      | in-Some w ↦
          (let told = told_found c.args.event before so_far c.loop-number.rows c.loop-number.invariant c.requires.distinct number w.in-Some.place w.index-rows-place.result (sym c.find_place.ensures ∙ w.in-Some.is) w.index-rows-place.is in
          let rows : set c.loop-number.rows w.in-Some.place (row_after c.args.event w.index-rows-place.result) ≡ c.match-find_place.rows =
          ap (λ r. set c.loop-number.rows w.in-Some.place r) (ap (row_after c.args.event) w.index-rows-place.is ∙ sym w.take.ensures) ∙ sym w.rows-is in
          moved c.args.event before (so_far ++ number ∷ []) (take (c.loop-number.number-index + 1) c.args.named.now) (set c.loop-number.rows w.in-Some.place (row_after c.args.event w.index-rows-place.result)) c.match-find_place.rows (sym more) rows told)
      | in_default w ↦
          moved c.args.event before (so_far ++ number ∷ []) (take (c.loop-number.number-index + 1) c.args.named.now) c.loop-number.rows c.match-find_place.rows (sym more) (sym w.rows-is)
          (told_missed c.args.event before so_far c.loop-number.rows c.loop-number.invariant number (sym c.find_place.ensures ∙ w.in_default.is))
    ]

pub returns : goal.returns
returns c =
    let all : take c.loop-number.number-index c.args.named.now ≡ c.args.named.now = take_all c.loop-number.number-index c.args.named.now c.loop-number-test.false in
    told_all c.args.event c.args.rows.now c.args.named.now c.loop-number.rows
    (subst (λ n. IsTold c.args.event c.args.rows.now n c.loop-number.rows) all c.loop-number.invariant) c.requires.complete
