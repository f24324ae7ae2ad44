use Rattle.std.proofs.Common.{◌≡◌, map, sym, ap, ◌∙◌}
use Rattle.std.specs.List.{fold}
use Rattle.fc_image.specs.Records.{chain_after, row_after, changes_after}
use Rattle.fc_image.proofs.Folds.{image_folds}
use Rattle.fc_image.proofs.apply.apply_records.Goals as goal

pub returns : goal.returns
returns c =
    let m = c.as_slice-mappings.ensures in
    let a = c.in_ok-image.ensures ∙ ap (λ chains. map (λ chain. fold chain_after chain c.args.records.now) chains) c.as_slice.ensures in
    let b = c.in_ok-image-2.ensures ∙ ap (λ rows. map (λ row. fold row_after row c.args.records.now) rows) c.as_slice-2.ensures in
    let d = rw m at (c.in_ok-image-3.ensures ∙ ap (λ rows. map (λ row. fold (changes_after c.as_slice-mappings.result.now) row c.args.records.now) rows) c.as_slice-3.ensures) in
    rw (a, b, d) (sym (image_folds c.args.image.now c.args.records.now))
