use Rattle.std.proofs.Common.{◌≡◌, ℕ, length, ap, ◌∙◌}
use Rattle.fc_bits.specs.Words.{grains_of}
use Rattle.fc_books.specs.After.{of_length}
use Rattle.fc_kept.specs.Images.{size_in, tables_in}
use Rattle.fc_recovery_text.proofs.Slots.{taken_whole}
use Rattle.fc_recovery_text.proofs.sheet.slot_of.Goals as goal

pub returns : goal.returns
returns c =
    let slot = c.args.slot.now in
    let size : ℕ = size_in (tables_in c.args.image.now) slot.volume in
    let held : of_length (length c.in_ok-made.made.held) c.as_slice.result.now ≡ grains_of size slot.held =
    taken_whole size (length c.in_ok-made.made.held) slot.held c.as_slice.result.now (c.in_ok-made.ensures.grains ∙ c.grains_in-grains.ensures)
    (c.as_slice.ensures.value ∙ (c.in_ok-marks.ensures ∙ ap (λ (n : ℕ). grains_of n slot.held) c.grains_in-grains.ensures)) in
    c.hold_only.ensures ∙ (λ k. record (c.in_ok-made.ensures.slot k) { held = held k })
