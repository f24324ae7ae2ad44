-- What an entry of a lane does to chains at all grains.
use Rattle.std.proofs.Common.{◌≡◌, Option, Some, None, List, [], ◌∷◌, fold, refl, ap, ◌∙◌}
use Rattle.fc_base.specs.Sheet.{Sheet}
use Rattle.fc_base.specs.SheetStep.{sheet_moved, sheet_written, sheet_torn}
use Rattle.fc_base.specs.declared.request.Move.{Move}
use Rattle.fc_base.specs.declared.request.Torn.{Torn}
use Rattle.fc_base.specs.declared.request.WritePart.{WritePart}
use Rattle.fc_base.specs.declared.size.GrainSize.{GrainSize}
use Rattle.fc_entry.specs.Picture.{grain_of_block}
use Rattle.fc_legal.specs.Whole.{single_lane}
use Rattle.fc_parts.proofs.Numbers.{all_place}
use Rattle.fc_rules.specs.LaneTold.{sheet_entry, sheet_move, sheet_tear, sheet_write}
use Rattle.fc_check_lane.specs.After.{chains_torn, chains_written}
use Rattle.fc_check_lane.specs.Steps.{after_all, moved_by}

moves_plain : (grain : GrainSize) (s : Sheet) (moves : List Move) → fold (sheet_move (single_lane grain)) s moves ≡ after_all s moves
moves_plain grain s [] = refl
moves_plain grain s (m ∷ moves) =
    ap (λ g. fold (sheet_move (single_lane grain)) (sheet_moved m.volume.0 g m.in_place s) moves) (all_place grain m.grain.0)
    ∙ moves_plain grain (moved_by s m) moves

write_plain : (grain : GrainSize) (s : Sheet) (write : Option WritePart) → sheet_write (single_lane grain) s write ≡ chains_written grain s write
write_plain grain s None = refl
write_plain grain s (Some part) = ap (λ g. sheet_written part.volume.0 g s) (all_place grain (grain_of_block grain part.block))

tear_plain : (grain : GrainSize) (s : Sheet) (torn : Option Torn) → sheet_tear (single_lane grain) s torn ≡ chains_torn s torn
tear_plain grain s None = refl
tear_plain grain s (Some torn) = ap (λ g. sheet_torn torn.volume.0 g torn.side s) (all_place grain torn.grain.0)

-- its moves, its write and its torn grain
pub chains_plain : (grain : GrainSize) (s : Sheet) (write : Option WritePart) (moves : List Move) (torn : Option Torn) →
    sheet_entry (single_lane grain) s write moves torn ≡ chains_torn (chains_written grain (after_all s moves) write) torn
chains_plain grain s write moves torn =
    tear_plain grain (sheet_write (single_lane grain) (fold (sheet_move (single_lane grain)) s moves) write) torn
    ∙ ap (λ z. chains_torn z torn)
    (write_plain grain (fold (sheet_move (single_lane grain)) s moves) write ∙ ap (λ z. chains_written grain z write) (moves_plain grain s moves))
