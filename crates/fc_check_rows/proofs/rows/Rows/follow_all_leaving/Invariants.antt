use Rattle.std.proofs.Common.{◌≡◌, take}
use Rattle.std.specs.List.{fold, flat_map}
use Rattle.fc_changed.specs.Row.{after_note}
use Rattle.fc_follow.specs.Following.{leaving}
use Rattle.fc_check_rows.proofs.rows.Rows.follow_all_leaving.Given as goal

-- the mappings so far are noted
abbrev pub invariant-loop-map : goal.invariant-loop-map
invariant-loop-map l = l.self ≡ fold after_note l.initial.self (flat_map (leaving l.sheet.slots) (take l.map-index l.maps))
