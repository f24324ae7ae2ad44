-- What an event does to a row, as the code tells it.
use Rattle.std.specs.Prelude.{◌≡◌, ℕ, true, length}
use Rattle.fc_changed.specs.Row.{Row, row_names, row_began, row_wrote, row_left, row_cut}
use Rattle.fc_diff.specs.declared.tracked.Event.{Event}
use Rattle.fc_diff.specs.declared.tracked.Event.TheVariants.{Began, Wrote, Left, Cut}

-- the row after an event
abbrev pub row_after : Event → Row → Row
row_after (Began source target) row = row_began source target row
row_after (Wrote volume grain) row = row_wrote volume grain row
row_after (Left target held) row = row_left target held.now row
row_after (Cut target) row = row_cut target row

-- the volume that each row names to which the event means something
abbrev pub volume_of : Event → ℕ
volume_of (Began source target) = target
volume_of (Wrote volume grain) = volume
volume_of (Left target held) = target
volume_of (Cut target) = target

-- the held set of a leaving has as many grains as the row
abbrev pub FitsRow : Event → Row → Type 0
FitsRow (Left target held) row = row_names row target ≡ true → length row.same ≡ length held.now
FitsRow event row = Unit {0}
