use Rattle.std.proofs.Common.{ℕ, List, get_or}
use Rattle.fc_base.specs.declared.ranges.Range.{Range}
use Rattle.fc_trace.specs.Notes.{range_text}
use Rattle.fc_trace.proofs.TraceParts.{kept_first}
use Rattle.fc_entry.proofs.WrittenLemmas.{Written-then, Written-cut}
use Rattle.fc_trace.proofs.ranges.put_kept.Goals as goal

-- what is put before the second range
abbrev first_range : List Range → List ℕ
first_range ranges = range_text (get_or ranges 0 (record { first = 0; last = 0 }))

pub returns-in_err-put_range-in-len1-up : goal.returns-in_err-put_range-in-len1-up
returns-in_err-put_range-in-len1-up g c =
    rw (
      c.from_residual.ensures.0,
      kept_first c.args.kept.now (record { first = 0; last = 0 }) c.in-len1-up.len_at_least,
    )
    (Written-cut _ (first_range c.args.kept.now) _ _ c.in_err-put_range-in-len1-up.ensures)

pub returns-in_ok-put_range-in-len1-up : goal.returns-in_ok-put_range-in-len1-up
returns-in_ok-put_range-in-len1-up g c =
    rw (kept_first c.args.kept.now (record { first = 0; last = 0 }) c.in-len1-up.len_at_least)
    (
    Written-then _ (first_range c.args.kept.now) _ _ _ _ c.in_ok-put_range-in-len1-up.ensures c.put_next_ranges.ensures
    )
