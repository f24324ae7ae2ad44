-- The law of sums.
use Rattle.fc_sums.specs.Law.{SumLaw}
use Rattle.fc_sums.proofs.Depending.{depends_law}
use Rattle.fc_sums.proofs.Dividing.{parts_law, counts_law}
use Rattle.fc_sums.proofs.Joining.{joined_parts}
use Rattle.fc_sums.proofs.JoiningRows.{restarts_sum, joined_rows_parts, used_sum, joined_rooms_parts}
use Rattle.fc_sums.proofs.Reading.{reads_law}
use Rattle.fc_sums.proofs.Pooling.{least_by_lanes}
use Rattle.fc_sums.proofs.Slots.{slots_law}
use Rattle.fc_sums.proofs.Unneeded.{unneeded_law, has_name_contains}

pub sum_law_holds : SumLaw
sum_law_holds = record {
  parts = parts_law;
  counts = counts_law;
  slots = slots_law;
  reads = reads_law;
  depends = depends_law;
  unneeded = unneeded_law;
  has_name = has_name_contains;
  joins = joined_parts;
  restarts = restarts_sum;
  rows_join = joined_rows_parts;
  used = used_sum;
  rooms_join = joined_rooms_parts;
  pools = least_by_lanes;
}
