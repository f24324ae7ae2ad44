use Rattle.std.proofs.Common.{length}
use Rattle.std.specs.List.{flat_map}
use Rattle.byteorder.specs.Endian.{big_bytes}
use Rattle.fc_format.specs.Bytes.{list_bytes}
use Rattle.fc_format.proofs.Puts.{then_put}
use Rattle.fc_format.proofs.field.put_list.Goals as goal

pub returns-clause-bytes : goal.returns-clause-bytes
unfolding list_bytes
returns-clause-bytes g c =
    then_put c.args.out.now.items (big_bytes 4 (length c.args.all.now)) (flat_map g.T.Put.bytes_of c.args.all.now) c.in_ok-put_count.ensures c.in_ok-put_items.ensures.bytes
