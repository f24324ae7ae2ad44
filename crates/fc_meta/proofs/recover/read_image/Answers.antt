use Rattle.std.proofs.Common.{◌≡◌, ◌+◌, drop, subst, arith}
use Rattle.std.specs.Prelude.{Ok, Err}
use Rattle.fc_format.specs.declared.cursor.ReadError.{ReadError}
use Rattle.fc_format.specs.Halves.{half_of, half_start, half_size, front, IsHalfRead}
use Rattle.fc_meta.proofs.Recovered.{front_read, half_read_as, found_at_left}
use Rattle.fc_meta.proofs.recover.read_image.Goals as goal

pub returns-in-Ok-image_in-clause-image : goal.returns-in-Ok-image_in-clause-image
returns-in-Ok-image_in-clause-image g c =
    let bytes = front_read c.args.half (g.M.MetaDisk.seen c.args.disk.now) c.read.new.out c.in-Ok.bytes.items c.deref.result.now c.start_of-start.result c.half_len-len.result _ c.in-Ok.bytes.len
    c.requires c.start_of-start.ensures.value c.half_len-len.ensures.value c.as_mut_slice.ensures.len c.in-Ok.ensures.len c.in_ok-read.ensures.bytes c.deref.ensures.value in
    let end : c.start_of-start.result + c.half_len-len.result ≡ half_start c.args.half (g.M.MetaDisk.seen c.args.disk.now) + half_size (g.M.MetaDisk.seen c.args.disk.now) = omega (arith, c.start_of-start.ensures.value, c.half_len-len.ensures.value) in
    found_at_left c.args.half (g.M.MetaDisk.seen c.args.disk.now) c.in-Ok-image_in.image c.in-Ok-image_in.closed
    (half_read_as c.deref.result.now (drop front (half_of c.args.half (g.M.MetaDisk.seen c.args.disk.now))) (c.start_of-start.result + c.half_len-len.result) (half_start c.args.half (g.M.MetaDisk.seen c.args.disk.now) + half_size (g.M.MetaDisk.seen c.args.disk.now)) (Ok (c.in-Ok-image_in.image, c.in-Ok-image_in.closed))
    bytes end c.in-Ok-image_in.ensures)

pub returns-clause-told : goal.returns-clause-told
returns-clause-told g c =
    let bytes = front_read c.args.half (g.M.MetaDisk.seen c.args.disk.now) c.read.new.out c.in-Ok.bytes.items c.deref.result.now c.start_of-start.result c.half_len-len.result _ c.in-Ok.bytes.len
    c.requires c.start_of-start.ensures.value c.half_len-len.ensures.value c.as_mut_slice.ensures.len c.in-Ok.ensures.len c.in_ok-read.ensures.bytes c.deref.ensures.value in
    let end : c.start_of-start.result + c.half_len-len.result ≡ half_start c.args.half (g.M.MetaDisk.seen c.args.disk.now) + half_size (g.M.MetaDisk.seen c.args.disk.now) = omega (arith, c.start_of-start.ensures.value, c.half_len-len.ensures.value) in
    half_read_as c.deref.result.now (drop front (half_of c.args.half (g.M.MetaDisk.seen c.args.disk.now))) (c.start_of-start.result + c.half_len-len.result) (half_start c.args.half (g.M.MetaDisk.seen c.args.disk.now) + half_size (g.M.MetaDisk.seen c.args.disk.now)) (Err (ReadError.Damaged c.in-Err-Damaged.at))
    bytes end (subst (λ (z : ReadError). IsHalfRead c.deref.result.now (c.start_of-start.result + c.half_len-len.result) (Err z)) c.in-Err-Damaged.field-0-is c.in-Err-Damaged.ensures)
