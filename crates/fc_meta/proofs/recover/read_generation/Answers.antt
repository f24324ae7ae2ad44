use Rattle.std.proofs.Common.{◌≡◌, ◌≤◌, ◌<◌, true, false, eqb, length, drop, ◌∙◌, arith}
use Rattle.byteorder.specs.Numbers.{big_from-take}
use Rattle.std.proofs.lemmas.Bool.Decides.{nat_tests}
use Rattle.std.specs.Prelude.{slice_index}
use Rattle.fc_format.specs.Halves.{half_of, half_size}
use Rattle.fc_meta.proofs.Sides.{half_long}
use Rattle.fc_meta.proofs.Recovered.{shut_none, short_shut, header_shut, header_open}
use Rattle.fc_meta.proofs.recover.read_generation.Goals as goal

pub returns-then-half_len-lt13-clause-value : goal.returns-then-half_len-lt13-clause-value
returns-then-half_len-lt13-clause-value g c =
    let row = half_of c.args.half (g.M.MetaDisk.seen c.args.disk.now) in
    let l = half_long c.args.half (g.M.MetaDisk.seen c.args.disk.now) in
    let short : length row < 13 = omega (arith, l, c.half_len.ensures.value, c.if-half_len-lt13.true) in
    shut_none row (short_shut row short)

pub returns-then-bytes-ne1-clause-value : goal.returns-then-bytes-ne1-clause-value
returns-then-bytes-ne1-clause-value g c =
    let long : 13 ≤ half_size (g.M.MetaDisk.seen c.args.disk.now) = omega (arith, c.half_len.ensures.value, c.if-half_len-lt13.false) in
    let shut : eqb (slice_index c.read.new.out 0) 1 ≡ false = grind (arith, nat_tests, c.if-bytes-ne1.true) in
    header_shut c.args.half (g.M.MetaDisk.seen c.args.disk.now) c.read.new.out c.start_of-start.result long c.start_of-start.ensures.value c.in_ok-read.ensures.bytes shut

pub returns-clause-value : goal.returns-clause-value
returns-clause-value g c =
    let long : 13 ≤ half_size (g.M.MetaDisk.seen c.args.disk.now) = omega (arith, c.half_len.ensures.value, c.if-half_len-lt13.false) in
    let wide : eqb (slice_index c.read.new.out 0) 1 ≡ true = grind (arith, nat_tests, c.if-bytes-ne1.false) in
    header_open c.args.half (g.M.MetaDisk.seen c.args.disk.now) c.read.new.out c.start_of-start.result long c.start_of-start.ensures.value c.in_ok-read.ensures.bytes wide c.read_u64.result (c.read_u64.ensures ∙ big_from-take 0 8 8 (drop 1 c.read.new.out) (omega arith))
