use Rattle.std.proofs.Common.{◌≡◌, ◌++◌, ◌∙◌, is_err, take, drop, length, ap, arith}
use Rattle.std.proofs.lemmas.List.{with_items_is}
use Rattle.fc_recovered.proofs.Lanes.{grain_in, grain_read}
use Rattle.fc_recovered.proofs.read.read_grain.Goals as goal

pub read-requires : goal.read-requires
read-requires g c =
    grain_in c.args.disks.now.items c.args.volume.0 c.args.number c.len-lanes.result (length c.deref_mut.result.now) (length c.args.out.now.items) c.index_mut.result.now
    (omega (arith, c.len-lanes.ensures, c.args.disks.now.ok.0)) c.requires.some c.index_mut.ensures.value (ap length c.deref_mut.ensures.value) c.requires.there

pub returns-clause-reads : goal.returns-clause-reads
returns-clause-reads g c =
    let filled : take c.args.out.now.len (c.read.new.out ++ drop (length c.read.new.out) c.args.out.now.items) ≡ c.read.new.out = with_items_is c.args.out.now c.read.new.out (omega arith) in
    grain_read c.args.disks.now.items c.args.volume.0 c.args.number c.len-lanes.result c.index_mut.result.now c.read.new.self (is_err c.read.result) c.read.new.out
    (take c.args.out.now.len (c.read.new.out ++ drop (length c.read.new.out) c.args.out.now.items))
    (omega (arith, c.len-lanes.ensures, c.args.disks.now.ok.0)) c.requires.some c.index_mut.ensures.value c.read.ensures filled

pub returns-clause-size : goal.returns-clause-size
returns-clause-size g c =
    let filled : take c.args.out.now.len (c.read.new.out ++ drop (length c.read.new.out) c.args.out.now.items) ≡ c.read.new.out = with_items_is c.args.out.now c.read.new.out (omega arith) in
    ap length filled ∙ (c.read.auto.out ∙ ap length c.deref_mut.ensures.value)
