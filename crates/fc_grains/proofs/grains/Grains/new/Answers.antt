use Rattle.std.proofs.Common.{◌≡◌, ◌∙◌, ℕ, [], List, map, replicate, ap, sym, subst, arith}
use Rattle.std.proofs.lemmas.List.{length-map}
use Rattle.fc_mdisk.specs.Disk.{DiskState}
use Rattle.fc_grains.specs.Kept.{AddUp, IsKept, state_of}
use Rattle.fc_grains.specs.Parts.{VolumeDiskState}
use Rattle.fc_grains.proofs.Moving.{kept_opened, state_opened}
use Rattle.fc_grains.proofs.grains.Grains.new.Goals as goal

pub invariant_of-result : goal.invariant_of-result
invariant_of-result g c =
    let zeros : c.in-Ok.buffer.items ≡ replicate c.bytes-bytes.result 0 = c.in-Ok.ensures.items_if_clones_equal (λ y same. same) in
    let add_up : AddUp (map g.D.Mdisk.meaning c.args.disks.items) c.sums_of-sums.result =
    subst (λ (ds : List g.row.D.Denot). AddUp (map g.D.Mdisk.meaning ds) c.sums_of-sums.result) c.deref.ensures.value c.sums_of-sums.ensures in
    let P : List VolumeDiskState → Type 0 = λ vs. IsKept c.args.grain vs c.in-Ok-new.pool [] c.in-Ok.buffer.items c.sums_of-sums.result c.new-in-Ok-new.result.cap c.new-in-Ok-new-2.result.cap in
    let Q : List DiskState → Type 0 = λ ds. IsKept c.args.grain c.new-in-Ok-new.result.items c.in-Ok-new.pool ds c.in-Ok.buffer.items c.sums_of-sums.result c.new-in-Ok-new.result.cap c.new-in-Ok-new-2.result.cap in
    subst Q (sym (ap (map g.D.Mdisk.meaning) c.new-in-Ok-new-2.ensures.items)) (subst P (sym c.new-in-Ok-new.ensures.items)
    (kept_opened c.args.grain c.in-Ok-new.pool c.in-Ok.buffer.items c.sums_of-sums.result (map g.D.Mdisk.meaning c.args.disks.items) (c.in-Ok-new.ensures.bytes ∙ c.bytes-bytes.ensures) c.in-Ok-new.ensures.reserved c.in-Ok-new.ensures.disks
    add_up (zeros ∙ ap (λ (n : ℕ). replicate n 0) c.bytes-bytes.ensures) (omega (arith, c.requires.few, c.args.disks.ok.0, length-map c.args.disks.items g.D.Mdisk.meaning)) c.new-in-Ok-new.result.cap c.new-in-Ok-new-2.result.cap))

pub returns-in-Ok-new : goal.returns-in-Ok-new
returns-in-Ok-new g c =
    let zeros : c.in-Ok.buffer.items ≡ replicate c.bytes-bytes.result 0 = c.in-Ok.ensures.items_if_clones_equal (λ y same. same) in
    let add_up : AddUp (map g.D.Mdisk.meaning c.args.disks.items) c.sums_of-sums.result =
    subst (λ (ds : List g.row.D.Denot). AddUp (map g.D.Mdisk.meaning ds) c.sums_of-sums.result) c.deref.ensures.value c.sums_of-sums.ensures in
    (λ k. state_of c.args.grain (c.new-in-Ok-new.ensures.items k) c.in-Ok-new.pool (map g.D.Mdisk.meaning (c.new-in-Ok-new-2.ensures.items k)) c.in-Ok.buffer.items c.sums_of-sums.result)
    ∙ state_opened c.args.grain c.in-Ok-new.pool c.in-Ok.buffer.items c.sums_of-sums.result (map g.D.Mdisk.meaning c.args.disks.items) (c.in-Ok-new.ensures.bytes ∙ c.bytes-bytes.ensures) c.in-Ok-new.ensures.reserved c.in-Ok-new.ensures.disks
    add_up (zeros ∙ ap (λ (n : ℕ). replicate n 0) c.bytes-bytes.ensures) (omega (arith, c.requires.few, c.args.disks.ok.0, length-map c.args.disks.items g.D.Mdisk.meaning)) c.in-Ok-new.ensures.left c.in-Ok-new.ensures.sorted
