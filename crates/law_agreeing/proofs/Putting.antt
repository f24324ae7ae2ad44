-- Whatever bytes are to be on the disk of a volume at a grain, there are disks that differ by them alone.
use Rattle.std.proofs.Common.{◌≡◌, ℕ, ◌<◌, List, length}
use Rattle.fc_base.specs.declared.ids.VolId.{VolId}
use Rattle.fc_base.specs.declared.size.GrainSize.{GrainSize}
use Rattle.fc_entry.specs.Picture.{Bytes}
use Rattle.fc_legal.specs.Whole.{Whole, lanes}
use Rattle.fc_kept.specs.Disks.{NamedDisk}
use Rattle.fc_kept.specs.Images.{size_in}
use Rattle.law_crash.specs.Leaving.{AreFit, HaveTheirDisks}
use Rattle.law_crash.proofs.Writing.{Disked, can_be_written, disked_still, has_place}
use Rattle.law_agreeing.specs.Law.{IsPut}

pub puts : (grain : GrainSize) (w : Whole) (v g : ℕ) (bytes : List ℕ) (old : List (List NamedDisk)) → 0 < lanes w → length old ≡ lanes w → AreFit grain w old → HaveTheirDisks w old →
    (let id : VolId = record { 0 = v } in g < size_in w.books.tables id) → IsPut grain w v g bytes old
puts grain w v g bytes old some count fit have inside =
    let d : Disked grain w old = record { some = some; count = count; fit = fit; have = have } in
    let x = can_be_written grain w v g bytes old (has_place grain w v g old inside d) in
    let now : Disked grain w x.0 = disked_still grain w v g (Bytes bytes) old x.0 x.1 d in
    record { new = x.0; writes = x.1; fit = now.fit; have = now.have }
