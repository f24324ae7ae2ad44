-- A half that rests is read again as it stands.
use Rattle.std.proofs.Common.{◌≡◌, ℕ, ◌+◌, ◌≤◌, Bool, List, length, drop, sym, ap, ◌∙◌, arith}
use Rattle.fc_format.specs.declared.half.Half.{Half}
use Rattle.fc_format.specs.Halves.{Image, found_by, found_in, front, half_of, half_size, half_start, image_and_batches, least_half, recovered}
use Rattle.fc_format.specs.Reading.{Reading}
use Rattle.fc_image.specs.declared.image.MetaImage.{MetaImage}
use Rattle.fc_meta.specs.Recovering.{IsImageRead}
use Rattle.fc_meta.specs.Standing.{Rests}
use Rattle.fc_meta.proofs.Crash.{rests_found}
use Rattle.fc_meta.proofs.Gates.{reads_here, found_here}
use Rattle.fc_meta.proofs.Recovered.{open_long}
use Rattle.fc_meta.proofs.Sides.{half_long}

pub rests_long : (half : Half) (g used : ℕ) (b : Bool) (i : MetaImage) (disk : List ℕ) → Rests half g used b i disk → least_half ≤ half_size disk
rests_long half g used b i disk r =
    let here = reads_here (half_of half disk) (half_start half disk + half_size disk) g used i r.reads in
    let long = open_long (half_of half disk) here.gate in
    let size = half_long half disk in
    omega (arith, long, size)

pub read_again : (half : Half) (g used : ℕ) (b : Bool) (i j : MetaImage) (n : ℕ) (disk : List ℕ) → Rests half g used b i disk → IsImageRead half j n disk → recovered disk ≡ Image j
unfolding found_in
read_again half g used b i j n disk r x =
    rests_found half g used b i disk r
    ∙ (sym (found_here (half_of half disk) (half_start half disk + half_size disk) g used i r.reads) ∙ ap found_by x.3)
