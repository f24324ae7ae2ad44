-- What goes over from disks to others that agree with them.
use Rattle.std.specs.Prelude.{◌≡◌, ℕ, ◌<◌, List, length, Option}
use Rattle.fc_base.specs.declared.ids.VolId.{VolId}
use Rattle.fc_base.specs.declared.request.Request.{Request}
use Rattle.fc_base.specs.declared.size.GrainSize.{GrainSize}
use Rattle.fc_changed.specs.Row.{Row}
use Rattle.fc_entry.specs.Picture.{Bytes}
use Rattle.fc_legal.specs.Whole.{Whole, lanes}
use Rattle.fc_kept.specs.Disks.{NamedDisk}
use Rattle.fc_kept.specs.Images.{size_in}
use Rattle.fc_kept.specs.Kept.{Kept}
use Rattle.fc_kept.specs.OneGrain.{Another}
use Rattle.fc_kept.specs.Recoverable.{Recoverable}
use Rattle.law_crash.specs.Doing.{IsWritten, with_disks}
use Rattle.law_crash.specs.Leaving.{AreFit, AreUnnamed, HaveTheirDisks}
use Rattle.law_crash.specs.Points.{Point, StandsFor}
use Rattle.law_agreeing.specs.Agreeing.{AllAgree}
use Rattle.law_agreeing.specs.Coming.{ComingLaw}

-- Disks that differ from others by the bytes of one grain of a volume alone, and have all that these have.
pub record IsPut (grain : GrainSize) (w : Whole) (v g : ℕ) (bytes : List ℕ) (old : List (List NamedDisk)) : Type 0 where
  pub new : List (List NamedDisk)
  pub writes : IsWritten grain w v g (Bytes bytes) old new
  pub fit : AreFit grain w new
  pub have : HaveTheirDisks w new

pub record AgreeingLaw : Type 0 where
  -- what may be recovered over the one may be recovered over the others
  pub recovers : (grain : GrainSize) (old new : List (List NamedDisk)) (k : Kept) (w : Whole) (least : List Row) (asked : Option Request) (one : Option Another) →
      AllAgree grain k old new → Recoverable grain old k w least asked one → Recoverable grain new k w least asked one
  -- the others stand for what the one stand for
  pub stands : (grain : GrainSize) (w : Whole) (least : List Row) (p : Point) (new : List (List NamedDisk)) → 0 < lanes w →
      AllAgree grain p.kept p.disks new → StandsFor grain w least p → StandsFor grain w least (with_disks new p)
  -- they have the same names, and as many free disks
  pub have : (grain : GrainSize) (w : Whole) (k : Kept) (old new : List (List NamedDisk)) → AllAgree grain k old new → HaveTheirDisks w old → HaveTheirDisks w new
  pub unnamed : (grain : GrainSize) (w : Whole) (k : Kept) (old new : List (List NamedDisk)) → AllAgree grain k old new → AreUnnamed w old → AreUnnamed w new
  -- whatever bytes are to be on the disk of a volume at a grain, there are disks that differ by them alone
  pub puts : (grain : GrainSize) (w : Whole) (v g : ℕ) (bytes : List ℕ) (old : List (List NamedDisk)) → 0 < lanes w → length old ≡ lanes w → AreFit grain w old → HaveTheirDisks w old →
      (let id : VolId = record { 0 = v } in g < size_in w.books.tables id) → IsPut grain w v g bytes old
  -- and what a stop finds behind actions that were done
  pub coming : ComingLaw
