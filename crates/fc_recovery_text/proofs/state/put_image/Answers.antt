-- The rows are put, and then what the volumes read; or what was put until the sink failed or memory was wanted.
use Rattle.std.proofs.Common.{ℕ, List, false, true, is_err, sym, subst}
use Rattle.fc_entry.specs.Written.{Written}
use Rattle.fc_kept.specs.Disks.{NamedDisk}
use Rattle.fc_recovery_text.specs.Recovering.{IsImageFront, IsImageText, KeepDisks}
use Rattle.fc_recovery_text.specs.Text.{lines_text, rows_in}
use Rattle.fc_recovery_text.proofs.Fronts.{rows_alone}
use Rattle.fc_recovery_text.proofs.KeptDisks.{keep_handed_back}
use Rattle.fc_recovery_text.proofs.Parts.{cut_in_reads, disks_kept, image_put, unput}
use Rattle.fc_recovery_text.proofs.state.put_image.Goals as goal

pub returns-in-Ok-put_reads-clause-kept : goal.returns-in-Ok-put_reads-clause-kept
returns-in-Ok-put_reads-clause-kept g c =
    subst (λ (z : List (List NamedDisk)). KeepDisks c.args.lanes.items z) (sym c.into_disks.ensures)
    (disks_kept c.args.grain c.args.image c.args.lanes.items c.in-Ok-new.recovered c.put_reads.new.recovered (g.K.Sink.meaning c.put_rows.new.sink) (g.K.Sink.meaning c.put_reads.new.sink) (is_err c.put_reads.result)
    c.in-Ok-new.ensures.grain c.in-Ok-new.ensures.image c.in-Ok-new.ensures.disks c.put_reads.ensures)

pub returns-in-Ok-put_reads-clause-put : goal.returns-in-Ok-put_reads-clause-put
returns-in-Ok-put_reads-clause-put g c =
    subst (λ (z : List (List NamedDisk)). (x : List ℕ) × IsImageText c.args.grain c.args.image c.args.lanes.items x z × Written (g.K.Sink.meaning c.args.sink.now) x false (g.K.Sink.meaning c.put_reads.new.sink)) (sym c.into_disks.ensures)
    (image_put c.args.grain c.args.image c.args.lanes.items c.in-Ok-new.recovered c.put_reads.new.recovered (g.K.Sink.meaning c.args.sink.now) (g.K.Sink.meaning c.put_rows.new.sink) (g.K.Sink.meaning c.put_reads.new.sink)
    c.in-Ok-new.ensures.grain c.in-Ok-new.ensures.image c.in-Ok-new.ensures.disks c.in-Ok.ensures c.in-Ok-put_reads.ensures)

pub returns-in-Err-put_reads-clause-kept : goal.returns-in-Err-put_reads-clause-kept
returns-in-Err-put_reads-clause-kept g c =
    subst (λ (z : List (List NamedDisk)). KeepDisks c.args.lanes.items z) (sym c.into_disks-in-Err-put_reads.ensures)
    (disks_kept c.args.grain c.args.image c.args.lanes.items c.in-Ok-new.recovered c.put_reads.new.recovered (g.K.Sink.meaning c.put_rows.new.sink) (g.K.Sink.meaning c.put_reads.new.sink) (is_err c.put_reads.result)
    c.in-Ok-new.ensures.grain c.in-Ok-new.ensures.image c.in-Ok-new.ensures.disks c.put_reads.ensures)

pub returns-in-Err-new-clause-kept : goal.returns-in-Err-new-clause-kept
returns-in-Err-new-clause-kept g c = keep_handed_back c.args.grain c.args.image.volumes c.args.lanes.items c.in-Err-new.lanes.items c.in-Err-new.ensures.back

pub returns-in-Err-put_reads-clause-put : goal.returns-in-Err-put_reads-clause-put
returns-in-Err-put_reads-clause-put g c =
    subst (λ (z : List (List NamedDisk)). (x : List ℕ) × IsImageFront c.args.grain c.args.image c.args.lanes.items x z × Written (g.K.Sink.meaning c.args.sink.now) x true (g.K.Sink.meaning c.put_reads.new.sink)) (sym c.into_disks-in-Err-put_reads.ensures)
    (cut_in_reads c.args.grain c.args.image c.args.lanes.items c.in-Ok-new.recovered c.put_reads.new.recovered (g.K.Sink.meaning c.args.sink.now) (g.K.Sink.meaning c.put_rows.new.sink) (g.K.Sink.meaning c.put_reads.new.sink)
    c.in-Ok-new.ensures.grain c.in-Ok-new.ensures.image c.in-Ok-new.ensures.disks c.in-Ok.ensures c.in-Err-put_reads.ensures)

-- the rows were not all put
pub returns-in-Err-clause-put : goal.returns-in-Err-clause-put
returns-in-Err-clause-put g c =
    unput c.in-Err.unwritten (lines_text (rows_in c.args.grain c.args.image)) (g.K.Sink.meaning c.args.sink.now) (g.K.Sink.meaning c.put_rows.new.sink)
    (λ text. IsImageText c.args.grain c.args.image c.args.lanes.items text c.args.lanes.items) (λ text. IsImageFront c.args.grain c.args.image c.args.lanes.items text c.args.lanes.items)
    IsImageFront.nothing (rows_alone c.args.grain c.args.image c.args.lanes.items) c.in-Err.ensures

-- memory was wanted before the reads
pub returns-in-Err-new-clause-put : goal.returns-in-Err-new-clause-put
returns-in-Err-new-clause-put g c =
    (lines_text (rows_in c.args.grain c.args.image), IsImageFront.rows c.in-Err-new.lanes.items c.in-Err-new.ensures.back, c.in-Ok.ensures)
