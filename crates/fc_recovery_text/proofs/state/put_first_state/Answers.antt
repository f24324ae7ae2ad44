-- The rows of an image are put, or that there is none; or, as it wasn't found out for want of memory, nothing.
use Rattle.fc_format.specs.Halves.{recovered}
use Rattle.fc_recovery_text.proofs.States.{image_first, no_first, some_found, unfound_first}
use Rattle.fc_recovery_text.proofs.state.put_first_state.Goals as goal

pub put_rows-requires : goal.put_rows-requires
put_rows-requires g c = (c.requires.bare c.in-Some.image (some_found (recovered c.args.found.bytes) c.in-Some.image (rw c.in-Some.is at c.in_ok-image.ensures))).0

pub returns-in-Some : goal.returns-in-Some
returns-in-Some g c =
    image_first c.args.grain (recovered c.args.found.bytes) c.put_rows.result (g.K.Sink.meaning c.args.sink.now) (g.K.Sink.meaning c.put_rows.new.sink) c.in-Some.image
    (rw c.in-Some.is at c.in_ok-image.ensures) c.put_rows.ensures

pub returns-in-None : goal.returns-in-None
returns-in-None g c =
    no_first c.args.grain (recovered c.args.found.bytes) c.put_no_image.result (g.K.Sink.meaning c.args.sink.now) (g.K.Sink.meaning c.put_no_image.new.sink)
    (rw c.in-None.is at c.in_ok-image.ensures) c.put_no_image.ensures

pub returns-in_err-image : goal.returns-in_err-image
returns-in_err-image g c = unfound_first c.args.grain (recovered c.args.found.bytes) c.from_residual.result (g.K.Sink.meaning c.args.sink.now) c.from_residual.ensures.1
