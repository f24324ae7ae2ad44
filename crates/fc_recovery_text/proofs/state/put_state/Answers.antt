-- An image's text is put, or that there is none; or, as it wasn't found out for want of memory, nothing.
use Rattle.fc_format.specs.Halves.{recovered}
use Rattle.fc_recovery_text.proofs.States.{image_state, no_state, some_found, unfound_state}
use Rattle.fc_recovery_text.proofs.state.put_state.Goals as goal

pub put_image-requires : goal.put_image-requires
put_image-requires g c =
    c.requires.can c.in-Ok-Some.image (some_found (recovered c.args.found.bytes) c.in-Ok-Some.image (rw c.in-Ok-Some.field-0-is at c.in-Ok-Some.ensures))

pub returns-in-Ok-Some-clause-put : goal.returns-in-Ok-Some-clause-put
returns-in-Ok-Some-clause-put g c =
    image_state c.args.grain (recovered c.args.found.bytes) c.put_image.result.1 (g.K.Sink.meaning c.args.sink.now) (g.K.Sink.meaning c.put_image.new.sink) c.args.lanes.items c.put_image.result.0.items
    c.in-Ok-Some.image (rw c.in-Ok-Some.field-0-is at c.in-Ok-Some.ensures) c.put_image.ensures.put

pub returns-in-Ok-None-clause-put : goal.returns-in-Ok-None-clause-put
returns-in-Ok-None-clause-put g c =
    no_state c.args.grain (recovered c.args.found.bytes) c.put_no_image.result (g.K.Sink.meaning c.args.sink.now) (g.K.Sink.meaning c.put_no_image.new.sink) c.args.lanes.items
    (rw c.in-Ok-None.field-0-is at c.in-Ok-None.ensures) c.put_no_image.ensures

pub returns-in-Err-clause-put : goal.returns-in-Err-clause-put
returns-in-Err-clause-put g c = unfound_state c.args.grain (recovered c.args.found.bytes) c.args.lanes.items (g.K.Sink.meaning c.args.sink.now)
