use Rattle.std.proofs.Common.{append_assoc, ◌∙◌}
use Rattle.fc_format.specs.Bytes.{image_bytes}
use Rattle.fc_format.proofs.whole.MetaImagePut.put.Goals as goal

pub returns-clause-bytes : goal.returns-clause-bytes
unfolding image_bytes
returns-clause-bytes c = c.in_ok-put.ensures.bytes ∙ simp append_assoc
