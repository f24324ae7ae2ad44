use Rattle.std.proofs.Common.{List, ℕ, [], ◌∷◌, ◌++◌, ap, ◌∙◌}
use Rattle.byteorder.specs.Endian.{big_bytes}
use Rattle.fc_format.specs.Bytes.{half_bytes, image_bytes}
use Rattle.fc_format.proofs.Puts.{gated_known}
use Rattle.fc_format.proofs.write.half_with.Goals as goal

pub returns-clause-bytes : goal.returns-clause-bytes
unfolding half_bytes
returns-clause-bytes c =
    gated_known (big_bytes 8 c.args.generation) (image_bytes c.args.image.now) (0 ∷ [])
    (c.in_ok-put-2.ensures.bytes ∙ ap (λ (z : List ℕ). z ++ big_bytes 8 c.args.generation) c.new-bytes.ensures.items)
    (c.deref.ensures.value ∙ (c.in_ok-put.ensures.bytes ∙ ap (λ (z : List ℕ). z ++ image_bytes c.args.image.now) c.new-written.ensures.items))
    c.in_ok-put_gated.ensures
