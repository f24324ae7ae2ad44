-- Nothing was written, or this.
use Rattle.std.proofs.Common.{◌≡◌, None, refl}
use Rattle.fc_base.specs.declared.request.Reply.{Reply}
use Rattle.fc_base.specs.declared.request.Reply.TheVariants.{Done}
use Rattle.fc_base.specs.declared.request.Request.{Request}
use Rattle.fc_base.specs.declared.request.Request.TheVariants.{Write}
use Rattle.fc_base.specs.declared.request.WritePart.{WritePart}
use Rattle.fc_rules.specs.LaneRight.{done_write}

not_done : (part : WritePart) (reply : Reply) → (reply ≡ Done → ⊥) → None ≡ done_write (Write part) reply
not_done part Done other = absurd (other refl)
not_done part reply other = refl

no_write : (request : Request) (reply : Reply) → ((part : WritePart) → request ≡ Write part → ⊥) → None ≡ done_write request reply
no_write (Write part) reply other = absurd (other part refl)
no_write request reply other = refl
