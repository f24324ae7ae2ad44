-- Memory was wanted for the disk of metadata; or it has its size.
use Rattle.std.proofs.Common.{◌≡◌, ℕ, ◌/◌, refl, ap, ◌∙◌}
use Rattle.std.proofs.lemmas.List.{length-replicate}
use Rattle.fc_format.specs.Halves.{half_size}
use Rattle.fc_metadisk.specs.Stop.{StopState, new_stop}
use Rattle.fc_stopped.proofs.Starved.{starved_stop}
use Rattle.fc_stopped.proofs.Stops.{half_as}
use Rattle.fc_stopped.proofs.until.run_until.Goals as goal

half_of_new : (d : StopState) (size number : ℕ) → d ≡ new_stop size number → half_size d.bytes ≡ size / 2
half_of_new d size number is = ap (λ (x : StopState). half_size x.bytes) is ∙ ap (λ (n : ℕ). n / 2) (length-replicate size 0)

pub returns-in-Err-clause-ends : goal.returns-in-Err-clause-ends
returns-in-Err-clause-ends g c = starved_stop c.args.call _ _ refl refl refl c.requires.empty

pub returns-in-Ok-clause-ends : goal.returns-in-Ok-clause-ends
returns-in-Ok-clause-ends g c = half_as c.args.call _ _ _ (half_of_new c.in-Ok.meta 67108864 c.args.call c.in-Ok.ensures) c.run_over.ensures.ends
