use Rattle.std.proofs.Common.{rules}
use Rattle.std.proofs.lemmas.List.Sorted.{answers_always}
use Rattle.fc_grains.specs.Parts.{VolumeDiskState}
use Rattle.fc_grains.proofs.Finding.{found_at, none_there}
use Rattle.fc_grains.proofs.find.find_place.Goals as goal

pub returns-in-Ok-clause-found : goal.returns-in-Ok-clause-found
returns-in-Ok-clause-found g c =
    found_at c.args.volumes.now c.args.volume.0 c.in-Ok.place
    (c.in-Ok.ensures.position (λ (v : VolumeDiskState). v.volume.0) (answers_always _ _ _ (λ f a r g called. search rules)))

pub returns-in-Err-clause-none : goal.returns-in-Err-clause-none
returns-in-Err-clause-none g c =
    none_there c.args.volumes.now c.requires c.args.volume.0 c.in-Err.field-0
    (c.in-Err.ensures.position (λ (v : VolumeDiskState). v.volume.0) (answers_always _ _ _ (λ f a r g called. search rules)))
