-- Every mapping's target is there.
use Rattle.fc_objects.proofs.objects.decide_object.Goals as goal

pub decide_mkvdisk-requires-clause-targets : goal.decide_mkvdisk-requires-clause-targets
decide_mkvdisk-requires-clause-targets g c = λ m there. (c.requires.sound.agree.mappings m there).target
