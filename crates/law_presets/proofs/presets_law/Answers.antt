-- The law is proved in `Presets`.
use Rattle.law_presets.proofs.Presets.{presets_law_holds}
use Rattle.law_presets.proofs.presets_law.Goals as goal

pub returns : goal.returns
returns c = presets_law_holds
