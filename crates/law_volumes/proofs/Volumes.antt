-- The law of volumes, from its parts.
use Rattle.std.proofs.Common.{subst}
use Rattle.fc_words.specs.Lines.{line_of}
use Rattle.law_volumes.specs.Law.{VolumesLaw}
use Rattle.law_volumes.proofs.Coming.{request_comes}
use Rattle.law_volumes.proofs.Deeds.{settle_keeps, decide_keeps}
use Rattle.law_volumes.proofs.Lines.{LineSpares, line_spares}
use Rattle.law_volumes.proofs.Scripts.{line_asks, scripts_ask}
use Rattle.law_volumes.proofs.Steps.{request_keeps}

pub volumes_law_holds : VolumesLaw
volumes_law_holds =
    record {
      settled = settle_keeps;
      decided = decide_keeps;
      steps = λ grain w entry next other step. request_keeps grain w entry.request entry next other step.right;
      comes = λ grain w entry next step. request_comes grain w entry.request entry next step.right;
      lines = λ scope line command inside read. subst LineSpares read (line_spares scope inside line);
      lines_ask = λ grain b scope line inside. line_asks grain b (line_of scope line) (line_spares scope inside line);
      scripts_ask = scripts_ask;
    }
