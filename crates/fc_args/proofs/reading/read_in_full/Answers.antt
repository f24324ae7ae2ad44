use Rattle.std.proofs.Common.{◌∙◌, sym}
use Rattle.fc_args.proofs.HyphenLemmas.{strays_are, texts}
use Rattle.fc_args.proofs.StrayLemmas.{stray_refused}
use Rattle.fc_args.proofs.reading.read_in_full.Goals as goal

pub returns-then-has_stray : goal.returns-then-has_stray
returns-then-has_stray c = sym (stray_refused (texts c.args.words.now) (strays_are c.args.words.now ∙ (sym c.has_stray.ensures ∙ c.if-has_stray.true)))
