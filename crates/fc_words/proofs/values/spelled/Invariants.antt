use Rattle.std.proofs.Common.{◌≡◌, map, drop}
use Rattle.fc_words.specs.Values.{spelled}
use Rattle.fc_words.proofs.values.spelled.Given as goal

-- what the choices so far don't say, the others say
abbrev pub invariant-loop-spelling : goal.invariant-loop-spelling
invariant-loop-spelling g l =
    spelled l.word (map (λ choice. (choice.0.now, choice.1)) (drop l.spelling-index l.choices)) ≡ spelled l.word (map (λ choice. (choice.0.now, choice.1)) l.choices)
