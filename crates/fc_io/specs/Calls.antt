-- Which of the coming calls fail: their numbers, the next call being 1. A number that is past is 0.
use Rattle.std.specs.Prelude.{ℕ, ◌-◌, ◌==◌, Bool, List, map}
use Rattle.std.specs.List.{list_any}

abbrev pub fails_now : List ℕ → Bool
fails_now failing = list_any (λ n. n == 1) failing

-- One call later each is one nearer.
abbrev pub one_call_on : List ℕ → List ℕ
one_call_on failing = map (λ n. n - 1) failing
