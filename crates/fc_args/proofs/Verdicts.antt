-- What one level of a parse comes to: what is read off its matches, or nothing where it is refused.
use Rattle.std.proofs.Common.{◌≡◌, ℕ, Bool, true, false, List, [], ◌∷◌, Option, None, fold, refl, sym, ap, true≢false}
use Rattle.clap.specs.Faults.{check_fault, defaults_fault, settle_fault, turn_fault, walk_fault}
use Rattle.clap.specs.Kinds.{Kinds, or_else}
use Rattle.clap.specs.Simple.{Shape, built_leaf, inherited, marked_built, with_leaf_noted}
use Rattle.clap.specs.Walk.{Held, Row, Text, Waiting, Walk, finished, settled, walked}
use Rattle.fc_args.specs.Program.{flashcopy}

-- the program's own settings, once it is built
abbrev pub above : Shape
above = with_leaf_noted (marked_built flashcopy.top)

-- a subcommand, once it is built
abbrev pub level_of : Shape → Shape
level_of s = built_leaf (inherited above s)

abbrev pub held : List Row → Option (Text × List Text) → ℕ → Held
held rows pending skip = record { rows = rows; pending = pending; skip = skip }

abbrev pub walk_at : Held → Waiting → Walk
walk_at h waiting = record { held = h; waiting = waiting; position = 1; is_trailing = false; stopped = None }

abbrev pub ended : {T : Type 0} → (List Row → Option T) → Kinds → List Row → Option T
ended read [] rows = read rows
ended read (k ∷ ks) rows = None

abbrev pub fails : Kinds → Bool
fails [] = false
fails (k ∷ ks) = true

module _ (s : Shape) {T : Type 0} (read : List Row → Option T) where
  abbrev pub end_fault : Held → Kinds
  end_fault h = or_else (settle_fault s.rules s.args_override_self h) (or_else (defaults_fault (settled s.rules h).rows s.rules) (check_fault s (finished s.rules h) false))

  abbrev pub after : Walk → List Text → Held
  after w words = (fold (walked s.rules []) w words).held

  abbrev pub verdict_of : Walk → List Text → Option T
  verdict_of w words = ended read (or_else (walk_fault s [] w words) (end_fault (after w words))) (finished s.rules (after w words))

  pub step_of : (w : Walk) (word : Text) (rest : List Text) → turn_fault s [] w word ≡ [] → verdict_of w (word ∷ rest) ≡ verdict_of (walked s.rules [] w word) rest
  unfolding walk_fault
  step_of w word rest none =
      ap (λ ks. ended read (or_else (or_else ks (walk_fault s [] (walked s.rules [] w word) rest)) (end_fault (after w (word ∷ rest)))) (finished s.rules (after w (word ∷ rest)))) none

  fails_with : (w : Walk) (word : Text) (rest : List Text) (ks : Kinds) → fails ks ≡ true
      → ended read (or_else (or_else ks (walk_fault s [] (walked s.rules [] w word) rest)) (end_fault (after w (word ∷ rest)))) (finished s.rules (after w (word ∷ rest))) ≡ None
  fails_with w word rest [] e = absurd (true≢false (sym e))
  fails_with w word rest (k ∷ ks) e = refl

  pub refused_at : (w : Walk) (word : Text) (rest : List Text) → fails (turn_fault s [] w word) ≡ true → verdict_of w (word ∷ rest) ≡ None
  unfolding walk_fault
  refused_at w word rest f = fails_with w word rest (turn_fault s [] w word) f
