use Rattle.std.proofs.Common.{◌≡◌, ℕ, ◌+◌, ◌∙◌, ◌<◌, List, [], Bor, get_or, drop, length, map, min, Err, sym, ap, arith}
use Rattle.std.proofs.lemmas.List.{get_or-map, length-map}
use Rattle.fc_reading.specs.Readers.{one_of_at, word_at}
use Rattle.fc_reading.proofs.PieceLemmas.{behind, behind-found, behind-next, behind-start}
use Rattle.fc_reading.proofs.pieces.one_of.Goals as goal

-- the words themselves
abbrev plain : List (Bor (List ℕ)) → List (List ℕ)
plain words = map {A = Bor (List ℕ)} {B = List ℕ} (λ word. word.now) words

within : (words : List (Bor (List ℕ))) (index : ℕ) → index < length words → index < length (plain words)
within words index inside = omega (arith, inside, length-map words (λ (word : Bor (List ℕ)). word.now))

-- a word is the same by itself and behind its reference
at_word : (words : List (Bor (List ℕ))) (index : ℕ) (d : Bor (List ℕ)) (bytes : List ℕ) → index < length words → word_at (get_or (plain words) index []) bytes ≡ word_at (get_or words index d).now bytes
at_word words index d bytes inside =
    ap (λ w. word_at w bytes) (get_or-map (λ (word : Bor (List ℕ)). word.now) words index d [] inside)

pub loop-index-init : goal.loop-index-init
loop-index-init c = (omega arith, behind-start (plain c.args.words.now) c.args.bytes.now)

pub returns-in-Ok : goal.returns-in-Ok
returns-in-Ok c =
    c.loop-index.invariant.1
    ∙ behind-found (plain c.args.words.now) c.args.bytes.now c.in-Ok.rest.now c.loop-index.index c.loop-index.left
    (within c.args.words.now c.loop-index.index c.loop-index-test.true)
    (at_word c.args.words.now c.loop-index.index _ c.args.bytes.now c.loop-index-test.true ∙ c.in-Ok.ensures)

next_word :
    (words : List (List ℕ)) (bytes : List ℕ) (index left n least : ℕ) → least ≡ min left n → index < length words → word_at (get_or words index []) bytes ≡ Err n →
    one_of_at words bytes ≡ behind index left (one_of_at (drop index words) bytes) →
    one_of_at words bytes ≡ behind (index + 1) least (one_of_at (drop (index + 1) words) bytes)
next_word words bytes index left n least is inside none before =
    before ∙ behind-next words bytes index left n inside none
    ∙ ap (λ l. behind (index + 1) l (one_of_at (drop (index + 1) words) bytes)) (sym is)

pub loop-index-preserved : goal.loop-index-preserved
loop-index-preserved c = (
  omega (arith, c.min-left.ensures, c.loop-index.invariant.0),
  next_word (plain c.args.words.now) c.args.bytes.now c.loop-index.index c.loop-index.left c.in-Err.stopped.left c.min-left.result c.min-left.ensures
      (within c.args.words.now c.loop-index.index c.loop-index-test.true)
      (at_word c.args.words.now c.loop-index.index _ c.args.bytes.now c.loop-index-test.true ∙ c.in-Err.ensures) c.loop-index.invariant.1,
)
