use Rattle.std.proofs.Common.{◌≡◌, ℕ, suc, ◌<◌, true, List, length, get_or, map, drop, Some, sym, ap, ◌∙◌, drop-cons}
use Rattle.std.specs.Prelude.{if◌then◌else◌}
use Rattle.std.specs.Str.{bytes_eq}
use Rattle.fc_words.specs.Values.{spelled}
use Rattle.fc_words.proofs.values.spelled.Goals as goal

-- the choice at a place, where it is spelled so
spelled_at : {X T : Type 0} (xs : List X) (f : X → List ℕ × T) (word : List ℕ) (i : ℕ) (x : X) → i < length xs → x ≡ get_or xs i x → bytes_eq word (f x).0 ≡ true →
    Some (f x).1 ≡ spelled word (map f (drop i xs))
spelled_at xs f word i x there is same =
    sym (rw (drop-cons xs i x)
    (ap (λ c. if bytes_eq word (f c).0 then Some (f c).1 else spelled word (map f (drop (suc i) xs))) (sym is)
    ∙ ap (λ b. if b then Some (f x).1 else spelled word (map f (drop (suc i) xs))) same))

pub returns-then-eq : goal.returns-then-eq
returns-then-eq g c =
    spelled_at c.args.choices.now (λ choice. (choice.0.now, choice.1)) c.args.word.now c.loop-spelling.spelling-index c.loop-spelling-item.result c.loop-spelling-test.true c.loop-spelling-item.is (sym c.eq.ensures ∙ c.if-eq.true)
    ∙ c.loop-spelling.invariant
