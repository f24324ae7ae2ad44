-- What a sink holds in which a text was put.
use Rattle.std.proofs.Common.{◌≡◌, ℕ, Bool, true, false, List, [], ◌++◌, Some, refl, sym, ap, ◌∙◌, subst}
use Rattle.fc_entry.specs.Written.{Written}
use Rattle.fc_io.specs.Sink.{SinkState, held_with}

some_same : (xs ys : List ℕ) → Some xs ≡ Some ys → xs ≡ ys
some_same xs ys e = cc

-- the text alone, where it held nothing and the writing did not fail
pub printed : (before after : SinkState) (text line : List ℕ) (failed : Bool) → failed ≡ false → Written before text failed after → before.held ≡ Some [] →
    after.held ≡ Some line → line ≡ text
printed before after text line true done written nothing held = cc
printed before after text line false done written nothing held =
    some_same line text (sym held ∙ (written.held ∙ ap (λ bytes. held_with bytes text) nothing))
