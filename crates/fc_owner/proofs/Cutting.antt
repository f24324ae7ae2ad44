-- More lines behind lines that were cut.
use Rattle.std.proofs.Common.{◌≡◌, ℕ, List, [], ◌∷◌, ◌++◌, fold, append_assoc, append-nil, sym, ◌∙◌, subst}
use Rattle.std.proofs.lemmas.List.Sums.{fold-append}
use Rattle.fc_blocks.specs.Segments.{Cut, Segment, single, together, cut, cut_step, line_cut, no_lines}
use Rattle.fc_legal.specs.WithoutBlocks.{AreLines}

-- The segments that have ended stay, and more come behind them.
pub record HasMoreSegments (old new : List Segment) : Type 0 where
  pub more : List Segment
  pub is : new ≡ old ++ more

steps_more : (c : Cut) (lines : List (List ℕ)) → HasMoreSegments c.segments (fold cut_step c lines).segments
steps_more c [] = record { more = []; is = sym (append-nil c.segments) }
steps_more c (line ∷ lines) =
    let ended : List Segment = (line_cut c.open_block line).segments in
    let rest : HasMoreSegments (cut_step c line).segments (fold cut_step (cut_step c line) lines).segments = steps_more (cut_step c line) lines in
    record { more = ended ++ rest.more; is = rest.is ∙ append_assoc c.segments ended rest.more }

pub cut_more : (lines more : List (List ℕ)) → HasMoreSegments (cut lines).segments (cut (lines ++ more)).segments
cut_more lines more =
    let P : Cut → Type 0 = λ c. HasMoreSegments (cut lines).segments c.segments in
    subst P (sym (fold-append cut_step no_lines lines more)) (steps_more (cut lines) more)

-- Of lines alone the first are lines alone.
pub AreLines-first : (segs more : List Segment) → AreLines (segs ++ more) → AreLines segs
AreLines-first [] more alone = tt
AreLines-first (single line ∷ segs) more alone = AreLines-first segs more alone
AreLines-first (together block ∷ segs) more alone = absurd alone

pub AreLines-front : (lines more all : List (List ℕ)) → all ≡ lines ++ more → AreLines (cut all).segments → AreLines (cut lines).segments
AreLines-front lines more all is alone =
    let P : List (List ℕ) → Type 0 = λ ls. AreLines (cut ls).segments in
    let grown : HasMoreSegments (cut lines).segments (cut (lines ++ more)).segments = cut_more lines more in
    AreLines-first (cut lines).segments grown.more (subst AreLines grown.is (subst P is alone))
