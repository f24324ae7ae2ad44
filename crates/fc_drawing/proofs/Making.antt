-- Moves that are made one after the other.
use Rattle.std.proofs.Common.{◌≡◌, ℕ, ◌+◌, ◌<◌, ◌≤◌, Option, List, [], ◌∷◌, ◌++◌, drop, get_or, length, append_assoc, refl, sym, ap, ap₂, ◌∙◌}
use Rattle.std.proofs.lemmas.List.{append-nil, drop_all, drop_more}
use Rattle.fc_base.specs.Sheet.{Sheet}
use Rattle.fc_base.specs.declared.request.Move.{Move}
use Rattle.fc_drawing.specs.Sources.{all_made, made, source_of, sources_of}
use Rattle.fc_drawing.specs.declared.sources.Source.{Source}

-- the moves so far are made, and it is known from whom they copied
pub record MadeSo (first : Sheet) (moves : List Move) (now : Sheet) (sources : List (Option Source)) (i : ℕ) : Type 0 where
  pub copied : sources ++ sources_of now (drop i moves) ≡ sources_of first moves
  pub chains : all_made now (drop i moves) ≡ all_made first moves

pub made_none : (first : Sheet) (moves : List Move) (sources : List (Option Source)) → sources ≡ [] → MadeSo first moves first sources 0
made_none first moves sources none = record { copied = ap (λ (xs : List (Option Source)). xs ++ sources_of first moves) none; chains = refl }

pub made_more : (first : Sheet) (moves : List Move) (now new : Sheet) (sources more : List (Option Source)) (i : ℕ) (d : Move) (source : Option Source) → i < length moves → MadeSo first moves now sources i →
    source ≡ source_of now (get_or moves i d) → more ≡ sources ++ source ∷ [] → new ≡ made now (get_or moves i d) → MadeSo first moves new more (i + 1)
made_more first moves now new sources more i d source lt so of_source pushed moved =
    let m : Move = get_or moves i d in
    let rest : List Move = drop (i + 1) moves in
    let here : drop i moves ≡ m ∷ rest = drop_more moves i d lt in
    record {
      copied =
          ap₂ (λ (xs : List (Option Source)) (s : Sheet). xs ++ sources_of s rest) (pushed ∙ ap (λ z. sources ++ z ∷ []) of_source) moved
          ∙ (append_assoc sources (source_of now m ∷ []) (sources_of (made now m) rest) ∙ (ap (λ z. sources ++ sources_of now z) (sym here) ∙ so.copied));
      chains = ap (λ (s : Sheet). all_made s rest) moved ∙ (ap (all_made now) (sym here) ∙ so.chains);
    }

pub sources_all : (first : Sheet) (moves : List Move) (now : Sheet) (sources : List (Option Source)) (i : ℕ) → length moves ≤ i → MadeSo first moves now sources i → sources ≡ sources_of first moves
sources_all first moves now sources i le so =
    sym (append-nil sources) ∙ (ap (λ z. sources ++ sources_of now z) (sym (drop_all i moves le)) ∙ so.copied)

pub chains_all : (first : Sheet) (moves : List Move) (now : Sheet) (sources : List (Option Source)) (i : ℕ) → length moves ≤ i → MadeSo first moves now sources i → now ≡ all_made first moves
chains_all first moves now sources i le so = ap (all_made now) (sym (drop_all i moves le)) ∙ so.chains
