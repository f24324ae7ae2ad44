-- A cut, grain by grain.
use Rattle.std.proofs.Common.{◌≡◌, ℕ, zero, suc, ◌+◌, ◌<◌, Bool, true, false, cond, not, ◌&&◌, List, [], ◌∷◌, ◌++◌, drop, get_or, length, append_assoc, refl, sym, ap, ◌∙◌, arith, inl, inr}
use Rattle.std.proofs.lemmas.Bool.{cases_lt, lt-ltb, le-ltb}
use Rattle.std.proofs.lemmas.List.{drop_all}
use Rattle.fc_base.specs.Ranges.{is_kept}
use Rattle.fc_base.specs.declared.ranges.Range.{Range}
use Rattle.fc_entry.specs.Picture as picture
use Rattle.fc_entry.specs.Picture.{Content, content_at}
use Rattle.fc_entry.specs.PlainStep.{cut_from}
use Rattle.fc_plain.specs.Changes.{cut_at}
use Rattle.fc_plain.proofs.Lists.{drop_step}

cut_nil : (kept : List Range) (g : ℕ) (xs : List Content) → cut_from kept g xs [] ≡ xs
cut_nil kept g [] = refl
cut_nil kept g (x ∷ xs) = refl

same_there : (xs : List Content) (i : ℕ) → get_or xs i picture.Lost ≡ get_or xs i (get_or xs i picture.Lost)
same_there [] i = refl
same_there (x ∷ xs) zero = refl
same_there (x ∷ xs) (suc i) = any_default xs i picture.Lost (get_or xs i picture.Lost) (same_there xs i)
  where
    any_default : (xs : List Content) (i : ℕ) (d e : Content) → get_or xs i d ≡ get_or xs i e → get_or xs i d ≡ get_or xs i e
    any_default xs i d e q = q

kept_or : (k : Bool) (u y : Content) → cond (not k) u y ≡ cond k y u
kept_or true u y = refl
kept_or false u y = refl

pub cut_step : (kept : List Range) (nows unders : List Content) (i : ℕ) → i < length nows →
    cut_from kept i (drop i nows) (drop i unders) ≡ cut_at kept nows unders i ∷ cut_from kept (i + 1) (drop (i + 1) nows) (drop (i + 1) unders)
cut_step kept nows unders i lt =
    let y : Content = content_at nows i in
    let u : Content = content_at unders i in
    let now : drop i nows ≡ y ∷ drop (i + 1) nows = drop_step nows i y lt (same_there nows i) in
    elim (cases_lt i (length unders)) [
      | inl l ↦ ap (λ z. cut_from kept i z (drop i unders)) now ∙
          (ap (cut_from kept i (y ∷ drop (i + 1) nows)) (drop_step unders i u l (same_there unders i)) ∙
          ap (λ z. z ∷ cut_from kept (i + 1) (drop (i + 1) nows) (drop (i + 1) unders)) (sym (ap (λ b. cond (b && not (is_kept kept i)) u y) (lt-ltb i (length unders) l) ∙ kept_or (is_kept kept i) u y)))
      | inr ge ↦ ap (cut_from kept i (drop i nows)) (drop_all i unders ge) ∙
          (cut_nil kept i (drop i nows) ∙ (now ∙
          (ap (λ z. z ∷ drop (i + 1) nows) (sym (ap (λ b. cond (b && not (is_kept kept i)) u y) (le-ltb i (length unders) ge))) ∙
          ap (λ z. cut_at kept nows unders i ∷ z) (sym (ap (cut_from kept (i + 1) (drop (i + 1) nows)) (drop_all (i + 1) unders (omega arith)) ∙ cut_nil kept (i + 1) (drop (i + 1) nows))))))
    ]

pub cut_more : (kept : List Range) (nows unders grains new whole : List Content) (i : ℕ) (x : Content) → i < length nows → grains ++ cut_from kept i (drop i nows) (drop i unders) ≡ whole →
    x ≡ cut_at kept nows unders i → new ≡ grains ++ x ∷ [] → new ++ cut_from kept (i + 1) (drop (i + 1) nows) (drop (i + 1) unders) ≡ whole
cut_more kept nows unders grains new whole i x lt before at added =
    let rest : List Content = cut_from kept (i + 1) (drop (i + 1) nows) (drop (i + 1) unders) in
    ap (λ z. z ++ rest) (added ∙ ap (λ z. grains ++ z ∷ []) at) ∙ (append_assoc grains (cut_at kept nows unders i ∷ []) rest ∙ (ap (λ z. grains ++ z) (sym (cut_step kept nows unders i lt)) ∙ before))
