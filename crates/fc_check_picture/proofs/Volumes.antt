-- All volumes, one after the other; and a cut, grain after grain.
use Rattle.std.proofs.Common.{◌≡◌, ℕ, zero, suc, ◌+◌, ◌<◌, ◌≤◌, Option, Some, None, List, [], ◌∷◌, ◌++◌, map, take, drop, set, get_or, length, append_assoc, length-set, refl, sym, ap, ap₂, subst, ◌∙◌, arith}
use Rattle.std.specs.Prelude.{option_map}
use Rattle.std.proofs.lemmas.List.{append-nil, drop_all, drop-set-lt, take_all, take_more_set}
use Rattle.fc_base.specs.declared.ids.VolId.{VolId}
use Rattle.fc_base.specs.declared.ranges.Range.{Range}
use Rattle.fc_base.specs.declared.request.Pair.{Pair}
use Rattle.fc_entry.specs.Picture.{Content, PlainVolume, Picture}
use Rattle.fc_entry.specs.PlainStep.{after_trigger, cut_from, now_in, source_in}
use Rattle.fc_plain.specs.Changes.{cut_at}
use Rattle.fc_plain.proofs.Cuts.{cut_step}
use Rattle.fc_plain.proofs.Lists.{written_here, same_there}
use Rattle.fc_check_picture.specs.Copies.{copied_for, started}

-- ---- a cut

pub cut_one : (kept : List Range) (now under whole : List Content) (i : ℕ) → i < length now → take i now ++ cut_from kept i (drop i now) (drop i under) ≡ whole →
    take (i + 1) (set now i (cut_at kept now under i)) ++ cut_from kept (i + 1) (drop (i + 1) (set now i (cut_at kept now under i))) (drop (i + 1) under) ≡ whole
cut_one kept now under whole i lt before =
    let x : Content = cut_at kept now under i in
    let rest : List Content = cut_from kept (i + 1) (drop (i + 1) now) (drop (i + 1) under) in
    ap₂ (λ (xs ys : List Content). xs ++ cut_from kept (i + 1) ys (drop (i + 1) under)) (take_more_set now i x lt) (drop-set-lt (i + 1) now i x (omega arith))
    ∙ (append_assoc (take i now) (x ∷ []) rest ∙ (ap (λ z. take i now ++ z) (sym (cut_step kept now under i lt)) ∙ before))

pub cut_all : (kept : List Range) (now under whole : List Content) (i : ℕ) → length now ≤ i → take i now ++ cut_from kept i (drop i now) (drop i under) ≡ whole → now ≡ whole
cut_all kept now under whole i le before =
    let none : cut_from kept i (drop i now) (drop i under) ≡ [] = ap (λ z. cut_from kept i z (drop i under)) (drop_all i now le) in
    sym (append-nil now) ∙ (ap₂ (λ (xs ys : List Content). xs ++ ys) (sym (take_all i now le)) (sym none) ∙ before)

-- a volume whose first grains are cut
pub record CutSo (kept : List Range) (first now : PlainVolume) (i : ℕ) : Type 0 where
  pub id : now.volume ≡ first.volume
  pub under : now.under ≡ first.under
  pub size : length now.now ≡ length first.now
  pub cut : take i now.now ++ cut_from kept i (drop i now.now) (drop i now.under) ≡ cut_from kept 0 first.now first.under

pub cut_more : (kept : List Range) (first now new : PlainVolume) (i : ℕ) → i < length first.now → CutSo kept first now i → new ≡ record now { now = set now.now i (cut_at kept now.now now.under i) } → CutSo kept first new (i + 1)
cut_more kept first now new i lt s e =
    let inside : i < length now.now = omega (arith, s.size) in
    subst (λ (z : PlainVolume). CutSo kept first z (i + 1)) (sym e)
    (record { id = s.id; under = s.under; size = length-set now.now i _ ∙ s.size; cut = cut_one kept now.now now.under _ i inside s.cut })

pub cut_whole : (kept : List Range) (first now : PlainVolume) (i : ℕ) → length first.now ≤ i → CutSo kept first now i → now ≡ record first { now = cut_from kept 0 first.now first.under }
cut_whole kept first now i le s =
    let all : now.now ≡ cut_from kept 0 first.now first.under = cut_all kept now.now now.under _ i (omega (arith, s.size)) s.cut in
    λ k. record { volume = s.id k; now = all k; under = s.under k }

-- ---- a trigger

started_is : (picture : Picture) (pairs : List Pair) (v : PlainVolume) → started (copied_for picture pairs v.volume) v ≡ after_trigger picture pairs v
started_is picture pairs v = by (source_in pairs v.volume) refl
  where
    by : (o : Option VolId) → source_in pairs v.volume ≡ o → started (option_map (now_in picture) (source_in pairs v.volume)) v ≡ after_trigger picture pairs v
    by None e = rw e refl
    by (Some source) e = rw e refl

pub trigger_one : (pairs : List Pair) (xs now : List PlainVolume) (i : ℕ) (t old u : PlainVolume) (target : VolId) (copied : Option (List Content)) → i < length xs → now ≡ take (i + 1) xs ++ map (after_trigger xs pairs) (drop (i + 1) xs) → old ≡ get_or xs i old →
    target ≡ (get_or xs i old).volume → copied ≡ copied_for xs pairs target → t ≡ get_or now i t → u ≡ started copied (get_or now i t) → set now i u ≡ take i xs ++ map (after_trigger xs pairs) (drop i xs)
trigger_one pairs xs now i t old u target copied lt e o of_old f r q =
    written_here (after_trigger xs pairs) xs now i t old u lt e r o
    (q ∙ (ap (started copied) (sym r ∙ same_there (after_trigger xs pairs) xs now i t old lt e r o)
    ∙ (ap (λ (z : Option (List Content)). started z old) (f ∙ ap (copied_for xs pairs) (of_old ∙ ap (λ (v : PlainVolume). v.volume) (sym o))) ∙ started_is xs pairs old)))
