-- A write, put into the volumes from the last one on.
use Rattle.std.proofs.Common.{◌≡◌, ℕ, ◌+◌, ◌<◌, Bool, true, false, cond, Option, Some, None, List, ◌++◌, map, take, drop, set, get_or, length, refl, sym, ap, ◌∙◌}
use Rattle.std.specs.Prelude.{◌==◌}
use Rattle.fc_base.specs.declared.request.WritePart.{WritePart}
use Rattle.fc_base.specs.declared.size.GrainSize.{GrainSize}
use Rattle.fc_entry.specs.Picture.{Content, PlainVolume, grain_of_block}
use Rattle.fc_plain.specs.Changes.{write_if, fresh_of, put_if}
use Rattle.fc_plain.proofs.Lists.{written_here, same_there}

put_cond : (b : Bool) (g : ℕ) (w : Content) (v : PlainVolume) → put_if g (cond b (Some w) None) v ≡ cond b (record v { now = set v.now g w }) v
put_cond true g w v = refl
put_cond false g w v = refl

fresh_put : (grain : GrainSize) (part : WritePart) (v : PlainVolume) → put_if (grain_of_block grain part.block) (fresh_of grain part v) v ≡ write_if grain part v
fresh_put grain part v = put_cond (v.volume.0 == part.volume.0) (grain_of_block grain part.block) _ v

pub write_back : (grain : GrainSize) (part : WritePart) (xs now : List PlainVolume) (i place : ℕ) (t old u : PlainVolume) (fresh : Option Content) → i < length xs →
    now ≡ take (i + 1) xs ++ map (write_if grain part) (drop (i + 1) xs) → old ≡ get_or xs i old → fresh ≡ fresh_of grain part (get_or xs i old) → place ≡ grain_of_block grain part.block →
    t ≡ get_or now i t → u ≡ put_if place fresh (get_or now i t) → set now i u ≡ take i xs ++ map (write_if grain part) (drop i xs)
write_back grain part xs now i place t old u fresh lt e o f p r q =
    written_here (write_if grain part) xs now i t old u lt e r o
    (q ∙ (ap (put_if place fresh) (sym r ∙ same_there (write_if grain part) xs now i t old lt e r o)
    ∙ (ap (λ z. put_if z fresh old) p ∙ (ap (λ z. put_if (grain_of_block grain part.block) z old) (f ∙ ap (fresh_of grain part) (sym o)) ∙ fresh_put grain part old))))
