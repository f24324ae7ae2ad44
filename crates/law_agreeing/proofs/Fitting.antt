-- Disks that agree with others fit what those fit.
use Rattle.std.proofs.Common.{◌≡◌, ◌<◌, IsSome, Option, Some, None, List, [], ◌∷◌, length, Contains, refl, subst, ◌∙◌, arith}
use Rattle.std.specs.List.{filter}
use Rattle.fc_base.specs.Tables.{Tables}
use Rattle.fc_decided.proofs.Lists.{filter_in, none_in}
use Rattle.fc_rules.specs.LaneTold.{LaneOf}
use Rattle.fc_kept.specs.Disks.{NamedDisk, disk_of, FitDisks, is_free}
use Rattle.fc_kept.specs.Kept.{Kept}
use Rattle.fc_kept.proofs.Free.{free_now}
use Rattle.law_crash.proofs.Fitting.{free_one}
use Rattle.law_agreeing.specs.Agreeing.{SameSize, Agree}

-- ---- a volume's disk

pub record Sized (o : Option NamedDisk) (d : NamedDisk) : Type 0 where
  pub disk : NamedDisk
  pub there : o ≡ Some disk
  pub kind : d.disk.kind ≡ disk.disk.kind
  pub grains : length d.disk.grains ≡ length disk.disk.grains

sized : (o p : Option NamedDisk) (d : NamedDisk) → SameSize o p → p ≡ Some d → Sized o d
sized None None d s e = absurd cc
sized None (Some y) d s e = absurd s
sized (Some x) None d s e = absurd s
sized (Some x) (Some y) d s e =
    let same : y ≡ d = cc in
    subst (λ (z : NamedDisk). Sized (Some x) z) same record { disk = x; there = refl; kind = s.0; grains = s.1 }

none_then : (o p : Option NamedDisk) → SameSize o p → p ≡ None → o ≡ None
none_then None p s e = refl
none_then (Some x) None s e = absurd s
none_then (Some x) (Some y) s e = absurd cc

pub none_now : (o p : Option NamedDisk) → SameSize o p → o ≡ None → p ≡ None
none_now o None s e = refl
none_now None (Some y) s e = absurd s
none_now (Some x) (Some y) s e = absurd cc

pub some_now : (o p : Option NamedDisk) → SameSize o p → IsSome o → IsSome p
some_now None p s some = absurd cc
some_now (Some x) None s some = absurd s
some_now (Some x) (Some y) s some = refl

-- ---- a free one

some_in : (xs : List NamedDisk) (x : NamedDisk) → Contains xs x → 0 < length xs
some_in [] x c = absurd (none_in x c)
some_in (y ∷ xs) x c = omega arith

-- ---- so they fit

pub fits_agreeing : (l : LaneOf) (k : Kept) (old new : List NamedDisk) (t : Tables) → Agree l k old new → FitDisks l old t → FitDisks l new t
fits_agreeing l k old new t a f =
    record {
      named = λ v d c e.
          let o = sized (disk_of old v.id.0) (disk_of new v.id.0) d (a.named v.id.0) e in
          let p = f.named v o.disk c o.there in
          (o.kind ∙ p.0, o.grains ∙ p.1);
      unnamed = λ v c e.
          let p = f.unnamed v c (none_then (disk_of old v.id.0) (disk_of new v.id.0) (a.named v.id.0) e) in
          let was : 0 < length (filter (is_free v.kind) old) =
          some_in (filter (is_free v.kind) old) p.0 (filter_in (is_free v.kind) old p.0 p.1 (free_now v.kind p.0 p.2 p.3)) in
          let same : length (filter (is_free v.kind) new) ≡ length (filter (is_free v.kind) old) = a.free v.kind in
          free_one v.kind new (omega (arith, was, same));
      one = λ v w vc wc e q.
          f.one v w vc wc (none_then (disk_of old v.id.0) (disk_of new v.id.0) (a.named v.id.0) e)
          (none_then (disk_of old w.id.0) (disk_of new w.id.0) (a.named w.id.0) q);
    }
