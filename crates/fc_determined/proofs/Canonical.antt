-- Canonical runs are determined by the bytes that they stand for.
use Rattle.std.proofs.Common.{◌≡◌, ◌≢◌, ℕ, zero, suc, ◌<◌, List, [], ◌∷◌, ◌++◌, replicate, refl, sym, ap, ap₂, subst, ◌∙◌, arith}
use Rattle.fc_base.specs.Runs.{expanded, StartsOtherwise, IsCanonical}
use Rattle.fc_base.specs.declared.runs.Run.{Run}

-- the first byte, if there is one, is another
abbrev BeginsOtherwise : ℕ → List ℕ → Type 0
BeginsOtherwise byte [] = Unit {0}
BeginsOtherwise byte (first ∷ rest) = first ≢ byte

-- so many bytes of one value, and then others: how many there are, and what follows, is determined
record AreOneRun (n m : ℕ) (xs ys : List ℕ) : Type 0 where
  count : n ≡ m
  rest : xs ≡ ys

replicate_other :
    (m byte : ℕ) (xs ys : List ℕ) → BeginsOtherwise byte xs → xs ≡ replicate (suc m) byte ++ ys → ⊥
replicate_other m byte [] ys other e = absurd cc
replicate_other m byte (x ∷ xs) ys other e = let first : x ≡ byte = cc in other first

one_run :
    (n m byte : ℕ) (xs ys : List ℕ) →
    BeginsOtherwise byte xs →
    BeginsOtherwise byte ys →
    replicate n byte ++ xs ≡ replicate m byte ++ ys →
    AreOneRun n m xs ys
one_run zero zero byte xs ys h k e = record { count = refl; rest = e }
one_run zero (suc m) byte xs ys h k e = absurd (replicate_other m byte xs ys h e)
one_run (suc n) zero byte xs ys h k e = absurd (replicate_other n byte ys xs k (sym e))
one_run (suc n) (suc m) byte xs ys h k e =
    let tail : replicate n byte ++ xs ≡ replicate m byte ++ ys = cc in
    let rest : AreOneRun n m xs ys = one_run n m byte xs ys h k tail in
    record { count = ap suc rest.count; rest = rest.rest }

-- canonical runs begin with the byte of their first run
counted : (n byte other : ℕ) (rest : List ℕ) → 0 < n → byte ≢ other → BeginsOtherwise other (replicate n byte ++ rest)
counted zero byte other rest some differs = absurd (omega arith)
counted (suc n) byte other rest some differs = differs

begins_otherwise : (byte : ℕ) (runs : List Run) → StartsOtherwise byte runs → IsCanonical runs → BeginsOtherwise byte (expanded runs)
begins_otherwise byte [] starts canonical = tt
begins_otherwise byte (run ∷ runs) starts canonical =
    counted run.count run.byte byte (expanded runs) canonical.0 starts

nothing_begins : (n byte : ℕ) (rest : List ℕ) → 0 < n → [] ≡ replicate n byte ++ rest → ⊥
nothing_begins zero byte rest some e = absurd (omega arith)
nothing_begins (suc n) byte rest some e = absurd cc

same_byte :
    (n m byte other : ℕ) (xs ys : List ℕ) → 0 < n → 0 < m → replicate n byte ++ xs ≡ replicate m other ++ ys → byte ≡ other
same_byte zero m byte other xs ys some some_other e = absurd (omega arith)
same_byte (suc n) zero byte other xs ys some some_other e = absurd (omega arith)
same_byte (suc n) (suc m) byte other xs ys some some_other e = cc

same_run : (r s : Run) → r.count ≡ s.count → r.byte ≡ s.byte → r ≡ s
same_run r s count byte =
    ap (λ n. record r { count = n }) count ∙ ap (λ b. record s { byte = b }) byte

pub canonical_one :
    (xs ys : List Run) → IsCanonical xs → IsCanonical ys → expanded xs ≡ expanded ys → xs ≡ ys
canonical_one [] [] h k e = refl
canonical_one [] (y ∷ ys) h k e = absurd (nothing_begins y.count y.byte (expanded ys) k.0 e)
canonical_one (x ∷ xs) [] h k e = absurd (nothing_begins x.count x.byte (expanded xs) h.0 (sym e))
canonical_one (x ∷ xs) (y ∷ ys) h k e =
    let byte : x.byte ≡ y.byte = same_byte x.count y.count x.byte y.byte (expanded xs) (expanded ys) h.0 k.0 e in
    let P : ℕ → Type 0 = λ b. StartsOtherwise b ys in
    let Q : ℕ → Type 0 = λ b. replicate x.count x.byte ++ expanded xs ≡ replicate y.count b ++ expanded ys in
    let one : AreOneRun x.count y.count (expanded xs) (expanded ys) =
    one_run x.count y.count x.byte (expanded xs) (expanded ys)
    (begins_otherwise x.byte xs h.1 h.2)
    (begins_otherwise x.byte ys (subst P (sym byte) k.1) k.2)
    (subst Q (sym byte) e) in
    ap₂ (λ r rs. r ∷ rs) (same_run x y one.count byte) (canonical_one xs ys h.2 k.2 one.rest)
