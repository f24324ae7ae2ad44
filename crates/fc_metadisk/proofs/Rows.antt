-- Rows of bytes that a write changed or tore.
use Rattle.std.proofs.Common.{◌≡◌, ℕ, ◌+◌, ◌-◌, ◌≤◌, List, ◌++◌, length, take, drop, refl, sym, ap, ◌∙◌, arith, length-append, length-take, length-drop}
use Rattle.std.proofs.lemmas.List.{take-append-drop, append_assoc}
use Rattle.std.proofs.Math.Seq.{take_at, drop_at, take-take, drop-drop}
use Rattle.fc_metadisk.specs.Disk.{Torn, bytes_put, bytes_at}

pub torn_none : (at n : ℕ) (row : List ℕ) → Torn at n row row
torn_none at n row = record { before = refl; after = refl; size = refl }

pub torn_twice : {at n : ℕ} {a b c : List ℕ} → Torn at n a b → Torn at n b c → Torn at n a c
torn_twice s t = record { before = t.before ∙ s.before; after = t.after ∙ s.after; size = t.size ∙ s.size }

pub torn_back : {at n : ℕ} {a b : List ℕ} → Torn at n a b → Torn at n b a
torn_back t = record { before = sym t.before; after = sym t.after; size = sym t.size }

take_shorter : (i j : ℕ) (xs ys : List ℕ) → i ≤ j → take j xs ≡ take j ys → take i xs ≡ take i ys
take_shorter i j xs ys le e = sym (take-take i j xs le) ∙ (ap (take i) e ∙ take-take i j ys le)

drop_later : (i j : ℕ) (xs ys : List ℕ) → i ≤ j → drop i xs ≡ drop i ys → drop j xs ≡ drop j ys
drop_later i j xs ys le e =
    let k : i + (j - i) ≡ j = omega arith in
    let moved : (zs : List ℕ) → drop (j - i) (drop i zs) ≡ drop j zs = λ zs. drop-drop (j - i) i zs ∙ ap (λ (n : ℕ). drop n zs) k in
    sym (moved xs) ∙ (ap (drop (j - i)) e ∙ moved ys)

pub torn_wider : {at n : ℕ} {old new : List ℕ} (low m : ℕ) → Torn at n old new → low ≤ at → at + n ≤ low + m → Torn low m old new
torn_wider {at} {n} {old} {new} low m t lower higher = record {
  before = take_shorter low at new old lower t.before;
  after = drop_later (at + n) (low + m) new old higher t.after;
  size = t.size;
}

length_front : (at : ℕ) (old : List ℕ) → at ≤ length old → length (take at old) ≡ at
length_front at old inside = simp length-take (omega arith)

pub length_put : (at : ℕ) (bytes old : List ℕ) → at + length bytes ≤ length old → length (bytes_put at bytes old) ≡ length old
length_put at bytes old inside = simp (length-append, length-take, length-drop) (omega arith)

pub torn_put : (at : ℕ) (bytes old : List ℕ) → at + length bytes ≤ length old → Torn at (length bytes) old (bytes_put at bytes old)
torn_put at bytes old inside = record {
  before = take_at (take at old) (bytes ++ drop (at + length bytes) old) at (length_front at old (omega arith));
  after =
      ap (drop (at + length bytes)) (sym (append_assoc (take at old) bytes (drop (at + length bytes) old)))
      ∙ drop_at (take at old ++ bytes) (drop (at + length bytes) old) (at + length bytes) (simp (length-append, length-take) (omega arith));
  size = length_put at bytes old inside;
}

-- the bytes of the range, put back
pub torn_mended : {at n : ℕ} {old new : List ℕ} → Torn at n old new → at + n ≤ length new → bytes_put at (bytes_at at n new) old ≡ new
torn_mended {at} {n} {old} {new} t inside =
    let long : length (take n (drop at new)) ≡ n = simp (length-take, length-drop) (omega arith) in
    let rest : drop n (drop at new) ≡ drop (at + n) new = drop-drop n at new in
    let parts : take at new ++ (take n (drop at new) ++ drop (at + n) new) ≡ new =
    ap (λ (z : List ℕ). take at new ++ (take n (drop at new) ++ z)) (sym rest)
    ∙ (ap (λ (z : List ℕ). take at new ++ z) (take-append-drop n (drop at new)) ∙ take-append-drop at new) in
    ap (λ (k : ℕ). take at old ++ (take n (drop at new) ++ drop (at + k) old)) long
    ∙ (ap (λ (z : List ℕ). z ++ (take n (drop at new) ++ drop (at + n) old)) (sym t.before)
    ∙ (ap (λ (z : List ℕ). take at new ++ (take n (drop at new) ++ z)) (sym t.after) ∙ parts))

-- a row that is torn nowhere
pub torn_nowhere : {at : ℕ} {old new : List ℕ} → Torn at 0 old new → new ≡ old
torn_nowhere {at} {old} {new} t =
    let k : at + 0 ≡ at = omega arith in
    let after : drop at new ≡ drop at old = ap (λ (n : ℕ). drop n new) (sym k) ∙ (t.after ∙ ap (λ (n : ℕ). drop n old) k) in
    sym (take-append-drop at new) ∙ (ap (λ (z : List ℕ). z ++ drop at new) t.before ∙ (ap (λ (z : List ℕ). take at old ++ z) after ∙ take-append-drop at old))
