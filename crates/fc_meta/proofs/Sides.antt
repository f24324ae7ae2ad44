-- A write in one half of a disk leaves the other as it is.
use Rattle.std.proofs.Common.{◌≡◌, ℕ, ◌+◌, ◌-◌, ◌/◌, ◌≤◌, List, ◌++◌, length, take, drop, refl, sym, ap, ◌∙◌, subst, arith, length-take, length-drop}
use Rattle.std.proofs.Math.Seq.{take-take, drop-drop, take_at, drop_at}
use Rattle.std.proofs.lemmas.List.{drop-take}
use Rattle.fc_metadisk.specs.Disk.{Torn, bytes_put, bytes_at}
use Rattle.fc_metadisk.proofs.Rows.{torn_wider, torn_put, torn_mended}
use Rattle.fc_format.specs.declared.half.Half.{Half}
use Rattle.fc_format.specs.declared.half.Half.TheVariants.{First, Second}
use Rattle.fc_format.specs.Halves.{half_of, half_start, half_size, other_half}

pub half_long : (half : Half) (disk : List ℕ) → length (half_of half disk) ≡ half_size disk
unfolding half_of
half_long First disk = let t = length-take (half_size disk) disk in omega (arith, t)
half_long Second disk = let t = length-take (half_size disk) (drop (half_size disk) disk) in let d = length-drop (half_size disk) disk in omega (arith, t, d)

pub starts_inside : (half : Half) (disk : List ℕ) → half_start half disk + half_size disk ≤ length disk
starts_inside First disk = omega arith
starts_inside Second disk = omega arith

pub same_size : (a b : List ℕ) → length b ≡ length a → half_size b ≡ half_size a
same_size a b e = ap (λ (n : ℕ). n / 2) e

pub same_start : (half : Half) (a b : List ℕ) → length b ≡ length a → half_start half b ≡ half_start half a
same_start First a b e = refl
same_start Second a b e = same_size a b e

-- ---- Parts of rows

-- n bytes of a row from s on, torn inside
torn_part : (s n p k : ℕ) (a b : List ℕ) → Torn (s + p) k a b → p + k ≤ n → s + n ≤ length a → Torn p k (take n (drop s a)) (take n (drop s b))
torn_part s n p k a b t inside le = record {
  before = front b ∙ (ap (drop s) t.before ∙ sym (front a));
  after = back b ∙ (ap (take (n - (p + k))) (ends b ∙ (t.after ∙ sym (ends a))) ∙ sym (back a));
  size =
      let l = t.size in
      let ta = length-take n (drop s a) in
      let tb = length-take n (drop s b) in
      let da = length-drop s a in
      let db = length-drop s b in
      omega (arith, l, ta, tb, da, db);
}
  where
    front : (c : List ℕ) → take p (take n (drop s c)) ≡ drop s (take (s + p) c)
    front c = take-take p n (drop s c) (omega arith) ∙ sym (drop-take s p c)

    ends : (c : List ℕ) → drop (p + k) (drop s c) ≡ drop (s + p + k) c
    ends c = drop-drop (p + k) s c ∙ ap (λ (m : ℕ). drop m c) (let e : s + (p + k) ≡ s + p + k = omega arith in e)

    back : (c : List ℕ) → drop (p + k) (take n (drop s c)) ≡ take (n - (p + k)) (drop (p + k) (drop s c))
    back c =
        ap (λ (m : ℕ). drop (p + k) (take m (drop s c))) (let e : n ≡ p + k + (n - (p + k)) = omega arith in e)
        ∙ drop-take (p + k) (n - (p + k)) (drop s c)

-- ---- The half that is written in

pub torn_here : (half : Half) (p k : ℕ) (a b : List ℕ) → Torn (half_start half a + p) k a b → p + k ≤ half_size a → Torn p k (half_of half a) (half_of half b)
unfolding half_of
torn_here First p k a b t inside =
    subst (λ (m : ℕ). Torn p k (take (half_size a) a) (take m b)) (sym (same_size a b t.size))
    (torn_part 0 (half_size a) p k a b t inside (omega arith))
torn_here Second p k a b t inside =
    subst (λ (m : ℕ). Torn p k (take (half_size a) (drop (half_size a) a)) (take m (drop m b))) (sym (same_size a b t.size))
    (torn_part (half_size a) (half_size a) p k a b t inside (omega arith))

-- ---- The other half

pub torn_there : (half : Half) (p k : ℕ) (a b : List ℕ) → Torn (half_start half a + p) k a b → p + k ≤ half_size a → half_of (other_half half) b ≡ half_of (other_half half) a
unfolding half_of
torn_there First p k a b t inside =
    let w = torn_wider 0 (half_size a) t (omega arith) (omega arith) in
    let past : (c : List ℕ) → drop (half_size a) c ≡ drop (0 + half_size a) c = λ c. ap (λ (m : ℕ). drop m c) (let e : half_size a ≡ 0 + half_size a = omega arith in e) in
    ap (λ (m : ℕ). take m (drop m b)) (same_size a b t.size) ∙ ap (take (half_size a)) (past b ∙ (w.after ∙ sym (past a)))
torn_there Second p k a b t inside =
    let w = torn_wider (half_size a) (length a - half_size a) t (omega arith) (omega arith) in
    ap (λ (m : ℕ). take m b) (same_size a b t.size) ∙ w.before

-- ---- What was written

-- the bytes of the range are those that were put
pub put_there : (at : ℕ) (bytes old : List ℕ) → at + length bytes ≤ length old → drop at (bytes_put at bytes old) ≡ bytes ++ drop (at + length bytes) old
put_there at bytes old inside = drop_at (take at old) (bytes ++ drop (at + length bytes) old) at (let t = length-take at old in omega (arith, t))

part_bytes : (s n p k : ℕ) (c : List ℕ) → p + k ≤ n → take k (drop p (take n (drop s c))) ≡ take k (drop (s + p) c)
part_bytes s n p k c inside =
    ap (λ (m : ℕ). take k (drop p (take m (drop s c)))) (let e : n ≡ p + (n - p) = omega arith in e)
    ∙ (ap (take k) (drop-take p (n - p) (drop s c))
    ∙ (take-take k (n - p) (drop p (drop s c)) (omega arith) ∙ ap (take k) (drop-drop p s c)))

pub bytes_in : (half : Half) (p k : ℕ) (c : List ℕ) → p + k ≤ half_size c → bytes_at p k (half_of half c) ≡ bytes_at (half_start half c + p) k c
unfolding half_of
bytes_in First p k c inside = part_bytes 0 (half_size c) p k c inside
bytes_in Second p k c inside = part_bytes (half_size c) (half_size c) p k c inside

-- what was put in the half stands there
pub put_here : (half : Half) (p : ℕ) (bytes old : List ℕ) → p + length bytes ≤ half_size old
    → half_of half (bytes_put (half_start half old + p) bytes old) ≡ bytes_put p bytes (half_of half old)
put_here half p bytes old inside =
    let s = starts_inside half old in
    let l = half_long half old in
    let new = bytes_put (half_start half old + p) bytes old in
    let t = torn_put (half_start half old + p) bytes old (omega (arith, s)) in
    let here = torn_here half p (length bytes) old new t inside in
    let long : length (half_of half new) ≡ half_size old = here.size ∙ l in
    let mended : bytes_put p (bytes_at p (length bytes) (half_of half new)) (half_of half old) ≡ half_of half new = torn_mended here (omega (arith, long)) in
    let same = same_size old new t.size in
    let starts = same_start half old new t.size in
    let written : bytes_at p (length bytes) (half_of half new) ≡ bytes =
    bytes_in half p (length bytes) new (omega (arith, same, inside))
    ∙ (ap (λ (m : ℕ). take (length bytes) (drop (m + p) new)) starts
    ∙ (ap (take (length bytes)) (put_there (half_start half old + p) bytes old (omega (arith, s))) ∙ take_at bytes _ (length bytes) refl)) in
    sym mended ∙ ap (λ (z : List ℕ). bytes_put p z (half_of half old)) written
