-- When a reader is exact, and that readers one behind the other are.
use Rattle.std.proofs.Common.{◌≡◌, ℕ, Bool, false, List, [], ◌∷◌, ◌++◌, length, Result, Ok, Err, refl, sym, ap, subst, ◌∙◌, append_assoc, inl, inr}
use Rattle.std.specs.Prelude.{◌⊎◌}
use Rattle.fc_reading.specs.Readers.{◌>>=◌, map_read, then_read}

-- nothing follows, or a byte that can't join what stands before it
abbrev pub Ends : (ℕ → Bool) → List ℕ → Type 0
Ends joins [] = Unit {0}
Ends joins (byte ∷ bytes) = joins byte ≡ false

-- both are empty, or begin with the same byte
abbrev pub SameStart : List ℕ → List ℕ → Type 0
SameStart [] [] = Unit {0}
SameStart [] (b ∷ bs) = ⊥
SameStart (a ∷ xs) [] = ⊥
SameStart (a ∷ xs) (b ∷ bs) = a ≡ b

-- what was read fits, and is spelled by the front of the bytes; what is behind it can't join it
pub record Takes {V : Type 0} (Fits : V → Type 0) (text : V → List ℕ) (joins : ℕ → Bool) (bytes : List ℕ) (value : V) (rest : List ℕ) : Type 0 where
  pub fits : Fits value
  pub split : bytes ≡ text value ++ rest
  pub ends : Ends joins rest

-- The reader stopped behind `front`, which begins the text of a value; so it does whatever comes, if it begins with the same byte.
pub record Stops {V : Type 0} (Fits : V → Type 0) (text : V → List ℕ) (read : List ℕ → Result (V × List ℕ) ℕ) (bytes : List ℕ) (left : ℕ) : Type 0 where
  pub front : List ℕ
  pub rest : List ℕ
  pub split : bytes ≡ front ++ rest
  pub left_is : left ≡ length rest
  pub value : V
  pub fits : Fits value
  pub more : List ℕ
  pub begins : text value ≡ front ++ more
  pub again : (u : List ℕ) → SameStart rest u → read (front ++ u) ≡ Err (length u)

-- It takes texts of values that fit, takes each of them again, and stops where none goes on.
pub record Exact {V : Type 0} (Fits : V → Type 0) (text : V → List ℕ) (joins : ℕ → Bool) (read : List ℕ → Result (V × List ℕ) ℕ) : Type 0 where
  pub takes : (bytes : List ℕ) (value : V) (rest : List ℕ) → read bytes ≡ Ok (value, rest) → Takes Fits text joins bytes value rest
  pub again : (value : V) (rest : List ℕ) → Fits value → Ends joins rest → read (text value ++ rest) ≡ Ok (value, rest)
  pub stops : (bytes : List ℕ) (left : ℕ) → read bytes ≡ Err left → Stops Fits text read bytes left

-- ---- answers

pub outcome : {A : Type 0} (r : Result A ℕ) → ((x : A) × (r ≡ Ok x)) ⊎ ((n : ℕ) × (r ≡ Err n))
outcome (Ok x) = inl (x, refl)
outcome (Err n) = inr (n, refl)

abbrev pub done : {A : Type 0} → A → Result A ℕ
done x = Ok x

abbrev pub refused : {A : Type 0} → ℕ → Result A ℕ
refused left = Err left

pub ok_is : {A : Type 0} (x y : A) → done x ≡ done y → x ≡ y
ok_is x y e = cc

pub err_is : {A : Type 0} (m n : ℕ) → refused {A = A} m ≡ refused {A = A} n → m ≡ n
err_is m n e = cc

pub ok_no_err : {A : Type 0} (x : A) (n : ℕ) → done x ≡ refused n → ⊥
ok_no_err x n e = absurd cc

pub refused_at : {A : Type 0} (m n : ℕ) → m ≡ n → refused {A = A} m ≡ refused n
refused_at m n e = ap Err e

pub bind_at_ok : {A B : Type 0} (r : Result A ℕ) (f : A → Result B ℕ) (x : A) → r ≡ Ok x → (r >>= f) ≡ f x
bind_at_ok r f x e = rw e refl

pub bind_at_err : {A B : Type 0} (r : Result A ℕ) (f : A → Result B ℕ) (n : ℕ) → r ≡ Err n → (r >>= f) ≡ Err n
bind_at_err r f n e = rw e refl

-- ---- one behind the other

then_at :
    {V W : Type 0} (first : List ℕ → Result (V × List ℕ) ℕ) (second : V → List ℕ → Result (W × List ℕ) ℕ)
    (bytes mid : List ℕ) (v : V) (r : Result (W × List ℕ) ℕ) →
    first bytes ≡ Ok (v, mid) →
    second v mid ≡ r →
    then_read first second bytes ≡ (r >>= (λ y. Ok ((v, y.0), y.1)))
then_at first second bytes mid v r e1 e2 =
    bind_at_ok (first bytes) (λ x. second x.0 x.1 >>= (λ y. Ok ((x.0, y.0), y.1))) (v, mid) e1
    ∙ ap (λ s. s >>= (λ y. Ok ((v, y.0), y.1))) e2

-- where what follows can't join, neither can another that begins with the same byte
Ends-same : (joins : ℕ → Bool) (front rest u : List ℕ) → SameStart rest u → Ends joins (front ++ rest) → Ends joins (front ++ u)
Ends-same joins (b ∷ front) rest u same ends = ends
Ends-same joins [] [] [] same ends = tt
Ends-same joins [] [] (b ∷ u) same ends = absurd same
Ends-same joins [] (a ∷ rest) [] same ends = absurd same
Ends-same joins [] (a ∷ rest) (b ∷ u) same ends = ap joins (sym same) ∙ ends

pub Exact-then :
    {V W : Type 0} (Fits1 : V → Type 0) (text1 : V → List ℕ) (joins1 : ℕ → Bool) (first : List ℕ → Result (V × List ℕ) ℕ)
    (Fits2 : V → W → Type 0) (text2 : V → W → List ℕ) (joins2 : ℕ → Bool) (second : V → List ℕ → Result (W × List ℕ) ℕ) →
    Exact Fits1 text1 joins1 first →
    ((v : V) → Fits1 v → Exact (Fits2 v) (text2 v) joins2 (second v)) →
    ((v : V) → Fits1 v → (w : W) × Fits2 v w) →
    ((v : V) (w : W) (rest : List ℕ) → Fits1 v → Fits2 v w → Ends joins2 rest → Ends joins1 (text2 v w ++ rest)) →
    Exact {V = V × W} (λ x. Fits1 x.0 × Fits2 x.0 x.1) (λ x. text1 x.0 ++ text2 x.0 x.1) joins2 (then_read first second)
Exact-then {V} {W} Fits1 text1 joins1 first Fits2 text2 joins2 second exact1 exact2 some apart = record {
  takes = takes;
  again = again;
  stops = stops;
}
  where
    BothFit : V × W → Type 0
    BothFit x = Fits1 x.0 × Fits2 x.0 x.1

    both : V × W → List ℕ
    both x = text1 x.0 ++ text2 x.0 x.1

    takes_from :
        (bytes : List ℕ) (value : V × W) (rest : List ℕ) (x : V × List ℕ) (e1 : first bytes ≡ Ok x) (y : W × List ℕ)
        (e2 : second x.0 x.1 ≡ Ok y) → ◌≡◌ {A = (V × W) × List ℕ} ((x.0, y.0), y.1) (value, rest) →
        Takes {V = V × W} BothFit both joins2 bytes value rest
    takes_from bytes value rest x e1 y e2 is =
        let t1 = exact1.takes bytes x.0 x.1 e1 in
        let t2 = (exact2 x.0 t1.fits).takes x.1 y.0 y.1 e2 in
        let P : (V × W) × List ℕ → Type 0 = λ z. Takes {V = V × W} BothFit both joins2 bytes z.0 z.1 in
        let at : P ((x.0, y.0), y.1) = record {
          fits = (t1.fits, t2.fits);
          split = t1.split ∙ ap (λ t. text1 x.0 ++ t) t2.split ∙ sym (append_assoc (text1 x.0) (text2 x.0 y.0) y.1);
          ends = t2.ends;
        } in
        subst P is at

    takes : (bytes : List ℕ) (value : V × W) (rest : List ℕ) → then_read first second bytes ≡ Ok (value, rest) → Takes {V = V × W} BothFit both joins2 bytes value rest
    takes bytes value rest e =
        elim (outcome (first bytes)) [
          | inl one ↦
              elim (outcome (second one.0.0 one.0.1)) [
                | inl two ↦
                    takes_from bytes value rest one.0 one.1 two.0 two.1
                    (ok_is _ _ (sym (then_at first second bytes one.0.1 one.0.0 (Ok two.0) one.1 two.1) ∙ e))
                | inr two ↦
                    absurd (ok_no_err _ _ (sym e ∙ then_at first second bytes one.0.1 one.0.0 (Err two.0) one.1 two.1))
              ]
          | inr one ↦ absurd (ok_no_err _ _ (sym e ∙ bind_at_err (first bytes) _ one.0 one.1))
        ]

    again : (value : V × W) (rest : List ℕ) → BothFit value → Ends joins2 rest → then_read first second (both value ++ rest) ≡ Ok (value, rest)
    again value rest fits ends =
        then_at first second (both value ++ rest) (text2 value.0 value.1 ++ rest) value.0 (Ok (value.1, rest))
        (
        ap first (append_assoc (text1 value.0) (text2 value.0 value.1) rest)
        ∙ exact1.again value.0 (text2 value.0 value.1 ++ rest) fits.0 (apart value.0 value.1 rest fits.0 fits.1 ends)
        )
        ((exact2 value.0 fits.0).again value.1 rest fits.1 ends)

    stops_first :
        (bytes : List ℕ) (left n : ℕ) → first bytes ≡ Err n → n ≡ left →
        Stops {V = V × W} BothFit both (then_read first second) bytes left
    stops_first bytes left n e1 is =
        let s = exact1.stops bytes n e1 in
        let w = some s.value s.fits in
        record {
          front = s.front;
          rest = s.rest;
          split = s.split;
          left_is = sym is ∙ s.left_is;
          value = (s.value, w.0);
          fits = (s.fits, w.1);
          more = s.more ++ text2 s.value w.0;
          begins = ap (λ t. t ++ text2 s.value w.0) s.begins ∙ append_assoc s.front s.more (text2 s.value w.0);
          again = λ u same. bind_at_err (first (s.front ++ u)) _ (length u) (s.again u same);
        }

    stops_second :
        (bytes : List ℕ) (left n : ℕ) (x : V × List ℕ) → first bytes ≡ Ok x → second x.0 x.1 ≡ Err n → n ≡ left →
        Stops {V = V × W} BothFit both (then_read first second) bytes left
    stops_second bytes left n x e1 e2 is =
        let t = exact1.takes bytes x.0 x.1 e1 in
        let s = (exact2 x.0 t.fits).stops x.1 n e2 in
        let ends : Ends joins1 (s.front ++ s.rest) = subst (Ends joins1) s.split t.ends in
        record {
          front = text1 x.0 ++ s.front;
          rest = s.rest;
          split = t.split ∙ ap (λ r. text1 x.0 ++ r) s.split ∙ sym (append_assoc (text1 x.0) s.front s.rest);
          left_is = sym is ∙ s.left_is;
          value = (x.0, s.value);
          fits = (t.fits, s.fits);
          more = s.more;
          begins = ap (λ r. text1 x.0 ++ r) s.begins ∙ sym (append_assoc (text1 x.0) s.front s.more);
          again =
              λ u same.
              then_at first second ((text1 x.0 ++ s.front) ++ u) (s.front ++ u) x.0 (Err (length u))
              (ap first (append_assoc (text1 x.0) s.front u) ∙ exact1.again x.0 (s.front ++ u) t.fits (Ends-same joins1 s.front s.rest u same ends))
              (s.again u same);
        }

    stops : (bytes : List ℕ) (left : ℕ) → then_read first second bytes ≡ Err left → Stops {V = V × W} BothFit both (then_read first second) bytes left
    stops bytes left e =
        elim (outcome (first bytes)) [
          | inl one ↦
              elim (outcome (second one.0.0 one.0.1)) [
                | inl two ↦
                    absurd (ok_no_err _ _ (sym (then_at first second bytes one.0.1 one.0.0 (Ok two.0) one.1 two.1) ∙ e))
                | inr two ↦
                    stops_second bytes left two.0 one.0 one.1 two.1
                    (err_is _ _ (sym (then_at first second bytes one.0.1 one.0.0 (Err two.0) one.1 two.1) ∙ e))
              ]
          | inr one ↦ stops_first bytes left one.0 one.1 (err_is _ _ (sym (bind_at_err (first bytes) _ one.0 one.1) ∙ e))
        ]

-- ---- values by other names

-- each value that is read stands for one, with the same text, and each of those for one that is read
pub Exact-map :
    {V W : Type 0} (Fits : V → Type 0) (text : V → List ℕ) (joins : ℕ → Bool) (read : List ℕ → Result (V × List ℕ) ℕ)
    (FitsW : W → Type 0) (textW : W → List ℕ) (f : V → W) →
    Exact Fits text joins read →
    ((v : V) → Fits v → FitsW (f v) × (textW (f v) ≡ text v)) →
    ((w : W) → FitsW w → (v : V) × Fits v × (f v ≡ w)) →
    Exact FitsW textW joins (map_read f read)
Exact-map {V} {W} Fits text joins read FitsW textW f exact to from = record {
  takes = takes;
  again = again;
  stops = stops;
}
  where
    takes : (bytes : List ℕ) (value : W) (rest : List ℕ) → map_read f read bytes ≡ Ok (value, rest) → Takes FitsW textW joins bytes value rest
    takes bytes value rest e =
        elim (outcome (read bytes)) [
          | inl one ↦
              let t = exact.takes bytes one.0.0 one.0.1 one.1 in
              let P : W × List ℕ → Type 0 = λ z. Takes FitsW textW joins bytes z.0 z.1 in
              let at : P (f one.0.0, one.0.1) = record {
                fits = (to one.0.0 t.fits).0;
                split = t.split ∙ ap (λ r. r ++ one.0.1) (sym (to one.0.0 t.fits).1);
                ends = t.ends;
              } in
              subst P (ok_is _ _ (sym (bind_at_ok (read bytes) (λ x. Ok (f x.0, x.1)) one.0 one.1) ∙ e)) at
          | inr one ↦ absurd (ok_no_err _ _ (sym e ∙ bind_at_err (read bytes) _ one.0 one.1))
        ]

    again : (value : W) (rest : List ℕ) → FitsW value → Ends joins rest → map_read f read (textW value ++ rest) ≡ Ok (value, rest)
    again value rest fits ends =
        let v = from value fits in
        let same : textW value ++ rest ≡ text v.0 ++ rest = ap (λ t. t ++ rest) (ap textW (sym v.2) ∙ (to v.0 v.1).1) in
        bind_at_ok (read (textW value ++ rest)) (λ x. Ok (f x.0, x.1)) (v.0, rest) (ap read same ∙ exact.again v.0 rest v.1 ends)
        ∙ ap (λ w. Ok (w, rest)) v.2

    stops : (bytes : List ℕ) (left : ℕ) → map_read f read bytes ≡ Err left → Stops FitsW textW (map_read f read) bytes left
    stops bytes left e =
        elim (outcome (read bytes)) [
          | inl one ↦ absurd (ok_no_err _ _ (sym (bind_at_ok (read bytes) (λ x. Ok (f x.0, x.1)) one.0 one.1) ∙ e))
          | inr one ↦
              let s = exact.stops bytes one.0 one.1 in
              record {
                front = s.front;
                rest = s.rest;
                split = s.split;
                left_is = sym (err_is _ _ (sym (bind_at_err (read bytes) _ one.0 one.1) ∙ e)) ∙ s.left_is;
                value = f s.value;
                fits = (to s.value s.fits).0;
                more = s.more;
                begins = (to s.value s.fits).1 ∙ s.begins;
                again = λ u same. bind_at_err (read (s.front ++ u)) _ (length u) (s.again u same);
              }
        ]
