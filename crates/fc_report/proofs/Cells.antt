-- The fields of a row, one more; and a row's text.
use Rattle.std.proofs.Common.{◌≡◌, ◌∙◌, sym, ap, ℕ, ◌+◌, ◌-◌, ◌<◌, List, [], ◌∷◌, ◌++◌, length, get_or, take, drop, ◌≤◌, replicate, refl, arith, append-nil}
use Rattle.std.proofs.lemmas.List.{take_more, length-take-le, take_all, append_assoc}
use Rattle.std.proofs.lemmas.Grind.{flat_map-append}
use Rattle.std.specs.List.{flat_map, join_with_byte}
use Rattle.fc_books.specs.Layout.{fill, filled}
use Rattle.fc_report.specs.Beside.{beside}

-- ---- filled up to the widths

fill_none : (text : List ℕ) → fill 0 text ≡ text
fill_none text = ap (λ n. text ++ replicate n 32) (let e : 0 - length text ≡ 0 = omega arith in e) ∙ append-nil text

pub filled_nil : (ws : List ℕ) → filled ws [] ≡ []
filled_nil [] = refl
filled_nil (w ∷ ws) = refl

filled_push : (ws : List ℕ) (xs : List (List ℕ)) (x : List ℕ) → filled ws (xs ++ x ∷ []) ≡ filled ws xs ++ fill (get_or ws (length xs) 0) x ∷ []
filled_push [] xs x = ap (λ z. xs ++ z ∷ []) (sym (fill_none x))
filled_push (w ∷ ws) [] x = ap (λ z. fill w x ∷ z) (filled_nil ws)
filled_push (w ∷ ws) (y ∷ xs) x = ap (λ z. fill w y ∷ z) (filled_push ws xs x)

pub filled_more : (ws : List ℕ) (row : List (List ℕ)) (i : ℕ) (d : List ℕ) → i < length row → filled ws (take (i + 1) row) ≡ filled ws (take i row) ++ fill (get_or ws i 0) (get_or row i d) ∷ []
filled_more ws row i d lt =
    ap (filled ws) (take_more row i d lt)
    ∙ filled_push ws (take i row) (get_or row i d)
    ∙ ap (λ n. filled ws (take i row) ++ fill (get_or ws n 0) (get_or row i d) ∷ []) (length-take-le i row (omega arith))

-- ---- beside their headings

beside_push : (c : ℕ) (hs fs : List (List ℕ)) (h f : List ℕ) → length hs ≡ length fs → beside c (hs ++ h ∷ []) (fs ++ f ∷ []) ≡ beside c hs fs ++ (h ++ c ∷ f) ∷ []
beside_push c [] [] h f e = refl
beside_push c [] (k ∷ fs) h f e = absurd (omega arith)
beside_push c (g ∷ hs) [] h f e = absurd (omega arith)
beside_push c (g ∷ hs) (k ∷ fs) h f e = ap (λ z. (g ++ c ∷ k) ∷ z) (beside_push c hs fs h f (omega arith))

pub beside_more : (c : ℕ) (hs fs : List (List ℕ)) (i : ℕ) (d e : List ℕ) → length hs ≡ length fs → i < length hs → beside c (take (i + 1) hs) (take (i + 1) fs) ≡ beside c (take i hs) (take i fs) ++ (get_or hs i d ++ c ∷ get_or fs i e) ∷ []
beside_more c hs fs i d e same lt =
    ap (λ z. beside c z (take (i + 1) fs)) (take_more hs i d lt)
    ∙ ap (λ z. beside c (take i hs ++ get_or hs i d ∷ []) z) (take_more fs i e (omega arith))
    ∙ beside_push c (take i hs) (take i fs) (get_or hs i d) (get_or fs i e)
    (length-take-le i hs (omega arith) ∙ sym (length-take-le i fs (omega arith)))

-- ---- with a byte between each two

joined_is : (c : ℕ) (x : List ℕ) (xs : List (List ℕ)) → join_with_byte c (x ∷ xs) ≡ x ++ flat_map (λ y. c ∷ y) xs
joined_is c x [] = sym (append-nil x)
joined_is c x (y ∷ ys) = ap (λ rest. x ++ c ∷ rest) (joined_is c y ys)

pub joined_first : (c : ℕ) (xs : List (List ℕ)) (d : List ℕ) → 1 ≤ length xs → join_with_byte c xs ≡ get_or xs 0 d ++ flat_map (λ y. c ∷ y) (take (length xs - 1) (drop 1 xs))
joined_first c [] d inside = absurd (omega arith)
joined_first c (x ∷ xs) d inside =
    joined_is c x xs
    ∙ ap (λ rest. x ++ flat_map (λ y. c ∷ y) rest) (sym (take_all (length (x ∷ xs) - 1) xs (omega arith)))

-- one more text behind the byte
pub behind_more : (c : ℕ) (x : List ℕ) (xs : List (List ℕ)) (i : ℕ) (d : List ℕ) → i < length xs →
    x ++ flat_map (λ y. c ∷ y) (take (i + 1) xs) ≡ (x ++ flat_map (λ y. c ∷ y) (take i xs)) ++ c ∷ get_or xs i d
behind_more c x xs i d lt =
    ap (λ ys. x ++ flat_map (λ y. c ∷ y) ys) (take_more xs i d lt)
    ∙ ap (λ rest. x ++ rest) (flat_map-append (λ y. c ∷ y) (take i xs) (get_or xs i d ∷ []))
    ∙ ap (λ last. x ++ (flat_map (λ y. c ∷ y) (take i xs) ++ c ∷ last)) (append-nil (get_or xs i d))
    ∙ sym (append_assoc x (flat_map (λ y. c ∷ y) (take i xs)) (c ∷ get_or xs i d))
