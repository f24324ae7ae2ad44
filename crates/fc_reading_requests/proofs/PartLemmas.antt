-- Names byte by byte, and words from one of them on.
use Rattle.std.proofs.Common.{◌≡◌, ℕ, ◌+◌, ◌-◌, ◌<◌, ◌≤◌, ◌==◌, true, false, nat_lt, List, [], ◌∷◌, Bor, slice_index_or, take, drop, length, map, Ok, Err, refl, sym, ap, ◌∙◌, arith}
use Rattle.std.proofs.lemmas.Bool.{false≢true}
use Rattle.std.proofs.lemmas.Bool.Decides.{nat_tests}
use Rattle.std.proofs.lemmas.List.{drop-map, drop_more, length-drop, length-map, length-take-le, take_all, take_more}
use Rattle.fc_base.specs.Names.{continues_name, starts_name}
use Rattle.fc_reading.specs.Readers.{one_of_at}
use Rattle.fc_reading_requests.specs.Parts.{name_at, name_from, one_from_at}
use Rattle.fc_reading.proofs.Exact.{bind_at_err, bind_at_ok, refused_at}
use Rattle.fc_reading.proofs.Words.{at_true, one_of-takes}
use Rattle.fc_reading_requests.proofs.Names.{from_end, from_full, from_more}

-- ---- names

pub name-start : (bytes : List ℕ) → length bytes == 0 ≡ false → starts_name (slice_index_or bytes 0 0) ≡ true → name_at bytes ≡ name_from (take 1 bytes) (drop 1 bytes)
name-start [] some starts = absurd (false≢true (sym some))
name-start (b ∷ bytes) some starts = at_true (starts_name b) (name_from (b ∷ []) bytes) _ starts

lt_true : (a b : ℕ) → a < b → nat_lt a b ≡ true
lt_true a b h = grind (arith, nat_tests)

lt_false : (a b : ℕ) → b ≤ a → nat_lt a b ≡ false
lt_false a b h = grind (arith, nat_tests)

pub name-next :
    (bytes : List ℕ) (place : ℕ) → place < length bytes → place < 63 → continues_name (slice_index_or bytes place 0) ≡ true →
    name_from (take place bytes) (drop place bytes) ≡ name_from (take (place + 1) bytes) (drop (place + 1) bytes)
name-next bytes place inside short joins =
    ap (name_from (take place bytes)) (drop_more bytes place 0 inside)
    ∙ from_more (take place bytes) (slice_index_or bytes place 0) (drop (place + 1) bytes) joins
    (lt_true (length (take place bytes)) 63 (omega (arith, short, length-take-le place bytes (omega (arith, inside)))))
    ∙ ap (λ n. name_from n (drop (place + 1) bytes)) (sym (take_more bytes place 0 inside))

pub name-full :
    (bytes : List ℕ) (place : ℕ) → place < length bytes → place ≡ 63 → continues_name (slice_index_or bytes place 0) ≡ true →
    name_from (take place bytes) (drop place bytes) ≡ Err (length bytes - place)
name-full bytes place inside full joins =
    ap (name_from (take place bytes)) (drop_more bytes place 0 inside)
    ∙ from_full (take place bytes) (slice_index_or bytes place 0) (drop (place + 1) bytes) joins
    (lt_false (length (take place bytes)) 63 (omega (arith, full, length-take-le place bytes (omega (arith, inside)))))
    ∙ refused_at _ _ (omega (arith, length-drop (place + 1) bytes, inside))

all_left : {X : Type 0} (xs : List X) (first : ℕ) → take (length xs - first) (drop first xs) ≡ drop first xs
all_left xs first = take_all (length xs - first) (drop first xs) (omega (arith, length-drop first xs))

pub name-end :
    (bytes : List ℕ) (place : ℕ) → place < length bytes → continues_name (slice_index_or bytes place 0) ≡ false →
    name_from (take place bytes) (drop place bytes) ≡ Ok (take place bytes, take (length bytes - place) (drop place bytes))
name-end bytes place inside ends =
    ap (name_from (take place bytes)) (drop_more bytes place 0 inside)
    ∙ from_end (take place bytes) (slice_index_or bytes place 0) (drop (place + 1) bytes) ends
    ∙ ap (λ rest. Ok (take place bytes, rest)) (sym (drop_more bytes place 0 inside) ∙ sym (all_left bytes place))

pub name-whole : (bytes : List ℕ) (place : ℕ) → length bytes ≤ place → name_from (take place bytes) (drop place bytes) ≡ Ok (bytes, [])
name-whole bytes place past =
    ap (λ n. name_from n (drop place bytes)) (take_all place bytes past)
    ∙ ap (name_from bytes) (none_left bytes place past)
  where
    none_left : (bytes : List ℕ) (place : ℕ) → length bytes ≤ place → drop place bytes ≡ []
    none_left bytes place past = no_more (drop place bytes) (omega (arith, length-drop place bytes, past))
      where
        no_more : (rest : List ℕ) → length rest ≤ 0 → rest ≡ []
        no_more [] few = refl
        no_more (b ∷ rest) few = absurd (omega (arith, few))

-- ---- words from one of them on

-- the words themselves
abbrev pub plain : List (Bor (List ℕ)) → List (List ℕ)
plain words = map {A = Bor (List ℕ)} {B = List ℕ} (λ word. word.now) words

left_words : (words : List (Bor (List ℕ))) (first : ℕ) → plain (take (length words - first) (drop first words)) ≡ drop first (plain words)
left_words words first = ap plain (all_left words first) ∙ sym (drop-map (λ (word : Bor (List ℕ)). word.now) first words)

pub later-found :
    (words : List (Bor (List ℕ))) (first : ℕ) (bytes : List ℕ) (index : ℕ) (rest : List ℕ) →
    one_of_at (plain (take (length words - first) (drop first words))) bytes ≡ Ok (index, rest) →
    one_from_at (plain words) first bytes ≡ Ok (index + first, rest)
later-found words first bytes index rest e =
    bind_at_ok (one_of_at (drop first (plain words)) bytes) (λ x. Ok (x.0 + first, x.1)) (index, rest)
    (ap (λ ws. one_of_at ws bytes) (sym (left_words words first)) ∙ e)

pub later-none :
    (words : List (Bor (List ℕ))) (first : ℕ) (bytes : List ℕ) (left : ℕ) →
    one_of_at (plain (take (length words - first) (drop first words))) bytes ≡ Err left →
    one_from_at (plain words) first bytes ≡ Err left
later-none words first bytes left e =
    bind_at_err (one_of_at (drop first (plain words)) bytes) (λ x. Ok (x.0 + first, x.1)) left
    (ap (λ ws. one_of_at ws bytes) (sym (left_words words first)) ∙ e)

pub later-inside :
    (words : List (Bor (List ℕ))) (first : ℕ) (bytes : List ℕ) (index : ℕ) (rest : List ℕ) →
    one_of_at (plain (take (length words - first) (drop first words))) bytes ≡ Ok (index, rest) →
    index + first < length words
later-inside words first bytes index rest e =
    let found = one_of-takes (plain (take (length words - first) (drop first words))) bytes index rest e in
    omega (
      arith,
      found.inside,
      length-map (take (length words - first) (drop first words)) (λ (word : Bor (List ℕ)). word.now),
      ap {A = List (Bor (List ℕ))} length (all_left words first),
      length-drop first words,
    )
