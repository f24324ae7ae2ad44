-- Names are read exactly.
use Rattle.std.proofs.Common.{◌≡◌, ℕ, suc, ◌+◌, ◌<◌, ◌≤◌, Bool, true, false, ◌&&◌, cond, nat_le, nat_lt, List, [], ◌∷◌, ◌++◌, length, Ok, Err, refl, sym, ap, subst, ◌∙◌, append_assoc, length-append, arith, inl, inr}
use Rattle.std.specs.List.{list_all}
use Rattle.std.proofs.lemmas.Bool.{false≢true}
use Rattle.std.proofs.lemmas.Bool.Decides.{nat_tests}
use Rattle.std.proofs.lemmas.List.{append-nil}
use Rattle.fc_base.specs.Names.{continues_name, starts_name}
use Rattle.fc_words.specs.Canonical.{IsName}
use Rattle.fc_reading_requests.specs.Parts.{name_at, name_from}
use Rattle.fc_reading.proofs.Exact.{Ends, Exact, SameStart, Stops, Takes, err_is, ok_is, ok_no_err}
use Rattle.fc_reading.proofs.Numbers.{cases}
use Rattle.fc_reading.proofs.Words.{at_false, at_true, both}

-- ---- one more byte

pub from_more : (name : List ℕ) (byte : ℕ) (bytes : List ℕ) → continues_name byte ≡ true → nat_lt (length name) 63 ≡ true → name_from name (byte ∷ bytes) ≡ name_from (name ++ byte ∷ []) bytes
from_more name byte bytes joins room =
    at_true (continues_name byte) (cond (nat_lt (length name) 63) (name_from (name ++ byte ∷ []) bytes) (Err (suc (length bytes)))) (Ok (name, byte ∷ bytes)) joins
    ∙ at_true (nat_lt (length name) 63) (name_from (name ++ byte ∷ []) bytes) (Err (suc (length bytes))) room

pub from_full : (name : List ℕ) (byte : ℕ) (bytes : List ℕ) → continues_name byte ≡ true → nat_lt (length name) 63 ≡ false → name_from name (byte ∷ bytes) ≡ Err (suc (length bytes))
from_full name byte bytes joins full =
    at_true (continues_name byte) (cond (nat_lt (length name) 63) (name_from (name ++ byte ∷ []) bytes) (Err (suc (length bytes)))) (Ok (name, byte ∷ bytes)) joins
    ∙ at_false (nat_lt (length name) 63) (name_from (name ++ byte ∷ []) bytes) (Err (suc (length bytes))) full

pub from_end : (name : List ℕ) (byte : ℕ) (bytes : List ℕ) → continues_name byte ≡ false → name_from name (byte ∷ bytes) ≡ Ok (name, byte ∷ bytes)
from_end name byte bytes ends =
    at_false (continues_name byte) (cond (nat_lt (length name) 63) (name_from (name ++ byte ∷ []) bytes) (Err (suc (length bytes)))) (Ok (name, byte ∷ bytes)) ends

at_end : (name rest : List ℕ) → Ends continues_name rest → name_from name rest ≡ Ok (name, rest)
at_end name [] ends = refl
at_end name (byte ∷ bytes) ends = from_end name byte bytes ends

-- ---- names

all-one : (word : List ℕ) (byte : ℕ) → list_all continues_name word ≡ true → continues_name byte ≡ true → list_all continues_name (word ++ byte ∷ []) ≡ true
all-one [] byte all one = rw one refl
all-one (b ∷ word) byte all one =
    let parts = both (continues_name b) (list_all continues_name word) all in
    rw (parts.0, all-one word byte parts.1 one) refl

and_true : (a b : Bool) → a ≡ true → b ≡ true → (a && b) ≡ true
and_true a b x y = rw (x, y) refl

le_true : (a b : ℕ) → a ≤ b → nat_le a b ≡ true
le_true a b h = grind (arith, nat_tests)

lt_true : (a b : ℕ) → a < b → nat_lt a b ≡ true
lt_true a b h = grind (arith, nat_tests)

of_lt : (a b : ℕ) → nat_lt a b ≡ true → a < b
of_lt a b h = grind (arith, nat_tests)

of_le : (a b : ℕ) → nat_le a b ≡ true → a ≤ b
of_le a b h = grind (arith, nat_tests)

name-one : (byte : ℕ) → starts_name byte ≡ true → IsName (byte ∷ [])
name-one byte starts = rw starts refl

name-more : (name : List ℕ) (byte : ℕ) → IsName name → continues_name byte ≡ true → nat_lt (length name) 63 ≡ true → IsName (name ++ byte ∷ [])
name-more [] byte is joins room = absurd (false≢true is)
name-more (first ∷ rest) byte is joins room =
    let size = both (nat_le (length rest) 62) (starts_name first && list_all continues_name rest) is in
    let parts = both (starts_name first) (list_all continues_name rest) size.1 in
    and_true (nat_le (length (rest ++ byte ∷ [])) 62) (starts_name first && list_all continues_name (rest ++ byte ∷ []))
    (le_true (length (rest ++ byte ∷ [])) 62 (omega (arith, of_lt (suc (length rest)) 63 room, length-append rest (byte ∷ []))))
    (and_true (starts_name first) (list_all continues_name (rest ++ byte ∷ [])) parts.0 (all-one rest byte parts.1 joins))

-- behind some bytes of a name its reading goes on as it began
from_front : (name word rest : List ℕ) → list_all continues_name word ≡ true → length name + length word ≤ 63 → name_from name (word ++ rest) ≡ name_from (name ++ word) rest
from_front name [] rest all few = ap (λ n. name_from n rest) (sym (append-nil name))
from_front name (byte ∷ word) rest all few =
    let parts = both (continues_name byte) (list_all continues_name word) all in
    from_more name byte (word ++ rest) parts.0 (lt_true (length name) 63 (omega (arith, few)))
    ∙ from_front (name ++ byte ∷ []) word rest parts.1 (omega (arith, few, length-append name (byte ∷ [])))
    ∙ ap (λ n. name_from n rest) (append_assoc name (byte ∷ []) word)

at_first : (byte : ℕ) (bytes : List ℕ) → starts_name byte ≡ true → name_at (byte ∷ bytes) ≡ name_from (byte ∷ []) bytes
at_first byte bytes starts = at_true (starts_name byte) (name_from (byte ∷ []) bytes) (Err (suc (length bytes))) starts

at_other : (byte : ℕ) (bytes : List ℕ) → starts_name byte ≡ false → name_at (byte ∷ bytes) ≡ Err (suc (length bytes))
at_other byte bytes other = at_false (starts_name byte) (name_from (byte ∷ []) bytes) (Err (suc (length bytes))) other

name-from : (name rest : List ℕ) → IsName name → name_at (name ++ rest) ≡ name_from name rest
name-from [] rest is = absurd (false≢true is)
name-from (first ∷ word) rest is =
    let size = both (nat_le (length word) 62) (starts_name first && list_all continues_name word) is in
    let parts = both (starts_name first) (list_all continues_name word) size.1 in
    at_first first (word ++ rest) parts.0
    ∙ from_front (first ∷ []) word rest parts.1 (omega (arith, of_le (length word) 62 size.0))

-- ---- what is taken

pub record NameTakes (name bytes found rest : List ℕ) : Type 0 where
  pub fits : IsName found
  pub split : name ++ bytes ≡ found ++ rest
  pub ends : Ends continues_name rest

from_takes : (name bytes found rest : List ℕ) → IsName name → name_from name bytes ≡ Ok (found, rest) → NameTakes name bytes found rest
from_takes name [] found rest is e =
    let P : List ℕ × List ℕ → Type 0 = λ z. NameTakes name [] z.0 z.1 in
    let at : P (name, []) = record { fits = is; split = refl; ends = tt } in
    subst P (ok_is _ _ e) at
from_takes name (byte ∷ bytes) found rest is e =
    elim (cases (continues_name byte)) [
      | inl joins ↦
          elim (cases (nat_lt (length name) 63)) [
            | inl room ↦
                let t = from_takes (name ++ byte ∷ []) bytes found rest (name-more name byte is joins room) (sym (from_more name byte bytes joins room) ∙ e) in
                record { fits = t.fits; split = sym (append_assoc name (byte ∷ []) bytes) ∙ t.split; ends = t.ends }
            | inr full ↦ absurd (ok_no_err _ _ (sym e ∙ from_full name byte bytes joins full))
          ]
      | inr end ↦
          let P : List ℕ × List ℕ → Type 0 = λ z. NameTakes name (byte ∷ bytes) z.0 z.1 in
          let at : P (name, byte ∷ bytes) = record { fits = is; split = refl; ends = end } in
          subst P (ok_is _ _ (sym (from_end name byte bytes end) ∙ e)) at
    ]

-- where it stops: a byte stands behind a name of full length
pub record NameStops (name bytes : List ℕ) (left : ℕ) : Type 0 where
  pub found : List ℕ
  pub fits : IsName found
  pub byte : ℕ
  pub after : List ℕ
  pub split : name ++ bytes ≡ found ++ byte ∷ after
  pub left_is : left ≡ suc (length after)
  pub joins : continues_name byte ≡ true
  pub full : nat_lt (length found) 63 ≡ false

from_stops : (name bytes : List ℕ) (left : ℕ) → IsName name → name_from name bytes ≡ Err left → NameStops name bytes left
from_stops name [] left is e = absurd (ok_no_err _ _ e)
from_stops name (byte ∷ bytes) left is e =
    elim (cases (continues_name byte)) [
      | inl joins ↦
          elim (cases (nat_lt (length name) 63)) [
            | inl room ↦
                let s = from_stops (name ++ byte ∷ []) bytes left (name-more name byte is joins room) (sym (from_more name byte bytes joins room) ∙ e) in
                record {
                  found = s.found;
                  fits = s.fits;
                  byte = s.byte;
                  after = s.after;
                  split = sym (append_assoc name (byte ∷ []) bytes) ∙ s.split;
                  left_is = s.left_is;
                  joins = s.joins;
                  full = s.full;
                }
            | inr full ↦ record {
              found = name;
              fits = is;
              byte = byte;
              after = bytes;
              split = refl;
              left_is = sym (err_is _ _ (sym (from_full name byte bytes joins full) ∙ e));
              joins = joins;
              full = full;
            }
          ]
      | inr end ↦ absurd (ok_no_err _ _ (sym (from_end name byte bytes end) ∙ e))
    ]

abbrev pub the_name : List ℕ → List ℕ
the_name name = name

-- names are read exactly; a byte of a name could join
pub Exact-name : Exact IsName the_name continues_name name_at
Exact-name = record { takes = takes; again = again; stops = stops }
  where
    takes : (bytes name rest : List ℕ) → name_at bytes ≡ Ok (name, rest) → Takes IsName the_name continues_name bytes name rest
    takes [] name rest e = absurd (ok_no_err _ _ (sym e))
    takes (byte ∷ bytes) name rest e =
        elim (cases (starts_name byte)) [
          | inl starts ↦
              let t = from_takes (byte ∷ []) bytes name rest (name-one byte starts) (sym (at_first byte bytes starts) ∙ e) in
              record { fits = t.fits; split = t.split; ends = t.ends }
          | inr other ↦ absurd (ok_no_err _ _ (sym e ∙ at_other byte bytes other))
        ]

    again : (name rest : List ℕ) → IsName name → Ends continues_name rest → name_at (the_name name ++ rest) ≡ Ok (name, rest)
    again name rest is ends = name-from name rest is ∙ at_end name rest ends

    full_again : (name : List ℕ) (byte : ℕ) (after u : List ℕ) → IsName name → continues_name byte ≡ true → nat_lt (length name) 63 ≡ false → SameStart (byte ∷ after) u → name_at (name ++ u) ≡ Err (length u)
    full_again name byte after [] is joins full same = absurd same
    full_again name byte after (b ∷ u) is joins full same =
        name-from name (b ∷ u) is ∙ from_full name b u (ap continues_name (sym same) ∙ joins) full

    other_again : (byte : ℕ) (bytes u : List ℕ) → starts_name byte ≡ false → SameStart (byte ∷ bytes) u → name_at u ≡ Err (length u)
    other_again byte bytes [] other same = absurd same
    other_again byte bytes (b ∷ u) other same = at_other b u (ap starts_name (sym same) ∙ other)

    none_again : (u : List ℕ) → SameStart [] u → name_at u ≡ Err (length u)
    none_again [] same = refl
    none_again (b ∷ u) same = absurd same

    stops : (bytes : List ℕ) (left : ℕ) → name_at bytes ≡ Err left → Stops IsName the_name name_at bytes left
    stops [] left e = record {
      front = [];
      rest = [];
      split = refl;
      left_is = sym (err_is _ _ e);
      value = 95 ∷ [];
      fits = refl;
      more = 95 ∷ [];
      begins = refl;
      again = none_again;
    }
    stops (byte ∷ bytes) left e =
        elim (cases (starts_name byte)) [
          | inl starts ↦
              let s = from_stops (byte ∷ []) bytes left (name-one byte starts) (sym (at_first byte bytes starts) ∙ e) in
              record {
                front = s.found;
                rest = s.byte ∷ s.after;
                split = s.split;
                left_is = s.left_is;
                value = s.found;
                fits = s.fits;
                more = [];
                begins = sym (append-nil s.found);
                again = λ u same. full_again s.found s.byte s.after u s.fits s.joins s.full same;
              }
          | inr other ↦ record {
            front = [];
            rest = byte ∷ bytes;
            split = refl;
            left_is = sym (err_is _ _ (sym (at_other byte bytes other) ∙ e));
            value = 95 ∷ [];
            fits = refl;
            more = 95 ∷ [];
            begins = refl;
            again = λ u same. other_again byte bytes u other same;
          }
        ]
