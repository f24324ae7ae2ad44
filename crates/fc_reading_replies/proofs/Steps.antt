-- Runs, rows and the bytes of a row, one by one: what the loops of readers go by.
use Rattle.std.proofs.Common.{◌≡◌, ℕ, suc, ◌+◌, ◌-◌, ◌<◌, ◌≤◌, ◌==◌, true, false, List, [], ◌∷◌, ◌++◌, length, take, drop, get_or, Option, Some, None, Result, Ok, Err, refl, sym, ap, ◌∙◌}
use Rattle.std.proofs.lemmas.List.{append-nil, at_drop_all, take_more}
use Rattle.fc_base.specs.Runs.{EndsOtherwise}
use Rattle.fc_base.specs.declared.runs.Run.{Run}
use Rattle.fc_reading.specs.Readers.{◌>>=◌, one_of_at}
use Rattle.fc_reading_notes.specs.Lists.{behind_items, starts_with}
use Rattle.fc_reading_replies.specs.Begun.{begun_at}
use Rattle.fc_reading_replies.specs.Data.{is_other}
use Rattle.fc_reading_replies.specs.Refusals.{refusal_at, refusal_behind, refusal_words}
use Rattle.fc_reading_replies.specs.Rows.{and_rows, line_from, row_at, rows_at}
use Rattle.fc_reading.proofs.PieceLemmas.{drop-one}
use Rattle.fc_reading.proofs.Words.{at_false}
use Rattle.fc_reading_notes.proofs.Steps.{all_done, items_more, items_none, none_done, one_done}
use Rattle.fc_reading_replies.proofs.DataLemmas.{other_not}
use Rattle.fc_reading_replies.proofs.RowLemmas.{at_newline, at_other}

-- ---- runs that may stand behind others

-- every byte other than this one may stand behind these runs
abbrev pub HasBehind : List Run → Option ℕ → Type 0
HasBehind runs before = (byte : ℕ) → is_other before byte ≡ true → EndsOtherwise runs byte

pub behind-start : HasBehind [] None
behind-start byte other = tt

pub behind-next : (runs : List Run) (last : Run) → HasBehind (runs ++ last ∷ []) (Some last.byte)
behind-next [] last byte other = λ same. other_not byte last.byte other (sym same)
behind-next (first ∷ []) last byte other = λ same. other_not byte last.byte other (sym same)
behind-next (first ∷ second ∷ runs) last byte other = behind-next (second ∷ runs) last byte other

-- ---- rows

-- the row behind those before
pub rows-start : (count : ℕ) (bytes : List ℕ) → rows_at count bytes ≡ behind_items [] (rows_at (count - 0) bytes)
rows-start count bytes = ap (λ n. rows_at n bytes) (none_done count) ∙ items_none (rows_at (count - 0) bytes)

abbrev paired : List ℕ → Result (List (List ℕ) × List ℕ) ℕ → Result ((List ℕ × List (List ℕ)) × List ℕ) ℕ
paired row others = others >>= (λ y. Ok ((row, y.0), y.1))

abbrev one_list : Result ((List ℕ × List (List ℕ)) × List ℕ) ℕ → Result (List (List ℕ) × List ℕ) ℕ
one_list read = read >>= (λ x. Ok (and_rows x.0, x.1))

abbrev with_rows : ℕ → Result (List ℕ × List ℕ) ℕ → Result (List (List ℕ) × List ℕ) ℕ
with_rows count row = one_list (row >>= (λ x. paired x.0 (rows_at count x.1)))

after_row : (count : ℕ) (bytes rest row : List ℕ) → row_at bytes ≡ Ok (row, rest) → rows_at (suc count) bytes ≡ (rows_at count rest >>= (λ y. Ok (row ∷ y.0, y.1)))
after_row count bytes rest row e = ap (with_rows count) e ∙ renamed (rows_at count rest)
  where
    renamed : (others : Result (List (List ℕ) × List ℕ) ℕ) → one_list (paired row others) ≡ (others >>= (λ y. Ok (row ∷ y.0, y.1)))
    renamed (Ok y) = refl
    renamed (Err n) = refl

pub rows-more :
    (found : List (List ℕ)) (n counter : ℕ) (bytes rest row : List ℕ) → counter < n → row_at bytes ≡ Ok (row, rest) →
    behind_items found (rows_at (n - counter) bytes) ≡ behind_items (found ++ row ∷ []) (rows_at (n - (counter + 1)) rest)
rows-more found n counter bytes rest row inside e =
    ap (λ k. behind_items found (rows_at k bytes)) (one_done n counter inside)
    ∙ ap (behind_items found) (after_row (n - (counter + 1)) bytes rest row e)
    ∙ items_more found row (rows_at (n - (counter + 1)) rest)

pub rows-stop :
    (found : List (List ℕ)) (n counter : ℕ) (bytes : List ℕ) (left : ℕ) → counter < n → row_at bytes ≡ Err left →
    behind_items found (rows_at (n - counter) bytes) ≡ Err left
rows-stop found n counter bytes left inside e =
    ap (λ k. behind_items found (rows_at k bytes)) (one_done n counter inside)
    ∙ ap (λ r. behind_items found (with_rows (n - (counter + 1)) r)) e

pub rows-end : (found : List (List ℕ)) (n counter : ℕ) (bytes : List ℕ) → n ≤ counter → behind_items found (rows_at (n - counter) bytes) ≡ Ok (found, bytes)
rows-end found n counter bytes past =
    ap (λ k. behind_items found (rows_at k bytes)) (all_done n counter past) ∙ ap (λ rows. Ok (rows, bytes)) (append-nil found)

-- ---- a row, byte by byte

pub line-start : (bytes : List ℕ) → line_from bytes ≡ behind_items (take 0 bytes) (line_from (drop 0 bytes))
line-start bytes = items_none (line_from bytes)

pub line-more :
    (bytes : List ℕ) (place : ℕ) → place < length bytes → (get_or bytes place 0 == 10) ≡ false →
    behind_items (take place bytes) (line_from (drop place bytes)) ≡ behind_items (take (place + 1) bytes) (line_from (drop (place + 1) bytes))
line-more bytes place inside other =
    ap (λ b. behind_items (take place bytes) (line_from b)) (drop-one bytes place 0 inside)
    ∙ ap (behind_items (take place bytes)) (at_other (get_or bytes place 0) (drop (place + 1) bytes) other)
    ∙ items_more (take place bytes) (get_or bytes place 0) (line_from (drop (place + 1) bytes))
    ∙ ap (λ t. behind_items t (line_from (drop (place + 1) bytes))) (sym (take_more bytes place 0 inside))

pub line-found :
    (bytes : List ℕ) (place : ℕ) → place < length bytes → (get_or bytes place 0 == 10) ≡ true →
    behind_items (take place bytes) (line_from (drop place bytes)) ≡ Ok (take place bytes, drop (place + 1) bytes)
line-found bytes place inside newline =
    ap (λ b. behind_items (take place bytes) (line_from b)) (drop-one bytes place 0 inside)
    ∙ ap (behind_items (take place bytes)) (at_newline (get_or bytes place 0) (drop (place + 1) bytes) newline)
    ∙ ap (λ t. Ok (t, drop (place + 1) bytes)) (append-nil (take place bytes))

pub line-end : (bytes : List ℕ) (place : ℕ) → length bytes ≤ place → behind_items (take place bytes) (line_from (drop place bytes)) ≡ Err 0
line-end bytes place past = at_drop_all (λ b. behind_items (take place bytes) (line_from b)) bytes place past

-- a row is a line that no `+` begins
pub row-line : (bytes : List ℕ) (r : Result (List ℕ × List ℕ) ℕ) → starts_with 43 bytes ≡ false → line_from bytes ≡ r → row_at bytes ≡ r
row-line bytes r other e = at_false (starts_with 43 bytes) (Err (length bytes)) (line_from bytes) other ∙ e

-- ---- what stands behind words

begun_then :
    {V : Type 0} (words : List (List ℕ)) (behind : ℕ → List ℕ → Result (V × List ℕ) ℕ) (bytes rest : List ℕ) (word : ℕ) →
    one_of_at words bytes ≡ Ok (word, rest) → begun_at words behind bytes ≡ behind word rest
begun_then {V} words behind bytes rest word e = ap second e ∙ go (behind word rest)
  where
    numbered : ℕ → Result (V × List ℕ) ℕ → Result ((ℕ × V) × List ℕ) ℕ
    numbered n r = ◌>>=◌ {A = V × List ℕ} {B = (ℕ × V) × List ℕ} r (λ y. Ok ((n, y.0), y.1))

    alone : Result ((ℕ × V) × List ℕ) ℕ → Result (V × List ℕ) ℕ
    alone r = ◌>>=◌ {A = (ℕ × V) × List ℕ} {B = V × List ℕ} r (λ x. Ok (x.0.1, x.1))

    second : Result (ℕ × List ℕ) ℕ → Result (V × List ℕ) ℕ
    second r = alone (◌>>=◌ {A = ℕ × List ℕ} {B = (ℕ × V) × List ℕ} r (λ x. numbered x.0 (behind x.0 x.1)))

    go : (r : Result (V × List ℕ) ℕ) → alone (numbered word r) ≡ r
    go (Ok y) = refl
    go (Err n) = refl

begun_stop :
    {V : Type 0} (words : List (List ℕ)) (behind : ℕ → List ℕ → Result (V × List ℕ) ℕ) (bytes : List ℕ) (left : ℕ) →
    one_of_at words bytes ≡ Err left → begun_at words behind bytes ≡ Err left
begun_stop {V} words behind bytes left e = ap second e
  where
    second : Result (ℕ × List ℕ) ℕ → Result (V × List ℕ) ℕ
    second r =
        ◌>>=◌ {A = (ℕ × V) × List ℕ} {B = V × List ℕ}
        (◌>>=◌ {A = ℕ × List ℕ} {B = (ℕ × V) × List ℕ} r (λ x. ◌>>=◌ {A = V × List ℕ} {B = (ℕ × V) × List ℕ} (behind x.0 x.1) (λ y. Ok ((x.0, y.0), y.1))))
        (λ x. Ok (x.0.1, x.1))

pub refusal_then : (bytes rest : List ℕ) (word : ℕ) → one_of_at refusal_words bytes ≡ Ok (word, rest) → refusal_at bytes ≡ refusal_behind word rest
refusal_then bytes rest word e = begun_then refusal_words refusal_behind bytes rest word e

pub refusal_stop : (bytes : List ℕ) (left : ℕ) → one_of_at refusal_words bytes ≡ Err left → refusal_at bytes ≡ Err left
refusal_stop bytes left e = begun_stop refusal_words refusal_behind bytes left e
