-- Lists, item by item: what the loops of readers go by.
use Rattle.std.proofs.Common.{◌≡◌, ℕ, zero, suc, ◌+◌, ◌-◌, ◌*◌, ◌<◌, ◌≤◌, Bool, true, false, ◌&&◌, ◌||◌, nat_le, List, [], ◌∷◌, ◌++◌, fold, length, Result, Ok, Err, refl, sym, ap, subst, ◌∙◌, append_assoc, arith}
use Rattle.std.proofs.lemmas.Bool.Decides.{nat_tests}
use Rattle.fc_base.specs.Ranges.{StandsBehind}
use Rattle.fc_base.specs.declared.ranges.Range.{Range}
use Rattle.fc_reading.specs.Readers.{◌>>=◌}
use Rattle.fc_reading_notes.specs.Answers.{StopsAs}
use Rattle.fc_reading_notes.specs.Between.{is_begun, reaches}
use Rattle.fc_reading_notes.specs.Lists.{and_more, behind_items, chain, chain_at, starts_with, while_at}
use Rattle.fc_reading_notes.specs.declared.stop.ReadStop.{ReadStop}
use Rattle.fc_reading_notes.specs.declared.stop.ReadStop.TheVariants.{Malformed, NoMemory}
use Rattle.fc_reading.specs.declared.pieces.Malformed.{Malformed as Bytes}
use Rattle.fc_reading.proofs.Exact.{bind_at_err, bind_at_ok}
use Rattle.fc_reading.proofs.Words.{at_false, at_true}

-- ---- items that say whether one more follows

pub items_none : {V : Type 0} (r : Result (List V × List ℕ) ℕ) → r ≡ behind_items [] r
items_none (Ok y) = refl
items_none (Err n) = refl

pub items_more : {V : Type 0} (found : List V) (v : V) (r : Result (List V × List ℕ) ℕ) → behind_items found (r >>= (λ y. Ok (v ∷ y.0, y.1))) ≡ behind_items (found ++ v ∷ []) r
items_more found v (Ok y) = ap (λ vs. Ok (vs, y.1)) (sym (append_assoc found (v ∷ []) y.0))
items_more found v (Err n) = refl

pub none_done : (n : ℕ) → n ≡ n - 0
none_done n = omega arith

pub one_done : (n counter : ℕ) → counter < n → n - counter ≡ suc (n - (counter + 1))
one_done n counter inside = omega (arith, inside)

pub all_done : (n counter : ℕ) → n ≤ counter → n - counter ≡ 0
all_done n counter past = omega (arith, past)

pub chain-start :
    {S V : Type 0} (item : S → List ℕ → Result ((V × Bool) × List ℕ) ℕ) (next : S → V → S) (s : S) (bytes : List ℕ) →
    chain item next s bytes ≡ behind_items [] (chain_at item next (length bytes - 0) s bytes)
chain-start item next s bytes =
    ap (λ n. chain_at item next n s bytes) (none_done (length bytes)) ∙ items_none (chain_at item next (length bytes - 0) s bytes)

chain-more :
    {S V : Type 0} (item : S → List ℕ → Result ((V × Bool) × List ℕ) ℕ) (next : S → V → S) (found : List V) (n counter : ℕ) (s : S) (bytes rest : List ℕ) (v : V) (more : Bool) →
    counter < n → item s bytes ≡ Ok ((v, more), rest) → more ≡ true →
    behind_items found (chain_at item next (n - counter) s bytes) ≡ behind_items (found ++ v ∷ []) (chain_at item next (n - (counter + 1)) (next s v) rest)
chain-more item next found n counter s bytes rest v more inside e goes =
    ap (λ k. behind_items found (chain_at item next k s bytes)) (one_done n counter inside)
    ∙ ap (behind_items found)
    (
    bind_at_ok (item s bytes) (λ x. and_more x.0.0 x.0.1 (chain_at item next (n - (counter + 1)) (next s x.0.0)) x.1) ((v, more), rest) e
    ∙ ap (λ m. and_more v m (chain_at item next (n - (counter + 1)) (next s v)) rest) goes
    )
    ∙ items_more found v (chain_at item next (n - (counter + 1)) (next s v) rest)

chain-last :
    {S V : Type 0} (item : S → List ℕ → Result ((V × Bool) × List ℕ) ℕ) (next : S → V → S) (found : List V) (n counter : ℕ) (s : S) (bytes rest : List ℕ) (v : V) (more : Bool) →
    counter < n → item s bytes ≡ Ok ((v, more), rest) → more ≡ false →
    behind_items found (chain_at item next (n - counter) s bytes) ≡ Ok (found ++ v ∷ [], rest)
chain-last item next found n counter s bytes rest v more inside e ends =
    ap (λ k. behind_items found (chain_at item next k s bytes)) (one_done n counter inside)
    ∙ ap (behind_items found)
    (
    bind_at_ok (item s bytes) (λ x. and_more x.0.0 x.0.1 (chain_at item next (n - (counter + 1)) (next s x.0.0)) x.1) ((v, more), rest) e
    ∙ ap (λ m. and_more v m (chain_at item next (n - (counter + 1)) (next s v)) rest) ends
    )

-- one item more, put behind those that were found: one more follows, or it is the last
pub chain-next :
    {S V : Type 0} (item : S → List ℕ → Result ((V × Bool) × List ℕ) ℕ) (next : S → V → S) (all : Result (List V × List ℕ) ℕ) (found new : List V) (n counter : ℕ) (s : S) (bytes rest : List ℕ) (v : V) (more : Bool) →
    all ≡ behind_items found (chain_at item next (n - counter) s bytes) → counter < n → item s bytes ≡ Ok ((v, more), rest) → new ≡ found ++ v ∷ [] → more ≡ true →
    all ≡ behind_items new (chain_at item next (n - (counter + 1)) (next s v) rest)
chain-next item next all found new n counter s bytes rest v more before inside e put goes =
    before ∙ chain-more item next found n counter s bytes rest v more inside e goes
    ∙ ap (λ vs. behind_items vs (chain_at item next (n - (counter + 1)) (next s v) rest)) (sym put)

pub chain-end :
    {S V : Type 0} (item : S → List ℕ → Result ((V × Bool) × List ℕ) ℕ) (next : S → V → S) (all : Result (List V × List ℕ) ℕ) (found new : List V) (n counter : ℕ) (s : S) (bytes rest : List ℕ) (v : V) (more : Bool) →
    all ≡ behind_items found (chain_at item next (n - counter) s bytes) → counter < n → item s bytes ≡ Ok ((v, more), rest) → new ≡ found ++ v ∷ [] → more ≡ false →
    all ≡ Ok (new, rest)
chain-end item next all found new n counter s bytes rest v more before inside e put ends =
    before ∙ chain-last item next found n counter s bytes rest v more inside e ends ∙ ap (λ vs. Ok (vs, rest)) (sym put)

-- or none can be read
pub chain-stop :
    {S V : Type 0} (item : S → List ℕ → Result ((V × Bool) × List ℕ) ℕ) (next : S → V → S) (all : Result (List V × List ℕ) ℕ) (found : List V) (n counter : ℕ) (s : S) (bytes : List ℕ) (left : ℕ) →
    all ≡ behind_items found (chain_at item next (n - counter) s bytes) → counter < n → item s bytes ≡ Err left →
    all ≡ Err left
chain-stop item next all found n counter s bytes left before inside e =
    before ∙ ap (λ k. behind_items found (chain_at item next k s bytes)) (one_done n counter inside)
    ∙ ap (behind_items found) (bind_at_err (item s bytes) (λ x. and_more x.0.0 x.0.1 (chain_at item next (n - (counter + 1)) (next s x.0.0)) x.1) left e)

pub chain-full :
    {S V : Type 0} (item : S → List ℕ → Result ((V × Bool) × List ℕ) ℕ) (next : S → V → S) (found : List V) (n counter : ℕ) (s : S) (bytes : List ℕ) →
    n ≤ counter → behind_items found (chain_at item next (n - counter) s bytes) ≡ Err (length bytes)
chain-full item next found n counter s bytes past = ap (λ k. behind_items found (chain_at item next k s bytes)) (all_done n counter past)

-- ---- items as long as a byte comes first, put together one by one

abbrev pub gathered : {V N : Type 0} → (N → V → N) → N → Result (List V × List ℕ) ℕ → Result (N × List ℕ) ℕ
gathered put all read = read >>= (λ x. Ok (fold put all x.0, x.1))

gather_more : {V N : Type 0} (put : N → V → N) (all : N) (v : V) (r : Result (List V × List ℕ) ℕ) → gathered put all (r >>= (λ y. Ok (v ∷ y.0, y.1))) ≡ gathered put (put all v) r
gather_more put all v (Ok y) = refl
gather_more put all v (Err n) = refl

pub while-start :
    {S V N : Type 0} (first : ℕ) (item : S → List ℕ → Result (V × List ℕ) ℕ) (next : S → V → S) (put : N → V → N) (all : N) (s : S) (bytes : List ℕ) →
    gathered put all (while_at first item next (length bytes) s bytes) ≡ gathered put all (while_at first item next (length bytes - 0) s bytes)
while-start first item next put all s bytes = ap (λ n. gathered put all (while_at first item next n s bytes)) (none_done (length bytes))

pub while-more :
    {S V N : Type 0} (first : ℕ) (item : S → List ℕ → Result (V × List ℕ) ℕ) (next : S → V → S) (put : N → V → N) (all : N) (n counter : ℕ) (s : S) (bytes rest : List ℕ) (v : V) →
    counter < n → starts_with first bytes ≡ true → item s bytes ≡ Ok (v, rest) →
    gathered put all (while_at first item next (n - counter) s bytes) ≡ gathered put (put all v) (while_at first item next (n - (counter + 1)) (next s v) rest)
while-more first item next put all n counter s bytes rest v inside on e =
    ap (λ k. gathered put all (while_at first item next k s bytes)) (one_done n counter inside)
    ∙ ap (gathered put all)
    (
    at_true (starts_with first bytes) (item s bytes >>= (λ x. and_more x.0 true (while_at first item next (n - (counter + 1)) (next s x.0)) x.1)) (Ok ([], bytes)) on
    ∙ bind_at_ok (item s bytes) (λ x. and_more x.0 true (while_at first item next (n - (counter + 1)) (next s x.0)) x.1) (v, rest) e
    )
    ∙ gather_more put all v (while_at first item next (n - (counter + 1)) (next s v) rest)

pub while-stop :
    {S V N : Type 0} (first : ℕ) (item : S → List ℕ → Result (V × List ℕ) ℕ) (next : S → V → S) (put : N → V → N) (all : N) (n counter : ℕ) (s : S) (bytes : List ℕ) (left : ℕ) →
    counter < n → starts_with first bytes ≡ true → item s bytes ≡ Err left →
    gathered put all (while_at first item next (n - counter) s bytes) ≡ Err left
while-stop first item next put all n counter s bytes left inside on e =
    ap (λ k. gathered put all (while_at first item next k s bytes)) (one_done n counter inside)
    ∙ ap (gathered put all)
    (
    at_true (starts_with first bytes) (item s bytes >>= (λ x. and_more x.0 true (while_at first item next (n - (counter + 1)) (next s x.0)) x.1)) (Ok ([], bytes)) on
    ∙ bind_at_err (item s bytes) (λ x. and_more x.0 true (while_at first item next (n - (counter + 1)) (next s x.0)) x.1) left e
    )

pub while-end :
    {S V N : Type 0} (first : ℕ) (item : S → List ℕ → Result (V × List ℕ) ℕ) (next : S → V → S) (put : N → V → N) (all : N) (left : ℕ) (s : S) (bytes : List ℕ) →
    starts_with first bytes ≡ false → gathered put all (while_at first item next left s bytes) ≡ Ok (all, bytes)
while-end first item next put all zero s bytes off = ap (gathered put all) (at_false (starts_with first bytes) (Err (length bytes)) (Ok ([], bytes)) off)
while-end first item next put all (suc left) s bytes off =
    ap (gathered put all) (at_false (starts_with first bytes) (item s bytes >>= (λ x. and_more x.0 true (while_at first item next left (next s x.0)) x.1)) (Ok ([], bytes)) off)

pub while-full :
    {S V N : Type 0} (first : ℕ) (item : S → List ℕ → Result (V × List ℕ) ℕ) (next : S → V → S) (put : N → V → N) (all : N) (n counter : ℕ) (s : S) (bytes : List ℕ) →
    n ≤ counter → starts_with first bytes ≡ true → gathered put all (while_at first item next (n - counter) s bytes) ≡ Err (length bytes)
while-full first item next put all n counter s bytes past on =
    ap (λ k. gathered put all (while_at first item next k s bytes)) (all_done n counter past)
    ∙ ap (gathered put all) (at_true (starts_with first bytes) (Err (length bytes)) (Ok ([], bytes)) on)

-- ---- ranges that may stand behind others

-- every range from this grain on stands behind these
abbrev pub HasBehind : List Range → ℕ → Type 0
HasBehind ranges least = (range : Range) → least ≤ range.first → range.first ≤ range.last → StandsBehind ranges range

pub behind-start : HasBehind [] 0
behind-start range low order = order

pub behind-next : (ranges : List Range) (last : Range) → HasBehind (ranges ++ last ∷ []) (last.last + 2)
behind-next [] last range low order = (omega (arith, low), order)
behind-next (before ∷ []) last range low order = (omega (arith, low), order)
behind-next (before ∷ next ∷ ranges) last range low order = behind-next (next ∷ ranges) last range low order

-- ---- whether a number begins with some digits

pub begun-start : (least most value : ℕ) → is_begun least most value ≡ reaches (most + 1 - 0) least most value value
begun-start least most value = ap (λ n. reaches n least most value value) one
  where
    one : suc most ≡ most + 1 - 0
    one = omega arith

le_true : (a b : ℕ) → a ≤ b → nat_le a b ≡ true
le_true a b h = grind (arith, nat_tests)

le_false : (a b : ℕ) → b < a → nat_le a b ≡ false
le_false a b h = grind (arith, nat_tests)

-- a step, by its two tests
step_of : (digits least most low high : ℕ) (r : Bool) → (nat_le low most && (nat_le least high || reaches digits least most (low * 10) (high * 10 + 9))) ≡ r → reaches (suc digits) least most low high ≡ r
unfolding reaches
step_of digits least most low high r e = e

pub begun-next :
    (least most low high counter : ℕ) → counter < most + 1 → low ≤ most → high < least →
    reaches (most + 1 - counter) least most low high ≡ reaches (most + 1 - (counter + 1)) least most (low * 10) (high * 10 + 9)
begun-next least most low high counter inside below short =
    ap (λ n. reaches n least most low high) (one_done (most + 1) counter inside)
    ∙ step_of (most + 1 - (counter + 1)) least most low high (reaches (most + 1 - (counter + 1)) least most (low * 10) (high * 10 + 9))
    (tests (nat_le low most) (nat_le least high) (reaches (most + 1 - (counter + 1)) least most (low * 10) (high * 10 + 9)) (le_true low most below) (le_false least high short))
  where
    tests : (a b r : Bool) → a ≡ true → b ≡ false → (a && (b || r)) ≡ r
    tests a b r x y = rw (x, y) refl

pub begun-here : (least most low high counter : ℕ) → counter < most + 1 → low ≤ most → least ≤ high → reaches (most + 1 - counter) least most low high ≡ true
begun-here least most low high counter inside below reached =
    ap (λ n. reaches n least most low high) (one_done (most + 1) counter inside)
    ∙ step_of (most + 1 - (counter + 1)) least most low high true
    (tests (nat_le low most) (nat_le least high) (reaches (most + 1 - (counter + 1)) least most (low * 10) (high * 10 + 9)) (le_true low most below) (le_true least high reached))
  where
    tests : (a b r : Bool) → a ≡ true → b ≡ true → (a && (b || r)) ≡ true
    tests a b r x y = rw (x, y) refl

pub begun-past : (least most low high counter : ℕ) → counter < most + 1 → most < low → reaches (most + 1 - counter) least most low high ≡ false
begun-past least most low high counter inside past =
    ap (λ n. reaches n least most low high) (one_done (most + 1) counter inside)
    ∙ step_of (most + 1 - (counter + 1)) least most low high false
    (tests (nat_le low most) (nat_le least high || reaches (most + 1 - (counter + 1)) least most (low * 10) (high * 10 + 9)) (le_false low most past))
  where
    tests : (a r : Bool) → a ≡ false → (a && r) ≡ false
    tests a r x = rw x refl

reach_zero : (least most low high : ℕ) → reaches zero least most low high ≡ false
unfolding reaches
reach_zero least most low high = refl

pub begun-end : (least most low high counter : ℕ) → most + 1 ≤ counter → reaches (most + 1 - counter) least most low high ≡ false
begun-end least most low high counter past =
    ap (λ n. reaches n least most low high) (all_done (most + 1) counter past) ∙ reach_zero least most low high

-- ---- why a reader that takes memory stops

-- where one stops, another does
pub stop_through : {Y W : Type 0} (read : Result Y ℕ) (behind : Result W ℕ) (stop : ReadStop) → ((n : ℕ) → read ≡ Err n → behind ≡ Err n) → StopsAs stop read → StopsAs stop behind
stop_through read behind (Malformed at) through reads = through at.left reads
stop_through read behind NoMemory through reads = tt

-- it stops at such bytes
pub stop_malformed : {Y : Type 0} (read : Result Y ℕ) (stop : ReadStop) (at : Bytes) → stop ≡ Malformed at → StopsAs stop read → read ≡ Err at.left
stop_malformed {Y} read stop at is stops = subst (λ (s : ReadStop). StopsAs s read) is stops
