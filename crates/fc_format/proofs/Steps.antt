-- What calls that read answer, step by step.
use Rattle.std.proofs.Common.{◌≡◌, ℕ, zero, suc, ◌+◌, ◌<◌, ◌≤◌, Bool, true, false, leb, eqb, List, [], ◌∷◌, ◌++◌, length, take, drop, Option, Some, None, Result, Err, refl, sym, ap, ◌∙◌, subst, arith, append_assoc, append-nil}
use Rattle.std.proofs.lemmas.Bool.Decides.{nat_tests}
use Rattle.byteorder.specs.Endian.{big_number}
use Rattle.fc_base.specs.Names.{is_name}
use Rattle.fc_format.specs.declared.cursor.ReadError.{ReadError}
use Rattle.fc_format.specs.declared.cursor.ReadError.TheVariants.{Damaged, NoMemory}
use Rattle.fc_format.specs.Bytes.{no_id}
use Rattle.fc_format.specs.Left.{Left, place, passed, first_byte, has_none}
use Rattle.fc_format.specs.Reading.{Reading, Got, Bad, Reader, and_then, IsRead, number, choice, name, items, all_items}
use Rattle.fc_format.specs.Fields.{optional, id_of}

-- ---- One after the other

-- a step that read goes on with what it read
pub goes : {A B : Type 0} {r : Reading A} {a : A} {left : Left} (next : A → Reader B) (answer : Result B ReadError) (after : Left)
    → r ≡ Got a left → IsRead (next a left) answer after → IsRead (and_then r next) answer after
goes next answer after e step = subst (λ z. IsRead (and_then z next) answer after) (sym e) step

-- a step that failed ends it all
pub stops : {A B : Type 0} (r : Reading A) (next : A → Reader B) (error : ReadError) (left after : Left)
    → IsRead r (Err error) left → IsRead (and_then r next) (Err error) after
stops r next (Damaged at) left after e = ap (λ z. and_then z next) e
stops r next NoMemory left after e = tt

-- where a part is damaged all is, and so it is where a part failed
pub fails_as : {A B : Type 0} (all : Reading B) (part : Reading A) (error : ReadError) (left after : Left) → ((at : ℕ) → part ≡ Bad at → all ≡ Bad at)
    → IsRead part (Err error) left → IsRead all (Err error) after
fails_as all part (Damaged at) left after same e = same at e
fails_as all part NoMemory left after same e = tt

-- what a part answers, where all is that part
pub answers_as : {B : Type 0} (all part : Reading B) (answer : Result B ReadError) (after : Left) → all ≡ part → IsRead part answer after → IsRead all answer after
answers_as all part answer after same e = subst (λ z. IsRead z answer after) (sym same) e

-- the field at hand isn't of the format
pub bad_there : {A : Type 0} (r : Reading A) (s after : Left) (error : ReadError) → error ≡ Damaged (place s) → r ≡ Bad (place s) → IsRead r (Err error) after
bad_there r s after error e bad = subst (λ (z : ReadError). IsRead r (Err z) after) (sym e) bad

-- ---- Numbers

module _ (k : ℕ) (s : Left) (bytes : List ℕ) (same : bytes ≡ s.bytes) where
  pub number_short : length bytes < k → number k s ≡ Bad (place s)
  unfolding number
  number_short short =
      let no : leb k (length s.bytes) ≡ false = let e = ap length same in grind (arith, nat_tests, e) in
      rw no refl

  pub number_there : (after : Left) (n : ℕ) → k ≤ length bytes → n ≡ big_number k bytes → after ≡ passed k s → number k s ≡ Got n after
  unfolding number
  number_there after n long is left =
      let yes : leb k (length s.bytes) ≡ true = let e = ap length same in grind (arith, nat_tests, e) in
      let value : n ≡ big_number k s.bytes = is ∙ ap (big_number k) same in
      rw (yes, value, left) refl

-- ---- Codes

module _ {A : Type 0} (meaning : ℕ → Option A) (s : Left) where
  pub choice_none : None ≡ first_byte s.bytes → choice meaning s ≡ Bad (place s)
  unfolding choice
  choice_none e = rw (sym e) refl

  pub choice_right : (code : ℕ) (a : A) (after : Left) → Some code ≡ first_byte s.bytes → Some a ≡ meaning code → after ≡ passed 1 s
      → choice meaning s ≡ Got a after
  unfolding choice
  choice_right code a after e m left = rw (sym e) (rw (sym m) (ap (Got a) (sym left)))

  pub choice_wrong : (code : ℕ) → Some code ≡ first_byte s.bytes → None ≡ meaning code → choice meaning s ≡ Bad (place s)
  unfolding choice
  choice_wrong code e m = rw (sym e) (rw (sym m) refl)

-- ---- Names

module _ (s : Left) where
  pub name_none : None ≡ first_byte s.bytes → name s ≡ Bad (place s)
  unfolding name
  name_none e = rw (sym e) refl

  module _ (rest : List ℕ) (n : ℕ) (e : Some n ≡ first_byte s.bytes) (same : rest ≡ drop 1 s.bytes) where
    pub name_short : length rest < n → name s ≡ Bad (place s)
    unfolding name
    name_short short =
        let no : leb n (length (drop 1 s.bytes)) ≡ false = let k = ap length same in grind (arith, nat_tests, k) in
        rw (sym e) (rw no refl)

    pub name_wrong : n ≤ length rest → is_name (take n rest) ≡ false → name s ≡ Bad (place s)
    unfolding name
    name_wrong long wrong =
        let yes : leb n (length (drop 1 s.bytes)) ≡ true = let k = ap length same in grind (arith, nat_tests, k) in
        let bad : is_name (take n (drop 1 s.bytes)) ≡ false = subst (λ z. is_name (take n z) ≡ false) same wrong in
        rw (sym e) (rw (yes, bad) refl)

    pub name_right : (text : List ℕ) (after : Left) → n ≤ length rest → is_name (take n rest) ≡ true → text ≡ take n rest
        → after ≡ passed (1 + n) s → name s ≡ Got text after
    unfolding name
    name_right text after long right is left =
        let yes : leb n (length (drop 1 s.bytes)) ≡ true = let k = ap length same in grind (arith, nat_tests, k) in
        let good : is_name (take n (drop 1 s.bytes)) ≡ true = subst (λ z. is_name (take n z) ≡ true) same right in
        let value : text ≡ take n (drop 1 s.bytes) = is ∙ ap (take n) same in
        rw (sym e) (rw (yes, good, value, left) refl)

-- what the making of a name answers
pub not_named : (b : Bool) → (false ≡ true → b ≡ true) × (b ≡ true → false ≡ true) → b ≡ false
not_named true h = sym (h.1 refl)
not_named false h = refl

-- ---- Ids that may be absent

pub optional_is : {A : Type 0} (id : Option ℕ → A) (s after : Left) (n : ℕ) (a : A) → number 4 s ≡ Got n after → a ≡ id (id_of n) → optional id s ≡ Got a after
unfolding optional
optional_is id s after n a e is = rw (e, is) refl

pub id_absent : (n : ℕ) → n ≡ no_id → id_of n ≡ None
id_absent n e = rw e refl

pub id_there : (n : ℕ) → (n ≡ no_id → ⊥) → id_of n ≡ Some n
id_there n apart = let h : eqb n no_id ≡ false = grind (arith, nat_tests) in rw h refl

-- ---- Lists

-- the items so far, and those that are still read
abbrev pub behind : {A : Type 0} → List A → Reading (List A) → Reading (List A)
behind so_far r = and_then r (λ xs s. Got (so_far ++ xs) s)

pub behind_none : {A : Type 0} (r : Reading (List A)) → r ≡ behind [] r
behind_none (Got xs s) = refl
behind_none (Bad at) = refl

pub items_begun : {A : Type 0} (reader : Reader A) (n : ℕ) (s : Left) → items reader n s ≡ behind [] (items reader n s)
items_begun reader n s = behind_none (items reader n s)

behind_one : {A : Type 0} (so_far : List A) (x : A) (r : Reading (List A))
    → behind so_far (and_then r (λ xs s. Got (x ∷ xs) s)) ≡ behind (so_far ++ x ∷ []) r
behind_one so_far x (Got xs s) = ap (λ z. Got z s) (sym (append_assoc so_far (x ∷ []) xs))
behind_one so_far x (Bad at) = refl

pub items_more : {A : Type 0} (reader : Reader A) (n k : ℕ) (start s after : Left) (so_far : List A) (x : A)
    → items reader n start ≡ behind so_far (items reader (suc k) s) → reader s ≡ Got x after → items reader n start ≡ behind (so_far ++ x ∷ []) (items reader k after)
unfolding items
items_more reader n k start s after so_far x e r =
    e ∙ (ap (λ z. behind so_far (and_then z (λ x s. and_then (items reader k s) (λ xs s. Got (x ∷ xs) s)))) r ∙ behind_one so_far x (items reader k after))

pub items_stopped : {A : Type 0} (reader : Reader A) (n k : ℕ) (start s after : Left) (so_far : List A) (error : ReadError)
    → items reader n start ≡ behind so_far (items reader (suc k) s) → IsRead (reader s) (Err error) after → IsRead (items reader n start) (Err error) after
unfolding items
items_stopped reader n k start s after so_far (Damaged at) e r =
    e ∙ ap (λ z. behind so_far (and_then z (λ x s. and_then (items reader k s) (λ xs s. Got (x ∷ xs) s)))) r
items_stopped reader n k start s after so_far NoMemory e r = tt

pub items_all : {A : Type 0} (reader : Reader A) (n : ℕ) (start s : Left) (so_far : List A)
    → items reader n start ≡ behind so_far (items reader 0 s) → items reader n start ≡ Got so_far s
unfolding items
items_all reader n start s so_far e = e ∙ ap (λ z. Got z s) (append-nil so_far)

-- ---- All that the bytes hold

pub none_first : (bytes : List ℕ) → None ≡ first_byte bytes → has_none bytes ≡ true
none_first [] e = refl
none_first (b ∷ bytes) e = cc

pub some_first : (bytes : List ℕ) (b : ℕ) → Some b ≡ first_byte bytes → has_none bytes ≡ false
some_first [] b e = cc
some_first (c ∷ bytes) b e = refl

ended : {A : Type 0} (reader : Reader A) (k : ℕ) (s : Left) → has_none s.bytes ≡ true → all_items reader k s ≡ Got [] s
unfolding all_items
ended reader zero s none = rw none refl
ended reader (suc k) s none = rw none refl

pub all_done : {A : Type 0} (reader : Reader A) (n k : ℕ) (start s : Left) (so_far : List A)
    → all_items reader n start ≡ behind so_far (all_items reader k s) → has_none s.bytes ≡ true → all_items reader n start ≡ Got so_far s
all_done reader n k start s so_far e none = e ∙ (ap (behind so_far) (ended reader k s none) ∙ ap (λ z. Got z s) (append-nil so_far))

pub all_left : {A : Type 0} (reader : Reader A) (n : ℕ) (start s : Left) (so_far : List A)
    → all_items reader n start ≡ behind so_far (all_items reader 0 s) → has_none s.bytes ≡ false → all_items reader n start ≡ Bad (place s)
unfolding all_items
all_left reader n start s so_far e some = e ∙ (rw some refl)

pub all_more : {A : Type 0} (reader : Reader A) (n k : ℕ) (start s after : Left) (so_far : List A) (x : A)
    → all_items reader n start ≡ behind so_far (all_items reader (suc k) s) → has_none s.bytes ≡ false → reader s ≡ Got x after
    → all_items reader n start ≡ behind (so_far ++ x ∷ []) (all_items reader k after)
unfolding all_items
all_more reader n k start s after so_far x e some r =
    e ∙ (rw (some, r) (behind_one so_far x (all_items reader k after)))

pub all_stopped : {A : Type 0} (reader : Reader A) (n k : ℕ) (start s after : Left) (so_far : List A) (error : ReadError)
    → all_items reader n start ≡ behind so_far (all_items reader (suc k) s) → has_none s.bytes ≡ false → IsRead (reader s) (Err error) after
    → IsRead (all_items reader n start) (Err error) after
unfolding all_items
all_stopped reader n k start s after so_far (Damaged at) e some r = e ∙ (rw (some, r) refl)
all_stopped reader n k start s after so_far NoMemory e some r = tt
