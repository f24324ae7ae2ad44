-- Which slots are in a list: of old slots, of what a slot or a write asks for.
use Rattle.std.proofs.Common.{◌≡◌, ◌≢◌, ℕ, zero, suc, ◌<◌, Bool, true, false, not, eqb, ltb, Option, Some, None, List, [], ◌∷◌, ◌++◌, filter, filter_map, option_to_list, refl, sym, ap, ◌∙◌, arith, ◌⊎◌, inl, inr}
use Rattle.std.proofs.lemmas.Bool.{cases_Bool, both_ways, cases_eq, and_parts, and_from, or_cases, or_left, or_right, eqb-true, eq-eqb, not-true, not_from_false}
use Rattle.fc_base.specs.Column.{Shape, Column, holder, first_reader, needer, is_old_of, put_by_birth, places_by_birth, old_slots, old_holders}
use Rattle.fc_base.specs.Moves.{is_in, is_old_answer, is_in_place, asks, write_asks, next_behind}
use Rattle.fc_moves.proofs.Search.{cases_option}
use Rattle.fc_moves.proofs.Readers.{IsHolder, holder_is, is_holder}

-- ---- membership

pub in_cases : (k x : ℕ) (xs : List ℕ) → is_in k (x ∷ xs) ≡ true → (k ≡ x) ⊎ (is_in k xs ≡ true)
in_cases k x xs e = elim (or_cases (eqb k x) (is_in k xs) e) [ inl p ↦ inl (eqb-true k x p) | inr q ↦ inr q ]

pub in_head : (k x : ℕ) (xs : List ℕ) → k ≡ x → is_in k (x ∷ xs) ≡ true
in_head k x xs e = or_left (eqb k x) (is_in k xs) (eq-eqb k x e)

pub in_tail : (k x : ℕ) (xs : List ℕ) → is_in k xs ≡ true → is_in k (x ∷ xs) ≡ true
in_tail k x xs e = or_right (eqb k x) (is_in k xs) e

pub not_in_parts : (k x : ℕ) (xs : List ℕ) → is_in k (x ∷ xs) ≡ false → (k ≢ x) × (is_in k xs ≡ false)
not_in_parts k x xs e =
    (λ q. both_ways _ e (in_head k x xs q), elim (cases_Bool (is_in k xs)) [ inl t ↦ absurd (both_ways _ e (in_tail k x xs t)) | inr f ↦ f ])

pub not_in_nil : (k : ℕ) → is_in k [] ≡ true → ⊥
not_in_nil k e = cc

pub in_append_cases : (k : ℕ) (xs ys : List ℕ) → is_in k (xs ++ ys) ≡ true → (is_in k xs ≡ true) ⊎ (is_in k ys ≡ true)
in_append_cases k [] ys e = inr e
in_append_cases k (x ∷ xs) ys e =
    elim (in_cases k x (xs ++ ys) e) [
      | inl p ↦ inl (in_head k x xs p)
      | inr q ↦ elim (in_append_cases k xs ys q) [ inl l ↦ inl (in_tail k x xs l) | inr r ↦ inr r ]
    ]

pub in_append_left : (k : ℕ) (xs ys : List ℕ) → is_in k xs ≡ true → is_in k (xs ++ ys) ≡ true
in_append_left k [] ys e = absurd (not_in_nil k e)
in_append_left k (x ∷ xs) ys e =
    elim (in_cases k x xs e) [ inl p ↦ in_head k x (xs ++ ys) p | inr q ↦ in_tail k x (xs ++ ys) (in_append_left k xs ys q) ]

pub in_append_right : (k : ℕ) (xs ys : List ℕ) → is_in k ys ≡ true → is_in k (xs ++ ys) ≡ true
in_append_right k [] ys e = e
in_append_right k (x ∷ xs) ys e = in_tail k x (xs ++ ys) (in_append_right k xs ys e)

pub in_filter_parts : (k : ℕ) (test : ℕ → Bool) (xs : List ℕ) → is_in k (filter test xs) ≡ true → (is_in k xs ≡ true) × (test k ≡ true)
in_filter_parts k test [] e = absurd (not_in_nil k e)
in_filter_parts k test (x ∷ xs) e =
    elim (cases_Bool (test x)) [
      | inl t ↦ let s : filter test (x ∷ xs) ≡ x ∷ filter test xs = rw t refl in
          let e' : is_in k (x ∷ filter test xs) ≡ true = ap (is_in k) (sym s) ∙ e in
          elim (in_cases k x (filter test xs) e') [
            | inl p ↦ (in_head k x xs p, ap test p ∙ t)
            | inr q ↦ let r = in_filter_parts k test xs q in (in_tail k x xs r.0, r.1)
          ]
      | inr f ↦ let s : filter test (x ∷ xs) ≡ filter test xs = rw f refl in
          let r = in_filter_parts k test xs (ap (is_in k) (sym s) ∙ e) in (in_tail k x xs r.0, r.1)
    ]

pub in_filter : (k : ℕ) (test : ℕ → Bool) (xs : List ℕ) → is_in k xs ≡ true → test k ≡ true → is_in k (filter test xs) ≡ true
in_filter k test [] e t = absurd (not_in_nil k e)
in_filter k test (x ∷ xs) e t =
    elim (in_cases k x xs e) [
      | inl p ↦ let s : filter test (x ∷ xs) ≡ x ∷ filter test xs = rw (ap test (sym p) ∙ t) refl in
          ap (is_in k) s ∙ in_head k x (filter test xs) p
      | inr q ↦ let r = in_filter k test xs q t in
          elim (cases_Bool (test x)) [
            | inl y ↦ let s : filter test (x ∷ xs) ≡ x ∷ filter test xs = rw y refl in ap (is_in k) s ∙ in_tail k x (filter test xs) r
            | inr f ↦ let s : filter test (x ∷ xs) ≡ filter test xs = rw f refl in ap (is_in k) s ∙ r
          ]
    ]

pub in_filter_map_parts : (k : ℕ) (f : ℕ → Option ℕ) (xs : List ℕ) → is_in k (filter_map f xs) ≡ true → (o : ℕ) × (is_in o xs ≡ true) × (f o ≡ Some k)
in_filter_map_parts k f [] e = absurd (not_in_nil k e)
in_filter_map_parts k f (x ∷ xs) e =
    elim (cases_option (f x)) [
      | inl no' ↦ let s : filter_map f (x ∷ xs) ≡ filter_map f xs = rw no' refl in
          let r = in_filter_map_parts k f xs (ap (is_in k) (sym s) ∙ e) in (r.0, in_tail r.0 x xs r.1, r.2)
      | inr y ↦ let s : filter_map f (x ∷ xs) ≡ y.0 ∷ filter_map f xs = rw y.1 refl in
          let e' : is_in k (y.0 ∷ filter_map f xs) ≡ true = ap (is_in k) (sym s) ∙ e in
          elim (in_cases k y.0 (filter_map f xs) e') [
            | inl p ↦ (x, in_head x x xs refl, y.1 ∙ ap Some (sym p))
            | inr q ↦ let r = in_filter_map_parts k f xs q in (r.0, in_tail r.0 x xs r.1, r.2)
          ]
    ]

pub in_filter_map : (k o : ℕ) (f : ℕ → Option ℕ) (xs : List ℕ) → is_in o xs ≡ true → f o ≡ Some k → is_in k (filter_map f xs) ≡ true
in_filter_map k o f [] e g = absurd (not_in_nil o e)
in_filter_map k o f (x ∷ xs) e g =
    elim (in_cases o x xs e) [
      | inl p ↦ let s : filter_map f (x ∷ xs) ≡ k ∷ filter_map f xs = rw (ap f (sym p) ∙ g) refl in
          ap (is_in k) s ∙ in_head k k (filter_map f xs) refl
      | inr q ↦ let r = in_filter_map k o f xs q g in
          elim (cases_option (f x)) [
            | inl no' ↦ let s : filter_map f (x ∷ xs) ≡ filter_map f xs = rw no' refl in ap (is_in k) s ∙ r
            | inr y ↦ let s : filter_map f (x ∷ xs) ≡ y.0 ∷ filter_map f xs = rw y.1 refl in
                ap (is_in k) s ∙ in_tail k y.0 (filter_map f xs) r
          ]
    ]

-- ---- the old slots of a volume

in_put_cases : (o : ℕ) (birth : ℕ → ℕ) (k : ℕ) (js : List ℕ) → is_in o (put_by_birth birth k js) ≡ true → (o ≡ k) ⊎ (is_in o js ≡ true)
in_put_cases o birth k [] e = in_cases o k [] e
in_put_cases o birth k (j ∷ js) e =
    elim (cases_Bool (ltb (birth k) (birth j))) [
      | inl t ↦ let s : put_by_birth birth k (j ∷ js) ≡ k ∷ j ∷ js = rw t refl in in_cases o k (j ∷ js) (ap (is_in o) (sym s) ∙ e)
      | inr f ↦ let s : put_by_birth birth k (j ∷ js) ≡ j ∷ put_by_birth birth k js = rw f refl in
          elim (in_cases o j (put_by_birth birth k js) (ap (is_in o) (sym s) ∙ e)) [
            | inl p ↦ inr (in_head o j js p)
            | inr q ↦ elim (in_put_cases o birth k js q) [ inl l ↦ inl l | inr r ↦ inr (in_tail o j js r) ]
          ]
    ]

in_put : (o : ℕ) (birth : ℕ → ℕ) (k : ℕ) (js : List ℕ) → (o ≡ k) ⊎ (is_in o js ≡ true) → is_in o (put_by_birth birth k js) ≡ true
in_put o birth k [] e = elim e [ inl p ↦ in_head o k [] p | inr q ↦ absurd (not_in_nil o q) ]
in_put o birth k (j ∷ js) e =
    elim (cases_Bool (ltb (birth k) (birth j))) [
      | inl t ↦ let s : put_by_birth birth k (j ∷ js) ≡ k ∷ j ∷ js = rw t refl in
          ap (is_in o) s ∙ elim e [ inl p ↦ in_head o k (j ∷ js) p | inr q ↦ in_tail o k (j ∷ js) q ]
      | inr f ↦ let s : put_by_birth birth k (j ∷ js) ≡ j ∷ put_by_birth birth k js = rw f refl in
          ap (is_in o) s ∙ elim e [
            | inl p ↦ in_tail o j (put_by_birth birth k js) (in_put o birth k js (inl p))
            | inr q ↦ elim (in_cases o j js q) [
              | inl l ↦ in_head o j (put_by_birth birth k js) l
              | inr r ↦ in_tail o j (put_by_birth birth k js) (in_put o birth k js (inr r))
            ]
          ]
    ]

places_step_true : (birth : ℕ → ℕ) (test : ℕ → Bool) (n : ℕ) → test n ≡ true → places_by_birth birth test (suc n) ≡ put_by_birth birth n (places_by_birth birth test n)
unfolding places_by_birth
places_step_true birth test n t = rw t refl

places_step_false : (birth : ℕ → ℕ) (test : ℕ → Bool) (n : ℕ) → test n ≡ false → places_by_birth birth test (suc n) ≡ places_by_birth birth test n
unfolding places_by_birth
places_step_false birth test n t = rw t refl

places_zero : (birth : ℕ → ℕ) (test : ℕ → Bool) → places_by_birth birth test zero ≡ []
unfolding places_by_birth
places_zero birth test = refl

in_places_parts : (o : ℕ) (birth : ℕ → ℕ) (test : ℕ → Bool) (n : ℕ) → is_in o (places_by_birth birth test n) ≡ true → (o < n) × (test o ≡ true)
in_places_parts o birth test zero e = absurd (not_in_nil o (ap (is_in o) (sym (places_zero birth test)) ∙ e))
in_places_parts o birth test (suc n) e =
    elim (cases_Bool (test n)) [
      | inl t ↦ elim (in_put_cases o birth n (places_by_birth birth test n) (ap (is_in o) (sym (places_step_true birth test n t)) ∙ e)) [
        | inl p ↦ (omega arith, ap test p ∙ t)
        | inr q ↦ let r = in_places_parts o birth test n q in (omega (arith, r.0), r.1)
      ]
      | inr f ↦ let r = in_places_parts o birth test n (ap (is_in o) (sym (places_step_false birth test n f)) ∙ e) in (omega (arith, r.0), r.1)
    ]

in_places : (o : ℕ) (birth : ℕ → ℕ) (test : ℕ → Bool) (n : ℕ) → o < n → test o ≡ true → is_in o (places_by_birth birth test n) ≡ true
in_places o birth test zero lt y = absurd (omega arith)
in_places o birth test (suc n) lt y =
    elim (cases_Bool (test n)) [
      | inl t ↦ ap (is_in o) (places_step_true birth test n t) ∙ in_put o birth n (places_by_birth birth test n)
          (elim (cases_eq o n) [ inl p ↦ inl p | inr ne ↦ inr (in_places o birth test n (omega arith) y) ])
      | inr f ↦ ap (is_in o) (places_step_false birth test n f) ∙
          (elim (cases_eq o n) [ inl p ↦ absurd (both_ways (test o) (ap test p ∙ f) y) | inr ne ↦ in_places o birth test n (omega arith) y ])
    ]

-- an old slot of the volume
pub record IsOld (s : Shape) (v o : ℕ) : Type 0 where
  pub there : o < s.count
  pub is_old : s.is_live o ≡ false
  pub of_volume : s.volume o ≡ v

pub old_of_parts : (s : Shape) (v o : ℕ) → is_old_of s v o ≡ true → (s.is_live o ≡ false) × (s.volume o ≡ v)
old_of_parts s v o e = let p = and_parts (not (s.is_live o)) _ e in (not-true _ p.0, eqb-true _ _ p.1)

pub old_of_from : (s : Shape) (v o : ℕ) → s.is_live o ≡ false → s.volume o ≡ v → is_old_of s v o ≡ true
old_of_from s v o l e = and_from _ _ (not_from_false _ l) (eq-eqb _ _ e)

pub in_old_parts : (s : Shape) (v o : ℕ) → is_in o (old_slots s v) ≡ true → IsOld s v o
unfolding old_slots
in_old_parts s v o e =
    let p = in_places_parts o s.birth (is_old_of s v) s.count e in
    let q = old_of_parts s v o p.1 in
    record { there = p.0; is_old = q.0; of_volume = q.1 }

pub in_old : (s : Shape) (v o : ℕ) → IsOld s v o → is_in o (old_slots s v) ≡ true
unfolding old_slots
in_old s v o i = in_places o s.birth (is_old_of s v) s.count i.there (old_of_from s v o i.is_old i.of_volume)

-- ---- in place

pub in_place_parts : (c : Column) (m : ℕ) → is_in_place c m ≡ true → (h : ℕ) × IsHolder c m h × (c.is_live h ≡ false) × (c.volume h ≡ c.volume m)
unfolding is_in_place
in_place_parts c m e =
    elim (cases_option (holder c m)) [
      | inl no' ↦ let f : is_old_answer c.shape (c.volume m) (holder c m) ≡ false = rw no' refl in absurd (both_ways _ f e)
      | inr y ↦ let f : is_old_answer c.shape (c.volume m) (holder c m) ≡ is_old_of c.shape (c.volume m) y.0 = rw y.1 refl in
          let p = old_of_parts c.shape (c.volume m) y.0 (sym f ∙ e) in
          (y.0, holder_is c m y.0 y.1, p.0, p.1)
    ]

pub in_place_from : (c : Column) (m h : ℕ) → IsHolder c m h → c.is_live h ≡ false → c.volume h ≡ c.volume m → is_in_place c m ≡ true
unfolding is_in_place
in_place_from c m h i l v =
    let f : is_old_answer c.shape (c.volume m) (holder c m) ≡ is_old_of c.shape (c.volume m) h = rw (is_holder c m h i) refl in
    f ∙ old_of_from c.shape (c.volume m) h l v

-- a slot that isn't in place reads at no old slot of its volume
pub not_in_place : (c : Column) (m h : ℕ) → is_in_place c m ≡ false → IsHolder c m h → c.is_live h ≡ false → c.volume h ≡ c.volume m → ⊥
not_in_place c m h e i l v = both_ways _ e (in_place_from c m h i l v)

-- ---- what a slot asks for

asks_in_place : (c : Column) (m : ℕ) → is_in_place c m ≡ true → asks c m ≡ []
unfolding asks
asks_in_place c m e = rw e refl

pub asks_out_of_place : (c : Column) (m : ℕ) → is_in_place c m ≡ false → asks c m ≡ filter_map (needer c) (old_holders c (c.volume m))
unfolding asks
asks_out_of_place c m e = rw e refl

pub no_asks_in_place : (c : Column) (m : ℕ) → is_in_place c m ≡ true → asks c m ≡ []
no_asks_in_place c m e = asks_in_place c m e

-- `m`, out of place, asks for `a` on account of its older slot `o`
pub record Asks (c : Column) (m a o : ℕ) : Type 0 where
  pub out_of_place : is_in_place c m ≡ false
  pub is_old : IsOld c.shape (c.volume m) o
  pub holds : c.held o ≡ true
  pub needs : needer c o ≡ Some a

pub asks_parts : (c : Column) (m a : ℕ) → is_in a (asks c m) ≡ true → (o : ℕ) × Asks c m a o
asks_parts c m a e =
    elim (cases_Bool (is_in_place c m)) [
      | inl t ↦ absurd (not_in_nil a (ap (is_in a) (sym (asks_in_place c m t)) ∙ e))
      | inr f ↦ let p = in_filter_map_parts a (needer c) (old_holders c (c.volume m)) (ap (is_in a) (sym (asks_out_of_place c m f)) ∙ e) in
          let q = in_filter_parts p.0 c.held (old_slots c.shape (c.volume m)) p.1 in
          (p.0, record { out_of_place = f; is_old = in_old_parts c.shape (c.volume m) p.0 q.0; holds = q.1; needs = p.2 })
    ]

pub asks_from : (c : Column) (m a o : ℕ) → Asks c m a o → is_in a (asks c m) ≡ true
asks_from c m a o i =
    ap (is_in a) (asks_out_of_place c m i.out_of_place) ∙
    in_filter_map a o (needer c) (old_holders c (c.volume m)) (in_filter o c.held (old_slots c.shape (c.volume m)) (in_old c.shape (c.volume m) o i.is_old) i.holds) i.needs

-- ---- what a write asks for

pub record WriteAsks (c : Column) (t a o : ℕ) : Type 0 where
  pub is_old : IsOld c.shape (c.volume t) o
  pub holds : c.held o ≡ true
  pub needs : first_reader c t o ≡ Some a

pub in_option : (a : ℕ) (o : Option ℕ) → is_in a (option_to_list o) ≡ true → o ≡ Some a
in_option a None e = absurd (not_in_nil a e)
in_option a (Some b) e = elim (in_cases a b [] e) [ inl p ↦ ap Some (sym p) | inr q ↦ absurd (not_in_nil a q) ]

pub in_readers_parts : (c : Column) (t a : ℕ) → is_in a (filter_map (first_reader c t) (old_holders c (c.volume t))) ≡ true → (o : ℕ) × WriteAsks c t a o
in_readers_parts c t a e =
    let p = in_filter_map_parts a (first_reader c t) (old_holders c (c.volume t)) e in
    let q = in_filter_parts p.0 c.held (old_slots c.shape (c.volume t)) p.1 in
    (p.0, record { is_old = in_old_parts c.shape (c.volume t) p.0 q.0; holds = q.1; needs = p.2 })

pub write_asks_parts : (c : Column) (t a : ℕ) → is_in a (write_asks c t) ≡ true → ((o : ℕ) × WriteAsks c t a o) ⊎ (next_behind c t ≡ Some a)
unfolding write_asks
write_asks_parts c t a e =
    elim (in_append_cases a (filter_map (first_reader c t) (old_holders c (c.volume t))) (option_to_list (next_behind c t)) e) [
      | inl l ↦ inl (in_readers_parts c t a l)
      | inr r ↦ inr (in_option a (next_behind c t) r)
    ]

pub write_asks_from : (c : Column) (t a o : ℕ) → WriteAsks c t a o → is_in a (write_asks c t) ≡ true
unfolding write_asks
write_asks_from c t a o i =
    in_append_left a (filter_map (first_reader c t) (old_holders c (c.volume t))) (option_to_list (next_behind c t))
    (in_filter_map a o (first_reader c t) (old_holders c (c.volume t)) (in_filter o c.held (old_slots c.shape (c.volume t)) (in_old c.shape (c.volume t) o i.is_old) i.holds) i.needs)

pub write_asks_next : (c : Column) (t n : ℕ) → next_behind c t ≡ Some n → is_in n (write_asks c t) ≡ true
unfolding write_asks
write_asks_next c t n e =
    let f : option_to_list (next_behind c t) ≡ n ∷ [] = rw e refl in
    in_append_right n (filter_map (first_reader c t) (old_holders c (c.volume t))) (option_to_list (next_behind c t)) (ap (is_in n) f ∙ in_head n n [] refl)
