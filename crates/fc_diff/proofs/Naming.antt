-- Lists beside volumes: what a change of one list, a new one and one that goes leave.
use Rattle.std.proofs.Common.{◌≡◌, ◌≢◌, ℕ, zero, suc, ◌+◌, ◌<◌, Bool, true, false, not, ◌||◌, cond, List, [], ◌∷◌, ◌++◌, length, get_or, set, remove, filter, nat_eq, position, Some, None, refl, ap, sym, subst, ◌∙◌, arith, Vec}
use Rattle.std.specs.List.{list_any}
use Rattle.std.proofs.lemmas.List.{get_or-map, length-map, length-set, length-append, map-append, set-get_or}
use Rattle.indexmap.specs.IndexSet.{insert_key}
use Rattle.std.proofs.lemmas.List.Quantifiers.{position-Some}
use Rattle.std.proofs.lemmas.Bool.Decides.{nat_tests}
use Rattle.std.proofs.lemmas.Bool.{true≢false}
use Rattle.fc_diff.specs.Index.{Listing, named_by, numbers, list_of, is_listed}
use Rattle.fc_diff.proofs.Places.{all_fail, find-missed, any_found}

eq_same : (a : ℕ) → nat_eq a a ≡ true
eq_same a = grind (arith, nat_tests)

eq_other : (a b : ℕ) → a ≢ b → nat_eq a b ≡ false
eq_other a b other = grind (arith, nat_tests, other)

pub eq_is : (a b : ℕ) → nat_eq a b ≡ true → a ≡ b
eq_is a b e = grind (arith, nat_tests)

-- ---- the list of one volume, the first of its number

-- the volume's place, and none before it is of the volume
abbrev pub IsFirst : ℕ → List ℕ → ℕ → Type 0
IsFirst v [] p = ⊥
IsFirst v (k ∷ volumes) zero = nat_eq v k ≡ true
IsFirst v (k ∷ volumes) (suc p) = (nat_eq v k ≡ false) × IsFirst v volumes p

first_of : (v : ℕ) (volumes : List ℕ) (p : ℕ) → p < length volumes → nat_eq v (get_or volumes p 0) ≡ true → ((k : ℕ) → k < p → nat_eq v (get_or volumes k 0) ≡ false) → IsFirst v volumes p
first_of v [] p within here before = absurd (omega arith)
first_of v (k ∷ volumes) zero within here before = here
first_of v (k ∷ volumes) (suc p) within here before = (before 0 (omega arith), first_of v volumes p (omega arith) here (λ j below. before (suc j) (omega arith)))

pub is_first : (v : ℕ) (volumes : List ℕ) (p : ℕ) → position (nat_eq v) volumes ≡ Some p → IsFirst v volumes p
is_first v volumes p found =
    let s = position-Some (nat_eq v) volumes p 0 found in
    first_of v volumes p s.0 s.1 s.2

pub list_first : (v : ℕ) (volumes : List ℕ) (lists : List (List ℕ)) (p : ℕ) (d : List ℕ) → length volumes ≡ length lists → IsFirst v volumes p → list_of volumes lists v ≡ get_or lists p d
list_first v [] lists p d same first = absurd first
list_first v (k ∷ volumes) [] p d same first = absurd (omega arith)
list_first v (k ∷ volumes) (list ∷ lists) zero d same first = rw first refl
list_first v (k ∷ volumes) (list ∷ lists) (suc p) d same first = rw first.0 (list_first v volumes lists p d (omega arith) first.1)

pub list_none : (v : ℕ) (volumes : List ℕ) (lists : List (List ℕ)) → ((k : ℕ) (d : ℕ) → k < length volumes → nat_eq v (get_or volumes k d) ≡ false) → list_of volumes lists v ≡ []
list_none v [] lists none = refl
list_none v (k ∷ volumes) [] none = refl
list_none v (k ∷ volumes) (list ∷ lists) none =
    let fails : nat_eq v k ≡ false = none 0 0 (omega arith) in
    rw fails (list_none v volumes lists (λ j d within. none (suc j) d (omega arith)))

pub list_missed : (v : ℕ) (volumes : List ℕ) (lists : List (List ℕ)) → position (nat_eq v) volumes ≡ None → list_of volumes lists v ≡ []
list_missed v volumes lists missed = list_none v volumes lists (all_fail (nat_eq v) volumes (find-missed (nat_eq v) volumes missed))

pub first_within : (v : ℕ) (volumes : List ℕ) (p : ℕ) → IsFirst v volumes p → p < length volumes
first_within v [] p first = absurd first
first_within v (k ∷ volumes) zero first = omega arith
first_within v (k ∷ volumes) (suc p) first = omega (arith, first_within v volumes p first.1)

-- ---- one list changes
same_volume : (v k w : ℕ) → nat_eq v k ≡ true → nat_eq w k ≡ nat_eq w v
same_volume v k w e = ap (nat_eq w) (sym (eq_is v k e))

pub list_set : (v : ℕ) (volumes : List ℕ) (lists : List (List ℕ)) (p : ℕ) (list : List ℕ) (w : ℕ) → length volumes ≡ length lists → IsFirst v volumes p → list_of volumes (set lists p list) w ≡ cond (nat_eq w v) list (list_of volumes lists w)
list_set v [] lists p list w same first = absurd first
list_set v (k ∷ volumes) [] p list w same first = absurd (omega arith)
list_set v (k ∷ volumes) (l ∷ lists) zero list w same first = rw (same_volume v k w first) (by (nat_eq w v))
  where
    by : (b : Bool) → cond b list (list_of volumes lists w) ≡ cond b list (cond b l (list_of volumes lists w))
    by true = refl
    by false = refl
list_set v (k ∷ volumes) (l ∷ lists) (suc p) list w same first = by (nat_eq w k) refl (list_set v volumes lists p list w (omega arith) first.1)
  where
    apart : nat_eq w k ≡ true → nat_eq w v ≡ false
    apart e = rw (eq_is w k e) (eq_other k v (λ same. absurd (true≢false (sym (eq_same k) ∙ (ap (λ z. nat_eq z k) same ∙ first.0)))))

    by : (b : Bool) → nat_eq w k ≡ b → list_of volumes (set lists p list) w ≡ cond (nat_eq w v) list (list_of volumes lists w) → cond (nat_eq w k) l (list_of volumes (set lists p list) w) ≡ cond (nat_eq w v) list (cond (nat_eq w k) l (list_of volumes lists w))
    by true e rest = rw (e, apart e) refl
    by false e rest = rw e rest

-- one list goes
pub list_remove : (v : ℕ) (volumes : List ℕ) (lists : List (List ℕ)) (p w : ℕ) → length volumes ≡ length lists → IsFirst v volumes p → nat_eq w v ≡ false → list_of (remove volumes p) (remove lists p) w ≡ list_of volumes lists w
list_remove v [] lists p w same first other = absurd first
list_remove v (k ∷ volumes) [] p w same first other = absurd (omega arith)
list_remove v (k ∷ volumes) (l ∷ lists) zero w same first other = rw (same_volume v k w first, other) refl
list_remove v (k ∷ volumes) (l ∷ lists) (suc p) w same first other = ap (λ z. cond (nat_eq w k) l z) (list_remove v volumes lists p w (omega arith) first.1 other)

-- a new list at the end
pub list_push : (volumes : List ℕ) (lists : List (List ℕ)) (v : ℕ) (list : List ℕ) (w : ℕ) → length volumes ≡ length lists → nat_eq w v ≡ false → list_of (volumes ++ v ∷ []) (lists ++ list ∷ []) w ≡ list_of volumes lists w
list_push [] [] v list w same other = rw other refl
list_push [] (l ∷ lists) v list w same other = absurd (omega arith)
list_push (k ∷ volumes) [] v list w same other = absurd (omega arith)
list_push (k ∷ volumes) (l ∷ lists) v list w same other = ap (λ z. cond (nat_eq w k) l z) (list_push volumes lists v list w (omega arith) other)

pub list_pushed : (volumes : List ℕ) (lists : List (List ℕ)) (v : ℕ) (list : List ℕ) → length volumes ≡ length lists → ((k d : ℕ) → k < length volumes → nat_eq v (get_or volumes k d) ≡ false) → list_of (volumes ++ v ∷ []) (lists ++ list ∷ []) v ≡ list
list_pushed [] [] v list same new = rw (eq_same v) refl
list_pushed [] (l ∷ lists) v list same new = absurd (omega arith)
list_pushed (k ∷ volumes) [] v list same new = absurd (omega arith)
list_pushed (k ∷ volumes) (l ∷ lists) v list same new =
    let fails : nat_eq v k ≡ false = new 0 0 (omega arith) in
    rw fails (list_pushed volumes lists v list (omega arith) (λ j d within. new (suc j) d (omega arith)))

-- ---- numbers in a list
pub listed_last : (m : ℕ) (list : List ℕ) → is_listed m (list ++ m ∷ []) ≡ true
listed_last m [] = rw (eq_same m) refl
listed_last m (k ∷ list) = by (nat_eq m k) (listed_last m list)
  where
    by : (b : Bool) → is_listed m (list ++ m ∷ []) ≡ true → (b || is_listed m (list ++ m ∷ [])) ≡ true
    by true rest = refl
    by false rest = rest

pub listed_filter : (m n : ℕ) (list : List ℕ) → m ≢ n → is_listed m list ≡ true → is_listed m (filter (λ k. not (nat_eq k n)) list) ≡ true
listed_filter m n [] other there = cc
listed_filter m n (k ∷ list) other there = by (nat_eq k n) refl (nat_eq m k) refl there (listed_filter m n list other)
  where
    by : (b : Bool) → nat_eq k n ≡ b → (c : Bool) → nat_eq m k ≡ c → (c || is_listed m list) ≡ true → (is_listed m list ≡ true → is_listed m (filter (λ j. not (nat_eq j n)) list) ≡ true) → is_listed m (filter (λ j. not (nat_eq j n)) (k ∷ list)) ≡ true
    by true gone true same here rest = absurd (other (eq_is m k same ∙ eq_is k n gone))
    by true gone false same here rest = rw gone (rest here)
    by false stays true same here rest = rw (stays, same) refl
    by false stays false same here rest = rw (stays, same) (rest here)

-- ---- what the changes leave of the lists

-- a list that keeps a number
pub grown : (v : ℕ) (volumes : List ℕ) (lists : List (List ℕ)) (p : ℕ) (list : List ℕ) → length volumes ≡ length lists → IsFirst v volumes p → (w m : ℕ) → (is_listed m (list_of volumes lists v) ≡ true → is_listed m list ≡ true) → is_listed m (list_of volumes lists w) ≡ true → is_listed m (list_of volumes (set lists p list) w) ≡ true
grown v volumes lists p list same first w m more there = rw (list_set v volumes lists p list w same first) (by (nat_eq w v) refl)
  where
    by : (b : Bool) → nat_eq w v ≡ b → is_listed m (cond b list (list_of volumes lists w)) ≡ true
    by true e = more (subst (λ z. is_listed m (list_of volumes lists z) ≡ true) (eq_is w v e) there)
    by false e = there

pub grown_here : (v : ℕ) (volumes : List ℕ) (lists : List (List ℕ)) (p : ℕ) (list : List ℕ) → length volumes ≡ length lists → IsFirst v volumes p → list_of volumes (set lists p list) v ≡ list
grown_here v volumes lists p list same first = list_set v volumes lists p list v same first ∙ rw (eq_same v) refl

-- a new list
pub pushed : (volumes : List ℕ) (lists : List (List ℕ)) (v : ℕ) (list : List ℕ) → length volumes ≡ length lists → position (nat_eq v) volumes ≡ None → (w m : ℕ) → is_listed m (list_of volumes lists w) ≡ true → is_listed m (list_of (volumes ++ v ∷ []) (lists ++ list ∷ []) w) ≡ true
pushed volumes lists v list same missed w m there = by (nat_eq w v) refl
  where
    by : (b : Bool) → nat_eq w v ≡ b → is_listed m (list_of (volumes ++ v ∷ []) (lists ++ list ∷ []) w) ≡ true
    by true e =
        let here : is_listed m (list_of volumes lists v) ≡ true = subst (λ z. is_listed m (list_of volumes lists z) ≡ true) (eq_is w v e) there in
        absurd (true≢false (sym here ∙ ap (is_listed m) (list_missed v volumes lists missed)))
    by false e = ap (is_listed m) (list_push volumes lists v list w same e) ∙ there

pub pushed_here : (volumes : List ℕ) (lists : List (List ℕ)) (v : ℕ) (list : List ℕ) → length volumes ≡ length lists → position (nat_eq v) volumes ≡ None → list_of (volumes ++ v ∷ []) (lists ++ list ∷ []) v ≡ list
pushed_here volumes lists v list same missed = list_pushed volumes lists v list same (all_fail (nat_eq v) volumes (find-missed (nat_eq v) volumes missed))

-- ---- the lists as they are kept

numbers-set : {Z : Type 0} (lists : List (Vec ℕ Z)) (p : ℕ) (list : Vec ℕ Z) → numbers (set lists p list) ≡ set (numbers lists) p list.items
numbers-set [] p list = refl
numbers-set (l ∷ lists) zero list = refl
numbers-set (l ∷ lists) (suc p) list = ap (λ ls. l.items ∷ ls) (numbers-set lists p list)

numbers-remove : {Z : Type 0} (lists : List (Vec ℕ Z)) (p : ℕ) → numbers (remove lists p) ≡ remove (numbers lists) p
numbers-remove {Z = Z} [] p = nothing p
  where
    nothing : (q : ℕ) → numbers (remove {X = Vec ℕ Z} [] q) ≡ remove {X = List ℕ} [] q
    nothing zero = refl
    nothing (suc q) = refl
numbers-remove (l ∷ lists) zero = refl
numbers-remove (l ∷ lists) (suc p) = ap (λ ls. l.items ∷ ls) (numbers-remove lists p)

abbrev pub listing_of : List ℕ → List (List ℕ) → Listing
listing_of volumes lists = record { volumes = volumes; lists = lists }

module _ {Z : Type 0} (volumes : List ℕ) (lists : List (Vec ℕ Z)) (state : Listing) (seen : listing_of volumes (numbers lists) ≡ state) (same : length volumes ≡ length lists) where
  beside : length volumes ≡ length (numbers lists)
  beside = same ∙ sym (length-map lists (λ list. list.items))

  view_of : (v : ℕ) → named_by state v ≡ list_of volumes (numbers lists) v
  view_of v = ap (λ s. named_by s v) (sym seen)

  module _ (v p : ℕ) (found : position (nat_eq v) volumes ≡ Some p) where
    first : IsFirst v volumes p
    first = is_first v volumes p found

    place : (list : Vec ℕ Z) → list ≡ get_or lists p list → list.items ≡ get_or (numbers lists) p []
    place list is =
        let within : p < length lists = rw (sym same) (first_within v volumes p first) in
        ap (λ l. l.items) is ∙ sym (get_or-map (λ l. l.items) lists p list [] within)

    here : (list : Vec ℕ Z) → list ≡ get_or lists p list → list.items ≡ list_of volumes (numbers lists) v
    here list is = place list is ∙ sym (list_first v volumes (numbers lists) p [] beside first)

    pub of_here : (list : Vec ℕ Z) → list ≡ get_or lists p list → list.items ≡ named_by state v
    of_here list is = here list is ∙ sym (view_of v)

    -- a list stays as it was
    pub same_by_change : (old new : Vec ℕ Z) → old ≡ get_or lists p old → new.items ≡ old.items → listing_of volumes (numbers (set lists p new)) ≡ state
    same_by_change old new is stays =
        ap (listing_of volumes) (numbers-set lists p new ∙ (ap (set (numbers lists) p) (stays ∙ place old is) ∙ set-get_or (numbers lists) p [])) ∙ seen

    -- a list changes, and keeps a number
    pub kept_by_change : (old new : Vec ℕ Z) → old ≡ get_or lists p old → (w m : ℕ) → (is_listed m old.items ≡ true → is_listed m new.items ≡ true) → is_listed m (named_by state w) ≡ true → is_listed m (list_of volumes (numbers (set lists p new)) w) ≡ true
    kept_by_change old new is w m more there =
        rw (numbers-set lists p new)
        (grown v volumes (numbers lists) p new.items beside first w m
        (λ listed. more (ap (is_listed m) (here old is) ∙ listed)) (ap (is_listed m) (sym (view_of w)) ∙ there))

    pub here_by_change : (new : Vec ℕ Z) (m : ℕ) → is_listed m new.items ≡ true → is_listed m (list_of volumes (numbers (set lists p new)) v) ≡ true
    here_by_change new m listed =
        rw (numbers-set lists p new) (ap (is_listed m) (grown_here v volumes (numbers lists) p new.items beside first) ∙ listed)

    -- a list that has become empty goes
    pub kept_by_going : (old new : Vec ℕ Z) → old ≡ get_or lists p old → new.items ≡ [] → (w m : ℕ) → (is_listed m old.items ≡ true → is_listed m new.items ≡ true) → is_listed m (named_by state w) ≡ true → is_listed m (list_of (remove volumes p) (numbers (remove (set lists p new) p)) w) ≡ true
    kept_by_going old new is empty w m more there = by (nat_eq w v) refl
      where
        changed : is_listed m (list_of volumes (set (numbers lists) p new.items) w) ≡ true
        changed = ap (λ ls. is_listed m (list_of volumes ls w)) (sym (numbers-set lists p new)) ∙ kept_by_change old new is w m more there

        by : (b : Bool) → nat_eq w v ≡ b → is_listed m (list_of (remove volumes p) (numbers (remove (set lists p new) p)) w) ≡ true
        by true e =
            let none : list_of volumes (set (numbers lists) p new.items) w ≡ [] =
            list_set v volumes (numbers lists) p new.items w beside first ∙ (ap (λ b. cond b new.items (list_of volumes (numbers lists) w)) e ∙ empty) in
            absurd (true≢false (sym changed ∙ ap (is_listed m) none))
        by false e =
            rw (numbers-remove (set lists p new) p, numbers-set lists p new)
            (ap (is_listed m) (list_remove v volumes (set (numbers lists) p new.items) p w (beside ∙ sym (length-set (numbers lists) p new.items)) first e) ∙ changed)

  pub of_missed : (v : ℕ) → position (nat_eq v) volumes ≡ None → [] ≡ named_by state v
  of_missed v missed = sym (list_missed v volumes (numbers lists) missed) ∙ sym (view_of v)

  -- a volume comes, with its list
  module _ (v : ℕ) (missed : position (nat_eq v) volumes ≡ None) (list : Vec ℕ Z) (volumes' : List ℕ) (lists' : List (Vec ℕ Z)) (grew : volumes' ≡ volumes ++ v ∷ []) (grew_too : lists' ≡ lists ++ list ∷ []) where
    view' : list_of volumes' (numbers lists') ≡ list_of (volumes ++ v ∷ []) (numbers lists ++ list.items ∷ [])
    view' = λ k. list_of (grew k) ((ap numbers grew_too ∙ map-append (λ l. l.items) lists (list ∷ [])) k)

    pub kept_by_coming : (w m : ℕ) → is_listed m (named_by state w) ≡ true → is_listed m (list_of volumes' (numbers lists') w) ≡ true
    kept_by_coming w m there =
        ap (λ f. is_listed m (f w)) view' ∙ pushed volumes (numbers lists) v list.items beside missed w m (ap (is_listed m) (sym (view_of w)) ∙ there)

    pub here_by_coming : (m : ℕ) → is_listed m list.items ≡ true → is_listed m (list_of volumes' (numbers lists') v) ≡ true
    here_by_coming m listed = ap (λ f. is_listed m (f v)) view' ∙ (ap (is_listed m) (pushed_here volumes (numbers lists) v list.items beside missed) ∙ listed)

    pub same_by_coming : length volumes' ≡ length lists'
    same_by_coming = rw (grew, grew_too, length-append, length-append) (ap (λ n. n + 1) same)

insert_key-new : (keys : List ℕ) (key : ℕ) → list_any (nat_eq key) keys ≡ false → insert_key nat_eq keys key ≡ keys ++ key ∷ []
insert_key-new keys key new = rw new refl

pub inserted : (keys : List ℕ) (key : ℕ) → position (nat_eq key) keys ≡ None → insert_key nat_eq keys key ≡ keys ++ key ∷ []
inserted keys key missed = insert_key-new keys key (any_found (nat_eq key) keys (find-missed (nat_eq key) keys missed))
