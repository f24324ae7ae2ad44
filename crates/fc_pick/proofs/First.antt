-- The first row that passes a test.
use Rattle.std.proofs.Common.{◌≡◌, ℕ, zero, suc, ◌<◌, Bool, true, false, List, [], ◌∷◌, length, get_or, filter, find, Option, Some, None, refl, ap, sym, subst, ◌∙◌, arith, true≢false, ◌&&◌, ◌||◌, is_some}
use Rattle.std.proofs.lemmas.List.Kept.{AllPairs-filter}
use Rattle.fc_base.specs.declared.ids.MapId.{MapId}
use Rattle.fc_base.specs.declared.ids.GrainNo.{GrainNo}
use Rattle.fc_pick.specs.declared.work.WorkFlags.{WorkFlags}
use Rattle.fc_pick.specs.Flags.{WorkState, AreByMapping, is_flagged, rows_state}
use Rattle.fc_pick.specs.Next.{can_work, next_work}

-- what passes stands in the part that a weaker test keeps
pub find-filter : {X : Type 0} (p q : X → Bool) → ((x : X) → p x ≡ true → q x ≡ true) → (xs : List X) → find p (filter q xs) ≡ find p xs
find-filter p q weaker [] = refl
find-filter p q weaker (x ∷ xs) = by (q x) refl (p x) refl (find-filter p q weaker xs)
  where
    by : (b : Bool) → q x ≡ b → (c : Bool) → p x ≡ c → find p (filter q xs) ≡ find p xs → find p (filter q (x ∷ xs)) ≡ find p (x ∷ xs)
    by true kept true passes rest = rw kept (rw passes refl)
    by true kept false fails rest = rw kept (rw fails rest)
    by false gone false fails rest = rw gone (rw fails rest)
    by false gone true passes rest = absurd (true≢false (sym (weaker x passes) ∙ gone))

pub find_first : {X : Type 0} (p : X → Bool) (xs : List X) (i : ℕ) (d : X) → ((k : ℕ) (e : X) → k < i → p (get_or xs k e) ≡ false) → i < length xs → p (get_or xs i d) ≡ true → find p xs ≡ Some (get_or xs i d)
find_first p [] i d none within passes = absurd (omega arith)
find_first p (x ∷ xs) zero d none within passes = rw passes refl
find_first p (x ∷ xs) (suc i) d none within passes =
    let fails : p x ≡ false = none 0 x (omega arith) in
    rw fails (find_first p xs i d (λ k e before. none (suc k) e (omega arith)) (omega arith) passes)

pub find_none : {X : Type 0} (p : X → Bool) (xs : List X) → ((k : ℕ) (e : X) → k < length xs → p (get_or xs k e) ≡ false) → find p xs ≡ None
find_none p [] none = refl
find_none p (x ∷ xs) none =
    let fails : p x ≡ false = none 0 x (omega arith) in
    rw fails (find_none p xs (λ k e before. none (suc k) e (omega arith)))

-- ---- What a walk over the rows finds

weaker_and : (a b : Bool) → (a && b) ≡ true → a ≡ true
weaker_and true b e = refl
weaker_and false b e = e

module _ (has_flag : WorkFlags → Bool) (flagged : (row : WorkFlags) → has_flag row ≡ true → is_flagged row ≡ true) (least : MapId → Option GrainNo) (rows : List WorkFlags) (state : WorkState) (seen : rows_state rows ≡ state) where
  among_flagged : find (can_work has_flag least) state.flags ≡ find (can_work has_flag least) rows
  among_flagged =
      ap (λ s. find (can_work has_flag least) s.flags) (sym seen)
      ∙ find-filter (can_work has_flag least) is_flagged (λ row e. flagged row (weaker_and (has_flag row) (is_some (least row.map)) e)) rows

  pub next_some : (i : ℕ) (d : WorkFlags) (grain : GrainNo) → ((k : ℕ) (e : WorkFlags) → k < i → can_work has_flag least (get_or rows k e) ≡ false) → i < length rows → has_flag (get_or rows i d) ≡ true → least (get_or rows i d).map ≡ Some grain → Some ((get_or rows i d).map, grain) ≡ next_work has_flag least state.flags
  next_some i d grain none within has got =
      let able : can_work has_flag least (get_or rows i d) ≡ true = rw (has, got) refl in
      let found : find (can_work has_flag least) state.flags ≡ Some (get_or rows i d) = among_flagged ∙ find_first (can_work has_flag least) rows i d none within able in
      rw (found, got) refl

  pub next_none : ((k : ℕ) (e : WorkFlags) → k < length rows → can_work has_flag least (get_or rows k e) ≡ false) → None ≡ next_work has_flag least state.flags
  next_none none =
      let missed : find (can_work has_flag least) state.flags ≡ None = among_flagged ∙ find_none (can_work has_flag least) rows none in
      rw missed refl

pub flags_rise : (rows : List WorkFlags) (state : WorkState) → rows_state rows ≡ state → AreByMapping rows → AreByMapping state.flags
flags_rise rows state seen rising =
    let P : WorkState → Type 0 = λ s. AreByMapping s.flags in
    subst P seen (AllPairs-filter (λ x y. x.map.0 < y.map.0) is_flagged rows rising)

pub copies_flagged : (row : WorkFlags) → row.copies ≡ true → is_flagged row ≡ true
copies_flagged row e = rw e refl

pub cleans_flagged : (row : WorkFlags) → row.cleans ≡ true → is_flagged row ≡ true
cleans_flagged row e = by row.copies
  where
    by : (b : Bool) → (b || row.cleans) ≡ true
    by true = refl
    by false = e
