-- Flags that go: the rows before the mapping's and those behind it stay.
use Rattle.std.proofs.Common.{◌≡◌, ℕ, suc, ◌+◌, ◌<◌, ◌≤◌, Bool, true, false, not, List, [], ◌∷◌, ◌++◌, length, get_or, take, drop, filter, nat_eq, nat_lt, refl, ap, sym, ◌∙◌, subst, arith, append_assoc, append-nil, Result, Ok, Err, IsOk, is_ok, if◌then◌else◌}
use Rattle.std.proofs.lemmas.Bool.Decides.{nat_tests}
use Rattle.std.proofs.lemmas.List.Kept.{AllPairs-filter}
use Rattle.fc_base.specs.declared.ids.MapId.{MapId}
use Rattle.fc_pick.specs.declared.work.WorkFlags.{WorkFlags}
use Rattle.fc_pick.specs.Flags.{AreByMapping, is_flagged, before, behind, has_mapping, with_row, with_flags, without_flags}
use Rattle.fc_pick.proofs.Rising.{Rises, IsAbove, rises, take_lows, put_known, apart, lt_false}
use Rattle.fc_pick.proofs.Rows.{number, rising_with}

no_before : (m k : ℕ) (rows : List WorkFlags) → m ≤ k → IsAbove number k rows → before m rows ≡ []
no_before m k [] le higher = refl
no_before m k (row ∷ rows) le higher =
    let fails : nat_lt row.map.0 m ≡ false = lt_false row.map.0 m (omega (arith, higher.0)) in
    rw fails (no_before m k rows le higher.1)

-- the rows of other mappings are those before and those behind
pub others : (m : ℕ) (rows : List WorkFlags) → Rises number rows → filter (λ row. not (nat_eq m row.map.0)) rows ≡ before m rows ++ behind m rows
others m [] rising = refl
others m (row ∷ rows) rising = by (others m rows rising.1) (nat_lt row.map.0 m) refl (nat_lt m row.map.0) refl
  where
    by : filter (λ row. not (nat_eq m row.map.0)) rows ≡ before m rows ++ behind m rows → (a : Bool) → nat_lt row.map.0 m ≡ a → (b : Bool) → nat_lt m row.map.0 ≡ b → filter (λ row. not (nat_eq m row.map.0)) (row ∷ rows) ≡ before m (row ∷ rows) ++ behind m (row ∷ rows)
    by rest true low b e =
        let other : nat_eq m row.map.0 ≡ false = grind (arith, nat_tests, low) in
        let fails : nat_lt m row.map.0 ≡ false = grind (arith, nat_tests, low) in
        rw (low, other, fails) (ap (λ rs. row ∷ rs) rest)
    by rest false e true high =
        let other : nat_eq m row.map.0 ≡ false = grind (arith, nat_tests, high) in
        let none : before m rows ≡ [] = no_before m row.map.0 rows (grind (arith, nat_tests, high)) rising.0 in
        rw (e, high, other, none) (ap (λ rs. row ∷ rs) (rest ∙ ap (λ rs. rs ++ behind m rows) none))
    by rest false e false f =
        let same : nat_eq m row.map.0 ≡ true = grind (arith, nat_tests, e, f) in
        rw (e, f, same) rest

drop_past : (xs : List WorkFlags) (y : WorkFlags) (ys : List WorkFlags) → drop (suc (length xs)) (xs ++ y ∷ ys) ≡ ys
drop_past [] y ys = refl
drop_past (x ∷ xs) y ys = drop_past xs y ys

-- the row at the mapping's place goes
pub taken_out : (m : MapId) (rows : List WorkFlags) → AreByMapping rows → has_mapping m.0 rows ≡ true → (d : WorkFlags) → take (length (before m.0 rows)) rows ++ drop (suc (length (before m.0 rows))) rows ≡ without_flags m rows
taken_out m rows rising there d =
    let P : List WorkFlags → Type 0 = λ rs. drop (suc (length (before m.0 rows))) rs ≡ behind m.0 rows in
    let past : drop (suc (length (before m.0 rows))) rows ≡ behind m.0 rows =
    subst P (put_known number m.0 rows (rises number rows rising) there d) (drop_past (before m.0 rows) (get_or rows (length (before m.0 rows)) d) (behind m.0 rows)) in
    (λ k. take_lows number m.0 rows (rises number rows rising) k ++ past k) ∙ sym (others m.0 rows (rises number rows rising))

-- a mapping with no row leaves the rows as they are
pub none_out : (m : MapId) (rows : List WorkFlags) → AreByMapping rows → has_mapping m.0 rows ≡ false → rows ≡ without_flags m rows
none_out m rows rising new =
    sym (apart number m.0 rows (rises number rows rising) new) ∙ sym (others m.0 rows (rises number rows rising))

-- flags that are set, and those that are not
pub with_some : (row : WorkFlags) (rows : List WorkFlags) → is_flagged row ≡ true → with_row row rows ≡ with_flags row rows
with_some row rows e = rw e (sym (append_assoc (before row.map.0 rows) (row ∷ []) (behind row.map.0 rows)))

pub with_none : (row : WorkFlags) (rows : List WorkFlags) → AreByMapping rows → is_flagged row ≡ false → without_flags row.map rows ≡ with_flags row rows
with_none row rows rising e =
    rw e (others row.map.0 rows (rises number rows rising) ∙ ap (λ rs. rs ++ behind row.map.0 rows) (sym (append-nil (before row.map.0 rows))))

-- flags rise still, cleared or set
pub rising_without : (m : MapId) (flags : List WorkFlags) → AreByMapping flags → AreByMapping (without_flags m flags)
rising_without m flags rising = AllPairs-filter (λ x y. x.map.0 < y.map.0) (λ x. not (nat_eq m.0 x.map.0)) flags rising

pub rising_flags : (row : WorkFlags) (flags : List WorkFlags) → AreByMapping flags → AreByMapping (with_flags row flags)
rising_flags row flags rising = by (is_flagged row) refl
  where
    by : (b : Bool) → is_flagged row ≡ b → AreByMapping (with_flags row flags)
    by true e = subst AreByMapping (with_some row flags e) (rising_with row flags rising)
    by false e = subst AreByMapping (with_none row flags rising e) (rising_without row.map flags rising)

-- ---- a vector that has room

pub inserted : {E : Type 0} (r : Result (Unit {0}) E) (new put old : List WorkFlags) → IsOk r → new ≡ (if is_ok r then put else old) → new ≡ put
inserted (Ok x) new put old ok is = is
inserted (Err e) new put old ok is = cc

pub taken_at : (m : MapId) (rows : List WorkFlags) → AreByMapping rows → has_mapping m.0 rows ≡ true → (d : WorkFlags) → (place : ℕ) → place ≡ length (before m.0 rows) → take place rows ++ drop (place + 1) rows ≡ without_flags m rows
taken_at m rows rising there d place is =
    let next : place + 1 ≡ suc (length (before m.0 rows)) = omega (arith, is) in
    (λ k. take (is k) rows ++ drop (next k) rows) ∙ taken_out m rows rising there d
