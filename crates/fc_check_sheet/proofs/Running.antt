-- Ranges of marked grains, run by run.
use Rattle.std.proofs.Common.{◌≡◌, ℕ, ◌+◌, ◌-◌, ◌<◌, ◌≤◌, Bool, true, false, ◌&&◌, ◌||◌, List, [], ◌∷◌, ◌++◌, get_or, refl, sym, ap, subst, ◌∙◌, arith, inl, inr}
use Rattle.std.specs.Prelude.{nat_le, ltb}
use Rattle.std.proofs.lemmas.Bool.{both_ways, cases_lt, lt-ltb}
use Rattle.std.proofs.lemmas.Bool.Decides.{nat_tests}
use Rattle.std.proofs.lemmas.List.Folds.{list_any-append}
use Rattle.fc_base.specs.Ranges.{StandsBehind, is_kept}
use Rattle.fc_base.specs.declared.ranges.Range.{Range}
use Rattle.fc_check_sheet.specs.Runs.{IsNextMarked, IsRunEnd}

-- The ranges have the marked grains before one, and a range that begins with a marked grain from there on
-- stands behind them.
pub record HaveRanges (marks : List Bool) (from : ℕ) (ranges : List Range) : Type 0 where
  pub kept : (g : ℕ) → is_kept ranges g ≡ (ltb g from && get_or marks g false)
  pub behind : (r : Range) → from ≤ r.first → get_or marks r.first false ≡ true → r.first ≤ r.last → StandsBehind ranges r

-- the run from a grain on, up to an end
abbrev pub run : ℕ → ℕ → Range
run first end = record { first = first; last = end - 1 }

kept_push : (ranges : List Range) (range : Range) (g : ℕ) → is_kept (ranges ++ range ∷ []) g ≡ (is_kept ranges g || (nat_le range.first g && nat_le g range.last))
kept_push ranges range g =
    list_any-append (λ (r : Range). nat_le r.first g && nat_le g r.last) ranges (range ∷ [])
    ∙ ap (λ b. is_kept ranges g || b) (or_none (nat_le range.first g && nat_le g range.last))
  where
    or_none : (b : Bool) → (b || false) ≡ b
    or_none true = refl
    or_none false = refl

behind_last : (ranges : List Range) (last next : Range) → last.last + 1 < next.first → next.first ≤ next.last → StandsBehind (ranges ++ last ∷ []) next
behind_last [] last next gap full = (gap, full)
behind_last (a ∷ []) last next gap full = (gap, full)
behind_last (a ∷ b ∷ ranges) last next gap full = behind_last (b ∷ ranges) last next gap full

-- of the grains before the end, those before `from` and those of the run are marked
before_run : (a f l e m : Bool) → a ≡ true → f ≡ false → e ≡ true → ((a && m) || (f && l)) ≡ (e && m)
before_run a f l e true p q r = simp (p, q, r)
before_run a f l e false p q r = simp (p, q, r)

in_gap : (a f l e m : Bool) → f ≡ false → m ≡ false → ((a && m) || (f && l)) ≡ (e && m)
in_gap true f l true m q r = simp (q, r)
in_gap true f l false m q r = simp (q, r)
in_gap false f l true m q r = simp (q, r)
in_gap false f l false m q r = simp q

in_run : (a f l e m : Bool) → f ≡ true → l ≡ true → e ≡ true → m ≡ true → ((a && m) || (f && l)) ≡ (e && m)
in_run true f l e m p q r t = simp (p, q, r, t)
in_run false f l e m p q r t = simp (p, q, r, t)

past_run : (a f l e m : Bool) → a ≡ false → l ≡ false → e ≡ false → ((a && m) || (f && l)) ≡ (e && m)
past_run a true l e m p q r = simp (p, q, r)
past_run a false l e m p q r = simp (p, r)

passed : (from first end g : ℕ) (mark : Bool) → from ≤ first → first < end → (from ≤ g → g < first → mark ≡ false) → (first ≤ g → g < end → mark ≡ true) →
    ((ltb g from && mark) || (nat_le first g && nat_le g (end - 1))) ≡ (ltb g end && mark)
passed from first end g mark le lt gap full =
    elim (cases_lt g from) [
      | inl before ↦ before_run (ltb g from) (nat_le first g) (nat_le g (end - 1)) (ltb g end) mark (lt-ltb g from before) (grind (arith, nat_tests)) (lt-ltb g end (omega arith))
      | inr past ↦ elim (cases_lt g first) [
        | inl between ↦ in_gap (ltb g from) (nat_le first g) (nat_le g (end - 1)) (ltb g end) mark (grind (arith, nat_tests)) (gap past between)
        | inr inside ↦ elim (cases_lt g end) [
          | inl here ↦ in_run (ltb g from) (nat_le first g) (nat_le g (end - 1)) (ltb g end) mark (grind (arith, nat_tests)) (grind (arith, nat_tests)) (lt-ltb g end here) (full inside here)
          | inr behind ↦ past_run (ltb g from) (nat_le first g) (nat_le g (end - 1)) (ltb g end) mark (grind (arith, nat_tests)) (grind (arith, nat_tests)) (grind (arith, nat_tests))
        ]
      ]
    ]

pub run_more : (marks : List Bool) (from first end : ℕ) (ranges new : List Range) → HaveRanges marks from ranges → IsNextMarked marks from first → IsRunEnd marks first end → new ≡ ranges ++ run first end ∷ [] →
    HaveRanges marks end new
run_more marks from first end ranges new have next ends e =
    let P : List Range → Type 0 = λ z. HaveRanges marks end z in
    let a : first < end = ends.after in
    subst P (sym e) (record {
      kept = λ g. kept_push ranges (run first end) g ∙ (ap (λ b. b || (nat_le first g && nat_le g (end - 1))) (have.kept g)
          ∙ passed from first end g (get_or marks g false) next.after a (next.first g) (ends.marked g));
      behind = λ r le m full. behind_last ranges (run first end) r (past r le m) full;
    })
  where
    past : (r : Range) → end ≤ r.first → get_or marks r.first false ≡ true → end - 1 + 1 < r.first
    past r le m =
        let a : first < end = ends.after in
        elim (cases_lt end r.first) [
          | inl lt ↦ omega arith
          | inr ge ↦ (let same : r.first ≡ end = omega arith in absurd (both_ways (get_or marks r.first false) (ap (λ z. get_or marks z false) same ∙ ends.ends) m))
        ]
