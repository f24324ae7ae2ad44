-- What actors made is told: all of it, or the first.
use Rattle.std.proofs.Common.{◌≡◌, ℕ, List, length, map, sym, subst}
use Rattle.fc_entry.specs.HistoryState.{HistoryState}
use Rattle.fc_entry.specs.declared.entry.Entry.{Entry}
use Rattle.fc_merge.proofs.Whole.{begun, some_pushed}
use Rattle.fc_merge.specs.Merging.{AreNumbered, AreOwn, Own}
use Rattle.law_together.proofs.Drawn.{merge_law_holds}
use Rattle.law_together.specs.Making.{AreDrawn, AreMakings, Making, all_made, own_of}
use Rattle.fc_together.specs.Answers.{FirstTold}

module _ (makings : List Making) (old : HistoryState) (made : AreMakings makings) where
  -- ---- their lists can be merged

  own_lists : AreOwn (map own_of makings)
  own_lists = merge_law_holds.own makings made

  pub are_own : (lists : List Own) → lists ≡ map own_of makings → AreOwn lists
  are_own lists is =
      let P : List Own → Type 0 = λ ls. AreOwn ls in
      subst P (sym is) own_lists

  pub are_numbered : (lists : List Own) (entries : List Entry) → lists ≡ map own_of makings → AreDrawn (length old.entries) entries (all_made makings) →
      (count : ℕ) × AreNumbered (length old.entries) count lists
  are_numbered lists entries is drawn =
      let P : List Own → Type 0 = λ ls. AreNumbered (length old.entries) (length entries) ls in
      (length entries, subst P (sym is) (merge_law_holds.numbers (length old.entries) entries makings drawn))

  -- ---- and are, so far

  -- None of it is told.
  pub told_none : (entries : List Entry) → AreDrawn (length old.entries) entries (all_made makings) → FirstTold makings old old
  told_none entries drawn =
      let s = some_pushed old (map own_of makings) old (map own_of makings) own_lists
      (begun old (map own_of makings) (length entries) own_lists (merge_law_holds.numbers (length old.entries) entries makings drawn)) in
      record { merged = s.0; merges = s.3; front = s.1; rest = s.2; split = s.4; new_is = s.5 }
