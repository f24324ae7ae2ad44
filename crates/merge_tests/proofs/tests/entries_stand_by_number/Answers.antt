use Rattle.std.proofs.Common.{ℕ, List, [], ◌∷◌, ap, length, subst, sym}
use Rattle.fc_entry.specs.HistoryState.{HistoryState}
use Rattle.fc_merge.specs.Merging.{AreNumbered, Own}
use Rattle.merge_tests.proofs.Alternate.{alternate_numbered, alternate_own}
use Rattle.merge_tests.proofs.tests.entries_stand_by_number.Goals as goal

pub merge-requires-clause-own : goal.merge-requires-clause-own
merge-requires-clause-own g c = alternate_own c.in_ok-two.field-0 c.in_ok-two-2.field-0 c.in_ok-two.ensures c.in_ok-two-2.ensures

pub merge-requires-clause-numbered : goal.merge-requires-clause-numbered
merge-requires-clause-numbered g c =
    let lists : List Own = c.in_ok-two.field-0 ∷ c.in_ok-two-2.field-0 ∷ [] in
    let From : ℕ → Type 0 = λ n. AreNumbered n 4 lists in (
      4,
      subst From (sym (ap (λ (h : HistoryState). length h.entries) c.new-history.ensures))
          (alternate_numbered c.in_ok-two.field-0 c.in_ok-two-2.field-0 c.in_ok-two.ensures c.in_ok-two-2.ensures),
    )
