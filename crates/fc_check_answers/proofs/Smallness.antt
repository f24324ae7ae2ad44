-- All grains of what was reached by right entries have numbers below 2^32.
use Rattle.std.proofs.Common.{◌≡◌, ℕ, ◌*◌, ◌<◌, ◌≤◌, ◌++◌, ◌∷◌, [], List, Contains, length, sym, subst, arith}
use Rattle.std.proofs.lemmas.List.Elements.{Contains-append_left, Contains-push}
use Rattle.fc_base.specs.Pools.{Pool}
use Rattle.fc_base.specs.declared.size.GrainSize.{GrainSize}
use Rattle.fc_check_answers.proofs.Laws.{deciders, names as names_law, stands}
use Rattle.fc_check_answers.specs.Small.{AreSmall, IsSmallWay}
use Rattle.fc_check_follow.specs.Following.{AreCandidates, IsOpen}
use Rattle.fc_check_record.specs.Judged.{Judged}
use Rattle.fc_legal.specs.Whole.{opened}
use Rattle.law_stands.specs.Names.{nameless}
use Rattle.law_stands.specs.Reached.{IsReachedByEntries}

reached_small : (way : Judged) → way.whole.entries ≤ 262144 → IsReachedByEntries way.whole → IsSmallWay way
reached_small way few reached =
    let can = deciders.can_decide (2 * way.whole.entries) way.whole (omega (arith, few)) reached in
    record { held = λ k. omega (arith, can.held k); restarts = λ m. omega (arith, can.restart m) }

-- before the first entry, and before one more
pub opened_small : (grain : GrainSize) (pools : List Pool) (way : Judged) → way ≡ record { grain = grain; whole = nameless (opened pools) } → 0 < length pools → IsSmallWay way
opened_small grain pools way is some =
    let first : Judged = record { grain = grain; whole = nameless (opened pools) } in
    subst IsSmallWay (sym is) (reached_small first (omega arith) (names_law.reached 0 [] (opened pools) (stands.opened pools some)))

pub open_small : (way : Judged) → IsOpen way.whole → IsSmallWay way
open_small way at = reached_small way (omega (arith, at.few)) at.reached

-- after it
pub candidates_small : (grain : GrainSize) (entries : ℕ) (ways : List Judged) → entries ≤ 262144 → AreCandidates grain entries ways → AreSmall ways
candidates_small grain entries ways few are way there =
    let at = are.reached way there in
    reached_small way (omega (arith, at.entries_are, few)) at.reached

-- the last of some ways, and those before it
pub last_small : (ways rest : List Judged) (last : Judged) → ways ≡ rest ++ last ∷ [] → AreSmall ways → IsSmallWay last
last_small ways rest last is small = small last (subst (λ (ws : List Judged). Contains ws last) (sym is) (Contains-push rest last))

pub left_small : (ways rest : List Judged) (last : Judged) → ways ≡ rest ++ last ∷ [] → AreSmall ways → AreSmall rest
left_small ways rest last is small way there = small way (subst (λ (ws : List Judged). Contains ws way) (sym is) (Contains-append_left rest (last ∷ []) way there))
