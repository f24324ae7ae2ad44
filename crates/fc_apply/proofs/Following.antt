-- What follows an event: the parts beside the chains stand for what is told after it, and rows stay as large as their volumes.
use Rattle.std.proofs.Common.{◌≡◌, ℕ, suc, ◌<◌, ◌≤◌, ◌^◌, Bool, true, false, eqb, ◌||◌, Option, Some, None, IsSome, List, [], ◌∷◌, length, get_or, find, All, refl, sym, ap, subst, ◌∙◌, arith, inl, inr}
use Rattle.std.specs.Option.{ForSome}
use Rattle.std.proofs.lemmas.Bool.{cases_Bool, eqb-true}
use Rattle.fc_alike.proofs.Lawful.{follow_law_holds}
use Rattle.fc_alike.specs.Law.{Follows}
use Rattle.fc_base.specs.Sheet.{Slot, Sheet, slot_at, live_place, mapping_place, volume_grains, grains_at}
use Rattle.fc_base.specs.SheetFacts.{HasSizes, IsSound}
use Rattle.fc_base.specs.SheetFits.{FitsEvent}
use Rattle.fc_base.specs.SheetStep.{at_place, sheet_step}
use Rattle.fc_base.specs.declared.decision.LaneEvent.{LaneEvent}
use Rattle.fc_base.specs.declared.decision.LaneEvent.TheVariants.{Make, Remove, Trigger, Retire, Detach, Split, Force, Drop, Forget, NoteCut, Access, Work, Arm}
use Rattle.fc_base.specs.declared.request.Pair.{Pair}
use Rattle.fc_books.specs.After.{begun, holding}
use Rattle.fc_events.proofs.Rising.{all_rise, step_rises}
use Rattle.fc_changed.specs.Row.{Row, is_of, restart_in, row_restart}
use Rattle.fc_follow.specs.Alike.{AreAlike, IsAlike}
use Rattle.fc_follow.specs.Following.{FitsFollowed, FitsRows, Followed, IsOfPair, followed_event, restarts}
use Rattle.fc_grains.specs.Grains.{GrainsState}
use Rattle.fc_grains.specs.Volumes.{stored}
use Rattle.fc_pick.specs.Flags.{WorkState}
use Rattle.fc_pictures.specs.LaneLaw.{Agrees}
use Rattle.fc_rules.specs.LaneFits.{HasDisk}
use Rattle.fc_rules.specs.LaneTold.{LaneOf, grains_in, told_event}
use Rattle.fc_sheets.proofs.Finding.{live_place_at}
use Rattle.fc_apply.specs.Accesses.{AccessState}
use Rattle.fc_apply.specs.Events.{IsSized, chains_after}
use Rattle.fc_apply.specs.Parts.{BesideFor, HasDone}
use Rattle.fc_apply.proofs.Eventing.{event_stored, trigger_sized}
use Rattle.fc_apply.proofs.Telling.{event_told}

-- ---- an event

-- what is told, with the new slots of a trigger
with_begun : (l : LaneOf) (f : Followed) (e : LaneEvent) (g g' : GrainsState) (a' : AccessState) (w w' : WorkState) (a : AccessState) → BesideFor l g a w f.told → HasDone l g a w e g' a' w' →
    Agrees (followed_event l f e).told.sheet (followed_event l f e).told.picture (stored g'.volumes) → BesideFor l g' a' w' (told_event l f.told e) → BesideFor l g' a' w' (followed_event l f e).told
with_begun l f (Trigger pairs) g g' a' w w' a b d agrees plain = record {
  grain = plain.grain;
  stands = record { sound = agrees.sound; sized = trigger_sized f.told pairs _ g.volumes g'.volumes b.stands d.volumes agrees.sound agrees.shows; shows = agrees.shows };
  same = plain.same;
  volumes_are = plain.volumes_are;
  flags_are = plain.flags_are;
  pool_is = plain.pool_is;
}
with_begun l f (Make volume grains kind) g g' a' w w' a b d agrees plain = plain
with_begun l f (Remove volume) g g' a' w w' a b d agrees plain = plain
with_begun l f (Retire m) g g' a' w w' a b d agrees plain = plain
with_begun l f (Detach m) g g' a' w w' a b d agrees plain = plain
with_begun l f (Split m) g g' a' w w' a b d agrees plain = plain
with_begun l f (Force m dependents) g g' a' w w' a b d agrees plain = plain
with_begun l f (Drop slot) g g' a' w w' a b d agrees plain = plain
with_begun l f (Forget m) g g' a' w w' a b d agrees plain = plain
with_begun l f (NoteCut m source target) g g' a' w w' a b d agrees plain = plain
with_begun l f (Access volume access) g g' a' w w' a b d agrees plain = plain
with_begun l f (Work m copies cleans) g g' a' w w' a b d agrees plain = plain
with_begun l f (Arm volume grain calls) g g' a' w w' a b d agrees plain = plain

-- the parts beside the chains stand for what is told after it, and rows stay alike
pub event_followed : (l : LaneOf) (f : Followed) (e : LaneEvent) (g g' : GrainsState) (a a' : AccessState) (w w' : WorkState) → BesideFor l g a w f.told → AreAlike f → FitsEvent f.told.sheet e → HasDisk f.told e →
    FitsRows f.rows e → HasDone l g a w e g' a' w' → BesideFor l g' a' w' (followed_event l f e).told × AreAlike (followed_event l f e)
event_followed l f e g g' a a' w w' b alike fits disk rows d =
    let before : Follows f (stored g.volumes) = record { agrees = record { sound = b.stands.sound; shows = b.stands.shows }; alike = alike } in
    let after : Follows (followed_event l f e) (stored g'.volumes) = follow_law_holds.event l f e (stored g.volumes) (stored g'.volumes) before fits rows (event_stored l f.told g.volumes g'.volumes e b.same disk d.volumes) in
    (with_begun l f e g g' a' w w' a b d after.agrees (event_told l f.told e g g' a a' w w' b fits disk d), after.alike)

-- the chains that are told after it
pub told_sheet : (l : LaneOf) (f : Followed) (e : LaneEvent) → (followed_event l f e).told.sheet ≡ chains_after (restarts f.rows) (grains_in l) f.told.sheet e
told_sheet l f (Trigger pairs) = refl
told_sheet l f (Make volume grains kind) = refl
told_sheet l f (Remove volume) = refl
told_sheet l f (Retire m) = refl
told_sheet l f (Detach m) = refl
told_sheet l f (Split m) = refl
told_sheet l f (Force m dependents) = refl
told_sheet l f (Drop slot) = refl
told_sheet l f (Forget m) = refl
told_sheet l f (NoteCut m source target) = refl
told_sheet l f (Access volume access) = refl
told_sheet l f (Work m copies cleans) = refl
told_sheet l f (Arm volume grain calls) = refl

-- and the counts of disks
pub told_counts : (l : LaneOf) (f : Followed) (e : LaneEvent) → ((followed_event l f e).told.faults ≡ f.told.faults) × ((followed_event l f e).told.calls ≡ f.told.calls)
told_counts l f (Trigger pairs) = (refl, refl)
told_counts l f (Make volume grains kind) = (refl, refl)
told_counts l f (Remove volume) = (refl, refl)
told_counts l f (Retire m) = (refl, refl)
told_counts l f (Detach m) = (refl, refl)
told_counts l f (Split m) = (refl, refl)
told_counts l f (Force m dependents) = (refl, refl)
told_counts l f (Drop slot) = (refl, refl)
told_counts l f (Forget m) = (refl, refl)
told_counts l f (NoteCut m source target) = (refl, refl)
told_counts l f (Access volume access) = (refl, refl)
told_counts l f (Work m copies cleans) = (refl, refl)
told_counts l f (Arm volume grain calls) = (refl, refl)

-- ---- births

begun_births : (restarts : ℕ → List Bool) (p : Pair) (s : Sheet) → s.births ≤ (begun restarts s p).births
begun_births restarts p s = by (mapping_place s.slots p.map.0)
  where
    by : (o : Option ℕ) → s.births ≤ (at_place (holding (restarts p.map.0)) o s).births
    by None = omega arith
    by (Some k) = omega arith

-- those after the event itself are no more than those after the new slots began
step_births : (restarts : ℕ → List Bool) (local : ℕ → ℕ) (s : Sheet) (e : LaneEvent) → (sheet_step local s e).births ≤ (chains_after restarts local s e).births
step_births restarts local s (Trigger pairs) = all_rise (begun restarts) (begun_births restarts) pairs (sheet_step local s (Trigger pairs))
step_births restarts local s (Make volume grains kind) = omega arith
step_births restarts local s (Remove volume) = omega arith
step_births restarts local s (Retire m) = omega arith
step_births restarts local s (Detach m) = omega arith
step_births restarts local s (Split m) = omega arith
step_births restarts local s (Force m dependents) = omega arith
step_births restarts local s (Drop slot) = omega arith
step_births restarts local s (Forget m) = omega arith
step_births restarts local s (NoteCut m source target) = omega arith
step_births restarts local s (Access volume access) = omega arith
step_births restarts local s (Work m copies cleans) = omega arith
step_births restarts local s (Arm volume grain calls) = omega arith

births_fit : (l : LaneOf) (es : List LaneEvent) (f : Followed) → FitsFollowed l f es → f.told.sheet.births < 2 ^ 64
births_fit l [] f fits = fits
births_fit l (e ∷ es) f fits =
    let rest : (followed_event l f e).told.sheet.births < 2 ^ 64 = births_fit l es (followed_event l f e) fits.3 in
    let same : (followed_event l f e).told.sheet.births ≡ (chains_after (restarts f.rows) (grains_in l) f.told.sheet e).births = ap (λ (s : Sheet). s.births) (told_sheet l f e) in
    let more : (sheet_step (grains_in l) f.told.sheet e).births ≤ (chains_after (restarts f.rows) (grains_in l) f.told.sheet e).births = step_births (restarts f.rows) (grains_in l) f.told.sheet e in
    let up : f.told.sheet.births ≤ (sheet_step (grains_in l) f.told.sheet e).births = step_rises (grains_in l) e f.told.sheet in
    omega arith

pub first_births : (l : LaneOf) (f : Followed) (e : LaneEvent) (es : List LaneEvent) → FitsFollowed l f (e ∷ es) → (sheet_step (grains_in l) f.told.sheet e).births < 2 ^ 64
first_births l f e es fits =
    let rest : (followed_event l f e).told.sheet.births < 2 ^ 64 = births_fit l es (followed_event l f e) fits.3 in
    let same : (followed_event l f e).told.sheet.births ≡ (chains_after (restarts f.rows) (grains_in l) f.told.sheet e).births = ap (λ (s : Sheet). s.births) (told_sheet l f e) in
    let more : (sheet_step (grains_in l) f.told.sheet e).births ≤ (chains_after (restarts f.rows) (grains_in l) f.told.sheet e).births = step_births (restarts f.rows) (grains_in l) f.told.sheet e in
    omega arith

-- ---- rows are as large as their volumes

sized_at : (slots : List Slot) (v n k : ℕ) → HasSizes slots → IsSome (live_place slots v) → volume_grains slots v ≡ n → k < length slots → (slot_at slots k).volume ≡ v → n ≡ length (slot_at slots k).held
sized_at slots v n k sizes there size kl of_volume = by (live_place slots v) refl
  where
    by : (o : Option ℕ) → live_place slots v ≡ o → n ≡ length (slot_at slots k).held
    by None none = absurd (let f : false ≡ true = subst IsSome none there in cc)
    by (Some j) some =
        let at = live_place_at slots v j some in
        sym size ∙ ap (grains_at slots) some ∙ sizes.of_volume j k at.there kl (at.of_volume ∙ sym of_volume)

row_sized : (f : Followed) (row : Row) → IsSound f.told.sheet → IsAlike f.told.sheet.slots f.told.picture row → IsSized f.told.sheet.slots row
row_sized f row sound alike k kl names =
    let v : ℕ = (slot_at f.told.sheet.slots k).volume in
    elim (cases_Bool (eqb v row.source)) [
      | inl source ↦ sized_at f.told.sheet.slots row.source (length row.same) k sound.sizes alike.source_there alike.source_size kl (eqb-true v row.source source)
      | inr other ↦ (let target : eqb v row.target ≡ true = ap (λ b. b || eqb v row.target) (sym other) ∙ names in
          sized_at f.told.sheet.slots row.target (length row.same) k sound.sizes alike.target_there alike.target_size kl (eqb-true v row.target target))
    ]

pub rows_sized : (f : Followed) → IsSound f.told.sheet → AreAlike f → All (IsSized f.told.sheet.slots) f.rows
rows_sized f sound alike i d lt = row_sized f (get_or f.rows i d) sound (alike.each i d lt)

-- what is found has what all have
found_has : {X : Type 0} (P : X → Type 0) (test : X → Bool) (xs : List X) (x : X) → All P xs → find test xs ≡ Some x → P x
found_has P test [] x all e = absurd cc
found_has P test (y ∷ ys) x all e =
    elim (cases_Bool (test y)) [
      | inl passes ↦ (let here : Some y ≡ Some x = rw passes at e in let same : y ≡ x = cc in subst P same (all 0 y (omega arith)))
      | inr fails ↦ (let there : find test ys ≡ Some x = rw fails at e in found_has P test ys x (λ i d lt. all (suc i) d (omega arith)) there)
    ]

restart_fits : (f : Followed) (p : Pair) → AreAlike f → ForSome (find (is_of p.map.0) f.rows) (IsOfPair p) → length (restart_in p.map.0 f.rows) ≤ volume_grains f.told.sheet.slots p.target.0
restart_fits f p alike of_pair = by (find (is_of p.map.0) f.rows) refl
  where
    by : (o : Option Row) → find (is_of p.map.0) f.rows ≡ o → length (restart_in p.map.0 f.rows) ≤ volume_grains f.told.sheet.slots p.target.0
    by None none = let e : length (restart_in p.map.0 f.rows) ≡ 0 = ap (λ o. length (row_restart o)) none in omega (arith, e)
    by (Some row) some =
        let own : IsAlike f.told.sheet.slots f.told.picture row = found_has (IsAlike f.told.sheet.slots f.told.picture) (is_of p.map.0) f.rows row alike.each some in
        let is : IsOfPair p row = of_pair row some in
        let e : length (restart_in p.map.0 f.rows) ≡ volume_grains f.told.sheet.slots p.target.0 =
        ap (λ o. length (row_restart o)) some ∙ (sym own.target_size ∙ ap (volume_grains f.told.sheet.slots) is.1) in
        omega (arith, e)

pub restarts_fit : (f : Followed) (pairs : List Pair) → AreAlike f → FitsRows f.rows (Trigger pairs) → All (λ (p : Pair). length (restart_in p.map.0 f.rows) ≤ volume_grains f.told.sheet.slots p.target.0) pairs
restarts_fit f pairs alike fits i d lt = restart_fits f (get_or pairs i d) alike (fits i d lt)
