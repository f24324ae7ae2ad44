-- What an event does to a row: it keeps the row's mapping, it means nothing to a row that doesn't name its volume, and a
-- second telling changes nothing.
use Rattle.std.proofs.Common.{◌≡◌, ℕ, Bool, true, false, not, ◌&&◌, ◌||◌, cond, List, [], ◌∷◌, length, replicate, set, nat_eq, refl, ap, subst, ◌∙◌}
use Rattle.std.proofs.lemmas.List.{length-replicate, length-set}
use Rattle.fc_bits.specs.Grains.{common}
use Rattle.fc_changed.specs.Notes.{has, grains_with, joins, names}
use Rattle.fc_changed.specs.Row.{Row, row_names, row_began, row_wrote, row_left, row_cut, with_all, with_none}
use Rattle.fc_diff.specs.declared.tracked.Event.{Event}
use Rattle.fc_diff.specs.declared.tracked.Event.TheVariants.{Began as OfTrigger, Wrote as OfWrite, Left as OfLeaving, Cut as OfCut}
use Rattle.fc_diff.specs.Told.{row_after, volume_of, FitsRow}
use Rattle.fc_diff.proofs.Sets.{length-grains_with, kept_twice, common_is}

-- ---- a row keeps its mapping, its volumes and its size

module _ (part : Row → ℕ) (same : (row : Row) (x : ℕ) (y : List Bool) → length y ≡ length row.same → part (record row { into = x; same = y }) ≡ part row) where
  pub same_part : (event : Event) (row : Row) → part (row_after event row) ≡ part row
  same_part (OfTrigger source target) row = by (joins row.source row.target source target) (row_names row target)
    where
      by : (b c : Bool) → part (cond b (record (with_all row) { into = target }) (cond c (with_none row) row)) ≡ part row
      by true c = same row target (replicate (length row.same) true) (length-replicate (length row.same) true)
      by false true = same row row.into (replicate (length row.same) false) (length-replicate (length row.same) false)
      by false false = refl
  same_part (OfWrite volume grain) row = by (row_names row volume)
    where
      by : (b : Bool) → part (cond b (record row { same = set row.same grain false }) row) ≡ part row
      by true = same row row.into (set row.same grain false) (length-set row.same grain false)
      by false = refl
  same_part (OfLeaving target held) row = by (row_names row target)
    where
      by : (b : Bool) → part (cond b (record row { same = grains_with (λ g. has row.same g && has held.now g) (length row.same) }) row) ≡ part row
      by true = same row row.into (grains_with (λ g. has row.same g && has held.now g) (length row.same)) (length-grains_with (λ g. has row.same g && has held.now g) (length row.same))
      by false = refl
  same_part (OfCut target) row = by (row_names row target && not (nat_eq row.into target))
    where
      by : (b : Bool) → part (cond b (with_none row) row) ≡ part row
      by true = same row row.into (replicate (length row.same) false) (length-replicate (length row.same) false)
      by false = refl

pub same_map : (event : Event) (row : Row) → (row_after event row).map ≡ row.map
same_map event row = same_part (λ r. r.map) (λ r x y e. refl) event row

pub same_source : (event : Event) (row : Row) → (row_after event row).source ≡ row.source
same_source event row = same_part (λ r. r.source) (λ r x y e. refl) event row

pub same_target : (event : Event) (row : Row) → (row_after event row).target ≡ row.target
same_target event row = same_part (λ r. r.target) (λ r x y e. refl) event row

pub same_size : (event : Event) (row : Row) → length (row_after event row).same ≡ length row.same
same_size event row = same_part (λ r. length r.same) (λ r x y e. e) event row

-- ---- an event means nothing to a row that doesn't name its volume

unjoined : (p q x y : Bool) → (x || y) ≡ false → ((p && y) || (q && x)) ≡ false
unjoined p q true y e = cc
unjoined p q false true e = cc
unjoined true true false false e = refl
unjoined true false false false e = refl
unjoined false true false false e = refl
unjoined false false false false e = refl

pub not_joined : (a b source target : ℕ) → names a b target ≡ false → joins a b source target ≡ false
not_joined a b source target unnamed = unjoined (nat_eq source a) (nat_eq source b) (nat_eq target a) (nat_eq target b) unnamed

pub only_named : (event : Event) (row : Row) → row_names row (volume_of event) ≡ false → row_after event row ≡ row
only_named (OfTrigger source target) row unnamed = rw (not_joined row.source row.target source target unnamed, unnamed) refl
only_named (OfWrite volume grain) row unnamed = rw unnamed refl
only_named (OfLeaving target held) row unnamed = rw unnamed refl
only_named (OfCut target) row unnamed = rw unnamed refl

-- ---- told twice

set_twice : (xs : List Bool) (g : ℕ) (b : Bool) → set (set xs g b) g b ≡ set xs g b
set_twice [] g b = refl
set_twice (x ∷ xs) ℕ.zero b = refl
set_twice (x ∷ xs) (ℕ.suc g) b = ap (λ ys. x ∷ ys) (set_twice xs g b)

pub twice : (event : Event) (row : Row) → row_after event (row_after event row) ≡ row_after event row
twice (OfTrigger source target) row = by (joins row.source row.target source target) refl (row_names row target) refl
  where
    by : (b : Bool) → joins row.source row.target source target ≡ b → (c : Bool) → row_names row target ≡ c → row_began source target (row_began source target row) ≡ row_began source target row
    by true e c f = rw e (rw e (λ k. record row { into = target; same = replicate (length-replicate (length row.same) true k) true }))
    by false e true f = rw (e, f) (rw (e, f) (λ k. record row { same = replicate (length-replicate (length row.same) false k) false }))
    by false e false f = rw (e, f) (rw (e, f) refl)
twice (OfWrite volume grain) row = by (row_names row volume) refl
  where
    by : (b : Bool) → row_names row volume ≡ b → row_wrote volume grain (row_wrote volume grain row) ≡ row_wrote volume grain row
    by true e = rw e (rw e (ap (λ xs. record row { same = xs }) (set_twice row.same grain false)))
    by false e = rw e (rw e refl)
twice (OfLeaving target held) row = by (row_names row target) refl
  where
    by : (b : Bool) → row_names row target ≡ b → row_left target held.now (row_left target held.now row) ≡ row_left target held.now row
    by true e = rw e (rw e (ap (λ xs. record row { same = xs }) (kept_twice row.same held.now)))
    by false e = rw e (rw e refl)
twice (OfCut target) row = by (row_names row target && not (nat_eq row.into target)) refl
  where
    by : (b : Bool) → (row_names row target && not (nat_eq row.into target)) ≡ b → row_cut target (row_cut target row) ≡ row_cut target row
    by true e = rw e (rw e (λ k. record row { same = replicate (length-replicate (length row.same) false k) false }))
    by false e = rw e (rw e refl)

pub fits_after : (event : Event) (row : Row) → FitsRow event row → FitsRow event (row_after event row)
fits_after (OfTrigger source target) row fits = tt
fits_after (OfWrite volume grain) row fits = tt
fits_after (OfLeaving target held) row fits = by (row_names row target) refl
  where
    by : (b : Bool) → row_names row target ≡ b → FitsRow (OfLeaving target held) (row_left target held.now row)
    by true e = rw e (λ named. length-grains_with (λ g. has row.same g && has held.now g) (length row.same) ∙ fits e)
    by false e = rw e fits
fits_after (OfCut target) row fits = tt

-- ---- a leaving, as it is done

pub left_row : (seen now : Row) → seen ≡ now → (target : ℕ) (held new : List Bool) → new ≡ common seen.same held → row_names now target ≡ true → length now.same ≡ length held → record seen { same = new } ≡ row_left target held now
left_row seen now same target held new is named size =
    subst (λ row. row_names row target ≡ true → length row.same ≡ length held → record seen { same = new } ≡ row_left target held row) same
    (λ e s. rw e (ap (λ xs. record seen { same = xs }) (is ∙ common_is seen.same held s)))
    named size
