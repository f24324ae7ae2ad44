-- The grains of a thin disk of which one was written.
use Rattle.std.proofs.Common.{◌≡◌, ℕ, zero, suc, ◌+◌, ◌<◌, ◌≤◌, ◌^◌, Bool, true, false, not, cond, List, ◌∷◌, length, map, replicate, slice_set, slice_index_or, inl, inr, refl, sym, ◌∙◌, ap, arith, Fits, w32}
use Rattle.std.specs.List.{count_by}
use Rattle.std.proofs.lemmas.List.{map-set, get_or-map, get_or-set_same, length-append, length-drop, length-map, length-set, length-take}
use Rattle.std.proofs.lemmas.List.Sums.{sum_by-set, count_by-le-length}
use mir.Val.{bool_byte}
use Rattle.fc_base.specs.declared.disk.DiskKind.TheVariants.{Thin}
use Rattle.fc_mdisk.specs.declared.thin_grains.ThinGrain.{ThinGrain}
use Rattle.fc_mdisk.specs.declared.thin_grains.ThinGrain.TheVariants.{Unwritten, Lost, Written}
use Rattle.fc_mdisk.specs.Disk.{grain_at}
use Rattle.fc_mdisk.specs.Grains.{GrainsState, IsTorn, half_written}
use Rattle.fc_mdisk.specs.Thin.{bytes_of, is_reached, torn}

abbrev state : ℕ → List ThinGrain → GrainsState
state width grains = record { grains = map (bytes_of width) grains; occupied = map is_reached grains }

pub unwritten_state : (width count : ℕ) → state width (replicate count Unwritten) ≡ record { grains = replicate count (replicate width 0); occupied = replicate count false }
unwritten_state width zero = refl
unwritten_state width (suc count) =
    ap (λ (s : GrainsState). record { grains = replicate width 0 ∷ s.grains; occupied = false ∷ s.occupied }) (unwritten_state width count)

-- a count in which an element that was counted or not is replaced by one that is
one_counted : (was now : Bool) (n m : ℕ) → n + cond was 1 0 ≡ m + cond now 1 0 → now ≡ true → n ≡ m + bool_byte (not was)
one_counted true true n m e reached = omega arith
one_counted false true n m e reached = omega arith
one_counted true false n m e reached = cc
one_counted false false n m e reached = cc

-- what a write that fails leaves
torn_is : (width : ℕ) (old : ThinGrain) (bytes : List ℕ) → IsTorn Thin bytes (bytes_of width old) (torn width old bytes)
torn_is width Unwritten bytes = inr refl
torn_is width Lost bytes = inr refl
torn_is width (Written kept) bytes = inl refl

half_size : (bytes old : List ℕ) → length bytes ≡ length old → length (half_written bytes old) ≡ length bytes
half_size bytes old size = simp (length-append, length-take, length-drop) (omega arith)

pub torn_size : (bytes old new : List ℕ) → length bytes ≡ length old → IsTorn Thin bytes old new → length new ≡ length bytes
torn_size bytes old new size (inl half) = ap length half ∙ half_size bytes old size
torn_size bytes old new size (inr same) = ap length same ∙ sym size

module _ (width g : ℕ) (grains : List ThinGrain) (seen : GrainsState) (old : ThinGrain)
    (view_is : state width grains ≡ seen) (in_range : g < length seen.grains) (read : old ≡ slice_index_or grains g old) where
  is_there : g < length grains
  is_there = omega (arith, ap (λ (s : GrainsState). length s.grains) view_is, length-map grains (bytes_of width))

  -- the grain that is read
  pub old_bytes : grain_at seen.grains g ≡ bytes_of width old
  old_bytes =
      ap (λ (s : GrainsState). grain_at s.grains g) (sym view_is)
      ∙ get_or-map (bytes_of width) grains g old _ is_there
      ∙ ap (bytes_of width) (sym read)

  -- another one in its place
  pub grains_left : (new : ThinGrain) → map (bytes_of width) (slice_set grains g new) ≡ slice_set seen.grains g (bytes_of width new)
  grains_left new = map-set (bytes_of width) grains g new ∙ ap (λ (s : GrainsState). slice_set s.grains g (bytes_of width new)) view_is

  pub occupied_left : (new : ThinGrain) → is_reached new ≡ true → map is_reached (slice_set grains g new) ≡ slice_set seen.occupied g true
  occupied_left new reached =
      map-set is_reached grains g new
      ∙ ap (λ (s : GrainsState). slice_set s.occupied g (is_reached new)) view_is
      ∙ ap (λ (b : Bool). slice_set seen.occupied g b) reached

  pub bytes_left : (new : ThinGrain) → grain_at (map (bytes_of width) (slice_set grains g new)) g ≡ bytes_of width new
  bytes_left new = ap (λ (all : List (List ℕ)). grain_at all g) (grains_left new) ∙ get_or-set_same seen.grains g (bytes_of width new) _ in_range

  pub torn_left : (new : ThinGrain) (bytes : List ℕ) → bytes_of width new ≡ torn width old bytes
      → IsTorn Thin bytes (grain_at seen.grains g) (grain_at (map (bytes_of width) (slice_set grains g new)) g)
  torn_left new bytes is = rw (old_bytes, bytes_left new, is) (torn_is width old bytes)

  pub written_left : (new : ThinGrain) (bytes : List ℕ) → bytes_of width new ≡ bytes → is_reached new ≡ true
      → state width (slice_set grains g new) ≡ record { grains = slice_set seen.grains g bytes; occupied = slice_set seen.occupied g true }
  written_left new bytes bytes_is reached = λ i. record {
    grains = (grains_left new ∙ ap (λ (x : List ℕ). slice_set seen.grains g x) bytes_is) i;
    occupied = occupied_left new reached i;
  }

  -- the count of those that a write reached
  pub count_left : (new : ThinGrain) (was : Bool) → is_reached new ≡ true → was ≡ is_reached old
      → count_by is_reached (slice_set grains g new) ≡ count_by is_reached grains + bool_byte (not was)
  count_left new was reached was_is =
      let same : slice_index_or grains g old ≡ old = sym read in
      let replaced : count_by is_reached (slice_set grains g new) + cond (is_reached (slice_index_or grains g old)) 1 0 ≡ count_by is_reached grains + cond (is_reached new) 1 0 =
      sum_by-set (λ (x : ThinGrain). cond (is_reached x) 1 0) grains g new old is_there in
      one_counted was (is_reached new) _ _
      (ap (λ (b : Bool). count_by is_reached (slice_set grains g new) + cond b 1 0) (was_is ∙ ap is_reached (sym same)) ∙ replaced) reached

  pub count_fits : (used : ℕ) (was : Bool) → was ≡ is_reached old → used ≡ count_by is_reached grains → length grains < 2 ^ 32 → Fits w32 (used + bool_byte (not was))
  count_fits used was was_is used_is bound =
      let more : count_by is_reached (slice_set grains g Lost) ≡ count_by is_reached grains + bool_byte (not was) = count_left Lost was refl was_is in
      let most : count_by is_reached (slice_set grains g Lost) ≤ length (slice_set grains g Lost) = count_by-le-length is_reached (slice_set grains g Lost) in
      record { fits = omega (arith, length-set grains g Lost) }
