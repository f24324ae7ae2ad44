-- A store that begins stands for what is told before the first entry.
use Rattle.std.proofs.Common.{◌≡◌, ℕ, suc, zero, ◌+◌, ◌^◌, ◌<◌, List, [], ◌∷◌, length, map, get_or, replicate, refl, sym, ap, ap₂, subst, ◌∙◌, arith, None}
use Rattle.std.specs.List.{All, sum_by}
use Rattle.std.proofs.lemmas.List.{get_or-map, length-map}
use Rattle.std.proofs.lemmas.List.FromFn.{get_or-range_with_len, get_or-map-range_with_len, length-map-range_with_len}
use Rattle.std.proofs.lemmas.List.Sums.{sum_by-cons}
use Rattle.fc_base.specs.Pools.{Pool}
use Rattle.fc_base.specs.Tables.{no_tables}
use Rattle.fc_base.specs.declared.size.GrainSize.{GrainSize}
use Rattle.fc_desk.specs.Control.{ControlState}
use Rattle.fc_grains.specs.Grains.{GrainsState, opened as opened_grains, one_if_silent, pool_of, silent_of, stopped}
use Rattle.fc_lane.specs.Lane.{LaneView, IsFollowing, begun}
use Rattle.fc_legal.specs.Whole.{opened, part_at, pool_at}
use Rattle.fc_mdisk.specs.Disk.{DiskState, IsFresh}
use Rattle.fc_mdisk.specs.Disks.{calls_of, faults_of}
use Rattle.fc_parts.proofs.Lawful.{part_law_holds}
use Rattle.fc_rules.specs.LaneTold.{LaneTold, nothing_told}
use Rattle.fc_decided.proofs.Opening.{lanes_told, opening_stands}
use Rattle.fc_grains.proofs.KindCounts.{flat-cons, one_flat, one_thin, thin-cons}
use Rattle.fc_sums.proofs.Sums.{sum_total}
use Rattle.fc_lanes.specs.Dealing.{Begin, Begins, FitLane, all_dealt, dealt, disks_in, pools_dealt, silent_in}
use Rattle.fc_stands.specs.Quiet.{AreQuiet}
use Rattle.fc_stands.specs.Store.{StandsFor, IsLaneAt}
use Rattle.fc_lanes.proofs.Dealing.{all_of_dealt, few_dealt, total_dealt}

from_zero : (i : ℕ) → 0 + i ≡ i
from_zero i = omega arith

abbrev zeros : ℕ → List ℕ
zeros n = replicate n 0

zero_at : (n i : ℕ) → get_or (zeros n) i 0 ≡ 0
zero_at ℕ.zero i = refl
zero_at (ℕ.suc n) ℕ.zero = refl
zero_at (ℕ.suc n) (ℕ.suc i) = zero_at n i

-- ---- the lists that were dealt

count_dealt : (n : ℕ) (disks : List DiskState) → length (all_dealt n disks) ≡ n
count_dealt n disks = length-map-range_with_len (dealt n disks) 0 n

list_at : (n : ℕ) (disks : List DiskState) (i : ℕ) (d : List DiskState) → i < n → get_or (all_dealt n disks) i d ≡ dealt n disks i
list_at n disks i d lt = get_or-map-range_with_len (dealt n disks) 0 n i i d lt (omega arith)

no_calls : (disks : List DiskState) → All IsFresh disks → calls_of disks ≡ 0
no_calls [] fresh = refl
no_calls (d ∷ ds) fresh =
    let first : d.calls ≡ 0 = (fresh 0 d (omega arith)).no_calls in
    let rest : calls_of ds ≡ 0 = no_calls ds (λ k e lt. fresh (suc k) e (omega (arith, lt))) in
    sum_by-cons (λ (x : DiskState). x.calls) d ds ∙ ap₂ (λ a b. a + b) first rest

no_faults : (disks : List DiskState) → All IsFresh disks → faults_of disks ≡ 0
no_faults [] fresh = refl
no_faults (d ∷ ds) fresh =
    let first : d.faults ≡ 0 = (fresh 0 d (omega arith)).no_faults in
    let rest : faults_of ds ≡ 0 = no_faults ds (λ k e lt. fresh (suc k) e (omega (arith, lt))) in
    sum_by-cons (λ (x : DiskState). x.faults) d ds ∙ ap₂ (λ a b. a + b) first rest

pub all_fit : (n : ℕ) (disks : List DiskState) → length disks < 2 ^ 30 → All IsFresh disks → All FitLane (all_dealt n disks)
all_fit n disks few fresh i d lt =
    let within : i < n = omega (arith, lt, count_dealt n disks) in
    subst FitLane (sym (list_at n disks i d within)) (record {
      few = omega (arith, few, few_dealt n disks i);
      unarmed = λ k e kl. (all_of_dealt IsFresh n disks i fresh k e kl).unarmed;
    })

-- ---- the lanes

-- what each lane is told at the opening
told_begun : (grain : GrainSize) (n : ℕ) (disks : List DiskState) (i : ℕ) → i < n → All IsFresh disks →
    part_at grain (opened (pools_dealt n disks)) i ≡ begun (opened_grains grain (dealt n disks i))
told_begun grain n disks i lt fresh =
    let own : List DiskState = dealt n disks i in
    let fresh_own : All IsFresh own = all_of_dealt IsFresh n disks i fresh in
    let count : length (pools_dealt n disks) ≡ n = length-map (all_dealt n disks) pool_of ∙ count_dealt n disks in
    let pool : pool_at (pools_dealt n disks) i ≡ pool_of own =
    get_or-map pool_of (all_dealt n disks) i [] (record { flat = 0; thin = 0 }) (omega (arith, lt, count_dealt n disks)) ∙ ap pool_of (list_at n disks i [] lt) in
    let tells : Pool → ℕ → ℕ → LaneTold = λ p f c. record nothing_told { pool = p; faults = f; calls = c } in
    part_law_holds.opening grain (pools_dealt n disks) i (omega (arith, lt, count))
    ∙ ap (λ p. tells p 0 0) pool
    ∙ ap (λ f. tells (pool_of own) (stopped f) 0) (sym (no_faults own fresh_own))
    ∙ ap (λ c. tells (pool_of own) (stopped (faults_of own)) (stopped c)) (sym (no_calls own fresh_own))

module _ (grain : GrainSize) (n : ℕ) (disks : List DiskState) (ls : List LaneView) (made : Begin grain n (all_dealt n disks) ls) where
  pub count_made : length ls ≡ n
  count_made =
      sym (length-map ls (λ (v : LaneView). v.grains))
      ∙ ap length made.grains
      ∙ length-map (all_dealt n disks) (opened_grains grain)
      ∙ count_dealt n disks

  grains_at : (i : ℕ) (d : LaneView) → i < n → (get_or ls i d).grains ≡ opened_grains grain (dealt n disks i)
  grains_at i d lt =
      sym (get_or-map (λ (v : LaneView). v.grains) ls i d d.grains (omega (arith, lt, count_made)))
      ∙ ap (λ (gs : List GrainsState). get_or gs i d.grains) made.grains
      ∙ get_or-map (opened_grains grain) (all_dealt n disks) i [] d.grains (omega (arith, lt, count_dealt n disks))
      ∙ ap (opened_grains grain) (list_at n disks i [] lt)

  number_at : (i : ℕ) (d : LaneView) → i < n → (get_or ls i d).lane ≡ i
  number_at i d lt =
      sym (get_or-map (λ (v : LaneView). v.lane) ls i d 0 (omega (arith, lt, count_made)))
      ∙ ap (λ (ns : List ℕ). get_or ns i 0) made.numbers
      ∙ get_or-range_with_len 0 (length ls) i 0 (omega (arith, lt, count_made))
      ∙ from_zero i

  lane_at_opening : (i : ℕ) (d : LaneView) → i < n → All IsFresh disks → IsLaneAt grain (opened (pools_dealt n disks)) i (get_or ls i d)
  lane_at_opening i d lt fresh =
      let begins : Begins n (get_or ls i d) = made.each i d (omega (arith, lt, count_made)) in
      let v : LaneView = get_or ls i d in
      record {
        lane = number_at i d lt;
        lanes_are = begins.lanes_are ∙ sym (lanes_told (pools_dealt n disks) ∙ length-map (all_dealt n disks) pool_of ∙ count_dealt n disks);
        grain_is = ap (λ (g : GrainsState). g.grain) (grains_at i d lt);
        stands = subst (λ (t : LaneTold). IsFollowing v (record { told = t; rows = []; rooms = [] })) (ap (λ (g : GrainsState). begun g) (grains_at i d lt) ∙ sym (told_begun grain n disks i lt fresh)) begins.stands;
      }

  pub store_begins : (c : ControlState) → c ≡ record { grain = grain; tables = no_tables; next_volume = 0; next_mapping = 0; next_group = 1; flags = []; reserved = None; room = 0 } → 0 < n → All IsFresh disks →
      StandsFor (record { control = c; lanes = ls }) (opened (pools_dealt n disks))
  store_begins c is some fresh =
      let count : length (pools_dealt n disks) ≡ n = length-map (all_dealt n disks) pool_of ∙ count_dealt n disks in
      record {
        control = record {
          tables = ap (λ (x : ControlState). x.tables) is;
          next_volume = ap (λ (x : ControlState). x.next_volume) is;
          next_mapping = ap (λ (x : ControlState). x.next_mapping) is;
          next_group = ap (λ (x : ControlState). x.next_group) is;
          flags = ap (λ (x : ControlState). x.flags) is;
        };
        count = count_made ∙ sym (lanes_told (pools_dealt n disks) ∙ count);
        each = λ i d lt. subst (λ (g : GrainSize). IsLaneAt g (opened (pools_dealt n disks)) i (get_or ls i d)) (sym (ap (λ (x : ControlState). x.grain) is)) (lane_at_opening i d (omega (arith, lt, count_made)) fresh);
        decisions = 0;
        few = omega arith;
        stands = opening_stands (pools_dealt n disks) (omega (arith, some, count));
        calls = λ i. omega (arith, zero_at (length (pools_dealt n disks)) i);
      }

  -- ---- all disks together
  sum_grains : (f : GrainsState → ℕ) (gs : List LaneView) → sum_by (λ (v : LaneView). f v.grains) gs ≡ sum_by f (map (λ (v : LaneView). v.grains) gs)
  sum_grains f [] = refl
  sum_grains f (v ∷ vs) =
      sum_by-cons (λ (x : LaneView). f x.grains) v vs
      ∙ ap (λ z. f v.grains + z) (sum_grains f vs)
      ∙ sym (sum_by-cons f v.grains (map (λ (x : LaneView). x.grains) vs))

  sum_opened : (f : GrainsState → ℕ) (lists : List (List DiskState)) → sum_by f (map (opened_grains grain) lists) ≡ sum_by (λ (ds : List DiskState). f (opened_grains grain ds)) lists
  sum_opened f [] = refl
  sum_opened f (ds ∷ rest) =
      sum_by-cons f (opened_grains grain ds) (map (opened_grains grain) rest)
      ∙ ap (λ z. f (opened_grains grain ds) + z) (sum_opened f rest)
      ∙ sym (sum_by-cons (λ (x : List DiskState). f (opened_grains grain x)) ds rest)

  sum_made : (f : GrainsState → ℕ) → sum_by (λ (v : LaneView). f v.grains) ls ≡ sum_by (λ (ds : List DiskState). f (opened_grains grain ds)) (all_dealt n disks)
  sum_made f = sum_grains f ls ∙ ap (sum_by f) made.grains ∙ sum_opened f (all_dealt n disks)

  pub kinds_made : 0 < n → disks_in ls ≡ pool_of disks
  kinds_made some = λ k. record {
    flat = (sum_made (λ (g : GrainsState). g.disks.flat)
        ∙ sum_total (λ (ds : List DiskState). (pool_of ds).flat) (dealt n disks) n
        ∙ total_dealt one_flat (λ (ds : List DiskState). (pool_of ds).flat) refl flat-cons n some disks) k;
    thin = (sum_made (λ (g : GrainsState). g.disks.thin)
        ∙ sum_total (λ (ds : List DiskState). (pool_of ds).thin) (dealt n disks) n
        ∙ total_dealt one_thin (λ (ds : List DiskState). (pool_of ds).thin) refl thin-cons n some disks) k;
  }

  pub silent_made : 0 < n → silent_in ls ≡ silent_of disks
  silent_made some =
      sum_made (λ (g : GrainsState). g.silent)
      ∙ sum_total (λ (ds : List DiskState). silent_of ds) (dealt n disks) n
      ∙ total_dealt (λ d. one_if_silent d.due) (λ (ds : List DiskState). silent_of ds) refl (λ d ds. sum_by-cons (λ (x : DiskState). one_if_silent x.due) d ds) n some disks

  pub quiet_made : silent_of disks ≡ 0 → 0 < n → All IsFresh disks → AreQuiet ls
  quiet_made told some fresh i d lt =
      let within : i < n = omega (arith, lt, count_made) in
      let own : List DiskState = dealt n disks i in
      record {
        quiet = (made.each i d lt).quiet (none_of ls (silent_made some ∙ told) i d lt);
        faults = ap (λ (g : GrainsState). g.faults) (grains_at i d within) ∙ ap stopped (no_faults own (all_of_dealt IsFresh n disks i fresh));
      }
    where
      none_of : (vs : List LaneView) → silent_in vs ≡ 0 → (k : ℕ) (e : LaneView) → k < length vs → (get_or vs k e).grains.silent ≡ 0
      none_of [] none k e kl = absurd (omega (arith, kl))
      none_of (v ∷ vs) none zero e kl =
          let split : silent_in (v ∷ vs) ≡ v.grains.silent + silent_in vs = sum_by-cons (λ (x : LaneView). x.grains.silent) v vs in
          omega (arith, split, none)
      none_of (v ∷ vs) none (suc k) e kl =
          let split : silent_in (v ∷ vs) ≡ v.grains.silent + silent_in vs = sum_by-cons (λ (x : LaneView). x.grains.silent) v vs in
          none_of vs (omega (arith, split, none)) k e (omega (arith, kl))
