-- A noted store as it begins: without volumes, over disks without names.
use Rattle.std.proofs.Common.{◌≡◌, ℕ, zero, suc, ◌+◌, ◌^◌, ◌<◌, ◌≤◌, Bool, true, false, cond, not, None, List, [], ◌∷◌, length, map, filter, get_or, replicate, All, Contains, inl, inr, refl, sym, ap, subst, ◌∙◌, arith}
use Rattle.std.specs.List.{count_by}
use Rattle.std.proofs.lemmas.List.{get_or-map, length-map}
use Rattle.std.proofs.lemmas.List.FromFn.{get_or-map-range_with_len, length-map-range_with_len}
use Rattle.fc_base.specs.Pools.{Pool, of_kind}
use Rattle.fc_base.specs.Tables.{Tables}
use Rattle.fc_base.specs.declared.disk.DiskKind.{DiskKind}
use Rattle.fc_base.specs.declared.disk.DiskKind.TheVariants.{Flat, Thin}
use Rattle.fc_base.specs.declared.limits.TheConstants.{LANES}
use Rattle.fc_base.specs.declared.size.GrainSize.TheVariants.{K64}
use Rattle.fc_base.specs.declared.size.GrainSize.{GrainSize}
use Rattle.fc_base.specs.declared.volume.Volume.{Volume}
use Rattle.fc_changed.specs.Row.{Row}
use Rattle.fc_decided.proofs.Lists.{none_in}
use Rattle.fc_desk.proofs.Counting.{count_cons}
use Rattle.fc_desk.specs.Control.{ControlState}
use Rattle.fc_entry.specs.HistoryState.{HistoryState}
use Rattle.fc_format.specs.Halves.{Image, NoImage}
use Rattle.fc_format.specs.Ranges.{HasGoodIds}
use Rattle.fc_grains.specs.Grains.{GrainsState, opened as opened_grains, pool_of, total_of}
use Rattle.fc_grains.specs.Volumes.{VolumeGrains}
use Rattle.fc_grains.proofs.KindCounts.{total-pool}
use Rattle.fc_image.specs.declared.image.MetaImage.{MetaImage}
use Rattle.fc_imaging.specs.Imaging.{kept_of, lost_grains}
use Rattle.fc_kept.specs.Disks.{NamedDisk, disk_of, is_free, is_kind}
use Rattle.fc_kept.specs.Images.{kept_in, meta_of}
use Rattle.fc_kept.specs.Kept.{Kept}
use Rattle.fc_kept.specs.Recoverable.{disks_at}
use Rattle.fc_kept.specs.Sound.{IsSoundImage, IsSoundKept}
use Rattle.fc_lane.specs.Lane.{LaneView}
use Rattle.fc_lanes.specs.Dealing.{Begin, all_dealt, dealt, pools_dealt}
use Rattle.fc_lanes.proofs.Dealing.{few_dealt}
use Rattle.fc_legal.specs.Whole.{Whole, opened, pool_at}
use Rattle.fc_marks.specs.Stops.{stop_of_meta}
use Rattle.fc_marks.specs.declared.error.NotedStop.TheVariants.{LogFull, MetaFailed, MetaFull}
use Rattle.fc_mdisk.specs.Disk.{DiskState, IsFresh, is_flat}
use Rattle.fc_meta.proofs.Moments.{weaker}
use Rattle.fc_meta.proofs.Opening.{blank}
use Rattle.fc_meta.specs.Answers.{LeavesEither, more_calls}
use Rattle.fc_meta.specs.declared.error.MetaError.TheVariants.{Failed, Full, NoMemory}
use Rattle.fc_meta.specs.declared.error.MetaError.{MetaError}
use Rattle.fc_meta.specs.States.{IsResting, found, generation_of, room_of, used_of}
use Rattle.fc_metadisk.specs.Disk.{LeavesOnly, Only}
use Rattle.fc_rules.specs.LaneTold.{LaneOf}
use Rattle.fc_script.specs.Asking.{Fits}
use Rattle.fc_script.specs.declared.script.Script.{Script}
use Rattle.fc_script.specs.declared.script.Script.TheVariants.{Over}
use Rattle.fc_stands.specs.Store.{StandsFor, StoreView}
use Rattle.law_agreeing.specs.Agreeing.{lane_over}
use Rattle.law_crash.specs.Leaving.{HaveTheirDisks}
use Rattle.law_crash.specs.Points.{nothing_kept}
use Rattle.law_crash.specs.Running.{Run.begun}
use Rattle.law_crash.proofs.Opening.{opens}
use Rattle.fc_held.specs.Held.{HasVolumes, HaveVolumes, MatchAll, Matches, is_known}
use Rattle.fc_held.proofs.Holding.{no_name}
use Rattle.fc_held.proofs.Naming.{with_name, without_names}
use Rattle.law_noted.specs.Runs.{HasRun}
use Rattle.fc_marks.specs.Marks.{marked}
use Rattle.fc_marks.specs.Meter.{filled_size}
use Rattle.fc_marks.specs.declared.marks.Mark.{Mark}
use Rattle.fc_noted.proofs.CallsMade.{counts_still}
use Rattle.fc_noted.specs.Metered.{Metered.opened as opened_meter, first_image}
use Rattle.fc_noted.specs.Noted.{BeginsOver, IsNotedAt, NoHistory}
use Rattle.fc_noted.specs.Stopping.{LeavesFirst}
use Rattle.fc_noted.specs.declared.noted.Noted.{Noted}

-- ---- disks without names match lanes without volumes

abbrev without : List DiskState → List NamedDisk
without ds = map (with_name None) ds

abbrev pub first_disks : List (List DiskState) → List (List NamedDisk)
first_disks lists = map without lists

kind_flat : (k : DiskKind) → is_kind Flat k ≡ is_flat k
kind_flat Flat = refl
kind_flat Thin = refl

kind_thin : (k : DiskKind) → is_kind Thin k ≡ not (is_flat k)
kind_thin Flat = refl
kind_thin Thin = refl

count_free : (q : NamedDisk → Bool) (p : DiskState → Bool) → ((d : DiskState) → q (with_name None d) ≡ p d) → (ds : List DiskState) → length (filter q (without ds)) ≡ count_by p ds
count_free q p same [] = refl
count_free q p same (d ∷ ds) =
    ap (λ (b : Bool). length (cond b (with_name None d ∷ filter q (without ds)) (filter q (without ds)))) (same d)
    ∙ (by (p d) (count_free q p same ds) ∙ sym (count_cons p d ds))
  where
    by : (b : Bool) → length (filter q (without ds)) ≡ count_by p ds → length (cond b (with_name None d ∷ filter q (without ds)) (filter q (without ds))) ≡ cond b (suc (count_by p ds)) (count_by p ds)
    by true e = ap suc e
    by false e = e

all_free : (kind : DiskKind) (ds : List DiskState) → length (filter (is_free kind) (without ds)) ≡ of_kind kind (pool_of ds)
all_free Flat ds = count_free (is_free Flat) (λ (d : DiskState). is_flat d.kind) (λ d. kind_flat d.kind) ds
all_free Thin ds = count_free (is_free Thin) (λ (d : DiskState). not (is_flat d.kind)) (λ d. kind_thin d.kind) ds

lane_matches : (l : LaneOf) (named : ℕ) (k : Kept) (g : GrainsState) (ds : List DiskState) → g.volumes ≡ [] → g.disks ≡ pool_of ds → Matches l named k g (without ds)
lane_matches l named k g ds e kinds =
    record {
      once = λ x c. absurd (nowhere x c);
      there = λ x c lt. absurd (nowhere x c);
      none = λ v c. no_name (without ds) v (without_names ds);
      free = λ kind.
          omega (
            arith,
            all_free kind ds,
            ap (λ (vs : List VolumeGrains). length (filter (is_known named kind) vs)) e,
            ap (of_kind kind) kinds,
          );
      bytes = λ x y c lt inside lost. absurd (nowhere x c);
    }
  where
    nowhere : (x : VolumeGrains) → Contains g.volumes x → ⊥
    nowhere x c = none_in x (subst (λ (vs : List VolumeGrains). Contains vs x) e c)

first_unnamed : (lists : List (List DiskState)) (i v : ℕ) → disk_of (disks_at (first_disks lists) i) v ≡ None
first_unnamed [] i v = refl
first_unnamed (ds ∷ lists) zero v = no_name (without ds) v (without_names ds)
first_unnamed (ds ∷ lists) (suc i) v = first_unnamed lists i v

-- ---- lanes that begin

module _ (grain : GrainSize) (n : ℕ) (disks : List DiskState) (lanes : List LaneView) (begin : Begin grain n (all_dealt n disks) lanes) where
  count_dealt : length (all_dealt n disks) ≡ n
  count_dealt = length-map-range_with_len (dealt n disks) 0 n

  count_pools : length (pools_dealt n disks) ≡ n
  count_pools = length-map (all_dealt n disks) pool_of ∙ count_dealt

  count_begun : length lanes ≡ n
  count_begun =
      sym (length-map lanes (λ (v : LaneView). v.grains))
      ∙ (ap (length {A = GrainsState}) begin.grains ∙ (length-map (all_dealt n disks) (opened_grains grain) ∙ count_dealt))

  grains_begun : (i : ℕ) (d : LaneView) → i < length lanes → (get_or lanes i d).grains ≡ opened_grains grain (dealt n disks i)
  grains_begun i d lt =
      sym (get_or-map (λ (v : LaneView). v.grains) lanes i d d.grains lt)
      ∙ (ap (λ (gs : List GrainsState). get_or gs i d.grains) begin.grains
      ∙ (get_or-map (opened_grains grain) (all_dealt n disks) i [] d.grains (omega (arith, lt, count_dealt, count_begun))
      ∙ ap (opened_grains grain) (get_or-map-range_with_len (dealt n disks) 0 n i i [] (omega (arith, lt, count_begun)) (omega arith))))

  pool_begun : (i : ℕ) → i < length lanes → pool_at (pools_dealt n disks) i ≡ pool_of (dealt n disks i)
  pool_begun i lt =
      get_or-map pool_of (all_dealt n disks) i [] (record { flat = 0; thin = 0 }) (omega (arith, lt, count_dealt, count_begun))
      ∙ ap pool_of (get_or-map-range_with_len (dealt n disks) 0 n i i [] (omega (arith, lt, count_begun)) (omega arith))

  none_begun : (i : ℕ) (d : LaneView) → i < length lanes → (get_or lanes i d).grains.volumes ≡ []
  none_begun i d lt = ap (λ (g : GrainsState). g.volumes) (grains_begun i d lt)

  count_first : length (first_disks (all_dealt n disks)) ≡ length lanes
  count_first = length-map (all_dealt n disks) without ∙ (count_dealt ∙ sym count_begun)

  disks_begun : (i : ℕ) → i < length lanes → disks_at (first_disks (all_dealt n disks)) i ≡ without (dealt n disks i)
  disks_begun i lt =
      get_or-map without (all_dealt n disks) i [] [] (omega (arith, lt, count_dealt, count_begun))
      ∙ ap without (get_or-map-range_with_len (dealt n disks) 0 n i i [] (omega (arith, lt, count_begun)) (omega arith))

  free_begun : (i : ℕ) (kind : DiskKind) → i < length lanes → of_kind kind (pool_at (pools_dealt n disks) i) ≤ length (filter (is_free kind) (disks_at (first_disks (all_dealt n disks)) i))
  free_begun i kind lt =
      omega (
        arith,
        ap (of_kind kind) (pool_begun i lt),
        all_free kind (dealt n disks i),
        ap (λ (xs : List NamedDisk). length (filter (is_free kind) xs)) (disks_begun i lt),
      )

  few_begun : (i : ℕ) (d : LaneView) → i < length lanes → total_of (get_or lanes i d).grains.disks ≤ length disks
  few_begun i d lt =
      omega (
        arith,
        ap (λ (g : GrainsState). total_of g.disks) (grains_begun i d lt),
        total-pool (dealt n disks i),
        few_dealt n disks i,
      )

  have_begun : HaveTheirDisks (opened (pools_dealt n disks)) (first_disks (all_dealt n disks))
  have_begun =
      record {
        named = λ i v il c. absurd (none_in v c);
        free = λ i kind il. free_begun i kind (subst (λ (m : ℕ). i < m) count_first il);
      }

  pub has_run : 0 < n → HasRun grain [] (opened (pools_dealt n disks)) [] (record { kept = nothing_kept; disks = first_disks (all_dealt n disks) })
  has_run some =
      record {
        pools = pools_dealt n disks;
        disks = first_disks (all_dealt n disks);
        some = omega (arith, some, count_pools);
        count = count_first ∙ (count_begun ∙ sym count_pools);
        unnamed = λ i v le. first_unnamed (all_dealt n disks) i v;
        run = begun;
        have = have_begun;
      }

  pub have_volumes : (count : ℕ) (s : StoreView) → s.lanes ≡ lanes → s.control.tables.volumes ≡ [] → length disks ≡ count → HaveVolumes count s
  have_volumes count s at none is =
      record {
        volumes = subst (λ (ls : List LaneView). All (HasVolumes s.control.tables.volumes) ls) (sym at) (λ i d lt.
            ap (λ (vs : List VolumeGrains). map (λ (x : VolumeGrains). x.volume) vs) (none_begun i d lt)
            ∙ sym (ap (λ (vs : List Volume). map (λ (v : Volume). v.id) vs) none));
        few = subst (λ (ls : List LaneView). All (λ (v : LaneView). total_of v.grains.disks ≤ count) ls) (sym at) (λ i d lt.
            omega (arith, few_begun i d lt, is));
      }

  pub match_begun : (named : ℕ) → MatchAll grain named nothing_kept lanes (first_disks (all_dealt n disks))
  match_begun named =
      record {
        count = count_first;
        each = λ i d il.
            let lt : i < length lanes = subst (λ (m : ℕ). i < m) count_first il in
            let l : LaneOf = lane_over grain (first_disks (all_dealt n disks)) i in
            let v : LaneView = get_or lanes i d in
            subst (λ (ds : List NamedDisk). Matches l named nothing_kept v.grains ds) (sym (disks_begun i lt))
            (lane_matches l named nothing_kept v.grains (dealt n disks i) (none_begun i d lt) (ap (λ (g : GrainsState). g.disks) (grains_begun i d lt)));
      }

-- ---- the first image

nothing_sound : GrainSize → IsSoundKept nothing_kept
nothing_sound grain = (opens grain [] [] refl).says.sound

first_sound : GrainSize → IsSoundImage (meta_of nothing_kept)
first_sound grain =
    record {
      says = nothing_sound grain;
      slots = λ k d kl. absurd (let l : k < 0 = kl in omega arith);
      lost = λ k d kl. absurd (let l : k < 0 = kl in omega arith);
      changes = λ k d kl. absurd (let l : k < 0 = kl in omega arith);
    }

pub first_ids : HasGoodIds (meta_of nothing_kept)
first_ids =
    record {
      groups = λ k d kl. absurd (let l : k < 0 = kl in omega arith);
      slots = λ k d kl. absurd (let l : k < 0 = kl in omega arith);
      sources = λ k d kl. absurd (let l : k < 0 = kl in omega arith);
      targets = λ k d kl. absurd (let l : k < 0 = kl in omega arith);
    }

-- the image of a store without volumes, by its parts
pub image_of_nothing : (s : StoreView) (control : ControlState) (lanes : List LaneView) (pools : List Pool) (image : MetaImage) → control ≡ s.control → lanes ≡ s.lanes → StandsFor s (opened pools) →
    ((w : Whole) → StandsFor (record { control = control; lanes = lanes }) w → image ≡ meta_of (kept_of w (lost_grains lanes w.books.tables.volumes))) → image ≡ meta_of nothing_kept
image_of_nothing s control lanes pools image same_control same_lanes stands is =
    is (opened pools)
    (subst (λ (ls : List LaneView). StandsFor (record { control = control; lanes = ls }) (opened pools)) (sym same_lanes)
    (subst (λ (c : ControlState). StandsFor (record { control = c; lanes = s.lanes }) (opened pools)) (sym same_control) stands))

-- ---- so it stands for what is told before the first entry

-- A noted store with an image of no volumes, and with nothing at hand.
pub record HasBegun {C D : Type 0} (seen : D → List ℕ) (may_leave : D → List ℕ → Type 0) (lanes : ℕ) (disks : List DiskState) (n : Noted C D) : Type 0 where
  pub begin : Begin n.store.control.grain lanes (all_dealt lanes disks) n.store.lanes
  pub some : 0 < lanes
  pub count : length disks ≡ n.disks
  pub stands : StandsFor n.store (opened (pools_dealt lanes disks))
  pub rests : IsResting seen may_leave n.meta
  pub image : MetaImage
  pub empty : image ≡ meta_of nothing_kept
  pub says : found seen n.meta ≡ Image image
  pub named : n.named ≡ image.next_volume
  pub unmarked : n.marks.items ≡ []
  pub over : n.script ≡ Over
  pub idle : n.under_way ≡ None
  pub generation : generation_of n.meta ≡ 1
  pub used : used_of n.meta ≡ filled_size image
  pub fit : 1 + filled_size image ≤ room_of seen n.meta
  pub called : n.calls ≡ more_calls 4 0

pub begins : {C D : Type 0} (seen : D → List ℕ) (may_leave : D → List ℕ → Type 0) (lanes : ℕ) (disks : List DiskState) (n : Noted C D) → HasBegun seen may_leave lanes disks n →
    IsNotedAt seen may_leave n NoHistory (opened (pools_dealt lanes disks)) []
begins seen may_leave lanes disks n h =
    let grain : GrainSize = n.store.control.grain in
    let none : n.store.control.tables.volumes ≡ [] = ap (λ (t : Tables). t.volumes) h.stands.control.tables in
    record {
      idle = h.idle;
      told = (h.stands, record { actors = refl; entries = refl });
      fits = subst (λ (s : Script). Fits grain n.store.control.tables s) (sym h.over) tt;
      point = record { kept = nothing_kept; disks = first_disks (all_dealt lanes disks) };
      run = has_run grain lanes disks n.store.lanes h.begin h.some;
      keeps = record {
        rests = h.rests;
        image = h.image;
        says = h.says;
        sound = subst IsSoundImage (sym h.empty) (first_sound grain);
        good = subst HasGoodIds (sym h.empty) first_ids;
        kept = ap kept_in h.empty;
        rows = sym (ap (λ (ms : List Mark). marked ms []) h.unmarked);
        named = h.named ∙ ap (λ (i : MetaImage). i.next_volume) h.empty;
        volumes = have_volumes grain lanes disks n.store.lanes h.begin n.disks n.store refl none h.count;
        matches = match_begun grain lanes disks n.store.lanes h.begin n.named;
      };
      counts = record {
        meter = record { image = first_image; generation = 1; used = filled_size first_image; calls = 4; full = None };
        metered = opened_meter (opened (pools_dealt lanes disks)) refl (subst (λ (i : MetaImage). 1 + filled_size i ≤ room_of seen n.meta) h.empty h.fit);
        is = record { image = h.says ∙ ap Image h.empty; generation = h.generation; used = h.used ∙ ap filled_size h.empty; fits = refl };
        calls = h.called;
      };
    }

-- a store that was made of disks
pub begins_over : (grain : GrainSize) (count : ℕ) (disks : List DiskState) (s : StoreView) → length disks ≡ count → count < 2 ^ 30 → All IsFresh disks → StandsFor s (opened (pools_dealt LANES disks)) → s.control.grain ≡ grain →
    Begin grain LANES (all_dealt LANES disks) s.lanes → BeginsOver count disks s
begins_over grain count disks s counted few fresh stands same begin =
    record {
      counted = counted;
      few = few;
      fresh = fresh;
      stands = stands;
      begin = subst (λ (g : GrainSize). Begin g LANES (all_dealt LANES disks) s.lanes) (sym same) begin;
    }

-- ---- before the first image stands

-- Whatever a crash leaves then.
module _ {D : Type 0} (moment : D → ℕ) (left_since : D → ℕ → List ℕ → Type 0) where
  pub leaves_first : (old new : D) (i : MetaImage) → i ≡ meta_of nothing_kept → LeavesOnly moment left_since old new (LeavesEither NoImage (Image i)) → LeavesOnly moment left_since old new LeavesFirst
  leaves_first old new i empty run =
      weaker moment left_since old new (LeavesEither NoImage (Image i)) LeavesFirst either run
    where
      either : (c : List ℕ) → LeavesEither NoImage (Image i) c → LeavesFirst c
      either c (inl none) = inl none
      either c (inr some) = inr (i, some, subst IsSoundImage (sym empty) (first_sound K64), ap kept_in empty)

  -- a disk that isn't called
  pub leaves_untouched : (seen : D → List ℕ) (may_leave : D → List ℕ → Type 0) → ((disk : D) (c : List ℕ) → left_since disk (moment disk) c → may_leave disk c) → (disk : D) →
      seen disk ≡ replicate (length (seen disk)) 0 → Only (seen disk) (may_leave disk) → LeavesOnly moment left_since disk disk LeavesFirst
  leaves_untouched seen may_leave only_now disk zeros synced =
      leaves_first disk disk (meta_of nothing_kept) refl (blank seen may_leave moment left_since only_now disk (meta_of nothing_kept) zeros synced)

pub not_log : (e : MetaError) → stop_of_meta e ≡ LogFull → ⊥
not_log Failed is = cc
not_log NoMemory is = cc
not_log Full is = cc

pub was_failed : (e : MetaError) → stop_of_meta e ≡ MetaFailed → e ≡ Failed
was_failed Failed is = refl
was_failed NoMemory is = absurd cc
was_failed Full is = absurd cc

pub was_full : (e : MetaError) → stop_of_meta e ≡ MetaFull → e ≡ Full
was_full Full is = refl
was_full Failed is = absurd cc
was_full NoMemory is = absurd cc

-- ---- with another script

pub with_script : {C D : Type 0} (seen : D → List ℕ) (may_leave : D → List ℕ → Type 0) (n : Noted C D) (script : Script) (history : HistoryState) (w : Whole) (least : List Row) →
    Fits n.store.control.grain n.store.control.tables script → IsNotedAt seen may_leave n history w least → IsNotedAt seen may_leave (record n { script = script }) history w least
with_script seen may_leave n script history w least fits at =
    record {
      idle = at.idle;
      told = at.told;
      fits = fits;
      point = at.point;
      run = at.run;
      keeps = record {
        rests = at.keeps.rests;
        image = at.keeps.image;
        says = at.keeps.says;
        sound = at.keeps.sound;
        good = at.keeps.good;
        kept = at.keeps.kept;
        rows = at.keeps.rows;
        named = at.keeps.named;
        volumes = at.keeps.volumes;
        matches = at.keeps.matches;
      };
      counts = counts_still seen may_leave n (record n { script = script }) history.entries w refl refl refl at.counts;
    }
