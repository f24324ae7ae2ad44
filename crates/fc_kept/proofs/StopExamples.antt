-- What is recovered after a stop, on the closed example: A was about to be written, and its grain was moved to B before.
use Rattle.std.proofs.Common.{◌^◌, ◌≡◌, ℕ, zero, suc, ◌<◌, true, false, Some, None, List, [], ◌∷◌, length, codes, Contains, refl, sym, ap, subst, ◌∙◌, arith, inl, inr}
use Rattle.std.specs.Prelude.{IsSome, slice_index_or}
use Rattle.std.specs.Option.{ForSome}
use Rattle.fc_base.specs.Column.{last_below, first_below, holder}
use Rattle.fc_base.specs.Need.{is_complete}
use Rattle.fc_base.specs.RestoreGraph.{Edge, Way, Way.last_edge, Way.next_edge}
use Rattle.fc_base.specs.Sheet.{Slot, slot_at, shape_of, column, live_place, mapping_place}
use Rattle.fc_base.specs.SheetFacts.{IsSound}
use Rattle.fc_base.specs.Tables.{volume_with}
use Rattle.fc_base.specs.declared.disk.DiskKind.TheVariants.{Flat}
use Rattle.fc_base.specs.declared.request.Request.TheVariants.{Write}
use Rattle.fc_base.specs.declared.size.GrainSize.TheVariants.{K64}
use Rattle.fc_base.specs.declared.volume.Mapping.{Mapping}
use Rattle.fc_base.specs.declared.volume.Volume.{Volume}
use Rattle.fc_base.specs.declared.state.MapState.TheVariants.{Empty, Copying}
use Rattle.fc_books.proofs.Examples.{vol, volume, mapping}
use Rattle.fc_books.specs.Accesses.{is_idle}
use Rattle.fc_books.specs.Sound.{AreSound, IsOfTables, SlotByState}
use Rattle.fc_decided.proofs.Lists.{in_cases, none_in, first_in}
use Rattle.fc_entry.specs.Picture.{Bytes, PlainVolume, Picture, content_at}
use Rattle.fc_legal.specs.Whole.{Whole, lane_at, part_of_sheet, part_of_picture}
use Rattle.fc_rules.specs.LaneTold.{LaneOf, grains_in}
use Rattle.fc_rules.specs.Shows.{Stored, Shown, Shows}
use Rattle.fc_kept.specs.Images.{size_in}
use Rattle.fc_kept.specs.Sound.{books_of, IsSoundKept}
use Rattle.fc_kept.specs.Drops.{DropsTo.same}
use Rattle.fc_kept.specs.Disks.{NamedDisk, disk_of, stored_on, FitDisks}
use Rattle.fc_kept.specs.OneGrain.{Another, with_another}
use Rattle.fc_kept.specs.Recoverable.{disks_at, Says, ShowsAll, Recoverable}
use Rattle.fc_kept.proofs.Examples.{tables, chain_with, started, copied, ones, twos, nulls, plain, whole_with, part, before, disk_with, stop_behind}

-- ---- cases

below_two : (P : ℕ → Type 0) → P 0 → P 1 → (k : ℕ) → k < 2 → P k
below_two P a b zero lt = a
below_two P a b (suc zero) lt = b
below_two P a b (suc (suc k)) lt = absurd (omega arith)

abbrev slots : List Slot
slots = (chain_with (true ∷ false ∷ [])).slots

abbrev a_volume : Volume
a_volume = volume 0 (codes "A") 2

abbrev b_volume : Volume
b_volume = volume 1 (codes "B") 2

abbrev the_mapping : Mapping
the_mapping = mapping 0 (codes "fcmap0") 0 1 Copying

of_volumes : (P : Volume → Type 0) → P a_volume → P b_volume → (v : Volume) → Contains tables.volumes v → P v
of_volumes P a b v c =
    elim (in_cases a_volume v (b_volume ∷ []) c) [
      | inl e ↦ subst P e a
      | inr d ↦ elim (in_cases b_volume v [] d) [ inl e ↦ subst P e b | inr n ↦ absurd (none_in v n) ]
    ]

of_mappings : (P : Mapping → Type 0) → P the_mapping → (m : Mapping) → Contains tables.mappings m → P m
of_mappings P a m c = elim (in_cases the_mapping m [] c) [ inl e ↦ subst P e a | inr n ↦ absurd (none_in m n) ]

-- ---- the chains are sound

no_edge : (v w : ℕ) → Edge (shape_of slots) v w → ⊥
no_edge v w e =
    let b : e.old < e.live = e.before in
    let t : e.live < 2 = e.there in
    below_two (λ k. (slot_at slots k).is_live ≡ false → ⊥) (λ q. let f : true ≡ false = q in cc) (λ q. let f : true ≡ false = q in cc) e.old (omega arith) e.old_is_old

no_way : (v w : ℕ) → Way (shape_of slots) v w → ⊥
no_way v w (last_edge e) = no_edge v w e
no_way v x (next_edge {w = w} e k) = no_edge v w e

chains_sound : IsSound (chain_with (true ∷ false ∷ []))
unfolding holder last_below
chains_sound =
    record {
      names = record {
        births = below_two (λ k. (slot_at slots k).birth < 3) (omega arith) (omega arith);
        apart = λ i j il jl. below_two (λ i. (slot_at slots i).birth ≡ (slot_at slots j).birth → i ≡ j)
            (below_two (λ j. 0 ≡ (slot_at slots j).birth → 0 ≡ j) (λ e. refl) (λ e. absurd (let f : 0 ≡ 2 = e in omega arith)) j jl)
            (below_two (λ j. 2 ≡ (slot_at slots j).birth → 1 ≡ j) (λ e. absurd (let f : 2 ≡ 0 = e in omega arith)) (λ e. refl) j jl) i il;
        chains = below_two (λ k. (slot_at slots k).chain < 3) (omega arith) (omega arith);
        fresh = λ i j m il jl. below_two (λ i. (slot_at slots i).mapping ≡ Some m → (slot_at slots j).chain ≡ (slot_at slots i).birth → ⊥)
            (λ e q. let f : None ≡ Some m = e in cc)
            (λ e q. below_two (λ j. (slot_at slots j).chain ≡ 2 → ⊥) (λ f. let g : 0 ≡ 2 = f in omega arith) (λ f. let g : 0 ≡ 2 = f in omega arith) j jl q) i il;
      };
      sizes = record {
        of_chain = λ i j il jl e. below_two (λ i. length (slot_at slots i).held ≡ 2) refl refl i il ∙ sym (below_two (λ j. length (slot_at slots j).held ≡ 2) refl refl j jl);
        of_volume = λ i j il jl e. below_two (λ i. length (slot_at slots i).held ≡ 2) refl refl i il ∙ sym (below_two (λ j. length (slot_at slots j).held ≡ 2) refl refl j jl);
      };
      mappings = record {
        one_slot = λ i j m il jl. below_two (λ i. (slot_at slots i).mapping ≡ Some m → (slot_at slots j).mapping ≡ Some m → i ≡ j)
            (λ e q. absurd (let f : None ≡ Some m = e in cc))
            (λ e. below_two (λ j. (slot_at slots j).mapping ≡ Some m → 1 ≡ j) (λ q. absurd (let f : None ≡ Some m = q in cc)) (λ q. refl) j jl) i il;
        complete = below_two (λ k. (slot_at slots k).is_live ≡ true → (slot_at slots k).mapping ≡ None → is_complete (slot_at slots k) ≡ true) (λ l e. refl) (λ l e. absurd (let f : Some 0 ≡ None = e in cc));
      };
      one_live = λ i j il jl a b. below_two (λ i. (slot_at slots i).volume ≡ (slot_at slots j).volume → i ≡ j)
          (below_two (λ j. 0 ≡ (slot_at slots j).volume → 0 ≡ j) (λ e. refl) (λ e. absurd (let f : 0 ≡ 1 = e in omega arith)) j jl)
          (below_two (λ j. 1 ≡ (slot_at slots j).volume → 1 ≡ j) (λ e. absurd (let f : 1 ≡ 0 = e in omega arith)) (λ e. refl) j jl) i il;
      lives = λ k kl. (k, kl, below_two (λ k. (slot_at slots k).is_live ≡ true) refl refl k kl, refl);
      holders = λ g k kl l gl.
          let low : g < 2 = omega (arith, below_two (λ k. length (slot_at slots k).held ≡ 2) refl refl k kl) in
          below_two (λ g. (h : ℕ) × (holder (column slots g) k ≡ Some h))
          (below_two (λ k. (h : ℕ) × (holder (column slots 0) k ≡ Some h)) (0, refl) (1, refl) k kl)
          (below_two (λ k. (h : ℕ) × (holder (column slots 1) k ≡ Some h)) (0, refl) (0, refl) k kl) g low;
      no_loop = λ v way. no_way v v way;
    }

-- ---- and so is all that metadata says

-- the second of two is the one after the first
pairs_of_two : (P : ℕ → ℕ → Type 0) → P 0 1 → (i j : ℕ) → i < j → j < 2 → P i j
pairs_of_two P a zero (suc zero) ij jl = a
pairs_of_two P a zero zero ij jl = absurd (omega arith)
pairs_of_two P a (suc i) zero ij jl = absurd (omega arith)
pairs_of_two P a (suc i) (suc zero) ij jl = absurd (omega arith)
pairs_of_two P a i (suc (suc j)) ij jl = absurd (omega arith)

names_differ : codes "A" ≡ codes "B" → ⊥
names_differ e = let f : ◌≡◌ {A = ℕ} 65 66 = cc in omega arith

books_sound : AreSound (books_of copied)
unfolding live_place mapping_place first_below
books_sound =
    record {
      tables = record {
        volumes = record {
          rising = λ i j d. pairs_of_two (λ i j. (slice_index_or tables.volumes i d).id.0 < (slice_index_or tables.volumes j d).id.0) (omega arith) i j;
          distinct = λ i j d. pairs_of_two (λ i j. (slice_index_or tables.volumes i d).name ≡ (slice_index_or tables.volumes j d).name → ⊥) names_differ i j;
        };
        mappings = record { rising = λ i j d ij jl. absurd (let l : j < 1 = jl in omega arith); distinct = λ i j d ij jl e. let l : j < 1 = jl in omega arith };
        groups = record { rising = λ i j d ij jl. absurd (let l : j < 0 = jl in omega arith); distinct = λ i j d ij jl e. let l : j < 0 = jl in omega arith };
        new_volume = λ k d. below_two (λ k. (slice_index_or tables.volumes k d).id.0 < 2) (omega arith) (omega arith) k;
        new_mapping = λ k d kl. one_below (λ k. (slice_index_or tables.mappings k d).id.0 < 1) (omega arith) k kl;
        new_group = λ k d kl. absurd (let l : k < 0 = kl in omega arith);
      };
      flags = record { rising = λ i j d ij jl. absurd (let l : j < 0 = jl in omega arith); given = λ k d kl. absurd (let l : k < 0 = kl in omega arith) };
      sheet = chains_sound;
      agree = record {
        volumes = of_volumes (λ v. (k : ℕ) × (live_place slots v.id.0 ≡ Some k) × (length (slot_at slots k).held ≡ v.grains)) (0, refl, refl) (1, refl, refl);
        slots = below_two (λ k. IsSome (volume_with tables record { 0 = (slot_at slots k).volume })) refl refl;
        owned = below_two (λ k. ForSome (slot_at slots k).mapping (λ n. (m : Mapping) × Contains tables.mappings m × (m.id.0 ≡ n)))
            (λ n e. absurd (let f : None ≡ Some n = e in cc))
            (λ n e. (the_mapping, first_in the_mapping [], let f : Some 0 ≡ Some n = e in cc));
        mappings = of_mappings (IsOfTables tables) of_tables;
        by_state = of_mappings (λ m. SlotByState m.state slots m) (record { place = 1; is_there = refl; of_target = refl; liveness = refl });
        one_busy = λ m n mc nc. of_mappings (λ m. m.target.0 ≡ n.target.0 → is_idle m.state ≡ false → is_idle n.state ≡ false → m.id.0 ≡ n.id.0)
            (of_mappings (λ n. 1 ≡ n.target.0 → false ≡ false → is_idle n.state ≡ false → 0 ≡ n.id.0) (λ t a b. refl) n nc) m mc;
      };
    }
  where
    one_below : (P : ℕ → Type 0) → P 0 → (k : ℕ) → k < 1 → P k
    one_below P a zero lt = a
    one_below P a (suc k) lt = absurd (omega arith)

    of_tables : IsOfTables tables the_mapping
    of_tables =
        record {
          source = refl;
          target = refl;
          apart = λ e. let f : 0 ≡ 1 = e in omega arith;
          as_large = λ v e. let f : Some a_volume ≡ Some v = e in let q : a_volume ≡ v = cc in ap (λ (z : Volume). z.grains) q;
          group = λ g e. absurd (let f : None ≡ Some g = e in cc);
          state = λ e. let f : Copying ≡ Empty = e in cc;
        }

copied_sound : IsSoundKept copied
copied_sound =
    record {
      books = books_sound;
      rows = record { each = λ k d kl. absurd (let l : k < 0 = kl in omega arith); distinct = λ i j d ij jl e. let l : j < 0 = jl in omega arith };
      into = λ k d kl. absurd (let l : k < 0 = kl in omega arith);
      lost = record {
        volumes = refl;
        sizes = λ k d. below_two (λ k. length (slice_index_or copied.lost k d).lost ≡ size_in tables record { 0 = (slice_index_or copied.lost k d).volume }) refl refl k;
      };
      grains = λ k d. below_two (λ k. (slice_index_or tables.volumes k d).grains < 2 ^ 32) (omega arith) (omega arith) k;
      births = omega arith;
      volume_ids = omega arith;
      mapping_ids = omega arith;
      group_ids = omega arith;
    }

-- ---- the disks

-- A's disk with this in its first grain, and B's with its copy of what A held
abbrev a_disk : List ℕ → NamedDisk
a_disk a = record { volume = Some (vol 0); disk = disk_with (a ∷ (0 ∷ []) ∷ []) }

abbrev b_disk : NamedDisk
b_disk = record { volume = Some (vol 1); disk = disk_with ((1 ∷ []) ∷ (0 ∷ []) ∷ []) }

abbrev disks : List ℕ → List NamedDisk
disks a = a_disk a ∷ b_disk ∷ []

abbrev moved_whole : Whole
moved_whole = whole_with (true ∷ false ∷ []) ones

abbrev lane : LaneOf
lane = lane_at K64 moved_whole 0

some_is : {X : Type 0} (x y : X) → Some x ≡ Some y → x ≡ y
some_is x y e = cc

some_none : {X : Type 0} (x : X) → Some x ≡ None → ⊥
some_none x e = cc

abbrev FlatOfTwo : NamedDisk → Type 0
FlatOfTwo d = (d.disk.kind ≡ Flat) × (length d.disk.grains ≡ 2)

disks_fit : (a : List ℕ) → FitDisks lane (disks a) tables
disks_fit a =
    record {
      named = λ v d c. of_volumes (λ v. disk_of (disks a) v.id.0 ≡ Some d → (d.disk.kind ≡ v.kind) × (length d.disk.grains ≡ grains_in lane v.grains))
          (λ e. subst FlatOfTwo (some_is (a_disk a) d e) (refl, refl)) (λ e. subst FlatOfTwo (some_is b_disk d e) (refl, refl)) v c;
      unnamed = λ v c. of_volumes (λ v. disk_of (disks a) v.id.0 ≡ None → (d : NamedDisk) × Contains (disks a) d × (d.volume ≡ None) × (d.disk.kind ≡ v.kind))
          (λ e. absurd (some_none (a_disk a) e)) (λ e. absurd (some_none b_disk e)) v c;
      one = λ v w vc wc. of_volumes (λ v. disk_of (disks a) v.id.0 ≡ None → disk_of (disks a) w.id.0 ≡ None → v.id.0 ≡ w.id.0)
          (λ e q. absurd (some_none (a_disk a) e)) (λ e q. absurd (some_none b_disk e)) v vc;
    }

-- ---- what they show

abbrev picture : List ℕ → Picture
picture a = plain 0 (Bytes a) nulls ∷ plain 1 ones nulls ∷ []

abbrev stored : List ℕ → Stored
stored a = stored_on lane (disks a) copied

shows_a : (a : List ℕ) → Shown slots (picture a) (stored a) 0
unfolding holder last_below
shows_a a =
    record {
      plain = plain 0 (Bytes a) nulls;
      there = refl;
      nows = refl;
      unders = refl;
      now = λ g h gl e. below_two (λ g. holder (column slots g) 0 ≡ Some h → content_at (Bytes a ∷ nulls ∷ []) g ≡ stored a (slot_at slots h).volume g)
          (λ q. subst (λ z. Bytes a ≡ stored a (slot_at slots z).volume 0) (some_is 0 h q) refl)
          (λ q. subst (λ z. nulls ≡ stored a (slot_at slots z).volume 1) (some_is 0 h q) refl) g gl e;
      under = λ g gl e. below_two (λ g. slice_index_or (true ∷ true ∷ []) g false ≡ false → content_at (nulls ∷ nulls ∷ []) g ≡ stored a 0 g)
          (λ q. absurd (let f : true ≡ false = q in cc)) (λ q. absurd (let f : true ≡ false = q in cc)) g gl e;
    }

shows_b : (a : List ℕ) → Shown slots (picture a) (stored a) 1
unfolding holder last_below
shows_b a =
    record {
      plain = plain 1 ones nulls;
      there = refl;
      nows = refl;
      unders = refl;
      now = λ g h gl e. below_two (λ g. holder (column slots g) 1 ≡ Some h → content_at (ones ∷ nulls ∷ []) g ≡ stored a (slot_at slots h).volume g)
          (λ q. subst (λ z. ones ≡ stored a (slot_at slots z).volume 0) (some_is 1 h q) refl)
          (λ q. subst (λ z. nulls ≡ stored a (slot_at slots z).volume 1) (some_is 0 h q) refl) g gl e;
      under = λ g gl e. below_two (λ g. slice_index_or (true ∷ false ∷ []) g false ≡ false → content_at (nulls ∷ nulls ∷ []) g ≡ stored a 1 g)
          (λ q. absurd (let f : true ≡ false = q in cc)) (λ q. refl) g gl e;
    }

shows_both : (a : List ℕ) → Shows slots (picture a) (stored a)
unfolding live_place first_below
shows_both a =
    record {
      each = λ k kl l. below_two (λ k. Shown slots (picture a) (stored a) k) (shows_a a) (shows_b a) k kl;
      only = λ p c. elim (in_cases (plain 0 (Bytes a) nulls) p (plain 1 ones nulls ∷ []) c) [
        | inl e ↦ subst (λ (z : PlainVolume). IsSome (live_place slots z.volume.0)) e refl
        | inr d ↦ elim (in_cases (plain 1 ones nulls) p [] d) [
          | inl e ↦ subst (λ (z : PlainVolume). IsSome (live_place slots z.volume.0)) e refl
          | inr n ↦ absurd (none_in p n)
        ]
      ];
      apart = λ i j d. pairs_of_two (λ i j. (slice_index_or (picture a) i d).volume.0 ≡ (slice_index_or (picture a) j d).volume.0 → ⊥) (λ e. let f : 0 ≡ 1 = e in omega arith) i j;
    }

-- ---- stops

only_lane : (P : ℕ → Type 0) → P 0 → (i : ℕ) → i < 1 → P i
only_lane P a zero lt = a
only_lane P a (suc i) lt = absurd (omega arith)

it_says : (a : List ℕ) → Says K64 (disks a ∷ []) copied moved_whole []
it_says a =
    record {
      sound = copied_sound;
      tables = refl;
      next_volume = refl;
      next_mapping = refl;
      next_group = refl;
      slots = same;
      rows = tt;
      count = refl;
      fit = only_lane (λ i. FitDisks (lane_at K64 moved_whole i) (disks_at (disks a ∷ []) i) tables) (disks_fit a);
    }

-- behind the move's record: the five entries, with the move; both read what A held
behind_the_record : Recoverable K64 (disks (1 ∷ []) ∷ []) copied before [] (Some (Write part)) None
behind_the_record =
    record {
      now = moved_whole;
      least_now = [];
      is = stop_behind;
      says = it_says (1 ∷ []);
      shows = only_lane (λ i. Shows (part_of_sheet (lane_at K64 moved_whole i) copied.sheet).slots (part_of_picture (lane_at K64 moved_whole i) moved_whole.picture) (stored_on (lane_at K64 moved_whole i) (disks_at (disks (1 ∷ []) ∷ []) i) copied)) (shows_both (1 ∷ []));
      marked = tt;
    }

-- behind the data of the write: A shows what was written
abbrev written_grain : Another
written_grain = record { volume = 0; grain = 0; content = twos }

behind_the_data : Recoverable K64 (disks (2 ∷ []) ∷ []) copied before [] (Some (Write part)) (Some written_grain)
unfolding live_place first_below holder last_below
behind_the_data =
    record {
      now = moved_whole;
      least_now = [];
      is = stop_behind;
      says = it_says (2 ∷ []);
      shows = only_lane (λ i. Shows (part_of_sheet (lane_at K64 moved_whole i) copied.sheet).slots (part_of_picture (lane_at K64 moved_whole i) (with_another (Some written_grain) copied.sheet.slots moved_whole.picture)) (stored_on (lane_at K64 moved_whole i) (disks_at (disks (2 ∷ []) ∷ []) i) copied)) (shows_both (2 ∷ []));
      marked = λ own k d kl. absurd (let l : k < 0 = kl in omega arith);
    }

-- but A's data may not be written before the move's record is on the disk: B would show them
not_before_the_record : ShowsAll K64 (disks (2 ∷ []) ∷ []) started before (Some written_grain) started.sheet → ⊥
unfolding live_place first_below holder last_below
not_before_the_record h =
    let b = (h 0 (omega arith)).each 1 (omega arith) refl in
    let plain_is : plain 1 ones nulls ≡ b.plain = some_is (plain 1 ones nulls) b.plain b.there in
    let shown : content_at b.plain.now 0 ≡ twos = b.now 0 0 (omega arith) refl in
    let e : ones ≡ twos = ap (λ (z : PlainVolume). content_at z.now 0) plain_is ∙ shown in
    let f : ◌≡◌ {A = ℕ} 1 2 = cc in omega arith
