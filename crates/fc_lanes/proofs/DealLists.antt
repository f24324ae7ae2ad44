-- Lists of disks, as they are dealt, and the lanes that begin over them.
use Rattle.std.proofs.Common.{◌≡◌, ℕ, suc, zero, ◌+◌, ◌%◌, ◌<◌, List, [], ◌∷◌, ◌++◌, length, map, get_or, replicate, slice_set, Vec, refl, sym, ap, ap₂, subst, ◌∙◌, arith}
use Rattle.std.specs.List.{All, range_with_len}
use Rattle.std.proofs.lemmas.List.{append_assoc, get_or-map, length-append, length-map, map-append, map-set}
use Rattle.std.proofs.lemmas.List.Elements.{All-nil, All-cons, All-append}
use Rattle.std.proofs.lemmas.List.FromFn.{length-map-range_with_len}
use Rattle.std.proofs.lemmas.Nat.{mod_below}
use Rattle.fc_base.specs.declared.size.GrainSize.{GrainSize}
use Rattle.fc_grains.specs.Grains.{GrainsState, opened, silent_of}
use Rattle.fc_grains.specs.Quiet.{IsQuiet}
use Rattle.fc_lane.specs.Lane.{LaneView, IsFollowing, begun}
use Rattle.fc_mdisk.specs.Disk.{DiskState}
use Rattle.fc_lanes.specs.Dealing.{Begin, Begins, FitLane, all_dealt, dealt, lists_of}
use Rattle.fc_lanes.proofs.Dealing.{deal_step}

-- ---- the lists

none_from : (n a m : ℕ) → map (dealt n []) (range_with_len a m) ≡ replicate m []
none_from n a zero = refl
none_from n a (suc m) = ap (λ (xs : List (List DiskState)). [] ∷ xs) (none_from n (a + 1) m)

pub none_dealt : (n : ℕ) → replicate n [] ≡ all_dealt n []
none_dealt n = sym (none_from n 0 n)

-- one more of the front was done
pub moved : {X : Type 0} → (done : List X) (x : X) (rest all : List X) → done ++ x ∷ rest ≡ all → (done ++ x ∷ []) ++ rest ≡ all
moved done x rest all is = append_assoc done (x ∷ []) rest ∙ is

pub some_left : {X : Type 0} → (done : List X) (x : X) (rest all : List X) → done ++ x ∷ rest ≡ all → length done < length all
some_left {X} done x rest all is = omega (arith, ap (length {A = X}) is, length-append done (x ∷ rest))

module _ {D Z : Type 0} (meaning : D → DiskState) where
  pub lists_count : (n : ℕ) (done : List DiskState) (lists : List (Vec D Z)) → lists_of meaning lists ≡ all_dealt n done → length lists ≡ n
  lists_count n done lists are =
      sym (length-map lists (λ (x : Vec D Z). map meaning x.items)) ∙ ap (length {A = List DiskState}) are ∙ length-map-range_with_len (dealt n done) 0 n

  pub disk_dealt : (n : ℕ) → 0 < n → (done : List DiskState) (number : ℕ) (lists : List (Vec D Z)) (old new : Vec D Z) (disk : D) →
      number ≡ length done → lists_of meaning lists ≡ all_dealt n done → old ≡ get_or lists (number % n) old → new.items ≡ old.items ++ disk ∷ [] →
      lists_of meaning (slice_set lists (number % n) new) ≡ all_dealt n (done ++ meaning disk ∷ [])
  disk_dealt n some done number lists old new disk is are was more =
      let m : Vec D Z → List DiskState = λ x. map meaning x.items in
      let k : ℕ = number % n in
      let within : k < length lists = omega (arith, mod_below number n some, lists_count n done lists are) in
      let own : get_or (all_dealt n done) k [] ≡ m old =
      ap (λ (xs : List (List DiskState)). get_or xs k []) (sym are) ∙ get_or-map m lists k old [] within ∙ ap m (sym was) in
      let put : m new ≡ get_or (all_dealt n done) k [] ++ meaning disk ∷ [] =
      ap (map meaning) more ∙ map-append meaning old.items (disk ∷ []) ∙ ap (λ (xs : List DiskState). xs ++ meaning disk ∷ []) (sym own) in
      map-set m lists k new
      ∙ ap₂ (λ (xs : List (List DiskState)) (x : List DiskState). slice_set xs k x) are put
      ∙ ap (λ j. slice_set (all_dealt n done) j (get_or (all_dealt n done) j [] ++ meaning disk ∷ [])) (ap (λ j. j % n) is)
      ∙ deal_step n some done (meaning disk)

-- ---- the lanes

pub first_fits : (x : List DiskState) (xs : List (List DiskState)) → All FitLane (x ∷ xs) → FitLane x
first_fits x xs all = all 0 x (omega arith)

pub rest_fits : (x : List DiskState) (xs : List (List DiskState)) → All FitLane (x ∷ xs) → All FitLane xs
rest_fits x xs all k d lt = all (suc k) d (omega (arith, lt))

pub none_begin : (grain : GrainSize) (n : ℕ) → Begin grain n [] []
none_begin grain n = record { numbers = refl; grains = refl; each = All-nil (Begins n) }

pub count_begun : (grain : GrainSize) (n : ℕ) (lists : List (List DiskState)) (ls : List LaneView) → Begin grain n lists ls → length ls ≡ length lists
count_begun grain n lists ls begin =
    sym (length-map ls (λ (v : LaneView). v.grains)) ∙ ap (length {A = GrainsState}) begin.grains ∙ length-map lists (opened grain)

range_more : (a n : ℕ) → range_with_len a (suc n) ≡ range_with_len a n ++ (a + n) ∷ []
range_more a zero = ap (λ x. x ∷ []) (omega arith)
range_more a (suc n) = ap (λ (xs : List ℕ). a ∷ xs) (range_more (a + 1) n ∙ ap (λ x. range_with_len (a + 1) n ++ x ∷ []) (omega arith))

pub one_begins : (grain : GrainSize) (n : ℕ) (lists : List (List DiskState)) (ls : List LaneView) (disks : List DiskState) (v : LaneView) →
    Begin grain n lists ls → v.lane ≡ length ls → v.lanes ≡ n → v.grains ≡ opened grain disks → IsFollowing v (record { told = begun (opened grain disks); rows = []; rooms = [] }) → (silent_of disks ≡ 0 → IsQuiet v.grains) →
    Begin grain n (lists ++ disks ∷ []) (ls ++ v ∷ [])
one_begins grain n lists ls disks v begin lane lanes grains stands quiet =
    let number : LaneView → ℕ = λ x. x.lane in
    let of : LaneView → GrainsState = λ x. x.grains in
    let from_zero : length ls ≡ 0 + length ls = omega arith in
    let longer : suc (length ls) ≡ length (ls ++ v ∷ []) = omega (arith, length-append ls (v ∷ [])) in
    record {
      numbers =
          map-append number ls (v ∷ [])
          ∙ ap₂ (λ (xs : List ℕ) x. xs ++ x ∷ []) begin.numbers lane
          ∙ ap (λ x. range_with_len 0 (length ls) ++ x ∷ []) from_zero
          ∙ sym (range_more 0 (length ls))
          ∙ ap (range_with_len 0) longer;
      grains =
          map-append of ls (v ∷ [])
          ∙ ap₂ (λ (xs : List GrainsState) (x : GrainsState). xs ++ x ∷ []) begin.grains grains
          ∙ sym (map-append (opened grain) lists (disks ∷ []));
      each = All-append (Begins n) ls (v ∷ []) begin.each (All-cons (Begins n) v [] (record {
        lanes_are = lanes;
        stands = subst (λ (g : GrainsState). IsFollowing v (record { told = begun g; rows = []; rooms = [] })) (sym grains) stands;
        quiet = λ told. quiet (sym (ap (λ (g : GrainsState). g.silent) grains) ∙ told);
      }) (All-nil (Begins n)));
    }

-- Over the lists that were dealt.
pub begin_dealt : (grain : GrainSize) (count n : ℕ) (disks : List DiskState) (lists : List (List DiskState)) (ls : List LaneView) → count ≡ n → lists ≡ all_dealt n disks → Begin grain count lists ls → Begin grain n (all_dealt n disks) ls
begin_dealt grain count n disks lists ls number are begin =
    subst (λ k. Begin grain k (all_dealt n disks) ls) number (subst (λ (xs : List (List DiskState)). Begin grain count xs ls) are begin)
