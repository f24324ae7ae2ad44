-- The least grain of a lane and of all lanes, found place by place; and the turns of a lane by its part of what is told.
use mathlib.Core.Path.{fun_ext}
use Rattle.std.proofs.Common.{◌≡◌, ℕ, zero, suc, ◌+◌, ◌-◌, ◌*◌, ◌/◌, ◌^◌, ◌<◌, ◌≤◌, Bool, true, false, cond, Option, Some, None, List, length, get_or, option_map, is_some, refl, sym, ap, ap₂, subst, ◌∙◌, arith, inl, inr}
use Rattle.std.proofs.Math.Nat.{add-div_right, div-eq_of_lt, lt_trans}
use Rattle.std.proofs.lemmas.Bool.{cases_lt}
use Rattle.fc_base.specs.Column.{first_below}
use Rattle.fc_base.specs.Sheet.{Slot, mapping_place, slot_at}
use Rattle.fc_base.specs.declared.ids.GrainNo.{GrainNo}
use Rattle.fc_base.specs.declared.ids.MapId.{MapId}
use Rattle.fc_base.specs.declared.size.GrainSize.{GrainSize}
use Rattle.fc_legal.proofs.Events.{one_lane}
use Rattle.fc_legal.specs.Seconds.{Work as MappingWork, filled_by, next_grain}
use Rattle.fc_legal.specs.Whole.{Whole, lanes, lane_at, part_at, single_lane}
use Rattle.fc_parts.proofs.Numbers.{IsLane, all_place, none_in, number_below, number_is_of, place_of_number}
use Rattle.fc_parts.proofs.Spots.{copied_parts, cleaned_parts}
use Rattle.fc_parts.proofs.Views.{parts, mapping_parts, size_parts}
use Rattle.fc_pick.proofs.First.{find_first, find_none}
use Rattle.fc_pick.specs.Next.{can_work, next_work}
use Rattle.fc_pick.specs.declared.work.WorkFlags.{WorkFlags}
use Rattle.fc_rules.specs.LaneTold.{LaneOf, number_at, grains_in}
use Rattle.fc_rules.specs.LaneTurn.{copied_slot, cleaned_slot, grains_of, least_grain, next_copy, next_clean}
use Rattle.fc_check_lane.specs.Known.{Known, known_of}
use Rattle.fc_check_lane.specs.Turns.{HasFewGrains, has_work, filled_in, least_in, least_of, next_in}
use Rattle.fc_check_lane.specs.declared.turn.Work.{Work}
use Rattle.fc_check_lane.specs.declared.turn.Work.TheVariants.{Copying, Cleaning}

-- ---- the first number below a bound that passes

first_step : (test : ℕ → Bool) (n : ℕ) → first_below test n ≡ None → first_below test (suc n) ≡ cond (test n) (Some n) None
unfolding first_below
first_step test n e = by (first_below test n) e
  where
    by : (o : Option ℕ) → o ≡ None → elim o [ Some k ↦ Some k | None ↦ cond (test n) (Some n) None ] ≡ cond (test n) (Some n) None
    by None e = refl
    by (Some k) e = absurd cc

first_kept : (test : ℕ → Bool) (n k : ℕ) → first_below test n ≡ Some k → first_below test (suc n) ≡ Some k
unfolding first_below
first_kept test n k e = by (first_below test n) e
  where
    by : (o : Option ℕ) → o ≡ Some k → elim o [ Some j ↦ Some j | None ↦ cond (test n) (Some n) None ] ≡ Some k
    by None e = absurd cc
    by (Some j) e = e

pub first_none : (test : ℕ → Bool) (n : ℕ) → ((j : ℕ) → j < n → test j ≡ false) → first_below test n ≡ None
unfolding first_below
first_none test zero none = refl
first_none test (suc n) none =
    first_step test n (first_none test n (λ j lt. none j (omega arith))) ∙ ap (λ b. cond b (Some n) None) (none n (omega arith))

pub first_found : (test : ℕ → Bool) (n k : ℕ) → k < n → ((j : ℕ) → j < k → test j ≡ false) → test k ≡ true → first_below test n ≡ Some k
first_found test zero k lt none so = absurd (omega arith)
first_found test (suc n) k lt none so =
    elim (cases_lt k n) [
      | inl less ↦ first_kept test n k (first_found test n k less none so)
      | inr past ↦ (let e : k ≡ n = omega arith in
          first_step test n (first_none test n (λ j less. none j (omega arith)))
          ∙ (ap (λ b. cond b (Some n) None) (ap test (sym e) ∙ so) ∙ ap Some (sym e)))
    ]

-- ---- the least grain, place by place

abbrev numbered : ℕ → GrainNo
numbered n = record { 0 = n }

-- the places so far can't be filled
pub least_some : (work : Work) (k : Known) (l : LaneOf) (m place number : ℕ) → place < grains_in l (grains_of k.sheet.slots (mapping_place k.sheet.slots m)) →
    ((j : ℕ) → j < place → is_some (filled_in work k m (number_at l j)) ≡ false) → number ≡ number_at l place → is_some (filled_in work k m number) ≡ true →
    Some (record { 0 = number }) ≡ least_of work k l m
least_some work k l m place number lt none is so =
    let test : ℕ → Bool = λ g. is_some (filled_in work k m (number_at l g)) in
    let found : first_below test (grains_in l (grains_of k.sheet.slots (mapping_place k.sheet.slots m))) ≡ Some place =
    first_found test _ place lt none (ap (λ z. is_some (filled_in work k m z)) (sym is) ∙ so) in
    ap (λ z. Some (numbered z)) is ∙ sym (ap (option_map (λ g. numbered (number_at l g))) found)

pub least_none : (work : Work) (k : Known) (l : LaneOf) (m n : ℕ) → grains_in l (grains_of k.sheet.slots (mapping_place k.sheet.slots m)) ≤ n →
    ((j : ℕ) → j < n → is_some (filled_in work k m (number_at l j)) ≡ false) → None ≡ least_of work k l m
least_none work k l m n all none =
    let test : ℕ → Bool = λ g. is_some (filled_in work k m (number_at l g)) in
    sym (ap (option_map (λ g. numbered (number_at l g)))
    (first_none test (grains_in l (grains_of k.sheet.slots (mapping_place k.sheet.slots m))) (λ j lt. none j (omega arith))))

-- ---- the first mapping with such work

pub work_found : (work : Work) (k : Known) (i index : ℕ) (d : WorkFlags) (grain : GrainNo) →
    ((j : ℕ) (e : WorkFlags) → j < index → can_work (has_work work) (λ (m : MapId). least_in work k i m.0) (get_or k.flags j e) ≡ false) → index < length k.flags →
    has_work work (get_or k.flags index d) ≡ true → Some grain ≡ least_in work k i (get_or k.flags index d).map.0 → Some ((get_or k.flags index d).map, grain) ≡ next_in work k i
work_found work k i index d grain none within has got =
    let least : MapId → Option GrainNo = λ (m : MapId). least_in work k i m.0 in
    let able : can_work (has_work work) least (get_or k.flags index d) ≡ true = rw (has, sym got) refl in
    let found = find_first (can_work (has_work work) least) k.flags index d none within able in
    rw (found, sym got) refl

pub work_none : (work : Work) (k : Known) (i n : ℕ) → length k.flags ≤ n →
    ((j : ℕ) (e : WorkFlags) → j < n → can_work (has_work work) (λ (m : MapId). least_in work k i m.0) (get_or k.flags j e) ≡ false) → None ≡ next_in work k i
work_none work k i n all none =
    let missed = find_none (can_work (has_work work) (λ (m : MapId). least_in work k i m.0)) k.flags (λ j e lt. none j e (omega arith)) in
    rw missed refl

-- ---- by the part of a lane

slot_grains : (l : LaneOf) → IsLane l → (slots : List Slot) (o : Option ℕ) → grains_of (parts l slots) o ≡ grains_in l (grains_of slots o)
slot_grains l il slots None = sym (none_in l il)
slot_grains l il slots (Some k) = size_parts l il slots k

mapping_grains : (l : LaneOf) → IsLane l → (slots : List Slot) (m : ℕ) →
    grains_of (parts l slots) (mapping_place (parts l slots) m) ≡ grains_in l (grains_of slots (mapping_place slots m))
mapping_grains l il slots m = ap (grains_of (parts l slots)) (mapping_parts l il slots m) ∙ slot_grains l il slots (mapping_place slots m)

copied_there : (l : LaneOf) → IsLane l → (slots : List Slot) (m p : ℕ) → copied_slot (parts l slots) m p ≡ copied_slot slots m (number_at l p)
copied_there l il slots m p =
    ap (copied_slot (parts l slots) m) (sym (place_of_number l il p))
    ∙ (copied_parts l il slots m (number_at l p) (number_is_of l il p) ∙ ap (copied_slot slots m) (all_place l.grain (number_at l p)))

cleaned_there : (l : LaneOf) → IsLane l → (slots : List Slot) (m p : ℕ) → cleaned_slot (parts l slots) m p ≡ cleaned_slot slots m (number_at l p)
cleaned_there l il slots m p =
    ap (cleaned_slot (parts l slots) m) (sym (place_of_number l il p))
    ∙ (cleaned_parts l il slots m (number_at l p) (number_is_of l il p) ∙ ap (cleaned_slot slots m) (all_place l.grain (number_at l p)))

-- the least grain by what can be filled, and by how many grains there are
abbrev least_by : LaneOf → (ℕ → Option ℕ) → ℕ → Option GrainNo
least_by l filled n = option_map (λ g. record { 0 = number_at l g }) (first_below (λ g. is_some (filled g)) n)

least_copied : (grain : GrainSize) (w : Whole) (i : ℕ) → i < lanes w → (m : MapId) →
    least_grain (lane_at grain w i) (parts (lane_at grain w i) w.books.sheet.slots) (copied_slot (parts (lane_at grain w i) w.books.sheet.slots) m.0) m.0 ≡ least_in Copying (known_of grain w) i m.0
least_copied grain w i il m =
    let l : LaneOf = lane_at grain w i in
    ap₂ (least_by l) (fun_ext (λ p. copied_there l il w.books.sheet.slots m.0 p)) (mapping_grains l il w.books.sheet.slots m.0)

least_cleaned : (grain : GrainSize) (w : Whole) (i : ℕ) → i < lanes w → (m : MapId) →
    least_grain (lane_at grain w i) (parts (lane_at grain w i) w.books.sheet.slots) (cleaned_slot (parts (lane_at grain w i) w.books.sheet.slots) m.0) m.0 ≡ least_in Cleaning (known_of grain w) i m.0
least_cleaned grain w i il m =
    let l : LaneOf = lane_at grain w i in
    ap₂ (least_by l) (fun_ext (λ p. cleaned_there l il w.books.sheet.slots m.0 p)) (mapping_grains l il w.books.sheet.slots m.0)

pub next_copy_is : (grain : GrainSize) (w : Whole) (i : ℕ) → i < lanes w → next_copy (lane_at grain w i) (part_at grain w i) ≡ next_in Copying (known_of grain w) i
unfolding part_at
next_copy_is grain w i il = ap (λ (least : MapId → Option GrainNo). next_work (has_work Copying) least w.books.flags) (fun_ext (λ m. least_copied grain w i il m))

pub next_clean_is : (grain : GrainSize) (w : Whole) (i : ℕ) → i < lanes w → next_clean (lane_at grain w i) (part_at grain w i) ≡ next_in Cleaning (known_of grain w) i
unfolding part_at
next_clean_is grain w i il = ap (λ (least : MapId → Option GrainNo). next_work (has_work Cleaning) least w.books.flags) (fun_ext (λ m. least_cleaned grain w i il m))

-- ---- all lanes as one

all_number : (grain : GrainSize) (number : ℕ) → number_at (single_lane grain) number ≡ number
all_number grain number = omega arith

least_all : (kind : Work) (k : Known) (m : ℕ) → least_of kind k (single_lane k.grain) m ≡ least_grain (single_lane k.grain) k.sheet.slots (λ g. filled_in kind k m g) m
least_all kind k m =
    ap₂ (least_by (single_lane k.grain)) (fun_ext (λ g. ap (filled_in kind k m) (all_number k.grain g))) (one_lane k.grain (grains_of k.sheet.slots (mapping_place k.sheet.slots m)))

filled_as : (cleans : Bool) (k : Known) (m g : ℕ) → filled_in (cond cleans Cleaning Copying) k m g ≡ filled_by cleans k.sheet.slots m g
filled_as true k m g = refl
filled_as false k m g = refl

next_as : (grain : GrainSize) (w : Whole) (work : MappingWork) → least_of (cond work.cleans Cleaning Copying) (known_of grain w) (single_lane grain) work.map.0 ≡ next_grain grain w work
unfolding next_grain
next_as grain w work =
    least_all (cond work.cleans Cleaning Copying) (known_of grain w) work.map.0
    ∙ ap (λ (filled : ℕ → Option ℕ). least_grain (single_lane grain) w.books.sheet.slots filled work.map.0) (fun_ext (λ g. filled_as work.cleans (known_of grain w) work.map.0 g))

pub next_grain_is : (k : Known) (map : MapId) (cleans : Bool) (kind : Work) (next : Option GrainNo) → kind ≡ cond cleans Cleaning Copying → next ≡ least_of kind k (single_lane k.grain) map.0 →
    (grain : GrainSize) (w : Whole) (work : MappingWork) → k ≡ known_of grain w → work.map ≡ map → work.cleans ≡ cleans → next ≡ next_grain grain w work
next_grain_is k map cleans kind next of_kind is grain w work same of_map of_cleans =
    is
    ∙ ((λ i. least_of (of_kind i) (same i) (single_lane (same i).grain) (sym of_map i).0)
    ∙ (ap (λ (b : Bool). least_of (cond b Cleaning Copying) (known_of grain w) (single_lane grain) work.map.0) (sym of_cleans) ∙ next_as grain w work))

-- ---- place by place, as it is counted

abbrev pub lane_with : ℕ → ℕ → GrainSize → LaneOf
lane_with i n grain = record { lane = i; lanes = n; grain = grain }

pub lane_grains : (k : Known) (l : LaneOf) (m own grains : ℕ) → grains ≡ grains_of k.sheet.slots (mapping_place k.sheet.slots m) → own ≡ grains_in l grains →
    own ≡ grains_in l (grains_of k.sheet.slots (mapping_place k.sheet.slots m))
lane_grains k l m own grains of_mapping is = is ∙ ap (grains_in l) of_mapping

-- how many grains a lane has: none where there is none with its number, and else that one and more behind it
pub none_of_lane : (grains lane lanes : ℕ) → lane < lanes → grains ≤ lane → 0 ≡ (grains + lanes - 1 - lane) / lanes
none_of_lane grains lane lanes lt le = sym (div-eq_of_lt (omega arith))

pub first_of_lane : (grains lane lanes : ℕ) → lane < lanes → lane < grains → (grains - lane - 1) / lanes + 1 ≡ (grains + lanes - 1 - lane) / lanes
first_of_lane grains lane lanes lt some =
    let all : (grains - lane - 1) + lanes ≡ grains + lanes - 1 - lane = omega arith in
    sym (add-div_right (grains - lane - 1) (omega arith)) ∙ ap (λ n. n / lanes) all

-- so many grains have numbers below 2^32
few_in : (slots : List Slot) (o : Option ℕ) → ((place : ℕ) → length (slot_at slots place).held < 2 ^ 32) → grains_of slots o < 2 ^ 32
few_in slots None few = omega arith
few_in slots (Some p) few = few p

pub number_small : (k : Known) (l : LaneOf) (m place : ℕ) → IsLane l → HasFewGrains k → place < grains_in l (grains_of k.sheet.slots (mapping_place k.sheet.slots m)) → place * l.lanes + l.lane < 2 ^ 32
number_small k l m place il few lt =
    let grains : ℕ = grains_of k.sheet.slots (mapping_place k.sheet.slots m) in
    let below : number_at l place < grains = number_below l il place grains lt in
    let small : grains < 2 ^ 32 = few_in k.sheet.slots (mapping_place k.sheet.slots m) few in
    lt_trans below small

pub none_here : (work : Work) (k : Known) (l : LaneOf) (m place number : ℕ) → None ≡ filled_in work k m number → number ≡ number_at l place → is_some (filled_in work k m (number_at l place)) ≡ false
none_here work k l m place number none is = ap (λ z. is_some (filled_in work k m z)) (sym is) ∙ ap is_some (sym none)

pub some_here : (work : Work) (k : Known) (m number p : ℕ) → Some p ≡ filled_in work k m number → is_some (filled_in work k m number) ≡ true
some_here work k m number p is = ap is_some (sym is)

-- ---- mapping by mapping

-- none of the first so many has such work
abbrev pub NoneWorks : Work → Known → ℕ → List WorkFlags → ℕ → Type 0
NoneWorks work k i items n = (j : ℕ) (d : WorkFlags) → j < n → can_work (has_work work) (λ (m : MapId). least_in work k i m.0) (get_or items j d) ≡ false

pub next_found : (work : Work) (k : Known) (i index : ℕ) (items : List WorkFlags) (d : WorkFlags) (grain : GrainNo) (so : Bool) (o : Option GrainNo) → items ≡ k.flags → NoneWorks work k i items index → index < length items →
    so ≡ has_work work (get_or items index d) → so ≡ true → o ≡ least_in work k i (get_or items index d).map.0 → o ≡ Some grain → Some ((get_or items index d).map, grain) ≡ next_in work k i
next_found work k i index items d grain so o same none within flag e least found =
    let P : List WorkFlags → Type 0 = λ xs.
    NoneWorks work k i xs index → index < length xs → has_work work (get_or xs index d) ≡ true → Some grain ≡ least_in work k i (get_or xs index d).map.0 → Some ((get_or xs index d).map, grain) ≡ next_in work k i in
    let here : P k.flags = λ none within has got. work_found work k i index d grain none within has got in
    subst P (sym same) here none within (sym flag ∙ e) (sym found ∙ least)

pub next_none : (work : Work) (k : Known) (i n : ℕ) (items : List WorkFlags) → items ≡ k.flags → length items ≤ n → NoneWorks work k i items n → None ≡ next_in work k i
next_none work k i n items same all none =
    let P : List WorkFlags → Type 0 = λ xs. length xs ≤ n → NoneWorks work k i xs n → None ≡ next_in work k i in
    let here : P k.flags = λ all none. work_none work k i n all none in
    subst P (sym same) here all none
