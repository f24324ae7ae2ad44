-- What goes over to disks that agree.
use Rattle.std.proofs.Common.{◌≡◌, ℕ, ◌<◌, Bool, true, false, cond, Option, None, List, length, refl, sym, ap, subst, ◌∙◌, arith, inl, inr, mod-lt, ◌≤◌, [], ◌∷◌}
use Rattle.std.proofs.lemmas.Bool.{cases_lt}
use Rattle.std.specs.List.{filter}
use Rattle.fc_base.specs.Sheet.{Sheet, slot_at}
use Rattle.fc_base.specs.declared.request.Request.{Request}
use Rattle.fc_base.specs.declared.size.GrainSize.{GrainSize}
use Rattle.fc_changed.specs.Row.{Row}
use Rattle.fc_entry.specs.Picture.{Content, Lost}
use Rattle.fc_legal.specs.Whole.{Whole, lanes, lane_at, lane_of_grain, part_of_sheet, part_of_picture}
use Rattle.fc_parts.proofs.Numbers.{number_of_place}
use Rattle.fc_pictures.proofs.Staying.{stored_shows}
use Rattle.fc_rules.specs.LaneTold.{LaneOf, place_of, number_at}
use Rattle.fc_kept.specs.Disks.{NamedDisk, disk_of, on_disk, stored_on, is_free}
use Rattle.fc_kept.specs.Kept.{Kept, is_lost_in}
use Rattle.fc_kept.specs.OneGrain.{Another, with_another}
use Rattle.fc_kept.specs.Recoverable.{Recoverable, Says, ShowsAll, disks_at}
use Rattle.law_crash.specs.Doing.{with_disks}
use Rattle.law_crash.specs.Leaving.{HaveTheirDisks, AreUnnamed}
use Rattle.law_crash.specs.Points.{Point, StandsFor, stored_by, on_disks}
use Rattle.law_agreeing.specs.Agreeing.{Agree, AllAgree}
use Rattle.law_agreeing.proofs.Fitting.{fits_agreeing, none_now, some_now}

-- ---- what is stored

lost_or : (b : Bool) (x y : Content) → (b ≡ false → x ≡ y) → cond b Lost x ≡ cond b Lost y
lost_or true x y same = refl
lost_or false x y same = same refl

pub stored_agreeing : (l : LaneOf) (k : Kept) (old new : List NamedDisk) → Agree l k old new → (v g : ℕ) → stored_on l new k v g ≡ stored_on l old k v g
stored_agreeing l k old new a v g =
    lost_or (is_lost_in k.lost v (number_at l g)) (on_disk l (disk_of new v) g) (on_disk l (disk_of old v) g) (a.bytes v g)

-- ---- of each lane, as many lanes as disks are dealt to

agree_at : (grain : GrainSize) (k : Kept) (old new : List (List NamedDisk)) (w : Whole) → length old ≡ lanes w → AllAgree grain k old new → (i : ℕ) → i < length new →
    (i < length old) × Agree (lane_at grain w i) k (disks_at old i) (disks_at new i)
agree_at grain k old new w count a i il =
    let was : i < length old = subst (λ (n : ℕ). i < n) a.count il in
    let l : ℕ → LaneOf = λ n. record { lane = i; lanes = n; grain = grain } in
    (was, subst (λ (n : ℕ). Agree (l n) k (disks_at old i) (disks_at new i)) count (a.each i was))

-- ---- what metadata says, and what is shown

says_agreeing : (grain : GrainSize) (old new : List (List NamedDisk)) (k : Kept) (now : Whole) (least : List Row) → AllAgree grain k old new → Says grain old k now least → Says grain new k now least
says_agreeing grain old new k now least a s =
    record {
      sound = s.sound;
      tables = s.tables;
      next_volume = s.next_volume;
      next_mapping = s.next_mapping;
      next_group = s.next_group;
      slots = s.slots;
      rows = s.rows;
      count = a.count ∙ s.count;
      fit = λ i il.
          let x = agree_at grain k old new now s.count a i il in
          fits_agreeing (lane_at grain now i) k (disks_at old i) (disks_at new i) k.tables x.1 (s.fit i x.0);
    }

shows_agreeing : (grain : GrainSize) (old new : List (List NamedDisk)) (k : Kept) (now : Whole) (one : Option Another) (s : Sheet) → length old ≡ lanes now → AllAgree grain k old new →
    ShowsAll grain old k now one s → ShowsAll grain new k now one s
shows_agreeing grain old new k now one s count a shows i il =
    let x = agree_at grain k old new now count a i il in
    let l : LaneOf = lane_at grain now i in
    stored_shows (part_of_sheet l s).slots (part_of_picture l (with_another one s.slots now.picture))
    (stored_on l (disks_at old i) k) (stored_on l (disks_at new i) k)
    (λ j g _. stored_agreeing l k (disks_at old i) (disks_at new i) x.1 (slot_at (part_of_sheet l s).slots j).volume g) (shows i x.0)

pub recovers_agreeing : (grain : GrainSize) (old new : List (List NamedDisk)) (k : Kept) (w : Whole) (least : List Row) (asked : Option Request) (one : Option Another) →
    AllAgree grain k old new → Recoverable grain old k w least asked one → Recoverable grain new k w least asked one
recovers_agreeing grain old new k w least asked one a r =
    record {
      now = r.now;
      least_now = r.least_now;
      is = r.is;
      says = says_agreeing grain old new k r.now r.least_now a r.says;
      shows = shows_agreeing grain old new k r.now one k.sheet r.says.count a r.shows;
      marked = r.marked;
    }

-- ---- by the numbers of grains

disks_agreeing : (grain : GrainSize) (w : Whole) (p : Point) (new : List (List NamedDisk)) → 0 < lanes w → length p.disks ≡ lanes w → AllAgree grain p.kept p.disks new → (v g : ℕ) →
    stored_by grain w (with_disks new p) v g ≡ stored_by grain w p v g
disks_agreeing grain w p new some count a v g =
    let i : ℕ = lane_of_grain w g in
    let l : LaneOf = lane_at grain w i in
    let below : i < lanes w = mod-lt g some in
    let il : i < length new = subst (λ (n : ℕ). i < n) (sym (a.count ∙ count)) below in
    let x = agree_at grain p.kept p.disks new w count a i il in
    let named : number_at l (place_of l g) ≡ g = number_of_place l g refl in
    lost_or (is_lost_in p.kept.lost v g) (on_disks grain w new v g) (on_disks grain w p.disks v g)
    (λ f. x.1.bytes v (place_of l g) (ap (is_lost_in p.kept.lost v) named ∙ f))

pub stands_agreeing : (grain : GrainSize) (w : Whole) (least : List Row) (p : Point) (new : List (List NamedDisk)) → 0 < lanes w →
    AllAgree grain p.kept p.disks new → StandsFor grain w least p → StandsFor grain w least (with_disks new p)
stands_agreeing grain w least p new some a st =
    record {
      says = says_agreeing grain p.disks new p.kept w least a st.says;
      shows = stored_shows w.books.sheet.slots w.picture (stored_by grain w p) (stored_by grain w (with_disks new p))
          (λ j g _. disks_agreeing grain w p new some st.says.count a (slot_at w.books.sheet.slots j).volume g) st.shows;
    }

-- ---- names, and free disks

pub have_agreeing : (grain : GrainSize) (w : Whole) (k : Kept) (old new : List (List NamedDisk)) → AllAgree grain k old new → HaveTheirDisks w old → HaveTheirDisks w new
have_agreeing grain w k old new a h =
    record {
      named = λ i v il c.
          let was : i < length old = subst (λ (n : ℕ). i < n) a.count il in
          some_now (disk_of (disks_at old i) v.id.0) (disk_of (disks_at new i) v.id.0) ((a.each i was).named v.id.0) (h.named i v was c);
      free = λ i kind il.
          let was : i < length old = subst (λ (n : ℕ). i < n) a.count il in
          let same : length (filter (is_free kind) (disks_at new i)) ≡ length (filter (is_free kind) (disks_at old i)) = (a.each i was).free kind in
          let le = h.free i kind was in
          omega (arith, same, le);
    }

past_none : (xs : List (List NamedDisk)) (i v : ℕ) → length xs ≤ i → disk_of (disks_at xs i) v ≡ None
past_none [] i v le = refl
past_none (x ∷ xs) ℕ.zero v le = absurd (omega (arith, le))
past_none (x ∷ xs) (ℕ.suc i) v le = past_none xs i v (omega (arith, le))

pub unnamed_agreeing : (grain : GrainSize) (w : Whole) (k : Kept) (old new : List (List NamedDisk)) → AllAgree grain k old new → AreUnnamed w old → AreUnnamed w new
unnamed_agreeing grain w k old new a u i v le =
    elim (cases_lt i (length old)) [
      | inl il ↦ none_now (disk_of (disks_at old i) v) (disk_of (disks_at new i) v) ((a.each i il).named v) (u i v le)
      | inr past ↦ past_none new i v (subst (λ (n : ℕ). n ≤ i) (sym a.count) past)
    ]
