-- What stands for a state that the history may have come to may be recovered; so may one physical grain more.
use Rattle.std.proofs.Common.{◌≡◌, ℕ, ◌<◌, ◌≤◌, Bool, true, false, not, ◌&&◌, cond, eqb, Option, Some, None, List, length, set, sym, ap, subst, ◌∙◌, arith, inl, inr}
use Rattle.std.proofs.lemmas.Bool.{both_ways, cases_Bool, eqb-true}
use Rattle.fc_base.specs.Column.{Column, holder}
use Rattle.fc_base.specs.Moves.{is_in_place, is_old_answer}
use Rattle.fc_base.specs.Safety.{IsFree, IsSafeMove}
use Rattle.fc_base.specs.Sheet.{Slot, Sheet, slot_at, column, live_place}
use Rattle.fc_base.specs.SheetFacts.{IsSound}
use Rattle.fc_base.specs.declared.request.Request.{Request}
use Rattle.fc_base.specs.declared.size.GrainSize.{GrainSize}
use Rattle.fc_changed.specs.Row.{Row}
use Rattle.fc_entry.specs.Picture.{Content, Picture, PlainVolume}
use Rattle.fc_legal.specs.Whole.{Whole, lanes, lane_at}
use Rattle.fc_moves.proofs.Readers.{IsHolder, holder_is}
use Rattle.fc_moves.proofs.Search.{cases_option}
use Rattle.fc_pictures.proofs.Fitting.{read_is}
use Rattle.fc_pictures.proofs.Grains.{own_place}
use Rattle.fc_pictures.specs.Law.{StoredAt, now_of}
use Rattle.fc_rules.specs.Shows.{Stored, Shows}
use Rattle.fc_rules.specs.Steps.{is_of_volume, reads_own}
use Rattle.fc_kept.specs.Disks.{NamedDisk, stored_on}
use Rattle.fc_kept.specs.OneGrain.{Another, another, another_at, with_another, IsChangedIn, IsMarkedAt}
use Rattle.fc_kept.specs.Prefix.{Prefix}
use Rattle.fc_kept.specs.Recoverable.{Recoverable, Says, ShowsAll, disks_at}
use Rattle.fc_kept.proofs.Dropping.{drops_sound}
use Rattle.fc_kept.proofs.Recovering.{recovers}
use Rattle.fc_kept.proofs.UnderWay.{under_way}
use Rattle.law_crash.specs.Points.{Point, stored_by, StandsFor}
use Rattle.law_crash.specs.Doing.{IsWritten, with_disks}
use Rattle.law_crash.proofs.Disks.{says_written}
use Rattle.law_crash.proofs.Lost.{stored_in}
use Rattle.law_crash.proofs.Parts.{parts_show, is_part}

pub chains_sound : (grain : GrainSize) (now : Whole) (least : List Row) (p : Point) → StandsFor grain now least p → IsSound now.books.sheet
chains_sound grain now least p st = drops_sound st.says.slots st.says.sound.books.sheet

-- ---- all lanes

shows_all : (grain : GrainSize) (now : Whole) (p : Point) (one : Option Another) → length p.disks ≡ lanes now →
    Shows now.books.sheet.slots (with_another one now.books.sheet.slots now.picture) (stored_by grain now p) → ShowsAll grain p.disks p.kept now one now.books.sheet
shows_all grain now p one count w i il =
    let inside : i < lanes now = subst (λ (n : ℕ). i < n) count il in
    parts_show (lane_at grain now i) inside now.books.sheet.slots (with_another one now.books.sheet.slots now.picture) (stored_by grain now p)
    (stored_on (lane_at grain now i) (disks_at p.disks i) p.kept) (is_part grain now p i inside) w

-- ---- with no grain under way

pub found_asked : (grain : GrainSize) (w now : Whole) (least least_now : List Row) (asked : Option Request) (p : Point) → Prefix grain w least asked now least_now → StandsFor grain now least_now p →
    Recoverable grain p.disks p.kept w least asked None
found_asked grain w now least least_now asked p is st =
    recovers grain p.disks p.kept w now least least_now asked None is st.says (shows_all grain now p None st.says.count st.shows) tt

pub found : (grain : GrainSize) (w now : Whole) (least least_now : List Row) (r : Request) (p : Point) → Prefix grain w least (Some r) now least_now → StandsFor grain now least_now p →
    Recoverable grain p.disks p.kept w least (Some r) None
found grain w now least least_now r p is st = found_asked grain w now least least_now (Some r) p is st

-- ---- with one

-- a write of the grain of a live slot's volume, which nobody else reads
pub record CanChange (slots : List Slot) (v g t : ℕ) (rows : List Row) : Type 0 where
  pub there : t < length slots
  pub is_live : (slot_at slots t).is_live ≡ true
  pub free : IsFree (column slots g) t
  pub of_volume : (slot_at slots t).volume ≡ v
  pub marked : (content : Content) → reads_own (column slots g) t ≡ true → let a : Another = record { volume = v; grain = g; content = content } in IsChangedIn a rows

-- what a stop then finds
abbrev pub FoundIn : GrainSize → Whole → Whole → List Row → Request → Point → List (List NamedDisk) → ℕ → ℕ → Type 0
FoundIn grain w now least r p disks v g =
    Recoverable grain disks p.kept w least (Some r) (Some record { volume = v; grain = g; content = stored_by grain now (with_disks disks p) v g })

-- a volume by another name
abbrev ChangedAs : Sheet → Picture → Stored → Stored → ℕ → ℕ → Content → ℕ → Type 0
ChangedAs s picture stored after t g content v =
    StoredAt stored v g content after → let a : Another = record { volume = v; grain = g; content = content } in Shows s.slots (another_at s.slots a (Some t) picture) after

changed_shows : (s : Sheet) (picture : Picture) (stored after : Stored) (t g v : ℕ) (content : Content) → IsSound s → t < length s.slots → (slot_at s.slots t).is_live ≡ true → IsFree (column s.slots g) t →
    (slot_at s.slots t).volume ≡ v → Shows s.slots picture stored → ChangedAs s picture stored after t g content v
changed_shows s picture stored after t g v content sound tl tv free e w =
    subst (ChangedAs s picture stored after t g content) e (λ st. under_way s picture stored after t g content sound tl tv free w st)

pub found_in : (grain : GrainSize) (w now : Whole) (least least_now : List Row) (r : Request) (p : Point) (disks : List (List NamedDisk)) (v g t : ℕ) (content : Content) →
    Prefix grain w least (Some r) now least_now → StandsFor grain now least_now p → CanChange now.books.sheet.slots v g t p.kept.rows → IsWritten grain now v g content p.disks disks →
    FoundIn grain w now least r p disks v g
found_in grain w now least least_now r p disks v g t content is st can x =
    let s : Sheet = now.books.sheet in
    let q : Point = with_disks disks p in
    let a : Another = record { volume = v; grain = g; content = stored_by grain now q v g } in
    let sound : IsSound s = chains_sound grain now least_now p st in
    let place : live_place s.slots v ≡ Some t = ap (live_place s.slots) (sym can.of_volume) ∙ own_place s.slots t sound.one_live can.there can.is_live in
    let says : Says grain disks p.kept now least_now = says_written grain now now least_now p.kept v g content p.disks disks x st.says in
    let changed : Shows s.slots (another_at s.slots a (Some t) now.picture) (stored_by grain now q) =
    changed_shows s now.picture (stored_by grain now p) (stored_by grain now q) t g v a.content sound can.there can.is_live can.free can.of_volume st.shows
    (stored_in grain now p.kept p.disks disks v g content x.stored) in
    recovers grain disks p.kept w now least least_now (Some r) (Some a) is says
    (shows_all grain now q (Some a) says.count (subst (λ (o : Option ℕ). Shows s.slots (another_at s.slots a o now.picture) (stored_by grain now q)) (sym place) changed))
    (subst (λ (o : Option ℕ). IsMarkedAt s.slots a o p.kept.rows) (sym place) (can.marked a.content))

-- ---- a move out of place writes what its volume doesn't show

old_by : (c : Column) (h v : ℕ) (live own : Bool) → c.is_live h ≡ live → eqb (c.volume h) v ≡ own → is_old_answer c.shape v (Some h) ≡ (not live && own)
old_by c h v live own e q = ap (λ (z : Bool). not z && eqb (c.volume h) v) e ∙ ap (λ (z : Bool). not live && z) q

marked_by : (c : Column) (k : ℕ) (o : Option ℕ) → holder c k ≡ o → is_in_place c k ≡ is_old_answer c.shape (c.volume k) o
unfolding is_in_place
marked_by c k o e = ap (is_old_answer c.shape (c.volume k)) e

pub shows_not : (s : Sheet) (g k : ℕ) → IsSound s → IsSafeMove (column s.slots g) k → is_in_place (column s.slots g) k ≡ false → reads_own (column s.slots g) k ≡ true → ⊥
shows_not s g k sound safe out own =
    let c : Column = column s.slots g in
    elim (cases_option (holder c k)) [
      | inl none ↦ let f : false ≡ true = sym (ap (is_of_volume c (c.volume k)) none) ∙ own in cc
      | inr h ↦
          let same : eqb (c.volume h.0) (c.volume k) ≡ true = sym (ap (is_of_volume c (c.volume k)) h.1) ∙ own in
          let i : IsHolder c k h.0 = holder_is c k h.0 h.1 in
          let before : h.0 ≤ k = i.before in
          let kl : k < length s.slots = safe.there in
          elim (cases_Bool (c.is_live h.0)) [
            | inl live ↦
                let q : h.0 ≡ k = sound.one_live h.0 k (omega arith) kl live safe.is_live (eqb-true (c.volume h.0) (c.volume k) same) in
                both_ways (c.held k) safe.lacks (ap c.held (sym q) ∙ i.holds)
            | inr old ↦ both_ways (is_in_place c k) out (marked_by c k (Some h.0) h.1 ∙ old_by c h.0 (c.volume k) false true old same)
          ]
    ]

pub shows_none : (s : Sheet) (g k : ℕ) (content : Content) (v : PlainVolume) → IsSound s → IsSafeMove (column s.slots g) k → is_in_place (column s.slots g) k ≡ false →
    (another (column s.slots g) k g content v).now ≡ v.now
shows_none s g k content v sound safe out =
    elim (cases_Bool (reads_own (column s.slots g) k)) [
      | inl own ↦ absurd (shows_not s g k sound safe out own)
      | inr other ↦ ap (λ (z : Bool). cond z (set v.now g content) v.now) other
    ]

-- ---- what a volume shows

pub shown_is_read : (grain : GrainSize) (w : Whole) (least : List Row) (p : Point) (k g : ℕ) → StandsFor grain w least p →
    let slots = w.books.sheet.slots in
    k < length slots → (slot_at slots k).is_live ≡ true → g < length (slot_at slots k).held →
    (h : ℕ) × (holder (column slots g) k ≡ Some h) × (now_of w.picture (slot_at slots k).volume g ≡ stored_by grain w p (slot_at slots h).volume g)
shown_is_read grain w least p k g st there live inside =
    read_is w.books.sheet w.picture (stored_by grain w p) k g (chains_sound grain w least p st) st.shows there live inside
