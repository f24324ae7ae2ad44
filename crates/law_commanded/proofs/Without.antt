-- The image without a volume that is about to go.
use Rattle.std.proofs.Common.{◌≡◌, ℕ, suc, ◌*◌, ◌<◌, ◌==◌, Bool, true, false, cond, not, Option, Some, List, [], ◌∷◌, map, All, Contains, inl, inr, refl, sym, ap, subst, ◌∙◌, arith}
use Rattle.std.specs.List.{filter, flat_map, fold, remove}
use Rattle.std.proofs.lemmas.Bool.{eq-eqb, ne_eqb, cases_eq}
use Rattle.fc_base.specs.Sheet.{Sheet, Slot, slot_at}
use Rattle.fc_base.specs.SheetFits.{FitsRemove}
use Rattle.fc_base.specs.SheetStep.{removed, at_place, without as without_slot}
use Rattle.fc_base.specs.Tables.{Tables}
use Rattle.fc_base.specs.declared.command.Command.{Command}
use Rattle.fc_base.specs.declared.decision.Decision.{Decision}
use Rattle.fc_base.specs.declared.decision.LaneEvent.{LaneEvent}
use Rattle.fc_base.specs.declared.decision.LaneEvent.TheVariants.{Access, Arm, Remove, Work}
use Rattle.fc_base.specs.declared.ids.VolId.{VolId}
use Rattle.fc_base.specs.declared.size.GrainSize.{GrainSize}
use Rattle.fc_base.specs.declared.volume.Change.{Change}
use Rattle.fc_base.specs.declared.volume.Change.TheVariants.{RemoveVolume}
use Rattle.fc_base.specs.declared.volume.Volume.{Volume}
use Rattle.fc_books.specs.After.{after_all, after_event, after_table_change}
use Rattle.fc_books.specs.Books.{Books}
use Rattle.fc_books.specs.Deciding.{settle}
use Rattle.fc_books.specs.Work.{work_events}
use Rattle.fc_changed.specs.Row.{Row}
use Rattle.fc_decided.proofs.Lists.{filter_from, filter_in}
use Rattle.fc_entry.specs.declared.entry.Entry.{Entry}
use Rattle.fc_follow.specs.Following.{restarts}
use Rattle.fc_image.specs.declared.image.MetaImage.{MetaImage}
use Rattle.fc_imaging.specs.Imaging.{lost_grains, lost_of}
use Rattle.fc_imaging.specs.Without.{begins_else, is_other, is_other_row, leaving_out}
use Rattle.fc_kept.specs.Images.{chains_told, changes_told, kept_in, lost_in, lost_told, meta_of, row_in, slots_in}
use Rattle.fc_kept.specs.Kept.{Kept, LostGrains}
use Rattle.fc_kept.specs.Marks.{LeastLeft.settled_alone, least_by}
use Rattle.fc_kept.specs.Sound.{HasTidyLost, IsSoundImage, IsSoundKept}
use Rattle.fc_kept.proofs.Said.{said}
use Rattle.fc_kept.proofs.Tidy.{image_sound}
use Rattle.fc_lane.specs.Lane.{LaneView}
use Rattle.fc_legal.specs.Steps.{after_settling, decided_on, rows_after}
use Rattle.fc_legal.specs.Lawful.{FitAsOne}
use Rattle.fc_legal.specs.Whole.{Whole, all_followed}
use Rattle.fc_sheets.proofs.Finding.{live_place_at}
use Rattle.law_crash.proofs.Resting.{AreStill, work_still}
use Rattle.law_crash.specs.Points.{Point}
use Rattle.law_stands.proofs.Standing.{command_lawful}
use Rattle.law_commanded.specs.Lanes.{HaveLanes, NoneCame}
use Rattle.law_commanded.specs.Law.{HasCome, IsCommanded, by_lanes, gone_by, left_behind}
use Rattle.law_commanded.proofs.Anew.{kept_left, says_by, sound_left}
use Rattle.law_commanded.proofs.Chains.{AreApart, flat_left, flat_told, is_else, taken_out, tidy_left, tidy_slot}
use Rattle.law_commanded.proofs.Leaving.{Here, from_run}
use Rattle.law_commanded.proofs.Removing.{IsRemoval, removal_is}
use Rattle.law_commanded.proofs.Unchanged.{rows_still, still_noteless}

-- ---- lists

mapped : {X Y : Type 0} (f : X → Y) (x : X) (xs : List X) (ys : List Y) (b : Bool) → ys ≡ map f xs → cond b (f x ∷ ys) ys ≡ map f (cond b (x ∷ xs) xs)
mapped f x xs ys true e = ap (λ zs. f x ∷ zs) e
mapped f x xs ys false e = e

filter_map : {X Y : Type 0} (f : X → Y) (p : Y → Bool) (xs : List X) → filter p (map f xs) ≡ map f (filter (λ (x : X). p (f x)) xs)
filter_map f p [] = refl
filter_map f p (x ∷ xs) = mapped f x (filter (λ y. p (f y)) xs) (filter p (map f xs)) (p (f x)) (filter_map f p xs)

turned_round : (a b : ℕ) → (a == b) ≡ (b == a)
turned_round a b =
    elim (cases_eq a b) [
      | inl e ↦ eq-eqb a b e ∙ sym (eq-eqb b a (sym e))
      | inr ne ↦ ne_eqb a b ne ∙ sym (ne_eqb b a (λ e. ne (sym e)))
    ]

-- ---- work changes neither tables nor chains

record SameBooks (x y : Books) : Type 0 where
  tables : x.tables ≡ y.tables
  next_volume : x.next_volume ≡ y.next_volume
  next_mapping : x.next_mapping ≡ y.next_mapping
  next_group : x.next_group ≡ y.next_group
  sheet : x.sheet ≡ y.sheet

through_one : (x y z : Books) → SameBooks x y → SameBooks y z → SameBooks x z
through_one x y z a b =
    record {
      tables = a.tables ∙ b.tables;
      next_volume = a.next_volume ∙ b.next_volume;
      next_mapping = a.next_mapping ∙ b.next_mapping;
      next_group = a.next_group ∙ b.next_group;
      sheet = a.sheet ∙ b.sheet;
    }

still_books : (sets : ℕ → List Bool) (es : List LaneEvent) (b : Books) → AreStill es → SameBooks (fold (after_event sets) b es) b
still_books sets [] b still = record { tables = refl; next_volume = refl; next_mapping = refl; next_group = refl; sheet = refl }
still_books sets (Access volume access ∷ es) b still =
    through_one (fold (after_event sets) b (Access volume access ∷ es)) (after_event sets b (Access volume access)) b (still_books sets es (after_event sets b (Access volume access)) still.1)
    (record { tables = refl; next_volume = refl; next_mapping = refl; next_group = refl; sheet = refl })
still_books sets (Work m copy clean ∷ es) b still =
    through_one (fold (after_event sets) b (Work m copy clean ∷ es)) (after_event sets b (Work m copy clean)) b (still_books sets es (after_event sets b (Work m copy clean)) still.1)
    (record { tables = refl; next_volume = refl; next_mapping = refl; next_group = refl; sheet = refl })
still_books sets (Arm volume grain calls ∷ es) b still =
    through_one (fold (after_event sets) b (Arm volume grain calls ∷ es)) (after_event sets b (Arm volume grain calls)) b (still_books sets es (after_event sets b (Arm volume grain calls)) still.1)
    (record { tables = refl; next_volume = refl; next_mapping = refl; next_group = refl; sheet = refl })
still_books sets (e ∷ es) b still = absurd still.0

-- ---- a slot alone in its chain

alone_apart : (gone : VolId) (slots : List Slot) → FitsRemove slots gone.0 → AreApart gone slots
alone_apart gone slots f i il e = (
  λ v. let first = f.alone i (omega (arith, il)) (inl v) in
      let second = f.alone (suc i) il (inr (sym e ∙ ap (λ (j : ℕ). (slot_at slots j).chain) first)) in absurd (omega (arith, first, second)),
  λ v. let second = f.alone (suc i) il (inl v) in
      let first = f.alone i (omega (arith, il)) (inr (e ∙ ap (λ (j : ℕ). (slot_at slots j).chain) second)) in absurd (omega (arith, first, second)),
)

-- ---- the volume goes

-- What metadata has without it.
abbrev tables_without : VolId → Tables → Tables
tables_without gone t = record t { volumes = filter (is_other gone) t.volumes }

abbrev kept_without : VolId → Whole → List LaneView → Kept
kept_without gone w ls =
    record {
      tables = tables_without gone w.books.tables;
      next_volume = w.books.next_volume;
      next_mapping = w.books.next_mapping;
      next_group = w.books.next_group;
      sheet = record { births = w.books.sheet.births; slots = filter (is_else gone) w.books.sheet.slots };
      rows = w.rows;
      lost = lost_grains ls (filter (is_other gone) w.books.tables.volumes);
    }

same_lost : (gone : VolId) (ls : List LaneView) (vs : List Volume) → filter (is_other_row gone) (map lost_told (lost_grains ls vs)) ≡ map lost_told (lost_grains ls (filter (is_other gone) vs))
same_lost gone ls vs =
    filter_map lost_told (is_other_row gone) (lost_grains ls vs)
    ∙ ap (map lost_told) (filter_map (lost_of ls) (λ (row : LostGrains). is_other_row gone (lost_told row)) vs)

-- the image says so much, as that of these does
image_says : (gone : VolId) (w : Whole) (ls : List LaneView) → AreApart gone w.books.sheet.slots → kept_in (leaving_out gone (meta_of (by_lanes w ls))) ≡ kept_in (meta_of (kept_without gone w ls))
image_says gone w ls apart =
    let t : Tables = tables_without gone w.books.tables in
    let slots : List Slot = w.books.sheet.slots in
    let same : flat_map (slots_in t) (filter (begins_else gone) (chains_told slots)) ≡ flat_map (slots_in t) (chains_told (filter (is_else gone) slots)) =
    flat_left t gone slots apart ∙ sym (flat_told t (filter (is_else gone) slots)) in
    λ i. record {
      tables = t;
      next_volume = w.books.next_volume;
      next_mapping = w.books.next_mapping;
      next_group = w.books.next_group;
      sheet = record { births = w.books.sheet.births; slots = same i };
      rows = map (row_in t) (map changes_told w.rows);
      lost = map (lost_in t) (same_lost gone ls w.books.tables.volumes i);
    }

image_is_sound : (gone : VolId) (w : Whole) (ls : List LaneView) → AreApart gone w.books.sheet.slots → IsSoundKept (kept_without gone w ls) → IsSoundImage (leaving_out gone (meta_of (by_lanes w ls)))
image_is_sound gone w ls apart s =
    let t : Tables = tables_without gone w.books.tables in
    let slots : List Slot = w.books.sheet.slots in
    let other : List Slot = filter (is_else gone) slots in
    let x = image_sound (kept_without gone w ls) s in
    record {
      says = subst IsSoundKept (sym (image_says gone w ls apart ∙ said (kept_without gone w ls) s)) s;
      slots = tidy_left t gone slots apart (λ slot c e. tidy_slot t other x.slots slot (filter_in (is_else gone) slots slot c e));
      lost = subst (All (HasTidyLost t)) (sym (same_lost gone ls w.books.tables.volumes)) x.lost;
      changes = x.changes;
    }

module _ (grain : GrainSize) (entries : List Entry) (w : Whole) (least : List Row) (command : Command) (loop : Option (List VolId)) (entry : Entry) (gone : VolId) (old now : List LaneView) (p : Point)
    (come : HasCome grain entries w least old p) (few : w.entries < 262144) (c : IsCommanded grain w command loop entry) (goes : gone_by grain w command loop ≡ Some gone)
    (are : HaveLanes grain (after_settling grain w) now) (other : LaneView) where
  abbrev settled : Whole
  settled = after_settling grain w

  abbrev left : Whole
  left = left_behind grain w command loop

  abbrev sets : ℕ → List Bool
  sets = restarts settled.rows

  abbrev d : Decision
  d = decided_on grain settled command loop

  begin : Here grain w least p
  begin = from_run grain entries w least p come.run (omega (arith, few))

  r : IsRemoval settled.books d gone
  r = removal_is sets grain settled.books command loop gone goes

  fits : FitsRemove settled.books.sheet.slots gone.0
  fits =
      let lawful = command_lawful grain (2 * w.entries) w command loop (omega (arith, few)) begin.on.reached.stands c.told in
      let all = subst (λ (es : List LaneEvent). FitAsOne grain (all_followed settled) es) r.events lawful.events in
      subst (λ (id : VolId). FitsRemove settled.books.sheet.slots id.0) r.id_is all.0

  apart : AreApart gone settled.books.sheet.slots
  apart = alone_apart gone settled.books.sheet.slots fits

  -- ---- what is left

  abbrev gone_books : Books
  gone_books = after_event sets (after_table_change settled.books (RemoveVolume r.volume.id)) (Remove r.volume.id)

  books_are : SameBooks left.books gone_books
  books_are =
      let works : List LaneEvent = work_events r.after in
      subst (λ (es : List LaneEvent). SameBooks (after_all sets es d.changes settled.books) gone_books) (sym r.events)
      (subst (λ (cs : List Change). SameBooks (after_all sets (Remove r.volume.id ∷ works) cs settled.books) gone_books) (sym r.changes) (still_books sets works gone_books (work_still r.after)))

  rows_are : left.rows ≡ settled.rows
  rows_are =
      let works : List LaneEvent = work_events r.after in
      ap (rows_after settled.books.sheet settled.rows) r.events
      ∙ rows_still settled.books.sheet settled.rows (Remove r.volume.id ∷ works) (λ slots. refl, still_noteless works (work_still r.after))

  volumes_are : filter (is_other gone) settled.books.tables.volumes ≡ left.books.tables.volumes
  volumes_are =
      ap (λ (id : VolId). filter (is_other id) settled.books.tables.volumes) (sym r.id_is)
      ∙ ((λ i. filter (λ (v : Volume). not (turned_round v.id.0 r.volume.id.0 i)) settled.books.tables.volumes) ∙ sym (ap (λ (t : Tables). t.volumes) books_are.tables))

  tables_are : tables_without gone settled.books.tables ≡ left.books.tables
  tables_are =
      (λ i. record {
        volumes = (volumes_are ∙ ap (λ (t : Tables). t.volumes) books_are.tables) i;
        mappings = settled.books.tables.mappings;
        groups = settled.books.tables.groups;
      })
      ∙ sym books_are.tables

  sheet_is : (let s : Sheet = record { births = settled.books.sheet.births; slots = filter (is_else gone) settled.books.sheet.slots } in s) ≡ left.books.sheet
  sheet_is =
      let slots : List Slot = settled.books.sheet.slots in
      let there = live_place_at slots gone.0 fits.place fits.is_there in
      let out : filter (is_else gone) slots ≡ remove slots fits.place = taken_out gone slots fits.place there.there there.of_volume (λ j jl e. fits.alone j jl (inl e)) in
      let one : removed gone.0 settled.books.sheet ≡ without_slot fits.place settled.books.sheet = ap (λ (o : Option ℕ). at_place without_slot o settled.books.sheet) fits.is_there in
      (λ i. record { births = settled.books.sheet.births; slots = out i })
      ∙ (sym one ∙ (ap (λ (id : VolId). removed id.0 settled.books.sheet) (sym r.id_is) ∙ sym books_are.sheet))

  kept_is : kept_without gone settled now ≡ by_lanes left now
  kept_is = λ i. record {
    tables = tables_are i;
    next_volume = sym books_are.next_volume i;
    next_mapping = sym books_are.next_mapping i;
    next_group = sym books_are.next_group i;
    sheet = sheet_is i;
    rows = sym rows_are i;
    lost = lost_grains now (volumes_are i);
  }

  -- ---- no volume came

  was_settled : (v : Volume) → Contains left.books.tables.volumes v → Contains settled.books.tables.volumes v
  was_settled v i = (filter_from (is_other gone) settled.books.tables.volumes v (subst (λ (vs : List Volume). Contains vs v) (sym volumes_are) i)).0

  pub none_came : NoneCame settled left
  none_came v i = was_settled v i

  says_now : by_lanes left now ≡ kept_left grain entries w least command loop entry old p come few c other
  says_now = says_by grain entries w least command loop entry old p come few c other settled (least_by w least (settle w.books)) settled_alone now are none_came

  sound_without : IsSoundKept (kept_without gone settled now)
  sound_without = subst IsSoundKept (sym (kept_is ∙ says_now)) (sound_left grain entries w least command loop entry old p come few c other)

  pub without_all : let image : MetaImage = leaving_out gone (meta_of (by_lanes settled now)) in (kept_in image ≡ by_lanes left now) × NoneCame settled left × IsSoundImage image
  without_all = (image_says gone settled now apart ∙ (said (kept_without gone settled now) sound_without ∙ kept_is), none_came, image_is_sound gone settled now apart sound_without)
