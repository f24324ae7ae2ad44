-- Deeds of ends one after the other, each on the books that the last left.
use Rattle.std.proofs.Common.{◌≡◌, ℕ, Bool, ◌+◌, ◌≤◌, List, [], ◌∷◌, ◌++◌, length, fold, refl, sym, ap, subst, ◌∙◌, arith, Contains}
use Rattle.fc_base.specs.Pools.{Pool}
use Rattle.fc_base.specs.Room.{Room}
use Rattle.fc_base.specs.Sheet.{Slot, Sheet}
use Rattle.fc_base.specs.SheetFacts.{IsSound}
use Rattle.fc_base.specs.SheetStep.{sheet_step}
use Rattle.fc_base.specs.declared.decision.LaneEvent.{LaneEvent}
use Rattle.fc_base.specs.declared.size.GrainSize.{GrainSize}
use Rattle.fc_base.specs.declared.volume.Change.{Change}
use Rattle.fc_base.specs.declared.volume.Change.TheVariants.{AddVolume}
use Rattle.fc_base.specs.declared.volume.Volume.{Volume}
use Rattle.fc_books.specs.After.{after_table_change, after_deed, flags_after, pools_after}
use Rattle.fc_books.specs.Books.{Books, Deed, ◌then◌}
use Rattle.fc_entry.specs.Picture.{Picture}
use Rattle.fc_entry.specs.PlainStep.{after_effects}
use Rattle.fc_legal.specs.Stands.{ArePlain}
use Rattle.fc_legal.specs.Whole.{volumes_told}
use Rattle.fc_pick.specs.declared.work.WorkFlags.{WorkFlags}
use Rattle.fc_sheets.proofs.Steps.{Nobody}
use Rattle.fc_decided.proofs.Apart.{fold_append, sheet_through, rooms_left, picture_through, picture_append}
use Rattle.fc_decided.proofs.Ends.{Rows}
use Rattle.fc_decided.proofs.Frame.{tabled, left_books, all_leave_plain}
use Rattle.fc_decided.proofs.Keeping.{Stay}
use Rattle.fc_decided.proofs.Plain.{effects_append}
use Rattle.fc_decided.proofs.Quiet.{FitAll, fit_all_append, Standing}
use Rattle.fc_decided.proofs.Stops.{Sound, Goes}
use Rattle.fc_decided.proofs.TableSteps.{TableStep, table_then, calm_sparing}
use Rattle.fc_decided.proofs.Working.{AreGone}

-- ---- books with other chains, background work, disks and rooms

abbrev pub with_parts : Books → Sheet → List WorkFlags → List Pool → List Room → Books
with_parts b s flags pools rooms = record b { sheet = s; flags = flags; pools = pools; rooms = rooms }

parts_change : (b : Books) (s : Sheet) (flags : List WorkFlags) (pools : List Pool) (rooms : List Room) (c : Change) → after_table_change (with_parts b s flags pools rooms) c ≡ with_parts (after_table_change b c) s flags pools rooms
parts_change b s flags pools rooms (AddVolume volume) = refl
parts_change b s flags pools rooms c = refl

pub parts_tabled : (b : Books) (s : Sheet) (flags : List WorkFlags) (pools : List Pool) (rooms : List Room) (changes : List Change) → tabled (with_parts b s flags pools rooms) changes ≡ with_parts (tabled b changes) s flags pools rooms
parts_tabled b s flags pools rooms [] = refl
parts_tabled b s flags pools rooms (c ∷ cs) = ap (λ (x : Books). tabled x cs) (parts_change b s flags pools rooms c) ∙ parts_tabled (after_table_change b c) s flags pools rooms cs

pub rows_parts : (b : Books) (s : Sheet) (flags : List WorkFlags) (pools : List Pool) (rooms : List Room) → Rows b → Rows (with_parts b s flags pools rooms)
rows_parts b s flags pools rooms r =
    record {
      tables = record {
        volumes = r.tables.volumes;
        mappings = r.tables.mappings;
        groups = r.tables.groups;
        new_volume = r.tables.new_volume;
        new_mapping = r.tables.new_mapping;
        new_group = r.tables.new_group;
      };
      of_tables = r.of_tables;
      one_busy = r.one_busy;
    }

-- the same back: a step of the tables doesn't know of the other parts
step_by : (b : Books) (s : Sheet) (flags : List WorkFlags) (pools : List Pool) (rooms : List Room) (events : List LaneEvent) (changes : List Change) (last : Books) → last ≡ with_parts (tabled b changes) s flags pools rooms →
    tabled (with_parts b s flags pools rooms) changes ≡ last → TableStep (with_parts b s flags pools rooms) events changes → TableStep b events changes
step_by b s flags pools rooms events changes last e f t =
    let same : tabled (with_parts b s flags pools rooms) changes ≡ with_parts (tabled b changes) s flags pools rooms = f ∙ e in
    record {
      calm = t.calm;
      gone = subst (λ (x : Books). AreGone x.tables.mappings events) same t.gone;
      ids = λ m found. t.ids m (subst (λ (x : Books). Contains x.tables.mappings m) (sym same) found);
      stay = subst (λ (x : Books). Stay b.tables.mappings x.tables.mappings events) same t.stay;
      fit_changes = t.fit_changes;
      volumes = t.volumes ∙ ap (λ (x : Books). volumes_told x.tables) same;
      same_volumes = ap (λ (x : Books). x.tables.volumes) (sym same) ∙ t.same_volumes;
      next_volume = ap (λ (x : Books). x.next_volume) (sym same) ∙ t.next_volume;
      next_mapping = ap (λ (x : Books). x.next_mapping) (sym same) ∙ t.next_mapping;
      next_group = ap (λ (x : Books). x.next_group) (sym same) ∙ t.next_group;
      fewer = (let n : length (tabled b changes).tables.mappings ≡ length (tabled (with_parts b s flags pools rooms) changes).tables.mappings = ap (λ (x : Books). length x.tables.mappings) (sym same) in omega (arith, n, t.fewer));
    }

step_parts : (b : Books) (s : Sheet) (flags : List WorkFlags) (pools : List Pool) (rooms : List Room) (events : List LaneEvent) (changes : List Change) → TableStep (with_parts b s flags pools rooms) events changes → TableStep b events changes
step_parts b s flags pools rooms events changes t = step_by b s flags pools rooms events changes (tabled (with_parts b s flags pools rooms) changes) (parts_tabled b s flags pools rooms changes) refl t

standing_back : (b : Books) (s : Sheet) (flags : List WorkFlags) (pools : List Pool) (rooms : List Room) (changes : List Change) (slots : List Slot) (pending : ℕ → Type 0) → Standing (tabled (with_parts b s flags pools rooms) changes) slots pending → Standing (tabled b changes) slots pending
standing_back b s flags pools rooms changes slots pending st =
    let c = tabled b changes in
    let other : Standing (with_parts c s flags pools rooms) slots pending = subst (λ (x : Books). Standing x slots pending) (parts_tabled b s flags pools rooms changes) st in
    record { rows = rows_parts (with_parts c s flags pools rooms) c.sheet c.flags c.pools c.rooms other.rows; joint = other.joint }

-- ---- one after the other

-- The books after a deed.
abbrev pub left_by : Books → Deed → Books
left_by b d = left_books b d.events d.changes

pub after_is : (grain : GrainSize) (restarts : ℕ → List Bool) (b : Books) (picture : Picture) (d : Deed) (births : ℕ) → Goes grain b picture d births → after_deed restarts b d ≡ left_by b d
after_is grain restarts b picture d births g = all_leave_plain b.tables restarts b d.events d.changes (calm_sparing b.tables d.events g.table.calm)

pub goes_sound : (grain : GrainSize) (b : Books) (picture : Picture) (d : Deed) (births : ℕ) → Goes grain b picture d births → Sound (left_by b d) (after_effects grain picture d.effects)
goes_sound grain b picture d births g =
    let s = sheet_through b.sheet d.events in
    record {
      sheet = g.sheet;
      stands = record {
        rows = rows_parts (tabled b d.changes) s (fold flags_after b.flags d.events) (fold pools_after b.pools d.events) (rooms_left b.rooms d.events) g.stands.rows;
        joint = g.stands.joint;
      };
      plain = subst (λ (vs : List Volume). ArePlain vs (after_effects grain picture d.effects)) (sym g.table.same_volumes) g.plain;
    }

-- A deed that fits, whatever stands after it.
pub record Part (grain : GrainSize) (b : Books) (picture : Picture) (deed : Deed) (births : ℕ) : Type 0 where
  pub table : TableStep b deed.events deed.changes
  pub fit : FitAll b.sheet deed.events
  pub shows : picture_through grain b.sheet picture deed.events ≡ after_effects grain picture deed.effects
  pub few : (sheet_through b.sheet deed.events).births ≤ b.sheet.births + births

pub goes_after : (grain : GrainSize) (b : Books) (picture : Picture) (first second : Deed) (n m : ℕ) → Part grain b picture first n → Goes grain (left_by b first) (after_effects grain picture first.effects) second m →
    Goes grain b picture (first then second) (n + m)
goes_after grain b picture first second n m one two =
    let s = sheet_through b.sheet first.events in
    let flags = fold flags_after b.flags first.events in
    let pools = fold pools_after b.pools first.events in
    let rooms = rooms_left b.rooms first.events in
    let c = tabled b first.changes in
    let t = sheet_through s second.events in
    let through : sheet_through b.sheet (first.events ++ second.events) ≡ t = fold_append (sheet_step (λ grains. grains)) b.sheet first.events second.events in
    let few : s.births ≤ b.sheet.births + n = one.few in
    let more : t.births ≤ s.births + m = two.few in
    let effects : after_effects grain picture (first.effects ++ second.effects) ≡ after_effects grain (after_effects grain picture first.effects) second.effects = effects_append grain picture first.effects second.effects in
    record {
      table = table_then b first.events second.events first.changes second.changes one.table (step_parts c s flags pools rooms second.events second.changes two.table);
      fit = fit_all_append b.sheet first.events second.events one.fit two.fit;
      shows = picture_append grain b.sheet picture first.events second.events
          ∙ ap (λ p. picture_through grain s p second.events) one.shows
          ∙ two.shows
          ∙ sym effects;
      few = subst (λ (x : Sheet). x.births ≤ b.sheet.births + (n + m)) (sym through) (omega arith);
      sheet = subst IsSound (sym through) two.sheet;
      stands = subst (λ (x : Sheet). Standing (tabled b (first.changes ++ second.changes)) x.slots Nobody) (sym through)
          (subst (λ (x : Books). Standing x t.slots Nobody) (sym (fold_append after_table_change b first.changes second.changes))
          (standing_back c s flags pools rooms second.changes t.slots Nobody two.stands));
      plain = subst (ArePlain b.tables.volumes) (sym effects)
          (subst (λ (vs : List Volume). ArePlain vs (after_effects grain (after_effects grain picture first.effects) second.effects)) one.table.same_volumes two.plain);
    }

pub goes_then : (grain : GrainSize) (b : Books) (picture : Picture) (first second : Deed) (n m : ℕ) → Goes grain b picture first n → Goes grain (left_by b first) (after_effects grain picture first.effects) second m →
    Goes grain b picture (first then second) (n + m)
goes_then grain b picture first second n m one two =
    goes_after grain b picture first second n m (record { table = one.table; fit = one.fit; shows = one.shows; few = one.few }) two
