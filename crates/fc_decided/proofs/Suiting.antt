-- From what a deed of ends does to what there is to show of it; `stopfcmap`.
use Rattle.std.proofs.Common.{◌≡◌, ℕ, ◌+◌, ◌*◌, ◌<◌, ◌≤◌, ◌^◌, Bool, true, false, not, Option, None, List, [], ◌∷◌, length, refl, sym, ap, subst, arith}
use Rattle.fc_base.specs.Sheet.{Sheet}
use Rattle.fc_base.specs.States.{next_state}
use Rattle.fc_base.specs.Tables.{mapping_named, refers_to}
use Rattle.fc_base.specs.declared.command.StopWay.{StopWay}
use Rattle.fc_base.specs.declared.command.StopWay.TheVariants.{Plain, Force, Split}
use Rattle.fc_base.specs.declared.fault.Kind.TheVariants.{Fcmap}
use Rattle.fc_base.specs.declared.fault.Refusal.TheVariants.{NotComplete}
use Rattle.fc_base.specs.declared.name.Ref.{Ref}
use Rattle.fc_base.specs.declared.size.GrainSize.{GrainSize}
use Rattle.fc_base.specs.declared.state.MapState.{MapState}
use Rattle.fc_base.specs.declared.state.MapState.TheVariants.{Copying, Stopping}
use Rattle.fc_base.specs.declared.volume.Mapping.{Mapping}
use Rattle.fc_base.specs.declared.volume.Volume.{Volume}
use Rattle.fc_books.specs.Books.{Books, Deed}
use Rattle.fc_books.specs.Copies.{is_whole, held, total}
use Rattle.fc_books.specs.Deciding.{for_one}
use Rattle.fc_books.specs.Refused.{refused_by}
use Rattle.fc_books.specs.RefusedStarts.{in_group, by_state, not_complete, stopfcmap_refused}
use Rattle.fc_books.specs.Stopping.{stop_event, stops}
use Rattle.fc_entry.specs.PlainStep.{after_effects}
use Rattle.fc_entry.specs.Refused.{first_of}
use Rattle.fc_legal.specs.Stands.{ArePlain, Stands}
use Rattle.fc_legal.specs.Whole.{Whole, volumes_told}
use Rattle.fc_decided.proofs.Apart.{sheet_through}
use Rattle.fc_decided.proofs.Ends.{Rows}
use Rattle.fc_decided.proofs.ForceStops.{MayStop, stops_goes}
use Rattle.fc_decided.proofs.Frame.{tabled, sheeted, Suits, few_births}
use Rattle.fc_decided.proofs.Keeping.{as_large_same}
use Rattle.fc_decided.proofs.Sparing.{sparing}
use Rattle.fc_decided.proofs.Joint.{joint_from, agree_from}
use Rattle.fc_decided.proofs.Lists.{find_from}
use Rattle.fc_decided.proofs.Quiet.{fits_from_all}
use Rattle.fc_decided.proofs.Stops.{Sound, Goes}
use Rattle.fc_decided.proofs.TableSteps.{calm_disks, calm_no_work, calm_sparing}
use Rattle.fc_decided.proofs.Unrefused.{none_of, none_where, some_one}

-- ---- what stands

pub sound_of : (decisions : ℕ) (w : Whole) → Stands decisions w → Sound w.books w.picture
sound_of decisions w st =
    record {
      sheet = st.sound.sheet;
      stands = record {
        rows = record { tables = st.sound.tables; of_tables = st.sound.agree.mappings; one_busy = st.sound.agree.one_busy };
        joint = joint_from w.books st.sound.sheet.one_live st.sound.agree;
      };
      plain = st.plain;
    }

-- the same rows, with other chains
pub rows_with : (b : Books) (s : Sheet) → Rows b → Rows (record b { sheet = s })
rows_with b s r =
    record {
      tables = record {
        volumes = r.tables.volumes;
        mappings = r.tables.mappings;
        groups = r.tables.groups;
        new_volume = r.tables.new_volume;
        new_mapping = r.tables.new_mapping;
        new_group = r.tables.new_group;
      };
      of_tables = r.of_tables;
      one_busy = r.one_busy;
    }

pub goes_suits : (grain : GrainSize) (decisions : ℕ) (w : Whole) (deed : Deed) (births : ℕ) → decisions < 2 ^ 32 → Stands decisions w → Goes grain w.books w.picture deed births → births ≤ 2 ^ 20 → Suits grain decisions w deed
goes_suits grain decisions w deed births small st g few =
    let b = w.books in
    let after = sheet_through b.sheet deed.events in
    let bound : after.births ≤ (decisions + 1) * 2 ^ 20 = (
    let first : b.sheet.births ≤ decisions * 2 ^ 20 = st.few.births in
    let more : after.births ≤ b.sheet.births + births = g.few in
    omega arith) in
    let vols : (tabled b deed.changes).tables.volumes ≡ b.tables.volumes = g.table.same_volumes in
    let rows : Rows (sheeted b deed.events deed.changes) = rows_with (tabled b deed.changes) after g.stands.rows in
    record {
      fits = fits_from_all b.sheet deed.events g.fit (few_births decisions after.births small bound);
      disks = calm_disks b.pools (volumes_told b.tables) deed.events g.table.calm;
      no_work = calm_no_work deed.events g.table.calm;
      gone = g.table.gone;
      fit_changes = g.table.fit_changes;
      picture = g.shows;
      volumes = g.table.volumes;
      later = (let e : (tabled b deed.changes).next_mapping ≡ b.next_mapping = g.table.next_mapping in omega arith);
      tables = g.stands.rows.tables;
      agree = agree_from (sheeted b deed.events deed.changes) g.sheet rows g.stands.joint;
      few = record {
        volumes = (let e : (tabled b deed.changes).next_volume ≡ b.next_volume = g.table.next_volume in omega (arith, st.few.volumes, e));
        mappings = (let e : (tabled b deed.changes).next_mapping ≡ b.next_mapping = g.table.next_mapping in omega (arith, st.few.mappings, e));
        groups = (let e : (tabled b deed.changes).next_group ≡ b.next_group = g.table.next_group in omega (arith, st.few.groups, e));
        births = bound;
        at_once = omega (arith, g.table.fewer, st.few.at_once);
        volumes_at_once = (let e : length (tabled b deed.changes).tables.volumes ≡ length b.tables.volumes = ap length vols in omega (arith, st.few.volumes_at_once, e));
      };
      plain = subst (λ (vs : List Volume). ArePlain vs (after_effects grain w.picture deed.effects)) (sym vols) g.plain;
      begins = sparing (calm_sparing b.tables deed.events g.table.calm);
      keeps = record { stay = g.table.stay; as_large = as_large_same b.tables (tabled b deed.changes).tables vols };
    }

-- ---- a stop of a mapping

-- a state in which the stop is allowed
pub may_copying : (b : Books) (m : Mapping) (way : StopWay) → not_complete way b m ≡ None → way ≡ Split → is_whole b m ≡ true
may_copying b m Split e same = not-false (is_whole b m) (none_where (not (is_whole b m)) (NotComplete (held b m) (total b m)) e)
  where
    not-false : (x : Bool) → not x ≡ false → x ≡ true
    not-false true q = refl
    not-false false q = absurd cc
may_copying b m Plain e same = absurd cc
may_copying b m Force e same = absurd cc

may_stopping : (way : StopWay) → refused_by (next_state Stopping (stop_event way) true false) ≡ None → way ≡ Force
may_stopping Force e = refl
may_stopping Plain e = absurd cc
may_stopping Split e = absurd cc

may_stop : (b : Books) (m : Mapping) (way : StopWay) (state : MapState) → refused_by (next_state state (stop_event way) true false) ≡ None → not_complete way b m ≡ None → MayStop state way (is_whole b m)
may_stop b m way Copying allowed complete = may_copying b m way complete
may_stop b m way Stopping allowed complete = may_stopping way allowed
may_stop b m way state allowed complete = tt

pub stop_suits : (grain : GrainSize) (decisions : ℕ) (w : Whole) (r : Ref) (way : StopWay) → decisions < 2 ^ 32 → Stands decisions w → stopfcmap_refused w.books r way ≡ None → Suits grain decisions w (for_one (mapping_named w.books.tables r) (stops way w.books))
stop_suits grain decisions w r way small st e =
    let b = w.books in
    let one = some_one Fcmap (mapping_named b.tables r) (λ (m : Mapping). first_of (in_group m ∷ by_state (stop_event way) m ∷ not_complete way b m ∷ [])) e in
    let m = one.0 in
    let none = none_of (in_group m ∷ by_state (stop_event way) m ∷ not_complete way b m ∷ []) one.2 in
    let found = (find_from (λ (x : Mapping). refers_to r x.id.0 x.name) b.tables.mappings m one.1).0 in
    let goes = stops_goes grain b m w.picture way (sound_of decisions w st) found (may_stop b m way m.state none.1.0 none.1.1.0) in
    let at_once : length b.tables.mappings ≤ 512 = st.few.at_once in
    subst (λ (o : Option Mapping). Suits grain decisions w (for_one o (stops way b))) (sym one.1)
    (goes_suits grain decisions w (stops way b m) (length b.tables.mappings + 1) small st goes (omega arith))
