-- The whole settling: the drops, and then all mappings.
use Rattle.std.proofs.Common.{◌≡◌, ℕ, suc, ◌+◌, ◌<◌, ◌≤◌, ◌^◌, Bool, true, false, nat_lt, Some, None, List, [], ◌∷◌, length, fold, refl, sym, ap, subst, ◌∙◌, arith, Contains, inl, inr}
use Rattle.std.specs.List.{list_all}
use Rattle.std.proofs.lemmas.Bool.{both_ways}
use Rattle.fc_base.specs.Counts.{is_unneeded, need_count_of}
use Rattle.fc_base.specs.Sheet.{Slot, Sheet, slot_at, slot_id, mapping_place}
use Rattle.fc_base.specs.SheetFacts.{IsSound}
use Rattle.fc_base.specs.SheetStep.{sheet_step}
use Rattle.fc_base.specs.SheetView.{needed_at}
use Rattle.fc_base.specs.declared.decision.LaneEvent.TheVariants.{Drop}
use Rattle.fc_base.specs.declared.ids.SlotId.{SlotId}
use Rattle.fc_base.specs.declared.request.Reply.TheVariants.{NoMemory}
use Rattle.fc_base.specs.declared.size.GrainSize.{GrainSize}
use Rattle.fc_base.specs.declared.state.MapState.{MapState}
use Rattle.fc_base.specs.declared.state.MapState.TheVariants.{Empty, IdleOrCopied, Preparing, Prepared, Copying, Stopping, Stopped}
use Rattle.fc_base.specs.declared.volume.Mapping.{Mapping}
use Rattle.fc_base.specs.declared.volume.Volume.{Volume}
use Rattle.fc_books.specs.After.{flags_after, pools_after}
use Rattle.fc_books.specs.Books.{Books, Deed, ◌then◌, all_deeds}
use Rattle.fc_books.specs.Copies.{is_needed}
use Rattle.fc_books.specs.Deciding.{settle}
use Rattle.fc_books.specs.Settling.{drops, settles_in, settling}
use Rattle.fc_entry.specs.Picture.{Picture}
use Rattle.fc_entry.specs.PlainStep.{after_effects}
use Rattle.fc_legal.specs.Lawful.{IsLawful}
use Rattle.fc_legal.specs.Steps.{after_settling}
use Rattle.fc_decided.specs.Law.{AreSettled}
use Rattle.fc_legal.specs.Stands.{ArePlain, Stands}
use Rattle.fc_legal.specs.Whole.{Whole}
use Rattle.fc_moves.proofs.Search.{cases_option}
use Rattle.fc_sheets.proofs.Steps.{Nobody}
use Rattle.fc_decided.proofs.Apart.{fold_append, sheet_through, rooms_left}
use Rattle.fc_decided.proofs.Counting.{old_uncounted, not_counted}
use Rattle.fc_decided.proofs.Dropping.{needed_or_named, Drops, drop_events, unneeded_names, settling_drops, not_named, old_named}
use Rattle.fc_decided.proofs.Frame.{all_leave_plain, tabled, Suits, lawful_alone}
use Rattle.fc_decided.proofs.Goings.{left_by, rows_parts, Part, goes_after}
use Rattle.fc_decided.proofs.Joint.{HasSeen, StateSeen}
use Rattle.fc_decided.proofs.Lists.{first_in, later_in, none_in}
use Rattle.fc_decided.proofs.Olds.{AreNeeded}
use Rattle.fc_decided.proofs.Plain.{copies, whole_complete}
use Rattle.fc_decided.proofs.Quiet.{Standing, IsIdOf, first_apart, rest_ordered}
use Rattle.fc_decided.proofs.Setting.{AreOrdered}
use Rattle.fc_decided.proofs.Seen.{Seen, seen}
use Rattle.fc_decided.proofs.Settles.{Ready, still_ready, SettlesOne, settles_one}
use Rattle.fc_decided.proofs.Stops.{Sound, Goes, At, slot_of, not_needed}
use Rattle.fc_decided.proofs.Suiting.{sound_of, goes_suits}
use Rattle.fc_decided.proofs.TableSteps.{TableStep, table_none, table_then, table_apart, calm_sparing}
use Rattle.fc_follow.specs.Following.{restarts}

-- ---- mapping by mapping

none_pending : (c : Books) → Standing c c.sheet.slots (IsIdOf []) → Standing c c.sheet.slots Nobody
none_pending c st =
    record {
      rows = st.rows;
      joint = record {
        volumes = st.joint.volumes;
        back = st.joint.back;
        owned = st.joint.owned;
        by_state = λ m found free. st.joint.by_state m found (λ p. none_in p.d p.among);
      };
    }

-- What the settling of mappings does, and that it leaves old slots needed.
record SettlesAll (grain : GrainSize) (c : Books) (picture : Picture) (d : Deed) (births : ℕ) : Type 0 where
  goes : Goes grain c picture d births
  olds : AreNeeded c.sheet.slots → AreNeeded (sheet_through c.sheet d.events).slots

settles_all : (grain : GrainSize) (ms : List Mapping) (b c : Books) (picture : Picture) → IsSound c.sheet → Standing c c.sheet.slots (IsIdOf ms) → ArePlain c.tables.volumes picture → AreOrdered ms →
    ((m : Mapping) → Contains ms m → Contains c.tables.mappings m) → ((m : Mapping) → Contains ms m → Ready m.state b c.sheet.slots m) →
    SettlesAll grain c picture (all_deeds (λ m. settles_in m.state b m) ms) (length ms)
settles_all grain [] b c picture i st plain ordered there ready =
    record {
      goes = record { table = table_none c; fit = tt; shows = refl; few = omega arith; sheet = i; stands = none_pending c st; plain = plain };
      olds = λ all. all;
    }
settles_all grain (m ∷ ms) b c picture i st plain ordered there ready =
    let first : Deed = settles_in m.state b m in
    let more : Deed = all_deeds (λ m. settles_in m.state b m) ms in
    let one : SettlesOne grain c picture m ms first = settles_one grain b c picture m ms m.state refl i st (there m (first_in m ms)) (ready m (first_in m ms)) in
    let next : Books = left_by c first in
    let s = sheet_through c.sheet first.events in
    let after = after_effects grain picture first.effects in
    let rest : SettlesAll grain next after more (length ms) = settles_all grain ms b next after one.sheet
    (record { rows = rows_parts (tabled c first.changes) s (fold flags_after c.flags first.events) (fold pools_after c.pools first.events) (rooms_left c.rooms first.events) one.stands.rows; joint = one.stands.joint })
    (subst (ArePlain next.tables.volumes) (sym one.effects) (subst (λ (vs : List Volume). ArePlain vs picture) (sym one.table.same_volumes) plain))
    (rest_ordered m ms ordered)
    (λ x found. one.rows x (there x (later_in m x ms found)) (first_apart m x ms ordered found))
    (λ x found.
    let ne = first_apart m x ms ordered found in
    still_ready x.state b c.sheet.slots s.slots x (one.slots x.id.0 ne) (one.free x.id.0 ne) (ready x (later_in m x ms found))) in
    let count : 1 + length ms ≡ suc (length ms) = omega arith in
    record {
      goes = subst (λ (n : ℕ). Goes grain c picture (first then more) n) count
          (goes_after grain c picture first more 1 (length ms) (record { table = one.table; fit = one.fit; shows = one.shows ∙ sym one.effects; few = one.few }) rest.goes);
      olds = λ all. subst (λ (x : Sheet). AreNeeded x.slots) (sym (fold_append (sheet_step (λ grains. grains)) c.sheet first.events more.events)) (rest.olds (one.olds all));
    }

-- ---- the drops

drops_table : (b : Books) (names : List SlotId) → TableStep b (drop_events names) []
drops_table b [] = table_none b
drops_table b (n ∷ ns) = table_then b (Drop n ∷ []) (drop_events ns) [] [] (table_apart b (Drop n) tt) (drops_table b ns)

drops_part : (grain : GrainSize) (b : Books) (picture : Picture) → Drops b.sheet (unneeded_names b.sheet.slots) → Part grain b picture (drops b.sheet.slots) 0
drops_part grain b picture d =
    let names = unneeded_names b.sheet.slots in
    let births : (sheet_through b.sheet (drop_events names)).births ≡ b.sheet.births = d.births in
    record { table = drops_table b names; fit = d.fit; shows = d.shows grain picture; few = omega arith }

pub dropped_standing : (b : Books) (s : Sheet) → Standing b b.sheet.slots Nobody → s ≡ sheet_through b.sheet (drop_events (unneeded_names b.sheet.slots)) → Drops b.sheet (unneeded_names b.sheet.slots) → Standing b s.slots (IsIdOf b.tables.mappings)
dropped_standing b s st e d =
    subst (λ (x : Sheet). Standing b x.slots (IsIdOf b.tables.mappings)) (sym e) (record {
      rows = st.rows;
      joint = record {
        volumes = λ v found. d.sizes v.id.0 ∙ st.joint.volumes v found;
        back = λ v n q. st.joint.back v n (sym (d.sizes v) ∙ q);
        owned = λ n x q. elim (cases_option (seen b.sheet.slots n)) [
          | inl none ↦ absurd (let f : None ≡ Some x = sym (d.fewer n none) ∙ q in cc)
          | inr some ↦ st.joint.owned n some.0 some.1
        ];
        by_state = λ m found free. absurd (free (record { d = m; among = found; is = refl }));
      };
    })

-- what is known of each mapping after the drops
needed_count : (b : Books) (m : Mapping) (k : ℕ) → mapping_place b.sheet.slots m.id.0 ≡ Some k → is_needed b m ≡ true → need_count_of b.sheet.slots k ≡ 0 → ⊥
needed_count b m k place needed none =
    both_ways (is_needed b m) (ap (λ o. nat_lt 0 (needed_at b.sheet.slots o)) place ∙ ap (nat_lt 0) none) needed

unneeded_count : (b : Books) (m : Mapping) (k : ℕ) → mapping_place b.sheet.slots m.id.0 ≡ Some k → is_needed b m ≡ false → need_count_of b.sheet.slots k ≡ 0
unneeded_count b m k place e = not_counted (needed_at b.sheet.slots (Some k)) (ap (λ o. nat_lt 0 (needed_at b.sheet.slots o)) (sym place) ∙ e)

same_birth : (b : Books) (m : Mapping) (live : Bool) (a : At b m live) → (slot_at b.sheet.slots a.place).birth ≡ a.x.birth
same_birth b m live a = ap (λ (x : Seen). x.birth) a.slot

kept_seen : (b : Books) (m : Mapping) (live : Bool) (t : List Slot) (h : HasSeen (seen b.sheet.slots m.id.0) m.target.0 live) → seen t m.id.0 ≡ Some h.x → HasSeen (seen t m.id.0) m.target.0 live
kept_seen b m live t h e = record { x = h.x; is = e; of_target = h.of_target; liveness = h.liveness }

copying_ready : (b : Books) (picture : Picture) (m : Mapping) → Sound b picture → Drops b.sheet (unneeded_names b.sheet.slots) → Contains b.tables.mappings m → HasSeen (seen b.sheet.slots m.id.0) m.target.0 true →
    Ready Copying b (sheet_through b.sheet (drop_events (unneeded_names b.sheet.slots))).slots m
copying_ready b picture m s d found h =
    let slots = b.sheet.slots in
    let a = slot_of b m true h in
    let live_stays : is_unneeded slots a.place ≡ true → ⊥ = λ u. both_ways (slot_at slots a.place).is_live (old_uncounted slots a.place u).0 a.liveness in
    let unnamed = not_named b.sheet a.place s.sheet a.there live_stays in
    let stays = d.stays m.id.0 h.x h.is (λ n named e. unnamed n named (e ∙ (let q : Some h.x ≡ Some a.x = sym h.is ∙ a.is in let same : h.x ≡ a.x = cc in ap (λ (x : Seen). x.birth) same ∙ sym (same_birth b m true a)))) in (
      kept_seen b m true (sheet_through b.sheet (drop_events (unneeded_names slots))).slots h stays,
      λ whole free.
          let c = copies b Nobody m s.sheet.one_live s.stands found h in
          let q : Some c.0 ≡ Some a.x = sym c.1.is ∙ a.is in
          let same : c.0 ≡ a.x = cc in
          record {
            t = slot_at slots a.place;
            free = d.free (slot_at slots a.place) (record { place = a.place; there = a.there; is = refl; free = not_needed b m a.place a.is_there free }) unnamed;
            of_mapping = a.of_mapping;
            live = a.liveness;
            whole = ap (λ (x : Seen). list_all (λ b. b) x.held) (a.slot ∙ sym same) ∙ whole_complete b m c.0 c.1 whole;
          },
    )

stopping_ready : (b : Books) (picture : Picture) (m : Mapping) → Sound b picture → Drops b.sheet (unneeded_names b.sheet.slots) → HasSeen (seen b.sheet.slots m.id.0) m.target.0 false →
    Ready Stopping b (sheet_through b.sheet (drop_events (unneeded_names b.sheet.slots))).slots m
stopping_ready b picture m s d h =
    let slots = b.sheet.slots in
    let a = slot_of b m false h in
    let birth : (slot_at slots a.place).birth ≡ h.x.birth = same_birth b m false a ∙ (let q : Some a.x ≡ Some h.x = sym a.is ∙ h.is in let same : a.x ≡ h.x = cc in ap (λ (x : Seen). x.birth) same) in (
      (λ needed.
          let unnamed = not_named b.sheet a.place s.sheet a.there (λ u. needed_count b m a.place a.is_there needed (old_uncounted slots a.place u).1) in
          kept_seen b m false (sheet_through b.sheet (drop_events (unneeded_names slots))).slots h (d.stays m.id.0 h.x h.is (λ n named e. unnamed n named (e ∙ sym birth)))),
      λ free. d.went m.id.0 h.x (slot_id slots a.place) h.is (old_named b.sheet a.place a.there a.liveness (unneeded_count b m a.place a.is_there free)) birth,
    )

pub ready_by : (b : Books) (picture : Picture) (m : Mapping) (state : MapState) → Sound b picture → Drops b.sheet (unneeded_names b.sheet.slots) → Contains b.tables.mappings m → StateSeen state (seen b.sheet.slots m.id.0) m.target.0 →
    Ready state b (sheet_through b.sheet (drop_events (unneeded_names b.sheet.slots))).slots m
ready_by b picture m Copying s d found h = copying_ready b picture m s d found h
ready_by b picture m Stopping s d found h = stopping_ready b picture m s d h
ready_by b picture m Empty s d found none = d.fewer m.id.0 none
ready_by b picture m IdleOrCopied s d found none = d.fewer m.id.0 none
ready_by b picture m Preparing s d found none = d.fewer m.id.0 none
ready_by b picture m Prepared s d found none = d.fewer m.id.0 none
ready_by b picture m Stopped s d found none = d.fewer m.id.0 none

-- ---- all

settling_all : (grain : GrainSize) (b : Books) (picture : Picture) → Sound b picture → SettlesAll grain (left_by b (drops b.sheet.slots)) picture (all_deeds (λ m. settles_in m.state b m) b.tables.mappings) (length b.tables.mappings)
settling_all grain b picture s =
    let d = settling_drops b.sheet s.sheet in
    let next : Books = left_by b (drops b.sheet.slots) in
    let st : Standing b next.sheet.slots (IsIdOf b.tables.mappings) = dropped_standing b next.sheet s.stands refl d in
    settles_all grain b.tables.mappings b next picture d.sound
    (record { rows = rows_parts b next.sheet next.flags next.pools next.rooms st.rows; joint = st.joint }) s.plain s.stands.rows.tables.mappings
    (λ m found. found)
    (λ m found. ready_by b picture m m.state s d found (s.stands.joint.by_state m found (λ n. n)))

pub settling_goes : (grain : GrainSize) (b : Books) (picture : Picture) → Sound b picture → Goes grain b picture (settling b) (length b.tables.mappings)
unfolding settling
settling_goes grain b picture s =
    let first : Deed = drops b.sheet.slots in
    let more : Deed = all_deeds (λ m. settles_in m.state b m) b.tables.mappings in
    let count : 0 + length b.tables.mappings ≡ length b.tables.mappings = omega arith in
    subst (λ (n : ℕ). Goes grain b picture (first then more) n) count
    (goes_after grain b picture first more 0 (length b.tables.mappings) (drops_part grain b picture (settling_drops b.sheet s.sheet)) (settling_all grain b picture s).goes)

-- After it every old slot is needed.
settling_olds : (grain : GrainSize) (b : Books) (picture : Picture) → Sound b picture → AreNeeded (sheet_through b.sheet (settling b).events).slots
unfolding settling
settling_olds grain b picture s =
    let first : Deed = drops b.sheet.slots in
    let more : Deed = all_deeds (λ m. settles_in m.state b m) b.tables.mappings in
    subst (λ (x : Sheet). AreNeeded x.slots) (sym (fold_append (sheet_step (λ grains. grains)) b.sheet first.events more.events))
    ((settling_all grain b picture s).olds ((settling_drops b.sheet s.sheet).olds (needed_or_named b.sheet)))

pub settling_suits : (grain : GrainSize) (decisions : ℕ) (w : Whole) → decisions < 2 ^ 32 → Stands decisions w → Suits grain decisions w (settling w.books)
settling_suits grain decisions w small st =
    let at_once : length w.books.tables.mappings ≤ 512 = st.few.at_once in
    goes_suits grain decisions w (settling w.books) (length w.books.tables.mappings) small st (settling_goes grain w.books w.picture (sound_of decisions w st)) (omega arith)

-- The settling is lawful.
pub settle_lawful : (grain : GrainSize) (decisions : ℕ) (w : Whole) → decisions < 2 ^ 32 → Stands decisions w → IsLawful grain decisions w (settle w.books)
settle_lawful grain decisions w small st = lawful_alone grain decisions w NoMemory (settling w.books) st (settling_suits grain decisions w small st)

-- After it the books are settled.
pub settle_settles : (grain : GrainSize) (decisions : ℕ) (w : Whole) → decisions < 2 ^ 32 → Stands decisions w → AreSettled (after_settling grain w).books
settle_settles grain decisions w small st =
    let d = settling w.books in
    let goes = settling_goes grain w.books w.picture (sound_of decisions w st) in
    subst (λ (b : Books). AreNeeded b.sheet.slots)
    (sym (all_leave_plain w.books.tables (restarts w.rows) w.books d.events d.changes (calm_sparing w.books.tables d.events goes.table.calm)))
    (settling_olds grain w.books w.picture (sound_of decisions w st))
