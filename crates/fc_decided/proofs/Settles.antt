-- A settling: after the drops, mapping by mapping.
use Rattle.std.proofs.Common.{◌≡◌, ◌≢◌, ℕ, ◌+◌, ◌<◌, ◌≤◌, Bool, true, false, cond, Option, Some, None, List, [], ◌∷◌, length, remove, refl, sym, ap, subst, ◌∙◌, arith, Contains, inl, inr}
use Rattle.std.specs.List.{list_all}
use Rattle.std.proofs.lemmas.Bool.{cases_eq}
use Rattle.fc_base.specs.Sheet.{Slot, Sheet, slot_at, mapping_place}
use Rattle.fc_base.specs.SheetFacts.{IsSound}
use Rattle.fc_base.specs.SheetFits.{FitsEvent}
use Rattle.fc_base.specs.SheetStep.{sheet_step, at_place, detached_at}
use Rattle.fc_base.specs.States.{next_state}
use Rattle.fc_base.specs.declared.decision.LaneEvent.TheVariants.{Detach, NoteCut}
use Rattle.fc_base.specs.declared.ids.MapId.{MapId}
use Rattle.fc_base.specs.declared.request.Effect.TheVariants.{Cut}
use Rattle.fc_base.specs.declared.size.GrainSize.{GrainSize}
use Rattle.fc_base.specs.declared.state.MapEvent.TheVariants.{Finish}
use Rattle.fc_base.specs.declared.state.MapState.{MapState}
use Rattle.fc_base.specs.declared.state.MapState.TheVariants.{Empty, IdleOrCopied, Copying, Stopping, Stopped}
use Rattle.fc_base.specs.declared.volume.Mapping.{Mapping}
use Rattle.fc_books.specs.Accesses.{is_idle}
use Rattle.fc_books.specs.Books.{Books, Deed, nothing, told, ◌then◌}
use Rattle.fc_books.specs.Copies.{is_whole, is_needed, kept}
use Rattle.fc_books.specs.Ending.{in_state, ends_by, ends_in, as_left, cut_of}
use Rattle.fc_books.specs.Settling.{finishes, settles_in}
use Rattle.fc_entry.specs.Picture.{Picture}
use Rattle.fc_entry.specs.PlainStep.{after_effects}
use Rattle.fc_rules.specs.LaneTold.{leaves}
use Rattle.fc_sheets.proofs.Finding.{mapping_place_is}
use Rattle.fc_sheets.proofs.Lawful.{event_sound}
use Rattle.fc_sheets.proofs.Places.{remove_is}
use Rattle.fc_sheets.proofs.Removing.{names_small}
use Rattle.fc_sheets.proofs.Steps.{Only}
use Rattle.fc_decided.proofs.Apart.{sheet_through, picture_through}
use Rattle.fc_decided.proofs.Ends.{Follows}
use Rattle.fc_decided.proofs.Frame.{tabled}
use Rattle.fc_decided.proofs.Free.{FreeSlot, free_without, free_alone}
use Rattle.fc_decided.proofs.Joint.{HasSeen, StateSeen, kept_left, joint_kept}
use Rattle.fc_decided.proofs.Leaving.{Left, detached_left}
use Rattle.fc_decided.proofs.Lists.{first_in, in_cases}
use Rattle.fc_decided.proofs.Olds.{AreNeeded, needed_detached}
use Rattle.fc_decided.proofs.Plain.{effects_append, ends_plain, whole_leaves}
use Rattle.fc_decided.proofs.Quiet.{FitAll, Quietly, quiet, Standing, one_ends, cut_ends, IsIdOf}
use Rattle.fc_decided.proofs.Setting.{one_mapping}
use Rattle.fc_decided.proofs.Seen.{Seen, seen, seen_slot, seen_place}
use Rattle.fc_decided.proofs.TableSteps.{TableStep, table_none, table_then, table_apart}

-- ---- copies that can be detached

-- The live slot of a mapping, that holds every grain and that nobody needs.
pub record FreeCopy (slots : List Slot) (m : ℕ) : Type 0 where
  pub t : Slot
  pub free : FreeSlot slots t
  pub of_mapping : t.mapping ≡ Some m
  pub live : t.is_live ≡ true
  pub whole : list_all (λ b. b) t.held ≡ true

-- What its detach leaves.
record Detaches (s : Sheet) (m : MapId) : Type 0 where
  fits : FitsEvent s (Detach m)
  sound : IsSound (sheet_step (λ grains. grains) s (Detach m))
  births : (sheet_step (λ grains. grains) s (Detach m)).births ≡ s.births + 1
  left : Left s.slots (sheet_step (λ grains. grains) s (Detach m)).slots (Only m.0)
  free : (n : ℕ) → n ≢ m.0 → FreeCopy s.slots n → FreeCopy (sheet_step (λ grains. grains) s (Detach m)).slots n
  shows : (picture : Picture) → leaves s.slots picture m ≡ picture
  olds : AreNeeded s.slots → AreNeeded (sheet_step (λ grains. grains) s (Detach m)).slots

detaches : (s : Sheet) (m : MapId) → IsSound s → FreeCopy s.slots m.0 → Detaches s m
detaches s m i c =
    let slots = s.slots in
    let k = c.free.place in
    let kl : k < length slots = c.free.there in
    let mine : (slot_at slots k).mapping ≡ Some m.0 = ap (λ (t : Slot). t.mapping) c.free.is ∙ c.of_mapping in
    let live : (slot_at slots k).is_live ≡ true = ap (λ (t : Slot). t.is_live) c.free.is ∙ c.live in
    let place : mapping_place slots m.0 ≡ Some k = mapping_place_is slots m.0 k i.mappings kl mine in
    let fits : FitsEvent s (Detach m) = (k, record { is_there = place; is_live = live }, c.free.free) in
    let next : Sheet = sheet_step (λ grains. grains) s (Detach m) in
    let step : next ≡ detached_at k s = ap (λ o. at_place detached_at o s) place in
    record {
      fits = fits;
      sound = event_sound (λ grains. grains) s (Detach m) i fits;
      births = ap (λ (z : Sheet). z.births) step;
      left = subst (λ (z : Sheet). Left slots z.slots (Only m.0)) (sym step) (detached_left s k m.0 i.mappings i.one_live kl live mine);
      free = λ n ne f.
          subst (λ (z : Sheet). FreeCopy z.slots n) (sym step) (record {
            t = f.t;
            free = free_alone s.births (remove slots k) (slot_at slots k).volume (length (slot_at slots k).held) f.t
                (names_small s.births slots (remove slots k) k (remove_is slots k kl) i.names)
                (free_without slots k f.t kl c.free.free
                (λ e. ne (let q : Some n ≡ Some m.0 = sym f.of_mapping ∙ (ap (λ (t : Slot). t.mapping) (sym e) ∙ mine) in cc)) f.free);
            of_mapping = f.of_mapping;
            live = f.live;
            whole = f.whole;
          });
      olds = λ all. subst (λ (z : Sheet). AreNeeded z.slots) (sym step) (needed_detached s.births slots k i.sizes kl (ap (λ (t : Slot). list_all (λ b. b) t.held) c.free.is ∙ c.whole) all);
      shows = λ picture. whole_leaves slots picture m (seen_slot (slot_at slots k)) (seen_place slots m.0 k place) (ap (λ (t : Slot). list_all (λ b. b) t.held) c.free.is ∙ c.whole);
    }

-- ---- what is known of a mapping that is still to be settled

-- By its state when the settling began.
abbrev pub Ready : MapState → Books → List Slot → Mapping → Type 0
Ready Copying b slots m = HasSeen (seen slots m.id.0) m.target.0 true × (is_whole b m ≡ true → is_needed b m ≡ false → FreeCopy slots m.id.0)
Ready Stopping b slots m = (is_needed b m ≡ true → HasSeen (seen slots m.id.0) m.target.0 false) × (is_needed b m ≡ false → seen slots m.id.0 ≡ None)
Ready state b slots m = seen slots m.id.0 ≡ None

pub still_ready : (state : MapState) (b : Books) (old new : List Slot) (m : Mapping) → seen new m.id.0 ≡ seen old m.id.0 → (FreeCopy old m.id.0 → FreeCopy new m.id.0) → Ready state b old m → Ready state b new m
still_ready Copying b old new m same free r = (subst (λ (o : Option Seen). HasSeen o m.target.0 true) (sym same) r.0, λ w n. free (r.1 w n))
still_ready Stopping b old new m same free r = ((λ n. subst (λ (o : Option Seen). HasSeen o m.target.0 false) (sym same) (r.0 n)), λ n. same ∙ r.1 n)
still_ready state b old new m same free r = same ∙ r

-- ---- one mapping

-- What the settling of one mapping does, and leaves for the rest.
pub record SettlesOne (grain : GrainSize) (c : Books) (picture : Picture) (m : Mapping) (rest : List Mapping) (d : Deed) : Type 0 where
  pub table : TableStep c d.events d.changes
  pub fit : FitAll c.sheet d.events
  pub shows : picture_through grain c.sheet picture d.events ≡ picture
  pub effects : after_effects grain picture d.effects ≡ picture
  pub few : (sheet_through c.sheet d.events).births ≤ c.sheet.births + 1
  pub sheet : IsSound (sheet_through c.sheet d.events)
  pub stands : Standing (tabled c d.changes) (sheet_through c.sheet d.events).slots (IsIdOf rest)
  pub rows : (x : Mapping) → Contains c.tables.mappings x → x.id.0 ≢ m.id.0 → Contains (tabled c d.changes).tables.mappings x
  pub slots : (n : ℕ) → n ≢ m.id.0 → seen (sheet_through c.sheet d.events).slots n ≡ seen c.sheet.slots n
  pub free : (n : ℕ) → n ≢ m.id.0 → FreeCopy c.sheet.slots n → FreeCopy (sheet_through c.sheet d.events).slots n
  pub olds : AreNeeded c.sheet.slots → AreNeeded (sheet_through c.sheet d.events).slots

fewer_pending : (m : Mapping) (rest : List Mapping) (n : ℕ) → n ≢ m.id.0 → IsIdOf (m ∷ rest) n → IsIdOf rest n
fewer_pending m rest n ne i =
    elim (in_cases m i.d rest i.among) [
      | inl same ↦ absurd (ne (sym i.is ∙ ap (λ (x : Mapping). x.id.0) (sym same)))
      | inr later ↦ record { d = i.d; among = later; is = i.is }
    ]

-- it stays as it is
stays_settled : (grain : GrainSize) (c : Books) (picture : Picture) (m : Mapping) (rest : List Mapping) → IsSound c.sheet → Standing c c.sheet.slots (IsIdOf (m ∷ rest)) → Contains c.tables.mappings m →
    StateSeen m.state (seen c.sheet.slots m.id.0) m.target.0 → SettlesOne grain c picture m rest nothing
stays_settled grain c picture m rest i st found sees =
    record {
      table = table_none c;
      fit = tt;
      shows = refl;
      effects = refl;
      few = omega arith;
      sheet = i;
      stands = record {
        rows = st.rows;
        joint = record {
          volumes = st.joint.volumes;
          back = st.joint.back;
          owned = st.joint.owned;
          by_state = λ x there free.
              elim (cases_eq x.id.0 m.id.0) [
                | inl e ↦
                    let same : x ≡ m = one_mapping c.tables.mappings x m st.rows.tables.mappings there found e in
                    subst (λ (y : Mapping). StateSeen y.state (seen c.sheet.slots y.id.0) y.target.0) (sym same) sees
                | inr ne ↦ st.joint.by_state x there (λ p. free (fewer_pending m rest x.id.0 ne p))
              ];
        };
      };
      rows = λ x there ne. there;
      slots = λ n ne. refl;
      free = λ n ne f. f;
      olds = λ all. all;
    }

-- it ends without a slot
ends_settled : (grain : GrainSize) (c : Books) (picture : Picture) (m : Mapping) (rest : List Mapping) (state : MapState) → IsSound c.sheet → Standing c c.sheet.slots (IsIdOf (m ∷ rest)) → Contains c.tables.mappings m →
    is_idle m.state ≡ false → state ≢ Empty → StateSeen state (seen c.sheet.slots m.id.0) m.target.0 → SettlesOne grain c picture m rest (ends_in state m)
ends_settled grain c picture m rest state i st found busy ok sees =
    let f : Follows c m (in_state state m) = record { found = found; id = refl; name = refl; source = refl; target = refl; incremental = refl; group = refl; state = ok; busy = busy } in
    let one = one_ends c c.sheet m m state (IsIdOf (m ∷ rest)) (IsIdOf rest) st f sees (fewer_pending m rest) in
    let d = ends_in state m in
    let q : Quietly c.sheet d.events = quiet c.sheet d.events one.ends.quiet in
    record {
      table = one.ends.table;
      fit = q.fit;
      shows = q.picture grain picture;
      effects = ends_plain grain picture state m;
      few = subst (λ (x : Sheet). x.births ≤ c.sheet.births + 1) (sym q.sheet) (omega arith);
      sheet = subst IsSound (sym q.sheet) i;
      stands = subst (λ (x : Sheet). Standing (tabled c d.changes) x.slots (IsIdOf rest)) (sym q.sheet) one.ends.stands;
      rows = one.others;
      slots = λ n ne. ap (λ (x : Sheet). seen x.slots n) q.sheet;
      free = λ n ne g. subst (λ (x : Sheet). FreeCopy x.slots n) (sym q.sheet) g;
      olds = λ all. subst (λ (x : Sheet). AreNeeded x.slots) (sym q.sheet) all;
    }

no_cut : (grain : GrainSize) (b : Books) (m : Mapping) (picture : Picture) → is_whole b m ≡ true → after_effects grain picture (cut_of b m).effects ≡ picture
no_cut grain b m picture whole = ap (λ w. after_effects grain picture (cond w nothing (cut_deed b m)).effects) whole
  where
    cut_deed : Books → Mapping → Deed
    cut_deed b m = record { effects = Cut m.target (kept b m) ∷ []; events = NoteCut m.id m.source m.target ∷ []; changes = [] }

-- it is detached and ends
detach_settled : (grain : GrainSize) (b c : Books) (picture : Picture) (m : Mapping) (rest : List Mapping) → IsSound c.sheet → Standing c c.sheet.slots (IsIdOf (m ∷ rest)) → Contains c.tables.mappings m →
    is_idle m.state ≡ false → is_whole b m ≡ true → FreeCopy c.sheet.slots m.id.0 → SettlesOne grain c picture m rest (told (Detach m.id ∷ []) then (cut_of b m then ends_in IdleOrCopied (as_left b m)))
detach_settled grain b c picture m rest i st found busy whole copy =
    let own : Deed = cut_of b m then ends_in IdleOrCopied (as_left b m) in
    let slots = c.sheet.slots in
    let d = detaches c.sheet m.id i copy in
    let next : Sheet = sheet_step (λ grains. grains) c.sheet (Detach m.id) in
    let st' : Standing c next.slots (IsIdOf (m ∷ rest)) = record {
      rows = st.rows;
      joint = joint_kept c.tables slots next.slots (Only m.id.0) (IsIdOf (m ∷ rest)) (IsIdOf (m ∷ rest)) (kept_left slots next.slots (Only m.id.0) d.left)
          (λ n e. record { d = m; among = first_in m rest; is = sym e }) (λ n p. p) st.joint;
    } in
    let f : Follows c m (in_state IdleOrCopied (as_left b m)) = record { found = found; id = refl; name = refl; source = refl; target = refl; incremental = refl; group = refl; state = λ e. absurd cc; busy = busy } in
    let one = cut_ends c b next m (ends_in IdleOrCopied (as_left b m)) m.id.0 (IsIdOf rest)
    (one_ends c next m (as_left b m) IdleOrCopied (IsIdOf (m ∷ rest)) (IsIdOf rest) st' f (d.left.went m.id.0 refl) (fewer_pending m rest)) in
    let q : Quietly next own.events = quiet next own.events one.ends.quiet in
    let births : next.births ≡ c.sheet.births + 1 = d.births in
    record {
      table = table_then c (Detach m.id ∷ []) own.events [] own.changes (table_apart c (Detach m.id) tt) one.ends.table;
      fit = (d.fits, q.fit);
      shows = q.picture grain (leaves slots picture m.id) ∙ d.shows picture;
      effects = effects_append grain picture (cut_of b m).effects (ends_in IdleOrCopied (as_left b m)).effects
          ∙ ends_plain grain (after_effects grain picture (cut_of b m).effects) IdleOrCopied (as_left b m)
          ∙ no_cut grain b m picture whole;
      few = subst (λ (x : Sheet). x.births ≤ c.sheet.births + 1) (sym q.sheet) (omega (arith, births));
      sheet = subst IsSound (sym q.sheet) d.sound;
      stands = subst (λ (x : Sheet). Standing (tabled c own.changes) x.slots (IsIdOf rest)) (sym q.sheet) one.ends.stands;
      rows = one.others;
      slots = λ n ne. ap (λ (x : Sheet). seen x.slots n) q.sheet ∙ d.left.stays n ne;
      free = λ n ne g. subst (λ (x : Sheet). FreeCopy x.slots n) (sym q.sheet) (d.free n ne g);
      olds = λ all. subst (λ (x : Sheet). AreNeeded x.slots) (sym q.sheet) (d.olds all);
    }

-- ---- by its state

copying_deed : Books → Mapping → Bool → Bool → Deed
copying_deed b m whole needed = finishes (next_state Copying Finish whole needed) b m

copying_settled : (grain : GrainSize) (b c : Books) (picture : Picture) (m : Mapping) (rest : List Mapping) (whole needed : Bool) → is_whole b m ≡ whole → is_needed b m ≡ needed → IsSound c.sheet → Standing c c.sheet.slots (IsIdOf (m ∷ rest)) → Contains c.tables.mappings m →
    m.state ≡ Copying → Ready Copying b c.sheet.slots m → SettlesOne grain c picture m rest (copying_deed b m whole needed)
unfolding copying_deed
copying_settled grain b c picture m rest true false w n i st found copying ready = detach_settled grain b c picture m rest i st found (ap is_idle copying) w (ready.1 w n)
copying_settled grain b c picture m rest true true w n i st found copying ready = stays_settled grain c picture m rest i st found (subst (λ (z : MapState). StateSeen z (seen c.sheet.slots m.id.0) m.target.0) (sym copying) ready.0)
copying_settled grain b c picture m rest false needed w n i st found copying ready = stays_settled grain c picture m rest i st found (subst (λ (z : MapState). StateSeen z (seen c.sheet.slots m.id.0) m.target.0) (sym copying) ready.0)

stopping_settled : (grain : GrainSize) (b c : Books) (picture : Picture) (m : Mapping) (rest : List Mapping) (complete needed : Bool) → is_needed b m ≡ needed → IsSound c.sheet → Standing c c.sheet.slots (IsIdOf (m ∷ rest)) → Contains c.tables.mappings m →
    m.state ≡ Stopping → Ready Stopping b c.sheet.slots m → SettlesOne grain c picture m rest (ends_by (next_state Stopping Finish complete needed) m)
stopping_settled grain b c picture m rest complete true n i st found stopping ready = stays_settled grain c picture m rest i st found (subst (λ (z : MapState). StateSeen z (seen c.sheet.slots m.id.0) m.target.0) (sym stopping) (ready.0 n))
stopping_settled grain b c picture m rest true false n i st found stopping ready = ends_settled grain c picture m rest IdleOrCopied i st found (ap is_idle stopping) (λ e. absurd cc) (ready.1 n)
stopping_settled grain b c picture m rest false false n i st found stopping ready = ends_settled grain c picture m rest Stopped i st found (ap is_idle stopping) (λ e. absurd cc) (ready.1 n)

as_state : (c : Books) (m : Mapping) (state : MapState) → m.state ≡ state → StateSeen state (seen c.sheet.slots m.id.0) m.target.0 → StateSeen m.state (seen c.sheet.slots m.id.0) m.target.0
as_state c m state e sees = subst (λ (z : MapState). StateSeen z (seen c.sheet.slots m.id.0) m.target.0) (sym e) sees

pub settles_one : (grain : GrainSize) (b c : Books) (picture : Picture) (m : Mapping) (rest : List Mapping) (state : MapState) → m.state ≡ state → IsSound c.sheet → Standing c c.sheet.slots (IsIdOf (m ∷ rest)) → Contains c.tables.mappings m →
    Ready state b c.sheet.slots m → SettlesOne grain c picture m rest (settles_in state b m)
unfolding copying_deed
settles_one grain b c picture m rest Copying e i st found ready = copying_settled grain b c picture m rest (is_whole b m) (is_needed b m) refl refl i st found e ready
settles_one grain b c picture m rest Stopping e i st found ready = stopping_settled grain b c picture m rest m.complete (is_needed b m) refl i st found e ready
settles_one grain b c picture m rest state e i st found ready = stays_settled grain c picture m rest i st found (as_state c m state e ready)
