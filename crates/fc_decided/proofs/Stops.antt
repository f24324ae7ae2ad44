-- A stop of one mapping: by each way, its deed fits the books and leaves them standing.
use Rattle.std.proofs.Common.{◌≡◌, ◌≢◌, ℕ, ◌+◌, ◌<◌, ◌≤◌, Bool, true, false, nat_lt, if◌then◌else◌, Option, Some, None, List, [], ◌∷◌, ◌++◌, length, refl, sym, ap, subst, ◌∙◌, arith, Contains}
use Rattle.std.specs.List.{list_all}
use Rattle.fc_base.specs.Need.{IsNeeded, is_complete}
use Rattle.fc_base.specs.Sheet.{Slot, Sheet, slot_at, mapping_place}
use Rattle.fc_base.specs.SheetFacts.{IsSound}
use Rattle.fc_base.specs.SheetFits.{FitsEvent}
use Rattle.fc_base.specs.SheetStep.{sheet_step, at_place, retired_at, detached_at, split_at}
use Rattle.fc_base.specs.SheetView.{needed_at}
use Rattle.fc_base.specs.declared.decision.LaneEvent.{LaneEvent}
use Rattle.fc_base.specs.declared.decision.LaneEvent.TheVariants.{Retire, Detach, Split as SplitOff}
use Rattle.fc_base.specs.declared.size.GrainSize.{GrainSize}
use Rattle.fc_base.specs.declared.state.MapState.{MapState}
use Rattle.fc_base.specs.declared.state.MapState.TheVariants.{Empty, IdleOrCopied, Copying, Stopping}
use Rattle.fc_base.specs.declared.volume.Mapping.{Mapping}
use Rattle.fc_books.specs.Accesses.{is_idle}
use Rattle.fc_books.specs.Books.{Books, Deed, nothing, told, ◌then◌}
use Rattle.fc_books.specs.Copies.{is_whole, is_needed}
use Rattle.fc_books.specs.Ending.{in_state, ends_in, as_left, cut_of}
use Rattle.fc_entry.specs.Picture.{Picture}
use Rattle.fc_entry.specs.PlainStep.{after_effects}
use Rattle.fc_legal.specs.Stands.{ArePlain}
use Rattle.fc_legal.specs.Whole.{single_lane}
use Rattle.fc_rules.specs.LaneTold.{picture_event}
use Rattle.fc_sheets.proofs.Lawful.{event_sound}
use Rattle.fc_sheets.proofs.Steps.{Nobody, Only}
use Rattle.fc_decided.proofs.Apart.{sheet_through, picture_through}
use Rattle.fc_decided.proofs.Counting.{uncounted_free, not_counted}
use Rattle.fc_decided.proofs.Ends.{Follows}
use Rattle.fc_decided.proofs.Frame.{tabled}
use Rattle.fc_decided.proofs.Joint.{HasSeen, StateSeen, kept_left, kept_retired, joint_kept}
use Rattle.fc_decided.proofs.Leaving.{Left, Retired, detached_left, retired_seen}
use Rattle.fc_decided.proofs.Plain.{effects_append, ends_plain, copies, whole_complete, cut_leaves, leaves_plain, whole_leaves}
use Rattle.fc_decided.proofs.Quiet.{FitAll, Quietly, quiet, Standing, EndsQuietly, nothing_ends, ends_then, OneEnds, one_ends, cut_ends}
use Rattle.fc_decided.proofs.Seen.{Seen, seen, seen_slot, seen_found}
use Rattle.fc_decided.proofs.Splitting.{split_left}
use Rattle.fc_decided.proofs.TableSteps.{TableStep, table_none, table_then, IsApart, table_apart}

-- ---- what stands, and what a deed does to it

-- The books and what plain volumes hold, but for background work and disks.
pub record Sound (b : Books) (picture : Picture) : Type 0 where
  pub sheet : IsSound b.sheet
  pub stands : Standing b b.sheet.slots Nobody
  pub plain : ArePlain b.tables.volumes picture

-- A deed that takes at most so many births, and what stands after it.
pub record Goes (grain : GrainSize) (b : Books) (picture : Picture) (deed : Deed) (births : ℕ) : Type 0 where
  pub table : TableStep b deed.events deed.changes
  pub fit : FitAll b.sheet deed.events
  pub shows : picture_through grain b.sheet picture deed.events ≡ after_effects grain picture deed.effects
  pub few : (sheet_through b.sheet deed.events).births ≤ b.sheet.births + births
  pub sheet : IsSound (sheet_through b.sheet deed.events)
  pub stands : Standing (tabled b deed.changes) (sheet_through b.sheet deed.events).slots Nobody
  pub plain : ArePlain b.tables.volumes (after_effects grain picture deed.effects)

pub nothing_goes : (grain : GrainSize) (b : Books) (picture : Picture) (births : ℕ) → Sound b picture → Goes grain b picture nothing births
nothing_goes grain b picture births s =
    record { table = table_none b; fit = tt; shows = refl; few = omega arith; sheet = s.sheet; stands = s.stands; plain = s.plain }

-- an event of the chains and then quiet ends
pub event_then : (grain : GrainSize) (b : Books) (picture : Picture) (e : LaneEvent) (rest : Deed) (births : ℕ) → Sound b picture → FitsEvent b.sheet e → IsApart e →
    (sheet_step (λ grains. grains) b.sheet e).births ≤ b.sheet.births + births → EndsQuietly b (sheet_step (λ grains. grains) b.sheet e) rest Nobody →
    picture_event (single_lane grain) b.sheet.slots picture e ≡ after_effects grain picture rest.effects → ArePlain b.tables.volumes (after_effects grain picture rest.effects) →
    Goes grain b picture (told (e ∷ []) then rest) births
event_then grain b picture e rest births s fits apart few ends same plain =
    let next : Sheet = sheet_step (λ grains. grains) b.sheet e in
    let q : Quietly next rest.events = quiet next rest.events ends.quiet in
    record {
      table = table_then b (e ∷ []) rest.events [] rest.changes (table_apart b e apart) ends.table;
      fit = (fits, q.fit);
      shows = q.picture grain (picture_event (single_lane grain) b.sheet.slots picture e) ∙ same;
      few = subst (λ (x : Sheet). x.births ≤ b.sheet.births + births) (sym q.sheet) few;
      sheet = subst IsSound (sym q.sheet) (event_sound (λ grains. grains) b.sheet e s.sheet fits);
      stands = subst (λ (x : Sheet). Standing (tabled b rest.changes) x.slots Nobody) (sym q.sheet) ends.stands;
      plain = plain;
    }

-- ---- the slot of a mapping that is copied, or stopping

-- Where it stands, and what is seen there.
pub record At (b : Books) (m : Mapping) (live : Bool) : Type 0 where
  pub place : ℕ
  pub x : Seen
  pub is_there : mapping_place b.sheet.slots m.id.0 ≡ Some place
  pub there : place < length b.sheet.slots
  pub of_mapping : (slot_at b.sheet.slots place).mapping ≡ Some m.id.0
  pub liveness : (slot_at b.sheet.slots place).is_live ≡ live
  pub is : seen b.sheet.slots m.id.0 ≡ Some x
  pub slot : seen_slot (slot_at b.sheet.slots place) ≡ x

pub slot_of : (b : Books) (m : Mapping) (live : Bool) → HasSeen (seen b.sheet.slots m.id.0) m.target.0 live → At b m live
slot_of b m live h =
    let f = seen_found b.sheet.slots m.id.0 h.x h.is in
    record {
      place = f.0;
      x = h.x;
      is_there = f.1;
      there = f.2.there;
      of_mapping = f.2.of_mapping;
      liveness = ap (λ (x : Seen). x.is_live) f.2.is ∙ h.liveness;
      is = h.is;
      slot = f.2.is;
    }

pub copying_seen : (b : Books) (pending : ℕ → Type 0) (m : Mapping) → Standing b b.sheet.slots pending → Contains b.tables.mappings m → (pending m.id.0 → ⊥) → m.state ≡ Copying → HasSeen (seen b.sheet.slots m.id.0) m.target.0 true
copying_seen b pending m st found free e = subst (λ (z : MapState). StateSeen z (seen b.sheet.slots m.id.0) m.target.0) e (st.joint.by_state m found free)

pub not_needed : (b : Books) (m : Mapping) (k : ℕ) → mapping_place b.sheet.slots m.id.0 ≡ Some k → is_needed b m ≡ false → IsNeeded b.sheet.slots k → ⊥
not_needed b m k place e =
    uncounted_free b.sheet.slots k (not_counted (needed_at b.sheet.slots (Some k)) (ap (λ o. nat_lt 0 (needed_at b.sheet.slots o)) (sym place) ∙ e))

pub busy_copying : (m : Mapping) → m.state ≡ Copying → is_idle m.state ≡ false
busy_copying m e = ap is_idle e

pub follows : (b : Books) (m : Mapping) (state : MapState) → Contains b.tables.mappings m → is_idle m.state ≡ false → state ≢ Empty → Follows b m (in_state state (as_left b m))
follows b m state found busy ok = record { found = found; id = refl; name = refl; source = refl; target = refl; incremental = refl; group = refl; state = ok; busy = busy }

pub same_follows : (b : Books) (m : Mapping) (state : MapState) → Contains b.tables.mappings m → is_idle m.state ≡ false → state ≢ Empty → Follows b m (in_state state m)
same_follows b m state found busy ok = record { found = found; id = refl; name = refl; source = refl; target = refl; incremental = refl; group = refl; state = ok; busy = busy }

-- what its end says of plain volumes
left_effects : (grain : GrainSize) (b : Books) (m : Mapping) (picture : Picture) (state : MapState) (more : Deed) →
    after_effects grain picture ((cut_of b m then ends_in state (as_left b m)) then more).effects ≡ after_effects grain (after_effects grain picture (cut_of b m).effects) more.effects
left_effects grain b m picture state more =
    effects_append grain picture ((cut_of b m).effects ++ (ends_in state (as_left b m)).effects) more.effects
    ∙ ap (λ p. after_effects grain p more.effects)
    (effects_append grain picture (cut_of b m).effects (ends_in state (as_left b m)).effects
    ∙ ends_plain grain (after_effects grain picture (cut_of b m).effects) state (as_left b m))

-- ---- a plain stop of a copying mapping

stays_pending : (m : Mapping) (n : ℕ) → n ≢ m.id.0 → Only m.id.0 n → Nobody n
stays_pending m n ne same = ne same

-- the chains after its slot was retired or detached: all stands but for it
pub retire_goes : (grain : GrainSize) (b : Books) (m : Mapping) (picture : Picture) → Sound b picture → Contains b.tables.mappings m → m.state ≡ Copying →
    Goes grain b picture (told (Retire m.id ∷ []) then ((cut_of b m then ends_in Stopping (as_left b m)) then nothing)) 1
retire_goes grain b m picture s found copying =
    let slots = b.sheet.slots in
    let seen_live = copying_seen b Nobody m s.stands found (λ n. n) copying in
    let at = slot_of b m true seen_live in
    let k = at.place in
    let fits : FitsEvent b.sheet (Retire m.id) = (k, record { is_there = at.is_there; is_live = at.liveness }) in
    let next : Sheet = sheet_step (λ grains. grains) b.sheet (Retire m.id) in
    let step : next ≡ retired_at k b.sheet = ap (λ o. at_place retired_at o b.sheet) at.is_there in
    let r : Retired slots next.slots m.id.0 k = subst (λ (z : Sheet). Retired slots z.slots m.id.0 k) (sym step) (retired_seen b.sheet k m.id.0 s.sheet.mappings s.sheet.one_live at.there at.liveness at.of_mapping) in
    let st : Standing b next.slots (Only m.id.0) = record {
      rows = s.stands.rows;
      joint = joint_kept b.tables slots next.slots (Only m.id.0) Nobody (Only m.id.0) (kept_retired slots next.slots m.id.0 k at.is_there r) (λ n q. q) (λ n q. absurd q) s.stands.joint;
    } in
    let sees : StateSeen Stopping (seen next.slots m.id.0) m.target.0 = record {
      x = seen_slot (record (slot_at slots k) { is_live = false });
      is = r.aged;
      of_target = ap (λ (x : Seen). x.volume) at.slot ∙ seen_target b m seen_live at.x at.is;
      liveness = refl;
    } in
    let one = cut_ends b b next m (ends_in Stopping (as_left b m)) m.id.0 Nobody
    (one_ends b next m (as_left b m) Stopping (Only m.id.0) Nobody st (follows b m Stopping found (busy_copying m copying) (λ e. absurd cc)) sees (stays_pending m)) in
    let all = ends_then b next (cut_of b m then ends_in Stopping (as_left b m)) nothing Nobody Nobody one.ends (nothing_ends (tabled b (cut_of b m then ends_in Stopping (as_left b m)).changes) next Nobody one.ends.stands) in
    let c = copies b Nobody m s.sheet.one_live s.stands found seen_live in
    let cut = cut_leaves grain b m c.0 picture c.1 s.plain in
    let effects = left_effects grain b m picture Stopping nothing ∙ cut in
    event_then grain b picture (Retire m.id) ((cut_of b m then ends_in Stopping (as_left b m)) then nothing) 1 s fits tt
    (subst (λ (z : Sheet). z.births ≤ b.sheet.births + 1) (sym step) (omega arith)) all (sym effects)
    (subst (ArePlain b.tables.volumes) (sym effects) (leaves_plain slots b.tables.volumes picture m.id s.plain))
  where
    seen_target : (b : Books) (m : Mapping) → (h : HasSeen (seen b.sheet.slots m.id.0) m.target.0 true) → (x : Seen) → seen b.sheet.slots m.id.0 ≡ Some x → x.volume ≡ m.target.0
    seen_target b m h x e = let q : Some x ≡ Some h.x = sym e ∙ h.is in let same : x ≡ h.x = cc in ap (λ (z : Seen). z.volume) same ∙ h.of_target

-- taken out: a deed of its end in a state without a slot
pub gone_one : (b : Books) (s : Sheet) (m : Mapping) (state : MapState) → Standing b s.slots (Only m.id.0) → Contains b.tables.mappings m → is_idle m.state ≡ false → state ≢ Empty →
    StateSeen state (seen s.slots m.id.0) m.target.0 → OneEnds b s (cut_of b m then ends_in state (as_left b m)) m.id.0 Nobody
gone_one b s m state st found busy ok sees =
    cut_ends b b s m (ends_in state (as_left b m)) m.id.0 Nobody (one_ends b s m (as_left b m) state (Only m.id.0) Nobody st (follows b m state found busy ok) sees (stays_pending m))

pub gone_ends : (b : Books) (s : Sheet) (m : Mapping) (state : MapState) → OneEnds b s (cut_of b m then ends_in state (as_left b m)) m.id.0 Nobody → EndsQuietly b s ((cut_of b m then ends_in state (as_left b m)) then nothing) Nobody
gone_ends b s m state one =
    ends_then b s (cut_of b m then ends_in state (as_left b m)) nothing Nobody Nobody one.ends (nothing_ends (tabled b (cut_of b m then ends_in state (as_left b m)).changes) s Nobody one.ends.stands)

left_standing : (b : Books) (new : List Slot) (m : Mapping) → Standing b b.sheet.slots Nobody → Left b.sheet.slots new (Only m.id.0) → Standing b new (Only m.id.0)
left_standing b new m st l =
    record {
      rows = st.rows;
      joint = joint_kept b.tables b.sheet.slots new (Only m.id.0) Nobody (Only m.id.0) (kept_left b.sheet.slots new (Only m.id.0) l) (λ n q. q) (λ n q. absurd q) st.joint;
    }

pub detach_goes : (grain : GrainSize) (b : Books) (m : Mapping) (picture : Picture) (state : MapState) → Sound b picture → Contains b.tables.mappings m → m.state ≡ Copying → is_needed b m ≡ false → state ≢ Empty → ((o : Option Seen) (v : ℕ) → o ≡ None → StateSeen state o v) →
    Goes grain b picture (told (Detach m.id ∷ []) then ((cut_of b m then ends_in state (as_left b m)) then nothing)) 1
detach_goes grain b m picture state s found copying free ok none =
    let slots = b.sheet.slots in
    let seen_live = copying_seen b Nobody m s.stands found (λ n. n) copying in
    let at = slot_of b m true seen_live in
    let k = at.place in
    let fits : FitsEvent b.sheet (Detach m.id) = (k, record { is_there = at.is_there; is_live = at.liveness }, not_needed b m k at.is_there free) in
    let next : Sheet = sheet_step (λ grains. grains) b.sheet (Detach m.id) in
    let step : next ≡ detached_at k b.sheet = ap (λ o. at_place detached_at o b.sheet) at.is_there in
    let l : Left slots next.slots (Only m.id.0) = subst (λ (z : Sheet). Left slots z.slots (Only m.id.0)) (sym step) (detached_left b.sheet k m.id.0 s.sheet.mappings s.sheet.one_live at.there at.liveness at.of_mapping) in
    let st = left_standing b next.slots m s.stands l in
    let all = gone_ends b next m state (gone_one b next m state st found (busy_copying m copying) ok (none (seen next.slots m.id.0) m.target.0 (l.went m.id.0 refl))) in
    let c = copies b Nobody m s.sheet.one_live s.stands found seen_live in
    let cut = cut_leaves grain b m c.0 picture c.1 s.plain in
    let effects = left_effects grain b m picture state nothing ∙ cut in
    event_then grain b picture (Detach m.id) ((cut_of b m then ends_in state (as_left b m)) then nothing) 1 s fits tt
    (subst (λ (z : Sheet). z.births ≤ b.sheet.births + 1) (sym step) (omega arith)) all (sym effects)
    (subst (ArePlain b.tables.volumes) (sym effects) (leaves_plain slots b.tables.volumes picture m.id s.plain))

-- ---- a split of a copying mapping whose copy is whole

-- The chains after it.
pub record SplitSheet (b : Books) (m : Mapping) : Type 0 where
  pub fits : FitsEvent b.sheet (SplitOff m.id)
  pub left : Left b.sheet.slots (sheet_step (λ grains. grains) b.sheet (SplitOff m.id)).slots (Only m.id.0)
  pub births : (sheet_step (λ grains. grains) b.sheet (SplitOff m.id)).births ≡ b.sheet.births
  pub one : OneEnds b (sheet_step (λ grains. grains) b.sheet (SplitOff m.id)) (cut_of b m then ends_in IdleOrCopied (as_left b m)) m.id.0 Nobody

pub split_sheet : (b : Books) (m : Mapping) (picture : Picture) → Sound b picture → Contains b.tables.mappings m → m.state ≡ Copying → is_whole b m ≡ true → SplitSheet b m
split_sheet b m picture s found copying whole =
    let slots = b.sheet.slots in
    let seen_live = copying_seen b Nobody m s.stands found (λ n. n) copying in
    let at = slot_of b m true seen_live in
    let k = at.place in
    let c = copies b Nobody m s.sheet.one_live s.stands found seen_live in
    let full = whole_complete b m c.0 c.1 whole in
    let same : Some at.x ≡ Some c.0 = sym at.is ∙ c.1.is in
    let x_is : at.x ≡ c.0 = cc in
    let complete : is_complete (slot_at slots k) ≡ true = ap (λ (x : Seen). list_all (λ b. b) x.held) (at.slot ∙ x_is) ∙ full in
    let fits : FitsEvent b.sheet (SplitOff m.id) = (k, record { is_there = at.is_there; is_live = at.liveness }, complete) in
    let next : Sheet = sheet_step (λ grains. grains) b.sheet (SplitOff m.id) in
    let step : next ≡ split_at k b.sheet = ap (λ o. at_place split_at o b.sheet) at.is_there in
    let after : IsSound (split_at k b.sheet) = subst IsSound step (event_sound (λ grains. grains) b.sheet (SplitOff m.id) s.sheet fits) in
    let l : Left slots next.slots (Only m.id.0) = subst (λ (z : Sheet). Left slots z.slots (Only m.id.0)) (sym step) (split_left b.sheet k m.id.0 s.sheet after at.there at.of_mapping) in
    record {
      fits = fits;
      left = l;
      births = ap (λ (z : Sheet). z.births) step;
      one = gone_one b next m IdleOrCopied (left_standing b next.slots m s.stands l) found (busy_copying m copying) (λ e. absurd cc) (l.went m.id.0 refl);
    }

pub split_goes : (grain : GrainSize) (b : Books) (m : Mapping) (picture : Picture) → Sound b picture → Contains b.tables.mappings m → m.state ≡ Copying → is_whole b m ≡ true →
    Goes grain b picture (told (SplitOff m.id ∷ []) then ((cut_of b m then ends_in IdleOrCopied (as_left b m)) then nothing)) 1
split_goes grain b m picture s found copying whole =
    let next : Sheet = sheet_step (λ grains. grains) b.sheet (SplitOff m.id) in
    let p = split_sheet b m picture s found copying whole in
    let c = copies b Nobody m s.sheet.one_live s.stands found (copying_seen b Nobody m s.stands found (λ n. n) copying) in
    let cut = cut_leaves grain b m c.0 picture c.1 s.plain ∙ whole_leaves b.sheet.slots picture m.id c.0 c.1.is (whole_complete b m c.0 c.1 whole) in
    let effects = left_effects grain b m picture IdleOrCopied nothing ∙ cut in
    event_then grain b picture (SplitOff m.id) ((cut_of b m then ends_in IdleOrCopied (as_left b m)) then nothing) 1 s p.fits tt
    (omega (arith, p.births)) (gone_ends b next m IdleOrCopied p.one) (sym effects)
    (subst (ArePlain b.tables.volumes) (sym effects) s.plain)
