-- A stop by force, and any stop of one mapping that isn't refused.
use Rattle.std.proofs.Common.{◌≡◌, ◌≢◌, ℕ, ◌+◌, ◌≤◌, Bool, true, false, cond, Option, Some, None, [], ◌∷◌, length, map, fold, refl, sym, ap, subst, ◌∙◌, arith, Contains, inl, inr}
use Rattle.std.specs.List.{count_by, filter}
use Rattle.std.proofs.lemmas.Bool.{both_ways}
use Rattle.std.proofs.lemmas.List.{length-map}
use Rattle.std.proofs.lemmas.List.Sums.{length-filter, count_by-le-length}
use Rattle.fc_base.specs.Sheet.{Sheet, slot_at, mapping_place}
use Rattle.fc_base.specs.SheetFacts.{IsSound}
use Rattle.fc_base.specs.SheetStep.{forced_map}
use Rattle.fc_base.specs.States.{next_state}
use Rattle.fc_base.specs.declared.command.StopWay.{StopWay}
use Rattle.fc_base.specs.declared.command.StopWay.TheVariants.{Plain, Force, Split}
use Rattle.fc_base.specs.declared.decision.LaneEvent.{LaneEvent}
use Rattle.fc_base.specs.declared.decision.LaneEvent.TheVariants.{Retire, Detach, Split as SplitOff, Force as ForceOut}
use Rattle.fc_base.specs.declared.size.GrainSize.{GrainSize}
use Rattle.fc_base.specs.declared.state.MapEvent.TheVariants.{StopForce}
use Rattle.fc_base.specs.declared.state.MapState.{MapState}
use Rattle.fc_base.specs.declared.state.MapState.TheVariants.{Empty, IdleOrCopied, Preparing, Prepared, Copying, Stopping, Stopped}
use Rattle.fc_base.specs.declared.volume.Mapping.{Mapping}
use Rattle.fc_books.specs.Accesses.{is_idle}
use Rattle.fc_books.specs.Books.{Books, Deed, nothing, told, ◌then◌, all_deeds}
use Rattle.fc_books.specs.Copies.{is_whole, is_needed, dependents, has_slot_among, places_behind}
use Rattle.fc_books.specs.Ending.{ends_by, ends_in, as_left, cut_of, leaves_by}
use Rattle.fc_books.specs.Stopping.{stop_event, stop_dependents, stops_with, stops_in, stops}
use Rattle.fc_entry.specs.Picture.{Picture}
use Rattle.fc_entry.specs.PlainStep.{after_effects}
use Rattle.fc_legal.specs.Stands.{ArePlain}
use Rattle.fc_rules.specs.LaneTold.{leaves}
use Rattle.fc_sheets.proofs.Forcing.{Among}
use Rattle.fc_sheets.proofs.Steps.{Nobody}
use Rattle.fc_decided.proofs.Forced.{Dependents, dependents_are, dependent_other, dependent_live, force_fits, forced_births, among_from, among_to}
use Rattle.fc_decided.proofs.Frame.{tabled}
use Rattle.fc_decided.proofs.Joint.{HasSeen, StateSeen, kept_left, joint_kept}
use Rattle.fc_decided.proofs.Leaving.{Left, forced_left}
use Rattle.fc_decided.proofs.Plain.{effects_append, ends_plain, copies, cut_leaves, leaves_plain, leaves_old, LeavesAll, all_leave}
use Rattle.fc_decided.proofs.Quiet.{Quietly, quiet, Standing, EndsQuietly, ends_then, OneEnds, one_ends, cut_ends, IsIdOf, all_stop}
use Rattle.fc_decided.proofs.Seen.{Seen, seen, seen_slot, seen_place}
use Rattle.fc_decided.proofs.Stops.{Sound, Goes, nothing_goes, event_then, slot_of, copying_seen, follows, same_follows, busy_copying, retire_goes, detach_goes, split_goes}

-- ---- the dependents of a forced mapping

live_copying : (state : MapState) (o : Option Seen) (v : ℕ) (x : Seen) → StateSeen state o v → o ≡ Some x → x.is_live ≡ true → state ≡ Copying
live_copying Copying o v x s e live = refl
live_copying Stopping o v x s e live = absurd (
    let q : Some s.x ≡ Some x = sym s.is ∙ e in
    let same : s.x ≡ x = cc in
    both_ways x.is_live (ap (λ (y : Seen). y.is_live) (sym same) ∙ s.liveness) live)
live_copying state o v x s e live = absurd (let q : None ≡ Some x = sym s ∙ e in cc)

few_dependents : (b : Books) (m : Mapping) → length (dependents b m) ≤ length b.tables.mappings
unfolding dependents
few_dependents b m =
    let test : Mapping → Bool = has_slot_among b.sheet.slots (places_behind b.sheet.slots (mapping_place b.sheet.slots m.id.0)) in
    let n : length (filter test b.tables.mappings) ≡ count_by test b.tables.mappings = length-filter test b.tables.mappings in
    let le : count_by test b.tables.mappings ≤ length b.tables.mappings = count_by-le-length test b.tables.mappings in
    omega arith

dependent_copies : (b : Books) (m : Mapping) (k : ℕ) (picture : Picture) → Sound b picture → Dependents b m k → (d : Mapping) → Contains (dependents b m) d → d.state ≡ Copying
dependent_copies b m k picture s deps d found =
    let at = deps.places d found in
    live_copying d.state (seen b.sheet.slots d.id.0) d.target.0 (seen_slot (slot_at b.sheet.slots at.0))
    (s.stands.joint.by_state d (deps.among d found) (λ n. n)) (seen_place b.sheet.slots d.id.0 at.0 at.1) (dependent_live b.sheet.slots k at.0 at.2)

dependent_apart : (b : Books) (m : Mapping) (k : ℕ) → mapping_place b.sheet.slots m.id.0 ≡ Some k → Dependents b m k → (d : Mapping) → Contains (dependents b m) d → d.id.0 ≢ m.id.0
dependent_apart b m k place deps d found e =
    let at = deps.places d found in
    let q : Some at.0 ≡ Some k = sym at.1 ∙ (ap (mapping_place b.sheet.slots) e ∙ place) in
    dependent_other b.sheet.slots k at.0 at.2 cc

-- ---- a force

forced_sheet : Books → Mapping → Sheet
forced_sheet b m = fold forced_map b.sheet (m.id ∷ map (λ (d : Mapping). d.id) (dependents b m))

-- what is still to end: the mapping and its dependents, then they alone
Forced : Books → Mapping → ℕ → Type 0
Forced b m n = Among (m.id ∷ map (λ (d : Mapping). d.id) (dependents b m)) n

-- The mapping's own end is a deed that ends it and cuts what its slot leaves.
record OwnEnd (grain : GrainSize) (b : Books) (m : Mapping) (picture : Picture) (own : Deed) : Type 0 where
  ends : OneEnds b (forced_sheet b m) own m.id.0 (IsIdOf (dependents b m))
  cuts : after_effects grain picture own.effects ≡ leaves b.sheet.slots picture m.id

force_goes : (grain : GrainSize) (b : Books) (m : Mapping) (k : ℕ) (picture : Picture) (own : Deed) → Sound b picture → mapping_place b.sheet.slots m.id.0 ≡ Some k → Dependents b m k →
    Left b.sheet.slots (forced_sheet b m).slots (Forced b m) → OwnEnd grain b m picture own →
    Goes grain b picture (told (ForceOut m.id (map (λ (d : Mapping). d.id) (dependents b m)) ∷ []) then (own then all_deeds (stops_with b) (dependents b m))) (length b.tables.mappings + 1)
unfolding forced_sheet Forced
force_goes grain b m k picture own s place deps l o =
    let slots = b.sheet.slots in
    let ds = dependents b m in
    let ids = map (λ (d : Mapping). d.id) ds in
    let next : Sheet = fold forced_map b.sheet (m.id ∷ ids) in
    let mid : Books = tabled b own.changes in
    let rest : EndsQuietly mid next (all_deeds (stops_with b) ds) Nobody = all_stop ds mid b next (IsIdOf ds) Nobody o.ends.ends.stands deps.ordered
    (λ d found. o.ends.others d (deps.among d found) (dependent_apart b m k place deps d found))
    (λ d found. busy_copying d (dependent_copies b m k picture s deps d found))
    (λ d found. l.went d.id.0 (inr (among_from ds d found)))
    (λ n y. inl y) in
    let all : EndsQuietly b next (own then all_deeds (stops_with b) ds) Nobody = ends_then b next own (all_deeds (stops_with b) ds) (IsIdOf ds) Nobody o.ends.ends rest in
    let cut : LeavesAll grain b ds (leaves slots picture m.id) = all_leave grain b ds (leaves slots picture m.id)
    (λ d found. copies b Nobody d s.sheet.one_live s.stands (deps.among d found)
    (copying_seen b Nobody d s.stands (deps.among d found) (λ n. n) (dependent_copies b m k picture s deps d found)))
    (leaves_plain slots b.tables.volumes picture m.id s.plain) in
    let effects = effects_append grain picture own.effects (all_deeds (stops_with b) ds).effects ∙ (ap (λ p. after_effects grain p (all_deeds (stops_with b) ds).effects) o.cuts ∙ cut.same) in
    let births : next.births ≤ b.sheet.births + length (m.id ∷ ids) = forced_births (m.id ∷ ids) b.sheet in
    let count : length ids ≡ length ds = length-map ds (λ (d : Mapping). d.id) in
    let few : length ds ≤ length b.tables.mappings = few_dependents b m in
    event_then grain b picture (ForceOut m.id ids) (own then all_deeds (stops_with b) ds) (length b.tables.mappings + 1) s
    (force_fits b m k Nobody s.sheet s.stands.joint deps place) tt (omega arith) all (sym effects)
    (subst (ArePlain b.tables.volumes) (sym effects) cut.plain)

-- the parts that both cases share
record Forces (b : Books) (m : Mapping) (k : ℕ) : Type 0 where
  deps : Dependents b m k
  left : Left b.sheet.slots (forced_sheet b m).slots (Forced b m)
  stands : Standing b (forced_sheet b m).slots (Forced b m)
  rest : (n : ℕ) → n ≢ m.id.0 → Forced b m n → IsIdOf (dependents b m) n

forces : (b : Books) (m : Mapping) (k : ℕ) (picture : Picture) → Sound b picture → mapping_place b.sheet.slots m.id.0 ≡ Some k → Forces b m k
unfolding forced_sheet Forced
forces b m k picture s place =
    let ids = map (λ (d : Mapping). d.id) (dependents b m) in
    let next : Sheet = fold forced_map b.sheet (m.id ∷ ids) in
    let l : Left b.sheet.slots next.slots (Among (m.id ∷ ids)) = forced_left (m.id ∷ ids) b.sheet s.sheet.mappings s.sheet.one_live in
    record {
      deps = dependents_are b m k s.sheet.sizes s.stands.rows.tables.mappings place;
      left = l;
      stands = record {
        rows = s.stands.rows;
        joint = joint_kept b.tables b.sheet.slots next.slots (Among (m.id ∷ ids)) Nobody (Among (m.id ∷ ids)) (kept_left b.sheet.slots next.slots (Among (m.id ∷ ids)) l) (λ n q. q) (λ n q. absurd q) s.stands.joint;
      };
      rest = λ n ne a. elim a [
        | inl e ↦ absurd (ne e)
        | inr later ↦ let r = among_to (dependents b m) n later in record { d = r.0; among = r.1; is = r.2 }
      ];
    }

forced_none : (b : Books) (m : Mapping) (k : ℕ) → Forces b m k → seen (forced_sheet b m).slots m.id.0 ≡ None
unfolding Forced
forced_none b m k f = f.left.went m.id.0 (inl refl)

-- of a copying mapping
force_copying : (grain : GrainSize) (b : Books) (m : Mapping) (picture : Picture) (state : MapState) → Sound b picture → Contains b.tables.mappings m → m.state ≡ Copying → state ≢ Empty → ((o : Option Seen) (v : ℕ) → o ≡ None → StateSeen state o v) →
    Goes grain b picture (told (ForceOut m.id (map (λ (d : Mapping). d.id) (dependents b m)) ∷ []) then ((cut_of b m then ends_in state (as_left b m)) then all_deeds (stops_with b) (dependents b m))) (length b.tables.mappings + 1)
force_copying grain b m picture state s found copying ok none =
    let seen_live = copying_seen b Nobody m s.stands found (λ n. n) copying in
    let at = slot_of b m true seen_live in
    let f = forces b m at.place picture s at.is_there in
    let c = copies b Nobody m s.sheet.one_live s.stands found seen_live in
    force_goes grain b m at.place picture (cut_of b m then ends_in state (as_left b m)) s at.is_there f.deps f.left
    (record {
      ends = cut_ends b b (forced_sheet b m) m (ends_in state (as_left b m)) m.id.0 (IsIdOf (dependents b m))
          (one_ends b (forced_sheet b m) m (as_left b m) state (Forced b m) (IsIdOf (dependents b m)) f.stands (follows b m state found (busy_copying m copying) ok)
          (none (seen (forced_sheet b m).slots m.id.0) m.target.0 (forced_none b m at.place f)) f.rest);
      cuts = effects_append grain picture (cut_of b m).effects (ends_in state (as_left b m)).effects
          ∙ ends_plain grain (after_effects grain picture (cut_of b m).effects) state (as_left b m)
          ∙ cut_leaves grain b m c.0 picture c.1 s.plain;
    })

stopping_seen : (b : Books) (m : Mapping) → Standing b b.sheet.slots Nobody → Contains b.tables.mappings m → m.state ≡ Stopping → HasSeen (seen b.sheet.slots m.id.0) m.target.0 false
stopping_seen b m st found e = subst (λ (z : MapState). StateSeen z (seen b.sheet.slots m.id.0) m.target.0) e (st.joint.by_state m found (λ n. n))

-- of a stopping one
force_stopping : (grain : GrainSize) (b : Books) (m : Mapping) (picture : Picture) (state : MapState) → Sound b picture → Contains b.tables.mappings m → m.state ≡ Stopping → state ≢ Empty → ((o : Option Seen) (v : ℕ) → o ≡ None → StateSeen state o v) →
    Goes grain b picture (told (ForceOut m.id (map (λ (d : Mapping). d.id) (dependents b m)) ∷ []) then (ends_in state m then all_deeds (stops_with b) (dependents b m))) (length b.tables.mappings + 1)
force_stopping grain b m picture state s found stopping ok none =
    let old = stopping_seen b m s.stands found stopping in
    let at = slot_of b m false old in
    let f = forces b m at.place picture s at.is_there in
    force_goes grain b m at.place picture (ends_in state m) s at.is_there f.deps f.left
    (record {
      ends = one_ends b (forced_sheet b m) m m state (Forced b m) (IsIdOf (dependents b m)) f.stands (same_follows b m state found (ap is_idle stopping) ok)
          (none (seen (forced_sheet b m).slots m.id.0) m.target.0 (forced_none b m at.place f)) f.rest;
      cuts = ends_plain grain picture state m ∙ sym (leaves_old b.sheet.slots picture m.id old.x old.is old.liveness);
    })

-- ---- a stop without chains

quiet_goes : (grain : GrainSize) (b : Books) (picture : Picture) (deed : Deed) (births : ℕ) → Sound b picture → EndsQuietly b b.sheet deed Nobody → after_effects grain picture deed.effects ≡ picture → Goes grain b picture deed births
quiet_goes grain b picture deed births s ends effects =
    let q : Quietly b.sheet deed.events = quiet b.sheet deed.events ends.quiet in
    record {
      table = ends.table;
      fit = q.fit;
      shows = q.picture grain picture ∙ sym effects;
      few = subst (λ (x : Sheet). x.births ≤ b.sheet.births + births) (sym q.sheet) (omega arith);
      sheet = subst IsSound (sym q.sheet) s.sheet;
      stands = subst (λ (x : Sheet). Standing (tabled b deed.changes) x.slots Nobody) (sym q.sheet) ends.stands;
      plain = subst (ArePlain b.tables.volumes) (sym effects) s.plain;
    }

prepared_goes : (grain : GrainSize) (b : Books) (m : Mapping) (picture : Picture) (births : ℕ) → Sound b picture → Contains b.tables.mappings m → is_idle m.state ≡ false → seen b.sheet.slots m.id.0 ≡ None → Goes grain b picture (ends_in Stopped m) births
prepared_goes grain b m picture births s found busy none =
    let one = one_ends b b.sheet m m Stopped Nobody Nobody s.stands (same_follows b m Stopped found busy (λ e. absurd cc)) none (λ n ne q. q) in
    quiet_goes grain b picture (ends_in Stopped m) births s one.ends (ends_plain grain picture Stopped m)

-- ---- any stop

-- What a stop that isn't refused knows: a split is of a whole copy, and what is stopping is stopped by force.
abbrev pub MayStop : MapState → StopWay → Bool → Type 0
MayStop Copying way whole = way ≡ Split → whole ≡ true
MayStop Stopping way whole = way ≡ Force
MayStop state way whole = Unit {0}

idle_none : (o : Option Seen) (v : ℕ) → o ≡ None → StateSeen IdleOrCopied o v
idle_none o v e = e

stopped_none : (o : Option Seen) (v : ℕ) → o ≡ None → StateSeen Stopped o v
stopped_none o v e = e

pub more_births : (grain : GrainSize) (b : Books) (picture : Picture) (deed : Deed) (n m : ℕ) → n ≤ m → Goes grain b picture deed n → Goes grain b picture deed m
more_births grain b picture deed n m le g =
    record {
      table = g.table;
      fit = g.fit;
      shows = g.shows;
      few = omega (arith, g.few, le);
      sheet = g.sheet;
      stands = g.stands;
      plain = g.plain;
    }

-- the deed of a stop of a copying mapping, by what it asks
copying_deed : StopWay → Books → Mapping → Bool → Bool → Deed
copying_deed way b m whole needed =
    told (copying_event way b m needed ∷ []) then (leaves_by (next_state Copying (stop_event way) whole needed) b m then stop_dependents way b m)
  where
    copying_event : StopWay → Books → Mapping → Bool → LaneEvent
    copying_event Plain b m needed = cond needed (Retire m.id) (Detach m.id)
    copying_event Split b m needed = SplitOff m.id
    copying_event Force b m needed = ForceOut m.id (map (λ (d : Mapping). d.id) (dependents b m))

copying_goes : (grain : GrainSize) (b : Books) (m : Mapping) (picture : Picture) (way : StopWay) (whole needed : Bool) → is_whole b m ≡ whole → is_needed b m ≡ needed → Sound b picture → Contains b.tables.mappings m → m.state ≡ Copying → (way ≡ Split → whole ≡ true) →
    Goes grain b picture (copying_deed way b m whole needed) (length b.tables.mappings + 1)
unfolding copying_deed
copying_goes grain b m picture Plain whole true w n s found copying may =
    more_births grain b picture (told (Retire m.id ∷ []) then ((cut_of b m then ends_in Stopping (as_left b m)) then nothing)) 1 (length b.tables.mappings + 1) (omega arith) (retire_goes grain b m picture s found copying)
copying_goes grain b m picture Plain whole false w n s found copying may =
    more_births grain b picture (told (Detach m.id ∷ []) then ((cut_of b m then ends_in Stopped (as_left b m)) then nothing)) 1 (length b.tables.mappings + 1) (omega arith)
    (detach_goes grain b m picture Stopped s found copying n (λ e. absurd cc) stopped_none)
copying_goes grain b m picture Split true needed w n s found copying may =
    more_births grain b picture (told (SplitOff m.id ∷ []) then ((cut_of b m then ends_in IdleOrCopied (as_left b m)) then nothing)) 1 (length b.tables.mappings + 1) (omega arith)
    (split_goes grain b m picture s found copying w)
copying_goes grain b m picture Split false needed w n s found copying may = absurd (let e : false ≡ true = may refl in cc)
copying_goes grain b m picture Force true needed w n s found copying may = force_copying grain b m picture IdleOrCopied s found copying (λ e. absurd cc) idle_none
copying_goes grain b m picture Force false needed w n s found copying may = force_copying grain b m picture Stopped s found copying (λ e. absurd cc) stopped_none

copying_is : (b : Books) (m : Mapping) (way : StopWay) → stops_in Copying way b m ≡ copying_deed way b m (is_whole b m) (is_needed b m)
unfolding copying_deed
copying_is b m Plain = refl
copying_is b m Split = refl
copying_is b m Force = refl

stopping_goes : (grain : GrainSize) (b : Books) (m : Mapping) (picture : Picture) (complete needed : Bool) → Sound b picture → Contains b.tables.mappings m → m.state ≡ Stopping →
    Goes grain b picture (told (ForceOut m.id (map (λ (d : Mapping). d.id) (dependents b m)) ∷ []) then (ends_by (next_state Stopping StopForce complete needed) m then all_deeds (stops_with b) (dependents b m))) (length b.tables.mappings + 1)
stopping_goes grain b m picture true needed s found stopping = force_stopping grain b m picture IdleOrCopied s found stopping (λ e. absurd cc) idle_none
stopping_goes grain b m picture false needed s found stopping = force_stopping grain b m picture Stopped s found stopping (λ e. absurd cc) stopped_none

state_none : (b : Books) (m : Mapping) (picture : Picture) (state : MapState) → Sound b picture → Contains b.tables.mappings m → m.state ≡ state → StateSeen state (seen b.sheet.slots m.id.0) m.target.0
state_none b m picture state s found e = subst (λ (z : MapState). StateSeen z (seen b.sheet.slots m.id.0) m.target.0) e (s.stands.joint.by_state m found (λ n. n))

state_goes : (grain : GrainSize) (b : Books) (m : Mapping) (picture : Picture) (way : StopWay) (state : MapState) → Sound b picture → Contains b.tables.mappings m → m.state ≡ state → MayStop state way (is_whole b m) →
    Goes grain b picture (stops_in state way b m) (length b.tables.mappings + 1)
state_goes grain b m picture way Copying s found e may =
    subst (λ (d : Deed). Goes grain b picture d (length b.tables.mappings + 1)) (sym (copying_is b m way)) (copying_goes grain b m picture way (is_whole b m) (is_needed b m) refl refl s found e may)
state_goes grain b m picture Force Stopping s found e may = stopping_goes grain b m picture m.complete (is_needed b m) s found e
state_goes grain b m picture Plain Stopping s found e may = absurd cc
state_goes grain b m picture Split Stopping s found e may = absurd cc
state_goes grain b m picture Plain Prepared s found e may = prepared_goes grain b m picture (length b.tables.mappings + 1) s found (ap is_idle e) (state_none b m picture Prepared s found e)
state_goes grain b m picture Force Prepared s found e may = prepared_goes grain b m picture (length b.tables.mappings + 1) s found (ap is_idle e) (state_none b m picture Prepared s found e)
state_goes grain b m picture Split Prepared s found e may = nothing_goes grain b picture (length b.tables.mappings + 1) s
state_goes grain b m picture Plain Preparing s found e may = prepared_goes grain b m picture (length b.tables.mappings + 1) s found (ap is_idle e) (state_none b m picture Preparing s found e)
state_goes grain b m picture Force Preparing s found e may = prepared_goes grain b m picture (length b.tables.mappings + 1) s found (ap is_idle e) (state_none b m picture Preparing s found e)
state_goes grain b m picture Split Preparing s found e may = nothing_goes grain b picture (length b.tables.mappings + 1) s
state_goes grain b m picture Plain Empty s found e may = nothing_goes grain b picture (length b.tables.mappings + 1) s
state_goes grain b m picture Force Empty s found e may = nothing_goes grain b picture (length b.tables.mappings + 1) s
state_goes grain b m picture Split Empty s found e may = nothing_goes grain b picture (length b.tables.mappings + 1) s
state_goes grain b m picture Plain IdleOrCopied s found e may = nothing_goes grain b picture (length b.tables.mappings + 1) s
state_goes grain b m picture Force IdleOrCopied s found e may = nothing_goes grain b picture (length b.tables.mappings + 1) s
state_goes grain b m picture Split IdleOrCopied s found e may = nothing_goes grain b picture (length b.tables.mappings + 1) s
state_goes grain b m picture Plain Stopped s found e may = nothing_goes grain b picture (length b.tables.mappings + 1) s
state_goes grain b m picture Force Stopped s found e may = nothing_goes grain b picture (length b.tables.mappings + 1) s
state_goes grain b m picture Split Stopped s found e may = nothing_goes grain b picture (length b.tables.mappings + 1) s

pub stops_goes : (grain : GrainSize) (b : Books) (m : Mapping) (picture : Picture) (way : StopWay) → Sound b picture → Contains b.tables.mappings m → MayStop m.state way (is_whole b m) →
    Goes grain b picture (stops way b m) (length b.tables.mappings + 1)
unfolding stops
stops_goes grain b m picture way s found may = state_goes grain b m picture way m.state s found refl may

-- ---- the deed of a split

split_deed : (b : Books) (m : Mapping) (whole needed : Bool) → whole ≡ true → copying_deed Split b m whole needed ≡ (told (SplitOff m.id ∷ []) then ((cut_of b m then ends_in IdleOrCopied (as_left b m)) then nothing))
unfolding copying_deed
split_deed b m true needed e = refl
split_deed b m false needed e = absurd cc

stops_by_state : (way : StopWay) (b : Books) (m : Mapping) (state : MapState) → m.state ≡ state → stops way b m ≡ stops_in state way b m
unfolding stops
stops_by_state way b m state e = ap (λ z. stops_in z way b m) e

pub split_is : (b : Books) (m : Mapping) → m.state ≡ Copying → is_whole b m ≡ true → stops Split b m ≡ (told (SplitOff m.id ∷ []) then ((cut_of b m then ends_in IdleOrCopied (as_left b m)) then nothing))
split_is b m copying whole = stops_by_state Split b m Copying copying ∙ copying_is b m Split ∙ split_deed b m (is_whole b m) (is_needed b m) whole
