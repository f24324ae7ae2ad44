-- What is decided of each request of a preset's line, on settled books.
use Rattle.std.proofs.Common.{◌≡◌, ℕ, ◌<◌, Bool, true, false, not, ◌||◌, cond, List, [], ◌∷◌, ◌++◌, Option, Some, None, find, filter, refl, sym, ap, subst, ◌∙◌, arith, Contains}
use Rattle.std.specs.Prelude.{◌==◌}
use Rattle.std.specs.List.{list_any}
use Rattle.std.proofs.lemmas.Bool.{ne_eqb}
use Rattle.std.proofs.lemmas.List.Elements.{All-contains}
use Rattle.fc_base.specs.States.{next_state}
use Rattle.fc_base.specs.Tables.{Tables, mapping_named, volume_named}
use Rattle.fc_base.specs.declared.command.Command.{Command}
use Rattle.fc_base.specs.declared.command.Command.TheVariants.{Mkvdisk, Rmvdisk, Mkfcmap, Startfcmap, Rmfcmap}
use Rattle.fc_base.specs.declared.command.Unit.{Unit as SizeUnit}
use Rattle.fc_base.specs.declared.decision.LaneEvent.TheVariants.{Access, Forget}
use Rattle.fc_base.specs.declared.fault.Kind.TheVariants.{Vdisk, Fcmap}
use Rattle.fc_base.specs.declared.fault.Refusal.{Refusal}
use Rattle.fc_base.specs.declared.fault.Refusal.TheVariants.{InUse, RestoreLoop}
use Rattle.fc_base.specs.declared.ids.VolId.{VolId}
use Rattle.fc_base.specs.declared.name.Ref.{Ref}
use Rattle.fc_base.specs.declared.name.Ref.TheVariants.{Id}
use Rattle.fc_base.specs.declared.request.Reply.{Reply}
use Rattle.fc_base.specs.declared.request.Reply.TheVariants.{Done, Made, Refused}
use Rattle.fc_base.specs.declared.size.GrainSize.{GrainSize}
use Rattle.fc_base.specs.declared.state.Access.TheVariants.{Online}
use Rattle.fc_base.specs.declared.state.MapEvent.TheVariants.{Remove as RemoveMap}
use Rattle.fc_base.specs.declared.state.MapState.{MapState}
use Rattle.fc_base.specs.declared.state.MapState.TheVariants.{IdleOrCopied}
use Rattle.fc_base.specs.declared.volume.Change.TheVariants.{AddMapping, AddVolume, RemoveMapping, RemoveVolume}
use Rattle.fc_base.specs.declared.volume.Mapping.{Mapping}
use Rattle.fc_base.specs.declared.volume.Volume.{Volume}
use Rattle.fc_books.specs.Accesses.{is_stopped}
use Rattle.fc_books.specs.After.{after_deed}
use Rattle.fc_books.specs.Books.{Books, Deed, nothing}
use Rattle.fc_books.specs.Copies.{is_used}
use Rattle.fc_books.specs.Deciding.{LoopTold, after_decision, answered, done, for_one, refused, with_work}
use Rattle.fc_books.specs.Making.{make_mapping, make_volume, new_mapping, new_volume, remove_mapping, remove_volume}
use Rattle.fc_books.specs.Refused.{names_volume, of_one, refused_by}
use Rattle.fc_books.specs.Sound.{AreSound}
use Rattle.fc_books.specs.Work.{work_events}
use Rattle.fc_decided.proofs.Unrefused.{some_one}
use Rattle.fc_entry.specs.Refused.{where_}
use Rattle.law_presets.proofs.Alone.{Alone, AreLoose, alone_after, loose_append, loose_work, unused}
use Rattle.law_presets.proofs.Settles.{tables_after}
use Rattle.law_presets.proofs.Standing.{BothIn, HasBoth, HasVolume, VolumeIn, any_none, last_found, last_removed, named_below, next_alone}
use Rattle.law_presets.specs.Left.{IsAsBefore}

-- ---- what stands behind an answer

-- Of `mkvdisk`: a volume, if one was made.
abbrev pub AfterVolume : Tables → Reply → Books → Type 0
AfterVolume before (Made kind id) b = VolumeIn before id b
AfterVolume before reply b = IsAsBefore before b.tables

-- Of `mkfcmap`: a mapping too, if one was made.
abbrev pub AfterMapping : Tables → ℕ → Reply → Books → Type 0
AfterMapping before id (Made kind n) b = BothIn before id n b
AfterMapping before id reply b = VolumeIn before id b

-- Of `startfcmap`: both, unless it was done.
abbrev pub AfterStart : Tables → ℕ → ℕ → Reply → Books → Type 0
AfterStart before id n Done b = Unit {0}
AfterStart before id n reply b = BothIn before id n b

module _ (before : Tables) (sets : ℕ → List Bool) (b : Books) where
  -- The books after it.
  abbrev left : Reply → Deed → Books
  left reply deed = after_decision sets b (with_work sets b reply deed)

  loose_deed : (deed : Deed) → AreLoose deed.events → AreLoose (deed.events ++ work_events (after_deed sets b deed))
  loose_deed deed loose = loose_append deed.events (work_events (after_deed sets b deed)) loose (loose_work (after_deed sets b deed))

  left_alone : (id : ℕ) (reply : Reply) (deed : Deed) → AreLoose deed.events → Alone id b.sheet → Alone id (left reply deed).sheet
  left_alone id reply deed loose a = alone_after id sets b (deed.events ++ work_events (after_deed sets b deed)) deed.changes (loose_deed deed loose) a

  -- ---- nothing was done

  same_tables : (reply : Reply) → (left reply nothing).tables ≡ b.tables
  same_tables reply = tables_after sets b (work_events (after_deed sets b nothing)) []

  before_same : (reply : Reply) → IsAsBefore before b.tables → IsAsBefore before (left reply nothing).tables
  before_same reply h = subst (IsAsBefore before) (sym (same_tables reply)) h

  volume_same : (id : ℕ) (reply : Reply) → VolumeIn before id b → VolumeIn before id (left reply nothing)
  volume_same id reply h = (subst (HasVolume before id) (sym (same_tables reply)) h.0, left_alone id reply nothing tt h.1)

  both_same : (id n : ℕ) (reply : Reply) → BothIn before id n b → BothIn before id n (left reply nothing)
  both_same id n reply h = (subst (HasBoth before id n) (sym (same_tables reply)) h.0, left_alone id reply nothing tt h.1)

  -- ---- a command that is allowed, and closes no loop, is done

  allowed_done :
      (grain : GrainSize) (command : Command) (P : Books → Type 0) →
      refused grain b command ≡ None →
      ((volumes : List VolId) → LoopTold None b command (Some volumes) → ⊥) →
      P (after_decision sets b (answered sets grain b command None None)) →
      (o : Option Refusal) (loop : Option (List VolId)) → refused grain b command ≡ o → LoopTold o b command loop →
      P (after_decision sets b (answered sets grain b command o loop))
  allowed_done grain command P allowed no_loop made (Some refusal) loop e told =
      let clash : ◌≡◌ {A = Option Refusal} None (Some refusal) = sym allowed ∙ e in
      absurd (cc clash)
  allowed_done grain command P allowed no_loop made None (Some volumes) e told = absurd (no_loop volumes told)
  allowed_done grain command P allowed no_loop made None None e told = made

  -- ---- the start, unless it is done

  pub start_decided : (grain : GrainSize) (map : Ref) (prep restore : Bool) (id n : ℕ) (o : Option Refusal) (loop : Option (List VolId)) → BothIn before id n b →
      AfterStart before id n (answered sets grain b (Startfcmap map prep restore) o loop).reply (after_decision sets b (answered sets grain b (Startfcmap map prep restore) o loop))
  start_decided grain map prep restore id n (Some refusal) loop h = both_same id n (Refused refusal) h
  start_decided grain map prep restore id n None (Some volumes) h = both_same id n (Refused (RestoreLoop volumes)) h
  start_decided grain map prep restore id n None None h = tt

  -- ---- what undoes the mapping

  online_loose : (test : Bool) (v : VolId) → AreLoose (cond test (Access v Online ∷ []) [])
  online_loose true v = (tt, tt)
  online_loose false v = tt

  module _ (id n : ℕ) (h : BothIn before id n b) where
    map_found : mapping_named b.tables (Id n) ≡ Some h.0.mapping
    map_found =
        ap (find (λ (m : Mapping). n == m.id.0)) h.0.mappings_are
        ∙ last_found (λ (m : Mapping). m.id.0) n h.0.rest h.0.mapping h.0.map_is h.0.apart

    unmap_allowed : (grain : GrainSize) → refused grain b (Rmfcmap (Id n) false) ≡ None
    unmap_allowed grain =
        ap (λ (o : Option Mapping). of_one Fcmap o (λ (m : Mapping). refused_by (next_state m.state RemoveMap false false))) map_found
        ∙ ap (λ (s : MapState). refused_by (next_state s RemoveMap false false)) h.0.idle

    map_removed : VolumeIn before id (left Done (remove_mapping h.0.mapping))
    map_removed =
        let m : Mapping = h.0.mapping in
        let others : List Mapping = filter (λ (x : Mapping). not (m.id.0 == x.id.0)) b.tables.mappings in
        let deed : Deed = remove_mapping m in
        let is : others ≡ h.0.rest =
        ap (filter (λ (x : Mapping). not (m.id.0 == x.id.0))) h.0.mappings_are
        ∙ last_removed (λ (x : Mapping). x.id.0) m.id.0 h.0.rest m refl (λ x found e. h.0.apart x found (e ∙ sym h.0.map_is)) in
        let now : (left Done deed).tables ≡ record b.tables { mappings = h.0.rest } =
        tables_after sets b (deed.events ++ work_events (after_deed sets b deed)) (RemoveMapping m.id ∷ [])
        ∙ ap (λ (ms : List Mapping). record b.tables { mappings = ms }) is in (
          subst (HasVolume before id) (sym now) (record {
            volume = h.0.volume;
            id_is = h.0.id_is;
            fresh = h.0.fresh;
            volumes = h.0.volumes;
            groups = h.0.groups;
            mappings = h.0.mappings;
            of_others = h.0.of_others;
          }),
          left_alone id Done deed
              (loose_append (cond (is_stopped m.state) (Access m.target Online ∷ []) []) (Forget m.id ∷ []) (online_loose (is_stopped m.state) m.target) (tt, tt)) h.1,
        )

    pub unmap_decided : (grain : GrainSize) (o : Option Refusal) (loop : Option (List VolId)) → refused grain b (Rmfcmap (Id n) false) ≡ o →
        LoopTold o b (Rmfcmap (Id n) false) loop → VolumeIn before id (after_decision sets b (answered sets grain b (Rmfcmap (Id n) false) o loop))
    unmap_decided grain =
        let is : for_one (mapping_named b.tables (Id n)) remove_mapping ≡ remove_mapping h.0.mapping =
        ap (λ (o : Option Mapping). for_one o remove_mapping) map_found in
        allowed_done grain (Rmfcmap (Id n) false) (VolumeIn before id) (unmap_allowed grain) (λ volumes told. cc told)
        (subst (λ (deed : Deed). VolumeIn before id (left Done deed)) (sym is) map_removed)

  -- ---- what undoes the volume

  module _ (id : ℕ) (h : VolumeIn before id b) where
    volume_found : volume_named b.tables (Id id) ≡ Some h.0.volume
    volume_found =
        ap (find (λ (v : Volume). id == v.id.0)) h.0.volumes
        ∙ last_found (λ (v : Volume). v.id.0) id before.volumes h.0.volume h.0.id_is h.0.fresh

    none_names : list_any (names_volume h.0.volume) b.tables.mappings ≡ false
    none_names =
        any_none (names_volume h.0.volume) b.tables.mappings
        (λ m found.
        let v : Volume = h.0.volume in
        let apart = h.0.of_others m found in
        ap (λ (test : Bool). test || (m.target.0 == v.id.0)) (ne_eqb m.source.0 v.id.0 (λ e. apart.0 (e ∙ sym h.0.id_is)))
        ∙ ne_eqb m.target.0 v.id.0 (λ e. apart.1 (e ∙ sym h.0.id_is)))

    unmake_allowed : (grain : GrainSize) → refused grain b (Rmvdisk (Id id)) ≡ None
    unmake_allowed grain =
        let v : Volume = h.0.volume in
        let used : Bool = is_used b.sheet.slots v.id in
        ap (λ (o : Option Volume). of_one Vdisk o (λ (x : Volume). where_ (list_any (names_volume x) b.tables.mappings || is_used b.sheet.slots x.id) (InUse x.id))) volume_found
        ∙ ap (λ (test : Bool). where_ (test || used) (InUse v.id)) none_names
        ∙ ap (λ (test : Bool). where_ test (InUse v.id)) (unused v.id b.sheet (subst (λ (i : ℕ). Alone i b.sheet) h.0.id_is h.1))

    volume_removed : IsAsBefore before (left Done (remove_volume h.0.volume)).tables
    volume_removed =
        let v : Volume = h.0.volume in
        let others : List Volume = filter (λ (x : Volume). not (v.id.0 == x.id.0)) b.tables.volumes in
        let deed : Deed = remove_volume v in
        let is : others ≡ before.volumes =
        ap (filter (λ (x : Volume). not (v.id.0 == x.id.0))) h.0.volumes
        ∙ last_removed (λ (x : Volume). x.id.0) v.id.0 before.volumes v refl (λ x found e. h.0.fresh x found (e ∙ sym h.0.id_is)) in
        let now : (left Done deed).tables ≡ record b.tables { volumes = before.volumes } =
        tables_after sets b (deed.events ++ work_events (after_deed sets b deed)) (RemoveVolume v.id ∷ [])
        ∙ ap (λ (vs : List Volume). record b.tables { volumes = vs }) is in
        subst (IsAsBefore before) (sym now) (record { volumes = refl; groups = h.0.groups; mappings = h.0.mappings })

    pub unmake_decided : (grain : GrainSize) (o : Option Refusal) (loop : Option (List VolId)) → refused grain b (Rmvdisk (Id id)) ≡ o →
        LoopTold o b (Rmvdisk (Id id)) loop → IsAsBefore before (after_decision sets b (answered sets grain b (Rmvdisk (Id id)) o loop)).tables
    unmake_decided grain =
        let is : for_one (volume_named b.tables (Id id)) remove_volume ≡ remove_volume h.0.volume =
        ap (λ (o : Option Volume). for_one o remove_volume) volume_found in
        allowed_done grain (Rmvdisk (Id id)) (λ (books : Books). IsAsBefore before books.tables) (unmake_allowed grain) (λ volumes told. cc told)
        (subst (λ (deed : Deed). IsAsBefore before (left Done deed).tables) (sym is) volume_removed)

  -- ---- the volume and the mapping

  module _ (sound : AreSound b) where
    volume_made : (v : Volume) → v.id.0 ≡ b.next_volume → IsAsBefore before b.tables → VolumeIn before b.next_volume (left (Made Vdisk b.next_volume) (make_volume v))
    volume_made v id_is h =
        let deed : Deed = make_volume v in
        let now : (left (Made Vdisk b.next_volume) deed).tables ≡ record b.tables { volumes = b.tables.volumes ++ v ∷ [] } =
        tables_after sets b (deed.events ++ work_events (after_deed sets b deed)) (AddVolume v ∷ []) in (
          subst (HasVolume before b.next_volume) (sym now) (record {
            volume = v;
            id_is = sym id_is;
            fresh = λ x found e.
                let there : Contains b.tables.volumes x = subst (λ (vs : List Volume). Contains vs x) (sym h.volumes) found in
                let below : x.id.0 < b.next_volume = All-contains (λ (y : Volume). y.id.0 < b.next_volume) b.tables.volumes x sound.tables.new_volume there in
                omega (arith, below, e);
            volumes = ap (λ (vs : List Volume). vs ++ v ∷ []) h.volumes;
            groups = h.groups;
            mappings = h.mappings;
            of_others = λ m found.
                let of = sound.agree.mappings m found in
                let source : m.source.0 < b.next_volume = named_below b sound m.source of.source in
                let target : m.target.0 < b.next_volume = named_below b sound m.target of.target in
                ((λ e. omega (arith, source, e)), (λ e. omega (arith, target, e)));
          }),
          left_alone b.next_volume (Made Vdisk b.next_volume) deed (tt, tt) (next_alone b sound),
        )

    pub volume_decided : (grain : GrainSize) (name : Option (List ℕ)) (size : ℕ) (unit : Option SizeUnit) (thin : Bool) (o : Option Refusal) (loop : Option (List VolId)) → IsAsBefore before b.tables →
        AfterVolume before (answered sets grain b (Mkvdisk name size unit thin) o loop).reply (after_decision sets b (answered sets grain b (Mkvdisk name size unit thin) o loop))
    volume_decided grain name size unit thin (Some refusal) loop h = before_same (Refused refusal) h
    volume_decided grain name size unit thin None (Some volumes) h = before_same (Refused (RestoreLoop volumes)) h
    volume_decided grain name size unit thin None None h = volume_made (new_volume grain b name size unit thin) refl h

    map_made : (m : Mapping) (id : ℕ) → m.id.0 ≡ b.next_mapping → m.state ≡ IdleOrCopied → VolumeIn before id b →
        BothIn before id b.next_mapping (left (Made Fcmap b.next_mapping) (make_mapping m))
    map_made m id map_is idle h =
        let deed : Deed = make_mapping m in
        let now : (left (Made Fcmap b.next_mapping) deed).tables ≡ record b.tables { mappings = b.tables.mappings ++ m ∷ [] } =
        tables_after sets b (work_events (after_deed sets b deed)) (AddMapping m ∷ []) in (
          subst (HasBoth before id b.next_mapping) (sym now) (record {
            volume = h.0.volume;
            id_is = h.0.id_is;
            fresh = h.0.fresh;
            volumes = h.0.volumes;
            groups = h.0.groups;
            rest = b.tables.mappings;
            mapping = m;
            map_is = sym map_is;
            idle = idle;
            mappings_are = refl;
            mappings = h.0.mappings;
            apart = λ x found e.
                let below : x.id.0 < b.next_mapping = All-contains (λ (y : Mapping). y.id.0 < b.next_mapping) b.tables.mappings x sound.tables.new_mapping found in
                omega (arith, below, e);
            of_others = h.0.of_others;
          }),
          left_alone id (Made Fcmap b.next_mapping) deed tt h.1,
        )

    pub map_decided : (grain : GrainSize) (source target : Ref) (name : Option (List ℕ)) (group : Option Ref) (copy_rate clean_rate : Option ℕ) (grain_size : Option GrainSize)
        (incremental autodelete : Bool) (id : ℕ) (o : Option Refusal) (loop : Option (List VolId)) →
        refused grain b (Mkfcmap source target name group copy_rate clean_rate grain_size incremental autodelete) ≡ o → VolumeIn before id b →
        AfterMapping before id (answered sets grain b (Mkfcmap source target name group copy_rate clean_rate grain_size incremental autodelete) o loop).reply
        (after_decision sets b (answered sets grain b (Mkfcmap source target name group copy_rate clean_rate grain_size incremental autodelete) o loop))
    map_decided grain source target name group copy_rate clean_rate grain_size incremental autodelete id (Some refusal) loop e h = volume_same id (Refused refusal) h
    map_decided grain source target name group copy_rate clean_rate grain_size incremental autodelete id None (Some volumes) e h = volume_same id (Refused (RestoreLoop volumes)) h
    map_decided grain source target name group copy_rate clean_rate grain_size incremental autodelete id None None e h =
        let s = some_one Vdisk (volume_named b.tables source) _ e in
        let t = some_one Vdisk (volume_named b.tables target) _ s.2 in
        let made : Volume → Volume → Deed = λ x y. make_mapping (new_mapping b x y name group copy_rate clean_rate incremental autodelete) in
        let is : done grain b (Mkfcmap source target name group copy_rate clean_rate grain_size incremental autodelete) ≡ made s.0 t.0 =
        ap (λ (found : Option Volume). for_one found (λ (x : Volume). for_one (volume_named b.tables target) (made x))) s.1
        ∙ ap (λ (found : Option Volume). for_one found (made s.0)) t.1 in
        subst (λ (deed : Deed). BothIn before id b.next_mapping (left (Made Fcmap b.next_mapping) deed)) (sym is)
        (map_made (new_mapping b s.0 t.0 name group copy_rate clean_rate incremental autodelete) id refl refl h)
