-- One event keeps the chains and the stored grains showing what plain volumes hold.
use Rattle.std.proofs.Common.{◌≡◌, ◌⊎◌, ℕ, zero, suc, ◌<◌, ◌%◌, ◌||◌, true≢false, Bool, true, false, cond, not, ◌==◌, eqb, Option, Some, None, List, [], ◌∷◌, ◌++◌, length, map, fold, filter, replicate, All, Contains, refl, sym, ap, subst, ◌∙◌, inl, inr, arith}
use Rattle.std.proofs.lemmas.Bool.{cases_eq, ne_eqb}
use Rattle.std.proofs.lemmas.List.{get_or-replicate}
use Rattle.fc_base.specs.Sheet.{Slot, Sheet, slot_at, mapping_place}
use Rattle.fc_base.specs.SheetFacts.{IsSound}
use Rattle.fc_base.specs.SheetFits.{FitsEvent}
use Rattle.fc_base.specs.SheetStep.{sheet_step}
use Rattle.fc_base.specs.declared.decision.LaneEvent.{LaneEvent}
use Rattle.fc_base.specs.declared.decision.LaneEvent.TheVariants.{Make, Remove, Trigger, Retire, Detach, Split, Force, Drop, Forget, NoteCut, Access, Work, Arm}
use Rattle.fc_base.specs.declared.disk.DiskKind.{DiskKind}
use Rattle.fc_base.specs.declared.ids.GrainNo.{GrainNo}
use Rattle.fc_base.specs.declared.ids.MapId.{MapId}
use Rattle.fc_base.specs.declared.ids.VolId.{VolId}
use Rattle.fc_base.specs.declared.request.Pair.{Pair}
use Rattle.fc_base.specs.declared.state.Access.TheVariants.{Online}
use Rattle.fc_entry.specs.Picture.{Content, PlainVolume, Picture, zeros, content_at}
use Rattle.fc_entry.specs.PlainStep.{source_in, now_in, after_trigger}
use Rattle.fc_grains.specs.Volumes.{VolumeGrains, is_there, volume_of, stored, changed, without, armed}
use Rattle.fc_rules.specs.LaneTold.{LaneOf, LaneTold, LaneVolume, volumes_event, grains_in, cut_volume, cut_at, leaves, picture_event, told_event}
use Rattle.fc_rules.specs.Shows.{Stored, Shown, Shows}
use Rattle.fc_sheets.proofs.Lawful.{sheet_law_holds}
use Rattle.fc_pictures.specs.Law.{StoredAfter, HasPlace}
use Rattle.fc_pictures.proofs.Lawful.{picture_law_holds}
use Rattle.fc_pictures.proofs.Volumes.{found, map_from, at_id, without_from}
use Rattle.fc_rules.specs.LaneFits.{HasDisk}
use Rattle.fc_apply.specs.Parts.{GrainsAfter, new_grains}
use Rattle.fc_steps.specs.Standing.{SameVolumes, kind_of_grains, HasGrains, AllSized, Stands}
use Rattle.fc_apply.proofs.Volumes.{push_there, push_new, push_other, push_here, without_there, without_other, armed_contents, armed_there, armed_kinds, access_kinds, push_kinds, without_kinds, newest_of}

-- ---- sizes of plain volumes

-- a plain volume's grains are there, as many as it has
pub record HasSize (vs : List VolumeGrains) (p : PlainVolume) : Type 0 where
  pub there : is_there vs p.volume.0 ≡ true
  pub now : length (volume_of vs p.volume.0).contents ≡ length p.now
  pub under : length (volume_of vs p.volume.0).contents ≡ length p.under

pub sized_plain : (s : Sheet) (picture : Picture) (vs : List VolumeGrains) → Stands s picture vs → (p : PlainVolume) → Contains picture p → HasSize vs p
sized_plain s picture vs st p c =
    let k : ℕ = (picture_law_holds.place s picture (stored vs) p st.sound st.shows c).0 in
    let h : HasPlace s.slots picture p k = (picture_law_holds.place s picture (stored vs) p st.sound st.shows c).1 in
    let g : HasGrains s.slots vs k = st.sized k h.below in
    let size : length (volume_of vs p.volume.0).contents ≡ length (slot_at s.slots k).held = ap (λ z. length (volume_of vs z).contents) (sym h.of_volume) ∙ g.size in
    record {
      there = ap (λ z. is_there vs z) (sym h.of_volume) ∙ g.there;
      now = size ∙ sym h.nows;
      under = size ∙ sym h.unders;
    }

-- and chains that show such volumes have their grains
pub sized_from : (s : Sheet) (picture : Picture) (kept : Stored) (vs : List VolumeGrains) → IsSound s → Shows s.slots picture kept →
    ((p : PlainVolume) → Contains picture p → (is_there vs p.volume.0 ≡ true) × (length (volume_of vs p.volume.0).contents ≡ length p.under)) → AllSized s vs
sized_from s picture kept vs sound shows sized k kl =
    let live = sound.lives k kl in
    let j : ℕ = live.0 in
    let same : (slot_at s.slots j).volume ≡ (slot_at s.slots k).volume = live.3 in
    let shown : Shown s.slots picture kept j = shows.each j live.1 live.2 in
    let is = found picture (record { 0 = (slot_at s.slots j).volume }) shown.plain shown.there in
    let v : shown.plain.volume.0 ≡ (slot_at s.slots k).volume = is.1 ∙ same in
    let plain = sized shown.plain is.0 in
    record {
      there = ap (λ z. is_there vs z) (sym v) ∙ plain.0;
      size = ap (λ z. length (volume_of vs z).contents) (sym v) ∙ (plain.1 ∙ (shown.unders ∙ sound.sizes.of_volume j k live.1 kl same));
    }

-- ---- where plain volumes come from

-- the volume was there, and its second list has as many grains as one that it had
abbrev pub ComesFrom : Picture → PlainVolume → Type 0
ComesFrom picture q = (p : PlainVolume) × Contains picture p × (p.volume.0 ≡ q.volume.0) × ((length q.under ≡ length p.under) ⊎ (length q.under ≡ length p.now))

abbrev KeepsUnder : Picture → PlainVolume → Type 0
KeepsUnder picture q = (p : PlainVolume) × Contains picture p × (p.volume.0 ≡ q.volume.0) × (length q.under ≡ length p.under)

triggered_from : (old : Picture) (pairs : List Pair) (p q : PlainVolume) → after_trigger old pairs p ≡ q → (p.volume.0 ≡ q.volume.0) × ((length q.under ≡ length p.under) ⊎ (length q.under ≡ length p.now))
triggered_from old pairs p q is = by (source_in pairs p.volume) refl
  where
    by : (o : Option VolId) → source_in pairs p.volume ≡ o → (p.volume.0 ≡ q.volume.0) × ((length q.under ≡ length p.under) ⊎ (length q.under ≡ length p.now))
    by None none =
        let e : after_trigger old pairs p ≡ p = rw none refl in
        let w : p ≡ q = sym e ∙ is in
        (ap (λ (z : PlainVolume). z.volume.0) w, inl (ap (λ (z : PlainVolume). length z.under) (sym w)))
    by (Some source) some =
        let e : after_trigger old pairs p ≡ record p { now = now_in old source; under = p.now } = rw some refl in
        let w : record p { now = now_in old source; under = p.now } ≡ q = sym e ∙ is in
        (ap (λ (z : PlainVolume). z.volume.0) w, inr (ap (λ (z : PlainVolume). length z.under) (sym w)))

cut_one : (held : List Bool) (b : Bool) (p : PlainVolume) → ((cond b (cut_volume held p) p).volume.0 ≡ p.volume.0) × (length (cond b (cut_volume held p) p).under ≡ length p.under)
cut_one held true p = (refl, refl)
cut_one held false p = (refl, refl)

stays : (picture : Picture) (q : PlainVolume) → Contains picture q → KeepsUnder picture q
stays picture q c = (q, c, refl, refl)

cut_from : (slots : List Slot) (o : Option ℕ) (picture : Picture) (q : PlainVolume) → Contains (cut_at slots o picture) q → KeepsUnder picture q
cut_from slots None picture q c = stays picture q c
cut_from slots (Some k) picture q c = by (slot_at slots k).is_live refl
  where
    held : List Bool
    held = (slot_at slots k).held

    id : VolId
    id = record { 0 = (slot_at slots k).volume }

    by : (b : Bool) → (slot_at slots k).is_live ≡ b → KeepsUnder picture q
    by true live =
        let d : Contains (map (at_id id (cut_volume held)) picture) q = rw live at c in
        let m = map_from (at_id id (cut_volume held)) picture q d in
        let one = cut_one held (m.0.volume.0 == id.0) m.0 in
        (m.0, m.1, sym one.0 ∙ ap (λ (z : PlainVolume). z.volume.0) m.2, ap (λ (z : PlainVolume). length z.under) (sym m.2) ∙ one.1)
    by false old =
        let d : Contains picture q = rw old at c in
        stays picture q d

then_from : (first second : Picture) (q : PlainVolume) → ((p : PlainVolume) → Contains second p → KeepsUnder first p) → KeepsUnder second q → KeepsUnder first q
then_from first second q step k =
    let m = step k.0 k.1 in
    (m.0, m.1, m.2 ∙ k.2, k.3 ∙ m.3)

all_from : (slots : List Slot) (ms : List MapId) (picture : Picture) (q : PlainVolume) → Contains (fold (leaves slots) picture ms) q → KeepsUnder picture q
all_from slots [] picture q c = stays picture q c
all_from slots (m ∷ ms) picture q c =
    then_from picture (leaves slots picture m) q (λ p d. cut_from slots (mapping_place slots m.0) picture p d) (all_from slots ms (leaves slots picture m) q c)

so_from : (picture : Picture) (q : PlainVolume) → KeepsUnder picture q → ComesFrom picture q
so_from picture q k = (k.0, k.1, k.2, inl k.3)

-- ---- with the grains as they were

same_sized : (s : Sheet) (picture : Picture) (vs : List VolumeGrains) → Stands s picture vs → (q : PlainVolume) → ComesFrom picture q →
    (is_there vs q.volume.0 ≡ true) × (length (volume_of vs q.volume.0).contents ≡ length q.under)
same_sized s picture vs st q from =
    let p : PlainVolume = from.0 in
    let h : HasSize vs p = sized_plain s picture vs st p from.1 in
    let v : p.volume.0 ≡ q.volume.0 = from.2 in (
      ap (λ z. is_there vs z) (sym v) ∙ h.there,
      ap (λ z. length (volume_of vs z).contents) (sym v) ∙ elim from.3 [ inl e ↦ h.under ∙ sym e | inr e ↦ h.now ∙ sym e ],
    )

abbrev Sized : List VolumeGrains → PlainVolume → Type 0
Sized vs q = (is_there vs q.volume.0 ≡ true) × (length (volume_of vs q.volume.0).contents ≡ length q.under)

-- an event keeps what stands, where it stores what it should and its plain volumes have their grains
event_by : (l : LaneOf) (s : Sheet) (picture : Picture) (old new : List VolumeGrains) (e : LaneEvent) → Stands s picture old → FitsEvent s e → StoredAfter l (stored old) e (stored new) →
    ((q : PlainVolume) → Contains (picture_event l s.slots picture e) q → Sized new q) → Stands (sheet_step (grains_in l) s e) (picture_event l s.slots picture e) new
event_by l s picture old new e st fits after sized =
    let sound : IsSound (sheet_step (grains_in l) s e) = sheet_law_holds.event (grains_in l) s e st.sound fits in
    let shows = picture_law_holds.event l s picture (stored old) (stored new) e st.sound fits st.shows after in
    record {
      sound = sound;
      sized = sized_from (sheet_step (grains_in l) s e) (picture_event l s.slots picture e) (stored new) new sound shows sized;
      shows = shows;
    }

-- ---- the events

-- nothing that is stored changes, and no volume comes or goes
unchanged : (l : LaneOf) (s : Sheet) (picture : Picture) (old new : List VolumeGrains) (e : LaneEvent) → Stands s picture old → FitsEvent s e → new ≡ old →
    (((w g : ℕ) → stored new w g ≡ stored old w g) → StoredAfter l (stored old) e (stored new)) →
    ((q : PlainVolume) → Contains (picture_event l s.slots picture e) q → ComesFrom picture q) → Stands (sheet_step (grains_in l) s e) (picture_event l s.slots picture e) new
unchanged l s picture old new e st fits same after from =
    event_by l s picture old new e st fits (after (λ w g. ap (λ vs. stored vs w g) same))
    (λ q c. subst (λ (vs : List VolumeGrains). Sized vs q) (sym same) (same_sized s picture old st q (from q c)))

-- what is stored after a volume came
made_stored : (l : LaneOf) (old : List VolumeGrains) (volume : VolId) (grains : ℕ) (kind : DiskKind) (due : Option ℕ) → All (λ (v : VolumeGrains). v.volume.0 < volume.0) old →
    StoredAfter l (stored old) (Make volume grains kind) (stored (old ++ new_grains l volume grains kind due ∷ []))
made_stored l old volume grains kind due newest =
    let n : ℕ = grains_in l grains in
    let come : VolumeGrains = new_grains l volume grains kind due in
    let here : volume_of (old ++ come ∷ []) volume.0 ≡ come = push_here old come newest in (
      λ g lt. ap (λ (v : VolumeGrains). content_at v.contents g) here ∙ get_or-replicate n g (zeros l.grain) _ lt,
      λ w g ne. ap (λ (v : VolumeGrains). content_at v.contents g) (push_other old come w ne),
    )

made_stands : (l : LaneOf) (s : Sheet) (picture : Picture) (old new : List VolumeGrains) (volume : VolId) (grains : ℕ) (kind : DiskKind) → Stands s picture old → FitsEvent s (Make volume grains kind) →
    All (λ (v : VolumeGrains). v.volume.0 < volume.0) old → GrainsAfter l old (Make volume grains kind) new →
    Stands (sheet_step (grains_in l) s (Make volume grains kind)) (picture_event l s.slots picture (Make volume grains kind)) new
made_stands l s picture old new volume grains kind st fits newest (due, unarmed, is) =
    let n : ℕ = grains_in l grains in
    let come : VolumeGrains = new_grains l volume grains kind due in
    let here : volume_of (old ++ come ∷ []) volume.0 ≡ come = push_here old come newest in
    let after : StoredAfter l (stored old) (Make volume grains kind) (stored (old ++ come ∷ [])) = made_stored l old volume grains kind due newest in
    let plain : PlainVolume = record { volume = volume; now = replicate n (zeros l.grain); under = replicate n (zeros l.grain) } in
    subst (λ (vs : List VolumeGrains). Stands (sheet_step (grains_in l) s (Make volume grains kind)) (picture ++ plain ∷ []) vs) (sym is)
    (event_by l s picture old (old ++ come ∷ []) (Make volume grains kind) st fits after (λ q c. elim (pushed picture plain q c) [
      | inl d ↦
          let h : HasSize old q = sized_plain s picture old st q d in
          elim (cases_eq q.volume.0 volume.0) [
            | inl e ↦ (subst (λ (z : ℕ). is_there (old ++ come ∷ []) z ≡ true) (sym e) (push_new old come), absurd (not_newest old volume.0 newest (subst (λ (z : ℕ). is_there old z ≡ true) e h.there)))
            | inr ne ↦ (push_there old come q.volume.0 h.there, ap (λ (v : VolumeGrains). length v.contents) (push_other old come q.volume.0 ne) ∙ h.under)
          ]
      | inr e ↦ subst (λ (z : PlainVolume). Sized (old ++ come ∷ []) z) e (push_new old come, ap (λ (v : VolumeGrains). length v.contents) here)
    ]))
  where
    pushed : (xs : Picture) (x q : PlainVolume) → Contains (xs ++ x ∷ []) q → Contains xs q ⊎ (x ≡ q)
    pushed [] x q (zero, lt, e) = inr e
    pushed [] x q (suc k, lt, e) = absurd (omega arith)
    pushed (y ∷ ys) x q (zero, lt, e) = inl (zero, omega arith, e)
    pushed (y ∷ ys) x q (suc k, lt, e) = elim (pushed ys x q (k, omega arith, e)) [ inl d ↦ inl (suc d.0, omega (arith, d.1), d.2) | inr f ↦ inr f ]

    not_newest : (vs : List VolumeGrains) (id : ℕ) → All (λ (v : VolumeGrains). v.volume.0 < id) vs → is_there vs id ≡ true → ⊥
    not_newest [] id newest t = absurd (true≢false (sym t))
    not_newest (v ∷ vs) id newest t =
        let lower : v.volume.0 < id = newest 0 v (omega arith) in
        let miss : eqb v.volume.0 id ≡ false = ne_eqb v.volume.0 id (λ q. omega arith) in
        not_newest vs id (λ i d within. newest (suc i) d (omega arith)) (ap (λ b. b || is_there vs id) (sym miss) ∙ t)

removed_stands : (l : LaneOf) (s : Sheet) (picture : Picture) (old new : List VolumeGrains) (volume : VolId) → Stands s picture old → FitsEvent s (Remove volume) →
    new ≡ without volume.0 old → Stands (sheet_step (grains_in l) s (Remove volume)) (picture_event l s.slots picture (Remove volume)) new
removed_stands l s picture old new volume st fits is =
    subst (λ (vs : List VolumeGrains). Stands (sheet_step (grains_in l) s (Remove volume)) (filter (λ (v : PlainVolume). not (v.volume.0 == volume.0)) picture) vs) (sym is)
    (event_by l s picture old (without volume.0 old) (Remove volume) st fits
    (λ w g ne. ap (λ (v : VolumeGrains). content_at v.contents g) (without_other old volume.0 w ne))
    (λ q c. let d = without_from volume picture q c in
    let h : HasSize old q = sized_plain s picture old st q d.0 in
    (without_there old volume.0 q.volume.0 d.1 ∙ h.there, ap (λ (v : VolumeGrains). length v.contents) (without_other old volume.0 q.volume.0 d.1) ∙ h.under)))

armed_stands : (l : LaneOf) (s : Sheet) (picture : Picture) (old new : List VolumeGrains) (volume : VolId) (grain : GrainNo) (calls : ℕ) (b : Bool) → Stands s picture old →
    new ≡ cond b (changed volume.0 (armed calls) old) old → Stands s picture new
armed_stands l s picture old new volume grain calls false st is = subst (λ (vs : List VolumeGrains). Stands s picture vs) (sym is) st
armed_stands l s picture old new volume grain calls true st is =
    subst (λ (vs : List VolumeGrains). Stands s picture vs) (sym is)
    (event_by l s picture old (changed volume.0 (armed calls) old) (Arm volume grain calls) st tt
    (λ w g. ap (λ (cs : List Content). content_at cs g) (armed_contents old volume.0 w calls))
    (λ q c. let h : HasSize old q = sized_plain s picture old st q c in
    (armed_there old volume.0 q.volume.0 calls ∙ h.there, ap (λ (cs : List Content). length cs) (armed_contents old volume.0 q.volume.0 calls) ∙ h.under)))

pub event_stands : (l : LaneOf) (told : LaneTold) (old new : List VolumeGrains) (e : LaneEvent) → Stands told.sheet told.picture old → SameVolumes old told.volumes → FitsEvent told.sheet e → HasDisk told e →
    GrainsAfter l old e new → Stands (told_event l told e).sheet (told_event l told e).picture new
event_stands l told old new (Make volume grains kind) st same fits disk is = made_stands l told.sheet told.picture old new volume grains kind st fits (newest_of volume.0 old told.volumes same disk.1) is
event_stands l told old new (Remove volume) st same fits disk is = removed_stands l told.sheet told.picture old new volume st fits is
event_stands l told old new (Arm volume grain calls) st same fits disk is = armed_stands l told.sheet told.picture old new volume grain calls (grain.0 % l.lanes == l.lane) st is
event_stands l told old new (Trigger pairs) st same fits disk is =
    unchanged l told.sheet told.picture old new (Trigger pairs) st fits is (λ f. f) (λ q c. let m = map_from (after_trigger told.picture pairs) told.picture q c in let t = triggered_from told.picture pairs m.0 q m.2 in (m.0, m.1, t.0, t.1))
event_stands l told old new (Retire m) st same fits disk is =
    unchanged l told.sheet told.picture old new (Retire m) st fits is (λ f. f) (λ q c. so_from told.picture q (cut_from told.sheet.slots (mapping_place told.sheet.slots m.0) told.picture q c))
event_stands l told old new (Detach m) st same fits disk is =
    unchanged l told.sheet told.picture old new (Detach m) st fits is (λ f. f) (λ q c. so_from told.picture q (cut_from told.sheet.slots (mapping_place told.sheet.slots m.0) told.picture q c))
event_stands l told old new (Split m) st same fits disk is =
    unchanged l told.sheet told.picture old new (Split m) st fits is (λ f. f) (λ q c. so_from told.picture q (stays told.picture q c))
event_stands l told old new (Force m dependents) st same fits disk is =
    unchanged l told.sheet told.picture old new (Force m dependents) st fits is (λ f. f) (λ q c. so_from told.picture q (all_from told.sheet.slots (m ∷ dependents) told.picture q c))
event_stands l told old new (Drop slot) st same fits disk is =
    unchanged l told.sheet told.picture old new (Drop slot) st fits is (λ f. f) (λ q c. so_from told.picture q (stays told.picture q c))
event_stands l told old new (Forget m) st same fits disk is = subst (λ (vs : List VolumeGrains). Stands told.sheet told.picture vs) (sym is) st
event_stands l told old new (NoteCut m source target) st same fits disk is = subst (λ (vs : List VolumeGrains). Stands told.sheet told.picture vs) (sym is) st
event_stands l told old new (Access volume access) st same fits disk is = subst (λ (vs : List VolumeGrains). Stands told.sheet told.picture vs) (sym is) st
event_stands l told old new (Work m copies cleans) st same fits disk is = subst (λ (vs : List VolumeGrains). Stands told.sheet told.picture vs) (sym is) st

armed_stored : (old new : List VolumeGrains) (volume : VolId) (calls : ℕ) (b : Bool) → new ≡ cond b (changed volume.0 (armed calls) old) old → (w g : ℕ) → stored new w g ≡ stored old w g
armed_stored old new volume calls true is w g = ap (λ vs. stored vs w g) is ∙ ap (λ (cs : List Content). content_at cs g) (armed_contents old volume.0 w calls)
armed_stored old new volume calls false is w g = ap (λ vs. stored vs w g) is

still_stored : (old new : List VolumeGrains) → new ≡ old → (w g : ℕ) → stored new w g ≡ stored old w g
still_stored old new is w g = ap (λ vs. stored vs w g) is

-- what is stored after an event
pub event_stored : (l : LaneOf) (told : LaneTold) (old new : List VolumeGrains) (e : LaneEvent) → SameVolumes old told.volumes → HasDisk told e → GrainsAfter l old e new → StoredAfter l (stored old) e (stored new)
event_stored l told old new (Make volume grains kind) same disk (due, unarmed, is) =
    subst (λ (vs : List VolumeGrains). StoredAfter l (stored old) (Make volume grains kind) (stored vs)) (sym is) (made_stored l old volume grains kind due (newest_of volume.0 old told.volumes same disk.1))
event_stored l told old new (Remove volume) same disk is = λ w g ne. ap (λ vs. stored vs w g) is ∙ ap (λ (v : VolumeGrains). content_at v.contents g) (without_other old volume.0 w ne)
event_stored l told old new (Arm volume grain calls) same disk is = armed_stored old new volume calls (grain.0 % l.lanes == l.lane) is
event_stored l told old new (Trigger pairs) same disk is = still_stored old new is
event_stored l told old new (Retire m) same disk is = still_stored old new is
event_stored l told old new (Detach m) same disk is = still_stored old new is
event_stored l told old new (Split m) same disk is = still_stored old new is
event_stored l told old new (Force m dependents) same disk is = still_stored old new is
event_stored l told old new (Drop slot) same disk is = still_stored old new is
event_stored l told old new (Forget m) same disk is = still_stored old new is
event_stored l told old new (NoteCut m source target) same disk is = still_stored old new is
event_stored l told old new (Access volume access) same disk is = still_stored old new is
event_stored l told old new (Work m copies cleans) same disk is = still_stored old new is

-- chains that show what plain volumes hold after a trigger have their grains
pub trigger_sized : (told : LaneTold) (pairs : List Pair) (s : Sheet) (old new : List VolumeGrains) → Stands told.sheet told.picture old → new ≡ old → IsSound s →
    Shows s.slots (map (after_trigger told.picture pairs) told.picture) (stored new) → AllSized s new
trigger_sized told pairs s old new st is sound shows =
    sized_from s (map (after_trigger told.picture pairs) told.picture) (stored new) new sound shows
    (λ q c. let m = map_from (after_trigger told.picture pairs) told.picture q c in
    let t = triggered_from told.picture pairs m.0 q m.2 in
    subst (λ (vs : List VolumeGrains). Sized vs q) (sym is) (same_sized told.sheet told.picture old st q (m.0, m.1, t.0, t.1)))

same_kinds : (old new : List VolumeGrains) (volumes : List LaneVolume) → new ≡ old → SameVolumes old volumes → SameVolumes new volumes
same_kinds old new volumes is same = ap (map kind_of_grains) is ∙ same

armed_same : (old new : List VolumeGrains) (volumes : List LaneVolume) (volume : VolId) (calls : ℕ) (b : Bool) → new ≡ cond b (changed volume.0 (armed calls) old) old → SameVolumes old volumes → SameVolumes new volumes
armed_same old new volumes volume calls true is same = ap (map kind_of_grains) is ∙ (armed_kinds old volume.0 calls ∙ same)
armed_same old new volumes volume calls false is same = same_kinds old new volumes is same

-- the grains keep the volumes that are told
pub event_volumes : (l : LaneOf) (old new : List VolumeGrains) (volumes : List LaneVolume) (e : LaneEvent) → SameVolumes old volumes → GrainsAfter l old e new → SameVolumes new (volumes_event volumes e)
event_volumes l old new volumes (Make volume grains kind) same (due, unarmed, is) =
    ap (map kind_of_grains) is ∙ push_kinds old volumes (new_grains l volume grains kind due) (record { volume = volume; kind = kind; access = Online }) refl same
event_volumes l old new volumes (Remove volume) same is = ap (map kind_of_grains) is ∙ without_kinds old volumes volume.0 same
event_volumes l old new volumes (Arm volume grain calls) same is = armed_same old new volumes volume calls (grain.0 % l.lanes == l.lane) is same
event_volumes l old new volumes (Trigger pairs) same is = same_kinds old new volumes is same
event_volumes l old new volumes (Retire m) same is = same_kinds old new volumes is same
event_volumes l old new volumes (Detach m) same is = same_kinds old new volumes is same
event_volumes l old new volumes (Split m) same is = same_kinds old new volumes is same
event_volumes l old new volumes (Force m dependents) same is = same_kinds old new volumes is same
event_volumes l old new volumes (Drop slot) same is = same_kinds old new volumes is same
event_volumes l old new volumes (Forget m) same is = same_kinds old new volumes is same
event_volumes l old new volumes (NoteCut m source target) same is = same_kinds old new volumes is same
event_volumes l old new volumes (Access volume access) same is = same_kinds old new volumes is same ∙ sym (access_kinds volumes volume access)
event_volumes l old new volumes (Work m copies cleans) same is = same_kinds old new volumes is same
