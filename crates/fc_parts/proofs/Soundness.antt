-- After an entry that is right the chains are sound.
use Rattle.std.proofs.Common.{◌≡◌, ℕ, false, cond, Option, Some, None, List, [], ◌∷◌, ◌++◌, length, map, fold, refl, sym, ap, subst, ◌∙◌, inl, inr}
use Rattle.std.proofs.lemmas.Bool.{cases_lt}
use Rattle.std.proofs.lemmas.List.{append-nil}
use Rattle.fc_base.specs.Moves.{is_in_place, fill_moves, write_moves, after_moves}
use Rattle.fc_base.specs.Sheet.{Slot, Sheet, slot_at, column, live_place}
use Rattle.fc_base.specs.SheetFacts.{IsSound}
use Rattle.fc_base.specs.SheetStep.{sheet_written, sheet_torn}
use Rattle.fc_base.specs.declared.ids.GrainNo.{GrainNo}
use Rattle.fc_base.specs.declared.ids.MapId.{MapId}
use Rattle.fc_base.specs.declared.request.Move.{Move}
use Rattle.fc_base.specs.declared.request.Reply.{Reply}
use Rattle.fc_base.specs.declared.request.Reply.TheVariants.{Done}
use Rattle.fc_base.specs.declared.request.Request.{Request}
use Rattle.fc_base.specs.declared.request.Request.TheVariants.{Read, Write, Copy, Clean}
use Rattle.fc_base.specs.declared.request.Side.{Side}
use Rattle.fc_base.specs.declared.request.Side.TheVariants.{Now, Under}
use Rattle.fc_base.specs.declared.request.Torn.{Torn}
use Rattle.fc_base.specs.declared.request.WritePart.{WritePart}
use Rattle.fc_base.specs.declared.state.Access.{Access}
use Rattle.fc_base.specs.declared.state.Access.TheVariants.{Online, Offline, NotAccessible}
use Rattle.fc_entry.specs.Picture.{grain_of_block}
use Rattle.fc_entry.specs.declared.entry.Entry.{Entry}
use Rattle.fc_pictures.specs.Law.{LosesSide}
use Rattle.fc_pictures.specs.LaneLaw.{torn_of}
use Rattle.fc_pictures.specs.StepsLaw.{sheet_after, IsLiveAt, MovesRun}
use Rattle.fc_pictures.proofs.Agreeing.{lane_law_holds}
use Rattle.fc_pictures.proofs.Fitting.{move_fits, write_fits}
use Rattle.fc_pictures.proofs.Running.{steps_law_holds}
use Rattle.fc_rules.specs.GrainAnswers.{ByAccess}
use Rattle.fc_rules.specs.LaneRight.{VolumeWrite, MappingFill, CopyAnswers, CleanAnswers, TurnAnswers, LaneAnswers, done_write}
use Rattle.fc_rules.specs.LaneTold.{LaneOf, LaneTold, place_of, lane_access, sheet_move, sheet_write, sheet_tear, sheet_entry}
use Rattle.fc_rules.specs.LaneTurn.{spot_at, copied_slot, cleaned_slot}
use Rattle.fc_rules.specs.Spot.{Spot, move_in}
use Rattle.fc_rules.specs.Steps.{DiskStep, step_of_move, own_step, reads_own}
use Rattle.fc_sheets.proofs.Finding.{live_place_at}
use Rattle.fc_sheets.proofs.Holding.{written_sound, torn_sound}
use Rattle.fc_parts.specs.Law.{IsAt}
use Rattle.fc_parts.proofs.Outcomes.{Outcome, Outcome.nothing, Outcome.stopped, Outcome.torn_move, Outcome.all_made, Outcome.torn_own, Outcome.is_written, fill_outcome, write_outcome, read_nothing}
use Rattle.fc_parts.proofs.Turns.{turn_case}
use Rattle.fc_parts.proofs.Outside.{moved_past, written_past, torn_past, IsOut, out_ends, AllOut, write_out, out_before}

-- ---- by what an entry did

-- the chains after what was done
abbrev DoneSound : LaneOf → Sheet → Option WritePart → List Move → Option Torn → Type 0
DoneSound l s write moves torn = IsSound (sheet_entry l s write moves torn)

done_as : (l : LaneOf) (s : Sheet) (write write' : Option WritePart) (moves moves' : List Move) (torn torn' : Option Torn) → write ≡ write' → moves ≡ moves' → torn ≡ torn' →
    sheet_entry l s write moves torn ≡ sheet_entry l s write' moves' torn'
done_as l s write write' moves moves' torn torn' w m t = λ i. sheet_entry l s (w i) (m i) (t i)

-- what holds of the write after the moves
record AfterMoves (l : LaneOf) (told : LaneTold) (number : ℕ) (ks : List ℕ) (owns : List DiskStep) (write : Option WritePart) : Type 0 where
  torn : (own : DiskStep) → owns ≡ own ∷ [] → IsSound (sheet_tear l (sheet_after l told number ks) (Some (torn_of (spot_at l told number) own)))
  done : (part : WritePart) → write ≡ Some part → IsSound (sheet_write l (sheet_after l told number ks) (Some part))

torn_move_sound : (l : LaneOf) (told : LaneTold) (number : ℕ) (ks done rest : List ℕ) (k : ℕ) → MovesRun l told number ks → ks ≡ done ++ k ∷ rest → is_in_place (spot_at l told number).column k ≡ false →
    IsSound (sheet_tear l (sheet_after l told number done) (Some (torn_of (spot_at l told number) (step_of_move (spot_at l told number) k))))
torn_move_sound l told number ks done rest k run split out =
    let g : ℕ = place_of l number in
    let now : Sheet = sheet_after l told number done in
    let m = run.can_move done rest k split in
    let f = move_fits now.slots k g m.safe (sym m.mark ∙ out) in
    subst (λ (v : ℕ). IsSound (sheet_torn v g Under now)) (sym m.volume) (torn_sound now (slot_at now.slots k).volume g Under (run.reached done (k ∷ rest) split).sound f.0 (λ e. f.1))

run_sound : (l : LaneOf) (told : LaneTold) (number : ℕ) (ks : List ℕ) (owns : List DiskStep) (entry : Entry) (write : Option WritePart) → IsSound told.sheet → MovesRun l told number ks →
    AfterMoves l told number ks owns write → Outcome (spot_at l told number) ks owns entry write → DoneSound l told.sheet write entry.moves entry.torn
run_sound l told number ks owns entry write sound run own (nothing m t w) = subst IsSound (sym (done_as l told.sheet write None entry.moves [] entry.torn None w m t)) sound
run_sound l told number ks owns entry write sound run own (stopped done rest k split m t w) =
    subst IsSound (sym (done_as l told.sheet write None entry.moves _ entry.torn None w m t)) (run.reached done (k ∷ rest) split).sound
run_sound l told number ks owns entry write sound run own (torn_move done rest k split m out t w) =
    subst IsSound (sym (done_as l told.sheet write None entry.moves _ entry.torn _ w m t)) (torn_move_sound l told number ks done rest k run split out)
run_sound l told number ks owns entry write sound run own (all_made m t w) =
    subst IsSound (sym (done_as l told.sheet write None entry.moves _ entry.torn None w m t)) (run.reached ks [] (sym (append-nil ks))).sound
run_sound l told number ks owns entry write sound run own (torn_own step o m t w) =
    subst IsSound (sym (done_as l told.sheet write None entry.moves _ entry.torn _ w m t)) (own.torn step o)
run_sound l told number ks owns entry write sound run own (is_written step part o m t w) =
    subst IsSound (sym (done_as l told.sheet write (Some part) entry.moves _ entry.torn None w m t)) (own.done part w)

-- ---- a fill

fill_sound : (l : LaneOf) (told : LaneTold) (m number : ℕ) (o : Option ℕ) (entry : Entry) → IsSound told.sheet →
    ((k : ℕ) → o ≡ Some k → IsLiveAt told.sheet.slots (place_of l number) k × ((column told.sheet.slots (place_of l number)).held k ≡ false)) →
    MappingFill l told m number o entry → DoneSound l told.sheet None entry.moves entry.torn
fill_sound l told m number None entry sound slot a = absurd a
fill_sound l told m number (Some k) entry sound slot a =
    let spot : Spot = spot_at l told number in
    let p = slot k refl in
    run_sound l told number (fill_moves spot.column k) [] entry None sound (steps_law_holds.fill l told number k sound p.0 p.1)
    (record { torn = λ own e. absurd cc; done = λ part e. absurd cc })
    (fill_outcome spot m k entry entry.reply a)

-- ---- a write inside its volume

side_fits : (slots : List Slot) (g t : ℕ) (side : Side) → LosesSide slots g t side → side ≡ Under → reads_own (column slots g) t ≡ false
side_fits slots g t Now own e = absurd cc
side_fits slots g t Under own e = own

own_is : (own own' : DiskStep) → own ∷ [] ≡ own' ∷ [] → own ≡ own'
own_is own own' e = cc

part_is : (part p : WritePart) (reply : Reply) → done_write (Write part) reply ≡ Some p → p ≡ part
part_is part p Done e = cc
part_is part p reply e = absurd cc

after_write_moves : (l : LaneOf) (told : LaneTold) (part : WritePart) (t : ℕ) (reply : Reply) → IsSound told.sheet → live_place told.sheet.slots part.volume.0 ≡ Some t →
    IsLiveAt told.sheet.slots (place_of l (grain_of_block l.grain part.block)) t →
    let number = grain_of_block l.grain part.block in
    AfterMoves l told number (write_moves (spot_at l told number).column t) (own_step l.grain (spot_at l told number) part t ∷ []) (done_write (Write part) reply)
after_write_moves l told part t reply sound place live =
    let number : ℕ = grain_of_block l.grain part.block in
    let g : ℕ = place_of l number in
    let spot : Spot = spot_at l told number in
    let moves : List ℕ = write_moves spot.column t in
    let now : Sheet = sheet_after l told number moves in
    let side : Side = cond (reads_own (after_moves spot.column moves) t) Now Under in
    let w = steps_law_holds.can_write l told number t sound live in
    let f = write_fits now.slots t g w.safe in
    let after : IsSound now = ((steps_law_holds.write l told number t sound live).reached moves [] (sym (append-nil moves))).sound in
    let name : (slot_at now.slots t).volume ≡ part.volume.0 = sym w.volume ∙ (live_place_at told.sheet.slots part.volume.0 t place).of_volume in
    record {
      torn = λ own e. subst (λ (z : DiskStep). IsSound (sheet_tear l now (Some (torn_of spot z)))) (own_is (own_step l.grain spot part t) own e)
          (subst (λ (v : ℕ). IsSound (sheet_torn v g side now)) (sym w.volume)
          (torn_sound now (slot_at now.slots t).volume g side after f.0 (λ u. f.1 (side_fits now.slots g t side w.side_is u))));
      done = λ p e. subst (λ (z : WritePart). IsSound (sheet_write l now (Some z))) (sym (part_is part p reply e))
          (subst (λ (v : ℕ). IsSound (sheet_written v g now)) name (written_sound now (slot_at now.slots t).volume g after f.0));
    }

write_inside : (l : LaneOf) (told : LaneTold) (part : WritePart) (t : ℕ) (entry : Entry) (reply : Reply) → IsSound told.sheet → live_place told.sheet.slots part.volume.0 ≡ Some t →
    IsLiveAt told.sheet.slots (place_of l (grain_of_block l.grain part.block)) t →
    let number = grain_of_block l.grain part.block in
    Outcome (spot_at l told number) (write_moves (spot_at l told number).column t) (own_step l.grain (spot_at l told number) part t ∷ []) entry (done_write (Write part) reply) →
    DoneSound l told.sheet (done_write (Write part) reply) entry.moves entry.torn
write_inside l told part t entry reply sound place live o =
    let number : ℕ = grain_of_block l.grain part.block in
    run_sound l told number (write_moves (spot_at l told number).column t) (own_step l.grain (spot_at l told number) part t ∷ []) entry (done_write (Write part) reply) sound
    (steps_law_holds.write l told number t sound live) (after_write_moves l told part t reply sound place live) o

-- ---- a write past its volume's end

moves_past : (l : LaneOf) (told : LaneTold) (number : ℕ) (ks : List ℕ) → IsSound told.sheet → AllOut told.sheet.slots (place_of l number) ks → sheet_after l told number ks ≡ told.sheet
moves_past l told number [] sound out = refl
moves_past l told number (k ∷ ks) sound out =
    let spot : Spot = spot_at l told number in
    let first : sheet_move l told.sheet (move_in spot k) ≡ told.sheet =
    moved_past (slot_at told.sheet.slots k).volume (place_of l number) (move_in spot k).in_place told.sheet (out_ends told.sheet.slots sound.sizes (place_of l number) k (slot_at told.sheet.slots k).volume out.0 refl) in
    ap (λ (s : Sheet). fold (sheet_move l) s (map (move_in spot) ks)) first ∙ moves_past l told number ks sound out.1

torn_at_past : (l : LaneOf) (told : LaneTold) (number k : ℕ) (side : Side) (now : Sheet) → IsSound told.sheet → IsOut told.sheet.slots (place_of l number) k → now ≡ told.sheet →
    IsSound (sheet_torn (slot_at told.sheet.slots k).volume (place_of l number) side now)
torn_at_past l told number k side now sound out e =
    let v : ℕ = (slot_at told.sheet.slots k).volume in
    subst (λ (s : Sheet). IsSound (sheet_torn v (place_of l number) side s)) (sym e)
    (subst IsSound (sym (torn_past v (place_of l number) side told.sheet (out_ends told.sheet.slots sound.sizes (place_of l number) k v out refl))) sound)

past_sound : (l : LaneOf) (told : LaneTold) (part : WritePart) (t : ℕ) (entry : Entry) (reply : Reply) → IsSound told.sheet → live_place told.sheet.slots part.volume.0 ≡ Some t →
    let number = grain_of_block l.grain part.block in
    let ks = write_moves (spot_at l told number).column t in
    IsOut told.sheet.slots (place_of l number) t → AllOut told.sheet.slots (place_of l number) ks →
    Outcome (spot_at l told number) ks (own_step l.grain (spot_at l told number) part t ∷ []) entry (done_write (Write part) reply) →
    DoneSound l told.sheet (done_write (Write part) reply) entry.moves entry.torn
past_sound l told part t entry reply sound place out all (nothing m e w) = subst IsSound (sym (done_as l told.sheet _ None entry.moves [] entry.torn None w m e)) sound
past_sound l told part t entry reply sound place out all (stopped done rest k split m e w) =
    let number : ℕ = grain_of_block l.grain part.block in
    let b = out_before told.sheet.slots (place_of l number) done rest k (subst (λ (z : List ℕ). AllOut told.sheet.slots (place_of l number) z) split all) in
    subst IsSound (sym (done_as l told.sheet _ None entry.moves _ entry.torn None w m e ∙ moves_past l told number done sound b.0)) sound
past_sound l told part t entry reply sound place out all (torn_move done rest k split m in_place e w) =
    let number : ℕ = grain_of_block l.grain part.block in
    let b = out_before told.sheet.slots (place_of l number) done rest k (subst (λ (z : List ℕ). AllOut told.sheet.slots (place_of l number) z) split all) in
    subst IsSound (sym (done_as l told.sheet _ None entry.moves _ entry.torn _ w m e))
    (torn_at_past l told number k Under (sheet_after l told number done) sound b.1 (moves_past l told number done sound b.0))
past_sound l told part t entry reply sound place out all (all_made m e w) =
    let number : ℕ = grain_of_block l.grain part.block in
    subst IsSound (sym (done_as l told.sheet _ None entry.moves _ entry.torn None w m e ∙ moves_past l told number _ sound all)) sound
past_sound l told part t entry reply sound place out all (torn_own step o m e w) =
    let number : ℕ = grain_of_block l.grain part.block in
    let spot : Spot = spot_at l told number in
    let now : Sheet = sheet_after l told number (write_moves spot.column t) in
    subst IsSound (sym (done_as l told.sheet _ None entry.moves _ entry.torn _ w m e))
    (subst (λ (z : DiskStep). IsSound (sheet_tear l now (Some (torn_of spot z)))) (own_is (own_step l.grain spot part t) step o)
    (torn_at_past l told number t (own_step l.grain spot part t).side now sound out (moves_past l told number _ sound all)))
past_sound l told part t entry reply sound place out all (is_written step p o m e w) =
    let number : ℕ = grain_of_block l.grain part.block in
    let g : ℕ = place_of l number in
    let name : part.volume.0 ≡ (slot_at told.sheet.slots t).volume = sym (live_place_at told.sheet.slots part.volume.0 t place).of_volume in
    subst IsSound (sym (done_as l told.sheet _ (Some p) entry.moves _ entry.torn None w m e))
    (subst (λ (z : WritePart). IsSound (sheet_write l (sheet_after l told number (write_moves (spot_at l told number).column t)) (Some z))) (sym (part_is part p reply w))
    (subst (λ (s : Sheet). IsSound (sheet_written part.volume.0 g s)) (sym (moves_past l told number _ sound all))
    (subst IsSound (sym (written_past part.volume.0 g told.sheet (out_ends told.sheet.slots sound.sizes g t part.volume.0 out name))) sound)))

-- ---- any write

write_sound : (l : LaneOf) (told : LaneTold) (part : WritePart) (o : Option ℕ) (entry : Entry) → IsSound told.sheet → live_place told.sheet.slots part.volume.0 ≡ o →
    VolumeWrite l told part o entry → DoneSound l told.sheet (done_write (Write part) entry.reply) entry.moves entry.torn
write_sound l told part None entry sound place a = absurd a
write_sound l told part (Some t) entry sound place a =
    let number : ℕ = grain_of_block l.grain part.block in
    let g : ℕ = place_of l number in
    let p = live_place_at told.sheet.slots part.volume.0 t place in
    let o = write_outcome l.grain (spot_at l told number) part t entry entry.reply a in
    elim (cases_lt g (length (slot_at told.sheet.slots t).held)) [
      | inl lt ↦ write_inside l told part t entry entry.reply sound place (record { there = p.there; is_live = p.is_live; inside = lt }) o
      | inr le ↦ past_sound l told part t entry entry.reply sound place (p.there, le) (write_out told.sheet sound g t p.is_live (p.there, le)) o
    ]

-- ---- any entry at a grain

nothing_sound : (l : LaneOf) (s : Sheet) (write : Option WritePart) (entry : Entry) → IsSound s → write ≡ None → entry.moves ≡ [] → entry.torn ≡ None → DoneSound l s write entry.moves entry.torn
nothing_sound l s write entry sound w m t = subst IsSound (sym (done_as l s write None entry.moves [] entry.torn None w m t)) sound

access_sound : (l : LaneOf) (s : Sheet) (write : Option WritePart) (access : Access) (entry : Entry) (P : Type 0) → IsSound s → (P → DoneSound l s write entry.moves entry.torn) →
    ((entry.reply ≡ Done → ⊥) → write ≡ None) → ByAccess access entry P → DoneSound l s write entry.moves entry.torn
access_sound l s write Online entry P sound f none a = f a
access_sound l s write (Offline map state) entry P sound f none a = nothing_sound l s write entry sound (none (λ d. let q : Done ≡ Reply.Offline map state = sym d ∙ a.0 in cc)) a.1.moves a.1.untorn
access_sound l s write (NotAccessible map) entry P sound f none a = nothing_sound l s write entry sound (none (λ d. let q : Done ≡ Reply.NotAccessible map = sym d ∙ a.0 in cc)) a.1.moves a.1.untorn

not_done : (part : WritePart) (reply : Reply) → (reply ≡ Done → ⊥) → done_write (Write part) reply ≡ None
not_done part Done n = absurd (n refl)
not_done part reply n = refl

copy_sound : (l : LaneOf) (told : LaneTold) (m : MapId) (g : GrainNo) (entry : Entry) → IsSound told.sheet → CopyAnswers l told m g entry → DoneSound l told.sheet None entry.moves entry.torn
copy_sound l told m g entry sound a =
    fill_sound l told m.0 g.0 (copied_slot told.sheet.slots m.0 (place_of l g.0)) entry sound (λ k e. lane_law_holds.copy_slot told.sheet.slots m.0 (place_of l g.0) k e) a

clean_sound : (l : LaneOf) (told : LaneTold) (m : MapId) (g : GrainNo) (entry : Entry) → IsSound told.sheet → CleanAnswers l told m g entry → DoneSound l told.sheet None entry.moves entry.torn
clean_sound l told m g entry sound a =
    fill_sound l told m.0 g.0 (cleaned_slot told.sheet.slots m.0 (place_of l g.0)) entry sound (λ k e. lane_law_holds.clean_slot told.sheet.slots m.0 (place_of l g.0) k sound.sizes e) a

-- A worker's turn fills a grain as such a copy or cleaning does, or does nothing.
turn_sound : (l : LaneOf) (told : LaneTold) (Answers : MapId → GrainNo → Entry → Type 0) (work : Option (MapId × GrainNo)) (entry : Entry) → IsSound told.sheet →
    ((m : MapId) (g : GrainNo) → Answers m g entry → DoneSound l told.sheet None entry.moves entry.torn) → TurnAnswers Answers work entry → DoneSound l told.sheet None entry.moves entry.torn
turn_sound l told Answers work entry sound fills a =
    turn_case Answers work entry _ (λ n. nothing_sound l told.sheet None entry sound refl n.moves n.untorn) (λ chosen e answers. fills chosen.0 chosen.1 answers) a

pub copy_turn_sound : (l : LaneOf) (told : LaneTold) (work : Option (MapId × GrainNo)) (entry : Entry) → IsSound told.sheet → TurnAnswers (CopyAnswers l told) work entry → DoneSound l told.sheet None entry.moves entry.torn
copy_turn_sound l told work entry sound a = turn_sound l told (CopyAnswers l told) work entry sound (λ m g answers. copy_sound l told m g entry sound answers) a

pub clean_turn_sound : (l : LaneOf) (told : LaneTold) (work : Option (MapId × GrainNo)) (entry : Entry) → IsSound told.sheet → TurnAnswers (CleanAnswers l told) work entry → DoneSound l told.sheet None entry.moves entry.torn
clean_turn_sound l told work entry sound a = turn_sound l told (CleanAnswers l told) work entry sound (λ m g answers. clean_sound l told m g entry sound answers) a

pub entry_sound : (l : LaneOf) (told : LaneTold) (number : ℕ) (request : Request) (entry : Entry) → IsSound told.sheet → IsAt l.grain number request → LaneAnswers l told request entry →
    DoneSound l told.sheet (done_write request entry.reply) entry.moves entry.torn
entry_sound l told number (Read part) entry sound at a =
    access_sound l told.sheet None (lane_access told.volumes part.volume) entry _ sound
    (λ r. let n = read_nothing l.grain (spot_at l told (grain_of_block l.grain part.block)) part entry entry.reply r in nothing_sound l told.sheet None entry sound refl n.0 n.1)
    (λ n. refl) a
entry_sound l told number (Write part) entry sound at a =
    access_sound l told.sheet (done_write (Write part) entry.reply) (lane_access told.volumes part.volume) entry _ sound
    (write_sound l told part (live_place told.sheet.slots part.volume.0) entry sound refl)
    (not_done part entry.reply) a
entry_sound l told number (Copy m g) entry sound at a = copy_sound l told m g entry sound a
entry_sound l told number (Clean m g) entry sound at a = clean_sound l told m g entry sound a
entry_sound l told number request entry sound at a = absurd at
