-- Mappings are started, with those that give way or without.
use Rattle.std.proofs.Common.{◌≡◌, ◌≢◌, ℕ, ◌+◌, ◌*◌, ◌<◌, ◌≤◌, ◌^◌, Bool, List, ◌∷◌, length, map, refl, sym, ap, subst, ◌∙◌, arith, Contains}
use Rattle.std.proofs.lemmas.List.{length-map}
use Rattle.fc_base.specs.RestoreGraph.{HasNoLoop}
use Rattle.fc_base.specs.Sheet.{Sheet, shape_of}
use Rattle.fc_base.specs.SheetFits.{FitsTrigger}
use Rattle.fc_base.specs.SheetStep.{triggered}
use Rattle.fc_base.specs.declared.decision.LaneEvent.TheVariants.{Trigger}
use Rattle.fc_base.specs.declared.request.Effect.{Effect}
use Rattle.fc_base.specs.declared.request.Effect.TheVariants.{Trigger as Triggered}
use Rattle.fc_base.specs.declared.request.Pair.{Pair}
use Rattle.fc_base.specs.declared.size.GrainSize.{GrainSize}
use Rattle.fc_base.specs.declared.state.MapState.TheVariants.{Copying}
use Rattle.fc_base.specs.declared.volume.Mapping.{Mapping}
use Rattle.fc_base.specs.declared.volume.Volume.{Volume}
use Rattle.fc_books.specs.Books.{Books, Deed, all_deeds}
use Rattle.fc_books.specs.Sound.{Agree}
use Rattle.fc_books.specs.Starting.{start, triggers, begins, pair_of}
use Rattle.fc_entry.specs.Picture.{Picture}
use Rattle.fc_entry.specs.PlainStep.{after_trigger, after_effects}
use Rattle.fc_legal.specs.Stands.{ArePlain, AreFew, Stands}
use Rattle.fc_legal.specs.Whole.{Whole}
use Rattle.fc_decided.proofs.Copying.{quiet_effects, AsLarge, plain_size, plain_triggered}
use Rattle.fc_decided.proofs.Sparing.{starting}
use Rattle.fc_decided.proofs.Frame.{Suits, SuitsAs, suits_as, few_births}
use Rattle.fc_decided.proofs.Lists.{map_from}
use Rattle.fc_decided.proofs.Ordered.{one_of_id}
use Rattle.fc_decided.proofs.Plain.{effects_append}
use Rattle.fc_decided.proofs.Reaching.{volumes_through}
use Rattle.fc_decided.proofs.Receiving.{told_accesses, accesses_within, accesses_are, turned_agree, then_books, fresh}
use Rattle.fc_decided.proofs.Setting.{sets_keep, sets, set_in, tables_set, tabled_sets, fit_sets}
use Rattle.fc_decided.proofs.Triggering.{ends_of, fits_trigger, through, receives}
use Rattle.fc_decided.proofs.Turning.{CanTurn, all_restated}
use Rattle.fc_decided.proofs.Turns.{accesses_still, giving, turn_events, turn_changes, give_effects, begin_effects, accesses_sheet, accesses_picture, accesses_fit, accesses_disks, accesses_no_work, accesses_gone}

module _ (grain : GrainSize) (decisions : ℕ) (w : Whole) (maps : List Mapping) (gives restore : Bool) (small : decisions < 2 ^ 32) (st : Stands decisions w) (can : CanTurn w.books.tables maps gives)
    (apart : (m n : Mapping) → Contains maps m → Contains maps n → m.target.0 ≢ n.source.0) (no_loop : HasNoLoop (shape_of (triggered (map pair_of maps) w.books.sheet).slots)) (few_pairs : length maps ≤ 512) where
  abbrev copies : List Pair
  copies = map pair_of maps

  abbrev new_sheet : Sheet
  new_sheet = triggered copies w.books.sheet

  abbrev now_books : Books
  now_books = then_books w.books maps gives Copying restore st.sound.tables.mappings can refl

  abbrev now_new : List Mapping
  now_new = fresh w.books maps gives Copying restore st.sound.tables.mappings can refl

  fits_now : FitsTrigger w.books.sheet copies
  fits_now = fits_trigger w.books maps gives st.sound.tables st.sound.sheet st.sound.agree can apart no_loop

  births_then : new_sheet.births ≤ (decisions + 1) * 2 ^ 20
  births_then =
      let t = through w.books maps gives st.sound.tables st.sound.sheet st.sound.agree can fits_now in
      let more : new_sheet.births ≡ w.books.sheet.births + length copies = t.births in
      let n : length copies ≡ length maps = length-map maps pair_of in
      let le : w.books.sheet.births ≤ decisions * 2 ^ 20 = st.few.births in
      omega (arith, more, n, le, few_pairs)

  -- every source is as large as its target
  as_large : AsLarge w.books.tables.volumes w.picture copies
  as_large p v found there e =
      let vs = w.books.tables.volumes in
      let one : (x y : Volume) → Contains vs x → Contains vs y → x.id.0 ≡ y.id.0 → x ≡ y = λ x y a b same. one_of_id (λ (z : Volume). z.id.0) (λ (z : Volume). z.name) vs x y st.sound.tables.volumes a b same in
      let m = map_from pair_of maps p found in
      let ends = ends_of w.books maps gives st.sound.tables st.sound.sheet st.sound.agree can m.0 (can.among m.0 m.1) in
      let target : ends.target ≡ v = one ends.target v ends.target_in there (sym ends.target_id ∙ ap (λ (x : Pair). x.target.0) m.2 ∙ e) in
      plain_size vs w.picture ends.source p.source one st.plain ends.source_in (ap (λ (x : Pair). x.source.0) (sym m.2) ∙ ends.source_id)
      ∙ sym ends.as_large ∙ ap (λ (x : Volume). x.grains) target

  started_deed : List Effect → Deed
  started_deed effects = record { effects = effects; events = Trigger copies ∷ told_accesses Copying maps; changes = sets now_new }

  written_out : start gives restore w.books.tables maps ≡ started_deed (start gives restore w.books.tables maps).effects
  unfolding started_deed
  written_out = λ k. record {
    effects = (start gives restore w.books.tables maps).effects;
    events = turn_events gives (triggers maps) Copying restore w.books.tables maps k;
    changes = turn_changes gives (triggers maps) Copying restore w.books.tables maps refl k;
  }

  -- plain volumes follow
  abbrev copied : Picture
  copied = map (after_trigger w.picture copies) w.picture

  effects_are : after_effects grain w.picture (start gives restore w.books.tables maps).effects ≡ copied
  effects_are =
      effects_append grain w.picture (giving gives w.books.tables maps).effects (Triggered copies ∷ (all_deeds (begins Copying restore) maps).effects)
      ∙ ap (λ (p : Picture). after_effects grain p (Triggered copies ∷ (all_deeds (begins Copying restore) maps).effects)) (quiet_effects grain w.picture (giving gives w.books.tables maps).effects (give_effects gives w.books.tables maps))
      ∙ quiet_effects grain copied (all_deeds (begins Copying restore) maps).effects (begin_effects Copying restore maps)

  started_suits : (effects : List Effect) → after_effects grain w.picture effects ≡ copied → SuitsAs grain decisions w (started_deed effects) now_books
  unfolding started_deed
  started_suits effects are =
      let b = w.books in
      let t = st.sound.tables in
      let from = all_restated b.tables maps gives Copying restore t.mappings can refl in
      record {
        fits = (fits_now, accesses_fit Copying maps new_sheet (few_births decisions new_sheet.births small births_then));
        disks = (tt, accesses_disks Copying maps b.pools _);
        no_work = (tt, accesses_no_work Copying maps);
        gone = (tt, accesses_gone now_books.tables.mappings Copying maps);
        fit_changes = fit_sets b.tables now_new t.mappings from;
        picture = accesses_picture grain Copying maps new_sheet copied ∙ sym are;
        volumes = volumes_through b.tables now_books.tables (Trigger copies ∷ told_accesses Copying maps) (tt, accesses_within Copying maps) refl (λ v found. accesses_are b maps gives Copying restore t.mappings can refl st.sound.agree.one_busy v.id);
        later = omega arith;
        tables = tables_set b now_new t from;
        agree = subst (λ (s : Sheet). Agree (record now_books { sheet = s })) (sym (accesses_sheet Copying maps new_sheet))
            (turned_agree b maps gives Copying restore t.mappings can refl new_sheet (λ e. absurd cc) (receives b maps gives t st.sound.sheet st.sound.agree can fits_now restore) st.sound.agree);
        few = subst (λ (s : Sheet). AreFew (record now_books { sheet = s }) (decisions + 1)) (sym (accesses_sheet Copying maps new_sheet)) (record {
          volumes = omega (arith, st.few.volumes);
          mappings = omega (arith, st.few.mappings);
          groups = omega (arith, st.few.groups);
          births = births_then;
          at_once = subst (λ (n : ℕ). n ≤ 512) (sym (length-map b.tables.mappings (set_in now_new))) st.few.at_once;
          volumes_at_once = st.few.volumes_at_once;
        });
        begins = starting (λ p found. let r = map_from pair_of maps p found in (r.0, can.among r.0 r.1, r.2)) (accesses_still Copying maps);
        keeps = sets_keep b now_new (Trigger copies ∷ told_accesses Copying maps) t.mappings from;
        plain = subst (λ (p : Picture). ArePlain b.tables.volumes p) (sym are) (plain_triggered b.tables.volumes w.picture copies as_large st.plain);
      }

  pub start_suits : Suits grain decisions w (start gives restore w.books.tables maps)
  unfolding started_deed
  start_suits =
      let effects = (start gives restore w.books.tables maps).effects in
      subst (Suits grain decisions w) (sym written_out)
      (suits_as grain decisions w (started_deed effects) now_books (tabled_sets w.books now_new) (started_suits effects effects_are))
