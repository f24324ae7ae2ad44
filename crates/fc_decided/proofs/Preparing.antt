-- Mappings are prepared.
use Rattle.std.proofs.Common.{◌≡◌, ℕ, ◌+◌, ◌<◌, ◌≤◌, ◌^◌, Bool, true, List, refl, sym, subst, ◌∙◌, arith}
use Rattle.std.proofs.lemmas.List.{length-map}
use Rattle.fc_base.specs.Sheet.{Sheet}
use Rattle.fc_base.specs.declared.request.Effect.{Effect}
use Rattle.fc_base.specs.declared.size.GrainSize.{GrainSize}
use Rattle.fc_base.specs.declared.state.MapState.TheVariants.{Prepared}
use Rattle.fc_base.specs.declared.volume.Mapping.{Mapping}
use Rattle.fc_books.specs.Books.{Books, Deed, nothing, all_deeds}
use Rattle.fc_books.specs.Sound.{Agree}
use Rattle.fc_books.specs.Starting.{prepare, begins}
use Rattle.fc_entry.specs.Picture.{Picture}
use Rattle.fc_legal.proofs.Each.{each_append}
use Rattle.fc_legal.specs.Stands.{ArePlain, AreFew, Stands}
use Rattle.fc_legal.specs.Whole.{Whole}
use Rattle.fc_sheets.proofs.Finding.{mapping_place_at}
use Rattle.fc_decided.proofs.Copying.{IsQuiet, AreQuiet, quiet_effects}
use Rattle.fc_decided.proofs.Sparing.{sparing, still_sparing}
use Rattle.fc_decided.proofs.Frame.{Suits, SuitsAs, suits_as}
use Rattle.fc_decided.proofs.Reaching.{volumes_through}
use Rattle.fc_decided.proofs.Receiving.{Receives, told_accesses, accesses_within, accesses_are, turned_agree, then_books, fresh}
use Rattle.fc_decided.proofs.Resting.{births_fit}
use Rattle.fc_decided.proofs.Setting.{sets_keep, sets, set_in, tables_set, tabled_sets, fit_sets}
use Rattle.fc_decided.proofs.Triggering.{ready_no_slot}
use Rattle.fc_decided.proofs.Turning.{CanTurn, all_restated}
use Rattle.fc_decided.proofs.Turns.{accesses_still, giving, turn_events, turn_changes, give_effects, begin_effects, accesses_sheet, accesses_picture, accesses_fit, accesses_disks, accesses_no_work, accesses_gone}

module _ (grain : GrainSize) (decisions : ℕ) (w : Whole) (maps : List Mapping) (restore : Bool) (small : decisions < 2 ^ 32) (st : Stands decisions w) (can : CanTurn w.books.tables maps true) where
  abbrev now_books : Books
  now_books = then_books w.books maps true Prepared restore st.sound.tables.mappings can refl

  abbrev now_new : List Mapping
  now_new = fresh w.books maps true Prepared restore st.sound.tables.mappings can refl

  -- the chains stay
  keeps_slots : Receives w.books maps true Prepared restore st.sound.tables.mappings can refl w.books.sheet
  keeps_slots =
      let a = st.sound.agree in
      record {
        one_slot = st.sound.sheet.mappings;
        volumes = a.volumes;
        slots = a.slots;
        owned = a.owned;
        own = λ m found. ready_no_slot w.books.sheet.slots m m.state (can.ready m found) (a.by_state m (can.among m found));
        stays = λ m found out k e. (k, (mapping_place_at w.books.sheet.slots m.id.0 k e).0, refl);
        comes = λ m found out j jl e. (j, jl, e);
      }

  prepared_deed : List Effect → Deed
  prepared_deed effects = record { effects = effects; events = told_accesses Prepared maps; changes = sets now_new }

  written_out : prepare restore w.books.tables maps ≡ prepared_deed (prepare restore w.books.tables maps).effects
  unfolding prepared_deed
  written_out = λ k. record {
    effects = (prepare restore w.books.tables maps).effects;
    events = turn_events true nothing Prepared restore w.books.tables maps k;
    changes = turn_changes true nothing Prepared restore w.books.tables maps refl k;
  }

  prepared_suits : (effects : List Effect) → AreQuiet effects → SuitsAs grain decisions w (prepared_deed effects) now_books
  unfolding prepared_deed
  prepared_suits effects quiet =
      let b = w.books in
      let t = st.sound.tables in
      let from = all_restated b.tables maps true Prepared restore t.mappings can refl in
      record {
        fits = accesses_fit Prepared maps b.sheet (births_fit b decisions small st.few);
        disks = accesses_disks Prepared maps b.pools _;
        no_work = accesses_no_work Prepared maps;
        gone = accesses_gone now_books.tables.mappings Prepared maps;
        fit_changes = fit_sets b.tables now_new t.mappings from;
        picture = accesses_picture grain Prepared maps b.sheet w.picture ∙ sym (quiet_effects grain w.picture effects quiet);
        volumes = volumes_through b.tables now_books.tables (told_accesses Prepared maps) (accesses_within Prepared maps) refl (λ v found. accesses_are b maps true Prepared restore t.mappings can refl st.sound.agree.one_busy v.id);
        later = omega arith;
        tables = tables_set b now_new t from;
        agree = subst (λ (s : Sheet). Agree (record now_books { sheet = s })) (sym (accesses_sheet Prepared maps b.sheet)) (turned_agree b maps true Prepared restore t.mappings can refl b.sheet (λ e. absurd cc) keeps_slots st.sound.agree);
        few = subst (λ (s : Sheet). AreFew (record now_books { sheet = s }) (decisions + 1)) (sym (accesses_sheet Prepared maps b.sheet)) (record {
          volumes = omega (arith, st.few.volumes);
          mappings = omega (arith, st.few.mappings);
          groups = omega (arith, st.few.groups);
          births = omega (arith, st.few.births);
          at_once = subst (λ (n : ℕ). n ≤ 512) (sym (length-map b.tables.mappings (set_in now_new))) st.few.at_once;
          volumes_at_once = st.few.volumes_at_once;
        });
        begins = sparing (still_sparing b.tables (told_accesses Prepared maps) (accesses_still Prepared maps));
        keeps = sets_keep b now_new (told_accesses Prepared maps) t.mappings from;
        plain = subst (λ (p : Picture). ArePlain b.tables.volumes p) (sym (quiet_effects grain w.picture effects quiet)) st.plain;
      }

  pub prepare_suits : Suits grain decisions w (prepare restore w.books.tables maps)
  unfolding prepared_deed
  prepare_suits =
      let effects = (prepare restore w.books.tables maps).effects in
      let quiet : AreQuiet effects = each_append IsQuiet (giving true w.books.tables maps).effects (all_deeds (begins Prepared restore) maps).effects (give_effects true w.books.tables maps) (begin_effects Prepared restore maps) in
      subst (Suits grain decisions w) (sym written_out)
      (suits_as grain decisions w (prepared_deed effects) now_books (tabled_sets w.books now_new) (prepared_suits effects quiet))
