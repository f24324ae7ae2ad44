-- From what a deed does to a lawful decision: work follows, and all that nobody touched still stands.
use Rattle.std.specs.Prelude.{Bool, Option, Some, None, IsSome, ◌==◌}
use Rattle.std.proofs.lemmas.Bool.{eqb-true}
use Rattle.fc_changed.specs.Row.{Row}
use Rattle.std.proofs.Common.{◌≡◌, ℕ, ◌+◌, ◌*◌, ◌<◌, ◌≤◌, ◌^◌, List, [], ◌∷◌, ◌++◌, fold, refl, sym, ap, subst, ◌∙◌, arith, Contains}
use Rattle.std.proofs.lemmas.List.Elements.{All-contains, All-weaker}
use Rattle.fc_base.specs.declared.request.Effect.{Effect}
use Rattle.fc_base.specs.declared.volume.Change.TheVariants.{AddVolume}
use Rattle.fc_decided.proofs.Firsts.{firsts_through}
use Rattle.fc_decided.proofs.Lists.{all_from, find_from}
use Rattle.fc_decided.proofs.Following.{told_alone, sheet_led, led_fuller, all_still_picture, begun_led, led_rows, fit_begun, LedFrom}
use Rattle.fc_decided.proofs.Fuller.{AreFuller, fuller_sound, fuller_firsts, fuller_agree}
use Rattle.fc_decided.proofs.Keeping.{Keeps, keeps_more}
use Rattle.fc_decided.proofs.Noting.{HaveSizes}
use Rattle.fc_decided.proofs.Sparing.{AreSparing, AreStill, Begins, sparing, starting, still_sparing, begins_still, triggers_first}
use Rattle.fc_base.specs.Pools.{Pool}
use Rattle.fc_base.specs.Sheet.{Sheet, volume_grains, grains_at}
use Rattle.fc_base.specs.SheetFits.{FitsEvents}
use Rattle.fc_base.specs.SheetStep.{triggered}
use Rattle.fc_base.specs.Tables.{Tables, volume_with, after_change}
use Rattle.fc_base.specs.declared.decision.Decision.{Decision}
use Rattle.fc_base.specs.declared.decision.LaneEvent.{LaneEvent}
use Rattle.fc_base.specs.declared.decision.LaneEvent.TheVariants.{Trigger}
use Rattle.fc_base.specs.declared.request.Reply.{Reply}
use Rattle.fc_base.specs.declared.size.GrainSize.{GrainSize}
use Rattle.fc_base.specs.declared.volume.Change.{Change}
use Rattle.fc_base.specs.declared.volume.Mapping.{Mapping}
use Rattle.fc_base.specs.declared.volume.Volume.{Volume}
use Rattle.fc_books.specs.After.{sheet_after, flags_after, pools_after, after_table_change, after_deed, after_all}
use Rattle.fc_books.specs.Books.{Books, Deed}
use Rattle.fc_books.specs.Deciding.{with_work}
use Rattle.fc_books.specs.Sound.{AreTables, Agree, HasGrains}
use Rattle.fc_entry.specs.PlainStep.{after_effects}
use Rattle.fc_legal.proofs.Events.{rows_told, rooms_through}
use Rattle.fc_legal.specs.Lawful.{HaveDisks, FitChanges, IsLawful}
use Rattle.fc_legal.specs.Stands.{ArePlain, AreFew, Stands}
use Rattle.fc_follow.specs.Following.{followed_event, restarts}
use Rattle.fc_legal.specs.Steps.{rows_after}
use Rattle.fc_legal.specs.Whole.{Whole, single_lane, volumes_told, as_one, all_followed}
use Rattle.fc_pick.specs.declared.work.WorkFlags.{WorkFlags}
use Rattle.fc_rules.specs.LaneFits.{WorksFirst}
use Rattle.fc_rules.specs.LaneTold.{LaneVolume, LaneTold, picture_event, volumes_event}
use Rattle.fc_decided.proofs.Apart.{fold_append, sheet_through, rooms_left, picture_through, picture_append, told_apart, no_pool, flags_alike, after_apart, pools_count, fits_append, fits_end, fits_sound}
use Rattle.fc_decided.proofs.Working.{AreNoted, noted_through, AllWorkBelow, NoWork, none_below, AreGone, works_of, works_last, works_first, works_sheet, works_picture, works_volumes, works_fit, works_disks, works_below, worked, worked_among, works_are}

-- The tables after changes, with the ids that come next; and with the chains after events.
abbrev pub tabled : Books → List Change → Books
tabled b changes = fold after_table_change b changes

abbrev pub sheeted : Books → List LaneEvent → List Change → Books
sheeted b events changes = record (tabled b changes) { sheet = sheet_through b.sheet events }

-- ---- the books by their parts

tables_change : (b : Books) (c : Change) → (after_table_change b c).tables ≡ after_change b.tables c
tables_change b (AddVolume volume) = refl
tables_change b c = refl

pub tables_through : (b : Books) (changes : List Change) → (tabled b changes).tables ≡ fold after_change b.tables changes
tables_through b [] = refl
tables_through b (c ∷ cs) = tables_through (after_table_change b c) cs ∙ ap (λ (t : Tables). fold after_change t cs) (tables_change b c)

-- The chains, the flags, the pools and the rooms are the same.
record HasSame (b after : Books) : Type 0 where
  sheet : after.sheet ≡ b.sheet
  flags : after.flags ≡ b.flags
  pools : after.pools ≡ b.pools
  rooms : after.rooms ≡ b.rooms

change_same : (b : Books) (c : Change) → HasSame b (after_table_change b c)
change_same b (AddVolume volume) = record { sheet = refl; flags = refl; pools = refl; rooms = refl }
change_same b c = record { sheet = refl; flags = refl; pools = refl; rooms = refl }

tabled_same : (b : Books) (changes : List Change) → HasSame b (tabled b changes)
tabled_same b [] = record { sheet = refl; flags = refl; pools = refl; rooms = refl }
tabled_same b (c ∷ cs) =
    let first = change_same b c in
    let rest = tabled_same (after_table_change b c) cs in
    record {
      sheet = rest.sheet ∙ first.sheet;
      flags = rest.flags ∙ first.flags;
      pools = rest.pools ∙ first.pools;
      rooms = rest.rooms ∙ first.rooms;
    }

pub flags_through : (b : Books) (changes : List Change) → (tabled b changes).flags ≡ b.flags
flags_through b changes = (tabled_same b changes).flags

-- The books after changes and events, where the new slots of a trigger hold restart sets.
abbrev pub led_books : (ℕ → List Bool) → Books → List LaneEvent → List Change → Books
led_books restarts b events changes =
    record (tabled b changes) {
      sheet = fold (sheet_after restarts) b.sheet events;
      flags = fold flags_after b.flags events;
      pools = fold pools_after b.pools events;
      rooms = rooms_left b.rooms events;
    }

pub all_leave : (restarts : ℕ → List Bool) (b : Books) (events : List LaneEvent) (changes : List Change) → after_all restarts events changes b ≡ led_books restarts b events changes
all_leave restarts b events changes =
    after_apart restarts (tabled b changes) events
    ∙ (λ k. record (tabled b changes) {
      sheet = fold (sheet_after restarts) ((tabled_same b changes).sheet k) events;
      flags = fold flags_after ((tabled_same b changes).flags k) events;
      pools = fold pools_after ((tabled_same b changes).pools k) events;
      rooms = rooms_left ((tabled_same b changes).rooms k) events;
    })

-- And where nothing is triggered.
abbrev pub left_books : Books → List LaneEvent → List Change → Books
left_books b events changes =
    record (tabled b changes) {
      sheet = sheet_through b.sheet events;
      flags = fold flags_after b.flags events;
      pools = fold pools_after b.pools events;
      rooms = rooms_left b.rooms events;
    }

pub all_leave_plain : (t : Tables) (restarts : ℕ → List Bool) (b : Books) (events : List LaneEvent) (changes : List Change) → AreSparing t events → after_all restarts events changes b ≡ left_books b events changes
all_leave_plain t restarts b events changes all =
    all_leave restarts b events changes
    ∙ ap (λ (s : Sheet). record (tabled b changes) {
      sheet = s;
      flags = fold flags_after b.flags events;
      pools = fold pools_after b.pools events;
      rooms = rooms_left b.rooms events;
    }) (sheet_led t restarts b.sheet events all)

-- ---- what there is to show

-- Of the effects, events and changes of a decision.
pub record Does (grain : GrainSize) (decisions : ℕ) (w : Whole) (effects : List Effect) (events : List LaneEvent) (changes : List Change) : Type 0 where
  pub fits : FitsEvents (λ grains. grains) w.books.sheet events
  pub disks : HaveDisks w.books.pools (volumes_told w.books.tables) events
  pub works : WorksFirst events
  pub below : AllWorkBelow (tabled w.books changes).next_mapping events
  pub fit_changes : FitChanges w.books.tables changes
  pub picture : picture_through grain w.books.sheet w.picture events ≡ after_effects grain w.picture effects
  pub volumes : fold volumes_event (volumes_told w.books.tables) events ≡ volumes_told (tabled w.books changes).tables
  pub later : w.books.next_mapping ≤ (tabled w.books changes).next_mapping
  pub tables : AreTables (tabled w.books changes)
  pub agree : Agree (sheeted w.books events changes)
  pub few : AreFew (sheeted w.books events changes) (decisions + 1)
  pub plain : ArePlain (tabled w.books changes).tables.volumes (after_effects grain w.picture effects)
  pub begins : Begins w.books.tables events
  pub keeps : Keeps w.books.tables (tabled w.books changes).tables events

abbrev whole_left : GrainSize → Whole → List Effect → List Row → Books → Whole
whole_left grain w effects rows b = record w { books = b; picture = after_effects grain w.picture effects; rows = rows }

still_noted : (n m : ℕ) (rows : List WorkFlags) → n ≤ m → AreNoted n rows → AreNoted m rows
still_noted n m rows le noted = (noted.0, All-weaker (λ (row : WorkFlags). row.map.0 < n) (λ (row : WorkFlags). row.map.0 < m) (λ row lt. omega arith) rows noted.1)

-- Every mapping's target has as many grains in the chains as in the table.
have_sizes : (b : Books) → Agree b → HaveSizes b.tables b.sheet.slots
have_sizes b a m found = by (volume_with b.tables m.target) refl (a.mappings m found).target
  where
    by : (o : Option Volume) → volume_with b.tables m.target ≡ o → IsSome o → HasGrains o (volume_grains b.sheet.slots m.target.0)
    by None e some = absurd cc
    by (Some v) e some =
        let f = find_from (λ (x : Volume). m.target.0 == x.id.0) b.tables.volumes v e in
        let l = a.volumes v f.0 in
        sym (ap (volume_grains b.sheet.slots) (eqb-true m.target.0 v.id.0 f.1) ∙ ap (grains_at b.sheet.slots) l.1 ∙ l.2)

stands_after : (grain : GrainSize) (decisions : ℕ) (w : Whole) (effects : List Effect) (events : List LaneEvent) (changes : List Change) → Stands decisions w → Does grain decisions w effects events changes →
    Stands (decisions + 1) (whole_left grain w effects (rows_after w.books.sheet w.rows events) (led_books (restarts w.rows) w.books events changes))
stands_after grain decisions w effects events changes st does =
    let n = (tabled w.books changes).next_mapping in
    let noted = noted_through n w.books.flags events does.below (still_noted w.books.next_mapping n w.books.flags does.later (st.sound.flags.rising, st.sound.flags.given)) in
    let s = sheet_through w.books.sheet events in
    let t = fold (sheet_after (restarts w.rows)) w.books.sheet events in
    let f : AreFuller s t = led_fuller w.books.tables (restarts w.rows) w.books.sheet events does.begins does.fits in
    let agree = fuller_agree s t f (tabled w.books changes) does.agree in
    record {
      sound = record {
        tables = record {
          volumes = does.tables.volumes;
          mappings = does.tables.mappings;
          groups = does.tables.groups;
          new_volume = does.tables.new_volume;
          new_mapping = does.tables.new_mapping;
          new_group = does.tables.new_group;
        };
        flags = record { rising = noted.0; given = noted.1 };
        sheet = fuller_sound s t f (fits_sound (λ grains. grains) w.books.sheet events st.sound.sheet does.fits);
        agree = record {
          volumes = agree.volumes;
          slots = agree.slots;
          owned = agree.owned;
          mappings = agree.mappings;
          by_state = agree.by_state;
          one_busy = agree.one_busy;
        };
      };
      few = record {
        volumes = does.few.volumes;
        mappings = does.few.mappings;
        groups = does.few.groups;
        births = subst (λ (k : ℕ). k ≤ (decisions + 1) * 2 ^ 20) (sym f.births) does.few.births;
        at_once = does.few.at_once;
        volumes_at_once = does.few.volumes_at_once;
      };
      plain = does.plain;
      each_lane = record {
        some = st.each_lane.some;
        pools = pools_count w.books.pools events ∙ st.each_lane.pools;
        calls = st.each_lane.calls;
      };
      firsts = fuller_firsts s t f (firsts_through w.books.sheet events st.sound.sheet does.fits st.firsts);
      rows = led_rows w.books.tables (tabled w.books changes).tables (rows_after w.books.sheet w.rows events) events does.keeps
          (subst (λ (rows : List Row). LedFrom w.books.tables rows events) (rows_told grain (all_followed w) events)
          (begun_led w.books.tables grain (all_followed w) events does.begins (have_sizes w.books st.sound.agree) st.rows));
    }

-- What the lane of all grains is told.
pub record IsTold (grain : GrainSize) (w : Whole) (effects : List Effect) (events : List LaneEvent) (after : Tables) : Type 0 where
  pub picture : picture_through grain w.books.sheet w.picture events ≡ after_effects grain w.picture effects
  pub volumes : fold volumes_event (volumes_told w.books.tables) events ≡ volumes_told after

abbrev told_left : GrainSize → Whole → List Effect → List LaneEvent → Tables → LaneTold
told_left grain w effects events after =
    record {
      sheet = fold (sheet_after (restarts w.rows)) w.books.sheet events;
      picture = after_effects grain w.picture effects;
      volumes = volumes_told after;
      flags = fold flags_after w.books.flags events;
      pool = record { flat = 0; thin = 0 };
      faults = 0;
      calls = 0;
    }

told_led : (grain : GrainSize) (w : Whole) (effects : List Effect) (events : List LaneEvent) (after : Tables) → Begins w.books.tables events → IsTold grain w effects events after →
    (fold (followed_event (single_lane grain)) (all_followed w) events).told ≡ told_left grain w effects events after
told_led grain w effects es after (sparing all) does =
    told_alone w.books.tables grain (all_followed w) es all
    ∙ told_apart grain (as_one w) es
    ∙ (λ k. record {
      sheet = sym (sheet_led w.books.tables (restarts w.rows) w.books.sheet es all) k;
      picture = does.picture k;
      volumes = does.volumes k;
      flags = flags_alike w.books.flags es k;
      pool = no_pool es k;
      faults = 0;
      calls = 0;
    })
told_led grain w effects events after (starting {pairs} {rest} are still) does =
    let t = w.books.tables in
    let f = followed_event (single_lane grain) (all_followed w) (Trigger pairs) in
    let next = sheet_after (restarts w.rows) w.books.sheet (Trigger pairs) in
    let all = still_sparing t rest still in
    let copied = picture_event (single_lane grain) w.books.sheet.slots w.picture (Trigger pairs) in
    let picture : picture_through grain next copied rest ≡ after_effects grain w.picture effects =
    all_still_picture grain next copied rest still ∙ sym (all_still_picture grain (triggered pairs w.books.sheet) copied rest still) ∙ does.picture in
    told_alone t grain f rest all
    ∙ told_apart grain f.told rest
    ∙ (λ k. record {
      sheet = sym (sheet_led t (restarts w.rows) next rest all) k;
      picture = picture k;
      volumes = does.volumes k;
      flags = flags_alike w.books.flags rest k;
      pool = no_pool rest k;
      faults = 0;
      calls = 0;
    })

told_after : (grain : GrainSize) (decisions : ℕ) (w : Whole) (effects : List Effect) (events : List LaneEvent) (changes : List Change) → Does grain decisions w effects events changes →
    fold (followed_event (single_lane grain)) (all_followed w) events ≡ all_followed (whole_left grain w effects (rows_after w.books.sheet w.rows events) (led_books (restarts w.rows) w.books events changes))
told_after grain decisions w effects events changes does =
    let told = told_led grain w effects events (tabled w.books changes).tables does.begins (record { picture = does.picture; volumes = does.volumes }) in
    let rows = rows_told grain (all_followed w) events in
    let rooms = rooms_through grain (all_followed w) events in
    λ k. record { told = told k; rows = rows k; rooms = rooms k }

pub lawful_from : (grain : GrainSize) (decisions : ℕ) (w : Whole) (d : Decision) → Stands decisions w → Does grain decisions w d.effects d.events d.changes → IsLawful grain decisions w d
lawful_from grain decisions w d st does =
    let leaves = all_leave (restarts w.rows) w.books d.events d.changes in
    let rows = rows_after w.books.sheet w.rows d.events in
    record {
      events = fit_begun w.books.tables grain (all_followed w) d.events st.sound.tables.mappings does.begins (have_sizes w.books st.sound.agree) does.fits st.rows;
      disks = does.disks;
      works = does.works;
      triggers = triggers_first w.books.tables d.events does.begins;
      changes = does.fit_changes;
      told = told_after grain decisions w d.effects d.events d.changes does ∙ ap (λ (b : Books). all_followed (whole_left grain w d.effects rows b)) (sym leaves);
      stands = subst (λ (b : Books). Stands (decisions + 1) (whole_left grain w d.effects rows b)) (sym leaves) (stands_after grain decisions w d.effects d.events d.changes st does);
    }

-- ---- deeds

-- Of a deed that tells no work.
pub record Suits (grain : GrainSize) (decisions : ℕ) (w : Whole) (deed : Deed) : Type 0 where
  pub fits : FitsEvents (λ grains. grains) w.books.sheet deed.events
  pub disks : HaveDisks w.books.pools (volumes_told w.books.tables) deed.events
  pub no_work : NoWork deed.events
  pub gone : AreGone (tabled w.books deed.changes).tables.mappings deed.events
  pub fit_changes : FitChanges w.books.tables deed.changes
  pub picture : picture_through grain w.books.sheet w.picture deed.events ≡ after_effects grain w.picture deed.effects
  pub volumes : fold volumes_event (volumes_told w.books.tables) deed.events ≡ volumes_told (tabled w.books deed.changes).tables
  pub later : w.books.next_mapping ≤ (tabled w.books deed.changes).next_mapping
  pub tables : AreTables (tabled w.books deed.changes)
  pub agree : Agree (sheeted w.books deed.events deed.changes)
  pub few : AreFew (sheeted w.books deed.events deed.changes) (decisions + 1)
  pub plain : ArePlain (tabled w.books deed.changes).tables.volumes (after_effects grain w.picture deed.effects)
  pub begins : Begins w.books.tables deed.events
  pub keeps : Keeps w.books.tables (tabled w.books deed.changes).tables deed.events

-- A deed alone, as a settling.
pub does_alone : (grain : GrainSize) (decisions : ℕ) (w : Whole) (deed : Deed) → Suits grain decisions w deed → Does grain decisions w deed.effects deed.events deed.changes
does_alone grain decisions w deed s =
    record {
      fits = s.fits;
      disks = s.disks;
      works = works_first deed.events s.no_work;
      below = none_below (tabled w.books deed.changes).next_mapping deed.events s.no_work;
      fit_changes = s.fit_changes;
      picture = s.picture;
      volumes = s.volumes;
      later = s.later;
      tables = s.tables;
      agree = s.agree;
      few = s.few;
      plain = s.plain;
      begins = s.begins;
      keeps = s.keeps;
    }

works_still : (b : Books) (ms : List Mapping) → AreStill (works_of b ms)
works_still b [] = tt
works_still b (m ∷ ms) = (tt, works_still b ms)

disks_append : (b : Books) (ms : List Mapping) (pools : List Pool) (volumes : List LaneVolume) (es : List LaneEvent) → HaveDisks pools volumes es → HaveDisks pools volumes (es ++ works_of b ms)
disks_append b ms pools volumes [] have = works_disks b ms pools volumes
disks_append b ms pools volumes (e ∷ es) have = (have.0, disks_append b ms (pools_after pools e) (volumes_event volumes e) es have.1)

below_append : (n : ℕ) (es fs : List LaneEvent) → AllWorkBelow n es → AllWorkBelow n fs → AllWorkBelow n (es ++ fs)
below_append n [] fs first second = second
below_append n (e ∷ es) fs first second = (first.0, below_append n es fs first.1 second)

same_sheet : (c : Books) (ms : List Mapping) (s : Sheet) (es : List LaneEvent) → sheet_through s (es ++ works_of c ms) ≡ sheet_through s es
same_sheet c ms s es = fold_append _ s es (works_of c ms) ∙ works_sheet c ms (sheet_through s es)

-- And with the work that follows it.
pub does_with_work : (grain : GrainSize) (decisions : ℕ) (w : Whole) (deed : Deed) (c : Books) (ms : List Mapping) → Suits grain decisions w deed → ((m : Mapping) → Contains ms m → Contains (tabled w.books deed.changes).tables.mappings m) →
    Does grain decisions w deed.effects (deed.events ++ works_of c ms) deed.changes
does_with_work grain decisions w deed c ms s among =
    let works = works_of c ms in
    let n = (tabled w.books deed.changes).next_mapping in
    let same = same_sheet c ms w.books.sheet deed.events in
    record {
      fits = fits_append (λ grains. grains) w.books.sheet deed.events works s.fits (works_fit (λ grains. grains) c ms (sheet_through w.books.sheet deed.events) (fits_end (λ grains. grains) w.books.sheet deed.events s.fits));
      disks = disks_append c ms w.books.pools (volumes_told w.books.tables) deed.events s.disks;
      works = works_last (tabled w.books deed.changes).tables.mappings c deed.events ms s.no_work s.gone among;
      below = below_append n deed.events works (none_below n deed.events s.no_work)
          (works_below n c ms (all_from (λ (m : Mapping). m.id.0 < n) ms (λ m found. All-contains (λ (x : Mapping). x.id.0 < n) (tabled w.books deed.changes).tables.mappings m s.tables.new_mapping (among m found))));
      fit_changes = s.fit_changes;
      picture = picture_append grain w.books.sheet w.picture deed.events works ∙ works_picture grain c ms (sheet_through w.books.sheet deed.events) (picture_through grain w.books.sheet w.picture deed.events) ∙ s.picture;
      volumes = fold_append volumes_event (volumes_told w.books.tables) deed.events works ∙ works_volumes c ms (fold volumes_event (volumes_told w.books.tables) deed.events) ∙ s.volumes;
      later = s.later;
      tables = s.tables;
      agree = subst (λ (t : Sheet). Agree (record (tabled w.books deed.changes) { sheet = t })) (sym same) s.agree;
      few = subst (λ (t : Sheet). AreFew (record (tabled w.books deed.changes) { sheet = t }) (decisions + 1)) (sym same) s.few;
      plain = s.plain;
      begins = begins_still w.books.tables deed.events works s.begins (works_still c ms);
      keeps = keeps_more w.books.tables (tabled w.books deed.changes).tables deed.events works s.keeps;
    }

mappings_left : (restarts : ℕ → List Bool) (b : Books) (deed : Deed) → (after_deed restarts b deed).tables.mappings ≡ (tabled b deed.changes).tables.mappings
mappings_left restarts b deed = ap (λ (x : Books). x.tables.mappings) (all_leave restarts b deed.events deed.changes)

-- A command's decision, with whatever reply.
pub lawful_with_work : (grain : GrainSize) (decisions : ℕ) (w : Whole) (reply : Reply) (deed : Deed) → Stands decisions w → Suits grain decisions w deed → IsLawful grain decisions w (with_work (restarts w.rows) w.books reply deed)
lawful_with_work grain decisions w reply deed st s =
    let c = after_deed (restarts w.rows) w.books deed in
    let among : (m : Mapping) → Contains (worked c) m → Contains (tabled w.books deed.changes).tables.mappings m =
    λ m found. subst (λ (maps : List Mapping). Contains maps m) (mappings_left (restarts w.rows) w.books deed) (worked_among c m found) in
    lawful_from grain decisions w (with_work (restarts w.rows) w.books reply deed) st
    (subst (λ (works : List LaneEvent). Does grain decisions w deed.effects (deed.events ++ works) deed.changes) (sym (works_are c)) (does_with_work grain decisions w deed c (worked c) s among))

pub lawful_alone : (grain : GrainSize) (decisions : ℕ) (w : Whole) (reply : Reply) (deed : Deed) → Stands decisions w → Suits grain decisions w deed →
    IsLawful grain decisions w (record { reply = reply; effects = deed.effects; events = deed.events; changes = deed.changes })
lawful_alone grain decisions w reply deed st s =
    lawful_from grain decisions w (record { reply = reply; effects = deed.effects; events = deed.events; changes = deed.changes }) st (does_alone grain decisions w deed s)

-- The same, where the tables after the changes go by another name.
pub record SuitsAs (grain : GrainSize) (decisions : ℕ) (w : Whole) (deed : Deed) (after : Books) : Type 0 where
  pub fits : FitsEvents (λ grains. grains) w.books.sheet deed.events
  pub disks : HaveDisks w.books.pools (volumes_told w.books.tables) deed.events
  pub no_work : NoWork deed.events
  pub gone : AreGone after.tables.mappings deed.events
  pub fit_changes : FitChanges w.books.tables deed.changes
  pub picture : picture_through grain w.books.sheet w.picture deed.events ≡ after_effects grain w.picture deed.effects
  pub volumes : fold volumes_event (volumes_told w.books.tables) deed.events ≡ volumes_told after.tables
  pub later : w.books.next_mapping ≤ after.next_mapping
  pub tables : AreTables after
  pub agree : Agree (record after { sheet = sheet_through w.books.sheet deed.events })
  pub few : AreFew (record after { sheet = sheet_through w.books.sheet deed.events }) (decisions + 1)
  pub plain : ArePlain after.tables.volumes (after_effects grain w.picture deed.effects)
  pub begins : Begins w.books.tables deed.events
  pub keeps : Keeps w.books.tables after.tables deed.events

suits_same : (grain : GrainSize) (decisions : ℕ) (w : Whole) (deed : Deed) → SuitsAs grain decisions w deed (tabled w.books deed.changes) → Suits grain decisions w deed
suits_same grain decisions w deed s =
    record {
      fits = s.fits;
      disks = s.disks;
      no_work = s.no_work;
      gone = s.gone;
      fit_changes = s.fit_changes;
      picture = s.picture;
      volumes = s.volumes;
      later = s.later;
      tables = s.tables;
      agree = s.agree;
      few = s.few;
      plain = s.plain;
      begins = s.begins;
      keeps = s.keeps;
    }

pub suits_as : (grain : GrainSize) (decisions : ℕ) (w : Whole) (deed : Deed) (after : Books) → tabled w.books deed.changes ≡ after → SuitsAs grain decisions w deed after → Suits grain decisions w deed
suits_as grain decisions w deed after e s = suits_same grain decisions w deed (subst (SuitsAs grain decisions w deed) (sym e) s)

-- ---- bounds

pub few_births : (decisions n : ℕ) → decisions < 2 ^ 32 → n ≤ (decisions + 1) * 2 ^ 20 → n < 2 ^ 64
few_births decisions n few le = omega arith
