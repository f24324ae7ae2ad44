-- What deeds that make and remove no volume do to the tables, one after the other.
use Rattle.std.proofs.Common.{◌≡◌, ◌≤◌, List, [], ◌∷◌, ◌++◌, length, fold, refl, sym, ap, subst, ◌∙◌, arith, Contains}
use Rattle.fc_base.specs.Tables.{Tables}
use Rattle.fc_base.specs.declared.decision.LaneEvent.{LaneEvent}
use Rattle.fc_base.specs.declared.decision.LaneEvent.TheVariants.{Make, Remove, Trigger, Forget, Access, Work}
use Rattle.fc_base.specs.declared.volume.Change.{Change}
use Rattle.fc_base.specs.declared.volume.Mapping.{Mapping}
use Rattle.fc_base.specs.Pools.{Pool}
use Rattle.fc_books.specs.After.{after_table_change}
use Rattle.fc_books.specs.Books.{Books}
use Rattle.fc_legal.proofs.Each.{Each, each_append}
use Rattle.fc_legal.specs.Lawful.{HaveDisks, FitChanges}
use Rattle.fc_legal.specs.Whole.{volumes_told}
use Rattle.fc_rules.specs.LaneTold.{LaneVolume, volumes_event}
use Rattle.fc_decided.proofs.Apart.{fold_append}
use Rattle.fc_decided.proofs.Frame.{tabled, tables_through}
use Rattle.fc_decided.proofs.Keeping.{Stay, stay_all, stay_then}
use Rattle.fc_decided.proofs.Setting.{fit_append}
use Rattle.fc_decided.proofs.Sparing.{Spares, AreSparing}
use Rattle.fc_decided.proofs.Working.{NoWork, IsGone, AreGone}

-- ---- events that are about no whole volume and no work, and trigger nothing

abbrev pub IsCalm : LaneEvent → Type 0
IsCalm (Make volume grains kind) = ⊥
IsCalm (Remove volume) = ⊥
IsCalm (Trigger pairs) = ⊥
IsCalm (Work m copies cleans) = ⊥
IsCalm event = Unit {0}

abbrev pub AreCalm : List LaneEvent → Type 0
AreCalm es = Each IsCalm es

pub calm_disks : (pools : List Pool) (volumes : List LaneVolume) (es : List LaneEvent) → AreCalm es → HaveDisks pools volumes es
calm_disks pools volumes [] calm = tt
calm_disks pools volumes (Make volume grains kind ∷ es) calm = absurd calm.0
calm_disks pools volumes (Remove volume ∷ es) calm = absurd calm.0
calm_disks pools volumes (Work m copies cleans ∷ es) calm = absurd calm.0
calm_disks pools volumes (Trigger pairs ∷ es) calm = absurd calm.0
calm_disks pools volumes (Access volume access ∷ es) calm = (tt, calm_disks pools (volumes_event volumes (Access volume access)) es calm.1)
calm_disks pools volumes (e ∷ es) calm = (tt, calm_disks pools volumes es calm.1)

pub calm_no_work : (es : List LaneEvent) → AreCalm es → NoWork es
calm_no_work [] calm = tt
calm_no_work (Make volume grains kind ∷ es) calm = absurd calm.0
calm_no_work (Remove volume ∷ es) calm = absurd calm.0
calm_no_work (Work m copies cleans ∷ es) calm = absurd calm.0
calm_no_work (Trigger pairs ∷ es) calm = absurd calm.0
calm_no_work (e ∷ es) calm = (tt, calm_no_work es calm.1)

calm_spares : (t : Tables) (e : LaneEvent) → IsCalm e → Spares t e
calm_spares t (Make volume grains kind) calm = absurd calm
calm_spares t (Remove volume) calm = absurd calm
calm_spares t (Trigger pairs) calm = absurd calm
calm_spares t (Work m copies cleans) calm = absurd calm
calm_spares t e calm = tt

pub calm_sparing : (t : Tables) (es : List LaneEvent) → AreCalm es → AreSparing t es
calm_sparing t [] calm = tt
calm_sparing t (e ∷ es) calm = (calm_spares t e calm.0, calm_sparing t es calm.1)

-- ---- what is gone stays gone

AreAmong : List Mapping → List Mapping → Type 0
AreAmong old new = (m : Mapping) → Contains new m → (n : Mapping) × Contains old n × (n.id.0 ≡ m.id.0)

still_gone : (old new : List Mapping) (e : LaneEvent) → AreAmong old new → IsGone old e → IsGone new e
unfolding AreAmong
still_gone old new (Forget m) among gone = λ n found e. let x = among n found in gone x.0 x.1 (x.2 ∙ e)
still_gone old new e among gone = tt

all_still_gone : (old new : List Mapping) (es : List LaneEvent) → AreAmong old new → AreGone old es → AreGone new es
all_still_gone old new [] among gone = tt
all_still_gone old new (e ∷ es) among gone = (still_gone old new e among gone.0, all_still_gone old new es among gone.1)

-- ---- steps

pub record TableStep (b : Books) (events : List LaneEvent) (changes : List Change) : Type 0 where
  pub calm : AreCalm events
  pub gone : AreGone (tabled b changes).tables.mappings events
  pub ids : (m : Mapping) → Contains (tabled b changes).tables.mappings m → (n : Mapping) × Contains b.tables.mappings n × (n.id.0 ≡ m.id.0)
  pub stay : Stay b.tables.mappings (tabled b changes).tables.mappings events
  pub fit_changes : FitChanges b.tables changes
  pub volumes : fold volumes_event (volumes_told b.tables) events ≡ volumes_told (tabled b changes).tables
  pub same_volumes : (tabled b changes).tables.volumes ≡ b.tables.volumes
  pub next_volume : (tabled b changes).next_volume ≡ b.next_volume
  pub next_mapping : (tabled b changes).next_mapping ≡ b.next_mapping
  pub next_group : (tabled b changes).next_group ≡ b.next_group
  pub fewer : length (tabled b changes).tables.mappings ≤ length b.tables.mappings

pub table_none : (b : Books) → TableStep b [] []
table_none b =
    record {
      calm = tt;
      gone = tt;
      ids = λ m found. (m, found, refl);
      stay = stay_all b.tables.mappings [];
      fit_changes = tt;
      volumes = refl;
      same_volumes = refl;
      next_volume = refl;
      next_mapping = refl;
      next_group = refl;
      fewer = omega arith;
    }

then_by : (b : Books) (es fs : List LaneEvent) (cs ds : List Change) (all : Books) → tabled b (cs ++ ds) ≡ all → tabled (tabled b cs) ds ≡ all → TableStep b es cs → TableStep (tabled b cs) fs ds →
    TableStep b (es ++ fs) (cs ++ ds)
unfolding AreAmong
then_by b es fs cs ds all e f first second =
    let same : tabled (tabled b cs) ds ≡ tabled b (cs ++ ds) = f ∙ sym e in
    let few : length (tabled (tabled b cs) ds).tables.mappings ≤ length (tabled b cs).tables.mappings = second.fewer in
    let few' : length (tabled b cs).tables.mappings ≤ length b.tables.mappings = first.fewer in
    let few'' : length (tabled b (cs ++ ds)).tables.mappings ≡ length (tabled (tabled b cs) ds).tables.mappings = ap (λ (x : Books). length x.tables.mappings) (sym same) in
    record {
      calm = each_append IsCalm es fs first.calm second.calm;
      gone = subst (λ (x : Books). AreGone x.tables.mappings (es ++ fs)) same
          (each_append (IsGone (tabled (tabled b cs) ds).tables.mappings) es fs
          (all_still_gone (tabled b cs).tables.mappings (tabled (tabled b cs) ds).tables.mappings es second.ids first.gone)
          second.gone);
      ids = λ m found.
          let x = second.ids m (subst (λ (y : Books). Contains y.tables.mappings m) (sym same) found) in
          let y = first.ids x.0 x.1 in
          (y.0, y.1, y.2 ∙ x.2);
      stay = subst (λ (x : Books). Stay b.tables.mappings x.tables.mappings (es ++ fs)) same
          (stay_then b.tables.mappings (tabled b cs).tables.mappings (tabled (tabled b cs) ds).tables.mappings es fs first.stay second.stay);
      fit_changes = fit_append b.tables cs ds first.fit_changes (subst (λ (t : Tables). FitChanges t ds) (tables_through b cs) second.fit_changes);
      volumes = fold_append volumes_event (volumes_told b.tables) es fs
          ∙ ap (λ z. fold volumes_event z fs) first.volumes
          ∙ second.volumes
          ∙ ap (λ (x : Books). volumes_told x.tables) same;
      same_volumes = ap (λ (x : Books). x.tables.volumes) (sym same) ∙ second.same_volumes ∙ first.same_volumes;
      next_volume = ap (λ (x : Books). x.next_volume) (sym same) ∙ second.next_volume ∙ first.next_volume;
      next_mapping = ap (λ (x : Books). x.next_mapping) (sym same) ∙ second.next_mapping ∙ first.next_mapping;
      next_group = ap (λ (x : Books). x.next_group) (sym same) ∙ second.next_group ∙ first.next_group;
      fewer = omega arith;
    }

pub table_then : (b : Books) (es fs : List LaneEvent) (cs ds : List Change) → TableStep b es cs → TableStep (tabled b cs) fs ds → TableStep b (es ++ fs) (cs ++ ds)
table_then b es fs cs ds first second = then_by b es fs cs ds (tabled b (cs ++ ds)) refl (sym (fold_append after_table_change b cs ds)) first second

-- An event that neither goes nor tells how a volume is reached changes no table.
abbrev pub IsApart : LaneEvent → Type 0
IsApart (Forget m) = ⊥
IsApart (Access volume access) = ⊥
IsApart event = IsCalm event

apart_is : (maps : List Mapping) (told : List LaneVolume) (e : LaneEvent) → IsApart e → IsCalm e × IsGone maps e × (volumes_event told e ≡ told)
apart_is maps told (Make volume grains kind) apart = absurd apart
apart_is maps told (Remove volume) apart = absurd apart
apart_is maps told (Work m copies cleans) apart = absurd apart
apart_is maps told (Forget m) apart = absurd apart
apart_is maps told (Access volume access) apart = absurd apart
apart_is maps told (Trigger pairs) apart = absurd apart
apart_is maps told e apart = (tt, tt, refl)

pub table_apart : (b : Books) (e : LaneEvent) → IsApart e → TableStep b (e ∷ []) []
table_apart b e apart =
    let is = apart_is b.tables.mappings (volumes_told b.tables) e apart in
    record {
      calm = (is.0, tt);
      gone = (is.1, tt);
      ids = λ m found. (m, found, refl);
      stay = stay_all b.tables.mappings (e ∷ []);
      fit_changes = tt;
      volumes = is.2;
      same_volumes = refl;
      next_volume = refl;
      next_mapping = refl;
      next_group = refl;
      fewer = omega arith;
    }
