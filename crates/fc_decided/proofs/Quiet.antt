-- Ends of copies after their slots left: they touch neither chains nor what plain volumes hold by events.
use Rattle.std.proofs.Common.{◌≡◌, ◌≢◌, ℕ, suc, ◌<◌, ◌^◌, ◌&&◌, get_or, Bool, true, false, cond, None, List, [], ◌∷◌, ◌++◌, refl, sym, ap, subst, ◌∙◌, arith, Contains, ◌⊎◌, inl, inr}
use Rattle.fc_base.specs.Sheet.{Slot, Sheet, mapping_place}
use Rattle.fc_base.specs.SheetFits.{FitsEvent, FitsEvents}
use Rattle.fc_base.specs.SheetStep.{sheet_step}
use Rattle.fc_base.specs.declared.decision.LaneEvent.{LaneEvent}
use Rattle.fc_base.specs.declared.decision.LaneEvent.TheVariants.{Forget, NoteCut, Access}
use Rattle.fc_base.specs.declared.request.Effect.TheVariants.{Cut}
use Rattle.fc_base.specs.declared.size.GrainSize.{GrainSize}
use Rattle.fc_base.specs.declared.state.MapState.{MapState}
use Rattle.fc_base.specs.declared.state.MapState.TheVariants.{Stopped}
use Rattle.fc_base.specs.declared.volume.Mapping.{Mapping}
use Rattle.fc_books.specs.Accesses.{is_idle}
use Rattle.fc_books.specs.After.{after_table_change}
use Rattle.fc_books.specs.Books.{Books, Deed, nothing, ◌then◌, all_deeds}
use Rattle.fc_books.specs.Copies.{is_whole, kept}
use Rattle.fc_books.specs.Ending.{in_state, ends_in, comes_to, goes_from, as_left, cut_of}
use Rattle.fc_books.specs.Stopping.{stops_with}
use Rattle.fc_entry.specs.Picture.{Picture}
use Rattle.fc_legal.proofs.Each.{Each, each_append}
use Rattle.fc_decided.proofs.Apart.{fold_append, sheet_through, picture_through}
use Rattle.fc_decided.proofs.Frame.{tabled}
use Rattle.fc_decided.proofs.Lists.{first_in, later_in, in_cases, none_in}
use Rattle.fc_decided.proofs.Setting.{AreOrdered}
use Rattle.fc_decided.proofs.TableSteps.{TableStep, table_none, table_then, table_apart}
use Rattle.fc_decided.proofs.Ends.{Rows, Follows, ends}
use Rattle.fc_decided.proofs.Joint.{StateSeen, Joint, joint_ended, idle_unseen}
use Rattle.fc_decided.proofs.Seen.{seen, no_place}

-- ---- events that fit, one after the other

abbrev pub FitAll : Sheet → List LaneEvent → Type 0
FitAll s [] = Unit {0}
FitAll s (e ∷ es) = FitsEvent s e × FitAll (sheet_step (λ grains. grains) s e) es

pub fit_all_append : (s : Sheet) (es fs : List LaneEvent) → FitAll s es → FitAll (sheet_through s es) fs → FitAll s (es ++ fs)
fit_all_append s [] fs first second = second
fit_all_append s (e ∷ es) fs first second = (first.0, fit_all_append (sheet_step (λ grains. grains) s e) es fs first.1 second)

pub fits_from_all : (s : Sheet) (es : List LaneEvent) → FitAll s es → (sheet_through s es).births < 2 ^ 64 → FitsEvents (λ grains. grains) s es
fits_from_all s [] fit few = few
fits_from_all s (e ∷ es) fit few = (fit.0, fits_from_all (sheet_step (λ grains. grains) s e) es fit.1 few)

-- ---- quiet events

abbrev pub IsQuiet : Sheet → LaneEvent → Type 0
IsQuiet s (Forget m) = mapping_place s.slots m.0 ≡ None
IsQuiet s (NoteCut m source target) = Unit {0}
IsQuiet s (Access volume access) = Unit {0}
IsQuiet s event = ⊥

abbrev pub AreQuiet : Sheet → List LaneEvent → Type 0
AreQuiet s es = Each (IsQuiet s) es

-- What quiet events leave.
pub record Quietly (s : Sheet) (es : List LaneEvent) : Type 0 where
  pub fit : FitAll s es
  pub sheet : sheet_through s es ≡ s
  pub picture : (grain : GrainSize) (picture : Picture) → picture_through grain s picture es ≡ picture

pub quiet : (s : Sheet) (es : List LaneEvent) → AreQuiet s es → Quietly s es
quiet s [] q = record { fit = tt; sheet = refl; picture = λ grain picture. refl }
quiet s (Forget m ∷ es) q = let r = quiet s es q.1 in record { fit = (q.0, r.fit); sheet = r.sheet; picture = r.picture }
quiet s (NoteCut m source target ∷ es) q = let r = quiet s es q.1 in record { fit = (tt, r.fit); sheet = r.sheet; picture = r.picture }
quiet s (Access volume access ∷ es) q = let r = quiet s es q.1 in record { fit = (tt, r.fit); sheet = r.sheet; picture = r.picture }
quiet s (e ∷ es) q = absurd q.0

-- ---- what stands while mappings end

pub record Standing (b : Books) (slots : List Slot) (pending : ℕ → Type 0) : Type 0 where
  pub rows : Rows b
  pub joint : Joint b.tables slots pending

-- A deed that ends mappings quietly, and leaves this.
pub record EndsQuietly (b : Books) (s : Sheet) (deed : Deed) (pending : ℕ → Type 0) : Type 0 where
  pub table : TableStep b deed.events deed.changes
  pub quiet : AreQuiet s deed.events
  pub stands : Standing (tabled b deed.changes) s.slots pending

pub nothing_ends : (b : Books) (s : Sheet) (pending : ℕ → Type 0) → Standing b s.slots pending → EndsQuietly b s nothing pending
nothing_ends b s pending st = record { table = table_none b; quiet = tt; stands = st }

pub ends_then : (b : Books) (s : Sheet) (first second : Deed) (mid last : ℕ → Type 0) → EndsQuietly b s first mid → EndsQuietly (tabled b first.changes) s second last → EndsQuietly b s (first then second) last
ends_then b s first second mid last one two =
    record {
      table = table_then b first.events second.events first.changes second.changes one.table two.table;
      quiet = each_append (IsQuiet s) first.events second.events one.quiet two.quiet;
      stands = subst (λ (x : Books). Standing x s.slots last) (sym (fold_append after_table_change b first.changes second.changes)) two.stands;
    }

-- ---- one mapping

-- One ends, and no other row changes.
pub record OneEnds (b : Books) (s : Sheet) (deed : Deed) (id : ℕ) (pending : ℕ → Type 0) : Type 0 where
  pub ends : EndsQuietly b s deed pending
  pub others : (m : Mapping) → Contains b.tables.mappings m → m.id.0 ≢ id → Contains (tabled b deed.changes).tables.mappings m
  pub from : (m : Mapping) → Contains (tabled b deed.changes).tables.mappings m → m.id.0 ≢ id → Contains b.tables.mappings m

quiet_test : (s : Sheet) (m : Mapping) (state : MapState) (goes : Bool) → (goes ≡ true → mapping_place s.slots m.id.0 ≡ None) → AreQuiet s (cond goes (goes_from state m) (comes_to state m)).events
quiet_test s m state true none = (tt, (none refl, tt))
quiet_test s m state false none = (tt, tt)

idle_by_test : (a b : Bool) → (a && b) ≡ true → b ≡ true
idle_by_test true b e = e
idle_by_test false b e = absurd cc

pub one_ends : (b : Books) (s : Sheet) (old m : Mapping) (state : MapState) (before after : ℕ → Type 0) → Standing b s.slots before → Follows b old (in_state state m) →
    StateSeen state (seen s.slots m.id.0) m.target.0 → ((n : ℕ) → n ≢ m.id.0 → before n → after n) → OneEnds b s (ends_in state m) m.id.0 after
one_ends b s old m state before after st f sees p =
    let e = ends b old m state st.rows f in
    record {
      ends = record {
        table = e.step;
        quiet = quiet_test s m state (m.autodelete && is_idle state)
            (λ t. no_place s.slots m.id.0 (idle_unseen state (seen s.slots m.id.0) m.target.0 (idle_by_test m.autodelete (is_idle state) t) sees));
        stands = record {
          rows = e.well.rows;
          joint = joint_ended b.tables (tabled b (ends_in state m).changes).tables s.slots (in_state state m) before after e.well.ended e.step.same_volumes sees p st.joint;
        };
      };
      others = e.well.ended.others;
      from = λ y found ne. elim (e.well.ended.from y found) [ inl same ↦ absurd (ne (ap (λ (x : Mapping). x.id.0) same)) | inr there ↦ there.0 ];
    }

-- before it, its target is cut
pub cut_ends : (b c : Books) (s : Sheet) (m : Mapping) (deed : Deed) (id : ℕ) (after : ℕ → Type 0) → OneEnds b s deed id after → OneEnds b s (cut_of c m then deed) id after
cut_ends b c s m deed id after o = by (is_whole c m)
  where
    by : (whole : Bool) → OneEnds b s ((cond whole nothing (record { effects = Cut m.target (kept c m) ∷ []; events = NoteCut m.id m.source m.target ∷ []; changes = [] })) then deed) id after
    by true = o
    by false =
        record {
          ends = record {
            table = table_then b (NoteCut m.id m.source m.target ∷ []) deed.events [] deed.changes (table_apart b (NoteCut m.id m.source m.target) tt) o.ends.table;
            quiet = (tt, o.ends.quiet);
            stands = o.ends.stands;
          };
          others = o.others;
          from = o.from;
        }

-- ---- dependents

pub record IsIdOf (ds : List Mapping) (n : ℕ) : Type 0 where
  pub d : Mapping
  pub among : Contains ds d
  pub is : d.id.0 ≡ n

pub rest_ordered : (d : Mapping) (ds : List Mapping) → AreOrdered (d ∷ ds) → AreOrdered ds
rest_ordered d ds o =
    record {
      rising = λ i j x ij jl. o.rising (suc i) (suc j) x (omega arith) (omega arith);
      distinct = λ i j x ij jl. o.distinct (suc i) (suc j) x (omega arith) (omega arith);
    }

pub first_apart : (d x : Mapping) (ds : List Mapping) → AreOrdered (d ∷ ds) → Contains ds x → x.id.0 ≢ d.id.0
first_apart d x ds o found e =
    let lt : d.id.0 < (get_or ds found.0 x).id.0 = o.rising 0 (suc found.0) x (omega arith) (omega (arith, found.1)) in
    let same : (get_or ds found.0 x).id.0 ≡ x.id.0 = ap (λ (y : Mapping). y.id.0) found.2 in
    omega arith

pub all_stop : (ds : List Mapping) (b c : Books) (s : Sheet) (before after : ℕ → Type 0) → Standing b s.slots before → AreOrdered ds → ((d : Mapping) → Contains ds d → Contains b.tables.mappings d) →
    ((d : Mapping) → Contains ds d → is_idle d.state ≡ false) → ((d : Mapping) → Contains ds d → seen s.slots d.id.0 ≡ None) → ((n : ℕ) → before n → IsIdOf ds n ⊎ after n) → EndsQuietly b s (all_deeds (stops_with c) ds) after
all_stop [] b c s before after st ordered there busy none p =
    record {
      table = table_none b;
      quiet = tt;
      stands = record {
        rows = st.rows;
        joint = record {
          volumes = st.joint.volumes;
          back = st.joint.back;
          owned = st.joint.owned;
          by_state = λ m found no. st.joint.by_state m found (λ y. elim (p m.id.0 y) [ inl i ↦ none_in i.d i.among | inr a ↦ no a ]);
        };
      };
    }
all_stop (d ∷ ds) b c s before after st ordered there busy none p =
    let m : Mapping = as_left c d in
    let mid : ℕ → Type 0 = λ n. IsIdOf ds n ⊎ after n in
    let f : Follows b d (in_state Stopped m) = record {
      found = there d (first_in d ds);
      id = refl;
      name = refl;
      source = refl;
      target = refl;
      incremental = refl;
      group = refl;
      state = λ e. absurd cc;
      busy = busy d (first_in d ds);
    } in
    let one = cut_ends b c s d (ends_in Stopped m) d.id.0 mid (one_ends b s d m Stopped before mid st f (none d (first_in d ds))
    (λ n ne y. elim (p n y) [
      | inl i ↦ elim (in_cases d i.d ds i.among) [
        | inl same ↦ absurd (ne (sym i.is ∙ ap (λ (x : Mapping). x.id.0) (sym same)))
        | inr later ↦ inl (record { d = i.d; among = later; is = i.is })
      ]
      | inr a ↦ inr a
    ])) in
    let rest = all_stop ds (tabled b (stops_with c d).changes) c s mid after one.ends.stands (rest_ordered d ds ordered)
    (λ x found. one.others x (there x (later_in d x ds found)) (first_apart d x ds ordered found))
    (λ x found. busy x (later_in d x ds found))
    (λ x found. none x (later_in d x ds found))
    (λ n y. y) in
    ends_then b s (stops_with c d) (all_deeds (stops_with c) ds) mid after one.ends rest
