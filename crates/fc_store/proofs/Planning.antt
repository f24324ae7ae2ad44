-- What the control part decides by the chains of the lanes is decided of what the store stands for.
use Rattle.std.proofs.Common.{◌≡◌, ℕ, ◌+◌, ◌<◌, ◌≤◌, List, length, find, Contains, Option, Some, None, Result, Ok, Err, IfOk, IsTrue, refl, sym, ◌∙◌, ap, subst, arith}
use Rattle.std.proofs.lemmas.Bool.{eqb-true}
use Rattle.std.specs.Option.{option_map_or}
use Rattle.fc_base.specs.Pools.{Pool}
use Rattle.fc_base.specs.SheetView.{SheetView}
use Rattle.fc_base.specs.Tables.{volume_with}
use Rattle.fc_base.specs.declared.volume.Mapping.{Mapping}
use Rattle.fc_base.specs.declared.volume.Volume.{Volume}
use Rattle.fc_base.specs.declared.command.Command.{Command}
use Rattle.fc_base.specs.declared.command.Command.TheVariants.{Read as ReadLine, Write as WriteLine, Mkpreset}
use Rattle.fc_base.specs.declared.decision.Decision.{Decision}
use Rattle.fc_base.specs.declared.ids.VolId.{VolId}
use Rattle.fc_base.specs.declared.outcome.NoMemory.{NoMemory}
use Rattle.fc_books.specs.Books.{Books}
use Rattle.fc_books.specs.Copies.{total}
use Rattle.fc_books.specs.Deciding.{IsLoopOf, settle, decide}
use Rattle.fc_books.specs.Sound.{AreSound, HasGrains}
use Rattle.fc_changed.specs.Row.{Row, is_of, row_restart}
use Rattle.fc_control.specs.Control.{ControlState, books_of}
use Rattle.fc_control.specs.Dispatch.{is_decided}
use Rattle.fc_control.specs.Starts.{HaveRoom}
use Rattle.fc_decided.proofs.Lists.{find_from}
use Rattle.fc_decided.proofs.Ordered.{one_of_id}
use Rattle.fc_follow.specs.Following.{restarts}
use Rattle.fc_legal.specs.Stands.{AreRows, IsOfMapping}
use Rattle.fc_legal.specs.Steps.{after_settling}
use Rattle.fc_legal.specs.Whole.{Whole}
use Rattle.fc_lane_sheet.specs.LaneSheet.{view_of}
use Rattle.fc_stands.specs.Phase.{StandsAt, IsDecided}
use Rattle.fc_stands.specs.Settling.{IsSettling, CanDecide, IsDecisionOn}
use Rattle.fc_stands.specs.Store.{StoreView}
use Rattle.fc_stands.proofs.CommandSheet.{books_seen, view_is}
use Rattle.fc_stands.proofs.PhaseStands.{view_in, books_are}
use Rattle.fc_stands.proofs.Restarts.{of_found}

-- ---- room in the copy

as_large : (n : ℕ) (o : Option Volume) → HasGrains o n → n ≤ option_map_or (λ (v : Volume). v.grains) o 0
as_large n None size = absurd size
as_large n (Some v) size = omega (arith, size)

room_found : (b : Books) (rows : List Row) (m : Mapping) → AreSound b → AreRows b.tables rows → Contains b.tables.mappings m → (o : Option Row) → find (is_of m.id.0) rows ≡ o →
    length (row_restart o) ≤ total b m
room_found b rows m sound are there None e = omega arith
room_found b rows m sound are there (Some row) e =
    let is : IsOfMapping b.tables row = of_found b.tables rows m.id.0 row are e in
    let named : m.id.0 ≡ row.map = eqb-true m.id.0 row.map (find_from (is_of m.id.0) rows row e).1 in
    let same : is.mapping ≡ m =
    one_of_id (λ (x : Mapping). x.id.0) (λ (x : Mapping). x.name) b.tables.mappings is.mapping m sound.tables.mappings is.there there (is.id_is ∙ sym named) in
    let size : HasGrains (volume_with b.tables m.target) (length row.same) = subst (λ (x : Mapping). HasGrains (volume_with b.tables x.target) (length row.same)) same is.size in
    as_large (length row.same) (volume_with b.tables m.target) size

pub have_room : (b : Books) (rows : List Row) → AreSound b → AreRows b.tables rows → HaveRoom b (restarts rows)
have_room b rows sound are m there = room_found b rows m sound are there (find (is_of m.id.0) rows) refl

-- ---- the decisions

pub settling_seen : (result : Result Decision NoMemory) (s : StoreView) (c : ControlState) (m : SheetView) → c ≡ s.control → m ≡ view_of s.lanes →
    IfOk result (λ d. d ≡ settle (books_of c m)) → IfOk result (λ d. IsSettling s d)
settling_seen (Ok d) s c m control view same = λ decisions w stands. same ∙ ap settle ((λ k. books_of (control k) (view k)) ∙ books_seen decisions s w stands)
settling_seen (Err error) s c m control view same = tt

-- What the decision needs of the control part and the chains.
pub record MayDecide (c : ControlState) (m : SheetView) : Type 0 where
  pub sound : AreSound (books_of c m)
  pub lanes : 0 < length m.pools
  pub room : HaveRoom (books_of c m) m.restarts

may_decide_here : (s : StoreView) → CanDecide s → MayDecide s.control (view_of s.lanes)
may_decide_here s can =
    let w : Whole = after_settling s.control.grain can.1 in
    let stands : StandsAt (can.0 + 1) s w = can.2.now in
    let same : books_of s.control (view_of s.lanes) ≡ w.books = books_seen (can.0 + 1) s w stands in
    let Room : SheetView → Type 0 = λ m. HaveRoom (books_of s.control m) m.restarts in
    let here : Room (view_in w) =
    subst (λ (b : Books). HaveRoom b (view_in w).restarts) (sym (books_are s.control w stands.control)) (have_room w.books w.rows stands.stands.sound stands.stands.rows) in
    record {
      sound = subst (λ (b : Books). AreSound b) (sym same) stands.stands.sound;
      lanes = subst (λ (pools : List Pool). 0 < length pools) (sym (ap (λ (b : Books). b.pools) same)) (omega (arith, stands.stands.each_lane.some, stands.stands.each_lane.pools));
      room = subst Room (sym (view_is (can.0 + 1) s w stands)) here;
    }

pub may_decide : (s : StoreView) (c : ControlState) (m : SheetView) → c ≡ s.control → m ≡ view_of s.lanes → CanDecide s → MayDecide c m
may_decide s c m control view can = subst (λ (x : ControlState). MayDecide x m) (sym control) (subst (λ (x : SheetView). MayDecide s.control x) (sym view) (may_decide_here s can))

-- A command that is no access and no preset is decided.
pub is_a_command : (command : Command) → IsDecided command → IsTrue (is_decided command)
is_a_command (ReadLine volume block count) decided = absurd decided
is_a_command (WriteLine volume block count byte) decided = absurd decided
is_a_command (Mkpreset source preset name) decided = absurd decided
is_a_command command decided = refl

abbrev DecidedBy : ControlState → SheetView → Command → Decision → Type 0
DecidedBy c m command d =
    (loop : Option (List VolId)) × IsLoopOf c.grain (books_of c m) command loop × (d ≡ decide m.restarts c.grain (books_of c m) command loop)

pub decision_seen : (result : Result Decision NoMemory) (s : StoreView) (command : Command) (c : ControlState) (m : SheetView) → c ≡ s.control → m ≡ view_of s.lanes →
    IfOk result (λ d. (loop : Option (List VolId)) × IsLoopOf c.grain (books_of c m) command loop × (d ≡ decide m.restarts c.grain (books_of c m) command loop)) →
    IfOk result (λ d. IsDecisionOn s command d)
decision_seen (Ok d) s command c m control view by = λ decisions w stands.
    let here : DecidedBy s.control (view_of s.lanes) command d = subst (λ (x : SheetView). DecidedBy s.control x command d) view (subst (λ (x : ControlState). DecidedBy x m command d) control by) in
    let told : DecidedBy s.control (view_in w) command d = subst (λ (x : SheetView). DecidedBy s.control x command d) (view_is decisions s w stands) here in
    subst (λ (b : Books). (loop : Option (List VolId)) × IsLoopOf s.control.grain b command loop × (d ≡ decide (view_in w).restarts s.control.grain b command loop)) (books_are s.control w stands.control) told
decision_seen (Err error) s command c m control view by = tt
