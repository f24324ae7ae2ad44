-- What a decision leaves, part by part.
use Rattle.std.proofs.Common.{◌≡◌, ℕ, All, Bool, List, [], ◌∷◌, fold, refl, subst, sym, ap, ◌∙◌}
use Rattle.std.proofs.lemmas.List.Elements.{All-head, All-tail}
use Rattle.fc_base.specs.Pools.{Pool}
use Rattle.fc_base.specs.Room.{Room, rooms_after}
use Rattle.fc_base.specs.Sheet.{Sheet}
use Rattle.fc_base.specs.SheetView.{SheetView}
use Rattle.fc_base.specs.declared.decision.Decision.{Decision}
use Rattle.fc_base.specs.declared.decision.LaneEvent.{LaneEvent}
use Rattle.fc_base.specs.declared.decision.LaneEvent.TheVariants.{Trigger}
use Rattle.fc_books.specs.After.{pools_after, sheet_after}
use Rattle.fc_books.specs.Deciding.{after_decision}
use Rattle.fc_changed.specs.Row.{Row}
use Rattle.fc_check_lane.specs.Known.{Known}
use Rattle.fc_check_record.specs.Chains.{chains_after, chains_event}
use Rattle.fc_check_record.proofs.Telling.{judged}
use Rattle.fc_check_record.specs.Judged.{AreOne, Judged, whole_of}
use Rattle.fc_check_record.specs.Leaving.{AreBooksLeft, chains_left, known_left}
use Rattle.fc_check_record.specs.declared.chains.Chains.{Chains}
use Rattle.fc_decided.proofs.Frame.{all_leave}
use Rattle.fc_desk.specs.Control.{ControlState}
use Rattle.fc_follow.specs.Following.{IsNoTrigger, TriggersFirst, restarts}
use Rattle.fc_legal.specs.Steps.{left_by, rows_after}

-- ---- chains

-- an event that is no trigger asks for no restart sets
same_sheet : (first second : ℕ → List Bool) (s : Sheet) (event : LaneEvent) → IsNoTrigger event → sheet_after first s event ≡ sheet_after second s event
same_sheet first second s (Trigger pairs) none = absurd none
same_sheet first second s event none = refl

untriggered : (restarts : ℕ → List Bool) (c : Chains) (events : List LaneEvent) → All IsNoTrigger events → (chains_after c events).sheet ≡ fold (sheet_after restarts) c.sheet events
untriggered sets c [] none = refl
untriggered sets c (event ∷ events) none =
    untriggered sets (chains_event c event) events (All-tail IsNoTrigger event events none)
    ∙ ap (λ s. fold (sheet_after sets) s events) (same_sheet (restarts c.rows) sets c.sheet event (All-head IsNoTrigger event events none))

-- only the first may, by what was kept before all of them
pub sheet_left : (c : Chains) (events : List LaneEvent) → TriggersFirst events → (chains_after c events).sheet ≡ fold (sheet_after (restarts c.rows)) c.sheet events
sheet_left c [] first = refl
sheet_left c (event ∷ events) first = untriggered (restarts c.rows) (chains_event c event) events first

pub rows_left : (c : Chains) (events : List LaneEvent) → (chains_after c events).rows ≡ rows_after c.sheet c.rows events
rows_left c [] = refl
rows_left c (event ∷ events) = rows_left (chains_event c event) events

-- ---- all

-- What a control part, what entries of lanes are judged by, what is kept of incremental mappings, disks left and the
-- memory that grains occupy are after a decision.
pub record AreLeft (c after : ControlState) (k known : Known) (rows noted : List Row) (pools left : List Pool) (rooms taken : List Room) (d : Decision) : Type 0 where
  pub books : AreBooksLeft c after d
  pub grain : after.grain ≡ c.grain
  pub known_is : known ≡ known_left after k rows d
  pub rows_are : noted ≡ (chains_left k rows d).rows
  pub pools_are : left ≡ fold pools_after pools d.events
  pub rooms_are : taken ≡ fold (rooms_after (λ grains. grains)) rooms d.events

pub one_left : (c after : ControlState) (k known : Known) (rows noted : List Row) (pools left : List Pool) (rooms taken : List Room) (calls : List ℕ) (d : Decision) → AreOne c k calls → AreLeft c after k known rows noted pools left rooms taken d → AreOne after known calls
one_left c after k known rows noted pools left rooms taken calls d one l =
    subst (λ (z : Known). AreOne after z calls) (sym l.known_is) (record { grain = one.grain ∙ sym l.grain; volumes = refl; sizes = refl; flags = refl; few = one.few })

abbrev view_of : Known → List Pool → List Room → SheetView
view_of k pools rooms = record { sheet = k.sheet; restarts = λ m. []; pools = pools; rooms = rooms }

books_left : (c after : ControlState) (k known : Known) (rows noted : List Row) (pools left : List Pool) (rooms taken : List Room) (calls : List ℕ) (d : Decision) → TriggersFirst d.events →
    AreLeft c after k known rows noted pools left rooms taken d →
    (whole_of after known noted left taken calls).books ≡ after_decision (restarts rows) (whole_of c k rows pools rooms calls).books d
books_left c after k known rows noted pools left rooms taken calls d first l =
    let sheet : known.sheet ≡ fold (sheet_after (restarts rows)) k.sheet d.events =
    ap (λ (z : Known). z.sheet) l.known_is ∙ sheet_left (record { sheet = k.sheet; rows = rows }) d.events first in
    let applied = l.books (view_of k pools rooms) in
    (λ i. record {
      tables = (applied i).tables;
      next_volume = (applied i).next_volume;
      next_mapping = (applied i).next_mapping;
      next_group = (applied i).next_group;
      sheet = sheet i;
      flags = (applied i).flags;
      pools = l.pools_are i;
      rooms = l.rooms_are i;
    })
    ∙ sym (all_leave (restarts rows) (whole_of c k rows pools rooms calls).books d.events d.changes)

whole_left : (c after : ControlState) (k known : Known) (rows noted : List Row) (pools left : List Pool) (rooms taken : List Room) (calls : List ℕ) (d : Decision) → TriggersFirst d.events → AreLeft c after k known rows noted pools left rooms taken d →
    whole_of after known noted left taken calls ≡ left_by k.grain (whole_of c k rows pools rooms calls) d
whole_left c after k known rows noted pools left rooms taken calls d first l =
    let books = books_left c after k known rows noted pools left rooms taken calls d first l in
    let rows_are : noted ≡ rows_after k.sheet rows d.events = l.rows_are ∙ rows_left (record { sheet = k.sheet; rows = rows }) d.events in
    λ i. record {
      actors = [];
      books = books i;
      picture = (l.known_is i).picture;
      rows = rows_are i;
      faults = (l.known_is i).faults;
      calls = calls;
      entries = (l.known_is i).entries;
    }

pub left_told : (c after : ControlState) (k known : Known) (rows noted : List Row) (pools left : List Pool) (rooms taken : List Room) (calls : List ℕ) (before : Judged) (d : Decision) → judged c k rows pools rooms calls ≡ before → TriggersFirst d.events →
    AreLeft c after k known rows noted pools left rooms taken d → judged after known noted left taken calls ≡ record before { whole = left_by before.grain before.whole d }
left_told c after k known rows noted pools left rooms taken calls before d is first l =
    let whole = whole_left c after k known rows noted pools left rooms taken calls d first l in
    (λ i. record { grain = (l.known_is i).grain; whole = whole i }) ∙ ap (λ (b : Judged). record b { whole = left_by b.grain b.whole d }) is
