-- What a record is after it was opened or copied, and after entries.
use Rattle.std.proofs.Common.{◌≡◌, ℕ, ◌+◌, List, [], Option, length, replicate, slice_index_or, slice_set, sym, ap, ◌∙◌}
use Rattle.std.proofs.lemmas.List.{length-map}
use Rattle.fc_base.specs.Pools.{Pool}
use Rattle.fc_base.specs.Room.{Room}
use Rattle.fc_base.specs.declared.size.GrainSize.{GrainSize}
use Rattle.fc_base.specs.declared.volume.Change.{Change}
use Rattle.fc_changed.specs.Row.{Row}
use Rattle.fc_check_lane.specs.After.{after_entry}
use Rattle.fc_check_lane.specs.Known.{Known}
use Rattle.fc_check_record.proofs.Firsts.{control_first, known_first}
use Rattle.fc_check_record.specs.Judged.{AreOne, Judged, whole_of}
use Rattle.fc_check_sheet.specs.View.{pool_of, pools_of}
use Rattle.fc_check_sheet.specs.declared.pool.LanePool.{LanePool}
use Rattle.fc_desk.specs.Control.{ControlState}
use Rattle.fc_entry.specs.declared.entry.Entry.{Entry}
use Rattle.fc_follow.specs.Following.{rows_entry}
use Rattle.fc_legal.specs.Steps.{after_access, one_more}
use Rattle.fc_legal.specs.Whole.{opened, single_lane}
use Rattle.fc_rules.specs.Rooms.{rooms_entry}

-- what contracts see of a record
abbrev pub judged : ControlState → Known → List Row → List Pool → List Room → List ℕ → Judged
judged c k rows pools rooms calls = record { grain = k.grain; whole = whole_of c k rows pools rooms calls }

-- before the first entry
abbrev pub first_of : GrainSize → List LanePool → Judged
first_of grain lanes = record { grain = grain; whole = record (opened (pools_of lanes)) { actors = [] } }

pub first_told : (grain : GrainSize) (lanes : List LanePool) (c : ControlState) (k : Known) (rows : List Row) (pools : List LanePool) (rooms : List Room) (calls : List ℕ) →
    c ≡ control_first grain → k ≡ known_first grain (length lanes) → rows ≡ [] → pools ≡ lanes → rooms ≡ [] → calls ≡ replicate (length lanes) 0 → judged c k rows (pools_of pools) rooms calls ≡ first_of grain lanes
first_told grain lanes c k rows pools rooms calls e f r p m q =
    (λ i. judged (e i) (f i) (r i) (pools_of (p i)) (m i) (q i))
    ∙ (λ i. record {
      grain = grain;
      whole = record (opened (pools_of lanes)) {
        actors = [];
        faults = replicate (sym (length-map lanes pool_of) i) 0;
        calls = replicate (sym (length-map lanes pool_of) i) 0;
      };
    })

-- a copy
pub copied_told : (c new : ControlState) (k known : Known) (rows noted : List Row) (pools left : List LanePool) (rooms taken : List Room) (calls counted : List ℕ) (reserved : Option Change) (room : ℕ) (before : Judged) →
    new ≡ record c { reserved = reserved; room = room } → known ≡ k → noted ≡ rows → left ≡ pools → taken ≡ rooms → counted ≡ calls → judged c k rows (pools_of pools) rooms calls ≡ before → judged new known noted (pools_of left) taken counted ≡ before
copied_told c new k known rows noted pools left rooms taken calls counted reserved room before e f r p m q is =
    (λ i. judged (e i) (f i) (r i) (pools_of (p i)) (m i) (q i)) ∙ is

-- with one more entry that did nothing
pub more_told : (c : ControlState) (k known : Known) (rows : List Row) (pools : List Pool) (rooms : List Room) (calls : List ℕ) (before : Judged) → judged c k rows pools rooms calls ≡ before → known ≡ record k { entries = k.entries + 1 } →
    judged c known rows pools rooms calls ≡ record before { whole = one_more before.whole }
more_told c k known rows pools rooms calls before is e =
    ap (λ (z : Known). judged c z rows pools rooms calls) e ∙ ap (λ (b : Judged). record b { whole = one_more b.whole }) is

-- with an entry of a lane
pub entry_told : (c : ControlState) (k known : Known) (rows noted : List Row) (pools : List Pool) (rooms taken : List Room) (calls counted : List ℕ) (before : Judged) (lane : ℕ) (entry : Entry) → AreOne c k calls →
    judged c k rows pools rooms calls ≡ before → known ≡ after_entry k lane entry → noted ≡ rows_entry (single_lane c.grain) rows entry → taken ≡ rooms_entry (single_lane k.grain) k.picture rooms entry →
    counted ≡ slice_set calls lane (slice_index_or calls lane 0 + entry.calls) →
    judged c known noted pools taken counted ≡ record before { whole = after_access before.grain before.whole lane entry }
entry_told c k known rows noted pools rooms taken calls counted before lane entry one is e f m g =
    let told : noted ≡ rows_entry (single_lane k.grain) rows entry = f ∙ ap (λ (size : GrainSize). rows_entry (single_lane size) rows entry) (sym one.grain) in
    (λ i. judged c (e i) (told i) pools (m i) (g i)) ∙ ap (λ (b : Judged). record b { whole = after_access b.grain b.whole lane entry }) is
