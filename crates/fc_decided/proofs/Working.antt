-- Background work: events keep it noted by id and of mappings that were made, and work comes after all that goes.
use Rattle.std.proofs.Common.{◌≡◌, ◌≢◌, ℕ, ◌<◌, Bool, true, false, cond, not, nat_lt, ◌==◌, ◌^◌, append_assoc, List, [], ◌∷◌, ◌++◌, map, fold, filter, refl, sym, subst, All, Contains}
use Rattle.std.proofs.lemmas.List.Elements.{All-nil, All-cons, All-head, All-tail, All-append, All-filter}
use Rattle.std.proofs.lemmas.List.Kept.{AllPairs-filter}
use Rattle.fc_base.specs.Sheet.{Sheet}
use Rattle.fc_base.specs.SheetFits.{FitsEvents}
use Rattle.fc_base.specs.declared.decision.LaneEvent.{LaneEvent}
use Rattle.fc_base.specs.declared.decision.LaneEvent.TheVariants.{Forget, Work}
use Rattle.fc_base.specs.declared.ids.MapId.{MapId}
use Rattle.fc_base.specs.declared.size.GrainSize.{GrainSize}
use Rattle.fc_base.specs.declared.volume.Mapping.{Mapping}
use Rattle.fc_books.specs.After.{flags_after, pools_after}
use Rattle.fc_books.specs.Books.{Books}
use Rattle.fc_books.specs.Work.{copies, cleans, changes_work, work_events}
use Rattle.fc_entry.specs.Picture.{Picture}
use Rattle.fc_legal.proofs.Each.{Each}
use Rattle.fc_legal.specs.Lawful.{HaveDisks}
use Rattle.fc_pick.specs.Flags.{AreByMapping, is_flagged, before, behind, with_flags, without_flags}
use Rattle.fc_pick.specs.declared.work.WorkFlags.{WorkFlags}
use Rattle.fc_pick.proofs.Rising.{IsAbove, Rises, rises, pairs_of}
use Rattle.fc_pick.proofs.Rows.{number, rising_with}
use Rattle.fc_base.specs.Pools.{Pool}
use Rattle.fc_rules.specs.LaneFits.{IsNotGone, WorksFirst}
use Rattle.fc_rules.specs.LaneTold.{LaneVolume, volumes_event}
use Rattle.fc_decided.proofs.Apart.{sheet_through, picture_through}
use Rattle.fc_decided.proofs.Lists.{first_in, later_in, filter_from}

-- ---- noted

-- Rows by id, of mappings below a number.
abbrev pub AreNoted : ℕ → List WorkFlags → Type 0
AreNoted n rows = AreByMapping rows × All (λ (row : WorkFlags). row.map.0 < n) rows

above_short : (k : ℕ) (xs : List WorkFlags) (y : WorkFlags) (zs : List WorkFlags) → IsAbove number k (xs ++ y ∷ zs) → IsAbove number k (xs ++ zs)
above_short k [] y zs above = above.1
above_short k (x ∷ xs) y zs above = (above.0, above_short k xs y zs above.1)

rises_short : (xs : List WorkFlags) (y : WorkFlags) (zs : List WorkFlags) → Rises number (xs ++ y ∷ zs) → Rises number (xs ++ zs)
rises_short [] y zs rising = rising.1
rises_short (x ∷ xs) y zs rising = (above_short (number x) xs y zs rising.0, rises_short xs y zs rising.1)

rising_flags : (row : WorkFlags) (rows : List WorkFlags) → AreByMapping rows → AreByMapping (with_flags row rows)
rising_flags row rows rising = by (is_flagged row)
  where
    lows : List WorkFlags
    lows = before row.map.0 rows

    highs : List WorkFlags
    highs = behind row.map.0 rows

    whole : AreByMapping (lows ++ row ∷ highs)
    whole = rising_with row rows rising

    by : (b : Bool) → AreByMapping ((lows ++ cond b (row ∷ []) []) ++ highs)
    by true = subst AreByMapping (sym (append_assoc lows (row ∷ []) highs)) whole
    by false = subst AreByMapping (sym (append_assoc lows [] highs)) (pairs_of number (lows ++ highs) (rises_short lows row highs (rises number (lows ++ row ∷ highs) whole)))

noted_flags : (n : ℕ) (row : WorkFlags) (rows : List WorkFlags) → row.map.0 < n → AreNoted n rows → AreNoted n (with_flags row rows)
noted_flags n row rows lt noted = (
  rising_flags row rows noted.0,
  All-append P (before row.map.0 rows ++ filter is_flagged (row ∷ [])) (behind row.map.0 rows)
      (All-append P (before row.map.0 rows) (filter is_flagged (row ∷ []))
      (All-filter (λ (r : WorkFlags). nat_lt r.map.0 row.map.0) P rows noted.1)
      (All-filter is_flagged P (row ∷ []) (All-cons P row [] lt (All-nil P))))
      (All-filter (λ (r : WorkFlags). nat_lt row.map.0 r.map.0) P rows noted.1),
)
  where
    P : WorkFlags → Type 0
    P r = r.map.0 < n

noted_without : (n : ℕ) (m : MapId) (rows : List WorkFlags) → AreNoted n rows → AreNoted n (without_flags m rows)
noted_without n m rows noted = (
  AllPairs-filter (λ (x y : WorkFlags). x.map.0 < y.map.0) (λ (row : WorkFlags). not (m.0 == row.map.0)) rows noted.0,
  All-filter (λ (row : WorkFlags). not (m.0 == row.map.0)) (λ (row : WorkFlags). row.map.0 < n) rows noted.1,
)

-- What an event tells of work is told of a mapping below a number.
abbrev pub WorkBelow : ℕ → LaneEvent → Type 0
WorkBelow n (Work m copies cleans) = m.0 < n
WorkBelow n event = Unit {0}

noted_after : (n : ℕ) (rows : List WorkFlags) (e : LaneEvent) → WorkBelow n e → AreNoted n rows → AreNoted n (flags_after rows e)
noted_after n rows (Work m copies cleans) lt noted = noted_flags n (record { map = m; copies = copies; cleans = cleans }) rows lt noted
noted_after n rows (Forget m) lt noted = noted_without n m rows noted
noted_after n rows e lt noted = noted

abbrev pub AllWorkBelow : ℕ → List LaneEvent → Type 0
AllWorkBelow n es = Each (WorkBelow n) es

pub noted_through : (n : ℕ) (rows : List WorkFlags) (es : List LaneEvent) → AllWorkBelow n es → AreNoted n rows → AreNoted n (fold flags_after rows es)
noted_through n rows [] lt noted = noted
noted_through n rows (e ∷ es) lt noted = noted_through n (flags_after rows e) es lt.1 (noted_after n rows e lt.0 noted)

-- ---- events without work

abbrev pub IsNoWork : LaneEvent → Type 0
IsNoWork (Work m copies cleans) = ⊥
IsNoWork event = Unit {0}

abbrev pub NoWork : List LaneEvent → Type 0
NoWork es = Each IsNoWork es

no_work_below : (n : ℕ) (e : LaneEvent) → IsNoWork e → WorkBelow n e
no_work_below n (Work m copies cleans) none = absurd none
no_work_below n e none = tt

pub none_below : (n : ℕ) (es : List LaneEvent) → NoWork es → AllWorkBelow n es
none_below n [] none = tt
none_below n (e ∷ es) none = (no_work_below n e none.0, none_below n es none.1)

-- ---- what goes is no more in the table

abbrev pub IsGone : List Mapping → LaneEvent → Type 0
IsGone maps (Forget m) = (n : Mapping) → Contains maps n → n.id.0 ≢ m.0
IsGone maps event = Unit {0}

abbrev pub AreGone : List Mapping → List LaneEvent → Type 0
AreGone maps es = Each (IsGone maps) es

-- ---- events of work alone

-- The flags of these mappings, as they are by the books.
abbrev pub works_of : Books → List Mapping → List LaneEvent
works_of b maps = map (λ (m : Mapping). Work m.id (copies b m) (cleans b m)) maps

after_gone : (maps : List Mapping) (e : LaneEvent) (m : Mapping) (c k : Bool) → IsGone maps e → Contains maps m → IsNotGone e (Work m.id c k)
after_gone maps (Forget x) m c k gone found = λ same. gone m found (sym same)
after_gone maps e m c k gone found = tt

after_plain : (e f : LaneEvent) → IsNoWork f → IsNotGone e f
after_plain (Forget x) (Work n a d) none = absurd none
after_plain (Forget x) f none = search
after_plain e f none = search

works_after : (maps : List Mapping) (b : Books) (e : LaneEvent) (ms : List Mapping) → IsGone maps e → ((m : Mapping) → Contains ms m → Contains maps m) → All (IsNotGone e) (works_of b ms)
works_after maps b e [] gone among = All-nil (IsNotGone e)
works_after maps b e (m ∷ ms) gone among =
    All-cons (IsNotGone e) (Work m.id (copies b m) (cleans b m)) (works_of b ms) (after_gone maps e m (copies b m) (cleans b m) gone (among m (first_in m ms)))
    (works_after maps b e ms gone (λ x found. among x (later_in m x ms found)))

plain_after : (e : LaneEvent) (fs : List LaneEvent) → NoWork fs → All (IsNotGone e) fs
plain_after e [] none = All-nil (IsNotGone e)
plain_after e (f ∷ fs) none = All-cons (IsNotGone e) f fs (after_plain e f none.0) (plain_after e fs none.1)

none_gone : (maps : List Mapping) (b : Books) (ms : List Mapping) → WorksFirst (works_of b ms)
none_gone maps b [] = tt
none_gone maps b (m ∷ ms) = (works_after ms b (Work m.id (copies b m) (cleans b m)) ms tt (λ x found. found), none_gone maps b ms)

-- Work comes after all that goes.
pub works_last : (maps : List Mapping) (b : Books) (es : List LaneEvent) (ms : List Mapping) → NoWork es → AreGone maps es → ((m : Mapping) → Contains ms m → Contains maps m) → WorksFirst (es ++ works_of b ms)
works_last maps b [] ms none gone among = none_gone maps b ms
works_last maps b (e ∷ es) ms none gone among = (
  All-append (IsNotGone e) es (works_of b ms) (plain_after e es none.1) (works_after maps b e ms gone.0 among),
  works_last maps b es ms none.1 gone.1 among,
)

pub works_first : (es : List LaneEvent) → NoWork es → WorksFirst es
works_first [] none = tt
works_first (e ∷ es) none = (plain_after e es none.1, works_first es none.1)

-- It changes neither chains nor plain volumes nor volumes nor pools, and fits always.
pub works_sheet : (b : Books) (ms : List Mapping) (s : Sheet) → sheet_through s (works_of b ms) ≡ s
works_sheet b [] s = refl
works_sheet b (m ∷ ms) s = works_sheet b ms s

pub works_picture : (grain : GrainSize) (b : Books) (ms : List Mapping) (s : Sheet) (picture : Picture) → picture_through grain s picture (works_of b ms) ≡ picture
works_picture grain b [] s picture = refl
works_picture grain b (m ∷ ms) s picture = works_picture grain b ms s picture

pub works_volumes : (b : Books) (ms : List Mapping) (volumes : List LaneVolume) → fold volumes_event volumes (works_of b ms) ≡ volumes
works_volumes b [] volumes = refl
works_volumes b (m ∷ ms) volumes = works_volumes b ms volumes

pub works_pools : (b : Books) (ms : List Mapping) (pools : List Pool) → fold pools_after pools (works_of b ms) ≡ pools
works_pools b [] pools = refl
works_pools b (m ∷ ms) pools = works_pools b ms pools

pub works_fit : (local : ℕ → ℕ) (b : Books) (ms : List Mapping) (s : Sheet) → s.births < 2 ^ 64 → FitsEvents local s (works_of b ms)
works_fit local b [] s few = few
works_fit local b (m ∷ ms) s few = (tt, works_fit local b ms s few)

pub works_disks : (b : Books) (ms : List Mapping) (pools : List Pool) (volumes : List LaneVolume) → HaveDisks pools volumes (works_of b ms)
works_disks b [] pools volumes = tt
works_disks b (m ∷ ms) pools volumes = (tt, works_disks b ms pools volumes)

pub works_below : (n : ℕ) (b : Books) (ms : List Mapping) → All (λ (m : Mapping). m.id.0 < n) ms → AllWorkBelow n (works_of b ms)
works_below n b [] all = tt
works_below n b (m ∷ ms) all = (All-head (λ (x : Mapping). x.id.0 < n) m ms all, works_below n b ms (All-tail (λ (x : Mapping). x.id.0 < n) m ms all))

-- The mappings whose flags change.
abbrev pub worked : Books → List Mapping
worked b = filter (changes_work b) b.tables.mappings

pub worked_among : (b : Books) (m : Mapping) → Contains (worked b) m → Contains b.tables.mappings m
worked_among b m found = (filter_from (changes_work b) b.tables.mappings m found).0

pub works_are : (b : Books) → work_events b ≡ works_of b (worked b)
unfolding work_events
works_are b = refl
