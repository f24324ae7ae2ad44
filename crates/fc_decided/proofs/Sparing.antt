-- Events that change what is kept of incremental mappings in known ways: a trigger comes first, and a volume that goes is no
-- mapping's.
use Rattle.std.proofs.Common.{◌≡◌, ◌≢◌, List, [], ◌∷◌, ◌++◌, Contains, All}
use Rattle.std.proofs.lemmas.List.Elements.{All-nil, All-cons}
use Rattle.fc_base.specs.Tables.{Tables}
use Rattle.fc_base.specs.declared.decision.LaneEvent.{LaneEvent}
use Rattle.fc_base.specs.declared.decision.LaneEvent.TheVariants.{Remove, Trigger, Access, Work}
use Rattle.fc_base.specs.declared.request.Pair.{Pair}
use Rattle.fc_base.specs.declared.volume.Mapping.{Mapping}
use Rattle.fc_books.specs.Starting.{pair_of}
use Rattle.fc_follow.specs.Following.{IsNoTrigger, TriggersFirst}
use Rattle.fc_legal.proofs.Each.{Each, each_append}

-- It triggers nothing, and no mapping of the table names a volume that goes.
abbrev pub Spares : Tables → LaneEvent → Type 0
Spares t (Trigger pairs) = ⊥
Spares t (Remove volume) = (m : Mapping) → Contains t.mappings m → (m.source.0 ≢ volume.0) × (m.target.0 ≢ volume.0)
Spares t event = Unit {0}

abbrev pub AreSparing : Tables → List LaneEvent → Type 0
AreSparing t es = Each (Spares t) es

-- ---- still

-- It changes neither chains nor rows.
abbrev pub IsStill : LaneEvent → Type 0
IsStill (Access volume access) = Unit {0}
IsStill (Work m copies cleans) = Unit {0}
IsStill event = ⊥

abbrev pub AreStill : List LaneEvent → Type 0
AreStill es = Each IsStill es

still_spares : (t : Tables) (e : LaneEvent) → IsStill e → Spares t e
still_spares t (Access volume access) still = tt
still_spares t (Work m copies cleans) still = tt
still_spares t e still = absurd still

pub still_sparing : (t : Tables) (es : List LaneEvent) → AreStill es → AreSparing t es
still_sparing t [] still = tt
still_sparing t (e ∷ es) still = (still_spares t e still.0, still_sparing t es still.1)

-- ---- a trigger comes first

-- Each pair is a mapping of the table.
abbrev pub ArePairs : Tables → List Pair → Type 0
ArePairs t pairs = (p : Pair) → Contains pairs p → (m : Mapping) × Contains t.mappings m × (pair_of m ≡ p)

pub data Begins (t : Tables) : List LaneEvent → Type 0 where
  sparing : {es : List LaneEvent} → AreSparing t es → Begins t es
  starting : {pairs : List Pair} → {rest : List LaneEvent} → ArePairs t pairs → AreStill rest → Begins t (Trigger pairs ∷ rest)

pub begins_still : (t : Tables) (es fs : List LaneEvent) → Begins t es → AreStill fs → Begins t (es ++ fs)
begins_still t es fs (sparing all) last = sparing (each_append (Spares t) es fs all (still_sparing t fs last))
begins_still t es fs (starting {pairs} {rest} are still) last = starting are (each_append IsStill rest fs still last)

-- ---- no trigger comes later

pub no_trigger : (t : Tables) (e : LaneEvent) → Spares t e → IsNoTrigger e
no_trigger t (Trigger pairs) none = absurd none
no_trigger t e none = tt

no_triggers : (t : Tables) (es : List LaneEvent) → AreSparing t es → All IsNoTrigger es
no_triggers t [] all = All-nil IsNoTrigger
no_triggers t (e ∷ es) all = All-cons IsNoTrigger e es (no_trigger t e all.0) (no_triggers t es all.1)

sparing_first : (t : Tables) (es : List LaneEvent) → AreSparing t es → TriggersFirst es
sparing_first t [] all = tt
sparing_first t (e ∷ es) all = no_triggers t es all.1

pub triggers_first : (t : Tables) (es : List LaneEvent) → Begins t es → TriggersFirst es
triggers_first t es (sparing all) = sparing_first t es all
triggers_first t es (starting {pairs} {rest} are still) = no_triggers t rest (still_sparing t rest still)
