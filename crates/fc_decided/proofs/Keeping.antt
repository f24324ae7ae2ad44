-- The mappings of tables that stay in others, or are forgotten by events.
use Rattle.std.proofs.Common.{◌≡◌, ℕ, List, [], ◌∷◌, ◌++◌, refl, sym, subst, ◌∙◌, Contains, ◌⊎◌, inl, inr}
use Rattle.std.specs.Prelude.{find, ◌==◌}
use Rattle.fc_base.specs.Tables.{Tables, volume_with}
use Rattle.fc_base.specs.declared.decision.LaneEvent.{LaneEvent}
use Rattle.fc_base.specs.declared.decision.LaneEvent.TheVariants.{Forget}
use Rattle.fc_base.specs.declared.volume.Mapping.{Mapping}
use Rattle.fc_base.specs.declared.volume.Volume.{Volume}
use Rattle.fc_books.specs.Sound.{HasGrains}

-- ---- the same mapping

-- Whatever became of it, what rows tell of it stays.
pub record IsSame (m n : Mapping) : Type 0 where
  pub id : n.id.0 ≡ m.id.0
  pub source : n.source.0 ≡ m.source.0
  pub target : n.target.0 ≡ m.target.0
  pub incremental : n.incremental ≡ m.incremental

pub same_itself : (m : Mapping) → IsSame m m
same_itself m = record { id = refl; source = refl; target = refl; incremental = refl }

same_then : (m n o : Mapping) → IsSame m n → IsSame n o → IsSame m o
same_then m n o a b =
    record { id = b.id ∙ a.id; source = b.source ∙ a.source; target = b.target ∙ a.target; incremental = b.incremental ∙ a.incremental }

-- ---- forgotten

abbrev pub IsForgotten : ℕ → LaneEvent → Type 0
IsForgotten i (Forget m) = m.0 ≡ i
IsForgotten i event = ⊥

abbrev pub AreForgotten : ℕ → List LaneEvent → Type 0
AreForgotten i [] = ⊥
AreForgotten i (e ∷ es) = IsForgotten i e ⊎ AreForgotten i es

pub forgotten_first : (i : ℕ) (es fs : List LaneEvent) → AreForgotten i es → AreForgotten i (es ++ fs)
forgotten_first i [] fs none = absurd none
forgotten_first i (e ∷ es) fs (inl here) = inl here
forgotten_first i (e ∷ es) fs (inr later) = inr (forgotten_first i es fs later)

pub forgotten_second : (i : ℕ) (es fs : List LaneEvent) → AreForgotten i fs → AreForgotten i (es ++ fs)
forgotten_second i [] fs f = f
forgotten_second i (e ∷ es) fs f = inr (forgotten_second i es fs f)

-- ---- mappings that stay

-- Each of the old mappings is among the new ones, or an event forgets it.
abbrev pub StaysAmong : List Mapping → List LaneEvent → Mapping → Type 0
StaysAmong new es m = ((n : Mapping) × Contains new n × IsSame m n) ⊎ AreForgotten m.id.0 es

abbrev pub Stay : List Mapping → List Mapping → List LaneEvent → Type 0
Stay old new es = (m : Mapping) → Contains old m → StaysAmong new es m

pub stay_all : (maps : List Mapping) (es : List LaneEvent) → Stay maps maps es
stay_all maps es m found = inl (m, found, same_itself m)

pub stay_then : (old mid new : List Mapping) (es fs : List LaneEvent) → Stay old mid es → Stay mid new fs → Stay old new (es ++ fs)
stay_then old mid new es fs first second m found = by (first m found)
  where
    then_by : (n : Mapping) → IsSame m n → StaysAmong new fs n → StaysAmong new (es ++ fs) m
    then_by n same (inl there) = inl (there.0, there.1, same_then m n there.0 same there.2)
    then_by n same (inr gone) = inr (forgotten_second m.id.0 es fs (subst (λ (i : ℕ). AreForgotten i fs) same.id gone))

    by : StaysAmong mid es m → StaysAmong new (es ++ fs) m
    by (inl there) = then_by there.0 there.2 (second there.0 there.1)
    by (inr gone) = inr (forgotten_first m.id.0 es fs gone)

-- more events
pub stay_more : (old new : List Mapping) (es fs : List LaneEvent) → Stay old new es → Stay old new (es ++ fs)
stay_more old new es fs stay = stay_then old new new es fs stay (stay_all new fs)

-- ---- and the volumes of their targets

abbrev pub AreAsLarge : Tables → Tables → Type 0
AreAsLarge t u = (m : Mapping) → Contains t.mappings m → (grains : ℕ) → HasGrains (volume_with t m.target) grains → HasGrains (volume_with u m.target) grains

pub as_large_same : (t u : Tables) → u.volumes ≡ t.volumes → AreAsLarge t u
as_large_same t u e m found grains has = subst (λ (vs : List Volume). HasGrains (find (λ (v : Volume). m.target.0 == v.id.0) vs) grains) (sym e) has

-- What becomes of the tables with events.
pub record Keeps (t u : Tables) (es : List LaneEvent) : Type 0 where
  pub stay : Stay t.mappings u.mappings es
  pub as_large : AreAsLarge t u

-- where no mapping and no volume changes
pub keeps_all : (t u : Tables) (es : List LaneEvent) → u.mappings ≡ t.mappings → u.volumes ≡ t.volumes → Keeps t u es
keeps_all t u es maps volumes =
    record {
      stay = subst (λ (ms : List Mapping). Stay t.mappings ms es) (sym maps) (stay_all t.mappings es);
      as_large = as_large_same t u volumes;
    }

pub keeps_more : (t u : Tables) (es fs : List LaneEvent) → Keeps t u es → Keeps t u (es ++ fs)
keeps_more t u es fs k = record { stay = stay_more t.mappings u.mappings es fs k.stay; as_large = k.as_large }
