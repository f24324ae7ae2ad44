-- Mappings that turn to a busy state, all at once: what becomes of every mapping, and how hosts reach volumes.
use Rattle.std.proofs.Common.{◌≡◌, ◌≢◌, Bool, true, false, cond, not, List, [], ◌++◌, map, refl, sym, ap, subst, ◌∙◌, Contains, ◌⊎◌, inl, inr}
use Rattle.std.specs.Prelude.{◌==◌, filter}
use Rattle.std.specs.List.{list_any}
use Rattle.std.proofs.lemmas.Bool.{cases_Bool, cases_eq, eqb-true, eq-eqb, and_parts, and_from, both_ways, false_from_ne_true}
use Rattle.std.proofs.lemmas.List.Elements.{Contains-append_left, Contains-append_right, Contains-append_cases}
use Rattle.fc_base.specs.Tables.{Tables}
use Rattle.fc_base.specs.declared.ids.VolId.{VolId}
use Rattle.fc_base.specs.declared.state.MapState.{MapState}
use Rattle.fc_base.specs.declared.state.MapState.TheVariants.{IdleOrCopied, Prepared, Stopped}
use Rattle.fc_base.specs.declared.volume.Mapping.{Mapping}
use Rattle.fc_books.specs.Accesses.{is_idle, is_stopped, is_active}
use Rattle.fc_books.specs.Ending.{in_state}
use Rattle.fc_books.specs.Starting.{is_superseded}
use Rattle.fc_decided.proofs.Lists.{none_in, filter_from, filter_in, map_from, map_in, any_in, any_there, any_from}
use Rattle.fc_decided.proofs.Reaching.{OneBusy}
use Rattle.fc_decided.proofs.Setting.{AreOrdered, Restated, AreRestated, set_in, set_cases, one_mapping, restated_in}

-- Idle, stopped or prepared.
abbrev pub IsReady : MapState → Type 0
IsReady state = (state ≡ IdleOrCopied) ⊎ ((state ≡ Stopped) ⊎ (state ≡ Prepared))

-- What is so of mappings of the table that may turn, where others give way to them or not.
pub record CanTurn (t : Tables) (maps : List Mapping) (gives : Bool) : Type 0 where
  pub ordered : AreOrdered maps
  pub among : (m : Mapping) → Contains maps m → Contains t.mappings m
  pub targets : (m n : Mapping) → Contains maps m → Contains maps n → m.target.0 ≡ n.target.0 → m.id.0 ≡ n.id.0
  pub ready : (m : Mapping) → Contains maps m → IsReady m.state
  pub prepared : gives ≡ false → (m : Mapping) → Contains maps m → m.state ≡ Prepared
  pub alone : (m n : Mapping) → Contains maps m → Contains t.mappings n → n.target.0 ≡ m.target.0 → n.id.0 ≢ m.id.0 → is_active n.state ≡ false

-- The mapping in a state, restoring or not; and one that gives way.
abbrev pub turned : MapState → Bool → Mapping → Mapping
turned state restore m = in_state state (record m { restoring = restore })

abbrev pub idled : Mapping → Mapping
idled m = in_state IdleOrCopied m

module _ (t : Tables) (maps : List Mapping) (gives : Bool) (state : MapState) (restore : Bool) (ordered : AreOrdered t.mappings) (can : CanTurn t maps gives) (busy : is_idle state ≡ false) where
  abbrev pub given : List Mapping
  given = cond gives (map idled (filter (is_superseded maps) t.mappings)) []

  abbrev pub news : List Mapping
  news = given ++ map (turned state restore) maps

  -- what a mapping becomes
  pub data Outcome (m x : Mapping) : Type 0 where
    turns : Contains maps m → x ≡ turned state restore m → Outcome m x
    gives_up : ((n : Mapping) → Contains maps n → n.id.0 ≢ m.id.0) → is_superseded maps m ≡ true → x ≡ idled m → Outcome m x
    keeps : ((n : Mapping) → Contains maps n → n.id.0 ≢ m.id.0) → (gives ≡ true → is_superseded maps m ≡ false) → x ≡ m → Outcome m x

  -- what of it is superseded
  pub superseded_parts : (m : Mapping) → is_superseded maps m ≡ true → (is_stopped m.state ≡ true) × ((n : Mapping) × Contains maps n × (n.target.0 ≡ m.target.0)) × ((n : Mapping) → Contains maps n → n.id.0 ≢ m.id.0)
  superseded_parts m e =
      let p = and_parts (is_stopped m.state) _ e in
      let q = and_parts (list_any (λ (n : Mapping). n.target.0 == m.target.0) maps) _ p.1 in
      let r = any_from (λ (n : Mapping). n.target.0 == m.target.0) maps q.0 in (
        p.0,
        (r.0, r.1, eqb-true r.0.target.0 m.target.0 r.2),
        λ n found same. both_ways (n.id.0 == m.id.0) (any_in (λ (x : Mapping). x.id.0 == m.id.0) maps n (negated (list_any (λ (x : Mapping). x.id.0 == m.id.0) maps) q.1) found) (eq-eqb n.id.0 m.id.0 same),
      )
    where
      negated : (b : Bool) → not b ≡ true → b ≡ false
      negated true e = absurd cc
      negated false e = refl

  superseded_is : (m n : Mapping) → m.state ≡ Stopped → Contains maps n → n.target.0 ≡ m.target.0 → ((x : Mapping) → Contains maps x → x.id.0 ≢ m.id.0) → is_superseded maps m ≡ true
  superseded_is m n stopped found target out =
      and_from (is_stopped m.state) _ (ap is_stopped stopped)
      (and_from (list_any (λ (x : Mapping). x.target.0 == m.target.0) maps) _
      (any_there (λ (x : Mapping). x.target.0 == m.target.0) maps n found (eq-eqb n.target.0 m.target.0 target))
      (ap not (false_from_ne_true (list_any (λ (x : Mapping). x.id.0 == m.id.0) maps) (λ e.
      let r = any_from (λ (x : Mapping). x.id.0 == m.id.0) maps e in out r.0 r.1 (eqb-true r.0.id.0 m.id.0 r.2)))))

  -- one that gives way, from the list of them
  given_from : (b : Bool) (x : Mapping) → Contains (cond b (map idled (filter (is_superseded maps) t.mappings)) []) x → (b ≡ true) × ((y : Mapping) × Contains t.mappings y × (is_superseded maps y ≡ true) × (idled y ≡ x))
  given_from true x found =
      let r = map_from idled (filter (is_superseded maps) t.mappings) x found in
      let f = filter_from (is_superseded maps) t.mappings r.0 r.1 in
      (refl, (r.0, f.0, f.1, r.2))
  given_from false x found = absurd (none_in x found)

  given_in : (b : Bool) (m : Mapping) → b ≡ true → Contains t.mappings m → is_superseded maps m ≡ true → Contains (cond b (map idled (filter (is_superseded maps) t.mappings)) []) (idled m)
  given_in true m e found s = map_in idled (filter (is_superseded maps) t.mappings) m (filter_in (is_superseded maps) t.mappings m found s)
  given_in false m e found s = absurd cc

  -- what of the news it is
  outcome_new : (m x : Mapping) → Contains t.mappings m → Contains news x → x.id.0 ≡ m.id.0 → Outcome m x
  outcome_new m x found new id = elim (Contains-append_cases given (map (turned state restore) maps) x new) [
    | inl first ↦
        let g = given_from gives x first in
        let y = g.1 in
        let same : y.0 ≡ m = one_mapping t.mappings y.0 m ordered y.1 found (ap (λ (z : Mapping). z.id.0) y.3 ∙ id) in
        let s : is_superseded maps m ≡ true = ap (is_superseded maps) (sym same) ∙ y.2 in
        gives_up (superseded_parts m s).2 s (sym y.3 ∙ ap idled same)
    | inr later ↦
        let r = map_from (turned state restore) maps x later in
        let same : r.0 ≡ m = one_mapping t.mappings r.0 m ordered (can.among r.0 r.1) found (ap (λ (z : Mapping). z.id.0) r.2 ∙ id) in
        turns (subst (λ (z : Mapping). Contains maps z) same r.1) (sym r.2 ∙ ap (turned state restore) same)
  ]

  pub outcome : (m : Mapping) → Contains t.mappings m → Outcome m (set_in news m)
  outcome m found = elim (set_cases news m) [
    | inl same ↦
        keeps
        (λ n there e.
        let inside : Contains (map (turned state restore) maps) (turned state restore n) = map_in (turned state restore) maps n there in
        same.1 (turned state restore n) (Contains-append_right given (map (turned state restore) maps) (turned state restore n) inside) e)
        (λ g. false_from_ne_true (is_superseded maps m) (λ s.
        same.1 (idled m) (Contains-append_left given (map (turned state restore) maps) (idled m) (given_in gives m g found s)) refl))
        same.0
    | inr there ↦ outcome_new m (set_in news m) found there.0 there.1
  ]

  -- ---- the tables

  turned_restated : (m : Mapping) → Restated m (turned state restore m)
  turned_restated m = record { id = refl; name = refl; source = refl; target = refl; incremental = refl; group = λ g e. e }

  idled_restated : (m : Mapping) → Restated m (idled m)
  idled_restated m = record { id = refl; name = refl; source = refl; target = refl; incremental = refl; group = λ g e. e }

  pub all_restated : AreRestated t.mappings news
  all_restated x found = elim (Contains-append_cases given (map (turned state restore) maps) x found) [
    | inl first ↦ (let g = given_from gives x first in (g.1.0, g.1.1, subst (Restated g.1.0) g.1.3 (idled_restated g.1.0)))
    | inr later ↦ (let r = map_from (turned state restore) maps x later in (r.0, can.among r.0 r.1, subst (Restated r.0) r.2 (turned_restated r.0)))
  ]

  -- the state that it has then
  pub keeps_state : (m x : Mapping) → Outcome m x → is_idle x.state ≡ false → ((n : Mapping) → Contains maps n → n.id.0 ≢ m.id.0) → (x ≡ m) × (gives ≡ true → is_superseded maps m ≡ false)
  keeps_state m x (turns found e) busy_x out = absurd (out m found refl)
  keeps_state m x (gives_up other s e) busy_x out = absurd (both_ways (is_idle x.state) busy_x (ap (λ (z : Mapping). is_idle z.state) e))
  keeps_state m x (keeps other s e) busy_x out = (e, s)

  -- one that isn't active is idle or stopped
  inactive : (s : MapState) → is_active s ≡ false → is_idle s ≡ false → s ≡ Stopped
  inactive Stopped a i = refl
  inactive state a i = absurd cc

  -- a busy one with a target of theirs is one of them
  pub busy_among : OneBusy t.mappings → (m n : Mapping) → Contains maps m → Contains t.mappings n → n.target.0 ≡ m.target.0 → is_idle (set_in news n).state ≡ false → n.id.0 ≡ m.id.0
  busy_among one m n found there target busy_n = elim (cases_eq n.id.0 m.id.0) [
    | inl same ↦ same
    | inr other ↦ elim_outcome (outcome n there) busy_n other
  ]
    where
      elim_outcome : Outcome n (set_in news n) → is_idle (set_in news n).state ≡ false → n.id.0 ≢ m.id.0 → n.id.0 ≡ m.id.0
      elim_outcome (turns inside e) b other = can.targets n m inside found target
      elim_outcome (gives_up out s e) b other = absurd (both_ways (is_idle (set_in news n).state) b (ap (λ (z : Mapping). is_idle z.state) e))
      elim_outcome (keeps out s e) b other =
          let busy_now : is_idle n.state ≡ false = ap (λ (z : Mapping). is_idle z.state) (sym e) ∙ b in
          let stopped = inactive n.state (can.alone m n found there target other) busy_now in
          elim (cases_Bool gives) [
            | inl g ↦ absurd (both_ways (is_superseded maps n) (s g) (superseded_is n m stopped found (sym target) out))
            | inr strict ↦ one n m there (can.among m found) target busy_now (ap is_idle (can.prepared strict m found))
          ]

  pub one_busy_then : OneBusy t.mappings → OneBusy (map (set_in news) t.mappings)
  one_busy_then one x y inside also target busy_x busy_y =
      let m = map_from (set_in news) t.mappings x inside in
      let n = map_from (set_in news) t.mappings y also in
      let r = restated_in t.mappings news m.0 ordered all_restated m.1 in
      let q = restated_in t.mappings news n.0 ordered all_restated n.1 in
      let targets : m.0.target.0 ≡ n.0.target.0 =
      ap (λ (v : VolId). v.0) (sym r.target) ∙ ap (λ (z : Mapping). z.target.0) m.2 ∙ target ∙ ap (λ (z : Mapping). z.target.0) (sym n.2) ∙ ap (λ (v : VolId). v.0) q.target in
      let first : is_idle (set_in news m.0).state ≡ false = ap (λ (z : Mapping). is_idle z.state) m.2 ∙ busy_x in
      let second : is_idle (set_in news n.0).state ≡ false = ap (λ (z : Mapping). is_idle z.state) n.2 ∙ busy_y in
      ap (λ (z : Mapping). z.id.0) (sym m.2) ∙ r.id ∙ same one m.0 n.0 m.1 n.1 targets first second (outcome m.0 m.1) (outcome n.0 n.1) ∙ sym q.id ∙ ap (λ (z : Mapping). z.id.0) n.2
    where
      same : OneBusy t.mappings → (m n : Mapping) → Contains t.mappings m → Contains t.mappings n → m.target.0 ≡ n.target.0 → is_idle (set_in news m).state ≡ false → is_idle (set_in news n).state ≡ false → Outcome m (set_in news m) → Outcome n (set_in news n) → m.id.0 ≡ n.id.0
      same one m n mt nt target b c (turns found e) o = sym (busy_among one m n found nt (sym target) c)
      same one m n mt nt target b c (gives_up out s e) o = absurd (both_ways (is_idle (set_in news m).state) b (ap (λ (z : Mapping). is_idle z.state) e))
      same one m n mt nt target b c (keeps out s e) (turns found f) = busy_among one n m found mt target b
      same one m n mt nt target b c (keeps out s e) (gives_up out_too s_too f) = absurd (both_ways (is_idle (set_in news n).state) c (ap (λ (z : Mapping). is_idle z.state) f))
      same one m n mt nt target b c (keeps out s e) (keeps out_too s_too f) = one m n mt nt target (ap (λ (z : Mapping). is_idle z.state) (sym e) ∙ b) (ap (λ (z : Mapping). is_idle z.state) (sym f) ∙ c)
