-- What an entry that is right did: nothing, or the moves of its steps from the first on, a torn grain, a write.
use Rattle.std.proofs.Common.{◌≡◌, ℕ, ◌≤◌, Bool, true, false, cond, ◌||◌, eqb, Option, Some, None, List, [], ◌∷◌, ◌++◌, map, refl, sym, ap, subst, ◌∙◌, arith, ◌⊎◌, inl, inr}
use Rattle.std.proofs.lemmas.Bool.{cases_Bool, eqb-true}
use Rattle.std.proofs.lemmas.List.{append-nil}
use Rattle.fc_base.specs.Moves.{is_in_place, fill_moves, write_moves}
use Rattle.fc_base.specs.declared.request.Move.{Move}
use Rattle.fc_base.specs.declared.request.ReadPart.{ReadPart}
use Rattle.fc_base.specs.declared.request.Reply.{Reply}
use Rattle.fc_base.specs.declared.request.Reply.TheVariants.{Done, Bytes, Moved, DiskFault, MediumError, NoMemory}
use Rattle.fc_base.specs.declared.request.Request.TheVariants.{Write}
use Rattle.fc_base.specs.declared.request.Torn.{Torn}
use Rattle.fc_base.specs.declared.request.WritePart.{WritePart}
use Rattle.fc_base.specs.declared.size.GrainSize.{GrainSize}
use Rattle.fc_entry.specs.declared.entry.Entry.{Entry}
use Rattle.fc_pictures.specs.LaneLaw.{torn_of}
use Rattle.fc_pictures.proofs.Agreeing.{lane_law_holds}
use Rattle.fc_rules.specs.GrainAnswers.{ReadAnswers, WriteAnswers, FillAnswers}
use Rattle.fc_rules.specs.LaneRight.{done_write}
use Rattle.fc_entry.specs.Picture.{is_lost}
use Rattle.fc_rules.specs.Spot.{Spot, move_in}
use Rattle.fc_rules.specs.Steps.{DiskStep, step_of_move, own_step, steps_of_fill, steps_of_write, moves_of, StoppedAt, torn_by}
use Rattle.fc_parts.proofs.Grains.{MovesAt, TornAt}

-- Of the moves of these slots and the write after them, if there is one (`owns`).
pub data Outcome (spot : Spot) (ks : List ℕ) (owns : List DiskStep) (entry : Entry) (write : Option WritePart) : Type 0 where
  nothing : entry.moves ≡ [] → entry.torn ≡ None → write ≡ None → Outcome spot ks owns entry write
  stopped : (done rest : List ℕ) (k : ℕ) → ks ≡ done ++ k ∷ rest → entry.moves ≡ map (move_in spot) done → entry.torn ≡ None → write ≡ None → Outcome spot ks owns entry write
  torn_move : (done rest : List ℕ) (k : ℕ) → ks ≡ done ++ k ∷ rest → entry.moves ≡ map (move_in spot) done → is_in_place spot.column k ≡ false →
      entry.torn ≡ Some (torn_of spot (step_of_move spot k)) → write ≡ None → Outcome spot ks owns entry write
  all_made : entry.moves ≡ map (move_in spot) ks → entry.torn ≡ None → write ≡ None → Outcome spot ks owns entry write
  torn_own : (own : DiskStep) → owns ≡ own ∷ [] → entry.moves ≡ map (move_in spot) ks → entry.torn ≡ Some (torn_of spot own) → write ≡ None → Outcome spot ks owns entry write
  is_written : (own : DiskStep) (part : WritePart) → owns ≡ own ∷ [] → entry.moves ≡ map (move_in spot) ks → entry.torn ≡ None → write ≡ Some part → Outcome spot ks owns entry write

-- ---- where steps stop

moves_map : (spot : Spot) (ks : List ℕ) → moves_of (map (step_of_move spot) ks) ≡ map (move_in spot) ks
moves_map spot ks = lane_law_holds.moves_told spot ks

-- at a move
record AtMove (spot : Spot) (ks : List ℕ) (before : List DiskStep) (step : DiskStep) : Type 0 where
  done : List ℕ
  rest : List ℕ
  slot : ℕ
  split : ks ≡ done ++ slot ∷ rest
  before_is : before ≡ map (step_of_move spot) done
  step_is : step ≡ step_of_move spot slot

-- or past all of them
record PastMoves (spot : Spot) (ks : List ℕ) (owns before after : List DiskStep) (step : DiskStep) : Type 0 where
  tail : List DiskStep
  before_is : before ≡ map (step_of_move spot) ks ++ tail
  owns_are : owns ≡ tail ++ step ∷ after

head_is : {X : Type 0} → (x y : X) (xs ys : List X) → x ∷ xs ≡ y ∷ ys → x ≡ y
head_is x y xs ys e = cc

tail_is : {X : Type 0} → (x y : X) (xs ys : List X) → x ∷ xs ≡ y ∷ ys → xs ≡ ys
tail_is x y xs ys e = cc

where_stopped : (spot : Spot) (ks : List ℕ) (owns before after : List DiskStep) (step : DiskStep) → map (step_of_move spot) ks ++ owns ≡ before ++ step ∷ after → AtMove spot ks before step ⊎ PastMoves spot ks owns before after step
where_stopped spot [] owns before after step e = inr (record { tail = before; before_is = refl; owns_are = e })
where_stopped spot (k ∷ ks) owns [] after step e =
    inl (record { done = []; rest = ks; slot = k; split = refl; before_is = refl; step_is = sym (head_is (step_of_move spot k) step _ _ e) })
where_stopped spot (k ∷ ks) owns (b ∷ before) after step e =
    let first : step_of_move spot k ≡ b = head_is (step_of_move spot k) b _ _ e in
    elim (where_stopped spot ks owns before after step (tail_is (step_of_move spot k) b _ _ e)) [
      | inl a ↦ inl (record {
        done = k ∷ a.done;
        rest = a.rest;
        slot = a.slot;
        split = ap (λ z. k ∷ z) a.split;
        before_is = ap (λ z. z ∷ before) (sym first) ∙ ap (λ z. step_of_move spot k ∷ z) a.before_is;
        step_is = a.step_is;
      })
      | inr p ↦ inr (record { tail = p.tail; before_is = ap (λ z. z ∷ before) (sym first) ∙ ap (λ z. step_of_move spot k ∷ z) p.before_is; owns_are = p.owns_are })
    ]

-- the one step after the moves is the write
one_own : (own step : DiskStep) (tail after : List DiskStep) → own ∷ [] ≡ tail ++ step ∷ after → (tail ≡ []) × (own ≡ step)
one_own own step [] after e = (refl, head_is own step [] after e)
one_own own step (x ∷ []) after e = absurd (let f : [] ≡ step ∷ after = tail_is own x [] (step ∷ after) e in cc)
one_own own step (x ∷ (y ∷ tail)) after e = absurd (let f : [] ≡ y ∷ (tail ++ step ∷ after) = tail_is own x [] (y ∷ (tail ++ step ∷ after)) e in cc)

no_own : (step : DiskStep) (tail after : List DiskStep) → [] ≡ tail ++ step ∷ after → ⊥
no_own step [] after e = cc
no_own step (x ∷ tail) after e = cc

-- ---- what is torn

torn_ways : (spot : Spot) (step : DiskStep) (extra : ℕ) → (torn_by spot step extra ≡ None) ⊎ ((torn_by spot step extra ≡ Some (torn_of spot step)) × (extra ≡ step.calls))
torn_ways spot step extra =
    elim (cases_Bool (eqb extra step.calls)) [
      | inl y ↦ inr (ap (λ b. cond b (Some (torn_of spot step)) None) y, eqb-true extra step.calls y)
      | inr n ↦ inl (ap (λ b. cond b (Some (torn_of spot step)) None) n)
    ]

-- a move that calls a disk isn't in place
calls_out : (in_place lost : Bool) → 1 ≤ cond (in_place || lost) 0 2 → in_place ≡ false
calls_out true lost le = absurd (omega arith)
calls_out false lost le = refl

-- ---- outcomes

record StoppedAs (spot : Spot) (step : DiskStep) (extra : ℕ) (torn : Option Torn) : Type 0 where
  called : 1 ≤ extra
  is_torn : torn ≡ torn_by spot step extra

-- stopped by a call that failed, or for want of memory
abbrev WhyStopped : Spot → DiskStep → ℕ → Option Torn → Type 0
WhyStopped spot step extra torn = (torn ≡ None) ⊎ StoppedAs spot step extra torn

stopped_outcome : (spot : Spot) (ks : List ℕ) (owns : List DiskStep) (entry : Entry) (write : Option WritePart) (step : DiskStep) (extra : ℕ) → ((s : DiskStep) (t a : List DiskStep) → owns ≡ t ++ s ∷ a → (owns ≡ s ∷ []) × (t ≡ [])) →
    StoppedAt (map (step_of_move spot) ks ++ owns) step extra entry → WhyStopped spot step extra entry.torn → write ≡ None → Outcome spot ks owns entry write
stopped_outcome spot ks owns entry write step extra one st why none =
    elim (where_stopped spot ks owns st.before st.after step st.steps_are) [
      | inl a ↦ let moves : entry.moves ≡ map (move_in spot) a.done = st.moves ∙ (ap moves_of a.before_is ∙ moves_map spot a.done) in
          elim why [
            | inl untorn ↦ stopped a.done a.rest a.slot a.split moves untorn none
            | inr w ↦ elim (torn_ways spot step extra) [
              | inl n ↦ stopped a.done a.rest a.slot a.split moves (w.is_torn ∙ n) none
              | inr t ↦ torn_move a.done a.rest a.slot a.split moves
                  (calls_out (is_in_place spot.column a.slot) (is_lost (spot.now (spot.column.volume a.slot)))
                  (let c : 1 ≤ extra = w.called in let e : extra ≡ (step_of_move spot a.slot).calls = t.1 ∙ ap (λ (z : DiskStep). z.calls) a.step_is in subst (λ z. 1 ≤ z) e c))
                  (w.is_torn ∙ (t.0 ∙ ap (λ (z : DiskStep). Some (torn_of spot z)) a.step_is)) none
            ]
          ]
      | inr p ↦ let o = one step p.tail st.after p.owns_are in
          let moves : entry.moves ≡ map (move_in spot) ks = st.moves ∙ (ap moves_of (p.before_is ∙ (ap (λ z. map (step_of_move spot) ks ++ z) o.1 ∙ append-nil (map (step_of_move spot) ks))) ∙ moves_map spot ks) in
          elim why [
            | inl untorn ↦ all_made moves untorn none
            | inr w ↦ elim (torn_ways spot step extra) [
              | inl n ↦ all_made moves (w.is_torn ∙ n) none
              | inr t ↦ torn_own step o.0 moves (w.is_torn ∙ t.0) none
            ]
          ]
    ]

-- ---- of answers

fill_stopped : (spot : Spot) (k : ℕ) (entry : Entry) (step : DiskStep) (extra : ℕ) → StoppedAt (steps_of_fill spot k) step extra entry → WhyStopped spot step extra entry.torn → Outcome spot (fill_moves spot.column k) [] entry None
fill_stopped spot k entry step extra st why =
    stopped_outcome spot (fill_moves spot.column k) [] entry None step extra (λ s t a e. absurd (no_own s t a e))
    (subst (λ (z : List DiskStep). StoppedAt z step extra entry) (sym (append-nil (steps_of_fill spot k))) st) why refl

pub fill_outcome : (spot : Spot) (m k : ℕ) (entry : Entry) (reply : Reply) → FillAnswers spot m k entry reply → Outcome spot (fill_moves spot.column k) [] entry None
fill_outcome spot m k entry (Moved map grain) a = all_made (a.2.moves ∙ moves_map spot (fill_moves spot.column k)) a.2.untorn refl
fill_outcome spot m k entry DiskFault a = fill_stopped spot k entry a.step a.extra a.stopped (inr (record { called = a.called; is_torn = a.torn }))
fill_outcome spot m k entry NoMemory a = fill_stopped spot k entry a.step a.extra a.stopped (inl a.untorn)
fill_outcome spot m k entry reply a = absurd a

write_stopped : (grain : GrainSize) (spot : Spot) (part : WritePart) (t : ℕ) (entry : Entry) (step : DiskStep) (extra : ℕ) → StoppedAt (steps_of_write grain spot part t) step extra entry → WhyStopped spot step extra entry.torn →
    Outcome spot (write_moves spot.column t) (own_step grain spot part t ∷ []) entry None
write_stopped grain spot part t entry step extra st why =
    stopped_outcome spot (write_moves spot.column t) (own_step grain spot part t ∷ []) entry None step extra
    (λ s tail a e. let o = one_own (own_step grain spot part t) s tail a e in (ap (λ z. z ∷ []) o.1, o.0))
    st why refl

pub write_outcome : (grain : GrainSize) (spot : Spot) (part : WritePart) (t : ℕ) (entry : Entry) (reply : Reply) → WriteAnswers grain spot part t entry reply →
    Outcome spot (write_moves spot.column t) (own_step grain spot part t ∷ []) entry (done_write (Write part) reply)
write_outcome grain spot part t entry Done a =
    is_written (own_step grain spot part t) part refl (a.1.moves ∙ lane_law_holds.write_told grain spot part t) a.1.untorn refl
write_outcome grain spot part t entry MediumError a = nothing a.1.moves a.1.untorn refl
write_outcome grain spot part t entry DiskFault a =
    let f = a.1 in write_stopped grain spot part t entry f.step f.extra f.stopped (inr (record { called = f.called; is_torn = f.torn }))
write_outcome grain spot part t entry NoMemory a = let f = a.1 in write_stopped grain spot part t entry f.step f.extra f.stopped (inl f.untorn)
write_outcome grain spot part t entry reply a = absurd a

pub read_nothing : (grain : GrainSize) (spot : Spot) (part : ReadPart) (entry : Entry) (reply : Reply) → ReadAnswers grain spot part entry reply → (entry.moves ≡ []) × (entry.torn ≡ None)
read_nothing grain spot part entry (Bytes runs) a = (a.1.moves, a.1.untorn)
read_nothing grain spot part entry MediumError a = (a.1.moves, a.1.untorn)
read_nothing grain spot part entry DiskFault a = (a.1.moves, a.1.untorn)
read_nothing grain spot part entry NoMemory a = (a.3.moves, a.3.untorn)
read_nothing grain spot part entry reply a = absurd a

-- ---- at one grain

moves_at : (spot : Spot) (ks : List ℕ) → MovesAt spot.number (map (move_in spot) ks)
moves_at spot [] = tt
moves_at spot (k ∷ ks) = (refl, moves_at spot ks)

-- Moves and a torn grain are at the spot's grain.
pub record AllAt (number : ℕ) (entry : Entry) : Type 0 where
  pub moves : MovesAt number entry.moves
  pub torn : TornAt number entry.torn

pub nothing_at : (number : ℕ) (entry : Entry) → entry.moves ≡ [] → entry.torn ≡ None → AllAt number entry
nothing_at number entry m t = record { moves = subst (λ (z : List Move). MovesAt number z) (sym m) tt; torn = subst (λ (z : Option Torn). TornAt number z) (sym t) tt }

made_at : (spot : Spot) (ks : List ℕ) (entry : Entry) → entry.moves ≡ map (move_in spot) ks → MovesAt spot.number entry.moves
made_at spot ks entry e = subst (λ (z : List Move). MovesAt spot.number z) (sym e) (moves_at spot ks)

untorn_at : (number : ℕ) (entry : Entry) → entry.torn ≡ None → TornAt number entry.torn
untorn_at number entry e = subst (λ (z : Option Torn). TornAt number z) (sym e) tt

torn_at : (spot : Spot) (step : DiskStep) (entry : Entry) → entry.torn ≡ Some (torn_of spot step) → TornAt spot.number entry.torn
torn_at spot step entry e = subst (λ (z : Option Torn). TornAt spot.number z) (sym e) refl

pub outcome_at : (spot : Spot) (ks : List ℕ) (owns : List DiskStep) (entry : Entry) (write : Option WritePart) → Outcome spot ks owns entry write → AllAt spot.number entry
outcome_at spot ks owns entry write (nothing m t w) = nothing_at spot.number entry m t
outcome_at spot ks owns entry write (stopped done rest k split m t w) = record { moves = made_at spot done entry m; torn = untorn_at spot.number entry t }
outcome_at spot ks owns entry write (torn_move done rest k split m out t w) = record { moves = made_at spot done entry m; torn = torn_at spot (step_of_move spot k) entry t }
outcome_at spot ks owns entry write (all_made m t w) = record { moves = made_at spot ks entry m; torn = untorn_at spot.number entry t }
outcome_at spot ks owns entry write (torn_own own o m t w) = record { moves = made_at spot ks entry m; torn = torn_at spot own entry t }
outcome_at spot ks owns entry write (is_written own part o m t w) = record { moves = made_at spot ks entry m; torn = untorn_at spot.number entry t }
