-- The law of sheets.
use Rattle.std.proofs.Common.{ℕ, ◌<◌, Option, [], sym, subst, arith}
use Rattle.fc_base.specs.declared.decision.LaneEvent.{LaneEvent}
use Rattle.fc_base.specs.declared.decision.LaneEvent.TheVariants.{Make, Remove, Trigger, Retire, Detach, Split, Force, Drop, Forget, NoteCut, Access, Work, Arm}
use Rattle.fc_base.specs.Sheet.{Sheet, no_slots, shape_of}
use Rattle.fc_base.specs.SheetStep.{sheet_step, at_place, retired_at, detached_at, split_at}
use Rattle.fc_base.specs.SheetFacts.{IsSound}
use Rattle.fc_base.specs.SheetFits.{FitsEvent}
use Rattle.fc_base.specs.RestoreGraph.{Edge, Way, Way.last_edge, Way.next_edge}
use Rattle.fc_sheets.specs.Law.{SheetLaw}
use Rattle.fc_sheets.proofs.Finding.{mapping_place_at}
use Rattle.fc_sheets.proofs.Events.{made_sound, removed_sound, retired_sound, detached_sound, dropped_sound, split_sound}
use Rattle.fc_sheets.proofs.Forcing.{forced_sound}
use Rattle.fc_sheets.proofs.Starting.{triggered_sound}
use Rattle.fc_sheets.proofs.Holding.{moved_sound, written_sound, torn_sound}

no_edge : (v w : ℕ) → Edge (shape_of []) v w → ⊥
no_edge v w e = let t : e.live < 0 = e.there in omega arith

no_way : (v w : ℕ) → Way (shape_of []) v w → ⊥
no_way v w (last_edge e) = no_edge v w e
no_way v x (next_edge {w = w} e k) = no_edge v w e

pub none_sound : IsSound no_slots
none_sound =
    record {
      names = record { births = λ k kl. absurd (omega arith); apart = λ i j il jl e. absurd (omega arith); chains = λ k kl. absurd (omega arith); fresh = λ i j m il jl e q. omega arith };
      sizes = record { of_chain = λ i j il jl e. absurd (omega arith); of_volume = λ i j il jl e. absurd (omega arith) };
      mappings = record { one_slot = λ i j m il jl e f. absurd (omega arith); complete = λ k kl l e. absurd (omega arith) };
      one_live = λ i j il jl a b e. absurd (omega arith);
      lives = λ k kl. absurd (omega arith);
      holders = λ g k kl l gl. absurd (omega arith);
      no_loop = λ v w. no_way v v w;
    }

pub event_sound : (local : ℕ → ℕ) (s : Sheet) (e : LaneEvent) → IsSound s → FitsEvent s e → IsSound (sheet_step local s e)
event_sound local s (Make volume grains kind) i f = made_sound s volume.0 (local grains) i f
event_sound local s (Remove volume) i f = removed_sound s volume.0 i f
event_sound local s (Trigger pairs) i f = triggered_sound s pairs i f
event_sound local s (Retire m) i f =
    let p = mapping_place_at s.slots m.0 f.0 f.1.is_there in
    subst (λ (o : Option ℕ). IsSound (at_place retired_at o s)) (sym f.1.is_there) (retired_sound s f.0 i p.0 f.1.is_live)
event_sound local s (Detach m) i f =
    let p = mapping_place_at s.slots m.0 f.0 f.1.is_there in
    subst (λ (o : Option ℕ). IsSound (at_place detached_at o s)) (sym f.1.is_there) (detached_sound s f.0 i p.0 f.1.is_live f.2)
event_sound local s (Split m) i f =
    let p = mapping_place_at s.slots m.0 f.0 f.1.is_there in
    subst (λ (o : Option ℕ). IsSound (at_place split_at o s)) (sym f.1.is_there) (split_sound s m.0 f.0 i p.0 p.1 f.2)
event_sound local s (Force m dependents) i f = forced_sound s m dependents i f
event_sound local s (Drop slot) i f = dropped_sound s slot.0 i f
event_sound local s (Forget m) i f = i
event_sound local s (NoteCut m source target) i f = i
event_sound local s (Access volume access) i f = i
event_sound local s (Work m copies cleans) i f = i
event_sound local s (Arm volume grain calls) i f = i

pub sheet_law_holds : SheetLaw
sheet_law_holds = record { none = none_sound; event = event_sound; moved = moved_sound; written = written_sound; torn = torn_sound }
