-- Passes over counters, and a yard of them, may cross threads.
use denote.RattleType.{RattleType}
use Rattle.std.proofs.Common.{[], ◌∷◌}
use denote.Param.{param, arg}
use mir.Syntax.{Ty}
use denote.Exit.{no}
use denote.Struct.Declared.{Declared, shape}
use denote.Struct.Struct.{Struct}
use denote.Struct.Field.{shr_ref_field, u64-field}
use denote.Struct.Tuple.{TupleAt, type_at}
use denote.Param.Send.{IsSend, IsSync, sendable, struct_send, recorded_send, param_send, arg_send}
use Rattle.std.specs.contracts.alloc.Global.{the_row as heap_row}
use Rattle.std.proofs.Crossing as heap
use Rattle.yard_tests.specs.contracts.counter.Counts.{the_row as counts_row}
use Rattle.yard_tests.specs.contracts.counter.Tally.{the_row as tally_row}
use Rattle.yard_tests.specs.contracts.counter.CounterPartCountsTally.TheImpl.{ghosts}
use Rattle.fc_yard.specs.contracts.pass.Pass.{the_row as pass_row}
use Rattle.fc_yard.specs.contracts.yard.Yard.{the_row as yard_row}
use Rattle.fc_yard.proofs.Crossing.{pass_send, yard_sync}
use Rattle.yard_tests.specs.contracts.counter.Counter.{the_row as counter_row}

counter_send : IsSend counter_row
counter_send = search sendable depth 12

pub counter_pass_send : (E : RattleType) → IsSend (pass_row counter_row E)
counter_pass_send E = pass_send counter_row E counter_send

pub counters_sync : (W E : RattleType) (g : _) → IsSync (yard_row W E counter_row g)
counters_sync W E g = yard_sync W E counter_row g counter_send

-- what a closure captures
pub eight_send : (ν : _) (A B C D E F G H : RattleType) → IsSend A → IsSend B → IsSend C → IsSend D → IsSend E → IsSend F → IsSend G → IsSend H → IsSend (TupleAt ν (A ∷ B ∷ C ∷ D ∷ E ∷ F ∷ G ∷ H ∷ []))
eight_send ν A B C D E F G H a b c d e f g h =
    let T : Declared = type_at ν (A ∷ B ∷ C ∷ D ∷ E ∷ F ∷ G ∷ H ∷ []) in
    recorded_send (Struct (shape T)) _ _ T.to_one (struct_send (shape T) (a, (b, (c, (d, (e, (f, (g, (h, tt)))))))))

pub reference_send : (ℓ : _) (R : RattleType) (o : _) → IsSync R → IsSend (shr_ref_field ℓ R o).row
reference_send ℓ R o s = search sendable

pub number_send : IsSend (u64-field).row
number_send = search sendable

-- the closure of a crowd
pub crowd_send : (δ : Ty) (ν : _) (R : RattleType) (ℓ ℓ' : _) → IsSync (param 0 R)
    → IsSend (param 1 (arg δ no (TupleAt ν ((shr_ref_field ℓ (param 0 R) tt).row ∷ heap_row ∷ (shr_ref_field ℓ' (yard_row counts_row tally_row counter_row ghosts) tt).row ∷ (u64-field).row
    ∷ pass_row counter_row tally_row ∷ (u64-field).row ∷ (u64-field).row ∷ (u64-field).row ∷ []))))
crowd_send δ ν R ℓ ℓ' s =
    param_send 1 _ (arg_send δ no _ (eight_send ν _ _ _ _ _ _ _ _ (reference_send ℓ (param 0 R) tt s) heap.send
    (reference_send ℓ' (yard_row counts_row tally_row counter_row ghosts) tt (counters_sync counts_row tally_row ghosts)) number_send (counter_pass_send tally_row) number_send number_send number_send))
