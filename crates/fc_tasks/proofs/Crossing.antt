-- What actors take to their threads, and what they bring back.
use denote.RattleType.{RattleType}
use Rattle.std.proofs.Common.{[], ◌∷◌}
use denote.Param.{param, arg}
use mir.Syntax.{Ty}
use denote.Exit.{no}
use denote.Struct.Declared.{Declared, shape}
use denote.Struct.Struct.{Struct}
use denote.Struct.Field.{shr_ref_field, u64-field}
use denote.Struct.Tuple.{TupleAt, type_at}
use denote.Param.Send.{IsSend, IsSync, sendable, struct_send, recorded_send, param_send, arg_send}
use Rattle.std.proofs.Crossing.{Vec-send, send as heap_send}
use Rattle.std.specs.contracts.alloc.Global.{the_row as heap_row}
use Rattle.std.specs.contracts.impls.GlobalAllocator.TheImpl.{ghosts}
use Rattle.std.specs.contracts.vec.Vec.{the_row as vec_row}
use Rattle.fc_yard.specs.contracts.pass.Pass.{the_row as pass_row}
use Rattle.fc_yard.specs.contracts.yard.Yard.{the_row as yard_row}
use Rattle.fc_yard.proofs.Crossing.{pass_send, yard_sync}
use Rattle.fc_tasks.specs.contracts.actor.Answered.{the_row as answered_row}

seven_send : (ν : _) (A B C D E F G : RattleType) → IsSend A → IsSend B → IsSend C → IsSend D → IsSend E → IsSend F → IsSend G → IsSend (TupleAt ν (A ∷ B ∷ C ∷ D ∷ E ∷ F ∷ G ∷ []))
seven_send ν A B C D E F G a b c d e f g =
    let T : Declared = type_at ν (A ∷ B ∷ C ∷ D ∷ E ∷ F ∷ G ∷ []) in
    recorded_send (Struct (shape T)) _ _ T.to_one (struct_send (shape T) (a, (b, (c, (d, (e, (f, (g, tt))))))))

pub reference_send : (ℓ : _) (R : RattleType) (o : _) → IsSync R → IsSend (shr_ref_field ℓ R o).row
reference_send ℓ R o s = search sendable

-- an entry with its number
pub pair_send : (ν : _) (E : RattleType) → IsSend E → IsSend (TupleAt ν ((u64-field).row ∷ E ∷ []))
pair_send ν E e =
    let n : IsSend (u64-field).row = search sendable in let T : Declared = type_at ν ((u64-field).row ∷ E ∷ []) in
    recorded_send (Struct (shape T)) _ _ T.to_one (struct_send (shape T) (n, (e, tt)))

pub answered_send : (E S : RattleType) → IsSend E → IsSend S → IsSend (answered_row E S)
answered_send E S e s = search (sendable, Vec-send, pair_send) depth 20

-- the closure of all actors but one
pub act_send : (δ : Ty) (ν : _) (R W E P S G : RattleType) (g : _) (ℓ ℓ' ℓ'' : _) → IsSync (param 0 R) → IsSync (param 5 G) → IsSend (param 2 E) → IsSend (param 3 P) → IsSend (param 4 S)
    → IsSend (param 1 (arg δ no (TupleAt ν ((shr_ref_field ℓ (param 0 R) tt).row ∷ heap_row ∷ (shr_ref_field ℓ' (yard_row (param 1 W) (param 2 E) (param 3 P) g) tt).row ∷ (shr_ref_field ℓ'' (param 5 G) tt).row
    ∷ pass_row (param 3 P) (param 2 E) ∷ vec_row (param 4 S) heap_row ghosts ∷ vec_row (answered_row (param 2 E) (param 4 S)) heap_row ghosts ∷ []))))
act_send δ ν R W E P S G g ℓ ℓ' ℓ'' r gate e p s =
    param_send 1 _ (arg_send δ no _ (seven_send ν _ _ _ _ _ _ _ (reference_send ℓ (param 0 R) tt r) heap_send
    (reference_send ℓ' (yard_row (param 1 W) (param 2 E) (param 3 P) g) tt (yard_sync (param 1 W) (param 2 E) (param 3 P) g p)) (reference_send ℓ'' (param 5 G) tt gate)
    (pass_send (param 3 P) (param 2 E) p) (Vec-send (param 4 S) s) (Vec-send (answered_row (param 2 E) (param 4 S)) (answered_send (param 2 E) (param 4 S) e s))))
