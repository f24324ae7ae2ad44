-- A pass may go to another thread where the parts may, and a yard may be shared.
use denote.RattleType.{RattleType}
use denote.Plain.{UInt}
use denote.Struct.Declared.{shape}
use mir.Syntax.{w64}
use denote.Param.Send.{IsSend, IsSync, sendable, owning_send, struct_sync, recorded_sync, view_sync}
use Rattle.atomic_table.proofs.shared.Seat.TheSendSync.{the_send as seat_send}
use Rattle.std.specs.contracts.snapshot.Snapshot.{the_row as snapshot_row, the_type as snapshot_type}
use Rattle.fc_yard.specs.contracts.rule.Stall.{the_row as stall_row}
use Rattle.fc_yard.specs.contracts.rule.View.{the_row as view_row}
use Rattle.fc_yard.specs.contracts.rule.Terms.{the_row as terms_row}
use Rattle.fc_yard.specs.contracts.rule.Turns.{the_row as turns_row}
use Rattle.fc_yard.specs.contracts.rule.TurnsTableRuleStallViewTerms.TheImpl as rule
use Rattle.fc_yard.specs.contracts.yard.Yard.{the_row as yard_row, the_field as yard_field}
use Rattle.fc_yard.specs.contracts.yard.Yard.TheInside as inside
use Rattle.atomic_table.proofs.shared.Shared.TheSendSync.{the_sync as shared_sync}
use Rattle.atomic_table.proofs.send_lease.SendLease.TheSendSync.{the_sync as lease_sync}
use Rattle.atomic_table.specs.contracts.send_lease.SendLease.{the_row as lease_row}
use Rattle.atomic_table.specs.contracts.owned.Table.{the_field as table_field}
use Rattle.std.specs.contracts.alloc.Global.{the_row as heap_row}
use Rattle.std.specs.contracts.impls.GlobalAllocator.TheImpl.{ghosts}
use Rattle.std.proofs.Crossing.{frees, send as heap_send, sync as heap_sync}
use Rattle.fc_yard.specs.contracts.pass.Pass.{the_row, the_field as pass_field}

snapshot_send : (T : RattleType) → IsSend (snapshot_row T)
snapshot_send T = owning_send (snapshot_type T) (search sendable, tt) (λ d. tt) (λ k x w. tt)

pub stall_send : (P E : RattleType) → IsSend P → IsSend (stall_row P E)
stall_send P E s = search (sendable, snapshot_send) depth 12

pub pass_send : (P E : RattleType) → IsSend P → IsSend (the_row P E)
pass_send P E s = let stall = stall_send P E s in search (sendable, seat_send) depth 9

lease_shared : (T : RattleType) → IsSync (lease_row T heap_row ghosts)
lease_shared T = lease_sync T heap_row ghosts heap_send (record { frees = λ a τ p. frees.frees a τ p })

table_sync : (S V K R : RattleType) (g : _) → IsSend S → IsSync (table_field S V K R heap_row g ghosts).row
table_sync S V K R g s = search (sendable, shared_sync, lease_shared, heap_sync) depth 9

stalls_sync : (P E V K R : RattleType) (g : _) → IsSend P → IsSync (table_field (stall_row P E) V K R heap_row g ghosts).row
stalls_sync P E V K R g s = table_sync (stall_row P E) V K R g (stall_send P E s)

fields_sync : (W E P : RattleType) (g : _) → IsSend P → IsSync (inside.the_row W E P g)
fields_sync W E P g s =
    let number : IsSync (UInt w64) = search sendable in
    recorded_sync (inside.the_field W E P g).row _ _ (inside.the_type W E P g).to_one (struct_sync (shape (inside.the_type W E P g)) (stalls_sync P E (view_row P E) (terms_row P) (turns_row W) (rule.ghosts W E P g rule.no_dict rule.no_dict) s, (number, (number, tt))))

pub yard_sync : (W E P : RattleType) (g : _) → IsSend P → IsSync (yard_row W E P g)
yard_sync W E P g s = view_sync _ _ _ _ _ (fields_sync W E P g s)

-- the same of a pass and a yard that lie in another type, or that a closure captures
pub pass_field_send : (P E : RattleType) → IsSend P → IsSend (pass_field P E).row
pass_field_send P E s = pass_send P E s

pub yard_field_sync : (W E P : RattleType) (g : _) → IsSend P → IsSync (yard_field W E P g).row
yard_field_sync W E P g s = yard_sync W E P g s
