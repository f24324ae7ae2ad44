use Rattle.std.proofs.Common.{◌≡◌, List, ℕ, ◌++◌, ◌-◌, length, take, drop, ap, sym, ◌∙◌}
use Rattle.fc_metadisk.specs.Stop.{StopState}
use Rattle.std.proofs.Math.Seq.{take_at}
use Rattle.fc_metadisk.specs.Disk.{bytes_put, bytes_at}
use Rattle.fc_metadisk.proofs.Stopping.{settle_kept, settled}
use Rattle.fc_metadisk.proofs.stop.StopMeta.settle.Goals as goal
use Rattle.fc_metadisk.proofs.stop.StopMeta.settle.Goals.{After-self-3-1}

-- the row that was synced, written through the slice
written : (c : After-self-3-1) → take c.self.inside.synced.len (c.put_bytes.new.row ++ drop (length c.put_bytes.new.row) c.self.inside.synced.items) ≡ c.self.inside.bytes.items
written c =
    let is : c.put_bytes.new.row ≡ bytes_put c.self.inside.low (bytes_at c.self.inside.low (c.max-end.result - c.self.inside.low) c.self.inside.bytes.items) c.self.inside.synced.items =
    c.put_bytes.ensures
    ∙ (ap (bytes_put c.self.inside.low (bytes_at c.self.inside.low (c.max-end.result - c.self.inside.low) c.deref.result.now)) c.as_mut_slice.ensures.value
    ∙ ap (λ (z : List ℕ). bytes_put c.self.inside.low (bytes_at c.self.inside.low (c.max-end.result - c.self.inside.low) z) c.self.inside.synced.items) c.deref.ensures.value) in
    let same : c.put_bytes.new.row ≡ c.self.inside.bytes.items =
    settle_kept c.self.inside.bytes.items c.self.inside.synced.items c.self.inside.low c.self.inside.high c.self.inside.calls c.self.inside.faults c.self.inside.stop c.self.invariant
    c.max-end.result c.put_bytes.new.row c.max-end.ensures is in
    let long : length c.put_bytes.new.row ≡ c.self.inside.synced.len =
    ap length same ∙ (c.self.invariant.apart.size ∙ (sym (ap length c.as_mut_slice.ensures.value) ∙ c.as_mut_slice.ensures.len)) in
    take_at c.put_bytes.new.row (drop (length c.put_bytes.new.row) c.self.inside.synced.items) c.self.inside.synced.len long ∙ same

pub invariant_of-self : goal.invariant_of-self
invariant_of-self c =
    settled c.self.inside.bytes.items _ c.self.inside.calls c.self.inside.faults c.self.inside.stop c.self.invariant (written c) c.len-self-inside.result (c.len-self-inside.ensures ∙ (sym c.deref.ensures.len ∙ ap length c.deref.ensures.value))

pub returns : goal.returns
returns c =
    ap (λ (z : List ℕ). record { bytes = c.self.inside.bytes.items; synced = z; calls = c.self.inside.calls; faults = c.self.inside.faults; stop = c.self.inside.stop }) (written c)
    ∙ ap (λ (d : StopState). record d { synced = d.bytes }) c.self.view_is
