use Rattle.std.proofs.Common.{◌≡◌, List, ℕ, ◌++◌, ◌+◌, ◌≤◌, length, take, drop, ap, sym, ◌∙◌, subst}
use Rattle.std.proofs.Math.Seq.{take_at}
use Rattle.fc_metadisk.specs.Disk.{bytes_put}
use Rattle.fc_metadisk.proofs.Rows.{length_put}
use Rattle.fc_metadisk.proofs.Stopping.{put_kept}
use Rattle.fc_metadisk.proofs.stop.StopMeta.put.Goals as goal

-- the whole row, written through the slice
pub invariant_of-self : goal.invariant_of-self
invariant_of-self c =
    let inside : c.args.at + length c.args.bytes.now ≤ length c.self.inside.bytes.items = subst (λ (z : List ℕ). c.args.at + length c.args.bytes.now ≤ length z) (sym (ap (λ d. d.bytes) c.self.view_is)) c.requires in
    let is : c.put_bytes.new.row ≡ bytes_put c.args.at c.args.bytes.now c.self.inside.bytes.items =
    c.put_bytes.ensures ∙ ap (bytes_put c.args.at c.args.bytes.now) c.as_mut_slice.ensures.value in
    let long : length c.put_bytes.new.row ≡ c.self.inside.bytes.len =
    ap length is ∙ (length_put c.args.at c.args.bytes.now c.self.inside.bytes.items inside ∙ (sym (ap length c.as_mut_slice.ensures.value) ∙ c.as_mut_slice.ensures.len)) in
    let whole : take c.self.inside.bytes.len (c.put_bytes.new.row ++ drop (length c.put_bytes.new.row) c.self.inside.bytes.items) ≡ c.put_bytes.new.row =
    take_at c.put_bytes.new.row (drop (length c.put_bytes.new.row) c.self.inside.bytes.items) c.self.inside.bytes.len long in
    put_kept c.self.inside.bytes.items c.self.inside.synced.items c.self.inside.low c.self.inside.high c.self.inside.calls c.self.inside.faults c.self.inside.stop c.self.invariant
    c.args.at c.args.bytes.now _ inside (whole ∙ is) _ _ c.min-self-inside.ensures c.max-self-inside.ensures
