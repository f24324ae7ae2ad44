use Rattle.std.proofs.Common.{◌≡◌, ◌<◌, ◌+◌, ◌-◌, ◌++◌, false, take, drop, length, map, is_err, ap, sym, ◌∙◌, arith}
use Rattle.fc_entry.specs.Picture.{is_lost}
use Rattle.fc_base.specs.Grain.{grain_bytes}
use Rattle.fc_grains.specs.Grains.{stopped}
use Rattle.fc_grains.specs.Parts.{grains_of}
use Rattle.fc_grains.specs.Volumes.{volume_of, stored}
use Rattle.std.proofs.lemmas.List.{with_items_is}
use Rattle.fc_grains.proofs.Calling.{length-grain, kept_read, has_read}
use Rattle.fc_grains.proofs.Changing.{grain_there}
use Rattle.fc_grains.proofs.Finding.{at_within, at_found, is_there_by}
use Rattle.fc_grains.proofs.grains.Grains.read.Goals as goal

pub place_of-at-requires-clause-there : goal.place_of-at-requires-clause-there
place_of-at-requires-clause-there g c =
    let there : c.args.place < length (volume_of (map grains_of c.self.inside.volumes.items) c.args.volume.0).contents = rw (← c.self.view_is) at c.requires.there in
    rw c.deref.ensures.value (is_there_by (map grains_of c.self.inside.volumes.items) c.args.volume.0 c.args.place there)

pub read-result-requires-clause-in_range : goal.read-result-requires-clause-in_range
read-result-requires-clause-in_range g c =
    let there : c.args.place < length (volume_of (map grains_of c.self.inside.volumes.items) c.args.volume.0).contents = rw (← c.self.view_is) at c.requires.there in
    grain_there _ c.self.invariant.rising _ (at_within _ _ _ c.deref.ensures.value c.place_of-at.ensures.in_range) _ c.index_mut-disk.ensures.value _ (at_found _ _ _ _ c.deref.ensures.value c.place_of-at.ensures.found) c.args.place there

pub read-result-requires-clause-whole : goal.read-result-requires-clause-whole
read-result-requires-clause-whole g c =
    let there : c.args.place < length (volume_of (map grains_of c.self.inside.volumes.items) c.args.volume.0).contents = rw (← c.self.view_is) at c.requires.there in
    ap length c.deref_mut.ensures.value ∙ c.self.invariant.buffer_size ∙ sym (length-grain _ _ _ _ _ _ _ _ c.self.invariant _ (at_within _ _ _ c.deref.ensures.value c.place_of-at.ensures.in_range) _ c.index_mut-disk.ensures.value _ (at_found _ _ _ _ c.deref.ensures.value c.place_of-at.ensures.found) c.args.place there)

pub invariant_of-self : goal.invariant_of-self
invariant_of-self g c =
    let filled : take c.self.inside.buffer.len (c.read-result.new.out ++ drop (length c.read-result.new.out) c.self.inside.buffer.items) ≡ c.read-result.new.out =
    with_items_is c.self.inside.buffer c.read-result.new.out (omega arith) in
    let size : length (take c.self.inside.buffer.len (c.read-result.new.out ++ drop (length c.read-result.new.out) c.self.inside.buffer.items)) ≡ grain_bytes c.self.inside.grain =
    ap length filled ∙ c.read-result.auto.out ∙ ap length c.deref_mut.ensures.value ∙ c.self.invariant.buffer_size in
    kept_read _ _ _ _ _ _ _ _ c.self.invariant _ (at_within _ _ _ c.deref.ensures.value c.place_of-at.ensures.in_range) _ c.index_mut-disk.ensures.value _ (at_found _ _ _ _ c.deref.ensures.value c.place_of-at.ensures.found) _ c.args.place (is_err c.read-result.result) c.read-result.new.out _ c.add.new.self c.read-result.ensures.disk c.read-result.ensures.others size c.add.ensures.calls
    (c.add.ensures.faults ∙ (λ k. stopped (c.self.inside.sums.faults + (c.faults.ensures k - c.faults-faults.ensures k)))) c.add.ensures.write_faults

pub returns : goal.returns
returns g c =
    let there : c.args.place < length (volume_of (map grains_of c.self.inside.volumes.items) c.args.volume.0).contents = rw (← c.self.view_is) at c.requires.there in
    let readable : is_lost (stored (map grains_of c.self.inside.volumes.items) c.args.volume.0 c.args.place) ≡ false = rw (← c.self.view_is) at c.requires.readable in
    let filled : take c.self.inside.buffer.len (c.read-result.new.out ++ drop (length c.read-result.new.out) c.self.inside.buffer.items) ≡ c.read-result.new.out =
    with_items_is c.self.inside.buffer c.read-result.new.out (omega arith) in
    let size : length (take c.self.inside.buffer.len (c.read-result.new.out ++ drop (length c.read-result.new.out) c.self.inside.buffer.items)) ≡ grain_bytes c.self.inside.grain =
    ap length filled ∙ c.read-result.auto.out ∙ ap length c.deref_mut.ensures.value ∙ c.self.invariant.buffer_size in
    rw (← c.self.view_is)
    (has_read _ _ _ _ _ _ _ _ c.self.invariant _ (at_within _ _ _ c.deref.ensures.value c.place_of-at.ensures.in_range) _ c.index_mut-disk.ensures.value _ (at_found _ _ _ _ c.deref.ensures.value c.place_of-at.ensures.found) _ c.args.place (is_err c.read-result.result) c.read-result.new.out _ c.add.new.self c.read-result.ensures.disk c.read-result.ensures.others size c.add.ensures.calls
    (c.add.ensures.faults ∙ (λ k. stopped (c.self.inside.sums.faults + (c.faults.ensures k - c.faults-faults.ensures k)))) c.add.ensures.write_faults there readable filled)
