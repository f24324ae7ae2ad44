use Rattle.std.proofs.Common.{◌<◌, ◌+◌, ◌-◌, length, map, ap, sym, ◌∙◌}
use Rattle.fc_grains.specs.Grains.{stopped}
use Rattle.fc_grains.specs.Parts.{grains_of}
use Rattle.fc_grains.specs.Volumes.{volume_of}
use Rattle.fc_grains.proofs.Calling.{length-grain, kept_written, has_written}
use Rattle.fc_grains.proofs.Changing.{grain_there, mark_there}
use Rattle.fc_grains.proofs.Finding.{at_within, at_found, is_there_by}
use Rattle.fc_grains.proofs.grains.Grains.write.Goals as goal

pub place_of-at-requires-clause-there : goal.place_of-at-requires-clause-there
place_of-at-requires-clause-there g c =
    let there : c.args.place < length (volume_of (map grains_of c.self.inside.volumes.items) c.args.volume.0).contents = rw (← c.self.view_is) at c.requires in
    rw c.deref.ensures.value (is_there_by (map grains_of c.self.inside.volumes.items) c.args.volume.0 c.args.place there)

pub write-result-requires-clause-in_range : goal.write-result-requires-clause-in_range
write-result-requires-clause-in_range g c =
    let there : c.args.place < length (volume_of (map grains_of c.self.inside.volumes.items) c.args.volume.0).contents = rw (← c.self.view_is) at c.requires in
    grain_there _ c.self.invariant.rising _ (at_within _ _ _ c.deref.ensures.value c.place_of-at.ensures.in_range) _ c.index_mut-disk.ensures.value _ (at_found _ _ _ _ c.deref.ensures.value c.place_of-at.ensures.found) c.args.place there

pub write-result-requires-clause-marked : goal.write-result-requires-clause-marked
write-result-requires-clause-marked g c =
    let there : c.args.place < length (volume_of (map grains_of c.self.inside.volumes.items) c.args.volume.0).contents = rw (← c.self.view_is) at c.requires in
    mark_there _ c.self.invariant.rising _ (at_within _ _ _ c.deref.ensures.value c.place_of-at.ensures.in_range) _ c.index_mut-disk.ensures.value _ (at_found _ _ _ _ c.deref.ensures.value c.place_of-at.ensures.found) c.args.place there

pub write-result-requires-clause-whole : goal.write-result-requires-clause-whole
write-result-requires-clause-whole g c =
    let there : c.args.place < length (volume_of (map grains_of c.self.inside.volumes.items) c.args.volume.0).contents = rw (← c.self.view_is) at c.requires in
    ap length c.deref-2.ensures.value ∙ c.self.invariant.buffer_size ∙ sym (length-grain _ _ _ _ _ _ _ _ c.self.invariant _ (at_within _ _ _ c.deref.ensures.value c.place_of-at.ensures.in_range) _ c.index_mut-disk.ensures.value _ (at_found _ _ _ _ c.deref.ensures.value c.place_of-at.ensures.found) c.args.place there)

pub invariant_of-self : goal.invariant_of-self
invariant_of-self g c =
    let there : c.args.place < length (volume_of (map grains_of c.self.inside.volumes.items) c.args.volume.0).contents = rw (← c.self.view_is) at c.requires in
    kept_written _ _ _ _ _ _ _ _ c.self.invariant _ (at_within _ _ _ c.deref.ensures.value c.place_of-at.ensures.in_range) _ c.index_mut-disk.ensures.value _ (at_found _ _ _ _ c.deref.ensures.value c.place_of-at.ensures.found) _ c.args.place c.write-result.result c.deref-2.result.now c.add.new.self c.write-result.ensures.disk c.write-result.ensures.others c.deref-2.ensures.value there c.add.ensures.calls
    (c.add.ensures.faults ∙ (λ k. stopped (c.self.inside.sums.faults + (c.faults.ensures k - c.faults-faults.ensures k)))) (c.add.ensures.write_faults ∙ (λ k. stopped (c.self.inside.sums.write_faults + (c.write_faults.ensures k - c.write_faults-write_faults.ensures k))))

pub returns : goal.returns
returns g c =
    let there : c.args.place < length (volume_of (map grains_of c.self.inside.volumes.items) c.args.volume.0).contents = rw (← c.self.view_is) at c.requires in
    rw (← c.self.view_is)
    (has_written _ _ _ _ _ _ _ _ c.self.invariant _ (at_within _ _ _ c.deref.ensures.value c.place_of-at.ensures.in_range) _ c.index_mut-disk.ensures.value _ (at_found _ _ _ _ c.deref.ensures.value c.place_of-at.ensures.found) _ c.args.place c.write-result.result c.deref-2.result.now c.add.new.self c.write-result.ensures.disk c.write-result.ensures.others c.deref-2.ensures.value there c.add.ensures.calls
    (c.add.ensures.faults ∙ (λ k. stopped (c.self.inside.sums.faults + (c.faults.ensures k - c.faults-faults.ensures k)))) (c.add.ensures.write_faults ∙ (λ k. stopped (c.self.inside.sums.write_faults + (c.write_faults.ensures k - c.write_faults-write_faults.ensures k)))))
