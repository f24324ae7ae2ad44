-- The parts before this one were added.
use Rattle.std.proofs.Common.{◌≡◌, ◌++◌, take}
use Rattle.std.specs.List.{flat_map}
use Rattle.fc_gen.proofs.Text.put_all.Given as goal

abbrev pub invariant-loop-part : goal.invariant-loop-part
invariant-loop-part l =
    l.self.bytes.items ≡ l.fn.self.bytes.items ++ flat_map (λ part. part.now) (take l.part-index l.parts)
