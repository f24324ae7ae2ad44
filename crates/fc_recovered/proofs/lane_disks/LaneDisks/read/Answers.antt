use Rattle.std.proofs.Common.{◌∙◌, List, length, get_or, set, ap, sym}
use Rattle.std.specs.Prelude.{is_err}
use Rattle.fc_kept.specs.Disks.{NamedDisk}
use Rattle.fc_recovered.proofs.Placing.{its_grain, its_read, never_none}
use Rattle.fc_recovered.proofs.lane_disks.LaneDisks.read.Goals as goal

pub read-requires : goal.read-requires
read-requires g c =
    its_grain c.args.self.now c.args.volume.0 c.args.place (length c.args.out.now) c.in-Some.at c.index_mut.result.now c.requires
    (sym c.in-Some.is ∙ c.place_of.ensures)
    (c.index_mut.ensures.value ∙ ap (λ (z : List NamedDisk). get_or z c.in-Some.at c.index_mut.result.now) c.self.view_is)

pub unreachable-requires : goal.unreachable-requires
unreachable-requires g c =
    never_none c.args.self.now c.args.volume.0 c.args.place (length c.args.out.now) c.requires (sym c.in-None.is ∙ c.place_of.ensures)

pub returns : goal.returns
returns g c =
    its_read c.args.self.now (set c.self.inside.disks.items c.in-Some.at c.read.new.self) c.args.volume.0 c.args.place c.in-Some.at c.index_mut.result.now c.read.new.self
    (is_err c.read.result) c.read.new.out
    (sym c.in-Some.is ∙ c.place_of.ensures)
    (c.index_mut.ensures.value ∙ ap (λ (z : List NamedDisk). get_or z c.in-Some.at c.index_mut.result.now) c.self.view_is)
    c.read.ensures.disk c.read.ensures.calls c.read.ensures.others
    (ap (λ (z : List NamedDisk). set z c.in-Some.at c.read.new.self) c.self.view_is)
