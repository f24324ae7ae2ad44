-- The front and the id are a name.
use Rattle.std.proofs.Common.{◌∙◌, ap, arith}
use Rattle.fc_base.specs.Names.{is_name}
use Rattle.fc_desk.proofs.Naming.{is_name-numbered}
use Rattle.fc_desk.proofs.name.default_name.Goals as goal

pub whole_name-requires : goal.whole_name-requires
whole_name-requires c =
    ap is_name (c.as_slice.ensures.value ∙ c.in_ok-bytes.ensures)
    ∙ is_name-numbered c.args.front.now c.args.id c.requires.name c.requires.short (omega (arith, c.ranges.id.fits))
