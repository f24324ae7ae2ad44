use Rattle.std.proofs.Common.{sym, ap, ◌∙◌}
use Rattle.fc_base.specs.declared.request.Place.TheVariants.{Lane}
use Rattle.fc_check_record.proofs.Entries.{has_lane, no_effects, told_by}
use Rattle.fc_check_record.proofs.record.Record.after_lane.Goals as goal

pub after_entry_of-requires : goal.after_entry_of-requires
after_entry_of-requires c = record { no_effects = no_effects c.args.self.grain c.args.self.whole c.args.entry.now c.requires.next; few = c.requires.few }

pub unreachable-requires : goal.unreachable-requires
unreachable-requires c = let lane = has_lane c.args.self.grain c.args.self.whole c.args.entry.now c.requires.next in c.in_default.not-Lane lane.0 lane.1

pub returns : goal.returns
returns c =
    told_by c.args.self c.args.entry.now c.from.result c.after_entry_of.result c.requires.next (c.in-Lane.is ∙ ap Lane (sym c.from.ensures)) c.after_entry_of.ensures
