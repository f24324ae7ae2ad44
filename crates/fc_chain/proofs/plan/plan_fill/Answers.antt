use Rattle.fc_chain.proofs.Whole.{room_to_fill, fill_planned, plan_is}
use Rattle.fc_chain.proofs.plan.plan_fill.Goals as goal

pub add_fill-requires-clause-room : goal.add_fill-requires-clause-room
add_fill-requires-clause-room c = room_to_fill _ _ _ _ _ _ c.requires.fit c.requires.empty c.requires.room

pub returns : goal.returns
returns c = plan_is _ _ _ (fill_planned _ _ _ c.args.place _ _ c.requires.empty c.add_fill.ensures.listed) c.add_fill.ensures.room
