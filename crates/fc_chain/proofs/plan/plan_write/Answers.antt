use Rattle.std.proofs.Common.{◌∙◌, refl}
use Rattle.fc_chain.proofs.Plans.{volume_at}
use Rattle.fc_chain.proofs.Whole.{write_begins, room_for_write, write_alone, write_last, plan_is}
use Rattle.fc_chain.proofs.plan.plan_write.Goals as goal

pub loop-old-init : goal.loop-old-init
loop-old-init c = record {
  room = refl;
  written = write_begins _ _ _ _ _ _ _ c.requires.fit c.requires.empty c.requires.room
      (volume_at _ _ _ c.index-slots-place.result c.requires.fit.there c.index-slots-place.is c.volume-volume.ensures);
}

pub add_fill-requires-clause-room : goal.add_fill-requires-clause-room
add_fill-requires-clause-room c =
    room_for_write _ _ _ c.args.place _ _ _ _ c.loop-old.after c.in-Some.old _ c.loop-old.invariant.written c.loop-old.invariant.room c.in-Some.ensures c.in-Some-first_reader_of.ensures.value

pub returns-in-Some-next_waiting : goal.returns-in-Some-next_waiting
returns-in-Some-next_waiting c =
    plan_is _ _ _ (write_last _ _ _ c.args.place _ _ _ _ c.loop-old.after _ c.loop-old.invariant.written c.in_default.ensures c.in-Some-next_waiting.ensures.value c.add_fill-in-Some-next_waiting.ensures.listed)
    (c.add_fill-in-Some-next_waiting.ensures.room ∙ c.loop-old.invariant.room)

pub returns-in_default-next_waiting : goal.returns-in_default-next_waiting
returns-in_default-next_waiting c =
    plan_is _ _ _ (write_alone _ _ _ c.args.place _ _ _ c.loop-old.after c.loop-old.invariant.written c.in_default.ensures c.in_default-next_waiting.ensures.value) c.loop-old.invariant.room
