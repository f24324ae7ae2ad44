use Rattle.std.proofs.Common.{◌≡◌, Vec, Global, vec_capacity, ap, ◌∙◌, arith}
use Rattle.fc_places.specs.declared.index.Entry.{Entry}
use Rattle.fc_places.proofs.Sorting.{put_more, skip_more}
use Rattle.fc_places.proofs.index.list_all.Goals as goal
use Rattle.fc_places.proofs.index.list_all.Goals.{in-Some, in_default}

pub loop-place-preserved : goal.loop-place-preserved
loop-place-preserved c =
    elim c.match-key_of.branch [
      | in-Some w ↦ record {
        listed = put_more c.args.slots.now c.args.by c.loop-place.place w.in-Some.key w.birth.result c.index-slots-place.result c.key_of.result c.loop-place.entries.items c.match-key_of.entries.items
            c.loop-place-test.true c.index-slots-place.is w.in-Some.is c.key_of.ensures w.birth.ensures (ap (λ (v : Vec Entry Global). v.items) w.entries-is ∙ w.put.ensures.items) c.loop-place.invariant.listed;
        room = (let same : vec_capacity c.match-key_of.entries ≡ vec_capacity w.put.new.entries = ap (λ (v : Vec Entry Global). vec_capacity v) w.entries-is in omega (arith, w.put.ensures.room, c.loop-place.invariant.room));
      }
      | in_default w ↦ record {
        listed = skip_more c.args.slots.now c.args.by c.loop-place.place c.index-slots-place.result c.key_of.result c.loop-place.entries.items c.match-key_of.entries.items
            c.loop-place-test.true c.index-slots-place.is w.in_default.is c.key_of.ensures (ap (λ (v : Vec Entry Global). v.items) w.entries-is) c.loop-place.invariant.listed;
        room = (let same : vec_capacity c.match-key_of.entries ≡ vec_capacity c.loop-place.entries = ap (λ (v : Vec Entry Global). vec_capacity v) w.entries-is in omega (arith, c.loop-place.invariant.room));
      }
    ]
