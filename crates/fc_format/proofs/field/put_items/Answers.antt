use Rattle.std.proofs.Common.{◌≡◌, ◌++◌, ◌∙◌, ap, take, arith, subst}
use Rattle.std.proofs.Math.Seq.{take_all}
use Rattle.std.proofs.lemmas.List.Elements.{All-more}
use Rattle.std.specs.List.{flat_map}
use Rattle.fc_format.proofs.Puts.{item_put}
use Rattle.fc_format.proofs.field.put_items.Goals as goal

pub loop-item-preserved : goal.loop-item-preserved
loop-item-preserved g c = record {
  bytes = item_put g.T.Put.bytes_of c.args.out.now.items c.loop-item.out.items c.put.new.out.items c.args.all.now c.loop-item.item-index c.item-item.result
      c.loop-item.invariant.bytes c.loop-item-test.true c.item-item.is c.in_ok-put.ensures.bytes;
  typed = All-more g.T.Put.is_typed c.args.all.now c.loop-item.item-index c.item-item.result c.loop-item-test.true c.loop-item.invariant.typed
      (subst (λ z. g.T.Put.is_typed z) c.item-item.is c.in_ok-put.ensures.typed);
}

pub returns-clause-bytes : goal.returns-clause-bytes
returns-clause-bytes g c =
    let e : take c.loop-item.item-index c.args.all.now ≡ c.args.all.now = take_all c.loop-item.item-index c.args.all.now (let f = c.loop-item-test.false in omega (arith, f)) in
    c.loop-item.invariant.bytes ∙ ap (λ z. c.args.out.now.items ++ flat_map g.T.Put.bytes_of z) e
