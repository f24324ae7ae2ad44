use Rattle.fc_model.proofs.Splitting.{split_done}
use Rattle.fc_model.proofs.hold.split_chain.Goals as goal

pub returns : goal.returns
returns c =
    split_done c.chain-chain.result c.birth-birth.result c.args.slots.now c.join_chain.new.slots c.args.place c.begin_chain.new.self c.index-slots-place.result c.index-slots-place-2.result c.index-slots-place-3.result c.requires
    c.begin_chain.ensures c.chain-chain.ensures c.birth-birth.ensures c.join_chain.ensures
