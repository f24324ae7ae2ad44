-- The lane at the place begins the write.
use Rattle.std.proofs.Common.{◌<◌, ◌^◌, length, ap, arith, subst, sym}
use Rattle.fc_base.specs.declared.size.GrainSize.{GrainSize}
use Rattle.fc_entry.specs.Picture.{grain_of_block}
use Rattle.fc_follow.specs.Following.{Followed}
use Rattle.fc_lane.specs.Doing.{FitsAsk, HasBegunAs}
use Rattle.fc_lane.specs.Lane.{IsFollowing, IsReady, of}
use Rattle.fc_stands.specs.Store.{StoreView}
use Rattle.fc_steps.specs.declared.ask.Ask.TheVariants.{Write}
use Rattle.fc_store.proofs.AtPlace.{at_place, in_lane, of_seen}
use Rattle.fc_store.proofs.store.Store.begin_write.Goals as goal

pub index_mut-requires : goal.index_mut-requires
index_mut-requires g c = omega (arith, c.requires.there, ap (λ (s : StoreView). length s.lanes) c.self.view_is, c.self.inside.lanes.ok.0)

pub begin_write-requires-clause-can : goal.begin_write-requires-clause-can
begin_write-requires-clause-can g c =
    of_seen (λ v. (f : Followed) × IsFollowing v f × FitsAsk (of v) (Write c.args.part) f.told) c.self.view_is c.requires.there c.index_mut.ensures.value c.requires.can

pub begin_write-requires-clause-number : goal.begin_write-requires-clause-number
begin_write-requires-clause-number g c =
    of_seen (λ v. grain_of_block v.grains.grain c.args.part.block < 2 ^ 32) c.self.view_is c.requires.there c.index_mut.ensures.value
    (subst (λ (n : GrainSize). grain_of_block n c.args.part.block < 2 ^ 32) (sym c.requires.grain) c.requires.number)

pub begin_write-requires-clause-ready : goal.begin_write-requires-clause-ready
begin_write-requires-clause-ready g c = of_seen IsReady c.self.view_is c.requires.there c.index_mut.ensures.value c.requires.ready

pub returns-clause-begun : goal.returns-clause-begun
returns-clause-begun g c =
    at_place (λ v w. HasBegunAs v c.args.number 0 (Write c.args.part) c.begin_write.result w) c.begin_write.new.self c.self.view_is c.requires.there c.index_mut.ensures.value
    c.begin_write.ensures

pub returns-clause-others : goal.returns-clause-others
returns-clause-others g c = in_lane c.begin_write.new.self c.self.view_is c.requires.there
