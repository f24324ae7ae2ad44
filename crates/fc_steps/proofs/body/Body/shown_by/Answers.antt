use Rattle.fc_steps.proofs.Naming.{live_named}
use Rattle.fc_steps.proofs.body.Body.shown_by.Goals as goal

pub source_of-requires : goal.source_of-requires
source_of-requires g c =
    let r = c.requires in
    record {
      sound = r.sound;
      of_lane = r.of_lane;
      slot = r.slot;
      there = live_named c.args.self.now.cascade.sheet c.args.volume.0 r.slot c.in-Some.slot c.live.result r.sound r.there c.live.ensures.value c.in-Some.is;
      source = r.source;
      holds = r.holds;
    }

pub returns : goal.returns
returns g c k h place holds =
    c.source_of.ensures k h (live_named c.args.self.now.cascade.sheet c.args.volume.0 k c.in-Some.slot c.live.result c.requires.sound place c.live.ensures.value c.in-Some.is) holds
