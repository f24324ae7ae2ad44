use Rattle.fc_apply.proofs.Readying.{tracks_more}
use Rattle.fc_apply.proofs.ready.track.Goals as goal

pub returns-in-Work-clause-more : goal.returns-in-Work-clause-more
returns-in-Work-clause-more c = tracks_more c.track.result c.in-Work.map.0 c.args.work.now.known c.track.new.self.known c.track.ensures.ok c.track.ensures.err
