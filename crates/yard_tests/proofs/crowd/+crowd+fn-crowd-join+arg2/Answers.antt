use denote.Param.Send.{sendable}
use Rattle.std.proofs.Crossing.{Vec-send}
use Rattle.yard_tests.proofs.Crossing.{crowd_send, counter_pass_send}
use Rattle.yard_tests.proofs.crowd.+crowd+fn-crowd-join+arg2.Goals as goal

pub join-pass-requires-send-F : goal.join-pass-requires-send-F
join-pass-requires-send-F g t c κs within = crowd_send _ _ g.row.R _ _ c.requires.sync

pub join-pass-requires-send-A : goal.join-pass-requires-send-A
join-pass-requires-send-A g t c κs within = search (sendable, Vec-send, counter_pass_send) depth 12
