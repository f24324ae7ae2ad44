-- Refused, or prepared.
use Rattle.std.proofs.Common.{rules}
use Rattle.fc_desk.specs.Control.{books_of}
use Rattle.fc_starts.proofs.Preparing.{one_idle, prestart_done}
use Rattle.fc_starts.proofs.prestartfcmap.decide_prestartfcmap.Goals as goal

pub prepare-requires : goal.prepare-requires
prepare-requires g c =
    record {
      sound = c.requires.sound;
      idle = one_idle (books_of c.args.control.now (g.S.Sheet.meaning c.args.sheet.now)) c.args.restore c.args.map.now c.in-Some.mapping.now c.start_refusal.result
          c.requires.sound.tables.mappings (search rules) c.start_refusal.ensures c.in-None-start_refusal.is;
    }

pub returns-in_ok-decision-in-None-start_refusal : goal.returns-in_ok-decision-in-None-start_refusal
returns-in_ok-decision-in-None-start_refusal g c =
    prestart_done (g.S.Sheet.meaning c.args.sheet.now).restarts c.args.control.now.grain (books_of c.args.control.now (g.S.Sheet.meaning c.args.sheet.now)) c.args.restore c.args.map.now c.in-Some.mapping.now
    c.start_refusal.result c.in_ok-decision-in-None-start_refusal.decision c.requires.sound.tables.mappings (search rules) c.start_refusal.ensures c.in-None-start_refusal.is
    c.in_ok-decision-in-None-start_refusal.ensures
