-- The law of records and marks, all of it.
use Rattle.law_noted.specs.Advancing.{AdvanceLaw}
use Rattle.law_noted.proofs.Ending.{end_law_holds}
use Rattle.law_noted.proofs.Finding.{stop_law_holds}
use Rattle.law_noted.proofs.Marking.{marking_law_holds, row_law_holds}
use Rattle.law_noted.proofs.Recording.{record_law_holds}

pub advance_law_holds : AdvanceLaw
advance_law_holds = record { records = record_law_holds; marking = marking_law_holds; rows = row_law_holds; stops = stop_law_holds; ends = end_law_holds }
