use Rattle.std.proofs.Common.{rules}
use Rattle.fc_books.specs.Reports.{report_rows}
use Rattle.fc_report.proofs.rows.report.Goals as goal

pub returns-in_default : goal.returns-in_default
unfolding report_rows
returns-in_default g c = search rules
