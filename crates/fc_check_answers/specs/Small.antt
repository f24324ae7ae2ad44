-- Ways in which all grains have numbers below 2^32.
use Rattle.std.specs.Prelude.{List, Contains}
use Rattle.fc_check_record.specs.Judged.{Judged}
use Rattle.fc_check_sheet.specs.View.{IsSmall}

-- So it is with what was told in a way.
abbrev pub IsSmallWay : Judged → Type 0
IsSmallWay way = IsSmall way.whole.books.sheet.slots way.whole.rows

-- And with what was told in all of them.
abbrev pub AreSmall : List Judged → Type 0
AreSmall ways = (way : Judged) → Contains ways way → IsSmallWay way
