-- When no disk failed and nothing is lost, and what is served then.
use Rattle.std.specs.Prelude.{◌≡◌, ◌<◌, false, All, None}
use Rattle.fc_base.specs.declared.request.Reply.{Reply}
use Rattle.fc_base.specs.declared.request.Reply.TheVariants.{DiskFault, MediumError}
use Rattle.fc_entry.specs.Picture.{Content, is_lost, PlainVolume, Picture}
use Rattle.fc_entry.specs.declared.entry.Entry.{Entry}
use Rattle.fc_legal.specs.Whole.{Whole, lanes}

-- ---- nothing failed, nothing is lost

-- There is a lane, and no disk that any lane ever had has failed.
pub record AreFaultless (w : Whole) : Type 0 where
  pub some : 0 < lanes w
  pub none : All (λ n. n ≡ 0) w.faults

-- Content that can be read.
abbrev pub IsThere : Content → Type 0
IsThere content = is_lost content ≡ false

-- A volume of which no grain is lost: of what it holds, and of what it held before its last trigger as a target.
pub record IsUnharmedVolume (v : PlainVolume) : Type 0 where
  pub now : All IsThere v.now
  pub under : All IsThere v.under

abbrev pub IsUnharmed : Picture → Type 0
IsUnharmed picture = All IsUnharmedVolume picture

-- ---- what is served

-- An answer that is neither a disk fault nor a medium error.
abbrev pub IsServedReply : Reply → Type 0
IsServedReply DiskFault = ⊥
IsServedReply MediumError = ⊥
IsServedReply reply = Unit {0}

-- An entry with such an answer, which tore nothing.
pub record IsServed (entry : Entry) : Type 0 where
  pub answered : IsServedReply entry.reply
  pub untorn : entry.torn ≡ None
