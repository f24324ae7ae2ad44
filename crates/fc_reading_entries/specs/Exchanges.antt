-- What was asked and what was answered, as the line of an entry tells it behind the actor's name. The reply
-- says which request it was, so what was asked says which replies may come.
use Rattle.std.specs.Prelude.{◌≡◌, ℕ, Bool, true, false, nat_le, unwrap_or, List, Result}
use Rattle.fc_base.specs.declared.fault.Refusal.TheVariants.{Words}
use Rattle.fc_base.specs.declared.fault.WordFault.{WordFault}
use Rattle.fc_base.specs.declared.name.Ref.{Ref}
use Rattle.fc_base.specs.declared.name.Ref.TheVariants.{Id, Name}
use Rattle.fc_base.specs.declared.request.Reply.{Reply}
use Rattle.fc_base.specs.declared.request.Reply.TheVariants.{Done}
use Rattle.fc_base.specs.declared.request.Request.{Request}
use Rattle.fc_base.specs.declared.request.Request.TheVariants as request
use Rattle.fc_reading.specs.Readers.{map_read}
use Rattle.fc_reading_replies.specs.Faults.{IsFault, unread_at}
use Rattle.fc_reading_replies.specs.Replies.{MayBeSaid, said_line, refused_at, refused_of, reply_at}
use Rattle.fc_reading_replies.specs.declared.replies.ReplyLine.{ReplyLine}
use Rattle.fc_reading_replies.specs.declared.replies.ReplyLine.TheVariants.{Whole, Rows}
use Rattle.fc_reading_requests.specs.Answered.{MayAnswer, request_of}
use Rattle.fc_reading_requests.specs.Asked.{IsRequest}
use Rattle.fc_reading_requests.specs.declared.asked.Asked.{Asked}
use Rattle.fc_reading_requests.specs.declared.asked.Asked.TheVariants.{Unread, Read, Write, Copy, Clean, CopyTurn, CleanTurn, Command as OfCommand}

-- ---- what an entry may tell

-- a reply in range, of a line with a fault in its words or of anything else
abbrev pub IsAnswer : Request → Reply → Type 0
IsAnswer (request.Unread fault) reply = IsFault fault
IsAnswer request reply = MayBeSaid true (said_line reply)

-- a request, and a reply that it may have
pub record IsExchange (asked : Request) (answered : Reply) : Type 0 where
  pub request : IsRequest asked
  pub may : MayAnswer asked answered
  pub reply : IsAnswer asked answered

-- ---- read from the left

-- a line that reads or writes has 32 bits for its block
abbrev pub is_short : ℕ → Bool
is_short block = nat_le block 4294967295

-- a host names volumes by their ids
abbrev pub is_id : Ref → Bool
is_id (Id id) = true
is_id (Name name) = false

abbrev pub fault_told : WordFault → ReplyLine
fault_told fault = refused_of (Words fault)

-- the line of a reply of an access: a line's is a refusal, a host's is none
abbrev pub access_line : Bool → Bool → List ℕ → Result (ReplyLine × List ℕ) ℕ
access_line refusable true = reply_at refusable
access_line refusable false = map_read refused_of refused_at

-- the line of a reply of what was asked
abbrev pub line_at : Asked → List ℕ → Result (ReplyLine × List ℕ) ℕ
line_at Unread = map_read fault_told unread_at
line_at (Read volume block count) = access_line (is_short block) (is_id volume)
line_at (Write volume block count byte) = access_line (is_short block) (is_id volume)
line_at (Copy map grain) = reply_at true
line_at (Clean map grain) = reply_at true
line_at (CopyTurn lane) = reply_at true
line_at (CleanTurn lane) = reply_at true
line_at (OfCommand command) = reply_at true

-- what the line tells of the reply; a report is no refusal
abbrev pub reply_told : ReplyLine → Reply
reply_told (Whole reply) = reply
reply_told (Rows count) = Done

-- the request; there is one for each line that is read
abbrev pub request_by : Asked → ReplyLine → Request
request_by asked line = unwrap_or (request_of asked (reply_told line)) (request.CopyTurn 0)
