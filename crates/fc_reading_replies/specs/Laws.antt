-- Each reply is read back from its line, and no line of a reply begins another.
use Rattle.std.specs.Prelude.{◌≡◌, ℕ, true, List, [], ◌++◌, length, Ok, codes}
use Rattle.fc_base.specs.declared.fault.Refusal.TheVariants as refusal
use Rattle.fc_base.specs.declared.fault.WordFault.{WordFault}
use Rattle.fc_base.specs.declared.request.Reply.{Reply}
use Rattle.fc_base.specs.declared.request.Reply.TheVariants as reply
use Rattle.fc_entry.specs.Text.{reply_text}
use Rattle.fc_reading_notes.specs.Told.{IsCount}
use Rattle.fc_reading_replies.specs.Faults.{IsFault, unread_at, unread_text}
use Rattle.fc_reading_replies.specs.Replies.{MayBeSaid, MayBeReply, said_line, reply_at, reply_line}
use Rattle.fc_reading_replies.specs.declared.replies.ReplyLine.{ReplyLine}

-- a reply that an entry can hold, of anything but a line with a fault in its words
abbrev pub IsReply : Reply → Type 0
IsReply (reply.Listed rows) = IsCount (length rows)
IsReply reply = MayBeReply true reply

pub record RepliesLaw : Type 0 where
  pub reply_read : (reply : Reply) (rest : List ℕ) → IsReply reply → reply_at true ((reply_text reply ++ codes "\n") ++ rest) ≡ Ok (said_line reply, rest)
  pub fault_read : (fault : WordFault) (rest : List ℕ) → IsFault fault → unread_at ((reply_text (reply.Refused (refusal.Words fault)) ++ codes "\n") ++ rest) ≡ Ok (fault, rest)
  pub reply_begins : (a b : ReplyLine) (more : List ℕ) → MayBeSaid true a → MayBeSaid true b → reply_line a ≡ reply_line b ++ more → (a ≡ b) × (more ≡ [])
  pub fault_begins : (a b : WordFault) (more : List ℕ) → IsFault a → IsFault b → unread_text a ≡ unread_text b ++ more → (a ≡ b) × (more ≡ [])
