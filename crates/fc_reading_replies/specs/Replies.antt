-- What was answered, read from the left as far as the end of its line: the reply of anything but a line with a
-- fault in its words. The line of a report says how many rows it has. Whether it may be a refusal is said
-- beforehand, since some requests stand in an entry only where they were refused, and others only where they
-- weren't.
use Rattle.std.specs.Prelude.{◌≡◌, ℕ, ◌-◌, ◌==◌, Bool, true, if◌then◌else◌, nat_lt, List, [], ◌∷◌, ◌++◌, length, Result, codes, decimal}
use Rattle.fc_base.specs.declared.fault.Refusal.{Refusal}
use Rattle.fc_base.specs.declared.request.Reply.{Reply}
use Rattle.fc_base.specs.declared.request.Reply.TheVariants as reply
use Rattle.fc_base.specs.declared.state.MapState.{MapState}
use Rattle.fc_entry.specs.Text.{reply_text}
use Rattle.fc_reading.specs.Readers.{map_read, the_word, then_read}
use Rattle.fc_reading_notes.specs.Lines.{count_at, id_at, state_at}
use Rattle.fc_reading_notes.specs.Told.{IsCount, IsId}
use Rattle.fc_reading_replies.specs.Begun.{begun_at, said, twice_numbered}
use Rattle.fc_reading_replies.specs.Data.{AreRuns, data_at}
use Rattle.fc_reading_replies.specs.Refusals.{IsRefusal, kind_of, refusal_at}
use Rattle.fc_reading_replies.specs.declared.replies.ReplyLine.{ReplyLine}
use Rattle.fc_reading_replies.specs.declared.replies.ReplyLine.TheVariants.{Whole, Rows}

-- ---- the text

-- the line of a reply, behind the arrow
abbrev pub reply_line : ReplyLine → List ℕ
reply_line (Whole reply) = reply_text reply ++ codes "\n"
reply_line (Rows rows) = (codes "rows " ++ decimal rows) ++ codes "\n"

-- all that the line of a reply says
abbrev pub said_line : Reply → ReplyLine
said_line (reply.Listed rows) = Rows (length rows)
said_line reply = Whole reply

-- ---- what may be said

-- numbers of 32 bits, and of 64; no report, since its rows stand elsewhere
abbrev pub MayBeReply : Bool → Reply → Type 0
MayBeReply refusable (reply.Made kind id) = IsId id
MayBeReply refusable (reply.Bytes runs) = AreRuns runs
MayBeReply refusable (reply.Listed rows) = ⊥
MayBeReply refusable (reply.Moved map grain) = IsId map.0 × IsId grain.0
MayBeReply refusable (reply.Offline map state) = IsId map.0
MayBeReply refusable (reply.NotAccessible map) = IsId map.0
MayBeReply refusable (reply.Refused refusal) = (refusable ≡ true) × IsRefusal refusal
MayBeReply refusable reply = Unit {0}

abbrev pub MayBeSaid : Bool → ReplyLine → Type 0
MayBeSaid refusable (Whole reply) = MayBeReply refusable reply
MayBeSaid refusable (Rows rows) = IsCount rows

-- the line of a reply
abbrev pub IsReplyLine : Bool → List ℕ → Type 0
IsReplyLine refusable bytes = (line : ReplyLine) × MayBeSaid refusable line × (bytes ≡ reply_line line)

-- ---- read from the left

-- the whole lines of replies that say no more, and how the others begin
abbrev pub answer_words : List (List ℕ)
answer_words =
    codes "ok\n" ∷ codes "idle\n" ∷ codes "disk fault\n" ∷ codes "medium error\n" ∷ codes "no memory\n"
    ∷ codes "Virtual Disk, id [" ∷ codes "FlashCopy Mapping, id [" ∷ codes "FlashCopy Consistency Group, id ["
    ∷ codes "moved " ∷ codes "offline " ∷ codes "not accessible " ∷ codes "rows " ∷ codes "data " ∷ []

abbrev pub reply_words : Bool → List (List ℕ)
reply_words refusable = if refusable then answer_words ++ codes "refused " ∷ [] else answer_words

abbrev pub reply_of : ℕ → Reply
reply_of n =
    if n == 0 then reply.Done else if n == 1 then reply.Idle else if n == 2 then reply.DiskFault
    else if n == 3 then reply.MediumError else reply.NoMemory

abbrev pub made_of : ℕ → ℕ → ReplyLine
made_of n id = Whole (reply.Made (kind_of n) id)

abbrev pub moved_of : ℕ × ℕ → ReplyLine
moved_of x = Whole (reply.Moved (record { 0 = x.0 }) (record { 0 = x.1 }))

abbrev pub offline_of : ℕ × MapState → ReplyLine
offline_of x = Whole (reply.Offline (record { 0 = x.0 }) x.1)

abbrev pub not_accessible : ℕ → ReplyLine
not_accessible map = Whole (reply.NotAccessible (record { 0 = map }))

abbrev pub refused_of : Refusal → ReplyLine
refused_of refusal = Whole (reply.Refused refusal)

abbrev pub reply_behind : ℕ → List ℕ → Result (ReplyLine × List ℕ) ℕ
reply_behind word =
    if nat_lt word 5 then said (Whole (reply_of word))
    else if nat_lt word 8 then map_read (made_of (word - 5)) (id_at (codes "], successfully created\n"))
    else if word == 8 then twice_numbered moved_of
    else if word == 9 then map_read offline_of (then_read (id_at (codes " ")) (λ map. state_at))
    else if word == 10 then map_read not_accessible (id_at (codes "\n"))
    else if word == 11 then map_read Rows (count_at (codes "\n"))
    else if word == 12 then map_read (λ runs. Whole (reply.Bytes runs)) data_at
    else map_read refused_of refusal_at

abbrev pub reply_at : Bool → List ℕ → Result (ReplyLine × List ℕ) ℕ
reply_at refusable = begun_at (reply_words refusable) reply_behind

-- the line of a refusal
abbrev pub refused_at : List ℕ → Result (Refusal × List ℕ) ℕ
refused_at = map_read (λ x. x.1) (then_read (the_word (codes "refused ")) (λ u. refusal_at))
