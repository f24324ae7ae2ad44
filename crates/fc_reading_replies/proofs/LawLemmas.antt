-- Each reply is read back from its line, and no line of a reply begins another.
use Rattle.std.proofs.Common.{◌≡◌, ℕ, true, List, [], ◌++◌, length, codes, Result, Ok, sym, ap, ◌∙◌}
use Rattle.std.proofs.lemmas.List.{append-nil}
use Rattle.fc_base.specs.declared.request.Reply.{Reply}
use Rattle.fc_base.specs.declared.request.Reply.TheVariants as reply
use Rattle.fc_entry.specs.Text.{reply_text}
use Rattle.fc_reading_replies.specs.Faults.{IsFault, unread_at, unread_text}
use Rattle.fc_reading_replies.specs.Laws.{IsReply, RepliesLaw}
use Rattle.fc_reading_replies.specs.Replies.{MayBeSaid, said_line, reply_at, reply_line}
use Rattle.fc_reading_replies.specs.declared.replies.ReplyLine.TheVariants.{Whole, Rows}
use Rattle.fc_reading.proofs.Exact.{Exact, ok_is}
use Rattle.fc_reading.proofs.Words.{Ends-nothing, nothing}
use Rattle.fc_reading_replies.proofs.FaultLemmas.{Exact-unread}
use Rattle.fc_reading_replies.proofs.ReplyLemmas.{Exact-reply}

-- where a text begins with another, they are one
begins_none :
    {V : Type 0} (Fits : V → Type 0) (text : V → List ℕ) (read : List ℕ → Result (V × List ℕ) ℕ) →
    Exact Fits text nothing read →
    (a b : V) (more : List ℕ) → Fits a → Fits b → text a ≡ text b ++ more → (a ≡ b) × (more ≡ [])
begins_none {V} Fits text read exact a b more fits_a fits_b same =
    let one : read (text a ++ []) ≡ Ok (a, []) = exact.again a [] fits_a (Ends-nothing []) in
    let other : read (text b ++ more) ≡ Ok (b, more) = exact.again b more fits_b (Ends-nothing more) in
    let both : ◌≡◌ {A = V × List ℕ} (a, []) (b, more) = ok_is _ _ (sym one ∙ ap read (append-nil (text a) ∙ same) ∙ other) in
    (ap (λ (x : V × List ℕ). x.0) both, sym (ap (λ (x : V × List ℕ). x.1) both))

whole_read : (reply : Reply) (rest : List ℕ) → MayBeSaid true (Whole reply) → reply_at true ((reply_text reply ++ codes "\n") ++ rest) ≡ Ok (Whole reply, rest)
whole_read reply rest is = (Exact-reply true).again (Whole reply) rest is (Ends-nothing rest)

reply_read : (reply : Reply) (rest : List ℕ) → IsReply reply → reply_at true ((reply_text reply ++ codes "\n") ++ rest) ≡ Ok (said_line reply, rest)
reply_read (reply.Listed rows) rest is = (Exact-reply true).again (Rows (length rows)) rest is (Ends-nothing rest)
reply_read reply.Done rest is = whole_read reply.Done rest is
reply_read (reply.Made kind id) rest is = whole_read (reply.Made kind id) rest is
reply_read (reply.Bytes runs) rest is = whole_read (reply.Bytes runs) rest is
reply_read (reply.Moved map grain) rest is = whole_read (reply.Moved map grain) rest is
reply_read reply.Idle rest is = whole_read reply.Idle rest is
reply_read (reply.Offline map state) rest is = whole_read (reply.Offline map state) rest is
reply_read (reply.NotAccessible map) rest is = whole_read (reply.NotAccessible map) rest is
reply_read reply.DiskFault rest is = whole_read reply.DiskFault rest is
reply_read reply.MediumError rest is = whole_read reply.MediumError rest is
reply_read reply.NoMemory rest is = whole_read reply.NoMemory rest is
reply_read (reply.Refused refusal) rest is = whole_read (reply.Refused refusal) rest is

pub replies_law_holds : RepliesLaw
replies_law_holds = record {
  reply_read = reply_read;
  fault_read = λ fault rest is. Exact-unread.again fault rest is (Ends-nothing rest);
  reply_begins = λ a b more is_a is_b same. begins_none (MayBeSaid true) reply_line (reply_at true) (Exact-reply true) a b more is_a is_b same;
  fault_begins = λ a b more is_a is_b same. begins_none IsFault unread_text unread_at Exact-unread a b more is_a is_b same;
}
