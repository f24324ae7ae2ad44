-- Rows worked by hand: what reading gives.
use Rattle.std.proofs.Common.{◌≡◌, true, false, [], ◌∷◌, Some, None, Ok, Err, codes, refl}
use Rattle.fc_base.specs.declared.fault.Refusal.TheVariants as refusal
use Rattle.fc_base.specs.declared.fault.RequiredOption.TheVariants.{Source, Preset}
use Rattle.fc_base.specs.declared.fault.WordFault.TheVariants as fault
use Rattle.fc_base.specs.declared.request.Reply.TheVariants as reply
use Rattle.fc_base.specs.declared.size.GrainSize.TheVariants.{K64, K256}
use Rattle.fc_base.specs.declared.state.MapState.TheVariants.{Stopped}
use Rattle.fc_reading_replies.specs.Data.{byte_at}
use Rattle.fc_reading_replies.specs.Faults.{unread_at}
use Rattle.fc_reading_replies.specs.Replies.{reply_at}
use Rattle.fc_reading_replies.specs.declared.replies.ReplyLine.TheVariants.{Whole, Rows}

-- a reply, and what stands behind its line
reads_offline : reply_at true (codes "offline 3 stopped\n+") ≡ Ok (Whole (reply.Offline (record { 0 = 3 }) Stopped), codes "+")
reads_offline = refl

reads_rows : reply_at true (codes "rows 12\n") ≡ Ok (Rows 12, [])
reads_rows = refl

reads_loop : reply_at true (codes "refused restore loop 2 0\n") ≡ Ok (Whole (reply.Refused (refusal.RestoreLoop (record { 0 = 2 } ∷ record { 0 = 0 } ∷ []))), [])
reads_loop = refl

reads_grains : reply_at true (codes "refused grain differs 256 64\n") ≡ Ok (Whole (reply.Refused (refusal.GrainDiffers K256 K64)), [])
reads_grains = refl

-- the same text is a refusal or a fault of words
reads_limit : reply_at true (codes "refused limit 5\n") ≡ Ok (Whole (reply.Refused (refusal.Limit 5)), [])
reads_limit = refl

reads_limit_of_words : unread_at (codes "refused limit 5\n") ≡ Ok (fault.Limit 5, [])
reads_limit_of_words = refl

reads_missing : unread_at (codes "refused missing option -source\n") ≡ Ok (fault.MissingOption Source, [])
reads_missing = refl

reads_missing_preset : unread_at (codes "refused missing option -preset\n+") ≡ Ok (fault.MissingOption Preset, codes "+")
reads_missing_preset = refl

-- where no reply goes on
wants_space : reply_at true (codes "noisy\n") ≡ Err 4
wants_space = refl

wants_number : reply_at true (codes "moved 3 x\n") ≡ Err 2
wants_number = refl

wants_refusal : reply_at true (codes "refused no actor\n") ≡ Err 6
wants_refusal = refl

wants_answer : reply_at false (codes "refused limit 5\n") ≡ Err 15
wants_answer = refl

-- runs
reads_no_data : reply_at true (codes "data \n") ≡ Ok (Whole (reply.Bytes []), [])
reads_no_data = refl

wants_count : reply_at true (codes "data 0*5a\n") ≡ Err 5
wants_count = refl

wants_lower_case : byte_at None (codes "5A") ≡ Err 1
wants_lower_case = refl

reads_other_low : byte_at (Some 90) (codes "5b") ≡ Ok (91, [])
reads_other_low = refl

wants_other_low : byte_at (Some 90) (codes "5a") ≡ Err 1
wants_other_low = refl
