-- Requests, read back from their texts.
use Rattle.std.specs.Prelude.{◌≡◌, ℕ, ◌+◌, List, [], ◌++◌, length, Some, Result, Ok, Err, codes}
use Rattle.fc_base.specs.declared.request.Reply.{Reply}
use Rattle.fc_base.specs.declared.request.Request.{Request}
use Rattle.fc_entry.specs.Text.{request_text}
use Rattle.fc_reading_notes.specs.declared.notes.NotTold.{NotTold}
use Rattle.fc_reading_notes.specs.declared.notes.NotTold.TheVariants.{Malformed, NoMemory}
use Rattle.fc_reading_requests.specs.Answered.{MayAnswer, request_of}
use Rattle.fc_reading_requests.specs.Asked.{IsRequest, asked_of}
use Rattle.fc_reading_requests.specs.declared.asked.Asked.{Asked}

-- an answer that is so, or want of memory
abbrev pub OrNoMemory : {X : Type 0} → Result X NotTold → (X → Type 0) → Type 0
OrNoMemory (Ok found) IsSo = IsSo found
OrNoMemory (Err (Malformed place)) IsSo = ⊥
OrNoMemory (Err NoMemory) IsSo = Unit {0}

-- where the bytes begin with the text of a request that an entry can hold, and the arrow, they are read as it
-- is asked, to behind the arrow
abbrev pub ReadsBack : List ℕ → Result (Asked × ℕ) NotTold → Type 0
ReadsBack bytes result =
    (request : Request) (rest : List ℕ) → IsRequest request → bytes ≡ request_text request ++ codes " -> " ++ rest →
    OrNoMemory result (λ found. (found.0 ≡ asked_of request) × (found.1 + length rest ≡ length bytes))

pub record RequestsLaw : Type 0 where
  -- no text of a request, with the arrow, begins another's; and requests of one text are asked alike
  pub one_text : (one other : Request) (more : List ℕ) → IsRequest one → IsRequest other →
      request_text one ++ codes " -> " ++ more ≡ request_text other ++ codes " -> " → (asked_of one ≡ asked_of other) × (more ≡ [])
  -- a request is known by how it is asked and its reply
  pub known : (request : Request) (reply : Reply) → IsRequest request → MayAnswer request reply → request_of (asked_of request) reply ≡ Some request
