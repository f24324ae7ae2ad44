-- Parts, step by step.
use Rattle.std.proofs.Common.{◌≡◌, ℕ, List, codes, Result, Ok, Err, refl, ap, ◌∙◌}
use Rattle.fc_base.specs.declared.size.GrainSize.{GrainSize}
use Rattle.fc_reading.specs.Readers.{◌>>=◌, map_read, then_read}
use Rattle.fc_reading_requests.specs.Parts.{ended_by, name_at}
use Rattle.fc_reading_requests.specs.Requests.{asked_at}
use Rattle.fc_reading_requests.specs.declared.asked.Asked.{Asked}
use Rattle.fc_reading_entries.specs.Entries.{Behind, asked_parts, behind_line, lined_parts, number_at, parts_at, parts_of}
use Rattle.fc_reading_entries.specs.Exchanges.{line_at}
use Rattle.fc_reading_entries.specs.declared.parts.Parts.{Parts}
use Rattle.fc_reading_replies.specs.declared.replies.ReplyLine.{ReplyLine}

map_then :
    {V W Y : Type 0} (f : V × W → Y) (first : List ℕ → Result (V × List ℕ) ℕ) (second : V → List ℕ → Result (W × List ℕ) ℕ) (bytes rest : List ℕ) (v : V) →
    first bytes ≡ Ok (v, rest) → map_read f (then_read first second) bytes ≡ map_read (λ y. f (v, y)) (second v) rest
map_then {V} {W} {Y} f first second bytes rest v e = ap both e ∙ go (second v rest)
  where
    and_f : Result ((V × W) × List ℕ) ℕ → Result (Y × List ℕ) ℕ
    and_f r = ◌>>=◌ {A = (V × W) × List ℕ} {B = Y × List ℕ} r (λ x. Ok (f x.0, x.1))

    and_v : V → Result (W × List ℕ) ℕ → Result ((V × W) × List ℕ) ℕ
    and_v x r = ◌>>=◌ {A = W × List ℕ} {B = (V × W) × List ℕ} r (λ y. Ok ((x, y.0), y.1))

    both : Result (V × List ℕ) ℕ → Result (Y × List ℕ) ℕ
    both r = and_f (◌>>=◌ {A = V × List ℕ} {B = (V × W) × List ℕ} r (λ x. and_v x.0 (second x.0 x.1)))

    go : (r : Result (W × List ℕ) ℕ) → and_f (and_v v r) ≡ ◌>>=◌ {A = W × List ℕ} {B = Y × List ℕ} r (λ y. Ok (f (v, y.0), y.1))
    go (Ok y) = refl
    go (Err n) = refl

pub asked_then : (size : GrainSize) (name : List ℕ) (asked : Asked) (bytes rest : List ℕ) → asked_at bytes ≡ Ok (asked, rest) → asked_parts size name bytes ≡ lined_parts size name asked rest
asked_then size name asked bytes rest e =
    map_then {V = Asked} {W = ReplyLine × Behind} {Y = Parts} (λ x. parts_of (tt, (name, x))) asked_at (λ a. then_read (line_at a) (behind_line size a)) bytes rest asked e

pub parts_then :
    (size : GrainSize) (number : ℕ) (name : List ℕ) (bytes middle rest : List ℕ) → number_at number bytes ≡ Ok (tt, middle) → ended_by name_at (codes " ") middle ≡ Ok (name, rest) →
    parts_at size number bytes ≡ asked_parts size name rest
parts_then size number name bytes middle rest e f =
    map_then {V = Unit {0}} {W = List ℕ × (Asked × (ReplyLine × Behind))} {Y = Parts} parts_of (number_at number)
    (λ u. then_read (ended_by name_at (codes " ")) (λ n. then_read asked_at (λ a. then_read (line_at a) (behind_line size a)))) bytes middle tt e
    ∙ map_then {V = List ℕ} {W = Asked × (ReplyLine × Behind)} {Y = Parts} (λ x. parts_of (tt, x)) (ended_by name_at (codes " "))
    (λ n. then_read asked_at (λ a. then_read (line_at a) (behind_line size a))) middle rest name f
