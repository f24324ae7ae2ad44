-- How reading goes on and ends.
use Rattle.std.proofs.Common.{◌≡◌, ℕ, ◌+◌, ◌≤◌, List, [], ◌∷◌, ◌++◌, length, append_assoc, refl, sym, ◌∙◌, ap, subst, arith, length-append, length-take, min, ◌-◌, Option, Some, None, take, get_or, zero, suc}
use Rattle.std.proofs.lemmas.List.{append-nil, length-take-le}
use Rattle.std.specs.Option.{option_map}
use Rattle.fc_entry.specs.HistoryState.{HistoryState}
use Rattle.fc_entry.specs.Lines.{ended_lines}
use Rattle.fc_entry.specs.declared.stop.Stop.{Stop}
use Rattle.fc_io.specs.Source.{SourceState}
use Rattle.fc_run.specs.Input.{Gave, input_limit}
use Rattle.fc_run.specs.Progress.{Progress, StopsIn}
use Rattle.fc_run.specs.ReadTo.{FedPiece, Turned, SoFar, ReadTo, PastLimit}
use Rattle.fc_run.specs.Runs.{Runs}
use Rattle.fc_run.specs.Taking.{GaveAny, TurnGave}
use Rattle.fc_run.proofs.OutputLemmas.{HasRisen-before}
use Rattle.fc_run.proofs.TakesLemmas.{SoFarGave-more, EachGave-last, EachGave-so_far, EachGave-some}
use Rattle.fc_run.specs.declared.reading.Turn.{Turn}
use Rattle.fc_run.specs.declared.reading.Turn.TheVariants as turn
use Rattle.fc_run.specs.declared.reading.Ending.{Ending}
use Rattle.fc_run.specs.declared.reading.Ending.TheVariants as ending

-- what was given first, and then
Gave-append-left :
    (a c : Option (List ℕ)) (xs ys : List ℕ) (b : Option (List ℕ)) →
    a ≡ option_map (λ rest. xs ++ rest) b →
    b ≡ option_map (λ rest. ys ++ rest) c →
    a ≡ option_map (λ rest. (xs ++ ys) ++ rest) c
Gave-append-left a None xs ys b first then = first ∙ ap (λ o. option_map (λ rest. xs ++ rest) o) then
Gave-append-left a (Some rest) xs ys b first then =
    first ∙ ap (λ o. option_map (λ rest. xs ++ rest) o) then ∙ ap Some (sym (append_assoc xs ys rest))

pub Gave-append :
    (a b c : SourceState) (xs ys : List ℕ) → Gave a xs b → Gave b ys c → Gave a (xs ++ ys) c
Gave-append a b c xs ys first then = Gave-append-left a.left c.left xs ys b.left first then

Gave-nothing : (a b c : SourceState) (xs : List ℕ) → Gave a xs b → Gave b [] c → Gave a xs c
Gave-nothing a b c xs first then =
    let P : List ℕ → Type 0 = λ l. Gave a l c in
    subst P (append-nil xs) (Gave-append a b c xs [] first then)

take-nil : (n : ℕ) → take {A = ℕ} n [] ≡ []
take-nil zero = refl
take-nil (suc n) = refl

-- one byte that was taken
one_taken : (n : ℕ) (out : List ℕ) → (n ≡ 0 → ⊥) → n ≤ length out → length out ≡ 1 → take n out ≡ get_or out 0 0 ∷ []
one_taken n [] some fits one = absurd (omega arith)
one_taken n (x ∷ y ∷ out) some fits one = absurd (long out one)
  where
    long : (out : List ℕ) → length (x ∷ y ∷ out) ≡ 1 → ⊥
    long out e = omega arith
one_taken zero (x ∷ []) some fits one = absurd (some refl)
one_taken (suc n) (x ∷ []) some fits one = ap (λ l. x ∷ l) (take-nil n)

pub PastLimit-byte :
    (before after : SourceState) (n : ℕ) (out : List ℕ) →
    (n ≡ 0 → ⊥) →
    n ≤ length out →
    length out ≡ 1 →
    Gave before (take n out) after →
    (past : ℕ) × Gave before (past ∷ []) after
PastLimit-byte before after n out some fits one gave =
    let P : List ℕ → Type 0 = λ l. Gave before l after in
    (get_or out 0 0, subst P (one_taken n out some fits one) gave)

-- a piece more
pub SoFar-more :
    (n most taken : ℕ) (before now after : SourceState) (Now After : Runs) (line rest : List ℕ) (old new : HistoryState) →
    (so_far : SoFar before now Now line old taken) →
    now.faults ≤ after.faults →
    TurnGave (turn.More n) now after →
    Turned (turn.More n) most now after After so_far.bytes rest new →
    SoFar before after After rest new (taken + n)
SoFar-more n most taken before now after Now After line rest old new so_far faults took turned =
    let piece : FedPiece n now after so_far.bytes (λ all. Progress After all rest new) = turned.1 in
    record {
      bytes = so_far.bytes ++ piece.piece;
      gave = Gave-append before now after so_far.bytes piece.piece so_far.gave piece.gave;
      takes = SoFarGave-more before now after so_far.takes took;
      counted = counts so_far.bytes piece.piece so_far.counted piece.counted;
      faults = le before.faults now.faults after.faults so_far.faults faults;
      progress = piece.fed;
    }
  where
    counts : (xs ys : List ℕ) → length xs ≡ taken → length ys ≡ n → length (xs ++ ys) ≡ taken + n
    counts xs ys a b = omega (arith, length-append xs ys)

    le : (a b c : ℕ) → a ≤ b → b ≤ c → a ≤ c
    le a b c p q = omega arith

-- the turns that are the last with nothing taken, and how reading ends then
abbrev pub IsLast : Turn → Ending → Type 0
IsLast turn.End ending.End = Unit {0}
IsLast turn.Fault ending.ReadFault = Unit {0}
IsLast _ _ = ⊥

-- the end of input, or a fault
pub ReadTo-last :
    {taken : ℕ} {before now after : SourceState} {Now After : Runs} {line rest : List ℕ} {old new : HistoryState} (last : Turn) (ended : Ending) →
    IsLast last ended →
    (so_far : SoFar before now Now line old taken) →
    taken ≤ input_limit →
    TurnGave last now after →
    Turned last 0 now after After so_far.bytes rest new →
    ReadTo ended before after After rest new
ReadTo-last {before = before} {now} {after} turn.End ending.End is so_far within took turned = record {
  bytes = so_far.bytes;
  gave = Gave-nothing before now after so_far.bytes so_far.gave turned.1;
  takes = EachGave-last before now after so_far.takes took;
  ends = (turned.0, omega (arith, so_far.counted), turned.2);
}
ReadTo-last {before = before} {now} {after} turn.Fault ending.ReadFault is so_far within took turned = record {
  bytes = so_far.bytes;
  gave = Gave-nothing before now after so_far.bytes so_far.gave turned.1;
  takes = EachGave-last before now after so_far.takes took;
  ends = (HasRisen-before before.faults now.faults after.faults so_far.faults turned.0, omega (arith, so_far.counted), turned.2);
}
ReadTo-last last ended is so_far within took turned = absurd is

-- a stop
pub ReadTo-stopped :
    (n most taken : ℕ) (stop : Stop) (before now after : SourceState) (Now After : Runs) (line rest : List ℕ) (old new : HistoryState) →
    (so_far : SoFar before now Now line old taken) →
    taken + most ≤ input_limit →
    TurnGave (turn.Stopped n stop) now after →
    Turned (turn.Stopped n stop) most now after After so_far.bytes rest new →
    ReadTo (ending.Stopped stop) before after After rest new
ReadTo-stopped n most taken stop before now after Now After line rest old new so_far within took turned =
    let piece : FedPiece n now after so_far.bytes (λ all. StopsIn stop After (ended_lines all) new) = turned.1 in
    record {
      bytes = so_far.bytes ++ piece.piece;
      gave = Gave-append before now after so_far.bytes piece.piece so_far.gave piece.gave;
      takes = EachGave-some before now after so_far.takes took;
      ends = (omega (arith, length-append so_far.bytes piece.piece, so_far.counted, piece.counted, turned.0), piece.fed);
    }

-- an answer couldn't be written
pub ReadTo-unwritten :
    (taken : ℕ) (before now : SourceState) (runs : Runs) (line : List ℕ) (history : HistoryState) →
    (so_far : SoFar before now runs line history taken) →
    taken ≤ input_limit →
    ReadTo ending.WriteFault before now runs line history
ReadTo-unwritten taken before now runs line history so_far within = record {
  bytes = so_far.bytes;
  gave = so_far.gave;
  takes = EachGave-so_far before now so_far.takes;
  ends = (omega (arith, so_far.counted), so_far.progress);
}

-- the byte past the limit was asked for
pub ReadTo-past :
    (ended : Ending) (taken : ℕ) (before now after : SourceState) (runs : Runs) (line : List ℕ) (history : HistoryState) →
    (so_far : SoFar before now runs line history taken) →
    taken ≡ input_limit →
    GaveAny now after →
    PastLimit ended now after →
    ReadTo ended before after runs line history
ReadTo-past ending.End taken before now after runs line history so_far full took past = record {
  bytes = so_far.bytes;
  gave = Gave-nothing before now after so_far.bytes so_far.gave past.1;
  takes = EachGave-last before now after so_far.takes took;
  ends = (past.0, omega (arith, so_far.counted), so_far.progress);
}
ReadTo-past ending.ReadFault taken before now after runs line history so_far full took past = record {
  bytes = so_far.bytes;
  gave = Gave-nothing before now after so_far.bytes so_far.gave past.1;
  takes = EachGave-last before now after so_far.takes took;
  ends = (HasRisen-before before.faults now.faults after.faults so_far.faults past.0, omega (arith, so_far.counted), so_far.progress);
}
ReadTo-past ending.TooLong taken before now after runs line history so_far full took past = record {
  bytes = so_far.bytes ++ past.0 ∷ [];
  gave = Gave-append before now after so_far.bytes (past.0 ∷ []) so_far.gave past.1;
  takes = EachGave-last before now after so_far.takes took;
  ends = (so_far.bytes, past.0, refl, so_far.counted ∙ full, so_far.progress);
}
ReadTo-past ending.Unended taken before now after runs line history so_far full took past = absurd past
ReadTo-past ending.WriteFault taken before now after runs line history so_far full took past = absurd past
ReadTo-past (ending.Stopped stop) taken before now after runs line history so_far full took past = absurd past

-- a piece of at most so many bytes, and at most what is left of the greatest input, stays within it
pub within-limit :
    (most taken : ℕ) (buffer : List ℕ) →
    most ≡ min (length buffer) (67108864 - taken) →
    taken ≤ 67108864 →
    taken + length (take most buffer) ≤ 67108864
within-limit most taken buffer is within = omega (arith, length-take most buffer)

-- a piece was taken and fed
pub FedPiece-taken :
    (n most : ℕ) (before after : SourceState) (out bytes : List ℕ) (Then : List ℕ → Type 0) →
    (n ≡ 0 → ⊥) →
    n ≤ length out →
    length out ≡ most →
    Gave before (take n out) after →
    Then (bytes ++ take n out) →
    (n ≤ most) × FedPiece n before after bytes Then
FedPiece-taken n most before after out bytes Then some fits room gave fed = (
  omega arith,
  record { piece = take n out; some = omega arith; counted = length-take-le n out fits; gave = gave; fed = fed },
)
