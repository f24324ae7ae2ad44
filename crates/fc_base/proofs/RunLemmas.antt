-- One more run behind canonical runs.
use Rattle.std.proofs.Common.{refl, ◌≡◌, ◌≢◌, Bool, true, false, cond, ℕ, ◌+◌, ◌-◌, ◌<◌, ◌≤◌, List, [], ◌∷◌, ◌++◌, replicate, zero, suc, add-zero, append_assoc, ◌∙◌, ap, sym, subst, arith, take, drop, get_or, length, length-drop, length-append}
use Rattle.std.proofs.lemmas.List.{append-nil, get_or-drop, take_more, take-append-drop}
use Rattle.std.proofs.Math.Seq.{take-add, take-append_seam}
use Rattle.fc_base.specs.declared.runs.Run.{Run}
use Rattle.fc_base.specs.Runs.{expanded, EndsOtherwise, IsCanonical}

pub expanded-push : (runs : List Run) (run : Run) → expanded (runs ++ run ∷ []) ≡ expanded runs ++ replicate run.count run.byte
expanded-push [] run = append-nil _
expanded-push (first ∷ runs) run =
    ap (λ rest. replicate first.count first.byte ++ rest) (expanded-push runs run)
    ∙ sym (append_assoc (replicate first.count first.byte) (expanded runs) (replicate run.count run.byte))

pub IsCanonical-push :
    (runs : List Run) (run : Run) →
    IsCanonical runs →
    EndsOtherwise runs run.byte →
    0 < run.count →
    IsCanonical (runs ++ run ∷ [])
IsCanonical-push [] run canonical ends counts = (counts, tt, tt)
IsCanonical-push (first ∷ []) run canonical ends counts = (canonical.0, (λ e. ends (sym e)), (counts, tt, tt))
IsCanonical-push (first ∷ second ∷ runs) run canonical ends counts =
    (canonical.0, canonical.1, IsCanonical-push (second ∷ runs) run canonical.2 ends counts)

-- pushed or refused, they are canonical
pub IsCanonical-pushed :
    (done : Bool) (runs : List Run) (run : Run) →
    IsCanonical runs →
    EndsOtherwise runs run.byte →
    0 < run.count →
    IsCanonical (cond done (runs ++ run ∷ []) runs)
IsCanonical-pushed true runs run canonical ends counts = IsCanonical-push runs run canonical ends counts
IsCanonical-pushed false runs run canonical ends counts = canonical

pub EndsOtherwise-push : (runs : List Run) (run : Run) (byte : ℕ) → run.byte ≢ byte → EndsOtherwise (runs ++ run ∷ []) byte
EndsOtherwise-push [] run byte other = other
EndsOtherwise-push (first ∷ []) run byte other = other
EndsOtherwise-push (first ∷ second ∷ runs) run byte other = EndsOtherwise-push (second ∷ runs) run byte other

-- these runs stand for the bytes before this place, and end where another byte begins
pub record HasRuns (runs : List Run) (bytes : List ℕ) (start : ℕ) : Type 0 where
  pub within : start ≤ length bytes
  pub expands : expanded runs ≡ take start bytes
  pub canonical : IsCanonical runs
  pub ends : start < length bytes → EndsOtherwise runs (get_or bytes start 0)

-- some byte stands at this place, so the run that begins there isn't empty
counts_some :
    (bytes : List ℕ) (start count : ℕ) →
    start < length bytes →
    (count < length (drop start bytes) → get_or (drop start bytes) count 0 ≢ get_or bytes start 0) →
    0 < count
counts_some bytes start zero inside stops =
    absurd (stops (rw length-drop (omega arith)) (rw add-zero at (get_or-drop start bytes 0 0)))
counts_some bytes start (suc count) inside stops = omega arith

-- the run that begins at this place is as long as equal bytes stand there
pub HasRuns-push :
    (runs : List Run) (bytes : List ℕ) (start count : ℕ) →
    HasRuns runs bytes start →
    start < length bytes →
    count ≤ length (drop start bytes) →
    take count (drop start bytes) ≡ replicate count (get_or bytes start 0) →
    (count < length (drop start bytes) → get_or (drop start bytes) count 0 ≢ get_or bytes start 0) →
    HasRuns (runs ++ record { count = count; byte = get_or bytes start 0 } ∷ []) bytes (start + count)
HasRuns-push runs bytes start count has inside within equal stops =
    let byte : ℕ = get_or bytes start 0 in
    let run : Run = record { count = count; byte = byte } in
    let left : length (drop start bytes) ≡ length bytes - start = length-drop start bytes in
    let at : get_or (drop start bytes) count 0 ≡ get_or bytes (start + count) 0 = get_or-drop start bytes count 0 in
    let counts : 0 < count = counts_some bytes start count inside stops in
    record {
      within = omega arith;
      expands =
          expanded-push runs run
          ∙ ap (λ front. front ++ replicate count byte) has.expands
          ∙ ap (λ back. take start bytes ++ back) (sym equal)
          ∙ sym (take-add start count bytes);
      canonical = IsCanonical-push runs run has.canonical (has.ends inside) counts;
      ends = λ more. EndsOtherwise-push runs run _ (λ same. stops (omega arith) (at ∙ sym same));
    }

-- a run of the bytes from this place on
pub HasRuns-pushed :
    (runs more : List Run) (bytes rest : List ℕ) (start count : ℕ) →
    HasRuns runs bytes start →
    start < length bytes →
    rest ≡ drop start bytes →
    count ≤ length rest →
    take count rest ≡ replicate count (get_or bytes start 0) →
    (count < length rest → get_or rest count 0 ≢ get_or bytes start 0) →
    more ≡ runs ++ record { count = count; byte = get_or bytes start 0 } ∷ [] →
    HasRuns more bytes (start + count) × (length bytes - (start + count) < length bytes - start)
HasRuns-pushed runs more bytes rest start count has inside is_rest within equal stops pushed =
    let P : List ℕ → Type 0 = λ r. count ≤ length r in
    let Q : List ℕ → Type 0 = λ r. count < length r → get_or r count 0 ≢ get_or bytes start 0 in
    let R : List Run → Type 0 = λ r. HasRuns r bytes (start + count) in
    let fits : count ≤ length (drop start bytes) = subst P is_rest within in
    let stops' : (count < length (drop start bytes) → get_or (drop start bytes) count 0 ≢ get_or bytes start 0) =
    subst Q is_rest stops in
    let counts : 0 < count = counts_some bytes start count inside stops' in (
      subst R (sym pushed) (HasRuns-push runs bytes start count has inside fits (ap (λ r. take count r) (sym is_rest) ∙ equal) stops'),
      omega arith,
    )

-- the bytes of the first runs stand at the front, up to this place
pub record Filled (runs : List Run) (i : ℕ) (out : List ℕ) (start : ℕ) : Type 0 where
  pub room : length out ≡ length (expanded runs)
  pub place : start ≡ length (expanded (take i runs))
  pub front : take start out ≡ expanded (take i runs)

pub expanded-append : (xs ys : List Run) → expanded (xs ++ ys) ≡ expanded xs ++ expanded ys
expanded-append [] ys = refl
expanded-append (x ∷ xs) ys =
    ap (λ rest. replicate x.count x.byte ++ rest) (expanded-append xs ys)
    ∙ sym (append_assoc (replicate x.count x.byte) (expanded xs) (expanded ys))

-- one run more, as long as the place behind it
expanded-more :
    (runs : List Run) (i : ℕ) (d : Run) →
    i < length runs →
    expanded (take (i + 1) runs) ≡ expanded (take i runs) ++ replicate (get_or runs i d).count (get_or runs i d).byte
expanded-more runs i d inside =
    ap expanded (take_more runs i d inside) ∙ expanded-push (take i runs) (get_or runs i d)

-- the first runs have no more bytes than all
expanded-within :
    (runs : List Run) (i : ℕ) → length (expanded (take i runs)) ≤ length (expanded runs)
expanded-within runs i =
    let all : expanded runs ≡ expanded (take i runs) ++ expanded (drop i runs) =
    ap expanded (sym (take-append-drop i runs)) ∙ expanded-append (take i runs) (drop i runs) in
    omega (arith, ap length all, length-append (expanded (take i runs)) (expanded (drop i runs)))

length-replicate-run : (n byte : ℕ) → length (replicate n byte) ≡ n
length-replicate-run zero byte = refl
length-replicate-run (suc n) byte = ap suc (length-replicate-run n byte)

pub Filled-end :
    (runs : List Run) (i : ℕ) (d : Run) (out : List ℕ) (start : ℕ) →
    i < length runs →
    Filled runs i out start →
    start + (get_or runs i d).count ≤ length out
Filled-end runs i d out start inside filled =
    let n : ℕ = (get_or runs i d).count in
    let b : ℕ = (get_or runs i d).byte in
    omega (
      arith,
      filled.room,
      filled.place,
      ap length (expanded-more runs i d inside),
      expanded-within runs (i + 1),
      length-append (expanded (take i runs)) (replicate n b),
      length-replicate-run n b,
    )

-- the bytes of one run more
pub Filled-more :
    (runs : List Run) (i : ℕ) (d : Run) (out new : List ℕ) (start : ℕ) →
    i < length runs →
    Filled runs i out start →
    new ≡ take start out ++ replicate (start + (get_or runs i d).count - start) (get_or runs i d).byte
    ++ drop (start + (get_or runs i d).count) out →
    length new ≡ length out →
    Filled runs (i + 1) new (start + (get_or runs i d).count)
Filled-more runs i d out new start inside filled is kept =
    let n : ℕ = (get_or runs i d).count in
    let b : ℕ = (get_or runs i d).byte in
    let part : List ℕ = replicate n b in
    let less : start + n - start ≡ n = omega arith in
    let more : expanded (take (i + 1) runs) ≡ expanded (take i runs) ++ part = expanded-more runs i d inside in
    let all : new ≡ expanded (take (i + 1) runs) ++ drop (start + n) out =
    is ∙ ap (λ k. take start out ++ replicate k b ++ drop (start + n) out) less
    ∙ ap (λ front. front ++ part ++ drop (start + n) out) filled.front
    ∙ ap (λ front. front ++ drop (start + n) out) (sym more) in
    let place : start + n ≡ length (expanded (take (i + 1) runs)) =
    omega (arith, filled.place, ap length more, length-append (expanded (take i runs)) part, length-replicate-run n b) in
    record {
      room = kept ∙ filled.room;
      place = place;
      front =
          ap (λ k. take k new) place
          ∙ ap (λ l. take (length (expanded (take (i + 1) runs))) l) all
          ∙ take-append_seam (expanded (take (i + 1) runs)) (drop (start + n) out);
    }
