-- What exact readers answer of the front of some bytes: its length, and where no text goes on.
use Rattle.std.proofs.Common.{◌≡◌, ℕ, ◌-◌, ◌≤◌, List, length, take, Result, Ok, Err, ap, ◌∙◌, length-append, arith}
use Rattle.fc_reading.proofs.Exact.{Exact}
use Rattle.fc_reading.proofs.StopsLemmas.{take-front}
use Rattle.fc_reading.proofs.Words.{nothing}

-- the bytes that were read are the text of the value
pub record Found {V : Type 0} (Fits : V → Type 0) (text : V → List ℕ) (bytes : List ℕ) (value : V) (rest : List ℕ) : Type 0 where
  pub fits : Fits value
  pub within : length rest ≤ length bytes
  pub front : take (length bytes - length rest) bytes ≡ text value

pub found_by :
    {V : Type 0} (Fits : V → Type 0) (text : V → List ℕ) (read : List ℕ → Result (V × List ℕ) ℕ) →
    Exact Fits text nothing read →
    (bytes : List ℕ) (value : V) (rest : List ℕ) → read bytes ≡ Ok (value, rest) → Found Fits text bytes value rest
found_by Fits text read exact bytes value rest e =
    let t = exact.takes bytes value rest e in
    record {
      fits = t.fits;
      within = omega (arith, ap length t.split, length-append (text value) rest);
      front =
          ap (take (length bytes - length rest)) t.split
          ∙ take-front (text value) rest (length bytes - length rest) (omega (arith, ap length t.split, length-append (text value) rest));
    }

-- no more bytes are left than there were
pub left_by :
    {V : Type 0} (Fits : V → Type 0) (text : V → List ℕ) (read : List ℕ → Result (V × List ℕ) ℕ) →
    Exact Fits text nothing read →
    (bytes : List ℕ) (left : ℕ) → read bytes ≡ Err left → left ≤ length bytes
left_by Fits text read exact bytes left e =
    let s = exact.stops bytes left e in
    omega (arith, s.left_is, ap length s.split, length-append s.front s.rest)
