-- Calls of `take`, one after the other.
use Rattle.std.proofs.Common.{◌≢◌, ℕ, ◌≤◌, List, [], ◌∷◌, ◌++◌, length, refl, subst, arith, Result, Ok, take, zero, suc}
use Rattle.fc_base.specs.declared.outcome.Failed.{Failed}
use Rattle.fc_io.specs.Source.{SourceState, AfterTake, Takes}
use Rattle.fc_run.specs.Takes.{piece_of, TookOnce, Took, OnlyLastEmpty, EachGave}
use Rattle.fc_run.specs.Taking.{AllSome, SoFarGave, GaveSome, GaveAny}

-- one call more
Took-more :
    (before now after : SourceState) (pieces : List (List ℕ)) (piece : List ℕ) →
    Took before pieces now →
    TookOnce now piece after →
    Took before (pieces ++ piece ∷ []) after
Took-more before now after [] piece took once =
    let P : SourceState → Type 0 = λ s. TookOnce s piece after in
    (after, subst P took once, refl)
Took-more before now after (first ∷ pieces) piece took once =
    (took.0, took.1, Took-more took.0 now after pieces piece took.2 once)

AllSome-more : (pieces : List (List ℕ)) (piece : List ℕ) → AllSome pieces → piece ≢ [] → AllSome (pieces ++ piece ∷ [])
AllSome-more [] piece all some = (some, tt)
AllSome-more (first ∷ pieces) piece all some = (all.0, AllSome-more pieces piece all.1 some)

OnlyLastEmpty-all : (pieces : List (List ℕ)) → AllSome pieces → OnlyLastEmpty pieces
OnlyLastEmpty-all [] all = tt
OnlyLastEmpty-all (piece ∷ []) all = tt
OnlyLastEmpty-all (piece ∷ next ∷ pieces) all = (all.0, OnlyLastEmpty-all (next ∷ pieces) all.1)

OnlyLastEmpty-last : (pieces : List (List ℕ)) (last : List ℕ) → AllSome pieces → OnlyLastEmpty (pieces ++ last ∷ [])
OnlyLastEmpty-last [] last all = tt
OnlyLastEmpty-last (piece ∷ []) last all = (all.0, tt)
OnlyLastEmpty-last (piece ∷ next ∷ pieces) last all = (all.0, OnlyLastEmpty-last (next ∷ pieces) last all.1)

-- a call that gave some bytes
pub SoFarGave-more : (before now after : SourceState) → SoFarGave before now → GaveSome now after → SoFarGave before after
SoFarGave-more before now after so_far gave = record {
  pieces = so_far.pieces ++ gave.piece ∷ [];
  took = Took-more before now after so_far.pieces gave.piece so_far.took gave.once;
  some = AllSome-more so_far.pieces gave.piece so_far.some gave.some;
}

-- the last call
pub EachGave-last : (before now after : SourceState) → SoFarGave before now → GaveAny now after → EachGave before after
EachGave-last before now after so_far gave = record {
  pieces = so_far.pieces ++ gave.piece ∷ [];
  took = Took-more before now after so_far.pieces gave.piece so_far.took gave.once;
  some = OnlyLastEmpty-last so_far.pieces gave.piece so_far.some;
}

-- the last call gave some bytes
pub EachGave-some : (before now after : SourceState) → SoFarGave before now → GaveSome now after → EachGave before after
EachGave-some before now after so_far gave = EachGave-last before now after so_far record { piece = gave.piece; once = gave.once }

-- so far
pub EachGave-so_far : (before now : SourceState) → SoFarGave before now → EachGave before now
EachGave-so_far before now so_far = record {
  pieces = so_far.pieces;
  took = so_far.took;
  some = OnlyLastEmpty-all so_far.pieces so_far.some;
}

-- what `take` left, as one call
some_bytes : (n : ℕ) (out : List ℕ) → n ≢ 0 → n ≤ length out → take n out ≢ []
some_bytes zero out some fits = absurd (some refl)
some_bytes (suc n) [] some fits = absurd (omega arith)
some_bytes (suc n) (byte ∷ out) some fits = λ e. cc

pub GaveSome-taken :
    (before after : SourceState) (n : ℕ) (out : List ℕ) →
    AfterTake {E = Failed} before (Ok n) out after →
    n ≢ 0 →
    GaveSome before after
GaveSome-taken before after n out call some =
    let taken : Takes before n out after = call.taken in
    record {
      piece = take n out;
      some = some_bytes n out some taken.fits;
      once = record { answer = Ok n; out = out; call = call; piece_is = refl };
    }

pub GaveAny-taken :
    (before after : SourceState) (answer : Result ℕ Failed) (out : List ℕ) →
    AfterTake before answer out after →
    GaveAny before after
GaveAny-taken before after answer out call =
    record { piece = piece_of answer out; once = record { answer = answer; out = out; call = call; piece_is = refl } }

-- no call was made
pub EachGave-none : (source : SourceState) → EachGave source source
EachGave-none source = record { pieces = []; took = refl; some = tt }
