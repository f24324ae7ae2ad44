-- What a sink got, where some of a text may be missing because the sink failed or memory was wanted.
use Rattle.std.specs.Prelude.{◌≡◌, ℕ, Bool, true, false, List, take, drop, Result, Ok, Err}
use Rattle.std.specs.Bool.{OnFalse}
use Rattle.fc_entry.specs.Written.{Written}
use Rattle.fc_io.specs.Sink.{SinkState}
use Rattle.fc_recovered.specs.Recovered.{RecoveredState}
use Rattle.fc_recovery_text.specs.Recovering.{AreRead}
use Rattle.fc_recovery_text.specs.declared.state.Unwritten.{Unwritten}
use Rattle.fc_recovery_text.specs.declared.state.Unwritten.TheVariants.{Failed, NoMemory}

-- The text; or a front of it, as the sink failed; or nothing, for want of memory.
abbrev pub IsPutOr : Result (Unit {0}) Unwritten → List ℕ → SinkState → SinkState → Type 0
IsPutOr (Ok done) text before after = Written before text false after
IsPutOr (Err Failed) text before after = Written before text true after
IsPutOr (Err NoMemory) text before after = after ≡ before

-- What the volume at a place reads, unless it has no grain.
pub record NextPut (old new : RecoveredState) (place : ℕ) (before : SinkState) (failed : Bool) (after : SinkState) : Type 0 where
  pub image : new.image ≡ old.image
  pub grain : new.grain ≡ old.grain
  pub text : List ℕ
  pub read : AreRead old.grain old.image (take 1 (drop place old.image.volumes)) old.disks text new.disks
  pub written : Written before text failed after

-- What the volumes read, volume by volume; failed, a front of what some first ones read.
pub record ReadsPut (old new : RecoveredState) (before : SinkState) (failed : Bool) (after : SinkState) : Type 0 where
  pub image : new.image ≡ old.image
  pub grain : new.grain ≡ old.grain
  pub text : List ℕ
  pub count : ℕ
  pub read : AreRead old.grain old.image (take count old.image.volumes) old.disks text new.disks
  pub all : OnFalse failed (take count old.image.volumes ≡ old.image.volumes)
  pub written : Written before text failed after

-- A text of which this holds; or, where the sink failed, a front of one of which the second holds; or, for want of memory, such a one.
abbrev pub StateIsPut : Result (Unit {0}) Unwritten → (IsText IsFront : List ℕ → Type 0) → SinkState → SinkState → Type 0
StateIsPut (Ok done) IsText IsFront before after = (text : List ℕ) × IsText text × Written before text false after
StateIsPut (Err Failed) IsText IsFront before after = (text : List ℕ) × IsFront text × Written before text true after
StateIsPut (Err NoMemory) IsText IsFront before after = (text : List ℕ) × IsFront text × Written before text false after
