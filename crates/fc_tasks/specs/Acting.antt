-- What actors have done.
use Rattle.std.specs.Prelude.{◌≡◌, ◌≢◌, ℕ, zero, suc, ◌<◌, ◌≤◌, List, [], ◌∷◌, ◌++◌, map, length, flat_map, Option, Some, None, Bool, true, false, Result, Ok, Err}
use Rattle.fc_entry.specs.declared.stop.Stop.{Stop}
use Rattle.fc_entry.specs.declared.stop.Stop.TheVariants.{LogFull, NoMemory}
use Rattle.fc_yard.specs.Calls.{YardView, PassView, IsPassOf}
use Rattle.fc_yard.specs.Views.{held_of, HoldsNone}
use Rattle.fc_yard.specs.Whole.{OpensWith}
use Rattle.fc_yard.specs.declared.rule.View.{View}
use Rattle.fc_tasks.specs.declared.actor.Actor.{Actor}
use Rattle.fc_tasks.specs.declared.actor.Answered.{Answered}
use Rattle.fc_tasks.specs.declared.script.Needs.{Needs}
use Rattle.fc_tasks.specs.declared.script.Needs.TheVariants.{Nothing}

-- ---- numbers that rise

-- Each number is above n.
abbrev pub AllAbove : {E : Type 0} → ℕ → List (ℕ × E) → Type 0
AllAbove n [] = Unit {0}
AllAbove n (m ∷ ms) = (n < m.0) × AllAbove n ms

-- Each number is above those before it.
abbrev pub AreRising : {E : Type 0} → List (ℕ × E) → Type 0
AreRising [] = Unit {0}
AreRising (m ∷ ms) = AllAbove m.0 ms × AreRising ms

-- The entries alone.
abbrev pub entries_of : {E : Type 0} → List (ℕ × E) → List E
entries_of made = map (λ m. m.1) made

-- ---- passes

-- A list read at a place.
abbrev pub at_or_none : {A : Type 0} → List A → ℕ → Option A
at_or_none [] p = None
at_or_none (x ∷ xs) zero = Some x
at_or_none (x ∷ xs) (suc p) = at_or_none xs p

module _ {P E : Type 0} where
  -- The pass is one of the same yard, with the same shares.
  pub record IsSamePass (old new : View P E) : Type 0 where
    pub openings : new.openings ≡ old.openings
    pub first : new.first ≡ old.first
    pub limit : new.limit ≡ old.limit
    pub passes : new.passes ≡ old.passes
    pub shares : new.shares ≡ old.shares

  -- It holds these parts, in order, and no other.
  abbrev pub HoldsJust : View P E → List P → Type 0
  HoldsJust v xs = (p : ℕ) → held_of v p ≡ at_or_none xs p

  -- It holds no part, and no ticket that it didn't use.
  pub record IsFree (y : YardView) (p : PassView P E) : Type 0 where
    pub yard : IsPassOf y p
    pub parts : length p.view.openings ≡ y.parts
    pub none : HoldsNone p.view
    pub used : p.view.tickets ≡ 0

module _ {W E P : Type 0} (fits : P → W → ℕ → P → Type 0) (sound : W → W → Type 0) (count : W → ℕ) (steps : W → ℕ → E → W → Type 0) where
  -- There is something on which its yard was opened.
  abbrev pub IsOpened : View P E → Type 0
  IsOpened v = (w0 : W) × OpensWith fits sound count steps v.openings v.first w0

-- ---- scripts

module _ {E P S : Type 0} (needed : S → Needs) (suits : S → List P → ℕ → Type 0) (goes : S → E → S → Type 0) where
  -- Of these entries each answered the next request of the script, and the rest is left.
  abbrev pub Went : S → List E → S → Type 0
  Went s [] last = last ≡ s
  Went s (e ∷ es) last = (next : S) × goes s e next × Went next es last

  -- Why an actor of a yard with this limit stopped, that has seen so many tickets given: nothing is left; or something is, and
  -- all tickets are given; or memory was wanted.
  abbrev pub Stopped : ℕ → ℕ → S → Option Stop → Type 0
  Stopped limit low left None = needed left ≡ Nothing
  Stopped limit low left (Some LogFull) = (needed left ≢ Nothing) × (limit ≤ low)
  Stopped limit low left (Some NoMemory) = Unit {0}

  -- The actor's script suits its yard, and its list has what its pass drew.
  pub record IsActing (y : YardView) (a : Actor P E S) : Type 0 where
    pub free : IsFree y a.pass
    pub suited : suits a.script a.pass.view.openings a.pass.view.limit
    pub made : a.made.items ≡ a.pass.view.made
    pub rises : AreRising a.pass.view.made

  -- The actor did one more request.
  pub record HasDone (old new : Actor P E S) : Type 0 where
    pub number : ℕ
    pub entry : E
    pub made : new.made.items ≡ old.made.items ++ (number, entry) ∷ []
    pub went : goes old.script entry new.script

  -- It did some requests more.
  pub record HasWent (old new : Actor P E S) : Type 0 where
    pub more : List (ℕ × E)
    pub made : new.made.items ≡ old.made.items ++ more
    pub went : Went old.script (entries_of more) new.script

  -- It did none.
  pub record HasNotDone (old new : Actor P E S) : Type 0 where
    pub made : new.made.items ≡ old.made.items
    pub script : new.script ≡ old.script

  -- It stopped for this reason, and did none.
  pub record StepEnds (stop : Stop) (old new : Actor P E S) : Type 0 where
    pub stays : HasNotDone old new
    pub stopped : Stopped new.pass.view.limit new.pass.view.low new.script (Some stop)

  -- It did one more request; or none is left; or it stopped.
  abbrev pub Stepped : Result Bool Stop → Actor P E S → Actor P E S → Type 0
  Stepped (Ok true) old new = HasDone old new
  Stepped (Ok false) old new = HasNotDone old new × (needed new.script ≡ Nothing)
  Stepped (Err stop) old new = StepEnds stop old new

  -- What an actor answered of its script.
  pub record HasAnswered (limit low : ℕ) (first : S) (a : Answered E S) : Type 0 where
    pub went : Went first (entries_of a.made.items) a.left
    pub rises : AreRising a.made.items
    pub stopped : Stopped limit low a.left a.stop

  -- Each of the actors of theirs.
  abbrev pub AllAnswered : ℕ → ℕ → List S → List (Answered E S) → Type 0
  AllAnswered limit low [] [] = Unit {0}
  AllAnswered limit low (s ∷ ss) (a ∷ answers) = HasAnswered limit low s a × AllAnswered limit low ss answers
  AllAnswered limit low ss answers = ⊥

  abbrev pub AllSuit : List S → List P → ℕ → Type 0
  AllSuit [] openings limit = Unit {0}
  AllSuit (s ∷ ss) openings limit = suits s openings limit × AllSuit ss openings limit

-- What all actors made, one after the other.
abbrev pub all_made : {E S : Type 0} → List (Answered E S) → List (ℕ × E)
all_made answers = flat_map (λ a. a.made.items) answers
