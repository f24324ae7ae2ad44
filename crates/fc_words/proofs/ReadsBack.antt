-- The words of a canonical line, read from the left, give the command.
use Rattle.std.proofs.Common.{◌≡◌, ℕ, ◌+◌, ◌≤◌, Bool, true, false, List, [], ◌∷◌, ◌++◌, length, Some, None, Ok, refl, sym, subst, arith}
use Rattle.std.specs.List.{list_all, find}
use Rattle.fc_base.specs.CommandText.{flag_words}
use Rattle.fc_base.specs.declared.command.Command.{Command}
use Rattle.fc_base.specs.declared.command.Line.TheVariants.{Command as OfCommand}
use Rattle.fc_words.specs.declared.given.Flags.{Flags}
use Rattle.fc_words.specs.declared.given.Given.{Given}
use Rattle.fc_words.specs.declared.given.Operands.{Operands}
use Rattle.fc_words.specs.declared.given.Settings.{Settings}
use Rattle.fc_words.specs.declared.grammar.Flag.{Flag}
use Rattle.fc_words.specs.declared.grammar.LineOption.TheVariants.{Flag as OfFlag, Setting as OfSetting}
use Rattle.fc_words.specs.declared.grammar.Operand.{Operand}
use Rattle.fc_words.specs.declared.grammar.Setting.{Setting}
use Rattle.fc_words.specs.declared.grammar.Verb.{Verb}
use Rattle.fc_words.specs.Given.{set, has_setting, raise, is_raised, is_wanted, take}
use Rattle.fc_words.specs.Grammar.{option_of, option_spelling, operands_of}
use Rattle.fc_words.specs.Lines.{begins_with, read_words}
use Rattle.fc_words.proofs.JoinLemmas.{is_word}

-- what is given, with no option waiting
abbrev pub having : Settings → Flags → Operands → Given
having s f o = record { waiting = None; settings = s; flags = f; operands = o }

-- these words, behind what is given, make the command; each is a word, and there are at most so many
pub record Reads (verb : Verb) (s : Settings) (f : Flags) (o : Operands) (words : List (List ℕ)) (most : ℕ) (command : Command) : Type 0 where
  pub reads : (at : ℕ) → read_words verb at (having s f o) words ≡ Ok (OfCommand command)
  pub all : list_all is_word words ≡ true
  pub few : length words ≤ most

-- an option and its value
pub Reads-setting : (verb : Verb) (setting : Setting) (s s' : Settings) (f : Flags) (o : Operands) (value : List ℕ) (words : List (List ℕ)) (most : ℕ) (command : Command) →
    begins_with 45 (option_spelling (OfSetting setting)) ≡ true →
    is_word (option_spelling (OfSetting setting)) ≡ true →
    option_of verb (option_spelling (OfSetting setting)) ≡ Some (OfSetting setting) →
    has_setting setting s ≡ false →
    is_word value ≡ true →
    ((at : ℕ) → set setting at value s ≡ Ok s') →
    Reads verb s' f o words most command →
    Reads verb s f o (option_spelling (OfSetting setting) ∷ value ∷ words) (most + 2) command
Reads-setting verb setting s s' f o value words most command dash option named fresh word sets rest = record {
  reads = λ at. rw (dash, named, fresh, sets (at + 1)) (rest.reads (at + 1 + 1));
  all = rw (option, word) rest.all;
  few = let few = rest.few in omega arith;
}

-- an option without a value
pub Reads-flag : (verb : Verb) (flag : Flag) (s : Settings) (f : Flags) (o : Operands) (words : List (List ℕ)) (most : ℕ) (command : Command) →
    begins_with 45 (option_spelling (OfFlag flag)) ≡ true →
    is_word (option_spelling (OfFlag flag)) ≡ true →
    option_of verb (option_spelling (OfFlag flag)) ≡ Some (OfFlag flag) →
    is_raised flag f ≡ false →
    Reads verb s (raise flag f) o words most command →
    Reads verb s f o (option_spelling (OfFlag flag) ∷ words) (most + 1) command
Reads-flag verb flag s f o words most command dash option named fresh rest = record {
  reads = λ at. rw (dash, named, fresh) (rest.reads (at + 1));
  all = rw option rest.all;
  few = let few = rest.few in omega arith;
}

-- an operand
pub Reads-operand : (verb : Verb) (operand : Operand) (s : Settings) (f : Flags) (o o' : Operands) (value : List ℕ) (words : List (List ℕ)) (most : ℕ) (command : Command) →
    begins_with 45 value ≡ false →
    is_word value ≡ true →
    find (is_wanted o) (operands_of verb) ≡ Some operand →
    ((at : ℕ) → take operand at value o ≡ Ok o') →
    Reads verb s f o' words most command →
    Reads verb s f o (value ∷ words) (most + 1) command
Reads-operand verb operand s f o o' value words most command no_dash word wanted takes rest = record {
  reads = λ at. rw (no_dash, wanted, takes at) (rest.reads (at + 1));
  all = rw word rest.all;
  few = let few = rest.few in omega arith;
}

-- no words more
pub Reads-end : (verb : Verb) (s : Settings) (f : Flags) (o : Operands) (command : Command) →
    ((at : ℕ) → read_words verb at (having s f o) [] ≡ Ok (OfCommand command)) →
    Reads verb s f o [] 0 command
Reads-end verb s f o command done = record { reads = done; all = refl; few = omega arith }

-- fewer words are not more
pub Reads-more : (verb : Verb) (s : Settings) (f : Flags) (o : Operands) (words : List (List ℕ)) (most more : ℕ) (command : Command) →
    Reads verb s f o words most command → Reads verb s f o words (most + more) command
Reads-more verb s f o words most more command rest = record {
  reads = rest.reads;
  all = rest.all;
  few = let few = rest.few in omega arith;
}

-- an option without a value that may be given, behind what is given
pub Reads-raised : (verb : Verb) (flag : Flag) (put : Bool → Flags) (given : Bool) {s : Settings} {o : Operands} {words : List (List ℕ)} {most : ℕ} {command : Command} →
    begins_with 45 (option_spelling (OfFlag flag)) ≡ true →
    is_word (option_spelling (OfFlag flag)) ≡ true →
    option_of verb (option_spelling (OfFlag flag)) ≡ Some (OfFlag flag) →
    is_raised flag (put false) ≡ false →
    raise flag (put false) ≡ put true →
    Reads verb s (put given) o words most command →
    Reads verb s (put false) o (flag_words (option_spelling (OfFlag flag)) given ++ words) (most + 1) command
Reads-raised verb flag put false {s} {o} {words} {most} {command} dash option named fresh raises rest =
    Reads-more verb s (put false) o words most 1 command rest
Reads-raised verb flag put true {s} {o} {words} {most} {command} dash option named fresh raises rest =
    let At : Flags → Type 0 = λ f. Reads verb s f o words most command in
    Reads-flag verb flag s (put false) o words most command dash option named fresh (subst At (sym raises) rest)
