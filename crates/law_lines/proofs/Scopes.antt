-- What a scope makes of a line that is a command in another scope.
use Rattle.std.proofs.Common.{◌≡◌, ℕ, ◌+◌, Bool, true, false, if◌then◌else◌, List, [], ◌∷◌, length, Option, Some, None, Result, Ok, Err, refl, sym, ap, ◌∙◌, subst, nat_lt}
use Rattle.std.specs.Bool.{⊤}
use Rattle.fc_base.specs.declared.command.Command.{Command}
use Rattle.fc_base.specs.declared.command.Line.{Line}
use Rattle.fc_base.specs.declared.command.Line.TheVariants.{Blank, Command as OfCommand, Together, Actor as OfActor, End}
use Rattle.fc_base.specs.declared.command.Scope.{Scope}
use Rattle.fc_base.specs.declared.command.Scope.TheVariants.{Free}
use Rattle.fc_base.specs.declared.fault.WordFault.{WordFault}
use Rattle.fc_base.specs.declared.fault.WordFault.TheVariants.{MissingWord, MissingOption, LongLine, UnknownCommand}
use Rattle.fc_base.specs.declared.fault.RequiredOption.TheVariants.{Size, Seconds, Source, Target, Preset}
use Rattle.fc_base.specs.declared.limits.TheConstants.{MAX_LINE_BYTES}
use Rattle.fc_words.specs.declared.given.Flags.{Flags}
use Rattle.fc_words.specs.declared.given.Given.{Given}
use Rattle.fc_words.specs.declared.given.Operands.{Operands}
use Rattle.fc_words.specs.declared.given.RoleWord.{RoleWord}
use Rattle.fc_words.specs.declared.given.RoleWord.TheVariants.{Host, Admin, Copier, Cleaner}
use Rattle.fc_words.specs.declared.given.Settings.{Settings}
use Rattle.fc_words.specs.declared.grammar.Family.{Family}
use Rattle.fc_words.specs.declared.grammar.Family.TheVariants.{Storage, Access, CopyServices, Block}
use Rattle.fc_words.specs.declared.grammar.Setting.{Setting}
use Rattle.fc_words.specs.declared.grammar.Verb.{Verb}
use Rattle.fc_words.specs.declared.grammar.Verb.TheVariants.{MakeVolume, RemoveVolume, WriteBlocks, ReadBlocks, ArmFault, PassTime, MakeMapping, PrepareMapping, StartMapping, StopMapping, RemoveMapping, MakeGroup, PrepareGroup, StartGroup, StopGroup, RemoveGroup, ListMappings, ListGroups, ListVolumes, ShowProgress, ListDependents, MakeCopy, ListRoom, BeginBlock, BeginActor, EndBlock}
use Rattle.fc_words.specs.Given.{nothing_given}
use Rattle.fc_words.specs.Grammar.{verb_of, family_of, scope_has}
use Rattle.fc_words.specs.Words.{words_of}
use Rattle.fc_base.specs.CommandText.{command_text}
use Rattle.fc_words.specs.Lines.{then_read, need, role_line, complete, begins_with, read_word, finish, read_words, not_here, named_line, line_behind, is_prefix, line_of_words, line_of}
use Rattle.fc_words.proofs.LinesBack.{reads_back}
use Rattle.law_lines.specs.Law.{command_family, command_in, LinesLaw}

-- ---- a verb's lines are commands of its kind

-- what is read is no command of another kind
abbrev IsOf : Family → Result Line WordFault → Type 0
IsOf family (Ok (OfCommand command)) = command_family command ≡ family
IsOf family _ = ⊤

need_of : {T : Type 0} (family : Family) (value : Option T) (fault : WordFault) (next : T → Result Line WordFault) → ((there : T) → IsOf family (next there)) →
    IsOf family (need value fault next)
need_of family (Some there) fault next of = of there
need_of family None fault next of = tt

role_of : (name : List ℕ) (role : RoleWord) (o : Operands) (end : ℕ) → IsOf Block (role_line name role o end)
role_of name Host o end = tt
role_of name Admin o end = tt
role_of name Copier o end = need_of Block o.turns (MissingWord end) _ (λ turns. tt)
role_of name Cleaner o end = need_of Block o.turns (MissingWord end) _ (λ turns. tt)

complete_of : (verb : Verb) (end : ℕ) (s : Settings) (f : Flags) (o : Operands) → IsOf (family_of verb) (complete verb end s f o)
complete_of MakeVolume end s f o = need_of Storage s.size (MissingOption Size) _ (λ size. refl)
complete_of RemoveVolume end s f o = need_of Storage o.object (MissingWord end) _ (λ volume. refl)
complete_of WriteBlocks end s f o =
    need_of Access o.object (MissingWord end) _ (λ volume. need_of Access o.block (MissingWord end) _ (λ block.
    need_of Access o.count (MissingWord end) _ (λ count. need_of Access o.byte (MissingWord end) _ (λ byte. refl))))
complete_of ReadBlocks end s f o =
    need_of Access o.object (MissingWord end) _ (λ volume. need_of Access o.block (MissingWord end) _ (λ block.
    need_of Access o.count (MissingWord end) _ (λ count. refl)))
complete_of ArmFault end s f o =
    need_of Storage o.object (MissingWord end) _ (λ volume. need_of Storage o.grain (MissingWord end) _ (λ grain.
    need_of Storage o.calls (MissingWord end) _ (λ calls. refl)))
complete_of PassTime end s f o = need_of Storage s.seconds (MissingOption Seconds) _ (λ seconds. refl)
complete_of MakeMapping end s f o =
    need_of CopyServices s.source (MissingOption Source) _ (λ source. need_of CopyServices s.target (MissingOption Target) _ (λ target. refl))
complete_of PrepareMapping end s f o = need_of CopyServices o.object (MissingWord end) _ (λ map. refl)
complete_of StartMapping end s f o = need_of CopyServices o.object (MissingWord end) _ (λ map. refl)
complete_of StopMapping end s f o = need_of CopyServices o.object (MissingWord end) _ (λ map. refl)
complete_of RemoveMapping end s f o = need_of CopyServices o.object (MissingWord end) _ (λ map. refl)
complete_of MakeGroup end s f o = refl
complete_of PrepareGroup end s f o = need_of CopyServices o.object (MissingWord end) _ (λ group. refl)
complete_of StartGroup end s f o = need_of CopyServices o.object (MissingWord end) _ (λ group. refl)
complete_of StopGroup end s f o = need_of CopyServices o.object (MissingWord end) _ (λ group. refl)
complete_of RemoveGroup end s f o = need_of CopyServices o.object (MissingWord end) _ (λ group. refl)
complete_of ListMappings end s f o = refl
complete_of ListGroups end s f o = refl
complete_of ListVolumes end s f o = refl
complete_of ShowProgress end s f o = need_of CopyServices o.object (MissingWord end) _ (λ map. refl)
complete_of ListDependents end s f o = need_of CopyServices o.object (MissingWord end) _ (λ map. refl)
complete_of MakeCopy end s f o =
    need_of Storage s.source (MissingOption Source) _ (λ source. need_of Storage s.preset (MissingOption Preset) _ (λ preset. refl))
complete_of ListRoom end s f o = refl
complete_of BeginBlock end s f o = tt
complete_of BeginActor end s f o =
    need_of Block o.actor (MissingWord end) _ (λ name. need_of Block o.role (MissingWord end) _ (λ role. role_of name role o end))
complete_of EndBlock end s f o = tt

finish_of : (waiting : Option Setting) (verb : Verb) (end : ℕ) (given : Given) → IsOf (family_of verb) (finish waiting verb end given)
finish_of (Some setting) verb end given = tt
finish_of None verb end given = complete_of verb end given.settings given.flags given.operands

then_of : (family : Family) (read : Result Given WordFault) (next : Given → Result Line WordFault) → ((more : Given) → IsOf family (next more)) →
    IsOf family (then_read read next)
then_of family (Ok more) next of = of more
then_of family (Err fault) next of = tt

words_of_verb : (verb : Verb) (at : ℕ) (given : Given) (words : List (List ℕ)) → IsOf (family_of verb) (read_words verb at given words)
words_of_verb verb at given [] = finish_of given.waiting verb at given
words_of_verb verb at given (word ∷ words) =
    then_of (family_of verb) (read_word verb at word given) (λ more. read_words verb (at + 1) more words) (λ more. words_of_verb verb (at + 1) more words)

-- ---- the same line in another scope

-- a fault and a blank line are no command
no_fault : (fault : WordFault) (command : Command) → Err fault ≡ Ok (OfCommand command) → ⊥
no_fault fault command e = cc

no_blank : (command : Command) → ◌≡◌ {A = Result Line WordFault} (Ok Blank) (Ok (OfCommand command)) → ⊥
no_blank command e = cc

-- what a scope has is read
read_there : (has : Bool) (read : Result Line WordFault) (fault : WordFault) (command : Command) →
    (if has then read else Err fault) ≡ Ok (OfCommand command) → read ≡ Ok (OfCommand command)
read_there true read fault command e = e
read_there false read fault command e = absurd (no_fault fault command e)

named_in : (one scope : Scope) (verb : Option Verb) (at : ℕ) (words : List (List ℕ)) (command : Command) →
    named_line one verb at words ≡ Ok (OfCommand command) → named_line scope verb at words ≡ command_in scope command
named_in one scope None at words command e = absurd (no_fault UnknownCommand command e)
named_in one scope (Some verb) at words command e =
    let read = read_there (scope_has one (family_of verb)) (read_words verb at nothing_given words) (not_here one) command e in
    let family : command_family command ≡ family_of verb = subst (IsOf (family_of verb)) read (words_of_verb verb at nothing_given words) in
    let In : Family → Result Line WordFault → Result Line WordFault = λ kind line. if scope_has scope kind then line else Err (not_here scope) in
    ap (In (family_of verb)) read ∙ ap (λ kind. In kind (Ok (OfCommand command))) (sym family)

behind_in : (one scope : Scope) (words : List (List ℕ)) (command : Command) →
    line_behind one words ≡ Ok (OfCommand command) → line_behind scope words ≡ command_in scope command
behind_in one scope [] command e = absurd (no_fault UnknownCommand command e)
behind_in one scope (first ∷ words) command e = named_in one scope (verb_of first) 3 words command e

first_in : (one scope : Scope) (comment prefix : Bool) (first : List ℕ) (words : List (List ℕ)) (command : Command) →
    (if comment then Ok Blank else (if prefix then line_behind one words else named_line one (verb_of first) 2 words)) ≡ Ok (OfCommand command) →
    (if comment then Ok Blank else (if prefix then line_behind scope words else named_line scope (verb_of first) 2 words)) ≡ command_in scope command
first_in one scope true prefix first words command e = absurd (no_blank command e)
first_in one scope false true first words command e = behind_in one scope words command e
first_in one scope false false first words command e = named_in one scope (verb_of first) 2 words command e

words_in : (one scope : Scope) (words : List (List ℕ)) (command : Command) →
    line_of_words one words ≡ Ok (OfCommand command) → line_of_words scope words ≡ command_in scope command
words_in one scope [] command e = absurd (no_blank command e)
words_in one scope (first ∷ words) command e = first_in one scope (begins_with 35 first) (is_prefix first) first words command e

length_in : (one scope : Scope) (long : Bool) (words : List (List ℕ)) (command : Command) →
    (if long then Err LongLine else line_of_words one words) ≡ Ok (OfCommand command) →
    (if long then Err LongLine else line_of_words scope words) ≡ command_in scope command
length_in one scope true words command e = absurd (no_fault LongLine command e)
length_in one scope false words command e = words_in one scope words command e

line_in : (one scope : Scope) (line : List ℕ) (command : Command) → line_of one line ≡ Ok (OfCommand command) → line_of scope line ≡ command_in scope command
line_in one scope line command e = length_in one scope (nat_lt MAX_LINE_BYTES (length line)) (words_of line) command e

pub lines_law_holds : LinesLaw
lines_law_holds =
    record {
      anywhere = line_in;
      canonical = λ scope command good. line_in Free scope (command_text command) command (reads_back command good);
    }
