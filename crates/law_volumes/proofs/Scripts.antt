-- What the lines of a block ask, and its actors: nothing that makes or removes a volume.
use Rattle.std.proofs.Common.{◌≡◌, ◌≢◌, ℕ, ◌%◌, false, List, [], ◌∷◌, map, Option, Some, None, Result, Ok, Err, refl, sym, ap, subst, All, Contains, get_or, true≢false}
use Rattle.std.specs.List.{flat_map, range_with_len}
use Rattle.std.proofs.lemmas.List.Elements.{All-nil, All-cons, All-head, All-tail, All-append, All-map}
use Rattle.fc_base.specs.Tables.{volume_named}
use Rattle.fc_base.specs.declared.command.Command.{Command}
use Rattle.fc_base.specs.declared.command.Command.TheVariants.{Read as ReadLine, Write as WriteLine, Mkpreset}
use Rattle.fc_base.specs.declared.command.Line.{Line}
use Rattle.fc_base.specs.declared.command.Line.TheVariants.{Blank, Command as CommandLine}
use Rattle.fc_base.specs.declared.command.Role.{Role}
use Rattle.fc_base.specs.declared.command.Role.TheVariants.{Host, Admin, Copier, Cleaner}
use Rattle.fc_base.specs.declared.command.Scope.TheVariants.{Free}
use Rattle.fc_base.specs.declared.command.ScriptLine.{ScriptLine}
use Rattle.fc_base.specs.declared.fault.Refusal.{Refusal}
use Rattle.fc_base.specs.declared.fault.WordFault.{WordFault}
use Rattle.fc_base.specs.declared.ids.VolId.{VolId}
use Rattle.fc_base.specs.declared.request.Request.{Request}
use Rattle.fc_base.specs.declared.request.Request.TheVariants.{CopyTurn, CleanTurn}
use Rattle.fc_base.specs.declared.size.GrainSize.{GrainSize}
use Rattle.fc_base.specs.declared.volume.Volume.{Volume}
use Rattle.fc_blocks.specs.Blocks.{scope_under}
use Rattle.fc_blocks.specs.Reading.{script_line}
use Rattle.fc_blocks.specs.Segments.{together, cut}
use Rattle.fc_blocks.specs.declared.block.BlockRead.{BlockRead}
use Rattle.fc_books.specs.Books.{Books}
use Rattle.fc_books.specs.Refused.{access_refused}
use Rattle.fc_legal.specs.Asked.{touched, read_in, write_in, access_requests, command_asked, asked}
use Rattle.fc_legal.specs.Scripts.{Script, line_asked, asked_as, script_of, scripts_of}
use Rattle.fc_words.specs.Grammar.{scope_has}
use Rattle.fc_words.specs.Lines.{line_of}
use Rattle.fc_words.specs.declared.grammar.Family.TheVariants.{Storage}
use Rattle.law_blocks.specs.Law.{IsReadUnder}
use Rattle.law_blocks.proofs.Actors.{blocks_law_holds}
use Rattle.law_volumes.specs.Law.{is_of_volumes, asks_for_volume, asks_of_volumes, AskOfNoVolume}
use Rattle.law_volumes.proofs.Lines.{LineSpares, line_spares}

-- ---- lines

one_asks : (request : Request) → asks_of_volumes request ≡ false → AskOfNoVolume (request ∷ [])
one_asks request none = All-cons (λ r. asks_of_volumes r ≡ false) request [] none (All-nil (λ r. asks_of_volumes r ≡ false))

access_asks : (grain : GrainSize) (command : Command) (block count : ℕ) (request : VolId → ℕ → Request) (refusal : Option Refusal) (found : Option Volume) →
    is_of_volumes command ≡ false → ((v : VolId) (g : ℕ) → asks_of_volumes (request v g) ≡ false) → AskOfNoVolume (access_requests grain command block count request refusal found)
access_asks grain command block count request None (Some v) none each =
    let grains = touched grain block count in
    All-map (λ r. asks_of_volumes r ≡ false) (request v.id) grains (λ k d inside. each v.id (get_or grains k d))
access_asks grain command block count request None None none each = one_asks _ none
access_asks grain command block count request (Some refusal) found none each = one_asks _ none

command_asks : (grain : GrainSize) (b : Books) (command : Command) → asks_for_volume command ≡ false → AskOfNoVolume (command_asked grain b command)
command_asks grain b (ReadLine volume block count) none =
    access_asks grain (ReadLine volume block count) block count (λ id. read_in grain id block count) (access_refused grain b volume block count) (volume_named b.tables volume)
    refl (λ id g. refl)
command_asks grain b (WriteLine volume block count byte) none =
    access_asks grain (WriteLine volume block count byte) block count (λ id. write_in grain id block count byte) (access_refused grain b volume block count) (volume_named b.tables volume)
    refl (λ id g. refl)
command_asks grain b (Mkpreset source preset name) none = absurd (true≢false none)
command_asks grain b command none = one_asks _ none

pub line_asks : (grain : GrainSize) (b : Books) (line : Result Line WordFault) → LineSpares line → AskOfNoVolume (asked grain b line)
line_asks grain b (Ok Blank) spares = All-nil (λ r. asks_of_volumes r ≡ false)
line_asks grain b (Ok (CommandLine command)) spares = command_asks grain b command spares
line_asks grain b (Ok other) spares = one_asks _ refl
line_asks grain b (Err fault) spares = one_asks _ refl

-- ---- actors

-- An actor's lines stand in a block.
under_inside : (role : Role) → scope_under role ≢ Free
under_inside Host e = true≢false (sym (ap (λ scope. scope_has scope Storage) e))
under_inside Admin e = true≢false (sym (ap (λ scope. scope_has scope Storage) e))
under_inside (Copier turns) e = true≢false (sym (ap (λ scope. scope_has scope Storage) e))
under_inside (Cleaner turns) e = true≢false (sym (ap (λ scope. scope_has scope Storage) e))

as_read_asks : (grain : GrainSize) (b : Books) (line : Result Line WordFault) → LineSpares line → AskOfNoVolume (line_asked grain b (script_line line))
as_read_asks grain b (Ok line) spares = line_asks grain b (Ok line) spares
as_read_asks grain b (Err fault) spares = line_asks grain b (Err fault) spares

under_asks : (grain : GrainSize) (b : Books) (role : Role) (line : ScriptLine) → IsReadUnder role line → AskOfNoVolume (line_asked grain b line)
under_asks grain b role line read =
    let P : ScriptLine → Type 0 = λ l. AskOfNoVolume (line_asked grain b l) in
    subst P (sym read.1) (as_read_asks grain b (line_of (scope_under role) read.0) (line_spares (scope_under role) (under_inside role) read.0))

lines_ask : (grain : GrainSize) (b : Books) (role : Role) (lines : List ScriptLine) → All (IsReadUnder role) lines → AskOfNoVolume (flat_map (line_asked grain b) lines)
lines_ask grain b role [] read = All-nil (λ r. asks_of_volumes r ≡ false)
lines_ask grain b role (line ∷ lines) read =
    All-append (λ r. asks_of_volumes r ≡ false) (line_asked grain b line) (flat_map (line_asked grain b) lines)
    (under_asks grain b role line (All-head (IsReadUnder role) line lines read))
    (lines_ask grain b role lines (All-tail (IsReadUnder role) line lines read))

turns_ask : (turn : ℕ → Request) (lanes turns : ℕ) → ((lane : ℕ) → asks_of_volumes (turn lane) ≡ false) → AskOfNoVolume (map (λ k. turn (k % lanes)) (range_with_len 0 turns))
turns_ask turn lanes turns each =
    let places = range_with_len 0 turns in
    All-map (λ r. asks_of_volumes r ≡ false) (λ k. turn (k % lanes)) places (λ k d inside. each (get_or places k d % lanes))

role_asks : (grain : GrainSize) (lanes : ℕ) (b : Books) (role : Role) (lines : List ScriptLine) → All (IsReadUnder role) lines → AskOfNoVolume (asked_as role grain lanes b lines)
role_asks grain lanes b Host lines read = lines_ask grain b Host lines read
role_asks grain lanes b Admin lines read = lines_ask grain b Admin lines read
role_asks grain lanes b (Copier turns) lines read = turns_ask (λ lane. CopyTurn lane) lanes turns (λ lane. refl)
role_asks grain lanes b (Cleaner turns) lines read = turns_ask (λ lane. CleanTurn lane) lanes turns (λ lane. refl)

pub scripts_ask : (lines : List (List ℕ)) (block : BlockRead) (grain : GrainSize) (lanes : ℕ) (b : Books) (names : List (List ℕ)) → Contains (cut lines).segments (together block) →
    All (λ (s : Script). AskOfNoVolume s.requests) (scripts_of grain lanes b names block.actors)
scripts_ask lines block grain lanes b names there =
    let are = blocks_law_holds lines block there in
    All-map (λ (s : Script). AskOfNoVolume s.requests) (script_of grain lanes b names) block.actors
    (λ k d inside. role_asks grain lanes b (get_or block.actors k d).role (get_or block.actors k d).lines (are.each k d inside).read)
