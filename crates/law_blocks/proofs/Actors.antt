-- The actors of a block that is open or has ended: their names differ, there are few, and workers have no lines.
use Rattle.std.proofs.Common.{◌≡◌, ◌≢◌, ℕ, ◌<◌, Bool, true, false, ◌||◌, List, [], ◌∷◌, ◌++◌, length, fold, suc, zero, Option, Some, None, Result, Ok, Err, refl, sym, ap, ◌∙◌, subst, arith, All, AllPairs, option_to_list, unwrap_or, nat_le, length-append, append-nil, codes, if◌then◌else◌, bytes_eq, get_or, true≢false}
use Rattle.std.specs.List.{list_any}
use Rattle.std.proofs.lemmas.Bool.Decides.{not_from_Decides, nat_tests}
use Rattle.std.proofs.lemmas.List.{map-append}
use Rattle.std.proofs.lemmas.List.Elements.{All-nil, All-cons, All-push, All-pop, All-map, All-append, All-contains}
use Rattle.std.proofs.lemmas.List.Kept.{AllPairs-cons}
use Rattle.std.proofs.lemmas.Slice.Eq.{bytes_eq-Decides}
use Rattle.fc_base.specs.declared.command.Line.{Line}
use Rattle.fc_base.specs.declared.command.Line.TheVariants.{Blank, Command, Together, Actor, End}
use Rattle.fc_base.specs.declared.command.Role.{Role}
use Rattle.fc_base.specs.declared.command.Scope.TheVariants.{Free}
use Rattle.fc_base.specs.declared.command.ScriptLine.{ScriptLine}
use Rattle.fc_base.specs.declared.command.ScriptLine.TheVariants.{Read, Unread}
use Rattle.fc_base.specs.declared.fault.WordFault.{WordFault}
use Rattle.fc_base.specs.declared.fault.WordFault.TheVariants.{BadName, Limit}
use Rattle.fc_base.specs.declared.limits.TheConstants.{MAX_ACTORS}
use Rattle.fc_blocks.specs.ActorLines.{actor_words, first_name}
use Rattle.fc_blocks.specs.Blocks.{Opened, all_actors, scope_in, has_lines, to_main, belongs, name_is_used, name_fault, without_actor, next_actor, After, open_on, closed, faulty_line, after_line, block_step}
use Rattle.fc_blocks.specs.Reading.{script_line}
use Rattle.fc_blocks.specs.Segments.{Segment, single, together, Cut, no_lines, outside, inside, line_cut, cut_step, cut}
use Rattle.law_blocks.specs.Law.{IsReadUnder, IsActor, names_of, AreActors, BlocksLaw}
use Rattle.fc_blocks.specs.declared.block.ActorRead.{ActorRead}
use Rattle.fc_words.specs.Lines.{line_of}

-- ---- lists

pairs_push : {X : Type 0} (R : X → X → Type 0) (xs : List X) (y : X) → AllPairs R xs → All (λ x. R x y) xs → AllPairs R (xs ++ y ∷ [])
pairs_push R [] y pairs last = λ i j d lt inside. absurd (omega arith)
pairs_push R (x ∷ xs) y pairs last =
    AllPairs-cons R x (xs ++ y ∷ [])
    (All-push (R x) xs y (λ k d inside. pairs zero (suc k) d (omega arith) (omega arith)) (last zero x (omega arith)))
    (pairs_push R xs y (λ i j d lt inside. pairs (suc i) (suc j) d (omega arith) (omega arith)) (λ k d inside. last (suc k) d (omega arith)))

or_false : (a b : Bool) → (a || b) ≡ false → (a ≡ false) × (b ≡ false)
or_false true b e = (e, elim b as (λ v. v ≡ false) [ true ↦ e | false ↦ refl ])
or_false false b e = (refl, e)

any_false : {X : Type 0} (p : X → Bool) (xs : List X) → list_any p xs ≡ false → All (λ x. p x ≡ false) xs
any_false p [] e = All-nil (λ x. p x ≡ false)
any_false p (x ∷ xs) e =
    let both = or_false (p x) (list_any p xs) e in
    All-cons (λ x. p x ≡ false) x xs both.0 (any_false p xs both.1)

-- ---- actors that stay

none_yet : AreActors []
none_yet =
    record {
      differ = λ i j d lt inside. absurd (omega arith);
      not_main = All-nil (λ name. name ≢ codes "main");
      few = omega arith;
      each = All-nil IsActor;
    }

-- a line more of the last actor
line_more : (before : List ActorRead) (a : ActorRead) (line : ScriptLine) → has_lines a.role ≡ true → IsReadUnder a.role line → AreActors (before ++ a ∷ []) →
    AreActors (before ++ record a { lines = a.lines ++ line ∷ [] } ∷ [])
line_more before a line takes read are =
    let more : ActorRead = record a { lines = a.lines ++ line ∷ [] } in
    let same : names_of (before ++ a ∷ []) ≡ names_of (before ++ more ∷ []) =
    map-append (λ (x : ActorRead). x.name) before (a ∷ []) ∙ sym (map-append (λ (x : ActorRead). x.name) before (more ∷ [])) in
    let Differ : List (List ℕ) → Type 0 = λ names. AllPairs (λ name other. name ≢ other) names in
    let NotMain : List (List ℕ) → Type 0 = λ names. All (λ name. name ≢ codes "main") names in
    let parts = All-pop IsActor (before ++ a ∷ []) before (Some a) refl are.each in
    record {
      differ = subst Differ same are.differ;
      not_main = subst NotMain same are.not_main;
      few = omega (arith, are.few, length-append before (a ∷ []), length-append before (more ∷ []));
      each =
          All-push IsActor before more parts.0
          (record { read = All-push (IsReadUnder a.role) a.lines line parts.1.read read; workers = λ none. absurd (true≢false (sym takes ∙ none)) });
    }

-- a new actor behind the others
actor_more : (actors : List ActorRead) (name : List ℕ) (role : Role) → AreActors actors →
    All (λ (a : ActorRead). bytes_eq name a.name ≡ false) actors → bytes_eq name (codes "main") ≡ false → length actors < MAX_ACTORS →
    AreActors (actors ++ record { name = name; role = role; lines = [] } ∷ [])
actor_more actors name role are new apart room =
    let more : ActorRead = record { name = name; role = role; lines = [] } in
    let same : names_of actors ++ name ∷ [] ≡ names_of (actors ++ more ∷ []) = sym (map-append (λ (x : ActorRead). x.name) actors (more ∷ [])) in
    let Differ : List (List ℕ) → Type 0 = λ names. AllPairs (λ name other. name ≢ other) names in
    let NotMain : List (List ℕ) → Type 0 = λ names. All (λ name. name ≢ codes "main") names in
    let others : All (λ other. other ≢ name) (names_of actors) =
    All-map (λ (other : List ℕ). other ≢ name) (λ (x : ActorRead). x.name) actors
    (λ k d inside e. not_from_Decides (bytes_eq name (get_or actors k d).name) (bytes_eq-Decides name (get_or actors k d).name) (new k d inside) (sym e)) in
    record {
      differ = subst Differ same (pairs_push (λ name other. name ≢ other) (names_of actors) name are.differ others);
      not_main = subst NotMain same (All-push (λ name. name ≢ codes "main") (names_of actors) name are.not_main (not_from_Decides (bytes_eq name (codes "main")) (bytes_eq-Decides name (codes "main")) apart));
      few = omega (arith, length-append actors (more ∷ []));
      each = All-push IsActor actors more are.each (record { read = All-nil (IsReadUnder role); workers = λ none. refl });
    }

-- ---- a line of a block

-- the actors that stand where a block goes on or has ended
abbrev IsSound : After → Type 0
IsSound (open_on b) = AreActors (all_actors b)
IsSound (closed block) = AreActors block.actors

main_sound : (b : Opened) (line : ScriptLine) → AreActors (all_actors b) → AreActors (all_actors (to_main b line))
main_sound b (Unread fault) are = are
main_sound b (Read line) are = are

given_sound : (b : Opened) (a : ActorRead) (line : ScriptLine) (takes : Bool) → has_lines a.role ≡ takes → IsReadUnder a.role line → b.actor ≡ Some a → AreActors (all_actors b) →
    AreActors (all_actors (if takes then record b { actor = Some (record a { lines = a.lines ++ line ∷ [] }) } else to_main b line))
given_sound b a line true takes read at_hand are =
    let P : Option ActorRead → Type 0 = λ actor. AreActors (b.before ++ option_to_list actor) in
    line_more b.before a line takes read (subst P at_hand are)
given_sound b a line false takes read at_hand are = main_sound b line are

belongs_sound : (b : Opened) (actor : Option ActorRead) (line : ScriptLine) → b.actor ≡ actor → (bytes : List ℕ) → line ≡ script_line (line_of (scope_in actor) bytes) → AreActors (all_actors b) →
    AreActors (all_actors (belongs actor b line))
belongs_sound b None line at_hand bytes read are = main_sound b line are
belongs_sound b (Some a) line at_hand bytes read are = given_sound b a line (has_lines a.role) refl (bytes, read) at_hand are

without_sound : (b : Opened) (fault : WordFault) → AreActors (all_actors b) → AreActors (all_actors (without_actor b fault))
without_sound b fault are = subst AreActors (sym (append-nil (all_actors b))) are

some_none : (fault : WordFault) → Some fault ≡ None → ⊥
some_none fault e = cc

-- the fault of a name is none: it is new, and there is room
fault_none : (used full : Bool) (first second : WordFault) → (if used then Some first else (if full then Some second else None)) ≡ None → (used ≡ false) × (full ≡ false)
fault_none true full first second e = absurd (some_none first e)
fault_none false true first second e = absurd (some_none second e)
fault_none false false first second e = (refl, refl)

next_sound : (b : Opened) (name : List ℕ) (role : Role) (fault : Option WordFault) → name_fault b (Some name) ≡ fault → AreActors (all_actors b) →
    AreActors (all_actors (next_actor fault b name role))
next_sound b name role (Some fault) is are = without_sound b fault are
next_sound b name role None is are =
    let none = fault_none (name_is_used b name) (nat_le MAX_ACTORS (length (all_actors b))) (BadName 2) (Limit MAX_ACTORS) is in
    let new = or_false (bytes_eq name (codes "main")) (list_any (λ (a : ActorRead). bytes_eq name a.name) (all_actors b)) none.0 in
    let room : length (all_actors b) < MAX_ACTORS = grind (arith, nat_tests) in
    actor_more (all_actors b) name role are (any_false (λ (a : ActorRead). bytes_eq name a.name) (all_actors b) new.1) new.0 room

faulty_sound : (b : Opened) (words : Option (List (List ℕ))) (fault : WordFault) (bytes : List ℕ) → line_of (scope_in b.actor) bytes ≡ Err fault → AreActors (all_actors b) →
    AreActors (all_actors (faulty_line words b fault))
faulty_sound b None fault bytes is are = belongs_sound b b.actor (Unread fault) refl bytes (ap script_line (sym is)) are
faulty_sound b (Some words) fault bytes is are = without_sound b (unwrap_or (name_fault b (first_name words)) fault) are

read_sound : (b : Opened) (line : List ℕ) (read : Result Line WordFault) → line_of (scope_in b.actor) line ≡ read → AreActors (all_actors b) → IsSound (after_line read b line)
read_sound b line (Ok End) is are = are
read_sound b line (Ok Blank) is are = are
read_sound b line (Ok (Actor name role)) is are = next_sound b name role (name_fault b (Some name)) refl are
read_sound b line (Ok (Command command)) is are = belongs_sound b b.actor (Read (Command command)) refl line (ap script_line (sym is)) are
read_sound b line (Ok Together) is are = belongs_sound b b.actor (Read Together) refl line (ap script_line (sym is)) are
read_sound b line (Err fault) is are = faulty_sound b (actor_words line) fault line is are

step_sound : (b : Opened) (line : List ℕ) → AreActors (all_actors b) → IsSound (block_step b line)
unfolding block_step
step_sound b line are = read_sound b line (line_of (scope_in b.actor) line) refl are

-- ---- all lines

abbrev IsRight : Segment → Type 0
IsRight (single line) = Unit {0}
IsRight (together block) = AreActors block.actors

abbrev IsOpenRight : Option Opened → Type 0
IsOpenRight None = Unit {0}
IsOpenRight (Some b) = AreActors (all_actors b)

record AreRight (c : Cut) : Type 0 where
  segments : All IsRight c.segments
  open_block : IsOpenRight c.open_block

one_right : (s : Segment) → IsRight s → All IsRight (s ∷ [])
one_right s right = All-cons IsRight s [] right (All-nil IsRight)

alone_right : (line : List ℕ) → AreRight (record { segments = single line ∷ []; open_block = None })
alone_right line = record { segments = one_right (single line) tt; open_block = tt }

outside_right : (read : Result Line WordFault) (line : List ℕ) → AreRight (outside read line)
outside_right (Ok Together) line = record { segments = All-nil IsRight; open_block = none_yet }
outside_right (Ok Blank) line = alone_right line
outside_right (Ok (Command command)) line = alone_right line
outside_right (Ok (Actor name role)) line = alone_right line
outside_right (Ok End) line = alone_right line
outside_right (Err fault) line = alone_right line

inside_right : (after : After) → IsSound after → AreRight (inside after)
inside_right (open_on b) sound = record { segments = All-nil IsRight; open_block = sound }
inside_right (closed block) sound = record { segments = one_right (together block) sound; open_block = tt }

line_right : (open_block : Option Opened) (line : List ℕ) → IsOpenRight open_block → AreRight (line_cut open_block line)
unfolding line_cut
line_right None line right = outside_right (line_of Free line) line
line_right (Some b) line right = inside_right (block_step b line) (step_sound b line right)

lines_right : (lines : List (List ℕ)) (c : Cut) → AreRight c → AreRight (fold cut_step c lines)
lines_right [] c right = right
lines_right (line ∷ lines) c right =
    let more = line_right c.open_block line right.open_block in
    lines_right lines (cut_step c line)
    (record { segments = All-append IsRight c.segments (line_cut c.open_block line).segments right.segments more.segments; open_block = more.open_block })

pub blocks_law_holds : BlocksLaw
blocks_law_holds lines block is_one =
    All-contains IsRight (cut lines).segments (together block)
    (lines_right lines no_lines (record { segments = All-nil IsRight; open_block = tt })).segments is_one
