-- The bytes of a session, line by line and segment by segment.
use Rattle.std.proofs.Common.{◌≡◌, ℕ, zero, suc, ◌+◌, ◌-◌, ◌==◌, ◌<◌, ◌≤◌, Bool, true, false, not, cond, Option, Some, None, Result, Ok, Err, List, [], ◌∷◌, ◌++◌, length, take, drop, fold, append_assoc, append-nil, refl, sym, ap, subst, ◌∙◌, arith}
use Rattle.std.specs.List.{position, position_or_len}
use Rattle.std.proofs.lemmas.List.{length-drop, take_all}
use Rattle.std.proofs.lemmas.List.Sums.{fold-append, prefix_len-le-length}
use Rattle.fc_base.specs.declared.command.Line.{Line}
use Rattle.fc_base.specs.declared.command.Line.TheVariants.{Blank, Command, Together, Actor, End}
use Rattle.fc_base.specs.declared.command.Scope.TheVariants.{Free}
use Rattle.fc_base.specs.declared.command.ScriptLine.{ScriptLine}
use Rattle.fc_base.specs.declared.fault.WordFault.{WordFault}
use Rattle.fc_blocks.specs.Blocks.{After, Opened, block_step, closed, open_on}
use Rattle.fc_blocks.specs.Reading.{IsNext, Tells, script_line}
use Rattle.fc_blocks.specs.Segments.{Cut, Segment, cut, cut_step, inside, line_cut, no_lines, outside, single, together}
use Rattle.fc_blocks.specs.declared.block.BlockRead.{BlockRead}
use Rattle.fc_blocks.specs.declared.block.Taken.{Taken}
use Rattle.fc_blocks.specs.declared.block.Taken.TheVariants.{Single as TakenSingle, Block as TakenBlock}
use Rattle.fc_check_requests.proofs.Places.{place_is, place_none}
use Rattle.fc_check_lines.specs.Bytes.{BeginWith, segments_in}
use Rattle.fc_check_lines.specs.declared.segment.SegmentRead.TheVariants.{Single, Block}
use Rattle.fc_entry.specs.Lines.{Lined, all_lines, last_line, line_step, lined, without_return}
use Rattle.fc_words.specs.Lines.{line_of}

-- ---- lines

abbrev from : List (List ℕ) → List ℕ → Lined
from ended unended = record { ended = ended; unended = unended }

abbrev pub is_newline : ℕ → Bool
is_newline byte = byte == 10

-- the lines that had ended stand before those that end later
abbrev later : List (List ℕ) → Lined → Lined
later ended l = record { ended = ended ++ l.ended; unended = l.unended }

ended_byte :
    (ended : List (List ℕ)) (front : List ℕ) (byte : ℕ) (bytes : List ℕ) (newline : Bool) →
    ((ends : List (List ℕ)) (fronts : List ℕ) → fold line_step (from ends fronts) bytes ≡ later ends (fold line_step (from [] fronts) bytes)) →
    fold line_step (cond {A = Lined} newline (from (ended ++ without_return front ∷ []) []) (from ended (front ++ byte ∷ []))) bytes
    ≡ later ended (fold line_step (cond {A = Lined} newline (from (without_return front ∷ []) []) (from [] (front ++ byte ∷ []))) bytes)
ended_byte ended front byte bytes true more =
    let line : List (List ℕ) = without_return front ∷ [] in
    let rest : Lined = fold line_step (from [] []) bytes in
    more (ended ++ line) []
    ∙ ap (λ e. from e rest.unended) (append_assoc ended line rest.ended)
    ∙ sym (ap (later ended) (more line []))
ended_byte ended front byte bytes false more = more ended (front ++ byte ∷ [])

ended_behind : (ended : List (List ℕ)) (front bytes : List ℕ) → fold line_step (from ended front) bytes ≡ later ended (fold line_step (from [] front) bytes)
ended_behind ended front [] = ap (λ e. from e front) (sym (append-nil ended))
ended_behind ended front (byte ∷ bytes) = ended_byte ended front byte bytes (byte == 10) (λ ends fronts. ended_behind ends fronts bytes)

-- a first line that ends
abbrev found : List ℕ → List ℕ → ℕ → Lined
found front bytes n = later (without_return (front ++ take n bytes) ∷ []) (lined (drop (suc n) bytes))

at_byte :
    (front : List ℕ) (byte : ℕ) (bytes : List ℕ) (n : ℕ) (newline : Bool) →
    n ≡ cond (not newline) (1 + position_or_len is_newline bytes) 0 →
    n < suc (length bytes) →
    ((fronts : List ℕ) (m : ℕ) → m ≡ position_or_len is_newline bytes → m < length bytes → fold line_step (from [] fronts) bytes ≡ found fronts bytes m) →
    fold line_step (cond {A = Lined} newline (from (without_return front ∷ []) []) (from [] (front ++ byte ∷ []))) bytes ≡ found front (byte ∷ bytes) n
at_byte front byte bytes zero true is inside more =
    ended_behind (without_return front ∷ []) [] bytes
    ∙ ap (λ line. later (without_return line ∷ []) (lined bytes)) (sym (append-nil front))
at_byte front byte bytes zero false is inside more = absurd (omega (arith, is))
at_byte front byte bytes (suc n) true is inside more = absurd (omega (arith, is))
at_byte front byte bytes (suc n) false is inside more =
    more (front ++ byte ∷ []) n (omega (arith, is)) (omega (arith, inside))
    ∙ ap (λ line. later (without_return line ∷ []) (lined (drop (suc n) bytes))) (append_assoc front (byte ∷ []) (take n bytes))

line_at : (front bytes : List ℕ) (n : ℕ) → n ≡ position_or_len is_newline bytes → n < length bytes → fold line_step (from [] front) bytes ≡ found front bytes n
line_at front [] n is inside = absurd (omega (arith, inside))
line_at front (byte ∷ bytes) n is inside = at_byte front byte bytes n (byte == 10) is inside (λ fronts m e lt. line_at fronts bytes m e lt)

-- none that ends
none_byte :
    (front : List ℕ) (byte : ℕ) (bytes : List ℕ) (newline : Bool) →
    cond (not newline) (1 + position_or_len is_newline bytes) 0 ≡ suc (length bytes) →
    ((fronts : List ℕ) → position_or_len is_newline bytes ≡ length bytes → fold line_step (from [] fronts) bytes ≡ from [] (fronts ++ bytes)) →
    fold line_step (cond {A = Lined} newline (from (without_return front ∷ []) []) (from [] (front ++ byte ∷ []))) bytes ≡ from [] (front ++ byte ∷ bytes)
none_byte front byte bytes true is more = absurd (omega (arith, is))
none_byte front byte bytes false is more =
    more (front ++ byte ∷ []) (omega (arith, is)) ∙ ap (λ line. from [] line) (append_assoc front (byte ∷ []) bytes)

none_at : (front bytes : List ℕ) → position_or_len is_newline bytes ≡ length bytes → fold line_step (from [] front) bytes ≡ from [] (front ++ bytes)
none_at front [] is = ap (λ line. from [] line) (sym (append-nil front))
none_at front (byte ∷ bytes) is = none_byte front byte bytes (byte == 10) is (λ fronts e. none_at fronts bytes e)

-- ---- the first line

abbrev lines_of : Lined → List (List ℕ)
lines_of l = l.ended ++ last_line l.unended

first_ended : (bytes : List ℕ) (n : ℕ) → position is_newline bytes ≡ Some n →
    (all_lines bytes ≡ without_return (take n bytes) ∷ all_lines (drop (n + 1) bytes)) × (n < length bytes)
first_ended bytes n is =
    let at : (n ≡ position_or_len is_newline bytes) × (position_or_len is_newline bytes < length bytes) = place_is is_newline bytes n is in
    let within : n < length bytes = omega (arith, at.0, at.1) in
    let more : n + 1 ≡ suc n = omega arith in (
      ap lines_of (line_at [] bytes n at.0 within) ∙ ap (λ k. without_return (take n bytes) ∷ all_lines (drop k bytes)) (sym more),
      within,
    )

-- all that stands behind it
behind_all : (bytes : List ℕ) (n : ℕ) → take (length bytes - n) (drop n bytes) ≡ drop n bytes
behind_all bytes n = take_all (length bytes - n) (drop n bytes) (omega (arith, length-drop n bytes))

pub line_ended : (bytes line : List ℕ) (n : ℕ) → position is_newline bytes ≡ Some n → line ≡ without_return (take n bytes) →
    all_lines bytes ≡ line ∷ all_lines (take (length bytes - (n + 1)) (drop (n + 1) bytes))
line_ended bytes line n is ended =
    (first_ended bytes n is).0
    ∙ ap (λ l. l ∷ all_lines (drop (n + 1) bytes)) (sym ended)
    ∙ ap (λ b. line ∷ all_lines b) (sym (behind_all bytes (n + 1)))

pub first_unended : (bytes : List ℕ) → position is_newline bytes ≡ None → 0 < length bytes → all_lines bytes ≡ bytes ∷ []
first_unended bytes is some =
    let past : length bytes ≤ position_or_len is_newline bytes = place_none is_newline bytes is in
    ap lines_of (none_at [] bytes (omega (arith, past, prefix_len-le-length (λ byte. not (is_newline byte)) bytes))) ∙ one bytes some
  where
    one : (line : List ℕ) → 0 < length line → last_line line ≡ line ∷ []
    one [] some = absurd (omega (arith, some))
    one (byte ∷ line) some = refl

-- ---- segments

-- the segments that have ended stand before those that end later
abbrev opened_with : Option Opened → Cut
opened_with block = record { segments = []; open_block = block }

steps_behind : (c : Cut) (lines : List (List ℕ)) → (fold cut_step c lines).segments ≡ c.segments ++ (fold cut_step (opened_with c.open_block) lines).segments
steps_behind c [] = sym (append-nil c.segments)
steps_behind c (line ∷ lines) =
    let more : Cut = line_cut c.open_block line in
    let rest : List Segment = (fold cut_step (opened_with more.open_block) lines).segments in
    steps_behind (cut_step c line) lines
    ∙ append_assoc c.segments more.segments rest
    ∙ sym (ap (λ segs. c.segments ++ segs) (steps_behind (cut_step (opened_with c.open_block) line) lines))

cut_behind : (xs ys : List (List ℕ)) → (cut xs).open_block ≡ None → (cut (xs ++ ys)).segments ≡ (cut xs).segments ++ (cut ys).segments
cut_behind xs ys none =
    ap (λ (c : Cut). c.segments) (fold-append cut_step no_lines xs ys)
    ∙ steps_behind (cut xs) ys
    ∙ ap (λ (b : Option Opened). (cut xs).segments ++ (fold cut_step (opened_with b) ys).segments) none

-- a line that ends a segment leaves no block open
single_ends : (read : Result Line WordFault) (line : List ℕ) (s : Segment) → (outside read line).segments ≡ s ∷ [] → (outside read line).open_block ≡ None
single_ends (Ok Together) line s is = absurd (cc is)
single_ends (Ok Blank) line s is = refl
single_ends (Ok (Command command)) line s is = refl
single_ends (Ok (Actor name role)) line s is = refl
single_ends (Ok End) line s is = refl
single_ends (Err fault) line s is = refl

block_ends : (after : After) (s : Segment) → (inside after).segments ≡ s ∷ [] → (inside after).open_block ≡ None
block_ends (open_on b) s is = absurd (cc is)
block_ends (closed block) s is = refl

line_ends : (block : Option Opened) (line : List ℕ) (s : Segment) → (line_cut block line).segments ≡ s ∷ [] → (line_cut block line).open_block ≡ None
unfolding line_cut
line_ends None line s is = single_ends (line_of Free line) line s is
line_ends (Some b) line s is = block_ends (block_step b line) s is

one_line : (lines : List (List ℕ)) (line : List ℕ) → cut (lines ++ line ∷ []) ≡ cut_step (cut lines) line
one_line lines line = fold-append cut_step no_lines lines (line ∷ [])

-- ---- so far no segment has ended

pub record SoFar (bytes rest : List ℕ) (block : Option Opened) : Type 0 where
  pub lines : List (List ℕ)
  pub all : all_lines bytes ≡ lines ++ all_lines rest
  pub none : (cut lines).segments ≡ []
  pub open_block : (cut lines).open_block ≡ block
  pub within : length rest ≤ length bytes

pub begins_so : (bytes : List ℕ) → SoFar bytes bytes None
begins_so bytes = record { lines = []; all = refl; none = refl; open_block = refl; within = omega arith }

-- one line more
one_more : (bytes rest behind line : List ℕ) (lines : List (List ℕ)) → all_lines bytes ≡ lines ++ all_lines rest → all_lines rest ≡ line ∷ all_lines behind →
    all_lines bytes ≡ (lines ++ line ∷ []) ++ all_lines behind
one_more bytes rest behind line lines all first =
    all ∙ ap (λ ls. lines ++ ls) first ∙ sym (append_assoc lines (line ∷ []) (all_lines behind))

pub goes_on_so :
    (bytes rest behind line : List ℕ) (taken : Taken) (before after : Option Opened) (so : SoFar bytes rest before) →
    all_lines rest ≡ line ∷ all_lines behind →
    length behind < length rest →
    (next : IsNext taken before after so.lines line) →
    next.ended ≡ [] →
    SoFar bytes behind after
goes_on_so bytes rest behind line taken before after so first less next none =
    record {
      lines = so.lines ++ line ∷ [];
      all = one_more bytes rest behind line so.lines so.all first;
      none = next.segments ∙ ap (λ segs. segs ++ next.ended) so.none ∙ none;
      open_block = next.open_block;
      within = omega (arith, less, so.within);
    }

ends_so :
    (bytes rest behind line : List ℕ) (taken : Taken) (before after : Option Opened) (s : Segment) (so : SoFar bytes rest before) →
    all_lines rest ≡ line ∷ all_lines behind →
    (next : IsNext taken before after so.lines line) →
    next.ended ≡ s ∷ [] →
    segments_in bytes ≡ s ∷ segments_in behind
ends_so bytes rest behind line taken before after s so first next ended =
    let lines : List (List ℕ) = so.lines ++ line ∷ [] in
    let segments : (cut lines).segments ≡ s ∷ [] = next.segments ∙ ap (λ segs. segs ++ next.ended) so.none ∙ ended in
    let step : (cut lines).segments ≡ (cut so.lines).segments ++ (line_cut (cut so.lines).open_block line).segments = ap (λ (c : Cut). c.segments) (one_line so.lines line) in
    let own : (line_cut (cut so.lines).open_block line).segments ≡ s ∷ [] =
    sym (step ∙ ap (λ segs. segs ++ (line_cut (cut so.lines).open_block line).segments) so.none) ∙ segments in
    let shut : (cut lines).open_block ≡ None =
    ap (λ (c : Cut). c.open_block) (one_line so.lines line) ∙ line_ends (cut so.lines).open_block line s own in
    ap (λ ls. (cut ls).segments) (one_more bytes rest behind line so.lines so.all first)
    ∙ cut_behind lines (all_lines behind) shut
    ∙ ap (λ segs. segs ++ segments_in behind) segments

module _ (bytes rest behind line : List ℕ) (taken : Taken) (before after : Option Opened) (so : SoFar bytes rest before)
    (first : all_lines rest ≡ line ∷ all_lines behind) (less : length behind < length rest)
    (reads : (lines : List (List ℕ)) → (cut lines).open_block ≡ before → IsNext taken before after lines line) where
  next : IsNext taken before after so.lines line
  next = reads so.lines so.open_block

  pub begins_single : (read : ScriptLine) → taken ≡ TakenSingle read → BeginWith bytes (Single read) behind
  begins_single read is =
      let P : Taken → Type 0 = λ t. Tells t line next.ended in
      let told : (next.ended ≡ single line ∷ []) × (read ≡ script_line (line_of Free line)) = subst P is next.told in
      record {
        segment = single line;
        is_read = told.1;
        segments = ends_so bytes rest behind line taken before after (single line) so first next told.0;
        less = omega (arith, less, so.within);
      }

  pub begins_block : (block : BlockRead) → taken ≡ TakenBlock block → BeginWith bytes (Block block) behind
  begins_block block is =
      let P : Taken → Type 0 = λ t. Tells t line next.ended in
      let told : next.ended ≡ together block ∷ [] = subst P is next.told in
      record {
        segment = together block;
        is_read = refl;
        segments = ends_so bytes rest behind line taken before after (together block) so first next told;
        less = omega (arith, less, so.within);
      }

pub none_so : (bytes rest : List ℕ) (block : Option Opened) → SoFar bytes rest block → rest ≡ [] → segments_in bytes ≡ []
none_so bytes rest block so none =
    ap (λ ls. (cut ls).segments) (so.all ∙ ap (λ r. so.lines ++ all_lines r) none ∙ append-nil so.lines) ∙ so.none
