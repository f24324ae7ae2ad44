-- A generated session is read line by line as the commands that it was made of, so no block begins in it.
use Rattle.std.proofs.Common.{◌≡◌, ℕ, subst, zero, suc, ◌+◌, ◌-◌, ◌/◌, ◌%◌, ◌^◌, ◌<◌, ◌==◌, Bool, true, false, ◌&&◌, cond, if◌then◌else◌, nat_lt, nat_le, List, [], ◌∷◌, ◌++◌, fold, map, length, slice_index_or, codes, decimal, Option, Some, None, IfSome, refl, sym, ◌∙◌, ap, arith, append_assoc, append-nil}
use Rattle.std.specs.Char.{is_digit}
use Rattle.std.specs.Fmt.{digit_glyph}
use Rattle.std.specs.List.{join_with_byte, list_all}
use Rattle.std.proofs.lemmas.Bool.Decides.{nat_tests}
use Rattle.std.proofs.lemmas.Fmt.{decimal_digit}
use Rattle.std.proofs.lemmas.List.Folds.{list_all-append}
use Rattle.std.proofs.lemmas.List.Sums.{AllPass-from_list_all, fold-append}
use Rattle.std.proofs.lemmas.Nat.{mod_below}
use Rattle.fc_base.specs.CommandText.{byte_word, command_text, command_words}
use Rattle.fc_base.specs.Names.{continues_name}
use Rattle.fc_base.specs.declared.command.Command.{Command}
use Rattle.fc_base.specs.declared.command.Command.TheVariants.{Write, Read, Advance, Startfcmap, Stopfcmap}
use Rattle.fc_base.specs.declared.command.StopWay.{StopWay}
use Rattle.fc_base.specs.declared.command.StopWay.TheVariants.{Plain, Force, Split}
use Rattle.fc_base.specs.declared.name.Ref.TheVariants.{Id}
use Rattle.fc_blocks.specs.Segments.{Cut, Segment, single, cut, cut_step, line_cut, outside}
use Rattle.fc_entry.specs.Lines.{Lined, all_lines, last_line, line_step, without_return}
use Rattle.fc_gen.specs.Session.{blocks_from, draw, draw_advance, draw_read, draw_start, draw_stop, draw_write, drawn_commands, drawn_of, drill_name, first_commands, lines_of, drilled_mapping, next_draw, session_text, volume, drilled_volume, way_of}
use Rattle.fc_legal.specs.WithoutBlocks.{AreLines}
use Rattle.fc_words.proofs.LinesBack.{reads_back}
use Rattle.fc_words.proofs.ValueLemmas.{both, list_all-weaker, number-all}
use Rattle.fc_words.specs.Canonical.{IsCommand, IsName, IsNumber}

-- ---- bytes that end no line

abbrev is_plain : ℕ → Bool
is_plain byte = nat_le 32 byte

not_newline : (b : ℕ) → is_plain b ≡ true → (b == 10) ≡ false
not_newline b h = grind (arith, nat_tests)

not_return : (b : ℕ) → is_plain b ≡ true → (b == 13) ≡ false
not_return b h = grind (arith, nat_tests)

digit_plain : (b : ℕ) → is_digit b 10 ≡ true → is_plain b ≡ true
digit_plain b h = grind (arith, nat_tests)

glyph_plain : (d : ℕ) → d < 16 → is_plain (digit_glyph false d) ≡ true
glyph_plain d h = grind (arith, nat_tests)

number_plain : (n : ℕ) → n < 2 ^ 32 → list_all is_plain (decimal n) ≡ true
number_plain n small = list_all-weaker (λ b. is_digit b 10) is_plain digit_plain (decimal n) (number-all n small)

byte_plain : (byte : ℕ) → byte < 256 → list_all is_plain (byte_word byte) ≡ true
byte_plain byte small = rw (glyph_plain (byte / 16) (omega arith), glyph_plain (byte % 16) (omega arith)) refl

continues-digit : (v : ℕ) → v < 8 → continues_name (48 + v) ≡ true
continues-digit v small = grind (arith, nat_tests)

plain-digit : (v : ℕ) → v < 8 → is_plain (48 + v) ≡ true
plain-digit v small = grind (arith, nat_tests)

name_good : (v : ℕ) → v < 8 → IsName (drill_name v)
name_good v small = rw (decimal_digit v (omega arith), continues-digit v small) refl

name_plain : (v : ℕ) → v < 8 → list_all is_plain (drill_name v) ≡ true
name_plain v small = rw (decimal_digit v (omega arith), plain-digit v small) refl

joined_plain : (words : List (List ℕ)) → list_all (list_all is_plain) words ≡ true → list_all is_plain (join_with_byte 32 words) ≡ true
joined_plain [] all = refl
joined_plain (word ∷ []) all = (both (list_all is_plain word) true all).0
joined_plain (word ∷ next ∷ words) all =
    let parts = both (list_all is_plain word) (list_all (list_all is_plain) (next ∷ words)) all in
    list_all-append is_plain word (32 ∷ join_with_byte 32 (next ∷ words))
    ∙ (ap (λ b. b && list_all is_plain (join_with_byte 32 (next ∷ words))) parts.0 ∙ joined_plain (next ∷ words) parts.1)

-- ---- the commands that are drawn

-- Its line reads back, and ends with its newline alone.
record IsDrawn (c : Command) : Type 0 where
  good : IsCommand c
  plain : list_all (list_all is_plain) (command_words c) ≡ true

abbrev AreDrawn : List Command → Type 0
AreDrawn [] = Unit {0}
AreDrawn (c ∷ cs) = IsDrawn c × AreDrawn cs

AreDrawn-append : (cs ds : List Command) → AreDrawn cs → AreDrawn ds → AreDrawn (cs ++ ds)
AreDrawn-append [] ds first rest = rest
AreDrawn-append (c ∷ cs) ds first rest = (first.0, AreDrawn-append cs ds first.1 rest)

volume_drawn : (n : ℕ) → n < 8 → IsDrawn (drilled_volume n)
volume_drawn n small = record { good = (name_good n small, omega arith); plain = rw (name_plain n small, number_plain 1 (omega arith)) refl }

mapping_drawn : (source target : ℕ) (rate : Option ℕ) (incremental : Bool) → source < 8 → target < 8 → IfSome rate IsNumber → IsDrawn (drilled_mapping source target rate incremental)
mapping_drawn source target None true s t few =
    record { good = (name_good source s, name_good target t, tt, tt, tt, tt); plain = rw (name_plain source s, name_plain target t) refl }
mapping_drawn source target None false s t few =
    record { good = (name_good source s, name_good target t, tt, tt, tt, tt); plain = rw (name_plain source s, name_plain target t) refl }
mapping_drawn source target (Some rate) true s t few =
    record { good = (name_good source s, name_good target t, tt, tt, few, tt); plain = rw (name_plain source s, name_plain target t, number_plain rate few) refl }
mapping_drawn source target (Some rate) false s t few =
    record { good = (name_good source s, name_good target t, tt, tt, few, tt); plain = rw (name_plain source s, name_plain target t, number_plain rate few) refl }

first_drawn : AreDrawn first_commands
first_drawn = (
  volume_drawn 0 (omega arith),
  (
    volume_drawn 1 (omega arith),
    (
      volume_drawn 2 (omega arith),
      (
        volume_drawn 3 (omega arith),
        (
          volume_drawn 4 (omega arith),
          (
            volume_drawn 5 (omega arith),
            (
              volume_drawn 6 (omega arith),
              (
                volume_drawn 7 (omega arith),
                (
                  mapping_drawn 0 1 None true (omega arith) (omega arith) tt,
                  (
                    mapping_drawn 0 2 None false (omega arith) (omega arith) tt,
                    (
                      mapping_drawn 1 3 (Some 0) false (omega arith) (omega arith) (omega arith),
                      (
                        mapping_drawn 3 4 None false (omega arith) (omega arith) tt,
                        (
                          mapping_drawn 4 5 (Some 10) false (omega arith) (omega arith) (omega arith),
                          (
                            mapping_drawn 1 0 None false (omega arith) (omega arith) tt,
                            (
                              mapping_drawn 6 7 None true (omega arith) (omega arith) tt,
                              (
                                mapping_drawn 2 6 None false (omega arith) (omega arith) tt,
                                tt,
                              ),
                            ),
                          ),
                        ),
                      ),
                    ),
                  ),
                ),
              ),
            ),
          ),
        ),
      ),
    ),
  ),
)

write_drawn : (v b n byte : ℕ) → v < 8 → b < 2 ^ 32 → n < 2 ^ 32 → byte < 256 → IsDrawn (Write (volume v) b n byte)
write_drawn v b n byte small_v small_b small_n small =
    record { good = (name_good v small_v, small_b, small_n, small); plain = rw (name_plain v small_v, number_plain b small_b, number_plain n small_n, byte_plain byte small) refl }

read_drawn : (v b n : ℕ) → v < 8 → b < 2 ^ 32 → n < 2 ^ 32 → IsDrawn (Read (volume v) b n)
read_drawn v b n small_v small_b small_n =
    record { good = (name_good v small_v, small_b, small_n); plain = rw (name_plain v small_v, number_plain b small_b, number_plain n small_n) refl }

start_drawn : (m : ℕ) → m < 2 ^ 32 → IsDrawn (Startfcmap (Id m) true true)
start_drawn m small = record { good = small; plain = rw (number_plain m small) refl }

stop_drawn : (m : ℕ) (way : StopWay) → m < 2 ^ 32 → IsDrawn (Stopfcmap (Id m) way)
stop_drawn m Plain small = record { good = small; plain = rw (number_plain m small) refl }
stop_drawn m Force small = record { good = small; plain = rw (number_plain m small) refl }
stop_drawn m Split small = record { good = small; plain = rw (number_plain m small) refl }

advance_drawn : (s : ℕ) → s < 2 ^ 32 → IsDrawn (Advance s)
advance_drawn s small = record { good = small; plain = rw (number_plain s small) refl }

below : (count state : ℕ) → 0 < count → drawn_of count state < count
below count state some = mod_below (state / 2 ^ 33) count some

drawn_by : (a b c d : Bool) (state : ℕ) → IsDrawn (if a then draw_write state else (if b then draw_read state else (if c then draw_start state else (if d then draw_stop state else draw_advance state)))).command
drawn_by true b c d state =
    let s1 = next_draw state in let s2 = next_draw s1 in let s3 = next_draw s2 in
    write_drawn (drawn_of 8 s1) (drawn_of 2048 s2) (blocks_from (drawn_of 2048 s2) (drawn_of 64 s3)) (drawn_of 256 (next_draw s3))
    (below 8 s1 (omega arith)) (omega (arith, below 2048 s2 (omega arith))) (omega arith) (below 256 (next_draw s3) (omega arith))
drawn_by false true c d state =
    let s1 = next_draw state in let s2 = next_draw s1 in let s3 = next_draw s2 in
    read_drawn (drawn_of 8 s1) (drawn_of 2048 s2) (blocks_from (drawn_of 2048 s2) (drawn_of 64 s3))
    (below 8 s1 (omega arith)) (omega (arith, below 2048 s2 (omega arith))) (omega arith)
drawn_by false false true d state =
    let s1 = next_draw state in
    start_drawn (drawn_of 8 s1) (omega (arith, below 8 s1 (omega arith)))
drawn_by false false false true state =
    let s1 = next_draw state in let s2 = next_draw s1 in
    stop_drawn (drawn_of 8 s2) (way_of (drawn_of 3 s1)) (omega (arith, below 8 s2 (omega arith)))
drawn_by false false false false state =
    let s1 = next_draw state in
    advance_drawn (1 + drawn_of 3 s1) (omega (arith, below 3 s1 (omega arith)))

draw_drawn : (state : ℕ) → IsDrawn (draw state).command
unfolding draw
draw_drawn state =
    let kind : ℕ = drawn_of 10 (next_draw state) in
    drawn_by (nat_lt kind 4) (nat_lt kind 7) (kind == 7) (kind == 8) (next_draw state)

all_drawn : (count state : ℕ) → AreDrawn (drawn_commands count state)
unfolding drawn_commands
all_drawn zero state = tt
all_drawn (suc count) state = (draw_drawn state, all_drawn count (draw state).state)

-- ---- their lines

unended_on : (ended : List (List ℕ)) (begun text : List ℕ) → list_all is_plain text ≡ true →
    fold line_step record { ended = ended; unended = begun } text ≡ record { ended = ended; unended = begun ++ text }
unended_on ended begun [] plain = ap (λ (l : List ℕ). record { ended = ended; unended = l }) (sym (append-nil begun))
unended_on ended begun (b ∷ text) plain =
    let parts = both (is_plain b) (list_all is_plain text) plain in
    ap (λ (newline : Bool). fold line_step
    (cond {A = Lined} newline record { ended = ended ++ without_return begun ∷ []; unended = [] } record { ended = ended; unended = begun ++ b ∷ [] }) text)
    (not_newline b parts.0)
    ∙ (unended_on ended (begun ++ b ∷ []) text parts.1
    ∙ ap (λ (l : List ℕ). record { ended = ended; unended = l }) (append_assoc begun (b ∷ []) text))

no_return : (text : List ℕ) → list_all is_plain text ≡ true → (slice_index_or text (length text - 1) 0 == 13) ≡ false
no_return [] plain = refl
no_return (b ∷ text) plain =
    not_return (slice_index_or (b ∷ text) (length (b ∷ text) - 1) 0)
    (AllPass-from_list_all is_plain (b ∷ text) plain (length (b ∷ text) - 1) 0 (omega arith))

as_it_is : (text : List ℕ) → list_all is_plain text ≡ true → without_return text ≡ text
as_it_is text plain = rw (no_return text plain) refl

one_line : (ended : List (List ℕ)) (text : List ℕ) → list_all is_plain text ≡ true →
    fold line_step record { ended = ended; unended = [] } (text ++ codes "\n") ≡ record { ended = ended ++ text ∷ []; unended = [] }
one_line ended text plain =
    fold-append line_step record { ended = ended; unended = [] } text (codes "\n")
    ∙ (ap (λ (l : Lined). line_step l 10) (unended_on ended [] text plain)
    ∙ ap (λ (line : List ℕ). record { ended = ended ++ line ∷ []; unended = [] }) (as_it_is text plain))

lines_drawn : (ended : List (List ℕ)) (cs : List Command) → AreDrawn cs →
    fold line_step record { ended = ended; unended = [] } (lines_of cs) ≡ record { ended = ended ++ map command_text cs; unended = [] }
lines_drawn ended [] drawn = ap (λ (ls : List (List ℕ)). record { ended = ls; unended = [] }) (sym (append-nil ended))
lines_drawn ended (c ∷ cs) drawn =
    let text : List ℕ = command_text c in
    fold-append line_step record { ended = ended; unended = [] } (text ++ codes "\n") (lines_of cs)
    ∙ (ap (λ (l : Lined). fold line_step l (lines_of cs)) (one_line ended text (joined_plain (command_words c) drawn.0.plain))
    ∙ (lines_drawn (ended ++ text ∷ []) cs drawn.1
    ∙ ap (λ (ls : List (List ℕ)). record { ended = ls; unended = [] }) (append_assoc ended (text ∷ []) (map command_text cs))))

all_lines_drawn : (cs : List Command) → AreDrawn cs → all_lines (lines_of cs) ≡ map command_text cs
all_lines_drawn cs drawn =
    ap (λ (l : Lined). l.ended ++ last_line l.unended) (lines_drawn [] cs drawn) ∙ append-nil (map command_text cs)

-- ---- what they are read as

abbrev singles : List Command → List Segment
singles cs = map (λ c. single (command_text c)) cs

one_cut : (c : Command) → IsCommand c → line_cut None (command_text c) ≡ record { segments = single (command_text c) ∷ []; open_block = None }
unfolding line_cut
one_cut c good = ap (λ read. outside read (command_text c)) (reads_back c good)

cut_drawn : (segs : List Segment) (cs : List Command) → AreDrawn cs →
    fold cut_step record { segments = segs; open_block = None } (map command_text cs) ≡ record { segments = segs ++ singles cs; open_block = None }
cut_drawn segs [] drawn = ap (λ (ss : List Segment). record { segments = ss; open_block = None }) (sym (append-nil segs))
cut_drawn segs (c ∷ cs) drawn =
    ap (λ (more : Cut). fold cut_step record { segments = segs ++ more.segments; open_block = more.open_block } (map command_text cs)) (one_cut c drawn.0.good)
    ∙ (cut_drawn (segs ++ single (command_text c) ∷ []) cs drawn.1
    ∙ ap (λ (ss : List Segment). record { segments = ss; open_block = None }) (append_assoc segs (single (command_text c) ∷ []) (singles cs)))

cut_lines : (cs : List Command) → AreDrawn cs → cut (all_lines (lines_of cs)) ≡ record { segments = singles cs; open_block = None }
cut_lines cs drawn = ap cut (all_lines_drawn cs drawn) ∙ cut_drawn [] cs drawn

singles_alone : (cs : List Command) → AreLines (singles cs)
singles_alone [] = tt
singles_alone (c ∷ cs) = singles_alone cs

-- What is said of the lines of a generated session.
record IsAlone (c : Cut) : Type 0 where
  alone : AreLines c.segments
  closed : c.open_block ≡ None

IsAlone-drawn : (cs : List Command) → AreDrawn cs → IsAlone (cut (all_lines (lines_of cs)))
IsAlone-drawn cs drawn =
    let is = cut_lines cs drawn in
    let P : Cut → Type 0 = λ c. IsAlone c in
    subst P (sym is) record { alone = singles_alone cs; closed = refl }

session_alone : (count number : ℕ) → IsAlone (cut (all_lines (lines_of (first_commands ++ drawn_commands count number))))
session_alone count number =
    IsAlone-drawn (first_commands ++ drawn_commands count number)
    (AreDrawn-append first_commands (drawn_commands count number) first_drawn (all_drawn count number))

pub drill_alone : (number : ℕ) → AreLines (cut (all_lines (session_text number))).segments
unfolding session_text
drill_alone number = (session_alone 5000 number).alone

pub drill_closed : (number : ℕ) → (cut (all_lines (session_text number))).open_block ≡ None
unfolding session_text
drill_closed number = (session_alone 5000 number).closed
