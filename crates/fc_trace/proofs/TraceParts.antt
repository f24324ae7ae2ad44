-- The texts of a trace as the parts that are put one after the other.
use Rattle.std.proofs.Common.{◌≡◌, ℕ, ◌-◌, ◌≤◌, List, [], ◌∷◌, ◌++◌, codes, decimal, length, get_or, take, drop, append_assoc, arith}
use Rattle.std.proofs.lemmas.List.{append-nil}
use Rattle.std.specs.List.{concat, flat_map}
use Rattle.fc_base.specs.Grain.{grain_kib}
use Rattle.fc_base.specs.declared.ranges.Range.{Range}
use Rattle.fc_base.specs.declared.request.Pair.{Pair}
use Rattle.fc_base.specs.declared.size.GrainSize.{GrainSize}
use Rattle.fc_entry.specs.declared.entry.Entry.{Entry}
use Rattle.fc_entry.specs.Text.{entry_line, rows_text}
use Rattle.fc_entry.proofs.JoinLemmas.{join_with_byte-first}
use Rattle.fc_trace.specs.declared.header.LaneDisks.{LaneDisks}
use Rattle.fc_trace.specs.Notes.{calls_text, effect_text, kept_text, move_text, notes_text, pair_text, range_text, torn_text}
use Rattle.fc_trace.specs.Trace.{header_text, traced_text}

-- three texts, one behind the other
pub three : (a b c : List ℕ) → concat (a ∷ b ∷ c ∷ []) ≡ a ++ b ++ c
three a b c = simp (append_assoc, append-nil)

-- four of them
pub four : (a b c d : List ℕ) → concat (a ∷ b ∷ c ∷ d ∷ []) ≡ a ++ b ++ c ++ d
four a b c d = simp (append_assoc, append-nil)

abbrev pub header_parts : GrainSize → List LaneDisks → List (List ℕ)
header_parts grain lanes =
    (codes "trace " ++ decimal (grain_kib grain) ++ codes " " ++ decimal (length lanes) ++ codes " flat")
    ∷ flat_map (λ lane. codes " " ++ decimal lane.flat) lanes
    ∷ codes " thin"
    ∷ flat_map (λ lane. codes " " ++ decimal lane.thin) lanes
    ∷ codes "\n"
    ∷ []

header_joined :
    (a b c d e f t g n : List ℕ) →
    concat ((a ++ b ++ c ++ d ++ e) ∷ f ∷ t ∷ g ∷ n ∷ []) ≡ a ++ b ++ c ++ d ++ e ++ f ++ t ++ g ++ n
header_joined a b c d e f t g n = simp (append_assoc, append-nil)

pub header_parts-joined : (grain : GrainSize) (lanes : List LaneDisks) → concat (header_parts grain lanes) ≡ header_text grain lanes
header_parts-joined grain lanes =
    header_joined (codes "trace ") (decimal (grain_kib grain)) (codes " ") (decimal (length lanes)) (codes " flat")
    (flat_map (λ (lane : LaneDisks). codes " " ++ decimal lane.flat) lanes) (codes " thin")
    (flat_map (λ (lane : LaneDisks). codes " " ++ decimal lane.thin) lanes) (codes "\n")

-- ranges: the first, and each of the others behind a comma
pub kept_first :
    (ranges : List Range) (d : Range) →
    1 ≤ length ranges →
    kept_text ranges ≡ range_text (get_or ranges 0 d) ++ flat_map (λ range. codes "," ++ range_text range) (take (length ranges - 1) (drop 1 ranges))
kept_first [] d inside = absurd (omega arith)
kept_first (range ∷ ranges) d inside = join_with_byte-first 44 range_text (range ∷ ranges) d inside

abbrev pub trigger_parts : List Pair → List (List ℕ)
trigger_parts pairs = codes "+ trigger" ∷ flat_map pair_text pairs ∷ codes "\n" ∷ []

abbrev pub cut_parts : ℕ → List Range → List (List ℕ)
cut_parts volume kept = (codes "+ cut " ++ decimal volume ++ codes " ") ∷ kept_text kept ∷ codes "\n" ∷ []

abbrev pub notes_parts : Entry → List (List ℕ)
notes_parts entry =
    calls_text entry.place entry.calls entry.faults_before entry.faults_after ∷ flat_map move_text entry.moves
    ∷ torn_text entry.torn ∷ flat_map effect_text entry.effects ∷ []

pub notes_parts-joined : (entry : Entry) → concat (notes_parts entry) ≡ notes_text entry
notes_parts-joined entry =
    four (calls_text entry.place entry.calls entry.faults_before entry.faults_after) (flat_map move_text entry.moves)
    (torn_text entry.torn) (flat_map effect_text entry.effects)

abbrev pub traced_parts : List (List ℕ) → Entry → List (List ℕ)
traced_parts actors entry = entry_line actors entry ∷ notes_text entry ∷ rows_text entry.reply ∷ codes ".\n" ∷ []

pub traced_parts-joined : (actors : List (List ℕ)) (entry : Entry) → concat (traced_parts actors entry) ≡ traced_text actors entry
traced_parts-joined actors entry = four (entry_line actors entry) (notes_text entry) (rows_text entry.reply) (codes ".\n")
