-- The lines of replies are read exactly.
use Rattle.std.proofs.Common.{◌≡◌, ℕ, ◌<◌, Bool, true, false, List, [], ◌++◌, map, get_or, codes, decimal, Result, refl, sym, ap, subst, ◌∙◌, append_assoc, arith}
use Rattle.std.specs.List.{join_with_byte}
use Rattle.std.proofs.lemmas.Bool.{false≢true}
use Rattle.fc_base.specs.declared.fault.Kind.{Kind}
use Rattle.fc_base.specs.declared.fault.Kind.TheVariants.{Vdisk, Fcmap, Group}
use Rattle.fc_base.specs.declared.fault.Refusal.{Refusal}
use Rattle.fc_base.specs.declared.fault.Refusal.TheVariants.{NoDisk}
use Rattle.fc_base.specs.declared.request.Reply.TheVariants as reply
use Rattle.fc_base.specs.declared.runs.Run.{Run}
use Rattle.fc_base.specs.declared.state.MapState.{MapState}
use Rattle.fc_base.specs.declared.state.MapState.TheVariants.{Empty}
use Rattle.fc_entry.specs.Text.{made_text, refusal_text, run_text, state_text}
use Rattle.fc_reading.specs.Readers.{map_read, the_word, then_read}
use Rattle.fc_reading_notes.specs.Lines.{count_at, id_at, state_at}
use Rattle.fc_reading_notes.specs.Told.{IsCount, IsId}
use Rattle.fc_reading_replies.specs.Data.{AreRuns, data_at}
use Rattle.fc_reading_replies.specs.Refusals.{IsRefusal, refusal_at}
use Rattle.fc_reading_replies.specs.Replies.{MayBeSaid, answer_words, made_of, moved_of, not_accessible, offline_of, refused_at, refused_of, reply_at, reply_behind, reply_line, reply_words}
use Rattle.fc_reading_replies.specs.declared.replies.ReplyLine.{ReplyLine}
use Rattle.fc_reading_replies.specs.declared.replies.ReplyLine.TheVariants.{Whole, Rows}
use Rattle.fc_reading.proofs.Exact.{Exact, Exact-map}
use Rattle.fc_reading.proofs.Fields.{AnyUnit, Exact-and, Exact-word}
use Rattle.fc_reading.proofs.Words.{nothing}
use Rattle.fc_reading_notes.proofs.LineLemmas.{AnyState, Exact-count, Exact-id, Exact-state, spaced, state_line}
use Rattle.fc_reading_notes.proofs.Below.{AllBelow}
use Rattle.fc_reading_replies.proofs.Cases.{Case, Exact-begun, Given, SaidCases, case_image, case_numbered, case_said, case_twice, given_image, given_numbered, given_said, given_twice, later_words, two_text}
use Rattle.fc_reading_replies.proofs.DataLemmas.{Exact-data, data_line}
use Rattle.fc_reading_replies.proofs.RefusalLemmas.{Exact-refusal, refusal_line}

abbrev made_end : List ℕ
made_end = codes "], successfully created\n"

-- the line behind its words
abbrev reply_end : ReplyLine → List ℕ
reply_end (Whole (reply.Made kind id)) = decimal id ++ made_end
reply_end (Whole (reply.Bytes runs)) = data_line runs
reply_end (Whole (reply.Moved map grain)) = two_text (map.0, grain.0)
reply_end (Whole (reply.Offline map state)) = (decimal map.0 ++ codes " ") ++ state_line state
reply_end (Whole (reply.NotAccessible map)) = decimal map.0 ++ codes "\n"
reply_end (Whole (reply.Refused refusal)) = refusal_line refusal
reply_end (Whole reply) = []
reply_end (Rows rows) = decimal rows ++ codes "\n"

whole : (refusable : Bool) → SaidCases (MayBeSaid refusable) reply_line reply_end
whole refusable = case_said (MayBeSaid refusable) reply_line reply_end

made_joined : (m w d e n : List ℕ) → m ++ w ++ d ++ e ++ n ≡ (m ++ w) ++ (d ++ (e ++ n))
made_joined m w d e n = simp (append_assoc)

made_number : Exact IsId (λ n. decimal n ++ made_end) nothing (id_at made_end)
made_number = Exact-id made_end (λ rest. refl)

made :
    (refusable : Bool) (word : List ℕ) (kind : Kind) (f : ℕ → ReplyLine) → ((n : ℕ) → f n ≡ Whole (reply.Made kind n)) → word ≡ made_text kind ++ codes ", id [" →
    Case (MayBeSaid refusable) reply_line reply_end word (map_read f (id_at made_end))
made refusable word kind f is same =
    case_image {R = ℕ} {V = ReplyLine} (MayBeSaid refusable) reply_line reply_end word IsId (λ n. decimal n ++ made_end) (id_at made_end) f made_number 0 (omega arith)
    (λ n fits. subst (MayBeSaid refusable) (sym (is n)) fits)
    (λ n fits. ap reply_end (is n))
    (
    λ n fits.
    ap reply_line (is n)
    ∙ made_joined (made_text kind) (codes ", id [") (decimal n) (codes "], successfully created") (codes "\n")
    ∙ ap (λ w. w ++ (decimal n ++ made_end)) (sym same)
    )

offline_joined : (w m s t n : List ℕ) → w ++ m ++ s ++ t ++ n ≡ w ++ ((m ++ s) ++ (t ++ n))
offline_joined w m s t n = simp (append_assoc)

abbrev IsOffline : ℕ × MapState → Type 0
IsOffline x = IsId x.0 × AnyState x.1

abbrev offline_text : ℕ × MapState → List ℕ
offline_text x = (decimal x.0 ++ codes " ") ++ state_line x.1

abbrev offline_at : List ℕ → Result ((ℕ × MapState) × List ℕ) ℕ
offline_at = then_read (id_at (codes " ")) (λ map. state_at)

Exact-offline : Exact IsOffline offline_text nothing offline_at
Exact-offline =
    Exact-and {V = ℕ} {W = MapState} IsId (λ n. decimal n ++ codes " ") (id_at (codes " ")) AnyState state_line state_at spaced Exact-state Empty tt

offline : (refusable : Bool) → Case (MayBeSaid refusable) reply_line reply_end (codes "offline ") (reply_behind 9)
offline refusable =
    case_image {R = ℕ × MapState} {V = ReplyLine} (MayBeSaid refusable) reply_line reply_end (codes "offline ") IsOffline offline_text offline_at offline_of Exact-offline (0, Empty)
    (omega arith, tt) (λ x fits. fits.0) (λ x fits. refl)
    (λ x fits. offline_joined (codes "offline ") (decimal x.0) (codes " ") (state_text x.1) (codes "\n"))

rows_number : Exact IsCount (λ n. decimal n ++ codes "\n") nothing (count_at (codes "\n"))
rows_number = Exact-count (codes "\n") (λ rest. refl)

rows : (refusable : Bool) → Case (MayBeSaid refusable) reply_line reply_end (codes "rows ") (reply_behind 11)
rows refusable =
    case_image {R = ℕ} {V = ReplyLine} (MayBeSaid refusable) reply_line reply_end (codes "rows ") IsCount (λ n. decimal n ++ codes "\n") (count_at (codes "\n")) Rows rows_number 0
    (omega arith) (λ n fits. fits) (λ n fits. refl) (λ n fits. append_assoc (codes "rows ") (decimal n) (codes "\n"))

abbrev a_read : List Run → ReplyLine
a_read runs = Whole (reply.Bytes runs)

bytes_read : (refusable : Bool) → Case (MayBeSaid refusable) reply_line reply_end (codes "data ") (reply_behind 12)
bytes_read refusable =
    case_image {R = List Run} {V = ReplyLine} (MayBeSaid refusable) reply_line reply_end (codes "data ") AreRuns data_line data_at a_read Exact-data []
    (tt, tt) (λ runs fits. fits) (λ runs fits. refl)
    (λ runs fits. append_assoc (codes "data ") (join_with_byte 44 (map run_text runs)) (codes "\n"))

refused : Case (MayBeSaid true) reply_line reply_end (codes "refused ") (reply_behind 13)
refused =
    case_image {R = Refusal} {V = ReplyLine} (MayBeSaid true) reply_line reply_end (codes "refused ") IsRefusal refusal_line refusal_at refused_of Exact-refusal NoDisk
    tt (λ refusal fits. (refl, fits)) (λ refusal fits. refl)
    (λ refusal fits. append_assoc (codes "refused ") (refusal_text refusal) (codes "\n"))

moved : (refusable : Bool) → Case (MayBeSaid refusable) reply_line reply_end (codes "moved ") (reply_behind 8)
moved refusable =
    case_twice (MayBeSaid refusable) reply_line reply_end (codes "moved ") moved_of (λ x is. is) (λ x. refl) (λ x. refl)

hidden : (refusable : Bool) → Case (MayBeSaid refusable) reply_line reply_end (codes "not accessible ") (reply_behind 10)
hidden refusable =
    case_numbered (MayBeSaid refusable) reply_line reply_end (codes "not accessible ") not_accessible (λ n is. is) (λ n. refl) (λ n. refl)

abbrev ReplyAt : Bool → ℕ → Type 0
ReplyAt refusable i = Case (MayBeSaid refusable) reply_line reply_end (get_or (reply_words true) i []) (reply_behind i)

made_cases : (refusable : Bool) → AllBelow (ReplyAt refusable) 8
made_cases refusable =
    let to_1 : AllBelow (ReplyAt refusable) 1 = (tt, whole refusable (codes "ok\n") (Whole reply.Done) tt refl refl) in
    let to_2 : AllBelow (ReplyAt refusable) 2 = (to_1, whole refusable (codes "idle\n") (Whole reply.Idle) tt refl refl) in
    let to_3 : AllBelow (ReplyAt refusable) 3 = (to_2, whole refusable (codes "disk fault\n") (Whole reply.DiskFault) tt refl refl) in
    let to_4 : AllBelow (ReplyAt refusable) 4 = (to_3, whole refusable (codes "medium error\n") (Whole reply.MediumError) tt refl refl) in
    let to_5 : AllBelow (ReplyAt refusable) 5 = (to_4, whole refusable (codes "no memory\n") (Whole reply.NoMemory) tt refl refl) in
    let to_6 : AllBelow (ReplyAt refusable) 6 = (to_5, made refusable (codes "Virtual Disk, id [") Vdisk (made_of 0) (λ n. refl) refl) in
    let to_7 : AllBelow (ReplyAt refusable) 7 = (to_6, made refusable (codes "FlashCopy Mapping, id [") Fcmap (made_of 1) (λ n. refl) refl) in
    (to_7, made refusable (codes "FlashCopy Consistency Group, id [") Group (made_of 2) (λ n. refl) refl)

answer_cases : (refusable : Bool) → AllBelow (ReplyAt refusable) 13
answer_cases refusable =
    let to_9 : AllBelow (ReplyAt refusable) 9 = (made_cases refusable, moved refusable) in
    let to_10 : AllBelow (ReplyAt refusable) 10 = (to_9, offline refusable) in
    let to_11 : AllBelow (ReplyAt refusable) 11 = (to_10, hidden refusable) in
    let to_12 : AllBelow (ReplyAt refusable) 12 = (to_11, rows refusable) in
    (to_12, bytes_read refusable)

reply_cases : AllBelow (ReplyAt true) 14
reply_cases = (answer_cases true, refused)

given_made : (f : ℕ → ReplyLine) (n : ℕ) → IsId n → Given (map_read f (id_at made_end)) (f n)
given_made f n is = given_image {R = ℕ} {V = ReplyLine} IsId (λ m. decimal m ++ made_end) (id_at made_end) f made_number n is

-- a line that begins with one of so many words
abbrev BeginsOf : ℕ → ReplyLine → Type 0
BeginsOf count line = (i : ℕ) × (i < count) × Given (reply_behind i) line

-- a line that refuses nothing
answer_from : (line : ReplyLine) → MayBeSaid false line → BeginsOf 13 line
answer_from (Whole reply.Done) is = (0, omega arith, given_said (Whole reply.Done))
answer_from (Whole reply.Idle) is = (1, omega arith, given_said (Whole reply.Idle))
answer_from (Whole reply.DiskFault) is = (2, omega arith, given_said (Whole reply.DiskFault))
answer_from (Whole reply.MediumError) is = (3, omega arith, given_said (Whole reply.MediumError))
answer_from (Whole reply.NoMemory) is = (4, omega arith, given_said (Whole reply.NoMemory))
answer_from (Whole (reply.Made Vdisk id)) is = (5, omega arith, given_made (made_of 0) id is)
answer_from (Whole (reply.Made Fcmap id)) is = (6, omega arith, given_made (made_of 1) id is)
answer_from (Whole (reply.Made Group id)) is = (7, omega arith, given_made (made_of 2) id is)
answer_from (Whole (reply.Moved map grain)) is = (8, omega arith, given_twice moved_of (map.0, grain.0) is)
answer_from (Whole (reply.Offline map state)) is = (
  9,
  omega arith,
  given_image {R = ℕ × MapState} {V = ReplyLine} IsOffline offline_text offline_at offline_of Exact-offline (map.0, state) (is, tt),
)
answer_from (Whole (reply.NotAccessible map)) is = (10, omega arith, given_numbered not_accessible map.0 is)
answer_from (Rows rows) is = (
  11,
  omega arith,
  given_image {R = ℕ} {V = ReplyLine} IsCount (λ n. decimal n ++ codes "\n") (count_at (codes "\n")) Rows rows_number rows is,
)
answer_from (Whole (reply.Bytes runs)) is = (
  12,
  omega arith,
  given_image {R = List Run} {V = ReplyLine} AreRuns data_line data_at a_read Exact-data runs is,
)
answer_from (Whole (reply.Refused refusal)) is = absurd (false≢true is.0)
answer_from (Whole (reply.Listed rows)) is = absurd is

more_words : (line : ReplyLine) → BeginsOf 13 line → BeginsOf 14 line
more_words line from = (from.0, omega (arith, from.1), from.2)

reply_from : (line : ReplyLine) → MayBeSaid true line → BeginsOf 14 line
reply_from (Whole (reply.Refused refusal)) is = (
  13,
  omega arith,
  given_image {R = Refusal} {V = ReplyLine} IsRefusal refusal_line refusal_at refused_of Exact-refusal refusal is.1,
)
reply_from (Whole reply.Done) is = more_words (Whole reply.Done) (answer_from (Whole reply.Done) is)
reply_from (Whole reply.Idle) is = more_words (Whole reply.Idle) (answer_from (Whole reply.Idle) is)
reply_from (Whole reply.DiskFault) is = more_words (Whole reply.DiskFault) (answer_from (Whole reply.DiskFault) is)
reply_from (Whole reply.MediumError) is = more_words (Whole reply.MediumError) (answer_from (Whole reply.MediumError) is)
reply_from (Whole reply.NoMemory) is = more_words (Whole reply.NoMemory) (answer_from (Whole reply.NoMemory) is)
reply_from (Whole (reply.Made kind id)) is = more_words (Whole (reply.Made kind id)) (answer_from (Whole (reply.Made kind id)) is)
reply_from (Whole (reply.Moved map grain)) is = more_words (Whole (reply.Moved map grain)) (answer_from (Whole (reply.Moved map grain)) is)
reply_from (Whole (reply.Offline map state)) is = more_words (Whole (reply.Offline map state)) (answer_from (Whole (reply.Offline map state)) is)
reply_from (Whole (reply.NotAccessible map)) is = more_words (Whole (reply.NotAccessible map)) (answer_from (Whole (reply.NotAccessible map)) is)
reply_from (Whole (reply.Bytes runs)) is = more_words (Whole (reply.Bytes runs)) (answer_from (Whole (reply.Bytes runs)) is)
reply_from (Whole (reply.Listed rows)) is = absurd is
reply_from (Rows rows) is = more_words (Rows rows) (answer_from (Rows rows) is)

pub Exact-reply : (refusable : Bool) → Exact (MayBeSaid refusable) reply_line nothing (reply_at refusable)
Exact-reply true = Exact-begun (MayBeSaid true) reply_line reply_end (codes "ok\n") (later_words (reply_words true)) reply_behind refl reply_cases reply_from
Exact-reply false = Exact-begun (MayBeSaid false) reply_line reply_end (codes "ok\n") (later_words answer_words) reply_behind refl (answer_cases false) answer_from

-- the line of a refusal
abbrev pub refused_line : Refusal → List ℕ
refused_line refusal = reply_line (refused_of refusal)

pub Exact-refused : Exact IsRefusal refused_line nothing refused_at
Exact-refused =
    Exact-map {V = Unit {0} × Refusal} {W = Refusal} (λ x. AnyUnit x.0 × IsRefusal x.1) (λ x. codes "refused " ++ refusal_line x.1) nothing
    (then_read (the_word (codes "refused ")) (λ u. refusal_at)) IsRefusal refused_line (λ x. x.1)
    (
    Exact-and {V = Unit {0}} {W = Refusal} AnyUnit (λ u. codes "refused ") (the_word (codes "refused ")) IsRefusal refusal_line refusal_at
    (Exact-word (codes "refused ")) Exact-refusal NoDisk tt
    )
    (λ x fits. (fits.1, append_assoc (codes "refused ") (refusal_text x.1) (codes "\n")))
    (λ refusal is. ((tt, refusal), (tt, is), refl))
