-- Faults of words are read exactly.
use Rattle.std.proofs.Common.{ℕ, List, [], ◌++◌, get_or, codes, decimal, refl, append_assoc, arith}
use Rattle.fc_base.specs.declared.fault.RequiredOption.TheVariants as required
use Rattle.fc_base.specs.declared.fault.WordFault.{WordFault}
use Rattle.fc_base.specs.declared.fault.WordFault.TheVariants as fault
use Rattle.fc_entry.specs.Text.{fault_text}
use Rattle.fc_reading.specs.Readers.{the_word, then_read}
use Rattle.fc_reading_replies.specs.Faults.{IsFault, fault_at, fault_behind, fault_words, numbered_fault, unread_at, unread_text}
use Rattle.fc_reading.proofs.Exact.{Exact, Exact-map}
use Rattle.fc_reading.proofs.Fields.{AnyUnit, Exact-and, Exact-word}
use Rattle.fc_reading.proofs.Words.{IsIndexOf, nothing}
use Rattle.fc_reading_notes.proofs.Below.{AllBelow}
use Rattle.fc_reading_replies.proofs.Cases.{Case, Exact-begun, Given, NumberedCases, SaidCases, case_numbered, case_said, given_numbered, given_said, later_words}

abbrev pub fault_line : WordFault → List ℕ
fault_line fault = fault_text fault ++ codes "\n"

-- the same behind its words
abbrev fault_end : WordFault → List ℕ
fault_end (fault.UnknownOption word) = decimal word ++ codes "\n"
fault_end (fault.MissingWord word) = decimal word ++ codes "\n"
fault_end (fault.RepeatedOption word) = decimal word ++ codes "\n"
fault_end (fault.BadNumber word) = decimal word ++ codes "\n"
fault_end (fault.BadName word) = decimal word ++ codes "\n"
fault_end (fault.Limit n) = decimal n ++ codes "\n"
fault_end fault = []

whole : SaidCases IsFault fault_line fault_end
whole = case_said IsFault fault_line fault_end

number : NumberedCases IsFault fault_line fault_end
number = case_numbered IsFault fault_line fault_end

abbrev FaultAt : ℕ → Type 0
FaultAt i = Case IsFault fault_line fault_end (get_or fault_words i []) (fault_behind i)

whole_cases : AllBelow FaultAt 9
whole_cases =
    let to_1 : AllBelow FaultAt 1 = (tt, whole (codes "unknown command\n") fault.UnknownCommand tt refl refl) in
    let to_2 : AllBelow FaultAt 2 = (to_1, whole (codes "long line\n") fault.LongLine tt refl refl) in
    let to_3 : AllBelow FaultAt 3 = (to_2, whole (codes "no actor\n") fault.NoActor tt refl refl) in
    let to_4 : AllBelow FaultAt 4 = (to_3, whole (codes "not in a block\n") fault.NotInBlock tt refl refl) in
    let to_5 : AllBelow FaultAt 5 = (to_4, whole (codes "missing option -size\n") (fault.MissingOption required.Size) tt refl refl) in
    let to_6 : AllBelow FaultAt 6 = (to_5, whole (codes "missing option -seconds\n") (fault.MissingOption required.Seconds) tt refl refl) in
    let to_7 : AllBelow FaultAt 7 = (to_6, whole (codes "missing option -source\n") (fault.MissingOption required.Source) tt refl refl) in
    let to_8 : AllBelow FaultAt 8 = (to_7, whole (codes "missing option -target\n") (fault.MissingOption required.Target) tt refl refl) in
    (to_8, whole (codes "missing option -preset\n") (fault.MissingOption required.Preset) tt refl refl)

fault_cases : AllBelow FaultAt 15
fault_cases =
    let to_10 : AllBelow FaultAt 10 = (whole_cases, number (codes "unknown option at word ") (numbered_fault 0) (λ n is. is) (λ n. refl) (λ n. refl)) in
    let to_11 : AllBelow FaultAt 11 = (to_10, number (codes "missing word ") (numbered_fault 1) (λ n is. is) (λ n. refl) (λ n. refl)) in
    let to_12 : AllBelow FaultAt 12 = (to_11, number (codes "option repeated at word ") (numbered_fault 2) (λ n is. is) (λ n. refl) (λ n. refl)) in
    let to_13 : AllBelow FaultAt 13 = (to_12, number (codes "bad number at word ") (numbered_fault 3) (λ n is. is) (λ n. refl) (λ n. refl)) in
    let to_14 : AllBelow FaultAt 14 = (to_13, number (codes "bad name at word ") (numbered_fault 4) (λ n is. is) (λ n. refl) (λ n. refl)) in
    (to_14, number (codes "limit ") (numbered_fault 5) (λ n is. is) (λ n. refl) (λ n. refl))

fault_from : (fault : WordFault) → IsFault fault → (i : ℕ) × IsIndexOf fault_words i × Given (fault_behind i) fault
fault_from fault.UnknownCommand is = (0, omega arith, given_said fault.UnknownCommand)
fault_from fault.LongLine is = (1, omega arith, given_said fault.LongLine)
fault_from fault.NoActor is = (2, omega arith, given_said fault.NoActor)
fault_from fault.NotInBlock is = (3, omega arith, given_said fault.NotInBlock)
fault_from (fault.MissingOption required.Size) is = (4, omega arith, given_said (fault.MissingOption required.Size))
fault_from (fault.MissingOption required.Seconds) is = (5, omega arith, given_said (fault.MissingOption required.Seconds))
fault_from (fault.MissingOption required.Source) is = (6, omega arith, given_said (fault.MissingOption required.Source))
fault_from (fault.MissingOption required.Target) is = (7, omega arith, given_said (fault.MissingOption required.Target))
fault_from (fault.MissingOption required.Preset) is = (8, omega arith, given_said (fault.MissingOption required.Preset))
fault_from (fault.UnknownOption word) is = (9, omega arith, given_numbered (numbered_fault 0) word is)
fault_from (fault.MissingWord word) is = (10, omega arith, given_numbered (numbered_fault 1) word is)
fault_from (fault.RepeatedOption word) is = (11, omega arith, given_numbered (numbered_fault 2) word is)
fault_from (fault.BadNumber word) is = (12, omega arith, given_numbered (numbered_fault 3) word is)
fault_from (fault.BadName word) is = (13, omega arith, given_numbered (numbered_fault 4) word is)
fault_from (fault.Limit n) is = (14, omega arith, given_numbered (numbered_fault 5) n is)

pub Exact-fault : Exact IsFault fault_line nothing fault_at
Exact-fault =
    Exact-begun IsFault fault_line fault_end (codes "unknown command\n") (later_words fault_words) fault_behind refl fault_cases fault_from

-- the reply of a line with a fault
pub Exact-unread : Exact IsFault unread_text nothing unread_at
Exact-unread =
    Exact-map {V = Unit {0} × WordFault} {W = WordFault} (λ x. AnyUnit x.0 × IsFault x.1) (λ x. codes "refused " ++ fault_line x.1) nothing
    (then_read (the_word (codes "refused ")) (λ u. fault_at)) IsFault unread_text (λ x. x.1)
    (
    Exact-and {V = Unit {0}} {W = WordFault} AnyUnit (λ u. codes "refused ") (the_word (codes "refused ")) IsFault fault_line fault_at
    (Exact-word (codes "refused ")) Exact-fault fault.LongLine tt
    )
    (λ x fits. (fits.1, append_assoc (codes "refused ") (fault_text x.1) (codes "\n")))
    (λ fault is. ((tt, fault), (tt, is), refl))
