-- What a call says that reads words: the expected value, or the expected fault, or that memory was wanted.
use Rattle.std.specs.Prelude.{◌≡◌, Result, Ok, Err, ⊤}
use Rattle.fc_base.specs.declared.fault.WordFault.{WordFault}
use Rattle.fc_words.specs.declared.refused.WordRefused.{WordRefused}
use Rattle.fc_words.specs.declared.refused.WordRefused.TheVariants.{Fault, NoMemory}

-- a call that hands out what it read
abbrev pub Answers : {T : Type 0} → Result T WordRefused → Result T WordFault → Type 0
Answers (Ok value) expected = expected ≡ Ok value
Answers (Err (Fault fault)) expected = expected ≡ Err fault
Answers (Err NoMemory) expected = ⊤

-- a call that keeps what it read, and leaves the value so
abbrev pub Leaves : {T U : Type 0} → Result U WordRefused → T → Result T WordFault → Type 0
Leaves (Ok _) left expected = expected ≡ Ok left
Leaves (Err (Fault fault)) left expected = expected ≡ Err fault
Leaves (Err NoMemory) left expected = ⊤
