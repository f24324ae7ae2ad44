-- A line as it is read where metadata stands on a disk that stops.
use Rattle.std.proofs.Common.{◌≡◌, ℕ, List, Result, Ok, Err, sym, ap}
use Rattle.fc_base.specs.declared.command.Line.{Line}
use Rattle.fc_base.specs.declared.command.ScriptLine.TheVariants.{Read, Unread}
use Rattle.fc_base.specs.declared.fault.WordFault.{WordFault}
use Rattle.fc_blocks.specs.Reading.{script_line}
use Rattle.fc_books.specs.Books.{Books}
use Rattle.fc_stopped.specs.Reading.{own_reading, stop_reading}

line_read : (line : Line) (read : Result Line WordFault) → Read line ≡ script_line read → read ≡ Ok line
line_read line (Ok other) is =
    let same : line ≡ other = cc is in
    ap Ok (sym same)
line_read line (Err fault) is = absurd (cc is)

fault_read : (fault : WordFault) (read : Result Line WordFault) → Unread fault ≡ script_line read → read ≡ Err fault
fault_read fault (Ok line) is = absurd (cc is)
fault_read fault (Err other) is =
    let same : fault ≡ other = cc is in
    ap Err (sym same)

reading_of : (b : Books) (bytes : List ℕ) (read : Result Line WordFault) → own_reading bytes ≡ read → stop_reading b bytes ≡ read
unfolding stop_reading
reading_of b bytes read is = is

pub stop_line : (b : Books) (bytes : List ℕ) (line : Line) → Read line ≡ script_line (own_reading bytes) → stop_reading b bytes ≡ Ok line
stop_line b bytes line is = reading_of b bytes (Ok line) (line_read line (own_reading bytes) is)

pub stop_fault : (b : Books) (bytes : List ℕ) (fault : WordFault) → Unread fault ≡ script_line (own_reading bytes) → stop_reading b bytes ≡ Err fault
stop_fault b bytes fault is = reading_of b bytes (Err fault) (fault_read fault (own_reading bytes) is)
