use Rattle.std.proofs.Common.{◌≡◌, Result, sym, subst}
use Rattle.std.proofs.lemmas.Result.{err_from_is_err_and}
use Rattle.fc_image.specs.declared.record.MetaRecord.{MetaRecord}
use Rattle.fc_format.specs.declared.cursor.ReadError.{ReadError}
use Rattle.fc_format.specs.declared.records.RecordKind.{RecordKind}
use Rattle.fc_format.specs.Left.{Left}
use Rattle.fc_format.specs.Reading.{Got, choice, IsRead}
use Rattle.fc_format.specs.Fields.{one_record, record_kind_of, record_of}
use Rattle.fc_format.proofs.Steps.{stops, goes}
use Rattle.fc_format.proofs.records.MetaRecordField.read.Goals as goal

-- behind its kind a record is read as one of that kind
of_kind : (s : Left) (told : RecordKind) (left : Left) (kind : RecordKind) (answer : Result MetaRecord ReadError) (after : Left)
    → choice record_kind_of s ≡ Got told left → told ≡ kind → IsRead (record_of kind left) answer after → IsRead (one_record s) answer after
unfolding one_record
of_kind s told left kind answer after e is read = goes record_of answer after e (subst (λ (k : RecordKind). IsRead (record_of k left) answer after) (sym is) read)

pub returns-in_err-kind : goal.returns-in_err-kind
unfolding one_record
returns-in_err-kind c =
    let p = err_from_is_err_and c.from_residual.result c.from_residual.ensures.1 in
    rw (p.1, p.2) (stops (choice record_kind_of c.args.cursor.now) _ _ _ _ c.in_err-kind.ensures)

pub returns-in-Pair : goal.returns-in-Pair
returns-in-Pair c = of_kind c.args.cursor.now _ c.read.new.cursor _ c.take_pair.result c.take_pair.new.cursor c.in_ok-kind.ensures c.in-Pair.is c.take_pair.ensures

pub returns-in-Written : goal.returns-in-Written
returns-in-Written c = of_kind c.args.cursor.now _ c.read.new.cursor _ c.take_written.result c.take_written.new.cursor c.in_ok-kind.ensures c.in-Written.is c.take_written.ensures

pub returns-in-Torn : goal.returns-in-Torn
returns-in-Torn c = of_kind c.args.cursor.now _ c.read.new.cursor _ c.take_torn.result c.take_torn.new.cursor c.in_ok-kind.ensures c.in-Torn.is c.take_torn.ensures

pub returns-in-Changing : goal.returns-in-Changing
returns-in-Changing c = of_kind c.args.cursor.now _ c.read.new.cursor _ c.take_changing.result c.take_changing.new.cursor c.in_ok-kind.ensures c.in-Changing.is c.take_changing.ensures
