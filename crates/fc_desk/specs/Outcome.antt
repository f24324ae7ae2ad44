-- What is left of an outcome that may be a refusal.
use Rattle.std.specs.Prelude.{Option, Some, None, Result, Ok, Err}
use Rattle.fc_base.specs.declared.fault.Refusal.{Refusal}

abbrev pub ok_of : {X : Type 0} → Result X Refusal → Option X
ok_of (Ok x) = Some x
ok_of (Err refusal) = None
