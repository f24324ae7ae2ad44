-- One refusal, or the next.
use Rattle.std.specs.Prelude.{Option, Some, None}
use Rattle.fc_base.specs.declared.fault.Refusal.{Refusal}

abbrev pub or_else : Option Refusal → Option Refusal → Option Refusal
or_else (Some refusal) next = Some refusal
or_else None next = next
