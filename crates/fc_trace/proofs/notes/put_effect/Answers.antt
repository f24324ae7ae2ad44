use Rattle.fc_trace.proofs.notes.put_effect.Goals as goal

pub returns-in-Make : goal.returns-in-Make
returns-in-Make g c = rw c.in-Make.is c.put_made.ensures

pub returns-in-Remove : goal.returns-in-Remove
returns-in-Remove g c = rw c.in-Remove.is c.put_one.ensures

pub returns-in-Trigger : goal.returns-in-Trigger
returns-in-Trigger g c = rw (c.in-Trigger.is, ← c.as_slice.ensures) c.put_trigger.ensures

pub returns-in-State : goal.returns-in-State
returns-in-State g c = rw c.in-State.is c.put_state.ensures

pub returns-in-Gone : goal.returns-in-Gone
returns-in-Gone g c = rw c.in-Gone.is c.put_one-in-Gone.ensures
