-- The lines that prepare, start, stop and remove mappings and groups, each read from the left behind the word
-- that begins it, as far as the arrow.
use Rattle.std.specs.Prelude.{ℕ, ◌==◌, Bool, true, false, if◌then◌else◌, List, [], ◌∷◌, Result, codes}
use Rattle.fc_base.specs.declared.command.Command.{Command}
use Rattle.fc_base.specs.declared.command.Command.TheVariants as command
use Rattle.fc_base.specs.declared.command.StopWay.{StopWay}
use Rattle.fc_base.specs.declared.command.StopWay.TheVariants.{Plain, Force, Split}
use Rattle.fc_base.specs.declared.name.Ref.{Ref}
use Rattle.fc_reading.specs.Readers.{map_read, one_of_at, the_word, then_read}
use Rattle.fc_reading_requests.specs.Parts.{arrow, object_and, or_object}
use Rattle.fc_reading_requests.specs.declared.asked.Asked.{Asked}
use Rattle.fc_reading_requests.specs.declared.asked.Asked.TheVariants.{Command as OfCommand}

-- whether this flag is raised, and the object
abbrev pub raised_at : List ℕ → List ℕ → Result ((Bool × Ref) × List ℕ) ℕ
raised_at flag = or_object (λ object. (false, object)) (map_read (λ x. (true, x.1)) (then_read (the_word flag) (λ u. object_and arrow)))

-- whether `-prep` and `-restore` are raised, and the object; behind `-prep`, `-restore` may follow
abbrev pub start_flags : List (List ℕ)
start_flags = codes "-prep " ∷ codes "-restore " ∷ []

abbrev pub behind_start : ℕ → List ℕ → Result (((Bool × Bool) × Ref) × List ℕ) ℕ
behind_start flag =
    if flag == 0 then map_read (λ x. ((true, x.0), x.1)) (raised_at (codes "-restore "))
    else map_read (λ object. ((false, true), object)) (object_and arrow)

abbrev pub started_at : List ℕ → Result (((Bool × Bool) × Ref) × List ℕ) ℕ
started_at =
    or_object (λ object. ((false, false), object)) (map_read (λ x. x.1) (then_read (one_of_at start_flags) behind_start))

-- how it is stopped, and the object
abbrev pub stop_flags : List (List ℕ)
stop_flags = codes "-force " ∷ codes "-split " ∷ []

abbrev pub way_of : ℕ → StopWay
way_of flag = if flag == 0 then Force else Split

abbrev pub stopped_at : List ℕ → Result ((StopWay × Ref) × List ℕ) ℕ
stopped_at =
    or_object (λ object. (Plain, object)) (map_read (λ x. (way_of x.0, x.1)) (then_read (one_of_at stop_flags) (λ flag. object_and arrow)))

abbrev pub raised : (Ref → Bool → Command) → Bool × Ref → Asked
raised make x = OfCommand (make x.1 x.0)

abbrev pub started : (Ref → Bool → Bool → Command) → (Bool × Bool) × Ref → Asked
started make x = OfCommand (make x.1 x.0.0 x.0.1)

abbrev pub stopped : (Ref → StopWay → Command) → StopWay × Ref → Asked
stopped make x = OfCommand (make x.1 x.0)

abbrev pub flagged_words : List (List ℕ)
flagged_words = codes "prestartfcmap " ∷ codes "prestartfcconsistgrp " ∷ codes "rmfcmap " ∷ codes "rmfcconsistgrp " ∷ []

abbrev pub behind_flagged : ℕ → List ℕ → Result (Asked × List ℕ) ℕ
behind_flagged word =
    if word == 0 then map_read (raised command.Prestartfcmap) (raised_at (codes "-restore "))
    else if word == 1 then map_read (raised command.Prestartfcconsistgrp) (raised_at (codes "-restore "))
    else if word == 2 then map_read (raised command.Rmfcmap) (raised_at (codes "-force "))
    else map_read (raised command.Rmfcconsistgrp) (raised_at (codes "-force "))

abbrev pub running_words : List (List ℕ)
running_words = codes "startfcmap " ∷ codes "startfcconsistgrp " ∷ codes "stopfcmap " ∷ codes "stopfcconsistgrp " ∷ []

abbrev pub behind_running : ℕ → List ℕ → Result (Asked × List ℕ) ℕ
behind_running word =
    if word == 0 then map_read (started command.Startfcmap) started_at
    else if word == 1 then map_read (started command.Startfcconsistgrp) started_at
    else if word == 2 then map_read (stopped command.Stopfcmap) stopped_at
    else map_read (stopped command.Stopfcconsistgrp) stopped_at
