-- What was asked, read from the left as far as the arrow.
use Rattle.std.specs.Prelude.{ℕ, ◌-◌, if◌then◌else◌, nat_lt, List, ◌++◌, Result}
use Rattle.fc_reading.specs.Readers.{map_read, one_of_at, then_read}
use Rattle.fc_reading_requests.specs.Lines.{access_words, behind_access, behind_volume, volume_words}
use Rattle.fc_reading_requests.specs.Mappings.{behind_making, making_words}
use Rattle.fc_reading_requests.specs.Presets.{behind_preset, preset_words}
use Rattle.fc_reading_requests.specs.Reports.{behind_report, behind_room, report_words, room_words}
use Rattle.fc_reading_requests.specs.Runs.{behind_flagged, behind_running, flagged_words, running_words}
use Rattle.fc_reading_requests.specs.declared.asked.Asked.{Asked}

-- the words that begin what may be asked
abbrev pub asked_words : List (List ℕ)
asked_words =
    access_words ++ volume_words ++ making_words ++ flagged_words ++ running_words ++ report_words ++ preset_words ++ room_words

abbrev pub behind_word : ℕ → List ℕ → Result (Asked × List ℕ) ℕ
behind_word word =
    if nat_lt word 7 then behind_access word
    else if nat_lt word 12 then behind_volume (word - 7)
    else if nat_lt word 15 then behind_making (word - 12)
    else if nat_lt word 19 then behind_flagged (word - 15)
    else if nat_lt word 23 then behind_running (word - 19)
    else if nat_lt word 29 then behind_report (word - 23)
    else if nat_lt word 30 then behind_preset
    else behind_room (word - 30)

abbrev pub asked_at : List ℕ → Result (Asked × List ℕ) ℕ
asked_at = map_read (λ x. x.1) (then_read (one_of_at asked_words) behind_word)
