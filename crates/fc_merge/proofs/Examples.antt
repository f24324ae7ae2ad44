-- Lists and what they merge to, on closed examples.
use Rattle.std.proofs.Common.{◌≡◌, ℕ, List, [], ◌∷◌, None, map, refl}
use Rattle.std.specs.List.{range_with_len}
use Rattle.fc_base.specs.declared.request.Place.TheVariants.{Control}
use Rattle.fc_base.specs.declared.request.Reply.TheVariants.{Done}
use Rattle.fc_base.specs.declared.request.Request.TheVariants.{CopyTurn}
use Rattle.fc_entry.specs.declared.entry.Entry.{Entry}
use Rattle.fc_merge.specs.Merging.{Own, of_actor}
use Rattle.fc_merge.specs.Taking.{Merges, ends, here, takes, there}

abbrev entry : ℕ → ℕ → Entry
entry number actor =
    record {
      number = number;
      actor = actor;
      place = Control;
      request = CopyTurn 0;
      reply = Done;
      moves = [];
      effects = [];
      torn = None;
      faults_before = 0;
      faults_after = 0;
      calls = 0;
    }

-- Actor 1 has the numbers 7 and 9, actor 2 has 8 and 10.
abbrev first : Own
first = record { actor = 1; entries = entry 7 1 ∷ entry 9 1 ∷ [] }

abbrev second : Own
second = record { actor = 2; entries = entry 8 2 ∷ entry 10 2 ∷ [] }

abbrev merged : List Entry
merged = entry 7 1 ∷ entry 8 2 ∷ entry 9 1 ∷ entry 10 2 ∷ []

numbers_are : map (λ (e : Entry). e.number) merged ≡ range_with_len 7 4
numbers_are = refl

first_has : of_actor 1 merged ≡ first.entries
first_has = refl

second_has : of_actor 2 merged ≡ second.entries
second_has = refl

third_has : of_actor 3 merged ≡ []
third_has = refl

-- They are taken in turn.
in_turn : Merges 7 (first ∷ second ∷ []) merged
in_turn = takes (here refl refl) (takes (there (here refl refl)) (takes (here refl refl) (takes (there (here refl refl)) (ends refl))))

-- Where one has none, the other gives all.
alone : Merges 8 (record { actor = 1; entries = [] } ∷ record { actor = 2; entries = entry 8 2 ∷ [] } ∷ []) (entry 8 2 ∷ [])
alone = takes (there (here refl refl)) (ends refl)
