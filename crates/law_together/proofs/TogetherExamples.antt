-- What two actors made beside each other, on a closed example.
use Rattle.std.proofs.Common.{◌≡◌, ℕ, List, [], ◌∷◌, None, refl, arith}
use Rattle.fc_base.specs.declared.request.Place.TheVariants.{Lane}
use Rattle.fc_base.specs.declared.request.Reply.TheVariants.{Idle}
use Rattle.fc_base.specs.declared.request.Request.TheVariants.{CopyTurn}
use Rattle.fc_entry.specs.declared.entry.Entry.{Entry}
use Rattle.fc_legal.specs.Scripts.{Script}
use Rattle.fc_shares.specs.Law.{numbered}
use Rattle.law_together.specs.Asking.{AllAsked, AllBegan, OneWants}
use Rattle.law_together.specs.Making.{AreDrawn, Making, all_made, own_of}

-- an idle turn of a copier
abbrev turn : ℕ → ℕ → ℕ → Entry
turn number actor lane =
    record {
      number = number;
      actor = actor;
      place = Lane lane;
      request = CopyTurn lane;
      reply = Idle;
      moves = [];
      effects = [];
      torn = None;
      faults_before = 0;
      faults_after = 0;
      calls = 0;
    }

-- The first drew 7 and 9, the second 8 and 10; an entry is made before its number is drawn.
abbrev first : Making
first = record { actor = 1; made = (7, turn 0 1 0) ∷ (9, turn 0 1 1) ∷ [] }

abbrev second : Making
second = record { actor = 2; made = (8, turn 0 2 0) ∷ (10, turn 0 2 1) ∷ [] }

abbrev entries : List Entry
entries = turn 0 1 0 ∷ turn 0 2 0 ∷ turn 0 1 1 ∷ turn 0 2 1 ∷ []

drawn : AreDrawn 7 entries (all_made (first ∷ second ∷ []))
drawn = record {
  stand = ((0, refl, refl), ((2, refl, refl), ((1, refl, refl), ((3, refl, refl), tt))));
  numbers = λ x. omega arith;
}

numbered_are : numbered 7 entries ≡ turn 7 1 0 ∷ turn 8 2 0 ∷ turn 9 1 1 ∷ turn 10 2 1 ∷ []
numbered_are = refl

first_has : (own_of first).entries ≡ turn 7 1 0 ∷ turn 9 1 1 ∷ []
first_has = refl

-- Two turns were all of each, or of the second the first of three.
abbrev script : ℕ → List Script
script actor = record { actor = actor; requests = CopyTurn 0 ∷ CopyTurn 1 ∷ [] } ∷ []

abbrev longer : Script
longer = record { actor = 2; requests = CopyTurn 0 ∷ CopyTurn 1 ∷ CopyTurn 2 ∷ [] }

all_of_one : AllAsked (own_of first ∷ []) (script 1)
all_of_one = (record { actor = refl; asked = refl }, tt)

began : AllBegan (own_of second ∷ []) (longer ∷ [])
began = ((CopyTurn 2 ∷ [], record { actor = refl; asked = refl }), tt)

wants : OneWants (own_of second ∷ []) (longer ∷ [])
wants = record {
  own = own_of second;
  script = longer;
  is_list = (0, omega arith, refl);
  is_script = (0, omega arith, refl);
  wanted = CopyTurn 2;
  behind = [];
  leaves = record { actor = refl; asked = refl };
}
