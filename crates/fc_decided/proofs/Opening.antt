-- What is told before the first entry stands.
use Rattle.std.proofs.Common.{◌≡◌, ◌<◌, List, length, refl, sym, arith}
use Rattle.std.proofs.lemmas.List.{length-replicate}
use Rattle.std.proofs.lemmas.List.Elements.{All-nil}
use Rattle.fc_base.specs.Pools.{Pool}
use Rattle.fc_books.specs.Books.{opened_books}
use Rattle.fc_books.specs.Sound.{AreSound}
use Rattle.fc_decided.proofs.Lists.{none_in}
use Rattle.fc_legal.specs.Stands.{Stands}
use Rattle.fc_legal.specs.Whole.{lanes, opened}
use Rattle.fc_sheets.proofs.Lawful.{none_sound}

books_sound : (pools : List Pool) → AreSound (opened_books pools)
books_sound pools =
    record {
      tables = record {
        volumes = record { rising = λ i j x ij jl. absurd (omega arith); distinct = λ i j x ij jl. absurd (omega arith) };
        mappings = record { rising = λ i j x ij jl. absurd (omega arith); distinct = λ i j x ij jl. absurd (omega arith) };
        groups = record { rising = λ i j x ij jl. absurd (omega arith); distinct = λ i j x ij jl. absurd (omega arith) };
        new_volume = All-nil _;
        new_mapping = All-nil _;
        new_group = All-nil _;
      };
      flags = record { rising = λ i j x ij jl. absurd (omega arith); given = All-nil _ };
      sheet = none_sound;
      agree = record {
        volumes = λ v found. absurd (none_in v found);
        slots = λ k lt. absurd (omega arith);
        owned = λ k lt. absurd (omega arith);
        mappings = λ m found. absurd (none_in m found);
        by_state = λ m found. absurd (none_in m found);
        one_busy = λ m n found. absurd (none_in m found);
      };
    }

-- Each pool is a lane's.
pub lanes_told : (pools : List Pool) → lanes (opened pools) ≡ length pools
lanes_told pools = length-replicate (length pools) 0

pub opening_stands : (pools : List Pool) → 0 < length pools → Stands 0 (opened pools)
opening_stands pools some =
    record {
      sound = books_sound pools;
      few = record {
        volumes = omega arith;
        mappings = omega arith;
        groups = omega arith;
        births = omega arith;
        at_once = omega arith;
        volumes_at_once = omega arith;
      };
      plain = tt;
      each_lane = record { some = omega (arith, some, lanes_told pools); pools = sym (lanes_told pools); calls = refl };
      firsts = λ j k jl kl live mapping chain. absurd (omega arith);
      rows = record { each = All-nil _; distinct = λ i j x ij jl. absurd (omega arith) };
    }
