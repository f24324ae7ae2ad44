-- The law of scripts.
use Rattle.std.specs.Prelude.{◌≡◌, ◌≢◌, ℕ, List, ◌∷◌, All, Contains, codes}
use Rattle.fc_base.specs.declared.size.GrainSize.{GrainSize}
use Rattle.fc_blocks.specs.Segments.{Segment, together, cut}
use Rattle.fc_blocks.specs.declared.block.ActorRead.{ActorRead}
use Rattle.fc_blocks.specs.declared.block.BlockRead.{BlockRead}
use Rattle.fc_books.specs.Books.{Books}
use Rattle.fc_entry.specs.declared.entry.Entry.{Entry}
use Rattle.fc_legal.specs.Agenda.{Reading}
use Rattle.fc_legal.specs.Legal.{AreSteps}
use Rattle.fc_legal.specs.Scripts.{Script, names_with, scripts_of}
use Rattle.fc_legal.specs.Whole.{Whole}
use Rattle.fc_scripts.specs.Actors.{AreAll, AreFirst, WantMore}
use Rattle.fc_scripts.specs.Ways.{AreOfDifferent, IsAsking, IsInto, IsThrough, numbers_of}

-- How far a way goes from a block's scripts.
abbrev pub HowFar : Type 1
HowFar = GrainSize → Reading → List Script → List Segment → Whole → List Entry → Whole → Type 0

-- Of scripts of different actors: the entries of such a way are right, and this holds of them; and where it holds of entries that
-- are right, they are such a way. It says nothing of the order in which actors come.
abbrev pub OfWays : HowFar → (List Script → List Entry → Type 0) → Type 0
OfWays Way Holds =
    (grain : GrainSize) (read : Reading) (scripts : List Script) (segs : List Segment) (w last : Whole) (entries : List Entry) → AreOfDifferent scripts →
    (Way grain read scripts segs w entries last → AreSteps grain w entries last × Holds scripts entries)
    × (AreSteps grain w entries last → Holds scripts entries → Way grain read scripts segs w entries last)

pub record ScriptsLaw : Type 0 where
  -- scripts go by the volumes: books with the same ones give the same scripts
  pub fixed : (grain : GrainSize) (lanes : ℕ) (b c : Books) (names : List (List ℕ)) (actors : List ActorRead) → b.tables.volumes ≡ c.tables.volumes →
      scripts_of grain lanes b names actors ≡ scripts_of grain lanes c names actors
  -- the scripts of every block are of different actors, and none is of `main`, whose name is the first
  pub differ : (lines : List (List ℕ)) (block : BlockRead) (grain : GrainSize) (lanes : ℕ) (b : Books) (names : List (List ℕ)) →
      Contains (cut lines).segments (together block) → AreOfDifferent (scripts_of grain lanes b (names_with names block.actors) block.actors)
  pub not_main : (lines : List (List ℕ)) (block : BlockRead) (grain : GrainSize) (lanes : ℕ) (b : Books) (names : List (List ℕ)) →
      Contains (cut lines).segments (together block) →
      All (λ number. number ≢ 0) (numbers_of (scripts_of grain lanes b (names_with (codes "main" ∷ names) block.actors) block.actors))
  -- all entries are a first part, with nothing left
  pub whole : (scripts : List Script) (entries : List Entry) → AreAll scripts entries → AreFirst scripts entries
  -- a way through a block is all that its scripts ask; a way into it, a first part; and one that is asked on, a part that wants one more
  pub through : OfWays IsThrough AreAll
  pub into : OfWays IsInto AreFirst
  pub asking : OfWays IsAsking WantMore
