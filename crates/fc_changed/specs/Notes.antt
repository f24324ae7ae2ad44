-- What is noted of volumes that incremental mappings name.
use Rattle.std.specs.Prelude.{ℕ, Bool, false, ◌&&◌, ◌||◌, ◌==◌, List, map, slice_index_or, Option}
use Rattle.std.specs.List.{range_with_len}

-- What happened, in order. Grains are counted from 0.
pub data Note : Type 0 where
  -- a trigger of the mapping: the target became a copy of the source. Of an incremental mapping their number of grains is
  -- told, and it is followed from its first trigger on.
  Began : (map source target : ℕ) (followed : Option ℕ) → Note
  -- the volume's grain was written, or a failed write spoiled it
  Wrote : (volume grain : ℕ) → Note
  -- a copy to the volume left its chain: where it didn't hold the grain, the volume shows something else now
  Left : (target : ℕ) (held : List Bool) → Note
  -- the volume was cut: a copy to it left incomplete
  Cut : (target : ℕ) → Note
  -- the mapping is followed no more
  Forgotten : (map : ℕ) → Note

-- the grain is in the set; none past the last is
abbrev pub has : List Bool → ℕ → Bool
has grains g = slice_index_or grains g false

-- the set of those of n grains that pass
abbrev pub grains_with : (ℕ → Bool) → ℕ → List Bool
grains_with test n = map test (range_with_len 0 n)

-- whether two volumes are these two, in either direction; and whether a volume is one of these
abbrev pub joins : (a b source target : ℕ) → Bool
joins a b source target = ((source == a) && (target == b)) || ((source == b) && (target == a))

abbrev pub names : (a b volume : ℕ) → Bool
names a b volume = (volume == a) || (volume == b)
