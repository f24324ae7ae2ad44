-- The work flags of the mappings of one lane, in order of id.
use Rattle.std.specs.Prelude.{ℕ, ◌<◌, Bool, not, ◌||◌, ◌==◌, nat_lt, List, [], ◌∷◌, ◌++◌, filter, map, AllPairs}
use Rattle.std.specs.List.{list_any}
use Rattle.fc_base.specs.declared.ids.MapId.{MapId}
use Rattle.fc_pick.specs.declared.work.WorkFlags.{WorkFlags}

-- The mappings that have a flag, and the numbers of those that are known.
pub record WorkState : Type 0 where
  pub flags : List WorkFlags
  pub known : List ℕ

-- the ids of the mappings rise
abbrev pub AreByMapping : List WorkFlags → Type 0
AreByMapping rows = AllPairs (λ x y. x.map.0 < y.map.0) rows

abbrev pub is_flagged : WorkFlags → Bool
is_flagged row = row.copies || row.cleans

-- what the rows of all known mappings stand for
abbrev pub rows_state : List WorkFlags → WorkState
rows_state rows = record { flags = filter is_flagged rows; known = map (λ row. row.map.0) rows }

-- those with a lower id, and those with a higher one
abbrev pub before : ℕ → List WorkFlags → List WorkFlags
before m rows = filter (λ row. nat_lt row.map.0 m) rows

abbrev pub behind : ℕ → List WorkFlags → List WorkFlags
behind m rows = filter (λ row. nat_lt m row.map.0) rows

-- whether the mapping has a row
abbrev pub has_mapping : ℕ → List WorkFlags → Bool
has_mapping m rows = list_any (λ row. m == row.map.0) rows

-- the row stands at its place by id, for the one that its mapping had
abbrev pub with_row : WorkFlags → List WorkFlags → List WorkFlags
with_row row rows = before row.map.0 rows ++ row ∷ behind row.map.0 rows

-- The flags of one mapping are these, and it stands at its place by id if it has one.
abbrev pub with_flags : WorkFlags → List WorkFlags → List WorkFlags
with_flags row flags = before row.map.0 flags ++ filter is_flagged (row ∷ []) ++ behind row.map.0 flags

-- The mapping has no flag.
abbrev pub without_flags : MapId → List WorkFlags → List WorkFlags
without_flags m flags = filter (λ row. not (m.0 == row.map.0)) flags

-- The number is among the known ones, and no more is.
abbrev pub is_known : MapId → List ℕ → Bool
is_known m known = list_any (λ k. m.0 == k) known

abbrev pub with_number : ℕ → List ℕ → List ℕ
with_number m known = filter (λ k. nat_lt k m) known ++ m ∷ filter (λ k. nat_lt m k) known

abbrev pub without_number : MapId → List ℕ → List ℕ
without_number m known = filter (λ k. not (m.0 == k)) known
