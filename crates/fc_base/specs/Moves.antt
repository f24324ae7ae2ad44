-- What has to be copied before a grain is overwritten, and in which order.
use Rattle.std.specs.Prelude.{◌≡◌, ℕ, zero, suc, ◌+◌, Bool, true, false, cond, not, ◌&&◌, ◌||◌, eqb, ltb, Option, Some, None, List, [], ◌∷◌, ◌++◌, is_none, reverse, fold, filter_map, option_to_list}
use Rattle.std.specs.List.{list_any}
use Rattle.fc_base.specs.Column.{Shape, Column, last_below, first_below, holder, first_reader, needer, is_old_of, old_holders}

-- Whether a slot is in a list.
abbrev pub is_in : ℕ → List ℕ → Bool
is_in k ks = list_any (eqb k) ks

-- A slot is filled in place where its holder is an old slot of its own volume: the physical grain is right already.
abbrev pub is_old_answer : Shape → ℕ → Option ℕ → Bool
is_old_answer s v None = false
is_old_answer s v (Some h) = is_old_of s v h

unfoldable pub is_in_place : Column → ℕ → Bool
is_in_place c m = is_old_answer c.shape (c.volume m) (holder c m)

-- What a slot asks for before it is filled: for each older slot of its volume that holds the grain, least birth first,
-- the needer of that slot. A slot in place asks for nothing.
unfoldable pub asks : Column → ℕ → List ℕ
asks c m = cond (is_in_place c m) [] (filter_map (needer c) (old_holders c (c.volume m)))

-- No slot of the chain behind `t`, up to `k`, holds the grain.
abbrev pub none_holds_behind : Column → ℕ → ℕ → Bool
none_holds_behind c t k = is_none (last_below (λ j. ltb t j && (eqb (c.chain j) (c.chain t) && c.held j)) (k + 1))

-- The first live slot behind `t` in its chain that lacks the grain, with no slot between them that holds it. For a source
-- this is its most recently started target, for a target the next older one.
unfoldable pub next_behind : Column → ℕ → Option ℕ
next_behind c t =
    first_below (λ k. ltb t k && (c.is_live k && (eqb (c.chain k) (c.chain t) && none_holds_behind c t k))) c.count

-- What a write asks for, with `t` the volume's live slot: for each older slot of the volume that holds the grain, least
-- birth first, the first live slot other than `t` that has it as holder; then the slot behind `t`.
unfoldable pub write_asks : Column → ℕ → List ℕ
write_asks c t = filter_map (first_reader c t) (old_holders c (c.volume t)) ++ option_to_list (next_behind c t)

-- The slots that must be filled: the least set that has the roots and what each of its members asks for. The root of a
-- fill is the slot itself, the roots of a write are what it asks for.
pub data Must (c : Column) (roots : List ℕ) : ℕ → Type 0 where
  root : {m : ℕ} → is_in m roots ≡ true → Must c roots m
  asked : {m a : ℕ} → Must c roots m → is_in a (asks c m) ≡ true → Must c roots a

-- Their order: a slot stands after all that it asks for, what one slot asks for is taken in turn, each with all that it
-- asks for before it, and no slot is listed twice. The list has the latest slot first; the depth bounds how often asking
-- leads on to asking, and the number of slots is always enough.
unfoldable pub list_with_asked : Column → ℕ → ℕ → List ℕ → List ℕ
list_with_asked c zero m listed = listed
list_with_asked c (suc depth) m listed =
    elim (is_in m listed) [ true ↦ listed | false ↦ m ∷ fold (λ before a. list_with_asked c depth a before) listed (asks c m) ]

unfoldable pub list_all_with_asked : Column → List ℕ → List ℕ
list_all_with_asked c roots = fold (λ before a. list_with_asked c c.count a before) [] roots

-- The moves of a fill of slot `m`, and of a write to the volume whose live slot is `t`, first move first.
unfoldable pub fill_moves : Column → ℕ → List ℕ
fill_moves c m = reverse (list_all_with_asked c (m ∷ []))

unfoldable pub write_moves : Column → ℕ → List ℕ
write_moves c t = reverse (list_all_with_asked c (write_asks c t))

-- The column after a slot of volume `v` got the grain by a copy to it or a write: the slot holds it, and no older slot
-- of the volume does any more.
unfoldable pub taken : Column → ℕ → Column
taken c m = record c { held = λ k. eqb k m || (c.held k && not (is_old_of c.shape (c.volume m) k)) }

-- The column after a move: in place the slot gets the pair and nothing else changes.
unfoldable pub moved : Column → ℕ → Bool → Column
moved c m in_place = cond in_place (record c { held = λ k. eqb k m || c.held k }) (taken c m)

-- The column after moves, each with the mark that it has on the column right before it.
unfoldable pub after_moves : Column → List ℕ → Column
after_moves c [] = c
after_moves c (m ∷ ms) = after_moves (moved c m (is_in_place c m)) ms

-- The column after a write to the volume whose live slot is `t`: the slot holds the grain, and no older slot of the volume
-- does any more.
abbrev pub written : Column → ℕ → Column
written c t = taken c t

-- The column after a write that failed and left any bytes in the volume's grain: each older slot of the volume loses it,
-- and the live slot gets the pair where what the volume showed is lost with it (`now`).
unfoldable pub torn : Column → ℕ → Bool → Column
torn c t now =
    record c { held = λ k. (now && eqb k t) || (c.held k && not (is_old_of c.shape (c.volume t) k)) }
