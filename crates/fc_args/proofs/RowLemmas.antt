-- Rows that a use of an argument adds, and what `clap` adds at the end for one that isn't used.
use Rattle.std.proofs.Common.{◌≡◌, ◌∙◌, Bool, true, false, ◌||◌, cond, List, [], ◌∷◌, ◌++◌, append-nil, slice_get, Some, None, refl, ap, codes, true≢false}
use Rattle.std.specs.Str.{bytes_eq}
use Rattle.clap.specs.Faults.{default_fault, given_default_fault}
use Rattle.clap.specs.Kinds.{Kinds}
use Rattle.clap.specs.Simple.{filled}
use Rattle.clap.specs.Walk.{Row, Rule, Text, at_row, default_rows, first_of, has_row, more_values, reading_by, with_default, with_values, without}
use Rattle.clap.specs.declared.builder.value_parser.Reading.{Reading}
use Rattle.clap.specs.declared.parser.matches.ValueSource.{ValueSource}
use Rattle.clap.specs.declared.parser.matches.ValueSource.TheVariants.{CommandLine, DefaultValue}
use Rattle.fc_args.specs.Matches.{is_true}
use Rattle.fc_args.specs.Program.{flag_rule, valued_rule}

-- a row of an id that no row has
pub at_row-new : (id : Text) (change : Row → List Row) (missing rows : List Row) → has_row id rows ≡ false → at_row id change missing rows ≡ rows ++ missing
at_row-new id change missing [] none = refl
at_row-new id change missing (r ∷ rs) none = go (bytes_eq r.id id) (at_row-new id change missing rs) none
  where
    go : (b : Bool) → (has_row id rs ≡ false → at_row id change missing rs ≡ rs ++ missing) → (b || has_row id rs) ≡ false
        → cond b (change r ++ rs) (r ∷ at_row id change missing rs) ≡ r ∷ (rs ++ missing)
    go true next none = absurd (true≢false none)
    go false next none = ap (λ xs. r ∷ xs) (next none)

pub has_row-other : (x : Text) (rows : List Row) (r : Row) → bytes_eq r.id x ≡ false → has_row x (rows ++ r ∷ []) ≡ has_row x rows
has_row-other x [] r other = rw other refl
has_row-other x (s ∷ rows) r other = ap (λ b. bytes_eq s.id x || b) (has_row-other x rows r other)

pub has_row-new : (x : Text) (rows : List Row) (r : Row) → bytes_eq r.id x ≡ true → has_row x (rows ++ r ∷ []) ≡ true
has_row-new x [] r same = rw same refl
has_row-new x (s ∷ rows) r same = go (bytes_eq s.id x) (has_row-new x rows r same)
  where
    go : (b : Bool) → has_row x (rows ++ r ∷ []) ≡ true → (b || has_row x (rows ++ r ∷ [])) ≡ true
    go true e = refl
    go false e = e

pub first_of-other : (x : Text) (rows : List Row) (r : Row) → bytes_eq r.id x ≡ false → first_of x (rows ++ r ∷ []) ≡ first_of x rows
first_of-other x [] r other = rw other refl
first_of-other x (s ∷ rows) r other = go (bytes_eq s.id x) refl (first_of-other x rows r other)
  where
    go : (b : Bool) → bytes_eq s.id x ≡ b → first_of x (rows ++ r ∷ []) ≡ first_of x rows → first_of x (s ∷ (rows ++ r ∷ [])) ≡ first_of x (s ∷ rows)
    go true e next = rw e refl
    go false e next = rw e next

pub first_of-new : (x : Text) (rows : List Row) (r : Row) → has_row x rows ≡ false → bytes_eq r.id x ≡ true → first_of x (rows ++ r ∷ []) ≡ slice_get r.values 0
first_of-new x [] r none same = rw same refl
first_of-new x (s ∷ rows) r none same = go (bytes_eq s.id x) refl none (first_of-new x rows r)
  where
    go : (b : Bool) → bytes_eq s.id x ≡ b → (b || has_row x rows) ≡ false
        → (has_row x rows ≡ false → bytes_eq r.id x ≡ true → first_of x (rows ++ r ∷ []) ≡ slice_get r.values 0)
        → first_of x (s ∷ (rows ++ r ∷ [])) ≡ slice_get r.values 0
    go true e none next = absurd (true≢false none)
    go false e none next = rw e (next none same)

abbrev pub new_row : Rule → List Text → ValueSource → Row
new_row a values source = record { id = a.id; values = values; count = None; source = Some source; reading = reading_by a }

pub with_values-new : (id : Text) (how : Reading) (values : List Text) (rows : List Row) → has_row id rows ≡ false
    → with_values id how CommandLine values (without id rows) ≡ rows ++ record { id = id; values = values; count = None; source = Some CommandLine; reading = how } ∷ []
with_values-new id how values rows none =
    ap (λ rs. with_values id how CommandLine values rs) (at_row-new id (λ _. []) [] rows none ∙ append-nil rows)
    ∙ at_row-new id (more_values CommandLine values) (record { id = id; values = values; count = None; source = Some CommandLine; reading = how } ∷ []) rows none

pub no_default : (rows : List Row) (a : Rule) → a.defaults ≡ [] → with_default rows a ≡ rows
no_default rows a none = go (has_row a.id rows)
  where
    go : (b : Bool) → cond b rows (default_rows a.id (reading_by a) a.defaults rows) ≡ rows
    go true = refl
    go false = ap (λ ds. default_rows a.id (reading_by a) ds rows) none

or_nothing : (b c : Bool) (ks : Kinds) → cond c [] ks ≡ [] → cond (b || c) [] ks ≡ []
or_nothing true c ks e = refl
or_nothing false c ks e = e

pub valued_passes : (id : Text) (rows : List Row) → default_fault rows (filled (valued_rule id)) ≡ []
valued_passes id rows = or_nothing (has_row id rows) true (given_default_fault (filled (valued_rule id)) []) refl

pub flag_passes : (id : Text) (rows : List Row) → default_fault rows (filled (flag_rule id)) ≡ []
flag_passes id rows = or_nothing (has_row id rows) false [] refl

pub flag_default : (id : Text) (rows : List Row) → has_row id rows ≡ false
    → with_default rows (filled (flag_rule id)) ≡ rows ++ new_row (filled (flag_rule id)) (codes "false" ∷ []) DefaultValue ∷ []
flag_default id rows none =
    rw none (at_row-new id (more_values DefaultValue (codes "false" ∷ [])) (new_row (filled (flag_rule id)) (codes "false" ∷ []) DefaultValue ∷ []) rows none)

-- what is found at the end under another name, and of the flag itself
pub flag_other : (id x : Text) (rows : List Row) → bytes_eq id x ≡ false → first_of x (with_default rows (filled (flag_rule id))) ≡ first_of x rows
flag_other id x rows other = go (has_row id rows) refl
  where
    go : (b : Bool) → has_row id rows ≡ b → first_of x (with_default rows (filled (flag_rule id))) ≡ first_of x rows
    go true e = rw e refl
    go false e = ap (first_of x) (flag_default id rows e) ∙ first_of-other x rows (new_row (filled (flag_rule id)) (codes "false" ∷ []) DefaultValue) other

pub flag_same : (id : Text) (rows : List Row) (b : Bool) → has_row id rows ≡ b → first_of id rows ≡ cond b (Some (codes "true")) None → bytes_eq id id ≡ true
    → is_true (first_of id (with_default rows (filled (flag_rule id)))) ≡ b
flag_same id rows true has first same = rw has (ap is_true first)
flag_same id rows false has first same =
    ap (λ rs. is_true (first_of id rs)) (flag_default id rows has) ∙ ap is_true (first_of-new id rows (new_row (filled (flag_rule id)) (codes "false" ∷ []) DefaultValue) has same)
