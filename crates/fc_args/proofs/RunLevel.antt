-- The options of a run, as `clap` walks over them.
use Rattle.std.proofs.Common.{◌≡◌, ◌∙◌, ℕ, Bool, true, false, cond, List, [], ◌∷◌, ◌++◌, Option, Some, None, is_some, fold, refl, sym, ap, subst, codes}
use Rattle.std.specs.Str.{bytes_eq}
use Rattle.clap.specs.Faults.{default_fault, defaults_fault, settle_fault, turn_fault, walk_fault}
use Rattle.clap.specs.Kinds.{or_else}
use Rattle.clap.specs.Simple.{Shape, filled}
use Rattle.clap.specs.Walk.{Row, Rule, Text, Walk, arg_by_long, first_of, has_row, idle, option, reading_by, settled_rows, used, walked, with_default}
use Rattle.clap.specs.declared.parser.matches.ValueSource.TheVariants.{CommandLine}
use Rattle.fc_args.specs.Grammar.{Given, Valued, Grain, Cache, give}
use Rattle.fc_args.specs.Matches.{given_in}
use Rattle.fc_args.specs.Program.{flag_rule, run_app, valued_rule}
use Rattle.fc_args.proofs.Verdicts.{fails, held, level_of, refused_at, step_of, verdict_of, walk_at}
use Rattle.fc_args.proofs.OptionSteps.{TakesOptions, all_ends}
use Rattle.fc_args.proofs.RowLemmas.{first_of-new, first_of-other, flag_other, flag_passes, flag_same, has_row-new, has_row-other, new_row, no_default, valued_passes, with_values-new}

-- ---- the level of a run

abbrev pub level : Shape
level = level_of run_app.top

abbrev pub rules : List Rule
rules = level.rules

abbrev pub name_of : Valued → Text
name_of Grain = codes "grain"
name_of Cache = codes "cache"

abbrev pub read_given : List Row → Option Given
read_given rows = Some (given_in rows)

abbrev pub verdict : Walk → List Text → Option Given
verdict = verdict_of level read_given

pub verdict_step : (w : Walk) (word : Text) (rest : List Text) → turn_fault level [] w word ≡ [] → verdict w (word ∷ rest) ≡ verdict (walked rules [] w word) rest
verdict_step = step_of level read_given

pub verdict_fails : (w : Walk) (word : Text) (rest : List Text) → fails (turn_fault level [] w word) ≡ true → verdict w (word ∷ rest) ≡ None
verdict_fails = refused_at level read_given

pub takes : TakesOptions level
takes = record { once = refl; leaf = refl; no_positional = refl }

-- ---- the rules of its options

abbrev grain_rule : Rule
grain_rule = filled (valued_rule (codes "grain"))

abbrev pub trace_rule : Rule
trace_rule = filled (flag_rule (codes "trace"))

abbrev cache_rule : Rule
cache_rule = filled (valued_rule (codes "cache"))

abbrev pub rule_of : Valued → Rule
rule_of o = filled (valued_rule (name_of o))

pub found_grain : (name : Text) → bytes_eq (codes "grain") name ≡ true → arg_by_long rules name ≡ Some grain_rule
found_grain name g = rw g refl

pub found_trace : (name : Text) → bytes_eq (codes "grain") name ≡ false → bytes_eq (codes "trace") name ≡ true → arg_by_long rules name ≡ Some trace_rule
found_trace name g t = rw (g, t) refl

pub found_cache : (name : Text) → bytes_eq (codes "grain") name ≡ false → bytes_eq (codes "trace") name ≡ false → bytes_eq (codes "cache") name ≡ true
    → arg_by_long rules name ≡ Some cache_rule
found_cache name g t c = rw (g, t, c) refl

pub found_none : (name : Text) → bytes_eq (codes "grain") name ≡ false → bytes_eq (codes "trace") name ≡ false → bytes_eq (codes "cache") name ≡ false
    → arg_by_long rules name ≡ None
found_none name g t c = rw (g, t, c) refl

-- ---- what was given so far, by the rows

pub record Shows (rows : List Row) (given : Given) : Type 0 where
  pub grain : first_of (codes "grain") rows ≡ given.grain
  pub has_grain : has_row (codes "grain") rows ≡ is_some given.grain
  pub has_trace : has_row (codes "trace") rows ≡ given.trace
  pub trace : first_of (codes "trace") rows ≡ cond given.trace (Some (codes "true")) None
  pub cache : first_of (codes "cache") rows ≡ given.cache
  pub has_cache : has_row (codes "cache") rows ≡ is_some given.cache

abbrev pub chosen : Valued → Given → Option Text
chosen Grain given = given.grain
chosen Cache given = given.cache

abbrev pub with_value : Valued → Text → Given → Given
with_value Grain value given = record given { grain = Some value }
with_value Cache value given = record given { cache = Some value }

pub give_is : (o : Valued) (value : Text) (given : Given) (b : Bool) → is_some (chosen o given) ≡ b → give o value given ≡ cond b None (Some (with_value o value given))
give_is Grain value given b e = rw e refl
give_is Cache value given b e = rw e refl

pub has_chosen : (o : Valued) (rows : List Row) (given : Given) → Shows rows given → has_row (name_of o) rows ≡ is_some (chosen o given)
has_chosen Grain rows given s = s.has_grain
has_chosen Cache rows given s = s.has_cache

used_valued : (o : Valued) (value : Text) (rows : List Row) → has_row (name_of o) rows ≡ false → used (rule_of o) (value ∷ []) rows ≡ rows ++ new_row (rule_of o) (value ∷ []) CommandLine ∷ []
used_valued Grain value rows none = with_values-new (codes "grain") (reading_by grain_rule) (value ∷ []) rows none
used_valued Cache value rows none = with_values-new (codes "cache") (reading_by cache_rule) (value ∷ []) rows none

pub shows_valued : (o : Valued) (value : Text) (rows : List Row) (given : Given) → Shows rows given → is_some (chosen o given) ≡ false → Shows (used (rule_of o) (value ∷ []) rows) (with_value o value given)
shows_valued Grain value rows given s none =
    let r : Row = new_row grain_rule (value ∷ []) CommandLine in
    let P : List Row → Type 0 = λ rs. Shows rs (with_value Grain value given) in
    subst P (sym (used_valued Grain value rows (s.has_grain ∙ none))) (record {
      grain = first_of-new (codes "grain") rows r (s.has_grain ∙ none) refl;
      has_grain = has_row-new (codes "grain") rows r refl;
      has_trace = has_row-other (codes "trace") rows r refl ∙ s.has_trace;
      trace = first_of-other (codes "trace") rows r refl ∙ s.trace;
      cache = first_of-other (codes "cache") rows r refl ∙ s.cache;
      has_cache = has_row-other (codes "cache") rows r refl ∙ s.has_cache;
    })
shows_valued Cache value rows given s none =
    let r : Row = new_row cache_rule (value ∷ []) CommandLine in
    let P : List Row → Type 0 = λ rs. Shows rs (with_value Cache value given) in
    subst P (sym (used_valued Cache value rows (s.has_cache ∙ none))) (record {
      grain = first_of-other (codes "grain") rows r refl ∙ s.grain;
      has_grain = has_row-other (codes "grain") rows r refl ∙ s.has_grain;
      has_trace = has_row-other (codes "trace") rows r refl ∙ s.has_trace;
      trace = first_of-other (codes "trace") rows r refl ∙ s.trace;
      cache = first_of-new (codes "cache") rows r (s.has_cache ∙ none) refl;
      has_cache = has_row-new (codes "cache") rows r refl;
    })

pub shows_trace : (rows : List Row) (given : Given) → Shows rows given → given.trace ≡ false → Shows (used trace_rule [] rows) (record given { trace = true })
shows_trace rows given s none =
    let r : Row = new_row trace_rule (codes "true" ∷ []) CommandLine in
    let P : List Row → Type 0 = λ rs. Shows rs (record given { trace = true }) in
    subst P (sym (with_values-new (codes "trace") (reading_by trace_rule) (codes "true" ∷ []) rows (s.has_trace ∙ none))) (record {
      grain = first_of-other (codes "grain") rows r refl ∙ s.grain;
      has_grain = has_row-other (codes "grain") rows r refl ∙ s.has_grain;
      has_trace = has_row-new (codes "trace") rows r refl;
      trace = first_of-new (codes "trace") rows r (s.has_trace ∙ none) refl;
      cache = first_of-other (codes "cache") rows r refl ∙ s.cache;
      has_cache = has_row-other (codes "cache") rows r refl ∙ s.has_cache;
    })

-- ---- the end of the words

defaults_pass : (rows : List Row) → defaults_fault rows rules ≡ []
unfolding defaults_fault
defaults_pass rows =
    ap (λ ks. or_else ks (or_else (default_fault (with_default rows grain_rule) trace_rule) (or_else (default_fault (with_default (with_default rows grain_rule) trace_rule) cache_rule) []))) (valued_passes (codes "grain") rows)
    ∙ ap (λ ks. or_else ks (or_else (default_fault (with_default (with_default rows grain_rule) trace_rule) cache_rule) [])) (flag_passes (codes "trace") (with_default rows grain_rule))
    ∙ ap (λ ks. or_else ks []) (valued_passes (codes "cache") (with_default (with_default rows grain_rule) trace_rule))

given_same : (a b : Given) → a.grain ≡ b.grain → a.trace ≡ b.trace → a.cache ≡ b.cache → a ≡ b
given_same a b g t c = λ i. record { grain = g i; trace = t i; cache = c i }

with_trace_default : (rows : List Row) (given : Given) → Shows rows given → given_in (with_default rows trace_rule) ≡ given
with_trace_default rows given s =
    given_same _ given (flag_other (codes "trace") (codes "grain") rows refl ∙ s.grain) (flag_same (codes "trace") rows given.trace s.has_trace s.trace refl)
    (flag_other (codes "trace") (codes "cache") rows refl ∙ s.cache)

given_at_end : (rows : List Row) (given : Given) → Shows rows given → given_in (fold with_default rows rules) ≡ given
given_at_end rows given s =
    ap given_in (no_default (with_default (with_default rows grain_rule) trace_rule) cache_rule refl)
    ∙ ap (λ rs. given_in (with_default rs trace_rule)) (no_default rows grain_rule refl)
    ∙ with_trace_default rows given s

pub idle_ends : (rows : List Row) (pending : Option (Text × List Text)) (skip : ℕ) (given : Given) → settle_fault rules false (held rows pending skip) ≡ []
    → Shows (settled_rows rules pending rows) given → verdict (walk_at (held rows pending skip) idle) [] ≡ Some given
idle_ends rows pending skip given passes s =
    all_ends level takes read_given rows pending skip passes (defaults_pass (settled_rows rules pending rows)) refl ∙ ap Some (given_at_end (settled_rows rules pending rows) given s)

pub value_missing : (o : Valued) (rows : List Row) (skip : ℕ) → verdict (walk_at (held rows (Some (name_of o, [])) skip) (option (name_of o))) [] ≡ None
unfolding walk_fault
value_missing Grain rows skip = refl
value_missing Cache rows skip = refl
