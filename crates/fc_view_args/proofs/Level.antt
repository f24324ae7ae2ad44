-- The options, as `clap` has them, and what it says at the end of the words.
use Rattle.std.proofs.Common.{◌≡◌, ◌∙◌, ℕ, Bool, true, false, cond, List, [], ◌∷◌, Option, Some, None, is_some, fold, refl, sym, ap, subst, codes}
use Rattle.std.specs.Str.{bytes_eq}
use Rattle.clap.specs.Faults.{default_fault, defaults_fault, settle_fault, walk_fault}
use Rattle.clap.specs.Kinds.{or_else}
use Rattle.clap.specs.Simple.{filled}
use Rattle.clap.specs.Walk.{Row, Rule, Text, arg_by_long, first_of, has_row, idle, option, reading_by, settled_rows, used, with_default}
use Rattle.clap.specs.declared.parser.matches.ValueSource.TheVariants.{CommandLine}
use Rattle.fc_args.specs.Program.{flag_rule, valued_rule}
use Rattle.fc_args.proofs.OptionSteps.{TakesOptions, all_ends}
use Rattle.fc_args.proofs.RowLemmas.{first_of-new, first_of-other, flag_other, flag_passes, flag_same, has_row-new, has_row-other, new_row, no_default, valued_passes, with_values-new}
use Rattle.fc_args.proofs.Verdicts.{held, walk_at}
use Rattle.fc_view_args.specs.Grammar.{Given, give}
use Rattle.fc_view_args.specs.Matches.{given_in}
use Rattle.fc_view_args.proofs.Verdicts.{level, read_given, verdict}

abbrev pub rules : List Rule
rules = level.rules

pub takes : TakesOptions level
takes = record { once = refl; leaf = refl; no_positional = refl }

abbrev pub at_name : Text
at_name = codes "at"

abbrev pub at_filled : Rule
at_filled = filled (valued_rule (codes "at"))

abbrev pub svg_filled : Rule
svg_filled = filled (flag_rule (codes "svg"))

pub found_at : (name : Text) → bytes_eq (codes "at") name ≡ true → arg_by_long rules name ≡ Some at_filled
found_at name a = rw a refl

pub found_svg : (name : Text) → bytes_eq (codes "at") name ≡ false → bytes_eq (codes "svg") name ≡ true → arg_by_long rules name ≡ Some svg_filled
found_svg name a s = rw (a, s) refl

pub found_none : (name : Text) → bytes_eq (codes "at") name ≡ false → bytes_eq (codes "svg") name ≡ false → arg_by_long rules name ≡ None
found_none name a s = rw (a, s) refl

-- ---- what was given so far, by the rows

pub record Shows (rows : List Row) (given : Given) : Type 0 where
  pub at : first_of (codes "at") rows ≡ given.at
  pub has_at : has_row (codes "at") rows ≡ is_some given.at
  pub has_svg : has_row (codes "svg") rows ≡ given.svg
  pub svg : first_of (codes "svg") rows ≡ cond given.svg (Some (codes "true")) None

abbrev pub with_at : Text → Given → Given
with_at value given = record given { at = Some value }

abbrev pub with_svg : Given → Given
with_svg given = record given { svg = true }

pub give_is : (value : Text) (given : Given) (b : Bool) → is_some given.at ≡ b → give value given ≡ cond b None (Some (with_at value given))
give_is value given b e = rw e refl

pub shows_at : (value : Text) (rows : List Row) (given : Given) → Shows rows given → is_some given.at ≡ false → Shows (used at_filled (value ∷ []) rows) (with_at value given)
shows_at value rows given s none =
    let r : Row = new_row at_filled (value ∷ []) CommandLine in
    let P : List Row → Type 0 = λ rs. Shows rs (with_at value given) in
    subst P (sym (with_values-new (codes "at") (reading_by at_filled) (value ∷ []) rows (s.has_at ∙ none))) (record {
      at = first_of-new (codes "at") rows r (s.has_at ∙ none) refl;
      has_at = has_row-new (codes "at") rows r refl;
      has_svg = has_row-other (codes "svg") rows r refl ∙ s.has_svg;
      svg = first_of-other (codes "svg") rows r refl ∙ s.svg;
    })

pub shows_svg : (rows : List Row) (given : Given) → Shows rows given → given.svg ≡ false → Shows (used svg_filled [] rows) (with_svg given)
shows_svg rows given s none =
    let r : Row = new_row svg_filled (codes "true" ∷ []) CommandLine in
    let P : List Row → Type 0 = λ rs. Shows rs (with_svg given) in
    subst P (sym (with_values-new (codes "svg") (reading_by svg_filled) (codes "true" ∷ []) rows (s.has_svg ∙ none))) (record {
      at = first_of-other (codes "at") rows r refl ∙ s.at;
      has_at = has_row-other (codes "at") rows r refl ∙ s.has_at;
      has_svg = has_row-new (codes "svg") rows r refl;
      svg = first_of-new (codes "svg") rows r (s.has_svg ∙ none) refl;
    })

-- ---- the end of the words

defaults_pass : (rows : List Row) → defaults_fault rows rules ≡ []
unfolding defaults_fault
defaults_pass rows =
    ap (λ ks. or_else ks (or_else (default_fault (with_default rows at_filled) svg_filled) [])) (valued_passes (codes "at") rows)
    ∙ ap (λ ks. or_else ks []) (flag_passes (codes "svg") (with_default rows at_filled))

given_same : (a b : Given) → a.at ≡ b.at → a.svg ≡ b.svg → a ≡ b
given_same a b one two = λ i. record { at = one i; svg = two i }

with_svg_default : (rows : List Row) (given : Given) → Shows rows given → given_in (with_default rows svg_filled) ≡ given
with_svg_default rows given s = given_same _ given (flag_other (codes "svg") (codes "at") rows refl ∙ s.at) (flag_same (codes "svg") rows given.svg s.has_svg s.svg refl)

given_at_end : (rows : List Row) (given : Given) → Shows rows given → given_in (fold with_default rows rules) ≡ given
given_at_end rows given s = ap (λ rs. given_in (with_default rs svg_filled)) (no_default rows at_filled refl) ∙ with_svg_default rows given s

pub idle_ends : (rows : List Row) (pending : Option (Text × List Text)) (skip : ℕ) (given : Given) → settle_fault rules false (held rows pending skip) ≡ []
    → Shows (settled_rows rules pending rows) given → verdict (walk_at (held rows pending skip) idle) [] ≡ Some given
idle_ends rows pending skip given passes s =
    all_ends level takes read_given rows pending skip passes (defaults_pass (settled_rows rules pending rows)) refl ∙ ap Some (given_at_end (settled_rows rules pending rows) given s)

pub value_missing : (rows : List Row) (skip : ℕ) → verdict (walk_at (held rows (Some (at_name, [])) skip) (option at_name)) [] ≡ None
unfolding walk_fault
value_missing rows skip = refl
