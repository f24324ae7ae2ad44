-- What words ask for is built.
use Rattle.std.proofs.Common.{◌≡◌, ℕ, Bool, true, false, List, Option, Some, None, cond, refl, subst}
use Rattle.std.proofs.lemmas.Bool.{false≢true}
use Rattle.std.specs.Prelude.{option_and_then, is_some, not}
use Rattle.fc_args.specs.Grammar.{asked_by, if_built, in_full, is_offered}
use Rattle.fc_args.specs.declared.asked.Asked.{Asked}
use Rattle.fc_args.specs.declared.asked.Asked.TheVariants.{Run}
use Rattle.fc_args.specs.declared.asked.RunOptions.{RunOptions}

built_if : (of asked : Asked) (built : Bool) → is_offered of ≡ built → cond built (Some of) None ≡ Some asked → is_offered asked ≡ true
built_if of asked true built is =
    let same : of ≡ asked = cc is in
    let P : Asked → Type 0 = λ a. is_offered a ≡ true in
    subst P same built
built_if of asked false built is =
    let none : None ≡ Some asked = is in
    absurd (cc none)

built_of : (full : Option Asked) (asked : Asked) → option_and_then if_built full ≡ Some asked → is_offered asked ≡ true
built_of None asked is =
    let none : None ≡ Some asked = is in
    absurd (cc none)
built_of (Some of) asked is = built_if of asked (is_offered of) refl is

pub asked-built : (words : List (List ℕ)) (asked : Asked) → asked_by words ≡ Some asked → is_offered asked ≡ true
asked-built words asked is = built_of (in_full words) asked is

-- a run that is built has no write cache
none_cached : (cache : Option ℕ) → not (is_some cache) ≡ true → cache ≡ None
none_cached None built = refl
none_cached (Some parts) built = absurd (false≢true built)

pub run-uncached : (options : RunOptions) → is_offered (Run options) ≡ true → options.cache ≡ None
run-uncached options built = none_cached options.cache built
