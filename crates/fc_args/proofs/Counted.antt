-- A stop that words ask for is at a call that is counted.
use Rattle.std.proofs.Common.{◌≡◌, ◌<◌, ℕ, ◌^◌, ◌&&◌, Bool, true, false, List, [], ◌∷◌, length, Option, Some, None, cond, refl, subst, arith}
use Rattle.std.specs.Prelude.{codes, nat_le, nat_lt, option_and_then, option_map}
use Rattle.std.proofs.lemmas.Bool.{leb-true}
use Rattle.std.specs.Str.{bytes_eq}
use Rattle.std.specs.Str.Parse.{digits_value}
use Rattle.fc_args.specs.Grammar.{Word, alone, asked_by, check_by, command_by, drill_number, if_built, in_full, is_offered, run_by, stop_call}
use Rattle.fc_args.specs.declared.asked.Asked.{Asked}
use Rattle.fc_args.specs.declared.asked.Asked.TheVariants.{Drill, Run, Stop}
use Rattle.fc_args.specs.declared.asked.RunOptions.{RunOptions}
use Rattle.fc_words.specs.Values.{is_numeral}

in_full_of : (full : Option Asked) (asked : Asked) → option_and_then if_built full ≡ Some asked → full ≡ Some asked
in_full_of None asked is = absurd (let none : None ≡ Some asked = is in cc none)
in_full_of (Some of) asked is = by (is_offered of) is
  where
    by : (built : Bool) → cond built (Some of) None ≡ Some asked → Some of ≡ Some asked
    by true e = e
    by false e = absurd (cc e)

from_one : (word : Word) (n : ℕ) → stop_call word ≡ Some n → 0 < n
from_one word n is = by (nat_le (length word) 20) (is_numeral word) (nat_le 1 (digits_value 10 word)) refl (nat_lt (digits_value 10 word) (2 ^ 32)) is
  where
    by : (a b c : Bool) → nat_le 1 (digits_value 10 word) ≡ c → (d : Bool) → cond (a && (b && (c && d))) (Some (digits_value 10 word)) None ≡ Some n → 0 < n
    by true true true least true e =
        let same : digits_value 10 word ≡ n = cc e in
        subst (λ (x : ℕ). 0 < x) same (omega (arith, leb-true 1 (digits_value 10 word) least))
    by true true true least false e = absurd (cc e)
    by true true false least d e = absurd (cc e)
    by true false c least d e = absurd (cc e)
    by false b c least d e = absurd (cc e)

alone_from_one : (words : List Word) (n : ℕ) → option_map Stop (option_and_then stop_call (alone words)) ≡ Some (Stop n) → 0 < n
alone_from_one words n is = by (option_and_then stop_call (alone words)) refl is
  where
    of : (word : Option Word) (m : ℕ) → option_and_then stop_call word ≡ Some m → 0 < m
    of None m e = absurd (cc e)
    of (Some word) m e = from_one word m e

    by : (o : Option ℕ) → option_and_then stop_call (alone words) ≡ o → option_map Stop o ≡ Some (Stop n) → 0 < n
    by None e x = absurd (cc x)
    by (Some m) e x =
        let same : m ≡ n = cc x in
        subst (λ (k : ℕ). 0 < k) same (of (alone words) m e)

no_run : (o : Option RunOptions) (n : ℕ) → option_map Run o ≡ Some (Stop n) → ⊥
no_run None n e = cc e
no_run (Some options) n e = cc e

no_drill : (o : Option ℕ) (n : ℕ) → option_map Drill o ≡ Some (Stop n) → ⊥
no_drill None n e = cc e
no_drill (Some number) n e = cc e

no_check : (words : List Word) (n : ℕ) → check_by words ≡ Some (Stop n) → ⊥
no_check [] n e = cc e
no_check (word ∷ words) n e = cc e

counted_by : (name : Word) (words : List Word) (n : ℕ) → command_by name words ≡ Some (Stop n) → 0 < n
counted_by name words n is = by (bytes_eq (codes "run") name) (bytes_eq (codes "drill") name) (bytes_eq (codes "check") name) (bytes_eq (codes "stop") name) is
  where
    by : (a b c d : Bool) →
        cond a (option_map Run (run_by words)) (cond b (option_map Drill (option_and_then drill_number (alone words))) (cond c (check_by words)
        (cond d (option_map Stop (option_and_then stop_call (alone words))) None))) ≡ Some (Stop n) → 0 < n
    by true b c d e = absurd (no_run (run_by words) n e)
    by false true c d e = absurd (no_drill (option_and_then drill_number (alone words)) n e)
    by false false true d e = absurd (no_check words n e)
    by false false false true e = alone_from_one words n e
    by false false false false e = absurd (cc e)

pub counted : (words : List Word) (n : ℕ) → asked_by words ≡ Some (Stop n) → 0 < n
counted words n is = of words (in_full_of (in_full words) (Stop n) is)
  where
    of : (ws : List Word) → in_full ws ≡ Some (Stop n) → 0 < n
    of [] e = absurd (cc e)
    of (name ∷ rest) e = counted_by name rest n e
