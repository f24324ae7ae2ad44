-- An account grows by calls that come one after the other.
use Rattle.std.proofs.Common.{◌≡◌, Bool, true, List, [], ◌++◌, map, sym, ap, ◌∙◌, append_assoc}
use Rattle.std.proofs.lemmas.List.{append-nil, map-append}
use Rattle.fc_metadisk.specs.Calls.{Made}
use Rattle.meta_steps.specs.declared.kept.Kept.{Kept}
use Rattle.meta_steps.specs.Account.{kept_of, HasKept}

pub kept_none : (account : List Kept) (whole : Bool) → HasKept account whole [] account whole
kept_none account whole is = (is, sym (append-nil account))

pub kept_both : (a b c : List Kept) (i j k : Bool) (first rest : List Made) → HasKept a i first b j → HasKept b j rest c k → HasKept a i (first ++ rest) c k
kept_both a b c i j k first rest one two is =
    let second = two is in
    let begun = one second.0 in (
      begun.0,
      second.1 ∙ (ap (λ (z : List Kept). z ++ map kept_of rest) begun.1
          ∙ (append_assoc a (map kept_of first) (map kept_of rest) ∙ ap (λ (z : List Kept). a ++ z) (sym (map-append kept_of first rest)))),
    )
