-- A group that is made, or refused.
use Rattle.std.proofs.Common.{◌≡◌, ◌∙◌, sym, ap, ℕ, Bool, List, [], ◌∷◌, length, nat_le, Option, Some, None, codes, refl}
use Rattle.fc_base.specs.declared.command.Command.TheVariants.{Mkfcconsistgrp}
use Rattle.fc_base.specs.declared.decision.Decision.{Decision}
use Rattle.fc_base.specs.declared.fault.Kind.TheVariants.{Group as OfGroups}
use Rattle.fc_base.specs.declared.fault.Refusal.{Refusal}
use Rattle.fc_base.specs.declared.fault.Refusal.TheVariants.{Limit}
use Rattle.fc_base.specs.declared.request.Reply.TheVariants.{Made, Refused}
use Rattle.fc_base.specs.declared.size.GrainSize.{GrainSize}
use Rattle.fc_books.specs.Books.{Books, nothing}
use Rattle.fc_books.specs.Deciding.{decide, answered, with_work}
use Rattle.fc_books.specs.Making.{group_name, make_group}
use Rattle.fc_books.specs.Refused.{mkfcconsistgrp_refused, name_taken}
use Rattle.fc_desk.specs.Names.{name_or}
use Rattle.fc_entry.specs.Refused.{first_of, where_}

group_name-or : (given : Option (List ℕ)) (id : ℕ) → group_name given id ≡ name_or given (codes "fccstgrp") id
group_name-or None id = refl
group_name-or (Some name) id = refl

abbrev refused_with : Books → List ℕ → Option Refusal
refused_with b name = first_of (where_ (nat_le 64 (length b.tables.groups)) (Limit 64) ∷ name_taken b OfGroups name ∷ [])

-- the refusal by the name as it was made
by_name : (b : Books) (given : Option (List ℕ)) (name : List ℕ) → name ≡ name_or given (codes "fccstgrp") b.next_group → mkfcconsistgrp_refused b given ≡ mkfcconsistgrp_refused b (Some name)
by_name b given name e = ap (refused_with b) (group_name-or given b.next_group ∙ sym e)

pub group_refused :
    (restarts : ℕ → List Bool) (grain : GrainSize) (b : Books) (given : Option (List ℕ)) (name : List ℕ) (found : Option Refusal) (refusal : Refusal) (decision : Decision) →
    name ≡ name_or given (codes "fccstgrp") b.next_group → found ≡ mkfcconsistgrp_refused b (Some name) → found ≡ Some refusal →
    decision ≡ with_work restarts b (Refused refusal) nothing →
    decision ≡ decide restarts grain b (Mkfcconsistgrp given) None
group_refused restarts grain b given name found refusal decision name_is found_is is decision_is =
    decision_is ∙ sym (ap (λ o. answered restarts grain b (Mkfcconsistgrp given) o None) (by_name b given name name_is ∙ sym found_is ∙ is))

pub group_made :
    (restarts : ℕ → List Bool) (grain : GrainSize) (b : Books) (given : Option (List ℕ)) (name : List ℕ) (found : Option Refusal) (decision : Decision) →
    name ≡ name_or given (codes "fccstgrp") b.next_group → found ≡ mkfcconsistgrp_refused b (Some name) → found ≡ None →
    decision ≡ with_work restarts b (Made OfGroups b.next_group) (make_group record { id = record { 0 = b.next_group }; name = name }) →
    decision ≡ decide restarts grain b (Mkfcconsistgrp given) None
group_made restarts grain b given name found decision name_is found_is is decision_is =
    decision_is
    ∙ ap (λ n. with_work restarts b (Made OfGroups b.next_group) (make_group record { id = record { 0 = b.next_group }; name = n }))
    (name_is ∙ sym (group_name-or given b.next_group))
    ∙ sym (ap (λ o. answered restarts grain b (Mkfcconsistgrp given) o None) (by_name b given name name_is ∙ sym found_is ∙ is))
