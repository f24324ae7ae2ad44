-- What is asked for, and the list of it.
use Rattle.std.proofs.Common.{◌≡◌, ℕ, zero, suc, ◌+◌, ◌-◌, ◌<◌, ◌≤◌, true, false, Option, List, [], ◌∷◌, ◌++◌, reverse, take, length, get_or, refl, sym, ap, ◌∙◌, arith}
use Rattle.std.specs.Prelude.{filter_map, option_to_list}
use Rattle.std.specs.List.{fold}
use Rattle.std.proofs.lemmas.List.{take_all}
use Rattle.std.proofs.lemmas.List.Sums.{fold_more}
use Rattle.fc_base.specs.Column.{Column, first_reader, needer, old_holders}
use Rattle.fc_base.specs.Moves.{is_in, is_in_place, asks, next_behind, write_asks, list_with_asked, list_all_with_asked, fill_moves, write_moves}

pub asks_in_place : (c : Column) (m : ℕ) (items : List ℕ) → true ≡ is_in_place c m → items ≡ [] → items ≡ asks c m
unfolding asks
asks_in_place c m items t e = e ∙ rw (sym t) refl

pub asks_others : (c : Column) (m v : ℕ) (olds items : List ℕ) → false ≡ is_in_place c m → v ≡ c.volume m → olds ≡ old_holders c v → items ≡ filter_map (needer c) olds → items ≡ asks c m
unfolding asks
asks_others c m v olds items f q o e = e ∙ (ap (filter_map (needer c)) (o ∙ ap (old_holders c) q) ∙ rw (sym f) refl)

pub write_asked : (c : Column) (t v : ℕ) (olds readers items : List ℕ) (next : Option ℕ) → v ≡ c.volume t → olds ≡ old_holders c v → readers ≡ filter_map (first_reader c t) olds → next ≡ next_behind c t →
    items ≡ readers ++ option_to_list next → items ≡ write_asks c t
unfolding write_asks
write_asked c t v olds readers items next q o r n e =
    e ∙ (ap (λ z. z ++ option_to_list next) (r ∙ ap (filter_map (first_reader c t)) (o ∙ ap (old_holders c) q)) ∙ ap (λ z. filter_map (first_reader c t) (old_holders c (c.volume t)) ++ option_to_list z) n)

pub list_zero : (c : Column) (depth m : ℕ) (listed : List ℕ) → depth ≡ 0 → listed ≡ list_with_asked c depth m listed
unfolding list_with_asked
list_zero c depth m listed e = rw e refl

list_again_at : (c : Column) (depth m : ℕ) (listed : List ℕ) → is_in m listed ≡ true → list_with_asked c (suc depth) m listed ≡ listed
unfolding list_with_asked
list_again_at c depth m listed e = rw (e, list_with_asked) refl

list_new_at : (c : Column) (depth m : ℕ) (listed : List ℕ) → is_in m listed ≡ false → list_with_asked c (suc depth) m listed ≡ m ∷ fold (λ before a. list_with_asked c depth a before) listed (asks c m)
unfolding list_with_asked
list_new_at c depth m listed e = rw (e, list_with_asked) refl

pub list_again : (c : Column) (depth m : ℕ) (listed : List ℕ) → is_in m listed ≡ true → listed ≡ list_with_asked c depth m listed
list_again c zero m listed e = list_zero c zero m listed refl
list_again c (suc depth) m listed e = sym (list_again_at c depth m listed e)

abbrev pub listed_from : Column → ℕ → List ℕ → List ℕ → List ℕ
listed_from c depth listed asked = fold (λ before a. list_with_asked c depth a before) listed asked

pub list_new : (c : Column) (depth m : ℕ) (listed asked now new : List ℕ) (n : ℕ) → 0 < depth → false ≡ is_in m listed → asked ≡ asks c m → now ≡ listed_from c (depth - 1) listed (take n asked) → length asked ≤ n → new ≡ m ∷ now →
    new ≡ list_with_asked c depth m listed
list_new c zero m listed asked now new n p f q e le r = absurd (omega arith)
list_new c (suc depth) m listed asked now new n p f q e le r =
    let d : suc depth - 1 ≡ depth = omega arith in
    r ∙ (ap (λ z. m ∷ z) (e ∙ (ap (λ k. listed_from c k listed (take n asked)) d ∙ (ap (listed_from c depth listed) (take_all n asked le) ∙ ap (listed_from c depth listed) q))) ∙ sym (list_new_at c depth m listed (sym f)))

pub list_more : (c : Column) (depth : ℕ) (listed asked now new : List ℕ) (i : ℕ) → i < length asked → now ≡ listed_from c depth listed (take i asked) → new ≡ list_with_asked c depth (get_or asked i 0) now →
    new ≡ listed_from c depth listed (take (i + 1) asked)
list_more c depth listed asked now new i lt e q =
    q ∙ (ap (list_with_asked c depth (get_or asked i 0)) e ∙ (sym (fold_more (λ before b. list_with_asked c depth b before) listed asked i 0 lt)))

pub list_done : (c : Column) (depth : ℕ) (roots now : List ℕ) (n : ℕ) → depth ≡ c.count → now ≡ listed_from c depth [] (take n roots) → length roots ≤ n → now ≡ list_all_with_asked c roots
unfolding list_all_with_asked
list_done c depth roots now n d e le = e ∙ (ap (listed_from c depth []) (take_all n roots le) ∙ ap (λ k. listed_from c k [] roots) d)

pub fill_all : (c : Column) (m : ℕ) → reverse (list_all_with_asked c (m ∷ [])) ≡ fill_moves c m
unfolding fill_moves
fill_all c m = refl

pub write_all : (c : Column) (t : ℕ) → reverse (list_all_with_asked c (write_asks c t)) ≡ write_moves c t
unfolding write_moves
write_all c t = refl
