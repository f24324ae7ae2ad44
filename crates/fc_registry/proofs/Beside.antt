-- The indexes of a table stand beside its objects again after each change.
use Rattle.std.proofs.Common.{◌≡◌, ◌≢◌, ℕ, ◌+◌, ◌<◌, Bool, true, false, List, [], ◌∷◌, ◌++◌, map, length, get_or, find, remove, set, All, AllPairs, Vec, bytes_eq, nat_eq, is_some, take, drop, suc, refl, ap, sym, subst, ◌∙◌, true≢false, arith}
use Rattle.std.specs.List.{list_any}
use Rattle.std.proofs.lemmas.List.{map-append, take-map, drop-map, length-set}
use Rattle.std.proofs.Math.ListN.{get_or-map}
use Rattle.std.proofs.lemmas.List.Folds.{list_any_none}
use Rattle.std.proofs.lemmas.List.Quantifiers.{all_pairs_push, all_pairs_remove}
use Rattle.std.proofs.lemmas.Slice.Eq.{bytes_eq-Decides}
use Rattle.std.proofs.Math.Seq.{map-set_same}
use Rattle.std.proofs.lemmas.Bool.Decides.{nat_tests}
use Rattle.indexmap.specs.IndexSet.{insert_key}
use Rattle.fc_registry.specs.Index.{IsIndexed, texts}
use Rattle.fc_registry.proofs.Places.{list_any-map, all_fail}

-- a key that is like none goes last
insert_key-new : {K : Type 0} (eq : K → K → Bool) (keys : List K) (key : K) → list_any (eq key) keys ≡ false → insert_key eq keys key ≡ keys ++ key ∷ []
insert_key-new eq keys key new = rw new refl

map-remove : {A B : Type 0} (f : A → B) (xs : List A) (i : ℕ) → map f (remove xs i) ≡ remove (map f xs) i
map-remove f xs i =
    map-append f (take i xs) (drop (suc i) xs) ∙ (λ k. sym (take-map f i xs) k ++ sym (drop-map f (suc i) xs) k)

below_differs : (a b : ℕ) → a < b → nat_eq b a ≡ false
below_differs a b below = grind (arith, nat_tests)

module _ {X Z : Type 0} (id_of : X → ℕ) (name_of : X → List ℕ) (ids : List ℕ) (names : List (Vec ℕ Z)) (items : List X) where
  -- no id is the new one
  new_id : (item : X) → ids ≡ map id_of items → All (λ x. id_of x < id_of item) items → list_any (nat_eq (id_of item)) ids ≡ false
  new_id item beside above =
      rw (beside, list_any-map (nat_eq (id_of item)) id_of items)
      (list_any_none (λ x. nat_eq (id_of item) (id_of x)) items (λ k d within. below_differs (id_of (get_or items k d)) (id_of item) (above k d within)))

  -- no name is the new one
  new_name : (item : X) → texts names ≡ map name_of items → is_some (find (λ x. bytes_eq (name_of item) (name_of x)) items) ≡ false → list_any (λ k. bytes_eq (name_of item) k.items) names ≡ false
  new_name item beside missed =
      sym (list_any-map (bytes_eq (name_of item)) (λ k. k.items) names)
      ∙ (ap (list_any (bytes_eq (name_of item))) beside
      ∙ (list_any-map (bytes_eq (name_of item)) name_of items
      ∙ list_any_none (λ x. bytes_eq (name_of item) (name_of x)) items (all_fail (λ x. bytes_eq (name_of item) (name_of x)) items missed)))

  other_name : (item x : X) → bytes_eq (name_of item) (name_of x) ≡ false → name_of x ≢ name_of item
  other_name item x fails same = true≢false (sym ((bytes_eq-Decides (name_of item) (name_of x)).1 (sym same)) ∙ fails)

  pub IsIndexed-push : (item : X) (name : Vec ℕ Z) → IsIndexed id_of name_of ids names items → name.items ≡ name_of item
      → All (λ x. id_of x < id_of item) items
      → is_some (find (λ x. bytes_eq (name_of item) (name_of x)) items) ≡ false
      → IsIndexed id_of name_of (insert_key nat_eq ids (id_of item)) (insert_key (λ a b. bytes_eq a.items b.items) names name) (items ++ item ∷ [])
  IsIndexed-push item name old own above missed = record {
    ids_beside =
        insert_key-new nat_eq ids (id_of item) (new_id item old.ids_beside above)
        ∙ (ap (λ ks. ks ++ id_of item ∷ []) old.ids_beside ∙ sym (map-append id_of items (item ∷ [])));
    names_beside =
        ap texts (insert_key-new (λ a b. bytes_eq a.items b.items) names name (rw own (new_name item old.names_beside missed)))
        ∙ (map-append (λ k. k.items) names (name ∷ [])
        ∙ ((λ k. old.names_beside k ++ own k ∷ []) ∙ sym (map-append name_of items (item ∷ []))));
    ordered = record {
      rising = all_pairs_push (λ x y. id_of x < id_of y) items item old.ordered.rising (λ k d within. above k d within);
      distinct = all_pairs_push (λ x y. name_of x ≢ name_of y) items item old.ordered.distinct
          (λ k d within. other_name item (get_or items k d) (all_fail (λ x. bytes_eq (name_of item) (name_of x)) items missed k d within));
    };
  }

  pub IsIndexed-remove : (i : ℕ) → i < length items → IsIndexed id_of name_of ids names items → IsIndexed id_of name_of (remove ids i) (remove names i) (remove items i)
  IsIndexed-remove i within old = record {
    ids_beside = ap (λ ks. remove ks i) old.ids_beside ∙ sym (map-remove id_of items i);
    names_beside = map-remove (λ k. k.items) names i ∙ (ap (λ ks. remove ks i) old.names_beside ∙ sym (map-remove name_of items i));
    ordered = record {
      rising = all_pairs_remove (λ x y. id_of x < id_of y) items i within old.ordered.rising;
      distinct = all_pairs_remove (λ x y. name_of x ≢ name_of y) items i within old.ordered.distinct;
    };
  }

  -- what a value tells of each place is the same where it tells the same of the new one
  same_at : {B : Type 0} (f : X → B) (i j : ℕ) (new d : X) → f new ≡ f (get_or items i d) → f (get_or (set items i new) j d) ≡ f (get_or items j d)
  same_at f i j new d same =
      sym (get_or-map f (set items i new) j d) ∙ (ap (λ ys. get_or ys j (f d)) (map-set_same f items i new d same) ∙ get_or-map f items j d)

  pub IsIndexed-set : (i : ℕ) (new : X) → ((d : X) → id_of new ≡ id_of (get_or items i d)) → ((d : X) → name_of new ≡ name_of (get_or items i d))
      → IsIndexed id_of name_of ids names items → IsIndexed id_of name_of ids names (set items i new)
  IsIndexed-set i new same_id same_name old = record {
    ids_beside = old.ids_beside ∙ sym (map-set_same id_of items i new new (same_id new));
    names_beside = old.names_beside ∙ sym (map-set_same name_of items i new new (same_name new));
    ordered = record {
      rising = λ a b d before within.
          let here : b < length items = rw length-set at within in
          let below : id_of (get_or items a d) < id_of (get_or items b d) = old.ordered.rising a b d before here in
          omega (arith, same_at id_of i a new d (same_id d), same_at id_of i b new d (same_id d));
      distinct = λ a b d before within same.
          let here : b < length items = rw length-set at within in
          old.ordered.distinct a b d before here (sym (same_at name_of i a new d (same_name d)) ∙ (same ∙ same_at name_of i b new d (same_name d)));
    };
  }
