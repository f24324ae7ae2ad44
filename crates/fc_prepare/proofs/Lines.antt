-- One line more, and one script more.
use Rattle.std.proofs.Common.{List, [], ◌∷◌, ◌++◌, flat_map, Some, None, refl, sym, ap, ◌∙◌}
use Rattle.std.specs.List.{AllZip}
use Rattle.std.proofs.lemmas.List.{append-nil}
use Rattle.std.proofs.lemmas.List.Concat.{flat_map-append}
use Rattle.std.proofs.lemmas.List.Elements.{All-nil, All-pop, All-push}
use Rattle.fc_actors.specs.Scripts.{ItemSuits, item_left}
use Rattle.fc_actors.specs.declared.script.Item.{Item}
use Rattle.fc_base.specs.declared.command.ScriptLine.{ScriptLine}
use Rattle.fc_base.specs.declared.request.Request.{Request}
use Rattle.fc_desk.specs.Control.{ControlState}
use Rattle.fc_legal.specs.Scripts.{line_asked}
use Rattle.fc_prepare.specs.Items.{AreItemsOf, IsItemIf, IsItemOf, IsOfActor}

pub no_lines : (c : ControlState) → AreItemsOf c [] []
no_lines c = record { asked = λ b tables. refl; suit = λ s told of. All-nil (ItemSuits s) }

-- A line that asks nothing, and one that asks something.
pub nothing_more : (c : ControlState) (line : ScriptLine) (lines : List ScriptLine) (items : List Item) → IsItemIf c line None → AreItemsOf c lines items → AreItemsOf c (lines ++ line ∷ []) items
nothing_more c line lines items none are = record {
  asked = λ b tables.
      are.asked b tables
      ∙ sym (flat_map-append (line_asked c.grain b) lines (line ∷ [])
      ∙ ap (λ (rs : List Request). flat_map (line_asked c.grain b) lines ++ (rs ++ [])) (none b) ∙ append-nil (flat_map (line_asked c.grain b) lines));
  suit = λ s told of. are.suit s told (All-pop IsOfActor (lines ++ line ∷ []) lines (Some line) refl of).0;
}

pub one_more : (c : ControlState) (line : ScriptLine) (item : Item) (lines : List ScriptLine) (items : List Item) → IsItemOf c line item → AreItemsOf c lines items → AreItemsOf c (lines ++ line ∷ []) (items ++ item ∷ [])
one_more c line item lines items is are = record {
  asked = λ b tables.
      flat_map-append (item_left c.grain) items (item ∷ [])
      ∙ ap (λ (rs : List Request). rs ++ (item_left c.grain item ++ [])) (are.asked b tables)
      ∙ ap (λ (rs : List Request). flat_map (line_asked c.grain b) lines ++ (rs ++ [])) (is.asked b tables)
      ∙ sym (flat_map-append (line_asked c.grain b) lines (line ∷ []));
  suit = λ s told of.
      let parts = All-pop IsOfActor (lines ++ line ∷ []) lines (Some line) refl of in
      All-push (ItemSuits s) items item (are.suit s told parts.0) (is.suits s told parts.1);
}

-- Of two lists, one more each.
pub zip_push : {A B : Type 0} (R : A → B → Type 0) (xs : List A) (ys : List B) (x : A) (y : B) → AllZip R xs ys → R x y → AllZip R (xs ++ x ∷ []) (ys ++ y ∷ [])
zip_push R [] [] x y all one = (one, tt)
zip_push R (a ∷ xs) (b ∷ ys) x y all one = (all.0, zip_push R xs ys x y all.1 one)
zip_push R [] (b ∷ ys) x y all one = absurd all
zip_push R (a ∷ xs) [] x y all one = absurd all
