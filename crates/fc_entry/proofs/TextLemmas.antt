-- The line of an entry as the parts that are put one after the other, and the text of a history that grows.
use Rattle.std.proofs.Common.{◌≡◌, ℕ, List, [], ◌∷◌, ◌++◌, take, drop, codes, decimal, ap, sym, ◌∙◌, append_assoc}
use Rattle.std.proofs.lemmas.List.{append-nil, take-append-drop}
use Rattle.std.proofs.lemmas.List.Concat.{flat_map-append}
use Rattle.std.specs.List.{concat, flat_map}
use Rattle.fc_entry.specs.declared.entry.Entry.{Entry}
use Rattle.fc_entry.specs.Text.{entry_text, line_text, reply_text, request_text}

abbrev pub line_parts : List ℕ → Entry → List (List ℕ)
line_parts actor entry =
    (decimal entry.number ++ codes " " ++ actor ++ codes " ") ∷ request_text entry.request ∷ codes " -> "
    ∷ reply_text entry.reply ∷ codes "\n" ∷ []

joined :
    (number actor request reply : List ℕ) →
    concat ((number ++ codes " " ++ actor ++ codes " ") ∷ request ∷ codes " -> " ∷ reply ∷ codes "\n" ∷ [])
    ≡ number ++ codes " " ++ actor ++ codes " " ++ request ++ codes " -> " ++ reply ++ codes "\n"
joined number actor request reply = simp (append_assoc, append-nil)

pub line_parts-joined : (actor : List ℕ) (entry : Entry) → concat (line_parts actor entry) ≡ line_text actor entry
line_parts-joined actor entry =
    joined (decimal entry.number) actor (request_text entry.request) (reply_text entry.reply)

-- the text of the entries so far, and behind it the text of the others, is the whole text
pub entries_text-joined :
    (actors : List (List ℕ)) (entries : List Entry) (so_far : ℕ) →
    flat_map (entry_text actors) (take so_far entries) ++ flat_map (entry_text actors) (drop so_far entries)
    ≡ flat_map (entry_text actors) entries
entries_text-joined actors entries so_far =
    sym (flat_map-append (entry_text actors) (take so_far entries) (drop so_far entries))
    ∙ ap (flat_map (entry_text actors)) (take-append-drop so_far entries)
