-- What is asked behind a reply, by what it says; and the reply of the last entry.
use Rattle.std.proofs.Common.{◌≡◌, ℕ, ◌+◌, true, false, List, [], ◌∷◌, ◌++◌, length, get_or, Option, Some, None, slice_get, refl, sym, ◌∙◌, ap, true≢false, arith}
use Rattle.std.proofs.Math.Seq.{get_or-append_seam}
use Rattle.std.proofs.lemmas.List.{length-append}
use Rattle.std.proofs.lemmas.Option.{get_or_from_slice_get, none-some}
use Rattle.fc_base.specs.declared.behind.Behind.TheVariants.{Passing as PassingSeconds, Mapping as MappingOf, Start, Undo}
use Rattle.fc_base.specs.declared.command.Preset.{Preset}
use Rattle.fc_base.specs.declared.command.Preset.TheVariants.{Snapshot, Clone, Backup}
use Rattle.fc_base.specs.declared.name.Ref.{Ref}
use Rattle.fc_base.specs.declared.request.Reply.{Reply}
use Rattle.fc_base.specs.declared.request.Reply.TheVariants.{Done, Made}
use Rattle.fc_base.specs.declared.request.Request.TheVariants.{Command as Asked}
use Rattle.fc_entry.specs.declared.entry.Entry.{Entry}
use Rattle.fc_legal.specs.Agenda.{Own, behind_last, is_done}
use Rattle.fc_legal.specs.Presets.{mapping_line, start_line, unmake_line, unmap_line}
use Rattle.fc_legal.specs.Whole.{Whole}
use Rattle.fc_stands.specs.Phase.{IsDecided}
use Rattle.fc_preset.specs.Stages.{made_by}

-- The line of a mapping is a command of its own.
pub mapping_decided : (source : Ref) (preset : Preset) (name : Option (List ℕ)) (volume : ℕ) → IsDecided (mapping_line source preset name volume)
mapping_decided source Snapshot name volume = tt
mapping_decided source Clone name volume = tt
mapping_decided source Backup name volume = tt

-- ---- behind the line of the volume

pub volume_made : (source : Ref) (preset : Preset) (name : Option (List ℕ)) (volume : ℕ) (next : Whole) (reply : Reply) → Some volume ≡ made_by reply →
    behind_last next reply (MappingOf source preset name) [] ≡ Own (Asked (mapping_line source preset name volume) ∷ []) (Start volume) []
volume_made source preset name volume next (Made kind id) is =
    let same : volume ≡ id = cc is in
    ap (λ (n : ℕ). Own (Asked (mapping_line source preset name n) ∷ []) (Start n) []) (sym same)
volume_made source preset name volume next reply is = absurd (none-some volume (sym is))

pub volume_unmade : (source : Ref) (preset : Preset) (name : Option (List ℕ)) (next : Whole) (reply : Reply) → None ≡ made_by reply →
    behind_last next reply (MappingOf source preset name) [] ≡ Own [] (PassingSeconds 0) []
volume_unmade source preset name next (Made kind id) is = absurd (none-some id is)
volume_unmade source preset name next reply is = refl

-- ---- behind the line of the mapping

pub mapping_made : (volume map : ℕ) (next : Whole) (reply : Reply) → Some map ≡ made_by reply →
    behind_last next reply (Start volume) [] ≡ Own (Asked (start_line map) ∷ []) (Undo map volume) []
mapping_made volume map next (Made kind id) is =
    let same : map ≡ id = cc is in
    ap (λ (n : ℕ). Own (Asked (start_line n) ∷ []) (Undo n volume) []) (sym same)
mapping_made volume map next reply is = absurd (none-some map (sym is))

pub mapping_unmade : (volume : ℕ) (next : Whole) (reply : Reply) → None ≡ made_by reply →
    behind_last next reply (Start volume) [] ≡ Own (Asked (unmake_line volume) ∷ []) (PassingSeconds 0) []
mapping_unmade volume next (Made kind id) is = absurd (none-some id is)
mapping_unmade volume next reply is = refl

-- ---- behind the line of the start

pub start_done : (map volume : ℕ) (next : Whole) (reply : Reply) → true ≡ is_done reply →
    behind_last next reply (Undo map volume) [] ≡ Own [] (PassingSeconds 0) []
start_done map volume next Done is = refl
start_done map volume next reply is = absurd (true≢false is)

pub start_undone : (map volume : ℕ) (next : Whole) (reply : Reply) → false ≡ is_done reply →
    behind_last next reply (Undo map volume) [] ≡ Own (Asked (unmap_line map) ∷ Asked (unmake_line volume) ∷ []) (PassingSeconds 0) []
start_undone map volume next Done is = absurd (true≢false (sym is))
start_undone map volume next reply is = refl

-- ---- the last entry

pub last_is : (entries before : List Entry) (last entry : Entry) (n : ℕ) → entries ≡ before ++ last ∷ [] → n + 1 ≡ length entries → slice_get entries n ≡ Some entry → entry ≡ last
last_is entries before last entry n is count got =
    let at : n ≡ length before = omega (arith, count, ap length is, length-append before (last ∷ [])) in
    sym (get_or_from_slice_get entries n entry entry got)
    ∙ ap (λ (es : List Entry). get_or es n entry) is
    ∙ ap (λ (k : ℕ). get_or (before ++ last ∷ []) k entry) at
    ∙ get_or-append_seam before last [] entry
