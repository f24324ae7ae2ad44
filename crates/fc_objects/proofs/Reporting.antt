-- What is decided of reports.
use Rattle.std.proofs.Common.{◌≡◌, ◌∙◌, sym, ap, ℕ, Bool, List, [], ◌∷◌, ◌++◌, take, drop, Some, None, IsTrue, codes, decimal, refl}
use Rattle.fc_base.specs.Tables.{mapping_named}
use Rattle.fc_base.specs.declared.command.Command.{Command}
use Rattle.fc_base.specs.declared.command.Command.TheVariants.{Lsfcmap, Lsfcconsistgrp, Lsvdisk, Lsfcmapprogress, Lsfcmapdependentmaps, Lsvdiskroom}
use Rattle.fc_base.specs.declared.fault.Refusal.{Refusal}
use Rattle.fc_base.specs.declared.request.Reply.TheVariants.{Listed, Refused}
use Rattle.fc_base.specs.declared.size.GrainSize.{GrainSize}
use Rattle.fc_base.specs.declared.state.MapState.{MapState}
use Rattle.fc_base.specs.declared.state.MapState.TheVariants.{Preparing, Prepared, Copying, Stopping}
use Rattle.fc_base.specs.declared.volume.Mapping.{Mapping}
use Rattle.fc_books.specs.Books.{Books, nothing}
use Rattle.fc_books.specs.Deciding.{decide, answered, refused, done, replied, with_work}
use Rattle.fc_books.specs.Columns.{percent, copied_in, progress, cleaned_in, mapping_columns, progress_columns}
use Rattle.fc_books.specs.Copies.{total, dependents}
use Rattle.fc_books.specs.Layout.{ReportColumn, report_column, view}
use Rattle.fc_books.specs.Reports.{listed, rows_of_one, report_rows}
use Rattle.fc_report.specs.Asked.{asked}
use Rattle.fc_objects.specs.Objects.{is_report}

shown : (restarts : ℕ → List Bool) (grain : GrainSize) (b : Books) (command : Command) → IsTrue (is_report command) → with_work restarts b (replied grain b command) (done grain b command) ≡ with_work restarts b (Listed (report_rows grain b command)) nothing
shown restarts grain b (Lsfcmap m delim) is = refl
shown restarts grain b (Lsfcconsistgrp group delim) is = refl
shown restarts grain b (Lsvdisk delim) is = refl
shown restarts grain b (Lsfcmapprogress m delim) is = refl
shown restarts grain b (Lsfcmapdependentmaps m delim) is = refl
shown restarts grain b (Lsvdiskroom delim) is = refl
shown restarts grain b command is = absurd cc

pub report_told : (restarts : ℕ → List Bool) (grain : GrainSize) (b : Books) (command : Command) (rows : List (List ℕ)) → IsTrue (is_report command) → None ≡ refused grain b command → rows ≡ report_rows grain b command →
    decide restarts grain b command None ≡ with_work restarts b (Listed rows) nothing
report_told restarts grain b command rows is allowed rows_are =
    ap (λ o. answered restarts grain b command o None) (sym allowed)
    ∙ shown restarts grain b command is
    ∙ ap (λ r. with_work restarts b (Listed r) nothing) (sym rows_are)

pub report_refused : (restarts : ℕ → List Bool) (grain : GrainSize) (b : Books) (command : Command) (refusal : Refusal) → Some refusal ≡ refused grain b command →
    decide restarts grain b command None ≡ with_work restarts b (Refused refusal) nothing
report_refused restarts grain b command refusal is = ap (λ o. answered restarts grain b command o None) (sym is)

-- ---- reports tell of the tables, the chains and the room alone

abbrev pub asked_of : Books → Books
asked_of b = asked b.tables record { sheet = b.sheet; restarts = λ m. []; pools = []; rooms = b.rooms }

copied_same : (state : MapState) (b : Books) (m : Mapping) → copied_in state (asked_of b) m ≡ copied_in state b m
copied_same Copying b m = refl
copied_same Preparing b m = refl
copied_same Prepared b m = refl
copied_same state b m = refl

cleaned_same : (state : MapState) (b : Books) (m : Mapping) → cleaned_in state (asked_of b) m ≡ cleaned_in state b m
cleaned_same Copying b m = refl
cleaned_same Stopping b m = refl
cleaned_same state b m = refl

progress_same : (b : Books) (m : Mapping) → progress (asked_of b) m ≡ progress b m
progress_same b m = ap (λ n. percent n (total b m)) (copied_same m.state b m)

-- columns with other figures
abbrev with_figures : List (ReportColumn Mapping) → (Mapping → ℕ) → (Mapping → ℕ) → List (ReportColumn Mapping)
with_figures columns copied cleaned =
    take 9 columns
    ++ report_column (codes "progress") (λ m. decimal (copied m))
    ∷ report_column (codes "copy_rate") (λ m. decimal m.copy_rate)
    ∷ report_column (codes "clean_progress") (λ m. decimal (cleaned m))
    ∷ drop 12 columns

columns_same : (b : Books) → mapping_columns (asked_of b) ≡ mapping_columns b
columns_same b =
    ap (λ copied. with_figures (mapping_columns b) copied (λ m. cleaned_in m.state (asked_of b) m)) (λ i m. progress_same b m i)
    ∙ ap (λ cleaned. with_figures (mapping_columns b) (progress b) cleaned) (λ i m. cleaned_same m.state b m i)

progress_columns_same : (b : Books) → progress_columns (asked_of b) ≡ progress_columns b
progress_columns_same b =
    ap (λ (copied : Mapping → ℕ). report_column (codes "id") (λ (m : Mapping). decimal m.id.0) ∷ report_column (codes "progress") (λ m. decimal (copied m)) ∷ []) (λ i m. progress_same b m i)

pub same_rows : (grain : GrainSize) (b : Books) (command : Command) → report_rows grain (asked_of b) command ≡ report_rows grain b command
unfolding report_rows dependents
same_rows grain b (Lsfcmap None delim) = ap (λ columns. listed delim columns b.tables.mappings) (columns_same b)
same_rows grain b (Lsfcmap (Some m) delim) = ap (λ columns. rows_of_one (view delim columns) (mapping_named b.tables m)) (columns_same b)
same_rows grain b (Lsfcmapprogress m delim) =
    ap (λ columns. rows_of_one (λ (x : Mapping). listed delim columns (x ∷ [])) (mapping_named b.tables m)) (progress_columns_same b)
same_rows grain b (Lsfcconsistgrp None delim) = refl
same_rows grain b (Lsfcconsistgrp (Some group) delim) = refl
same_rows grain b (Lsvdisk delim) = refl
same_rows grain b (Lsfcmapdependentmaps m delim) = refl
same_rows grain b (Lsvdiskroom delim) = refl
same_rows grain b command = refl
