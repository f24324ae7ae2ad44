-- What is written of an image: the rows of all mappings, and reads with their answers.
use Rattle.std.specs.Prelude.{ℕ, List, [], ◌++◌, codes, None, Some}
use Rattle.std.specs.List.{flat_map}
use Rattle.fc_base.specs.declared.command.Command.TheVariants.{Lsfcmap}
use Rattle.fc_base.specs.declared.request.ReadPart.{ReadPart}
use Rattle.fc_base.specs.declared.request.Reply.{Reply}
use Rattle.fc_base.specs.declared.request.Request.{Request}
use Rattle.fc_base.specs.declared.request.Request.TheVariants.{Read}
use Rattle.fc_base.specs.declared.size.GrainSize.{GrainSize}
use Rattle.fc_books.specs.Books.{Books}
use Rattle.fc_books.specs.Reports.{report_rows}
use Rattle.fc_check_sheet.specs.View.{view_of}
use Rattle.fc_entry.specs.Text.{reply_text, request_text}
use Rattle.fc_image.specs.declared.image.MetaImage.{MetaImage}
use Rattle.fc_kept.specs.Images.{kept_in, tables_in}
use Rattle.fc_report.specs.Asked.{asked}

-- No image was found.
abbrev pub no_image : List ℕ
no_image = codes "no image\n"

-- The rows of all mappings by the tables and chains of an image, with colons between the fields: nothing settles for them.
abbrev pub books_in : MetaImage → Books
books_in image = asked (tables_in image) (view_of record { sheet = (kept_in image).sheet; rows = []; pools = []; rooms = [] })

abbrev pub rows_in : GrainSize → MetaImage → List (List ℕ)
rows_in grain image = report_rows grain (books_in image) (Lsfcmap None (Some 58))

abbrev pub lines_text : List (List ℕ) → List ℕ
lines_text rows = flat_map (λ (row : List ℕ). row ++ codes "\n") rows

-- A request and its answer; and those of a read.
abbrev pub answered_text : Request → Reply → List ℕ
answered_text request reply = request_text request ++ codes " -> " ++ reply_text reply ++ codes "\n"

abbrev pub read_text : ReadPart → Reply → List ℕ
read_text part reply = answered_text (Read part) reply
