-- Ways behind an entry, by its request.
use Rattle.std.proofs.Common.{◌≡◌, ℕ, false, IsTrue, List, Option, refl, sym, subst}
use Rattle.std.proofs.lemmas.Bool.{both_ways}
use Rattle.fc_base.specs.declared.command.Command.{Command}
use Rattle.fc_base.specs.declared.command.Command.TheVariants.{Read as ReadLine, Write as WriteLine, Mkpreset}
use Rattle.fc_base.specs.declared.command.Preset.{Preset}
use Rattle.fc_base.specs.declared.name.Ref.{Ref}
use Rattle.fc_base.specs.declared.request.Request.{Request}
use Rattle.fc_base.specs.declared.size.GrainSize.{GrainSize}
use Rattle.fc_books.specs.Refused.{access_refused, preset_refused}
use Rattle.fc_control.specs.Dispatch.{is_decided}
use Rattle.fc_entry.specs.declared.entry.Entry.{Entry}
use Rattle.fc_legal.specs.Steps.{MustBeRefused, CommandIsRight, CommandStep, RequestStep, Step}
use Rattle.fc_legal.specs.Whole.{Whole}
use Rattle.fc_check_record.specs.Judged.{Judged}
use Rattle.fc_check_follow.specs.Following.{Came}
use Rattle.fc_check_follow.proofs.Coming.{came_as}

pub step_came : (way : Judged) (entry : Entry) (request : Request) (old new : List Judged) → entry.number ≡ way.whole.entries → entry.request ≡ request →
    Came way.grain (RequestStep way.grain way.whole request entry) old new → Came way.grain (Step way.grain way.whole entry) old new
step_came way entry request old new number is came =
    came_as way.grain (RequestStep way.grain way.whole request entry) (Step way.grain way.whole entry) old new
    (λ next right. record { number = number; right = subst (λ (r : Request). RequestStep way.grain way.whole r entry next) (sym is) right })
    (λ next step. subst (λ (r : Request). RequestStep way.grain way.whole r entry next) is step.right) came

-- Of a command that is no line `read`, `write` or `mkpreset`.
pub line_came : (grain : GrainSize) (w : Whole) (command : Command) (entry : Entry) (old new : List Judged) → IsTrue (is_decided command) → Came grain (CommandStep grain w command entry) old new →
    Came grain (CommandIsRight grain w command entry) old new
line_came grain w (ReadLine volume block count) entry old new decided came = absurd (both_ways false refl decided)
line_came grain w (WriteLine volume block count byte) entry old new decided came = absurd (both_ways false refl decided)
line_came grain w (Mkpreset source preset name) entry old new decided came = absurd (both_ways false refl decided)
line_came grain w command entry old new decided came = came

-- Of a line `write`.
pub write_came : (grain : GrainSize) (w : Whole) (command : Command) (entry : Entry) (old new : List Judged) (volume : Ref) (block count byte : ℕ) → command ≡ WriteLine volume block count byte →
    Came grain (MustBeRefused (access_refused grain w.books volume block count) w entry) old new → Came grain (CommandIsRight grain w command entry) old new
write_came grain w command entry old new volume block count byte is came = subst (λ (line : Command). Came grain (CommandIsRight grain w line entry) old new) (sym is) came

-- Of a line `mkpreset`.
pub preset_came : (grain : GrainSize) (w : Whole) (command : Command) (entry : Entry) (old new : List Judged) (source : Ref) (preset : Preset) (name : Option (List ℕ)) → command ≡ Mkpreset source preset name →
    Came grain (MustBeRefused (preset_refused w.books source) w entry) old new → Came grain (CommandIsRight grain w command entry) old new
preset_came grain w command entry old new source preset name is came = subst (λ (line : Command). Came grain (CommandIsRight grain w line entry) old new) (sym is) came
