-- The volumes of a store before and after a command.
use Rattle.std.proofs.Common.{◌≡◌, ℕ, Bool, cond, Some, None, Contains, inl, inr, sym, ap, subst}
use Rattle.std.proofs.lemmas.Bool.{eq-eqb}
use Rattle.fc_base.specs.Tables.{Tables}
use Rattle.fc_base.specs.declared.command.Command.{Command}
use Rattle.fc_base.specs.declared.command.Command.TheVariants.{Mkvdisk}
use Rattle.fc_base.specs.declared.fault.Kind.TheVariants.{Vdisk}
use Rattle.fc_base.specs.declared.name.Ref.{Ref}
use Rattle.fc_base.specs.declared.request.Reply.{Reply}
use Rattle.fc_base.specs.declared.request.Reply.TheVariants.{Made}
use Rattle.fc_base.specs.declared.request.Request.{Request}
use Rattle.fc_base.specs.declared.request.Request.TheVariants.{Command as Asked}
use Rattle.fc_entry.specs.declared.entry.Entry.{Entry}
use Rattle.fc_legal.specs.Whole.{Whole}
use Rattle.fc_stands.specs.Arming.{set_by}
use Rattle.fc_stands.specs.Leading.{LeadsOn}
use Rattle.fc_stands.specs.Store.{StandsFor, StoreView}
use Rattle.fc_stands.proofs.Since.{AreOfOne, ComeBy}
use Rattle.law_volumes.specs.Law.{Makes}
use Rattle.law_volumes.proofs.Volumes.{volumes_law_holds}

-- There is one of each id and each name.
pub volumes_ordered : (s : StoreView) (w : Whole) → StandsFor s w → AreOfOne s.control.tables.volumes
volumes_ordered s w stands = subst (λ (t : Tables). AreOfOne t.volumes) (sym stands.control.tables) stands.stands.sound.tables.volumes

-- A `mkvdisk` that made a volume sets its fault to none.
made_sets : (request : Request) (reply : Reply) (id : ℕ) → Makes request reply id → (names : Ref → Bool) (lane lanes : ℕ) → set_by names id lane lanes request reply ≡ Some 0
made_sets (Asked (Mkvdisk name size unit thin)) (Made Vdisk made) id makes names lane lanes = ap (λ (b : Bool). cond b (Some 0) None) (eq-eqb made id makes)
made_sets (Asked command) reply id makes names lane lanes = absurd makes
made_sets request reply id makes names lane lanes = absurd makes

-- Those that are there after a command were there, or it made them.
pub volumes_come : (old new : StoreView) (w : Whole) (command : Command) (entry : Entry) → StandsFor old w → LeadsOn old.control.grain w entry new → entry.request ≡ Asked command →
    ComeBy (Asked command) entry.reply old.control.tables.volumes new.control.tables.volumes
volumes_come old new w command entry stands leads asked = λ x there.
    let P : Tables → Type 0 = λ t. Contains t.volumes x in
    let Q : Request → Type 0 = λ r. Makes r entry.reply x.id.0 in
    elim (volumes_law_holds.comes old.control.grain w (record entry { number = w.entries }) leads.0 leads.1 x (subst P leads.4.control.tables there)) [
      | inl before ↦ inl (subst P (sym stands.control.tables) before)
      | inr made ↦ inr (made_sets (Asked command) entry.reply x.id.0 (subst Q asked made))
    ]
