-- Commands and requests that make or remove a volume, lines that ask for it, and where they are read: closed examples.
use Rattle.std.proofs.Common.{◌≡◌, true, false, map, [], ◌∷◌, None, Ok, Err, codes, refl}
use Rattle.fc_base.specs.declared.command.Command.TheVariants.{Mkvdisk, Rmvdisk, Armfault, Lsvdisk, Mkpreset, Lsvdiskroom}
use Rattle.fc_base.specs.declared.command.Line.TheVariants.{Command}
use Rattle.fc_base.specs.declared.command.Preset.TheVariants.{Clone}
use Rattle.fc_base.specs.declared.command.Scope.TheVariants.{Free, Host, Admin, Worker, NoActor}
use Rattle.fc_base.specs.declared.fault.WordFault.TheVariants.{NoActor as NoActorYet, NotInBlock}
use Rattle.fc_base.specs.declared.name.Ref.TheVariants.{Name}
use Rattle.fc_base.specs.declared.request.Request.TheVariants.{Command as Asked, Unread, CopyTurn}
use Rattle.fc_words.specs.Lines.{line_of}
use Rattle.law_volumes.specs.Law.{is_of_volumes, asks_for_volume, asks_of_volumes}

-- two commands do
commands : map is_of_volumes (Mkvdisk None 8 None true ∷ Rmvdisk (Name (codes "A")) ∷ Armfault (Name (codes "A")) 0 1 ∷ Lsvdisk None ∷ Lsvdiskroom None ∷ []) ≡ true ∷ true ∷ false ∷ false ∷ false ∷ []
commands = refl

requests : map asks_of_volumes (Asked (Rmvdisk (Name (codes "A"))) ∷ Asked (Lsvdisk None) ∷ Unread NotInBlock ∷ CopyTurn 0 ∷ []) ≡ true ∷ false ∷ false ∷ false ∷ []
requests = refl

-- a preset asks for a volume; an entry of its own stands only where it is refused
presets : map is_of_volumes (Mkpreset (Name (codes "A")) Clone None ∷ []) ≡ false ∷ []
presets = refl

asking : map asks_for_volume (Mkpreset (Name (codes "A")) Clone None ∷ Mkvdisk None 8 None true ∷ Rmvdisk (Name (codes "A")) ∷ Lsvdisk None ∷ []) ≡ true ∷ true ∷ true ∷ false ∷ []
asking = refl

-- outside blocks their lines are read, and in none of a block's places
removing : map (λ scope. line_of scope (codes "rmvdisk A")) (Free ∷ Host ∷ Admin ∷ Worker ∷ NoActor ∷ [])
    ≡ Ok (Command (Rmvdisk (Name (codes "A")))) ∷ Err NotInBlock ∷ Err NotInBlock ∷ Err NotInBlock ∷ Err NoActorYet ∷ []
removing = refl

making : line_of Free (codes "mkvdisk -size 8") ≡ Ok (Command (Mkvdisk None 8 None false))
making = refl

making_in_block : line_of Admin (codes "svctask mkvdisk -size 8") ≡ Err NotInBlock
making_in_block = refl

copying : line_of Free (codes "mkpreset -source A -preset clone") ≡ Ok (Command (Mkpreset (Name (codes "A")) Clone None))
copying = refl

copying_in_block : line_of Admin (codes "mkpreset -source A -preset clone") ≡ Err NotInBlock
copying_in_block = refl
