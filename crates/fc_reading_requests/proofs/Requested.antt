-- The texts of requests are read as they are asked, and tell with their replies which requests they were.
use Rattle.std.proofs.Common.{◌≡◌, ℕ, ◌+◌, ◌-◌, ◌^◌, ◌≤◌, true, nat_le, List, [], ◌∷◌, ◌++◌, length, codes, decimal, Some, None, Ok, Err, refl, sym, ap, ◌∙◌, append_assoc, arith}
use Rattle.std.proofs.lemmas.Bool.Decides.{nat_tests}
use Rattle.std.proofs.lemmas.List.{append-nil}
use Rattle.fc_base.specs.CommandText.{byte_word, ref_word}
use Rattle.fc_base.specs.declared.command.Command.{Command}
use Rattle.fc_base.specs.declared.command.Command.TheVariants as command
use Rattle.fc_base.specs.declared.name.Ref.{Ref}
use Rattle.fc_base.specs.declared.name.Ref.TheVariants.{Id, Name}
use Rattle.fc_base.specs.declared.request.Reply.{Reply}
use Rattle.fc_base.specs.declared.request.Request.{Request}
use Rattle.fc_base.specs.declared.request.Request.TheVariants as request
use Rattle.fc_entry.specs.Text.{request_text}
use Rattle.fc_words.specs.Canonical.{IsCommand, IsNumber}
use Rattle.fc_reading_requests.specs.Answered.{MayAnswer, read_of, request_of, unread_of, write_of}
use Rattle.fc_reading_requests.specs.Asked.{IsAsked, IsRequest, asked_of, asked_text, last_block}
use Rattle.fc_reading_requests.specs.Back.{RequestsLaw}
use Rattle.fc_reading_requests.specs.Requests.{asked_at}
use Rattle.fc_reading_requests.specs.declared.asked.Asked.{Asked}
use Rattle.fc_reading.proofs.Exact.{ok_is, ok_no_err}
use Rattle.fc_reading.proofs.Words.{Ends-nothing, at_true}
use Rattle.fc_reading_requests.proofs.AllAsked.{Exact-asked, asked-found}
use Rattle.fc_reading_requests.proofs.Objects.{of-number}

-- ---- how a request is asked

is_2_32 : 2 ^ 32 ≡ 4294967296
is_2_32 = refl

block_within : (volume : Ref) (block : ℕ) → IsNumber block → block ≤ last_block volume
block_within (Id id) block is = omega (arith, is_2_32, is)
block_within (Name name) block is = of-number block is

read_joined : (w r b c : List ℕ) → w ++ 32 ∷ (r ++ 32 ∷ (b ++ 32 ∷ c)) ≡ (w ++ 32 ∷ []) ++ r ++ (32 ∷ []) ++ (b ++ (32 ∷ []) ++ c)
read_joined w r b c = simp (append_assoc)

write_joined : (w r b c y : List ℕ) → w ++ 32 ∷ (r ++ 32 ∷ (b ++ 32 ∷ (c ++ 32 ∷ y))) ≡ (w ++ 32 ∷ []) ++ r ++ (32 ∷ []) ++ (b ++ (32 ∷ []) ++ c) ++ (32 ∷ []) ++ y
write_joined w r b c y = simp (append_assoc)

abbrev pub IsAskedSo : Request → Type 0
IsAskedSo r = IsAsked (asked_of r) × (request_text r ≡ asked_text (asked_of r))

command_line : (c : Command) → IsCommand c → IsAskedSo (request.Command c)
command_line (command.Mkvdisk name size unit thin) is = ((is, tt), refl)
command_line (command.Rmvdisk volume) is = ((is, tt), refl)
command_line (command.Write volume block count byte) is = (
  (is.0, (block_within volume block is.1, (is.2, is.3))),
  write_joined (codes "write") (ref_word volume) (decimal block) (decimal count) (byte_word byte),
)
command_line (command.Read volume block count) is = (
  (is.0, (block_within volume block is.1, is.2)),
  read_joined (codes "read") (ref_word volume) (decimal block) (decimal count),
)
command_line (command.Armfault volume grain calls) is = ((is, tt), refl)
command_line (command.Advance seconds) is = ((is, tt), refl)
command_line (command.Mkfcmap source target name group copy clean size incremental autodelete) is = ((is, tt), refl)
command_line (command.Prestartfcmap map restore) is = ((is, tt), refl)
command_line (command.Startfcmap map prep restore) is = ((is, tt), refl)
command_line (command.Stopfcmap map way) is = ((is, tt), refl)
command_line (command.Rmfcmap map force) is = ((is, tt), refl)
command_line (command.Mkfcconsistgrp name) is = ((is, tt), refl)
command_line (command.Prestartfcconsistgrp group restore) is = ((is, tt), refl)
command_line (command.Startfcconsistgrp group prep restore) is = ((is, tt), refl)
command_line (command.Stopfcconsistgrp group way) is = ((is, tt), refl)
command_line (command.Rmfcconsistgrp group force) is = ((is, tt), refl)
command_line (command.Lsfcmap map delim) is = ((is, tt), refl)
command_line (command.Lsfcconsistgrp group delim) is = ((is, tt), refl)
command_line (command.Lsvdisk delim) is = ((is, tt), refl)
command_line (command.Lsfcmapprogress map delim) is = ((is, tt), refl)
command_line (command.Lsfcmapdependentmaps map delim) is = ((is, tt), refl)
command_line (command.Mkpreset source preset name) is = ((is, tt), refl)
command_line (command.Lsvdiskroom delim) is = ((is, tt), refl)

pub request_line : (r : Request) → IsRequest r → IsAskedSo r
request_line (request.Command c) is = command_line c is
request_line (request.Unread fault) is = (tt, refl)
request_line (request.Read part) is = (is, refl)
request_line (request.Write part) is = (is, refl)
request_line (request.Copy map grain) is = (is, refl)
request_line (request.Clean map grain) is = (is, refl)
request_line (request.CopyTurn lane) is = (is, refl)
request_line (request.CleanTurn lane) is = (is, refl)

pub request-read : (r : Request) (rest bytes : List ℕ) → IsRequest r → bytes ≡ request_text r ++ codes " -> " ++ rest → asked_at bytes ≡ Ok (asked_of r, rest)
request-read r rest bytes is e =
    let line = request_line r is in
    ap asked_at (e ∙ ap (λ t. t ++ codes " -> " ++ rest) line.1) ∙ Exact-asked.again (asked_of r) rest line.0 (Ends-nothing rest)

-- what a call finds
pub found-back :
    (bytes : List ℕ) (asked : Asked) (behind : List ℕ) → asked_at bytes ≡ Ok (asked, behind) →
    (r : Request) (rest : List ℕ) → IsRequest r → bytes ≡ request_text r ++ codes " -> " ++ rest →
    (asked ≡ asked_of r) × (length bytes - length behind + length rest ≡ length bytes)
found-back bytes asked behind found r rest is e =
    let same : ◌≡◌ {A = Asked × List ℕ} (asked, behind) (asked_of r, rest) = ok_is _ _ (sym found ∙ request-read r rest bytes is e) in (
      ap (λ (x : Asked × List ℕ). x.0) same,
      omega (arith, (asked-found bytes asked behind found).1, ap (λ (x : Asked × List ℕ). length x.1) same),
    )

pub none-back : (bytes : List ℕ) (left : ℕ) → asked_at bytes ≡ Err left → (r : Request) (rest : List ℕ) → IsRequest r → bytes ≡ request_text r ++ codes " -> " ++ rest → ⊥
none-back bytes left none r rest is e = ok_no_err _ left (sym (request-read r rest bytes is e) ∙ none)

-- ---- the law

one_text : (one other : Request) (more : List ℕ) → IsRequest one → IsRequest other → request_text one ++ codes " -> " ++ more ≡ request_text other ++ codes " -> " → (asked_of one ≡ asked_of other) × (more ≡ [])
one_text one other more is1 is2 e =
    let same : ◌≡◌ {A = Asked × List ℕ} (asked_of one, more) (asked_of other, []) =
    ok_is _ _
    (
    sym (request-read one more (request_text other ++ codes " -> ") is1 (sym e))
    ∙ request-read other [] (request_text other ++ codes " -> ") is2 (sym (append-nil (request_text other ++ codes " -> ")))
    ) in
    (ap (λ (x : Asked × List ℕ). x.0) same, ap (λ (x : Asked × List ℕ). x.1) same)

within : (block : ℕ) → IsNumber block → nat_le block 4294967295 ≡ true
within block is = le_true block 4294967295 (of-number block is)
  where
    le_true : (a b : ℕ) → a ≤ b → nat_le a b ≡ true
    le_true a b h = grind (arith, nat_tests)

command_known : (c : Command) (reply : Reply) → IsCommand c → MayAnswer (request.Command c) reply → request_of (asked_of (request.Command c)) reply ≡ Some (request.Command c)
command_known (command.Mkvdisk name size unit thin) reply is may = refl
command_known (command.Rmvdisk volume) reply is may = refl
command_known (command.Write volume block count byte) reply is may =
    ap (λ refused. write_of refused volume block count byte) may
    ∙ at_true (nat_le block 4294967295) (Some (request.Command (command.Write volume block count byte))) None (within block is.1)
command_known (command.Read volume block count) reply is may =
    ap (λ refused. read_of refused volume block count) may
    ∙ at_true (nat_le block 4294967295) (Some (request.Command (command.Read volume block count))) None (within block is.1)
command_known (command.Armfault volume grain calls) reply is may = refl
command_known (command.Advance seconds) reply is may = refl
command_known (command.Mkfcmap source target name group copy clean size incremental autodelete) reply is may = refl
command_known (command.Prestartfcmap map restore) reply is may = refl
command_known (command.Startfcmap map prep restore) reply is may = refl
command_known (command.Stopfcmap map way) reply is may = refl
command_known (command.Rmfcmap map force) reply is may = refl
command_known (command.Mkfcconsistgrp name) reply is may = refl
command_known (command.Prestartfcconsistgrp group restore) reply is may = refl
command_known (command.Startfcconsistgrp group prep restore) reply is may = refl
command_known (command.Stopfcconsistgrp group way) reply is may = refl
command_known (command.Rmfcconsistgrp group force) reply is may = refl
command_known (command.Lsfcmap map delim) reply is may = refl
command_known (command.Lsfcconsistgrp group delim) reply is may = refl
command_known (command.Lsvdisk delim) reply is may = refl
command_known (command.Lsfcmapprogress map delim) reply is may = refl
command_known (command.Lsfcmapdependentmaps map delim) reply is may = refl
command_known (command.Mkpreset source preset name) reply is may = refl
command_known (command.Lsvdiskroom delim) reply is may = refl

known : (r : Request) (reply : Reply) → IsRequest r → MayAnswer r reply → request_of (asked_of r) reply ≡ Some r
known (request.Command c) reply is may = command_known c reply is may
known (request.Unread fault) reply is may = ap unread_of may
known (request.Read part) reply is may = ap (λ refused. read_of refused (Id part.volume.0) part.block part.count) may
known (request.Write part) reply is may = ap (λ refused. write_of refused (Id part.volume.0) part.block part.count part.byte) may
known (request.Copy map grain) reply is may = refl
known (request.Clean map grain) reply is may = refl
known (request.CopyTurn lane) reply is may = refl
known (request.CleanTurn lane) reply is may = refl

pub the-law : RequestsLaw
the-law = record { one_text = one_text; known = known }
