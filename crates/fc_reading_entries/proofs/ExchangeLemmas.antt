-- The line of a reply of what was asked is read exactly, and tells which request it was.
use Rattle.std.proofs.Common.{◌≡◌, ℕ, ◌≤◌, Bool, true, false, nat_le, unwrap_or, List, Option, Some, None, refl, sym, ap, subst, ◌∙◌, arith, inl, inr}
use Rattle.std.proofs.lemmas.Bool.{false≢true}
use Rattle.std.proofs.lemmas.Bool.Decides.{nat_tests}
use Rattle.fc_base.specs.declared.command.Command.{Command}
use Rattle.fc_base.specs.declared.command.Command.TheVariants as command
use Rattle.fc_base.specs.declared.fault.Refusal.{Refusal}
use Rattle.fc_base.specs.declared.fault.Refusal.TheVariants.{NoDisk, Words}
use Rattle.fc_base.specs.declared.fault.WordFault.{WordFault}
use Rattle.fc_base.specs.declared.fault.WordFault.TheVariants.{LongLine}
use Rattle.fc_base.specs.declared.name.Ref.{Ref}
use Rattle.fc_base.specs.declared.name.Ref.TheVariants.{Id, Name}
use Rattle.fc_base.specs.declared.request.Reply.{Reply}
use Rattle.fc_base.specs.declared.request.Reply.TheVariants as reply
use Rattle.fc_base.specs.declared.request.Request.{Request}
use Rattle.fc_base.specs.declared.request.Request.TheVariants as request
use Rattle.fc_words.specs.Canonical.{IsCommand, IsNumber}
use Rattle.fc_reading_replies.specs.Faults.{IsFault, unread_at, unread_text}
use Rattle.fc_reading_replies.specs.Refusals.{IsRefusal}
use Rattle.fc_reading_replies.specs.Replies.{MayBeSaid, said_line, refused_at, refused_of, reply_at, reply_line}
use Rattle.fc_reading_replies.specs.declared.replies.ReplyLine.{ReplyLine}
use Rattle.fc_reading_replies.specs.declared.replies.ReplyLine.TheVariants.{Whole, Rows}
use Rattle.fc_reading_requests.specs.Answered.{MayAnswer, is_refused, read_of, request_of, write_of}
use Rattle.fc_reading_requests.specs.Asked.{IsAsked, IsNoAccess, IsRequest, asked_of}
use Rattle.fc_reading_requests.specs.declared.asked.Asked.{Asked}
use Rattle.fc_reading_requests.specs.declared.asked.Asked.TheVariants.{Unread, Read, Write, Copy, Clean, CopyTurn, CleanTurn, Command as OfCommand}
use Rattle.fc_reading_entries.specs.Exchanges.{IsAnswer, IsExchange, access_line, fault_told, is_id, is_short, line_at, reply_told, request_by}
use Rattle.fc_reading.proofs.Exact.{Exact}
use Rattle.fc_reading.proofs.Numbers.{cases}
use Rattle.fc_reading.proofs.Words.{at_true, nothing}
use Rattle.fc_reading_notes.proofs.Effects.{Exact-image, Image}
use Rattle.fc_reading_replies.proofs.FaultLemmas.{Exact-unread}
use Rattle.fc_reading_replies.proofs.ReplyLemmas.{Exact-refused, Exact-reply, refused_line}
use Rattle.fc_reading_requests.proofs.Objects.{number-of, of-number}
use Rattle.fc_reading_requests.proofs.Requested.{request_line, the-law}

-- ---- the line

abbrev pub FitsAccess : Bool → Bool → ReplyLine → Type 0
FitsAccess refusable true line = MayBeSaid refusable line
FitsAccess refusable false line = Image IsRefusal refused_of line

abbrev pub FitsLine : Asked → ReplyLine → Type 0
FitsLine Unread line = Image IsFault fault_told line
FitsLine (Read volume block count) line = FitsAccess (is_short block) (is_id volume) line
FitsLine (Write volume block count byte) line = FitsAccess (is_short block) (is_id volume) line
FitsLine (Copy map grain) line = MayBeSaid true line
FitsLine (Clean map grain) line = MayBeSaid true line
FitsLine (CopyTurn lane) line = MayBeSaid true line
FitsLine (CleanTurn lane) line = MayBeSaid true line
FitsLine (OfCommand command) line = MayBeSaid true line

Exact-access : (refusable of_host : Bool) → Exact (FitsAccess refusable of_host) reply_line nothing (access_line refusable of_host)
Exact-access refusable true = Exact-reply refusable
Exact-access refusable false =
    Exact-image {V = Refusal} {W = ReplyLine} IsRefusal refused_line nothing refused_at reply_line refused_of Exact-refused (λ refusal is. refl)

pub Exact-line : (asked : Asked) → Exact (FitsLine asked) reply_line nothing (line_at asked)
Exact-line Unread =
    Exact-image {V = WordFault} {W = ReplyLine} IsFault unread_text nothing unread_at reply_line fault_told Exact-unread (λ fault is. refl)
Exact-line (Read volume block count) = Exact-access (is_short block) (is_id volume)
Exact-line (Write volume block count byte) = Exact-access (is_short block) (is_id volume)
Exact-line (Copy map grain) = Exact-reply true
Exact-line (Clean map grain) = Exact-reply true
Exact-line (CopyTurn lane) = Exact-reply true
Exact-line (CleanTurn lane) = Exact-reply true
Exact-line (OfCommand command) = Exact-reply true

some_access : (refusable of_host : Bool) → (line : ReplyLine) × FitsAccess refusable of_host line
some_access refusable true = (Whole reply.Done, tt)
some_access refusable false = (refused_of NoDisk, (NoDisk, tt, refl))

pub some_line : (asked : Asked) → (line : ReplyLine) × FitsLine asked line
some_line Unread = (fault_told LongLine, (LongLine, tt, refl))
some_line (Read volume block count) = some_access (is_short block) (is_id volume)
some_line (Write volume block count byte) = some_access (is_short block) (is_id volume)
some_line (Copy map grain) = (Whole reply.Done, tt)
some_line (Clean map grain) = (Whole reply.Done, tt)
some_line (CopyTurn lane) = (Whole reply.Done, tt)
some_line (CleanTurn lane) = (Whole reply.Done, tt)
some_line (OfCommand command) = (Whole reply.Done, tt)

-- ---- what a line tells of the reply

abbrev refuses : ReplyLine → Bool
refuses line = is_refused (reply_told line)

told_same : (answered : Reply) → refuses (said_line answered) ≡ is_refused answered
told_same reply.Done = refl
told_same (reply.Made kind id) = refl
told_same (reply.Bytes runs) = refl
told_same (reply.Listed rows) = refl
told_same (reply.Moved map grain) = refl
told_same reply.Idle = refl
told_same (reply.Offline map state) = refl
told_same (reply.NotAccessible map) = refl
told_same reply.DiskFault = refl
told_same reply.MediumError = refl
told_same reply.NoMemory = refl
told_same (reply.Refused refusal) = refl

-- a line that refuses is one of a refusal
refusing : (refusable : Bool) (line : ReplyLine) → MayBeSaid refusable line → refuses line ≡ true → (refusable ≡ true) × Image IsRefusal refused_of line
refusing refusable (Whole (reply.Refused refusal)) said e = (said.0, (refusal, said.1, refl))
refusing refusable (Whole reply.Done) said e = absurd (false≢true e)
refusing refusable (Whole (reply.Made kind id)) said e = absurd (false≢true e)
refusing refusable (Whole (reply.Bytes runs)) said e = absurd (false≢true e)
refusing refusable (Whole (reply.Listed rows)) said e = absurd said
refusing refusable (Whole (reply.Moved map grain)) said e = absurd (false≢true e)
refusing refusable (Whole reply.Idle) said e = absurd (false≢true e)
refusing refusable (Whole (reply.Offline map state)) said e = absurd (false≢true e)
refusing refusable (Whole (reply.NotAccessible map)) said e = absurd (false≢true e)
refusing refusable (Whole reply.DiskFault) said e = absurd (false≢true e)
refusing refusable (Whole reply.MediumError) said e = absurd (false≢true e)
refusing refusable (Whole reply.NoMemory) said e = absurd (false≢true e)
refusing refusable (Rows rows) said e = absurd (false≢true e)

-- one that refuses nothing may stand whatever may be refused
unrefusing : (refusable other : Bool) (line : ReplyLine) → MayBeSaid refusable line → refuses line ≡ false → MayBeSaid other line
unrefusing refusable other (Whole (reply.Refused refusal)) said e = absurd (false≢true (sym e))
unrefusing refusable other (Whole reply.Done) said e = tt
unrefusing refusable other (Whole (reply.Made kind id)) said e = said
unrefusing refusable other (Whole (reply.Bytes runs)) said e = said
unrefusing refusable other (Whole (reply.Listed rows)) said e = said
unrefusing refusable other (Whole (reply.Moved map grain)) said e = said
unrefusing refusable other (Whole reply.Idle) said e = tt
unrefusing refusable other (Whole (reply.Offline map state)) said e = said
unrefusing refusable other (Whole (reply.NotAccessible map)) said e = said
unrefusing refusable other (Whole reply.DiskFault) said e = tt
unrefusing refusable other (Whole reply.MediumError) said e = tt
unrefusing refusable other (Whole reply.NoMemory) said e = tt
unrefusing refusable other (Rows rows) said e = said

said_more : (refusable : Bool) (line : ReplyLine) → MayBeSaid refusable line → MayBeSaid true line
said_more true line said = said
said_more false line said =
    elim (cases (refuses line)) [
      | inl refused ↦ absurd (false≢true (refusing false line said refused).0)
      | inr other ↦ unrefusing false true line said other
    ]

image_said : (line : ReplyLine) → Image IsRefusal refused_of line → MayBeSaid true line × (refuses line ≡ true)
image_said line image =
    let P : ReplyLine → Type 0 = λ l. MayBeSaid true l × (refuses l ≡ true) in
    let at : P (refused_of image.0) = ((refl, image.1), refl) in
    subst P image.2 at

-- ---- which request it was

-- a request that is asked so, and its reply
pub record Exchanged (asked : Asked) (r : Request) (answered : Reply) : Type 0 where
  pub asks : asked_of r ≡ asked
  pub is : IsExchange r answered

le_true : (a b : ℕ) → a ≤ b → nat_le a b ≡ true
le_true a b h = grind (arith, nat_tests)

of_le : (a b : ℕ) → nat_le a b ≡ true → a ≤ b
of_le a b h = grind (arith, nat_tests)

number_of_le : (n : ℕ) → is_short n ≡ true → n ≤ 4294967295
number_of_le n short = of_le n 4294967295 short

-- the reply of a line
abbrev Answers : ReplyLine → Reply → Type 0
Answers line answered = said_line answered ≡ line

answer_said : (line : ReplyLine) (answered : Reply) → Answers line answered → MayBeSaid true line → MayBeSaid true (said_line answered)
answer_said line answered answers said = subst (MayBeSaid true) (sym answers) said

answer_refused : (line : ReplyLine) (answered : Reply) (t : Bool) → Answers line answered → refuses line ≡ t → is_refused answered ≡ t
answer_refused line answered t answers e = sym (told_same answered) ∙ ap refuses answers ∙ e

some_request : (r : Option Request) (x : Request) → r ≡ Some x → unwrap_or r (request.CopyTurn 0) ≡ x
some_request r x e = rw e refl

known_by :
    (asked : Asked) (line : ReplyLine) (answered : Reply) (r : Request) → request_of asked (reply_told line) ≡ Some r → Exchanged asked r answered →
    Exchanged asked (request_by asked line) answered
known_by asked line answered r is exchanged =
    subst (λ (x : Request). Exchanged asked x answered) (sym (some_request (request_of asked (reply_told line)) r is)) exchanged

whole_is : (answered r : Reply) → said_line answered ≡ Whole r → answered ≡ r
whole_is reply.Done r e = cc
whole_is (reply.Made kind id) r e = cc
whole_is (reply.Bytes runs) r e = cc
whole_is (reply.Moved map grain) r e = cc
whole_is reply.Idle r e = cc
whole_is (reply.Offline map state) r e = cc
whole_is (reply.NotAccessible map) r e = cc
whole_is reply.DiskFault r e = cc
whole_is reply.MediumError r e = cc
whole_is reply.NoMemory r e = cc
whole_is (reply.Refused refusal) r e = cc
whole_is (reply.Listed rows) r e = absurd cc

command_plain : (c : Command) (answered : Reply) → IsNoAccess c → (asked_of (request.Command c) ≡ OfCommand c) × MayAnswer (request.Command c) answered
command_plain (command.Read volume block count) answered bare = absurd bare
command_plain (command.Write volume block count byte) answered bare = absurd bare
command_plain (command.Mkvdisk name size unit thin) answered bare = (refl, tt)
command_plain (command.Rmvdisk volume) answered bare = (refl, tt)
command_plain (command.Armfault volume grain calls) answered bare = (refl, tt)
command_plain (command.Advance seconds) answered bare = (refl, tt)
command_plain (command.Mkfcmap source target name group copy clean size incremental autodelete) answered bare = (refl, tt)
command_plain (command.Prestartfcmap map restore) answered bare = (refl, tt)
command_plain (command.Startfcmap map prep restore) answered bare = (refl, tt)
command_plain (command.Stopfcmap map way) answered bare = (refl, tt)
command_plain (command.Rmfcmap map force) answered bare = (refl, tt)
command_plain (command.Mkfcconsistgrp name) answered bare = (refl, tt)
command_plain (command.Prestartfcconsistgrp group restore) answered bare = (refl, tt)
command_plain (command.Startfcconsistgrp group prep restore) answered bare = (refl, tt)
command_plain (command.Stopfcconsistgrp group way) answered bare = (refl, tt)
command_plain (command.Rmfcconsistgrp group force) answered bare = (refl, tt)
command_plain (command.Lsfcmap map delim) answered bare = (refl, tt)
command_plain (command.Lsfcconsistgrp group delim) answered bare = (refl, tt)
command_plain (command.Lsvdisk delim) answered bare = (refl, tt)
command_plain (command.Lsfcmapprogress map delim) answered bare = (refl, tt)
command_plain (command.Lsfcmapdependentmaps map delim) answered bare = (refl, tt)
command_plain (command.Mkpreset source preset name) answered bare = (refl, tt)
command_plain (command.Lsvdiskroom delim) answered bare = (refl, tt)

read_to :
    (volume : Ref) (block count : ℕ) (line : ReplyLine) (answered : Reply) → IsAsked (Read volume block count) → FitsLine (Read volume block count) line → Answers line answered →
    Exchanged (Read volume block count) (request_by (Read volume block count) line) answered
read_to (Id id) block count line answered is fits answers =
    elim (cases (refuses line)) [
      | inl refused ↦
          let s = refusing (is_short block) line fits refused in
          let r : Request = request.Command (command.Read (Id id) block count) in
          known_by (Read (Id id) block count) line answered r
          (ap (λ b. read_of b (Id id) block count) refused ∙ at_true (nat_le block 4294967295) (Some r) None s.0)
          (
          record {
            asks = refl;
            is = record {
              request = (is.0, number-of block (number_of_le block s.0), is.1.1);
              may = answer_refused line answered true answers refused;
              reply = answer_said line answered answers (image_said line s.1).0;
            };
          }
          )
      | inr other ↦
          let r : Request = request.Read (record { volume = record { 0 = id }; block = block; count = count }) in
          known_by (Read (Id id) block count) line answered r (ap (λ b. read_of b (Id id) block count) other)
          (
          record {
            asks = refl;
            is = record {
              request = is;
              may = answer_refused line answered false answers other;
              reply = answer_said line answered answers (said_more (is_short block) line fits);
            };
          }
          )
    ]
read_to (Name name) block count line answered is fits answers =
    let s = image_said line fits in
    let r : Request = request.Command (command.Read (Name name) block count) in
    known_by (Read (Name name) block count) line answered r
    (ap (λ b. read_of b (Name name) block count) s.1 ∙ at_true (nat_le block 4294967295) (Some r) None (le_true block 4294967295 is.1.0))
    (
    record {
      asks = refl;
      is = record {
        request = (is.0, number-of block is.1.0, is.1.1);
        may = answer_refused line answered true answers s.1;
        reply = answer_said line answered answers s.0;
      };
    }
    )

write_to :
    (volume : Ref) (block count byte : ℕ) (line : ReplyLine) (answered : Reply) → IsAsked (Write volume block count byte) → FitsLine (Write volume block count byte) line → Answers line answered →
    Exchanged (Write volume block count byte) (request_by (Write volume block count byte) line) answered
write_to (Id id) block count byte line answered is fits answers =
    elim (cases (refuses line)) [
      | inl refused ↦
          let s = refusing (is_short block) line fits refused in
          let r : Request = request.Command (command.Write (Id id) block count byte) in
          known_by (Write (Id id) block count byte) line answered r
          (ap (λ b. write_of b (Id id) block count byte) refused ∙ at_true (nat_le block 4294967295) (Some r) None s.0)
          (
          record {
            asks = refl;
            is = record {
              request = (is.0, number-of block (number_of_le block s.0), is.1.1.0, is.1.1.1);
              may = answer_refused line answered true answers refused;
              reply = answer_said line answered answers (image_said line s.1).0;
            };
          }
          )
      | inr other ↦
          let r : Request = request.Write (record { volume = record { 0 = id }; block = block; count = count; byte = byte }) in
          known_by (Write (Id id) block count byte) line answered r (ap (λ b. write_of b (Id id) block count byte) other)
          (
          record {
            asks = refl;
            is = record {
              request = is;
              may = answer_refused line answered false answers other;
              reply = answer_said line answered answers (said_more (is_short block) line fits);
            };
          }
          )
    ]
write_to (Name name) block count byte line answered is fits answers =
    let s = image_said line fits in
    let r : Request = request.Command (command.Write (Name name) block count byte) in
    known_by (Write (Name name) block count byte) line answered r
    (ap (λ b. write_of b (Name name) block count byte) s.1 ∙ at_true (nat_le block 4294967295) (Some r) None (le_true block 4294967295 is.1.0))
    (
    record {
      asks = refl;
      is = record {
        request = (is.0, number-of block is.1.0, is.1.1.0, is.1.1.1);
        may = answer_refused line answered true answers s.1;
        reply = answer_said line answered answers s.0;
      };
    }
    )

pub exchange_to :
    (asked : Asked) (line : ReplyLine) (answered : Reply) → IsAsked asked → FitsLine asked line → Answers line answered →
    Exchanged asked (request_by asked line) answered
exchange_to Unread line answered is fits answers =
    subst (λ (l : ReplyLine). Answers l answered → Exchanged Unread (request_by Unread l) answered) fits.2
    (
    λ same. record {
      asks = refl;
      is = record { request = tt; may = whole_is answered (reply.Refused (Words fits.0)) same; reply = fits.1 };
    }
    )
    answers
exchange_to (Read volume block count) line answered is fits answers = read_to volume block count line answered is fits answers
exchange_to (Write volume block count byte) line answered is fits answers = write_to volume block count byte line answered is fits answers
exchange_to (Copy map grain) line answered is fits answers = record {
  asks = refl;
  is = record { request = is; may = tt; reply = answer_said line answered answers fits };
}
exchange_to (Clean map grain) line answered is fits answers = record {
  asks = refl;
  is = record { request = is; may = tt; reply = answer_said line answered answers fits };
}
exchange_to (CopyTurn lane) line answered is fits answers = record {
  asks = refl;
  is = record { request = is; may = tt; reply = answer_said line answered answers fits };
}
exchange_to (CleanTurn lane) line answered is fits answers = record {
  asks = refl;
  is = record { request = is; may = tt; reply = answer_said line answered answers fits };
}
exchange_to (OfCommand c) line answered is fits answers =
    let plain = command_plain c answered is.1 in
    record {
      asks = plain.0;
      is = record { request = is.0; may = plain.1; reply = answer_said line answered answers fits };
    }

-- ---- and which line it has

told_listed : (asked : Asked) (rows : List (List ℕ)) → request_of asked reply.Done ≡ request_of asked (reply.Listed rows)
told_listed Unread rows = refl
told_listed (Read volume block count) rows = refl
told_listed (Write volume block count byte) rows = refl
told_listed (Copy map grain) rows = refl
told_listed (Clean map grain) rows = refl
told_listed (CopyTurn lane) rows = refl
told_listed (CleanTurn lane) rows = refl
told_listed (OfCommand c) rows = refl

told_request : (asked : Asked) (answered : Reply) → request_of asked (reply_told (said_line answered)) ≡ request_of asked answered
told_request asked reply.Done = refl
told_request asked (reply.Made kind id) = refl
told_request asked (reply.Bytes runs) = refl
told_request asked (reply.Moved map grain) = refl
told_request asked reply.Idle = refl
told_request asked (reply.Offline map state) = refl
told_request asked (reply.NotAccessible map) = refl
told_request asked reply.DiskFault = refl
told_request asked reply.MediumError = refl
told_request asked reply.NoMemory = refl
told_request asked (reply.Refused refusal) = refl
told_request asked (reply.Listed rows) = told_listed asked rows

short_of : (block : ℕ) → IsNumber block → is_short block ≡ true
short_of block is = le_true block 4294967295 (of-number block is)

access_from : (volume : Ref) (block : ℕ) (answered : Reply) → IsNumber block → MayBeSaid true (said_line answered) → is_refused answered ≡ true → FitsAccess (is_short block) (is_id volume) (said_line answered)
access_from (Id id) block answered is said refused = subst (λ b. MayBeSaid b (said_line answered)) (sym (short_of block is)) said
access_from (Name name) block answered is said refused = (refusing true (said_line answered) said (told_same answered ∙ refused)).1

command_from : (c : Command) (answered : Reply) → IsExchange (request.Command c) answered → FitsLine (asked_of (request.Command c)) (said_line answered)
command_from (command.Read volume block count) answered e = access_from volume block answered e.request.1 e.reply e.may
command_from (command.Write volume block count byte) answered e = access_from volume block answered e.request.1 e.reply e.may
command_from (command.Mkvdisk name size unit thin) answered e = e.reply
command_from (command.Rmvdisk volume) answered e = e.reply
command_from (command.Armfault volume grain calls) answered e = e.reply
command_from (command.Advance seconds) answered e = e.reply
command_from (command.Mkfcmap source target name group copy clean size incremental autodelete) answered e = e.reply
command_from (command.Prestartfcmap map restore) answered e = e.reply
command_from (command.Startfcmap map prep restore) answered e = e.reply
command_from (command.Stopfcmap map way) answered e = e.reply
command_from (command.Rmfcmap map force) answered e = e.reply
command_from (command.Mkfcconsistgrp name) answered e = e.reply
command_from (command.Prestartfcconsistgrp group restore) answered e = e.reply
command_from (command.Startfcconsistgrp group prep restore) answered e = e.reply
command_from (command.Stopfcconsistgrp group way) answered e = e.reply
command_from (command.Rmfcconsistgrp group force) answered e = e.reply
command_from (command.Lsfcmap map delim) answered e = e.reply
command_from (command.Lsfcconsistgrp group delim) answered e = e.reply
command_from (command.Lsvdisk delim) answered e = e.reply
command_from (command.Lsfcmapprogress map delim) answered e = e.reply
command_from (command.Lsfcmapdependentmaps map delim) answered e = e.reply
command_from (command.Mkpreset source preset name) answered e = e.reply
command_from (command.Lsvdiskroom delim) answered e = e.reply

pub line_from : (r : Request) (answered : Reply) → IsExchange r answered → FitsLine (asked_of r) (said_line answered)
line_from (request.Command c) answered e = command_from c answered e
line_from (request.Unread fault) answered e = (fault, e.reply, sym (ap said_line e.may))
line_from (request.Read part) answered e = unrefusing true (is_short part.block) (said_line answered) e.reply (told_same answered ∙ e.may)
line_from (request.Write part) answered e = unrefusing true (is_short part.block) (said_line answered) e.reply (told_same answered ∙ e.may)
line_from (request.Copy map grain) answered e = e.reply
line_from (request.Clean map grain) answered e = e.reply
line_from (request.CopyTurn lane) answered e = e.reply
line_from (request.CleanTurn lane) answered e = e.reply

pub asked_from : (r : Request) (answered : Reply) → IsExchange r answered → IsAsked (asked_of r)
asked_from r answered e = (request_line r e.request).0

pub request_from : (r : Request) (answered : Reply) → IsExchange r answered → request_by (asked_of r) (said_line answered) ≡ r
request_from r answered e =
    some_request (request_of (asked_of r) (reply_told (said_line answered))) r (told_request (asked_of r) answered ∙ the-law.known r answered e.request e.may)
