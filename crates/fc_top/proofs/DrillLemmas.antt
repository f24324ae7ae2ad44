-- A drill ends as a session that is read from memory.
use Rattle.std.proofs.Common.{◌≡◌, ℕ, ◌≤◌, List, [], ◌∷◌, ◌++◌, length, Option, Some, None, refl, sym, subst, arith, ap, ◌∙◌, length-append, append-nil, true, false, is_some, IfSome, inl, inr}
use Rattle.std.proofs.lemmas.Bool.{false≢true}
use Rattle.std.specs.Option.{option_map}
use Rattle.fc_base.specs.Count.{HasRisen}
use Rattle.fc_base.specs.declared.size.GrainSize.TheVariants.{K64}
use Rattle.fc_blocks.specs.Segments.{cut}
use Rattle.fc_call.proofs.Statuses.{same_ended}
use Rattle.fc_call.specs.Call.{Call, session_of}
use Rattle.fc_entry.specs.Lines.{all_lines}
use Rattle.fc_gen.specs.Session.{session_text}
use Rattle.fc_io.specs.Source.{SourceState}
use Rattle.fc_run.specs.Headline.{EndsAs}
use Rattle.fc_run.specs.Takes.{EachGave}
use Rattle.fc_run.specs.declared.ended.Ended.{Ended}
use Rattle.fc_run.specs.declared.ended.Ended.TheVariants as ended
use Rattle.fc_run.specs.declared.form.Form.TheVariants.{Summary}
use Rattle.fc_top.proofs.DrillLines.{drill_closed}
use Rattle.fc_top.proofs.QuietSource.{EachGave-quiet}
use Rattle.fc_top.proofs.SessionLength.{session_text-short}
use Rattle.fc_owner.specs.FirstTold.{first_told}
use Rattle.fc_top.specs.Ends.{DrillEnds, drill_source}
use Rattle.fc_top.specs.PlainEnds.{PlainEnds}
use Rattle.fc_owner.specs.PlainRuns.{plain_runs}

risen-none : (n : ℕ) → n ≡ 0 → HasRisen 0 n → ⊥
risen-none n none (inl rose) = omega (arith, none, rose)
risen-none n none (inr last) = omega (arith, none, last)

-- what was taken of a text is no longer than it
taken-le : (text bytes : List ℕ) (left : Option (List ℕ)) → Some text ≡ option_map (λ rest. bytes ++ rest) left → length bytes ≤ length text
taken-le text bytes None gave =
    let none : Some text ≡ None = gave in
    absurd (cc none)
taken-le text bytes (Some rest) gave =
    let some : Some text ≡ Some (bytes ++ rest) = gave in
    let whole : text ≡ bytes ++ rest = cc some in
    omega (arith, ap length whole, length-append bytes rest)

-- at its end all of a text was taken
taken-all : (text bytes : List ℕ) (left : Option (List ℕ)) → Some text ≡ option_map (λ rest. bytes ++ rest) left → IfSome left (λ rest. rest ≡ []) → text ≡ bytes
taken-all text bytes None gave end =
    let none : Some text ≡ None = gave in
    absurd (cc none)
taken-all text bytes (Some rest) gave end =
    let some : Some text ≡ Some (bytes ++ rest) = gave in
    let whole : text ≡ bytes ++ rest = cc some in
    whole ∙ (ap (λ r. bytes ++ r) end ∙ append-nil bytes)

-- no block is open after it
never_open : (number : ℕ) (bytes : List ℕ) → session_text number ≡ bytes → is_some (cut (all_lines bytes)).open_block ≡ true → ⊥
never_open number bytes whole is_open =
    let closed : is_some (cut (all_lines bytes)).open_block ≡ false = ap (λ bs. is_some (cut (all_lines bs)).open_block) (sym whole) ∙ ap is_some (drill_closed number) in
    false≢true (sym closed ∙ is_open)

pub drill_ends :
    (number : ℕ) (left : SourceState) (call : Call) →
    call.source' ≡ call.source →
    EachGave (drill_source number) left →
    PlainEnds Summary K64 (drill_source number) left call →
    DrillEnds number call
drill_ends number left call same gave ends =
    let none : left.faults ≡ 0 = EachGave-quiet (drill_source number) left refl gave in
    let P : Ended → Type 0 = λ e. EndsAs e (session_of e Summary (drill_source number) left call) (plain_runs K64 (first_told call.disks) ends.last) ends.session.bytes in
    record {
      source = same;
      left = left;
      no_fault = none;
      readable = λ is.
          let e : ends.ended ≡ ended.ReadFault = same_ended ended.ReadFault ends.ended (sym ends.status ∙ is) in
          let fault : P ended.ReadFault = subst P e ends.session.ends in
          risen-none left.faults none fault.0;
      fits = λ is.
          let e : ends.ended ≡ ended.TooLong = same_ended ended.TooLong ends.ended (sym ends.status ∙ is) in
          let long : P ended.TooLong = subst P e ends.session.ends in
          omega (
            arith,
            taken-le (session_text number) ends.session.bytes left.left ends.session.gave,
            session_text-short number,
            ap length long.2,
            length-append long.0 (long.1 ∷ []),
            long.3,
          );
      closed = λ is.
          let e : ends.ended ≡ ended.Unended = same_ended ended.Unended ends.ended (sym ends.status ∙ is) in
          let unended : P ended.Unended = subst P e ends.session.ends in
          never_open number ends.session.bytes (taken-all (session_text number) ends.session.bytes left.left ends.session.gave unended.0) unended.3;
      ends = ends;
    }

-- the source over the bytes that were made
pub drill_source-made :
    (source : SourceState) (bytes failing : List ℕ) (number : ℕ) →
    source ≡ record { left = Some bytes; failing = Some failing; faults = 0 } →
    bytes ≡ session_text number →
    failing ≡ [] →
    source ≡ drill_source number
drill_source-made source bytes failing number made text none =
    let Bytes : List ℕ → Type 0 = λ b. source ≡ record { left = Some b; failing = Some failing; faults = 0 } in
    let None : List ℕ → Type 0 = λ f. source ≡ record { left = Some (session_text number); failing = Some f; faults = 0 } in
    subst None none (subst Bytes text made)
