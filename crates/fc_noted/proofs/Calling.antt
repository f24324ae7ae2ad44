-- Calls of the disk of metadata by one part of a line, and by another behind it.
use Rattle.std.proofs.Common.{◌≡◌, ℕ, ◌+◌, List, sym, ap, subst, ◌∙◌, arith}
use Rattle.std.specs.Prelude.{Err, Ok, OnOk, Result}
use Rattle.fc_base.specs.Count.{HasRisen}
use Rattle.fc_marks.specs.Meter.{Meter}
use Rattle.fc_marks.specs.declared.error.NotedStop.{NotedStop}
use Rattle.fc_meta.proofs.Asked.{calls_added}
use Rattle.fc_meta.specs.Answers.{more_calls}
use Rattle.fc_meta.specs.States.{disk_of}
use Rattle.fc_noted.proofs.CallsMade.{failed_as}
use Rattle.fc_noted.specs.Making.{KeepsCount}
use Rattle.fc_noted.specs.Stopping.{StopsInto}
use Rattle.fc_noted.specs.declared.noted.Noted.{Noted}

module _ {C D : Type 0} (seen : D → List ℕ) (fault_count calls : D → ℕ) where
  abbrev Whole : ℕ → ℕ → Noted C D → Noted C D → Type 0
  Whole made counted old new = (made ≡ counted) × (fault_count (disk_of new.meta) ≡ fault_count (disk_of old.meta))

  -- of a part that was made whole: as many as were counted
  pub calls_whole : {T : Type 0} {first : T} (old new : Noted C D) (a : KeepsCount seen fault_count calls (Ok first) old new) → calls (disk_of new.meta) ≡ more_calls a.counted (calls (disk_of old.meta))
  calls_whole old new a = a.called ∙ ap (λ (n : ℕ). more_calls n (calls (disk_of old.meta))) a.whole.0

  -- and of another
  pub calls_behind : {T U : Type 0} {first : T} (last : Result U NotedStop) (old mid new : Noted C D) → KeepsCount seen fault_count calls (Ok first) old mid → KeepsCount seen fault_count calls last mid new →
      KeepsCount seen fault_count calls last old new
  calls_behind last old mid new a b =
      record {
        counted = b.counted + a.counted;
        made = b.made + a.made;
        count = b.count ∙ (ap (more_calls b.counted) a.count ∙ calls_added b.counted a.counted old.calls);
        called = b.called ∙ (ap (more_calls b.made) a.called ∙ calls_added b.made a.made (calls (disk_of old.meta)));
        within = let x = a.within in let y = b.within in omega (arith, x, y);
        whole = by last b.whole;
        failed = λ told. subst (λ (n : ℕ). HasRisen n (fault_count (disk_of new.meta))) a.whole.1 (b.failed told);
        unfailed = λ told. b.unfailed told ∙ a.whole.1;
        size = b.size ∙ a.size;
      }
    where
      by : {U : Type 0} (last : Result U NotedStop) → OnOk last (Whole b.made b.counted mid new) → OnOk last (Whole (b.made + a.made) (b.counted + a.counted) old new)
      by (Ok y) two = let one = a.whole.0 in let other = two.0 in (omega (arith, one, other), two.1 ∙ a.whole.1)
      by (Err stop) two = tt

  -- of one that was made whole, whatever it came to
  pub calls_of : {T U : Type 0} {first : T} (last : U) (old new : Noted C D) → KeepsCount seen fault_count calls (Ok first) old new → KeepsCount seen fault_count calls (Ok last) old new
  calls_of last old new a =
      record {
        counted = a.counted;
        made = a.made;
        count = a.count;
        called = a.called;
        within = a.within;
        whole = a.whole;
        failed = λ told. absurd cc;
        unfailed = λ told. absurd cc;
        size = a.size;
      }

  -- and of one that wasn't
  pub calls_before : {T U : Type 0} (stop : NotedStop) (old new : Noted C D) → KeepsCount {T = T} seen fault_count calls (Err stop) old new → KeepsCount {T = U} seen fault_count calls (Err stop) old new
  calls_before stop old new a =
      record {
        counted = a.counted;
        made = a.made;
        count = a.count;
        called = a.called;
        within = a.within;
        whole = tt;
        failed = λ told. a.failed (failed_as stop told);
        unfailed = λ told. a.unfailed (failed_as stop told);
        size = a.size;
      }

  -- where it stopped behind a part that was made whole
  pub stops_behind : {T : Type 0} {first : T} (stop : NotedStop) (old mid new : Noted C D) (into : Meter) → KeepsCount seen fault_count calls (Ok first) old mid → StopsInto calls stop mid new into → StopsInto calls stop old new into
  stops_behind stop old mid new into a s =
      record {
        counted = s.counted;
        made = s.made + a.counted;
        called = s.called ∙ (ap (more_calls s.made) (calls_whole old mid a) ∙ calls_added s.made a.counted (calls (disk_of old.meta)));
        all = s.all;
        in_all = sym (calls_added s.made a.counted old.calls) ∙ (ap (more_calls s.made) (sym a.count) ∙ s.in_all);
        cause = s.cause;
      }
