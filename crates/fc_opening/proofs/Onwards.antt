-- One fault more is told to `main`, or it stops there.
use Rattle.std.proofs.Common.{◌≡◌, List, [], ◌∷◌, ◌++◌, map, Ok, Err, refl, ◌∙◌, sym, ap, subst}
use Rattle.fc_base.specs.declared.fault.WordFault.{WordFault}
use Rattle.fc_base.specs.declared.request.Request.{Request}
use Rattle.fc_base.specs.declared.size.GrainSize.{GrainSize}
use Rattle.fc_entry.specs.HistoryState.{HistoryState}
use Rattle.fc_entry.specs.declared.entry.Entry.{Entry}
use Rattle.fc_entry.specs.declared.stop.Stop.{Stop}
use Rattle.fc_entry.specs.declared.stop.Stop.TheVariants.{LogFull, NoMemory}
use Rattle.fc_legal.specs.Added.{Adds, IsOf, IsTold, Reached}
use Rattle.fc_legal.specs.Scripts.{faults_asked}
use Rattle.fc_legal.specs.Whole.{Whole}
use Rattle.fc_stands.specs.Logged.{Logged, anything}
use Rattle.law_together.proofs.Steps.{steps_law_holds}
use Rattle.law_together.specs.Telling.{AreTold}
use Rattle.fc_opening.specs.Telling.{FaultsTold}
use Rattle.std.proofs.lemmas.List.{append-nil, append_assoc, map-append}
use Rattle.std.proofs.lemmas.List.Elements.{All-append, All-cons, All-nil}

-- The first of the faults were told, and these requests are left.
abbrev pub SoFar : (Whole → Type 0) → GrainSize → Whole → List WordFault → List Request → HistoryState → HistoryState → Type 0
SoFar Stands grain w faults left old new =
    Reached Stands new (λ last. Adds old new (λ more. AreTold grain w faults more left last))

module _ (Stands : Whole → Type 0) (grain : GrainSize) (w : Whole) (faults : List WordFault) where
  -- None so far.
  pub none_yet : (old : HistoryState) → IsTold Stands old w → SoFar Stands grain w faults (faults_asked faults) old old
  none_yet old told =
      (w, told, record { more = []; entries = sym (append-nil old.entries); are = record { by_main = All-nil (λ (e : Entry). e.actor ≡ 0); asked = refl; steps = refl } })

  -- One more.
  pub one_more :
      (wanted : Request) (rest : List Request) (old mid new : HistoryState) →
      SoFar Stands grain w faults (wanted ∷ rest) old mid →
      ((m : Whole) → IsTold Stands mid m → Logged {A = Unit {0}} (Ok tt) anything Stands grain m wanted mid new) →
      SoFar Stands grain w faults rest old new
  one_more wanted rest old mid new so_far logged =
      let m : Whole = so_far.0 in
      let adds = so_far.2 in
      let l = logged m so_far.1 in (
        l.next,
        l.told,
        record {
          more = adds.more ++ l.entry ∷ [];
          entries =
              ap (λ (h : HistoryState). h.entries) l.pushed
              ∙ ap (λ (es : List Entry). es ++ l.entry ∷ []) adds.entries
              ∙ append_assoc old.entries adds.more (l.entry ∷ []);
          are = record {
            by_main = All-append (λ (e : Entry). e.actor ≡ 0) adds.more (l.entry ∷ []) adds.are.by_main (All-cons (λ (e : Entry). e.actor ≡ 0) l.entry [] l.by_main (All-nil (λ (e : Entry). e.actor ≡ 0)));
            asked =
                ap (λ (rs : List Request). rs ++ rest) (map-append (λ (e : Entry). e.request) adds.more (l.entry ∷ []))
                ∙ append_assoc (map (λ (e : Entry). e.request) adds.more) (l.entry.request ∷ []) rest
                ∙ ap (λ (r : Request). map (λ (e : Entry). e.request) adds.more ++ r ∷ rest) l.asked
                ∙ adds.are.asked;
            steps = steps_law_holds.append grain w m l.next adds.more (l.entry ∷ []) adds.are.steps (l.next, l.right, refl);
          };
        },
      )

  -- Or it stops before that.
  pub stopped :
      (stop : Stop) (wanted : Request) (rest : List Request) (old mid new : HistoryState) →
      SoFar Stands grain w faults (wanted ∷ rest) old mid →
      ((m : Whole) → IsTold Stands mid m → Logged {A = Unit {0}} (Err stop) anything Stands grain m wanted mid new) →
      FaultsTold {A = Unit {0}} (Err stop) Stands grain w faults old new
  stopped LogFull wanted rest old mid new so_far logged =
      let adds = so_far.2 in
      let full = logged so_far.0 so_far.1 in (
        full.full,
        (
          so_far.0,
          full.told,
          record {
            more = adds.more;
            entries = ap (λ (h : HistoryState). h.entries) full.same ∙ adds.entries;
            are = (wanted, rest, adds.are);
          },
        ),
      )
  stopped NoMemory wanted rest old mid new so_far logged =
      let adds = so_far.2 in
      let same : new ≡ mid = logged so_far.0 so_far.1 in (
        so_far.0,
        subst (λ (h : HistoryState). IsOf so_far.0 h) (sym same) so_far.1.1,
        record {
          more = adds.more;
          entries = ap (λ (h : HistoryState). h.entries) same ∙ adds.entries;
          are = (wanted ∷ rest, adds.are);
        },
      )
