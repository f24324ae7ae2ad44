-- What it leaves of the history and of the store to run the scripts of a block's actors beside each other.
use Rattle.std.specs.Prelude.{◌≡◌, ◌+◌, ◌≤◌, List, length, Result, Ok, Err}
use Rattle.fc_base.specs.declared.size.GrainSize.{GrainSize}
use Rattle.fc_entry.specs.HistoryState.{HistoryState}
use Rattle.fc_entry.specs.declared.entry.Entry.{Entry}
use Rattle.fc_entry.specs.declared.stop.Stop.{Stop}
use Rattle.fc_entry.specs.declared.stop.Stop.TheVariants.{LogFull, NoMemory}
use Rattle.fc_legal.specs.Added.{Adds, IsOf, Reached}
use Rattle.fc_legal.specs.Legal.{AreSteps}
use Rattle.fc_legal.specs.Scripts.{Script}
use Rattle.fc_legal.specs.Whole.{Whole}
use Rattle.fc_scripts.specs.Actors.{AreAll, AreFirst, WantMore}
use Rattle.fc_shares.specs.Law.{HaveShares, LeadOn, situation_of}
use Rattle.fc_shares.specs.Situation.{Situation}
use Rattle.fc_stands.specs.Store.{StoreView}
use Rattle.law_together.specs.Making.{AreDrawn, Making, all_made}

-- Right entries came: all that the scripts ask; or the first of it, up to 262,144 entries, and one more is next; or the first of
-- it, for want of memory. But for want of memory the store goes on to stand for what is told.
abbrev pub ScriptsRan : {A : Type 0} → Result A Stop → (Whole → Type 0) → GrainSize → Whole → List Script → HistoryState → HistoryState → Type 0
ScriptsRan (Ok _) Stands grain w scripts old new =
    Reached Stands new (λ last. Adds old new (λ more. AreSteps grain w more last × AreAll scripts more))
ScriptsRan (Err LogFull) Stands grain w scripts old new =
    (length new.entries ≡ 262144) × Reached Stands new (λ last. Adds old new (λ more. AreSteps grain w more last × WantMore scripts more))
ScriptsRan (Err NoMemory) Stands grain w scripts old new =
    (last : Whole) × IsOf last new × Adds old new (λ more. AreSteps grain w more last × AreFirst scripts more)

-- What actors made led from what a store stood for to something of which all parts have their shares again, within the limit.
pub record IsRun (store new : StoreView) (w : Whole) (makings : List Making) : Type 0 where
  pub entries : List Entry
  pub drawn : AreDrawn w.entries entries (all_made makings)
  pub last : Situation
  pub leads : LeadOn (situation_of store w) w.entries entries last
  pub shares : HaveShares (situation_of store w) last store.lanes new
  pub room : w.entries + length entries ≤ 262144
