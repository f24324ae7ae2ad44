-- Scripts that were prepared ask what their actors ask, and suit the store.
use Rattle.std.proofs.Common.{◌≡◌, ℕ, ◌<◌, ◌≤◌, List, [], ◌∷◌, All, vec_capacity, refl, sym, ap, ◌∙◌, subst}
use Rattle.std.proofs.lemmas.List.Elements.{All-nil, All-cons, All-head, All-tail}
use Rattle.fc_actors.specs.Scripts.{Suits, left_of, work_left}
use Rattle.fc_actors.specs.Shares.{HasShare}
use Rattle.fc_actors.specs.declared.script.ActorScript.{ActorScript}
use Rattle.fc_base.specs.declared.size.GrainSize.{GrainSize}
use Rattle.fc_blocks.specs.declared.block.ActorRead.{ActorRead}
use Rattle.fc_entry.specs.declared.entry.Entry.{Entry}
use Rattle.fc_legal.specs.Scripts.{asked_as, script_of, scripts_of}
use Rattle.fc_legal.specs.Whole.{Whole, lanes}
use Rattle.fc_shares.specs.Situation.{Situation, HasControl, IsSound, LeadsTo, entries_told}
use Rattle.fc_stands.specs.Store.{StandsFor, StoreView}
use Rattle.fc_store.specs.StoreParts.{parts_view}
use Rattle.fc_store.specs.declared.store_part.StorePart.{StorePart}
use Rattle.fc_store.specs.declared.store_part.StorePart.TheVariants.{Control}
use Rattle.fc_yard.specs.Whole.{OpensWith}
use Rattle.fc_prepare.specs.Items.{IsOfActor, IsToldBy}
use Rattle.fc_prepare.specs.Scripts.{AreScriptsOf, AskTheirs, IsScriptOf}

asks_its : {D : Type 0} (store : StoreView) (names : List (List ℕ)) (actor : ActorRead) (script : ActorScript D) (w : Whole) → StandsFor store w → IsScriptOf store names actor script
    → left_of script ≡ (script_of store.control.grain (lanes w) w.books names actor).requests
asks_its store names actor script w stands is =
    ap (λ (size : GrainSize). work_left size script.lanes script.work) is.grain
    ∙ ap (λ (n : ℕ). work_left store.control.grain n script.work) is.lanes
    ∙ is.work.asked w.books (sym stands.control.tables)
    ∙ ap (λ (n : ℕ). asked_as actor.role store.control.grain n w.books actor.lines) stands.count

pub ask_theirs : {D : Type 0} (store : StoreView) (names : List (List ℕ)) (actors : List ActorRead) (scripts : List (ActorScript D)) (w : Whole) → StandsFor store w
    → AreScriptsOf store names actors scripts → AskTheirs scripts (scripts_of store.control.grain (lanes w) w.books names actors)
ask_theirs store names [] [] w stands are = tt
ask_theirs store names (actor ∷ actors) (script ∷ scripts) w stands are =
    ((are.0.number, asks_its store names actor script w stands are.0), ask_theirs store names actors scripts w stands are.1)
ask_theirs store names [] (script ∷ scripts) w stands are = absurd are
ask_theirs store names (actor ∷ actors) [] w stands are = absurd are

opens_told : {D : Type 0} (store : StoreView) (first : ℕ) (w0 : Situation)
    → OpensWith {E = Entry} {P = StorePart D} (λ opening w p part. HasShare opening w p part) (λ a b. IsSound a b) entries_told (λ a n e b. LeadsTo a n e b) (parts_view store) first w0
    → IsToldBy store.control w0
opens_told store first w0 opens =
    let has : HasControl w0 store.control = opens.fit 0 (Control store.control) refl in
    record { grain = sym has.grain; tables = sym has.books.tables }

suits_it : {D : Type 0} (store : StoreView) (names : List (List ℕ)) (actor : ActorRead) (script : ActorScript D) (w : Whole) (limit : ℕ) → limit ≤ 262144 → StandsFor store w
    → IsScriptOf store names actor script → All IsOfActor actor.lines → Suits script (parts_view store) limit
suits_it store names actor script w limit few stands is of =
    let some : 0 < lanes w = stands.stands.each_lane.some in
    record {
      store = store;
      parts_are = refl;
      count = sym is.lanes;
      some = subst (λ n. 0 < n) (sym (is.lanes ∙ stands.count)) some;
      lanes_are = λ i d inside. (stands.each i d inside).lanes_are ∙ sym (is.lanes ∙ stands.count);
      grain = sym is.grain;
      few = few;
      tray = (is.tray.0, subst (λ n. n ≤ vec_capacity script.tray) (sym is.lanes) is.tray.1);
      work = λ first w0 opens. is.work.suits w0 (opens_told store first w0 opens) of;
    }

pub suit_all : {D : Type 0} (store : StoreView) (names : List (List ℕ)) (actors : List ActorRead) (scripts : List (ActorScript D)) (w : Whole) (limit : ℕ) → limit ≤ 262144 → StandsFor store w
    → AreScriptsOf store names actors scripts → All (λ (a : ActorRead). All IsOfActor a.lines) actors → All (λ (script : ActorScript D). Suits script (parts_view store) limit) scripts
suit_all store names [] [] w limit few stands are of = All-nil (λ (script : ActorScript _). Suits script (parts_view store) limit)
suit_all store names (actor ∷ actors) (script ∷ scripts) w limit few stands are of =
    All-cons (λ (s : ActorScript _). Suits s (parts_view store) limit) script scripts
    (suits_it store names actor script w limit few stands are.0 (All-head (λ (a : ActorRead). All IsOfActor a.lines) actor actors of))
    (suit_all store names actors scripts w limit few stands are.1 (All-tail (λ (a : ActorRead). All IsOfActor a.lines) actor actors of))
suit_all store names [] (script ∷ scripts) w limit few stands are of = absurd are
suit_all store names (actor ∷ actors) [] w limit few stands are of = absurd are
