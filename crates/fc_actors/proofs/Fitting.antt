-- What a script that suits the parts of a yard knows of what is told there.
use Rattle.std.proofs.Common.{◌≡◌, ◌≢◌, ℕ, zero, suc, ◌<◌, ◌≤◌, vec_capacity, List, [], ◌∷◌, All, sym, ap, ◌∙◌, subst}
use Rattle.std.proofs.lemmas.List.Elements.{All-head, All-tail}
use mathlib.Core.Option.{some, some-ne-none}
use lib.ListN.{get_elem?}
use Rattle.fc_desk.specs.Control.{ControlState}
use Rattle.fc_entry.specs.declared.entry.Entry.{Entry}
use Rattle.fc_lane.specs.Lane.{LaneView}
use Rattle.fc_shares.specs.Law.{ApartLeads, LaneLeads}
use Rattle.fc_shares.specs.Situation.{Situation, HasControl, HasLane, IsSound, LeadsTo, entries_told}
use Rattle.fc_shares.proofs.Lawful.{share_law_holds}
use Rattle.fc_store.specs.StoreParts.{lane_parts}
use Rattle.fc_store.specs.declared.store_part.StorePart.{StorePart}
use Rattle.fc_store.specs.declared.store_part.StorePart.TheVariants.{Control, Lane}
use Rattle.fc_tasks.specs.Tasks.{IsPartOf, IsTold, PartLeads}
use Rattle.fc_tasks.specs.declared.script.Needs.TheVariants.{Part}
use Rattle.fc_yard.specs.Whole.{OpensWith}
use Rattle.fc_actors.specs.Scripts.{CanActIn, FitsFirst, IsSameScript, Suits, needs_of}
use Rattle.fc_actors.specs.Shares.{HasShare}
use Rattle.fc_actors.specs.declared.script.ActorScript.{ActorScript}

lane_at_place : {D : Type 0} (P : LaneView → Type 0) (ls : List LaneView) (i : ℕ) (v : LaneView) → All P ls → get_elem? (lane_parts {D = D} ls) i ≡ some (Lane v) → P v
lane_at_place P [] i v all at = absurd (some-ne-none _ (sym at))
lane_at_place P (l ∷ ls) zero v all at = let same : l ≡ v = cc in subst P same (All-head P l ls all)
lane_at_place P (l ∷ ls) (suc i) v all at = lane_at_place P ls i v (All-tail P l ls all) at

module _ {D : Type 0} where
  abbrev Opens : List (StorePart D) → ℕ → Situation → Type 0
  Opens parts first w0 = OpensWith {E = Entry} {P = StorePart D} (λ opening w p part. HasShare opening w p part) (λ a b. IsSound a b) entries_told (λ a n e b. LeadsTo a n e b) parts first w0

  module _ (s : ActorScript D) (openings : List (StorePart D)) (limit first : ℕ) (w0 : Situation) (suits : Suits s openings limit) (opens : Opens openings first w0) where
    pub opening_control : HasControl w0 suits.store.control
    opening_control = opens.fit 0 (Control suits.store.control) (ap (λ (l : List (StorePart D)). get_elem? l 0) suits.parts_are)

    pub fits_first : (i : ℕ) (v : LaneView) → get_elem? openings (suc i) ≡ some (Lane v) → FitsFirst w0 s
    fits_first i v at =
        let there : get_elem? (lane_parts suits.store.lanes) i ≡ some (Lane v) = ap (λ (l : List (StorePart D)). get_elem? l (suc i)) (sym suits.parts_are) ∙ at in record {
          grain = sym opening_control.grain ∙ suits.grain;
          lanes_are = share_law_holds.count w0 i v v (opens.fit (suc i) (Lane v) at) ∙ lane_at_place (λ (u : LaneView). u.lanes ≡ s.lanes) suits.store.lanes i v suits.lanes_are there;
          work = suits.work first w0 opens;
        }

  abbrev pub OfYard : List (StorePart D) → ℕ → ℕ → StorePart D → Type 0
  OfYard openings limit p part = IsPartOf {E = Entry} {P = StorePart D} (λ opening w q x. HasShare opening w q x) (λ a b. IsSound a b) entries_told (λ a n e b. LeadsTo a n e b) openings limit p part

  pub can_act_in : (s : ActorScript D) (openings : List (StorePart D)) (limit p : ℕ) (v : LaneView) → needs_of s ≡ Part p → Suits s openings limit → OfYard openings limit p (Lane v) → CanActIn s v
  can_act_in s openings limit p v needs suits of = by p of.opening needs of.at of.fit
    where
      by : (q : ℕ) (opening : StorePart D) → needs_of s ≡ Part q → get_elem? openings q ≡ some opening → HasShare opening of.w q (Lane v) → CanActIn s v
      by (suc i) (Lane v0) asked at fit = record {
        first = of.w0;
        s = of.w;
        i = i;
        opening = v0;
        sound = of.told.sound_is;
        has = fit;
        fits = fits_first s openings limit of.first of.w0 suits of.told.opens i v0 at;
        needs = asked;
      }
      by (suc i) (Control c) asked at fit = absurd fit
      by zero opening asked at fit = absurd (none opening fit)
        where
          none : (o : StorePart D) → HasShare o of.w zero (Lane v) → ⊥
          none (Control c) h = h
          none (Lane u) h = h

  -- a lane's entry leads on, and so does a refusal
  pub lane_others : (w next : Situation) (i : ℕ) → ((c : ControlState) → HasControl w c → HasControl next c) → ((j : ℕ) (other now : LaneView) → j ≢ i → HasLane w j other now → HasLane next j other now)
      → (q : ℕ) (y0 y : StorePart D) → q ≢ suc i → HasShare y0 w q y → HasShare y0 next q y
  lane_others w next i control others zero (Control c0) (Control c) apart has = control c has
  lane_others w next i control others zero (Lane v0) y apart has = absurd has
  lane_others w next i control others zero (Control c0) (Lane v) apart has = absurd has
  lane_others w next i control others (suc j) (Lane v0) (Lane v) apart has = others j v0 v (λ e. apart (ap suc e)) has
  lane_others w next i control others (suc j) (Lane v0) (Control c) apart has = absurd has
  lane_others w next i control others (suc j) (Control c0) y apart has = absurd has

  apart_others : (w next : Situation) → ((c : ControlState) → HasControl w c → HasControl next c) → ((j : ℕ) (other now : LaneView) → HasLane w j other now → HasLane next j other now)
      → (q : ℕ) (y0 y : StorePart D) → HasShare y0 w q y → HasShare y0 next q y
  apart_others w next control each zero (Control c0) (Control c) has = control c has
  apart_others w next control each zero (Control c0) (Lane v) has = absurd has
  apart_others w next control each zero (Lane v0) y has = absurd has
  apart_others w next control each (suc j) (Lane v0) (Lane v) has = each j v0 v has
  apart_others w next control each (suc j) (Lane v0) (Control c) has = absurd has
  apart_others w next control each (suc j) (Control c0) y has = absurd has

  abbrev pub Leads : Situation → Situation → ℕ → StorePart D → StorePart D → Entry → Type 0
  Leads w0 w p opening new e = PartLeads {E = Entry} {P = StorePart D} (λ o s q x. HasShare o s q x) (λ a b. IsSound a b) entries_told (λ a n f b. LeadsTo a n f b) w0 w p opening new e

  abbrev pub Told : List (StorePart D) → ℕ → ℕ → Situation → Situation → Type 0
  Told openings first limit w0 w = IsTold {E = Entry} {P = StorePart D} (λ o s q x. HasShare o s q x) (λ a b. IsSound a b) entries_told (λ a n f b. LeadsTo a n f b) openings first limit w0 w

  pub lane_leads : (s : ActorScript D) (openings : List (StorePart D)) (first limit p : ℕ) (w0 w : Situation) (opening : StorePart D) (v new : LaneView) (e : Entry) → needs_of s ≡ Part p → Suits s openings limit
      → Told openings first limit w0 w → get_elem? openings p ≡ some opening → HasShare opening w p (Lane v)
      → ((i : ℕ) (v0 : LaneView) → IsSound w0 w → HasLane w i v0 v → FitsFirst w0 s → needs_of s ≡ Part (suc i) → LaneLeads w0 w i v0 new e) → Leads w0 w p opening (Lane new) e
  lane_leads s openings first limit (suc i) w0 w (Lane v0) v new e needs suits told at fit leads =
      let l = leads i v0 told.sound_is fit (fits_first s openings limit first w0 suits told.opens i v0 at) needs in
      record { next = l.next; leads = l.leads; sound_is = l.sound; counted = l.counted; part = l.lane; others = lane_others w l.next i l.control l.others }
  lane_leads s openings first limit (suc i) w0 w (Control c) v new e needs suits told at fit leads = absurd fit
  lane_leads s openings first limit zero w0 w (Control c) v new e needs suits told at fit leads = absurd fit
  lane_leads s openings first limit zero w0 w (Lane u) v new e needs suits told at fit leads = absurd fit

  pub control_leads : (w0 w : Situation) (p : ℕ) (opening : StorePart D) (c : ControlState) (e : Entry) → HasShare opening w p (Control c) → ApartLeads w0 w e → Leads w0 w p opening (Control c) e
  control_leads w0 w p opening c e fit l = record {
    next = l.next;
    leads = l.leads;
    sound_is = l.sound;
    counted = l.counted;
    part = apart_others w l.next l.control l.each p opening (Control c) fit;
    others = λ q y0 y apart has. apart_others w l.next l.control l.each q y0 y has;
  }

  pub same_suits : (old new : ActorScript D) (openings : List (StorePart D)) (limit : ℕ) → IsSameScript old new → Suits old openings limit → Suits new openings limit
  same_suits old new openings limit same suits = record {
    store = suits.store;
    parts_are = suits.parts_are;
    count = suits.count ∙ sym same.lanes;
    some = subst (λ (n : ℕ). 0 < n) (sym same.lanes) suits.some;
    lanes_are = subst (λ (n : ℕ). All (λ (v : LaneView). v.lanes ≡ n) suits.store.lanes) (sym same.lanes) suits.lanes_are;
    grain = suits.grain ∙ sym same.grain;
    few = suits.few;
    tray = subst (λ (t : _). (t.items ≡ []) × (new.lanes ≤ vec_capacity t)) (sym same.tray) (suits.tray.0, subst (λ (n : ℕ). n ≤ vec_capacity old.tray) (sym same.lanes) suits.tray.1);
    work = λ first w0 opens. same.work w0 (suits.work first w0 opens);
  }
