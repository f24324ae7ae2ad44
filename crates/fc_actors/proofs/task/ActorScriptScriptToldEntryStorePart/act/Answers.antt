use Rattle.std.proofs.Common.{sym, subst}
use Rattle.fc_entry.specs.declared.entry.Entry.{Entry}
use Rattle.fc_shares.specs.Law.{ApartLeads}
use Rattle.fc_shares.proofs.Lawful.{share_law_holds}
use Rattle.fc_actors.specs.Shares.{HasShare}
use Rattle.fc_actors.proofs.Fitting.{OfYard, can_act_in, control_leads, lane_leads, same_suits}
use Rattle.fc_actors.proofs.task.ActorScriptScriptToldEntryStorePart.act.Goals as goal

pub act_in-requires-clause-can : goal.act_in-requires-clause-can
act_in-requires-clause-can g c =
    let can = c.requires.can in can_act_in c.args.self.now can.2 can.3 can.0 c.in-Lane.lane can.1 can.4 (subst (λ x. OfYard can.2 can.3 can.0 x) c.in-Lane.is can.5)

pub returns-in-Lane-clause-leads : goal.returns-in-Lane-clause-leads
returns-in-Lane-clause-leads g c = λ p openings first limit w0 w opening needs suits told at fit.
    lane_leads c.args.self.now openings first limit p w0 w opening c.in-Lane.lane c.act_in.new.lane c.act_in.result needs suits told at (subst (λ x. HasShare opening w p x) c.in-Lane.is fit)
    (λ i v0 sound has fits needs'. c.act_in.ensures.leads w0 w i v0 sound has fits needs')

pub returns-in-Lane-clause-suits : goal.returns-in-Lane-clause-suits
returns-in-Lane-clause-suits g c = λ openings limit suits. same_suits c.args.self.now c.act_in.new.self openings limit c.act_in.ensures.same suits

pub returns-in-Control-clause-leads : goal.returns-in-Control-clause-leads
returns-in-Control-clause-leads g c = λ p openings first limit w0 w opening needs suits told at fit.
    let law = share_law_holds in let refused = c.refuse.ensures.refused w0 (suits.work first w0 told.opens) in let sound = told.sound_is in
    subst (λ x. Rattle.fc_actors.proofs.Fitting.Leads w0 w p opening x c.refuse.result) (sym c.in-Control.is)
    (control_leads w0 w p opening c.in-Control.field-0 c.refuse.result (subst (λ x. HasShare opening w p x) c.in-Control.is fit)
    (subst (λ (e : Entry). ApartLeads w0 w e) (sym refused.3) (law.apart w0 w c.args.self.now.actor refused.0 refused.1 sound (law.refused w0 w refused.0 refused.1 sound refused.2))))

pub returns-in-Control-clause-suits : goal.returns-in-Control-clause-suits
returns-in-Control-clause-suits g c = λ openings limit suits. same_suits c.args.self.now c.refuse.new.self openings limit c.refuse.ensures.same suits
