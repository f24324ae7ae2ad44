use Rattle.std.proofs.Common.{rules, ◌≡◌, ◌+◌, ◌<◌, ◌≤◌, ◌++◌, ◌∷◌, [], length, max, ap, sym, ◌∙◌, subst, refl, arith}
use denote.Param.Send.{sendable}
use Rattle.fc_yard.specs.Views.{split_from, split_off}
use Rattle.fc_yard.specs.Whole.{OpensWith}
use Rattle.fc_tasks.proofs.Passing.{of_pass}
use Rattle.std.proofs.Crossing.{Vec-send}
use Rattle.fc_yard.proofs.Crossing.{pass_send}
use Rattle.fc_tasks.specs.Acting.{AllAnswered, AllSuit, HasAnswered, all_made}
use Rattle.fc_tasks.proofs.Crossing.{act_send, answered_send}
use Rattle.fc_tasks.proofs.Joining.{as_many, free_joined, free_left, free_off, joined_answers, made_more, same_joined, suits_but, suits_last}
use Rattle.fc_tasks.proofs.beside.+act_all+fn-act_all-join+arg2.Goals as goal

pub join-first-requires-send-F : goal.join-first-requires-send-F
join-first-requires-send-F g t c κs within =
    act_send _ _ g.row.R g.row.W g.row.E g.row.P g.row.S g.row.G g.P.Part _ _ _
    c.requires.sync.0 c.requires.sync.1 c.requires.send.0 c.requires.send.1 c.requires.send.2

pub join-first-requires-send-A : goal.join-first-requires-send-A
join-first-requires-send-A g t c κs within =
    let send = c.requires.send in let e = send.0 in let p = send.1 in let s = send.2 in search (sendable, Vec-send, pass_send, answered_send) depth 12

pub join-first-requires-after_bounds : goal.join-first-requires-after_bounds
join-first-requires-after_bounds g t c κs within =
    let sync = c.requires.sync in let send = c.requires.send in let q0 = c.args.pass in let left = c.split-other.ensures.left in let off = c.split-other.ensures.other in
    let q = c.split-other.new.pass in let o = c.split-other.result in let opened = c.requires.opened in let items = c.pop.new.self.items in let script = c.in-Some.script in
    let all = subst (λ l. AllSuit g.S.Script.needed g.S.Script.suits g.S.Script.goes l q0.view.openings q0.view.limit) c.in-Some.ensures.items c.requires.suits in
    let e = send.0 in let p = send.1 in let s = send.2 in let r = sync.0 in let gate = sync.1 in
    let shares = ap (λ r. r.view.shares) left in let many = c.in-Some.ensures.len in let enough = c.requires.shares in let room = c.requires.room.1 in (
      (
        search rules,
        (
          (λ a m. m),
          (
            (λ a m. m),
            (
              (λ a m. m),
              (
                (λ a m. m),
                (
                  (λ a m. m),
                  (
                    (λ a m. m),
                    (
                      (
                        sync.0,
                        send.0,
                        send.1,
                        send.2,
                        sync.1,
                        free_left c.args.yard.now q0 q c.requires.free left,
                        (opened.0, of_pass (λ v. OpensWith g.P.Part.fits g.P.Part.sound g.P.Part.count g.P.Part.steps v.openings v.first opened.0) q0 q (split_from q0.view) left opened.1),
                        of_pass (λ v. AllSuit g.S.Script.needed g.S.Script.suits g.S.Script.goes items v.openings v.limit) q0 q (split_from q0.view) left
                            (suits_but g.S.Script.needed g.S.Script.suits g.S.Script.goes items script q0.view.openings q0.view.limit all),
                        of_pass (λ v. v.made ≡ []) q0 q (split_from q0.view) left c.requires.fresh,
                        omega (arith, shares, many, enough),
                        c.requires.room.0,
                        omega (arith, many, room),
                      ),
                      (send.0, send.1, send.2, sync.0, sync.1),
                    ),
                  ),
                ),
              ),
            ),
          ),
        ),
      ),
      (
        (
          free_off c.args.yard.now q0 o c.requires.free off,
          (opened.0, of_pass (λ v. OpensWith g.P.Part.fits g.P.Part.sound g.P.Part.count g.P.Part.steps v.openings v.first opened.0) q0 o (split_off q0.view) off opened.1),
          of_pass (λ v. g.S.Script.suits script v.openings v.limit) q0 o (split_off q0.view) off (suits_last g.S.Script.needed g.S.Script.suits g.S.Script.goes items script q0.view.openings q0.view.limit all),
          of_pass (λ v. v.made ≡ []) q0 o (split_off q0.view) off refl,
        ),
        (search sendable depth 8, search sendable depth 8, search sendable depth 8, search sendable depth 8, search sendable depth 8),
      ),
    )

pub both-requires-clause-free : goal.both-requires-clause-free
both-requires-clause-free g t c κs within = (c.join-first.ensures.first.0, c.join-first.ensures.second.0)

pub both-requires-clause-room : goal.both-requires-clause-room
both-requires-clause-room g t c κs within =
    let first = c.join-first.ensures.first in
    let many = as_many g.S.Script.needed g.S.Script.suits g.S.Script.goes c.split-other.new.pass.view.limit c.join-first.result.0.0.view.low c.pop.new.self.items c.join-first.result.0.1.items first.3 in
    omega (arith, many, first.4, c.requires.room.1, c.in-Some.ensures.len)

pub returns-clause-free : goal.returns-clause-free
returns-clause-free g t c = free_joined c.args.yard.now c.join-first.result.0.0 c.both.result.0 c.join-first.result.1.0 c.join-first.ensures.first.0 c.join-first.ensures.second.0 c.both.ensures.pass

pub returns-clause-same : goal.returns-clause-same
returns-clause-same g t c =
    same_joined c.args.pass c.split-other.new.pass c.split-other.result c.join-first.result.0.0 c.join-first.result.1.0 c.both.result.0 (omega (arith, c.requires.shares, c.in-Some.ensures.len))
    c.split-other.ensures.left c.split-other.ensures.other c.join-first.ensures.first.1 c.join-first.ensures.second.1 c.both.ensures.pass

pub returns-clause-made : goal.returns-clause-made
returns-clause-made g t c =
    let answers = c.join-first.result.0.1.items in let answered = c.join-first.result.1.1 in
    ap (λ r. r.view.made) c.both.ensures.pass ∙ (λ i. c.join-first.ensures.first.2 i ++ c.join-first.ensures.second.2 i) ∙ sym (made_more answers answered) ∙ ap (λ l. all_made l) (sym c.both.ensures.answers.0)

pub returns-clause-answered : goal.returns-clause-answered
returns-clause-answered g t c =
    let first = c.join-first.ensures.first in let second = c.join-first.ensures.second in let q0 = c.args.pass in let q = c.both.result.0 in
    let items = c.pop.new.self.items in let script = c.in-Some.script in let one = c.join-first.result.0.0 in let other = c.join-first.result.1.0 in
    let low = ap (λ r. r.view.low) c.both.ensures.pass in let left = ap (λ r. r.view.limit) c.split-other.ensures.left in let off = ap (λ r. r.view.limit) c.split-other.ensures.other in
    let all = joined_answers g.S.Script.needed g.S.Script.suits g.S.Script.goes q0.view.limit q.view.low one.view.low other.view.low items c.join-first.result.0.1.items script c.join-first.result.1.1
    (omega (arith, low)) (omega (arith, low))
    (subst (λ n. AllAnswered g.S.Script.needed g.S.Script.suits g.S.Script.goes n one.view.low items c.join-first.result.0.1.items) left first.3)
    (subst (λ n. HasAnswered g.S.Script.needed g.S.Script.suits g.S.Script.goes n other.view.low script c.join-first.result.1.1) off second.3) in
    subst (λ l. AllAnswered g.S.Script.needed g.S.Script.suits g.S.Script.goes q0.view.limit q.view.low l c.both.result.1.items) (sym c.in-Some.ensures.items)
    (subst (λ l. AllAnswered g.S.Script.needed g.S.Script.suits g.S.Script.goes q0.view.limit q.view.low (items ++ script ∷ []) l) (sym c.both.ensures.answers.0) all)

pub returns-clause-room : goal.returns-clause-room
returns-clause-room g t c = c.both.ensures.answers.1 ∙ c.join-first.ensures.first.4
