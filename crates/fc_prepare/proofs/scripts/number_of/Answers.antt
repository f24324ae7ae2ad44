-- A name that is found, and one that is another.
use Rattle.std.proofs.Common.{◌≡◌, ℕ, Bool, true, false, List, sym, ap, ◌∙◌, arith}
use Rattle.std.specs.Str.{bytes_eq}
use Rattle.fc_prepare.proofs.Numbers.{found_at, get_some, number_at, passed_at}
use Rattle.fc_prepare.proofs.scripts.number_of.Goals as goal

pub returns-then-eq : goal.returns-then-eq
returns-then-eq c =
    let t : List ℕ → Bool = λ known. bytes_eq known c.args.name.now in
    let names : List (List ℕ) = c.args.history.now.actors in
    let at = get_some names c.loop-number.number c.actor_name.result.now c.actor_name.ensures in
    let inside = at.0 in
    let says : bytes_eq c.actor_name.result.now c.args.name.now ≡ true =
    ap (λ b. bytes_eq b c.args.name.now) (sym c.as_bytes.ensures.value) ∙ ap (λ b. bytes_eq c.as_bytes.result.now b) (sym c.as_bytes-in-loop-number.ensures.value) ∙ sym c.eq.ensures ∙ c.if-eq.true in
    sym (number_at t names c.loop-number.number
    (sym c.loop-number.invariant.place ∙ found_at t names c.loop-number.number c.actor_name.result.now at.0 at.1 says) (omega (arith, inside)))

pub loop-number-preserved : goal.loop-number-preserved
loop-number-preserved c =
    let t : List ℕ → Bool = λ known. bytes_eq known c.args.name.now in
    let names : List (List ℕ) = c.args.history.now.actors in
    let at = get_some names c.loop-number.number c.actor_name.result.now c.actor_name.ensures in
    let denies : bytes_eq c.actor_name.result.now c.args.name.now ≡ false =
    ap (λ b. bytes_eq b c.args.name.now) (sym c.as_bytes.ensures.value) ∙ ap (λ b. bytes_eq c.as_bytes.result.now b) (sym c.as_bytes-in-loop-number.ensures.value) ∙ sym c.eq.ensures ∙ c.if-eq.false in
    record {
      place = sym (passed_at t names c.loop-number.number c.actor_name.result.now at.0 at.1 denies) ∙ c.loop-number.invariant.place;
      within = omega (arith, c.loop-number-test.true);
    }
