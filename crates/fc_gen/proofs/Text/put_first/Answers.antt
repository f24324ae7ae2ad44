use Rattle.std.proofs.Common.{◌≡◌, ◌++◌, List, ℕ, OnOk, sym, subst}
use Rattle.fc_gen.proofs.DrawLemmas.{first_lines}
use Rattle.fc_gen.proofs.Text.put_first.Goals as goal

pub returns : goal.returns
returns c =
    let Put : List ℕ → Type 0 = λ bytes. OnOk c.put_all.result (c.put_all.new.self.bytes.items ≡ c.args.self.now.bytes.items ++ bytes) in
    subst Put (sym first_lines) c.put_all.ensures
