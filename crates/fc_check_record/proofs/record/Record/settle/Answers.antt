use Rattle.std.proofs.Common.{◌≡◌, IfOk, subst}
use Rattle.fc_base.specs.declared.decision.Decision.{Decision}
use Rattle.fc_books.specs.Books.{Books}
use Rattle.fc_books.specs.Deciding.{settle}
use Rattle.fc_check_record.proofs.Deciding.{seen_books}
use Rattle.fc_check_sheet.specs.View.{pools_of}
use Rattle.fc_check_record.proofs.record.Record.settle.Goals as goal

pub returns : goal.returns
returns c =
    let i = c.self.inside.kept in
    let books = seen_books i.control i.known i.rows (pools_of i.pools.items) i.rooms i.calls.items c.args.self.now c.view-view.result c.self.view_is c.view-view.ensures in
    subst (λ (b : Books). IfOk c.settle.result (λ (decision : Decision). decision ≡ settle b)) books c.settle.ensures
