use Rattle.fc_check_requests.proofs.RequestLemmas.{none_back, put_back}
use Rattle.fc_check_requests.proofs.requests.take_first.Goals as goal

pub returns-in-Some-behind_first-clause-left : goal.returns-in-Some-behind_first-clause-left
returns-in-Some-behind_first-clause-left c =
    (put_back c.args.items.now.items c.pop_front.new.self.items c.push_front_reserved.new.self.items c.in-Some.item c.in-Some-behind_first.rest c.behind_first.result c.in-Some.ensures.items c.requires
    c.behind_first.ensures c.in-Some-behind_first.is c.push_front_reserved.ensures.items).0

pub returns-in-Some-behind_first-clause-some : goal.returns-in-Some-behind_first-clause-some
returns-in-Some-behind_first-clause-some c =
    (put_back c.args.items.now.items c.pop_front.new.self.items c.push_front_reserved.new.self.items c.in-Some.item c.in-Some-behind_first.rest c.behind_first.result c.in-Some.ensures.items c.requires
    c.behind_first.ensures c.in-Some-behind_first.is c.push_front_reserved.ensures.items).1

pub returns-in-None-clause-left : goal.returns-in-None-clause-left
returns-in-None-clause-left c =
    (none_back c.args.items.now.items c.pop_front.new.self.items c.in-Some.item c.behind_first.result c.in-Some.ensures.items c.requires c.behind_first.ensures c.in-None.is).0

pub returns-in-None-clause-some : goal.returns-in-None-clause-some
returns-in-None-clause-some c =
    (none_back c.args.items.now.items c.pop_front.new.self.items c.in-Some.item c.behind_first.result c.in-Some.ensures.items c.requires c.behind_first.ensures c.in-None.is).1
