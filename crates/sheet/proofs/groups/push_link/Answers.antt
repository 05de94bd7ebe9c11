use Rattle.sheet.proofs.GroupTable.{adds-linear, adds-row}
use Rattle.sheet.specs.Step.{link_view}
use Rattle.sheet.proofs.groups.push_link.Goals as goal

pub returns-in_ok-push_rule-in-Lin : goal.returns-in_ok-push_rule-in-Lin
returns-in_ok-push_rule-in-Lin c = record { adds = λ front links stands. adds-linear front links _ _ c.args.n (link_view c.args.link.now) stands _ c.in-Lin.is c.in_ok-push_rule-in-Lin.ensures }

pub returns-in-Req : goal.returns-in-Req
returns-in-Req c = record { adds = λ front links stands. adds-row front links _ _ c.args.n (link_view c.args.link.now) stands c.in-Req.is }
