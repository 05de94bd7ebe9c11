use Rattle.falling.proofs.Waking.{woken_of}
use Rattle.falling.proofs.agenda.Agenda.wake.Goals as goal

pub returns-clause-tried : goal.returns-clause-tried
returns-clause-tried c = λ net values value made lower tried.
    woken_of net c.args.self.now c.self.inside.followers c.self.inside.pending c.insert_all.new.pending c.of.result.now values c.args.event value c.self.view_is c.of.ensures.list made lower
    c.insert_all.ensures.kept c.insert_all.ensures.there tried
