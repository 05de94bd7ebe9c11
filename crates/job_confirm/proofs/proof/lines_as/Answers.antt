use Rattle.job_confirm.proofs.Parts.{proof_negated, proof_plain}
use Rattle.job_confirm.proofs.proof.lines_as.Goals as goal

pub returns-in-Plain-clause-read : goal.returns-in-Plain-clause-read
returns-in-Plain-clause-read c shown more proof forms other stands =
    c.lines_next.ensures.read shown more (proof_plain c.args.view c.args.net.now c.args.pair.from c.args.pair.to c.args.claim.value shown c.in-Plain.is proof) forms other stands

pub returns-in-Negated-clause-read : goal.returns-in-Negated-clause-read
returns-in-Negated-clause-read c shown more proof forms other stands =
    rw c.reversed.ensures.pair at c.lines_next-in-Negated.ensures.read shown more
    (proof_negated c.args.view c.args.net.now c.args.views.now.negation c.args.pair.from c.args.pair.to c.args.claim.value shown c.in-Negated.is c.requires.views.negation_is proof) forms other stands
