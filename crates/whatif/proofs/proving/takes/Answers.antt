use Rattle.cert_checker.specs.Checking.{open_cases}
use Rattle.event_graph.specs.Lines.{lent_line}
use Rattle.whatif.proofs.ReadLines.{line_told}
use Rattle.whatif.proofs.proving.takes.Goals as goal

pub returns-clause-taken : goal.returns-clause-taken
returns-clause-taken c =
    line_told c.args.net.now c.args.checker.now.goal c.args.proof.now.lines c.args.k (lent_line c.line.result) (open_cases c.args.net.now c.args.checker.now)
    (open_cases c.args.net.now c.take.new.self) c.take.result c.is_ok.result c.is_ok.ensures.value c.line.ensures.line c.requires.reads c.take.ensures.fault c.take.ensures.taken
