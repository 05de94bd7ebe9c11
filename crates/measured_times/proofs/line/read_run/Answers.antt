use Rattle.measured_times.proofs.FileLines.{run_text, run_untext}
use Rattle.measured_times.proofs.line.read_run.Goals as goal

pub returns-in-Ok : goal.returns-in-Ok
returns-in-Ok c = run_text c.args.events c.args.n c.args.line.now c.in-Ok.text.now c.run_in.result c.in-Ok.ensures.cases.1 c.in-Ok.ensures.cases.0 c.run_in.ensures

pub returns-in-Err : goal.returns-in-Err
returns-in-Err c = run_untext c.args.events c.args.n c.args.line.now c.in-Err.ensures.cases.0
