use Rattle.clause_texts.proofs.HeadingLaws.{no_view, view_read}
use Rattle.clause_texts.proofs.heading.read_view.Goals as goal

pub returns-in-Ok : goal.returns-in-Ok
returns-in-Ok c = record { exact = view_read c.args.text.now c.in-Ok.text.now c.view_in.result c.in-Ok.ensures.cases.0 c.view_in.ensures }

pub returns-in-Err : goal.returns-in-Err
returns-in-Err c = record { exact = no_view c.args.text.now c.in-Err.ensures.cases.0 }
