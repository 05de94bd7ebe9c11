use Rattle.std.specs.Option.{option_copied}
use Rattle.sheet.proofs.SheetSteps.{grade-fault, grade-on}
use Rattle.sheet.proofs.read.read_sheet_at.Goals as goal

pub returns-in-Err : goal.returns-in-Err
returns-in-Err c = record { answer = grade-fault c.args.grades.now (option_copied c.args.grade) c.args.diagram.now c.in-Err.fault c.in-Err.ensures.grade }

pub returns : goal.returns
returns c = record { answer = rw (grade-on c.args.grades.now (option_copied c.args.grade) c.args.diagram.now (option_copied c.in-Ok.grade) c.in-Ok.ensures.grade) c.read_with.ensures }
