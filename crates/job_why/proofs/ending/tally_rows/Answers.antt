use Rattle.std.proofs.Common.{◌<◌, length, arith}
use Rattle.right_report.proofs.RowTally.{tally_more}
use Rattle.explanations.specs.Answers.{both_of}
use Rattle.job_why.proofs.ending.tally_rows.Goals as goal

pub loop-number-preserved : goal.loop-number-preserved
loop-number-preserved c =
    let within : c.loop-number.number < length c.args.drawn.now.rows = grind arith in
    tally_more both_of _ _ _ c.args.drawn.now.rows c.args.found.now c.loop-number.number c.row_at-row.result.now c.index-found-number.result c.index-found-number.result
    c.both_of-both.result c.row_at-row.ensures.row (omega (arith, c.requires, within)) c.index-found-number.is c.both_of-both.ensures.both c.with_row-tally.ensures.tally
    c.loop-number.invariant
