use Rattle.std.proofs.Common.{◌∙◌}
use Rattle.job_brief.proofs.Folding.{rows_meet}
use Rattle.job_brief.proofs.runs.rows_go_on.Goals as goal

pub returns : goal.returns
returns c = record {
  test = c.goes_on.ensures.test ∙ rows_meet c.args.drawn.now c.args.found.now c.args.number c.args.next c.row_at.result.now c.row_at-2.result.now c.index-found-number.result c.index-found-next.result
      c.index-found-number.result c.index-found-next.result c.row_at.ensures.row c.row_at-2.ensures.row c.requires.row c.requires.next c.index-found-number.is c.index-found-next.is;
}
