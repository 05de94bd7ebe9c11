use Rattle.std.proofs.Common.{refl, sym, ◌∙◌}
use Rattle.right_report.specs.Right.ReportState.{tally_of}
use Rattle.job_whatif.proofs.Texts.{enough_of, none_in, none_judged, tally_step}
use Rattle.job_whatif.proofs.ending.tally_rows.Goals as goal

pub returns-then-is_empty : goal.returns-then-is_empty
returns-then-is_empty c = record {
  tally = c.new-tally.ensures.tally ∙ sym (none_judged (tally_of c.args.word) c.args.kinds.now c.args.answers.now (none_in c.args.answers.now c.if-is_empty.ensures));
}

pub loop-k-preserved : goal.loop-k-preserved
loop-k-preserved c =
    tally_step _ _ _ c.args.kinds.now c.args.answers.now c.loop-k.k c.index-kinds-k.result c.index-kinds-k.result _ _ _ _ c.both_of-both.result c.loop-k-test.true
    (enough_of c.args.kinds.now c.args.answers.now c.loop-k.k c.requires.count (sym c.is_empty.ensures ∙ c.if-is_empty.false) c.loop-k-test.true)
    c.index-kinds-k.is refl refl c.both_of-both.ensures.both c.with_row-tally.ensures.tally c.loop-k.invariant
