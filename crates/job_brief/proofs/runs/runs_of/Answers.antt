use Rattle.std.proofs.Common.{◌<◌, ◌≤◌, ◌∙◌, length, arith}
use Rattle.job_brief.proofs.Folding.{fold_end, fold_more, runs_are}
use Rattle.job_brief.proofs.Ranking.{rank_within}
use Rattle.job_brief.proofs.runs.runs_of.Goals as goal

pub fold_in-requires-clause-row : goal.fold_in-requires-clause-row
fold_in-requires-clause-row c =
    let within : c.loop-at.at < length c.args.rows.now = grind arith in
    rank_within c.args.drawn.now c.args.found.now c.args.rows.now c.loop-at.at _ c.requires.rows within

pub loop-at-preserved : goal.loop-at-preserved
loop-at-preserved c =
    let within : c.loop-at.at < length c.args.rows.now = grind arith in
    record {
      left = fold_more c.args.drawn.now c.args.found.now _ _ c.args.rows.now c.loop-at.at _ within c.in_ok-fold_in.ensures.folded ∙ c.loop-at.invariant.left;
      within = c.in_ok-fold_in.ensures.within;
    }

pub returns : goal.returns
returns c =
    let all : length c.args.rows.now ≤ c.loop-at.at = grind arith in
    record {
      runs = fold_end c.args.drawn.now c.args.found.now c.loop-at.runs.items c.args.rows.now c.loop-at.at all ∙ (c.loop-at.invariant.left ∙ runs_are c.args.drawn.now c.args.found.now c.args.rows.now c.requires.rows);
    }
