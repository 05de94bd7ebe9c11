use Rattle.std.proofs.Common.{◌∙◌}
use Rattle.job_brief.proofs.Ordering.{places_are}
use Rattle.job_brief.proofs.Ranking.{counts_are}
use Rattle.job_brief.proofs.Whole.{few_found}
use Rattle.job_brief.specs.Step.{numbered_rows}
use Rattle.job_brief.proofs.outline.outline_of.Goals as goal

pub ranks_of-requires-clause-count : goal.ranks_of-requires-clause-count
ranks_of-requires-clause-count c = few_found c.args.drawn.now c.requires.found.0 c.args.finding.now c.args.found.now c.requires.found.1

pub runs_of-requires-clause-count : goal.runs_of-requires-clause-count
runs_of-requires-clause-count c = few_found c.args.drawn.now c.requires.found.0 c.args.finding.now c.args.found.now c.requires.found.1

pub returns : goal.returns
returns c = record {
  outline = record {
    places = c.in_ok-places.ensures.places ∙ places_are c.args.drawn.now c.args.found.now _ (c.deref-2.ensures.value ∙ c.in_ok-runs.ensures.runs);
    counts = counts_are (numbered_rows c.args.drawn.now c.args.found.now) c.deref-3.result.now c.counts_of.result (c.deref-3.ensures.value ∙ c.in_ok-rows.ensures.ranks) c.counts_of.ensures.rows c.counts_of.ensures.pass c.counts_of.ensures.fail
        c.counts_of.ensures.undecided;
    ending = c.ending_of.ensures.word;
  };
}
