use Rattle.std.proofs.Common.{◌≡◌, ◌<◌, ap, length, map, arith, ◌∙◌}
use Rattle.job_brief.specs.Step.{place_by, place_of}
use Rattle.job_brief.proofs.Numbered.{all_told}
use Rattle.job_brief.proofs.Ranking.{place_is, ranks_more}
use Rattle.job_brief.proofs.ranks.ranks_of.Goals as goal

pub loop-number-preserved : goal.loop-number-preserved
loop-number-preserved c =
    let within : c.loop-number.number < length c.args.found.now = grind arith in
    ranks_more c.args.drawn.now c.args.found.now c.loop-number.number c.row_at-row.result.now c.index-found-number.result c.index-found-number.result c.place_of.result _ _
    c.row_at-row.ensures.row within c.index-found-number.is
    (c.place_of.ensures.place ∙ ap (place_by c.loop-number.number) c.judged_of-judged.ensures.judged ∙ place_is c.loop-number.number c.row_at-row.result.now c.index-found-number.result)
    c.loop-number.invariant c.in_ok-push.ensures.items

pub returns : goal.returns
returns c =
    let all : length c.args.found.now ≡ c.loop-number.number = grind arith in
    record { ranks = c.loop-number.invariant ∙ ap (map place_of) (all_told c.args.drawn.now.rows c.args.found.now c.loop-number.number c.requires.count all) }
