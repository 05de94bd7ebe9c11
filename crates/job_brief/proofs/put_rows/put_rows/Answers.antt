use Rattle.std.proofs.lemmas.Result.{err_from_is_err_and}
use Rattle.std.proofs.Common.{◌<◌, ◌∙◌, ap, length, subst, sym, arith}
use Rattle.itv_base.proofs.Written.{left_after, left_cut}
use Rattle.itv_base.specs.Outside.{CutShort, grown}
use Rattle.explanations.specs.Answers.{HasRowTimes}
use Rattle.job_brief.proofs.RowLines.{next_is}
use Rattle.job_brief.proofs.put_rows.put_rows.Goals as goal

pub row_at-row-requires : goal.row_at-row-requires
row_at-row-requires g c =
    let within : c.loop-at.at < length c.args.places.now = grind arith in
    record { number = (next_is c.args.csv (g.N.Notes.noted c.args.notes.now) c.args.drawn.now c.args.found.now c.args.places.now c.loop-at.at _ c.requires.places within).first_in_rows }

pub row_at-last-requires : goal.row_at-last-requires
row_at-last-requires g c =
    let within : c.loop-at.at < length c.args.places.now = grind arith in
    record { number = (next_is c.args.csv (g.N.Notes.noted c.args.notes.now) c.args.drawn.now c.args.found.now c.args.places.now c.loop-at.at _ c.requires.places within).last_in_rows }

pub bounds-found-number : goal.bounds-found-number
bounds-found-number g c =
    let within : c.loop-at.at < length c.args.places.now = grind arith in
    (next_is c.args.csv (g.N.Notes.noted c.args.notes.now) c.args.drawn.now c.args.found.now c.args.places.now c.loop-at.at _ c.requires.places within).in_found

pub line_of-line-requires-clause-times : goal.line_of-line-requires-clause-times
line_of-line-requires-clause-times g c =
    let within : c.loop-at.at < length c.args.places.now = grind arith in
    subst HasRowTimes (sym c.index-found-number.is) (c.requires.times _ _
    (next_is c.args.csv (g.N.Notes.noted c.args.notes.now) c.args.drawn.now c.args.found.now c.args.places.now c.loop-at.at _ c.requires.places within).in_found)

pub returns-in_err-put_line : goal.returns-in_err-put_line
returns-in_err-put_line g c =
    let p = err_from_is_err_and c.from_residual.result c.from_residual.ensures.1 in
    let within : c.loop-at.at < length c.args.places.now = grind arith in
    record {
      puts = rw p.1 (left_cut _ _ _ _ _ _ _ c.loop-at.invariant
          ((next_is c.args.csv (g.N.Notes.noted c.args.notes.now) c.args.drawn.now c.args.found.now c.args.places.now c.loop-at.at _ c.requires.places within).left c.row_at-row.result.now c.row_at-last.result.now
          c.index-found-number.result c.index-found-number.result c.row_at-row.ensures.row c.row_at-last.ensures.row c.index-found-number.is)
          (subst (CutShort _ _) c.line_of-line.ensures.text c.in_err-put_line.ensures.puts));
    }

pub loop-at-preserved : goal.loop-at-preserved
loop-at-preserved g c =
    let within : c.loop-at.at < length c.args.places.now = grind arith in
    left_after _ _ _ _ _ _ _ c.loop-at.invariant
    ((next_is c.args.csv (g.N.Notes.noted c.args.notes.now) c.args.drawn.now c.args.found.now c.args.places.now c.loop-at.at _ c.requires.places within).left c.row_at-row.result.now c.row_at-last.result.now
    c.index-found-number.result c.index-found-number.result c.row_at-row.ensures.row c.row_at-last.ensures.row c.index-found-number.is)
    (c.in_ok-put_line.ensures.puts ∙ ap (grown _) c.line_of-line.ensures.text)
