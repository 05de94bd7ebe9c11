use Rattle.std.proofs.lemmas.Result.{err_from_is_err_and}
use Rattle.job_brief.proofs.Whole.{lines_are}
use Rattle.line_words.proofs.Putting.{cut_one, cut_two, cut_three, put_four}
use Rattle.job_brief.proofs.write.put_lines.Goals as goal

pub returns-in_err-put : goal.returns-in_err-put
returns-in_err-put g c =
    let p = err_from_is_err_and c.from_residual.result c.from_residual.ensures.1 in
    record {
      puts = rw p.1 (cut_one _ _ _ _ _ (lines_are (g.N.Notes.noted c.args.notes.now) c.args.drawn.now c.args.found.now.finding c.args.found.now.rows.items _ c.args.outline.now.end c.consistency-finding.ensures.word c.requires.outline.ending)
          c.in_err-put.ensures.puts);
    }

pub returns-in_err-write_item : goal.returns-in_err-write_item
returns-in_err-write_item g c =
    let p = err_from_is_err_and c.from_residual-in_err-write_item.result c.from_residual-in_err-write_item.ensures.1 in
    record {
      puts = rw p.1 (cut_two _ _ _ _ _ _ _ (lines_are (g.N.Notes.noted c.args.notes.now) c.args.drawn.now c.args.found.now.finding c.args.found.now.rows.items _ c.args.outline.now.end c.consistency-finding.ensures.word c.requires.outline.ending)
          c.in_ok-put.ensures.puts c.in_err-write_item.ensures.puts);
    }

pub returns-in_err-put_counted : goal.returns-in_err-put_counted
returns-in_err-put_counted g c =
    let p = err_from_is_err_and c.from_residual-in_err-put_counted.result c.from_residual-in_err-put_counted.ensures.1 in
    record {
      puts = rw p.1 (cut_three _ _ _ _ _ _ _ _ _ (lines_are (g.N.Notes.noted c.args.notes.now) c.args.drawn.now c.args.found.now.finding c.args.found.now.rows.items _ c.args.outline.now.end c.consistency-finding.ensures.word c.requires.outline.ending)
          c.in_ok-put.ensures.puts c.in_ok-write_item.ensures.puts c.in_err-put_counted.ensures.puts);
    }

pub returns : goal.returns
returns g c = record {
  puts = put_four _ _ _ _ _ _ _ _ _ _ c.write_item-2.result (lines_are (g.N.Notes.noted c.args.notes.now) c.args.drawn.now c.args.found.now.finding c.args.found.now.rows.items _ c.args.outline.now.end c.consistency-finding.ensures.word c.requires.outline.ending)
      c.in_ok-put.ensures.puts c.in_ok-write_item.ensures.puts c.in_ok-put_counted.ensures.puts c.write_item-2.ensures.puts;
}
